-- Words of the frame in which numbers wait while statements run: kept from a0, and read again.
use Rattle.std.proofs.Common.{◌≡◌, ℕ, suc, ◌+◌, ◌-◌, ◌*◌, ◌^◌, ◌<◌, ◌≤◌, List, refl, sym, ◌∙◌, subst, arith}
use Rattle.rv_meaning.specs.declared.instr.Instr.{Instr}
use Rattle.rv_meaning.specs.declared.instr.Register.{Register}
use Rattle.pli_serving.specs.ServiceState.{Services}
use Rattle.pli_coding.specs.Registers.{frame_register, a0}
use Rattle.pli_coding.specs.Assembly.{size_of}
use Rattle.pli_coding.specs.Instructions.{load_word, store_word}
use Rattle.pli_coding.specs.Frames.{words_place}
use Rattle.pli_coding.specs.Environments.{Taken, with_words}
use Rattle.pli_coding.specs.Linking.{Links}
use Rattle.run_steps.specs.Engine.{Base}
use Rattle.run_steps.specs.Items.{Linked, At}
use Rattle.run_steps.specs.Bodies.{Ground, Known, Free, with'}
use Rattle.run_steps.proofs.Bodies.{load_piece, store_piece}
use Rattle.run_steps.specs.Temporaries.{Temporaries, Stays, put, nothing}
use Rattle.run_steps.proofs.Temporaries.{put_other, word_place}
use Rattle.pli_headline.proofs.Operators.{valued}
use Rattle.run_steps.specs.Reach.{Family, Reach}
use Rattle.run_steps.proofs.Reach.{reach_map}

-- the value in a0 is kept in the word at a place
pub kept_piece : {links : Links} {code : List Instr} {i : ℕ} {g : Ground} {v : Services} {h t : ℕ → ℕ} (temps : Temporaries g) (c : ℕ) (f : Family) (j x : ℕ) → j < g.words → x < 2 ^ 32 → Linked links code i (store_word frame_register a0 (words_place j 1)) → ((b : Base) → At b i (Known g v h t (valued x) b) (f b)) → Reach code c f v (c + size_of (store_word frame_register a0 (words_place j 1))) v (λ b w. At b (i + size_of (store_word frame_register a0 (words_place j 1))) (Known g v h (put t j x) nothing b) w)
kept_piece {i = i} {g = g} {v = v} {h = h} {t = t} temps c f j x room fits l at =
    let s = store_piece g (put t j x) c f a0 (words_place j 1) (g.frame - 4 * suc j) (λ b. x) (word_place g j room) (λ y u. refl) (λ b w o. o.regs.0) (λ b. refl) (λ b m len o. temps.kept t b m j x room len fits o) (record { reserved_stay = λ y u. refl; known_stay = λ b y u q. q; set = λ y u. refl }) l at in
    reach_map (λ b w. At b (i + size_of (store_word frame_register a0 (words_place j 1))) (Known g v h (put t j x) nothing b) w) s (λ b w o. record { pc = o.pc; holds = record { body = o.holds.body; regs = tt } })

-- the word at a place is read
pub read_piece : {links : Links} {code : List Instr} {i : ℕ} {g : Ground} {v : Services} {h t : ℕ → ℕ} {rs : Base → List (ℕ × ℕ)} (temps : Temporaries g) (c : ℕ) (f : Family) (r : Register) (j x : ℕ) → j < g.words → x < 2 ^ 32 → t j ≡ x → Free rs r.index → Free rs 31 → Linked links code i (load_word r frame_register (words_place j 1)) → ((b : Base) → At b i (Known g v h t rs b) (f b)) → Reach code c f v (c + size_of (load_word r frame_register (words_place j 1))) v (λ b w. At b (i + size_of (load_word r frame_register (words_place j 1))) (Known g v h t (with' r.index (λ b'. x) rs) b) w)
read_piece {g = g} {t = t} temps c f r j x room fits value free far l at =
    load_piece c f r (words_place j 1) (g.frame - 4 * suc j) (λ b. x) (word_place g j room) (λ b m o. temps.found t b m j room (subst (λ u. u < 2 ^ 32) (sym value) fits) o ∙ value) free far l at

-- what stays while more words are taken stays while fewer are
pub stays_fewer : {k : Taken} {h t h' t' : ℕ → ℕ} (n : ℕ) → Stays (with_words n k) h t h' t' → Stays k h t h' t'
stays_fewer n a =
    record { registers = a.registers; words = λ j e. a.words j (omega (arith, e)) }

-- a word behind those that are taken is of no account
pub stays_kept : (k : Taken) (h t : ℕ → ℕ) (j x : ℕ) → k.words ≤ j → Stays k h t h (put t j x)
stays_kept k h t j x above =
    record { registers = λ i e. refl; words = λ i e. put_other t j x i (omega (arith, e, above)) }
