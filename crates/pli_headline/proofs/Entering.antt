-- The main procedure is entered: behind its frame a block is entered, and at the end of its prologue an act is made.
use Rattle.std.proofs.Common.{◌≡◌, ℕ, ◌+◌, ◌^◌, ◌<◌, List, [], ◌∷◌, ◌++◌, refl, ap, ◌∙◌, subst, arith, lit<}
use Rattle.std.specs.Prelude.{pos}
use Rattle.rv_meaning.specs.declared.instr.Instr.{Instr}
use Rattle.rv_meaning.specs.declared.instr.Instr.TheVariants as I
use Rattle.rv_meaning.specs.Words.{word, sum}
use Rattle.rv_meaning.specs.Tables.{TableSignature}
use Rattle.pli_serving.specs.ServiceState.{first_services}
use Rattle.pli_serving.specs.Answers.{Done}
use Rattle.pli_serving.specs.Blocks as K
use Rattle.pli_coding.specs.Registers.{frame_register, a0, a1, a2, a3, a7, u5}
use Rattle.pli_coding.specs.Assembly.{Plain, Code, size_of}
use Rattle.pli_coding.specs.Instructions.{move, small, number, load_word}
use Rattle.pli_coding.specs.Frames.{own_offset}
use Rattle.pli_coding.specs.Entries.{block_entered}
use Rattle.pli_coding.specs.Linking.{Links}
use Rattle.image_runs.specs.Runs.{Whole}
use Rattle.pli_headline.proofs.Scalars.{Declared}
use Rattle.run_steps.specs.Engine.{Base, address, call_at}
use Rattle.run_steps.proofs.Linking.{size_append}
use Rattle.run_steps.specs.Items.{Linked, At}
use Rattle.run_steps.proofs.Items.{straight}
use Rattle.run_steps.specs.Bodies.{Known}
use Rattle.run_steps.proofs.Bodies.{at_place, zero_is, frame_is, constant_piece}
use Rattle.run_steps.proofs.Jumps.{front_of, back_of}
use Rattle.run_steps.specs.Temporaries.{nothing}
use Rattle.run_steps.specs.Calls.{Calling}
use Rattle.run_steps.proofs.Calls.{called, call_done}
use Rattle.pli_headline.proofs.Raising.{small_is}
use Rattle.pli_headline.proofs.Acts.{word_is, word_fits}
use Rattle.run_steps.specs.Reach.{Family, Reach, reached}
use Rattle.run_steps.proofs.Reach.{reach_then, reach_map, reached_holds}
use Rattle.pli_headline.proofs.Holdings.{Content}
use Rattle.pli_headline.proofs.MainGround.{Frame, ground_of}
use Rattle.pli_headline.proofs.FirstFrame.{no_texts}
use Rattle.pli_headline.proofs.MainStates.{main_services}
use Rattle.pli_headline.proofs.NamesMade.{own_word}

-- ---- the code

abbrev entry_front : Code
entry_front =
    move u5 a1 ∷ move a3 a2 ∷ (load_word a1 frame_register own_offset ++ small a0 0 ∷ [])

-- the list of arguments and their texts, none here, and the block
abbrev pub entry_code : (line : ℕ) → Code
entry_code line = move u5 a1 ∷ move a3 a2 ∷ block_entered 0 line

-- ---- what service 4 answers at the start of the run

enter_answer : (code : List Instr) (table : List TableSignature) (kind : ℕ → Declared) (input m : List ℕ) (at line : ℕ) → K.enter_served (call_at code (first_services table input) m) 0 at line 0 ≡ Done (main_services table kind input at line 0) m 0 at
enter_answer code table kind input m at line = refl

moved_zero : (x : ℕ) → x ≡ 0 → sum x (word (pos 0)) ≡ 0
moved_zero x e = omega (arith, e)

-- ---- the block is entered

abbrev entry_regs : (at : ℕ) → Base → List (ℕ × ℕ)
entry_regs at b = (10, 0) ∷ (11, at) ∷ (13, 0) ∷ []

pub entered_piece : {links : Links} {code : List Instr} {i : ℕ} {h t : ℕ → ℕ} (c : ℕ) (f : Frame) (first : List ℕ) (numbers : ℕ → Content) (table : List TableSignature) (kind : ℕ → Declared) (input : List ℕ) (line : ℕ) (g : Family) → line < 2 ^ 31 → Linked links code i (entry_code line) → ((b : Base) → At b i (Known (ground_of f first numbers) (first_services table input) h t no_texts b) (g b)) → Reach code c g (first_services table input) (c + size_of (entry_code line)) (main_services table kind input f.at line 0) (λ b w. At b (i + size_of (entry_code line)) (Known (ground_of f first numbers) (main_services table kind input f.at line 0) h t nothing b) w)
entered_piece {code = code} {i = i} {h = h} {t = t} c f first numbers table kind input line g fits l at =
    let ground = ground_of f first numbers in
    let v = first_services table input in
    let v' = main_services table kind input f.at line 0 in
    let n = number a2 line in
    let last = small a7 4 ∷ Plain I.Ecall ∷ [] in
    let l1 = back_of entry_front (n ++ last) l in
    let l2 = back_of n last l1 in
    let total = size_append n last in
    let r1 = straight c g v v (λ b w. Known ground v h t (entry_regs f.at) b w) (front_of entry_front (n ++ last) l) (omega arith) (λ b. (at b).pc)
    (λ b. let o = (at b).holds in (
      at_place b (own_word f first numbers) (sum ((g b).machine.registers 8) (word (pos 36))) (ap (λ u. sum u (word (pos 36))) (frame_is o.body)),
      record {
        body = record { services = o.body.services; registers = o.body.registers; bytes = o.body.bytes; memory = o.body.memory };
        regs = (small_is _ 0 (zero_is o.body) (lit< tt), (o.body.memory.own, (moved_zero _ o.regs.0, tt)));
      },
    )) in
    let r2 = constant_piece (c + 4) (reached r1) a2 (pos line) (word_fits line fits) (record { reserved_stay = λ y u. refl; known_stay = λ b y u q. q; set = λ y u. refl }) (front_of n last l1) (reached_holds r1) in
    let r3 = straight (c + 4 + size_of n) (reached r2) v v (λ b w. Known ground v h t (λ b'. (17, 4) ∷ (12, line) ∷ entry_regs f.at b') b w) (front_of (small a7 4 ∷ []) (Plain I.Ecall ∷ []) l2) (omega arith) (λ b. (reached_holds r2 b).pc)
    (λ b. let o = (reached_holds r2 b).holds in record {
      body = record { services = o.body.services; registers = o.body.registers; bytes = o.body.bytes; memory = o.body.memory };
      regs = (small_is _ 4 (zero_is o.body) (lit< tt), (o.regs.0 ∙ word_is line fits, o.regs.1));
    }) in
    let calling : Calling _ code (i + 4 + size_of n + 1) (reached r3) (λ b. Done v' (reached r3 b).machine.memory 0 f.at) = record {
      linked = back_of (small a7 4 ∷ []) (Plain I.Ecall ∷ []) l2;
      pc = λ b. (reached_holds r3 b).pc;
      answers = λ b.
          let o = (reached_holds r3 b).holds in
          called code (reached r3 b) v 4 0 f.at line 0 _ (λ call x0 x1 x2 x3 x4. K.enter_served call x0 x1 x2 x3) o.body.services o.regs.0 o.regs.1.1.0 o.regs.1.1.1.0 o.regs.1.0 o.regs.1.1.1.1.0 refl (λ call x. refl)
          ∙ enter_answer code table kind input (reached r3 b).machine.memory f.at line;
    } in
    let r4 = call_done (c + 4 + size_of n + 1) (reached r3) v v' (λ b. (reached r3 b).machine.memory) (λ b. 0) (λ b. f.at) (λ b. Known ground v' h t nothing b) (omega arith) calling
    (λ b. let o = (reached_holds r3 b).holds.body in record { body = record { services = refl; registers = o.registers; bytes = o.bytes; memory = o.memory }; regs = tt }) in
    let e : c + 4 + size_of n + 1 + 1 ≡ c + size_of (entry_code line) = omega (arith, total) in
    let e' : i + 4 + size_of n + 1 + 1 ≡ i + size_of (entry_code line) = omega (arith, total) in
    let P : Base → Whole → Type 0 = λ b w. At b (i + size_of (entry_code line)) (Known ground v' h t nothing b) w in
    let moved = reach_map P (reach_then r1 (reach_then r2 (reach_then r3 r4))) (λ b w o. record { pc = o.pc ∙ ap (address b) e'; holds = o.holds }) in
    subst (λ n'. Reach code c g v n' v' P) e moved
