-- How code gets at the frame that holds the variables: it is the running frame, or stands in the display of that.
use Rattle.std.proofs.Common.{◌≡◌, ℕ, ◌+◌, ◌*◌, ◌<◌, List, [], ◌++◌, length, Bool, true, false, refl}
use Rattle.std.proofs.Common.{ap, ◌∙◌, subst, arith}
use Rattle.std.specs.Prelude.{ℤ, cond}
use Rattle.rv_meaning.specs.declared.instr.Instr.{Instr}
use Rattle.rv_meaning.specs.declared.instr.Instr.TheVariants as I
use Rattle.rv_meaning.specs.declared.instr.LoadKind.{LoadKind}
use Rattle.rv_meaning.specs.declared.instr.StoreKind.{StoreKind}
use Rattle.rv_meaning.specs.Memory.{load, store}
use Rattle.rv_meaning.specs.Machine.{memory_size, load_width, extended, store_width}
use Rattle.pli_serving.specs.ServiceState.{Services}
use Rattle.pli_coding.specs.Registers.{frame_register, a0, u1, u3}
use Rattle.pli_coding.specs.Assembly.{size_of}
use Rattle.pli_coding.specs.Instructions.{displaced, load_word}
use Rattle.pli_coding.specs.Frames.{display}
use Rattle.pli_coding.specs.Linking.{Links}
use Rattle.image_runs.specs.Runs.{Whole}
use Rattle.run_steps.specs.Engine.{Base, address}
use Rattle.run_steps.proofs.Linking.{size_append}
use Rattle.run_steps.specs.Items.{Linked, At}
use Rattle.run_steps.proofs.Increments.{load_own}
use Rattle.run_steps.specs.Bodies.{Ground, Known, Free, PlaceFrom, with', reserved_are}
use Rattle.run_steps.proofs.Bodies.{frame_is, load_piece, narrow_load_from, narrow_store_into}
use Rattle.run_steps.proofs.Jumps.{front_of, back_of}
use Rattle.run_steps.specs.Temporaries.{nothing}
use Rattle.run_steps.specs.Reach.{Family, Reach, reached}
use Rattle.run_steps.proofs.Reach.{reach_then, reach_map, reached_holds}
use Rattle.run_steps.specs.Reaching.{Reaches, found_by, register_by}

-- ---- places of a reach

-- the same reach, where credits and place are said in other words
pub reach_moved : {code : List Instr} {f : Family} {v v' : Services} {c c' c'' i' i'' : ℕ} {Q : Base → Whole → Type 0}
    → c' ≡ c'' → i' ≡ i'' → Reach code c f v c' v' (λ b w. At b i' (Q b) w) →
    Reach code c f v c'' v' (λ b w. At b i'' (Q b) w)
reach_moved {code} {f} {v} {v'} {c} {c'} {c''} {i'} {i''} {Q} e e' r =
    subst (λ n. Reach code c f v n v' (λ b w. At b i'' (Q b) w)) e
    (reach_map (λ b w. At b i'' (Q b) w) r (λ b w o. record { pc = o.pc ∙ ap (address b) e'; holds = o.holds }))

-- what stands for a variable comes into a0
pub read_based : (q : Bool)
    (level : ℕ) {links : Links} {code : List Instr} {i : ℕ} {g : Ground} {v : Services} {h t : ℕ → ℕ} (c : ℕ)
    (f : Family) (base : ℕ) (kind : LoadKind) (z : ℤ) (o : ℕ) (x : Base → ℕ) → Reaches q level g base →
    base < memory_size → PlaceFrom base z o →
    ((b : Base) (m : List ℕ) → g.memory t b m → extended kind (load (load_width kind) m o) ≡ x b) →
    Linked links code i (found_by q level ++ displaced (λ s d. I.Load kind a0 s d) (register_by q) z) →
    ((b : Base) → At b i (Known g v h t nothing b) (f b)) →
    Reach code c f v (c + size_of (found_by q level ++ displaced (λ s d. I.Load kind a0 s d) (register_by q) z)) v
    (λ b w. At b (i + size_of (found_by q level ++ displaced (λ s d. I.Load kind a0 s d) (register_by q) z))
    (Known g v h t (with' 10 x nothing) b) w)
read_based true level {g = g} c f base kind z o x reaches within place reads l at =
    narrow_load_from c f a0 frame_register kind z base o x place within (λ y u. refl)
    (λ b w k. frame_is k.body ∙ ap (λ u. b.at + u) reaches) reads
    (record { reserved_stay = λ y u. refl; known_stay = λ b y u k. k; set = λ y u. refl })
    (record { reserved_stay = λ y u. refl; known_stay = λ b y u k. k; set = λ y u. refl })
    l at
read_based false level {i = i} {g = g} {v = v} {h = h} {t = t} c f base kind z o x reaches within place reads l at =
    let word' = load_word u3 frame_register (display level) in
    let first = word' ++ [] in
    let second = displaced (λ s d. I.Load kind a0 s d) u3 z in
    let size = size_append first second in
    let size' = size_append word' [] in
    let r1 = reach_moved {c'' = c + size_of first} {i'' = i + size_of first} (omega (arith, size'))
    (omega (arith, size')) (load_piece c f u3 (display level) (g.frame + (144 + 4 * level))
    (λ b. b.at + base) reaches.0 (λ b m k. reaches.1 t b m k)
    (record { reserved_stay = λ y u. refl; known_stay = λ b y u k. k; set = λ y u. refl })
    (record { reserved_stay = λ y u. refl; known_stay = λ b y u k. k; set = λ y u. refl })
    (front_of word' [] (front_of first second l)) at) in
    let r2 = narrow_load_from (c + size_of first) (reached r1) a0 u3 kind z base o x place within (λ y u. refl)
    (λ b w k. k.regs.0) reads
    (record { reserved_stay = λ y u. refl; known_stay = λ b y u k. (k.0, tt); set = λ y u. refl })
    (record { reserved_stay = λ y u. refl; known_stay = λ b y u k. (k.0, tt); set = λ y u. refl })
    (back_of first second l) (reached_holds r1) in
    reach_moved (omega (arith, size)) (omega (arith, size))
    (reach_map (λ b w. At b (i + size_of first + size_of second) (Known g v h t (with' 10 x nothing) b) w)
    (reach_then r1 r2) (λ b w k.
    record { pc = k.pc; holds = record { body = k.holds.body; regs = (k.holds.regs.0, tt) } }))

-- or into u1, by way of that, while other registers are known
pub brought_based : (q : Bool) (level : ℕ) {links : Links} {code : List Instr} {i : ℕ} {g : Ground} {v :
    Services} {h t : ℕ → ℕ} {rs : Base → List (ℕ × ℕ)} (c : ℕ) (f : Family) (base : ℕ) (kind : LoadKind) (z : ℤ) (o :
    ℕ) (x : Base → ℕ) → Reaches q level g base → base < memory_size → PlaceFrom base z o
    → ((b : Base) (m : List ℕ) → g.memory t b m → extended kind (load (load_width kind) m o) ≡ x b) → Free rs 6
    → Free rs 31
    → Linked links code i (cond q [] (load_word u1 frame_register (display level))
    ++ displaced (λ s d. I.Load kind u1 s d) (cond q frame_register u1) z)
    → ((b : Base) → At b i (Known g v h t rs b) (f b))
    → Reach code c f v
    (c + size_of (cond q [] (load_word u1 frame_register (display level))
    ++ displaced (λ s d. I.Load kind u1 s d) (cond q frame_register u1) z)) v
    (λ b w. At b (i + size_of (cond q [] (load_word u1 frame_register (display level))
    ++ displaced (λ s d. I.Load kind u1 s d) (cond q frame_register u1) z)) (Known g v h t (with' 6 x rs) b) w)
brought_based true level {g = g} c f base kind z o x reaches within place reads free far l at =
    narrow_load_from c f u1 frame_register kind z base o x place within (λ y u. refl) (λ b w k. frame_is k.body
    ∙ ap (λ u. b.at + u) reaches) reads free far l at
brought_based false level {i = i} {g = g} {v = v} {h = h} {t = t} {rs = rs} c f base kind z o x reaches within place
    reads free far l at =
    let first = load_word u1 frame_register (display level) in
    let second = displaced (λ s d. I.Load kind u1 s d) u1 z in
    let size = size_append first second in
    let r1 = load_piece c f u1 (display level) (g.frame + (144 + 4 * level)) (λ b. b.at + base) reaches.0
    (λ b m k. reaches.1 t b m k) free far (front_of first second l) at in
    let r2 = load_own (c + size_of first) (reached r1) u1 kind z base o x place within (λ y u. refl) reads free
    (record {
      reserved_stay = far.reserved_stay;
      known_stay = λ b y u k. (k.0, far.known_stay b y u k.1);
      set =
          far.set;
    })
    (back_of first second l) (reached_holds r1) in
    reach_moved (omega (arith, size)) (omega (arith, size)) (reach_then r1 r2)

-- what is in a0 goes to a variable's place
pub write_based : (q : Bool) (level : ℕ) {links : Links} {code : List Instr} {i : ℕ} {g : Ground} (g' : Ground) {v :
    Services} {h t : ℕ → ℕ} (c : ℕ) (f : Family) (base : ℕ) (kind : StoreKind) (z : ℤ) (o x : ℕ)
    → Reaches q level g base → base < memory_size → PlaceFrom base z o
    → ((b : Base) → reserved_are b g h ≡ reserved_are b g' h)
    → ((b : Base) (m : List ℕ) → length m ≡ memory_size → g.memory t b m
    → g'.memory t b (store (store_width kind) m o x))
    → Linked links code i (found_by q level ++ displaced (λ s d. I.Store kind s a0 d) (register_by q) z)
    → ((b : Base) → At b i (Known g v h t (with' 10 (λ b'. x) nothing) b) (f b))
    → Reach code c f v (c + size_of (found_by q level ++ displaced (λ s d. I.Store kind s a0 d) (register_by q) z)) v
    (λ b w. At b (i + size_of (found_by q level ++ displaced (λ s d. I.Store kind s a0 d) (register_by q) z))
    (Known g' v h t nothing b) w)
write_based true level {i = i} {g = g} g' {v = v} {h = h} {t = t} c f base kind z o x reaches within place same writes
    l at =
    let r = narrow_store_into g' t c f a0 frame_register kind z base o (λ b. x) place within (λ y u. refl)
    (λ b w k. frame_is k.body ∙ ap (λ u. b.at + u) reaches) (λ y u. refl) (λ b w k. k.regs.0) same writes
    (record { reserved_stay = λ y u. refl; known_stay = λ b y u k. (k.0, tt); set = λ y u. refl })
    l at in
    reach_map (λ b w. At b (i + size_of (displaced (λ s d. I.Store kind s a0 d) frame_register z))
    (Known g' v h t nothing b) w) r (λ b w k. record {
      pc = k.pc;
      holds =
          record { body = k.holds.body; regs = tt };
    })
write_based false level {i = i} {g = g} g' {v = v} {h = h} {t = t} c f base kind z o x reaches within place same
    writes l at =
    let word' = load_word u3 frame_register (display level) in
    let first = word' ++ [] in
    let last = displaced (λ s d. I.Store kind s a0 d) u3 z in
    let size = size_append first last in
    let size0 = size_append word' [] in
    let r0 = reach_moved {c'' = c + size_of first} {i'' = i + size_of first} (omega (arith, size0))
    (omega (arith, size0)) (load_piece c f u3 (display level) (g.frame + (144 + 4 * level))
    (λ b. b.at + base) reaches.0 (λ b m k. reaches.1 t b m k)
    (record { reserved_stay = λ y u. refl; known_stay = λ b y u k. (k.0, tt); set = λ y u. refl })
    (record { reserved_stay = λ y u. refl; known_stay = λ b y u k. (k.0, tt); set = λ y u. refl })
    (front_of word' [] (front_of first last l)) at) in
    let r1 = narrow_store_into g' t (c + size_of first) (reached r0) a0 u3 kind z base o (λ b. x) place within
    (λ y u. refl) (λ b w k. k.regs.0) (λ y u. refl) (λ b w k. k.regs.1.0) same writes
    (record { reserved_stay = λ y u. refl; known_stay = λ b y u k. (k.0, (k.1.0, tt)); set = λ y u. refl })
    (back_of first last l) (reached_holds r0) in
    reach_moved (omega (arith, size)) (omega (arith, size))
    (reach_map (λ b w. At b (i + size_of first + size_of last) (Known g' v h t nothing b) w) (reach_then r0 r1)
    (λ b w k. record { pc = k.pc; holds = record { body = k.holds.body; regs = tt } }))
