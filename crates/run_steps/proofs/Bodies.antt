-- What holds of a machine between two pieces of code, and single pieces: constants, loads, stores and sums with a
-- displacement of any size. What stands in memory is a parameter, so that pieces of expressions know nothing of it
-- but their temporaries.
use Rattle.std.proofs.Common.{◌≡◌, ℕ, suc, ◌+◌, ◌*◌, ◌^◌, ◌<◌, ◌≤◌, List, [], ◌∷◌, length, Bool, true, false, refl, sym}
use Rattle.std.proofs.Common.{ap, ◌∙◌, subst, arith}
use Rattle.std.specs.Prelude.{ℤ, cond}
use Rattle.rv_meaning.specs.declared.instr.Instr.{Instr}
use Rattle.rv_meaning.specs.declared.instr.Instr.TheVariants as I
use Rattle.rv_meaning.specs.declared.instr.ImmediateOp.TheVariants as Imm
use Rattle.rv_meaning.specs.declared.instr.LoadKind.{LoadKind}
use Rattle.rv_meaning.specs.declared.instr.LoadKind.TheVariants as Load
use Rattle.rv_meaning.specs.declared.instr.StoreKind.{StoreKind}
use Rattle.rv_meaning.specs.declared.instr.StoreKind.TheVariants as Store
use Rattle.rv_meaning.specs.declared.instr.Register.{Register}
use Rattle.rv_meaning.specs.Words.{word, sum}
use Rattle.rv_meaning.specs.Memory.{load, store}
use Rattle.rv_meaning.specs.Machine.{memory_size, load_width, extended, store_width, written}
use Rattle.rv_meaning.proofs.MemoryLaws.{length-store}
use Rattle.pli_serving.specs.ServiceState.{Services}
use Rattle.pli_coding.specs.Registers.{zero_register, frame_register, far_register}
use Rattle.pli_coding.specs.Assembly.{Plain, size_of}
use Rattle.pli_coding.specs.Instructions.{constant, displaced, plus, load_word, store_word, is_immediate}
use Rattle.pli_coding.specs.Linking.{Links, upper_part, lower_part}
use Rattle.image_runs.specs.Runs.{Whole}
use Rattle.run_steps.specs.Engine.{Base, address, WordAt}
use Rattle.run_steps.specs.Items.{Linked, At}
use Rattle.run_steps.proofs.Items.{straight, parts_sum}
use Rattle.run_steps.proofs.Numbers.{far_sum}
use Rattle.run_steps.specs.Reach.{Family, Reach}
use Rattle.run_steps.specs.Bodies.{Ground, reserved_are, Body, nth, Known, Free, with', IsNear, far_code, Displaced}
use Rattle.run_steps.specs.Bodies.{PlaceFrom, PlaceOf}

pub zero_is : {g : Ground} {b : Base} {v : Services} {h t : ℕ → ℕ} {w : Whole} → Body g b v h t w →
    w.machine.registers 0 ≡ 0
zero_is o = ap (nth 0) o.registers

pub frame_is : {g : Ground} {b : Base} {v : Services} {h t : ℕ → ℕ} {w : Whole} → Body g b v h t w →
    w.machine.registers 8 ≡ b.at + g.frame
frame_is o = ap (nth 2) o.registers

set_body : {g : Ground} {b : Base} {v : Services} {h t : ℕ → ℕ} {rs : Base → List (ℕ × ℕ)} (w : Whole) (r u i : ℕ) →
    Free rs r → Body g b v h t w →
    Body g b v h t (record {
      machine
          = record { registers = written w.machine.registers r u; memory = w.machine.memory; pc = i };
      services = w.services;
    })
set_body w r u i free o =
    record {
      services = o.services;
      registers = free.reserved_stay w.machine.registers u ∙ o.registers;
      bytes = o.bytes;
      memory = o.memory;
    }

pub set_known : {g : Ground} {v : Services} {h t : ℕ → ℕ} {rs : Base → List (ℕ × ℕ)} {b : Base} (w : Whole)
    (r u i : ℕ) (x : Base → ℕ) → Free rs r → u ≡ x b → Known g v h t rs b w →
    Known g v h t (with' r x rs) b
    (record {
      machine = record { registers = written w.machine.registers r u; memory = w.machine.memory; pc = i };
      services = w.services;
    })
set_known {b = b} w r u i x free e k =
    record {
      body = set_body w r u i free k.body;
      regs = (free.set w.machine.registers u ∙ e, free.known_stay b w.machine.registers u k.regs);
    }

-- the same with a lost value in the register for far places
pub lose_known : {g : Ground} {v : Services} {h t : ℕ → ℕ} {rs : Base → List (ℕ × ℕ)} {b : Base} (w : Whole)
    (r u i : ℕ) → Free rs r → Known g v h t rs b w →
    Known g v h t rs b (record {
      machine = record { registers = written w.machine.registers r u; memory = w.machine.memory; pc = i };
      services = w.services;
    })
lose_known {b = b} w r u i free k =
    record { body = set_body w r u i free k.body; regs = free.known_stay b w.machine.registers u k.regs }

-- ---- constants

added_zero : (z n : ℕ) → z ≡ 0 → n < 2 ^ 32 → sum z n ≡ n
added_zero z n e h = omega (arith, e, h)

constant_by : (q : Bool) {links : Links} {code : List Instr} {i : ℕ} {g : Ground} {v : Services} {h t : ℕ → ℕ}
    {rs : Base → List (ℕ × ℕ)} (c : ℕ) (f : Family) (r : Register) (z : ℤ) → word z < 2 ^ 32 → Free rs r.index →
    Linked links code i (cond q (Plain (I.Immediate Imm.Add r zero_register z) ∷ [])
    (Plain (I.LoadUpper r (upper_part (word z))) ∷ Plain (I.Immediate Imm.Add r r (lower_part (word z))) ∷ [])) →
    ((b : Base) → At b i (Known g v h t rs b) (f b)) →
    Reach code c f v (c + size_of
    (cond q (Plain (I.Immediate Imm.Add r zero_register z) ∷ [])
    (Plain (I.LoadUpper r (upper_part (word z))) ∷ Plain (I.Immediate Imm.Add r r (lower_part (word z))) ∷ []))) v
    (λ b w. At b (i + size_of
    (cond q (Plain (I.Immediate Imm.Add r zero_register z) ∷ [])
    (Plain (I.LoadUpper r (upper_part (word z))) ∷ Plain (I.Immediate Imm.Add r r (lower_part (word z))) ∷ [])))
    (Known g v h t (with' r.index (λ b'. word z) rs) b) w)
constant_by true {g = g} {v = v} {h = h} {t = t} {rs = rs} c f r z small' free l at =
    straight c f v v (λ b. Known g v h t (with' r.index (λ b'. word z) rs) b) l (omega arith) (λ b. (at b).pc)
    (λ b. set_known (f b) r.index (sum ((f b).machine.registers 0) (word z)) _ (λ b'. word z) free
    (added_zero _ (word z) (zero_is (at b).holds.body) small') (at b).holds)
constant_by false {i = i} {g = g} {v = v} {h = h} {t = t} {rs = rs} c f r z small' free l at =
    straight c f v v (λ b. Known g v h t (with' r.index (λ b'. word z) rs) b) l (omega arith) (λ b. (at b).pc)
    (λ b.
    let x = (f b).machine.registers in
    let up = upper_part (word z) * 2 ^ 12 in
    set_known _ r.index (sum (written x r.index up r.index) (word (lower_part (word z)))) _ (λ b'. word z) free
    (ap (λ u. sum u (word (lower_part (word z)))) (free.set x up) ∙ parts_sum (word z) small')
    (lose_known (f b) r.index up (address b (suc i)) free (at b).holds))

pub constant_piece : {links : Links} {code : List Instr} {i : ℕ} {g : Ground} {v : Services} {h t : ℕ → ℕ}
    {rs : Base → List (ℕ × ℕ)} (c : ℕ) (f : Family) (r : Register) (z : ℤ) → word z < 2 ^ 32 → Free rs r.index →
    Linked links code i (constant r z) → ((b : Base) → At b i (Known g v h t rs b) (f b)) →
    Reach code c f v (c + size_of (constant r z)) v
    (λ b w. At b (i + size_of (constant r z)) (Known g v h t (with' r.index (λ b'. word z) rs) b) w)
constant_piece c f r z = constant_by (is_immediate z) c f r z

pub displaced_by : (q : Bool) {links : Links} {code : List Instr} {i : ℕ} {v v' : Services} (c : ℕ) (f : Family)
    (instruction : Register → ℤ → Instr) (r : Register) (z : ℤ) (y : Base → ℕ) (P Q : Base → Whole → Type 0) →
    word z < 2 ^ 32 → ((b : Base) → y b < 2 ^ 32) → IsNear r.index →
    ((b : Base) → (f b).machine.registers r.index ≡ y b) → v.world.acts ≤ v'.world.acts →
    Displaced links code instruction P Q y z → Linked links code i (far_code instruction r z q) →
    ((b : Base) → At b i (P b) (f b)) →
    Reach code c f v (c + size_of (far_code instruction r z q)) v'
    (λ b w. At b (i + size_of (far_code instruction r z q)) (Q b) w)
displaced_by true c f instruction r z y P Q small' fits near base more d l at =
    straight c f _ _ Q l more (λ b. (at b).pc)
    (λ b. d.does b _ (f b) r z (at b).holds (ap (λ u. sum u (word z)) (base b)))
displaced_by false {i = i} c f instruction r z y P Q small' fits near base more d l at =
    straight c f _ _ Q l more (λ b. (at b).pc)
    (λ b.
    let x = (f b).machine.registers in
    let up = upper_part (word z) * 2 ^ 12 in
    let p = d.lost b (f b) up (address b (suc i)) (at b).holds in
    let s = sum up (written x 31 up r.index) in
    let p' = d.lost b _ s (address b (suc (i + 1))) p in
    let e : s ≡ sum up (y b) = ap (sum up) (near x up ∙ base b) in
    d.does b _ _ far_register (lower_part (word z)) p'
    (ap (λ u. sum u (word (lower_part (word z)))) e ∙ far_sum (word z) (y b) small' (fits b)))

-- ---- loads

inside_memory : (b : Base) (n : ℕ) → n < memory_size → b.at + n < 2 ^ 32
inside_memory b n h = let v = b.valid.1 in omega (arith, v, h)

abbrev pub at_place : (b : Base) {base : ℕ} {z : ℤ} {o : ℕ} → PlaceFrom base z o → (addressed : ℕ) →
    addressed ≡ sum (b.at + base) (word z) → WordAt b addressed
at_place b {o = o} p addressed e = record { offset = o; is = e ∙ p.sums b; aligned = p.aligned; inside = p.inside }

-- what stands at a place comes into a register, from a place that another register gives
pub narrow_load_from : {links : Links} {code : List Instr} {i : ℕ} {g : Ground} {v : Services} {h t : ℕ → ℕ}
    {rs : Base → List (ℕ × ℕ)} (c : ℕ) (f : Family) (r y : Register) (kind : LoadKind) (z : ℤ) (base o : ℕ)
    (x : Base → ℕ) → PlaceFrom base z o → base < memory_size → IsNear y.index →
    ((b : Base) (w : Whole) → Known g v h t rs b w → w.machine.registers y.index ≡ b.at + base) →
    ((b : Base) (m : List ℕ) → g.memory t b m → extended kind (load (load_width kind) m o) ≡ x b) → Free rs r.index →
    Free rs 31 → Linked links code i (displaced (λ s d. I.Load kind r s d) y z) →
    ((b : Base) → At b i (Known g v h t rs b) (f b)) →
    Reach code c f v (c + size_of (displaced (λ s d. I.Load kind r s d) y z)) v
    (λ b w. At b (i + size_of (displaced (λ s d. I.Load kind r s d) y z)) (Known g v h t (with' r.index x rs) b) w)
narrow_load_from {g = g} {v = v} {h = h} {t = t} {rs = rs} c f r y kind z base o x place within near based reads free
    far l at =
    displaced_by (is_immediate z) c f (λ s d. I.Load kind r s d) y z (λ b. b.at + base) (Known g v h t rs)
    (Known g v h t (with' r.index x rs)) place.small' (λ b. inside_memory b base within) near
    (λ b. based b (f b) (at b).holds) (omega arith)
    (record {
      does = λ b j w s d k e. (
        at_place b place _ e,
        set_known w r.index (extended kind (load (load_width kind) w.machine.memory o)) _ x free
            (reads b w.machine.memory k.body.memory) k,
      );
      lost = λ b w u i k. lose_known w 31 u i far k;
    })
    l at

-- a word of memory comes into a register, from a place that another register gives
pub load_from : {links : Links} {code : List Instr} {i : ℕ} {g : Ground} {v : Services} {h t : ℕ → ℕ}
    {rs : Base → List (ℕ × ℕ)} (c : ℕ) (f : Family) (r y : Register) (z : ℤ) (base o : ℕ) (x : Base → ℕ) →
    PlaceFrom base z o → base < memory_size → IsNear y.index →
    ((b : Base) (w : Whole) → Known g v h t rs b w → w.machine.registers y.index ≡ b.at + base) →
    ((b : Base) (m : List ℕ) → g.memory t b m → load 4 m o ≡ x b) → Free rs r.index → Free rs 31 →
    Linked links code i (load_word r y z) → ((b : Base) → At b i (Known g v h t rs b) (f b)) →
    Reach code c f v (c + size_of (load_word r y z)) v
    (λ b w. At b (i + size_of (load_word r y z)) (Known g v h t (with' r.index x rs) b) w)
load_from c f r y z base o x place within near based reads free far l at = narrow_load_from c f r y Load.Word z base o
    x place within near based reads free far l at

-- from the frame
pub load_piece : {links : Links} {code : List Instr} {i : ℕ} {g : Ground} {v : Services} {h t : ℕ → ℕ}
    {rs : Base → List (ℕ × ℕ)} (c : ℕ) (f : Family) (r : Register) (z : ℤ) (o : ℕ) (x : Base → ℕ) → PlaceOf g z o →
    ((b : Base) (m : List ℕ) → g.memory t b m → load 4 m o ≡ x b) → Free rs r.index → Free rs 31 →
    Linked links code i (load_word r frame_register z) → ((b : Base) → At b i (Known g v h t rs b) (f b)) →
    Reach code c f v (c + size_of (load_word r frame_register z)) v
    (λ b w. At b (i + size_of (load_word r frame_register z)) (Known g v h t (with' r.index x rs) b) w)
load_piece {g = g} c f r z o x place reads free far l at =
    load_from c f r frame_register z g.frame o x place (let i = g.inside in omega (arith, i)) (λ y u. refl)
    (λ b w k. frame_is k.body) reads free far l at

-- ---- stores

pub stored_body : {g : Ground} (g' : Ground) {b : Base} {v : Services} {h t : ℕ → ℕ} (t' : ℕ → ℕ) (kind : StoreKind)
    (w : Whole) (o u i : ℕ) → reserved_are b g h ≡ reserved_are b g' h →
    g'.memory t' b (store (store_width kind) w.machine.memory o u) → Body g b v h t w →
    Body g' b v h t' (record {
      machine
          = record { registers = w.machine.registers; memory = store (store_width kind) w.machine.memory o u; pc = i };
      services = w.services;
    })
stored_body g' t' kind w o u i same m k =
    record {
      services = k.services;
      registers = k.registers ∙ same;
      bytes = length-store (store_width kind) w.machine.memory o u ∙ k.bytes;
      memory = m;
    }

-- a register goes to a place, which another register gives
pub narrow_store_into : {links : Links} {code : List Instr} {i : ℕ} {g : Ground}
    (g' : Ground) {v : Services} {h t : ℕ → ℕ} (t' : ℕ → ℕ) {rs : Base → List (ℕ × ℕ)} (c : ℕ) (f : Family)
    (r y : Register) (kind : StoreKind) (z : ℤ) (base o : ℕ) (x : Base → ℕ) → PlaceFrom base z o →
    base < memory_size → IsNear y.index →
    ((b : Base) (w : Whole) → Known g v h t rs b w → w.machine.registers y.index ≡ b.at + base) → IsNear r.index →
    ((b : Base) (w : Whole) → Known g v h t rs b w → w.machine.registers r.index ≡ x b) →
    ((b : Base) → reserved_are b g h ≡ reserved_are b g' h) →
    ((b : Base) (m : List ℕ) → length m ≡ memory_size → g.memory t b m →
    g'.memory t' b (store (store_width kind) m o (x b))) → Free rs 31 →
    Linked links code i (displaced (λ s d. I.Store kind s r d) y z) →
    ((b : Base) → At b i (Known g v h t rs b) (f b)) →
    Reach code c f v (c + size_of (displaced (λ s d. I.Store kind s r d) y z)) v
    (λ b w. At b (i + size_of (displaced (λ s d. I.Store kind s r d) y z)) (Known g' v h t' rs b) w)
narrow_store_into {g = g} g' {v = v} {h = h} {t = t} t' {rs = rs} c f r y kind z base o x place within near' based
    near value same writes far l at =
    displaced_by (is_immediate z) c f (λ s d. I.Store kind s r d) y z (λ b. b.at + base) (Known g v h t rs)
    (Known g' v h t' rs) place.small' (λ b. inside_memory b base within) near' (λ b. based b (f b) (at b).holds)
    (omega arith)
    (record {
      does = λ b j w s d k e. (
        at_place b place _ e,
        let small' = l.small' in let above = place.above_code in omega (arith, small', above),
        record {
          body = stored_body g' t' kind w o (w.machine.registers r.index) _ (same b)
              (subst (λ u. g'.memory t' b (store (store_width kind) w.machine.memory o u)) (sym (value b w k))
              (writes b w.machine.memory k.body.bytes k.body.memory)) k.body;
          regs = k.regs;
        },
      );
      lost = λ b w u i k. lose_known w 31 u i far k;
    })
    l at

-- a register goes into a word of memory, at a place that another register gives
pub store_into : {links : Links} {code : List Instr} {i : ℕ} {g : Ground} (g' : Ground) {v : Services} {h t : ℕ → ℕ}
    (t' : ℕ → ℕ) {rs : Base → List (ℕ × ℕ)} (c : ℕ) (f : Family) (r y : Register) (z : ℤ) (base o : ℕ)
    (x : Base → ℕ) → PlaceFrom base z o → base < memory_size → IsNear y.index →
    ((b : Base) (w : Whole) → Known g v h t rs b w → w.machine.registers y.index ≡ b.at + base) → IsNear r.index →
    ((b : Base) (w : Whole) → Known g v h t rs b w → w.machine.registers r.index ≡ x b) →
    ((b : Base) → reserved_are b g h ≡ reserved_are b g' h) →
    ((b : Base) (m : List ℕ) → length m ≡ memory_size → g.memory t b m → g'.memory t' b (store 4 m o (x b))) →
    Free rs 31 → Linked links code i (store_word y r z) → ((b : Base) → At b i (Known g v h t rs b) (f b)) →
    Reach code c f v (c + size_of (store_word y r z)) v
    (λ b w. At b (i + size_of (store_word y r z)) (Known g' v h t' rs b) w)
store_into g' t' c f r y z base o x place within near' based near value same writes far l at = narrow_store_into g' t'
    c f r y Store.Word z base o x place within near' based near value same writes far l at

-- at a place from the frame
pub store_piece : {links : Links} {code : List Instr} {i : ℕ} {g : Ground} (g' : Ground) {v : Services} {h t : ℕ → ℕ}
    (t' : ℕ → ℕ) {rs : Base → List (ℕ × ℕ)} (c : ℕ) (f : Family) (r : Register) (z : ℤ) (o : ℕ) (x : Base → ℕ) →
    PlaceOf g z o → IsNear r.index →
    ((b : Base) (w : Whole) → Known g v h t rs b w → w.machine.registers r.index ≡ x b) →
    ((b : Base) → reserved_are b g h ≡ reserved_are b g' h) →
    ((b : Base) (m : List ℕ) → length m ≡ memory_size → g.memory t b m → g'.memory t' b (store 4 m o (x b))) →
    Free rs 31 → Linked links code i (store_word frame_register r z) →
    ((b : Base) → At b i (Known g v h t rs b) (f b)) →
    Reach code c f v (c + size_of (store_word frame_register r z)) v
    (λ b w. At b (i + size_of (store_word frame_register r z)) (Known g' v h t' rs b) w)
store_piece {g = g} g' t' c f r z o x place near value same writes far l at =
    store_into g' t' c f r frame_register z g.frame o x place (let i = g.inside in omega (arith, i)) (λ y u. refl)
    (λ b w k. frame_is k.body) near value same writes far l at

-- ---- sums

-- a register's value and a constant
pub plus_piece : {links : Links} {code : List Instr} {i : ℕ} {g : Ground} {v : Services} {h t : ℕ → ℕ}
    {rs : Base → List (ℕ × ℕ)} (c : ℕ) (f : Family) (r s : Register) (z : ℤ) (y x : Base → ℕ) → word z < 2 ^ 32 →
    ((b : Base) → y b < 2 ^ 32) → IsNear s.index →
    ((b : Base) (w : Whole) → Known g v h t rs b w → w.machine.registers s.index ≡ y b) →
    ((b : Base) → sum (y b) (word z) ≡ x b) → Free rs r.index → Free rs 31 → Linked links code i (plus r s z) →
    ((b : Base) → At b i (Known g v h t rs b) (f b)) →
    Reach code c f v (c + size_of (plus r s z)) v
    (λ b w. At b (i + size_of (plus r s z)) (Known g v h t (with' r.index x rs) b) w)
plus_piece {links = links} {code = code} {g = g} {v = v} {h = h} {t = t} {rs = rs} c f r s z y x small' fits near
    value sums free far l at =
    displaced_by (is_immediate z) c f (λ q d. I.Immediate Imm.Add r q d) s z y (Known g v h t rs)
    (Known g v h t (with' r.index x rs)) small' fits near (λ b. value b (f b) (at b).holds) (omega arith)
    (record {
      does = λ b j w q d k e. set_known w r.index (sum (w.machine.registers q.index) (word d)) _ x free (e ∙ sums b) k;
      lost = λ b w u i k. lose_known w 31 u i far k;
    })
    l at
