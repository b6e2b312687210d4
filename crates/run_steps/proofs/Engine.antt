-- Runs of straight code: which conditions let a list of instructions run, and that it then does.
use Rattle.std.proofs.Common.{◌≡◌, ℕ, zero, suc, ◌+◌, ◌-◌, ◌*◌, ◌/◌, ◌%◌, ◌^◌, ◌<◌, ◌≤◌, List, [], ◌∷◌, ◌++◌, length}
use Rattle.std.proofs.Common.{Some, None, true, false, refl, sym, ap, ◌∙◌, subst, arith, zero-add, suc-add}
use Rattle.std.specs.Prelude.{ℤ, slice_get, nat_le, nat_lt, ◌==◌, cond, Ok}
use Rattle.std.proofs.lemmas.Bool.Decides.{nat_tests}
use Rattle.std.proofs.lemmas.Bool.{eq-eqb, le-leb, le-ltb}
use Rattle.std.proofs.Math.Nat.{mod-eq_of_lt}
use Rattle.rv_meaning.specs.declared.instr.Fault.TheVariants.{Misaligned, Range}
use Rattle.rv_meaning.specs.declared.instr.Register.{Register}
use Rattle.rv_meaning.specs.declared.instr.BranchTest.{BranchTest}
use Rattle.rv_meaning.specs.declared.instr.LoadKind.{LoadKind}
use Rattle.rv_meaning.specs.declared.instr.LoadKind.TheVariants as L
use Rattle.rv_meaning.specs.declared.instr.StoreKind.{StoreKind}
use Rattle.rv_meaning.specs.declared.instr.StoreKind.TheVariants as S
use Rattle.rv_meaning.specs.declared.instr.Fault.{Fault}
use Rattle.rv_meaning.specs.declared.instr.Instr.{Instr}
use Rattle.rv_meaning.specs.declared.instr.Instr.TheVariants as I
use Rattle.rv_meaning.specs.Words.{word, sum, operated, immediate_operated, shift_operated, holds_of}
use Rattle.rv_meaning.specs.Memory.{load, store}
use Rattle.rv_meaning.specs.Machine.{Loaded, State, Effect, Goes, Faults, memory_size, effect, of_fetched, fetched}
use Rattle.rv_meaning.specs.Machine.{executed, written, place_of, load_width, extended, store_width, with_value}
use Rattle.rv_meaning.specs.Machine.{stored, loaded, branched}
use Rattle.image_runs.specs.Runs.{Whole, Run, Runs, Ended, Stopped, answered}
use Rattle.run_steps.specs.Unlimited.{next, of_effect, run_on}
use Rattle.run_steps.specs.Engine.{Base, at_base, HasAt, address, most_code, served, with_register, with_memory}
use Rattle.run_steps.specs.Engine.{with_answer, WordAt, Steps, Path, Ran, Passed}

pub has_front : (code : List Instr) (i : ℕ) (xs ys : List Instr) → HasAt code i (xs ++ ys) → HasAt code i xs
has_front code i [] ys h = tt
has_front code i (x ∷ xs) ys h = (h.0, has_front code (suc i) xs ys h.1)

pub has_back : (code : List Instr) (i : ℕ) (xs ys : List Instr) → HasAt code i (xs ++ ys) →
    HasAt code (i + length xs) ys
has_back code i [] ys h = let e : i ≡ i + 0 = omega arith in subst (λ n. HasAt code n ys) e h
has_back code i (x ∷ xs) ys h =
    let e : suc i + length xs ≡ i + suc (length xs) = omega arith in
    subst (λ n. HasAt code n ys) e (has_back code (suc i) xs ys h.1)

has_shifted : (x : Instr) (code : List Instr) (i : ℕ) (xs : List Instr) → HasAt code i xs → HasAt (x ∷ code) (suc i) xs
has_shifted x code i [] h = tt
has_shifted x code i (y ∷ ys) h = (h.0, has_shifted x code (suc i) ys h.1)

-- code stands in itself from its start
pub has_all : (code : List Instr) → HasAt code 0 code
has_all [] = tt
has_all (x ∷ xs) = (refl, has_shifted x xs 0 xs (has_all xs))

-- ---- runs one behind the other

pub run_on-ended : (n : ℕ) (p : Loaded) (w : Whole) → run_on n p (Ended w) ≡ Ended w
unfolding run_on
run_on-ended zero p w = refl
run_on-ended (suc n) p w = refl

pub run_on-stopped : (n : ℕ) (p : Loaded) (fault : Fault) → run_on n p (Stopped fault) ≡ Stopped fault
unfolding run_on
run_on-stopped zero p fault = refl
run_on-stopped (suc n) p fault = refl

pub run_on-add : (m n : ℕ) (p : Loaded) (r : Run) → run_on (m + n) p r ≡ run_on n p (run_on m p r)
unfolding run_on
run_on-add zero n p r = ap (λ k. run_on k p r) (zero-add n)
run_on-add (suc m) n p (Runs w) = ap (λ k. run_on k p (Runs w)) (suc-add m n) ∙ run_on-add m n p (next p w)
run_on-add (suc m) n p (Ended w) = ap (λ k. run_on k p (Ended w)) (suc-add m n) ∙ sym (run_on-ended n p w)
run_on-add (suc m) n p (Stopped fault) = ap (λ k. run_on k p (Stopped fault)) (suc-add m n) ∙ sym
    (run_on-stopped n p fault)

-- ---- one instruction

aligned : (b : ℕ) (i : ℕ) → b % 4096 ≡ 0 → (b + 4 * i) % 4 ≡ 0
aligned b i h = omega arith

fetched_at : (code : List Instr) (b : Base) (i : ℕ) → fetched (at_base code b) (address b i) ≡ slice_get code i
fetched_at code b i =
    let t : nat_le b.at (address b i) ≡ true = grind (arith, nat_tests) in
    let q : (address b i - b.at) / 4 ≡ i = omega arith in
    ap (λ u. cond u (slice_get code ((address b i - b.at) / 4)) None) t ∙ ap (slice_get code) q

-- what stands at an index is what is executed there
pub effect_at : (code : List Instr) (b : Base) (i : ℕ) (x : Instr) (s : State) → s.pc ≡ address b i →
    slice_get code i ≡ Some x → effect (at_base code b) s ≡ executed (at_base code b) s x
effect_at code b i x s here has =
    let p = at_base code b in
    let e : s.pc % 4 ≡ 0 = ap (λ u. u % 4) here ∙ aligned b.at i b.valid.0 in
    let t : (s.pc % 4 == 0) ≡ true = eq-eqb (s.pc % 4) 0 e in
    let f : fetched p s.pc ≡ Some x = ap (fetched p) here ∙ fetched_at code b i ∙ has in
    ap (λ u. cond u (of_fetched p s (fetched p s.pc)) (Faults Misaligned)) t ∙ ap (of_fetched p s) f

-- the address of the next instruction
pub next_address : (b : Base) (i pc : ℕ) → i < most_code → pc ≡ address b i → sum pc 4 ≡ address b (suc i)
next_address b i pc h e =
    let v = b.valid.1 in
    let k : b.at + 4 * i + 4 < 2 ^ 32 = omega (arith, v) in
    let m : (b.at + 4 * i + 4) % 2 ^ 32 ≡ b.at + 4 * i + 4 = mod-eq_of_lt k in
    ap (λ u. sum u 4) e ∙ m ∙ omega arith

place_at : (code : List Instr) (b : Base) (n addressed : ℕ) (a : WordAt b addressed) → addressed % n ≡ 0 → n ≤ 4 →
    place_of (at_base code b) n addressed ≡ Ok a.offset
place_at code b n addressed a whole few =
    let is = a.is in
    let t : (addressed % n == 0) ≡ true = eq-eqb (addressed % n) 0 whole in
    let t' : nat_le b.at addressed ≡ true = grind (arith, nat_tests) in
    let t'' : nat_le (addressed + n) (b.at + memory_size) ≡ true = le-leb (addressed + n) (b.at + memory_size)
    (omega (arith, is, few, a.inside)) in
    let o : addressed - b.at ≡ a.offset = omega (arith, is) in
    rw (t, t', t'') (ap Ok o)

whole_at : (b : Base) (addressed : ℕ) → WordAt b addressed → addressed % 4 ≡ 0
whole_at b addressed a = let is = a.is in omega (arith, is, a.aligned, b.valid.0)

-- what is narrower than a word is read and written where a word could stand
load_at : (kind : LoadKind) (code : List Instr) (b : Base) (addressed : ℕ) (a : WordAt b addressed) →
    place_of (at_base code b) (load_width kind) addressed ≡ Ok a.offset
load_at L.Byte code b addressed a = place_at code b 1 addressed a (omega arith) (omega arith)
load_at L.Half code b addressed a =
    let whole = whole_at b addressed a in
    place_at code b 2 addressed a (omega (arith, whole)) (omega arith)
load_at L.Word code b addressed a = place_at code b 4 addressed a (whole_at b addressed a) (omega arith)
load_at L.ByteUnsigned code b addressed a = place_at code b 1 addressed a (omega arith) (omega arith)
load_at L.HalfUnsigned code b addressed a =
    let whole = whole_at b addressed a in
    place_at code b 2 addressed a (omega (arith, whole)) (omega arith)

store_at : (kind : StoreKind) (code : List Instr) (b : Base) (addressed : ℕ) (a : WordAt b addressed) →
    place_of (at_base code b) (store_width kind) addressed ≡ Ok a.offset
store_at S.Byte code b addressed a = place_at code b 1 addressed a (omega arith) (omega arith)
store_at S.Half code b addressed a =
    let whole = whole_at b addressed a in
    place_at code b 2 addressed a (omega (arith, whole)) (omega arith)
store_at S.Word code b addressed a = place_at code b 4 addressed a (whole_at b addressed a) (omega arith)

ran_register : (b : Base) (i : ℕ) (w : Whole) (r : Register) (v : ℕ) (p : Loaded) → i < most_code →
    w.machine.pc ≡ address b i → of_effect p w (with_value w.machine r v) ≡ Runs (with_register b i w r.index v)
ran_register b i w r v p h here =
    ap (λ n. Runs (record {
      machine
          = record { registers = written w.machine.registers r.index v; memory = w.machine.memory; pc = n };
      services = w.services;
    })) (next_address b i w.machine.pc h here)

step_ran : (code : List Instr) (b : Base) (i : ℕ) (x : Instr) (w : Whole) (Q : Whole → Type 0) → i < most_code →
    w.machine.pc ≡ address b i → slice_get code i ≡ Some x → Steps code b i x w Q → Ran code b i w Q
unfolding served
step_ran code b i (I.LoadUpper rd upper) w Q h here has s =
    let p = at_base code b in
    record {
      after = with_register b i w rd.index (upper * 2 ^ 12);
      ran = ap (of_effect p w) (effect_at code b i (I.LoadUpper rd upper) w.machine here has) ∙ ran_register b i w rd
          (upper * 2 ^ 12) p h here;
      here = refl;
      holds = s;
    }
step_ran code b i (I.AddUpperToPc rd upper) w Q h here has s =
    let p = at_base code b in
    let e = ap (λ n. of_effect p w (with_value w.machine rd (sum n (upper * 2 ^ 12)))) here in
    record {
      after = with_register b i w rd.index (sum (address b i) (upper * 2 ^ 12));
      ran = ap (of_effect p w) (effect_at code b i (I.AddUpperToPc rd upper) w.machine here has) ∙ e ∙ ran_register b
          i w rd (sum (address b i) (upper * 2 ^ 12)) p h here;
      here = refl;
      holds = s;
    }
step_ran code b i (I.Immediate op rd rs1 z) w Q h here has s =
    let p = at_base code b in
    let v = immediate_operated op (w.machine.registers rs1.index) (word z) in
    record {
      after = with_register b i w rd.index v;
      ran = ap (of_effect p w) (effect_at code b i (I.Immediate op rd rs1 z) w.machine here has) ∙ ran_register b i w
          rd v p h here;
      here = refl;
      holds = s;
    }
step_ran code b i (I.Shift op rd rs1 amount) w Q h here has s =
    let p = at_base code b in
    let v = shift_operated op (w.machine.registers rs1.index) amount in
    record {
      after = with_register b i w rd.index v;
      ran = ap (of_effect p w) (effect_at code b i (I.Shift op rd rs1 amount) w.machine here has) ∙ ran_register b i w
          rd v p h here;
      here = refl;
      holds = s;
    }
step_ran code b i (I.Registers op rd rs1 rs2) w Q h here has s =
    let p = at_base code b in
    let v = operated op (w.machine.registers rs1.index) (w.machine.registers rs2.index) in
    record {
      after = with_register b i w rd.index v;
      ran = ap (of_effect p w) (effect_at code b i (I.Registers op rd rs1 rs2) w.machine here has) ∙ ran_register b i
          w rd v p h here;
      here = refl;
      holds = s;
    }
step_ran code b i (I.Load kind rd rs1 offset) w Q h here has s =
    let p = at_base code b in
    let a = s.0 in
    let v = extended kind (load (load_width kind) w.machine.memory a.offset) in
    let e = ap (λ r. of_effect p w (loaded w.machine kind rd r))
    (load_at kind code b (sum (w.machine.registers rs1.index) (word offset)) a) in
    record {
      after = with_register b i w rd.index v;
      ran = ap (of_effect p w) (effect_at code b i (I.Load kind rd rs1 offset) w.machine here has) ∙ e ∙ ran_register
          b i w rd v p h here;
      here = refl;
      holds = s.1;
    }
step_ran code b i (I.Store kind rs1 rs2 offset) w Q h here has s =
    let p = at_base code b in
    let a = s.0 in
    let v = w.machine.registers rs2.index in
    let e = ap (λ r. of_effect p w (stored p w.machine kind v r))
    (store_at kind code b (sum (w.machine.registers rs1.index) (word offset)) a) in
    let t : nat_lt a.offset (4 * length code) ≡ false = le-ltb a.offset (4 * length code) s.1 in
    let m = store (store_width kind) w.machine.memory a.offset v in
    let f = ap (λ u. of_effect p w
    (cond u (Faults Range) (Goes
    (record { registers = w.machine.registers; memory = m; pc = sum w.machine.pc 4 })))) t in
    let g = ap (λ n. Runs (record
    { machine = record { registers = w.machine.registers; memory = m; pc = n }; services = w.services }))
    (next_address b i w.machine.pc h here) in
    record {
      after = with_memory b i w m;
      ran = ap (of_effect p w) (effect_at code b i (I.Store kind rs1 rs2 offset) w.machine here has) ∙ e ∙ f ∙ g;
      here = refl;
      holds = s.2;
    }
step_ran code b i I.Ecall w Q h here has s =
    let p = at_base code b in
    let e = ap (answered w.machine) s.4 in
    let g = ap (λ n. Runs (record {
      machine = record { registers = written (written w.machine.registers 10 s.2) 11 s.3; memory = s.1; pc = n };
      services = s.0;
    })) (next_address b i w.machine.pc h here) in
    record {
      after = with_answer b i w s.0 s.1 s.2 s.3;
      ran = ap (of_effect p w) (effect_at code b i I.Ecall w.machine here has) ∙ e ∙ g;
      here = refl;
      holds = s.5;
    }
step_ran code b i _ w Q h here has s = absurd s

-- code whose conditions hold runs through
pub passes : (code : List Instr) (b : Base) (i : ℕ) (xs : List Instr) (w : Whole) (Q : ℕ → Whole → Type 0) →
    i + length xs ≤ most_code → w.machine.pc ≡ address b i → HasAt code i xs → Path code b i xs w Q →
    Passed code b i xs w Q
unfolding run_on
passes code b i [] w Q h here has s =
    let e : i ≡ i + 0 = omega arith in
    record { after = w; ran = refl; here = here ∙ ap (address b) e; holds = subst (λ n. Q n w) e s }
passes code b i (x ∷ xs) w Q h here has s =
    let one = step_ran code b i x w (λ w'. Path code b (suc i) xs w' Q) (omega arith) here has.0 s in
    let rest = passes code b (suc i) xs one.after Q (omega arith) one.here has.1 one.holds in
    let e : suc i + length xs ≡ i + suc (length xs) = omega arith in
    record {
      after = rest.after;
      ran = ap (run_on (length xs) (at_base code b)) one.ran ∙ rest.ran;
      here = rest.here ∙ ap (address b) e;
      holds = subst (λ n. Q n rest.after) e rest.holds;
    }

-- a branch that is taken, and one that isn't
pub branch_taken : (code : List Instr) (b : Base) (i j : ℕ) (test : BranchTest) (rs1 rs2 : Register) (offset : ℤ)
    (w : Whole) → w.machine.pc ≡ address b i → slice_get code i ≡ Some (I.Branch test rs1 rs2 offset) →
    holds_of test (w.machine.registers rs1.index) (w.machine.registers rs2.index) ≡ true →
    sum (address b i) (word offset) ≡ address b j →
    next (at_base code b) w ≡ Runs
    (record {
      machine = record { registers = w.machine.registers; memory = w.machine.memory; pc = address b j };
      services = w.services;
    })
branch_taken code b i j test rs1 rs2 offset w here has yes' to =
    let p = at_base code b in
    let s = w.machine in
    let e = effect_at code b i (I.Branch test rs1 rs2 offset) s here has in
    let target : sum s.pc (word offset) ≡ address b j = ap (λ n. sum n (word offset)) here ∙ to in
    let k : address b j % 4 ≡ 0 = aligned b.at j b.valid.0 in
    let t : (address b j % 4 == 0) ≡ true = eq-eqb (address b j % 4) 0 k in
    let on : ℕ → Effect = λ n. Goes (record { registers = s.registers; memory = s.memory; pc = n }) in
    let f = ap (λ u. cond u (branched s (sum s.pc (word offset))) (on (sum s.pc 4))) yes' in
    let g = ap (branched s) target in
    let h = ap (λ u. cond u (on (address b j)) (Faults Misaligned)) t in
    ap (of_effect p w) (e ∙ f ∙ g ∙ h)

pub branch_passed : (code : List Instr) (b : Base) (i : ℕ) (test : BranchTest) (rs1 rs2 : Register) (offset : ℤ)
    (w : Whole) → i < most_code → w.machine.pc ≡ address b i →
    slice_get code i ≡ Some (I.Branch test rs1 rs2 offset) →
    holds_of test (w.machine.registers rs1.index) (w.machine.registers rs2.index) ≡ false →
    next (at_base code b) w ≡ Runs
    (record {
      machine = record { registers = w.machine.registers; memory = w.machine.memory; pc = address b (suc i) };
      services = w.services;
    })
branch_passed code b i test rs1 rs2 offset w below here has no' =
    let p = at_base code b in
    let s = w.machine in
    let e = effect_at code b i (I.Branch test rs1 rs2 offset) s here has in
    let on : ℕ → Effect = λ n. Goes (record { registers = s.registers; memory = s.memory; pc = n }) in
    let f = ap (λ u. cond u (branched s (sum s.pc (word offset))) (on (sum s.pc 4))) no' in
    let g = ap on (next_address b i s.pc below here) in
    ap (of_effect p w) (e ∙ f ∙ g)

-- the call of a service, whatever it comes to
pub call_next : (code : List Instr) (b : Base) (i : ℕ) (w : Whole) → w.machine.pc ≡ address b i →
    slice_get code i ≡ Some I.Ecall → next (at_base code b) w ≡ answered w.machine (served code w)
unfolding served
call_next code b i w here has = ap (of_effect (at_base code b) w) (effect_at code b i I.Ecall w.machine here has)
