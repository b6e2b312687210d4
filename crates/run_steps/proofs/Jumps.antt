-- Places of pieces in linked code, branches over small code, and jumps of any length.
use Rattle.std.proofs.Common.{◌≡◌, ℕ, suc, ◌+◌, ◌-◌, ◌*◌, ◌%◌, ◌^◌, ◌<◌, ◌≤◌, List, [], ◌∷◌, ◌++◌, length, Some, true}
use Rattle.std.proofs.Common.{false, refl, ap, ◌∙◌, subst, arith, ◌⊎◌, inl, inr}
use Rattle.std.specs.Prelude.{ℤ, pos, cond, slice_get}
use Rattle.std.proofs.lemmas.Int.{ints}
use Rattle.std.proofs.lemmas.Bool.{eq-eqb}
use Rattle.rv_meaning.specs.declared.instr.Instr.{Instr}
use Rattle.rv_meaning.specs.declared.instr.Instr.TheVariants as I
use Rattle.rv_meaning.specs.declared.instr.Fault.TheVariants.{Misaligned}
use Rattle.rv_meaning.specs.declared.instr.Register.{Register}
use Rattle.rv_meaning.specs.declared.instr.BranchTest.{BranchTest}
use Rattle.rv_meaning.specs.Words.{word, sum, holds_of}
use Rattle.rv_meaning.specs.Machine.{Effect, Goes, Faults, linked, written}
use Rattle.pli_serving.specs.ServiceState.{Services}
use Rattle.pli_coding.specs.Assembly.{Symbol, Item, JumpTo, CallTo, JumpAhead, Code, item_size, size_of}
use Rattle.pli_coding.specs.Instructions.{skip_where}
use Rattle.pli_coding.specs.Linking.{Links, upper_part, lower_part, distance, jump_code, place_of}
use Rattle.image_runs.specs.Runs.{Whole, Runs}
use Rattle.run_steps.specs.Unlimited.{next, of_effect, run_on}
use Rattle.run_steps.specs.Engine.{Base, at_base, HasAt, address, most_code, with_register}
use Rattle.run_steps.proofs.Engine.{effect_at, next_address, branch_taken, branch_passed, passes}
use Rattle.run_steps.proofs.Linking.{items_front, items_back, size_append}
use Rattle.run_steps.proofs.DataNamed.{is_named_front, is_named_back}
use Rattle.run_steps.specs.Items.{Linked, At}
use Rattle.pli_coding.specs.Registers.{zero_register, return_register, far_register}
use Rattle.run_steps.specs.Bodies.{Ground, Known, Free, with'}
use Rattle.run_steps.proofs.Bodies.{set_known, lose_known}
use Rattle.run_steps.specs.Reach.{Family, Reach}

-- ---- parts of linked code

pub front_of : {links : Links} {code : List Instr} {i : ℕ} (xs ys : Code) → Linked links code i (xs ++ ys) →
    Linked links code i xs
front_of {links} {code} {i} xs ys l =
    let e = size_append xs ys in let n = l.inside in
    record {
      small' = l.small';
      inside = omega (arith, e, n);
      has = items_front links code i xs ys l.has;
      named = λ d h. l.named d (is_named_front d xs ys h);
    }

pub back_of : {links : Links} {code : List Instr} {i : ℕ} (xs ys : Code) → Linked links code i (xs ++ ys) →
    Linked links code (i + size_of xs) ys
back_of {links} {code} {i} xs ys l =
    let e = size_append xs ys in let n = l.inside in
    record {
      small' = l.small';
      inside = omega (arith, e, n);
      has = items_back links code i xs ys l.has;
      named = λ d h. l.named d (is_named_back d xs ys h);
    }

pub rest_of : {links : Links} {code : List Instr} {i : ℕ} (x : Item) (xs : Code) → Linked links code i (x ∷ xs) →
    Linked links code (i + item_size x) xs
rest_of x xs l =
    let n = l.inside in record
    { small' = l.small'; inside = omega (arith, n); has = l.has.1; named = λ d h. l.named d (inr h) }

pub first_of : {links : Links} {code : List Instr} {i : ℕ} (x : Item) (xs : Code) → Linked links code i (x ∷ xs) →
    Linked links code i (x ∷ [])
first_of x xs l =
    let n = l.inside in
    record { small' = l.small'; inside = omega (arith, n); has = (l.has.0, tt); named = λ d h. l.named d (alone h) }
  where
    alone : {P Q : Type 0} → P ⊎ ⊥ → P ⊎ Q
    alone (inl h) = inl h
    alone (inr h) = absurd h

-- the same place said otherwise
pub linked_at : {links : Links} {code : List Instr} {i : ℕ} (j : ℕ) (xs : Code) → i ≡ j → Linked links code i xs →
    Linked links code j xs
linked_at {links} {code} j xs e l = subst (λ n. Linked links code n xs) e l

-- ---- places of machines

pub moved : {g : Ground} {v : Services} {h t : ℕ → ℕ} {rs : Base → List (ℕ × ℕ)} {b : Base} (w : Whole) (i : ℕ) →
    Known g v h t rs b w → Known g v h t rs b
    (record {
      machine = record { registers = w.machine.registers; memory = w.machine.memory; pc = i };
      services = w.services;
    })
moved w i k =
    record {
      body = record {
        services = k.body.services;
        registers = k.body.registers;
        bytes = k.body.bytes;
        memory = k.body.memory;
      };
      regs = k.regs;
    }

-- one instruction to another place
pub hop : (code : List Instr) (c c' : ℕ) (f : Family) (v : Services) (P : Base → Whole → Type 0) → c < c' →
    ((b : Base) → (w : Whole) × (next (at_base code b) (f b) ≡ Runs w) × P b w) → Reach code c f v c' v P
unfolding run_on
hop code c c' f v P h go = record {
  count = 1;
  paid = omega (arith, h);
  grows = omega arith;
  goes = λ b. record { after = (go b).0; ran = (go b).1; holds = (go b).2 };
}

-- ---- branches

skip_sum : (b : Base) (i n : ℕ) → i + n + 1 ≤ most_code →
    sum (address b i) (word (pos (4 * (1 + n)))) ≡ address b (i + (1 + n))
skip_sum b i n h = let v = b.valid.1 in omega (arith, v)

pub skip_taken : {links : Links} {code : List Instr} {i : ℕ} {g : Ground} {v : Services} {h t : ℕ → ℕ}
    {rs : Base → List (ℕ × ℕ)} (c : ℕ) (f : Family) (test : BranchTest) (r s : Register) (xs : Code) →
    Linked links code i (skip_where test r s xs) → ((b : Base) → At b i (Known g v h t rs b) (f b)) →
    ((b : Base) → holds_of test ((f b).machine.registers r.index) ((f b).machine.registers s.index) ≡ true) →
    Reach code c f v (c + (1 + size_of xs)) v (λ b w. At b (i + (1 + size_of xs)) (Known g v h t rs b) w)
skip_taken {code = code} {i = i} {g = g} {v = v} {h = h} {t = t} {rs = rs} c f test r s xs l at holds =
    hop code c (c + (1 + size_of xs)) f v (λ b w. At b (i + (1 + size_of xs)) (Known g v h t rs b) w) (omega arith)
    (λ b. (
      _,
      branch_taken code b i (i + (1 + size_of xs)) test r s (pos (4 * (1 + size_of xs))) (f b) (at b).pc l.has.0.0
          (holds b) (skip_sum b i (size_of xs) (let n = l.inside in let m = l.small' in omega (arith, n, m))),
      record { pc = refl; holds = moved (f b) _ (at b).holds },
    ))

pub skip_passed : {links : Links} {code : List Instr} {i : ℕ} {g : Ground} {v : Services} {h t : ℕ → ℕ}
    {rs : Base → List (ℕ × ℕ)} (c : ℕ) (f : Family) (test : BranchTest) (r s : Register) (xs : Code) →
    Linked links code i (skip_where test r s xs) → ((b : Base) → At b i (Known g v h t rs b) (f b)) →
    ((b : Base) → holds_of test ((f b).machine.registers r.index) ((f b).machine.registers s.index) ≡ false) →
    Reach code c f v (c + 1) v (λ b w. At b (i + 1) (Known g v h t rs b) w)
skip_passed {code = code} {i = i} {g = g} {v = v} {h = h} {t = t} {rs = rs} c f test r s xs l at holds =
    let one : suc i ≡ i + 1 = omega arith in
    hop code c (c + 1) f v (λ b w. At b (i + 1) (Known g v h t rs b) w) (omega arith)
    (λ b. (
      _,
      branch_passed code b i test r s (pos (4 * (1 + size_of xs))) (f b)
          (let n = l.inside in let m = l.small' in omega (arith, n, m)) (at b).pc l.has.0.0 (holds b),
      record { pc = ap (address b) one; holds = moved (f b) _ (at b).holds },
    ))

-- ---- jumps

even_address : (b : Base) (j : ℕ) → address b j - address b j % 2 ≡ address b j
even_address b j = let v = b.valid.0 in omega (arith, v)

whole_address : (b : Base) (j : ℕ) → address b j % 4 ≡ 0
whole_address b j = let v = b.valid.0 in omega (arith, v)

-- a jump to an address that a register gives
pub jump_register : (code : List Instr) (b : Base) (i j : ℕ) (rd rs : Register) (offset : ℤ) (w : Whole) →
    i < most_code → w.machine.pc ≡ address b i → slice_get code i ≡ Some (I.JumpRegister rd rs offset) →
    sum (w.machine.registers rs.index) (word offset) ≡ address b j →
    next (at_base code b) w ≡ Runs
    (record {
      machine = record {
        registers = written w.machine.registers rd.index (address b (suc i));
        memory = w.machine.memory;
        pc = address b j;
      };
      services = w.services;
    })
jump_register code b i j rd rs offset w below here has to =
    let p = at_base code b in
    let s = w.machine in
    let e = effect_at code b i (I.JumpRegister rd rs offset) s here has in
    let target = ap (λ n. linked s rd (n - n % 2)) to ∙ ap (linked s rd) (even_address b j) in
    let on : ℕ → Effect = λ n. Goes
    (record { registers = written s.registers rd.index n; memory = s.memory; pc = address b j }) in
    let t = ap (λ u. cond u (on (sum s.pc 4)) (Faults Misaligned)) (eq-eqb (address b j % 4) 0 (whole_address b j)) in
    let g = ap on (next_address b i s.pc below here) in
    ap (of_effect p w) (e ∙ target ∙ t ∙ g)

jump_sum : (base i j : ℕ) → base + 2 ^ 24 ≤ 2 ^ 32 → i < most_code → j ≤ most_code →
    sum (sum (base + 4 * i) (upper_part (distance (4 * i) (4 * j)) * 2 ^ 12))
    (word (lower_part (distance (4 * i) (4 * j)))) ≡ base + 4 * j
jump_sum base i j v h k = omega (arith, ints)

-- two instructions that jump, with a link
pub jumped : (code : List Instr) (b : Base) (i j : ℕ) (link through : Register) (w : Whole) → i + 2 ≤ length code →
    length code ≤ most_code → j ≤ most_code → w.machine.pc ≡ address b i →
    HasAt code i (jump_code link through (distance (4 * i) (4 * j))) →
    ((x : ℕ → ℕ) (u : ℕ) → written x through.index u through.index ≡ u) →
    run_on 2 (at_base code b) (Runs w) ≡ Runs
    (record {
      machine = record {
        registers = written (written w.machine.registers through.index
            (sum (address b i) (upper_part (distance (4 * i) (4 * j)) * 2 ^ 12))) link.index (address b (suc (suc i)));
        memory = w.machine.memory;
        pc = address b j;
      };
      services = w.services;
    })
unfolding run_on
jumped code b i j link through w inside small' target here has set =
    let d = distance (4 * i) (4 * j) in
    let up = sum (address b i) (upper_part d * 2 ^ 12) in
    let first = I.AddUpperToPc through (upper_part d) in
    let w' = with_register b i w through.index up in
    let one = passes code b i (first ∷ []) w (λ k u. u ≡ w') (omega (arith, inside, small')) here (has.0, tt) refl in
    let e : run_on 1 (at_base code b) (Runs w) ≡ Runs w' = one.ran ∙ ap Runs one.holds in
    let to = ap (λ u. sum u (word (lower_part d))) (set w.machine.registers up) ∙ jump_sum b.at i j b.valid.1
    (omega (arith, inside, small')) target in
    ap (run_on 1 (at_base code b)) e ∙ jump_register code b (suc i) j link through (lower_part d) w'
    (omega (arith, inside, small')) refl has.1.0 to

-- ---- jumps to symbols

-- to the place of a symbol, with what scratch registers leave as it is; the credits may grow
pub jump_with : {links : Links} {code : List Instr} {i : ℕ} {v : Services} (c c' : ℕ) (f : Family) (s : Symbol)
    (j : ℕ) (P : Base → Whole → Type 0) → c + 2 ≤ c' → place_of links s ≡ 4 * j → j ≤ most_code →
    ((b : Base) (w : Whole) (u i' : ℕ) → P b w →
    P b (record {
      machine = record
          { registers = written w.machine.registers 31 u; memory = w.machine.memory; pc = i' };
      services = w.services;
    })) →
    Linked links code i (JumpTo s ∷ []) → ((b : Base) → At b i (P b) (f b)) →
    Reach code c f v c' v (λ b w. At b j (P b) w)
jump_with {links = links} {code = code} {i = i} c c' f s j P paid target near lost l at =
    let has = subst (λ n. HasAt code i (jump_code zero_register far_register (distance (4 * i) n))) target l.has.0 in
    record {
      count = 2;
      paid = omega (arith, paid);
      grows = omega arith;
      goes = λ b. record {
        after = _;
        ran = jumped code b i j zero_register far_register (f b) (let n = l.inside in omega (arith, n)) l.small' near
            (at b).pc has (λ x u. refl);
        holds = record { pc = refl; holds = lost b (f b) _ _ (at b).holds };
      };
    }

-- to the place of a symbol, with what is known; the credits may grow
pub jump_piece : {links : Links} {code : List Instr} {i : ℕ} {g : Ground} {v : Services} {h t : ℕ → ℕ}
    {rs : Base → List (ℕ × ℕ)} (c c' : ℕ) (f : Family) (s : Symbol) (j : ℕ) → c + 2 ≤ c' → place_of links s ≡ 4 * j →
    j ≤ most_code → Free rs 31 → Linked links code i (JumpTo s ∷ []) →
    ((b : Base) → At b i (Known g v h t rs b) (f b)) → Reach code c f v c' v (λ b w. At b j (Known g v h t rs b) w)
jump_piece {links = links} {code = code} {i = i} c c' f s j paid target near free l at =
    let has = subst (λ n. HasAt code i (jump_code zero_register far_register (distance (4 * i) n))) target l.has.0 in
    record {
      count = 2;
      paid = omega (arith, paid);
      grows = omega arith;
      goes = λ b. record {
        after = _;
        ran = jumped code b i j zero_register far_register (f b) (let n = l.inside in omega (arith, n)) l.small' near
            (at b).pc has (λ x u. refl);
        holds = record { pc = refl; holds = lose_known (f b) 31 _ _ free (at b).holds };
      };
    }

-- the same with the place behind it in the return register
pub call_piece : {links : Links} {code : List Instr} {i : ℕ} {g : Ground} {v : Services} {h t : ℕ → ℕ}
    {rs : Base → List (ℕ × ℕ)} (c c' : ℕ) (f : Family) (s : Symbol) (j : ℕ) → c + 2 ≤ c' → place_of links s ≡ 4 * j →
    j ≤ most_code → Free rs 1 → Linked links code i (CallTo s ∷ []) →
    ((b : Base) → At b i (Known g v h t rs b) (f b)) →
    Reach code c f v c' v (λ b w. At b j (Known g v h t (with' 1 (λ b'. address b' (i + 2)) rs) b) w)
call_piece {links = links} {code = code} {i = i} {rs = rs} c c' f s j paid target near free l at =
    let has = subst (λ n. HasAt code i (jump_code return_register return_register (distance (4 * i) n))) target
    l.has.0 in
    let two : suc (suc i) ≡ i + 2 = omega arith in
    record {
      count = 2;
      paid = omega (arith, paid);
      grows = omega arith;
      goes = λ b. record {
        after = _;
        ran = jumped code b i j return_register return_register (f b)
            (let n = l.inside in omega (arith, n)) l.small' near (at b).pc has (λ x u. refl);
        holds = record {
          pc = refl;
          holds = set_known _ 1 (address b (suc (suc i))) _ (λ b'. address b' (i + 2)) free (ap (address b) two)
              (lose_known (f b) 1 (sum (address b i) (upper_part (distance (4 * i) (4 * j)) * 2 ^ 12))
              (address b (suc i)) free (at b).holds);
        };
      };
    }

-- over small code that stands ahead
pub ahead_piece : {links : Links} {code : List Instr} {i : ℕ} {g : Ground} {v : Services} {h t : ℕ → ℕ}
    {rs : Base → List (ℕ × ℕ)} (c : ℕ) (f : Family) (words : ℕ) → i + (2 + words) ≤ length code → Free rs 31 →
    Linked links code i (JumpAhead words ∷ []) → ((b : Base) → At b i (Known g v h t rs b) (f b)) →
    Reach code c f v (c + (2 + words)) v (λ b w. At b (i + (2 + words)) (Known g v h t rs b) w)
ahead_piece {links = links} {code = code} {i = i} c f words inside free l at =
    let e : 4 * i + 4 * (2 + words) ≡ 4 * (i + (2 + words)) = omega arith in
    let has = subst (λ n. HasAt code i (jump_code zero_register far_register (distance (4 * i) n))) e l.has.0 in
    record {
      count = 2;
      paid = omega arith;
      grows = omega arith;
      goes = λ b. record {
        after = _;
        ran = jumped code b i (i + (2 + words)) zero_register far_register (f b)
            (let n = l.inside in omega (arith, n)) l.small' (let s = l.small' in omega (arith, inside, s))
            (at b).pc has (λ x u. refl);
        holds = record { pc = refl; holds = lose_known (f b) 31 _ _ free (at b).holds };
      };
    }
