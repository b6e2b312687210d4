-- Runs of straight code, item by item: addresses and offsets are two instructions.
use Rattle.std.proofs.Common.{◌≡◌, ℕ, zero, suc, ◌+◌, ◌*◌, ◌^◌, ◌<◌, ◌≤◌, List, [], ◌∷◌, length, refl, sym, ap, ◌∙◌}
use Rattle.std.proofs.Common.{subst, arith}
use Rattle.std.specs.Prelude.{cond}
use Rattle.std.proofs.lemmas.Bool.{eq-eqb}
use Rattle.std.proofs.lemmas.Int.{ints}
use Rattle.std.proofs.Math.Nat.{mul-le-mul_left}
use Rattle.rv_meaning.specs.declared.instr.Instr.{Instr}
use Rattle.rv_meaning.specs.Words.{word, sum}
use Rattle.rv_meaning.specs.Machine.{written}
use Rattle.pli_serving.specs.ServiceState.{Services}
use Rattle.pli_coding.specs.Assembly.{Item, Plain, BaseIn, OffsetOf, OffsetAhead, JumpTo, CallTo, JumpAhead}
use Rattle.pli_coding.specs.Assembly.{JumpBack, Mark, Code, item_size, size_of}
use Rattle.pli_coding.specs.Linking.{Links, upper_part, lower_part, distance, place_of, item_code}
use Rattle.image_runs.specs.Runs.{Whole, Runs}
use Rattle.run_steps.specs.Unlimited.{run_on}
use Rattle.run_steps.specs.Engine.{Base, at_base, HasAt, address, most_code, Passed}
use Rattle.run_steps.proofs.Engine.{passes, run_on-add}
use Rattle.run_steps.specs.Linking.{HasItems}
use Rattle.run_steps.proofs.Linking.{item_has}
use Rattle.run_steps.specs.Reach.{Family, Reach, cost}
use Rattle.run_steps.specs.Items.{IsSet, with_both, upper_base, ItemSteps, Items, Walked, At, Linked}

-- ---- numbers in two parts

pub parts_sum : (w : ℕ) → w < 2 ^ 32 → sum (upper_part w * 2 ^ 12) (word (lower_part w)) ≡ w
parts_sum w h = omega (arith, ints)

-- the base, from a place of the code
pub base_sum : (base i : ℕ) → 4 * i < 2 ^ 24 → base + 2 ^ 24 ≤ 2 ^ 32 →
    sum (sum (base + 4 * i) (upper_part (distance (4 * i) 0) * 2 ^ 12)) (word (lower_part (distance (4 * i) 0))) ≡ base
base_sum base zero h valid = omega (arith, valid)
base_sum base (suc i) h valid = omega (arith, ints)

walked : {code : List Instr} {b : Base} {i : ℕ} {xs : List Instr} {w : Whole} {Q : Whole → Type 0} (n : ℕ) →
    length xs ≡ n → Passed code b i xs w (λ j w'. Q w') → Walked code b i n w Q
walked {code = code} {b = b} {i = i} {w = w} n e p =
    record {
      after = p.after;
      ran = ap (λ u. run_on u (at_base code b) (Runs w)) (sym e) ∙ p.ran;
      here = p.here ∙ ap (λ u. address b (i + u)) e;
      holds = p.holds;
    }

written_on : (r : ℕ) (x : ℕ → ℕ) (v : ℕ) → IsSet r → written x r v r ≡ v
written_on zero x v h = absurd (cc h)
written_on (suc r) x v h = ap (λ t. cond t v (x (suc r))) (eq-eqb (suc r) (suc r) refl)

two_more : (i : ℕ) → suc (suc i) ≡ i + 2
two_more i = omega arith

-- what two instructions put into a register
both : (b : Base) (i : ℕ) (w : Whole) (r first second value : ℕ) (Q : Whole → Type 0) → IsSet r →
    sum first second ≡ value → Q (with_both b i w r first value) →
    Q (record {
      machine = record {
        registers = written (written w.machine.registers r first) r
            (sum (written w.machine.registers r first r) second);
        memory = w.machine.memory;
        pc = address b (suc (suc i));
      };
      services = w.services;
    })
both b i w r first second value Q set e q =
    let at : ℕ → ℕ → Whole = λ u j.
    record {
      machine = record {
        registers = written (written w.machine.registers r first) r u;
        memory = w.machine.memory;
        pc = address b j;
      };
      services = w.services;
    } in
    let f : value ≡ sum (written w.machine.registers r first r) second = sym e ∙ ap (λ u. sum u second)
    (sym (written_on r w.machine.registers first set)) in
    subst (λ j. Q (at (sum (written w.machine.registers r first r) second) j)) (sym (two_more i))
    (subst (λ u. Q (at u (i + 2))) f q)

item_walked : (links : Links) (code : List Instr) (b : Base) (i : ℕ) (x : Item) (w : Whole) (Q : Whole → Type 0) →
    i + item_size x ≤ most_code → w.machine.pc ≡ address b i → HasAt code i (item_code links (4 * i) x) →
    ItemSteps links code b i x w Q → Walked code b i (item_size x) w Q
unfolding run_on
item_walked links code b i (Plain x) w Q h here has s = walked 1 refl
    (passes code b i (x ∷ []) w (λ j w'. Q w') h here has s)
item_walked links code b i (BaseIn r) w Q h here has s =
    let d = distance (4 * i) 0 in
    walked 2 refl (passes code b i (item_code links (4 * i) (BaseIn r)) w (λ j w'. Q w') h here has
    (both b i w r.index (upper_base b i) (word (lower_part d)) b.at Q s.0
    (base_sum b.at i (omega (arith, h)) b.valid.1) s.1))
item_walked links code b i (OffsetOf r y) w Q h here has s =
    let p = place_of links y in
    walked 2 refl (passes code b i (item_code links (4 * i) (OffsetOf r y)) w (λ j w'. Q w') h here has
    (both b i w r.index (upper_part p * 2 ^ 12) (word (lower_part p)) p Q s.1 (parts_sum p s.0) s.2))
item_walked links code b i (Mark y) w Q h here has s =
    record { after = w; ran = refl; here = here ∙ ap (address b) (omega arith); holds = s }
item_walked links code b i (OffsetAhead r words) w Q h here has s = absurd s
item_walked links code b i (JumpTo y) w Q h here has s = absurd s
item_walked links code b i (CallTo y) w Q h here has s = absurd s
item_walked links code b i (JumpAhead words) w Q h here has s = absurd s
item_walked links code b i (JumpBack words) w Q h here has s = absurd s

pub items_walked : (links : Links) (code : List Instr) (b : Base) (i : ℕ) (xs : Code) (w : Whole)
    (Q : Whole → Type 0) → i + size_of xs ≤ most_code → w.machine.pc ≡ address b i → HasItems links code i xs →
    Items links code b i xs w Q → Walked code b i (size_of xs) w Q
unfolding run_on
items_walked links code b i [] w Q h here has s =
    record { after = w; ran = refl; here = here ∙ ap (address b) (omega arith); holds = s }
items_walked links code b i (x ∷ xs) w Q h here has s =
    let one = item_walked links code b i x w (λ w'. Items links code b (i + item_size x) xs w' Q)
    (omega (arith, h)) here (item_has links code i x has.0) s in
    let rest = items_walked links code b (i + item_size x) xs one.after Q (omega (arith, h)) one.here has.1 one.holds in
    record {
      after = rest.after;
      ran = run_on-add (item_size x) (size_of xs) (at_base code b) (Runs w) ∙ ap
          (run_on (size_of xs) (at_base code b)) one.ran ∙ rest.ran;
      here = rest.here ∙ ap (address b) (omega arith);
      holds = rest.holds;
    }

paid_straight : (n c d a a' : ℕ) → a ≤ a' → n + c + d * a ≤ c + n + d * a'
paid_straight n c d a a' h = let m : d * a ≤ d * a' = mul-le-mul_left d h in omega (arith, m)

-- straight code is run through; each word costs one credit
pub straight : {links : Links} {code : List Instr} {i : ℕ} {xs : Code} (c : ℕ) (f : Family) (v v' : Services)
    (P : Base → Whole → Type 0) → Linked links code i xs → v.world.acts ≤ v'.world.acts →
    ((b : Base) → (f b).machine.pc ≡ address b i) → ((b : Base) → Items links code b i xs (f b) (P b)) →
    Reach code c f v (c + size_of xs) v' (λ b w. At b (i + size_of xs) (P b) w)
straight {links = links} {code = code} {i = i} {xs = xs} c f v v' P l more here path =
    record {
      count = size_of xs;
      paid = paid_straight (size_of xs) c (cost code) v.world.acts v'.world.acts more;
      grows = more;
      goes = λ b. let p = items_walked links code b i xs (f b) (P b)
          (let s = l.small' in let t = l.inside in omega (arith, s, t)) (here b) l.has
          (path b) in record { after = p.after; ran = p.ran; holds = record { pc = p.here; holds = p.holds } };
    }
