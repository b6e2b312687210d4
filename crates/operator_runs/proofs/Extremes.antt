-- MAX and MIN: a value in a0, and then the further one of it and of each value behind it.
use Rattle.std.proofs.Common.{◌≡◌, ℕ, suc, ◌+◌, ◌≤◌, List, [], ◌∷◌, ◌++◌, Bool, true, false, refl, sym, ap}
use Rattle.std.proofs.Common.{◌∙◌, subst, arith}
use Rattle.std.proofs.Math.Nat.{le-max_left, le-max_right}
use Rattle.std.specs.Prelude.{ℤ, if◌then◌else◌, int_lt, max}
use Rattle.rv_meaning.specs.declared.instr.BranchTest.TheVariants as Test
use Rattle.rv_meaning.specs.Words.{signed, word}
use Rattle.pli_typing.specs.TypedTree as Y
use Rattle.pli_meaning.specs.Control.{Flow, Meaning, give, ◌>>=◌}
use Rattle.pli_meaning.specs.Evaluating as V
use Rattle.pli_meaning.specs.Operations.{extreme, further_extreme}
use Rattle.pli_coding.specs.Arithmetic.{extreme_code}
use Rattle.pli_coding.specs.Assembly.{Code, size_of}
use Rattle.pli_coding.specs.Environments.{fetch, save, with_number}
use Rattle.pli_coding.specs.Expressions.{extremes_code, number_code}
use Rattle.pli_coding.specs.Instructions.{move}
use Rattle.pli_coding.specs.Registers.{a0, u1}
use Rattle.activation_relation.specs.Layers.{Point, services_of}
use Rattle.run_steps.specs.Bodies.{Known}
use Rattle.run_steps.specs.Engine.{Base, address}
use Rattle.run_steps.specs.Items.{At, Linked}
use Rattle.run_steps.proofs.Items.{straight}
use Rattle.run_steps.proofs.Jumps.{back_of, front_of, rest_of, skip_passed, skip_taken}
use Rattle.run_steps.proofs.Linking.{size_append}
use Rattle.run_steps.specs.Numbers.{IsWide}
use Rattle.run_steps.proofs.Numbers.{word_small}
use Rattle.run_steps.specs.Reach.{Aims, Closed, Comes, Family, before, cost}
use Rattle.run_steps.proofs.Reach.{comes_on, onward, reach_with, stay}
use Rattle.block_runs.proofs.CallStatements.{comes_map}
use Rattle.block_runs.proofs.PointGrounds.{in_known, point_frame, point_ground}
use Rattle.pli_headline.proofs.WordProducts.{signed_word}
use Rattle.program_runs.specs.Statements.{IsAmong}
use Rattle.program_runs.proofs.JumpsOut.{jumps_since}
use Rattle.expression_runs.specs.Laws.{Does}
use Rattle.expression_runs.specs.Values.{HasRegisters, Setting, Stretch, behind, in_registers, number_aims}
use Rattle.expression_runs.proofs.Saving.{fetched_reach, held_after, held_among, held_is_given, held_stays, next_taken}
use Rattle.expression_runs.proofs.Saving.{register_left, saved_reach}
use Rattle.expression_runs.proofs.Words.{frame_of, known_word, number_closed, paired, valued, word_further}
use Rattle.expression_runs.proofs.Words.{word_here}
use Rattle.operator_runs.specs.Extremes.{AllDo}
use Rattle.operator_runs.proofs.Quotients.{sum_zero}
use Rattle.operator_runs.proofs.Single.{Follows, one_does}
use Rattle.block_runs.specs.Machines.{limits_of}

-- ---- the further one of two

further_wide : (extremum : Y.Extremum) (x y : ℤ) → IsWide x → IsWide y → IsWide (further_extreme extremum x y)
further_wide Y.Greatest x y wx wy = by (int_lt x y)
  where
    by : (q : Bool) → IsWide (if q then y else x)
    by true = wy
    by false = wx
further_wide Y.Least x y wx wy = by (int_lt y x)
  where
    by : (q : Bool) → IsWide (if q then y else x)
    by true = wy
    by false = wx

extreme_size : (extremum : Y.Extremum) → size_of (extreme_code extremum) ≡ 2
extreme_size Y.Greatest = refl
extreme_size Y.Least = refl

-- it goes on with the further one in a0
picked :
    (k : Setting) (p : Point) (numbers : ℕ → ℕ) (c index : ℕ) (f : Family) (h : frame_of k.block p) {X : Type 0}
    {aims : Aims X} (closed : Closed k.block.call.code aims) (flow : Flow X) (extremum : Y.Extremum) (x y : ℤ) →
    IsWide x → IsWide y → Linked k.block.call.surroundings.links k.block.call.code index (extreme_code extremum) →
    ((b : Base) → At b index (Known (point_ground k.block.call.surroundings p h) (services_of p) numbers (λ j. 0)
    (paired (word x) (word y)) b) (f b)) →
    ((g : Family) → ((b : Base) → At b (index + 2) (Known (point_ground k.block.call.surroundings p h) (services_of p)
    numbers (λ j. 0) (valued (word (further_extreme extremum x y))) b) (g b)) →
    Comes k.block.call.code (c + 2) g (services_of p) aims flow) →
    Comes k.block.call.code c f (services_of p) aims flow
picked k p numbers c index f h {X} {aims} closed flow Y.Greatest x y wx wy l at goal = by (int_lt x y) refl
  where
    one : Code
    one = move a0 u1 ∷ []

    tells : (q : Bool) → int_lt x y ≡ q → (b : Base) →
        int_lt (signed ((f b).machine.registers 6)) (signed ((f b).machine.registers 10)) ≡ q
    tells q e b =
        let o' = (at b).holds.regs in
        ap (λ u. int_lt (signed u) (signed ((f b).machine.registers 10))) o'.0
        ∙ ap (λ u. int_lt (signed (word x)) (signed u)) o'.1.0
        ∙ ap (λ u. int_lt u (signed (word y))) (signed_word x wx) ∙ ap (λ u. int_lt x u) (signed_word y wy) ∙ e

    by : (q : Bool) → int_lt x y ≡ q → Comes k.block.call.code c f (services_of p) aims flow
    by true e =
        onward closed (skip_taken c f Test.Less u1 a0 one l at (tells true e))
        (λ g at'. goal g (λ b. record {
          pc = (at' b).pc;
          holds = record {
            body = (at' b).holds.body;
            regs = ((at' b).holds.regs.1.0 ∙ ap (λ q. word (if q then y else x)) (sym e), tt);
          };
        }))
    by false e =
        let v = services_of p in
        let g' = point_ground k.block.call.surroundings p h in
        let place : index + 1 + 1 ≡ index + 2 = omega arith in
        let paid : c + 2 ≡ c + 1 + 1 = omega arith in
        onward closed (skip_passed c f Test.Less u1 a0 one l at (tells false e))
        (λ f1 at1.
        onward closed
        (straight (c + 1) f1 v v (λ b. Known g' v numbers (λ j. 0) (valued (word x)) b) (rest_of _ one l) (omega arith)
        (λ b. (at1 b).pc)
        (λ b. let o' = (at1 b).holds in record {
          body = record {
            services = o'.body.services;
            registers = o'.body.registers;
            bytes = o'.body.bytes;
            memory = o'.body.memory;
          };
          regs = (sum_zero _ (word x) o'.regs.0 (word_small x wx), tt);
        }))
        (λ f2 at2.
        subst (λ n. Comes k.block.call.code n f2 v aims flow) paid
        (goal f2 (λ b. record {
          pc = (at2 b).pc ∙ ap (address b) place;
          holds = record {
            body = (at2 b).holds.body;
            regs = ((at2 b).holds.regs.0 ∙ ap (λ q. word (if q then y else x)) (sym e), tt);
          };
        }))))
picked k p numbers c index f h {X} {aims} closed flow Y.Least x y wx wy l at goal = by (int_lt y x) refl
  where
    one : Code
    one = move a0 u1 ∷ []

    tells : (q : Bool) → int_lt y x ≡ q → (b : Base) →
        int_lt (signed ((f b).machine.registers 10)) (signed ((f b).machine.registers 6)) ≡ q
    tells q e b =
        let o' = (at b).holds.regs in
        ap (λ u. int_lt (signed u) (signed ((f b).machine.registers 6))) o'.1.0
        ∙ ap (λ u. int_lt (signed (word y)) (signed u)) o'.0
        ∙ ap (λ u. int_lt u (signed (word x))) (signed_word y wy) ∙ ap (λ u. int_lt y u) (signed_word x wx) ∙ e

    by : (q : Bool) → int_lt y x ≡ q → Comes k.block.call.code c f (services_of p) aims flow
    by true e =
        onward closed (skip_taken c f Test.Less a0 u1 one l at (tells true e))
        (λ g at'. goal g (λ b. record {
          pc = (at' b).pc;
          holds = record {
            body = (at' b).holds.body;
            regs = ((at' b).holds.regs.1.0 ∙ ap (λ q. word (if q then y else x)) (sym e), tt);
          };
        }))
    by false e =
        let v = services_of p in
        let g' = point_ground k.block.call.surroundings p h in
        let place : index + 1 + 1 ≡ index + 2 = omega arith in
        let paid : c + 2 ≡ c + 1 + 1 = omega arith in
        onward closed (skip_passed c f Test.Less a0 u1 one l at (tells false e))
        (λ f1 at1.
        onward closed
        (straight (c + 1) f1 v v (λ b. Known g' v numbers (λ j. 0) (valued (word x)) b) (rest_of _ one l) (omega arith)
        (λ b. (at1 b).pc)
        (λ b. let o' = (at1 b).holds in record {
          body = record {
            services = o'.body.services;
            registers = o'.body.registers;
            bytes = o'.body.bytes;
            memory = o'.body.memory;
          };
          regs = (sum_zero _ (word x) o'.regs.0 (word_small x wx), tt);
        }))
        (λ f2 at2.
        subst (λ n. Comes k.block.call.code n f2 v aims flow) paid
        (goal f2 (λ b. record {
          pc = (at2 b).pc ∙ ap (address b) place;
          holds = record {
            body = (at2 b).holds.body;
            regs = ((at2 b).holds.regs.0 ∙ ap (λ q. word (if q then y else x)) (sym e), tt);
          };
        }))))

-- ---- and of all

-- the extreme of a number and of those behind it, which have been evaluated by then
abbrev all_aims : Setting → Y.Extremum → (x : ℤ) → Stretch → Aims (List ℤ)
all_aims k extremum x y =
    record {
      limits = limits_of k.block.call.surroundings;
      done = λ c f v zs s. (number_aims k.block k.labels y).done c f v (extreme extremum x zs) s;
      jumped = λ c f v height label s. (number_aims k.block k.labels y).jumped c f v height label s;
      returned = λ c f v r s. ⊥;
    }

all_closed :
    (k : Setting) (extremum : Y.Extremum) (x : ℤ) (y : Stretch) → Closed k.block.call.code (all_aims k extremum x y)
all_closed k extremum x y =
    let closed = number_closed k.block k.labels y in
    record {
      done = λ r zs s o. closed.done r (extreme extremum x zs) s o;
      jumped = λ r height label s o. closed.jumped r height label s o;
      returned = λ r zs s o. absurd o;
    }

all_follow :
    (k : Setting) (n : ℕ) (extremum : Y.Extremum) (more : Y.Numbers) → AllDo k n more →
    (p : Point) (numbers : ℕ → ℕ) (taken c index : ℕ) (f : Family) (x : ℤ) (h : frame_of k.block p) →
    IsAmong k.block numbers p → p.control.line ≡ k.around.line → HasRegisters k taken (suc n) → IsWide x →
    Linked k.block.call.surroundings.links k.block.call.code index
    (extremes_code k.block.environment (in_registers k.words taken) extremum more) →
    c + size_of (extremes_code k.block.environment (in_registers k.words taken) extremum more) + k.most
    ≤ cost k.block.call.code →
    ((b : Base) → At b index (Known (point_ground k.block.call.surroundings p h) (services_of p) numbers (λ j. 0)
    (valued (word x)) b) (f b)) →
    Comes k.block.call.code c f (services_of p)
    (all_aims k extremum x
    (behind p numbers taken c index (extremes_code k.block.environment (in_registers k.words taken) extremum more)))
    (V.numbers k.around more k.block.call.surroundings.acts p.state)
unfolding V.numbers give ◌>>=◌
all_follow k n extremum Y.NoNumber all p numbers taken c index f x h o line registers wx l paid at =
    let whole = behind p numbers taken c index [] in
    let g = point_ground k.block.call.surroundings p h in
    let here : index ≡ index + 0 = omega arith in
    record {
      to = λ early. (
        wx,
        word_here {x = whole} h o (omega arith) refl
            (reach_with whole.wanted (omega arith)
            (stay k.block.call.code c f (services_of p)
            (λ b y. At b whole.index (Known g (services_of p) numbers (λ j. 0) (valued (word x)) b) y)
            (λ b. subst (λ j. At b j (Known g (services_of p) numbers (λ i. 0) (valued (word x)) b) (f b)) here
            (at b)))),
      );
    }
all_follow k n extremum (Y.NumberThen first rest) all p numbers taken c index f x h o line registers wx l paid at =
    let w = k.block.call.surroundings in
    let code = k.block.call.code in
    let e = k.block.environment in
    let t = in_registers k.words taken in
    let room = registers.0 in
    let one : HasRegisters k taken 1 = (omega (arith, room), registers.1) in
    let inner : HasRegisters k (taken + 1) n = (omega (arith, room), registers.1) in
    let next = next_taken k.words taken (register_left k taken 1 one (omega arith)) in
    let put' = save a0 t in
    let right = number_code e (with_number t) first in
    let back = fetch u1 t in
    let pick = extreme_code extremum in
    let last = extremes_code e t extremum rest in
    let n1 = size_append put' (right ++ (back ++ (pick ++ last))) in
    let n2 = size_append right (back ++ (pick ++ last)) in
    let n3 = size_append back (pick ++ last) in
    let n4 = size_append pick last in
    let n5 = extreme_size extremum in
    let same = ap (λ u. size_of (number_code e u first)) next in
    let l2 = back_of put' (right ++ (back ++ (pick ++ last))) l in
    let l3 = back_of right (back ++ (pick ++ last)) l2 in
    let l4 = back_of back (pick ++ last) l3 in
    let lp = front_of pick last l4 in
    let ll = back_of pick last l4 in
    let lr = subst (λ u. Linked w.links code (index + size_of put') (number_code e u first)) next
    (front_of right (back ++ (pick ++ last)) l2) in
    let whole = behind p numbers taken c index (extremes_code e t extremum (Y.NumberThen first rest)) in
    let goal = all_aims k extremum x whole in
    let closed = all_closed k extremum x whole in
    let held = held_after numbers taken (word x) in
    let small' = word_small x wx in
    let next1 : ℤ → Meaning (List ℤ) = λ y. (V.numbers k.around rest) >>= (λ ys. give (y ∷ ys)) in
    onward closed
    (saved_reach k taken 0 h one c f (word x) small' (front_of put' (right ++ (back ++ (pick ++ last))) l) at)
    (λ g2 at2.
    let among2 = held_among k taken 1 (word x) one (omega arith) small' o in
    let part2 = number_code e (in_registers k.words (taken + 1)) first in
    let c2 = c + size_of put' in
    let i2 = index + size_of put' in
    comes_on w.acts (V.number k.around first w.acts p.state) next1
    (comes_map (number_aims k.block k.labels (behind p held (taken + 1) c2 i2 part2)) (before code goal w.acts next1)
    refl
    (V.number k.around first w.acts p.state)
    (λ c3 f3 v3 y s3 q3.
    let o3 = q3.1 in
    let p3 = o3.point in
    let since3 = o3.since in
    let h3 = point_frame o3.among.stands o3.among.image in
    let waits = o3.stays taken (omega arith) ∙ held_is_given numbers taken (word x) in
    let c4 = c2 + size_of part2 + size_of back in
    let i4 = i2 + size_of right + size_of back in
    let next2 : List ℤ → Meaning (List ℤ) = λ ys. give (y ∷ ys) in
    subst (λ s. Comes code c3 f3 v3 goal (next1 y w.acts s)) (sym o3.state)
    (onward closed o3.reach
    (λ g3 at3.
    onward closed
    (fetched_reach k taken 0 h3 one (c2 + size_of part2) g3 u1 (word x) small' waits
    (record { reserved_stay = λ z u. refl; known_stay = λ b z u q. q; set = λ z u. refl })
    (record { reserved_stay = λ z u. refl; known_stay = λ b z u q. q; set = λ z u. refl })
    (front_of back (pick ++ last) l3)
    (λ b. subst (λ j. At b j (Known (point_ground w p3 h3) (services_of p3) o3.numbers (λ j'. 0)
    (λ b0. (10, word y) ∷ []) b) (g3 b)) (omega (arith, same)) (known_word k.block h3 (at3 b))))
    (λ g4 at4.
    picked k p3 o3.numbers c4 i4 g4 h3 closed (next1 y w.acts p3.state) extremum x y wx q3.0 lp at4
    (λ g5 at5.
    let y5 = behind p3 o3.numbers taken (c4 + 2) (i4 + 2) last in
    let x5 = further_extreme extremum x y in
    comes_on w.acts (V.numbers k.around rest w.acts p3.state) next2
    (comes_map (all_aims k extremum x5 y5) (before code goal w.acts next2)
    refl (V.numbers k.around rest w.acts p3.state)
    (λ c6 f6 v6 ys s6 q6. record {
      to = λ early. (
        q6.0,
        word_further
            (record {
              acts = omega (arith, since3);
              line = o3.line;
              index = omega (arith, n1, n2, n3, n4, n5);
              wanted = omega (arith, n1, n2, n3, n4, n5, same);
              taken = omega arith;
              stays = λ i less. o3.stays i (omega (arith, less)) ∙ held_stays numbers taken (word x) i less;
            }) q6.1,
      );
    })
    (λ c6 f6 v6 height label s6 q6. jumps_since since3 q6)
    (λ c6 f6 v6 r s6 q6. absurd q6)
    (all_follow k n extremum rest all.1 p3 o3.numbers taken (c4 + 2) (i4 + 2) g5 x5 h3 o3.among (o3.line ∙ line)
    registers (further_wide extremum x y wx q3.0)
    (subst (λ j. Linked w.links code j last) (omega (arith, n5)) ll) (omega (arith, paid, n1, n2, n3, n4, n5, same))
    at5)))))))
    (λ c3 f3 v3 height label s3 q3. q3)
    (λ c3 f3 v3 r s3 q3. absurd q3)
    (all.0 p held (taken + 1) c2 i2 g2 among2 line inner lr (omega (arith, paid, n1, n2, n3, n4, n5, same))
    (λ b. in_known h o.image.parts (at2 b)))))

extremes_follow :
    (k : Setting) (n : ℕ) (extremum : Y.Extremum) (more : Y.Numbers) → AllDo k n more →
    Follows k (suc n) (λ t. extremes_code k.block.environment t extremum more)
    (λ x. (V.numbers k.around more) >>= (λ zs. give (extreme extremum x zs)))
unfolding give ◌>>=◌
extremes_follow k n extremum more all p numbers taken c index f x h o line registers wx l paid at =
    let w = k.block.call.surroundings in
    let code = k.block.call.code in
    let part = extremes_code k.block.environment (in_registers k.words taken) extremum more in
    let y = behind p numbers taken c index part in
    let goal = number_aims k.block k.labels y in
    let next' : List ℤ → Meaning ℤ = λ zs. give (extreme extremum x zs) in
    comes_on w.acts (V.numbers k.around more w.acts p.state) next'
    (comes_map (all_aims k extremum x y) (before code goal w.acts next') refl (V.numbers k.around more w.acts p.state)
    (λ c1 f1 v1 zs s1 q. record { to = λ early. q })
    (λ c1 f1 v1 height label s1 q. q)
    (λ c1 f1 v1 r s1 q. absurd q)
    (all_follow k n extremum more all p numbers taken c index f x h o line registers wx l paid at))

pub extreme_does :
    (k : Setting) (extremum : Y.Extremum) (first : Y.Number) (more : Y.Numbers) (m n : ℕ) → Does k m first →
    AllDo k n more → Does k (max m (suc n)) (Y.Extreme extremum first more)
unfolding V.number
extreme_does k extremum first more m n does all =
    one_does k m (suc n) (max m (suc n)) (λ t. number_code k.block.environment t first)
    (λ t. extremes_code k.block.environment t extremum more) (V.number k.around first)
    (λ x. (V.numbers k.around more) >>= (λ zs. give (extreme extremum x zs))) (le-max_left m (suc n))
    (le-max_right m (suc n)) does (extremes_follow k n extremum more all)
