-- The code that tests one subscript of several: its distance from the lower bound is left, and that of the bounds, or
-- ERROR comes, whatever the others are.
use Rattle.std.proofs.Common.{◌≡◌, ℕ, ◌+◌, ◌^◌, ◌<◌, ◌≤◌, List, [], ◌++◌, Bool, true, false, refl, sym, ap, ◌∙◌}
use Rattle.std.proofs.Common.{subst, arith}
use Rattle.std.specs.Prelude.{ℤ, pos, neg_ℤ, ◌-ℤ◌, ◌&&◌, cond, int_le, not, nat_lt, if◌then◌else◌}
use Rattle.rv_meaning.specs.declared.instr.BranchTest.TheVariants as Test
use Rattle.rv_meaning.specs.declared.instr.Instr.{Instr}
use Rattle.rv_meaning.specs.Words.{sum, word}
use Rattle.pli_typing.specs.Signatures.{Bounds}
use Rattle.pli_typing.specs.TypedTree as Y
use Rattle.pli_meaning.specs.Codes.{subscript_code}
use Rattle.pli_meaning.specs.Contents.{same_int}
use Rattle.pli_meaning.specs.Control.{choose, give}
use Rattle.pli_meaning.specs.Raising as R
use Rattle.pli_serving.specs.ServiceState.{Services}
use Rattle.pli_coding.specs.Assembly.{Code, size_of}
use Rattle.pli_coding.specs.Frames.{buffer_lower}
use Rattle.pli_coding.specs.Instructions.{constant, error_raised, plus, skip_where}
use Rattle.pli_coding.specs.Linking.{Links}
use Rattle.pli_coding.specs.Locating.{less_lower}
use Rattle.pli_coding.specs.Registers.{u1, u2}
use Rattle.activation_relation.specs.Layers.{Point, services_of}
use Rattle.run_steps.specs.Bodies.{Ground, Known, with'}
use Rattle.run_steps.proofs.Bodies.{constant_piece}
use Rattle.run_steps.specs.Engine.{Base, address}
use Rattle.run_steps.proofs.Increments.{plus_own}
use Rattle.run_steps.specs.Items.{At, Linked}
use Rattle.run_steps.proofs.Items.{straight}
use Rattle.run_steps.proofs.Jumps.{back_of, front_of, rest_of, skip_passed, skip_taken}
use Rattle.run_steps.proofs.Linking.{size_append}
use Rattle.run_steps.specs.Numbers.{IsWide}
use Rattle.run_steps.proofs.Numbers.{word_small}
use Rattle.run_steps.specs.Reach.{Aims, Closed, Comes, Family, Reach, cost}
use Rattle.run_steps.proofs.Reach.{onward}
use Rattle.block_runs.proofs.CallStatements.{comes_map}
use Rattle.block_runs.proofs.PointGrounds.{in_known, point_ground}
use Rattle.program_runs.specs.Statements.{IsAmong}
use Rattle.expression_runs.specs.Values.{Setting}
use Rattle.expression_runs.proofs.Words.{frame_of}
use Rattle.element_runs.specs.Arrays.{IsBounds}
use Rattle.element_runs.specs.Subscripts.{SubscriptComes, error_aims}
use Rattle.element_runs.proofs.Bounds.{between_tested, distance_is, distance_word, is_between, opposite_small, place_at}
use Rattle.element_runs.proofs.Bounds.{range_small, same_number}
use Rattle.element_runs.proofs.SubscriptTests.{Jumps, free_with}
use Rattle.array_runs.proofs.Simple.{Apart}

-- ---- the distance

sum_zero : (y x : ℕ) → y ≡ x → x < 2 ^ 32 → sum y (word (pos 0)) ≡ x
sum_zero y x e h = omega (arith, e, h)

-- from a lower bound of 0 it is the subscript
no_distance :
    (lower z : ℤ) → same_int lower (pos 0) ≡ true → word z < 2 ^ 32 → word z ≡ sum (word z) (word (neg_ℤ lower))
no_distance lower z e small' =
    let n : sum (word z) (word (neg_ℤ (pos 0))) ≡ word z = sum_zero (word z) (word z) refl small' in
    sym (ap (λ l. sum (word z) (word (neg_ℤ l))) (same_number lower (pos 0) e) ∙ n)

less_by :
    (q : Bool) (k : Setting) {p : Point} {numbers : ℕ → ℕ} {i : ℕ} {ys : Base → List (ℕ × ℕ)} (h : frame_of k.block p)
    (c : ℕ) (f : Family) (b : Bounds) (z : ℤ) → same_int b.lower (pos 0) ≡ q → IsBounds b → IsWide z → Apart ys →
    Linked k.block.call.surroundings.links k.block.call.code i (cond q [] (plus u1 u1 (neg_ℤ b.lower))) →
    ((b' : Base) → At b' i (Known (point_ground k.block.call.surroundings p h) (services_of p) numbers (λ j. 0)
    (with' 6 (λ b0. word z) ys) b') (f b')) →
    Reach k.block.call.code c f (services_of p) (c + size_of (cond q [] (plus u1 u1 (neg_ℤ b.lower)))) (services_of p)
    (λ b' w. At b' (i + size_of (cond q [] (plus u1 u1 (neg_ℤ b.lower))))
    (Known (point_ground k.block.call.surroundings p h) (services_of p) numbers (λ j. 0)
    (with' 6 (λ b0. distance_word b z) ys) b') w)
less_by true k {p} {numbers} {ys = ys} h c f b z e is wide apart l at =
    let g = point_ground k.block.call.surroundings p h in
    straight c f (services_of p) (services_of p)
    (λ b'. Known g (services_of p) numbers (λ j. 0) (with' 6 (λ b0. distance_word b z) ys) b') l (omega arith)
    (λ b'. (at b').pc)
    (λ b'. let o = (at b').holds in record {
      body = o.body;
      regs = (o.regs.0 ∙ no_distance b.lower z e (word_small z wide), o.regs.1);
    })
less_by false k h c f b z e is wide apart l at =
    plus_own c f u1 (neg_ℤ b.lower) (λ b0. word z) (λ b0. distance_word b z) (opposite_small b is)
    (λ b0. word_small z wide) (λ y u. refl) (λ b0. refl) apart.free1
    (free_with 6 (λ b0. word z) (λ y u. refl) apart.far) l at

-- ---- the test

abbrev pub tested_skip : Code
tested_skip = skip_where Test.GreaterOrEqualUnsigned u2 u1 (error_raised subscript_code)

abbrev pub lower_code : Bounds → Code
lower_code b = less_lower (Y.ConstantExtent b.lower) (buffer_lower 0)

abbrev pub range_code : Bounds → Code
range_code b = constant u2 (b.upper -ℤ b.lower)

abbrev pub range_word : Bounds → ℕ
range_word b = word (b.upper -ℤ b.lower)

-- what its code takes
abbrev pub tested_size : Bounds → ℕ
tested_size b = size_of (lower_code b) + size_of (range_code b) + size_of tested_skip

-- with what comes behind it
abbrev pub tested_then : Bounds → Code → Code
tested_then b rest = lower_code b ++ (range_code b ++ (tested_skip ++ rest))

pub then_size : (b : Bounds) (rest : Code) → size_of (tested_then b rest) ≡ tested_size b + size_of rest
then_size b rest =
    let e1 = size_append (lower_code b) (range_code b ++ (tested_skip ++ rest)) in
    let e2 = size_append (range_code b) (tested_skip ++ rest) in
    let e3 = size_append tested_skip rest in
    omega (arith, e1, e2, e3)

both_then : (p q r : Bool) → (p && q) && r ≡ p && (q && r)
both_then true q r = refl
both_then false q r = refl

-- a subscript in u1 becomes its distance, and that of its bounds comes into u2, or ERROR comes
pub tested_does :
    (k : Setting) {p : Point} {numbers : ℕ → ℕ} {i : ℕ} {ys : Base → List (ℕ × ℕ)} {aims : Aims (Unit {0})} →
    SubscriptComes k → Closed k.block.call.code aims → Jumps k p.state.world.acts aims → (h : frame_of k.block p) →
    IsAmong k.block numbers p → p.control.line ≡ k.around.line → Apart ys → (c : ℕ) (f : Family) (b : Bounds)
    (z : ℤ) (more : Bool) (rest : Code) → IsBounds b → IsWide z →
    Linked k.block.call.surroundings.links k.block.call.code i (tested_then b rest) →
    c + tested_size b + k.most ≤ cost k.block.call.code →
    ((b' : Base) → At b' i (Known (point_ground k.block.call.surroundings p h) (services_of p) numbers (λ j. 0)
    (with' 6 (λ b0. word z) ys) b') (f b')) →
    (is_between b z ≡ true → (f' : Family) →
    ((b' : Base) → At b' (i + tested_size b) (Known (point_ground k.block.call.surroundings p h)
    (services_of p) numbers (λ j. 0) (with' 7 (λ b0. range_word b) (with' 6 (λ b0. place_at b z) ys)) b') (f' b')) →
    Comes k.block.call.code (c + tested_size b) f' (services_of p) aims
    (R.demanded k.around 102 more k.block.call.surroundings.acts p.state)) →
    Comes k.block.call.code c f (services_of p) aims
    (R.demanded k.around 102 (int_le b.lower z && (int_le z b.upper && more)) k.block.call.surroundings.acts p.state)
unfolding R.demanded choose give
tested_does k {p} {numbers} {i} {ys} {aims} outside closed jumps h o line apart c f b z more rest is wide l paid at
    next' =
    let l2 = back_of p1 (p2 ++ (tested_skip ++ rest)) l in
    let l3 = back_of p2 (tested_skip ++ rest) l2 in
    let r1 = less_by (same_int b.lower (pos 0)) k h c f b z refl is wide apart
    (front_of p1 (p2 ++ (tested_skip ++ rest)) l) at in
    subst (λ q. Comes code c f v aims (R.demanded k.around 102 q k.block.call.surroundings.acts p.state))
    (both_then (int_le b.lower z) (int_le z b.upper) more)
    (onward closed r1 (λ f1 at1.
    let r2 = constant_piece (c + size_of p1) f1 u2 (b.upper -ℤ b.lower) (range_small b is)
    (free_with 6 (λ b0. x) (λ y u. refl) apart.free2) (front_of p2 (tested_skip ++ rest) l2) at1 in
    onward closed r2 (λ f2 at2.
    by (is_between b z) refl f2 (front_of tested_skip rest l3) at2)))
  where
    code : List Instr
    code = k.block.call.code

    v : Services
    v = services_of p

    p1 : Code
    p1 = lower_code b

    p2 : Code
    p2 = range_code b

    x : ℕ
    x = distance_word b z

    range : ℕ
    range = range_word b

    g : Ground
    g = point_ground k.block.call.surroundings p h

    j : ℕ
    j = i + size_of p1 + size_of p2

    d : ℕ
    d = c + size_of p1 + size_of p2

    tests :
        (q : Bool) → is_between b z ≡ q → (f2 : Family) →
        ((b' : Base) → At b' j (Known g (services_of p) numbers (λ n. 0)
        (with' 7 (λ b0. range) (with' 6 (λ b0. x) ys)) b') (f2 b')) → (b' : Base) →
        (if nat_lt ((f2 b').machine.registers 7) ((f2 b').machine.registers 6) then false else true) ≡ q
    tests q e f2 at2 b' =
        let o' = (at2 b').holds.regs in
        ap (λ u. if nat_lt u ((f2 b').machine.registers 6) then false else true) o'.0
        ∙ ap (λ u. if nat_lt range u then false else true) o'.1.0
        ∙ ap (λ u. if u then false else true) (between_tested b z is wide)
        ∙ ap (λ u. if not u then false else true) e
        ∙ twice q
      where
        twice : (q : Bool) → (if not q then false else true) ≡ q
        twice true = refl
        twice false = refl

    by :
        (q : Bool) → is_between b z ≡ q → (f2 : Family) →
        Linked k.block.call.surroundings.links k.block.call.code j tested_skip →
        ((b' : Base) → At b' j (Known g (services_of p) numbers (λ n. 0)
        (with' 7 (λ b0. range) (with' 6 (λ b0. x) ys)) b') (f2 b')) →
        Comes k.block.call.code d f2 (services_of p) aims
        (R.demanded k.around 102 (q && more) k.block.call.surroundings.acts p.state)
    by true e f2 l' at2 =
        onward closed (skip_taken d f2 Test.GreaterOrEqualUnsigned u2 u1 (error_raised subscript_code) l' at2
        (tests true e f2 at2)) (λ f3 at3.
        subst (λ n. Comes code n f3 v aims (R.demanded k.around 102 more k.block.call.surroundings.acts p.state))
        (omega arith)
        (next' e f3 (λ b'. record {
          pc = (at3 b').pc ∙ ap (address b') (omega arith);
          holds = record {
            body = (at3 b').holds.body;
            regs = (
              (at3 b').holds.regs.0,
              ((at3 b').holds.regs.1.0 ∙ distance_is b z is wide e, (at3 b').holds.regs.1.1),
            );
          };
        })))
    by false e f2 l' at2 =
        onward closed (skip_passed d f2 Test.GreaterOrEqualUnsigned u2 u1 (error_raised subscript_code) l' at2
        (tests false e f2 at2)) (λ f3 at3.
        comes_map (error_aims k.block k.labels p.state.world.acts) aims jumps.0
        (R.error {R = Unit {0}} k.around 102 k.block.call.surroundings.acts p.state)
        (λ c' f' v' u s q. absurd q) jumps.1 (λ c' f' v' u s q. absurd q)
        (outside p numbers (d + 1) (j + 1) f3 o line (rest_of _ (error_raised subscript_code) l')
        (omega (arith, paid)) (λ b'. in_known h o.image.parts (at3 b'))))

-- what comes behind the test
pub last_of :
    {links : Links} {code : List Instr} {i : ℕ} (b : Bounds) (rest : Code) → Linked links code i (tested_then b rest) →
    Linked links code (i + size_of (lower_code b) + size_of (range_code b) + size_of tested_skip) rest
last_of b rest l =
    back_of tested_skip rest
    (back_of (range_code b) (tested_skip ++ rest) (back_of (lower_code b) (range_code b ++ (tested_skip ++ rest)) l))
