-- An element of an array: its subscripts, their tests, and its address; and what is loaded from there.
use Rattle.std.proofs.Common.{◌≡◌, ℕ, ◌+◌, ◌*◌, ◌<◌, ◌≤◌, List, [], ◌∷◌, ◌++◌, Bool, true, refl, sym, ap, ◌∙◌}
use Rattle.std.proofs.Common.{subst, arith}
use Rattle.std.specs.Prelude.{ℤ, pos, None, length, map, ◌==◌}
use Rattle.pli_typing.specs.Signatures.{Bit, Bounds, Fixed}
use Rattle.pli_typing.specs.TypedTree as Y
use Rattle.pli_meaning.specs.BasicValues.{BasicBit, BasicNumber, BasicOffset, BasicPointer, BasicText, BasicValue}
use Rattle.pli_meaning.specs.Contents.{element_place, is_within}
use Rattle.pli_meaning.specs.Control.{Meaning, give}
use Rattle.pli_meaning.specs.Evaluating as V
use Rattle.pli_meaning.specs.Raising as R
use Rattle.pli_coding.specs.Assembly.{size_of}
use Rattle.pli_coding.specs.Expressions.{bit_code, number_code, subscripts_code}
use Rattle.pli_coding.specs.Locating.{subscripts_counted}
use Rattle.pli_coding.specs.Registers.{a0, u3}
use Rattle.storage_relation.specs.Telling.{IsOf}
use Rattle.activation_relation.specs.Layers.{Point, services_of}
use Rattle.run_steps.specs.Bodies.{Known, with'}
use Rattle.run_steps.proofs.Bodies.{narrow_load_from}
use Rattle.run_steps.specs.Engine.{Base, address}
use Rattle.run_steps.specs.Items.{At, Linked}
use Rattle.run_steps.proofs.Jumps.{back_of, front_of}
use Rattle.run_steps.proofs.Linking.{size_append}
use Rattle.run_steps.specs.Numbers.{IsWide}
use Rattle.run_steps.specs.Reach.{Aims, Closed, Comes, Family, before, cost}
use Rattle.run_steps.proofs.Reach.{before_closed, comes_on, onward, reach_map, reach_with}
use Rattle.run_steps.specs.Temporaries.{nothing}
use Rattle.block_runs.specs.Machines.{AreIn, IsIn}
use Rattle.block_runs.proofs.PointGrounds.{in_known, known_in, point_ground}
use Rattle.program_runs.specs.Statements.{IsAmong, IsBegun}
use Rattle.program_runs.proofs.JumpsOut.{jumps_since}
use Rattle.expression_runs.specs.Laws as L
use Rattle.expression_runs.specs.Values.{HasRegisters, HasWord, Setting, Stretch, behind, in_registers, number_aims}
use Rattle.expression_runs.specs.Variables.{Spot, number_place, variable_of, whole_part}
use Rattle.expression_runs.proofs.VariablePoints.{first_base, reaches_by}
use Rattle.expression_runs.proofs.Words.{frame_of, number_closed}
use Rattle.pli_headline.proofs.Scalars.{IsNumeric, fewer_bits, load_kind}
use Rattle.test_runs.specs.Tests.{Tests, bit_aims}
use Rattle.test_runs.proofs.Operands.{bit_closed}
use Rattle.element_runs.specs.Arrays.{constant_bounds}
use Rattle.element_runs.specs.Subscripts.{SubscriptComes}
use Rattle.element_runs.proofs.Addresses.{found_code, found_reach}
use Rattle.element_runs.proofs.SubscriptTests.{Beside, Jumps, nothing_beside}
use Rattle.scalar_runs.proofs.ScalarWords.{kind_for, word_in}
use Rattle.array_runs.specs.Arrays.{Grid, IsArray, element}
use Rattle.array_runs.specs.Subscripts.{AreSubscripts}
use Rattle.array_runs.proofs.ArrayCode.{element_code, element_is, loads, number_loaded, bit_loaded, place_code}
use Rattle.array_runs.proofs.ArrayMeaning as N
use Rattle.array_runs.proofs.ArrayMeaning.{designated_element, designated_is, element_meant}
use Rattle.array_runs.proofs.ArrayPoints.{ElementAt, array_at, element_at, few_elements, frame_small, held_at, place_is}
use Rattle.array_runs.proofs.Counting.{AreFound, count_any}
use Rattle.array_runs.proofs.Evaluating.{evaluates, found_many}

-- ---- behind the subscripts

-- the element's distance from the frame in u3
abbrev pub Finds : (k : Setting) (x : Spot) (g : Grid) (is : IsArray k.block x g) (ys : Base → List (ℕ × ℕ))
    (p : Point) (numbers : ℕ → ℕ) (h : frame_of k.block p) (end : ℕ) (zs : List ℤ) → Family → Type 0
Finds k x g is ys p numbers h end zs f =
    (b' : Base) →
    At b' end (Known (point_ground k.block.call.surroundings p h) (services_of p) numbers (λ j. 0)
    (with' 28 (λ b0. b0.at + (is.known.base + 4 * element_place g.bounds zs)) ys) b') (f b')

-- subscripts that are found: the element's address comes into u3, or ERROR comes
pub placed_does :
    (k : Setting) {p : Point} {numbers : ℕ → ℕ} {index : ℕ} {ys : Base → List (ℕ × ℕ)} {aims : Aims V.Designated}
    (x : Spot) (g : Grid) (is : IsArray k.block x g) → IsNumeric g.type → SubscriptComes k → IsBegun k.block →
    Closed k.block.call.code aims → Jumps k p.state.world.acts aims → (h : frame_of k.block p) →
    IsAmong k.block numbers p → p.control.line ≡ k.around.line → Beside ys → (xs : Y.Numbers) (zs : List ℤ)
    (taken c : ℕ) (f : Family) → AreFound k p numbers h taken g.bounds xs zs →
    Linked k.block.call.surroundings.links k.block.call.code index
    (place_code k.block.environment (in_registers k.words taken) x g xs) →
    c + size_of (place_code k.block.environment (in_registers k.words taken) x g xs) + k.most
    ≤ cost k.block.call.code →
    ((b' : Base) → At b' index (Known (point_ground k.block.call.surroundings p h) (services_of p) numbers (λ j. 0)
    ys b') (f b')) →
    (is_within g.bounds zs ≡ true → (holds : N.Holds p.state x g) (el : ElementAt k.block x g is p holds zs)
    (f' : Family) →
    Finds k x g is ys p numbers h
    (index + size_of (place_code k.block.environment (in_registers k.words taken) x g xs)) zs f' →
    aims.done (c + size_of (place_code k.block.environment (in_registers k.words taken) x g xs)) f' (services_of p)
    (designated_element g holds.serial holds.values zs) p.state) →
    Comes k.block.call.code c f (services_of p) aims
    (V.variable_designated k.around (variable_of x) None whole_part zs k.block.call.surroundings.acts p.state)
unfolding give
placed_does k {p} {numbers} {index} {ys} {aims} x g is numeric outside begun closed jumps h o line beside xs zs taken c
    f found l paid at next' =
    let w = k.block.call.surroundings in
    let code = k.block.call.code in
    let v = services_of p in
    let q = x.level == k.block.environment.level in
    let a = array_at x g is o in
    let there' = found_code q x.level in
    let front = subscripts_counted k.block.environment (in_registers k.words taken) 0 xs
    (map constant_bounds g.bounds) in
    let n1 = size_append front there' in
    let next'' : Unit {0} → Meaning V.Designated = λ u. give (designated_element g a.0.serial a.0.values zs) in
    subst (Comes code c f v aims)
    (sym (designated_is k.around w.acts zs numeric (found_many k p numbers h taken g.bounds xs zs found) a.0))
    (comes_on w.acts (R.demanded k.around 102 (is_within g.bounds zs) w.acts p.state) next''
    (count_any k (record {
      outside = outside;
      closed = before_closed w.acts next'' closed;
      jumps = jumps;
      frame = h;
      among = o;
      line = line;
    }) beside xs g.bounds zs taken is.some is.bounds found (few_elements k.block x g is numeric) c index f
    (front_of front there' l) (omega (arith, paid, n1)) at
    (λ within f1 at1.
    let e = held_at x g is zs numeric within begun o f1 (λ b'. in_known h o.image.parts (at1 b')) a.0 a.1 in
    let small' = frame_small k.block x g is zs numeric within in
    let r = found_reach q x.level (c + size_of front) f1 is.known.base (element_place g.bounds zs) beside
    (reaches_by x.level is.known.base h begun o is.known.frame) (omega (arith, small')) (back_of front there' l) at1 in
    onward closed r (λ f2 at2.
    record {
      to = λ early.
          subst (λ n. aims.done n f2 v (designated_element g a.0.serial a.0.values zs) p.state) (omega (arith, n1))
          (next' within a.0 e f2 (λ b'. record {
            pc = (at2 b').pc ∙ ap (address b') (omega (arith, n1));
            holds = (at2 b').holds;
          }));
    }))))

-- ---- from any point of the block

-- what goes on where the element is found, at a point behind its subscripts
abbrev pub Next : (k : Setting) (x : Spot) (g : Grid) (is : IsArray k.block x g) (aims : Aims V.Designated)
    (p : Point) (numbers : ℕ → ℕ) (taken end credits : ℕ) → Type 0
Next k x g is aims p numbers taken end credits =
    (q : Point) (after : ℕ → ℕ) (h : frame_of k.block q) (zs : List ℤ) → is_within g.bounds zs ≡ true →
    IsAmong k.block after q → p.state.world.acts ≤ q.state.world.acts → q.control.line ≡ p.control.line →
    ((n : ℕ) → n < taken → after n ≡ numbers n) → (holds : N.Holds q.state x g) →
    ElementAt k.block x g is q holds zs → (f : Family) →
    Finds k x g is nothing q after h end zs f →
    aims.done credits f (services_of q) (designated_element g holds.serial holds.values zs) q.state

abbrev pub checks : Setting → Spot → List ℤ → Meaning V.Designated
checks k x zs = V.variable_designated k.around (variable_of x) None whole_part zs

pub located_does :
    (k : Setting) (aims : Aims V.Designated) (x : Spot) (g : Grid) (is : IsArray k.block x g) → IsNumeric g.type →
    SubscriptComes k → IsBegun k.block → Closed k.block.call.code aims → (xs : Y.Numbers) (need base t : ℕ) →
    AreSubscripts k t need g.bounds xs → (p : Point) (numbers : ℕ → ℕ) (taken c index : ℕ) (f : Family) →
    taken ≡ base + t → HasRegisters k base need → Jumps k p.state.world.acts aims → IsAmong k.block numbers p →
    p.control.line ≡ k.around.line →
    Linked k.block.call.surroundings.links k.block.call.code index
    (element_code k.block.environment (in_registers k.words taken) x g xs) →
    c + size_of (element_code k.block.environment (in_registers k.words taken) x g xs) + k.most
    ≤ cost k.block.call.code → AreIn k.block.call.surroundings p numbers index f →
    Next k x g is aims p numbers taken
    (index + size_of (element_code k.block.environment (in_registers k.words taken) x g xs))
    (c + size_of (element_code k.block.environment (in_registers k.words taken) x g xs)) →
    Comes k.block.call.code c f (services_of p) aims
    (V.designated k.around (element x xs) k.block.call.surroundings.acts p.state)
located_does k aims x g is numeric outside begun closed xs need base t subs p numbers taken c index f same room jumps o
    line l paid there next' =
    let w = k.block.call.surroundings in
    let code = k.block.call.code in
    let e = k.block.environment in
    let t0 = in_registers k.words taken in
    let front = subscripts_code e t0 xs in
    let last = place_code e t0 x g xs in
    let n1 = size_append front last in
    subst (Comes code c f (services_of p) aims) (sym (element_meant k.around x xs w.acts p.state))
    (comes_on w.acts (V.numbers k.around xs w.acts p.state) (λ zs. checks k x zs)
    (evaluates k g.bounds xs need base t (before code aims w.acts (λ zs. checks k x zs)) begun
    (before_closed w.acts (λ zs. checks k x zs) closed) subs p numbers taken c index f same room jumps o line
    (front_of front last l) (omega (arith, paid, n1)) there
    (λ q after h zs among since line2 stays found f1 in1.
    placed_does k x g is numeric outside begun closed
    (jumps.0, λ c' f' v' height label s' j. jumps.1 c' f' v' height label s' (jumps_since since j)) h among
    (line2 ∙ line) nothing_beside xs zs taken (c + size_of front) f1 found (back_of front last l)
    (omega (arith, paid, n1)) (λ b'. known_in h (in1 b') tt)
    (λ within holds el f2 finds.
    subst (λ n. aims.done n f2 (services_of q) (designated_element g holds.serial holds.values zs) q.state)
    (omega (arith, n1))
    (next' q after h zs within among since line2 stays holds el f2 (λ b'. record {
      pc = (finds b').pc ∙ ap (address b') (omega (arith, n1));
      holds = (finds b').holds;
    }))))))

-- ---- what is loaded

-- the word of an element comes into a0
read_word :
    (k : Setting) (x : Spot) (g : Grid) (is : IsArray k.block x g) → IsNumeric g.type → (p : Point)
    (numbers : ℕ → ℕ) (y : Stretch) (q : Point) (after : ℕ → ℕ) (h : frame_of k.block q) (zs : List ℤ) →
    is_within g.bounds zs ≡ true → IsAmong k.block after q → y.acts ≤ q.state.world.acts →
    q.control.line ≡ y.line → ((n : ℕ) → n < y.taken → after n ≡ y.numbers n) → (holds : N.Holds q.state x g) →
    ElementAt k.block x g is q holds zs → (c i : ℕ) (f : Family) → Finds k x g is nothing q after h i zs f →
    Linked k.block.call.surroundings.links k.block.call.code i (loads g.type k.block.environment x) →
    c + size_of (loads g.type k.block.environment x) ≡ y.wanted →
    i + size_of (loads g.type k.block.environment x) ≡ y.index →
    HasWord k.block y (word_in (holds.values 0 zs)) c f (services_of q) q.state
read_word k x g is numeric p numbers y q after h zs within among since line stays holds el c i f finds l paid end =
    let w = k.block.call.surroundings in
    let e = k.block.environment in
    let small' = frame_small k.block x g is zs numeric within in
    let even = (el.tells (f first_base).machine.memory (finds first_base).holds.body.memory.storage).1 in
    let load' = narrow_load_from c f a0 u3 (load_kind g.type) (pos (number_place e x))
    (is.known.base + 4 * element_place g.bounds zs) (element_at k.block x g is zs)
    (λ b'. word_in (holds.values 0 zs)) (place_is k.block x g is zs numeric within even)
    (omega (arith, small')) (λ y u. refl) (λ b' w' o'. o'.regs.0) (λ b' m stands. (el.tells m stands.storage).0)
    (record { reserved_stay = λ y u. refl; known_stay = λ b' y u o'. (o'.0, tt); set = λ y u. refl })
    (record { reserved_stay = λ y u. refl; known_stay = λ b' y u o'. (o'.0, tt); set = λ y u. refl }) l finds in
    record {
      point = q;
      numbers = after;
      among = among;
      since = since;
      line = line;
      stays = stays;
      state = refl;
      reach = reach_with y.wanted (omega (arith, paid))
          (reach_map _ load' (λ b' m u. (
            subst (λ j. IsIn w q after j b' m) end (in_known h among.image.parts u),
            u.holds.regs.0,
          )));
    }

number_of : (p : ℕ) (v : BasicValue) → IsOf (Fixed p) v → (z : ℤ) × (v ≡ BasicNumber z) × IsWide z
number_of p (BasicNumber z) is = (z, refl, fewer_bits p 31 z is.0 is.1)
number_of p (BasicText t) is = absurd is
number_of p (BasicBit b) is = absurd is
number_of p (BasicPointer n) is = absurd is
number_of p (BasicOffset o) is = absurd is

bit_of : (v : BasicValue) → IsOf Bit v → (b : Bool) × (v ≡ BasicBit b)
bit_of (BasicBit b) is = (b, refl)
bit_of (BasicNumber z) is = absurd is
bit_of (BasicText t) is = absurd is
bit_of (BasicPointer n) is = absurd is
bit_of (BasicOffset o) is = absurd is

pub numeric_number : (type : Y.LeafType) (precision : ℕ) → type ≡ Y.FixedLeaf precision → IsNumeric type
numeric_number type precision e = subst IsNumeric (sym e) tt

pub numeric_bit : (type : Y.LeafType) → type ≡ Y.BitLeaf → IsNumeric type
numeric_bit type e = subst IsNumeric (sym e) tt

no_subscripts :
    (k : Setting) (t need : ℕ) (bs : List Bounds) → 0 < length bs → AreSubscripts k t need bs Y.NoNumber → ⊥
no_subscripts k t need [] some subs = omega (arith, some)
no_subscripts k t need (b ∷ bs) some subs = subs

pub number_does :
    (k : Setting) (x : Spot) (g : Grid) (precision : ℕ) (xs : Y.Numbers) (need : ℕ) → IsBegun k.block →
    IsArray k.block x g → g.type ≡ Y.FixedLeaf precision → SubscriptComes k → AreSubscripts k 0 need g.bounds xs →
    L.Does k need (Y.NumberIn (element x xs))
number_does k x g precision Y.NoNumber need begun is fixed outside subs p numbers taken c index f o line room l paid
    there =
    absurd (no_subscripts k 0 need g.bounds is.some subs)
number_does k x g precision (Y.NumberThen s rest) need begun is fixed outside subs p numbers taken c index f o line room
    l paid there =
    let w = k.block.call.surroundings in
    let code = k.block.call.code in
    let e = k.block.environment in
    let t = in_registers k.words taken in
    let xs = Y.NumberThen s rest in
    let numeric = numeric_number g.type precision fixed in
    let r = element_code e t x g xs in
    let last = loads g.type e x in
    let same = number_loaded e t x g s rest is.initial numeric is.known.declared
    ∙ ap (λ u. u ++ last) (element_is e t x g s rest is.initial numeric is.known.declared) in
    let size = ap (λ u. size_of u) same in
    let n1 = size_append r last in
    let l' = subst (Linked w.links code index) same l in
    let y = behind p numbers taken c index (number_code e t (Y.NumberIn (element x xs))) in
    let goal = number_aims k.block k.labels y in
    subst (Comes code c f (services_of p) goal) (sym (N.number_meant k.around x xs w.acts p.state))
    (comes_on w.acts (V.designated k.around (element x xs) w.acts p.state) (λ d. N.number_of d)
    (located_does k (before code goal w.acts (λ d. N.number_of d)) x g is numeric outside begun
    (before_closed w.acts (λ d. N.number_of d) (number_closed k.block k.labels y)) xs need taken 0 subs p numbers taken
    c index f (omega arith) room (refl, λ c' f' v' height label s' q. q) o line (front_of r last l')
    (omega (arith, paid, size, n1)) there
    (λ q after h zs within among since line2 stays holds el f1 finds.
    let first = number_of precision (holds.values 0 zs)
    (subst (λ type. IsOf (kind_for type) (holds.values 0 zs)) fixed el.fits) in
    let word' = read_word k x g is numeric p numbers y q after h zs within among since line2 stays holds el
    (c + size_of r) (index + size_of r) f1 finds (back_of r last l') (omega (arith, size, n1))
    (omega (arith, size, n1)) in
    subst (Comes code (c + size_of r) f1 (services_of q) goal)
    (sym (N.number_is g holds.serial holds.values zs first.0 w.acts q.state numeric first.1))
    (record {
      to = λ early. (
        first.2,
        subst (λ u. HasWord k.block y u (c + size_of r) f1 (services_of q) q.state) (ap word_in first.1) word',
      );
    }))))

pub bit_does :
    (k : Setting) (x : Spot) (g : Grid) (xs : Y.Numbers) (need : ℕ) → IsBegun k.block → IsArray k.block x g →
    g.type ≡ Y.BitLeaf → SubscriptComes k → AreSubscripts k 0 need g.bounds xs →
    Tests k need (Y.BitIn (element x xs))
bit_does k x g Y.NoNumber need begun is bit outside subs p numbers taken c index f o line room l paid there =
    absurd (no_subscripts k 0 need g.bounds is.some subs)
bit_does k x g (Y.NumberThen s rest) need begun is bit outside subs p numbers taken c index f o line room l paid there =
    let w = k.block.call.surroundings in
    let code = k.block.call.code in
    let e = k.block.environment in
    let t = in_registers k.words taken in
    let xs = Y.NumberThen s rest in
    let numeric = numeric_bit g.type bit in
    let r = element_code e t x g xs in
    let last = loads g.type e x in
    let same = bit_loaded e t x g s rest is.initial numeric is.known.declared
    ∙ ap (λ u. u ++ last) (element_is e t x g s rest is.initial numeric is.known.declared) in
    let size = ap (λ u. size_of u) same in
    let n1 = size_append r last in
    let l' = subst (Linked w.links code index) same l in
    let y = behind p numbers taken c index (bit_code e t (Y.BitIn (element x xs))) in
    let goal = bit_aims k.block k.labels y in
    subst (Comes code c f (services_of p) goal) (sym (N.bit_meant k.around x xs w.acts p.state))
    (comes_on w.acts (V.designated k.around (element x xs) w.acts p.state) (λ d. N.bit_of d)
    (located_does k (before code goal w.acts (λ d. N.bit_of d)) x g is numeric outside begun
    (before_closed w.acts (λ d. N.bit_of d) (bit_closed k.block k.labels y)) xs need taken 0 subs p numbers taken
    c index f (omega arith) room (refl, λ c' f' v' height label s' q. q) o line (front_of r last l')
    (omega (arith, paid, size, n1)) there
    (λ q after h zs within among since line2 stays holds el f1 finds.
    let first = bit_of (holds.values 0 zs)
    (subst (λ type. IsOf (kind_for type) (holds.values 0 zs)) bit el.fits) in
    let word' = read_word k x g is numeric p numbers y q after h zs within among since line2 stays holds el
    (c + size_of r) (index + size_of r) f1 finds (back_of r last l') (omega (arith, size, n1))
    (omega (arith, size, n1)) in
    subst (Comes code (c + size_of r) f1 (services_of q) goal)
    (sym (N.bit_is g holds.serial holds.values zs first.0 w.acts q.state numeric first.1))
    (record {
      to = λ early.
          subst (λ u. HasWord k.block y u (c + size_of r) f1 (services_of q) q.state) (ap word_in first.1) word';
    }))))
