-- LBOUND, HBOUND and DIM of arrays: constants of the code.
use Rattle.std.proofs.Common.{◌≡◌, ℕ, zero, suc, ◌+◌, ◌*◌, ◌-◌, ◌%◌, ◌^◌, ◌<◌, ◌≤◌, List, [], ◌∷◌, ◌++◌, Option}
use Rattle.std.proofs.Common.{Some, Bool, true, refl, sym, ap, ◌∙◌, subst, arith}
use Rattle.std.specs.Prelude.{ℤ, pos, negsuc, ◌-ℤ◌, ◌+ℤ◌, cond, int_le, map, not, slice_get, take, unwrap_or}
use Rattle.std.specs.Prelude.{if◌then◌else◌}
use Rattle.std.proofs.Math.Nat.{mul-le-mul_left, mul-le-mul_right}
use Rattle.std.proofs.lemmas.Int.{ints}
use Rattle.std.proofs.lemmas.Bool.Decides.{nat_tests}
use Rattle.rv_meaning.specs.declared.instr.ImmediateOp.TheVariants as Imm
use Rattle.rv_meaning.specs.Words.{sum, word}
use Rattle.pli_language.specs.declared.condition.Condition.TheVariants as C
use Rattle.pli_language.specs.Tree as T
use Rattle.pli_typing.specs.Signatures.{Bounds, element_count, natural, span}
use Rattle.pli_typing.specs.TypedTree as Y
use Rattle.pli_meaning.specs.BasicValues.{VariableName}
use Rattle.pli_meaning.specs.Codes.{fixed_overflow_code}
use Rattle.pli_meaning.specs.Contents.{is_within}
use Rattle.pli_meaning.specs.Control.{Normal, choose, flow_on, give, given, looked, stuck, ◌>>=◌, ◌>>◌}
use Rattle.pli_meaning.specs.Evaluating as V
use Rattle.pli_meaning.specs.Numbers.{Gives, Raises, checked, is_of_precision, wrapped}
use Rattle.pli_meaning.specs.Raising as R
use Rattle.pli_meaning.specs.Raising.{Around}
use Rattle.pli_meaning.specs.StorageState.{State}
use Rattle.pli_coding.specs.Assembly.{Code, size_of}
use Rattle.pli_coding.specs.Environments.{Environment, Taken, no_declaration}
use Rattle.pli_coding.specs.Expressions.{BoundAsked, ElementsAsked, LowerAsked, UpperAsked, bound_code, no_bounds}
use Rattle.pli_coding.specs.Arithmetic.{count_checked}
use Rattle.pli_coding.specs.Expressions.{asked_code, number_code}
use Rattle.pli_coding.specs.Frames.{are_constant, has_constant_size}
use Rattle.pli_coding.specs.Instructions.{constant, immediate, subtract}
use Rattle.pli_coding.specs.Locating.{class_found, is_referred, leaf_found, located, no_leaf}
use Rattle.pli_coding.specs.Registers.{a0, u1}
use Rattle.activation_relation.specs.Layers.{Point, services_of}
use Rattle.run_steps.specs.Bodies.{Known}
use Rattle.run_steps.proofs.Bodies.{constant_piece, set_known}
use Rattle.run_steps.specs.Engine.{Base}
use Rattle.run_steps.specs.Items.{At, Linked}
use Rattle.run_steps.proofs.Items.{straight}
use Rattle.run_steps.proofs.Jumps.{back_of, front_of}
use Rattle.run_steps.proofs.Linking.{size_append}
use Rattle.run_steps.specs.Numbers.{IsWide}
use Rattle.run_steps.proofs.Numbers.{word_small}
use Rattle.run_steps.specs.Reach.{Comes, Family, Reach, reached}
use Rattle.run_steps.proofs.Reach.{reach_then, reached_holds}
use Rattle.run_steps.proofs.Reaching.{reach_moved}
use Rattle.run_steps.specs.Temporaries.{nothing}
use Rattle.block_runs.proofs.PointGrounds.{known_in, point_frame, point_ground}
use Rattle.expression_runs.specs.Laws as L
use Rattle.expression_runs.specs.Values.{HasWord, Setting, behind, in_registers, number_aims}
use Rattle.expression_runs.specs.Variables.{Spot, variable_of, whole, whole_part}
use Rattle.expression_runs.proofs.Words.{frame_of, valued, word_here}
use Rattle.pli_headline.proofs.Scalars.{IsNumeric}
use Rattle.element_runs.specs.Arrays.{IsBounds, constant_bounds}
use Rattle.array_runs.specs.Arrays.{AreBounds, Grid, IsArray, IsDimension, IsElementType, grid_declared}
use Rattle.array_runs.proofs.ArrayCode.{Declares, constant_is}
use Rattle.array_runs.proofs.ArrayMeaning.{Holds, designated_element, held_shape, named_is}
use Rattle.array_runs.proofs.ArrayPoints.{array_at, few_elements}
use Rattle.array_runs.proofs.Counting.{count_some}

-- ---- the bounds of a dimension

bounds_there : (bs : List Bounds) (n : ℕ) (b : Bounds) → AreBounds bs → IsDimension bs n b → IsBounds b
bounds_there [] n b are is = absurd (cc is)
bounds_there (c ∷ bs) zero b are is = let same : c ≡ b = cc is in subst IsBounds same are.0
bounds_there (c ∷ bs) (suc n) b are is = bounds_there bs n b are.1 is

coded_there :
    (bs : List Bounds) (n : ℕ) (b : Bounds) → IsDimension bs n b →
    slice_get (map constant_bounds bs) n ≡ Some (constant_bounds b)
coded_there [] n b is = absurd (cc is)
coded_there (c ∷ bs) zero b is = let same : c ≡ b = cc is in ap (λ d. Some (constant_bounds d)) same
coded_there (c ∷ bs) (suc n) b is = coded_there bs n b is

numeric_element : (t : Y.LeafType) → IsElementType t → IsNumeric t
numeric_element (Y.FixedLeaf p) is = tt
numeric_element Y.BitLeaf is = tt
numeric_element _ is = absurd is

-- ---- what they mean

whole_is :
    (around : Around) {s : State} {x : Spot} {g : Grid} (k : ℕ) → IsNumeric g.type → (h : Holds s x g) →
    V.designated around (whole x) k s ≡ give (designated_element g h.serial h.values []) k s
unfolding V.designated V.located V.numbers V.variable_designated V.part_designated looked ◌>>=◌ ◌>>◌ R.or_error
    R.demanded choose give
whole_is around {s} {x} {g} k is h =
    ap (λ o. flow_on k (R.or_error around 101 o k s)
    (λ b. V.part_designated around b.name b.shape whole_part [])) h.stands
    ∙ ap (λ o. flow_on k (R.or_error around 101 o k s)
    (λ c. ◌>>=◌ (R.or_error around 107 (V.extent_in_force c whole_part))
    (λ e. ◌>>◌ (R.demanded around 102 (is_within (take 0 (V.leaf_at (held_shape g) e 0).bounds) []))
    (give (record {
      name = VariableName h.serial;
      generation = c;
      extent = e;
      part = whole_part;
      subscripts = [];
    }))))) (named_is is h)

lower_is :
    (around : Around) {s : State} {x : Spot} {g : Grid} (k n : ℕ) (b : Bounds) → IsNumeric g.type →
    Holds s x g → IsDimension g.bounds n b → V.number around (Y.LowerBound (whole x) (suc n)) k s ≡ Normal b.lower s
unfolding V.number ◌>>=◌ give given
lower_is around {s} k n b is h there =
    ap (λ q. flow_on k q (λ d. given (V.bounds_in d (suc n)) (λ c. give c.lower) stuck)) (whole_is around k is h)
    ∙ ap (λ o. given o (λ c. give c.lower) stuck k s) there

upper_is :
    (around : Around) {s : State} {x : Spot} {g : Grid} (k n : ℕ) (b : Bounds) → IsNumeric g.type →
    Holds s x g → IsDimension g.bounds n b → V.number around (Y.UpperBound (whole x) (suc n)) k s ≡ Normal b.upper s
unfolding V.number ◌>>=◌ give given
upper_is around {s} k n b is h there =
    ap (λ q. flow_on k q (λ d. given (V.bounds_in d (suc n)) (λ c. give c.upper) stuck)) (whole_is around k is h)
    ∙ ap (λ o. given o (λ c. give c.upper) stuck k s) there

-- ---- their code

abbrev declared_in : Option Y.DeclaredVariable → Y.DeclaredVariable
declared_in o = unwrap_or o no_declaration

abbrev bounds_by : Option Y.DeclaredVariable → ℕ → Y.Bounds
bounds_by o n = unwrap_or (slice_get (unwrap_or (slice_get (declared_in o).leaves 0) no_leaf).bounds n) no_bounds

abbrev otherwise_found : Environment → Taken → Spot → Y.Bounds → Code
otherwise_found e t x b =
    class_found e t (variable_of x) Y.AutomaticClass
    ++ leaf_found e (located e t (variable_of x)) 0 (not (are_constant b)) (is_referred e (variable_of x) whole_part)

abbrev asked_from : Environment → Taken → Spot → BoundAsked → ℕ → Bool → Y.Bounds → Code
asked_from e t x asked n q b = (if q then [] else otherwise_found e t x b) ++ bound_code t asked b (suc n)

asked_is :
    (e : Environment) (t : Taken) (x : Spot) (g : Grid) (asked : BoundAsked) (n : ℕ) (b : Bounds)
    (initial : List T.InitialItem) → IsNumeric g.type → Declares e x g initial → IsDimension g.bounds n b →
    asked_code e t (whole x) asked (suc n) ≡ bound_code t asked (constant_bounds b) (suc n)
asked_is e t x g asked n b initial is declared there =
    ap (λ o. asked_from e t x asked n (has_constant_size (declared_in o)) (bounds_by o n)) declared
    ∙ ap (λ q. asked_from e t x asked n q (bounds_by (Some (grid_declared g initial)) n)) (constant_is g initial is)
    ∙ ap (λ o. bound_code t asked (unwrap_or o no_bounds) (suc n)) (coded_there g.bounds n b there)

-- ---- each is a constant

pub lower_does :
    (k : Setting) (x : Spot) (g : Grid) (n : ℕ) (b : Bounds) → IsArray k.block x g → IsDimension g.bounds n b →
    L.Does k 0 (Y.LowerBound (whole x) (suc n))
lower_does k x g n b is there p numbers taken c index f o line registers l paid in' =
    let w = k.block.call.surroundings in
    let e = k.block.environment in
    let t = in_registers k.words taken in
    let numeric = numeric_element g.type is.type in
    let a = array_at x g is o in
    let wide = (bounds_there g.bounds n b is.bounds there).lower in
    let same = asked_is e t x g LowerAsked n b is.initial numeric is.known.declared there in
    let h = point_frame o.stands o.image in
    let part = number_code e t (Y.LowerBound (whole x) (suc n)) in
    let y = behind p numbers taken c index part in
    let r = constant_piece {t = λ i. 0} {rs = nothing} c f a0 b.lower (word_small b.lower wide)
    (record { reserved_stay = λ y u. refl; known_stay = λ b y u q. q; set = λ y u. refl })
    (subst (Linked w.links k.block.call.code index) same l) (λ b'. known_in h (in' b') tt) in
    subst (λ flow. Comes k.block.call.code c f (services_of p) (number_aims k.block k.labels y) flow)
    (sym (lower_is k.around w.acts n b numeric a.0 there))
    (record {
      to = λ early. (
        wide,
        subst (λ code. HasWord k.block (behind p numbers taken c index code) (word b.lower) c f (services_of p) p.state)
            (sym same)
            (word_here {x = behind p numbers taken c index (constant a0 b.lower)} h o (omega arith) refl r),
      );
    })

pub upper_does :
    (k : Setting) (x : Spot) (g : Grid) (n : ℕ) (b : Bounds) → IsArray k.block x g → IsDimension g.bounds n b →
    L.Does k 0 (Y.UpperBound (whole x) (suc n))
upper_does k x g n b is there p numbers taken c index f o line registers l paid in' =
    let w = k.block.call.surroundings in
    let e = k.block.environment in
    let t = in_registers k.words taken in
    let numeric = numeric_element g.type is.type in
    let a = array_at x g is o in
    let wide = (bounds_there g.bounds n b is.bounds there).upper in
    let same = asked_is e t x g UpperAsked n b is.initial numeric is.known.declared there in
    let h = point_frame o.stands o.image in
    let part = number_code e t (Y.UpperBound (whole x) (suc n)) in
    let y = behind p numbers taken c index part in
    let r = constant_piece {t = λ i. 0} {rs = nothing} c f a0 b.upper (word_small b.upper wide)
    (record { reserved_stay = λ y u. refl; known_stay = λ b y u q. q; set = λ y u. refl })
    (subst (Linked w.links k.block.call.code index) same l) (λ b'. known_in h (in' b') tt) in
    subst (λ flow. Comes k.block.call.code c f (services_of p) (number_aims k.block k.labels y) flow)
    (sym (upper_is k.around w.acts n b numeric a.0 there))
    (record {
      to = λ early. (
        wide,
        subst (λ code. HasWord k.block (behind p numbers taken c index code) (word b.upper) c f (services_of p) p.state)
            (sym same)
            (word_here {x = behind p numbers taken c index (constant a0 b.upper)} h o (omega arith) refl r),
      );
    })

-- ---- how many there are

span_few : (bs : List Bounds) (n : ℕ) (b : Bounds) → AreBounds bs → IsDimension bs n b → span b ≤ element_count bs
span_few [] n b are is = absurd (cc is)
span_few (c ∷ bs) zero b are is =
    let same : c ≡ b = cc is in
    let some = count_some bs are.1 in
    let product = mul-le-mul_left (span c) some in
    subst (λ d. span d ≤ span c * element_count bs) same (omega (arith, product))
span_few (c ∷ bs) (suc n) b are is =
    let rest = span_few bs n b are.1 is in
    let one = count_some (c ∷ []) (are.0, tt) in
    let product = mul-le-mul_right (element_count bs) one in
    omega (arith, rest, product)

count_by : (l u : ℤ) → int_le l u ≡ true → u -ℤ l +ℤ pos 1 ≡ pos (natural (u -ℤ l +ℤ pos 1))
count_by (pos l) (pos u) e = grind (arith, ints, nat_tests)
count_by (pos l) (negsuc u) e = absurd (cc e)
count_by (negsuc l) (pos u) e = grind (arith, ints, nat_tests)
count_by (negsuc l) (negsuc u) e = grind (arith, ints, nat_tests)

count_word :
    (l u : ℤ) → IsWide l → IsWide u → int_le l u ≡ true → natural (u -ℤ l +ℤ pos 1) < 2 ^ 31 →
    sum ((word u + (2 ^ 32 - word l)) % 2 ^ 32) (word (pos 1)) ≡ natural (u -ℤ l +ℤ pos 1)
count_word (pos l) (pos u) wl wu e few = grind (arith, ints, nat_tests)
count_word (pos l) (negsuc u) wl wu e few = absurd (cc e)
count_word (negsuc l) (pos u) wl wu e few = grind (arith, ints, nat_tests)
count_word (negsuc l) (negsuc u) wl wu e few = grind (arith, ints, nat_tests)

count_wide : (n : ℕ) → n < 2 ^ 31 → is_of_precision 31 (pos n) ≡ true
count_wide n few = grind (arith, nat_tests)

elements_is :
    (around : Around) {s : State} {x : Spot} {g : Grid} (k n : ℕ) (b : Bounds) → IsNumeric g.type →
    Holds s x g → IsDimension g.bounds n b → is_of_precision 31 (V.elements_between b) ≡ true →
    V.number around (Y.ElementsOf (whole x) (suc n)) k s ≡ Normal (V.elements_between b) s
unfolding V.number R.value_of ◌>>=◌ give given
elements_is around {s} k n b is h there wide =
    let z = V.elements_between b in
    ap (λ q. flow_on k q (λ d. given (V.bounds_in d (suc n))
    (λ c. R.value_of around (checked 31 (V.elements_between c))) stuck)) (whole_is around k is h)
    ∙ ap (λ o. given o (λ c. R.value_of around (checked 31 (V.elements_between c))) stuck k s) there
    ∙ ap (λ q. R.value_of around (cond q (Gives z) (Raises C.FixedOverflow fixed_overflow_code (wrapped 31 z))) k s)
    wide

abbrev elements_read : Bounds → Code
elements_read b =
    constant a0 b.upper ++ (constant u1 b.lower ++ (subtract a0 a0 u1 ∷ immediate Imm.Add a0 a0 (pos 1) ∷ []))

elements_coded :
    (t : Taken) (b : Bounds) (n : ℕ) → is_of_precision 31 (V.elements_between b) ≡ true →
    bound_code t ElementsAsked (constant_bounds b) (suc n) ≡ elements_read b
elements_coded t b n wide =
    ap (λ q. constant a0 b.upper ++ (constant u1 b.lower ++ (subtract a0 a0 u1 ∷ immediate Imm.Add a0 a0 (pos 1)
    ∷ cond q [] (count_checked t)))) wide

-- from a0, the upper bound, and u1, the lower one
elements_reach :
    (k : Setting) {p : Point} {numbers : ℕ → ℕ} {index : ℕ} (h : frame_of k.block p) (c : ℕ) (f : Family)
    (b : Bounds) → IsBounds b → span b < 2 ^ 31 →
    Linked k.block.call.surroundings.links k.block.call.code index (elements_read b) →
    ((b' : Base) → At b' index (Known (point_ground k.block.call.surroundings p h) (services_of p) numbers (λ j. 0)
    nothing b') (f b')) →
    Reach k.block.call.code c f (services_of p) (c + size_of (elements_read b)) (services_of p)
    (λ b' y. At b' (index + size_of (elements_read b)) (Known (point_ground k.block.call.surroundings p h)
    (services_of p) numbers (λ j. 0) (valued (span b)) b') y)
elements_reach k {p} {numbers} {index} h c f b is few l at =
    let g = point_ground k.block.call.surroundings p h in
    let v = services_of p in
    let first = constant a0 b.upper in
    let second = constant u1 b.lower in
    let last : Code = subtract a0 a0 u1 ∷ immediate Imm.Add a0 a0 (pos 1) ∷ [] in
    let n1 = size_append first (second ++ last) in
    let n2 = size_append second last in
    let l2 = back_of first (second ++ last) l in
    let r1 = constant_piece {g = g} {v = v} {h = numbers} {t = λ j. 0} {rs = nothing} c f a0 b.upper
    (word_small b.upper is.upper)
    (record { reserved_stay = λ y u. refl; known_stay = λ b' y u q. q; set = λ y u. refl })
    (front_of first (second ++ last) l) at in
    let r2 = constant_piece {g = g} {v = v} {h = numbers} {t = λ j. 0} (c + size_of first) (reached r1) u1 b.lower
    (word_small b.lower is.lower)
    (record { reserved_stay = λ y u. refl; known_stay = λ b' y u q. (q.0, tt); set = λ y u. refl })
    (front_of second last l2) (λ b'. reached_holds r1 b') in
    let r3 = straight (c + size_of first + size_of second) (reached r2) v v
    (λ b'. Known g v numbers (λ j. 0) (valued (span b)) b') (back_of second last l2) (omega arith)
    (λ b'. (reached_holds r2 b').pc)
    (λ b'.
    let w = reached r2 b' in
    let o = (reached_holds r2 b').holds in
    let x = (w.machine.registers 10 + (2 ^ 32 - w.machine.registers 6)) % 2 ^ 32 in
    let d = (word b.upper + (2 ^ 32 - word b.lower)) % 2 ^ 32 in
    let k1 = set_known {rs = nothing} w 10 x w.machine.pc (λ b0. d)
    (record { reserved_stay = λ y u. refl; known_stay = λ b0 y u q. q; set = λ y u. refl })
    (ap (λ m. (m + (2 ^ 32 - w.machine.registers 6)) % 2 ^ 32) o.regs.1.0
    ∙ ap (λ m. (word b.upper + (2 ^ 32 - m)) % 2 ^ 32) o.regs.0)
    (record { body = o.body; regs = tt }) in
    set_known {rs = nothing} _ 10 _ _ (λ b0. span b)
    (record { reserved_stay = λ y u. refl; known_stay = λ b0 y u q. q; set = λ y u. refl })
    (ap (λ m. sum m (word (pos 1))) k1.regs.0 ∙ count_word b.lower b.upper is.lower is.upper is.order few)
    (record { body = k1.body; regs = tt })) in
    reach_moved (omega (arith, n1, n2)) (omega (arith, n1, n2)) (reach_then r1 (reach_then r2 r3))

pub elements_does :
    (k : Setting) (x : Spot) (g : Grid) (n : ℕ) (b : Bounds) → IsArray k.block x g → IsDimension g.bounds n b →
    L.Does k 0 (Y.ElementsOf (whole x) (suc n))
elements_does k x g n b is there p numbers taken c index f o line registers l paid in' =
    let w = k.block.call.surroundings in
    let e = k.block.environment in
    let t = in_registers k.words taken in
    let numeric = numeric_element g.type is.type in
    let a = array_at x g is o in
    let bounds = bounds_there g.bounds n b is.bounds there in
    let less = span_few g.bounds n b is.bounds there in
    let most = few_elements k.block x g is numeric in
    let few : span b < 2 ^ 31 = omega (arith, less, most) in
    let counts = count_by b.lower b.upper bounds.order in
    let wide = ap (λ z. is_of_precision 31 z) counts ∙ count_wide (span b) few in
    let same = asked_is e t x g ElementsAsked n b is.initial numeric is.known.declared there
    ∙ elements_coded t b n wide in
    let h = point_frame o.stands o.image in
    let part = number_code e t (Y.ElementsOf (whole x) (suc n)) in
    let y = behind p numbers taken c index part in
    let r = elements_reach k h c f b bounds few (subst (Linked w.links k.block.call.code index) same l)
    (λ b'. known_in h (in' b') tt) in
    subst (λ flow. Comes k.block.call.code c f (services_of p) (number_aims k.block k.labels y) flow)
    (sym (elements_is k.around w.acts n b numeric a.0 there wide))
    (record {
      to = λ early. (
        wide,
        subst (λ u. HasWord k.block y u c f (services_of p) p.state) (sym (ap word counts))
            (subst (λ code. HasWord k.block (behind p numbers taken c index code) (span b) c f (services_of p) p.state)
            (sym same)
            (word_here {x = behind p numbers taken c index (elements_read b)} h o (omega arith) refl r)),
      );
    })
