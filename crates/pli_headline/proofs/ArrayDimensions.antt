-- The bounds of a dimension and the number of its subscripts (LBOUND, HBOUND and DIMENSION), for a ground on which the array stands.
use Rattle.std.proofs.Common.{◌≡◌, ℕ, zero, suc, ◌+◌, ◌*◌, ◌^◌, ◌<◌, ◌≤◌, List, [], ◌∷◌, ◌++◌, map, Option, Some, None, Bool, true, refl, sym, ap, ◌∙◌, subst, arith}
use Rattle.std.specs.Prelude.{ℤ, pos, negsuc, ◌-ℤ◌, ◌+ℤ◌, cond, int_le, slice_get, take, unwrap_or, not, if◌then◌else◌}
use Rattle.std.proofs.lemmas.Int.{ints}
use Rattle.std.proofs.lemmas.Bool.Decides.{nat_tests}
use Rattle.rv_meaning.specs.declared.instr.Instr.{Instr}
use Rattle.rv_meaning.specs.declared.instr.ImmediateOp.TheVariants as Imm
use Rattle.rv_meaning.specs.declared.instr.RegisterOp.TheVariants as Op
use Rattle.rv_meaning.specs.Words.{word, sum, operated}
use Rattle.pli_typing.specs.Signatures.{Bounds, span, element_count}
use Rattle.pli_typing.specs.TypedTree as Y
use Rattle.pli_language.specs.declared.condition.Condition.TheVariants.{FixedOverflow}
use Rattle.pli_meaning.specs.Codes.{fixed_overflow_code}
use Rattle.pli_meaning.specs.Numbers.{is_of_precision, wrapped, Gives, Raises, checked}
use Rattle.pli_meaning.specs.BasicValues.{VariableName, BasicValue}
use Rattle.pli_meaning.specs.Contents.{is_within, same_shape}
use Rattle.pli_meaning.specs.StorageState.{State, if_same_shape, named, standing_for, generation_of, living_of}
use Rattle.pli_meaning.specs.Control.{Meaning, give, given, stuck, flow_on, looked, choose, ◌>>=◌, ◌>>◌}
use Rattle.pli_meaning.specs.Raising as R
use Rattle.pli_meaning.specs.Raising.{Around}
use Rattle.pli_meaning.specs.Evaluating as V
use Rattle.pli_serving.specs.ServiceState.{Services}
use Rattle.pli_coding.specs.Registers.{a0, u1}
use Rattle.pli_coding.specs.Assembly.{Code, size_of}
use Rattle.pli_coding.specs.Instructions.{constant, subtract, immediate}
use Rattle.pli_coding.specs.Frames.{has_constant_size, are_constant}
use Rattle.pli_coding.specs.Environments.{Environment, Taken}
use Rattle.pli_coding.specs.Arithmetic.{count_checked}
use Rattle.pli_coding.specs.Expressions.{BoundAsked, LowerAsked, UpperAsked, ElementsAsked, bounds_at, no_bounds, bound_code, number_code, asked_code}
use Rattle.pli_coding.specs.Locating as L
use Rattle.pli_coding.specs.Linking.{Links}
use Rattle.temporary_bounds.specs.WordBounds.{number_words}
use Rattle.pli_headline.specs.ProvedSoFar.{Names, constant_bounds, IsBounds, AreBounds, array_variable, text_leaf}
use Rattle.run_steps.specs.Engine.{address}
use Rattle.run_steps.proofs.Linking.{size_append}
use Rattle.run_steps.specs.Items.{Linked}
use Rattle.run_steps.proofs.Items.{straight}
use Rattle.run_steps.specs.Numbers.{IsWide}
use Rattle.run_steps.proofs.Numbers.{word_small}
use Rattle.run_steps.specs.Bodies.{Ground, Known, Free}
use Rattle.run_steps.proofs.Bodies.{constant_piece}
use Rattle.run_steps.proofs.Jumps.{front_of, back_of}
use Rattle.run_steps.specs.Temporaries.{nothing}
use Rattle.run_steps.proofs.Temporaries.{stays_same}
use Rattle.pli_headline.proofs.Operators.{valued}
use Rattle.pli_headline.proofs.Variables.{whole, own, whole_part, declared_in}
use Rattle.pli_headline.proofs.Evaluations.{number_kind, Evaluates}
use Rattle.pli_headline.proofs.ArrayPlaces.{suc-times, span_is, count_some}
use Rattle.pli_headline.proofs.ArrayMeant.{array_shape, array_generation, same_array, designated_element, array_binding}
use Rattle.pli_headline.proofs.ArrayElements.{IsDeclaredArray, ArrayScope, size_constant}
use Rattle.run_steps.specs.Reach.{Comes}
use Rattle.run_steps.proofs.Reach.{onward}
use Rattle.pli_headline.proofs.TextArrayMeant.{same_text_array}
use Rattle.pli_headline.proofs.TextElements.{TextArrayScope, text_size_constant}

-- ---- what is asked

abbrev pub asked_number : BoundAsked → Y.Reference → (dimension : ℕ) → Y.Number
asked_number LowerAsked r dimension = Y.LowerBound r dimension
asked_number UpperAsked r dimension = Y.UpperBound r dimension
asked_number ElementsAsked r dimension = Y.ElementsOf r dimension

abbrev pub answer_of : BoundAsked → Bounds → ℤ
answer_of LowerAsked b = b.lower
answer_of UpperAsked b = b.upper
answer_of ElementsAsked b = V.elements_between b

-- ---- the code

abbrev few_code : BoundAsked → Bounds → Code
few_code LowerAsked b = constant a0 b.lower
few_code UpperAsked b = constant a0 b.upper
few_code ElementsAsked b =
    constant a0 b.upper ++ (constant u1 b.lower ++ (subtract a0 a0 u1 ∷ immediate Imm.Add a0 a0 (pos 1) ∷ []))

abbrev pub checked_if : Bool → Taken → Code
checked_if q t = if q then [] else count_checked t

abbrev pub answer_code : Taken → BoundAsked → Bounds → Code
answer_code t LowerAsked b = constant a0 b.lower
answer_code t UpperAsked b = constant a0 b.upper
answer_code t ElementsAsked b =
    constant a0 b.upper
    ++ (constant u1 b.lower
    ++ (subtract a0 a0 u1 ∷ immediate Imm.Add a0 a0 (pos 1) ∷ checked_if (is_of_precision 31 (V.elements_between b)) t))

-- where a number holds how many there are
few_is : (t : Taken) (asked : BoundAsked) (b : Bounds) → IsWide (V.elements_between b) → answer_code t asked b ≡ few_code asked b
few_is t LowerAsked b wide = refl
few_is t UpperAsked b wide = refl
few_is t ElementsAsked b wide =
    ap (λ q. constant a0 b.upper ++ (constant u1 b.lower ++ (subtract a0 a0 u1 ∷ immediate Imm.Add a0 a0 (pos 1) ∷ checked_if q t))) wide

-- by the array's declaration
abbrev bounds_by : Option Y.DeclaredVariable → (place : ℕ) → Y.Bounds
bounds_by o n = unwrap_or (slice_get (unwrap_or (slice_get (declared_in o).leaves 0) L.no_leaf).bounds n) no_bounds

abbrev found_otherwise : Environment → Taken → (block : Names) (index place : ℕ) → Code
found_otherwise e t block index n =
    let v = own block index in
    L.class_found e t v v.class ++ L.leaf_found e (L.located e t v) 0 (not (are_constant (bounds_at e v whole_part (suc n)))) (L.is_referred e v whole_part)

bounds_mapped : (bs : List Bounds) (n : ℕ) (b : Bounds) → slice_get bs n ≡ Some b → slice_get (map constant_bounds bs) n ≡ Some (constant_bounds b)
bounds_mapped [] n b h = absurd (cc h)
bounds_mapped (c ∷ bs) zero b h = let e : c ≡ b = cc h in ap (λ u. Some (constant_bounds u)) e
bounds_mapped (c ∷ bs) (suc n) b h = bounds_mapped bs n b h

code_by : (t : Taken) (asked : BoundAsked) (b : Bounds) (n : ℕ) → bound_code t asked (constant_bounds b) (suc n) ≡ answer_code t asked b
code_by t LowerAsked b n = refl
code_by t UpperAsked b n = refl
code_by t ElementsAsked b n = refl

asked_alike : (asked : BoundAsked) (e : Environment) (t : Taken) (r : Y.Reference) (dimension : ℕ) → number_code e t (asked_number asked r dimension) ≡ asked_code e t r asked dimension
asked_alike LowerAsked e t r dimension = refl
asked_alike UpperAsked e t r dimension = refl
asked_alike ElementsAsked e t r dimension = refl

pub answer_is : (asked : BoundAsked) (e : Environment) (t : Taken) (block : Names) (j : ℕ) (type : Y.LeafType) (bs : List Bounds) (n : ℕ) (b : Bounds) → has_constant_size (array_variable type bs []) ≡ true → IsDeclaredArray e block j type bs → slice_get bs n ≡ Some b → number_code e t (asked_number asked (whole (own block j)) (suc n)) ≡ answer_code t asked b
answer_is asked e t block j type bs n b sized declared among =
    let other = found_otherwise e t block j n in
    asked_alike asked e t (whole (own block j)) (suc n)
    ∙ ap (λ o. (if has_constant_size (declared_in o) then [] else other) ++ bound_code t asked (bounds_by o n) (suc n)) declared.1
    ∙ ap (λ q. (if q then [] else other) ++ bound_code t asked (unwrap_or (slice_get (map constant_bounds bs) n) no_bounds) (suc n)) sized
    ∙ ap (λ o. bound_code t asked (unwrap_or o no_bounds) (suc n)) (bounds_mapped bs n b among)
    ∙ code_by t asked b n

-- ---- the meaning

-- an array around an expression, whatever its elements hold
pub record BoundsScope (e : Environment) (s : State) (block : Names) (j : ℕ) (type : Y.LeafType) (bs : List Bounds) : Type 0 where
  pub declared : IsDeclaredArray e block j type bs
  pub sized : has_constant_size (array_variable type bs []) ≡ true
  pub bounds : AreBounds bs
  pub few : element_count bs ≤ 2 ^ 20
  pub serial : ℕ
  pub values : ℕ → List ℤ → BasicValue
  pub stands : standing_for s (own block j) ≡ Some (array_binding type bs (block.at j).index serial)
  pub lives : generation_of (living_of s.living serial) ≡ Some (array_generation type bs values)
  pub same : same_shape (array_shape type bs) (array_shape type bs) ≡ true

abbrev pub numbers_scope : {g : Ground} {e : Environment} {s : State} {block : Names} {j : ℕ} {type : Y.LeafType} {bs : List Bounds} {n : ℕ → ℤ} → ArrayScope g e s block j type bs n → BoundsScope e s block j type bs
numbers_scope {type = type} {bs = bs} scope =
    record {
      declared = scope.declared;
      sized = size_constant type scope.holds.numeric bs [];
      bounds = scope.bounds;
      few = scope.few;
      serial = scope.serial;
      values = scope.holds.values;
      stands = scope.holds.stands;
      lives = scope.holds.lives;
      same = same_array type bs scope.holds.numeric;
    }

abbrev pub texts_scope : {g : Ground} {e : Environment} {s : State} {block : Names} {j : ℕ} {varying : Bool} {most : ℕ} {bs : List Bounds} {texts : ℕ → List ℕ} → TextArrayScope g e s block j varying most bs texts → BoundsScope e s block j (text_leaf varying most) bs
texts_scope {varying = varying} {most = most} {bs = bs} scope =
    record {
      declared = scope.declared;
      sized = text_size_constant varying most bs [];
      bounds = scope.bounds;
      few = scope.few;
      serial = scope.serial;
      values = scope.holds.values;
      stands = scope.holds.stands;
      lives = scope.holds.lives;
      same = same_text_array varying most bs;
    }

-- all of it is designated
array_designated : {e : Environment} {s : State} {block : Names} {j : ℕ} {type : Y.LeafType} {bs : List Bounds} (around : Around) (k : ℕ) (h : BoundsScope e s block j type bs) → V.designated around (whole (own block j)) k s ≡ give (designated_element type bs h.serial h.values []) k s
unfolding V.designated V.located V.numbers V.variable_designated V.part_designated looked ◌>>=◌ ◌>>◌ R.or_error R.demanded choose give
array_designated {s = s} {type = type} {bs = bs} around k h =
    let lives : named s (VariableName h.serial) (array_shape type bs) ≡ Some (array_generation type bs h.values) = ap (if_same_shape (array_shape type bs)) h.lives ∙ ap (λ t. cond t (Some (array_generation type bs h.values)) None) h.same in
    ap (λ o. flow_on k (R.or_error around 101 o k s) (λ b. V.part_designated around b.name b.shape whole_part [])) h.stands
    ∙ ap (λ o. flow_on k (R.or_error around 101 o k s) (λ g. ◌>>=◌ (R.or_error around 107 (V.extent_in_force g whole_part)) (λ e. ◌>>◌ (R.demanded around 102 (is_within (take 0 (V.leaf_at (array_shape type bs) e 0).bounds) [])) (give (record { name = VariableName h.serial; generation = g; extent = e; part = whole_part; subscripts = [] }))))) lives

pub answer_meant : {e : Environment} {s : State} {block : Names} {j : ℕ} {type : Y.LeafType} {bs : List Bounds} (asked : BoundAsked) (around : Around) (k n : ℕ) (b : Bounds) (h : BoundsScope e s block j type bs) → slice_get bs n ≡ Some b → IsWide (V.elements_between b) → V.number around (asked_number asked (whole (own block j)) (suc n)) k s ≡ give (answer_of asked b) k s
unfolding V.number ◌>>=◌ give given R.value_of
answer_meant {s = s} LowerAsked around k n b h among wide =
    ap (λ q. flow_on k q (λ d. given (V.bounds_in d (suc n)) (λ c. give c.lower) stuck)) (array_designated around k h)
    ∙ ap (λ o. given o (λ (c : Bounds). give c.lower) stuck k s) among
answer_meant {s = s} UpperAsked around k n b h among wide =
    ap (λ q. flow_on k q (λ d. given (V.bounds_in d (suc n)) (λ c. give c.upper) stuck)) (array_designated around k h)
    ∙ ap (λ o. given o (λ (c : Bounds). give c.upper) stuck k s) among
answer_meant {s = s} ElementsAsked around k n b h among wide =
    let z = V.elements_between b in
    let told : Bounds → Meaning ℤ = λ c. R.value_of around (checked 31 (V.elements_between c)) in
    ap (λ q. flow_on k q (λ d. given (V.bounds_in d (suc n)) told stuck)) (array_designated around k h)
    ∙ ap (λ o. given o told stuck k s) among
    ∙ ap (λ q. R.value_of around (if q then Gives z else Raises FixedOverflow fixed_overflow_code (wrapped 31 z)) k s) wide

-- ---- no dimension has more subscripts than there are elements

least_times : (a n : ℕ) → 1 ≤ n → a ≤ a * n
least_times zero n h = omega arith
least_times (suc a) n h =
    let more = least_times a n h in
    let e = suc-times a n in
    omega (arith, h, more, e)

times_least : (x n : ℕ) → n ≤ suc x * n
times_least x n = let e = suc-times x n in omega (arith, e)

span_few : (bs : List Bounds) (n : ℕ) (b : Bounds) → AreBounds bs → slice_get bs n ≡ Some b → IsBounds b × (span b ≤ element_count bs)
span_few [] n b are h = absurd (cc h)
span_few (c ∷ bs) zero b are h =
    let e : c ≡ b = cc h in
    let some = count_some bs are.1 in
    subst (λ u. IsBounds u × (span u ≤ span c * element_count bs)) e (are.0, least_times (span c) (element_count bs) (omega (arith, some)))
span_few (c ∷ bs) (suc n) b are h =
    let rest = span_few bs n b are.1 h in
    let spans = span_is c are.0 in
    let x = word (c.upper -ℤ c.lower) in
    let more : span c ≡ suc x = omega (arith, spans) in
    let least = subst (λ u. element_count bs ≤ u * element_count bs) (sym more) (times_least x (element_count bs)) in
    let few = rest.1 in
    (rest.0, omega (arith, few, least))

elements_wide : (l u : ℤ) → IsWide l → IsWide u → int_le l u ≡ true → word (u -ℤ l) < 2 ^ 20 → IsWide (u -ℤ l +ℤ pos 1)
elements_wide (pos l) (pos u) wl wu e few = grind (arith, ints, nat_tests)
elements_wide (pos l) (negsuc u) wl wu e few = absurd (cc e)
elements_wide (negsuc l) (pos u) wl wu e few = grind (arith, ints, nat_tests)
elements_wide (negsuc l) (negsuc u) wl wu e few = grind (arith, ints, nat_tests)

elements_word : (l u : ℤ) → IsWide l → IsWide u → int_le l u ≡ true → word (u -ℤ l) < 2 ^ 20 → sum (operated Op.Subtract (word u) (word l)) 1 ≡ word (u -ℤ l +ℤ pos 1)
elements_word (pos l) (pos u) wl wu e few = grind (arith, ints, nat_tests)
elements_word (pos l) (negsuc u) wl wu e few = absurd (cc e)
elements_word (negsuc l) (pos u) wl wu e few = grind (arith, ints, nat_tests)
elements_word (negsuc l) (negsuc u) wl wu e few = grind (arith, ints, nat_tests)

-- ---- they are evaluated

abbrev free_a0 : Free nothing 10
free_a0 = record { reserved_stay = λ y u. refl; known_stay = λ b y u q. q; set = λ y u. refl }

constant_answers : {links : Links} {code : List Instr} {g : Ground} {v : Services} {s : State} {k : ℕ} (words : ℕ) (z : ℤ) → IsWide z → Evaluates number_kind links code g v s k words (λ taken. constant a0 z) (give z)
unfolding give
constant_answers words z wide =
    record {
      does = λ {i} {h} {t} {aims} closed f taken room l at goal.
          onward closed (constant_piece i f a0 z (word_small z wide) free_a0 l at)
          (λ f' at'. record { to = λ early. goal z f' h t wide (stays_same taken h t) at' });
    }

elements_answer : {links : Links} {code : List Instr} {g : Ground} {v : Services} {s : State} {k : ℕ} (words : ℕ) (b : Bounds) → IsBounds b → word (b.upper -ℤ b.lower) < 2 ^ 20 → Evaluates number_kind links code g v s k words (λ taken. few_code ElementsAsked b) (give (V.elements_between b))
unfolding give
elements_answer {g = g} {v = v} {s = s} words b is few =
    record {
      does = λ {i} {h} {t} {aims} closed f taken room l at goal.
          let z = V.elements_between b in
          let first = constant a0 b.upper in
          let second = constant u1 b.lower in
          let last = subtract a0 a0 u1 ∷ immediate Imm.Add a0 a0 (pos 1) ∷ [] in
          let wide = elements_wide b.lower b.upper is.0 is.1.0 is.1.1 few in
          let total = elements_word b.lower b.upper is.0 is.1.0 is.1.1 few in
          let l2 = back_of first (second ++ last) l in
          let s1 = size_append first (second ++ last) in
          let s2 = size_append second last in
          let place : i + size_of first + size_of second + size_of last ≡ i + size_of (few_code ElementsAsked b) = omega (arith, s1, s2) in
          onward closed (constant_piece i f a0 b.upper (word_small b.upper is.1.0) free_a0 (front_of first (second ++ last) l) at)
          (λ f1 at1.
          onward closed (constant_piece (i + size_of first) f1 u1 b.lower (word_small b.lower is.0) (record { reserved_stay = λ y u. refl; known_stay = λ base y u q. q; set = λ y u. refl }) (front_of second last l2) at1)
          (λ f2 at2.
          onward closed (straight (i + size_of first + size_of second) f2 v v (λ base. Known g v h t (valued (word z)) base) (back_of second last l2) (omega arith) (λ base. (at2 base).pc)
          (λ base. let o = (at2 base).holds in
          let w = (f2 base).machine.registers in
          record {
            body = record { services = o.body.services; registers = o.body.registers; bytes = o.body.bytes; memory = o.body.memory };
            regs = (ap (λ u. sum (operated Op.Subtract u (w 6)) 1) o.regs.1.0 ∙ ap (λ u. sum (operated Op.Subtract (word b.upper) u) 1) o.regs.0 ∙ total, tt);
          }))
          (λ f3 at3. record {
            to = λ early. subst (λ u. aims.done u f3 v z s) (sym place) (goal z f3 h t wide (stays_same taken h t)
                (λ base. record { pc = (at3 base).pc ∙ ap (address base) place; holds = (at3 base).holds }));
          })));
    }

-- by what is asked
answers : {links : Links} {code : List Instr} {g : Ground} {v : Services} {s : State} {k : ℕ} (asked : BoundAsked) (words : ℕ) (b : Bounds) → IsBounds b → word (b.upper -ℤ b.lower) < 2 ^ 20 → Evaluates number_kind links code g v s k words (λ taken. few_code asked b) (give (answer_of asked b))
answers LowerAsked words b is few = constant_answers words b.lower is.0
answers UpperAsked words b is few = constant_answers words b.upper is.1.0
answers ElementsAsked words b is few = elements_answer words b is few

pub dimension_does : {links : Links} {code : List Instr} {g : Ground} {v : Services} {s : State} {k : ℕ} {e : Environment} {block : Names} {j : ℕ} {type : Y.LeafType} {bs : List Bounds} (asked : BoundAsked) (around : Around) (n : ℕ) (b : Bounds) (scope : BoundsScope e s block j type bs) → slice_get bs n ≡ Some b → Evaluates number_kind links code g v s k (number_words (asked_number asked (whole (own block j)) (suc n))) (λ taken. number_code e taken (asked_number asked (whole (own block j)) (suc n))) (V.number around (asked_number asked (whole (own block j)) (suc n)))
unfolding give
dimension_does {links} {code} {g} {v} {s} {k} {e} {block} {j} {type} {bs} asked around n b scope among =
    let x = asked_number asked (whole (own block j)) (suc n) in
    let spans = span_few bs n b scope.bounds among in
    let is = span_is b spans.0 in
    let most = spans.1 in
    let all = scope.few in
    let few : word (b.upper -ℤ b.lower) < 2 ^ 20 = omega (arith, is, most, all) in
    let wide = elements_wide b.lower b.upper spans.0.0 spans.0.1.0 spans.0.1.1 few in
    let o = answers {links = links} {code = code} {g = g} {v = v} {s = s} {k = k} asked (number_words x) b spans.0 few in
    record {
      does = λ {i} {h} {t} {aims} closed f taken room l at goal.
          let eq = answer_is asked e taken block j type bs n b scope.sized scope.declared among ∙ few_is taken asked b wide in
          let same = ap size_of eq in
          let there : i + size_of (few_code asked b) ≡ i + size_of (number_code e taken x) = omega (arith, same) in
          subst (Comes code i f v aims) (sym (answer_meant asked around k n b scope among wide))
          (o.does closed f taken room (subst (Linked links code i) eq l) at
          (λ z f1 h1 t1 small stays at1. subst (λ u. aims.done u f1 v z s) (sym there) (goal z f1 h1 t1 small stays (λ base. record { pc = (at1 base).pc ∙ ap (address base) there; holds = (at1 base).holds }))));
    }
