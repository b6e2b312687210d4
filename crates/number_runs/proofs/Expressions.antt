-- Numbers, tests and texts of the class: each leaves what it means, by the law of its form.
use Rattle.std.proofs.Common.{◌≡◌, ◌⊎◌, inl, inr, ℕ, ◌+◌, ◌*◌, ◌^◌, ◌≤◌, List, ◌∷◌, length, Option, Some, true, refl}
use Rattle.std.proofs.Common.{sym, ap, ◌<◌, ◌∙◌, subst, arith, [], Bool}
use Rattle.std.specs.Prelude.{◌&&◌, ◌==◌, ◌/◌, ◌%◌, cond, max, suc, nat_le, nat_lt, ◌||◌}
use Rattle.storage_relation.proofs.Holders.{eqb-other}
use Rattle.storage_relation.proofs.Placing.{none_above}
use Rattle.rv_meaning.specs.Words.{word}
use Rattle.std.proofs.lemmas.Bool.{and_parts, eqb-true, ltb-true, or_cases, leb-true}
use Rattle.pli_typing.specs.TypedTree as Y
use Rattle.pli_typing.specs.Signatures.{Bounds}
use Rattle.pli_coding.specs.Expressions.{argument_count, argument_words, given_in}
use Rattle.activation_relation.specs.FrameLaws.{with_waits}
use Rattle.activation_relation.specs.Layers.{Layer}
use Rattle.pli_meaning.specs.Texts.{most_text}
use Rattle.pli_serving.specs.ServiceState.{Entry, TextEntry}
use Rattle.pli_coding.specs.Assembly.{ConstantBytes}
use Rattle.program_runs.specs.Statements.{Block}
use Rattle.expression_runs.specs.Laws.{Does}
use Rattle.expression_runs.specs.Values.{Setting}
use Rattle.condition_codes.proofs.Codes.{code_does}
use Rattle.expression_runs.specs.Variables.{Spot, variable_of, whole}
use Rattle.expression_runs.proofs.Operands.{constant_does}
use Rattle.expression_runs.proofs.Sums.{difference_does, sum_does}
use Rattle.expression_runs.proofs.VariablePoints.{variable_does}
use Rattle.operator_runs.specs.Extremes.{AllDo}
use Rattle.operator_runs.proofs.Extremes.{extreme_does}
use Rattle.operator_runs.proofs.Products.{product_does}
use Rattle.operator_runs.proofs.Quotients.{divided_does, quotient_does}
use Rattle.operator_runs.proofs.Remainders.{modulo_does}
use Rattle.operator_runs.proofs.Signs.{absolute_does, negative_does, positive_does, sign_does}
use Rattle.test_runs.specs.Tests.{Tests}
use Rattle.test_runs.proofs.Bits.{and_tests, bits_tests, constant_tests, negated_tests, numbers_tests, or_tests}
use Rattle.array_runs.specs.Subscripts.{AreSubscripts, IsSubscript}
use Rattle.array_runs.proofs.Elements as A
use Rattle.scalar_runs.proofs.Conversions.{converted_does}
use Rattle.text_runs.specs.Laws.{NumberDoes, TextDoes}
use Rattle.text_runs.specs.Waiting.{over}
use Rattle.text_runs.proofs.Parts.{from_cuts, part_cuts}
use Rattle.text_runs.proofs.Points.{above_does, alone_does}
use Rattle.text_runs.proofs.Pushing.{joined_pushes, number_pushes}
use Rattle.text_runs.proofs.Taking.{index_finds, length_measures, text_shows, verify_finds}
use Rattle.text_values.proofs.Comparisons.{above_bit, alone_bit, texts_compare}
use Rattle.text_values.proofs.Constants.{constant_pushes}
use Rattle.text_values.proofs.Conversions.{bit_pushes, text_tells}
use Rattle.text_values.proofs.Variables.{variable_pushes}
use Rattle.argument_runs.specs.Parameters.{parameter, parameter_of}
use Rattle.parameter_runs.specs.Around.{IsParameterAround}
use Rattle.parameter_runs.proofs.Reading.{around_does}
use Rattle.counter_runs.proofs.Known.{number_told}
use Rattle.counter_runs.proofs.Words.{begun_telling}
use Rattle.list_calls.specs.Arguments.{EachGives, setting_told}
use Rattle.list_calls.specs.ListKnown.{IsStored}
use Rattle.list_calls.specs.Lists.{name_told, value_told}
use Rattle.list_calls.proofs.VariablesPassed.{variables_passed}
use Rattle.word_runs.specs.Words.{with_word}
use Rattle.number_runs.specs.Knowledge.{HasLists, IsFree, KnowsGiven, KnowsNumbers, given_number, most_set}
use Rattle.number_runs.specs.Knowledge.{KnowsConstants}
use Rattle.number_runs.specs.Numbers.{Scope, are_arguments, are_numbers}
use Rattle.number_runs.specs.Numbers.{arguments_need, arguments_set, grid_known, call_needs, call_sets, gives_lists}
use Rattle.number_runs.specs.Numbers.{is_argument, is_element, is_fixed, is_given, is_number, is_reference, is_test}
use Rattle.number_runs.specs.Numbers.{is_variable, may_calculate, number_needs, number_sets, numbers_need}
use Rattle.number_runs.specs.Numbers.{numbers_set, reference_needs, reference_sets, test_needs, test_sets, type_known}
use Rattle.number_runs.specs.Numbers.{is_narrow_with, is_precision, is_text, text_needs, without_given, IsBare}
use Rattle.number_runs.specs.Numbers.{is_known, is_passed, is_received, is_item, subscripts_need}
use Rattle.number_runs.specs.Based.{is_word_type}
use Rattle.number_runs.specs.Narrow.{is_number_type, is_text_type, is_bit}
use Rattle.number_runs.proofs.Arrays.{element_is, subscript_given, array_told, elements_known, lower_known, upper_known}
use Rattle.number_runs.proofs.Narrow.{flag_does, narrow_does, narrow_told, narrow_with_is, text_known, text_type_is}
use Rattle.number_runs.proofs.Narrow.{bit_is, number_type_is}
use Rattle.parameter_runs.proofs.Passing.{around_passed, around_told}
use Rattle.number_runs.proofs.Received.{named_told, passable_told, stored_untold}
use Rattle.number_runs.proofs.Variables.{Names, Passable, fixed_is, parameter_is, variable_is, ways_are, ways_many}
use Rattle.number_runs.proofs.Variables.{ways_of, ways_stored}
use Rattle.number_runs.proofs.Turns.{telling_same}
use Rattle.number_runs.proofs.Waiting.{numbers_wait, numbers_without, texts_without, bare}
use Rattle.number_runs.proofs.Based.{through_is}
use Rattle.number_runs.proofs.Pointed.{compared_does}

-- with more registers, too
pub more_registers : (k : Setting) (m n : ℕ) (x : Y.Number) → m ≤ n → Does k m x → Does k n x
more_registers k m n x few does p numbers taken c index f o line room l paid there =
    let enough = room.0 in
    does p numbers taken c index f o line (omega (arith, enough, few), room.1) l paid there

pub more_text : (k : Setting) (m n : ℕ) (x : Y.Text) → m ≤ n → TextDoes [] k m x → TextDoes [] k n x
more_text k m n x few does p numbers taken c index f o line room l paid there =
    let enough = room.0 in
    does p numbers taken c index f o line (omega (arith, enough, few), room.1) l paid there

all_with_more : (k : Setting) (m n : ℕ) (xs : Y.Numbers) → m ≤ n → AllDo k m xs → AllDo k n xs
all_with_more k m n Y.NoNumber few does = tt
all_with_more k m n (Y.NumberThen first rest) few does =
    (more_registers k m n first few does.0, all_with_more k m n rest few does.1)

signed_does :
    (s : Scope) (k : Setting) (sign : Y.Sign) (x : Y.Number) (n : ℕ) → KnowsNumbers s k → s.overflows ≡ true →
    Does k n x →
    Does k (max n 1) (Y.Signed sign x)
signed_does s k Y.Positive x n h may does =
    more_registers k n (max n 1) (Y.Signed Y.Positive x) (omega arith) (positive_does k x n does)
signed_does s k Y.Negative x n h may does = negative_does k x n (h.overflow may) does

calculated_does :
    (s : Scope) (k : Setting) (operator : Y.ArithmeticOperator) (left right : Y.Number) (m n : ℕ) →
    KnowsNumbers s k → may_calculate s operator ≡ true → Does k m left → Does k n right →
    Does k (max m (suc n)) (Y.Calculated operator left right)
calculated_does s k Y.Sum left right m n h may l r = sum_does k left right m n (h.overflow may) l r
calculated_does s k Y.Difference left right m n h may l r = difference_does k left right m n (h.overflow may) l r
calculated_does s k Y.Product left right m n h may l r = product_does k left right m n (h.overflow may) l r
calculated_does s k Y.Quotient left right m n h may l r =
    let a = and_parts s.overflows s.divides may in
    quotient_does k left right m n (h.overflow a.0) (h.divisor a.1) l r

-- all of a variable or of a parameter
scalar_does :
    (s : Scope) (k : Setting) (r : Y.Reference) → KnowsNumbers s k →
    (is_variable s r ≡ true) ⊎ (is_given s r ≡ true) → Does k 0 (Y.NumberIn r)
scalar_does s k r h (inl is) =
    let w = variable_is s r is in
    subst (λ q. Does k 0 (Y.NumberIn q)) (sym w.is) (variable_does k w.spot h.begun (h.variables w.spot w.known))
scalar_does s k r h (inr is) =
    let w = parameter_is s r is in
    subst (λ q. Does k 0 (Y.NumberIn q)) (sym w.is) (around_does k w.spot (h.parameters w.spot w.known))

-- ---- words for lists

pub fewer_lists :
    {s : Scope} {k : Setting} (h : KnowsNumbers s k) (m n : ℕ) → m ≤ n → HasLists h n → HasLists h m
fewer_lists h m n less room g =
    let enough = room g in
    omega (arith, less, enough)

left_lists :
    {s : Scope} {k : Setting} (h : KnowsNumbers s k) (left right : Y.Number) →
    HasLists h (max (number_sets left) (number_sets right)) → HasLists h (number_sets left)
left_lists h left right room =
    fewer_lists h (number_sets left) (max (number_sets left) (number_sets right)) (omega arith) room

right_lists :
    {s : Scope} {k : Setting} (h : KnowsNumbers s k) (left right : Y.Number) →
    HasLists h (max (number_sets left) (number_sets right)) → HasLists h (number_sets right)
right_lists h left right room =
    fewer_lists h (number_sets right) (max (number_sets left) (number_sets right)) (omega arith) room

left_tests :
    {s : Scope} {k : Setting} (h : KnowsNumbers s k) (left right : Y.Bit) →
    HasLists h (max (test_sets left) (test_sets right)) → HasLists h (test_sets left)
left_tests h left right room =
    fewer_lists h (test_sets left) (max (test_sets left) (test_sets right)) (omega arith) room

right_tests :
    {s : Scope} {k : Setting} (h : KnowsNumbers s k) (left right : Y.Bit) →
    HasLists h (max (test_sets left) (test_sets right)) → HasLists h (test_sets right)
right_tests h left right room =
    fewer_lists h (test_sets right) (max (test_sets left) (test_sets right)) (omega arith) room

-- an argument that is told stands before the words that are free
word_free :
    (n given all : ℕ) (told : ℕ → Option ℕ) → IsFree told all → n < all → IsFree (with_word n given told) all
word_free n given all told free less i low =
    ap (λ q. cond q (Some given) (told i)) (eqb-other i n (omega (arith, less, low))) ∙ free i low

told_free :
    (last given all : ℕ) (told : ℕ → Option ℕ) → IsFree told all → last + 6 ≤ all →
    IsFree (value_told last given told) all
told_free last given all told free inside =
    word_free last 1 all (with_word (last + 5) given told)
    (word_free (last + 5) given all told free (omega (arith, inside))) (omega (arith, inside))

pub setting_same :
    (k : Setting) (φ : Layer) (φs : List Layer) → k.block.first.control.layers ≡ φ ∷ φs →
    setting_told k k.words φ.waits φ φs ≡ k
setting_same k φ φs newest = ap (λ q. record k { block = q }) (telling_same k.block φ φs newest)

-- ---- what is passed by reference

name_free :
    (last serial signature all : ℕ) (told : ℕ → Option ℕ) → IsFree told all → last + 6 ≤ all →
    IsFree (name_told last serial signature 0 told) all
name_free last serial signature all told free inside =
    word_free last 0 all _
    (word_free (last + 1) signature all _
    (word_free (last + 2) (serial / 2 ^ 32) all _
    (word_free (last + 3) (serial % 2 ^ 32) all _
    (word_free (last + 4) 0 all _ (word_free (last + 5) 1 all told free (omega (arith, inside)))
    (omega (arith, inside)))
    (omega (arith, inside)))
    (omega (arith, inside)))
    (omega (arith, inside)))
    (omega (arith, inside))

-- whatever words tell as much is known
abbrev numbers_told :
    (s : Scope) → (k : Setting) → KnowsNumbers s k → (g : KnowsGiven s k) → (words : ℕ) → words ≤ most_set →
    (waits : ℕ → Option ℕ) → IsFree waits words →
    KnowsNumbers s (setting_told k words waits g.layer g.others)
numbers_told s k h g words few waits free =
    record {
      begun = begun_telling k.block g.layer g.others waits g.newest h.begun;
      overflow = λ may. g.overflow may words few waits;
      divisor = λ may. g.divisor may words few waits;
      subscript = λ may. g.subscript may words few waits;
      variables = λ x is. number_told k.block g.layer g.others waits g.newest x (h.variables x is);
      arrays = λ may x is.
          array_told k.block g.layer g.others waits g.newest x (grid_known s x) (h.arrays may x is);
      narrows = λ may x is.
          narrow_told k.block g.layer g.others waits g.newest x (type_known s x) (h.narrows may x is);
      parameters = λ x is. around_told k.block g.layer g.others waits g.newest x (h.parameters x is);
      codes = h.codes;
      functions = λ level n is. g.functions words few waits level n is;
      texts = λ may. g.texts may words few waits;
      given = λ may. record {
        layer = with_waits waits g.layer;
        others = g.others;
        newest = refl;
        few = g.few;
        free = free;
        overflow = g.overflow;
        divisor = g.divisor;
        subscript = g.subscript;
        passable = λ x is. passable_told k.block g.layer g.others waits g.newest x (g.passable x is);
        functions = g.functions;
        texts = g.texts;
        reached = g.reached;
        given = λ words' waits' level n need ways some stored free' room is give.
            g.given words' waits' level n need ways some
            (stored_untold waits g.layer g.others k.block.first ways stored) free' room is give;
      };
      pointers = λ may. (g.reached may words few waits).pointers;
      located = λ may. (g.reached may words few waits).reads;
    }

-- what it is if it is no scalar of fewer bits
named_does :
    (s : Scope) (k : Setting) (r : Y.Reference) → KnowsNumbers s k →
    (is_reference s r ≡ true) ⊎ ((is_narrow_with s is_number_type r || is_item s is_number_type r) ≡ true) →
    (is_reference s r ≡ true → Does k (reference_needs r) (Y.NumberIn r)) →
    (is_item s is_number_type r ≡ true → Does k (reference_needs r) (Y.NumberIn r)) →
    Does k (reference_needs r) (Y.NumberIn r)
named_does s k r h (inl is) one item = one is
named_does s k r h (inr is) one item =
    by (or_cases (is_narrow_with s is_number_type r) (is_item s is_number_type r) is)
  where
    by :
        (is_narrow_with s is_number_type r ≡ true) ⊎ (is_item s is_number_type r ≡ true) →
        Does k (reference_needs r) (Y.NumberIn r)
    by (inl narrow) = narrow_does s k r h narrow
    by (inr one') = item one'

-- a bit of a variable, or of an element
flagged_tests :
    (s : Scope) (k : Setting) (r : Y.Reference) → KnowsNumbers s k →
    (is_narrow_with s is_bit r ≡ true) ⊎ (is_item s is_bit r ≡ true) →
    (is_item s is_bit r ≡ true → Tests k (reference_needs r) (Y.BitIn r)) → Tests k (reference_needs r) (Y.BitIn r)
flagged_tests s k r h (inl is) item = flag_does s k r h is
flagged_tests s k r h (inr is) item = item is

-- subscripts, one for each of so many dimensions
abbrev Counted : (k : Setting) (need : ℕ) → Y.Numbers → Type 0
Counted k need xs = (bs : List Bounds) → length bs ≡ given_in xs → AreSubscripts k 0 need bs xs

first_then :
    (k : Setting) (taken need : ℕ) (first : Y.Number) (rest : Y.Numbers) → IsSubscript k taken need first →
    ((bs : List Bounds) → length bs ≡ given_in rest → AreSubscripts k (taken + 1) need bs rest) →
    (bs : List Bounds) → length bs ≡ suc (given_in rest) → AreSubscripts k taken need bs (Y.NumberThen first rest)
first_then k taken need first rest one more [] many = absurd (omega (arith, many))
first_then k taken need first rest one more (b ∷ bs) many = (one, more bs (omega (arith, many)))

element_number :
    (s : Scope) (k : Setting) (test : Y.LeafType → Bool) (v : Y.Variable) (part : Y.Part) (xs : Y.Numbers) →
    KnowsNumbers s k → is_element s test v part (given_in xs) ≡ true →
    ((t : Y.LeafType) → test t ≡ true → (n : ℕ) × (t ≡ Y.FixedLeaf n)) → Counted k (subscripts_need xs) xs →
    Does k (subscripts_need xs) (Y.NumberIn (Y.Referring v Y.NotLocated part xs))
element_number s k test v part xs h is typed subscripts =
    let w = element_is s test v part xs is in
    let g = grid_known s w.spot in
    let t = typed g.type w.passes in
    subst (λ r. Does k (subscripts_need xs) (Y.NumberIn r)) (sym w.is)
    (A.number_does k w.spot g t.0 xs (subscripts_need xs) h.begun (h.arrays w.may w.spot w.known) t.1
    (h.subscript w.may) (subscripts g.bounds w.many))

element_bit :
    (s : Scope) (k : Setting) (v : Y.Variable) (part : Y.Part) (xs : Y.Numbers) →
    KnowsNumbers s k → is_element s is_bit v part (given_in xs) ≡ true → Counted k (subscripts_need xs) xs →
    Tests k (subscripts_need xs) (Y.BitIn (Y.Referring v Y.NotLocated part xs))
element_bit s k v part xs h is subscripts =
    let w = element_is s is_bit v part xs is in
    let g = grid_known s w.spot in
    subst (λ r. Tests k (subscripts_need xs) (Y.BitIn r)) (sym w.is)
    (A.bit_does k w.spot g xs (subscripts_need xs) h.begun (h.arrays w.may w.spot w.known) (bit_is g.type w.passes)
    (h.subscript w.may) (subscripts g.bounds w.many))

-- words for the lists of the first, and of the others
first_lists :
    {s : Scope} {k : Setting} (h : KnowsNumbers s k) (first : Y.Number) (rest : Y.Numbers) →
    HasLists h (max 0 (max (number_sets first) (numbers_set rest))) → HasLists h (number_sets first)
first_lists h first rest room =
    fewer_lists h (number_sets first) (max 0 (max (number_sets first) (numbers_set rest))) (omega arith) room

rest_lists :
    {s : Scope} {k : Setting} (h : KnowsNumbers s k) (first : Y.Number) (rest : Y.Numbers) →
    HasLists h (max 0 (max (number_sets first) (numbers_set rest))) → HasLists h (numbers_set rest)
rest_lists h first rest room =
    fewer_lists h (numbers_set rest) (max 0 (max (number_sets first) (numbers_set rest))) (omega arith) room

-- where calls have no arguments, no words are asked for
no_lists :
    {s : Scope} {k : Setting} (h : KnowsNumbers s k) (n : ℕ) → IsBare s → HasLists h n
no_lists {s} h n none may = absurd (cc (sym none.0 ∙ (and_parts s.gives s.counts may).0))

-- a parameter stands for what is stored
parameter_stored :
    (k : Block) (x : Spot) (is : IsParameterAround k x) → IsStored k.first is.entry.serial is.entry.signature
parameter_stored k x is =
    let less = none_above (k.first.state.serials + 1) k.first.state.living is.entry.serial is.living
    is.begun.resumes.stands.lives.falling is.lives in
    record {
      old = omega (arith, less);
      living = is.living;
      lives = is.lives;
      shape = is.shape;
      numbered = is.numbered;
      small = is.small;
      number = is.number;
      low = is.low;
      inside = is.inside;
    }

variable_passable :
    (s : Scope) (k : Setting) → KnowsNumbers s k → (g : KnowsGiven s k) (x : Spot) → is_known s x ≡ true →
    Passable k g.layer g.others (whole x)
variable_passable s k h g x known =
    let p = g.passable x known in
    record {
      variable = variable_of x;
      is = refl;
      serial = p.serial;
      signature = p.signature;
      stored = p.stored;
      passes = λ words waits.
          variables_passed (setting_told k words waits g.layer g.others) x (with_waits waits g.layer) g.others
          p.serial p.signature (begun_telling k.block g.layer g.others waits g.newest h.begun) refl
          (named_told k.block g.layer g.others waits g.newest x p.serial p.signature p.named);
    }

parameter_passable :
    (s : Scope) (k : Setting) → KnowsNumbers s k → (g : KnowsGiven s k) (x : Spot) → is_received s x ≡ true →
    Passable k g.layer g.others (parameter x)
unfolding around_told
parameter_passable s k h g x known =
    let p = h.parameters x known in
    record {
      variable = parameter_of x;
      is = refl;
      serial = p.entry.serial;
      signature = p.entry.signature;
      stored = parameter_stored k.block x p;
      passes = λ words waits.
          around_passed (setting_told k words waits g.layer g.others) x (with_waits waits g.layer) g.others
          (begun_telling k.block g.layer g.others waits g.newest h.begun) refl
          (around_told k.block g.layer g.others waits g.newest x p);
    }

-- what may be an argument by reference may be passed
pub names_in : (s : Scope) (k : Setting) → KnowsNumbers s k → (g : KnowsGiven s k) →
    Names s k g.layer g.others
names_in s k h g r is = by (or_cases (is_variable s r) (is_given s r) is)
  where
    by : (is_variable s r ≡ true) ⊎ (is_given s r ≡ true) → Passable k g.layer g.others r
    by (inl one) =
        let w = variable_is s r one in
        subst (λ q. Passable k g.layer g.others q) (sym w.is) (variable_passable s k h g w.spot w.known)
    by (inr one) =
        let w = parameter_is s r one in
        subst (λ q. Passable k g.layer g.others q) (sym w.is) (parameter_passable s k h g w.spot w.known)

-- a call, if its arguments do what they mean
called_does :
    (s : Scope) (k : Setting) (number level : ℕ) (xs : Y.Arguments) (h : KnowsNumbers s k) →
    is_number s (Y.NumberFrom (Y.Calling number level xs)) ≡ true → HasLists h (call_sets (Y.Calling number level xs)) →
    ((g : KnowsGiven s k) (words all : ℕ) (waits told : ℕ → Option ℕ)
    (is : are_arguments s xs ≡ true) →
    words + argument_words * length (ways_of s (names_in s k h g) xs is) ≤ all →
    all + arguments_set xs ≤ g.layer.words → IsFree told all →
    EachGives (setting_told k words waits g.layer g.others) (arguments_need xs) (with_waits waits g.layer) g.others
    words
    all told (ways_of s (names_in s k h g) xs is)) →
    Does k (arguments_need xs) (Y.NumberFrom (Y.Calling number level xs))
called_does s k number level Y.NoArgument h is room give = h.functions level number is
called_does s k number level (Y.ArgumentThen first rest) h is room give =
    let xs = Y.ArgumentThen first rest in
    let taken = s.is_given_function (suc (argument_count rest)) level number in
    let a = and_parts (gives_lists s) (taken && are_arguments s xs) is in
    let b = and_parts taken (are_arguments s xs) a.1 in
    let g = h.given a.0 in
    let names = names_in s k h g in
    let ways = ways_of s names xs b.1 in
    let many = ways_many s names xs b.1 in
    let enough = room a.0 in
    let need = arguments_need xs in
    subst (λ q. Does k need (Y.NumberFrom (Y.Calling number level q))) (ways_are s names xs b.1)
    (subst (λ q. Does q need (given_number level number ways)) (setting_same k g.layer g.others g.newest)
    (g.given k.words g.layer.waits level number need ways (omega (arith, many))
    (ways_stored s names xs b.1) g.free (omega (arith, enough, many))
    (subst (λ n. s.is_given_function n level number ≡ true) (sym many) b.0)
    (give g k.words (k.words + argument_words * length ways) g.layer.waits g.layer.waits b.1 (omega arith)
    (omega (arith, enough, many)) (λ n low. g.free n (omega (arith, low))))))

combined_tests :
    (k : Setting) (operator : Y.BitOperator) (left right : Y.Bit) (m n : ℕ) → Tests k m left → Tests k n right →
    Tests k (max m (suc n)) (Y.Combined operator left right)
combined_tests k Y.Conjunction left right m n l r = and_tests k left right m n l r
combined_tests k Y.Disjunction left right m n l r = or_tests k left right m n l r

-- ---- texts

-- a constant that code names has a place
text_constant_does :
    (entries : List Entry) (k : Setting) (bytes : List ℕ) → KnowsConstants k.block →
    nat_le (length bytes) most_text ≡ true → TextDoes entries k 0 (Y.TextConstant bytes)
text_constant_does entries k bytes knows short p numbers taken c index f o line room l paid there =
    constant_pushes entries k bytes (leb-true (length bytes) most_text short)
    (knows bytes (l.named (ConstantBytes bytes) (inl refl))) p numbers taken c index f o line room l paid there

text_variable_does :
    (entries : List Entry) (s : Scope) (k : Setting) (r : Y.Reference) → KnowsNumbers s k →
    is_narrow_with s is_text_type r ≡ true → TextDoes entries k 0 (Y.TextIn r)
text_variable_does entries s k r h is =
    let w = narrow_with_is s is_text_type r is in
    let t = text_type_is (type_known s w.spot) w.passes in
    subst (λ q. TextDoes entries k 0 (Y.TextIn q)) (sym w.is)
    (variable_pushes entries k w.spot t.varying t.length h.begun
    (text_known k.block w.spot (type_known s w.spot) t (h.narrows w.may w.spot w.known)))

-- what holds while texts wait, in the block that has them
above_waiting :
    (entries : List Entry) (s : Scope) (k : Setting) (x : Y.Number) → KnowsNumbers s k → IsBare s →
    s.texts ≡ true →
    ((w : KnowsNumbers s (over entries k)) → HasLists w (number_sets x) → Does (over entries k) (number_needs x) x) →
    NumberDoes entries k (number_needs x) x
above_waiting entries s k x h none may does =
    let w = numbers_wait entries none h (h.texts may) in
    above_does entries k x (number_needs x) (does w (no_lists w (number_sets x) none))

mutual
  pub number_does :
      (s : Scope) (k : Setting) (x : Y.Number) (h : KnowsNumbers s k) → is_number s x ≡ true →
      HasLists h (number_sets x) → Does k (number_needs x) x
  number_does s k (Y.NumberConstant n) h is room = constant_does k n (ltb-true n (2 ^ 31) is)
  number_does s k (Y.NumberIn r) h is room =
      named_does s k r h
      (or_cases (is_reference s r) (is_narrow_with s is_number_type r || is_item s is_number_type r) is)
      (λ one. reference_does s k r h one room) (λ one. item_does s k r h one room)
  number_does s k (Y.NumberFrom c) h is room = call_does s k c h is room
  number_does s k (Y.Signed sign x) h is room =
      let a = and_parts s.overflows (is_number s x) is in
      signed_does s k sign x (number_needs x) h a.0 (number_does s k x h a.1 room)
  number_does s k (Y.Calculated operator left right) h is room =
      let r = and_parts (may_calculate s operator) (is_number s left && is_number s right) is in
      let a = and_parts (is_number s left) (is_number s right) r.1 in
      calculated_does s k operator left right (number_needs left) (number_needs right) h r.0
      (number_does s k left h a.0 (left_lists h left right room))
      (number_does s k right h a.1 (right_lists h left right room))
  number_does s k (Y.Absolute x) h is room =
      let a = and_parts s.overflows (is_number s x) is in
      absolute_does k x (number_needs x) (h.overflow a.0) (number_does s k x h a.1 room)
  number_does s k (Y.SignOf x) h is room = sign_does k x (number_needs x) (number_does s k x h is room)
  number_does s k (Y.Extreme extremum first more) h is room =
      let a = and_parts (is_number s first) (are_numbers s more) is in
      extreme_does k extremum first more (number_needs first) (numbers_need more)
      (number_does s k first h a.0 (fewer_lists h (number_sets first) (max (number_sets first) (numbers_set more))
      (omega arith) room))
      (numbers_do s k more h a.1 (fewer_lists h (numbers_set more) (max (number_sets first) (numbers_set more))
      (omega arith) room))
  number_does s k (Y.Modulo left right) h is room =
      let r = and_parts s.divides (is_number s left && is_number s right) is in
      let a = and_parts (is_number s left) (is_number s right) r.1 in
      modulo_does k left right (number_needs left) (number_needs right) (h.divisor r.0)
      (number_does s k left h a.0 (left_lists h left right room))
      (number_does s k right h a.1 (right_lists h left right room))
  number_does s k (Y.Divided precision left right) h is room =
      let both = s.overflows && s.divides in
      let r = and_parts both ((precision == 31) && (is_number s left && is_number s right)) is in
      let may = and_parts s.overflows s.divides r.0 in
      let a = and_parts (precision == 31) (is_number s left && is_number s right) r.1 in
      let b = and_parts (is_number s left) (is_number s right) a.1 in
      subst (λ n. Does k (max (number_needs left) (suc (number_needs right))) (Y.Divided n left right))
      (sym (eqb-true precision 31 a.0))
      (divided_does k left right (number_needs left) (number_needs right) (h.overflow may.0) (h.divisor may.1)
      (number_does s k left h b.0 (left_lists h left right room))
      (number_does s k right h b.1 (right_lists h left right room)))
  number_does s k (Y.NumberOfText x) h is room =
      let a = and_parts s.texts (is_text (without_given s) x) is in
      let t = texts_without (h.texts a.0) in
      alone_does k (Y.NumberOfText x) (text_needs x)
      (text_shows [] k x (text_needs x) t.errors.number
      (text_does [] (without_given s) k x (numbers_without h) (bare s) a.0 a.1))
  number_does s k (Y.NumberOfBit x) h is room =
      let a = and_parts s.narrows (is_test s x) is in
      converted_does k x (test_needs x) (test_does s k x h a.1 room)
  number_does s k (Y.LengthOf x) h is room =
      let a = and_parts s.texts (is_text (without_given s) x) is in
      alone_does k (Y.LengthOf x) (text_needs x)
      (length_measures [] k x (text_needs x)
      (text_does [] (without_given s) k x (numbers_without h) (bare s) a.0 a.1))
  number_does s k (Y.IndexOf x y) h is room =
      let g = without_given s in
      let a = and_parts s.texts (is_text g x && is_text g y) is in
      let b = and_parts (is_text g x) (is_text g y) a.1 in
      alone_does k (Y.IndexOf x y) (max (text_needs x) (text_needs y))
      (index_finds [] k x y (text_needs x) (text_needs y) (text_does [] g k x (numbers_without h) (bare s) a.0 b.0)
      (λ t. text_does (TextEntry t ∷ []) g k y (numbers_without h) (bare s) a.0 b.1))
  number_does s k (Y.VerifyOf x y) h is room =
      let g = without_given s in
      let a = and_parts s.texts (is_text g x && is_text g y) is in
      let b = and_parts (is_text g x) (is_text g y) a.1 in
      alone_does k (Y.VerifyOf x y) (max (text_needs x) (text_needs y))
      (verify_finds [] k x y (text_needs x) (text_needs y) (text_does [] g k x (numbers_without h) (bare s) a.0 b.0)
      (λ t. text_does (TextEntry t ∷ []) g k y (numbers_without h) (bare s) a.0 b.1))
  number_does s k (Y.LowerBound r n) h is room = lower_known s k r n h is
  number_does s k (Y.UpperBound r n) h is room = upper_known s k r n h is
  number_does s k (Y.ElementsOf r n) h is room =
      more_registers k 0 1 (Y.ElementsOf r n) (omega arith) (elements_known s k r n h is)
  number_does s k (Y.AllocationsOf v) h is room = absurd (cc is)
  number_does s k Y.OnCode h is room = code_does k (h.codes is)

  call_does :
      (s : Scope) (k : Setting) (c : Y.Call) (h : KnowsNumbers s k) → is_number s (Y.NumberFrom c) ≡ true →
      HasLists h (call_sets c) → Does k (call_needs c) (Y.NumberFrom c)
  call_does s k (Y.Calling number level arguments) h is room =
      called_does s k number level arguments h is room
      (λ g words all waits told given. arguments_give s k arguments h g words all (arguments_need arguments) waits told
      given (omega arith))

  -- each of them, behind the words that tell those before it
  pub arguments_give :
      (s : Scope) (k : Setting) (xs : Y.Arguments) (h : KnowsNumbers s k) (g : KnowsGiven s k) (words all need : ℕ)
      (waits told : ℕ → Option ℕ) (is : are_arguments s xs ≡ true) → arguments_need xs ≤ need →
      words + argument_words * length (ways_of s (names_in s k h g) xs is) ≤ all →
      all + arguments_set xs ≤ g.layer.words → IsFree told all →
      EachGives (setting_told k words waits g.layer g.others) need (with_waits waits g.layer) g.others words all told
      (ways_of s (names_in s k h g) xs is)
  arguments_give s k Y.NoArgument h g words all need waits told is few many room free = tt
  arguments_give s k (Y.ArgumentThen (Y.ByCopy type (Y.StoredNumber precision x)) rest) h g words all need waits told is
      few many room free =
      let first = Y.ByCopy type (Y.StoredNumber precision x) in
      let a = and_parts (is_argument s first) (are_arguments s rest) is in
      let b = and_parts (is_fixed type) ((precision == 31) && is_number s x) a.0 in
      let us = ways_of s (names_in s k h g) rest a.1 in
      let most' = g.few in
      let k' = setting_told k all told g.layer g.others in (
        more_registers k' (number_needs x) need x (omega (arith, few))
            (number_does s k' x (numbers_told s k h g all (omega (arith, most', room)) told free)
            (and_parts (precision == 31) (is_number s x) b.1).1 (λ may. omega (arith, room))),
        λ z wide. arguments_give s k rest h g words all need waits
            (value_told (words + argument_words * length us) (word z) told) a.1 (omega (arith, few))
            (omega (arith, many))
            (omega (arith, room))
            (told_free (words + argument_words * length us) (word z) all told free (omega (arith, many))),
      )
  arguments_give s k (Y.ArgumentThen (Y.ByReference r) rest) h g words all need waits told is few many room free =
      let a = and_parts (is_passed s r) (are_arguments s rest) is in
      let us = ways_of s (names_in s k h g) rest a.1 in
      let n = names_in s k h g r a.0 in
      let last = words + argument_words * length us in (
        n.passes words waits,
        arguments_give s k rest h g words all need waits (name_told last n.serial n.signature 0 told) a.1
            (omega (arith, few)) (omega (arith, many)) (omega (arith, room))
            (name_free last n.serial n.signature all told free (omega (arith, many))),
      )
  arguments_give s k (Y.ArgumentThen (Y.ByCopy type (Y.StoredText x)) rest) h g words all need waits told is few many
      room free =
      absurd (cc is)
  arguments_give s k (Y.ArgumentThen (Y.ByCopy type (Y.StoredBit x)) rest) h g words all need waits told is few many
      room free =
      absurd (cc is)
  arguments_give s k (Y.ArgumentThen (Y.ByCopy type (Y.StoredPointer x)) rest) h g words all need waits told is few many
      room free =
      absurd (cc is)
  arguments_give s k (Y.ArgumentThen (Y.ByCopy type (Y.StoredOffset x)) rest) h g words all need waits told is few many
      room free =
      absurd (cc is)
  arguments_give s k (Y.ArgumentThen (Y.ByOffsetInParameter p parameter) rest) h g words all need waits told is few many
      room free =
      absurd (cc is)
  arguments_give s k (Y.ArgumentThen (Y.ByOffsetInAutomatic p) rest) h g words all need waits told is few many room
      free =
      absurd (cc is)

  reference_does :
      (s : Scope) (k : Setting) (r : Y.Reference) (h : KnowsNumbers s k) → is_reference s r ≡ true →
      HasLists h (reference_sets r) → Does k (reference_needs r) (Y.NumberIn r)
  reference_does s k (Y.Referring v Y.NotLocated part Y.NoNumber) h is room =
      let r = Y.Referring v Y.NotLocated part Y.NoNumber in
      scalar_does s k r h (or_cases (is_variable s r) (is_given s r) is)
  reference_does s k (Y.Referring v Y.NotLocated part (Y.NumberThen first rest)) h is room =
      let need = subscripts_need (Y.NumberThen first rest) in
      let a = and_parts (is_element s is_fixed v part (suc (given_in rest)))
      (is_number s first && are_numbers s rest) is in
      let b = and_parts (is_number s first) (are_numbers s rest) a.1 in
      element_number s k is_fixed v part (Y.NumberThen first rest) h a.0 (λ t passes. (31, fixed_is t passes))
      (first_then k 0 need first rest (subscript_given s k 0 need first h b.0 (omega arith)
      (number_does s k first h b.0 (first_lists h first rest room)))
      (λ bs many. subscripts_do s k rest h b.1 (rest_lists h first rest room) bs 1 need many (omega arith)))
  reference_does s k (Y.Referring v (Y.LocatedBy p) part Y.NoNumber) h is room =
      let w = through_is s is_word_type v p part is in
      subst (λ r. Does k 0 (Y.NumberIn r)) (sym w.is) (h.located w.may w.pointer w.based w.member w.known w.declared)
  reference_does s k (Y.Referring v (Y.LocatedBy p) part (Y.NumberThen first rest)) h is room = absurd (cc is)

  item_does :
      (s : Scope) (k : Setting) (r : Y.Reference) (h : KnowsNumbers s k) → is_item s is_number_type r ≡ true →
      HasLists h (reference_sets r) → Does k (reference_needs r) (Y.NumberIn r)
  item_does s k (Y.Referring v Y.NotLocated part (Y.NumberThen first rest)) h is room =
      let need = subscripts_need (Y.NumberThen first rest) in
      let a = and_parts (is_element s is_number_type v part (suc (given_in rest)))
      (is_number s first && are_numbers s rest) is in
      let b = and_parts (is_number s first) (are_numbers s rest) a.1 in
      element_number s k is_number_type v part (Y.NumberThen first rest) h a.0 number_type_is
      (first_then k 0 need first rest (subscript_given s k 0 need first h b.0 (omega arith)
      (number_does s k first h b.0 (first_lists h first rest room)))
      (λ bs many. subscripts_do s k rest h b.1 (rest_lists h first rest room) bs 1 need many (omega arith)))
  item_does s k (Y.Referring v Y.NotLocated part Y.NoNumber) h is room = absurd (cc is)
  item_does s k (Y.Referring v (Y.LocatedBy p) part subscripts) h is room = absurd (cc is)

  bit_item_tests :
      (s : Scope) (k : Setting) (r : Y.Reference) (h : KnowsNumbers s k) → is_item s is_bit r ≡ true →
      HasLists h (reference_sets r) → Tests k (reference_needs r) (Y.BitIn r)
  bit_item_tests s k (Y.Referring v Y.NotLocated part (Y.NumberThen first rest)) h is room =
      let need = subscripts_need (Y.NumberThen first rest) in
      let a = and_parts (is_element s is_bit v part (suc (given_in rest)))
      (is_number s first && are_numbers s rest) is in
      let b = and_parts (is_number s first) (are_numbers s rest) a.1 in
      element_bit s k v part (Y.NumberThen first rest) h a.0
      (first_then k 0 need first rest (subscript_given s k 0 need first h b.0 (omega arith)
      (number_does s k first h b.0 (first_lists h first rest room)))
      (λ bs many. subscripts_do s k rest h b.1 (rest_lists h first rest room) bs 1 need many (omega arith)))
  bit_item_tests s k (Y.Referring v Y.NotLocated part Y.NoNumber) h is room = absurd (cc is)
  bit_item_tests s k (Y.Referring v (Y.LocatedBy p) part subscripts) h is room = absurd (cc is)

  -- subscripts, one for each dimension
  pub subscripts_do :
      (s : Scope) (k : Setting) (xs : Y.Numbers) (h : KnowsNumbers s k) → are_numbers s xs ≡ true →
      HasLists h (numbers_set xs) → (bs : List Bounds) (taken need : ℕ) → length bs ≡ given_in xs →
      taken + subscripts_need xs ≤ need → AreSubscripts k taken need bs xs
  subscripts_do s k Y.NoNumber h is room [] taken need many enough = tt
  subscripts_do s k Y.NoNumber h is room (b ∷ bs) taken need many enough = absurd (omega (arith, many))
  subscripts_do s k (Y.NumberThen first rest) h is room [] taken need many enough = absurd (omega (arith, many))
  subscripts_do s k (Y.NumberThen first rest) h is room (b ∷ bs) taken need many enough =
      let p = fewer_lists h (number_sets first) (max (number_sets first) (numbers_set rest)) (omega arith) room in
      let q = fewer_lists h (numbers_set rest) (max (number_sets first) (numbers_set rest)) (omega arith) room in
      let a = and_parts (is_number s first) (are_numbers s rest) is in (
        subscript_given s k taken need first h a.0 (omega (arith, enough)) (number_does s k first h a.0 p),
        subscripts_do s k rest h a.1 q bs (taken + 1) need (omega (arith, many)) (omega (arith, enough)),
      )

  numbers_do :
      (s : Scope) (k : Setting) (xs : Y.Numbers) (h : KnowsNumbers s k) → are_numbers s xs ≡ true →
      HasLists h (numbers_set xs) → AllDo k (numbers_need xs) xs
  numbers_do s k Y.NoNumber h is room = tt
  numbers_do s k (Y.NumberThen first rest) h is room =
      let p = fewer_lists h (number_sets first) (max (number_sets first) (numbers_set rest)) (omega arith) room in
      let q = fewer_lists h (numbers_set rest) (max (number_sets first) (numbers_set rest)) (omega arith) room in
      let a = and_parts (is_number s first) (are_numbers s rest) is in
      let m = number_needs first in
      let n = numbers_need rest in (
        more_registers k m (max m n) first (omega arith) (number_does s k first h a.0 p),
        all_with_more k n (max m n) rest (omega arith) (numbers_do s k rest h a.1 q),
      )

  pub text_does :
      (entries : List Entry) (s : Scope) (k : Setting) (x : Y.Text) → KnowsNumbers s k → IsBare s →
      s.texts ≡ true → is_text s x ≡ true → TextDoes entries k (text_needs x) x
  text_does entries s k (Y.TextConstant bytes) h none may is =
      text_constant_does entries k bytes (h.texts may).constants is
  text_does entries s k (Y.TextIn r) h none may is = text_variable_does entries s k r h is
  text_does entries s k (Y.TextFrom c) h none may is = absurd (cc is)
  text_does entries s k (Y.TextOfNumber precision x) h none may is =
      let a = and_parts (is_precision precision) (is_number s x) is in
      let b = and_parts (nat_lt 0 precision) (nat_le precision 31) a.0 in
      number_pushes entries k x precision (number_needs x) (ltb-true 0 precision b.0) (leb-true precision 31 b.1)
      (above_waiting entries s k x h none may (λ w room. number_does s (over entries k) x w a.1 room))
  text_does entries s k (Y.TextOfBit x) h none may is =
      bit_pushes entries k x (test_needs x)
      (above_bit entries k x (test_needs x)
      (test_does s (over entries k) x (numbers_wait entries none h (h.texts may)) is
      (no_lists (numbers_wait entries none h (h.texts may)) (test_sets x) none)))
  text_does entries s k (Y.Joined left right) h none may is =
      let a = and_parts (is_text s left) (is_text s right) is in
      joined_pushes entries k left right (text_needs left) (text_needs right) (h.texts may).errors.text
      (text_does entries s k left h none may a.0)
      (λ t. text_does (TextEntry t ∷ entries) s k right h none may a.1)
  text_does entries s k (Y.SubstringFrom x start) h none may is =
      let a = and_parts (is_text s x) (is_number s start) is in
      from_cuts entries k x start (text_needs x) (number_needs start) (h.texts may).errors.text
      (text_does entries s k x h none may a.0)
      (λ t. above_waiting (TextEntry t ∷ entries) s k start h none may
      (λ w room. number_does s (over (TextEntry t ∷ entries) k) start w a.1 room))
  text_does entries s k (Y.Substring x start count) h none may is =
      let a = and_parts (is_text s x) (is_number s start && is_number s count) is in
      let b = and_parts (is_number s start) (is_number s count) a.1 in
      part_cuts entries k x start count (text_needs x) (number_needs start) (number_needs count)
      (h.texts may).errors.text (text_does entries s k x h none may a.0)
      (λ t. above_waiting (TextEntry t ∷ entries) s k start h none may
      (λ w room. number_does s (over (TextEntry t ∷ entries) k) start w b.0 room))
      (λ t. above_waiting (TextEntry t ∷ entries) s k count h none may
      (λ w room. number_does s (over (TextEntry t ∷ entries) k) count w b.1 room))

  pub test_does :
      (s : Scope) (k : Setting) (x : Y.Bit) (h : KnowsNumbers s k) → is_test s x ≡ true → HasLists h (test_sets x) →
      Tests k (test_needs x) x
  test_does s k (Y.BitConstant b) h is room = constant_tests k b
  test_does s k (Y.Negated x) h is room = negated_tests k x (test_needs x) (test_does s k x h is room)
  test_does s k (Y.Combined operator left right) h is room =
      let a = and_parts (is_test s left) (is_test s right) is in
      combined_tests k operator left right (test_needs left) (test_needs right) (test_does s k left h a.0
      (left_tests h left right room)) (test_does s k right h a.1 (right_tests h left right room))
  test_does s k (Y.NumbersCompared comparison left right) h is room =
      let a = and_parts (is_number s left) (is_number s right) is in
      numbers_tests k comparison left right (number_needs left) (number_needs right) (number_does s k left h a.0
      (left_lists h left right room)) (number_does s k right h a.1 (right_lists h left right room))
  test_does s k (Y.BitsCompared comparison left right) h is room =
      let a = and_parts (is_test s left) (is_test s right) is in
      bits_tests k comparison left right (test_needs left) (test_needs right) (test_does s k left h a.0
      (left_tests h left right room)) (test_does s k right h a.1 (right_tests h left right room))
  test_does s k (Y.BitIn r) h is room =
      flagged_tests s k r h (or_cases (is_narrow_with s is_bit r) (is_item s is_bit r) is)
      (λ one. bit_item_tests s k r h one room)
  test_does s k (Y.BitFrom c) h is room = absurd (cc is)
  test_does s k (Y.BitOfText x) h is room =
      let a = and_parts s.texts (is_text (without_given s) x) is in
      let t = texts_without (h.texts a.0) in
      alone_bit k (Y.BitOfText x) (text_needs x)
      (text_tells [] k x (text_needs x) t.errors.bit
      (text_does [] (without_given s) k x (numbers_without h) (bare s) a.0 a.1))
  test_does s k (Y.TextsCompared comparison left right) h is room =
      let g = without_given s in
      let a = and_parts s.texts (is_text g left && is_text g right) is in
      let b = and_parts (is_text g left) (is_text g right) a.1 in
      alone_bit k (Y.TextsCompared comparison left right) (max (text_needs left) (text_needs right))
      (texts_compare [] k comparison left right (text_needs left) (text_needs right)
      (text_does [] g k left (numbers_without h) (bare s) a.0 b.0)
      (λ t. text_does (TextEntry t ∷ []) g k right (numbers_without h) (bare s) a.0 b.1))
  test_does s k (Y.PointersCompared equal left right) h is room = compared_does s k equal left right h is
  test_does s k (Y.OffsetsCompared equal left right) h is room = absurd (cc is)
