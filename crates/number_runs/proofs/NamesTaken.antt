-- What names take: elements, variables of fewer bits, texts, and what is asked of arrays.
use Rattle.std.proofs.Common.{◌≡◌, ◌⊎◌, inl, inr, ℕ, suc, true, refl, sym, subst, arith}
use Rattle.std.specs.Prelude.{◌&&◌, ◌||◌, Bool, max}
use Rattle.std.proofs.lemmas.Bool.{and_parts, or_cases}
use Rattle.pli_typing.specs.TypedTree as Y
use Rattle.pli_coding.specs.Expressions.{argument_count, given_in}
use Rattle.pli_coding.specs.Environments.{Taken, most_taken}
use Rattle.pli_coding.specs.Temporaries.{bit_takes, number_takes, reference_takes, subscripts_take, text_takes}
use Rattle.number_runs.specs.Numbers.{Scope, are_arguments, gives_lists, is_asked, is_element, is_number, is_reference}
use Rattle.number_runs.specs.Numbers.{number_needs, number_sets, numbers_set, reference_needs, reference_sets}
use Rattle.number_runs.specs.Numbers.{is_narrow_with, text_needs, IsBare, are_compared, compared_sets, is_item}
use Rattle.number_runs.specs.Numbers.{subscripts_need}
use Rattle.number_runs.specs.Narrow.{is_number_type, is_text_type}
use Rattle.number_runs.proofs.Arrays.{element_is, asked_is}
use Rattle.number_runs.proofs.Taking.{Sets, Takes, one_more, sets_no_words, takes_either, takes_of, Fits, sets_two}
use Rattle.number_runs.proofs.Taking.{whole_takes}
use Rattle.number_runs.proofs.Unset.{number_unset}
use Rattle.number_runs.proofs.Narrow.{narrow_with_is}
use Rattle.number_runs.proofs.Pointed.{compared_by}

-- where nothing is located
pub subscripts_front : (n p : ℕ) (t a : Taken) → Sets n p t a → Sets n (max 0 p) t (most_taken t a)
subscripts_front n p t a x =
    let c = x.registers in
    let u = x.words in
    record { registers = omega (arith, c); words = omega (arith, u) }

pub narrow_taken :
    (s : Scope) (test : Y.LeafType → Bool) (r : Y.Reference) (t : Taken) → is_narrow_with s test r ≡ true →
    Sets (reference_needs r) (reference_sets r) t (reference_takes t r)
narrow_taken s test r t h =
    let w = narrow_with_is s test r h in
    subst (λ q. Sets (reference_needs q) (reference_sets q) t (reference_takes t q)) (sym w.is) (whole_takes t w.spot)

-- one whose type passes a test, or an element
pub narrow_or_item :
    (s : Scope) (test : Y.LeafType → Bool) (r : Y.Reference) (t : Taken) →
    (is_narrow_with s test r ≡ true) ⊎ (is_item s test r ≡ true) →
    (is_item s test r ≡ true → Sets (reference_needs r) (reference_sets r) t (reference_takes t r)) →
    Sets (reference_needs r) (reference_sets r) t (reference_takes t r)
narrow_or_item s test r t (inl h) item = narrow_taken s test r t h
narrow_or_item s test r t (inr h) item = item h

pub text_in_taken :
    (s : Scope) (r : Y.Reference) (t : Taken) → is_narrow_with s is_text_type r ≡ true →
    Takes 0 t (text_takes t (Y.TextIn r))
text_in_taken s r t h =
    let w = narrow_with_is s is_text_type r h in
    let x = whole_takes t w.spot in
    let c = x.registers in
    let u = x.words in
    subst (λ q. Takes 0 t (reference_takes t q)) (sym w.is)
    (record { registers = omega (arith, c); words = omega (arith, u) })

pub named_taken :
    (s : Scope) (r : Y.Reference) (t : Taken) →
    (is_reference s r ≡ true) ⊎ ((is_narrow_with s is_number_type r || is_item s is_number_type r) ≡ true) →
    (is_reference s r ≡ true → Sets (reference_needs r) (reference_sets r) t (reference_takes t r)) →
    (is_item s is_number_type r ≡ true → Sets (reference_needs r) (reference_sets r) t (reference_takes t r)) →
    Sets (reference_needs r) (reference_sets r) t (reference_takes t r)
named_taken s r t (inl h) one item = one h
named_taken s r t (inr h) one item =
    narrow_or_item s is_number_type r t
    (or_cases (is_narrow_with s is_number_type r) (is_item s is_number_type r) h) item

-- of a dimension
pub asked_taken :
    (s : Scope) (r : Y.Reference) (dimension : ℕ) (t : Taken) → is_asked s r dimension ≡ true →
    Sets 0 0 t (reference_takes t r)
asked_taken s r dimension t h =
    let w = asked_is s r dimension h in
    subst (λ q. Sets 0 0 t (reference_takes t q)) (sym w.is) (whole_takes t w.spot)

-- an element, whose subscripts wait
pub element_taken :
    (s : Scope) (test : Y.LeafType → Bool) (v : Y.Variable) (part : Y.Part) (first : Y.Number) (rest : Y.Numbers)
    (t : Taken) → is_element s test v part (suc (given_in rest)) ≡ true →
    Fits t (max (number_needs first) (suc (subscripts_need rest))) →
    Sets (number_needs first) (number_sets first) t (number_takes t first) →
    Sets (subscripts_need rest) (numbers_set rest) (one_more t) (subscripts_take (one_more t) rest) →
    Sets (max (number_needs first) (suc (subscripts_need rest))) (max 0 (max (number_sets first) (numbers_set rest))) t
    (reference_takes t (Y.Referring v Y.NotLocated part (Y.NumberThen first rest)))
element_taken s test v part first rest t h fits one more =
    let xs = Y.NumberThen first rest in
    let w = element_is s test v part xs h in
    subst (λ r. Sets (subscripts_need xs) (max 0 (numbers_set xs)) t (reference_takes t r)) (sym w.is)
    (subscripts_front (subscripts_need xs) (numbers_set xs) t (subscripts_take t xs)
    (sets_two (number_needs first) (subscripts_need rest) (number_sets first) (numbers_set rest) t
    (number_takes t first) (λ u. subscripts_take u rest) fits one more))

pub given_are :
    (s : Scope) (number level : ℕ) (xs : Y.Arguments) → is_number s (Y.NumberFrom (Y.Calling number level xs)) ≡ true →
    are_arguments s xs ≡ true
given_are s number level Y.NoArgument h = refl
given_are s number level (Y.ArgumentThen first rest) h =
    let xs = Y.ArgumentThen first rest in
    let taken = s.is_given_function (suc (argument_count rest)) level number in
    let a = and_parts (gives_lists s) (taken && are_arguments s xs) h in
    (and_parts taken (are_arguments s xs) a.1).1

-- two names wait
pub compared_taken :
    (s : Scope) (equal : Bool) (left right : Y.Pointer) (t : Taken) → are_compared s left right ≡ true →
    Sets 0 compared_sets t (bit_takes t (Y.PointersCompared equal left right))
compared_taken s equal left right t h =
    compared_by s (λ l r. Sets 0 compared_sets t (bit_takes t (Y.PointersCompared equal l r)))
    (λ x. record { registers = omega arith; words = omega arith })
    (λ x y. record { registers = omega arith; words = omega arith }) left right h

-- a number takes no words where calls have no arguments
pub unset_taken :
    (s : Scope) (x : Y.Number) (t : Taken) → IsBare s → is_number s x ≡ true →
    Sets (number_needs x) (number_sets x) t (number_takes t x) → Takes (number_needs x) t (number_takes t x)
unset_taken s x t none h taken =
    takes_of (number_needs x) (number_sets x) t (number_takes t x) (number_unset s x none h) taken

pub two_texts_taken :
    (left right : Y.Text) (t : Taken) → Takes (text_needs left) t (text_takes t left) →
    Takes (text_needs right) t (text_takes t right) →
    Sets (max (text_needs left) (text_needs right)) 0 t (most_taken (text_takes t left) (text_takes t right))
two_texts_taken left right t x y =
    sets_no_words (max (text_needs left) (text_needs right)) t (most_taken (text_takes t left) (text_takes t right))
    (takes_either (text_needs left) (text_needs right) t (text_takes t left) (text_takes t right) x y)
