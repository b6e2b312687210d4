-- Arguments that are too few or too many.
use Rattle.std.proofs.Common.{◌≡◌, ◌≢◌, ◌<◌, ◌≤◌, ℕ, arith, List, [], ◌∷◌, map, length, refl}
use Rattle.pli_language.specs.declared.expr.Place.{Place}
use Rattle.pli_language.specs.declared.fault.SourceKind.TheVariants.{BadArguments}
use Rattle.pli_typing.specs.Builtins as B
use Rattle.pli_typing.specs.Converting as C
use Rattle.pli_typing.specs.Judging.{fine, broken}
use Rattle.pli_typing.specs.TypedTree as Y
use Rattle.pli_operand.specs.declared.operand.Operand.{Operand}
use Rattle.pli_operand.specs.Shown.{operand_of}
use Rattle.pli_builtin.specs.Parts.{extreme_of}

pub bad_of_number : (p : Place) (f : Y.Number → Y.Number) (xs : List Operand) → length xs ≢ 1 → B.of_number p f (map operand_of xs) ≡ B.bad_number p
bad_of_number p f [] h = refl
bad_of_number p f (x ∷ []) h = absurd (h refl)
bad_of_number p f (x ∷ y ∷ xs) h = refl

pub bad_of_text : (p : Place) (xs : List Operand) → length xs ≢ 1 → B.of_text p (map operand_of xs) ≡ B.bad_number p
bad_of_text p [] h = refl
bad_of_text p (x ∷ []) h = absurd (h refl)
bad_of_text p (x ∷ y ∷ xs) h = refl

pub bad_address : (p : Place) (xs : List Operand) → length xs ≢ 1 → B.address p (map operand_of xs) ≡ B.bad_pointer p
bad_address p [] h = refl
bad_address p (x ∷ []) h = absurd (h refl)
bad_address p (x ∷ y ∷ xs) h = refl

pub bad_of_controlled : (p : Place) (xs : List Operand) → length xs ≢ 1 → B.of_controlled p (map operand_of xs) ≡ B.bad_number p
bad_of_controlled p [] h = refl
bad_of_controlled p (x ∷ []) h = absurd (h refl)
bad_of_controlled p (x ∷ y ∷ xs) h = refl

pub bad_of_numbers : (p : Place) (f : Y.Number → Y.Number → Y.Number) (xs : List Operand) → length xs ≢ 2 → B.of_numbers p f (map operand_of xs) ≡ B.bad_number p
bad_of_numbers p f [] h = refl
bad_of_numbers p f (x ∷ []) h = refl
bad_of_numbers p f (x ∷ y ∷ []) h = absurd (h refl)
bad_of_numbers p f (x ∷ y ∷ z ∷ xs) h = refl

pub bad_of_texts : (p : Place) (f : Y.Text → Y.Text → Y.Number) (xs : List Operand) → length xs ≢ 2 → B.of_texts p f (map operand_of xs) ≡ B.bad_number p
bad_of_texts p f [] h = refl
bad_of_texts p f (x ∷ []) h = refl
bad_of_texts p f (x ∷ y ∷ []) h = absurd (h refl)
bad_of_texts p f (x ∷ y ∷ z ∷ xs) h = refl

pub bad_dimension : (p : Place) (f : Y.Reference → ℕ → Y.Number) (xs : List Operand) → length xs ≢ 2 → B.of_dimension p f (map operand_of xs) ≡ B.bad_number p
bad_dimension p f [] h = refl
bad_dimension p f (x ∷ []) h = refl
bad_dimension p f (x ∷ y ∷ []) h = absurd (h refl)
bad_dimension p f (x ∷ y ∷ z ∷ xs) h = refl

pub bad_pointer_into : (p : Place) (xs : List Operand) → length xs ≢ 2 → B.pointer_into p (map operand_of xs) ≡ B.bad_pointer p
bad_pointer_into p [] h = refl
bad_pointer_into p (x ∷ []) h = refl
bad_pointer_into p (x ∷ y ∷ []) h = absurd (h refl)
bad_pointer_into p (x ∷ y ∷ z ∷ xs) h = refl

pub bad_offset_into : (p : Place) (xs : List Operand) → length xs ≢ 2 → B.offset_into p (map operand_of xs) ≡ B.offset_into p []
bad_offset_into p [] h = refl
bad_offset_into p (x ∷ []) h = refl
bad_offset_into p (x ∷ y ∷ []) h = absurd (h refl)
bad_offset_into p (x ∷ y ∷ z ∷ xs) h = refl

pub bad_substring : (p : Place) (xs : List Operand) → length xs ≢ 2 → length xs ≢ 3 → B.substring p (map operand_of xs) ≡ B.substring p []
bad_substring p [] h k = refl
bad_substring p (x ∷ []) h k = refl
bad_substring p (x ∷ y ∷ []) h k = absurd (h refl)
bad_substring p (x ∷ y ∷ z ∷ []) h k = absurd (k refl)
bad_substring p (x ∷ y ∷ z ∷ w ∷ xs) h k = refl

pub bad_quotient : (p : Place) (xs : List Operand) → length xs ≢ 3 → length xs ≢ 4 → B.quotient p (map operand_of xs) ≡ B.bad_number p
bad_quotient p [] h k = refl
bad_quotient p (x ∷ []) h k = refl
bad_quotient p (x ∷ y ∷ []) h k = refl
bad_quotient p (x ∷ y ∷ z ∷ []) h k = absurd (h refl)
bad_quotient p (x ∷ y ∷ z ∷ w ∷ []) h k = absurd (k refl)
bad_quotient p (x ∷ y ∷ z ∷ w ∷ v ∷ xs) h k = refl

pub bad_of_many : (p : Place) (which : Y.Extremum) (xs : List Operand) → length xs < 2 → B.of_many p which (map operand_of xs) ≡ B.bad_number p
bad_of_many p which [] h = refl
bad_of_many p which (x ∷ []) h = refl
bad_of_many p which (x ∷ y ∷ xs) h = absurd (omega (arith, h))

pub of_many_is : (p : Place) (which : Y.Extremum) (x : Operand) (xs : List Operand) → 2 ≤ length (x ∷ xs) → B.of_many p which (map operand_of (x ∷ xs)) ≡ extreme_of which (operand_of x) (map operand_of xs)
of_many_is p which x [] h = absurd (omega (arith, h))
of_many_is p which x (y ∷ xs) h = refl

pub no_argument : (p : Place) (r : C.Referent) (xs : List Operand) → length xs ≡ 0 → B.without_arguments p r (map operand_of xs) ≡ fine r
no_argument p r [] h = refl
no_argument p r (x ∷ xs) h = absurd (omega (arith, h))

pub any_argument : (p : Place) (r : C.Referent) (xs : List Operand) → length xs ≢ 0 → B.without_arguments p r (map operand_of xs) ≡ broken p BadArguments r
any_argument p r [] h = absurd (h refl)
any_argument p r (x ∷ xs) h = refl
