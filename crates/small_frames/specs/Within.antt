-- What references and expressions come to takes no more words of a frame than their source weighs.
use Rattle.std.specs.Prelude.{ℕ, ◌≤◌, List, ⊤}
use Rattle.pli_language.specs.Tree as T
use Rattle.pli_typing.specs.TypedTree as Y
use Rattle.pli_typing.specs.Judging.{Scope, Mention, MentionsFunction, MentionsVariable}
use Rattle.pli_typing.specs.Converting.{Referent, Designates, Gives}
use Rattle.pli_typing.specs.References.{expression, reference}
use Rattle.pli_coding.specs.Expressions.{argument_words}
use Rattle.temporary_bounds.specs.WordBounds.{number_words, text_words, bit_words, pointer_words, offset_words}
use Rattle.temporary_bounds.specs.WordBounds.{reference_words}
use Rattle.well_formed_trees.specs.Every.{Every}
use Rattle.small_frames.specs.Weights.{weight, reference_weight}

abbrev pub ValueWithin : (words : ℕ) → Y.Value → Type 0
ValueWithin w (Y.NumberValue p n) = number_words n ≤ w
ValueWithin w (Y.TextValue t) = text_words t ≤ w
ValueWithin w (Y.BitValue b) = bit_words b ≤ w
ValueWithin w (Y.PointerValue p) = pointer_words p ≤ w
ValueWithin w (Y.OffsetValue area o) = offset_words o ≤ w
ValueWithin w Y.NullValue = ⊤

abbrev pub Within : (words : ℕ) → Referent → Type 0
Within w (Designates d) = reference_words d.reference ≤ w
Within w (Gives v) = ValueWithin w v
Within w _ = ⊤

-- where a function is called, each argument is counted as what its list takes
abbrev pub IsCounted : (each : ℕ) → Mention → Type 0
IsCounted each MentionsFunction = argument_words ≤ each
IsCounted each (MentionsVariable v) = ⊤

abbrev pub AreCounted : (each : ℕ) → List Mention → Type 0
AreCounted each ms = Every (IsCounted each) ms

-- the law, of expressions: whatever their program declares
abbrev pub ExpressionsWithin : Type 0
ExpressionsWithin =
    (each : ℕ) → 1 ≤ each → (scope : Scope) (e : T.Expr) → AreCounted each (expression scope e).mentions
    → Within (weight each e) (expression scope e).value

-- and of references
abbrev pub ReferencesWithin : Type 0
ReferencesWithin =
    (each : ℕ) → 1 ≤ each → (scope : Scope) (r : T.Reference) → AreCounted each (reference scope r).mentions
    → Within (reference_weight each r) (reference scope r).value
