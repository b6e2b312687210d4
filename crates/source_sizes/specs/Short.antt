-- How many words the code has at most of what an expression of a source comes to, by the tokens that it is spelled
-- with.
use Rattle.std.specs.Prelude.{ℕ, ◌+◌, ◌*◌, ◌≤◌, ⊤}
use Rattle.pli_language.specs.Tree as T
use Rattle.pli_typing.specs.TypedTree as Y
use Rattle.pli_typing.specs.Judging.{Scope}
use Rattle.pli_typing.specs.Converting.{Referent, Designates, Gives}
use Rattle.pli_typing.specs.References.{expression, reference}
use Rattle.code_sizes.specs.ExpressionSizes.{number_size, text_size, bit_size, pointer_size, offset_size}
use Rattle.code_sizes.specs.ExpressionSizes.{reference_size}
use Rattle.code_sizes.specs.ExpressionSizes.{name_size}
use Rattle.tree_tokens.specs.TreeTokens.{expr_tokens, reference_tokens}

abbrev pub words_for_a_token : ℕ
words_for_a_token = 104

-- what stands beside: a name that is found by a locator which no token says takes 157
abbrev pub words_beside : ℕ
words_beside = 53

abbrev pub most_words : (tokens : ℕ) → ℕ
most_words tokens = words_for_a_token * tokens + words_beside

-- an OFFSET may become a POINTER, so it has that much less
abbrev pub offset_room : ℕ
offset_room = 13

abbrev pub ValueShort : (words : ℕ) → Y.Value → Type 0
ValueShort w (Y.NumberValue p n) = number_size n ≤ w
ValueShort w (Y.TextValue t) = text_size t ≤ w
ValueShort w (Y.BitValue b) = bit_size b ≤ w
ValueShort w (Y.PointerValue p) = pointer_size p ≤ w
ValueShort w (Y.OffsetValue area o) = offset_size o + offset_room ≤ w
ValueShort w Y.NullValue = ⊤

-- a variable's value of any kind: a POINTER's takes most
abbrev pub Short : (words : ℕ) → Referent → Type 0
Short w (Designates d) = reference_size d.reference + name_size ≤ w
Short w (Gives v) = ValueShort w v
Short w _ = ⊤

-- the law, of expressions: whatever their program declares
abbrev pub ExpressionsShort : Type 0
ExpressionsShort = (scope : Scope) (e : T.Expr) → Short (most_words (expr_tokens e)) (expression scope e).value

-- and of references
abbrev pub ReferencesShort : Type 0
ReferencesShort = (scope : Scope) (r : T.Reference) → Short (most_words (reference_tokens r)) (reference scope r).value
