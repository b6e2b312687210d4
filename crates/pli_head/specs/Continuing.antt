-- How a head may go on in which the tokens end: as an assignment, or as what its first word says.
use Rattle.std.specs.Prelude.{ℕ, List, [], ◌∷◌, Bool, true, false, ◌&&◌, ◌||◌, if◌then◌else◌, Option, Some, None, Ok, Err}
use Rattle.pli_language.specs.declared.expr.Place.{Place}
use Rattle.pli_language.specs.declared.token.Word.{Word}
use Rattle.pli_language.specs.declared.token.Word.TheVariants as W
use Rattle.pli_language.specs.declared.token.Kind.{Kind}
use Rattle.pli_language.specs.declared.token.Kind.TheVariants as K
use Rattle.pli_language.specs.declared.token.Token.{Token}
use Rattle.pli_language.specs.Heads.{Head}
use Rattle.pli_language.specs.Spells.{place_of}
use Rattle.pli_phrase.specs.Cursor.{Cursor, Ended, Read, onto}
use Rattle.pli_phrase.specs.declared.expression.Beginning.{Beginning}
use Rattle.pli_phrase.specs.declared.expression.Beginning.TheVariants.{Begins, Differs, Unknown}
use Rattle.pli_head.specs.declared.continuation.Continuations.{Continuations}
use Rattle.pli_head.specs.Reading.{assigns, assignment_from, simple_from, head_behind}

abbrev pub is_ended : {X : Type 0} → Read X → Bool
is_ended (Err Ended) = true
is_ended _ = false

abbrev pub may_assign : Beginning → Bool
may_assign Differs = false
may_assign _ = true

abbrev pub is_not_begun : Beginning → Bool
is_not_begun Begins = false
is_not_begun _ = true

abbrev pub is_if : Word → Bool
is_if W.If = true
is_if _ = false

-- the tokens end in an assignment
abbrev pub ends_assignment : List ℕ → Beginning → Place → Cursor → Bool
ends_assignment s b p c = may_assign b && is_ended (simple_from (assignment_from s p c))

-- the tokens end in a head of this word, which stands first among the tokens `at`; what begins an assignment may be an IF all the same
abbrev pub ends_word : List ℕ → Beginning → List Token → Place → Word → Cursor → Bool
ends_word s b at p word c = (is_not_begun b || is_if word) && is_ended (head_behind s at p word c)

abbrev pub no_continuation : Continuations
no_continuation = record { as_assignment = false; as_word = None }

abbrev pub word_if : Bool → Word → Option Word
word_if true word = Some word
word_if false word = None

-- a head of this word, with the cursor behind it
abbrev pub worded : List ℕ → Beginning → Cursor → Place → Word → Cursor → Continuations
worded s b c p word d =
    record { as_assignment = ends_assignment s b p c; as_word = word_if (ends_word s b c.tokens p word d) word }

abbrev pub continued : List ℕ → Cursor → Token → Kind → Cursor → Continuations
continued s c t (K.Name word) d = worded s (assigns s c) c (place_of t) word d
continued s c t _ d = no_continuation

abbrev pub continued_at : List ℕ → Cursor → List Token → Continuations
continued_at s c [] = no_continuation
continued_at s c (t ∷ ts) = continued s c t t.kind (onto ts c)

-- how the head that begins at the first token may go on behind the last one
unfoldable pub continuations : List ℕ → Cursor → Continuations
continuations s c = continued_at s c c.tokens
