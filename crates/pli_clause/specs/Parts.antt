-- Readers of a word, and of what stands behind words that may stand, out of readers of their parts.
use Rattle.std.specs.Prelude.{List, [], ◌∷◌, if◌then◌else◌, Option, Some, None, Ok, Err}
use Rattle.pli_language.specs.declared.token.Word.{Word}
use Rattle.pli_language.specs.declared.token.Kind.{Kind}
use Rattle.pli_language.specs.declared.token.Kind.TheVariants as K
use Rattle.pli_language.specs.declared.token.Token.{Token}
use Rattle.pli_phrase.specs.Cursor.{Cursor, Stuck, Ended, Read, ◌>>=◌, onto}
use Rattle.pli_phrase.specs.Tokens.{begins, taken}

abbrev pub word_of_kind : Token → Kind → Cursor → Read (Token × Word)
word_of_kind t (K.Name word) c = Ok ((t, word), c)
word_of_kind t _ c = Err Stuck

abbrev pub word_at : List Token → Cursor → Read (Token × Word)
word_at [] c = Err Ended
word_at (t ∷ ts) c = word_of_kind t t.kind (onto ts c)

-- a name's token, with its word
unfoldable pub word_from : Cursor → Read (Token × Word)
word_from c = word_at c.tokens c

-- what stands behind a word, where that word stands
unfoldable pub behind_word : {X : Type 0} → Word → (Cursor → Read X) → Cursor → Read (Option X)
behind_word w inner c =
    if begins (K.Name w) c then (taken (K.Name w) c >>= λ t. inner t.1 >>= λ x. Ok (Some x.0, x.1)) else Ok (None, c)

-- up to a token that is neither of two words
abbrev pub ended_by : {X : Type 0} → Word → Word → X → Cursor → Read X
ended_by v w x c =
    if begins (K.Name v) c then Err Stuck else if begins (K.Name w) c then Err Stuck else Ok (x, c)

-- what stands behind two words, each at most once, in this order or in the other one
abbrev pub in_order : {X : Type 0} → Word → Word → (Cursor → Read X) → Cursor → Read (Option X × Option X)
in_order v w inner c =
    behind_word v inner c >>= λ x. behind_word w inner x.1 >>= λ y. ended_by v w (x.0, y.0) y.1

abbrev pub in_reverse : {X : Type 0} → Word → Word → (Cursor → Read X) → Cursor → Read (Option X × Option X)
in_reverse v w inner c =
    behind_word w inner c >>= λ y. behind_word v inner y.1 >>= λ x. ended_by v w (x.0, y.0) x.1

unfoldable pub both_from : {X : Type 0} → Word → Word → (Cursor → Read X) → Cursor → Read (Option X × Option X)
both_from v w inner c = if begins (K.Name v) c then in_order v w inner c else in_reverse v w inner c
