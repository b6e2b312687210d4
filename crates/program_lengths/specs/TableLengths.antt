-- How many words the table of signatures has at most of an accepted source.
use Rattle.std.specs.Prelude.{◌≡◌, ℕ, ◌*◌, ◌^◌, ◌≤◌, List, [], length}
use Rattle.pli_language.specs.declared.token.Token.{Token}
use Rattle.pli_language.specs.Tokens.{Tokens}
use Rattle.pli_language.specs.Tree as T
use Rattle.pli_language.specs.Parsing.{Spells}
use Rattle.pli_language.specs.Declaring.{declaring_faults}
use Rattle.pli_typing.specs.Resolving.{typing_faults, typed_tree}
use Rattle.rv_meaning.specs.Tables.{table_words}
use Rattle.pli_coding.specs.SignatureTable.{table_of}

-- a name has two tokens at least, and a leaf of eight dimensions, with its signature, 22 words
abbrev pub table_words_for_a_token : ℕ
table_words_for_a_token = 11

abbrev pub TablesShort : Type 0
TablesShort =
    (s : List ℕ) (tokens : List Token) (tree : T.Tree) → Tokens s tokens → Spells s tokens tree
    → declaring_faults tree ≡ [] → typing_faults tree ≡ []
    → length (table_words (table_of (typed_tree tree))) ≤ table_words_for_a_token * length tokens

-- so each accepted source has a table that an image holds
abbrev pub TablesFit : Type 0
TablesFit =
    (s : List ℕ) (tokens : List Token) (tree : T.Tree) → Tokens s tokens → Spells s tokens tree
    → declaring_faults tree ≡ [] → typing_faults tree ≡ []
    → length (table_words (table_of (typed_tree tree))) ≤ 2 ^ 20
