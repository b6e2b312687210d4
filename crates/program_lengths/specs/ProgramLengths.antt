-- How many words the code of a source's program has at most, and so its image.
use Rattle.std.specs.Prelude.{ℕ, ◌+◌, ◌*◌, ◌≤◌, List, length}
use Rattle.pli_language.specs.declared.token.Token.{Token}
use Rattle.pli_language.specs.Tokens.{Tokens}
use Rattle.pli_language.specs.Tree as T
use Rattle.pli_language.specs.Parsing.{Spells}
use Rattle.pli_typing.specs.Resolving.{typed_tree}
use Rattle.pli_coding.specs.Frames.{MemoryParts}
use Rattle.pli_coding.specs.Images.{picture_of}
use Rattle.code_sizes.specs.ProgramSizes.{program_size}
use Rattle.source_sizes.specs.Short.{words_for_a_token}
use Rattle.program_lengths.specs.StatementLengths.{procedures_beside}
use Rattle.program_lengths.specs.DeclaredLengths.{declares_beside}

-- what no token pays for: aggregates in GET and PUT, counters that are far to reach, and extents that names share
abbrev pub beside : T.Tree → ℕ
beside tree = procedures_beside (typed_tree tree).procedures + declares_beside tree.procedures

-- the start of a run, and the routines of raises
abbrev pub fixed_words : ℕ
fixed_words = 43

abbrev pub most_words : T.Tree → (tokens : ℕ) → ℕ
most_words tree tokens = fixed_words + (words_for_a_token * tokens + beside tree)

-- ---- the laws, of all that is spelled

abbrev pub ProgramsShort : Type 0
ProgramsShort =
    (s : List ℕ) (tokens : List Token) (tree : T.Tree) → Tokens s tokens → Spells s tokens tree
    → program_size (typed_tree tree) ≤ most_words tree (length tokens)

abbrev pub ImagesShort : Type 0
ImagesShort =
    (parts : MemoryParts) (s : List ℕ) (tokens : List Token) (tree : T.Tree) → Tokens s tokens → Spells s tokens tree
    → length (picture_of parts (typed_tree tree)).code ≤ most_words tree (length tokens)

-- where these take no more than 3,957 words, the code is as short as it must be for an image to be given
abbrev pub SourcesShort : Type 0
SourcesShort =
    (parts : MemoryParts) (s : List ℕ) (tokens : List Token) (tree : T.Tree) → Tokens s tokens → Spells s tokens tree
    → fixed_words + beside tree ≤ 4000
    → length (picture_of parts (typed_tree tree)).code ≤ 4000 + words_for_a_token * length tokens
