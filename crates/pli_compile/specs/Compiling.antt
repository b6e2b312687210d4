-- What image a source has, what that image keeps, and why a source without one is refused.
use Rattle.std.specs.Prelude.{◌≡◌, ◌≢◌, ◌⊎◌, ℕ, ◌+◌, ◌*◌, ◌≤◌, true, List, [], length}
use Rattle.pli_language.specs.declared.fault.SourceFault.{SourceFault}
use Rattle.pli_language.specs.declared.token.Token.{Token}
use Rattle.pli_language.specs.Tokens.{Tokens, Refuses}
use Rattle.pli_language.specs.Tree as T
use Rattle.pli_language.specs.Parsing.{Spells, RefusesTokens}
use Rattle.pli_language.specs.Declaring.{declaring_faults}
use Rattle.pli_language.specs.Refusals.{IsLeast, want_of_memory}
use Rattle.pli_typing.specs.Resolving.{typing_faults, IsMistyped, Resolves}
use Rattle.pli_typing.specs.TypedTree as Y
use Rattle.pli_meaning.specs.Pictures.{step_cost}
use Rattle.pli_coding.specs.Images.{picture_of}
use Rattle.pli_coding.specs.SignatureTable.{table_of}
use Rattle.rv_meaning.specs.Images as Images
use Rattle.rv_program.specs.Generated.{IsCodeOf}
use Rattle.pli_headline.specs.ProvedSoFar.{IsProvedSoFar}
use Rattle.pli_headline.specs.Headline.{parts, Headline}
use Rattle.pli_headline.specs.FirstPathTrees.{IsFirstPath}
use Rattle.number_headlines.specs.Programs.{is_number_program}
use Rattle.unit_numbers.specs.Programs.{is_unit_program}
use Rattle.pli_compile.specs.Stacks.{HasSmallFrames}

-- a source has these tokens, which spell a tree that breaks no rule of declarations and none of typing
pub record IsAccepted (s : List ℕ) (tokens : List Token) (tree : T.Tree) : Type 0 where
  pub read : Tokens s tokens
  pub spelled : Spells s tokens tree
  pub declares : declaring_faults tree ≡ []
  pub keeps_types : typing_faults tree ≡ []

-- this is the program of a source
pub record IsProgramOf (s : List ℕ) (program : Y.Program) : Type 0 where
  pub tokens : List Token
  pub tree : T.Tree
  pub accepted : IsAccepted s tokens tree
  pub resolved : Resolves tree program

-- a source has so many tokens, and they spell the tree
pub record IsParsed (s : List ℕ) (count : ℕ) (tree : T.Tree) : Type 0 where
  pub tokens : List Token
  pub read : Tokens s tokens
  pub spelled : Spells s tokens tree
  pub counted : count ≡ length tokens

-- ---- images

-- the image of a tree's program: just its code, which a machine loads
abbrev pub IsTreeCoded : T.Tree → Images.Image → Type 0
IsTreeCoded tree image =
    (program : Y.Program) × Resolves tree program × IsCodeOf program image × Images.IsLoadable image

-- the most words of code that so many tokens are compiled to, and so the most that an act costs
abbrev pub most_words : ℕ → ℕ
most_words tokens = 4000 + 104 * tokens

abbrev pub most_step_cost : ℕ → ℕ
most_step_cost tokens = 8002 + 208 * tokens

-- the headline is proved for a program: for its forms, or since it is one of numbers, with procedures and functions or
-- with on-units
abbrev pub IsProved : Y.Program → Type 0
IsProved program =
    IsProvedSoFar program ⊎ ((is_number_program program ≡ true) ⊎ (is_unit_program program ≡ true))

-- the image of a source: just the code that the definitions have for its program, which is short and makes small frames. Where the headline
-- is proved for the program, the image keeps it; and so it is for each program of the first path
pub record IsImageFor (s : List ℕ) (image : Images.Image) : Type 0 where
  pub program : Y.Program
  pub source : IsProgramOf s program
  pub coded : IsCodeOf program image
  pub short : length image.code ≤ most_words (length source.tokens)
  pub cheap : step_cost (picture_of parts program) ≤ most_step_cost (length source.tokens)
  pub small : HasSmallFrames program
  pub keeps : IsProved program → Headline program (picture_of parts program) (table_of program)
  pub first_path : IsFirstPath source.tree → IsProvedSoFar program

-- ---- refusals

-- why a source has no image: no memory; what its bytes are refused for; the least of the rules that its tokens break; the
-- least of those that the declarations of its tree break; or the least of the rules of typing that the tree breaks
pub data IsRefused (s : List ℕ) (f : SourceFault) : Type 0 where
  out_of_memory : f ≡ want_of_memory → IsRefused s f
  no_tokens : Refuses s f.line f.column f.kind → IsRefused s f
  no_tree : (tokens : List Token) → Tokens s tokens → RefusesTokens s tokens f → IsRefused s f
  bad_declarations : (tokens : List Token) (tree : T.Tree) → Tokens s tokens → Spells s tokens tree → IsLeast (declaring_faults tree) f → IsRefused s f
  bad_types : (tokens : List Token) (tree : T.Tree) → Tokens s tokens → Spells s tokens tree → declaring_faults tree ≡ [] → IsMistyped tree f → IsRefused s f

-- the law: only a source without a token has no procedure
abbrev pub ProcedureFound : Type 0
ProcedureFound = (s : List ℕ) (tokens : List Token) (tree : T.Tree) → Spells s tokens tree → tree.procedures ≡ T.NoItem → tokens ≡ []

-- the law: a source that is refused for anything but want of memory is accepted with no tokens and as no tree
abbrev pub RefusedNever : Type 0
RefusedNever =
    (s : List ℕ) (f : SourceFault) → IsRefused s f → f ≢ want_of_memory → (tokens : List Token) (tree : T.Tree) → ¬ IsAccepted s tokens tree

-- the law: the code of a program of the first path is as short as its tokens allow, so none is refused for its length
abbrev pub FirstPathShort : Type 0
FirstPathShort =
    (s : List ℕ) (tokens : List Token) (tree : T.Tree) (program : Y.Program) → IsAccepted s tokens tree → Resolves tree program → IsFirstPath tree
    → length (picture_of parts program).code ≤ most_words (length tokens)
