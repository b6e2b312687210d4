-- The code of a source, with the names that a reader knows its procedures by.
use Rattle.std.specs.Prelude.{◌≡◌, ℕ, List, [], ◌∷◌, map, Option, Some, None}
use Rattle.pli_language.specs.Declarations.{Block, blocks_of}
use Rattle.pli_language.specs.Tree as T
use Rattle.pli_typing.specs.Resolving.{Resolves}
use Rattle.pli_typing.specs.TypedTree as Y
use Rattle.pli_coding.specs.Assembly.{Item}
use Rattle.pli_coding.specs.Images.{code_of}
use Rattle.pli_frames.specs.Parts.{parts}
use Rattle.pli_compile.specs.Compiling.{IsProgramOf}

abbrev pub first_letters : List T.Name → List ℕ
first_letters [] = []
first_letters (n ∷ ns) = n.letters

abbrev pub head_letters : Option T.ProcedureHead → List ℕ
head_letters None = []
head_letters (Some head) = first_letters head.labels

-- the letters of a block's first label, none where it is no procedure
abbrev pub block_letters : Block → List ℕ
block_letters b = head_letters b.head

-- the code of a source's program before it stands at its places, and the letters of each block by its number
pub record IsNamed (s : List ℕ) (code : List Item) (names : List (List ℕ)) : Type 0 where
  pub program : Y.Program
  pub source : IsProgramOf s program
  pub coded : code ≡ code_of parts program
  pub named : names ≡ map block_letters (blocks_of source.tree)

-- the code of a tree's program
abbrev pub IsTreeNamed : T.Tree → List Item → Type 0
IsTreeNamed tree code = (program : Y.Program) × Resolves tree program × (code ≡ code_of parts program)
