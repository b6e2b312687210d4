-- The names that a source declares, as a listing tells them.
use Rattle.std.specs.Prelude.{ℕ, ◌+◌, List, [], ◌∷◌, ◌++◌}
use Rattle.std.specs.List.{flat_map}
use Rattle.pli_language.specs.Tree as T
use Rattle.pli_language.specs.View.{name_of}
use Rattle.pli_language.specs.Declarations.{Variable, Declaration, What, Variable', Label, ProcedureName, Block}
use Rattle.pli_language.specs.declared.scope.DeclarationAt.{DeclarationAt}
use Rattle.pli_listing.specs.Mentions.{mentions}
use Rattle.pli_listing.specs.Uses.{lines_of, used}
use Rattle.pli_listing.specs.declared.uses.Use.{Use}
use Rattle.pli_listing.specs.declared.names.Kind.{Kind}
use Rattle.pli_listing.specs.declared.names.Kind.TheVariants as K
use Rattle.pli_listing.specs.declared.names.Row.{Row as RowHeld}

-- a variable that a structure holds is a member
abbrev pub held_kind : List Variable → Kind
held_kind [] = K.Variable
held_kind (structure ∷ above) = K.Member

abbrev pub kind_of : What → Kind
kind_of (Variable' h) = held_kind h.above
kind_of Label = K.Label
kind_of (ProcedureName head) = K.Procedure

-- a declared name with its place, what it is declared as, the number of the block, and the lines where it is used
pub record Row : Type 0 where
  pub block : ℕ
  pub name : T.Name
  pub kind : Kind
  pub lines : List ℕ

abbrev pub declared_row : List Use → DeclarationAt → Declaration → Row
declared_row uses at d = record { block = at.block; name = d.name; kind = kind_of d.what; lines = lines_of at 0 uses }

-- the declarations of the block with this number, where the first has this place among them
abbrev pub declared_rows : List Use → ℕ → ℕ → List Declaration → List Row
declared_rows uses block index [] = []
declared_rows uses block index (d ∷ ds) =
    declared_row uses (record { block = block; index = index }) d ∷ declared_rows uses block (index + 1) ds

-- the declarations of blocks, where the first block has this number, each once: block by block, and in a block as they
-- stand in the source
abbrev pub rows_from : List Use → ℕ → List Block → List Row
rows_from uses number [] = []
rows_from uses number (b ∷ bs) = declared_rows uses number 0 b.declarations ++ rows_from uses (number + 1) bs

abbrev pub rows : List Use → List Block → List Row
rows uses blocks = rows_from uses 0 blocks

-- what a program declares, with where its names are used
abbrev pub cross_reference : T.Tree → List Block → List Row
cross_reference tree blocks = rows (flat_map (used blocks) (mentions tree)) blocks

abbrev pub row_of : RowHeld → Row
row_of r = record { block = r.block; name = name_of r.name.now; kind = r.kind; lines = r.lines.items }
