-- Where declared names are used.
use Rattle.std.specs.Prelude.{ℕ, Bool, ◌&&◌, not, ◌==◌, List, [], ◌∷◌, if◌then◌else◌}
use Rattle.pli_language.specs.declared.scope.DeclarationAt.{DeclarationAt}
use Rattle.pli_language.specs.declared.scope.Found.{Found}
use Rattle.pli_language.specs.declared.scope.Found.TheVariants as F
use Rattle.pli_language.specs.Declarations.{Block}
use Rattle.pli_language.specs.Means.{names_mean}
use Rattle.pli_listing.specs.Mentions.{Mention}
use Rattle.pli_listing.specs.declared.uses.Use.{Use}

abbrev pub used_as : Found → ℕ → List Use
used_as (F.One d) line = record { declaration = d; line = line } ∷ []
used_as F.None line = []
used_as F.Ambiguous line = []

-- what names in a block use: the declaration that they mean there
abbrev pub used : List Block → Mention → List Use
used blocks m = used_as (names_mean blocks m.block m.names) m.line

abbrev pub same_declaration : DeclarationAt → DeclarationAt → Bool
same_declaration a b = (a.block == b.block) && (a.index == b.index)

-- the lines of a declaration's uses, without one that is the last before it
abbrev pub lines_of : DeclarationAt → ℕ → List Use → List ℕ
lines_of d last [] = []
lines_of d last (u ∷ us) =
    if same_declaration u.declaration d && not (u.line == last)
    then u.line ∷ lines_of d u.line us
    else lines_of d last us
