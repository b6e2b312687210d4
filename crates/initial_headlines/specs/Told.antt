-- INITIAL values of a program's variables: they are told at each point of its blocks.
use Rattle.std.specs.Prelude.{◌^◌, ◌≤◌, ◌≡◌, [], ◌∷◌, length, Some}
use Rattle.pli_typing.specs.TypedTree as Y
use Rattle.pli_meaning.specs.DeclaredShapes.{initial_of}
use Rattle.pli_coding.specs.Assembly.{InitialLeaf, InitialValues}
use Rattle.pli_coding.specs.Images.{linked_code, picture_of}
use Rattle.pli_coding.specs.StaticForms.{initial_datum}
use Rattle.storage_relation.specs.Beginning.{AllGiven, AllNoEmpty}
use Rattle.run_steps.specs.DataNamed.{IsPlaced}
use Rattle.program_runs.specs.Initial.{Begins}
use Rattle.program_places.specs.Constants.{constants_in}
use Rattle.program_places.specs.Programs.{code_for, links_for}
use Rattle.pli_headline.specs.Headline.{FitsMemory, parts}

-- the list of a variable's values has a place, and one leaf has them
abbrev pub InitialTold : Type 0
InitialTold =
    (program : Y.Program) (d : Y.DeclaredVariable) (l : InitialLeaf) → FitsMemory (picture_of parts program) →
    IsPlaced (InitialValues (l ∷ [])) (links_for program).data' → initial_datum d ≡ Some (InitialValues (l ∷ [])) →
    AllGiven [] d.leaves → AllNoEmpty (initial_of d) → length d.leaves ≤ 2 ^ 32 →
    Begins (constants_in (code_for program)) (linked_code (code_for program)) (links_for program).data' d
