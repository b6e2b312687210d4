-- Elements of an aggregate, as the emitters hold them, and what it names.
use Rattle.std.specs.Prelude.{ℕ, pos, [], ◌∷◌, ◌++◌}
use Rattle.pli_typing.specs.TypedTree as Y
use Rattle.pli_coding.specs.Registers.{a1, a3, a4}
use Rattle.pli_coding.specs.Assembly.{OffsetOf, DataPlace, Code}
use Rattle.pli_coding.specs.Instructions.{service, small}
use Rattle.pli_coding.specs.Frames.{buffer}
use Rattle.pli_coding.specs.StaticForms.{shape_datum}
use Rattle.pli_coding.specs.Environments.{Environment, declaration_of}
use Rattle.pli_coding.specs.Locating.{own_place}
use Rattle.pli_coding.specs.Streams as S
use Rattle.pli_frames.specs.TakenView.{taken_of}
use Rattle.rv_item.specs.declared.elements.Elements.{Elements}

abbrev pub elements_shown : Elements → S.Elements
elements_shown l = record { taken = taken_of l.taken; behind = taken_of l.behind }

abbrev pub variable_in : Y.Reference → Y.Variable
variable_in (Y.Referring v locator part subscripts) = v

abbrev pub part_in : Y.Reference → Y.Part
part_in (Y.Referring v locator part subscripts) = part

abbrev pub shape_named : Environment → Y.Variable → Y.Part → (given : ℕ) → Code
shape_named e v part given = OffsetOf a1 (DataPlace (shape_datum (declaration_of e v).members part given)) ∷ []

-- the service that tells elements, behind their record, their shape and the number
abbrev pub asked_last : Environment → Code
asked_last e = own_place e a3 (pos buffer) ++ (small a4 1 ∷ service 8)
