-- The code that loads an OFFSET variable, and that which stores in it.
use Rattle.std.proofs.Common.{◌≡◌, ◌++◌, Option, Some, true, ap, ◌∙◌}
use Rattle.std.specs.Prelude.{pos, ◌&&◌, slice_get, unwrap_or, if◌then◌else◌}
use Rattle.rv_meaning.specs.declared.instr.LoadKind.TheVariants as Load
use Rattle.rv_meaning.specs.declared.instr.StoreKind.TheVariants as Store
use Rattle.pli_typing.specs.TypedTree as Y
use Rattle.pli_meaning.specs.DeclaredShapes.{declared_variable}
use Rattle.pli_coding.specs.Environments.{Environment, Taken, fetch, no_declaration, save, with_number}
use Rattle.pli_coding.specs.Expressions.{address_in, offset_code, reference_code, type_in}
use Rattle.pli_coding.specs.Frames.{has_constant_size}
use Rattle.pli_coding.specs.Instructions.{store_word}
use Rattle.pli_coding.specs.Locating.{frame_in, loaded, no_leaf, stored}
use Rattle.pli_coding.specs.Registers.{a0, u3}
use Rattle.pli_coding.specs.Storing.{is_near, word_stored}
use Rattle.expression_runs.specs.Variables.{Spot, number_place, variable_of, whole}
use Rattle.locator_runs.proofs.PointerCode.{address_from, reached_from}
use Rattle.scalar_runs.specs.Scalars.{scalar_declared}
use Rattle.scalar_runs.proofs.ScalarCode.{loads, stores}

abbrev declared_in : Option Y.DeclaredVariable → Y.DeclaredVariable
declared_in o = unwrap_or o no_declaration

abbrev type_by : Option Y.DeclaredVariable → Y.LeafType
type_by o = (unwrap_or (slice_get (declared_in o).leaves 0) no_leaf).type

pub offset_loaded :
    (e : Environment) (t : Taken) (x : Spot) (area : Option Y.Variable) (initial : _) →
    declared_variable e.program (variable_of x) ≡ Some (scalar_declared (Y.OffsetLeaf area) initial) →
    offset_code e t (Y.OffsetIn (whole x)) ≡ loads Load.Word e x
offset_loaded e t x area initial declared =
    ap (λ o. reached_from e t x o ++ loaded (type_by o) a0 (address_from e x o)) declared

-- ---- a value in a0 stays there until it is stored

kept_is :
    (e : Environment) (x : Spot) (area : Option Y.Variable) (initial : _) →
    declared_variable e.program (variable_of x) ≡ Some (scalar_declared (Y.OffsetLeaf area) initial) →
    stored (type_in e (whole x)) a0 (address_in e (whole x))
    ≡ store_word (frame_in e x.level u3) a0 (pos (number_place e x))
kept_is e x area initial declared = ap (λ o. stored (type_by o) a0 (address_from e x o)) declared

near_is :
    (e : Environment) (x : Spot) (area : Option Y.Variable) (initial : _) →
    declared_variable e.program (variable_of x) ≡ Some (scalar_declared (Y.OffsetLeaf area) initial) →
    is_near e (whole x) ≡ true
near_is e x area initial declared = ap (λ o. has_constant_size (declared_in o) && true) declared

found_is :
    (e : Environment) (t : Taken) (x : Spot) (area : Option Y.Variable) (initial : _) →
    declared_variable e.program (variable_of x) ≡ Some (scalar_declared (Y.OffsetLeaf area) initial) →
    reference_code e t (whole x) ≡ reached_from e t x (Some (scalar_declared (Y.OffsetLeaf area) initial))
found_is e t x area initial declared = ap (reached_from e t x) declared

pub offset_stored :
    (e : Environment) (t : Taken) (x : Spot) (area : Option Y.Variable) (initial : _) →
    declared_variable e.program (variable_of x) ≡ Some (scalar_declared (Y.OffsetLeaf area) initial) →
    word_stored e t (whole x) ≡ stores Store.Word e x
offset_stored e t x area initial declared =
    let r = whole x in
    let written = stored (type_in e r) a0 (address_in e r) in
    let waits = save a0 t ++ (reference_code e (with_number t) r ++ (fetch a0 t ++ written)) in
    ap (λ q. if q then reference_code e t r ++ written else waits) (near_is e x area initial declared)
    ∙ ap (λ c. c ++ written) (found_is e t x area initial declared)
    ∙ ap (λ c. reached_from e t x (Some (scalar_declared (Y.OffsetLeaf area) initial)) ++ c)
    (kept_is e x area initial declared)
