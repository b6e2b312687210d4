-- The code that loads a FIXED BINARY(31) variable, and that which stores in it.
use Rattle.std.proofs.Common.{◌≡◌, ℕ, ◌+◌, List, [], ◌∷◌, ◌++◌, Option, Some, true, refl, ap, ◌∙◌}
use Rattle.std.specs.Prelude.{pos, ◌&&◌, ◌==◌, slice_get, unwrap_or, if◌then◌else◌}
use Rattle.rv_meaning.specs.declared.instr.Instr.TheVariants as I
use Rattle.rv_meaning.specs.declared.instr.LoadKind.TheVariants as Load
use Rattle.rv_meaning.specs.declared.instr.Register.{Register}
use Rattle.rv_meaning.specs.declared.instr.StoreKind.TheVariants as Store
use Rattle.pli_typing.specs.TypedTree as Y
use Rattle.pli_meaning.specs.DeclaredShapes.{declared_variable}
use Rattle.pli_coding.specs.Assembly.{Code}
use Rattle.pli_coding.specs.Environments.{Environment, Taken, fetch, no_declaration, save, with_number}
use Rattle.pli_coding.specs.Expressions.{address_in, number_code, reference_code, type_in}
use Rattle.pli_coding.specs.Frames.{automatic_place, has_constant_size}
use Rattle.pli_coding.specs.Instructions.{displaced}
use Rattle.pli_coding.specs.Locating.{Address, found_reached, frame_found, frame_in, leaf_number, leaf_place, loaded}
use Rattle.pli_coding.specs.Locating.{no_leaf, stored}
use Rattle.pli_coding.specs.Registers.{a0, u3}
use Rattle.pli_coding.specs.Storing.{is_near, word_stored}
use Rattle.run_steps.specs.Reaching.{found_by, register_by}
use Rattle.expression_runs.specs.Variables.{Spot, number_declared, number_place, variable_of, whole, whole_part}

abbrev declared_in : Option Y.DeclaredVariable → Y.DeclaredVariable
declared_in o = unwrap_or o no_declaration

abbrev type_by : Option Y.DeclaredVariable → Y.LeafType
type_by o = (unwrap_or (slice_get (declared_in o).leaves 0) no_leaf).type

abbrev base_found : Environment → (level : ℕ) → Code
base_found e level = frame_found e level u3 ++ []

abbrev address_from : Environment → Spot → Option Y.DeclaredVariable → Address
address_from e x o =
    record {
      register = if has_constant_size (declared_in o) then frame_in e x.level u3 else u3;
      displacement = pos (if has_constant_size (declared_in o)
          then automatic_place e.parts e.program x.block x.level x.index + 16 + leaf_place (declared_in o) 0 else 0);
    }

abbrev reached_from : Environment → Taken → Spot → Option Y.DeclaredVariable → Code
reached_from e t x o =
    if has_constant_size (declared_in o) then base_found e x.level
    else found_reached e t t (variable_of x) whole_part (leaf_number e (variable_of x) 0) Y.NoNumber

abbrev pub loads : Environment → Spot → Code
loads e x =
    found_by (x.level == e.level) x.level
    ++ displaced (λ r z. I.Load Load.Word a0 r z) (register_by (x.level == e.level)) (pos (number_place e x))

abbrev pub stores : Environment → Spot → Code
stores e x =
    found_by (x.level == e.level) x.level
    ++ displaced (λ r z. I.Store Store.Word r a0 z) (register_by (x.level == e.level)) (pos (number_place e x))

pub loaded_is :
    (e : Environment) (t : Taken) (x : Spot) (initial : _) →
    declared_variable e.program (variable_of x) ≡ Some (number_declared initial) →
    number_code e t (Y.NumberIn (whole x)) ≡ loads e x
loaded_is e t x initial declared =
    ap (λ o. reached_from e t x o ++ loaded (type_by o) a0 (address_from e x o)) declared

found_is :
    (e : Environment) (t : Taken) (x : Spot) (initial : _) →
    declared_variable e.program (variable_of x) ≡ Some (number_declared initial) →
    reference_code e t (whole x) ≡ base_found e x.level
found_is e t x initial declared = ap (reached_from e t x) declared

kept_is :
    (e : Environment) (x : Spot) (initial : _) →
    declared_variable e.program (variable_of x) ≡ Some (number_declared initial) →
    stored (type_in e (whole x)) a0 (address_in e (whole x))
    ≡ displaced (λ r z. I.Store Store.Word r a0 z) (frame_in e x.level u3) (pos (number_place e x))
kept_is e x initial declared = ap (λ o. stored (type_by o) a0 (address_from e x o)) declared

near_is :
    (e : Environment) (x : Spot) (initial : _) →
    declared_variable e.program (variable_of x) ≡ Some (number_declared initial) → is_near e (whole x) ≡ true
near_is e x initial declared = ap (λ o. has_constant_size (declared_in o) && true) declared

-- a value in a0 stays there until it is stored
pub stored_is :
    (e : Environment) (t : Taken) (x : Spot) (initial : _) →
    declared_variable e.program (variable_of x) ≡ Some (number_declared initial) →
    word_stored e t (whole x) ≡ stores e x
stored_is e t x initial declared =
    let r = whole x in
    let written = stored (type_in e r) a0 (address_in e r) in
    let waits = save a0 t ++ (reference_code e (with_number t) r ++ (fetch a0 t ++ written)) in
    ap (λ q. if q then reference_code e t r ++ written else waits) (near_is e x initial declared)
    ∙ ap (λ c. c ++ written) (found_is e t x initial declared)
    ∙ ap (λ c. base_found e x.level ++ c) (kept_is e x initial declared)
