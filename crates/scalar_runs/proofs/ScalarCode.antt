-- The code that loads a scalar, and that which stores in it.
use Rattle.std.proofs.Common.{◌≡◌, ℕ, ◌+◌, [], ◌++◌, Option, Some, true, ap, ◌∙◌}
use Rattle.std.specs.Prelude.{pos, ◌&&◌, ◌==◌, slice_get, unwrap_or, if◌then◌else◌}
use Rattle.rv_meaning.specs.declared.instr.Instr.TheVariants as I
use Rattle.rv_meaning.specs.declared.instr.LoadKind.{LoadKind}
use Rattle.rv_meaning.specs.declared.instr.StoreKind.{StoreKind}
use Rattle.pli_typing.specs.TypedTree as Y
use Rattle.pli_meaning.specs.DeclaredShapes.{declared_variable}
use Rattle.pli_coding.specs.Assembly.{Code}
use Rattle.pli_coding.specs.Environments.{Environment, Taken, fetch, no_declaration, save, with_number}
use Rattle.pli_coding.specs.Expressions.{address_in, bit_code, number_code, reference_code, type_in}
use Rattle.pli_coding.specs.Frames.{automatic_place, has_constant_size}
use Rattle.pli_coding.specs.Instructions.{displaced}
use Rattle.pli_coding.specs.Locating.{Address, found_reached, frame_found, frame_in, leaf_number, leaf_place, loaded}
use Rattle.pli_coding.specs.Locating.{no_leaf, stored}
use Rattle.pli_coding.specs.Registers.{a0, u3}
use Rattle.pli_coding.specs.Storing.{is_near, word_stored}
use Rattle.pli_headline.proofs.Scalars.{IsNumeric, load_kind, store_kind}
use Rattle.run_steps.specs.Reaching.{found_by, register_by}
use Rattle.expression_runs.specs.Variables.{Spot, number_place, variable_of, whole, whole_part}
use Rattle.scalar_runs.specs.Scalars.{scalar_declared}

abbrev declared_in : Option Y.DeclaredVariable → Y.DeclaredVariable
declared_in o = unwrap_or o no_declaration

abbrev type_by : Option Y.DeclaredVariable → Y.LeafType
type_by o = (unwrap_or (slice_get (declared_in o).leaves 0) no_leaf).type

abbrev base_found : Environment → (level : ℕ) → Code
base_found e level = frame_found e level u3 ++ []

abbrev address_from : Environment → Spot → Option Y.DeclaredVariable → Address
address_from e x o =
    record {
      register = if has_constant_size (declared_in o) then frame_in e x.level u3 else u3;
      displacement = pos (if has_constant_size (declared_in o)
          then automatic_place e.parts e.program x.block x.level x.index + 16 + leaf_place (declared_in o) 0 else 0);
    }

abbrev reached_from : Environment → Taken → Spot → Option Y.DeclaredVariable → Code
reached_from e t x o =
    if has_constant_size (declared_in o) then base_found e x.level
    else found_reached e t t (variable_of x) whole_part (leaf_number e (variable_of x) 0) Y.NoNumber

abbrev pub loads : LoadKind → Environment → Spot → Code
loads kind e x =
    found_by (x.level == e.level) x.level
    ++ displaced (λ r z. I.Load kind a0 r z) (register_by (x.level == e.level)) (pos (number_place e x))

abbrev pub stores : StoreKind → Environment → Spot → Code
stores kind e x =
    found_by (x.level == e.level) x.level
    ++ displaced (λ r z. I.Store kind r a0 z) (register_by (x.level == e.level)) (pos (number_place e x))

pub number_loaded :
    (e : Environment) (t : Taken) (x : Spot) (precision : ℕ) (initial : _) →
    declared_variable e.program (variable_of x) ≡ Some (scalar_declared (Y.FixedLeaf precision) initial) →
    number_code e t (Y.NumberIn (whole x)) ≡ loads (load_kind (Y.FixedLeaf precision)) e x
number_loaded e t x precision initial declared =
    ap (λ o. reached_from e t x o ++ loaded (type_by o) a0 (address_from e x o)) declared

pub bit_loaded :
    (e : Environment) (t : Taken) (x : Spot) (initial : _) →
    declared_variable e.program (variable_of x) ≡ Some (scalar_declared Y.BitLeaf initial) →
    bit_code e t (Y.BitIn (whole x)) ≡ loads (load_kind Y.BitLeaf) e x
bit_loaded e t x initial declared =
    ap (λ o. reached_from e t x o ++ loaded (type_by o) a0 (address_from e x o)) declared

-- ---- a value in a0 stays there until it is stored

kept_is :
    (e : Environment) (x : Spot) (type : Y.LeafType) (initial : _) → IsNumeric type →
    declared_variable e.program (variable_of x) ≡ Some (scalar_declared type initial) →
    stored (type_in e (whole x)) a0 (address_in e (whole x))
    ≡ displaced (λ r z. I.Store (store_kind type) r a0 z) (frame_in e x.level u3) (pos (number_place e x))
kept_is e x (Y.FixedLeaf p) initial is declared = ap (λ o. stored (type_by o) a0 (address_from e x o)) declared
kept_is e x Y.BitLeaf initial is declared = ap (λ o. stored (type_by o) a0 (address_from e x o)) declared
kept_is e x _ initial is declared = absurd is

near_is :
    (e : Environment) (x : Spot) (type : Y.LeafType) (initial : _) → IsNumeric type →
    declared_variable e.program (variable_of x) ≡ Some (scalar_declared type initial) →
    is_near e (whole x) ≡ true
near_is e x (Y.FixedLeaf p) initial is declared = ap (λ o. has_constant_size (declared_in o) && true) declared
near_is e x Y.BitLeaf initial is declared = ap (λ o. has_constant_size (declared_in o) && true) declared
near_is e x _ initial is declared = absurd is

found_is :
    (e : Environment) (t : Taken) (x : Spot) (type : Y.LeafType) (initial : _) → IsNumeric type →
    declared_variable e.program (variable_of x) ≡ Some (scalar_declared type initial) →
    reference_code e t (whole x) ≡ base_found e x.level
found_is e t x (Y.FixedLeaf p) initial is declared = ap (reached_from e t x) declared
found_is e t x Y.BitLeaf initial is declared = ap (reached_from e t x) declared
found_is e t x _ initial is declared = absurd is

pub stored_is :
    (e : Environment) (t : Taken) (x : Spot) (type : Y.LeafType) (initial : _) → IsNumeric type →
    declared_variable e.program (variable_of x) ≡ Some (scalar_declared type initial) →
    word_stored e t (whole x) ≡ stores (store_kind type) e x
stored_is e t x type initial is declared =
    let r = whole x in
    let written = stored (type_in e r) a0 (address_in e r) in
    let waits = save a0 t ++ (reference_code e (with_number t) r ++ (fetch a0 t ++ written)) in
    ap (λ q. if q then reference_code e t r ++ written else waits) (near_is e x type initial is declared)
    ∙ ap (λ c. c ++ written) (found_is e t x type initial is declared)
    ∙ ap (λ c. base_found e x.level ++ c) (kept_is e x type initial is declared)
