-- The code that finds an element of an array, loads it, and stores in it.
use Rattle.std.proofs.Common.{◌≡◌, ◌+◌, [], ◌++◌, Option, Some, Bool, true, ap, ◌∙◌}
use Rattle.std.specs.Prelude.{pos, ◌&&◌, ◌==◌, slice_get, unwrap_or, if◌then◌else◌}
use Rattle.rv_meaning.specs.declared.instr.Instr.TheVariants as I
use Rattle.rv_meaning.specs.declared.instr.LoadKind.TheVariants as Load
use Rattle.rv_meaning.specs.declared.instr.StoreKind.TheVariants as Store
use Rattle.pli_typing.specs.Signatures.{Bounds}
use Rattle.pli_typing.specs.TypedTree as Y
use Rattle.pli_meaning.specs.DeclaredShapes.{declared_variable}
use Rattle.pli_coding.specs.Assembly.{Code}
use Rattle.pli_coding.specs.Environments.{Environment, Taken, fetch, no_declaration, save, with_number}
use Rattle.pli_coding.specs.Expressions.{address_in, number_code, reference_code, subscripts_code, type_in}
use Rattle.pli_coding.specs.Frames.{automatic_place, has_constant_size}
use Rattle.pli_coding.specs.Instructions.{displaced}
use Rattle.pli_coding.specs.Locating.{Address, element_added, found_reached, frame_found, frame_in, is_simple}
use Rattle.pli_coding.specs.Locating.{leaf_number, leaf_place, loaded, no_leaf, simple_loaded, stored}
use Rattle.pli_coding.specs.Locating.{subscripts_counted}
use Rattle.pli_coding.specs.Registers.{a0, u1, u3}
use Rattle.pli_coding.specs.Storing.{is_near, word_stored}
use Rattle.expression_runs.specs.Variables.{Spot, number_place, variable_of, whole_part}
use Rattle.element_runs.specs.Arrays.{array_declared, element}
use Rattle.element_runs.proofs.Addresses.{found_code}
use Rattle.element_runs.proofs.SubscriptTests.{tested_code}

-- ---- by the subscript

abbrev pub evaluated : Bool → Environment → Taken → Y.Number → Code
evaluated q e t s = if q && true then [] else number_code e t s ++ (save a0 t ++ [])

abbrev pub given : Bool → Environment → Taken → Y.Number → Code
given q e t s = if q && true then simple_loaded e u1 s else fetch u1 t

abbrev pub behind_given : Environment → Spot → Bounds → Code
behind_given e x b = (tested_code b ++ []) ++ found_code (x.level == e.level) x.level

abbrev pub element_code : Bool → Environment → Taken → Spot → Bounds → Y.Number → Code
element_code q e t x b s =
    evaluated q e t s ++ ((given q e t s ++ (tested_code b ++ [])) ++ found_code (x.level == e.level) x.level)

abbrev pub loads : Environment → Spot → Code
loads e x = displaced (λ r z. I.Load Load.Word a0 r z) u3 (pos (number_place e x))

abbrev pub stores : Environment → Spot → Code
stores e x = displaced (λ r z. I.Store Store.Word r a0 z) u3 (pos (number_place e x))

-- ---- by the variable's declaration

abbrev declared_in : Option Y.DeclaredVariable → Y.DeclaredVariable
declared_in o = unwrap_or o no_declaration

abbrev leaf_by : Option Y.DeclaredVariable → Y.Leaf
leaf_by o = unwrap_or (slice_get (declared_in o).leaves 0) no_leaf

abbrev reached_from : Environment → Taken → Spot → Y.Numbers → Option Y.DeclaredVariable → Code
reached_from e t x xs o =
    if has_constant_size (declared_in o) then subscripts_counted e t 0 xs (leaf_by o).bounds
    ++ (frame_found e x.level u3 ++ element_added (frame_in e x.level u3) (leaf_by o).type xs)
    else found_reached e t t (variable_of x) whole_part (leaf_number e (variable_of x) 0) xs

abbrev address_from : Environment → Spot → Option Y.DeclaredVariable → Address
address_from e x o =
    record {
      register = u3;
      displacement = pos (if has_constant_size (declared_in o)
          then automatic_place e.parts e.program x.block x.level x.index + 16 + leaf_place (declared_in o) 0 else 0);
    }

pub element_is :
    (e : Environment) (t : Taken) (x : Spot) (b : Bounds) (s : Y.Number) (initial : _) →
    declared_variable e.program (variable_of x) ≡ Some (array_declared b initial) →
    reference_code e t (element x s) ≡ element_code (is_simple e s) e t x b s
element_is e t x b s initial declared =
    let xs = Y.NumberThen s Y.NoNumber in
    ap (λ o. subscripts_code e t xs ++ reached_from e t x xs o) declared

loaded_is' :
    (e : Environment) (x : Spot) (b : Bounds) (s : Y.Number) (initial : _) →
    declared_variable e.program (variable_of x) ≡ Some (array_declared b initial) →
    loaded (type_in e (element x s)) a0 (address_in e (element x s)) ≡ loads e x
loaded_is' e x b s initial declared = ap (λ o. loaded (leaf_by o).type a0 (address_from e x o)) declared

stored_is' :
    (e : Environment) (x : Spot) (b : Bounds) (s : Y.Number) (initial : _) →
    declared_variable e.program (variable_of x) ≡ Some (array_declared b initial) →
    stored (type_in e (element x s)) a0 (address_in e (element x s)) ≡ stores e x
stored_is' e x b s initial declared = ap (λ o. stored (leaf_by o).type a0 (address_from e x o)) declared

pub loaded_is :
    (e : Environment) (t : Taken) (x : Spot) (b : Bounds) (s : Y.Number) (initial : _) →
    declared_variable e.program (variable_of x) ≡ Some (array_declared b initial) →
    number_code e t (Y.NumberIn (element x s)) ≡ reference_code e t (element x s) ++ loads e x
loaded_is e t x b s initial declared =
    ap (λ c. reference_code e t (element x s) ++ c) (loaded_is' e x b s initial declared)

near_is :
    (e : Environment) (x : Spot) (b : Bounds) (s : Y.Number) (initial : _) →
    declared_variable e.program (variable_of x) ≡ Some (array_declared b initial) →
    is_near e (element x s) ≡ is_simple e s && true
near_is e x b s initial declared = ap (λ o. has_constant_size (declared_in o) && (is_simple e s && true)) declared

abbrev pub kept_code : Bool → Environment → Taken → Spot → Y.Number → Code
kept_code q e t x s =
    if q && true then reference_code e t (element x s) ++ stores e x
    else save a0 t ++ (reference_code e (with_number t) (element x s) ++ (fetch a0 t ++ stores e x))

pub stored_is :
    (e : Environment) (t : Taken) (x : Spot) (b : Bounds) (s : Y.Number) (initial : _) →
    declared_variable e.program (variable_of x) ≡ Some (array_declared b initial) →
    word_stored e t (element x s) ≡ kept_code (is_simple e s) e t x s
stored_is e t x b s initial declared =
    let r = element x s in
    let written = stored (type_in e r) a0 (address_in e r) in
    ap (λ q. if q then reference_code e t r ++ written
    else save a0 t ++ (reference_code e (with_number t) r ++ (fetch a0 t ++ written)))
    (near_is e x b s initial declared)
    ∙ ap (λ c. if is_simple e s && true then reference_code e t r ++ c
    else save a0 t ++ (reference_code e (with_number t) r ++ (fetch a0 t ++ c))) (stored_is' e x b s initial declared)
