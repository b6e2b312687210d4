-- The code that finds an element of an array, loads it, and stores in it.
use Rattle.std.proofs.Common.{◌≡◌, ℕ, ◌+◌, List, [], ◌∷◌, ◌++◌, Option, Some, Bool, true, false, refl, ap, ◌∙◌}
use Rattle.std.specs.Prelude.{pos, ◌&&◌, ◌==◌, map, nat_le, slice_get, unwrap_or, if◌then◌else◌}
use Rattle.std.specs.List.{list_all}
use Rattle.rv_meaning.specs.declared.instr.Instr.TheVariants as I
use Rattle.rv_meaning.specs.declared.instr.ShiftOp.TheVariants as Shift
use Rattle.pli_language.specs.Tree as T
use Rattle.pli_typing.specs.Signatures.{Bounds, rounded_up}
use Rattle.pli_typing.specs.TypedTree as Y
use Rattle.pli_meaning.specs.DeclaredShapes.{declared_variable}
use Rattle.pli_coding.specs.Assembly.{Code}
use Rattle.pli_coding.specs.Environments.{Environment, Taken, fetch, no_declaration, save, with_number}
use Rattle.pli_coding.specs.Expressions.{address_in, bit_code, number_code, reference_code, subscripts_code, type_in}
use Rattle.pli_coding.specs.Frames.{are_constant, automatic_place, has_constant_size}
use Rattle.pli_coding.specs.Instructions.{add, displaced, shift}
use Rattle.pli_coding.specs.Locating.{Address, are_simple, element_added, found_reached, frame_found, frame_in}
use Rattle.pli_coding.specs.Locating.{leaf_number, leaf_place, loaded, no_leaf, stored, subscripts_counted}
use Rattle.pli_coding.specs.Locating.{times_constant, times_stride}
use Rattle.pli_coding.specs.Registers.{a0, u1, u3, u4}
use Rattle.pli_coding.specs.Storing.{is_near, word_stored}
use Rattle.pli_headline.proofs.Scalars.{IsNumeric, load_kind, store_kind}
use Rattle.expression_runs.specs.Variables.{Spot, number_place, variable_of, whole_part}
use Rattle.element_runs.specs.Arrays.{constant_bounds}
use Rattle.element_runs.proofs.Addresses.{found_code}
use Rattle.array_runs.specs.Arrays.{Grid, element, grid_declared}

abbrev pub Declares : Environment → Spot → Grid → List T.InitialItem → Type 0
Declares e x g initial = declared_variable e.program (variable_of x) ≡ Some (grid_declared g initial)

-- ---- by the array

-- behind the code of its subscripts
abbrev pub place_code : Environment → Taken → Spot → Grid → Y.Numbers → Code
place_code e t x g xs =
    subscripts_counted e t 0 xs (map constant_bounds g.bounds) ++ found_code (x.level == e.level) x.level

abbrev pub element_code : Environment → Taken → Spot → Grid → Y.Numbers → Code
element_code e t x g xs = subscripts_code e t xs ++ place_code e t x g xs

abbrev pub loads : Y.LeafType → Environment → Spot → Code
loads type e x = displaced (λ r z. I.Load (load_kind type) a0 r z) u3 (pos (number_place e x))

abbrev pub stores : Y.LeafType → Environment → Spot → Code
stores type e x = displaced (λ r z. I.Store (store_kind type) r a0 z) u3 (pos (number_place e x))

-- ---- its size is constant, and each element takes 4 bytes

all_constant : (bs : List Bounds) → list_all are_constant (map constant_bounds bs) ≡ true
all_constant [] = refl
all_constant (b ∷ bs) = all_constant bs

constant_by :
    (type : Y.LeafType) (bs : List Bounds) (initial : List T.InitialItem) → IsNumeric type →
    has_constant_size (grid_declared (record { type = type; bounds = bs }) initial) ≡ true
constant_by (Y.FixedLeaf p) bs initial is = ap (λ q. q && true) (all_constant bs)
constant_by Y.BitLeaf bs initial is = ap (λ q. q && true) (all_constant bs)
constant_by _ bs initial is = absurd is

pub constant_is :
    (g : Grid) (initial : List T.InitialItem) → IsNumeric g.type → has_constant_size (grid_declared g initial) ≡ true
constant_is g initial is = constant_by g.type g.bounds initial is

stride_by : (q : Bool) → times_constant (rounded_up 4 (if q then 2 else 4)) ≡ shift Shift.Left u4 u1 2 ∷ []
stride_by true = refl
stride_by false = refl

stride_is : (type : Y.LeafType) → IsNumeric type → times_stride type ≡ shift Shift.Left u4 u1 2 ∷ []
stride_is (Y.FixedLeaf p) is = stride_by (nat_le p 15)
stride_is Y.BitLeaf is = refl
stride_is _ is = absurd is

-- ---- by the variable's declaration

abbrev declared_in : Option Y.DeclaredVariable → Y.DeclaredVariable
declared_in o = unwrap_or o no_declaration

abbrev leaf_by : Option Y.DeclaredVariable → Y.Leaf
leaf_by o = unwrap_or (slice_get (declared_in o).leaves 0) no_leaf

abbrev directly : Environment → Taken → Spot → Y.Numbers → Y.Leaf → Code
directly e t x xs l =
    subscripts_counted e t 0 xs l.bounds
    ++ (frame_found e x.level u3 ++ element_added (frame_in e x.level u3) l.type xs)

abbrev other_way : Environment → Taken → Spot → Y.Numbers → Code
other_way e t x xs = found_reached e t t (variable_of x) whole_part (leaf_number e (variable_of x) 0) xs

abbrev reached_from : Environment → Taken → Spot → Y.Numbers → Option Y.DeclaredVariable → Code
reached_from e t x xs o =
    if has_constant_size (declared_in o) then directly e t x xs (leaf_by o) else other_way e t x xs

abbrev place_by : Environment → Spot → Bool → Y.DeclaredVariable → ℕ
place_by e x q d = if q then automatic_place e.parts e.program x.block x.level x.index + 16 + leaf_place d 0 else 0

abbrev address_from : Environment → Spot → Option Y.DeclaredVariable → Address
address_from e x o =
    record { register = u3; displacement = pos (place_by e x (has_constant_size (declared_in o)) (declared_in o)) }

pub element_is :
    (e : Environment) (t : Taken) (x : Spot) (g : Grid) (s : Y.Number) (rest : Y.Numbers)
    (initial : List T.InitialItem) → IsNumeric g.type → Declares e x g initial →
    reference_code e t (element x (Y.NumberThen s rest)) ≡ element_code e t x g (Y.NumberThen s rest)
element_is e t x g s rest initial is declared =
    let xs = Y.NumberThen s rest in
    let front = subscripts_code e t xs in
    ap (λ o. front ++ reached_from e t x xs o) declared
    ∙ ap (λ q. front
    ++ (if q then directly e t x xs (leaf_by (Some (grid_declared g initial))) else other_way e t x xs))
    (constant_is g initial is)
    ∙ ap (λ c. front ++ (subscripts_counted e t 0 xs (map constant_bounds g.bounds)
    ++ (frame_found e x.level u3 ++ (c ++ add u3 (frame_in e x.level u3) u4 ∷ [])))) (stride_is g.type is)

-- ---- what is loaded and stored

loaded_by :
    (e : Environment) (x : Spot) (type : Y.LeafType) (bs : List Bounds) (s : Y.Number) (rest : Y.Numbers)
    (initial : List T.InitialItem) → IsNumeric type → Declares e x (record { type = type; bounds = bs }) initial →
    loaded (type_in e (element x (Y.NumberThen s rest))) a0 (address_in e (element x (Y.NumberThen s rest)))
    ≡ loads type e x
loaded_by e x (Y.FixedLeaf p) bs s rest initial is declared =
    let d = grid_declared (record { type = Y.FixedLeaf p; bounds = bs }) initial in
    ap (λ o. loaded (leaf_by o).type a0 (address_from e x o)) declared
    ∙ ap (λ q. loaded (Y.FixedLeaf p) a0 (record { register = u3; displacement = pos (place_by e x q d) }))
    (constant_by (Y.FixedLeaf p) bs initial is)
loaded_by e x Y.BitLeaf bs s rest initial is declared =
    let d = grid_declared (record { type = Y.BitLeaf; bounds = bs }) initial in
    ap (λ o. loaded (leaf_by o).type a0 (address_from e x o)) declared
    ∙ ap (λ q. loaded Y.BitLeaf a0 (record { register = u3; displacement = pos (place_by e x q d) }))
    (constant_by Y.BitLeaf bs initial is)
loaded_by e x _ bs s rest initial is declared = absurd is

pub number_loaded :
    (e : Environment) (t : Taken) (x : Spot) (g : Grid) (s : Y.Number) (rest : Y.Numbers)
    (initial : List T.InitialItem) → IsNumeric g.type → Declares e x g initial →
    number_code e t (Y.NumberIn (element x (Y.NumberThen s rest)))
    ≡ reference_code e t (element x (Y.NumberThen s rest)) ++ loads g.type e x
number_loaded e t x g s rest initial is declared =
    ap (λ c. reference_code e t (element x (Y.NumberThen s rest)) ++ c)
    (loaded_by e x g.type g.bounds s rest initial is declared)

pub bit_loaded :
    (e : Environment) (t : Taken) (x : Spot) (g : Grid) (s : Y.Number) (rest : Y.Numbers)
    (initial : List T.InitialItem) → IsNumeric g.type → Declares e x g initial →
    bit_code e t (Y.BitIn (element x (Y.NumberThen s rest)))
    ≡ reference_code e t (element x (Y.NumberThen s rest)) ++ loads g.type e x
bit_loaded e t x g s rest initial is declared =
    ap (λ c. reference_code e t (element x (Y.NumberThen s rest)) ++ c)
    (loaded_by e x g.type g.bounds s rest initial is declared)

stored_by :
    (e : Environment) (x : Spot) (type : Y.LeafType) (bs : List Bounds) (s : Y.Number) (rest : Y.Numbers)
    (initial : List T.InitialItem) → IsNumeric type → Declares e x (record { type = type; bounds = bs }) initial →
    stored (type_in e (element x (Y.NumberThen s rest))) a0 (address_in e (element x (Y.NumberThen s rest)))
    ≡ stores type e x
stored_by e x (Y.FixedLeaf p) bs s rest initial is declared =
    let d = grid_declared (record { type = Y.FixedLeaf p; bounds = bs }) initial in
    ap (λ o. stored (leaf_by o).type a0 (address_from e x o)) declared
    ∙ ap (λ q. stored (Y.FixedLeaf p) a0 (record { register = u3; displacement = pos (place_by e x q d) }))
    (constant_by (Y.FixedLeaf p) bs initial is)
stored_by e x Y.BitLeaf bs s rest initial is declared =
    let d = grid_declared (record { type = Y.BitLeaf; bounds = bs }) initial in
    ap (λ o. stored (leaf_by o).type a0 (address_from e x o)) declared
    ∙ ap (λ q. stored Y.BitLeaf a0 (record { register = u3; displacement = pos (place_by e x q d) }))
    (constant_by Y.BitLeaf bs initial is)
stored_by e x _ bs s rest initial is declared = absurd is

near_is :
    (e : Environment) (x : Spot) (g : Grid) (xs : Y.Numbers) (initial : List T.InitialItem) → IsNumeric g.type →
    Declares e x g initial → is_near e (element x xs) ≡ are_simple e xs
near_is e x g xs initial is declared =
    ap (λ o. has_constant_size (declared_in o) && are_simple e xs) declared
    ∙ ap (λ q. q && are_simple e xs) (constant_is g initial is)

-- a value in a0 stays there while simple subscripts come, or else waits
abbrev pub kept_code : Bool → Environment → Taken → Spot → Y.LeafType → Y.Numbers → Code
kept_code q e t x type xs =
    if q then reference_code e t (element x xs) ++ stores type e x
    else save a0 t ++ (reference_code e (with_number t) (element x xs) ++ (fetch a0 t ++ stores type e x))

pub stored_is :
    (e : Environment) (t : Taken) (x : Spot) (g : Grid) (s : Y.Number) (rest : Y.Numbers)
    (initial : List T.InitialItem) → IsNumeric g.type → Declares e x g initial →
    word_stored e t (element x (Y.NumberThen s rest))
    ≡ kept_code (are_simple e (Y.NumberThen s rest)) e t x g.type (Y.NumberThen s rest)
stored_is e t x g s rest initial is declared =
    let xs = Y.NumberThen s rest in
    let r = element x xs in
    let written = stored (type_in e r) a0 (address_in e r) in
    ap (λ q. if q then reference_code e t r ++ written
    else save a0 t ++ (reference_code e (with_number t) r ++ (fetch a0 t ++ written)))
    (near_is e x g xs initial is declared)
    ∙ ap (λ c. if are_simple e xs then reference_code e t r ++ c
    else save a0 t ++ (reference_code e (with_number t) r ++ (fetch a0 t ++ c)))
    (stored_by e x g.type g.bounds s rest initial is declared)
