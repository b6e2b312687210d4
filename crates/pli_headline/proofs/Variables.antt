-- Declared variables of blocks of any level: in the meaning, and the code that reaches them.
use Rattle.std.proofs.Common.{◌≡◌, ℕ, ◌+◌, List, [], ◌++◌, Option, Some, true, refl, ap, ◌∙◌}
use Rattle.std.specs.Prelude.{ℤ, pos, ◌&&◌, slice_get, take, unwrap_or, if◌then◌else◌}
use Rattle.std.proofs.lemmas.Bool.{eq-eqb}
use Rattle.rv_meaning.specs.declared.instr.Instr.TheVariants as I
use Rattle.pli_language.specs.Tree as T
use Rattle.pli_typing.specs.TypedTree as Y
use Rattle.pli_meaning.specs.BasicValues.{VariableName, BasicValue}
use Rattle.pli_meaning.specs.Contents.{Shape, same_shape, Generation, number_in, bit_in, is_within}
use Rattle.pli_meaning.specs.DeclaredShapes.{shape_of, variables_of_block}
use Rattle.pli_meaning.specs.StorageState.{State, Binding, standing_for, named}
use Rattle.pli_meaning.specs.Control.{give, flow_on, looked, choose, ◌>>=◌, ◌>>◌}
use Rattle.pli_meaning.specs.Raising as R
use Rattle.pli_meaning.specs.Raising.{Around}
use Rattle.pli_meaning.specs.Evaluating as V
use Rattle.rv_meaning.specs.declared.instr.Register.{Register}
use Rattle.pli_coding.specs.Registers.{a0, u1, u3}
use Rattle.pli_coding.specs.Assembly.{Code}
use Rattle.pli_coding.specs.Instructions.{displaced}
use Rattle.pli_coding.specs.Environments.{Environment, Taken, no_declaration, with_number, save, fetch}
use Rattle.pli_coding.specs.Expressions.{number_code, bit_code, reference_code, type_in, address_in}
use Rattle.pli_coding.specs.Locating.{Address, no_leaf, leaf_number, leaf_place, found_reached, frame_found, frame_in}
use Rattle.pli_coding.specs.Locating.{loaded, simple_loaded, stored}
use Rattle.pli_coding.specs.Storing.{is_near, word_stored}
use Rattle.pli_coding.specs.Frames.{automatic_place, has_constant_size}
use Rattle.pli_headline.specs.ProvedSoFar.{Names, variable_at, plain_variable, array_variable, Kind, Types}
use Rattle.pli_headline.proofs.Scalars.{IsNumeric, by_type, bit_of, value_as, Fits, load_kind, store_kind}

-- ---- in the meaning

abbrev pub scalar_shape : Y.LeafType → Shape
scalar_shape type = shape_of [] (plain_variable type [])

-- a shape is the same as itself
pub same_scalar : (type : Y.LeafType) → IsNumeric type → same_shape (scalar_shape type) (scalar_shape type) ≡ true
same_scalar type is =
    by_type (λ t. same_shape (scalar_shape t) (scalar_shape t) ≡ true) (λ p. ap (λ t. (t && true) && true) (eq-eqb p p refl)) refl type is

abbrev pub whole_part : Y.Part
whole_part = record { first = 0; count = 1 }

-- all of a variable
abbrev pub whole : Y.Variable → Y.Reference
whole v = Y.Referring v Y.NotLocated whole_part Y.NoNumber

abbrev pub own : (block : Names) (index : ℕ) → Y.Variable
own block index = variable_at block index

-- the level of its block
abbrev pub level_of : (block : Names) (index : ℕ) → ℕ
level_of block index = (block.at index).level

abbrev pub subscripts_in : Y.Reference → Y.Numbers
subscripts_in (Y.Referring v locator part subscripts) = subscripts

abbrev pub scalar_binding : Y.LeafType → (index serial : ℕ) → Binding
scalar_binding type index serial = record { variable = index; name = VariableName serial; shape = scalar_shape type }

abbrev pub scalar_generation : Y.LeafType → (ℕ → List ℤ → BasicValue) → Generation
scalar_generation type values = record { shape = scalar_shape type; extent = pos 0; values = values }

-- a variable stands for a generation that holds the value of a number
pub record HoldsScalar (s : State) (v : Y.Variable) (type : Y.LeafType) (z : ℤ) : Type 0 where
  pub serial : ℕ
  pub values : ℕ → List ℤ → BasicValue
  pub stands : standing_for s v ≡ Some (scalar_binding type v.index serial)
  pub lives : named s (VariableName serial) (scalar_shape type) ≡ Some (scalar_generation type values)
  pub value : values 0 [] ≡ value_as type z
  pub fits : Fits type z

-- what is designated then
abbrev pub designated_scalar : Y.LeafType → (serial : ℕ) → (ℕ → List ℤ → BasicValue) → V.Designated
designated_scalar type serial values =
    record { name = VariableName serial; generation = scalar_generation type values; extent = pos 0; part = whole_part; subscripts = [] }

pub designated_by : (around : Around) (s : State) (v : Y.Variable) (type : Y.LeafType) (serial : ℕ) (values : ℕ → List ℤ → BasicValue) (k : ℕ) → standing_for s v ≡ Some (scalar_binding type v.index serial) → named s (VariableName serial) (scalar_shape type) ≡ Some (scalar_generation type values) → V.designated around (whole v) k s ≡ give (designated_scalar type serial values) k s
unfolding V.designated V.located V.numbers V.variable_designated V.part_designated looked ◌>>=◌ ◌>>◌ R.or_error R.demanded choose give
designated_by around s v type serial values k stands lives =
    ap (λ o. flow_on k (R.or_error around 101 o k s) (λ b. V.part_designated around b.name b.shape whole_part [])) stands
    ∙ ap (λ o. flow_on k (R.or_error around 101 o k s) (λ g. ◌>>=◌ (R.or_error around 107 (V.extent_in_force g whole_part)) (λ e. ◌>>◌ (R.demanded around 102 (is_within (take 0 (V.leaf_at (scalar_shape type) e 0).bounds) [])) (give (record { name = VariableName serial; generation = g; extent = e; part = whole_part; subscripts = [] }))))) lives

pub designated_gives : (around : Around) (s : State) (v : Y.Variable) (type : Y.LeafType) (z : ℤ) (k : ℕ) (h : HoldsScalar s v type z) → V.designated around (whole v) k s ≡ give (designated_scalar type h.serial h.values) k s
designated_gives around s v type z k h = designated_by around s v type h.serial h.values k h.stands h.lives

pub number_gives : (around : Around) (s : State) (v : Y.Variable) (p : ℕ) (z : ℤ) (k : ℕ) → HoldsScalar s v (Y.FixedLeaf p) z → V.number around (Y.NumberIn (whole v)) k s ≡ give z k s
unfolding V.number ◌>>=◌ give
number_gives around s v p z k h =
    ap (λ q. flow_on k q (λ d. give (number_in (V.value_in d)))) (designated_gives around s v (Y.FixedLeaf p) z k h)
    ∙ ap (λ u. give (number_in u) k s) h.value

pub bit_gives : (around : Around) (s : State) (v : Y.Variable) (z : ℤ) (k : ℕ) → HoldsScalar s v Y.BitLeaf z → V.bit around (Y.BitIn (whole v)) k s ≡ give (bit_of z) k s
unfolding V.bit ◌>>=◌ give
bit_gives around s v z k h =
    ap (λ q. flow_on k q (λ d. give (bit_in (V.value_in d)))) (designated_gives around s v Y.BitLeaf z k h)
    ∙ ap (λ u. give (bit_in u) k s) h.value

-- ---- in the code

-- where the data of a variable stands, from the frame
abbrev pub data_place : Environment → (block : Names) (index : ℕ) → ℕ
data_place e block index =
    automatic_place e.parts e.program (block.at index).number (block.at index).level (block.at index).index + 16 + 0

-- an environment in a frame of level 0
abbrev pub outermost : Environment → Environment
outermost e = record e { level = 0 }

abbrev pub declared_in : Option Y.DeclaredVariable → Y.DeclaredVariable
declared_in o = unwrap_or o no_declaration

abbrev pub type_by : Option Y.DeclaredVariable → Y.LeafType
type_by o = (unwrap_or (slice_get (declared_in o).leaves 0) no_leaf).type

-- the frame of a level is found
abbrev pub base_found : Environment → (level : ℕ) → Code
base_found e level = frame_found e level u3 ++ []

abbrev pub base_register : Environment → (level : ℕ) → Register
base_register e level = frame_in e level u3

abbrev pub address_from : Environment → (block : Names) (index : ℕ) → Option Y.DeclaredVariable → Address
address_from e block index o =
    record {
      register = if has_constant_size (declared_in o) then base_register e (level_of block index) else u3;
      displacement = pos (if has_constant_size (declared_in o) then automatic_place e.parts e.program (block.at index).number (block.at index).level (block.at index).index + 16 + leaf_place (declared_in o) 0 else 0);
    }

abbrev pub reached_from : Environment → Taken → (block : Names) (index : ℕ) → Option Y.DeclaredVariable → Code
reached_from e t block index o =
    let v = own block index in
    if has_constant_size (declared_in o) then base_found e (level_of block index) else found_reached e t t v
    whole_part (leaf_number e v 0) Y.NoNumber

-- what loads and stores a variable of a type, from a frame of any level
abbrev pub scalar_loaded : Y.LeafType → Environment → (level place : ℕ) → Code
scalar_loaded type e level place =
    base_found e level ++ displaced (λ r z. I.Load (load_kind type) a0 r z) (base_register e level) (pos place)

abbrev pub scalar_stored : Y.LeafType → Environment → (level place : ℕ) → Code
scalar_stored type e level place = displaced (λ r z. I.Store (store_kind type) r a0 z) (base_register e level) (pos place)

abbrev pub IsDeclared : Environment → (block : Names) (index : ℕ) → Y.LeafType → Type 0
IsDeclared e block index type =
    (initial : List T.InitialItem) × (slice_get (variables_of_block e.program (block.at index).number) (block.at index).index ≡ Some (plain_variable type initial))

-- a variable of a kind
abbrev pub IsDeclaredAs : Environment → (block : Names) (index : ℕ) → Kind → Type 0
IsDeclaredAs e block index k =
    (initial : List T.InitialItem) × (slice_get (variables_of_block e.program (block.at index).number) (block.at index).index ≡ Some (array_variable k.type k.bounds initial))

-- all variables of a block
abbrev pub HasTypes : Environment → (block : Names) → Types → Type 0
HasTypes e block types = (j : ℕ) (kind : Kind) → slice_get types j ≡ Some kind → IsDeclaredAs e block j kind

pub number_loaded : (e : Environment) (t : Taken) (block : Names) (index p : ℕ) → IsDeclared e block index (Y.FixedLeaf p) → number_code e t (Y.NumberIn (whole (own block index))) ≡ scalar_loaded (Y.FixedLeaf p) e (level_of block index) (data_place e block index)
number_loaded e t block index p declared =
    ap (λ o. reached_from e t block index o ++ loaded (type_by o) a0 (address_from e block index o)) declared.1

-- a number comes into another register, by way of that
abbrev pub brought : Y.LeafType → Environment → (level place : ℕ) → Code
brought type e level place =
    frame_found e level u1 ++ displaced (λ r z. I.Load (load_kind type) u1 r z) (frame_in e level u1) (pos place)

abbrev pub simple_from : Environment → (block : Names) (index : ℕ) → Option Y.DeclaredVariable → Code
simple_from e block index o =
    frame_found e (level_of block index) u1
    ++ loaded (type_by o) u1
    (record {
      register = frame_in e (level_of block index) u1;
      displacement =
          pos (automatic_place e.parts e.program (block.at index).number (block.at index).level (block.at index).index
          + 16 + leaf_place (declared_in o) 0);
    })

pub simple_loaded_is : (e : Environment) (block : Names) (index p : ℕ) → IsDeclared e block index (Y.FixedLeaf p)
    → simple_loaded e u1 (Y.NumberIn (whole (own block index)))
    ≡ brought (Y.FixedLeaf p) e (level_of block index) (data_place e block index)
simple_loaded_is e block index p declared = ap (simple_from e block index) declared.1

pub bit_loaded : (e : Environment) (t : Taken) (block : Names) (index : ℕ) → IsDeclared e block index Y.BitLeaf → bit_code e t (Y.BitIn (whole (own block index))) ≡ scalar_loaded Y.BitLeaf e (level_of block index) (data_place e block index)
bit_loaded e t block index declared =
    ap (λ o. reached_from e t block index o ++ loaded (type_by o) a0 (address_from e block index o)) declared.1

-- what is left to do before the store
scalar_found : (e : Environment) (t : Taken) (block : Names) (index : ℕ) (type : Y.LeafType) → IsNumeric type
    → IsDeclared e block index type → reference_code e t (whole (own block index)) ≡ base_found e (level_of block index)
scalar_found e t block index type =
    by_type (λ u. IsDeclared e block index u → reference_code e t (whole (own block index)) ≡ base_found e (level_of block index))
    (λ p declared. ap (reached_from e t block index) declared.1)
    (λ declared. ap (reached_from e t block index) declared.1)
    type

scalar_kept : (e : Environment) (block : Names) (index : ℕ) (type : Y.LeafType) → IsNumeric type
    → IsDeclared e block index type
    → stored (type_in e (whole (own block index))) a0 (address_in e (whole (own block index)))
    ≡ scalar_stored type e (level_of block index) (data_place e block index)
scalar_kept e block index type =
    by_type (λ u. IsDeclared e block index u → stored (type_in e (whole (own block index))) a0 (address_in e (whole (own block index))) ≡ scalar_stored u e (level_of block index) (data_place e block index))
    (λ p declared. ap (λ o. stored (type_by o) a0 (address_from e block index o)) declared.1)
    (λ declared. ap (λ o. stored (type_by o) a0 (address_from e block index o)) declared.1)
    type

-- a value in a0 stays there until it is stored
scalar_near : (e : Environment) (block : Names) (index : ℕ) (type : Y.LeafType) → IsNumeric type
    → IsDeclared e block index type → is_near e (whole (own block index)) ≡ true
scalar_near e block index type =
    by_type (λ u. IsDeclared e block index u → is_near e (whole (own block index)) ≡ true)
    (λ p declared. ap (λ o. has_constant_size (declared_in o) && true) declared.1)
    (λ declared. ap (λ o. has_constant_size (declared_in o) && true) declared.1)
    type

pub scalar_stored_is : (e : Environment) (t : Taken) (block : Names) (index : ℕ) (type : Y.LeafType) → IsNumeric type
    → IsDeclared e block index type → word_stored e t (whole (own block index)) ≡ base_found e (level_of block index)
    ++ scalar_stored type e (level_of block index) (data_place e block index)
scalar_stored_is e t block index type numeric declared =
    let r = whole (own block index) in
    let written = stored (type_in e r) a0 (address_in e r) in
    let waits = save a0 t ++ (reference_code e (with_number t) r ++ (fetch a0 t ++ written)) in
    ap (λ q. if q then reference_code e t r ++ written else waits) (scalar_near e block index type numeric declared)
    ∙ ap (λ c. c ++ written) (scalar_found e t block index type numeric declared)
    ∙ ap (λ c. base_found e (level_of block index) ++ c) (scalar_kept e block index type numeric declared)

-- variables of the main procedure alone
abbrev pub AllOutermost : (block : Names) → Types → Type 0
AllOutermost block types = (j : ℕ) (kind : Kind) → slice_get types j ≡ Some kind → level_of block j ≡ 0
