-- The variables of a procedure's block: FIXED BINARY(31) scalars, arrays of numbers and bits, scalars of other types,
-- and pointers; to all but pointers INITIAL may give values.
use Rattle.std.specs.Prelude.{ℕ, ◌+◌, ◌%◌, ◌^◌, ◌<◌, ◌≤◌, ◌≡◌, ◌&&◌, ◌||◌, Bool, true, List, [], ◌∷◌, length, Some}
use Rattle.std.specs.Prelude.{Option, ⊤}
use Rattle.rv_meaning.specs.declared.instr.Instr.{Instr}
use Rattle.pli_typing.specs.Signatures.{data_size, footprint}
use Rattle.pli_typing.specs.TypedTree as Y
use Rattle.pli_meaning.specs.DeclaredShapes.{declared_variable, shape_of, variables_of_block}
use Rattle.pli_meaning.specs.StorageState.{automatic_in_use, most_automatic}
use Rattle.pli_serving.specs.Templates.{shape_at}
use Rattle.pli_types.specs.Templates.{Template}
use Rattle.pli_coding.specs.Entries.{variables_code}
use Rattle.pli_coding.specs.Environments.{Environment}
use Rattle.pli_coding.specs.Frames.{fixed_size, last_place, parameters_of_block}
use Rattle.pli_coding.specs.Locating.{table_number}
use Rattle.pli_coding.specs.StaticData.{PlacedDatum}
use Rattle.activation_relation.specs.Layers.{Layer, Point}
use Rattle.activation_relation.specs.Points.{Surroundings}
use Rattle.block_runs.specs.Machines.{HasParts}
use Rattle.program_runs.specs.Calls.{Callee, begun_at, block_at}
use Rattle.program_runs.specs.Initial.{Begins}
use Rattle.program_runs.specs.Procedures.{layer_for}
use Rattle.program_runs.specs.Statements.{Block, IsAmong, IsBegun}
use Rattle.program_runs.specs.Variables.{Declared}
use Rattle.expression_runs.specs.Variables.{IsNumber, Spot, variable_of}
use Rattle.variable_runs.specs.Lists.{AreAllBegun, newest_all}
use Rattle.function_runs.specs.Functions.{function_block}
use Rattle.array_runs.specs.Arrays.{Grid, IsArray}
use Rattle.scalar_runs.specs.Scalars.{IsScalar}
use Rattle.number_runs.specs.Arrays.{grid_if, is_array, is_array_if}
use Rattle.number_runs.specs.Based.{is_area, is_based, is_pointer}
use Rattle.number_runs.specs.Narrow.{is_narrow, is_narrow_if, type_if}
use Rattle.number_runs.specs.Numbers.{is_parameter, is_plain, is_plain_if}

-- a scalar, an array, a scalar of fewer bits, or a pointer
abbrev pub is_declared : Y.DeclaredVariable → Bool
is_declared d = is_plain d || (is_array d || (is_narrow d || is_pointer d))

abbrev pub are_plain : List Y.DeclaredVariable → Bool
are_plain [] = true
are_plain (d ∷ ds) = is_declared d && are_plain ds

-- areas, too, and what is BASED, of which a block makes nothing
abbrev pub is_any : Y.DeclaredVariable → Bool
is_any d = is_based d || (is_declared d || is_area d)

abbrev pub are_any : List Y.DeclaredVariable → Bool
are_any [] = true
are_any (d ∷ ds) = is_any d && are_any ds

-- parameters among them, too
abbrev pub are_known : List Y.DeclaredVariable → Bool
are_known [] = true
are_known (d ∷ ds) = (is_any d || is_parameter d) && are_known ds

-- ---- as they are made

-- what one takes in a frame, its name and its data in whole multiples of 16, and what it counts for in AUTOMATIC
-- storage
abbrev pub variable_bytes : Y.DeclaredVariable → ℕ
variable_bytes d = footprint (data_size (shape_of [] d).signature)

abbrev pub bytes_of : List Y.DeclaredVariable → ℕ
bytes_of [] = 0
bytes_of (d ∷ ds) = variable_bytes d + bytes_of ds

-- each with the number of its signature, where its name stands in the frame, and its index
abbrev pub words_from : Environment → (place index : ℕ) → List Y.DeclaredVariable → List Declared
words_from e place index [] = []
words_from e place index (d ∷ ds) =
    record { index = index; declared = d; number = table_number e d; place = place }
    ∷ words_from e (place + variable_bytes d) (index + 1) ds

-- those of the block whose code has an environment
abbrev pub words_in : Environment → List Declared
words_in e = words_from e (fixed_size e.level 0) 0 (variables_of_block e.program e.block)

-- so many bytes can be made in the newest block, from a place of its frame on
pub record HaveRoom (w : Surroundings) (p : Point) (φ : Layer) (φs : List Layer) (place bytes : ℕ) : Type 0 where
  pub newest : p.control.layers ≡ φ ∷ φs
  pub here : φ.at + place ≡ φ.top
  pub even : φ.top % 16 ≡ 0
  pub counted : place + bytes ≤ last_place
  pub fits : φ.top + bytes ≤ φ.lower
  pub low : p.places.low ≤ w.parts.stack_start
  pub limit : automatic_in_use p.state.living + bytes ≤ most_automatic

-- the table has the signature of each
pub record IsTabled (e : Environment) (signatures : List Template) (d : Y.DeclaredVariable) : Type 0 where
  pub small : table_number e d < 2 ^ 31
  pub shape : shape_at signatures (table_number e d) ≡ Some (shape_of [] d)

abbrev pub AreTabled : Environment → List Template → List Y.DeclaredVariable → Type 0
AreTabled e signatures [] = ⊤
AreTabled e signatures (d ∷ ds) = IsTabled e signatures d × AreTabled e signatures ds

-- what each begins with is told of static data
abbrev pub EachBegins : (ℕ → Option ℕ) → List Instr → List PlacedDatum → List Y.DeclaredVariable → Type 0
EachBegins constants code all [] = ⊤
EachBegins constants code all (d ∷ ds) = Begins constants code all d × EachBegins constants code all ds

-- ---- those of a procedure

pub record HasWords (w : Surroundings) (code : List Instr) (c : Callee) (p : Point) (numbers : ℕ → ℕ) : Type 0 where
  pub kind : c.procedure.head.kind ≡ Y.ProcedureBlock
  pub coded : c.procedure.variables ≡ variables_code c.environment c.procedure.head.line
  pub block : c.environment.block ≡ c.procedure.head.number
  pub level : c.environment.level ≡ c.procedure.head.level
  pub program : c.around.program ≡ c.environment.program
  pub parts : c.environment.parts ≡ w.parts
  pub bare : parameters_of_block c.environment.program c.environment.block ≡ []
  pub made : c.made ≡ newest_all w.parts (words_in c.environment)
  pub plain : are_plain (variables_of_block c.environment.program c.environment.block) ≡ true
  pub few : length (variables_of_block c.environment.program c.environment.block) ≤ w.serials
  pub tabled :
      AreTabled c.environment p.places.signatures (variables_of_block c.environment.program c.environment.block)
  pub begin :
      EachBegins p.places.constants code w.links.data' (variables_of_block c.environment.program c.environment.block)
  pub room :
      HaveRoom w (begun_at w c p numbers) (layer_for w p numbers c.procedure c.calling) p.control.layers
      (fixed_size c.environment.level 0)
      (bytes_of (variables_of_block c.environment.program c.environment.block))

-- one of the block's variables: a number, an array, or a scalar of fewer bits
pub record IsOwnWord (c : Callee) (x : Spot) : Type 0 where
  pub block : x.block ≡ c.environment.block
  pub level : x.level ≡ c.environment.level
  pub plain : is_plain_if (declared_variable c.environment.program (variable_of x)) ≡ true

pub record IsOwnArray (c : Callee) (x : Spot) : Type 0 where
  pub block : x.block ≡ c.environment.block
  pub level : x.level ≡ c.environment.level
  pub array : is_array_if (declared_variable c.environment.program (variable_of x)) ≡ true

pub record IsOwnNarrow (c : Callee) (x : Spot) : Type 0 where
  pub block : x.block ≡ c.environment.block
  pub level : x.level ≡ c.environment.level
  pub narrow : is_narrow_if (declared_variable c.environment.program (variable_of x)) ≡ true

abbrev pub own_type : Callee → Spot → Y.LeafType
own_type c x = type_if (declared_variable c.environment.program (variable_of x))

abbrev pub own_grid : Callee → Spot → Grid
own_grid c x = grid_if (declared_variable c.environment.program (variable_of x))

pub record WordsMade : Type 0 where
  -- the procedure makes them, if they have room
  pub all :
      (w : Surroundings) (code : List Instr) (c : Callee) (p : Point) (numbers : ℕ → ℕ) → HasWords w code c p numbers →
      AreAllBegun w code c p numbers (words_in c.environment)
  -- wherever it is called, too
  pub among :
      (k : Block) (c : Callee) (p : Point) (numbers : ℕ → ℕ) → IsBegun k → IsAmong k numbers p →
      HasWords k.call.surroundings k.call.code c k.first numbers →
      AreAllBegun k.call.surroundings k.call.code c p numbers (words_in c.environment)
  -- and each is a number of its block, a procedure's or a function's
  pub own :
      (w : Surroundings) (code : List Instr) (c : Callee) (p q : Point) (numbers : ℕ → ℕ) (x : Spot) →
      HasParts w.parts → HasWords w code c q numbers × AreAllBegun w code c p numbers (words_in c.environment) →
      IsOwnWord c x → IsBegun (block_at w code c p numbers) → IsNumber (block_at w code c p numbers) x
  pub function :
      (w : Surroundings) (code : List Instr) (c : Callee) (p q : Point) (numbers : ℕ → ℕ) (x : Spot) →
      HasParts w.parts → HasWords w code c q numbers × AreAllBegun w code c p numbers (words_in c.environment) →
      IsOwnWord c x → IsBegun (function_block w code c p numbers) → IsNumber (function_block w code c p numbers) x
  -- or an array of it
  pub own_array :
      (w : Surroundings) (code : List Instr) (c : Callee) (p q : Point) (numbers : ℕ → ℕ) (x : Spot) →
      HasParts w.parts → HasWords w code c q numbers × AreAllBegun w code c p numbers (words_in c.environment) →
      IsOwnArray c x → IsBegun (block_at w code c p numbers) → IsArray (block_at w code c p numbers) x (own_grid c x)
  pub function_array :
      (w : Surroundings) (code : List Instr) (c : Callee) (p q : Point) (numbers : ℕ → ℕ) (x : Spot) →
      HasParts w.parts → HasWords w code c q numbers × AreAllBegun w code c p numbers (words_in c.environment) →
      IsOwnArray c x →
      IsBegun (function_block w code c p numbers) → IsArray (function_block w code c p numbers) x (own_grid c x)
  -- or a scalar of fewer bits
  pub own_narrow :
      (w : Surroundings) (code : List Instr) (c : Callee) (p q : Point) (numbers : ℕ → ℕ) (x : Spot) →
      HasParts w.parts → HasWords w code c q numbers × AreAllBegun w code c p numbers (words_in c.environment) →
      IsOwnNarrow c x → IsBegun (block_at w code c p numbers) → IsScalar (block_at w code c p numbers) x (own_type c x)
  pub function_narrow :
      (w : Surroundings) (code : List Instr) (c : Callee) (p q : Point) (numbers : ℕ → ℕ) (x : Spot) →
      HasParts w.parts → HasWords w code c q numbers × AreAllBegun w code c p numbers (words_in c.environment) →
      IsOwnNarrow c x →
      IsBegun (function_block w code c p numbers) → IsScalar (function_block w code c p numbers) x (own_type c x)
