-- The variables of a procedure's block that declares areas, and what is BASED, beside its numbers and pointers.
use Rattle.std.specs.Prelude.{ℕ, ◌+◌, ◌^◌, ◌<◌, ◌≤◌, ◌≡◌, Bool, false, true, List, [], ◌∷◌, length}
use Rattle.rv_meaning.specs.declared.instr.Instr.{Instr}
use Rattle.pli_typing.specs.TypedTree as Y
use Rattle.pli_meaning.specs.DeclaredShapes.{declared_variable, variables_of_block}
use Rattle.run_keeper.specs.RunKeeper.{run_keeper}
use Rattle.pli_coding.specs.Entries.{variables_code}
use Rattle.pli_coding.specs.Environments.{Environment}
use Rattle.pli_coding.specs.Frames.{MemoryParts, fixed_size, frame_bytes, parameters_of_block}
use Rattle.pli_coding.specs.Locating.{table_number}
use Rattle.activation_relation.specs.Layers.{Point}
use Rattle.activation_relation.specs.Points.{Surroundings}
use Rattle.block_runs.specs.Machines.{HasParts}
use Rattle.program_runs.specs.Calls.{Callee, begun_at, block_at}
use Rattle.program_runs.specs.Procedures.{layer_for}
use Rattle.program_runs.specs.Statements.{IsBegun}
use Rattle.program_runs.specs.Variables.{Declared}
use Rattle.expression_runs.specs.Variables.{IsNumber, Spot, variable_of}
use Rattle.variable_runs.specs.Known.{IsKnown}
use Rattle.variable_runs.specs.Lists.{AreAllBegun, newest_all}
use Rattle.array_runs.specs.Arrays.{IsArray}
use Rattle.scalar_runs.specs.Scalars.{IsScalar}
use Rattle.area_runs.specs.Allocations.{HasArea}
use Rattle.area_runs.specs.Based.{pointer_declared}
use Rattle.number_runs.specs.Based.{is_area_if, is_based, is_pointer_if}
use Rattle.number_runs.specs.Variables.{AreTabled, EachBegins, HaveRoom, IsOwnArray, IsOwnNarrow, IsOwnWord, are_any}
use Rattle.number_runs.specs.Variables.{own_grid, own_type}

-- what they take in its frame: an area as many bytes as its keeper needs, and what is BASED none
abbrev pub held_bytes : MemoryParts → List Y.DeclaredVariable → ℕ
held_bytes parts [] = 0
held_bytes parts (d ∷ ds) = frame_bytes parts d + held_bytes parts ds

-- as they are made: each with the number of its signature, where its name stands in the frame, and its index
abbrev pub with_held : (based : Bool) → Declared → List Declared → List Declared
with_held true x rest = rest
with_held false x rest = x ∷ rest

abbrev pub held_from : Environment → (place index : ℕ) → List Y.DeclaredVariable → List Declared
held_from e place index [] = []
held_from e place index (d ∷ ds) =
    with_held (is_based d) (record { index = index; declared = d; number = table_number e d; place = place })
    (held_from e (place + frame_bytes e.parts d) (index + 1) ds)

-- those of the block whose code has an environment
abbrev pub held_in : Environment → List Declared
held_in e = held_from e (fixed_size e.level 0) 0 (variables_of_block e.program e.block)

-- ---- those of a procedure

pub record HasAreas (w : Surroundings) (code : List Instr) (c : Callee) (p : Point) (numbers : ℕ → ℕ) : Type 0 where
  pub kind : c.procedure.head.kind ≡ Y.ProcedureBlock
  pub coded : c.procedure.variables ≡ variables_code c.environment c.procedure.head.line
  pub block : c.environment.block ≡ c.procedure.head.number
  pub level : c.environment.level ≡ c.procedure.head.level
  pub program : c.around.program ≡ c.environment.program
  pub parts : c.environment.parts ≡ w.parts
  pub keeper : w.parts.area_bytes ≡ run_keeper.bytes_for
  pub bare : parameters_of_block c.environment.program c.environment.block ≡ []
  pub made : c.made ≡ newest_all w.parts (held_in c.environment)
  pub any : are_any (variables_of_block c.environment.program c.environment.block) ≡ true
  pub few : length (variables_of_block c.environment.program c.environment.block) ≤ w.serials
  pub tabled :
      AreTabled c.environment p.places.signatures (variables_of_block c.environment.program c.environment.block)
  pub begin :
      EachBegins p.places.constants code w.links.data' (variables_of_block c.environment.program c.environment.block)
  pub room :
      HaveRoom w (begun_at w c p numbers) (layer_for w p numbers c.procedure c.calling) p.control.layers
      (fixed_size c.environment.level 0)
      (held_bytes c.environment.parts (variables_of_block c.environment.program c.environment.block))
  -- the serial numbers of areas have two words
  pub serials :
      (begun_at w c p numbers).state.serials
      + length (variables_of_block c.environment.program c.environment.block)
      < 2 ^ 64

-- a pointer of the block
pub record IsOwnPointer (c : Callee) (x : Spot) : Type 0 where
  pub block : x.block ≡ c.environment.block
  pub level : x.level ≡ c.environment.level
  pub pointer : is_pointer_if (declared_variable c.environment.program (variable_of x)) ≡ true

-- an area of the block
pub record IsOwnArea (c : Callee) (x : Spot) : Type 0 where
  pub block : x.block ≡ c.environment.block
  pub level : x.level ≡ c.environment.level
  pub area : is_area_if (declared_variable c.environment.program (variable_of x)) ≡ true

pub record AreasMade : Type 0 where
  -- the procedure makes them, if they have room
  pub all :
      (w : Surroundings) (code : List Instr) (c : Callee) (p : Point) (numbers : ℕ → ℕ) → HasAreas w code c p numbers →
      AreAllBegun w code c p numbers (held_in c.environment)
  -- each pointer stands for what is there, and the frame tells the name of each area
  pub pointer :
      (w : Surroundings) (code : List Instr) (c : Callee) (p : Point) (numbers : ℕ → ℕ) (x : Spot) →
      HasParts w.parts → HasAreas w code c p numbers → IsOwnPointer c x → IsBegun (block_at w code c p numbers) →
      IsKnown (block_at w code c p numbers) x pointer_declared
  pub area :
      (w : Surroundings) (code : List Instr) (c : Callee) (p : Point) (numbers : ℕ → ℕ) (x : Spot) →
      HasParts w.parts → HasAreas w code c p numbers → IsOwnArea c x → IsBegun (block_at w code c p numbers) →
      HasArea (block_at w code c p numbers) x
  -- and the other ones are what they are without areas
  pub number :
      (w : Surroundings) (code : List Instr) (c : Callee) (p : Point) (numbers : ℕ → ℕ) (x : Spot) →
      HasParts w.parts → HasAreas w code c p numbers → IsOwnWord c x → IsBegun (block_at w code c p numbers) →
      IsNumber (block_at w code c p numbers) x
  pub array :
      (w : Surroundings) (code : List Instr) (c : Callee) (p : Point) (numbers : ℕ → ℕ) (x : Spot) →
      HasParts w.parts → HasAreas w code c p numbers → IsOwnArray c x → IsBegun (block_at w code c p numbers) →
      IsArray (block_at w code c p numbers) x (own_grid c x)
  pub narrow :
      (w : Surroundings) (code : List Instr) (c : Callee) (p : Point) (numbers : ℕ → ℕ) (x : Spot) →
      HasParts w.parts → HasAreas w code c p numbers → IsOwnNarrow c x → IsBegun (block_at w code c p numbers) →
      IsScalar (block_at w code c p numbers) x (own_type c x)
