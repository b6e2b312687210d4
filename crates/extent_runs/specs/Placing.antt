-- A variable whose size the run tells: its data stand on the lower stack, which grows by the bytes to reserve; its name
-- stands at the end of the frame.
use Rattle.std.specs.Prelude.{ℕ, ◌+◌, ◌-◌, ◌*◌, ◌%◌, ◌^◌, ◌≤◌, ◌≡◌, List, ◌∷◌, ◌++◌, length, nat_le, pos, true}
use Rattle.std.specs.Prelude.{None, Some}
use Rattle.rv_meaning.specs.declared.instr.Instr.{Instr}
use Rattle.rv_meaning.specs.Machine.{memory_size}
use Rattle.rv_meaning.specs.Memory.{store}
use Rattle.area_keeper.specs.KeptAreas.{with_part}
use Rattle.pli_typing.specs.Signatures.{data_size}
use Rattle.pli_typing.specs.TypedTree as Y
use Rattle.pli_meaning.specs.BasicValues.{VariableName}
use Rattle.pli_meaning.specs.Contents.{Generation, Shape, footprint_of, fresh}
use Rattle.pli_meaning.specs.Control.{Normal}
use Rattle.pli_meaning.specs.Making.{variable_made}
use Rattle.pli_meaning.specs.StorageState.{automatic_in_use, most_automatic}
use Rattle.pli_serving.specs.Answers.{Done}
use Rattle.pli_serving.specs.Arguments.{capacity_of}
use Rattle.pli_serving.specs.Bytes as B
use Rattle.pli_serving.specs.InitialValues.{none_initial}
use Rattle.pli_serving.specs.Templates.{shape_at}
use Rattle.pli_serving.specs.Values.{generation_bytes}
use Rattle.pli_coding.specs.Assembly.{Code, size_of}
use Rattle.pli_coding.specs.Entries.{adjustable_made, extents_act, lower_taken}
use Rattle.pli_coding.specs.Environments.{Environment, none_taken}
use Rattle.pli_coding.specs.Extents.{bytes_word, extents_code, initial_code, number_word}
use Rattle.pli_coding.specs.Frames.{lower_top, name_bytes}
use Rattle.pli_coding.specs.Instructions.{load_word, move, plus, service, small}
use Rattle.pli_coding.specs.Locating.{own_place}
use Rattle.pli_coding.specs.Registers.{a0, a1, a2, a3, a4, frame_register, stack_register, u1, u2}
use Rattle.pli_coding.specs.StaticForms.{initial_datum}
use Rattle.storage_relation.specs.Served.{Holds}
use Rattle.storage_relation.specs.Standing.{IsPlain, IsValued, leaves_of}
use Rattle.storage_relation.specs.Telling.{AllHaveValues}
use Rattle.activation_relation.specs.Frames.{FramesStand, place_from}
use Rattle.activation_relation.specs.Layers.{Layer, Point, now, services_of}
use Rattle.activation_relation.specs.Points.{Stands, Surroundings}
use Rattle.activation_relation.specs.Variables.{Made, with_made}
use Rattle.run_steps.specs.Engine.{call_at}
use Rattle.run_steps.specs.Items.{Linked}
use Rattle.run_steps.specs.Reach.{Family, Reach}
use Rattle.run_steps.specs.Unlimited as U
use Rattle.block_runs.specs.Machines.{AreIn, IsImage, IsIn}

-- its index among the variables of its block, its shape, the number of its signature, where its name stands in the
-- frame, and the bytes to reserve
pub record Adjustable : Type 0 where
  pub index : ℕ
  pub shape : Shape
  pub number : ℕ
  pub place : ℕ
  pub bytes : ℕ

-- without INITIAL values
abbrev pub generation_of : Adjustable → Generation
generation_of x = fresh x.shape (pos 0) (none_initial x.shape.signature.leaves)

abbrev pub made_below : Layer → Adjustable → Made
made_below φ x =
    record {
      variable = x.index;
      generation = generation_of x;
      place = φ.lower - x.bytes;
      number = x.number;
      top = φ.at + (x.place + name_bytes);
      lower = φ.lower - x.bytes;
      told = φ.told;
    }

abbrev pub adjusted : Layer → Adjustable → Point → Point
adjusted φ x p = with_made (made_below φ x) p

-- the name's place is the end of the frame, and name and data fit between the stacks
pub record IsAdjustable (w : Surroundings) (p : Point) (x : Adjustable) (φ : Layer) (φs : List Layer) : Type 0 where
  pub newest : p.control.layers ≡ φ ∷ φs
  pub here : φ.at + x.place ≡ φ.top
  pub fits : φ.top + name_bytes + x.bytes ≤ φ.lower
  pub even : (φ.lower - x.bytes) % 16 ≡ 0
  pub holds : length (generation_bytes (generation_of x)) ≤ x.bytes
  pub size : data_size x.shape.signature ≤ x.bytes
  pub low : p.places.low ≤ w.parts.stack_start
  -- the number means its shape, which is no area's, and it begins with values that it can keep
  pub shape : shape_at p.places.signatures x.number ≡ Some x.shape
  pub plain : IsPlain (generation_of x)
  pub fixed : capacity_of x.shape ≡ None
  pub values : AllHaveValues (leaves_of (generation_of x))
  pub valued : IsValued (generation_of x)
  -- and doesn't pass the limit on what is AUTOMATIC
  pub limit : nat_le (automatic_in_use p.state.living + footprint_of (generation_of x)) most_automatic ≡ true

-- ---- memory

abbrev pub adjusted_memory : Point → Layer → Adjustable → List ℕ → List ℕ
adjusted_memory p φ x m =
    with_part (B.name_bytes (VariableName (p.state.serials + 1))) (φ.at + x.place)
    (with_part (generation_bytes (generation_of x)) (φ.lower - x.bytes) m)

-- the top of the lower stack is kept in the frame before the variable is made
abbrev pub lowered_memory : Layer → Adjustable → List ℕ → List ℕ
lowered_memory φ x m = store 4 m (place_from φ.at lower_top) (φ.lower - x.bytes)

-- ---- its code, behind its extents: number and bytes wait in words of the frame

pub record Placement : Type 0 where
  pub variable : Adjustable
  pub layer : Layer
  pub others : List Layer
  pub environment : Environment
  pub declared : Y.DeclaredVariable

abbrev pub placing_code : Placement → Code
placing_code z =
    plus stack_register frame_register (pos (z.variable.place + name_bytes))
    ++ (load_word u2 frame_register (bytes_word none_taken)
    ++ (lower_taken
    ++ (own_place z.environment a0 (pos z.variable.place)
    ++ (load_word a1 frame_register (number_word none_taken)
    ++ (initial_code a2 z.declared ++ (move a3 u1 ∷ small a4 0 ∷ service 7))))))

pub record IsPlacement (w : Surroundings) (p : Point) (z : Placement) : Type 0 where
  pub is : IsAdjustable w p z.variable z.layer z.others
  pub initial : initial_datum z.declared ≡ None
  pub words : 2 ≤ z.layer.words
  pub number : z.layer.waits 0 ≡ Some z.variable.number
  pub bytes : z.layer.waits 1 ≡ Some z.variable.bytes

-- the code that makes it: the act of its extents, these, and this
abbrev pub PlacingCoded : Type 0
PlacingCoded =
    (z : Placement) (line : ℕ) →
    adjustable_made z.environment line z.variable.place z.declared
    ≡ extents_act line z.declared.evaluations ++ (extents_code z.environment none_taken z.declared ++ placing_code z)

-- ---- the law

pub record AdjustablesPlaced : Type 0 where
  pub stands :
      (w : Surroundings) (code : List Instr) (p : Point) (x : Adjustable) (φ : Layer) (φs : List Layer) →
      Stands w p × IsImage w code p → IsAdjustable w p x φ φs →
      Stands w (adjusted φ x p) × IsImage w code (adjusted φ x p)
  -- that is what making it means
  pub means :
      (w : Surroundings) (p : Point) (x : Adjustable) (φ : Layer) (φs : List Layer) (acts : ℕ) →
      IsAdjustable w p x φ φs →
      variable_made x.index (generation_of x) acts p.state ≡ Normal tt (adjusted φ x p).state
  -- its code comes to the point that has it
  pub comes :
      (w : Surroundings) (code : List Instr) (p : Point) (numbers : ℕ → ℕ) (z : Placement) (credits index : ℕ)
      (f : Family) → Stands w p × IsImage w code p → IsPlacement w p z →
      Linked w.links code index (placing_code z) → AreIn w p numbers index f →
      Reach code credits f (services_of p) (credits + size_of (placing_code z))
      (services_of (adjusted z.layer z.variable p))
      (λ b y. IsIn w (adjusted z.layer z.variable p) numbers (index + size_of (placing_code z)) b y)
  pub coded : PlacingCoded
  -- service 7 answers so, whatever is stored in frames
  pub served :
      (w : Surroundings) (code : List Instr) (p : Point) (x : Adjustable) (φ : Layer) (φs : List Layer) (m : List ℕ) →
      Stands w p × IsImage w code p → IsAdjustable w p x φ φs →
      (length m ≡ memory_size) × (4 * length code ≤ 2 ^ 22) → Holds (now p m) →
      U.make_served (call_at code (services_of p) m) (φ.at + x.place) x.number 0 (φ.lower - x.bytes) 0
      ≡ Done (services_of (adjusted φ x p)) (adjusted_memory p φ x m) (φ.at + x.place) x.number
  -- memory has it, and all that was there
  pub holds :
      (w : Surroundings) (code : List Instr) (p : Point) (x : Adjustable) (φ : Layer) (φs : List Layer) (m : List ℕ) →
      Stands w p × IsImage w code p → IsAdjustable w p x φ φs → length m ≡ memory_size → Holds (now p m) →
      Holds (now (adjusted φ x p) (adjusted_memory p φ x m))
  -- and all frames stand, the newest one with the lower stack's new top
  pub frames :
      (w : Surroundings) (code : List Instr) (p : Point) (x : Adjustable) (φ : Layer) (φs : List Layer) (base : ℕ)
      (m : List ℕ) → Stands w p × IsImage w code p → IsAdjustable w p x φ φs → length m ≡ memory_size →
      FramesStand w.parts base m p.state.activations p.control.layers →
      FramesStand w.parts base (adjusted_memory p φ x (lowered_memory φ x m)) (adjusted φ x p).state.activations
      (adjusted φ x p).control.layers
