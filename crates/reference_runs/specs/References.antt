-- An argument by reference: its words of the list have the name of a variable of the block that calls, which stands
-- before the variable's data, and the number of its signature; no copy is made.
use Rattle.std.specs.Prelude.{ℕ, ◌+◌, ◌/◌, ◌%◌, ◌^◌, ◌<◌, ◌≤◌, ◌≡◌, ◌==◌, Option, Some, None, List, ◌∷◌, ◌++◌, pos}
use Rattle.std.specs.Prelude.{if◌then◌else◌, negsuc}
use Rattle.rv_meaning.specs.declared.instr.Instr.{Instr}
use Rattle.pli_meaning.specs.StorageState.{Living, living_of}
use Rattle.pli_serving.specs.Templates.{shape_at}
use Rattle.pli_coding.specs.Assembly.{Code, size_of}
use Rattle.pli_coding.specs.Frames.{own_offset}
use Rattle.pli_coding.specs.Instructions.{load_word, number, plus, store_word, tested_service}
use Rattle.pli_coding.specs.Registers.{a0, a1, a2, frame_register, u1, zero_register}
use Rattle.activation_relation.specs.Layers.{Layer, Point, services_of}
use Rattle.activation_relation.specs.Points.{Stands, Surroundings}
use Rattle.run_steps.specs.Items.{Linked}
use Rattle.run_steps.specs.Reach.{Family, Reach}
use Rattle.block_runs.specs.Machines.{AreIn, IsImage, IsIn}
use Rattle.argument_runs.specs.Laws.{HasList}
use Rattle.argument_runs.specs.Lists.{list_given, with_list}
use Rattle.argument_runs.specs.Parameters.{parameter_shape}

-- a generation by its serial number, the number of its signature, and where its name stands in the frame
pub record Reference : Type 0 where
  pub serial : ℕ
  pub signature : ℕ
  pub place : ℕ

-- what its words of the list hold; the last tells that it is no copy
abbrev pub referred_waits : Reference → ℕ → Option ℕ
referred_waits r n =
    if n == 5 then Some 1
    else (if n == 4 then Some 0
    else (if n == 3 then Some (r.serial % 2 ^ 32)
    else (if n == 2 then Some (r.serial / 2 ^ 32)
    else (if n == 1 then Some r.signature else (if n == 0 then Some 0 else None)))))

-- its name is told of the frame
pub record IsTold (told : ℕ → Option ℕ) (r : Reference) : Type 0 where
  pub kind : told r.place ≡ Some 1
  pub second : told (r.place + 4) ≡ Some 0
  pub low : told (r.place + 8) ≡ Some (r.serial % 2 ^ 32)
  pub high : told (r.place + 12) ≡ Some (r.serial / 2 ^ 32)

-- it lives, and has that signature; there are words for the list
pub record IsReferred (p : Point) (φ : Layer) (φs : List Layer) (r : Reference) : Type 0 where
  pub newest : p.control.layers ≡ φ ∷ φs
  pub words : 6 ≤ φ.words
  pub told : IsTold φ.told r
  pub living : Living
  pub lives : living_of p.state.living r.serial ≡ Some living
  pub shape : living.generation.shape ≡ parameter_shape
  pub numbered : shape_at p.places.signatures r.signature ≡ Some parameter_shape
  pub small : r.signature < 2 ^ 31
  pub serial : r.serial < 2 ^ 64

-- service 9 copies the name if it lives; the number goes behind it
abbrev pub reference_given : (place signature : ℕ) → Code
reference_given place signature =
    (load_word a0 frame_register own_offset ++ plus a0 a0 (pos place))
    ++ (number a1 signature
    ++ ((load_word a2 frame_register own_offset ++ plus a2 a2 (negsuc 23))
    ++ (tested_service 9
    ++ (number u1 signature
    ++ (store_word frame_register u1 (negsuc 7) ++ store_word frame_register zero_register (negsuc 3))))))

pub record ReferencesGiven : Type 0 where
  pub comes :
      (w : Surroundings) (code : List Instr) (p : Point) (φ : Layer) (φs : List Layer) (r : Reference) (numbers : ℕ → ℕ)
      (credits index : ℕ) (f : Family) → Stands w p × IsImage w code p → IsReferred p φ φs r →
      Linked w.links code index (reference_given r.place r.signature ++ list_given) → AreIn w p numbers index f →
      Reach code credits f (services_of p) (credits + size_of (reference_given r.place r.signature ++ list_given))
      (services_of (with_list (referred_waits r) φ φs p))
      (λ b y. IsIn w (with_list (referred_waits r) φ φs p) numbers
      (index + size_of (reference_given r.place r.signature ++ list_given)) b y × HasList φ b y.machine)
