-- The start of an image: from its first instruction to that which calls the main procedure.
use Rattle.std.specs.Prelude.{ℕ, ◌+◌, ◌*◌, ◌≡◌, List, ◌∷◌, ◌++◌, length, Option}
use Rattle.rv_meaning.specs.declared.instr.Instr.{Instr}
use Rattle.rv_meaning.specs.Machine.{memory_size, value}
use Rattle.pli_types.specs.Templates.{Template}
use Rattle.run_keeper.specs.RunKeeper.{run_keeper}
use Rattle.pli_serving.specs.ServiceState.{Services}
use Rattle.pli_coding.specs.Assembly.{Code, CallTo, ProcedureEntry}
use Rattle.pli_coding.specs.Frames.{MemoryParts, usual_parts}
use Rattle.pli_coding.specs.Images.{first_frame}
use Rattle.pli_coding.specs.Instructions.{move, small}
use Rattle.pli_coding.specs.Linking.{Links}
use Rattle.pli_coding.specs.Procedures.{finish_code}
use Rattle.pli_coding.specs.Registers.{frame_register, a0, a1, a2}
use Rattle.storage_relation.specs.Fills.{Fills}
use Rattle.storage_relation.specs.Served.{AllDiffer}
use Rattle.storage_relation.specs.Stored.{AreTold}
use Rattle.storage_relation.specs.Versions.{first_version, first_places, layout_in}
use Rattle.activation_relation.specs.Chains.{UnitPlaces}
use Rattle.activation_relation.specs.Layers.{Point, services_of}
use Rattle.activation_relation.specs.Points.{Surroundings, Stands}
use Rattle.activation_relation.specs.Rows.{first_point}
use Rattle.run_steps.specs.Engine.{address}
use Rattle.run_steps.specs.Items.{Linked}
use Rattle.run_steps.specs.Reach.{Family, Reach, Aims, never}
use Rattle.block_runs.specs.Machines.{IsImage, IsIn, limits_of}

-- ---- its code

abbrev pub image_parts : MemoryParts
image_parts = usual_parts run_keeper.bytes_for

-- the main procedure is given no arguments; behind its call the run ends
abbrev pub main_called : (main : ℕ) → Code
main_called main =
    move a0 frame_register ∷ move a1 frame_register ∷ small a2 0 ∷ CallTo (ProcedureEntry main) ∷ finish_code

-- without STATIC variables
abbrev pub start_of : (main : ℕ) → Code
start_of main = first_frame image_parts ++ main_called main

-- the indices of the call and of the end of the run
abbrev pub call_index : ℕ
call_index = 13

abbrev pub finish_index : ℕ
finish_index = 15

-- ---- its first moment

-- a program's image in a run: its code, its signatures, the bytes that are told of its static data, the signatures that
-- a run may fill in, the input, how many acts are allowed, and how many serials may come between two
pub record Image : Type 0 where
  pub code : List Instr
  pub links : Links
  pub units : UnitPlaces
  pub signatures : List Template
  pub constants : (place : ℕ) → Option ℕ
  pub fills : List Fills
  pub input : List ℕ
  pub acts : ℕ
  pub serials : ℕ

abbrev pub surroundings_of : Image → Surroundings
surroundings_of i =
    record {
      parts = image_parts;
      links = i.links;
      units = i.units;
      acts = i.acts;
      serials = i.serials;
    }

-- a run that is never left but by a pause or its end
abbrev pub never_in : {R : Type 0} → Image → Aims R
never_in i = never (limits_of (surroundings_of i))

abbrev pub start_point : Image → Point
start_point i =
    first_point run_keeper (layout_in (first_version (4 * length i.code)))
    (first_places (first_version (4 * length i.code)) i.signatures i.constants i.fills) i.input

-- all registers are 0, and memory is anything but for what is told of it
abbrev pub first_family : (first : List ℕ) → Services → Family
first_family first v b =
    record { machine = record { registers = λ r. 0; memory = first; pc = address b 0 }; services = v }

pub record IsStart (i : Image) (main : ℕ) (first : List ℕ) : Type 0 where
  pub linked : Linked i.links i.code 0 (start_of main)
  pub differ : AllDiffer i.signatures
  pub bytes : length first ≡ memory_size
  -- what is told of static data stands behind the code, before the stacks
  pub told : AreTold i.constants (4 * length i.code) image_parts.stack_start first

-- no number waits in a register yet
abbrev pub no_numbers : ℕ → ℕ
no_numbers n = 0

-- ---- the law

pub record ImagesStart : Type 0 where
  pub comes :
      (i : Image) (main : ℕ) (first : List ℕ) (credits : ℕ) → IsStart i main first →
      Reach i.code credits (first_family first (services_of (start_point i))) (services_of (start_point i))
      (credits + call_index) (services_of (start_point i))
      (λ b y. IsIn (surroundings_of i) (start_point i) no_numbers call_index b y × (value y.machine a2 ≡ 0))
  pub stands :
      (i : Image) (main : ℕ) (first : List ℕ) → IsStart i main first →
      Stands (surroundings_of i) (start_point i) × IsImage (surroundings_of i) i.code (start_point i)
