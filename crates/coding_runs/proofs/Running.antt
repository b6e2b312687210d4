-- Images run in a short memory: the machine's steps, with the services over a keeper of areas, the chain or another.
use Rattle.std.proofs.Common.{ℕ, zero, suc, ◌+◌, ◌-◌, ◌*◌, List, [], ◌∷◌, ◌++◌, length, replicate}
use Rattle.std.specs.Prelude.{slice_index}
use Rattle.rv_meaning.specs.Machine.{Loaded, State, Effect, Goes, Faults, Calls, effect, written}
use Rattle.rv_meaning.specs.Words.{sum}
use Rattle.pli_meaning.specs.declared.outcome.End.{End}
use Rattle.pli_meaning.specs.World.{World, Raised}
use Rattle.pli_typing.specs.TypedTree as Y
use Rattle.area_keeper.specs.Keeper.{Keeper}
use Rattle.area_keeper.specs.Chain.{chain}
use Rattle.pli_serving.specs.Bytes.{Layout}
use Rattle.pli_serving.specs.ServiceState.{Services, first_services}
use Rattle.pli_serving.specs.Answers.{Answer, Done, Ends, Bad}
use Rattle.pli_serving.specs.Serving.{serves}
use Rattle.pli_coding.specs.Assembly.{Code}
use Rattle.pli_coding.specs.Linking.{data_start, data_bytes}
use Rattle.pli_typing.specs.Signatures.{rounded_up}
use Rattle.pli_coding.specs.Frames.{MemoryParts}
use Rattle.pli_coding.specs.SignatureTable.{table_of}
use Rattle.pli_coding.specs.Images.{picture_of_code, code_of}
use Rattle.pli_meaning.specs.Pictures.{Picture}

-- how areas are kept, and where things lie: the stacks, and the heap with its capacity, up to the end
pub record Short : Type 0 where
  pub keeper : Keeper
  pub stack_start : ℕ
  pub stack_end : ℕ
  pub heap_capacity : ℕ

abbrev pub short : Keeper → (stack_start stack_end heap_capacity : ℕ) → Short
short k stack_start stack_end heap_capacity =
    record { keeper = k; stack_start = stack_start; stack_end = stack_end; heap_capacity = heap_capacity }

abbrev pub parts_of : Short → MemoryParts
parts_of m = record { stack_start = m.stack_start; stack_end = m.stack_end; area_bytes = m.keeper.bytes_for }

-- right behind a program's code and data: room for the stacks, and a heap. With other places the code is no longer.
abbrev pub data_end : Code → ℕ
data_end code = rounded_up 16 (data_start code + length (data_bytes code))

abbrev pub fitted_by : Keeper → Y.Program → (room heap_capacity : ℕ) → Short
fitted_by k p room heap_capacity =
    let start = data_end (code_of (parts_of (short k 65536 131072 0)) p) in short k start (start + room) heap_capacity

abbrev pub fitted : Y.Program → (room heap_capacity : ℕ) → Short
fitted = fitted_by chain

abbrev pub end_of : Short → ℕ
end_of m = m.stack_end + m.keeper.bytes_for m.heap_capacity

abbrev pub layout_of : Short → (code_bytes : ℕ) → Layout
layout_of m code_bytes = record { code_bytes = code_bytes; heap_at = m.stack_end; heap_capacity = m.heap_capacity; end = end_of m }

-- ---- registers as a list, so that a long run reads them as quickly as a short one

abbrev pub listed : (count : ℕ) → (ℕ → ℕ) → ℕ → List ℕ
listed zero x i = []
listed (suc n) x i = x i ∷ listed n x (suc i)

abbrev pub tabulated : (ℕ → ℕ) → ℕ → ℕ
tabulated x = let xs = listed 32 x 0 in λ i. slice_index xs i

-- ---- runs

pub record Machine : Type 0 where
  pub state : State
  pub services : Services

pub data Outcome : Type 0 where
  Running : Machine → Outcome
  Ended : Services → Outcome
  Failed : (place : ℕ) → Outcome

abbrev pub base : ℕ
base = 65536

abbrev pub behind_call : State → List ℕ → (x y : ℕ) → State
behind_call s m x y = record { registers = tabulated (written (written s.registers 10 x) 11 y); memory = m; pc = sum s.pc 4 }

abbrev pub answered : State → Answer → Outcome
answered s (Done v m x y) = Running (record { state = behind_call s m x y; services = v })
answered s (Ends v) = Ended v
answered s Bad = Failed s.pc

abbrev pub stepped_to : Keeper → Layout → Machine → Effect → Outcome
stepped_to k layout m (Goes s) =
    Running (record { state = record { registers = tabulated s.registers; memory = s.memory; pc = s.pc }; services = m.services })
stepped_to k layout m (Faults f) = Failed m.state.pc
stepped_to k layout m Calls =
    answered m.state
    (serves (record { keeper = k; layout = layout; services = m.services; memory = m.state.memory }) m.state.registers)

abbrev pub run_on : ℕ → Keeper → Layout → Loaded → Outcome → Outcome
run_on zero k layout p (Running m) = Running m
run_on (suc n) k layout p (Running m) = run_on n k layout p (stepped_to k layout m (effect p m.state))
run_on n k layout p (Ended v) = Ended v
run_on n k layout p (Failed place) = Failed (place - base)

-- ---- what is shown

pub record Shown : Type 0 where
  pub acts : ℕ
  pub output : List ℕ
  pub raised : List Raised
  pub end : End

abbrev pub shown_in : World → Shown
shown_in w = record { acts = w.acts; output = w.output; raised = w.raised; end = w.end }

pub data Seen : Type 0 where
  Shows : Shown → Seen
  Fails : (place : ℕ) → Seen

abbrev pub seen : Outcome → Seen
seen (Running m) = Shows (shown_in m.services.world)
seen (Ended v) = Shows (shown_in v.world)
seen (Failed place) = Fails place

-- the code's own bytes are never read
abbrev pub first_machine : Short → Y.Program → (code : Code) → Picture → (input : List ℕ) → Machine
first_machine m program code image input =
    record {
      state =
          record {
            registers = tabulated (λ i. 0);
            memory =
                replicate (data_start code) 0
                ++ (image.statics ++ replicate (end_of m - (data_start code + length image.statics)) 0);
            pc = base;
          };
      services = first_services (table_of program) input;
    }

abbrev pub run_image : Short → (instructions : ℕ) → Y.Program → (input : List ℕ) → (code : Code) → Picture → Seen
run_image m n program input code image =
    seen
    (run_on n m.keeper (layout_of m (4 * length image.code)) (record { base = base; code = image.code })
    (Running (first_machine m program code image input)))

abbrev pub run_of : Short → (instructions : ℕ) → Y.Program → (input : List ℕ) → Seen
run_of m n program input = let code = code_of (parts_of m) program in run_image m n program input code (picture_of_code code)
