-- Runs of straight code: which conditions let a list of instructions run, and that it then does.
use Rattle.std.specs.Prelude.{◌≡◌, ℕ, suc, ◌+◌, ◌*◌, ◌%◌, ◌^◌, ◌≤◌, List, [], ◌∷◌, length, Some, slice_get}
use Rattle.rv_meaning.specs.declared.instr.Instr.{Instr}
use Rattle.rv_meaning.specs.declared.instr.Instr.TheVariants as I
use Rattle.rv_meaning.specs.Words.{word, sum, operated, immediate_operated, shift_operated}
use Rattle.rv_meaning.specs.Memory.{load, store}
use Rattle.rv_meaning.specs.Machine.{Loaded, memory_size, IsValidBase, written, load_width, extended, store_width}
use Rattle.pli_serving.specs.ServiceState.{Services}
use Rattle.pli_serving.specs.Answers.{Answer, Done}
use Rattle.pli_serving.specs.Finding.{Call}
use Rattle.run_keeper.specs.RunKeeper.{run_keeper}
use Rattle.image_runs.specs.Runs.{Whole, Runs, layout_of}
use Rattle.run_steps.specs.Unlimited.{serves, next, run_on}

-- a base at which programs run
pub record Base : Type 0 where
  pub at : ℕ
  pub valid : IsValidBase at

abbrev pub at_base : List Instr → Base → Loaded
at_base code b = record { base = b.at; code = code }

-- the instructions stand in the code from this index on
abbrev pub HasAt : List Instr → ℕ → List Instr → Type 0
HasAt code i [] = Unit {0}
HasAt code i (x ∷ xs) = (slice_get code i ≡ Some x) × HasAt code (suc i) xs

-- the address of an instruction by its index
abbrev pub address : Base → ℕ → ℕ
address b i = b.at + 4 * i

-- code that lies in the static part
abbrev pub most_code : ℕ
most_code = 2 ^ 20

-- ---- calls of services

-- a call, by its services and memory
abbrev pub call_at : List Instr → Services → List ℕ → Call
call_at code v m =
    record { keeper = run_keeper; layout = layout_of (4 * length code); services = v; memory = m }

-- what the service answers that a machine calls
unfoldable pub served : List Instr → Whole → Answer
served code w = serves (call_at code w.services w.machine.memory) w.machine.registers

-- ---- straight code

-- a machine with a value in a register, at the next instruction
abbrev pub with_register : Base → ℕ → Whole → ℕ → ℕ → Whole
with_register b i w r v =
    record {
      machine = record {
        registers = written w.machine.registers r v;
        memory = w.machine.memory;
        pc = address b (suc i);
      };
      services = w.services;
    }

abbrev pub with_memory : Base → ℕ → Whole → List ℕ → Whole
with_memory b i w m =
    record {
      machine = record { registers = w.machine.registers; memory = m; pc = address b (suc i) };
      services = w.services;
    }

abbrev pub with_answer : Base → ℕ → Whole → Services → List ℕ → ℕ → ℕ → Whole
with_answer b i w v m x y =
    record {
      machine = record {
        registers = written (written w.machine.registers 10 x) 11 y;
        memory = m;
        pc = address b (suc i);
      };
      services = v;
    }

-- a word lies at this distance from the base
pub record WordAt (b : Base) (addressed : ℕ) : Type 0 where
  pub offset : ℕ
  pub is : addressed ≡ b.at + offset
  pub aligned : offset % 4 ≡ 0
  pub inside : offset + 4 ≤ memory_size

-- what has to hold where one instruction runs, and what then holds
abbrev pub Steps : List Instr → Base → ℕ → Instr → Whole → (Whole → Type 0) → Type 0
Steps code b i (I.LoadUpper rd upper) w Q = Q (with_register b i w rd.index (upper * 2 ^ 12))
Steps code b i (I.AddUpperToPc rd upper) w Q = Q (with_register b i w rd.index (sum (address b i) (upper * 2 ^ 12)))
Steps code b i (I.Immediate op rd rs1 z) w Q = Q
    (with_register b i w rd.index (immediate_operated op (w.machine.registers rs1.index) (word z)))
Steps code b i (I.Shift op rd rs1 amount) w Q = Q
    (with_register b i w rd.index (shift_operated op (w.machine.registers rs1.index) amount))
Steps code b i (I.Registers op rd rs1 rs2) w Q = Q
    (with_register b i w rd.index (operated op (w.machine.registers rs1.index) (w.machine.registers rs2.index)))
Steps code b i (I.Load kind rd rs1 offset) w Q =
    (a : WordAt b (sum (w.machine.registers rs1.index) (word offset))) × Q
    (with_register b i w rd.index (extended kind (load (load_width kind) w.machine.memory a.offset)))
Steps code b i (I.Store kind rs1 rs2 offset) w Q =
    (a : WordAt b (sum (w.machine.registers rs1.index) (word offset))) × (4 * length code ≤ a.offset) × Q
    (with_memory b i w (store (store_width kind) w.machine.memory a.offset (w.machine.registers rs2.index)))
Steps code b i I.Ecall w Q =
    (v : Services) × (m : List ℕ) × (x : ℕ) × (y : ℕ) × (served code w ≡ Done v m x y) × Q (with_answer b i w v m x y)
Steps code b i _ w Q = ⊥

-- the same for a list of instructions
abbrev pub Path : List Instr → Base → ℕ → List Instr → Whole → (ℕ → Whole → Type 0) → Type 0
Path code b i [] w Q = Q i w
Path code b i (x ∷ xs) w Q = Steps code b i x w (λ w'. Path code b (suc i) xs w' Q)

-- one instruction has run
pub record Ran (code : List Instr) (b : Base) (i : ℕ) (w : Whole) (Q : Whole → Type 0) : Type 0 where
  pub after : Whole
  pub ran : next (at_base code b) w ≡ Runs after
  pub here : after.machine.pc ≡ address b (suc i)
  pub holds : Q after

-- straight code has run
pub record Passed (code : List Instr) (b : Base) (i : ℕ) (xs : List Instr) (w : Whole)
    (Q : ℕ → Whole → Type 0) : Type 0 where
  pub after : Whole
  pub ran : run_on (length xs) (at_base code b) (Runs w) ≡ Runs after
  pub here : after.machine.pc ≡ address b (i + length xs)
  pub holds : Q (i + length xs) after
