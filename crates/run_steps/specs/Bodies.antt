-- What holds of a machine between two pieces of code, and single pieces: constants, loads, stores and sums with a
-- displacement of any size. What stands in memory is a parameter, so that pieces of expressions know nothing of it
-- but their temporaries.
use Rattle.std.specs.Prelude.{◌≡◌, ℕ, zero, suc, ◌+◌, ◌*◌, ◌%◌, ◌^◌, ◌<◌, ◌≤◌, List, [], ◌∷◌, length}
use Rattle.std.specs.Prelude.{Bool, ℤ, cond}
use Rattle.rv_meaning.specs.declared.instr.Instr.{Instr}
use Rattle.rv_meaning.specs.declared.instr.Instr.TheVariants as I
use Rattle.rv_meaning.specs.declared.instr.Register.{Register}
use Rattle.rv_meaning.specs.Words.{word, sum}
use Rattle.rv_meaning.specs.Machine.{memory_size, written}
use Rattle.pli_serving.specs.ServiceState.{Services}
use Rattle.pli_coding.specs.Registers.{far_register}
use Rattle.pli_coding.specs.Assembly.{Code, Plain}
use Rattle.pli_coding.specs.Instructions.{add, displaced}
use Rattle.pli_coding.specs.Linking.{Links, upper_part, lower_part}
use Rattle.image_runs.specs.Runs.{Whole}
use Rattle.run_steps.specs.Engine.{Base, address}
use Rattle.run_steps.specs.Items.{Items}

-- ---- the ground on which code of a block stands

-- the running frame, the first free byte of the upper stack, the words for temporaries below the frame, and what
-- stands in memory where these words hold something
pub record Ground : Type 1 where
  pub frame : ℕ
  pub free : ℕ
  pub words : ℕ
  pub memory : (temporaries : ℕ → ℕ) → Base → List ℕ → Type 0
  pub whole : frame % 4 ≡ 0
  pub above_code : 2 ^ 22 + 4 * words ≤ frame
  pub inside : frame + 4 ≤ memory_size

-- the registers that no scratch use changes: zero, the stack, the frame, and those that hold temporaries
abbrev pub reserved : (ℕ → ℕ) → List ℕ
reserved x = x 0 ∷ x 2 ∷ x 8 ∷ x 9 ∷ x 18 ∷ x 19 ∷ x 20 ∷ x 21 ∷ x 22 ∷ x 23 ∷ []

abbrev pub reserved_are : Base → Ground → (held : ℕ → ℕ) → List ℕ
reserved_are b g h =
    0 ∷ (b.at + g.free) ∷ (b.at + g.frame) ∷ h 0 ∷ h 1 ∷ h 2 ∷ h 3 ∷ h 4 ∷ h 5 ∷ h 6 ∷ []

pub record Body (g : Ground) (b : Base) (v : Services) (h t : ℕ → ℕ) (w : Whole) : Type 0 where
  pub services : w.services ≡ v
  pub registers : reserved w.machine.registers ≡ reserved_are b g h
  pub bytes : length w.machine.memory ≡ memory_size
  pub memory : g.memory t b w.machine.memory

abbrev pub nth : ℕ → List ℕ → ℕ
nth n [] = 0
nth zero (x ∷ xs) = x
nth (suc n) (x ∷ xs) = nth n xs

-- ---- registers that are known beside these

abbrev pub Regs : List (ℕ × ℕ) → (ℕ → ℕ) → Type 0
Regs [] x = Unit {0}
Regs (r ∷ rs) x = (x r.0 ≡ r.1) × Regs rs x

pub record Known (g : Ground) (v : Services) (h t : ℕ → ℕ) (rs : Base → List (ℕ × ℕ)) (b : Base)
    (w : Whole) : Type 0 where
  pub body : Body g b v h t w
  pub regs : Regs (rs b) w.machine.registers

-- a register may be written without harm to what is reserved and known
pub record Free (rs : Base → List (ℕ × ℕ)) (r : ℕ) : Type 0 where
  pub reserved_stay : (x : ℕ → ℕ) (u : ℕ) → reserved (written x r u) ≡ reserved x
  pub known_stay : (b : Base) (x : ℕ → ℕ) (u : ℕ) → Regs (rs b) x → Regs (rs b) (written x r u)
  pub set : (x : ℕ → ℕ) (u : ℕ) → written x r u r ≡ u

abbrev pub with' : ℕ → (Base → ℕ) → (Base → List (ℕ × ℕ)) → Base → List (ℕ × ℕ)
with' r u rs b = (r, u b) ∷ rs b

-- ---- a register and a displacement

-- a register that keeps its value while the one for far places is written
abbrev pub IsNear : ℕ → Type 0
IsNear r = (x : ℕ → ℕ) (u : ℕ) → written x 31 u r ≡ x r

-- what one instruction with a displacement does, at its address
abbrev pub far_code : (Register → ℤ → Instr) → Register → ℤ → Bool → Code
far_code instruction r z q =
    cond q (Plain (instruction r z) ∷ [])
    (Plain (I.LoadUpper far_register (upper_part (word z))) ∷ add far_register far_register r ∷ Plain
    (instruction far_register (lower_part (word z))) ∷ [])

-- a displaced instruction does what it does at any register and displacement with the same sum
pub record Displaced (links : Links) (code : List Instr) (instruction : Register → ℤ → Instr)
    (P : Base → Whole → Type 0) (Q : Base → Whole → Type 0) (y : Base → ℕ) (z : ℤ) : Type 0 where
  pub does : (b : Base) (j : ℕ) (w : Whole) (r : Register) (d : ℤ) → P b w →
      sum (w.machine.registers r.index) (word d) ≡ sum (y b) (word z) →
      Items links code b j (Plain (instruction r d) ∷ []) w (Q b)
  pub lost : (b : Base) (w : Whole) (u i : ℕ) → P b w →
      P b (record {
        machine = record
            { registers = written w.machine.registers 31 u; memory = w.machine.memory; pc = i };
        services = w.services;
      })

-- a place of memory at a displacement from another place
pub record PlaceFrom (base : ℕ) (z : ℤ) (o : ℕ) : Type 0 where
  pub small' : word z < 2 ^ 32
  pub sums : (b : Base) → sum (b.at + base) (word z) ≡ b.at + o
  pub aligned : o % 4 ≡ 0
  pub inside : o + 4 ≤ memory_size
  pub above_code : 2 ^ 22 ≤ o

-- from the frame
abbrev pub PlaceOf : Ground → ℤ → ℕ → Type 0
PlaceOf g z o = PlaceFrom g.frame z o
