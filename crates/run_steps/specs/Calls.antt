-- A call of a service that is about to be made, and the machine behind it.
use Rattle.std.specs.Prelude.{◌≡◌, ℕ, List, [], ◌∷◌}
use Rattle.rv_meaning.specs.declared.instr.Instr.{Instr}
use Rattle.rv_meaning.specs.declared.instr.Instr.TheVariants as I
use Rattle.rv_meaning.specs.Machine as M
use Rattle.pli_serving.specs.ServiceState.{Services}
use Rattle.pli_serving.specs.Answers.{Answer}
use Rattle.pli_coding.specs.Assembly.{Plain}
use Rattle.pli_coding.specs.Linking.{Links}
use Rattle.image_runs.specs.Runs.{Whole}
use Rattle.run_steps.specs.Engine.{Base, address, served}
use Rattle.run_steps.specs.Items.{Linked}
use Rattle.run_steps.specs.Reach.{Family}

-- a machine behind a call
abbrev pub behind : Base → ℕ → Whole → Services → List ℕ → ℕ → ℕ → Whole
behind b i w v m x y =
    record {
      machine = record
          { registers = M.written (M.written w.machine.registers 10 x) 11 y; memory = m; pc = address b i };
      services = v;
    }

-- a call is about to be made, with its answer at each base
pub record Calling (links : Links) (code : List Instr) (i : ℕ) (f : Family) (answer : Base → Answer) : Type 0 where
  pub linked : Linked links code i (Plain I.Ecall ∷ [])
  pub pc : (b : Base) → (f b).machine.pc ≡ address b i
  pub answers : (b : Base) → served code (f b) ≡ answer b
