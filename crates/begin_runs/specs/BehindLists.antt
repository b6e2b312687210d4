-- Behind a list: a block goes on with the units that it has by then.
use Rattle.std.specs.Prelude.{ℕ}
use Rattle.pli_meaning.specs.StorageState.{State}
use Rattle.pli_serving.specs.ServiceState.{Services}
use Rattle.activation_relation.specs.Landing.{closed}
use Rattle.activation_relation.specs.Layers.{Point}
use Rattle.run_steps.specs.Reach.{Aims, Family}
use Rattle.program_runs.specs.Statements.{Block, GoesOn, IsBegun, JumpsOut, ReturnsTo}
use Rattle.block_runs.specs.Machines.{limits_of}

-- a block may have other units than it had at its first statement, and so another first point
abbrev pub from_point : Block → Point → Block
from_point k first = record k { first = first }

pub record GoesBehind (k : Block) (acts index wanted credits : ℕ) (f : Family) (v : Services) (s : State) : Type 0
  where
    pub first : Point
    pub begun : IsBegun (from_point k first)
    pub goes : GoesOn (from_point k first) acts index wanted credits f v s

-- behind its list, out of it by GOTO, or at the end of its procedure
abbrev pub list_aims : Block → (acts index wanted left' : ℕ) → Aims (Unit {0})
list_aims k acts index wanted left' =
    record {
      limits = limits_of k.call.surroundings;
      done = λ c f v r s. GoesBehind k acts index wanted c f v s;
      jumped = λ c f v height label s.
          JumpsOut k.call.surroundings k.call.code k.outers acts c f v height label (closed s);
      returned = λ c f v r s. ReturnsTo k left' c f v r s;
    }
