-- What the answer of a service leaves of what was shown: output and raised conditions go on behind it, acts only grow.
use Rattle.pli_meaning.specs.Laws.{Extends}
use Rattle.pli_serving.specs.ServiceState.{Services}
use Rattle.pli_serving.specs.Answers.{Answer, Done, Ends, Bad}
use Rattle.pli_serving.specs.Finding.{Call}
use Rattle.pli_serving.specs.Serving.{serves}
use Rattle.std.specs.Prelude.{ℕ}

abbrev pub IsContinued : Services → Answer → Type 0
IsContinued v (Done v' m x y) = Extends v.world v'.world
IsContinued v (Ends v') = Extends v.world v'.world
IsContinued v Bad = Unit {0}

pub record Continues (v : Services) (a : Answer) : Type 0 where
  pub is : IsContinued v a

-- of all 41 services, whatever their arguments
abbrev pub ServicesContinue : Type 0
ServicesContinue = (c : Call) (registers : ℕ → ℕ) → Continues c.services (serves c registers)
