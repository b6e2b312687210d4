-- What a run shows to the outside, shared by the storage machine and by the services of images: it changes only at an act.
use Rattle.std.specs.Prelude.{ℕ, ◌+◌, List, [], ◌∷◌, ◌++◌}
use Rattle.pli_language.specs.declared.condition.Condition.{Condition}
use Rattle.pli_meaning.specs.declared.outcome.End.{End}
use Rattle.pli_meaning.specs.declared.outcome.End.TheVariants.{Running}
use Rattle.pli_meaning.specs.Stream.{finished}

-- a condition with its code, as it was raised
abbrev pub Raised : Type 0
Raised = Condition × ℕ

-- the acts done, the bytes written, the conditions raised, and how the run stands
pub record World : Type 0 where
  pub acts : ℕ
  pub output : List ℕ
  pub raised : List Raised
  pub end : End

abbrev pub first_world : World
first_world = record { acts = 0; output = []; raised = []; end = Running }

-- ---- acts

-- an act that shows nothing
abbrev pub counted : World → World
counted w = record w { acts = w.acts + 1 }

-- an act that writes: what becomes of the output
abbrev pub written : (List ℕ → List ℕ) → World → World
written item w = record w { acts = w.acts + 1; output = item w.output }

-- an act that raises a condition
abbrev pub raising : Condition → ℕ → World → World
raising c code w = record w { acts = w.acts + 1; raised = w.raised ++ (c, code) ∷ [] }

-- the act that ends the run; an unfinished last line is finished
abbrev pub ending : End → World → World
ending end w = record w { acts = w.acts + 1; output = finished w.output; end = end }
