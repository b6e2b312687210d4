use Rattle.run_steps.proofs.Growing as G
use Rattle.run_steps.proofs.laws.runs_grow.Goals as goal

pub returns : goal.returns
returns c = G.runs_grow
