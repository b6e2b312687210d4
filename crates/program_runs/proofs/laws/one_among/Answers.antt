use Rattle.program_runs.proofs.VariablesAmong.{only_among}
use Rattle.program_runs.proofs.laws.one_among.Goals as goal

pub returns : goal.returns
returns c = only_among
