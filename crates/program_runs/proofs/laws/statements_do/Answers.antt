use Rattle.program_runs.proofs.Gotos.{goto_does}
use Rattle.program_runs.proofs.Statements.{null_does, return_does, stop_does}
use Rattle.program_runs.proofs.laws.statements_do.Goals as goal

pub returns : goal.returns
returns c = record { null = null_does; return = return_does; stop = stop_does; goto = goto_does }
