use Rattle.program_runs.proofs.Names as P
use Rattle.program_runs.proofs.laws.names_told.Goals as goal

pub returns : goal.returns
returns c = record {
  comes = P.name_comes;
  stands = P.name_stands;
  begun_comes = P.begun_comes;
  begun_stands = P.begun_stands;
}
