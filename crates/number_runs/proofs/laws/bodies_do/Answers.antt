use Rattle.number_runs.proofs.Homes.{none_raised}
use Rattle.number_runs.proofs.Statements.{body_does, body_marked, form_does}
use Rattle.number_runs.proofs.Gets.{reads_known}
use Rattle.number_runs.proofs.Puts.{puts_known}
use Rattle.number_runs.proofs.Unraised.{around_texts_end}
use Rattle.number_runs.proofs.laws.bodies_do.Goals as goal

pub returns : goal.returns
returns c =
    record {
      statement = form_does;
      each = body_does;
      marked = body_marked;
      unraised = none_raised;
      written = puts_known;
      read = reads_known;
      texts = around_texts_end;
    }
