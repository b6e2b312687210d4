use Rattle.number_headlines.specs.AlarmRows.{alarm_program}
use Rattle.number_headlines.proofs.AlarmRows.{alarm_ends, alarm_fits, alarm_program_is}
use Rattle.number_headlines.proofs.laws.alarm_kept.Goals as goal

pub returns : goal.returns
returns c =
    record {
      headline = c.number_headlines_kept.ensures alarm_program alarm_program_is alarm_fits;
      ends = alarm_ends;
    }
