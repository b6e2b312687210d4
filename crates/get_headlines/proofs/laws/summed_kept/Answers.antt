use Rattle.get_headlines.specs.Rows.{sum_program}
use Rattle.get_headlines.proofs.Rows.{sum_ends, sum_fails, sum_layout, sum_program_runs, sum_stops}
use Rattle.get_headlines.proofs.laws.summed_kept.Goals as goal

pub returns : goal.returns
returns c =
    record {
      kept = c.headlines_kept.ensures sum_program sum_layout sum_program_runs;
      ends = sum_ends;
      stops = sum_stops;
      fails = sum_fails;
    }
