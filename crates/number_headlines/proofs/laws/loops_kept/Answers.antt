use Rattle.number_headlines.specs.LoopRows.{loops_program}
use Rattle.number_headlines.proofs.LoopRows.{loops_end, loops_fit, loops_program_is}
use Rattle.number_headlines.proofs.laws.loops_kept.Goals as goal

pub returns : goal.returns
returns c =
    record {
      headline = c.number_headlines_kept.ensures loops_program loops_program_is loops_fit;
      ends = loops_end;
    }
