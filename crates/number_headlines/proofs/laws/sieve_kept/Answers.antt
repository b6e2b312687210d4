use Rattle.number_headlines.specs.ArrayRows.{sieve_program}
use Rattle.number_headlines.proofs.ArrayRows.{sieve_ends, sieve_fits, sieve_program_is}
use Rattle.number_headlines.proofs.laws.sieve_kept.Goals as goal

pub returns : goal.returns
returns c =
    record {
      headline = c.number_headlines_kept.ensures sieve_program sieve_program_is sieve_fits;
      ends = sieve_ends;
    }
