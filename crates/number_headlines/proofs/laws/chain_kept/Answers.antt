use Rattle.number_headlines.specs.ChainRows.{chain_program}
use Rattle.number_headlines.proofs.ChainRows.{chain_end, chain_fit, chain_program_is}
use Rattle.number_headlines.proofs.laws.chain_kept.Goals as goal

pub returns : goal.returns
returns c =
    record {
      headline = c.number_headlines_kept.ensures chain_program chain_program_is chain_fit;
      ends = chain_end;
    }
