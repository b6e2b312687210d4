use Rattle.number_headlines.specs.TextRows.{word_program}
use Rattle.number_headlines.proofs.TextRows.{word_ends, word_fits, word_program_is}
use Rattle.number_headlines.proofs.laws.word_kept.Goals as goal

pub returns : goal.returns
returns c =
    record {
      headline = c.number_headlines_kept.ensures word_program word_program_is word_fits;
      ends = word_ends;
    }
