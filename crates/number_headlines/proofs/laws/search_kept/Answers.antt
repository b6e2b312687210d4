use Rattle.number_headlines.specs.SearchRows.{search_program}
use Rattle.number_headlines.proofs.SearchRows.{search_ends, search_fits, search_program_is}
use Rattle.number_headlines.proofs.laws.search_kept.Goals as goal

pub returns : goal.returns
returns c =
    record {
      headline = c.number_headlines_kept.ensures search_program search_program_is search_fits;
      ends = search_ends;
    }
