-- The headline of the worked row of PUT SKIP.
use Rattle.pli_coding.specs.Images.{picture_of}
use Rattle.pli_coding.specs.SignatureTable.{table_of}
use Rattle.pli_headline.specs.Headline.{Headline, parts}
use Rattle.edit_runs.specs.SkipRows.{ruled_program}

abbrev pub RuledKept : Type 0
RuledKept = Headline ruled_program (picture_of parts ruled_program) (table_of ruled_program)
