-- The headline of the worked row with two arguments: a variable by reference, and a copy.
use Rattle.pli_coding.specs.Images.{picture_of}
use Rattle.pli_coding.specs.SignatureTable.{table_of}
use Rattle.pli_headline.specs.Headline.{Headline, parts}
use Rattle.list_calls.specs.ListRows.{given_program}

abbrev pub ListKept : Type 0
ListKept = Headline given_program (picture_of parts given_program) (table_of given_program)
