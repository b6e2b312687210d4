-- How the values of the code show turns.
use Rattle.std.specs.Prelude.{Some, Result, Ok, Err}
use Rattle.pli_language.specs.declared.fault.SourceFault.{SourceFault}
use Rattle.pli_language.specs.declared.stmt.Tree.{Tree}
use Rattle.pli_language.specs.Tree as T
use Rattle.pli_language.specs.View.{tree_of}
use Rattle.pli_nest.specs.View.{nest_of}
use Rattle.pli_parse.specs.Answers.{Step, On, Ends}
use Rattle.pli_parse.specs.declared.turn.Turn.{Turn}
use Rattle.pli_parse.specs.declared.turn.Turn.TheVariants as X

abbrev pub answer_of : Result Tree SourceFault → Result T.Tree SourceFault
answer_of (Ok tree) = Ok (tree_of tree)
answer_of (Err f) = Err f

abbrev pub step_of : Turn → Step
step_of (X.On nest rest found) = On (nest_of nest) rest.now found
step_of (X.Ends a) = Ends (Some (answer_of a))
