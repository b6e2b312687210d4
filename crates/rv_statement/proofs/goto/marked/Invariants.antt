use Rattle.std.proofs.Common.{◌≡◌, ◌++◌, map, drop}
use Rattle.pli_language.specs.View.{name_of}
use Rattle.pli_typing.specs.Resolving.{letters_of}
use Rattle.pli_coding.specs.Statements.{marked}
use Rattle.rv_statement.proofs.goto.marked.Given as goal

abbrev pub invariant-loop-label : goal.invariant-loop-label
invariant-loop-label l = l.code ++ marked l.block (letters_of (map name_of (drop l.label-index l.labels))) ≡ l.initial.code ++ marked l.block (letters_of (map name_of l.labels))
