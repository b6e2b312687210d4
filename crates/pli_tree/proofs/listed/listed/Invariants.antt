use Rattle.std.proofs.Common.{◌≡◌, vec_len}
use Rattle.std.specs.Prelude.{map}
use Rattle.pli_typing.specs.Resolving.{letters_of}
use Rattle.pli_typing.specs.TypedStatementView.{stmts_of}
use Rattle.pli_typing.specs.TypedTree as Y
use Rattle.pli_language.specs.View.{name_of}
use Rattle.pli_tree.specs.Shown.{part_of, parts_onto}
use Rattle.pli_tree.proofs.listed.listed.Given as goal

abbrev pub invariant-loop-part : goal.invariant-loop-part
invariant-loop-part l = parts_onto (map part_of l.parts.items) (stmts_of l.list) ≡ parts_onto (map part_of l.initial.parts.items) (Y.EndOfList (letters_of (map name_of l.labels)))

abbrev pub decreases-loop-part : goal.decreases-loop-part
decreases-loop-part l = vec_len l.parts
