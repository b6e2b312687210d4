use Rattle.std.proofs.Common.{◌≡◌, ◌++◌, map}
use Rattle.pli_typing.specs.References.{all_operands}
use Rattle.pli_operand.specs.Shown.{operand_of}
use Rattle.pli_reference.specs.Shown.{named_of}
use Rattle.pli_reference.proofs.names.all_operands.Given as goal

abbrev pub invariant-loop-n : goal.invariant-loop-n
invariant-loop-n l = map operand_of l.out.items ++ all_operands (map named_of l.n-iterator.rest.items) ≡ all_operands (map named_of l.fn.names.items)
