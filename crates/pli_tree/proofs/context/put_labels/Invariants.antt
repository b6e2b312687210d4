use Rattle.std.proofs.Common.{◌≡◌, ◌++◌, ◌≤◌}
use Rattle.pli_typing.specs.SingleStatements.{labels_in}
use Rattle.pli_language.specs.View.{items_of}
use Rattle.pli_declare.proofs.Weights.{items_weight}
use Rattle.pli_tree.specs.Shown.{labels_of_groups}
use Rattle.pli_tree.proofs.context.put_labels.Given as goal

abbrev pub invariant-loop-rest : goal.invariant-loop-rest
invariant-loop-rest l = labels_of_groups l.out.items ++ labels_in (items_of l.rest) ≡ labels_of_groups l.fn.out.items ++ labels_in (items_of l.items)

abbrev pub decreases-loop-rest : goal.decreases-loop-rest
decreases-loop-rest l = items_weight l.rest
