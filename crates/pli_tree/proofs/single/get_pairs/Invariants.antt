use Rattle.std.proofs.Common.{◌≡◌, ◌++◌, map, drop}
use Rattle.pli_typing.specs.Judging.{each}
use Rattle.pli_typing.specs.SingleStatements as S
use Rattle.pli_typing.specs.TypedStatementView.{get_pair_of}
use Rattle.pli_language.specs.View.{edit_pair_of}
use Rattle.pli_operand.specs.Notes.{noted}
use Rattle.pli_operand.specs.Shown.{notes_of}
use Rattle.pli_reference.specs.Shown.{scope_of}
use Rattle.pli_tree.proofs.single.get_pairs.Given as goal

abbrev pub invariant-loop-pair : goal.invariant-loop-pair
invariant-loop-pair l = record {
  noted : noted (notes_of l.notes) (each (S.get_of (scope_of l.scope)) (map edit_pair_of (drop l.pair-index l.pairs))) ≡ noted (notes_of l.initial.notes) (each (S.get_of (scope_of l.scope)) (map edit_pair_of l.pairs));
  value : map get_pair_of l.out.items ++ (each (S.get_of (scope_of l.scope)) (map edit_pair_of (drop l.pair-index l.pairs))).value ≡ (each (S.get_of (scope_of l.scope)) (map edit_pair_of l.pairs)).value;
}
