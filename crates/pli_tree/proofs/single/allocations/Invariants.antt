use Rattle.std.proofs.Common.{◌≡◌, ◌++◌, map, drop}
use Rattle.pli_typing.specs.Judging.{each}
use Rattle.pli_typing.specs.Generations as G
use Rattle.pli_typing.specs.TypedStatementView.{allocation_of}
use Rattle.pli_language.specs.View.{allocation_of as made_of}
use Rattle.pli_operand.specs.Notes.{noted}
use Rattle.pli_operand.specs.Shown.{notes_of}
use Rattle.pli_reference.specs.Shown.{scope_of}
use Rattle.pli_tree.proofs.single.allocations.Given as goal

abbrev pub invariant-loop-one : goal.invariant-loop-one
invariant-loop-one l = record {
  noted : noted (notes_of l.notes) (each (G.allocation (scope_of l.scope) l.place) (map made_of (drop l.one-index l.written))) ≡ noted (notes_of l.initial.notes) (each (G.allocation (scope_of l.scope) l.place) (map made_of l.written));
  value : map allocation_of l.out.items ++ (each (G.allocation (scope_of l.scope) l.place) (map made_of (drop l.one-index l.written))).value ≡ (each (G.allocation (scope_of l.scope) l.place) (map made_of l.written)).value;
}
