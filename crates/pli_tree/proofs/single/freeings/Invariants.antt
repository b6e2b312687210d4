use Rattle.std.proofs.Common.{◌≡◌, ◌++◌, map, drop}
use Rattle.pli_typing.specs.Judging.{each}
use Rattle.pli_typing.specs.Generations as G
use Rattle.pli_typing.specs.TypedStatementView.{freeing_of}
use Rattle.pli_language.specs.View.{freeing_of as freed_of}
use Rattle.pli_operand.specs.Notes.{noted}
use Rattle.pli_operand.specs.Shown.{notes_of}
use Rattle.pli_reference.specs.Shown.{scope_of}
use Rattle.pli_tree.proofs.single.freeings.Given as goal

abbrev pub invariant-loop-one : goal.invariant-loop-one
invariant-loop-one l = record {
  noted : noted (notes_of l.notes) (each (G.freeing (scope_of l.scope) l.place) (map freed_of (drop l.one-index l.written))) ≡ noted (notes_of l.initial.notes) (each (G.freeing (scope_of l.scope) l.place) (map freed_of l.written));
  value : map freeing_of l.out.items ++ (each (G.freeing (scope_of l.scope) l.place) (map freed_of (drop l.one-index l.written))).value ≡ (each (G.freeing (scope_of l.scope) l.place) (map freed_of l.written)).value;
}
