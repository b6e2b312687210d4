use Rattle.std.proofs.Common.{map, sym, subst}
use Rattle.pli_typing.specs.TypedStatementView.{member_of}
use Rattle.rv_data.specs.Shapes.{AreNodes}
use Rattle.rv_data.proofs.shape.shape_datum.Goals as goal

pub part_found-requires : goal.part_found-requires
part_found-requires c = record { told = subst (λ xs. AreNodes (map member_of c.args.members.now) xs) (sym c.deref.ensures.value) c.in_ok-nodes.ensures }

pub put_part-requires : goal.put_part-requires
put_part-requires c = record { told = subst (λ xs. AreNodes (map member_of c.args.members.now) xs) (sym c.deref-in-Some.ensures.value) c.in_ok-nodes.ensures }
