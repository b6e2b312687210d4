use Rattle.std.proofs.Common.{◌≡◌, ◌+◌, ◌-◌, [], ◌∷◌, length, map, ap, sym, subst, ◌∙◌, arith}
use Rattle.std.proofs.lemmas.List.{length-append, length-map}
use Rattle.pli_typing.specs.TypedStatementView.{member_of}
use Rattle.rv_data.specs.Shapes.{AreNodes}
use Rattle.rv_data.proofs.Told.{one_more_told}
use Rattle.rv_data.proofs.shape.nodes_of.Goals as goal

pub node_of-requires-clause-told : goal.node_of-requires-clause-told
node_of-requires-clause-told c = subst (λ xs. AreNodes (map member_of c.args.members.now) xs) (sym c.deref.ensures.value) c.loop-left.invariant.told

pub loop-left-preserved : goal.loop-left-preserved
loop-left-preserved c =
    let v = c.loop-left.invariant in
    let nodes = c.loop-left.nodes.items in
    let same : length (map member_of c.args.members.now) ≡ length c.args.members.now = length-map c.args.members.now member_of in
    let long : length c.push.new.self.items ≡ length nodes + 1 = ap length c.in_ok-push.ensures.items ∙ length-append nodes (c.in_ok-node.node ∷ []) in
    record {
      told = one_more_told (map member_of c.args.members.now) nodes c.push.new.self.items c.in_ok-node.node (c.loop-left.left - 1) v.told c.in_ok-node.ensures (omega (arith, same, v.count)) c.in_ok-push.ensures.items;
      count = omega (arith, v.count, long);
    }
