use Rattle.std.proofs.Common.{map, sym}
use Rattle.pli_typing.specs.TypedStatementView.{member_of}
use Rattle.rv_data.proofs.Told.{node_told}
use Rattle.rv_data.proofs.shape.node_of.Goals as goal

pub returns : goal.returns
returns c =
    node_told (map member_of c.args.members.now) c.args.at (member_of c.in-Some.member) c.in_ok-inside.inside c.whole_node.result
    (sym c.in-Some.ensures) c.in_ok-inside.ensures c.whole_node.ensures.inside c.whole_node.ensures.leaves c.whole_node.ensures.behind
