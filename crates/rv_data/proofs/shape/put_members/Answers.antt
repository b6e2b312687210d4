use Rattle.std.proofs.Common.{◌≡◌, ◌-◌, ◌++◌, suc, drop, length, map, sym, ap, ◌∙◌, append-nil, arith}
use Rattle.std.specs.Prelude.{slice_get}
use Rattle.std.proofs.lemmas.List.{length-map}
use Rattle.rv_meaning.specs.Memory.{bytes_of_words}
use Rattle.pli_typing.specs.TypedStatementView.{member_of}
use Rattle.pli_meaning.specs.StreamOrder.{deeper, nest_of}
use Rattle.pli_coding.specs.StaticForms.{nest_words}
use Rattle.rv_data.proofs.Told.{node_is}
use Rattle.rv_data.proofs.Parts.{member_put, members_end, members_left}
use Rattle.rv_data.proofs.shape.put_members.Goals as goal

pub loop-member-preserved : goal.loop-member-preserved
loop-member-preserved c =
    let ms = map member_of c.args.members.now in
    let same : length (map member_of c.args.members.now) ≡ length c.args.members.now = length-map c.args.members.now member_of in
    let is = node_is ms c.args.nodes.now c.loop-member.at c.in_ok-node.node (member_of c.in-Some.member) c.requires.told (sym c.in-Some.ensures) (ap (λ n. slice_get c.args.nodes.now (n - suc c.loop-member.at)) same ∙ c.in_ok-node.ensures) in
    ap (λ k. c.put_triple.new.bytes.items ++ bytes_of_words (nest_words c.in_ok-leaf.leaf (deeper c.args.depth (nest_of (drop k (map member_of c.args.members.now)))))) c.in_ok-at-2.ensures
    ∙ member_put c.loop-member.bytes.items c.put_triple.new.bytes.items ms c.args.depth c.loop-member.leaf c.loop-member.at c.in_ok-leaf.leaf (member_of c.in-Some.member) c.in_ok-node.node
    (sym c.in-Some.ensures) (omega (arith, c.if-member-depth.false)) is c.in_ok-put_triple.ensures c.in_ok-leaf.ensures
    ∙ c.loop-member.invariant

pub returns-then-member-depth : goal.returns-then-member-depth
returns-then-member-depth c =
    sym (append-nil c.loop-member.bytes.items)
    ∙ ap (λ u. c.loop-member.bytes.items ++ u) (sym (members_left (map member_of c.args.members.now) c.args.depth c.loop-member.leaf c.loop-member.at (member_of c.in-Some.member) (sym c.in-Some.ensures) c.if-member-depth.true))
    ∙ c.loop-member.invariant

pub returns-in_default : goal.returns-in_default
returns-in_default c =
    sym (append-nil c.loop-member.bytes.items)
    ∙ ap (λ u. c.loop-member.bytes.items ++ u) (sym (members_end (map member_of c.args.members.now) c.args.depth c.loop-member.leaf c.loop-member.at (sym c.in_default.ensures)))
    ∙ c.loop-member.invariant
