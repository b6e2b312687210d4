use Rattle.std.proofs.Common.{◌≡◌, ◌-◌, suc, length, map, Some, refl, sym, ap, ◌∙◌, arith}
use Rattle.std.specs.Prelude.{slice_get}
use Rattle.std.proofs.lemmas.List.{length-map}
use Rattle.pli_typing.specs.TypedStatementView.{member_of}
use Rattle.rv_data.proofs.Told.{goes_further, next_sibling}
use Rattle.rv_data.proofs.shape.siblings.Goals as goal

pub loop-member-smaller : goal.loop-member-smaller
loop-member-smaller c =
    let same : length (map member_of c.args.members.now) ≡ length c.args.members.now = length-map c.args.members.now member_of in
    let there : slice_get c.args.nodes.now (length (map member_of c.args.members.now) - suc c.loop-member.node.behind) ≡ Some c.in_ok-next.next =
    ap (λ n. slice_get c.args.nodes.now (n - suc c.loop-member.node.behind)) same ∙ c.in_ok-next.ensures in
    let further = goes_further (map member_of c.args.members.now) c.args.nodes.now c.loop-member.node.behind c.in_ok-next.next (member_of c.in-Some.member) c.requires.told (sym c.in-Some.ensures) there in
    omega (arith, same, further.0, further.1)

pub loop-member-preserved : goal.loop-member-preserved
loop-member-preserved c =
    let same : length (map member_of c.args.members.now) ≡ length c.args.members.now = length-map c.args.members.now member_of in
    let there : slice_get c.args.nodes.now (length (map member_of c.args.members.now) - suc c.loop-member.node.behind) ≡ Some c.in_ok-next.next =
    ap (λ n. slice_get c.args.nodes.now (n - suc c.loop-member.node.behind)) same ∙ c.in_ok-next.ensures in
    next_sibling (map member_of c.args.members.now) c.args.nodes.now c.args.depth c.args.start c.loop-member.node c.in_ok-next.next _ (member_of c.in-Some.member)
    c.requires.told (sym c.in-Some.ensures) (omega (arith, c.if-member-depth.false)) there c.loop-member.invariant c.in_ok-sum.ensures c.in_ok-sum-2.ensures refl
