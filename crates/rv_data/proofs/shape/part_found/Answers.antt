use Rattle.std.proofs.Common.{◌≡◌, ◌-◌, suc, length, map, sym, ap, ◌∙◌, arith}
use Rattle.std.specs.Prelude.{slice_get}
use Rattle.std.proofs.lemmas.List.{length-map}
use Rattle.pli_typing.specs.TypedView.{part_of}
use Rattle.pli_typing.specs.TypedStatementView.{member_of}
use Rattle.rv_data.proofs.Told.{in_list, node_is}
use Rattle.rv_data.proofs.Parts.{member_found, search_ends, search_passes, sibling_next}
use Rattle.rv_data.proofs.shape.part_found.Goals as goal

pub loop-member-smaller-then-behind-part : goal.loop-member-smaller-then-behind-part
loop-member-smaller-then-behind-part c =
    let ms = map member_of c.args.members.now in
    let same : length (map member_of c.args.members.now) ≡ length c.args.members.now = length-map c.args.members.now member_of in
    let inside = in_list ms c.loop-member.at (member_of c.in-Some.member) (sym c.in-Some.ensures) in
    let is = node_is ms c.args.nodes.now c.loop-member.at c.in_ok-node.node (member_of c.in-Some.member) c.requires.told (sym c.in-Some.ensures) (ap (λ n. slice_get c.args.nodes.now (n - suc c.loop-member.at)) same ∙ c.in_ok-node.ensures) in
    omega (arith, same, inside, is.further)

pub loop-member-preserved-then-behind-part : goal.loop-member-preserved-then-behind-part
loop-member-preserved-then-behind-part c = λ given.
    let ms = map member_of c.args.members.now in
    let same : length (map member_of c.args.members.now) ≡ length c.args.members.now = length-map c.args.members.now member_of in
    let is = node_is ms c.args.nodes.now c.loop-member.at c.in_ok-node.node (member_of c.in-Some.member) c.requires.told (sym c.in-Some.ensures) (ap (λ n. slice_get c.args.nodes.now (n - suc c.loop-member.at)) same ∙ c.in_ok-node.ensures) in
    sibling_next (part_of c.args.part) ms given c.loop-member.dimensions c.loop-member.leaf c.loop-member.at c.in_ok-behind.behind c.loop-member.limit c.loop-member.found (member_of c.in-Some.member) c.in_ok-node.node
    (sym c.in-Some.ensures) (sym c.is_past.ensures ∙ c.if-is_past.false) is c.in_ok-behind.ensures c.if-behind-part.true
    ∙ c.loop-member.invariant given

pub loop-member-preserved : goal.loop-member-preserved
loop-member-preserved c = λ given.
    let ms = map member_of c.args.members.now in
    let same : length (map member_of c.args.members.now) ≡ length c.args.members.now = length-map c.args.members.now member_of in
    let is = node_is ms c.args.nodes.now c.loop-member.at c.in_ok-node.node (member_of c.in-Some.member) c.requires.told (sym c.in-Some.ensures) (ap (λ n. slice_get c.args.nodes.now (n - suc c.loop-member.at)) same ∙ c.in_ok-node.ensures) in
    member_found (part_of c.args.part) ms given c.loop-member.dimensions c.loop-member.leaf c.loop-member.at c.in_ok-behind.behind c.in_ok-dimensions.dimensions c.in_ok-at.at c.loop-member.limit c.loop-member.found c.found_at-found.result
    (member_of c.in-Some.member) c.in_ok-node.node (sym c.in-Some.ensures) (sym c.is_past.ensures ∙ c.if-is_past.false) is c.in_ok-behind.ensures (omega (arith, c.if-behind-part.false))
    c.in_ok-dimensions.ensures c.in_ok-at.ensures c.found_at-found.ensures
    ∙ c.loop-member.invariant given

pub returns-then-is_past : goal.returns-then-is_past
returns-then-is_past c = λ given.
    sym (search_passes (part_of c.args.part) (map member_of c.args.members.now) given c.loop-member.dimensions c.loop-member.leaf c.loop-member.at c.loop-member.limit c.loop-member.found (member_of c.in-Some.member)
    (sym c.in-Some.ensures) (sym c.is_past.ensures ∙ c.if-is_past.true))
    ∙ c.loop-member.invariant given

pub returns-in_default : goal.returns-in_default
returns-in_default c = λ given.
    sym (search_ends (part_of c.args.part) (map member_of c.args.members.now) given c.loop-member.dimensions c.loop-member.leaf c.loop-member.at c.loop-member.limit c.loop-member.found (sym c.in_default.ensures))
    ∙ c.loop-member.invariant given
