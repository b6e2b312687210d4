use Rattle.std.proofs.Common.{◌≡◌, ◌-◌, ◌++◌, [], ◌∷◌, suc, length, map, sym, ap, ◌∙◌}
use Rattle.std.specs.Prelude.{slice_get}
use Rattle.std.proofs.lemmas.List.{length-map}
use Rattle.rv_meaning.specs.Memory.{bytes_of_words}
use Rattle.pli_typing.specs.TypedStatementView.{member_of}
use Rattle.rv_data.proofs.Told.{node_is}
use Rattle.rv_data.proofs.Parts.{part_put}
use Rattle.rv_data.proofs.shape.put_part.Goals as goal

pub returns : goal.returns
returns c =
    let ms = map member_of c.args.members.now in
    let same : length (map member_of c.args.members.now) ≡ length c.args.members.now = length-map c.args.members.now member_of in
    let is = node_is ms c.args.nodes.now c.args.found.member c.in_ok-node.node (member_of c.in-Some.member) c.requires.told (sym c.in-Some.ensures) (ap (λ n. slice_get c.args.nodes.now (n - suc c.args.found.member)) same ∙ c.in_ok-node.ensures) in
    part_put c.args.bytes.now.items c.put_triple.new.bytes.items c.put_members.new.bytes.items ms c.args.found c.args.given (member_of c.in-Some.member) c.in_ok-node.node (sym c.in-Some.ensures) is
    (c.in_ok-put_triple.ensures ∙ ap (λ k. c.args.bytes.now.items ++ bytes_of_words (k ∷ c.in_ok-node.node.inside ∷ c.args.found.leaf ∷ [])) c.saturating_sub-left.ensures)
    c.in_ok-put_members.ensures
