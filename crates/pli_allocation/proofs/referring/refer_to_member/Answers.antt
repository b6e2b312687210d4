use Rattle.std.proofs.Common.{◌∙◌, ap, rules, SFits, w32}
use Rattle.std.proofs.lemmas.Int.{to_z-of_z}
use Rattle.pli_serving.specs.Templates.{shape_at}
use Rattle.pli_signatures.specs.Whole.{shape_so_far}
use Rattle.pli_storage.proofs.Replying.{replies_by}
use Rattle.pli_storage.specs.Findings.{found_of}
use Rattle.pli_storage.specs.Held.{holding, with_held}
use Rattle.pli_types.specs.View.{template_of}
use Rattle.pli_allocation.specs.Referring.{first_lower, member_number, refer_of_shape, told_answered}
use Rattle.pli_allocation.proofs.Members.{told_by_member}
use Rattle.pli_allocation.proofs.referring.refer_to_member.Goals as goal

pub returns : goal.returns
returns g c = λ c'.
    let extent_fits : SFits w32 c.args.found.extent = search rules in
    let told_fits : SFits w32 c.in_ok-told.told = search rules in
    let h = c.args.held.now in
    let C = with_held g.K.AreaKeeper.keeper h c.args.memory.now c' in
    let s = shape_so_far (template_of c.args.signature.now) in
    let o = shape_at h.signatures c.args.found.signature in
    replies_by (refer_of_shape C c.args.name c.args.buffer (found_of c.args.found) s) (told_answered C c.args.name c.args.buffer c.args.found.extent c.in_ok-told.told c.last_lower-lower.result) (holding h c'.services) c.args.memory.now c.answer_told.result (holding h c'.services) c.answer_told.new.memory
    (told_by_member C c.args.name c.args.buffer (found_of c.args.found) s o c.args.member c.in_ok-told.told c.last_lower-lower.result c.requires.whole c.requires.member
    (c.in_ok-told.ensures ∙ ap (λ n. member_number o (found_of c.args.found) n c.args.memory.now) c.in-Ok.ensures.1)
    c.last_lower-lower.ensures)
    (simp to_z-of_z at (c.answer_told.ensures c'))
