use Rattle.std.proofs.Common.{◌∙◌, List, ℤ, ap, option_map, subst, sym}
use Rattle.pli_storage.specs.Findings.{found_of}
use Rattle.pli_aggregates.specs.Records.{record_shown}
use Rattle.pli_parts.specs.Leaves.{AreLeavesFound}
use Rattle.pli_parts.proofs.Asked.{part_known}
use Rattle.pli_parts.proofs.Parts.{part_not_given}
use Rattle.pli_parts.proofs.part.part_behind.Goals as goal

pub returns-in-Some : goal.returns-in-Some
returns-in-Some c = λ c' s e n low.
    let a = c.args.aggregate in
    let w = c.args.asked in
    let f = found_of c.args.found in
    let given = sym (c.in_ok-subscripts.ensures s e) ∙ ap (option_map (λ given. given.items)) c.in-Some.is in
    let leaves = subst (λ (is : List ℤ). AreLeavesFound s a.extent f is c.args.held.now.layout.end w.first w.leaves c.part_leaves.result) c.as_slice.ensures (c.part_leaves.ensures s e) in
    part_known c' (record_shown a s) f w.first w.leaves w.given c.args.held.now.layout.end c.in-Some.given.items c.part_leaves.result n given low leaves

pub returns-in-None : goal.returns-in-None
returns-in-None c = λ c' s e n low.
    let given = sym (c.in_ok-subscripts.ensures s e) ∙ ap (option_map (λ given. given.items)) c.in-None.is in
    part_not_given c' (record_shown c.args.aggregate s) c.args.asked.first c.args.asked.leaves c.args.asked.given given
