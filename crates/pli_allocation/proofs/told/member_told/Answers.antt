use Rattle.std.proofs.Common.{◌∙◌, ap, sym, rules, SFits, w32}
use Rattle.std.proofs.lemmas.Int.{to_z-of_z}
use Rattle.std.specs.Prelude.{option_map}
use Rattle.pli_serving.specs.Templates.{shape_at}
use Rattle.pli_signatures.specs.View.{leaf_in_force}
use Rattle.pli_storage.specs.Findings.{found_of}
use Rattle.pli_allocation.proofs.Members.{number_told}
use Rattle.pli_allocation.proofs.told.member_told.Goals as goal

pub returns-in-Some-leaf_place : goal.returns-in-Some-leaf_place
returns-in-Some-leaf_place c =
    let fits : SFits w32 c.args.found.extent = search rules in
    number_told (shape_at c.args.signatures.now c.args.found.signature) (found_of c.args.found) c.args.member c.in-Some-leaf_place.place (leaf_in_force c.in-Some.leaf) c.args.memory.now c.number_in_data.result
    (sym (ap (option_map leaf_in_force) c.in-Some.is) ∙ (simp to_z-of_z at c.in_ok-described.ensures))
    (c.in-Some-leaf_place.ensures c.args.found.extent)
    c.number_in_data.ensures
