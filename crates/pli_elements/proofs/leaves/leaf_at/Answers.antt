use Rattle.std.proofs.Common.{◌≡◌, IfOk, ℤ, option_map, rules, subst, SFits, w32}
use Rattle.std.proofs.lemmas.Int.{to_z-of_z}
use Rattle.pli_serving.specs.Templates.{shape_at}
use Rattle.pli_signatures.specs.View.{leaf_in_force}
use Rattle.pli_signatures.specs.Whole.{leaf_in}
use Rattle.pli_elements.proofs.leaves.leaf_at.Goals as goal

pub returns : goal.returns
returns c =
    let a = c.args.aggregate in
    let fits : SFits w32 a.extent = search rules in
    subst (λ (z : ℤ). IfOk c.leaf_with.result (λ o. option_map leaf_in_force o ≡ leaf_in (shape_at c.args.held.now.signatures a.signature) c.args.leaf z)) (to_z-of_z w32 a.extent fits) c.leaf_with.ensures
