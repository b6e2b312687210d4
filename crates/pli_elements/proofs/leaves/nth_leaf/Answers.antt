use Rattle.std.proofs.Common.{◌≡◌, ◌+◌, IfOk, ℕ, arith, option_map, subst}
use Rattle.pli_serving.specs.Templates.{shape_at}
use Rattle.pli_signatures.specs.View.{leaf_in_force}
use Rattle.pli_signatures.specs.Whole.{leaf_in}
use Rattle.pli_elements.proofs.leaves.nth_leaf.Goals as goal

pub returns-in-Some : goal.returns-in-Some
returns-in-Some c =
    let a = c.args.aggregate in
    let at : c.in-Some.leaf ≡ c.args.first + c.args.number = grind (arith, c.checked_add.ensures, c.in-Some.is) in
    subst (λ (n : ℕ). IfOk c.leaf_at.result (λ o. option_map leaf_in_force o ≡ leaf_in (shape_at c.args.held.now.signatures a.signature) n a.extent)) at c.leaf_at.ensures
