use Rattle.std.proofs.Common.{◌∙◌, ℤ, ap, option_map, rules, sym, SFits, w32}
use Rattle.std.proofs.lemmas.Int.{to_z-of_z}
use Rattle.pli_serving.specs.Templates.{shape_at}
use Rattle.pli_signatures.specs.View.{leaf_in_force}
use Rattle.pli_signatures.specs.Whole.{leaf_in}
use Rattle.pli_elements.proofs.standing.outcome_other.Goals as goal

pub outcome_placed-requires : goal.outcome_placed-requires
outcome_placed-requires c =
    let o = shape_at c.args.held.now.signatures c.args.aggregate.signature in
    let fits : SFits w32 c.args.found.extent = search rules in
    ap (option_map leaf_in_force) (sym c.in-Some.is) ∙ c.in_ok-allocated.ensures ∙ ap (λ (z : ℤ). leaf_in o c.args.leaf z) (to_z-of_z w32 c.args.found.extent fits)
