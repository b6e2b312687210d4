use Rattle.std.proofs.Common.{ℤ, ap, sym, ◌∙◌, option_map, refl, rules, SFits, w32}
use Rattle.std.proofs.lemmas.Int.{to_z-of_z}
use Rattle.pli_serving.specs.Templates.{shape_at}
use Rattle.pli_serving.specs.Values.{leaf_place}
use Rattle.pli_meaning.specs.Contents.{leaves_with}
use Rattle.pli_signatures.specs.View.{leaf_in_force}
use Rattle.pli_signatures.specs.Whole.{leaf_in}
use Rattle.pli_aggregates.proofs.Recording.{no_other, no_place, place_known}
use Rattle.pli_aggregates.proofs.part.placed_leaf.Goals as goal

pub returns-in_default : goal.returns-in_default
returns-in_default c = no_place (shape_at c.args.held.now.signatures c.args.aggregate.signature) c.args.leaf c.args.aggregate.extent c.args.aggregate.extent (c.in_default.ensures c.args.aggregate.extent)

pub returns-in_default-3 : goal.returns-in_default-3
returns-in_default-3 c =
    let o = shape_at c.args.held.now.signatures c.args.aggregate.signature in
    let fits : SFits w32 c.args.found.extent = search rules in
    no_other o c.args.leaf c.args.found.extent c.args.aggregate.extent
    (ap (λ (z : ℤ). leaf_in o c.args.leaf z) (sym (to_z-of_z w32 c.args.found.extent fits))
    ∙ (sym c.in_ok-allocated.ensures ∙ ap (option_map leaf_in_force) c.in_default-3.is))

pub returns : goal.returns
returns c =
    let o = shape_at c.args.held.now.signatures c.args.aggregate.signature in
    let force_fits : SFits w32 c.args.aggregate.extent = search rules in
    let found_fits : SFits w32 c.args.found.extent = search rules in
    record {
      in_force = (ap (option_map leaf_in_force) (sym c.in-Some-2.is) ∙ c.in_ok-in_force.ensures) ∙ ap (λ (z : ℤ). leaf_in o c.args.leaf z) (to_z-of_z w32 c.args.aggregate.extent force_fits);
      allocated = (ap (option_map leaf_in_force) (sym c.in-Some-3.is) ∙ c.in_ok-allocated.ensures) ∙ ap (λ (z : ℤ). leaf_in o c.args.leaf z) (to_z-of_z w32 c.args.found.extent found_fits);
      base = λ s e. c.in-Some-base_of.ensures (leaf_place (leaves_with c.args.found.extent s) c.args.leaf) (place_known o c.args.leaf c.in-Some.behind c.args.found.extent s (c.in-Some.ensures c.args.found.extent) e);
      bytes = c.value_bytes-bytes.ensures;
      end = refl;
    }
