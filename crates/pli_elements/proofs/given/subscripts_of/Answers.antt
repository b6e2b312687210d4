use Rattle.std.proofs.Common.{◌≡◌, ◌∙◌, IfOk, List, Option, Some, None, ℤ, ap, map, option_map, rules, subst, sym, SFits, w32}
use Rattle.std.proofs.lemmas.Int.{to_z-of_z}
use Rattle.pli_types.specs.View.{pair_of}
use Rattle.pli_types.specs.declared.signature.Bounds.{Bounds}
use Rattle.pli_serving.specs.Templates.{shape_at}
use Rattle.pli_signatures.specs.View.{leaf_in_force}
use Rattle.pli_signatures.specs.Whole.{leaf_in}
use Rattle.pli_elements.specs.Items.{given_by}
use Rattle.pli_elements.proofs.Giving.{given_known, given_unknown}
use Rattle.pli_elements.proofs.given.subscripts_of.Goals as goal

pub returns-in-Some : goal.returns-in-Some
returns-in-Some c = λ s e.
    let a = c.args.aggregate in
    let o = shape_at c.args.held.now.signatures a.signature in
    let fits : SFits w32 a.extent = search rules in
    let there : Some (leaf_in_force c.in-Some.found) ≡ leaf_in o c.args.leaf a.extent = ap (option_map leaf_in_force) (sym c.in-Some.is) ∙ (c.in_ok-found.ensures ∙ ap (λ (z : ℤ). leaf_in o c.args.leaf z) (to_z-of_z w32 a.extent fits)) in
    subst (λ (x : Option (List ℤ)). IfOk c.subscripts_in.result (λ found. option_map (λ subscripts. subscripts.items) found ≡ x))
    (ap (λ (bs : List Bounds). given_by (map pair_of bs) a.place c.args.given) c.as_slice.ensures ∙ given_known a s o c.args.leaf c.args.given c.in-Some.found e there) c.subscripts_in.ensures

pub returns-in-None : goal.returns-in-None
returns-in-None c = λ s e.
    let a = c.args.aggregate in
    let o = shape_at c.args.held.now.signatures a.signature in
    let fits : SFits w32 a.extent = search rules in
    let none : None ≡ leaf_in o c.args.leaf a.extent = ap (option_map leaf_in_force) (sym c.in-None.is) ∙ (c.in_ok-found.ensures ∙ ap (λ (z : ℤ). leaf_in o c.args.leaf z) (to_z-of_z w32 a.extent fits)) in
    subst (λ (x : Option (List ℤ)). IfOk c.subscripts_in-in-None.result (λ found. option_map (λ subscripts. subscripts.items) found ≡ x)) (given_unknown a s o c.args.leaf c.args.given e none) c.subscripts_in-in-None.ensures
