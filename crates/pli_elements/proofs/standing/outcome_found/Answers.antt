use Rattle.std.proofs.Common.{◌≡◌, ◌∙◌, ℤ, ap, rules, sym, to_z, SFits, w32}
use Rattle.std.proofs.lemmas.Int.{to_z-of_z}
use Rattle.pli_typing.specs.Signatures.{Leaf}
use Rattle.pli_serving.specs.Templates.{shape_at}
use Rattle.pli_signatures.specs.Whole.{leaf_in}
use Rattle.pli_elements.proofs.Placing.{leaf_known}
use Rattle.pli_elements.proofs.standing.outcome_found.Goals as goal

pub outcome_placed-requires : goal.outcome_placed-requires
outcome_placed-requires c =
    let o = shape_at c.args.held.now.signatures c.args.aggregate.signature in
    let had : SFits w32 c.args.found.extent = search rules in
    let force : SFits w32 c.args.aggregate.extent = search rules in
    let same : c.args.aggregate.extent ≡ c.args.found.extent =
    sym (to_z-of_z w32 c.args.aggregate.extent force) ∙ ap (to_z w32) (sym c.if-found-aggregate.true) ∙ to_z-of_z w32 c.args.found.extent had in
    c.requires ∙ ap (λ (z : ℤ). leaf_in o c.args.leaf z) same

pub returns-then-found-aggregate : goal.returns-then-found-aggregate
returns-then-found-aggregate c = λ c' s e.
    let a = c.args.aggregate in
    c.outcome_placed.ensures c' s e (ap (λ (l : Leaf). l.kind) (leaf_known s a.extent c.args.leaf (shape_at c.args.held.now.signatures a.signature) c.args.in_force.now e c.requires))

pub returns : goal.returns
returns c = λ c' s e.
    let a = c.args.aggregate in
    c.outcome_other.ensures c' s e (ap (λ (l : Leaf). l.kind) (leaf_known s a.extent c.args.leaf (shape_at c.args.held.now.signatures a.signature) c.args.in_force.now e c.requires))
