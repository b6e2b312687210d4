use Rattle.std.proofs.Common.{◌∙◌, ap, map, refl, sym}
use Rattle.pli_entries.specs.Kept.{leaf_of}
use Rattle.pli_serving.specs.Outcomes.{bad_unless}
use Rattle.pli_aggregates.specs.Scalars.{with_all}
use Rattle.pli_aggregates.proofs.Parting.{answers_as}
use Rattle.pli_parts.specs.Served.{leaves_taken, taken_pushed}
use Rattle.pli_parts.specs.Taking.{leaf_taken}
use Rattle.pli_parts.proofs.taking.take_part.Goals as goal

pub returns-then-not-have_values : goal.returns-then-not-have_values
returns-then-not-have_values c = λ k h c'.
    let m = c.args.memory.now in
    let old = with_all k h m c.args.entries.now c' in
    (ap (λ t. bad_unless t (taken_pushed c.args.at (map (leaf_taken m) c.args.leaves.now) old)) (sym c.have_values.ensures ∙ c.if-not-have_values.true), refl, refl)

pub returns-in-Ok : goal.returns-in-Ok
returns-in-Ok c = λ k h c'.
    let m = c.args.memory.now in
    let ls = c.args.leaves.now in
    let old = with_all k h m c.args.entries.now c' in
    let new = with_all k h m c.push.new.entries c' in
    answers_as (leaves_taken c.args.at ls) (taken_pushed c.args.at (map leaf_of c.in-Ok.taken.items)) old new c.push.result
    (ap (λ t. bad_unless t (taken_pushed c.args.at (map (leaf_taken m) ls) old)) (sym c.have_values.ensures ∙ c.if-not-have_values.false)
    ∙ ap (λ leaves. taken_pushed c.args.at leaves old) (sym c.in-Ok.ensures))
    (c.push.ensures k h m c')
