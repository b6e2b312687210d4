use Rattle.std.proofs.Common.{◌∙◌, ◌∷◌, ap, ap₂, refl, sym, true}
use Rattle.pli_aggregates.specs.Scalars.{with_all}
use Rattle.pli_parts.specs.Putting.{go_into, leaves_put}
use Rattle.pli_parts.specs.Served.{entry_of}
use Rattle.pli_parts.proofs.Serves.{put_with}
use Rattle.pli_parts.proofs.putting.put_part.Goals as goal

pub returns-then-not-all_same_bounds : goal.returns-then-not-all_same_bounds
returns-then-not-all_same_bounds c = λ k h c' below.
    let m = c.args.memory.now in
    let ls = c.args.leaves.now in
    let ts = c.args.taken.now in
    let old = with_all k h m (entry_of ts ∷ below) c' in
    ap (λ t. put_with old c.args.at t (go_into ls ts) below (leaves_put ls ts m)) (sym c.all_same_bounds.ensures ∙ c.if-not-all_same_bounds.true)

pub returns-then-not-go_into : goal.returns-then-not-go_into
returns-then-not-go_into c = λ k h c' below.
    let m = c.args.memory.now in
    let ls = c.args.leaves.now in
    let ts = c.args.taken.now in
    let old = with_all k h m (entry_of ts ∷ below) c' in
    (ap₂ (λ s t. put_with old c.args.at s t below (leaves_put ls ts m)) (sym c.all_same_bounds.ensures ∙ c.if-not-all_same_bounds.false) (sym c.go_into.ensures ∙ c.if-not-go_into.true), refl, refl)

pub returns-then-not-are_whole : goal.returns-then-not-are_whole
returns-then-not-are_whole c = λ k h c' below. (refl, refl)

pub returns : goal.returns
returns c = λ k h c' below.
    let m = c.args.memory.now in
    let ls = c.args.leaves.now in
    let ts = c.args.taken.now in
    let old = with_all k h m (entry_of ts ∷ below) c' in
    ap₂ (λ s t. put_with old c.args.at s t below (leaves_put ls ts m)) (sym c.all_same_bounds.ensures ∙ c.if-not-all_same_bounds.false) (sym c.go_into.ensures ∙ c.if-not-go_into.false)
    ∙ ap (λ n. put_with old c.args.at true true below n) (sym c.put_leaves.ensures)
