use Rattle.std.proofs.Common.{◌∙◌, sym}
use Rattle.pli_aggregates.proofs.Bounding.{alike, reaches, shorter}
use Rattle.pli_aggregates.proofs.bounds.compare_bounds.Goals as goal

pub returns-then-ends_within : goal.returns-then-ends_within
returns-then-ends_within c =
    let all = c.args.allocated.now in
    let some = c.args.in_force.now in
    let had = c.in-Some-split_first.had.now in
    let more = c.in-Some-split_first.more.now in
    let first = c.in-Some.first.now in
    let others = c.in-Some.others.now in
    let e = c.in-Some-split_first.ensures.cases.0 in
    let f = c.in-Some.ensures.cases.0 in (
      alike all some more others had first e f (sym c.same_lower.ensures ∙ c.if-not-same_lower.false) (sym c.same_bounds.ensures ∙ c.if-not-same_bounds.false),
      reaches all some more others had first e f (sym c.ends_within.ensures ∙ c.if-ends_within.true),
    )

pub returns-else-ends_within : goal.returns-else-ends_within
returns-else-ends_within c =
    let all = c.args.allocated.now in
    let some = c.args.in_force.now in
    let had = c.in-Some-split_first.had.now in
    let more = c.in-Some-split_first.more.now in
    let first = c.in-Some.first.now in
    let others = c.in-Some.others.now in
    let e = c.in-Some-split_first.ensures.cases.0 in
    let f = c.in-Some.ensures.cases.0 in (
      alike all some more others had first e f (sym c.same_lower.ensures ∙ c.if-not-same_lower.false) (sym c.same_bounds.ensures ∙ c.if-not-same_bounds.false),
      shorter all some more others had first e f (sym c.ends_within.ensures ∙ c.if-ends_within.false),
    )
