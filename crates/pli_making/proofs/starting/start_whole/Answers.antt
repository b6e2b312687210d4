use Rattle.std.proofs.Common.{◌≡◌, ◌∙◌, [], ap, pos, sym, true}
use Rattle.std.specs.Prelude.{is_some, unwrap_or}
use Rattle.pli_meaning.specs.Contents.{fresh}
use Rattle.pli_serving.specs.InitialValues.{initial_values}
use Rattle.pli_serving.specs.Making.{limited}
use Rattle.pli_signatures.specs.Whole.{shape_so_far}
use Rattle.pli_storage.specs.Held.{with_held}
use Rattle.pli_types.specs.View.{template_of}
use Rattle.pli_values.specs.Calls.{call_of}
use Rattle.pli_values.specs.LeafLists.{lists_read}
use Rattle.pli_making.specs.Making.{values_made}
use Rattle.pli_making.proofs.Limits.{lists_so, right_so, starts_by, values_so}
use Rattle.pli_making.proofs.starting.start_whole.Goals as goal

pub returns-in-Some-clause-answer : goal.returns-in-Some-clause-answer
returns-in-Some-clause-answer g c = λ m c'.
    let w = c.args.wanted in
    let owner = c.args.owner in
    let C = with_held g.K.AreaKeeper.keeper c.args.held.now m c' in
    let s = shape_so_far (template_of c.args.signature.now) in
    let call = call_of c.args.source.now in
    let values = initial_values call s.signature.leaves w.initial in
    let read = lists_read call s.signature.leaves c.deref-in-Some.result.now in
    let same : read ≡ values = lists_so call c.deref.result.now c.args.signature.now.leaves.items w.initial c.in_ok-read.read c.in-Some.lists (λ v. v.items) c.deref-in-Some.result.now c.deref.ensures.value c.in_ok-read.ensures.lists c.in-Some.is c.deref-in-Some.ensures.value in
    let right : is_some values ≡ true = right_so call c.deref.result.now c.args.signature.now.leaves.items w.initial c.in_ok-read.read c.in-Some.lists c.deref.ensures.value c.in_ok-read.ensures.right c.in-Some.is in
    starts_by (values_made C w owner s values) (limited C w.name w.signature w.place owner (fresh s (pos 0) (unwrap_or read []))) C w owner c.start_begun.result
    (ap (values_made C w owner s) (sym same) ∙ values_so C w owner s read (ap is_some same ∙ right))
    (c.start_begun.ensures.answer m c')
