use Rattle.std.proofs.Common.{◌∙◌, ap}
use Rattle.pli_serving.specs.InitialValues.{initial_values}
use Rattle.pli_signatures.specs.Whole.{shape_so_far}
use Rattle.pli_storage.specs.Held.{with_held}
use Rattle.pli_types.specs.View.{template_of}
use Rattle.pli_values.specs.Calls.{call_of}
use Rattle.pli_making.specs.Making.{owner_made, shape_made, values_made}
use Rattle.pli_making.proofs.Limits.{starts_by, values_here}
use Rattle.pli_making.proofs.starting.start.Goals as goal

pub returns-in-Some-clause-answer : goal.returns-in-Some-clause-answer
returns-in-Some-clause-answer g c = λ c'.
    let k = g.K.AreaKeeper.keeper in
    let h = c.args.held.now in
    let m = c.args.memory.now in
    let w = c.args.wanted in
    let owner = c.args.owner in
    let C = with_held k h m c' in
    let s = shape_so_far (template_of c.in-Some.signature.now) in
    let source = c.new-source.result in
    starts_by (owner_made C w owner) (values_made C w owner s (initial_values (call_of source) s.signature.leaves w.initial)) C w owner c.start_whole.result
    (ap (shape_made C w owner) c.in-Some.ensures
    ∙ ap (values_made C w owner s) (values_here k h m c' s.signature.leaves w.initial source c.new-source.ensures.layout c.new-source.ensures.memory))
    (c.start_whole.ensures.answer m c')

pub returns-in-None-clause-answer : goal.returns-in-None-clause-answer
returns-in-None-clause-answer g c = λ c'. ap (shape_made (with_held g.K.AreaKeeper.keeper c.args.held.now c.args.memory.now c') c.args.wanted c.args.owner) c.in-None.ensures
