use Rattle.std.proofs.Common.{◌+◌, ◌∙◌, map, drop, ap}
use Rattle.pli_typing.specs.Generations.{evaluation}
use Rattle.pli_typing.specs.TypedStatementView.{evaluation_of}
use Rattle.pli_typing.specs.TypedView.{variable_of}
use Rattle.pli_declare.proofs.Chains.{drop_here}
use Rattle.pli_reference.specs.Shown.{scope_of}
use Rattle.pli_variables.specs.Written.{all_shown, extent_shown}
use Rattle.pli_generation.proofs.Extents.{each_here, each_value}
use Rattle.pli_generation.proofs.extent.evaluations.Goals as goal

pub loop-extent-preserved : goal.loop-extent-preserved
loop-extent-preserved c =
    let l = c.loop-extent in
    let written = c.args.written.now in
    let x = c.extent-item.result in
    let judge = evaluation (scope_of c.args.scope) (variable_of c.args.own) (all_shown written) in
    let here = ap (map extent_shown) (drop_here written l.extent-index x c.loop-extent-test.true c.extent-item.is) in
    record {
      faults = each_here judge l.found c.evaluation.new.found (extent_shown x) (map extent_shown (drop (l.extent-index + 1) written)) (map extent_shown (drop l.extent-index written)) c.in_ok-evaluation.ensures.faults here ∙ l.invariant.faults;
      value = each_value judge evaluation_of l.out.items c.push.new.self.items c.in_ok-evaluation.field-0 (extent_shown x) (map extent_shown (drop (l.extent-index + 1) written)) (map extent_shown (drop l.extent-index written)) c.in_ok-push.ensures.items c.in_ok-evaluation.ensures.value here ∙ l.invariant.value;
    }
