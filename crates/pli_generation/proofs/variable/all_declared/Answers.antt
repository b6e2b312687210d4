use Rattle.std.proofs.Common.{◌+◌, ◌∙◌, map, drop, slice_get, sym, ap}
use Rattle.pli_typing.specs.Generations.{declared_variable, declared_with}
use Rattle.pli_language.specs.Refusals.{soonest}
use Rattle.pli_typing.specs.TypedStatementView.{declared_variable_of}
use Rattle.pli_typing.specs.TypedView.{variable_of}
use Rattle.pli_declare.proofs.Chains.{drop_here}
use Rattle.pli_declare.specs.Shown.{held_of}
use Rattle.pli_reference.specs.Shown.{scope_of}
use Rattle.pli_variables.specs.Held.{groups_held}
use Rattle.pli_generation.specs.Shown.{own_at}
use Rattle.pli_generation.proofs.Extents.{declared_is, each_here, each_value, got}
use Rattle.pli_generation.proofs.variable.all_declared.Goals as goal

pub loop-index-preserved : goal.loop-index-preserved
loop-index-preserved c =
    let l = c.loop-index in
    let groups = c.args.groups.now in
    let x = c.index-groups-index.result in
    let all = map held_of x.items in
    let scope = scope_of c.args.scope in
    let own = c.own_at-own.ensures ∙ ap (own_at scope.blocks scope.block) (ap (λ gs. slice_get gs l.index) (sym c.requires) ∙ got (λ v. map held_of v.items) groups l.index x c.loop-index-test.true c.index-groups-index.is) in
    let judged = ap (λ hs. declared_with scope (variable_of c.own_at-own.result) (map held_of hs)) c.deref.ensures.value ∙ ap (λ v. declared_with scope v all) own ∙ sym (declared_is scope all) in
    let here = ap groups_held (drop_here groups l.index x c.loop-index-test.true c.index-groups-index.is) in
    record {
      faults = each_here (declared_variable scope) l.found c.declared_with.new.found all (groups_held (drop (l.index + 1) groups)) (groups_held (drop l.index groups)) (c.in_ok-declared.ensures.faults ∙ ap (λ j. soonest l.found j.faults) judged) here ∙ l.invariant.faults;
      value = each_value (declared_variable scope) declared_variable_of l.out.items c.push.new.self.items c.in_ok-declared.declared all (groups_held (drop (l.index + 1) groups)) (groups_held (drop l.index groups)) c.in_ok-push.ensures.items (c.in_ok-declared.ensures.value ∙ ap (λ j. j.value) judged) here ∙ l.invariant.value;
    }
