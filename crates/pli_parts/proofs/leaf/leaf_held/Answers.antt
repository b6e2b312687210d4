use Rattle.std.proofs.Common.{Ok, Option, subst, sym}
use Rattle.pli_aggregates.specs.Standing.{HasElements, StandAt}
use Rattle.pli_aggregates.specs.declared.runs.Run.{Run}
use Rattle.pli_parts.proofs.leaf.leaf_held.Goals as goal

pub returns-in_ok-leaf-in-Some : goal.returns-in_ok-leaf-in-Some
returns-in_ok-leaf-in-Some c =
    let p = c.args.placed.now in
    let given = c.args.given.now in
    let stand : StandAt p given c.in-Some.run' = subst (λ (o : Option Run). HasElements p given (Ok o)) c.in-Some.is
    c.in_ok-found.ensures in
    record {
      kind = c.in_ok-leaf-in-Some.ensures.kind;
      bounds = c.in_ok-leaf-in-Some.ensures.bounds;
      stand = subst (λ (run : Run). StandAt p given run) (sym c.in_ok-leaf-in-Some.ensures.run) stand;
    }

pub returns-in-None : goal.returns-in-None
returns-in-None c = subst (λ (o : Option Run). HasElements c.args.placed.now c.args.given.now (Ok o)) c.in-None.is
    c.in_ok-found.ensures
