use Rattle.std.proofs.Common.{◌∙◌, ap, sym}
use Rattle.pli_language.specs.Declarations.{Variable, holders_at}
use Rattle.pli_declare.specs.Levels.{levels_of, chain_of, variable_of}
use Rattle.pli_declare.proofs.Kept.{all_held, inner_held, inner_kept}
use Rattle.pli_declare.proofs.above.Above.holders.Goals as goal

pub loop-structure-preserved : goal.loop-structure-preserved
loop-structure-preserved c =
    let first : Variable = variable_of c.in-Some.first in
    let rest = c.loop-structure.rest.now.value in
    let it = c.in-Inside in
    let same = sym c.deref.ensures ∙ it.is in
    record {
      kept = inner_kept first rest it.structure it.count it.dimensions it.above same c.loop-structure.invariant.kept;
      held = inner_held first rest it.structure it.count it.dimensions it.above c.level_of.result c.args.level _ same c.level_of.ensures c.if-level_of-level.false c.loop-structure.invariant.held;
    }

pub returns-then-level_of-level-clause-value : goal.returns-then-level_of-level-clause-value
returns-then-level_of-level-clause-value c =
    let first : Variable = variable_of c.in-Some.first in
    let rest = c.loop-structure.rest.now.value in
    let it = c.in-Inside in
    let same = sym c.deref.ensures ∙ it.is in
    let all = all_held first rest it.structure it.count it.dimensions it.above c.level_of.result c.args.level _ same c.loop-structure.invariant.kept c.level_of.ensures c.if-level_of-level.true c.if-level-le1.false c.loop-structure.invariant.held in
    ap (levels_of first) c.in_ok-clone.ensures.cases ∙ all ∙ ap (λ o. holders_at (chain_of o c.args.self.now.levels.value) c.args.level) (sym c.in-Some.is)
