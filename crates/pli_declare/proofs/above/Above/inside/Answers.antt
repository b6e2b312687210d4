use Rattle.std.proofs.Common.{◌≡◌, ◌+◌, ◌∙◌, Option, length, ap, sym, subst, arith}
use Rattle.pli_language.specs.Declarations.{Variable, level_of}
use Rattle.pli_declare.specs.declared.scope.Variable.{Variable as VariableHeld}
use Rattle.pli_declare.specs.Levels.{chain_of, dimensions_in, IsKeptIn, levels_of, may_hold, variable_of}
use Rattle.pli_declare.proofs.Kept.{new_kept}
use Rattle.pli_declare.proofs.above.Above.inside.Goals as goal

pub invariant_of-result-2 : goal.invariant_of-result-2
invariant_of-result-2 c =
    let first : Variable = variable_of c.in-Some.first in
    let above = c.args.self.now.levels.value in
    let one : c.in_ok-count.count ≡ c.count.result + 1 = grind (arith, c.checked_add.ensures, c.in_ok-count.ensures.ok_part) in
    let more : c.in_ok-dimensions.dimensions ≡ c.dimensions.result + c.dimensions_of-own.result = grind (arith, c.checked_add-2.ensures, c.in_ok-dimensions.ensures.ok_part) in
    let count = one ∙ ap (λ n. n + 1) (c.count.ensures ∙ ap (λ (o : Option VariableHeld). length (chain_of o above)) c.in-Some.is) in
    let dimensions =
    more ∙ ap (λ n. n + c.dimensions_of-own.result) (c.dimensions.ensures ∙ ap (λ (o : Option VariableHeld). dimensions_in (chain_of o above)) c.in-Some.is)
    ∙ ap (λ n. dimensions_in (levels_of first above) + n) c.dimensions_of-own.ensures in
    let below = sym (ap (λ (o : Option VariableHeld). may_hold o above (level_of (variable_of c.args.structure))) c.in-Some.is) ∙ c.requires in
    let kept = subst (λ (o : Option VariableHeld). ∥ IsKeptIn o above ∥₁) c.in-Some.is c.args.self.now.kept in
    record { kept = new_kept first c.in_ok-new-2.field-0.value above c.args.structure c.in_ok-count.count c.in_ok-dimensions.dimensions c.in_ok-above.above c.in_ok-new-2.ensures.ok c.in_ok-above.ensures.cases count dimensions below kept }
