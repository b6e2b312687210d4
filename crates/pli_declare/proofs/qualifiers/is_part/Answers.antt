use Rattle.std.proofs.Common.{◌∙◌, ◌∷◌, [], List, ℕ, Option, take, ap, sym}
use Rattle.pli_language.specs.Means.{is_part}
use Rattle.pli_declare.specs.declared.scope.Variable.{Variable as VariableHeld}
use Rattle.pli_declare.specs.declared.above.Levels.{Levels as LevelsHeld}
use Rattle.pli_declare.specs.Among.{letters_of, names_above}
use Rattle.pli_declare.specs.Levels.{chain_of, levels_of, variable_of}
use Rattle.pli_declare.proofs.Parts.{part_first}
use Rattle.pli_declare.proofs.qualifiers.is_part.Goals as goal

pub returns : goal.returns
returns c =
    let qs = c.args.qualifiers.now in
    let left : List (List ℕ) = letters_of (take c.loop-rest.left qs) in
    part_first qs c.loop-rest.left c.passed.result c.deref-2.result.now _ c.passed.ensures.within c.passed.ensures.step
    (ap (λ (n : List ℕ). is_part left (n ∷ [])) c.deref-2.ensures.value
    ∙ ap (λ (l : LevelsHeld). is_part left (names_above (levels_of (variable_of c.in-Some.first) l))) (sym c.in_default-rest.is)
    ∙ c.loop-rest.invariant.part
    ∙ ap (λ (o : Option VariableHeld). is_part (letters_of qs) (names_above (chain_of o c.args.levels.now))) (sym c.in-Some.is))
