use Rattle.std.proofs.Common.{◌≡◌, None, Some, ℕ, List, sym, ap, ◌∙◌}
use Rattle.pli_language.specs.declared.token.Token.{Token}
use Rattle.pli_language.specs.Nesting.{Nest, outermost}
use Rattle.pli_nest.specs.View.{nest_of}
use Rattle.pli_parse.specs.Answers.{Verdict, answer, On, Ends, stepped}
use Rattle.pli_parse.specs.Reading.{parsed, turn}
use Rattle.pli_parse.specs.View.{answer_of, step_of}
use Rattle.pli_parse.proofs.Found.{source_smaller, source_on, source_ends}
use Rattle.pli_parse.proofs.source.tree.Goals as goal

pub heads-smaller : goal.heads-smaller
heads-smaller c =
    let s : List ℕ = c.args.source.now in
    let n : Nest = nest_of c.heads.nest in
    let rest : List Token = c.heads.rest.now in
    let e : stepped c.heads.found (turn s n rest) ≡ On (nest_of c.in-On.around) c.in-On.behind.now c.in-On.least = sym c.in_ok-around.ensures ∙ ap step_of c.in-On.is in
    source_smaller s c.heads.found n rest (nest_of c.in-On.around) c.in-On.behind.now c.in-On.least e

pub heads-preserved : goal.heads-preserved
heads-preserved c =
    let s : List ℕ = c.args.source.now in
    let n : Nest = nest_of c.heads.nest in
    let rest : List Token = c.heads.rest.now in
    let target : Verdict = answer None (parsed s outermost c.args.tokens.now) in
    let e : stepped c.heads.found (turn s n rest) ≡ On (nest_of c.in-On.around) c.in-On.behind.now c.in-On.least = sym c.in_ok-around.ensures ∙ ap step_of c.in-On.is in
    source_on s c.heads.found n rest target (nest_of c.in-On.around) c.in-On.behind.now c.in-On.least c.heads.invariant e

pub returns-in-Ends : goal.returns-in-Ends
returns-in-Ends c =
    let s : List ℕ = c.args.source.now in
    let n : Nest = nest_of c.heads.nest in
    let rest : List Token = c.heads.rest.now in
    let target : Verdict = answer None (parsed s outermost c.args.tokens.now) in
    let e : stepped c.heads.found (turn s n rest) ≡ Ends (Some (answer_of c.in-Ends.answer)) = sym c.in_ok-around.ensures ∙ ap step_of c.in-Ends.is in
    source_ends s c.heads.found n rest target (Some (answer_of c.in-Ends.answer)) c.heads.invariant e
