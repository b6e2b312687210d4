use Rattle.std.proofs.Common.{◌+◌, map, ◌≤◌, subst, sym, ap, ◌∙◌, List}
use Rattle.std.proofs.lemmas.List.{take_rest}
use Rattle.pli_language.specs.Refusals.{soonest}
use Rattle.pli_language.specs.Declaring.{what_faults}
use Rattle.pli_declare.specs.declared.scope.Declaration.{Declaration as DeclarationHeld}
use Rattle.pli_language.specs.View.{name_of}
use Rattle.pli_declare.specs.Shown.{declaration_of, what_of}
use Rattle.pli_declaring.proofs.Starts.{among, start_below, declarations_on}
use Rattle.pli_declaring.proofs.structure.noted_declarations.Goals as goal

pub loop-i-preserved : goal.loop-i-preserved
loop-i-preserved c =
    let i = c.loop-i.i in
    let ds = c.args.declarations.now in
    let ps = map name_of c.args.parameters.now in
    let d = c.index-declarations-i.result in
    record {
      within = subst (λ n. n ≤ i + 1) (sym c.start_after-start.ensures) (start_below c.loop-i.start i (what_of d.what) c.loop-i.invariant.within);
      found = declarations_on c.loop-i.found c.noted_what-found.result _ (map name_of c.args.parameters.now) c.args.declarations.now c.loop-i.start i c.start_after-start.result d c.loop-i.invariant.within c.loop-i-test.true c.index-declarations-i.is c.loop-i.invariant.found (c.noted_what-found.ensures ∙ ap (λ (u : List DeclarationHeld). soonest c.loop-i.found (what_faults ps (among ds c.loop-i.start i) (what_of d.what) (map declaration_of u))) (take_rest ds (i + 1))) c.start_after-start.ensures;
    }
