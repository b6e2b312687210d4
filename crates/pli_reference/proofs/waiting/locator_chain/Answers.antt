use Rattle.std.proofs.Common.{◌∙◌, ap, map, refl, sym, arith}
use Rattle.pli_language.specs.View.{qualified_of, reference_of}
use Rattle.pli_reference.specs.Waiting.{chain_of_locators}
use Rattle.pli_reference.proofs.ShownWaits.{located_lighter, located_same, plain_shown}
use Rattle.pli_reference.proofs.waiting.locator_chain.Goals as goal

pub locators-preserved : goal.locators-preserved
locators-preserved c = record {
  same = λ scope. located_same _ scope c.locators.located.items c.push.new.self.items c.locators.first.now c.in-Located.locator c.in-Located.target c.deref-first.result.now c.in-Located.is refl c.in_ok-push-in-Located.ensures.items c.deref-first.ensures ∙ c.locators.invariant.same scope;
  lighter = omega (arith, located_lighter _ c.locators.located.items c.push.new.self.items c.locators.first.now c.in-Located.locator c.in-Located.target c.deref-first.result.now c.in-Located.is refl c.in_ok-push-in-Located.ensures.items c.deref-first.ensures, c.locators.invariant.lighter);
}

pub returns-in-Plain-clause-same : goal.returns-in-Plain-clause-same
returns-in-Plain-clause-same c scope = ap (chain_of_locators scope (map (λ q. qualified_of q.now) c.locators.located.items)) (plain_shown c.in-Plain.names ∙ sym (ap reference_of c.in-Plain.is)) ∙ c.locators.invariant.same scope ∙ ap (λ qs. chain_of_locators scope (map (λ q. qualified_of q.now) qs) (reference_of c.args.target.now)) c.new-located.ensures.items
