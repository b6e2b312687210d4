use Rattle.std.proofs.Common.{rules, tests, ◌≡◌, ◌∙◌, ◌==◌, sym, refl, Bool, true, false}
use Rattle.std.proofs.lemmas.Iterator.{YieldsList-from_slice, IsFirst-from_position, index_from_first}
use Rattle.pli_typing.specs.Calls.{index_in}
use Rattle.pli_typing.specs.Variables.{index_where}
use Rattle.pli_typing.specs.Converting.{Designated}
use Rattle.pli_operand.specs.Shown.{designated_of}
use Rattle.pli_transfer.proofs.Firsts.{hit, miss, index_mapped}
use Rattle.pli_transfer.proofs.callee.parameter_place.Goals as goal

pub returns : goal.returns
returns c =
    let test : Designated → Bool = λ d. index_in d.reference == c.args.variable.index in
    let first = IsFirst-from_position _ _ c.position.result (λ x. test (designated_of x) ≡ true) (λ x. test (designated_of x) ≡ false) c.position.ensures.ran (YieldsList-from_slice c.args.parameters.now cc) (λ x q k. search (rules, tests)) (λ x q k. search (rules, tests)) in
    let index = index_from_first (index_where (λ x. test (designated_of x))) (λ x. test (designated_of x) ≡ true) (λ x. test (designated_of x) ≡ false) refl (hit (λ x. test (designated_of x))) (miss (λ x. test (designated_of x))) c.args.parameters.now c.position.result first in
    c.unwrap_or.ensures ∙ sym index ∙ index_mapped test designated_of c.args.parameters.now
