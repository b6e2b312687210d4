use Rattle.std.proofs.Common.{◌≡◌, true, get_or, sym, ◌∙◌, arith}
use Rattle.std.proofs.lemmas.Bool.Decides.{nat_tests}
use Rattle.pli_language.specs.Tokens.{is_digit}
use Rattle.pli_text.proofs.Decimals.{magnitude-past}
use Rattle.pli_text.proofs.number.magnitude.Goals as goal

pub returns-then-value-gt-MOST : goal.returns-then-value-gt-MOST
returns-then-value-gt-MOST c =
    let digit : is_digit (get_or c.args.digits.now c.loop-byte.byte-index 0) ≡ true = grind (arith, nat_tests) in
    sym (c.loop-byte.invariant.same ∙ magnitude-past _ _ _ _ c.loop-byte-test.true digit c.from.ensures c.if-value-gt-MOST.true)
