use Rattle.std.proofs.Common.{ℕ, ◌+◌, ◌-◌, ◌*◌, get_or, drop, arith}
use Rattle.pli_lex.proofs.Numbers.{number_from-grows, number_from_more}
use Rattle.pli_lex.proofs.scan.number_value.Goals as goal

-- past the limit the further digits only add
pub returns-then-next-from : goal.returns-then-next-from
returns-then-next-from c =
    let digits = c.args.digits.now in
    let i = c.loop-digit.digit-index in
    let here = number_from_more c.loop-digit.number digits i 0 (omega arith) in
    let next : ℕ = c.loop-digit.number * 10 + (get_or digits i 0 - 48) in
    let more = number_from-grows next (drop (i + 1) digits) in
    omega (arith, here, more, c.loop-digit.invariant.rest)
