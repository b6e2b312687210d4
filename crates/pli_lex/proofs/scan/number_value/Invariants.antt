use Rattle.std.proofs.Common.{◌≡◌, ◌≤◌, drop}
use Rattle.pli_language.specs.Tokens.{number_from}
use Rattle.pli_lex.proofs.scan.number_value.Given as goal

abbrev pub invariant-loop-digit : goal.invariant-loop-digit
invariant-loop-digit l = record {
  rest : number_from l.number (drop l.digit-index l.digits) ≡ number_from 0 l.digits;
  bound : l.number ≤ 2147483647;
}
