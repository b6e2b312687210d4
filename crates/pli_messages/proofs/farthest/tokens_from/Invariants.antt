use Rattle.std.proofs.Common.{◌≡◌, drop}
use Rattle.pli_messages.specs.Farthest.{tokens_from}
use Rattle.pli_messages.proofs.farthest.tokens_from.Given as goal

abbrev pub invariant-loop-token : goal.invariant-loop-token
invariant-loop-token l = record {
  whole : tokens_from l.line l.column (drop l.token-index l.tokens) ≡ tokens_from l.line l.column l.tokens;
  counted : l.index ≡ l.token-index;
}
