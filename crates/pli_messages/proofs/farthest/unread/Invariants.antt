use Rattle.std.proofs.Common.{◌≡◌, [], drop, take}
use Rattle.pli_messages.specs.Farthest.{unread}
use Rattle.pli_messages.proofs.farthest.unread.Given as goal

abbrev pub invariant-loop-token : goal.invariant-loop-token
invariant-loop-token l = record {
  whole : unread l.source (take l.count l.tokens) (drop l.token-index l.tokens) ≡ unread l.source [] l.tokens;
  counted : l.count ≡ l.token-index;
}
