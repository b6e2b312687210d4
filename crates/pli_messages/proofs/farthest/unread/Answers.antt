use Rattle.std.proofs.Common.{◌≡◌, ◌+◌, true, take, arith}
use Rattle.pli_messages.specs.Farthest.{goes_on}
use Rattle.pli_messages.proofs.Taken.{unread_more}
use Rattle.pli_messages.proofs.farthest.unread.Goals as goal

pub loop-token-preserved : goal.loop-token-preserved
loop-token-preserved c =
    let goes : goes_on c.args.source.now (take (c.loop-token.count + 1) c.args.tokens.now) ≡ true =
    grind (arith, c.in_ok-goes_on.ensures, c.if-not-branch.false) in
    record {
      whole =
          unread_more _ _ _ _ _ c.loop-token.invariant.counted c.loop-token-test.true goes c.loop-token.invariant.whole;
      counted = omega (arith, c.loop-token.invariant.counted);
    }
