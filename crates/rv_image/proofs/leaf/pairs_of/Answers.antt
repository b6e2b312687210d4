use Rattle.std.proofs.Common.{◌≡◌, arith}
use Rattle.rv_image.specs.Reading.{words_of, pairs_from}
use Rattle.rv_image.proofs.Loops.{one_if, one_if-le, pairs_go_on, pairs_end, pairs_done}
use Rattle.rv_image.proofs.leaf.pairs_of.Goals as goal

pub returns-in_err-is_run_time : goal.returns-in_err-is_run_time
returns-in_err-is_run_time c =
    rw c.from_residual.ensures (pairs_end c.loop.run_time c.args.count c.loop.counter (words_of c.loop.rest.now) (pairs_from c.args.count (words_of c.args.words.now)) c.loop-test.true c.in_err-is_run_time.ensures c.loop.invariant.0)

pub loop-preserved : goal.loop-preserved
loop-preserved c =
    let t = c.in_ok-is_run_time.is_run_time in
    let h : c.one_if-run_time.result ≡ one_if t = c.one_if-run_time.ensures in
    let small = one_if-le t in
    let bound = c.loop.invariant.1 in
    let on = pairs_go_on c.loop.run_time c.args.count c.loop.counter (words_of c.loop.rest.now) (words_of c.in_ok-is_run_time.after.now) t (pairs_from c.args.count (words_of c.args.words.now)) c.loop-test.true c.in_ok-is_run_time.ensures c.loop.invariant.0 in
    (rw h on, omega (arith, h, small, bound))

pub returns : goal.returns
returns c = pairs_done c.loop.run_time c.args.count c.loop.counter (words_of c.loop.rest.now) (pairs_from c.args.count (words_of c.args.words.now)) c.loop-test.false c.loop.invariant.0
