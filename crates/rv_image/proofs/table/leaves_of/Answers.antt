use Rattle.std.proofs.Common.{◌≡◌, true, false, sym}
use Rattle.rv_meaning.specs.Tables.{stands}
use Rattle.rv_image.specs.Reading.{words_of, leaves_from}
use Rattle.rv_image.specs.Shapes.{shape}
use Rattle.rv_image.proofs.Loops.{leaves_go_on, leaves_end, leaves_unfit, leaves_done}
use Rattle.rv_image.proofs.table.leaves_of.Goals as goal

pub returns-in_err-leaf : goal.returns-in_err-leaf
returns-in_err-leaf c =
    rw c.from_residual.ensures (leaves_end c.args.count c.args.refer c.loop-place.place (words_of c.loop-place.rest.now) (leaves_from c.args.count c.args.count c.args.refer 0 (words_of c.args.words.now)) c.loop-place-test.true c.in_err-leaf.ensures c.loop-place.invariant)

pub returns-then-not-stands : goal.returns-then-not-stands
returns-then-not-stands c =
    let fits : stands c.args.count c.args.refer c.loop-place.place (shape c.in_ok-leaf.leaf) ≡ false = sym c.if-not-stands.ensures in
    leaves_unfit c.args.count c.args.refer c.loop-place.place (words_of c.loop-place.rest.now) (words_of c.in_ok-leaf.after.now) (shape c.in_ok-leaf.leaf) (leaves_from c.args.count c.args.count c.args.refer 0 (words_of c.args.words.now)) c.loop-place-test.true c.in_ok-leaf.ensures fits c.loop-place.invariant

pub loop-place-preserved : goal.loop-place-preserved
loop-place-preserved c =
    let fits : stands c.args.count c.args.refer c.loop-place.place (shape c.in_ok-leaf.leaf) ≡ true = sym c.if-not-stands.ensures in
    leaves_go_on c.args.count c.args.refer c.loop-place.place (words_of c.loop-place.rest.now) (words_of c.in_ok-leaf.after.now) (shape c.in_ok-leaf.leaf) (leaves_from c.args.count c.args.count c.args.refer 0 (words_of c.args.words.now)) c.loop-place-test.true c.in_ok-leaf.ensures fits c.loop-place.invariant

pub returns : goal.returns
returns c = leaves_done c.args.count c.args.refer c.loop-place.place (words_of c.loop-place.rest.now) (leaves_from c.args.count c.args.count c.args.refer 0 (words_of c.args.words.now)) c.loop-place-test.false c.loop-place.invariant
