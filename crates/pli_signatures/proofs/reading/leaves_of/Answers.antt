use Rattle.std.proofs.Common.{◌≡◌, ap, ◌∙◌, arith}
use Rattle.pli_signatures.specs.Reading.{leaf_read, behind_leaf}
use Rattle.pli_signatures.proofs.Readings.{leaves_on, behind_on}
use Rattle.pli_signatures.proofs.reading.leaves_of.Goals as goal

pub loop-place-preserved : goal.loop-place-preserved
loop-place-preserved c =
    let rest : c.behind_leaf-rest.result.now ≡ behind_leaf c.loop-place.rest.now = c.behind_leaf-rest.ensures in
    let leaf = c.in_ok-leaf_of.ensures ∙ ap (λ r. leaf_read r c.loop-place.rest.now) c.is_referred-is_referred.ensures in (
      rw (rest, c.in_ok-push.ensures.items) (leaves_on c.args.has_refer c.args.count c.loop-place.place _ c.loop-place.rest.now c.loop-place.leaves.items c.in_ok-leaf_of.field-0 _ c.loop-place-test.true (omega arith) leaf c.loop-place.invariant.0),
      rw rest (behind_on c.args.count c.loop-place.place c.loop-place.rest.now _ c.loop-place-test.true c.loop-place.invariant.1),
    )
