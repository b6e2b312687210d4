use Rattle.std.proofs.Common.{◌<◌, ◌≤◌, ◌+◌, ◌*◌, ◌∙◌, List, ℕ, ap, arith, drop, length, sym}
use Rattle.pli_typing.specs.Signatures.{leaf_bytes}
use Rattle.pli_meaning.specs.BasicValues.{BasicValue}
use Rattle.pli_serving.specs.Bytes.{with_bytes}
use Rattle.pli_serving.specs.Stored.{kept_bytes}
use Rattle.pli_serving.specs.Values.{element_size}
use Rattle.pli_signatures.specs.View.{kind_of}
use Rattle.pli_aggregates.specs.Runs.{standing}
use Rattle.pli_aggregates.proofs.Running.{got_standing, inside_at, length_standing}
use Rattle.pli_parts.specs.Putting.{elements_put}
use Rattle.pli_parts.proofs.Puts.{no_more_elements, one_more_element, room_for}
use Rattle.pli_parts.proofs.storing.put_each.Goals as goal

pub overflow_mul-run : goal.overflow_mul-run
overflow_mul-run c =
    let run = c.args.run in
    let inside = inside_at (leaf_bytes (kind_of c.args.kind)) (length c.args.memory.now) run.at run.step run.count
    c.loop-number.number c.requires.within c.loop-number-test.true in
    omega (arith, inside)

pub overflow_add-run : goal.overflow_add-run
overflow_add-run c =
    let run = c.args.run in
    let inside = inside_at (leaf_bytes (kind_of c.args.kind)) (length c.args.memory.now) run.at run.step run.count
    c.loop-number.number c.requires.within c.loop-number-test.true in
    omega (arith, inside)

pub put_value-requires : goal.put_value-requires
put_value-requires c =
    let run = c.args.run in
    let inside = inside_at (leaf_bytes (kind_of c.args.kind)) (length c.args.memory.now) run.at run.step run.count
    c.loop-number.number c.requires.within c.loop-number-test.true in
    omega (arith, inside, c.loop-number.auto.memory)

pub value_at_place-requires : goal.value_at_place-requires
value_at_place-requires c =
    room_for (element_size (kind_of c.args.taken.now.kind)) c.loop-number.number c.args.run.count
    (length c.args.taken.now.bytes.items) c.loop-number-test.true c.requires.whole

pub loop-number-preserved : goal.loop-number-preserved
loop-number-preserved c =
    let run = c.args.run in
    let n = c.loop-number.number in
    let target = kind_of c.args.kind in
    let source = kind_of c.args.taken.now.kind in
    let bytes = c.args.taken.now.bytes.items in
    let all = standing run.at run.step run.count in
    let at = run.at + run.step * n in
    let long = length_standing run.at run.step run.count in
    let test = c.loop-number-test.true in
    let below : n < length all = omega (arith, test, long) in
    ap (λ (m : List ℕ). elements_put target source bytes (n + 1) (drop (n + 1) all) m)
    (c.put_value.ensures ∙ ap (λ (v : BasicValue). with_bytes (kept_bytes target v) at c.loop-number.memory)
    c.value_at_place.ensures)
    ∙ sym (one_more_element target source bytes n at all c.loop-number.memory below
    (sym (got_standing run.at run.step run.count n test)))
    ∙ c.loop-number.invariant

pub returns : goal.returns
returns c =
    let run = c.args.run in
    let all = standing run.at run.step run.count in
    let long = length_standing run.at run.step run.count in
    let past : length all ≤ c.loop-number.number = omega (arith, long, c.loop-number-test.false) in
    sym (no_more_elements (kind_of c.args.kind) (kind_of c.args.taken.now.kind) c.args.taken.now.bytes.items
    c.loop-number.number all c.loop-number.memory past)
    ∙ c.loop-number.invariant
