use Rattle.std.proofs.Common.{◌≡◌, ◌∙◌, ◌+◌, ap, arith}
use Rattle.pli_meaning.specs.Contents as C
use Rattle.pli_meaning.specs.Contents.{initial_at}
use Rattle.pli_serving.specs.Stored.{kept_value}
use Rattle.pli_serving.specs.Values.{element_bytes}
use Rattle.pli_signatures.specs.View.{kind_of}
use Rattle.pli_values.specs.Items.{items_left}
use Rattle.pli_values.specs.Sizes.{written_size}
use Rattle.pli_values.specs.View.{value_of}
use Rattle.pli_values.proofs.Fresh.{next_place, next_written, room}
use Rattle.pli_values.proofs.generation.put_elements.Goals as goal

pub put_element-at-requires : goal.put_element-at-requires
put_element-at-requires c =
    let r = room (kind_of c.args.items.kind) c.loop-done.done c.args.count (omega arith) in
    let p = c.loop-done.invariant.place in
    omega (arith, r)

pub loop-done-preserved : goal.loop-done-preserved
loop-done-preserved c =
    let kind = kind_of c.args.items.kind in
    let values = initial_at (items_left c.args.items) in
    let done = c.loop-done.done in
    let known = c.loop-done.invariant in
    let r = room kind done c.args.count (omega arith) in
    let here : done + 0 ≡ done = omega arith in
    let value = c.next.ensures.value ∙ known.values 0 ∙ ap values here in
    record {
      right = c.next.ensures.right;
      kind = c.next.ensures.kind ∙ known.kind;
      values = λ n. (let e : done + (n + 1) ≡ done + 1 + n = omega arith in c.next.ensures.behind n ∙ known.values (n + 1) ∙ ap values e);
      place = next_place (written_size kind) c.args.at c.loop-done.at c.put_element-at.result done known.place c.put_element-at.ensures.behind;
      written = next_written kind values c.args.at c.loop-done.at done (element_bytes kind (kept_value kind (value_of c.initial_value-value.result))) c.args.memory.now _ _ known.written known.place (omega (arith, r)) (c.initial_value-value.ensures ∙ ap (λ v. element_bytes kind (C.initial_of kind v)) value) c.put_element-at.ensures.written;
    }
