use Rattle.std.proofs.Common.{◌≡◌, ◌%◌, ap, ◌∙◌, arith}
use Rattle.area_keeper.specs.Chain.{capacity_in}
use Rattle.free_keeper.specs.FreeList.{front_for}
use Rattle.free_heap.proofs.Opened.{opened}
use Rattle.free_heap.proofs.Calls.{end_facts, end_place, end_rounded}
use Rattle.free_heap.proofs.free_list.FreeListAreaKeeper.copy_from.Goals as goal

pub copy_part-requires-clause-from_inside : goal.copy_part-requires-clause-from_inside
copy_part-requires-clause-from_inside c =
    let from = c.args.from.now in
    let x = opened from c.requires.from in
    let e = c.end_in-end.ensures.0 in
    let w = (end_facts from c.requires.from).within in
    let f : c.front_for.result ≡ front_for (capacity_in from) = c.front_for.ensures ∙ ap front_for
    c.word_at-source.ensures in
    let n = x.as_many in
    omega (arith, e, w, f, n)

pub write_end-requires-clause-rounded : goal.write_end-requires-clause-rounded
write_end-requires-clause-rounded c =
    let x = opened c.args.bytes.now c.requires.to in
    let k : c.word_at-capacity.result % 16 ≡ 0 = ap (λ y. y % 16) c.word_at-capacity.ensures ∙ x.rounded in
    end_rounded c.args.from.now c.word_at-capacity.result c.end_in-end.result.0 c.requires.from k (omega (
      arith,
      c.if-end-capacity.false,
    )) c.end_in-end.ensures.0

pub write_end-requires-clause-place : goal.write_end-requires-clause-place
write_end-requires-clause-place c =
    let bytes = c.args.bytes.now in
    let x = opened bytes c.requires.to in
    let k : c.word_at-capacity.result ≡ capacity_in bytes = c.word_at-capacity.ensures in
    let f : c.front_for-front.result ≡ front_for (capacity_in bytes) = c.front_for-front.ensures ∙ ap front_for
    c.word_at-capacity.ensures in
    let n = x.as_many in
    let m = x.front in
    let p = c.set_word.auto.bytes in
    let q = c.copy_map.auto.bytes in
    let r = c.copy_part.auto.bytes in
    end_place c.args.from.now c.copy_part.new.bytes c.front_for-front.result c.word_at-capacity.result
    c.end_in-end.result.1 c.end_in-end.result.0 c.requires.from
    (omega (arith, f, m)) (omega (arith, k, f, n, p, q, r)) (omega (arith, c.if-end-capacity.false))
    c.end_in-end.ensures.0 c.end_in-end.ensures.1
