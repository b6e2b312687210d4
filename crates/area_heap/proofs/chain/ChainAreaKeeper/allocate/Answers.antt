use Rattle.std.proofs.Common.{◌≡◌, sym, ap, ◌∙◌, arith}
use Rattle.std.proofs.Math.Facts.{to_z-of_z}
use Rattle.rv_meaning.specs.Words.{word}
use Rattle.area_heap.specs.Answers.{offset_or_fault, placed_or}
use Rattle.area_heap.proofs.Calls.{too_much, placed_offset, placed_bytes}
use Rattle.area_heap.proofs.chain.ChainAreaKeeper.allocate.Goals as goal

pub returns-then-size-bytes-clause-answer : goal.returns-then-size-bytes-clause-answer
returns-then-size-bytes-clause-answer c =
    sym (ap offset_or_fault (too_much c.args.bytes.now c.args.size c.args.signature c.args.extent c.requires (omega arith)))

pub returns-then-size-bytes-clause-bytes : goal.returns-then-size-bytes-clause-bytes
returns-then-size-bytes-clause-bytes c =
    sym (ap (placed_or c.args.bytes.now) (too_much c.args.bytes.now c.args.size c.args.signature c.args.extent c.requires (omega arith)))

pub returns-clause-answer : goal.returns-clause-answer
returns-clause-answer c =
    let p = c.in-Some.place in
    placed_offset c.args.bytes.now c.args.size c.args.signature c.args.extent c.footprint.result p.link_at p.end p.link
    c.requires c.footprint.ensures (c.in-Some.ensures {u = tt})

pub returns-clause-bytes : goal.returns-clause-bytes
returns-clause-bytes c =
    let p = c.in-Some.place in
    let w : c.cast_unsigned.result ≡ word c.args.extent = c.cast_unsigned.ensures ∙ ap word (to_z-of_z c.ranges.extent) in
    placed_bytes c.args.bytes.now c.write.new.bytes c.set_word.new.bytes c.args.size c.args.signature c.args.extent c.cast_unsigned.result c.footprint.result p.link_at p.end p.link
    c.requires c.footprint.ensures (c.in-Some.ensures {u = tt}) w c.write.ensures c.set_word.ensures
