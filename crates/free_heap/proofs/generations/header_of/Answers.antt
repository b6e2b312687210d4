use Rattle.std.proofs.Common.{◌+◌, refl, arith}
use Rattle.free_heap.proofs.Opened.{no_offset, found, none_begins, of_another}
use Rattle.free_heap.proofs.generations.header_of.Goals as goal
use Rattle.free_heap.proofs.generations.header_of.Goals.{then-offset-ne0-via-then-offset-ne0}
use Rattle.free_heap.proofs.generations.header_of.Goals.{then-offset-ne0-via-else-offset-ne0+then-offset-capacity}
use Rattle.free_heap.proofs.generations.header_of.Goals.{else-begins-via-then-begins+else-word_at-signature}
use Rattle.free_heap.proofs.generations.header_of.Goals.{else-begins-via-else-begins}

pub returns-then-offset-ne0 : goal.returns-then-offset-ne0
returns-then-offset-ne0 c =
    let m = c.word_at-capacity.ensures in
    elim c.then-offset-ne0.branch [
      | then-offset-ne0-via-then-offset-ne0 w ↦
          (refl, no_offset c.args.bytes.now c.args.offset c.args.signature c.requires (λ a h. w.if-offset-ne0.true a))
      | then-offset-ne0-via-else-offset-ne0+then-offset-capacity w ↦ (
        refl,
        no_offset c.args.bytes.now c.args.offset c.args.signature c.requires (λ a h. absurd (omega (
          arith,
          h,
          m,
          w.if-offset-capacity.true,
        ))),
      )
    ]

pub returns-then-word_at-signature : goal.returns-then-word_at-signature
returns-then-word_at-signature c =
    found c.args.bytes.now c.args.offset c.args.signature c.word_at-capacity.result c.front_for.result
    (c.front_for.result + c.args.offset)
    c.requires c.word_at-capacity.ensures c.front_for.ensures c.if-offset-ne0.false (omega (
      arith,
      c.if-offset-capacity.false,
    )) (cc) refl (cc)

pub returns-else-begins : goal.returns-else-begins
returns-else-begins c =
    let m = c.word_at-capacity.ensures in
    elim c.else-begins.branch [
      | else-begins-via-then-begins+else-word_at-signature w ↦ (
        refl,
        of_another c.args.bytes.now c.args.offset c.args.signature w.word_at.result c.word_at-capacity.result
            c.front_for.result c.requires c.word_at-capacity.ensures c.front_for.ensures c.if-offset-ne0.false (omega
            (arith, c.if-offset-capacity.false)) (cc) w.word_at.ensures w.if-word_at-signature.false,
      )
      | else-begins-via-else-begins w ↦ (
        refl,
        none_begins c.args.bytes.now c.args.offset c.args.signature c.requires c.if-offset-ne0.false (omega
            (arith, m, c.if-offset-capacity.false)) (cc),
      )
    ]
