use Rattle.std.proofs.Common.{refl, arith}
use Rattle.area_heap.proofs.Calls.{found, another, of_another, next_inside}
use Rattle.area_heap.proofs.chain.place_of.Goals as goal
use Rattle.area_heap.proofs.chain.place_of.Goals.{else-place-offset-via-then-place-offset+else-word_at-signature, else-place-offset-via-else-place-offset}

pub word_at-requires : goal.word_at-requires
word_at-requires c =
    let p = c.before-place.result in
    let e = c.before-place.ensures in
    omega (arith, next_inside c.args.bytes.now p.link_at p.end p.link e.reached (omega arith))

pub returns-then-word_at-signature : goal.returns-then-word_at-signature
returns-then-word_at-signature c =
    let p = c.before-place.result in
    let e = c.before-place.ensures in
    found c.args.bytes.now p.link_at p.end p.link c.args.offset c.args.signature c.requires e.reached e.behind e.before
    c.if-place-offset.true (cc)

pub returns-else-place-offset : goal.returns-else-place-offset
returns-else-place-offset c =
    let p = c.before-place.result in
    let e = c.before-place.ensures in
    elim c.else-place-offset.branch [
      | else-place-offset-via-then-place-offset+else-word_at-signature w ↦
          (refl, of_another c.args.bytes.now p.link_at p.end p.link c.args.offset c.args.signature w.word_at.result c.requires e.reached e.behind w.if-place-offset.true w.word_at.ensures w.if-word_at-signature.false)
      | else-place-offset-via-else-place-offset w ↦
          (refl, another c.args.bytes.now p.link_at p.end p.link c.args.offset c.args.signature c.requires e.reached e.behind e.before w.if-place-offset.false)
    ]
