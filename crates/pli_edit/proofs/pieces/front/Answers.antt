use Rattle.std.proofs.Common.{◌≡◌, ◌<◌, ap, sym, ◌∙◌, arith, rules}
use Rattle.pli_edit.specs.FormatPlaces.{left_of, weight_of}
use Rattle.pli_edit.proofs.FormatPieces.{left_item, left_spent, left_range, weight_less, weight_range}
use Rattle.pli_edit.proofs.pieces.front.Goals.{in-Item+else-times-gt0, in-Range}
use Rattle.pli_edit.proofs.pieces.front.Goals as goal

pub returns-then-times-gt0-clause-first : goal.returns-then-times-gt0-clause-first
returns-then-times-gt0-clause-first c = (
  c.if-times-gt0.true,
  sym c.loop-piece.invariant.left
      ∙ left_item c.args.nodes.now c.pop.new.self.items c.loop-piece.pieces.items c.in-Some.piece c.in-Item.times c.in-Item.format c.in-Some.ensures.items c.in-Item.is,
)

pub loop-piece-smaller : goal.loop-piece-smaller
loop-piece-smaller c =
    let ns = c.args.nodes.now in
    let kept = ap (weight_of ns) c.reserve-in-Some.ensures.items in
    let less : weight_of ns c.match-piece.pieces.items < weight_of ns c.loop-piece.pieces.items =
    elim c.match-piece.branch [
      | in-Item+else-times-gt0 w ↦
          let there = ap (λ v. weight_of ns v.items) w.pieces-is in
          let light = weight_less ns c.pop.new.self.items c.loop-piece.pieces.items c.in-Some.piece c.in-Some.ensures.items in
          omega (arith, there, light)
      | in-Range w ↦
          let there = ap (λ v. weight_of ns v.items) w.pieces-is in
          let light = weight_range ns c.pop.new.self.items c.loop-piece.pieces.items w.put_split.new.pieces.items c.in-Some.piece
          w.in-Range.times w.in-Range.start w.in-Range.size c.in-Some.ensures.items w.in-Range.is w.put_split.ensures.lighter in
          omega (arith, there, light)
    ]
    in
    omega (arith, kept, less)

pub loop-piece-preserved : goal.loop-piece-preserved
loop-piece-preserved c =
    let ns = c.args.nodes.now in
    let same : left_of ns c.match-piece.pieces.items ≡ left_of ns c.loop-piece.pieces.items =
    elim c.match-piece.branch [
      | in-Item+else-times-gt0 w ↦
          ap (λ v. left_of ns v.items) w.pieces-is
          ∙ left_spent ns c.pop.new.self.items c.loop-piece.pieces.items c.in-Some.piece w.in-Item.times w.in-Item.format
          c.in-Some.ensures.items w.in-Item.is (omega (arith, w.if-times-gt0.false))
      | in-Range w ↦
          ap (λ v. left_of ns v.items) w.pieces-is
          ∙ left_range ns c.pop.new.self.items c.loop-piece.pieces.items w.put_split.new.pieces.items c.in-Some.piece
          w.in-Range.times w.in-Range.start w.in-Range.size c.in-Some.ensures.items w.in-Range.is w.put_split.ensures.left
    ]
    in
    record {
      left = ap (left_of ns) c.reserve-in-Some.ensures.items ∙ (same ∙ c.loop-piece.invariant.left);
      room = omega (arith, c.in_ok-reserve-2.ensures.ok);
    }

pub returns-in_err-reserve-2-clause-first : goal.returns-in_err-reserve-2-clause-first
returns-in_err-reserve-2-clause-first c =
    let ns = c.args.nodes.now in
    let same : left_of ns c.match-piece.pieces.items ≡ left_of ns c.loop-piece.pieces.items =
    elim c.match-piece.branch [
      | in-Item+else-times-gt0 w ↦
          ap (λ v. left_of ns v.items) w.pieces-is
          ∙ left_spent ns c.pop.new.self.items c.loop-piece.pieces.items c.in-Some.piece w.in-Item.times w.in-Item.format
          c.in-Some.ensures.items w.in-Item.is (omega (arith, w.if-times-gt0.false))
      | in-Range w ↦
          ap (λ v. left_of ns v.items) w.pieces-is
          ∙ left_range ns c.pop.new.self.items c.loop-piece.pieces.items w.put_split.new.pieces.items c.in-Some.piece
          w.in-Range.times w.in-Range.start w.in-Range.size c.in-Some.ensures.items w.in-Range.is w.put_split.ensures.left
    ]
    in
    let all : left_of ns c.reserve-in-Some.new.self.items ≡ left_of ns c.args.pieces.now.items =
    ap (left_of ns) c.reserve-in-Some.ensures.items ∙ (same ∙ c.loop-piece.invariant.left)
    in
    search rules
