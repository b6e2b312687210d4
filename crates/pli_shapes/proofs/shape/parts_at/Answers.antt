use Rattle.std.proofs.Common.{◌≡◌, ◌+◌, ◌-◌, ◌<◌, ◌≤◌, ◌^◌, [], ◌∷◌, ◌++◌, length, ap, sym, ◌∙◌, arith}
use Rattle.std.proofs.lemmas.List.{length-append}
use Rattle.pli_values.specs.Calls.{call_of}
use Rattle.pli_shapes.proofs.Parts.{part_read}
use Rattle.pli_shapes.proofs.shape.parts_at.Goals as goal

pub overflow_add-left : goal.overflow_add-left
overflow_add-left c =
    let e : c.args.source.now.layout.end < 2 ^ 32 = omega (arith, c.end_of-most.type_inv, c.end_of-most.ensures) in
    omega (arith, e, c.loop-left.invariant.bounded, c.loop-left.invariant.room, c.from.ensures)

pub loop-left-preserved : goal.loop-left-preserved
loop-left-preserved c =
    let v = c.loop-left.invariant in
    let parts = c.loop-left.parts.items in
    let p = c.in-Some.part in
    let more : c.push.new.self.items ≡ parts ++ p ∷ [] = c.in_ok-push.ensures.items in
    let long : length c.push.new.self.items ≡ length parts + 1 = ap length more ∙ length-append parts (p ∷ []) in
    let inside : c.loop-left.here + 12 ≤ c.args.source.now.layout.end = c.in-Some.ensures.within in
    let next : c.loop-left.left - 1 + c.from.result ≡ c.loop-left.left - 1 + p.inside = ap (λ k. c.loop-left.left - 1 + k) c.from.ensures in
    record {
      here = omega (arith, v.here, long);
      room = omega (arith, v.here, long, inside);
      bounded = omega (arith, v.bounded, long, c.from.ensures);
      read = part_read (call_of c.args.source.now) parts c.push.new.self.items p c.loop-left.left (c.loop-left.left - 1 + c.from.result) c.loop-left.here _ (sym c.in-Some.ensures.part) (omega arith) inside next more v.read;
    }
