use Rattle.std.proofs.Common.{◌≡◌, ◌+◌, ◌-◌, ◌≤◌, ◌++◌, Ok, Err, length, replicate, subst, ap, ◌∙◌, arith}
use Rattle.std.proofs.lemmas.List.{length-replicate}
use Rattle.std.proofs.lemmas.List.{take-replicate, replicate-append-replicate}
use Rattle.pli_edit.specs.Handing.{IsHandedOver}
use Rattle.pli_edit.proofs.Handovers.{joined, cut_first, cut_later}
use Rattle.pli_edit.proofs.handing.hand_repeated.Goals as goal

pub returns-in-Err : goal.returns-in-Err
returns-in-Err g c =
    let start = g.D.Drain.history c.args.drain.now in
    let mid = g.D.Drain.history c.loop-done.drain in
    let new = g.D.Drain.history c.hand_over.new.drain in
    let byte = c.args.byte in
    let done = c.loop-done.done in
    let size = c.min-size.result in
    let more = c.in-Err.more in
    let least = c.min-size.ensures in
    let fits : size ≤ 256 = omega (arith, least) in
    let within : done + size ≤ c.args.count = omega (arith, least, c.loop-done.invariant.within) in
    let rest = c.args.count - (done + size) in
    let first = replicate done byte in
    let piece = replicate size byte in
    let behind = replicate rest byte in
    let part : IsHandedOver piece mid (Err more) new =
    subst (λ l. IsHandedOver l mid (Err more) new) (take-replicate size 256 byte fits) c.in-Err.ensures
    in
    let rest_left = cut_first piece behind mid new more part in
    let long = cut_later first (piece ++ behind) start mid new more c.loop-done.invariant.handed rest_left in
    let all : done + (size + rest) ≡ c.args.count = omega (arith, within) in
    let whole : first ++ (piece ++ behind) ≡ replicate c.args.count byte =
    ap (λ l. first ++ l) (replicate-append-replicate size rest byte)
    ∙ (replicate-append-replicate done (size + rest) byte ∙ ap (λ n. replicate n byte) all)
    in
    subst (λ k. IsHandedOver (replicate c.args.count byte) start (Err (k + more)) new) (length-replicate done byte)
    (subst (λ l. IsHandedOver l start (Err (length first + more)) new) whole long)

pub loop-done-preserved : goal.loop-done-preserved
loop-done-preserved g c =
    let start = g.D.Drain.history c.args.drain.now in
    let mid = g.D.Drain.history c.loop-done.drain in
    let new = g.D.Drain.history c.hand_over.new.drain in
    let byte = c.args.byte in
    let done = c.loop-done.done in
    let size = c.min-size.result in
    let least = c.min-size.ensures in
    let fits : size ≤ 256 = omega (arith, least) in
    let part : IsHandedOver (replicate size byte) mid (Ok tt) new =
    subst (λ l. IsHandedOver l mid (Ok tt) new) (take-replicate size 256 byte fits) c.in_default.ensures
    in
    record {
      within = omega (arith, least, c.loop-done.invariant.within);
      handed =
          subst (λ l. IsHandedOver l start (Ok tt) new) (replicate-append-replicate done size byte)
          (joined (replicate done byte) (replicate size byte) start mid new c.loop-done.invariant.handed part);
    }
