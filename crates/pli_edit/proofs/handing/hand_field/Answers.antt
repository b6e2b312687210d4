use Rattle.std.proofs.Common.{◌≡◌, ◌+◌, ◌++◌, Err, length, take, replicate, subst, ap, ◌∙◌}
use Rattle.std.proofs.Common.{length-append, append_assoc}
use Rattle.std.proofs.lemmas.List.{length-replicate}
use Rattle.pli_edit.specs.Handing.{IsHandedOver}
use Rattle.pli_edit.proofs.Handovers.{joined, cut_first, cut_later, piece_taken}
use Rattle.pli_edit.proofs.handing.hand_field.Goals as goal

pub returns-in-Err : goal.returns-in-Err
returns-in-Err g c =
    let start = g.D.Drain.history c.args.drain.now in
    let mid = g.D.Drain.history c.hand_repeated.new.drain in
    let new = g.D.Drain.history c.hand_over-2.new.drain in
    let text = c.args.text.now in
    let count = c.in-Err.count in
    let first = replicate c.args.before c.args.fill in
    let behind = replicate c.args.behind c.args.fill in
    let part = cut_first text behind mid new count c.in-Err.ensures in
    subst (λ k. IsHandedOver (first ++ (text ++ behind)) start (Err (k + count)) new)
    (length-replicate c.args.before c.args.fill)
    (cut_later first (text ++ behind) start mid new count c.in_ok-hand_repeated.ensures part)

pub returns-in-Err-hand_repeated : goal.returns-in-Err-hand_repeated
returns-in-Err-hand_repeated g c =
    let start = g.D.Drain.history c.args.drain.now in
    let one = g.D.Drain.history c.hand_repeated.new.drain in
    let two = g.D.Drain.history c.hand_over-2.new.drain in
    let new = g.D.Drain.history c.hand_repeated-2.new.drain in
    let text = c.args.text.now in
    let count = c.in-Err-hand_repeated.count in
    let first = replicate c.args.before c.args.fill in
    let behind = replicate c.args.behind c.args.fill in
    let before : length (first ++ text) ≡ c.args.before + length text =
    length-append first text ∙ ap (λ n. n + length text) (length-replicate c.args.before c.args.fill)
    in
    subst (λ k. IsHandedOver (first ++ (text ++ behind)) start (Err (k + count)) new) before
    (subst (λ l. IsHandedOver l start (Err (length (first ++ text) + count)) new) (append_assoc first text behind)
    (cut_later (first ++ text) behind start two new count
    (joined first text start one two c.in_ok-hand_repeated.ensures c.in_default.ensures)
    c.in-Err-hand_repeated.ensures))

pub returns-then-size-le-PIECE : goal.returns-then-size-le-PIECE
returns-then-size-le-PIECE g c =
    let start = g.D.Drain.history c.args.drain.now in
    let new = g.D.Drain.history c.hand_over.new.drain in
    let size = c.args.before + length c.args.text.now + c.args.behind in
    let text = c.args.text.now in
    let fill = c.args.fill in
    let field = replicate c.args.before fill ++ (text ++ replicate c.args.behind fill) in
    let same : take size c.field_of-field.result ≡ field =
    ap (take size) c.field_of-field.ensures
    ∙ piece_taken fill c.args.before text c.args.behind c.if-size-le-PIECE.true
    in
    subst (λ l. IsHandedOver l start c.hand_over.result new) same c.hand_over.ensures
