use Rattle.std.proofs.Common.{◌≡◌, ℕ, List, [], ◌∷◌, ◌++◌, ◌+◌, ◌*◌, add-one, ap, sym, ◌∙◌}
use Rattle.rv_meaning.specs.Memory.{load}
use Rattle.rv_image.proofs.Words.{words_at-more}
use Rattle.rv_image.proofs.word.words_at.Goals as goal

pub loop-k-preserved : goal.loop-k-preserved
loop-k-preserved c =
    let b = c.args.bytes.now in
    let k = c.loop-k.k in
    let pushed = c.in_ok-push.ensures.items in
    let word : c.word_at.result ≡ load 4 b (c.args.at + 4 * k) = c.word_at.ensures in
    let one = ap (λ (w : ℕ). c.loop-k.words.items ++ w ∷ []) word in
    let front = ap (λ (ws : List ℕ). ws ++ load 4 b (c.args.at + 4 * k) ∷ []) c.loop-k.invariant in
    rw add-one (pushed ∙ one ∙ front ∙ sym (words_at-more k b c.args.at))
