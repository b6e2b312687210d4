use Rattle.std.proofs.Common.{◌≡◌, ℕ, List, [], ◌∷◌, ◌++◌, ◌+◌, take, get_or, ap, sym, ◌∙◌, append_assoc}
use Rattle.std.proofs.lemmas.List.{take_more}
use Rattle.rv_meaning.specs.Memory.{bytes_of_word, bytes_of_words}
use Rattle.rv_image.proofs.Words.{bytes_of_words-append}
use Rattle.rv_image.proofs.word.push_words.Goals as goal

pub loop-word-preserved : goal.loop-word-preserved
loop-word-preserved c =
    let ws = c.args.words.now in
    let i = c.loop-word.word-index in
    let front = take i ws in
    let more : bytes_of_words (take (i + 1) ws) ≡ bytes_of_words front ++ bytes_of_word (get_or ws i 0) = ap bytes_of_words (take_more ws i 0 c.loop-word-test.true) ∙ bytes_of_words-append front (get_or ws i 0 ∷ []) in
    let so_far = ap (λ (bs : List ℕ). bs ++ bytes_of_word (get_or ws i 0)) c.loop-word.invariant in
    let grouped = append_assoc c.args.out.now.items (bytes_of_words front) (bytes_of_word (get_or ws i 0)) in
    c.in_ok-push_word.ensures ∙ so_far ∙ grouped ∙ ap (λ (bs : List ℕ). c.args.out.now.items ++ bs) (sym more)
