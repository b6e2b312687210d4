use Rattle.std.proofs.Common.{◌≡◌, ◌-◌, ℕ, length, take, drop, Some, refl, ap, sym, arith, length-drop}
use Rattle.std.proofs.lemmas.List.{take_all}
use Rattle.rv_image.specs.Reading.{words_of}
use Rattle.rv_image.proofs.Words.{words_of-short, words_of-first}
use Rattle.rv_image.proofs.leaf.word_of.Goals as goal

pub returns-then-words-lt4 : goal.returns-then-words-lt4
returns-then-words-lt4 c = rw (words_of-short c.args.words.now c.if-words-lt4.true) refl

pub returns : goal.returns
returns c =
    let ws = c.args.words.now in
    let all : take (length ws - 4) (drop 4 ws) ≡ drop 4 ws = take_all (length ws - 4) (drop 4 ws) (omega (arith, length-drop 4 ws)) in
    rw (words_of-first ws c.if-words-lt4.false, all) (ap (λ (w : ℕ). Some (w, words_of (drop 4 ws))) (sym c.word_at.ensures))
