-- A table's words among its bytes.
use Rattle.std.proofs.Common.{◌≡◌, ℕ, ◌/◌, ◌^◌, ◌↔◌, List, [], length, sym, ap, subst, ◌∙◌, arith}
use Rattle.std.proofs.lemmas.List.{append-nil}
use Rattle.std.specs.Prelude.{Bool, IsTrue}
use Rattle.rv_meaning.specs.Memory.{bytes_of_words}
use Rattle.rv_meaning.specs.Images.{AreBelow, words_at}
use Rattle.rv_meaning.specs.Tables.{IsTable}
use Rattle.rv_meaning.proofs.ImageBytes.{length-bytes_of_words, words_back}
use Rattle.rv_image.specs.Reading.{words_of}

pub words_again : (ws : List ℕ) → AreBelow (2 ^ 32) ws → words_of (bytes_of_words ws) ≡ ws
unfolding words_of
words_again ws below =
    let l = length-bytes_of_words ws in
    let count : length (bytes_of_words ws) / 4 ≡ length ws = omega (arith, l) in
    ap (λ (n : ℕ). words_at n (bytes_of_words ws) 0) count ∙ words_back ws (bytes_of_words ws) [] 0 below (sym (append-nil (bytes_of_words ws)))

pub table_tested : (ws bytes : List ℕ) (holds : Bool) → AreBelow (2 ^ 32) ws → bytes ≡ bytes_of_words ws → IsTrue holds ↔ IsTable (words_of bytes) → IsTrue holds ↔ IsTable ws
table_tested ws bytes holds below is h =
    subst (λ (us : List ℕ). IsTrue holds ↔ IsTable us) (ap words_of is ∙ words_again ws below) h
