-- Words in parts of bytes.
use Rattle.std.proofs.Common.{◌≡◌, ℕ, zero, suc, ◌+◌, ◌*◌, ◌/◌, ◌<◌, ◌≤◌, List, [], ◌∷◌, ◌++◌, length, take, drop, get_or, refl, ap, sym, ◌∙◌, arith, length-drop}
use Rattle.std.proofs.lemmas.List.{get_or-drop, get_or-take, length-take}
use Rattle.rv_meaning.specs.Memory.{load, bytes_of_word, bytes_of_words}
use Rattle.rv_meaning.specs.Images.{words_at}
use Rattle.rv_image.specs.Reading.{words_of}

load-drop : (n : ℕ) (b : List ℕ) (k at : ℕ) → load n (drop k b) at ≡ load n b (k + at)
load-drop zero b k at = refl
load-drop (suc n) b k at =
    let place : k + suc at ≡ suc (k + at) = omega arith in
    let others = load-drop n b k (suc at) ∙ ap (λ (m : ℕ). load n b m) place in
    rw (get_or-drop k b at 0, others) refl

load-take : (n : ℕ) (b : List ℕ) (m at : ℕ) → at + n ≤ m → load n (take m b) at ≡ load n b at
load-take zero b m at h = refl
load-take (suc n) b m at h =
    let first = get_or-take m b at 0 (omega arith) in
    let others = load-take n b m (suc at) (omega arith) in
    rw (first, others) refl

words_at-drop : (n : ℕ) (b : List ℕ) (k at : ℕ) → words_at n (drop k b) at ≡ words_at n b (k + at)
words_at-drop zero b k at = refl
words_at-drop (suc n) b k at =
    let place : k + (at + 4) ≡ k + at + 4 = omega arith in
    let others = words_at-drop n b k (at + 4) ∙ ap (λ (m : ℕ). words_at n b m) place in
    ap (λ (w : ℕ). w ∷ words_at n (drop k b) (at + 4)) (load-drop 4 b k at) ∙ ap (λ (ws : List ℕ). load 4 b (k + at) ∷ ws) others

words_at-take : (n : ℕ) (b : List ℕ) (m at : ℕ) → at + 4 * n ≤ m → words_at n (take m b) at ≡ words_at n b at
words_at-take zero b m at h = refl
words_at-take (suc n) b m at h =
    let first = load-take 4 b m at (omega arith) in
    let others = words_at-take n b m (at + 4) (omega arith) in
    ap (λ (w : ℕ). w ∷ words_at n (take m b) (at + 4)) first ∙ ap (λ (ws : List ℕ). load 4 b at ∷ ws) others

pub words_of-short : (b : List ℕ) → length b < 4 → words_of b ≡ []
unfolding words_of
words_of-short b h =
    let none : length b / 4 ≡ 0 = omega arith in
    rw none refl

pub words_of-first : (b : List ℕ) → 4 ≤ length b → words_of b ≡ load 4 b 0 ∷ words_of (drop 4 b)
unfolding words_of
words_of-first b h =
    let l = length-drop 4 b in
    let more : length b / 4 ≡ suc (length (drop 4 b) / 4) = omega (arith, l) in
    rw more (ap (λ (ws : List ℕ). load 4 b 0 ∷ ws) (sym (words_at-drop (length (drop 4 b) / 4) b 4 0)))

-- words that stand in a part of the bytes
pub words_of-part : (b : List ℕ) (n at : ℕ) → at + 4 * n ≤ length b → words_of (take (4 * n) (drop at b)) ≡ words_at n b at
unfolding words_of
words_of-part b n at h =
    let l = length-drop at b in
    let count : length (take (4 * n) (drop at b)) / 4 ≡ n = omega (arith, length-take (4 * n) (drop at b), l) in
    let place : at + 0 ≡ at = omega arith in
    ap (λ (m : ℕ). words_at m (take (4 * n) (drop at b)) 0) count ∙ words_at-take n (drop at b) (4 * n) 0 (omega arith) ∙ words_at-drop n b at 0 ∙ ap (λ (m : ℕ). words_at n b m) place

-- one word more of a list that is read
pub words_at-more : (n : ℕ) (b : List ℕ) (at : ℕ) → words_at (suc n) b at ≡ words_at n b at ++ load 4 b (at + 4 * n) ∷ []
words_at-more zero b at =
    let place : at + 0 ≡ at = omega arith in
    ap (λ (m : ℕ). load 4 b m ∷ []) (sym place)
words_at-more (suc n) b at =
    let place : at + 4 + 4 * n ≡ at + 4 * suc n = omega arith in
    ap (λ (ws : List ℕ). load 4 b at ∷ ws) (words_at-more n b (at + 4) ∙ ap (λ (m : ℕ). words_at n b (at + 4) ++ load 4 b m ∷ []) place)

pub bytes_of_words-append : (xs ys : List ℕ) → bytes_of_words (xs ++ ys) ≡ bytes_of_words xs ++ bytes_of_words ys
bytes_of_words-append [] ys = refl
bytes_of_words-append (x ∷ xs) ys = ap (λ (bs : List ℕ). bytes_of_word x ++ bs) (bytes_of_words-append xs ys)

-- a word by its index
pub words_at-index : (n : ℕ) (b : List ℕ) (at k : ℕ) → k < n → get_or (words_at n b at) k 0 ≡ load 4 b (at + 4 * k)
words_at-index zero b at k h = absurd (omega arith)
words_at-index (suc n) b at zero h = ap (λ (m : ℕ). load 4 b m) (omega arith)
words_at-index (suc n) b at (suc k) h =
    let place : at + 4 + 4 * k ≡ at + 4 * suc k = omega arith in
    words_at-index n b (at + 4) k (omega arith) ∙ ap (λ (m : ℕ). load 4 b m) place
