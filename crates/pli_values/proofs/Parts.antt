-- Bytes written one part behind the other.
use Rattle.std.proofs.Common.{◌≡◌, ◌<◌, ◌≤◌, ◌*◌, get_or, refl, ℕ, ◌+◌, List, [], ◌++◌, length, take, drop, sym, ap, ◌∙◌, arith, append_assoc}
use Rattle.std.proofs.lemmas.List.{at_drop_more, take_at, drop_at, length-take-le, length-append, length-drop, drop-drop, take-append-drop}
use Rattle.rv_meaning.specs.Memory.{bytes_of_word, bytes_of_words}
use Rattle.pli_serving.specs.Bytes.{with_bytes}

pub length_with : (bytes m : List ℕ) (at : ℕ) → at + length bytes ≤ length m → length (with_bytes bytes at m) ≡ length m
length_with bytes m at inside =
    simp (length-append, length-drop) (let t = length-take-le at m (omega arith) in omega (arith, t))

-- what stands behind the written part
drop_behind : (bytes m : List ℕ) (at : ℕ) → at + length bytes ≤ length m → drop (at + length bytes) (with_bytes bytes at m) ≡ drop (at + length bytes) m
drop_behind bytes m at inside =
    let t = length-take-le at m (omega arith) in
    ap (drop (at + length bytes)) (sym (append_assoc (take at m) bytes (drop (at + length bytes) m)))
    ∙ drop_at (take at m ++ bytes) (drop (at + length bytes) m) (at + length bytes) (simp length-append (omega (arith, t)))

take_behind : (bytes m : List ℕ) (at : ℕ) → at + length bytes ≤ length m → take (at + length bytes) (with_bytes bytes at m) ≡ take at m ++ bytes
take_behind bytes m at inside =
    let t = length-take-le at m (omega arith) in
    ap (take (at + length bytes)) (sym (append_assoc (take at m) bytes (drop (at + length bytes) m)))
    ∙ take_at (take at m ++ bytes) (drop (at + length bytes) m) (at + length bytes) (simp length-append (omega (arith, t)))

-- what stands further behind
drop_further : (bytes m : List ℕ) (at k : ℕ) → at + length bytes ≤ length m → drop (at + length bytes + k) (with_bytes bytes at m) ≡ drop (at + length bytes + k) m
drop_further bytes m at k inside =
    sym (drop-drop k (at + length bytes) (with_bytes bytes at m)) ∙ ap (drop k) (drop_behind bytes m at inside) ∙ drop-drop k (at + length bytes) m

-- bytes written behind others are one run of bytes
pub written_behind : (first second m : List ℕ) (at : ℕ) → at + length first ≤ length m → with_bytes second (at + length first) (with_bytes first at m) ≡ with_bytes (first ++ second) at m
written_behind first second m at inside =
    let t = take_behind first m at inside in
    let d = drop_further first m at (length second) inside in
    let n : at + length first + length second ≡ at + length (first ++ second) = simp length-append (omega arith) in
    ap (λ xs. xs ++ (second ++ drop (at + length first + length second) (with_bytes first at m))) t
    ∙ ap (λ xs. (take at m ++ first) ++ (second ++ xs)) d
    ∙ append_assoc (take at m) first (second ++ drop (at + length first + length second) m)
    ∙ ap (λ xs. take at m ++ xs) (sym (append_assoc first second (drop (at + length first + length second) m)))
    ∙ ap (λ k. take at m ++ ((first ++ second) ++ drop k m)) n

-- one part behind another
pub behind_part : (first second m n o : List ℕ) (at next : ℕ) → n ≡ with_bytes first at m → next ≡ at + length first → at + length first ≤ length m → o ≡ with_bytes second next n → o ≡ with_bytes (first ++ second) at m
behind_part first second m n o at next f e inside g =
    g ∙ ap (λ k. with_bytes second k n) e ∙ ap (with_bytes second (at + length first)) f ∙ written_behind first second m at inside

-- the first of two parts is written
pub next_part : (first rest m n target : List ℕ) (here next : ℕ) → n ≡ with_bytes first here m → next ≡ here + length first → here + length first ≤ length m → with_bytes (first ++ rest) here m ≡ target → with_bytes rest next n ≡ target
next_part first rest m n target here next f e inside h =
    ap (λ k. with_bytes rest k n) e ∙ ap (with_bytes rest (here + length first)) f ∙ written_behind first rest m here inside ∙ h

-- nothing more is to be written
pub with_none : (at : ℕ) (m : List ℕ) → with_bytes [] at m ≡ m
with_none at m =
    let n : at + 0 ≡ at = omega arith in
    ap (λ k. take at m ++ drop k m) n ∙ take-append-drop at m

-- a word before others
pub next_word : (words m n target : List ℕ) (k here : ℕ) → k < length words → n ≡ with_bytes (bytes_of_word (get_or words k 0)) here m → here + 4 * length (drop k words) ≤ length m
    → with_bytes (bytes_of_words (drop k words)) here m ≡ target → with_bytes (bytes_of_words (drop (k + 1) words)) (here + 4) n ≡ target
next_word words m n target k here inside f room h =
    let word = get_or words k 0 in
    let first = at_drop_more (λ (ws : List ℕ). with_bytes (bytes_of_words ws) here m) words k 0 inside in
    let some = length-drop k words in
    next_part (bytes_of_word word) (bytes_of_words (drop (k + 1) words)) m n target here (here + 4) f refl (omega (arith, some, inside, room)) (sym first ∙ h)

pub room_for_words : (words : List ℕ) (k here bytes : ℕ) → k < length words → here + 4 * length (drop k words) ≤ bytes → here + 4 + 4 * length (drop (k + 1) words) ≤ bytes
room_for_words words k here bytes inside room =
    let some = length-drop k words in
    let more = length-drop (k + 1) words in
    omega (arith, some, more, inside, room)
