-- Bytes whose end is padded, cut, moved to the front or joined.
use Rattle.std.proofs.Common.{◌≡◌, ℕ, zero, suc, ◌+◌, ◌-◌, ◌<◌, ◌≤◌, min, List, [], ◌∷◌, ◌++◌, length, take, drop, replicate, Option, Some, None, Ok, Err, refl, sym, ap, subst, ◌∙◌, arith}
use Rattle.std.proofs.lemmas.Bool.Decides.{nat_tests}
use Rattle.std.proofs.lemmas.List.{length-take, length-take-le, length-drop, length-append, take-take, take-append-le, take_at, drop_at, drop-append-le, drop-drop, drop-take, take-replicate, drop-replicate, take_min}
use Rattle.std.proofs.lemmas.List.Edits.{take-paste}
use Rattle.std.specs.List.{copy_within}
use Rattle.std.specs.Prelude.{slice_range}
use Rattle.pli_text.specs.declared.fault.TextFault.{TextFault}
use Rattle.pli_text.specs.Operands.{Becomes}
use Rattle.pli_meaning.specs.Texts.{fitted, joined}

-- ---- padded or cut to n bytes from x on

padded : (n m : ℕ) (t : List ℕ) → n ≤ m → take n t ++ replicate (n - length t) 32 ≡ take n (t ++ replicate m 32)
padded zero m t h = let none : 0 - length t ≡ 0 = omega arith in ap (λ k. replicate k 32) none
padded (suc n) m [] h = let all : suc n - 0 ≡ suc n = omega arith in ap (λ k. replicate k 32) all ∙ sym (take-replicate (suc n) m 32 h)
padded (suc n) m (b ∷ t) h =
    let same : suc n - suc (length t) ≡ n - length t = omega arith in
    ap (λ l. b ∷ l) (ap (λ k. take n t ++ replicate k 32) same ∙ padded n m t (omega arith))

min_comm : (a b : ℕ) → min a b ≡ min b a
min_comm a b = omega arith

-- a text over blanks
pub stored-fitted : (n k : ℕ) (t : List ℕ) → k ≡ min (length t) n → take k t ++ drop k (replicate n 32) ≡ fitted n t
stored-fitted n k t e =
    let behind : n - k ≡ n - length t = omega arith in
    let front : take k t ≡ take n t = ap (λ i. take i t) (e ∙ min_comm (length t) n) ∙ take_min n t in
    ap (λ l. l ++ drop k (replicate n 32)) front
    ∙ (ap (λ l. take n t ++ l) (drop-replicate k n 32) ∙ (ap (λ i. take n t ++ replicate i 32) behind ∙ padded n n t (omega arith)))

pub front-kept : (x n : ℕ) (bytes behind : List ℕ) → x ≤ length bytes → take x (take (x + n) bytes ++ behind) ≡ take x bytes
front-kept x n bytes behind h =
    take-append-le x (take (x + n) bytes) behind (omega (arith, length-take (x + n) bytes)) ∙ take-take x (x + n) bytes (omega arith)

pub end-fitted : (x n : ℕ) (bytes : List ℕ) → x ≤ length bytes → drop x (take (x + n) bytes ++ replicate (x + n - length bytes) 32) ≡ fitted n (drop x bytes)
end-fitted x n bytes h =
    let short : x + n - length bytes ≡ n - length (drop x bytes) = omega (arith, length-drop x bytes) in
    drop-append-le x (take (x + n) bytes) (replicate (x + n - length bytes) 32) (omega (arith, length-take (x + n) bytes))
    ∙ (ap (λ l. l ++ replicate (x + n - length bytes) 32) (drop-take x n bytes)
    ∙ (ap (λ k. take n (drop x bytes) ++ replicate k 32) short ∙ padded n n (drop x bytes) (omega arith)))

pub front-shortened : (x n : ℕ) (bytes : List ℕ) → take x (take (x + n) bytes) ≡ take x bytes
front-shortened x n bytes = take-take x (x + n) bytes (omega arith)

-- ---- a part moved to the front

moved : (x from to : ℕ) (bytes : List ℕ) → from ≤ to → x + to ≤ length bytes → take (x + to - from) (copy_within bytes (x + from) (x + to) x) ≡ take x bytes ++ slice_range (drop x bytes) from to
moved x from to bytes h k =
    let count : (x + to) - (x + from) ≡ to - from = omega arith in
    let end : x + to - from ≡ x + ((x + to) - (x + from)) = omega arith in
    ap (λ n. take n (copy_within bytes (x + from) (x + to) x)) end
    ∙ (take-paste bytes x (drop (x + from) bytes) ((x + to) - (x + from)) (omega arith) (omega (arith, length-drop (x + from) bytes))
    ∙ (ap (λ n. take x bytes ++ take n (drop (x + from) bytes)) count
    ∙ ap (λ l. take x bytes ++ take (to - from) l) (sym (drop-drop from x bytes))))

pub moved-front : (x from to : ℕ) (bytes : List ℕ) → from ≤ to → x + to ≤ length bytes → take x (take (x + to - from) (copy_within bytes (x + from) (x + to) x)) ≡ take x bytes
moved-front x from to bytes h k =
    ap (take x) (moved x from to bytes h k) ∙ take_at (take x bytes) (slice_range (drop x bytes) from to) x (length-take-le x bytes (omega arith))

pub moved-part : (x from to : ℕ) (bytes : List ℕ) → from ≤ to → x + to ≤ length bytes → drop x (take (x + to - from) (copy_within bytes (x + from) (x + to) x)) ≡ slice_range (drop x bytes) from to
moved-part x from to bytes h k =
    ap (drop x) (moved x from to bytes h k) ∙ drop_at (take x bytes) (slice_range (drop x bytes) from to) x (length-take-le x bytes (omega arith))

pub length-copy_within : (bytes : List ℕ) (a b x : ℕ) → x ≤ a → a ≤ b → b ≤ length bytes → length (copy_within bytes a b x) ≡ length bytes
length-copy_within bytes a b x h k =
    let front = take x bytes ++ take (b - a) (drop a bytes) in
    omega (
      arith,
      length-append front (drop (x + (b - a)) bytes),
      length-append (take x bytes) (take (b - a) (drop a bytes)),
      length-take x bytes,
      length-take (b - a) (drop a bytes),
      length-drop a bytes,
      length-drop (x + (b - a)) bytes,
    )

-- ---- two texts that become one

joined-short : (s t : List ℕ) → length s + length t ≤ 1024 → joined s t ≡ Some (s ++ t)
joined-short s t h = grind (arith, nat_tests)

joined-long : (s t : List ℕ) → 1024 < length s + length t → joined s t ≡ None
joined-long s t h = grind (arith, nat_tests)

pub becomes-joined : (s t : List ℕ) (below new : List (List ℕ)) (fault : TextFault) → length s + length t ≤ 1024 → new ≡ (s ++ t) ∷ below → Becomes (joined s t) 2 fault (t ∷ s ∷ below) (Ok tt) new
becomes-joined s t below new fault h e =
    let P : Option (List ℕ) → Type 0 = λ j. Becomes j 2 fault (t ∷ s ∷ below) (Ok tt) new in
    subst P (sym (joined-short s t h)) (refl, e)

pub becomes-long : (s t : List ℕ) (below new : List (List ℕ)) (fault : TextFault) → 1024 < length s + length t → new ≡ t ∷ s ∷ below → Becomes (joined s t) 2 fault (t ∷ s ∷ below) (Err fault) new
becomes-long s t below new fault h e =
    let P : Option (List ℕ) → Type 0 = λ j. Becomes j 2 fault (t ∷ s ∷ below) (Err fault) new in
    subst P (sym (joined-long s t h)) (refl, e)
