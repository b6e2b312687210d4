-- What a variable that holds texts keeps of a text: in memory and in the meaning.
use Rattle.std.proofs.Common.{◌≡◌, ℕ, zero, suc, ◌+◌, ◌-◌, ◌≤◌, List, [], ◌∷◌, ◌++◌, length, Bool, true, false, refl, sym, ap, ◌∙◌, subst, arith, length-append, append-nil}
use Rattle.std.specs.Prelude.{◌/◌, ◌%◌, take, drop, slice_index}
use Rattle.std.proofs.lemmas.List.{append_assoc, length-replicate, length-take-le}
use Rattle.std.proofs.Math.Seq.{take-append_seam, drop-append_seam, take-append-add, drop-append-add}
use Rattle.rv_meaning.specs.Memory.{load}
use Rattle.pli_typing.specs.Signatures.{Character, Varying}
use Rattle.pli_meaning.specs.Stream.{blanks}
use Rattle.pli_meaning.specs.Texts.{fitted}
use Rattle.pli_meaning.specs.BasicValues.{BasicValue, BasicText}
use Rattle.pli_meaning.specs.Contents.{text_in, kept, seen}
use Rattle.pli_serving.specs.Bytes.{bytes_at, with_bytes}
use Rattle.pli_serving.specs.Stored.{kept_bytes}
use Rattle.pli_headline.proofs.WrittenBytes.{byte-with_inside}
use Rattle.pli_headline.proofs.TextPlaces.{text_kind_of, text_bytes, TextThere}

-- padded or cut, or cut where it varies
abbrev pub text_kept_as : (varying : Bool) → (most : ℕ) → List ℕ → List ℕ
text_kept_as false most text = fitted most text
text_kept_as true most text = take most text

-- ---- lists

seam_taken : (n : ℕ) (xs ys : List ℕ) → length xs ≡ n → take n (xs ++ ys) ≡ xs
seam_taken n xs ys e = ap (λ u. take u (xs ++ ys)) (sym e) ∙ take-append_seam xs ys

seam_dropped : (n : ℕ) (xs ys : List ℕ) → length xs ≡ n → drop n (xs ++ ys) ≡ ys
seam_dropped n xs ys e = ap (λ u. drop u (xs ++ ys)) (sym e) ∙ drop-append_seam xs ys

seam_further : (n k : ℕ) (xs ys : List ℕ) → length xs ≡ n → drop (n + k) (xs ++ ys) ≡ drop k ys
seam_further n k xs ys e = ap (λ u. drop (u + k) (xs ++ ys)) (sym e) ∙ drop-append-add xs ys k

pub taken_most : (n : ℕ) (t : List ℕ) → length (take n t) ≤ n
taken_most zero [] = omega arith
taken_most zero (b ∷ t) = omega arith
taken_most (suc n) [] = omega arith
taken_most (suc n) (b ∷ t) = let h = taken_most n t in omega (arith, h)

pub fitted_length : (n : ℕ) (t : List ℕ) → length (fitted n t) ≡ n
fitted_length n t =
    let a = length-append t (blanks n) in
    let b = length-replicate {A = ℕ} n 32 in
    length-take-le n (t ++ blanks n) (omega (arith, a, b))

-- a text that isn't too long is padded
fitted_is : (n : ℕ) (t : List ℕ) → length t ≤ n → fitted n t ≡ t ++ take (n - length t) (blanks n)
fitted_is n t h =
    let e : n ≡ length t + (n - length t) = omega (arith, h) in
    ap (λ u. take u (t ++ blanks n)) e ∙ take-append-add t (blanks n) (n - length t)

pub kept_short : (varying : Bool) (most : ℕ) (text : List ℕ) → most ≤ 1024 → length (text_kept_as varying most text) ≤ 1024
kept_short false most text h = let e = fitted_length most text in omega (arith, e, h)
kept_short true most text h = let e = taken_most most text in omega (arith, e, h)

-- ---- in the meaning

pub kept_seen : (varying : Bool) (most : ℕ) (old : BasicValue) (text : List ℕ) → seen (text_kind_of varying most) (kept (text_kind_of varying most) old (BasicText text)) ≡ BasicText (text_kept_as varying most text)
kept_seen false most old text =
    ap BasicText (seam_taken most (fitted most text) (drop most (text_in old)) (fitted_length most text))
kept_seen true most old text = refl

-- ---- in memory

character_bytes : (n : ℕ) (t : List ℕ) → kept_bytes (Character n) (BasicText t) ≡ fitted n t
character_bytes n t =
    ap (take n) (append_assoc (fitted n t) (drop n []) (blanks n))
    ∙ seam_taken n (fitted n t) (drop n [] ++ blanks n) (fitted_length n t)

pub kept_length : (varying : Bool) (most : ℕ) (text : List ℕ) → length (kept_bytes (text_kind_of varying most) (BasicText text)) ≡ text_bytes varying most
kept_length false most text = ap length (character_bytes most text) ∙ fitted_length most text
kept_length true most text = let e = fitted_length most (take most text) in omega (arith, e)

written_there : (bs m : List ℕ) (at n : ℕ) → length bs ≡ n → at + n ≤ length m → bytes_at n at (with_bytes bs at m) ≡ bs
written_there bs m at n e h =
    let rest = drop (at + length bs) m in
    ap (take n) (seam_dropped at (take at m) (bs ++ rest) (length-take-le at m (omega (arith, h))))
    ∙ seam_taken n bs rest e

-- the bytes behind a length
behind_length : (a b : ℕ) (u pad m : List ℕ) (at : ℕ) → at + (2 + length (u ++ pad)) ≤ length m → bytes_at (length u) (at + 2) (with_bytes (a ∷ b ∷ (u ++ pad)) at m) ≡ u
behind_length a b u pad m at h =
    let bs = a ∷ b ∷ (u ++ pad) in
    let rest = drop (at + length bs) m in
    ap (take (length u)) (seam_further at 2 (take at m) (bs ++ rest) (length-take-le at m (omega (arith, h))))
    ∙ ap (take (length u)) (append_assoc u pad rest)
    ∙ seam_taken (length u) u (pad ++ rest) refl

length_there : (n : ℕ) (more m : List ℕ) (at : ℕ) → n ≤ 1024 → at + (2 + length more) ≤ length m → load 2 (with_bytes (n % 256 ∷ n / 256 % 256 ∷ more) at m) at ≡ n
length_there n more m at few h =
    let bs = n % 256 ∷ n / 256 % 256 ∷ more in
    let m' = with_bytes bs at m in
    let at0 : at ≡ at + 0 = omega arith in
    let at1 : suc at ≡ at + 1 = omega arith in
    let b0 : slice_index m' at ≡ n % 256 = ap (slice_index m') at0 ∙ byte-with_inside bs m at 0 (omega (arith, h)) (omega arith) in
    let b1 : slice_index m' (suc at) ≡ n / 256 % 256 = ap (slice_index m') at1 ∙ byte-with_inside bs m at 1 (omega (arith, h)) (omega arith) in
    omega (arith, few, b0, b1)

-- a text that was stored stands there as it is kept
pub kept_there : (varying : Bool) (most at : ℕ) (m text : List ℕ) → most ≤ 1024 → at + text_bytes varying most ≤ length m → TextThere varying most at (with_bytes (kept_bytes (text_kind_of varying most) (BasicText text)) at m) (text_kept_as varying most text)
kept_there false most at m text few room =
    ap (λ u. bytes_at most at (with_bytes u at m)) (character_bytes most text)
    ∙ written_there (fitted most text) m at most (fitted_length most text) room
kept_there true most at m text few room =
    let u = take most text in
    let short = taken_most most text in
    let size = fitted_length most u in
    let pad = take (most - length u) (blanks most) in
    let same = fitted_is most u short in
    let size2 = ap length same in
    let n = length u in
    let m' = with_bytes (kept_bytes (Varying most) (BasicText text)) at m in
    let e : load 2 m' at ≡ n = length_there n (fitted most u) m at (omega (arith, few, short)) (omega (arith, room, size)) in (
      subst (λ w. w ≤ most) (sym e) short,
      ap (λ w. bytes_at w (at + 2) m') e
          ∙ ap (λ w. bytes_at n (at + 2) (with_bytes (n % 256 ∷ n / 256 % 256 ∷ w) at m)) same
          ∙ behind_length (n % 256) (n / 256 % 256) u pad m at (omega (arith, room, size, size2)),
    )

-- ---- how texts begin

front_there : (n : ℕ) (front rest m : List ℕ) (at : ℕ) → length front ≡ n → at + length (front ++ rest) ≤ length m → bytes_at n at (with_bytes (front ++ rest) at m) ≡ front
front_there n front rest m at e h =
    let tail = drop (at + length (front ++ rest)) m in
    ap (take n) (seam_dropped at (take at m) ((front ++ rest) ++ tail) (length-take-le at m (omega (arith, h))))
    ∙ ap (take n) (append_assoc front rest tail)
    ∙ seam_taken n front (rest ++ tail) e

-- what has its length is fitted already
fitted_same : (n : ℕ) (text : List ℕ) → length text ≡ n → fitted n text ≡ text
fitted_same n text e = seam_taken n text (blanks n) e

-- a text of its length, with zeros behind it
pub padded_there : (n : ℕ) (text zeros m : List ℕ) (at : ℕ) → length text ≡ n → at + length (((fitted n text ++ zeros) ++ []) ++ []) ≤ length m → bytes_at n at (with_bytes (((fitted n text ++ zeros) ++ []) ++ []) at m) ≡ text
padded_there n text zeros m at e h =
    let front = fitted n text in
    let same : ((front ++ zeros) ++ []) ++ [] ≡ front ++ (zeros ++ []) = append_assoc (front ++ zeros) [] [] ∙ append_assoc front zeros [] in
    let size = ap length same in
    ap (λ u. bytes_at n at (with_bytes u at m)) same
    ∙ front_there n front (zeros ++ []) m at (fitted_length n text) (omega (arith, h, size))
    ∙ fitted_same n text e

-- all of a text
pub all_taken : (n : ℕ) (t : List ℕ) → length t ≡ n → take n t ≡ t
all_taken n t e = ap (take n) (sym (append-nil t)) ∙ seam_taken n t [] e

pub blanks_taken : (n : ℕ) → take n (blanks n) ≡ blanks n
blanks_taken n = all_taken n (blanks n) (length-replicate {A = ℕ} n 32)

none_dropped : (n : ℕ) → drop {A = ℕ} n [] ≡ []
none_dropped zero = refl
none_dropped (suc n) = refl

-- nothing is hidden behind a text that stands alone
pub fitted_alone : (n : ℕ) (t : List ℕ) → fitted n t ++ drop n [] ≡ fitted n t
fitted_alone n t = ap (λ u. fitted n t ++ u) (none_dropped n) ∙ append-nil (fitted n t)

-- one that varies, behind its length
pub cut_there : (n : ℕ) (text zeros m : List ℕ) (at : ℕ) → n ≤ 1024 → length text ≤ n → at + (2 + length (((fitted n text ++ zeros) ++ []) ++ [])) ≤ length m → TextThere true n at (with_bytes (length text % 256 ∷ length text / 256 % 256 ∷ (((fitted n text ++ zeros) ++ []) ++ [])) at m) text
cut_there n text zeros m at few short h =
    let more = ((fitted n text ++ zeros) ++ []) ++ [] in
    let rest = take (n - length text) (blanks n) ++ zeros in
    let k = length text in
    let m' = with_bytes (k % 256 ∷ k / 256 % 256 ∷ more) at m in
    let same : more ≡ text ++ rest =
    append-nil ((fitted n text ++ zeros) ++ [])
    ∙ append-nil (fitted n text ++ zeros)
    ∙ ap (λ u. u ++ zeros) (fitted_is n text short)
    ∙ append_assoc text (take (n - length text) (blanks n)) zeros in
    let size = ap length same in
    let e : load 2 m' at ≡ k = length_there k more m at (omega (arith, few, short)) h in (
      subst (λ w. w ≤ n) (sym e) short,
      ap (λ w. bytes_at w (at + 2) m') e
          ∙ ap (λ w. bytes_at k (at + 2) (with_bytes (k % 256 ∷ k / 256 % 256 ∷ w) at m)) same
          ∙ behind_length (k % 256) (k / 256 % 256) text rest m at (omega (arith, h, size)),
    )
