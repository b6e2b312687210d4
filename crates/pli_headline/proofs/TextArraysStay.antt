-- The texts of an array in memory, one behind the other, each in whole words: what stores and written bytes leave of them.
use Rattle.std.proofs.Common.{◌≡◌, ℕ, suc, ◌+◌, ◌*◌, ◌<◌, ◌≤◌, ◌⊎◌, inl, inr, List, length, Bool, true, false, refl, sym, subst, arith}
use Rattle.std.specs.Prelude.{cond, ◌==◌}
use Rattle.std.proofs.lemmas.Bool.{eqb-true, cases_lt}
use Rattle.std.proofs.lemmas.Bool.Decides.{nat_tests}
use Rattle.std.proofs.Math.Nat.{mul-le-mul_right}
use Rattle.rv_meaning.specs.Memory.{store}
use Rattle.pli_typing.specs.Signatures.{rounded_up}
use Rattle.pli_meaning.specs.BasicValues.{BasicText}
use Rattle.pli_serving.specs.Bytes.{with_bytes}
use Rattle.pli_serving.specs.Stored.{kept_bytes}
use Rattle.pli_headline.proofs.ArrayPlaces.{suc-times}
use Rattle.pli_headline.proofs.TextPlaces.{text_kind_of, text_bytes, TextThere}
use Rattle.pli_headline.proofs.TextsKept.{text_kept_as, kept_length, kept_there}
use Rattle.pli_headline.proofs.TextsStay.{text_other, text_beside}

-- the bytes from one element to the next
abbrev pub text_stride : (varying : Bool) → (most : ℕ) → ℕ
text_stride varying most = rounded_up 4 (text_bytes varying most)

pub stride_long : (varying : Bool) (most : ℕ) → text_bytes varying most ≤ text_stride varying most
stride_long varying most = let n = text_bytes varying most in omega arith

-- so many texts from a place on, by their places
abbrev pub TextsThere : List ℕ → (at count : ℕ) → (varying : Bool) → (most : ℕ) → (ℕ → List ℕ) → Type 0
TextsThere m at count varying most texts =
    (p : ℕ) → p < count → TextThere varying most (at + p * text_stride varying most) m (texts p)

-- the texts after one is assigned
abbrev pub with_text_in : (ℕ → List ℕ) → ℕ → List ℕ → ℕ → List ℕ
with_text_in texts q text p = cond (p == q) text (texts p)

-- ---- rows

pub row_next : (p q n : ℕ) → p < q → p * n + n ≤ q * n
row_next p q n h =
    let rows : suc p * n ≤ q * n = mul-le-mul_right n (omega (arith, h)) in
    let one = suc-times p n in
    omega (arith, rows, one)

-- an element ends before the next one
pub text_within : (varying : Bool) (most p count : ℕ) → p < count → p * text_stride varying most + text_bytes varying most ≤ count * text_stride varying most
text_within varying most p count below =
    let r = row_next p count (text_stride varying most) below in
    let long = stride_long varying most in
    omega (arith, r, long)

-- ---- elsewhere

-- a store elsewhere
pub texts_other : (n : ℕ) (m : List ℕ) (q x at count : ℕ) (varying : Bool) (most : ℕ) (texts : ℕ → List ℕ) → (at + count * text_stride varying most ≤ q) ⊎ (q + n ≤ at) → TextsThere m at count varying most texts → TextsThere (store n m q x) at count varying most texts
texts_other n m q x at count varying most texts (inl h) o p below =
    let r = text_within varying most p count below in
    text_other n varying most (at + p * text_stride varying most) m (texts p) q x (inr (omega (arith, h, r))) (o p below)
texts_other n m q x at count varying most texts (inr h) o p below =
    text_other n varying most (at + p * text_stride varying most) m (texts p) q x (inl (omega (arith, h))) (o p below)

-- bytes that are written elsewhere
pub texts_beside : (bytes m : List ℕ) (q at count : ℕ) (varying : Bool) (most : ℕ) (texts : ℕ → List ℕ) → q + length bytes ≤ length m → (at + count * text_stride varying most ≤ q) ⊎ (q + length bytes ≤ at) → TextsThere m at count varying most texts → TextsThere (with_bytes bytes q m) at count varying most texts
texts_beside bytes m q at count varying most texts room (inl h) o p below =
    let r = text_within varying most p count below in
    text_beside varying most (at + p * text_stride varying most) m (texts p) bytes q room (inr (omega (arith, h, r))) (o p below)
texts_beside bytes m q at count varying most texts room (inr h) o p below =
    text_beside varying most (at + p * text_stride varying most) m (texts p) bytes q room (inl (omega (arith, h))) (o p below)

-- ---- a text is stored

apart_by : (at p q n size : ℕ) → size ≤ n → (p == q) ≡ false → (p < q) ⊎ (q ≤ p) → (at + q * n + size ≤ at + p * n) ⊎ (at + p * n + size ≤ at + q * n)
apart_by at p q n size few e (inl less) = let r = row_next p q n less in inr (omega (arith, r, few))
apart_by at p q n size few e (inr most) =
    let more : q < p = grind (arith, nat_tests) in
    let r = row_next q p n more in
    inl (omega (arith, r, few))

put_by : (same : Bool) (varying : Bool) (most : ℕ) (m : List ℕ) (at p q : ℕ) (text : List ℕ) (texts : ℕ → List ℕ) → (p == q) ≡ same → most ≤ 1024 → at + q * text_stride varying most + text_bytes varying most ≤ length m → TextThere varying most (at + p * text_stride varying most) m (texts p) → TextThere varying most (at + p * text_stride varying most) (with_bytes (kept_bytes (text_kind_of varying most) (BasicText text)) (at + q * text_stride varying most) m) (cond same (text_kept_as varying most text) (texts p))
put_by true varying most m at p q text texts e few room o =
    let n = text_stride varying most in
    let m' = with_bytes (kept_bytes (text_kind_of varying most) (BasicText text)) (at + q * n) m in
    subst (λ u. TextThere varying most (at + u * n) m' (text_kept_as varying most text)) (sym (eqb-true p q e)) (kept_there varying most (at + q * n) m text few room)
put_by false varying most m at p q text texts e few room o =
    let n = text_stride varying most in
    let bytes = kept_bytes (text_kind_of varying most) (BasicText text) in
    let long = kept_length varying most text in
    let size = stride_long varying most in
    text_beside varying most (at + p * n) m (texts p) bytes (at + q * n) (omega (arith, room, long))
    (beside (at + q * n) (at + p * n) (length bytes) (text_bytes varying most) long (apart_by at p q n (text_bytes varying most) size e (cases_lt p q)))
    o
  where
    beside : (x y k size : ℕ) → k ≡ size → (x + size ≤ y) ⊎ (y + size ≤ x) → (x + k ≤ y) ⊎ (y + size ≤ x)
    beside x y k size e' (inl h) = inl (omega (arith, e', h))
    beside x y k size e' (inr h) = inr h

pub texts_put : (varying : Bool) (most : ℕ) (m : List ℕ) (at count q : ℕ) (text : List ℕ) (texts : ℕ → List ℕ) → most ≤ 1024 → q < count → at + count * text_stride varying most ≤ length m → TextsThere m at count varying most texts → TextsThere (with_bytes (kept_bytes (text_kind_of varying most) (BasicText text)) (at + q * text_stride varying most) m) at count varying most (with_text_in texts q (text_kept_as varying most text))
texts_put varying most m at count q text texts few below room o p below' =
    let r = text_within varying most q count below in
    put_by (p == q) varying most m at p q text texts refl few (omega (arith, room, r)) (o p below')
