-- What an element keeps of a value, in the kind in force; and where elements stand, whatever REFER extent is in force.
use Rattle.std.proofs.Common.{◌≡◌, ℕ, zero, suc, ◌+◌, ◌*◌, ◌<◌, ◌≤◌, List, [], ◌∷◌, take, length, Option, Some, None}
use Rattle.std.proofs.Common.{true, refl, sym, ap, subst, arith}
use Rattle.std.proofs.lemmas.Bool.Decides.{nat_tests}
use Rattle.std.proofs.lemmas.Int.{ints}
use Rattle.std.specs.Prelude.{ℤ, pos, negsuc, int_le, ◌&&◌}
use Rattle.pli_typing.specs.Signatures.{LeafKind, Fixed, Character, Varying, Bit, Pointer, Offset, Area, Bounds, Leaf}
use Rattle.pli_typing.specs.Signatures.{leaf_bytes, leaf_size}
use Rattle.pli_meaning.specs.BasicValues.{Name, NullName, VariableName, BasedName, BasicValue, BasicNumber, BasicText}
use Rattle.pli_meaning.specs.BasicValues.{BasicBit, BasicPointer, BasicOffset}
use Rattle.pli_meaning.specs.Contents.{kept, Shape, leaf_refers, last_refers, leaves_refer, leaves_with, is_within}
use Rattle.pli_meaning.specs.Contents.{element_place}
use Rattle.pli_meaning.specs.Evaluating.{leaf_at}
use Rattle.area_keeper.specs.KeptAreas.{with_part}
use Rattle.pli_serving.specs.Stored.{kept_bytes}
use Rattle.pli_serving.specs.Values.{value_bytes, element_size, leaf_place, element_address}
use Rattle.storage_relation.proofs.Elements.{first_true, second_true, and_true, leaf_of}
use Rattle.storage_relation.proofs.Values.{telling_fits, told_written, character_bytes, fitted_length, character_stored}
use Rattle.storage_relation.proofs.Values.{varying_stored}
use Rattle.storage_relation.specs.Keeping.{IsStorable, StoresText, StoresVarying, StoresNumber, StoresBit, StoresName}
use Rattle.storage_relation.specs.Keeping.{StoresOffset}
use Rattle.storage_relation.specs.Telling.{Tells}

-- ---- what is kept

name_length : (n : Name) → length (value_bytes Pointer (BasicPointer n)) ≤ 16
name_length NullName = omega arith
name_length (VariableName serial) = omega arith
name_length (BasedName a o) = omega arith

pub kept_length :
    (now kind : LeafKind) (v : BasicValue) → IsStorable now kind v → length (kept_bytes now v) ≤ leaf_bytes kind
kept_length now kind v (StoresText n more t) =
    let e = ap length (character_bytes n t) in let f = fitted_length n t in omega (arith, e, f)
kept_length now kind v (StoresVarying n more t small) = let f = fitted_length n (take n t) in omega (arith, f)
kept_length now kind v (StoresNumber p z h i) = telling_fits (Fixed p) (BasicNumber z) (h, i)
kept_length now kind v (StoresBit b) = omega arith
kept_length now kind v (StoresName n h) = name_length n
kept_length now kind v (StoresOffset o h) = omega arith

-- the element then has what the meaning says that it keeps
pub kept_told :
    (now kind : LeafKind) (v old : BasicValue) (x : ℕ) (m : List ℕ) → IsStorable now kind v →
    x + leaf_bytes kind ≤ length m → Tells kind old x m →
    Tells kind (kept now old v) x (with_part (kept_bytes now v) x m)
kept_told now kind v (BasicText old) x m (StoresText n more t) room is =
    subst (λ b. Tells (Character (n + more)) (kept (Character n) (BasicText old) (BasicText t)) x (with_part b x m))
    (sym (character_bytes n t))
    (character_stored n more t old x m room is)
kept_told now kind v (BasicNumber z) x m (StoresText n more t) room is = absurd is.fits
kept_told now kind v (BasicBit z) x m (StoresText n more t) room is = absurd is.fits
kept_told now kind v (BasicPointer z) x m (StoresText n more t) room is = absurd is.fits
kept_told now kind v (BasicOffset z) x m (StoresText n more t) room is = absurd is.fits
kept_told now kind v old x m (StoresVarying n more t small) room is =
    varying_stored n more t x old m small (omega (arith, room))
kept_told now kind v old x m (StoresNumber p z h i) room is =
    told_written (Fixed p) (BasicNumber z) x m (h, i) (let f = telling_fits (Fixed p) (BasicNumber z) (h, i) in
    omega (arith, f, room))
kept_told now kind v old x m (StoresBit b) room is = told_written Bit (BasicBit b) x m tt room
kept_told now kind v old x m (StoresName n h) room is =
    told_written Pointer (BasicPointer n) x m h (let f = name_length n in omega (arith, f, room))
kept_told now kind v old x m (StoresOffset o h) room is = told_written Offset (BasicOffset o) x m h room

-- ---- whatever REFER extent is in force, an element stands at the same place

last_place :
    (z w : ℤ) (ls : List Leaf) (leaf : ℕ) → leaf < length ls →
    leaf_place (last_refers z ls) leaf ≡ leaf_place (last_refers w ls) leaf
last_place z w [] leaf h = refl
last_place z w (l ∷ []) zero h = refl
last_place z w (l ∷ []) (suc leaf) h = absurd (omega (arith, h))
last_place z w (l ∷ m ∷ ls) zero h = refl
last_place z w (l ∷ m ∷ ls) (suc leaf) h = ap (λ n. leaf_size l + n) (last_place z w (m ∷ ls) leaf (omega (arith, h)))

abbrev pub own_place : Leaf → List ℤ → ℕ
own_place l is = element_size l.kind * element_place l.bounds is

refers_place :
    (z w : ℤ) (kind : LeafKind) (bs : List Bounds) (is : List ℤ) →
    own_place (leaf_refers z kind bs) is ≡ own_place (leaf_refers w kind bs) is
refers_place z w kind (b ∷ bs) [] = refl
refers_place z w kind (b ∷ bs) (i ∷ is) = refl
refers_place z w (Character n) [] is = omega arith
refers_place z w (Fixed n) [] is = refl
refers_place z w (Varying n) [] is = refl
refers_place z w Bit [] is = refl
refers_place z w Pointer [] is = refl
refers_place z w Offset [] is = refl
refers_place z w (Area n) [] is = refl

last_own :
    (z w : ℤ) (ls : List Leaf) (leaf : ℕ) (is : List ℤ) → leaf < length ls →
    own_place (leaf_of (last_refers z ls) leaf) is ≡ own_place (leaf_of (last_refers w ls) leaf) is
last_own z w [] leaf is h = absurd (omega (arith, h))
last_own z w (l ∷ []) zero is h = refers_place z w l.kind l.bounds is
last_own z w (l ∷ []) (suc leaf) is h = absurd (omega (arith, h))
last_own z w (l ∷ m ∷ ls) zero is h = refl
last_own z w (l ∷ m ∷ ls) (suc leaf) is h = last_own z w (m ∷ ls) leaf is (omega (arith, h))

-- the address by the extent in force is that by the extent allocated
pub same_address :
    (s : Shape) (z w : ℤ) (leaf : ℕ) (is : List ℤ) (at : ℕ) → leaf < length s.signature.leaves →
    element_address (leaves_with z s) leaf (leaf_at s z leaf) is at
    ≡ element_address (leaves_with w s) leaf (leaf_at s w leaf) is at
same_address s z w leaf is at h = by s.refer
  where
    by :
        (r : Option ℕ) →
        at + leaf_place (leaves_refer z r s.signature.leaves) leaf + own_place
        (leaf_of (leaves_refer z r s.signature.leaves) leaf) is
        ≡ at + leaf_place (leaves_refer w r s.signature.leaves) leaf + own_place
        (leaf_of (leaves_refer w r s.signature.leaves) leaf) is
    by None = refl
    by (Some member) =
        let a = last_place z w s.signature.leaves leaf h in let b = last_own z w s.signature.leaves leaf is h in
        omega (arith, a, b)

-- and there are as many leaves
pub as_many_leaves : (s : Shape) (z : ℤ) → length (leaves_with z s) ≡ length s.signature.leaves
as_many_leaves s z = by s.refer
  where
    last : (ls : List Leaf) → length (last_refers z ls) ≡ length ls
    last [] = refl
    last (l ∷ []) = refl
    last (l ∷ m ∷ ls) = ap (λ n. suc n) (last (m ∷ ls))

    by : (r : Option ℕ) → length (leaves_refer z r s.signature.leaves) ≡ length s.signature.leaves
    by None = refl
    by (Some member) = last s.signature.leaves

-- what is within the bounds in force is within those allocated
upto : (i z w : ℤ) → int_le i z ≡ true → int_le z w ≡ true → int_le i w ≡ true
upto (pos i) (pos z) (pos w) e f = grind (arith, ints, nat_tests)
upto (pos i) (pos z) (negsuc w) e f = absurd (cc f)
upto (pos i) (negsuc z) w e f = absurd (cc e)
upto (negsuc i) z (pos w) e f = refl
upto (negsuc i) (pos z) (negsuc w) e f = absurd (cc f)
upto (negsuc i) (negsuc z) (negsuc w) e f = grind (arith, ints, nat_tests)

refers_within :
    (z w : ℤ) (kind : LeafKind) (bs : List Bounds) (is : List ℤ) → int_le z w ≡ true →
    is_within (leaf_refers z kind bs).bounds is ≡ true → is_within (leaf_refers w kind bs).bounds is ≡ true
refers_within z w kind (b ∷ bs) [] h e = absurd (cc e)
refers_within z w kind (b ∷ bs) (i ∷ is) h e =
    let low = first_true (int_le b.lower i) (int_le i z && is_within bs is) e in
    let more = second_true (int_le b.lower i) (int_le i z && is_within bs is) e in
    let high = first_true (int_le i z) (is_within bs is) more in
    let rest = second_true (int_le i z) (is_within bs is) more in
    and_true (int_le b.lower i) (int_le i w && is_within bs is) low
    (and_true (int_le i w) (is_within bs is) (upto i z w high h) rest)
refers_within z w (Character n) [] is h e = e
refers_within z w (Fixed n) [] is h e = e
refers_within z w (Varying n) [] is h e = e
refers_within z w Bit [] is h e = e
refers_within z w Pointer [] is h e = e
refers_within z w Offset [] is h e = e
refers_within z w (Area n) [] is h e = e

last_within :
    (z w : ℤ) (ls : List Leaf) (leaf : ℕ) (is : List ℤ) → int_le z w ≡ true →
    is_within (leaf_of (last_refers z ls) leaf).bounds is ≡ true →
    is_within (leaf_of (last_refers w ls) leaf).bounds is ≡ true
last_within z w [] leaf is h e = e
last_within z w (l ∷ []) zero is h e = refers_within z w l.kind l.bounds is h e
last_within z w (l ∷ []) (suc leaf) is h e = e
last_within z w (l ∷ m ∷ ls) zero is h e = e
last_within z w (l ∷ m ∷ ls) (suc leaf) is h e = last_within z w (m ∷ ls) leaf is h e

pub within_allocated :
    (s : Shape) (z w : ℤ) (leaf : ℕ) (is : List ℤ) → int_le z w ≡ true → is_within (leaf_at s z leaf).bounds is ≡ true →
    is_within (leaf_at s w leaf).bounds is ≡ true
within_allocated s z w leaf is h = by s.refer
  where
    by :
        (r : Option ℕ) → is_within (leaf_of (leaves_refer z r s.signature.leaves) leaf).bounds is ≡ true →
        is_within (leaf_of (leaves_refer w r s.signature.leaves) leaf).bounds is ≡ true
    by None e = e
    by (Some member) e = last_within z w s.signature.leaves leaf is h e
