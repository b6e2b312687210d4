-- Kinds of a leaf with one REFER extent and another, and the values that are seen.
use Rattle.std.proofs.Common.{◌≡◌, ℕ, zero, suc, ◌≤◌, ℤ, true, List, [], ◌∷◌, drop, Option, Some, None, refl, ap, arith}
use Rattle.std.specs.Prelude.{nat_le, slice_get, unwrap_or}
use Rattle.std.proofs.lemmas.Bool.Decides.{nat_tests}
use Rattle.std.proofs.lemmas.List.{take-take}
use Rattle.pli_typing.specs.Signatures.{Bounds, Leaf, LeafKind, Fixed, Character, Varying, Bit, Pointer, Offset, Area}
use Rattle.pli_meaning.specs.BasicValues.{BasicText}
use Rattle.pli_meaning.specs.Contents.{Shape, last_refers, leaf_refers, leaves_refer, seen}
use Rattle.pli_meaning.specs.Evaluating.{leaf_at}
use Rattle.pli_meaning.specs.Streaming.{kind_holds}
use Rattle.pli_meaning.specs.Unreachable.{unreachable_leaf}
use Rattle.pli_serving.specs.Values.{value_at}

-- kinds that differ in a text's length at most
abbrev pub AreAlike : LeafKind → LeafKind → Type 0
AreAlike (Fixed p) (Fixed q) = p ≡ q
AreAlike (Character m) (Character n) = Unit {0}
AreAlike (Varying m) (Varying n) = m ≡ n
AreAlike Bit Bit = Unit {0}
AreAlike Pointer Pointer = Unit {0}
AreAlike Offset Offset = Unit {0}
AreAlike (Area m) (Area n) = Unit {0}
AreAlike _ _ = ⊥

alike_self : (k : LeafKind) → AreAlike k k
alike_self (Fixed p) = refl
alike_self (Character n) = tt
alike_self (Varying n) = refl
alike_self Bit = tt
alike_self Pointer = tt
alike_self Offset = tt
alike_self (Area n) = tt

alike_referred : (x y : ℤ) (k : LeafKind) (bounds : List Bounds) → AreAlike (leaf_refers x k bounds).kind (leaf_refers y k bounds).kind
alike_referred x y k (b ∷ bs) = alike_self k
alike_referred x y (Character n) [] = tt
alike_referred x y (Fixed p) [] = refl
alike_referred x y (Varying n) [] = refl
alike_referred x y Bit [] = tt
alike_referred x y Pointer [] = tt
alike_referred x y Offset [] = tt
alike_referred x y (Area n) [] = tt

abbrev kind_in : List Leaf → ℕ → LeafKind
kind_in ls n = (unwrap_or (slice_get ls n) unreachable_leaf).kind

alike_last : (x y : ℤ) (ls : List Leaf) (n : ℕ) → AreAlike (kind_in (last_refers x ls) n) (kind_in (last_refers y ls) n)
alike_last x y [] n = tt
alike_last x y (l ∷ []) zero = alike_referred x y l.kind l.bounds
alike_last x y (l ∷ []) (suc n) = tt
alike_last x y (l ∷ m ∷ ls) zero = alike_self l.kind
alike_last x y (l ∷ m ∷ ls) (suc n) = alike_last x y (m ∷ ls) n

alike_refer : (x y : ℤ) (r : Option ℕ) (ls : List Leaf) (n : ℕ) → AreAlike (kind_in (leaves_refer x r ls) n) (kind_in (leaves_refer y r ls) n)
alike_refer x y None ls n = alike_self (kind_in ls n)
alike_refer x y (Some member) ls n = alike_last x y ls n

pub leaves_alike : (s : Shape) (x y : ℤ) (leaf : ℕ) → AreAlike (leaf_at s x leaf).kind (leaf_at s y leaf).kind
leaves_alike s x y leaf = alike_refer x y s.refer s.signature.leaves leaf

no_longer : (n m : ℕ) → nat_le n m ≡ true → n ≤ m
no_longer n m e = grind (arith, nat_tests)

-- a value is seen of a kind as it is read of that kind
pub seen_so : (had k : LeafKind) (at : ℕ) (m : List ℕ) → AreAlike had k → kind_holds had k ≡ true → seen k (value_at had at m) ≡ value_at k at m
seen_so (Fixed p) (Fixed q) at m a h = ap (λ n. value_at (Fixed n) at m) a
seen_so (Character h') (Character n) at m a h = ap BasicText (take-take n h' (drop at m) (no_longer n h' h))
seen_so (Varying p) (Varying q) at m a h = ap (λ n. value_at (Varying n) at m) a
seen_so Bit Bit at m a h = refl
seen_so Pointer Pointer at m a h = refl
seen_so Offset Offset at m a h = refl
seen_so (Area p) (Area q) at m a h = refl
seen_so had k at m a h = absurd a
