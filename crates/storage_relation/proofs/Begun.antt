-- How generations begin: every element has a value that it can keep; and areas that stand are in order.
use Rattle.std.proofs.Common.{◌≡◌, ℕ, zero, suc, ◌-◌, ◌^◌, ◌<◌, ◌≤◌, List, [], ◌∷◌, take, drop, length, Bool, true}
use Rattle.std.proofs.Common.{false, refl, sym, subst, arith, length-append}
use Rattle.std.proofs.Math.Nat.{pow-le-pow_right}
use Rattle.std.proofs.lemmas.Bool.{eqb-true}
use Rattle.std.proofs.lemmas.Bool.Decides.{nat_tests}
use Rattle.std.proofs.lemmas.List.{length-replicate, length-drop}
use Rattle.std.specs.Prelude.{ℤ, pos, cond, ◌==◌, ◌&&◌, nat_lt}
use Rattle.pli_language.specs.Tree.{InitialValue, InitialNumber, InitialText, InitialBit, InitialSkip, InitialNull}
use Rattle.pli_language.specs.Tree.{InitialEmpty, InitialItem}
use Rattle.pli_typing.specs.Signatures.{LeafKind, Fixed, Character, Varying, Bit, Pointer, Offset, Area, Leaf}
use Rattle.pli_meaning.specs.BasicValues.{BasicValue}
use Rattle.pli_meaning.specs.Contents.{Generation, Shape, default_value, initial_of, initial_at, initial_in, fresh}
use Rattle.pli_meaning.specs.Contents.{leaves_with, with_value, same_subscripts, element_place, IsOrdered}
use Rattle.pli_meaning.specs.Numbers.{is_of_precision}
use Rattle.pli_meaning.specs.StorageState.{AreaContents}
use Rattle.pli_meaning.specs.Texts.{fitted}
use Rattle.pli_types.specs.Templates.{Template}
use Rattle.area_keeper.proofs.Alikeness.{keeps_alike}
use Rattle.area_keeper.specs.Keeper.{Keeper}
use Rattle.area_keeper.specs.KeeperLaws.{Keeps}
use Rattle.storage_relation.proofs.AreaLaws.{alike}
use Rattle.storage_relation.proofs.Elements.{leaf_of, first_true}
use Rattle.storage_relation.proofs.Values.{fitted_length}
use Rattle.storage_relation.specs.Keeping.{IsSound, AreSound, IsInitial, AreInitialItems, AreInitial}
use Rattle.storage_relation.specs.Standing.{leaf_in, Reads, AreaStands, IsValued}
use Rattle.storage_relation.specs.Telling.{IsOf, HasValues, AllHaveValues}

-- ---- one value

zero_fits : (p : ℕ) → is_of_precision p (pos 0) ≡ true
zero_fits p =
    let two : 0 < 2 = omega arith in let less : 0 ≤ p = omega arith in
    let h : 2 ^ 0 ≤ 2 ^ p = pow-le-pow_right two less in by (2 ^ p) h
  where
    by : (n : ℕ) → 1 ≤ n → nat_lt 0 n ≡ true
    by n h = grind (arith, nat_tests)

default_fits : (kind : LeafKind) → IsSound kind → IsOf kind (default_value kind)
default_fits (Fixed p) h = (h, zero_fits p)
default_fits (Character n) h = length-replicate {A = ℕ} n 32
default_fits (Varying n) h = (omega arith, h)
default_fits Bit h = tt
default_fits Pointer h = tt
default_fits Offset h = tt
default_fits (Area n) h = absurd h

initial_fits : (kind : LeafKind) (v : InitialValue) → IsSound kind → IsInitial kind v → IsOf kind (initial_of kind v)
initial_fits (Fixed p) (InitialNumber z) s i = (s, i)
initial_fits (Character n) (InitialText t) s i =
    let a = fitted_length n t in
    let b = length-append (fitted n t) (drop n []) in
    let c = length-drop {A = ℕ} n [] in
    omega (arith, a, b, c)
initial_fits (Varying n) (InitialText t) s i = (taken_most n t, s)
  where
    taken_most : (n : ℕ) (t : List ℕ) → length (take n t) ≤ n
    taken_most zero [] = omega arith
    taken_most zero (b ∷ t) = omega arith
    taken_most (suc n) [] = omega arith
    taken_most (suc n) (b ∷ t) = let h = taken_most n t in omega (arith, h)
initial_fits Bit (InitialBit b) s i = tt
initial_fits Pointer InitialNull s i = tt
initial_fits Offset InitialNull s i = tt
initial_fits kind InitialSkip s i = default_fits kind s
initial_fits (Fixed p) InitialNull s i = absurd i
initial_fits (Fixed p) InitialEmpty s i = absurd i
initial_fits (Fixed p) (InitialText t) s i = absurd i
initial_fits (Fixed p) (InitialBit t) s i = absurd i
initial_fits (Character p) (InitialNumber t) s i = absurd i
initial_fits (Character p) (InitialBit t) s i = absurd i
initial_fits (Character p) InitialNull s i = absurd i
initial_fits (Character p) InitialEmpty s i = absurd i
initial_fits (Varying p) (InitialNumber t) s i = absurd i
initial_fits (Varying p) (InitialBit t) s i = absurd i
initial_fits (Varying p) InitialNull s i = absurd i
initial_fits (Varying p) InitialEmpty s i = absurd i
initial_fits Bit (InitialNumber t) s i = absurd i
initial_fits Bit (InitialText t) s i = absurd i
initial_fits Bit InitialNull s i = absurd i
initial_fits Bit InitialEmpty s i = absurd i
initial_fits Pointer (InitialNumber t) s i = absurd i
initial_fits Pointer (InitialText t) s i = absurd i
initial_fits Pointer (InitialBit t) s i = absurd i
initial_fits Pointer InitialEmpty s i = absurd i
initial_fits Offset (InitialNumber t) s i = absurd i
initial_fits Offset (InitialText t) s i = absurd i
initial_fits Offset (InitialBit t) s i = absurd i
initial_fits Offset InitialEmpty s i = absurd i
initial_fits (Area n) v s i = absurd s

item_fits :
    (kind : LeafKind) (items : List InitialItem) (n : ℕ) → IsSound kind → AreInitialItems kind items →
    IsOf kind (initial_of kind (initial_at items n))
item_fits kind [] n s a = default_fits kind s
item_fits kind (i ∷ is) n s a = by (nat_lt n i.repetition) (item_fits kind is (n - i.repetition) s a.1)
  where
    by :
        (q : Bool) → IsOf kind (initial_of kind (initial_at is (n - i.repetition))) →
        IsOf kind (initial_of kind (cond q i.value (initial_at is (n - i.repetition))))
    by true rest = initial_fits kind i.value s a.0
    by false rest = rest

leaf_fits :
    (ls : List Leaf) (initial : List (List InitialItem)) (leaf : ℕ) (is : List ℤ) → AreSound ls →
    AreInitial ls initial → leaf < length ls →
    IsOf (leaf_of ls leaf).kind (initial_in ls initial leaf is)
leaf_fits [] initial leaf is s a h = absurd (omega (arith, h))
leaf_fits (l ∷ ls) [] leaf is s a h = absurd a
leaf_fits (l ∷ ls) (i ∷ initial) zero is s a h = item_fits l.kind i (element_place l.bounds is) s.0 a.0
leaf_fits (l ∷ ls) (i ∷ initial) (suc leaf) is s a h = leaf_fits ls initial leaf is s.1 a.1 (omega (arith, h))

-- ---- a generation

pub fresh_valued :
    (s : Shape) (z : ℤ) (initial : List (List InitialItem)) → AreSound (leaves_with z s) →
    AreInitial (leaves_with z s) initial → IsValued (fresh s z initial)
fresh_valued s z initial sound are leaf is h w = leaf_fits (leaves_with z s) initial leaf is sound are h

pub with_value_valued :
    (g : Generation) (leaf : ℕ) (is : List ℤ) (v : BasicValue) → IsValued g → IsOf (leaf_in g leaf).kind v →
    IsValued (with_value leaf is v g)
with_value_valued g leaf is v valued fits l js h w = by ((l == leaf) && same_subscripts js is) refl
  where
    by : (q : Bool) → (l == leaf) && same_subscripts js is ≡ q → IsOf (leaf_in g l).kind (cond q v (g.values l js))
    by true e =
        subst (λ n. IsOf (leaf_in g n).kind v) (sym (eqb-true l leaf
        (first_true (l == leaf) (same_subscripts js is) e))) fits
    by false e = valued l js h w

pub sound_values : (ls : List Leaf) → AreSound ls → AllHaveValues ls
sound_values [] s = tt
sound_values (l ∷ ls) s = (by l.kind s.0, sound_values ls s.1)
  where
    by : (kind : LeafKind) → IsSound kind → HasValues kind
    by (Fixed p) h = tt
    by (Character n) h = tt
    by (Varying n) h = tt
    by Bit h = tt
    by Pointer h = tt
    by Offset h = tt
    by (Area n) h = h

-- what is read is valued
pub reads_valued : (g : Generation) (bytes : List ℕ) → Reads g bytes → IsValued g
reads_valued g bytes reads leaf is h w = (reads.elements leaf is h w).fits

-- ---- an area that stands is in order

pub area_ordered :
    (k : Keeper) (t : List Template) → Keeps k → (a : AreaContents) (bytes : List ℕ) → AreaStands k t a bytes →
    IsOrdered 0 a.capacity a.placed
area_ordered k t keeps a bytes is =
    keeps_alike.ordered a.capacity is.kept a.placed (alike k t bytes is.kept a.placed is.are)
    (keeps.order.ordered bytes (record { capacity = a.capacity; placed = is.kept }) is.stands)
