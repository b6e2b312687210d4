-- Values that go into elements, whose kinds in force may be shorter than those allocated, and values that begin them.
use Rattle.std.specs.Prelude.{ℕ, ◌+◌, ◌^◌, ◌<◌, ◌≤◌, ◌≡◌, ℤ, Bool, true, List, Option, ⊤, [], ◌∷◌}
use Rattle.pli_language.specs.Tree.{InitialValue, InitialNumber, InitialText, InitialBit, InitialSkip, InitialNull}
use Rattle.pli_language.specs.Tree.{InitialItem}
use Rattle.pli_typing.specs.Signatures.{LeafKind, Fixed, Character, Varying, Bit, Pointer, Offset, Area, Leaf}
use Rattle.pli_meaning.specs.BasicValues.{Name, BasicValue, BasicNumber, BasicText, BasicBit, BasicPointer, BasicOffset}
use Rattle.pli_meaning.specs.Numbers.{is_of_precision}
use Rattle.storage_relation.specs.Telling.{IsName, IsOffset}

-- ---- stores

-- a value for an element: the kind in force, which may be shorter than the one with which storage was allocated. A text
-- may be any.
pub data IsStorable : (now allocated : LeafKind) → BasicValue → Type 0 where
  StoresText : (n more : ℕ) (t : List ℕ) → IsStorable (Character n) (Character (n + more)) (BasicText t)
  StoresVarying :
      (n more : ℕ) (t : List ℕ) → n + more < 2 ^ 16 →
      IsStorable (Varying n) (Varying (n + more)) (BasicText t)
  StoresNumber : (p : ℕ) (z : ℤ) → p ≤ 31 → is_of_precision p z ≡ true → IsStorable (Fixed p) (Fixed p) (BasicNumber z)
  StoresBit : (b : Bool) → IsStorable Bit Bit (BasicBit b)
  StoresName : (n : Name) → IsName n → IsStorable Pointer Pointer (BasicPointer n)
  StoresOffset : (o : Option ℕ) → IsOffset o → IsStorable Offset Offset (BasicOffset o)

-- a kind in force, where the other is that of the allocated extent
pub data IsNow : (now allocated : LeafKind) → Type 0 where
  NowText : (n more : ℕ) → IsNow (Character n) (Character (n + more))
  NowVarying : (n m : ℕ) → IsNow (Varying n) (Varying m)
  NowSame : (kind : LeafKind) → IsNow kind kind

-- ---- beginnings

-- a kind that a signature may have
abbrev pub IsSound : LeafKind → Type 0
IsSound (Fixed p) = p ≤ 31
IsSound (Varying n) = n < 2 ^ 16
IsSound (Area n) = ⊥
IsSound kind = ⊤

abbrev pub AreSound : List Leaf → Type 0
AreSound [] = ⊤
AreSound (l ∷ ls) = IsSound l.kind × AreSound ls

-- ---- INITIAL values

-- an INITIAL value that a leaf may have
abbrev pub IsInitial : LeafKind → InitialValue → Type 0
IsInitial (Fixed p) (InitialNumber z) = is_of_precision p z ≡ true
IsInitial (Character n) (InitialText t) = ⊤
IsInitial (Varying n) (InitialText t) = ⊤
IsInitial Bit (InitialBit b) = ⊤
IsInitial Pointer InitialNull = ⊤
IsInitial Offset InitialNull = ⊤
IsInitial kind InitialSkip = ⊤
IsInitial _ _ = ⊥

abbrev pub AreInitialItems : LeafKind → List InitialItem → Type 0
AreInitialItems kind [] = ⊤
AreInitialItems kind (i ∷ is) = IsInitial kind i.value × AreInitialItems kind is

-- a list of items for each leaf
abbrev pub AreInitial : List Leaf → List (List InitialItem) → Type 0
AreInitial [] [] = ⊤
AreInitial (l ∷ ls) (i ∷ is) = AreInitialItems l.kind i × AreInitial ls is
AreInitial _ _ = ⊥

-- a kind in force, where the other is that of the allocated extent: only a text's length may be less
pub data IsNarrow : (now allocated : LeafKind) → Type 0 where
  NarrowText : (n more : ℕ) → IsNarrow (Character n) (Character (n + more))
  NarrowSame : (kind : LeafKind) → IsNarrow kind kind
