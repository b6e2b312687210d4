-- Code before its places are known: instructions, and items that a place elsewhere completes. Each item's size is known
-- by itself, so that distances are sums of sizes.
use Rattle.std.specs.Prelude.{ℕ, ◌+◌, Bool, true, false, ◌&&◌, ◌==◌, List, [], ◌∷◌}
use Rattle.rv_meaning.specs.declared.instr.Instr.{Instr}
use Rattle.rv_meaning.specs.declared.instr.Register.{Register}
use Rattle.pli_language.specs.Keywords.{same_bytes}

-- ---- what code names

-- the INITIAL values of one leaf, as their bytes
pub record InitialLeaf : Type 0 where
  pub leaf : ℕ
  pub values : List ℕ

-- data that stands with the code: bytes that never change, by what they are; the INITIAL values of a variable; and by a
-- variable's block and place a word that keeps its signature's number, and its name with so many bytes of storage
-- behind it
pub data Datum : Type 0 where
  ConstantBytes : List ℕ → Datum
  InitialValues : List InitialLeaf → Datum
  NumberWord : (block index : ℕ) → Datum
  StaticStorage : (block index bytes : ℕ) → Datum

-- a procedure by its block, and where a RETURN of a procedure or an on-unit goes, a label by its block and letters, the
-- routines of a raise, and what gives the extents of a variable's next generation
pub data Symbol : Type 0 where
  ProcedureEntry ReturnPlace : (block : ℕ) → Symbol
  LabelPlace : (block : ℕ) → (letters : List ℕ) → Symbol
  RaiseCondition RaiseError ErrorEnd : Symbol
  ExtentRoutine : (block index : ℕ) → Symbol
  DataPlace : Datum → Symbol

abbrev pub same_initial : List InitialLeaf → List InitialLeaf → Bool
same_initial [] [] = true
same_initial (a ∷ as') (b ∷ bs) = (a.leaf == b.leaf) && (same_bytes a.values b.values && same_initial as' bs)
same_initial _ _ = false

abbrev pub same_datum : Datum → Datum → Bool
same_datum (ConstantBytes a) (ConstantBytes b) = same_bytes a b
same_datum (InitialValues a) (InitialValues b) = same_initial a b
same_datum (NumberWord b i) (NumberWord c j) = (b == c) && (i == j)
same_datum (StaticStorage b i m) (StaticStorage c j n) = (b == c) && ((i == j) && (m == n))
same_datum _ _ = false

abbrev pub same_symbol : Symbol → Symbol → Bool
same_symbol (ProcedureEntry b) (ProcedureEntry c) = b == c
same_symbol (ReturnPlace b) (ReturnPlace c) = b == c
same_symbol (LabelPlace b l) (LabelPlace c m) = (b == c) && same_bytes l m
same_symbol RaiseCondition RaiseCondition = true
same_symbol RaiseError RaiseError = true
same_symbol ErrorEnd ErrorEnd = true
same_symbol (ExtentRoutine b i) (ExtentRoutine c j) = (b == c) && (i == j)
same_symbol (DataPlace a) (DataPlace b) = same_datum a b
same_symbol _ _ = false

-- ---- items

pub data Item : Type 0 where
  Plain : Instr → Item
  -- the base, from the place where it is asked for
  BaseIn : Register → Item
  -- the distance of a place from the base
  OffsetOf : Register → Symbol → Item
  -- that of the place so many words behind this item
  OffsetAhead : Register → (words : ℕ) → Item
  -- jumps of any length, and a call, which leaves the place behind it in the return register
  JumpTo CallTo : Symbol → Item
  -- over so many words behind this item, and back to the place so many words before it
  JumpAhead JumpBack : (words : ℕ) → Item
  -- here is the place of a symbol
  Mark : Symbol → Item

abbrev pub Code : Type 0
Code = List Item

-- in words
abbrev pub item_size : Item → ℕ
item_size (Plain i) = 1
item_size (BaseIn r) = 2
item_size (OffsetOf r s) = 2
item_size (OffsetAhead r words) = 2
item_size (JumpTo s) = 2
item_size (CallTo s) = 2
item_size (JumpAhead words) = 2
item_size (JumpBack words) = 2
item_size (Mark s) = 0

abbrev pub size_of : Code → ℕ
size_of [] = 0
size_of (i ∷ is) = item_size i + size_of is
