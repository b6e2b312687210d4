-- The word of a scalar's value: which load finds it where memory tells the value, and which store writes it.
use Rattle.std.proofs.Common.{◌≡◌, ℕ, ◌+◌, ◌-◌, ◌*◌, ◌/◌, ◌≤◌, List, [], length, Bool, true, false, refl, ap}
use Rattle.std.proofs.Common.{arith}
use Rattle.std.specs.Prelude.{ℤ, nat_le, if◌then◌else◌}
use Rattle.rv_meaning.specs.declared.instr.LoadKind.TheVariants as Load
use Rattle.rv_meaning.specs.declared.instr.StoreKind.TheVariants as Store
use Rattle.rv_meaning.specs.Machine.{extended, load_width, store_width}
use Rattle.rv_meaning.specs.Memory.{load, store}
use Rattle.rv_meaning.specs.Words.{flag, word}
use Rattle.pli_typing.specs.Signatures.{Fixed, LeafKind, data_size, leaf_bytes, scalar}
use Rattle.pli_typing.specs.TypedTree as Y
use Rattle.pli_meaning.specs.BasicValues.{BasicBit, BasicNumber, BasicOffset, BasicPointer, BasicText, BasicValue}
use Rattle.pli_meaning.specs.DeclaredShapes.{kind_of}
use Rattle.area_keeper.specs.KeptAreas.{with_part}
use Rattle.pli_serving.specs.Stored.{kept_bytes}
use Rattle.storage_relation.specs.Keeping.{IsStorable, StoresBit, StoresNumber}
use Rattle.storage_relation.specs.Telling.{IsOf, Tells}
use Rattle.storage_relation.proofs.MachineStores as S
use Rattle.storage_relation.proofs.Values as L
use Rattle.storage_relation.proofs.Values.{number_length}
use Rattle.pli_headline.proofs.Scalars.{IsNumeric, load_kind, store_kind}
use Rattle.scalar_runs.proofs.ScalarMeaning.{IsWorded}

abbrev pub kind_for : Y.LeafType → LeafKind
kind_for type = kind_of [] type

pub kind_worded : (type : Y.LeafType) → IsNumeric type → IsWorded (kind_for type)
kind_worded (Y.FixedLeaf p) is = tt
kind_worded Y.BitLeaf is = tt
kind_worded _ is = absurd is

-- of a number, or of a bit
abbrev pub word_in : BasicValue → ℕ
word_in (BasicNumber z) = word z
word_in (BasicBit b) = flag b
word_in _ = 0

-- ---- loads

number_found :
    (q : Bool) (p at : ℕ) (z : ℤ) (m : List ℕ) → nat_le p 15 ≡ q → Tells (Fixed p) (BasicNumber z) at m →
    extended (if q then Load.Half else Load.Word) (load (load_width (if q then Load.Half else Load.Word)) m at)
    ≡ word z
number_found true p at z m e is = ap word (L.half_loaded p at z m e is)
number_found false p at z m e is = L.word_loaded p at z m e is

pub found_word :
    (type : Y.LeafType) (v : BasicValue) (at : ℕ) (m : List ℕ) → IsNumeric type → Tells (kind_for type) v at m →
    extended (load_kind type) (load (load_width (load_kind type)) m at) ≡ word_in v
found_word (Y.FixedLeaf p) (BasicNumber z) at m is tells = number_found (nat_le p 15) p at z m refl tells
found_word (Y.FixedLeaf p) (BasicBit b) at m is tells = absurd tells.fits
found_word (Y.FixedLeaf p) (BasicText t) at m is tells = absurd tells.fits
found_word (Y.FixedLeaf p) (BasicPointer n) at m is tells = absurd tells.fits
found_word (Y.FixedLeaf p) (BasicOffset o) at m is tells = absurd tells.fits
found_word Y.BitLeaf (BasicBit b) at m is tells = L.bit_loaded at b m tells
found_word Y.BitLeaf (BasicNumber z) at m is tells = absurd tells.fits
found_word Y.BitLeaf (BasicText t) at m is tells = absurd tells.fits
found_word Y.BitLeaf (BasicPointer n) at m is tells = absurd tells.fits
found_word Y.BitLeaf (BasicOffset o) at m is tells = absurd tells.fits
found_word _ v at m is tells = absurd is

-- ---- stores

number_written :
    (q : Bool) (p at : ℕ) (z : ℤ) (m : List ℕ) → nat_le p 15 ≡ q → at + 4 ≤ length m →
    with_part (kept_bytes (Fixed p) (BasicNumber z)) at m
    ≡ store (store_width (if q then Store.Half else Store.Word)) m at (word z)
number_written true p at z m e room = S.half_stored p z at m e (omega (arith, room))
number_written false p at z m e room = S.word_stored p z at m e room

pub written_word :
    (type : Y.LeafType) (v : BasicValue) (at : ℕ) (m : List ℕ) → IsNumeric type → IsOf (kind_for type) v →
    at + 4 ≤ length m →
    with_part (kept_bytes (kind_for type) v) at m ≡ store (store_width (store_kind type)) m at (word_in v)
written_word (Y.FixedLeaf p) (BasicNumber z) at m is of room = number_written (nat_le p 15) p at z m refl room
written_word (Y.FixedLeaf p) (BasicBit b) at m is of room = absurd of
written_word (Y.FixedLeaf p) (BasicText t) at m is of room = absurd of
written_word (Y.FixedLeaf p) (BasicPointer n) at m is of room = absurd of
written_word (Y.FixedLeaf p) (BasicOffset o) at m is of room = absurd of
written_word Y.BitLeaf (BasicBit b) at m is of room = S.bit_stored b at m (omega (arith, room))
written_word Y.BitLeaf (BasicNumber z) at m is of room = absurd of
written_word Y.BitLeaf (BasicText t) at m is of room = absurd of
written_word Y.BitLeaf (BasicPointer n) at m is of room = absurd of
written_word Y.BitLeaf (BasicOffset o) at m is of room = absurd of
written_word _ v at m is of room = absurd is

-- ---- values that it can keep

size_covers : (w : ℕ) → 0 + w ≤ (w + (4 - 1)) / 4 * 4 * 1 + 0
size_covers w = omega arith

number_covers :
    (p : ℕ) (z : ℤ) → 0 + length (kept_bytes (Fixed p) (BasicNumber z)) ≤ data_size (scalar (Fixed p))
number_covers p z =
    let long = number_length (leaf_bytes (Fixed p)) (word z) in
    let covers = size_covers (leaf_bytes (Fixed p)) in
    omega (arith, long, covers)

-- its bytes are no more than the scalar takes
pub kept_size :
    (type : Y.LeafType) (v : BasicValue) → IsNumeric type → IsOf (kind_for type) v →
    0 + length (kept_bytes (kind_for type) v) ≤ data_size (scalar (kind_for type))
kept_size (Y.FixedLeaf p) (BasicNumber z) is of = number_covers p z
kept_size (Y.FixedLeaf p) (BasicBit b) is of = absurd of
kept_size (Y.FixedLeaf p) (BasicText t) is of = absurd of
kept_size (Y.FixedLeaf p) (BasicPointer n) is of = absurd of
kept_size (Y.FixedLeaf p) (BasicOffset o) is of = absurd of
kept_size Y.BitLeaf (BasicBit b) is of = omega arith
kept_size Y.BitLeaf (BasicNumber z) is of = absurd of
kept_size Y.BitLeaf (BasicText t) is of = absurd of
kept_size Y.BitLeaf (BasicPointer n) is of = absurd of
kept_size Y.BitLeaf (BasicOffset o) is of = absurd of
kept_size _ v is of = absurd is

pub storable :
    (type : Y.LeafType) (v : BasicValue) → IsNumeric type → IsOf (kind_for type) v →
    IsStorable (kind_for type) (kind_for type) v
storable (Y.FixedLeaf p) (BasicNumber z) is of = StoresNumber p z of.0 of.1
storable (Y.FixedLeaf p) (BasicBit b) is of = absurd of
storable (Y.FixedLeaf p) (BasicText t) is of = absurd of
storable (Y.FixedLeaf p) (BasicPointer n) is of = absurd of
storable (Y.FixedLeaf p) (BasicOffset o) is of = absurd of
storable Y.BitLeaf (BasicBit b) is of = StoresBit b
storable Y.BitLeaf (BasicNumber z) is of = absurd of
storable Y.BitLeaf (BasicText t) is of = absurd of
storable Y.BitLeaf (BasicPointer n) is of = absurd of
storable Y.BitLeaf (BasicOffset o) is of = absurd of
storable _ v is of = absurd is
