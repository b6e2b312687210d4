-- The bytes that stand for a value, and the data of a generation: leaf after leaf, each with its elements in row-major order,
-- every element in its bytes rounded up to 4.
use Rattle.std.specs.Prelude.{ℕ, suc, ◌+◌, ◌-◌, ◌*◌, ℤ, ◌==◌, nat_le, List, [], ◌∷◌, ◌++◌, length, take, replicate, unwrap_or, if◌then◌else◌}
use Rattle.std.specs.List.{flat_map}
use Rattle.std.specs.Int.{w16, cast_signed}
use Rattle.rv_meaning.specs.Words.{signed, word, flag}
use Rattle.rv_meaning.specs.Memory.{load}
use Rattle.pli_typing.specs.Signatures.{LeafKind, Fixed, Character, Varying, Bit, Pointer, Offset, Area, Bounds, Leaf, rounded_up, leaf_bytes, leaves_size}
use Rattle.pli_meaning.specs.BasicValues.{BasicValue, BasicNumber, BasicText, BasicBit, BasicPointer, BasicOffset}
use Rattle.pli_meaning.specs.Unreachable.{unreachable_name, unreachable_value}
use Rattle.pli_meaning.specs.Texts.{fitted}
use Rattle.pli_meaning.specs.StreamOrder.{with_more}
use Rattle.pli_meaning.specs.Contents.{number_in, text_in, bit_in, name_in, offset_in, Shape, leaves_with, element_place, Generation}
use Rattle.pli_meaning.specs.Evaluating.{leaf_at}
use Rattle.pli_serving.specs.Bytes.{bytes_at, number_bytes, name_bytes, name_at, offset_word, offset_of}

-- ---- one value

-- a number in 2 bytes up to precision 15, else in 4; a varying text behind its length in 2; a bit in 1; an area has no values
abbrev pub value_bytes : LeafKind → BasicValue → List ℕ
value_bytes (Fixed p) v = number_bytes (leaf_bytes (Fixed p)) (word (number_in v))
value_bytes (Character n) v = fitted n (text_in v)
value_bytes (Varying n) v = number_bytes 2 (length (text_in v)) ++ fitted n (text_in v)
value_bytes Bit v = number_bytes 1 (flag (bit_in v))
value_bytes Pointer v = name_bytes (name_in v)
value_bytes Offset v = number_bytes 4 (offset_word (offset_in v))
value_bytes (Area n) v = []

-- the value that stands at an address
abbrev pub value_at : LeafKind → (at : ℕ) → List ℕ → BasicValue
value_at (Fixed p) at m = BasicNumber (if nat_le p 15 then cast_signed w16 (load 2 m at) else signed (load 4 m at))
value_at (Character n) at m = BasicText (bytes_at n at m)
value_at (Varying n) at m = BasicText (bytes_at (load 2 m at) (at + 2) m)
value_at Bit at m = BasicBit (load 1 m at == 1)
value_at Pointer at m = BasicPointer (unwrap_or (name_at at m) unreachable_name)
value_at Offset at m = BasicOffset (offset_of (load 4 m at))
value_at (Area n) at m = unreachable_value

-- ---- elements and leaves

abbrev pub element_size : LeafKind → ℕ
element_size kind = rounded_up 4 (leaf_bytes kind)

-- a value with zeros behind it up to the element's end
abbrev pub element_bytes : LeafKind → BasicValue → List ℕ
element_bytes kind v = value_bytes kind v ++ replicate (element_size kind - leaf_bytes kind) 0

-- the subscripts of all elements, the last going fastest
abbrev pub all_subscripts : List Bounds → List (List ℤ)
all_subscripts bounds = with_more (length bounds) bounds []

abbrev pub leaf_data : Leaf → (List ℤ → BasicValue) → List ℕ
leaf_data l values = flat_map (λ is. element_bytes l.kind (values is)) (all_subscripts l.bounds)

abbrev pub leaves_data : (first : ℕ) → List Leaf → (ℕ → List ℤ → BasicValue) → List ℕ
leaves_data first [] values = []
leaves_data first (l ∷ ls) values = leaf_data l (values first) ++ leaves_data (suc first) ls values

-- where a leaf begins in the data of its generation
abbrev pub leaf_place : List Leaf → (leaf : ℕ) → ℕ
leaf_place leaves leaf = leaves_size (take leaf leaves)

-- ---- a generation

abbrev pub generation_bytes : Generation → List ℕ
generation_bytes g = leaves_data 0 (leaves_with g.extent g.shape) g.values

-- where an element stands, by its leaf and its subscripts, in data that begins at an address
abbrev pub element_address : List Leaf → (leaf : ℕ) → Leaf → List ℤ → (at : ℕ) → ℕ
element_address leaves leaf l is at = at + leaf_place leaves leaf + element_size l.kind * element_place l.bounds is

-- the generation whose data begins at an address
abbrev pub generation_at : Shape → (extent : ℤ) → (at : ℕ) → List ℕ → Generation
generation_at s z at m =
    record {
      shape = s;
      extent = z;
      values = λ leaf is.
          value_at (leaf_at s z leaf).kind (element_address (leaves_with z s) leaf (leaf_at s z leaf) is at) m;
    }
