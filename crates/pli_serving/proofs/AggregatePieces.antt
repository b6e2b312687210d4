-- Signatures, generations and memory for the rows of aggregates.
use Rattle.std.proofs.Common.{ℕ, ◌-◌, ◌*◌, ◌^◌, pos, List, [], ◌∷◌, ◌++◌, Some, None, true, map, length, replicate}
use lib.Chars.{codes}
use Rattle.rv_meaning.specs.Memory.{bytes_of_words}
use Rattle.pli_typing.specs.Signatures.{Bounds, PlainClass}
use Rattle.pli_typing.specs.TypedTree as Y
use Rattle.pli_types.specs.Templates.{Template, OpenLeaf, OpenKind, OpenFixed, OpenCharacter, OpenVarying, OpenBit, OpenPointer, OpenOffset, OpenArea}
use Rattle.pli_serving.specs.ServiceState.{Services, Entry}
use Rattle.pli_serving.proofs.RowCalls.{idle}

abbrev pub member : (depth dimensions : ℕ) → Y.Member
member depth dimensions = record { depth = depth; dimensions = dimensions }

abbrev pub part : (first count : ℕ) → Y.Part
part first count = record { first = first; count = count }

abbrev pub up_to : ℕ → Bounds
up_to n = record { lower = pos 1; upper = pos n }

abbrev leaf : OpenKind → List Bounds → OpenLeaf
leaf kind bounds = record { kind = kind; bounds = map (λ b. Some b) bounds }

abbrev plain : List OpenLeaf → Template
plain leaves = record { class = PlainClass; refer = None; leaves = leaves }

abbrev array_of : OpenKind → Template
array_of kind = plain (leaf kind (up_to 2 ∷ []) ∷ [])

-- 0: 1 S(2), 2 A FIXED BINARY(31), 2 B(2) CHARACTER(3)
-- 1: 1 R BASED, 2 N FIXED BINARY(15), 2 T CHARACTER(E REFER(N))
-- 2: as 0, with CHARACTER(2)
-- 3: as 0, with B(3)
-- 4 to 9: arrays of two elements of each other kind, and with an open length
-- 10: an area
-- 11: two arrays of numbers
-- 12: 1 R BASED, 2 N FIXED BINARY(15), 2 A(E REFER(N)) FIXED BINARY(31)
abbrev pub signatures : List Template
signatures =
    plain (leaf (OpenFixed 31) (up_to 2 ∷ []) ∷ leaf (OpenCharacter (Some 3)) (up_to 2 ∷ up_to 2 ∷ []) ∷ [])
    ∷ record { class = PlainClass; refer = Some 0; leaves = leaf (OpenFixed 15) [] ∷ leaf (OpenCharacter (Some 0)) [] ∷ [] }
    ∷ plain (leaf (OpenFixed 31) (up_to 2 ∷ []) ∷ leaf (OpenCharacter (Some 2)) (up_to 2 ∷ up_to 2 ∷ []) ∷ [])
    ∷ plain (leaf (OpenFixed 31) (up_to 2 ∷ []) ∷ leaf (OpenCharacter (Some 3)) (up_to 2 ∷ up_to 3 ∷ []) ∷ [])
    ∷ array_of (OpenFixed 15) ∷ array_of (OpenVarying (Some 3)) ∷ array_of OpenBit ∷ array_of OpenPointer ∷ array_of OpenOffset
    ∷ array_of (OpenCharacter None) ∷ plain (leaf (OpenArea (Some 16)) [] ∷ [])
    ∷ plain (leaf (OpenFixed 31) (up_to 2 ∷ []) ∷ leaf (OpenFixed 31) (up_to 2 ∷ up_to 2 ∷ []) ∷ [])
    ∷ record { class = PlainClass; refer = Some 0; leaves = leaf (OpenFixed 15) [] ∷ leaf (OpenFixed 31) (up_to 0 ∷ []) ∷ [] }
    ∷ []

-- a variable of a signature, with serial 1 and its data at 128
abbrev pub variable_of : (signature : ℕ) → List Entry → Services
variable_of signature entries =
    record idle {
      signatures = signatures;
      living = record { serial = 1; owner = 1; signature = signature; at = 128 } ∷ [];
      entries = entries;
    }

-- no number, or none in particular
abbrev pub ones : ℕ
ones = 2 ^ 32 - 1

-- the numbers 11 and 12, then four texts of three bytes
abbrev pub structure_data : List ℕ
structure_data = bytes_of_words (11 ∷ 12 ∷ []) ++ codes "abc" ++ 0 ∷ codes "def" ++ 0 ∷ codes "ghi" ++ 0 ∷ codes "jkl" ++ 0 ∷ []

-- code; at 16 a name of a kind, offset and serial; at 32 a record of it with a signature, the place of the subscripts and a REFER
-- extent; from 52 on a shape; at 128 data
abbrev pub memory : (name : List ℕ) → (signature place extent : ℕ) → (shape bytes : List ℕ) → List ℕ
memory name signature place extent shape bytes =
    replicate 16 0
    ++ bytes_of_words (name ++ 16 ∷ signature ∷ place ∷ extent ∷ 0 ∷ shape)
    ++ replicate (76 - 4 * length shape) 0
    ++ bytes

abbrev pub variable_name : List ℕ
variable_name = 1 ∷ 0 ∷ 1 ∷ 0 ∷ []

-- all of structure 0
abbrev pub whole_shape : List ℕ
whole_shape = 0 ∷ 1 ∷ 2 ∷ 0 ∷ 0 ∷ 0 ∷ 0 ∷ 1 ∷ 0 ∷ 1 ∷ []

-- one structure of it, behind a subscript
abbrev pub row_shape : List ℕ
row_shape = 1 ∷ 0 ∷ 2 ∷ 0 ∷ 0 ∷ 0 ∷ 0 ∷ 1 ∷ 0 ∷ 1 ∷ []

-- all of its second member
abbrev pub member_shape : List ℕ
member_shape = 0 ∷ 2 ∷ 0 ∷ 1 ∷ []

-- ---- a BASED structure with a REFER extent, in the heap: its data stands at 272

abbrev pub based_name : List ℕ
based_name = 2 ∷ 0 ∷ 0 ∷ 0 ∷ []

-- the member, two bytes of padding, and four bytes of text
abbrev pub refer_data : List ℕ
refer_data = replicate 144 0 ++ 3 ∷ 0 ∷ 0 ∷ 0 ∷ codes "wxyz"

abbrev pub refer_shape : List ℕ
refer_shape = 0 ∷ 0 ∷ 2 ∷ 0 ∷ 0 ∷ 0 ∷ 0 ∷ 0 ∷ 0 ∷ 1 ∷ []

-- the same with an array of numbers in place of the text
abbrev pub refer_array_shape : List ℕ
refer_array_shape = 0 ∷ 0 ∷ 2 ∷ 0 ∷ 0 ∷ 0 ∷ 0 ∷ 1 ∷ 0 ∷ 1 ∷ []

abbrev pub heap : List Entry → Services
heap entries = record idle { signatures = signatures; heap_made = true; entries = entries }
