-- Services 8 (mode 0), 9, 14 and 15: names are resolved and copied, become offsets and come from offsets, and the extent that a
-- REFER member tells.
use Rattle.std.specs.Prelude.{ℕ, ◌+◌, ◌*◌, ℤ, ◌==◌, List, [], ◌∷◌, ◌++◌, length, Option, Some, None, slice_get, if◌then◌else◌}
use Rattle.rv_meaning.specs.declared.image.TableKind.TheVariants as K
use Rattle.rv_meaning.specs.Words.{word}
use Rattle.rv_meaning.specs.Memory.{bytes_of_words}
use Rattle.rv_meaning.specs.Tables.{kind_number}
use Rattle.pli_typing.specs.Signatures.{LeafKind, Fixed, Character, Varying, Bit, Pointer, Offset, Area, Bounds, Leaf}
use Rattle.pli_meaning.specs.Codes.{no_generation_code, extent_code, not_in_area_code}
use Rattle.pli_meaning.specs.Contents.{Shape, leaves_with}
use Rattle.pli_meaning.specs.Evaluating.{pointer_into, offset_in_passed, extent_in_force}
use Rattle.pli_serving.specs.Bytes.{Layout, is_data, bytes_at, with_bytes, number_bytes, name_size, name_bytes, offset_word, offset_of}
use Rattle.pli_serving.specs.Values.{leaf_place, generation_at}
use Rattle.pli_serving.specs.Answers.{Answer, Done, Bad}
use Rattle.pli_serving.specs.Finding.{Call, Found}
use Rattle.pli_serving.specs.Arguments.{name_in, asked_at, where_found, area_named, area_if, shape_of_number}
use Rattle.pli_serving.specs.Outcomes.{or_bad, bad_unless}

-- ---- 8: resolve

-- a leaf's kind, and its precision, length or capacity, 0 for what has none
abbrev pub kind_words : LeafKind → List ℕ
kind_words (Fixed p) = kind_number K.Fixed ∷ p ∷ []
kind_words (Character n) = kind_number K.Character ∷ n ∷ []
kind_words (Varying n) = kind_number K.Varying ∷ n ∷ []
kind_words Bit = kind_number K.Bit ∷ 0 ∷ []
kind_words Pointer = kind_number K.Pointer ∷ 0 ∷ []
kind_words Offset = kind_number K.Offset ∷ 0 ∷ []
kind_words (Area n) = kind_number K.Area ∷ n ∷ []

abbrev pub bounds_words : List Bounds → List ℕ
bounds_words [] = []
bounds_words (b ∷ bs) = word b.lower ∷ word b.upper ∷ bounds_words bs

-- the words that describe a leaf in a buffer
abbrev pub leaf_words : Leaf → List ℕ
leaf_words l = kind_words l.kind ++ bounds_words l.bounds

-- the memory with a description in a buffer, where one is wanted
abbrev pub described : Layout → (buffer : ℕ) → List ℕ → List ℕ → Option (List ℕ)
described layout buffer words m =
    if buffer == 0 then Some m
    else (if is_data layout buffer (4 * length words) then Some (with_bytes (bytes_of_words words) buffer m) else None)

abbrev pub resolved : Call → (leaf buffer : ℕ) → Found → List Leaf → Answer
resolved c leaf buffer f leaves =
    or_bad (slice_get leaves leaf) (λ l.
    or_bad (described c.layout buffer (leaf_words l) c.memory) (λ m.
    Done c.services m (f.at + leaf_place leaves leaf) 0))

-- where a leaf of the live generation begins; with a buffer also what the leaf is
abbrev pub resolve_served : Call → (name signature leaf buffer : ℕ) → Answer
resolve_served c name signature leaf buffer =
    where_found (asked_at c name signature)
    (Done c.services c.memory name no_generation_code)
    (λ f. or_bad (shape_of_number c f.signature) (λ s. resolved c leaf buffer f (leaves_with f.extent s)))

-- ---- 9: address

-- the name of a generation that lives is copied
abbrev pub address_served : Call → (name signature destination : ℕ) → Answer
address_served c name signature destination =
    bad_unless (is_data c.layout destination name_size)
    (where_found (asked_at c name signature)
    (Done c.services c.memory name no_generation_code)
    (λ f. Done c.services (with_bytes (bytes_at name_size name c.memory) destination c.memory) name 0))

-- ---- 14: pointer and offset

-- the name of an offset in an area; null of the null offset
abbrev pub pointer_served : Call → (offset area destination : ℕ) → Answer
pointer_served c offset area destination =
    or_bad (area_named c area) (λ a.
    bad_unless (is_data c.layout destination name_size)
    (Done c.services (with_bytes (name_bytes (pointer_into a.serial (offset_of offset))) destination c.memory) offset area))

abbrev pub offset_answered : Call → (name : ℕ) → Option (Option ℕ) → Answer
offset_answered c name None = Done c.services c.memory name not_in_area_code
offset_answered c name (Some o) = Done c.services c.memory (offset_word o) 0

-- the offset of a name in an area, or in none; whether it lives isn't asked
abbrev pub offset_served : Call → (name area : ℕ) → Answer
offset_served c name area =
    or_bad (name_in c name) (λ n.
    or_bad (area_if c area) (λ within.
    offset_answered c name (offset_in_passed within n)))

-- with 0 a pointer from an offset, with 1 an offset from a pointer
abbrev pub locator_served : Call → (a0 area destination mode : ℕ) → Answer
locator_served c a0 area destination mode =
    if mode == 0 then pointer_served c a0 area destination
    else (if mode == 1 then offset_served c a0 area else Bad)

-- ---- 15: the extent that REFER tells

-- where the extent of the last leaf stands in its description: behind the first lower bound, or as the length
abbrev pub extent_word : List Leaf → ℕ
extent_word [] = 4
extent_word (l ∷ []) = extent_word_of l.bounds
  where
    extent_word_of : List Bounds → ℕ
    extent_word_of [] = 4
    extent_word_of (b ∷ bs) = 12
extent_word (l ∷ m ∷ ls) = extent_word (m ∷ ls)

-- the memory with the extent in a leaf's description, where there is a REFER member and a description
abbrev pub with_extent : Call → Shape → (buffer : ℕ) → ℤ → Option ℕ → Option (List ℕ)
with_extent c s buffer z None = Some c.memory
with_extent c s buffer z (Some member) =
    if buffer == 0 then Some c.memory
    else (if is_data c.layout (buffer + extent_word s.signature.leaves) 4
    then Some (with_bytes (number_bytes 4 (word z)) (buffer + extent_word s.signature.leaves) c.memory)
    else None)

abbrev pub refer_answered : Call → Shape → (name buffer : ℕ) → Option ℤ → Answer
refer_answered c s name buffer None = Done c.services c.memory name extent_code
refer_answered c s name buffer (Some z) = or_bad (with_extent c s buffer z s.refer) (λ m. Done c.services m (word z) 0)

-- the extent in force, 0 without a REFER member: it may be no more than was allocated, and no less than the lower bound or 0
abbrev pub refer_served : Call → (name signature buffer : ℕ) → Answer
refer_served c name signature buffer =
    where_found (asked_at c name signature) Bad (λ f.
    or_bad (shape_of_number c f.signature) (λ s.
    refer_answered c s name buffer
    (extent_in_force (generation_at s f.extent f.at c.memory) (record { first = 0; count = length s.signature.leaves }))))
