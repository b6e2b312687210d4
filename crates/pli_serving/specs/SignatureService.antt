-- Service 3: a signature whose extents the run tells. One extent as written is filled in at all places that share it.
use Rattle.std.specs.Prelude.{ℕ, zero, suc, ◌+◌, ◌*◌, ◌^◌, ℤ, pos, int_le, Bool, true, false, ◌&&◌, ◌==◌, nat_lt, min, List, [], ◌∷◌, ◌++◌, length, Option, Some, None, is_some, slice_get, if◌then◌else◌}
use Rattle.rv_meaning.specs.Words.{signed}
use Rattle.pli_typing.specs.Signatures.{Bounds, natural, rounded_up, rounded_down}
use Rattle.pli_meaning.specs.Making.{in_order, is_length}
use Rattle.pli_meaning.specs.Contents.{Shape, same_int, same_offset, same_class}
use Rattle.area_keeper.specs.Keeper.{Keeper}
use Rattle.pli_serving.specs.Bytes.{Layout, is_data, word_at}
use Rattle.pli_types.specs.Templates.{OpenKind, OpenFixed, OpenCharacter, OpenVarying, OpenArea, OpenBit, OpenPointer, OpenOffset, OpenLeaf, Template}
use Rattle.pli_serving.specs.Templates.{put_before, shape_of}
use Rattle.pli_serving.specs.Answers.{Answer, Done}
use Rattle.pli_serving.specs.Finding.{Call}
use Rattle.pli_serving.specs.Arguments.{own_signature, data_bytes}
use Rattle.pli_serving.specs.Outcomes.{or_bad, bad_unless}

-- ---- the list of places

-- a place of an extent: a leaf, and a dimension counted from 0 or 255 for the length or size
pub record ExtentPlace : Type 0 where
  pub leaf : ℕ
  pub dimension : ℕ

abbrev pub length_or_size : ℕ
length_or_size = 255

abbrev pub places_from : (count at : ℕ) → List ℕ → List ExtentPlace
places_from zero at m = []
places_from (suc n) at m = record { leaf = word_at at m; dimension = word_at (at + 4) m } ∷ places_from n (at + 8) m

abbrev pub places_of_count : Layout → (count at : ℕ) → List ℕ → Option (List ExtentPlace)
places_of_count layout count at m = if is_data layout at (4 + 8 * count) then Some (places_from count (at + 4) m) else None

-- a list in memory: the number of its places, then these
abbrev pub places_at : Layout → (at : ℕ) → List ℕ → Option (List ExtentPlace)
places_at layout at m = if is_data layout at 4 then places_of_count layout (word_at at m) at m else None

-- ---- filling

abbrev pub length_told : ℤ → Option (Option ℕ)
length_told z = if is_length z then Some (Some (natural z)) else None

-- an area holds its size rounded down to 16
abbrev pub capacity_told : ℤ → Option (Option ℕ)
capacity_told z = if int_le (pos 0) z then Some (Some (rounded_down 16 (natural z))) else None

abbrev pub kind_with : (Option ℕ → OpenKind) → Option (Option ℕ) → Option OpenKind
kind_with kind None = None
kind_with kind (Some size) = Some (kind size)

-- an open length from 0 to 1,024, or an open size, is the upper bound that is given
abbrev pub filled_kind : ℤ → OpenKind → Option OpenKind
filled_kind z (OpenCharacter None) = kind_with OpenCharacter (length_told z)
filled_kind z (OpenVarying None) = kind_with OpenVarying (length_told z)
filled_kind z (OpenArea None) = kind_with OpenArea (capacity_told z)
filled_kind z _ = None

-- an open pair gets bounds in order; where REFER tells the upper bound, the lower one alone is set
abbrev pub filled_pair : (is_referred : Bool) → Bounds → Option Bounds → Option (Option Bounds)
filled_pair r b None = if in_order b then Some (Some b) else None
filled_pair true b (Some old) = Some (Some (record { lower = b.lower; upper = old.upper }))
filled_pair false b (Some old) = None

abbrev pub filled_pairs : (is_referred : Bool) → Bounds → (dimension : ℕ) → List (Option Bounds) → Option (List (Option Bounds))
filled_pairs r b dimension [] = None
filled_pairs r b zero (p ∷ ps) = put_before (filled_pair r b p) (Some ps)
filled_pairs r b (suc n) (p ∷ ps) = put_before (Some p) (filled_pairs r b n ps)

abbrev pub with_kind : OpenLeaf → Option OpenKind → Option OpenLeaf
with_kind l None = None
with_kind l (Some kind) = Some (record l { kind = kind })

abbrev pub with_pairs : OpenLeaf → Option (List (Option Bounds)) → Option OpenLeaf
with_pairs l None = None
with_pairs l (Some bounds) = Some (record l { bounds = bounds })

abbrev pub filled_leaf : (is_referred : Bool) → Bounds → (dimension : ℕ) → OpenLeaf → Option OpenLeaf
filled_leaf r b dimension l =
    if dimension == length_or_size then with_kind l (filled_kind b.upper l.kind)
    else with_pairs l (filled_pairs r b dimension l.bounds)

-- REFER tells an extent of the last leaf
abbrev pub filled_leaves : (has_refer : Bool) → Bounds → (leaf dimension : ℕ) → List OpenLeaf → Option (List OpenLeaf)
filled_leaves r b leaf d [] = None
filled_leaves r b zero d (l ∷ []) = put_before (filled_leaf r b d l) (Some [])
filled_leaves r b zero d (l ∷ m ∷ ls) = put_before (filled_leaf false b d l) (Some (m ∷ ls))
filled_leaves r b (suc n) d (l ∷ ls) = put_before (Some l) (filled_leaves r b n d ls)

abbrev pub with_leaves : Template → Option (List OpenLeaf) → Option Template
with_leaves t None = None
with_leaves t (Some leaves) = Some (record t { leaves = leaves })

abbrev pub filled_at : Bounds → ExtentPlace → Template → Option Template
filled_at b p t = with_leaves t (filled_leaves (is_some t.refer) b p.leaf p.dimension t.leaves)

-- a template with an extent at all its places; none where a place isn't there or isn't open, or the extent can't be one
abbrev pub filled : Bounds → List ExtentPlace → Option Template → Option Template
filled b places None = None
filled b [] (Some t) = Some t
filled b (p ∷ ps) (Some t) = filled b ps (filled_at b p t)

-- ---- equal signatures have equal numbers

abbrev pub same_open_kind : OpenKind → OpenKind → Bool
same_open_kind (OpenFixed p) (OpenFixed q) = p == q
same_open_kind (OpenCharacter m) (OpenCharacter n) = same_offset m n
same_open_kind (OpenVarying m) (OpenVarying n) = same_offset m n
same_open_kind OpenBit OpenBit = true
same_open_kind OpenPointer OpenPointer = true
same_open_kind OpenOffset OpenOffset = true
same_open_kind (OpenArea m) (OpenArea n) = same_offset m n
same_open_kind _ _ = false

abbrev pub same_pair : Option Bounds → Option Bounds → Bool
same_pair None None = true
same_pair (Some a) (Some b) = same_int a.lower b.lower && same_int a.upper b.upper
same_pair _ _ = false

abbrev pub same_pairs : List (Option Bounds) → List (Option Bounds) → Bool
same_pairs [] [] = true
same_pairs (a ∷ as') (b ∷ bs) = same_pair a b && same_pairs as' bs
same_pairs _ _ = false

abbrev pub same_open_leaves : List OpenLeaf → List OpenLeaf → Bool
same_open_leaves [] [] = true
same_open_leaves (a ∷ as') (b ∷ bs) = same_open_kind a.kind b.kind && (same_pairs a.bounds b.bounds && same_open_leaves as' bs)
same_open_leaves _ _ = false

abbrev pub same_template : Template → Template → Bool
same_template a b = same_class a.class b.class && (same_offset a.refer b.refer && same_open_leaves a.leaves b.leaves)

-- the place of the first equal template among these, the first of which has this place; else behind the last
abbrev pub number_from : ℕ → Template → List Template → ℕ
number_from place t [] = place
number_from place t (u ∷ us) = if same_template u t then place else number_from (suc place) t us

abbrev pub number_of : Template → List Template → ℕ
number_of t templates = number_from 0 t templates

-- with a template where no equal one is there
abbrev pub with_template : Template → List Template → List Template
with_template t templates = if number_of t templates == length templates then templates ++ t ∷ [] else templates

-- ---- the service

abbrev pub most_reserved : ℕ
most_reserved = 2 ^ 30

-- the bytes to reserve, a multiple of 16; none while an extent is open
abbrev pub reserved_for : Keeper → Option Shape → ℕ
reserved_for keeper None = 0
reserved_for keeper (Some s) = min most_reserved (rounded_up 16 (data_bytes keeper s))

abbrev pub numbered : Call → Template → Answer
numbered c t =
    bad_unless (nat_lt (number_of t c.services.signatures) own_signature)
    (Done
    (record c.services { signatures = with_template t c.services.signatures })
    c.memory
    (number_of t c.services.signatures)
    (reserved_for c.keeper (shape_of t)))

abbrev pub bounds_given : (lower upper : ℕ) → Bounds
bounds_given lower upper = record { lower = signed lower; upper = signed upper }

-- the number of the signature with this extent at the places of a list, and the bytes to reserve for its generation
abbrev pub signature_served : Call → (number places lower upper : ℕ) → Answer
signature_served c number places lower upper =
    or_bad (places_at c.layout places c.memory) (λ ps.
    or_bad (filled (bounds_given lower upper) ps (slice_get c.services.signatures number)) (λ t.
    numbered c t))
