-- Format lists whose repetitions aren't written out, and what is left of them at a place.
use Rattle.std.specs.Prelude.{◌≡◌, ℕ, zero, suc, ◌+◌, ◌-◌, ◌*◌, ◌<◌, true, List, [], ◌∷◌, ◌++◌, length, drop, Option}
use Rattle.std.specs.Prelude.{Some, None, if◌then◌else◌}
use Rattle.pli_meaning.specs.Streaming.{FormatItem, DataFormat, ControlFormat, FixedItem, TextItem, SpaceItem, SkipItem, ColumnItem, repeated}
use Rattle.pli_edit.specs.declared.format.Format.{Format}
use Rattle.pli_edit.specs.declared.format.Format.TheVariants as F
use Rattle.pli_edit.specs.declared.format.Node.{Node}
use Rattle.pli_edit.specs.declared.format.Node.TheVariants as N
use Rattle.pli_edit.specs.declared.format.Passed.{Passed}
use Rattle.pli_edit.specs.declared.format.Piece.{Piece}
use Rattle.pli_edit.specs.declared.format.Piece.TheVariants as P
use Rattle.pli_edit.specs.declared.format.Split.{Split}

abbrev pub item_of : Format → FormatItem
item_of (F.Fixed width) = DataFormat (FixedItem width)
item_of (F.Text width) = DataFormat (TextItem width)
item_of (F.Space n) = ControlFormat (SpaceItem n)
item_of (F.Skip n) = ControlFormat (SkipItem n)
item_of (F.Column n) = ControlFormat (ColumnItem n)

-- the items of so many nodes, of which a list's own stand behind it; some nodes are skipped first
abbrev pub items_from : List Node → (skip size : ℕ) → List FormatItem
items_from [] skip size = []
items_from (n ∷ ns) (suc skip) size = items_from ns skip size
items_from (n ∷ ns) zero zero = []
items_from (N.Item times f ∷ ns) zero (suc size) = repeated times (item_of f ∷ []) ++ items_from ns zero size
items_from (N.List times inner ∷ ns) zero (suc size) = repeated times (items_from ns zero inner) ++ items_from ns inner (size - inner)

abbrev pub items_of : List Node → List FormatItem
items_of nodes = items_from nodes 0 (length nodes)

-- ---- what is left, in pieces, of which the last comes first

abbrev pub piece_items : List Node → Piece → List FormatItem
piece_items nodes (P.Item times f) = repeated times (item_of f ∷ [])
piece_items nodes (P.Range times start size) = repeated times (items_from nodes start size)

abbrev pub left_before : List Node → List Piece → List FormatItem → List FormatItem
left_before nodes [] behind = behind
left_before nodes (p ∷ ps) behind = left_before nodes ps (piece_items nodes p ++ behind)

abbrev pub left_of : List Node → List Piece → List FormatItem
left_of nodes pieces = left_before nodes pieces []

-- ---- how much is to be done before an item stands in front

abbrev pub weight_from : List Node → (skip size : ℕ) → ℕ
weight_from [] skip size = 0
weight_from (n ∷ ns) (suc skip) size = weight_from ns skip size
weight_from (n ∷ ns) zero zero = 0
weight_from (N.Item times f ∷ ns) zero (suc size) = 4 + weight_from ns zero size
weight_from (N.List times inner ∷ ns) zero (suc size) = 4 + (times * weight_from ns zero inner + weight_from ns inner (size - inner))

abbrev pub piece_weight : List Node → Piece → ℕ
piece_weight nodes (P.Item times f) = 1
piece_weight nodes (P.Range times start size) = 1 + times * weight_from nodes start size

abbrev pub weight_of : List Node → List Piece → ℕ
weight_of nodes [] = 0
weight_of nodes (p ∷ ps) = piece_weight nodes p + weight_of nodes ps

-- ---- a range that is split: its first node, the others, and its further repetitions

abbrev pub IsSplit : List Node → (times start size : ℕ) → Option Split → Type 0
IsSplit nodes times start size None = repeated times (items_from nodes start size) ≡ []
IsSplit nodes times start size (Some s) =
    (repeated times (items_from nodes start size) ≡ piece_items nodes s.first ++ (piece_items nodes s.behind ++ piece_items nodes s.again))
    × (piece_weight nodes s.first + (piece_weight nodes s.behind + piece_weight nodes s.again) < 1 + times * weight_from nodes start size)

-- ---- the first item that is left, with the number of times that it is repeated, and what is left behind these

abbrev pub IsFirst : Option (ℕ × Format) → (old new : List FormatItem) → Type 0
IsFirst None old new = (old ≡ []) × (new ≡ [])
IsFirst (Some (times, f)) old new = (0 < times) × (old ≡ repeated times (item_of f ∷ []) ++ new)

abbrev pub IsTakenFrom : Option Format → (old new : List FormatItem) → Type 0
IsTakenFrom None old new = (old ≡ []) × (new ≡ [])
IsTakenFrom (Some f) old new = old ≡ item_of f ∷ new

abbrev pub IsShownOf : Option Format → List FormatItem → Type 0
IsShownOf None left = left ≡ []
IsShownOf (Some f) left = left ≡ item_of f ∷ drop 1 left

-- ---- a place: the whole list, and what is left of it

pub record FormatsLeft : Type 0 where
  pub whole : List FormatItem
  pub rest : List FormatItem

-- what comes next; from the start again where the list has ended
abbrev pub coming : (whole rest : List FormatItem) → List FormatItem
coming whole [] = whole
coming whole (f ∷ rest) = f ∷ rest

-- what was left before an item was passed, of what is left behind it: nothing where the list was begun again for it
abbrev pub left_before_passed : Passed → (rest : List FormatItem) → List FormatItem
left_before_passed p rest = if p.is_again then [] else item_of p.format ∷ rest

-- where the list was begun again, the item is its first
abbrev pub IsFirstAgain : Passed → FormatsLeft → Type 0
IsFirstAgain p new = p.is_again ≡ true → new.whole ≡ item_of p.format ∷ new.rest

-- the item that was next, and the place behind it; there is none in an empty list
abbrev pub IsPassed : Option Passed → (old new : FormatsLeft) → Type 0
IsPassed None old new = (coming old.whole old.rest ≡ []) × (new ≡ old)
IsPassed (Some p) old new =
    (old.rest ≡ left_before_passed p new.rest) × (new.whole ≡ old.whole) × IsFirstAgain p new

-- the next item, which stays
abbrev pub IsComing : Option Format → FormatsLeft → Type 0
IsComing found p = IsShownOf found (coming p.whole p.rest)
