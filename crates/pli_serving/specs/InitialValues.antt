-- INITIAL values as they stand in memory: a word with the number of leaves that have some, and for each the leaf and the distance
-- of its values from the start of all. Values are a word with their number, and for each its repetition, what it is (0 skip,
-- 1 number or bit, 2 text, 3 null), the number or the text's length, and the text's bytes up to a multiple of 4.
use Rattle.std.specs.Prelude.{ℕ, zero, suc, ◌+◌, ◌==◌, nat_le, map, List, [], Option, Some, None, slice_get, slice_set, if◌then◌else◌}
use Rattle.rv_meaning.specs.Words.{signed}
use Rattle.pli_language.specs.Tree.{InitialValue, InitialNumber, InitialText, InitialBit, InitialSkip, InitialNull, InitialItem}
use Rattle.pli_typing.specs.Signatures.{LeafKind, Fixed, Character, Varying, Bit, Pointer, Offset, Leaf, rounded_up}
use Rattle.pli_meaning.specs.Numbers.{is_of_precision}
use Rattle.pli_serving.specs.Bytes.{is_data, bytes_at, word_at}
use Rattle.pli_serving.specs.Templates.{put_before}
use Rattle.pli_serving.specs.Finding.{Call}

-- ---- one value: it has the leaf's own kind, and fits it

abbrev pub initial_number : LeafKind → ℕ → Option InitialValue
initial_number (Fixed p) n = if is_of_precision p (signed n) then Some (InitialNumber (signed n)) else None
initial_number Bit n = if nat_le n 1 then Some (InitialBit (n == 1)) else None
initial_number _ n = None

abbrev pub initial_text : LeafKind → List ℕ → Option InitialValue
initial_text (Character n) t = Some (InitialText t)
initial_text (Varying n) t = Some (InitialText t)
initial_text _ t = None

abbrev pub initial_null : LeafKind → Option InitialValue
initial_null Pointer = Some InitialNull
initial_null Offset = Some InitialNull
initial_null _ = None

-- what it is, its number or length, and where its text stands
abbrev pub initial_value : Call → LeafKind → (what number at : ℕ) → Option InitialValue
initial_value c kind what number at =
    if what == 0 then Some InitialSkip
    else (if what == 1 then initial_number kind number
    else (if what == 2 then (if is_data c.layout at number then initial_text kind (bytes_at number at c.memory) else None)
    else (if what == 3 then initial_null kind else None)))

-- ---- the values of a leaf

abbrev pub item_of : (repetition : ℕ) → Option InitialValue → Option InitialItem
item_of repetition None = None
item_of repetition (Some v) = Some (record { repetition = repetition; value = v })

abbrev pub item_at : Call → LeafKind → (at : ℕ) → Option InitialItem
item_at c kind at =
    if is_data c.layout at 12
    then item_of (word_at at c.memory) (initial_value c kind (word_at (at + 4) c.memory) (word_at (at + 8) c.memory) (at + 12))
    else None

-- the bytes of an item
abbrev pub item_size : (what number : ℕ) → ℕ
item_size what number = 12 + (if what == 2 then rounded_up 4 number else 0)

abbrev pub items_from : Call → LeafKind → (count at : ℕ) → Option (List InitialItem)
items_from c kind zero at = Some []
items_from c kind (suc n) at =
    put_before (item_at c kind at) (items_from c kind n (at + item_size (word_at (at + 4) c.memory) (word_at (at + 8) c.memory)))

abbrev pub items_at : Call → Option Leaf → (at : ℕ) → Option (List InitialItem)
items_at c None at = None
items_at c (Some l) at = if is_data c.layout at 4 then items_from c l.kind (word_at at c.memory) (at + 4) else None

-- ---- the values of all leaves

-- the values of each leaf
abbrev pub Initial : Type 0
Initial = List (List InitialItem)

abbrev pub none_initial : List Leaf → Initial
none_initial leaves = map (λ l. []) leaves

abbrev pub with_items : (leaf : ℕ) → Option (List InitialItem) → Option Initial → Option Initial
with_items leaf (Some items) (Some all) = Some (slice_set all leaf items)
with_items leaf _ _ = None

abbrev pub leaves_from : Call → List Leaf → (start count at : ℕ) → Option Initial
leaves_from c leaves start zero at = Some (none_initial leaves)
leaves_from c leaves start (suc n) at =
    if is_data c.layout at 8
    then with_items
    (word_at at c.memory)
    (items_at c (slice_get leaves (word_at at c.memory)) (start + word_at (at + 4) c.memory))
    (leaves_from c leaves start n (at + 8))
    else None

abbrev pub leaves_at : Call → List Leaf → (at : ℕ) → Option Initial
leaves_at c leaves at = if is_data c.layout at 4 then leaves_from c leaves at (word_at at c.memory) (at + 4) else None

-- what these leaves begin with, with 0 as address no leaf has INITIAL; none where no such values stand there
abbrev pub initial_values : Call → List Leaf → (at : ℕ) → Option Initial
initial_values c leaves at = if at == 0 then Some (none_initial leaves) else leaves_at c leaves at
