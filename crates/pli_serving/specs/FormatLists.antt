-- A format list in memory: the number of its items, then for each its kind (1 F, 2 A, 3 X, 4 SKIP, 5 COLUMN, 6 a list), its
-- repetition, and its width or number, 0 for none; for a list the number of its items, which follow.
use Rattle.std.specs.Prelude.{ℕ, zero, suc, ◌+◌, ◌==◌, ◌&&◌, Bool, nat_le, List, [], ◌∷◌, ◌++◌, Option, Some, None, if◌then◌else◌}
use Rattle.pli_language.specs.Formats.{is_width, is_times}
use Rattle.pli_meaning.specs.Streaming.{FormatItem, DataFormat, ControlFormat, FixedItem, TextItem, SpaceItem, SkipItem, ColumnItem, repeated}
use Rattle.pli_serving.specs.Bytes.{is_data, word_at}
use Rattle.pli_serving.specs.Finding.{Call}

-- ---- one item

-- an item by itself, a list of so many items, or neither
pub data ReadItem : Type 0 where
  ReadOne : FormatItem → ReadItem
  ReadList : (count : ℕ) → ReadItem
  ReadNothing : ReadItem

abbrev pub read_if : Bool → ReadItem → ReadItem
read_if holds item = if holds then item else ReadNothing

abbrev pub text_item : (number : ℕ) → ReadItem
text_item number =
    if number == 0 then ReadOne (DataFormat (TextItem None))
    else read_if (is_width number) (ReadOne (DataFormat (TextItem (Some number))))

-- widths go to 1,024, the numbers of control items to 1,000, and a list has an item
abbrev pub item_of : (kind number : ℕ) → ReadItem
item_of kind number =
    if kind == 1 then read_if (is_width number) (ReadOne (DataFormat (FixedItem number)))
    else (if kind == 2 then text_item number
    else (if kind == 3 then read_if (is_times number) (ReadOne (ControlFormat (SpaceItem number)))
    else (if kind == 4 then read_if (is_times number) (ReadOne (ControlFormat (SkipItem number)))
    else (if kind == 5 then read_if (is_times number) (ReadOne (ControlFormat (ColumnItem number)))
    else (if kind == 6 then read_if (nat_le 1 number) (ReadList number) else ReadNothing)))))

-- what stands at an address; it is repeated 1 to 1,000 times
abbrev pub item_at : Call → (at : ℕ) → ReadItem
item_at c at =
    read_if (is_data c.layout at 12 && is_times (word_at (at + 4) c.memory))
    (item_of (word_at at c.memory) (word_at (at + 8) c.memory))

-- ---- items one behind the other

-- items that were read, and the address behind them
pub record ReadItems : Type 0 where
  pub items : List FormatItem
  pub behind : ℕ

-- what reads so many items from an address on
abbrev pub ItemReader : Type 0
ItemReader = (count at : ℕ) → Option ReadItems

abbrev pub items_before : (repetition : ℕ) → List FormatItem → Option ReadItems → Option ReadItems
items_before repetition first None = None
items_before repetition first (Some rest) =
    Some (record { items = repeated repetition first ++ rest.items; behind = rest.behind })

-- an item, and behind it so many more; a list's own items come first
abbrev pub list_then : (repetition : ℕ) → (list : Option ReadItems) → (left : ℕ) → (items : ItemReader) → Option ReadItems
list_then repetition None left items = None
list_then repetition (Some list) left items = items_before repetition list.items (items left list.behind)

abbrev pub item_then : ReadItem → (repetition behind left : ℕ) → (items : ItemReader) → Option ReadItems
item_then (ReadOne f) repetition behind left items = items_before repetition (f ∷ []) (items left behind)
item_then (ReadList count) repetition behind left items = list_then repetition (items count behind) left items
item_then ReadNothing repetition behind left items = None

-- so many items from an address on; of the most that memory holds
abbrev pub items_at : (most : ℕ) → Call → (count at : ℕ) → Option ReadItems
items_at most c zero at = Some (record { items = []; behind = at })
items_at zero c (suc left) at = None
items_at (suc most) c (suc left) at =
    item_then (item_at c at) (word_at (at + 4) c.memory) (at + 12) left (λ count behind. items_at most c count behind)

abbrev pub all_items : Option ReadItems → Option (List FormatItem)
all_items None = None
all_items (Some r) = Some r.items

-- the list at an address, with all repetitions; none where it isn't one
abbrev pub formats_at : Call → (at : ℕ) → Option (List FormatItem)
formats_at c at =
    if is_data c.layout at 4 && nat_le 1 (word_at at c.memory)
    then all_items (items_at c.layout.end c (word_at at c.memory) (at + 4))
    else None
