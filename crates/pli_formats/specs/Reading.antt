-- The nodes of a format list as they are read: one behind the other, a list's with the number of its items.
use Rattle.std.specs.Prelude.{ℕ, zero, suc, ◌+◌, List, [], ◌++◌, Option, Some, None}
use Rattle.pli_meaning.specs.Streaming.{FormatItem, DataFormat, ControlFormat, FixedItem, TextItem, SpaceItem, SkipItem, ColumnItem}
use Rattle.pli_edit.specs.declared.format.Format.{Format}
use Rattle.pli_edit.specs.declared.format.Format.TheVariants as F
use Rattle.pli_edit.specs.declared.format.Node.{Node}
use Rattle.pli_edit.specs.declared.format.Node.TheVariants as N
use Rattle.pli_serving.specs.Bytes.{word_at}
use Rattle.pli_serving.specs.Finding.{Call}
use Rattle.pli_serving.specs.FormatLists.{ReadItem, ReadOne, ReadList, ReadNothing, item_at}
use Rattle.pli_serving.specs.Templates.{put_before}

abbrev pub format_of : FormatItem → Format
format_of (DataFormat (FixedItem width)) = F.Fixed width
format_of (DataFormat (TextItem width)) = F.Text width
format_of (ControlFormat (SpaceItem n)) = F.Space n
format_of (ControlFormat (SkipItem n)) = F.Skip n
format_of (ControlFormat (ColumnItem n)) = F.Column n

abbrev pub node_of : ReadItem → (times : ℕ) → Option Node
node_of (ReadOne f) times = Some (N.Item times (format_of f))
node_of (ReadList count) times = Some (N.List times count)
node_of ReadNothing times = None

abbrev pub node_at : Call → (at : ℕ) → Option Node
node_at c at = node_of (item_at c at) (word_at (at + 4) c.memory)

-- how many items are in a node
abbrev pub items_in : Node → ℕ
items_in (N.Item times f) = 0
items_in (N.List times count) = count

abbrev pub node_then : Option Node → (left behind : ℕ) → ((count at : ℕ) → Option (List Node)) → Option (List Node)
node_then None left behind nodes = None
node_then (Some n) left behind nodes = put_before (Some n) (nodes (items_in n + left) behind)

-- those of so many items from an address on; of the most that memory holds
abbrev pub nodes_at : (most : ℕ) → Call → (count at : ℕ) → Option (List Node)
nodes_at most c zero at = Some []
nodes_at zero c (suc left) at = None
nodes_at (suc most) c (suc left) at = node_then (node_at c at) left (at + 12) (λ count behind. nodes_at most c count behind)

-- behind nodes that were read
abbrev pub joined : List Node → Option (List Node) → Option (List Node)
joined nodes None = None
joined nodes (Some more) = Some (nodes ++ more)
