-- Entries as they are kept: texts, and in the places of some of them aggregates.
use Rattle.std.specs.Prelude.{ℕ, ◌*◌, ◌<◌, ◌==◌, nat_lt, List, [], ◌∷◌, length, map, Option, Some, None, if◌then◌else◌}
use Rattle.pli_typing.specs.Signatures.{Bounds, LeafKind}
use Rattle.pli_types.specs.View.{pair_of}
use Rattle.pli_meaning.specs.Contents.{element_place}
use Rattle.pli_serving.specs.AggregateServices.{taken_bytes}
use Rattle.pli_serving.specs.ServiceState as S
use Rattle.pli_serving.specs.ServiceState.{Entry, TextEntry, AggregateEntry}
use Rattle.pli_serving.specs.Values.{all_subscripts, element_size, value_at}
use Rattle.pli_signatures.specs.View.{kind_of}
use Rattle.pli_entries.specs.declared.kept.Aggregate.{Aggregate}
use Rattle.pli_entries.specs.declared.taken.TakenLeaf.{TakenLeaf}

-- the elements, row by row
abbrev pub elements_in : LeafKind → List Bounds → (bytes : List ℕ) → List (List ℕ)
elements_in kind bounds bytes =
    map (λ is. taken_bytes kind (value_at kind (element_size kind * element_place bounds is) bytes)) (all_subscripts bounds)

abbrev pub leaf_of : TakenLeaf → S.TakenLeaf
leaf_of l =
    record {
      kind = kind_of l.kind;
      bounds = map pair_of l.bounds.items;
      elements = elements_in (kind_of l.kind) (map pair_of l.bounds.items) l.bytes.items;
    }

-- ---- by the number of texts below them; both have the newest first

abbrev pub entries_of : List (List ℕ) → List Aggregate → List Entry
entries_of [] held = []
entries_of (t ∷ ts) [] = TextEntry t ∷ entries_of ts []
entries_of (t ∷ ts) (a ∷ held) =
    if a.place == length ts then AggregateEntry (map leaf_of a.leaves.items) ∷ entries_of ts held
    else TextEntry t ∷ entries_of ts (a ∷ held)

abbrev pub ArePlaced : List Aggregate → (height : ℕ) → Type 0
ArePlaced [] height = Unit {0}
ArePlaced (a ∷ held) height = (a.place < height) × ArePlaced held a.place

abbrev pub placed_below : (height : ℕ) → List Aggregate → List Aggregate
placed_below height [] = []
placed_below height (a ∷ held) = if nat_lt a.place height then a ∷ held else placed_below height held

-- ---- the newest entry, where that is an aggregate

abbrev pub leaves_on_top : List Entry → Option (List S.TakenLeaf)
leaves_on_top (AggregateEntry leaves ∷ below) = Some leaves
leaves_on_top _ = None

-- and where that is a text
abbrev pub text_on_top : List Entry → Option (List ℕ)
text_on_top (TextEntry t ∷ below) = Some t
text_on_top _ = None
