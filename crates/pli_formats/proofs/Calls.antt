-- Format lists are read of the layout and the bytes of a call alone.
use Rattle.std.proofs.Common.{◌≡◌, ℕ, zero, suc, ◌+◌, Option, Some, None, if◌then◌else◌, [], ◌∷◌, refl, ap, ◌∙◌}
use Rattle.std.specs.Prelude.{◌&&◌, nat_le}
use Rattle.pli_serving.specs.Bytes.{is_data, word_at}
use Rattle.pli_serving.specs.Finding.{Call}
use Rattle.pli_serving.specs.FormatLists.{ReadItem, ReadOne, ReadList, ReadNothing, ReadItems, item_at, items_at, item_then, items_before, list_then, all_items, formats_at}
use Rattle.pli_values.specs.Calls.{call_on}

items_anywhere : (m : ℕ) (c : Call) (k at : ℕ) → items_at m c k at ≡ items_at m (call_on c.layout c.memory) k at
items_anywhere m c zero at = refl
items_anywhere zero c (suc k) at = refl
items_anywhere (suc m) c (suc k) at = go (item_at c at) (λ j b. items_anywhere m c j b)
  where
    rest : (s : Option ReadItems) → ((j b : ℕ) → items_at m c j b ≡ items_at m (call_on c.layout c.memory) j b)
        → list_then (word_at (at + 4) c.memory) s k (λ count behind. items_at m c count behind)
        ≡ list_then (word_at (at + 4) c.memory) s k (λ count behind. items_at m (call_on c.layout c.memory) count behind)
    rest None same = refl
    rest (Some l) same = ap (items_before (word_at (at + 4) c.memory) l.items) (same k l.behind)

    lists : (r s : Option ReadItems) → r ≡ s → ((j b : ℕ) → items_at m c j b ≡ items_at m (call_on c.layout c.memory) j b)
        → list_then (word_at (at + 4) c.memory) r k (λ count behind. items_at m c count behind)
        ≡ list_then (word_at (at + 4) c.memory) s k (λ count behind. items_at m (call_on c.layout c.memory) count behind)
    lists r s e same = ap (λ o. list_then (word_at (at + 4) c.memory) o k (λ count behind. items_at m c count behind)) e ∙ rest s same

    go : (i : ReadItem) → ((j b : ℕ) → items_at m c j b ≡ items_at m (call_on c.layout c.memory) j b)
        → item_then i (word_at (at + 4) c.memory) (at + 12) k (λ count behind. items_at m c count behind)
        ≡ item_then i (word_at (at + 4) c.memory) (at + 12) k (λ count behind. items_at m (call_on c.layout c.memory) count behind)
    go ReadNothing same = refl
    go (ReadOne f) same = ap (items_before (word_at (at + 4) c.memory) (f ∷ [])) (same k (at + 12))
    go (ReadList q) same = lists (items_at m c q (at + 12)) (items_at m (call_on c.layout c.memory) q (at + 12)) (same q (at + 12)) same

pub formats_anywhere : (c : Call) (at : ℕ) → formats_at c at ≡ formats_at (call_on c.layout c.memory) at
formats_anywhere c at =
    ap (λ o. if is_data c.layout at 4 && nat_le 1 (word_at at c.memory) then all_items o else None) (items_anywhere c.layout.end c (word_at at c.memory) (at + 4))
