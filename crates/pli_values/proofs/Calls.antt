-- Lists are read of a call's layout and memory alone.
use Rattle.std.proofs.Common.{zero, suc, ◌≡◌, ℕ, ◌+◌, ◌==◌, Option, Some, None, if◌then◌else◌, List, refl, ap, ◌∙◌, slice_get}
use Rattle.pli_language.specs.Tree.{InitialItem}
use Rattle.pli_typing.specs.Signatures.{LeafKind, Leaf}
use Rattle.pli_serving.specs.Bytes.{word_at, is_data}
use Rattle.pli_serving.specs.Finding.{Call}
use Rattle.pli_serving.specs.Templates.{put_before}
use Rattle.pli_serving.specs.InitialValues.{Initial, none_initial, items_from, item_at, item_size, items_at, with_items, leaves_from, initial_values}
use Rattle.pli_values.specs.Calls.{call_on}

items_anywhere : (c : Call) (kind : LeafKind) (n at : ℕ) → items_from c kind n at ≡ items_from (call_on c.layout c.memory) kind n at
items_anywhere c kind zero at = refl
items_anywhere c kind (suc n) at =
    ap (put_before (item_at c kind at)) (items_anywhere c kind n (at + item_size (word_at (at + 4) c.memory) (word_at (at + 8) c.memory)))

leaf_anywhere : (c : Call) (leaf : Option Leaf) (at : ℕ) → items_at c leaf at ≡ items_at (call_on c.layout c.memory) leaf at
leaf_anywhere c None at = refl
leaf_anywhere c (Some l) at =
    ap (λ (o : Option (List InitialItem)). if is_data c.layout at 4 then o else None) (items_anywhere c l.kind (word_at at c.memory) (at + 4))

leaves_anywhere : (c : Call) (leaves : List Leaf) (start n at : ℕ) → leaves_from c leaves start n at ≡ leaves_from (call_on c.layout c.memory) leaves start n at
leaves_anywhere c leaves start zero at = refl
leaves_anywhere c leaves start (suc n) at =
    ap (λ (o : Option (List InitialItem)). if is_data c.layout at 8 then with_items (word_at at c.memory) o (leaves_from c leaves start n (at + 8)) else None) (leaf_anywhere c (slice_get leaves (word_at at c.memory)) (start + word_at (at + 4) c.memory))
    ∙ ap (λ (o : Option Initial). if is_data c.layout at 8 then with_items (word_at at c.memory) (items_at (call_on c.layout c.memory) (slice_get leaves (word_at at c.memory)) (start + word_at (at + 4) c.memory)) o else None) (leaves_anywhere c leaves start n (at + 8))

pub values_anywhere : (c : Call) (leaves : List Leaf) (at : ℕ) → initial_values c leaves at ≡ initial_values (call_on c.layout c.memory) leaves at
values_anywhere c leaves at =
    ap (λ (o : Option Initial). if at == 0 then Some (none_initial leaves) else (if is_data c.layout at 4 then o else None)) (leaves_anywhere c leaves at (word_at at c.memory) (at + 4))
