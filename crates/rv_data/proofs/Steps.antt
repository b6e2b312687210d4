-- What each turn of a loop adds.
use Rattle.std.proofs.Common.{◌≡◌, ℕ, suc, ◌+◌, ◌<◌, ◌&&◌, List, [], ◌∷◌, ◌++◌, map, length, drop, get_or, refl, sym, ap, ◌∙◌, append_assoc, add-one, drop-cons, arith}
use Rattle.std.specs.Borrow.{Bor}
use Rattle.std.specs.List.{flat_map}
use Rattle.rv_meaning.specs.Memory.{bytes_of_words}
use Rattle.std.proofs.lemmas.List.{length-map}
use Rattle.pli_language.specs.declared.declaration.InitialItem.{InitialItem as ItemHeld}
use Rattle.pli_language.specs.View.{initial_item_of}
use Rattle.pli_typing.specs.declared.typed.Bounds.{Bounds as BoundsHeld}
use Rattle.pli_typing.specs.declared.typed.Leaf.{Leaf as LeafHeld}
use Rattle.pli_typing.specs.TypedTree as Y
use Rattle.pli_typing.specs.TypedView.{bounds_of, leaf_of}
use Rattle.pli_coding.specs.Assembly.{InitialLeaf}
use Rattle.pli_coding.specs.StaticForms.{bounds_from, bounds_places, initial_leaves, item_bytes, leaf_with_items, pairs_in, place_if, same_extent, size_places, sizes_from}
use Rattle.rv_assembly.proofs.Naming.{shown_from}
use Rattle.rv_data.specs.declared.places.ExtentPlace.{ExtentPlace}
use Rattle.rv_data.specs.Places.{words_of}

one_more : (i : ℕ) → i + 1 ≡ suc i
one_more i = omega arith

-- what a list gives from a place on, of which the first is now done
stepped : {A : Type 0} → (done here target : List A) → (from : ℕ → List A) → (i : ℕ) → (whole : List A) → whole ≡ here ++ from (suc i) → done ++ whole ≡ target → (done ++ here) ++ from (i + 1) ≡ target
stepped done here target from i whole e is =
    append_assoc done here (from (i + 1))
    ∙ ap (λ k. done ++ (here ++ from k)) (one_more i)
    ∙ sym (ap (λ u. done ++ u) e)
    ∙ is

pub next_leaf : (done target : List InitialLeaf) (xs : List LeafHeld) (i : ℕ) (x : LeafHeld) → i < length xs → x ≡ get_or xs i x → done ++ initial_leaves i (map leaf_of (drop i xs)) ≡ target → (done ++ leaf_with_items i (leaf_of x).initial) ++ initial_leaves (i + 1) (map leaf_of (drop (i + 1) xs)) ≡ target
next_leaf done target xs i x h e is =
    stepped done (leaf_with_items i (leaf_of x).initial) target (λ k. initial_leaves k (map leaf_of (drop (i + 1) xs))) i _ (ap (initial_leaves i) (shown_from leaf_of xs i x h e)) is

pub next_size : (done target : List ℕ) (extent : Y.Extent) (xs : List LeafHeld) (i : ℕ) (x : LeafHeld) → i < length xs → x ≡ get_or xs i x → done ++ sizes_from i extent (map leaf_of (drop i xs)) ≡ target → (done ++ size_places i extent (leaf_of x).type) ++ sizes_from (i + 1) extent (map leaf_of (drop (i + 1) xs)) ≡ target
next_size done target extent xs i x h e is =
    stepped done (size_places i extent (leaf_of x).type) target (λ k. sizes_from k extent (map leaf_of (drop (i + 1) xs))) i _ (ap (sizes_from i extent) (shown_from leaf_of xs i x h e)) is

pub next_dimension : (done target : List ℕ) (leaf : ℕ) (bounds : Y.Bounds) (xs : List BoundsHeld) (i : ℕ) (x : BoundsHeld) → i < length xs → x ≡ get_or xs i x → done ++ bounds_places leaf i bounds (map bounds_of (drop i xs)) ≡ target → (done ++ place_if (same_extent bounds.lower (bounds_of x).lower && same_extent bounds.upper (bounds_of x).upper) leaf i) ++ bounds_places leaf (i + 1) bounds (map bounds_of (drop (i + 1) xs)) ≡ target
next_dimension done target leaf bounds xs i x h e is =
    stepped done (place_if (same_extent bounds.lower (bounds_of x).lower && same_extent bounds.upper (bounds_of x).upper) leaf i) target (λ k. bounds_places leaf k bounds (map bounds_of (drop (i + 1) xs))) i _ (ap (bounds_places leaf i bounds) (shown_from bounds_of xs i x h e)) is

pub next_bounds : (done target : List ℕ) (bounds : Y.Bounds) (xs : List LeafHeld) (i : ℕ) (x : LeafHeld) → i < length xs → x ≡ get_or xs i x → done ++ bounds_from i bounds (map leaf_of (drop i xs)) ≡ target → (done ++ bounds_places i 0 bounds (leaf_of x).bounds) ++ bounds_from (i + 1) bounds (map leaf_of (drop (i + 1) xs)) ≡ target
next_bounds done target bounds xs i x h e is =
    stepped done (bounds_places i 0 bounds (leaf_of x).bounds) target (λ k. bounds_from k bounds (map leaf_of (drop (i + 1) xs))) i _ (ap (bounds_from i bounds) (shown_from leaf_of xs i x h e)) is

pub pairs : (ps : List ExtentPlace) → pairs_in (words_of ps) ≡ length ps
pairs [] = refl
pairs (p ∷ ps) = ap suc (pairs ps)

pub items_shown : (items : List (Bor ItemHeld)) → length (map (λ i. initial_item_of i.now) items) ≡ length items
items_shown items = length-map items (λ i. initial_item_of i.now)

pub next_item : (done target : List ℕ) (xs : List (Bor ItemHeld)) (i : ℕ) (x : Bor ItemHeld) → i < length xs → x ≡ get_or xs i x → done ++ flat_map item_bytes (map (λ i. initial_item_of i.now) (drop i xs)) ≡ target → (done ++ item_bytes (initial_item_of x.now)) ++ flat_map item_bytes (map (λ i. initial_item_of i.now) (drop (i + 1) xs)) ≡ target
next_item done target xs i x h e is =
    append_assoc done (item_bytes (initial_item_of x.now)) (flat_map item_bytes (map (λ i. initial_item_of i.now) (drop (i + 1) xs)))
    ∙ sym (ap (λ u. done ++ flat_map item_bytes u) (shown_from (λ i. initial_item_of i.now) xs i x h e))
    ∙ is

drop_at : {X : Type 0} (xs : List X) (i : ℕ) (x : X) → i < length xs → x ≡ get_or xs i x → drop i xs ≡ x ∷ drop (i + 1) xs
drop_at xs i x h e = drop-cons xs i x h ∙ ap (λ y. y ∷ drop (suc i) xs) (sym e) ∙ ap (λ k. x ∷ drop k xs) (sym (add-one i))

pub next_place : (done target : List ℕ) (xs : List ExtentPlace) (i : ℕ) (x : ExtentPlace) → i < length xs → x ≡ get_or xs i x → done ++ bytes_of_words (words_of (drop i xs)) ≡ target → (done ++ bytes_of_words (x.leaf ∷ x.dimension ∷ [])) ++ bytes_of_words (words_of (drop (i + 1) xs)) ≡ target
next_place done target xs i x h e is =
    append_assoc done (bytes_of_words (x.leaf ∷ x.dimension ∷ [])) (bytes_of_words (words_of (drop (i + 1) xs)))
    ∙ sym (ap (λ u. done ++ bytes_of_words (words_of u)) (drop_at xs i x h e))
    ∙ is
