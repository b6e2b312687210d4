-- The steps of the loops that gather extents and put them in order.
use Rattle.std.proofs.Common.{◌≡◌, ◌<◌, ◌+◌, ℕ, take, drop, length, get_or, Bool, true, false, List, [], ◌∷◌, ◌++◌, map, refl, sym, ap, ◌∙◌, append_assoc, append-nil}
use Rattle.std.specs.Prelude.{if◌then◌else◌}
use Rattle.std.proofs.lemmas.List.{drop_all, map-append, take-map, drop-map, take-append-drop}
use Rattle.std.proofs.lemmas.List.Concat.{flat_map-append}
use Rattle.pli_declare.proofs.Chains.{drop_here}
use Rattle.pli_typing.specs.Variables.{WrittenExtent, with_extent, in_order}
use Rattle.pli_language.specs.Declaring.{place_of_expr}
use Rattle.pli_variables.specs.Written.{ordered_on, goes_before, stands_at, extent_shown, all_shown}
use Rattle.pli_variables.specs.declared.extent.WrittenExtent.{WrittenExtent as WrittenExtentHeld}

-- a loop over a list
pub ruleset gathered = (drop_here, drop_all, append_assoc, append-nil, map-append, flat_map-append)

-- one extent more, the last of those that are left
pub ordered_last : (ws : List WrittenExtent) (w : WrittenExtent) (done : List WrittenExtent) → ordered_on (ws ++ w ∷ []) done ≡ ordered_on ws (with_extent w done)
ordered_last [] w done = refl
ordered_last (v ∷ ws) w done = ap (with_extent v) (ordered_last ws w done)

pub ordered_all : (ws : List WrittenExtent) → ordered_on ws [] ≡ in_order ws
ordered_all [] = refl
ordered_all (w ∷ ws) = ap (with_extent w) (ordered_all ws)

-- an extent that goes before the first of these, is the first, or goes behind it
pub extent_before : (w v : WrittenExtent) (vs : List WrittenExtent) → goes_before w v ≡ true → with_extent w (v ∷ vs) ≡ w ∷ v ∷ vs
extent_before w v vs e = ap (λ (t : Bool). if t then w ∷ v ∷ vs else (if stands_at (place_of_expr v.value) w then v ∷ vs else v ∷ with_extent w vs)) e

pub extent_same : (w v : WrittenExtent) (vs : List WrittenExtent) → goes_before w v ≡ false → stands_at (place_of_expr v.value) w ≡ true → with_extent w (v ∷ vs) ≡ v ∷ vs
extent_same w v vs e s =
    ap (λ (t : Bool). if t then w ∷ v ∷ vs else (if stands_at (place_of_expr v.value) w then v ∷ vs else v ∷ with_extent w vs)) e
    ∙ ap (λ (t : Bool). if t then v ∷ vs else v ∷ with_extent w vs) s

pub extent_behind : (w v : WrittenExtent) (vs : List WrittenExtent) → goes_before w v ≡ false → stands_at (place_of_expr v.value) w ≡ false → with_extent w (v ∷ vs) ≡ v ∷ with_extent w vs
extent_behind w v vs e s =
    ap (λ (t : Bool). if t then w ∷ v ∷ vs else (if stands_at (place_of_expr v.value) w then v ∷ vs else v ∷ with_extent w vs)) e
    ∙ ap (λ (t : Bool). if t then v ∷ vs else v ∷ with_extent w vs) s

-- nothing is put where one of these is written at its place
pub extent_found : (w : WrittenExtent) (all : List WrittenExtentHeld) (i : ℕ) (v : WrittenExtentHeld) → i < length all → v ≡ get_or all i v → goes_before w (extent_shown v) ≡ false → stands_at (place_of_expr (extent_shown v).value) w ≡ true → all_shown (take i all) ++ with_extent w (all_shown (drop i all)) ≡ with_extent w (all_shown all) → all_shown all ≡ with_extent w (all_shown all)
extent_found w all i v h e b s inv =
    let here : all_shown (drop i all) ≡ extent_shown v ∷ all_shown (drop (i + 1) all) = ap all_shown (drop_here all i v h e) in
    let same : with_extent w (all_shown (drop i all)) ≡ all_shown (drop i all) = ap (with_extent w) here ∙ extent_same w (extent_shown v) (all_shown (drop (i + 1) all)) b s ∙ sym here in
    ap all_shown (sym (take-append-drop i all)) ∙ map-append extent_shown (take i all) (drop i all) ∙ ap (λ u. all_shown (take i all) ++ u) (sym same) ∙ inv

pub ruleset order = (extent_found, drop_here, drop_all, append_assoc, append-nil, map-append, take-map, drop-map, ordered_last, ordered_all, extent_before, extent_same, extent_behind)
