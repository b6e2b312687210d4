-- Kinds among the leaves of a part.
use Rattle.std.proofs.Common.{◌≡◌, ◌<◌, ◌+◌, ℕ, Bool, true, false, ◌||◌, List, ◌∷◌, map, length, get_or, take, drop}
use Rattle.std.proofs.Common.{refl, sym, ap, ◌∙◌}
use Rattle.std.specs.List.{list_any, take-map, drop-map}
use Rattle.rv_meaning.specs.declared.image.TableKind.{TableKind}
use Rattle.pli_typing.specs.declared.typed.Leaf.{Leaf}
use Rattle.pli_typing.specs.TypedTree as Y
use Rattle.pli_typing.specs.TypedView.{leaf_of, leaf_type_of}
use Rattle.pli_coding.specs.Environments.{Environment, declaration_of}
use Rattle.pli_coding.specs.Streams.{is_type, leaves_in}
use Rattle.std.proofs.lemmas.List.{drop_more}
use Rattle.rv_item.specs.Elements.{part_in, variable_in}

-- the element at a place and those behind it
pub shown_from : {X Y : Type 0} (f : X → Y) (xs : List X) (i : ℕ) (x : X) → i < length xs → x ≡ get_or xs i x → map f (drop i xs) ≡ f x ∷ map f (drop (i + 1) xs)
shown_from f xs i x h e = ap (map f) (drop_more xs i x h ∙ ap (λ y. y ∷ drop (i + 1) xs) (sym e))

pub kind_here : (kind : TableKind) (xs : List Leaf) (i : ℕ) (x : Leaf) (target : Bool) → i < length xs → x ≡ get_or xs i x → is_type kind (leaf_type_of x.kind) ≡ true
    → list_any (λ l. is_type kind l.type) (map leaf_of (drop i xs)) ≡ target → true ≡ target
kind_here kind xs i x target h e t is =
    ap (λ b. b || list_any (λ l. is_type kind l.type) (map leaf_of (drop (i + 1) xs))) (sym t)
    ∙ ap (list_any (λ l. is_type kind l.type)) (sym (shown_from leaf_of xs i x h e))
    ∙ is

pub kind_behind : (kind : TableKind) (xs : List Leaf) (i : ℕ) (x : Leaf) (target : Bool) → i < length xs → x ≡ get_or xs i x → is_type kind (leaf_type_of x.kind) ≡ false
    → list_any (λ l. is_type kind l.type) (map leaf_of (drop i xs)) ≡ target → list_any (λ l. is_type kind l.type) (map leaf_of (drop (i + 1) xs)) ≡ target
kind_behind kind xs i x target h e t is =
    ap (λ b. b || list_any (λ l. is_type kind l.type) (map leaf_of (drop (i + 1) xs))) (sym t)
    ∙ ap (list_any (λ l. is_type kind l.type)) (sym (shown_from leaf_of xs i x h e))
    ∙ is

pub leaves_of_part : (xs : List Leaf) (first count : ℕ) → map leaf_of (take count (drop first xs)) ≡ take count (drop first (map leaf_of xs))
leaves_of_part xs first count = sym (ap (take count) (drop-map leaf_of first xs) ∙ take-map leaf_of count (drop first xs))

pub leaves_are : (e : Environment) (r : Y.Reference) → leaves_in e r ≡ take (part_in r).count (drop (part_in r).first (declaration_of e (variable_in r)).leaves)
leaves_are e (Y.Referring v locator part subscripts) = refl
