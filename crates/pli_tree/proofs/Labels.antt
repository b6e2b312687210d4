-- The labels of a list's statements, item by item, and those of several lists.
use Rattle.std.proofs.Common.{◌≡◌, ◌<◌, ◌∙◌, Bool, true, false, List, [], ◌∷◌, ◌++◌, map, length, refl, sym, ap, append_assoc, append-nil, arith}
use Rattle.std.proofs.lemmas.Grind.{flat_map-append}
use Rattle.std.specs.Prelude.{◌||◌}
use Rattle.std.specs.List.{flat_map, list_any}
use Rattle.pli_language.specs.declared.expr.Name.{Name}
use Rattle.pli_language.specs.declared.stmt.Items as J
use Rattle.pli_typing.specs.SingleStatements.{labels_in}
use Rattle.pli_language.specs.Tree as T
use Rattle.pli_language.specs.View.{item_of, items_of, name_of}
use Rattle.pli_tree.specs.Shown.{labels_of_item}

pub any_append : {X : Type 0} (test : X → Bool) (xs ys : List X) → list_any test (xs ++ ys) ≡ (list_any test xs || list_any test ys)
any_append test [] ys = refl
any_append test (x ∷ xs) ys = elim (test x) as (λ t. (t || list_any test (xs ++ ys)) ≡ ((t || list_any test xs) || list_any test ys)) [ true ↦ refl | false ↦ any_append test xs ys ]

labels_then : (i : T.Item) (is : T.Items) → labels_in (T.ItemThen i is) ≡ labels_of_item i ++ labels_in is
labels_then (T.Procedure head body) is = refl
labels_then (T.Declare items place) is = refl
labels_then (T.Statement labels s) is = refl
labels_then (T.EndLabels labels place) is = refl

pub labels_End : labels_in (items_of J.End) ≡ []
unfolding items_of
labels_End = refl

pub labels_More : (a : _) (i : _) (b : _) (is : _) → labels_in (items_of (J.More' a i b is)) ≡ labels_of_item (item_of i) ++ labels_in (items_of is)
unfolding items_of
labels_More a i b is = labels_then (item_of i) (items_of is)

pub no_names : (names : List Name) (labels : List T.Name) → length names ≡ 0 → map name_of names ≡ labels → labels ≡ []
no_names [] labels h e = sym e
no_names (n ∷ ns) labels h e = absurd (omega (arith, h))

pub ruleset labels = (any_append, labels_End, labels_More)

-- one of these has one for which the test holds
pub any_flat : {X Z : Type 0} (test : Z → Bool) (f : X → List Z) (xs : List X) → list_any (λ x. list_any test (f x)) xs ≡ list_any test (flat_map f xs)
any_flat test f [] = refl
any_flat test f (x ∷ xs) = ap (λ b. list_any test (f x) || b) (any_flat test f xs) ∙ sym (any_append test (f x) (flat_map f xs))

pub ruleset lists = (flat_map-append, append_assoc, append-nil)
