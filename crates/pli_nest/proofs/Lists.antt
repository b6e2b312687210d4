-- Lists of items, from their last one on; lists without one.
use Rattle.std.proofs.Common.{◌≡◌, List, [], ◌∷◌, ◌++◌, length, refl, ap, arith}
use Rattle.pli_language.specs.Tree.{Item, Items, NoItem, ItemThen}
use Rattle.pli_language.specs.Nesting.{items_of_list}
use Rattle.pli_nest.specs.Steps.{items_onto}

pub onto_none : (rest : Items) → items_onto [] rest ≡ rest
unfolding items_onto
onto_none rest = refl

pub onto_snoc : (is : List Item) (i : Item) (rest : Items) → items_onto (is ++ i ∷ []) rest ≡ items_onto is (ItemThen i rest)
unfolding items_onto
onto_snoc [] i rest = refl
onto_snoc (j ∷ is) i rest = ap (ItemThen j) (onto_snoc is i rest)

pub onto_list : (is : List Item) → items_onto is NoItem ≡ items_of_list is
unfolding items_onto
onto_list [] = refl
onto_list (i ∷ is) = ap (ItemThen i) (onto_list is)

pub nothing : {X : Type 0} (xs : List X) → length xs ≡ 0 → xs ≡ []
nothing [] e = refl
nothing (x ∷ xs) e = absurd (omega (arith, e))
