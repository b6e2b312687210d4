-- Vectors with their newest first.
use Rattle.std.proofs.Common.{◌≡◌, List, [], ◌∷◌, ◌++◌, map, refl, ap, ◌∙◌}
use Rattle.std.specs.Prelude.{reverse}
use Rattle.std.proofs.lemmas.List.{map-append, reverse-append}
use Rattle.pli_phrase.specs.View.{newest}

pub newest_none : {X Y : Type 0} (f : X → Y) → newest f [] ≡ []
unfolding newest
newest_none f = refl

pub newest_snoc : {X Y : Type 0} (f : X → Y) (xs : List X) (x : X) → newest f (xs ++ x ∷ []) ≡ f x ∷ newest f xs
unfolding newest
newest_snoc f xs x = ap reverse (map-append f xs (x ∷ [])) ∙ reverse-append (map f xs) (f x ∷ [])
