-- Leaves of parts, and the steps of the loops that match leaves.
use Rattle.std.proofs.Common.{◌≡◌, ◌≤◌, ◌∙◌, ℕ, zero, suc, List, [], ◌∷◌, map, drop, length, refl, sym, ap}
use Rattle.std.proofs.Math.ListN.{drop_of_length-le}
use Rattle.std.proofs.lemmas.List.{length-map}

pub drop_map : {X Y : Type 0} (f : X → Y) (n : ℕ) (xs : List X) → drop n (map f xs) ≡ map f (drop n xs)
drop_map f zero xs = refl
drop_map f (suc n) [] = refl
drop_map f (suc n) (x ∷ xs) = drop_map f n xs

pub drop_past : {X Y : Type 0} (f : X → Y) (n : ℕ) (xs : List X) → length xs ≤ n → drop n (map f xs) ≡ []
drop_past f n xs h = drop_map f n xs ∙ ap (map f) (drop_of_length-le xs h)

pub counted : {X Y : Type 0} (f : X → Y) (xs : List X) → length xs ≡ length (map f xs)
counted f xs = sym (length-map xs f)
