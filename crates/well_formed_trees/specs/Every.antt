-- What is so of each in a list.
use Rattle.std.specs.Prelude.{List, [], ◌∷◌, ⊤}

abbrev pub Every : {X : Type 0} → (X → Type 0) → List X → Type 0
Every P [] = ⊤
Every P (x ∷ xs) = P x × Every P xs
