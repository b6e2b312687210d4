-- Lists that a loop makes, one item after the other.
use Rattle.std.proofs.Common.{◌≡◌, List, [], ◌∷◌, ◌++◌, map, ap, ◌∙◌, append_assoc}
use Rattle.std.proofs.lemmas.List.{map-append}

-- one more item is put behind, and goes from what is left
pub one_more : {A B : Type 0} (f : A → B) (items : List A) (x : A) (y : B) (left whole : List B) → f x ≡ y → map f items ++ y ∷ left ≡ whole → map f (items ++ x ∷ []) ++ left ≡ whole
one_more f items x y left whole e h =
    ap (λ l. l ++ left) (map-append f items (x ∷ [])) ∙ append_assoc (map f items) (f x ∷ []) left ∙ ap (λ z. map f items ++ z ∷ left) e ∙ h
