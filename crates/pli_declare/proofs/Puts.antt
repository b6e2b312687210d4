-- What is put behind a list, part by part.
use Rattle.std.proofs.Common.{◌≡◌, List, ◌++◌, ap, ◌∙◌, append_assoc}

-- one part behind another
pub put_two : {X : Type 0} (o x y a b : List X) → a ≡ o ++ x → b ≡ a ++ y → b ≡ o ++ (x ++ y)
put_two o x y a b p q = q ∙ ap (λ u. u ++ y) p ∙ append_assoc o x y

-- what was put and what is left to put
pub put_more : {X : Type 0} (a b x y z : List X) → a ++ (x ++ y) ≡ z → b ≡ a ++ x → b ++ y ≡ z
put_more a b x y z p q = ap (λ u. u ++ y) q ∙ append_assoc a x y ∙ p
