-- How long a list is after something was put behind it.
use Rattle.std.proofs.Common.{◌≡◌, ◌+◌, List, ◌++◌, map, length, sym, ap, ◌∙◌, length-append}
use Rattle.std.proofs.lemmas.List.{length-map}

pub grown : {X Y : Type 0} (f : X → Y) (xs ys : List X) (zs : List Y) → map f ys ≡ map f xs ++ zs → length ys ≡ length xs + length zs
grown f xs ys zs e = sym (length-map ys f) ∙ ap length e ∙ length-append (map f xs) zs ∙ ap (λ n. n + length zs) (length-map xs f)
