-- The precisions that attributes write, one by one.
use Rattle.std.specs.Prelude.{ℕ, Bool, true, false, ◌||◌, ◌==◌, nat_lt, List, [], ◌∷◌, Option, None}
use Rattle.pli_language.specs.Tree.{Attribute, Fixed, Binary}
use Rattle.pli_language.specs.Declaring.{most_digits}

abbrev pub written_in : Attribute → Option ℕ
written_in (Fixed p) = p
written_in (Binary p) = p
written_in _ = None

-- there are two of these, or one is outside 1 to 31, where one was seen before or none
abbrev pub precisions_clash : Bool → List ℕ → Bool
precisions_clash seen [] = false
precisions_clash seen (p ∷ ps) = seen || (p == 0) || nat_lt most_digits p || precisions_clash true ps
