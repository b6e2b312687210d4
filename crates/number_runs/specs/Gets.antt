-- GET SKIP, and GET EDIT of numbers by lists with F items, as classes that are computed from typed trees.
use Rattle.std.specs.Prelude.{ℕ, ◌&&◌, Bool, true, false, List, [], ◌∷◌, not, Option}
use Rattle.pli_typing.specs.TypedTree as Y
use Rattle.pli_coding.specs.Streams.{has_text}
use Rattle.number_runs.specs.Numbers.{Scope, is_variable}
use Rattle.number_runs.specs.Puts.{is_list, is_skip}

-- what is read goes to a variable of 31 bits
abbrev pub is_get_item : Scope → Y.GetItem → Bool
is_get_item s (Y.GetScalar r) = is_variable s r
is_get_item s (Y.GetAggregate r) = false

abbrev pub are_get_items : Scope → List Y.GetItem → Bool
are_get_items s [] = true
are_get_items s (i ∷ is) = is_get_item s i && are_get_items s is

-- each by a list of its own, without A items
abbrev pub are_get_pairs : Scope → List Y.GetPair → Bool
are_get_pairs s [] = true
are_get_pairs s (p ∷ ps) =
    (are_get_items s p.items && (is_list p.formats && not (has_text p.formats))) && are_get_pairs s ps

-- where the scope lets its statements write and read
abbrev pub is_get : Scope → (skip : Option ℕ) → List Y.GetPair → Bool
is_get s skip pairs = is_skip skip && ((s.puts && s.reads) && are_get_pairs s pairs)
