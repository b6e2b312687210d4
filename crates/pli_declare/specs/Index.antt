-- The places of a block's names, as its map has them.
use Rattle.std.specs.Prelude.{◌≡◌, ℕ, List, [], nat_eq, Vec}
use Rattle.std.specs.Borrow.{Bor}
use Rattle.std.specs.Option.{option_map_or}
use Rattle.std.specs.Cmp.Lexicographic.{pointwise}
use Rattle.std.specs.declared.alloc.Global.{Global}
use Rattle.indexmap.specs.IndexMap.{IndexMap, get_by}
use Rattle.pli_language.specs.Declarations.{Declaration}
use Rattle.pli_language.specs.Means.{places}

-- a name's places
abbrev pub places_at : {S : Type 0} → IndexMap (Bor (List ℕ)) (Vec ℕ Global) S → List ℕ → List ℕ
places_at m q = option_map_or (λ v. v.items) (get_by (λ k. pointwise nat_eq q k.now) m) []

-- the map has the places of each name among these declarations
abbrev pub IsIndex : {S : Type 0} → IndexMap (Bor (List ℕ)) (Vec ℕ Global) S → List Declaration → Type 0
IsIndex m ds = (q : List ℕ) → places_at m q ≡ places (λ d. pointwise nat_eq q d.name.letters) 0 ds
