-- The choice among the places of a name.
use Rattle.std.specs.Prelude.{ℕ, Bool, true, false, List, [], ◌∷◌, map, slice_get}
use Rattle.std.specs.Option.{option_map_or}
use Rattle.std.specs.Borrow.{Bor}
use Rattle.pli_language.specs.declared.scope.Found.{Found}
use Rattle.pli_language.specs.declared.scope.Found.TheVariants as F
use Rattle.pli_language.specs.Declarations.{Variable, Declaration}
use Rattle.pli_language.specs.Means.{is_part, same_names, qualifiers_of}

-- the letters of names
abbrev pub letters_of : List (Bor (List ℕ)) → List (List ℕ)
letters_of names = map (λ n. n.now) names

abbrev pub names_above : List Variable → List (List ℕ)
names_above above = map (λ v. v.declared.name.letters) above

-- the declaration at a place may be meant with these qualifiers; it is meant by its full name
abbrev pub part_at : List (List ℕ) → List Declaration → ℕ → Bool
part_at qualifiers ds i = option_map_or (λ d. is_part qualifiers (qualifiers_of d.what)) (slice_get ds i) false

abbrev pub full_at : List (List ℕ) → List Declaration → ℕ → Bool
full_at qualifiers ds i = option_map_or (λ d. same_names qualifiers (qualifiers_of d.what)) (slice_get ds i) false

-- what is chosen at last, where this was found so far, and these full matches and matches are to come
abbrev pub going : ℕ → Found → List ℕ → List ℕ → Found
going block found (full ∷ more) matches = F.One (record { block = block; index = full })
going block found [] [] = found
going block F.None [] (only ∷ []) = F.One (record { block = block; index = only })
going block F.None [] (match ∷ other ∷ more) = F.Ambiguous
going block (F.One d) [] (match ∷ more) = F.Ambiguous
going block F.Ambiguous [] (match ∷ more) = F.Ambiguous

-- what was found so far, with one more place that matches or doesn't
abbrev pub further_of : Bool → ℕ → ℕ → Found → Found
further_of false block i found = found
further_of true block i F.None = F.One (record { block = block; index = i })
further_of true block i (F.One d) = F.Ambiguous
further_of true block i F.Ambiguous = F.Ambiguous
