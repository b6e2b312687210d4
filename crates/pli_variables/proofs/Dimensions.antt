-- How many dimensions an element of a variable has.
use Rattle.std.proofs.Common.{◌≡◌, ◌≢◌, ◌+◌, ℕ, List, [], ◌∷◌, ◌++◌, length, refl, sym, ap, ◌∙◌, arith, append-nil}
use Rattle.std.specs.Prelude.{min}
use Rattle.std.specs.List.{flat_map, sum_by}
use Rattle.std.proofs.lemmas.List.{length-append}
use Rattle.std.proofs.lemmas.Grind.{flat_map-append}
use Rattle.std.proofs.lemmas.List.Sums.{sum_by-cons}
use Rattle.pli_language.specs.Declarations.{Held, Variable, dimensions_of}
use Rattle.pli_language.specs.Declaring.{own_dimensions, inherited_dimensions}
use Rattle.pli_declare.specs.declared.above.Levels.{Levels as LevelsHeld}
use Rattle.pli_declare.specs.Levels.{dimensions_in, levels_of}
use Rattle.pli_declaring.proofs.Alone.{outermost_alone}
use Rattle.pli_typing.specs.Variables.{all_dimensions}

length_of_all : {X Y : Type 0} (f : X → List Y) (xs : List X) → length (flat_map f xs) ≡ sum_by (λ x. length (f x)) xs
length_of_all f [] = refl
length_of_all f (x ∷ xs) =
    length-append (f x) (flat_map f xs) ∙ ap (λ n. length (f x) + n) (length_of_all f xs) ∙ sym (sum_by-cons (λ x. length (f x)) x xs)

-- a number that isn't the greatest is that of all dimensions
pub counted : (h : Held) (n : ℕ) → n ≡ min (own_dimensions h + inherited_dimensions h) 18446744073709551615 → n ≢ 18446744073709551615 → n ≡ length (all_dimensions h)
counted h n is other =
    let all = length-append (flat_map dimensions_of h.above) (dimensions_of h.variable) in
    let above = length_of_all dimensions_of h.above in
    grind (arith, is, other, all, above)

none_of_none : {X : Type 0} (xs : List X) → length xs ≡ 0 → xs ≡ []
none_of_none [] h = refl
none_of_none (x ∷ xs) h = absurd (omega (arith, h))

-- structures that have no dimensions together have none each
pub none_inherited : (vs : List Variable) → dimensions_in vs ≡ 0 → flat_map dimensions_of vs ≡ []
none_inherited vs h = none_of_none (flat_map dimensions_of vs) (length_of_all dimensions_of vs ∙ h)

-- a structure without dimensions adds none
pub none_more : (vs : List Variable) (v : Variable) (n : ℕ) → n ≡ length (dimensions_of v) → n ≡ 0 → flat_map dimensions_of (vs ++ v ∷ []) ≡ flat_map dimensions_of vs
none_more vs v n own few =
    flat_map-append dimensions_of vs (v ∷ []) ∙ ap (λ bs. flat_map dimensions_of vs ++ bs) (append-nil (dimensions_of v) ∙ none_of_none (dimensions_of v) (sym own ∙ few))
    ∙ append-nil (flat_map dimensions_of vs)

-- the dimensions of structures of which the outermost alone has any
pub alone : (first : Variable) (l : LevelsHeld) (n : ℕ) → n ≡ dimensions_in (levels_of first l) → n ≡ length (dimensions_of first) → flat_map dimensions_of (levels_of first l) ≡ dimensions_of first
alone first l n all own = outermost_alone first l (sym all ∙ own)

pub ruleset inherited = (none_inherited, append-nil, alone)
