-- Structures of which the outermost alone has dimensions.
use Rattle.std.proofs.Common.{◌≡◌, ◌+◌, ◌*◌, ℕ, List, [], ◌∷◌, ◌++◌, length, refl, sym, ap, ◌∙◌, arith, append-nil, length-append, Option, Some}
use Rattle.std.proofs.lemmas.Grind.{flat_map-append}
use Rattle.std.proofs.lemmas.List.{append_assoc}
use Rattle.std.proofs.lemmas.List.Concat.{length-flat_map}
use Rattle.std.specs.List.{flat_map}
use Rattle.pli_language.specs.Tree.{Bound}
use Rattle.pli_language.specs.Declarations.{Variable, dimensions_of}
use Rattle.pli_language.specs.Declaring.{elements_above, spans}
use Rattle.pli_declare.specs.declared.above.Levels.{Levels as LevelsHeld}
use Rattle.pli_declare.specs.declared.above.Levels as L
use Rattle.pli_declare.specs.Levels.{dimensions_in, levels_of, variable_of}
use Rattle.pli_declaring.specs.Bytes.{capped}
use Rattle.pli_declaring.proofs.Bytes.{spans_in_two}

-- the dimensions behind those of the outermost
abbrev behind : LevelsHeld → List Bound
behind L.Outermost = []
behind (L.Inside' v count dimensions a above) = behind above ++ dimensions_of (variable_of v)

one : (v : Variable) → flat_map dimensions_of (v ∷ []) ≡ dimensions_of v
one v = append-nil (dimensions_of v)

outermost_first : (first : Variable) (l : LevelsHeld) → flat_map dimensions_of (levels_of first l) ≡ dimensions_of first ++ behind l
outermost_first first L.Outermost = refl
outermost_first first (L.Inside' v count dimensions a above) =
    flat_map-append dimensions_of (levels_of first above) (variable_of v ∷ []) ∙ ap (λ bs. flat_map dimensions_of (levels_of first above) ++ bs) (one (variable_of v))
    ∙ ap (λ bs. bs ++ dimensions_of (variable_of v)) (outermost_first first above) ∙ append_assoc (dimensions_of first) (behind above) (dimensions_of (variable_of v))

none : {X : Type 0} (xs : List X) → length xs ≡ 0 → xs ≡ []
none [] h = refl
none (x ∷ xs) h = absurd (omega (arith, h))

-- as many dimensions as the outermost has are those
pub outermost_alone : (first : Variable) (l : LevelsHeld) → dimensions_in (levels_of first l) ≡ length (dimensions_of first) → flat_map dimensions_of (levels_of first l) ≡ dimensions_of first
outermost_alone first l h =
    let all : length (dimensions_of first) + length (behind l) ≡ length (dimensions_of first) =
    sym (length-append (dimensions_of first) (behind l)) ∙ ap length (sym (outermost_first first l)) ∙ length-flat_map dimensions_of (levels_of first l) ∙ h in
    let nothing : length (behind l) ≡ 0 = omega (arith, all) in
    outermost_first first l ∙ ap (λ bs. dimensions_of first ++ bs) (none (behind l) nothing) ∙ append-nil (dimensions_of first)

elements_of_all : (vs : List Variable) → elements_above vs ≡ spans (flat_map dimensions_of vs)
elements_of_all [] = refl
elements_of_all (v ∷ vs) = ap (λ n. spans (dimensions_of v) * n) (elements_of_all vs) ∙ sym (spans_in_two (dimensions_of v) (flat_map dimensions_of vs))

pub elements_alone : (first : Variable) (l : LevelsHeld) (r n : ℕ) → n ≡ dimensions_in (levels_of first l) → n ≡ length (dimensions_of first) → r ≡ capped (spans (dimensions_of first)) → r ≡ capped (elements_above (levels_of first l))
elements_alone first l r n all own h =
    h ∙ ap (λ bs. capped (spans bs)) (sym (outermost_alone first l (sym all ∙ own))) ∙ ap capped (sym (elements_of_all (levels_of first l)))
