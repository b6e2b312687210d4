-- A name compared with a word, byte by byte.
use Rattle.std.proofs.Common.{◌≡◌, ℕ, suc, ◌+◌, ◌<◌, List, [], ◌∷◌, length, get_or, drop, false, ◌&&◌, refl, sym, ◌∙◌, ap, eqb, arith}
use Rattle.std.proofs.lemmas.List.{length-map, drop_more}
use Rattle.std.proofs.lemmas.Bool.{and_right}
use Rattle.pli_language.specs.Keywords.{in_upper_case, same_bytes, upper}

-- lists of different lengths differ
same_bytes-other_length : (a b : List ℕ) → (length a ≡ length b → ⊥) → false ≡ same_bytes a b
same_bytes-other_length [] [] other = absurd (other refl)
same_bytes-other_length [] (y ∷ ys) other = refl
same_bytes-other_length (x ∷ xs) [] other = refl
same_bytes-other_length (x ∷ xs) (y ∷ ys) other = sym (and_right (eqb x y) _ (sym (same_bytes-other_length xs ys (λ e. other (ap suc e)))))

pub spells-other_length : (name word : List ℕ) → (length name ≡ length word → ⊥) → false ≡ same_bytes (in_upper_case name) word
spells-other_length name word other = same_bytes-other_length _ word (λ e. other (sym (length-map name upper) ∙ e))

-- one byte on
pub spells_more : (name word : List ℕ) (i : ℕ) → i < length name → length name ≡ length word → same_bytes (in_upper_case (drop i name)) (drop i word) ≡ (eqb (upper (get_or name i 0)) (get_or word i 0) && same_bytes (in_upper_case (drop (i + 1) name)) (drop (i + 1) word))
spells_more name word i inside same =
    let here = drop_more name i 0 inside in
    let there = drop_more word i 0 (omega arith) in
    λ k. same_bytes (in_upper_case (here k)) (there k)
