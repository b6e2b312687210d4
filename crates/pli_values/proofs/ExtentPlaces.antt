-- Lists of places, place by place.
use Rattle.std.proofs.Common.{suc, ◌≡◌, ◌<◌, ℕ, ◌+◌, ◌-◌, ◌*◌, List, [], ◌∷◌, ◌++◌, map, sym, ap, ◌∙◌, arith, append_assoc}
use Rattle.std.proofs.lemmas.List.{map-append}
use Rattle.pli_serving.specs.Bytes.{word_at}
use Rattle.pli_serving.specs.SignatureService as V
use Rattle.pli_serving.specs.SignatureService.{places_from}
use Rattle.pli_signatures.specs.declared.filling.ExtentPlace.{ExtentPlace}
use Rattle.pli_signatures.specs.View.{place_of}

abbrev read_place : (leaf dimension : ℕ) → V.ExtentPlace
read_place leaf dimension = record { leaf = leaf; dimension = dimension }

place_read : (n m at : ℕ) (bytes : List ℕ) (p : ExtentPlace) → n ≡ suc m → p.leaf ≡ word_at at bytes → p.dimension ≡ word_at (at + 4) bytes → place_of p ∷ places_from m (at + 8) bytes ≡ places_from n at bytes
place_read n m at bytes p e f g =
    ap (λ j. read_place j p.dimension ∷ places_from m (at + 8) bytes) f
    ∙ ap (λ j. read_place (word_at at bytes) j ∷ places_from m (at + 8) bytes) g
    ∙ ap (λ j. places_from j at bytes) (sym e)

pub next_place_read : (count done at : ℕ) (bytes : List ℕ) (old new : List ExtentPlace) (p : ExtentPlace) (target : List V.ExtentPlace) → done < count → new ≡ old ++ p ∷ [] → p.leaf ≡ word_at (at + 8 * done) bytes → p.dimension ≡ word_at (at + 8 * done + 4) bytes
    → map place_of old ++ places_from (count - done) (at + 8 * done) bytes ≡ target → map place_of new ++ places_from (count - (done + 1)) (at + 8 * (done + 1)) bytes ≡ target
next_place_read count done at bytes old new p target h e f g i =
    let more : count - done ≡ suc (count - (done + 1)) = omega arith in
    let behind : at + 8 * (done + 1) ≡ at + 8 * done + 8 = omega arith in
    let rest = places_from (count - (done + 1)) (at + 8 * done + 8) bytes in
    ap (λ j. map place_of new ++ places_from (count - (done + 1)) j bytes) behind
    ∙ ap (λ xs. map place_of xs ++ rest) e
    ∙ ap (λ xs. xs ++ rest) (map-append place_of old (p ∷ []))
    ∙ append_assoc (map place_of old) (place_of p ∷ []) rest
    ∙ ap (λ xs. map place_of old ++ xs) (place_read (count - done) (count - (done + 1)) (at + 8 * done) bytes p more f g)
    ∙ i
