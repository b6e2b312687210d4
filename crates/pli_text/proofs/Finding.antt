-- Places of patterns and of strange bytes.
use Rattle.std.proofs.Common.{◌≡◌, ℕ, zero, suc, ◌+◌, ◌<◌, ◌≤◌, true, false, List, [], ◌∷◌, length, get_or, Some, None, refl, sym, ap, subst, ◌∙◌, zero-add, add-zero, add-one, arith}
use Rattle.std.proofs.lemmas.Bool.{false_from_ne_true}
use Rattle.std.proofs.lemmas.Bool.Decides.{nat_tests}
use Rattle.memchr.specs.Find.{OccursAt, FindsNeedle}
use Rattle.pli_meaning.specs.Texts.{begins, found_from, index_of}

-- ---- where a pattern begins

begins-head : (t s : ℕ) (ts ss : List ℕ) → begins (t ∷ ts) (s ∷ ss) ≡ true → s ≡ t
begins-head t s ts ss e = grind (arith, nat_tests)

begins-tail : (t s : ℕ) (ts ss : List ℕ) → begins (t ∷ ts) (s ∷ ss) ≡ true → begins ts ss ≡ true
begins-tail t s ts ss e = grind (arith, nat_tests)

begins-cons : (t s : ℕ) (ts ss : List ℕ) → s ≡ t → begins ts ss ≡ true → begins (t ∷ ts) (s ∷ ss) ≡ true
begins-cons t s ts ss h e = grind (arith, nat_tests)

-- t stands in front of s
abbrev IsFront : (t s : List ℕ) → Type 0
IsFront t s = (length t ≤ length s) × ((j : ℕ) → j < length t → get_or s j 0 ≡ get_or t j 0)

reads-cons : (t s : ℕ) (ts ss : List ℕ) → s ≡ t → ((j : ℕ) → j < length ts → get_or ss j 0 ≡ get_or ts j 0) → (j : ℕ) → j < length (t ∷ ts) → get_or (s ∷ ss) j 0 ≡ get_or (t ∷ ts) j 0
reads-cons t s ts ss e r zero h = e
reads-cons t s ts ss e r (suc j) h = r j (omega arith)

front-from-begins : (t s : List ℕ) → begins t s ≡ true → IsFront t s
front-from-begins [] s e = (omega arith, λ j h. absurd (omega arith))
front-from-begins (t ∷ ts) [] e = cc
front-from-begins (t ∷ ts) (s ∷ ss) e =
    let rest = front-from-begins ts ss (begins-tail t s ts ss e) in
    (omega arith, reads-cons t s ts ss (begins-head t s ts ss e) rest.1)

begins-from-front : (t s : List ℕ) → IsFront t s → begins t s ≡ true
begins-from-front [] s f = refl
begins-from-front (t ∷ ts) [] f = absurd (omega (arith, f.0))
begins-from-front (t ∷ ts) (s ∷ ss) f =
    begins-cons t s ts ss (f.1 0 (omega arith)) (begins-from-front ts ss (omega (arith, f.0), λ j h. f.1 (suc j) (omega arith)))

-- ---- occurrences, by the rest of the text

occurs-first : (s t : List ℕ) → IsFront t s → OccursAt s t 0
occurs-first s t f = record { fits = omega (arith, f.0); reads = λ j h. ap (λ k. get_or s k 0) (zero-add j) ∙ f.1 j h }

front-from-occurs : (s t : List ℕ) → OccursAt s t 0 → IsFront t s
front-from-occurs s t o = (omega (arith, o.fits), λ j h. ap (λ k. get_or s k 0) (sym (zero-add j)) ∙ o.reads j h)

occurs-later : (x : ℕ) (ss t : List ℕ) (k : ℕ) → OccursAt ss t k → OccursAt (x ∷ ss) t (k + 1)
occurs-later x ss t k o = record {
  fits = omega (arith, o.fits);
  reads = λ j h. (let e : (k + 1) + j ≡ suc (k + j) = omega arith in ap (λ n. get_or (x ∷ ss) n 0) e) ∙ o.reads j h;
}

occurs-earlier : (x : ℕ) (ss t : List ℕ) (k : ℕ) → OccursAt (x ∷ ss) t (k + 1) → OccursAt ss t k
occurs-earlier x ss t k o = record {
  fits = omega (arith, o.fits);
  reads = λ j h. (let e : suc (k + j) ≡ (k + 1) + j = omega arith in ap (λ n. get_or (x ∷ ss) n 0) e) ∙ o.reads j h;
}

strange-first : (s t : List ℕ) → (OccursAt s t 0 → ⊥) → begins t s ≡ false
strange-first s t never = false_from_ne_true (begins t s) (λ e. never (occurs-first s t (front-from-begins t s e)))

found-here : (place x : ℕ) (ss t : List ℕ) → begins t (x ∷ ss) ≡ true → found_from place (x ∷ ss) t ≡ place
found-here place x ss t e = rw e refl

found-later : (place x : ℕ) (ss t : List ℕ) → begins t (x ∷ ss) ≡ false → found_from place (x ∷ ss) t ≡ found_from (place + 1) ss t
found-later place x ss t e = rw e refl

found-none : (place : ℕ) (s t : List ℕ) → ((k : ℕ) → OccursAt s t k → ⊥) → found_from place s t ≡ 0
found-none place [] t never = refl
found-none place (x ∷ ss) t never =
    found-later place x ss t (strange-first (x ∷ ss) t (never 0))
    ∙ found-none (place + 1) ss t (λ k o. never (k + 1) (occurs-later x ss t k o))

found-some : (place : ℕ) (s t : List ℕ) (k : ℕ) → 0 < length t → OccursAt s t k → ((j : ℕ) → j < k → OccursAt s t j → ⊥) → found_from place s t ≡ place + k
found-some place [] t k h o never = absurd (omega (arith, o.fits))
found-some place (x ∷ ss) t zero h o never = found-here place x ss t (begins-from-front t (x ∷ ss) (front-from-occurs (x ∷ ss) t o)) ∙ sym (add-zero place)
found-some place (x ∷ ss) t (suc k) h o never =
    let P : ℕ → Type 0 = λ n. OccursAt (x ∷ ss) t n in
    let here : OccursAt ss t k = occurs-earlier x ss t k (subst P (sym (add-one k)) o) in
    found-later place x ss t (strange-first (x ∷ ss) t (never 0 (omega arith)))
    ∙ (found-some (place + 1) ss t k h here (λ j l p. never (j + 1) (omega arith) (occurs-later x ss t j p)) ∙ omega arith)

index-nonempty : (s t : List ℕ) → 0 < length t → index_of s t ≡ found_from 1 s t
index-nonempty s [] h = absurd (omega arith)
index-nonempty s (t ∷ ts) h = refl

-- as a search tells it
pub index-none : (s t : List ℕ) → 0 < length t → FindsNeedle s t 0 None → 0 ≡ index_of s t
index-none s t h f = sym (index-nonempty s t h ∙ found-none 1 s t (λ k o. f k (omega arith) (omega (arith, o.fits)) o))

pub index-some : (s t : List ℕ) (k : ℕ) → 0 < length t → FindsNeedle s t 0 (Some k) → k + 1 ≡ index_of s t
index-some s t k h f =
    sym (index-nonempty s t h ∙ (found-some 1 s t k h f.1 (λ j l o. f.0.before j (omega arith) l o) ∙ omega arith))
