-- How readers of lists, and of what may stand in parentheses, do with beginnings.
use Rattle.std.proofs.Common.{◌≡◌, ℕ, zero, suc, ◌<◌, ◌≤◌, List, [], ◌∷◌, length, Bool, true, Ok, refl, ap, arith}
use Rattle.std.specs.Prelude.{if◌then◌else◌}
use Rattle.pli_language.specs.declared.token.Symbol.TheVariants as S
use Rattle.pli_language.specs.declared.token.Kind.TheVariants as K
use Rattle.pli_language.specs.declared.token.Token.{Token}
use Rattle.pli_language.specs.Marks.{Marks}
use Rattle.pli_phrase.specs.Cursor.{Cursor, Read, ◌>>=◌}
use Rattle.pli_phrase.specs.Tokens.{starts, taken}
use Rattle.pli_phrase.proofs.Prefixes.{longer, Any, Next, StartsNot, made}
use Rattle.pli_phrase.proofs.PrefixesAt.{At, at, at_as, at_weaken, at_some, at_ok, at_test, at_end_test, at_taken, at_taken_first, at_bind, at_map, loop_at, bind_same}
use Rattle.pli_attributes.specs.Lists.{One, enclosed_from, optional_from, further_from, list_at, list_from}
use Rattle.pli_attributes.proofs.Posts.{post_is}
use Rattle.pli_attributes.proofs.Tokens.{taken_post}

-- ---- in parentheses

module _ {X : Type 0} {T : Token → Bool} {P F : List Token → Type 0} (inner : Cursor → Read X) (a : (c : Cursor) → At T P F inner c) (ends : (w : List Token) → Next (K.Symbol S.CloseParenthesis) w → F w) (open_passes : T (made (K.Symbol S.OpenParenthesis)) ≡ true) (close_passes : T (made (K.Symbol S.CloseParenthesis)) ≡ true) where
  closed_at : (c : Cursor) → At T P Any (λ d. inner d >>= λ x. taken (K.Symbol S.CloseParenthesis) x.1 >>= λ z. Ok (x.0, z.1)) c
  closed_at c =
      at_bind inner (λ x. taken (K.Symbol S.CloseParenthesis) x.1 >>= λ z. Ok (x.0, z.1)) c (a c) (λ x e. closes x.0 x.1) (λ x m. closes x (at [] m)) ends
    where
      closes : (x : X) (d : Cursor) → At T (Next (K.Symbol S.CloseParenthesis)) Any (λ e. taken (K.Symbol S.CloseParenthesis) e >>= λ z. Ok (x, z.1)) d
      closes x d = at_map (taken (K.Symbol S.CloseParenthesis)) (λ z. x) d (at_taken (K.Symbol S.CloseParenthesis) refl close_passes d)

  pub at_enclosed : (c : Cursor) → At T (Next (K.Symbol S.OpenParenthesis)) Any (enclosed_from inner) c
  at_enclosed c =
      at_bind (taken (K.Symbol S.OpenParenthesis)) (λ o. inner o.1 >>= λ x. taken (K.Symbol S.CloseParenthesis) x.1 >>= λ z. Ok (x.0, z.1)) c (at_taken (K.Symbol S.OpenParenthesis) refl open_passes c) (λ o e. closed_at o.1) (λ o m. closed_at (at [] m)) (λ w h. tt)

  pub at_optional : {G : List Token → Type 0} (absent : X) → ((w : List Token) → G w → StartsNot (K.Symbol S.OpenParenthesis) w) → (c : Cursor) → At T G G (optional_from absent inner) c
  at_optional {G} absent no_open c = by_tokens c.tokens c.marks
    where
      by_tokens : (ts : List Token) (m : Marks) → At T G G (optional_from absent inner) (at ts m)
      by_tokens [] m =
          at_end_test (starts (K.Symbol S.OpenParenthesis)) (enclosed_from inner) (λ d. Ok (absent, d)) m refl no_open (at_ok absent (at [] m))
      by_tokens (t ∷ ts) m =
          at_test (λ d. starts (K.Symbol S.OpenParenthesis) d.tokens) (enclosed_from inner) (λ d. Ok (absent, d)) (at (t ∷ ts) m) (λ more. refl) (λ e. at_some (enclosed_from inner) t ts m (at_weaken (enclosed_from inner) (at (t ∷ ts) m) (λ w h. tt) (λ w h. h) (at_enclosed (at (t ∷ ts) m)))) (λ e. at_ok absent (at (t ∷ ts) m))

-- ---- lists

module _ {X : Type 0} (one : One X) (short : (i : ℕ) (c : Cursor) (x : X × Cursor) → one i c ≡ Ok x → length x.1.tokens ≤ length c.tokens) where
  -- an element, and what stands behind it
  abbrev with_others : (ℕ → Cursor → Read (List X)) → ℕ → X × Cursor → Read (List X)
  with_others rest i x = further_from (rest (suc i)) x.1 >>= λ xs. Ok (x.0 ∷ xs.0, xs.1)

  others_same : (rest rest' : ℕ → Cursor → Read (List X)) (i : ℕ) (x : X × Cursor) → ((c : Cursor) → length c.tokens < length x.1.tokens → rest (suc i) c ≡ rest' (suc i) c) → with_others rest i x ≡ with_others rest' i x
  others_same rest rest' i x same =
      ap (λ r. (if starts (K.Symbol S.Comma) x.1.tokens then r else Ok ([], x.1)) >>= λ xs. Ok (x.0 ∷ xs.0, xs.1)) (bind_same (taken (K.Symbol S.Comma) x.1) (λ z. rest (suc i) z.1) (λ z. rest' (suc i) z.1) (λ z k. same z.1 (post_is (taken_post (K.Symbol S.Comma) x.1) k).shorter))

  -- the fuel says nothing, if it is enough
  list_same : (n n' i : ℕ) (c : Cursor) → length c.tokens < n → length c.tokens < n' → list_at one n i c ≡ list_at one n' i c
  unfolding list_at
  list_same zero n' i c l l' = absurd (omega (arith, l))
  list_same (suc n) zero i c l l' = absurd (omega (arith, l'))
  list_same (suc n) (suc n') i c l l' =
      bind_same (one i c) (with_others (list_at one n) i) (with_others (list_at one n') i) (λ x e. others_same (list_at one n) (list_at one n') i x (λ d k. list_same n n' (suc i) d (omega (arith, l, short i c x e, k)) (omega (arith, l', short i c x e, k))))

  abbrev whole : ℕ → Cursor → Read (List X)
  whole i c = list_at one (suc (length c.tokens)) i c

  unrolled : (i : ℕ) (c : Cursor) → whole i c ≡ (one i c >>= λ x. with_others whole i x)
  unfolding list_at
  unrolled i c =
      bind_same (one i c) (with_others (list_at one (length c.tokens)) i) (with_others whole i) (λ x e. others_same (list_at one (length c.tokens)) whole i x (λ d k. list_same (length c.tokens) (suc (length d.tokens)) (suc i) d (omega (arith, short i c x e, k)) (omega arith)))

  module _ {T : Token → Bool} {P Ff F : List Token → Type 0} (a : (i : ℕ) (c : Cursor) → At T P Ff (one i) c) (narrow : (w : List Token) → F w → Ff w × StartsNot (K.Symbol S.Comma) w) where
    further_none : (i : ℕ) (m : Marks) → At T F F (further_from (whole i)) (at [] m)
    further_none i m =
        at_end_test (starts (K.Symbol S.Comma)) (λ d. taken (K.Symbol S.Comma) d >>= λ z. whole i z.1) (λ d. Ok ([], d)) m refl (λ w h. (narrow w h).1) (at_ok [] (at [] m))

    others_none : (i : ℕ) (x : X) (m : Marks) → At T F F (λ d. with_others whole i (x, d)) (at [] m)
    others_none i x m = at_map (further_from (whole (suc i))) (λ xs. x ∷ xs) (at [] m) (further_none (suc i) m)

    whole_none : (i : ℕ) (m : Marks) → At T P F (whole i) (at [] m)
    whole_none i m =
        at_as (λ c. one i c >>= λ x. with_others whole i x) (whole i) (at [] m) (unrolled i (at [] m)) (λ more. unrolled i (at more m)) (at_bind (one i) (with_others whole i) (at [] m) (a i (at [] m)) (λ x e. behind x e x.1.tokens refl) (λ x m'. others_none i x m') (λ w h. (narrow w h).0))
      where
        behind : (x : X × Cursor) → one i (at [] m) ≡ Ok x → (ts : List Token) → x.1.tokens ≡ ts → At T F F (λ d. with_others whole i (x.0, d)) (at ts x.1.marks)
        behind x e [] n = others_none i x.0 x.1.marks
        behind x e (t ∷ ts) n = absurd (omega (arith, short i (at [] m) x e, ap length n))

    further_at : (i : ℕ) (d : Cursor) → ((c : Cursor) → length c.tokens < length d.tokens → At T P F (whole i) c) → At T F F (further_from (whole i)) d
    further_at i d inner = by_tokens d.tokens d.marks inner
      where
        by_tokens : (ts : List Token) (m : Marks) → ((c : Cursor) → length c.tokens < length ts → At T P F (whole i) c) → At T F F (further_from (whole i)) (at ts m)
        by_tokens [] m inner = further_none i m
        by_tokens (t ∷ ts) m inner =
            at_test (λ c. starts (K.Symbol S.Comma) c.tokens) (λ c. taken (K.Symbol S.Comma) c >>= λ z. whole i z.1) (λ c. Ok ([], c)) (at (t ∷ ts) m) (λ more. refl) (λ e. at_bind (taken (K.Symbol S.Comma)) (λ z. whole i z.1) (at (t ∷ ts) m) (at_taken_first {F = Any} (K.Symbol S.Comma) t ts m e) (λ z k. inner z.1 (post_is (taken_post (K.Symbol S.Comma) (at (t ∷ ts) m)) k).shorter) (λ z m'. whole_none i m') (λ w h. tt)) (λ e. at_ok [] (at (t ∷ ts) m))

    whole_step : (i : ℕ) (t : Token) (ts : List Token) (m : Marks) → ((j : ℕ) (c : Cursor) → length c.tokens ≤ length ts → At T P F (whole j) c) → At T P F (whole i) (at (t ∷ ts) m)
    whole_step i t ts m on =
        at_as (λ c. one i c >>= λ x. with_others whole i x) (whole i) (at (t ∷ ts) m) (unrolled i (at (t ∷ ts) m)) (λ more. unrolled i (longer (at (t ∷ ts) m) more)) (at_bind (one i) (with_others whole i) (at (t ∷ ts) m) (a i (at (t ∷ ts) m)) (λ x e. at_map (further_from (whole (suc i))) (λ xs. x.0 ∷ xs) x.1 (further_at (suc i) x.1 (λ c l. on (suc i) c (omega (arith, l, short i (at (t ∷ ts) m) x e))))) (λ x m'. others_none i x m') (λ w h. (narrow w h).0))

    pub at_list : (c : Cursor) → At T P F (list_from one) c
    unfolding list_from
    at_list c = loop_at whole whole_none whole_step 0 c
