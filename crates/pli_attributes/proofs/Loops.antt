-- Laws of the loops that read lists.
use Rattle.std.proofs.Common.{◌≡◌, ℕ, zero, suc, ◌-◌, ◌<◌, ◌≤◌, List, [], ◌∷◌, ◌++◌, length, true, false, refl, sym, ap, ◌∙◌, arith, append_assoc, append-nil, length-append, Result, Ok, Err}
use Rattle.std.specs.Prelude.{if◌then◌else◌}
use Rattle.pli_language.specs.declared.token.Symbol.TheVariants as S
use Rattle.pli_language.specs.declared.token.Kind.TheVariants as K
use Rattle.pli_language.specs.declared.token.Token.{Token}
use Rattle.pli_language.specs.Spells.{next_kind}
use Rattle.pli_language.specs.Tree as T
use Rattle.pli_phrase.specs.Cursor.{Cursor, Missed, Read, ◌>>=◌}
use Rattle.pli_phrase.specs.Tokens.{begins, taken, starts_name}
use Rattle.pli_phrase.specs.Answers.{Fails}
use Rattle.pli_phrase.specs.declared.stop.Stop.{Stop}
use Rattle.pli_phrase.specs.declared.stop.Stop.TheVariants as X
use Rattle.pli_attributes.specs.Lists.{One, further_from, list_at, list_from}
use Rattle.pli_attributes.specs.Reading.{attribute_from, attributes_at}
use Rattle.pli_attributes.proofs.Posts.{post_is}
use Rattle.pli_attributes.proofs.Tokens.{taken_post}

-- how a failure of a part becomes one of the whole
pub fails_on : {A B : Type 0} (e : Stop) (r : Result A Missed) (r' : Result B Missed) → Fails e r → ((m : Missed) → r ≡ Err m → r' ≡ Err m) → Fails e r'
fails_on X.Memory r r' h on = tt
fails_on X.Stuck r r' h on = on _ h
fails_on X.Ended r r' h on = on _ h
fails_on (X.LeftOut c) r r' h on = on _ h

-- elements before those that are read
abbrev pub with_front : {X : Type 0} → List X → Read (List X) → Read (List X)
with_front front r = r >>= λ xs. Ok (front ++ xs.0, xs.1)

pub with_one_more : {X : Type 0} (front : List X) (x : X) (r : Read (List X)) → with_front front (r >>= λ xs. Ok (x ∷ xs.0, xs.1)) ≡ with_front (front ++ x ∷ []) r
with_one_more front x (Ok xs) =
    let e : (front ++ x ∷ []) ++ xs.0 ≡ front ++ x ∷ xs.0 = rw append_assoc refl in
    ap (λ u. Ok (u, xs.1)) (sym e)
with_one_more front x (Err e) = refl

-- what is read from here on, behind the elements before, is what is wanted, with fuel enough for the tokens that are left
pub record OnList {X : Type 0} (one : One X) (front : List X) (c : Cursor) (target : Read (List X)) : Type 0 where
  pub fuel : ℕ
  pub enough : length c.tokens ≤ fuel
  pub reads : with_front front (further_from (list_at one fuel (length front)) c) ≡ target

module _ {X : Type 0} (one : One X) (target : Read (List X)) where
  pub list_start : (c : Cursor) (x : X × Cursor) → one 0 c ≡ Ok x → length x.1.tokens ≤ length c.tokens → list_from one c ≡ target → OnList one (x.0 ∷ []) x.1 target
  unfolding list_from list_at
  list_start c x e l h =
      let r : list_from one c ≡ (further_from (list_at one (length c.tokens) 1) x.1 >>= λ xs. Ok (x.0 ∷ xs.0, xs.1)) = rw e refl in
      record { fuel = length c.tokens; enough = l; reads = sym r ∙ h }

  pub list_no_first : (c : Cursor) (m : Missed) → one 0 c ≡ Err m → list_from one c ≡ target → target ≡ Err m
  unfolding list_from list_at
  list_no_first c m e h =
      let r : list_from one c ≡ Err m = rw e refl in
      sym h ∙ r

  further_step : (n i : ℕ) (c : Cursor) → 0 < n → list_at one n i c ≡ (one i c >>= λ x. further_from (list_at one (n - 1) (suc i)) x.1 >>= λ xs. Ok (x.0 ∷ xs.0, xs.1))
  unfolding list_at
  further_step zero i c h = absurd (omega arith)
  further_step (suc n) i c h =
      let e : n ≡ suc n - 1 = omega arith in
      ap (λ k. one i c >>= λ x. further_from (list_at one k (suc i)) x.1 >>= λ xs. Ok (x.0 ∷ xs.0, xs.1)) e

  pub list_on : (front : List X) (c : Cursor) (comma : Token × Cursor) (x : X × Cursor) → OnList one front c target → begins (K.Symbol S.Comma) c ≡ true → taken (K.Symbol S.Comma) c ≡ Ok comma → one (length front) comma.1 ≡ Ok x → length x.1.tokens ≤ length comma.1.tokens → OnList one (front ++ x.0 ∷ []) x.1 target
  list_on front c comma x w b t e l =
      let k = post_is (taken_post (K.Symbol S.Comma) c) t in
      let n = length front in
      let step = further_step w.fuel n comma.1 (omega (arith, w.enough, k.shorter)) in
      let r : further_from (list_at one w.fuel n) c ≡ (further_from (list_at one (w.fuel - 1) (suc n)) x.1 >>= λ xs. Ok (x.0 ∷ xs.0, xs.1)) = rw (b, t, step, e) refl in
      let i : suc n ≡ length (front ++ x.0 ∷ []) = omega (arith, length-append front (x.0 ∷ [])) in
      let j = with_one_more front x.0 (further_from (list_at one (w.fuel - 1) (suc n)) x.1) in
      let f = ap (λ v. with_front (front ++ x.0 ∷ []) (further_from (list_at one (w.fuel - 1) v) x.1)) i in
      record { fuel = w.fuel - 1; enough = omega (arith, w.enough, k.shorter, l); reads = sym f ∙ sym j ∙ sym (ap (with_front front) r) ∙ w.reads }

  pub list_no_comma : (front : List X) (c : Cursor) → OnList one front c target → begins (K.Symbol S.Comma) c ≡ true → (m : Missed) → taken (K.Symbol S.Comma) c ≡ Err m → target ≡ Err m
  list_no_comma front c w b m t =
      let r : further_from (list_at one w.fuel (length front)) c ≡ Err m = rw (b, t) refl in
      sym w.reads ∙ ap (with_front front) r

  pub list_fails : (front : List X) (c : Cursor) (comma : Token × Cursor) → OnList one front c target → begins (K.Symbol S.Comma) c ≡ true → taken (K.Symbol S.Comma) c ≡ Ok comma → (m : Missed) → one (length front) comma.1 ≡ Err m → target ≡ Err m
  list_fails front c comma w b t m e =
      let k = post_is (taken_post (K.Symbol S.Comma) c) t in
      let step = further_step w.fuel (length front) comma.1 (omega (arith, w.enough, k.shorter)) in
      let r : further_from (list_at one w.fuel (length front)) c ≡ Err m = rw (b, t, step, e) refl in
      sym w.reads ∙ ap (with_front front) r

  pub list_ends : (front : List X) (c : Cursor) → OnList one front c target → begins (K.Symbol S.Comma) c ≡ false → target ≡ Ok (front, c)
  list_ends front c w b =
      let r : further_from (list_at one w.fuel (length front)) c ≡ Ok ([], c) = rw b refl in
      sym w.reads ∙ ap (with_front front) r ∙ ap (λ u. Ok (u, c)) (append-nil front)

  pub list_smaller : (c : Cursor) (comma : Token × Cursor) (x : X × Cursor) → taken (K.Symbol S.Comma) c ≡ Ok comma → length x.1.tokens ≤ length comma.1.tokens → length x.1.tokens < length c.tokens
  list_smaller c comma x t l =
      let k = post_is (taken_post (K.Symbol S.Comma) c) t in
      omega (arith, k.shorter, l)

-- ---- attributes

pub record OnAttributes (s : List ℕ) (front : List T.Attribute) (c : Cursor) (target : Read (List T.Attribute)) : Type 0 where
  pub fuel : ℕ
  pub enough : length c.tokens < fuel
  pub reads : with_front front (attributes_at fuel s c) ≡ target

module _ (s : List ℕ) (target : Read (List T.Attribute)) where
  pub attributes_start : (c : Cursor) → attributes_at (suc (length c.tokens)) s c ≡ target → OnAttributes s [] c target
  attributes_start c h = record { fuel = suc (length c.tokens); enough = omega arith; reads = with_none (attributes_at (suc (length c.tokens)) s c) ∙ h }
    where
      with_none : (r : Read (List T.Attribute)) → with_front [] r ≡ r
      with_none (Ok x) = refl
      with_none (Err e) = refl

  attributes_step : (n : ℕ) (c : Cursor) → 0 < n → attributes_at n s c ≡ (if starts_name (next_kind c.tokens) then (attribute_from s c >>= λ a. attributes_at (n - 1) s a.1 >>= λ others. Ok (a.0 ∷ others.0, others.1)) else Ok ([], c))
  unfolding attributes_at
  attributes_step zero c h = absurd (omega arith)
  attributes_step (suc n) c h =
      let e : n ≡ suc n - 1 = omega arith in
      ap (λ k. if starts_name (next_kind c.tokens) then (attribute_from s c >>= λ a. attributes_at k s a.1 >>= λ others. Ok (a.0 ∷ others.0, others.1)) else Ok ([], c)) e

  pub attributes_on : (front : List T.Attribute) (c : Cursor) (a : T.Attribute × Cursor) → OnAttributes s front c target → starts_name (next_kind c.tokens) ≡ true → attribute_from s c ≡ Ok a → length a.1.tokens < length c.tokens → OnAttributes s (front ++ a.0 ∷ []) a.1 target
  attributes_on front c a w b e l =
      let step = attributes_step w.fuel c (omega (arith, w.enough)) in
      let r : attributes_at w.fuel s c ≡ (attributes_at (w.fuel - 1) s a.1 >>= λ others. Ok (a.0 ∷ others.0, others.1)) = rw (step, b, e) refl in
      let j = with_one_more front a.0 (attributes_at (w.fuel - 1) s a.1) in
      record { fuel = w.fuel - 1; enough = omega (arith, w.enough, l); reads = sym j ∙ sym (ap (with_front front) r) ∙ w.reads }

  pub attributes_fail : (front : List T.Attribute) (c : Cursor) → OnAttributes s front c target → starts_name (next_kind c.tokens) ≡ true → (m : Missed) → attribute_from s c ≡ Err m → target ≡ Err m
  attributes_fail front c w b m e =
      let step = attributes_step w.fuel c (omega (arith, w.enough)) in
      let r : attributes_at w.fuel s c ≡ Err m = rw (step, b, e) refl in
      sym w.reads ∙ ap (with_front front) r

  pub attributes_end : (front : List T.Attribute) (c : Cursor) → OnAttributes s front c target → starts_name (next_kind c.tokens) ≡ false → target ≡ Ok (front, c)
  attributes_end front c w b =
      let step = attributes_step w.fuel c (omega (arith, w.enough)) in
      let r : attributes_at w.fuel s c ≡ Ok ([], c) = rw (step, b) refl in
      sym w.reads ∙ ap (with_front front) r ∙ ap (λ u. Ok (u, c)) (append-nil front)
