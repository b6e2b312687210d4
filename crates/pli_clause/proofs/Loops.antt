-- Laws of the loop that reads options.
use Rattle.std.proofs.Common.{◌≡◌, ℕ, zero, suc, ◌-◌, ◌<◌, List, [], ◌∷◌, ◌++◌, length, true, false, refl, sym, ap, ◌∙◌, arith, append_assoc, append-nil, Ok, Err}
use Rattle.std.specs.Prelude.{if◌then◌else◌}
use Rattle.pli_language.specs.declared.token.Symbol.TheVariants as S
use Rattle.pli_language.specs.declared.token.Kind.TheVariants as K
use Rattle.pli_language.specs.Tree as T
use Rattle.pli_phrase.specs.Cursor.{Cursor, Missed, Read, ◌>>=◌}
use Rattle.pli_phrase.specs.Tokens.{begins}
use Rattle.pli_attributes.proofs.Loops.{with_front}
use Rattle.pli_clause.specs.Reading.{option_from, options_at}

with_one_more : {X : Type 0} (front : List X) (x : X) (r : Read (List X)) → with_front front (r >>= λ xs. Ok (x ∷ xs.0, xs.1)) ≡ with_front (front ++ x ∷ []) r
with_one_more front x (Ok xs) =
    let e : (front ++ x ∷ []) ++ xs.0 ≡ front ++ x ∷ xs.0 = rw append_assoc refl in
    ap (λ u. Ok (u, xs.1)) (sym e)
with_one_more front x (Err e) = refl

-- what is read from here on, behind the options before, is what is wanted, with fuel enough for the tokens that are left
pub record OnOptions (s : List ℕ) (front : List T.ProcedureOption) (c : Cursor) (target : Read (List T.ProcedureOption)) : Type 0 where
  pub fuel : ℕ
  pub enough : length c.tokens < fuel
  pub reads : with_front front (options_at fuel s c) ≡ target

module _ (s : List ℕ) (target : Read (List T.ProcedureOption)) where
  pub options_start : (c : Cursor) → options_at (suc (length c.tokens)) s c ≡ target → OnOptions s [] c target
  options_start c h = record { fuel = suc (length c.tokens); enough = omega arith; reads = with_none (options_at (suc (length c.tokens)) s c) ∙ h }
    where
      with_none : (r : Read (List T.ProcedureOption)) → with_front [] r ≡ r
      with_none (Ok x) = refl
      with_none (Err e) = refl

  options_step : (n : ℕ) (c : Cursor) → 0 < n → options_at n s c ≡ (if begins (K.Symbol S.Semicolon) c then Ok ([], c) else (option_from s c >>= λ o. options_at (n - 1) s o.1 >>= λ others. Ok (o.0 ∷ others.0, others.1)))
  unfolding options_at
  options_step zero c h = absurd (omega arith)
  options_step (suc n) c h =
      let e : n ≡ suc n - 1 = omega arith in
      ap (λ k. if begins (K.Symbol S.Semicolon) c then Ok ([], c) else (option_from s c >>= λ o. options_at k s o.1 >>= λ others. Ok (o.0 ∷ others.0, others.1))) e

  pub options_on : (front : List T.ProcedureOption) (c : Cursor) (o : T.ProcedureOption × Cursor) → OnOptions s front c target → begins (K.Symbol S.Semicolon) c ≡ false → option_from s c ≡ Ok o → length o.1.tokens < length c.tokens → OnOptions s (front ++ o.0 ∷ []) o.1 target
  options_on front c o w b e l =
      let step = options_step w.fuel c (omega (arith, w.enough)) in
      let r : options_at w.fuel s c ≡ (options_at (w.fuel - 1) s o.1 >>= λ others. Ok (o.0 ∷ others.0, others.1)) = rw (step, b, e) refl in
      let j = with_one_more front o.0 (options_at (w.fuel - 1) s o.1) in
      record { fuel = w.fuel - 1; enough = omega (arith, w.enough, l); reads = sym j ∙ sym (ap (with_front front) r) ∙ w.reads }

  pub options_fail : (front : List T.ProcedureOption) (c : Cursor) → OnOptions s front c target → begins (K.Symbol S.Semicolon) c ≡ false → (m : Missed) → option_from s c ≡ Err m → target ≡ Err m
  options_fail front c w b m e =
      let step = options_step w.fuel c (omega (arith, w.enough)) in
      let r : options_at w.fuel s c ≡ Err m = rw (step, b, e) refl in
      sym w.reads ∙ ap (with_front front) r

  pub options_end : (front : List T.ProcedureOption) (c : Cursor) → OnOptions s front c target → begins (K.Symbol S.Semicolon) c ≡ true → target ≡ Ok (front, c)
  options_end front c w b =
      let step = options_step w.fuel c (omega (arith, w.enough)) in
      let r : options_at w.fuel s c ≡ Ok ([], c) = rw (step, b) refl in
      sym w.reads ∙ ap (with_front front) r ∙ ap (λ u. Ok (u, c)) (append-nil front)
