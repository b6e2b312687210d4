-- Laws of the loops that read format lists and pairs.
use Rattle.std.proofs.Common.{◌≡◌, ℕ, zero, suc, ◌-◌, ◌<◌, List, [], ◌∷◌, ◌++◌, length, Bool, true, false, refl, sym, ap, ◌∙◌, arith, append-nil, Ok, Err}
use Rattle.std.specs.Prelude.{if◌then◌else◌}
use Rattle.pli_language.specs.declared.token.Symbol.TheVariants as S
use Rattle.pli_language.specs.declared.token.Kind.TheVariants as K
use Rattle.pli_language.specs.Formats.{Direction}
use Rattle.pli_language.specs.Tree as T
use Rattle.pli_phrase.specs.Cursor.{Cursor, Missed, Read, ◌>>=◌}
use Rattle.pli_phrase.specs.Tokens.{begins}
use Rattle.pli_attributes.proofs.Posts.{post_is}
use Rattle.pli_attributes.proofs.Loops.{with_front, with_one_more}
use Rattle.pli_stream.specs.Reading.{State, Turn, On, Closed, start, turn, follow, run, formats_from, pair_from, further_pairs, pairs_from}
use Rattle.pli_stream.proofs.Sound.{turn_post, any_at}
use Rattle.pli_stream.proofs.Pairs.{pair_post}

-- ---- turns of a format list

-- the run from here on is what is wanted, with fuel enough for the tokens that are left
pub record OnTurns (d : Direction) (st : State) (c : Cursor) (target : Read (T.Formats × Bool)) : Type 0 where
  pub fuel : ℕ
  pub enough : length c.tokens < fuel
  pub reads : run fuel d st c ≡ target

pub turns_start : (d : Direction) (c : Cursor) → OnTurns d start c (formats_from d c)
unfolding formats_from
turns_start d c = record { fuel = suc (length c.tokens); enough = omega arith; reads = refl }

module _ (d : Direction) (target : Read (T.Formats × Bool)) where
  run_step : (n : ℕ) (st : State) (c : Cursor) → 0 < n → run n d st c ≡ (turn d st c >>= λ z. follow (run (n - 1) d) z.0 z.1)
  unfolding run
  run_step zero st c h = absurd (omega (arith, h))
  run_step (suc n) st c h =
      let e : n ≡ suc n - 1 = omega arith in
      ap (λ k. turn d st c >>= λ z. follow (run k d) z.0 z.1) e

  pub turn_smaller : (st : State) (c : Cursor) (z : Turn × Cursor) → turn d st c ≡ Ok z → length z.1.tokens < length c.tokens
  turn_smaller st c z e = (post_is (turn_post (λ fs rest. Unit {0}) d st c (any_at st c.tokens)) e).shorter

  turned : (st : State) (c : Cursor) (z : Turn × Cursor) (w : OnTurns d st c target) → turn d st c ≡ Ok z → follow (run (w.fuel - 1) d) z.0 z.1 ≡ target
  turned st c z w e =
      let step = run_step w.fuel st c (omega (arith, w.enough)) in
      let r : run w.fuel d st c ≡ follow (run (w.fuel - 1) d) z.0 z.1 = step ∙ ap (λ r. r >>= λ z. follow (run (w.fuel - 1) d) z.0 z.1) e in
      sym r ∙ w.reads

  pub turn_on : (st : State) (c : Cursor) (st' : State) (b : Cursor) → OnTurns d st c target → turn d st c ≡ Ok (On st', b) → OnTurns d st' b target
  turn_on st c st' b w e =
      record { fuel = w.fuel - 1; enough = omega (arith, w.enough, turn_smaller st c (On st', b) e); reads = turned st c (On st', b) w e }

  pub turn_ends : (st : State) (c : Cursor) (fs : T.Formats) (moves : Bool) (b : Cursor) → OnTurns d st c target → turn d st c ≡ Ok (Closed fs moves, b) → target ≡ Ok ((fs, moves), b)
  turn_ends st c fs moves b w e = sym (turned st c (Closed fs moves, b) w e)

  pub turn_fails : (st : State) (c : Cursor) → OnTurns d st c target → (at : Missed) → turn d st c ≡ Err at → target ≡ Err at
  turn_fails st c w at e =
      let step = run_step w.fuel st c (omega (arith, w.enough)) in
      sym w.reads ∙ step ∙ ap (λ r. r >>= λ z. follow (run (w.fuel - 1) d) z.0 z.1) e

-- ---- pairs

pub record OnPairs (s : List ℕ) (d : Direction) (front : List T.EditPair) (c : Cursor) (target : Read (List T.EditPair)) : Type 0 where
  pub fuel : ℕ
  pub enough : length c.tokens < fuel
  pub reads : with_front front (further_pairs fuel s d c) ≡ target

module _ (s : List ℕ) (d : Direction) (target : Read (List T.EditPair)) where
  pub pairs_start : (c : Cursor) (p : T.EditPair × Cursor) → pair_from s d c ≡ Ok p → pairs_from s d c ≡ target → OnPairs s d (p.0 ∷ []) p.1 target
  unfolding pairs_from
  pairs_start c p e h =
      let r : pairs_from s d c ≡ (further_pairs (suc (length c.tokens)) s d p.1 >>= λ ps. Ok (p.0 ∷ ps.0, ps.1)) = rw e refl in
      record { fuel = suc (length c.tokens); enough = omega (arith, (post_is (pair_post s d c) e).shorter); reads = sym r ∙ h }

  pub pairs_no_first : (c : Cursor) → pairs_from s d c ≡ target → (at : Missed) → pair_from s d c ≡ Err at → target ≡ Err at
  unfolding pairs_from
  pairs_no_first c h at e =
      let r : pairs_from s d c ≡ Err at = rw e refl in
      sym h ∙ r

  pairs_step : (n : ℕ) (c : Cursor) → 0 < n → further_pairs n s d c ≡ (if begins (K.Symbol S.OpenParenthesis) c then (pair_from s d c >>= λ p. further_pairs (n - 1) s d p.1 >>= λ ps. Ok (p.0 ∷ ps.0, ps.1)) else Ok ([], c))
  unfolding further_pairs
  pairs_step zero c h = absurd (omega (arith, h))
  pairs_step (suc n) c h =
      let e : n ≡ suc n - 1 = omega arith in
      ap (λ k. if begins (K.Symbol S.OpenParenthesis) c then (pair_from s d c >>= λ p. further_pairs k s d p.1 >>= λ ps. Ok (p.0 ∷ ps.0, ps.1)) else Ok ([], c)) e

  pub pairs_on : (front : List T.EditPair) (c : Cursor) (p : T.EditPair × Cursor) → OnPairs s d front c target → begins (K.Symbol S.OpenParenthesis) c ≡ true → pair_from s d c ≡ Ok p → OnPairs s d (front ++ p.0 ∷ []) p.1 target
  pairs_on front c p w b e =
      let step = pairs_step w.fuel c (omega (arith, w.enough)) in
      let r : further_pairs w.fuel s d c ≡ (further_pairs (w.fuel - 1) s d p.1 >>= λ ps. Ok (p.0 ∷ ps.0, ps.1)) = rw (step, b, e) refl in
      let j = with_one_more front p.0 (further_pairs (w.fuel - 1) s d p.1) in
      record { fuel = w.fuel - 1; enough = omega (arith, w.enough, (post_is (pair_post s d c) e).shorter); reads = sym j ∙ sym (ap (with_front front) r) ∙ w.reads }

  pub pairs_fail : (front : List T.EditPair) (c : Cursor) → OnPairs s d front c target → begins (K.Symbol S.OpenParenthesis) c ≡ true → (at : Missed) → pair_from s d c ≡ Err at → target ≡ Err at
  pairs_fail front c w b at e =
      let step = pairs_step w.fuel c (omega (arith, w.enough)) in
      let r : further_pairs w.fuel s d c ≡ Err at = rw (step, b, e) refl in
      sym w.reads ∙ ap (with_front front) r

  pub pairs_end : (front : List T.EditPair) (c : Cursor) → OnPairs s d front c target → begins (K.Symbol S.OpenParenthesis) c ≡ false → target ≡ Ok (front, c)
  pairs_end front c w b =
      let step = pairs_step w.fuel c (omega (arith, w.enough)) in
      let r : further_pairs w.fuel s d c ≡ Ok ([], c) = rw (step, b) refl in
      sym w.reads ∙ ap (with_front front) r ∙ ap (λ u. Ok (u, c)) (append-nil front)
