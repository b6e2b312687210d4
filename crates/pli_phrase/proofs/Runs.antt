-- Single steps of a run.
use Rattle.std.specs.Prelude.{if◌then◌else◌}
use Rattle.std.proofs.Common.{◌≡◌, ◌≢◌, ℕ, List, [], ◌∷◌, Some, Ok, Err, refl, sym, ap, ◌∙◌, subst}
use Rattle.pli_language.specs.declared.token.Symbol.TheVariants as S
use Rattle.pli_language.specs.declared.token.Kind.{Kind}
use Rattle.pli_language.specs.declared.token.Kind.TheVariants as K
use Rattle.pli_language.specs.declared.token.Token.{Token}
use Rattle.pli_language.specs.declared.expr.Place.{Place}
use Rattle.pli_language.specs.declared.expr.PrefixOp.{PrefixOp}
use Rattle.pli_language.specs.declared.expr.InfixOp.{InfixOp}
use Rattle.pli_language.specs.Spells.{Takes, next_kind, prefix_op, infix_op, Level, place_of}
use Rattle.pli_language.specs.Marks.{Marks}
use Rattle.pli_language.specs.Tree as T
use Rattle.pli_phrase.specs.Cursor.{Stuck}
use Rattle.pli_phrase.specs.Reading.{infix_of, level_of, climbed, Frame, Before, Between, Group, Listing, Alone, State, OperandDue, ArgumentDue, FirstDue, NameRead, ArgumentsRead, OperandRead, Path, referred, On, Ends, Fails, behind_operand, operand_read, arguments_read, name_read, prefix_due, operand_due, argument_due, first_due, step, whole, ended, follow, run}
use Rattle.pli_phrase.proofs.Operators.{rank, infix_next, of_level, Quiet, Stays, climbed_stays, quiet_climbs}

module _ (s : List ℕ) where
  pub run_step : (state next : State) (k k' : List Frame) (m m' : Marks) (t : Token) (ts : List Token) → step s state k m t t.kind ≡ On next k' m' → run s state k m (t ∷ ts) ≡ run s next k' m' ts
  unfolding run
  run_step state next k k' m m' t ts e = ap (λ u. follow (λ st fs ms. run s st fs ms ts) u t ts) e

  -- a token of a known kind
  pub run_takes : {ts rest : List Token} {t : Token} {kind : Kind} (state next : State) (k k' : List Frame) (m m' : Marks) → Takes ts kind t rest → step s state k m t kind ≡ On next k' m' → run s state k m ts ≡ run s next k' m' rest
  run_takes {ts} {rest} {t} {kind} state next k k' m m' take e =
      ap (run s state k m) take.is ∙ run_step state next k k' m m' t rest (ap (step s state k m t) take.of_kind ∙ e)

  -- the same operand
  pub run_climbed : (e e' : T.Expr) (k k' : List Frame) (m : Marks) (ts : List Token) → climbed (infix_next (next_kind ts)) k e ≡ climbed (infix_next (next_kind ts)) k' e' → run s (OperandRead e) k m ts ≡ run s (OperandRead e') k' m ts
  unfolding run
  run_climbed e e' k k' m [] h = ap (λ c. whole c m) h
  run_climbed e e' k k' m (t ∷ ts) h =
      ap (λ c. follow (λ st fs ms. run s st fs ms ts) (behind_operand (infix_of t.kind) c.0 c.1 t.kind m) t ts) h

  pub run_prefixed : (op : PrefixOp) (p : Place) (e : T.Expr) (k : List Frame) (m : Marks) (ts : List Token) → run s (OperandRead e) (Before op p ∷ k) m ts ≡ run s (OperandRead (T.Prefix op e p)) k m ts
  run_prefixed op p e k m ts = run_climbed e (T.Prefix op e p) (Before op p ∷ k) k m ts refl

  pub run_infix : (op : InfixOp) (left right : T.Expr) (k : List Frame) (m : Marks) (ts : List Token) → Quiet (level_of op) (next_kind ts) → run s (OperandRead right) (Between op left ∷ k) m ts ≡ run s (OperandRead (T.Infix op left right)) k m ts
  run_infix op left right k m ts q =
      run_climbed right (T.Infix op left right) (Between op left ∷ k) k m ts (ap (λ b. if b then climbed (infix_next (next_kind ts)) k (T.Infix op left right) else (Between op left ∷ k, right)) (quiet_climbs op (next_kind ts) q))

  prefix_kind : (kind : Kind) (op : PrefixOp) (k : List Frame) (m : Marks) (t : Token) → prefix_op (Some kind) ≡ Some op → operand_due s k m t kind ≡ On OperandDue (Before op (place_of t) ∷ k) m
  prefix_kind (K.Symbol S.Plus) op k m t e = ap (λ o. prefix_due o (place_of t) k m) e
  prefix_kind (K.Symbol S.Minus) op k m t e = ap (λ o. prefix_due o (place_of t) k m) e
  prefix_kind (K.Symbol S.Not) op k m t e = ap (λ o. prefix_due o (place_of t) k m) e
  prefix_kind _ op k m t e = absurd (cc e)

  pub run_prefix : (op : PrefixOp) (k : List Frame) (m : Marks) (t : Token) (ts : List Token) → prefix_op (Some t.kind) ≡ Some op → run s OperandDue k m (t ∷ ts) ≡ run s OperandDue (Before op (place_of t) ∷ k) m ts
  run_prefix op k m t ts e = run_step OperandDue OperandDue k (Before op (place_of t) ∷ k) m m t ts (prefix_kind t.kind op k m t e)

  pushed : (op : InfixOp) (k : List Frame) (e : T.Expr) (kind : Kind) (m : Marks) → Stays (level_of op) k → behind_operand (Some op) k e kind m ≡ On OperandDue (Between op e ∷ k) m
  pushed op [] e kind m s = refl
  pushed op (Before o p ∷ k) e kind m s = absurd s
  pushed op (Between o left ∷ k) e kind m s = refl
  pushed op (Group p ∷ k) e kind m s = refl
  pushed op (Listing path name es ∷ k) e kind m s = refl
  pushed op (Alone ∷ k) e kind m s = absurd s

  -- an operator behind an operand that stays open
  pub run_operator : (l : Level) (op : InfixOp) (left : T.Expr) (k : List Frame) (m : Marks) (t : Token) (ts : List Token) → infix_op l (Some t.kind) ≡ Some op → Stays (rank l) k → run s (OperandRead left) k m (t ∷ ts) ≡ run s OperandDue (Between op left ∷ k) m ts
  run_operator l op left k m t ts e fits =
      let o = of_level l t.kind op e in
      let here = subst (λ n. Stays n k) (sym o.level) fits in
      let a = ap (λ u. behind_operand u (climbed u k left).0 (climbed u k left).1 t.kind m) o.is in
      let b = ap (λ c. behind_operand (Some op) c.0 c.1 t.kind m) (climbed_stays op k left here) in
      run_step (OperandRead left) OperandDue k (Between op left ∷ k) m m t ts (a ∙ b ∙ pushed op k left t.kind m here)

  no_list : (path : Path) (name : T.Name) (k : List Frame) (m : Marks) (kind : Kind) → Some kind ≢ Some (K.Symbol S.OpenParenthesis) → name_read path name k m kind ≡ arguments_read path name T.Absent k m kind
  no_list path name k m (K.Symbol S.OpenParenthesis) n = absurd (n refl)
  no_list path name k m _ n = refl

  -- a name without arguments
  pub run_absent : (path : Path) (name : T.Name) (k : List Frame) (m : Marks) (ts : List Token) → next_kind ts ≢ Some (K.Symbol S.OpenParenthesis) → run s (NameRead path name) k m ts ≡ run s (ArgumentsRead path name T.Absent) k m ts
  unfolding run
  run_absent path name k m [] n = refl
  run_absent path name k m (t ∷ ts) n =
      ap (λ u. follow (λ st fs ms. run s st fs ms ts) u t ts) (no_list path name k m t.kind n)

  no_close : (path : Path) (name : T.Name) (k : List Frame) (m : Marks) (t : Token) (kind : Kind) → Some kind ≢ Some (K.Symbol S.CloseParenthesis) → first_due s path name k m t kind ≡ argument_due s (Listing path name [] ∷ k) m t kind
  no_close path name k m t (K.Symbol S.CloseParenthesis) n = absurd (n refl)
  no_close path name k m t _ n = refl

  -- a list of arguments that isn't empty
  pub run_first : (path : Path) (name : T.Name) (k : List Frame) (m : Marks) (ts : List Token) → next_kind ts ≢ Some (K.Symbol S.CloseParenthesis) → run s (FirstDue path name) k m ts ≡ run s ArgumentDue (Listing path name [] ∷ k) m ts
  unfolding run
  run_first path name k m [] n = refl
  run_first path name k m (t ∷ ts) n =
      ap (λ u. follow (λ st fs ms. run s st fs ms ts) u t ts) (no_close path name k m t t.kind n)

  no_more : (path : Path) (name : T.Name) (a : T.Arguments) (k : List Frame) (m : Marks) (kind : Kind) → Some kind ≢ Some (K.Symbol S.Point) → Some kind ≢ Some (K.Symbol S.Arrow) → arguments_read path name a k m kind ≡ operand_read (T.Refers (referred path name a)) k m kind
  no_more path name a k m (K.Symbol S.Point) n h = absurd (n refl)
  no_more path name a k m (K.Symbol S.Arrow) n h = absurd (h refl)
  no_more path name a k m _ n h = refl

  -- the end of a reference
  pub run_referred : (path : Path) (name : T.Name) (a : T.Arguments) (k : List Frame) (m : Marks) (ts : List Token) → next_kind ts ≢ Some (K.Symbol S.Point) → next_kind ts ≢ Some (K.Symbol S.Arrow) → run s (ArgumentsRead path name a) k m ts ≡ run s (OperandRead (T.Refers (referred path name a))) k m ts
  unfolding run
  run_referred path name a k m [] n h = refl
  run_referred path name a k m (t ∷ ts) n h =
      ap (λ u. follow (λ st fs ms. run s st fs ms ts) u t ts) (no_more path name a k m t.kind n h)

  pub run_ends : (state : State) (k : List Frame) (m m' : Marks) (e : T.Expr) (t : Token) (ts : List Token) → step s state k m t t.kind ≡ Ends e m' → run s state k m (t ∷ ts) ≡ Ok (e, record { tokens = t ∷ ts; marks = m' })
  unfolding run
  run_ends state k m m' e t ts h = ap (λ u. follow (λ st fs ms. run s st fs ms ts) u t ts) h

  pub run_fails : (state : State) (k : List Frame) (m : Marks) (t : Token) (ts : List Token) → step s state k m t t.kind ≡ Fails → run s state k m (t ∷ ts) ≡ Err Stuck
  unfolding run
  run_fails state k m t ts h = ap (λ u. follow (λ st fs ms. run s st fs ms ts) u t ts) h

  pub run_empty : (state : State) (k : List Frame) (m : Marks) → run s state k m [] ≡ ended state k m
  unfolding run
  run_empty state k m = refl
