-- What is read is spelled so: what the frames and the state hold, from the place where the whole began.
use Rattle.std.specs.Prelude.{if◌then◌else◌, ⊤, slice_range}
use Rattle.std.proofs.Common.{◌≡◌, ◌≢◌, ℕ, zero, suc, ◌+◌, ◌-◌, ◌<◌, ◌≤◌, List, [], ◌∷◌, Option, Some, None, Bool, true, false, Ok, refl, sym, ap, ◌∙◌, subst, arith}
use Rattle.std.proofs.lemmas.Bool.{leb-true, leb-false}
use Rattle.pli_language.specs.declared.token.Word.{Word}
use Rattle.pli_language.specs.declared.token.Symbol.TheVariants as S
use Rattle.pli_language.specs.declared.token.Kind.{Kind}
use Rattle.pli_language.specs.declared.token.Kind.TheVariants as K
use Rattle.pli_language.specs.declared.token.Token.{Token}
use Rattle.pli_language.specs.declared.expr.Place.{Place}
use Rattle.pli_language.specs.declared.expr.PrefixOp.{PrefixOp}
use Rattle.pli_language.specs.declared.expr.PrefixOp.TheVariants as P
use Rattle.pli_language.specs.declared.expr.InfixOp.{InfixOp}
use Rattle.pli_language.specs.Spells as G
use Rattle.pli_language.specs.Spells.{Takes, next_kind, prefix_op, infix_op, Level, Disjoining, below, place_of, name_at, SpellsAt, SpellsChain, SpellsPrimary, SpellsReference, SpellsArrows, SpellsQualified, SpellsArguments, SpellsExprs}
use Rattle.pli_language.specs.Marks.{Marks, argument}
use Rattle.pli_language.specs.Tree as T
use Rattle.pli_phrase.specs.Cursor.{Cursor}
use Rattle.pli_phrase.specs.Tokens.{text_of}
use Rattle.pli_phrase.specs.Reading.{infix_of, level_of, climbs, climbed, Frame, Before, Between, Group, Listing, Alone, State, OperandDue, ArgumentDue, FirstDue, NameDue, NameRead, ArgumentsRead, OperandRead, Path, qualified, located, referred, exprs_with, Step, On, Ends, Fails, closed, behind_operand, operand_read, arguments_read, name_read, text_due, operand_due, first_due, name_due, step, whole, ended, follow, run}
use Rattle.pli_phrase.proofs.Operators.{rank, level_at, infix_next, of_level, levelled, Quiet, Stays}
use Rattle.pli_phrase.proofs.TextValues.{text_sound}

-- ---- levels by their numbers

rank_at : (n : ℕ) → rank (level_at n) ≤ n
rank_at zero = omega arith
rank_at (suc zero) = omega arith
rank_at (suc (suc zero)) = omega arith
rank_at (suc (suc (suc zero))) = omega arith
rank_at (suc (suc (suc (suc zero)))) = omega arith
rank_at (suc (suc (suc (suc (suc n))))) = omega arith

abbrev pub level_before : ℕ → Option Level
level_before zero = None
level_before (suc n) = Some (level_at n)

below_at : (n : ℕ) → n < 6 → level_before n ≡ below (level_at n)
below_at zero h = refl
below_at (suc zero) h = refl
below_at (suc (suc zero)) h = refl
below_at (suc (suc (suc zero))) h = refl
below_at (suc (suc (suc (suc zero)))) h = refl
below_at (suc (suc (suc (suc (suc zero))))) h = refl
below_at (suc (suc (suc (suc (suc (suc n)))))) h = absurd (omega (arith, h))

level_number : (l : Level) → level_at (rank l) ≡ l
level_number G.Multiplying = refl
level_number G.Adding = refl
level_number G.Joining = refl
level_number G.Comparing = refl
level_number G.Conjoining = refl
level_number G.Disjoining = refl

pub level_most : (l : Level) → rank l < 6
level_most G.Multiplying = omega arith
level_most G.Adding = omega arith
level_most G.Joining = omega arith
level_most G.Comparing = omega arith
level_most G.Conjoining = omega arith
level_most G.Disjoining = omega arith

-- an operator by the number of its level
pub record Numbered (k : Kind) (op : InfixOp) : Type 0 where
  pub is : infix_op (level_at (level_of op)) (Some k) ≡ Some op
  pub most : level_of op < 6

numbered : (k : Kind) (op : InfixOp) → infix_of k ≡ Some op → Numbered k op
numbered k op e =
    let l = levelled k op e in
    let o = of_level l.level k op l.is in
    let n : level_at (level_of op) ≡ l.level = ap level_at o.level ∙ level_number l.level in
    record { is = ap (λ u. infix_op u (Some k)) n ∙ l.is; most = omega (arith, o.level, level_most l.level) }

-- the levels below an operator's are quiet before it, and all are before none
quiet_case : (l : Level) (k : Kind) (n : ℕ) (r : Option InfixOp) → infix_op l (Some k) ≡ r → rank l < n → ((op : InfixOp) → infix_of k ≡ Some op → n ≤ level_of op) → r ≡ None
quiet_case l k n None e h low = refl
quiet_case l k n (Some op) e h low =
    let o = of_level l k op e in
    let far = low op o.is in
    absurd (omega (arith, far, h, o.level))

quiet_from : (k : Option Kind) (n : ℕ) → ((op : InfixOp) → infix_next k ≡ Some op → n ≤ level_of op) → Quiet n k
quiet_from None n low l h = quiet_end l
  where
    quiet_end : (l : Level) → infix_op l None ≡ None
    quiet_end G.Multiplying = refl
    quiet_end G.Adding = refl
    quiet_end G.Joining = refl
    quiet_end G.Comparing = refl
    quiet_end G.Conjoining = refl
    quiet_end G.Disjoining = refl
quiet_from (Some k) n low l h = quiet_case l k n (infix_op l (Some k)) refl h low

quiet_nothing : (k : Option Kind) (n : ℕ) → infix_next k ≡ None → Quiet n k
quiet_nothing k n e = quiet_from k n (λ op h. let c : None ≡ Some op = sym e ∙ h in absurd (cc c))

same_op : (o : Option InfixOp) (a b : InfixOp) (n : ℕ) → o ≡ Some a → o ≡ Some b → n ≤ level_of a → n ≤ level_of b
same_op o a b n x y h = let c : Some a ≡ Some b = sym x ∙ y in let d : a ≡ b = cc c in subst (λ u. n ≤ level_of u) d h

quiet_some : (k : Option Kind) (op : InfixOp) (n : ℕ) → infix_next k ≡ Some op → n ≤ level_of op → Quiet n k
quiet_some k op n e h = quiet_from k n (λ other i. same_op (infix_next k) op other n e i h)

climbs_quiet : (k : Option Kind) (o : Option InfixOp) (inner : InfixOp) → infix_next k ≡ o → climbs o inner ≡ true → Quiet (level_of inner) k
climbs_quiet k None inner e c = quiet_nothing k (level_of inner) e
climbs_quiet k (Some op) inner e c = quiet_some k op (level_of inner) e (leb-true (level_of inner) (level_of op) c)

module _ (s : List ℕ) (Good : T.Expr → List Token → Type 0) where
  -- ---- parts of expressions

  -- an operand without operators, or the left side of a chain of this level that may go on
  abbrev pub Part : ℕ → List Token → T.Expr → List Token → Type 0
  Part zero us e ts = SpellsAt s None us e ts
  Part (suc n) us e ts = (x : T.Expr) (rest : List Token) → SpellsChain s (level_at n) e ts x rest → SpellsAt s (Some (level_at n)) us x rest

  part_spelled : (n : ℕ) (us : List Token) (e : T.Expr) (ts : List Token) → Part n us e ts → Quiet n (next_kind ts) → SpellsAt s (level_before n) us e ts
  part_spelled zero us e ts p q = p
  part_spelled (suc n) us e ts p q =
      let h : rank (level_at n) < suc n = omega (arith, rank_at n) in
      p e ts (G.stops (level_at n) e ts (q (level_at n) h))

  part_up : (n : ℕ) (us : List Token) (e : T.Expr) (ts : List Token) → n < 6 → Part n us e ts → Quiet n (next_kind ts) → Part (suc n) us e ts
  part_up n us e ts h p q x rest c =
      G.chain (level_at n) us ts rest e x (subst (λ o. SpellsAt s o us e ts) (below_at n h) (part_spelled n us e ts p q)) c

  part_reach : (d n m : ℕ) (us : List Token) (e : T.Expr) (ts : List Token) → m ≡ d + n → m ≤ 6 → Part n us e ts → ((l : Level) → suc (rank l) < m → infix_op l (next_kind ts) ≡ None) → Part m us e ts
  part_reach zero n m us e ts eq h p q =
      let same : n ≡ m = omega (arith, eq) in
      subst (λ v. Part v us e ts) same p
  part_reach (suc d) n zero us e ts eq h p q = absurd (omega (arith, eq))
  part_reach (suc d) n (suc m) us e ts eq h p q =
      let eq' : m ≡ d + n = omega (arith, eq) in
      let h' : m < 6 = omega (arith, h) in
      let low : m ≤ 6 = omega (arith, h) in
      part_up m us e ts h' (part_reach d n m us e ts eq' low p (λ l r. q l (omega (arith, r)))) (λ l r. q l (omega (arith, r)))

  -- up to a level before which nothing goes on
  part_at : (n m : ℕ) (us : List Token) (e : T.Expr) (ts : List Token) → n ≤ m → m ≤ 6 → Part n us e ts → Quiet m (next_kind ts) → SpellsAt s (level_before m) us e ts
  part_at n m us e ts h most p q =
      let eq : m ≡ (m - n) + n = omega (arith, h) in
      part_spelled m us e ts (part_reach (m - n) n m us e ts eq most p (λ l r. q l (omega (arith, r)))) q

  -- ---- what a state and frames hold

  -- what is read so far of a reference from here on
  abbrev pub IsPath : Path → List Token → List Token → Type 0
  IsPath path us ts = (q : T.Qualified) (mid : List Token) (r : T.Reference) (rest : List Token) → SpellsQualified s ts q mid → SpellsArrows s (located path.locator (qualified path.qualifiers q)) mid r rest → SpellsReference s us r rest

  pub record Named (path : Path) (name : T.Name) (us ts : List Token) : Type 0 where
    pub front : List Token
    pub token : Token
    pub word : Word
    pub take : Takes front (K.Name word) token ts
    pub is : name ≡ name_at s token word
    pub before : IsPath path us front

  pub data Due : List Frame → List Token → Type 0 where
    whole_due : (us : List Token) → ((e : T.Expr) (rest : List Token) → SpellsAt s (Some Disjoining) us e rest → Good e rest) → Due [] us
    alone_due : (us : List Token) → ((e : T.Expr) (rest : List Token) → SpellsAt s None us e rest → Good e rest) → Due (Alone ∷ []) us
    prefixed : (k : List Frame) (t : Token) (us : List Token) (op : PrefixOp) → Due k (t ∷ us) → prefix_op (Some t.kind) ≡ Some op → Due (Before op (place_of t) ∷ k) us
    operated : (k : List Frame) (from : List Token) (t : Token) (us : List Token) (op : InfixOp) (left : T.Expr) → Due k from → Stays (level_of op) k → Part (suc (level_of op)) from left (t ∷ us) → Numbered t.kind op → Due (Between op left ∷ k) us
    grouped : (k : List Frame) (t : Token) (us : List Token) → Due k (t ∷ us) → t.kind ≡ K.Symbol S.OpenParenthesis → Due (Group (place_of t) ∷ k) us
    listing : (k : List Frame) (from : List Token) (u : Token) (ts us : List Token) (path : Path) (name : T.Name) (earlier : List T.Expr) → Due k from → Named path name from (u ∷ ts) → u.kind ≡ K.Symbol S.OpenParenthesis → next_kind ts ≢ Some (K.Symbol S.CloseParenthesis) → ((es : T.Exprs) (rest : List Token) → SpellsExprs s us es rest → SpellsExprs s ts (exprs_with earlier es) rest) → Due (Listing path name earlier ∷ k) us

  pub record FirstAt (path : Path) (name : T.Name) (k : List Frame) (ts : List Token) : Type 0 where
    pub from : List Token
    pub opener : Token
    pub due : Due k from
    pub named : Named path name from (opener ∷ ts)
    pub opened : opener.kind ≡ K.Symbol S.OpenParenthesis

  pub record PathAt (path : Path) (k : List Frame) (ts : List Token) : Type 0 where
    pub from : List Token
    pub due : Due k from
    pub before : IsPath path from ts

  pub record NameAt (path : Path) (name : T.Name) (k : List Frame) (ts : List Token) : Type 0 where
    pub from : List Token
    pub due : Due k from
    pub named : Named path name from ts

  pub record ArgumentsAt (path : Path) (name : T.Name) (a : T.Arguments) (k : List Frame) (ts : List Token) : Type 0 where
    pub from : List Token
    pub after : List Token
    pub due : Due k from
    pub named : Named path name from after
    pub arguments : SpellsArguments s after a ts

  pub record OperandAt (e : T.Expr) (k : List Frame) (ts : List Token) : Type 0 where
    pub from : List Token
    pub due : Due k from
    pub spelled : SpellsAt s None from e ts

  abbrev pub At : State → List Frame → List Token → Type 0
  At OperandDue k ts = Due k ts
  At ArgumentDue k ts = Due k ts
  At (FirstDue path name) k ts = FirstAt path name k ts
  At (NameDue path) k ts = PathAt path k ts
  At (NameRead path name) k ts = NameAt path name k ts
  At (ArgumentsRead path name a) k ts = ArgumentsAt path name a k ts
  At (OperandRead e) k ts = OperandAt e k ts

  abbrev pub StepOk : Step → Token → List Token → Type 0
  StepOk (On state k m) t ts = At state k ts
  StepOk (Ends e m) t ts = Good e (t ∷ ts)
  StepOk Fails t ts = ⊤

  -- ---- climbing

  abbrev pub Low : ℕ → List Frame → Type 0
  Low n [] = ⊤
  Low n (Before op p ∷ k) = n ≡ 0
  Low n (Between op left ∷ k) = n ≤ level_of op
  Low n (Group p ∷ k) = ⊤
  Low n (Listing path name es ∷ k) = ⊤
  Low n (Alone ∷ k) = n ≡ 0

  low_zero : (k : List Frame) → Low 0 k
  low_zero [] = tt
  low_zero (Before op p ∷ k) = refl
  low_zero (Between op left ∷ k) = omega arith
  low_zero (Group p ∷ k) = tt
  low_zero (Listing path name es ∷ k) = tt
  low_zero (Alone ∷ k) = refl

  low_stays : (n : ℕ) (k : List Frame) → Stays n k → Low (suc n) k
  low_stays n [] h = tt
  low_stays n (Before op p ∷ k) h = absurd h
  low_stays n (Between op left ∷ k) h = omega (arith, h)
  low_stays n (Group p ∷ k) h = tt
  low_stays n (Listing path name es ∷ k) h = tt
  low_stays n (Alone ∷ k) h = absurd h

  abbrev pub Within : Option InfixOp → ℕ → Type 0
  Within None n = ⊤
  Within (Some op) n = n ≤ suc (level_of op)

  within_zero : (o : Option InfixOp) → Within o 0
  within_zero None = tt
  within_zero (Some op) = omega arith

  within_climbs : (o : Option InfixOp) (inner : InfixOp) → climbs o inner ≡ true → Within o (suc (level_of inner))
  within_climbs None inner h = tt
  within_climbs (Some op) inner h = omega (arith, leb-true (level_of inner) (level_of op) h)

  abbrev pub Settled : Option InfixOp → List Frame → Type 0
  Settled o [] = ⊤
  Settled o (Before op p ∷ k) = ⊥
  Settled None (Between op left ∷ k) = ⊥
  Settled (Some next) (Between op left ∷ k) = level_of next < level_of op
  Settled o (Group p ∷ k) = ⊤
  Settled o (Listing path name es ∷ k) = ⊤
  Settled o (Alone ∷ k) = ⊤

  settled_not : (o : Option InfixOp) (op : InfixOp) (left : T.Expr) (k : List Frame) → climbs o op ≡ false → Settled o (Between op left ∷ k)
  settled_not None op left k h = absurd (cc h)
  settled_not (Some next) op left k h = leb-false (level_of op) (level_of next) h

  pub record Climbed (o : Option InfixOp) (c : List Frame × T.Expr) (ts : List Token) : Type 0 where
    pub from : List Token
    pub number : ℕ
    pub due : Due c.0 from
    pub part : Part number from c.1 ts
    pub most : number ≤ 6
    pub low : Low number c.0
    pub within : Within o number
    pub settled : Settled o c.0

  module _ (ts : List Token) (o : Option InfixOp) (next : infix_next (next_kind ts) ≡ o) where
    climb_infix : (k : List Frame) (from : List Token) (t : Token) (us : List Token) (op : InfixOp) (left e : T.Expr) (n : ℕ) → Due k from → Stays (level_of op) k → Part (suc (level_of op)) from left (t ∷ us) → Numbered t.kind op → Part n us e ts → n ≤ level_of op → Within o n → n ≤ 6 → (b : Bool) → climbs o op ≡ b → (climbs o op ≡ true → Part (suc (level_of op)) from (T.Infix op left e) ts → Climbed o (climbed o k (T.Infix op left e)) ts) → Climbed o (if b then climbed o k (T.Infix op left e) else (Between op left ∷ k, e)) ts
    climb_infix k from t us op left e n due stays part number p low w h true c on =
        let most : level_of op ≤ 6 = omega (arith, number.most) in
        let right = part_at n (level_of op) us e ts low most p (climbs_quiet (next_kind ts) o op next c) in
        let right' = subst (λ v. SpellsAt s v us e ts) (below_at (level_of op) number.most) right in
        on c (λ x rest more. part x rest (G.goes_on (level_at (level_of op)) left e x (t ∷ us) us ts rest t op refl number.is right' more))
    climb_infix k from t us op left e n due stays part number p low w h false c on =
        record { from = us; number = n; due = operated k from t us op left due stays part number; part = p; most = h; low = low; within = w; settled = settled_not o op left k c }

    climb_sound : (k : List Frame) (us : List Token) (e : T.Expr) (n : ℕ) → Due k us → Part n us e ts → n ≤ 6 → Low n k → Within o n → Climbed o (climbed o k e) ts
    climb_sound k us e n (whole_due us' good) p h low w =
        record { from = us; number = n; due = whole_due us good; part = p; most = h; low = low; within = w; settled = tt }
    climb_sound k us e n (alone_due us' good) p h low w =
        record { from = us; number = n; due = alone_due us good; part = p; most = h; low = low; within = w; settled = tt }
    climb_sound k us e n (prefixed k' t us' op due pre) p h low w =
        let p' : Part 0 us e ts = subst (λ v. Part v us e ts) low p in
        climb_sound k' (t ∷ us) (T.Prefix op e (place_of t)) 0 due (G.prefixed (t ∷ us) us ts t op e refl pre p') (omega arith) (low_zero k') (within_zero o)
    climb_sound k us e n (operated k' from t us' op left due stays part number) p h low w =
        climb_infix k' from t us op left e n due stays part number p low w h (climbs o op) refl (λ c p'. climb_sound k' from (T.Infix op left e) (suc (level_of op)) due p' (omega (arith, number.most)) (low_stays (level_of op) k' stays) (within_climbs o op c))
    climb_sound k us e n (grouped k' t us' due opened) p h low w =
        record { from = us; number = n; due = grouped k' t us due opened; part = p; most = h; low = low; within = w; settled = tt }
    climb_sound k us e n (listing k' from u ts' us' path name earlier due named opened stop others) p h low w =
        record { from = us; number = n; due = listing k' from u ts' us path name earlier due named opened stop others; part = p; most = h; low = low; within = w; settled = tt }

  -- ---- one token

  -- what an operand is where nothing more goes on
  finished : (us : List Token) (e : T.Expr) (ts : List Token) (n : ℕ) → Part n us e ts → n ≤ 6 → infix_next (next_kind ts) ≡ None → SpellsAt s (Some Disjoining) us e ts
  finished us e ts n p h next = part_at n 6 us e ts h (omega arith) p (quiet_nothing (next_kind ts) 6 next)

  alone_good : (k : List Frame) (us : List Token) (e : T.Expr) (ts : List Token) (n : ℕ) → Due (Alone ∷ k) us → Part n us e ts → n ≡ 0 → Good e ts
  alone_good k us e ts n (alone_due us' good) p z = good e ts (subst (λ v. Part v us e ts) z p)

  whole_good : (us : List Token) (e : T.Expr) (ts : List Token) → Due [] us → SpellsAt s (Some Disjoining) us e ts → Good e ts
  whole_good us e ts (whole_due us' good) p = good e ts p

  kind_not : (t : Token) (ts : List Token) (kind other : Kind) → t.kind ≡ kind → (kind ≡ other → ⊥) → next_kind (t ∷ ts) ≢ Some other
  kind_not t ts kind other h n e = let g : t.kind ≡ other = cc e in n (sym h ∙ g)

  group_sound : (p : Place) (k : List Frame) (us : List Token) (e : T.Expr) (m : Marks) (t : Token) (kind : Kind) (ts : List Token) → t.kind ≡ kind → Due (Group p ∷ k) us → SpellsAt s (Some Disjoining) us e (t ∷ ts) → StepOk (closed (Group p ∷ k) e kind m) t ts
  group_sound p k us e m t (K.Symbol S.CloseParenthesis) ts h (grouped k' u us' due opened) spelled =
      record {
        from = u ∷ us;
        due = due;
        spelled = G.primary (u ∷ us) ts (T.Parenthesized e (place_of u)) (G.parenthesized (u ∷ us) us (t ∷ ts) ts u t e (record { is = refl; of_kind = opened }) spelled (record { is = refl; of_kind = h }));
      }
  group_sound p k us e m t _ ts h due spelled = tt

  listing_sound : (path : Path) (name : T.Name) (earlier : List T.Expr) (k : List Frame) (us : List Token) (e : T.Expr) (m : Marks) (t : Token) (kind : Kind) (ts : List Token) → t.kind ≡ kind → Due (Listing path name earlier ∷ k) us → SpellsAt s (Some Disjoining) us e (t ∷ ts) → StepOk (closed (Listing path name earlier ∷ k) e kind m) t ts
  listing_sound path name earlier k us e m t (K.Symbol S.Comma) ts h (listing k' from u behind us' path' name' earlier' due named opened stop others) spelled =
      listing k from u behind ts path name (e ∷ earlier) due named opened stop (λ es rest x. others (T.ExprThen e es) rest (G.more us (t ∷ ts) ts rest t e es spelled (record { is = refl; of_kind = h }) x))
  listing_sound path name earlier k us e m t (K.Symbol S.CloseParenthesis) ts h (listing k' from u behind us' path' name' earlier' due named opened stop others) spelled =
      let es = exprs_with (e ∷ earlier) T.NoExpr in
      let last = G.one us (t ∷ ts) e spelled (kind_not t ts (K.Symbol S.CloseParenthesis) (K.Symbol S.Comma) h (λ x. cc x)) in
      record {
        from = from;
        after = u ∷ behind;
        due = due;
        named = named;
        arguments = G.listed (u ∷ behind) behind (t ∷ ts) ts u t es (record { is = refl; of_kind = opened }) stop (others (T.ExprThen e T.NoExpr) (t ∷ ts) last) (record { is = refl; of_kind = h });
      }
  listing_sound path name earlier k us e m t _ ts h due spelled = tt

  closed_sound : (k : List Frame) (us : List Token) (e : T.Expr) (m : Marks) (t : Token) (kind : Kind) (ts : List Token) (n : ℕ) → t.kind ≡ kind → infix_of kind ≡ None → Due k us → Part n us e (t ∷ ts) → n ≤ 6 → Low n k → Settled None k → StepOk (closed k e kind m) t ts
  closed_sound [] us e m t kind ts n h none due p most low settled =
      whole_good us e (t ∷ ts) due (finished us e (t ∷ ts) n p most (ap infix_of h ∙ none))
  closed_sound (Before op q ∷ k) us e m t kind ts n h none due p most low settled = absurd settled
  closed_sound (Between op left ∷ k) us e m t kind ts n h none due p most low settled = absurd settled
  closed_sound (Group q ∷ k) us e m t kind ts n h none due p most low settled =
      group_sound q k us e m t kind ts h due (finished us e (t ∷ ts) n p most (ap infix_of h ∙ none))
  closed_sound (Listing path name es ∷ k) us e m t kind ts n h none due p most low settled =
      listing_sound path name es k us e m t kind ts h due (finished us e (t ∷ ts) n p most (ap infix_of h ∙ none))
  closed_sound (Alone ∷ k) us e m t kind ts n h none due p most low settled = alone_good k us e (t ∷ ts) n due p low

  pushed_sound : (op : InfixOp) (k : List Frame) (us : List Token) (e : T.Expr) (t : Token) (kind : Kind) (ts : List Token) (n : ℕ) → t.kind ≡ kind → infix_of kind ≡ Some op → Due k us → Stays (level_of op) k → Part n us e (t ∷ ts) → n ≤ suc (level_of op) → Due (Between op e ∷ k) ts
  pushed_sound op k us e t kind ts n h some due stays p w =
      let is = ap infix_of h ∙ some in
      let number = numbered t.kind op is in
      let eq : suc (level_of op) ≡ (suc (level_of op) - n) + n = omega (arith, w) in
      let most : suc (level_of op) ≤ 6 = omega (arith, number.most) in
      let q = quiet_some (Some t.kind) op (level_of op) is (omega arith) in
      operated k us t ts op e due stays (part_reach (suc (level_of op) - n) n (suc (level_of op)) us e (t ∷ ts) eq most p (λ l r. q l (omega (arith, r)))) number

  operator_sound : (op : InfixOp) (k : List Frame) (us : List Token) (e : T.Expr) (m : Marks) (t : Token) (kind : Kind) (ts : List Token) (n : ℕ) → t.kind ≡ kind → infix_of kind ≡ Some op → Due k us → Part n us e (t ∷ ts) → Low n k → n ≤ suc (level_of op) → Settled (Some op) k → StepOk (behind_operand (Some op) k e kind m) t ts
  operator_sound op [] us e m t kind ts n h some due p low w settled = pushed_sound op [] us e t kind ts n h some due tt p w
  operator_sound op (Before o q ∷ k) us e m t kind ts n h some due p low w settled = absurd settled
  operator_sound op (Between o left ∷ k) us e m t kind ts n h some due p low w settled =
      pushed_sound op (Between o left ∷ k) us e t kind ts n h some due settled p w
  operator_sound op (Group q ∷ k) us e m t kind ts n h some due p low w settled =
      pushed_sound op (Group q ∷ k) us e t kind ts n h some due tt p w
  operator_sound op (Listing path name es ∷ k) us e m t kind ts n h some due p low w settled =
      pushed_sound op (Listing path name es ∷ k) us e t kind ts n h some due tt p w
  operator_sound op (Alone ∷ k) us e m t kind ts n h some due p low w settled = alone_good k us e (t ∷ ts) n due p low

  behind_sound : (o : Option InfixOp) (c : List Frame × T.Expr) (m : Marks) (t : Token) (kind : Kind) (ts : List Token) → t.kind ≡ kind → infix_of kind ≡ o → Climbed o c (t ∷ ts) → StepOk (behind_operand o c.0 c.1 kind m) t ts
  behind_sound None c m t kind ts h next a =
      closed_sound c.0 a.from c.1 m t kind ts a.number h next a.due a.part a.most a.low a.settled
  behind_sound (Some op) c m t kind ts h next a =
      operator_sound op c.0 a.from c.1 m t kind ts a.number h next a.due a.part a.low a.within a.settled

  operand_read_sound : (e : T.Expr) (k : List Frame) (m : Marks) (t : Token) (kind : Kind) (ts : List Token) → t.kind ≡ kind → OperandAt e k (t ∷ ts) → StepOk (operand_read e k m kind) t ts
  operand_read_sound e k m t kind ts h a =
      let c = climb_sound (t ∷ ts) (infix_of kind) (ap infix_of h) k a.from e 0 a.due a.spelled (omega arith) (low_zero k) (within_zero (infix_of kind)) in
      behind_sound (infix_of kind) (climbed (infix_of kind) k e) m t kind ts h refl c

  -- ---- references

  name_takes : (path : Path) (name : T.Name) (us ts : List Token) (a : T.Arguments) (rest : List Token) (f : T.Name → T.Qualified) (named : Named path name us ts) → SpellsQualified s named.front (f (name_at s named.token named.word)) rest → SpellsQualified s named.front (f name) rest
  name_takes path name us ts a rest f named x = subst (λ n. SpellsQualified s named.front (f n) rest) (sym named.is) x

  last_spelled : (path : Path) (name : T.Name) (a : T.Arguments) (us after ts : List Token) (named : Named path name us after) → SpellsArguments s after a ts → next_kind ts ≢ Some (K.Symbol S.Point) → SpellsQualified s named.front (T.Last name a) ts
  last_spelled path name a us after ts named args stop =
      name_takes path name us after a ts (λ n. T.Last n a) named (G.last named.front after ts named.token named.word a named.take args stop)

  reference_end : (path : Path) (name : T.Name) (a : T.Arguments) (k : List Frame) (ts : List Token) → ArgumentsAt path name a k ts → next_kind ts ≢ Some (K.Symbol S.Point) → next_kind ts ≢ Some (K.Symbol S.Arrow) → OperandAt (T.Refers (referred path name a)) k ts
  reference_end path name a k ts x point arrow =
      let q = last_spelled path name a x.from x.after ts x.named x.arguments point in
      let r = x.named.before (T.Last name a) ts (referred path name a) ts q (G.no_arrow (referred path name a) ts arrow) in
      record { from = x.from; due = x.due; spelled = G.primary x.from ts (T.Refers (referred path name a)) (G.reference x.from ts (referred path name a) r) }

  arguments_sound : (path : Path) (name : T.Name) (a : T.Arguments) (k : List Frame) (m : Marks) (t : Token) (kind : Kind) (ts : List Token) → t.kind ≡ kind → ArgumentsAt path name a k (t ∷ ts) → StepOk (arguments_read path name a k m kind) t ts
  arguments_sound path name a k m t (K.Symbol S.Point) ts h x =
      let dot : Takes (t ∷ ts) (K.Symbol S.Point) t ts = record { is = refl; of_kind = h } in
      record {
        from = x.from;
        due = x.due;
        before = λ q mid r rest target arrows. x.named.before (T.Of name a q) mid r rest (name_takes path name x.from x.after a mid (λ n. T.Of n a q) x.named (G.of x.named.front x.after (t ∷ ts) ts mid x.named.token t x.named.word a q x.named.take x.arguments dot target)) arrows;
      }
  arguments_sound path name a k m t (K.Symbol S.Arrow) ts h x =
      let take : Takes (t ∷ ts) (K.Symbol S.Arrow) t ts = record { is = refl; of_kind = h } in
      let last = last_spelled path name a x.from x.after (t ∷ ts) x.named x.arguments (kind_not t ts (K.Symbol S.Arrow) (K.Symbol S.Point) h (λ e. cc e)) in
      record {
        from = x.from;
        due = x.due;
        before = λ q mid r rest target arrows. x.named.before (T.Last name a) (t ∷ ts) r rest last (G.arrow (referred path name a) r (t ∷ ts) ts mid rest t q take target arrows);
      }
  arguments_sound path name a k m t kind ts h x =
      operand_read_sound (T.Refers (referred path name a)) k m t kind ts h (reference_end path name a k (t ∷ ts) x (kind_not t ts kind (K.Symbol S.Point) h (λ e. cc e)) (kind_not t ts kind (K.Symbol S.Arrow) h (λ e. cc e)))

  absent_at : (path : Path) (name : T.Name) (k : List Frame) (ts : List Token) → NameAt path name k ts → next_kind ts ≢ Some (K.Symbol S.OpenParenthesis) → ArgumentsAt path name T.Absent k ts
  absent_at path name k ts x n =
      record { from = x.from; after = ts; due = x.due; named = x.named; arguments = G.absent ts n }

  name_sound : (path : Path) (name : T.Name) (k : List Frame) (m : Marks) (t : Token) (kind : Kind) (ts : List Token) → t.kind ≡ kind → NameAt path name k (t ∷ ts) → StepOk (name_read path name k m kind) t ts
  name_sound path name k m t (K.Symbol S.OpenParenthesis) ts h x =
      record { from = x.from; opener = t; due = x.due; named = x.named; opened = h }
  name_sound path name k m t kind ts h x =
      arguments_sound path name T.Absent k m t kind ts h (absent_at path name k (t ∷ ts) x (kind_not t ts kind (K.Symbol S.OpenParenthesis) h (λ e. cc e)))

  -- ---- where something is due

  text_case : (t : Token) (ts : List Token) (k : List Frame) (m : Marks) (o : Option (List ℕ)) → t.kind ≡ K.Text → text_of (slice_range s t.start t.end) ≡ o → Due k (t ∷ ts) → StepOk (text_due o (place_of t) k m) t ts
  text_case t ts k m None h e due = tt
  text_case t ts k m (Some v) h e due =
      record { from = t ∷ ts; due = due; spelled = G.primary (t ∷ ts) ts (T.Text v (place_of t)) (G.text (t ∷ ts) ts t v (record { is = refl; of_kind = h }) (text_sound (slice_range s t.start t.end) v e)) }

  operand_sound : (k : List Frame) (m : Marks) (t : Token) (kind : Kind) (ts : List Token) → t.kind ≡ kind → Due k (t ∷ ts) → StepOk (operand_due s k m t kind) t ts
  operand_sound k m t (K.Number n) ts h due =
      record { from = t ∷ ts; due = due; spelled = G.primary (t ∷ ts) ts (T.Number n (place_of t)) (G.number (t ∷ ts) ts t n (record { is = refl; of_kind = h })) }
  operand_sound k m t K.Text ts h due = text_case t ts k m (text_of (slice_range s t.start t.end)) h refl due
  operand_sound k m t (K.Bit b) ts h due =
      record { from = t ∷ ts; due = due; spelled = G.primary (t ∷ ts) ts (T.Bit b (place_of t)) (G.bit (t ∷ ts) ts t b (record { is = refl; of_kind = h })) }
  operand_sound k m t (K.Name word) ts h due =
      record { from = t ∷ ts; due = due; named = record { front = t ∷ ts; token = t; word = word; take = record { is = refl; of_kind = h }; is = refl; before = λ q mid r rest target arrows. G.basic (t ∷ ts) mid rest q r target arrows } }
  operand_sound k m t (K.Symbol S.OpenParenthesis) ts h due = grouped k t ts due h
  operand_sound k m t (K.Symbol S.Plus) ts h due = prefixed k t ts P.Plus due (ap (λ u. prefix_op (Some u)) h)
  operand_sound k m t (K.Symbol S.Minus) ts h due = prefixed k t ts P.Minus due (ap (λ u. prefix_op (Some u)) h)
  operand_sound k m t (K.Symbol S.Not) ts h due = prefixed k t ts P.Not due (ap (λ u. prefix_op (Some u)) h)
  operand_sound k m t _ ts h due = tt

  listing_start : (path : Path) (name : T.Name) (k : List Frame) (ts : List Token) → FirstAt path name k ts → next_kind ts ≢ Some (K.Symbol S.CloseParenthesis) → Due (Listing path name [] ∷ k) ts
  listing_start path name k ts x stop =
      listing k x.from x.opener ts ts path name [] x.due x.named x.opened stop (λ es rest y. y)

  first_sound : (path : Path) (name : T.Name) (k : List Frame) (m : Marks) (t : Token) (kind : Kind) (ts : List Token) → t.kind ≡ kind → FirstAt path name k (t ∷ ts) → StepOk (first_due s path name k m t kind) t ts
  first_sound path name k m t (K.Symbol S.CloseParenthesis) ts h x =
      record { from = x.from; after = x.opener ∷ t ∷ ts; due = x.due; named = x.named; arguments = G.empty (x.opener ∷ t ∷ ts) (t ∷ ts) ts x.opener t (record { is = refl; of_kind = x.opened }) (record { is = refl; of_kind = h }) }
  first_sound path name k m t kind ts h x =
      operand_sound (Listing path name [] ∷ k) (argument (place_of t) m) t kind ts h (listing_start path name k (t ∷ ts) x (kind_not t ts kind (K.Symbol S.CloseParenthesis) h (λ e. cc e)))

  name_due_sound : (path : Path) (k : List Frame) (m : Marks) (t : Token) (kind : Kind) (ts : List Token) → t.kind ≡ kind → PathAt path k (t ∷ ts) → StepOk (name_due s path k m t kind) t ts
  name_due_sound path k m t (K.Name word) ts h x =
      record { from = x.from; due = x.due; named = record { front = t ∷ ts; token = t; word = word; take = record { is = refl; of_kind = h }; is = refl; before = x.before } }
  name_due_sound path k m t _ ts h x = tt

  step_sound : (state : State) (k : List Frame) (m : Marks) (t : Token) (ts : List Token) → At state k (t ∷ ts) → StepOk (step s state k m t t.kind) t ts
  step_sound OperandDue k m t ts a = operand_sound k m t t.kind ts refl a
  step_sound ArgumentDue k m t ts a = operand_sound k (argument (place_of t) m) t t.kind ts refl a
  step_sound (FirstDue path name) k m t ts a = first_sound path name k m t t.kind ts refl a
  step_sound (NameDue path) k m t ts a = name_due_sound path k m t t.kind ts refl a
  step_sound (NameRead path name) k m t ts a = name_sound path name k m t t.kind ts refl a
  step_sound (ArgumentsRead path name args) k m t ts a = arguments_sound path name args k m t t.kind ts refl a
  step_sound (OperandRead e) k m t ts a = operand_read_sound e k m t t.kind ts refl a

  -- ---- all tokens

  whole_case : (k : List Frame) (e : T.Expr) (m : Marks) (x : T.Expr × Cursor) → Climbed None (k, e) [] → whole (k, e) m ≡ Ok x → Good x.0 x.1.tokens
  whole_case [] e m x c h =
      let v : (e, record { tokens = []; marks = m }) ≡ x = cc h in
      subst (λ u. Good u.0 u.1.tokens) v (whole_good c.from e [] c.due (finished c.from e [] c.number c.part c.most refl))
  whole_case (Before op p ∷ k) e m x c h = absurd (cc h)
  whole_case (Between op left ∷ k) e m x c h = absurd (cc h)
  whole_case (Group p ∷ k) e m x c h = absurd (cc h)
  whole_case (Listing path name es ∷ k) e m x c h = absurd (cc h)
  whole_case (Alone ∷ k) e m x c h =
      let v : (e, record { tokens = []; marks = m }) ≡ x = cc h in
      subst (λ u. Good u.0 u.1.tokens) v (alone_good k c.from e [] c.number c.due c.part c.low)

  whole_sound : (e : T.Expr) (k : List Frame) (m : Marks) (x : T.Expr × Cursor) → OperandAt e k [] → whole (climbed None k e) m ≡ Ok x → Good x.0 x.1.tokens
  whole_sound e k m x a h =
      whole_case (climbed None k e).0 (climbed None k e).1 m x (climb_sound [] None refl k a.from e 0 a.due a.spelled (omega arith) (low_zero k) tt) h

  ended_sound : (state : State) (k : List Frame) (m : Marks) (x : T.Expr × Cursor) → At state k [] → ended state k m ≡ Ok x → Good x.0 x.1.tokens
  ended_sound (NameRead path name) k m x a h =
      whole_sound (T.Refers (referred path name T.Absent)) k m x (reference_end path name T.Absent k [] (absent_at path name k [] a (λ e. cc e)) (λ e. cc e) (λ e. cc e)) h
  ended_sound (ArgumentsRead path name args) k m x a h =
      whole_sound (T.Refers (referred path name args)) k m x (reference_end path name args k [] a (λ e. cc e) (λ e. cc e)) h
  ended_sound (OperandRead e) k m x a h = whole_sound e k m x a h
  ended_sound _ k m x a h = absurd (cc h)

  follow_sound : (z : Step) (t : Token) (ts : List Token) (x : T.Expr × Cursor) → StepOk z t ts → ((state : State) (k : List Frame) (m : Marks) → At state k ts → run s state k m ts ≡ Ok x → Good x.0 x.1.tokens) → follow (λ state k m. run s state k m ts) z t ts ≡ Ok x → Good x.0 x.1.tokens
  follow_sound (On state k m) t ts x a more h = more state k m a h
  follow_sound (Ends e m) t ts x a more h =
      let v : (e, record { tokens = t ∷ ts; marks = m }) ≡ x = cc h in
      subst (λ u. Good u.0 u.1.tokens) v a
  follow_sound Fails t ts x a more h = absurd (cc h)

  pub run_sound : (ts : List Token) (state : State) (k : List Frame) (m : Marks) (x : T.Expr × Cursor) → At state k ts → run s state k m ts ≡ Ok x → Good x.0 x.1.tokens
  unfolding run
  run_sound [] state k m x a h = ended_sound state k m x a h
  run_sound (t ∷ ts) state k m x a h =
      follow_sound (step s state k m t t.kind) t ts x (step_sound state k m t ts a) (λ st fs ms b e. run_sound ts st fs ms x b e) h
