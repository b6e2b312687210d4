-- What reading tells of the beginnings of expressions and references, as they are read token by token.
use Rattle.std.specs.Prelude.{⊤, if◌then◌else◌, slice_range, not, ◌||◌, IsTrue}
use Rattle.std.specs.List.{list_all}
use Rattle.std.proofs.Common.{◌≡◌, ◌≢◌, ◌⊎◌, inl, inr, ℕ, List, [], ◌∷◌, ◌++◌, Option, Some, None, Bool, true, false, Ok, refl, sym, ap, ◌∙◌, subst}
use Rattle.pli_language.specs.declared.token.Word.TheVariants as W
use Rattle.pli_language.specs.declared.token.Symbol.TheVariants as S
use Rattle.pli_language.specs.declared.token.Kind.{Kind}
use Rattle.pli_language.specs.declared.token.Kind.TheVariants as K
use Rattle.pli_language.specs.declared.token.Token.{Token}
use Rattle.pli_language.specs.declared.expr.Place.{Place}
use Rattle.pli_language.specs.declared.expr.PrefixOp.{PrefixOp}
use Rattle.pli_language.specs.declared.expr.InfixOp.{InfixOp}
use Rattle.pli_language.specs.Spells.{next_kind, place_of, name_at}
use Rattle.pli_language.specs.Marks.{Marks, argument}
use Rattle.pli_language.specs.Tree as T
use Rattle.pli_phrase.specs.Cursor.{Cursor}
use Rattle.pli_phrase.specs.Tokens.{is_terminal, text_of}
use Rattle.pli_phrase.specs.Reading.{infix_of, prefix_of, climbs, climbed, Frame, Before, Between, Group, Listing, Alone, State, OperandDue, ArgumentDue, FirstDue, NameDue, NameRead, ArgumentsRead, OperandRead, Path, referred, exprs_with, Step, On, Ends, Fails, closed, behind_operand, operand_read, arguments_read, name_read, text_due, prefix_due, operand_due, first_due, name_due, step, whole, ended, follow, run}
use Rattle.pli_phrase.proofs.Operators.{infix_next}
use Rattle.pli_phrase.proofs.Runs.{run_step, run_climbed, run_prefixed, run_absent, run_referred, run_ends, run_empty}
use Rattle.pli_phrase.proofs.Prefixes.{Stays, Open, Allows, made, open_stays}

-- ---- what may stand behind

abbrev pub stops_reference : Option Kind → Bool
stops_reference (Some (K.Symbol S.OpenParenthesis)) = false
stops_reference (Some (K.Symbol S.Point)) = false
stops_reference (Some (K.Symbol S.Arrow)) = false
stops_reference _ = true

abbrev pub stops_expr : Option Kind → Bool
stops_expr (Some (K.Symbol S.OpenParenthesis)) = false
stops_expr (Some (K.Symbol S.Point)) = false
stops_expr (Some (K.Symbol S.Arrow)) = false
stops_expr (Some (K.Symbol S.Times)) = false
stops_expr (Some (K.Symbol S.Divide)) = false
stops_expr (Some (K.Symbol S.Plus)) = false
stops_expr (Some (K.Symbol S.Minus)) = false
stops_expr (Some (K.Symbol S.Join)) = false
stops_expr (Some (K.Symbol S.Equal)) = false
stops_expr (Some (K.Symbol S.NotEqual)) = false
stops_expr (Some (K.Symbol S.Less)) = false
stops_expr (Some (K.Symbol S.Greater)) = false
stops_expr (Some (K.Symbol S.LessOrEqual)) = false
stops_expr (Some (K.Symbol S.GreaterOrEqual)) = false
stops_expr (Some (K.Symbol S.And)) = false
stops_expr (Some (K.Symbol S.Or)) = false
stops_expr _ = true

pub stops_weaker : (o : Option Kind) → stops_expr o ≡ true → stops_reference o ≡ true
stops_weaker (Some (K.Symbol S.OpenParenthesis)) e = absurd (cc e)
stops_weaker (Some (K.Symbol S.Point)) e = absurd (cc e)
stops_weaker (Some (K.Symbol S.Arrow)) e = absurd (cc e)
stops_weaker _ e = refl

stops_infix : (o : Option Kind) → stops_expr o ≡ true → infix_next o ≡ None
stops_infix None e = refl
stops_infix (Some (K.Symbol S.Times)) e = absurd (cc e)
stops_infix (Some (K.Symbol S.Divide)) e = absurd (cc e)
stops_infix (Some (K.Symbol S.Plus)) e = absurd (cc e)
stops_infix (Some (K.Symbol S.Minus)) e = absurd (cc e)
stops_infix (Some (K.Symbol S.Join)) e = absurd (cc e)
stops_infix (Some (K.Symbol S.Equal)) e = absurd (cc e)
stops_infix (Some (K.Symbol S.NotEqual)) e = absurd (cc e)
stops_infix (Some (K.Symbol S.Less)) e = absurd (cc e)
stops_infix (Some (K.Symbol S.Greater)) e = absurd (cc e)
stops_infix (Some (K.Symbol S.LessOrEqual)) e = absurd (cc e)
stops_infix (Some (K.Symbol S.GreaterOrEqual)) e = absurd (cc e)
stops_infix (Some (K.Symbol S.And)) e = absurd (cc e)
stops_infix (Some (K.Symbol S.Or)) e = absurd (cc e)
stops_infix (Some _) e = refl

-- what may stand behind a reference that is read alone, or behind an expression
abbrev pub stops : Bool → Option Kind → Bool
stops true o = stops_reference o
stops false o = stops_expr o

stops_any : (alone : Bool) (o : Option Kind) → stops alone o ≡ true → stops_reference o ≡ true
stops_any true o e = e
stops_any false o e = stops_weaker o e

stops_not : (o : Option Kind) (k : Kind) → stops_reference (Some k) ≡ false → stops_reference o ≡ true → o ≢ Some k
stops_not o k e h i = let c : true ≡ false = sym h ∙ ap stops_reference i ∙ e in cc c

-- ---- the frames of a run

-- frames in which an operand is read; a reference that is read alone has nothing else around it than lists of arguments have
abbrev pub Inner : Bool → List Frame → Type 0
Inner alone [] = alone ≡ false
Inner alone (Before op p ∷ k) = Inner alone k
Inner alone (Between op left ∷ k) = Inner alone k
Inner alone (Group p ∷ k) = Inner alone k
Inner alone (Listing path name es ∷ k) = ((alone ≡ true) × (k ≡ Alone ∷ [])) ⊎ Inner alone k
Inner alone (Alone ∷ k) = ⊥

-- frames in which a reference is read
abbrev pub Outer : Bool → List Frame → Type 0
Outer alone k = ((alone ≡ true) × (k ≡ Alone ∷ [])) ⊎ Inner alone k

abbrev pub At : Bool → State → List Frame → Type 0
At alone OperandDue k = Inner alone k
At alone ArgumentDue k = Inner alone k
At alone (FirstDue path name) k = Outer alone k
At alone (NameDue path) k = Outer alone k
At alone (NameRead path name) k = Outer alone k
At alone (ArgumentsRead path name a) k = Outer alone k
At alone (OperandRead e) k = Inner alone k

-- alone a reference is read
abbrev pub Given : Bool → T.Expr → Type 0
Given true e = (r : T.Reference) × (e ≡ T.Refers r)
Given false e = ⊤

given_expr : (alone : Bool) (e : T.Expr) → alone ≡ false → Given alone e
given_expr alone e i = subst (λ b. Given b e) (sym i) tt

given_reference : (alone : Bool) (r : T.Reference) → alone ≡ true → Given alone (T.Refers r)
given_reference alone r i = subst (λ b. Given b (T.Refers r)) (sym i) (r, refl)

abbrev pub StepAt : Bool → Step → Type 0
StepAt alone (On state k m) = At alone state k
StepAt alone (Ends e m) = Given alone e
StepAt alone Fails = ⊤

-- a token that is no THEN and no `=`
abbrev pub is_plain : Token → Bool
is_plain t = not (is_terminal (K.Name W.Then) t.kind || is_terminal (K.Symbol S.Equal) t.kind)

-- the rest is a suffix
abbrev pub Rest : List Token → List Token → Type 0
Rest ts rest = (front : List Token) × (ts ≡ front ++ rest)

module _ (s : List ℕ) (alone : Bool) where
  climbed_inner : (o : Option InfixOp) (k : List Frame) (e : T.Expr) → Inner alone k → Inner alone (climbed o k e).0
  climbed_inner o [] e i = i
  climbed_inner o (Before op p ∷ k) e i = climbed_inner o k (T.Prefix op e p) i
  climbed_inner o (Between op left ∷ k) e i = climbed_by (climbs o op) (climbed_inner o k (T.Infix op left e) i)
    where
      climbed_by : (b : Bool) → Inner alone (climbed o k (T.Infix op left e)).0 → Inner alone (if b then climbed o k (T.Infix op left e) else (Between op left ∷ k, e)).0
      climbed_by true h = h
      climbed_by false h = i
  climbed_inner o (Group p ∷ k) e i = i
  climbed_inner o (Listing path name es ∷ k) e i = i
  climbed_inner o (Alone ∷ k) e i = absurd i

  closed_at : (k : List Frame) (e : T.Expr) (kind : Kind) (m : Marks) → Inner alone k → StepAt alone (closed k e kind m)
  closed_at [] e kind m i = given_expr alone e i
  closed_at (Before op p ∷ k) e kind m i = tt
  closed_at (Between op left ∷ k) e kind m i = tt
  closed_at (Group p ∷ k) e (K.Symbol S.CloseParenthesis) m i = i
  closed_at (Group p ∷ k) e _ m i = tt
  closed_at (Listing path name es ∷ k) e (K.Symbol S.Comma) m i = i
  closed_at (Listing path name es ∷ k) e (K.Symbol S.CloseParenthesis) m i = i
  closed_at (Listing path name es ∷ k) e _ m i = tt
  closed_at (Alone ∷ k) e kind m i = absurd i

  behind_at : (o : Option InfixOp) (k : List Frame) (e : T.Expr) (kind : Kind) (m : Marks) → Inner alone k → StepAt alone (behind_operand o k e kind m)
  behind_at None k e kind m i = closed_at k e kind m i
  behind_at (Some op) [] e kind m i = i
  behind_at (Some op) (Before o p ∷ k) e kind m i = i
  behind_at (Some op) (Between o left ∷ k) e kind m i = i
  behind_at (Some op) (Group p ∷ k) e kind m i = i
  behind_at (Some op) (Listing path name es ∷ k) e kind m i = i
  behind_at (Some op) (Alone ∷ k) e kind m i = absurd i

  operand_read_at : (e : T.Expr) (k : List Frame) (m : Marks) (kind : Kind) → Inner alone k → StepAt alone (operand_read e k m kind)
  operand_read_at e k m kind i =
      behind_at (infix_of kind) (climbed (infix_of kind) k e).0 (climbed (infix_of kind) k e).1 kind m (climbed_inner (infix_of kind) k e i)

  alone_ends : (o : Option InfixOp) (e : T.Expr) (kind : Kind) (m : Marks) → behind_operand o (Alone ∷ []) e kind m ≡ Ends e m
  alone_ends None e kind m = refl
  alone_ends (Some op) e kind m = refl

  referred_at : (r : T.Reference) (k : List Frame) (m : Marks) (kind : Kind) → Outer alone k → StepAt alone (operand_read (T.Refers r) k m kind)
  referred_at r k m kind (inl x) =
      subst (λ u. StepAt alone (operand_read (T.Refers r) u m kind)) (sym x.1) (subst (StepAt alone) (sym (alone_ends (infix_of kind) (T.Refers r) kind m)) (given_reference alone r x.0))
  referred_at r k m kind (inr i) = operand_read_at (T.Refers r) k m kind i

  arguments_at : (path : Path) (name : T.Name) (a : T.Arguments) (k : List Frame) (m : Marks) (kind : Kind) → Outer alone k → StepAt alone (arguments_read path name a k m kind)
  arguments_at path name a k m (K.Symbol S.Point) i = i
  arguments_at path name a k m (K.Symbol S.Arrow) i = i
  arguments_at path name a k m kind i = referred_at (referred path name a) k m kind i

  name_read_at : (path : Path) (name : T.Name) (k : List Frame) (m : Marks) (kind : Kind) → Outer alone k → StepAt alone (name_read path name k m kind)
  name_read_at path name k m (K.Symbol S.OpenParenthesis) i = i
  name_read_at path name k m kind i = arguments_at path name T.Absent k m kind i

  text_at : (o : Option (List ℕ)) (p : Place) (k : List Frame) (m : Marks) → Inner alone k → StepAt alone (text_due o p k m)
  text_at None p k m i = tt
  text_at (Some v) p k m i = i

  prefix_at : (o : Option PrefixOp) (p : Place) (k : List Frame) (m : Marks) → Inner alone k → StepAt alone (prefix_due o p k m)
  prefix_at None p k m i = tt
  prefix_at (Some op) p k m i = i

  operand_at : (k : List Frame) (m : Marks) (t : Token) (kind : Kind) → Inner alone k → StepAt alone (operand_due s k m t kind)
  operand_at k m t (K.Number n) i = i
  operand_at k m t K.Text i = text_at (text_of (slice_range s t.start t.end)) (place_of t) k m i
  operand_at k m t (K.Bit b) i = i
  operand_at k m t (K.Name word) i = inr i
  operand_at k m t (K.Symbol S.OpenParenthesis) i = i
  operand_at k m t (K.Symbol y) i = prefix_at (prefix_of (K.Symbol y)) (place_of t) k m i

  first_at : (path : Path) (name : T.Name) (k : List Frame) (m : Marks) (t : Token) (kind : Kind) → Outer alone k → StepAt alone (first_due s path name k m t kind)
  first_at path name k m t (K.Symbol S.CloseParenthesis) i = i
  first_at path name k m t kind i = operand_at (Listing path name [] ∷ k) (argument (place_of t) m) t kind i

  name_due_at : (path : Path) (k : List Frame) (m : Marks) (t : Token) (kind : Kind) → Outer alone k → StepAt alone (name_due s path k m t kind)
  name_due_at path k m t (K.Name word) i = i
  name_due_at path k m t _ i = tt

  step_at : (state : State) (k : List Frame) (m : Marks) (t : Token) (kind : Kind) → At alone state k → StepAt alone (step s state k m t kind)
  step_at OperandDue k m t kind i = operand_at k m t kind i
  step_at ArgumentDue k m t kind i = operand_at k (argument (place_of t) m) t kind i
  step_at (FirstDue path name) k m t kind i = first_at path name k m t kind i
  step_at (NameDue path) k m t kind i = name_due_at path k m t kind i
  step_at (NameRead path name) k m t kind i = name_read_at path name k m kind i
  step_at (ArgumentsRead path name a) k m t kind i = arguments_at path name a k m kind i
  step_at (OperandRead e) k m t kind i = operand_read_at e k m kind i

  -- ---- where the tokens end

  whole_open : (c : List Frame × T.Expr) (m : Marks) → Open (whole c m)
  whole_open ([], e) m = refl
  whole_open (Before op p ∷ k, e) m = tt
  whole_open (Between op left ∷ k, e) m = tt
  whole_open (Group p ∷ k, e) m = tt
  whole_open (Listing path name es ∷ k, e) m = tt
  whole_open (Alone ∷ k, e) m = refl

  pub ended_open : (state : State) (k : List Frame) (m : Marks) → Open (ended state k m)
  ended_open (NameRead path name) k m = whole_open (climbed None k (T.Refers (referred path name T.Absent))) m
  ended_open (ArgumentsRead path name a) k m = whole_open (climbed None k (T.Refers (referred path name a))) m
  ended_open (OperandRead e) k m = whole_open (climbed None k e) m
  ended_open OperandDue k m = tt
  ended_open ArgumentDue k m = tt
  ended_open (FirstDue path name) k m = tt
  ended_open (NameDue path) k m = tt

  whole_given : (c : List Frame × T.Expr) (m : Marks) (x : T.Expr × Cursor) → Inner alone c.0 → whole c m ≡ Ok x → Given alone x.0
  whole_given ([], e) m x i h =
      let same : (e, record { tokens = []; marks = m }) ≡ x = cc h in
      subst (λ u. Given alone u.0) same (given_expr alone e i)
  whole_given (Before op p ∷ k, e) m x i h = absurd (cc h)
  whole_given (Between op left ∷ k, e) m x i h = absurd (cc h)
  whole_given (Group p ∷ k, e) m x i h = absurd (cc h)
  whole_given (Listing path name es ∷ k, e) m x i h = absurd (cc h)
  whole_given (Alone ∷ k, e) m x i h = absurd i

  referred_given : (r : T.Reference) (k : List Frame) (m : Marks) (x : T.Expr × Cursor) → Outer alone k → whole (climbed None k (T.Refers r)) m ≡ Ok x → Given alone x.0
  referred_given r k m x (inl i) h = alone_given (subst (λ u. whole (climbed None u (T.Refers r)) m ≡ Ok x) i.1 h)
    where
      alone_given : whole (Alone ∷ [], T.Refers r) m ≡ Ok x → Given alone x.0
      alone_given h =
          let same : (T.Refers r, record { tokens = []; marks = m }) ≡ x = cc h in
          subst (λ u. Given alone u.0) same (given_reference alone r i.0)
  referred_given r k m x (inr i) h =
      whole_given (climbed None k (T.Refers r)) m x (climbed_inner None k (T.Refers r) i) h

  ended_given : (state : State) (k : List Frame) (m : Marks) (x : T.Expr × Cursor) → At alone state k → ended state k m ≡ Ok x → Given alone x.0
  ended_given (NameRead path name) k m x i h = referred_given (referred path name T.Absent) k m x i h
  ended_given (ArgumentsRead path name a) k m x i h = referred_given (referred path name a) k m x i h
  ended_given (OperandRead e) k m x i h = whole_given (climbed None k e) m x (climbed_inner None k e i) h
  ended_given _ k m x i h = absurd (cc h)

  -- ---- further tokens

  stays_follow : (z : Step) (t : Token) (ts more : List Token) → ((state : State) (k : List Frame) (m : Marks) → Stays more (run s state k m ts) (run s state k m (ts ++ more))) → Stays more (follow (λ state k m. run s state k m ts) z t ts) (follow (λ state k m. run s state k m (ts ++ more)) z t (ts ++ more))
  stays_follow (On state k m) t ts more on = on state k m
  stays_follow (Ends e m) t ts more on = inr refl
  stays_follow Fails t ts more on = refl

  pub stays_run : (ts more : List Token) (state : State) (k : List Frame) (m : Marks) → Stays more (run s state k m ts) (run s state k m (ts ++ more))
  unfolding run
  stays_run [] more state k m = open_stays more (ended state k m) (run s state k m more) (ended_open state k m)
  stays_run (t ∷ ts) more state k m =
      stays_follow (step s state k m t t.kind) t ts more (λ st fs ms. stays_run ts more st fs ms)

  given_follow : (z : Step) (t : Token) (ts : List Token) (x : T.Expr × Cursor) → StepAt alone z → ((state : State) (k : List Frame) (m : Marks) → At alone state k → run s state k m ts ≡ Ok x → Given alone x.0) → follow (λ state k m. run s state k m ts) z t ts ≡ Ok x → Given alone x.0
  given_follow (On state k m) t ts x a on h = on state k m a h
  given_follow (Ends e m) t ts x a on h =
      let same : (e, record { tokens = t ∷ ts; marks = m }) ≡ x = cc h in
      subst (λ u. Given alone u.0) same a
  given_follow Fails t ts x a on h = absurd (cc h)

  pub given_run : (ts : List Token) (state : State) (k : List Frame) (m : Marks) (x : T.Expr × Cursor) → At alone state k → run s state k m ts ≡ Ok x → Given alone x.0
  unfolding run
  given_run [] state k m x a h = ended_given state k m x a h
  given_run (t ∷ ts) state k m x a h =
      given_follow (step s state k m t t.kind) t ts x (step_at state k m t t.kind a) (λ st fs ms b e. given_run ts st fs ms x b e) h

  -- ---- what completes a run

  -- further tokens with which a run is done, whatever may stand behind them
  pub record Finish (state : State) (k : List Frame) (m : Marks) (more : List Token) : Type 0 where
    pub given : T.Expr
    pub marks : Marks
    pub is_given : Given alone given
    pub reads : (w : List Token) → Allows (stops alone) w → run s state k m (more ++ w) ≡ Ok (given, record { tokens = w; marks = marks })

  finish_as : (state state' : State) (k k' : List Frame) (m m' : Marks) (more more' : List Token) → ((w : List Token) → Allows (stops alone) w → run s state k m (more ++ w) ≡ run s state' k' m' (more' ++ w)) → Finish state' k' m' more' → Finish state k m more
  finish_as state state' k k' m m' more more' h f =
      record { given = f.given; marks = f.marks; is_given = f.is_given; reads = λ w a. h w a ∙ f.reads w a }

  run_finish : (e : T.Expr) (m : Marks) (w : List Token) → infix_next (next_kind w) ≡ None → run s (OperandRead e) [] m w ≡ Ok (e, record { tokens = w; marks = m })
  run_finish e m [] q = run_empty s (OperandRead e) [] m
  run_finish e m (t ∷ ts) q =
      run_ends s (OperandRead e) [] m m e t ts (ap (λ o. behind_operand o [] e t.kind m) q)

  run_alone : (e : T.Expr) (m : Marks) (w : List Token) → run s (OperandRead e) (Alone ∷ []) m w ≡ Ok (e, record { tokens = w; marks = m })
  run_alone e m [] = run_empty s (OperandRead e) (Alone ∷ []) m
  run_alone e m (t ∷ ts) = run_ends s (OperandRead e) (Alone ∷ []) m m e t ts (alone_ends (infix_of t.kind) e t.kind m)

  abbrev closer : Token
  closer = made (K.Symbol S.CloseParenthesis)

  -- the parentheses that are open
  abbrev closers : List Frame → List Token
  closers [] = []
  closers (Before op p ∷ k) = closers k
  closers (Between op left ∷ k) = closers k
  closers (Group p ∷ k) = closer ∷ closers k
  closers (Listing path name es ∷ k) = closer ∷ closers k
  closers (Alone ∷ k) = []

  inner_stops : (k : List Frame) (w : List Token) → Inner alone k → Allows (stops alone) w → stops_expr (next_kind (closers k ++ w)) ≡ true
  inner_stops [] w i f = subst (λ b. stops b (next_kind w) ≡ true) i f
  inner_stops (Before op p ∷ k) w i f = inner_stops k w i f
  inner_stops (Between op left ∷ k) w i f = inner_stops k w i f
  inner_stops (Group p ∷ k) w i f = refl
  inner_stops (Listing path name es ∷ k) w i f = refl
  inner_stops (Alone ∷ k) w i f = absurd i

  outer_stops : (k : List Frame) (w : List Token) → Outer alone k → Allows (stops alone) w → stops_reference (next_kind (closers k ++ w)) ≡ true
  outer_stops k w (inl x) f =
      subst (λ u. stops_reference (next_kind (closers u ++ w)) ≡ true) (sym x.1) (stops_any alone (next_kind w) f)
  outer_stops k w (inr i) f = stops_weaker (next_kind (closers k ++ w)) (inner_stops k w i f)

  alone_closes : (path : Path) (name : T.Name) (a : T.Arguments) (m : Marks) → alone ≡ true → Finish (ArgumentsRead path name a) (Alone ∷ []) m []
  alone_closes path name a m i =
      record {
        given = T.Refers (referred path name a);
        marks = m;
        is_given = given_reference alone (referred path name a) i;
        reads = λ w f. let h = stops_any alone (next_kind w) f in run_referred s path name a (Alone ∷ []) m w (stops_not (next_kind w) (K.Symbol S.Point) refl h) (stops_not (next_kind w) (K.Symbol S.Arrow) refl h) ∙ run_alone (T.Refers (referred path name a)) m w;
      }

  arguments_closes : (k : List Frame) (path : Path) (name : T.Name) (a : T.Arguments) (m : Marks) → Outer alone k → ((e : T.Expr) → Inner alone k → Finish (OperandRead e) k m (closers k)) → Finish (ArgumentsRead path name a) k m (closers k)
  arguments_closes k path name a m (inl x) on =
      subst (λ u. Finish (ArgumentsRead path name a) u m (closers u)) (sym x.1) (alone_closes path name a m x.0)
  arguments_closes k path name a m (inr i) on =
      finish_as (ArgumentsRead path name a) (OperandRead (T.Refers (referred path name a))) k k m m (closers k) (closers k) (λ w f. let h = outer_stops k w (inr i) f in run_referred s path name a k m (closers k ++ w) (stops_not (next_kind (closers k ++ w)) (K.Symbol S.Point) refl h) (stops_not (next_kind (closers k ++ w)) (K.Symbol S.Arrow) refl h)) (on (T.Refers (referred path name a)) i)

  operand_closes : (k : List Frame) (e : T.Expr) (m : Marks) → Inner alone k → Finish (OperandRead e) k m (closers k)
  operand_closes [] e m i =
      record { given = e; marks = m; is_given = given_expr alone e i; reads = λ w f. run_finish e m w (stops_infix (next_kind w) (inner_stops [] w i f)) }
  operand_closes (Before op p ∷ k) e m i =
      finish_as (OperandRead e) (OperandRead (T.Prefix op e p)) (Before op p ∷ k) k m m (closers k) (closers k) (λ w f. run_prefixed s op p e k m (closers k ++ w)) (operand_closes k (T.Prefix op e p) m i)
  operand_closes (Between op left ∷ k) e m i =
      finish_as (OperandRead e) (OperandRead (T.Infix op left e)) (Between op left ∷ k) k m m (closers k) (closers k) (λ w f. run_climbed s e (T.Infix op left e) (Between op left ∷ k) k m (closers k ++ w) (subst (λ o. climbed o (Between op left ∷ k) e ≡ climbed o k (T.Infix op left e)) (sym (stops_infix (next_kind (closers k ++ w)) (inner_stops k w i f))) refl)) (operand_closes k (T.Infix op left e) m i)
  operand_closes (Group p ∷ k) e m i =
      finish_as (OperandRead e) (OperandRead (T.Parenthesized e p)) (Group p ∷ k) k m m (closer ∷ closers k) (closers k) (λ w f. run_step s (OperandRead e) (OperandRead (T.Parenthesized e p)) (Group p ∷ k) k m m closer (closers k ++ w) refl) (operand_closes k (T.Parenthesized e p) m i)
  operand_closes (Listing path name es ∷ k) e m i =
      let a = T.Listed (exprs_with (e ∷ es) T.NoExpr) in
      finish_as (OperandRead e) (ArgumentsRead path name a) (Listing path name es ∷ k) k m m (closer ∷ closers k) (closers k) (λ w f. run_step s (OperandRead e) (ArgumentsRead path name a) (Listing path name es ∷ k) k m m closer (closers k ++ w) refl) (arguments_closes k path name a m i (λ e' j. operand_closes k e' m j))
  operand_closes (Alone ∷ k) e m i = absurd i

  name_closes : (k : List Frame) (path : Path) (name : T.Name) (m : Marks) → Outer alone k → Finish (NameRead path name) k m (closers k)
  name_closes k path name m i =
      finish_as (NameRead path name) (ArgumentsRead path name T.Absent) k k m m (closers k) (closers k) (λ w f. run_absent s path name k m (closers k ++ w) (stops_not (next_kind (closers k ++ w)) (K.Symbol S.OpenParenthesis) refl (outer_stops k w i f))) (arguments_closes k path name T.Absent m i (λ e j. operand_closes k e m j))

  abbrev least_number : Token
  least_number = made (K.Number 1)

  abbrev least_name : Token
  least_name = made (K.Name W.Other)

  -- the tokens that complete what is open
  abbrev pub more_of : State → List Frame → List Token
  more_of OperandDue k = least_number ∷ closers k
  more_of ArgumentDue k = least_number ∷ closers k
  more_of (FirstDue path name) k = closer ∷ closers k
  more_of (NameDue path) k = least_name ∷ closers k
  more_of (NameRead path name) k = closers k
  more_of (ArgumentsRead path name a) k = closers k
  more_of (OperandRead e) k = closers k

  closes_end : (state : State) (k : List Frame) (m : Marks) → At alone state k → Finish state k m (more_of state k)
  closes_end OperandDue k m i =
      let e = T.Number 1 (place_of least_number) in
      finish_as OperandDue (OperandRead e) k k m m (least_number ∷ closers k) (closers k) (λ w f. run_step s OperandDue (OperandRead e) k k m m least_number (closers k ++ w) refl) (operand_closes k e m i)
  closes_end ArgumentDue k m i =
      let e = T.Number 1 (place_of least_number) in
      let m' = argument (place_of least_number) m in
      finish_as ArgumentDue (OperandRead e) k k m m' (least_number ∷ closers k) (closers k) (λ w f. run_step s ArgumentDue (OperandRead e) k k m m' least_number (closers k ++ w) refl) (operand_closes k e m' i)
  closes_end (FirstDue path name) k m i =
      let a = T.Listed T.NoExpr in
      finish_as (FirstDue path name) (ArgumentsRead path name a) k k m m (closer ∷ closers k) (closers k) (λ w f. run_step s (FirstDue path name) (ArgumentsRead path name a) k k m m closer (closers k ++ w) refl) (arguments_closes k path name a m i (λ e j. operand_closes k e m j))
  closes_end (NameDue path) k m i =
      let n = name_at s least_name W.Other in
      finish_as (NameDue path) (NameRead path n) k k m m (least_name ∷ closers k) (closers k) (λ w f. run_step s (NameDue path) (NameRead path n) k k m m least_name (closers k ++ w) refl) (name_closes k path n m i)
  closes_end (NameRead path name) k m i = name_closes k path name m i
  closes_end (ArgumentsRead path name a) k m i = arguments_closes k path name a m i (λ e j. operand_closes k e m j)
  closes_end (OperandRead e) k m i = operand_closes k e m i

  closers_plain : (k : List Frame) → IsTrue (list_all is_plain (closers k))
  closers_plain [] = refl
  closers_plain (Before op p ∷ k) = closers_plain k
  closers_plain (Between op left ∷ k) = closers_plain k
  closers_plain (Group p ∷ k) = closers_plain k
  closers_plain (Listing path name es ∷ k) = closers_plain k
  closers_plain (Alone ∷ k) = refl

  more_plain : (state : State) (k : List Frame) → IsTrue (list_all is_plain (more_of state k))
  more_plain OperandDue k = closers_plain k
  more_plain ArgumentDue k = closers_plain k
  more_plain (FirstDue path name) k = closers_plain k
  more_plain (NameDue path) k = closers_plain k
  more_plain (NameRead path name) k = closers_plain k
  more_plain (ArgumentsRead path name a) k = closers_plain k
  more_plain (OperandRead e) k = closers_plain k

  -- tokens that complete a run
  pub record Ending (state : State) (k : List Frame) (m : Marks) (ts : List Token) : Type 0 where
    pub more : List Token
    pub given : T.Expr
    pub marks : Marks
    pub is_given : Given alone given
    pub plain : IsTrue (list_all is_plain more)
    pub leads : ts ≡ [] → more ≡ more_of state k
    pub reads : (w : List Token) → Allows (stops alone) w → run s state k m (ts ++ (more ++ w)) ≡ Ok (given, record { tokens = w; marks = marks })

  ending_follow : (state : State) (k : List Frame) (m : Marks) (t : Token) (ts : List Token) (z : Step) → step s state k m t t.kind ≡ z → StepAt alone z → ((state : State) (k : List Frame) (m : Marks) → At alone state k → Open (run s state k m ts) → Ending state k m ts) → Open (follow (λ state k m. run s state k m ts) z t ts) → Ending state k m (t ∷ ts)
  ending_follow state k m t ts (On st fs ms) e a on o =
      let x = on st fs ms a o in
      record {
        more = x.more;
        given = x.given;
        marks = x.marks;
        is_given = x.is_given;
        plain = x.plain;
        leads = λ n. absurd (cc n);
        reads = λ w f. run_step s state st k fs m ms t (ts ++ (x.more ++ w)) e ∙ x.reads w f;
      }
  ending_follow state k m t ts (Ends e' m') e a on o = absurd (cc o)
  ending_follow state k m t ts Fails e a on o = absurd o

  pub closes_run : (ts : List Token) (state : State) (k : List Frame) (m : Marks) → At alone state k → Open (run s state k m ts) → Ending state k m ts
  unfolding run
  closes_run [] state k m a o =
      let x = closes_end state k m a in
      record { more = more_of state k; given = x.given; marks = x.marks; is_given = x.is_given; plain = more_plain state k; leads = λ n. refl; reads = x.reads }
  closes_run (t ∷ ts) state k m a o =
      ending_follow state k m t ts (step s state k m t t.kind) refl (step_at state k m t t.kind a) (λ st fs ms b p. closes_run ts st fs ms b p) o

  -- ---- the rest is a suffix

  rest_follow : (z : Step) (t : Token) (ts : List Token) (x : T.Expr × Cursor) → ((state : State) (k : List Frame) (m : Marks) → run s state k m ts ≡ Ok x → Rest ts x.1.tokens) → follow (λ state k m. run s state k m ts) z t ts ≡ Ok x → Rest (t ∷ ts) x.1.tokens
  rest_follow (On state k m) t ts x on h = let r = on state k m h in (t ∷ r.0, ap (λ u. t ∷ u) r.1)
  rest_follow (Ends e m) t ts x on h =
      let same : (e, record { tokens = t ∷ ts; marks = m }) ≡ x = cc h in
      ([], ap (λ u. u.1.tokens) same)
  rest_follow Fails t ts x on h = absurd (cc h)

  pub rest_run : (ts : List Token) (state : State) (k : List Frame) (m : Marks) (x : T.Expr × Cursor) → run s state k m ts ≡ Ok x → Rest ts x.1.tokens
  unfolding run
  rest_run [] state k m x h = ([], sym (subst Open h (ended_open state k m)))
  rest_run (t ∷ ts) state k m x h =
      rest_follow (step s state k m t t.kind) t ts x (λ st fs ms e. rest_run ts st fs ms x e) h
