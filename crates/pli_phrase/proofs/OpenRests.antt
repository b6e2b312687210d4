-- Where the tokens end inside an expression, what stands behind it with more tokens is the end of these.
use Rattle.std.proofs.Common.{◌≡◌, ℕ, List, [], ◌∷◌, ◌++◌, Option, None, Ok, Err, refl, sym, ap, ◌∙◌, subst}
use Rattle.pli_language.specs.declared.token.Token.{Token}
use Rattle.pli_language.specs.Marks.{Marks}
use Rattle.pli_language.specs.Tree as T
use Rattle.pli_phrase.specs.Cursor.{Cursor, Missed, Stuck, Ended, LeavesOut, Read, ◌>>=◌}
use Rattle.pli_phrase.specs.Reading.{Frame, Before, Between, Group, Listing, Alone, State, OperandDue, ArgumentDue, FirstDue, NameDue, NameRead, ArgumentsRead, OperandRead, Step, On, Ends, Fails, climbed, referred, step, whole, ended, follow, run, expr_from, as_reference, reference_from, no_path}
use Rattle.pli_phrase.proofs.Prefixes.{longer, Open}

-- the tokens end with these
pub record EndsWith (ts rest : List Token) : Type 0 where
  pub front : List Token
  pub is : ts ≡ front ++ rest

read_rest : (e : T.Expr) (m : Marks) (y : T.Expr × Cursor) → (e, record { tokens = []; marks = m }) ≡ y → y.1.tokens ≡ []
read_rest e m y i = ap (λ u. u.1.tokens) (sym i)

whole_rest : (x : List Frame × T.Expr) (m : Marks) (y : T.Expr × Cursor) → whole x m ≡ Ok y → y.1.tokens ≡ []
whole_rest ([], e) m y i = read_rest e m y (cc i)
whole_rest (Alone ∷ k, e) m y i = read_rest e m y (cc i)
whole_rest (Before op p ∷ k, e) m y i = absurd (cc i)
whole_rest (Between op left ∷ k, e) m y i = absurd (cc i)
whole_rest (Group p ∷ k, e) m y i = absurd (cc i)
whole_rest (Listing path name es ∷ k, e) m y i = absurd (cc i)

ended_rest : (state : State) (k : List Frame) (m : Marks) (y : T.Expr × Cursor) → ended state k m ≡ Ok y → y.1.tokens ≡ []
ended_rest OperandDue k m y i = absurd (cc i)
ended_rest ArgumentDue k m y i = absurd (cc i)
ended_rest (FirstDue path name) k m y i = absurd (cc i)
ended_rest (NameDue path) k m y i = absurd (cc i)
ended_rest (NameRead path name) k m y i = whole_rest (climbed None k (T.Refers (referred path name T.Absent))) m y i
ended_rest (ArgumentsRead path name a) k m y i = whole_rest (climbed None k (T.Refers (referred path name a))) m y i
ended_rest (OperandRead e) k m y i = whole_rest (climbed None k e) m y i

module _ (s : List ℕ) where
  -- what a step comes to, with what is known of the reading behind it
  rest_by : (ts : List Token) (t : Token) (y : T.Expr × Cursor) → ((next : State) (frames : List Frame) (marks : Marks) → run s next frames marks ts ≡ Ok y → EndsWith ts y.1.tokens) → (u : Step) → follow (λ next frames marks. run s next frames marks ts) u t ts ≡ Ok y → EndsWith (t ∷ ts) y.1.tokens
  rest_by ts t y behind (On next frames marks) i =
      let h = behind next frames marks i in
      record { front = t ∷ h.front; is = ap (λ u. t ∷ u) h.is }
  rest_by ts t y behind (Ends e marks) i =
      let h : (e, record { tokens = t ∷ ts; marks = marks }) ≡ y = cc i in
      record { front = []; is = ap (λ u. u.1.tokens) h }
  rest_by ts t y behind Fails i = absurd (cc i)

  run_rest : (state : State) (k : List Frame) (m : Marks) (ts : List Token) (y : T.Expr × Cursor) → run s state k m ts ≡ Ok y → EndsWith ts y.1.tokens
  unfolding run
  run_rest state k m [] y i = record { front = []; is = sym (ended_rest state k m y i) }
  run_rest state k m (t ∷ ts) y i = rest_by ts t y (λ next frames marks j. run_rest next frames marks ts y j) (step s state k m t t.kind) i

  open_rest_by : (ts more : List Token) (t : Token) (y : T.Expr × Cursor) → ((next : State) (frames : List Frame) (marks : Marks) → Open (run s next frames marks ts) → run s next frames marks (ts ++ more) ≡ Ok y → EndsWith more y.1.tokens) → (u : Step) → Open (follow (λ next frames marks. run s next frames marks ts) u t ts) → follow (λ next frames marks. run s next frames marks (ts ++ more)) u t (ts ++ more) ≡ Ok y → EndsWith more y.1.tokens
  open_rest_by ts more t y behind (On next frames marks) o i = behind next frames marks o i
  open_rest_by ts more t y behind (Ends e marks) o i = absurd (cc o)
  open_rest_by ts more t y behind Fails o i = absurd o

  open_run_rest : (state : State) (k : List Frame) (m : Marks) (ts more : List Token) (y : T.Expr × Cursor) → Open (run s state k m ts) → run s state k m (ts ++ more) ≡ Ok y → EndsWith more y.1.tokens
  unfolding run
  open_run_rest state k m [] more y o i = run_rest state k m more y i
  open_run_rest state k m (t ∷ ts) more y o i = open_rest_by ts more t y (λ next frames marks p j. open_run_rest next frames marks ts more y p j) (step s state k m t t.kind) o i

  whole_never : (x : List Frame × T.Expr) (m : Marks) → whole x m ≡ Err Stuck → ⊥
  whole_never ([], e) m i = cc i
  whole_never (Alone ∷ k, e) m i = cc i
  whole_never (Before op p ∷ k, e) m i = cc i
  whole_never (Between op left ∷ k, e) m i = cc i
  whole_never (Group p ∷ k, e) m i = cc i
  whole_never (Listing path name es ∷ k, e) m i = cc i

  ended_never : (state : State) (k : List Frame) (m : Marks) → ended state k m ≡ Err Stuck → ⊥
  ended_never OperandDue k m i = cc i
  ended_never ArgumentDue k m i = cc i
  ended_never (FirstDue path name) k m i = cc i
  ended_never (NameDue path) k m i = cc i
  ended_never (NameRead path name) k m i = whole_never (climbed None k (T.Refers (referred path name T.Absent))) m i
  ended_never (ArgumentsRead path name a) k m i = whole_never (climbed None k (T.Refers (referred path name a))) m i
  ended_never (OperandRead e) k m i = whole_never (climbed None k e) m i

  stuck_by : (ts more : List Token) (t : Token) → ((next : State) (frames : List Frame) (marks : Marks) → run s next frames marks ts ≡ Err Stuck → run s next frames marks (ts ++ more) ≡ Err Stuck) → (u : Step) → follow (λ next frames marks. run s next frames marks ts) u t ts ≡ Err Stuck → follow (λ next frames marks. run s next frames marks (ts ++ more)) u t (ts ++ more) ≡ Err Stuck
  stuck_by ts more t behind (On next frames marks) i = behind next frames marks i
  stuck_by ts more t behind (Ends e marks) i = absurd (cc i)
  stuck_by ts more t behind Fails i = refl

  -- a run that is stuck stays so, whatever comes behind
  pub stuck_run : (state : State) (k : List Frame) (m : Marks) (ts more : List Token) → run s state k m ts ≡ Err Stuck → run s state k m (ts ++ more) ≡ Err Stuck
  unfolding run
  stuck_run state k m [] more i = absurd (ended_never state k m i)
  stuck_run state k m (t ∷ ts) more i = stuck_by ts more t (λ next frames marks j. stuck_run next frames marks ts more j) (step s state k m t t.kind) i

  pub open_expr_rest : (c : Cursor) (more : List Token) (y : T.Expr × Cursor) → Open (expr_from s c) → expr_from s (longer c more) ≡ Ok y → EndsWith more y.1.tokens
  unfolding expr_from
  open_expr_rest c more y o i = open_run_rest OperandDue [] c.marks c.tokens more y o i

  reference_of : (x : T.Expr × Cursor) (y : T.Reference × Cursor) → as_reference x ≡ Ok y → x.1.tokens ≡ y.1.tokens
  reference_of (T.Refers r, c) y i =
      let h : (r, c) ≡ y = cc i in
      ap (λ u. u.1.tokens) h
  reference_of (T.Number n p, c) y i = absurd (cc i)
  reference_of (T.Text v p, c) y i = absurd (cc i)
  reference_of (T.Bit b p, c) y i = absurd (cc i)
  reference_of (T.Parenthesized e p, c) y i = absurd (cc i)
  reference_of (T.Prefix op e p, c) y i = absurd (cc i)
  reference_of (T.Infix op l r, c) y i = absurd (cc i)

  open_as_reference : (r : Read T.Expr) → Open (r >>= λ x. as_reference x) → Open r
  open_as_reference (Ok (T.Refers r, c)) o = o
  open_as_reference (Ok (T.Number n p, c)) o = absurd o
  open_as_reference (Ok (T.Text v p, c)) o = absurd o
  open_as_reference (Ok (T.Bit b p, c)) o = absurd o
  open_as_reference (Ok (T.Parenthesized e p, c)) o = absurd o
  open_as_reference (Ok (T.Prefix op e p, c)) o = absurd o
  open_as_reference (Ok (T.Infix op l r, c)) o = absurd o
  open_as_reference (Err Ended) o = o
  open_as_reference (Err Stuck) o = o
  open_as_reference (Err (LeavesOut d)) o = o

  pub open_reference_rest : (c : Cursor) (more : List Token) (y : T.Reference × Cursor) → Open (reference_from s c) → reference_from s (longer c more) ≡ Ok y → EndsWith more y.1.tokens
  unfolding reference_from
  open_reference_rest c more y o i = by_run (run s (NameDue no_path) (Alone ∷ []) c.marks (c.tokens ++ more)) refl i
    where
      by_run : (r : Read T.Expr) → run s (NameDue no_path) (Alone ∷ []) c.marks (c.tokens ++ more) ≡ r → (r >>= λ x. as_reference x) ≡ Ok y → EndsWith more y.1.tokens
      by_run (Ok x) e j =
          let h = open_run_rest (NameDue no_path) (Alone ∷ []) c.marks c.tokens more x (open_as_reference (run s (NameDue no_path) (Alone ∷ []) c.marks c.tokens) o) e in
          subst (EndsWith more) (reference_of x y j) h
      by_run (Err at) e j = absurd (cc j)
