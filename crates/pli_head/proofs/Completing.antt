-- A head that goes on as is said does so: some tokens behind make it whole.
use Rattle.std.proofs.Common.{◌≡◌, ◌≢◌, ◌⊎◌, inl, inr, ℕ, List, [], ◌∷◌, ◌++◌, Option, Some, None, Bool, true, false, Ok, Err, refl, sym, ap, ◌∙◌, subst}
use Rattle.std.specs.Prelude.{⊤, IsTrue, not, if◌then◌else◌, ◌&&◌, ◌||◌}
use Rattle.std.specs.List.{list_all}
use Rattle.pli_language.specs.declared.expr.Place.{Place}
use Rattle.pli_language.specs.declared.token.Word.{Word}
use Rattle.pli_language.specs.declared.token.Word.TheVariants as W
use Rattle.pli_language.specs.declared.token.Symbol.TheVariants as S
use Rattle.pli_language.specs.declared.token.Kind.{Kind}
use Rattle.pli_language.specs.declared.token.Kind.TheVariants as K
use Rattle.pli_language.specs.declared.token.Token.{Token}
use Rattle.pli_language.specs.Heads.{Head, Simple, IfThen}
use Rattle.pli_language.specs.Marks.{Marks}
use Rattle.pli_language.specs.Spells.{next_kind, name_at, place_of}
use Rattle.pli_language.specs.Tree as T
use Rattle.pli_phrase.specs.Cursor.{Cursor, Missed, Stuck, Ended, LeavesOut, Read, ◌>>=◌, onto}
use Rattle.pli_phrase.specs.Tokens.{is_terminal, starts, begins, taken_at, taken}
use Rattle.pli_phrase.specs.declared.expression.Beginning.{Beginning}
use Rattle.pli_phrase.specs.declared.expression.Beginning.TheVariants.{Begins, Differs, Unknown}
use Rattle.pli_phrase.specs.Reading.{Alone, OperandDue, NameDue, NameRead, no_path, referred, Ends, Fails, operand_due, name_due, name_read, as_reference, run, expr_from, reference_from, begun_by, begun, assignment_begins}
use Rattle.pli_phrase.proofs.Runs.{run_step, run_ends, run_fails, run_empty}
use Rattle.pli_phrase.proofs.Tokens.{terminal_kind, word_is, symbol_is, takes_taken}
use Rattle.pli_phrase.proofs.RepeatPrefixes.{done_longer}
use Rattle.pli_phrase.proofs.OpenRests.{open_expr_rest, open_reference_rest}
use Rattle.pli_phrase.proofs.PhrasePrefixes.{is_plain, prefix_expr, expr_more, prefix_reference, reference_more, begins_stays, unknown_opens}
use Rattle.pli_phrase.proofs.Prefixes.{longer, is_done, Stays, Open, Closing, Prefixes, made}
use Rattle.pli_head.specs.Reading.{then_behind, condition_then, if_at, begins_if, assigns, closed, assignment_from, if_from, simple_from, head_behind, head_from}
use Rattle.pli_head.specs.Continuing.{is_ended, may_assign, is_not_begun, is_if, ends_assignment, ends_word}
use Rattle.pli_head.proofs.HeadPrefixes.{prefix_if_then, Whole, word_closes}
use Rattle.pli_head.proofs.Continuing.{source_closed, equal_closed, target_closed, then_closed, condition_closed, if_true, chosen_first, chosen_second, both_first, both_second, expr_never, nothing_read, is_ended_so, assigns_if, assigns_else, not_if, differs_longer, IsAssigned, assigning_is, if_then_read, at, assigning, wording, head_begun, head_worded, if_behind, begins_longer}

-- ---- tokens without THEN and `=`

abbrev pub Plain : List Token → Type 0
Plain ts = IsTrue (list_all is_plain ts)

-- what is plain to its end holds no `=`
pub plain_no_equal : (front ts : List Token) → Plain (front ++ ts) → next_kind ts ≡ Some (K.Symbol S.Equal) → ⊥
plain_no_equal [] [] p e = cc e
plain_no_equal [] (t ∷ ts) p e =
    let k : t.kind ≡ K.Symbol S.Equal = cc e in
    plain_first (is_terminal (K.Name W.Then) t.kind) (is_terminal (K.Symbol S.Equal) t.kind) (ap (is_terminal (K.Symbol S.Equal)) k ∙ symbol_is S.Equal) p
  where
    plain_first : (b x : Bool) → x ≡ true → IsTrue (not (b || x) && list_all is_plain ts) → ⊥
    plain_first true x e p = cc p
    plain_first false true e p = cc p
    plain_first false false e p = cc e
plain_no_equal (u ∷ front) ts p e = plain_no_equal front ts (plain_rest (is_plain u) p) e
  where
    plain_rest : (b : Bool) → IsTrue (b && list_all is_plain (front ++ ts)) → IsTrue (list_all is_plain (front ++ ts))
    plain_rest true p = p
    plain_rest false p = absurd (cc p)

-- ---- tokens without THEN

abbrev pub is_no_then : Token → Bool
is_no_then t = not (is_terminal (K.Name W.Then) t.kind)

abbrev pub NoThen : List Token → Type 0
NoThen ts = IsTrue (list_all is_no_then ts)

no_then_behind : (front ts : List Token) → NoThen (front ++ ts) → starts (K.Name W.Then) ts ≡ true → ⊥
no_then_behind [] [] p e = cc e
no_then_behind [] (t ∷ ts) p e = first_no (is_terminal (K.Name W.Then) t.kind) e p
  where
    first_no : (b : Bool) → b ≡ true → IsTrue (not b && list_all is_no_then ts) → ⊥
    first_no true e p = cc p
    first_no false e p = cc e
no_then_behind (u ∷ front) ts p e = no_then_behind front ts (rest_no (is_no_then u) p) e
  where
    rest_no : (b : Bool) → IsTrue (b && list_all is_no_then (front ++ ts)) → IsTrue (list_all is_no_then (front ++ ts))
    rest_no true p = p
    rest_no false p = absurd (cc p)

plain_joined : (xs ys : List Token) → Plain xs → NoThen ys → NoThen (xs ++ ys)
plain_joined [] ys p n = n
plain_joined (t ∷ xs) ys p n = joined_by (is_terminal (K.Name W.Then) t.kind) (is_terminal (K.Symbol S.Equal) t.kind) p (λ q. plain_joined xs ys q n)
  where
    joined_by : (b x : Bool) → IsTrue (not (b || x) && list_all is_plain xs) → (Plain xs → NoThen (xs ++ ys)) → IsTrue (not b && list_all is_no_then (xs ++ ys))
    joined_by true x p h = absurd (cc p)
    joined_by false true p h = absurd (cc p)
    joined_by false false p h = h p

-- ---- IF

then_done : (r : Read T.Expr) → then_behind r ≡ true → is_done r ≡ true
then_done (Ok x) e = refl
then_done (Err at) e = absurd (cc e)

module _ (s : List ℕ) (t : Token) (mid more : List Token) (m : Marks) (none : NoThen more) where
  abbrev behind : Cursor
  behind = record { tokens = mid; marks = m }

  -- where the tokens end in the expression, THEN behind it would be one of those behind
  open_no_then : Open (expr_from s behind) → (r : Read T.Expr) → expr_from s (longer behind more) ≡ r → then_behind r ≡ true → ⊥
  open_no_then o (Ok y) i e =
      let h = open_expr_rest s behind more y o i in
      no_then_behind h.front y.1.tokens (subst NoThen h.is none) e
  open_no_then o (Err at) i e = cc e

  then_before : (r : Read T.Expr) → expr_from s behind ≡ r → then_behind (expr_from s (longer behind more)) ≡ true → then_behind r ≡ true
  then_before (Ok y) i e = by_tokens y.1.tokens refl
    where
      by_tokens : (ts : List Token) → y.1.tokens ≡ ts → begins (K.Name W.Then) y.1 ≡ true
      by_tokens [] j = absurd (open_no_then (subst Open (sym i) j) (expr_from s (longer behind more)) refl e)
      by_tokens (u ∷ us) j = read_same (subst (λ r. Stays more r (expr_from s (longer behind more))) i ((prefix_expr s).stays behind more))
        where
          read_same : ((y.1.tokens ≡ []) ⊎ (expr_from s (longer behind more) ≡ Ok (y.0, longer y.1 more))) → begins (K.Name W.Then) y.1 ≡ true
          read_same (inl n) = absurd (cc (n, j))
          read_same (inr h) =
              let a : starts (K.Name W.Then) (y.1.tokens ++ more) ≡ true = sym (ap then_behind h) ∙ e in
              ap (starts (K.Name W.Then)) j ∙ (sym (ap (λ v. starts (K.Name W.Then) (v ++ more)) j) ∙ a)
  then_before (Err Stuck) i e =
      let k : is_done (expr_from s (longer behind more)) ≡ false = subst (λ r. Stays more r (expr_from s (longer behind more))) i ((prefix_expr s).stays behind more) in
      absurd (cc (then_done (expr_from s (longer behind more)) e, k))
  then_before (Err Ended) i e = absurd (open_no_then (subst Open (sym i) tt) (expr_from s (longer behind more)) refl e)
  then_before (Err (LeavesOut d)) i e = absurd (expr_never s behind d i)

  opened_before : (ts : List Token) → starts (K.Symbol S.OpenParenthesis) (ts ++ more) ≡ true → then_behind (expr_from s (record { tokens = ts; marks = m })) ≡ true → starts (K.Symbol S.OpenParenthesis) ts ≡ true
  opened_before [] o e = absurd (nothing_read s m e)
  opened_before (u ∷ us) o e = o

  -- no IF comes of what was none
  pub no_if_behind : begins_if s (record { tokens = t ∷ mid; marks = m }) ≡ false → begins_if s (record { tokens = t ∷ (mid ++ more); marks = m }) ≡ false
  unfolding begins_if
  no_if_behind e = by_word (is_terminal (K.Name W.If) t.kind) e
    where
      by_word : (b : Bool) → (if b then condition_then s behind else false) ≡ false → (if b then condition_then s (longer behind more) else false) ≡ false
      by_word false e = refl
      by_word true e = by_then (condition_then s (longer behind more)) refl
        where
          by_then : (b : Bool) → condition_then s (longer behind more) ≡ b → condition_then s (longer behind more) ≡ false
          by_then false i = i
          by_then true i =
              let open_there = chosen_first (begins (K.Symbol S.OpenParenthesis) (longer behind more)) (then_behind (expr_from s (longer behind more))) i in
              let then_there = chosen_second (begins (K.Symbol S.OpenParenthesis) (longer behind more)) (then_behind (expr_from s (longer behind more))) i in
              let then_here = then_before (expr_from s behind) refl then_there in
              let open_here = opened_before mid open_there then_here in
              let k : condition_then s behind ≡ true = if_true (begins (K.Symbol S.OpenParenthesis) behind) (then_behind (expr_from s behind)) false open_here ∙ then_here in
              absurd (cc (k, e))

-- ---- tokens that make a head whole

-- some tokens behind make an assignment of these
pub record Completed (s : List ℕ) (c : Cursor) : Type 0 where
  pub more : List Token
  pub head : Head
  pub rest : Cursor
  pub reads : head_from s (longer c more) ≡ Ok (head, rest)
  pub assigned : IsAssigned head

-- some tokens behind make a head of these that is no assignment
pub record CompletedWord (s : List ℕ) (c : Cursor) : Type 0 where
  pub more : List Token
  pub head : Head
  pub rest : Cursor
  pub reads : head_from s (longer c more) ≡ Ok (head, rest)
  pub worded : assigns s (longer c more) ≢ Begins

-- `= 1;`
abbrev equal_one : List Token
equal_one = made (K.Symbol S.Equal) ∷ made (K.Number 1) ∷ made (K.Symbol S.Semicolon) ∷ []

abbrev pub semicolon : List Token
semicolon = made (K.Symbol S.Semicolon) ∷ []

one_read : (s : List ℕ) (m : Marks) → expr_from s (record { tokens = made (K.Number 1) ∷ semicolon; marks = m }) ≡ Ok (T.Number 1 (place_of (made (K.Number 1))), record { tokens = semicolon; marks = m })
unfolding expr_from run
one_read s m = refl

source_read : (s : List ℕ) (p : Place) (r : T.Reference) (m : Marks) → equal_closed s p r (taken (K.Symbol S.Equal) (record { tokens = equal_one; marks = m })) ≡ Ok (T.Assign r (T.Number 1 (place_of (made (K.Number 1)))) p, record { tokens = semicolon; marks = m })
unfolding taken
source_read s p r m = ap (source_closed p r) (one_read s m)

pub closed_whole : (h : Head) (m : Marks) → closed h (record { tokens = semicolon; marks = m }) ≡ Ok (h, record { tokens = []; marks = m })
unfolding taken
closed_whole h m = refl

-- an assignment is read where one begins
assigned_begins : (s : List ℕ) (p : Place) (c : Cursor) (x : Head × Cursor) → simple_from (assignment_from s p c) ≡ Ok x → assignment_begins s c ≡ Begins
unfolding assignment_from assignment_begins taken
assigned_begins s p c x e = with_reference (reference_from s c) e
  where
    by_kind : (r : T.Reference) (t : Token) (d : Cursor) (b : Bool) → is_terminal (K.Symbol S.Equal) t.kind ≡ b → simple_from (equal_closed s p r (if b then Ok (t, d) else Err Stuck)) ≡ Ok x → begun_by (Some t.kind) ≡ Begins
    by_kind r t d true h k = ap (λ u. begun_by (Some u)) (terminal_kind (K.Symbol S.Equal) t.kind h)
    by_kind r t d false h k = absurd (cc k)

    with_equal : (r : T.Reference × Cursor) (ts : List Token) → simple_from (equal_closed s p r.0 (taken_at (K.Symbol S.Equal) ts r.1)) ≡ Ok x → begun_by (next_kind ts) ≡ Begins
    with_equal r [] k = absurd (cc k)
    with_equal r (t ∷ ts) k = by_kind r.0 t (onto ts r.1) (is_terminal (K.Symbol S.Equal) t.kind) refl k

    with_reference : (u : Read T.Reference) → simple_from (target_closed s p u) ≡ Ok x → begun u ≡ Begins
    with_reference (Ok r) k = with_equal r r.1.tokens k
    with_reference (Err at) k = absurd (cc k)

-- `=` is what an assignment begins with, behind its reference
pub begun_equal : (k : Kind) → begun_by (Some k) ≡ Begins → k ≡ K.Symbol S.Equal
begun_equal (K.Symbol S.Equal) e = refl
begun_equal _ e = absurd (cc e)

-- what is left of an assignment that the tokens end in, behind `=`
ended_source : (p : Place) (r : T.Reference) (q : Read T.Expr) → simple_from (source_closed p r q) ≡ Err Ended → Open q
unfolding taken
ended_source p r (Ok e) i = at_tokens e.1.tokens i
  where
    stmt_closed : Read Token → Read Head
    stmt_closed q = q >>= λ u. Ok (Simple (T.Assign r e.0 p), u.1)

    by_kind : (t : Token) (ts : List Token) (d : Cursor) (b : Bool) → stmt_closed (if b then Ok (t, d) else Err Stuck) ≡ Err Ended → t ∷ ts ≡ []
    by_kind t ts d true k = absurd (cc k)
    by_kind t ts d false k = absurd (cc k)

    at_tokens : (ts : List Token) → stmt_closed (taken_at (K.Symbol S.Semicolon) ts e.1) ≡ Err Ended → ts ≡ []
    at_tokens [] k = refl
    at_tokens (t ∷ ts) k = by_kind t ts (onto ts e.1) (is_terminal (K.Symbol S.Semicolon) t.kind) k
ended_source p r (Err Ended) i = tt
ended_source p r (Err Stuck) i = absurd (cc i)
ended_source p r (Err (LeavesOut d)) i = absurd (cc i)

module _ (s : List ℕ) (t : Token) (w : Word) (m : Marks) (is : t.kind ≡ K.Name w) (mid : List Token) where
  abbrev here : Cursor
  here = at s t w m is (t ∷ mid)

  abbrev inside : Cursor
  inside = at s t w m is mid

  -- the head is an assignment, with these tokens behind
  assigned_by : (more : List Token) (x : Head × Cursor) → begins_if s here ≡ false → NoThen more → assigning s t w m is (t ∷ (mid ++ more)) ≡ Ok x → head_from s (longer here more) ≡ Ok x
  assigned_by more x i n e =
      let j = no_if_behind s t mid more m n i in
      let b = assigned_begins s (place_of t) (longer here more) x e in
      head_begun s t w m is (mid ++ more) (assigns_else s (longer here more) j ∙ b) ∙ e

  -- where the tokens end in the reference
  complete_reference : begins_if s here ≡ false → Open (reference_from s here) → Completed s here
  unfolding assignment_from
  complete_reference i o =
      let k = (prefix_reference s).closes here o in
      let more = k.more ++ equal_one in
      let a : assigning s t w m is (t ∷ (mid ++ more)) ≡ Ok (Simple (T.Assign k.given (T.Number 1 (place_of (made (K.Number 1)))) (place_of t)), record { tokens = []; marks = k.marks }) =
      ap (λ u. simple_from (target_closed s (place_of t) u)) (k.reads equal_one refl)
      ∙ (ap simple_from (source_read s (place_of t) k.given k.marks) ∙ closed_whole (Simple (T.Assign k.given (T.Number 1 (place_of (made (K.Number 1)))) (place_of t))) k.marks) in
      record { more = more; head = Simple (T.Assign k.given (T.Number 1 (place_of (made (K.Number 1)))) (place_of t)); rest = record { tokens = []; marks = k.marks }; reads = assigned_by more _ i (plain_joined k.more equal_one (reference_more s here o) refl) a; assigned = assigning_is s (place_of t) (longer here more) _ a }

  -- where they end behind `=`
  complete_source : begins_if s here ≡ false → assigning s t w m is (t ∷ mid) ≡ Err Ended → (r : T.Reference × Cursor) (u : Token) (us : List Token) → reference_from s here ≡ Ok r → r.1.tokens ≡ u ∷ us → u.kind ≡ K.Symbol S.Equal → Completed s here
  unfolding assignment_from
  complete_source i ends r u us a b c =
      let p : Place = place_of t in
      let front : List Token → Cursor = λ ts. record { tokens = ts; marks = r.1.marks } in
      let took : taken (K.Symbol S.Equal) r.1 ≡ Ok (u, front us) = takes_taken (K.Symbol S.Equal) r.1.marks (symbol_is S.Equal) (record { is = b; of_kind = c }) in
      let left : simple_from (source_closed p r.0 (expr_from s (front us))) ≡ Err Ended =
      sym (ap (λ v. simple_from (target_closed s p v)) a ∙ ap (λ v. simple_from (equal_closed s p r.0 v)) took) ∙ ends in
      let o = ended_source p r.0 (expr_from s (front us)) left in
      let k = (prefix_expr s).closes (front us) o in
      let more = k.more ++ semicolon in
      let again : reference_from s (longer here more) ≡ Ok (r.0, longer r.1 more) = done_longer (reference_from s here) (reference_from s (longer here more)) more r u us ((prefix_reference s).stays here more) a b in
      let took_again : taken (K.Symbol S.Equal) (longer r.1 more) ≡ Ok (u, front (us ++ more)) = takes_taken (K.Symbol S.Equal) r.1.marks (symbol_is S.Equal) (record { is = ap (λ v. v ++ more) b; of_kind = c }) in
      let whole : assigning s t w m is (t ∷ (mid ++ more)) ≡ Ok (Simple (T.Assign r.0 k.given p), record { tokens = []; marks = k.marks }) =
      ap (λ v. simple_from (target_closed s p v)) again
      ∙ (ap (λ v. simple_from (equal_closed s p r.0 v)) took_again ∙ (ap (λ v. simple_from (source_closed p r.0 v)) (k.reads semicolon refl) ∙ closed_whole (Simple (T.Assign r.0 k.given p)) k.marks)) in
      record { more = more; head = Simple (T.Assign r.0 k.given p); rest = record { tokens = []; marks = k.marks }; reads = assigned_by more _ i (plain_joined k.more semicolon (expr_more s (front us) o) refl) whole; assigned = assigning_is s p (longer here more) _ whole }

  -- a head that the tokens end in as an assignment
  complete_assigned : (b : Beginning) → assigns s here ≡ b → may_assign b ≡ true → assigning s t w m is (t ∷ mid) ≡ Err Ended → Completed s here
  unfolding assignment_begins
  complete_assigned Differs e may ends = absurd (cc may)
  complete_assigned Unknown e may ends =
      let i = not_if s here Unknown e (λ d. cc d) in
      complete_reference i (unknown_opens s here (sym (assigns_else s here i) ∙ e))
  complete_assigned Begins e may ends =
      let i = not_if s here Begins e (λ d. cc d) in
      by_reference i (reference_from s here) refl (sym (assigns_else s here i) ∙ e)
    where
      by_tokens : begins_if s here ≡ false → (r : T.Reference × Cursor) → reference_from s here ≡ Ok r → (ts : List Token) → r.1.tokens ≡ ts → begun_by (next_kind ts) ≡ Begins → Completed s here
      by_tokens i r a [] j k = absurd (cc k)
      by_tokens i r a (u ∷ us) j k = complete_source i ends r u us a j (begun_equal u.kind k)

      by_reference : begins_if s here ≡ false → (q : Read T.Reference) → reference_from s here ≡ q → assignment_begins s here ≡ Begins → Completed s here
      by_reference i (Ok r) a k = by_tokens i r a r.1.tokens refl (sym (ap begun a) ∙ k)
      by_reference i (Err Stuck) a k = absurd (cc (ap begun a, k))
      by_reference i (Err Ended) a k = absurd (cc (ap begun a, k))
      by_reference i (Err (LeavesOut d)) a k = absurd (cc (ap begun a, k))

  -- how the head goes on as an assignment
  pub assigned_completed : ends_assignment s (assigns s here) (place_of t) here ≡ true → Completed s here
  assigned_completed e =
      let may = both_first (may_assign (assigns s here)) (is_ended (assigning s t w m is (t ∷ mid))) e in
      let ends = both_second (may_assign (assigns s here)) (is_ended (assigning s t w m is (t ∷ mid))) e in
      complete_assigned (assigns s here) refl may (is_ended_so (assigning s t w m is (t ∷ mid)) ends)

  -- the head of its word, which no assignment begins
  pub complete_worded : Open (wording s t w m is (t ∷ mid) mid) → assigns s here ≡ Differs → CompletedWord s here
  complete_worded o e =
      let k = word_closes s (t ∷ mid) (place_of t) w inside o in
      let d = differs_longer s here k.more e in
      record { more = k.more; head = k.head; rest = k.rest; reads = head_worded s t w m is (mid ++ k.more) (λ b. cc (b, d)) ∙ k.reads (t ∷ (mid ++ k.more)); worded = λ b. cc (b, d) }

-- ---- IF, where an assignment begins

-- what begins an assignment and goes on as an expression behind its word has a parenthesis there
module _ (s : List ℕ) (t : Token) (w : Word) (m : Marks) (is : t.kind ≡ K.Name w) (u : Token) (us : List Token) where
  abbrev named : T.Name
  named = name_at s t w

  named_run : run s (NameDue no_path) (Alone ∷ []) m (t ∷ u ∷ us) ≡ run s (NameRead no_path named) (Alone ∷ []) m (u ∷ us)
  named_run = run_step s (NameDue no_path) (NameRead no_path named) (Alone ∷ []) (Alone ∷ []) m m t (u ∷ us) (ap (name_due s no_path (Alone ∷ []) m t) is)

  -- an expression begins here
  expression_first : (k : Kind) → u.kind ≡ k → operand_due s [] m u k ≡ Fails → Open (expr_from s (record { tokens = u ∷ us; marks = m })) → ⊥
  unfolding expr_from
  expression_first k j e o =
      let stuck = run_fails s OperandDue [] m u us (ap (operand_due s [] m u) j ∙ e) in
      subst Open stuck o

  -- the reference ends here
  reference_ends : (k : Kind) → u.kind ≡ k → name_read no_path named (Alone ∷ []) m k ≡ Ends (T.Refers (referred no_path named T.Absent)) m → assignment_begins s (record { tokens = t ∷ u ∷ us; marks = m }) ≡ begun_by (Some k)
  unfolding assignment_begins reference_from
  reference_ends k j e =
      let ends = run_ends s (NameRead no_path named) (Alone ∷ []) m m (T.Refers (referred no_path named T.Absent)) u us (ap (name_read no_path named (Alone ∷ []) m) j ∙ e) in
      ap (λ r. begun (r >>= λ x. as_reference x)) (named_run ∙ ends) ∙ ap (λ v. begun_by (Some v)) j

  pub opened_if : (k : Kind) → u.kind ≡ k → assignment_begins s (record { tokens = t ∷ u ∷ us; marks = m }) ≡ Begins → Open (expr_from s (record { tokens = u ∷ us; marks = m })) → is_terminal (K.Symbol S.OpenParenthesis) k ≡ true
  opened_if (K.Symbol S.OpenParenthesis) j b o = symbol_is S.OpenParenthesis
  opened_if (K.Symbol S.Equal) j b o = absurd (expression_first (K.Symbol S.Equal) j refl o)
  opened_if (K.Symbol S.Point) j b o = absurd (expression_first (K.Symbol S.Point) j refl o)
  opened_if (K.Symbol S.Arrow) j b o = absurd (expression_first (K.Symbol S.Arrow) j refl o)
  opened_if (K.Name v) j b o = absurd (cc (reference_ends (K.Name v) j refl, b))
  opened_if (K.Number n) j b o = absurd (cc (reference_ends (K.Number n) j refl, b))
  opened_if K.Text j b o = absurd (cc (reference_ends K.Text j refl, b))
  opened_if (K.Bit v) j b o = absurd (cc (reference_ends (K.Bit v) j refl, b))
  opened_if (K.Symbol y) j b o = absurd (cc (reference_ends (K.Symbol y) j refl, b))

module _ (s : List ℕ) (t : Token) (w : Word) (m : Marks) (is : t.kind ≡ K.Name w) where
  -- behind IF stands a parenthesis, where an assignment begins all the same
  opened_begun : (mid : List Token) → assignment_begins s (record { tokens = t ∷ mid; marks = m }) ≡ Begins → Open (expr_from s (record { tokens = mid; marks = m })) → starts (K.Symbol S.OpenParenthesis) mid ≡ true
  unfolding assignment_begins reference_from
  opened_begun [] b o = absurd (cc (alone, b))
    where
      alone : assignment_begins s (record { tokens = t ∷ []; marks = m }) ≡ Unknown
      alone =
          let named = run_step s (NameDue no_path) (NameRead no_path (name_at s t w)) (Alone ∷ []) (Alone ∷ []) m m t [] (ap (name_due s no_path (Alone ∷ []) m t) is) in
          ap (λ r. begun (r >>= λ x. as_reference x)) (named ∙ run_empty s (NameRead no_path (name_at s t w)) (Alone ∷ []) m)
  opened_begun (u ∷ us) b o = opened_if s t w m is u us u.kind refl b o

  abbrev if_at_first : List Token → Cursor
  if_at_first ts = record { tokens = t ∷ ts; marks = m }

  if_begins : (ts : List Token) → w ≡ W.If → starts (K.Symbol S.OpenParenthesis) ts ≡ true → then_behind (expr_from s (record { tokens = ts; marks = m })) ≡ true → begins_if s (if_at_first ts) ≡ true
  unfolding begins_if
  if_begins ts i o e =
      let k : is_terminal (K.Name W.If) t.kind ≡ true = ap (is_terminal (K.Name W.If)) (is ∙ ap K.Name i) ∙ word_is W.If in
      if_true (is_terminal (K.Name W.If) t.kind) (condition_then s (record { tokens = ts; marks = m })) false k ∙ (if_true (starts (K.Symbol S.OpenParenthesis) ts) (then_behind (expr_from s (record { tokens = ts; marks = m }))) false o ∙ e)

  -- a condition that the tokens end in
  ended_condition : (p : Place) (c : Cursor) → if_from s p c ≡ Err Ended → Open (expr_from s c)
  unfolding taken
  ended_condition p c i = by_condition (expr_from s c) i
    where
      by_kind : (e : T.Expr) (v : Token) (ts : List Token) (d : Cursor) (b : Bool) → then_closed p e (if b then Ok (v, d) else Err Stuck) ≡ Err Ended → v ∷ ts ≡ []
      by_kind e v ts d true k = absurd (cc k)
      by_kind e v ts d false k = absurd (cc k)

      at_tokens : (e : T.Expr × Cursor) (ts : List Token) → then_closed p e.0 (taken_at (K.Name W.Then) ts e.1) ≡ Err Ended → ts ≡ []
      at_tokens e [] k = refl
      at_tokens e (v ∷ ts) k = by_kind e.0 v ts (onto ts e.1) (is_terminal (K.Name W.Then) v.kind) k

      by_condition : (r : Read T.Expr) → condition_closed p r ≡ Err Ended → Open r
      by_condition (Ok e) k = at_tokens e e.1.tokens k
      by_condition (Err Ended) k = tt
      by_condition (Err Stuck) k = absurd (cc k)
      by_condition (Err (LeavesOut d)) k = absurd (cc k)

  -- what begins an assignment, completed as an IF
  pub complete_if : (mid : List Token) → w ≡ W.If → assigns s (if_at_first mid) ≡ Begins → if_from s (place_of t) (record { tokens = mid; marks = m }) ≡ Err Ended → CompletedWord s (if_at_first mid)
  complete_if mid i b ends =
      let p : Place = place_of t in
      let inside : Cursor = record { tokens = mid; marks = m } in
      let o = ended_condition p inside ends in
      let begun : assignment_begins s (if_at_first mid) ≡ Begins = sym (assigns_else s (if_at_first mid) (not_if s (if_at_first mid) Begins b (λ d. cc d))) ∙ b in
      let open_here = opened_begun mid begun o in
      let k = (prefix_if_then s p).closes inside (subst Open (sym ends) tt) in
      let more = k.more ++ [] in
      let read = k.reads [] tt in
      let then_there = if_then_read s p (longer inside more) (k.given, record { tokens = []; marks = k.marks }) read in
      let e = if_begins (mid ++ more) i (begins_longer (K.Symbol S.OpenParenthesis) inside more open_here) then_there in
      let d = assigns_if s (longer (if_at_first mid) more) e in
      record { more = more; head = k.given; rest = record { tokens = []; marks = k.marks }; reads = head_worded s t w m is (mid ++ more) (λ v. cc (v, d)) ∙ (if_behind s t w m is mid more (t ∷ (mid ++ more)) (mid ++ more) i ∙ read); worded = λ v. cc (v, d) }
