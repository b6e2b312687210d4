-- A head that the tokens end in goes on just as is said: where some tokens behind make it a head, it is an assignment or what its word says.
use Rattle.std.proofs.Common.{◌≡◌, ◌≢◌, ◌⊎◌, inl, inr, ℕ, List, [], ◌∷◌, ◌++◌, Option, Some, None, Bool, true, false, Ok, Err, refl, sym, ap, ◌∙◌, subst, append_assoc}
use Rattle.std.specs.Prelude.{⊤, if◌then◌else◌, ◌&&◌, ◌||◌}
use Rattle.pli_language.specs.declared.expr.Place.{Place}
use Rattle.pli_language.specs.declared.token.Word.{Word}
use Rattle.pli_language.specs.declared.token.Word.TheVariants as W
use Rattle.pli_language.specs.declared.token.Symbol.TheVariants as S
use Rattle.pli_language.specs.declared.token.Kind.{Kind}
use Rattle.pli_language.specs.declared.token.Kind.TheVariants as K
use Rattle.pli_language.specs.declared.token.Token.{Token}
use Rattle.pli_language.specs.Heads.{Head, Simple, IfThen, Else}
use Rattle.pli_language.specs.Marks.{Marks}
use Rattle.pli_language.specs.Spells.{Takes, place_of}
use Rattle.pli_language.specs.Tree as T
use Rattle.pli_phrase.specs.Cursor.{Cursor, Missed, Stuck, Ended, LeavesOut, Read, ◌>>=◌, onto}
use Rattle.pli_phrase.specs.Tokens.{is_terminal, starts, begins, taken_at, taken}
use Rattle.pli_phrase.specs.declared.expression.Beginning.{Beginning}
use Rattle.pli_phrase.specs.declared.expression.Beginning.TheVariants.{Begins, Differs, Unknown}
use Rattle.pli_phrase.specs.Reading.{run, expr_from, reference_from, assignment_begins}
use Rattle.pli_phrase.proofs.Prefixes.{longer, is_done, Stays, Open, Closing, Prefixes}
use Rattle.pli_phrase.proofs.PhrasePrefixes.{prefix_expr, prefix_reference, begins_stays, unknown_opens}
use Rattle.pli_attributes.proofs.Posts.{post_is, post_leaves}
use Rattle.pli_attributes.proofs.Expressions.{expr_post}
use Rattle.pli_attributes.proofs.Tokens.{terminal_is, is_word}
use Rattle.pli_clause.proofs.Parts.{word_taken}
use Rattle.pli_head.specs.Reading.{then_behind, condition_then, if_at, begins_if, assigns, closed, assignment_from, if_from, simple_from, head_behind, worded, head_from}
use Rattle.pli_head.specs.Continuing.{is_ended, may_assign, is_not_begun, is_if, ends_assignment, ends_word}
use Rattle.pli_head.proofs.CompleteStatements.{no_semicolon, worded_not}
use Rattle.pli_head.proofs.HeadPrefixes.{prefix_assigning, prefix_if_then, word_stays}

-- ---- what decides, with further tokens behind

pub if_true : {A : Type 0} (b : Bool) (x y : A) → b ≡ true → (if b then x else y) ≡ x
if_true true x y e = refl
if_true false x y e = absurd (cc e)

pub if_false : {A : Type 0} (b : Bool) (x y : A) → b ≡ false → (if b then x else y) ≡ y
if_false true x y e = absurd (cc e)
if_false false x y e = refl

pub both_first : (a b : Bool) → (a && b) ≡ true → a ≡ true
both_first true b e = refl
both_first false b e = absurd (cc e)

pub both_second : (a b : Bool) → (a && b) ≡ true → b ≡ true
both_second true b e = e
both_second false b e = absurd (cc e)

pub chosen_first : (b x : Bool) → (if b then x else false) ≡ true → b ≡ true
chosen_first true x e = refl
chosen_first false x e = absurd (cc e)

pub chosen_second : (b x : Bool) → (if b then x else false) ≡ true → x ≡ true
chosen_second true x e = e
chosen_second false x e = absurd (cc e)

-- a word that stands first does so with more behind
pub begins_longer : (k : Kind) (c : Cursor) (more : List Token) → begins k c ≡ true → begins k (longer c more) ≡ true
begins_longer k c more e = front_longer c.tokens e
  where
    front_longer : (ts : List Token) → starts k ts ≡ true → starts k (ts ++ more) ≡ true
    front_longer [] e = absurd (cc e)
    front_longer (t ∷ ts) e = e

then_longer : (s : List ℕ) (d : Cursor) (more : List Token) (r : Read T.Expr) → expr_from s d ≡ r → then_behind r ≡ true → then_behind (expr_from s (longer d more)) ≡ true
then_longer s d more (Err at) i e = absurd (cc e)
then_longer s d more (Ok x) i e = by_tokens x.1.tokens refl (subst (λ r. Stays more r (expr_from s (longer d more))) i ((prefix_expr s).stays d more))
  where
    by_tokens : (ts : List Token) → x.1.tokens ≡ ts → ((x.1.tokens ≡ []) ⊎ (expr_from s (longer d more) ≡ Ok (x.0, longer x.1 more))) → then_behind (expr_from s (longer d more)) ≡ true
    by_tokens ts j (inl n) =
        let k : begins (K.Name W.Then) x.1 ≡ false = ap (λ u. starts (K.Name W.Then) u) n in
        absurd (cc (k, e))
    by_tokens ts j (inr h) = ap then_behind h ∙ begins_longer (K.Name W.Then) x.1 more e

if_longer : (s : List ℕ) (c : Cursor) (more : List Token) → begins_if s c ≡ true → begins_if s (longer c more) ≡ true
unfolding begins_if
if_longer s c more e = at_tokens c.tokens e
  where
    at_tokens : (ts : List Token) → if_at s ts (record { tokens = ts; marks = c.marks }) ≡ true → if_at s (ts ++ more) (record { tokens = ts ++ more; marks = c.marks }) ≡ true
    at_tokens [] e = absurd (cc e)
    at_tokens (t ∷ ts) e =
        let d : Cursor = record { tokens = ts; marks = c.marks } in
        let word = chosen_first (is_terminal (K.Name W.If) t.kind) (condition_then s d) e in
        let inside = chosen_second (is_terminal (K.Name W.If) t.kind) (condition_then s d) e in
        let open_first = chosen_first (begins (K.Symbol S.OpenParenthesis) d) (then_behind (expr_from s d)) inside in
        let follows = chosen_second (begins (K.Symbol S.OpenParenthesis) d) (then_behind (expr_from s d)) inside in
        if_true (is_terminal (K.Name W.If) t.kind) (condition_then s (longer d more)) false word ∙ (if_true (begins (K.Symbol S.OpenParenthesis) (longer d more)) (then_behind (expr_from s (longer d more))) false (begins_longer (K.Symbol S.OpenParenthesis) d more open_first) ∙ then_longer s d more (expr_from s d) refl follows)

pub assigns_if : (s : List ℕ) (c : Cursor) → begins_if s c ≡ true → assigns s c ≡ Differs
unfolding assigns
assigns_if s c e = if_true (begins_if s c) Differs (assignment_begins s c) e

pub assigns_else : (s : List ℕ) (c : Cursor) → begins_if s c ≡ false → assigns s c ≡ assignment_begins s c
unfolding assigns
assigns_else s c e = if_false (begins_if s c) Differs (assignment_begins s c) e

-- what begins no assignment begins none with more behind
pub differs_longer : (s : List ℕ) (c : Cursor) (more : List Token) → assigns s c ≡ Differs → assigns s (longer c more) ≡ Differs
differs_longer s c more e = by_if (begins_if s c) refl
  where
    differs_by : (b : Bool) → begins_if s (longer c more) ≡ b → assignment_begins s c ≡ Differs → assigns s (longer c more) ≡ Differs
    differs_by true i d = assigns_if s (longer c more) i
    differs_by false i d = assigns_else s (longer c more) i ∙ (begins_stays s c more (λ u. cc (d, u)) ∙ d)

    by_if : (b : Bool) → begins_if s c ≡ b → assigns s (longer c more) ≡ Differs
    by_if true i = assigns_if s (longer c more) (if_longer s c more i)
    by_if false i = differs_by (begins_if s (longer c more)) refl (sym (assigns_else s c i) ∙ e)

-- what is no IF as an assignment begins is none
pub not_if : (s : List ℕ) (c : Cursor) (b : Beginning) → assigns s c ≡ b → b ≢ Differs → begins_if s c ≡ false
not_if s c b e n = by_if (begins_if s c) refl
  where
    by_if : (x : Bool) → begins_if s c ≡ x → begins_if s c ≡ false
    by_if true i = absurd (n (sym e ∙ assigns_if s c i))
    by_if false i = i

-- ---- the head at a word

module _ (s : List ℕ) (t : Token) (w : Word) (m : Marks) (is : t.kind ≡ K.Name w) where
  abbrev pub at : List Token → Cursor
  at ts = record { tokens = ts; marks = m }

  abbrev pub assigning : List Token → Read Head
  assigning ts = simple_from (assignment_from s (place_of t) (at ts))

  abbrev pub wording : List Token → List Token → Read Head
  wording front ts = head_behind s front (place_of t) w (at ts)

  head_at : (ts : List Token) → head_from s (at (t ∷ ts)) ≡ worded s (assigns s (at (t ∷ ts))) (t ∷ ts) ((t, w), at ts)
  unfolding head_from
  head_at ts =
      let take : Takes (t ∷ ts) (K.Name w) t ts = record { is = refl; of_kind = is } in
      rw (no_semicolon take m, word_taken m take) refl

  pub head_begun : (ts : List Token) → assigns s (at (t ∷ ts)) ≡ Begins → head_from s (at (t ∷ ts)) ≡ assigning (t ∷ ts)
  head_begun ts e = head_at ts ∙ ap (λ b. worded s b (t ∷ ts) ((t, w), at ts)) e

  pub head_worded : (ts : List Token) → assigns s (at (t ∷ ts)) ≢ Begins → head_from s (at (t ∷ ts)) ≡ wording (t ∷ ts) ts
  head_worded ts n = head_at ts ∙ worded_not s (assigns s (at (t ∷ ts))) (t ∷ ts) ((t, w), at ts) n

-- ---- what reading came to, with more behind

-- what stands behind the reference of an assignment, and the whole of it
abbrev pub source_closed : Place → T.Reference → Read T.Expr → Read T.Stmt
source_closed p r q = q >>= λ e. Ok (T.Assign r e.0 p, e.1)

abbrev pub equal_closed : List ℕ → Place → T.Reference → Read Token → Read T.Stmt
equal_closed s p r q = q >>= λ t. source_closed p r (expr_from s t.1)

abbrev pub target_closed : List ℕ → Place → Read T.Reference → Read T.Stmt
target_closed s p q = q >>= λ r. equal_closed s p r.0 (taken (K.Symbol S.Equal) r.1)

-- an assignment that was read is one
assigned_is : (s : List ℕ) (p : Place) (c : Cursor) (y : T.Stmt × Cursor) → assignment_from s p c ≡ Ok y → (r : T.Reference) × (e : T.Expr) × (y.0 ≡ T.Assign r e p)
unfolding assignment_from
assigned_is s p c y i = with_reference (reference_from s c) i
  where
    with_source : (r : T.Reference) (u : Read T.Expr) → (u >>= λ e. Ok (T.Assign r e.0 p, e.1)) ≡ Ok y → (r' : T.Reference) × (e : T.Expr) × (y.0 ≡ T.Assign r' e p)
    with_source r (Ok e) i = (r, e.0, cc i)
    with_source r (Err at) i = absurd (cc i)

    with_equal : (r : T.Reference) (u : Read Token) → (u >>= λ t. expr_from s t.1 >>= λ e. Ok (T.Assign r e.0 p, e.1)) ≡ Ok y → (r' : T.Reference) × (e : T.Expr) × (y.0 ≡ T.Assign r' e p)
    with_equal r (Ok t) i = with_source r (expr_from s t.1) i
    with_equal r (Err at) i = absurd (cc i)

    with_reference : (u : Read T.Reference) → (u >>= λ r. taken (K.Symbol S.Equal) r.1 >>= λ t. expr_from s t.1 >>= λ e. Ok (T.Assign r.0 e.0 p, e.1)) ≡ Ok y → (r' : T.Reference) × (e : T.Expr) × (y.0 ≡ T.Assign r' e p)
    with_reference (Ok r) i = with_equal r.0 (taken (K.Symbol S.Equal) r.1) i
    with_reference (Err at) i = absurd (cc i)

-- a head that is an assignment
pub record IsAssigned (h : Head) : Type 0 where
  pub target : T.Reference
  pub source : T.Expr
  pub place : Place
  pub is : h ≡ Simple (T.Assign target source place)

pub assigning_is : (s : List ℕ) (p : Place) (c : Cursor) (x : Head × Cursor) → simple_from (assignment_from s p c) ≡ Ok x → IsAssigned x.0
assigning_is s p c x i = with_statement (assignment_from s p c) refl i
  where
    with_semicolon : (y : T.Stmt × Cursor) (u : Read Token) → assignment_from s p c ≡ Ok y → (u >>= λ v. Ok (Simple y.0, v.1)) ≡ Ok x → IsAssigned x.0
    with_semicolon y (Ok v) e i =
        let a = assigned_is s p c y e in
        let h : x.0 ≡ Simple y.0 = cc i in
        record { target = a.0; source = a.1; place = p; is = h ∙ ap Simple a.2 }
    with_semicolon y (Err at) e i = absurd (cc i)

    with_statement : (u : Read T.Stmt) → assignment_from s p c ≡ u → simple_from u ≡ Ok x → IsAssigned x.0
    with_statement (Ok y) e i = with_semicolon y (taken (K.Symbol S.Semicolon) y.1) e i
    with_statement (Err at) e i = absurd (cc i)

-- nothing in an expression is left out
pub expr_never : (s : List ℕ) (c d : Cursor) → expr_from s c ≡ Err (LeavesOut d) → ⊥
expr_never s c d e = post_leaves (expr_post s c) e

-- what stands behind the condition of an IF, and the whole of it
abbrev pub then_closed : Place → T.Expr → Read Token → Read Head
then_closed p e q = q >>= λ u. Ok (IfThen e p, u.1)

abbrev pub condition_closed : Place → Read T.Expr → Read Head
condition_closed p q = q >>= λ e. then_closed p e.0 (taken_at (K.Name W.Then) e.1.tokens e.1)

if_never : (s : List ℕ) (p : Place) (c d : Cursor) → if_from s p c ≡ Err (LeavesOut d) → ⊥
unfolding taken
if_never s p c d i = with_condition (expr_from s c) refl i
  where
    by_kind : (e : T.Expr) (t : Token) (k : Cursor) (b : Bool) → then_closed p e (if b then Ok (t, k) else Err Stuck) ≡ Err (LeavesOut d) → ⊥
    by_kind e t k true j = cc j
    by_kind e t k false j = cc j

    with_then : (e : T.Expr × Cursor) (ts : List Token) → then_closed p e.0 (taken_at (K.Name W.Then) ts e.1) ≡ Err (LeavesOut d) → ⊥
    with_then e [] k = cc k
    with_then e (t ∷ ts) k = by_kind e.0 t (onto ts e.1) (is_terminal (K.Name W.Then) t.kind) k

    with_condition : (u : Read T.Expr) → expr_from s c ≡ u → condition_closed p u ≡ Err (LeavesOut d) → ⊥
    with_condition (Ok e) j k = with_then e e.1.tokens k
    with_condition (Err Stuck) j k = cc k
    with_condition (Err Ended) j k = cc k
    with_condition (Err (LeavesOut b)) j k = expr_never s c b j

-- where no token stands, no expression is read
pub nothing_read : (s : List ℕ) (m : Marks) → then_behind (expr_from s (record { tokens = []; marks = m })) ≡ true → ⊥
unfolding expr_from run
nothing_read s m e = cc e

-- an IF that was read has THEN behind its condition
pub if_then_read : (s : List ℕ) (p : Place) (c : Cursor) (x : Head × Cursor) → if_from s p c ≡ Ok x → then_behind (expr_from s c) ≡ true
unfolding taken
if_then_read s p c x i = with_condition (expr_from s c) i
  where
    by_kind : (e : T.Expr) (t : Token) (k : Cursor) (b : Bool) → is_terminal (K.Name W.Then) t.kind ≡ b → then_closed p e (if b then Ok (t, k) else Err Stuck) ≡ Ok x → is_terminal (K.Name W.Then) t.kind ≡ true
    by_kind e t k true h j = h
    by_kind e t k false h j = absurd (cc j)

    with_then : (e : T.Expr × Cursor) (ts : List Token) → then_closed p e.0 (taken_at (K.Name W.Then) ts e.1) ≡ Ok x → starts (K.Name W.Then) ts ≡ true
    with_then e [] k = absurd (cc k)
    with_then e (t ∷ ts) k = by_kind e.0 t (onto ts e.1) (is_terminal (K.Name W.Then) t.kind) refl k

    with_condition : (u : Read T.Expr) → condition_closed p u ≡ Ok x → then_behind u ≡ true
    with_condition (Ok e) k = with_then e e.1.tokens k
    with_condition (Err at) k = absurd (cc k)

stuck_longer : {X : Type 0} (more : List Token) (r r' : Read X) → Stays more r r' → r ≡ Err Stuck → is_done r' ≡ false
stuck_longer more r r' h e = subst (λ u. Stays more u r') e h

pub ended_is : {X : Type 0} (r : Read X) → r ≡ Err Ended → is_ended r ≡ true
ended_is r e = ap is_ended e

pub is_ended_so : {X : Type 0} (r : Read X) → is_ended r ≡ true → r ≡ Err Ended
is_ended_so (Ok x) e = absurd (cc e)
is_ended_so (Err Stuck) e = absurd (cc e)
is_ended_so (Err Ended) e = refl
is_ended_so (Err (LeavesOut d)) e = absurd (cc e)

-- where the tokens end in a reference, they end in an assignment
open_assigning : (s : List ℕ) (p : Place) (c : Cursor) → Open (reference_from s c) → simple_from (assignment_from s p c) ≡ Err Ended
unfolding assignment_from taken
open_assigning s p c o = with_reference (reference_from s c) o
  where
    with_empty : (r : T.Reference × Cursor) (ts : List Token) → ts ≡ [] → simple_from (equal_closed s p r.0 (taken_at (K.Symbol S.Equal) ts r.1)) ≡ Err Ended
    with_empty r [] i = refl
    with_empty r (t ∷ ts) i = absurd (cc i)

    with_reference : (u : Read T.Reference) → Open u → simple_from (target_closed s p u) ≡ Err Ended
    with_reference (Ok r) o = with_empty r r.1.tokens o
    with_reference (Err Ended) o = refl
    with_reference (Err Stuck) o = absurd o
    with_reference (Err (LeavesOut d)) o = absurd o

pub unknown_assigning : (s : List ℕ) (p : Place) (c : Cursor) → assigns s c ≡ Unknown → simple_from (assignment_from s p c) ≡ Err Ended
unknown_assigning s p c e =
    let i = not_if s c Unknown e (λ d. cc d) in
    open_assigning s p c (unknown_opens s c (sym (assigns_else s c i) ∙ e))

-- ---- where some tokens behind make a head of them

-- a head is not whole, and not left out; but ELSE is, which begins no assignment
pub data NotWhole (s : List ℕ) (c : Cursor) (w : Word) : Type 0 where
  stuck : head_from s c ≡ Err Stuck → NotWhole s c w
  ends : head_from s c ≡ Err Ended → NotWhole s c w
  is_else : w ≡ W.Else → assigns s c ≢ Begins → NotWhole s c w

module _ (s : List ℕ) (t : Token) (w : Word) (m : Marks) (is : t.kind ≡ K.Name w) (mid more : List Token) where
  abbrev here : Cursor
  here = at s t w m is (t ∷ mid)

  abbrev there : Cursor
  there = longer here more

  -- what it goes on as
  pub data GoesOn (x : Head × Cursor) : Type 0 where
    assigned : ends_assignment s (assigns s here) (place_of t) here ≡ true → IsAssigned x.0 → GoesOn x
    of_word : ends_word s (assigns s here) (t ∷ mid) (place_of t) w (at s t w m is mid) ≡ true → assigns s there ≢ Begins → GoesOn x
    else_again : w ≡ W.Else → assigns s here ≢ Begins → assigns s there ≢ Begins → GoesOn x

  abbrev assigning_here : Read Head
  assigning_here = assigning s t w m is (t ∷ mid)

  abbrev assigning_there : Read Head
  assigning_there = assigning s t w m is (t ∷ (mid ++ more))

  assigned_ends : (x : Head × Cursor) (b : Beginning) → assigns s here ≡ b → may_assign b ≡ true → assigning_here ≡ Err Ended → assigning_there ≡ Ok x → GoesOn x
  assigned_ends x b e may over i =
      let a : may_assign (assigns s here) ≡ true = ap may_assign e ∙ may in
      GoesOn.assigned (ap (λ u. u && is_ended assigning_here) a ∙ ended_is assigning_here over) (assigning_is s (place_of t) there x i)

  -- it is an assignment with more behind
  as_assigned : (x : Head × Cursor) → NotWhole s here w → assigning_there ≡ Ok x → assigns s there ≡ Begins → (b : Beginning) → assigns s here ≡ b → GoesOn x
  as_assigned x n i e Differs h = absurd (cc (differs_longer s here more h, e))
  as_assigned x n i e Unknown h = assigned_ends x Unknown h refl (unknown_assigning s (place_of t) here h) i
  as_assigned x (NotWhole.is_else j none) i e Begins h = absurd (none h)
  as_assigned x (NotWhole.ends j) i e Begins h = assigned_ends x Begins h refl (sym (head_begun s t w m is mid h) ∙ j) i
  as_assigned x (NotWhole.stuck j) i e Begins h =
      let k : is_done assigning_there ≡ false = stuck_longer more assigning_here assigning_there ((prefix_assigning s (place_of t)).stays here more) (sym (head_begun s t w m is mid h) ∙ j) in
      absurd (cc (ap is_done i, k))

  abbrev wording_here : Read Head
  wording_here = wording s t w m is (t ∷ mid) mid

  abbrev wording_there : Read Head
  wording_there = wording s t w m is (t ∷ (mid ++ more)) (mid ++ more)

  wording_longer : Stays more wording_here wording_there
  wording_longer = word_stays s (t ∷ mid) (t ∷ (mid ++ more)) (place_of t) w (at s t w m is mid) more

  worded_ends : (x : Head × Cursor) → (is_not_begun (assigns s here) || is_if w) ≡ true → wording_here ≡ Err Ended → assigns s there ≢ Begins → GoesOn x
  worded_ends x may over none = GoesOn.of_word (ap (λ u. u && is_ended wording_here) may ∙ ended_is wording_here over) none

  not_begun_may : (b : Beginning) → b ≢ Begins → (is_not_begun b || is_if w) ≡ true
  not_begun_may Begins n = absurd (n refl)
  not_begun_may Differs n = refl
  not_begun_may Unknown n = refl

  -- it is no assignment, with more behind or without
  as_worded : (x : Head × Cursor) → NotWhole s here w → wording_there ≡ Ok x → assigns s there ≢ Begins → assigns s here ≢ Begins → GoesOn x
  as_worded x (NotWhole.is_else j k) i none n = GoesOn.else_again j n none
  as_worded x (NotWhole.ends j) i none n = worded_ends x (not_begun_may (assigns s here) n) (sym (head_worded s t w m is mid n) ∙ j) none
  as_worded x (NotWhole.stuck j) i none n =
      let k : is_done wording_there ≡ false = stuck_longer more wording_here wording_there wording_longer (sym (head_worded s t w m is mid n) ∙ j) in
      absurd (cc (ap is_done i, k))

  -- what begins an assignment is an IF with more behind
  word_if : begins_if s there ≡ true → w ≡ W.If
  unfolding begins_if
  word_if e =
      let k : is_terminal (K.Name W.If) t.kind ≡ true = chosen_first (is_terminal (K.Name W.If) t.kind) (condition_then s (at s t w m is (mid ++ more))) e in
      let j : t.kind ≡ K.Name W.If = terminal_is (K.Name W.If) t.kind k in
      let i : K.Name w ≡ K.Name W.If = sym is ∙ j in
      cc i

  opened_there : begins_if s there ≡ true → begins (K.Symbol S.OpenParenthesis) (at s t w m is (mid ++ more)) ≡ true
  unfolding begins_if
  opened_there e =
      let d : Cursor = at s t w m is (mid ++ more) in
      let inside = chosen_second (is_terminal (K.Name W.If) t.kind) (condition_then s d) e in
      chosen_first (begins (K.Symbol S.OpenParenthesis) d) (then_behind (expr_from s d)) inside

  -- behind the word an expression was read, so that the parenthesis stands there without more
  opened_here : (ts : List Token) → starts (K.Symbol S.OpenParenthesis) (ts ++ more) ≡ true → then_behind (expr_from s (at s t w m is ts)) ≡ true → starts (K.Symbol S.OpenParenthesis) ts ≡ true
  opened_here [] o e = absurd (nothing_read s m e)
  opened_here (u ∷ us) o e = o

  if_here : begins_if s there ≡ true → then_behind (expr_from s (at s t w m is mid)) ≡ true → begins_if s here ≡ true
  unfolding begins_if
  if_here e h =
      let d : Cursor = at s t w m is mid in
      let k : is_terminal (K.Name W.If) t.kind ≡ true = chosen_first (is_terminal (K.Name W.If) t.kind) (condition_then s (at s t w m is (mid ++ more))) e in
      let o : begins (K.Symbol S.OpenParenthesis) d ≡ true = opened_here mid (opened_there e) h in
      if_true (is_terminal (K.Name W.If) t.kind) (condition_then s d) false k ∙ (if_true (begins (K.Symbol S.OpenParenthesis) d) (then_behind (expr_from s d)) false o ∙ h)

  pub if_behind : (front ts : List Token) → w ≡ W.If → wording s t w m is front ts ≡ if_from s (place_of t) (at s t w m is ts)
  unfolding head_behind
  if_behind front ts i = ap (λ v. head_behind s front (place_of t) v (at s t w m is ts)) i

  -- what begins an assignment goes on as an IF
  as_if : (x : Head × Cursor) → w ≡ W.If → begins_if s there ≡ true → assigns s here ≡ Begins → wording_there ≡ Ok x → assigns s there ≢ Begins → (r : Read Head) → wording_here ≡ r → GoesOn x
  as_if x i e b j none (Ok y) h =
      let k = if_then_read s (place_of t) (at s t w m is mid) y (sym (if_behind (t ∷ mid) mid i) ∙ h) in
      let d : assigns s here ≡ Differs = assigns_if s here (if_here e k) in
      absurd (cc (b, d))
  as_if x i e b j none (Err Stuck) h = absurd (cc (ap is_done j, stuck_longer more wording_here wording_there wording_longer h))
  as_if x i e b j none (Err Ended) h =
      let a : (is_not_begun (assigns s here) || is_if w) ≡ true = ap (λ u. is_not_begun u || is_if w) b ∙ ap is_if i in
      worded_ends x a h none
  as_if x i e b j none (Err (LeavesOut d)) h =
      absurd (if_never s (place_of t) (at s t w m is mid) d (sym (if_behind (t ∷ mid) mid i) ∙ h))

  -- an assignment begins here, and with more behind doesn't
  begun_if : assigns s here ≡ Begins → assigns s there ≢ Begins → begins_if s there ≡ true
  begun_if b n = by_if (begins_if s there) refl
    where
      by_if : (u : Bool) → begins_if s there ≡ u → begins_if s there ≡ true
      by_if true i = i
      by_if false i =
          let a : assignment_begins s here ≡ Begins = sym (assigns_else s here (not_if s here Begins b (λ d. cc d))) ∙ b in
          absurd (n (assigns_else s there i ∙ (begins_stays s here more (λ u. cc (a, u)) ∙ a)))

  worded_there : (x : Head × Cursor) → NotWhole s here w → wording_there ≡ Ok x → assigns s there ≢ Begins → (b : Beginning) → assigns s here ≡ b → GoesOn x
  worded_there x n i none Begins h =
      let e = begun_if h none in
      as_if x (word_if e) e h i none wording_here refl
  worded_there x n i none Differs h = as_worded x n i none (λ u. cc (h, u))
  worded_there x n i none Unknown h = as_worded x n i none (λ u. cc (h, u))

  -- a head with more behind goes on as an assignment, or as its word says
  pub goes_on : (x : Head × Cursor) → NotWhole s here w → head_from s there ≡ Ok x → GoesOn x
  goes_on x n e = by_beginning (assigns s there) refl
    where
      by_beginning : (b : Beginning) → assigns s there ≡ b → GoesOn x
      by_beginning Begins i = as_assigned x n (sym (head_begun s t w m is (mid ++ more) i) ∙ e) i (assigns s here) refl
      by_beginning Differs i = worded_there x n (sym (head_worded s t w m is (mid ++ more) (λ u. cc (i, u))) ∙ e) (λ u. cc (i, u)) (assigns s here) refl
      by_beginning Unknown i = worded_there x n (sym (head_worded s t w m is (mid ++ more) (λ u. cc (i, u))) ∙ e) (λ u. cc (i, u)) (assigns s here) refl
