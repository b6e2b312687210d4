-- Expressions and references: what is read is what is spelled, with its marks.
use Rattle.std.proofs.Common.{◌≡◌, ℕ, ◌<◌, List, [], ◌∷◌, length, Option, Some, None, Result, Ok, Err, refl, sym, ap, ◌∙◌, subst}
use Rattle.pli_language.specs.declared.token.Kind.{Kind}
use Rattle.pli_language.specs.declared.token.Token.{Token}
use Rattle.pli_language.specs.declared.expr.InfixOp.{InfixOp}
use Rattle.pli_language.specs.Spells as G
use Rattle.pli_language.specs.Spells.{next_kind, Level, Disjoining, SpellsAt, SpellsPrimary, SpellsReference, SpellsExpr}
use Rattle.pli_language.specs.Marks.{Marks, expr_marks, reference_marks}
use Rattle.pli_language.specs.Tree as T
use Rattle.pli_phrase.specs.Cursor.{Cursor, Missed, LeavesOut, Read, ◌>>=◌}
use Rattle.pli_phrase.specs.Reading.{infix_of, Frame, Before, Between, Group, Listing, Alone, State, OperandDue, NameDue, NameRead, ArgumentsRead, OperandRead, no_path, Step, On, Ends, Fails, climbed, behind_operand, step, whole, ended, follow, run, expr_from, reference_from, as_reference, referred}
use Rattle.pli_phrase.proofs.Operators.{Quiet, levelled, at_quiet}
use Rattle.pli_phrase.proofs.Runs.{run_ends, run_empty}
use Rattle.pli_phrase.proofs.Spelled.{at_shorter, reference_shorter}
use Rattle.pli_phrase.proofs.CompleteExpressions.{at_reads, reference_reads}
use Rattle.pli_phrase.proofs.SoundExpressions.{run_sound, whole_due, alone_due, level_most}

-- ---- parts

pub record Both {A B : Type 0} (r : Result A Missed) (f : A → Result B Missed) (y : B) : Type 0 where
  pub value : A
  pub part : r ≡ Ok value
  pub whole : f value ≡ Ok y

pub bind_ok : {A B : Type 0} (r : Result A Missed) (f : A → Result B Missed) (y : B) → (r >>= f) ≡ Ok y → Both r f y
bind_ok (Ok x) f y e = record { value = x; part = refl; whole = e }
bind_ok (Err x) f y e = absurd (cc e)

-- ---- what is spelled is read

loud : (k : Kind) (op : InfixOp) → infix_of k ≡ Some op → Quiet 6 (Some k) → ⊥
loud k op e q =
    let l = levelled k op e in
    let c : Some op ≡ None = sym l.is ∙ q l.level (level_most l.level) in
    cc c

quiet_kind : (k : Kind) (o : Option InfixOp) → infix_of k ≡ o → Quiet 6 (Some k) → o ≡ None
quiet_kind k None e q = refl
quiet_kind k (Some op) e q = absurd (loud k op e q)

run_finish : (s : List ℕ) (e : T.Expr) (m : Marks) (rest : List Token) → Quiet 6 (next_kind rest) → run s (OperandRead e) [] m rest ≡ Ok (e, record { tokens = rest; marks = m })
run_finish s e m [] q = run_empty s (OperandRead e) [] m
run_finish s e m (t ∷ ts) q =
    run_ends s (OperandRead e) [] m m e t ts (ap (λ o. behind_operand o [] e t.kind m) (quiet_kind t.kind (infix_of t.kind) refl q))

alone_step : (o : Option InfixOp) (e : T.Expr) (k : Kind) (m : Marks) → behind_operand o (Alone ∷ []) e k m ≡ Ends e m
alone_step None e k m = refl
alone_step (Some op) e k m = refl

run_alone : (s : List ℕ) (e : T.Expr) (m : Marks) (rest : List Token) → run s (OperandRead e) (Alone ∷ []) m rest ≡ Ok (e, record { tokens = rest; marks = m })
run_alone s e m [] = run_empty s (OperandRead e) (Alone ∷ []) m
run_alone s e m (t ∷ ts) = run_ends s (OperandRead e) (Alone ∷ []) m m e t ts (alone_step (infix_of t.kind) e t.kind m)

pub expr_complete : {s : List ℕ} {ts rest : List Token} {e : T.Expr} → SpellsExpr s ts e rest → (m : Marks) → expr_from s (record { tokens = ts; marks = m }) ≡ Ok (e, record { tokens = rest; marks = expr_marks e m })
unfolding expr_from
expr_complete {s} {ts} {rest} {e} x m = at_reads s x [] tt m ∙ run_finish s e (expr_marks e m) rest (at_quiet x)

pub reference_complete : {s : List ℕ} {ts rest : List Token} {r : T.Reference} → SpellsReference s ts r rest → (m : Marks) → reference_from s (record { tokens = ts; marks = m }) ≡ Ok (r, record { tokens = rest; marks = reference_marks r m })
unfolding reference_from
reference_complete {s} {ts} {rest} {r} x m =
    ap (λ y. y >>= λ z. as_reference z) (reference_reads s x (Alone ∷ []) m ∙ run_alone s (T.Refers r) (reference_marks r m) rest)

-- ---- what is read is spelled

pub record SoundExpr (s : List ℕ) (c : Cursor) (e : T.Expr) (behind : Cursor) : Type 0 where
  pub spelled : SpellsExpr s c.tokens e behind.tokens
  pub marks : behind.marks ≡ expr_marks e c.marks
  pub shorter : length behind.tokens < length c.tokens

expr_marked : (s : List ℕ) (c : Cursor) (x : T.Expr × Cursor) → expr_from s c ≡ Ok x → SpellsExpr s c.tokens x.0 x.1.tokens → SoundExpr s c x.0 x.1
expr_marked s c x h spelled =
    let e : Ok x ≡ Ok (x.0, record { tokens = x.1.tokens; marks = expr_marks x.0 c.marks }) = sym h ∙ expr_complete spelled c.marks in
    let same : x ≡ (x.0, record { tokens = x.1.tokens; marks = expr_marks x.0 c.marks }) = cc e in
    record { spelled = spelled; marks = ap (λ u. u.1.marks) same; shorter = at_shorter spelled }

pub expr_sound : (s : List ℕ) (c : Cursor) (x : T.Expr × Cursor) → expr_from s c ≡ Ok x → SoundExpr s c x.0 x.1
unfolding expr_from
expr_sound s c x h =
    expr_marked s c x h (run_sound s (λ e rest. SpellsExpr s c.tokens e rest) c.tokens OperandDue [] c.marks x (whole_due c.tokens (λ e rest p. p)) h)

pub record SoundReference (s : List ℕ) (c : Cursor) (r : T.Reference) (behind : Cursor) : Type 0 where
  pub spelled : SpellsReference s c.tokens r behind.tokens
  pub marks : behind.marks ≡ reference_marks r c.marks
  pub shorter : length behind.tokens < length c.tokens

primary_reference : {s : List ℕ} {ts rest : List Token} {e : T.Expr} {r : T.Reference} → SpellsPrimary s ts e rest → e ≡ T.Refers r → SpellsReference s ts r rest
primary_reference (G.number ts rest t n take) h = absurd (cc h)
primary_reference (G.text ts rest t v take spelled) h = absurd (cc h)
primary_reference (G.bit ts rest t b take) h = absurd (cc h)
primary_reference (G.parenthesized ts after mid rest t u e take inside close) h = absurd (cc h)
primary_reference {s} (G.reference ts rest r refers) h = subst (λ u. SpellsReference s ts u rest) (cc h) refers

at_reference : {s : List ℕ} {o : Option Level} {ts rest : List Token} {e : T.Expr} {r : T.Reference} → SpellsAt s o ts e rest → o ≡ None → e ≡ T.Refers r → SpellsReference s ts r rest
at_reference (G.chain level ts mid rest first e a c) n h = absurd (cc n)
at_reference (G.prefixed ts after rest t op e is pre b) n h = absurd (cc h)
at_reference (G.primary ts rest e b) n h = primary_reference b h

reference_marked : (s : List ℕ) (c : Cursor) (x : T.Reference × Cursor) → reference_from s c ≡ Ok x → SpellsReference s c.tokens x.0 x.1.tokens → SoundReference s c x.0 x.1
reference_marked s c x h spelled =
    let e : Ok x ≡ Ok (x.0, record { tokens = x.1.tokens; marks = reference_marks x.0 c.marks }) = sym h ∙ reference_complete spelled c.marks in
    let same : x ≡ (x.0, record { tokens = x.1.tokens; marks = reference_marks x.0 c.marks }) = cc e in
    record { spelled = spelled; marks = ap (λ u. u.1.marks) same; shorter = reference_shorter spelled }

referred_sound : (s : List ℕ) (ts : List Token) (e : T.Expr) (c : Cursor) (x : T.Reference × Cursor) → SpellsAt s None ts e c.tokens → as_reference (e, c) ≡ Ok x → SpellsReference s ts x.0 x.1.tokens
referred_sound s ts (T.Refers r) c x a h =
    let same : (r, c) ≡ x = cc h in
    subst (λ u. SpellsReference s ts u.0 u.1.tokens) same (at_reference a refl refl)
referred_sound s ts _ c x a h = absurd (cc h)

pub reference_sound : (s : List ℕ) (c : Cursor) (x : T.Reference × Cursor) → reference_from s c ≡ Ok x → SoundReference s c x.0 x.1
unfolding reference_from
reference_sound s c x h =
    let b = bind_ok (run s (NameDue no_path) (Alone ∷ []) c.marks c.tokens) (λ y. as_reference y) x h in
    let good = run_sound s (λ e rest. SpellsAt s None c.tokens e rest) c.tokens (NameDue no_path) (Alone ∷ []) c.marks b.value (record { from = c.tokens; due = alone_due c.tokens (λ e rest p. p); before = λ q mid r rest target arrows. G.basic c.tokens mid rest q r target arrows }) b.part in
    reference_marked s c x h (referred_sound s c.tokens b.value.0 b.value.1 x good b.whole)

-- ---- no left-out word is met

whole_stays : (c : List Frame × T.Expr) (m : Marks) (at : Cursor) → whole c m ≡ Err (LeavesOut at) → ⊥
whole_stays ([], e) m at h = cc h
whole_stays (Before op p ∷ k, e) m at h = cc h
whole_stays (Between op left ∷ k, e) m at h = cc h
whole_stays (Group p ∷ k, e) m at h = cc h
whole_stays (Listing path name es ∷ k, e) m at h = cc h
whole_stays (Alone ∷ k, e) m at h = cc h

ended_stays : (state : State) (k : List Frame) (m : Marks) (at : Cursor) → ended state k m ≡ Err (LeavesOut at) → ⊥
ended_stays (NameRead path name) k m at h = whole_stays (climbed None k (T.Refers (referred path name T.Absent))) m at h
ended_stays (ArgumentsRead path name a) k m at h = whole_stays (climbed None k (T.Refers (referred path name a))) m at h
ended_stays (OperandRead e) k m at h = whole_stays (climbed None k e) m at h
ended_stays _ k m at h = cc h

follow_stays : (s : List ℕ) (z : Step) (t : Token) (ts : List Token) (at : Cursor) → ((state : State) (k : List Frame) (m : Marks) → run s state k m ts ≡ Err (LeavesOut at) → ⊥) → follow (λ state k m. run s state k m ts) z t ts ≡ Err (LeavesOut at) → ⊥
follow_stays s (On state k m) t ts at more h = more state k m h
follow_stays s (Ends e m) t ts at more h = cc h
follow_stays s Fails t ts at more h = cc h

run_stays : (s : List ℕ) (ts : List Token) (state : State) (k : List Frame) (m : Marks) (at : Cursor) → run s state k m ts ≡ Err (LeavesOut at) → ⊥
unfolding run
run_stays s [] state k m at h = ended_stays state k m at h
run_stays s (t ∷ ts) state k m at h =
    follow_stays s (step s state k m t t.kind) t ts at (λ st fs ms e. run_stays s ts st fs ms at e) h

pub expr_stays : (s : List ℕ) (c at : Cursor) → expr_from s c ≡ Err (LeavesOut at) → ⊥
unfolding expr_from
expr_stays s c at h = run_stays s c.tokens OperandDue [] c.marks at h

as_stays : (x : T.Expr × Cursor) (at : Cursor) → as_reference x ≡ Err (LeavesOut at) → ⊥
as_stays (T.Refers r, c) at h = cc h
as_stays (T.Number n p, c) at h = cc h
as_stays (T.Text n p, c) at h = cc h
as_stays (T.Bit n p, c) at h = cc h
as_stays (T.Parenthesized e p, c) at h = cc h
as_stays (T.Prefix op e p, c) at h = cc h
as_stays (T.Infix op l r, c) at h = cc h

bind_stays : (r : Read T.Expr) (at : Cursor) → (r ≡ Err (LeavesOut at) → ⊥) → (r >>= λ x. as_reference x) ≡ Err (LeavesOut at) → ⊥
bind_stays (Ok x) at f h = as_stays x at h
bind_stays (Err e) at f h = f (let c : e ≡ LeavesOut at = cc h in ap Err c)

pub reference_stays : (s : List ℕ) (c at : Cursor) → reference_from s c ≡ Err (LeavesOut at) → ⊥
unfolding reference_from
reference_stays s c at h =
    bind_stays (run s (NameDue no_path) (Alone ∷ []) c.marks c.tokens) at (run_stays s c.tokens (NameDue no_path) (Alone ∷ []) c.marks at) h
