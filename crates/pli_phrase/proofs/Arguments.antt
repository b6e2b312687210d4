-- Lists of expressions and arguments: what is read is what is spelled, with its marks.
use Rattle.std.specs.Prelude.{if◌then◌else◌}
use Rattle.std.proofs.Common.{◌≡◌, ◌≢◌, ℕ, zero, suc, ◌<◌, ◌≤◌, List, [], ◌∷◌, length, Some, Bool, true, false, Ok, refl, sym, ap, ◌∙◌, subst, arith}
use Rattle.pli_language.specs.declared.token.Symbol.TheVariants as S
use Rattle.pli_language.specs.declared.token.Kind.TheVariants as K
use Rattle.pli_language.specs.declared.token.Token.{Token}
use Rattle.pli_language.specs.Spells as G
use Rattle.pli_language.specs.Spells.{Takes, next_kind, place_of, SpellsExprs, SpellsArguments}
use Rattle.pli_language.specs.Marks.{Marks, argument, first_place, expr_marks, exprs_marks, argument_list_marks, arguments_marks}
use Rattle.pli_language.specs.Tree as T
use Rattle.pli_phrase.specs.Cursor.{Cursor, Read, ◌>>=◌}
use Rattle.pli_phrase.specs.Tokens.{starts, taken}
use Rattle.pli_phrase.specs.Reading.{expr_from, argument_at, item_due, items_from, exprs_with, exprs_from, listed_from, arguments_from}
use Rattle.pli_phrase.proofs.Tokens.{starts_not, starts_differs, symbol_is, taken_takes, takes_taken, takes_starts}
use Rattle.pli_phrase.proofs.Spelled.{Starts, at_first, at_shorter, exprs_shorter, arguments_shorter}
use Rattle.pli_phrase.proofs.Expressions.{bind_ok, expr_complete, expr_sound}

-- the marks of a list of arguments, or of expressions that are none
abbrev pub list_marks : Bool → T.Exprs → Marks → Marks
list_marks true es m = argument_list_marks es m
list_marks false es m = exprs_marks es m

abbrev pub due_marks : Bool → T.Expr → Marks → Marks
due_marks true e m = argument (first_place e) m
due_marks false e m = m

marks_then : (are : Bool) (e : T.Expr) (es : T.Exprs) (m : Marks) → list_marks are es (expr_marks e (due_marks are e m)) ≡ list_marks are (T.ExprThen e es) m
unfolding argument_list_marks exprs_marks
marks_then true e es m = refl
marks_then false e es m = refl

marks_none : (are : Bool) (m : Marks) → list_marks are T.NoExpr m ≡ m
unfolding argument_list_marks exprs_marks
marks_none true m = refl
marks_none false m = refl

due_first : (are : Bool) (e : T.Expr) {ts : List Token} (m : Marks) → Starts ts (first_place e) → item_due are (record { tokens = ts; marks = m }) ≡ record { tokens = ts; marks = due_marks are e m }
due_first true e {ts} m b =
    let at : Marks → Cursor = λ u. record { tokens = ts; marks = u } in
    ap at (ap (λ u. argument_at u m) b.is ∙ ap (λ p. argument p m) (sym b.place))
due_first false e m b = refl

-- ---- what is spelled is read

abbrev pub Then : ℕ → Bool → List ℕ → List T.Expr → T.Expr × Cursor → Read T.Exprs
Then n are s before x =
    if starts (K.Symbol S.Comma) x.1.tokens then (taken (K.Symbol S.Comma) x.1 >>= λ comma. items_from n are s (x.0 ∷ before) comma.1) else Ok (exprs_with (x.0 ∷ before) T.NoExpr, x.1)

items_then : (n : ℕ) (are : Bool) (s : List ℕ) (before : List T.Expr) (c : Cursor) (x : T.Expr × Cursor) → expr_from s (item_due are c) ≡ Ok x → items_from (suc n) are s before c ≡ Then n are s before x
unfolding items_from
items_then n are s before c x h = ap (λ r. r >>= λ x. Then n are s before x) h

item_complete : (are : Bool) {s : List ℕ} {ts rest : List Token} {e : T.Expr} (m : Marks) → G.SpellsExpr s ts e rest → expr_from s (item_due are (record { tokens = ts; marks = m })) ≡ Ok (e, record { tokens = rest; marks = expr_marks e (due_marks are e m) })
item_complete are {s} {ts} {rest} {e} m a = ap (expr_from s) (due_first are e m (at_first a)) ∙ expr_complete a (due_marks are e m)

items_complete : (n : ℕ) (are : Bool) {s : List ℕ} {ts rest : List Token} {es : T.Exprs} → SpellsExprs s ts es rest → (before : List T.Expr) (m : Marks) → length ts < n → items_from n are s before (record { tokens = ts; marks = m }) ≡ Ok (exprs_with before es, record { tokens = rest; marks = list_marks are es m })
items_complete zero are x before m h = absurd (omega (arith, h))
items_complete (suc n) are {s} (G.one ts rest e a stop) before m h =
    let m' = expr_marks e (due_marks are e m) in
    let c' : Cursor = record { tokens = rest; marks = m' } in
    let r1 = items_then n are s before (record { tokens = ts; marks = m }) (e, c') (item_complete are m a) in
    let f : Bool → Read T.Exprs = λ b. if b then (taken (K.Symbol S.Comma) c' >>= λ comma. items_from n are s (e ∷ before) comma.1) else Ok (exprs_with (e ∷ before) T.NoExpr, c') in
    let g : Marks → Read T.Exprs = λ u. Ok (exprs_with (e ∷ before) T.NoExpr, record { tokens = rest; marks = u }) in
    r1 ∙ ap f (starts_not (K.Symbol S.Comma) rest stop) ∙ ap g (sym (marks_none are m') ∙ marks_then are e T.NoExpr m)
items_complete (suc n) are {s} (G.more ts mid after rest t e es a comma others) before m h =
    let m' = expr_marks e (due_marks are e m) in
    let c' : Cursor = record { tokens = mid; marks = m' } in
    let r1 = items_then n are s before (record { tokens = ts; marks = m }) (e, c') (item_complete are m a) in
    let go : Token × Cursor → Read T.Exprs = λ x. items_from n are s (e ∷ before) x.1 in
    let f : Bool → Read T.Exprs = λ b. if b then (taken (K.Symbol S.Comma) c' >>= λ x. go x) else Ok (exprs_with (e ∷ before) T.NoExpr, c') in
    let g : Marks → Read T.Exprs = λ u. Ok (exprs_with (e ∷ before) es, record { tokens = rest; marks = u }) in
    let k : Read Token → Read T.Exprs = λ r. r >>= λ x. go x in
    let less : length after < n = omega (arith, h, at_shorter a, ap length comma.is) in
    r1 ∙ ap f (takes_starts (K.Symbol S.Comma) (symbol_is S.Comma) comma) ∙ ap k (takes_taken (K.Symbol S.Comma) m' (symbol_is S.Comma) comma) ∙ items_complete n are others (e ∷ before) m' less ∙ ap g (marks_then are e es m)

pub exprs_complete : {s : List ℕ} {ts rest : List Token} {es : T.Exprs} → SpellsExprs s ts es rest → (m : Marks) → exprs_from s (record { tokens = ts; marks = m }) ≡ Ok (es, record { tokens = rest; marks = exprs_marks es m })
unfolding exprs_from
exprs_complete {s} {ts} x m = items_complete (suc (length ts)) false x [] m (omega arith)

listed_complete : {s : List ℕ} {after mid rest : List Token} {u : Token} {es : T.Exprs} → next_kind after ≢ Some (K.Symbol S.CloseParenthesis) → SpellsExprs s after es mid → Takes mid (K.Symbol S.CloseParenthesis) u rest → (m : Marks) → listed_from s (record { tokens = after; marks = m }) ≡ Ok (T.Listed es, record { tokens = rest; marks = argument_list_marks es m })
listed_complete {s} {after} {mid} {rest} {u} {es} stop inside close m =
    let c : Cursor = record { tokens = after; marks = m } in
    let m' = argument_list_marks es m in
    let many : Read T.Arguments = items_from (suc (length after)) true s [] c >>= λ x. (taken (K.Symbol S.CloseParenthesis) x.1 >>= λ v. Ok (T.Listed x.0, v.1)) in
    let f : Bool → Read T.Arguments = λ b. if b then (taken (K.Symbol S.CloseParenthesis) c >>= λ v. Ok (T.Listed T.NoExpr, v.1)) else many in
    let g : Read T.Exprs → Read T.Arguments = λ r. r >>= λ x. (taken (K.Symbol S.CloseParenthesis) x.1 >>= λ v. Ok (T.Listed x.0, v.1)) in
    let k : Read Token → Read T.Arguments = λ r. r >>= λ v. Ok (T.Listed es, v.1) in
    ap f (starts_not (K.Symbol S.CloseParenthesis) after stop) ∙ ap g (items_complete (suc (length after)) true inside [] m (omega arith)) ∙ ap k (takes_taken (K.Symbol S.CloseParenthesis) m' (symbol_is S.CloseParenthesis) close)

empty_complete : (s : List ℕ) {mid rest : List Token} {u : Token} → Takes mid (K.Symbol S.CloseParenthesis) u rest → (m : Marks) → listed_from s (record { tokens = mid; marks = m }) ≡ Ok (T.Listed T.NoExpr, record { tokens = rest; marks = m })
empty_complete s {mid} {rest} {u} close m =
    let c : Cursor = record { tokens = mid; marks = m } in
    let many : Read T.Arguments = items_from (suc (length mid)) true s [] c >>= λ x. (taken (K.Symbol S.CloseParenthesis) x.1 >>= λ v. Ok (T.Listed x.0, v.1)) in
    let f : Bool → Read T.Arguments = λ b. if b then (taken (K.Symbol S.CloseParenthesis) c >>= λ v. Ok (T.Listed T.NoExpr, v.1)) else many in
    let k : Read Token → Read T.Arguments = λ r. r >>= λ v. Ok (T.Listed T.NoExpr, v.1) in
    ap f (takes_starts (K.Symbol S.CloseParenthesis) (symbol_is S.CloseParenthesis) close) ∙ ap k (takes_taken (K.Symbol S.CloseParenthesis) m (symbol_is S.CloseParenthesis) close)

opened_complete : (s : List ℕ) {ts after : List Token} {t : Token} (z : Read T.Arguments) (m : Marks) → Takes ts (K.Symbol S.OpenParenthesis) t after → listed_from s (record { tokens = after; marks = m }) ≡ z → arguments_from s (record { tokens = ts; marks = m }) ≡ z
unfolding arguments_from
opened_complete s {ts} {after} {t} z m take h =
    let c : Cursor = record { tokens = ts; marks = m } in
    let f : Bool → Read T.Arguments = λ b. if b then (taken (K.Symbol S.OpenParenthesis) c >>= λ v. listed_from s v.1) else Ok (T.Absent, c) in
    let k : Read Token → Read T.Arguments = λ r. r >>= λ v. listed_from s v.1 in
    ap f (takes_starts (K.Symbol S.OpenParenthesis) (symbol_is S.OpenParenthesis) take) ∙ ap k (takes_taken (K.Symbol S.OpenParenthesis) m (symbol_is S.OpenParenthesis) take) ∙ h

absent_complete : (s : List ℕ) (ts : List Token) (m : Marks) → next_kind ts ≢ Some (K.Symbol S.OpenParenthesis) → arguments_from s (record { tokens = ts; marks = m }) ≡ Ok (T.Absent, record { tokens = ts; marks = m })
unfolding arguments_from
absent_complete s ts m stop =
    let c : Cursor = record { tokens = ts; marks = m } in
    let f : Bool → Read T.Arguments = λ b. if b then (taken (K.Symbol S.OpenParenthesis) c >>= λ v. listed_from s v.1) else Ok (T.Absent, c) in
    ap f (starts_not (K.Symbol S.OpenParenthesis) ts stop)

pub arguments_complete : {s : List ℕ} {ts rest : List Token} {a : T.Arguments} → SpellsArguments s ts a rest → (m : Marks) → arguments_from s (record { tokens = ts; marks = m }) ≡ Ok (a, record { tokens = rest; marks = arguments_marks a m })
unfolding arguments_marks argument_list_marks
arguments_complete {s} (G.absent ts stop) m = absent_complete s ts m stop
arguments_complete {s} {rest = rest} (G.empty ts mid rest' t u take close) m =
    opened_complete s (Ok (T.Listed T.NoExpr, record { tokens = rest; marks = m })) m take (empty_complete s close m)
arguments_complete {s} {rest = rest} (G.listed ts after mid rest' t u es take stop inside close) m =
    opened_complete s (Ok (T.Listed es, record { tokens = rest; marks = argument_list_marks es m })) m take (listed_complete stop inside close m)

-- ---- what is read is spelled

-- expressions behind others
pub record SpelledItems (s : List ℕ) (before : List T.Expr) (ts : List Token) (all : T.Exprs) (rest : List Token) : Type 0 where
  pub es : T.Exprs
  pub is : all ≡ exprs_with before es
  pub spelled : SpellsExprs s ts es rest

due_tokens : (are : Bool) (c : Cursor) → (item_due are c).tokens ≡ c.tokens
due_tokens true c = refl
due_tokens false c = refl

then_sound : (n : ℕ) (are : Bool) (s : List ℕ) (before : List T.Expr) (ts : List Token) (e : T.Expr) (b : Cursor) (x : T.Exprs × Cursor) (test : Bool) → starts (K.Symbol S.Comma) b.tokens ≡ test → G.SpellsExpr s ts e b.tokens → ((before : List T.Expr) (c : Cursor) → items_from n are s before c ≡ Ok x → SpelledItems s before c.tokens x.0 x.1.tokens) → (if test then (taken (K.Symbol S.Comma) b >>= λ comma. items_from n are s (e ∷ before) comma.1) else Ok (exprs_with (e ∷ before) T.NoExpr, b)) ≡ Ok x → SpelledItems s before ts x.0 x.1.tokens
then_sound n are s before ts e b x true h a others eq =
    let p = bind_ok (taken (K.Symbol S.Comma) b) (λ comma. items_from n are s (e ∷ before) comma.1) x eq in
    let k = taken_takes (K.Symbol S.Comma) b p.value p.part in
    let i = others (e ∷ before) p.value.1 p.whole in
    record { es = T.ExprThen e i.es; is = i.is; spelled = G.more ts b.tokens p.value.1.tokens x.1.tokens p.value.0 e i.es a k.take i.spelled }
then_sound n are s before ts e b x false h a others eq =
    let same : (exprs_with (e ∷ before) T.NoExpr, b) ≡ x = cc eq in
    subst (λ u. SpelledItems s before ts u.0 u.1.tokens) same (record { es = T.ExprThen e T.NoExpr; is = refl; spelled = G.one ts b.tokens e a (starts_differs (K.Symbol S.Comma) b.tokens (symbol_is S.Comma) h) })

items_sound : (n : ℕ) (are : Bool) (s : List ℕ) (before : List T.Expr) (c : Cursor) (x : T.Exprs × Cursor) → items_from n are s before c ≡ Ok x → SpelledItems s before c.tokens x.0 x.1.tokens
unfolding items_from
items_sound zero are s before c x h = absurd (cc h)
items_sound (suc n) are s before c x h =
    let p = bind_ok (expr_from s (item_due are c)) (λ y. Then n are s before y) x h in
    let e = expr_sound s (item_due are c) p.value p.part in
    let a = subst (λ u. G.SpellsExpr s u p.value.0 p.value.1.tokens) (due_tokens are c) e.spelled in
    then_sound n are s before c.tokens p.value.0 p.value.1 x (starts (K.Symbol S.Comma) p.value.1.tokens) refl a (λ bs d e. items_sound n are s bs d x e) p.whole

items_spelled : (n : ℕ) (are : Bool) (s : List ℕ) (c : Cursor) (x : T.Exprs × Cursor) → items_from n are s [] c ≡ Ok x → SpellsExprs s c.tokens x.0 x.1.tokens
items_spelled n are s c x h =
    let i = items_sound n are s [] c x h in
    subst (λ u. SpellsExprs s c.tokens u x.1.tokens) (sym i.is) i.spelled

pub record SoundExprs (s : List ℕ) (c : Cursor) (es : T.Exprs) (behind : Cursor) : Type 0 where
  pub spelled : SpellsExprs s c.tokens es behind.tokens
  pub marks : behind.marks ≡ exprs_marks es c.marks
  pub shorter : length behind.tokens < length c.tokens

exprs_marked : (s : List ℕ) (c : Cursor) (x : T.Exprs × Cursor) → exprs_from s c ≡ Ok x → SpellsExprs s c.tokens x.0 x.1.tokens → SoundExprs s c x.0 x.1
exprs_marked s c x h spelled =
    let e : Ok x ≡ Ok (x.0, record { tokens = x.1.tokens; marks = exprs_marks x.0 c.marks }) = sym h ∙ exprs_complete spelled c.marks in
    let same : x ≡ (x.0, record { tokens = x.1.tokens; marks = exprs_marks x.0 c.marks }) = cc e in
    record { spelled = spelled; marks = ap (λ u. u.1.marks) same; shorter = exprs_shorter spelled }

pub exprs_sound : (s : List ℕ) (c : Cursor) (x : T.Exprs × Cursor) → exprs_from s c ≡ Ok x → SoundExprs s c x.0 x.1
unfolding exprs_from
exprs_sound s c x h = exprs_marked s c x h (items_spelled (suc (length c.tokens)) false s c x h)

pub record SoundArguments (s : List ℕ) (c : Cursor) (a : T.Arguments) (behind : Cursor) : Type 0 where
  pub spelled : SpellsArguments s c.tokens a behind.tokens
  pub marks : behind.marks ≡ arguments_marks a c.marks
  pub no_longer : length behind.tokens ≤ length c.tokens

arguments_marked : (s : List ℕ) (c : Cursor) (x : T.Arguments × Cursor) → arguments_from s c ≡ Ok x → SpellsArguments s c.tokens x.0 x.1.tokens → SoundArguments s c x.0 x.1
arguments_marked s c x h spelled =
    let e : Ok x ≡ Ok (x.0, record { tokens = x.1.tokens; marks = arguments_marks x.0 c.marks }) = sym h ∙ arguments_complete spelled c.marks in
    let same : x ≡ (x.0, record { tokens = x.1.tokens; marks = arguments_marks x.0 c.marks }) = cc e in
    record { spelled = spelled; marks = ap (λ u. u.1.marks) same; no_longer = arguments_shorter spelled }

listed_sound : (s : List ℕ) (ts : List Token) (t : Token) (c : Cursor) (x : T.Arguments × Cursor) (test : Bool) → Takes ts (K.Symbol S.OpenParenthesis) t c.tokens → starts (K.Symbol S.CloseParenthesis) c.tokens ≡ test → (if test then (taken (K.Symbol S.CloseParenthesis) c >>= λ u. Ok (T.Listed T.NoExpr, u.1)) else (items_from (suc (length c.tokens)) true s [] c >>= λ es. taken (K.Symbol S.CloseParenthesis) es.1 >>= λ u. Ok (T.Listed es.0, u.1))) ≡ Ok x → SpellsArguments s ts x.0 x.1.tokens
listed_sound s ts t c x true take h e =
    let f : Token × Cursor → Read T.Arguments = λ u. Ok (T.Listed T.NoExpr, u.1) in
    let p = bind_ok (taken (K.Symbol S.CloseParenthesis) c) f x e in
    let k = taken_takes (K.Symbol S.CloseParenthesis) c p.value p.part in
    let same : (T.Listed T.NoExpr, p.value.1) ≡ x = cc (p.whole) in
    subst (λ u. SpellsArguments s ts u.0 u.1.tokens) same (G.empty ts c.tokens p.value.1.tokens t p.value.0 take k.take)
listed_sound s ts t c x false take h e =
    let g : T.Exprs × Cursor → Read T.Arguments = λ es. taken (K.Symbol S.CloseParenthesis) es.1 >>= λ u. Ok (T.Listed es.0, u.1) in
    let q = bind_ok (items_from (suc (length c.tokens)) true s [] c) g x e in
    let f : Token × Cursor → Read T.Arguments = λ u. Ok (T.Listed q.value.0, u.1) in
    let p = bind_ok (taken (K.Symbol S.CloseParenthesis) q.value.1) f x q.whole in
    let k = taken_takes (K.Symbol S.CloseParenthesis) q.value.1 p.value p.part in
    let inside = items_spelled (suc (length c.tokens)) true s c q.value q.part in
    let stop = starts_differs (K.Symbol S.CloseParenthesis) c.tokens (symbol_is S.CloseParenthesis) h in
    let same : (T.Listed q.value.0, p.value.1) ≡ x = cc (p.whole) in
    subst (λ u. SpellsArguments s ts u.0 u.1.tokens) same (G.listed ts c.tokens q.value.1.tokens p.value.1.tokens t p.value.0 q.value.0 take stop inside k.take)

opened_sound : (s : List ℕ) (c : Cursor) (x : T.Arguments × Cursor) (test : Bool) → starts (K.Symbol S.OpenParenthesis) c.tokens ≡ test → (if test then (taken (K.Symbol S.OpenParenthesis) c >>= λ t. listed_from s t.1) else Ok (T.Absent, c)) ≡ Ok x → SpellsArguments s c.tokens x.0 x.1.tokens
opened_sound s c x true h e =
    let p = bind_ok (taken (K.Symbol S.OpenParenthesis) c) (λ t. listed_from s t.1) x e in
    let k = taken_takes (K.Symbol S.OpenParenthesis) c p.value p.part in
    listed_sound s c.tokens p.value.0 p.value.1 x (starts (K.Symbol S.CloseParenthesis) p.value.1.tokens) k.take refl p.whole
opened_sound s c x false h e =
    let same : (T.Absent, c) ≡ x = cc e in
    subst (λ u. SpellsArguments s c.tokens u.0 u.1.tokens) same (G.absent c.tokens (starts_differs (K.Symbol S.OpenParenthesis) c.tokens (symbol_is S.OpenParenthesis) h))

pub arguments_sound : (s : List ℕ) (c : Cursor) (x : T.Arguments × Cursor) → arguments_from s c ≡ Ok x → SoundArguments s c x.0 x.1
unfolding arguments_from
arguments_sound s c x h = arguments_marked s c x h (opened_sound s c x (starts (K.Symbol S.OpenParenthesis) c.tokens) refl h)
