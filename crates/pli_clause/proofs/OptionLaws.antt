-- Options of procedures: what is read is spelled so, what is spelled is read, and what is left out is where it is said to
-- be.
use Rattle.std.proofs.Common.{◌≡◌, ℕ, zero, suc, ◌<◌, List, [], ◌∷◌, length, false, refl, ap, ◌∙◌, subst, arith, Ok, Err}
use Rattle.pli_language.specs.declared.token.Word.{Word}
use Rattle.pli_language.specs.declared.token.Word.TheVariants as W
use Rattle.pli_language.specs.declared.token.Symbol.TheVariants as S
use Rattle.pli_language.specs.declared.token.Kind.TheVariants as K
use Rattle.pli_language.specs.declared.token.Token.{Token}
use Rattle.pli_language.specs.Attributes.{SpellsAttributes, LeavesOutAttributes, attributes_marks}
use Rattle.pli_language.specs.Marks.{Marks, no_marks}
use Rattle.pli_language.specs.Spells.{Takes, next_kind}
use Rattle.pli_language.specs.Heads as G
use Rattle.pli_language.specs.Heads.{SpellsOption, SpellsOptions, LeavesOutOptions, option_marks, options_marks}
use Rattle.pli_language.specs.Tree as T
use Rattle.pli_language.proofs.UniqueParts.{option_begins}
use Rattle.pli_phrase.specs.Cursor.{Cursor, LeavesOut, ◌>>=◌}
use Rattle.pli_phrase.specs.Tokens.{starts, taken}
use Rattle.pli_attributes.proofs.Posts.{Post, never, post_ok, post_stuck, post_ended, post_bind, post_if, post_weaken, post_is}
use Rattle.pli_attributes.proofs.Tokens.{TakenBy, taken_post, not_begins, symbol_read, word_read}
use Rattle.pli_attributes.proofs.Lists.{Reads}
use Rattle.pli_attributes.proofs.Enclosed.{EnclosedBy, enclosed, enclosed_post, enclosed_read}
use Rattle.pli_attributes.proofs.AttributeLaws.{LeavesAmong, attributes_post, attributes_complete, attributes_left_out}
use Rattle.pli_clause.specs.Reading.{returning, returns_from, option_behind, option_from, options_at, options_from}
use Rattle.pli_clause.proofs.Parts.{word_post, word_taken, next_symbol, symbol_next}

-- an option was read, and its word taken
pub record OptionBy (s : List ℕ) (c : Cursor) (x : T.ProcedureOption × Cursor) : Type 0 where
  pub spelled : SpellsOption s c.tokens x.0 x.1.tokens
  pub marked : x.1.marks ≡ option_marks x.0 c.marks
  pub shorter : length x.1.tokens < length c.tokens

-- an attribute of these options is left out
pub record LeavesOptions (s : List ℕ) (c : Cursor) (d : Cursor) : Type 0 where
  pub leaves : LeavesOutOptions s c.tokens c.marks d.tokens d.marks

main_spelled : (s : List ℕ) (c d : Cursor) (t : Token) (x : Token × Cursor) → Takes c.tokens (K.Name W.Options) t d.tokens → d.marks ≡ c.marks → length d.tokens < length c.tokens → EnclosedBy (TakenBy (K.Name W.Main)) d x → OptionBy s c (T.Main, x.1)
main_spelled s c d t x a m l (enclosed o y u p i z) = record {
  spelled = G.main c.tokens d.tokens o.1.tokens y.1.tokens u.1.tokens t o.0 y.0 u.0 a p.take i.take z.take;
  marked = z.marked ∙ i.marked ∙ p.marked ∙ m;
  shorter = omega (arith, l, p.shorter, i.shorter, z.shorter);
}

returning_post : {P : T.ProcedureOption × Cursor → Type 0} {L : Cursor → Type 0} (xs : List T.Attribute) (c : Cursor) → ((a : T.Attribute) (others : List T.Attribute) → xs ≡ a ∷ others → P (T.Returns (a ∷ others), c)) → Post P L (returning xs c)
returning_post [] c h = post_stuck
returning_post (a ∷ others) c h = post_ok (h a others refl)

module _ (s : List ℕ) (c d : Cursor) (t : Token) (m : d.marks ≡ c.marks) (l : length d.tokens < length c.tokens) where
  leaves_in_returns : (o : Token × Cursor) (e : Cursor) → Takes c.tokens (K.Name W.Returns) t d.tokens → TakenBy (K.Symbol S.OpenParenthesis) d o → LeavesAmong s o.1 e → LeavesOptions s c e
  leaves_in_returns o e a k h = record { leaves = G.in_returns c.tokens d.tokens o.1.tokens e.tokens c.marks e.marks t o.0 a k.take (subst (λ n. LeavesOutAttributes s o.1.tokens n e.tokens e.marks) (k.marked ∙ m) h.leaves) }

  returns_post : Takes c.tokens (K.Name W.Returns) t d.tokens → Post (OptionBy s c) (LeavesOptions s c) (returns_from s d)
  unfolding returns_from
  returns_post a =
      post_bind _ _ (never _ _ (taken_post (K.Symbol S.OpenParenthesis) d)) (λ o k. post_bind _ _ (post_weaken _ (attributes_post s o.1) (λ x r. r) (λ e h. leaves_in_returns o e a k h)) (λ xs r. post_bind _ _ (never _ _ (taken_post (K.Symbol S.CloseParenthesis) xs.1)) (λ u z. returning_post xs.0 u.1 (λ x others e. record {
        spelled = G.returns c.tokens d.tokens o.1.tokens xs.1.tokens u.1.tokens t o.0 u.0 x others a k.take (subst (λ v. SpellsAttributes s o.1.tokens v xs.1.tokens) e r.spelled) z.take;
        marked = z.marked ∙ r.marked ∙ ap (attributes_marks xs.0) (k.marked ∙ m) ∙ ap (λ v. attributes_marks v c.marks) e;
        shorter = omega (arith, l, k.shorter, r.shorter, z.shorter);
      }))))

  behind_post : (word : Word) → Takes c.tokens (K.Name word) t d.tokens → Post (OptionBy s c) (LeavesOptions s c) (option_behind s word d)
  behind_post W.Options a =
      post_bind _ _ (never _ _ (enclosed_post (taken (K.Name W.Main)) d (λ e. taken_post (K.Name W.Main) e))) (λ x k. post_ok (main_spelled s c d t x a m l k))
  behind_post W.Recursive a = post_ok (record { spelled = G.recursive c.tokens d.tokens t a; marked = m; shorter = l })
  behind_post W.Returns a = returns_post a
  behind_post _ a = post_stuck

pub option_post : (s : List ℕ) (c : Cursor) → Post (OptionBy s c) (LeavesOptions s c) (option_from s c)
unfolding option_from
option_post s c = post_bind _ _ (never _ _ (word_post c)) (λ w k. behind_post s c w.1 w.0.0 k.marked k.shorter w.0.1 k.take)

option_worded : (s : List ℕ) {ts rest : List Token} {t : Token} {word : Word} (m : Marks) → Takes ts (K.Name word) t rest → option_from s (record { tokens = ts; marks = m }) ≡ option_behind s word (record { tokens = rest; marks = m })
unfolding option_from
option_worded s m a = ap (λ r. r >>= λ w. option_behind s w.0.1 w.1) (word_taken m a)

returns_complete : {s : List ℕ} {ts mid behind rest : List Token} {t u : Token} {a : T.Attribute} {others : List T.Attribute} (m : Marks) → Takes ts (K.Symbol S.OpenParenthesis) t mid → SpellsAttributes s mid (a ∷ others) behind → Takes behind (K.Symbol S.CloseParenthesis) u rest → returns_from s (record { tokens = ts; marks = m }) ≡ Ok (T.Returns (a ∷ others), record { tokens = rest; marks = attributes_marks (a ∷ others) m })
unfolding returns_from
returns_complete {a = a} {others = others} m o h z =
    let b = symbol_read S.OpenParenthesis m o in
    let d = attributes_complete m h in
    let e = symbol_read S.CloseParenthesis (attributes_marks (a ∷ others) m) z in
    rw (b, d, e) refl

pub option_complete : {s : List ℕ} {ts rest : List Token} {x : T.ProcedureOption} (m : Marks) → SpellsOption s ts x rest → option_from s (record { tokens = ts; marks = m }) ≡ Ok (x, record { tokens = rest; marks = option_marks x m })
option_complete {s} m (G.main ts after mid behind rest t u v w a o i z) =
    let e = enclosed_read (taken (K.Name W.Main)) v m m o (word_read W.Main m i) z in
    option_worded s m a ∙ ap (λ r. r >>= λ x. Ok (T.Main, x.1)) e
option_complete {s} m (G.recursive ts rest t a) = option_worded s m a
option_complete {s} m (G.returns ts after mid behind rest t u v x others a o h z) = option_worded s m a ∙ returns_complete m o h z

-- ---- options

leaves_later : (s : List ℕ) (c d : Cursor) (o : T.ProcedureOption × Cursor) → OptionBy s c o → LeavesOptions s o.1 d → LeavesOptions s c d
leaves_later s c d o g l = record { leaves = G.behind_option c.tokens o.1.tokens d.tokens c.marks d.marks o.0 g.spelled (subst (λ m. LeavesOutOptions s o.1.tokens m d.tokens d.marks) g.marked l.leaves) }

options_at_post : (n : ℕ) (s : List ℕ) (c : Cursor) → Post (Reads (SpellsOptions s) options_marks c) (LeavesOptions s c) (options_at n s c)
unfolding options_at
options_at_post zero s c = post_ended
options_at_post (suc n) s c =
    post_if _ _ _
    (λ b. post_ok (record { spelled = G.no_option c.tokens (next_symbol S.Semicolon c.tokens b); marked = refl; shorter = omega arith }))
    (λ b. post_bind _ _ (option_post s c) (λ o g. post_bind _ _ (post_weaken _ (options_at_post n s o.1) (λ others r. r) (λ d l. leaves_later s c d o g l)) (λ others r. post_ok (record { spelled = G.option c.tokens o.1.tokens others.1.tokens o.0 others.0 g.spelled r.spelled; marked = r.marked ∙ ap (options_marks others.0) g.marked; shorter = omega (arith, g.shorter, r.shorter) }))))

pub options_post : (s : List ℕ) (c : Cursor) → Post (Reads (SpellsOptions s) options_marks c) (LeavesOptions s c) (options_from s c)
unfolding options_from
options_post s c = options_at_post (suc (length c.tokens)) s c

pub option_shorter : {s : List ℕ} {ts rest : List Token} {x : T.ProcedureOption} → SpellsOption s ts x rest → length rest < length ts
option_shorter {s} {ts} h = (post_is (option_post s (record { tokens = ts; marks = no_marks })) (option_complete no_marks h)).shorter

no_semicolon : {s : List ℕ} {ts rest : List Token} {x : T.ProcedureOption} → SpellsOption s ts x rest → starts (K.Symbol S.Semicolon) ts ≡ false
no_semicolon {ts = ts} h = not_begins (K.Symbol S.Semicolon) ts (λ e. cc (option_begins h, e))

options_at_complete : {s : List ℕ} {ts rest : List Token} {xs : List T.ProcedureOption} (n : ℕ) (m : Marks) → SpellsOptions s ts xs rest → length ts < n → options_at n s (record { tokens = ts; marks = m }) ≡ Ok (xs, record { tokens = rest; marks = options_marks xs m })
unfolding options_at
options_at_complete zero m h l = absurd (omega arith)
options_at_complete (suc n) m (G.no_option ts e) l = rw (symbol_next S.Semicolon ts e) refl
options_at_complete (suc n) m (G.option ts mid rest o others h more) l =
    let b = no_semicolon h in
    let d = option_complete m h in
    let i = option_shorter h in
    let e = options_at_complete n (option_marks o m) more (omega (arith, i, l)) in
    rw (b, d, e) refl

pub options_complete : {s : List ℕ} {ts rest : List Token} {xs : List T.ProcedureOption} (m : Marks) → SpellsOptions s ts xs rest → options_from s (record { tokens = ts; marks = m }) ≡ Ok (xs, record { tokens = rest; marks = options_marks xs m })
unfolding options_from
options_complete {ts = ts} m h = options_at_complete (suc (length ts)) m h (omega arith)

returns_left_out : {s : List ℕ} {ts mid at : List Token} {t : Token} {m m' : Marks} → Takes ts (K.Symbol S.OpenParenthesis) t mid → LeavesOutAttributes s mid m at m' → returns_from s (record { tokens = ts; marks = m }) ≡ Err (LeavesOut (record { tokens = at; marks = m' }))
unfolding returns_from
returns_left_out {m = m} o h =
    let b = symbol_read S.OpenParenthesis m o in
    let d = attributes_left_out h in
    rw (b, d) refl

options_at_left_out : (s : List ℕ) (n : ℕ) {ts at : List Token} {m m' : Marks} → LeavesOutOptions s ts m at m' → length ts < n → options_at n s (record { tokens = ts; marks = m }) ≡ Err (LeavesOut (record { tokens = at; marks = m' }))
unfolding options_at
options_at_left_out s zero h l = absurd (omega arith)
options_at_left_out s (suc n) (G.in_returns ts after mid at m m' t u a o h) l =
    let b = not_begins (K.Symbol S.Semicolon) ts (λ e. cc (ap next_kind a.is, a.of_kind, e)) in
    let d = option_worded s m a ∙ returns_left_out o h in
    rw (b, d) refl
options_at_left_out s (suc n) (G.behind_option ts mid at m m' o h more) l =
    let b = no_semicolon h in
    let d = option_complete m h in
    let i = option_shorter h in
    let e = options_at_left_out s n more (omega (arith, i, l)) in
    rw (b, d, e) refl

pub options_left_out : {s : List ℕ} {ts at : List Token} {m m' : Marks} → LeavesOutOptions s ts m at m' → options_from s (record { tokens = ts; marks = m }) ≡ Err (LeavesOut (record { tokens = at; marks = m' }))
unfolding options_from
options_left_out {s} {ts = ts} h = options_at_left_out s (suc (length ts)) h (omega arith)
