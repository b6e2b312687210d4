-- Simple statements: what is spelled is read.
use Rattle.std.proofs.Common.{◌≡◌, ◌≢◌, ℕ, List, ◌∷◌, Option, Some, None, false, refl, sym, ap, ◌∙◌, Ok}
use Rattle.pli_language.specs.declared.expr.Place.{Place}
use Rattle.pli_language.specs.declared.token.Word.{Word}
use Rattle.pli_language.specs.declared.token.Word.TheVariants as W
use Rattle.pli_language.specs.declared.token.Symbol.TheVariants as S
use Rattle.pli_language.specs.declared.token.Kind.TheVariants as K
use Rattle.pli_language.specs.declared.token.Token.{Token}
use Rattle.pli_language.specs.Formats.{Direction, Getting, Putting, pairs_marks, skip_marks}
use Rattle.pli_language.specs.Marks.{Marks, expr_marks, reference_marks, arguments_marks}
use Rattle.pli_language.specs.Spells.{Takes, next_kind, place_of, name_at, SpellsExpr, SpellsReference, SpellsArguments}
use Rattle.pli_language.specs.Heads as G
use Rattle.pli_language.specs.Heads.{Assigns, Opens, BeginsIf, SpellsSimple, SpellsStreamOptions, SpellsEdit, Moves, moving}
use Rattle.pli_language.specs.Tree as T
use Rattle.pli_language.proofs.Unique.{reference_begins}
use Rattle.pli_phrase.specs.Cursor.{Cursor, Read}
use Rattle.pli_phrase.specs.Tokens.{begins}
use Rattle.pli_phrase.specs.declared.expression.Beginning.{Beginning}
use Rattle.pli_phrase.specs.declared.expression.Beginning.TheVariants.{Begins, Differs, Unknown}
use Rattle.pli_attributes.proofs.Tokens.{not_begins, begins_symbol, symbol_read, word_read, name_read, takes_next}
use Rattle.pli_attributes.proofs.Expressions.{expr_complete}
use Rattle.pli_stream.proofs.Laws.{transfer_complete}
use Rattle.pli_clause.proofs.Parts.{word_taken}
use Rattle.pli_clause.proofs.References.{reference_complete, arguments_complete, value_complete}
use Rattle.pli_clause.proofs.Conditions.{condition_complete}
use Rattle.pli_clause.proofs.Placings.{allocations_complete, freeings_complete}
use Rattle.pli_head.specs.Reading.{assigns, closed, assignment_from, call_from, moved_from, simple_from, simple_behind, head_behind, worded, head_from}
use Rattle.pli_head.proofs.Beginnings.{assigns_complete, not_assigns}

-- ---- how a head goes on behind its word

pub worded_not : (s : List ℕ) (b : Beginning) (at : List Token) (w : (Token × Word) × Cursor) → b ≢ Begins → worded s b at w ≡ head_behind s at (place_of w.0.0) w.0.1 w.1
worded_not s Begins at w n = absurd (n refl)
worded_not s Differs at w n = refl
worded_not s Unknown at w n = refl

pub no_semicolon : {ts rest : List Token} {t : Token} {w : Word} → Takes ts (K.Name w) t rest → (m : Marks) → begins (K.Symbol S.Semicolon) (record { tokens = ts; marks = m }) ≡ false
no_semicolon {ts} a m = not_begins (K.Symbol S.Semicolon) ts (λ e. cc (takes_next a, e))

pub head_named : {s : List ℕ} {ts after : List Token} {t : Token} {w : Word} (m : Marks) → Opens s ts w t after → head_from s (record { tokens = ts; marks = m }) ≡ head_behind s ts (place_of t) w (record { tokens = after; marks = m })
unfolding head_from
head_named {s} {ts} {after} {t} {w} m o =
    let a = no_semicolon o.taken m in
    let b = word_taken m o.taken in
    rw (a, b) (worded_not s (assigns s (record { tokens = ts; marks = m })) ts ((t, w), record { tokens = after; marks = m }) (not_assigns s (record { tokens = ts; marks = m }) o.no_assignment))

pub closed_read : (h : G.Head) {ts rest : List Token} {u : Token} (m : Marks) → Takes ts (K.Symbol S.Semicolon) u rest → closed h (record { tokens = ts; marks = m }) ≡ Ok (h, record { tokens = rest; marks = m })
closed_read h m k = rw (symbol_read S.Semicolon m k) refl

simple_read : {r : Read T.Stmt} {x : T.Stmt} {mid rest : List Token} {u : Token} {m : Marks} → r ≡ Ok (x, record { tokens = mid; marks = m }) → Takes mid (K.Symbol S.Semicolon) u rest → simple_from r ≡ Ok (G.Simple x, record { tokens = rest; marks = m })
simple_read {x = x} {m = m} e k = ap simple_from e ∙ closed_read (G.Simple x) m k

-- ---- assignments

assignment_read : {s : List ℕ} {ts mid after rest : List Token} {u : Token} {r : T.Reference} {e : T.Expr} (p : Place) (m : Marks) → SpellsReference s ts r mid → Takes mid (K.Symbol S.Equal) u after → SpellsExpr s after e rest → assignment_from s p (record { tokens = ts; marks = m }) ≡ Ok (T.Assign r e p, record { tokens = rest; marks = expr_marks e (reference_marks r m) })
unfolding assignment_from
assignment_read {r = r} p m g k a =
    let b = reference_complete m g in
    let d = symbol_read S.Equal (reference_marks r m) k in
    let f = expr_complete (reference_marks r m) a in
    rw (b, d, f) refl

first_name : {s : List ℕ} {ts behind mid : List Token} {t : Token} {r : T.Reference} → ts ≡ t ∷ behind → (g : SpellsReference s ts r mid) → Takes ts (K.Name ((reference_begins g).word)) t behind
first_name {t = t} i g =
    let b = reference_begins g in
    let z : Some t.kind ≡ Some (K.Name b.word) = sym (ap next_kind i) ∙ b.first in
    let k : t.kind ≡ K.Name b.word = cc z in
    record { is = i; of_kind = k }

head_assigns : {s : List ℕ} {ts behind : List Token} {t : Token} {w : Word} (m : Marks) → Takes ts (K.Name w) t behind → Assigns s ts → head_from s (record { tokens = ts; marks = m }) ≡ simple_from (assignment_from s (place_of t) (record { tokens = ts; marks = m }))
unfolding head_from
head_assigns {s} {ts} m a begun =
    let b = no_semicolon a m in
    let d = word_taken m a in
    let f = assigns_complete s (record { tokens = ts; marks = m }) begun in
    rw (b, d, f) refl

-- ---- each statement

call_read : (s : List ℕ) {ts mid rest : List Token} {u : Token} {word : Word} {a : T.Arguments} (p : Place) (m : Marks) → Takes ts (K.Name word) u mid → SpellsArguments s mid a rest → call_from s p (record { tokens = ts; marks = m }) ≡ Ok (T.Call (name_at s u word) a p, record { tokens = rest; marks = arguments_marks a m })
call_read s p m k g =
    let b = name_read s m k in
    let d = arguments_complete m g in
    rw (b, d) refl

moved_read : {s : List ℕ} (d : Direction) {ts mid rest : List Token} {k : Option T.Skip} {ps : List T.EditPair} (p : Place) (m : Marks) → SpellsStreamOptions s d false None ts k mid → SpellsEdit s mid ps rest → Moves k ps → moved_from s d p (record { tokens = ts; marks = m }) ≡ Ok (moving d k ps p, record { tokens = rest; marks = pairs_marks d ps (skip_marks k m) })
moved_read d p m g h moves = rw (transfer_complete m g h moves) refl

null_place : (t u : Token) {ts behind rest : List Token} → ts ≡ t ∷ behind → ts ≡ u ∷ rest → u ≡ t
null_place t u i k = cc (i, k)

pub simple_complete : {s : List ℕ} {ts mid rest : List Token} {u : Token} {x : T.Stmt} {m m' : Marks} → SpellsSimple s ts m x mid m' → Takes mid (K.Symbol S.Semicolon) u rest → head_from s (record { tokens = ts; marks = m }) ≡ Ok (G.Simple x, record { tokens = rest; marks = m' })
unfolding head_from head_behind simple_behind
simple_complete {rest = rest} {u = u} (G.null ts behind m t i of_kind) k =
    let a = begins_symbol S.Semicolon k in
    let b = symbol_read S.Semicolon m k in
    rw (a, b) (ap (λ v. Ok (G.Simple (T.Null (place_of v)), record { tokens = rest; marks = m })) (null_place t u i k.is))
simple_complete (G.assignment ts behind mid after rest m t v r e i no_if g equal a) k =
    head_assigns m (first_name i g) (record { begins = record { reference = r; behind = mid; spelled = g; equal = takes_next equal }; no_if = no_if }) ∙ simple_read (assignment_read (place_of t) m g equal a) k
simple_complete {s} (G.call ts after mid rest m t v word a o n g) k = head_named m o ∙ simple_read (call_read s (place_of t) m n g) k
simple_complete (G.return' ts after rest m t e o g) k = head_named m o ∙ simple_read (rw (value_complete m g) refl) k
simple_complete {s} (G.goto ts after rest m t v word (G.goto ts' after' t' o) n) k = head_named m o ∙ simple_read (rw (name_read s m n) refl) k
simple_complete {s} (G.goto ts after rest m t v word (G.go_to ts' after' rest' t' w o z) n) k =
    head_named m o ∙ simple_read (rw (word_read W.To m z, name_read s m n) refl) k
simple_complete (G.stop ts rest m t o) k = head_named m o ∙ simple_read refl k
simple_complete (G.signal ts after rest m t c o g) k = head_named m o ∙ simple_read (rw (condition_complete m g) refl) k
simple_complete (G.revert ts after rest m t c o g) k = head_named m o ∙ simple_read (rw (condition_complete m g) refl) k
simple_complete (G.allocate ts after rest m m' t others o g) k = head_named m o ∙ simple_read (rw (allocations_complete g) refl) k
simple_complete (G.free ts after rest m t fs o g) k = head_named m o ∙ simple_read (rw (freeings_complete m g) refl) k
simple_complete (G.move Getting ts after mid rest m t y ps o g h moves) k = head_named m o ∙ simple_read (moved_read Getting (place_of t) m g h moves) k
simple_complete (G.move Putting ts after mid rest m t y ps o g h moves) k = head_named m o ∙ simple_read (moved_read Putting (place_of t) m g h moves) k
