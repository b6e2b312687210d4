-- Heads: what is spelled is read.
use Rattle.std.proofs.Common.{◌≡◌, ◌≢◌, ℕ, List, Some, None, Bool, true, false, refl, ap, ◌∙◌, Ok}
use Rattle.std.specs.Prelude.{if◌then◌else◌}
use Rattle.pli_language.specs.declared.expr.Place.{Place}
use Rattle.pli_language.specs.declared.token.Word.{Word}
use Rattle.pli_language.specs.declared.token.Word.TheVariants as W
use Rattle.pli_language.specs.declared.token.Symbol.TheVariants as S
use Rattle.pli_language.specs.declared.token.Kind.TheVariants as K
use Rattle.pli_language.specs.declared.token.Token.{Token}
use Rattle.pli_language.specs.Attributes.{SpellsDeclareItems, declare_items_marks}
use Rattle.pli_language.specs.Marks.{Marks, expr_marks}
use Rattle.pli_language.specs.Spells as E
use Rattle.pli_language.specs.Spells.{Takes, next_kind, place_of, name_at, BeginsAssignment, SpellsExpr, SpellsReference, SpellsArguments}
use Rattle.pli_language.specs.Heads as G
use Rattle.pli_language.specs.Heads.{SpellsParameters, SpellsOptions, SpellsInParentheses, SpellsCounting, SpellsHead, parameters_marks, options_marks}
use Rattle.pli_language.specs.Tree as T
use Rattle.pli_language.proofs.Unique.{next_taken, begins_expr, expr_begins, reference_begins}
use Rattle.pli_phrase.specs.Tokens.{begins}
use Rattle.pli_phrase.specs.declared.expression.Beginning.TheVariants.{Differs}
use Rattle.pli_phrase.specs.Reading.{begun_by, begun, assignment_begins}
use Rattle.pli_phrase.proofs.Beginnings.{begins_complete}
use Rattle.pli_attributes.proofs.Tokens.{not_begins, begins_symbol, begins_word, word_read, name_read, takes_next}
use Rattle.pli_attributes.proofs.Expressions.{expr_complete}
use Rattle.pli_attributes.proofs.Items.{declare_items_complete}
use Rattle.pli_clause.proofs.References.{reference_complete, in_parentheses_complete}
use Rattle.pli_clause.proofs.Conditions.{condition_complete}
use Rattle.pli_clause.proofs.ParameterLaws.{parameters_complete}
use Rattle.pli_clause.proofs.OptionLaws.{options_complete}
use Rattle.pli_clause.proofs.Countings.{counting_complete}
use Rattle.pli_head.specs.Reading.{procedure_from, declaring_from, if_from, do_worded, do_count_from, do_from, end_from, head_behind, head_from}
use Rattle.pli_head.proofs.CompleteStatements.{head_named, closed_read, simple_complete}

procedure_read : {s : List ℕ} {ts mid later rest : List Token} {u : Token} {ns : List T.Name} {options : List T.ProcedureOption} (p : Place) (m : Marks) → SpellsParameters s ts ns mid → SpellsOptions s mid options later → Takes later (K.Symbol S.Semicolon) u rest → procedure_from s p (record { tokens = ts; marks = m }) ≡ Ok (G.ProcedureFront p ns options, record { tokens = rest; marks = options_marks options (parameters_marks 0 ns m) })
unfolding procedure_from
procedure_read {ns = ns} {options = options} p m g h k =
    let a = parameters_complete m g in
    let b = options_complete (parameters_marks 0 ns m) h in
    rw (a, b) (closed_read (G.ProcedureFront p ns options) (options_marks options (parameters_marks 0 ns m)) k)

declaring_read : {s : List ℕ} {ts mid rest : List Token} {u : Token} {ds : List T.DeclareItem} (p : Place) (m : Marks) → SpellsDeclareItems s ts ds mid → Takes mid (K.Symbol S.Semicolon) u rest → declaring_from s p (record { tokens = ts; marks = m }) ≡ Ok (G.Declaring ds p, record { tokens = rest; marks = declare_items_marks ds m })
declaring_read {ds = ds} p m g k =
    rw (declare_items_complete m g) (closed_read (G.Declaring ds p) (declare_items_marks ds m) k)

if_read : {s : List ℕ} {ts mid rest : List Token} {u : Token} {e : T.Expr} (p : Place) (m : Marks) → SpellsExpr s ts e mid → Takes mid (K.Name W.Then) u rest → if_from s p (record { tokens = ts; marks = m }) ≡ Ok (G.IfThen e p, record { tokens = rest; marks = expr_marks e m })
if_read {e = e} p m g k =
    let a = expr_complete m g in
    let b = word_read W.Then (expr_marks e m) k in
    rw (a, b) refl

-- ---- DO

-- WHILE with an expression in parentheses and a semicolon behind it is a reference, and begins no assignment
while_reference : {s : List ℕ} {ts mid later rest : List Token} {u v : Token} {e : T.Expr} → Takes ts (K.Name W.While) u mid → SpellsInParentheses s mid e later → Takes later (K.Symbol S.Semicolon) v rest → SpellsReference s ts (T.Plain (T.Last (name_at s u W.While) (T.Listed (T.ExprThen e T.NoExpr)))) later
while_reference {s} {ts} {u = u} take (G.in_parentheses mid after inner later t w e o g c) semi =
    let no_close : next_kind after ≢ Some (K.Symbol S.CloseParenthesis) = λ z. cc (ap begins_expr z, expr_begins g) in
    let no_comma : next_kind inner ≢ Some (K.Symbol S.Comma) = λ z. cc (z, next_taken c) in
    let args : SpellsArguments s mid (T.Listed (T.ExprThen e T.NoExpr)) later = E.listed mid after inner later t w (T.ExprThen e T.NoExpr) o no_close (E.one after inner e g no_comma) c in
    let no_point : next_kind later ≢ Some (K.Symbol S.Point) = λ z. cc (z, next_taken semi) in
    let no_arrow : next_kind later ≢ Some (K.Symbol S.Arrow) = λ z. cc (z, next_taken semi) in
    let q : T.Qualified = T.Last (name_at s u W.While) (T.Listed (T.ExprThen e T.NoExpr)) in
    E.basic ts later later q (T.Plain q) (E.last ts mid later u W.While (T.Listed (T.ExprThen e T.NoExpr)) take args no_point) (E.no_arrow (T.Plain q) later no_arrow)

while_differs : {s : List ℕ} {ts mid later rest : List Token} {u v : Token} {e : T.Expr} (m : Marks) → Takes ts (K.Name W.While) u mid → SpellsInParentheses s mid e later → Takes later (K.Symbol S.Semicolon) v rest → assignment_begins s (record { tokens = ts; marks = m }) ≡ Differs
unfolding assignment_begins
while_differs m take g semi =
    ap begun (reference_complete m (while_reference take g semi)) ∙ ap begun_by (next_taken semi)

while_counts : {s : List ℕ} {ts : List Token} (p : Place) (m : Marks) (b : Bool) → BeginsAssignment s ts → (if b then do_worded s p (assignment_begins s (record { tokens = ts; marks = m })) (record { tokens = ts; marks = m }) else do_count_from s p (record { tokens = ts; marks = m })) ≡ do_count_from s p (record { tokens = ts; marks = m })
while_counts {s} {ts} p m true i = ap (λ b. do_worded s p b (record { tokens = ts; marks = m })) (begins_complete s (record { tokens = ts; marks = m }) i)
while_counts p m false i = refl

do_group_read : (s : List ℕ) {ts rest : List Token} {u : Token} (p : Place) (m : Marks) → Takes ts (K.Symbol S.Semicolon) u rest → do_from s p (record { tokens = ts; marks = m }) ≡ Ok (G.DoGroup p, record { tokens = rest; marks = m })
unfolding do_from
do_group_read s p m k = rw (begins_symbol S.Semicolon k) (closed_read (G.DoGroup p) m k)

do_while_read : {s : List ℕ} {ts mid later rest : List Token} {u v : Token} {e : T.Expr} (p : Place) (m : Marks) → Takes ts (K.Name W.While) u mid → SpellsInParentheses s mid e later → Takes later (K.Symbol S.Semicolon) v rest → do_from s p (record { tokens = ts; marks = m }) ≡ Ok (G.DoWhileGroup e p, record { tokens = rest; marks = expr_marks e m })
unfolding do_from
do_while_read {s} {ts} {e = e} p m take g k =
    let a = not_begins (K.Symbol S.Semicolon) ts (λ z. cc (takes_next take, z)) in
    let b = begins_word W.While take in
    let c = while_differs m take g k in
    let d = word_read W.While m take in
    let f = in_parentheses_complete m g in
    rw (a, b, c, d, f) (closed_read (G.DoWhileGroup e p) (expr_marks e m) k)

counting_assigns : {s : List ℕ} {ts rest : List Token} {x : T.Counting} {m m' : Marks} → SpellsCounting s ts m x rest m' → BeginsAssignment s ts
counting_assigns (G.counting ts mid after later at rest m m' t v e r w g equal a b h) =
    record { reference = v; behind = mid; spelled = g; equal = takes_next equal }

do_count_read : {s : List ℕ} {ts mid rest : List Token} {u : Token} {x : T.Counting} {m m' : Marks} (p : Place) → SpellsCounting s ts m x mid m' → Takes mid (K.Symbol S.Semicolon) u rest → do_from s p (record { tokens = ts; marks = m }) ≡ Ok (G.DoCountGroup x p, record { tokens = rest; marks = m' })
unfolding do_from
do_count_read {s} {ts} {rest = rest} {x = x} {m = m} {m' = m'} p g k =
    let i = counting_assigns g in
    let n = reference_begins i.spelled in
    let a = not_begins (K.Symbol S.Semicolon) ts (λ z. cc (n.first, z)) in
    let d = counting_complete g in
    let counted : do_count_from s p (record { tokens = ts; marks = m }) ≡ Ok (G.DoCountGroup x p, record { tokens = rest; marks = m' }) = rw d (closed_read (G.DoCountGroup x p) m' k) in
    rw a (while_counts p m (begins (K.Name W.While) (record { tokens = ts; marks = m })) i ∙ counted)

-- ---- END

unnamed_read : (s : List ℕ) {ts rest : List Token} {u : Token} (p : Place) (m : Marks) → Takes ts (K.Symbol S.Semicolon) u rest → end_from s p (record { tokens = ts; marks = m }) ≡ Ok (G.EndOf None p, record { tokens = rest; marks = m })
unfolding end_from
unnamed_read s p m k = rw (begins_symbol S.Semicolon k) (closed_read (G.EndOf None p) m k)

named_read : (s : List ℕ) {ts mid rest : List Token} {u v : Token} {word : Word} (p : Place) (m : Marks) → Takes ts (K.Name word) u mid → Takes mid (K.Symbol S.Semicolon) v rest → end_from s p (record { tokens = ts; marks = m }) ≡ Ok (G.EndOf (Some (name_at s u word)) p, record { tokens = rest; marks = m })
unfolding end_from
named_read s {ts} {u = u} {word = word} p m n k =
    let a = not_begins (K.Symbol S.Semicolon) ts (λ z. cc (takes_next n, z)) in
    let b = name_read s m n in
    rw (a, b) (closed_read (G.EndOf (Some (name_at s u word)) p) m k)

-- ---- heads

pub head_complete : {s : List ℕ} {ts rest : List Token} {h : G.Head} {m m' : Marks} → SpellsHead s ts m h rest m' → head_from s (record { tokens = ts; marks = m }) ≡ Ok (h, record { tokens = rest; marks = m' })
unfolding head_behind
head_complete (G.procedure ts after mid later rest m t u ns options o g h k) = head_named m o ∙ procedure_read (place_of t) m g h k
head_complete (G.declare ts after mid rest m t u ds o g k) = head_named m o ∙ declaring_read (place_of t) m g k
head_complete (G.simple ts mid rest m m' u x g k) = simple_complete g k
head_complete (G.if_then ts after mid rest m t u e o g k) = head_named m o ∙ if_read (place_of t) m g k
head_complete (G.else' ts rest m t o) = head_named m o
head_complete {s} (G.do_group ts after rest m t u o k) = head_named m o ∙ do_group_read s (place_of t) m k
head_complete (G.do_while ts after mid later rest m t u v e o take g k) = head_named m o ∙ do_while_read (place_of t) m take g k
head_complete (G.do_count ts after mid rest m m' t u x o g k) = head_named m o ∙ do_count_read (place_of t) g k
head_complete (G.begin ts after rest m t u o k) = head_named m o ∙ closed_read (G.BeginBlock (place_of t)) m k
head_complete (G.on ts after rest m t c o g) = head_named m o ∙ rw (condition_complete m g) refl
head_complete (G.system ts after rest m t u o k) = head_named m o ∙ closed_read (G.System (place_of t)) m k
head_complete {s} (G.unnamed_end ts after rest m t u o k) = head_named m o ∙ unnamed_read s (place_of t) m k
head_complete {s} (G.named_end ts after mid rest m t u v word o n k) = head_named m o ∙ named_read s (place_of t) m n k
