-- Heads are spelled one way: each is of one form, which its first word says, or what begins an assignment.
use Rattle.std.proofs.Common.{◌≡◌, ◌≢◌, ℕ, Option, List, [], Some, None, Bool, true, false, refl, sym, ap, ◌∙◌, subst}
use Rattle.std.specs.Prelude.{if◌then◌else◌}
use Rattle.pli_language.specs.declared.token.Word.{Word}
use Rattle.pli_language.specs.declared.token.Word.TheVariants as W
use Rattle.pli_language.specs.declared.token.Symbol.TheVariants as S
use Rattle.pli_language.specs.declared.token.Kind.{Kind}
use Rattle.pli_language.specs.declared.token.Kind.TheVariants as K
use Rattle.pli_language.specs.declared.token.Token.{Token}
use Rattle.pli_language.specs.Tree as T
use Rattle.pli_language.specs.Spells as E
use Rattle.pli_language.specs.Spells.{Takes, next_kind, name_at, place_of, SpellsArguments, SpellsReference, BeginsAssignment}
use Rattle.pli_language.specs.Attributes.{declare_items_marks}
use Rattle.pli_language.specs.Formats.{Direction, Getting, Putting, pairs_marks, skip_marks}
use Rattle.pli_language.specs.Marks.{Marks, expr_marks, reference_marks, arguments_marks}
use Rattle.pli_language.specs.Heads as G
use Rattle.pli_language.specs.Heads.{Assigns, Opens, BeginsIf, is_left_out_head, stream_word, moving, marks_if, parameters_marks, options_marks, freeings_marks, SpellsInParentheses, SpellsCounting, SpellsGoto, SpellsSimple, SpellsHead}
use Rattle.pli_language.proofs.Unique.{both_same, Same, same_take, next_taken, name_same, begins_expr, expr_begins, reference_begins, at_same, reference_same, arguments_same}
use Rattle.pli_language.proofs.UniqueAttributes.{declare_items_same}
use Rattle.pli_language.proofs.UniqueParts.{SameMarked, condition_same, parameters_same, options_same, in_parentheses_same, counting_same, allocations_same, freeings_same, stream_options_same, edit_same, return_same}

-- ---- forms

-- what a head begins with
pub data Form : Type 0 where
  Nothing Assigning LeavingOut : Form
  Keyed : Word → Form

-- GO TO is GOTO, and PUT is like GET
abbrev pub kept_form : Word → Form
kept_form W.Go = Keyed W.Goto
kept_form W.Put = Keyed W.Get
kept_form w = Keyed w

abbrev pub form_of : Word → Form
form_of w = if is_left_out_head w then LeavingOut else kept_form w

pub data HasForm (s : List ℕ) (ts : List Token) : Form → Type 0 where
  nothing : next_kind ts ≡ Some (K.Symbol S.Semicolon) → HasForm s ts Nothing
  assigning : Assigns s ts → HasForm s ts Assigning
  keyed : (w : Word) (t : Token) (rest : List Token) → Opens s ts w t rest → HasForm s ts (form_of w)

assigns_along : {s : List ℕ} {ts ts' : List Token} → ts ≡ ts' → Assigns s ts → Assigns s ts'
assigns_along {s} e a = subst (λ u. Assigns s u) e a

assigns_no_semicolon : {s : List ℕ} {ts ts' : List Token} → ts ≡ ts' → next_kind ts ≡ Some (K.Symbol S.Semicolon) → Assigns s ts' → ⊥
assigns_no_semicolon k e a =
    let b = reference_begins a.begins.spelled in
    cc (ap next_kind k, e, b.first)

pub form_once : {s : List ℕ} {ts ts' : List Token} {f f' : Form} → ts ≡ ts' → HasForm s ts f → HasForm s ts' f' → f ≡ f'
form_once k (HasForm.nothing e) (HasForm.nothing e') = refl
form_once k (HasForm.nothing e) (HasForm.assigning a) = absurd (assigns_no_semicolon k e a)
form_once k (HasForm.nothing e) (HasForm.keyed w t rest o) = absurd (cc (ap next_kind k, e, next_taken o.taken))
form_once k (HasForm.assigning a) (HasForm.nothing e) = absurd (assigns_no_semicolon (sym k) e a)
form_once k (HasForm.assigning a) (HasForm.assigning a') = refl
form_once k (HasForm.assigning a) (HasForm.keyed w t rest o) = absurd (o.no_assignment (assigns_along k a))
form_once k (HasForm.keyed w t rest o) (HasForm.nothing e) = absurd (cc (ap next_kind k, e, next_taken o.taken))
form_once k (HasForm.keyed w t rest o) (HasForm.assigning a) = absurd (o.no_assignment (assigns_along (sym k) a))
form_once k (HasForm.keyed w t rest o) (HasForm.keyed w' t' rest' o') =
    let a = same_take k o.taken o'.taken in
    let e : w ≡ w' = cc (a.kind) in
    ap form_of e

-- where a head begins, a token stands
pub form_some : {s : List ℕ} {ts : List Token} {f : Form} → HasForm s ts f → ts ≡ [] → ⊥
form_some (HasForm.nothing e) k = cc (ap next_kind k, e)
form_some (HasForm.assigning a) k = cc (ap next_kind k, (reference_begins a.begins.spelled).first)
form_some (HasForm.keyed w t rest o) k = cc

-- behind a name that stands alone, and begins no assignment
abbrev pub leaves_name_alone : Option Kind → Bool
leaves_name_alone (Some (K.Symbol S.OpenParenthesis)) = false
leaves_name_alone (Some (K.Symbol S.Point)) = false
leaves_name_alone (Some (K.Symbol S.Arrow)) = false
leaves_name_alone (Some (K.Symbol S.Equal)) = false
leaves_name_alone _ = true

not_behind : {next : Option Kind} {k : Kind} → leaves_name_alone next ≡ true → leaves_name_alone (Some k) ≡ false → next ≢ Some k
not_behind alone never z = cc (ap leaves_name_alone z, alone, never)

-- a word alone opens what it begins
pub opens_alone : {s : List ℕ} {ts rest : List Token} {t : Token} {w : Word} → Takes ts (K.Name w) t rest → leaves_name_alone (next_kind rest) ≡ true → Opens s ts w t rest
opens_alone {s} {ts} {rest} {t} {w} take alone =
    let q : T.Qualified = T.Last (name_at s t w) T.Absent in
    let named : E.SpellsQualified s ts q rest = E.last ts rest rest t w T.Absent take (E.absent rest (not_behind alone refl)) (not_behind alone refl) in
    let r : SpellsReference s ts (T.Plain q) rest = E.basic ts rest rest q (T.Plain q) named (E.no_arrow (T.Plain q) rest (not_behind alone refl)) in
    record { taken = take; no_assignment = λ a. not_behind alone refl (ap next_kind (reference_same refl r a.begins.spelled).rest ∙ a.begins.equal) }

-- simple statements
abbrev pub is_simple : Form → Bool
is_simple Nothing = true
is_simple Assigning = true
is_simple (Keyed W.Call) = true
is_simple (Keyed W.Return) = true
is_simple (Keyed W.Goto) = true
is_simple (Keyed W.Stop) = true
is_simple (Keyed W.Signal) = true
is_simple (Keyed W.Revert) = true
is_simple (Keyed W.Allocate) = true
is_simple (Keyed W.Free) = true
is_simple (Keyed W.Get) = true
is_simple _ = false

goto_form : {s : List ℕ} {ts rest : List Token} {t : Token} → SpellsGoto s ts t rest → HasForm s ts (Keyed W.Goto)
goto_form (G.goto ts after t o) = HasForm.keyed W.Goto t after o
goto_form (G.go_to ts after rest t u o take) = HasForm.keyed W.Go t after o

pub move_form : (d : Direction) → {s : List ℕ} {ts rest : List Token} {t : Token} → Opens s ts (stream_word d) t rest → HasForm s ts (Keyed W.Get)
move_form Getting {rest = rest} {t = t} o = HasForm.keyed W.Get t rest o
move_form Putting {rest = rest} {t = t} o = HasForm.keyed W.Put t rest o

unfoldable pub simple_form : {s : List ℕ} {ts r : List Token} {m n : Marks} {x : T.Stmt} → SpellsSimple s ts m x r n → Form
simple_form (G.null ts rest m t is of) = Nothing
simple_form (G.assignment ts behind mid after rest m t u target e is no_if of equal source) = Assigning
simple_form (G.call ts after mid rest m t u word a o name args) = Keyed W.Call
simple_form (G.return' ts after rest m t e o of) = Keyed W.Return
simple_form (G.goto ts after rest m t u word o name) = Keyed W.Goto
simple_form (G.stop ts rest m t o) = Keyed W.Stop
simple_form (G.signal ts after rest m t c o of) = Keyed W.Signal
simple_form (G.revert ts after rest m t c o of) = Keyed W.Revert
simple_form (G.allocate ts after rest m n t others o of) = Keyed W.Allocate
simple_form (G.free ts after rest m t fs o of) = Keyed W.Free
simple_form (G.move d ts after mid rest m t y ps o of pairs moves) = Keyed W.Get

pub simple_has_form : {s : List ℕ} {ts r : List Token} {m n : Marks} {x : T.Stmt} → (d : SpellsSimple s ts m x r n) → HasForm s ts (simple_form d)
unfolding simple_form
simple_has_form (G.null ts rest m t is of) = HasForm.nothing (ap next_kind is ∙ ap Some of)
simple_has_form (G.assignment ts behind mid after rest m t u target e is no_if of equal source) = HasForm.assigning (record { begins = record { reference = target; behind = mid; spelled = of; equal = next_taken equal }; no_if = no_if })
simple_has_form (G.call ts after mid rest m t u word a o name args) = HasForm.keyed W.Call t after o
simple_has_form (G.return' ts after rest m t e o of) = HasForm.keyed W.Return t after o
simple_has_form (G.goto ts after rest m t u word o name) = goto_form o
simple_has_form (G.stop ts rest m t o) = HasForm.keyed W.Stop t rest o
simple_has_form (G.signal ts after rest m t c o of) = HasForm.keyed W.Signal t after o
simple_has_form (G.revert ts after rest m t c o of) = HasForm.keyed W.Revert t after o
simple_has_form (G.allocate ts after rest m n t others o of) = HasForm.keyed W.Allocate t after o
simple_has_form (G.free ts after rest m t fs o of) = HasForm.keyed W.Free t after o
simple_has_form (G.move d ts after mid rest m t y ps o of pairs moves) = move_form d o

pub simple_is_simple : {s : List ℕ} {ts r : List Token} {m n : Marks} {x : T.Stmt} → (d : SpellsSimple s ts m x r n) → is_simple (simple_form d) ≡ true
unfolding simple_form
simple_is_simple (G.null ts rest m t is of) = refl
simple_is_simple (G.assignment ts behind mid after rest m t u target e is no_if of equal source) = refl
simple_is_simple (G.call ts after mid rest m t u word a o name args) = refl
simple_is_simple (G.return' ts after rest m t e o of) = refl
simple_is_simple (G.goto ts after rest m t u word o name) = refl
simple_is_simple (G.stop ts rest m t o) = refl
simple_is_simple (G.signal ts after rest m t c o of) = refl
simple_is_simple (G.revert ts after rest m t c o of) = refl
simple_is_simple (G.allocate ts after rest m n t others o of) = refl
simple_is_simple (G.free ts after rest m t fs o of) = refl
simple_is_simple (G.move d ts after mid rest m t y ps o of pairs moves) = refl

pub simple_forms : {s : List ℕ} {ts ts' r r' : List Token} {m m' n n' : Marks} {x x' : T.Stmt} → ts ≡ ts' → (d : SpellsSimple s ts m x r n) → (d' : SpellsSimple s ts' m' x' r' n') → simple_form d ≡ simple_form d'
simple_forms k d d' = form_once k (simple_has_form d) (simple_has_form d')

-- ---- simple statements

pub goto_same : {s : List ℕ} {ts ts' r r' : List Token} {t t' : Token} → ts ≡ ts' → SpellsGoto s ts t r → SpellsGoto s ts' t' r' → Same t t' r r'
goto_same k (G.goto ts after t o) (G.goto ts' after' t' o') =
    let a = same_take k o.taken o'.taken in
    record { value = a.token; rest = a.rest }
goto_same k (G.goto ts after t o) (G.go_to ts' after' rest' t' u' o' take') = absurd (cc ((same_take k o.taken o'.taken).kind))
goto_same k (G.go_to ts after rest t u o take) (G.goto ts' after' t' o') = absurd (cc ((same_take k o.taken o'.taken).kind))
goto_same k (G.go_to ts after rest t u o take) (G.go_to ts' after' rest' t' u' o' take') =
    let a = same_take k o.taken o'.taken in
    let b = same_take a.rest take take' in
    record { value = a.token; rest = b.rest }

pub direction_same : (d d' : Direction) → K.Name (stream_word d) ≡ K.Name (stream_word d') → d ≡ d'
direction_same Getting Getting e = refl
direction_same Getting Putting e = absurd (cc e)
direction_same Putting Getting e = absurd (cc e)
direction_same Putting Putting e = refl

pub simple_same : {s : List ℕ} {ts ts' r r' : List Token} {m m' n n' : Marks} {x x' : T.Stmt} → ts ≡ ts' → m ≡ m' → SpellsSimple s ts m x r n → SpellsSimple s ts' m' x' r' n' → SameMarked x x' r r' n n'
unfolding simple_form
simple_same k h (G.null ts rest m t is of) (G.null ts' rest' m' t' is' of') =
    let i : t ≡ t' = cc in
    record { value = cc (ap place_of i); rest = k; marks = h }
simple_same k h (G.assignment ts behind mid after rest m t u target e is no_if of equal source) (G.assignment ts' behind' mid' after' rest' m' t' u' target' e' is' no_if' of' equal' source') =
    let f = reference_same k of of' in
    let a = same_take f.rest equal equal' in
    let g = at_same refl a.rest source source' in
    let i : t ≡ t' = cc in
    let value : T.Assign target e (place_of t) ≡ T.Assign target' e' (place_of t') = cc (f.value, g.value, ap place_of i) in
    let marks : expr_marks e (reference_marks target m) ≡ expr_marks e' (reference_marks target' m') = cc (f.value, g.value, h) in
    record { value = value; rest = g.rest; marks = marks }
simple_same {s} k h (G.call ts after mid rest m t u word a o name args) (G.call ts' after' mid' rest' m' t' u' word' a' o' name' args') =
    let b = same_take k o.taken o'.taken in
    let c = name_same s b.rest name name' in
    let f = arguments_same c.rest args args' in
    let value : T.Call (name_at s u word) a (place_of t) ≡ T.Call (name_at s u' word') a' (place_of t') = cc (c.value, f.value, ap place_of b.token) in
    let marks : arguments_marks a m ≡ arguments_marks a' m' = cc (f.value, h) in
    record { value = value; rest = f.rest; marks = marks }
simple_same k h (G.return' ts after rest m t e o of) (G.return' ts' after' rest' m' t' e' o' of') =
    let b = same_take k o.taken o'.taken in
    let f = return_same b.rest of of' in
    let value : T.Return e (place_of t) ≡ T.Return e' (place_of t') = cc (f.value, ap place_of b.token) in
    let marks : marks_if expr_marks e m ≡ marks_if expr_marks e' m' = cc (ap (marks_if expr_marks) f.value, h) in
    record { value = value; rest = f.rest; marks = marks }
simple_same {s} k h (G.goto ts after rest m t u word o name) (G.goto ts' after' rest' m' t' u' word' o' name') =
    let b = goto_same k o o' in
    let f = name_same s b.rest name name' in
    let value : T.Goto (name_at s u word) (place_of t) ≡ T.Goto (name_at s u' word') (place_of t') = cc (f.value, ap place_of b.value) in
    record { value = value; rest = f.rest; marks = h }
simple_same k h (G.stop ts rest m t o) (G.stop ts' rest' m' t' o') =
    let b = same_take k o.taken o'.taken in
    record { value = ap (λ u. T.Stop (place_of u)) b.token; rest = b.rest; marks = h }
simple_same k h (G.signal ts after rest m t c o of) (G.signal ts' after' rest' m' t' c' o' of') =
    let b = same_take k o.taken o'.taken in
    let f = condition_same b.rest of of' in
    let value : T.Signal c (place_of t) ≡ T.Signal c' (place_of t') = cc (f.value, ap place_of b.token) in
    record { value = value; rest = f.rest; marks = h }
simple_same k h (G.revert ts after rest m t c o of) (G.revert ts' after' rest' m' t' c' o' of') =
    let b = same_take k o.taken o'.taken in
    let f = condition_same b.rest of of' in
    let value : T.Revert c (place_of t) ≡ T.Revert c' (place_of t') = cc (f.value, ap place_of b.token) in
    record { value = value; rest = f.rest; marks = h }
simple_same k h (G.allocate ts after rest m n t others o of) (G.allocate ts' after' rest' m' n' t' others' o' of') =
    let b = same_take k o.taken o'.taken in
    let f = allocations_same b.rest h of of' in
    let value : T.Allocate others (place_of t) ≡ T.Allocate others' (place_of t') = cc (f.value, ap place_of b.token) in
    record { value = value; rest = f.rest; marks = f.marks }
simple_same k h (G.free ts after rest m t fs o of) (G.free ts' after' rest' m' t' fs' o' of') =
    let b = same_take k o.taken o'.taken in
    let f = freeings_same b.rest of of' in
    let value : T.Free fs (place_of t) ≡ T.Free fs' (place_of t') = cc (f.value, ap place_of b.token) in
    let marks : freeings_marks fs m ≡ freeings_marks fs' m' = cc (ap freeings_marks f.value, h) in
    record { value = value; rest = f.rest; marks = marks }
simple_same k h (G.move d ts after mid rest m t y ps o of pairs moves) (G.move d' ts' after' mid' rest' m' t' y' ps' o' of' pairs' moves') =
    let b = same_take k o.taken o'.taken in
    let i = direction_same d d' b.kind in
    let f = stream_options_same refl b.rest of of' in
    let g = edit_same f.rest pairs pairs' in
    let value : moving d y ps (place_of t) ≡ moving d' y' ps' (place_of t') = cc (ap moving i, f.value, g.value, ap place_of b.token) in
    let skipped : skip_marks y m ≡ skip_marks y' m' = cc (ap skip_marks f.value, h) in
    let marks : pairs_marks d ps (skip_marks y m) ≡ pairs_marks d' ps' (skip_marks y' m') = cc (ap pairs_marks i, g.value, skipped) in
    record { value = value; rest = g.rest; marks = marks }
simple_same k h d d' = absurd (cc (simple_forms k d d'))

-- ---- heads

-- WHILE with an expression and a semicolon behind it begins no counting
pub while_no_count : {s : List ℕ} {ts ts' mid behind rest r : List Token} {u v : Token} {e : T.Expr} {c : T.Counting} {m n : Marks} → ts ≡ ts' → Takes ts (K.Name W.While) u mid → SpellsInParentheses s mid e behind → Takes behind (K.Symbol S.Semicolon) v rest → SpellsCounting s ts' m c r n → ⊥
while_no_count {s} {ts} {mid = mid} {behind = behind} {u = u} {e = e} k take (G.in_parentheses mid' after inner behind' t w e' o of c) semi (G.counting ts' at' after' behind'' at rest' m n t' v' e'' r' w' target equal of' range condition) =
    let no_close : next_kind after ≢ Some (K.Symbol S.CloseParenthesis) = λ z. cc (ap begins_expr z, expr_begins of) in
    let no_comma : next_kind inner ≢ Some (K.Symbol S.Comma) = λ z. cc (z, next_taken c) in
    let args : SpellsArguments s mid (T.Listed (T.ExprThen e T.NoExpr)) behind = E.listed mid after inner behind t w (T.ExprThen e T.NoExpr) o no_close (E.one after inner e of no_comma) c in
    let no_point : next_kind behind ≢ Some (K.Symbol S.Point) = λ z. cc (z, next_taken semi) in
    let no_arrow : next_kind behind ≢ Some (K.Symbol S.Arrow) = λ z. cc (z, next_taken semi) in
    let q : T.Qualified = T.Last (name_at s u W.While) (T.Listed (T.ExprThen e T.NoExpr)) in
    let r : SpellsReference s ts (T.Plain q) behind = E.basic ts behind behind q (T.Plain q) (E.last ts mid behind u W.While (T.Listed (T.ExprThen e T.NoExpr)) take args no_point) (E.no_arrow (T.Plain q) behind no_arrow) in
    let f = reference_same k r target in
    cc ((same_take f.rest semi equal).kind)

counting_begins : {s : List ℕ} {ts r : List Token} {c : T.Counting} {m n : Marks} {t : Token} → {ts' : List Token} → ts ≡ ts' → Takes ts (K.Symbol S.Semicolon) t r → {r' : List Token} → SpellsCounting s ts' m c r' n → ⊥
counting_begins k take (G.counting ts' at' after' behind'' at rest' m n t' v' e'' r' w' target equal of' range condition) = cc (ap next_kind k, next_taken take, (reference_begins target).first)

unfoldable pub head_form : {s : List ℕ} {ts r : List Token} {m n : Marks} {x : G.Head} → SpellsHead s ts m x r n → Form
head_form (G.procedure ts after mid behind rest m t u ns options o of of_options semi) = Keyed W.Procedure
head_form (G.declare ts after mid rest m t u ds o of semi) = Keyed W.Declare
head_form (G.simple ts mid rest m n u x of semi) = simple_form of
head_form (G.if_then ts after mid rest m t u e o of follows) = Keyed W.If
head_form (G.else' ts rest m t o) = Keyed W.Else
head_form (G.do_group ts after rest m t u o semi) = Keyed W.Do
head_form (G.do_while ts after mid behind rest m t u v e o take of semi) = Keyed W.Do
head_form (G.do_count ts after mid rest m n t u c o of semi) = Keyed W.Do
head_form (G.begin ts after rest m t u o semi) = Keyed W.Begin
head_form (G.on ts after rest m t c o of) = Keyed W.On
head_form (G.system ts after rest m t u o semi) = Keyed W.System
head_form (G.unnamed_end ts after rest m t u o semi) = Keyed W.End
head_form (G.named_end ts after mid rest m t u v word o name semi) = Keyed W.End

pub head_has_form : {s : List ℕ} {ts r : List Token} {m n : Marks} {x : G.Head} → (d : SpellsHead s ts m x r n) → HasForm s ts (head_form d)
unfolding head_form
head_has_form (G.procedure ts after mid behind rest m t u ns options o of of_options semi) = HasForm.keyed W.Procedure t after o
head_has_form (G.declare ts after mid rest m t u ds o of semi) = HasForm.keyed W.Declare t after o
head_has_form (G.simple ts mid rest m n u x of semi) = simple_has_form of
head_has_form (G.if_then ts after mid rest m t u e o of follows) = HasForm.keyed W.If t after o
head_has_form (G.else' ts rest m t o) = HasForm.keyed W.Else t rest o
head_has_form (G.do_group ts after rest m t u o semi) = HasForm.keyed W.Do t after o
head_has_form (G.do_while ts after mid behind rest m t u v e o take of semi) = HasForm.keyed W.Do t after o
head_has_form (G.do_count ts after mid rest m n t u c o of semi) = HasForm.keyed W.Do t after o
head_has_form (G.begin ts after rest m t u o semi) = HasForm.keyed W.Begin t after o
head_has_form (G.on ts after rest m t c o of) = HasForm.keyed W.On t after o
head_has_form (G.system ts after rest m t u o semi) = HasForm.keyed W.System t after o
head_has_form (G.unnamed_end ts after rest m t u o semi) = HasForm.keyed W.End t after o
head_has_form (G.named_end ts after mid rest m t u v word o name semi) = HasForm.keyed W.End t after o

-- a head is a simple statement
unfoldable pub head_simple : {s : List ℕ} {ts r : List Token} {m n : Marks} {x : G.Head} → SpellsHead s ts m x r n → Bool
head_simple (G.simple ts mid rest m n u x of semi) = true
head_simple d = false

pub head_is_simple : {s : List ℕ} {ts r : List Token} {m n : Marks} {x : G.Head} → (d : SpellsHead s ts m x r n) → is_simple (head_form d) ≡ head_simple d
unfolding head_form head_simple
head_is_simple (G.procedure ts after mid behind rest m t u ns options o of of_options semi) = refl
head_is_simple (G.declare ts after mid rest m t u ds o of semi) = refl
head_is_simple (G.simple ts mid rest m n u x of semi) = simple_is_simple of
head_is_simple (G.if_then ts after mid rest m t u e o of follows) = refl
head_is_simple (G.else' ts rest m t o) = refl
head_is_simple (G.do_group ts after rest m t u o semi) = refl
head_is_simple (G.do_while ts after mid behind rest m t u v e o take of semi) = refl
head_is_simple (G.do_count ts after mid rest m n t u c o of semi) = refl
head_is_simple (G.begin ts after rest m t u o semi) = refl
head_is_simple (G.on ts after rest m t c o of) = refl
head_is_simple (G.system ts after rest m t u o semi) = refl
head_is_simple (G.unnamed_end ts after rest m t u o semi) = refl
head_is_simple (G.named_end ts after mid rest m t u v word o name semi) = refl

pub head_some : {s : List ℕ} {ts r : List Token} {m n : Marks} {x : G.Head} → SpellsHead s ts m x r n → ts ≡ [] → ⊥
head_some d = form_some (head_has_form d)

pub head_forms : {s : List ℕ} {ts ts' r r' : List Token} {m m' n n' : Marks} {x x' : G.Head} → ts ≡ ts' → (d : SpellsHead s ts m x r n) → (d' : SpellsHead s ts' m' x' r' n') → head_form d ≡ head_form d'
head_forms k d d' = form_once k (head_has_form d) (head_has_form d')

heads_simple : {s : List ℕ} {ts ts' r r' : List Token} {m m' n n' : Marks} {x x' : G.Head} → ts ≡ ts' → (d : SpellsHead s ts m x r n) → (d' : SpellsHead s ts' m' x' r' n') → head_simple d ≡ head_simple d'
heads_simple k d d' = sym (head_is_simple d) ∙ (ap is_simple (head_forms k d d') ∙ head_is_simple d')

pub head_same : {s : List ℕ} {ts ts' r r' : List Token} {m m' n n' : Marks} {x x' : G.Head} → ts ≡ ts' → m ≡ m' → SpellsHead s ts m x r n → SpellsHead s ts' m' x' r' n' → SameMarked x x' r r' n n'
unfolding head_form head_simple
head_same k h (G.procedure ts after mid behind rest m t u ns options o of of_options semi) (G.procedure ts' after' mid' behind' rest' m' t' u' ns' options' o' of' of_options' semi') =
    let b = same_take k o.taken o'.taken in
    let f = parameters_same b.rest of of' in
    let g = options_same f.rest of_options of_options' in
    let c = same_take g.rest semi semi' in
    let value : G.ProcedureFront (place_of t) ns options ≡ G.ProcedureFront (place_of t') ns' options' = cc (f.value, g.value, ap place_of b.token) in
    let first : parameters_marks 0 ns m ≡ parameters_marks 0 ns' m' = cc (ap (parameters_marks 0) f.value, h) in
    let marks : options_marks options (parameters_marks 0 ns m) ≡ options_marks options' (parameters_marks 0 ns' m') = cc (ap options_marks g.value, first) in
    record { value = value; rest = c.rest; marks = marks }
head_same k h (G.declare ts after mid rest m t u ds o of semi) (G.declare ts' after' mid' rest' m' t' u' ds' o' of' semi') =
    let b = same_take k o.taken o'.taken in
    let f = declare_items_same b.rest of of' in
    let c = same_take f.rest semi semi' in
    let value : G.Declaring ds (place_of t) ≡ G.Declaring ds' (place_of t') = cc (f.value, ap place_of b.token) in
    let marks : declare_items_marks ds m ≡ declare_items_marks ds' m' = cc (ap declare_items_marks f.value, h) in
    record { value = value; rest = c.rest; marks = marks }
head_same k h (G.simple ts mid rest m n u x of semi) (G.simple ts' mid' rest' m' n' u' x' of' semi') =
    let f = simple_same k h of of' in
    let c = same_take f.rest semi semi' in
    record { value = ap G.Simple f.value; rest = c.rest; marks = f.marks }
head_same k h (G.if_then ts after mid rest m t u e o of follows) (G.if_then ts' after' mid' rest' m' t' u' e' o' of' follows') =
    let b = same_take k o.taken o'.taken in
    let f = at_same refl b.rest of of' in
    let c = same_take f.rest follows follows' in
    let value : G.IfThen e (place_of t) ≡ G.IfThen e' (place_of t') = cc (f.value, ap place_of b.token) in
    let marks : expr_marks e m ≡ expr_marks e' m' = cc (f.value, h) in
    record { value = value; rest = c.rest; marks = marks }
head_same k h (G.else' ts rest m t o) (G.else' ts' rest' m' t' o') =
    let b = same_take k o.taken o'.taken in
    record { value = ap (λ u. G.Else (place_of u)) b.token; rest = b.rest; marks = h }
head_same k h (G.do_group ts after rest m t u o semi) (G.do_group ts' after' rest' m' t' u' o' semi') =
    let b = same_take k o.taken o'.taken in
    let c = same_take b.rest semi semi' in
    record { value = ap (λ u. G.DoGroup (place_of u)) b.token; rest = c.rest; marks = h }
head_same k h (G.do_while ts after mid behind rest m t u v e o take of semi) (G.do_while ts' after' mid' behind' rest' m' t' u' v' e' o' take' of' semi') =
    let b = same_take k o.taken o'.taken in
    let c = same_take b.rest take take' in
    let f = in_parentheses_same c.rest of of' in
    let g = same_take f.rest semi semi' in
    let value : G.DoWhileGroup e (place_of t) ≡ G.DoWhileGroup e' (place_of t') = cc (f.value, ap place_of b.token) in
    let marks : expr_marks e m ≡ expr_marks e' m' = cc (f.value, h) in
    record { value = value; rest = g.rest; marks = marks }
head_same k h (G.do_count ts after mid rest m n t u c o of semi) (G.do_count ts' after' mid' rest' m' n' t' u' c' o' of' semi') =
    let b = same_take k o.taken o'.taken in
    let f = counting_same b.rest h of of' in
    let g = same_take f.rest semi semi' in
    let value : G.DoCountGroup c (place_of t) ≡ G.DoCountGroup c' (place_of t') = cc (f.value, ap place_of b.token) in
    record { value = value; rest = g.rest; marks = f.marks }
head_same k h (G.begin ts after rest m t u o semi) (G.begin ts' after' rest' m' t' u' o' semi') =
    let b = same_take k o.taken o'.taken in
    let c = same_take b.rest semi semi' in
    record { value = ap (λ u. G.BeginBlock (place_of u)) b.token; rest = c.rest; marks = h }
head_same k h (G.on ts after rest m t c o of) (G.on ts' after' rest' m' t' c' o' of') =
    let b = same_take k o.taken o'.taken in
    let f = condition_same b.rest of of' in
    let value : G.On c (place_of t) ≡ G.On c' (place_of t') = cc (f.value, ap place_of b.token) in
    record { value = value; rest = f.rest; marks = h }
head_same k h (G.system ts after rest m t u o semi) (G.system ts' after' rest' m' t' u' o' semi') =
    let b = same_take k o.taken o'.taken in
    let c = same_take b.rest semi semi' in
    record { value = ap (λ u. G.System (place_of u)) b.token; rest = c.rest; marks = h }
head_same k h (G.unnamed_end ts after rest m t u o semi) (G.unnamed_end ts' after' rest' m' t' u' o' semi') =
    let b = same_take k o.taken o'.taken in
    let c = same_take b.rest semi semi' in
    record { value = ap (λ u. G.EndOf None (place_of u)) b.token; rest = c.rest; marks = h }
head_same {s} k h (G.named_end ts after mid rest m t u v word o name semi) (G.named_end ts' after' mid' rest' m' t' u' v' word' o' name' semi') =
    let b = same_take k o.taken o'.taken in
    let f = name_same s b.rest name name' in
    let g = same_take f.rest semi semi' in
    let value : G.EndOf (Some (name_at s u word)) (place_of t) ≡ G.EndOf (Some (name_at s u' word')) (place_of t') = cc (f.value, ap place_of b.token) in
    record { value = value; rest = g.rest; marks = h }
head_same k h (G.do_group ts after rest m t u o semi) (G.do_while ts' after' mid' behind' rest' m' t' u' v' e' o' take' of' semi') =
    let b = same_take k o.taken o'.taken in
    absurd (cc ((same_take b.rest semi take').kind))
head_same k h (G.do_group ts after rest m t u o semi) (G.do_count ts' after' mid' rest' m' n' t' u' c' o' of' semi') =
    let b = same_take k o.taken o'.taken in
    absurd (counting_begins b.rest semi of')
head_same k h (G.do_while ts after mid behind rest m t u v e o take of semi) (G.do_group ts' after' rest' m' t' u' o' semi') =
    let b = same_take k o.taken o'.taken in
    absurd (cc ((same_take b.rest take semi').kind))
head_same k h (G.do_while ts after mid behind rest m t u v e o take of semi) (G.do_count ts' after' mid' rest' m' n' t' u' c' o' of' semi') =
    let b = same_take k o.taken o'.taken in
    absurd (while_no_count b.rest take of semi of')
head_same k h (G.do_count ts after mid rest m n t u c o of semi) (G.do_group ts' after' rest' m' t' u' o' semi') =
    let b = same_take k o.taken o'.taken in
    absurd (counting_begins (sym b.rest) semi' of)
head_same k h (G.do_count ts after mid rest m n t u c o of semi) (G.do_while ts' after' mid' behind' rest' m' t' u' v' e' o' take' of' semi') =
    let b = same_take k o.taken o'.taken in
    absurd (while_no_count (sym b.rest) take' of' semi' of)
head_same k h (G.unnamed_end ts after rest m t u o semi) (G.named_end ts' after' mid' rest' m' t' u' v' word' o' name' semi') =
    let b = same_take k o.taken o'.taken in
    absurd (cc ((same_take b.rest semi name').kind))
head_same k h (G.named_end ts after mid rest m t u v word o name semi) (G.unnamed_end ts' after' rest' m' t' u' o' semi') =
    let b = same_take k o.taken o'.taken in
    absurd (cc ((same_take b.rest name semi').kind))
head_same k h d d' = absurd (cc (both_same (head_forms k d d') (heads_simple k d d')))
