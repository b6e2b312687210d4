-- Heads whose first word could also be a variable's, and one that is left out, read by the rules of the grammar.
use Rattle.std.proofs.Common.{◌≡◌, ℕ, suc, List, [], ◌∷◌, None, refl, ap}
use lib.Chars.{codes}
use Rattle.pli_language.specs.declared.expr.InfixOp.TheVariants as I
use Rattle.pli_language.specs.declared.expr.Place.{Place}
use Rattle.pli_language.specs.declared.fault.SourceKind.TheVariants.{LeftOut}
use Rattle.pli_language.specs.declared.token.Kind.{Kind}
use Rattle.pli_language.specs.declared.token.Kind.TheVariants as K
use Rattle.pli_language.specs.declared.token.Symbol.TheVariants as S
use Rattle.pli_language.specs.declared.token.Word.TheVariants as W
use Rattle.pli_language.specs.declared.token.Token.{Token}
use Rattle.pli_language.specs.Formats.{Getting}
use Rattle.pli_language.specs.Heads as H
use Rattle.pli_language.specs.Marks as M
use Rattle.pli_language.specs.Nesting as N
use Rattle.pli_language.specs.Parsing as G
use Rattle.pli_language.specs.Spells as E
use Rattle.pli_language.specs.Spells.{next_kind}
use Rattle.pli_language.specs.Tree as T
use Rattle.pli_language.proofs.Unique.{at_same}
use Rattle.pli_language.proofs.UniqueHeads.{opens_alone}

abbrev at : ℕ → Place
at column = record { line = 1; column = column }

abbrev token : Kind → ℕ → ℕ → Token
token kind start end = record { kind = kind; start = start; end = end; line = 1; column = suc start }

-- the first of the tokens
abbrev here : {t : Token} {ts : List Token} → E.Takes (t ∷ ts) t.kind t ts
here = record { is = refl; of_kind = refl }

-- ---- IF(A)=1 THEN is an IF

abbrev if_source : List ℕ
if_source = codes "IF(A)=1 THEN"

abbrev i1 : Token
i1 = token (K.Name W.If) 0 2

abbrev i2 : Token
i2 = token (K.Symbol S.OpenParenthesis) 2 3

abbrev i3 : Token
i3 = token (K.Name W.A) 3 4

abbrev i4 : Token
i4 = token (K.Symbol S.CloseParenthesis) 4 5

abbrev i5 : Token
i5 = token (K.Symbol S.Equal) 5 6

abbrev i6 : Token
i6 = token (K.Number 1) 6 7

abbrev i7 : Token
i7 = token (K.Name W.Then) 8 12

abbrev j7 : List Token
j7 = []

abbrev j6 : List Token
j6 = i7 ∷ j7

abbrev j5 : List Token
j5 = i6 ∷ j6

abbrev j4 : List Token
j4 = i5 ∷ j5

abbrev j3 : List Token
j3 = i4 ∷ j4

abbrev j2 : List Token
j2 = i3 ∷ j3

abbrev j1 : List Token
j1 = i2 ∷ j2

abbrev j0 : List Token
j0 = i1 ∷ j1

abbrev name_a : T.Qualified
name_a = T.Last (record { letters = codes "A"; word = W.A; place = at 4 }) T.Absent

abbrev a : T.Expr
a = T.Refers (T.Plain name_a)

abbrev a_alone : T.Expr
a_alone = T.Parenthesized a (at 3)

abbrev one : T.Expr
one = T.Number 1 (at 7)

abbrev equal : T.Expr
equal = T.Infix I.Equal a_alone one

if_a : E.SpellsExpr if_source j2 a j3
if_a = E.chain E.Disjoining j2 j3 j3 a a (E.chain E.Conjoining j2 j3 j3 a a (E.chain E.Comparing j2 j3 j3 a a (E.chain E.Joining j2 j3 j3 a a (E.chain E.Adding j2 j3 j3 a a (E.chain E.Multiplying j2 j3 j3 a a (E.primary j2 j3 a (E.reference j2 j3 (T.Plain name_a) (E.basic j2 j3 j3 name_a (T.Plain name_a) (E.last j2 j3 j3 i3 W.A T.Absent here (E.absent j3 (λ z. cc z)) (λ z. cc z)) (E.no_arrow (T.Plain name_a) j3 (λ z. cc z))))) (E.stops E.Multiplying a j3 refl)) (E.stops E.Adding a j3 refl)) (E.stops E.Joining a j3 refl)) (E.stops E.Comparing a j3 refl)) (E.stops E.Conjoining a j3 refl)) (E.stops E.Disjoining a j3 refl)

if_condition : E.SpellsExpr if_source j1 equal j6
if_condition = E.chain E.Disjoining j1 j6 j6 equal equal (E.chain E.Conjoining j1 j6 j6 equal equal (E.chain E.Comparing j1 j4 j6 a_alone equal (E.chain E.Joining j1 j4 j4 a_alone a_alone (E.chain E.Adding j1 j4 j4 a_alone a_alone (E.chain E.Multiplying j1 j4 j4 a_alone a_alone (E.primary j1 j4 a_alone (E.parenthesized j1 j2 j3 j4 i2 i4 a here (if_a) here)) (E.stops E.Multiplying a_alone j4 refl)) (E.stops E.Adding a_alone j4 refl)) (E.stops E.Joining a_alone j4 refl)) (E.goes_on E.Comparing a_alone one equal j4 j5 j6 j6 i5 I.Equal refl refl (E.chain E.Joining j5 j6 j6 one one (E.chain E.Adding j5 j6 j6 one one (E.chain E.Multiplying j5 j6 j6 one one (E.primary j5 j6 one (E.number j5 j6 i6 1 here)) (E.stops E.Multiplying one j6 refl)) (E.stops E.Adding one j6 refl)) (E.stops E.Joining one j6 refl)) (E.stops E.Comparing equal j6 refl))) (E.stops E.Conjoining equal j6 refl)) (E.stops E.Disjoining equal j6 refl)

if_read : H.SpellsHead if_source j0 M.no_marks (H.IfThen equal (at 1)) j7 M.no_marks
unfolding M.expr_marks M.reference_marks M.qualified_marks M.arguments_marks
if_read =
    let begins : H.BeginsIf if_source j0 = record { after = j1; mid = j6; word = i1; condition = equal; is_if = here; opened = refl; spelled = if_condition; then_follows = refl } in
    H.if_then j0 j1 j6 j7 M.no_marks i1 i7 equal (record { taken = here; no_assignment = λ x. x.no_if begins }) if_condition here

-- ---- IF(A)=1; is an assignment

abbrev assign_source : List ℕ
assign_source = codes "IF(A)=1;"

abbrev u1 : Token
u1 = token (K.Name W.If) 0 2

abbrev u2 : Token
u2 = token (K.Symbol S.OpenParenthesis) 2 3

abbrev u3 : Token
u3 = token (K.Name W.A) 3 4

abbrev u4 : Token
u4 = token (K.Symbol S.CloseParenthesis) 4 5

abbrev u5 : Token
u5 = token (K.Symbol S.Equal) 5 6

abbrev u6 : Token
u6 = token (K.Number 1) 6 7

abbrev u7 : Token
u7 = token (K.Symbol S.Semicolon) 7 8

abbrev v7 : List Token
v7 = []

abbrev v6 : List Token
v6 = u7 ∷ v7

abbrev v5 : List Token
v5 = u6 ∷ v6

abbrev v4 : List Token
v4 = u5 ∷ v5

abbrev v3 : List Token
v3 = u4 ∷ v4

abbrev v2 : List Token
v2 = u3 ∷ v3

abbrev v1 : List Token
v1 = u2 ∷ v2

abbrev v0 : List Token
v0 = u1 ∷ v1

assign_a : E.SpellsExpr assign_source v2 a v3
assign_a = E.chain E.Disjoining v2 v3 v3 a a (E.chain E.Conjoining v2 v3 v3 a a (E.chain E.Comparing v2 v3 v3 a a (E.chain E.Joining v2 v3 v3 a a (E.chain E.Adding v2 v3 v3 a a (E.chain E.Multiplying v2 v3 v3 a a (E.primary v2 v3 a (E.reference v2 v3 (T.Plain name_a) (E.basic v2 v3 v3 name_a (T.Plain name_a) (E.last v2 v3 v3 u3 W.A T.Absent here (E.absent v3 (λ z. cc z)) (λ z. cc z)) (E.no_arrow (T.Plain name_a) v3 (λ z. cc z))))) (E.stops E.Multiplying a v3 refl)) (E.stops E.Adding a v3 refl)) (E.stops E.Joining a v3 refl)) (E.stops E.Comparing a v3 refl)) (E.stops E.Conjoining a v3 refl)) (E.stops E.Disjoining a v3 refl)

assign_condition : E.SpellsExpr assign_source v1 equal v6
assign_condition = E.chain E.Disjoining v1 v6 v6 equal equal (E.chain E.Conjoining v1 v6 v6 equal equal (E.chain E.Comparing v1 v4 v6 a_alone equal (E.chain E.Joining v1 v4 v4 a_alone a_alone (E.chain E.Adding v1 v4 v4 a_alone a_alone (E.chain E.Multiplying v1 v4 v4 a_alone a_alone (E.primary v1 v4 a_alone (E.parenthesized v1 v2 v3 v4 u2 u4 a here (assign_a) here)) (E.stops E.Multiplying a_alone v4 refl)) (E.stops E.Adding a_alone v4 refl)) (E.stops E.Joining a_alone v4 refl)) (E.goes_on E.Comparing a_alone one equal v4 v5 v6 v6 u5 I.Equal refl refl (E.chain E.Joining v5 v6 v6 one one (E.chain E.Adding v5 v6 v6 one one (E.chain E.Multiplying v5 v6 v6 one one (E.primary v5 v6 one (E.number v5 v6 u6 1 here)) (E.stops E.Multiplying one v6 refl)) (E.stops E.Adding one v6 refl)) (E.stops E.Joining one v6 refl)) (E.stops E.Comparing equal v6 refl))) (E.stops E.Conjoining equal v6 refl)) (E.stops E.Disjoining equal v6 refl)

abbrev element : T.Qualified
element = T.Last (record { letters = codes "IF"; word = W.If; place = at 1 }) (T.Listed (T.ExprThen a T.NoExpr))

element_read : E.SpellsReference assign_source v0 (T.Plain element) v4
element_read =
    E.basic v0 v4 v4 element (T.Plain element) (E.last v0 v1 v4 u1 W.If (T.Listed (T.ExprThen a T.NoExpr)) here (E.listed v1 v2 v3 v4 u2 u4 (T.ExprThen a T.NoExpr) here (λ z. cc z) (E.one v2 v3 a assign_a (λ z. cc z)) here) (λ z. cc z)) (E.no_arrow (T.Plain element) v4 (λ z. cc z))

one_read : E.SpellsExpr assign_source v5 one v6
one_read = E.chain E.Disjoining v5 v6 v6 one one (E.chain E.Conjoining v5 v6 v6 one one (E.chain E.Comparing v5 v6 v6 one one (E.chain E.Joining v5 v6 v6 one one (E.chain E.Adding v5 v6 v6 one one (E.chain E.Multiplying v5 v6 v6 one one (E.primary v5 v6 one (E.number v5 v6 u6 1 here)) (E.stops E.Multiplying one v6 refl)) (E.stops E.Adding one v6 refl)) (E.stops E.Joining one v6 refl)) (E.stops E.Comparing one v6 refl)) (E.stops E.Conjoining one v6 refl)) (E.stops E.Disjoining one v6 refl)

-- the longest expression behind IF ends at the semicolon
no_if : ¬ H.BeginsIf assign_source v0
no_if b =
    let behind : v1 ≡ b.after = cc (b.is_if.is) in
    let ends : next_kind v6 ≡ next_kind b.mid = ap next_kind (at_same refl behind assign_condition b.spelled).rest in
    cc (ends, b.then_follows)

assign_read : H.SpellsHead assign_source v0 M.no_marks (H.Simple (T.Assign (T.Plain element) one (at 1))) v7 (record { room = 99; faults = [] })
unfolding M.expr_marks M.reference_marks M.qualified_marks M.arguments_marks M.argument_list_marks
assign_read =
    let m : M.Marks = record { room = 99; faults = [] } in
    H.simple v0 v6 v7 M.no_marks m u7 (T.Assign (T.Plain element) one (at 1)) (H.assignment v0 v1 v4 v5 v6 M.no_marks u1 u5 (T.Plain element) one refl no_if element_read here one_read) here

-- ---- P:PROC;GET LIST is left out, told at LIST

abbrev list_source : List ℕ
list_source = codes "P:PROC;GET LIST"

abbrev p1 : Token
p1 = token (K.Name W.Other) 0 1

abbrev p2 : Token
p2 = token (K.Symbol S.Colon) 1 2

abbrev p3 : Token
p3 = token (K.Name W.Procedure) 2 6

abbrev p4 : Token
p4 = token (K.Symbol S.Semicolon) 6 7

abbrev p5 : Token
p5 = token (K.Name W.Get) 7 10

abbrev p6 : Token
p6 = token (K.Name W.List) 11 15

abbrev q6 : List Token
q6 = []

abbrev q5 : List Token
q5 = p6 ∷ q6

abbrev q4 : List Token
q4 = p5 ∷ q5

abbrev q3 : List Token
q3 = p4 ∷ q4

abbrev q2 : List Token
q2 = p3 ∷ q3

abbrev q1 : List Token
q1 = p2 ∷ q2

abbrev q0 : List Token
q0 = p1 ∷ q1

abbrev name_p : T.Name
name_p = record { letters = codes "P"; word = W.Other; place = at 1 }

abbrev front : T.ProcedureHead
front = record { labels = name_p ∷ []; place = at 3; parameters = []; options = [] }

abbrev opened : N.Nest
opened = record { outer = []; frames = N.InList (N.OfProcedure front) (name_p ∷ []) [] [] ∷ [] }

front_read : H.SpellsHead list_source q2 M.no_marks (H.ProcedureFront (at 3) [] []) q4 M.no_marks
front_read = H.procedure q2 q3 q3 q3 q4 M.no_marks p3 p4 [] [] (opens_alone here refl) (H.no_parameter q3 (λ z. cc z)) (H.no_option q3 refl) here

list_left_out : H.LeavesOut list_source q4 M.no_marks q5 M.no_marks
list_left_out = H.stream Getting q4 q5 q6 M.no_marks p5 p6 W.List (opens_alone here refl) here refl

list_refused : G.Reads list_source N.outermost q0 (M.fault_at (at 12) LeftOut ∷ []) None
unfolding M.parentheses_marks
list_refused =
    let told : G.Reads list_source opened q4 (M.fault_at (at 12) LeftOut ∷ []) None = G.left_out opened q4 q4 q6 [] M.no_marks p6 (G.no_label q4 refl) list_left_out in
    G.head N.outermost opened q0 q2 q4 (name_p ∷ []) (H.ProcedureFront (at 3) [] []) M.no_marks (M.fault_at (at 12) LeftOut ∷ []) None (G.label q0 q2 q2 p1 p2 W.Other [] refl refl (G.no_label q2 refl)) front_read refl told
