-- A source and the tree that its tokens spell, by the rules of the grammar.
use Rattle.std.proofs.Common.{ℕ, suc, List, [], ◌∷◌, Some, refl}
use lib.Chars.{codes}
use Rattle.pli_language.specs.declared.expr.Place.{Place}
use Rattle.pli_language.specs.declared.token.Kind.{Kind}
use Rattle.pli_language.specs.declared.token.Kind.TheVariants as K
use Rattle.pli_language.specs.declared.token.Symbol.TheVariants as S
use Rattle.pli_language.specs.declared.token.Word.TheVariants as W
use Rattle.pli_language.specs.declared.token.Token.{Token}
use Rattle.pli_language.specs.Heads as H
use Rattle.pli_language.specs.Marks as M
use Rattle.pli_language.specs.Nesting as N
use Rattle.pli_language.specs.Parsing as G
use Rattle.pli_language.specs.Spells as E
use Rattle.pli_language.specs.Tree as T
use Rattle.pli_language.proofs.UniqueHeads.{opens_alone}

abbrev source : List ℕ
source = codes "T:PROC OPTIONS(MAIN);X=1;END T;"

abbrev at : ℕ → Place
at column = record { line = 1; column = column }

abbrev token : Kind → ℕ → ℕ → Token
token kind start end = record { kind = kind; start = start; end = end; line = 1; column = suc start }

abbrev t1 : Token
t1 = token (K.Name W.Other) 0 1

abbrev t2 : Token
t2 = token (K.Symbol S.Colon) 1 2

abbrev t3 : Token
t3 = token (K.Name W.Procedure) 2 6

abbrev t4 : Token
t4 = token (K.Name W.Options) 7 14

abbrev t5 : Token
t5 = token (K.Symbol S.OpenParenthesis) 14 15

abbrev t6 : Token
t6 = token (K.Name W.Main) 15 19

abbrev t7 : Token
t7 = token (K.Symbol S.CloseParenthesis) 19 20

abbrev t8 : Token
t8 = token (K.Symbol S.Semicolon) 20 21

abbrev t9 : Token
t9 = token (K.Name W.Other) 21 22

abbrev t10 : Token
t10 = token (K.Symbol S.Equal) 22 23

abbrev t11 : Token
t11 = token (K.Number 1) 23 24

abbrev t12 : Token
t12 = token (K.Symbol S.Semicolon) 24 25

abbrev t13 : Token
t13 = token (K.Name W.End) 25 28

abbrev t14 : Token
t14 = token (K.Name W.Other) 29 30

abbrev t15 : Token
t15 = token (K.Symbol S.Semicolon) 30 31

-- the tokens from each place on
abbrev r15 : List Token
r15 = []

abbrev r14 : List Token
r14 = t15 ∷ r15

abbrev r13 : List Token
r13 = t14 ∷ r14

abbrev r12 : List Token
r12 = t13 ∷ r13

abbrev r11 : List Token
r11 = t12 ∷ r12

abbrev r10 : List Token
r10 = t11 ∷ r11

abbrev r9 : List Token
r9 = t10 ∷ r10

abbrev r8 : List Token
r8 = t9 ∷ r9

abbrev r7 : List Token
r7 = t8 ∷ r8

abbrev r6 : List Token
r6 = t7 ∷ r7

abbrev r5 : List Token
r5 = t6 ∷ r6

abbrev r4 : List Token
r4 = t5 ∷ r5

abbrev r3 : List Token
r3 = t4 ∷ r4

abbrev r2 : List Token
r2 = t3 ∷ r3

abbrev r1 : List Token
r1 = t2 ∷ r2

abbrev r0 : List Token
r0 = t1 ∷ r1

-- the first of the tokens
abbrev here : {t : Token} {ts : List Token} → E.Takes (t ∷ ts) t.kind t ts
here = record { is = refl; of_kind = refl }

abbrev name_t : T.Name
name_t = record { letters = codes "T"; word = W.Other; place = at 1 }

abbrev ended_name : T.Name
ended_name = record { letters = codes "T"; word = W.Other; place = at 30 }

abbrev name_x : T.Qualified
name_x = T.Last (record { letters = codes "X"; word = W.Other; place = at 22 }) T.Absent

abbrev one : T.Expr
one = T.Number 1 (at 24)

abbrev assign : T.Stmt
assign = T.Assign (T.Plain name_x) one (at 22)

abbrev front : T.ProcedureHead
front = record { labels = name_t ∷ []; place = at 3; parameters = []; options = T.Main ∷ [] }

abbrev tree : T.Tree
tree = record { procedures = T.ItemThen (T.Procedure front (T.ItemThen (T.Statement [] assign) T.NoItem)) T.NoItem }

-- ---- the heads

procedure_read : H.SpellsHead source r2 M.no_marks (H.ProcedureFront (at 3) [] (T.Main ∷ [])) r8 M.no_marks
procedure_read =
    let main = H.option r3 r7 r7 T.Main [] (H.main r3 r4 r5 r6 r7 t4 t5 t6 t7 here here here here) (H.no_option r7 refl) in
    H.procedure r2 r3 r3 r7 r8 M.no_marks t3 t8 [] (T.Main ∷ []) (opens_alone here refl) (H.no_parameter r3 (λ z. cc z)) main here

variable_read : E.SpellsReference source r8 (T.Plain name_x) r9
variable_read =
    E.basic r8 r9 r9 name_x (T.Plain name_x) (E.last r8 r9 r9 t9 W.Other T.Absent here (E.absent r9 (λ z. cc z)) (λ z. cc z)) (E.no_arrow (T.Plain name_x) r9 (λ z. cc z))

one_read : E.SpellsExpr source r10 one r11
one_read = E.chain E.Disjoining r10 r11 r11 one one (E.chain E.Conjoining r10 r11 r11 one one (E.chain E.Comparing r10 r11 r11 one one (E.chain E.Joining r10 r11 r11 one one (E.chain E.Adding r10 r11 r11 one one (E.chain E.Multiplying r10 r11 r11 one one (E.primary r10 r11 one (E.number r10 r11 t11 1 here)) (E.stops E.Multiplying one r11 refl)) (E.stops E.Adding one r11 refl)) (E.stops E.Joining one r11 refl)) (E.stops E.Comparing one r11 refl)) (E.stops E.Conjoining one r11 refl)) (E.stops E.Disjoining one r11 refl)

assignment_read : H.SpellsHead source r8 M.no_marks (H.Simple assign) r12 M.no_marks
unfolding M.expr_marks M.reference_marks M.qualified_marks M.arguments_marks
assignment_read =
    let no_if : ¬ H.BeginsIf source r8 = λ b. cc (b.is_if.is, b.is_if.of_kind) in
    H.simple r8 r11 r12 M.no_marks M.no_marks t12 assign (H.assignment r8 r9 r9 r10 r11 M.no_marks t9 t10 (T.Plain name_x) one refl no_if variable_read here one_read) here

end_read : H.SpellsHead source r12 M.no_marks (H.EndOf (Some ended_name) (at 26)) r15 M.no_marks
end_read = H.named_end r12 r13 r14 r15 M.no_marks t13 t14 t15 W.Other (opens_alone here refl) here here

-- ---- the whole

abbrev in_procedure : List T.Item → N.Nest
in_procedure items = record { outer = []; frames = N.InList (N.OfProcedure front) (name_t ∷ []) items [] ∷ [] }

abbrev all : N.Nest
all = record { outer = T.Procedure front (T.ItemThen (T.Statement [] assign) T.NoItem) ∷ []; frames = [] }

spelled : G.Spells source r0 tree
unfolding N.completed N.closed M.parentheses_marks
spelled =
    let ended : G.Reads source (in_procedure (T.Statement [] assign ∷ [])) r12 [] (Some tree) = G.head (in_procedure (T.Statement [] assign ∷ [])) all r12 r12 r15 [] (H.EndOf (Some ended_name) (at 26)) M.no_marks [] (Some tree) (G.no_label r12 refl) end_read refl (G.all_read all refl) in
    let assigned : G.Reads source (in_procedure []) r8 [] (Some tree) = G.head (in_procedure []) (in_procedure (T.Statement [] assign ∷ [])) r8 r8 r12 [] (H.Simple assign) M.no_marks [] (Some tree) (G.no_label r8 refl) assignment_read refl ended in
    G.head N.outermost (in_procedure []) r0 r2 r8 (name_t ∷ []) (H.ProcedureFront (at 3) [] (T.Main ∷ [])) M.no_marks [] (Some tree) (G.label r0 r2 r2 t1 t2 W.Other [] refl refl (G.no_label r2 refl)) procedure_read refl assigned
