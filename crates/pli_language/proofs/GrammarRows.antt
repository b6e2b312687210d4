-- Worked rows of the grammar: how heads nest, computed on the definitions.
use Rattle.std.proofs.Common.{◌≡◌, ℕ, List, [], ◌∷◌, Option, Some, None, refl}
use lib.Chars.{codes}
use Rattle.pli_language.specs.declared.condition.Condition.TheVariants as C
use Rattle.pli_language.specs.declared.expr.Place.{Place}
use Rattle.pli_language.specs.declared.token.Word.TheVariants as W
use Rattle.pli_language.specs.Heads as H
use Rattle.pli_language.specs.Nesting as N
use Rattle.pli_language.specs.Tree as T

abbrev at : ℕ → ℕ → Place
at line column = record { line = line; column = column }

abbrev name : List ℕ → ℕ → ℕ → T.Name
name letters line column = record { letters = letters; word = W.Other; place = at line column }

abbrev variable : List ℕ → T.Reference
variable letters = T.Plain (T.Last (name letters 3 1) T.Absent)

abbrev of_name : List ℕ → T.Expr
of_name letters = T.Refers (variable letters)

-- X = n
abbrev assign : ℕ → ℕ → T.Stmt
assign n line = T.Assign (variable (codes "X")) (T.Number n (at line 5)) (at line 1)

-- heads with their labels
abbrev Front : Type 0
Front = List T.Name × H.Head

-- the nest behind heads, none where one may not stand
abbrev entered_all : Option N.Nest → List Front → Option N.Nest
entered_all n [] = n
entered_all None (f ∷ fs) = None
entered_all (Some n) (f ∷ fs) = entered_all (N.entered n f.0 f.1) fs

abbrev front : H.Head → Front
front h = ([], h)

abbrev t : T.Name
t = name (codes "T") 1 1

-- T: PROC OPTIONS(MAIN);
abbrev opens : Front
opens = (t ∷ [], H.ProcedureFront (at 1 4) [] (T.Main ∷ []))

-- END T;
abbrev closes : Front
closes = front (H.EndOf (Some t) (at 9 1))

abbrev program : T.Items → Option N.Nest
program items = Some (record {
  outer = T.Procedure (record {
    labels = t ∷ [];
    place = at 1 4;
    parameters = [];
    options = T.Main ∷ [];
  }) items ∷ [];
  frames = [];
})

abbrev nest_of : List Front → Option N.Nest
nest_of fs = entered_all (Some N.outermost) (opens ∷ fs)

abbrev statement : T.Stmt → T.Items → T.Items
statement x items = T.ItemThen (T.Statement [] x) items

abbrev only : T.Stmt → T.Items
only x = statement x T.NoItem

abbrev if_a : H.Head
if_a = H.IfThen (of_name (codes "A")) (at 2 1)

abbrev if_b : H.Head
if_b = H.IfThen (of_name (codes "B")) (at 2 11)

abbrev is : ℕ → ℕ → Front
is n line = front (H.Simple (assign n line))

abbrev else_at : ℕ → Front
else_at line = front (H.Else (at line 1))

-- what nests are computed with
computing : Unit {0}
unfolding N.completed N.closed
computing = tt

-- IF A THEN IF B THEN X = 1; ELSE X = 2; the ELSE is that of the inner IF
else_of_inner : nest_of (front if_a ∷ front if_b ∷ is 1 3 ∷ else_at 4 ∷ is 2 5 ∷ closes ∷ []) ≡ program (only (T.If (of_name (codes "A")) (T.IfElse (of_name (codes "B")) (assign 1 3) (assign 2 5) (at 2 11)) (at 2 1)))
unfolding computing
else_of_inner = refl

-- a second ELSE is that of the outer IF, which ends with it
else_of_outer : nest_of (front if_a ∷ front if_b ∷ is 1 3 ∷ else_at 4 ∷ is 2 5 ∷ else_at 6 ∷ is 3 7 ∷ is 4 8 ∷ closes ∷ []) ≡ program (statement (T.IfElse (of_name (codes "A")) (T.IfElse (of_name (codes "B")) (assign 1 3) (assign 2 5) (at 2 11)) (assign 3 7) (at 2 1)) (only (assign 4 8)))
unfolding computing
else_of_outer = refl

-- an IF without ELSE ends where another head begins: IF A THEN DO; X = 1; END; X = 2;
if_ends : nest_of (front if_a ∷ front (H.DoGroup (at 2 11)) ∷ is 1 3 ∷ front (H.EndOf None (at 4 1)) ∷ is 2 5 ∷ closes ∷ []) ≡ program (statement (T.If (of_name (codes "A")) (T.Do (only (assign 1 3)) (at 2 11)) (at 2 1)) (only (assign 2 5)))
unfolding computing
if_ends = refl

-- labels stand before the statement, those of an END last in the list that it closes: L: DO; M: END;
labels_kept : nest_of ((name (codes "L") 2 1 ∷ [], H.DoGroup (at 2 4)) ∷ (name (codes "M") 3 1 ∷ [], H.EndOf None (at 3 4)) ∷ closes ∷ []) ≡ program (T.ItemThen (T.Statement (name (codes "L") 2 1 ∷ []) (T.Do (T.ItemThen (T.EndLabels (name (codes "M") 3 1 ∷ []) (at 3 4)) T.NoItem) (at 2 4))) T.NoItem)
unfolding computing
labels_kept = refl

-- ON ERROR SYSTEM; ON ERROR BEGIN; X = 1; END;
units_end : nest_of (front (H.On C.Error (at 2 1)) ∷ front (H.System (at 2 10)) ∷ front (H.On C.Error (at 3 1)) ∷ front (H.BeginBlock (at 3 10)) ∷ is 1 4 ∷ front (H.EndOf None (at 5 1)) ∷ closes ∷ []) ≡ program (statement (T.OnSystem C.Error (at 2 1)) (only (T.OnUnit C.Error (T.Begin (only (assign 1 4)) (at 3 10)) (at 3 1))))
unfolding computing
units_end = refl

-- ---- heads that may not stand

-- ELSE behind no IF
no_else : nest_of (is 1 3 ∷ else_at 4 ∷ []) ≡ None
unfolding computing
no_else = refl

-- ELSE behind one that has its ELSE
no_second_else : nest_of (front if_a ∷ is 1 3 ∷ else_at 4 ∷ is 2 5 ∷ else_at 6 ∷ []) ≡ None
unfolding computing
no_second_else = refl

-- a statement outside of procedures
no_statement : entered_all (Some N.outermost) (is 1 1 ∷ []) ≡ None
no_statement = refl

-- a procedure in a group, and one without a label
no_inner_procedure : nest_of (front (H.DoGroup (at 2 1)) ∷ (name (codes "P") 3 1 ∷ [], H.ProcedureFront (at 3 4) [] []) ∷ []) ≡ None
no_inner_procedure = refl

no_nameless_procedure : nest_of (front (H.ProcedureFront (at 2 1) [] []) ∷ []) ≡ None
no_nameless_procedure = refl

-- a label before the unit of an IF, and before a declaration
no_label : nest_of (front if_a ∷ (name (codes "L") 2 11 ∷ [], H.Simple (assign 1 3)) ∷ []) ≡ None
no_label = refl

no_labelled_declaration : nest_of ((name (codes "L") 2 1 ∷ [], H.Declaring [] (at 2 4)) ∷ []) ≡ None
no_labelled_declaration = refl

-- RETURN in an on-unit, unless a procedure stands between; IF as an on-unit
no_return : nest_of (front (H.On C.Error (at 2 1)) ∷ front (H.BeginBlock (at 2 10)) ∷ front (H.Simple (T.Return None (at 3 1))) ∷ []) ≡ None
no_return = refl

no_if_unit : nest_of (front (H.On C.Error (at 2 1)) ∷ front if_a ∷ []) ≡ None
no_if_unit = refl
