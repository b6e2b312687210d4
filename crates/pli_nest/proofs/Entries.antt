-- What heads make of a nest, case by case.
use Rattle.std.proofs.Common.{◌≡◌, List, [], ◌∷◌, ◌++◌, Bool, true, false, Option, Some, None, refl, ap, ◌∙◌}
use Rattle.std.proofs.lemmas.List.{append-nil}
use Rattle.std.specs.Prelude.{if◌then◌else◌, not, ◌&&◌, ◌||◌}
use Rattle.pli_language.specs.declared.expr.Place.{Place}
use Rattle.pli_language.specs.Heads.{Head, ProcedureFront, Declaring, Simple, IfThen, Else, DoGroup, DoWhileGroup, DoCountGroup, BeginBlock, On, System, EndOf}
use Rattle.pli_language.specs.Tree.{Name, ProcedureHead, Stmt, Null, Assign, If, IfElse, Do, DoWhile, DoCount, Begin, OnSystem, OnUnit, Call, Return, Goto, Stop, Signal, Revert, Allocate, Free, Get, Put, Item, EndLabels}
use Rattle.pli_language.specs.Nesting as N
use Rattle.pli_language.specs.Nesting.{Nest, Frame, InList, ThenDue, ThenWhole, ElseDue, UnitDue, OfProcedure, OfGroup, OfWhile, OfCount, OfBegin, begun, is_on_unit, is_return, settled, with_frames, due, opened, whole, may_return}
use Rattle.pli_nest.specs.Steps as S
use Rattle.pli_nest.specs.Steps.{EnteredAs, begun_as, onto, no_name, takes_else, entry, entry_as, entry_settled, on_frames}

-- ---- the innermost frame

pub else_due_here : (f : Frame) (fs : List Frame) → S.else_due (f ∷ fs) ≡ S.with_else f ∷ fs
else_due_here (InList o labels items pending) fs = refl
else_due_here (ThenDue e p) fs = refl
else_due_here (ThenWhole e u p) fs = refl
else_due_here (ElseDue e u p) fs = refl
else_due_here (UnitDue c p) fs = refl

pub then_whole_here : (f : Frame) (fs : List Frame) → S.is_then_whole (f ∷ fs) ≡ S.is_whole_if f
then_whole_here (InList o labels items pending) fs = refl
then_whole_here (ThenDue e p) fs = refl
then_whole_here (ThenWhole e u p) fs = refl
then_whole_here (ElseDue e u p) fs = refl
then_whole_here (UnitDue c p) fs = refl

-- ---- tests for labels and frames

pub declaration_by : (fs : List Frame) (ls : List Name) (i : Item) → N.with_declaration fs ls i ≡ (if no_name ls then N.with_item fs i else None)
declaration_by fs [] i = refl
declaration_by fs (l ∷ ls) i = refl

pub procedure_by : (outer : List Item) (fs : List Frame) (ls : List Name) (h : ProcedureHead) → N.with_labelled_procedure outer fs ls h ≡ (if not (no_name ls) && S.takes_procedure fs then Some (S.procedure_nest outer fs h) else None)
procedure_by outer fs [] h = refl
procedure_by outer [] (l ∷ ls) h = refl
procedure_by outer (InList (OfProcedure k) labels items pending ∷ fs) (l ∷ ls) h = refl
procedure_by outer (InList (OfGroup p) labels items pending ∷ fs) (l ∷ ls) h = refl
procedure_by outer (InList (OfWhile e p) labels items pending ∷ fs) (l ∷ ls) h = refl
procedure_by outer (InList (OfCount c p) labels items pending ∷ fs) (l ∷ ls) h = refl
procedure_by outer (InList (OfBegin p) labels items pending ∷ fs) (l ∷ ls) h = refl
procedure_by outer (ThenDue e p ∷ fs) (l ∷ ls) h = refl
procedure_by outer (ThenWhole e u p ∷ fs) (l ∷ ls) h = refl
procedure_by outer (ElseDue e u p ∷ fs) (l ∷ ls) h = refl
procedure_by outer (UnitDue c p ∷ fs) (l ∷ ls) h = refl

pub inner_procedure_by : (outer : List Item) (fs : List Frame) (i : Item) → N.with_inner_procedure outer fs i ≡ (if S.is_none fs then Some (record { outer = outer ++ i ∷ []; frames = [] }) else with_frames outer (N.with_item fs i))
inner_procedure_by outer [] i = refl
inner_procedure_by outer (f ∷ fs) i = refl

pub end_labels_by : (is : List Item) (ls : List Name) (p : Place) → is ++ N.end_labels ls p ≡ (if no_name ls then is else is ++ EndLabels ls p ∷ [])
end_labels_by is [] p = append-nil is
end_labels_by is (l ∷ ls) p = refl

pub system_by : (fs : List Frame) (ls : List Name) → N.with_system fs ls ≡ (if no_name ls then N.with_system fs [] else None)
system_by fs [] = refl
system_by [] (l ∷ ls) = refl
system_by (InList o labels items pending ∷ fs) (l ∷ ls) = refl
system_by (ThenDue e p ∷ fs) (l ∷ ls) = refl
system_by (ThenWhole e u p ∷ fs) (l ∷ ls) = refl
system_by (ElseDue e u p ∷ fs) (l ∷ ls) = refl
system_by (UnitDue c p ∷ fs) (l ∷ ls) = refl

-- ---- where statements begin

unit_by : (f : Frame) (fs : List Frame) (may : Bool) → (if may then Some (f ∷ fs) else None) ≡ onto fs (if true && may then Some f else None)
unit_by f fs true = refl
unit_by f fs false = refl

begun_same : (fs : List Frame) (ls : List Name) (h : Head) → begun fs ls h ≡ begun_as fs ls (is_on_unit h)
begun_same [] ls h = refl
begun_same (InList o labels items pending ∷ fs) ls h = refl
begun_same (ThenDue e p ∷ fs) [] h = refl
begun_same (ThenDue e p ∷ fs) (l ∷ ls) h = refl
begun_same (ThenWhole e u p ∷ fs) ls h = refl
begun_same (ElseDue e u p ∷ fs) [] h = refl
begun_same (ElseDue e u p ∷ fs) (l ∷ ls) h = refl
begun_same (UnitDue c p ∷ fs) [] h = unit_by (UnitDue c p) fs (is_on_unit h)
begun_same (UnitDue c p ∷ fs) (l ∷ ls) h = refl

unit_stmt : (x : Stmt) → is_on_unit (Simple x) ≡ S.is_unit_stmt x
unit_stmt (Null p) = refl
unit_stmt (Assign t s p) = refl
unit_stmt (If e u p) = refl
unit_stmt (IfElse e u w p) = refl
unit_stmt (Do b p) = refl
unit_stmt (DoWhile e b p) = refl
unit_stmt (DoCount c b p) = refl
unit_stmt (Begin b p) = refl
unit_stmt (OnSystem c p) = refl
unit_stmt (OnUnit c u p) = refl
unit_stmt (Call n a p) = refl
unit_stmt (Return e p) = refl
unit_stmt (Goto l p) = refl
unit_stmt (Stop p) = refl
unit_stmt (Signal c p) = refl
unit_stmt (Revert c p) = refl
unit_stmt (Allocate a p) = refl
unit_stmt (Free f p) = refl
unit_stmt (Get s es p) = refl
unit_stmt (Put s es p) = refl

return_stmt : (x : Stmt) → is_return (Simple x) ≡ S.is_return_stmt x
return_stmt (Null p) = refl
return_stmt (Assign t s p) = refl
return_stmt (If e u p) = refl
return_stmt (IfElse e u w p) = refl
return_stmt (Do b p) = refl
return_stmt (DoWhile e b p) = refl
return_stmt (DoCount c b p) = refl
return_stmt (Begin b p) = refl
return_stmt (OnSystem c p) = refl
return_stmt (OnUnit c u p) = refl
return_stmt (Call n a p) = refl
return_stmt (Return e p) = refl
return_stmt (Goto l p) = refl
return_stmt (Stop p) = refl
return_stmt (Signal c p) = refl
return_stmt (Revert c p) = refl
return_stmt (Allocate a p) = refl
return_stmt (Free f p) = refl
return_stmt (Get s es p) = refl
return_stmt (Put s es p) = refl

-- ---- simple statements

return_by : (outer : List Item) (returns may : Bool) (o : Option (List Frame)) → with_frames outer (if not returns || may then o else None) ≡ (if returns && not may then None else with_frames outer o)
return_by outer true true o = refl
return_by outer true false o = refl
return_by outer false true o = refl
return_by outer false false o = refl

simple_same : (outer : List Item) (fs : List Frame) (ls : List Name) (x : Stmt) → with_frames outer (N.with_statement fs ls (Simple x)) ≡ S.simple_in (record { outer = outer; frames = fs }) ls x
simple_same outer fs ls x =
    let begin = begun_same fs ls (Simple x) ∙ ap (begun_as fs ls) (unit_stmt x) in
    ap (λ o. with_frames outer (if not (is_return (Simple x)) || may_return fs then whole o x else None)) begin
    ∙ return_by outer (is_return (Simple x)) (may_return fs) (whole (begun_as fs ls (S.is_unit_stmt x)) x)
    ∙ ap (λ r. if r && not (may_return fs) then None else with_frames outer (whole (begun_as fs ls (S.is_unit_stmt x)) x)) (return_stmt x)

-- ---- heads where no ELSE comes

-- ELSE has labels, or no IF whose unit is whole before it
no_else : (outer : List Item) (fs : List Frame) (ls : List Name) → no_name ls && S.is_then_whole fs ≡ false → with_frames outer (N.with_else fs ls) ≡ None
no_else outer [] ls e = refl
no_else outer (InList o labels items pending ∷ fs) ls e = refl
no_else outer (ThenDue c p ∷ fs) ls e = refl
no_else outer (ThenWhole c u p ∷ fs) [] e = absurd (cc e)
no_else outer (ThenWhole c u p ∷ fs) (l ∷ ls) e = refl
no_else outer (ElseDue c u p ∷ fs) ls e = refl
no_else outer (UnitDue c p ∷ fs) ls e = refl

entered_other : (n : Nest) (ls : List Name) (h : Head) → takes_else n ls h ≡ false → N.entered n ls h ≡ S.entered_settled (on_frames n (settled n.frames)) ls h
entered_other n ls (ProcedureFront p parameters options) e = refl
entered_other n ls (Declaring ds p) e = refl
entered_other n ls (Simple x) e = simple_same n.outer (settled n.frames) ls x
entered_other n ls (IfThen c p) e = ap (λ o. with_frames n.outer (due o (ThenDue c p))) (begun_same (settled n.frames) ls (IfThen c p))
entered_other n ls (Else p) e = no_else n.outer n.frames ls e
entered_other n ls (DoGroup p) e = ap (λ o. with_frames n.outer (opened o (OfGroup p) ls)) (begun_same (settled n.frames) ls (DoGroup p))
entered_other n ls (DoWhileGroup c p) e = ap (λ o. with_frames n.outer (opened o (OfWhile c p) ls)) (begun_same (settled n.frames) ls (DoWhileGroup c p))
entered_other n ls (DoCountGroup c p) e = ap (λ o. with_frames n.outer (opened o (OfCount c p) ls)) (begun_same (settled n.frames) ls (DoCountGroup c p))
entered_other n ls (BeginBlock p) e = ap (λ o. with_frames n.outer (opened o (OfBegin p) ls)) (begun_same (settled n.frames) ls (BeginBlock p))
entered_other n ls (On c p) e = ap (λ o. with_frames n.outer (due o (UnitDue c p))) (begun_same (settled n.frames) ls (On c p))
entered_other n ls (System p) e = refl
entered_other n ls (EndOf name p) e = refl

pub entry_other : (n : Nest) (ls : List Name) (h : Head) (at : Place) → takes_else n ls h ≡ false → entry n ls h at ≡ entry_settled (on_frames n (settled n.frames)) ls h at
entry_other n ls h at e = ap (entry_as (N.misplaced (settled n.frames) ls at) (N.nest_faults (settled n.frames) h)) (entered_other n ls h e)

-- ---- ELSE

else_same : (outer : List Item) (fs : List Frame) (ls : List Name) → no_name ls && S.is_then_whole fs ≡ true → with_frames outer (N.with_else fs ls) ≡ Some (record { outer = outer; frames = S.else_due fs })
else_same outer (ThenWhole c u p ∷ fs) [] e = refl
else_same outer (ThenWhole c u p ∷ fs) (l ∷ ls) e = absurd (cc e)
else_same outer [] [] e = absurd (cc e)
else_same outer [] (l ∷ ls) e = absurd (cc e)
else_same outer (InList o labels items pending ∷ fs) [] e = absurd (cc e)
else_same outer (InList o labels items pending ∷ fs) (l ∷ ls) e = absurd (cc e)
else_same outer (ThenDue c p ∷ fs) [] e = absurd (cc e)
else_same outer (ThenDue c p ∷ fs) (l ∷ ls) e = absurd (cc e)
else_same outer (ElseDue c u p ∷ fs) [] e = absurd (cc e)
else_same outer (ElseDue c u p ∷ fs) (l ∷ ls) e = absurd (cc e)
else_same outer (UnitDue c p ∷ fs) [] e = absurd (cc e)
else_same outer (UnitDue c p ∷ fs) (l ∷ ls) e = absurd (cc e)

pub entry_else : (n : Nest) (ls : List Name) (h : Head) (at : Place) → takes_else n ls h ≡ true → entry n ls h at ≡ EnteredAs (on_frames n (S.else_due n.frames)) []
entry_else n ls (Else p) at e = ap (entry_as (N.misplaced (settled n.frames) ls at) []) (else_same n.outer n.frames ls e)
entry_else n ls (ProcedureFront p parameters options) at e = absurd (cc e)
entry_else n ls (Declaring ds p) at e = absurd (cc e)
entry_else n ls (Simple x) at e = absurd (cc e)
entry_else n ls (IfThen c p) at e = absurd (cc e)
entry_else n ls (DoGroup p) at e = absurd (cc e)
entry_else n ls (DoWhileGroup c p) at e = absurd (cc e)
entry_else n ls (DoCountGroup c p) at e = absurd (cc e)
entry_else n ls (BeginBlock p) at e = absurd (cc e)
entry_else n ls (On c p) at e = absurd (cc e)
entry_else n ls (System p) at e = absurd (cc e)
entry_else n ls (EndOf name p) at e = absurd (cc e)
