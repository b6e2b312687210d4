-- A head may stand just where its front may.
use Rattle.std.proofs.Common.{◌≡◌, List, [], ◌∷◌, length, Bool, true, false, Option, Some, None, refl, sym, ap, ◌∙◌}
use Rattle.std.specs.Prelude.{if◌then◌else◌, not, ◌&&◌, ◌||◌}
use Rattle.pli_language.specs.declared.expr.Place.{Place}
use Rattle.pli_language.specs.Heads.{Head, ProcedureFront, Declaring, Simple, IfThen, Else, DoGroup, DoWhileGroup, DoCountGroup, BeginBlock, On, System, EndOf}
use Rattle.pli_language.specs.Tree.{Name, ProcedureHead, Stmt, Null, Assign, If, IfElse, Do, DoWhile, DoCount, Begin, OnSystem, OnUnit, Call, Return, Goto, Stop, Signal, Revert, Allocate, Free, Get, Put, Item}
use Rattle.pli_language.specs.Nesting as N
use Rattle.pli_language.specs.Nesting.{Nest, Opener, Frame, InList, ThenDue, ThenWhole, ElseDue, UnitDue, OfProcedure, OfGroup, OfWhile, OfCount, OfBegin, begun, is_on_unit, is_return, entered, settled, with_frames, due, opened, whole, may_return}
use Rattle.pli_nest.specs.declared.standing.Front.{Front}
use Rattle.pli_nest.specs.declared.standing.Front.TheVariants as R
use Rattle.pli_phrase.specs.View.{newest}
use Rattle.pli_nest.specs.declared.frame.Frame.{Frame as Held}
use Rattle.pli_nest.specs.View.{frames_of}
use Rattle.pli_nest.specs.Steps.{no_name, is_else, is_then_whole}
use Rattle.pli_nest.specs.Standing.{takes_whole, front_of, may_stand, is_stray_else}

abbrev pub stood : {X : Type 0} → Option X → Bool
stood None = false
stood (Some x) = true

-- ---- what is made of frames that there are

framed : (outer : List Item) (o : Option (List Frame)) → stood (with_frames outer o) ≡ stood o
framed outer None = refl
framed outer (Some fs) = refl

due_stood : (o : Option (List Frame)) (f : Frame) → stood (due o f) ≡ stood o
due_stood None f = refl
due_stood (Some fs) f = refl

opened_stood : (o : Option (List Frame)) (k : Opener) (ls : List Name) → stood (opened o k ls) ≡ stood o
opened_stood None k ls = refl
opened_stood (Some fs) k ls = refl

whole_stood : (o : Option (List Frame)) (x : Stmt) → stood (whole o x) ≡ stood o
whole_stood None x = refl
whole_stood (Some fs) x = refl

-- ---- heads of their own

procedure_stood : (outer : List Item) (fs : List Frame) (ls : List Name) (h : ProcedureHead) → stood (N.with_labelled_procedure outer fs ls h) ≡ may_stand fs ls R.Procedure
procedure_stood outer [] [] h = refl
procedure_stood outer [] (l ∷ ls) h = refl
procedure_stood outer (f ∷ fs) [] h = refl
procedure_stood outer (InList (OfProcedure k) labels items pending ∷ fs) (l ∷ ls) h = refl
procedure_stood outer (InList (OfGroup p) labels items pending ∷ fs) (l ∷ ls) h = refl
procedure_stood outer (InList (OfWhile e p) labels items pending ∷ fs) (l ∷ ls) h = refl
procedure_stood outer (InList (OfCount c p) labels items pending ∷ fs) (l ∷ ls) h = refl
procedure_stood outer (InList (OfBegin p) labels items pending ∷ fs) (l ∷ ls) h = refl
procedure_stood outer (ThenDue e p ∷ fs) (l ∷ ls) h = refl
procedure_stood outer (ThenWhole e u p ∷ fs) (l ∷ ls) h = refl
procedure_stood outer (ElseDue e u p ∷ fs) (l ∷ ls) h = refl
procedure_stood outer (UnitDue c p ∷ fs) (l ∷ ls) h = refl

declaration_stood : (fs : List Frame) (ls : List Name) (i : Item) → stood (N.with_declaration fs ls i) ≡ may_stand fs ls R.Declaration
declaration_stood [] [] i = refl
declaration_stood [] (l ∷ ls) i = refl
declaration_stood (InList o labels items pending ∷ fs) [] i = refl
declaration_stood (ThenDue e p ∷ fs) [] i = refl
declaration_stood (ThenWhole e u p ∷ fs) [] i = refl
declaration_stood (ElseDue e u p ∷ fs) [] i = refl
declaration_stood (UnitDue c p ∷ fs) [] i = refl
declaration_stood (f ∷ fs) (l ∷ ls) i = refl

end_stood : (outer : List Item) (fs : List Frame) (ls : List Name) (p : Place) → stood (N.with_end outer fs ls p) ≡ may_stand fs ls R.End
end_stood outer [] ls p = refl
end_stood outer (InList (OfProcedure h) labels items pending ∷ []) ls p = refl
end_stood outer (InList (OfProcedure h) labels items pending ∷ (InList o labels' items' pending' ∷ fs)) ls p = refl
end_stood outer (InList (OfProcedure h) labels items pending ∷ (ThenDue e q ∷ fs)) ls p = refl
end_stood outer (InList (OfProcedure h) labels items pending ∷ (ThenWhole e u q ∷ fs)) ls p = refl
end_stood outer (InList (OfProcedure h) labels items pending ∷ (ElseDue e u q ∷ fs)) ls p = refl
end_stood outer (InList (OfProcedure h) labels items pending ∷ (UnitDue c q ∷ fs)) ls p = refl
end_stood outer (InList (OfGroup q) labels items pending ∷ fs) ls p = refl
end_stood outer (InList (OfWhile e q) labels items pending ∷ fs) ls p = refl
end_stood outer (InList (OfCount c q) labels items pending ∷ fs) ls p = refl
end_stood outer (InList (OfBegin q) labels items pending ∷ fs) ls p = refl
end_stood outer (ThenDue e q ∷ fs) ls p = refl
end_stood outer (ThenWhole e u q ∷ fs) ls p = refl
end_stood outer (ElseDue e u q ∷ fs) ls p = refl
end_stood outer (UnitDue c q ∷ fs) ls p = refl

system_stood : (fs : List Frame) (ls : List Name) → stood (N.with_system fs ls) ≡ may_stand fs ls R.System
system_stood [] [] = refl
system_stood [] (l ∷ ls) = refl
system_stood (InList o labels items pending ∷ fs) [] = refl
system_stood (ThenDue e p ∷ fs) [] = refl
system_stood (ThenWhole e u p ∷ fs) [] = refl
system_stood (ElseDue e u p ∷ fs) [] = refl
system_stood (UnitDue c p ∷ fs) [] = refl
system_stood (InList o labels items pending ∷ fs) (l ∷ ls) = refl
system_stood (ThenDue e p ∷ fs) (l ∷ ls) = refl
system_stood (ThenWhole e u p ∷ fs) (l ∷ ls) = refl
system_stood (ElseDue e u p ∷ fs) (l ∷ ls) = refl
system_stood (UnitDue c p ∷ fs) (l ∷ ls) = refl

-- ---- statements

unit_stood : (may : Bool) (f : Frame) (fs : List Frame) → stood (if may then Some (f ∷ fs) else None) ≡ may
unit_stood true f fs = refl
unit_stood false f fs = refl

-- where a statement begins that may be an on-unit, and where one that may not
begun_unit : (fs : List Frame) (ls : List Name) (h : Head) → is_on_unit h ≡ true → stood (begun fs ls h) ≡ may_stand fs ls R.Unit
begun_unit [] ls h e = refl
begun_unit (InList o labels items pending ∷ fs) ls h e = refl
begun_unit (ThenDue x p ∷ fs) [] h e = refl
begun_unit (ThenDue x p ∷ fs) (l ∷ ls) h e = refl
begun_unit (ThenWhole x u p ∷ fs) ls h e = refl
begun_unit (ElseDue x u p ∷ fs) [] h e = refl
begun_unit (ElseDue x u p ∷ fs) (l ∷ ls) h e = refl
begun_unit (UnitDue c p ∷ fs) [] h e = unit_stood (is_on_unit h) (UnitDue c p) fs ∙ e
begun_unit (UnitDue c p ∷ fs) (l ∷ ls) h e = refl

begun_nested : (fs : List Frame) (ls : List Name) (h : Head) → is_on_unit h ≡ false → stood (begun fs ls h) ≡ may_stand fs ls R.Nested
begun_nested [] ls h e = refl
begun_nested (InList o labels items pending ∷ fs) ls h e = refl
begun_nested (ThenDue x p ∷ fs) [] h e = refl
begun_nested (ThenDue x p ∷ fs) (l ∷ ls) h e = refl
begun_nested (ThenWhole x u p ∷ fs) ls h e = refl
begun_nested (ElseDue x u p ∷ fs) [] h e = refl
begun_nested (ElseDue x u p ∷ fs) (l ∷ ls) h e = refl
begun_nested (UnitDue c p ∷ fs) [] h e = unit_stood (is_on_unit h) (UnitDue c p) fs ∙ e
begun_nested (UnitDue c p ∷ fs) (l ∷ ls) h e = refl

unit_statement : (fs : List Frame) (ls : List Name) (x : Stmt) → is_return (Simple x) ≡ false → is_on_unit (Simple x) ≡ true → stood (N.with_statement fs ls (Simple x)) ≡ may_stand fs ls R.Unit
unit_statement fs ls x r e =
    ap (λ b. stood (if not b || may_return fs then whole (begun fs ls (Simple x)) x else None)) r ∙ whole_stood (begun fs ls (Simple x)) x ∙ begun_unit fs ls (Simple x) e

returned : (b : Bool) (o : Option (List Frame)) (n : Bool) (x : Stmt) → stood o ≡ n → stood (if false || b then whole o x else None) ≡ (n && b)
returned true o n x e = whole_stood o x ∙ (e ∙ all_true n)
  where
    all_true : (n : Bool) → n ≡ (n && true)
    all_true true = refl
    all_true false = refl
returned false o n x e = all_false n
  where
    all_false : (n : Bool) → false ≡ (n && false)
    all_false true = refl
    all_false false = refl

nested_return : (fs : List Frame) (ls : List Name) → (may_stand fs ls R.Nested && may_return fs) ≡ may_stand fs ls R.Return
nested_return [] ls = refl
nested_return (f ∷ fs) ls = refl

statement_stood : (fs : List Frame) (ls : List Name) (x : Stmt) → stood (N.with_statement fs ls (Simple x)) ≡ may_stand fs ls (front_of (Simple x))
statement_stood fs ls (Return e p) =
    returned (may_return fs) (begun fs ls (Simple (Return e p))) (may_stand fs ls R.Nested) (Return e p) (begun_nested fs ls (Simple (Return e p)) refl) ∙ nested_return fs ls
statement_stood fs ls (Revert c p) = whole_stood (begun fs ls (Simple (Revert c p))) (Revert c p) ∙ begun_nested fs ls (Simple (Revert c p)) refl
statement_stood fs ls (Null p) = unit_statement fs ls (Null p) refl refl
statement_stood fs ls (Assign r e p) = unit_statement fs ls (Assign r e p) refl refl
statement_stood fs ls (If e x p) = unit_statement fs ls (If e x p) refl refl
statement_stood fs ls (IfElse e x y p) = unit_statement fs ls (IfElse e x y p) refl refl
statement_stood fs ls (Do b p) = unit_statement fs ls (Do b p) refl refl
statement_stood fs ls (DoWhile e b p) = unit_statement fs ls (DoWhile e b p) refl refl
statement_stood fs ls (DoCount c b p) = unit_statement fs ls (DoCount c b p) refl refl
statement_stood fs ls (Begin b p) = unit_statement fs ls (Begin b p) refl refl
statement_stood fs ls (OnSystem c p) = unit_statement fs ls (OnSystem c p) refl refl
statement_stood fs ls (OnUnit c x p) = unit_statement fs ls (OnUnit c x p) refl refl
statement_stood fs ls (Call n a p) = unit_statement fs ls (Call n a p) refl refl
statement_stood fs ls (Goto n p) = unit_statement fs ls (Goto n p) refl refl
statement_stood fs ls (Stop p) = unit_statement fs ls (Stop p) refl refl
statement_stood fs ls (Signal c p) = unit_statement fs ls (Signal c p) refl refl
statement_stood fs ls (Allocate others p) = unit_statement fs ls (Allocate others p) refl refl
statement_stood fs ls (Free others p) = unit_statement fs ls (Free others p) refl refl
statement_stood fs ls (Get k ps p) = unit_statement fs ls (Get k ps p) refl refl
statement_stood fs ls (Put k ps p) = unit_statement fs ls (Put k ps p) refl refl

-- ---- all heads

-- a head other than ELSE may stand just where its front may
pub head_stood : (n : Nest) (ls : List Name) (h : Head) → is_else h ≡ false → stood (entered n ls h) ≡ may_stand (settled n.frames) ls (front_of h)
head_stood n ls (ProcedureFront p parameters options) e =
    procedure_stood n.outer (settled n.frames) ls (record { labels = ls; place = p; parameters = parameters; options = options })
head_stood n ls (Declaring ds p) e = framed n.outer (N.with_declaration (settled n.frames) ls _) ∙ declaration_stood (settled n.frames) ls _
head_stood n ls (EndOf name p) e = end_stood n.outer (settled n.frames) ls p
head_stood n ls (Else p) e = absurd (cc e)
head_stood n ls (System p) e = framed n.outer (N.with_system (settled n.frames) ls) ∙ system_stood (settled n.frames) ls
head_stood n ls (Simple x) e = framed n.outer (N.with_statement (settled n.frames) ls (Simple x)) ∙ statement_stood (settled n.frames) ls x
head_stood n ls (IfThen c p) e = framed n.outer _ ∙ due_stood (begun (settled n.frames) ls (IfThen c p)) _ ∙ begun_nested (settled n.frames) ls (IfThen c p) refl
head_stood n ls (DoGroup p) e = framed n.outer _ ∙ opened_stood (begun (settled n.frames) ls (DoGroup p)) _ ls ∙ begun_nested (settled n.frames) ls (DoGroup p) refl
head_stood n ls (DoWhileGroup c p) e = framed n.outer _ ∙ opened_stood (begun (settled n.frames) ls (DoWhileGroup c p)) _ ls ∙ begun_nested (settled n.frames) ls (DoWhileGroup c p) refl
head_stood n ls (DoCountGroup c p) e = framed n.outer _ ∙ opened_stood (begun (settled n.frames) ls (DoCountGroup c p)) _ ls ∙ begun_nested (settled n.frames) ls (DoCountGroup c p) refl
head_stood n ls (BeginBlock p) e = framed n.outer _ ∙ opened_stood (begun (settled n.frames) ls (BeginBlock p)) _ ls ∙ begun_unit (settled n.frames) ls (BeginBlock p) refl
head_stood n ls (On c p) e = framed n.outer _ ∙ due_stood (begun (settled n.frames) ls (On c p)) _ ∙ begun_nested (settled n.frames) ls (On c p) refl

-- ELSE may stand just where it isn't a stray one
pub else_stood : (n : Nest) (ls : List Name) (p : Place) → stood (entered n ls (Else p)) ≡ not (is_stray_else n ls (Else p))
else_stood n ls p = framed n.outer (N.with_else n.frames ls) ∙ else_in n.frames ls
  where
    else_in : (fs : List Frame) (ls : List Name) → stood (N.with_else fs ls) ≡ not (not (no_name ls && is_then_whole fs))
    else_in [] [] = refl
    else_in [] (l ∷ ls) = refl
    else_in (InList o labels items pending ∷ fs) [] = refl
    else_in (ThenDue e p ∷ fs) [] = refl
    else_in (ThenWhole e u p ∷ fs) [] = refl
    else_in (ElseDue e u p ∷ fs) [] = refl
    else_in (UnitDue c p ∷ fs) [] = refl
    else_in (InList o labels items pending ∷ fs) (l ∷ ls) = refl
    else_in (ThenDue e p ∷ fs) (l ∷ ls) = refl
    else_in (ThenWhole e u p ∷ fs) (l ∷ ls) = refl
    else_in (ElseDue e u p ∷ fs) (l ∷ ls) = refl
    else_in (UnitDue c p ∷ fs) (l ∷ ls) = refl

-- where anything but a procedure may stand, a statement that may be an on-unit may
pub unit_stands : (fs : List Frame) (ls : List Name) (front : Front) → may_stand fs ls front ≡ true → (front ≡ R.Procedure → ⊥) → may_stand fs ls R.Unit ≡ true
unit_stands fs ls R.Procedure e n = absurd (n refl)
unit_stands [] ls R.Declaration e n = absurd (cc e)
unit_stands [] ls R.End e n = absurd (cc e)
unit_stands [] ls R.System e n = absurd (cc e)
unit_stands [] ls R.Unit e n = absurd (cc e)
unit_stands [] ls R.Nested e n = absurd (cc e)
unit_stands [] ls R.Return e n = absurd (cc e)
unit_stands (f ∷ fs) ls front e n = stands_by f fs ls front e n
  where
    stands_by : (f : Frame) (fs : List Frame) (ls : List Name) (front : Front) → may_stand (f ∷ fs) ls front ≡ true → (front ≡ R.Procedure → ⊥) → may_stand (f ∷ fs) ls R.Unit ≡ true
    stands_by f fs ls R.Procedure e n = absurd (n refl)
    stands_by (InList o labels items pending) fs ls front e n = refl
    stands_by (ThenDue x p) fs [] front e n = refl
    stands_by (ElseDue x u p) fs [] front e n = refl
    stands_by (UnitDue c p) fs [] front e n = refl
    stands_by (ThenDue x p) fs (l ∷ ls) R.Declaration e n = absurd (cc e)
    stands_by (ThenDue x p) fs (l ∷ ls) R.End e n = absurd (cc e)
    stands_by (ThenDue x p) fs (l ∷ ls) R.System e n = absurd (cc e)
    stands_by (ThenDue x p) fs (l ∷ ls) R.Unit e n = absurd (cc e)
    stands_by (ThenDue x p) fs (l ∷ ls) R.Nested e n = absurd (cc e)
    stands_by (ThenDue x p) fs (l ∷ ls) R.Return e n = absurd (cc e)
    stands_by (ElseDue x u p) fs (l ∷ ls) R.Declaration e n = absurd (cc e)
    stands_by (ElseDue x u p) fs (l ∷ ls) R.End e n = absurd (cc e)
    stands_by (ElseDue x u p) fs (l ∷ ls) R.System e n = absurd (cc e)
    stands_by (ElseDue x u p) fs (l ∷ ls) R.Unit e n = absurd (cc e)
    stands_by (ElseDue x u p) fs (l ∷ ls) R.Nested e n = absurd (cc e)
    stands_by (ElseDue x u p) fs (l ∷ ls) R.Return e n = absurd (cc e)
    stands_by (UnitDue c p) fs (l ∷ ls) R.Declaration e n = absurd (cc e)
    stands_by (UnitDue c p) fs (l ∷ ls) R.End e n = absurd (cc e)
    stands_by (UnitDue c p) fs (l ∷ ls) R.System e n = absurd (cc e)
    stands_by (UnitDue c p) fs (l ∷ ls) R.Unit e n = absurd (cc e)
    stands_by (UnitDue c p) fs (l ∷ ls) R.Nested e n = absurd (cc e)
    stands_by (UnitDue c p) fs (l ∷ ls) R.Return e n = absurd (cc e)
    stands_by (ThenWhole x u p) fs [] R.Declaration e n = absurd (cc e)
    stands_by (ThenWhole x u p) fs (l ∷ ls) R.Declaration e n = absurd (cc e)
    stands_by (ThenWhole x u p) fs ls R.End e n = absurd (cc e)
    stands_by (ThenWhole x u p) fs [] R.System e n = absurd (cc e)
    stands_by (ThenWhole x u p) fs (l ∷ ls) R.System e n = absurd (cc e)
    stands_by (ThenWhole x u p) fs ls R.Unit e n = absurd (cc e)
    stands_by (ThenWhole x u p) fs ls R.Nested e n = absurd (cc e)
    stands_by (ThenWhole x u p) fs ls R.Return e n = absurd (cc e)

-- ---- where nothing is open

-- no frame is shown where there is none
frames_none : (fs : List Held) → length fs ≡ 0 → frames_of fs ≡ []
unfolding newest
frames_none [] e = refl
frames_none (f ∷ fs) e = absurd (cc e)

pub takes_whole_none : (fs : List Held) → length fs ≡ 0 → true ≡ takes_whole (frames_of fs)
takes_whole_none fs e = sym (ap takes_whole (frames_none fs e))

pub may_stand_none : (fs : List Held) (ls : List Name) (front : Front) → length fs ≡ 0 → may_stand [] ls front ≡ may_stand (frames_of fs) ls front
may_stand_none fs ls front e = sym (ap (λ u. may_stand u ls front) (frames_none fs e))
