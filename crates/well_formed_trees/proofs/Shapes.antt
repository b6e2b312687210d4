-- A head that may stand makes of a fine nest a fine one, and so all that is read is a tree of the right shape.
use Rattle.std.proofs.Common.{◌≡◌, ℕ, Bool, true, false, not, ◌||◌, List, [], ◌∷◌, ◌++◌, Option, Some, None, refl}
use Rattle.std.proofs.Common.{sym, ◌∙◌, subst, if◌then◌else◌}
use Rattle.std.specs.Prelude.{⊤}
use Rattle.pli_language.specs.declared.expr.Place.{Place}
use Rattle.pli_language.specs.Heads.{Head, ProcedureFront, Declaring, Simple, IfThen, Else, DoGroup, DoWhileGroup}
use Rattle.pli_language.specs.Heads.{DoCountGroup, BeginBlock, On, System, EndOf}
use Rattle.pli_language.specs.Nesting.{Opener, OfProcedure, OfGroup, OfWhile, OfCount, OfBegin, Frame, InList}
use Rattle.pli_language.specs.Nesting.{ThenDue, ThenWhole, ElseDue, UnitDue, Nest, items_of_list, settled, is_block}
use Rattle.pli_language.specs.Nesting.{is_return, may_return, is_on_unit, begun, opened, due, whole, with_statement}
use Rattle.pli_language.specs.Nesting.{with_frames, with_item, with_inner_procedure, ended, end_labels, with_end}
use Rattle.pli_language.specs.Nesting.{with_else, with_system, with_declaration, with_labelled_procedure, entered}
use Rattle.pli_language.specs.Tree as T
use Rattle.well_formed_trees.specs.Every.{Every}
use Rattle.well_formed_trees.specs.Written.{IsUnit, AllEndLast}
use Rattle.well_formed_trees.proofs.Places.{same_some}
use Rattle.well_formed_trees.proofs.Lists.{every_both}
use Rattle.pli_language.specs.declared.fault.SourceFault.{SourceFault}
use Rattle.pli_language.specs.declared.token.Token.{Token}
use Rattle.pli_language.specs.Formats.{Direction, Getting, Putting}
use Rattle.pli_language.specs.Heads as H
use Rattle.pli_language.specs.Marks.{Marks}
use Rattle.pli_language.specs.Parsing as P
use Rattle.pli_language.specs.Parsing.{Reads}
use Rattle.well_formed_trees.specs.Written.{IsShaped}
use Rattle.well_formed_trees.specs.WellFormed.{ShapeKept}
use Rattle.well_formed_trees.proofs.Nests.{FrameFine, IsBegin, ItemFine, OuterFine, list_last, outer_procedures}
use Rattle.well_formed_trees.proofs.Nests.{outer_last, FramesFine, OnUnits, no_unit, any_unit, one_more}
use Rattle.well_formed_trees.proofs.Nests.{completed_fine, settled_fine, HeadFine, OptFine, NestFine, begun_fine}
use Rattle.well_formed_trees.proofs.Nests.{whole_fine, due_fine, opened_fine}

-- ---- statements

never : {P : Type 0} → false ≡ true → P
never e = absurd (cc e)

pub if_fine : {X : Type 0} (Q : X → Type 0) (b : Bool) (o : Option X) → OptFine Q o → OptFine Q (if b then o else None)
if_fine Q true o h = h
if_fine Q false o h = tt

simple_fine : (fs : List Frame) (labels : List T.Name) (x : T.Stmt) → HeadFine (Simple x) → FramesFine fs
    → OptFine FramesFine (with_statement fs labels (Simple x))
simple_fine fs labels x e h =
    if_fine FramesFine (not (is_return (Simple x)) || may_return fs) (whole (begun fs labels (Simple x)) x)
    (whole_fine (begun fs labels (Simple x)) x e.0 e.1 (begun_fine ⊤ fs labels (Simple x) (λ b. tt) h))

group_opened : (fs : List Frame) (labels : List T.Name) (head : Head) (o : Opener) → is_on_unit head ≡ false
    → FramesFine fs → OptFine FramesFine (opened (begun fs labels head) o labels)
group_opened fs labels head o e h =
    opened_fine ⊥ (begun fs labels head) o labels (λ b. absurd b)
    (begun_fine ⊥ fs labels head (λ b. never (sym e ∙ b)) h)

front_due : (fs : List Frame) (labels : List T.Name) (head : Head) (f : Frame) → is_on_unit head ≡ false → FrameFine f
    → FramesFine fs → OptFine FramesFine (due (begun fs labels head) f)
front_due fs labels head f e k h =
    due_fine (begun fs labels head) f k (begun_fine ⊥ fs labels head (λ b. never (sym e ∙ b)) h)

-- ---- whole nests

framed : (outer : List T.Item) (o : Option (List Frame)) → Every OuterFine outer → OptFine FramesFine o
    → OptFine NestFine (with_frames outer o)
framed outer None h l = tt
framed outer (Some fs) h l = record { outer = h; frames = l }

item_fine : (fs : List Frame) (i : T.Item) → ItemFine i → FramesFine fs → OptFine FramesFine (with_item fs i)
item_fine [] i e h = tt
item_fine (InList o labels items pending ∷ fs) i e h = (one_more items i h.0 e, h.1)
item_fine (ThenDue e' p ∷ fs) i e h = tt
item_fine (ThenWhole e' u p ∷ fs) i e h = tt
item_fine (ElseDue e' u p ∷ fs) i e h = tt
item_fine (UnitDue c p ∷ fs) i e h = tt

inner_fine : (outer : List T.Item) (fs : List Frame) (head : T.ProcedureHead) (body : T.Items) → AllEndLast body
    → Every OuterFine outer → FramesFine fs → OptFine NestFine (with_inner_procedure outer fs (T.Procedure head body))
inner_fine outer [] head body e o h =
    record { outer = every_both OuterFine outer (T.Procedure head body ∷ []) o (e, tt); frames = tt }
inner_fine outer (f ∷ fs) head body e o h =
    framed outer (with_item (f ∷ fs) (T.Procedure head body)) o (item_fine (f ∷ fs) (T.Procedure head body) e h)

ended_fine : (outer : List T.Item) (k : Opener) (body : T.Items) (fs : List Frame) → AllEndLast body
    → Every OuterFine outer → OnUnits fs (IsBegin k) → FramesFine fs → OptFine NestFine (ended outer k body fs)
ended_fine outer (OfProcedure h) body fs e o u f = inner_fine outer fs h body e o f
ended_fine outer (OfGroup p) body fs e o u f =
    record { outer = o; frames = completed_fine (T.Do body p) fs e (no_unit fs (IsUnit (T.Do body p)) u) f }
ended_fine outer (OfWhile c p) body fs e o u f =
    record {
      outer = o;
      frames =
          completed_fine (T.DoWhile c body p) fs e (no_unit fs (IsUnit (T.DoWhile c body p)) u) f;
    }
ended_fine outer (OfCount c p) body fs e o u f =
    record {
      outer = o;
      frames =
          completed_fine (T.DoCount c body p) fs e (no_unit fs (IsUnit (T.DoCount c body p)) u) f;
    }
ended_fine outer (OfBegin p) body fs e o u f =
    record { outer = o; frames = completed_fine (T.Begin body p) fs e (any_unit fs (IsUnit (T.Begin body p)) tt) f }

end_fine : (outer : List T.Item) (fs : List Frame) (names : List T.Name) (p : Place) → Every OuterFine outer
    → FramesFine fs → OptFine NestFine (with_end outer fs names p)
end_fine outer [] names p o h = tt
end_fine outer (InList k labels items pending ∷ fs) names p o h =
    ended_fine outer k (items_of_list (items ++ end_labels names p)) fs (list_last items names p h.0) o h.1.0 h.1.1
end_fine outer (ThenDue e q ∷ fs) names p o h = tt
end_fine outer (ThenWhole e u q ∷ fs) names p o h = tt
end_fine outer (ElseDue e u q ∷ fs) names p o h = tt
end_fine outer (UnitDue c q ∷ fs) names p o h = tt

else_fine : (fs : List Frame) (names : List T.Name) → FramesFine fs → OptFine FramesFine (with_else fs names)
else_fine [] names h = tt
else_fine (ThenWhole e u p ∷ fs) [] h = h
else_fine (ThenWhole e u p ∷ fs) (n ∷ ns) h = tt
else_fine (InList k labels items pending ∷ fs) names h = tt
else_fine (ThenDue e q ∷ fs) names h = tt
else_fine (ElseDue e u q ∷ fs) names h = tt
else_fine (UnitDue c q ∷ fs) names h = tt

system_fine : (fs : List Frame) (names : List T.Name) → FramesFine fs → OptFine FramesFine (with_system fs names)
system_fine [] names h = tt
system_fine (UnitDue c p ∷ fs) [] h =
    completed_fine (T.OnSystem c p) fs tt (no_unit fs (IsUnit (T.OnSystem c p)) h.1.0) h.1.1
system_fine (UnitDue c p ∷ fs) (n ∷ ns) h = tt
system_fine (InList k labels items pending ∷ fs) names h = tt
system_fine (ThenDue e q ∷ fs) names h = tt
system_fine (ThenWhole e u q ∷ fs) names h = tt
system_fine (ElseDue e u q ∷ fs) names h = tt

declaration_fine : (fs : List Frame) (names : List T.Name) (i : T.Item) → ItemFine i → FramesFine fs
    → OptFine FramesFine (with_declaration fs names i)
declaration_fine fs [] i e h = item_fine fs i e h
declaration_fine fs (n ∷ ns) i e h = tt

procedure_fine : (outer : List T.Item) (fs : List Frame) (names : List T.Name) (head : T.ProcedureHead)
    → Every OuterFine outer → FramesFine fs → OptFine NestFine (with_labelled_procedure outer fs names head)
procedure_fine outer fs [] head o h = tt
procedure_fine outer [] (n ∷ ns) head o h = record { outer = o; frames = (tt, (tt, tt)) }
procedure_fine outer (InList k labels items pending ∷ fs) (n ∷ ns) head o h =
    if_fine NestFine (is_block k)
    (Some (record {
      outer = outer;
      frames =
          InList (OfProcedure head) head.labels [] [] ∷ InList k labels items pending ∷ fs;
    }))
    (record { outer = o; frames = (tt, (tt, h)) })
procedure_fine outer (ThenDue e q ∷ fs) (n ∷ ns) head o h = tt
procedure_fine outer (ThenWhole e u q ∷ fs) (n ∷ ns) head o h = tt
procedure_fine outer (ElseDue e u q ∷ fs) (n ∷ ns) head o h = tt
procedure_fine outer (UnitDue c q ∷ fs) (n ∷ ns) head o h = tt

entered_fine : (n : Nest) (ls : List T.Name) (h : Head) → HeadFine h → NestFine n → OptFine NestFine (entered n ls h)
entered_fine n ls (ProcedureFront p parameters options) e f =
    procedure_fine n.outer (settled n.frames) ls _ f.outer (settled_fine n.frames f.frames)
entered_fine n ls (Declaring ds p) e f =
    framed n.outer (with_declaration (settled n.frames) ls (T.Declare ds p)) f.outer
    (declaration_fine (settled n.frames) ls (T.Declare ds p) tt (settled_fine n.frames f.frames))
entered_fine n ls (EndOf name p) e f = end_fine n.outer (settled n.frames) ls p f.outer (settled_fine n.frames f.frames)
entered_fine n ls (Else p) e f = framed n.outer (with_else n.frames ls) f.outer (else_fine n.frames ls f.frames)
entered_fine n ls (System p) e f =
    framed n.outer (with_system (settled n.frames) ls) f.outer
    (system_fine (settled n.frames) ls (settled_fine n.frames f.frames))
entered_fine n ls (Simple x) e f =
    framed n.outer (with_statement (settled n.frames) ls (Simple x)) f.outer
    (simple_fine (settled n.frames) ls x e (settled_fine n.frames f.frames))
entered_fine n ls (IfThen c p) e f =
    framed n.outer (with_statement (settled n.frames) ls (IfThen c p)) f.outer
    (front_due (settled n.frames) ls (IfThen c p) (ThenDue c p) refl tt (settled_fine n.frames f.frames))
entered_fine n ls (DoGroup p) e f =
    framed n.outer (with_statement (settled n.frames) ls (DoGroup p)) f.outer
    (group_opened (settled n.frames) ls (DoGroup p) (OfGroup p) refl (settled_fine n.frames f.frames))
entered_fine n ls (DoWhileGroup c p) e f =
    framed n.outer (with_statement (settled n.frames) ls (DoWhileGroup c p)) f.outer
    (group_opened (settled n.frames) ls (DoWhileGroup c p) (OfWhile c p) refl (settled_fine n.frames f.frames))
entered_fine n ls (DoCountGroup c p) e f =
    framed n.outer (with_statement (settled n.frames) ls (DoCountGroup c p)) f.outer
    (group_opened (settled n.frames) ls (DoCountGroup c p) (OfCount c p) refl (settled_fine n.frames f.frames))
entered_fine n ls (BeginBlock p) e f =
    let fs = settled n.frames in
    framed n.outer (with_statement fs ls (BeginBlock p)) f.outer
    (opened_fine ⊤ (begun fs ls (BeginBlock p)) (OfBegin p) ls (λ b. tt)
    (begun_fine ⊤ fs ls (BeginBlock p) (λ b. tt) (settled_fine n.frames f.frames)))
entered_fine n ls (On c p) e f =
    framed n.outer (with_statement (settled n.frames) ls (On c p)) f.outer
    (front_due (settled n.frames) ls (On c p) (UnitDue c p) refl tt (settled_fine n.frames f.frames))

-- ---- what is spelled

stream_fine : (d : Direction) (k : Option T.Skip) (ps : List T.EditPair) (p : Place)
    → HeadFine (Simple (H.moving d k ps p))
stream_fine Getting k ps p = (tt, tt)
stream_fine Putting k ps p = (tt, tt)

spelled_simple : {s : List ℕ} {ts rest : List Token} {m m' : Marks} {x : T.Stmt} → H.SpellsSimple s ts m x rest m'
    → HeadFine (Simple x)
spelled_simple (H.move d ts after mid rest m t k ps o so se mo) = stream_fine d k ps _
spelled_simple _ = (tt, tt)

spelled_head : {s : List ℕ} {ts rest : List Token} {m m' : Marks} {h : Head} → H.SpellsHead s ts m h rest m'
    → HeadFine h
spelled_head (H.simple ts mid rest m m' u x sp taken) = spelled_simple sp
spelled_head _ = tt

none_is : {X : Type 0} (x : X) (P : Type 0) → None ≡ Some x → P
none_is x P e = absurd (cc e)

shaped : (outer : List T.Item) → Every OuterFine outer → IsShaped (record { procedures = items_of_list outer })
shaped outer h = record { outer = outer_procedures outer h; ends = outer_last outer h }

reads_shaped : {s : List ℕ} {n : Nest} {ts : List Token} {fs : List SourceFault} {found : Option T.Tree}
    → Reads s n ts fs found → NestFine n → (tree : T.Tree) → found ≡ Some tree → IsShaped tree
reads_shaped (P.all_read n e) f tree g = subst IsShaped (same_some _ tree g) (shaped n.outer f.outer)
reads_shaped (P.head n n' ts mid rest ls h m fs found sl sh en more) f tree g =
    reads_shaped more (subst (OptFine NestFine) en (entered_fine n ls h (spelled_head sh) f)) tree g
reads_shaped (P.too_early n ts ls sl o) f tree g = none_is tree _ g
reads_shaped (P.misplaced_head n ts mid rest ls h m t p sl sh en mi) f tree g = none_is tree _ g
reads_shaped (P.left_out n ts mid rest ls m t sl lo) f tree g = none_is tree _ g
reads_shaped (P.no_head n ts mid ls t p sl nh nl re) f tree g = none_is tree _ g

pub shape_kept : ShapeKept
shape_kept s tokens tree h = reads_shaped h (record { outer = tt; frames = tt }) tree refl
