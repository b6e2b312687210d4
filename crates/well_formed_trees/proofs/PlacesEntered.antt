-- A head that may stand adds its own places, and those of its labels, to those of what is open.
use Rattle.std.proofs.Common.{◌≡◌, Bool, true, false, not, ◌||◌, List, [], ◌∷◌, ◌++◌, Option, Some, None, refl, sym}
use Rattle.std.proofs.Common.{ap, ◌∙◌, subst, if◌then◌else◌}
use Rattle.std.specs.Prelude.{⊤}
use Rattle.std.proofs.lemmas.List.{append_assoc, append-nil}
use Rattle.pli_language.specs.declared.expr.Place.{Place}
use Rattle.pli_language.specs.Heads as H
use Rattle.pli_language.specs.Nesting.{Opener, OfProcedure, OfGroup, OfWhile, OfCount, OfBegin, Frame, InList}
use Rattle.pli_language.specs.Nesting.{ThenDue, ThenWhole, ElseDue, UnitDue, Nest, items_of_list, completed, is_block}
use Rattle.pli_language.specs.Nesting.{is_return, may_return, is_on_unit, begun, opened, due, whole, with_statement}
use Rattle.pli_language.specs.Nesting.{with_frames, with_item, with_inner_procedure, end_labels, with_end, with_else}
use Rattle.pli_language.specs.Nesting.{with_system, with_declaration, with_labelled_procedure}
use Rattle.pli_language.specs.Tree as T
use Rattle.well_formed_trees.specs.Placed.{name_places, places_in, item_places, stmt_places}
use Rattle.well_formed_trees.proofs.Nests.{OptFine}
use Rattle.well_formed_trees.proofs.Shapes.{if_fine}
use Rattle.well_formed_trees.proofs.PlacesNest.{list_places, list_append, items_are, opener_places, frame_places}
use Rattle.well_formed_trees.proofs.PlacesNest.{IsClear, IsDue, IsSome, AreWell, Placed, Settled, relisted}
use Rattle.well_formed_trees.proofs.PlacesNest.{completed_placed}

-- what follows the items of a list follows all of it
behind_list : {X : Type 0} (below own items more : List X)
    → below ++ (own ++ (items ++ more)) ≡ (below ++ (own ++ (items ++ []))) ++ more
behind_list below own items more =
    ap (λ l. below ++ l) (sym (append_assoc own items more))
    ∙ (sym (append_assoc below (own ++ items) more)
    ∙ ap (λ l. (below ++ (own ++ l)) ++ more) (sym (append-nil items)))

-- the frames of a list whose labels don't wait
clear_are : (ps : List Place) (o : Opener) (labels : List T.Name) (items : List T.Item) (pending : List T.Name)
    (fs : List Frame) → pending ≡ [] → frame_places (InList o labels items pending ∷ fs) ≡ ps
    → frame_places fs ++ (opener_places o ++ (list_places items ++ [])) ≡ ps
clear_are ps o labels items pending fs c e =
    ap (λ l. frame_places fs ++ (opener_places o ++ (list_places items ++ name_places l))) (sym c) ∙ e

-- ---- statements

pub record Begun (ps : List Place) (fs : List Frame) : Type 0 where
  pub well : AreWell fs
  pub some : IsSome fs
  pub due : IsDue fs
  pub are : frame_places fs ≡ ps

begun_same : {ps : List Place} (f : Frame) (fs : List Frame) → Settled ps (f ∷ fs) → Begun (ps ++ []) (f ∷ fs)
begun_same {ps} f fs h = record {
  well = h.placed.well;
  some = tt;
  due = h.due;
  are = h.placed.are ∙ sym (append-nil ps);
}

begun_if : {ps : List Place} (b : Bool) (f : Frame) (fs : List Frame) → Settled ps (f ∷ fs)
    → OptFine (Begun (ps ++ [])) (if b then Some (f ∷ fs) else None)
begun_if true f fs h = begun_same f fs h
begun_if false f fs h = tt

pub begun_placed : {ps : List Place} (fs : List Frame) (names : List T.Name) (h : H.Head) → Settled ps fs
    → OptFine (Begun (ps ++ name_places names)) (begun fs names h)
begun_placed [] names h s = tt
begun_placed {ps} (InList o labels items pending ∷ fs) names h s = record {
  well = relisted o labels labels items items pending names fs s.placed.well;
  some = tt;
  due = tt;
  are =
      behind_list (frame_places fs) (opener_places o) (list_places items) (name_places names)
      ∙ ap (λ l. l ++ name_places names) (clear_are ps o labels items pending fs s.placed.clear s.placed.are);
}
begun_placed (ThenDue e q ∷ fs) [] h s = begun_same (ThenDue e q) fs s
begun_placed (ThenDue e q ∷ fs) (n ∷ ns) h s = tt
begun_placed (ThenWhole e x q ∷ fs) names h s = tt
begun_placed (ElseDue e x q ∷ fs) [] h s = begun_same (ElseDue e x q) fs s
begun_placed (ElseDue e x q ∷ fs) (n ∷ ns) h s = tt
begun_placed (UnitDue c q ∷ fs) [] h s = begun_if (is_on_unit h) (UnitDue c q) fs s
begun_placed (UnitDue c q ∷ fs) (n ∷ ns) h s = tt

whole_placed : (ps : List Place) (o : Option (List Frame)) (x : T.Stmt) → stmt_places x ≡ [] → OptFine (Begun ps) o
    → OptFine (Placed ps) (whole o x)
whole_placed ps None x e b = tt
whole_placed ps (Some fs) x e b =
    let k = completed_placed x fs b.some b.due b.well in
    record {
      well = k.well;
      clear = k.clear;
      are = k.are ∙ (ap (λ l. frame_places fs ++ l) e ∙ (append-nil (frame_places fs) ∙ b.are));
    }

-- what is no procedure's
abbrev pub IsInside : Opener → Type 0
IsInside (OfProcedure h) = ⊥
IsInside _ = ⊤

pub opened_placed : (ps : List Place) (o : Option (List Frame)) (k : Opener) (labels : List T.Name) → IsInside k
    → OptFine (Begun ps) o → OptFine (Placed ps) (opened o k labels)
opened_placed ps None k labels i b = tt
opened_placed ps (Some fs) (OfProcedure h) labels i b = absurd i
opened_placed ps (Some fs) (OfGroup p) labels i b =
    record { well = (b.due, (b.some, b.well)); clear = refl; are = append-nil (frame_places fs) ∙ b.are }
opened_placed ps (Some fs) (OfWhile e p) labels i b =
    record { well = (b.due, (b.some, b.well)); clear = refl; are = append-nil (frame_places fs) ∙ b.are }
opened_placed ps (Some fs) (OfCount c p) labels i b =
    record { well = (b.due, (b.some, b.well)); clear = refl; are = append-nil (frame_places fs) ∙ b.are }
opened_placed ps (Some fs) (OfBegin p) labels i b =
    record { well = (b.due, (b.some, b.well)); clear = refl; are = append-nil (frame_places fs) ∙ b.are }

pub then_placed : (ps : List Place) (o : Option (List Frame)) (e : T.Expr) (p : Place) → OptFine (Begun ps) o
    → OptFine (Placed ps) (due o (ThenDue e p))
then_placed ps None e p b = tt
then_placed ps (Some fs) e p b =
    record { well = (b.due, (b.some, b.well)); clear = tt; are = append-nil (frame_places fs) ∙ b.are }

pub unit_placed : (ps : List Place) (o : Option (List Frame)) (c : _) (p : Place) → OptFine (Begun ps) o
    → OptFine (Placed ps) (due o (UnitDue c p))
unit_placed ps None c p b = tt
unit_placed ps (Some fs) c p b =
    record { well = (b.due, (b.some, b.well)); clear = tt; are = append-nil (frame_places fs) ∙ b.are }

pub simple_placed : {ps : List Place} (fs : List Frame) (labels : List T.Name) (x : T.Stmt) → stmt_places x ≡ []
    → Settled ps fs → OptFine (Placed (ps ++ name_places labels)) (with_statement fs labels (H.Simple x))
simple_placed {ps} fs labels x e h =
    if_fine (Placed (ps ++ name_places labels)) (not (is_return (H.Simple x)) || may_return fs)
    (whole (begun fs labels (H.Simple x)) x)
    (whole_placed (ps ++ name_places labels) (begun fs labels (H.Simple x)) x e (begun_placed fs labels (H.Simple x) h))

-- ---- items

-- an item behind those of a list
item_are : (o : Opener) (items : List T.Item) (i : T.Item) (below : List Place)
    → below ++ (opener_places o ++ (list_places (items ++ i ∷ []) ++ []))
    ≡ (below ++ (opener_places o ++ (list_places items ++ []))) ++ item_places i
item_are o items i below =
    let a : list_places (items ++ i ∷ []) ++ [] ≡ list_places items ++ item_places i =
    append-nil (list_places (items ++ i ∷ []))
    ∙ (list_append items (i ∷ []) ∙ ap (λ l. list_places items ++ l) (append-nil (item_places i))) in
    ap (λ l. below ++ (opener_places o ++ l)) a
    ∙ behind_list below (opener_places o) (list_places items) (item_places i)

item_placed : {ps : List Place} (fs : List Frame) (i : T.Item) → AreWell fs → IsClear fs → frame_places fs ≡ ps
    → OptFine (Placed (ps ++ item_places i)) (with_item fs i)
item_placed [] i w c e = tt
item_placed {ps} (InList o labels items pending ∷ fs) i w c e = record {
  well = relisted o labels labels items (items ++ i ∷ []) pending pending fs w;
  clear = c;
  are =
      ap (λ l. frame_places fs ++ (opener_places o ++ (list_places (items ++ i ∷ []) ++ name_places l))) c
      ∙ (item_are o items i (frame_places fs)
      ∙ ap (λ l. l ++ item_places i) (clear_are ps o labels items pending fs c e));
}
item_placed (ThenDue e' p ∷ fs) i w c e = tt
item_placed (ThenWhole e' u p ∷ fs) i w c e = tt
item_placed (ElseDue e' u p ∷ fs) i w c e = tt
item_placed (UnitDue c' p ∷ fs) i w c e = tt

-- ---- whole nests

pub record NestPlaced (ps : List Place) (n : Nest) : Type 0 where
  pub well : AreWell n.frames
  pub clear : IsClear n.frames
  pub are : list_places n.outer ++ frame_places n.frames ≡ ps

pub framed : (outer : List T.Item) (own more : List Place) (o : Option (List Frame)) → OptFine (Placed (own ++ more)) o
    → OptFine (NestPlaced ((list_places outer ++ own) ++ more)) (with_frames outer o)
framed outer own more None h = tt
framed outer own more (Some fs) h = record {
  well = h.well;
  clear = h.clear;
  are = ap (λ l. list_places outer ++ l) h.are ∙ sym (append_assoc (list_places outer) own more);
}

-- a procedure's list and labels, as its item has them
procedure_are : (h : T.ProcedureHead) (items : List T.Item) (ends : List T.Item)
    → item_places (T.Procedure h (items_of_list (items ++ ends)))
    ≡ (opener_places (OfProcedure h) ++ (list_places items ++ [])) ++ list_places ends
procedure_are h items ends =
    let own = name_places h.labels in
    let a : places_in (items_of_list (items ++ ends)) ≡ list_places items ++ list_places ends =
    items_are (items ++ ends) ∙ list_append items ends in
    ap (λ l. own ++ (h.place ∷ l)) a
    ∙ (sym (append_assoc own (h.place ∷ []) (list_places items ++ list_places ends))
    ∙ behind_list [] (own ++ h.place ∷ []) (list_places items) (list_places ends))

ends_are : (names : List T.Name) (p : Place) → list_places (end_labels names p) ≡ name_places names
ends_are [] p = refl
ends_are (n ∷ ns) p = append-nil (name_places (n ∷ ns))

-- a procedure's END, whose labels are the last of its list
inner_placed : {ps : List Place} (outer : List T.Item) (fs : List Frame) (h : T.ProcedureHead) (items : List T.Item)
    (names : List T.Name) (p : Place) → AreWell fs → IsClear fs
    → list_places outer ++ (frame_places fs ++ (opener_places (OfProcedure h) ++ (list_places items ++ []))) ≡ ps
    → OptFine (NestPlaced (ps ++ (name_places names ++ [])))
    (with_inner_procedure outer fs (T.Procedure h (items_of_list (items ++ end_labels names p))))
inner_placed {ps} outer [] h items names p w c e =
    let i = T.Procedure h (items_of_list (items ++ end_labels names p)) in
    let own = opener_places (OfProcedure h) ++ (list_places items ++ []) in
    let a : item_places i ≡ own ++ name_places names =
    procedure_are h items (end_labels names p) ∙ ap (λ l. own ++ l) (ends_are names p) in
    record {
      well = tt;
      clear = tt;
      are =
          append-nil (list_places (outer ++ i ∷ []))
          ∙ (list_append outer (i ∷ [])
          ∙ (ap (λ l. list_places outer ++ l) (append-nil (item_places i) ∙ a)
          ∙ (sym (append_assoc (list_places outer) own (name_places names))
          ∙ (ap (λ l. l ++ name_places names) e ∙ ap (λ l. ps ++ l) (sym (append-nil (name_places names)))))));
    }
inner_placed {ps} outer (f ∷ fs) h items names p w c e =
    let i = T.Procedure h (items_of_list (items ++ end_labels names p)) in
    let own = opener_places (OfProcedure h) ++ (list_places items ++ []) in
    let below = frame_places (f ∷ fs) in
    let a : item_places i ≡ own ++ name_places names =
    procedure_are h items (end_labels names p) ∙ ap (λ l. own ++ l) (ends_are names p) in
    let k : OptFine (NestPlaced ((list_places outer ++ below) ++ item_places i))
    (with_frames outer (with_item (f ∷ fs) i)) =
    framed outer below (item_places i) (with_item (f ∷ fs) i) (item_placed (f ∷ fs) i w c refl) in
    let same : (list_places outer ++ below) ++ item_places i ≡ ps ++ (name_places names ++ []) =
    ap (λ l. (list_places outer ++ below) ++ l) a
    ∙ (sym (append_assoc (list_places outer ++ below) own (name_places names))
    ∙ (ap (λ l. l ++ name_places names) (append_assoc (list_places outer) below own ∙ e)
    ∙ ap (λ l. ps ++ l) (sym (append-nil (name_places names))))) in
    subst (λ l. OptFine (NestPlaced l) (with_frames outer (with_item (f ∷ fs) i))) same k

-- the END of a group or of a begin block
group_placed : {ps : List Place} (outer : List T.Item) (x : T.Stmt) (fs : List Frame) (items : List T.Item)
    (names : List T.Name) (p : Place) → IsSome fs → IsDue fs → AreWell fs
    → stmt_places x ≡ places_in (items_of_list (items ++ end_labels names p))
    → list_places outer ++ (frame_places fs ++ ([] ++ (list_places items ++ []))) ≡ ps
    → NestPlaced (ps ++ (name_places names ++ [])) (record { outer = outer; frames = completed x fs })
group_placed {ps} outer x fs items names p s d w k e =
    let c = completed_placed x fs s d w in
    let a : stmt_places x ≡ list_places items ++ name_places names =
    k ∙ (items_are (items ++ end_labels names p)
    ∙ (list_append items (end_labels names p) ∙ ap (λ l. list_places items ++ l) (ends_are names p))) in
    record {
      well = c.well;
      clear = c.clear;
      are =
          ap (λ l. list_places outer ++ l)
          (c.are ∙ (ap (λ l. frame_places fs ++ l) a
          ∙ behind_list (frame_places fs) [] (list_places items) (name_places names)))
          ∙ (sym (append_assoc (list_places outer) (frame_places fs ++ ([] ++ (list_places items ++ [])))
          (name_places names))
          ∙ (ap (λ l. l ++ name_places names) e ∙ ap (λ l. ps ++ l) (sym (append-nil (name_places names)))));
    }

pub end_placed : {ps : List Place} (outer : List T.Item) (fs : List Frame) (names : List T.Name) (p : Place)
    → AreWell fs → IsClear fs → list_places outer ++ frame_places fs ≡ ps
    → OptFine (NestPlaced (ps ++ (name_places names ++ []))) (with_end outer fs names p)
end_placed outer [] names p w c e = tt
end_placed outer (InList (OfProcedure h) labels items pending ∷ fs) names p w c e =
    inner_placed outer fs h items names p w.1.1 w.1.0
    (ap (λ l. list_places outer ++ l)
    (clear_are (frame_places (InList (OfProcedure h) labels items pending ∷ fs)) (OfProcedure h) labels items
    pending fs c refl) ∙ e)
end_placed outer (InList (OfGroup q) labels items pending ∷ fs) names p w c e =
    group_placed outer (T.Do (items_of_list (items ++ end_labels names p)) q) fs items names p w.1.0 w.0 w.1.1 refl
    (ap (λ l. list_places outer ++ l)
    (clear_are (frame_places (InList (OfGroup q) labels items pending ∷ fs)) (OfGroup q) labels items pending fs c
    refl) ∙ e)
end_placed outer (InList (OfWhile b q) labels items pending ∷ fs) names p w c e =
    group_placed outer (T.DoWhile b (items_of_list (items ++ end_labels names p)) q) fs items names p w.1.0 w.0 w.1.1
    refl
    (ap (λ l. list_places outer ++ l)
    (clear_are (frame_places (InList (OfWhile b q) labels items pending ∷ fs)) (OfWhile b q) labels items pending
    fs c refl) ∙ e)
end_placed outer (InList (OfCount b q) labels items pending ∷ fs) names p w c e =
    group_placed outer (T.DoCount b (items_of_list (items ++ end_labels names p)) q) fs items names p w.1.0 w.0 w.1.1
    refl
    (ap (λ l. list_places outer ++ l)
    (clear_are (frame_places (InList (OfCount b q) labels items pending ∷ fs)) (OfCount b q) labels items pending
    fs c refl) ∙ e)
end_placed outer (InList (OfBegin q) labels items pending ∷ fs) names p w c e =
    group_placed outer (T.Begin (items_of_list (items ++ end_labels names p)) q) fs items names p w.1.0 w.0 w.1.1 refl
    (ap (λ l. list_places outer ++ l)
    (clear_are (frame_places (InList (OfBegin q) labels items pending ∷ fs)) (OfBegin q) labels items pending fs c
    refl) ∙ e)
end_placed outer (ThenDue b q ∷ fs) names p w c e = tt
end_placed outer (ThenWhole b x q ∷ fs) names p w c e = tt
end_placed outer (ElseDue b x q ∷ fs) names p w c e = tt
end_placed outer (UnitDue b q ∷ fs) names p w c e = tt

pub else_placed : {ps : List Place} (fs : List Frame) (names : List T.Name) → Placed ps fs
    → OptFine (Placed (ps ++ (name_places names ++ []))) (with_else fs names)
else_placed [] names h = tt
else_placed {ps} (ThenWhole e x q ∷ fs) [] h =
    record { well = h.well; clear = tt; are = h.are ∙ sym (append-nil ps) }
else_placed (ThenWhole e x q ∷ fs) (n ∷ ns) h = tt
else_placed (InList o labels items pending ∷ fs) names h = tt
else_placed (ThenDue e q ∷ fs) names h = tt
else_placed (ElseDue e x q ∷ fs) names h = tt
else_placed (UnitDue c q ∷ fs) names h = tt

pub system_placed : {ps : List Place} (fs : List Frame) (names : List T.Name) → Placed ps fs
    → OptFine (Placed (ps ++ (name_places names ++ []))) (with_system fs names)
system_placed [] names h = tt
system_placed {ps} (UnitDue c p ∷ fs) [] h =
    let k = completed_placed (T.OnSystem c p) fs h.well.1.0 h.well.0 h.well.1.1 in
    record { well = k.well; clear = k.clear; are = k.are ∙ (h.are ∙ sym (append-nil ps)) }
system_placed (UnitDue c p ∷ fs) (n ∷ ns) h = tt
system_placed (InList o labels items pending ∷ fs) names h = tt
system_placed (ThenDue e q ∷ fs) names h = tt
system_placed (ThenWhole e x q ∷ fs) names h = tt
system_placed (ElseDue e x q ∷ fs) names h = tt

pub declaration_placed : {ps : List Place} (fs : List Frame) (names : List T.Name) (i : T.Item) → Placed ps fs
    → OptFine (Placed (ps ++ (name_places names ++ item_places i))) (with_declaration fs names i)
declaration_placed fs [] i h = item_placed fs i h.well h.clear h.are
declaration_placed fs (n ∷ ns) i h = tt

-- a procedure's front
pub front_placed : {ps : List Place} (outer : List T.Item) (fs : List Frame) (names : List T.Name)
    (head : T.ProcedureHead)
    → head.labels ≡ names → Settled ps fs
    → OptFine (NestPlaced ((list_places outer ++ ps) ++ (name_places names ++ head.place ∷ [])))
    (with_labelled_procedure outer fs names head)
front_placed outer fs [] head l h = tt
front_placed {ps} outer [] (n ∷ ns) head l h =
    let own = name_places (n ∷ ns) ++ head.place ∷ [] in
    let a : opener_places (OfProcedure head) ++ [] ≡ own =
    append-nil (opener_places (OfProcedure head)) ∙ ap (λ ls. name_places ls ++ head.place ∷ []) l in
    record {
      well = (tt, (tt, tt));
      clear = refl;
      are =
          ap (λ q. list_places outer ++ q) (a ∙ ap (λ q. q ++ own) h.placed.are)
          ∙ sym (append_assoc (list_places outer) ps own);
    }
front_placed {ps} outer (InList k labels items pending ∷ fs) (n ∷ ns) head l h =
    let own = name_places (n ∷ ns) ++ head.place ∷ [] in
    let a : opener_places (OfProcedure head) ++ [] ≡ own =
    append-nil (opener_places (OfProcedure head)) ∙ ap (λ ls. name_places ls ++ head.place ∷ []) l in
    let below = frame_places (InList k labels items pending ∷ fs) in
    if_fine (NestPlaced ((list_places outer ++ ps) ++ own)) (is_block k)
    (Some (record {
      outer = outer;
      frames =
          InList (OfProcedure head) head.labels [] [] ∷ InList k labels items pending ∷ fs;
    }))
    (record {
      well = (tt, (h.placed.clear, h.placed.well));
      clear = refl;
      are =
          ap (λ q. list_places outer ++ (below ++ q)) a
          ∙ (ap (λ q. list_places outer ++ (q ++ own)) h.placed.are
          ∙ sym (append_assoc (list_places outer) ps own));
    })
front_placed outer (ThenDue c q ∷ fs) (n ∷ ns) head l h = tt
front_placed outer (ThenWhole c x q ∷ fs) (n ∷ ns) head l h = tt
front_placed outer (ElseDue c x q ∷ fs) (n ∷ ns) head l h = tt
front_placed outer (UnitDue c q ∷ fs) (n ∷ ns) head l h = tt
