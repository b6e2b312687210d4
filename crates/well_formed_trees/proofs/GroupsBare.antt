-- What is spelled has procedures in the outermost lists of blocks alone.
use Rattle.std.proofs.Common.{◌≡◌, ℕ, Bool, true, false, not, ◌||◌, List, [], ◌∷◌, ◌++◌, Option, Some, None, refl}
use Rattle.std.proofs.Common.{subst, if◌then◌else◌}
use Rattle.std.specs.Prelude.{⊤}
use Rattle.pli_language.specs.declared.expr.Place.{Place}
use Rattle.pli_language.specs.declared.fault.SourceFault.{SourceFault}
use Rattle.pli_language.specs.declared.token.Token.{Token}
use Rattle.pli_language.specs.Formats.{Direction, Getting, Putting}
use Rattle.pli_language.specs.Heads as H
use Rattle.pli_language.specs.Heads.{Head, ProcedureFront, Declaring, Simple, IfThen, Else, DoGroup, DoWhileGroup}
use Rattle.pli_language.specs.Heads.{DoCountGroup, BeginBlock, On, System, EndOf}
use Rattle.pli_language.specs.Marks.{Marks}
use Rattle.pli_language.specs.Nesting.{Opener, OfProcedure, OfGroup, OfWhile, OfCount, OfBegin, Frame, InList}
use Rattle.pli_language.specs.Nesting.{ThenDue, ThenWhole, ElseDue, UnitDue, Nest, items_of_list, settled, is_block}
use Rattle.pli_language.specs.Nesting.{is_return, may_return, is_on_unit, begun, opened, due, whole, with_statement}
use Rattle.pli_language.specs.Nesting.{with_frames, with_inner_procedure, ended, end_labels, with_end}
use Rattle.pli_language.specs.Nesting.{with_else, with_system, with_declaration, with_labelled_procedure, entered}
use Rattle.pli_language.specs.Nesting.{completed, closed}
use Rattle.pli_language.specs.Parsing as P
use Rattle.pli_language.specs.Parsing.{Reads}
use Rattle.pli_language.specs.Tree as T
use Rattle.well_formed_trees.specs.Every.{Every}
use Rattle.well_formed_trees.specs.Written.{HoldNoProcedure, GroupsBare, AllGroupsBare, GroupsKept}
use Rattle.well_formed_trees.proofs.Lists.{every_both}
use Rattle.well_formed_trees.proofs.Nests.{OptFine}
use Rattle.well_formed_trees.proofs.Places.{same_some}
use Rattle.well_formed_trees.proofs.Shapes.{if_fine}

-- ---- items

abbrev ItemBare : T.Item → Type 0
ItemBare (T.Procedure head body) = AllGroupsBare body
ItemBare (T.Statement labels s) = GroupsBare s
ItemBare _ = ⊤

abbrev IsNoProcedure : T.Item → Type 0
IsNoProcedure (T.Procedure head body) = ⊥
IsNoProcedure _ = ⊤

items_bare : (is : List T.Item) → Every ItemBare is → AllGroupsBare (items_of_list is)
items_bare [] h = tt
items_bare (T.Procedure head body ∷ is) h = (h.0, items_bare is h.1)
items_bare (T.Declare items place ∷ is) h = items_bare is h.1
items_bare (T.Statement labels s ∷ is) h = (h.0, items_bare is h.1)
items_bare (T.EndLabels labels place ∷ is) h = items_bare is h.1

items_none : (is : List T.Item) → Every IsNoProcedure is → HoldNoProcedure (items_of_list is)
items_none [] h = tt
items_none (T.Procedure head body ∷ is) h = absurd h.0
items_none (T.Declare items place ∷ is) h = items_none is h.1
items_none (T.Statement labels s ∷ is) h = items_none is h.1
items_none (T.EndLabels labels place ∷ is) h = items_none is h.1

-- ---- frames

-- the items of a list, of which none is a procedure where it is a group's
abbrev ListBare : Opener → List T.Item → Type 0
ListBare o items = Every ItemBare items × (is_block o ≡ false → Every IsNoProcedure items)

-- a procedure's list stands in that of a block, or in none
abbrev OnBlock : List Frame → Type 0
OnBlock [] = ⊤
OnBlock (InList o labels items pending ∷ fs) = is_block o ≡ true
OnBlock _ = ⊥

abbrev StandsOn : Opener → List Frame → Type 0
StandsOn (OfProcedure h) fs = OnBlock fs
StandsOn _ fs = ⊤

abbrev FramesBare : List Frame → Type 0
FramesBare [] = ⊤
FramesBare (InList o labels items pending ∷ fs) = ListBare o items × (StandsOn o fs × FramesBare fs)
FramesBare (ThenDue e p ∷ fs) = FramesBare fs
FramesBare (ThenWhole e u p ∷ fs) = GroupsBare u × FramesBare fs
FramesBare (ElseDue e u p ∷ fs) = GroupsBare u × FramesBare fs
FramesBare (UnitDue c p ∷ fs) = FramesBare fs

one_more : (o : Opener) (items : List T.Item) (i : T.Item) → ItemBare i → IsNoProcedure i → ListBare o items
    → ListBare o (items ++ i ∷ [])
one_more o items i b n h = (
  every_both ItemBare items (i ∷ []) h.0 (b, tt),
  λ e. every_both IsNoProcedure items (i ∷ []) (h.1 e) (n, tt),
)

completed_bare : (x : T.Stmt) (fs : List Frame) → GroupsBare x → FramesBare fs → FramesBare (completed x fs)
unfolding completed
completed_bare x [] b h = tt
completed_bare x (InList o labels items pending ∷ fs) b h =
    (one_more o items (T.Statement pending x) b tt h.0, h.1)
completed_bare x (ThenDue c p ∷ fs) b h = (b, h)
completed_bare x (ThenWhole c y p ∷ fs) b h = h
completed_bare x (ElseDue c y p ∷ fs) b h = completed_bare (T.IfElse c y x p) fs (h.0, b) h.1
completed_bare x (UnitDue c p ∷ fs) b h = completed_bare (T.OnUnit c x p) fs b h

closed_bare : (x : T.Stmt) (fs : List Frame) → GroupsBare x → FramesBare fs → FramesBare (closed x fs)
unfolding closed
closed_bare x [] b h = tt
closed_bare x (InList o labels items pending ∷ fs) b h = (one_more o items (T.Statement pending x) b tt h.0, h.1)
closed_bare x (ThenDue c p ∷ fs) b h = closed_bare (T.If c x p) fs b h
closed_bare x (ThenWhole c y p ∷ fs) b h = h
closed_bare x (ElseDue c y p ∷ fs) b h = closed_bare (T.IfElse c y x p) fs (h.0, b) h.1
closed_bare x (UnitDue c p ∷ fs) b h = closed_bare (T.OnUnit c x p) fs b h

settled_bare : (fs : List Frame) → FramesBare fs → FramesBare (settled fs)
settled_bare [] h = h
settled_bare (ThenWhole e u p ∷ fs) h = closed_bare (T.If e u p) fs h.0 h.1
settled_bare (InList o labels items pending ∷ fs) h = h
settled_bare (ThenDue e p ∷ fs) h = h
settled_bare (ElseDue e u p ∷ fs) h = h
settled_bare (UnitDue c p ∷ fs) h = h

begun_bare : (fs : List Frame) (names : List T.Name) (h : Head) → FramesBare fs → OptFine FramesBare (begun fs names h)
begun_bare [] names h f = tt
begun_bare (InList o labels items pending ∷ fs) names h f = f
begun_bare (ThenDue e q ∷ fs) [] h f = f
begun_bare (ThenDue e q ∷ fs) (n ∷ ns) h f = tt
begun_bare (ThenWhole e u q ∷ fs) names h f = tt
begun_bare (ElseDue e u q ∷ fs) [] h f = f
begun_bare (ElseDue e u q ∷ fs) (n ∷ ns) h f = tt
begun_bare (UnitDue c q ∷ fs) [] h f = if_fine FramesBare (is_on_unit h) (Some (UnitDue c q ∷ fs)) f
begun_bare (UnitDue c q ∷ fs) (n ∷ ns) h f = tt

whole_bare : (o : Option (List Frame)) (x : T.Stmt) → GroupsBare x → OptFine FramesBare o
    → OptFine FramesBare (whole o x)
whole_bare None x b h = tt
whole_bare (Some fs) x b h = completed_bare x fs b h

opened_bare : (o : Option (List Frame)) (k : Opener) (labels : List T.Name) → ((fs : List Frame) → StandsOn k fs)
    → OptFine FramesBare o → OptFine FramesBare (opened o k labels)
opened_bare None k labels s h = tt
opened_bare (Some fs) k labels s h = ((tt, λ e. tt), (s fs, h))

-- ---- whole nests

record NestBare (n : Nest) : Type 0 where
  outer : Every ItemBare n.outer
  frames : FramesBare n.frames

framed : (outer : List T.Item) (o : Option (List Frame)) → Every ItemBare outer → OptFine FramesBare o
    → OptFine NestBare (with_frames outer o)
framed outer None h l = tt
framed outer (Some fs) h l = record { outer = h; frames = l }

inner_bare : (outer : List T.Item) (fs : List Frame) (head : T.ProcedureHead) (body : T.Items) → AllGroupsBare body
    → Every ItemBare outer → OnBlock fs → FramesBare fs
    → OptFine NestBare (with_inner_procedure outer fs (T.Procedure head body))
inner_bare outer [] head body b o s f =
    record { outer = every_both ItemBare outer (T.Procedure head body ∷ []) o (b, tt); frames = tt }
inner_bare outer (InList k labels items pending ∷ fs) head body b o s f = record {
  outer = o;
  frames = (
    (every_both ItemBare items (T.Procedure head body ∷ []) f.0.0 (b, tt), λ e. absurd (cc (s, e))),
    f.1,
  );
}
inner_bare outer (ThenDue e p ∷ fs) head body b o s f = absurd s
inner_bare outer (ThenWhole e u p ∷ fs) head body b o s f = absurd s
inner_bare outer (ElseDue e u p ∷ fs) head body b o s f = absurd s
inner_bare outer (UnitDue c p ∷ fs) head body b o s f = absurd s

ended_bare : (outer : List T.Item) (k : Opener) (items : List T.Item) (fs : List Frame) → ListBare k items
    → Every ItemBare outer → StandsOn k fs → FramesBare fs
    → OptFine NestBare (ended outer k (items_of_list items) fs)
ended_bare outer (OfProcedure h) items fs l o s f =
    inner_bare outer fs h (items_of_list items) (items_bare items l.0) o s f
ended_bare outer (OfGroup p) items fs l o s f =
    let body = items_of_list items in
    record {
      outer = o;
      frames = completed_bare (T.Do body p) fs (items_none items (l.1 refl), items_bare items l.0) f;
    }
ended_bare outer (OfWhile c p) items fs l o s f =
    let body = items_of_list items in
    record {
      outer = o;
      frames = completed_bare (T.DoWhile c body p) fs (items_none items (l.1 refl), items_bare items l.0) f;
    }
ended_bare outer (OfCount c p) items fs l o s f =
    let body = items_of_list items in
    record {
      outer = o;
      frames = completed_bare (T.DoCount c body p) fs (items_none items (l.1 refl), items_bare items l.0) f;
    }
ended_bare outer (OfBegin p) items fs l o s f =
    record { outer = o; frames = completed_bare (T.Begin (items_of_list items) p) fs (items_bare items l.0) f }

with_ends : (o : Opener) (items : List T.Item) (names : List T.Name) (p : Place) → ListBare o items
    → ListBare o (items ++ end_labels names p)
with_ends o items names p h = (
  every_both ItemBare items (end_labels names p) h.0 (ends names),
  λ e. every_both IsNoProcedure items (end_labels names p) (h.1 e) (none names),
) where
  ends : (names : List T.Name) → Every ItemBare (end_labels names p)
  ends [] = tt
  ends (l ∷ ls) = (tt, tt)

  none : (names : List T.Name) → Every IsNoProcedure (end_labels names p)
  none [] = tt
  none (l ∷ ls) = (tt, tt)

end_bare : (outer : List T.Item) (fs : List Frame) (names : List T.Name) (p : Place) → Every ItemBare outer
    → FramesBare fs → OptFine NestBare (with_end outer fs names p)
end_bare outer [] names p o h = tt
end_bare outer (InList k labels items pending ∷ fs) names p o h =
    ended_bare outer k (items ++ end_labels names p) fs (with_ends k items names p h.0) o h.1.0 h.1.1
end_bare outer (ThenDue e q ∷ fs) names p o h = tt
end_bare outer (ThenWhole e u q ∷ fs) names p o h = tt
end_bare outer (ElseDue e u q ∷ fs) names p o h = tt
end_bare outer (UnitDue c q ∷ fs) names p o h = tt

else_bare : (fs : List Frame) (names : List T.Name) → FramesBare fs → OptFine FramesBare (with_else fs names)
else_bare [] names h = tt
else_bare (ThenWhole e u p ∷ fs) [] h = h
else_bare (ThenWhole e u p ∷ fs) (n ∷ ns) h = tt
else_bare (InList k labels items pending ∷ fs) names h = tt
else_bare (ThenDue e q ∷ fs) names h = tt
else_bare (ElseDue e u q ∷ fs) names h = tt
else_bare (UnitDue c q ∷ fs) names h = tt

system_bare : (fs : List Frame) (names : List T.Name) → FramesBare fs → OptFine FramesBare (with_system fs names)
system_bare [] names h = tt
system_bare (UnitDue c p ∷ fs) [] h = completed_bare (T.OnSystem c p) fs tt h
system_bare (UnitDue c p ∷ fs) (n ∷ ns) h = tt
system_bare (InList k labels items pending ∷ fs) names h = tt
system_bare (ThenDue e q ∷ fs) names h = tt
system_bare (ThenWhole e u q ∷ fs) names h = tt
system_bare (ElseDue e u q ∷ fs) names h = tt

declaration_bare : (fs : List Frame) (names : List T.Name) (ds : List T.DeclareItem) (p : Place) → FramesBare fs
    → OptFine FramesBare (with_declaration fs names (T.Declare ds p))
declaration_bare fs (n ∷ ns) ds p h = tt
declaration_bare [] [] ds p h = tt
declaration_bare (InList o labels items pending ∷ fs) [] ds p h =
    (one_more o items (T.Declare ds p) tt tt h.0, h.1)
declaration_bare (ThenDue e q ∷ fs) [] ds p h = tt
declaration_bare (ThenWhole e u q ∷ fs) [] ds p h = tt
declaration_bare (ElseDue e u q ∷ fs) [] ds p h = tt
declaration_bare (UnitDue c q ∷ fs) [] ds p h = tt

procedure_if : (outer : List T.Item) (head : T.ProcedureHead) (k : Opener) (labels : List T.Name) (items : List T.Item)
    (pending : List T.Name) (fs : List Frame) (b : Bool) → is_block k ≡ b → Every ItemBare outer
    → FramesBare (InList k labels items pending ∷ fs)
    → OptFine NestBare (if b then Some (record {
      outer = outer;
      frames = InList (OfProcedure head) head.labels [] [] ∷ InList k labels items pending ∷ fs;
    }) else None)
procedure_if outer head k labels items pending fs true e o h =
    record { outer = o; frames = ((tt, λ d. tt), (e, h)) }
procedure_if outer head k labels items pending fs false e o h = tt

procedure_bare : (outer : List T.Item) (fs : List Frame) (names : List T.Name) (head : T.ProcedureHead)
    → Every ItemBare outer → FramesBare fs → OptFine NestBare (with_labelled_procedure outer fs names head)
procedure_bare outer fs [] head o h = tt
procedure_bare outer [] (n ∷ ns) head o h = record { outer = o; frames = ((tt, λ d. tt), (tt, tt)) }
procedure_bare outer (InList k labels items pending ∷ fs) (n ∷ ns) head o h =
    procedure_if outer head k labels items pending fs (is_block k) refl o h
procedure_bare outer (ThenDue e q ∷ fs) (n ∷ ns) head o h = tt
procedure_bare outer (ThenWhole e u q ∷ fs) (n ∷ ns) head o h = tt
procedure_bare outer (ElseDue e u q ∷ fs) (n ∷ ns) head o h = tt
procedure_bare outer (UnitDue c q ∷ fs) (n ∷ ns) head o h = tt

abbrev HeadBare : Head → Type 0
HeadBare (Simple x) = GroupsBare x
HeadBare _ = ⊤

group_bare : (fs : List Frame) (labels : List T.Name) (h : Head) (k : Opener) → ((fs : List Frame) → StandsOn k fs)
    → FramesBare fs → OptFine FramesBare (opened (begun fs labels h) k labels)
group_bare fs labels h k s f = opened_bare (begun fs labels h) k labels s (begun_bare fs labels h f)

due_bare : (o : Option (List Frame)) (f : Frame) → ((fs : List Frame) → FramesBare fs → FramesBare (f ∷ fs))
    → OptFine FramesBare o → OptFine FramesBare (due o f)
due_bare None f k h = tt
due_bare (Some fs) f k h = k fs h

entered_bare : (n : Nest) (ls : List T.Name) (h : Head) → HeadBare h → NestBare n → OptFine NestBare (entered n ls h)
entered_bare n ls (ProcedureFront p parameters options) e f =
    procedure_bare n.outer (settled n.frames) ls _ f.outer (settled_bare n.frames f.frames)
entered_bare n ls (Declaring ds p) e f =
    framed n.outer (with_declaration (settled n.frames) ls (T.Declare ds p)) f.outer
    (declaration_bare (settled n.frames) ls ds p (settled_bare n.frames f.frames))
entered_bare n ls (EndOf name p) e f = end_bare n.outer (settled n.frames) ls p f.outer (settled_bare n.frames f.frames)
entered_bare n ls (Else p) e f = framed n.outer (with_else n.frames ls) f.outer (else_bare n.frames ls f.frames)
entered_bare n ls (System p) e f =
    framed n.outer (with_system (settled n.frames) ls) f.outer
    (system_bare (settled n.frames) ls (settled_bare n.frames f.frames))
entered_bare n ls (Simple x) e f =
    let fs = settled n.frames in
    framed n.outer (with_statement fs ls (Simple x)) f.outer
    (if_fine FramesBare (not (is_return (Simple x)) || may_return fs) (whole (begun fs ls (Simple x)) x)
    (whole_bare (begun fs ls (Simple x)) x e (begun_bare fs ls (Simple x) (settled_bare n.frames f.frames))))
entered_bare n ls (IfThen c p) e f =
    let fs = settled n.frames in
    framed n.outer (with_statement fs ls (IfThen c p)) f.outer
    (due_bare (begun fs ls (IfThen c p)) (ThenDue c p) (λ fs h. h)
    (begun_bare fs ls (IfThen c p) (settled_bare n.frames f.frames)))
entered_bare n ls (DoGroup p) e f =
    let fs = settled n.frames in
    framed n.outer (with_statement fs ls (DoGroup p)) f.outer
    (group_bare fs ls (DoGroup p) (OfGroup p) (λ fs. tt) (settled_bare n.frames f.frames))
entered_bare n ls (DoWhileGroup c p) e f =
    let fs = settled n.frames in
    framed n.outer (with_statement fs ls (DoWhileGroup c p)) f.outer
    (group_bare fs ls (DoWhileGroup c p) (OfWhile c p) (λ fs. tt) (settled_bare n.frames f.frames))
entered_bare n ls (DoCountGroup c p) e f =
    let fs = settled n.frames in
    framed n.outer (with_statement fs ls (DoCountGroup c p)) f.outer
    (group_bare fs ls (DoCountGroup c p) (OfCount c p) (λ fs. tt) (settled_bare n.frames f.frames))
entered_bare n ls (BeginBlock p) e f =
    let fs = settled n.frames in
    framed n.outer (with_statement fs ls (BeginBlock p)) f.outer
    (group_bare fs ls (BeginBlock p) (OfBegin p) (λ fs. tt) (settled_bare n.frames f.frames))
entered_bare n ls (On c p) e f =
    let fs = settled n.frames in
    framed n.outer (with_statement fs ls (On c p)) f.outer
    (due_bare (begun fs ls (On c p)) (UnitDue c p) (λ fs h. h)
    (begun_bare fs ls (On c p) (settled_bare n.frames f.frames)))

-- ---- what is spelled

moving_bare : (d : Direction) (k : Option T.Skip) (ps : List T.EditPair) (p : Place) → GroupsBare (H.moving d k ps p)
moving_bare Getting k ps p = tt
moving_bare Putting k ps p = tt

simple_bare : {s : List ℕ} {ts rest : List Token} {m m' : Marks} {x : T.Stmt} → H.SpellsSimple s ts m x rest m'
    → GroupsBare x
simple_bare (H.move d ts after mid rest m t k ps o so se mo) = moving_bare d k ps _
simple_bare _ = tt

head_bare : {s : List ℕ} {ts rest : List Token} {m m' : Marks} {h : Head} → H.SpellsHead s ts m h rest m'
    → HeadBare h
head_bare (H.simple ts mid rest m m' u x sp taken) = simple_bare sp
head_bare _ = tt

none_is : {X : Type 0} (x : X) (P : Type 0) → None ≡ Some x → P
none_is x P e = absurd (cc e)

reads_bare : {s : List ℕ} {n : Nest} {ts : List Token} {fs : List SourceFault} {found : Option T.Tree}
    → Reads s n ts fs found → NestBare n → (tree : T.Tree) → found ≡ Some tree → AllGroupsBare tree.procedures
reads_bare (P.all_read n e) f tree g =
    subst (λ (t : T.Tree). AllGroupsBare t.procedures) (same_some _ tree g) (items_bare n.outer f.outer)
reads_bare (P.head n n' ts mid rest ls h m fs found sl sh en more) f tree g =
    reads_bare more (subst (OptFine NestBare) en (entered_bare n ls h (head_bare sh) f)) tree g
reads_bare (P.too_early n ts ls sl o) f tree g = none_is tree _ g
reads_bare (P.misplaced_head n ts mid rest ls h m t p sl sh en mi) f tree g = none_is tree _ g
reads_bare (P.left_out n ts mid rest ls m t sl lo) f tree g = none_is tree _ g
reads_bare (P.no_head n ts mid ls t p sl nh nl re) f tree g = none_is tree _ g

pub groups_kept : GroupsKept
groups_kept s tokens tree h = reads_bare h (record { outer = tt; frames = tt }) tree refl
