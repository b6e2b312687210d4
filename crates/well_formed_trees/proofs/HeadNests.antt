-- What is so of each head as it is read is so of each head of what is open, and of the tree.
use Rattle.std.proofs.Common.{◌≡◌, ℕ, suc, Bool, true, false, not, ◌||◌, List, [], ◌∷◌, ◌++◌, Option, Some, None}
use Rattle.std.proofs.Common.{refl, if◌then◌else◌, sym, subst}
use Rattle.std.specs.Prelude.{⊤}
use Rattle.pli_language.specs.declared.expr.Place.{Place}
use Rattle.pli_language.specs.Heads as H
use Rattle.pli_language.specs.Nesting.{Opener, OfProcedure, OfGroup, OfWhile, OfCount, OfBegin, Frame, InList}
use Rattle.pli_language.specs.Nesting.{ThenDue, ThenWhole, ElseDue, UnitDue, Nest, items_of_list, completed, closed}
use Rattle.pli_language.specs.Nesting.{settled, is_block, is_return, may_return, is_on_unit, begun, opened, due}
use Rattle.pli_language.specs.Nesting.{whole, with_statement, with_frames, with_item, with_inner_procedure, ended}
use Rattle.pli_language.specs.Nesting.{end_labels, with_end, with_else, with_system, with_declaration}
use Rattle.pli_language.specs.Nesting.{with_labelled_procedure, entered, blocks, units}
use Rattle.pli_language.specs.Tree as T
use Rattle.well_formed_trees.specs.Every.{Every}
use Rattle.well_formed_trees.specs.Spelled.{IsNamed, StmtHas, ItemHas, ItemsHave}
use Rattle.well_formed_trees.proofs.Lists.{every_both}
use Rattle.well_formed_trees.proofs.Nests.{OptFine}
use Rattle.well_formed_trees.proofs.Shapes.{if_fine}

abbrev pub OfHeads : Type 1
OfHeads = ℕ → ℕ → Bool → H.Head → Type 0

-- ---- frames

-- how many blocks and units stand around what is inside an opener, and whether RETURN may stand there
abbrev blocks_in : Opener → ℕ → ℕ
blocks_in o n = if is_block o then suc n else n

abbrev units_in : Opener → ℕ → ℕ
units_in o n = if is_block o then n else suc n

abbrev returns_in : Opener → Bool → Bool
returns_in (OfProcedure h) r = true
returns_in _ r = r

abbrev OpenerHas : OfHeads → (b u : ℕ) → (r : Bool) → Opener → Type 0
OpenerHas P b u r (OfProcedure h) =
    P b u r (H.ProcedureFront h.place h.parameters h.options) × IsNamed h.labels
OpenerHas P b u r (OfGroup p) = P b u r (H.DoGroup p)
OpenerHas P b u r (OfWhile e p) = P b u r (H.DoWhileGroup e p)
OpenerHas P b u r (OfCount c p) = P b u r (H.DoCountGroup c p)
OpenerHas P b u r (OfBegin p) = P b u r (H.BeginBlock p)

abbrev FrameHas : OfHeads → (b u : ℕ) → (r : Bool) → Frame → Type 0
FrameHas P b u r (InList o labels items pending) =
    OpenerHas P b u r o × Every (ItemHas P (blocks_in o b) (units_in o u) (returns_in o r)) items
FrameHas P b u r (ThenDue e p) = P b u r (H.IfThen e p)
FrameHas P b u r (ThenWhole e x p) = P b u r (H.IfThen e p) × StmtHas P b (suc u) r x
FrameHas P b u r (ElseDue e x p) = P b u r (H.IfThen e p) × StmtHas P b (suc u) r x
FrameHas P b u r (UnitDue c p) = P b u r (H.On c p)

abbrev pub FramesHave : OfHeads → List Frame → Type 0
FramesHave P [] = ⊤
FramesHave P (f ∷ fs) = FrameHas P (blocks fs) (units fs) (may_return fs) f × FramesHave P fs

pub record NestHas (P : OfHeads) (n : Nest) : Type 0 where
  pub outer : Every (ItemHas P 0 0 false) n.outer
  pub frames : FramesHave P n.frames

-- a statement that stands where these are open
abbrev StmtIn : OfHeads → List Frame → T.Stmt → Type 0
StmtIn P fs x = StmtHas P (blocks fs) (units fs) (may_return fs) x

pub items_have : (P : OfHeads) (b u : ℕ) (r : Bool) (is : List T.Item) → Every (ItemHas P b u r) is
    → ItemsHave P b u r (items_of_list is)
items_have P b u r [] h = tt
items_have P b u r (i ∷ is) h = (h.0, items_have P b u r is h.1)

ends_have : (P : OfHeads) (b u : ℕ) (r : Bool) (is : List T.Item) (ls : List T.Name) (p : Place)
    → Every (ItemHas P b u r) is
    → ItemsHave P b u r (items_of_list (is ++ end_labels ls p))
ends_have P b u r [] [] p h = tt
ends_have P b u r [] (l ∷ ls) p h = (tt, tt)
ends_have P b u r (i ∷ is) ls p h = (h.0, ends_have P b u r is ls p h.1)

one_more_has : (P : OfHeads) (b u : ℕ) (r : Bool) (items : List T.Item) (i : T.Item) → Every (ItemHas P b u r) items
    → ItemHas P b u r i → Every (ItemHas P b u r) (items ++ i ∷ [])
one_more_has P b u r items i h e = every_both (ItemHas P b u r) items (i ∷ []) h (e, tt)

-- a list with a statement more
listed_has : (P : OfHeads) (fs : List Frame) (o : Opener) (labels : List T.Name) (items : List T.Item)
    (pending : List T.Name) (x : T.Stmt) → StmtIn P (InList o labels items pending ∷ fs) x
    → FramesHave P (InList o labels items pending ∷ fs)
    → FramesHave P (InList o labels (items ++ T.Statement pending x ∷ []) [] ∷ fs)
listed_has P fs (OfProcedure k) labels items pending x e h =
    ((h.0.0, one_more_has P (suc (blocks fs)) (units fs) true items (T.Statement pending x) h.0.1 e), h.1)
listed_has P fs (OfBegin p) labels items pending x e h =
    ((h.0.0, one_more_has P (suc (blocks fs)) (units fs) (may_return fs) items (T.Statement pending x) h.0.1 e), h.1)
listed_has P fs (OfGroup p) labels items pending x e h =
    ((h.0.0, one_more_has P (blocks fs) (suc (units fs)) (may_return fs) items (T.Statement pending x) h.0.1 e), h.1)
listed_has P fs (OfWhile c p) labels items pending x e h =
    ((h.0.0, one_more_has P (blocks fs) (suc (units fs)) (may_return fs) items (T.Statement pending x) h.0.1 e), h.1)
listed_has P fs (OfCount c p) labels items pending x e h =
    ((h.0.0, one_more_has P (blocks fs) (suc (units fs)) (may_return fs) items (T.Statement pending x) h.0.1 e), h.1)

completed_has : (P : OfHeads) (x : T.Stmt) (fs : List Frame) → StmtIn P fs x → FramesHave P fs
    → FramesHave P (completed x fs)
unfolding completed
completed_has P x [] e h = tt
completed_has P x (InList o labels items pending ∷ fs) e h = listed_has P fs o labels items pending x e h
completed_has P x (ThenDue c p ∷ fs) e h = ((h.0, e), h.1)
completed_has P x (ThenWhole c y p ∷ fs) e h = h
completed_has P x (ElseDue c y p ∷ fs) e h = completed_has P (T.IfElse c y x p) fs (h.0.0, (h.0.1, e)) h.1
completed_has P x (UnitDue c p ∷ fs) e h = completed_has P (T.OnUnit c x p) fs (h.0, e) h.1

closed_has : (P : OfHeads) (x : T.Stmt) (fs : List Frame) → StmtIn P fs x → FramesHave P fs
    → FramesHave P (closed x fs)
unfolding closed
closed_has P x [] e h = tt
closed_has P x (InList o labels items pending ∷ fs) e h = listed_has P fs o labels items pending x e h
closed_has P x (ThenDue c p ∷ fs) e h = closed_has P (T.If c x p) fs (h.0, e) h.1
closed_has P x (ThenWhole c y p ∷ fs) e h = h
closed_has P x (ElseDue c y p ∷ fs) e h = closed_has P (T.IfElse c y x p) fs (h.0.0, (h.0.1, e)) h.1
closed_has P x (UnitDue c p ∷ fs) e h = closed_has P (T.OnUnit c x p) fs (h.0, e) h.1

settled_has : (P : OfHeads) (fs : List Frame) → FramesHave P fs → FramesHave P (settled fs)
settled_has P [] h = h
settled_has P (ThenWhole e x p ∷ fs) h = closed_has P (T.If e x p) fs h.0 h.1
settled_has P (InList o labels items pending ∷ fs) h = h
settled_has P (ThenDue e p ∷ fs) h = h
settled_has P (ElseDue e x p ∷ fs) h = h
settled_has P (UnitDue c p ∷ fs) h = h

-- ---- heads

-- what a head has is so of the statement that it is, where it is a whole one
abbrev pub HeadHas : OfHeads → (b u : ℕ) → (r : Bool) → H.Head → Type 0
HeadHas P b u r (H.Simple x) = StmtHas P b u r x
HeadHas P b u r h = P b u r h

-- these frames stand where a statement begins, but for the labels that wait
pub record Ready (P : OfHeads) (below fs : List Frame) : Type 0 where
  pub frames : FramesHave P fs
  pub same_blocks : blocks fs ≡ blocks below
  pub same_units : units fs ≡ units below
  pub same_return : may_return fs ≡ may_return below

ready : (P : OfHeads) (fs : List Frame) → FramesHave P fs → Ready P fs fs
ready P fs h = record { frames = h; same_blocks = refl; same_units = refl; same_return = refl }

ready_if : (P : OfHeads) (b : Bool) (fs : List Frame) → FramesHave P fs
    → OptFine (Ready P fs) (if b then Some fs else None)
ready_if P true fs h = ready P fs h
ready_if P false fs h = tt

begun_has : (P : OfHeads) (fs : List Frame) (names : List T.Name) (h : H.Head) → FramesHave P fs
    → OptFine (Ready P fs) (begun fs names h)
begun_has P [] names h f = tt
begun_has P (InList (OfProcedure k) labels items pending ∷ fs) names h f =
    record { frames = f; same_blocks = refl; same_units = refl; same_return = refl }
begun_has P (InList (OfGroup q) labels items pending ∷ fs) names h f =
    record { frames = f; same_blocks = refl; same_units = refl; same_return = refl }
begun_has P (InList (OfWhile c q) labels items pending ∷ fs) names h f =
    record { frames = f; same_blocks = refl; same_units = refl; same_return = refl }
begun_has P (InList (OfCount c q) labels items pending ∷ fs) names h f =
    record { frames = f; same_blocks = refl; same_units = refl; same_return = refl }
begun_has P (InList (OfBegin q) labels items pending ∷ fs) names h f =
    record { frames = f; same_blocks = refl; same_units = refl; same_return = refl }
begun_has P (ThenDue e q ∷ fs) [] h f = ready P (ThenDue e q ∷ fs) f
begun_has P (ThenDue e q ∷ fs) (n ∷ ns) h f = tt
begun_has P (ThenWhole e x q ∷ fs) names h f = tt
begun_has P (ElseDue e x q ∷ fs) [] h f = ready P (ElseDue e x q ∷ fs) f
begun_has P (ElseDue e x q ∷ fs) (n ∷ ns) h f = tt
begun_has P (UnitDue c q ∷ fs) [] h f = ready_if P (is_on_unit h) (UnitDue c q ∷ fs) f
begun_has P (UnitDue c q ∷ fs) (n ∷ ns) h f = tt

moved : (Q : ℕ → ℕ → Bool → Type 0) {P : OfHeads} {fs gs : List Frame} → Ready P fs gs
    → Q (blocks fs) (units fs) (may_return fs) → Q (blocks gs) (units gs) (may_return gs)
moved Q {fs = fs} {gs = gs} ready h =
    let a = subst (λ b. Q b (units fs) (may_return fs)) (sym ready.same_blocks) h in
    let c = subst (λ u. Q (blocks gs) u (may_return fs)) (sym ready.same_units) a in
    subst (Q (blocks gs) (units gs)) (sym ready.same_return) c

whole_has : (P : OfHeads) (fs : List Frame) (o : Option (List Frame)) (x : T.Stmt) → StmtIn P fs x
    → OptFine (Ready P fs) o → OptFine (FramesHave P) (whole o x)
whole_has P fs None x e r = tt
whole_has P fs (Some gs) x e r =
    completed_has P x gs (moved (λ b u m. StmtHas P b u m x) r e) r.frames

due_has : (P : OfHeads) (fs : List Frame) (o : Option (List Frame)) (f : Frame)
    → FrameHas P (blocks fs) (units fs) (may_return fs) f
    → OptFine (Ready P fs) o → OptFine (FramesHave P) (due o f)
due_has P fs None f e r = tt
due_has P fs (Some gs) f e r =
    (moved (λ b u m. FrameHas P b u m f) r e, r.frames)

opened_has : (P : OfHeads) (fs : List Frame) (o : Option (List Frame)) (k : Opener) (labels : List T.Name)
    → OpenerHas P (blocks fs) (units fs) (may_return fs) k → OptFine (Ready P fs) o
    → OptFine (FramesHave P) (opened o k labels)
opened_has P fs None k labels e r = tt
opened_has P fs (Some gs) k labels e r =
    ((moved (λ b u m. OpenerHas P b u m k) r e, tt), r.frames)

simple_has : (P : OfHeads) (fs : List Frame) (labels : List T.Name) (x : T.Stmt) → StmtIn P fs x → FramesHave P fs
    → OptFine (FramesHave P) (with_statement fs labels (H.Simple x))
simple_has P fs labels x e h =
    if_fine (FramesHave P) (not (is_return (H.Simple x)) || may_return fs) (whole (begun fs labels (H.Simple x)) x)
    (whole_has P fs (begun fs labels (H.Simple x)) x e (begun_has P fs labels (H.Simple x) h))

group_has : (P : OfHeads) (fs : List Frame) (labels : List T.Name) (head : H.Head) (k : Opener)
    → OpenerHas P (blocks fs) (units fs) (may_return fs) k → FramesHave P fs
    → OptFine (FramesHave P) (opened (begun fs labels head) k labels)
group_has P fs labels head k e h = opened_has P fs (begun fs labels head) k labels e (begun_has P fs labels head h)

front_has : (P : OfHeads) (fs : List Frame) (labels : List T.Name) (head : H.Head) (f : Frame)
    → FrameHas P (blocks fs) (units fs) (may_return fs) f → FramesHave P fs
    → OptFine (FramesHave P) (due (begun fs labels head) f)
front_has P fs labels head f e h = due_has P fs (begun fs labels head) f e (begun_has P fs labels head h)

-- ---- whole nests

framed : (P : OfHeads) (outer : List T.Item) (o : Option (List Frame)) → Every (ItemHas P 0 0 false) outer
    → OptFine (FramesHave P) o → OptFine (NestHas P) (with_frames outer o)
framed P outer None h l = tt
framed P outer (Some fs) h l = record { outer = h; frames = l }

-- an item of the list that is innermost, whatever that belongs to
abbrev ItemIn : OfHeads → List Frame → T.Item → Type 0
ItemIn P fs i = ItemHas P (blocks fs) (units fs) (may_return fs) i

with_item_has : (P : OfHeads) (fs : List Frame) (i : T.Item) → ItemIn P fs i → FramesHave P fs
    → OptFine (FramesHave P) (with_item fs i)
with_item_has P [] i e h = tt
with_item_has P (InList (OfProcedure k) labels items pending ∷ fs) i e h =
    ((h.0.0, one_more_has P (suc (blocks fs)) (units fs) true items i h.0.1 e), h.1)
with_item_has P (InList (OfBegin p) labels items pending ∷ fs) i e h =
    ((h.0.0, one_more_has P (suc (blocks fs)) (units fs) (may_return fs) items i h.0.1 e), h.1)
with_item_has P (InList (OfGroup p) labels items pending ∷ fs) i e h =
    ((h.0.0, one_more_has P (blocks fs) (suc (units fs)) (may_return fs) items i h.0.1 e), h.1)
with_item_has P (InList (OfWhile c p) labels items pending ∷ fs) i e h =
    ((h.0.0, one_more_has P (blocks fs) (suc (units fs)) (may_return fs) items i h.0.1 e), h.1)
with_item_has P (InList (OfCount c p) labels items pending ∷ fs) i e h =
    ((h.0.0, one_more_has P (blocks fs) (suc (units fs)) (may_return fs) items i h.0.1 e), h.1)
with_item_has P (ThenDue c p ∷ fs) i e h = tt
with_item_has P (ThenWhole c x p ∷ fs) i e h = tt
with_item_has P (ElseDue c x p ∷ fs) i e h = tt
with_item_has P (UnitDue c p ∷ fs) i e h = tt

inner_has : (P : OfHeads) (outer : List T.Item) (fs : List Frame) (i : T.Item) → ItemIn P fs i
    → Every (ItemHas P 0 0 false) outer → FramesHave P fs → OptFine (NestHas P) (with_inner_procedure outer fs i)
inner_has P outer [] i e o h = record { outer = every_both (ItemHas P 0 0 false) outer (i ∷ []) o (e, tt); frames = tt }
inner_has P outer (f ∷ fs) i e o h = framed P outer (with_item (f ∷ fs) i) o (with_item_has P (f ∷ fs) i e h)

ended_has : (P : OfHeads) (outer : List T.Item) (k : Opener) (body : T.Items) (fs : List Frame)
    → OpenerHas P (blocks fs) (units fs) (may_return fs) k → ItemsHave P (blocks_in k (blocks fs))
    (units_in k (units fs)) (returns_in k (may_return fs)) body
    → Every (ItemHas P 0 0 false) outer → FramesHave P fs → OptFine (NestHas P) (ended outer k body fs)
ended_has P outer (OfProcedure k) body fs e b o f = inner_has P outer fs (T.Procedure k body) (e, b) o f
ended_has P outer (OfGroup p) body fs e b o f =
    record { outer = o; frames = completed_has P (T.Do body p) fs (e, b) f }
ended_has P outer (OfWhile c p) body fs e b o f =
    record { outer = o; frames = completed_has P (T.DoWhile c body p) fs (e, b) f }
ended_has P outer (OfCount c p) body fs e b o f =
    record { outer = o; frames = completed_has P (T.DoCount c body p) fs (e, b) f }
ended_has P outer (OfBegin p) body fs e b o f =
    record { outer = o; frames = completed_has P (T.Begin body p) fs (e, b) f }

end_has : (P : OfHeads) (outer : List T.Item) (fs : List Frame) (names : List T.Name) (p : Place)
    → Every (ItemHas P 0 0 false) outer → FramesHave P fs → OptFine (NestHas P) (with_end outer fs names p)
end_has P outer [] names p o h = tt
end_has P outer (InList k labels items pending ∷ fs) names p o h =
    ended_has P outer k (items_of_list (items ++ end_labels names p)) fs h.0.0
    (ends_have P (blocks_in k (blocks fs)) (units_in k (units fs)) (returns_in k (may_return fs)) items names p
    h.0.1) o h.1
end_has P outer (ThenDue e q ∷ fs) names p o h = tt
end_has P outer (ThenWhole e x q ∷ fs) names p o h = tt
end_has P outer (ElseDue e x q ∷ fs) names p o h = tt
end_has P outer (UnitDue c q ∷ fs) names p o h = tt

else_has : (P : OfHeads) (fs : List Frame) (names : List T.Name) → FramesHave P fs
    → OptFine (FramesHave P) (with_else fs names)
else_has P [] names h = tt
else_has P (ThenWhole e x p ∷ fs) [] h = h
else_has P (ThenWhole e x p ∷ fs) (n ∷ ns) h = tt
else_has P (InList k labels items pending ∷ fs) names h = tt
else_has P (ThenDue e q ∷ fs) names h = tt
else_has P (ElseDue e x q ∷ fs) names h = tt
else_has P (UnitDue c q ∷ fs) names h = tt

system_has : (P : OfHeads) (fs : List Frame) (names : List T.Name) → FramesHave P fs
    → OptFine (FramesHave P) (with_system fs names)
system_has P [] names h = tt
system_has P (UnitDue c p ∷ fs) [] h = completed_has P (T.OnSystem c p) fs h.0 h.1
system_has P (UnitDue c p ∷ fs) (n ∷ ns) h = tt
system_has P (InList k labels items pending ∷ fs) names h = tt
system_has P (ThenDue e q ∷ fs) names h = tt
system_has P (ThenWhole e x q ∷ fs) names h = tt
system_has P (ElseDue e x q ∷ fs) names h = tt

declaration_has : (P : OfHeads) (fs : List Frame) (names : List T.Name) (i : T.Item) → ItemIn P fs i
    → FramesHave P fs → OptFine (FramesHave P) (with_declaration fs names i)
declaration_has P fs [] i e h = with_item_has P fs i e h
declaration_has P fs (n ∷ ns) i e h = tt

named : (head : T.ProcedureHead) (n : T.Name) (ns : List T.Name) → head.labels ≡ n ∷ ns → IsNamed head.labels
named head n ns e = subst IsNamed (sym e) tt

procedure_has : (P : OfHeads) (outer : List T.Item) (fs : List Frame) (names : List T.Name) (head : T.ProcedureHead)
    → head.labels ≡ names
    → P (blocks fs) (units fs) (may_return fs) (H.ProcedureFront head.place head.parameters head.options)
    → Every (ItemHas P 0 0 false) outer → FramesHave P fs
    → OptFine (NestHas P) (with_labelled_procedure outer fs names head)
procedure_has P outer fs [] head l e o h = tt
procedure_has P outer [] (n ∷ ns) head l e o h =
    record { outer = o; frames = (((e, named head n ns l), tt), tt) }
procedure_has P outer (InList k labels items pending ∷ fs) (n ∷ ns) head l e o h =
    if_fine (NestHas P) (is_block k)
    (Some (record {
      outer = outer;
      frames =
          InList (OfProcedure head) head.labels [] [] ∷ InList k labels items pending ∷ fs;
    }))
    (record { outer = o; frames = (((e, named head n ns l), tt), h) })
procedure_has P outer (ThenDue c q ∷ fs) (n ∷ ns) head l e o h = tt
procedure_has P outer (ThenWhole c x q ∷ fs) (n ∷ ns) head l e o h = tt
procedure_has P outer (ElseDue c x q ∷ fs) (n ∷ ns) head l e o h = tt
procedure_has P outer (UnitDue c q ∷ fs) (n ∷ ns) head l e o h = tt

pub entered_has : (P : OfHeads) (n : Nest) (ls : List T.Name) (h : H.Head)
    → HeadHas P (blocks (settled n.frames)) (units (settled n.frames)) (may_return (settled n.frames)) h → NestHas P n
    → OptFine (NestHas P) (entered n ls h)
entered_has P n ls (H.ProcedureFront p parameters options) e f =
    procedure_has P n.outer (settled n.frames) ls _ refl e f.outer (settled_has P n.frames f.frames)
entered_has P n ls (H.Declaring ds p) e f =
    framed P n.outer (with_declaration (settled n.frames) ls (T.Declare ds p)) f.outer
    (declaration_has P (settled n.frames) ls (T.Declare ds p) e (settled_has P n.frames f.frames))
entered_has P n ls (H.EndOf name p) e f =
    end_has P n.outer (settled n.frames) ls p f.outer (settled_has P n.frames f.frames)
entered_has P n ls (H.Else p) e f =
    framed P n.outer (with_else n.frames ls) f.outer (else_has P n.frames ls f.frames)
entered_has P n ls (H.System p) e f =
    framed P n.outer (with_system (settled n.frames) ls) f.outer
    (system_has P (settled n.frames) ls (settled_has P n.frames f.frames))
entered_has P n ls (H.Simple x) e f =
    framed P n.outer (with_statement (settled n.frames) ls (H.Simple x)) f.outer
    (simple_has P (settled n.frames) ls x e (settled_has P n.frames f.frames))
entered_has P n ls (H.IfThen c p) e f =
    framed P n.outer (with_statement (settled n.frames) ls (H.IfThen c p)) f.outer
    (front_has P (settled n.frames) ls (H.IfThen c p) (ThenDue c p) e (settled_has P n.frames f.frames))
entered_has P n ls (H.DoGroup p) e f =
    framed P n.outer (with_statement (settled n.frames) ls (H.DoGroup p)) f.outer
    (group_has P (settled n.frames) ls (H.DoGroup p) (OfGroup p) e (settled_has P n.frames f.frames))
entered_has P n ls (H.DoWhileGroup c p) e f =
    framed P n.outer (with_statement (settled n.frames) ls (H.DoWhileGroup c p)) f.outer
    (group_has P (settled n.frames) ls (H.DoWhileGroup c p) (OfWhile c p) e (settled_has P n.frames f.frames))
entered_has P n ls (H.DoCountGroup c p) e f =
    framed P n.outer (with_statement (settled n.frames) ls (H.DoCountGroup c p)) f.outer
    (group_has P (settled n.frames) ls (H.DoCountGroup c p) (OfCount c p) e (settled_has P n.frames f.frames))
entered_has P n ls (H.BeginBlock p) e f =
    framed P n.outer (with_statement (settled n.frames) ls (H.BeginBlock p)) f.outer
    (group_has P (settled n.frames) ls (H.BeginBlock p) (OfBegin p) e (settled_has P n.frames f.frames))
entered_has P n ls (H.On c p) e f =
    framed P n.outer (with_statement (settled n.frames) ls (H.On c p)) f.outer
    (front_has P (settled n.frames) ls (H.On c p) (UnitDue c p) e (settled_has P n.frames f.frames))
