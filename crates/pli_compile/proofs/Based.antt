-- What is open stands on a procedure: so a source with a token has a procedure.
use Rattle.std.proofs.Common.{◌≡◌, List, [], ◌∷◌, ◌++◌, Bool, true, false, Option, Some, None, ◌⊎◌, inl, inr, refl, sym, subst}
use Rattle.std.specs.Prelude.{IsTrue, if◌then◌else◌, not, ◌||◌}
use Rattle.pli_language.specs.declared.expr.Place.{Place}
use Rattle.pli_language.specs.declared.token.Token.{Token}
use Rattle.pli_language.specs.Tree as T
use Rattle.pli_language.specs.Heads as H
use Rattle.pli_language.specs.Nesting as N
use Rattle.pli_language.specs.Nesting.{completed, closed}
use Rattle.pli_language.specs.Parsing as P
use Rattle.pli_compile.specs.Compiling.{ProcedureFound}

abbrev is_procedure : N.Opener → Bool
is_procedure (N.OfProcedure h) = true
is_procedure _ = false

abbrev is_base : N.Frame → Bool
is_base (N.InList o labels items pending) = is_procedure o
is_base _ = false

-- a procedure's list is open below all
abbrev Based : List N.Frame → Type 0
Based [] = ⊥
Based (f ∷ []) = IsTrue (is_base f)
Based (f ∷ g ∷ fs) = Based (g ∷ fs)

-- nothing is open, or that
abbrev Open : List N.Frame → Type 0
Open [] = Unit {0}
Open (f ∷ fs) = Based (f ∷ fs)

abbrev some_item : List T.Item → Bool
some_item [] = false
some_item (i ∷ is) = true

-- a procedure is open or whole
abbrev Stands : List T.Item → List N.Frame → Type 0
Stands outer [] = IsTrue (some_item outer)
Stands outer (f ∷ fs) = Based (f ∷ fs)

based_open : (fs : List N.Frame) → Based fs → Open fs
based_open [] h = tt
based_open (f ∷ fs) h = h

based_stands : (outer : List T.Item) (fs : List N.Frame) → Based fs → Stands outer fs
based_stands outer [] h = absurd h
based_stands outer (f ∷ fs) h = h

stands_open : (outer : List T.Item) (fs : List N.Frame) → Stands outer fs → Open fs
stands_open outer [] h = tt
stands_open outer (f ∷ fs) h = h

on_top : (f : N.Frame) (fs : List N.Frame) → Based fs → Based (f ∷ fs)
on_top f [] h = absurd h
on_top f (g ∷ fs) h = h

replaced : (f f' : N.Frame) (fs : List N.Frame) → is_base f ≡ is_base f' → Based (f ∷ fs) → Based (f' ∷ fs)
replaced f f' [] e h = subst (λ b. IsTrue b) e h
replaced f f' (g ∷ fs) e h = h

taken_off : (f : N.Frame) (fs : List N.Frame) → is_base f ≡ false → Based (f ∷ fs) → Based fs
taken_off f [] e h = absurd (cc (e, h))
taken_off f (g ∷ fs) e h = h

-- ---- statements

completed_based : (x : T.Stmt) (fs : List N.Frame) → Based fs → Based (completed x fs)
unfolding completed
completed_based x [] h = h
completed_based x (N.InList o labels items pending ∷ fs) h =
    replaced (N.InList o labels items pending) (N.InList o labels (items ++ T.Statement pending x ∷ []) []) fs refl h
completed_based x (N.ThenDue e p ∷ fs) h = replaced (N.ThenDue e p) (N.ThenWhole e x p) fs refl h
completed_based x (N.ThenWhole e u p ∷ fs) h = h
completed_based x (N.ElseDue e u p ∷ fs) h = completed_based (T.IfElse e u x p) fs (taken_off (N.ElseDue e u p) fs refl h)
completed_based x (N.UnitDue c p ∷ fs) h = completed_based (T.OnUnit c x p) fs (taken_off (N.UnitDue c p) fs refl h)

closed_based : (x : T.Stmt) (fs : List N.Frame) → Based fs → Based (closed x fs)
unfolding closed
closed_based x [] h = h
closed_based x (N.InList o labels items pending ∷ fs) h =
    replaced (N.InList o labels items pending) (N.InList o labels (items ++ T.Statement pending x ∷ []) []) fs refl h
closed_based x (N.ThenDue e p ∷ fs) h = closed_based (T.If e x p) fs (taken_off (N.ThenDue e p) fs refl h)
closed_based x (N.ThenWhole e u p ∷ fs) h = h
closed_based x (N.ElseDue e u p ∷ fs) h = closed_based (T.IfElse e u x p) fs (taken_off (N.ElseDue e u p) fs refl h)
closed_based x (N.UnitDue c p ∷ fs) h = closed_based (T.OnUnit c x p) fs (taken_off (N.UnitDue c p) fs refl h)

settled_open : (fs : List N.Frame) → Open fs → Open (N.settled fs)
settled_open [] h = tt
settled_open (N.ThenWhole e u p ∷ fs) h =
    based_open (closed (T.If e u p) fs) (closed_based (T.If e u p) fs (taken_off (N.ThenWhole e u p) fs refl h))
settled_open (N.InList o labels items pending ∷ fs) h = h
settled_open (N.ThenDue e p ∷ fs) h = h
settled_open (N.ElseDue e u p ∷ fs) h = h
settled_open (N.UnitDue c p ∷ fs) h = h

-- what there is, if there is something, stands on a procedure
abbrev BasedIf : Option (List N.Frame) → Type 0
BasedIf None = Unit {0}
BasedIf (Some fs) = Based fs

abbrev StandsIf : Option N.Nest → Type 0
StandsIf None = Unit {0}
StandsIf (Some n) = Stands n.outer n.frames

tested : (test : Bool) (o : Option (List N.Frame)) → BasedIf o → BasedIf (if test then o else None)
tested true o h = h
tested false o h = tt

begun_based : (fs : List N.Frame) (names : List T.Name) (h : H.Head) → Open fs → BasedIf (N.begun fs names h)
begun_based [] names h k = tt
begun_based (N.InList o labels items pending ∷ fs) names h k = replaced (N.InList o labels items pending) (N.InList o labels items names) fs refl k
begun_based (N.ThenDue e p ∷ fs) [] h k = k
begun_based (N.ThenDue e p ∷ fs) (n ∷ ns) h k = tt
begun_based (N.ThenWhole e u p ∷ fs) [] h k = tt
begun_based (N.ThenWhole e u p ∷ fs) (n ∷ ns) h k = tt
begun_based (N.ElseDue e u p ∷ fs) [] h k = k
begun_based (N.ElseDue e u p ∷ fs) (n ∷ ns) h k = tt
begun_based (N.UnitDue c p ∷ fs) [] h k = tested (N.is_on_unit h) (Some (N.UnitDue c p ∷ fs)) k
begun_based (N.UnitDue c p ∷ fs) (n ∷ ns) h k = tt

whole_based : (o : Option (List N.Frame)) (x : T.Stmt) → BasedIf o → BasedIf (N.whole o x)
whole_based None x h = tt
whole_based (Some fs) x h = completed_based x fs h

opened_based : (o : Option (List N.Frame)) (opener : N.Opener) (labels : List T.Name) → BasedIf o → BasedIf (N.opened o opener labels)
opened_based None opener labels h = tt
opened_based (Some fs) opener labels h = on_top (N.InList opener labels [] []) fs h

due_based : (o : Option (List N.Frame)) (f : N.Frame) → BasedIf o → BasedIf (N.due o f)
due_based None f h = tt
due_based (Some fs) f h = on_top f fs h

statement_based : (fs : List N.Frame) (labels : List T.Name) (h : H.Head) → Open fs → BasedIf (N.with_statement fs labels h)
statement_based fs labels (H.Simple x) k =
    tested (not (N.is_return (H.Simple x)) || N.may_return fs) (N.whole (N.begun fs labels (H.Simple x)) x) (whole_based (N.begun fs labels (H.Simple x)) x (begun_based fs labels (H.Simple x) k))
statement_based fs labels (H.IfThen e p) k = due_based (N.begun fs labels (H.IfThen e p)) (N.ThenDue e p) (begun_based fs labels (H.IfThen e p) k)
statement_based fs labels (H.DoGroup p) k = opened_based (N.begun fs labels (H.DoGroup p)) (N.OfGroup p) labels (begun_based fs labels (H.DoGroup p) k)
statement_based fs labels (H.DoWhileGroup e p) k = opened_based (N.begun fs labels (H.DoWhileGroup e p)) (N.OfWhile e p) labels (begun_based fs labels (H.DoWhileGroup e p) k)
statement_based fs labels (H.DoCountGroup c p) k = opened_based (N.begun fs labels (H.DoCountGroup c p)) (N.OfCount c p) labels (begun_based fs labels (H.DoCountGroup c p) k)
statement_based fs labels (H.BeginBlock p) k = opened_based (N.begun fs labels (H.BeginBlock p)) (N.OfBegin p) labels (begun_based fs labels (H.BeginBlock p) k)
statement_based fs labels (H.On c p) k = due_based (N.begun fs labels (H.On c p)) (N.UnitDue c p) (begun_based fs labels (H.On c p) k)
statement_based fs labels (H.ProcedureFront p parameters options) k = tt
statement_based fs labels (H.Declaring ds p) k = tt
statement_based fs labels (H.Else p) k = tt
statement_based fs labels (H.System p) k = tt
statement_based fs labels (H.EndOf name p) k = tt

item_based : (fs : List N.Frame) (i : T.Item) → Open fs → BasedIf (N.with_item fs i)
item_based [] i k = tt
item_based (N.InList o labels items pending ∷ fs) i k = replaced (N.InList o labels items pending) (N.InList o labels (items ++ i ∷ []) pending) fs refl k
item_based (N.ThenDue e p ∷ fs) i k = tt
item_based (N.ThenWhole e u p ∷ fs) i k = tt
item_based (N.ElseDue e u p ∷ fs) i k = tt
item_based (N.UnitDue c p ∷ fs) i k = tt

declaration_based : (fs : List N.Frame) (labels : List T.Name) (i : T.Item) → Open fs → BasedIf (N.with_declaration fs labels i)
declaration_based fs [] i k = item_based fs i k
declaration_based fs (n ∷ ns) i k = tt

else_based : (fs : List N.Frame) (labels : List T.Name) → Open fs → BasedIf (N.with_else fs labels)
else_based [] labels k = tt
else_based (N.ThenWhole e u p ∷ fs) [] k = replaced (N.ThenWhole e u p) (N.ElseDue e u p) fs refl k
else_based (N.ThenWhole e u p ∷ fs) (n ∷ ns) k = tt
else_based (N.InList o labels items pending ∷ fs) names k = tt
else_based (N.ThenDue e p ∷ fs) labels k = tt
else_based (N.ElseDue e u p ∷ fs) labels k = tt
else_based (N.UnitDue c p ∷ fs) labels k = tt

system_based : (fs : List N.Frame) (labels : List T.Name) → Open fs → BasedIf (N.with_system fs labels)
system_based [] labels k = tt
system_based (N.UnitDue c p ∷ fs) [] k = completed_based (T.OnSystem c p) fs (taken_off (N.UnitDue c p) fs refl k)
system_based (N.UnitDue c p ∷ fs) (n ∷ ns) k = tt
system_based (N.InList o labels items pending ∷ fs) names k = tt
system_based (N.ThenDue e p ∷ fs) labels k = tt
system_based (N.ThenWhole e u p ∷ fs) labels k = tt
system_based (N.ElseDue e u p ∷ fs) labels k = tt

-- ---- procedures

frames_stand : (outer : List T.Item) (o : Option (List N.Frame)) → BasedIf o → StandsIf (N.with_frames outer o)
frames_stand outer None h = tt
frames_stand outer (Some fs) h = based_stands outer fs h

procedure_stands : (outer : List T.Item) (fs : List N.Frame) (h : T.ProcedureHead) → Open fs → StandsIf (N.with_procedure outer fs h)
procedure_stands outer [] h k = refl
procedure_stands outer (N.InList o labels items pending ∷ fs) h k = in_block (N.is_block o)
  where
    in_block : (test : Bool) → StandsIf (if test then Some (record { outer = outer; frames = N.InList (N.OfProcedure h) h.labels [] [] ∷ N.InList o labels items pending ∷ fs }) else None)
    in_block true = k
    in_block false = tt
procedure_stands outer (N.ThenDue e p ∷ fs) h k = tt
procedure_stands outer (N.ThenWhole e u p ∷ fs) h k = tt
procedure_stands outer (N.ElseDue e u p ∷ fs) h k = tt
procedure_stands outer (N.UnitDue c p ∷ fs) h k = tt

labelled_stands : (outer : List T.Item) (fs : List N.Frame) (labels : List T.Name) (h : T.ProcedureHead) → Open fs → StandsIf (N.with_labelled_procedure outer fs labels h)
labelled_stands outer fs [] h k = tt
labelled_stands outer fs (n ∷ ns) h k = procedure_stands outer fs h k

some_last : (is : List T.Item) (i : T.Item) → IsTrue (some_item (is ++ i ∷ []))
some_last [] i = refl
some_last (j ∷ is) i = refl

ended_stands : (outer : List T.Item) (o : N.Opener) (labels pending : List T.Name) (items : List T.Item) (body : T.Items) (fs : List N.Frame) → Based (N.InList o labels items pending ∷ fs) → StandsIf (N.ended outer o body fs)
ended_stands outer (N.OfProcedure h) labels pending items body [] k = some_last outer (T.Procedure h body)
ended_stands outer (N.OfProcedure h) labels pending items body (f ∷ fs) k = frames_stand outer (N.with_item (f ∷ fs) (T.Procedure h body)) (item_based (f ∷ fs) (T.Procedure h body) k)
ended_stands outer (N.OfGroup p) labels pending items body fs k =
    based_stands outer (completed (T.Do body p) fs) (completed_based (T.Do body p) fs (taken_off (N.InList (N.OfGroup p) labels items pending) fs refl k))
ended_stands outer (N.OfWhile e p) labels pending items body fs k =
    based_stands outer (completed (T.DoWhile e body p) fs) (completed_based (T.DoWhile e body p) fs (taken_off (N.InList (N.OfWhile e p) labels items pending) fs refl k))
ended_stands outer (N.OfCount c p) labels pending items body fs k =
    based_stands outer (completed (T.DoCount c body p) fs) (completed_based (T.DoCount c body p) fs (taken_off (N.InList (N.OfCount c p) labels items pending) fs refl k))
ended_stands outer (N.OfBegin p) labels pending items body fs k =
    based_stands outer (completed (T.Begin body p) fs) (completed_based (T.Begin body p) fs (taken_off (N.InList (N.OfBegin p) labels items pending) fs refl k))

end_stands : (outer : List T.Item) (fs : List N.Frame) (names : List T.Name) (p : Place) → Open fs → StandsIf (N.with_end outer fs names p)
end_stands outer [] names p k = tt
end_stands outer (N.InList o labels items pending ∷ fs) names p k = ended_stands outer o labels pending items (N.items_of_list (items ++ N.end_labels names p)) fs k
end_stands outer (N.ThenDue e at ∷ fs) names p k = tt
end_stands outer (N.ThenWhole e u at ∷ fs) names p k = tt
end_stands outer (N.ElseDue e u at ∷ fs) names p k = tt
end_stands outer (N.UnitDue c at ∷ fs) names p k = tt

-- ---- sources

statement_stands : (n : N.Nest) (labels : List T.Name) (h : H.Head) → Open n.frames → StandsIf (N.with_frames n.outer (N.with_statement (N.settled n.frames) labels h))
statement_stands n labels h k =
    frames_stand n.outer (N.with_statement (N.settled n.frames) labels h) (statement_based (N.settled n.frames) labels h (settled_open n.frames k))

entered_stands : (n : N.Nest) (labels : List T.Name) (h : H.Head) → Open n.frames → StandsIf (N.entered n labels h)
entered_stands n labels (H.ProcedureFront p parameters options) k =
    labelled_stands n.outer (N.settled n.frames) labels (record { labels = labels; place = p; parameters = parameters; options = options }) (settled_open n.frames k)
entered_stands n labels (H.Declaring ds p) k =
    frames_stand n.outer (N.with_declaration (N.settled n.frames) labels (T.Declare ds p)) (declaration_based (N.settled n.frames) labels (T.Declare ds p) (settled_open n.frames k))
entered_stands n labels (H.EndOf name p) k = end_stands n.outer (N.settled n.frames) labels p (settled_open n.frames k)
entered_stands n labels (H.Else p) k = frames_stand n.outer (N.with_else n.frames labels) (else_based n.frames labels k)
entered_stands n labels (H.System p) k = frames_stand n.outer (N.with_system (N.settled n.frames) labels) (system_based (N.settled n.frames) labels (settled_open n.frames k))
entered_stands n labels (H.Simple x) k = statement_stands n labels (H.Simple x) k
entered_stands n labels (H.IfThen e p) k = statement_stands n labels (H.IfThen e p) k
entered_stands n labels (H.DoGroup p) k = statement_stands n labels (H.DoGroup p) k
entered_stands n labels (H.DoWhileGroup e p) k = statement_stands n labels (H.DoWhileGroup e p) k
entered_stands n labels (H.DoCountGroup c p) k = statement_stands n labels (H.DoCountGroup c p) k
entered_stands n labels (H.BeginBlock p) k = statement_stands n labels (H.BeginBlock p) k
entered_stands n labels (H.On c p) k = statement_stands n labels (H.On c p) k

abbrev is_some_tree : T.Items → Bool
is_some_tree T.NoItem = false
is_some_tree (T.ItemThen first rest) = true

abbrev FoundIf : Option T.Tree → Type 0
FoundIf None = Unit {0}
FoundIf (Some tree) = IsTrue (is_some_tree tree.procedures)

listed : (is : List T.Item) → IsTrue (some_item is) → IsTrue (is_some_tree (N.items_of_list is))
listed [] h = h
listed (i ∷ is) h = refl

reads_found : {s : _} {n : N.Nest} {ts : _} {fs : _} {tree : Option T.Tree} → P.Reads s n ts fs tree → Stands n.outer n.frames → FoundIf tree
reads_found (P.all_read n closed) h = listed n.outer (subst (λ fs. Stands n.outer fs) closed h)
reads_found (P.too_early n ts ls labels stays) h = tt
reads_found (P.head n behind ts mid rest ls x m fs tree labels spelled is others) h =
    reads_found others (subst StandsIf is (entered_stands n ls x (stands_open n.outer n.frames h)))
reads_found (P.misplaced_head n ts mid rest ls x m t p labels spelled is at) h = tt
reads_found (P.left_out n ts mid rest ls m t labels left) h = tt
reads_found (P.no_head n ts mid ls t p labels no_head no_left at) h = tt

-- where nothing is open yet, no token is left, or the tree that is read has a procedure
once_read : {s : _} {n : N.Nest} {ts : List Token} {fs : _} {tree : Option T.Tree} → P.Reads s n ts fs tree → n.frames ≡ [] → (ts ≡ []) ⊎ FoundIf tree
once_read (P.all_read n closed) h = inl refl
once_read (P.too_early n ts ls labels stays) h = inr tt
once_read (P.head n behind ts mid rest ls x m fs tree labels spelled is others) h =
    inr (reads_found others (subst StandsIf is (entered_stands n ls x (subst Open (sym h) tt))))
once_read (P.misplaced_head n ts mid rest ls x m t p labels spelled is at) h = inr tt
once_read (P.left_out n ts mid rest ls m t labels left) h = inr tt
once_read (P.no_head n ts mid ls t p labels no_head no_left at) h = inr tt

pub procedure_found : ProcedureFound
procedure_found s ts tree spelled empty = by_tokens (once_read spelled refl)
  where
    by_tokens : (ts ≡ []) ⊎ IsTrue (is_some_tree tree.procedures) → ts ≡ []
    by_tokens (inl e) = e
    by_tokens (inr h) = absurd (cc (subst (λ is. IsTrue (is_some_tree is)) empty h))
