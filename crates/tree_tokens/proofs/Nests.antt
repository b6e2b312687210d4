-- A nest has no more tokens than the heads that made it, and so has the tree.
use Rattle.std.proofs.Common.{◌≡◌, ◌≢◌, ℕ, suc, ◌+◌, ◌*◌, ◌≤◌, List, [], ◌∷◌, ◌++◌, Option, Some, None, length, Bool}
use Rattle.std.proofs.Common.{true, false, refl, sym, ap, arith, subst, if◌then◌else◌}
use Rattle.std.specs.Prelude.{◌||◌, not}
use Rattle.pli_language.specs.declared.expr.Place.{Place}
use Rattle.pli_language.specs.declared.fault.SourceFault.{SourceFault}
use Rattle.pli_language.specs.declared.token.Token.{Token}
use Rattle.pli_language.specs.Heads as H
use Rattle.pli_language.specs.Heads.{Head}
use Rattle.pli_language.specs.Nesting as N
use Rattle.pli_language.specs.Nesting.{Opener, Frame, Nest, completed, closed, settled, begun, entered, items_of_list}
use Rattle.pli_language.specs.Parsing as L
use Rattle.pli_language.specs.Parsing.{SpellsLabels, Reads}
use Rattle.pli_language.specs.Tree as T
use Rattle.tree_tokens.specs.TreeTokens.{expr_tokens, condition_tokens, counting_tokens, labels_tokens}
use Rattle.tree_tokens.specs.TreeTokens.{procedure_tokens}
use Rattle.tree_tokens.specs.TreeTokens.{stmt_tokens, item_of_list_tokens, items_tokens, tree_tokens, TreesSpelled}
use Rattle.tree_tokens.proofs.Expressions.{first}
use Rattle.tree_tokens.proofs.Heads.{head_tokens, head_spelled}

-- ---- what is open

abbrev opener_tokens : Opener → ℕ
opener_tokens (N.OfProcedure h) = procedure_tokens h
opener_tokens (N.OfGroup place) = 2
opener_tokens (N.OfWhile condition place) = 5 + expr_tokens condition
opener_tokens (N.OfCount counting place) = 2 + counting_tokens counting
opener_tokens (N.OfBegin place) = 2

abbrev list_tokens : List T.Item → ℕ
list_tokens [] = 0
list_tokens (i ∷ is) = item_of_list_tokens i + list_tokens is

abbrev frame_tokens : Frame → ℕ
frame_tokens (N.InList opener labels items pending) =
    opener_tokens opener + (list_tokens items + labels_tokens pending)
frame_tokens (N.ThenDue condition place) = 2 + expr_tokens condition
frame_tokens (N.ThenWhole condition unit place) = 2 + (expr_tokens condition + stmt_tokens unit)
frame_tokens (N.ElseDue condition unit place) = 3 + (expr_tokens condition + stmt_tokens unit)
frame_tokens (N.UnitDue condition place) = 1 + condition_tokens condition

abbrev frames_tokens : List Frame → ℕ
frames_tokens [] = 0
frames_tokens (f ∷ fs) = frame_tokens f + frames_tokens fs

abbrev nest_tokens : Nest → ℕ
nest_tokens n = list_tokens n.outer + frames_tokens n.frames

-- ---- lists

list_append : (as' bs : List T.Item) → list_tokens (as' ++ bs) ≡ list_tokens as' + list_tokens bs
list_append [] bs = omega arith
list_append (a ∷ as') bs = let x = list_append as' bs in omega (arith, x)

items_are : (is : List T.Item) → items_tokens (items_of_list is) ≡ list_tokens is
items_are [] = refl
items_are (i ∷ is) = let x = items_are is in omega (arith, x)

-- ---- statements that are whole

pub completed_most : (x : T.Stmt) (fs : List Frame) → frames_tokens (completed x fs) ≤ stmt_tokens x + frames_tokens fs
unfolding completed
completed_most x [] = omega arith
completed_most x (N.InList o labels items pending ∷ fs) =
    let a = list_append items (T.Statement pending x ∷ []) in
    omega (arith, a)
completed_most x (N.ThenDue e p ∷ fs) = omega arith
completed_most x (N.ThenWhole e u p ∷ fs) = omega arith
completed_most x (N.ElseDue e u p ∷ fs) = let a = completed_most (T.IfElse e u x p) fs in omega (arith, a)
completed_most x (N.UnitDue c p ∷ fs) = let a = completed_most (T.OnUnit c x p) fs in omega (arith, a)

closed_most : (x : T.Stmt) (fs : List Frame) → frames_tokens (closed x fs) ≤ stmt_tokens x + frames_tokens fs
unfolding closed
closed_most x [] = omega arith
closed_most x (N.InList o labels items pending ∷ fs) =
    let a = list_append items (T.Statement pending x ∷ []) in
    omega (arith, a)
closed_most x (N.ThenDue e p ∷ fs) = let a = closed_most (T.If e x p) fs in omega (arith, a)
closed_most x (N.ThenWhole e u p ∷ fs) = omega arith
closed_most x (N.ElseDue e u p ∷ fs) = let a = closed_most (T.IfElse e u x p) fs in omega (arith, a)
closed_most x (N.UnitDue c p ∷ fs) = let a = closed_most (T.OnUnit c x p) fs in omega (arith, a)

settled_most : (fs : List Frame) → frames_tokens (settled fs) ≤ frames_tokens fs
settled_most [] = omega arith
settled_most (N.InList o labels items pending ∷ fs) = omega arith
settled_most (N.ThenDue e p ∷ fs) = omega arith
settled_most (N.ThenWhole e u p ∷ fs) = let a = closed_most (T.If e u p) fs in omega (arith, a)
settled_most (N.ElseDue e u p ∷ fs) = omega arith
settled_most (N.UnitDue c p ∷ fs) = omega arith

-- ---- behind a head

-- what may be there has no more than so many tokens
abbrev FramesMost : ℕ → Option (List Frame) → Type 0
FramesMost n None = Unit {0}
FramesMost n (Some fs) = frames_tokens fs ≤ n

abbrev NestMost : ℕ → Option Nest → Type 0
NestMost n None = Unit {0}
NestMost n (Some nest) = nest_tokens nest ≤ n

begun_most : (fs : List Frame) (names : List T.Name) (h : Head)
    → FramesMost (labels_tokens names + frames_tokens fs) (begun fs names h)
begun_most [] names h = tt
begun_most (N.InList o labels items pending ∷ fs) names h = omega arith
begun_most (N.ThenDue e p ∷ fs) [] h = omega arith
begun_most (N.ThenDue e p ∷ fs) (l ∷ ls) h = tt
begun_most (N.ThenWhole e u p ∷ fs) names h = tt
begun_most (N.ElseDue e u p ∷ fs) [] h = omega arith
begun_most (N.ElseDue e u p ∷ fs) (l ∷ ls) h = tt
begun_most (N.UnitDue c p ∷ fs) [] h = by (N.is_on_unit h)
  where
    by : (q : Bool)
        → FramesMost (labels_tokens [] + frames_tokens (N.UnitDue c p ∷ fs)) (if q then Some
        (N.UnitDue c p ∷ fs) else None)
    by true = omega arith
    by false = tt
begun_most (N.UnitDue c p ∷ fs) (l ∷ ls) h = tt

due_most : (n : ℕ) (fs : Option (List Frame)) (f : Frame) → FramesMost n fs
    → FramesMost (frame_tokens f + n) (N.due fs f)
due_most n None f h = tt
due_most n (Some fs) f h = omega (arith, h)

opened_most : (n : ℕ) (fs : Option (List Frame)) (o : Opener) (labels : List T.Name) → FramesMost n fs
    → FramesMost (opener_tokens o + n) (N.opened fs o labels)
opened_most n None o labels h = tt
opened_most n (Some fs) o labels h = omega (arith, h)

whole_most : (n : ℕ) (fs : Option (List Frame)) (x : T.Stmt) → FramesMost n fs
    → FramesMost (stmt_tokens x + n) (N.whole fs x)
whole_most n None x h = tt
whole_most n (Some fs) x h = let a = completed_most x fs in omega (arith, a, h)

nest_more : (m n : ℕ) (nest : Option Nest) → m ≤ n → NestMost m nest → NestMost n nest
nest_more m n None h k = tt
nest_more m n (Some nest) h k = omega (arith, h, k)

frames_nest : (n : ℕ) (outer : List T.Item) (fs : Option (List Frame)) → FramesMost n fs
    → NestMost (list_tokens outer + n) (N.with_frames outer fs)
frames_nest n outer None h = tt
frames_nest n outer (Some fs) h = omega (arith, h)

item_most : (fs : List Frame) (i : T.Item) → FramesMost (item_of_list_tokens i + frames_tokens fs) (N.with_item fs i)
item_most [] i = tt
item_most (N.InList o labels items pending ∷ fs) i = let a = list_append items (i ∷ []) in omega (arith, a)
item_most (N.ThenDue e p ∷ fs) i = tt
item_most (N.ThenWhole e u p ∷ fs) i = tt
item_most (N.ElseDue e u p ∷ fs) i = tt
item_most (N.UnitDue c p ∷ fs) i = tt

-- a statement, or the front of one
simple_most : (fs : List Frame) (labels : List T.Name) (x : T.Stmt)
    → FramesMost (stmt_tokens x + (labels_tokens labels + frames_tokens fs)) (N.with_statement fs labels (H.Simple x))
simple_most fs labels x = by (not (N.is_return (H.Simple x)) || N.may_return fs)
  where
    by : (q : Bool)
        → FramesMost (stmt_tokens x + (labels_tokens labels + frames_tokens fs))
        (if q then N.whole (begun fs labels (H.Simple x)) x else None)
    by true = whole_most (labels_tokens labels + frames_tokens fs) (begun fs labels (H.Simple x)) x
        (begun_most fs labels (H.Simple x))
    by false = tt

procedure_most : (outer : List T.Item) (fs : List Frame) (h : T.ProcedureHead)
    → NestMost (procedure_tokens h + (list_tokens outer + frames_tokens fs)) (N.with_procedure outer fs h)
procedure_most outer [] h = omega arith
procedure_most outer (N.InList o labels items pending ∷ fs) h = by (N.is_block o)
  where
    around : Frame
    around = N.InList o labels items pending

    by : (q : Bool)
        → NestMost (procedure_tokens h + (list_tokens outer + frames_tokens (around ∷ fs)))
        (if q then Some (record {
          outer = outer;
          frames = N.InList
              (N.OfProcedure h) h.labels [] [] ∷ around ∷ fs;
        }) else None)
    by true = omega arith
    by false = tt
procedure_most outer (N.ThenDue e p ∷ fs) h = tt
procedure_most outer (N.ThenWhole e u p ∷ fs) h = tt
procedure_most outer (N.ElseDue e u p ∷ fs) h = tt
procedure_most outer (N.UnitDue c p ∷ fs) h = tt

labelled_most : (outer : List T.Item) (fs : List Frame) (labels : List T.Name) (h : T.ProcedureHead)
    → NestMost (procedure_tokens h + (list_tokens outer + frames_tokens fs))
    (N.with_labelled_procedure outer fs labels h)
labelled_most outer fs [] h = tt
labelled_most outer fs (l ∷ ls) h = procedure_most outer fs h

declaration_most : (fs : List Frame) (labels : List T.Name) (i : T.Item)
    → FramesMost (item_of_list_tokens i + frames_tokens fs) (N.with_declaration fs labels i)
declaration_most fs [] i = item_most fs i
declaration_most fs (l ∷ ls) i = tt

-- ---- ends

inner_most : (outer : List T.Item) (fs : List Frame) (i : T.Item)
    → NestMost (item_of_list_tokens i + (list_tokens outer + frames_tokens fs)) (N.with_inner_procedure outer fs i)
inner_most outer [] i = let a = list_append outer (i ∷ []) in omega (arith, a)
inner_most outer (f ∷ fs) i =
    nest_more _ _ (N.with_frames outer (N.with_item (f ∷ fs) i)) (omega arith)
    (frames_nest (item_of_list_tokens i + frames_tokens (f ∷ fs)) outer (N.with_item (f ∷ fs) i) (item_most (f ∷ fs) i))

ended_most : (outer : List T.Item) (o : Opener) (body : T.Items) (fs : List Frame)
    → NestMost (2 + opener_tokens o + items_tokens body + (list_tokens outer + frames_tokens fs))
    (N.ended outer o body fs)
ended_most outer (N.OfProcedure h) body fs =
    nest_more _ _ (N.with_inner_procedure outer fs (T.Procedure h body)) (omega arith)
    (inner_most outer fs (T.Procedure h body))
ended_most outer (N.OfGroup p) body fs = let a = completed_most (T.Do body p) fs in omega (arith, a)
ended_most outer (N.OfWhile e p) body fs = let a = completed_most (T.DoWhile e body p) fs in omega (arith, a)
ended_most outer (N.OfCount c p) body fs = let a = completed_most (T.DoCount c body p) fs in omega (arith, a)
ended_most outer (N.OfBegin p) body fs = let a = completed_most (T.Begin body p) fs in omega (arith, a)

end_labels_are : (labels : List T.Name) (p : Place) → list_tokens (N.end_labels labels p) ≡ labels_tokens labels
end_labels_are [] p = refl
end_labels_are (l ∷ ls) p = omega arith

end_most : (outer : List T.Item) (fs : List Frame) (names : List T.Name) (p : Place)
    → NestMost (2 + labels_tokens names + (list_tokens outer + frames_tokens fs)) (N.with_end outer fs names p)
end_most outer [] names p = tt
end_most outer (N.InList o labels items pending ∷ fs) names p =
    let body = items ++ N.end_labels names p in
    let a = items_are body in
    let b = list_append items (N.end_labels names p) in
    let c = end_labels_are names p in
    nest_more _ _ (N.ended outer o (items_of_list body) fs) (omega (arith, a, b, c))
    (ended_most outer o (items_of_list body) fs)
end_most outer (N.ThenDue e q ∷ fs) names p = tt
end_most outer (N.ThenWhole e u q ∷ fs) names p = tt
end_most outer (N.ElseDue e u q ∷ fs) names p = tt
end_most outer (N.UnitDue c q ∷ fs) names p = tt

else_most : (fs : List Frame) (labels : List T.Name) → FramesMost (1 + frames_tokens fs) (N.with_else fs labels)
else_most [] labels = tt
else_most (N.InList o ls items pending ∷ fs) labels = tt
else_most (N.ThenDue e p ∷ fs) labels = tt
else_most (N.ThenWhole e u p ∷ fs) [] = omega arith
else_most (N.ThenWhole e u p ∷ fs) (l ∷ ls) = tt
else_most (N.ElseDue e u p ∷ fs) labels = tt
else_most (N.UnitDue c p ∷ fs) labels = tt

system_most : (fs : List Frame) (labels : List T.Name) → FramesMost (2 + frames_tokens fs) (N.with_system fs labels)
system_most [] labels = tt
system_most (N.InList o ls items pending ∷ fs) labels = tt
system_most (N.ThenDue e p ∷ fs) labels = tt
system_most (N.ThenWhole e u p ∷ fs) labels = tt
system_most (N.ElseDue e u p ∷ fs) labels = tt
system_most (N.UnitDue c p ∷ fs) [] = let a = completed_most (T.OnSystem c p) fs in omega (arith, a)
system_most (N.UnitDue c p ∷ fs) (l ∷ ls) = tt

-- ---- any head

statement_nest : (n : Nest) (labels : List T.Name) (h : Head) (k : ℕ)
    → FramesMost (k + (labels_tokens labels + frames_tokens (settled n.frames))) (N.with_statement
    (settled n.frames) labels h)
    → NestMost (k + (labels_tokens labels + nest_tokens n)) (N.with_frames n.outer (N.with_statement
    (settled n.frames) labels h))
statement_nest n labels h k most =
    let s = settled_most n.frames in
    nest_more _ _ (N.with_frames n.outer (N.with_statement (settled n.frames) labels h)) (omega (arith, s))
    (frames_nest (k + (labels_tokens labels + frames_tokens (settled n.frames))) n.outer _ most)

entered_most : (n : Nest) (labels : List T.Name) (h : Head)
    → NestMost (head_tokens h + (labels_tokens labels + nest_tokens n)) (entered n labels h)
entered_most n labels (H.ProcedureFront p parameters options) =
    let s = settled_most n.frames in
    let head : T.ProcedureHead = record { labels = labels; place = p; parameters = parameters; options = options } in
    nest_more _ _ (N.with_labelled_procedure n.outer (settled n.frames) labels head) (omega (arith, s))
    (labelled_most n.outer (settled n.frames) labels head)
entered_most n labels (H.Declaring ds p) =
    let s = settled_most n.frames in
    let fs = N.with_declaration (settled n.frames) labels (T.Declare ds p) in
    nest_more _ _ (N.with_frames n.outer fs) (omega (arith, s))
    (frames_nest _ n.outer fs (declaration_most (settled n.frames) labels (T.Declare ds p)))
entered_most n labels (H.EndOf name p) =
    let s = settled_most n.frames in
    nest_more _ _ (N.with_end n.outer (settled n.frames) labels p) (omega (arith, s))
    (end_most n.outer (settled n.frames) labels p)
entered_most n labels (H.Else p) =
    let fs = N.with_else n.frames labels in
    nest_more _ _ (N.with_frames n.outer fs) (omega arith) (frames_nest _ n.outer fs (else_most n.frames labels))
entered_most n labels (H.System p) =
    let s = settled_most n.frames in
    let fs = N.with_system (settled n.frames) labels in
    nest_more _ _ (N.with_frames n.outer fs) (omega (arith, s))
    (frames_nest _ n.outer fs (system_most (settled n.frames) labels))
entered_most n labels (H.Simple x) =
    statement_nest n labels (H.Simple x) (stmt_tokens x) (simple_most (settled n.frames) labels x)
entered_most n labels (H.IfThen e p) =
    let h = H.IfThen e p in
    statement_nest n labels h (2 + expr_tokens e)
    (due_most _ (begun (settled n.frames) labels h) (N.ThenDue e p) (begun_most (settled n.frames) labels h))
entered_most n labels (H.On c p) =
    let h = H.On c p in
    statement_nest n labels h (1 + condition_tokens c)
    (due_most _ (begun (settled n.frames) labels h) (N.UnitDue c p) (begun_most (settled n.frames) labels h))
entered_most n labels (H.DoGroup p) =
    let h = H.DoGroup p in
    statement_nest n labels h 2
    (opened_most _ (begun (settled n.frames) labels h) (N.OfGroup p) labels (begun_most (settled n.frames) labels h))
entered_most n labels (H.DoWhileGroup e p) =
    let h = H.DoWhileGroup e p in
    statement_nest n labels h (5 + expr_tokens e)
    (opened_most _ (begun (settled n.frames) labels h) (N.OfWhile e p) labels (begun_most (settled n.frames) labels h))
entered_most n labels (H.DoCountGroup c p) =
    let h = H.DoCountGroup c p in
    statement_nest n labels h (2 + counting_tokens c)
    (opened_most _ (begun (settled n.frames) labels h) (N.OfCount c p) labels (begun_most (settled n.frames) labels h))
entered_most n labels (H.BeginBlock p) =
    let h = H.BeginBlock p in
    statement_nest n labels h 2
    (opened_most _ (begun (settled n.frames) labels h) (N.OfBegin p) labels (begun_most (settled n.frames) labels h))

-- ---- sources

labels_spelled : {s : List ℕ} {ts rest : List Token} {ls : List T.Name} → SpellsLabels s ts ls rest
    → labels_tokens ls + length rest ≤ length ts
labels_spelled (L.no_label ts none) = omega arith
labels_spelled (L.label ts after rest t u word ls is ahead more) =
    let a = ap length is in
    let b = labels_spelled more in
    omega (arith, a, b)

-- what is read of tokens, where a tree comes of them
abbrev TreeMost : ℕ → Option T.Tree → Type 0
TreeMost n None = Unit {0}
TreeMost n (Some tree) = tree_tokens tree ≤ n

tree_more : (m n : ℕ) (tree : Option T.Tree) → m ≤ n → TreeMost m tree → TreeMost n tree
tree_more m n None h k = tt
tree_more m n (Some tree) h k = omega (arith, h, k)

known_most : (m : ℕ) (o : Option Nest) (nest : Nest) → o ≡ Some nest → NestMost m o → nest_tokens nest ≤ m
known_most m o nest h k = subst (NestMost m) h k

read_most : {s : List ℕ} {n : Nest} {ts : List Token} {fs : List SourceFault} {tree : Option T.Tree}
    → Reads s n ts fs tree → TreeMost (nest_tokens n + length ts) tree
read_most (L.all_read n none) =
    let a = items_are n.outer in
    omega (arith, a)
read_most (L.too_early n ts ls sp why) = tt
read_most (L.head n n' ts mid rest ls h m fs tree labels sp is more') =
    let a = labels_spelled labels in
    let b = head_spelled sp in
    let c = known_most _ _ n' is (entered_most n ls h) in
    tree_more _ _ tree (omega (arith, a, b, c)) (read_most more')
read_most (L.misplaced_head n ts mid rest ls h m t p labels sp is at) = tt
read_most (L.left_out n ts mid rest ls m t labels sp) = tt
read_most (L.no_head n ts mid ls t p labels no_head no_left at) = tt

-- ---- the law

pub trees_spelled : TreesSpelled
trees_spelled s tokens tree h = tree_more _ (length tokens) (Some tree) (omega arith) (read_most h)
