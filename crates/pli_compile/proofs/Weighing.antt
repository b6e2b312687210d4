-- What is open while a source is read weighs no more than the heads that opened it.
use Rattle.std.proofs.Common.{◌≡◌, ℕ, ◌+◌, ◌^◌, ◌<◌, ◌≤◌, List, [], ◌∷◌, ◌++◌, Bool, true, false, Option, Some, None, refl, ap, arith}
use Rattle.std.specs.Prelude.{if◌then◌else◌, not, ◌||◌}
use Rattle.pli_language.specs.Tree as T
use Rattle.pli_language.specs.Heads as H
use Rattle.pli_language.specs.Nesting as N
use Rattle.pli_language.specs.Nesting.{completed, closed}
use Rattle.pli_headline.specs.FirstPath.{stmt_weight, stmt_line, item_weight, items_weight, ItemLines, SmallLines}
use Rattle.pli_compile.proofs.EatingHeads.{head_weight, HeadLines}

-- ---- lists of items

abbrev pub list_weight : List T.Item → ℕ
list_weight [] = 0
list_weight (i ∷ is) = item_weight i + list_weight is

abbrev pub ListLines : List T.Item → Type 0
ListLines [] = Unit {0}
ListLines (i ∷ is) = ItemLines i × ListLines is

pub weight_snoc : (is : List T.Item) (i : T.Item) → list_weight (is ++ i ∷ []) ≡ list_weight is + item_weight i
weight_snoc [] i = omega arith
weight_snoc (j ∷ is) i = let e = weight_snoc is i in omega (arith, e)

pub lines_snoc : (is : List T.Item) (i : T.Item) → ListLines is → ItemLines i → ListLines (is ++ i ∷ [])
lines_snoc [] i h k = (k, tt)
lines_snoc (j ∷ is) i h k = (h.0, lines_snoc is i h.1 k)

pub weight_of_list : (is : List T.Item) → items_weight (N.items_of_list is) ≡ list_weight is
weight_of_list [] = refl
weight_of_list (i ∷ is) = ap (λ k. item_weight i + k) (weight_of_list is)

pub lines_of_list : (is : List T.Item) → ListLines is → SmallLines (N.items_of_list is)
lines_of_list [] h = tt
lines_of_list (i ∷ is) h = (h.0, lines_of_list is h.1)

-- ---- what is open

abbrev pub opener_weight : N.Opener → ℕ
opener_weight (N.OfProcedure h) = 0
opener_weight _ = 1

abbrev pub OpenerLine : N.Opener → Type 0
OpenerLine (N.OfProcedure h) = h.place.line < 2 ^ 31
OpenerLine _ = Unit {0}

abbrev pub frame_weight : N.Frame → ℕ
frame_weight (N.InList o labels items pending) = opener_weight o + list_weight items
frame_weight _ = 1

abbrev pub FrameLines : N.Frame → Type 0
FrameLines (N.InList o labels items pending) = OpenerLine o × ListLines items
FrameLines _ = Unit {0}

abbrev pub frames_weight : List N.Frame → ℕ
frames_weight [] = 0
frames_weight (f ∷ fs) = frame_weight f + frames_weight fs

abbrev pub FramesLines : List N.Frame → Type 0
FramesLines [] = Unit {0}
FramesLines (f ∷ fs) = FrameLines f × FramesLines fs

abbrev pub nest_weight : N.Nest → ℕ
nest_weight n = list_weight n.outer + frames_weight n.frames

abbrev pub NestLines : N.Nest → Type 0
NestLines n = ListLines n.outer × FramesLines n.frames

-- what is open behind a part of a head weighs at most so much more
pub record Keeps (before behind : List N.Frame) (k : ℕ) : Type 0 where
  pub weighs : frames_weight behind ≤ frames_weight before + k
  pub lines : FramesLines before → FramesLines behind

same : {fs : List N.Frame} → Keeps fs fs 0
same = record { weighs = omega arith; lines = λ h. h }

-- ---- statements that are whole

pub no_line : 0 < 2 ^ 31
no_line = omega arith

pub completed_keeps : (x : T.Stmt) → stmt_line x < 2 ^ 31 → (fs : List N.Frame) → Keeps fs (completed x fs) (stmt_weight x)
unfolding completed
completed_keeps x l [] = record { weighs = omega arith; lines = λ h. tt }
completed_keeps x l (N.InList o labels items pending ∷ fs) =
    let e = weight_snoc items (T.Statement pending x) in
    record { weighs = omega (arith, e); lines = λ h. ((h.0.0, lines_snoc items (T.Statement pending x) h.0.1 l), h.1) }
completed_keeps x l (N.ThenDue e p ∷ fs) = record { weighs = omega arith; lines = λ h. (tt, h.1) }
completed_keeps x l (N.ThenWhole e u p ∷ fs) = record { weighs = omega arith; lines = λ h. h }
completed_keeps x l (N.ElseDue e u p ∷ fs) =
    let k = completed_keeps (T.IfElse e u x p) no_line fs in
    record { weighs = let w = k.weighs in omega (arith, w); lines = λ h. k.lines h.1 }
completed_keeps x l (N.UnitDue c p ∷ fs) =
    let k = completed_keeps (T.OnUnit c x p) no_line fs in
    record { weighs = let w = k.weighs in omega (arith, w); lines = λ h. k.lines h.1 }

closed_keeps : (x : T.Stmt) → stmt_line x < 2 ^ 31 → (fs : List N.Frame) → Keeps fs (closed x fs) (stmt_weight x)
unfolding closed
closed_keeps x l [] = record { weighs = omega arith; lines = λ h. tt }
closed_keeps x l (N.InList o labels items pending ∷ fs) =
    let e = weight_snoc items (T.Statement pending x) in
    record { weighs = omega (arith, e); lines = λ h. ((h.0.0, lines_snoc items (T.Statement pending x) h.0.1 l), h.1) }
closed_keeps x l (N.ThenDue e p ∷ fs) =
    let k = closed_keeps (T.If e x p) no_line fs in
    record { weighs = let w = k.weighs in omega (arith, w); lines = λ h. k.lines h.1 }
closed_keeps x l (N.ThenWhole e u p ∷ fs) = record { weighs = omega arith; lines = λ h. h }
closed_keeps x l (N.ElseDue e u p ∷ fs) =
    let k = closed_keeps (T.IfElse e u x p) no_line fs in
    record { weighs = let w = k.weighs in omega (arith, w); lines = λ h. k.lines h.1 }
closed_keeps x l (N.UnitDue c p ∷ fs) =
    let k = closed_keeps (T.OnUnit c x p) no_line fs in
    record { weighs = let w = k.weighs in omega (arith, w); lines = λ h. k.lines h.1 }

pub settled_keeps : (fs : List N.Frame) → Keeps fs (N.settled fs) 0
settled_keeps [] = same
settled_keeps (N.ThenWhole e u p ∷ fs) =
    let k = closed_keeps (T.If e u p) no_line fs in
    record { weighs = let w = k.weighs in omega (arith, w); lines = λ h. k.lines h.1 }
settled_keeps (N.InList o labels items pending ∷ fs) = same
settled_keeps (N.ThenDue e p ∷ fs) = same
settled_keeps (N.ElseDue e u p ∷ fs) = same
settled_keeps (N.UnitDue c p ∷ fs) = same

-- ---- where statements begin

-- what there is, if there is something, weighs at most so much more
abbrev pub Leads : List N.Frame → Option (List N.Frame) → ℕ → Type 0
Leads before None k = Unit {0}
Leads before (Some behind) k = Keeps before behind k

if_leads : (fs behind : List N.Frame) (test : Bool) (k : ℕ) → Keeps fs behind k → Leads fs (if test then Some behind else None) k
if_leads fs behind true k h = h
if_leads fs behind false k h = tt

begun_leads : (fs : List N.Frame) (names : List T.Name) (h : H.Head) → Leads fs (N.begun fs names h) 0
begun_leads [] names h = tt
begun_leads (N.InList o labels items pending ∷ fs) names h = record { weighs = omega arith; lines = λ k. k }
begun_leads (N.ThenDue e p ∷ fs) [] h = same
begun_leads (N.ThenDue e p ∷ fs) (n ∷ ns) h = tt
begun_leads (N.ThenWhole e u p ∷ fs) [] h = tt
begun_leads (N.ThenWhole e u p ∷ fs) (n ∷ ns) h = tt
begun_leads (N.ElseDue e u p ∷ fs) [] h = same
begun_leads (N.ElseDue e u p ∷ fs) (n ∷ ns) h = tt
begun_leads (N.UnitDue c p ∷ fs) [] h = if_leads (N.UnitDue c p ∷ fs) (N.UnitDue c p ∷ fs) (N.is_on_unit h) 0 same
begun_leads (N.UnitDue c p ∷ fs) (n ∷ ns) h = tt

whole_leads : (fs : List N.Frame) (o : Option (List N.Frame)) (x : T.Stmt) → stmt_line x < 2 ^ 31 → Leads fs o 0 → Leads fs (N.whole o x) (stmt_weight x)
whole_leads fs None x l h = tt
whole_leads fs (Some behind) x l h =
    let k = completed_keeps x l behind in
    record { weighs = let v = h.weighs in let w = k.weighs in omega (arith, v, w); lines = λ m. k.lines (h.lines m) }

opened_leads : (fs : List N.Frame) (o : Option (List N.Frame)) (opener : N.Opener) (labels : List T.Name) → OpenerLine opener → Leads fs o 0 → Leads fs (N.opened o opener labels) (opener_weight opener)
opened_leads fs None opener labels l h = tt
opened_leads fs (Some behind) opener labels l h =
    record { weighs = let v = h.weighs in omega (arith, v); lines = λ m. ((l, tt), h.lines m) }

due_leads : (fs : List N.Frame) (o : Option (List N.Frame)) (f : N.Frame) → FrameLines f → Leads fs o 0 → Leads fs (N.due o f) (frame_weight f)
due_leads fs None f l h = tt
due_leads fs (Some behind) f l h =
    record { weighs = let v = h.weighs in omega (arith, v); lines = λ m. (l, h.lines m) }

test_leads : (fs : List N.Frame) (test : Bool) (o : Option (List N.Frame)) (k : ℕ) → Leads fs o k → Leads fs (if test then o else None) k
test_leads fs true o k h = h
test_leads fs false o k h = tt

simple_leads : (fs : List N.Frame) (labels : List T.Name) (x : T.Stmt) → stmt_line x < 2 ^ 31 → Leads fs (N.with_statement fs labels (H.Simple x)) (stmt_weight x)
simple_leads fs labels x l =
    test_leads fs (not (N.is_return (H.Simple x)) || N.may_return fs) (N.whole (N.begun fs labels (H.Simple x)) x) (stmt_weight x)
    (whole_leads fs (N.begun fs labels (H.Simple x)) x l (begun_leads fs labels (H.Simple x)))

pub statement_leads : (fs : List N.Frame) (labels : List T.Name) (h : H.Head) → HeadLines h → Leads fs (N.with_statement fs labels h) (head_weight h)
statement_leads fs labels (H.Simple x) l = simple_leads fs labels x l
statement_leads fs labels (H.IfThen e p) l = due_leads fs (N.begun fs labels (H.IfThen e p)) (N.ThenDue e p) tt (begun_leads fs labels (H.IfThen e p))
statement_leads fs labels (H.DoGroup p) l = opened_leads fs (N.begun fs labels (H.DoGroup p)) (N.OfGroup p) labels tt (begun_leads fs labels (H.DoGroup p))
statement_leads fs labels (H.DoWhileGroup e p) l = opened_leads fs (N.begun fs labels (H.DoWhileGroup e p)) (N.OfWhile e p) labels tt (begun_leads fs labels (H.DoWhileGroup e p))
statement_leads fs labels (H.DoCountGroup c p) l = opened_leads fs (N.begun fs labels (H.DoCountGroup c p)) (N.OfCount c p) labels tt (begun_leads fs labels (H.DoCountGroup c p))
statement_leads fs labels (H.BeginBlock p) l = opened_leads fs (N.begun fs labels (H.BeginBlock p)) (N.OfBegin p) labels tt (begun_leads fs labels (H.BeginBlock p))
statement_leads fs labels (H.On c p) l = due_leads fs (N.begun fs labels (H.On c p)) (N.UnitDue c p) tt (begun_leads fs labels (H.On c p))
statement_leads fs labels (H.ProcedureFront p parameters options) l = tt
statement_leads fs labels (H.Declaring ds p) l = tt
statement_leads fs labels (H.Else p) l = tt
statement_leads fs labels (H.System p) l = tt
statement_leads fs labels (H.EndOf name p) l = tt

pub item_leads : (fs : List N.Frame) (i : T.Item) → ItemLines i → Leads fs (N.with_item fs i) (item_weight i)
item_leads [] i l = tt
item_leads (N.InList o labels items pending ∷ fs) i l =
    let e = weight_snoc items i in
    record { weighs = omega (arith, e); lines = λ h. ((h.0.0, lines_snoc items i h.0.1 l), h.1) }
item_leads (N.ThenDue e p ∷ fs) i l = tt
item_leads (N.ThenWhole e u p ∷ fs) i l = tt
item_leads (N.ElseDue e u p ∷ fs) i l = tt
item_leads (N.UnitDue c p ∷ fs) i l = tt

pub declaration_leads : (fs : List N.Frame) (labels : List T.Name) (i : T.Item) → ItemLines i → Leads fs (N.with_declaration fs labels i) (item_weight i)
declaration_leads fs [] i l = item_leads fs i l
declaration_leads fs (n ∷ ns) i l = tt

pub else_leads : (fs : List N.Frame) (labels : List T.Name) → Leads fs (N.with_else fs labels) 0
else_leads [] labels = tt
else_leads (N.ThenWhole e u p ∷ fs) [] = record { weighs = omega arith; lines = λ h. h }
else_leads (N.ThenWhole e u p ∷ fs) (n ∷ ns) = tt
else_leads (N.InList o labels items pending ∷ fs) names = tt
else_leads (N.ThenDue e p ∷ fs) labels = tt
else_leads (N.ElseDue e u p ∷ fs) labels = tt
else_leads (N.UnitDue c p ∷ fs) labels = tt

pub system_leads : (fs : List N.Frame) (labels : List T.Name) → Leads fs (N.with_system fs labels) 0
system_leads [] labels = tt
system_leads (N.UnitDue c p ∷ fs) [] =
    let k = completed_keeps (T.OnSystem c p) no_line fs in
    record { weighs = let w = k.weighs in omega (arith, w); lines = λ h. k.lines h.1 }
system_leads (N.UnitDue c p ∷ fs) (n ∷ ns) = tt
system_leads (N.InList o labels items pending ∷ fs) names = tt
system_leads (N.ThenDue e p ∷ fs) labels = tt
system_leads (N.ThenWhole e u p ∷ fs) labels = tt
system_leads (N.ElseDue e u p ∷ fs) labels = tt
