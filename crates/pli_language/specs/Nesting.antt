-- How heads nest: which head may stand where, and the tree that they make. A nest holds the outer procedures that are
-- whole, and what is still open around a place, innermost first, each with what it has so far.
use Rattle.std.specs.Prelude.{ℕ, suc, List, [], ◌∷◌, ◌++◌, Option, Some, None, Bool, true, false, not, ◌||◌, nat_le, if◌then◌else◌}
use Rattle.std.specs.List.{list_any}
use Rattle.pli_language.specs.declared.condition.Condition.{Condition}
use Rattle.pli_language.specs.declared.expr.Place.{Place}
use Rattle.pli_language.specs.declared.fault.SourceFault.{SourceFault}
use Rattle.pli_language.specs.declared.fault.SourceKind.TheVariants.{TooLarge, EndName}
use Rattle.pli_language.specs.Heads.{Head, ProcedureFront, Declaring, Simple, IfThen, Else, DoGroup, DoWhileGroup, DoCountGroup, BeginBlock, On, System, EndOf}
use Rattle.pli_language.specs.Keywords.{same_bytes}
use Rattle.pli_language.specs.Marks.{fault_at}
use Rattle.pli_language.specs.Tree.{Name, Expr, ProcedureHead, Counting, Stmt, If, IfElse, Do, DoWhile, DoCount, Begin, OnSystem, OnUnit, Return, Revert, Item, Procedure, Declare, Statement, EndLabels, Items, NoItem, ItemThen}

-- what a list belongs to
pub data Opener : Type 0 where
  OfProcedure : ProcedureHead → Opener
  OfGroup : (place : Place) → Opener
  OfWhile : (condition : Expr) → (place : Place) → Opener
  OfCount : (counting : Counting) → (place : Place) → Opener
  OfBegin : (place : Place) → Opener

-- what is open: a list, with the labels of what it belongs to, its items so far, and the labels of the statement that is
-- being read; an IF, ELSE or ON whose unit is due; an IF whose unit is whole, so that ELSE may follow
pub data Frame : Type 0 where
  InList : (opener : Opener) → (labels : List Name) → (items : List Item) → (pending : List Name) → Frame
  ThenDue : (condition : Expr) → (place : Place) → Frame
  ThenWhole : (condition : Expr) → (unit : Stmt) → (place : Place) → Frame
  ElseDue : (condition : Expr) → (unit : Stmt) → (place : Place) → Frame
  UnitDue : (condition : Condition) → (place : Place) → Frame

pub record Nest : Type 0 where
  pub outer : List Item
  pub frames : List Frame

abbrev pub outermost : Nest
outermost = record { outer = []; frames = [] }

abbrev pub items_of_list : List Item → Items
items_of_list [] = NoItem
items_of_list (i ∷ is) = ItemThen i (items_of_list is)

-- ---- statements that are whole

-- a statement is whole; an IF with it as its unit may still get an ELSE
unfoldable pub completed : Stmt → List Frame → List Frame
completed x [] = []
completed x (InList o labels items pending ∷ fs) = InList o labels (items ++ Statement pending x ∷ []) [] ∷ fs
completed x (ThenDue e p ∷ fs) = ThenWhole e x p ∷ fs
completed x (ThenWhole e u p ∷ fs) = ThenWhole e u p ∷ fs
completed x (ElseDue e u p ∷ fs) = completed (IfElse e u x p) fs
completed x (UnitDue c p ∷ fs) = completed (OnUnit c x p) fs

-- a statement is whole, and no ELSE comes
unfoldable pub closed : Stmt → List Frame → List Frame
closed x [] = []
closed x (InList o labels items pending ∷ fs) = InList o labels (items ++ Statement pending x ∷ []) [] ∷ fs
closed x (ThenDue e p ∷ fs) = closed (If e x p) fs
closed x (ThenWhole e u p ∷ fs) = ThenWhole e u p ∷ fs
closed x (ElseDue e u p ∷ fs) = closed (IfElse e u x p) fs
closed x (UnitDue c p ∷ fs) = closed (OnUnit c x p) fs

-- what is open where no ELSE comes
abbrev pub settled : List Frame → List Frame
settled (ThenWhole e u p ∷ fs) = closed (If e u p) fs
settled fs = fs

-- ---- where a head may stand

abbrev pub is_block : Opener → Bool
is_block (OfProcedure h) = true
is_block (OfBegin p) = true
is_block _ = false

-- no on-unit stands between here and the procedure around it
abbrev pub may_return : List Frame → Bool
may_return [] = false
may_return (UnitDue c p ∷ fs) = false
may_return (InList (OfProcedure h) labels items pending ∷ fs) = true
may_return (f ∷ fs) = may_return fs

abbrev pub is_return : Head → Bool
is_return (Simple (Return e p)) = true
is_return _ = false

-- a block, or a simple statement other than RETURN and REVERT
abbrev pub is_on_unit : Head → Bool
is_on_unit (BeginBlock p) = true
is_on_unit (Simple (Return e p)) = false
is_on_unit (Simple (Revert c p)) = false
is_on_unit (Simple x) = true
is_on_unit _ = false

-- what is open where a statement with these labels begins: labels stand in lists alone
abbrev pub begun : List Frame → List Name → Head → Option (List Frame)
begun (InList o labels items pending ∷ fs) names h = Some (InList o labels items names ∷ fs)
begun (ThenDue e p ∷ fs) [] h = Some (ThenDue e p ∷ fs)
begun (ElseDue e u p ∷ fs) [] h = Some (ElseDue e u p ∷ fs)
begun (UnitDue c p ∷ fs) [] h = if is_on_unit h then Some (UnitDue c p ∷ fs) else None
begun _ _ h = None

abbrev pub opened : Option (List Frame) → Opener → List Name → Option (List Frame)
opened None o labels = None
opened (Some fs) o labels = Some (InList o labels [] [] ∷ fs)

abbrev pub due : Option (List Frame) → Frame → Option (List Frame)
due None f = None
due (Some fs) f = Some (f ∷ fs)

abbrev pub whole : Option (List Frame) → Stmt → Option (List Frame)
whole None x = None
whole (Some fs) x = Some (completed x fs)

-- a statement with these labels, or the front of one
abbrev pub with_statement : List Frame → List Name → Head → Option (List Frame)
with_statement fs labels (Simple x) = if not (is_return (Simple x)) || may_return fs then whole (begun fs labels (Simple x)) x else None
with_statement fs labels (IfThen e p) = due (begun fs labels (IfThen e p)) (ThenDue e p)
with_statement fs labels (DoGroup p) = opened (begun fs labels (DoGroup p)) (OfGroup p) labels
with_statement fs labels (DoWhileGroup e p) = opened (begun fs labels (DoWhileGroup e p)) (OfWhile e p) labels
with_statement fs labels (DoCountGroup c p) = opened (begun fs labels (DoCountGroup c p)) (OfCount c p) labels
with_statement fs labels (BeginBlock p) = opened (begun fs labels (BeginBlock p)) (OfBegin p) labels
with_statement fs labels (On c p) = due (begun fs labels (On c p)) (UnitDue c p)
with_statement fs labels _ = None

abbrev pub with_frames : List Item → Option (List Frame) → Option Nest
with_frames outer None = None
with_frames outer (Some fs) = Some (record { outer = outer; frames = fs })

-- a procedure, in the outermost list of a block or outside of all
abbrev pub with_procedure : List Item → List Frame → ProcedureHead → Option Nest
with_procedure outer [] h = Some (record { outer = outer; frames = InList (OfProcedure h) h.labels [] [] ∷ [] })
with_procedure outer (InList o labels items pending ∷ fs) h = if is_block o then Some (record { outer = outer; frames = InList (OfProcedure h) h.labels [] [] ∷ InList o labels items pending ∷ fs }) else None
with_procedure outer _ h = None

abbrev pub with_item : List Frame → Item → Option (List Frame)
with_item (InList o labels items pending ∷ fs) i = Some (InList o labels (items ++ i ∷ []) pending ∷ fs)
with_item _ i = None

abbrev pub with_inner_procedure : List Item → List Frame → Item → Option Nest
with_inner_procedure outer [] i = Some (record { outer = outer ++ i ∷ []; frames = [] })
with_inner_procedure outer (f ∷ fs) i = with_frames outer (with_item (f ∷ fs) i)

-- what a list belongs to is whole
abbrev pub ended : List Item → Opener → Items → List Frame → Option Nest
ended outer (OfProcedure h) body fs = with_inner_procedure outer fs (Procedure h body)
ended outer (OfGroup p) body fs = Some (record { outer = outer; frames = completed (Do body p) fs })
ended outer (OfWhile e p) body fs = Some (record { outer = outer; frames = completed (DoWhile e body p) fs })
ended outer (OfCount c p) body fs = Some (record { outer = outer; frames = completed (DoCount c body p) fs })
ended outer (OfBegin p) body fs = Some (record { outer = outer; frames = completed (Begin body p) fs })

-- the labels of an END stand last in the list that it closes
abbrev pub end_labels : List Name → Place → List Item
end_labels [] p = []
end_labels (l ∷ ls) p = EndLabels (l ∷ ls) p ∷ []

abbrev pub with_end : List Item → List Frame → List Name → Place → Option Nest
with_end outer (InList o labels items pending ∷ fs) names p = ended outer o (items_of_list (items ++ end_labels names p)) fs
with_end outer _ names p = None

abbrev pub with_else : List Frame → List Name → Option (List Frame)
with_else (ThenWhole e u p ∷ fs) [] = Some (ElseDue e u p ∷ fs)
with_else _ _ = None

abbrev pub with_system : List Frame → List Name → Option (List Frame)
with_system (UnitDue c p ∷ fs) [] = Some (completed (OnSystem c p) fs)
with_system _ _ = None

abbrev pub with_declaration : List Frame → List Name → Item → Option (List Frame)
with_declaration fs [] i = with_item fs i
with_declaration fs (l ∷ ls) i = None

abbrev pub with_labelled_procedure : List Item → List Frame → List Name → ProcedureHead → Option Nest
with_labelled_procedure outer fs [] h = None
with_labelled_procedure outer fs (l ∷ ls) h = with_procedure outer fs h

-- the nest behind a head with these labels, none where it may not stand
abbrev pub entered : Nest → List Name → Head → Option Nest
entered n labels (ProcedureFront p parameters options) = with_labelled_procedure n.outer (settled n.frames) labels (record { labels = labels; place = p; parameters = parameters; options = options })
entered n labels (Declaring ds p) = with_frames n.outer (with_declaration (settled n.frames) labels (Declare ds p))
entered n labels (EndOf name p) = with_end n.outer (settled n.frames) labels p
entered n labels (Else p) = with_frames n.outer (with_else n.frames labels)
entered n labels (System p) = with_frames n.outer (with_system (settled n.frames) labels)
entered n labels h = with_frames n.outer (with_statement (settled n.frames) labels h)

-- ---- what the limits say, and the names of END

abbrev pub most_units : ℕ
most_units = 64

abbrev pub most_blocks : ℕ
most_blocks = 16

-- the groups, IFs and on-units that are open, through blocks
abbrev pub units : List Frame → ℕ
units [] = 0
units (InList o labels items pending ∷ fs) = if is_block o then units fs else suc (units fs)
units (ThenWhole e u p ∷ fs) = units fs
units (f ∷ fs) = suc (units fs)

-- the procedures and begin blocks that are open
abbrev pub blocks : List Frame → ℕ
blocks [] = 0
blocks (InList o labels items pending ∷ fs) = if is_block o then suc (blocks fs) else blocks fs
blocks (f ∷ fs) = blocks fs

abbrev pub too_many : ℕ → ℕ → Place → List SourceFault
too_many most count p = if nat_le most count then fault_at p TooLarge ∷ [] else []

abbrev pub labels_ended : List Frame → List Name
labels_ended (InList o labels items pending ∷ fs) = labels
labels_ended _ = []

-- the name behind END is a label of what it ends
abbrev pub end_name_faults : Option Name → List Name → List SourceFault
end_name_faults None labels = []
end_name_faults (Some n) labels = if list_any (λ l. same_bytes l.letters n.letters) labels then [] else fault_at n.place EndName ∷ []

-- what a head that may stand breaks where these are open
abbrev pub nest_faults : List Frame → Head → List SourceFault
nest_faults fs (ProcedureFront p parameters options) = too_many most_blocks (blocks fs) p
nest_faults fs (BeginBlock p) = too_many most_blocks (blocks fs) p
nest_faults fs (IfThen e p) = too_many most_units (units fs) p
nest_faults fs (DoGroup p) = too_many most_units (units fs) p
nest_faults fs (DoWhileGroup e p) = too_many most_units (units fs) p
nest_faults fs (DoCountGroup c p) = too_many most_units (units fs) p
nest_faults fs (On c p) = too_many most_units (units fs) p
nest_faults fs (EndOf name p) = end_name_faults name (labels_ended fs)
nest_faults fs _ = []

-- ---- where no head may stand

-- behind labels where none may stand: at the first of them; else at the first token behind them
abbrev pub misplaced : List Frame → List Name → Place → Place
misplaced (ThenDue e p ∷ fs) (l ∷ ls) at = l.place
misplaced (ElseDue e u p ∷ fs) (l ∷ ls) at = l.place
misplaced (UnitDue c p ∷ fs) (l ∷ ls) at = l.place
misplaced fs labels at = at
