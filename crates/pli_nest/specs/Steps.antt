-- What heads make of the frames around them, part by part.
use Rattle.std.specs.Prelude.{List, [], ◌∷◌, ◌++◌, Bool, true, false, not, ◌&&◌, ◌||◌, Option, Some, None, if◌then◌else◌}
use Rattle.pli_language.specs.declared.expr.Place.{Place}
use Rattle.pli_language.specs.declared.fault.SourceFault.{SourceFault}
use Rattle.pli_language.specs.Keywords.{same_bytes}
use Rattle.pli_language.specs.Heads.{Head, ProcedureFront, Declaring, Simple, IfThen, Else, DoGroup, DoWhileGroup, DoCountGroup, BeginBlock, On, System, EndOf}
use Rattle.pli_language.specs.Tree.{Name, ProcedureHead, Stmt, If, IfElse, OnUnit, Return, Revert, Item, Declare, Statement, Items, ItemThen, Tree}
use Rattle.pli_language.specs.Nesting.{Nest, Opener, OfProcedure, OfGroup, OfWhile, OfCount, OfBegin, Frame, InList, ThenDue, ThenWhole, ElseDue, UnitDue, is_block, completed, closed, settled, with_frames, due, opened, whole, may_return, with_labelled_procedure, with_declaration, with_end, with_system, misplaced, nest_faults, end_name_faults, entered, items_of_list}

-- ---- whole statements

-- what a whole statement makes of a frame: another one, or a whole statement in turn
pub data Step : Type 0 where
  Stays : Frame → Step
  Ends : Stmt → Step

-- an IF with the statement as its unit may still get an ELSE, or not
abbrev pub completing : Bool → Stmt → Frame → Step
completing else_may x (InList o labels items pending) = Stays (InList o labels (items ++ Statement pending x ∷ []) [])
completing else_may x (ThenDue e p) = if else_may then Stays (ThenWhole e x p) else Ends (If e x p)
completing else_may x (ThenWhole e u p) = Stays (ThenWhole e u p)
completing else_may x (ElseDue e u p) = Ends (IfElse e u x p)
completing else_may x (UnitDue c p) = Ends (OnUnit c x p)

-- what is open behind a whole statement
abbrev pub finished : Bool → Stmt → List Frame → List Frame
finished true x fs = completed x fs
finished false x fs = closed x fs

-- ---- lists

-- items before others
unfoldable pub items_onto : List Item → Items → Items
items_onto [] rest = rest
items_onto (i ∷ is) rest = ItemThen i (items_onto is rest)

-- ---- where statements begin

abbrev pub no_name : List Name → Bool
no_name [] = true
no_name (n ∷ ns) = false

-- a frame where a statement with these labels begins
abbrev pub begun_frame : Frame → List Name → Bool → Option Frame
begun_frame (InList o labels items pending) names may = Some (InList o labels items names)
begun_frame (ThenDue e p) names may = if no_name names then Some (ThenDue e p) else None
begun_frame (ThenWhole e u p) names may = None
begun_frame (ElseDue e u p) names may = if no_name names then Some (ElseDue e u p) else None
begun_frame (UnitDue c p) names may = if no_name names && may then Some (UnitDue c p) else None

abbrev pub onto : List Frame → Option Frame → Option (List Frame)
onto fs None = None
onto fs (Some f) = Some (f ∷ fs)

abbrev pub begun_as : List Frame → List Name → Bool → Option (List Frame)
begun_as [] names may = None
begun_as (f ∷ fs) names may = onto fs (begun_frame f names may)

-- ---- heads, where no ELSE comes

abbrev pub on_frames : Nest → List Frame → Nest
on_frames n fs = record { outer = n.outer; frames = fs }

-- IF or ON
abbrev pub due_in : Nest → List Name → Frame → Option Nest
due_in n labels f = with_frames n.outer (due (begun_as n.frames labels false) f)

-- a group or a begin block
abbrev pub list_in : Nest → List Name → Opener → Bool → Option Nest
list_in n labels o may = with_frames n.outer (opened (begun_as n.frames labels may) o labels)

abbrev pub is_return_stmt : Stmt → Bool
is_return_stmt (Return e p) = true
is_return_stmt _ = false

-- a simple statement other than RETURN and REVERT
abbrev pub is_unit_stmt : Stmt → Bool
is_unit_stmt (Return e p) = false
is_unit_stmt (Revert c p) = false
is_unit_stmt _ = true

abbrev pub is_misplaced_return : Stmt → List Frame → Bool
is_misplaced_return x fs = is_return_stmt x && not (may_return fs)

abbrev pub allowed_in : Nest → List Name → Stmt → Option Nest
allowed_in n labels x = with_frames n.outer (whole (begun_as n.frames labels (is_unit_stmt x)) x)

abbrev pub simple_in : Nest → List Name → Stmt → Option Nest
simple_in n labels x = if is_misplaced_return x n.frames then None else allowed_in n labels x

-- the nest behind a head where no ELSE comes
abbrev pub entered_settled : Nest → List Name → Head → Option Nest
entered_settled n labels (ProcedureFront p parameters options) = with_labelled_procedure n.outer n.frames labels (record { labels = labels; place = p; parameters = parameters; options = options })
entered_settled n labels (Declaring ds p) = with_frames n.outer (with_declaration n.frames labels (Declare ds p))
entered_settled n labels (EndOf name p) = with_end n.outer n.frames labels p
entered_settled n labels (Else p) = None
entered_settled n labels (System p) = with_frames n.outer (with_system n.frames labels)
entered_settled n labels (Simple x) = simple_in n labels x
entered_settled n labels (IfThen e p) = due_in n labels (ThenDue e p)
entered_settled n labels (On c p) = due_in n labels (UnitDue c p)
entered_settled n labels (DoGroup p) = list_in n labels (OfGroup p) false
entered_settled n labels (DoWhileGroup e p) = list_in n labels (OfWhile e p) false
entered_settled n labels (DoCountGroup c p) = list_in n labels (OfCount c p) false
entered_settled n labels (BeginBlock p) = list_in n labels (OfBegin p) true

-- ---- where a head may not stand, and what END breaks

abbrev pub first_place : List Name → Place → Place
first_place [] at = at
first_place (l ∷ ls) at = l.place

-- no label may stand before the unit of the frame
abbrev pub takes_no_label : Frame → Bool
takes_no_label (ThenDue e p) = true
takes_no_label (ElseDue e u p) = true
takes_no_label (UnitDue c p) = true
takes_no_label _ = false

abbrev pub end_fault : Name → List Name → List SourceFault
end_fault n labels = end_name_faults (Some n) labels

-- the name has the letters of one of the labels
unfoldable pub is_among : Name → List Name → Bool
is_among n [] = false
is_among n (l ∷ ls) = same_bytes l.letters n.letters || is_among n ls

-- ---- ELSE

abbrev pub is_else : Head → Bool
is_else (Else p) = true
is_else _ = false

abbrev pub is_then_whole : List Frame → Bool
is_then_whole (ThenWhole e u p ∷ fs) = true
is_then_whole _ = false

-- an ELSE without labels behind an IF whose unit is whole
abbrev pub takes_else : Nest → List Name → Head → Bool
takes_else n labels h = is_else h && (no_name labels && is_then_whole n.frames)

abbrev pub is_whole_if : Frame → Bool
is_whole_if (ThenWhole e u p) = true
is_whole_if _ = false

-- an IF whose unit is whole, with its ELSE due
abbrev pub with_else : Frame → Frame
with_else (ThenWhole e u p) = ElseDue e u p
with_else f = f

abbrev pub else_due : List Frame → List Frame
else_due (ThenWhole e u p ∷ fs) = ElseDue e u p ∷ fs
else_due fs = fs

-- ---- all heads

-- a nest with what its newest head breaks, or where a head may not stand
pub data Entry : Type 0 where
  EnteredAs : Nest → List SourceFault → Entry
  MisplacedAt : Place → Entry

abbrev pub entry_as : Place → List SourceFault → Option Nest → Entry
entry_as at faults None = MisplacedAt at
entry_as at faults (Some n) = EnteredAs n faults

-- what a head with these labels, whose first token stands at a place, makes of a nest
abbrev pub entry : Nest → List Name → Head → Place → Entry
entry n labels h at =
    entry_as (misplaced (settled n.frames) labels at) (nest_faults (settled n.frames) h) (entered n labels h)

abbrev pub entry_settled : Nest → List Name → Head → Place → Entry
entry_settled n labels h at =
    entry_as (misplaced n.frames labels at) (nest_faults n.frames h) (entered_settled n labels h)

abbrev pub is_none : List Frame → Bool
is_none [] = true
is_none (f ∷ fs) = false

-- the tree of a nest, where nothing is open
abbrev pub whole_tree : Nest → Option Tree
whole_tree n = if is_none n.frames then Some (record { procedures = items_of_list n.outer }) else None

-- ---- procedures

-- a procedure or a begin block
abbrev pub is_block_list : Frame → Bool
is_block_list (InList o labels items pending) = is_block o
is_block_list _ = false

-- a procedure may stand in the outermost list of a block or outside of all
abbrev pub takes_procedure : List Frame → Bool
takes_procedure [] = true
takes_procedure (f ∷ fs) = is_block_list f

abbrev pub procedure_nest : List Item → List Frame → ProcedureHead → Nest
procedure_nest outer fs h = record { outer = outer; frames = InList (OfProcedure h) h.labels [] [] ∷ fs }

-- ---- what is counted

-- a group, an IF or an on-unit
abbrev pub is_unit : Frame → Bool
is_unit (InList o labels items pending) = if is_block o then false else true
is_unit (ThenWhole e u p) = false
is_unit _ = true

-- whether RETURN may stand in the frame, where it is that which tells
abbrev pub returning : Frame → Option Bool
returning (UnitDue c p) = Some false
returning (InList (OfProcedure h) labels items pending) = Some true
returning _ = None

abbrev pub labels_of : Frame → List Name
labels_of (InList o labels items pending) = labels
labels_of _ = []

abbrev pub list_of_option : {X : Type 0} → Option X → List X
list_of_option None = []
list_of_option (Some x) = x ∷ []
