-- Where a source may end inside a head: which heads may stand there, by what tells of a head whether it may.
use Rattle.std.specs.Prelude.{List, [], ◌∷◌, Bool, true, false, not, ◌&&◌, ◌||◌, Option, Some, None, if◌then◌else◌}
use Rattle.pli_language.specs.declared.expr.Place.{Place}
use Rattle.pli_language.specs.declared.token.Word.{Word}
use Rattle.pli_language.specs.declared.token.Word.TheVariants as W
use Rattle.pli_language.specs.Heads.{Head, ProcedureFront, Declaring, Simple, IfThen, Else, DoGroup, DoWhileGroup, DoCountGroup, BeginBlock, On, System, EndOf}
use Rattle.pli_language.specs.Tree.{Name, Return, Revert}
use Rattle.pli_language.specs.Nesting.{Nest, Opener, OfProcedure, Frame, InList, ThenDue, ThenWhole, ElseDue, UnitDue, may_return, misplaced}
use Rattle.pli_head.specs.declared.continuation.Continuations.{Continuations}
use Rattle.pli_nest.specs.declared.standing.Front.{Front}
use Rattle.pli_nest.specs.declared.standing.Front.TheVariants as R
use Rattle.pli_nest.specs.Steps.{no_name, is_block_list, is_else, is_then_whole}

abbrev pub front_of : Head → Front
front_of (ProcedureFront p parameters options) = R.Procedure
front_of (Declaring ds p) = R.Declaration
front_of (EndOf name p) = R.End
front_of (System p) = R.System
front_of (Simple (Return e p)) = R.Return
front_of (Simple (Revert c p)) = R.Nested
front_of (Simple x) = R.Unit
front_of (BeginBlock p) = R.Unit
front_of _ = R.Nested

-- of the head that a word begins
abbrev pub front_of_word : Word → Front
front_of_word W.Procedure = R.Procedure
front_of_word W.Declare = R.Declaration
front_of_word W.End = R.End
front_of_word W.System = R.System
front_of_word W.Return = R.Return
front_of_word W.Revert = R.Nested
front_of_word W.If = R.Nested
front_of_word W.Else = R.Nested
front_of_word W.Do = R.Nested
front_of_word W.On = R.Nested
front_of_word _ = R.Unit

abbrev pub is_list : Frame → Bool
is_list (InList o labels items pending) = true
is_list _ = false

abbrev pub is_unit_due : Frame → Bool
is_unit_due (UnitDue c p) = true
is_unit_due _ = false

-- a statement with these labels may begin in a frame, which may be an on-unit or not
abbrev pub begins_in : Frame → List Name → Bool → Bool
begins_in (InList o labels items pending) names may = true
begins_in (ThenDue e p) names may = no_name names
begins_in (ThenWhole e u p) names may = false
begins_in (ElseDue e u p) names may = no_name names
begins_in (UnitDue c p) names may = no_name names && may

-- a whole procedure may stand there
abbrev pub takes_whole : List Frame → Bool
takes_whole [] = true
takes_whole (f ∷ fs) = is_list f

abbrev pub is_procedure_opener : Opener → Bool
is_procedure_opener (OfProcedure h) = true
is_procedure_opener _ = false

abbrev pub is_procedure_list : Frame → Bool
is_procedure_list (InList o labels items pending) = is_procedure_opener o
is_procedure_list _ = false

abbrev pub ends_in : Frame → List Frame → Bool
ends_in f fs = if is_procedure_list f then takes_whole fs else is_list f

abbrev pub may_stand_in : Front → Frame → List Frame → List Name → Bool
may_stand_in R.Procedure f fs names = not (no_name names) && is_block_list f
may_stand_in R.Declaration f fs names = no_name names && is_list f
may_stand_in R.End f fs names = ends_in f fs
may_stand_in R.System f fs names = no_name names && is_unit_due f
may_stand_in R.Unit f fs names = begins_in f names true
may_stand_in R.Nested f fs names = begins_in f names false
may_stand_in R.Return f fs names = begins_in f names false && may_return (f ∷ fs)

abbrev pub is_procedure : Front → Bool
is_procedure R.Procedure = true
is_procedure _ = false

-- a head of this front may stand behind these labels, where no ELSE comes
abbrev pub may_stand : List Frame → List Name → Front → Bool
may_stand [] names front = is_procedure front && not (no_name names)
may_stand (f ∷ fs) names front = may_stand_in front f fs names

abbrev pub word_may_stand : List Frame → List Name → Option Word → Bool
word_may_stand fs names None = false
word_may_stand fs names (Some w) = may_stand fs names (front_of_word w)

-- a head that the tokens end in may go on as one that may stand
abbrev pub may_go_on : List Frame → List Name → Continuations → Bool
may_go_on fs names g = (g.as_assignment && may_stand fs names R.Unit) || word_may_stand fs names g.as_word

-- where a head is refused that begins at one place, in a source that ends at another
abbrev pub refused_place : List Frame → List Name → Place → Place → Continuations → Place
refused_place fs names at end g = misplaced fs names (if may_go_on fs names g then end else at)

-- an ELSE behind labels, or where none is due
abbrev pub is_stray_else : Nest → List Name → Head → Bool
is_stray_else n names h = is_else h && not (no_name names && is_then_whole n.frames)
