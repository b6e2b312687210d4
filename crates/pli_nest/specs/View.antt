-- How the values of the code show what is open.
use Rattle.std.specs.Prelude.{List, map}
use Rattle.pli_language.specs.Nesting as N
use Rattle.pli_language.specs.View.{counting_of, expr_of, item_of, name_of, procedure_head_of, stmt_of}
use Rattle.pli_phrase.specs.View.{newest}
use Rattle.pli_nest.specs.declared.frame.Opener.{Opener}
use Rattle.pli_nest.specs.declared.frame.Opener.TheVariants as O
use Rattle.pli_nest.specs.declared.frame.Frame.{Frame}
use Rattle.pli_nest.specs.declared.frame.Frame.TheVariants as F
use Rattle.pli_nest.specs.declared.frame.Nest.{Nest}
use Rattle.pli_nest.specs.declared.frame.Step.{Step}
use Rattle.pli_nest.specs.declared.frame.Step.TheVariants as X
use Rattle.pli_nest.specs.declared.frame.Entry.{Entry}
use Rattle.pli_nest.specs.declared.frame.Entry.TheVariants as Y
use Rattle.pli_nest.specs.Steps as S

abbrev pub opener_of : Opener → N.Opener
opener_of (O.Procedure h) = N.OfProcedure (procedure_head_of h)
opener_of (O.Group p) = N.OfGroup p
opener_of (O.While e p) = N.OfWhile (expr_of e) p
opener_of (O.Count c p) = N.OfCount (counting_of c) p
opener_of (O.Begin p) = N.OfBegin p

abbrev pub frame_of : Frame → N.Frame
frame_of (F.List o labels items pending) = N.InList (opener_of o) (map name_of labels.items) (map item_of items.items) (map name_of pending.items)
frame_of (F.ThenDue e p) = N.ThenDue (expr_of e) p
frame_of (F.ThenWhole e u p) = N.ThenWhole (expr_of e) (stmt_of u.value) p
frame_of (F.ElseDue e u p) = N.ElseDue (expr_of e) (stmt_of u.value) p
frame_of (F.UnitDue c p) = N.UnitDue c p

-- the innermost stands last in the vector and first in the list
abbrev pub frames_of : List Frame → List N.Frame
frames_of fs = newest frame_of fs

abbrev pub nest_of : Nest → N.Nest
nest_of n = record { outer = map item_of n.outer.items; frames = frames_of n.frames.items }

abbrev pub step_of : Step → S.Step
step_of (X.Stays f) = S.Stays (frame_of f)
step_of (X.Ends x) = S.Ends (stmt_of x)

abbrev pub entry_of : Entry → S.Entry
entry_of (Y.Entered n fault) = S.EnteredAs (nest_of n) (S.list_of_option fault)
entry_of (Y.Misplaced p) = S.MisplacedAt p
