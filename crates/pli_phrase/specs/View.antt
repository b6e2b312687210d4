-- How the values of the code show cursors, and what is open.
use Rattle.std.specs.Prelude.{◌≡◌, List, ◌∷◌, Option, map, reverse}
use Rattle.pli_language.specs.declared.expr.InfixOp.{InfixOp}
use Rattle.pli_phrase.specs.declared.engine.Absorbed.{Absorbed}
use Rattle.pli_phrase.specs.declared.engine.Absorbed.TheVariants as B
use Rattle.pli_language.specs.Marks.{Marks}
use Rattle.pli_language.specs.Tree as T
use Rattle.pli_language.specs.View.{name_of, expr_of, reference_of, arguments_of, option_of}
use Rattle.pli_phrase.specs.Cursor.{Cursor}
use Rattle.pli_phrase.specs.Reading as R
use Rattle.pli_phrase.specs.declared.cursor.Cursor.{Cursor as CursorHeld}
use Rattle.pli_phrase.specs.declared.cursor.Marks.{Marks as MarksHeld}
use Rattle.pli_phrase.specs.declared.frame.Qualifier.{Qualifier}
use Rattle.pli_phrase.specs.declared.frame.Path.{Path}
use Rattle.pli_phrase.specs.declared.frame.Frame.{Frame}
use Rattle.pli_phrase.specs.declared.frame.Frame.TheVariants as F
use Rattle.pli_phrase.specs.declared.frame.State.{State}
use Rattle.pli_phrase.specs.declared.frame.State.TheVariants as A
use Rattle.pli_phrase.specs.declared.frame.Step.{Step}
use Rattle.pli_phrase.specs.declared.frame.Step.TheVariants as E

abbrev pub marks_of : MarksHeld → Marks
marks_of m = record { room = m.room; faults = m.faults.items }

abbrev pub cursor_of : CursorHeld → Cursor
cursor_of c = record { tokens = c.tokens.now; marks = marks_of c.marks }

-- a vector to whose end things are added, as the list with its newest first
unfoldable pub newest : {X Y : Type 0} → (X → Y) → List X → List Y
newest f xs = reverse (map f xs)

abbrev pub qualifier_of : Qualifier → T.Name × T.Arguments
qualifier_of q = (name_of q.name, arguments_of q.arguments)

abbrev pub path_of : Path → R.Path
path_of p = record { locator = option_of reference_of p.locator; qualifiers = newest qualifier_of p.qualifiers.items }

abbrev pub frame_of : Frame → R.Frame
frame_of (F.Before op p) = R.Before op p
frame_of (F.Between op left) = R.Between op (expr_of left)
frame_of (F.Group p) = R.Group p
frame_of (F.Listing path name es) = R.Listing (path_of path) (name_of name) (newest expr_of es.items)
frame_of F.Alone = R.Alone

abbrev pub frames_of : List Frame → List R.Frame
frames_of fs = newest frame_of fs

abbrev pub state_of : State → R.State
state_of A.OperandDue = R.OperandDue
state_of A.ArgumentDue = R.ArgumentDue
state_of (A.FirstDue path name) = R.FirstDue (path_of path) (name_of name)
state_of (A.NameDue path) = R.NameDue (path_of path)
state_of (A.NameRead path name) = R.NameRead (path_of path) (name_of name)
state_of (A.ArgumentsRead path name a) = R.ArgumentsRead (path_of path) (name_of name) (arguments_of a)
state_of (A.OperandRead e) = R.OperandRead (expr_of e)

abbrev pub step_of : Step → R.Step
step_of (E.On state frames m) = R.On (state_of state) (frames_of frames.items) (marks_of m)
step_of (E.Ends e m) = R.Ends (expr_of e) (marks_of m)
step_of E.Fails = R.Fails

-- an operand that the frame around it takes in, or doesn't, before the next operator
abbrev pub Absorbs : Option InfixOp → R.Frame → T.Expr → Absorbed → Type 0
Absorbs next frame operand (B.Up e) = (k : List R.Frame) → R.climbed next (frame ∷ k) operand ≡ R.climbed next k (expr_of e)
Absorbs next frame operand (B.Stays f e) = (k : List R.Frame) → R.climbed next (frame ∷ k) operand ≡ (frame_of f ∷ k, expr_of e)
