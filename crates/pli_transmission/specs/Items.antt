-- What a format item is.
use Rattle.std.specs.Prelude.{ℕ, Option, Some, None}
use Rattle.pli_meaning.specs.Streaming.{FormatItem, DataFormat, ControlFormat, FixedItem, TextItem, ControlItem, SpaceItem, SkipItem, ColumnItem, control_read, control_written}
use Rattle.pli_meaning.specs.InputLines.{Input}
use Rattle.pli_meaning.specs.World.{World, counted, written}
use Rattle.pli_serving.specs.ServiceState.{Direction, Getting, Putting}
use Rattle.pli_transmission.specs.declared.item.Control.{Control}
use Rattle.pli_transmission.specs.declared.item.Control.TheVariants as C

abbrev pub control_shown : Control → ControlItem
control_shown (C.Space n) = SpaceItem n
control_shown (C.Skip n) = SkipItem n
control_shown (C.Column n) = ColumnItem n

abbrev pub control_in : FormatItem → Option ControlItem
control_in (DataFormat d) = None
control_in (ControlFormat k) = Some k

abbrev pub fixed_width : FormatItem → Option ℕ
fixed_width (DataFormat (FixedItem width)) = Some width
fixed_width (DataFormat (TextItem width)) = None
fixed_width (ControlFormat k) = None

abbrev pub text_width : FormatItem → Option (Option ℕ)
text_width (DataFormat (FixedItem width)) = None
text_width (DataFormat (TextItem width)) = Some width
text_width (ControlFormat k) = None

-- ---- what a control item makes of what is shown, and of the input

abbrev pub moved_world : Direction → ControlItem → World → World
moved_world Getting k w = counted w
moved_world Putting k w = written (control_written k) w

abbrev pub moved_input : Direction → ControlItem → Input → Input
moved_input Getting k i = control_read k i
moved_input Putting k i = i
