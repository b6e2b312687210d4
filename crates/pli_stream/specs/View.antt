-- How the values of the code show what is read.
use Rattle.std.specs.Prelude.{map}
use Rattle.pli_language.specs.Formats as D
use Rattle.pli_language.specs.View.{edit_pair_of, format_of, formats_of, option_of, skip_of}
use Rattle.pli_phrase.specs.View.{newest}
use Rattle.pli_stream.specs.Reading as R
use Rattle.pli_stream.specs.declared.parts.Direction.{Direction}
use Rattle.pli_stream.specs.declared.parts.Direction.TheVariants as V
use Rattle.pli_stream.specs.declared.state.Item.{Item}
use Rattle.pli_stream.specs.declared.state.Outer.{Outer}
use Rattle.pli_stream.specs.declared.state.State.{State}
use Rattle.pli_stream.specs.declared.state.Turn.{Turn}
use Rattle.pli_stream.specs.declared.state.Turn.TheVariants as U
use Rattle.pli_stream.specs.declared.parts.Transfer.{Transfer}

abbrev pub direction_of : Direction → D.Direction
direction_of V.Getting = D.Getting
direction_of V.Putting = D.Putting

abbrev pub item_of : Item → R.Item
item_of i = record { place = i.place; repetition = i.repetition; format = format_of i.format }

abbrev pub outer_of : Outer → R.Outer
outer_of o = record { items = newest item_of o.items.items; place = o.place; repetition = o.repetition }

abbrev pub state_of : State → R.State
state_of s = record { is_due = s.is_due; items = newest item_of s.items.items; outer = newest outer_of s.outer.items; moves_data = s.moves_data }

abbrev pub turn_of : Turn → R.Turn
turn_of (U.On s) = R.On (state_of s)
turn_of (U.Closed fs moves) = R.Closed (formats_of fs) moves

abbrev pub transfer_of : Transfer → R.Transfer
transfer_of t = record { skip = option_of skip_of t.skip; pairs = map edit_pair_of t.pairs.items }
