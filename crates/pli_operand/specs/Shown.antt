-- What a program's values show of the definitions.
use Rattle.std.specs.Prelude.{map, ℕ, drop}
use Rattle.pli_typing.specs.TypedTree as Y
use Rattle.pli_typing.specs.TypedView.{area_of, leaf_of, reference_of, value_of}
use Rattle.pli_typing.specs.Converting.{Designated, Referent, Designates, Gives, GivesUnknown, GivesEmptyArea, GivesNothing, NotKnown, Operand}
use Rattle.pli_operand.specs.Notes.{Noted}
use Rattle.pli_operand.specs.declared.notes.Notes.{Notes as NotesHeld}
use Rattle.pli_operand.specs.declared.operand.Designated.{Designated as DesignatedHeld}
use Rattle.pli_operand.specs.declared.operand.Referent.{Referent as ReferentHeld}
use Rattle.pli_operand.specs.declared.operand.Referent.TheVariants as R
use Rattle.pli_operand.specs.declared.operand.Operand.{Operand as OperandHeld}

abbrev pub notes_of : NotesHeld → Noted
notes_of n = record { found = n.found; own = area_of n.own; forbidden = n.forbidden }

-- a leaf of an element: its outer bounds have subscripts
abbrev pub leaf_behind : ℕ → Y.Leaf → Y.Leaf
leaf_behind n l = record { type = l.type; bounds = drop n l.bounds; initial = l.initial }

abbrev pub designated_of : DesignatedHeld → Designated
designated_of d = record {
  reference = reference_of d.reference;
  leaves = map (λ l. leaf_behind d.subscripted (leaf_of l)) d.leaves.now;
  dimensions = d.dimensions;
  has_members = d.has_members;
  is_whole = d.is_whole;
}

abbrev pub referent_of : ReferentHeld → Referent
referent_of (R.Designates d) = Designates (designated_of d)
referent_of (R.Gives v) = Gives (value_of v)
referent_of R.UnknownValue = GivesUnknown
referent_of R.EmptyArea = GivesEmptyArea
referent_of R.Nothing = GivesNothing
referent_of R.NotKnown = NotKnown

abbrev pub operand_of : OperandHeld → Operand
operand_of o = record { place = o.place; constant = o.constant; referent = referent_of o.referent }
