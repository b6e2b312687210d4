-- The order of a shape's parts, and the elements found in it.
use Rattle.std.specs.Prelude.{◌≡◌, ℕ, List, length}
use Rattle.pli_meaning.specs.StreamOrder.{Element, leaves_inside}
use Rattle.pli_shapes.specs.declared.part.Part.{Part}
use Rattle.pli_order.specs.Notes.{AreNoted, noted, parts_of}
use Rattle.pli_order.specs.declared.notes.Order.{Order}
use Rattle.pli_order.specs.declared.walk.Element.{Element as ElementHeld}

-- the notes of all parts, behind so many subscripts, with the number of their leaves
pub record IsOrder (parts : List Part) (given : ℕ) (o : Order) : Type 0 where
  pub same : parts_of o.notes.items ≡ parts
  pub are : AreNoted o.notes.items 0 (length parts) given 0
  pub leaves : leaves_inside (noted o.notes.items 0 (length parts)) ≡ o.leaves

abbrev pub element_shown : ElementHeld → Element
element_shown e = (e.leaf, e.subscripts.items)
