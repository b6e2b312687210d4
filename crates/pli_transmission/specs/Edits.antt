-- Places in format lists as they are kept: behind the next item, where that is known.
use Rattle.std.specs.Prelude.{◌≡◌, ⊤, Option, Some, None, option_map}
use Rattle.pli_meaning.specs.Streaming.{FormatItem}
use Rattle.pli_serving.specs.ServiceState as S
use Rattle.pli_serving.specs.ServiceState.{EditPlace}
use Rattle.pli_serving.specs.Edits.{NextItem, next_item}
use Rattle.pli_edit.specs.declared.format.Format.{Format}
use Rattle.pli_edit.specs.declared.format.Passed.{Passed}
use Rattle.pli_edit.specs.FormatPlaces.{FormatsLeft, IsFirstAgain, item_of, left_before_passed}
use Rattle.pli_transmission.specs.declared.edit.Direction.{Direction}
use Rattle.pli_transmission.specs.declared.edit.Direction.TheVariants as D

abbrev pub direction_shown : Direction → S.Direction
direction_shown D.Getting = S.Getting
direction_shown D.Putting = S.Putting

abbrev pub place_of : Direction → FormatsLeft → EditPlace
place_of d p = record { direction = direction_shown d; whole = p.whole; rest = p.rest }

-- the place before the next item, where the list is held behind it
abbrev pub before_next : Option Passed → FormatsLeft → FormatsLeft
before_next None p = p
before_next (Some n) p = record { whole = p.whole; rest = left_before_passed n p.rest }

-- the next item, with the place behind it, where it was passed
abbrev pub next_of : Direction → Option Passed → FormatsLeft → Option NextItem
next_of d None p = None
next_of d (Some n) p = Some (record { item = item_of n.format; behind = place_of d p })

abbrev pub IsBehindNext : Option Passed → FormatsLeft → Type 0
IsBehindNext None p = ⊤
IsBehindNext (Some n) p = IsFirstAgain n p

-- a place, and its next item where that is known
pub record EditKept : Type 0 where
  pub place : EditPlace
  pub next : Option NextItem

abbrev pub item_found : Option NextItem → Option FormatItem
item_found found = option_map (λ n. n.item) found

-- the next item of a place, which is known from now on
abbrev pub IsReached : Option Format → EditPlace → (next : Option NextItem) → Type 0
IsReached found place next = (next_item place ≡ next) × (option_map item_of found ≡ item_found next)

abbrev pub IsItemOf : Option Format → EditPlace → Type 0
IsItemOf found place = option_map item_of found ≡ item_found (next_item place)
