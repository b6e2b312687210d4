-- Where names in POINTER variables stand, in parts.
use Rattle.std.specs.Prelude.{ℕ, ℤ, Option, Some, None, if◌then◌else◌}
use Rattle.pli_typing.specs.TypedTree as Y
use Rattle.pli_coding.specs.Environments.{Environment}
use Rattle.pli_coding.specs.Locating.{NamePlace, direct_name, is_direct}
use Rattle.pli_coding.specs.Expressions.{standing_locator}
use Rattle.rv_address.specs.declared.transfer.Address.{Address}

-- the place of an address in the running frame
abbrev pub place_of : Address → ℤ
place_of a = a.displacement

abbrev pub leaf_standing : Environment → Y.Variable → (leaf : ℕ) → Option NamePlace
leaf_standing e v leaf = if is_direct e v then Some (direct_name e v v.class leaf) else None

unfoldable pub locator_in : Environment → Y.Reference → Option NamePlace
locator_in e (Y.Referring v locator part subscripts) = standing_locator e locator
