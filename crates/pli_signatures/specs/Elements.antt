-- Elements by their subscripts.
use Rattle.std.specs.Prelude.{ℕ, ℤ, int_le, Bool, ◌&&◌, List, Option, Some, None, if◌then◌else◌}
use Rattle.pli_typing.specs.Signatures.{Bounds, capped}
use Rattle.pli_meaning.specs.Contents.{is_within, element_place}

-- the place of an element among those of its leaf, capped; none where the subscripts aren't within the bounds
abbrev pub place_within : List Bounds → List ℤ → Option ℕ
place_within bounds subscripts = if is_within bounds subscripts then Some (capped (element_place bounds subscripts)) else None

abbrev pub is_within_pair : Bounds → ℤ → Bool
is_within_pair b i = int_le b.lower i && int_le i b.upper
