-- What STATIC variables take, as far as it matters.
use Rattle.std.specs.Prelude.{ℕ, List, map, if◌then◌else◌}
use Rattle.pli_language.specs.declared.expr.Place.{Place}
use Rattle.pli_language.specs.declared.fault.SourceKind.TheVariants.{TooLarge}
use Rattle.pli_language.specs.Refusals.{fault, is_before}
use Rattle.pli_declaring.specs.declared.statics.Taken.{Taken}
use Rattle.pli_declaring.specs.Bytes.{capped}

abbrev pub taken_of : Taken → Place × ℕ
taken_of t = (t.place, t.bytes)

abbrev pub capped_all : List (Place × ℕ) → List (Place × ℕ)
capped_all ss = map (λ s. (s.0, capped s.1)) ss

-- what one takes, where it doesn't stand behind a place
abbrev pub counted : Place → Place × ℕ → ℕ
counted p s = if is_before (fault p TooLarge) (fault s.0 TooLarge) then 0 else s.1
