-- Items whose numbers their words hold.
use Rattle.std.specs.Prelude.{ℕ, ◌<◌, ◌^◌, ⊤, [], ◌∷◌}
use Rattle.rv_meaning.specs.Encoding.{Fits}
use Rattle.pli_coding.specs.Assembly.{Item, Plain, BaseIn, OffsetOf, OffsetAhead, JumpTo, CallTo, JumpAhead, JumpBack, Mark, Code}

-- no code has so many words, and no jump goes so far
abbrev pub most_words : ℕ
most_words = 2 ^ 28

abbrev pub most_distance : ℕ
most_distance = 2 ^ 29

abbrev pub FitsIn : Item → Type 0
FitsIn (Plain i) = Fits i
FitsIn (BaseIn r) = ⊤
FitsIn (OffsetOf r s) = ⊤
FitsIn (OffsetAhead r words) = words < most_distance
FitsIn (JumpTo s) = ⊤
FitsIn (CallTo s) = ⊤
FitsIn (JumpAhead words) = words < most_distance
FitsIn (JumpBack words) = words < most_distance
FitsIn (Mark s) = ⊤

abbrev pub AllFit : Code → Type 0
AllFit [] = ⊤
AllFit (i ∷ is) = FitsIn i × AllFit is
