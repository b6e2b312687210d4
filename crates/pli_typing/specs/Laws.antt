-- Laws of the definitions, each of which a function of `src/laws.rt` carries.
use Rattle.std.specs.Prelude.{◌≡◌, ◌↔◌, Some}
use Rattle.pli_typing.specs.Kinds.{Kind, Conversion, Converts, conversion}

-- a pair of kinds has at most one conversion
abbrev pub ConvertedOnce : Type 0
ConvertedOnce = (from to : Kind) (c d : Conversion) → Converts from to c → Converts from to d → c ≡ d

-- the function gives a conversion just where the pair has it
abbrev pub ConversionExact : Type 0
ConversionExact = (from to : Kind) (c : Conversion) → (Converts from to c ↔ (conversion from to ≡ Some c))
