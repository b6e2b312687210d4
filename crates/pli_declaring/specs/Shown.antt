-- What a program's values show of the definitions.
use Rattle.std.specs.Prelude.{ℕ, ℤ, pos, negsuc}
use Rattle.pli_declaring.specs.declared.extent.Use.{Use as UseHeld}
use Rattle.pli_declaring.specs.declared.extent.Use.TheVariants as U
use Rattle.pli_language.specs.Declaring.{Use, Passed, Evaluated, Kept, Returned}

abbrev pub use_shown : UseHeld → Use
use_shown U.Passed = Passed
use_shown U.Evaluated = Evaluated
use_shown U.Kept = Kept
use_shown U.Returned = Returned

-- z, or its distance from -1 where it is below 0
abbrev pub magnitude : ℤ → ℕ
magnitude (pos n) = n
magnitude (negsuc n) = n
