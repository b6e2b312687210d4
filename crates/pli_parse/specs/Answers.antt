-- What the code answers, against what reading gives.
use Rattle.std.specs.Prelude.{List, Option, Some, None, Result, Ok, Err}
use Rattle.pli_language.specs.declared.fault.SourceFault.{SourceFault}
use Rattle.pli_language.specs.declared.fault.SourceKind.TheVariants.{Memory}
use Rattle.pli_language.specs.declared.token.Token.{Token}
use Rattle.pli_language.specs.Nesting.{Nest}
use Rattle.pli_language.specs.Refusals.{soonest}
use Rattle.pli_language.specs.Tree.{Tree}
use Rattle.pli_parse.specs.Reading.{Parsed, Turn, GoesOn, Over}

abbrev pub out_of_memory : SourceFault
out_of_memory = record { line = 0; column = 0; kind = Memory }

-- a tree or a refusal, or neither
abbrev pub Verdict : Type 0
Verdict = Option (Result Tree SourceFault)

-- a tree where nothing is broken
abbrev pub verdict : Option SourceFault → Option Tree → Verdict
verdict (Some f) tree = Some (Err f)
verdict None (Some tree) = Some (Ok tree)
verdict None None = None

-- what a reading comes to behind what was found before it
abbrev pub answer : Option SourceFault → Parsed → Verdict
answer found r = verdict (soonest found r.faults) r.tree

-- a turn of which the least refusal so far is kept
pub data Step : Type 0 where
  On : (nest : Nest) → (rest : List Token) → (found : Option SourceFault) → Step
  Ends : Verdict → Step

abbrev pub stepped : Option SourceFault → Turn → Step
stepped found (GoesOn faults nest rest) = On nest rest (soonest found faults)
stepped found (Over r) = Ends (answer found r)
