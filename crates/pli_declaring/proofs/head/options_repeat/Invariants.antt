use Rattle.std.proofs.Common.{◌≡◌, map, drop}
use Rattle.pli_language.specs.Declaring.{options_repeat}
use Rattle.pli_language.specs.View.{procedure_option_of}
use Rattle.pli_declaring.proofs.head.options_repeat.Given as goal

abbrev pub invariant-loop-i : goal.invariant-loop-i
invariant-loop-i l = options_repeat (map procedure_option_of (drop l.i l.options)) ≡ options_repeat (map procedure_option_of l.options)
