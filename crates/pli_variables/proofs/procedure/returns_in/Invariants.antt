use Rattle.std.proofs.Common.{◌≡◌, drop, map}
use Rattle.pli_typing.specs.Calls.{returns_in}
use Rattle.pli_language.specs.View.{procedure_option_of}
use Rattle.pli_variables.proofs.procedure.returns_in.Given as goal

abbrev pub invariant-loop-option : goal.invariant-loop-option
invariant-loop-option l = returns_in (map procedure_option_of (drop l.option-index l.options)) ≡ returns_in (map procedure_option_of l.options)
