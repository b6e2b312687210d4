use Rattle.std.proofs.Common.{◌≡◌, map, drop}
use Rattle.std.specs.Prelude.{nat_lt}
use Rattle.std.specs.List.{flat_map}
use Rattle.pli_language.specs.declared.fault.SourceKind.TheVariants.{TooLarge}
use Rattle.pli_language.specs.Declaring.{most_static, static_faults, taken_up_to, when}
use Rattle.pli_language.specs.Refusals.{fault, soonest}
use Rattle.pli_declaring.specs.Statics.{taken_of}
use Rattle.pli_declaring.proofs.statics.noted_statics.Given as goal

abbrev pub invariant-loop-taken : goal.invariant-loop-taken
invariant-loop-taken l = soonest l.found (flat_map (λ s. when (nat_lt most_static (taken_up_to s.0 (map taken_of l.statics))) (fault s.0 TooLarge)) (map taken_of (drop l.taken-index l.statics))) ≡ soonest l.initial.found (static_faults (map taken_of l.statics))
