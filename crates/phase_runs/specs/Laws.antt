-- The laws, of a block and the phases that its ONs give it.
use Rattle.std.specs.Prelude.{ℕ, List}
use Rattle.program_runs.specs.Statements.{Block}
use Rattle.unit_runs.specs.Establishing.{OnUnit}
use Rattle.phase_runs.specs.Forms.{FormsDo}
use Rattle.phase_runs.specs.Units.{PhasesChange, UnitsChange, phases_of}

abbrev pub FormsDoThrough : Type 0
FormsDoThrough = (k : Block) (ons : List (OnUnit × ℕ)) → FormsDo k (phases_of k ons)

abbrev pub UnitsChangeThrough : Type 0
UnitsChangeThrough = (k : Block) (ons : List (OnUnit × ℕ)) → UnitsChange k (phases_of k ons)

abbrev pub PhasesOf : Type 0
PhasesOf = (k : Block) (ons : List (OnUnit × ℕ)) → PhasesChange k ons
