-- FIXEDOVERFLOW where no unit of the program is in force for it: the run ends.
use Rattle.std.specs.Prelude.{ℕ, ◌+◌, ◌*◌, ◌^◌, ◌<◌, ◌≡◌, List}
use Rattle.rv_meaning.specs.declared.instr.Instr.{Instr}
use Rattle.pli_language.specs.declared.condition.Condition.TheVariants as C
use Rattle.pli_meaning.specs.StorageState.{force}
use Rattle.pli_coding.specs.Assembly.{ErrorEnd, RaiseCondition}
use Rattle.pli_coding.specs.Images.{raise_code}
use Rattle.pli_coding.specs.Linking.{Links, place_of}
use Rattle.activation_relation.specs.ServiceLaws.{IsSystem}
use Rattle.run_steps.specs.Items.{Linked}
use Rattle.expression_runs.specs.Values.{Setting}

-- where the routines of raises stand
pub record Routines (links : Links) (code : List Instr) : Type 0 where
  pub at : ℕ
  pub linked : Linked links code at raise_code
  pub condition : place_of links RaiseCondition ≡ 4 * at
  pub end : place_of links ErrorEnd < 2 ^ 32

-- where the block's first statement begins neither condition has a unit in force
pub record IsUnraised (k : Setting) : Type 0 where
  pub routines : Routines k.block.call.surroundings.links k.block.call.code
  pub overflow : IsSystem (force k.block.first.state.activations C.FixedOverflow)
  pub error : IsSystem (force k.block.first.state.activations C.Error)
  pub acts : k.block.call.surroundings.acts + 1 < 2 ^ 64
  pub most : 18 < k.most
