-- What worked programs are compared by.
use Rattle.std.proofs.Common.{ℕ, List, Option, Some, None}
use Rattle.pli_meaning.specs.declared.outcome.End.{End}
use Rattle.pli_meaning.specs.declared.outcome.End.TheVariants as E
use Rattle.pli_typing.specs.TypedTree as Y
use Rattle.pli_meaning.specs.World.{World, Raised}
use Rattle.pli_meaning.specs.Control as F
use Rattle.pli_meaning.specs.Raising as R
use Rattle.pli_meaning.specs.Evaluating as V
use Rattle.pli_meaning.specs.Making as K
use Rattle.pli_meaning.specs.Placing as A
use Rattle.pli_meaning.specs.Streaming as S
use Rattle.pli_meaning.specs.Executing as M

-- what a run shows
pub record Shown : Type 0 where
  pub acts : ℕ
  pub output : List ℕ
  pub raised : List Raised
  pub end : End

abbrev shown_in : Option World → Option Shown
shown_in None = None
shown_in (Some w) = Some (record { acts = w.acts; output = w.output; raised = w.raised; end = w.end })

-- a program with so many acts allowed
abbrev pub run_within : Y.Program → (input : List ℕ) → (allowed : ℕ) → Option Shown
unfolding M.meaning
run_within p input k = shown_in (M.meaning p input k)

-- a program with so many acts allowed that it ends
abbrev pub run_of : Y.Program → (input : List ℕ) → Option Shown
run_of p input = run_within p input 3000

-- what a run shows that goes on after so many acts
abbrev pub running : (acts : ℕ) → List ℕ → List Raised → Option Shown
running acts output raised = Some (record { acts = acts; output = output; raised = raised; end = E.Running })

-- what a program is computed with
unfoldable pub computing : Unit {0}
unfolding F.give F.stuck F.◌>>=◌ F.◌>>◌ F.looked F.stored F.act F.finish F.returns F.jumps F.choose F.given F.list_from F.repeated_while F.leaving R.error_unit_run R.error R.unit_run R.raised R.value_of R.or_error R.demanded V.part_designated V.variable_designated V.area_meant V.passed_last V.all_passed_last V.procedure_entered V.returned V.number V.numbers V.text V.bit V.pointer V.offset V.designated V.located V.called V.arguments V.argument V.stored_value K.evaluations K.extents K.variable_made K.automatic_made K.variables_made K.parameter_bound K.parameters_bound A.element_stored A.elements_stored A.aggregate_assigned A.area_copied A.area_assigned A.area_emptied A.placing A.area_or_heap A.locator_set A.based_allocated A.controlled_allocated A.allocation A.allocations A.name_freed A.area_if A.based_freed A.freeing A.freeings S.controls S.next_item S.control_put S.shown_by V.computational S.element_designated S.element_put S.elements_put S.item_put S.items_put S.pairs_put S.put S.control_got S.field_taken S.number_got S.field_got S.number_kept S.field_converted S.scalar_got S.scalar_if_got S.element_if_got S.elements_got S.item_got S.items_got S.pairs_got S.get M.assigned M.elements_assigned M.counter_number M.counter_value M.counter_started M.stepped M.limit_of M.within_limit M.condition_met M.turn_due M.once M.met_after_act M.list_with M.established_by M.signalled M.statement M.statements M.list M.block_variables_made M.entry_act M.block_list M.block_body M.block_run M.entered M.run M.meaning
computing = tt
