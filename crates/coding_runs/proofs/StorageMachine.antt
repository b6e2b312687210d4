-- What the storage machine shows of a program, as it is shown of an image.
use Rattle.std.proofs.Common.{ℕ, List, Option, Some, None}
use Rattle.pli_typing.specs.TypedTree as Y
use Rattle.pli_meaning.specs.World.{World}
use Rattle.pli_meaning.specs.Control as F
use Rattle.pli_meaning.specs.Raising as R
use Rattle.pli_meaning.specs.Evaluating as V
use Rattle.pli_meaning.specs.Making as K
use Rattle.pli_meaning.specs.Placing as A
use Rattle.pli_meaning.specs.Streaming as S
use Rattle.pli_meaning.specs.Executing as M
use Rattle.coding_runs.proofs.Running.{shown_in, Seen, Shows, Fails}

abbrev seen_in : Option World → Seen
seen_in None = Fails 0
seen_in (Some w) = Shows (shown_in w)

-- with so many acts allowed that the program ends
abbrev pub machine_shows : Y.Program → (input : List ℕ) → Seen
unfolding M.meaning
machine_shows p input = seen_in (M.meaning p input 500)

-- what a program is computed with
unfoldable pub computing : Unit {0}
unfolding F.give F.stuck F.◌>>=◌ F.◌>>◌ F.looked F.stored F.act F.finish F.returns F.jumps F.choose F.given F.list_from F.repeated_while F.leaving R.error_unit_run R.error R.unit_run R.raised R.value_of R.or_error R.demanded V.part_designated V.variable_designated V.area_meant V.passed_last V.all_passed_last V.procedure_entered V.returned V.number V.numbers V.text V.bit V.pointer V.offset V.designated V.located V.called V.arguments V.argument V.stored_value K.evaluations K.extents K.variable_made K.automatic_made K.variables_made K.parameter_bound K.parameters_bound A.element_stored A.elements_stored A.aggregate_assigned A.area_copied A.area_assigned A.area_emptied A.placing A.area_or_heap A.locator_set A.based_allocated A.controlled_allocated A.allocation A.allocations A.name_freed A.area_if A.based_freed A.freeing A.freeings S.controls S.next_item S.control_put S.shown_by V.computational S.element_designated S.element_put S.elements_put S.item_put S.items_put S.pairs_put S.put S.control_got S.field_taken S.number_got S.field_got S.number_kept S.field_converted S.scalar_got S.scalar_if_got S.element_if_got S.elements_got S.item_got S.items_got S.pairs_got S.get M.assigned M.elements_assigned M.counter_number M.counter_value M.counter_started M.stepped M.limit_of M.within_limit M.condition_met M.turn_due M.once M.met_after_act M.list_with M.established_by M.signalled M.statement M.statements M.list M.block_variables_made M.entry_act M.block_list M.block_body M.block_run M.entered M.run M.meaning
computing = tt
