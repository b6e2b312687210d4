-- What the worked rows' programs come to.
use Rattle.std.proofs.Common.{◌≡◌, ℕ, List, [], ◌∷◌, Some, refl}
use Rattle.pli_language.specs.declared.condition.Condition.TheVariants as C
use Rattle.pli_meaning.specs.declared.outcome.End.TheVariants as E
use Rattle.pli_meaning.specs.Control as F
use Rattle.pli_meaning.specs.Evaluating as V
use Rattle.pli_meaning.specs.Executing as M
use Rattle.pli_meaning.specs.Making as K
use Rattle.pli_meaning.specs.Placing as P
use Rattle.pli_meaning.specs.Raising as R
use Rattle.pli_meaning.specs.Streaming as T
use Rattle.offset_headlines.specs.Rows.{twin_program}
use Rattle.offset_headlines.specs.Strays.{miss_program, stray_program}

unfoldable flows : Unit {0}
unfolding F.give F.◌>>=◌ F.◌>>◌ F.looked F.stored F.act F.finish F.returns F.jumps F.choose F.given F.list_from
    F.leaving F.repeated_while M.met_after_act
flows = tt

unfoldable values : Unit {0}
unfolding V.number V.bit V.designated V.located V.numbers V.variable_designated V.part_designated V.stored_value
    R.or_error R.demanded R.value_of R.raised R.unit_run R.error R.error_unit_run P.element_stored M.assigned V.pointer
    V.offset V.area_meant
values = tt

unfoldable placings : Unit {0}
unfolding P.allocations P.allocation P.based_allocated P.area_or_heap P.placing P.locator_set P.area_assigned
    P.area_copied P.freeings P.freeing P.based_freed P.area_if P.name_freed
placings = tt

unfoldable makings : Unit {0}
unfolding K.variables_made K.automatic_made K.extents K.variable_made K.parameters_bound
makings = tt

unfoldable writings : Unit {0}
unfolding T.put T.control_put T.pairs_put T.items_put T.item_put T.next_item T.controls T.shown_by V.computational
writings = tt

unfoldable statements : Unit {0}
unfolding M.statement M.statements M.list M.list_with M.block_variables_made M.entry_act M.block_list M.block_body
statements = tt

pub twin_ends :
    (input : List ℕ) →
    M.meaning twin_program input 49
    ≡ Some (record {
      acts = 49;
      output = 32 ∷ 32 ∷ 54 ∷ 32 ∷ 32 ∷ 52 ∷ 32 ∷ 32 ∷ 50 ∷ 32 ∷ 32 ∷ 48 ∷ 10 ∷ [];
      raised = [];
      end = E.Finished;
    })
unfolding M.meaning M.run M.entered M.block_run flows values placings makings writings statements
twin_ends input = refl

pub miss_ends :
    (input : List ℕ) →
    M.meaning miss_program input 7
    ≡ Some (record { acts = 7; output = []; raised = (C.Error, 101) ∷ []; end = E.Error 101 6 })
unfolding M.meaning M.run M.entered M.block_run flows values placings makings writings statements
miss_ends input = refl

pub stray_ends :
    (input : List ℕ) →
    M.meaning stray_program input 9
    ≡ Some (record { acts = 9; output = []; raised = (C.Error, 110) ∷ []; end = E.Error 110 8 })
unfolding M.meaning M.run M.entered M.block_run flows values placings makings writings statements
stray_ends input = refl
