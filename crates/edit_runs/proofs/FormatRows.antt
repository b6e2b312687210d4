-- The worked rows of lists: all is computed.
use Rattle.std.proofs.Common.{◌≡◌, ℕ, List, [], ◌∷◌, Some, refl}
use Rattle.pli_language.specs.Tree as T
use Rattle.pli_meaning.specs.declared.outcome.End.TheVariants as E
use Rattle.pli_meaning.specs.Control as F
use Rattle.pli_meaning.specs.Evaluating as V
use Rattle.pli_meaning.specs.Executing as M
use Rattle.pli_meaning.specs.Making as K
use Rattle.pli_meaning.specs.Placing as P
use Rattle.pli_meaning.specs.Raising as R
use Rattle.pli_meaning.specs.Streaming as S
use Rattle.edit_runs.specs.Edits.{IsFixed}
use Rattle.edit_runs.specs.FormatRows.{fixed_then, shown_program}

pub one_fixed : IsFixed (fixed_then 1 8 T.NoFormat)
one_fixed = record { fixed = refl; text = refl; are = tt; some = refl }

pub repeated_fixed : IsFixed (fixed_then 2 3 (fixed_then 1 5 T.NoFormat))
repeated_fixed = record { fixed = refl; text = refl; are = tt; some = refl }

-- what the program is computed with
unfoldable flows : Unit {0}
unfolding F.give F.◌>>=◌ F.◌>>◌ F.looked F.stored F.act F.finish F.returns F.choose F.given F.list_from F.leaving
flows = tt

unfoldable values : Unit {0}
unfolding V.number V.designated V.located V.numbers V.variable_designated V.part_designated V.stored_value R.or_error
    R.demanded R.value_of P.element_stored M.assigned V.computational
values = tt

unfoldable writings : Unit {0}
unfolding S.put S.pairs_put S.items_put S.item_put S.next_item S.controls S.control_put S.shown_by
writings = tt

unfoldable makings : Unit {0}
unfolding K.variables_made K.automatic_made K.extents K.variable_made K.parameters_bound
makings = tt

unfoldable statements : Unit {0}
unfolding M.statement M.statements M.list M.list_with M.block_variables_made M.entry_act M.block_list M.block_body
statements = tt

pub shown_written :
    (input : List ℕ) →
    M.meaning shown_program input 9
    ≡ Some (record {
      acts = 9;
      output = 10 ∷ 10 ∷ 32 ∷ 32 ∷ 55 ∷ 32 ∷ 32 ∷ 49 ∷ 52 ∷ 32 ∷ 32 ∷ 55 ∷ 32 ∷ 55 ∷ 10 ∷ [];
      raised = [];
      end = E.Finished;
    })
unfolding M.meaning M.run M.entered M.block_run flows values writings makings statements
shown_written input = refl
