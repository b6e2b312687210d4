-- The worked programs with areas and REFER over the other two keepers, by granules and by a list of free blocks: their
-- images show what they show over the chain.
use Rattle.std.proofs.Common.{◌≡◌, [], ◌∷◌, ◌++◌, refl}
use lib.Chars.{codes}
use Rattle.pli_language.specs.declared.condition.Condition.TheVariants as C
use Rattle.pli_meaning.specs.declared.outcome.End.TheVariants as E
use Rattle.pli_typing.specs.TypedTree as Y
use Rattle.granule_keeper.specs.Granules.{granules}
use Rattle.free_keeper.specs.FreeList.{free_list}
use Rattle.coding_runs.proofs.Running.{fitted_by, run_of, Shown, Shows}
use Rattle.coding_runs.proofs.AreaRuns.{area_ended_with_block}
use Rattle.coding_runs.proofs.AreaRuns.{area_full_in_two_gaps}
use Rattle.coding_runs.proofs.AreaRuns.{area_retry_after_free}
use Rattle.coding_runs.proofs.AreaRuns.{copy_keeps_offsets}
use Rattle.coding_runs.proofs.AreaRuns.{least_gap_taken}
use Rattle.coding_runs.proofs.AreaRuns.{list_walked_in_a_copy}
use Rattle.coding_runs.proofs.AreaRuns.{offset_into_other_area}
use Rattle.coding_runs.proofs.AreaRuns.{refer_member_above_extent}
use Rattle.coding_runs.proofs.AreaRuns.{refer_member_lowered}
use Rattle.coding_runs.proofs.AreaRuns.{refused_area_assignment}

abbrev OnBoth : Y.Program → Shown → Type 0
OnBoth p s =
    (run_of (fitted_by granules p 1024 256) 20000 p [] ≡ Shows s)
    × (run_of (fitted_by free_list p 1024 256) 20000 p [] ≡ Shows s)

area_ended_with_block-on_both :
    OnBoth area_ended_with_block
    (record { acts = 6; output = []; raised = ((C.Error, 101) ∷ []); end = (E.Error 101 3) })
area_ended_with_block-on_both = (refl, refl)

area_full_in_two_gaps-on_both :
    OnBoth area_full_in_two_gaps
    (record { acts = 11; output = codes "FULL" ++ (10 ∷ []); raised = ((C.Area, 10) ∷ []); end = E.Stopped })
area_full_in_two_gaps-on_both = (refl, refl)

area_retry_after_free-on_both :
    OnBoth area_retry_after_free
    (record { acts = 14; output = codes "SAME  0  7" ++ (10 ∷ []); raised = ((C.Area, 10) ∷ []); end = E.Finished })
area_retry_after_free-on_both = (refl, refl)

copy_keeps_offsets-on_both :
    OnBoth copy_keeps_offsets
    (record { acts = 9; output = codes " 8" ++ (10 ∷ []); raised = []; end = E.Finished })
copy_keeps_offsets-on_both = (refl, refl)

least_gap_taken-on_both :
    OnBoth least_gap_taken
    (record { acts = 8; output = codes "LEAST" ++ (10 ∷ []); raised = []; end = E.Finished })
least_gap_taken-on_both = (refl, refl)

list_walked_in_a_copy-on_both :
    OnBoth list_walked_in_a_copy
    (record { acts = 39; output = codes "  3  2  1" ++ (10 ∷ []); raised = []; end = E.Finished })
list_walked_in_a_copy-on_both = (refl, refl)

offset_into_other_area-on_both :
    OnBoth offset_into_other_area
    (record { acts = 5; output = []; raised = ((C.Error, 110) ∷ []); end = (E.Error 110 2) })
offset_into_other_area-on_both = (refl, refl)

refer_member_above_extent-on_both :
    OnBoth refer_member_above_extent
    (record { acts = 7; output = []; raised = ((C.Error, 107) ∷ []); end = (E.Error 107 2) })
refer_member_above_extent-on_both = (refl, refl)

refer_member_lowered-on_both :
    OnBoth refer_member_lowered
    (record { acts = 7; output = []; raised = ((C.Error, 102) ∷ []); end = (E.Error 102 2) })
refer_member_lowered-on_both = (refl, refl)

refused_area_assignment-on_both :
    OnBoth refused_area_assignment
    (record { acts = 12; output = codes "NO 4" ++ (10 ∷ []); raised = ((C.Area, 10) ∷ []); end = E.Finished })
refused_area_assignment-on_both = (refl, refl)
