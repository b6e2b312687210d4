-- The call of a service: its number in a7, what it is given in a0 to a6, and what it comes to. The numbers are those of image
-- version 1; another number is no call.
use Rattle.std.specs.Prelude.{ℕ, ◌==◌, if◌then◌else◌}
use Rattle.pli_serving.specs.Answers.{Answer, Bad, a0, a1, a2, a3, a4, a5, a7}
use Rattle.pli_serving.specs.Finding.{Call}
use Rattle.pli_serving.specs.ActsAndEnds.{act_served, end_served, retry_served, oncode_served}
use Rattle.pli_serving.specs.SignatureService.{signature_served}
use Rattle.pli_serving.specs.Blocks.{enter_served, leave_served, unwind_served, return_served}
use Rattle.pli_serving.specs.Making.{make_served}
use Rattle.pli_serving.specs.Names.{resolve_served, address_served, locator_served, refer_served}
use Rattle.pli_serving.specs.AreaServices.{allocate_served, free_served, area_assignment_served, empty_served}
use Rattle.pli_serving.specs.ControlledServices as Controlled
use Rattle.pli_serving.specs.TextServices as Texts
use Rattle.pli_serving.specs.OnUnits.{on_served, revert_served, raise_served}
use Rattle.pli_serving.specs.Edits.{edit_begin_served, control_served, fixed_served, text_served, edit_end_served, skip_served}
use Rattle.pli_serving.specs.ElementService.{element_served, of_two_words}
use Rattle.pli_serving.specs.AggregateServices.{aggregate_served, scalar_served}

-- 40 and 41: aggregates
abbrev pub aggregates_served : ℕ → Call → (ℕ → ℕ) → Answer
aggregates_served n c x =
    if n == 40 then aggregate_served c (a0 x) (a1 x) (a2 x) (a3 x) (a4 x)
    else (if n == 41 then scalar_served c (a0 x) (a1 x) (a2 x) else Bad)

-- 34 to 39: edit-directed streams
abbrev pub edits_served : ℕ → Call → (ℕ → ℕ) → Answer
edits_served n c x =
    if n == 34 then edit_begin_served c (a0 x) (a1 x)
    else (if n == 35 then control_served c (a1 x)
    else (if n == 36 then fixed_served c (a0 x) (a1 x)
    else (if n == 37 then text_served c (a0 x) (a1 x)
    else (if n == 38 then edit_end_served c (a0 x) (a1 x)
    else (if n == 39 then skip_served c (a0 x) (a1 x) else aggregates_served n c x)))))

-- 28 to 33: conditions
abbrev pub conditions_served : ℕ → Call → (ℕ → ℕ) → Answer
conditions_served n c x =
    if n == 28 then on_served c (a0 x) (a1 x)
    else (if n == 29 then revert_served c (a0 x) (a1 x)
    else (if n == 30 then raise_served c (a0 x) (a1 x) (a2 x)
    else (if n == 31 then return_served c
    else (if n == 32 then retry_served c (a0 x) (a1 x)
    else (if n == 33 then oncode_served c (a1 x) else edits_served n c x)))))

-- 20 to 27: texts
abbrev pub texts_served : ℕ → Call → (ℕ → ℕ) → Answer
texts_served n c x =
    if n == 20 then Texts.push_served c (a0 x) (a1 x) (a2 x)
    else (if n == 21 then Texts.push_number_served c (a0 x) (a1 x)
    else (if n == 22 then Texts.join_served c (a0 x)
    else (if n == 23 then Texts.cut_served c (a0 x) (a1 x) (a2 x)
    else (if n == 24 then Texts.compare_served c (a1 x)
    else (if n == 25 then Texts.find_served c (a0 x) (a1 x)
    else (if n == 26 then Texts.to_number_served c (a0 x)
    else (if n == 27 then Texts.store_served c (a0 x) (a1 x) (a2 x) else conditions_served n c x)))))))

-- 16 to 19: CONTROLLED variables
abbrev pub controlled_served : ℕ → Call → (ℕ → ℕ) → Answer
controlled_served n c x =
    if n == 16 then Controlled.push_served c (a0 x) (a1 x) (a2 x)
    else (if n == 17 then Controlled.pop_served c (a0 x) (a1 x)
    else (if n == 18 then Controlled.newest_served c (a0 x) (a1 x)
    else (if n == 19 then Controlled.count_served c (a0 x) (a1 x) else texts_served n c x)))

-- 10 to 15: areas and locators
abbrev pub areas_served : ℕ → Call → (ℕ → ℕ) → Answer
areas_served n c x =
    if n == 10 then allocate_served c (a0 x) (a1 x) (a2 x) (a3 x) (a4 x)
    else (if n == 11 then free_served c (a0 x) (a1 x) (a2 x)
    else (if n == 12 then area_assignment_served c (a0 x) (a1 x)
    else (if n == 13 then empty_served c (a0 x) (a1 x)
    else (if n == 14 then locator_served c (a0 x) (a1 x) (a2 x) (a3 x)
    else (if n == 15 then refer_served c (a0 x) (a1 x) (a2 x) else controlled_served n c x)))))

-- 8: with 0 what a name names, with 1 an element of an aggregate
abbrev pub found_served : Call → (ℕ → ℕ) → (mode : ℕ) → Answer
found_served c x mode =
    if mode == 0 then resolve_served c (a0 x) (a1 x) (a2 x) (a3 x)
    else (if mode == 1 then element_served c (a0 x) (a1 x) (of_two_words (a2 x) (a5 x)) (a3 x) else Bad)

-- 4 to 9: blocks and names
abbrev pub blocks_served : ℕ → Call → (ℕ → ℕ) → Answer
blocks_served n c x =
    if n == 4 then enter_served c (a0 x) (a1 x) (a2 x) (a3 x)
    else (if n == 5 then leave_served c (a0 x) (a1 x)
    else (if n == 6 then unwind_served c (a0 x) (a1 x)
    else (if n == 7 then make_served c (a0 x) (a1 x) (a2 x) (a3 x) (a4 x)
    else (if n == 8 then found_served c x (a4 x)
    else (if n == 9 then address_served c (a0 x) (a1 x) (a2 x) else areas_served n c x)))))

-- 1 to 3: the run and its signatures
abbrev pub served : ℕ → Call → (ℕ → ℕ) → Answer
served n c x =
    if n == 1 then act_served c (a0 x) (a1 x)
    else (if n == 2 then end_served c (a0 x) (a1 x)
    else (if n == 3 then signature_served c (a0 x) (a1 x) (a2 x) (a3 x) else blocks_served n c x))

abbrev pub serves : Call → (registers : ℕ → ℕ) → Answer
serves c x = served (a7 x) c x
