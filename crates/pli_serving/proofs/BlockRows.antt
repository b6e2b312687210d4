-- Services 4 to 6 and 31, computed.
use Rattle.std.proofs.Common.{◌≡◌, ℕ, List, [], ◌∷◌, Some, None, refl, map, replicate, length}
use lib.Chars.{codes}
use Rattle.pli_meaning.specs.declared.outcome.End.TheVariants as E
use Rattle.pli_meaning.specs.declared.outcome.Limit.TheVariants as L
use Rattle.pli_serving.specs.ServiceState.{Services, Living, ProcedureBlock, BeginBlock, OnUnitBlock, Entry, TextEntry, AggregateEntry, Putting, EditPlace}
use Rattle.pli_serving.specs.Answers.{Bad}
use Rattle.pli_serving.specs.Blocks.{enter_served, leave_served, unwind_served, return_served}
use Rattle.pli_serving.proofs.CallPieces.{call, memory, start, in_main, activation, last_act, registers, after, world_at_end}

abbrev text : List ℕ → Entry
text t = TextEntry t

abbrev place : EditPlace
place = record { direction = Putting; whole = []; rest = [] }

abbrev living : (serial owner : ℕ) → Living
living serial owner = record { serial = serial; owner = owner; signature = 0; at = 128 }

abbrev serials_left : Services → List ℕ
serials_left v = map (λ l. l.serial) v.living

abbrev frames_left : Services → List ℕ
frames_left v = map (λ a. a.frame) v.activations

-- ---- 4

-- main at line 5, with a place in a format list, a text and two argument texts on top
abbrev before_call : Services
before_call = record in_main { line = 5; edits = place ∷ []; entries = text (codes "C") ∷ text (codes "B") ∷ text (codes "A") ∷ [] }

procedure_is_entered :
    after (λ v. v.activations) (enter_served (call before_call memory) 0 96 20 2)
    ≡ Some (activation ProcedureBlock 96 1 1 5 ∷ activation ProcedureBlock 64 0 0 0 ∷ [])
procedure_is_entered = refl

enter_sets_the_line : after (λ v. v.line) (enter_served (call before_call memory) 0 96 20 2) ≡ Some 20
enter_sets_the_line = refl

enter_makes_no_act : after (λ v. v.world.acts) (enter_served (call before_call memory) 0 96 20 2) ≡ Some 0
enter_makes_no_act = refl

enter_keeps_registers : registers (enter_served (call before_call memory) 0 96 20 2) ≡ Some (0, 96)
enter_keeps_registers = refl

begin_block_is_entered :
    after (λ v. v.activations) (enter_served (call before_call memory) 1 96 20 0)
    ≡ Some (activation BeginBlock 96 3 1 5 ∷ activation ProcedureBlock 64 0 0 0 ∷ [])
begin_block_is_entered = refl

-- a raise of code 30 on line 4
abbrev raise_waits : Services
raise_waits = record before_call { waiting = Some (record { code = 30; resume = 24; line = 4 }) }

unit_takes_what_waits :
    after (λ v. v.activations) (enter_served (call raise_waits memory) 2 96 20 0)
    ≡ Some (activation (OnUnitBlock 30 24) 96 3 1 4 ∷ activation ProcedureBlock 64 0 0 0 ∷ [])
unit_takes_what_waits = refl

nothing_waits_any_more : after (λ v. v.waiting) (enter_served (call raise_waits memory) 2 96 20 0) ≡ Some None
nothing_waits_any_more = refl

unit_needs_a_raise : enter_served (call before_call memory) 2 96 20 0 ≡ Bad
unit_needs_a_raise = refl

procedure_needs_no_raise : enter_served (call raise_waits memory) 0 96 20 0 ≡ Bad
procedure_needs_no_raise = refl

begin_block_needs_no_raise : enter_served (call raise_waits memory) 1 96 20 0 ≡ Bad
begin_block_needs_no_raise = refl

enter_has_three_kinds : enter_served (call before_call memory) 3 96 20 0 ≡ Bad
enter_has_three_kinds = refl

enter_needs_its_texts : enter_served (call before_call memory) 0 96 20 4 ≡ Bad
enter_needs_its_texts = refl

argument_is_no_aggregate : enter_served (call (record in_main { entries = AggregateEntry [] ∷ [] }) memory) 0 96 20 1 ≡ Bad
argument_is_no_aggregate = refl

-- so many activations
abbrev deep : ℕ → Services
deep n = record start { activations = replicate n (activation ProcedureBlock 64 0 0 0) }

last_depth_is_entered : after (λ v. length v.activations) (enter_served (call (deep 499) memory) 0 96 20 0) ≡ Some 500
last_depth_is_entered = refl

one_too_many_ends_the_run :
    world_at_end (enter_served (call (deep 500) memory) 0 96 20 0)
    ≡ Some (record { acts = 1; output = []; raised = []; end = E.Limit L.Depth })
one_too_many_ends_the_run = refl

limit_is_an_act : enter_served (call (last_act (deep 500)) memory) 0 96 20 0 ≡ Bad
limit_is_an_act = refl

too_deep_texts_are_bad : enter_served (call (deep 500) memory) 0 96 20 1 ≡ Bad
too_deep_texts_are_bad = refl

-- ---- 5

-- a begin block in a procedure, which was called on line 5 of main; each has a variable, and there is a STATIC one
abbrev inside : Services
inside =
    record start {
      line = 21;
      activations =
          activation BeginBlock 160 1 1 20
          ∷ activation ProcedureBlock 96 1 1 5
          ∷ activation ProcedureBlock 64 0 0 0
          ∷ [];
      living = living 4 3 ∷ living 3 2 ∷ living 2 1 ∷ living 1 0 ∷ [];
      entries = text (codes "C") ∷ text (codes "B") ∷ text (codes "A") ∷ [];
      edits = place ∷ place ∷ [];
    }

newest_is_left : after frames_left (leave_served (call inside memory) 0 9) ≡ Some (96 ∷ 64 ∷ [])
newest_is_left = refl

its_storage_ends : after serials_left (leave_served (call inside memory) 0 9) ≡ Some (3 ∷ 2 ∷ 1 ∷ [])
its_storage_ends = refl

line_is_current_again : after (λ v. v.line) (leave_served (call inside memory) 0 9) ≡ Some 20
line_is_current_again = refl

texts_end : after (λ v. v.entries) (leave_served (call inside memory) 0 9) ≡ Some (text (codes "A") ∷ [])
texts_end = refl

places_end : after (λ v. length v.edits) (leave_served (call inside memory) 0 9) ≡ Some 1
places_end = refl

top_text_is_kept :
    after (λ v. v.entries) (leave_served (call inside memory) 1 9)
    ≡ Some (text (codes "C") ∷ text (codes "A") ∷ [])
top_text_is_kept = refl

leave_keeps_registers : registers (leave_served (call inside memory) 0 9) ≡ Some (0, 9)
leave_keeps_registers = refl

leave_has_two_modes : leave_served (call inside memory) 2 9 ≡ Bad
leave_has_two_modes = refl

leave_needs_a_block : leave_served (call start memory) 0 9 ≡ Bad
leave_needs_a_block = refl

-- the text below belongs to the caller
leave_needs_a_text_to_keep : leave_served (call (record inside { entries = text (codes "A") ∷ [] }) memory) 1 9 ≡ Bad
leave_needs_a_text_to_keep = refl

leave_keeps_no_aggregate :
    leave_served (call (record inside { entries = AggregateEntry [] ∷ text (codes "A") ∷ [] }) memory) 1 9 ≡ Bad
leave_keeps_no_aggregate = refl

-- ---- 6

activations_above_end : after frames_left (unwind_served (call inside memory) 64 0) ≡ Some (64 ∷ [])
activations_above_end = refl

their_storage_ends : after serials_left (unwind_served (call inside memory) 64 0) ≡ Some (2 ∷ 1 ∷ [])
their_storage_ends = refl

all_texts_end : after (λ v. v.entries) (unwind_served (call inside memory) 64 0) ≡ Some []
all_texts_end = refl

all_places_end : after (λ v. length v.edits) (unwind_served (call inside memory) 64 0) ≡ Some 0
all_places_end = refl

unwound_text_is_kept :
    after (λ v. v.entries) (unwind_served (call inside memory) 96 1)
    ≡ Some (text (codes "C") ∷ text (codes "A") ∷ [])
unwound_text_is_kept = refl

line_stays : after (λ v. v.line) (unwind_served (call inside memory) 64 0) ≡ Some 21
line_stays = refl

own_frame_ends_nothing : after frames_left (unwind_served (call inside memory) 160 0) ≡ Some (160 ∷ 96 ∷ 64 ∷ [])
own_frame_ends_nothing = refl

unwind_keeps_registers : registers (unwind_served (call inside memory) 64 0) ≡ Some (64, 0)
unwind_keeps_registers = refl

no_activation_has_the_frame : unwind_served (call inside memory) 80 0 ≡ Bad
no_activation_has_the_frame = refl

unwind_has_two_modes : unwind_served (call inside memory) 64 2 ≡ Bad
unwind_has_two_modes = refl

unwind_needs_a_text_to_keep : unwind_served (call (record inside { entries = [] }) memory) 64 1 ≡ Bad
unwind_needs_a_text_to_keep = refl

-- ---- 31

-- a unit for code 30, which was raised on line 4
abbrev in_unit : Services
in_unit =
    record start {
      line = 21;
      activations = activation (OnUnitBlock 30 24) 96 1 0 4 ∷ activation ProcedureBlock 64 0 0 0 ∷ [];
      living = living 3 2 ∷ living 2 1 ∷ [];
      entries = text (codes "B") ∷ text (codes "A") ∷ [];
    }

unit_says_where_to_go_on : registers (return_served (call in_unit memory)) ≡ Some (24, 30)
unit_says_where_to_go_on = refl

unit_ends : after frames_left (return_served (call in_unit memory)) ≡ Some (64 ∷ [])
unit_ends = refl

units_storage_ends : after serials_left (return_served (call in_unit memory)) ≡ Some (2 ∷ [])
units_storage_ends = refl

units_texts_end : after (λ v. v.entries) (return_served (call in_unit memory)) ≡ Some (text (codes "A") ∷ [])
units_texts_end = refl

line_of_the_raise_is_current : after (λ v. v.line) (return_served (call in_unit memory)) ≡ Some 4
line_of_the_raise_is_current = refl

procedure_is_no_unit : return_served (call in_main memory) ≡ Bad
procedure_is_no_unit = refl

return_needs_a_block : return_served (call start memory) ≡ Bad
return_needs_a_block = refl
