-- Services 1, 2, 32 and 33, computed.
use Rattle.std.proofs.Common.{◌≡◌, ◌^◌, ℕ, [], ◌∷◌, Some, refl}
use lib.Chars.{codes}
use Rattle.pli_meaning.specs.declared.outcome.End.TheVariants as E
use Rattle.pli_serving.specs.ServiceState.{Services, BeginBlock, OnUnitBlock}
use Rattle.pli_serving.specs.Answers.{Bad}
use Rattle.pli_serving.specs.ActsAndEnds.{act_served, end_served, retry_served, oncode_served}
use Rattle.pli_serving.proofs.CallPieces.{call, memory, start, in_main, activation, last_act, registers, after, world_at_end}

-- ---- 1

act_is_counted : after (λ v. v.world.acts) (act_served (call start memory) 7 0) ≡ Some 1
act_is_counted = refl

act_sets_the_line : after (λ v. v.line) (act_served (call start memory) 7 0) ≡ Some 7
act_sets_the_line = refl

act_keeps_registers : registers (act_served (call start memory) 7 0) ≡ Some (7, 0)
act_keeps_registers = refl

line_alone_is_no_act : after {A = ℕ × ℕ} (λ v. (v.world.acts, v.line)) (act_served (call start memory) 7 1) ≡ Some (0, 7)
line_alone_is_no_act = refl

act_has_two_modes : act_served (call start memory) 7 2 ≡ Bad
act_has_two_modes = refl

last_act_is_none : act_served (call (last_act start) memory) 7 0 ≡ Bad
last_act_is_none = refl

line_alone_needs_no_act : after (λ v. v.line) (act_served (call (last_act start) memory) 7 1) ≡ Some 7
line_alone_needs_no_act = refl

-- ---- 2

-- two acts and a line that isn't finished
abbrev written : Services
written = record start { world = record start.world { acts = 2; output = codes "A" }; line = 9 }

end_finishes_the_line :
    world_at_end (end_served (call written memory) 0 0)
    ≡ Some (record { acts = 3; output = codes "A\n"; raised = []; end = E.Finished })
end_finishes_the_line = refl

run_stops :
    world_at_end (end_served (call written memory) 1 0)
    ≡ Some (record { acts = 3; output = codes "A\n"; raised = []; end = E.Stopped })
run_stops = refl

error_has_the_line :
    world_at_end (end_served (call written memory) 2 101)
    ≡ Some (record { acts = 3; output = codes "A\n"; raised = []; end = E.Error 101 9 })
error_has_the_line = refl

end_has_three_kinds : end_served (call written memory) 3 0 ≡ Bad
end_has_three_kinds = refl

error_code_has_16_bits : end_served (call written memory) 2 (2 ^ 16) ≡ Bad
error_code_has_16_bits = refl

end_is_an_act : end_served (call (last_act start) memory) 0 0 ≡ Bad
end_is_an_act = refl

-- ---- 32

retry_is_an_act : after (λ v. v.world.acts) (retry_served (call start memory) 5 6) ≡ Some 1
retry_is_an_act = refl

retry_keeps_registers : registers (retry_served (call start memory) 5 6) ≡ Some (5, 6)
retry_keeps_registers = refl

last_retry_is_none : retry_served (call (last_act start) memory) 5 6 ≡ Bad
last_retry_is_none = refl

-- ---- 33

-- a begin block inside a unit for code 20, inside a unit for code 101
abbrev in_units : Services
in_units =
    record start {
      activations =
          activation BeginBlock 160 0 0 3
          ∷ activation (OnUnitBlock 20 40) 128 0 0 2
          ∷ activation (OnUnitBlock 101 44) 96 0 0 1
          ∷ [];
    }

oncode_is_the_newest : registers (oncode_served (call in_units memory) 6) ≡ Some (20, 6)
oncode_is_the_newest = refl

no_unit_has_code_0 : registers (oncode_served (call in_main memory) 6) ≡ Some (0, 6)
no_unit_has_code_0 = refl
