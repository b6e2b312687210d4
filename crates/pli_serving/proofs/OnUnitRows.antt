-- Services 28 to 30, computed.
use Rattle.std.proofs.Common.{◌≡◌, ◌^◌, [], ◌∷◌, Some, None, refl, map}
use Rattle.pli_language.specs.declared.condition.Condition.TheVariants as C
use Rattle.pli_serving.specs.ServiceState.{Services, ProcedureBlock, BeginBlock, SystemUnit, CodeUnit}
use Rattle.pli_serving.specs.Answers.{Bad}
use Rattle.pli_serving.specs.OnUnits.{on_served, revert_served, raise_served}
use Rattle.pli_serving.proofs.CallPieces.{call, memory, start, in_main, activation, last_act, registers, after, then'}

-- ---- 28 and 29

on_is_an_entry_of_the_newest :
    after (λ v. map (λ a. a.units) v.activations) (on_served (call in_main memory) 3 48)
    ≡ Some (((C.ZeroDivide, CodeUnit 48) ∷ []) ∷ [])
on_is_an_entry_of_the_newest = refl

on_replaces_an_entry :
    after (λ v. map (λ a. a.units) v.activations) (then' (on_served (call in_main memory) 3 48) (λ c. on_served c 3 0))
    ≡ Some (((C.ZeroDivide, SystemUnit) ∷ []) ∷ [])
on_replaces_an_entry = refl

on_keeps_registers : registers (on_served (call in_main memory) 3 48) ≡ Some (3, 48)
on_keeps_registers = refl

on_knows_five_conditions : on_served (call in_main memory) 6 48 ≡ Bad
on_knows_five_conditions = refl

on_needs_a_block : on_served (call start memory) 3 48 ≡ Bad
on_needs_a_block = refl

revert_removes_the_entry :
    after (λ v. map (λ a. a.units) v.activations) (then' (on_served (call in_main memory) 3 48) (λ c. revert_served c 3 9))
    ≡ Some ([] ∷ [])
revert_removes_the_entry = refl

revert_keeps_registers : registers (revert_served (call in_main memory) 3 9) ≡ Some (3, 9)
revert_keeps_registers = refl

revert_knows_five_conditions : revert_served (call in_main memory) 0 9 ≡ Bad
revert_knows_five_conditions = refl

revert_needs_a_block : revert_served (call start memory) 3 9 ≡ Bad
revert_needs_a_block = refl

-- ---- 30

-- line 5 of a begin block; main, below, has a unit for ZERODIVIDE, and SYSTEM for ENDFILE
abbrev with_units : Services
with_units =
    record start {
      line = 5;
      activations =
          activation BeginBlock 96 0 0 1
          ∷ record (activation ProcedureBlock 64 0 0 0) { units = (C.ZeroDivide, CodeUnit 48) ∷ (C.Endfile, SystemUnit) ∷ [] }
          ∷ [];
    }

raise_finds_the_unit : registers (raise_served (call with_units memory) 3 30 24) ≡ Some (48, 64)
raise_finds_the_unit = refl

raise_waits_for_the_unit :
    after (λ v. v.waiting) (raise_served (call with_units memory) 3 30 24)
    ≡ Some (Some (record { code = 30; resume = 24; line = 5 }))
raise_waits_for_the_unit = refl

raise_is_shown : after (λ v. v.world.raised) (raise_served (call with_units memory) 3 30 24) ≡ Some ((C.ZeroDivide, 30) ∷ [])
raise_is_shown = refl

raise_is_counted : after (λ v. v.world.acts) (raise_served (call with_units memory) 3 30 24) ≡ Some 1
raise_is_counted = refl

system_is_no_unit : registers (raise_served (call with_units memory) 4 40 24) ≡ Some (0, 40)
system_is_no_unit = refl

no_entry_is_no_unit : registers (raise_served (call with_units memory) 5 199 24) ≡ Some (0, 199)
no_entry_is_no_unit = refl

nothing_waits_without_a_unit : after (λ v. v.waiting) (raise_served (call with_units memory) 5 199 24) ≡ Some None
nothing_waits_without_a_unit = refl

raise_without_a_unit_is_shown :
    after (λ v. v.world.raised) (raise_served (call with_units memory) 5 199 24) ≡ Some ((C.Error, 199) ∷ [])
raise_without_a_unit_is_shown = refl

-- the newest activation's SYSTEM hides the unit below
system_hides_a_unit : registers (then' (on_served (call with_units memory) 3 0) (λ c. raise_served c 3 30 24)) ≡ Some (0, 30)
system_hides_a_unit = refl

raise_knows_five_conditions : raise_served (call with_units memory) 0 30 24 ≡ Bad
raise_knows_five_conditions = refl

raised_code_has_16_bits : raise_served (call with_units memory) 3 (2 ^ 16) 24 ≡ Bad
raised_code_has_16_bits = refl

raise_is_an_act : raise_served (call (last_act with_units) memory) 3 30 24 ≡ Bad
raise_is_an_act = refl
