-- Services 1, 2, 32 and 33: acts, the end of the run, and the code of the condition for which an on-unit runs.
use Rattle.std.specs.Prelude.{ℕ, ◌^◌, Bool, nat_lt, ◌==◌, List, [], ◌∷◌, Option, Some, None, if◌then◌else◌}
use Rattle.pli_meaning.specs.declared.outcome.End.{End}
use Rattle.pli_meaning.specs.declared.outcome.End.TheVariants as E
use Rattle.pli_meaning.specs.World.{counted, ending}
use Rattle.pli_serving.specs.ServiceState.{Services, BlockKind, OnUnitBlock, Activation}
use Rattle.pli_serving.specs.Answers.{Answer, Done, Ends, Bad, with_world, acting}
use Rattle.pli_serving.specs.Finding.{Call}
use Rattle.pli_serving.specs.Outcomes.{or_bad}

-- codes have 16 bits
abbrev pub is_code : ℕ → Bool
is_code n = nat_lt n (2 ^ 16)

-- ---- 1: act

-- the line is current from now on; with 0 an act is made, with 1 none
abbrev pub act_served : Call → (line mode : ℕ) → Answer
act_served c line mode =
    if mode == 0
    then acting c.services (Done (record c.services { world = counted c.services.world; line = line }) c.memory line mode)
    else (if mode == 1 then Done (record c.services { line = line }) c.memory line mode else Bad)

-- ---- 2: end

abbrev pub end_of : (kind code line : ℕ) → Option End
end_of kind code line =
    if kind == 0 then Some E.Finished
    else (if kind == 1 then Some E.Stopped
    else (if kind == 2 then (if is_code code then Some (E.Error code line) else None) else None))

-- the act that ends the run
abbrev pub run_ended : End → Services → Answer
run_ended end v = acting v (Ends (with_world (ending end v.world) v))

-- the run ends: 0 Finished, 1 Stopped, 2 Error with a code at the current line
abbrev pub end_served : Call → (kind code : ℕ) → Answer
end_served c kind code = or_bad (end_of kind code c.services.line) (λ end. run_ended end c.services)

-- ---- 32: retry

-- the act of trying an allocation again
abbrev pub retry_served : Call → (a0 a1 : ℕ) → Answer
retry_served c a0 a1 = acting c.services (Done (with_world (counted c.services.world) c.services) c.memory a0 a1)

-- ---- 33: oncode

abbrev pub code_of_kind : BlockKind → (further : ℕ) → ℕ
code_of_kind (OnUnitBlock code resume) further = code
code_of_kind _ further = further

-- the code of the newest active on-unit, 0 with none
abbrev pub oncode_of : List Activation → ℕ
oncode_of [] = 0
oncode_of (a ∷ as') = code_of_kind a.kind (oncode_of as')

abbrev pub oncode_served : Call → (a1 : ℕ) → Answer
oncode_served c a1 = Done c.services c.memory (oncode_of c.services.activations) a1
