-- Services 28 to 30: on-units, and the raise of a condition.
use Rattle.std.specs.Prelude.{ℕ, ◌==◌, List, [], ◌∷◌, Option, Some, None, if◌then◌else◌}
use Rattle.pli_language.specs.declared.condition.Condition.{Condition}
use Rattle.pli_language.specs.declared.condition.Condition.TheVariants as C
use Rattle.pli_meaning.specs.World.{raising}
use Rattle.pli_meaning.specs.StorageState.{unit_for, without_unit, first_unit}
use Rattle.pli_serving.specs.ServiceState.{Services, OnUnit, SystemUnit, CodeUnit, Activation}
use Rattle.pli_serving.specs.Answers.{Answer, Done, with_world, acting}
use Rattle.pli_serving.specs.Finding.{Call}
use Rattle.pli_serving.specs.Outcomes.{or_bad, bad_unless}
use Rattle.pli_serving.specs.ActsAndEnds.{is_code}

abbrev pub condition_of : ℕ → Option Condition
condition_of n =
    if n == 1 then Some C.Area
    else (if n == 2 then Some C.FixedOverflow
    else (if n == 3 then Some C.ZeroDivide
    else (if n == 4 then Some C.Endfile
    else (if n == 5 then Some C.Error else None))))

-- ---- 28: on, and 29: revert

-- what ON establishes, by the address of a unit's code or 0 for SYSTEM
abbrev pub unit_of : ℕ → OnUnit
unit_of at = if at == 0 then SystemUnit else CodeUnit at

-- the newest activation's own entry, replaced; none where no block is active
abbrev pub established : Condition → OnUnit → List Activation → Option (List Activation)
established c u [] = None
established c u (a ∷ as') = Some (record a { units = (c, u) ∷ without_unit c a.units } ∷ as')

abbrev pub reverted : Condition → List Activation → Option (List Activation)
reverted c [] = None
reverted c (a ∷ as') = Some (record a { units = without_unit c a.units } ∷ as')

abbrev pub units_changed : Call → (Condition → List Activation → Option (List Activation)) → (a0 a1 : ℕ) → Answer
units_changed c change a0 a1 =
    or_bad (condition_of a0) (λ condition.
    or_bad (change condition c.services.activations) (λ activations.
    Done (record c.services { activations = activations }) c.memory a0 a1))

-- the newest activation has a unit for the condition, in the place of an older one
abbrev pub on_served : Call → (condition at : ℕ) → Answer
on_served c condition at = units_changed c (λ k. established k (unit_of at)) condition at

-- the newest activation has none for it
abbrev pub revert_served : Call → (condition a1 : ℕ) → Answer
revert_served c condition a1 = units_changed c reverted condition a1

-- ---- 30: raise

-- the newest activation with an entry for the condition, and its unit: dynamic order, whatever the blocks' nesting
abbrev pub force : List Activation → Condition → Option (Activation × OnUnit)
force [] c = None
force (a ∷ as') c = first_unit a (unit_for a.units c) (force as' c)

-- a unit's address and the frame of its ON, with what its enter is told; or 0 and the code
abbrev pub raise_answered : Call → Services → (code resume : ℕ) → Option (Activation × OnUnit) → Answer
raise_answered c v code resume (Some (a, CodeUnit at)) =
    Done (record v { waiting = Some (record { code = code; resume = resume; line = v.line }) }) c.memory at a.frame
raise_answered c v code resume _ = Done v c.memory 0 code

-- the condition is raised with its code, an act, and the unit in force is found
abbrev pub raise_served : Call → (condition code resume : ℕ) → Answer
raise_served c condition code resume =
    or_bad (condition_of condition) (λ k.
    bad_unless (is_code code)
    (acting c.services
    (raise_answered c (with_world (raising k code c.services.world) c.services) code resume (force c.services.activations k))))
