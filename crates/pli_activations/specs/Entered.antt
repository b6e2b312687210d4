-- Entered blocks as the services see them: what is kept of each, beside its on-units.
use Rattle.std.specs.Prelude.{ℕ, ◌-◌, List, [], ◌∷◌, drop, map, Option, Some, None}
use Rattle.pli_language.specs.declared.condition.Condition.{Condition}
use Rattle.pli_conditions.specs.declared.units.Unit.{Unit as UnitHeld}
use Rattle.pli_conditions.specs.declared.units.Unit.TheVariants as U
use Rattle.pli_serving.specs.ServiceState.{Activation, BlockKind, ProcedureBlock, BeginBlock, OnUnitBlock, OnUnit, SystemUnit, CodeUnit}
use Rattle.pli_activations.specs.declared.block.Block.{Block}
use Rattle.pli_activations.specs.declared.block.BlockKind.{BlockKind as KindHeld}
use Rattle.pli_activations.specs.declared.block.BlockKind.TheVariants as K

abbrev pub unit_shown : UnitHeld → OnUnit
unit_shown U.System = SystemUnit
unit_shown (U.Code at) = CodeUnit at

abbrev pub units_shown : List (Condition × UnitHeld) → List (Condition × OnUnit)
units_shown us = map (λ e. (e.0, unit_shown e.1)) us

abbrev pub kind_shown : KindHeld → BlockKind
kind_shown K.Procedure = ProcedureBlock
kind_shown K.Begin = BeginBlock
kind_shown (K.OnUnit code resume) = OnUnitBlock code resume

abbrev pub activation_with : Block → List (Condition × OnUnit) → Activation
activation_with b units =
    record { kind = kind_shown b.kind; frame = b.frame; texts = b.texts; edits = b.edits; line = b.line; units = units }

-- blocks and their units, both newest first
abbrev pub activations_of : List Block → List (List (Condition × UnitHeld)) → List Activation
activations_of (b ∷ bs) (us ∷ uss) = activation_with b (units_shown us) ∷ activations_of bs uss
activations_of _ _ = []

-- without the units
abbrev pub block_shown : Block → Activation
block_shown b = activation_with b []

abbrev pub without_units : Activation → Activation
without_units a = record a { units = [] }

-- a unit in force, by the frame of its block
abbrev pub framed : Activation × OnUnit → ℕ × OnUnit
framed f = (f.0.frame, f.1)

abbrev pub framed_shown : ℕ × UnitHeld → ℕ × OnUnit
framed_shown f = (f.0, unit_shown f.1)

-- the activations up to a height, none without one
abbrev pub above : {A : Type 0} → (length : ℕ) → Option ℕ → List A → List A
above n None as' = []
above n (Some height) as' = drop (n - height) as'
