-- The storage machine's activations beside the layers: one for each, with its units, and its static parents.
use Rattle.std.specs.Prelude.{ℕ, zero, suc, slice_get, ◌<◌, ◌≡◌, ◌==◌, List, [], ◌∷◌, length, Some, ⊤, if◌then◌else◌}
use Rattle.pli_language.specs.declared.condition.Condition.{Condition}
use Rattle.pli_typing.specs.TypedTree as Y
use Rattle.pli_meaning.specs.StorageState as M
use Rattle.pli_meaning.specs.StorageState.{Activation, ancestor, height_of}
use Rattle.pli_serving.specs.ServiceState as S
use Rattle.activation_relation.specs.Layers.{Layer}

-- where the code of each on-unit of a program units; of two that are equal as trees each has its own
pub record UnitPlace : Type 0 where
  pub unit : Y.Block
  pub at : ℕ

abbrev pub UnitPlaces : Type 0
UnitPlaces = List UnitPlace

abbrev pub StandsAt : UnitPlaces → Y.Block → (at : ℕ) → Type 0
StandsAt units unit at = (i : ℕ) × (slice_get units i ≡ Some (record { unit = unit; at = at }))

-- ---- on-units

abbrev pub IsUnit : UnitPlaces → M.OnUnit → S.OnUnit → Type 0
IsUnit units M.SystemUnit S.SystemUnit = ⊤
IsUnit units (M.BlockUnit unit) (S.CodeUnit at) = StandsAt units unit at
IsUnit units _ _ = ⊥

abbrev pub AreUnits : UnitPlaces → List (Condition × M.OnUnit) → List (Condition × S.OnUnit) → Type 0
AreUnits units [] [] = ⊤
AreUnits units (u ∷ us) (x ∷ xs) = ((u.0 ≡ x.0) × IsUnit units u.1 x.1) × AreUnits units us xs
AreUnits units _ _ = ⊥

-- the frame of the activation at a height
abbrev pub frame_at : List Layer → (height : ℕ) → ℕ
frame_at [] height = 0
frame_at (φ ∷ φs) height = if height == suc (length φs) then φ.at else frame_at φs height

-- ---- activations

-- an on-unit runs for its condition's code, which is never 0; other blocks for none
abbrev pub RunsFor : S.BlockKind → (oncode : ℕ) → Type 0
RunsFor (S.OnUnitBlock code resume) oncode = (oncode ≡ code) × (0 < oncode)
RunsFor kind oncode = oncode ≡ 0

-- a block at an outer level is entered inside one of the level around it; one of level 0 inside none
abbrev pub HasParent : (level parent : ℕ) → List Activation → Type 0
HasParent zero parent as' = ⊤
HasParent (suc outer) parent as' = (0 < parent) × (height_of (ancestor as' parent outer) ≡ parent)

pub record IsActive (places : UnitPlaces) (a : Activation) (as' : List Activation) (φ : Layer) : Type 0 where
  pub height : a.height ≡ suc (length as')
  pub level : a.level ≡ φ.level
  pub runs : RunsFor φ.kind a.oncode
  pub units : AreUnits places a.units φ.units
  pub parent : HasParent a.level a.parent as'

abbrev pub AreActive : UnitPlaces → List Activation → List Layer → Type 0
AreActive units [] [] = ⊤
AreActive units (a ∷ as') (φ ∷ φs) = IsActive units a as' φ × AreActive units as' φs
AreActive units _ _ = ⊥
