-- The offset in an area of a structure that a pointer variable points to, by the built-ins ADDR and OFFSET.
-- (X3.53-1976, chapter 9, OFFSET.)
use Rattle.std.specs.Prelude.{ℕ, ◌≤◌, ◌≡◌, List, None, length}
use Rattle.pli_typing.specs.TypedTree as Y
use Rattle.expression_runs.specs.Values.{Setting}
use Rattle.expression_runs.specs.Variables.{Spot, variable_of, whole}
use Rattle.area_runs.specs.Allocations.{HasArea}
use Rattle.area_runs.specs.Based.{Ends, based_of}
use Rattle.member_runs.specs.Members.{IsStructure}
use Rattle.offset_runs.specs.Offsets.{Gives}

abbrev pub whole_structure : List Y.Leaf → Y.Part
whole_structure leaves = record { first = 0; count = length leaves }

-- ADDR of all of it
abbrev pub address_of : (pointer based : Spot) → List Y.Leaf → Y.Pointer
address_of p n leaves =
    Y.AddressOf
    (Y.Referring (based_of n) (Y.LocatedBy (Y.PointerIn (whole p))) (whole_structure leaves) Y.NoNumber)

abbrev pub offset_of : (pointer based : Spot) → List Y.Leaf → (area : Spot) → Y.Offset
offset_of p n leaves a = Y.OffsetInto (address_of p n leaves) (variable_of a)

-- the name waits in four words of the frame, in which nothing else does; where nothing lives by it, or it lives in no
-- such area, ERROR ends the run
pub record IsAddressed (k : Setting) (p n : Spot) (members : List Y.Member) (leaves : List Y.Leaf) (a : Spot) : Type 0
  where
    pub structure : IsStructure k.block p n members leaves
    pub area : HasArea k.block a
    pub ends : Ends k
    pub same : k.around.program ≡ k.block.around.program
    pub none : k.words ≡ 0
    pub words : 4 ≤ area.layer.words
    pub waits : (i : ℕ) → area.layer.waits i ≡ None

-- its offset is what the code leaves
abbrev pub AddressGiven : Type 0
AddressGiven =
    (k : Setting) (p n : Spot) (members : List Y.Member) (leaves : List Y.Leaf) (a : Spot) →
    IsAddressed k p n members leaves a → Gives k 0 (offset_of p n leaves a)
