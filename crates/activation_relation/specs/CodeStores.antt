-- The stores of a block's beginning are those of its code, one by one, and its end loads the registers that it saved.
use Rattle.std.specs.Prelude.{ℕ, ◌<◌, ◌≤◌, ◌≡◌, ℤ, List, [], ◌∷◌, ◌++◌, map, Option, None, Some}
use Rattle.rv_meaning.specs.declared.instr.Instr.{Instr}
use Rattle.rv_meaning.specs.declared.instr.Instr.TheVariants as I
use Rattle.rv_meaning.specs.declared.instr.Register.{Register}
use Rattle.pli_meaning.specs.StorageState.{Activation}
use Rattle.pli_serving.specs.ServiceState as S
use Rattle.pli_coding.specs.Assembly.{Item, Plain, Code}
use Rattle.pli_coding.specs.Entries.{frame_begun, registers_saved, registers_restored}
use Rattle.pli_coding.specs.Frames.{MemoryParts}
use Rattle.pli_coding.specs.Registers.{held_registers}
use Rattle.activation_relation.specs.Layers.{Layer}
use Rattle.activation_relation.specs.Frames.{place_from, frame_stores}

-- ---- what code stores and loads: at which displacement, and which register

abbrev pub stored_in : Instr → List (ℤ × ℕ)
stored_in (I.Store kind rs value z) = (z, value.index) ∷ []
stored_in i = []

abbrev pub stored_by : Item → List (ℤ × ℕ)
stored_by (Plain i) = stored_in i
stored_by i = []

abbrev pub stores_in : Code → List (ℤ × ℕ)
stores_in [] = []
stores_in (i ∷ is) = stored_by i ++ stores_in is

abbrev pub loaded_in : Instr → List (ℤ × ℕ)
loaded_in (I.Load kind rd rs z) = (z, rd.index) ∷ []
loaded_in i = []

abbrev pub loaded_by : Item → List (ℤ × ℕ)
loaded_by (Plain i) = loaded_in i
loaded_by i = []

abbrev pub loads_in : Code → List (ℤ × ℕ)
loads_in [] = []
loads_in (i ∷ is) = loaded_by i ++ loads_in is

-- ---- the laws

-- a begin block saves nothing
abbrev pub saved_by : S.BlockKind → (saved : ℕ) → Option ℕ
saved_by S.BeginBlock saved = None
saved_by kind saved = Some saved

-- displacements up to this level stand in an instruction
abbrev pub most_levels : ℕ
most_levels = 400

pub record CodeStores : Type 0 where
  pub places :
      (parts : MemoryParts) (base parent : ℕ) (as' : List Activation) (φ : Layer) (φs : List Layer) →
      φ.saved ≤ held_registers → (φ.kind ≡ S.BeginBlock → φ.saved ≡ 0) → φ.level < most_levels →
      map (λ x. place_from φ.at x.0)
      (stores_in (frame_begun φ.words φ.level φ.parameters (saved_by φ.kind φ.saved)))
      ≡ map (λ x. x.0) (frame_stores parts base parent as' φ φs)
  -- each register comes back from the place where it was saved
  pub registers :
      (frame : Register) (saved : ℕ) → saved ≤ held_registers →
      stores_in (registers_saved frame 0 saved) ≡ loads_in (registers_restored 0 saved)
