-- What comes of a point: acts, blocks that are entered and left, and on-units.
use Rattle.std.specs.Prelude.{ℕ, zero, suc, ◌≡◌, List, [], ◌∷◌, ◌++◌, None, Some, drop}
use Rattle.pli_language.specs.declared.condition.Condition.{Condition}
use Rattle.pli_typing.specs.TypedTree as Y
use Rattle.pli_meaning.specs.World.{World}
use Rattle.pli_meaning.specs.StorageState as M
use Rattle.pli_meaning.specs.StorageState.{State, with_world, with_activations, newest_ended, without_unit}
use Rattle.pli_meaning.specs.Raising.{Entry}
use Rattle.pli_meaning.specs.Executing.{with_activation}
use Rattle.pli_serving.specs.ServiceState as S
use Rattle.pli_serving.specs.ServiceState.{TextEntry}
use Rattle.activation_relation.specs.Layers.{Layer, Point}

-- ---- acts

abbrev pub with_line : (line : ℕ) → Point → Point
with_line line p = record p { control = record p.control { line = line } }

abbrev pub with_act : (World → World) → Point → Point
with_act change p = record p { state = with_world (change p.state.world) p.state }

-- ---- a block is entered

-- with the texts of arguments on top, and no raise waiting from now on
abbrev pub pushed : Y.BlockHead → Entry → Layer → (line : ℕ) → Point → Point
pushed head entry φ line p =
    record p {
      state = with_activation head entry p.state;
      control = record p.control { layers = φ ∷ p.control.layers; waiting = None; line = line };
    }

-- ---- the newest block ends

-- the texts are those that stood below it; one may be kept above them
abbrev pub texts_back : (kept : List S.Entry) → Layer → (entries : List S.Entry) → List S.Entry
texts_back kept φ entries = kept ++ φ.entries

abbrev pub popped_from : (kept : List S.Entry) → List Layer → Point → Point
popped_from kept [] p = p
popped_from kept (φ ∷ φs) p =
    record p {
      state = newest_ended p.state;
      control = record p.control {
        layers = φs;
        entries = texts_back kept φ p.control.entries;
        edits = φ.edits;
        line = φ.line;
      };
    }

abbrev pub popped : (kept : List S.Entry) → Point → Point
popped kept p = popped_from kept p.control.layers p

-- a stack that has grown: what stood below is as it was
abbrev pub StandsOver : {A : Type 0} → (below xs : List A) → Type 0
StandsOver {A} below xs = (above : List A) × (xs ≡ above ++ below)

-- what a call of the services keeps of the texts above those of a block: none, or the top one
pub data Keeps : (keep : ℕ) → (below entries kept : List S.Entry) → Type 0 where
  KeepsNone : (below entries : List S.Entry) → StandsOver below entries → Keeps 0 below entries []
  KeepsTop :
      (text : List ℕ) (below entries : List S.Entry) → StandsOver below entries →
      Keeps 1 below (TextEntry text ∷ entries) (TextEntry text ∷ [])

-- ---- so many blocks end together, where the program goes on further out

-- each block that a jump leaves ends, the newest first
abbrev pub ended_times : (count : ℕ) → State → State
ended_times zero s = s
ended_times (suc n) s = ended_times n (newest_ended s)

-- the texts and the places in format lists are back to those below the block that goes on; the line stays
abbrev pub unwound : (count : ℕ) → (kept : List S.Entry) → Layer → Point → Point
unwound count kept φ p =
    record p {
      state = ended_times count p.state;
      control = record p.control {
        layers = drop count p.control.layers;
        entries = texts_back kept φ p.control.entries;
        edits = φ.edits;
      };
    }

-- ---- on-units

abbrev pub newest_with : List (Condition × S.OnUnit) → List Layer → List Layer
newest_with units [] = []
newest_with units (φ ∷ φs) = record φ { units = units } ∷ φs

abbrev pub units_of : List Layer → List (Condition × S.OnUnit)
units_of [] = []
units_of (φ ∷ φs) = φ.units

-- an entry of the newest block's own, in place of an older one, or none any more
abbrev pub established : Condition → M.OnUnit → S.OnUnit → Point → Point
established c u x p =
    record p {
      state = with_activations (M.established c u p.state.activations) p.state;
      control = record p.control {
        layers = newest_with ((c, x) ∷ without_unit c (units_of p.control.layers)) p.control.layers;
      };
    }

abbrev pub reverted : Condition → Point → Point
reverted c p =
    record p {
      state = with_activations (M.reverted c p.state.activations) p.state;
      control = record p.control {
        layers = newest_with (without_unit c (units_of p.control.layers)) p.control.layers;
      };
    }

-- a condition is raised, an act, and its unit is about to be entered
abbrev pub awaiting : (code resume : ℕ) → Point → Point
awaiting code resume p =
    record p {
      control = record p.control {
        waiting = Some (record { code = code; resume = resume; line = p.control.line });
      };
    }
