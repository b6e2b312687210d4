-- The end of a procedure: its code, and what is known where that begins.
use Rattle.std.specs.Prelude.{ℕ, ◌+◌, ◌%◌, ◌^◌, ◌≤◌, pos, ⊤, ◌≡◌, [], ◌∷◌, ◌++◌, Option, None, Some}
use Rattle.rv_meaning.specs.Memory.{load}
use Rattle.pli_serving.specs.ServiceState as S
use Rattle.pli_coding.specs.Assembly.{Code}
use Rattle.pli_coding.specs.Entries.{block_left}
use Rattle.pli_coding.specs.Instructions.{load_word}
use Rattle.pli_coding.specs.Procedures.{frame_returned}
use Rattle.pli_coding.specs.Registers.{a0, frame_register}
use Rattle.image_runs.specs.Runs.{Whole}
use Rattle.activation_relation.specs.Changes.{Keeps}
use Rattle.activation_relation.specs.Entering.{BlockEnd, HoldsBefore}
use Rattle.activation_relation.specs.Layers.{Layer, Point}

-- a procedure leaves nothing, a function a word of its frame in a0
abbrev pub result_code : (function : Option ℕ) → Code
result_code None = []
result_code (Some offset) = load_word a0 frame_register (pos offset)

abbrev pub ending_code : Layer → (function : Option ℕ) → Code
ending_code φ function = block_left 0 ++ (result_code function ++ frame_returned φ.words φ.saved)

-- it ends above the others, where its call said that it goes back
pub record IsEnding (q : Point) (e : BlockEnd) : Type 0 where
  pub newest : q.control.layers ≡ e.layer ∷ e.others
  pub kind : e.layer.kind ≡ S.ProcedureBlock
  pub back : e.back ≡ e.layer.back
  pub holds : HoldsBefore e.layer e.before e.after
  pub texts : Keeps 0 e.layer.entries q.control.entries e.kept

-- a word of the frame
abbrev pub IsWord : Option ℕ → Type 0
IsWord None = ⊤
IsWord (Some offset) = (offset % 4 ≡ 0) × (offset + 4 ≤ 2 ^ 12)

-- what a0 has then
abbrev pub HasGiven : Layer → (function : Option ℕ) → (given : ℕ) → Whole → Type 0
HasGiven φ None given y = given ≡ 0
HasGiven φ (Some offset) given y = load 4 y.machine.memory (φ.at + offset) ≡ given
