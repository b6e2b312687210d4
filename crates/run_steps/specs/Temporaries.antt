-- Temporaries: values that wait in registers while some are left, else in words below the frame.
use Rattle.std.specs.Prelude.{◌≡◌, ℕ, suc, ◌-◌, ◌*◌, ◌^◌, ◌<◌, List, [], length, cond, ◌==◌, if◌then◌else◌}
use Rattle.rv_meaning.specs.Words.{word}
use Rattle.rv_meaning.specs.Memory.{load, store}
use Rattle.rv_meaning.specs.Machine.{memory_size}
use Rattle.pli_coding.specs.Environments.{Taken, is_register_left, save, fetch}
use Rattle.run_steps.specs.Engine.{Base}
use Rattle.run_steps.specs.Bodies.{Ground, reserved}

-- ---- what stands in temporaries

abbrev pub put : (ℕ → ℕ) → ℕ → ℕ → ℕ → ℕ
put xs k x i = if i == k then x else xs i

-- the words below the frame keep what is stored there, and nothing else is touched by that; of a word that is none
-- for the machine nothing is known
pub record Temporaries (g : Ground) : Type 0 where
  pub kept : (t : ℕ → ℕ) (b : Base) (m : List ℕ) (j x : ℕ) → j < g.words → length m ≡ memory_size → x < 2 ^ 32 →
      g.memory t b m → g.memory (put t j x) b (store 4 m (g.frame - 4 * suc j) x)
  pub found : (t : ℕ → ℕ) (b : Base) (m : List ℕ) (j : ℕ) → j < g.words → t j < 2 ^ 32 → g.memory t b m →
      load 4 m (g.frame - 4 * suc j) ≡ t j

-- a value that waits at the temporaries in use
abbrev pub waiting : Taken → (h t : ℕ → ℕ) → ℕ
waiting k h t = if is_register_left k then h k.registers else t k.words

abbrev pub held_with : Taken → ℕ → (ℕ → ℕ) → ℕ → ℕ
held_with k x h = cond (is_register_left k) (put h k.registers x) h

abbrev pub words_with : Taken → ℕ → (ℕ → ℕ) → ℕ → ℕ
words_with k x t = cond (is_register_left k) t (put t k.words x)

-- what waits stays as it was
pub record Stays (k : Taken) (h t h' t' : ℕ → ℕ) : Type 0 where
  pub registers : (i : ℕ) → i < k.registers → h' i ≡ h i
  pub words : (j : ℕ) → j < k.words → t' j ≡ t j

-- ---- save and fetch

-- nothing is known beside what is reserved
abbrev pub nothing : Base → List (ℕ × ℕ)
nothing b = []
