-- A block whose static ancestors are active at each level around it: what a call of theirs may name.
use Rattle.std.specs.Prelude.{ℕ, ◌<◌, ◌≤◌, ◌≡◌, cond, Bool, [], ◌∷◌, ◌++◌}
use Rattle.pli_meaning.specs.StorageState.{ancestor, ancestor_at, height_of}
use Rattle.pli_coding.specs.Assembly.{Code}
use Rattle.pli_coding.specs.Frames.{display, words_place}
use Rattle.pli_coding.specs.Instructions.{load_word, move, number, plus}
use Rattle.pli_coding.specs.Registers.{a0, a1, a2, frame_register}
use Rattle.activation_relation.specs.CodeStores.{most_levels}
use Rattle.program_runs.specs.Statements.{Block}

-- where its first statement begins: an ancestor's ancestors are the block's own
pub record IsNested (k : Block) : Type 0 where
  pub own : k.environment.level ≡ k.call.beginning.layer.level
  pub few : k.environment.level < most_levels
  pub some : (n : ℕ) → n ≤ k.environment.level → 0 < height_of (ancestor_at k.first.state n)
  pub same :
      (outer n : ℕ) → n ≤ outer → outer ≤ k.environment.level →
      ancestor k.first.state.activations (height_of (ancestor_at k.first.state outer)) n ≡ ancestor_at k.first.state n

-- the height of what is called in it, as its static parent at a level
abbrev pub parent_at : Block → (level : ℕ) → ℕ
parent_at k level = height_of (ancestor_at k.first.state level)

-- ---- what stands before the instruction that calls

-- the frame of the static parent comes into a0: it is the running one, or its display has it
abbrev pub parent_code : (own : Bool) → (level : ℕ) → Code
parent_code own level =
    cond own [] (load_word a0 frame_register (display level)) ++ (move a0 (cond own frame_register a0) ∷ [])

-- no list of arguments, of which none is a text
abbrev pub given_code : (own : Bool) → (words level : ℕ) → Code
given_code own words level =
    plus a1 frame_register (words_place words 0) ++ (number a2 0 ++ parent_code own level)
