-- A called procedure saves the place to return to, and so many registers that hold temporaries, in its frame, and
-- restores them at its end.
use Rattle.std.specs.Prelude.{◌≡◌, ℕ, zero, suc, ◌+◌, ◌*◌, ◌%◌, ◌^◌, ◌<◌, ◌≤◌, List, [], ◌∷◌}
use Rattle.rv_meaning.specs.Memory.{load, store}
use Rattle.run_steps.specs.Engine.{Base}
use Rattle.run_steps.specs.Bodies.{Ground, Regs, Free}
use Rattle.run_steps.specs.Temporaries.{put}

-- ---- what stands then

-- the place to return to, and of the first so many registers what a word holds
pub record Saved (at back : ℕ) (h : ℕ → ℕ) (count : ℕ) (m : List ℕ) : Type 0 where
  pub return : load 4 m at ≡ back
  pub registers : (j : ℕ) → j < count → load 4 m (at + (8 + 4 * j)) ≡ h j % 2 ^ 32

-- beside what stands already
abbrev pub saved_ground : Ground → (at : ℕ) → (back : Base → ℕ) → (h : ℕ → ℕ) → (count : ℕ) → Ground
saved_ground g at back h count =
    record {
      frame = g.frame;
      free = g.free;
      words = g.words;
      memory = λ t b m. g.memory t b m × Saved at (back b) h count m;
      whole = g.whole;
      above_code = g.above_code;
      inside = g.inside;
    }

-- where it stands, above all that stands already
pub record SavingAt (g : Ground) (t : ℕ → ℕ) (at : ℕ) : Type 0 where
  pub whole : at % 4 ≡ 0
  pub high : 7 * 2 ^ 20 ≤ at
  pub room : at + 164 ≤ 15 * 2 ^ 20
  pub keeps : (b : Base) (m : List ℕ) (p x : ℕ) → at ≤ p → g.memory t b m → g.memory t b (store 4 m p x)

-- ---- registers

-- what is known when a procedure is called or an on-unit begins: where its frame will stand, the frame of the block
-- that declares it, how many texts go with it, and where it returns to
abbrev pub called_regs : (at base texts : ℕ) → (back : Base → ℕ) → Base → List (ℕ × ℕ)
called_regs at base texts back b = (5, b.at + at) ∷ (10, b.at + base) ∷ (12, texts) ∷ (1, back b) ∷ []

-- what is known of registers meanwhile: where the frame will stand and where it returns to, whatever is far
pub record Saving (at : ℕ) (back : Base → ℕ) (rs : Base → List (ℕ × ℕ)) : Type 0 where
  pub frame : (b : Base) (y : ℕ → ℕ) → Regs (rs b) y → y 5 ≡ b.at + at
  pub return : (b : Base) (y : ℕ → ℕ) → Regs (rs b) y → y 1 ≡ back b
  pub far : Free rs 31

-- ---- on the way back

-- what the registers hold then
abbrev pub held_again : (saved : ℕ → ℕ) → (n left : ℕ) → (ℕ → ℕ) → ℕ → ℕ
held_again saved n zero h = h
held_again saved n (suc left) h = held_again saved (suc n) left (put h n (saved n % 2 ^ 32))

-- the frame has what was saved
pub record SavedIn (g : Ground) (t : ℕ → ℕ) (back : Base → ℕ) (saved : ℕ → ℕ) (held' : ℕ) : Type 0 where
  pub most : held' ≤ 7
  pub high : 7 * 2 ^ 20 ≤ g.frame
  pub room : g.frame + 164 ≤ 15 * 2 ^ 20
  pub has : (b : Base) (m : List ℕ) → g.memory t b m → Saved g.frame (back b) saved held' m
