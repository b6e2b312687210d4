-- The laws of runs, for conditions that a test tells; the proofs have them for any.
use Rattle.std.specs.Prelude.{ℕ, ◌+◌, ◌^◌, ◌<◌, ◌≤◌, ◌≡◌, Bool, true, List, [], length, Some}
use Rattle.rv_meaning.specs.declared.instr.Instr.{Instr}
use Rattle.rv_meaning.specs.Machine.{Loaded}
use Rattle.pli_serving.specs.ServiceState.{Services}
use Rattle.pli_coding.specs.Assembly.{Code, size_of}
use Rattle.pli_coding.specs.Linking.{Links, marks_from, linked}
use Rattle.image_runs.specs.Runs as R
use Rattle.image_runs.specs.Runs.{Whole, Runs}
use Rattle.run_steps.specs.Unlimited.{run_on}
use Rattle.run_steps.specs.Engine.{Base, HasAt, Path, Passed, address, most_code}
use Rattle.run_steps.specs.Giving.{Limits, GivesFew}
use Rattle.run_steps.specs.Growing.{Grows}
use Rattle.run_steps.specs.Reach.{Family, GiveFew, Reach, reached}
use Rattle.run_steps.specs.Owing.{Between}
use Rattle.run_steps.specs.Linking.{HasItems}
use Rattle.run_steps.specs.Items.{Items, Linked, At}

-- ---- tests of machines

abbrev pub PlaceTest : Type 0
PlaceTest = ℕ → Whole → Bool

abbrev pub at_places : PlaceTest → ℕ → Whole → Type 0
at_places test i w = test i w ≡ true

abbrev pub BaseTest : Type 0
BaseTest = Base → Whole → Bool

abbrev pub at_bases : BaseTest → Base → Whole → Type 0
at_bases test b w = test b w ≡ true

-- ---- straight code

pub record CodeRuns : Type 0 where
  pub instructions :
      (code : List Instr) (b : Base) (i : ℕ) (xs : List Instr) (w : Whole) (test : PlaceTest) →
      i + length xs ≤ most_code → w.machine.pc ≡ address b i → HasAt code i xs →
      Path code b i xs w (at_places test) → Passed code b i xs w (at_places test)
  -- with items that take two, and a credit for each word
  pub items :
      (links : Links) (code : List Instr) (i : ℕ) (xs : Code) (credits : ℕ) (f : Family) (v v' : Services)
      (test : BaseTest) → Linked links code i xs → v.world.acts ≤ v'.world.acts →
      ((b : Base) → ((f b).machine.pc ≡ address b i) × Items links code b i xs (f b) (at_bases test b)) →
      Reach code credits f v (credits + size_of xs) v' (λ b w. At b (i + size_of xs) (at_bases test b) w)

pub record LinkedCodeStands : Type 0 where
  pub whole : (links : Links) (xs : Code) → links.marks ≡ marks_from 0 xs → HasItems links (linked links 0 xs) 0 xs
  pub size : (links : Links) (at : ℕ) (xs : Code) → length (linked links at xs) ≡ size_of xs

-- ---- runs

abbrev pub RunsGrow : Type 0
RunsGrow = (n : ℕ) (p : Loaded) (w : Whole) → Grows n w (run_on n p (Runs w))

abbrev pub RunsLimited : Type 0
RunsLimited =
    (n : ℕ) (p : Loaded) (w : Whole) → w.services.serials + n < 2 ^ 64 → run_on n p (Runs w) ≡ R.run_on n p (Runs w)

-- ---- serials

pub record SerialsGiven : Type 0 where
  -- an instruction makes an act, or gives one serial at most
  pub counted :
      (n : ℕ) (p : Loaded) (w x : Whole) → run_on n p (Runs w) ≡ Runs x →
      x.services.serials + x.services.world.acts ≤ w.services.serials + w.services.world.acts + n
  -- what is reached lies on the same run
  pub reached :
      (code : List Instr) (limits : Limits) (i i' : ℕ) (f : Family) (v v' : Services) (test : BaseTest)
      (r : Reach code i f v i' v' (at_bases test)) → GiveFew code limits f → GiveFew code limits (reached r)

-- ---- stretches

pub record StretchesJoin : Type 0 where
  pub then' :
      (code : List Instr) (i i' i'' : ℕ) (f : Family) (v v' v'' : Services) (first second : BaseTest) →
      (r : Reach code i f v i' v' (at_bases first)) → Reach code i' (reached r) v' i'' v'' (at_bases second) →
      Reach code i f v i'' v'' (at_bases second)
  -- where no act is made, the credits count the instructions
  pub counted :
      (code : List Instr) (i i' : ℕ) (f : Family) (v v' : Services) (test : BaseTest) →
      (r : Reach code i f v i' v' (at_bases test)) → v'.world.acts ≡ v.world.acts → r.count + i ≤ i'
  -- who began with so many credits less has the credits that are left, once the debt is paid
  pub repaid :
      (code : List Instr) (i i' debt wanted : ℕ) (f f' : Family) (v v' : Services) → i' ≤ wanted + debt →
      Between code (i + debt) f v i' f' v' → Between code i f v wanted f' v'
