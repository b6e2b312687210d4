-- The meaning of a program is there: at every number of acts a run ends, or pauses before the act after these.
use Rattle.std.specs.Prelude.{◌≡◌, ℕ, suc, ◌≤◌, List, [], Some, ⊤}
use Rattle.pli_language.specs.declared.token.Token.{Token}
use Rattle.pli_language.specs.Tokens.{Tokens}
use Rattle.pli_language.specs.Tree as T
use Rattle.pli_language.specs.Parsing.{Spells}
use Rattle.pli_language.specs.Declaring.{declaring_faults}
use Rattle.pli_typing.specs.Resolving.{typing_faults, typed_tree}
use Rattle.pli_meaning.specs.declared.outcome.End.{End}
use Rattle.pli_meaning.specs.declared.outcome.End.TheVariants as E
use Rattle.pli_typing.specs.TypedTree as Y
use Rattle.pli_meaning.specs.World.{World}
use Rattle.pli_meaning.specs.StorageState.{first_state}
use Rattle.pli_meaning.specs.Control.{Flow, Normal, Jump, Return, Ended, Paused, Stuck}
use Rattle.pli_meaning.specs.Executing.{run, meaning}
use Rattle.well_formed_trees.specs.WellFormed.{IsWellFormed}

abbrev pub IsOver : End → Type 0
IsOver E.Running = ⊥
IsOver _ = ⊤

-- what a run comes to with so many acts allowed: it is over with at most as many, or it pauses with exactly as many
abbrev pub EndsOrPauses : {R : Type 0} → (acts : ℕ) → Flow R → Type 0
EndsOrPauses k (Normal r s) = ⊥
EndsOrPauses k (Jump height label s) = ⊥
EndsOrPauses k (Return v s) = ⊥
EndsOrPauses k (Ended s) = (s.world.acts ≤ k) × IsOver s.world.end
EndsOrPauses k (Paused s) = s.world.acts ≡ k
EndsOrPauses k Stuck = ⊥

-- ---- the laws

-- the run of a well-formed program is never stuck, and no jump goes out of it
abbrev pub NeverStuck : Type 0
NeverStuck = (program : Y.Program) (input : List ℕ) (k : ℕ) → IsWellFormed program
    → EndsOrPauses k (run program (suc k) k (first_state input))

-- a world, of at most so many acts, and of exactly as many where the run goes on behind them
pub record IsMeant (program : Y.Program) (input : List ℕ) (k : ℕ) : Type 0 where
  pub world : World
  pub meant : meaning program input k ≡ Some world
  pub few : world.acts ≤ k
  pub going_on : world.end ≡ E.Running → world.acts ≡ k

-- its meaning is there at every number of acts
abbrev pub MeaningThere : Type 0
MeaningThere = (program : Y.Program) (input : List ℕ) (k : ℕ) → IsWellFormed program → IsMeant program input k

-- so it is of each accepted source
abbrev pub AcceptedMeaningThere : Type 0
AcceptedMeaningThere =
    (s : List ℕ) (tokens : List Token) (tree : T.Tree) → Tokens s tokens → Spells s tokens tree
    → declaring_faults tree ≡ [] → typing_faults tree ≡ [] → (input : List ℕ) (k : ℕ)
    → IsMeant (typed_tree tree) input k
