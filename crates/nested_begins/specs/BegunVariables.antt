-- The variables of a begin block: any number of constant size, with INITIAL values and without.
use Rattle.std.specs.Prelude.{ℕ, ◌+◌, ◌≤◌, ◌≡◌, List, Some, length}
use Rattle.pli_typing.specs.TypedTree as Y
use Rattle.pli_meaning.specs.Control.{Label, finish}
use Rattle.pli_meaning.specs.DeclaredShapes.{declared_variable, variables_of_block}
use Rattle.pli_meaning.specs.Executing.{block_variables_made}
use Rattle.pli_meaning.specs.Raising.{at_line}
use Rattle.pli_meaning.specs.StorageState.{State}
use Rattle.pli_meaning.specs.declared.outcome.End.TheVariants as E
use Rattle.pli_meaning.specs.declared.outcome.Limit.TheVariants as L
use Rattle.pli_coding.specs.Assembly.{size_of}
use Rattle.activation_relation.specs.Layers.{Point, services_of}
use Rattle.activation_relation.specs.Points.{Stands}
use Rattle.run_steps.specs.Items.{Linked}
use Rattle.run_steps.specs.Reach.{Family, cost}
use Rattle.block_runs.specs.Machines.{AreIn, HasParts, IsImage}
use Rattle.program_runs.specs.Statements.{Block, Does, IsAmong, IsBegun}
use Rattle.program_runs.specs.Variables.{Declared}
use Rattle.expression_runs.specs.Variables.{Spot, variable_of}
use Rattle.variable_runs.specs.Known.{IsKnown, place_of}
use Rattle.variable_runs.specs.Lists.{AllMayBegin, Among, AreListed, AreThose, made_code, newest_all}
use Rattle.nested_calls.specs.FullVariables.{Over}
use Rattle.begin_runs.specs.BeginBlocks.{AreMade, Inner, IsBegin, begin_of, begun_in, environment_of, inner_block}
use Rattle.begin_runs.specs.BeginBlocks.{inner_layer, variables_index}

-- the program declares them so, its code is that, and no more serials come between two acts than there are of them
pub record AreAllIn (k : Block) (x : Inner) (p : Point) (numbers : ℕ → ℕ) (xs : List Declared) : Type 0 where
  pub kind : x.head.kind ≡ Y.BeginBlock
  pub those : AreThose 0 xs (variables_of_block x.around.program x.head.number)
  pub listed : AreListed (environment_of k x) 0 xs
  pub code : x.variables ≡ made_code (environment_of k x) xs
  pub made : x.made ≡ newest_all k.call.surroundings.parts xs
  pub parts : (environment_of k x).parts ≡ k.call.surroundings.parts
  pub few : length xs ≤ k.call.surroundings.serials
  pub declared :
      AllMayBegin k.call.surroundings k.call.code (begun_in k p numbers x)
      (inner_layer k.call.surroundings p numbers x) p.control.layers xs

-- the program declares it so, and its code looks for it where it is made
pub record IsOwnIn (k : Block) (x : Inner) (d : Declared) (spot : Spot) : Type 0 where
  pub declared : declared_variable (environment_of k x).program (variable_of spot) ≡ Some d.declared
  pub index : spot.index ≡ d.index
  pub level : spot.level ≡ x.head.level
  pub place : place_of (environment_of k x) spot ≡ d.place

-- one of them passes the limit on what is AUTOMATIC
pub record AreFullIn (k : Block) (x : Inner) (index : ℕ) (p : Point) (numbers : ℕ → ℕ) : Type 0 where
  pub state : State
  pub means :
      block_variables_made (at_line x.around x.head.line) x.head x.head.kind k.call.surroundings.acts
      (begun_in k p numbers x).state
      ≡ finish (E.Limit L.Automatic) k.call.surroundings.acts state
  pub ends :
      (credits : ℕ) (f : Family) →
      Stands k.call.surroundings (begun_in k p numbers x)
      × IsImage k.call.surroundings k.call.code (begun_in k p numbers x) →
      credits + size_of x.variables ≤ cost k.call.code →
      Linked k.call.surroundings.links k.call.code (variables_index k p numbers x index) x.variables →
      AreIn k.call.surroundings (begun_in k p numbers x) numbers (variables_index k p numbers x index) f →
      Over k.call.code credits f (services_of (begun_in k p numbers x)) (E.Limit L.Automatic) state

pub record BegunVariables : Type 0 where
  -- they are made where the block begins
  pub made :
      (k : Block) (x : Inner) (index : ℕ) (p : Point) (numbers : ℕ → ℕ) (xs : List Declared) →
      AreAllIn k x p numbers xs → AreMade k x index p numbers
  -- and each is known there
  pub known :
      (k : Block) (labels : List Label) (x : Inner) (index : ℕ) (p : Point) (numbers : ℕ → ℕ) (xs : List Declared)
      (d : Declared) (spot : Spot) → HasParts k.call.surroundings.parts → AreAllIn k x p numbers xs → Among d xs →
      IsOwnIn k x d spot → IsBegun (inner_block k labels p numbers x index) →
      IsKnown (inner_block k labels p numbers x index) spot d.declared
  -- where they pass the limit the run ends
  pub full :
      (k : Block) (labels : List Label) (x : Inner) (index left' more : ℕ) → IsBegin k x index more →
      ((p : Point) (numbers : ℕ → ℕ) → IsAmong k numbers p → AreFullIn k x index p numbers) →
      Does k labels (begin_of x) index left'
