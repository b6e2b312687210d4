-- Lists of procedures, functions, begin blocks and units whose statements do what they mean through phases: ON, ON
-- with SYSTEM and REVERT stand anywhere in them.
use Rattle.std.specs.Prelude.{ℕ, List, [], ◌++◌}
use Rattle.pli_typing.specs.TypedTree as Y
use Rattle.pli_meaning.specs.Executing.{labels_in}
use Rattle.pli_coding.specs.Environments.{none_taken}
use Rattle.pli_coding.specs.Statements.{stmts_code}
use Rattle.activation_relation.specs.Layers.{Point}
use Rattle.run_steps.specs.Items.{Linked}
use Rattle.program_runs.specs.Calls.{left_over}
use Rattle.program_runs.specs.Statements.{Block}
use Rattle.unit_runs.specs.Establishing.{OnUnit}
use Rattle.unit_runs.specs.InnerLists.{ListDoes}
use Rattle.jump_runs.specs.Functions.{EndDoes, FunctionDoes, IsFunctionList, behind_list}
use Rattle.phase_runs.specs.Forms.{IsInside}
use Rattle.phase_runs.specs.Phases.{EachThrough, in_phase}
use Rattle.phase_runs.specs.Units.{phases_of}

pub record ListsEnd : Type 0 where
  -- the block goes on behind its list with the units that it has by then, or it is left
  pub list :
      (k : Block) (ons : List (OnUnit × ℕ)) (body : Y.Stmts) (index left' : ℕ) →
      IsInside 0 k (phases_of k ons) body index →
      EachThrough 0 k (phases_of k ons) (labels_in body ++ []) body index left' →
      Linked k.call.surroundings.links k.call.code index (stmts_code k.environment none_taken body) →
      ListDoes k body index left'
  -- a function comes to its end or jumps out, if ERROR behind its list does what it means in each phase
  pub function :
      (k : Block) (ons : List (OnUnit × ℕ)) (body : Y.Stmts) (index : ℕ) → IsFunctionList k body index →
      IsInside 0 k (phases_of k ons) body index →
      EachThrough 0 k (phases_of k ons) (labels_in body ++ []) body index left_over →
      ((first : Point) → phases_of k ons first → EndDoes (in_phase k first) (behind_list k body index)) →
      FunctionDoes k body index
