use Rattle.activation_relation.proofs.PointSteps as P
use Rattle.activation_relation.proofs.laws.points_go.Goals as goal

pub returns : goal.returns
returns c = record {
  acted = P.acted_stands;
  raised = P.raised_stands;
  awaited = P.awaited_stands;
  entered = P.entered_stands;
  left = P.left_stands;
  unwound = P.unwound_stands;
  established = P.established_stands;
  reverted = P.reverted_stands;
  over = P.stacks_over;
}
