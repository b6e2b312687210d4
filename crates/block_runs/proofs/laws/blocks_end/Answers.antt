use Rattle.block_runs.proofs.Endings.{ends, ended_stands}
use Rattle.run_steps.proofs.Reach.{reach_map}
use Rattle.block_runs.proofs.laws.blocks_end.Goals as goal

pub returns : goal.returns
returns c = record {
  comes = λ w code q e function given credits f h there l.
      reach_map _
      (ends function (record { surroundings = w; code = code; point = q; end = e; first = f })
      (record { stands = h.0; image = h.1; is = h.2; back = h.3; there = λ b. (there b).0 }) given credits
      h.4 (λ b. (there b).1) l)
      (λ b y o. (o.is, o.given_is));
  stands = λ w code q e h. ended_stands w code q e h.0 h.1 h.2;
}
