use Rattle.block_runs.proofs.Endings.{inner_ends, left_below}
use Rattle.block_runs.proofs.laws.inner_blocks_end.Goals as goal

pub returns : goal.returns
returns c = record {
  comes = λ w code q e credits f h there l.
      inner_ends (record { surroundings = w; code = code; point = q; end = e; first = f })
      (record {
        stands = h.0;
        image = h.1;
        newest = h.2.newest;
        holds = h.2.holds;
        texts = h.2.texts;
        there = there;
      }) credits h.2.saved h.2.back l;
  stands = λ w code q e h. left_below w code q e h.0 h.1 h.2.newest;
}
