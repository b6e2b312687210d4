use Rattle.block_runs.proofs.InnerEntries.{inner_begins, inner_stands}
use Rattle.block_runs.proofs.laws.inner_blocks_begin.Goals as goal

pub returns : goal.returns
returns c = record {
  comes = λ w code p numbers x credits index f q l there.
      inner_begins credits index f (record { stands = q.0; image = q.1; is = q.2 }) l there;
  stands = λ w code p numbers x q. inner_stands (record { stands = q.0; image = q.1; is = q.2 });
}
