use Rattle.storage_relation.proofs.Numbering.{numbered_shape}
use Rattle.extent_runs.proofs.Signatures.{filled_among, filled_comes, filled_remains, filled_stands}
use Rattle.extent_runs.proofs.laws.signatures_filled.Goals as goal

pub returns : goal.returns
returns c = record {
  comes = filled_comes;
  stands = filled_stands;
  remains = filled_remains;
  among = filled_among;
  shape = λ p u. numbered_shape u p.places.signatures;
}
