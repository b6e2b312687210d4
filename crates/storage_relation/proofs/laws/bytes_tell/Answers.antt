use Rattle.std.proofs.Common.{refl}
use Rattle.storage_relation.proofs.Rows.{no_bit, no_name, varying_text, pair_read}
use Rattle.storage_relation.proofs.laws.bytes_tell.Goals as goal

pub returns : goal.returns
returns c = record {
  bit_read = refl;
  bit = no_bit;
  name_read = refl;
  name = no_name;
  text = varying_text;
  spelled = refl;
  numbers = pair_read;
}
