use Rattle.storage_relation.proofs.TableSignatures.{table_once, table_differs}
use Rattle.storage_relation.proofs.laws.table_differs.Goals as goal

pub returns : goal.returns
returns c = record { once = table_once; differ = table_differs }
