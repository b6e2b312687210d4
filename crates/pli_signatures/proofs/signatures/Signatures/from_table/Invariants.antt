use Rattle.std.proofs.Common.{◌≡◌, List, map, length}
use Rattle.rv_meaning.specs.Tables.{TableSignature, AreSignatures, table_words}
use Rattle.pli_types.specs.View.{template_of}
use Rattle.pli_serving.specs.Templates as T
use Rattle.pli_signatures.specs.Whole.{is_known}
use Rattle.pli_signatures.proofs.Tables.{IsLeft}
use Rattle.pli_signatures.proofs.signatures.Signatures.from_table.Given as goal

abbrev pub invariant-loop-rest : goal.invariant-loop-rest
invariant-loop-rest l = record {
  read : (gs : List TableSignature) → AreSignatures gs → l.table ≡ table_words gs → IsLeft (map template_of l.list.items) (map T.template_of gs) l.rest;
  known : l.wholes.items ≡ map is_known (map template_of l.list.items);
}

abbrev pub decreases-loop-rest : goal.decreases-loop-rest
decreases-loop-rest l = length l.rest
