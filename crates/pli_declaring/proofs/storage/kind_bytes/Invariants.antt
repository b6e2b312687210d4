use Rattle.std.proofs.Common.{◌≡◌, ◌+◌, map, drop}
use Rattle.std.specs.List.{sum_by}
use Rattle.pli_language.specs.Declaring.{attribute_bytes}
use Rattle.pli_language.specs.View.{attribute_of}
use Rattle.pli_declaring.specs.Bytes.{capped}
use Rattle.pli_declaring.proofs.storage.kind_bytes.Given as goal

abbrev pub invariant-loop-attribute : goal.invariant-loop-attribute
invariant-loop-attribute l = record {
  few : l.bytes ≡ capped l.bytes;
  sum : capped (l.bytes + sum_by (attribute_bytes (map attribute_of l.attributes)) (map attribute_of (drop l.attribute-index l.attributes))) ≡ capped (sum_by (attribute_bytes (map attribute_of l.attributes)) (map attribute_of l.attributes));
}
