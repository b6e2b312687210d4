-- What is taken of leaves that were found.
use Rattle.std.specs.Prelude.{ℕ, Bool, List, map}
use Rattle.std.specs.List.{list_all}
use Rattle.pli_typing.specs.Signatures.{LeafKind}
use Rattle.pli_types.specs.View.{pair_of}
use Rattle.pli_serving.specs.AggregateServices.{goes_into, taken_bytes}
use Rattle.pli_serving.specs.ServiceState as S
use Rattle.pli_serving.specs.Values.{value_at}
use Rattle.pli_signatures.specs.View.{kind_of}
use Rattle.pli_parts.specs.Leaves.{addresses_of}
use Rattle.pli_parts.specs.declared.leaf.PartLeaf.{PartLeaf}

abbrev pub leaf_taken : (memory : List ℕ) → PartLeaf → S.TakenLeaf
leaf_taken m l =
    record {
      kind = kind_of l.kind;
      bounds = map pair_of l.bounds.items;
      elements = map (λ a. taken_bytes (kind_of l.kind) (value_at (kind_of l.kind) a m)) (addresses_of l);
    }

abbrev pub has_value : LeafKind → Bool
has_value kind = goes_into kind kind

-- whether all have values
abbrev pub have_values : List PartLeaf → Bool
have_values = list_all (λ l. has_value (kind_of l.kind))
