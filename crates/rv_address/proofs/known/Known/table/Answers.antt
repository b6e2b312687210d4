use Rattle.std.proofs.Common.{map, ap, ◌∙◌}
use Rattle.rv_address.specs.Rows.{items_of}
use Rattle.rv_address.proofs.Tabled.{truly}
use Rattle.rv_address.proofs.known.Known.table.Goals as goal

pub returns : goal.returns
returns c = ap (map items_of) c.as_slice.ensures.value ∙ truly _ _ c.args.self.now.exact_table
