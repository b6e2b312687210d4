use Rattle.std.proofs.Common.{◌∙◌}
use Rattle.rv_image.proofs.Tabled.{table_tested}
use Rattle.rv_image.proofs.table.lists_signatures.Goals as goal

pub returns : goal.returns
returns c =
    table_tested c.args.words.now c.deref.result.now c.is_table.result c.bytes_of.ensures.below (c.deref.ensures.value ∙ c.in_ok-bytes.ensures.bytes) c.is_table.ensures
