use Rattle.std.proofs.Common.{ℕ, List, ◌↔◌, IsTrue, subst}
use Rattle.rv_meaning.specs.Tables.{IsTable}
use Rattle.rv_image.proofs.Parts.{table_part}
use Rattle.rv_image.proofs.header.lists_signatures.Goals as goal

pub returns : goal.returns
returns c =
    let part = table_part c.args.bytes.now c.args.header c.table_start.result c.end.result c.requires.header c.table_start.ensures c.end.ensures c.requires.inside in
    subst (λ (ws : List ℕ). IsTrue c.is_table.result ↔ IsTable ws) part c.is_table.ensures
