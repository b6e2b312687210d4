use Rattle.std.proofs.Common.{arith}
use Rattle.std.proofs.lemmas.Result.{err_from_is_err_and}
use Rattle.rv_meaning.specs.Images.{AreBelow, image, HasBytes}
use Rattle.rv_image.proofs.Parts.{no_room, parts_read}
use Rattle.rv_image.proofs.image.Image.from_bytes.Goals as goal

pub returns-in_err-code : goal.returns-in_err-code
returns-in_err-code c =
    let b = c.args.bytes.now in
    let below : AreBelow 256 b = λ k. omega (arith, c.type_inv.bytes k) in
    let p = err_from_is_err_and c.from_residual-in_err-code.result c.from_residual-in_err-code.ensures.1 in
    rw (p.1, p.2) (no_room b c.in_ok-header.header below c.in_ok-header.ensures)

pub returns-in_err-statics : goal.returns-in_err-statics
returns-in_err-statics c =
    let b = c.args.bytes.now in
    let below : AreBelow 256 b = λ k. omega (arith, c.type_inv.bytes k) in
    let p = err_from_is_err_and c.from_residual-in_err-statics.result c.from_residual-in_err-statics.ensures.1 in
    rw (p.1, p.2) (no_room b c.in_ok-header.header below c.in_ok-header.ensures)

pub returns-in_err-table : goal.returns-in_err-table
returns-in_err-table c =
    let b = c.args.bytes.now in
    let below : AreBelow 256 b = λ k. omega (arith, c.type_inv.bytes k) in
    let p = err_from_is_err_and c.from_residual-in_err-table.result c.from_residual-in_err-table.ensures.1 in
    rw (p.1, p.2) (no_room b c.in_ok-header.header below c.in_ok-header.ensures)

pub invariant_of-result : goal.invariant_of-result
invariant_of-result c =
    let b = c.args.bytes.now in
    let below : AreBelow 256 b = λ k. omega (arith, c.type_inv.bytes k) in
    let all : HasBytes (image c.in_ok-code.code.items c.in_ok-statics.statics.items c.in_ok-header.header.entry c.in_ok-table.table.items) b =
    parts_read b c.in_ok-header.header c.in_ok-code.code.items c.in_ok-statics.statics.items c.in_ok-table.table.items c.statics_start.result c.table_start.result c.table_start-2.result below c.in_ok-header.ensures c.in_ok-code.ensures c.statics_start.ensures c.table_start.ensures c.in_ok-statics.ensures.items c.table_start-2.ensures c.in_ok-table.ensures in
    all.loadable

pub returns : goal.returns
returns c =
    let b = c.args.bytes.now in
    let below : AreBelow 256 b = λ k. omega (arith, c.type_inv.bytes k) in
    parts_read b c.in_ok-header.header c.in_ok-code.code.items c.in_ok-statics.statics.items c.in_ok-table.table.items c.statics_start.result c.table_start.result c.table_start-2.result below c.in_ok-header.ensures c.in_ok-code.ensures c.statics_start.ensures c.table_start.ensures c.in_ok-statics.ensures.items c.table_start-2.ensures c.in_ok-table.ensures
