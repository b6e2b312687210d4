use Rattle.std.proofs.Common.{◌+◌, ◌++◌, arith}
use Rattle.pli_serving.specs.Bytes.{number_bytes}
use Rattle.pli_values.proofs.Parts.{behind_part}
use Rattle.pli_values.proofs.name.put_parts.Goals as goal

pub returns : goal.returns
returns c =
    let first = number_bytes 4 c.args.kind in
    let second = number_bytes 4 c.args.offset in
    let m = c.args.memory.now in
    let two = behind_part first second m _ _ c.args.at (c.args.at + 4) c.put_word.ensures (omega arith) (omega arith) c.put_word-2.ensures in
    behind_part (first ++ second) (number_bytes 8 c.args.serial) m _ _ c.args.at (c.args.at + 8) two (omega arith) (omega arith) c.put_long.ensures
