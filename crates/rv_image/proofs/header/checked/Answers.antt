use Rattle.std.proofs.Common.{◌≤◌, ◌<◌, length, arith}
use Rattle.rv_meaning.specs.Images.{image_end}
use Rattle.rv_image.proofs.Parts.{Begun, word_refused, table_refused, entry_refused, trailing_refused, all_kept, words_kept, entry_kept}
use Rattle.rv_image.proofs.header.checked.Goals as goal

pub returns-then-not-are_instructions : goal.returns-then-not-are_instructions
returns-then-not-are_instructions c =
    let b = c.args.bytes.now in
    let begun : Begun b = record { magic = c.has_magic.ensures.0 c.if-not-has_magic.false; version = c.has_version.ensures.0 c.if-not-has_version.false; lengths = c.lengths_fit.ensures.0 c.if-not-lengths_fit.false } in
    word_refused b begun (λ kept. let t = c.are_instructions.ensures.1 ((words_kept b c.header_at-header.result c.header_at-header.ensures).1 kept) in absurd cc)

pub returns-then-not-lists_signatures : goal.returns-then-not-lists_signatures
returns-then-not-lists_signatures c =
    let b = c.args.bytes.now in
    let begun : Begun b = record { magic = c.has_magic.ensures.0 c.if-not-has_magic.false; version = c.has_version.ensures.0 c.if-not-has_version.false; lengths = c.lengths_fit.ensures.0 c.if-not-lengths_fit.false } in
    let words = (words_kept b c.header_at-header.result c.header_at-header.ensures).0 (c.are_instructions.ensures.0 c.if-not-are_instructions.false) in
    table_refused b begun words (λ kept. let t = c.lists_signatures.ensures.1 kept in absurd cc)

pub returns-then-not-enters_code : goal.returns-then-not-enters_code
returns-then-not-enters_code c =
    let b = c.args.bytes.now in
    let begun : Begun b = record { magic = c.has_magic.ensures.0 c.if-not-has_magic.false; version = c.has_version.ensures.0 c.if-not-has_version.false; lengths = c.lengths_fit.ensures.0 c.if-not-lengths_fit.false } in
    let words = (words_kept b c.header_at-header.result c.header_at-header.ensures).0 (c.are_instructions.ensures.0 c.if-not-are_instructions.false) in
    let table = c.lists_signatures.ensures.0 c.if-not-lists_signatures.false in
    entry_refused b begun words table (λ kept. let t = c.enters_code.ensures.1 ((entry_kept b c.header_at-header.result c.header_at-header.ensures).1 kept) in absurd cc)

pub returns-then-bytes-end : goal.returns-then-bytes-end
returns-then-bytes-end c =
    let b = c.args.bytes.now in
    let h = c.header_at-header.ensures in
    let begun : Begun b = record { magic = c.has_magic.ensures.0 c.if-not-has_magic.false; version = c.has_version.ensures.0 c.if-not-has_version.false; lengths = c.lengths_fit.ensures.0 c.if-not-lengths_fit.false } in
    let words = (words_kept b c.header_at-header.result h).0 (c.are_instructions.ensures.0 c.if-not-are_instructions.false) in
    let table = c.lists_signatures.ensures.0 c.if-not-lists_signatures.false in
    let entry = (entry_kept b c.header_at-header.result h).0 (c.enters_code.ensures.0 c.if-not-enters_code.false) in
    let more : c.end.result < length b = c.if-bytes-end.true in
    trailing_refused b begun words table entry (λ kept. absurd (omega (arith, kept, more, c.end.ensures, h.code_is, h.statics_is, h.table_is)))

pub returns : goal.returns
returns c =
    let b = c.args.bytes.now in
    let h = c.header_at-header.ensures in
    let begun : Begun b = record { magic = c.has_magic.ensures.0 c.if-not-has_magic.false; version = c.has_version.ensures.0 c.if-not-has_version.false; lengths = c.lengths_fit.ensures.0 c.if-not-lengths_fit.false } in
    let words = (words_kept b c.header_at-header.result h).0 (c.are_instructions.ensures.0 c.if-not-are_instructions.false) in
    let table = c.lists_signatures.ensures.0 c.if-not-lists_signatures.false in
    let entry = (entry_kept b c.header_at-header.result h).0 (c.enters_code.ensures.0 c.if-not-enters_code.false) in
    let no_more : length b ≤ c.end.result = c.if-bytes-end.false in
    let whole = begun.lengths.whole in
    let trailing : length b ≤ image_end b = omega (arith, no_more, c.end.ensures, h.code_is, h.statics_is, h.table_is) in
    record {
      header = h;
      inside = omega (arith, no_more, whole, c.end.ensures, h.code_is, h.statics_is, h.table_is);
      kept = all_kept b begun words table entry trailing;
    }
