use Rattle.std.proofs.Common.{◌≡◌, ◌++◌, ◌+◌, ◌∙◌, ap, vec_len, arith}
use Rattle.pli_meaning.specs.Stream.{blanks}
use Rattle.pli_edit.proofs.Growing.{grown, three-behind}
use Rattle.pli_edit.proofs.line.append.Goals as goal

pub returns : goal.returns
returns c =
    let old = c.reserve.new.self in
    let middle = c.extend_from_slice.new.self in
    let before : c.resize.new.self.items ≡ old.items ++ blanks c.args.before =
    grown old.items c.resize.new.self.items (c.len-length.result + c.args.before) (vec_len old) c.args.before 32
    (rw c.unwrap.ensures at c.resize.ensures.items) (omega arith) (omega arith)
    in
    let text : middle.items ≡ c.resize.new.self.items ++ c.args.text.now = rw c.unwrap-2.ensures at c.extend_from_slice.ensures.items in
    let behind : c.resize-2.new.self.items ≡ middle.items ++ blanks c.args.behind =
    grown middle.items c.resize-2.new.self.items (c.len-end.result + c.args.behind) (vec_len middle) c.args.behind 32
    (rw c.unwrap-3.ensures at c.resize-2.ensures.items) (omega arith) (omega arith)
    in
    three-behind c.args.bytes.now.items (blanks c.args.before) c.args.text.now (blanks c.args.behind) c.resize.new.self.items middle.items c.resize-2.new.self.items
    (before ∙ ap (λ l. l ++ blanks c.args.before) c.reserve.ensures.items) text behind
