use Rattle.rv_image.proofs.image.Image.loadable.Goals as goal

pub returns-then-not-are_instructions : goal.returns-then-not-are_instructions
returns-then-not-are_instructions c =
    λ all.
    let tested = rw c.deref-4.ensures.value at c.are_instructions.ensures in
    let t = tested.1 all.decodable in
    absurd (cc)

pub invariant_of-result : goal.invariant_of-result
invariant_of-result c =
    let words = rw c.deref-4.ensures.value at c.are_instructions.ensures in
    let signatures = rw c.deref-5.ensures.value at c.in_ok-lists_signatures.ensures in
    let lengths = rw (c.deref.ensures.value, c.deref-2.ensures.value, c.deref-3.ensures.value) at c.lengths_fit.ensures in
    let begins = rw c.deref-else-not-lengths_fit.ensures.value at c.enters_code.ensures in
    let fit = lengths.0 c.if-not-lengths_fit.false in
    let begun = begins.0 c.if-not-enters_code.false in
    record {
      some_code = fit.0;
      code_fits = fit.1;
      decodable = words.0 c.if-not-are_instructions.false;
      entry_aligned = begun.0;
      entry_in_code = begun.1;
      statics_fit = fit.2;
      table_fits = fit.3;
      table_lists = signatures.0 c.if-not-branch.false;
    }
