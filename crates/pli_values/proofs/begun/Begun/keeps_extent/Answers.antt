use Rattle.std.proofs.Common.{◌∙◌, ◌&&◌, ◌==◌, Bool, ap, length, sym}
use Rattle.pli_values.specs.Beginnings.{leaf_of}
use Rattle.pli_values.proofs.Beginnings.{bounds_known}
use Rattle.pli_values.proofs.begun.Begun.keeps_extent.Goals as goal

pub returns-then-is_member : goal.returns-then-is_member
returns-then-is_member c =
    let b = c.args.self.now in
    c.is_empty.ensures
    ∙ ap (λ n. n == 0) (bounds_known b c.args.leaf c.index.result.now c.requires.there c.index.ensures)
    ∙ ap (λ (t : Bool). t && length (leaf_of b c.args.leaf).bounds == 0) (sym c.if-is_member.true ∙ c.is_member.ensures)
