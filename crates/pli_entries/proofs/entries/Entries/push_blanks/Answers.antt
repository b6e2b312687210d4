use Rattle.std.proofs.Common.{length, ap, arith}
use Rattle.std.specs.Prelude.{reverse}
use Rattle.pli_entries.proofs.Stacks.{higher}
use Rattle.pli_entries.proofs.entries.Entries.push_blanks.Goals as goal

pub invariant_of-self-2 : goal.invariant_of-self-2
invariant_of-self-2 c =
    let longer = ap length c.in_ok-push_blanks.ensures in
    higher (reverse c.self.inside.aggregates.items) (length c.self.inside.texts) (length c.push_blanks.new.self)
    c.self.invariant (omega (arith, longer))
