use Rattle.std.proofs.Common.{arith}
use Rattle.pli_entries.proofs.Served.{number_is, served_as}
use Rattle.pli_entries.proofs.entries.Entries.to_number.Goals as goal

pub returns : goal.returns
returns c = λ call e.
    served_as call c.args.mode _ _ _ _ _ _ (number_is call c.args.mode (omega (arith, c.if-mode-ge2.false))) (c.tell_word.ensures call e)
