use Rattle.std.proofs.Common.{arith}
use Rattle.pli_signatures.specs.View.{kind_of}
use Rattle.pli_entries.proofs.Served.{cut_kept_is, cut_part_is, served_as}
use Rattle.pli_entries.proofs.entries.Entries.cut.Goals as goal

pub returns-then-mode-lt2 : goal.returns-then-mode-lt2
returns-then-mode-lt2 c = λ call e.
    served_as call c.args.start _ _ _ _ _ _ (cut_part_is call c.args.start c.args.count c.args.mode c.if-mode-lt2.true) (c.cut_part.ensures call e)

pub returns : goal.returns
returns c = λ call e.
    served_as call c.args.start _ _ _ _ _ _ (cut_kept_is call c.args.start c.args.count c.args.mode (kind_of c.in-Some.kind) (omega (arith, c.if-mode-lt2.false)) c.in-Some.ensures) (c.cut_kept.ensures call c.args.start e)
