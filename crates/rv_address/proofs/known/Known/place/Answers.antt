use Rattle.std.proofs.Common.{[], sym, ap, ◌∙◌, arith}
use Rattle.std.specs.Prelude.{slice_get, unwrap_or}
use Rattle.pli_typing.specs.TypedStatementView.{program_of}
use Rattle.pli_coding.specs.Frames.{variable_place}
use Rattle.pli_frames.specs.Parts.{parts}
use Rattle.rv_address.proofs.Tabled.{truly}
use Rattle.rv_address.proofs.Summed.{at_first, behind, of_none, row_here}
use Rattle.rv_address.proofs.known.Known.place.Goals as goal

pub returns-then-variable-eq0 : goal.returns-then-variable-eq0
returns-then-variable-eq0 c =
    at_first c.args.start (unwrap_or (slice_get (program_of c.args.self.now.typed.now).variables c.args.variable.block) [])
    ∙ ap (λ n. variable_place parts c.args.start (unwrap_or (slice_get (program_of c.args.self.now.typed.now).variables c.args.variable.block) []) n) (sym (omega arith))

pub returns-then-len-lt2 : goal.returns-then-len-lt2
returns-then-len-lt2 c =
    of_none c.args.start (unwrap_or (slice_get (program_of c.args.self.now.typed.now).variables c.args.variable.block) []) c.args.variable.index c.index-sums.result.now.items
    (row_here (program_of c.args.self.now.typed.now) c.args.self.now.sums.items c.args.variable.block c.index-sums.result.now (truly _ _ c.args.self.now.exact_sums) (omega arith) c.index-sums.ensures)
    (omega arith)

pub returns : goal.returns
returns c =
    behind c.args.start (unwrap_or (slice_get (program_of c.args.self.now.typed.now).variables c.args.variable.block) []) c.args.variable.index c.min.result c.index-before.result.now c.min-2.result c.index-sums.result.now.items
    (row_here (program_of c.args.self.now.typed.now) c.args.self.now.sums.items c.args.variable.block c.index-sums.result.now (truly _ _ c.args.self.now.exact_sums) (omega arith) c.index-sums.ensures)
    (λ e. absurd (omega (arith, e))) (omega arith) (omega arith) c.index-before.ensures (omega arith)
