use Rattle.std.proofs.Common.{sym, ap, arith}
use Rattle.area_heap.specs.declared.fault.AreaFault.TheVariants.{TooSmall}
use Rattle.area_heap.specs.Answers.{done_or}
use Rattle.area_heap.proofs.Calls.{is_copied, copied_bytes}
use Rattle.area_heap.proofs.chain.ChainAreaKeeper.copy_from.Goals as goal

pub returns-clause-answer : goal.returns-clause-answer
returns-clause-answer c =
    let l = c.last-end.ensures.last in
    sym (ap (done_or TooSmall) (is_copied c.args.from.now c.args.bytes.now c.requires.from c.requires.to (omega (arith, l))))

pub returns-clause-bytes : goal.returns-clause-bytes
returns-clause-bytes c =
    copied_bytes c.args.from.now c.args.bytes.now c.copy_between.new.bytes c.last-end.result.end c.requires.from c.requires.to
    c.last-end.ensures.last c.last-end.ensures.inside c.if-end-bytes.false c.copy_between.ensures
