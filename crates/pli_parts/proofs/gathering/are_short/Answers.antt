use Rattle.std.proofs.Common.{◌∙◌, arith, length, sym}
use Rattle.pli_aggregates.proofs.Running.{inside_at}
use Rattle.pli_parts.proofs.Elements.{all_short, next_short, not_short}
use Rattle.pli_parts.proofs.gathering.are_short.Goals as goal

pub overflow_mul-run : goal.overflow_mul-run
overflow_mul-run c =
    let run = c.args.run in
    let inside = inside_at 2 (length c.args.memory.now) run.at run.step run.count c.loop-number.number c.requires
    c.loop-number-test.true in
    omega (arith, inside)

pub overflow_add-run : goal.overflow_add-run
overflow_add-run c =
    let run = c.args.run in
    let inside = inside_at 2 (length c.args.memory.now) run.at run.step run.count c.loop-number.number c.requires
    c.loop-number-test.true in
    omega (arith, inside)

pub half_at-requires : goal.half_at-requires
half_at-requires c =
    let run = c.args.run in
    let inside = inside_at 2 (length c.args.memory.now) run.at run.step run.count c.loop-number.number c.requires
    c.loop-number-test.true in
    omega (arith, inside)

pub returns-then-half_at-most : goal.returns-then-half_at-most
returns-then-half_at-most c =
    let run = c.args.run in
    sym (not_short c.args.most run.at run.step run.count c.loop-number.number c.half_at.result c.args.memory.now
    c.loop-number-test.true c.half_at.ensures c.if-half_at-most.true)
    ∙ c.loop-number.invariant

pub loop-number-preserved : goal.loop-number-preserved
loop-number-preserved c =
    let run = c.args.run in
    sym (next_short c.args.most run.at run.step run.count c.loop-number.number c.half_at.result c.args.memory.now
    c.loop-number-test.true c.half_at.ensures c.if-half_at-most.false)
    ∙ c.loop-number.invariant

pub returns : goal.returns
returns c =
    let run = c.args.run in
    sym (all_short c.args.most run.at run.step run.count c.loop-number.number c.args.memory.now
    c.loop-number-test.false) ∙ c.loop-number.invariant
