use Rattle.std.proofs.Common.{◌<◌, ◌≤◌, ◌*◌, ◌∙◌, List, ℕ, ap, arith, length, subst, sym}
use Rattle.pli_serving.specs.Values.{element_size}
use Rattle.pli_signatures.specs.View.{kind_of}
use Rattle.pli_aggregates.specs.Runs.{standing}
use Rattle.pli_parts.specs.Putting.{elements_put}
use Rattle.pli_parts.proofs.Moving.{moved_whole, moved_within}
use Rattle.pli_parts.proofs.storing.put_run.Goals as goal

pub move_run-requires-clause-within : goal.move_run-requires-clause-within
move_run-requires-clause-within c =
    let run = c.args.run in
    let some : 0 < run.count = grind (arith, c.if-run-eq0.false) in
    moved_within (kind_of c.args.kind) (kind_of c.args.taken.now.kind) run.at run.step run.count
    (length c.args.memory.now) (c.moves.ensures c.if-not-moves.false) some c.requires.within

pub move_run-requires-clause-whole : goal.move_run-requires-clause-whole
move_run-requires-clause-whole c =
    let run = c.args.run in
    let source = kind_of c.args.taken.now.kind in
    moved_whole (kind_of c.args.kind) source run.step run.count (length c.deref.result.now)
    (c.moves.ensures c.if-not-moves.false)
    (subst (λ (bytes : List ℕ). element_size source * run.count ≤ length bytes) (sym c.deref.ensures.value)
    c.requires.whole)

pub returns : goal.returns
returns c =
    let run = c.args.run in
    let target = kind_of c.args.kind in
    let source = kind_of c.args.taken.now.kind in
    c.move_run.ensures target source (c.moves.ensures c.if-not-moves.false)
    ∙ ap (λ (bytes : List ℕ). elements_put target source bytes 0 (standing run.at run.step run.count)
    c.args.memory.now) c.deref.ensures.value
