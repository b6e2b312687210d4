use Rattle.std.proofs.Common.{◌∙◌, ap, arith, length, pos, rules, subst, sym, SFits, w32}
use Rattle.area_heap.specs.Answers.{bytes_or, offset_or_fault, placed_or}
use Rattle.controlled_gens.specs.Stacks.{KeepsOut}
use Rattle.pli_serving.specs.Bytes.{with_bytes}
use Rattle.pli_serving.specs.Values.{generation_bytes}
use Rattle.pli_allocation.specs.Placing.{IsWithin, bytes_placed}
use Rattle.pli_allocation.proofs.Placements.{kept_after, within_so}
use Rattle.pli_pushing.specs.Pushing.{offset_of, stacks_pushed}
use Rattle.pli_pushing.proofs.Pushes.{full_is, placed_is, stacks_same, stacks_so}
use Rattle.pli_pushing.proofs.stacking.push_in.Goals as goal

pub put_at-requires : goal.put_at-requires
put_at-requires g c =
    let k = g.K.AreaKeeper.keeper in
    let b = c.args.beginning.now in
    let fits : SFits w32 (pos 0) = search rules in
    let placed = c.in-Ok.ensures.pushed.0 in
    let same = ap length c.deref.ensures.value in
    kept_after k b.size c.args.signature (pos 0) c.args.heap.now c.in-Ok.offset c.push.new.heap (length c.deref.result.now) c.keeps.ensures c.places_at_least.ensures c.requires.area (omega arith) fits (sym (ap offset_or_fault placed)) (sym (ap (placed_or c.args.heap.now) placed)) (omega (arith, same, b.few))

pub returns-in-Ok-clause-answer : goal.returns-in-Ok-clause-answer
returns-in-Ok-clause-answer g c = λ g' i.
    let k = g.K.AreaKeeper.keeper in
    let b = c.args.beginning.now in
    let fits : SFits w32 b.extent = search rules in
    let it = placed_is k c.args.signature c.args.heap.now b g' c.in-Ok.offset c.push.new.heap c.keeps.ensures c.places_at_least.ensures c.requires.area (omega arith) fits b.few i c.in-Ok.ensures.pushed.0 in
    sym (ap offset_of it.some)

pub returns-in-Ok-clause-bytes : goal.returns-in-Ok-clause-bytes
returns-in-Ok-clause-bytes g c = λ g' i.
    let k = g.K.AreaKeeper.keeper in
    let b = c.args.beginning.now in
    let fits : SFits w32 b.extent = search rules in
    let it = placed_is k c.args.signature c.args.heap.now b g' c.in-Ok.offset c.push.new.heap c.keeps.ensures c.places_at_least.ensures c.requires.area (omega arith) fits b.few i c.in-Ok.ensures.pushed.0 in
    c.put_at.ensures
    ∙ ap (λ xs. with_bytes xs (k.data_at c.in-Ok.offset c.push.new.heap) c.push.new.heap) (c.deref.ensures.value ∙ it.content)
    ∙ sym (ap (λ o. bytes_or c.args.heap.now (bytes_placed k (generation_bytes g') o)) it.some)

pub returns-in-Ok-clause-within : goal.returns-in-Ok-clause-within
returns-in-Ok-clause-within g c = λ g' i.
    let k = g.K.AreaKeeper.keeper in
    let b = c.args.beginning.now in
    let fits : SFits w32 b.extent = search rules in
    let it = placed_is k c.args.signature c.args.heap.now b g' c.in-Ok.offset c.push.new.heap c.keeps.ensures c.places_at_least.ensures c.requires.area (omega arith) fits b.few i c.in-Ok.ensures.pushed.0 in
    within_so k c.args.signature c.args.heap.now b g' c.in-Ok.offset c.push.new.heap it

pub returns-in-Ok-clause-stacks : goal.returns-in-Ok-clause-stacks
returns-in-Ok-clause-stacks g c = λ g' i.
    let k = g.K.AreaKeeper.keeper in
    let b = c.args.beginning.now in
    let fits : SFits w32 b.extent = search rules in
    let it = placed_is k c.args.signature c.args.heap.now b g' c.in-Ok.offset c.push.new.heap c.keeps.ensures c.places_at_least.ensures c.requires.area (omega arith) fits b.few i c.in-Ok.ensures.pushed.0 in
    stacks_so c.args.variable c.args.signature c.in-Ok.offset c.args.controlled.now c.push.new.self c.push.new.heap _ it.some c.in-Ok.ensures.pushed.1 c.push.ensures.others

pub returns-in-Err-HeapFull-clause-answer : goal.returns-in-Err-HeapFull-clause-answer
returns-in-Err-HeapFull-clause-answer g c = λ g' i.
    let k = g.K.AreaKeeper.keeper in
    let b = c.args.beginning.now in
    let fits : SFits w32 b.extent = search rules in
    let none = full_is k c.args.signature c.args.heap.now b g' c.keeps.ensures c.places_at_least.ensures c.requires.area (omega arith) fits i (subst (KeepsOut (k.allocated b.size c.args.signature (pos 0) c.args.heap.now)) c.in-Err-HeapFull.field-0-is c.in-Err-HeapFull.ensures.pushed.0) in
    sym (ap offset_of none)

pub returns-in-Err-HeapFull-clause-bytes : goal.returns-in-Err-HeapFull-clause-bytes
returns-in-Err-HeapFull-clause-bytes g c = λ g' i.
    let k = g.K.AreaKeeper.keeper in
    let b = c.args.beginning.now in
    let fits : SFits w32 b.extent = search rules in
    let none = full_is k c.args.signature c.args.heap.now b g' c.keeps.ensures c.places_at_least.ensures c.requires.area (omega arith) fits i (subst (KeepsOut (k.allocated b.size c.args.signature (pos 0) c.args.heap.now)) c.in-Err-HeapFull.field-0-is c.in-Err-HeapFull.ensures.pushed.0) in
    c.in-Err-HeapFull.ensures.pushed.2 ∙ sym (ap (λ o. bytes_or c.args.heap.now (bytes_placed k (generation_bytes g') o)) none)

pub returns-in-Err-HeapFull-clause-within : goal.returns-in-Err-HeapFull-clause-within
returns-in-Err-HeapFull-clause-within g c = λ g' i.
    let k = g.K.AreaKeeper.keeper in
    let b = c.args.beginning.now in
    let fits : SFits w32 b.extent = search rules in
    let none = full_is k c.args.signature c.args.heap.now b g' c.keeps.ensures c.places_at_least.ensures c.requires.area (omega arith) fits i (subst (KeepsOut (k.allocated b.size c.args.signature (pos 0) c.args.heap.now)) c.in-Err-HeapFull.field-0-is c.in-Err-HeapFull.ensures.pushed.0) in
    subst (IsWithin k (generation_bytes g') (length c.args.heap.now)) (sym none) tt

pub returns-in-Err-HeapFull-clause-stacks : goal.returns-in-Err-HeapFull-clause-stacks
returns-in-Err-HeapFull-clause-stacks g c = λ g' i.
    let k = g.K.AreaKeeper.keeper in
    let b = c.args.beginning.now in
    let fits : SFits w32 b.extent = search rules in
    let none = full_is k c.args.signature c.args.heap.now b g' c.keeps.ensures c.places_at_least.ensures c.requires.area (omega arith) fits i (subst (KeepsOut (k.allocated b.size c.args.signature (pos 0) c.args.heap.now)) c.in-Err-HeapFull.field-0-is c.in-Err-HeapFull.ensures.pushed.0) in
    stacks_same c.args.variable c.args.controlled.now c.push.new.self c.in-Err-HeapFull.ensures.pushed.1 c.push.ensures.others ∙ sym (ap (stacks_pushed c.args.variable c.args.signature c.args.controlled.now) none)
