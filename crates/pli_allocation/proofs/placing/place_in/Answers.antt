use Rattle.std.proofs.Common.{◌≤◌, ◌<◌, ◌^◌, ◌∙◌, ap, arith, length, refl, rules, subst, sym, SFits, w32}
use Rattle.std.proofs.lemmas.Int.{to_z-of_z}
use Rattle.area_heap.specs.Answers.{bytes_or, offset_or_fault}
use Rattle.pli_serving.specs.Bytes.{with_bytes}
use Rattle.pli_serving.specs.Values.{generation_bytes}
use Rattle.pli_allocation.specs.Placing.{IsWithin, bytes_placed}
use Rattle.pli_allocation.proofs.Placements.{kept_after, no_gap, not_placed, placed_not, placed_so, within_so}
use Rattle.pli_allocation.proofs.placing.place_in.Goals as goal

pub put_at-requires : goal.put_at-requires
put_at-requires g c =
    let b = c.args.beginning.now in
    let fits : SFits w32 b.extent = search rules in
    let few = b.few in
    let answer = sym c.in-Ok.is ∙ (simp to_z-of_z at c.allocate.ensures.answer) in
    let after = simp to_z-of_z at c.allocate.ensures.bytes in
    let same = ap length c.deref.ensures.value in
    kept_after g.K.AreaKeeper.keeper b.size c.args.signature b.extent c.args.bytes.now c.in-Ok.offset c.allocate.new.bytes (length c.deref.result.now) c.keeps.ensures c.places_at_least.ensures c.requires (omega arith) fits answer after (omega (arith, same, few))

pub returns-in-Ok-clause-answer : goal.returns-in-Ok-clause-answer
returns-in-Ok-clause-answer g c = λ g' i.
    let b = c.args.beginning.now in
    let fits : SFits w32 b.extent = search rules in
    let it = placed_so g.K.AreaKeeper.keeper c.args.signature c.args.bytes.now b g' c.in-Ok.offset c.allocate.new.bytes c.keeps.ensures c.places_at_least.ensures c.requires (omega arith) fits b.few i (sym c.in-Ok.is ∙ (simp to_z-of_z at c.allocate.ensures.answer)) (simp to_z-of_z at c.allocate.ensures.bytes) in
    sym (ap offset_or_fault it.some)

pub returns-in-Ok-clause-bytes : goal.returns-in-Ok-clause-bytes
returns-in-Ok-clause-bytes g c = λ g' i.
    let b = c.args.beginning.now in
    let fits : SFits w32 b.extent = search rules in
    let it = placed_so g.K.AreaKeeper.keeper c.args.signature c.args.bytes.now b g' c.in-Ok.offset c.allocate.new.bytes c.keeps.ensures c.places_at_least.ensures c.requires (omega arith) fits b.few i (sym c.in-Ok.is ∙ (simp to_z-of_z at c.allocate.ensures.answer)) (simp to_z-of_z at c.allocate.ensures.bytes) in
    c.put_at.ensures
    ∙ ap (λ xs. with_bytes xs (g.K.AreaKeeper.keeper.data_at c.in-Ok.offset c.allocate.new.bytes) c.allocate.new.bytes) (c.deref.ensures.value ∙ it.content)
    ∙ sym (ap (λ o. bytes_or c.args.bytes.now (bytes_placed g.K.AreaKeeper.keeper (generation_bytes g') o)) it.some)

pub returns-in-Ok-clause-within : goal.returns-in-Ok-clause-within
returns-in-Ok-clause-within g c = λ g' i.
    let b = c.args.beginning.now in
    let fits : SFits w32 b.extent = search rules in
    let it = placed_so g.K.AreaKeeper.keeper c.args.signature c.args.bytes.now b g' c.in-Ok.offset c.allocate.new.bytes c.keeps.ensures c.places_at_least.ensures c.requires (omega arith) fits b.few i (sym c.in-Ok.is ∙ (simp to_z-of_z at c.allocate.ensures.answer)) (simp to_z-of_z at c.allocate.ensures.bytes) in
    within_so g.K.AreaKeeper.keeper c.args.signature c.args.bytes.now b g' c.in-Ok.offset c.allocate.new.bytes it

pub returns-in-Err-clause-answer : goal.returns-in-Err-clause-answer
returns-in-Err-clause-answer g c = λ g' i.
    let b = c.args.beginning.now in
    let fits : SFits w32 b.extent = search rules in
    let answer = sym c.in-Err.is ∙ (simp to_z-of_z at c.allocate.ensures.answer) in
    no_gap _ c.in-Err.fault answer ∙ sym (ap offset_or_fault (placed_not g.K.AreaKeeper.keeper c.args.signature c.args.bytes.now b g' c.in-Err.fault c.keeps.ensures c.places_at_least.ensures c.requires (omega arith) fits i answer))

pub returns-in-Err-clause-bytes : goal.returns-in-Err-clause-bytes
returns-in-Err-clause-bytes g c = λ g' i.
    let b = c.args.beginning.now in
    let fits : SFits w32 b.extent = search rules in
    let answer = sym c.in-Err.is ∙ (simp to_z-of_z at c.allocate.ensures.answer) in
    not_placed _ c.in-Err.fault c.args.bytes.now c.allocate.new.bytes answer (simp to_z-of_z at c.allocate.ensures.bytes)
    ∙ sym (ap (λ o. bytes_or c.args.bytes.now (bytes_placed g.K.AreaKeeper.keeper (generation_bytes g') o)) (placed_not g.K.AreaKeeper.keeper c.args.signature c.args.bytes.now b g' c.in-Err.fault c.keeps.ensures c.places_at_least.ensures c.requires (omega arith) fits i answer))

pub returns-in-Err-clause-within : goal.returns-in-Err-clause-within
returns-in-Err-clause-within g c = λ g' i.
    let b = c.args.beginning.now in
    let fits : SFits w32 b.extent = search rules in
    let answer = sym c.in-Err.is ∙ (simp to_z-of_z at c.allocate.ensures.answer) in
    subst (IsWithin g.K.AreaKeeper.keeper (generation_bytes g') (length c.args.bytes.now)) (sym (placed_not g.K.AreaKeeper.keeper c.args.signature c.args.bytes.now b g' c.in-Err.fault c.keeps.ensures c.places_at_least.ensures c.requires (omega arith) fits i answer)) tt
