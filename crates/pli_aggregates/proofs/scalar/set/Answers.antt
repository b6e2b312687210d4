use Rattle.std.proofs.Common.{◌∙◌, ap, sym}
use Rattle.pli_signatures.specs.View.{kind_of}
use Rattle.pli_signatures.specs.declared.element.ElementKind.{ElementKind}
use Rattle.pli_aggregates.specs.Runs.{standing}
use Rattle.pli_aggregates.specs.Scalars.{name_into, scalar_into, text_into, with_all}
use Rattle.pli_aggregates.proofs.Parting.{answers_as}
use Rattle.pli_aggregates.proofs.scalar.set.Goals as goal

pub returns-in-Character : goal.returns-in-Character
returns-in-Character g c = λ n counts c'.
    let x = c.args.first in
    let y = c.args.second in
    let value = c.args.value in
    let addresses = standing c.args.run.at c.args.run.step n in
    let old = with_all g.K.AreaKeeper.keeper c.args.held.now c.args.memory.now c.args.entries.now c' in
    let new = with_all g.K.AreaKeeper.keeper c.args.held.now c.set_text.new.memory c.set_text.new.entries c' in
    answers_as (λ t. scalar_into t x y value addresses (kind_of c.args.kind)) (λ t. text_into t x y addresses (kind_of c.args.kind)) old new c.set_text.result
    (ap (λ (k : ElementKind). scalar_into old x y value addresses (kind_of k)) c.in-Character.is ∙ sym (ap (λ (k : ElementKind). text_into old x y addresses (kind_of k)) c.in-Character.is))
    (c.set_text.ensures n counts c')

pub returns-in-Varying : goal.returns-in-Varying
returns-in-Varying g c = λ n counts c'.
    let x = c.args.first in
    let y = c.args.second in
    let value = c.args.value in
    let addresses = standing c.args.run.at c.args.run.step n in
    let old = with_all g.K.AreaKeeper.keeper c.args.held.now c.args.memory.now c.args.entries.now c' in
    let new = with_all g.K.AreaKeeper.keeper c.args.held.now c.set_text-in-Varying.new.memory c.set_text-in-Varying.new.entries c' in
    answers_as (λ t. scalar_into t x y value addresses (kind_of c.args.kind)) (λ t. text_into t x y addresses (kind_of c.args.kind)) old new c.set_text-in-Varying.result
    (ap (λ (k : ElementKind). scalar_into old x y value addresses (kind_of k)) c.in-Varying.is ∙ sym (ap (λ (k : ElementKind). text_into old x y addresses (kind_of k)) c.in-Varying.is))
    (c.set_text-in-Varying.ensures n counts c')

pub returns-in-Pointer : goal.returns-in-Pointer
returns-in-Pointer g c = λ n counts c'.
    let x = c.args.first in
    let y = c.args.second in
    let value = c.args.value in
    let addresses = standing c.args.run.at c.args.run.step n in
    let entries = c.args.entries.now in
    let old = with_all g.K.AreaKeeper.keeper c.args.held.now c.args.memory.now entries c' in
    let new = with_all g.K.AreaKeeper.keeper c.args.held.now c.set_name.new.memory entries c' in
    answers_as (λ t. scalar_into t x y value addresses (kind_of c.args.kind)) (λ t. name_into t x y value addresses (kind_of c.args.kind)) old new c.set_name.result
    (ap (λ (k : ElementKind). scalar_into old x y value addresses (kind_of k)) c.in-Pointer.is ∙ sym (ap (λ (k : ElementKind). name_into old x y value addresses (kind_of k)) c.in-Pointer.is))
    (c.set_name.ensures n counts c' entries)
