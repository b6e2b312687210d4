use Rattle.std.proofs.Common.{◌≡◌, ◌∙◌, ◌-◌, ap, get_or, length, sym, Some, arith}
use Rattle.std.specs.Prelude.{reverse}
use Rattle.std.proofs.lemmas.List.{length-reverse, reverse-reverse}
use Rattle.pli_serving.specs.OnUnits.{force}
use Rattle.pli_activations.specs.Entered.{framed, unit_shown}
use Rattle.pli_activations.proofs.Zipped.{force-none, force-some}
use Rattle.std.specs.Prelude.{option_map}
use Rattle.pli_activations.proofs.activations.Activations.in_force.Goals as goal

pub overflow_sub-depth : goal.overflow_sub-depth
overflow_sub-depth c =
    let bs = reverse c.self.inside.blocks.items in
    let as_many : length c.self.inside.units ≡ length bs = c.self.invariant ∙ sym (length-reverse c.self.inside.blocks.items) in
    (force-some bs c.self.inside.units c.args.condition c.in-Some.depth c.in-Some.unit as_many (sym c.lookup.ensures ∙ c.in-Some.is)).least

pub index-requires : goal.index-requires
index-requires c =
    let bs = reverse c.self.inside.blocks.items in
    let as_many : length c.self.inside.units ≡ length bs = c.self.invariant ∙ sym (length-reverse c.self.inside.blocks.items) in
    let at = force-some bs c.self.inside.units c.args.condition c.in-Some.depth c.in-Some.unit as_many (sym c.lookup.ensures ∙ c.in-Some.is) in
    omega (arith, at.least, at.within, length-reverse c.self.inside.blocks.items)

pub returns-in-None : goal.returns-in-None
returns-in-None c =
    let bs = reverse c.self.inside.blocks.items in
    let as_many : length c.self.inside.units ≡ length bs = c.self.invariant ∙ sym (length-reverse c.self.inside.blocks.items) in
    sym (ap (option_map framed) (ap (λ a. force a c.args.condition) (sym c.self.view_is) ∙ force-none bs c.self.inside.units c.args.condition as_many (sym c.lookup.ensures ∙ c.in-None.is)))

pub returns-in-Some : goal.returns-in-Some
returns-in-Some c =
    let bs = reverse c.self.inside.blocks.items in
    let as_many : length c.self.inside.units ≡ length bs = c.self.invariant ∙ sym (length-reverse c.self.inside.blocks.items) in
    let at = force-some bs c.self.inside.units c.args.condition c.in-Some.depth c.in-Some.unit as_many (sym c.lookup.ensures ∙ c.in-Some.is) in
    ap (λ b. Some (b.frame, unit_shown c.in-Some.unit)) (c.index.ensures ∙ ap (λ items. get_or items (c.in-Some.depth - 1) c.index.result.now) (sym (reverse-reverse c.self.inside.blocks.items)))
    ∙ sym (at.shown c.index.result.now)
    ∙ ap (λ a. option_map framed (force a c.args.condition)) c.self.view_is
