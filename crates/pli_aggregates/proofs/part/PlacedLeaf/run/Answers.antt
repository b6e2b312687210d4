use Rattle.std.proofs.Common.{◌≡◌, ◌<◌, ◌∙◌, ap, arith, map, refl, subst, sym, List}
use Rattle.pli_typing.specs.Signatures.{Bounds, element_count}
use Rattle.pli_types.specs.View.{pair_of}
use Rattle.pli_aggregates.proofs.Running.{kind_fails, left_of, none_left, run_so}
use Rattle.pli_aggregates.proofs.part.PlacedLeaf.run.Goals as goal

pub returns-then-count-eq0 : goal.returns-then-count-eq0
returns-then-count-eq0 c =
    let p = c.args.self.now in
    let given = c.args.given.now in
    let left = c.behind-left.result.now in
    let same = left_of p given left c.as_slice.result.now c.behind-left.ensures c.as_slice.ensures in
    let zero : element_count (map pair_of left) ≡ 0 = omega (arith, c.element_count-count.ensures, c.if-count-eq0.true) in
    none_left p given (record { at = 0; step = 0; count = 0 }) (sym (ap element_count same) ∙ zero) refl

pub returns-then-not-kind_holds : goal.returns-then-not-kind_holds
returns-then-not-kind_holds c =
    let p = c.args.self.now in
    let given = c.args.given.now in
    let left = c.behind-left.result.now in
    let same = left_of p given left c.as_slice.result.now c.behind-left.ensures c.as_slice.ensures in
    let some : 0 < element_count (map pair_of left) = grind (arith, c.element_count-count.ensures, c.if-count-eq0.false) in
    kind_fails p given (subst (λ (bs : List Bounds). 0 < element_count bs) same some) (sym c.kind_holds.ensures ∙ c.if-not-kind_holds.true)

pub returns : goal.returns
returns c =
    let p = c.args.self.now in
    let given = c.args.given.now in
    let left = c.behind-left.result.now in
    run_so p given (map pair_of left) c.run.result (left_of p given left c.as_slice.result.now c.behind-left.ensures c.as_slice.ensures) (sym c.kind_holds.ensures ∙ c.if-not-kind_holds.false) c.run.ensures
