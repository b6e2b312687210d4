use Rattle.std.proofs.Common.{◌≡◌, List, ◌∷◌, [], ◌++◌, ◌+◌, map, take, length, sym, ap, ◌∙◌, subst}
use Rattle.std.proofs.lemmas.List.{take_all}
use Rattle.pli_language.specs.Declarations.{Declaration}
use Rattle.pli_declare.specs.Index.{IsIndex, places_at}
use Rattle.pli_declare.specs.Shown.{declaration_of}
use Rattle.pli_declare.proofs.Chains.{take_here}
use Rattle.pli_declare.proofs.Indexes.{index_push, index_none, length_front}
use Rattle.pli_declare.proofs.names.indexed.Goals as goal

pub loop-i-init : goal.loop-i-init
loop-i-init c = index_none c.new-places.result c.new-places.ensures.empty

pub loop-i-preserved : goal.loop-i-preserved
loop-i-preserved c =
    let all = c.deref-declaration-items.result.now in
    let i = c.loop-i.i in
    let d = c.declaration-item.result in
    let ds : List Declaration = map declaration_of (take i all) in
    let pushed : map declaration_of (take (i + 1) all) ≡ ds ++ declaration_of d ∷ [] = take_here declaration_of all i d c.loop-i-test.true c.declaration-item.is in
    let n : length ds ≡ i = length_front declaration_of all i c.loop-i-test.true in
    let key = c.letters-key.result in
    let e : c.push.new.self.items ≡ places_at c.loop-i.places key.now ++ length ds ∷ [] = c.in_ok-push.ensures.items ∙ ap (λ u. u ++ i ∷ []) c.in_ok-at.ensures ∙ ap (λ k. places_at c.loop-i.places key.now ++ k ∷ []) (sym n) in
    subst (λ (u : List Declaration). IsIndex c.insert.new.self u) (sym pushed) (index_push c.loop-i.places c.insert.new.self key c.push.new.self ds (declaration_of d) c.in_ok-insert.ensures.updates c.loop-i.invariant e (sym c.letters-key.ensures))

pub invariant_of-result : goal.invariant_of-result
invariant_of-result c =
    let all : map declaration_of (take c.loop-i.i c.deref-declaration-items.result.now) ≡ map declaration_of c.args.declarations.items = ap (map declaration_of) (take_all c.loop-i.i c.deref-declaration-items.result.now c.loop-i-test.false ∙ c.deref-declaration-items.ensures.value) in
    record { indexed = ∣ subst (λ (u : List Declaration). IsIndex c.loop-i.places u) all c.loop-i.invariant ∣₁ }
