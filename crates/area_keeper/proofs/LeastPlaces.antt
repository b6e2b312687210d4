-- Where a keeper places a generation is the storage machine's gap, and so the least offset that fits.
use Rattle.std.proofs.Common.{◌≡◌, ℕ, List, Option, Some, None, refl, sym, ap, ◌∙◌}
use Rattle.pli_typing.specs.Signatures.{footprint}
use Rattle.pli_meaning.specs.Contents.{IsGap, gap}
use Rattle.pli_meaning.specs.Laws.{GapExact}
use Rattle.area_keeper.specs.KeeperLaws.{PlacesAtLeast}
use Rattle.area_keeper.proofs.Alikeness.{keeps_alike}

same_offset : (x y : ℕ × List ℕ) → Some x ≡ Some y → x.0 ≡ y.0
same_offset x y e = let f : x ≡ y = cc e in ap (λ (r : ℕ × List ℕ). r.0) f

no_pair : (x : ℕ × List ℕ) → None ≡ Some x → ⊥
no_pair x e = cc e

pub at_least : GapExact → PlacesAtLeast
at_least exact k h size signature extent bytes a placed o new e al sg x r =
    by_gap (gap a.capacity (footprint size) placed) refl
  where
    by_gap : (g : Option ℕ) → gap a.capacity (footprint size) placed ≡ g → IsGap a.capacity (footprint size) placed o
    by_gap None q = absurd (no_pair (o, new) (sym (h.allocating.refused size signature extent bytes a placed e al q) ∙ r))
    by_gap (Some p) q =
        let found = h.allocating.placed size signature extent bytes a placed p e al sg x q in
        let f : p ≡ o = same_offset (p, found.0) (o, new) (sym found.1 ∙ r) in
        let order = keeps_alike.ordered a.capacity a.placed placed al (h.order.ordered bytes a e) in
        (exact a.capacity (footprint size) placed order o).0 (q ∙ ap (λ n. Some n) f)
