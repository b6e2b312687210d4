-- Services 8, 40 and 41: the place in an aggregate's record tells the subscripts that were evaluated.
use Rattle.std.proofs.Common.{◌≡◌, ℕ, ◌≤◌, ℤ, List, [], ◌∷◌, take, length, Some, None, true, refl, ap, ◌∙◌, arith}
use Rattle.std.proofs.lemmas.Bool.Decides.{nat_tests}
use Rattle.std.specs.Prelude.{cond, nat_le}
use Rattle.pli_typing.specs.Signatures.{Bounds}
use Rattle.pli_typing.specs.TypedTree as Y
use Rattle.pli_meaning.specs.Contents.{Generation, is_within, element_place}
use Rattle.pli_meaning.specs.Evaluating.{leaf_at}
use Rattle.pli_meaning.specs.StorageState as M
use Rattle.pli_serving.specs.Aggregates.{Aggregate, subscripts_of, subscripts_given, part_found, part_of_leaves}
use Rattle.pli_serving.specs.Finding as F
use Rattle.pli_serving.specs.Outcomes.{then_found}
use Rattle.pli_serving.specs.Templates.{shape_at}
use Rattle.storage_relation.proofs.Finding.{named_found}
use Rattle.storage_relation.proofs.Parts.{part_found_is}
use Rattle.storage_relation.proofs.Spelling.{subscripts_at}
use Rattle.storage_relation.specs.Parts.{IsAggregate, part_of, IsPlaced}
use Rattle.storage_relation.specs.Served.{Now, call, Holds, FoundFor}

small : (m n : ℕ) → m ≤ n → nat_le m n ≡ true
small m n h = grind (arith, nat_tests)

pub subscripts_read : (a : Aggregate) (leaf : ℕ) (is : List ℤ) → IsPlaced a leaf is →
    subscripts_given a leaf (length is) ≡ Some is
subscripts_read a leaf is p =
    ap (λ q. cond q (subscripts_of a.subscripts_place (length is) bounds) None)
    (small (length is) (length bounds) p.few)
    ∙ ap (λ n. subscripts_of n (length is) bounds) p.place
    ∙ by is p.within
  where
    bounds : List Bounds
    bounds = (leaf_at a.shape a.extent leaf).bounds

    by :
        (is : List ℤ) → is_within (take (length is) bounds) is ≡ true →
        subscripts_of (element_place (take (length is) bounds) is) (length is) bounds ≡ Some is
    by [] within = refl
    by (i ∷ is) within = subscripts_at (take (length (i ∷ is)) bounds) (i ∷ is) within

-- the part that services find by an aggregate's record
pub part_of_leaves_is :
    (w : Now) → Holds w → (a : Aggregate) (g : Generation) (part : Y.Part) (is : List ℤ) →
    IsAggregate w a g part is × IsPlaced a part.first is → shape_at w.places.signatures a.signature ≡ Some a.shape →
    M.named w.state a.name a.shape ≡ Some g →
    (i : FoundFor w a.name g)
    × (part_of_leaves (call w) a part.first part.count (length is) ≡ Some (part_of w a i.found part is))
part_of_leaves_is w h a g part is ag number lives =
    let r = named_found w.keeper h.keeps w.layout w.places w.state w.services w.memory a.name a.signature a.shape g
    h.heap h.lives h.stored h.distinct number lives
    in
    let p = part_found_is w a g part is ag.0 r.0 in (
      r.0,
      ap (λ o. then_found o (λ js. part_found (call w) a part js (F.named (call w) a.name a.signature)))
          (subscripts_read a part.first is ag.1)
          ∙ ap (part_found (call w) a part is) r.1
          ∙ p.1
          ∙ ap Some p.2,
    )
