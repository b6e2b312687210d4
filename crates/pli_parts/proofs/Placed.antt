-- Leaves of a generation, by what is placed and held of them.
use Rattle.std.proofs.Common.{◌≡◌, ℕ, zero, suc, ◌<◌, ◌≤◌, ℤ, true, false, List, [], ◌∷◌, ◌++◌, length, drop, map}
use Rattle.std.proofs.Common.{Option, Some, None, Result, Ok, Err, refl, sym, ap, ap₂, subst, ◌∙◌, arith}
use Rattle.std.specs.Prelude.{MatchOption, nat_lt, slice_get, unwrap_or}
use Rattle.std.proofs.lemmas.Bool.Decides.{nat_tests}
use Rattle.pli_typing.specs.Signatures.{Leaf, element_count, leaf_bytes}
use Rattle.pli_types.specs.View.{pair_of}
use Rattle.pli_meaning.specs.Contents.{Shape, leaves_with}
use Rattle.pli_meaning.specs.Evaluating.{leaf_at}
use Rattle.pli_meaning.specs.Unreachable.{unreachable_leaf}
use Rattle.pli_serving.specs.Aggregates.{element_at}
use Rattle.pli_serving.specs.Finding.{Found}
use Rattle.pli_signatures.specs.View.{kind_of, leaf_in_force}
use Rattle.pli_signatures.specs.Whole.{leaf_in}
use Rattle.pli_answering.specs.declared.reply.Refusal.{Refusal}
use Rattle.pli_answering.specs.declared.reply.Refusal.TheVariants as F
use Rattle.pli_aggregates.specs.declared.part.PlacedLeaf.{PlacedLeaf}
use Rattle.pli_aggregates.specs.Elements.{AreWithin, stands_in}
use Rattle.pli_aggregates.specs.Parts.{IsLeafOf, IsPlaced, has_all, subscripts_left}
use Rattle.pli_aggregates.specs.Standing.{count_left}
use Rattle.pli_aggregates.specs.Runs.{standing}
use Rattle.pli_aggregates.proofs.Parting.{as_many, got_past}
use Rattle.pli_parts.specs.Leaves.{IsHeldIf, IsHeldOf, IsLeafFound, IsPartLeaf, has_leaf, is_leaf_there}
use Rattle.pli_parts.specs.declared.leaf.PartLeaf.{PartLeaf}
use Rattle.pli_aggregates.proofs.Lists.{both, not_first, not_second}

below_test : (n many : ℕ) → n < many → nat_lt n many ≡ true
below_test n many h = grind (arith, nat_tests)

past_test : (n many : ℕ) → many ≤ n → nat_lt n many ≡ false
past_test n many h = grind (arith, nat_tests)

leaf_known : (s : Shape) (z : ℤ) (leaf : ℕ) (l : Leaf) → Some l ≡ leaf_in (Some s) leaf z → l ≡ leaf_at s z leaf
leaf_known s z leaf l e = sym (ap (λ o. unwrap_or o unreachable_leaf) (sym e))

got_below : (ls : List Leaf) (n : ℕ) (l : Leaf) → Some l ≡ slice_get ls n → n < length ls
got_below [] n l e = cc
got_below (m ∷ ls) zero l e = omega arith
got_below (m ∷ ls) (suc n) l e = let r = got_below ls n l e in omega (arith, r)

no_leaf : (s : Shape) (z : ℤ) (f : Found) (given : List ℤ) (leaf : ℕ) → leaf_in (Some s) leaf z ≡ None → is_leaf_there s z f given leaf ≡ false
no_leaf s z f given leaf e =
    let many = as_many z s in
    let past = got_past (leaves_with z s) leaf e in
    not_first (nat_lt leaf (length s.signature.leaves)) (has_leaf s z f given leaf) (past_test leaf (length s.signature.leaves) (omega (arith, many, past)))

held_none : (s : Shape) (z : ℤ) (f : Found) (given : List ℤ) (leaf end : ℕ) (p : PlacedLeaf) → IsLeafOf (Some s) z leaf f end p
    → has_all (leaf_in_force p.place.allocated) (leaf_in_force p.in_force) given (subscripts_left (leaf_in_force p.in_force) given) ≡ false → is_leaf_there s z f given leaf ≡ false
held_none s z f given leaf end p i e =
    let had = leaf_known s f.extent leaf (leaf_in_force p.place.allocated) i.allocated in
    let k = leaf_known s z leaf (leaf_in_force p.in_force) i.in_force in
    not_second (nat_lt leaf (length s.signature.leaves)) (has_leaf s z f given leaf)
    (sym (ap₂ (λ x y. has_all x y given (subscripts_left y given)) had k) ∙ e)

held_some : (s : Shape) (z : ℤ) (f : Found) (given : List ℤ) (leaf end : ℕ) (p : PlacedLeaf) (l : PartLeaf) → IsLeafOf (Some s) z leaf f end p → IsHeldOf p given l → IsPartLeaf s z f given end leaf l
held_some s z f given leaf end p l i h =
    let had = leaf_known s f.extent leaf (leaf_in_force p.place.allocated) i.allocated in
    let k = leaf_known s z leaf (leaf_in_force p.in_force) i.in_force in
    let many = as_many z s in
    let below = got_below (leaves_with z s) leaf (leaf_in_force p.in_force) i.in_force in
    let kind : (leaf_in_force p.in_force).kind ≡ (leaf_at s z leaf).kind = ap (λ (x : Leaf). x.kind) k in
    let left : element_count (map pair_of l.bounds.items) ≡ count_left (leaf_in_force p.in_force) given =
    ap element_count h.bounds in
    let places : map (λ is. stands_in p.place.base (leaf_in_force p.place.allocated) (given ++ is)) (subscripts_left (leaf_in_force p.in_force) given) ≡ map (λ is. element_at s f (leaf, given ++ is)) (subscripts_left (leaf_at s z leaf) given) =
    ap₂ (λ (base : ℕ) (x : Leaf). map (λ is. stands_in base x (given ++ is)) (subscripts_left (leaf_in_force p.in_force) given)) (i.base s refl) had
    ∙ ap (λ (y : Leaf). map (λ is. element_at s f (leaf, given ++ is)) (subscripts_left y given)) k in
    record {
      there = both (nat_lt leaf (length s.signature.leaves)) (has_leaf s z f given leaf) (below_test leaf (length s.signature.leaves) (omega (arith, many, below)))
          (sym (ap₂ (λ x y. has_all x y given (subscripts_left y given)) had k) ∙ h.stand.there);
      kind = ap kind_of h.kind ∙ kind;
      bounds = h.bounds ∙ ap (λ (x : Leaf). drop (length given) x.bounds) k;
      stand = ap (standing l.run.at l.run.step) left ∙ h.stand.stand ∙ places;
      within = subst (λ n. AreWithin (leaf_bytes (leaf_at s z leaf).kind) end (standing l.run.at l.run.step n))
          (sym left)
          (subst (λ n. AreWithin (leaf_bytes (leaf_at s z leaf).kind) n
          (standing l.run.at l.run.step (count_left (leaf_in_force p.in_force) given))) i.end
          (subst (λ n. AreWithin n p.place.end
          (standing l.run.at l.run.step (count_left (leaf_in_force p.in_force) given))) (i.bytes
          ∙ ap leaf_bytes kind) h.stand.within));
      counted = λ some. h.stand.exact (subst (λ n. 0 < n) (sym (i.bytes ∙ ap leaf_bytes kind)) some) ∙ sym left;
    }

held_found : (s : Shape) (z : ℤ) (f : Found) (given : List ℤ) (leaf end : ℕ) (p : PlacedLeaf) (r : Result (Option PartLeaf) Refusal) → IsLeafOf (Some s) z leaf f end p → IsHeldIf p given r → IsLeafFound s z f given end leaf r
held_found s z f given leaf end p (Ok None) i h = held_none s z f given leaf end p i h
held_found s z f given leaf end p (Ok (Some l)) i h = held_some s z f given leaf end p l i h
held_found s z f given leaf end p (Err F.Memory) i h = tt
held_found s z f given leaf end p (Err F.Bad) i h = h

found_so : (s : Shape) (z : ℤ) (f : Found) (given : List ℤ) (leaf end : ℕ) (o : Option PlacedLeaf) (r : Result (Option PartLeaf) Refusal) → IsPlaced (Some s) z leaf f end (Ok o) → MatchOption o (r ≡ Ok None) (λ p. IsHeldIf p given r)
    → IsLeafFound s z f given end leaf r
found_so s z f given leaf end None r p h = subst (λ r. IsLeafFound s z f given end leaf r) (sym h) (no_leaf s z f given leaf p)
found_so s z f given leaf end (Some q) r p h = held_found s z f given leaf end q r p h

pub found_if : (s : Shape) (z : ℤ) (f : Found) (given : List ℤ) (leaf end : ℕ) (shape : Option Shape) (o : Option PlacedLeaf) (r : Result (Option PartLeaf) Refusal) → shape ≡ Some s → IsPlaced shape z leaf f end (Ok o)
    → MatchOption o (r ≡ Ok None) (λ p. IsHeldIf p given r) → IsLeafFound s z f given end leaf r
found_if s z f given leaf end shape o r e p h = found_so s z f given leaf end o r (subst (λ shape. IsPlaced shape z leaf f end (Ok o)) e p) h
