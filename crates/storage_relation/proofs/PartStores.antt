-- Services 40 and 41: all stores of a part are stores that its elements can keep.
use Rattle.std.proofs.Common.{◌≡◌, ℕ, zero, suc, ◌+◌, ◌-◌, ◌<◌, ◌≤◌, ℤ, List, [], ◌∷◌, ◌++◌, take, map, length, Option}
use Rattle.std.proofs.Common.{Some, None, true, refl, ◌∙◌, subst, arith}
use Rattle.std.specs.Prelude.{int_le}
use Rattle.pli_typing.specs.Signatures.{LeafKind, Fixed, Character, Varying, Bit, Pointer, Offset, Area, Bounds, Leaf}
use Rattle.pli_typing.specs.Signatures.{natural}
use Rattle.pli_meaning.specs.BasicValues.{BasicValue, BasicNumber, BasicText}
use Rattle.pli_meaning.specs.Contents.{Shape, is_within, leaf_refers, last_refers, leaves_refer}
use Rattle.pli_meaning.specs.Evaluating.{leaf_at}
use Rattle.pli_meaning.specs.StreamOrder.{Element}
use Rattle.pli_serving.specs.AggregateServices.{goes_into}
use Rattle.pli_serving.specs.Aggregates.{PartFound, bounds_left_in, leaf_elements}
use Rattle.pli_serving.specs.Values.{all_subscripts}
use Rattle.storage_relation.proofs.Aggregates.{all_within, within_split}
use Rattle.storage_relation.proofs.Elements.{leaf_of}
use Rattle.storage_relation.proofs.Taking.{naturals}
use Rattle.storage_relation.proofs.Holders.{eqb-refl}
use Rattle.storage_relation.proofs.Kept.{as_many_leaves, within_allocated}
use Rattle.storage_relation.proofs.Parts.{goes_stored}
use Rattle.storage_relation.specs.Keeping.{IsStorable, IsSound, IsNarrow, StoresText, StoresVarying, NarrowText}
use Rattle.storage_relation.specs.Keeping.{NarrowSame}
use Rattle.storage_relation.specs.Parts.{now_found, AreStores, AllOf, elements_from, stores_by, given_fits, GoesInto}
use Rattle.storage_relation.specs.Parts.{LeafGoes, AllGo}

-- ---- kinds in force

refers_narrow : (z w : ℤ) (kind : LeafKind) (bs : List Bounds) → int_le z w ≡ true →
    IsNarrow (leaf_refers z kind bs).kind (leaf_refers w kind bs).kind
refers_narrow z w kind (b ∷ bs) h = NarrowSame kind
refers_narrow z w (Character n) [] h =
    let e : natural z + (natural w - natural z) ≡ natural w = let l = naturals z w h in omega (arith, l) in
    subst (λ x. IsNarrow (Character (natural z)) (Character x)) e (NarrowText (natural z) (natural w - natural z))
refers_narrow z w (Fixed n) [] h = NarrowSame (Fixed n)
refers_narrow z w (Varying n) [] h = NarrowSame (Varying n)
refers_narrow z w Bit [] h = NarrowSame Bit
refers_narrow z w Pointer [] h = NarrowSame Pointer
refers_narrow z w Offset [] h = NarrowSame Offset
refers_narrow z w (Area n) [] h = NarrowSame (Area n)

last_narrow :
    (z w : ℤ) (ls : List Leaf) (leaf : ℕ) → int_le z w ≡ true →
    IsNarrow (leaf_of (last_refers z ls) leaf).kind (leaf_of (last_refers w ls) leaf).kind
last_narrow z w [] leaf h = NarrowSame Bit
last_narrow z w (l ∷ []) zero h = refers_narrow z w l.kind l.bounds h
last_narrow z w (l ∷ []) (suc leaf) h = NarrowSame Bit
last_narrow z w (l ∷ m ∷ ls) zero h = NarrowSame l.kind
last_narrow z w (l ∷ m ∷ ls) (suc leaf) h = last_narrow z w (m ∷ ls) leaf h

pub kind_narrow : (s : Shape) (z w : ℤ) (leaf : ℕ) → int_le z w ≡ true →
    IsNarrow (leaf_at s z leaf).kind (leaf_at s w leaf).kind
kind_narrow s z w leaf h = by s.refer
  where
    by :
        (r : Option ℕ) →
        IsNarrow (leaf_of (leaves_refer z r s.signature.leaves) leaf).kind
        (leaf_of (leaves_refer w r s.signature.leaves) leaf).kind
    by None = NarrowSame (leaf_of s.signature.leaves leaf).kind
    by (Some member) = last_narrow z w s.signature.leaves leaf h

-- what service 41 is given for a leaf goes into it
pub number_goes : (p : ℕ) (z : ℤ) → IsStorable (Fixed p) (Fixed p) (BasicNumber z) → GoesInto (Fixed p) (BasicNumber z)
number_goes p z s = record { source = Fixed p; other = Fixed p; storable = s; goes = same p }
  where
    same : (p : ℕ) → goes_into (Fixed p) (Fixed p) ≡ true
    same p = eqb-refl p

pub text_goes : (n : ℕ) (t : List ℕ) → GoesInto (Character n) (BasicText t)
text_goes n t = record { source = Character n; other = Character (n + 0); storable = StoresText n 0 t; goes = refl }

pub varying_goes : (n : ℕ) (t : List ℕ) → GoesInto (Varying n) (BasicText t)
varying_goes n t = record {
  source = Varying 0;
  other = Varying (0 + 0);
  storable =
      StoresVarying 0 0 t (omega arith);
  goes = refl;
}

-- ---- all stores

both_stores : (p : PartFound) (f : ℕ → List ℤ → BasicValue) (xs ys : List Element) → AreStores p (stores_by f xs) →
    AreStores p (stores_by f ys) → AreStores p (stores_by f (xs ++ ys))
both_stores p f [] ys a b = b
both_stores p f (x ∷ xs) ys a b = (a.0, both_stores p f xs ys a.1 b)

leaf_stores :
    (p : PartFound) (f : ℕ → List ℤ → BasicValue) (n : ℕ) → int_le p.part.extent p.found.extent ≡ true →
    p.part.part.first + n < length p.part.generation.shape.signature.leaves →
    is_within (take (length p.part.subscripts)
    (leaf_at p.part.generation.shape p.part.extent (p.part.part.first + n)).bounds) p.part.subscripts ≡ true →
    LeafGoes p f n × IsSound (leaf_at p.part.generation.shape p.found.extent (p.part.part.first + n)).kind →
    AreStores p (stores_by f (leaf_elements p.part n))
leaf_stores p f n less there given goes = by (all_subscripts (bounds_left_in p.part n))
    (all_within (bounds_left_in p.part n))
  where
    leaf : ℕ
    leaf = p.part.part.first + n

    by :
        (xs : List (List ℤ)) → AllOf (λ x. is_within (bounds_left_in p.part n) x ≡ true) xs →
        AreStores p (stores_by f (map (λ is. (p.part.part.first + n, p.part.subscripts ++ is)) xs))
    by [] h = tt
    by (x ∷ xs) h =
        let s = p.part.generation.shape in
        let js = p.part.subscripts ++ x in
        let many = as_many_leaves s p.found.extent in
        let within : is_within (leaf_at s p.part.extent leaf).bounds js ≡ true =
        within_split (leaf_at s p.part.extent leaf).bounds p.part.subscripts x given ∙ h.0
        in
        let v = goes.0 x h.0 in (
          record {
            there = (omega (arith, many, there), within_allocated s p.part.extent p.found.extent leaf js less within);
            storable =
                goes_stored v.source v.other (now_found p leaf) (leaf_at s p.found.extent leaf).kind (f leaf js)
                v.storable v.goes
                (kind_narrow s p.part.extent p.found.extent leaf less) goes.1;
          },
          by xs h.1,
        )

pub part_stores :
    (p : PartFound) (f : ℕ → List ℤ → BasicValue) (n count : ℕ) → int_le p.part.extent p.found.extent ≡ true →
    p.part.part.first + n + count ≤ length p.part.generation.shape.signature.leaves → given_fits p.part n count →
    AllGo p f n count →
    AreStores p (stores_by f (elements_from p.part n count))
part_stores p f n zero less inside given goes = tt
part_stores p f n (suc count) less inside given goes =
    both_stores p f (leaf_elements p.part n) (elements_from p.part (suc n) count)
    (leaf_stores p f n less (omega (arith, inside)) given.0 goes.0)
    (part_stores p f (suc n) count less (omega (arith, inside)) given.1 goes.1)
