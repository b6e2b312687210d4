-- Service 40: what was taken from a part gives the values that the meaning takes.
use Rattle.std.proofs.Common.{◌≡◌, ℕ, zero, suc, ◌+◌, ◌-◌, ◌<◌, ◌≤◌, List, [], ◌∷◌, ◌++◌, take, map, length, Option}
use Rattle.std.proofs.Common.{Some, None, true, ap, ◌∙◌, subst, arith}
use Rattle.std.proofs.lemmas.Bool.Decides.{nat_tests}
use Rattle.std.proofs.lemmas.Int.{ints}
use Rattle.std.specs.Prelude.{ℤ, pos, negsuc, int_le}
use Rattle.pli_typing.specs.Signatures.{LeafKind, Fixed, Character, Varying, Bit, Pointer, Offset, Area, Bounds, Leaf}
use Rattle.pli_typing.specs.Signatures.{natural}
use Rattle.pli_meaning.specs.Contents.{Shape, seen, leaf_refers, last_refers, leaves_refer, is_within}
use Rattle.pli_meaning.specs.Evaluating.{Designated, leaf_at}
use Rattle.pli_meaning.specs.Placing.{elements_of}
use Rattle.pli_meaning.specs.StorageState.{State, generation_at}
use Rattle.area_keeper.specs.Keeper.{Keeper}
use Rattle.area_keeper.specs.KeeperLaws.{Keeps}
use Rattle.pli_serving.specs.AggregateServices.{taken_bytes, taken_value, taken_leaf, kind_of_nth}
use Rattle.pli_serving.specs.Aggregates.{bounds_left_in}
use Rattle.pli_serving.specs.Values.{all_subscripts}
use Rattle.storage_relation.proofs.Aggregates.{all_within, within_split}
use Rattle.storage_relation.proofs.Elements.{leaf_of}
use Rattle.storage_relation.proofs.Kept.{as_many_leaves, within_allocated}
use Rattle.storage_relation.proofs.Named.{named_at}
use Rattle.storage_relation.proofs.FoundValues.{found_value, seen_back}
use Rattle.storage_relation.specs.Keeping.{IsNow, NowText, NowSame}
use Rattle.storage_relation.specs.Parts.{AllOf, Gives, as_read}
use Rattle.storage_relation.specs.Standing.{leaf_in, IsPlain, IsElement}
use Rattle.storage_relation.specs.Stored.{Places, StoredAs, place_of, AreFalling}

-- ---- the kind in force

pub naturals : (z w : ℤ) → int_le z w ≡ true → natural z ≤ natural w
naturals (pos z) (pos w) h = grind (arith, ints, nat_tests)
naturals (pos z) (negsuc w) h = absurd (cc h)
naturals (negsuc z) (pos w) h = omega arith
naturals (negsuc z) (negsuc w) h = omega arith

refers_now :
    (z w : ℤ) (kind : LeafKind) (bs : List Bounds) → int_le z w ≡ true →
    IsNow (leaf_refers z kind bs).kind (leaf_refers w kind bs).kind
refers_now z w kind (b ∷ bs) h = NowSame kind
refers_now z w (Character n) [] h =
    let e : natural z + (natural w - natural z) ≡ natural w = let l = naturals z w h in omega (arith, l) in
    subst (λ x. IsNow (Character (natural z)) (Character x)) e (NowText (natural z) (natural w - natural z))
refers_now z w (Fixed n) [] h = NowSame (Fixed n)
refers_now z w (Varying n) [] h = NowSame (Varying n)
refers_now z w Bit [] h = NowSame Bit
refers_now z w Pointer [] h = NowSame Pointer
refers_now z w Offset [] h = NowSame Offset
refers_now z w (Area n) [] h = NowSame (Area n)

last_now :
    (z w : ℤ) (ls : List Leaf) (leaf : ℕ) → int_le z w ≡ true →
    IsNow (leaf_of (last_refers z ls) leaf).kind (leaf_of (last_refers w ls) leaf).kind
last_now z w [] leaf h = NowSame Bit
last_now z w (l ∷ []) zero h = refers_now z w l.kind l.bounds h
last_now z w (l ∷ []) (suc leaf) h = NowSame Bit
last_now z w (l ∷ m ∷ ls) zero h = NowSame l.kind
last_now z w (l ∷ m ∷ ls) (suc leaf) h = last_now z w (m ∷ ls) leaf h

pub kind_now :
    (s : Shape) (z w : ℤ) (leaf : ℕ) → int_le z w ≡ true → IsNow (leaf_at s z leaf).kind (leaf_at s w leaf).kind
kind_now s z w leaf h = by s.refer
  where
    by :
        (r : Option ℕ) → IsNow (leaf_of (leaves_refer z r s.signature.leaves) leaf).kind
        (leaf_of (leaves_refer w r s.signature.leaves) leaf).kind
    by None = NowSame (leaf_of s.signature.leaves leaf).kind
    by (Some member) = last_now z w s.signature.leaves leaf h

pub taken_gives :
    (k : Keeper) → Keeps k → (π : Places) (s : State) (m : List ℕ) (above : ℕ) (d target : Designated) (at n : ℕ) →
    StoredAs k π s m → AreFalling above s.living →
    generation_at s d.name ≡ Some d.generation → IsPlain d.generation → at ≡ place_of k π s m d.name →
    int_le d.extent d.generation.extent ≡ true →
    d.part.first + n < length d.generation.shape.signature.leaves →
    is_within (take (length d.subscripts) (leaf_at d.generation.shape d.extent (d.part.first + n)).bounds) d.subscripts
    ≡ true →
    bounds_left_in d n ≡ bounds_left_in target n →
    Gives target (elements_of d) n (taken_leaf (as_read d at m) n)
taken_gives k keeps π s m above d target at n is falling e plain a less there given same =
    record {
      bytes = λ x. taken_bytes (kind_of_nth (as_read d at m) n) (elements_of (as_read d at m) n x);
      elements = ap (λ bs. map (λ x. taken_bytes (kind_of_nth (as_read d at m) n) (elements_of (as_read d at m) n x))
          (all_subscripts bs)) same;
      values = subst (λ bs. AllOf Good (all_subscripts bs)) same
          (each (all_subscripts (bounds_left_in d n)) (all_within (bounds_left_in d n)));
    }
  where
    leaf : ℕ
    leaf = d.part.first + n

    Good : List ℤ → Type 0
    Good x =
        taken_value (kind_of_nth (as_read d at m) n) (taken_bytes (kind_of_nth (as_read d at m) n)
        (elements_of (as_read d at m) n x)) ≡ elements_of d n x

    one : (x : List ℤ) → is_within (bounds_left_in d n) x ≡ true → Good x
    one x w =
        let g = d.generation in
        let js = d.subscripts ++ x in
        let now = (leaf_at g.shape d.extent leaf).kind in
        let many = as_many_leaves g.shape g.extent in
        let within : is_within (leaf_at g.shape d.extent leaf).bounds js ≡ true =
        within_split (leaf_at g.shape d.extent leaf).bounds d.subscripts x given ∙ w in
        let own : IsElement g leaf js = (
          omega (arith, many, there),
          within_allocated g.shape d.extent g.extent leaf js less within,
        ) in
        let value = found_value k keeps π s m above d.name g at leaf js is falling e plain a own in
        let at' = named_at k keeps π s m above d.name g is falling e plain in
        let fits = (at'.reads.elements leaf js own.0 own.1).fits in
        ap (λ v. taken_value now (taken_bytes now (seen now v))) value
        ∙ seen_back now (leaf_in g leaf).kind (g.values leaf js) (kind_now g.shape d.extent g.extent leaf less) fits

    each : (xs : List (List ℤ)) → AllOf (λ x. is_within (bounds_left_in d n) x ≡ true) xs → AllOf Good xs
    each [] h = tt
    each (x ∷ xs) h = (one x h.0, each xs h.1)
