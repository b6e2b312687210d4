-- Services 40 and 41: the lists of stores that they make are those of the part.
use Rattle.std.proofs.Common.{◌≡◌, ℕ, suc, ◌+◌, ◌-◌, ℤ, List, [], ◌∷◌, ◌++◌, drop, map, length, true, false, refl, sym}
use Rattle.std.proofs.Common.{ap, ◌∙◌, arith}
use Rattle.std.proofs.lemmas.List.{drop_at, take_all}
use Rattle.std.specs.List.{zip}
use Rattle.pli_typing.specs.Signatures.{LeafKind, Fixed, Pointer, Offset}
use Rattle.pli_meaning.specs.BasicValues.{BasicValue, BasicNumber, BasicPointer, BasicOffset}
use Rattle.pli_meaning.specs.Evaluating.{Designated}
use Rattle.pli_meaning.specs.StreamOrder.{Element}
use Rattle.pli_serving.specs.AggregateServices.{taken_bytes, taken_value, stores_of}
use Rattle.pli_serving.specs.Aggregates.{PartFound, bounds_left_in, leaf_elements}
use Rattle.pli_serving.specs.Bytes.{name_bytes}
use Rattle.pli_serving.specs.ServiceState.{TakenLeaf}
use Rattle.pli_serving.specs.Values.{value_bytes, all_subscripts}
use Rattle.storage_relation.proofs.Values.{value_told}
use Rattle.storage_relation.specs.Keeping.{IsStorable, StoresText, StoresVarying, StoresNumber, StoresBit, StoresName}
use Rattle.storage_relation.specs.Keeping.{StoresOffset}
use Rattle.storage_relation.specs.Parts.{stores_by, elements_from, AllOf, by_part, stores_of_part, AllGive}

append_none : {A : Type 0} (xs : List A) → xs ++ [] ≡ xs
append_none [] = refl
append_none (x ∷ xs) = ap (λ u. x ∷ u) (append_none xs)

-- 41: one value in all elements of one leaf
pub stores_set :
    (p : PartFound) (v : BasicValue) → p.part.part.count ≡ 1 →
    map (λ e. (e, v)) (leaf_elements p.part 0) ≡ stores_of_part p (λ leaf is. v)
stores_set p v one =
    ap (λ es. map (λ e. (e, v)) es) (sym (append_none (leaf_elements p.part 0)))
    ∙ ap (λ c. map (λ e. (e, v)) (elements_from p.part 0 c)) (sym one)

-- 40: what was taken, leaf by leaf, where the bounds left are the same
map_append : {A B : Type 0} (f : A → B) (xs ys : List A) → map f (xs ++ ys) ≡ map f xs ++ map f ys
map_append f [] ys = refl
map_append f (x ∷ xs) ys = ap (λ u. f x ∷ u) (map_append f xs ys)

abbrev pair : ℕ → List ℤ → Element
pair leaf is = (leaf, is)

zipped :
    (leaf : ℕ) (subs : List ℤ) (tv : List ℕ → BasicValue) (h : List ℤ → List ℕ) (f : ℕ → List ℤ → BasicValue)
    (xs : List (List ℤ)) →
    AllOf (λ x. tv (h x) ≡ f leaf (subs ++ x)) xs →
    zip (map (λ is. pair leaf (subs ++ is)) xs) (map tv (map h xs))
    ≡ map (λ e. (e, f e.0 e.1)) (map (λ is. pair leaf (subs ++ is)) xs)
zipped leaf subs tv h f [] all = refl
zipped leaf subs tv h f (x ∷ xs) all =
    ap (λ v. (pair leaf (subs ++ x), v) ∷ zip (map (λ is. pair leaf (subs ++ is)) xs) (map tv (map h xs))) all.0
    ∙ ap (λ u. (pair leaf (subs ++ x), f leaf (subs ++ x)) ∷ u) (zipped leaf subs tv h f xs all.1)

all_moved :
    (d : Designated) (w : ℕ → List ℤ → BasicValue) (n : ℕ) (tv : List ℕ → BasicValue) (h : List ℤ → List ℕ)
    (xs : List (List ℤ)) → AllOf (λ x. tv (h x) ≡ w n x) xs →
    AllOf (λ x. tv (h x) ≡ w (d.part.first + n - d.part.first) (drop (length d.subscripts) (d.subscripts ++ x))) xs
all_moved d w n tv h [] all = tt
all_moved d w n tv h (x ∷ xs) all =
    let e : n ≡ d.part.first + n - d.part.first = omega arith in (
      all.0 ∙ ap (λ i. w i x) e ∙ ap (w (d.part.first + n - d.part.first))
          (sym (drop_at d.subscripts x (length d.subscripts) refl)),
      all_moved d w n tv h xs all.1,
    )

pub stores_put :
    (p : PartFound) (w : ℕ → List ℤ → BasicValue) (n : ℕ) (ts : List TakenLeaf) → AllGive p.part w n ts →
    stores_of p.part n ts ≡ stores_by (by_part p w) (elements_from p.part n (length ts))
stores_put p w n [] all = refl
stores_put p w n (t ∷ ts) all =
    let d = p.part in
    let g = all.0 in
    let xs = all_subscripts (bounds_left_in d n) in
    ap (λ es. zip (leaf_elements d n) (map (taken_value t.kind) es) ++ stores_of d (suc n) ts) g.elements
    ∙ ap (λ u. u ++ stores_of d (suc n) ts) (zipped (d.part.first + n) d.subscripts (taken_value t.kind) g.bytes
    (by_part p w) xs (all_moved d w n (taken_value t.kind) g.bytes xs g.values))
    ∙ ap (λ u. stores_by (by_part p w) (leaf_elements d n) ++ u) (stores_put p w (suc n) ts all.1)
    ∙ sym (map_append (λ e. (e, by_part p w e.0 e.1)) (leaf_elements d n) (elements_from d (suc n) (length ts)))

-- values on the stack come back from their bytes
pub taken_back :
    (now kind : LeafKind) (v : BasicValue) → IsStorable now kind v → taken_value now (taken_bytes now v) ≡ v
taken_back now kind v (StoresText n more t) = refl
taken_back now kind v (StoresVarying n more t small) = refl
taken_back now kind v (StoresNumber p z h i) =
    value_told (Fixed p) (BasicNumber z) 0 (value_bytes (Fixed p) (BasicNumber z))
    (record {
      fits = (h, i);
      tells = take_all (length (value_bytes (Fixed p) (BasicNumber z)))
          (value_bytes (Fixed p) (BasicNumber z)) (omega arith);
    })
taken_back now kind v (StoresBit true) = refl
taken_back now kind v (StoresBit false) = refl
taken_back now kind v (StoresName n h) =
    value_told Pointer (BasicPointer n) 0 (name_bytes n) (record {
      fits = h;
      tells =
          take_all (length (name_bytes n)) (name_bytes n) (omega arith);
    })
taken_back now kind v (StoresOffset o h) =
    value_told Offset (BasicOffset o) 0 (value_bytes Offset (BasicOffset o)) (record { fits = h; tells = refl })
