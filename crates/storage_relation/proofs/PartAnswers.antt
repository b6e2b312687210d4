-- Services 40 and 41 as wholes: the part that is found, the stores, and that memory then has the meaning's elements.
use Rattle.std.proofs.Common.{◌≡◌, ℕ, suc, ◌+◌, ◌-◌, ℤ, List, [], ◌∷◌, ◌++◌, drop, map, length, Some, Bool, true, refl}
use Rattle.std.proofs.Common.{sym, ap, ◌∙◌, subst, arith}
use Rattle.std.proofs.lemmas.List.{drop_at}
use Rattle.std.specs.Prelude.{◌&&◌, nat_le, nat_lt, if◌then◌else◌}
use Rattle.pli_typing.specs.TypedTree as Y
use Rattle.pli_meaning.specs.BasicValues.{BasicValue}
use Rattle.pli_meaning.specs.Contents.{Shape, Generation, is_within, kept}
use Rattle.pli_meaning.specs.Evaluating.{leaf_at}
use Rattle.pli_meaning.specs.Placing.{with_elements, goes_on_from}
use Rattle.pli_meaning.specs.StorageState as M
use Rattle.pli_meaning.specs.StorageState.{with_generation}
use Rattle.pli_serving.specs.AggregateServices.{goes_into, kind_of_nth, leaves_go_into, stores_of, stored_in}
use Rattle.pli_serving.specs.Aggregates.{Aggregate, PartFound, leaf_elements}
use Rattle.pli_serving.specs.Finding.{Found}
use Rattle.pli_serving.specs.ServiceState.{TakenLeaf}
use Rattle.storage_relation.proofs.Elements.{first_true, second_true}
use Rattle.storage_relation.proofs.PartStores.{part_stores}
use Rattle.storage_relation.proofs.Parts.{part_found_is, same_designated}
use Rattle.storage_relation.proofs.StoreLists.{stores_set, stores_put}
use Rattle.storage_relation.proofs.PartStored.{part_stored}
use Rattle.storage_relation.specs.Keeping.{IsStorable, IsSound}
use Rattle.storage_relation.specs.Parts.{elements_from, stores_by, now_found, AreStores, by_part, stores_of_part}
use Rattle.storage_relation.specs.Parts.{IsPartOf, AllGive, IsAggregate, IsDesignated, GoesInto, AllGo, part_of}
use Rattle.storage_relation.specs.Parts.{meant_of, AllTaken}
use Rattle.storage_relation.specs.Served.{Now, Holds, FoundFor}
use Rattle.storage_relation.specs.Standing.{IsPlain}
use Rattle.storage_relation.specs.Stored.{StoredAs}

abbrev in_shape : Shape → Aggregate → Y.Part → List ℤ → ℕ → List ℤ → Bool
in_shape s a part is leaf js =
    nat_le part.first leaf
    && (nat_lt leaf (part.first + part.count) && (goes_on_from is js && is_within (leaf_at s a.extent leaf).bounds js))

-- the elements that a part changes are the meaning's
elements_same :
    (w : Now) (a : Aggregate) (g : Generation) (f : Found) (part : Y.Part) (is : List ℤ)
    (values : ℕ → List ℤ → BasicValue) →
    a.shape ≡ g.shape → (x : Generation) →
    with_elements (part_of w a f part is).part values x ≡ with_elements (meant_of a g part is) values x
elements_same w a g f part is values same x =
    ap (λ (s : Shape). record x {
      values = λ leaf js.
          if in_shape s a part is leaf js
          then kept (leaf_at s a.extent leaf).kind (x.values leaf js) (values (leaf - part.first) (drop (length is) js))
          else x.values leaf js;
    }) same

-- ---- all values of a part are stored

pub all_stored :
    (w : Now) → Holds w → (a : Aggregate) (g : Generation) (part : Y.Part) (is : List ℤ)
    (values : ℕ → List ℤ → BasicValue) →
    IsAggregate w a g part is × (M.generation_at w.state a.name ≡ Some g) × IsPlain g → (i : FoundFor w a.name g) →
    AllGo (part_of w a i.found part is) (by_part (part_of w a i.found part is) values) 0 part.count →
    StoredAs w.keeper w.places (with_generation a.name (with_elements (part_of w a i.found part is).part values)
    w.state)
    (stored_in (part_of w a i.found part is) (stores_of_part (part_of w a i.found part is) values) w.memory)
all_stored w h a g part is values own i goes =
    let p = part_of w a i.found part is in
    let ag = own.0 in
    let lives = own.1 in
    let plain = own.2 in
    let r = part_found_is w a g part is ag i in
    let there : IsDesignated p.part =
    same_designated (meant_of a g part is) p.part (sym ag.shape_same) (sym i.extent) refl (refl, refl) ag.designated
    in
    let first : part.first + 0 + part.count ≡ part.first + part.count = omega arith in
    let inside = there.inside in
    let are : AreStores p (stores_of_part p values) =
    part_stores p (by_part p values) 0 part.count there.less (omega (arith, inside)) there.given goes
    in
    part_stored w.keeper h.keeps w.places w.state w.memory (w.state.serials + 1) a.name g p values h.stored
    h.lives.falling
    lives plain (subst (IsPart p) r.2 r.3) are
  where
    IsPart : PartFound → PartFound → Type 0
    IsPart p q = IsPartOf w.keeper w.places w.state w.memory a.name g q

-- ---- 41

-- one value in all elements of a leaf
pub set_stored :
    (w : Now) → Holds w → (a : Aggregate) (g : Generation) (leaf : ℕ) (v : BasicValue) →
    IsAggregate w a g (record { first = leaf; count = 1 }) [] → M.generation_at w.state a.name ≡ Some g × IsPlain g →
    (i : FoundFor w a.name g) →
    GoesInto (now_found (part_of w a i.found (record { first = leaf; count = 1 }) []) (leaf + 0)) v
    × IsSound (leaf_at a.shape i.found.extent (leaf + 0)).kind →
    StoredAs w.keeper w.places
    (with_generation a.name (with_elements (part_of w a i.found (record { first = leaf; count = 1 }) []).part
    (λ n js. v)) w.state)
    (stored_in (part_of w a i.found (record { first = leaf; count = 1 }) [])
    (map (λ e. (e, v)) (leaf_elements (part_of w a i.found (record { first = leaf; count = 1 }) []).part 0)) w.memory)
set_stored w h a g leaf v ag lives i goes =
    let one : Y.Part = record { first = leaf; count = 1 } in
    let p = part_of w a i.found one [] in
    subst (λ ss. StoredAs w.keeper w.places (with_generation a.name (with_elements p.part (λ n js. v)) w.state)
    (stored_in p ss w.memory))
    (sym (stores_set p v refl))
    (all_stored w h a g one [] (λ n js. v) (ag, lives.0, lives.1) i (((λ x within. goes.0), goes.1), tt))

pub put_goes :
    (p : PartFound) (values : ℕ → List ℤ → BasicValue) (n : ℕ) (ts : List TakenLeaf) → leaves_go_into p.part n ts
    ≡ true →
    AllTaken p values n ts → AllGo p (by_part p values) n (length ts)
put_goes p values n [] e are = tt
put_goes p values n (t ∷ ts) e are = (
  (
    (λ x within.
        let s = are.0.0 x within in
        let place : n ≡ p.part.part.first + n - p.part.part.first = omega arith in
        let same : values n x ≡ by_part p values (p.part.part.first + n) (p.part.subscripts ++ x) =
        ap (λ i. values i x) place
        ∙ ap (values (p.part.part.first + n - p.part.part.first))
        (sym (drop_at p.part.subscripts x (length p.part.subscripts) refl))
        in
        record {
          source = t.kind;
          other = s.0;
          storable = subst (IsStorable t.kind s.0) same s.1;
          goes = first_true (goes_into t.kind (kind_of_nth p.part n)) (leaves_go_into p.part (suc n) ts) e;
        }),
    are.0.1,
  ),
  put_goes p values (suc n) ts (second_true (goes_into t.kind (kind_of_nth p.part n))
      (leaves_go_into p.part (suc n) ts) e) are.1,
)

-- what was taken is stored, where it goes into the part's leaves
pub put_stored :
    (w : Now) → Holds w → (a : Aggregate) (g : Generation) (part : Y.Part) (is : List ℤ)
    (values : ℕ → List ℤ → BasicValue) (ts : List TakenLeaf) →
    (i : FoundFor w a.name g) →
    (length ts ≡ part.count) × IsAggregate w a g part is × (M.generation_at w.state a.name ≡ Some g) × IsPlain g
    × AllGive (part_of w a i.found part is).part values 0 ts
    × (leaves_go_into (part_of w a i.found part is).part 0 ts ≡ true)
    × AllTaken (part_of w a i.found part is) values 0 ts →
    StoredAs w.keeper w.places (with_generation a.name (with_elements (part_of w a i.found part is).part values)
    w.state)
    (stored_in (part_of w a i.found part is) (stores_of (part_of w a i.found part is).part 0 ts) w.memory)
put_stored w h a g part is values ts i own =
    let p = part_of w a i.found part is in
    subst (λ ss. StoredAs w.keeper w.places (with_generation a.name (with_elements p.part values) w.state)
    (stored_in p ss w.memory))
    (sym (stores_put p values 0 ts own.4 ∙ ap (λ n. stores_by (by_part p values) (elements_from p.part 0 n)) own.0))
    (all_stored w h a g part is values (own.1, own.2, own.3) i
    (subst (AllGo p (by_part p values) 0) own.0 (put_goes p values 0 ts own.5 own.6)))

-- and the meaning's elements are those
pub elements_meant :
    (w : Now) (a : Aggregate) (g : Generation) (part : Y.Part) (is : List ℤ) (values : ℕ → List ℤ → BasicValue) →
    IsAggregate w a g part is → (i : FoundFor w a.name g) → (x : Generation) →
    with_elements (part_of w a i.found part is).part values x ≡ with_elements (meant_of a g part is) values x
elements_meant w a g part is values ag i x = elements_same w a g i.found part is values ag.shape_same x
