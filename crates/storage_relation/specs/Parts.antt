-- Parts of generations as services 40 and 41 find them and the storage machine designates them, and stores in them.
use Rattle.std.specs.Prelude.{ℕ, List, ℤ, [], ◌∷◌, ◌==◌, ◌&&◌, if◌then◌else◌, ⊤, map, zero, suc, ◌++◌, ◌≡◌, ◌+◌, take}
use Rattle.std.specs.Prelude.{length, true, ◌-◌, drop, ◌≤◌, int_le, Some}
use Rattle.pli_typing.specs.Signatures.{LeafKind, Bounds}
use Rattle.pli_typing.specs.TypedTree as Y
use Rattle.pli_meaning.specs.BasicValues.{BasicValue, Name}
use Rattle.pli_meaning.specs.Contents.{Generation, kept, same_subscripts, is_within, element_place}
use Rattle.pli_meaning.specs.Evaluating.{leaf_at, Designated}
use Rattle.pli_meaning.specs.Placing.{elements_of, part_bounds}
use Rattle.pli_meaning.specs.StorageState as M
use Rattle.pli_meaning.specs.StorageState.{State}
use Rattle.pli_meaning.specs.StreamOrder.{Element}
use Rattle.area_keeper.specs.Keeper.{Keeper}
use Rattle.pli_serving.specs.AggregateServices.{Store, taken_value, goes_into}
use Rattle.pli_serving.specs.Aggregates.{PartFound, leaf_elements, bounds_left_in, Aggregate, designated_in}
use Rattle.pli_serving.specs.Finding.{Found}
use Rattle.pli_serving.specs.ServiceState.{TakenLeaf}
use Rattle.pli_serving.specs.Values as V
use Rattle.pli_serving.specs.Values.{all_subscripts}
use Rattle.storage_relation.specs.Keeping.{IsStorable, IsSound}
use Rattle.storage_relation.specs.Served.{Now, call}
use Rattle.storage_relation.specs.Standing.{IsElement, IsPlain}
use Rattle.storage_relation.specs.Stored.{Places, place_of}

-- ---- a part that was found

-- the generation whose part was found, with these values
abbrev pub found_with : PartFound → (ℕ → List ℤ → BasicValue) → Generation
found_with p values = record { shape = p.part.generation.shape; extent = p.found.extent; values = values }

abbrev pub now_found : PartFound → ℕ → LeafKind
now_found p leaf = (leaf_at p.part.generation.shape p.part.extent leaf).kind

abbrev pub values_after : PartFound → List Store → (ℕ → List ℤ → BasicValue) → ℕ → List ℤ → BasicValue
values_after p [] values = values
values_after p (s ∷ ss) values =
    values_after p ss
    (λ l js. if (l == s.0.0) && same_subscripts js s.0.1 then kept (now_found p s.0.0)
    (values s.0.0 s.0.1) s.1 else values l js)

pub record IsStore (p : PartFound) (s : Store) : Type 0 where
  pub there : IsElement (found_with p p.part.generation.values) s.0.0 s.0.1
  pub storable : IsStorable (now_found p s.0.0) (leaf_at p.part.generation.shape p.found.extent s.0.0).kind s.1

abbrev pub AreStores : PartFound → List Store → Type 0
AreStores p [] = ⊤
AreStores p (s ∷ ss) = IsStore p s × AreStores p ss

abbrev pub stores_by : (ℕ → List ℤ → BasicValue) → List Element → List Store
stores_by f es = map (λ e. (e, f e.0 e.1)) es

-- ---- elements and stores

abbrev pub AllOf : (List ℤ → Type 0) → List (List ℤ) → Type 0
AllOf P [] = ⊤
AllOf P (x ∷ xs) = P x × AllOf P xs

abbrev pub elements_from : Designated → (n count : ℕ) → List Element
elements_from d n zero = []
elements_from d n (suc count) = leaf_elements d n ++ elements_from d (suc n) count

abbrev pub given_fits : Designated → (n count : ℕ) → Type 0
given_fits d n zero = ⊤
given_fits d n (suc count) =
    (is_within (take (length d.subscripts) (leaf_at d.generation.shape d.extent (d.part.first + n)).bounds) d.subscripts
    ≡ true) × given_fits d (suc n) count

-- the values of a part by the places in it, as `elements_stored` of the meaning has them
abbrev pub by_part : PartFound → (ℕ → List ℤ → BasicValue) → ℕ → List ℤ → BasicValue
by_part p w l vs = w (l - p.part.part.first) (drop (length p.part.subscripts) vs)

abbrev pub stores_of_part : PartFound → (ℕ → List ℤ → BasicValue) → List Store
stores_of_part p w = stores_by (by_part p w) (elements_from p.part 0 p.part.part.count)

-- a part that was found, of the generation that a name names
pub record IsPartOf (k : Keeper) (π : Places) (s : State) (m : List ℕ) (n : Name) (g : Generation)
    (p : PartFound) : Type 0 where
  pub at : p.found.at ≡ place_of k π s m n
  pub is : found_with p g.values ≡ g
  pub given : given_fits p.part 0 p.part.part.count

-- ---- values that were taken

-- one leaf that was taken gives the values of the part's leaf
pub record Gives (d : Designated) (w : ℕ → List ℤ → BasicValue) (n : ℕ) (t : TakenLeaf) : Type 0 where
  pub bytes : List ℤ → List ℕ
  pub elements : t.elements ≡ map bytes (all_subscripts (bounds_left_in d n))
  pub values : AllOf (λ x. taken_value t.kind (bytes x) ≡ w n x) (all_subscripts (bounds_left_in d n))

abbrev pub AllGive : Designated → (ℕ → List ℤ → BasicValue) → (n : ℕ) → List TakenLeaf → Type 0
AllGive d w n [] = ⊤
AllGive d w n (t ∷ ts) = Gives d w n t × AllGive d w (suc n) ts

-- the same part of the generation as services read it
abbrev pub as_read : Designated → (at : ℕ) → List ℕ → Designated
as_read d at m = record d { generation = V.generation_at d.generation.shape d.generation.extent at m }

-- ---- a part that is designated

-- a part within its generation's leaves
abbrev pub IsInside : Designated → Type 0
IsInside d = d.part.first + d.part.count ≤ length d.generation.shape.signature.leaves

-- bounds that are left of two parts, leaf by leaf the same
abbrev pub SameFrom : (d e : Designated) → (n count : ℕ) → Type 0
SameFrom d e n zero = ⊤
SameFrom d e n (suc count) = (bounds_left_in d n ≡ bounds_left_in e n) × SameFrom d e (suc n) count

-- a part that the meaning designates: in an extent that is allocated, within the leaves, with subscripts within each
-- leaf's bounds
pub record IsDesignated (d : Designated) : Type 0 where
  pub less : int_le d.extent d.generation.extent ≡ true
  pub inside : IsInside d
  pub given : given_fits d 0 d.part.count

-- an aggregate whose name names a generation of its shape, and the part of it that is designated
pub record IsAggregate (w : Now) (a : Aggregate) (g : Generation) (part : Y.Part) (is : List ℤ) : Type 0 where
  pub shape_same : a.shape ≡ g.shape
  pub designated : IsDesignated (record {
    name = a.name;
    generation = g;
    extent = a.extent;
    part = part;
    subscripts =
        is;
  })

-- ---- values that go into a part

-- a value that comes from some kind which goes into the leaf's
pub record GoesInto (now : LeafKind) (v : BasicValue) : Type 0 where
  pub source : LeafKind
  pub other : LeafKind
  pub storable : IsStorable source other v
  pub goes : goes_into source now ≡ true

-- the values of one leaf, and of all
abbrev pub LeafGoes : PartFound → (ℕ → List ℤ → BasicValue) → (n : ℕ) → Type 0
LeafGoes p f n =
    (x : List ℤ) → is_within (bounds_left_in p.part n) x ≡ true →
    GoesInto (now_found p (p.part.part.first + n)) (f (p.part.part.first + n) (p.part.subscripts ++ x))

abbrev pub AllGo : PartFound → (ℕ → List ℤ → BasicValue) → (n count : ℕ) → Type 0
AllGo p f n zero = ⊤
AllGo p f n (suc count) =
    (LeafGoes p f n × IsSound (leaf_at p.part.generation.shape p.found.extent (p.part.part.first + n)).kind)
    × AllGo p f (suc n) count

-- the part as services have it, and as the meaning has it
abbrev pub part_of : (w : Now) → Aggregate → Found → Y.Part → List ℤ → PartFound
part_of w a f part is = record { found = f; part = designated_in (call w) a f part is }

abbrev pub meant_of : Aggregate → Generation → Y.Part → List ℤ → Designated
meant_of a g part is = record { name = a.name; generation = g; extent = a.extent; part = part; subscripts = is }

-- what was taken of a leaf has values of its kind, and the leaf's kind is sound
abbrev pub AllTaken : PartFound → (ℕ → List ℤ → BasicValue) → (n : ℕ) → List TakenLeaf → Type 0
AllTaken p values n [] = ⊤
AllTaken p values n (t ∷ ts) =
    (((x : List ℤ) → is_within (bounds_left_in p.part n) x ≡ true → (other : LeafKind)
    × IsStorable t.kind other (values n x))
    × IsSound (leaf_at p.part.generation.shape p.found.extent (p.part.part.first + n)).kind)
    × AllTaken p values (suc n) ts

-- ---- subscripts

-- the bounds of the dimensions that have subscripts
abbrev pub bounds_given : Aggregate → (leaf : ℕ) → List ℤ → List Bounds
bounds_given a leaf is = take (length is) (leaf_at a.shape a.extent leaf).bounds

-- subscripts within their bounds, and the place that stands for them in an aggregate's record
pub record IsPlaced (a : Aggregate) (leaf : ℕ) (is : List ℤ) : Type 0 where
  pub few : length is ≤ length (leaf_at a.shape a.extent leaf).bounds
  pub within : is_within (bounds_given a leaf is) is ≡ true
  pub place : a.subscripts_place ≡ element_place (bounds_given a leaf is) is

-- ---- services 40 and 41

abbrev pub one_leaf : ℕ → Y.Part
one_leaf leaf = record { first = leaf; count = 1 }

-- an aggregate whose name names a generation of values, and the part of it that is designated
pub record HasPart (w : Now) (a : Aggregate) (g : Generation) (part : Y.Part) (is : List ℤ) : Type 0 where
  pub aggregate : IsAggregate w a g part is
  pub lives : M.named w.state a.name a.shape ≡ Some g
  pub plain : IsPlain g

-- what was taken of a leaf is what the meaning takes of it, each a value of its kind
pub record IsTaken (d : Designated) (n : ℕ) (t : TakenLeaf) : Type 0 where
  pub gives : Gives d (elements_of d) n t
  pub storable :
      (x : List ℤ) → is_within (bounds_left_in d n) x ≡ true →
      (other : LeafKind) × IsStorable t.kind other (elements_of d n x)

abbrev pub AreTaken : Designated → (n : ℕ) → List TakenLeaf → Type 0
AreTaken d n [] = ⊤
AreTaken d n (t ∷ ts) = IsTaken d n t × AreTaken d (suc n) ts

-- so it is of all leaves of a part
pub record IsTakenFrom (d : Designated) (ts : List TakenLeaf) : Type 0 where
  pub inside : IsInside d
  pub count : length ts ≡ d.part.count
  pub bounds : map (λ (t : TakenLeaf). t.bounds) ts ≡ part_bounds d
  pub leaves : AreTaken d 0 ts
