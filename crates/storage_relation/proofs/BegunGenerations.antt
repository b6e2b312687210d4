-- Service 10: a generation begins as the storage machine's first one, with its INITIAL values and its REFER extent.
use Rattle.std.proofs.Common.{◌≡◌, ℕ, zero, suc, List, [], ◌∷◌, map, Option, Some, None, Bool, true, false, refl, ap}
use Rattle.std.proofs.Common.{◌∙◌}
use Rattle.std.specs.Prelude.{ℤ, cond, ◌==◌, ◌&&◌, slice_get, is_none, nat_lt, ◌-◌}
use Rattle.pli_language.specs.Tree.{InitialValue, InitialNumber, InitialText, InitialBit, InitialSkip, InitialNull}
use Rattle.pli_language.specs.Tree.{InitialEmpty, InitialItem}
use Rattle.pli_typing.specs.Signatures.{LeafKind, Leaf}
use Rattle.pli_typing.specs.TypedTree as Y
use Rattle.pli_meaning.specs.BasicValues.{BasicNumber}
use Rattle.pli_meaning.specs.Contents as C
use Rattle.pli_meaning.specs.Contents.{Shape, Generation, fresh, initial_at, initial_in, leaves_with, element_place}
use Rattle.pli_meaning.specs.DeclaredShapes.{kind_of, leaf_of, bounds_of, member_of, shape_of, initial_of}
use Rattle.pli_meaning.specs.Placing.{type_keeps, refer_extent, refer_fits, with_member, first_generation}
use Rattle.pli_serving.specs.AreaServices as A
use Rattle.pli_serving.specs.Finding.{Call}
use Rattle.pli_serving.specs.InitialValues.{Initial, initial_values}
use Rattle.storage_relation.specs.Beginning.{read_value, read_items, IsNoEmpty, AreNoEmpty, AllNoEmpty, bounds_allow}
use Rattle.storage_relation.specs.Beginning.{last_allows, refer_allows, IsAsked, generation_read}

-- ---- values as they are read begin a generation as those declared do

value_begun : (kind : LeafKind) (v : InitialValue) → C.initial_of kind (read_value v) ≡ C.initial_of kind v
value_begun kind (InitialNumber z) = refl
value_begun kind (InitialText t) = refl
value_begun kind (InitialBit b) = refl
value_begun kind InitialSkip = refl
value_begun kind InitialNull = refl
value_begun kind InitialEmpty = refl

items_begun :
    (kind : LeafKind) (items : List InitialItem) (n : ℕ) →
    C.initial_of kind (initial_at (read_items items) n) ≡ C.initial_of kind (initial_at items n)
items_begun kind [] n = refl
items_begun kind (i ∷ is) n = by (nat_lt n i.repetition) (items_begun kind is (n - i.repetition))
  where
    by :
        (q : Bool) →
        C.initial_of kind (initial_at (read_items is) (n - i.repetition))
        ≡ C.initial_of kind (initial_at is (n - i.repetition)) →
        C.initial_of kind (cond q (read_value i.value) (initial_at (read_items is) (n - i.repetition)))
        ≡ C.initial_of kind (cond q i.value (initial_at is (n - i.repetition)))
    by true rest = value_begun kind i.value
    by false rest = rest

leaves_begun :
    (ls : List Leaf) (initial : Initial) (leaf : ℕ) (is : List ℤ) →
    initial_in ls (map read_items initial) leaf is ≡ initial_in ls initial leaf is
leaves_begun [] initial leaf is = refl
leaves_begun (l ∷ ls) [] leaf is = refl
leaves_begun (l ∷ ls) (i ∷ initial) zero is = items_begun l.kind i (element_place l.bounds is)
leaves_begun (l ∷ ls) (i ∷ initial) (suc leaf) is = leaves_begun ls initial leaf is

pub fresh_begun :
    (s : Shape) (z : ℤ) (initial : Initial) (leaf : ℕ) (is : List ℤ) →
    (fresh s z (map read_items initial)).values leaf is ≡ (fresh s z initial).values leaf is
fresh_begun s z initial leaf is = leaves_begun (leaves_with z s) initial leaf is

items_same : (items : List InitialItem) → AreNoEmpty items → read_items items ≡ items
items_same [] none = refl
items_same (i ∷ is) none =
    ap (λ v. record { repetition = i.repetition; value = v } ∷ read_items is) (one i.value none.0)
    ∙ ap (λ u. i ∷ u) (items_same is none.1)
  where
    one : (v : InitialValue) → IsNoEmpty v → read_value v ≡ v
    one (InitialNumber z) h = refl
    one (InitialText t) h = refl
    one (InitialBit b) h = refl
    one InitialSkip h = refl
    one InitialNull h = refl
    one InitialEmpty h = absurd h

pub initial_same : (initial : Initial) → AllNoEmpty initial → map read_items initial ≡ initial
initial_same [] none = refl
initial_same (i ∷ is) none = ap (λ u. u ∷ map read_items is) (items_same i none.0)
    ∙ ap (λ u. i ∷ u) (initial_same is none.1)

-- ---- extents

type_kept : (values : List ℤ) (z : ℤ) (ls : List Y.Leaf) (member : ℕ) →
    A.leaf_keeps z (slice_get (map (leaf_of values) ls) member) ≡ type_keeps z (slice_get ls member)
type_kept values z [] member = refl
type_kept values z (l ∷ ls) (suc member) = type_kept values z ls member
type_kept values z (l ∷ ls) zero = by l.type
  where
    by :
        (type : Y.LeafType) →
        A.kind_keeps z (kind_of values type)
        ≡ type_keeps z (Some (record { type = type; bounds = l.bounds; initial = l.initial }))
    by (Y.FixedLeaf p) = refl
    by (Y.CharacterLeaf e) = refl
    by (Y.VaryingLeaf e) = refl
    by Y.BitLeaf = refl
    by Y.PointerLeaf = refl
    by (Y.OffsetLeaf area) = refl
    by (Y.AreaLeaf e) = refl

last_taken :
    (values : List ℤ) (z : ℤ) (ls : List Y.Leaf) → A.last_takes z (map (leaf_of values) ls) ≡ last_allows values z ls
last_taken values z [] = refl
last_taken values z (l ∷ []) = by l.bounds
  where
    by : (bs : List Y.Bounds) → A.bounds_take z (map (bounds_of values) bs) ≡ bounds_allow values z bs
    by [] = refl
    by (b ∷ bs) = refl
last_taken values z (l ∷ m ∷ ls) = last_taken values z (m ∷ ls)

-- the service's test is the meaning's, and what was checked where the extent was evaluated
pub extent_fits_as :
    (values : List ℤ) (z : ℤ) (d : Y.DeclaredVariable) →
    A.extent_fits z (shape_of values d).signature.leaves (shape_of values d).refer
    ≡ refer_fits d z d.refer && refer_allows values z d d.refer
extent_fits_as values z d = by d.refer
  where
    by :
        (r : Option Y.ReferMember) →
        A.extent_fits z (map (leaf_of values) d.leaves) (member_of r) ≡ refer_fits d z r && refer_allows values z d r
    by None = refl
    by (Some r) =
        ap (λ q. q && A.last_takes z (map (leaf_of values) d.leaves)) (type_kept values z d.leaves r.member)
        ∙ ap (λ q. type_keeps z (slice_get d.leaves r.member) && q) (last_taken values z d.leaves)

pub begun_as :
    (c : Call) (values : List ℤ) (d : Y.DeclaredVariable) (signature extent initial : ℕ) →
    IsAsked c values d signature extent initial →
    A.begun c signature extent initial
    ≡ cond (refer_fits d (refer_extent values d.refer) d.refer)
    (Some (generation_read values d (refer_extent values d.refer))) None
begun_as c values d signature extent initial asked =
    let s = shape_of values d in
    let z = refer_extent values d.refer in
    ap (λ o. A.begun_of c o extent initial) asked.shape
    ∙ ap (λ w. A.begun_with s w (initial_values c s.signature.leaves initial)) asked.extent_same
    ∙ ap (A.begun_with s z) asked.read
    ∙ ap (λ o. cond (is_none o && A.extent_fits z s.signature.leaves s.refer) (Some (made z)) None) asked.plain
    ∙ ap (λ q. cond q (Some (made z)) None) (extent_fits_as values z d)
    ∙ ap (λ q. cond (refer_fits d z d.refer && q) (Some (made z)) None) asked.allowed
    ∙ ap (λ q. cond q (Some (made z)) None) (both (refer_fits d z d.refer))
    ∙ ap (λ g. cond (refer_fits d z d.refer) (Some g) None) (members z d.refer)
  where
    made : ℤ → Generation
    made z = A.with_member z (shape_of values d).refer (fresh (shape_of values d) z (map read_items (initial_of d)))

    both : (q : Bool) → q && true ≡ q
    both true = refl
    both false = refl

    members :
        (z : ℤ) (r : Option Y.ReferMember) →
        A.with_member z (member_of r) (fresh (shape_of values d) z (map read_items (initial_of d)))
        ≡ with_member z r (fresh (shape_of values d) z (map read_items (initial_of d)))
    members z None = refl
    members z (Some r) = refl

-- its values are those of the meaning's first generation
pub begun_values :
    (values : List ℤ) (d : Y.DeclaredVariable) (z : ℤ) (leaf : ℕ) (is : List ℤ) →
    (generation_read values d z).values leaf is ≡ (first_generation values d z).values leaf is
begun_values values d z leaf is = by d.refer
  where
    same : (fresh (shape_of values d) z (map read_items (initial_of d))).values leaf is
        ≡ (fresh (shape_of values d) z (initial_of d)).values leaf is
    same = fresh_begun (shape_of values d) z (initial_of d) leaf is

    by :
        (r : Option Y.ReferMember) →
        (with_member z r (fresh (shape_of values d) z (map read_items (initial_of d)))).values leaf is
        ≡ (with_member z r (fresh (shape_of values d) z (initial_of d))).values leaf is
    by None = same
    by (Some r) = ap (λ v. cond ((leaf == r.member) && C.same_subscripts is []) (BasicNumber z) v) same

-- and it is the meaning's first generation where none is EMPTY
pub begun_is_first :
    (c : Call) (values : List ℤ) (d : Y.DeclaredVariable) (signature extent initial : ℕ) →
    IsAsked c values d signature extent initial → AllNoEmpty (initial_of d) →
    refer_fits d (refer_extent values d.refer) d.refer ≡ true →
    A.begun c signature extent initial ≡ Some (first_generation values d (refer_extent values d.refer))
begun_is_first c values d signature extent initial asked none fits =
    let z = refer_extent values d.refer in
    begun_as c values d signature extent initial asked
    ∙ ap (λ q. cond q (Some (generation_read values d z)) None) fits
    ∙ ap (λ i. Some (with_member z d.refer (fresh (shape_of values d) z i))) (initial_same (initial_of d) none)
