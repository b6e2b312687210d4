-- Shapes as variables are declared: leaves of the same kinds, whatever their lengths, with as many bounds.
use Rattle.std.proofs.Common.{◌≡◌, ℕ, zero, suc, ◌<◌, ◌≤◌, ℤ, List, [], ◌∷◌, Option, Some, None, Bool, true, false}
use Rattle.std.proofs.Common.{refl, ap, sym, ◌∙◌, subst, arith, inl, inr}
use Rattle.std.specs.Prelude.{◌&&◌, cond, length, map, slice_get, unwrap_or}
use Rattle.pli_typing.specs.Signatures.{LeafKind, Fixed, Character, Varying, Bit, Pointer, Offset, Area, Bounds, Leaf}
use Rattle.pli_typing.specs.Signatures.{Class, PlainClass, ControlledClass}
use Rattle.pli_typing.specs.TypedTree as Y
use Rattle.pli_meaning.specs.BasicValues.{Name, VariableName, BasicValue}
use Rattle.pli_meaning.specs.Unreachable.{unreachable_leaf}
use Rattle.pli_meaning.specs.Contents.{Shape, Generation, same_kind, same_bounds, same_leaves, same_class}
use Rattle.pli_meaning.specs.Contents.{same_shape, leaf_refers, last_refers, leaves_refer, leaves_with}
use Rattle.pli_meaning.specs.StorageState.{State, generation_at, if_same_shape, named}
use Rattle.pli_meaning.specs.DeclaredShapes as D
use Rattle.pli_meaning.specs.Making as K
use Rattle.pli_meaning.specs.Evaluating as V
use Rattle.pli_typing.specs.Calls.{extent_passes, type_passes, bounds_pass, leaves_pass}
use Rattle.well_formed_trees.specs.Every.{Every}
use Rattle.well_formed_trees.specs.Declarations.{AreasAlone, IsNoArea, HoldsArea}
use Rattle.well_formed_trees.specs.Expressions.{IsScalarParameter}

-- ---- forms of leaves

abbrev pub kind_number : LeafKind → ℕ
kind_number (Fixed p) = 0
kind_number (Character n) = 1
kind_number (Varying n) = 2
kind_number Bit = 3
kind_number Pointer = 4
kind_number Offset = 5
kind_number (Area n) = 6

abbrev pub type_number : Y.LeafType → ℕ
type_number (Y.FixedLeaf p) = 0
type_number (Y.CharacterLeaf size) = 1
type_number (Y.VaryingLeaf size) = 2
type_number Y.BitLeaf = 3
type_number Y.PointerLeaf = 4
type_number (Y.OffsetLeaf area) = 5
type_number (Y.AreaLeaf size) = 6

-- a kind and a number of bounds
pub record Form : Type 0 where
  pub kind : ℕ
  pub bounds : ℕ

abbrev pub form_with : (kind bounds : ℕ) → Form
form_with kind bounds = record { kind = kind; bounds = bounds }

abbrev pub form : Leaf → Form
form l = record { kind = kind_number l.kind; bounds = length l.bounds }

abbrev pub declared_form : Y.Leaf → Form
declared_form l = record { kind = type_number l.type; bounds = length l.bounds }

abbrev pub forms : List Leaf → List Form
forms ls = map form ls

abbrev pub declared_forms : List Y.Leaf → List Form
declared_forms ls = map declared_form ls

-- a shape has the forms with which a variable is declared
abbrev pub IsShapedAs : Y.DeclaredVariable → Shape → Type 0
IsShapedAs d shape = forms shape.signature.leaves ≡ declared_forms d.leaves

-- ---- areas

-- the name of a variable's own generation, which isn't the heap
abbrev pub IsOwnName : Name → Type 0
IsOwnName (VariableName serial) = 1 ≤ serial
IsOwnName n = ⊥

-- an area by itself
abbrev pub IsAreaVariable : Y.DeclaredVariable → Type 0
IsAreaVariable d = declared_forms d.leaves ≡ form_with 6 0 ∷ []

pub area_holds : (d : Y.DeclaredVariable) → AreasAlone d → IsAreaVariable d → HoldsArea d.class
area_holds d (inl h) e = absurd (of_leaves d.leaves h e)
  where
    no_area : (t : Y.LeafType) → IsNoArea t → type_number t ≡ 6 → ⊥
    no_area (Y.FixedLeaf p) n f = absurd (cc f)
    no_area (Y.CharacterLeaf size) n f = absurd (cc f)
    no_area (Y.VaryingLeaf size) n f = absurd (cc f)
    no_area Y.BitLeaf n f = absurd (cc f)
    no_area Y.PointerLeaf n f = absurd (cc f)
    no_area (Y.OffsetLeaf area) n f = absurd (cc f)
    no_area (Y.AreaLeaf size) n f = n

    of_leaves : (ls : List Y.Leaf) → Every (λ l. IsNoArea l.type) ls → declared_forms ls ≡ form_with 6 0 ∷ [] → ⊥
    of_leaves [] n f = absurd (cc f)
    of_leaves (l ∷ ls) n f =
        let first : declared_form l ≡ form_with 6 0 = cc f in no_area l.type n.0 (ap (λ x. x.kind) first)
area_holds d (inr h) e = h.class_holds

-- what a variable may stand for
abbrev pub StandsAs : Y.DeclaredVariable → Name → Shape → Type 0
StandsAs d n shape = IsShapedAs d shape × (IsAreaVariable d → IsOwnName n)

-- ---- what keeps forms

pub kind_declared : (values : List ℤ) (t : Y.LeafType) → kind_number (D.kind_of values t) ≡ type_number t
kind_declared values (Y.FixedLeaf p) = refl
kind_declared values (Y.CharacterLeaf size) = refl
kind_declared values (Y.VaryingLeaf size) = refl
kind_declared values Y.BitLeaf = refl
kind_declared values Y.PointerLeaf = refl
kind_declared values (Y.OffsetLeaf area) = refl
kind_declared values (Y.AreaLeaf size) = refl

bounds_declared : (values : List ℤ) (bs : List Y.Bounds) → length (map (D.bounds_of values) bs) ≡ length bs
bounds_declared values [] = refl
bounds_declared values (b ∷ bs) = ap suc (bounds_declared values bs)

same_form : (a b c d : ℕ) → a ≡ c → b ≡ d → form_with a b ≡ form_with c d
same_form a b c d e f = ap (λ x. form_with x b) e ∙ ap (λ x. form_with c x) f

pub shape_declared : (values : List ℤ) (d : Y.DeclaredVariable) → IsShapedAs d (D.shape_of values d)
shape_declared values d = of_leaves d.leaves
  where
    of_leaves : (ls : List Y.Leaf) → forms (map (D.leaf_of values) ls) ≡ declared_forms ls
    of_leaves [] = refl
    of_leaves (l ∷ ls) =
        ap (λ x. x ∷ forms (map (D.leaf_of values) ls))
        (same_form _ _ _ _ (kind_declared values l.type) (bounds_declared values l.bounds))
        ∙ ap (λ xs. declared_form l ∷ xs) (of_leaves ls)

pub both_true : (t u : Bool) → (t && u) ≡ true → (t ≡ true) × (u ≡ true)
both_true true u e = (refl, e)
both_true false u e = absurd (cc e)

same_kinds : (a b : LeafKind) → same_kind a b ≡ true → kind_number a ≡ kind_number b
same_kinds (Fixed p) (Fixed q) e = refl
same_kinds (Character p) (Character q) e = refl
same_kinds (Varying p) (Varying q) e = refl
same_kinds Bit Bit e = refl
same_kinds Pointer Pointer e = refl
same_kinds Offset Offset e = refl
same_kinds (Area p) (Area q) e = refl
same_kinds a b e = absurd (cc e)

same_many : (as' bs : List Bounds) → same_bounds as' bs ≡ true → length as' ≡ length bs
same_many [] [] e = refl
same_many [] (b ∷ bs) e = absurd (cc e)
same_many (a ∷ as') [] e = absurd (cc e)
same_many (a ∷ as') (b ∷ bs) e = ap suc (same_many as' bs (both_true _ _ (both_true _ _ e).1).1)

same_forms : (as' bs : List Leaf) → same_leaves as' bs ≡ true → forms as' ≡ forms bs
same_forms [] [] e = refl
same_forms [] (b ∷ bs) e = absurd (cc e)
same_forms (a ∷ as') [] e = absurd (cc e)
same_forms (a ∷ as') (b ∷ bs) e =
    let first = both_true (same_kind a.kind b.kind) _ e in
    let second = both_true (same_bounds a.bounds b.bounds) _ first.1 in
    ap (λ x. x ∷ forms as')
    (same_form _ _ _ _ (same_kinds a.kind b.kind first.0) (same_many a.bounds b.bounds second.0))
    ∙ ap (λ xs. form b ∷ xs) (same_forms as' bs second.1)

leaf_refers_form : (z : ℤ) (k : LeafKind) (bs : List Bounds)
    → form (leaf_refers z k bs) ≡ record { kind = kind_number k; bounds = length bs }
leaf_refers_form z k (b ∷ bs) = refl
leaf_refers_form z (Fixed p) [] = refl
leaf_refers_form z (Character n) [] = refl
leaf_refers_form z (Varying n) [] = refl
leaf_refers_form z Bit [] = refl
leaf_refers_form z Pointer [] = refl
leaf_refers_form z Offset [] = refl
leaf_refers_form z (Area n) [] = refl

refers_forms : (z : ℤ) (ls : List Leaf) → forms (last_refers z ls) ≡ forms ls
refers_forms z [] = refl
refers_forms z (l ∷ []) = ap (λ x. x ∷ []) (leaf_refers_form z l.kind l.bounds)
refers_forms z (l ∷ m ∷ ls) = ap (λ xs. form l ∷ xs) (refers_forms z (m ∷ ls))

-- whatever the REFER extent is
pub forms_with : (z : ℤ) (s : Shape) → forms (leaves_with z s) ≡ forms s.signature.leaves
forms_with z s = of_member s.refer
  where
    of_member : (m : Option ℕ) → forms (leaves_refer z m s.signature.leaves) ≡ forms s.signature.leaves
    of_member None = refl
    of_member (Some n) = refers_forms z s.signature.leaves

-- a generation that is found by a name has the forms of the shape that it was sought with
pub named_forms : (s : State) (n : Name) (shape : Shape) (g : Generation) → named s n shape ≡ Some g
    → forms g.shape.signature.leaves ≡ forms shape.signature.leaves
named_forms s n shape g e = of_found (generation_at s n) e
  where
    by_test : (x : Generation) (t : Bool) → same_shape x.shape shape ≡ t → cond t (Some x) None ≡ Some g
        → forms g.shape.signature.leaves ≡ forms shape.signature.leaves
    by_test x true f k =
        let same : x ≡ g = cc k in
        let all = both_true (same_class x.shape.signature.class shape.signature.class) _ f in
        let leaves = both_true (same_leaves x.shape.signature.leaves shape.signature.leaves) _ all.1 in
        subst (λ y. forms y.shape.signature.leaves ≡ forms shape.signature.leaves) same
        (same_forms x.shape.signature.leaves shape.signature.leaves leaves.0)
    by_test x false f k = absurd (cc k)

    of_found : (o : Option Generation) → if_same_shape shape o ≡ Some g
        → forms g.shape.signature.leaves ≡ forms shape.signature.leaves
    of_found None k = absurd (cc k)
    of_found (Some x) k = by_test x (same_shape x.shape shape) refl k

pub named_given : (shape : Shape) (g : Generation) (o : Option Generation) → if_same_shape shape o ≡ Some g
    → o ≡ Some g
named_given shape g None e = absurd (cc e)
named_given shape g (Some x) e = by_test (same_shape x.shape shape) e
  where
    by_test : (t : Bool) → cond t (Some x) None ≡ Some g → Some x ≡ Some g
    by_test true k = k
    by_test false k = absurd (cc k)

-- and its class
pub named_plain : (shape : Shape) (g : Generation) (o : Option Generation) → if_same_shape shape o ≡ Some g
    → shape.signature.class ≡ PlainClass → (o ≡ Some g) × (g.shape.signature.class ≡ PlainClass)
named_plain shape g None e c = absurd (cc e)
named_plain shape g (Some x) e c = by_test (same_shape x.shape shape) refl e
  where
    plain : (a b : Class) → same_class a b ≡ true → b ≡ PlainClass → a ≡ PlainClass
    plain PlainClass b e f = refl
    plain ControlledClass PlainClass e f = absurd (cc e)
    plain ControlledClass ControlledClass e f = absurd (cc f)

    by_test : (t : Bool) → same_shape x.shape shape ≡ t → cond t (Some x) None ≡ Some g
        → (Some x ≡ Some g) × (g.shape.signature.class ≡ PlainClass)
    by_test true f k =
        let same : x ≡ g = cc k in
        let all = both_true (same_class x.shape.signature.class shape.signature.class) _ f in (
          k,
          subst (λ y. y.shape.signature.class ≡ PlainClass) same
              (plain x.shape.signature.class shape.signature.class all.0 c),
        )
    by_test false f k = absurd (cc k)

-- ---- arguments

type_taken : (a c : Y.LeafType) → type_passes a c ≡ true → type_number a ≡ type_number c
type_taken (Y.FixedLeaf p) (Y.FixedLeaf q) e = refl
type_taken (Y.CharacterLeaf m) (Y.CharacterLeaf n) e = refl
type_taken (Y.VaryingLeaf m) (Y.VaryingLeaf n) e = refl
type_taken Y.BitLeaf Y.BitLeaf e = refl
type_taken Y.PointerLeaf Y.PointerLeaf e = refl
type_taken (Y.OffsetLeaf m) (Y.OffsetLeaf n) e = refl
type_taken (Y.AreaLeaf m) (Y.AreaLeaf n) e = refl
type_taken a c e = absurd (cc e)

bounds_taken : (as' bs : List Y.Bounds) → bounds_pass as' bs ≡ true → length as' ≡ length bs
bounds_taken [] [] e = refl
bounds_taken [] (c ∷ bs) e = absurd (cc e)
bounds_taken (a ∷ as') [] e = absurd (cc e)
bounds_taken (a ∷ as') (c ∷ bs) e =
    let parts = both_true (extent_passes a.lower c.lower && extent_passes a.upper c.upper) (bounds_pass as' bs) e in
    ap suc (bounds_taken as' bs parts.1)

pub leaves_taken : (as' bs : List Y.Leaf) → leaves_pass as' bs ≡ true → declared_forms as' ≡ declared_forms bs
leaves_taken [] [] e = refl
leaves_taken [] (c ∷ bs) e = absurd (cc e)
leaves_taken (a ∷ as') (c ∷ bs) e =
    let parts = both_true (type_passes a.type c.type && bounds_pass a.bounds c.bounds) (leaves_pass as' bs) e in
    let first = both_true (type_passes a.type c.type) (bounds_pass a.bounds c.bounds) parts.0 in
    ap (λ x. x ∷ declared_forms as')
    (same_form _ _ _ _ (type_taken a.type c.type first.0) (bounds_taken a.bounds c.bounds first.1))
    ∙ ap (λ xs. declared_form c ∷ xs) (leaves_taken as' bs parts.1)
leaves_taken (a ∷ as') [] e = absurd (cc e)

pub copied_number : (t : Y.LeafType) (v : BasicValue) → kind_number (D.copied_kind t v) ≡ type_number t
copied_number (Y.FixedLeaf p) v = refl
copied_number (Y.CharacterLeaf (Y.ConstantExtent z)) v = refl
copied_number (Y.CharacterLeaf Y.StarExtent) v = refl
copied_number (Y.CharacterLeaf Y.ReferExtent) v = refl
copied_number (Y.CharacterLeaf (Y.EvaluatedExtent place)) v = refl
copied_number (Y.VaryingLeaf (Y.ConstantExtent z)) v = refl
copied_number (Y.VaryingLeaf Y.StarExtent) v = refl
copied_number (Y.VaryingLeaf Y.ReferExtent) v = refl
copied_number (Y.VaryingLeaf (Y.EvaluatedExtent place)) v = refl
copied_number Y.BitLeaf v = refl
copied_number Y.PointerLeaf v = refl
copied_number (Y.OffsetLeaf area) v = refl
copied_number (Y.AreaLeaf size) v = refl

-- a copy has the form of a scalar parameter
pub scalar_shaped : (d : Y.DeclaredVariable) (t : Y.LeafType) (kind : LeafKind) → IsScalarParameter d t
    → kind_number kind ≡ type_number t → IsShapedAs d (K.plain kind)
scalar_shaped d t kind h e =
    let type_is : type_number h.leaf.type ≡ type_number t = ap type_number h.type_is in
    let many : length h.leaf.bounds ≡ 0 = ap length h.none in
    subst (λ ls. forms (K.plain kind).signature.leaves ≡ declared_forms ls) (sym h.one)
    (ap (λ x. x ∷ []) (same_form _ _ _ _ (e ∙ sym type_is) (sym many)))

-- ---- a leaf

-- the form of a declared leaf
pub form_there : (ts : List Y.Leaf) (place : ℕ) (leaf : Y.Leaf) → slice_get ts place ≡ Some leaf
    → slice_get (declared_forms ts) place ≡ Some (declared_form leaf)
form_there [] place leaf e = absurd (cc e)
form_there (t ∷ ts) zero leaf e = let same : t ≡ leaf = cc e in ap (λ x. Some (declared_form x)) same
form_there (t ∷ ts) (suc p) leaf e = form_there ts p leaf e

-- a leaf that is there, of the form of a declared one
pub record Formed (ls : List Leaf) (place : ℕ) (leaf : Y.Leaf) : Type 0 where
  pub own : Leaf
  pub there : slice_get ls place ≡ Some own
  pub form_is : form own ≡ declared_form leaf

pub formed : (ls : List Leaf) (ts : List Y.Leaf) (place : ℕ) (leaf : Y.Leaf) → forms ls ≡ declared_forms ts
    → slice_get ts place ≡ Some leaf → Formed ls place leaf
formed ls [] place leaf e there = absurd (cc there)
formed [] (t ∷ ts) place leaf e there = absurd (cc e)
formed (l ∷ ls) (t ∷ ts) zero leaf e there =
    let same : t ≡ leaf = cc there in
    let first : form l ≡ declared_form t = cc e in
    record { own = l; there = refl; form_is = subst (λ x. form l ≡ declared_form x) same first }
formed (l ∷ ls) (t ∷ ts) (suc p) leaf e there =
    let rest : forms ls ≡ declared_forms ts = cc e in
    let r = formed ls ts p leaf rest there in
    record { own = r.own; there = r.there; form_is = r.form_is }

-- ---- what is designated

-- a part of a generation that is shaped as a variable is declared
pub record IsPartOf (d : Y.DeclaredVariable) (part : Y.Part) (x : V.Designated) : Type 0 where
  pub shaped : IsShapedAs d x.generation.shape
  pub owned : IsAreaVariable d → IsOwnName x.name
  pub part_is : x.part ≡ part

pub leaf_formed : (d : Y.DeclaredVariable) (shape : Shape) (z : ℤ) (place : ℕ) (leaf : Y.Leaf) → IsShapedAs d shape
    → slice_get d.leaves place ≡ Some leaf → form (V.leaf_at shape z place) ≡ declared_form leaf
leaf_formed d shape z place leaf h there =
    let f = formed (leaves_with z shape) d.leaves place leaf (forms_with z shape ∙ h) there in
    subst (λ o. form (unwrap_or o unreachable_leaf) ≡ declared_form leaf) (sym f.there) f.form_is

-- a dimension that it has
pub record HasBounds (x : V.Designated) (dimension : ℕ) : Type 0 where
  pub bounds : Bounds
  pub there : V.bounds_in x dimension ≡ Some bounds

pub some_there : {X : Type 0} (xs : List X) (n : ℕ) → n < length xs → (x : X) × (slice_get xs n ≡ Some x)
some_there [] n h = absurd (omega (arith, h))
some_there (x ∷ xs) zero h = (x, refl)
some_there (x ∷ xs) (suc n) h = some_there xs n (omega (arith, h))

pub bounds_there : (d : Y.DeclaredVariable) (part : Y.Part) (x : V.Designated) (leaf : Y.Leaf) (dimension : ℕ)
    → IsPartOf d part x → slice_get d.leaves part.first ≡ Some leaf → 1 ≤ dimension → dimension ≤ length leaf.bounds
    → HasBounds x dimension
bounds_there d part x leaf zero h there low high = absurd (omega (arith, low))
bounds_there d part x leaf (suc n) h there low high =
    let same : form (V.first_leaf x) ≡ declared_form leaf =
    leaf_formed d x.generation.shape x.extent x.part.first leaf h.shaped
    (subst (λ p. slice_get d.leaves p.first ≡ Some leaf) (sym h.part_is) there) in
    let many : length (V.first_leaf x).bounds ≡ length leaf.bounds = ap (λ f. f.bounds) same in
    let found = some_there (V.first_leaf x).bounds n (omega (arith, many, high)) in
    record { bounds = found.0; there = found.1 }
