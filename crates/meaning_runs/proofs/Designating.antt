-- What is designated and changed at once: the generation still stands there, and values of the leaves' kinds go into
-- it.
use Rattle.std.proofs.Common.{◌≡◌, ℕ, zero, suc, ◌+◌, ◌-◌, ◌<◌, ◌≤◌, ℤ, List, [], ◌∷◌, Option, Some, None, Bool, true}
use Rattle.std.proofs.Common.{false, refl, ap, sym, ◌∙◌, subst, arith}
use Rattle.std.specs.Prelude.{◌==◌, ◌&&◌, ◌++◌, nat_le, nat_lt, take, drop, length, map, slice_get}
use Rattle.std.proofs.lemmas.Bool.Decides.{nat_tests}
use Rattle.pli_typing.specs.Assigning.{same_type, leaves_match}
use Rattle.pli_typing.specs.TypedTree as Y
use Rattle.pli_meaning.specs.BasicValues.{Name, BasicValue}
use Rattle.pli_meaning.specs.Contents.{Shape, Generation}
use Rattle.pli_meaning.specs.StorageState.{State, standing_for, named, generation_at, with_generation}
use Rattle.pli_meaning.specs.Control.{Flow, Normal, Jump, Return, Ended, Paused, Stuck, Meaning, give, flow_on}
use Rattle.pli_meaning.specs.Control.{◌>>=◌, ◌>>◌, looked, choose, given}
use Rattle.pli_meaning.specs.Raising as G
use Rattle.pli_meaning.specs.DeclaredShapes as D
use Rattle.pli_meaning.specs.Evaluating as V
use Rattle.pli_meaning.specs.Placing as A
use Rattle.pli_meaning.specs.Streaming as S
use Rattle.pli_meaning.specs.StreamOrder.{Element}
use Rattle.well_formed_trees.specs.Surroundings as W
use Rattle.well_formed_trees.specs.Declarations.{HoldsArea}
use Rattle.well_formed_trees.specs.References.{given_in, leaf_left, IsScalar, IsArray}
use Rattle.well_formed_trees.specs.Expressions as X
use Rattle.well_formed_trees.specs.Statements as T
use Rattle.meaning_runs.proofs.Calling as P
use Rattle.meaning_runs.proofs.Shapes.{Form, forms, declared_form, type_number, IsShapedAs, form_there}
use Rattle.meaning_runs.proofs.Shapes.{IsAreaVariable, area_holds, named_given, named_forms, both_true, some_there}
use Rattle.meaning_runs.proofs.Values.{HasValues, IsOfNumber, kept_number, seen_number, value_put, elements_put}
use Rattle.meaning_runs.proofs.Values.{generation_valued}
use Rattle.meaning_runs.proofs.Demands.{Demand, Kept, Anything, Comes, There}
use Rattle.meaning_runs.proofs.Steps.{bind_there}
use Rattle.meaning_runs.proofs.Ways.{Ways, demand, around, here, declared_there, generation_kept}
use Rattle.meaning_runs.proofs.Expressions.{error_there, numbers_there, located_there, IsSought, IsTold, IsFound}
use Rattle.meaning_runs.proofs.Expressions.{told_standing, told_located, area_unlocated}
use Rattle.meaning_runs.proofs.AtStates.{AtState, at_state, at_each, looked_at, or_error_at, stored_at}

-- ---- parts behind one another

flow_joined : {P Q R : Type 0} (k : ℕ) (fl : Flow P) (f : P → Meaning Q) (g : Q → Meaning R)
    → flow_on k fl (λ x. f x >>= g) ≡ flow_on k (flow_on k fl f) g
unfolding ◌>>=◌
flow_joined k (Normal x s) f g = refl
flow_joined k (Jump height label s) f g = refl
flow_joined k (Return v s) f g = refl
flow_joined k (Ended s) f g = refl
flow_joined k (Paused s) f g = refl
flow_joined k Stuck f g = refl

pub joined_at : {P Q R : Type 0} {d : Demand} {left : ℕ} {after : R → Type 0} (s : State) (m : Meaning P)
    (f : P → Meaning Q) (g : Q → Meaning R) → AtState d left after s (m >>= λ x. (f x >>= g))
    → AtState d left after s ((m >>= f) >>= g)
unfolding ◌>>=◌
joined_at {d = d} {left} {after} s m f g a =
    record {
      comes = λ k h r c.
          subst (λ fl. Comes d after 0 1 s.world.acts k fl) (flow_joined k (m k s) f g) (a.comes k h r c);
    }

pub then_joined_at : {P Q R : Type 0} {d : Demand} {left : ℕ} {after : R → Type 0} (s : State) (m : Meaning P)
    (f : Meaning Q) (g : Q → Meaning R) → AtState d left after s (m >> (f >>= g))
    → AtState d left after s ((m >> f) >>= g)
unfolding ◌>>=◌ ◌>>◌
then_joined_at {d = d} {left} {after} s m f g a =
    record {
      comes = λ k h r c.
          subst (λ fl. Comes d after 0 1 s.world.acts k fl) (flow_joined k (m k s) (λ x. f) g) (a.comes k h r c);
    }

pub demanded_at : {R : Type 0} {after : R → Type 0} (w : Ways) (s : State) (code : ℕ) (t : Bool) (next : Meaning R)
    → AtState (demand w) w.left after s next
    → AtState (demand w) w.left after s (G.demanded (around w) code t >> next)
unfolding G.demanded choose give ◌>>=◌ ◌>>◌
demanded_at w s code true next a = record { comes = a.comes }
demanded_at {after = after} w s code false next a =
    let r = at_state {after = after} s (bind_there {next = λ x. next} (error_there {after = λ x. ⊥} code w)
    (λ x f. absurd f)) in
    record { comes = r.comes }

pub given_at : {P R : Type 0} {d : Demand} {left : ℕ} {after : R → Type 0} (s : State) (x : P) (next : P → Meaning R)
    → AtState d left after s (next x) → AtState d left after s (give x >>= next)
unfolding give ◌>>=◌
given_at s x next a = record { comes = a.comes }

found_at : {P Q R : Type 0} {d : Demand} {left : ℕ} {after : R → Type 0} (s : State) (o : Option P) (x : P)
    (f : P → Meaning Q) (m : Meaning Q) (next : Q → Meaning R) → o ≡ Some x
    → AtState d left after s (f x >>= next) → AtState d left after s (given o f m >>= next)
unfolding given
found_at s None x f m next e a = absurd (cc e)
found_at {d = d} {left} {after} s (Some y) x f m next e a =
    let same : x ≡ y = cc e in subst (λ z. AtState d left after s (f z >>= next)) same a

-- what is kept may be used
pub kept_at : {R : Type 0} {d : Demand} {left : ℕ} {after : R → Type 0} {m : Meaning R} (s : State)
    → (Kept d s → AtState d left after s m) → AtState d left after s m
kept_at s a = record { comes = λ k h r c. (a c).comes k h r c }

-- ---- designated

-- that it still stands where it was found
abbrev pub StandsAt : State → V.Designated → Type 0
StandsAt s x = generation_at s x.name ≡ Some x.generation

part_designated_at : {R : Type 0} {after : R → Type 0} (w : Ways) (s : State) (n : Name) (shape : Shape)
    (part : Y.Part) (is : List ℤ) (next : V.Designated → Meaning R)
    → ((x : V.Designated) → IsSought n shape part x → StandsAt s x → AtState (demand w) w.left after s (next x))
    → AtState (demand w) w.left after s (V.part_designated (around w) n shape part is >>= next)
unfolding V.part_designated
part_designated_at w s n shape part is next each =
    kept_at s (λ kept. joined_at s looked _ next (looked_at s _ (joined_at s _ _ next
    (or_error_at w s _ (named s n shape) (λ g e. joined_at s _ _ next (or_error_at w s _ _ (λ z f.
    then_joined_at s _ _ next (demanded_at w s _ _ _ (given_at s _ next
    (let standing : generation_at s n ≡ Some g = named_given shape g (generation_at s n) e in
    each _ (sought s g e, (refl, (refl, generation_valued s n g kept.0.1.1.0.1 standing))) standing))))))))))
  where
    sought : (s : State) (g : Generation) → named s n shape ≡ Some g
        → forms g.shape.signature.leaves ≡ forms shape.signature.leaves
    sought s g e = named_forms s n shape g e

variable_designated_at : {R : Type 0} {after : R → Type 0} (w : Ways) (s : State) (v : Y.Variable)
    (name : Option Name) (part : Y.Part) (is : List ℤ) (d : Y.DeclaredVariable) → W.IsDeclared (here w) v d
    → (IsAreaVariable d → name ≡ None) → (next : V.Designated → Meaning R)
    → ((x : V.Designated) → IsTold w.program v part x → StandsAt s x → AtState (demand w) w.left after s (next x))
    → AtState (demand w) w.left after s (V.variable_designated (around w) v name part is >>= next)
unfolding V.variable_designated
variable_designated_at w s v None part is d h located next each =
    kept_at s (λ kept. joined_at s looked _ next (looked_at s _ (joined_at s _ _ next
    (or_error_at w s _ (standing_for s v) (λ b j. part_designated_at w s b.name b.shape part is next
    (λ x f e. each x (told_standing w s v part d b kept h j x f) e))))))
variable_designated_at w s v (Some n) part is d h located next each =
    found_at s _ d _ _ next h.found (part_designated_at w s n (D.shape_of [] d) part is next
    (λ x f e. each x (told_located w v part d n h (λ area. absurd (cc (located area))) x f) e))

-- a reference, and what is done with it at once
pub designated_then : {R : Type 0} {after : R → Type 0} (r : Y.Reference) (w : Ways)
    (next : V.Designated → Meaning R) → X.SoundReference (here w) r → P.AllowedReference w.calls r
    → ((s : State) (x : V.Designated) → IsFound w.program r x → StandsAt s x
    → AtState (demand w) w.left after s (next x))
    → There (demand w) 0 1 w.left after (V.designated (around w) r >>= next)
unfolding V.designated
designated_then (Y.Referring v locator part subscripts) w next h p each =
    let fine = declared_there w.program w.table w.whole v h.0.d h.0.declared.found in
    at_each (λ s. joined_at s _ _ next (at_state s (bind_there (located_there locator w h.1.1.0 p.0)
    (λ n k. at_each (λ t. joined_at t _ _ next (at_state t (bind_there (numbers_there subscripts w h.1.1.1 p.1)
    (λ is j. at_each (λ u. variable_designated_at w u v n part is h.0.d h.0.declared
    (λ area. area_unlocated v.class locator n h.1.0 k
    (subst HoldsArea h.0.declared.same_class (area_holds h.0.d fine.areas area))) next (each u))))))))))

-- an element as it stands now
abbrev pub element_now : V.Designated → Element → Generation → V.Designated
element_now x e g =
    record {
      name = x.name;
      generation = g;
      extent = x.extent;
      part = record { first = e.0; count = 1 };
      subscripts = e.1;
    }

pub element_then : {R : Type 0} {after : R → Type 0} (x : V.Designated) (e : Element) (w : Ways)
    (next : V.Designated → Meaning R)
    → ((s : State) (g : Generation) → forms g.shape.signature.leaves ≡ forms x.generation.shape.signature.leaves
    → HasValues g → StandsAt s (element_now x e g) → AtState (demand w) w.left after s (next (element_now x e g)))
    → There (demand w) 0 1 w.left after (S.element_designated (around w) x e >>= next)
unfolding S.element_designated
element_then x e w next each =
    at_each (λ s. kept_at s (λ kept. joined_at s looked _ next (looked_at s _ (joined_at s _ _ next
    (or_error_at w s _ (named s x.name x.generation.shape) (λ g f. then_joined_at s _ _ next (demanded_at w s _ _ _
    (given_at s _ next
    (let standing : generation_at s x.name ≡ Some g =
    named_given x.generation.shape g (generation_at s x.name) f in
    each s g (named_forms s x.name x.generation.shape g f)
    (generation_valued s x.name g kept.0.1.1.0.1 standing) standing)))))))))

-- ---- stored

-- a value of the leaf's kind
abbrev pub FitsAt : V.Designated → BasicValue → Type 0
FitsAt x v =
    (f : Form) → slice_get (forms x.generation.shape.signature.leaves) x.part.first ≡ Some f → IsOfNumber f.kind v

pub element_stored_at : (w : Ways) (s : State) (x : V.Designated) (v : BasicValue) → StandsAt s x
    → HasValues x.generation → FitsAt x v → AtState (demand w) w.left Anything s (A.element_stored x v)
unfolding A.element_stored
element_stored_at w s x v standing valued fits =
    stored_at s (with_generation x.name (A.with_element x v))
    (λ k. generation_kept (demand w) x.name (A.with_element x v) s x.generation (λ g. (refl, refl)) standing
    (value_put x.generation x.part.first x.subscripts _ valued (λ f e. kept_number f.kind _ _ v (fits f e))) k)

-- values of the kinds of all leaves of a part
abbrev pub FitAll : V.Designated → (ℕ → List ℤ → BasicValue) → Type 0
FitAll x values =
    (i : ℕ) (f : Form) → slice_get (forms x.generation.shape.signature.leaves) i ≡ Some f → (is : List ℤ)
    → A.is_in_part x i is ≡ true
    → IsOfNumber f.kind (values (i - x.part.first) (drop (length x.subscripts) is))

pub elements_stored_at : (w : Ways) (s : State) (x : V.Designated) (values : ℕ → List ℤ → BasicValue)
    → StandsAt s x → HasValues x.generation → FitAll x values
    → AtState (demand w) w.left Anything s (A.elements_stored x values)
unfolding A.elements_stored
elements_stored_at w s x values standing valued fits =
    stored_at s (with_generation x.name (A.with_elements x values))
    (λ k. generation_kept (demand w) x.name (A.with_elements x values) s x.generation (λ g. (refl, refl)) standing
    (elements_put x values x.generation valued fits) k)

pub then_give_at : {R : Type 0} {d : Demand} {left : ℕ} {after : R → Type 0} (s : State)
    (m : Meaning (Unit {0})) (r : R) → after r → AtState d left Anything s m → AtState d left after s (m >> give r)
unfolding give ◌>>◌
then_give_at {R} {d} {left} {after} s m r a h =
    record { comes = λ k i j c. of_flow k (m k s) (h.comes k i j c) }
  where
    of_flow : (k : ℕ) (fl : Flow (Unit {0})) → Comes d Anything 0 1 s.world.acts k fl
        → Comes d after 0 1 s.world.acts k (flow_on k fl (λ u. give r))
    of_flow k (Normal u t) h = (h.0, (h.1.0, (h.1.1.0, a)))
    of_flow k (Jump height label t) h = h
    of_flow k (Return v t) h = h
    of_flow k (Ended t) h = h
    of_flow k (Paused t) h = h
    of_flow k Stuck h = h

-- ---- kinds of what references designate

pub found_valued : (p : Y.Program) (r : Y.Reference) (x : V.Designated) → IsFound p r x → HasValues x.generation
found_valued p (Y.Referring v locator part subscripts) x found = found.1

-- a leaf has the form that it is declared with
pub form_at : (d : Y.DeclaredVariable) (shape : Shape) (place : ℕ) (leaf : Y.Leaf) → IsShapedAs d shape
    → slice_get d.leaves place ≡ Some leaf
    → slice_get (forms shape.signature.leaves) place ≡ Some (declared_form leaf)
form_at d shape place leaf shaped there =
    subst (λ fs. slice_get fs place ≡ Some (declared_form leaf)) (sym shaped) (form_there d.leaves place leaf there)

pub form_known : (d : Y.DeclaredVariable) (shape : Shape) (place : ℕ) (leaf : Y.Leaf) (f : Form)
    → IsShapedAs d shape → slice_get d.leaves place ≡ Some leaf
    → slice_get (forms shape.signature.leaves) place ≡ Some f → declared_form leaf ≡ f
form_known d shape place leaf f shaped there e =
    let known = form_at d shape place leaf shaped there in cc (known, e)

pub scalar_fits : (w : Ways) (r : Y.Reference) (type : Y.LeafType) (x : V.Designated) (v : BasicValue)
    → IsScalar (here w) type r → IsFound w.program r x → IsOfNumber (type_number type) v → FitsAt x v
scalar_fits w (Y.Referring variable locator part subscripts) type x v s found kind f e =
    let d : Y.DeclaredVariable = s.designates.d in
    let is = found.0 d s.designates.declared.found in
    let same : declared_form s.leaf ≡ f =
    form_known d x.generation.shape x.part.first s.leaf f is.shaped
    (subst (λ p. slice_get d.leaves p.first ≡ Some s.leaf) (sym is.part_is) s.one.leaf_is) e in
    let kind_is : type_number type ≡ f.kind = sym (ap type_number s.type_is) ∙ ap (λ y. y.kind) same in
    subst (λ n. IsOfNumber n v) kind_is kind

-- where an element of a part stands
pub record IsPlace (x : V.Designated) (i : ℕ) : Type 0 where
  pub low : x.part.first ≤ i
  pub high : i < x.part.first + x.part.count

pub part_place : (x : V.Designated) (i : ℕ) (is : List ℤ) → A.is_in_part x i is ≡ true → IsPlace x i
part_place x i is e =
    let tests = both_true (nat_le x.part.first i) _ e in
    let more = both_true (nat_lt i (x.part.first + x.part.count)) _ tests.1 in
    record { low = grind (arith, nat_tests, tests.0); high = grind (arith, nat_tests, more.0) }

pub array_fits : (w : Ways) (r : Y.Reference) (type : Y.LeafType) (x : V.Designated) (v : BasicValue)
    → IsArray (here w) type r → IsFound w.program r x → IsOfNumber (type_number type) v
    → FitAll x (λ leaf subscripts. v)
array_fits w (Y.Referring variable locator part subscripts) type x v s found kind i f e is inside =
    let d : Y.DeclaredVariable = s.designates.d in
    let told = found.0 d s.designates.declared.found in
    let place = part_place x i is inside in
    let low = place.low in
    let high = place.high in
    let one = s.one.one in
    let count : x.part.count ≡ part.count = ap (λ p. p.count) told.part_is in
    let first : x.part.first ≡ part.first = ap (λ p. p.first) told.part_is in
    let at : part.first ≡ i = omega (arith, low, high, one, count, first) in
    let same : declared_form s.leaf ≡ f =
    form_known d x.generation.shape i s.leaf f told.shaped
    (subst (λ p. slice_get d.leaves p ≡ Some s.leaf) at s.one.leaf_is) e in
    let kind_is : type_number type ≡ f.kind = sym (ap type_number s.type_is) ∙ ap (λ y. y.kind) same in
    subst (λ n. IsOfNumber n v) kind_is kind

-- ---- aggregates of equal kinds

same_types : (a b : Y.LeafType) → same_type a b ≡ true → type_number b ≡ type_number a
same_types (Y.FixedLeaf p) (Y.FixedLeaf q) e = refl
same_types (Y.CharacterLeaf m) (Y.CharacterLeaf n) e = refl
same_types (Y.VaryingLeaf m) (Y.VaryingLeaf n) e = refl
same_types Y.BitLeaf Y.BitLeaf e = refl
same_types Y.PointerLeaf Y.PointerLeaf e = refl
same_types (Y.OffsetLeaf m) (Y.OffsetLeaf n) e = refl
same_types a b e = absurd (cc e)

-- a leaf at a place, of a kind
record IsMatch (ls : List Y.Leaf) (place kind : ℕ) : Type 0 where
  leaf : Y.Leaf
  there : slice_get ls place ≡ Some leaf
  kind_is : type_number leaf.type ≡ kind

matched : (m n : ℕ) (as' bs : List Y.Leaf) (i : ℕ) (leaf : Y.Leaf)
    → leaves_match (map (leaf_left m) as') (map (leaf_left n) bs) ≡ true → slice_get as' i ≡ Some leaf
    → IsMatch bs i (type_number leaf.type)
matched m n [] bs i leaf h e = absurd (cc e)
matched m n (a ∷ as') [] i leaf h e = absurd (cc h)
matched m n (a ∷ as') (b ∷ bs) zero leaf h e =
    let same : a ≡ leaf = cc e in
    let parts = both_true (same_type a.type b.type && (length (drop m a.bounds) == length (drop n b.bounds)))
    (leaves_match (map (leaf_left m) as') (map (leaf_left n) bs)) h in
    let first = both_true (same_type a.type b.type) (length (drop m a.bounds) == length (drop n b.bounds)) parts.0 in
    record {
      leaf = b;
      there = refl;
      kind_is = same_types a.type b.type first.0 ∙ ap (λ l. type_number l.type) same;
    }
matched m n (a ∷ as') (b ∷ bs) (suc i) leaf h e =
    let parts = both_true (same_type a.type b.type && (length (drop m a.bounds) == length (drop n b.bounds)))
    (leaves_match (map (leaf_left m) as') (map (leaf_left n) bs)) h in
    let r = matched m n as' bs i leaf parts.1 e in
    record { leaf = r.leaf; there = r.there; kind_is = r.kind_is }

-- leaves of a part, by their places among all
front_there : (count i : ℕ) (ls : List Y.Leaf) (leaf : Y.Leaf) → i < count → slice_get ls i ≡ Some leaf
    → slice_get (take count ls) i ≡ Some leaf
front_there zero i ls leaf h e = absurd (omega (arith, h))
front_there (suc c) i [] leaf h e = absurd (cc e)
front_there (suc c) zero (l ∷ ls) leaf h e = e
front_there (suc c) (suc i) (l ∷ ls) leaf h e = front_there c i ls leaf (omega (arith, h)) e

front_from : (count i : ℕ) (ls : List Y.Leaf) (leaf : Y.Leaf) → slice_get (take count ls) i ≡ Some leaf
    → slice_get ls i ≡ Some leaf
front_from zero i ls leaf e = absurd (cc e)
front_from (suc c) i [] leaf e = absurd (cc e)
front_from (suc c) zero (l ∷ ls) leaf e = e
front_from (suc c) (suc i) (l ∷ ls) leaf e = front_from c i ls leaf e

part_there : (first count i place : ℕ) (ls : List Y.Leaf) (leaf : Y.Leaf) → place ≡ first + i → i < count
    → slice_get ls place ≡ Some leaf → slice_get (take count (drop first ls)) i ≡ Some leaf
part_there zero count i place ls leaf at h e =
    front_there count i ls leaf h
    (let same : place ≡ i = omega (arith, at) in subst (λ p. slice_get ls p ≡ Some leaf) same e)
part_there (suc first) count i place [] leaf at h e = absurd (cc e)
part_there (suc first) count i zero (l ∷ ls) leaf at h e = absurd (omega (arith, at))
part_there (suc first) count i (suc place) (l ∷ ls) leaf at h e =
    part_there first count i place ls leaf (omega (arith, at)) h e

part_from : (first count i place : ℕ) (ls : List Y.Leaf) (leaf : Y.Leaf) → place ≡ first + i
    → slice_get (take count (drop first ls)) i ≡ Some leaf → slice_get ls place ≡ Some leaf
part_from zero count i place ls leaf at e =
    let same : i ≡ place = omega (arith, at) in
    subst (λ p. slice_get ls p ≡ Some leaf) same (front_from count i ls leaf e)
part_from (suc first) count i place [] leaf at e = absurd (front_none count i e)
  where
    front_none : (count i : ℕ) → slice_get (take count []) i ≡ Some leaf → ⊥
    front_none zero i e = absurd (cc e)
    front_none (suc c) i e = absurd (cc e)
part_from (suc first) count i zero (l ∷ ls) leaf at e = absurd (omega (arith, at))
part_from (suc first) count i (suc place) (l ∷ ls) leaf at e =
    part_from first count i place ls leaf (omega (arith, at)) e

moved : (m n : ℕ) (v : BasicValue) → m ≡ n → IsOfNumber m v → IsOfNumber n v
moved m n v e h = subst (λ k. IsOfNumber k v) e h

pub aggregates_fit : (w : Ways) (target source : Y.Reference) (x y : V.Designated)
    → T.AreAlike (here w) target source → IsFound w.program target x → IsFound w.program source y
    → FitAll x (A.elements_of y)
aggregates_fit w (Y.Referring v locator part subscripts) (Y.Referring u place' other more) x y h found given' i f e is
    inside =
    let d : Y.DeclaredVariable = h.target_is.d in
    let c : Y.DeclaredVariable = h.source_is.d in
    let told = found.0 d h.target_is.declared.found in
    let from = given'.0 c h.source_is.declared.found in
    let place = part_place x i is inside in
    let low = place.low in
    let high = place.high in
    let within = h.target_is.member.within in
    let first : x.part.first ≡ part.first = ap (λ p. p.first) told.part_is in
    let count : x.part.count ≡ part.count = ap (λ p. p.count) told.part_is in
    let leaf = some_there d.leaves i (omega (arith, high, within, first, count)) in
    let at : i ≡ part.first + (i - x.part.first) = omega (arith, low, first) in
    let front = part_there part.first part.count (i - x.part.first) i d.leaves leaf.0 at
    (omega (arith, low, high, count)) leaf.1 in
    let match = matched (given_in subscripts) (given_in more) (take part.count (drop part.first d.leaves))
    (take other.count (drop other.first c.leaves)) (i - x.part.first) leaf.0 h.alike front in
    let start : y.part.first ≡ other.first = ap (λ p. p.first) from.part_is in
    let there : slice_get c.leaves (y.part.first + (i - x.part.first)) ≡ Some match.leaf =
    part_from other.first other.count (i - x.part.first) (y.part.first + (i - x.part.first)) c.leaves match.leaf
    (omega (arith, start)) match.there in
    let value = given'.1 (y.part.first + (i - x.part.first)) (declared_form match.leaf)
    (form_at c y.generation.shape (y.part.first + (i - x.part.first)) match.leaf from.shaped there)
    (y.subscripts ++ drop (length x.subscripts) is) in
    let same : declared_form leaf.0 ≡ f = form_known d x.generation.shape i leaf.0 f told.shaped leaf.1 e in
    let seen = seen_number (type_number match.leaf.type) _ _ value in
    moved (type_number leaf.0.type) f.kind _ (ap (λ z. z.kind) same)
    (moved (type_number match.leaf.type) (type_number leaf.0.type) _ match.kind_is seen)
