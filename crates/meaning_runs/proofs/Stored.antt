-- Generations that come about, and changes of storage, are there.
use Rattle.std.proofs.Common.{◌≡◌, ℕ, zero, suc, ◌+◌, ◌<◌, ◌≤◌, ℤ, pos, List, [], ◌∷◌, ◌++◌, Option, Some, None, Bool}
use Rattle.std.proofs.Common.{true, false, refl, ap, sym, ◌∙◌, subst, arith}
use Rattle.std.specs.Prelude.{◌==◌, cond, slice_get}
use Rattle.std.proofs.lemmas.Bool.Decides.{nat_tests}
use Rattle.pli_language.specs.declared.condition.Condition.TheVariants as C
use Rattle.pli_meaning.specs.declared.outcome.End.TheVariants as E
use Rattle.pli_meaning.specs.declared.outcome.Limit.TheVariants as L
use Rattle.pli_meaning.specs.Codes.{area_code, heap_full_code}
use Rattle.pli_meaning.specs.World.{counted}
use Rattle.pli_typing.specs.Signatures.{LeafKind, PlainClass, ControlledClass}
use Rattle.pli_typing.specs.TypedTree as Y
use Rattle.pli_meaning.specs.BasicValues.{Name, NullName, VariableName, BasedName, BasicValue, BasicNumber, BasicText}
use Rattle.pli_meaning.specs.BasicValues.{BasicPointer, BasicOffset}
use Rattle.pli_meaning.specs.Contents.{fresh, kept, Shape, Generation, footprint_of, gap, placed_at, without_offset}
use Rattle.pli_meaning.specs.StorageState.{State, AreaContents, area_at, area_in, living_of, with_area, heap_serial}
use Rattle.pli_meaning.specs.StorageState.{heap_capacity, if_same_shape, generation_in, named}
use Rattle.pli_meaning.specs.Control.{Meaning, give, ◌>>=◌, ◌>>◌, looked, stored, act, choose, given, flow_on}
use Rattle.pli_meaning.specs.Raising.{Passed, PassedName, PassedValue, error, raised, or_error}
use Rattle.pli_meaning.specs.DeclaredShapes as D
use Rattle.pli_meaning.specs.Making as K
use Rattle.pli_meaning.specs.Placing as A
use Rattle.well_formed_trees.specs.Every.{Every}
use Rattle.well_formed_trees.specs.Surroundings.{Table, Returning}
use Rattle.well_formed_trees.specs.Surroundings as W
use Rattle.well_formed_trees.specs.Expressions as X
use Rattle.well_formed_trees.specs.Statements as T
use Rattle.meaning_runs.proofs.Calling as P
use Rattle.meaning_runs.proofs.Frames.{Frame, covered}
use Rattle.meaning_runs.proofs.Shapes.{IsShapedAs, shape_declared, IsOwnName, named_plain}
use Rattle.meaning_runs.proofs.Heaps.{HasHeap, gap_free, placed_there, heap_placed, heap_pushed, heap_freed, free_total}
use Rattle.meaning_runs.proofs.Bindings.{Ground}
use Rattle.meaning_runs.proofs.Demands.{Demand, Kept, Anything, Comes, There}
use Rattle.meaning_runs.proofs.Steps.{loose, slow, give_there, bind_there, then_there, looked_there, stored_there}
use Rattle.meaning_runs.proofs.Steps.{act_there, act_then, finish_there, choose_there, found_there}
use Rattle.meaning_runs.proofs.Ways.{Ways, demand, around, here, smaller, elsewhere, ThereAround, MayStand}
use Rattle.meaning_runs.proofs.Ways.{declared_there, area_kept, bound_kept, variable_kept}
use Rattle.meaning_runs.proofs.Ways.{freed_kept, TakesPassed, ArePassedAs}
use Rattle.meaning_runs.proofs.Expressions.{error_there, raised_there, or_error_there, demanded_there, own_area_there}
use Rattle.meaning_runs.proofs.Expressions.{area_meant_there, number_there, pointer_there, designated_there}
use Rattle.meaning_runs.proofs.Designating.{designated_then, demanded_at, element_stored_at, elements_stored_at}
use Rattle.meaning_runs.proofs.Designating.{found_valued, form_known, scalar_fits, aggregates_fit}
use Rattle.meaning_runs.proofs.Shapes.{form_with, kind_number, type_number, declared_form, StandsAs}
use Rattle.meaning_runs.proofs.Values.{IsOfNumber, HasValues, AllHave, kept_number, fresh_values, value_put}
use Rattle.meaning_runs.proofs.Values.{area_valued, placed_all, removed_all}
use Rattle.meaning_runs.proofs.Expressions.{found_or_error}
use Rattle.well_formed_trees.specs.Declarations.{IsReferIf}
use Rattle.meaning_runs.proofs.AtStates.{AtState, at_state, at_each, looked_at, or_error_at, or_error_then_at}
use Rattle.meaning_runs.proofs.AtStates.{stored_at, stored_give_at, choose_at, area_if_at}

-- ---- generations that come about

pub evaluations_there : (values : List ℤ) (xs : List Y.Evaluation) (w : Ways)
    → Every (λ x. X.SoundNumber (here w) x.value) xs → Every (λ x. P.AllowedNumber w.calls x.value) xs
    → There (demand w) 0 1 w.left Anything (K.evaluations (around w) values xs)
unfolding K.evaluations
evaluations_there values [] w h p = give_there values tt
evaluations_there values (x ∷ xs) w h p =
    bind_there (number_there x.value w h.0 p.0) (λ z k. then_there (demanded_there _ _ w)
    (evaluations_there (values ++ z ∷ []) xs w h.1 p.1))

pub extents_there : (xs : List Y.Evaluation) (w : Ways) → Every (λ x. X.SoundNumber (here w) x.value) xs
    → Every (λ x. P.AllowedNumber w.calls x.value) xs → There (demand w) 0 1 w.left Anything (K.extents (around w) xs)
unfolding K.extents
extents_there [] w h p = give_there [] tt
extents_there (x ∷ xs) w h p = then_there (act_there counted (λ v. refl)) (evaluations_there [] (x ∷ xs) w h p)

-- those of a declared variable
pub extents_declared : (v : Y.Variable) (d : Y.DeclaredVariable) (w : Ways) → W.IsDeclared (here w) v d
    → There (demand w) 0 1 w.left Anything (K.extents (around w) d.evaluations)
extents_declared v d w i =
    let h = declared_there w.program w.table w.whole v d i.found in
    let ground : Ground w.table w.bearing.frames h.blocks = record {
      around = w.ground.around;
      holds = w.ground.holds;
      chain = w.ground.chain;
      inside =
          covered w.table v.block v.level w.ground.around h.blocks w.ground.chain
          (w.ground.inside v.block v.level i.block_around) h.listed;
    } in
    extents_there d.evaluations (elsewhere h.blocks w ground) h.sound h.allowed

pub variable_made_there : {d : Demand} {few : ℕ} (variable : ℕ) (g : Generation)
    → ((n : Name) → IsOwnName n → MayStand d variable n g.shape) → HasValues g
    → There d 0 1 few Anything (K.variable_made variable g)
unfolding K.variable_made
variable_made_there {d} variable g h v =
    bind_there looked_there (λ s k. choose_there _
    (stored_there (K.with_variable variable g) (λ t j. variable_kept d variable g t h v j))
    (finish_there (E.Limit L.Automatic) tt))

-- in an activation of a block
abbrev in_frame : Y.Program → Table → Option Returning → Frame → List Frame → Demand
in_frame p table answers f fs =
    record { program = p; table = table; bearing = record { answers = answers; frames = f ∷ fs } }

copy_valued : (kind : LeafKind) (v : BasicValue) → IsOfNumber (kind_number kind) v → HasValues (K.copy_of kind v)
copy_valued kind v h zero f e is =
    let same : form_with (kind_number kind) 0 ≡ f = cc e in
    subst (λ x. IsOfNumber x.kind (kept kind (BasicText []) v)) same (kept_number (kind_number kind) kind _ v h)
copy_valued kind v h (suc i) f e is = absurd (cc e)

-- a parameter that the block declares
parameter_bound_there : {p : Y.Program} {table : Table} {answers : Option Returning} {f : Frame} {fs : List Frame}
    {few : ℕ} (variable : ℕ) (x : Passed) (d : Y.DeclaredVariable)
    → slice_get (D.variables_of_block p f.number) variable ≡ Some d → TakesPassed d x
    → There (in_frame p table answers f fs) 0 1 few Anything (K.parameter_bound variable x)
unfolding K.parameter_bound
parameter_bound_there {p} {table} {answers} {f} {fs} variable (PassedName n shape) d e h =
    stored_there (K.bound variable n shape)
    (λ s k. bound_kept (in_frame p table answers f fs) variable n shape s
    (λ c i. let same : d ≡ c = cc (e, i) in subst (λ y. StandsAs y n shape) same h) k)
parameter_bound_there variable (PassedValue kind v) d e h =
    variable_made_there variable (K.copy_of kind v)
    (λ n own c i.
    let same : d ≡ c = cc (e, i) in (subst (λ y. IsShapedAs y (K.plain kind)) same h.0, λ area. own))
    (copy_valued kind v h.1)

-- as many arguments as parameters, of the newest activation's block
pub parameters_bound_there : {p : Y.Program} {table : Table} {answers : Option Returning} {f : Frame}
    {fs : List Frame} {few : ℕ} (vs : List ℕ) (xs : List Passed) → ArePassedAs p f.number vs xs
    → There (in_frame p table answers f fs) 0 1 few Anything (K.parameters_bound vs xs)
unfolding K.parameters_bound
parameters_bound_there [] [] h = give_there tt tt
parameters_bound_there (v ∷ vs) (x ∷ xs) h =
    then_there (parameter_bound_there v x h.0.0 h.0.1 h.0.2) (parameters_bound_there vs xs h.1)
parameters_bound_there [] (x ∷ xs) h = absurd h
parameters_bound_there (v ∷ vs) [] h = absurd h

-- ---- storage that changes

-- the source is taken before the target is designated
pub aggregate_assigned_there : (target source : Y.Reference) (w : Ways) → T.AreAlike (here w) target source
    → X.SoundReference (here w) target → X.SoundReference (here w) source → P.AllowedReference w.calls target
    → P.AllowedReference w.calls source
    → There (demand w) 0 1 w.left Anything (A.aggregate_assigned (around w) target source)
unfolding A.aggregate_assigned
aggregate_assigned_there target source w l h i p q =
    bind_there (designated_there source w i q) (λ e k. designated_then target w _ h p
    (λ s x f standing. demanded_at w s _ _ _ (elements_stored_at w s x (A.elements_of e) standing
    (found_valued w.program target x f) (aggregates_fit w target source x e l f k))))

not_heap : (serial : ℕ) → 1 ≤ serial → (serial == heap_serial) ≡ true → ⊥
not_heap serial own e =
    let same : serial ≡ 0 = grind (arith, nat_tests, e) in absurd (omega (arith, own, same))

area_copied_there : (target : ℕ) (into from : AreaContents) (w : Ways) → 1 ≤ target → AllHave from.placed
    → There (demand w) 0 1 w.left Anything (A.area_copied (around w) target into from)
unfolding A.area_copied
area_copied_there target into from w own values =
    choose_there _
    (stored_there _ (λ s k. area_kept (demand w) target (λ placed. from.placed) s
    (λ e. absurd (not_heap target own e)) (λ ps h. values) k))
    (raised_there C.Area _ w)

pub area_assigned_there : (target source : Y.Variable) (w : Ways) → W.IsArea (here w) target
    → There (demand w) 0 1 w.left Anything (A.area_assigned (around w) target source)
unfolding A.area_assigned
area_assigned_there target source w h =
    bind_there (area_meant_there source w) (λ x k. bind_there (own_area_there target w h) (λ y j. bind_there
    looked_there (λ s i.
    bind_there (found_or_error _ (area_at s x) w) (λ from l. bind_there (or_error_there _ _ w) (λ into m. choose_there _
    (give_there tt tt) (area_copied_there y into from w j (area_valued s x from i.0.1.1.0.1 l)))))))

pub area_emptied_there : (target : Y.Variable) (w : Ways) → W.IsArea (here w) target
    → There (demand w) 0 1 w.left Anything (A.area_emptied (around w) target)
unfolding A.area_emptied
area_emptied_there target w h =
    bind_there (own_area_there target w h) (λ x own. stored_there _
    (λ s k. area_kept (demand w) x (λ placed. []) s (λ e. absurd (not_heap x own e)) (λ ps h. tt) k))

-- what is placed in a gap of the heap
heap_kept : (w : Ways) (s : State) (area o : ℕ) (g : Generation) (x : AreaContents) → Kept (demand w) s
    → area_at s area ≡ Some x → gap x.capacity (footprint_of g) x.placed ≡ Some o → (area == heap_serial) ≡ true
    → HasHeap w.program (A.placed_with o g s.heap) s.controlled
heap_kept w s area o g x k e f t =
    let heap : AreaContents = record { capacity = heap_capacity; placed = s.heap } in
    let same : heap ≡ x =
    by_test (area == heap_serial) t e in
    heap_placed w.program o g s.heap s.controlled (gap_free 0 heap_capacity o g s.heap k.0.1.1.1.0
    (subst (λ y. gap y.capacity (footprint_of g) y.placed ≡ Some o) (sym same) f)) k.0.1.1.1
  where
    by_test : (t : Bool) → t ≡ true
        → cond t (Some (record { capacity = heap_capacity; placed = s.heap })) (area_in (living_of s.living area))
        ≡ Some x → record { capacity = heap_capacity; placed = s.heap } ≡ x
    by_test true f e = cc e
    by_test false f e = absurd (cc f)

-- each time that AREA is raised makes acts
placing_there : (n area : ℕ) (g : Generation) (w : Ways) → w.left < n → HasValues g
    → There (demand w) 0 1 w.left Anything (A.placing n (around w) area g)
unfolding A.placing given
placing_there zero area g w few v = absurd (omega (arith, few))
placing_there (suc n) area g w few v =
    let again : There (demand w) 0 1 w.left Anything
    (choose (area == heap_serial) (error (around w) heap_full_code)
    (raised (around w) C.Area area_code >> (act counted >> A.placing n (around w) area g))) =
    choose_there _ (error_there _ w) (then_there (raised_there C.Area _ w) (slow (act_then counted (λ v. refl)
    (λ c e. loose (placing_there n area g (smaller w c (omega (arith, e))) (omega (arith, e, few)) v))))) in
    at_each (λ s. looked_at s _ (or_error_at w s _ (area_at s area) (λ x e.
    by_gap s x e again (gap x.capacity (footprint_of g) x.placed) refl)))
  where
    by_gap : (s : State) (x : AreaContents) → area_at s area ≡ Some x → {m : Meaning ℕ}
        → There (demand w) 0 1 w.left Anything m → (o : Option ℕ) → gap x.capacity (footprint_of g) x.placed ≡ o
        → AtState (demand w) w.left Anything s
        (given o (λ o. stored (with_area area (A.placed_with o g)) >> give o) m)
    by_gap s x e again None f = at_state s again
    by_gap s x e again (Some o) f =
        stored_give_at s (with_area area (A.placed_with o g)) o
        (λ k. area_kept (demand w) area (A.placed_with o g) s (λ t. heap_kept w s area o g x k e f t)
        (λ ps h. placed_all o g ps v h) k)

area_or_heap_there : (area : Option Y.Variable) → ThereAround Anything (λ a. A.area_or_heap a area)
unfolding A.area_or_heap
area_or_heap_there None w = give_there _ tt
area_or_heap_there (Some v) w = area_meant_there v w

locator_set_there : (target : Y.LocatorTarget) (n : Name) (w : Ways) → T.SoundTarget (here w) target
    → P.AllowedTarget w.calls target → There (demand w) 0 1 w.left Anything (A.locator_set (around w) target n)
unfolding A.locator_set
locator_set_there (Y.SetPointer r) n w h p =
    designated_then r w _ h.1 p (λ s x f standing. element_stored_at w s x _ standing (found_valued w.program r x f)
    (scalar_fits w r Y.PointerLeaf x (BasicPointer n) h.0 f tt))
locator_set_there (Y.SetOffset r area) n w h p =
    bind_there (area_meant_there area w) (λ a k. bind_there (or_error_there _ _ w) (λ o j.
    designated_then r w _ h.1.1 p (λ s x f standing. element_stored_at w s x _ standing
    (found_valued w.program r x f) (scalar_fits w r (Y.OffsetLeaf (Some area)) x (BasicOffset o) h.0 f tt))))

-- how a generation begins that is allocated
allocated_valued : (w : Ways) (v : Y.Variable) (d : Y.DeclaredVariable) (values : List ℤ) (z : ℤ)
    → W.IsDeclared (here w) v d → HasValues (A.first_generation values d z)
allocated_valued w v d values z h =
    let fine = declared_there w.program w.table w.whole v d h.found in
    with_member d.refer fine.refer
    (fresh_values (D.shape_of values d) z d.leaves (shape_declared values d) fine.initial)
  where
    with_member : (r : Option Y.ReferMember) → IsReferIf d r
        → HasValues (fresh (D.shape_of values d) z (D.initial_of d))
        → HasValues (A.with_member z r (fresh (D.shape_of values d) z (D.initial_of d)))
    with_member None i k = k
    with_member (Some r) i k =
        value_put (fresh (D.shape_of values d) z (D.initial_of d)) r.member [] (BasicNumber z) k
        (λ f e.
        let same : declared_form i.member ≡ f =
        form_known d (D.shape_of values d) r.member i.member f (shape_declared values d) i.member_is e in
        let kind : type_number i.member.type ≡ f.kind = ap (λ x. x.kind) same in
        subst (λ n. IsOfNumber n (BasicNumber z)) (sym (ap type_number i.number) ∙ kind) tt)

based_allocated_there : (v : Y.Variable) (d : Y.DeclaredVariable) (area : Option Y.Variable) (target : Y.LocatorTarget)
    (w : Ways) → W.IsDeclared (here w) v d → T.SoundTarget (here w) target → P.AllowedTarget w.calls target
    → There (demand w) 0 1 w.left Anything (A.based_allocated (around w) d area target)
unfolding A.based_allocated
based_allocated_there v d area target w s h p =
    bind_there (extents_declared v d w s) (λ values k. then_there (demanded_there _ _ w)
    (bind_there (area_or_heap_there area w) (λ x j.
    bind_there (placing_there w.turns x _ w w.few (allocated_valued w v d values _ s))
    (λ o i. locator_set_there target _ w h p))))

member_shape : (z : ℤ) (r : Option Y.ReferMember) (g : Generation) → (A.with_member z r g).shape ≡ g.shape
member_shape z None g = refl
member_shape z (Some r) g = refl

-- the heap has no condition for which there is a unit; what is placed there is the variable's newest generation
controlled_placed : (n : ℕ) (g : Generation) (v : Y.Variable) (w : Ways) → w.left < n
    → g.shape.signature.class ≡ ControlledClass → HasValues g
    → ((d : Y.DeclaredVariable) → D.declared_variable w.program v ≡ Some d → IsShapedAs d g.shape)
    → There (demand w) 0 1 w.left Anything
    (A.placing n (around w) heap_serial g >>= λ o. stored (A.with_newest v o))
unfolding A.placing looked stored give given choose or_error ◌>>=◌ ◌>>◌
controlled_placed zero g v w few class values shaped = absurd (omega (arith, few))
controlled_placed (suc n) g v w few class values shaped =
    record {
      comes = λ k s h r c. by_gap k s h r c (gap heap_capacity (footprint_of g) s.heap) refl;
    }
  where
    full : There (demand w) 0 1 w.left Anything
        (error (around w) heap_full_code >>= λ o. stored (A.with_newest v o))
    full = bind_there (error_there {after = λ o. ⊥} heap_full_code w) (λ o f. absurd f)

    kept : (s : State) (o : ℕ) → gap heap_capacity (footprint_of g) s.heap ≡ Some o → Kept (demand w) s
        → Kept (demand w) (A.with_newest v o (with_area heap_serial (A.placed_with o g) s))
    kept s o f c =
        let heap : HasHeap w.program s.heap s.controlled = c.0.1.1.1 in
        let free = gap_free 0 heap_capacity o g s.heap heap.0 f in
        let placed = heap_placed w.program o g s.heap s.controlled free heap in (
          (
            c.0.0,
            (
              c.0.1.0,
              (
                (c.0.1.1.0.0, (c.0.1.1.0.1.0, placed_all o g s.heap values c.0.1.1.0.1.1)),
                heap_pushed w.program (A.placed_with o g s.heap) v.block v.index o s.controlled
                    (record {
                      generation = g;
                      there = placed_there o g s.heap free.none;
                      class_is = class;
                      shaped = shaped;
                    }) (free_total w.program o s.heap s.controlled free.none heap) placed,
              ),
            ),
          ),
          c.1,
        )

    by_gap : (k : ℕ) (s : State) → s.world.acts ≤ k → k ≤ s.world.acts + w.left → Kept (demand w) s
        → (o : Option ℕ) → gap heap_capacity (footprint_of g) s.heap ≡ o
        → Comes (demand w) Anything 0 1 s.world.acts k
        (flow_on k (given o (λ o. stored (with_area heap_serial (A.placed_with o g)) >> give o)
        (error (around w) heap_full_code) k s) (λ o. stored (A.with_newest v o)))
    by_gap k s h r c None f = full.comes k s h r c
    by_gap k s h r c (Some o) f = (omega arith, (h, (kept s o f c, tt)))

controlled_allocated_there : (v : Y.Variable) (d : Y.DeclaredVariable) (w : Ways) → W.IsDeclared (here w) v d
    → v.class ≡ Y.ControlledClass
    → There (demand w) 0 1 w.left Anything (A.controlled_allocated (around w) v d)
unfolding A.controlled_allocated
controlled_allocated_there v d w s c =
    bind_there (extents_declared v d w s) (λ values k.
    controlled_placed w.turns (A.first_generation values d (pos 0)) v w w.few
    (ap (λ x. x.signature.class) (member_shape (pos 0) d.refer _) ∙ ap D.class_of (s.same_class ∙ c))
    (allocated_valued w v d values (pos 0) s)
    (λ x e. let same : d ≡ x = cc (s.found, e) in
    subst (IsShapedAs x) (sym (member_shape (pos 0) d.refer _))
    (subst (λ y. IsShapedAs y (D.shape_of values d)) same (shape_declared values d))))

allocation_there : (x : Y.Allocation) (w : Ways) → T.SoundAllocation (here w) x → P.AllowedAllocation w.calls x
    → There (demand w) 0 1 w.left Anything (A.allocation (around w) x)
unfolding A.allocation
allocation_there (Y.AllocateBased v area target) w h p =
    found_there _ h.0.d _ _ h.0.declared.found
    (based_allocated_there v h.0.d area target w h.0.declared h.1.1 p)
allocation_there (Y.AllocateControlled v) w h p =
    found_there _ h.d _ _ h.declared.found
    (controlled_allocated_there v h.d w h.declared h.class_is)

pub allocations_there : (xs : List Y.Allocation) (w : Ways) → Every (T.SoundAllocation (here w)) xs
    → Every (P.AllowedAllocation w.calls) xs → There (demand w) 0 1 w.left Anything (A.allocations (around w) xs)
unfolding A.allocations
allocations_there [] w h p = give_there tt tt
allocations_there (x ∷ xs) w h p = then_there (allocation_there x w h.0 p.0) (allocations_there xs w h.1 p.1)

-- a generation that BASED variables have isn't one of a CONTROLLED variable
plain_freed : (w : Ways) (s : State) (x o : ℕ) (shape : Shape) (g : Generation) → Kept (demand w) s
    → named s (BasedName x o) shape ≡ Some g → shape.signature.class ≡ PlainClass → (x == heap_serial) ≡ true
    → HasHeap w.program (without_offset o s.heap) s.controlled
plain_freed w s x o shape g k e c t =
    let found = by_test (x == heap_serial) t e in
    let parts = named_plain shape g (placed_at s.heap o) found c in
    heap_freed w.program o g s.heap s.controlled parts.0 parts.1 k.0.1.1.1
  where
    by_test : (t : Bool) → t ≡ true
        → if_same_shape shape (generation_in (cond t (Some (record { capacity = heap_capacity; placed = s.heap }))
        (area_in (living_of s.living x))) o) ≡ Some g → if_same_shape shape (placed_at s.heap o) ≡ Some g
    by_test true f e = e
    by_test false f e = absurd (cc f)

name_freed_at : (n : Name) (area : Option ℕ) (w : Ways) (s : State) (shape : Shape) (g : Generation)
    → named s n shape ≡ Some g → shape.signature.class ≡ PlainClass
    → AtState (demand w) w.left Anything s (A.name_freed (around w) n area)
unfolding A.name_freed
name_freed_at NullName area w s shape g e c = at_state s (error_there _ w)
name_freed_at (VariableName serial) area w s shape g e c = at_state s (error_there _ w)
name_freed_at (BasedName x o) None w s shape g e c =
    stored_at s (with_area x (without_offset o))
    (λ k. area_kept (demand w) x (without_offset o) s (λ t. plain_freed w s x o shape g k e c t)
    (λ ps h. removed_all o ps h) k)
name_freed_at (BasedName x o) (Some y) w s shape g e c =
    choose_at s (x == y) (stored_at s (with_area x (without_offset o))
    (λ k. area_kept (demand w) x (without_offset o) s (λ t. plain_freed w s x o shape g k e c t)
    (λ ps h. removed_all o ps h) k))
    (at_state s (error_there _ w))

based_freed_there : (d : Y.DeclaredVariable) (locator : Y.Pointer) (area : Option Y.Variable) (w : Ways)
    → d.class ≡ Y.BasedClass → X.SoundPointer (here w) locator → P.AllowedPointer w.calls locator
    → There (demand w) 0 1 w.left Anything (A.based_freed (around w) d locator area)
unfolding A.based_freed
based_freed_there d locator area w c h p =
    bind_there (pointer_there locator w h p) (λ n k. at_each (λ s. looked_at s _
    (or_error_then_at w s _ (named s n (D.shape_of [] d)) (λ g e. area_if_at w s area
    (λ x. name_freed_at n x w s (D.shape_of [] d) g e (ap D.class_of c))))))

freeing_there : (x : Y.Freeing) (w : Ways) → T.SoundFreeing (here w) x → P.AllowedFreeing w.calls x
    → There (demand w) 0 1 w.left Anything (A.freeing (around w) x)
unfolding A.freeing
freeing_there (Y.FreeBased v locator area) w h p =
    found_there _ h.0.d _ _ h.0.declared.found
    (based_freed_there h.0.d locator area w (h.0.declared.same_class ∙ h.0.class_is) h.1.0 p)
freeing_there (Y.FreeControlled v) w h p = stored_there _ (λ s k. freed_kept (demand w) v s k)

pub freeings_there : (xs : List Y.Freeing) (w : Ways) → Every (T.SoundFreeing (here w)) xs
    → Every (P.AllowedFreeing w.calls) xs → There (demand w) 0 1 w.left Anything (A.freeings (around w) xs)
unfolding A.freeings
freeings_there [] w h p = give_there tt tt
freeings_there (x ∷ xs) w h p = then_there (freeing_there x w h.0 p.0) (freeings_there xs w h.1 p.1)
