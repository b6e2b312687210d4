-- ALLOCATE and FREE that break no rule are sound.
use Rattle.std.proofs.Common.{◌≡◌, ℕ, ◌+◌, ◌≤◌, Bool, true, false, ◌||◌, List, [], ◌∷◌}
use Rattle.std.proofs.Common.{◌++◌, Option, Some, None, if◌then◌else◌, refl, sym, ap, ◌∙◌, subst, arith}
use Rattle.std.specs.Prelude.{slice_get, is_some}
use Rattle.pli_language.specs.declared.expr.Place.{Place}
use Rattle.pli_language.specs.declared.scope.Found.{Found}
use Rattle.pli_language.specs.declared.scope.Found.TheVariants as F
use Rattle.pli_language.specs.declared.scope.DeclarationAt.{DeclarationAt}
use Rattle.pli_language.specs.declared.fault.SourceKind.TheVariants.{Undeclared, TypeMismatch}
use Rattle.pli_language.specs.Tree as T
use Rattle.pli_language.specs.Declarations.{Held, Block, What, Variable', Label, ProcedureName}
use Rattle.pli_language.specs.Declaring.{has, one, classes_in, own_attributes, class_attributes, stands_alone}
use Rattle.pli_language.specs.Declaring.{first_or, names_of, is_parameter, is_builtin}
use Rattle.pli_typing.specs.TypedTree as Y
use Rattle.pli_typing.specs.Judging.{Scope, fine, broken}
use Rattle.pli_typing.specs.Variables.{variable_meant, head_of_block, locator_name, name_means}
use Rattle.pli_typing.specs.Converting.{Designated, Referent, Designates, Gives, GivesUnknown, GivesEmptyArea}
use Rattle.pli_typing.specs.Converting.{GivesNothing, NotKnown, scalar_type, value_with_type}
use Rattle.pli_typing.specs.References.{referred, locates}
use Rattle.pli_typing.specs.Generations.{judged_if, in_area, set_target, locator_target, target_or_mismatch}
use Rattle.pli_typing.specs.Generations.{target_with}
use Rattle.pli_typing.specs.Generations.{declared_target, based_target, target_given, area_given}
use Rattle.pli_typing.specs.Generations.{Allocating, allocated_class}
use Rattle.pli_typing.specs.Generations.{allocated_what, allocated_found, allocation, pointer_to, freed_class}
use Rattle.pli_typing.specs.Generations.{freed_whole}
use Rattle.pli_typing.specs.Generations.{freed_reference, freed_referent, freeing, bad_allocation, target_or}
use Rattle.pli_typing.specs.Generations.{no_allocation, no_freeing}
use Rattle.well_formed_trees.specs.Surroundings.{Where, IsArea, IsAreaIf, IsOfClass, IsDeclared}
use Rattle.well_formed_trees.specs.References as R
use Rattle.well_formed_trees.specs.References.{IsLocated}
use Rattle.well_formed_trees.specs.Expressions.{SoundPointer, SoundReference, SoundLocator}
use Rattle.well_formed_trees.specs.Statements.{SoundTarget, SoundAllocation, SoundFreeing}
use Rattle.well_formed_trees.specs.Spelled.{RangedReference, RangedAllocation, RangedFreeing}
use Rattle.well_formed_trees.proofs.Lists.{first_empty, second_empty, HoldsIf}
use Rattle.well_formed_trees.proofs.Places.{same_some}
use Rattle.well_formed_trees.proofs.FineVariables.{no_clash, none_above}
use Rattle.well_formed_trees.proofs.Facts.{Facts, InScope}
use Rattle.well_formed_trees.proofs.MeantVariables.{DeclaresVariable, is_meant, is_declared, typed_variable}
use Rattle.well_formed_trees.proofs.MeantVariables.{fine_declared}
use Rattle.well_formed_trees.proofs.LocatorsFit.{BasedLocator, based_names, few, few_classes}
use Rattle.well_formed_trees.proofs.ExpressionsFit.{FoundHere, found_here}
use Rattle.well_formed_trees.proofs.FitValues.{IsPart, IsFit, scalar_is, area_operand_sound}
use Rattle.well_formed_trees.proofs.StatementsFit.{referred_fit, judged_holds, areas_if}

-- ---- IN and SET

in_area_fit : (scope : Scope) (w : Where) → InScope scope w → (e : T.Reference) → RangedReference e
    → (in_area scope e).faults ≡ [] → IsArea w (in_area scope e).value
in_area_fit scope w i e r f =
    let o = referred scope e in
    area_operand_sound w o.value (referred_fit scope w i e r (first_empty o.faults _ f)) (second_empty o.faults _ f)

target_by : (w : Where) (p : Designated) (h : IsPart w p) (t : Option Y.LeafType) → scalar_type p ≡ t
    → (x : Y.LocatorTarget) → target_with p.reference t ≡ Some x → SoundTarget w x
target_by w p h None e x f = absurd (cc f)
target_by w p h (Some Y.PointerLeaf) e x f =
    subst (SoundTarget w) (same_some (Y.SetPointer p.reference) x f)
    ((scalar_is w p Y.PointerLeaf h e).scalar, h.sound)
target_by w p h (Some (Y.OffsetLeaf None)) e x f = absurd (cc f)
target_by w p h (Some (Y.OffsetLeaf (Some area))) e x f =
    let s = scalar_is w p (Y.OffsetLeaf (Some area)) h e in
    subst (SoundTarget w) (same_some (Y.SetOffset p.reference area) x f) (s.scalar, (s.sound_type, h.sound))
target_by w p h (Some (Y.FixedLeaf n)) e x f = absurd (cc f)
target_by w p h (Some (Y.CharacterLeaf n)) e x f = absurd (cc f)
target_by w p h (Some (Y.VaryingLeaf n)) e x f = absurd (cc f)
target_by w p h (Some Y.BitLeaf) e x f = absurd (cc f)
target_by w p h (Some (Y.AreaLeaf n)) e x f = absurd (cc f)

locator_target_fit : (w : Where) (place : Place) (r : Referent) → IsFit w r → (locator_target place r).faults ≡ []
    → SoundTarget w (locator_target place r).value
locator_target_fit w place (Designates p) h f =
    by (target_with p.reference (scalar_type p)) (target_by w p h (scalar_type p) refl) f where
      by : (o : Option Y.LocatorTarget) → ((x : Y.LocatorTarget) → o ≡ Some x → SoundTarget w x)
          → (target_or_mismatch place o).faults ≡ [] → SoundTarget w (target_or_mismatch place o).value
      by None k f = absurd (cc f)
      by (Some x) k f = k x refl
locator_target_fit w place (Gives v) h f = absurd (cc f)
locator_target_fit w place GivesUnknown h f = absurd h
locator_target_fit w place GivesEmptyArea h f = absurd (cc f)
locator_target_fit w place GivesNothing h f = absurd (cc f)
locator_target_fit w place NotKnown h f = absurd h

set_target_fit : (scope : Scope) (w : Where) → InScope scope w → (e : T.Reference) → RangedReference e
    → (set_target scope e).faults ≡ [] → SoundTarget w (set_target scope e).value
set_target_fit scope w i e r f =
    let o = referred scope e in
    locator_target_fit w o.value.place o.value.referent (referred_fit scope w i e r (first_empty o.faults _ f))
    (second_empty o.faults _ f)

-- a locator that a declaration names can be set
locating_target : (w : Where) (p : Designated) (h : IsPart w p) (t : Option Y.LeafType) → scalar_type p ≡ t
    → locates (value_with_type p.reference t) ≡ true → SoundTarget w (target_or (target_with p.reference t))
locating_target w p h None e l = absurd (cc l)
locating_target w p h (Some Y.PointerLeaf) e l = target_by w p h (Some Y.PointerLeaf) e (Y.SetPointer p.reference) refl
locating_target w p h (Some (Y.OffsetLeaf None)) e l = absurd (cc l)
locating_target w p h (Some (Y.OffsetLeaf (Some area))) e l =
    target_by w p h (Some (Y.OffsetLeaf (Some area))) e (Y.SetOffset p.reference area) refl
locating_target w p h (Some (Y.FixedLeaf n)) e l = absurd (cc l)
locating_target w p h (Some (Y.CharacterLeaf n)) e l = absurd (cc l)
locating_target w p h (Some (Y.VaryingLeaf n)) e l = absurd (cc l)
locating_target w p h (Some Y.BitLeaf) e l = absurd (cc l)
locating_target w p h (Some (Y.AreaLeaf n)) e l = absurd (cc l)

based_target_fit : (blocks : List Block) (w : Where) (b : ℕ) (place : Place) (o : Option T.Name)
    → ((name : T.Name) → o ≡ Some name → BasedLocator blocks w b name) → (based_target blocks b place o).faults ≡ []
    → SoundTarget w (based_target blocks b place o).value
based_target_fit blocks w b place None k f = absurd (cc f)
based_target_fit blocks w b place (Some name) k f =
    let l = k name refl in
    subst (λ o. SoundTarget w (declared_target o)) (sym l.found)
    (locating_target w l.part l.is_part (scalar_type l.part) refl l.locates_it)

target_given_fit : (blocks : List Block) (w : Where) → Facts blocks w.program w.table → (at : DeclarationAt)
    → (k : FoundHere blocks w at) → (h : Held) → DeclaresVariable blocks at.block h → (place : Place)
    (t : Option Y.LocatorTarget) → HoldsIf (SoundTarget w) t → (target_given blocks at.block h place t).faults ≡ []
    → SoundTarget w (target_given blocks at.block h place t).value
target_given_fit blocks w facts at k h d place (Some t) s f = s
target_given_fit blocks w facts at k h d place None s f =
    based_target_fit blocks w at.block place (locator_name (class_attributes h))
    (based_names blocks w facts at.block h d (is_meant blocks w.program w.table facts at.block h d) k.see) f

area_given_fit : (w : Where) (area : Option Y.Variable) (t : Y.LocatorTarget) → IsAreaIf w area → SoundTarget w t
    → IsAreaIf w (area_given area t)
area_given_fit w (Some area) t a s = a
area_given_fit w None (Y.SetPointer r) a s = tt
area_given_fit w None (Y.SetOffset r area) a s = s.1.0

-- ---- what is allocated

-- BASED and CONTROLLED are written
based_written : (p s c b : Bool) → (if p then Y.ParameterClass
    else (if s then Y.StaticClass else (if c then Y.ControlledClass
    else (if b then Y.BasedClass else Y.AutomaticClass)))) ≡ Y.BasedClass → b ≡ true
based_written true s c b e = absurd (cc e)
based_written false true c b e = absurd (cc e)
based_written false false true b e = absurd (cc e)
based_written false false false true e = refl
based_written false false false false e = absurd (cc e)

controlled_written : (p s c b : Bool) → (if p then Y.ParameterClass
    else (if s then Y.StaticClass else (if c then Y.ControlledClass
    else (if b then Y.BasedClass else Y.AutomaticClass)))) ≡ Y.ControlledClass → c ≡ true
controlled_written true s c b e = absurd (cc e)
controlled_written false true c b e = absurd (cc e)
controlled_written false false true b e = refl
controlled_written false false false true e = absurd (cc e)
controlled_written false false false false e = absurd (cc e)

one_class : (a s c b o : Bool) → (((one a + one s) + one c) + one b) + one o ≤ 1 → (c || b) ≡ true → o ≡ false
one_class a s c b false k e = refl
one_class a s true b true k e = absurd (omega (arith, k))
one_class a s false true true k e = absurd (omega (arith, k))
one_class a s false false true k e = absurd (cc e)

either_true : (c b : Bool) → b ≡ true → (c || b) ≡ true
either_true true b e = refl
either_true false b e = e

allocated_variable : (blocks : List Block) (w : Where) → Facts blocks w.program w.table → (at : DeclarationAt)
    → (k : FoundHere blocks w at) → (h : Held) → k.declaration.what ≡ Variable' h → stands_alone h ≡ true
    → (has 10 (class_attributes h) || has 11 (class_attributes h)) ≡ true → DeclaresVariable blocks at.block h
allocated_variable blocks w facts at k h e a c =
    let own = fine_declared blocks w.program w.table facts at.block at.index k.declaration h k.is_in e in
    let all = own_attributes h in
    let root : class_attributes h ≡ all =
    ap (λ vs. (first_or vs h.variable).item.attributes) (none_above h.above a) in
    let classes = few (classes_in all) (few_classes all (no_clash own.0 h own.1)) in
    record {
      index = at.index;
      declaration = k.declaration;
      is_in = k.is_in;
      is = e;
      no_builtin =
          one_class (has 8 all) (has 9 all) (has 10 all) (has 11 all) (has 13 all) classes
          (ap (λ as'. has 10 as' || has 11 as') (sym root) ∙ c);
    }

of_class : (blocks : List Block) (w : Where) → Facts blocks w.program w.table → (at : DeclarationAt)
    → (k : FoundHere blocks w at) → (h : Held) → DeclaresVariable blocks at.block h → (class : Y.StorageClass)
    → (variable_meant blocks at.block h).class ≡ class → IsOfClass w class (variable_meant blocks at.block h)
of_class blocks w facts at k h d class e =
    let m = is_meant blocks w.program w.table facts at.block h d in
    record {
      class_is = e;
      d = typed_variable blocks at.block (m.root ∷ m.members);
      declared = is_declared blocks w facts at.block h d m k.seen;
    }

class_fit : (blocks : List Block) (w : Where) → Facts blocks w.program w.table → (at : DeclarationAt)
    → (k : FoundHere blocks w at) → (h : Held) → k.declaration.what ≡ Variable' h → stands_alone h ≡ true
    → (class : Y.StorageClass) → (variable_meant blocks at.block h).class ≡ class → (a : Allocating)
    → IsAreaIf w a.area → HoldsIf (SoundTarget w) a.target → (allocated_class blocks at.block h class a).faults ≡ []
    → SoundAllocation w (allocated_class blocks at.block h class a).value
class_fit blocks w facts at k h e s Y.BasedClass c a x t f =
    let names = names_of (head_of_block (slice_get blocks at.block)) in
    let written = based_written (is_parameter names h) (has 9 (class_attributes h)) (has 10 (class_attributes h))
    (has 11 (class_attributes h)) c in
    let d = allocated_variable blocks w facts at k h e s
    (either_true (has 10 (class_attributes h)) (has 11 (class_attributes h)) written) in
    let j = target_given blocks at.block h a.name.place a.target in
    let sound = target_given_fit blocks w facts at k h d a.name.place a.target t (first_empty j.faults [] f) in
    (of_class blocks w facts at k h d Y.BasedClass c, (area_given_fit w a.area j.value x sound, sound))
class_fit blocks w facts at k h e s Y.ControlledClass c a x t f = by (is_some a.area || is_some a.target) f where
  written : has 10 (class_attributes h) ≡ true
  written =
      controlled_written (is_parameter (names_of (head_of_block (slice_get blocks at.block))) h)
      (has 9 (class_attributes h)) (has 10 (class_attributes h)) (has 11 (class_attributes h)) c

  by : (b : Bool)
      → (if b then bad_allocation a else fine (Y.AllocateControlled (variable_meant blocks at.block h))).faults ≡ []
      → SoundAllocation w
      (if b then bad_allocation a else fine (Y.AllocateControlled (variable_meant blocks at.block h))).value
  by true f = absurd (cc f)
  by false f =
      of_class blocks w facts at k h
      (allocated_variable blocks w facts at k h e s (ap (λ b. b || has 11 (class_attributes h)) written))
      Y.ControlledClass c
class_fit blocks w facts at k h e s Y.AutomaticClass c a x t f = absurd (cc f)
class_fit blocks w facts at k h e s Y.ParameterClass c a x t f = absurd (cc f)
class_fit blocks w facts at k h e s Y.StaticClass c a x t f = absurd (cc f)

what_allocated : (blocks : List Block) (w : Where) → Facts blocks w.program w.table → (at : DeclarationAt)
    → (k : FoundHere blocks w at) → (what : What) → k.declaration.what ≡ what → (a : Allocating) → IsAreaIf w a.area
    → HoldsIf (SoundTarget w) a.target → (allocated_what blocks at.block (Some what) a).faults ≡ []
    → SoundAllocation w (allocated_what blocks at.block (Some what) a).value
what_allocated blocks w facts at k Label e a x t f = absurd (cc f)
what_allocated blocks w facts at k (ProcedureName head) e a x t f = absurd (cc f)
what_allocated blocks w facts at k (Variable' h) e a x t f = by (stands_alone h) refl f where
  by : (b : Bool) → stands_alone h ≡ b
      → (if b then allocated_class blocks at.block h (variable_meant blocks at.block h).class a
      else bad_allocation a).faults ≡ []
      → SoundAllocation w (if b then allocated_class blocks at.block h (variable_meant blocks at.block h).class a
      else bad_allocation a).value
  by true s f = class_fit blocks w facts at k h e s (variable_meant blocks at.block h).class refl a x t f
  by false s f = absurd (cc f)

pub allocation_fit : (scope : Scope) (w : Where) → InScope scope w → (place : Place) (a : T.Allocation)
    → RangedAllocation a → (allocation scope place a).faults ≡ [] → SoundAllocation w (allocation scope place a).value
allocation_fit scope w i place a r f =
    let x = judged_if (in_area scope) a.area in
    let t = judged_if (set_target scope) a.locator in
    let it : Allocating = record { place = place; name = a.variable; area = x.value; target = t.value } in
    let last = (allocated_found scope.blocks (name_means scope.blocks scope.block a.variable) it).faults in
    let more = second_empty x.faults (t.faults ++ last) f in
    by (name_means scope.blocks scope.block a.variable) refl it
    (areas_if w x.value (judged_holds (IsArea w) RangedReference (in_area scope) (in_area_fit scope w i) a.area r.0
    (first_empty x.faults (t.faults ++ last) f)))
    (judged_holds (SoundTarget w) RangedReference (set_target scope) (set_target_fit scope w i) a.locator r.1
    (first_empty t.faults last more)) (second_empty t.faults last more) where
      by : (x : Found) → name_means scope.blocks scope.block a.variable ≡ x → (it : Allocating) → IsAreaIf w it.area
          → HoldsIf (SoundTarget w) it.target → (allocated_found scope.blocks x it).faults ≡ []
          → SoundAllocation w (allocated_found scope.blocks x it).value
      by (F.One at) e it x t f =
          let h = found_here scope w i [] a.variable.letters at e in
          subst (λ o. SoundAllocation w (allocated_what scope.blocks at.block o it).value) (sym h.there)
          (what_allocated scope.blocks w i.facts at h h.declaration.what refl it x t
          (subst (λ o. (allocated_what scope.blocks at.block o it).faults ≡ []) h.there f))
      by F.None e it x t f = which (is_builtin it.name.word) f where
        which : (b : Bool)
            → (if b then bad_allocation it else broken it.name.place Undeclared no_allocation).faults ≡ []
            → SoundAllocation w
            (if b then bad_allocation it else broken it.name.place Undeclared no_allocation).value
        which true f = absurd (cc f)
        which false f = absurd (cc f)
      by F.Ambiguous e it x t f = absurd (cc f)

-- ---- FREE

freed_pointer : (w : Where) (l : Y.Locator) → SoundLocator w l → SoundPointer w (pointer_to l)
freed_pointer w Y.NotLocated h = tt
freed_pointer w (Y.LocatedBy p) h = h

freed_class_fit : (w : Where) (place : Place) (v : Y.Variable) (d : Y.DeclaredVariable) (class : Y.StorageClass)
    (l : Y.Locator) (area : Option Y.Variable) → IsDeclared w v d → v.class ≡ class → SoundLocator w l → IsAreaIf w area
    → (freed_class place v class l area).faults ≡ [] → SoundFreeing w (freed_class place v class l area).value
freed_class_fit w place v d Y.BasedClass l area k e h a f =
    (record { class_is = e; d = d; declared = k }, (freed_pointer w l h, a))
freed_class_fit w place v d Y.ControlledClass l None k e h a f = record { class_is = e; d = d; declared = k }
freed_class_fit w place v d Y.ControlledClass l (Some x) k e h a f = absurd (cc f)
freed_class_fit w place v d Y.AutomaticClass l area k e h a f = absurd (cc f)
freed_class_fit w place v d Y.ParameterClass l area k e h a f = absurd (cc f)
freed_class_fit w place v d Y.StaticClass l area k e h a f = absurd (cc f)

freed_reference_fit : (w : Where) (place : Place) (r : Y.Reference) (d : Y.DeclaredVariable) (area : Option Y.Variable)
    → IsDeclared w (R.variable_of r) d → SoundReference w r → IsAreaIf w area
    → (freed_reference place r area).faults ≡ [] → SoundFreeing w (freed_reference place r area).value
freed_reference_fit w place (Y.Referring v locator part subscripts) d area k s a f =
    freed_class_fit w place v d v.class locator area k refl s.1.1.0 a f

pub freeing_fit : (scope : Scope) (w : Where) → InScope scope w → (place : Place) (x : T.Freeing) → RangedFreeing x
    → (freeing scope place x).faults ≡ [] → SoundFreeing w (freeing scope place x).value
freeing_fit scope w i place x r f =
    let o = referred scope x.generation in
    let a = judged_if (in_area scope) x.area in
    let last = (freed_referent place o.value.place o.value.referent a.value).faults in
    let more = second_empty o.faults (a.faults ++ last) f in
    by o.value.referent a.value (referred_fit scope w i x.generation r.0 (first_empty o.faults (a.faults ++ last) f))
    (areas_if w a.value (judged_holds (IsArea w) RangedReference (in_area scope) (in_area_fit scope w i) x.area r.1
    (first_empty a.faults last more))) o.value.place (second_empty a.faults last more) where
      by : (q : Referent) (area : Option Y.Variable) → IsFit w q → IsAreaIf w area → (at : Place)
          → (freed_referent place at q area).faults ≡ [] → SoundFreeing w (freed_referent place at q area).value
      by (Designates p) area h a at f = which p.is_whole f where
        which : (b : Bool) → (freed_whole place at b (freed_reference place p.reference area)).faults ≡ []
            → SoundFreeing w (freed_whole place at b (freed_reference place p.reference area)).value
        which true f = freed_reference_fit w place p.reference h.d area h.declared h.sound a f
        which false f =
            absurd (cc (second_empty (freed_reference place p.reference area).faults
            (broken at TypeMismatch no_freeing).faults f))
      by (Gives v) area h a at f = absurd (cc f)
      by GivesUnknown area h a at f = absurd h
      by GivesEmptyArea area h a at f = absurd (cc f)
      by GivesNothing area h a at f = absurd (cc f)
      by NotKnown area h a at f = absurd h
