-- Assignments, and the variables of DO, that break no rule are sound.
use Rattle.std.proofs.Common.{◌≡◌, ◌≢◌, Bool, true, false, not, [], ◌++◌, map}
use Rattle.std.proofs.Common.{length, Option, Some, None, if◌then◌else◌, refl, sym, ap, ◌∙◌, subst, inl, inr}
use Rattle.std.specs.Prelude.{is_some, ◌⊎◌}
use Rattle.std.proofs.lemmas.Bool.{eq-eqb}
use Rattle.pli_language.specs.declared.expr.Place.{Place}
use Rattle.pli_typing.specs.TypedTree as Y
use Rattle.pli_typing.specs.Judging.{fine, broken, demand}
use Rattle.pli_language.specs.declared.fault.SourceKind.TheVariants.{TypeMismatch}
use Rattle.pli_typing.specs.Converting.{Designated, Referent, Designates, Gives, GivesUnknown, GivesEmptyArea}
use Rattle.pli_typing.specs.Converting.{GivesNothing, NotKnown, Operand, scalar_type, element_type, is_area}
use Rattle.pli_typing.specs.Converting.{is_aggregate}
use Rattle.pli_typing.specs.Converting.{variable_of, operand_value, operand_stored, stored_as, area_of_type}
use Rattle.pli_typing.specs.Assigning.{nothing_done, assigned_scalar, assigned_area, assigned_elements}
use Rattle.pli_typing.specs.Assigning.{assigned_each, assigned_matching, assigned_aggregate, assigned_to, leaves_match}
use Rattle.pli_typing.specs.Assigning.{assigned_referent, assignment, computational, computational_operand, Scalar}
use Rattle.pli_typing.specs.Assigning.{scalar_if, scalar_referent, scalar_operand, counter_of, is_read, is_written}
use Rattle.pli_typing.specs.Assigning.{all_pass, get_referent, get_item, put_scalar}
use Rattle.pli_typing.specs.Assigning.{put_aggregate, put_referent, put_item}
use Rattle.well_formed_trees.specs.Members.{leaves_of_part}
use Rattle.well_formed_trees.specs.Surroundings.{Where, IsArea}
use Rattle.well_formed_trees.specs.References as R
use Rattle.well_formed_trees.specs.References.{part_of, subscripts_of, given_in, IsScalar, IsArray, leaf_left}
use Rattle.well_formed_trees.specs.Expressions.{SoundReference, SoundComputational}
use Rattle.well_formed_trees.specs.Statements.{SoundCounter, SoundGetItem, SoundPutItem, PassesTest}
use Rattle.well_formed_trees.specs.SoundStatements.{IsSoundAlone}
use Rattle.well_formed_trees.proofs.Lists.{first_empty, second_empty}
use Rattle.well_formed_trees.proofs.FitValues.{SoundGiven, IsSoundType, IsPart, IsFit, designates, element_is}
use Rattle.well_formed_trees.proofs.FitValues.{scalar_is, stored_type, stored_sound, operand_sound}
use Rattle.well_formed_trees.proofs.FitValues.{operand_stored_sound}

same_variable : (r : Y.Reference) → variable_of r ≡ R.variable_of r
same_variable (Y.Referring v locator part subscripts) = refl

-- ---- assignments

-- an array, where no subscripts stand for its dimensions
array_is : (w : Where) (p : Designated) (h : IsPart w p) (t : Y.LeafType) → scalar_type p ≡ None
    → element_type p ≡ Some t → IsArray w t p.reference
array_is w p h t n e =
    let k = element_is w p t h e in
    let s = h.single k.no_members in
    let z : p.dimensions ≢ 0 = λ z. some_scalar z in
    record {
      designates = designates h;
      leaf = s.leaf;
      one = s.one;
      type_is = k.type_is;
      none = (plain h.subscripted).0;
      some = λ b. some_scalar ((plain h.subscripted).1 ∙ (sym s.many ∙ ap length b));
    } where
      some_scalar : p.dimensions ≡ 0 → ⊥
      some_scalar z =
          absurd (cc (ap (λ b. if b then element_type p else None) (eq-eqb p.dimensions 0 z), n, e))

      plain : ((subscripts_of p.reference ≡ Y.NoNumber) × (p.dimensions ≡ h.dimensions))
          ⊎ ((given_in (subscripts_of p.reference) ≡ h.dimensions) × (p.dimensions ≡ 0))
          → (subscripts_of p.reference ≡ Y.NoNumber) × (p.dimensions ≡ h.dimensions)
      plain (inl a) = a
      plain (inr a) = absurd (some_scalar a.1)

elements_fit : (w : Where) (place : Place) (p : Designated) (h : IsPart w p) (t : Option Y.LeafType) (from : Place)
    (v : Option Y.Value) → scalar_type p ≡ None → element_type p ≡ t → SoundGiven w v
    → (assigned_elements place p.reference t from v).faults ≡ []
    → IsSoundAlone w (assigned_elements place p.reference t from v).value
elements_fit w place p h t from None n e g f = absurd g
elements_fit w place p h None from (Some v) n e g f = absurd (cc f)
elements_fit w place p h (Some t) from (Some v) n e g f =
    let k = element_is w p t h e in
    let s = stored_sound w t from (Some v) (stored_type w t k.sound_type) g
    (first_empty (stored_as t from (Some v)).faults [] f) in
    (record { type = t; array = array_is w p h t n e; fits = s.0 }, (h.sound, s.1))

each_fit : (w : Where) (place : Place) (p : Designated) (h : IsPart w p) (o : Operand) → scalar_type p ≡ None
    → IsFit w o.referent → (assigned_each place p o).faults ≡ [] → IsSoundAlone w (assigned_each place p o).value
each_fit w place p h o n k f =
    let v = operand_value o in
    elements_fit w place p h (element_type p) o.place v.value n refl (operand_sound w o k (first_empty v.faults _ f))
    (second_empty v.faults _ f)

matching_fit : (w : Where) (place : Place) (p q : Designated) → IsPart w p → IsPart w q
    → (assigned_matching place p q).faults ≡ [] → IsSoundAlone w (assigned_matching place p q).value
matching_fit w place p q h k f = by (leaves_match p.leaves q.leaves) refl f where
  by : (b : Bool) → leaves_match p.leaves q.leaves ≡ b
      → (if b then fine (Y.AssignAggregate p.reference q.reference place.line)
      else broken place TypeMismatch (nothing_done place)).faults ≡ []
      → IsSoundAlone w (if b then fine (Y.AssignAggregate p.reference q.reference place.line)
      else broken place TypeMismatch (nothing_done place)).value
  by true e f = (
    record {
      target_is = designates h;
      source_is = designates k;
      alike =
          ap (λ ls. leaves_match ls (map (leaf_left (given_in (subscripts_of q.reference)))
          (leaves_of_part k.d (part_of q.reference)))) (sym h.leaves)
          ∙ (ap (leaves_match p.leaves) (sym k.leaves) ∙ e);
    },
    (h.sound, k.sound),
  )
  by false e f = absurd (cc f)

aggregate_fit : (w : Where) (place : Place) (p : Designated) (h : IsPart w p) (o : Operand) (r : Referent)
    → scalar_type p ≡ None → IsFit w o.referent → IsFit w r → (assigned_aggregate place p o r).faults ≡ []
    → IsSoundAlone w (assigned_aggregate place p o r).value
aggregate_fit w place p h o (Designates q) n k l f = by (is_aggregate q) f where
  by : (b : Bool) → (if b then assigned_matching place p q else assigned_each place p o).faults ≡ []
      → IsSoundAlone w (if b then assigned_matching place p q else assigned_each place p o).value
  by true f = matching_fit w place p q h l f
  by false f = each_fit w place p h o n k f
aggregate_fit w place p h o (Gives v) n k l f = each_fit w place p h o n k f
aggregate_fit w place p h o GivesUnknown n k l f = each_fit w place p h o n k f
aggregate_fit w place p h o GivesEmptyArea n k l f = each_fit w place p h o n k f
aggregate_fit w place p h o GivesNothing n k l f = each_fit w place p h o n k f
aggregate_fit w place p h o NotKnown n k l f = each_fit w place p h o n k f

area_fit : (w : Where) (place : Place) (v : Y.Variable) (from : Place) (r : Referent) → IsArea w v → IsFit w r
    → (assigned_area place v from r).faults ≡ [] → IsSoundAlone w (assigned_area place v from r).value
area_fit w place v from (Designates q) a k f = by (is_area q) refl f where
  by : (b : Bool) → is_area q ≡ b
      → (if b then fine (Y.AssignArea v (variable_of q.reference) place.line)
      else broken from TypeMismatch (nothing_done place)).faults ≡ []
      → IsSoundAlone w (if b then fine (Y.AssignArea v (variable_of q.reference) place.line)
      else broken from TypeMismatch (nothing_done place)).value
  by true e f = (a, subst (IsArea w) (sym (same_variable q.reference)) (k.area e))
  by false e f = absurd (cc f)
area_fit w place v from (Gives x) a k f = absurd (cc f)
area_fit w place v from GivesUnknown a k f = absurd k
area_fit w place v from GivesEmptyArea a k f = a
area_fit w place v from GivesNothing a k f = absurd (cc f)
area_fit w place v from NotKnown a k f = absurd k

assigned_fit : (w : Where) (place : Place) (p : Designated) (h : IsPart w p) (t : Y.LeafType) (o : Operand)
    → scalar_type p ≡ Some t → IsFit w o.referent → (assigned_scalar place p.reference t o).faults ≡ []
    → IsSoundAlone w (assigned_scalar place p.reference t o).value
assigned_fit w place p h t o e k f =
    let s = scalar_is w p t h e in
    let x = operand_stored_sound w t o (stored_type w t s.sound_type) k (first_empty (operand_stored t o).faults [] f)
    in
    (record { type = t; scalar = s.scalar; fits = x.0 }, (h.sound, x.1))

to_fit : (w : Where) (place : Place) (p : Designated) (h : IsPart w p) (t : Option Y.LeafType) (o : Operand)
    → scalar_type p ≡ t → IsFit w o.referent → (assigned_to place p t o).faults ≡ []
    → IsSoundAlone w (assigned_to place p t o).value
to_fit w place p h None o e k f = aggregate_fit w place p h o o.referent e k k f
to_fit w place p h (Some (Y.AreaLeaf n)) o e k f =
    area_fit w place (variable_of p.reference) o.place o.referent
    (subst (IsArea w) (sym (same_variable p.reference)) (h.area (ap area_of_type e))) k f
to_fit w place p h (Some (Y.FixedLeaf n)) o e k f = assigned_fit w place p h (Y.FixedLeaf n) o e k f
to_fit w place p h (Some (Y.CharacterLeaf n)) o e k f = assigned_fit w place p h (Y.CharacterLeaf n) o e k f
to_fit w place p h (Some (Y.VaryingLeaf n)) o e k f = assigned_fit w place p h (Y.VaryingLeaf n) o e k f
to_fit w place p h (Some Y.BitLeaf) o e k f = assigned_fit w place p h Y.BitLeaf o e k f
to_fit w place p h (Some Y.PointerLeaf) o e k f = assigned_fit w place p h Y.PointerLeaf o e k f
to_fit w place p h (Some (Y.OffsetLeaf a)) o e k f = assigned_fit w place p h (Y.OffsetLeaf a) o e k f

pub assignment_fit : (w : Where) (place : Place) (t o : Operand) → IsFit w t.referent → IsFit w o.referent
    → (assignment place t o).faults ≡ [] → IsSoundAlone w (assignment place t o).value
assignment_fit w place t o h k f = by t.referent h f where
  by : (r : Referent) → IsFit w r → (assigned_referent place t.place r o).faults ≡ []
      → IsSoundAlone w (assigned_referent place t.place r o).value
  by (Designates p) h f = to_fit w place p h (scalar_type p) o refl k f
  by (Gives v) h f = absurd (cc f)
  by GivesUnknown h f = absurd h
  by GivesEmptyArea h f = absurd (cc f)
  by GivesNothing h f = absurd (cc f)
  by NotKnown h f = absurd h

-- ---- the variable of DO

-- a scalar that can be assigned to
pub record IsScalarVariable (w : Where) (v : Scalar) : Type 0 where
  pub scalar : IsScalar w v.type v.reference
  pub sound_type : IsSoundType w v.type
  pub sound : SoundReference w v.reference

abbrev pub IsScalarIf : Where → Option Scalar → Type 0
IsScalarIf w None = ⊥
IsScalarIf w (Some v) = IsScalarVariable w v

variable_by : (w : Where) (p : Designated) (h : IsPart w p) (t : Y.LeafType) → scalar_type p ≡ Some t
    → IsScalarVariable w (record { reference = p.reference; type = t })
variable_by w p h t e =
    let s = scalar_is w p t h e in
    record { scalar = s.scalar; sound_type = s.sound_type; sound = h.sound }

scalar_if_fit : (w : Where) (place : Place) (p : Designated) (h : IsPart w p) (t : Option Y.LeafType)
    → scalar_type p ≡ t → (scalar_if place p.reference t).faults ≡ []
    → IsScalarIf w (scalar_if place p.reference t).value
scalar_if_fit w place p h None e f = absurd (cc f)
scalar_if_fit w place p h (Some (Y.AreaLeaf n)) e f = absurd (cc f)
scalar_if_fit w place p h (Some (Y.FixedLeaf n)) e f = variable_by w p h (Y.FixedLeaf n) e
scalar_if_fit w place p h (Some (Y.CharacterLeaf n)) e f = variable_by w p h (Y.CharacterLeaf n) e
scalar_if_fit w place p h (Some (Y.VaryingLeaf n)) e f = variable_by w p h (Y.VaryingLeaf n) e
scalar_if_fit w place p h (Some Y.BitLeaf) e f = variable_by w p h Y.BitLeaf e
scalar_if_fit w place p h (Some Y.PointerLeaf) e f = variable_by w p h Y.PointerLeaf e
scalar_if_fit w place p h (Some (Y.OffsetLeaf a)) e f = variable_by w p h (Y.OffsetLeaf a) e

pub scalar_operand_fit : (w : Where) (o : Operand) → IsFit w o.referent → (scalar_operand o).faults ≡ []
    → IsScalarIf w (scalar_operand o).value
scalar_operand_fit w o h f = by o.referent h f where
  by : (r : Referent) → IsFit w r → (scalar_referent o.place r).faults ≡ []
      → IsScalarIf w (scalar_referent o.place r).value
  by (Designates p) h f = scalar_if_fit w o.place p h (scalar_type p) refl f
  by (Gives v) h f = absurd (cc f)
  by GivesUnknown h f = absurd h
  by GivesEmptyArea h f = absurd (cc f)
  by GivesNothing h f = absurd (cc f)
  by NotKnown h f = absurd h

pub counter_fit : (w : Where) (place : Place) (r : Y.Reference) (t : Y.LeafType) → IsScalar w t r → SoundReference w r
    → (counter_of place r t).faults ≡ [] → SoundCounter w (counter_of place r t).value
counter_fit w place r (Y.FixedLeaf p) s h f = (s, h)
counter_fit w place r (Y.CharacterLeaf n) s h f = (record { size = n; scalar = inl s }, h)
counter_fit w place r (Y.VaryingLeaf n) s h f = (record { size = n; scalar = inr s }, h)
counter_fit w place r Y.BitLeaf s h f = absurd (cc f)
counter_fit w place r Y.PointerLeaf s h f = absurd (cc f)
counter_fit w place r (Y.OffsetLeaf a) s h f = absurd (cc f)
counter_fit w place r (Y.AreaLeaf n) s h f = absurd (cc f)

computational_fit : (w : Where) (place : Place) (v : Option Y.Value) → SoundGiven w v
    → (computational place v).faults ≡ [] → SoundComputational w (computational place v).value
computational_fit w place None h f = absurd h
computational_fit w place (Some (Y.NumberValue p n)) h f = h
computational_fit w place (Some (Y.TextValue t)) h f = h
computational_fit w place (Some (Y.BitValue b)) h f = h
computational_fit w place (Some (Y.PointerValue p)) h f = absurd (cc f)
computational_fit w place (Some (Y.OffsetValue a o)) h f = absurd (cc f)
computational_fit w place (Some Y.NullValue) h f = absurd (cc f)

pub computational_operand_fit : (w : Where) (o : Operand) → IsFit w o.referent → (computational_operand o).faults ≡ []
    → SoundComputational w (computational_operand o).value
computational_operand_fit w o h f =
    let v = operand_value o in
    computational_fit w o.place v.value (operand_sound w o h (first_empty v.faults _ f)) (second_empty v.faults _ f)

-- ---- GET and PUT

passed : (b : Bool) (place : Place) → (demand b place TypeMismatch).faults ≡ [] → b ≡ true
passed true place e = refl
passed false place e = absurd (cc e)

passes : (w : Where) (test : Y.LeafType → Bool) (p : Designated) (h : IsPart w p) → all_pass test p.leaves ≡ true
    → PassesTest w test p.reference
passes w test p h e = (designates h, ap (all_pass test) (sym h.leaves) ∙ e)

pub get_fit : (w : Where) (has_fixed : Bool) (o : Operand) → IsFit w o.referent → (get_item has_fixed o).faults ≡ []
    → SoundGetItem w has_fixed (get_item has_fixed o).value
get_fit w has_fixed o h f = by o.referent h f where
  item : (p : Designated) (h : IsPart w p) → all_pass (is_read has_fixed) p.leaves ≡ true → (t : Option Y.LeafType)
      → scalar_type p ≡ t
      → SoundGetItem w has_fixed (if not (is_some t) then Y.GetAggregate p.reference else Y.GetScalar p.reference)
  item p h e None n = (passes w (is_read has_fixed) p h e, h.sound)
  item p h e (Some t) n = ((t, (scalar_is w p t h n).scalar), (passes w (is_read has_fixed) p h e, h.sound))

  by : (r : Referent) → IsFit w r → (get_referent has_fixed o.place r).faults ≡ []
      → SoundGetItem w has_fixed (get_referent has_fixed o.place r).value
  by (Designates p) h f =
      item p h (passed (all_pass (is_read has_fixed) p.leaves) o.place
      (first_empty (demand (all_pass (is_read has_fixed) p.leaves) o.place TypeMismatch).faults [] f)) (scalar_type p)
      refl
  by (Gives v) h f = absurd (cc f)
  by GivesUnknown h f = absurd h
  by GivesEmptyArea h f = absurd (cc f)
  by GivesNothing h f = absurd (cc f)
  by NotKnown h f = absurd h

put_scalar_fit : (w : Where) (o : Operand) → IsFit w o.referent → (put_scalar o).faults ≡ []
    → SoundPutItem w (put_scalar o).value
put_scalar_fit w o h f =
    let v = operand_value o in
    let c = (computational o.place v.value).faults in
    computational_fit w o.place v.value (operand_sound w o h (first_empty v.faults (c ++ []) f))
    (first_empty c [] (second_empty v.faults (c ++ []) f))

pub put_fit : (w : Where) (o : Operand) → IsFit w o.referent → (put_item o).faults ≡ []
    → SoundPutItem w (put_item o).value
put_fit w o h f = by o.referent h f where
  by : (r : Referent) → IsFit w r → (put_referent o r).faults ≡ [] → SoundPutItem w (put_referent o r).value
  by (Designates p) k f = which (is_aggregate p) f where
    which : (b : Bool) → (if b then put_aggregate o.place p else put_scalar o).faults ≡ []
        → SoundPutItem w (if b then put_aggregate o.place p else put_scalar o).value
    which true f = (
      passes w is_written p k (passed (all_pass is_written p.leaves) o.place
          (first_empty (demand (all_pass is_written p.leaves) o.place TypeMismatch).faults [] f)),
      k.sound,
    )
    which false f = put_scalar_fit w o h f
  by (Gives v) k f = put_scalar_fit w o h f
  by GivesUnknown k f = put_scalar_fit w o h f
  by GivesEmptyArea k f = put_scalar_fit w o h f
  by GivesNothing k f = put_scalar_fit w o h f
  by NotKnown k f = put_scalar_fit w o h f
