-- What operands come to, where they break no rule, and what it is converted to: sound, with its kind.
use Rattle.std.proofs.Common.{◌≡◌, ℕ, ◌==◌, Bool, true, false, List, [], ◌∷◌, map, length, Option}
use Rattle.std.proofs.Common.{Some, None, if◌then◌else◌, refl, sym, ap, ◌∙◌, subst, inl, inr}
use Rattle.std.specs.Prelude.{⊤, ◌⊎◌}
use Rattle.std.proofs.lemmas.Bool.{eqb-true}
use Rattle.pli_language.specs.declared.expr.Place.{Place}
use Rattle.pli_typing.specs.TypedTree as Y
use Rattle.pli_typing.specs.Converting.{Designated, Referent, Designates, Gives, GivesUnknown, GivesEmptyArea}
use Rattle.pli_typing.specs.Converting.{GivesNothing, NotKnown, Operand, value_in, only_type, element_type, scalar_type}
use Rattle.pli_typing.specs.Converting.{is_area, value_or_mismatch, value_with_type, referent_value, operand_value}
use Rattle.pli_typing.specs.Converting.{number_of, text_of, bit_of, pointer_of, offset_of, converted_or, wanted}
use Rattle.pli_typing.specs.Converting.{number_wanted, text_wanted, bit_wanted, only_bit, own_bit_wanted}
use Rattle.pli_typing.specs.Converting.{area_mentioned, pointer_wanted, offset_wanted, number_operand, text_operand}
use Rattle.pli_typing.specs.Converting.{own_bit_operand, pointer_operand, stored_as, operand_stored, area_or_mismatch}
use Rattle.pli_typing.specs.Converting.{area_referent, area_operand, area_of_type, variable_of}
use Rattle.well_formed_trees.specs.Every.{Every}
use Rattle.well_formed_trees.specs.Ranges.{IsPrecision}
use Rattle.well_formed_trees.specs.Members.{IsMember, IsOneLeaf, leaves_of_part, whole}
use Rattle.well_formed_trees.specs.Surroundings.{Where, IsDeclared, IsArea, IsAreaIf, IsAreaReached}
use Rattle.well_formed_trees.specs.References as R
use Rattle.well_formed_trees.specs.References.{part_of, subscripts_of, given_in, IsScalar, IsWhole, leaf_left}
use Rattle.well_formed_trees.specs.Expressions.{Fits, SoundNumber, SoundText, SoundBit, SoundPointer, SoundOffset}
use Rattle.well_formed_trees.specs.Expressions.{SoundReference, SoundStored}
use Rattle.well_formed_trees.proofs.Lists.{first_empty, second_empty}
use Rattle.well_formed_trees.proofs.Places.{same_some}

-- ---- what is sound

-- a kind with its precision and its area
abbrev pub IsSoundType : Where → Y.LeafType → Type 0
IsSoundType w (Y.FixedLeaf p) = IsPrecision p
IsSoundType w (Y.OffsetLeaf area) = IsAreaIf w area
IsSoundType w _ = ⊤

-- the same where an OFFSET is only stored
abbrev pub IsReachedIf : Where → Option Y.Variable → Type 0
IsReachedIf w None = ⊤
IsReachedIf w (Some area) = IsAreaReached w area

abbrev pub IsStoredType : Where → Y.LeafType → Type 0
IsStoredType w (Y.FixedLeaf p) = IsPrecision p
IsStoredType w (Y.OffsetLeaf area) = IsReachedIf w area
IsStoredType w _ = ⊤

reached_if : (w : Where) (area : Option Y.Variable) → IsAreaIf w area → IsReachedIf w area
reached_if w None h = tt
reached_if w (Some area) h = inl h

pub stored_type : (w : Where) (t : Y.LeafType) → IsSoundType w t → IsStoredType w t
stored_type w (Y.FixedLeaf p) h = h
stored_type w (Y.CharacterLeaf n) h = tt
stored_type w (Y.VaryingLeaf n) h = tt
stored_type w Y.BitLeaf h = tt
stored_type w Y.PointerLeaf h = tt
stored_type w (Y.OffsetLeaf area) h = reached_if w area h
stored_type w (Y.AreaLeaf n) h = tt

abbrev pub SoundValue : Where → Y.Value → Type 0
SoundValue w (Y.NumberValue p n) = IsPrecision p × SoundNumber w n
SoundValue w (Y.TextValue t) = SoundText w t
SoundValue w (Y.BitValue b) = SoundBit w b
SoundValue w (Y.PointerValue p) = SoundPointer w p
SoundValue w (Y.OffsetValue area o) = IsAreaIf w area × SoundOffset w o
SoundValue w Y.NullValue = ⊤

-- one leaf alone
pub record IsSingle (d : Y.DeclaredVariable) (part : Y.Part) (dimensions : ℕ) : Type 0 where
  pub leaf : Y.Leaf
  pub one : IsOneLeaf d part leaf
  pub only : leaves_of_part d part ≡ leaf ∷ []
  pub many : length leaf.bounds ≡ dimensions

-- what is designated: a part of a declared variable, or an element of one
pub record IsPart (w : Where) (p : Designated) : Type 0 where
  pub d : Y.DeclaredVariable
  pub dimensions : ℕ
  pub declared : IsDeclared w (R.variable_of p.reference) d
  pub member : IsMember d (part_of p.reference) dimensions
  pub subscripted :
      ((subscripts_of p.reference ≡ Y.NoNumber) × (p.dimensions ≡ dimensions))
      ⊎ ((given_in (subscripts_of p.reference) ≡ dimensions) × (p.dimensions ≡ 0))
  pub leaves : p.leaves ≡ map (leaf_left (given_in (subscripts_of p.reference))) (leaves_of_part d (part_of
      p.reference))
  pub types : Every (λ l. IsSoundType w l.type) p.leaves
  pub single : p.has_members ≡ false → IsSingle d (part_of p.reference) dimensions
  pub is_all : p.is_whole ≡ true → (part_of p.reference ≡ whole d) × (subscripts_of p.reference ≡ Y.NoNumber)
  pub area : area_of_type (scalar_type p) ≡ true → IsArea w (R.variable_of p.reference)
  pub no_area : p.is_whole ≡ true → is_area p ≡ false → ¬ IsArea w (R.variable_of p.reference)
  pub sound : SoundReference w p.reference

abbrev pub IsFit : Where → Referent → Type 0
IsFit w (Designates p) = IsPart w p
IsFit w (Gives v) = SoundValue w v
IsFit w GivesUnknown = ⊥
IsFit w GivesEmptyArea = ⊤
IsFit w GivesNothing = ⊤
IsFit w NotKnown = ⊥

abbrev pub SoundGiven : Where → Option Y.Value → Type 0
SoundGiven w None = ⊥
SoundGiven w (Some v) = SoundValue w v

-- ---- scalars

pub subscripted_as : {w : Where} {p : Designated} (h : IsPart w p)
    → (subscripts_of p.reference ≡ Y.NoNumber) ⊎ (given_in (subscripts_of p.reference) ≡ h.dimensions)
subscripted_as {w} {p} h = by h.subscripted where
  by : ((subscripts_of p.reference ≡ Y.NoNumber) × (p.dimensions ≡ h.dimensions))
      ⊎ ((given_in (subscripts_of p.reference) ≡ h.dimensions) × (p.dimensions ≡ 0))
      → (subscripts_of p.reference ≡ Y.NoNumber) ⊎ (given_in (subscripts_of p.reference) ≡ h.dimensions)
  by (inl e) = inl e.0
  by (inr e) = inr e.0

abbrev pub designates : {w : Where} {p : Designated} → IsPart w p → R.Designates w p.reference
designates h = record {
  d = h.d;
  declared = h.declared;
  dimensions = h.dimensions;
  member = h.member;
  subscripted = subscripted_as h;
}

-- one leaf, or an array of it
pub record IsElement (w : Where) (p : Designated) (type : Y.LeafType) (h : IsPart w p) : Type 0 where
  pub no_members : p.has_members ≡ false
  pub type_is : (h.single no_members).leaf.type ≡ type
  pub sound_type : IsSoundType w type

pub element_is : (w : Where) (p : Designated) (type : Y.LeafType) (h : IsPart w p) → element_type p ≡ Some type
    → IsElement w p type h
element_is w p type h e = by p.has_members refl e where
  first_type : (ls : List Y.Leaf) → Every (λ l. IsSoundType w l.type) ls → only_type ls ≡ Some type
      → IsSoundType w type
  first_type [] h e = absurd (cc e)
  first_type (l ∷ []) h e = subst (IsSoundType w) (same_some l.type type e) h.0
  first_type (l ∷ m ∷ ls) h e = absurd (cc e)

  by : (b : Bool) → p.has_members ≡ b → (if b then None else only_type p.leaves) ≡ Some type → IsElement w p type h
  by true m e = absurd (cc e)
  by false m e =
      let s = h.single m in
      let n = given_in (subscripts_of p.reference) in
      let all : p.leaves ≡ leaf_left n s.leaf ∷ [] = h.leaves ∙ ap (map (leaf_left n)) s.only in
      record {
        no_members = m;
        type_is = same_some s.leaf.type type (sym (ap only_type all) ∙ e);
        sound_type = first_type p.leaves h.types e;
      }

no_dimensions : (p : Designated) (type : Y.LeafType) → scalar_type p ≡ Some type
    → (p.dimensions ≡ 0) × (element_type p ≡ Some type)
no_dimensions p type e = by (p.dimensions == 0) refl e where
  by : (b : Bool) → (p.dimensions == 0) ≡ b → (if b then element_type p else None) ≡ Some type
      → (p.dimensions ≡ 0) × (element_type p ≡ Some type)
  by true z e = (eqb-true p.dimensions 0 z, e)
  by false z e = absurd (cc e)

pub record IsScalarPart (w : Where) (p : Designated) (type : Y.LeafType) : Type 0 where
  pub scalar : IsScalar w type p.reference
  pub sound_type : IsSoundType w type

pub scalar_is : (w : Where) (p : Designated) (type : Y.LeafType) (h : IsPart w p) → scalar_type p ≡ Some type
    → IsScalarPart w p type
scalar_is w p type h e =
    let z = no_dimensions p type e in
    let k = element_is w p type h z.1 in
    let s = h.single k.no_members in
    record {
      scalar = record {
        designates = designates h;
        leaf = s.leaf;
        one = s.one;
        type_is = k.type_is;
        many = given h.subscripted z.0 ∙ sym s.many;
      };
      sound_type = k.sound_type;
    } where
      given : ((subscripts_of p.reference ≡ Y.NoNumber) × (p.dimensions ≡ h.dimensions))
          ⊎ ((given_in (subscripts_of p.reference) ≡ h.dimensions) × (p.dimensions ≡ 0)) → p.dimensions ≡ 0
          → given_in (subscripts_of p.reference) ≡ h.dimensions
      given (inl a) z = ap given_in a.0 ∙ (sym z ∙ a.1)
      given (inr a) z = a.0

-- ---- the value of an operand

value_sound : (w : Where) (p : Designated) (type : Y.LeafType) → IsPart w p → IsScalarPart w p type
    → (v : Y.Value) → value_in type p.reference ≡ Some v → SoundValue w v
value_sound w p (Y.FixedLeaf n) h s v e =
    subst (SoundValue w) (same_some _ v e) (s.sound_type, (record { precision = n; scalar = s.scalar }, h.sound))
value_sound w p (Y.CharacterLeaf n) h s v e =
    subst (SoundValue w) (same_some _ v e) (record { size = n; scalar = inl s.scalar }, h.sound)
value_sound w p (Y.VaryingLeaf n) h s v e =
    subst (SoundValue w) (same_some _ v e) (record { size = n; scalar = inr s.scalar }, h.sound)
value_sound w p Y.BitLeaf h s v e = subst (SoundValue w) (same_some _ v e) (s.scalar, h.sound)
value_sound w p Y.PointerLeaf h s v e = subst (SoundValue w) (same_some _ v e) (s.scalar, h.sound)
value_sound w p (Y.OffsetLeaf area) h s v e =
    subst (SoundValue w) (same_some _ v e) (s.sound_type, (record { area = area; scalar = s.scalar }, h.sound))
value_sound w p (Y.AreaLeaf n) h s v e = absurd (cc e)

pub part_value : (w : Where) (p : Designated) → IsPart w p → (v : Y.Value)
    → value_with_type p.reference (scalar_type p) ≡ Some v → SoundValue w v
part_value w p h v e = by (scalar_type p) refl e where
  by : (t : Option Y.LeafType) → scalar_type p ≡ t → value_with_type p.reference t ≡ Some v → SoundValue w v
  by None s e = absurd (cc e)
  by (Some type) s e = value_sound w p type h (scalar_is w p type h s) v e

pub referent_sound : (w : Where) (place : Place) (r : Referent) → IsFit w r → (referent_value place r).faults ≡ []
    → SoundGiven w (referent_value place r).value
referent_sound w place (Designates p) h f =
    by (value_with_type p.reference (scalar_type p)) (part_value w p h) f where
      by : (o : Option Y.Value) → ((v : Y.Value) → o ≡ Some v → SoundValue w v)
          → (value_or_mismatch place o).faults ≡ [] → SoundGiven w (value_or_mismatch place o).value
      by None k f = absurd (cc f)
      by (Some v) k f = k v refl
referent_sound w place (Gives v) h f = h
referent_sound w place GivesUnknown h f = absurd h
referent_sound w place GivesEmptyArea h f = absurd (cc f)
referent_sound w place GivesNothing h f = absurd (cc f)
referent_sound w place NotKnown h f = absurd h

-- ---- conversions

pub wanted_sound : {X : Type 0} (w : Where) (P : X → Type 0) (convert : Y.Value → Option X) (stand_in : X)
    (place : Place) (v : Option Y.Value)
    → ((v : Y.Value) → SoundValue w v → (x : X) → convert v ≡ Some x → P x) → SoundGiven w v
    → (wanted convert stand_in place v).faults ≡ [] → P (wanted convert stand_in place v).value
wanted_sound w P convert stand_in place None k h f = absurd h
wanted_sound {X} w P convert stand_in place (Some v) k h f = by (convert v) (k v h) f where
  by : (o : Option X) → ((x : X) → o ≡ Some x → P x) → (converted_or stand_in place o).faults ≡ []
      → P (converted_or stand_in place o).value
  by None k f = absurd (cc f)
  by (Some x) k f = k x refl

number_converted : (w : Where) (v : Y.Value) → SoundValue w v → (n : Y.Number) → number_of v ≡ Some n → SoundNumber w n
number_converted w (Y.NumberValue p n) h x e = subst (SoundNumber w) (same_some n x e) h.1
number_converted w (Y.TextValue t) h x e = subst (SoundNumber w) (same_some (Y.NumberOfText t) x e) h
number_converted w (Y.BitValue b) h x e = subst (SoundNumber w) (same_some (Y.NumberOfBit b) x e) h
number_converted w (Y.PointerValue p) h x e = absurd (cc e)
number_converted w (Y.OffsetValue area o) h x e = absurd (cc e)
number_converted w Y.NullValue h x e = absurd (cc e)

text_converted : (w : Where) (v : Y.Value) → SoundValue w v → (t : Y.Text) → text_of v ≡ Some t → SoundText w t
text_converted w (Y.NumberValue p n) h x e = subst (SoundText w) (same_some (Y.TextOfNumber p n) x e) h
text_converted w (Y.TextValue t) h x e = subst (SoundText w) (same_some t x e) h
text_converted w (Y.BitValue b) h x e = subst (SoundText w) (same_some (Y.TextOfBit b) x e) h
text_converted w (Y.PointerValue p) h x e = absurd (cc e)
text_converted w (Y.OffsetValue area o) h x e = absurd (cc e)
text_converted w Y.NullValue h x e = absurd (cc e)

bit_converted : (w : Where) (v : Y.Value) → SoundValue w v → (b : Y.Bit) → bit_of v ≡ Some b → SoundBit w b
bit_converted w (Y.NumberValue p n) h x e = absurd (cc e)
bit_converted w (Y.TextValue t) h x e = subst (SoundBit w) (same_some (Y.BitOfText t) x e) h
bit_converted w (Y.BitValue b) h x e = subst (SoundBit w) (same_some b x e) h
bit_converted w (Y.PointerValue p) h x e = absurd (cc e)
bit_converted w (Y.OffsetValue area o) h x e = absurd (cc e)
bit_converted w Y.NullValue h x e = absurd (cc e)

own_bit_converted : (w : Where) (v : Y.Value) → SoundValue w v → (b : Y.Bit) → only_bit v ≡ Some b → SoundBit w b
own_bit_converted w (Y.NumberValue p n) h x e = absurd (cc e)
own_bit_converted w (Y.TextValue t) h x e = absurd (cc e)
own_bit_converted w (Y.BitValue b) h x e = subst (SoundBit w) (same_some b x e) h
own_bit_converted w (Y.PointerValue p) h x e = absurd (cc e)
own_bit_converted w (Y.OffsetValue area o) h x e = absurd (cc e)
own_bit_converted w Y.NullValue h x e = absurd (cc e)

pub pointer_converted : (w : Where) (v : Y.Value) → SoundValue w v → (p : Y.Pointer) → pointer_of v ≡ Some p
    → SoundPointer w p
pointer_converted w (Y.NumberValue p n) h x e = absurd (cc e)
pointer_converted w (Y.TextValue t) h x e = absurd (cc e)
pointer_converted w (Y.BitValue b) h x e = absurd (cc e)
pointer_converted w (Y.PointerValue p) h x e = subst (SoundPointer w) (same_some p x e) h
pointer_converted w (Y.OffsetValue None o) h x e = absurd (cc e)
pointer_converted w (Y.OffsetValue (Some area) o) h x e =
    subst (SoundPointer w) (same_some (Y.PointerInto o area) x e) h
pointer_converted w Y.NullValue h x e = subst (SoundPointer w) (same_some Y.NullPointer x e) tt

offset_converted : (w : Where) (area : Option Y.Variable) → IsReachedIf w area → (v : Y.Value) → SoundValue w v
    → (o : Y.Offset) → offset_of area v ≡ Some o → SoundOffset w o
offset_converted w area k (Y.NumberValue p n) h x e = no_number area e where
  no_number : (area : Option Y.Variable) → offset_of area (Y.NumberValue p n) ≡ Some x → SoundOffset w x
  no_number None e = absurd (cc e)
  no_number (Some a) e = absurd (cc e)
offset_converted w area k (Y.TextValue t) h x e = no_text area e where
  no_text : (area : Option Y.Variable) → offset_of area (Y.TextValue t) ≡ Some x → SoundOffset w x
  no_text None e = absurd (cc e)
  no_text (Some a) e = absurd (cc e)
offset_converted w area k (Y.BitValue b) h x e = no_bit area e where
  no_bit : (area : Option Y.Variable) → offset_of area (Y.BitValue b) ≡ Some x → SoundOffset w x
  no_bit None e = absurd (cc e)
  no_bit (Some a) e = absurd (cc e)
offset_converted w None k (Y.PointerValue p) h x e = absurd (cc e)
offset_converted w (Some a) k (Y.PointerValue p) h x e =
    subst (SoundOffset w) (same_some (Y.OffsetInto p a) x e) (k, h)
offset_converted w area k (Y.OffsetValue other o) h x e = subst (SoundOffset w) (same_some o x e) h.1
offset_converted w area k Y.NullValue h x e = subst (SoundOffset w) (same_some Y.NullOffset x e) tt

pub number_sound : (w : Where) (place : Place) (v : Option Y.Value) → SoundGiven w v
    → (number_wanted place v).faults ≡ [] → SoundNumber w (number_wanted place v).value
number_sound w place v h f =
    wanted_sound w (SoundNumber w) number_of (Y.NumberConstant 0) place v (number_converted w) h f

pub text_sound : (w : Where) (place : Place) (v : Option Y.Value) → SoundGiven w v
    → (text_wanted place v).faults ≡ [] → SoundText w (text_wanted place v).value
text_sound w place v h f = wanted_sound w (SoundText w) text_of (Y.TextConstant []) place v (text_converted w) h f

pub bit_sound : (w : Where) (place : Place) (v : Option Y.Value) → SoundGiven w v → (bit_wanted place v).faults ≡ []
    → SoundBit w (bit_wanted place v).value
bit_sound w place v h f = wanted_sound w (SoundBit w) bit_of (Y.BitConstant false) place v (bit_converted w) h f

pub own_bit_sound : (w : Where) (place : Place) (v : Option Y.Value) → SoundGiven w v
    → (own_bit_wanted place v).faults ≡ [] → SoundBit w (own_bit_wanted place v).value
own_bit_sound w place v h f =
    wanted_sound w (SoundBit w) only_bit (Y.BitConstant false) place v (own_bit_converted w) h f

pub pointer_sound : (w : Where) (place : Place) (v : Option Y.Value) → SoundGiven w v
    → (pointer_wanted place v).faults ≡ [] → SoundPointer w (pointer_wanted place v).value
pointer_sound w place v h f =
    wanted_sound w (SoundPointer w) pointer_of Y.NullPointer place v (pointer_converted w) h
    (second_empty (area_mentioned v).faults _ f)

pub offset_sound : (w : Where) (area : Option Y.Variable) (place : Place) (v : Option Y.Value) → IsReachedIf w area
    → SoundGiven w v → (offset_wanted area place v).faults ≡ [] → SoundOffset w (offset_wanted area place v).value
offset_sound w area place v k h f =
    wanted_sound w (SoundOffset w) (offset_of area) Y.NullOffset place v (offset_converted w area k) h f

-- ---- operands

pub operand_sound : (w : Where) (o : Operand) → IsFit w o.referent → (operand_value o).faults ≡ []
    → SoundGiven w (operand_value o).value
operand_sound w o h f = referent_sound w o.place o.referent h f

pub number_operand_sound : (w : Where) (o : Operand) → IsFit w o.referent → (number_operand o).faults ≡ []
    → SoundNumber w (number_operand o).value
number_operand_sound w o h f =
    let a = (operand_value o).faults in
    number_sound w o.place (operand_value o).value (operand_sound w o h (first_empty a _ f)) (second_empty a _ f)

pub text_operand_sound : (w : Where) (o : Operand) → IsFit w o.referent → (text_operand o).faults ≡ []
    → SoundText w (text_operand o).value
text_operand_sound w o h f =
    let a = (operand_value o).faults in
    text_sound w o.place (operand_value o).value (operand_sound w o h (first_empty a _ f)) (second_empty a _ f)

pub own_bit_operand_sound : (w : Where) (o : Operand) → IsFit w o.referent → (own_bit_operand o).faults ≡ []
    → SoundBit w (own_bit_operand o).value
own_bit_operand_sound w o h f =
    let a = (operand_value o).faults in
    own_bit_sound w o.place (operand_value o).value (operand_sound w o h (first_empty a _ f)) (second_empty a _ f)

pub pointer_operand_sound : (w : Where) (o : Operand) → IsFit w o.referent → (pointer_operand o).faults ≡ []
    → SoundPointer w (pointer_operand o).value
pointer_operand_sound w o h f =
    let a = (operand_value o).faults in
    pointer_sound w o.place (operand_value o).value (operand_sound w o h (first_empty a _ f)) (second_empty a _ f)

same_variable : (r : Y.Reference) → variable_of r ≡ R.variable_of r
same_variable (Y.Referring v locator part subscripts) = refl

pub area_sound : (w : Where) (place : Place) (r : Referent) → IsFit w r → (area_referent place r).faults ≡ []
    → IsArea w (area_referent place r).value
area_sound w place (Designates p) h f = by (is_area p) refl f where
  by : (b : Bool) → is_area p ≡ b → (area_or_mismatch b place p.reference).faults ≡ []
      → IsArea w (area_or_mismatch b place p.reference).value
  by true e f = subst (IsArea w) (sym (same_variable p.reference)) (h.area e)
  by false e f = absurd (cc f)
area_sound w place (Gives v) h f = absurd (cc f)
area_sound w place GivesUnknown h f = absurd h
area_sound w place GivesEmptyArea h f = absurd (cc f)
area_sound w place GivesNothing h f = absurd (cc f)
area_sound w place NotKnown h f = absurd h

pub area_operand_sound : (w : Where) (o : Operand) → IsFit w o.referent → (area_operand o).faults ≡ []
    → IsArea w (area_operand o).value
area_operand_sound w o h f = area_sound w o.place o.referent h f

-- ---- values for storage

pub stored_sound : (w : Where) (t : Y.LeafType) (place : Place) (v : Option Y.Value) → IsStoredType w t → SoundGiven w v
    → (stored_as t place v).faults ≡ [] → Fits t (stored_as t place v).value × SoundStored w (stored_as t place v).value
stored_sound w (Y.FixedLeaf p) place v k h f =
    (refl, (k, number_sound w place v h (first_empty (number_wanted place v).faults [] f)))
stored_sound w (Y.CharacterLeaf n) place v k h f =
    (tt, text_sound w place v h (first_empty (text_wanted place v).faults [] f))
stored_sound w (Y.VaryingLeaf n) place v k h f =
    (tt, text_sound w place v h (first_empty (text_wanted place v).faults [] f))
stored_sound w Y.BitLeaf place v k h f = (tt, bit_sound w place v h (first_empty (bit_wanted place v).faults [] f))
stored_sound w Y.PointerLeaf place v k h f =
    (tt, pointer_sound w place v h (first_empty (pointer_wanted place v).faults [] f))
stored_sound w (Y.OffsetLeaf area) place v k h f =
    (tt, offset_sound w area place v k h (first_empty (offset_wanted area place v).faults [] f))
stored_sound w (Y.AreaLeaf n) place None k h f = absurd h
stored_sound w (Y.AreaLeaf n) place (Some v) k h f = absurd (cc f)

pub operand_stored_sound : (w : Where) (t : Y.LeafType) (o : Operand) → IsStoredType w t → IsFit w o.referent
    → (operand_stored t o).faults ≡ []
    → Fits t (operand_stored t o).value × SoundStored w (operand_stored t o).value
operand_stored_sound w t o k h f =
    let a = (operand_value o).faults in
    stored_sound w t o.place (operand_value o).value k (operand_sound w o h (first_empty a _ f)) (second_empty a _ f)
