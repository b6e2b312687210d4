-- What is made of operands that are early is early: no function is called in it, and the variables in it are made.
use Rattle.std.proofs.Common.{ℕ, ◌≤◌, Bool, true, false, List, [], ◌++◌, Option, Some, None}
use Rattle.std.proofs.Common.{arith}
use Rattle.std.specs.Prelude.{⊤}
use Rattle.pli_language.specs.declared.expr.Place.{Place}
use Rattle.pli_language.specs.declared.expr.PrefixOp.{PrefixOp}
use Rattle.pli_language.specs.declared.expr.PrefixOp.TheVariants as P
use Rattle.pli_language.specs.declared.expr.InfixOp.{InfixOp}
use Rattle.pli_language.specs.declared.expr.InfixOp.TheVariants as I
use Rattle.pli_typing.specs.TypedTree as Y
use Rattle.pli_typing.specs.Judging.{Mention, MentionsFunction, MentionsVariable}
use Rattle.pli_typing.specs.Converting.{Referent, Designates, Gives, GivesUnknown, GivesEmptyArea, GivesNothing}
use Rattle.pli_typing.specs.Converting.{NotKnown, Operand, value_in, scalar_type, is_area, variable_of}
use Rattle.pli_typing.specs.Converting.{value_or_mismatch, value_with_type, referent_value, operand_value}
use Rattle.pli_typing.specs.Converting.{number_of, text_of, only_bit, pointer_of, offset_of, converted_or, wanted}
use Rattle.pli_typing.specs.Converting.{number_wanted, text_wanted, own_bit_wanted, area_mentioned, pointer_wanted}
use Rattle.pli_typing.specs.Converting.{offset_wanted, number_operand, text_operand, own_bit_operand, pointer_operand}
use Rattle.pli_typing.specs.Converting.{no_variable, area_or_mismatch, area_referent, area_operand}
use Rattle.pli_typing.specs.Operators.{prefixed, infixed, ComparedAs, AsNumbers, AsTexts, AsBits, AsPointers}
use Rattle.pli_typing.specs.Operators.{AsOffsets, Compared, is_locator, pointers_compared, offsets_compared}
use Rattle.pli_typing.specs.Operators.{values_compared, kinds_compared, half_compared, compared, equality, comparison}
use Rattle.well_formed_trees.specs.Every.{Every}
use Rattle.well_formed_trees.specs.EarlyNumbers.{IsMade, Early, EarlyText, EarlyBit, EarlyPointer, EarlyOffset}
use Rattle.well_formed_trees.specs.EarlyNumbers.{EarlyReference}
use Rattle.well_formed_trees.proofs.Lists.{every_first, every_second, HoldsIf}

-- ---- what is early

abbrev pub IsAllowed : (block index : ℕ) → Mention → Type 0
IsAllowed b i MentionsFunction = ⊥
IsAllowed b i (MentionsVariable v) = IsMade b i v

abbrev pub AreAllowed : (block index : ℕ) → List Mention → Type 0
AreAllowed b i ms = Every (IsAllowed b i) ms

abbrev pub EarlyValue : (block index : ℕ) → Y.Value → Type 0
EarlyValue b i (Y.NumberValue p n) = Early b i n
EarlyValue b i (Y.TextValue t) = EarlyText b i t
EarlyValue b i (Y.BitValue x) = EarlyBit b i x
EarlyValue b i (Y.PointerValue p) = EarlyPointer b i p
EarlyValue b i (Y.OffsetValue area o) = EarlyOffset b i o
EarlyValue b i Y.NullValue = ⊤

abbrev pub EarlyReferent : (block index : ℕ) → Referent → Type 0
EarlyReferent b i (Designates d) = EarlyReference b i d.reference
EarlyReferent b i (Gives v) = EarlyValue b i v
EarlyReferent b i GivesUnknown = ⊤
EarlyReferent b i GivesEmptyArea = ⊤
EarlyReferent b i GivesNothing = ⊤
EarlyReferent b i NotKnown = ⊤

-- ---- the value of an operand

value_in_early : (b i : ℕ) (t : Y.LeafType) (r : Y.Reference) → EarlyReference b i r
    → HoldsIf (EarlyValue b i) (value_in t r)
value_in_early b i (Y.FixedLeaf p) r h = h
value_in_early b i (Y.CharacterLeaf n) r h = h
value_in_early b i (Y.VaryingLeaf n) r h = h
value_in_early b i Y.BitLeaf r h = h
value_in_early b i Y.PointerLeaf r h = h
value_in_early b i (Y.OffsetLeaf area) r h = h
value_in_early b i (Y.AreaLeaf n) r h = tt

pub typed_early : (b i : ℕ) (r : Y.Reference) (t : Option Y.LeafType) → EarlyReference b i r
    → HoldsIf (EarlyValue b i) (value_with_type r t)
typed_early b i r None h = tt
typed_early b i r (Some t) h = value_in_early b i t r h

given_early : (b i : ℕ) (place : Place) (v : Option Y.Value) → HoldsIf (EarlyValue b i) v
    → HoldsIf (EarlyValue b i) (value_or_mismatch place v).value
given_early b i place None h = tt
given_early b i place (Some v) h = h

referent_early : (b i : ℕ) (place : Place) (r : Referent) → EarlyReferent b i r
    → HoldsIf (EarlyValue b i) (referent_value place r).value
referent_early b i place (Designates d) h =
    given_early b i place (value_with_type d.reference (scalar_type d)) (typed_early b i d.reference (scalar_type d) h)
referent_early b i place (Gives v) h = h
referent_early b i place GivesUnknown h = tt
referent_early b i place GivesEmptyArea h = tt
referent_early b i place GivesNothing h = tt
referent_early b i place NotKnown h = tt

pub operand_early : (b i : ℕ) (o : Operand) → EarlyReferent b i o.referent
    → HoldsIf (EarlyValue b i) (operand_value o).value
operand_early b i o h = referent_early b i o.place o.referent h

-- ---- conversions

pub wanted_early : {X : Type 0} (b i : ℕ) (P : X → Type 0) (convert : Y.Value → Option X) (stand_in : X) (place : Place)
    (v : Option Y.Value) → P stand_in → ((v : Y.Value) → EarlyValue b i v → HoldsIf P (convert v))
    → HoldsIf (EarlyValue b i) v → P (wanted convert stand_in place v).value
wanted_early b i P convert stand_in place None s k h = s
wanted_early {X} b i P convert stand_in place (Some v) s k h = by (convert v) (k v h) where
  by : (o : Option X) → HoldsIf P o → P (converted_or stand_in place o).value
  by None k = s
  by (Some x) k = k

number_converted : (b i : ℕ) (v : Y.Value) → EarlyValue b i v → HoldsIf (Early b i) (number_of v)
number_converted b i (Y.NumberValue p n) h = h
number_converted b i (Y.TextValue t) h = h
number_converted b i (Y.BitValue x) h = h
number_converted b i _ h = tt

text_converted : (b i : ℕ) (v : Y.Value) → EarlyValue b i v → HoldsIf (EarlyText b i) (text_of v)
text_converted b i (Y.NumberValue p n) h = h
text_converted b i (Y.TextValue t) h = h
text_converted b i (Y.BitValue x) h = h
text_converted b i _ h = tt

own_bit_converted : (b i : ℕ) (v : Y.Value) → EarlyValue b i v → HoldsIf (EarlyBit b i) (only_bit v)
own_bit_converted b i (Y.BitValue x) h = h
own_bit_converted b i _ h = tt

offset_converted : (b i : ℕ) (v : Y.Value) → EarlyValue b i v → HoldsIf (EarlyOffset b i) (offset_of None v)
offset_converted b i (Y.OffsetValue area o) h = h
offset_converted b i _ h = tt

-- an OFFSET becomes a POINTER by its area, which is mentioned
pointer_converted : (b i : ℕ) (v : Y.Value) → AreAllowed b i (area_mentioned (Some v)).mentions → EarlyValue b i v
    → HoldsIf (EarlyPointer b i) (pointer_of v)
pointer_converted b i (Y.PointerValue p) m h = h
pointer_converted b i (Y.OffsetValue (Some area) o) m h = (h, m.0)
pointer_converted b i (Y.OffsetValue None o) m h = tt
pointer_converted b i _ m h = tt

number_early : (b i : ℕ) (place : Place) (v : Option Y.Value) → HoldsIf (EarlyValue b i) v
    → Early b i (number_wanted place v).value
number_early b i place v h =
    wanted_early b i (Early b i) number_of (Y.NumberConstant 0) place v tt (number_converted b i) h

text_early : (b i : ℕ) (place : Place) (v : Option Y.Value) → HoldsIf (EarlyValue b i) v
    → EarlyText b i (text_wanted place v).value
text_early b i place v h =
    wanted_early b i (EarlyText b i) text_of (Y.TextConstant []) place v tt (text_converted b i) h

own_bit_early : (b i : ℕ) (place : Place) (v : Option Y.Value) → HoldsIf (EarlyValue b i) v
    → EarlyBit b i (own_bit_wanted place v).value
own_bit_early b i place v h =
    wanted_early b i (EarlyBit b i) only_bit (Y.BitConstant false) place v tt (own_bit_converted b i) h

offset_early : (b i : ℕ) (place : Place) (v : Option Y.Value) → HoldsIf (EarlyValue b i) v
    → EarlyOffset b i (offset_wanted None place v).value
offset_early b i place v h =
    wanted_early b i (EarlyOffset b i) (offset_of None) Y.NullOffset place v tt (offset_converted b i) h

pub pointer_early : (b i : ℕ) (place : Place) (v : Option Y.Value) → HoldsIf (EarlyValue b i) v
    → AreAllowed b i (pointer_wanted place v).mentions → EarlyPointer b i (pointer_wanted place v).value
pointer_early b i place None h m = tt
pointer_early b i place (Some v) h m = by (pointer_of v) (pointer_converted b i v (every_first (IsAllowed b i)
    (area_mentioned (Some v)).mentions (wanted pointer_of Y.NullPointer place (Some v)).mentions m) h) where
      by : (o : Option Y.Pointer) → HoldsIf (EarlyPointer b i) o
          → EarlyPointer b i (converted_or Y.NullPointer place o).value
      by None k = tt
      by (Some p) k = k

-- ---- operands

pub number_operand_early : (b i : ℕ) (o : Operand) → EarlyReferent b i o.referent → Early b i (number_operand o).value
number_operand_early b i o h = number_early b i o.place (operand_value o).value (operand_early b i o h)

pub text_operand_early : (b i : ℕ) (o : Operand) → EarlyReferent b i o.referent → EarlyText b i (text_operand o).value
text_operand_early b i o h = text_early b i o.place (operand_value o).value (operand_early b i o h)

own_bit_operand_early : (b i : ℕ) (o : Operand) → EarlyReferent b i o.referent
    → EarlyBit b i (own_bit_operand o).value
own_bit_operand_early b i o h = own_bit_early b i o.place (operand_value o).value (operand_early b i o h)

pub pointer_operand_early : (b i : ℕ) (o : Operand) → EarlyReferent b i o.referent
    → AreAllowed b i (pointer_operand o).mentions → EarlyPointer b i (pointer_operand o).value
pointer_operand_early b i o h m =
    let v = operand_value o in
    pointer_early b i o.place v.value (operand_early b i o h)
    (every_second (IsAllowed b i) v.mentions (pointer_wanted o.place v.value).mentions m)

-- what stands in for an area is of no block
stand_in_made : (b i : ℕ) → 1 ≤ b → IsMade b i no_variable
stand_in_made b i s c e = absurd (omega (arith, s, e))

variable_made : (b i : ℕ) (r : Y.Reference) → EarlyReference b i r → IsMade b i (variable_of r)
variable_made b i (Y.Referring v locator part subscripts) h = h.0

pub area_operand_early : (b i : ℕ) → 1 ≤ b → (o : Operand) → EarlyReferent b i o.referent
    → IsMade b i (area_operand o).value
area_operand_early b i s o h = by o.referent h where
  which : (x : Bool) (r : Y.Reference) → EarlyReference b i r → IsMade b i (area_or_mismatch x o.place r).value
  which true r h = variable_made b i r h
  which false r h = stand_in_made b i s

  by : (r : Referent) → EarlyReferent b i r → IsMade b i (area_referent o.place r).value
  by (Designates d) h = which (is_area d) d.reference h
  by (Gives v) h = stand_in_made b i s
  by GivesUnknown h = stand_in_made b i s
  by GivesEmptyArea h = stand_in_made b i s
  by GivesNothing h = stand_in_made b i s
  by NotKnown h = stand_in_made b i s

-- ---- operators

pub prefixed_early : (b i : ℕ) (op : PrefixOp) (o : Operand) → EarlyReferent b i o.referent
    → EarlyReferent b i (prefixed op o).value
prefixed_early b i P.Plus o h = number_operand_early b i o h
prefixed_early b i P.Minus o h = number_operand_early b i o h
prefixed_early b i P.Not o h = own_bit_operand_early b i o h

pointers_early : (b i : ℕ) (c : Compared) (e : Option Bool) → EarlyValue b i c.left → EarlyValue b i c.right
    → AreAllowed b i (pointers_compared c e).mentions → EarlyBit b i (pointers_compared c e).value
pointers_early b i c None h k m = tt
pointers_early b i c (Some e) h k m =
    let x = (pointer_wanted c.left_place (Some c.left)).mentions in
    let y = (pointer_wanted c.right_place (Some c.right)).mentions in (
      pointer_early b i c.left_place (Some c.left) h (every_first (IsAllowed b i) x (y ++ []) m),
      pointer_early b i c.right_place (Some c.right) k
          (every_first (IsAllowed b i) y [] (every_second (IsAllowed b i) x (y ++ []) m)),
    )

offsets_early : (b i : ℕ) (c : Compared) (e : Option Bool) → EarlyValue b i c.left → EarlyValue b i c.right
    → EarlyBit b i (offsets_compared c e).value
offsets_early b i c None h k = tt
offsets_early b i c (Some e) h k =
    (offset_early b i c.left_place (Some c.left) h, offset_early b i c.right_place (Some c.right) k)

values_early : (b i : ℕ) (op : Y.Comparison) (c : Compared) (as' : ComparedAs) → EarlyValue b i c.left
    → EarlyValue b i c.right → AreAllowed b i (values_compared op c as').mentions
    → EarlyBit b i (values_compared op c as').value
values_early b i op c AsNumbers h k m =
    (number_early b i c.left_place (Some c.left) h, number_early b i c.right_place (Some c.right) k)
values_early b i op c AsTexts h k m =
    (text_early b i c.left_place (Some c.left) h, text_early b i c.right_place (Some c.right) k)
values_early b i op c AsBits h k m =
    (own_bit_early b i c.left_place (Some c.left) h, own_bit_early b i c.right_place (Some c.right) k)
values_early b i op c AsPointers h k m = pointers_early b i c (equality op) h k m
values_early b i op c AsOffsets h k m = offsets_early b i c (equality op) h k

half_early : (b i : ℕ) (place : Place) (x : Bool) (e : Option Bool) → EarlyBit b i (half_compared place x e).value
half_early b i place true None = tt
half_early b i place true (Some e) = tt
half_early b i place false None = tt
half_early b i place false (Some e) = tt

compared_early : (b i : ℕ) (op : Y.Comparison) (lp rp : Place) (v x : Option Y.Value) → HoldsIf (EarlyValue b i) v
    → HoldsIf (EarlyValue b i) x → AreAllowed b i (compared op lp rp v x).mentions
    → EarlyBit b i (compared op lp rp v x).value
compared_early b i op lp rp (Some v) (Some x) h k m =
    values_early b i op (record { left = v; right = x; left_place = lp; right_place = rp }) (kinds_compared v x) h k m
compared_early b i op lp rp (Some v) None h k m = half_early b i lp (is_locator v) (equality op)
compared_early b i op lp rp None (Some x) h k m = half_early b i lp (is_locator x) (equality op)
compared_early b i op lp rp None None h k m = tt

comparison_early : (b i : ℕ) (op : Y.Comparison) (l r : Operand) → EarlyReferent b i l.referent
    → EarlyReferent b i r.referent → AreAllowed b i (comparison op l r).mentions
    → EarlyReferent b i (comparison op l r).value
comparison_early b i op l r h k m =
    let v = operand_value l in
    let x = operand_value r in
    let c = compared op l.place r.place v.value x.value in
    let more = every_second (IsAllowed b i) v.mentions (x.mentions ++ (c.mentions ++ [])) m in
    compared_early b i op l.place r.place v.value x.value (operand_early b i l h) (operand_early b i r k)
    (every_first (IsAllowed b i) c.mentions []
    (every_second (IsAllowed b i) x.mentions (c.mentions ++ []) more))

pub infixed_early : (b i : ℕ) (op : InfixOp) (l r : Operand) → EarlyReferent b i l.referent
    → EarlyReferent b i r.referent → AreAllowed b i (infixed op l r).mentions → EarlyReferent b i (infixed op l r).value
infixed_early b i I.Add l r h k m = (number_operand_early b i l h, number_operand_early b i r k)
infixed_early b i I.Subtract l r h k m = (number_operand_early b i l h, number_operand_early b i r k)
infixed_early b i I.Multiply l r h k m = (number_operand_early b i l h, number_operand_early b i r k)
infixed_early b i I.Divide l r h k m = (number_operand_early b i l h, number_operand_early b i r k)
infixed_early b i I.Join l r h k m = (text_operand_early b i l h, text_operand_early b i r k)
infixed_early b i I.Equal l r h k m = comparison_early b i Y.IsEqual l r h k m
infixed_early b i I.NotEqual l r h k m = comparison_early b i Y.IsNotEqual l r h k m
infixed_early b i I.Less l r h k m = comparison_early b i Y.IsLess l r h k m
infixed_early b i I.Greater l r h k m = comparison_early b i Y.IsGreater l r h k m
infixed_early b i I.LessOrEqual l r h k m = comparison_early b i Y.IsLessOrEqual l r h k m
infixed_early b i I.GreaterOrEqual l r h k m = comparison_early b i Y.IsGreaterOrEqual l r h k m
infixed_early b i I.And l r h k m = (own_bit_operand_early b i l h, own_bit_operand_early b i r k)
infixed_early b i I.Or l r h k m = (own_bit_operand_early b i l h, own_bit_operand_early b i r k)
