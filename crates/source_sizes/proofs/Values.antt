-- What is made of operands takes as many words as they do, and what each conversion and operator takes.
use Rattle.std.proofs.Common.{ℕ, suc, ◌+◌, ◌*◌, ◌≤◌, Bool, true, false, [], Option, Some, None, arith}
use Rattle.pli_language.specs.declared.expr.Place.{Place}
use Rattle.pli_language.specs.declared.expr.PrefixOp.{PrefixOp}
use Rattle.pli_language.specs.declared.expr.PrefixOp.TheVariants as P
use Rattle.pli_language.specs.declared.expr.InfixOp.{InfixOp}
use Rattle.pli_language.specs.declared.expr.InfixOp.TheVariants as I
use Rattle.pli_typing.specs.TypedTree as Y
use Rattle.pli_typing.specs.Converting.{Referent, Designates, Gives, GivesUnknown, GivesEmptyArea, GivesNothing}
use Rattle.pli_typing.specs.Converting.{NotKnown, Operand, value_in, scalar_type}
use Rattle.pli_typing.specs.Converting.{value_or_mismatch, value_with_type, referent_value, operand_value}
use Rattle.pli_typing.specs.Converting.{number_of, text_of, bit_of, only_bit, pointer_of, offset_of, converted_or}
use Rattle.pli_typing.specs.Converting.{wanted}
use Rattle.pli_typing.specs.Converting.{number_wanted, text_wanted, bit_wanted, own_bit_wanted, pointer_wanted}
use Rattle.pli_typing.specs.Converting.{offset_wanted, number_operand, text_operand, own_bit_operand, pointer_operand}
use Rattle.pli_typing.specs.Converting.{stored_as}
use Rattle.pli_typing.specs.Operators.{prefixed, infixed, ComparedAs, AsNumbers, AsTexts, AsBits, AsPointers}
use Rattle.pli_typing.specs.Operators.{AsOffsets, Compared, is_locator, pointers_compared, offsets_compared}
use Rattle.pli_typing.specs.Operators.{values_compared, kinds_compared, half_compared, compared, equality, comparison}
use Rattle.code_sizes.specs.ExpressionSizes.{number_size, text_size, bit_size, pointer_size, offset_size}
use Rattle.code_sizes.specs.ExpressionSizes.{reference_size, stored_size}
use Rattle.well_formed_trees.proofs.Lists.{HoldsIf}
use Rattle.source_sizes.specs.Short.{ValueShort, Short}

-- ---- more words

pub value_more : (w x : ℕ) → w ≤ x → (v : Y.Value) → ValueShort w v → ValueShort x v
value_more w x l (Y.NumberValue p n) h = omega (arith, l, h)
value_more w x l (Y.TextValue t) h = omega (arith, l, h)
value_more w x l (Y.BitValue b) h = omega (arith, l, h)
value_more w x l (Y.PointerValue p) h = omega (arith, l, h)
value_more w x l (Y.OffsetValue area o) h = omega (arith, l, h)
value_more w x l Y.NullValue h = tt

pub short_more : (w x : ℕ) → w ≤ x → (r : Referent) → Short w r → Short x r
short_more w x l (Designates d) h = omega (arith, l, h)
short_more w x l (Gives v) h = value_more w x l v h
short_more w x l GivesUnknown h = tt
short_more w x l GivesEmptyArea h = tt
short_more w x l GivesNothing h = tt
short_more w x l NotKnown h = tt

-- ---- the value of an operand

value_in_short : (w : ℕ) (t : Y.LeafType) (r : Y.Reference) → reference_size r + 16 ≤ w
    → HoldsIf (ValueShort w) (value_in t r)
value_in_short w (Y.FixedLeaf p) r h = omega (arith, h)
value_in_short w (Y.CharacterLeaf n) r h = omega (arith, h)
value_in_short w (Y.VaryingLeaf n) r h = omega (arith, h)
value_in_short w Y.BitLeaf r h = omega (arith, h)
value_in_short w Y.PointerLeaf r h = omega (arith, h)
value_in_short w (Y.OffsetLeaf area) r h = omega (arith, h)
value_in_short w (Y.AreaLeaf n) r h = tt

pub typed_short : (w : ℕ) (r : Y.Reference) (t : Option Y.LeafType) → reference_size r + 16 ≤ w
    → HoldsIf (ValueShort w) (value_with_type r t)
typed_short w r None h = tt
typed_short w r (Some t) h = value_in_short w t r h

given_short : (w : ℕ) (place : Place) (v : Option Y.Value) → HoldsIf (ValueShort w) v
    → HoldsIf (ValueShort w) (value_or_mismatch place v).value
given_short w place None h = tt
given_short w place (Some v) h = h

referent_short : (w : ℕ) (place : Place) (r : Referent) → Short w r
    → HoldsIf (ValueShort w) (referent_value place r).value
referent_short w place (Designates d) h =
    given_short w place (value_with_type d.reference (scalar_type d)) (typed_short w d.reference (scalar_type d) h)
referent_short w place (Gives v) h = h
referent_short w place GivesUnknown h = tt
referent_short w place GivesEmptyArea h = tt
referent_short w place GivesNothing h = tt
referent_short w place NotKnown h = tt

-- ---- operands

-- what stands in for a value takes no more
abbrev pub OperandShort : (words : ℕ) → Operand → Type 0
OperandShort w o = (53 ≤ w) × Short w o.referent

pub operand_short : (w : ℕ) (o : Operand) → OperandShort w o → HoldsIf (ValueShort w) (operand_value o).value
operand_short w o h = referent_short w o.place o.referent h.1

-- ---- conversions

pub wanted_short : {X : Type 0} (w : ℕ) (P : X → Type 0) (convert : Y.Value → Option X) (stand_in : X) (place : Place)
    (v : Option Y.Value) → P stand_in → ((v : Y.Value) → ValueShort w v → HoldsIf P (convert v))
    → HoldsIf (ValueShort w) v → P (wanted convert stand_in place v).value
wanted_short w P convert stand_in place None s k h = s
wanted_short {X} w P convert stand_in place (Some v) s k h = by (convert v) (k v h) where
  by : (o : Option X) → HoldsIf P o → P (converted_or stand_in place o).value
  by None k = s
  by (Some x) k = k

number_converted : (w : ℕ) (v : Y.Value) → ValueShort w v → HoldsIf (λ n. number_size n ≤ w + 6) (number_of v)
number_converted w (Y.NumberValue p n) h = omega (arith, h)
number_converted w (Y.TextValue t) h = omega (arith, h)
number_converted w (Y.BitValue x) h = omega (arith, h)
number_converted w _ h = tt

text_converted : (w : ℕ) (v : Y.Value) → ValueShort w v → HoldsIf (λ t. text_size t ≤ w + 3) (text_of v)
text_converted w (Y.NumberValue p n) h = omega (arith, h)
text_converted w (Y.TextValue t) h = omega (arith, h)
text_converted w (Y.BitValue x) h = omega (arith, h)
text_converted w _ h = tt

bit_converted : (w : ℕ) (v : Y.Value) → ValueShort w v → HoldsIf (λ b. bit_size b ≤ w + 6) (bit_of v)
bit_converted w (Y.BitValue x) h = omega (arith, h)
bit_converted w (Y.TextValue t) h = omega (arith, h)
bit_converted w _ h = tt

own_bit_converted : (w : ℕ) (v : Y.Value) → ValueShort w v → HoldsIf (λ b. bit_size b ≤ w) (only_bit v)
own_bit_converted w (Y.BitValue x) h = h
own_bit_converted w _ h = tt

pointer_converted : (w : ℕ) → 53 ≤ w → (v : Y.Value) → ValueShort w v
    → HoldsIf (λ p. pointer_size p ≤ w + 1) (pointer_of v)
pointer_converted w s (Y.PointerValue p) h = omega (arith, h)
pointer_converted w s (Y.OffsetValue (Some area) o) h = omega (arith, h)
pointer_converted w s (Y.OffsetValue None o) h = tt
pointer_converted w s Y.NullValue h = omega (arith, s)
pointer_converted w s _ h = tt

offset_converted : (w : ℕ) → 53 ≤ w → (area : Option Y.Variable) (v : Y.Value) → ValueShort w v
    → HoldsIf (λ o. offset_size o ≤ w + 20) (offset_of area v)
offset_converted w s area (Y.OffsetValue other o) h = omega (arith, h)
offset_converted w s area Y.NullValue h = omega arith
offset_converted w s (Some area) (Y.PointerValue p) h = omega (arith, h)
offset_converted w s _ _ h = tt

number_short : (w : ℕ) (place : Place) (v : Option Y.Value) → HoldsIf (ValueShort w) v
    → number_size (number_wanted place v).value ≤ w + 6
number_short w place v h =
    wanted_short w (λ n. number_size n ≤ w + 6) number_of (Y.NumberConstant 0) place v (omega arith)
    (number_converted w) h

text_short : (w : ℕ) → 53 ≤ w → (place : Place) (v : Option Y.Value) → HoldsIf (ValueShort w) v
    → text_size (text_wanted place v).value ≤ w + 3
text_short w s place v h =
    wanted_short w (λ t. text_size t ≤ w + 3) text_of (Y.TextConstant []) place v (omega (arith, s))
    (text_converted w) h

bit_short : (w : ℕ) (place : Place) (v : Option Y.Value) → HoldsIf (ValueShort w) v
    → bit_size (bit_wanted place v).value ≤ w + 6
bit_short w place v h =
    wanted_short w (λ b. bit_size b ≤ w + 6) bit_of (Y.BitConstant false) place v (omega arith) (bit_converted w) h

own_bit_short : (w : ℕ) → 53 ≤ w → (place : Place) (v : Option Y.Value) → HoldsIf (ValueShort w) v
    → bit_size (own_bit_wanted place v).value ≤ w
own_bit_short w s place v h =
    wanted_short w (λ b. bit_size b ≤ w) only_bit (Y.BitConstant false) place v (omega (arith, s))
    (own_bit_converted w) h

pub pointer_short : (w : ℕ) → 53 ≤ w → (place : Place) (v : Option Y.Value) → HoldsIf (ValueShort w) v
    → pointer_size (pointer_wanted place v).value ≤ w + 1
pointer_short w s place v h =
    wanted_short w (λ p. pointer_size p ≤ w + 1) pointer_of Y.NullPointer place v (omega (arith, s))
    (pointer_converted w s) h

offset_short : (w : ℕ) → 53 ≤ w → (area : Option Y.Variable) (place : Place) (v : Option Y.Value)
    → HoldsIf (ValueShort w) v → offset_size (offset_wanted area place v).value ≤ w + 20
offset_short w s area place v h =
    wanted_short w (λ o. offset_size o ≤ w + 20) (offset_of area) Y.NullOffset place v (omega arith)
    (offset_converted w s area) h

pub number_operand_short : (w : ℕ) (o : Operand) → OperandShort w o → number_size (number_operand o).value ≤ w + 6
number_operand_short w o h = number_short w o.place (operand_value o).value (operand_short w o h)

pub text_operand_short : (w : ℕ) (o : Operand) → OperandShort w o → text_size (text_operand o).value ≤ w + 3
text_operand_short w o h = text_short w h.0 o.place (operand_value o).value (operand_short w o h)

pub own_bit_operand_short : (w : ℕ) (o : Operand) → OperandShort w o → bit_size (own_bit_operand o).value ≤ w
own_bit_operand_short w o h = own_bit_short w h.0 o.place (operand_value o).value (operand_short w o h)

pub pointer_operand_short : (w : ℕ) (o : Operand) → OperandShort w o → pointer_size (pointer_operand o).value ≤ w + 1
pointer_operand_short w o h = pointer_short w h.0 o.place (operand_value o).value (operand_short w o h)

-- ---- values for storage

pub stored_short : (w : ℕ) → 53 ≤ w → (t : Y.LeafType) (place : Place) (v : Option Y.Value)
    → HoldsIf (ValueShort w) v → stored_size (stored_as t place v).value ≤ w + 20
stored_short w s (Y.FixedLeaf p) place v h = let n = number_short w place v h in omega (arith, n)
stored_short w s (Y.CharacterLeaf n) place v h = let t = text_short w s place v h in omega (arith, t)
stored_short w s (Y.VaryingLeaf n) place v h = let t = text_short w s place v h in omega (arith, t)
stored_short w s Y.BitLeaf place v h = let b = bit_short w place v h in omega (arith, b)
stored_short w s Y.PointerLeaf place v h = let p = pointer_short w s place v h in omega (arith, p)
stored_short w s (Y.OffsetLeaf area) place v h = offset_short w s area place v h
stored_short w s (Y.AreaLeaf n) place v h =
    wanted_short w (λ x. stored_size x ≤ w + 20) (λ w. None) (Y.StoredBit (Y.BitConstant false)) place v (omega arith)
    (λ v k. tt) h

-- ---- operators, each of which is a token

pub prefixed_short : (w : ℕ) (op : PrefixOp) (o : Operand) → OperandShort w o → Short (w + 104) (prefixed op o).value
prefixed_short w P.Plus o h = let n = number_operand_short w o h in omega (arith, n)
prefixed_short w P.Minus o h = let n = number_operand_short w o h in omega (arith, n)
prefixed_short w P.Not o h = let b = own_bit_operand_short w o h in omega (arith, b)

pointers_short : (w x : ℕ) → 53 ≤ w → 53 ≤ x → (c : Compared) (e : Option Bool) → ValueShort w c.left
    → ValueShort x c.right → bit_size (pointers_compared c e).value ≤ w + (x + 51)
pointers_short w x s t c None h k = omega arith
pointers_short w x s t c (Some e) h k =
    let l = pointer_short w s c.left_place (Some c.left) h in
    let r = pointer_short x t c.right_place (Some c.right) k in
    omega (arith, l, r)

offsets_short : (w x : ℕ) → 53 ≤ w → 53 ≤ x → (c : Compared) (e : Option Bool) → ValueShort w c.left
    → ValueShort x c.right → bit_size (offsets_compared c e).value ≤ w + (x + 51)
offsets_short w x s t c None h k = omega arith
offsets_short w x s t c (Some e) h k =
    let l = offset_short w s None c.left_place (Some c.left) h in
    let r = offset_short x t None c.right_place (Some c.right) k in
    omega (arith, l, r)

values_short : (w x : ℕ) → 53 ≤ w → 53 ≤ x → (op : Y.Comparison) (c : Compared) (as' : ComparedAs)
    → ValueShort w c.left → ValueShort x c.right → bit_size (values_compared op c as').value ≤ w + (x + 51)
values_short w x s t op c AsNumbers h k =
    let l = number_short w c.left_place (Some c.left) h in
    let r = number_short x c.right_place (Some c.right) k in
    omega (arith, l, r)
values_short w x s t op c AsTexts h k =
    let l = text_short w s c.left_place (Some c.left) h in
    let r = text_short x t c.right_place (Some c.right) k in
    omega (arith, l, r)
values_short w x s t op c AsBits h k =
    let l = own_bit_short w s c.left_place (Some c.left) h in
    let r = own_bit_short x t c.right_place (Some c.right) k in
    omega (arith, l, r)
values_short w x s t op c AsPointers h k = pointers_short w x s t c (equality op) h k
values_short w x s t op c AsOffsets h k = offsets_short w x s t c (equality op) h k

half_short : (w x : ℕ) (place : Place) (b : Bool) (e : Option Bool)
    → bit_size (half_compared place b e).value ≤ w + (x + 51)
half_short w x place true None = omega arith
half_short w x place true (Some e) = omega arith
half_short w x place false None = omega arith
half_short w x place false (Some e) = omega arith

both_short : (w x : ℕ) → 53 ≤ w → 53 ≤ x → (op : Y.Comparison) (lp rp : Place) (v u : Option Y.Value)
    → HoldsIf (ValueShort w) v → HoldsIf (ValueShort x) u
    → bit_size (compared op lp rp v u).value ≤ w + (x + 51)
both_short w x s t op lp rp (Some v) (Some u) h k =
    values_short w x s t op (record { left = v; right = u; left_place = lp; right_place = rp })
    (kinds_compared v u) h k
both_short w x s t op lp rp (Some v) None h k = half_short w x lp (is_locator v) (equality op)
both_short w x s t op lp rp None (Some u) h k = half_short w x lp (is_locator u) (equality op)
both_short w x s t op lp rp None None h k = omega arith

comparison_short : (w x : ℕ) (op : Y.Comparison) (l r : Operand) → OperandShort w l → OperandShort x r
    → Short (w + (x + 51)) (comparison op l r).value
comparison_short w x op l r h k =
    both_short w x h.0 k.0 op l.place r.place (operand_value l).value (operand_value r).value (operand_short w l h)
    (operand_short x r k)

numbers_short : (w x : ℕ) (l r : Operand) → OperandShort w l → OperandShort x r
    → number_size (number_operand l).value + (number_size (number_operand r).value + 31) ≤ w + (x + 51)
numbers_short w x l r h k =
    let a = number_operand_short w l h in
    let b = number_operand_short x r k in
    omega (arith, a, b)

bits_short : (w x : ℕ) (l r : Operand) → OperandShort w l → OperandShort x r
    → bit_size (own_bit_operand l).value + (bit_size (own_bit_operand r).value + 7) ≤ w + (x + 51)
bits_short w x l r h k =
    let a = own_bit_operand_short w l h in
    let b = own_bit_operand_short x r k in
    omega (arith, a, b)

pub infixed_short : (w x : ℕ) (op : InfixOp) (l r : Operand) → OperandShort w l → OperandShort x r
    → Short (w + (x + 51)) (infixed op l r).value
infixed_short w x I.Add l r h k = numbers_short w x l r h k
infixed_short w x I.Subtract l r h k = numbers_short w x l r h k
infixed_short w x I.Multiply l r h k = numbers_short w x l r h k
infixed_short w x I.Divide l r h k = numbers_short w x l r h k
infixed_short w x I.Join l r h k =
    let a = text_operand_short w l h in
    let b = text_operand_short x r k in
    omega (arith, a, b)
infixed_short w x I.Equal l r h k = comparison_short w x Y.IsEqual l r h k
infixed_short w x I.NotEqual l r h k = comparison_short w x Y.IsNotEqual l r h k
infixed_short w x I.Less l r h k = comparison_short w x Y.IsLess l r h k
infixed_short w x I.Greater l r h k = comparison_short w x Y.IsGreater l r h k
infixed_short w x I.LessOrEqual l r h k = comparison_short w x Y.IsLessOrEqual l r h k
infixed_short w x I.GreaterOrEqual l r h k = comparison_short w x Y.IsGreaterOrEqual l r h k
infixed_short w x I.And l r h k = bits_short w x l r h k
infixed_short w x I.Or l r h k = bits_short w x l r h k
