-- What is made of operands takes no more words than they do, and what waits while they are evaluated.
use Rattle.std.proofs.Common.{ℕ, suc, ◌+◌, ◌≤◌, max, Bool, true, false, [], Option, Some, None, arith}
use Rattle.pli_language.specs.declared.expr.Place.{Place}
use Rattle.pli_language.specs.declared.expr.PrefixOp.{PrefixOp}
use Rattle.pli_language.specs.declared.expr.PrefixOp.TheVariants as P
use Rattle.pli_language.specs.declared.expr.InfixOp.{InfixOp}
use Rattle.pli_language.specs.declared.expr.InfixOp.TheVariants as I
use Rattle.pli_typing.specs.TypedTree as Y
use Rattle.pli_typing.specs.Converting.{Referent, Designates, Gives, GivesUnknown, GivesEmptyArea, GivesNothing}
use Rattle.pli_typing.specs.Converting.{NotKnown, Operand, value_in, scalar_type}
use Rattle.pli_typing.specs.Converting.{value_or_mismatch, value_with_type, referent_value, operand_value}
use Rattle.pli_typing.specs.Converting.{number_of, text_of, bit_of, only_bit, pointer_of, offset_of, converted_or}
use Rattle.pli_typing.specs.Converting.{wanted}
use Rattle.pli_typing.specs.Converting.{number_wanted, text_wanted, bit_wanted, own_bit_wanted, pointer_wanted}
use Rattle.pli_typing.specs.Converting.{offset_wanted, number_operand, text_operand, own_bit_operand, pointer_operand}
use Rattle.pli_typing.specs.Converting.{stored_as, operand_stored}
use Rattle.pli_typing.specs.Operators.{prefixed, infixed, ComparedAs, AsNumbers, AsTexts, AsBits, AsPointers}
use Rattle.pli_typing.specs.Operators.{AsOffsets, Compared, is_locator, pointers_compared, offsets_compared}
use Rattle.pli_typing.specs.Operators.{values_compared, kinds_compared, half_compared, compared, equality, comparison}
use Rattle.well_formed_trees.proofs.Lists.{HoldsIf}
use Rattle.small_frames.specs.Weights.{right_words}
use Rattle.small_frames.specs.Within.{ValueWithin, Within}
use Rattle.temporary_bounds.specs.WordBounds.{number_words, text_words, bit_words, pointer_words, offset_words}
use Rattle.temporary_bounds.specs.WordBounds.{reference_words, stored_words}

-- ---- more words

pub value_more : (w x : ℕ) → w ≤ x → (v : Y.Value) → ValueWithin w v → ValueWithin x v
value_more w x l (Y.NumberValue p n) h = omega (arith, l, h)
value_more w x l (Y.TextValue t) h = omega (arith, l, h)
value_more w x l (Y.BitValue b) h = omega (arith, l, h)
value_more w x l (Y.PointerValue p) h = omega (arith, l, h)
value_more w x l (Y.OffsetValue area o) h = omega (arith, l, h)
value_more w x l Y.NullValue h = tt

pub within_more : (w x : ℕ) → w ≤ x → (r : Referent) → Within w r → Within x r
within_more w x l (Designates d) h = omega (arith, l, h)
within_more w x l (Gives v) h = value_more w x l v h
within_more w x l GivesUnknown h = tt
within_more w x l GivesEmptyArea h = tt
within_more w x l GivesNothing h = tt
within_more w x l NotKnown h = tt

-- ---- the value of an operand

-- a POINTER has its four words
value_in_within : (w : ℕ) → 5 ≤ w → (t : Y.LeafType) (r : Y.Reference) → reference_words r ≤ w
    → HoldsIf (ValueWithin w) (value_in t r)
value_in_within w s (Y.FixedLeaf p) r h = h
value_in_within w s (Y.CharacterLeaf n) r h = h
value_in_within w s (Y.VaryingLeaf n) r h = h
value_in_within w s Y.BitLeaf r h = h
value_in_within w s Y.PointerLeaf r h = omega (arith, s, h)
value_in_within w s (Y.OffsetLeaf area) r h = h
value_in_within w s (Y.AreaLeaf n) r h = tt

pub typed_within : (w : ℕ) → 5 ≤ w → (r : Y.Reference) (t : Option Y.LeafType) → reference_words r ≤ w
    → HoldsIf (ValueWithin w) (value_with_type r t)
typed_within w s r None h = tt
typed_within w s r (Some t) h = value_in_within w s t r h

given_within : (w : ℕ) (place : Place) (v : Option Y.Value) → HoldsIf (ValueWithin w) v
    → HoldsIf (ValueWithin w) (value_or_mismatch place v).value
given_within w place None h = tt
given_within w place (Some v) h = h

referent_within : (w : ℕ) → 5 ≤ w → (place : Place) (r : Referent) → Within w r
    → HoldsIf (ValueWithin w) (referent_value place r).value
referent_within w s place (Designates d) h =
    given_within w place (value_with_type d.reference (scalar_type d)) (typed_within w s d.reference (scalar_type d) h)
referent_within w s place (Gives v) h = h
referent_within w s place GivesUnknown h = tt
referent_within w s place GivesEmptyArea h = tt
referent_within w s place GivesNothing h = tt
referent_within w s place NotKnown h = tt

-- ---- operands

-- an operand of which all words are counted
abbrev pub OperandWithin : (words : ℕ) → Operand → Type 0
OperandWithin w o = (5 ≤ w) × Within w o.referent

pub operand_within : (w : ℕ) (o : Operand) → OperandWithin w o → HoldsIf (ValueWithin w) (operand_value o).value
operand_within w o h = referent_within w h.0 o.place o.referent h.1

-- ---- conversions

pub wanted_within : {X : Type 0} (w : ℕ) (P : X → Type 0) (convert : Y.Value → Option X) (stand_in : X) (place : Place)
    (v : Option Y.Value) → P stand_in → ((v : Y.Value) → ValueWithin w v → HoldsIf P (convert v))
    → HoldsIf (ValueWithin w) v → P (wanted convert stand_in place v).value
wanted_within w P convert stand_in place None s k h = s
wanted_within {X} w P convert stand_in place (Some v) s k h = by (convert v) (k v h) where
  by : (o : Option X) → HoldsIf P o → P (converted_or stand_in place o).value
  by None k = s
  by (Some x) k = k

number_converted : (w : ℕ) (v : Y.Value) → ValueWithin w v → HoldsIf (λ n. number_words n ≤ w) (number_of v)
number_converted w (Y.NumberValue p n) h = h
number_converted w (Y.TextValue t) h = h
number_converted w (Y.BitValue x) h = h
number_converted w _ h = tt

text_converted : (w : ℕ) (v : Y.Value) → ValueWithin w v → HoldsIf (λ t. text_words t ≤ w) (text_of v)
text_converted w (Y.NumberValue p n) h = h
text_converted w (Y.TextValue t) h = h
text_converted w (Y.BitValue x) h = h
text_converted w _ h = tt

bit_converted : (w : ℕ) (v : Y.Value) → ValueWithin w v → HoldsIf (λ b. bit_words b ≤ w) (bit_of v)
bit_converted w (Y.BitValue x) h = h
bit_converted w (Y.TextValue t) h = h
bit_converted w _ h = tt

own_bit_converted : (w : ℕ) (v : Y.Value) → ValueWithin w v → HoldsIf (λ b. bit_words b ≤ w) (only_bit v)
own_bit_converted w (Y.BitValue x) h = h
own_bit_converted w _ h = tt

pointer_converted : (w : ℕ) → 5 ≤ w → (v : Y.Value) → ValueWithin w v
    → HoldsIf (λ p. pointer_words p ≤ w) (pointer_of v)
pointer_converted w s (Y.PointerValue p) h = h
pointer_converted w s (Y.OffsetValue (Some area) o) h = omega (arith, s, h)
pointer_converted w s (Y.OffsetValue None o) h = tt
pointer_converted w s Y.NullValue h = omega (arith, s)
pointer_converted w s _ h = tt

offset_converted : (w : ℕ) (area : Option Y.Variable) (v : Y.Value) → ValueWithin w v
    → HoldsIf (λ o. offset_words o ≤ w) (offset_of area v)
offset_converted w area (Y.OffsetValue other o) h = h
offset_converted w area Y.NullValue h = omega arith
offset_converted w (Some area) (Y.PointerValue p) h = h
offset_converted w _ _ h = tt

number_within : (w : ℕ) (place : Place) (v : Option Y.Value) → HoldsIf (ValueWithin w) v
    → number_words (number_wanted place v).value ≤ w
number_within w place v h =
    wanted_within w (λ n. number_words n ≤ w) number_of (Y.NumberConstant 0) place v (omega arith)
    (number_converted w) h

text_within : (w : ℕ) (place : Place) (v : Option Y.Value) → HoldsIf (ValueWithin w) v
    → text_words (text_wanted place v).value ≤ w
text_within w place v h =
    wanted_within w (λ t. text_words t ≤ w) text_of (Y.TextConstant []) place v (omega arith) (text_converted w) h

bit_within : (w : ℕ) (place : Place) (v : Option Y.Value) → HoldsIf (ValueWithin w) v
    → bit_words (bit_wanted place v).value ≤ w
bit_within w place v h =
    wanted_within w (λ b. bit_words b ≤ w) bit_of (Y.BitConstant false) place v (omega arith) (bit_converted w) h

own_bit_within : (w : ℕ) (place : Place) (v : Option Y.Value) → HoldsIf (ValueWithin w) v
    → bit_words (own_bit_wanted place v).value ≤ w
own_bit_within w place v h =
    wanted_within w (λ b. bit_words b ≤ w) only_bit (Y.BitConstant false) place v (omega arith) (own_bit_converted w) h

pub pointer_within : (w : ℕ) → 5 ≤ w → (place : Place) (v : Option Y.Value) → HoldsIf (ValueWithin w) v
    → pointer_words (pointer_wanted place v).value ≤ w
pointer_within w s place v h =
    wanted_within w (λ p. pointer_words p ≤ w) pointer_of Y.NullPointer place v (omega (arith, s))
    (pointer_converted w s) h

offset_within : (w : ℕ) (area : Option Y.Variable) (place : Place) (v : Option Y.Value) → HoldsIf (ValueWithin w) v
    → offset_words (offset_wanted area place v).value ≤ w
offset_within w area place v h =
    wanted_within w (λ o. offset_words o ≤ w) (offset_of area) Y.NullOffset place v (omega arith)
    (offset_converted w area) h

pub number_operand_within : (w : ℕ) (o : Operand) → OperandWithin w o → number_words (number_operand o).value ≤ w
number_operand_within w o h = number_within w o.place (operand_value o).value (operand_within w o h)

pub text_operand_within : (w : ℕ) (o : Operand) → OperandWithin w o → text_words (text_operand o).value ≤ w
text_operand_within w o h = text_within w o.place (operand_value o).value (operand_within w o h)

pub own_bit_operand_within : (w : ℕ) (o : Operand) → OperandWithin w o → bit_words (own_bit_operand o).value ≤ w
own_bit_operand_within w o h = own_bit_within w o.place (operand_value o).value (operand_within w o h)

pub pointer_operand_within : (w : ℕ) (o : Operand) → OperandWithin w o → pointer_words (pointer_operand o).value ≤ w
pointer_operand_within w o h = pointer_within w h.0 o.place (operand_value o).value (operand_within w o h)

-- ---- values for storage

pub stored_within : (w : ℕ) → 5 ≤ w → (t : Y.LeafType) (place : Place) (v : Option Y.Value)
    → HoldsIf (ValueWithin w) v → stored_words (stored_as t place v).value ≤ w
stored_within w s (Y.FixedLeaf p) place v h = let n = number_within w place v h in omega (arith, s, n)
stored_within w s (Y.CharacterLeaf n) place v h = text_within w place v h
stored_within w s (Y.VaryingLeaf n) place v h = text_within w place v h
stored_within w s Y.BitLeaf place v h = bit_within w place v h
stored_within w s Y.PointerLeaf place v h = pointer_within w s place v h
stored_within w s (Y.OffsetLeaf area) place v h = offset_within w area place v h
stored_within w s (Y.AreaLeaf n) place v h =
    wanted_within w (λ x. stored_words x ≤ w) (λ w. None) (Y.StoredBit (Y.BitConstant false)) place v (omega arith)
    (λ v k. tt) h

pub operand_stored_within : (w : ℕ) (t : Y.LeafType) (o : Operand) → OperandWithin w o
    → stored_words (operand_stored t o).value ≤ w
operand_stored_within w t o h = stored_within w h.0 t o.place (operand_value o).value (operand_within w o h)

-- ---- operators

pub prefixed_within : (w : ℕ) (op : PrefixOp) (o : Operand) → OperandWithin w o → Within w (prefixed op o).value
prefixed_within w P.Plus o h = let n = number_operand_within w o h in let s = h.0 in omega (arith, s, n)
prefixed_within w P.Minus o h = let n = number_operand_within w o h in let s = h.0 in omega (arith, s, n)
prefixed_within w P.Not o h = own_bit_operand_within w o h

-- the words of two operands, of which the right one waits for the left one's
joined_within : (l r w x : ℕ) → l ≤ w → r ≤ x → max l r ≤ max w (0 + x)
joined_within l r w x h k = omega (arith, h, k)

waits_within : (l r w x : ℕ) → l ≤ w → r ≤ x → max l (suc r) ≤ max w (1 + x)
waits_within l r w x h k = omega (arith, h, k)

names_within : (l r w x : ℕ) → l ≤ w → r ≤ x → max l (4 + r) ≤ max w (4 + x)
names_within l r w x h k = omega (arith, h, k)

words_within : (l r w x : ℕ) → l ≤ w → r ≤ x → max l (suc r) ≤ max w (4 + x)
words_within l r w x h k = omega (arith, h, k)

texts_within : (l r w x : ℕ) → l ≤ w → r ≤ x → max l r ≤ max w (4 + x)
texts_within l r w x h k = omega (arith, h, k)

none_within : (w x : ℕ) → 0 ≤ max w (4 + x)
none_within w x = omega arith

pointers_within : (w x : ℕ) → 5 ≤ w → 5 ≤ x → (c : Compared) (e : Option Bool) → ValueWithin w c.left
    → ValueWithin x c.right → bit_words (pointers_compared c e).value ≤ max w (4 + x)
pointers_within w x s t c None h k = none_within w x
pointers_within w x s t c (Some e) h k =
    names_within _ _ w x (pointer_within w s c.left_place (Some c.left) h)
    (pointer_within x t c.right_place (Some c.right) k)

offsets_within : (w x : ℕ) (c : Compared) (e : Option Bool) → ValueWithin w c.left → ValueWithin x c.right
    → bit_words (offsets_compared c e).value ≤ max w (4 + x)
offsets_within w x c None h k = none_within w x
offsets_within w x c (Some e) h k =
    words_within _ _ w x (offset_within w None c.left_place (Some c.left) h)
    (offset_within x None c.right_place (Some c.right) k)

values_within : (w x : ℕ) → 5 ≤ w → 5 ≤ x → (op : Y.Comparison) (c : Compared) (as' : ComparedAs)
    → ValueWithin w c.left → ValueWithin x c.right → bit_words (values_compared op c as').value ≤ max w (4 + x)
values_within w x s t op c AsNumbers h k =
    words_within _ _ w x (number_within w c.left_place (Some c.left) h)
    (number_within x c.right_place (Some c.right) k)
values_within w x s t op c AsTexts h k =
    texts_within _ _ w x (text_within w c.left_place (Some c.left) h)
    (text_within x c.right_place (Some c.right) k)
values_within w x s t op c AsBits h k =
    words_within _ _ w x (own_bit_within w c.left_place (Some c.left) h)
    (own_bit_within x c.right_place (Some c.right) k)
values_within w x s t op c AsPointers h k = pointers_within w x s t c (equality op) h k
values_within w x s t op c AsOffsets h k = offsets_within w x c (equality op) h k

half_within : (w x : ℕ) (place : Place) (b : Bool) (e : Option Bool)
    → bit_words (half_compared place b e).value ≤ max w (4 + x)
half_within w x place true None = none_within w x
half_within w x place true (Some e) = none_within w x
half_within w x place false None = none_within w x
half_within w x place false (Some e) = none_within w x

both_within : (w x : ℕ) → 5 ≤ w → 5 ≤ x → (op : Y.Comparison) (lp rp : Place) (v u : Option Y.Value)
    → HoldsIf (ValueWithin w) v → HoldsIf (ValueWithin x) u
    → bit_words (compared op lp rp v u).value ≤ max w (4 + x)
both_within w x s t op lp rp (Some v) (Some u) h k =
    values_within w x s t op (record { left = v; right = u; left_place = lp; right_place = rp })
    (kinds_compared v u) h k
both_within w x s t op lp rp (Some v) None h k = half_within w x lp (is_locator v) (equality op)
both_within w x s t op lp rp None (Some u) h k = half_within w x lp (is_locator u) (equality op)
both_within w x s t op lp rp None None h k = none_within w x

comparison_within : (w x : ℕ) (op : Y.Comparison) (l r : Operand) → OperandWithin w l → OperandWithin x r
    → Within (max w (4 + x)) (comparison op l r).value
comparison_within w x op l r h k =
    both_within w x h.0 k.0 op l.place r.place (operand_value l).value (operand_value r).value (operand_within w l h)
    (operand_within x r k)

numbers_within : (w x : ℕ) (l r : Operand) → OperandWithin w l → OperandWithin x r
    → max (number_words (number_operand l).value) (suc (number_words (number_operand r).value)) ≤ max w (1 + x)
numbers_within w x l r h k =
    waits_within _ _ w x (number_operand_within w l h) (number_operand_within x r k)

bits_within : (w x : ℕ) (l r : Operand) → OperandWithin w l → OperandWithin x r
    → max (bit_words (own_bit_operand l).value) (suc (bit_words (own_bit_operand r).value)) ≤ max w (1 + x)
bits_within w x l r h k =
    waits_within _ _ w x (own_bit_operand_within w l h) (own_bit_operand_within x r k)

pub infixed_within : (w x : ℕ) (op : InfixOp) (l r : Operand) → OperandWithin w l → OperandWithin x r
    → Within (max w (right_words op + x)) (infixed op l r).value
infixed_within w x I.Add l r h k = numbers_within w x l r h k
infixed_within w x I.Subtract l r h k = numbers_within w x l r h k
infixed_within w x I.Multiply l r h k = numbers_within w x l r h k
infixed_within w x I.Divide l r h k = numbers_within w x l r h k
infixed_within w x I.Join l r h k =
    joined_within _ _ w x (text_operand_within w l h) (text_operand_within x r k)
infixed_within w x I.Equal l r h k = comparison_within w x Y.IsEqual l r h k
infixed_within w x I.NotEqual l r h k = comparison_within w x Y.IsNotEqual l r h k
infixed_within w x I.Less l r h k = comparison_within w x Y.IsLess l r h k
infixed_within w x I.Greater l r h k = comparison_within w x Y.IsGreater l r h k
infixed_within w x I.LessOrEqual l r h k = comparison_within w x Y.IsLessOrEqual l r h k
infixed_within w x I.GreaterOrEqual l r h k = comparison_within w x Y.IsGreaterOrEqual l r h k
infixed_within w x I.And l r h k = bits_within w x l r h k
infixed_within w x I.Or l r h k = bits_within w x l r h k
