-- What operators and built-in functions come to, where they break no rule, is sound.
use Rattle.std.proofs.Common.{◌≡◌, ℕ, ◌≤◌, Bool, true, false, not, ◌&&◌, List, [], ◌∷◌, ◌++◌}
use Rattle.std.proofs.Common.{Option, Some, None, if◌then◌else◌, refl, sym, subst, arith, inl, inr, ℤ}
use Rattle.std.proofs.Common.{pos, negsuc}
use Rattle.std.specs.Prelude.{nat_le, ◌⊎◌}
use Rattle.std.proofs.lemmas.Bool.Decides.{nat_tests}
use Rattle.pli_language.specs.declared.expr.Place.{Place}
use Rattle.pli_language.specs.declared.expr.PrefixOp.{PrefixOp}
use Rattle.pli_language.specs.declared.expr.PrefixOp.TheVariants as P
use Rattle.pli_language.specs.declared.expr.InfixOp.{InfixOp}
use Rattle.pli_language.specs.declared.expr.InfixOp.TheVariants as I
use Rattle.pli_language.specs.declared.token.Word.{Word}
use Rattle.pli_language.specs.declared.token.Word.TheVariants as W
use Rattle.pli_language.specs.Declaring.{is_builtin}
use Rattle.pli_typing.specs.TypedTree as Y
use Rattle.pli_typing.specs.Judging.{Judged, fine}
use Rattle.pli_typing.specs.Converting.{Designated, Referent, Designates, Gives, GivesUnknown, GivesEmptyArea}
use Rattle.pli_typing.specs.Converting.{GivesNothing, NotKnown, Operand, operator_digits, is_area, variable_of}
use Rattle.pli_typing.specs.Converting.{operand_value, wanted, number_operand, text_operand, own_bit_operand}
use Rattle.pli_typing.specs.Converting.{pointer_operand, area_operand, number_wanted, text_wanted, own_bit_wanted}
use Rattle.pli_typing.specs.Converting.{pointer_wanted, offset_wanted}
use Rattle.pli_typing.specs.Operators.{prefixed, infixed, ComparedAs, AsNumbers, AsTexts, AsBits, AsPointers}
use Rattle.pli_typing.specs.Operators.{AsOffsets, Compared, pointers_compared, offsets_compared, values_compared}
use Rattle.pli_typing.specs.Operators.{kinds_compared, compared, equality, calculated, joined, combined}
use Rattle.pli_typing.specs.Operators.{comparison}
use Rattle.pli_typing.specs.Builtins.{number_given, text_given, pointer_given, bad_number, of_number, of_numbers}
use Rattle.pli_typing.specs.Builtins.{number_list, of_many, of_text, of_texts, substring, constant_within, is_zero}
use Rattle.pli_typing.specs.Builtins.{divided, quotient, dimension_of, of_array, of_dimension, is_controlled}
use Rattle.pli_typing.specs.Builtins.{allocations_of, of_controlled, has_name, bad_pointer, address_of, address}
use Rattle.pli_typing.specs.Builtins.{own_offset, pointer_into, offset_into, without_arguments, builtin_called}
use Rattle.well_formed_trees.specs.Every.{Every}
use Rattle.well_formed_trees.specs.Ranges.{IsPrecision}
use Rattle.well_formed_trees.specs.Surroundings.{Where, IsDeclared, IsOfClass}
use Rattle.well_formed_trees.specs.References as R
use Rattle.well_formed_trees.specs.References.{part_of, subscripts_of, IsDimension, IsWhole, HasName}
use Rattle.well_formed_trees.specs.Expressions.{SoundNumber, SoundNumbers, SoundText, SoundBit, SoundPointer}
use Rattle.well_formed_trees.specs.Expressions.{SoundOffset, SoundReference}
use Rattle.well_formed_trees.proofs.Lists.{first_empty, second_empty}
use Rattle.well_formed_trees.proofs.Places.{same_some}
use Rattle.well_formed_trees.proofs.FitValues.{SoundValue, SoundGiven, IsPart, IsFit, designates, wanted_sound}
use Rattle.well_formed_trees.proofs.FitValues.{operand_sound, number_operand_sound, text_operand_sound}
use Rattle.well_formed_trees.proofs.FitValues.{own_bit_operand_sound, pointer_operand_sound, area_operand_sound}
use Rattle.well_formed_trees.proofs.FitValues.{number_sound, text_sound, own_bit_sound, pointer_sound, offset_sound}

abbrev pub AllFit : Where → List Operand → Type 0
AllFit w os = Every (λ o. IsFit w o.referent) os

pub digits_fit : IsPrecision operator_digits
digits_fit = (omega arith, omega arith)

-- ---- operators

pub prefixed_fit : (w : Where) (op : PrefixOp) (o : Operand) → IsFit w o.referent → (prefixed op o).faults ≡ []
    → IsFit w (prefixed op o).value
prefixed_fit w P.Plus o h f = (digits_fit, number_operand_sound w o h (first_empty (number_operand o).faults [] f))
prefixed_fit w P.Minus o h f = (digits_fit, number_operand_sound w o h (first_empty (number_operand o).faults [] f))
prefixed_fit w P.Not o h f = own_bit_operand_sound w o h (first_empty (own_bit_operand o).faults [] f)

calculated_fit : (w : Where) (op : Y.ArithmeticOperator) (l r : Operand) → IsFit w l.referent → IsFit w r.referent
    → (calculated op l r).faults ≡ [] → IsFit w (calculated op l r).value
calculated_fit w op l r h k f =
    let a = (number_operand l).faults in
    let b = (number_operand r).faults in (
      digits_fit,
      (
        number_operand_sound w l h (first_empty a (b ++ []) f),
        number_operand_sound w r k (first_empty b [] (second_empty a (b ++ []) f)),
      ),
    )

joined_fit : (w : Where) (l r : Operand) → IsFit w l.referent → IsFit w r.referent → (joined l r).faults ≡ []
    → IsFit w (joined l r).value
joined_fit w l r h k f =
    let a = (text_operand l).faults in
    let b = (text_operand r).faults in (
      text_operand_sound w l h (first_empty a (b ++ []) f),
      text_operand_sound w r k (first_empty b [] (second_empty a (b ++ []) f)),
    )

combined_fit : (w : Where) (op : Y.BitOperator) (l r : Operand) → IsFit w l.referent → IsFit w r.referent
    → (combined op l r).faults ≡ [] → IsFit w (combined op l r).value
combined_fit w op l r h k f =
    let a = (own_bit_operand l).faults in
    let b = (own_bit_operand r).faults in (
      own_bit_operand_sound w l h (first_empty a (b ++ []) f),
      own_bit_operand_sound w r k (first_empty b [] (second_empty a (b ++ []) f)),
    )

pointers_sound : (w : Where) (c : Compared) (e : Option Bool) → SoundValue w c.left → SoundValue w c.right
    → (pointers_compared c e).faults ≡ [] → SoundBit w (pointers_compared c e).value
pointers_sound w c None h k f = absurd (cc f)
pointers_sound w c (Some e) h k f =
    let a = (pointer_wanted c.left_place (Some c.left)).faults in
    let b = (pointer_wanted c.right_place (Some c.right)).faults in (
      pointer_sound w c.left_place (Some c.left) h (first_empty a (b ++ []) f),
      pointer_sound w c.right_place (Some c.right) k (first_empty b [] (second_empty a (b ++ []) f)),
    )

offsets_sound : (w : Where) (c : Compared) (e : Option Bool) → SoundValue w c.left → SoundValue w c.right
    → (offsets_compared c e).faults ≡ [] → SoundBit w (offsets_compared c e).value
offsets_sound w c None h k f = absurd (cc f)
offsets_sound w c (Some e) h k f =
    let a = (offset_wanted None c.left_place (Some c.left)).faults in
    let b = (offset_wanted None c.right_place (Some c.right)).faults in (
      offset_sound w None c.left_place (Some c.left) tt h (first_empty a (b ++ []) f),
      offset_sound w None c.right_place (Some c.right) tt k (first_empty b [] (second_empty a (b ++ []) f)),
    )

values_sound : (w : Where) (op : Y.Comparison) (c : Compared) (as' : ComparedAs) → SoundValue w c.left
    → SoundValue w c.right → (values_compared op c as').faults ≡ [] → SoundBit w (values_compared op c as').value
values_sound w op c AsNumbers h k f =
    let a = (number_wanted c.left_place (Some c.left)).faults in
    let b = (number_wanted c.right_place (Some c.right)).faults in (
      number_sound w c.left_place (Some c.left) h (first_empty a (b ++ []) f),
      number_sound w c.right_place (Some c.right) k (first_empty b [] (second_empty a (b ++ []) f)),
    )
values_sound w op c AsTexts h k f =
    let a = (text_wanted c.left_place (Some c.left)).faults in
    let b = (text_wanted c.right_place (Some c.right)).faults in (
      text_sound w c.left_place (Some c.left) h (first_empty a (b ++ []) f),
      text_sound w c.right_place (Some c.right) k (first_empty b [] (second_empty a (b ++ []) f)),
    )
values_sound w op c AsBits h k f =
    let a = (own_bit_wanted c.left_place (Some c.left)).faults in
    let b = (own_bit_wanted c.right_place (Some c.right)).faults in (
      own_bit_sound w c.left_place (Some c.left) h (first_empty a (b ++ []) f),
      own_bit_sound w c.right_place (Some c.right) k (first_empty b [] (second_empty a (b ++ []) f)),
    )
values_sound w op c AsPointers h k f = pointers_sound w c (equality op) h k f
values_sound w op c AsOffsets h k f = offsets_sound w c (equality op) h k f

compared_sound : (w : Where) (op : Y.Comparison) (lp rp : Place) (v x : Option Y.Value) → SoundGiven w v
    → SoundGiven w x → (compared op lp rp v x).faults ≡ [] → SoundBit w (compared op lp rp v x).value
compared_sound w op lp rp (Some v) (Some x) h k f =
    values_sound w op (record { left = v; right = x; left_place = lp; right_place = rp }) (kinds_compared v x) h k f
compared_sound w op lp rp None x h k f = absurd h
compared_sound w op lp rp (Some v) None h k f = absurd k

comparison_fit : (w : Where) (op : Y.Comparison) (l r : Operand) → IsFit w l.referent → IsFit w r.referent
    → (comparison op l r).faults ≡ [] → IsFit w (comparison op l r).value
comparison_fit w op l r h k f =
    let v = operand_value l in
    let x = operand_value r in
    let b = compared op l.place r.place v.value x.value in
    let more = second_empty v.faults (x.faults ++ (b.faults ++ [])) f in
    compared_sound w op l.place r.place v.value x.value
    (operand_sound w l h (first_empty v.faults (x.faults ++ (b.faults ++ [])) f))
    (operand_sound w r k (first_empty x.faults (b.faults ++ []) more))
    (first_empty b.faults [] (second_empty x.faults (b.faults ++ []) more))

pub infixed_fit : (w : Where) (op : InfixOp) (l r : Operand) → IsFit w l.referent → IsFit w r.referent
    → (infixed op l r).faults ≡ [] → IsFit w (infixed op l r).value
infixed_fit w I.Add l r h k f = calculated_fit w Y.Sum l r h k f
infixed_fit w I.Subtract l r h k f = calculated_fit w Y.Difference l r h k f
infixed_fit w I.Multiply l r h k f = calculated_fit w Y.Product l r h k f
infixed_fit w I.Divide l r h k f = calculated_fit w Y.Quotient l r h k f
infixed_fit w I.Join l r h k f = joined_fit w l r h k f
infixed_fit w I.Equal l r h k f = comparison_fit w Y.IsEqual l r h k f
infixed_fit w I.NotEqual l r h k f = comparison_fit w Y.IsNotEqual l r h k f
infixed_fit w I.Less l r h k f = comparison_fit w Y.IsLess l r h k f
infixed_fit w I.Greater l r h k f = comparison_fit w Y.IsGreater l r h k f
infixed_fit w I.LessOrEqual l r h k f = comparison_fit w Y.IsLessOrEqual l r h k f
infixed_fit w I.GreaterOrEqual l r h k f = comparison_fit w Y.IsGreaterOrEqual l r h k f
infixed_fit w I.And l r h k f = combined_fit w Y.Conjunction l r h k f
infixed_fit w I.Or l r h k f = combined_fit w Y.Disjunction l r h k f

-- ---- arguments of built-in functions

pub numbers_sound : (w : Where) (os : List Operand) → AllFit w os → (number_list os).faults ≡ []
    → SoundNumbers w (number_list os).value
numbers_sound w [] h f = tt
numbers_sound w (o ∷ os) h f =
    let a = (number_operand o).faults in
    let b = (number_list os).faults in (
      number_operand_sound w o h.0 (first_empty a (b ++ []) f),
      numbers_sound w os h.1 (first_empty b [] (second_empty a (b ++ []) f)),
    )

one_sound : (w : Where) (place : Place) (build : Y.Number → Y.Number)
    → ((n : Y.Number) → SoundNumber w n → SoundNumber w (build n)) → (os : List Operand) → AllFit w os
    → (of_number place build os).faults ≡ [] → SoundNumber w (of_number place build os).value
one_sound w place build k [] h f = absurd (cc f)
one_sound w place build k (x ∷ []) h f =
    k (number_operand x).value (number_operand_sound w x h.0 (first_empty (number_operand x).faults [] f))
one_sound w place build k (x ∷ y ∷ more) h f = absurd (cc f)

two_sound : (w : Where) (place : Place) (build : Y.Number → Y.Number → Y.Number)
    → ((n m : Y.Number) → SoundNumber w n → SoundNumber w m → SoundNumber w (build n m)) → (os : List Operand)
    → AllFit w os → (of_numbers place build os).faults ≡ [] → SoundNumber w (of_numbers place build os).value
two_sound w place build k [] h f = absurd (cc f)
two_sound w place build k (x ∷ []) h f = absurd (cc f)
two_sound w place build k (x ∷ y ∷ []) h f =
    let a = (number_operand x).faults in
    let b = (number_operand y).faults in
    k (number_operand x).value (number_operand y).value (number_operand_sound w x h.0 (first_empty a (b ++ []) f))
    (number_operand_sound w y h.1.0 (first_empty b [] (second_empty a (b ++ []) f)))
two_sound w place build k (x ∷ y ∷ z ∷ more) h f = absurd (cc f)

many_sound : (w : Where) (place : Place) (which : Y.Extremum) (os : List Operand) → AllFit w os
    → (of_many place which os).faults ≡ [] → SoundNumber w (of_many place which os).value
many_sound w place which [] h f = absurd (cc f)
many_sound w place which (x ∷ []) h f = absurd (cc f)
many_sound w place which (x ∷ y ∷ more) h f =
    let a = (number_operand x).faults in
    let b = (number_list (y ∷ more)).faults in (
      number_operand_sound w x h.0 (first_empty a (b ++ []) f),
      (tt, numbers_sound w (y ∷ more) h.1 (first_empty b [] (second_empty a (b ++ []) f))),
    )

length_sound : (w : Where) (place : Place) (os : List Operand) → AllFit w os → (of_text place os).faults ≡ []
    → SoundNumber w (of_text place os).value
length_sound w place [] h f = absurd (cc f)
length_sound w place (x ∷ []) h f = text_operand_sound w x h.0 (first_empty (text_operand x).faults [] f)
length_sound w place (x ∷ y ∷ more) h f = absurd (cc f)

texts_sound : (w : Where) (place : Place) (build : Y.Text → Y.Text → Y.Number)
    → ((s t : Y.Text) → SoundText w s → SoundText w t → SoundNumber w (build s t)) → (os : List Operand) → AllFit w os
    → (of_texts place build os).faults ≡ [] → SoundNumber w (of_texts place build os).value
texts_sound w place build k [] h f = absurd (cc f)
texts_sound w place build k (x ∷ []) h f = absurd (cc f)
texts_sound w place build k (x ∷ y ∷ []) h f =
    let a = (text_operand x).faults in
    let b = (text_operand y).faults in
    k (text_operand x).value (text_operand y).value (text_operand_sound w x h.0 (first_empty a (b ++ []) f))
    (text_operand_sound w y h.1.0 (first_empty b [] (second_empty a (b ++ []) f)))
texts_sound w place build k (x ∷ y ∷ z ∷ more) h f = absurd (cc f)

substring_sound : (w : Where) (place : Place) (os : List Operand) → AllFit w os → (substring place os).faults ≡ []
    → SoundText w (substring place os).value
substring_sound w place [] h f = absurd (cc f)
substring_sound w place (s ∷ []) h f = absurd (cc f)
substring_sound w place (s ∷ i ∷ []) h f =
    let a = (text_operand s).faults in
    let b = (number_operand i).faults in (
      text_operand_sound w s h.0 (first_empty a (b ++ []) f),
      number_operand_sound w i h.1.0 (first_empty b [] (second_empty a (b ++ []) f)),
    )
substring_sound w place (s ∷ i ∷ j ∷ []) h f =
    let a = (text_operand s).faults in
    let b = (number_operand i).faults in
    let c = (number_operand j).faults in
    let more = second_empty a (b ++ (c ++ [])) f in (
      text_operand_sound w s h.0 (first_empty a (b ++ (c ++ [])) f),
      (
        number_operand_sound w i h.1.0 (first_empty b (c ++ []) more),
        number_operand_sound w j h.1.1.0 (first_empty c [] (second_empty b (c ++ []) more)),
      ),
    )
substring_sound w place (s ∷ i ∷ j ∷ k ∷ more) h f = absurd (cc f)

-- a constant that is within is
pub within_is : (most : ℕ) (z : Option ℤ) (n : ℕ) → constant_within most z ≡ Some n → (1 ≤ n) × (n ≤ most)
within_is most None n e = absurd (cc e)
within_is most (Some (negsuc m)) n e = absurd (cc e)
within_is most (Some (pos m)) n e = by (nat_le 1 m) (nat_le m most) refl refl e where
  le : (a b : ℕ) → nat_le a b ≡ true → a ≤ b
  le a b e = grind (arith, nat_tests)

  by : (a b : Bool) → nat_le 1 m ≡ a → nat_le m most ≡ b → (if a && b then Some m else None) ≡ Some n
      → (1 ≤ n) × (n ≤ most)
  by true true f g e =
      let s = same_some m n e in
      let low = le 1 m f in
      let high = le m most g in
      (omega (arith, s, low), omega (arith, s, high))
  by true false f g e = absurd (cc e)
  by false b f g e = absurd (cc e)

divided_sound : (w : Where) (place : Place) (p : Option ℕ) (x y : Operand) → ((n : ℕ) → p ≡ Some n → IsPrecision n)
    → IsFit w x.referent → IsFit w y.referent → (divided place p x y).faults ≡ []
    → SoundNumber w (divided place p x y).value
divided_sound w place None x y p h k f = absurd (cc f)
divided_sound w place (Some n) x y p h k f =
    let a = (number_operand x).faults in
    let b = (number_operand y).faults in (
      p n refl,
      (
        number_operand_sound w x h (first_empty a (b ++ []) f),
        number_operand_sound w y k (first_empty b [] (second_empty a (b ++ []) f)),
      ),
    )

quotient_sound : (w : Where) (place : Place) (os : List Operand) → AllFit w os → (quotient place os).faults ≡ []
    → SoundNumber w (quotient place os).value
quotient_sound w place [] h f = absurd (cc f)
quotient_sound w place (x ∷ []) h f = absurd (cc f)
quotient_sound w place (x ∷ y ∷ []) h f = absurd (cc f)
quotient_sound w place (x ∷ y ∷ p ∷ []) h f =
    divided_sound w place (constant_within operator_digits p.constant) x y (within_is operator_digits p.constant) h.0
    h.1.0 f
quotient_sound w place (x ∷ y ∷ p ∷ q ∷ []) h f = by (is_zero q.constant) f where
  by : (b : Bool)
      → (if b then divided place (constant_within operator_digits p.constant) x y else bad_number place).faults ≡ []
      → SoundNumber w
      (if b then divided place (constant_within operator_digits p.constant) x y else bad_number place).value
  by true f =
      divided_sound w place (constant_within operator_digits p.constant) x y (within_is operator_digits p.constant)
      h.0 h.1.0 f
  by false f = absurd (cc f)
quotient_sound w place (x ∷ y ∷ p ∷ q ∷ r ∷ more) h f = absurd (cc f)

-- ---- arguments that aren't evaluated

not_below : (n : ℕ) → 1 ≤ n → n ≤ 0 → ⊥
not_below n h k = omega (arith, h, k)

array_sound : (w : Where) (place : Place) (build : Y.Reference → ℕ → Y.Number)
    → ((r : Y.Reference) (n : ℕ) → IsDimension w r n × SoundReference w r → SoundNumber w (build r n)) → (r : Referent)
    → (n : Option ℤ) → IsFit w r → (of_array place build r n).faults ≡ []
    → SoundNumber w (of_array place build r n).value
array_sound w place build k (Designates p) n h f =
    by (constant_within p.dimensions n) (within_is p.dimensions n) f where
      dimension : (m : ℕ) → (1 ≤ m) × (m ≤ p.dimensions) → IsDimension w p.reference m
      dimension m e = with_subscripts h.subscripted where
        with_subscripts : ((subscripts_of p.reference ≡ Y.NoNumber) × (p.dimensions ≡ h.dimensions))
            ⊎ ((R.given_in (subscripts_of p.reference) ≡ h.dimensions) × (p.dimensions ≡ 0))
            → IsDimension w p.reference m
        with_subscripts (inl s) =
            let same = s.1 in
            let high = e.1 in
            record { designates = designates h; none = s.0; low = e.0; high = omega (arith, same, high) }
        with_subscripts (inr s) =
            let none = s.1 in
            let low = e.0 in
            let high = e.1 in
            absurd (omega (arith, none, low, high))

      by : (o : Option ℕ) → ((m : ℕ) → o ≡ Some m → (1 ≤ m) × (m ≤ p.dimensions))
          → (dimension_of place build p.reference o).faults ≡ []
          → SoundNumber w (dimension_of place build p.reference o).value
      by None d f = absurd (cc f)
      by (Some m) d f = k p.reference m (dimension m (d m refl), h.sound)
array_sound w place build k (Gives v) n h f = absurd (cc f)
array_sound w place build k GivesUnknown n h f = absurd h
array_sound w place build k GivesEmptyArea n h f = absurd (cc f)
array_sound w place build k GivesNothing n h f = absurd (cc f)
array_sound w place build k NotKnown n h f = absurd h

dimension_sound : (w : Where) (place : Place) (build : Y.Reference → ℕ → Y.Number)
    → ((r : Y.Reference) (n : ℕ) → IsDimension w r n × SoundReference w r → SoundNumber w (build r n))
    → (os : List Operand) → AllFit w os → (of_dimension place build os).faults ≡ []
    → SoundNumber w (of_dimension place build os).value
dimension_sound w place build k [] h f = absurd (cc f)
dimension_sound w place build k (a ∷ []) h f = absurd (cc f)
dimension_sound w place build k (a ∷ n ∷ []) h f = array_sound w place build k a.referent n.constant h.0 f
dimension_sound w place build k (a ∷ n ∷ m ∷ more) h f = absurd (cc f)

same_variable : (r : Y.Reference) → variable_of r ≡ R.variable_of r
same_variable (Y.Referring v locator part subscripts) = refl

controlled_class : (c : Y.StorageClass) → is_controlled c ≡ true → c ≡ Y.ControlledClass
controlled_class Y.AutomaticClass e = absurd (cc e)
controlled_class Y.ParameterClass e = absurd (cc e)
controlled_class Y.StaticClass e = absurd (cc e)
controlled_class Y.BasedClass e = absurd (cc e)
controlled_class Y.ControlledClass e = refl

pub of_class : (w : Where) (class : Y.StorageClass) (p : Designated) → IsPart w p
    → (variable_of p.reference).class ≡ class → IsOfClass w class (variable_of p.reference)
of_class w class p h e = record {
  class_is = e;
  d = h.d;
  declared = subst (λ v. IsDeclared w v h.d) (sym (same_variable p.reference)) h.declared;
}

allocations_sound : (w : Where) (place : Place) (r : Referent) → IsFit w r → (allocations_of place r).faults ≡ []
    → SoundNumber w (allocations_of place r).value
allocations_sound w place (Designates p) h f =
    by p.is_whole (is_controlled (variable_of p.reference).class) refl f where
      by : (a b : Bool) → is_controlled (variable_of p.reference).class ≡ b
          → (if a && b then fine (Y.AllocationsOf (variable_of p.reference)) else bad_number place).faults ≡ []
          → SoundNumber w (if a && b then fine (Y.AllocationsOf (variable_of p.reference)) else bad_number place).value
      by true true e f = of_class w Y.ControlledClass p h (controlled_class (variable_of p.reference).class e)
      by true false e f = absurd (cc f)
      by false b e f = absurd (cc f)
allocations_sound w place (Gives v) h f = absurd (cc f)
allocations_sound w place GivesUnknown h f = absurd h
allocations_sound w place GivesEmptyArea h f = absurd (cc f)
allocations_sound w place GivesNothing h f = absurd (cc f)
allocations_sound w place NotKnown h f = absurd h

controlled_sound : (w : Where) (place : Place) (os : List Operand) → AllFit w os → (of_controlled place os).faults ≡ []
    → SoundNumber w (of_controlled place os).value
controlled_sound w place [] h f = absurd (cc f)
controlled_sound w place (x ∷ []) h f = allocations_sound w place x.referent h.0 f
controlled_sound w place (x ∷ y ∷ more) h f = absurd (cc f)

named_class : (c : Y.StorageClass) → has_name c ≡ true → HasName c
named_class Y.AutomaticClass e = tt
named_class Y.ParameterClass e = absurd (cc e)
named_class Y.StaticClass e = tt
named_class Y.BasedClass e = tt
named_class Y.ControlledClass e = absurd (cc e)

pub whole_is : (w : Where) (p : Designated) (h : IsPart w p) → p.is_whole ≡ true → IsWhole w p.reference
whole_is w p h e =
    let k = h.is_all e in
    record { designates = designates h; all = k.0; none = k.1 }

address_sound : (w : Where) (place : Place) (r : Referent) → IsFit w r → (address_of place r).faults ≡ []
    → SoundPointer w (address_of place r).value
address_sound w place (Designates p) h f =
    by p.is_whole (has_name (variable_of p.reference).class) (is_area p) refl refl refl f where
      by : (a b c : Bool) → p.is_whole ≡ a → has_name (variable_of p.reference).class ≡ b → is_area p ≡ c
          → (if a && b && not c then fine (Y.AddressOf p.reference) else bad_pointer place).faults ≡ []
          → SoundPointer w (if a && b && not c then fine (Y.AddressOf p.reference) else bad_pointer place).value
      by true true false i j k f = (
        record {
          whole = whole_is w p h i;
          named = subst (λ (v : Y.Variable). HasName v.class) (same_variable p.reference)
              (named_class (variable_of p.reference).class j);
          no_area = h.no_area i k;
        },
        h.sound,
      )
      by true true true i j k f = absurd (cc f)
      by true false c i j k f = absurd (cc f)
      by false b c i j k f = absurd (cc f)
address_sound w place (Gives v) h f = absurd (cc f)
address_sound w place GivesUnknown h f = absurd h
address_sound w place GivesEmptyArea h f = absurd (cc f)
address_sound w place GivesNothing h f = absurd (cc f)
address_sound w place NotKnown h f = absurd h

addr_sound : (w : Where) (place : Place) (os : List Operand) → AllFit w os → (address place os).faults ≡ []
    → SoundPointer w (address place os).value
addr_sound w place [] h f = absurd (cc f)
addr_sound w place (x ∷ []) h f = address_sound w place x.referent h.0 f
addr_sound w place (x ∷ y ∷ more) h f = absurd (cc f)

-- ---- locators

own_offset_converted : (w : Where) (v : Y.Value) → SoundValue w v → (o : Y.Offset) → own_offset v ≡ Some o
    → SoundOffset w o
own_offset_converted w (Y.NumberValue p n) h x e = absurd (cc e)
own_offset_converted w (Y.TextValue t) h x e = absurd (cc e)
own_offset_converted w (Y.BitValue b) h x e = absurd (cc e)
own_offset_converted w (Y.PointerValue p) h x e = absurd (cc e)
own_offset_converted w (Y.OffsetValue area o) h x e = subst (SoundOffset w) (same_some o x e) h.1
own_offset_converted w Y.NullValue h x e = subst (SoundOffset w) (same_some Y.NullOffset x e) tt

into_sound : (w : Where) (place : Place) (os : List Operand) → AllFit w os → (pointer_into place os).faults ≡ []
    → SoundPointer w (pointer_into place os).value
into_sound w place [] h f = absurd (cc f)
into_sound w place (o ∷ []) h f = absurd (cc f)
into_sound w place (o ∷ a ∷ []) h f =
    let v = operand_value o in
    let x = wanted own_offset Y.NullOffset o.place v.value in
    let y = area_operand a in
    let more = second_empty v.faults (x.faults ++ (y.faults ++ [])) f in (
      area_operand_sound w a h.1.0 (first_empty y.faults [] (second_empty x.faults (y.faults ++ []) more)),
      wanted_sound w (SoundOffset w) own_offset Y.NullOffset o.place v.value (own_offset_converted w)
          (operand_sound w o h.0 (first_empty v.faults (x.faults ++ (y.faults ++ [])) f))
          (first_empty x.faults (y.faults ++ []) more),
    )
into_sound w place (o ∷ a ∷ b ∷ more) h f = absurd (cc f)

offset_fit : (w : Where) (place : Place) (os : List Operand) → AllFit w os → (offset_into place os).faults ≡ []
    → IsFit w (offset_into place os).value
offset_fit w place [] h f = absurd (cc f)
offset_fit w place (p ∷ []) h f = absurd (cc f)
offset_fit w place (p ∷ a ∷ []) h f =
    let x = (pointer_operand p).faults in
    let y = (area_operand a).faults in (
      tt,
      (
        inl (area_operand_sound w a h.1.0 (first_empty y [] (second_empty x (y ++ []) f))),
        pointer_operand_sound w p h.0 (first_empty x (y ++ []) f),
      ),
    )
offset_fit w place (p ∷ a ∷ b ∷ more) h f = absurd (cc f)

-- ---- all

number_fit : (w : Where) (j : Judged Y.Number) → (j.faults ≡ [] → SoundNumber w j.value)
    → (number_given j).faults ≡ [] → IsFit w (number_given j).value
number_fit w j k f = (digits_fit, k (first_empty j.faults [] f))

text_fit : (w : Where) (j : Judged Y.Text) → (j.faults ≡ [] → SoundText w j.value) → (text_given j).faults ≡ []
    → IsFit w (text_given j).value
text_fit w j k f = k (first_empty j.faults [] f)

pointer_fit : (w : Where) (j : Judged Y.Pointer) → (j.faults ≡ [] → SoundPointer w j.value)
    → (pointer_given j).faults ≡ [] → IsFit w (pointer_given j).value
pointer_fit w j k f = k (first_empty j.faults [] f)

plain_fit : (w : Where) (place : Place) (r : Referent) (os : List Operand) → IsFit w r
    → IsFit w (without_arguments place r os).value
plain_fit w place r [] h = h
plain_fit w place r (x ∷ xs) h = h

pub builtin_fit : (w : Where) (place : Place) (word : Word) (os : List Operand) → is_builtin word ≡ true → AllFit w os
    → (builtin_called place word os).faults ≡ [] → IsFit w (builtin_called place word os).value
builtin_fit w place W.Abs os b h f =
    number_fit w (of_number place Y.Absolute os) (one_sound w place Y.Absolute (λ n k. k) os h) f
builtin_fit w place W.Sign os b h f =
    number_fit w (of_number place Y.SignOf os) (one_sound w place Y.SignOf (λ n k. k) os h) f
builtin_fit w place W.Max os b h f =
    number_fit w (of_many place Y.Greatest os) (many_sound w place Y.Greatest os h) f
builtin_fit w place W.Min os b h f = number_fit w (of_many place Y.Least os) (many_sound w place Y.Least os h) f
builtin_fit w place W.Mod os b h f =
    number_fit w (of_numbers place Y.Modulo os) (two_sound w place Y.Modulo (λ n m k l. (k, l)) os h) f
builtin_fit w place W.Divide os b h f = number_fit w (quotient place os) (quotient_sound w place os h) f
builtin_fit w place W.Length os b h f = number_fit w (of_text place os) (length_sound w place os h) f
builtin_fit w place W.Substr os b h f = text_fit w (substring place os) (substring_sound w place os h) f
builtin_fit w place W.Index os b h f =
    number_fit w (of_texts place Y.IndexOf os) (texts_sound w place Y.IndexOf (λ s t k l. (k, l)) os h) f
builtin_fit w place W.Verify os b h f =
    number_fit w (of_texts place Y.VerifyOf os) (texts_sound w place Y.VerifyOf (λ s t k l. (k, l)) os h) f
builtin_fit w place W.Lbound os b h f =
    number_fit w (of_dimension place Y.LowerBound os) (dimension_sound w place Y.LowerBound (λ r n k. k) os h) f
builtin_fit w place W.Hbound os b h f =
    number_fit w (of_dimension place Y.UpperBound os) (dimension_sound w place Y.UpperBound (λ r n k. k) os h) f
builtin_fit w place W.Dim os b h f =
    number_fit w (of_dimension place Y.ElementsOf os) (dimension_sound w place Y.ElementsOf (λ r n k. k) os h) f
builtin_fit w place W.Allocation os b h f = number_fit w (of_controlled place os) (controlled_sound w place os h) f
builtin_fit w place W.Addr os b h f = pointer_fit w (address place os) (addr_sound w place os h) f
builtin_fit w place W.Null os b h f = plain_fit w place (Gives Y.NullValue) os tt
builtin_fit w place W.Empty os b h f = plain_fit w place GivesEmptyArea os tt
builtin_fit w place W.Pointer os b h f = pointer_fit w (pointer_into place os) (into_sound w place os h) f
builtin_fit w place W.Offset os b h f = offset_fit w place os h f
builtin_fit w place W.Oncode os b h f =
    plain_fit w place (Gives (Y.NumberValue operator_digits Y.OnCode)) os (digits_fit, tt)
builtin_fit w place _ os b h f = absurd (cc b)
