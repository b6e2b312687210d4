-- An extent that breaks no rule is as the class of its variable lets it be; bounds and sizes are in range.
use Rattle.std.proofs.Common.{◌≡◌, ℕ, zero, suc, ◌<◌, ◌≤◌, ℤ, pos, negsuc, neg_ℤ, Bool, true, false, not}
use Rattle.std.proofs.Common.{◌&&◌, ◌||◌, List, [], ◌∷◌, length, Option, Some, None, refl, sym, ap, subst}
use Rattle.std.proofs.Common.{if◌then◌else◌, arith}
use Rattle.std.specs.Prelude.{is_some, nat_le, nat_lt, int_le, ⊤}
use Rattle.std.specs.List.{flat_map}
use Rattle.std.proofs.lemmas.Bool.Decides.{nat_tests}
use Rattle.pli_language.specs.declared.expr.PrefixOp.TheVariants as P
use Rattle.pli_language.specs.declared.fault.SourceKind.TheVariants.{BadExtent}
use Rattle.pli_language.specs.Refusals.{fault}
use Rattle.pli_language.specs.Tree as T
use Rattle.pli_language.specs.Declaring.{Use, Passed, Evaluated, Kept, when, constant, may_be_star}
use Rattle.pli_language.specs.Declaring.{may_be_open, refer_is_bad_extent, is_below, is_outside, extent_is_bad}
use Rattle.pli_language.specs.Declaring.{pair_is_bad, bound_faults, longest_text, is_negative}
use Rattle.pli_language.specs.Declaring.{attribute_extent_faults, place_of_expr, same_place}
use Rattle.pli_typing.specs.TypedTree as Y
use Rattle.pli_typing.specs.Variables.{WrittenExtent, evaluated, amount_of, extent_of, bounds_of, size_of_text}
use Rattle.pli_typing.specs.Variables.{size_of_area, index_where}
use Rattle.well_formed_trees.specs.Every.{Every}
use Rattle.well_formed_trees.specs.Ranges.{IsInteger}
use Rattle.well_formed_trees.specs.Spelled.{RangedExpr, RangedExtent, RangedBound, RangedAttribute, RangedIf}
use Rattle.well_formed_trees.specs.Declarations.{IsExtent, IsRising, IsNotRefer, AreStars, AreBounds, IsTextSize}
use Rattle.well_formed_trees.specs.Declarations.{IsAreaSize}
use Rattle.well_formed_trees.proofs.Lists.{first_empty, second_empty, first_false, second_false}
use Rattle.well_formed_trees.proofs.Parameters.{none_when}
use Rattle.well_formed_trees.proofs.ResultTypes.{text_size, not_below}

-- ---- constants

smaller : (n x : ℕ) → suc n < x → n < x
smaller n x h = omega (arith, h)

negated : (v : ℕ) → IsInteger (pos v) → IsInteger (neg_ℤ (pos v))
negated zero r = r
negated (suc n) r = smaller n _ r

pub constant_ranged : (e : T.Expr) → RangedExpr e → RangedIf IsInteger (constant e)
constant_ranged (T.Number v p) r = r
constant_ranged (T.Prefix P.Plus (T.Number v q) p) r = r
constant_ranged (T.Prefix P.Minus (T.Number v q) p) r = negated v r
constant_ranged _ r = tt

at_most : (a b : ℕ) → a ≤ b → nat_le a b ≡ true
at_most a b h = grind (arith, nat_tests)

not_above : (a b : ℕ) (t : Bool) → nat_lt b a ≡ t → is_below (negsuc a) (negsuc b) ≡ false → a ≤ b
not_above a b true f e = absurd (cc (f, e))
not_above a b false f e = grind (arith, nat_tests)

in_order : (low high : ℤ) → is_below high low ≡ false → int_le low high ≡ true
in_order (pos l) (pos h) e = at_most l h (not_below h l e)
in_order (pos l) (negsuc h) e = absurd (cc e)
in_order (negsuc l) (pos h) e = refl
in_order (negsuc l) (negsuc h) e = at_most h l (not_above h l (nat_lt l h) refl e)

-- ---- what a class of storage lets an extent be

abbrev pub IsUse : Use → Y.StorageClass → Type 0
IsUse Passed Y.ParameterClass = ⊤
IsUse Evaluated Y.AutomaticClass = ⊤
IsUse Evaluated Y.ControlledClass = ⊤
IsUse Kept Y.StaticClass = ⊤
IsUse Kept Y.BasedClass = ⊤
IsUse _ _ = ⊥

star_extent : (way : Use) (class : Y.StorageClass) (many : ℕ) → IsUse way class → not (may_be_star way) ≡ false
    → IsExtent class many Y.StarExtent
star_extent Passed Y.ParameterClass many u e = tt
star_extent Evaluated Y.AutomaticClass many u e = absurd (cc e)
star_extent Evaluated Y.ControlledClass many u e = absurd (cc e)
star_extent Kept Y.StaticClass many u e = absurd (cc e)
star_extent Kept Y.BasedClass many u e = absurd (cc e)
star_extent _ _ many u e = absurd u

open_extent : (way : Use) (class : Y.StorageClass) (many place : ℕ) → IsUse way class
    → not (may_be_open way) ≡ false → place < many → IsExtent class many (Y.EvaluatedExtent place)
open_extent Evaluated Y.AutomaticClass many place u e h = h
open_extent Evaluated Y.ControlledClass many place u e h = h
open_extent Passed Y.ParameterClass many place u e h = absurd (cc e)
open_extent Kept Y.StaticClass many place u e h = absurd (cc e)
open_extent Kept Y.BasedClass many place u e h = absurd (cc e)
open_extent _ _ many place u e h = absurd u

constant_extent : (class : Y.StorageClass) (many : ℕ) (z : ℤ) → IsInteger z
    → IsExtent class many (Y.ConstantExtent z)
constant_extent Y.AutomaticClass many z h = h
constant_extent Y.StaticClass many z h = h
constant_extent Y.ControlledClass many z h = h
constant_extent Y.BasedClass many z h = h
constant_extent Y.ParameterClass many z h = h

refer_extent : (class : Y.StorageClass) (many : ℕ) → class ≡ Y.BasedClass → IsExtent class many Y.ReferExtent
refer_extent class many e = subst (λ c. IsExtent c many Y.ReferExtent) (sym e) tt

-- ---- an extent

-- what is evaluated is found afterwards
abbrev pub IsPlaced : List WrittenExtent → T.Expr → Type 0
IsPlaced written e =
    constant e ≡ None
    → index_where (λ w. same_place (place_of_expr w.value) (place_of_expr e)) written < length written

abbrev pub MayRefer : Y.StorageClass → T.Extent → Type 0
MayRefer class e = is_some e.refer ≡ true → class ≡ Y.BasedClass

open_by : (a : Bool) → (a && true) ≡ false → a ≡ false
open_by a e = by a e where
  by : (a : Bool) → (a && true) ≡ false → a ≡ false
  by true e = e
  by false e = refl

pub extent_sound : (way : Use) (class : Y.StorageClass) → IsUse way class → (written : List WrittenExtent)
    (e : T.Extent) → RangedExtent e → extent_is_bad way e ≡ false → MayRefer class e → IsPlaced written e.value
    → IsExtent class (length written) (extent_of written e)
extent_sound way class u written e r f m p =
    by (is_some e.refer) (constant e.value) (constant_ranged e.value r) f m p where
      by : (b : Bool) (c : Option ℤ) → RangedIf IsInteger c
          → (if b then refer_is_bad_extent way else (not (may_be_open way) && not (is_some c))) ≡ false
          → (b ≡ true → class ≡ Y.BasedClass)
          → (c ≡ None
          → index_where (λ w. same_place (place_of_expr w.value) (place_of_expr e.value)) written < length written)
          → IsExtent class (length written) (if b then Y.ReferExtent else evaluated written e.value c)
      by true c r f m p = refer_extent class (length written) (m refl)
      by false (Some z) r f m p = constant_extent class (length written) z r
      by false None r f m p = open_extent way class (length written) _ u (open_by (not (may_be_open way)) f) (p refl)

-- ---- bounds

abbrev pub BoundRefers : Y.StorageClass → T.Bound → Type 0
BoundRefers class (T.StarBound place) = ⊤
BoundRefers class (T.Upper u) = MayRefer class u
BoundRefers class (T.Both l u) = (is_some l.refer ≡ false) × MayRefer class u

abbrev pub BoundPlaced : List WrittenExtent → T.Bound → Type 0
BoundPlaced written (T.StarBound place) = ⊤
BoundPlaced written (T.Upper u) = IsPlaced written u.value
BoundPlaced written (T.Both l u) = IsPlaced written l.value × IsPlaced written u.value

abbrev ArePair : Y.Extent → Y.Extent → Type 0
ArePair lower upper = (IsRising lower upper × IsNotRefer lower) × AreStars lower upper

pair_by : (written : List WrittenExtent) (x y : T.Expr) (c d : Option ℤ) (b : Bool) → pair_is_bad c d ≡ false
    → ArePair (evaluated written x c) (if b then Y.ReferExtent else evaluated written y d)
pair_by written x y (Some low) (Some high) false e = ((in_order low high e, tt), tt)
pair_by written x y (Some low) None false e = ((tt, tt), tt)
pair_by written x y None (Some high) false e = ((tt, tt), tt)
pair_by written x y None None false e = ((tt, tt), tt)
pair_by written x y (Some low) d true e = ((tt, tt), tt)
pair_by written x y None d true e = ((tt, tt), tt)

pub one_ranged : IsInteger (pos 1)
one_ranged = omega arith

pub bounds_sound : (way : Use) (class : Y.StorageClass) → IsUse way class → (written : List WrittenExtent)
    (b : T.Bound) → RangedBound b → bound_faults way b ≡ [] → BoundRefers class b → BoundPlaced written b
    → AreBounds class (length written) (bounds_of (extent_of written) b)
bounds_sound way class u written (T.StarBound place) r f m p =
    let star = star_extent way class (length written) u (none_when (not (may_be_star way)) (fault place BadExtent) f) in
    ((star, star), ((tt, tt), tt))
bounds_sound way class u written (T.Upper upper) r f m p =
    let bad = none_when (extent_is_bad way upper || pair_is_bad (Some (pos 1)) (constant upper.value))
    (fault (place_of_expr upper.value) BadExtent) f in
    let one = first_false (extent_is_bad way upper) _ bad in
    let pair = second_false (extent_is_bad way upper) _ bad in (
      (
        constant_extent class (length written) (pos 1) one_ranged,
        extent_sound way class u written upper r one m p,
      ),
      pair_by written upper.value upper.value (Some (pos 1)) (constant upper.value) (is_some upper.refer) pair,
    )
bounds_sound way class u written (T.Both lower upper) r f m p =
    let low = first_empty (when (extent_is_bad way lower) (fault (place_of_expr lower.value) BadExtent)) _ f in
    let high = second_empty (when (extent_is_bad way lower) (fault (place_of_expr lower.value) BadExtent)) _ f in
    let bad = none_when (extent_is_bad way upper || pair_is_bad (constant lower.value) (constant upper.value))
    (fault (place_of_expr upper.value) BadExtent) high in
    let one = first_false (extent_is_bad way upper) _ bad in
    let pair = second_false (extent_is_bad way upper) _ bad in
    let own : amount_of written lower ≡ extent_of written lower =
    ap (λ b. if b then Y.ReferExtent else amount_of written lower) (sym m.0) in (
      (
        extent_sound way class u written lower r.0
            (none_when (extent_is_bad way lower) (fault (place_of_expr lower.value) BadExtent) low)
            (λ e. absurd (never (is_some lower.refer) e m.0)) p.0,
        extent_sound way class u written upper r.1 one m.1 p.1,
      ),
      subst (λ x. ArePair x (extent_of written upper)) own
          (pair_by written lower.value upper.value (constant lower.value) (constant upper.value) (is_some upper.refer)
          pair),
    ) where
      never : (b : Bool) → b ≡ true → b ≡ false → ⊥
      never b e f = cc (e, f)

-- ---- sizes

-- VARYING and areas have no REFER
abbrev pub AttributeRefers : Y.StorageClass → (varying : Bool) → T.Attribute → Type 0
AttributeRefers class varying (T.Character (Some (T.Given e))) =
    is_some e.refer ≡ true → (class ≡ Y.BasedClass) × (varying ≡ false)
AttributeRefers class varying (T.Area (Some (T.Given e))) = is_some e.refer ≡ false
AttributeRefers class varying _ = ⊤

abbrev pub AttributePlaced : List WrittenExtent → T.Attribute → Type 0
AttributePlaced written (T.Character (Some (T.Given e))) = IsPlaced written e.value
AttributePlaced written (T.Area (Some (T.Given e))) = IsPlaced written e.value
AttributePlaced written _ = ⊤

abbrev pub IsSizeOfText : Y.StorageClass → ℕ → (varying : Bool) → Y.Extent → Type 0
IsSizeOfText class many varying size =
    IsExtent class many size × (IsTextSize size × (varying ≡ true → IsNotRefer size))

given_text : (written : List WrittenExtent) (varying : Bool) (e : T.Expr) (c : Option ℤ) (b : Bool)
    → is_outside (pos 0) longest_text c ≡ false → (b ≡ true → varying ≡ false)
    → (n : Y.Extent) → n ≡ (if b then Y.ReferExtent else evaluated written e c)
    → IsTextSize n × (varying ≡ true → IsNotRefer n)
given_text written varying e (Some z) false f m n k =
    subst (λ n. IsTextSize n × (varying ≡ true → IsNotRefer n)) (sym k) (text_size z f, λ v. tt)
given_text written varying e None false f m n k =
    subst (λ n. IsTextSize n × (varying ≡ true → IsNotRefer n)) (sym k) (tt, λ v. tt)
given_text written varying e c true f m n k =
    subst (λ n. IsTextSize n × (varying ≡ true → IsNotRefer n)) (sym k) (tt, λ v. cc (m refl, v))

pub text_sound : (way : Use) (class : Y.StorageClass) → IsUse way class → (written : List WrittenExtent)
    (varying : Bool) (all : List T.Attribute) → Every RangedAttribute all
    → flat_map (attribute_extent_faults way) all ≡ [] → Every (AttributeRefers class varying) all
    → Every (AttributePlaced written) all
    → IsSizeOfText class (length written) varying (size_of_text written all)
text_sound way class u written varying [] r f m p =
    (constant_extent class (length written) (pos 1) one_ranged, (omega arith, λ v. tt))
text_sound way class u written varying (T.Character (Some (T.Given e)) ∷ all) r f m p =
    let bad = none_when (extent_is_bad way e || is_outside (pos 0) longest_text (constant e.value))
    (fault (place_of_expr e.value) BadExtent)
    (first_empty (attribute_extent_faults way (T.Character (Some (T.Given e)))) _ f) in (
      extent_sound way class u written e r.0 (first_false (extent_is_bad way e) _ bad) (λ k. (m.0 k).0) p.0,
      given_text written varying e.value (constant e.value) (is_some e.refer)
          (second_false (extent_is_bad way e) _ bad) (λ k. (m.0 k).1) (extent_of written e) refl,
    )
text_sound way class u written varying (T.Character (Some (T.StarSize place)) ∷ all) r f m p =
    let star = star_extent way class (length written) u (none_when (not (may_be_star way)) (fault place BadExtent)
    (first_empty (attribute_extent_faults way (T.Character (Some (T.StarSize place)))) _ f)) in
    (star, (tt, λ v. tt))
text_sound way class u written varying (a ∷ all) r f m p =
    text_sound way class u written varying all r.1 (second_empty (attribute_extent_faults way a) _ f) m.1 p.1

given_area : (written : List WrittenExtent) (e : T.Expr) (c : Option ℤ) → is_negative c ≡ false
    → IsAreaSize (evaluated written e c) × IsNotRefer (evaluated written e c)
given_area written e (Some (pos n)) f = (tt, tt)
given_area written e (Some (negsuc n)) f = absurd (cc f)
given_area written e None f = (tt, tt)

pub area_sound : (way : Use) (class : Y.StorageClass) → IsUse way class → (written : List WrittenExtent)
    (varying : Bool) (all : List T.Attribute) → Every RangedAttribute all
    → flat_map (attribute_extent_faults way) all ≡ [] → Every (AttributeRefers class varying) all
    → Every (AttributePlaced written) all
    → IsExtent class (length written) (size_of_area written all)
    × (IsAreaSize (size_of_area written all) × IsNotRefer (size_of_area written all))
area_sound way class u written varying [] r f m p =
    (constant_extent class (length written) (pos 1000) (omega arith), (tt, tt))
area_sound way class u written varying (T.Area (Some (T.Given e)) ∷ all) r f m p =
    let bad = none_when (extent_is_bad way e || is_negative (constant e.value))
    (fault (place_of_expr e.value) BadExtent)
    (first_empty (attribute_extent_faults way (T.Area (Some (T.Given e)))) _ f) in
    let own : amount_of written e ≡ extent_of written e =
    ap (λ b. if b then Y.ReferExtent else amount_of written e) (sym m.0) in (
      extent_sound way class u written e r.0 (first_false (extent_is_bad way e) _ bad)
          (λ k. absurd (never (is_some e.refer) k m.0)) p.0,
      subst (λ x. IsAreaSize x × IsNotRefer x) own
          (given_area written e.value (constant e.value) (second_false (extent_is_bad way e) _ bad)),
    ) where
      never : (b : Bool) → b ≡ true → b ≡ false → ⊥
      never b e f = cc (e, f)
area_sound way class u written varying (T.Area (Some (T.StarSize place)) ∷ all) r f m p =
    let star = star_extent way class (length written) u (none_when (not (may_be_star way)) (fault place BadExtent)
    (first_empty (attribute_extent_faults way (T.Area (Some (T.StarSize place)))) _ f)) in
    (star, (tt, tt))
area_sound way class u written varying (a ∷ all) r f m p =
    area_sound way class u written varying all r.1 (second_empty (attribute_extent_faults way a) _ f) m.1 p.1
