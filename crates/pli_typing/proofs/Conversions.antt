-- A pair of kinds has one conversion at most: what the function computes.
use Rattle.std.proofs.Common.{◌≡◌, ◌∙◌, sym, subst, refl, Bool, true, false, Option, Some, None}
use Rattle.std.specs.Prelude.{MatchOption}
use Rattle.pli_typing.specs.Kinds.{Kind, NumberKind, TextKind, BitKind, PointerKind, OffsetKind, NullKind, AreaKind, Conversion, Converts, NeverConverts, conversion}
use Rattle.pli_typing.specs.Kinds as K

-- ---- what converts is computed

offsets_keep : (a b : Bool) → conversion (OffsetKind a) (OffsetKind b) ≡ Some K.Keeps
offsets_keep true b = refl
offsets_keep false b = refl

pub computed : {from to : Kind} {c : Conversion} → Converts from to c → conversion from to ≡ Some c
computed (K.number_number p q) = refl
computed (K.number_text p) = refl
computed (K.text_number q) = refl
computed K.text_text = refl
computed K.text_bit = refl
computed (K.bit_number q) = refl
computed K.bit_text = refl
computed K.bit_bit = refl
computed K.pointer_pointer = refl
computed K.pointer_offset = refl
computed K.offset_pointer = refl
computed (K.offset_offset a b) = offsets_keep a b
computed K.null_pointer = refl
computed (K.null_offset b) = refl
computed K.area_area = refl

same_conversion : (c d : Conversion) → Some c ≡ Some d → c ≡ d
same_conversion c d e = cc

pub once : (from to : Kind) (c d : Conversion) → Converts from to c → Converts from to d → c ≡ d
once from to c d g h = same_conversion c d (sym (computed g) ∙ computed h)

-- ---- what is computed converts

given : {from to : Kind} {c d : Conversion} → Converts from to c → Some c ≡ Some d → Converts from to d
given {from} {to} {c} {d} h e = subst (λ x. Converts from to x) (same_conversion c d e) h

none_given : (d : Conversion) → None ≡ Some d → ⊥
none_given d e = cc

pub converts : (from to : Kind) (c : Conversion) → conversion from to ≡ Some c → Converts from to c
converts (NumberKind p) (NumberKind q) c e = given (K.number_number p q) e
converts (NumberKind p) TextKind c e = given (K.number_text p) e
converts TextKind (NumberKind q) c e = given (K.text_number q) e
converts TextKind TextKind c e = given K.text_text e
converts TextKind BitKind c e = given K.text_bit e
converts BitKind (NumberKind q) c e = given (K.bit_number q) e
converts BitKind TextKind c e = given K.bit_text e
converts BitKind BitKind c e = given K.bit_bit e
converts PointerKind PointerKind c e = given K.pointer_pointer e
converts PointerKind (OffsetKind true) c e = given K.pointer_offset e
converts (OffsetKind true) PointerKind c e = given K.offset_pointer e
converts (OffsetKind true) (OffsetKind b) c e = given (K.offset_offset true b) e
converts (OffsetKind false) (OffsetKind b) c e = given (K.offset_offset false b) e
converts NullKind PointerKind c e = given K.null_pointer e
converts NullKind (OffsetKind b) c e = given (K.null_offset b) e
converts AreaKind AreaKind c e = given K.area_area e
converts _ _ c e = absurd (none_given c e)

-- ---- for a pair whose conversion is known

at_conversion : (from to : Kind) (o : Option Conversion) → conversion from to ≡ o → MatchOption o (NeverConverts from to) (Converts from to)
at_conversion from to None e = λ c h. none_given c (sym e ∙ computed h)
at_conversion from to (Some c) e = converts from to c e

pub decides : (from to : Kind) → MatchOption (conversion from to) (NeverConverts from to) (Converts from to)
decides from to = at_conversion from to (conversion from to) refl
