-- What converts in the typed tree is what the table of kinds says.
use Rattle.std.proofs.Common.{◌≡◌, ℕ, Option, Some, None, refl}
use Rattle.std.specs.Prelude.{is_some}
use Rattle.pli_typing.specs.Kinds.{Kind, NumberKind, TextKind, BitKind, PointerKind, OffsetKind, conversion}
use Rattle.pli_typing.specs.TypedTree as Y
use Rattle.pli_typing.specs.Converting.{kind_of, number_of, text_of, bit_of, pointer_of, offset_of}

-- a conversion takes just the values whose kinds convert to this one
abbrev pub Agrees : {X : Type 0} → (Y.Value → Option X) → Kind → Type 0
Agrees convert kind = (v : Y.Value) → is_some (convert v) ≡ is_some (conversion (kind_of v) kind)

pub number_agrees : (q : ℕ) → Agrees number_of (NumberKind q)
number_agrees q (Y.NumberValue p n) = refl
number_agrees q (Y.TextValue t) = refl
number_agrees q (Y.BitValue b) = refl
number_agrees q (Y.PointerValue p) = refl
number_agrees q (Y.OffsetValue (Some area) o) = refl
number_agrees q (Y.OffsetValue None o) = refl
number_agrees q Y.NullValue = refl

pub text_agrees : Agrees text_of TextKind
text_agrees (Y.NumberValue p n) = refl
text_agrees (Y.TextValue t) = refl
text_agrees (Y.BitValue b) = refl
text_agrees (Y.PointerValue p) = refl
text_agrees (Y.OffsetValue (Some area) o) = refl
text_agrees (Y.OffsetValue None o) = refl
text_agrees Y.NullValue = refl

pub bit_agrees : Agrees bit_of BitKind
bit_agrees (Y.NumberValue p n) = refl
bit_agrees (Y.TextValue t) = refl
bit_agrees (Y.BitValue b) = refl
bit_agrees (Y.PointerValue p) = refl
bit_agrees (Y.OffsetValue (Some area) o) = refl
bit_agrees (Y.OffsetValue None o) = refl
bit_agrees Y.NullValue = refl

pub pointer_agrees : Agrees pointer_of PointerKind
pointer_agrees (Y.NumberValue p n) = refl
pointer_agrees (Y.TextValue t) = refl
pointer_agrees (Y.BitValue b) = refl
pointer_agrees (Y.PointerValue p) = refl
pointer_agrees (Y.OffsetValue (Some area) o) = refl
pointer_agrees (Y.OffsetValue None o) = refl
pointer_agrees Y.NullValue = refl

pub offset_agrees : (area : Option Y.Variable) → Agrees (offset_of area) (OffsetKind (is_some area))
offset_agrees (Some a) (Y.NumberValue p n) = refl
offset_agrees (Some a) (Y.TextValue t) = refl
offset_agrees (Some a) (Y.BitValue b) = refl
offset_agrees (Some a) (Y.PointerValue p) = refl
offset_agrees (Some a) (Y.OffsetValue (Some area) o) = refl
offset_agrees (Some a) (Y.OffsetValue None o) = refl
offset_agrees (Some a) Y.NullValue = refl
offset_agrees None (Y.NumberValue p n) = refl
offset_agrees None (Y.TextValue t) = refl
offset_agrees None (Y.BitValue b) = refl
offset_agrees None (Y.PointerValue p) = refl
offset_agrees None (Y.OffsetValue (Some area) o) = refl
offset_agrees None (Y.OffsetValue None o) = refl
offset_agrees None Y.NullValue = refl
