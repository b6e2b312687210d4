-- The definitions' kinds, conversions and signatures, as the values of this crate show them.
use Rattle.std.specs.Prelude.{map, Option, Some, None}
use Rattle.pli_typing.specs.Kinds as K
use Rattle.pli_typing.specs.Signatures as S
use Rattle.pli_types.specs.Templates as T
use Rattle.pli_types.specs.declared.kind.Kind.{Kind}
use Rattle.pli_types.specs.declared.kind.Kind.TheVariants.{Number, Text, Bit, Pointer, Offset, Null, Area}
use Rattle.pli_types.specs.declared.kind.Conversion.{Conversion}
use Rattle.pli_types.specs.declared.kind.Conversion.TheVariants.{Keeps, NumberToText, TextToNumber, BitToNumber, BitToText, TextToBit, OffsetToPointer, PointerToOffset}
use Rattle.pli_types.specs.declared.signature.LeafKind.{LeafKind}
use Rattle.pli_types.specs.declared.signature.LeafKind.TheVariants as L
use Rattle.pli_types.specs.declared.signature.Bounds.{Bounds}
use Rattle.pli_types.specs.declared.signature.Leaf.{Leaf}
use Rattle.pli_types.specs.declared.signature.Class.{Class}
use Rattle.pli_types.specs.declared.signature.Class.TheVariants.{Plain, Controlled}
use Rattle.pli_types.specs.declared.signature.Signature.{Signature}

abbrev pub kind_of : Kind → K.Kind
kind_of (Number p) = K.NumberKind p
kind_of Text = K.TextKind
kind_of Bit = K.BitKind
kind_of Pointer = K.PointerKind
kind_of (Offset a) = K.OffsetKind a
kind_of Null = K.NullKind
kind_of Area = K.AreaKind

abbrev pub conversion_of : Conversion → K.Conversion
conversion_of Keeps = K.Keeps
conversion_of (NumberToText p) = K.NumberToText p
conversion_of TextToNumber = K.TextToNumber
conversion_of BitToNumber = K.BitToNumber
conversion_of BitToText = K.BitToText
conversion_of TextToBit = K.TextToBit
conversion_of OffsetToPointer = K.OffsetToPointer
conversion_of PointerToOffset = K.PointerToOffset

abbrev pub leaf_kind_of : LeafKind → T.OpenKind
leaf_kind_of (L.Fixed p) = T.OpenFixed p
leaf_kind_of (L.Character n) = T.OpenCharacter n
leaf_kind_of (L.Varying n) = T.OpenVarying n
leaf_kind_of L.Bit = T.OpenBit
leaf_kind_of L.Pointer = T.OpenPointer
leaf_kind_of L.Offset = T.OpenOffset
leaf_kind_of (L.Area n) = T.OpenArea n

abbrev pub pair_of : Bounds → S.Bounds
pair_of b = record { lower = b.lower; upper = b.upper }

abbrev pub bounds_of : Option Bounds → Option S.Bounds
bounds_of None = None
bounds_of (Some b) = Some (pair_of b)

abbrev pub leaf_of : Leaf → T.OpenLeaf
leaf_of l = record { kind = leaf_kind_of l.kind; bounds = map bounds_of l.bounds.items }

abbrev pub class_of : Class → S.Class
class_of Plain = S.PlainClass
class_of Controlled = S.ControlledClass

abbrev pub template_of : Signature → T.Template
template_of g = record { class = class_of g.class; refer = g.refer; leaves = map leaf_of g.leaves.items }
