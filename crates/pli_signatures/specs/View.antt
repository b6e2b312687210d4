-- The definitions' places of extents, kinds and leaves, as the values of this crate show them.
use Rattle.std.specs.Prelude.{map}
use Rattle.pli_typing.specs.Signatures as S
use Rattle.pli_types.specs.View.{pair_of}
use Rattle.pli_serving.specs.SignatureService as V
use Rattle.pli_signatures.specs.declared.element.ElementKind.{ElementKind}
use Rattle.pli_signatures.specs.declared.element.ElementKind.TheVariants as E
use Rattle.pli_signatures.specs.declared.element.LeafInForce.{LeafInForce}
use Rattle.pli_signatures.specs.declared.filling.ExtentPlace.{ExtentPlace}

abbrev pub place_of : ExtentPlace → V.ExtentPlace
place_of p = record { leaf = p.leaf; dimension = p.dimension }

abbrev pub kind_of : ElementKind → S.LeafKind
kind_of (E.Fixed p) = S.Fixed p
kind_of (E.Character n) = S.Character n
kind_of (E.Varying n) = S.Varying n
kind_of E.Bit = S.Bit
kind_of E.Pointer = S.Pointer
kind_of E.Offset = S.Offset
kind_of (E.Area n) = S.Area n

abbrev pub leaf_in_force : LeafInForce → S.Leaf
leaf_in_force l = record { kind = kind_of l.kind; bounds = map pair_of l.bounds.items }
