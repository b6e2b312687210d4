-- An array in a frame: the bytes that it takes there.
use Rattle.std.proofs.Common.{◌≡◌, ◌+◌, List, true, ap, ◌∙◌}
use Rattle.std.specs.Prelude.{if◌then◌else◌}
use Rattle.pli_typing.specs.Signatures.{Bounds, rounded_up, data_size}
use Rattle.pli_typing.specs.TypedTree as Y
use Rattle.pli_language.specs.Tree as T
use Rattle.pli_meaning.specs.Contents.{Shape}
use Rattle.pli_coding.specs.Frames.{MemoryParts, constant_size, frame_bytes, has_constant_size}
use Rattle.pli_headline.specs.ProvedSoFar.{IsScalar, array_variable}
use Rattle.pli_headline.proofs.Scalars.{by_held, by_content, element_numeric, character, varying}
use Rattle.pli_headline.proofs.ArrayMeant.{array_shape, shape_is}
use Rattle.pli_headline.proofs.ArrayElements.{size_constant}
use Rattle.pli_headline.proofs.TextElements.{text_size_constant}
use Rattle.pli_headline.proofs.ArraysMade.{array_room, data_room}

pub held_constant : (type : Y.LeafType) → IsScalar type → (bs : List Bounds) (initial : List T.InitialItem) → has_constant_size (array_variable type bs initial) ≡ true
held_constant type is bs initial =
    by_content (λ t. has_constant_size (array_variable t bs initial) ≡ true) (λ t element. size_constant t (element_numeric t element) bs initial) (λ varying most some few. text_size_constant varying most bs initial) type is

shape_room : (areas : MemoryParts) (type : Y.LeafType) → IsScalar type → (bs : List Bounds) (initial : List T.InitialItem) → 16 + constant_size areas (array_variable type bs initial) ≡ 16 + rounded_up 16 (data_size (array_shape type bs).signature)
shape_room areas type is bs initial =
    by_held (λ t. 16 + constant_size areas (array_variable t bs initial) ≡ 16 + rounded_up 16 (data_size (array_shape t bs).signature))
    (λ p. ap (λ (s : Shape). 16 + rounded_up 16 (data_size s.signature)) (shape_is (Y.FixedLeaf p) bs initial))
    (ap (λ (s : Shape). 16 + rounded_up 16 (data_size s.signature)) (shape_is Y.BitLeaf bs initial))
    (λ n few. ap (λ (s : Shape). 16 + rounded_up 16 (data_size s.signature)) (shape_is (character n) bs initial))
    (λ n few. ap (λ (s : Shape). 16 + rounded_up 16 (data_size s.signature)) (shape_is (varying n) bs initial)) type is

-- with its name
pub array_framed : (areas : MemoryParts) (type : Y.LeafType) → IsScalar type → (bs : List Bounds) (initial : List T.InitialItem) → frame_bytes areas (array_variable type bs initial) ≡ array_room type bs
array_framed areas type is bs initial =
    ap (λ q. 16 + (if q then constant_size areas (array_variable type bs initial) else 0)) (held_constant type is bs initial)
    ∙ shape_room areas type is bs initial
    ∙ data_room type is bs
