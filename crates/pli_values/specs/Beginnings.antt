-- A generation as it begins.
use Rattle.std.specs.Prelude.{ℕ, ℤ, ◌==◌, Bool, false, List, [], length, Option, Some, None, is_some, slice_get, unwrap_or}
use Rattle.pli_language.specs.Tree.{InitialItem}
use Rattle.pli_typing.specs.Signatures.{Leaf}
use Rattle.pli_types.specs.View.{template_of}
use Rattle.pli_meaning.specs.Contents.{Shape, Generation, leaves_with, fresh}
use Rattle.pli_meaning.specs.Evaluating.{leaf_at}
use Rattle.pli_serving.specs.InitialValues.{Initial}
use Rattle.pli_serving.specs.AreaServices.{with_member}
use Rattle.pli_signatures.specs.Whole.{shape_so_far, extent_told}
use Rattle.pli_values.specs.Calls.{call_of}
use Rattle.pli_values.specs.LeafLists.{lists_read}
use Rattle.pli_values.specs.declared.begun.Begun.{Begun}

abbrev pub is_same : ℕ → Option ℕ → Bool
is_same n None = false
is_same n (Some m) = n == m

abbrev pub shape_of : Begun → Shape
shape_of b = shape_so_far (template_of b.signature.now)

-- the leaves, with the REFER extent in force
abbrev pub leaves_of : Begun → List Leaf
leaves_of b = leaves_with b.extent (shape_of b)

abbrev pub leaf_of : Begun → ℕ → Leaf
leaf_of b leaf = leaf_at (shape_of b) b.extent leaf

-- the INITIAL values of all leaves, none where a list isn't right
abbrev pub lists_of : Begun → Option Initial
lists_of b = lists_read (call_of b.source) (shape_of b).signature.leaves b.lists.now

-- those of one leaf
abbrev pub items_of : Begun → ℕ → List InitialItem
items_of b leaf = unwrap_or (slice_get (unwrap_or (lists_of b) []) leaf) []

-- the extent, where REFER tells it of a leaf
abbrev pub told_of : Begun → ℕ → Option ℤ
told_of b leaf = extent_told (is_some b.signature.now.refer) leaf (length b.signature.now.leaves.items) b.extent

abbrev pub generation_of : Begun → Generation
generation_of b = with_member b.extent b.member (fresh (shape_of b) b.extent (unwrap_or (lists_of b) []))
