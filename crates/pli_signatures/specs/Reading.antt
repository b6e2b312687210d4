-- What is read from the words of a table, whatever they are: words that aren't there count as 0, numbers that are too large as the
-- largest, and kinds that aren't there as areas.
use Rattle.std.specs.Prelude.{ℕ, zero, suc, ◌+◌, ◌*◌, Bool, ◌&&◌, ◌==◌, min, List, [], ◌∷◌, drop, Option, is_some, option_map, slice_index, if◌then◌else◌}
use Rattle.rv_meaning.specs.Tables.{Pair}
use Rattle.pli_typing.specs.Signatures.{Bounds}
use Rattle.pli_types.specs.Templates.{OpenKind, OpenFixed, OpenCharacter, OpenVarying, OpenArea, OpenBit, OpenPointer, OpenOffset, OpenLeaf, Template}
use Rattle.pli_serving.specs.Templates as T

abbrev pub length_read : (is_referred : Bool) → ℕ → Option ℕ
length_read r n = option_map (λ size. min size 1024) (T.size_of r n)

abbrev pub kind_read : (is_referred : Bool) → (number size : ℕ) → OpenKind
kind_read r number size =
    if number == 1 then OpenFixed (min size 31)
    else (if number == 2 then OpenCharacter (length_read r size)
    else (if number == 3 then OpenVarying (length_read r size)
    else (if number == 4 then OpenBit
    else (if number == 5 then OpenPointer
    else (if number == 6 then OpenOffset
    else OpenArea (T.size_of r size))))))

abbrev pub pair_read : List ℕ → Pair
pair_read ws = record { lower = slice_index ws 0; upper = slice_index ws 1 }

-- so many pairs of bounds
abbrev pub pairs_read : (is_referred : Bool) → ℕ → List ℕ → List (Option Bounds)
pairs_read r zero ws = []
pairs_read r (suc n) ws = T.pair_of r (pair_read ws) ∷ pairs_read r n (drop 2 ws)

abbrev pub leaf_read : (is_referred : Bool) → List ℕ → OpenLeaf
leaf_read r ws =
    record {
      kind = kind_read r (slice_index ws 0) (slice_index ws 1);
      bounds = pairs_read r (slice_index ws 2) (drop 3 ws);
    }

abbrev pub behind_leaf : List ℕ → List ℕ
behind_leaf ws = drop (3 + 2 * slice_index ws 2) ws

-- so many leaves; REFER tells an extent of the last one
abbrev pub leaves_read : (has_refer : Bool) → ℕ → List ℕ → List OpenLeaf
leaves_read r zero ws = []
leaves_read r (suc n) ws = leaf_read (r && n == 0) ws ∷ leaves_read r n (behind_leaf ws)

abbrev pub behind_leaves : ℕ → List ℕ → List ℕ
behind_leaves zero ws = ws
behind_leaves (suc n) ws = behind_leaves n (behind_leaf ws)

abbrev pub signature_read : List ℕ → Template
signature_read ws =
    record {
      class = T.class_of (slice_index ws 0);
      refer = T.refer_of (slice_index ws 2);
      leaves = leaves_read (is_some (T.refer_of (slice_index ws 2))) (slice_index ws 1) (drop 3 ws);
    }

abbrev pub behind_signature : List ℕ → List ℕ
behind_signature ws = behind_leaves (slice_index ws 1) (drop 3 ws)
