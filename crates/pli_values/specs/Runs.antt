-- The data of a leaf, by its elements' places in row-major order.
use Rattle.std.specs.Prelude.{ℕ, zero, suc, List, [], ◌++◌}
use Rattle.pli_language.specs.Tree.{InitialItem, InitialValue}
use Rattle.pli_typing.specs.Signatures.{Bounds, LeafKind}
use Rattle.pli_meaning.specs.Contents.{element_place, initial_at, initial_of}
use Rattle.pli_serving.specs.Values.{element_bytes, leaf_data}

-- what so many places from one on give, one behind the other
abbrev pub run_of : (ℕ → List ℕ) → (first count : ℕ) → List ℕ
run_of piece first zero = []
run_of piece first (suc n) = piece first ++ run_of piece (suc first) n

-- the bytes of elements that begin with these values
abbrev pub fresh_element : LeafKind → (ℕ → InitialValue) → ℕ → List ℕ
fresh_element kind values n = element_bytes kind (initial_of kind (values n))

-- the data of a leaf with these items of INITIAL
abbrev pub fresh_leaf : LeafKind → List Bounds → List InitialItem → List ℕ
fresh_leaf kind bounds items =
    leaf_data
    (record { kind = kind; bounds = bounds })
    (λ is. initial_of kind (initial_at items (element_place bounds is)))
