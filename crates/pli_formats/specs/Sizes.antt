-- Lists with the number of their nodes in place of that of their items.
use Rattle.std.specs.Prelude.{ℕ, zero, suc, ◌+◌, ◌≤◌, List, [], ◌∷◌, length, drop}
use Rattle.pli_edit.specs.declared.format.Node.{Node}
use Rattle.pli_edit.specs.declared.format.Node.TheVariants as N

-- a node and those in it, where it tells the number of these
abbrev pub size_of : Node → ℕ
size_of (N.Item times f) = 1
size_of (N.List times inner) = suc inner

-- how many nodes so many items take
abbrev pub nodes_in : (count : ℕ) → List Node → ℕ
nodes_in zero ns = 0
nodes_in (suc k) [] = 0
nodes_in (suc k) (n ∷ ns) = size_of n + nodes_in k (drop (size_of n) (n ∷ ns))

abbrev pub sized : Node → (behind : List Node) → Node
sized (N.Item times f) behind = N.Item times f
sized (N.List times count) behind = N.List times (nodes_in count behind)

abbrev pub with_sizes : List Node → List Node
with_sizes [] = []
with_sizes (n ∷ ns) = sized n (with_sizes ns) ∷ with_sizes ns

-- no list goes on behind the end
abbrev pub AreWithin : List Node → Type 0
AreWithin [] = Unit {0}
AreWithin (n ∷ ns) = (size_of n ≤ length (n ∷ ns)) × AreWithin ns
