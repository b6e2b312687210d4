-- A variable's members as they stand one behind another: what a node of their nest holds, and where its siblings go on.
use Rattle.std.specs.Prelude.{ℕ, suc, ◌+◌, ◌-◌, ◌≡◌, ◌<◌, ◌≤◌, List, [], ◌∷◌, length, drop, Option, Some, None, Bool, false, nat_le, slice_get}
use Rattle.pli_typing.specs.TypedTree as Y
use Rattle.pli_meaning.specs.StreamOrder.{Nest, NoNest, NestOf, deeper, behind_deeper, leaves_inside, nest_of}
use Rattle.pli_coding.specs.StaticForms.{nests_beside, part_words}
use Rattle.rv_data.specs.declared.shape.Node.{Node}
use Rattle.rv_data.specs.declared.shape.Found.{Found}

-- the leaves of a member, by what stands in it
abbrev pub node_leaves : Nest → ℕ
node_leaves NoNest = 1
node_leaves (NestOf d dimensions inside behind) = leaves_inside (NestOf d dimensions inside behind)

-- the leaf behind a member, before those in it
abbrev pub next_leaf : ℕ → Nest → ℕ
next_leaf leaf NoNest = suc leaf
next_leaf leaf (NestOf d dimensions inside behind) = leaf

-- the siblings that still stand in a structure of this depth, or all of them
abbrev pub within : Option ℕ → Nest → Nest
within None nest = nest
within (Some depth) nest = deeper depth nest

-- what stands in the first of these members
abbrev pub inside_first : List Y.Member → Nest
inside_first [] = NoNest
inside_first (m ∷ ms) = deeper m.depth (nest_of ms)

-- what stands behind the first of these members
abbrev pub behind_first : List Y.Member → Nest
behind_first [] = NoNest
behind_first (m ∷ ms) = behind_deeper m.depth (nest_of ms)

-- a node tells of the member at a place how many members and leaves are in it, and where its siblings go on
pub record IsNode (members : List Y.Member) (at : ℕ) (node : Node) : Type 0 where
  pub inside : node.inside ≡ nests_beside (inside_first (drop at members))
  pub leaves : node.leaves ≡ node_leaves (inside_first (drop at members))
  pub behind : nest_of (drop node.behind members) ≡ behind_first (drop at members)
  pub further : at < node.behind
  pub within : node.behind ≤ length members

abbrev pub found_words : List Y.Member → (given : ℕ) → Option Found → Option (List ℕ)
found_words members given None = None
found_words members given (Some f) = Some (part_words (f.dimensions - given) f.leaf (inside_first (drop f.member members)))

-- nodes of the members from the last one on
abbrev pub AreNodes : List Y.Member → List Node → Type 0
AreNodes members nodes = (k : ℕ) (x : Node) → slice_get nodes k ≡ Some x → IsNode members (length members - suc k) x

-- what stands from a place on in a structure of this depth, as a node tells it
pub record AreSiblings (members : List Y.Member) (depth start : ℕ) (node : Node) : Type 0 where
  pub inside : node.inside ≡ nests_beside (deeper depth (nest_of (drop start members)))
  pub leaves : node.leaves ≡ leaves_inside (deeper depth (nest_of (drop start members)))
  pub behind : nest_of (drop node.behind members) ≡ behind_deeper depth (nest_of (drop start members))
  pub further : start ≤ node.behind
  pub within : node.behind ≤ length members

-- as far as they are counted
pub record AreWalked (members : List Y.Member) (depth start : ℕ) (node : Node) : Type 0 where
  pub inside : node.inside + nests_beside (deeper depth (nest_of (drop node.behind members))) ≡ nests_beside (deeper depth (nest_of (drop start members)))
  pub leaves : node.leaves + leaves_inside (deeper depth (nest_of (drop node.behind members))) ≡ leaves_inside (deeper depth (nest_of (drop start members)))
  pub behind : behind_deeper depth (nest_of (drop node.behind members)) ≡ behind_deeper depth (nest_of (drop start members))
  pub further : start ≤ node.behind
  pub within : node.behind ≤ length members

-- whether a member of a depth stands behind a structure
abbrev pub is_past : Option ℕ → ℕ → Bool
is_past None depth = false
is_past (Some limit) depth = nat_le depth limit
