-- What nodes tell of the members of a variable.
use Rattle.std.proofs.Common.{◌≡◌, ◌⊎◌, inl, inr, ℕ, zero, suc, ◌+◌, ◌-◌, ◌<◌, ◌≤◌, true, false, List, [], ◌∷◌, ◌++◌, length, drop, Some, None, max, refl, sym, ap, ◌∙◌, subst, add-one, arith}
use Rattle.std.specs.Prelude.{nat_lt, slice_get, if◌then◌else◌}
use Rattle.std.proofs.lemmas.Bool.Decides.{nat_tests}
use Rattle.pli_typing.specs.TypedTree as Y
use Rattle.pli_meaning.specs.StreamOrder.{Nest, NoNest, NestOf, deeper, behind_deeper, leaves_inside, nest_of}
use Rattle.pli_coding.specs.StaticForms.{nests_beside}
use Rattle.rv_data.specs.declared.shape.Node.{Node}
use Rattle.rv_data.proofs.Nests.{some_leaves}
use Rattle.rv_data.specs.Shapes.{AreNodes, AreSiblings, AreWalked, IsNode, behind_first, inside_first, node_leaves}

-- ---- lists

pub from_place : {X : Type 0} (xs : List X) (i : ℕ) (x : X) → slice_get xs i ≡ Some x → drop i xs ≡ x ∷ drop (suc i) xs
from_place [] i x h = absurd (cc h)
from_place (y ∷ ys) zero x h = let e : y ≡ x = cc h in ap (λ z. z ∷ ys) e
from_place (y ∷ ys) (suc i) x h = from_place ys i x h

pub past_end : {X : Type 0} (xs : List X) (i : ℕ) → slice_get xs i ≡ None → drop i xs ≡ []
past_end [] zero h = refl
past_end [] (suc i) h = refl
past_end (y ∷ ys) zero h = absurd (cc h)
past_end (y ∷ ys) (suc i) h = past_end ys i h

pub in_list : {X : Type 0} (xs : List X) (i : ℕ) (x : X) → slice_get xs i ≡ Some x → i < length xs
in_list [] i x h = absurd (cc h)
in_list (y ∷ ys) zero x h = omega arith
in_list (y ∷ ys) (suc i) x h = let r : i < length ys = in_list ys i x h in omega arith

pushed : {X : Type 0} (xs : List X) (x y : X) (k : ℕ) → slice_get (xs ++ x ∷ []) k ≡ Some y → (slice_get xs k ≡ Some y) ⊎ ((k ≡ length xs) × (x ≡ y))
pushed [] x y zero h = inr (refl, cc h)
pushed [] x y (suc k) h = absurd (cc h)
pushed (z ∷ zs) x y zero h = inl h
pushed (z ∷ zs) x y (suc k) h = elim (pushed zs x y k h) [ inl e ↦ inl e | inr p ↦ inr (ap suc p.0, p.1) ]

-- ---- siblings

test_lt : (d e : ℕ) → d < e → nat_lt d e ≡ true
test_lt d e h = grind (arith, nat_tests)

test_le : (d e : ℕ) → e ≤ d → nat_lt d e ≡ false
test_le d e h = grind (arith, nat_tests)

-- a nest by its first member
pub first_nest : (ms : List Y.Member) (at : ℕ) (m : Y.Member) → slice_get ms at ≡ Some m → nest_of (drop at ms) ≡ NestOf m.depth m.dimensions (inside_first (drop at ms)) (behind_first (drop at ms))
first_nest ms at m h = subst (λ l. nest_of l ≡ NestOf m.depth m.dimensions (inside_first l) (behind_first l)) (sym (from_place ms at m h)) refl

pub deeper_first : (d e k : ℕ) (inner behind : Nest) → d < e → deeper d (NestOf e k inner behind) ≡ NestOf e k inner (deeper d behind)
deeper_first d e k inner behind h = ap (λ t. if t then NestOf e k inner (deeper d behind) else NoNest) (test_lt d e h)

pub deeper_none : (d e k : ℕ) (inner behind : Nest) → e ≤ d → deeper d (NestOf e k inner behind) ≡ NoNest
deeper_none d e k inner behind h = ap (λ t. if t then NestOf e k inner (deeper d behind) else NoNest) (test_le d e h)

behind_past : (d e k : ℕ) (inner behind : Nest) → d < e → behind_deeper d (NestOf e k inner behind) ≡ behind_deeper d behind
behind_past d e k inner behind h = ap (λ t. if t then behind_deeper d behind else NestOf e k inner behind) (test_lt d e h)

behind_here : (d e k : ℕ) (inner behind : Nest) → e ≤ d → behind_deeper d (NestOf e k inner behind) ≡ NestOf e k inner behind
behind_here d e k inner behind h = ap (λ t. if t then behind_deeper d behind else NestOf e k inner behind) (test_le d e h)

leaves_first : (e k : ℕ) (inner behind : Nest) → leaves_inside (NestOf e k inner behind) ≡ node_leaves inner + leaves_inside behind
leaves_first e k NoNest behind = refl
leaves_first e k (NestOf f l inside next) behind = refl

pub begun : (ms : List Y.Member) (depth start : ℕ) → start ≤ length ms → AreWalked ms depth start (record { inside = 0; leaves = 0; behind = start })
begun ms depth start h = record { inside = omega arith; leaves = omega arith; behind = refl; further = omega arith; within = h }

pub next_sibling : (ms : List Y.Member) (nodes : List Node) (depth start : ℕ) (node next new : Node) (m : Y.Member)
    → AreNodes ms nodes → slice_get ms node.behind ≡ Some m → depth < m.depth → slice_get nodes (length ms - suc node.behind) ≡ Some next
    → AreWalked ms depth start node → new.inside ≡ node.inside + 1 → new.leaves ≡ node.leaves + next.leaves → new.behind ≡ next.behind
    → AreWalked ms depth start new
next_sibling ms nodes depth start node next new m are at deep there w a b c =
    let i : node.behind < length ms = in_list ms node.behind m at in
    let k : length ms - suc (length ms - suc node.behind) ≡ node.behind = omega arith in
    let is : IsNode ms node.behind next = subst (λ j. IsNode ms j next) k (are (length ms - suc node.behind) next there) in
    let inner : Nest = inside_first (drop node.behind ms) in
    let behind : Nest = behind_first (drop node.behind ms) in
    let nest : nest_of (drop node.behind ms) ≡ NestOf m.depth m.dimensions inner behind = first_nest ms node.behind m at in
    let goes_on : nest_of (drop new.behind ms) ≡ behind = ap (λ j. nest_of (drop j ms)) c ∙ is.behind in
    let here : deeper depth (nest_of (drop node.behind ms)) ≡ NestOf m.depth m.dimensions inner (deeper depth behind) = ap (deeper depth) nest ∙ deeper_first depth m.depth m.dimensions inner behind deep in
    let counted : nests_beside (deeper depth (nest_of (drop node.behind ms))) ≡ suc (nests_beside (deeper depth (nest_of (drop new.behind ms)))) = ap nests_beside here ∙ ap (λ n. suc (nests_beside (deeper depth n))) (sym goes_on) in
    let leaved : leaves_inside (deeper depth (nest_of (drop node.behind ms))) ≡ next.leaves + leaves_inside (deeper depth (nest_of (drop new.behind ms))) =
    ap leaves_inside here ∙ leaves_first m.depth m.dimensions inner (deeper depth behind) ∙ ap (λ n. n + leaves_inside (deeper depth behind)) (sym is.leaves) ∙ ap (λ n. next.leaves + leaves_inside (deeper depth n)) (sym goes_on) in
    let more : node.inside + nests_beside (deeper depth (nest_of (drop node.behind ms))) ≡ nests_beside (deeper depth (nest_of (drop start ms))) = w.inside in
    let most : node.leaves + leaves_inside (deeper depth (nest_of (drop node.behind ms))) ≡ leaves_inside (deeper depth (nest_of (drop start ms))) = w.leaves in
    let from : start ≤ node.behind = w.further in
    let beyond : node.behind < next.behind = is.further in
    let inside : next.behind ≤ length ms = is.within in
    record {
      inside = omega arith;
      leaves = omega arith;
      behind = ap (behind_deeper depth) goes_on ∙ sym (behind_past depth m.depth m.dimensions inner behind deep) ∙ sym (ap (behind_deeper depth) nest) ∙ w.behind;
      further = omega arith;
      within = omega arith;
    }

ended : (ms : List Y.Member) (depth start : ℕ) (node : Node) → deeper depth (nest_of (drop node.behind ms)) ≡ NoNest → behind_deeper depth (nest_of (drop node.behind ms)) ≡ nest_of (drop node.behind ms)
    → AreWalked ms depth start node → AreSiblings ms depth start node
ended ms depth start node none stays w =
    let a : node.inside + 0 ≡ nests_beside (deeper depth (nest_of (drop start ms))) = ap (λ n. node.inside + nests_beside n) (sym none) ∙ w.inside in
    let b : node.leaves + 0 ≡ leaves_inside (deeper depth (nest_of (drop start ms))) = ap (λ n. node.leaves + leaves_inside n) (sym none) ∙ w.leaves in
    record { inside = omega arith; leaves = omega arith; behind = sym stays ∙ w.behind; further = w.further; within = w.within }

pub at_end : (ms : List Y.Member) (depth start : ℕ) (node : Node) → slice_get ms node.behind ≡ None → AreWalked ms depth start node → AreSiblings ms depth start node
at_end ms depth start node h w =
    let none : nest_of (drop node.behind ms) ≡ NoNest = ap nest_of (past_end ms node.behind h) in
    ended ms depth start node (ap (deeper depth) none) (ap (behind_deeper depth) none ∙ sym none) w

pub no_sibling : (ms : List Y.Member) (depth start : ℕ) (node : Node) (m : Y.Member) → slice_get ms node.behind ≡ Some m → m.depth ≤ depth → AreWalked ms depth start node → AreSiblings ms depth start node
no_sibling ms depth start node m at h w =
    let inner : Nest = inside_first (drop node.behind ms) in
    let behind : Nest = behind_first (drop node.behind ms) in
    let nest : nest_of (drop node.behind ms) ≡ NestOf m.depth m.dimensions inner behind = first_nest ms node.behind m at in
    ended ms depth start node (ap (deeper depth) nest ∙ deeper_none depth m.depth m.dimensions inner behind h) (ap (behind_deeper depth) nest ∙ behind_here depth m.depth m.dimensions inner behind h ∙ sym nest) w

-- the node that stands for a place
pub node_is : (ms : List Y.Member) (nodes : List Node) (at : ℕ) (node : Node) (m : Y.Member)
    → AreNodes ms nodes → slice_get ms at ≡ Some m → slice_get nodes (length ms - suc at) ≡ Some node → IsNode ms at node
node_is ms nodes at node m are here there =
    let i : at < length ms = in_list ms at m here in
    let k : length ms - suc (length ms - suc at) ≡ at = omega arith in
    subst (λ j. IsNode ms j node) k (are (length ms - suc at) node there)

-- the next sibling's own end lies further on
pub goes_further : (ms : List Y.Member) (nodes : List Node) (at : ℕ) (next : Node) (m : Y.Member)
    → AreNodes ms nodes → slice_get ms at ≡ Some m → slice_get nodes (length ms - suc at) ≡ Some next → (at < next.behind) × (next.behind ≤ length ms)
goes_further ms nodes at next m are here there =
    let is : IsNode ms at next = node_is ms nodes at next m are here there in
    (is.further, is.within)

-- ---- all nodes

whole_leaves : (n : Nest) → max (leaves_inside n) 1 ≡ node_leaves n
whole_leaves NoNest = refl
whole_leaves (NestOf d k inside behind) =
    let some : 1 ≤ leaves_inside (NestOf d k inside behind) = some_leaves d k inside behind in
    omega arith

pub node_told : (ms : List Y.Member) (at : ℕ) (m : Y.Member) (raw node : Node) → slice_get ms at ≡ Some m → AreSiblings ms m.depth (at + 1) raw
    → node.inside ≡ raw.inside → node.leaves ≡ max raw.leaves 1 → node.behind ≡ raw.behind → IsNode ms at node
node_told ms at m raw node h s a b c =
    let here : drop at ms ≡ m ∷ drop (at + 1) ms = from_place ms at m h ∙ ap (λ k. m ∷ drop k ms) (sym (add-one at)) in
    let from : at + 1 ≤ raw.behind = s.further in
    let to : raw.behind ≤ length ms = s.within in
    record {
      inside = a ∙ s.inside ∙ sym (ap (λ l. nests_beside (inside_first l)) here);
      leaves = b ∙ ap (λ n. max n 1) s.leaves ∙ whole_leaves (deeper m.depth (nest_of (drop (at + 1) ms))) ∙ sym (ap (λ l. node_leaves (inside_first l)) here);
      behind = ap (λ k. nest_of (drop k ms)) c ∙ s.behind ∙ sym (ap behind_first here);
      further = omega (arith, c);
      within = omega (arith, c);
    }

pub none_told : (ms : List Y.Member) → AreNodes ms []
none_told ms zero x h = absurd (cc h)
none_told ms (suc k) x h = absurd (cc h)

pub one_more_told : (ms : List Y.Member) (xs ys : List Node) (x : Node) (left : ℕ) → AreNodes ms xs → IsNode ms left x → length xs + suc left ≡ length ms → ys ≡ xs ++ x ∷ [] → AreNodes ms ys
one_more_told ms xs ys x left are is count e = λ k y h.
    elim (pushed xs x y k (sym (ap (λ zs. slice_get zs k) e) ∙ h)) [
      | inl old ↦ are k y old
      | inr new ↦
          let at : left ≡ length ms - suc k = omega (arith, new.0, count) in
          subst (λ j. IsNode ms j y) at (subst (λ z. IsNode ms left z) new.1 is)
    ]
