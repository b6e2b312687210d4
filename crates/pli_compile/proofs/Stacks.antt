-- Small frames of as many blocks as may be active fit the stacks, with all automatic data.
use Rattle.std.proofs.Common.{◌≡◌, ℕ, ◌+◌, ◌*◌, ◌≤◌, List, [], ◌∷◌, length, refl, sym, subst, arith}
use Rattle.std.specs.Prelude.{Some, None, Option}
use Rattle.std.specs.List.{sum}
use Rattle.std.proofs.lemmas.List.Sums.{sum_by-cons}
use Rattle.granule_keeper.specs.Granules.{bytes_for}
use Rattle.run_keeper.specs.RunKeeper.{run_keeper}
use Rattle.pli_typing.specs.Signatures.{footprint, data_size, rounded_up, leaf_bytes, leaves_size, element_count}
use Rattle.pli_typing.specs.Signatures.{LeafKind, Fixed, Character, Varying, Bit, Pointer, Offset, Area, Bounds, Leaf}
use Rattle.pli_meaning.specs.Contents.{Shape}
use Rattle.pli_frames.specs.Plans.{BlockFrame}
use Rattle.pli_serving.specs.Arguments.{bytes_taken as data_taken_by, capacity_of_kind, capacity_of_leaves}
use Rattle.well_formed_trees.specs.Every.{Every}
use Rattle.pli_compile.specs.Stacks.{most_fixed_bytes, most_routine_bytes, IsSmall, IsRoutineSmall, all_fixed_bytes}
use Rattle.pli_compile.specs.Stacks.{IsOneArea, HasOneArea, HaveOneArea, bytes_taken, all_taken, all_counted, StacksFit}

fixed_few :
    (frames : List BlockFrame) → Every IsSmall frames → all_fixed_bytes frames ≤ most_fixed_bytes * length frames
fixed_few [] small = omega arith
fixed_few (f ∷ fs) small =
    let here = small.0 in
    let rest = fixed_few fs small.1 in
    omega (arith, here, rest)

routines_few : (ns : List ℕ) → Every IsRoutineSmall ns → sum ns ≤ most_routine_bytes * length ns
routines_few [] small = omega arith
routines_few (n ∷ ns) small =
    let here = small.0 in
    let rest = routines_few ns small.1 in
    let all = sum_by-cons (λ x. x) n ns in
    omega (arith, here, rest, all)

-- an area with what stands in front of it
area_twice : (n : ℕ) → 16 + rounded_up 16 (bytes_for n) ≤ 2 * (16 + rounded_up 16 (rounded_up 4 n * 1 + 0))
area_twice n = omega arith

-- what takes as much as it counts for
plain_twice : (n : ℕ) → 16 + n ≤ 2 * (16 + n)
plain_twice n = omega arith

-- what data take, by the capacity of an area
abbrev taken : (capacity : Option ℕ) (size : ℕ) → ℕ
taken None size = size
taken (Some capacity) size = bytes_for capacity

data_taken : (s : Shape) (o : Option ℕ) → data_taken_by run_keeper s o ≡ taken o (data_size s.signature)
data_taken s None = refl
data_taken s (Some capacity) = refl

by_kind : (k : LeafKind) (bs : List Bounds) → IsOneArea k bs
    → 16 + rounded_up 16 (taken (capacity_of_kind k) (rounded_up 4 (leaf_bytes k) * element_count bs + 0)) ≤ 2 * (16 + rounded_up 16 (rounded_up 4 (leaf_bytes k) * element_count bs + 0))
by_kind (Area n) bs one = subst (λ cs. 16 + rounded_up 16 (bytes_for n) ≤ 2 * (16 + rounded_up 16 (rounded_up 4 n * element_count cs + 0))) (sym one) (area_twice n)
by_kind (Fixed p) bs one = plain_twice (rounded_up 16 (rounded_up 4 (leaf_bytes (Fixed p)) * element_count bs + 0))
by_kind (Character n) bs one = plain_twice (rounded_up 16 (rounded_up 4 n * element_count bs + 0))
by_kind (Varying n) bs one = plain_twice (rounded_up 16 (rounded_up 4 (2 + n) * element_count bs + 0))
by_kind Bit bs one = plain_twice (rounded_up 16 (rounded_up 4 1 * element_count bs + 0))
by_kind Pointer bs one = plain_twice (rounded_up 16 (rounded_up 4 16 * element_count bs + 0))
by_kind Offset bs one = plain_twice (rounded_up 16 (rounded_up 4 4 * element_count bs + 0))

by_leaves : (ls : List Leaf) → HasOneArea ls → 16 + rounded_up 16 (taken (capacity_of_leaves ls) (leaves_size ls)) ≤ 2 * (16 + rounded_up 16 (leaves_size ls))
by_leaves [] one = plain_twice (rounded_up 16 0)
by_leaves (l ∷ []) one = by_kind l.kind l.bounds one
by_leaves (l ∷ m ∷ ls) one = plain_twice (rounded_up 16 (leaves_size (l ∷ m ∷ ls)))

twice : (s : Shape) → HasOneArea s.signature.leaves → bytes_taken s ≤ 2 * footprint (data_size s.signature)
twice s one =
    subst (λ n. 16 + rounded_up 16 n ≤ 2 * footprint (data_size s.signature)) (sym (data_taken s (capacity_of_leaves s.signature.leaves)))
    (by_leaves s.signature.leaves one)

taken_few : (made : List Shape) → HaveOneArea made → all_taken made ≤ 2 * all_counted made
taken_few [] one = omega arith
taken_few (s ∷ ss) one =
    let here = twice s one.0 in
    let rest = taken_few ss one.1 in
    omega (arith, here, rest)

pub stacks_fit : StacksFit
stacks_fit frames routines made few called_few small opened one counted =
    let fixed = fixed_few frames small in
    let called = routines_few routines opened in
    let taken = taken_few made one in
    omega (arith, fixed, called, taken, few, called_few, counted)
