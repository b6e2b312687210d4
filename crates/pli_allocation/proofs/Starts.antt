-- The bytes that are written of generations, and generations as they begin.
use Rattle.std.proofs.Common.{◌≡◌, ℕ, zero, suc, ◌+◌, ◌*◌, ◌-◌, ◌<◌, ◌≤◌, ◌^◌, ℤ, List, [], ◌∷◌, ◌++◌, length, drop, take, replicate, Option, Some, None, Result, Bool, true, false, refl, sym, ap, ap₂, subst, ◌∙◌, arith, length-append}
use Rattle.std.specs.Prelude.{◌&&◌, IfOk, is_some, slice_get, unwrap_or, if◌then◌else◌}
use Rattle.std.specs.List.{flat_map}
use Rattle.std.proofs.lemmas.List.{drop_all, take_at}
use Rattle.std.proofs.Math.Nat.{mul-le-mul_left, mul-le-mul_right}
use Rattle.pli_typing.specs.Signatures.{LeafKind, Fixed, Character, Varying, Bit, Pointer, Offset, Area, Bounds, Leaf, capped, element_count, leaf_bytes, leaf_size, leaves_size}
use Rattle.pli_meaning.specs.BasicValues.{BasicValue}
use Rattle.pli_serving.specs.Bytes.{with_bytes}
use Rattle.pli_serving.specs.Values.{all_subscripts, element_bytes, element_size, generation_bytes, leaf_data, leaves_data}
use Rattle.pli_values.specs.Runs.{fresh_leaf}
use Rattle.pli_values.specs.Sizes.{written_size}
use Rattle.pli_values.proofs.Elements.{length_element}
use Rattle.pli_values.proofs.Fresh.{written_within}
use Rattle.pli_values.proofs.LeafData.{length_leaf}
use Rattle.area_keeper.specs.Keeper.{Keeper}
use Rattle.pli_meaning.specs.Contents.{Generation, Shape, fresh, leaves_with}
use Rattle.pli_serving.specs.AreaServices.{begun, begun_of, begun_with, extent_of, with_member}
use Rattle.pli_serving.specs.Finding.{Call}
use Rattle.pli_serving.specs.InitialValues.{initial_values}
use Rattle.pli_serving.specs.Templates.{shape_at}
use Rattle.pli_storage.specs.declared.held.Held.{Held}
use Rattle.pli_storage.specs.Held.{with_held}
use Rattle.pli_values.proofs.Calls.{values_anywhere}
use Rattle.pli_values.specs.Beginnings.{generation_of, leaves_of, lists_of, shape_of}
use Rattle.pli_values.specs.Calls.{call_of, call_on}
use Rattle.pli_values.specs.View.{layout_of}
use Rattle.pli_values.specs.declared.begun.Begun.{Begun}
use Rattle.pli_values.specs.declared.layout.Layout.{Layout}
use Rattle.pli_values.specs.declared.source.Source.{Source}
use Rattle.pli_allocation.specs.Beginnings.{Begins, written_leaf, written_leaves}
use Rattle.pli_allocation.specs.declared.beginning.Beginning.{Beginning}

-- ---- how many bytes

flat_alike : (f g : List ℤ → List ℕ) (iss : List (List ℤ)) → ((is : List ℤ) → length (f is) ≡ length (g is)) → length (flat_map f iss) ≡ length (flat_map g iss)
flat_alike f g [] e = refl
flat_alike f g (is ∷ iss) e =
    let here = e is in
    let further = flat_alike f g iss e in
    simp length-append (omega (arith, here, further))

pub length_leaf_data : (l : Leaf) (values : List ℤ → BasicValue) → length (leaf_data l values) ≡ written_leaf l
length_leaf_data l values =
    flat_alike (λ is. element_bytes l.kind (values is)) _ (all_subscripts l.bounds) (λ is. length_element l.kind (values is) ∙ sym (length_element l.kind _))
    ∙ length_leaf l.kind l.bounds []

pub length_leaves : (first : ℕ) (ls : List Leaf) (values : ℕ → List ℤ → BasicValue) → length (leaves_data first ls values) ≡ written_leaves ls
length_leaves first [] values = refl
length_leaves first (l ∷ ls) values =
    let here = length_leaf_data l (values first) in
    let further = length_leaves (suc first) ls values in
    simp length-append (omega (arith, here, further))

pub written_leaf_within : (l : Leaf) → written_leaf l ≤ leaf_size l
written_leaf_within l = mul-le-mul_right (element_count l.bounds) (written_within l.kind)

pub written_leaves_within : (ls : List Leaf) → written_leaves ls ≤ leaves_size ls
written_leaves_within [] = omega arith
written_leaves_within (l ∷ ls) =
    let here = written_leaf_within l in
    let further = written_leaves_within ls in
    omega (arith, here, further)

-- ---- a product of the bytes of an element with a count that is capped

none_written : (l : Leaf) (w n : ℕ) → w ≡ written_size l.kind → element_size l.kind ≡ 0 → w * n ≡ written_leaf l
none_written l w n e z =
    let within = written_within l.kind in
    let none : w ≡ 0 = omega (arith, e, z, within) in
    let zeros : (k : ℕ) → 0 * k ≡ 0 = λ k. omega arith in
    ap (λ w. w * n) none ∙ zeros n ∙ sym (zeros (element_count l.bounds)) ∙ ap (λ w. w * element_count l.bounds) (sym none ∙ e)

pub written_bounded : (l : Leaf) (w n : ℕ) → w ≡ written_size l.kind → n ≡ capped (element_count l.bounds) → w * n ≤ leaf_size l
written_bounded l w n e c =
    let within = written_within l.kind in
    let less : w ≤ element_size l.kind = omega (arith, e, within) in
    let fewer : n ≤ element_count l.bounds = omega (arith, c) in
    let first : w * n ≤ element_size l.kind * n = mul-le-mul_right n less in
    let second : element_size l.kind * n ≤ leaf_size l = mul-le-mul_left (element_size l.kind) fewer in
    omega (arith, first, second)

count_within : (size count : ℕ) → 0 < size → count ≤ size * count
count_within (suc size) count h = let more : suc size * count ≡ count + size * count = omega arith in omega (arith, more)
count_within zero count h = absurd (omega (arith, h))

pub written_is : (l : Leaf) (w n : ℕ) → w ≡ written_size l.kind → n ≡ capped (element_count l.bounds) → leaf_size l < 2 ^ 63 → w * n ≡ written_leaf l
written_is l w n e c h = by_size (element_size l.kind) refl
  where
    by_size : (size : ℕ) → element_size l.kind ≡ size → w * n ≡ written_leaf l
    by_size zero z = none_written l w n e z
    by_size (suc size) z =
        let some : 0 < element_size l.kind = omega (arith, z) in
        let many = count_within (element_size l.kind) (element_count l.bounds) some in
        let whole : n ≡ element_count l.bounds = omega (arith, c, many, h) in
        ap (λ w. w * n) e ∙ ap (λ n. written_size l.kind * n) whole

pub written_out : (ls : List Leaf) (k bytes : ℕ) → length ls ≤ k → bytes + written_leaves (drop k ls) ≡ written_leaves ls → bytes ≡ written_leaves ls
written_out ls k bytes out e =
    let none = ap written_leaves (drop_all k ls out) in
    omega (arith, none, e)

-- ---- the data of a generation as it begins

kept_leaves : (z : ℤ) (member : Option ℕ) (g : Generation) → leaves_with (with_member z member g).extent (with_member z member g).shape ≡ leaves_with g.extent g.shape
kept_leaves z None g = refl
kept_leaves z (Some m) g = refl

pub length_begun : (b : Begun) → length (generation_bytes (generation_of b)) ≡ written_leaves (leaves_of b)
length_begun b =
    ap (λ ls. length (leaves_data 0 ls (generation_of b).values)) (kept_leaves b.extent b.member (fresh (shape_of b) b.extent (unwrap_or (lists_of b) [])))
    ∙ length_leaves 0 (leaves_of b) (generation_of b).values

pub written_whole : (b : Begun) (zeros : List ℕ) (count : ℕ) → count ≡ written_leaves (leaves_of b) → take count (with_bytes (generation_bytes (generation_of b)) 0 zeros) ≡ generation_bytes (generation_of b)
written_whole b zeros count e = take_at (generation_bytes (generation_of b)) (drop (0 + length (generation_bytes (generation_of b))) zeros) count (length_begun b ∙ sym e)

pub few_bytes : (b : Begun) (bytes : List ℕ) (size : ℕ) → bytes ≡ generation_bytes (generation_of b) → size ≡ capped (leaves_size (leaves_of b)) → size ≤ 2 ^ 22 → length bytes ≤ size
few_bytes b bytes size e s h =
    let count = ap length e ∙ length_begun b in
    let within = written_leaves_within (leaves_of b) in
    omega (arith, count, within, s, h)

-- ---- by the number of a signature

begun_is : (k : Keeper) (h : Held) (m : List ℕ) (c : Call) (signature extent initial : ℕ) (s : Shape) (z : ℤ) (source : Source) → shape_at h.signatures signature ≡ Some s → z ≡ extent_of s extent → source.layout ≡ h.layout → source.memory.now ≡ m → begun_with s z (initial_values (call_of source) s.signature.leaves initial) ≡ begun (with_held k h m c) signature extent initial
begun_is k h m c signature extent initial s z source e f l n =
    ap (λ z. begun_with s z (initial_values (call_of source) s.signature.leaves initial)) f
    ∙ ap₂ (λ (l : Layout) (m : List ℕ). begun_with s (extent_of s extent) (initial_values (call_on (layout_of l) m) s.signature.leaves initial)) l n
    ∙ ap (begun_with s (extent_of s extent)) (sym (values_anywhere (with_held k h m c) s.signature.leaves initial))
    ∙ ap (λ (o : Option Shape). begun_of (with_held k h m c) o extent initial) (sym e)

pub begins_so : {E : Type 0} (k : Keeper) (h : Held) (m : List ℕ) (c : Call) (signature extent initial : ℕ) (s : Shape) (z : ℤ) (source : Source) (r : Result (Option Beginning) E) → shape_at h.signatures signature ≡ Some s → z ≡ extent_of s extent → source.layout ≡ h.layout → source.memory.now ≡ m → IfOk r (λ o. Begins o (begun_with s z (initial_values (call_of source) s.signature.leaves initial))) → IfOk r (λ o. Begins o (begun (with_held k h m c) signature extent initial))
begins_so k h m c signature extent initial s z source r e f l n i =
    subst (λ (g : Option Generation). IfOk r (λ o. Begins o g)) (begun_is k h m c signature extent initial s z source e f l n) i
