-- Values of elements that were copied into a buffer.
use Rattle.std.proofs.Common.{◌≡◌, ◌⊎◌, inl, inr, ℕ, zero, suc, ◌+◌, ◌-◌, ◌*◌, ◌<◌, ◌≤◌, Bool, true, false, List, []}
use Rattle.std.proofs.Common.{◌∷◌, ◌++◌, length, take, drop, replicate, get_or, map, Some, None, refl, sym, ap, ap₂}
use Rattle.std.proofs.Common.{subst, ◌∙◌, arith, mul-le-mul_left}
use Rattle.std.specs.Prelude.{◌&&◌, ◌==◌, nat_le, unwrap_or, if◌then◌else◌}
use Rattle.std.specs.Int.{w16, cast_signed}
use Rattle.std.specs.List.{list_all, range_with_len}
use Rattle.std.proofs.lemmas.Bool.Decides.{nat_tests}
use Rattle.std.proofs.lemmas.List.{drop-append-le, drop-drop, drop-take, drop_all, drop_more, get_or-drop}
use Rattle.std.proofs.lemmas.List.{get_or-take, length-append, length-drop, length-replicate, length-take-le}
use Rattle.std.proofs.lemmas.List.{take-append-le, take-take}
use Rattle.rv_meaning.specs.Memory.{load}
use Rattle.rv_meaning.specs.Words.{signed}
use Rattle.pli_typing.specs.Signatures.{Bounds, LeafKind, Fixed, Character, Varying, Bit, Pointer, Offset, Area, leaf_bytes, element_count}
use Rattle.pli_meaning.specs.BasicValues.{BasicNumber, BasicText, BasicBit, BasicPointer, BasicOffset}
use Rattle.pli_meaning.specs.Unreachable.{unreachable_name}
use Rattle.pli_serving.specs.Bytes.{bytes_at, name_of, offset_of}
use Rattle.pli_serving.specs.AggregateServices.{taken_bytes}
use Rattle.pli_serving.specs.Values.{element_size, value_at}
use Rattle.pli_aggregates.specs.Runs.{standing}
use Rattle.pli_aggregates.specs.declared.runs.Run.{Run}
use Rattle.pli_aggregates.proofs.Lists.{both, first_of_both, map_map, second_of_both}
use Rattle.pli_aggregates.proofs.Places.{by_place}
use Rattle.pli_entries.specs.Kept.{elements_in}
use Rattle.pli_parts.specs.Buffers.{AreSame, IsCopied, IsCopiedOf, IsGathered, are_short, is_in_element, longest}
use Rattle.pli_aggregates.specs.Elements.{AreWithin}
use Rattle.pli_aggregates.proofs.Running.{got_standing, length_standing}

-- ---- the same bytes are the same value

same_byte : (count a : ℕ) (m : List ℕ) (b : ℕ) (x : List ℕ) → AreSame count a m b x → (i : ℕ) → i < count → get_or m (a + i) 0 ≡ get_or x (b + i) 0
same_byte count a m b x e i h =
    sym (get_or-drop a m i 0) ∙ sym (get_or-take count (drop a m) i 0 h) ∙ ap (λ xs. get_or xs i 0) e ∙ get_or-take count (drop b x) i 0 h ∙ get_or-drop b x i 0

same_load : (n i count a : ℕ) (m : List ℕ) (b : ℕ) (x : List ℕ) → AreSame count a m b x → i + n ≤ count → load n m (a + i) ≡ load n x (b + i)
same_load zero i count a m b x e h = refl
same_load (suc n) i count a m b x e h =
    let f : suc (a + i) ≡ a + suc i = omega arith in
    let g : b + suc i ≡ suc (b + i) = omega arith in
    ap₂ (λ l r. l + 256 * r) (same_byte count a m b x e i (omega (arith, h)))
    (ap (load n m) f ∙ same_load n (suc i) count a m b x e (omega (arith, h)) ∙ ap (load n x) g)

load_first : (n count a : ℕ) (m : List ℕ) (b : ℕ) (x : List ℕ) → AreSame count a m b x → n ≤ count → load n m a ≡ load n x b
load_first n count a m b x e h =
    let f : a ≡ a + 0 = omega arith in
    let g : b + 0 ≡ b = omega arith in
    ap (load n m) f ∙ same_load n 0 count a m b x e (omega (arith, h)) ∙ ap (load n x) g

-- the bytes behind a length
behind_length : (n a : ℕ) (m : List ℕ) → drop 2 (bytes_at (2 + n) a m) ≡ bytes_at n (a + 2) m
behind_length n a m = drop-take 2 n (drop a m) ∙ ap (take n) (drop-drop 2 a m)

same_text : (n l a : ℕ) (m : List ℕ) (b : ℕ) (x : List ℕ) → AreSame (2 + n) a m b x → l ≤ n → bytes_at l (a + 2) m ≡ bytes_at l (b + 2) x
same_text n l a m b x e h =
    sym (take-take l n (drop (a + 2) m) h)
    ∙ ap (take l) (sym (behind_length n a m) ∙ ap (drop 2) e ∙ behind_length n b x)
    ∙ take-take l n (drop (b + 2) x) h

small_number : (p a : ℕ) (m : List ℕ) (b : ℕ) (x : List ℕ) → AreSame (leaf_bytes (Fixed p)) a m b x → value_at (Fixed p) a m ≡ value_at (Fixed p) b x
small_number p a m b x e = by_test (nat_le p 15) e
  where
    by_test : (t : Bool) → AreSame (if t then 2 else 4) a m b x → BasicNumber (if t then cast_signed w16 (load 2 m a) else signed (load 4 m a)) ≡ BasicNumber (if t then cast_signed w16 (load 2 x b) else signed (load 4 x b))
    by_test true e = ap (λ n. BasicNumber (cast_signed w16 n)) (load_first 2 2 a m b x e (omega arith))
    by_test false e = ap (λ n. BasicNumber (signed n)) (load_first 4 4 a m b x e (omega arith))

no_longer : (n m : ℕ) → nat_le n m ≡ true → n ≤ m
no_longer n m e = grind (arith, nat_tests)

pub same_value : (kind : LeafKind) (a : ℕ) (m : List ℕ) (b : ℕ) (x : List ℕ) → AreSame (leaf_bytes kind) a m b x → is_in_element kind m a ≡ true → value_at kind a m ≡ value_at kind b x
same_value (Fixed p) a m b x e h = small_number p a m b x e
same_value (Character n) a m b x e h = ap BasicText e
same_value (Varying n) a m b x e h =
    let l = load_first 2 (2 + n) a m b x e (omega arith) in
    ap BasicText (same_text n (load 2 m a) a m b x e (no_longer (load 2 m a) n h) ∙ ap (λ k. bytes_at k (b + 2) x) l)
same_value Bit a m b x e h = ap (λ n. BasicBit (n == 1)) (load_first 1 1 a m b x e (omega arith))
same_value Pointer a m b x e h =
    ap₂ (λ k o. BasicPointer (unwrap_or (name_of k o (load 8 m (a + 8))) unreachable_name)) (load_first 4 16 a m b x e (omega arith)) (same_load 4 4 16 a m b x e (omega arith))
    ∙ ap (λ s. BasicPointer (unwrap_or (name_of (load 4 x b) (load 4 x (b + 4)) s) unreachable_name)) (same_load 8 8 16 a m b x e (omega arith))
same_value Offset a m b x e h = ap (λ n. BasicOffset (offset_of n)) (load_first 4 4 a m b x e (omega arith))
same_value (Area n) a m b x e h = refl

-- ---- bytes that were copied

pub copied_same : (bytes size at n p : ℕ) (m buffer zeros : List ℕ) → p < n
    → buffer ≡ bytes_at (size * (n - 1) + bytes) at m ++ zeros → at + (size * (n - 1) + bytes) ≤ length m
    → AreSame bytes (at + size * p) m (size * p) buffer
copied_same bytes size at n p m buffer zeros h e w =
    let whole = size * (n - 1) + bytes in
    let rest = whole - size * p in
    let low : size * p ≤ size * (n - 1) = mul-le-mul_left size (omega (arith, h)) in
    let parts : whole ≡ size * p + rest = omega (arith, low) in
    let enough : bytes ≤ rest = omega (arith, low) in
    let front = bytes_at whole at m in
    let left = length-drop at m in
    let long : length front ≡ whole = length-take-le whole (drop at m) (omega (arith, left, w)) in
    let behind : drop (size * p) front ≡ take rest (drop (at + size * p) m) =
    ap (λ k. drop (size * p) (take k (drop at m))) parts ∙ drop-take (size * p) rest (drop at m)
    ∙ ap (take rest) (drop-drop (size * p) at m) in
    let some : bytes ≤ length (drop (size * p) front) = omega (arith, length-drop (size * p) front, long, low) in
    sym
    (ap (bytes_at bytes (size * p)) e
    ∙ ap (take bytes) (drop-append-le (size * p) front zeros (omega (arith, long, low)))
    ∙ take-append-le bytes (drop (size * p) front) zeros some
    ∙ ap (take bytes) behind
    ∙ take-take bytes rest (drop (at + size * p) m) enough)

pub copied_length : (bytes size at n zeros : ℕ) (m buffer : List ℕ) → 0 < n → bytes ≤ size → zeros ≡ size - bytes
    → buffer ≡ bytes_at (size * (n - 1) + bytes) at m ++ replicate zeros 0 → at + (size * (n - 1) + bytes) ≤ length m
    → length buffer ≡ size * n
copied_length bytes size at n zeros m buffer some low z e w =
    let whole = size * (n - 1) + bytes in
    let left = length-drop at m in
    let long : length (bytes_at whole at m) ≡ whole = length-take-le whole (drop at m) (omega (arith, left, w)) in
    let behind : length (replicate {A = ℕ} zeros 0) ≡ zeros = length-replicate {A = ℕ} zeros 0 in
    let both : length buffer ≡ length (bytes_at whole at m) + length (replicate zeros 0) =
    ap length e ∙ length-append (bytes_at whole at m) (replicate zeros 0) in
    let last : size * (n - 1) + size ≡ size * n = more n some in
    omega (arith, both, long, behind, z, low, last)
  where
    more : (n : ℕ) → 0 < n → size * (n - 1) + size ≡ size * n
    more zero h = absurd (omega (arith, h))
    more (suc k) h = let e : suc k - 1 ≡ k = omega arith in let f : size * suc k ≡ size * k + size =
        omega arith in ap (λ j. size * j + size) e ∙ sym f

-- ---- values by the places of a buffer

values_from : (kind : LeafKind) (m buffer : List ℕ) (r : Run) (n first count : ℕ) → IsCopiedOf kind m r n buffer
    → first + count ≤ n → list_all (is_in_element kind m) (map (λ k. r.at + r.step * k) (range_with_len first count))
    ≡ true
    → map (λ k. taken_bytes kind (value_at kind (element_size kind * k) buffer)) (range_with_len first count)
    ≡ map (λ k. taken_bytes kind (value_at kind (r.at + r.step * k) m)) (range_with_len first count)
values_from kind m buffer r n first zero same h fit = refl
values_from kind m buffer r n first (suc count) same h fit =
    let here = r.at + r.step * first in
    let more = map (λ k. r.at + r.step * k) (range_with_len (first + 1) count) in
    ap₂ (λ v vs. v ∷ vs)
    (ap (taken_bytes kind)
    (sym (same_value kind here m (element_size kind * first) buffer (same first (omega (arith, h)))
    (first_of_both (is_in_element kind m here) (list_all (is_in_element kind m) more) fit))))
    (values_from kind m buffer r n (first + 1) count same (omega (arith, h))
    (second_of_both (is_in_element kind m here) (list_all (is_in_element kind m) more) fit))

pub gathered_elements : (kind : LeafKind) (bounds : List Bounds) (m buffer : List ℕ) (r : Run)
    → IsGathered kind m r (element_count bounds) buffer
    → elements_in kind bounds buffer
    ≡ map (λ a. taken_bytes kind (value_at kind a m)) (standing r.at r.step (element_count bounds))
gathered_elements kind bounds m buffer r g =
    let n = element_count bounds in
    by_place (λ k. taken_bytes kind (value_at kind (element_size kind * k) buffer)) bounds
    ∙ values_from kind m buffer r n 0 n g.same (omega arith) g.fit
    ∙ sym (map_map (λ a. taken_bytes kind (value_at kind a m)) (λ k. r.at + r.step * k) (range_with_len 0 n))

-- ---- texts that are all in their elements

all_true : (kind : LeafKind) (m as' : List ℕ) → ((a : ℕ) → is_in_element kind m a ≡ true)
    → list_all (is_in_element kind m) as' ≡ true
all_true kind m [] h = refl
all_true kind m (a ∷ as') h = both (is_in_element kind m a) (list_all (is_in_element kind m) as') (h a)
    (all_true kind m as' h)

pub all_in : (kind : LeafKind) (m as' : List ℕ) → None ≡ longest kind → list_all (is_in_element kind m) as' ≡ true
all_in (Fixed p) m as' h = all_true (Fixed p) m as' (λ a. refl)
all_in (Character n) m as' h = all_true (Character n) m as' (λ a. refl)
all_in (Varying n) m as' h = absurd (cc h)
all_in Bit m as' h = all_true Bit m as' (λ a. refl)
all_in Pointer m as' h = all_true Pointer m as' (λ a. refl)
all_in Offset m as' h = all_true Offset m as' (λ a. refl)
all_in (Area n) m as' h = all_true (Area n) m as' (λ a. refl)

pub is_varying : (kind : LeafKind) (n : ℕ) → Some n ≡ longest kind → kind ≡ Varying n
is_varying (Fixed p) n h = absurd (cc h)
is_varying (Character k) n h = absurd (cc h)
is_varying (Varying k) n h = let e : n ≡ k = cc h in ap Varying (sym e)
is_varying Bit n h = absurd (cc h)
is_varying Pointer n h = absurd (cc h)
is_varying Offset n h = absurd (cc h)
is_varying (Area k) n h = absurd (cc h)

within_less : (bytes fewer end : ℕ) (as' : List ℕ) → fewer ≤ bytes → AreWithin bytes end as' → AreWithin fewer end as'
within_less bytes fewer end [] h w = tt
within_less bytes fewer end (a ∷ as') h w = let first =
    w.0 in (omega (arith, h, first), within_less bytes fewer end as' h w.1)

pub lengths_within : (kind : LeafKind) (n end : ℕ) (as' : List ℕ) → Some n ≡ longest kind
    → AreWithin (leaf_bytes kind) end as' → AreWithin 2 end as'
lengths_within kind n end as' e w =
    within_less (leaf_bytes kind) 2 end as' (subst (λ k. 2 ≤ leaf_bytes k) (sym (is_varying kind n e)) (omega arith)) w

pub short_so : (kind : LeafKind) (n : ℕ) (m as' : List ℕ) → Some n ≡ longest kind → are_short n m as'
    ≡ list_all (is_in_element kind m) as'
short_so kind n m as' e =
    subst (λ k. are_short n m as' ≡ list_all (is_in_element k m) as') (sym (is_varying kind n e)) refl

-- ---- lengths one after the other

pub next_standing : (at step count n : ℕ) → n < count → drop n (standing at step count)
    ≡ (at + step * n) ∷ drop (n + 1) (standing at step count)
next_standing at step count n h =
    let l = length_standing at step count in
    drop_more (standing at step count) n 0 (omega (arith, l, h))
    ∙ ap (λ a. a ∷ drop (n + 1) (standing at step count)) (got_standing at step count n h)

test_true : (n m : ℕ) → n ≤ m → nat_le n m ≡ true
test_true n m h = grind (arith, nat_tests)

test_false : (n m : ℕ) → m < n → nat_le n m ≡ false
test_false n m h = grind (arith, nat_tests)

pub next_short : (most at step count n half : ℕ) (m : List ℕ) → n < count → half ≡ load 2 m (at + step * n)
    → half ≤ most → are_short most m (drop n (standing at step count))
    ≡ are_short most m (drop (n + 1) (standing at step count))
next_short most at step count n half m h e low =
    ap (are_short most m) (next_standing at step count n h)
    ∙ ap (λ t. t && are_short most m (drop (n + 1) (standing at step count)))
    (test_true (load 2 m (at + step * n)) most (subst (λ k. k ≤ most) e low))

pub not_short : (most at step count n half : ℕ) (m : List ℕ) → n < count → half ≡ load 2 m (at + step * n)
    → most < half → are_short most m (drop n (standing at step count)) ≡ false
not_short most at step count n half m h e high =
    ap (are_short most m) (next_standing at step count n h)
    ∙ ap (λ t. t && are_short most m (drop (n + 1) (standing at step count)))
    (test_false (load 2 m (at + step * n)) most (subst (λ k. most < k) e high))

pub all_short : (most at step count n : ℕ) (m : List ℕ) → count ≤ n
    → are_short most m (drop n (standing at step count)) ≡ true
all_short most at step count n m h =
    let l = length_standing at step count in
    ap (are_short most m) (drop_all n (standing at step count) (omega (arith, l, h)))

-- ---- elements without bytes

pub nothing_gathered : (kind : LeafKind) (m : List ℕ) (r : Run) (n : ℕ) → leaf_bytes kind ≡ 0 → IsGathered kind m r n []
nothing_gathered kind m r n e =
    record {
      same = λ p h. subst (λ k. AreSame k (r.at + r.step * p) m (element_size kind * p) []) (sym e) refl;
      fit = all_in kind m (standing r.at r.step n) (not_varying kind e);
    }
  where
    not_varying : (kind : LeafKind) → leaf_bytes kind ≡ 0 → None ≡ longest kind
    not_varying (Fixed p) e = refl
    not_varying (Character n) e = refl
    not_varying (Varying n) e = absurd (omega (arith, e))
    not_varying Bit e = refl
    not_varying Pointer e = refl
    not_varying Offset e = refl
    not_varying (Area n) e = refl

-- ---- as code copies them

pub copied_so : (kind : LeafKind) (m : List ℕ) (r : Run) (buffer : List ℕ) (long zeros : ℕ) → 0 < r.count
    → (r.count ≡ 1) ⊎ (r.step ≡ element_size kind) → r.at + r.step * (r.count - 1) + leaf_bytes kind ≤ length m
    → long ≡ r.step * (r.count - 1) + leaf_bytes kind → zeros ≡ element_size kind - leaf_bytes kind
    → buffer ≡ take long (drop r.at m) ++ replicate zeros 0 → IsCopied kind m r buffer
copied_so kind m r buffer long zeros some even w l z e =
    let size = element_size kind in
    let bytes = leaf_bytes kind in
    let n = r.count in
    let low : bytes ≤ size = omega arith in
    let same : r.step * (n - 1) ≡ size * (n - 1) = last even in
    let whole : buffer ≡ bytes_at (size * (n - 1) + bytes) r.at m ++ replicate zeros 0 =
    e ∙ ap (λ k. bytes_at k r.at m ++ replicate zeros 0) (l ∙ ap (λ k. k + bytes) same) in
    let inside : r.at + (size * (n - 1) + bytes) ≤ length m = omega (arith, w, same) in
    record {
      same = λ p h. subst (λ k. AreSame bytes (r.at + k) m (size * p) buffer) (sym (place even p h))
          (copied_same bytes size r.at n p m buffer (replicate zeros 0) h whole inside);
      long = copied_length bytes size r.at n zeros m buffer some low z whole inside;
    }
  where
    last : (r.count ≡ 1) ⊎ (r.step ≡ element_size kind) → r.step * (r.count - 1) ≡ element_size kind * (r.count - 1)
    last (inl one) = let none : r.count - 1 ≡ 0 = omega (arith, one) in let e : r.step * 0 ≡ element_size kind * 0 =
        omega arith in ap (λ k. r.step * k) none ∙ e ∙ ap (λ k. element_size kind * k) (sym none)
    last (inr step) = ap (λ s. s * (r.count - 1)) step

    place : (r.count ≡ 1) ⊎ (r.step ≡ element_size kind) → (p : ℕ) → p < r.count → r.step * p ≡ element_size kind * p
    place (inl one) p h = let none : p ≡ 0 = omega (arith, one, h) in let e : r.step * 0 ≡ element_size kind * 0 =
        omega arith in ap (λ k. r.step * k) none ∙ e ∙ ap (λ k. element_size kind * k) (sym none)
    place (inr step) p h = ap (λ s. s * p) step
