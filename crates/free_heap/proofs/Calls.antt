-- What a keeper's calls need, and where there is no room at all.
use Rattle.std.proofs.Common.{◌≡◌, ◌⊎◌, inl, inr, ℕ, ℤ, ◌+◌, ◌-◌, ◌%◌, ◌^◌, ◌<◌, ◌≤◌, List, [], ◌∷◌, length, Option}
use Rattle.std.proofs.Common.{Some, None, Bool, true, false, refl, sym, ap, ◌∙◌, subst, arith}
use Rattle.std.specs.Prelude.{cond, ◌==◌, IsSome}
use Rattle.pli_typing.specs.Signatures.{footprint}
use Rattle.area_keeper.specs.Keeper.{Kept}
use Rattle.area_keeper.specs.KeptAreas.{kept_at, without_kept}
use Rattle.area_keeper.specs.Chain.{word_at, capacity_in}
use Rattle.area_heap.specs.Answers.{of_signature, kept_of}
use Rattle.granule_keeper.proofs.Order.{kept_where, order_freed}
use Rattle.free_keeper.proofs.Tests.{le_false}
use Rattle.free_keeper.proofs.Gaps.{Blocks, blocks_of, first_room, joined, gaps_freed, inner, inner_blocks, final_last}
use Rattle.free_keeper.proofs.Order.{last_within, last_aligned}
use Rattle.free_keeper.proofs.Links.{Before, no_room, joins_found, blocks_split, blocks_within, last_before}
use Rattle.free_keeper.proofs.Relisting.{place_before}
use Rattle.free_keeper.proofs.FreeCopies.{ends_of}
use Rattle.free_keeper.specs.FreeList.{Free, front_for, link_place, link_behind, size_of, gaps, kept_in, steps_for}
use Rattle.free_keeper.specs.FreeList.{placed_behind, allocated_with, Joined, joined_from, end_in, free_list_area}
use Rattle.free_heap.specs.Places.{as_joined, IsFound, IsRoom}
use Rattle.free_heap.proofs.Opened.{opened}

-- ---- placing

none_large : (start c n : ℕ) (fs : List Free) → Blocks start c fs → c < n → first_room n fs ≡ None
none_large start c n [] b h = refl
none_large start c n (f ∷ fs) b h =
    let w = blocks_within (f.offset + f.size) c fs b.4 in
    ap (λ t. cond t (Some f.offset) (first_room n fs)) (le_false n f.size (omega (arith, w, h)))
    ∙ none_large (f.offset + f.size) c n fs b.4 h

pub too_much :
    (bytes : List ℕ) (size signature capacity : ℕ) (extent : ℤ) → IsSome (free_list_area bytes) →
    capacity ≡ capacity_in bytes →
    capacity < size → allocated_with (front_for (capacity_in bytes)) (capacity_in bytes) size signature extent bytes ≡
    None
too_much bytes size signature capacity extent s e h =
    let x = opened bytes s in
    let c = capacity_in bytes in
    let f = front_for c in
    let none = none_large 0 c (footprint size) (gaps 0 c x.placed) (blocks_of 0 c x.placed refl x.rounded
    x.stands.ordered) (omega (arith, e, h)) in
    ap (placed_behind size signature extent f bytes) (no_room (steps_for c) f 0 (link_behind f 0 bytes) (footprint
    size) bytes (gaps 0 c x.placed) x.stands.listed none)

pub header_inside :
    (bytes : List ℕ) (front f before needed offset : ℕ) → IsRoom bytes f needed before → front ≡ f →
    offset ≡ link_behind front before bytes - 1 → front + offset + 12 ≤ length bytes
header_inside bytes front f before needed offset r e o =
    let q : offset ≡ link_behind f before bytes - 1 = o ∙ ap (λ y. link_behind y before bytes - 1) e in
    let i = r.inside in
    let w = r.wide in
    by_fit r.fits q i w
  where
    by_fit :
        (size_of f (link_behind f before bytes - 1) bytes ≡ needed) ⊎ (needed + 16 ≤ size_of f (link_behind f before
        bytes - 1) bytes) →
        offset ≡ link_behind f before bytes - 1 →
        f + (link_behind f before bytes - 1) + size_of f (link_behind f before bytes - 1) bytes ≤ length bytes →
        16 ≤ needed →
        front + offset + 12 ≤ length bytes
    by_fit (inl z) q i w = omega (arith, e, z, q, i, w)
    by_fit (inr z) q i w = omega (arith, e, z, q, i, w)

-- ---- freeing

kept_part : (signature : ℕ) (k : Option Kept) (g : Kept) → of_signature signature k ≡ Some g → k ≡ Some g
kept_part signature None g e = absurd (cc e)
kept_part signature (Some h) g e = by_test (h.signature == signature) e
  where
    by_test : (t : Bool) → cond t (Some h) None ≡ Some g → Some h ≡ Some g
    by_test true e = e
    by_test false e = absurd (cc e)

pub frees :
    (bytes : List ℕ) (o signature header size : ℕ) → IsSome (free_list_area bytes) → IsFound bytes o signature header →
    size ≡ footprint (word_at header bytes) → o + size ≤ capacity_in bytes
frees bytes o signature header size s f e =
    let x = opened bytes s in
    let g = kept_in header o bytes in
    let k = kept_part signature (kept_at x.placed o) g (sym (ap (λ a. kept_of o signature a) x.is) ∙ f.is) in
    let w = kept_where 0 (capacity_in bytes) o x.placed g x.stands.ordered k in
    let i = w.within in
    omega (arith, i, e)

pub record Writable (bytes : List ℕ) (before offset : ℕ) : Type 0 where
  pub inside : front_for (capacity_in bytes) + offset + 16 ≤ length bytes
  pub place : link_place (front_for (capacity_in bytes)) before + 4 ≤ length bytes
  pub small : offset + 1 < 2 ^ 32

pub joined_writable :
    (bytes : List ℕ) (o signature header size before offset n link : ℕ) → IsSome (free_list_area bytes) →
    IsFound bytes o signature header →
    size ≡ footprint (word_at header bytes) →
    as_joined before offset n link
    ≡ joined_from (steps_for (capacity_in bytes)) (front_for (capacity_in bytes)) o size 0 (link_behind (front_for
    (capacity_in bytes)) 0 bytes) bytes →
    Writable bytes before offset
joined_writable bytes o signature header size before offset n link s f e q =
    let x = opened bytes s in
    let c = capacity_in bytes in
    let front = front_for c in
    let g = kept_in header o bytes in
    let gs = x.placed in
    let fs = gaps 0 c gs in
    let there = kept_part signature (kept_at gs o) g (sym (ap (λ a. kept_of o signature a) x.is) ∙ f.is) in
    let j = joined_from (steps_for c) front o size 0 (link_behind front 0 bytes) bytes in
    let d = joins_found (steps_for c) front o size 0 (link_behind front 0 bytes) 0 c bytes fs refl x.stands.listed
    (blocks_of 0 c gs refl x.rounded x.stands.ordered) (omega arith) in
    let order = order_freed 0 c o gs x.stands.ordered in
    let left = gaps_freed 0 c o gs g x.stands.ordered there ∙ (ap (λ y. joined o y fs) (sym e) ∙ d.joins) in
    let blocks = subst (λ xs. Blocks 0 c xs) left (blocks_of 0 c (without_kept o gs) refl x.rounded order) in
    let b = blocks_split 0 c d.passed j.block d.rest blocks in
    let end = blocks_within (j.block.offset + j.block.size) c d.rest b.rest in
    let back = last_before front 0 j.before 0 j.block.offset bytes d.passed d.chained b.passed tt in
    let p = place_before front j.before j.block.offset (omega (arith, x.front)) back in
    let same_before : before ≡ j.before = ap (λ (y : Joined). y.before) q in
    let same_offset : offset ≡ j.block.offset = ap (λ (y : Joined). y.block.offset) q in
    let some = b.some in
    let many = x.as_many in
    let bounded = x.bounded in
    record {
      inside = omega (arith, same_offset, end, some, many);
      place = subst (λ y. link_place front y + 4 ≤ length bytes) (sym same_before) (omega (arith, p, end, some, many));
      small = omega (arith, same_offset, end, some, bounded);
    }

-- ---- copying

pub record EndFacts (from : List ℕ) : Type 0 where
  pub within : (end_in from).from ≤ capacity_in from
  pub aligned : (end_in from).from % 16 ≡ 0
  pub before : Before (end_in from).before (end_in from).from

pub end_facts : (from : List ℕ) → IsSome (free_list_area from) → EndFacts from
end_facts from s =
    let x = opened from s in
    let c = capacity_in from in
    let gs = x.placed in
    let q = ends_of from gs x.stands in
    let is = q.is in
    let within = last_within 0 c gs x.stands.ordered in
    let aligned = last_aligned 0 c gs x.stands.ordered in
    let blocks = inner_blocks 0 c gs refl x.stands.ordered in
    let fin = final_last 0 c gs x.stands.ordered in
    let P : ℕ → Type 0 = λ y. Before (end_in from).before y in
    record {
      within = omega (arith, is, within);
      aligned = omega (arith, is, aligned);
      before =
          subst P (fin ∙ (omega arith ∙ sym is)) (last_before (front_for c) 0 (end_in from).before 0 _ from (inner 0
          gs) q.chained blocks tt);
    }

pub end_place :
    (from bytes : List ℕ) (front capacity before end : ℕ) → IsSome (free_list_area from) → 12 ≤ front →
    front + capacity ≤ length bytes →
    end ≤ capacity → end ≡ (end_in from).from → before ≡ (end_in from).before →
    link_place front before + 4 ≤ length bytes
end_place from bytes front capacity before end s h n l e b =
    let x = end_facts from s in
    let back : Before before end = subst (λ y. Before y end) (sym b) (subst (λ y. Before (end_in from).before y) (sym
    e) x.before) in
    let p = place_before front before end h back in
    omega (arith, p, n, l)

pub end_rounded :
    (from : List ℕ) (capacity end : ℕ) → IsSome (free_list_area from) → capacity % 16 ≡ 0 → end ≤ capacity →
    end ≡ (end_in from).from →
    (end ≡ capacity) ⊎ (end + 8 ≤ capacity)
end_rounded from capacity end s a l e =
    let x = (end_facts from s).aligned in
    let y : end % 16 ≡ 0 = ap (λ z. z % 16) e ∙ x in
    grind (arith, a, l, y)
