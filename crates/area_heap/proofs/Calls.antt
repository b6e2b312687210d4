-- What a keeper's calls do with bytes, where a walk along the chain has come to its place.
use Rattle.std.proofs.Common.{Ok, ◌≡◌, ◌≢◌, ◌++◌, append_assoc, length-take, length-drop, take, drop, ℕ, ℤ, suc, ◌+◌, ◌-◌, ◌/◌, ◌<◌, ◌≤◌, List, length, Option, Some, None, Bool, true, false, refl, sym, ap, ◌∙◌, subst, arith}
use Rattle.std.specs.Prelude.{cond, ◌==◌, IsSome}
use Rattle.rv_meaning.specs.Words.{word}
use Rattle.pli_typing.specs.Signatures.{footprint}
use Rattle.area_keeper.specs.Keeper.{Kept}
use Rattle.area_keeper.specs.KeptAreas.{kept_as, kept_at, part, with_part}
use Rattle.area_keeper.specs.Chain.{word_at, with_word, with_header, capacity_in, first_link, kept_in, chain_area, last_end, room_from, allocated_in, freed_in, copied_in, placed_at, unlinked, link_from, freed_if}
use Rattle.area_heap.specs.Answers.{of_signature, kept_of, offset_or_fault, placed_or, bytes_or}
use Rattle.area_heap.specs.Places.{generations, IsReached, IsGapAt, IsFound}
use Rattle.area_heap.proofs.Walks.{le_true, le_false, eq_true, eq_false, opened, stopped, none_at, one_at, link_past, stepped, steps, room_too_much}

-- ---- what is found

kept_of_known :
    (bytes : List ℕ) (o signature : ℕ) → IsSome (chain_area bytes) →
    kept_of o signature (chain_area bytes) ≡ of_signature signature (kept_at (generations bytes) o)
kept_of_known bytes o signature s = ap (λ a. kept_of o signature a) (opened bytes s).is

pub found :
    (bytes : List ℕ) (link_at end link o signature : ℕ) → IsSome (chain_area bytes) → IsReached bytes link_at end link →
    link_at < 28 + o → (link ≢ 0 → o < link) → link ≡ o + 1 → signature ≡ word_at (o + 20) bytes →
    IsFound bytes o signature link_at
found bytes link_at end link o signature s r h l e w =
    let p : link ≡ suc o = omega (arith, e) in
    let q : IsReached bytes link_at end (suc o) = subst (λ x. IsReached bytes link_at end x) p r in
    let x : o + 20 ≡ 20 + o = omega arith in
    let t = eq_true (word_at (20 + o) bytes) signature (sym (w ∙ ap (λ a. word_at a bytes) x)) in
    let st = stepped bytes link_at end o q in
    let i : 32 + o ≤ length bytes = omega (arith, st.within, r.as_many) in
    record {
      is =
          kept_of_known bytes o signature s
          ∙ (ap (λ k. of_signature signature k) (one_at bytes link_at end o q h)
          ∙ ap (λ b. cond b (Some (kept_in o bytes)) None) t);
      before = (stopped bytes link_at end link o r h l).before;
      from = link_past bytes link_at end o q;
      front = r.behind_front;
      below = h;
      inside = i;
      small = omega (arith, r.as_many, r.bounded);
    }

pub another :
    (bytes : List ℕ) (link_at end link o signature : ℕ) → IsSome (chain_area bytes) → IsReached bytes link_at end link →
    link_at < 28 + o → (link ≢ 0 → o < link) → link ≢ o + 1 → kept_of o signature (chain_area bytes) ≡ None
another bytes link_at end link o signature s r h l n =
    let m : link ≢ suc o = λ e. n (omega (arith, e)) in
    kept_of_known bytes o signature s ∙ ap (λ k. of_signature signature k) (none_at bytes link_at end link o r h l m)

pub of_another :
    (bytes : List ℕ) (link_at end link o signature other : ℕ) → IsSome (chain_area bytes) → IsReached bytes link_at end link →
    link_at < 28 + o → link ≡ o + 1 → other ≡ word_at (o + 20) bytes → other ≢ signature → kept_of o signature (chain_area bytes) ≡ None
of_another bytes link_at end link o signature other s r h e w n =
    let p : link ≡ suc o = omega (arith, e) in
    let q : IsReached bytes link_at end (suc o) = subst (λ x. IsReached bytes link_at end x) p r in
    let x : o + 20 ≡ 20 + o = omega arith in
    let y : other ≡ word_at (20 + o) bytes = w ∙ ap (λ a. word_at a bytes) x in
    let t = eq_false (word_at (20 + o) bytes) signature (λ e. n (y ∙ e)) in
    kept_of_known bytes o signature s
    ∙ (ap (λ k. of_signature signature k) (one_at bytes link_at end o q h)
    ∙ ap (λ b. cond b (Some (kept_in o bytes)) None) t)

-- ---- placing

pub not_placed :
    (bytes : List ℕ) (size signature : ℕ) (extent : ℤ) → IsSome (chain_area bytes) →
    room_from 0 (capacity_in bytes) (footprint size) (generations bytes) ≡ None →
    allocated_in size signature extent bytes (chain_area bytes) ≡ None
not_placed bytes size signature extent s e =
    ap (λ a. allocated_in size signature extent bytes a) (opened bytes s).is
    ∙ ap (λ r. placed_at size signature extent (generations bytes) bytes r) e

pub too_much :
    (bytes : List ℕ) (size signature : ℕ) (extent : ℤ) → IsSome (chain_area bytes) → length bytes - 16 < size →
    allocated_in size signature extent bytes (chain_area bytes) ≡ None
too_much bytes size signature extent s h =
    let o = opened bytes s in
    let c = o.as_many in
    not_placed bytes size signature extent s
    (room_too_much (suc (capacity_in bytes / 16)) 0 (capacity_in bytes) (word_at first_link bytes) (footprint size) bytes (generations bytes) o.reads (omega (arith, h, c)))

pub is_placed :
    (bytes : List ℕ) (size signature : ℕ) (extent : ℤ) (link_at end link : ℕ) → IsSome (chain_area bytes) →
    IsGapAt bytes (footprint size) link_at end link →
    allocated_in size signature extent bytes (chain_area bytes)
    ≡ Some (end, with_word link_at (suc end) (with_header (kept_as end size signature extent) link bytes))
is_placed bytes size signature extent link_at end link s g =
    let st = stopped bytes link_at end link end g.reached (omega (arith, g.reached.before_end)) g.in_front in
    ap (λ a. allocated_in size signature extent bytes a) (opened bytes s).is
    ∙ (ap (λ r. placed_at size signature extent (generations bytes) bytes r) g.room
    ∙ (ap (λ x. Some (end, with_word x (suc end) (with_header (kept_as end size signature extent) (link_from end (generations bytes)) bytes))) st.before
    ∙ ap (λ x. Some (end, with_word link_at (suc end) (with_header (kept_as end size signature extent) x bytes))) st.from))

-- ---- freeing

kept_part : (signature : ℕ) (k : Option Kept) (g : Kept) → of_signature signature k ≡ Some g → (k ≡ Some g) × ((g.signature == signature) ≡ true)
kept_part signature None g e = absurd (cc e)
kept_part signature (Some h) g e = by_test (h.signature == signature) refl e
  where
    by_test : (t : Bool) → (h.signature == signature) ≡ t → cond t (Some h) None ≡ Some g → (Some h ≡ Some g) × ((g.signature == signature) ≡ true)
    by_test true t e = let f : h ≡ g = cc e in (e, subst (λ x. (x.signature == signature) ≡ true) f t)
    by_test false t e = absurd (cc e)

kept_none : (signature : ℕ) (o : ℕ) (bytes : List ℕ) (gs : List Kept) (k : Option Kept) → of_signature signature k ≡ None → freed_if o signature gs bytes k ≡ None
kept_none signature o bytes gs None e = refl
kept_none signature o bytes gs (Some h) e = by_test (h.signature == signature) e
  where
    by_test : (t : Bool) → cond t (Some h) None ≡ None → cond t (Some (unlinked o gs bytes)) None ≡ None
    by_test true e = absurd (cc e)
    by_test false e = refl

pub is_freed :
    (bytes : List ℕ) (o signature link_at next : ℕ) → IsSome (chain_area bytes) → IsFound bytes o signature link_at →
    next ≡ word_at (o + 28) bytes → freed_in o signature bytes (chain_area bytes) ≡ Some (with_word link_at next bytes)
is_freed bytes o signature link_at next s f n =
    let k = kept_part signature (kept_at (generations bytes) o) (kept_in o bytes) (sym (kept_of_known bytes o signature s) ∙ f.is) in
    let x : o + 28 ≡ 28 + o = omega arith in
    let y : next ≡ link_from (suc o) (generations bytes) = n ∙ (ap (λ a. word_at a bytes) x ∙ sym f.from) in
    ap (λ a. freed_in o signature bytes a) (opened bytes s).is
    ∙ (ap (λ g. freed_if o signature (generations bytes) bytes g) k.0
    ∙ (ap (λ b. cond b (Some (unlinked o (generations bytes) bytes)) None) k.1
    ∙ (ap (λ a. Some (with_word a (link_from (suc o) (generations bytes)) bytes)) f.before
    ∙ ap (λ a. Some (with_word link_at a bytes)) (sym y))))

pub not_freed :
    (bytes : List ℕ) (o signature : ℕ) → IsSome (chain_area bytes) → kept_of o signature (chain_area bytes) ≡ None →
    freed_in o signature bytes (chain_area bytes) ≡ None
not_freed bytes o signature s e =
    ap (λ a. freed_in o signature bytes a) (opened bytes s).is
    ∙ kept_none signature o bytes (generations bytes) (kept_at (generations bytes) o) (sym (kept_of_known bytes o signature s) ∙ e)

-- ---- copying

pub not_copied :
    (from bytes : List ℕ) → IsSome (chain_area from) → IsSome (chain_area bytes) → length bytes - 16 < last_end (generations from) →
    copied_in from bytes (chain_area from) (chain_area bytes) ≡ None
not_copied from bytes s t h =
    let o = opened bytes t in
    let c = o.as_many in
    ap (λ a. copied_in from bytes a (chain_area bytes)) (opened from s).is
    ∙ (ap (λ a. copied_in from bytes (Some (record { capacity = capacity_in from; placed = generations from })) a) o.is
    ∙ ap (λ b. cond b (Some (with_part (part first_link (4 + last_end (generations from)) from) first_link bytes)) None) (le_false (last_end (generations from)) (capacity_in bytes) (omega (arith, h, c))))

pub is_copied :
    (from bytes : List ℕ) → IsSome (chain_area from) → IsSome (chain_area bytes) → last_end (generations from) ≤ length bytes - 16 →
    copied_in from bytes (chain_area from) (chain_area bytes)
    ≡ Some (with_part (part first_link (4 + last_end (generations from)) from) first_link bytes)
is_copied from bytes s t h =
    let o = opened bytes t in
    let c = o.as_many in
    ap (λ a. copied_in from bytes a (chain_area bytes)) (opened from s).is
    ∙ (ap (λ a. copied_in from bytes (Some (record { capacity = capacity_in from; placed = generations from })) a) o.is
    ∙ ap (λ b. cond b (Some (with_part (part first_link (4 + last_end (generations from)) from) first_link bytes)) None) (le_true (last_end (generations from)) (capacity_in bytes) (omega (arith, h, c))))

pub next_inside :
    (bytes : List ℕ) (link_at end link : ℕ) → IsReached bytes link_at end link → 0 < link → 31 + link ≤ length bytes
next_inside bytes link_at end link r h =
    let s = steps bytes link_at end link r h in
    omega (arith, h, s.within, r.as_many)

-- bytes that are copied up to a place, as a part that is written
pub part_copied :
    (from bytes : List ℕ) (end : ℕ) → 16 + end ≤ length from →
    take 12 bytes ++ take (16 + end - 12) (drop 12 from) ++ drop (16 + end) bytes
    ≡ with_part (part first_link (4 + end) from) first_link bytes
part_copied from bytes end h =
    let n : 16 + end - 12 ≡ 4 + end = omega arith in
    let l : length (take (4 + end) (drop 12 from)) ≡ 4 + end = simp (length-take, length-drop) (omega (arith, h)) in
    let m : 16 + end ≡ 12 + length (take (4 + end) (drop 12 from)) = omega (arith, l) in
    append_assoc (take 12 bytes) (take (16 + end - 12) (drop 12 from)) (drop (16 + end) bytes)
    ∙ (ap (λ k. take 12 bytes ++ (take k (drop 12 from) ++ drop (16 + end) bytes)) n
    ∙ ap (λ k. take 12 bytes ++ (take (4 + end) (drop 12 from) ++ drop k bytes)) m)

pub placed_bytes :
    (bytes headed new : List ℕ) (size signature : ℕ) (extent : ℤ) (extent_word needed link_at end link : ℕ) → IsSome (chain_area bytes) →
    needed ≡ footprint size → IsGapAt bytes needed link_at end link → extent_word ≡ word extent →
    headed
    ≡ with_word (28 + end) link (with_word (24 + end) extent_word (with_word (20 + end) signature (with_word (16 + end) size bytes))) →
    new ≡ with_word link_at (end + 1) headed →
    new ≡ placed_or bytes (allocated_in size signature extent bytes (chain_area bytes))
placed_bytes bytes headed new size signature extent extent_word needed link_at end link s n g x w e =
    let a = is_placed bytes size signature extent link_at end link s (subst (λ x. IsGapAt bytes x link_at end link) n g) in
    let o : end + 1 ≡ suc end = omega arith in
    let h : headed ≡ with_header (kept_as end size signature extent) link bytes =
    w ∙ ap (λ v. with_word (28 + end) link (with_word (24 + end) v (with_word (20 + end) signature (with_word (16 + end) size bytes)))) x in
    e
    ∙ (ap (λ x. with_word link_at (end + 1) x) h
    ∙ (ap (λ x. with_word link_at x (with_header (kept_as end size signature extent) link bytes)) o ∙ sym (ap (placed_or bytes) a)))

pub placed_offset :
    (bytes : List ℕ) (size signature : ℕ) (extent : ℤ) (needed link_at end link : ℕ) → IsSome (chain_area bytes) →
    needed ≡ footprint size → IsGapAt bytes needed link_at end link →
    Ok end ≡ offset_or_fault (allocated_in size signature extent bytes (chain_area bytes))
placed_offset bytes size signature extent needed link_at end link s n g =
    let a = is_placed bytes size signature extent link_at end link s (subst (λ x. IsGapAt bytes x link_at end link) n g) in
    sym (ap offset_or_fault a)

pub copied_bytes :
    (from bytes new : List ℕ) (end : ℕ) → IsSome (chain_area from) → IsSome (chain_area bytes) → end ≡ last_end (generations from) →
    16 + end ≤ length from → end ≤ length bytes - 16 →
    new ≡ take 12 bytes ++ take (16 + end - 12) (drop 12 from) ++ drop (16 + end) bytes →
    new ≡ bytes_or bytes (copied_in from bytes (chain_area from) (chain_area bytes))
copied_bytes from bytes new end s t l h i e =
    let a = is_copied from bytes s t (omega (arith, l, i)) in
    e
    ∙ (part_copied from bytes end h
    ∙ (ap (λ k. with_part (part first_link (4 + k) from) first_link bytes) l ∙ sym (ap (bytes_or bytes) a)))
