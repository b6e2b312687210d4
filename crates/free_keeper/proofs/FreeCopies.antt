-- What bytes stand for when an area is copied into another, and when data are written.
use Rattle.std.proofs.Common.{◌≡◌, ◌⊎◌, inl, inr, ℕ, zero, suc, ◌+◌, ◌-◌, ◌*◌, ◌/◌, ◌%◌, ◌<◌, ◌≤◌, List, [], ◌∷◌}
use Rattle.std.proofs.Common.{◌++◌, length, take, replicate, Some, refl, sym, ap, ◌∙◌, subst, arith, length-append}
use Rattle.std.proofs.Common.{length-take-le}
use Rattle.std.proofs.lemmas.List.{length-replicate, get_or-take, get_or_append_left, get_or-append_right}
use Rattle.std.specs.Prelude.{slice_index}
use Rattle.area_keeper.specs.Keeper.{Kept}
use Rattle.area_keeper.specs.KeptAreas.{kept_end, InOrder, kept_at, without_kept, part, with_part}
use Rattle.area_keeper.specs.KeeperLaws.{SameData, Becomes, Leaves}
use Rattle.area_keeper.specs.Chain.{word_at, with_word, capacity_in, last_end}
use Rattle.area_keeper.proofs.Agreement.{Agrees, agrees_twice, agrees_word, agrees_with_part, length_word}
use Rattle.area_keeper.proofs.Agreement.{length_with_part, length_part, byte_part, byte_inside, word_same}
use Rattle.granule_keeper.proofs.Order.{kept_where, order_freed}
use Rattle.free_keeper.proofs.Tests.{cases_lt}
use Rattle.free_keeper.proofs.BitLaws.{bits_same}
use Rattle.free_keeper.proofs.Gaps.{Blocks, blocks_of, inner, final, gaps_inner, final_last, inner_short}
use Rattle.free_keeper.proofs.Gaps.{inner_blocks, Clear, AllClear, all_clear, clear_at}
use Rattle.free_keeper.proofs.Order.{order_copied, last_within, last_aligned}
use Rattle.free_keeper.proofs.Links.{Listed, Chained, Before, last_before, Passed, chained_moved, AllBut}
use Rattle.free_keeper.proofs.Links.{blocks_clear, listed_same, end_found}
use Rattle.free_keeper.proofs.Marking.{begins, begins_behind, Marked}
use Rattle.free_keeper.proofs.Moving.{Moved, moved_within, word_moved, SameBytes, headers_same, headers_moved}
use Rattle.free_keeper.proofs.Moving.{data_same, places_same, written_apart}
use Rattle.free_keeper.proofs.Relisting.{word_there, listed_least, end_relisted}
use Rattle.free_keeper.proofs.Standing.{Front, Stands, front_same}
use Rattle.free_keeper.proofs.FreeStands.{becomes, sizes_of, bit_zero, zeros_read}
use Rattle.free_keeper.specs.Bits.{bit, bit_at}
use Rattle.free_keeper.specs.FreeList.{Free, map_place, map_for, front_for, link_behind, gap_before, gaps, steps_for}
use Rattle.free_keeper.specs.FreeList.{end_in, map_copied, with_copy, free_list}

-- ---- copying

-- the links in front of the end, read in bytes that are moved
passed_moved :
    (old new : List ℕ) (f g e l : ℕ) → Before l e → (0 < l → word_at 8 new ≡ word_at 8 old) → Moved old new f g 0 e →
    Passed old new f g l
passed_moved old new f g e zero b h m = record { head = h; words = λ x i. absurd (omega (arith, i)) }
passed_moved old new f g e (suc o) b h m =
    record { head = h; words = λ x i. word_moved old new f g 0 e x m (omega arith) (omega (arith, i, b)) }

moved_further :
    (old mid new : List ℕ) (f g a b : ℕ) → Moved old mid f g a b → Agrees mid new (g + a) (g + b) →
    Moved old new f g a b
moved_further old mid new f g a b m h =
    record { same = λ j x y. h.same (g + j) (omega arith) (omega arith) ∙ m.same j x y }

all_moved :
    (old mid new : List ℕ) (f g e start : ℕ) (fs : List Free) (gs : List Kept) → InOrder start e gs →
    Moved old mid f g 0 e → AllClear fs gs →
    ((a b : ℕ) → Clear a b fs → Agrees mid new (g + a) (g + b)) → SameBytes old new f g gs
all_moved old mid new f g e start fs [] i m c h = tt
all_moved old mid new f g e start fs (k ∷ ks) i m c h = (
  moved_further old mid new f g k.offset (kept_end k) (moved_within old mid f g 0 e k.offset (kept_end k) m (omega
      arith) i.2) (h k.offset (kept_end k) c.0),
  all_moved old mid new f g e (kept_end k) fs ks i.3 m c.1 h,
)

-- a byte of the map that is copied
map_read :
    (n k j : ℕ) (from : List ℕ) → 12 + k ≤ length from → j < n →
    slice_index (take n (part 12 k from ++ replicate n 0)) j ≡ slice_index (part 12 k from ++ replicate n 0) j
map_read n k j from h l = get_or-take n (part 12 k from ++ replicate n 0) j 0 l

copied_bits :
    (n k c : ℕ) (from mid : List ℕ) (gs : List Kept) (i : ℕ) → 12 + k ≤ length from → i < 8 * n → c ≤ 16 * (8 * k) →
    InOrder 0 c gs →
    Marked (8 * k) from gs → slice_index mid (12 + i / 8) ≡ slice_index (take n (part 12 k from ++ replicate n 0)) (i
    / 8) →
    bit_at map_place i mid ≡ begins (16 * i) gs
copied_bits n k c from mid gs i h l w order m e = by_case (cases_lt (i / 8) k)
  where
    long : length (part 12 k from) ≡ k
    long = length_part 12 k from h

    by_case : (i / 8 < k) ⊎ (k ≤ i / 8) → bit_at map_place i mid ≡ begins (16 * i) gs
    by_case (inl q) =
        let byte : slice_index mid (12 + i / 8) ≡ slice_index from (12 + i / 8) =
        e
        ∙ (map_read n k (i / 8) from h (omega (arith, l))
        ∙ (get_or_append_left (part 12 k from) (replicate n 0) 0 (i / 8) (omega (arith, q, long)) ∙ byte_part 12 k
        from (i / 8) q))
        in
        ap (bit (i % 8)) byte ∙ m.bits i (omega (arith, q))
    by_case (inr q) =
        let byte : slice_index mid (12 + i / 8) ≡ 0 =
        e
        ∙ (map_read n k (i / 8) from h (omega (arith, l))
        ∙ (get_or-append_right (part 12 k from) (replicate n 0) k (i / 8) 0 long q ∙ zeros_read n (i / 8 - k)))
        in
        ap (bit (i % 8)) byte ∙ (bit_zero (i % 8) ∙ sym (begins_behind 0 c (16 * i) gs order (omega (arith, q, w))))

-- where the last generation of an area ends, and what leads behind it
pub record Ends (from : List ℕ) (gs : List Kept) : Type 0 where
  pub is : (end_in from).from ≡ last_end gs
  pub chained : Chained (front_for (capacity_in from)) 0 from (inner 0 gs) (end_in from).before

pub ends_of : (from : List ℕ) (gs : List Kept) → Stands from (capacity_in from) gs → Ends from gs
ends_of from gs s =
    let c = capacity_in from in
    let f = front_for c in
    let fin : final 0 gs ≡ last_end gs = omega (arith, final_last 0 c gs s.ordered) in
    let within = last_within 0 c gs s.ordered in
    let listed = subst (λ xs. Listed f (link_behind f 0 from) from xs) (gaps_inner 0 c gs) s.listed in
    let d = end_found (steps_for c) f 0 (link_behind f 0 from) 0 (final 0 gs) c from (inner 0 gs) refl listed
    (inner_blocks 0 c gs refl s.ordered) (omega (arith, fin, within)) (inner_short 0 c gs s.ordered) (omega arith) in
    record { is = d.from ∙ fin; chained = d.chained }

pub copied_stands :
    (from to : List ℕ) (gs hs : List Kept) → Stands from (capacity_in from) gs → Stands to (capacity_in to) hs →
    last_end gs ≤ capacity_in to →
    Becomes free_list (capacity_in to) gs to (with_copy (end_in from) from to) × SameData free_list gs from (with_copy
    (end_in from) from to)
copied_stands from to gs hs s t h =
    let source = capacity_in from in
    let target = capacity_in to in
    let f = front_for source in
    let g = front_for target in
    let zs = sizes_of from source s.front in
    let zt = sizes_of to target t.front in
    let q = ends_of from gs s in
    let end = end_in from in
    let e = end.from in
    let l = end.before in
    let is = q.is in
    let fin : final 0 gs ≡ e = omega (arith, final_last 0 source gs s.ordered, is) in
    let within = last_within 0 source gs s.ordered in
    let aligned = last_aligned 0 source gs s.ordered in
    let blocks : Blocks 0 e (inner 0 gs) = subst (λ x. Blocks 0 x (inner 0 gs)) fin (inner_blocks 0 source gs refl
    s.ordered) in
    let before : Before l e = last_before f 0 l 0 e from (inner 0 gs) q.chained blocks tt in
    let near : InOrder 0 e gs = subst (λ x. InOrder 0 x gs) (sym is) (order_copied 0 source (last_end gs) gs s.ordered
    (omega arith) (omega arith)) in
    let order : InOrder 0 target gs = order_copied 0 source target gs s.ordered (omega arith) h in
    let first = word_at 8 from in
    let small : first ≤ source = listed_least f first 0 source from (gaps 0 source gs) s.listed (blocks_of 0 source gs
    refl s.front.rounded s.ordered) in
    let m1 = with_word 8 first to in
    let l1 : length m1 ≡ length to = length_word to 8 first in
    let n = map_for target in
    let k = map_for source in
    let map = map_copied from to in
    let inmap : 12 + k ≤ length from = omega (arith, zs.front, zs.as_many) in
    let zeros : List ℕ = replicate n 0 in
    let nz : length zeros ≡ n = length-replicate n 0 in
    let lm : length map ≡ n = length-take-le n (part 12 k from ++ zeros) (omega (
      arith,
      length-append (part 12 k from)
          zeros,
      nz,
    )) in
    let fits : 12 + length map ≤ length m1 = omega (arith, lm, l1, zt.front, zt.as_many) in
    let m2 = with_part map 12 m1 in
    let l2 : length m2 ≡ length to = length_with_part map 12 m1 fits ∙ l1 in
    let piece = part f e from in
    let lp : length piece ≡ e = length_part f e from (omega (arith, is, within, zs.as_many)) in
    let room : g + length piece ≤ length m2 = omega (arith, lp, is, h, l2, zt.as_many) in
    let m3 = with_part piece g m2 in
    let l3 : length m3 ≡ length to = length_with_part piece g m2 room ∙ l2 in
    let under : (a b : ℕ) → b ≤ g → Agrees m2 m3 a b = λ a b i. agrees_with_part piece g m2 a b (omega (arith, room))
    (inl i) in
    let moved : Moved from m3 f g 0 e =
    record {
      same =
          λ j a i. byte_inside piece g m2 j (omega (arith, room)) (omega (arith, i, lp)) ∙ byte_part f e from j i;
    }
    in
    let low2 : (a b : ℕ) → b ≤ 12 → Agrees m1 m2 a b = λ a b i. agrees_with_part map 12 m1 a b (omega (arith, fits))
    (inl i) in
    let head : word_at 8 m3 ≡ word_at 8 from =
    word_same m1 m3 8 12 8 (agrees_twice m1 m2 m3 8 12 (low2 8 12 (omega arith)) (under 8 12 (omega (
      arith,
      zt.front,
    )))) (omega arith) (omega arith)
    ∙ word_there to 8 first (omega (arith, small, s.front.bounded)) (omega (arith, zt.as_many, zt.front))
    in
    let chained : Chained g 0 m3 (inner 0 gs) l = chained_moved from m3 f g 0 l 0 e (inner 0 gs) q.chained blocks tt
    (passed_moved from m3 f g e l before (λ i. head) moved) in
    let r = end_relisted g target e l m3 (inner 0 gs) (omega (arith, zt.front)) t.front.bounded t.front.rounded (omega
    (arith, is, aligned)) (omega (arith, is, h)) (omega (arith, l3, zt.as_many)) chained blocks in
    let new = with_copy end from to in
    let many : length new ≡ length to = r.as_many ∙ l3 in
    let left : gaps 0 target gs ≡ inner 0 gs ++ gap_before e target [] =
    gaps_inner 0 target gs ∙ ap (λ x. inner 0 gs ++ gap_before x target []) fin
    in
    let front : Front new target =
    front_same to new target t.front many (agrees_twice to m1 new 0 8 (agrees_word to 8 first 0 8 (inl (omega arith)))
    (agrees_twice m1 m2 new 0 8 (low2 0 8 (omega arith)) (agrees_twice m2 m3 new 0 8 (under 0 8 (omega (
      arith,
      zt.front,
    ))) (r.low 0 8 (inl (omega arith))))))
    in
    let others : (a b : ℕ) → Clear a b (gaps 0 target gs) →
    Agrees m3 new (g + a) (g + b) = λ a b c. r.others a b (subst (λ xs. Clear a b xs) left c) in
    let same = all_moved from m3 new f g e 0 (gaps 0 target gs) gs near moved (all_clear 0 target gs refl
    t.front.rounded order) others in
    let bits : (i : ℕ) → i < 8 * n → bit_at map_place i new ≡ begins (16 * i) gs =
    λ i y.
    bits_same m2 new 12 n i (agrees_twice m2 m3 new 12 (12 + n) (under 12 (12 + n) zt.front) (r.low 12 (12 + n) (inr
    (omega arith, zt.front)))) y
    ∙ copied_bits n k source from m2 gs i inmap y zs.holds s.ordered s.marked (byte_inside map 12 m1 (i / 8) (omega
    (arith, fits)) (omega (arith, lm, y)))
    in
    let listed : Listed g (link_behind g 0 new) new (gaps 0 target gs) = subst (λ xs. Listed g (link_behind g 0 new)
    new xs) (sym left) r.listed in (
      becomes to new target gs many (record {
        front = front;
        ordered = order;
        marked = record { bits = bits };
        headers
            = headers_moved from new f g gs s.headers (headers_same from new f g gs same);
        listed = listed;
      }),
      data_same from
          new source target 0 e gs refl front.capacity_is near (omega (arith, is, within, zs.as_many)) (omega (
            arith,
            is,
            h,
            many,
            zt.as_many,
          )) same,
    )

-- ---- data

pub written_stands :
    (bytes : List ℕ) (gs : List Kept) (o : ℕ) (g : Kept) (new : List ℕ) (at : ℕ) → Stands bytes (capacity_in bytes) gs →
    kept_at gs o ≡ Some g → 16 + front_for (capacity_in bytes) + o ≤ at →
    at + length new ≤ 16 + front_for (capacity_in bytes) + o + g.size →
    Leaves free_list (without_kept o gs) (capacity_in bytes) gs bytes (with_part new at bytes)
    × (capacity_in (with_part new at bytes) ≡ capacity_in bytes)
written_stands bytes gs o g new at s e a b =
    let c = capacity_in bytes in
    let front = front_for c in
    let z = sizes_of bytes c s.front in
    let w = kept_where 0 c o gs g s.ordered e in
    let after = with_part new at bytes in
    let last : at + length new ≤ length bytes = omega (arith, b, w.within, w.offset, z.as_many) in
    let l : length after ≡ length bytes = length_with_part new at bytes last in
    let low : (p q : ℕ) → q ≤ at → Agrees bytes after p q = λ p q i. agrees_with_part new at bytes p q (omega (
      arith,
      last,
    )) (inl i) in
    let f : Front after c = front_same bytes after c s.front l (low 0 8 (omega (arith, a, z.front))) in
    let rest : AllBut bytes after front (at - front) (at + length new - front) =
    record {
      agrees =
          λ p q h i. agrees_with_part new at bytes p q (omega (arith, last)) (beside front (length new) p q (omega
          (arith, a)) i);
    }
    in
    let x = written_apart bytes after front 0 c o (at - front) (at + length new - front) gs g s.ordered e (omega
    (arith, a)) (omega (arith, a, b)) rest in
    let clear = clear_at (gaps 0 c gs) gs o g (all_clear 0 c gs refl s.front.rounded s.ordered) e in
    let but : AllBut bytes after front g.offset (kept_end g) =
    record { agrees = λ p q h i. rest.agrees p q h (inside front p q a b w.offset i) }
    in
    let blocks = blocks_of 0 c gs refl s.front.rounded s.ordered in
    let head : link_behind front 0 after ≡ link_behind front 0 bytes = word_same bytes after 8 12 8 (low 8 12 (omega
    (arith, a, z.front))) (omega arith) (omega arith) in
    let listed : Listed front (link_behind front 0 after) after (gaps 0 c gs) =
    subst (λ (y : ℕ). Listed front y after (gaps 0 c gs)) (sym head) (listed_same bytes after front (link_behind front
    0 bytes) (gaps 0 c gs) s.listed (blocks_clear bytes after front g.offset (kept_end g) 0 c (gaps 0 c gs) but blocks
    clear))
    in
    let bits : (i : ℕ) → i < 8 * map_for c → bit_at map_place i after ≡ begins (16 * i) gs =
    λ i h. bits_same bytes after 12 (map_for c) i (low 12 (12 + map_for c) (omega (arith, a, z.front))) h ∙
    s.marked.bits i h
    in
    let left = order_freed 0 c o gs s.ordered in (
      record {
        becomes =
            becomes bytes after c gs l (record {
              front = f;
              ordered = s.ordered;
              marked = record { bits = bits };
              headers = headers_moved bytes after front front gs s.headers x.0;
              listed = listed;
            });
        data_stay =
            data_same bytes after c c 0 c (without_kept o gs) refl f.capacity_is left (omega (arith, z.as_many))
            (omega (arith, l, z.as_many)) x.1;
        places_stay = places_same bytes after (without_kept o gs) f.capacity_is;
      },
      f.capacity_is,
    )
  where
    beside :
        (front count p q : ℕ) → front ≤ at → (q ≤ front + (at - front)) ⊎ (front + (at + count - front) ≤ p) →
        (q ≤ at) ⊎ (at + count ≤ p)
    beside front count p q h (inl i) = inl (omega (arith, h, i))
    beside front count p q h (inr i) = inr (omega (arith, h, i))

    inside :
        (front p q : ℕ) → 16 + front + o ≤ at → at + length new ≤ 16 + front + o + g.size → g.offset ≡ o →
        (q ≤ front + g.offset) ⊎ (front + kept_end g ≤ p) →
        (q ≤ front + (at - front)) ⊎ (front + (at + length new - front) ≤ p)
    inside front p q x y k (inl i) = inl (omega (arith, x, k, i))
    inside front p q x y k (inr i) = inr (omega (arith, x, y, k, i))
