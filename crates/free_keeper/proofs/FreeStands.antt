-- What bytes stand for when an area is made, and a generation is placed or freed.
use Rattle.std.proofs.Common.{◌≡◌, ◌≢◌, ◌⊎◌, inl, inr, ℕ, zero, suc, ◌+◌, ◌-◌, ◌*◌, ◌/◌, ◌^◌, ◌%◌, ◌<◌, ◌≤◌, List}
use Rattle.std.proofs.Common.{[], ◌∷◌, ◌++◌, length, replicate, Option, Some, Bool, true, false, refl, sym, ap, ◌∙◌}
use Rattle.std.proofs.Common.{subst, arith}
use Rattle.std.proofs.lemmas.List.{length-replicate, get_or-replicate, get_or_past}
use Rattle.std.specs.Prelude.{FitsSigned, cond, slice_index, ◌==◌}
use Rattle.std.specs.Int.{w32}
use Rattle.pli_typing.specs.Signatures.{footprint}
use Rattle.area_keeper.specs.Keeper.{Kept}
use Rattle.area_keeper.specs.KeptAreas.{InOrder, kept_at, with_kept, without_kept, with_part}
use Rattle.area_keeper.specs.KeeperLaws.{greatest_capacity, Becomes, Leaves}
use Rattle.area_keeper.specs.Chain.{with_word, capacity_in, room_from}
use Rattle.area_keeper.proofs.Agreement.{Agrees, agrees_twice, agrees_with_part, length_word, length_with_part}
use Rattle.area_keeper.proofs.Agreement.{byte_inside, word_same}
use Rattle.granule_keeper.proofs.Order.{kept_where, order_freed}
use Rattle.free_keeper.proofs.Tests.{cases_eq, cases_lt, eq_false, eq_tells, eq_true}
use Rattle.free_keeper.proofs.BitLaws.{length_bit, agrees_bit, bit_there, bit_stays, bits_same}
use Rattle.free_keeper.proofs.Gaps.{Blocks, sooner, blocks_of, first_room, room_gaps, rest_of, taken, gaps_placed}
use Rattle.free_keeper.proofs.Gaps.{joined, gaps_freed, Clear, all_clear}
use Rattle.free_keeper.proofs.Order.{order_placed, clear_placed}
use Rattle.free_keeper.proofs.Links.{Listed, AllBut, blocks_clear, listed_same, Room, room_found, joins_found, Split}
use Rattle.free_keeper.proofs.Links.{blocks_split, blocks_within}
use Rattle.free_keeper.proofs.Marking.{begins, begins_placed, begins_freed, Headers}
use Rattle.free_keeper.proofs.Moving.{headers_same, headers_moved, data_same, places_same, all_clear_same}
use Rattle.free_keeper.proofs.Relisting.{clear_passed, clear_both, relisted, unlisted, end_relisted}
use Rattle.free_keeper.proofs.Standing.{Front, Stands, stands_for, front_same, made_front, Fits, length_header}
use Rattle.free_keeper.proofs.Standing.{agrees_header, header_kept, headers_placed}
use Rattle.free_keeper.specs.Bits.{bit, bit_at, with_bit_at}
use Rattle.free_keeper.specs.FreeList.{Free, free, mark, map_place, map_for, front_for, bytes_for, link_place}
use Rattle.free_keeper.specs.FreeList.{link_behind, size_of, with_free, gaps, with_header, freed_all, free_list_made}
use Rattle.free_keeper.specs.FreeList.{steps_for, room_behind, without_room, with_generation, joined_from}
use Rattle.free_keeper.specs.FreeList.{without_generation, free_list}

pub becomes :
    (old new : List ℕ) (capacity : ℕ) (gs : List Kept) → length new ≡ length old → Stands new capacity gs →
    Becomes free_list capacity gs old new
becomes old new capacity gs n s = record { as_many = n; stands = stands_for new capacity gs s }

pub record Sizes (bytes : List ℕ) (capacity : ℕ) : Type 0 where
  pub front : 12 + map_for capacity ≤ front_for capacity
  pub as_many : length bytes ≡ front_for capacity + capacity
  pub holds : capacity ≤ 16 * (8 * map_for capacity)

pub sizes_of : (bytes : List ℕ) (capacity : ℕ) → Front bytes capacity → Sizes bytes capacity
sizes_of bytes capacity f = record { front = omega arith; as_many = f.as_many; holds = omega arith }

-- ---- making

pub bit_zero : (k : ℕ) → bit k 0 ≡ 0
bit_zero zero = refl
bit_zero (suc k) = bit_zero k

pub zeros_read : (n k : ℕ) → slice_index (replicate n 0) k ≡ 0
zeros_read n k = by_case (cases_lt k n)
  where
    by_case : (k < n) ⊎ (n ≤ k) → slice_index (replicate n 0) k ≡ 0
    by_case (inl h) = get_or-replicate n k 0 0 h
    by_case (inr h) =
        let zeros : List ℕ = replicate n 0 in
        let l : length zeros ≡ n = length-replicate n 0 in
        get_or_past zeros k 0 (omega (arith, h, l))

pub all_freed :
    (bytes : List ℕ) (capacity : ℕ) → Front bytes capacity →
    Becomes free_list capacity [] bytes (freed_all capacity bytes)
all_freed bytes capacity f =
    let s = sizes_of bytes capacity f in
    let front = front_for capacity in
    let zeros : List ℕ = replicate (map_for capacity) 0 in
    let n : length zeros ≡ map_for capacity = length-replicate (map_for capacity) 0 in
    let m = with_part zeros 12 bytes in
    let within : 12 + length zeros ≤ length bytes = omega (arith, n, s.front, s.as_many) in
    let l : length m ≡ length bytes = length_with_part zeros 12 bytes within in
    let r = end_relisted front capacity 0 0 m [] (omega (arith, s.front)) f.bounded f.rounded refl (omega arith) (l ∙
    s.as_many) refl (omega arith) in
    let new = freed_all capacity bytes in
    let low : Agrees bytes new 0 8 =
    agrees_twice bytes m new 0 8 (agrees_with_part zeros 12 bytes 0 8 (omega (arith, within)) (inl (omega arith)))
    (r.low 0 8 (inl (omega arith)))
    in
    let map : Agrees m new 12 (12 + map_for capacity) = r.low 12 (12 + map_for capacity) (inr (omega arith, s.front)) in
    let bits : (i : ℕ) → i < 8 * map_for capacity → bit_at map_place i new ≡ 0 =
    λ i h.
    bits_same m new 12 (map_for capacity) i map h
    ∙ (ap (bit (i % 8)) (byte_inside zeros 12 bytes (i / 8) (omega (arith, within)) (omega (arith, n, h)) ∙ zeros_read
    (map_for capacity) (i / 8))
    ∙ bit_zero (i % 8))
    in
    becomes bytes new capacity [] (r.as_many ∙ l) (record {
      front = front_same bytes new capacity f (r.as_many ∙ l) low;
      ordered = omega arith;
      marked = record { bits = bits };
      headers = tt;
      listed = r.listed;
    })

pub made_stands :
    (capacity : ℕ) (bytes : List ℕ) → capacity % 16 ≡ 0 → capacity ≤ greatest_capacity →
    length bytes ≡ bytes_for capacity →
    Becomes free_list capacity [] bytes (free_list_made capacity bytes)
made_stands capacity bytes r b n =
    let m = with_word 4 capacity (with_word 0 mark bytes) in
    let l : length m ≡ length bytes = length_word (with_word 0 mark bytes) 4 capacity ∙ length_word bytes 0 mark in
    let done = all_freed m capacity (made_front capacity bytes r b n) in
    record { as_many = done.as_many ∙ l; stands = done.stands }

-- ---- placing

blocks_join :
    (start e c : ℕ) (xs : List Free) (f : Free) (ys : List Free) → Blocks start e xs → e ≤ f.offset →
    f.offset % 16 ≡ 0 →
    16 ≤ f.size → f.size % 16 ≡ 0 → Blocks (f.offset + f.size) c ys → Blocks start c (xs ++ (f ∷ ys))
blocks_join start e c [] f ys b h a s r k = (omega (arith, b, h), a, s, r, k)
blocks_join start e c (x ∷ xs) f ys b h a s r k =
    (b.0, b.1, b.2, b.3, blocks_join (x.offset + x.size) e c xs f ys b.4 h a s r k)

-- the free blocks where so many bytes are taken from one
record Taken (front : ℕ) (old new : List ℕ) (fs left : List Free) : Type 0 where
  as_many : length new ≡ length old
  listed : Listed front (link_behind front 0 new) new left
  low : (x y : ℕ) → (y ≤ 8) ⊎ ((12 ≤ x) × (y ≤ front)) → Agrees old new x y
  others : (a b : ℕ) → Clear a b fs → Agrees old new (front + a) (front + b)

room_taken :
    (front c n o : ℕ) (bytes : List ℕ) (fs : List Free) (walk : Option ℕ) (r : Room front 0 0 c n o bytes fs walk) →
    12 ≤ front →
    c ≤ greatest_capacity → length bytes ≡ front + c → 16 ≤ n → n % 16 ≡ 0 → Blocks 0 c fs →
    Taken front bytes (without_room front r.before n o (size_of front o bytes) (link_behind front (suc o) bytes)
    bytes) fs (taken n fs)
room_taken front c n o bytes fs walk r h g l some whole blocks =
    let f = r.block in
    let P : ℕ → Type 0 = λ x. Taken front bytes (without_room front r.before n x (size_of front x bytes) (link_behind
    front (suc x) bytes) bytes) fs (taken n fs) in
    let s = blocks_split 0 c r.passed f r.rest (subst (λ xs. Blocks 0 c xs) r.split blocks) in
    let link = link_behind front (suc f.offset) bytes in
    let done : Taken front bytes (without_room front r.before n f.offset f.size (link_behind front (suc f.offset)
    bytes) bytes) fs (r.passed ++ rest_of n f r.rest) = by_size (f.size == n) refl s in
    subst P r.offset (subst (λ xs. Taken front bytes (without_room front r.before n f.offset (size_of front f.offset
    bytes) (link_behind front (suc f.offset) bytes) bytes) fs xs) (sym r.leaves) (subst (λ x. Taken front bytes
    (without_room front r.before n f.offset x (link_behind front (suc f.offset) bytes) bytes) fs (r.passed ++ rest_of
    n f r.rest)) (sym r.listed.1) done))
  where
    clear_in : (a b : ℕ) → Clear a b fs → Clear a b r.passed × Clear a b (r.block ∷ r.rest)
    clear_in a b q = clear_passed a b r.passed (r.block ∷ r.rest) (subst (λ xs. Clear a b xs) r.split q)

    by_size :
        (t : Bool) → (r.block.size == n) ≡ t → Split 0 c r.passed r.block r.rest →
        Taken front bytes (cond t (with_word (link_place front r.before) (link_behind front (suc r.block.offset)
        bytes) bytes) (with_free front r.before (free (r.block.offset + n) (r.block.size - n)) (link_behind front (suc
        r.block.offset) bytes) bytes)) fs (r.passed ++ cond t r.rest (free (r.block.offset + n) (r.block.size - n) ∷
        r.rest))
    by_size true t s =
        let f = r.block in
        let d = unlisted front c f.offset r.before (link_behind front (suc f.offset) bytes) bytes r.passed r.rest h g
        l r.chained s.passed (sooner f.offset (f.offset + f.size) c r.rest (omega arith) s.rest) r.listed.2 in
        record {
          as_many = d.as_many;
          listed = d.listed;
          low = d.low;
          others = λ a b q. let k = clear_in a b q in d.others a b (clear_both a b r.passed r.rest k.0 k.1.1);
        }
    by_size false t s =
        let f = r.block in
        let ne = eq_tells f.size n false t in
        let enough = r.enough in
        let more : 16 ≤ f.size - n = left f.size n enough ne s.rounded whole in
        let left : Free = free (f.offset + n) (f.size - n) in
        let q : f.offset + n + (f.size - n) ≡ f.offset + f.size = omega (arith, enough) in
        let d = relisted front c r.before (link_behind front (suc f.offset) bytes) bytes r.passed r.rest left h g l
        r.chained (blocks_join 0 f.offset c r.passed left r.rest s.passed (omega arith) (omega (
          arith,
          s.aligned,
          whole,
        )) more (omega (arith, s.rounded, whole, enough)) (subst (λ x. Blocks x c r.rest) (sym q) s.rest))
        r.listed.2 in
        record {
          as_many = d.as_many;
          listed = d.listed;
          low = d.low;
          others = λ a b p.
              let k = clear_in a b p in
              d.others a b (clear_both a b r.passed (left ∷ r.rest) k.0 (side a b q k.1.0, k.1.1));
        }
      where
        left : (s n : ℕ) → n ≤ s → s ≢ n → s % 16 ≡ 0 → n % 16 ≡ 0 → 16 ≤ s - n
        left s n e ne a b = omega (arith, e, ne, a, b)

        side :
            (a b : ℕ) → r.block.offset + n + (r.block.size - n) ≡ r.block.offset + r.block.size →
            (r.block.offset + r.block.size ≤ a) ⊎ (b ≤ r.block.offset) →
            (r.block.offset + n + (r.block.size - n) ≤ a) ⊎ (b ≤ r.block.offset + n)
        side a b q (inl i) = inl (omega (arith, q, i))
        side a b q (inr i) = inr (omega (arith, i))

pub record PlacedThere (bytes : List ℕ) (gs : List Kept) (k : Kept) (walk : Option ℕ) : Type 0 where
  pub before : ℕ
  pub walked : walk ≡ Some before
  pub offset : link_behind (front_for (capacity_in bytes)) before bytes - 1 ≡ k.offset
  pub leaves :
      Leaves free_list gs (capacity_in bytes) (with_kept k gs) bytes (with_generation (front_for (capacity_in bytes))
      before k bytes)

pub placed_stands :
    (bytes : List ℕ) (gs : List Kept) (k : Kept) → Stands bytes (capacity_in bytes) gs → k.signature < 2 ^ 32 →
    FitsSigned w32 k.extent → room_from 0 (capacity_in bytes) (footprint k.size) gs ≡ Some k.offset →
    PlacedThere bytes gs k (room_behind (steps_for (capacity_in bytes)) (footprint k.size) (front_for (capacity_in
    bytes)) 0 (link_behind (front_for (capacity_in bytes)) 0 bytes) bytes)
placed_stands bytes gs k s sg x e =
    let c = capacity_in bytes in
    let front = front_for c in
    let o = k.offset in
    let n = footprint k.size in
    let z = sizes_of bytes c s.front in
    let fs = gaps 0 c gs in
    let blocks = blocks_of 0 c gs refl s.front.rounded s.ordered in
    let some : 16 ≤ n = omega arith in
    let whole : n % 16 ≡ 0 = omega arith in
    let twelve : 12 ≤ front = omega (arith, z.front) in
    let found : first_room n fs ≡ Some o = sym (room_gaps 0 c n gs (omega arith)) ∙ e in
    let walk = room_behind (steps_for c) n front 0 (link_behind front 0 bytes) bytes in
    let r = room_found (steps_for c) front 0 (link_behind front 0 bytes) 0 c n o bytes fs refl s.listed blocks (omega
    arith) found in
    let t = room_taken front c n o bytes fs walk r twelve s.front.bounded z.as_many some whole blocks in
    let p = blocks_split 0 c r.passed r.block r.rest (subst (λ xs. Blocks 0 c xs) r.split blocks) in
    let there = r.offset in
    let aligned : o % 16 ≡ 0 = omega (arith, p.aligned, there) in
    let end : r.block.offset + r.block.size ≤ c = blocks_within (r.block.offset + r.block.size) c r.rest p.rest in
    let enough = r.enough in
    let inside : o + n ≤ c = omega (arith, there, end, enough) in
    let b1 = without_room front r.before n o (size_of front o bytes) (link_behind front (suc o) bytes) bytes in
    let b2 = with_bit_at map_place (o / 16) 1 b1 in
    let new = with_header (front + o) k b2 in
    let l1 : length b1 ≡ length bytes = t.as_many in
    let l2 : length b2 ≡ length bytes = length_bit map_place (o / 16) 1 b1 ∙ l1 in
    let l3 : length new ≡ length bytes = length_header (front + o) k b2 ∙ l2 in
    let byte : map_place + o / 16 / 8 < 12 + map_for c = omega (arith, inside, some) in
    let high : (a b : ℕ) → front ≤ a → Agrees b1 b2 a b = λ a b i. agrees_bit b1 map_place (o / 16) 1 a b (inr (omega
    (arith, i, byte, z.front))) in
    let low : (a b : ℕ) → b ≤ 12 → Agrees b1 b2 a b = λ a b i. agrees_bit b1 map_place (o / 16) 1 a b (inl (omega
    (arith, i))) in
    let below : (a b : ℕ) → b ≤ front → Agrees b2 new a b = λ a b i. agrees_header (front + o) k b2 a b (inl (omega
    (arith, i))) in
    let f : Front new c = front_same bytes new c s.front l3 (agrees_twice bytes b1 new 0 8 (t.low 0 8 (inl (omega
    arith))) (agrees_twice b1 b2 new 0 8 (low 0 8 (omega arith)) (below 0 8 (omega (arith, twelve))))) in
    let fits : Fits k = record { size = omega (arith, inside, s.front.bounded); signature = sg; extent = x } in
    let header = header_kept (front + o) k b2 fits (omega (arith, l2, z.as_many, inside, some)) in
    let others : (a b : ℕ) → Clear a b fs → Agrees bytes new (front + a) (front + b) =
    λ a b q.
    let side = (clear_passed a b r.passed (r.block ∷ r.rest) (subst (λ xs. Clear a b xs) r.split q)).1.0 in
    agrees_twice bytes b1 new (front + a) (front + b) (t.others a b q) (agrees_twice b1 b2 new (front + a) (front + b)
    (high (front + a) (front + b) (omega arith)) (agrees_header (front + o) k b2 (front + a) (front + b) (beside front
    o a b r.block there p.some side)))
    in
    let same = all_clear_same bytes new front fs gs (all_clear 0 c gs refl s.front.rounded s.ordered) others in
    let gs' = with_kept k gs in
    let order : InOrder 0 c gs' = order_placed 0 c n k gs s.ordered refl some refl e in
    let fs' : gaps 0 c gs' ≡ taken n fs = gaps_placed 0 c n k gs s.ordered some refl e in
    let clear = clear_placed (gaps 0 c gs') k gs (all_clear 0 c gs' refl s.front.rounded order) in
    let but : AllBut b1 new front o (o + n) =
    record {
      agrees =
          λ a b i j. agrees_twice b1 b2 new a b (high a b i) (agrees_header (front + o) k b2 a b (outside front o n a b
          some j));
    }
    in
    let blocks' = blocks_of 0 c gs' refl s.front.rounded order in
    let head : link_behind front 0 new ≡ link_behind front 0 b1 =
    word_same b1 new 8 12 8 (agrees_twice b1 b2 new 8 12 (low 8 12 (omega arith)) (below 8 12 twelve)) (omega arith)
    (omega arith)
    in
    let listed1 : Listed front (link_behind front 0 b1) b1 (gaps 0 c gs') = subst (λ xs. Listed front (link_behind
    front 0 b1) b1 xs) (sym fs') t.listed in
    let listed : Listed front (link_behind front 0 new) new (gaps 0 c gs') =
    subst (λ (y : ℕ). Listed front y new (gaps 0 c gs')) (sym head) (listed_same b1 new front (link_behind front 0 b1)
    (gaps 0 c gs') listed1 (blocks_clear b1 new front o (o + n) 0 c (gaps 0 c gs') but blocks' clear))
    in
    let bits : (i : ℕ) → i < 8 * map_for c → bit_at map_place i new ≡ begins (16 * i) gs' =
    λ i h.
    bits_same b2 new 12 (map_for c) i (below 12 (12 + map_for c) z.front) h
    ∙ (marked b1 (o / 16) i o gs aligned refl (omega (arith, byte, l1, z.as_many, z.front)) (bits_same bytes b1 12
    (map_for c) i (t.low 12 (12 + map_for c) (inr (omega arith, z.front))) h ∙ s.marked.bits i h) (cases_eq i (o / 16))
    ∙ sym (begins_placed (16 * i) k gs))
    in
    record {
      before = r.before;
      walked = r.walked;
      offset = omega (arith, r.listed.0, there);
      leaves = record {
        becomes =
            becomes bytes new c gs' l3 (record {
              front = f;
              ordered = order;
              marked = record { bits = bits };
              headers
                  = headers_placed front new k gs header (headers_moved bytes new front front gs s.headers (headers_same
                  bytes new front front gs same));
              listed = listed;
            });
        data_stay =
            data_same bytes new c c 0 c gs refl f.capacity_is s.ordered (omega (arith, z.as_many)) (omega (
              arith,
              l3,
              z.as_many,
            )) same;
        places_stay = places_same bytes new gs f.capacity_is;
      };
    }
  where
    beside :
        (front o a b : ℕ) (f : Free) → f.offset ≡ o → 16 ≤ f.size → (f.offset + f.size ≤ a) ⊎ (b ≤ f.offset) →
        (front + b ≤ front + o) ⊎ (12 + (front + o) ≤ front + a)
    beside front o a b f q s (inl i) = inr (omega (arith, q, s, i))
    beside front o a b f q s (inr i) = inl (omega (arith, q, i))

    outside :
        (front o n a b : ℕ) → 16 ≤ n → (b ≤ front + o) ⊎ (front + (o + n) ≤ a) →
        (b ≤ front + o) ⊎ (12 + (front + o) ≤ a)
    outside front o n a b s (inl i) = inl i
    outside front o n a b s (inr i) = inr (omega (arith, s, i))

    marked :
        (b1 : List ℕ) (j i o : ℕ) (gs : List Kept) → o % 16 ≡ 0 → j ≡ o / 16 → map_place + j / 8 < length b1 →
        bit_at map_place i b1 ≡ begins (16 * i) gs → (i ≡ j) ⊎ (i ≢ j) →
        bit_at map_place i (with_bit_at map_place j 1 b1) ≡ cond (o == 16 * i) 1 (begins (16 * i) gs)
    marked b1 j i o gs a q l m (inl e) =
        ap (λ y. bit_at map_place y (with_bit_at map_place j 1 b1)) e
        ∙ (bit_there b1 map_place j 1 (omega arith) l
        ∙ sym (ap (λ t. cond t 1 (begins (16 * i) gs)) (eq_true o (16 * i) (omega (arith, a, q, e)))))
    marked b1 j i o gs a q l m (inr e) =
        bit_stays b1 map_place j i 1 (omega arith) l e
        ∙ (m ∙ sym (ap (λ t. cond t 1 (begins (16 * i) gs)) (eq_false o (16 * i) (λ w. e (omega (arith, q, w))))))

-- ---- freeing

pub freed_stands :
    (bytes : List ℕ) (gs : List Kept) (o : ℕ) (g : Kept) → Stands bytes (capacity_in bytes) gs → kept_at gs o ≡ Some g →
    Leaves free_list (without_kept o gs) (capacity_in bytes) (without_kept o gs) bytes (without_generation (front_for
    (capacity_in bytes)) (capacity_in bytes) g bytes)
freed_stands bytes gs o g s e =
    let c = capacity_in bytes in
    let front = front_for c in
    let z = sizes_of bytes c s.front in
    let twelve : 12 ≤ front = omega (arith, z.front) in
    let w = kept_where 0 c o gs g s.ordered e in
    let at = w.offset in
    let aligned = w.aligned in
    let inside = w.within in
    let n = footprint g.size in
    let fs = gaps 0 c gs in
    let gs' = without_kept o gs in
    let order = order_freed 0 c o gs s.ordered in
    let fs' : gaps 0 c gs' ≡ joined g.offset n fs = gaps_freed 0 c o gs g s.ordered e ∙ ap (λ x. joined x n fs) (sym
    at) in
    let j = joined_from (steps_for c) front g.offset n 0 (link_behind front 0 bytes) bytes in
    let d = joins_found (steps_for c) front g.offset n 0 (link_behind front 0 bytes) 0 c bytes fs refl s.listed
    (blocks_of 0 c gs refl s.front.rounded s.ordered) (omega arith) in
    let left : gaps 0 c gs' ≡ d.passed ++ (j.block ∷ d.rest) = fs' ∙ d.joins in
    let blocks' = blocks_of 0 c gs' refl s.front.rounded order in
    let r = relisted front c j.before j.link bytes d.passed d.rest j.block twelve s.front.bounded z.as_many d.chained
    (subst (λ xs. Blocks 0 c xs) left blocks') d.listed in
    let b1 = with_free front j.before j.block j.link bytes in
    let new = with_bit_at map_place (g.offset / 16) 0 b1 in
    let l1 : length b1 ≡ length bytes = r.as_many in
    let l2 : length new ≡ length bytes = length_bit map_place (g.offset / 16) 0 b1 ∙ l1 in
    let byte : map_place + g.offset / 16 / 8 < 12 + map_for c = omega (arith, inside) in
    let high : (a b : ℕ) → front ≤ a → Agrees b1 new a b = λ a b i. agrees_bit b1 map_place (g.offset / 16) 0 a b (inr
    (omega (arith, i, byte, z.front))) in
    let low : (a b : ℕ) → b ≤ 12 → Agrees b1 new a b = λ a b i. agrees_bit b1 map_place (g.offset / 16) 0 a b (inl
    (omega (arith, i))) in
    let f : Front new c = front_same bytes new c s.front l2 (agrees_twice bytes b1 new 0 8 (r.low 0 8 (inl (omega
    arith))) (low 0 8 (omega arith))) in
    let others : (a b : ℕ) → Clear a b (gaps 0 c gs') → Agrees bytes new (front + a) (front + b) =
    λ a b q.
    agrees_twice bytes b1 new (front + a) (front + b) (r.others a b (subst (λ xs. Clear a b xs) left q)) (high (front
    + a) (front + b) (omega arith))
    in
    let same = all_clear_same bytes new front (gaps 0 c gs') gs' (all_clear 0 c gs' refl s.front.rounded order) others
    in
    let head : link_behind front 0 new ≡ link_behind front 0 b1 = word_same b1 new 8 12 8 (low 8 12 (omega arith))
    (omega arith) (omega arith) in
    let but : AllBut b1 new front c c = record { agrees = λ a b i k. high a b i } in
    let listed1 : Listed front (link_behind front 0 b1) b1 (gaps 0 c gs') = subst (λ xs. Listed front (link_behind
    front 0 b1) b1 xs) (sym left) r.listed in
    let listed : Listed front (link_behind front 0 new) new (gaps 0 c gs') =
    subst (λ (y : ℕ). Listed front y new (gaps 0 c gs')) (sym head) (listed_same b1 new front (link_behind front 0 b1)
    (gaps 0 c gs') listed1 (blocks_clear b1 new front c c 0 c (gaps 0 c gs') but blocks' (clear_of 0 c (gaps 0 c gs')
    blocks')))
    in
    let bits : (i : ℕ) → i < 8 * map_for c → bit_at map_place i new ≡ begins (16 * i) gs' =
    λ i h.
    marked b1 (g.offset / 16) i o gs aligned (omega (arith, at)) (omega (arith, byte, l1, z.as_many, z.front))
    (bits_same bytes b1 12 (map_for c) i (r.low 12 (12 + map_for c) (inr (omega arith, z.front))) h ∙ s.marked.bits i
    h) (cases_eq i (g.offset / 16))
    ∙ sym (begins_freed 0 c o (16 * i) gs g s.ordered e)
    in
    record {
      becomes =
          becomes bytes new c gs' l2 (record {
            front = f;
            ordered = order;
            marked = record { bits = bits };
            headers =
                headers_moved bytes new front front gs' (headers_left front bytes o gs s.headers) (headers_same bytes new
                front front gs' same);
            listed = listed;
          });
      data_stay =
          data_same bytes new c c 0 c gs' refl f.capacity_is order (omega (arith, z.as_many)) (omega (
            arith,
            l2,
            z.as_many,
          )) same;
      places_stay = places_same bytes new gs' f.capacity_is;
    }
  where
    clear_of : (start c : ℕ) (fs : List Free) → Blocks start c fs → Clear c c fs
    clear_of start c [] b = tt
    clear_of start c (f ∷ fs) b =
        (inl (blocks_within (f.offset + f.size) c fs b.4), clear_of (f.offset + f.size) c fs b.4)

    headers_left :
        (front : ℕ) (bytes : List ℕ) (o : ℕ) (gs : List Kept) → Headers front bytes gs →
        Headers front bytes (without_kept o gs)
    headers_left front bytes o [] h = tt
    headers_left front bytes o (k ∷ ks) h = by_test (k.offset == o) (headers_left front bytes o ks h.1)
      where
        by_test :
            (t : Bool) → Headers front bytes (without_kept o ks) →
            Headers front bytes (cond t ks (k ∷ without_kept o ks))
        by_test true rest = h.1
        by_test false rest = (h.0, rest)

    marked :
        (b1 : List ℕ) (j i o : ℕ) (gs : List Kept) → o % 16 ≡ 0 → j ≡ o / 16 → map_place + j / 8 < length b1 →
        bit_at map_place i b1 ≡ begins (16 * i) gs → (i ≡ j) ⊎ (i ≢ j) →
        bit_at map_place i (with_bit_at map_place j 0 b1) ≡ cond (o == 16 * i) 0 (begins (16 * i) gs)
    marked b1 j i o gs a q l m (inl e) =
        ap (λ y. bit_at map_place y (with_bit_at map_place j 0 b1)) e
        ∙ (bit_there b1 map_place j 0 (omega arith) l
        ∙ sym (ap (λ t. cond t 0 (begins (16 * i) gs)) (eq_true o (16 * i) (omega (arith, a, q, e)))))
    marked b1 j i o gs a q l m (inr e) =
        bit_stays b1 map_place j i 0 (omega arith) l e
        ∙ (m ∙ sym (ap (λ t. cond t 0 (begins (16 * i) gs)) (eq_false o (16 * i) (λ w. e (omega (arith, q, w))))))
