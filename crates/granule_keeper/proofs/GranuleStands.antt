-- What bytes stand for when an area is made, and a generation is placed, freed, copied or written.
use Rattle.std.proofs.Common.{◌≡◌, ◌⊎◌, inl, inr, ℕ, zero, suc, ◌+◌, ◌-◌, ◌*◌, ◌/◌, ◌^◌, ◌%◌, ◌<◌, ◌≤◌, List, [], ◌∷◌, ◌++◌, length, take, drop, replicate, Some, None, true, refl, sym, ap, ◌∙◌, subst, arith, length-append, length-drop, length-take-le}
use Rattle.std.proofs.lemmas.List.{length-replicate}
use Rattle.std.specs.Prelude.{FitsSigned, slice_index}
use Rattle.std.specs.Int.{w32}
use Rattle.pli_typing.specs.Signatures.{footprint}
use Rattle.area_keeper.specs.Keeper.{Kept, KeptArea}
use Rattle.area_keeper.specs.KeptAreas.{kept_end, InOrder, kept_at, with_kept, without_kept, part, with_part}
use Rattle.area_keeper.specs.KeeperLaws.{greatest_capacity, SameData, Becomes, Leaves}
use Rattle.area_keeper.specs.Chain.{word_at, with_word, capacity_in, last_end}
use Rattle.area_keeper.proofs.Agreement.{Agrees, agrees_within, agrees_twice, agrees_with_part, length_word, length_with_part, length_part, part_same, byte_part, byte_inside}
use Rattle.granule_keeper.proofs.Order.{kept_where, order_freed}
use Rattle.granule_keeper.proofs.Runs.{Found, room_found, free_within, length_with_run, length_without_run, used_within, used_rest}
use Rattle.granule_keeper.proofs.Placing.{Lies, ordered, placed_run, freed_run, padded, some_granules, footprint_fitted}
use Rattle.granule_keeper.proofs.Rooms.{end_same}
use Rattle.granule_keeper.proofs.Moving.{Moved, agrees_moved, SameHeaders, SameGranules, headers_same, granules_within, placed_moved, part_written, data_same, places_same}
use Rattle.granule_keeper.proofs.Standing.{Front, Stands, placed_in, stands_for, Marks, marks_of, order_of, front_same}
use Rattle.granule_keeper.proofs.Headers.{Fits, length_header, agrees_header, header_kept, Remarked, remarked, made_front}
use Rattle.granule_keeper.proofs.Apartness.{Apart, apart_placed, AllBut, granules_apart, written_apart, order_copied}
use Rattle.granule_keeper.specs.Marks.{free_run, room_in, with_run, without_run, used}
use Rattle.granule_keeper.specs.Granules.{mark, front_for, bytes_for, marks_in, with_marks, kept_in, placed_from, with_header, granules_of, with_generation, without_generation, freed_all, with_copy, granules_made, granules}

becomes :
    (old new : List ℕ) (capacity : ℕ) (gs : List Kept) → length new ≡ length old → Stands new capacity gs →
    Becomes granules capacity gs old new
becomes old new capacity gs n s = record { as_many = n; stands = stands_for new capacity gs s }

-- ---- making

pub all_freed :
    (bytes : List ℕ) (capacity : ℕ) → Front bytes capacity → Becomes granules capacity [] bytes (freed_all capacity bytes)
all_freed bytes capacity f =
    let zeros : List ℕ = replicate (capacity / 16) 0 in
    let n : length zeros ≡ capacity / 16 = length-replicate (capacity / 16) 0 in
    let r = remarked bytes capacity zeros f n in
    let new = freed_all capacity bytes in
    becomes bytes new capacity [] r.as_many (record {
      front = r.front;
      placed =
          ap (λ ms. placed_from (front_for capacity) new 0 true ms) r.marks
          ∙ padded (front_for capacity) new (capacity / 16) 0 true [];
    })

pub made_stands :
    (capacity : ℕ) (bytes : List ℕ) → capacity % 16 ≡ 0 → capacity ≤ greatest_capacity → length bytes ≡ bytes_for capacity →
    Becomes granules capacity [] bytes (granules_made capacity bytes)
made_stands capacity bytes r b n =
    let m = with_word 4 capacity (with_word 0 mark bytes) in
    let l : length m ≡ length bytes = length_word (with_word 0 mark bytes) 4 capacity ∙ length_word bytes 0 mark in
    let done = all_freed m capacity (made_front capacity bytes r b n) in
    record { as_many = done.as_many ∙ l; stands = done.stands }

-- ---- placing

placed_runs :
    (front : ℕ) (bytes : List ℕ) (capacity o i n target : ℕ) (ms : List ℕ) → 1 ≤ n → Lies capacity o i target ms →
    n ≤ free_run (drop i ms) →
    placed_from front bytes o true (with_run i n ms)
    ≡ with_kept (kept_in (front + target) target n bytes) (placed_from front bytes o true ms)
placed_runs front bytes capacity o i zero target ms h f r = absurd (omega (arith, h))
placed_runs front bytes capacity o i (suc n) target ms h f r = placed_run front bytes capacity o i n target true ms f r

end_of : (front : ℕ) (bytes : List ℕ) (o n : ℕ) → 1 ≤ n → kept_end (kept_in (front + o) o n bytes) ≡ o + 16 * n
end_of front bytes o zero h = absurd (omega (arith, h))
end_of front bytes o (suc n) h = let e = footprint_fitted (word_at (front + o) bytes) n in omega (arith, e)

-- a place that room is found at
record Room (bytes : List ℕ) (capacity number o : ℕ) : Type 0 where
  lies : Lies capacity 0 (o / 16) o (marks_in bytes)
  free : number ≤ free_run (drop (o / 16) (marks_in bytes))
  within : o / 16 + number ≤ length (marks_in bytes)
  ends : o + 16 * number ≤ capacity

room :
    (bytes : List ℕ) (number o : ℕ) → Front bytes (capacity_in bytes) → 1 ≤ number →
    room_in 0 number (marks_in bytes) ≡ Some o → Room bytes (capacity_in bytes) number o
room bytes number o f h e =
    let ms = marks_in bytes in
    let m = marks_of bytes (capacity_in bytes) f in
    let r = room_found 0 number ms o e in
    let p : r.place ≡ o / 16 = omega (arith, r.offset) in
    let free : number ≤ free_run (drop (o / 16) ms) = subst (λ i. number ≤ free_run (drop i ms)) p r.free in
    let within : o / 16 + number ≤ length ms = omega (arith, h, free, free_within (drop (o / 16) ms), length-drop (o / 16) ms) in
    record {
      lies = record { there = omega (arith, r.offset); aligned = omega arith; within = omega (arith, m.as_many, m.whole) };
      free = free;
      within = within;
      ends = omega (arith, within, r.offset, m.as_many, m.whole);
    }

apart_from_others :
    (bytes : List ℕ) (number o : ℕ) → 1 ≤ number → Front bytes (capacity_in bytes) → Room bytes (capacity_in bytes) number o →
    Apart o (o + 16 * number) (placed_in (capacity_in bytes) bytes)
apart_from_others bytes number o h f r =
    let c = capacity_in bytes in
    let front = front_for c in
    let ms = marks_in bytes in
    let m = marks_of bytes c f in
    let new = with_run (o / 16) number ms in
    let n : length new ≡ length ms = length_with_run (o / 16) number ms r.within in
    let order = (ordered front bytes 0 c new (omega arith) (omega (arith, n, m.as_many, m.whole))).behind_free in
    let k = kept_in (front + o) o number bytes in
    let placed = subst (λ gs. InOrder 0 c gs) (placed_runs front bytes c 0 (o / 16) number o ms h r.lies r.free) order in
    subst (λ x. Apart o x (placed_in c bytes)) (end_of front bytes o number h) (apart_placed 0 c k (placed_in c bytes) placed)

pub placed_stands :
    (bytes : List ℕ) (gs : List Kept) (n : Kept) → Stands bytes (capacity_in bytes) gs → n.signature < 2 ^ 32 →
    FitsSigned w32 n.extent → room_in 0 (granules_of n.size) (marks_in bytes) ≡ Some n.offset →
    Leaves granules gs (capacity_in bytes) (with_kept n gs) bytes (with_generation n bytes)
placed_stands bytes gs n s sg x e =
    let c = capacity_in bytes in
    let front = front_for c in
    let o = n.offset in
    let number = granules_of n.size in
    let some : 1 ≤ number = some_granules n.size in
    let ms = marks_in bytes in
    let m = marks_of bytes c s.front in
    let r = room bytes number o s.front some e in
    let ms' = with_run (o / 16) number ms in
    let many : length ms' ≡ c / 16 = length_with_run (o / 16) number ms r.within ∙ m.as_many in
    let b = with_marks ms' bytes in
    let k = remarked bytes c ms' s.front many in
    let new = with_generation n bytes in
    let l : length new ≡ length b = length_header (front + o) n b in
    let small : c ≤ greatest_capacity = s.front.bounded in
    let whole : footprint n.size ≡ 16 * number = omega arith in
    let fits : Fits n = record { size = omega (arith, r.ends, whole, small); signature = sg; extent = x } in
    let inside : 12 + (front + o) ≤ length b = omega (arith, r.ends, k.as_many, s.front.as_many, some) in
    let header = header_kept (front + o) number n b fits whole inside in
    let low : Agrees bytes new 0 8 = agrees_twice bytes b new 0 8 (k.agrees 0 8 (inl (omega arith))) (agrees_header (front + o) n b 0 8 (inl (omega arith))) in
    let f : Front new c = front_same bytes new c s.front (l ∙ k.as_many) low in
    let marks : part 8 (c / 16) new ≡ ms' =
    part_same b new 8 (c / 16) (omega (arith, k.as_many, m.before, m.front)) (omega (arith, l, k.as_many, m.before, m.front)) (agrees_header (front + o) n b 8 (8 + c / 16) (inl (omega (arith, m.before))))
    ∙ k.marks
    in
    let rest : AllBut bytes new front o (o + 16 * number) =
    record { agrees = λ p q h i. agrees_twice bytes b new p q (k.agrees p q (inr h)) (agrees_header (front + o) n b p q (beside front o number p q some i)) }
    in
    let same = granules_apart bytes new front o (o + 16 * number) (placed_in c bytes) rest (apart_from_others bytes number o some s.front r) in
    let others : placed_from front new 0 true ms ≡ gs =
    placed_moved bytes new front front 0 true ms (headers_same bytes new front front (placed_in c bytes) same) ∙ s.placed
    in
    let stands : Stands new c (with_kept n gs) =
    record {
      front = f;
      placed =
          ap (λ xs. placed_from front new 0 true xs) marks
          ∙ (placed_runs front new c 0 (o / 16) number o ms some r.lies r.free
          ∙ (ap (λ k. with_kept k (placed_from front new 0 true ms)) header ∙ ap (with_kept n) others));
    }
    in
    record {
      becomes = becomes bytes new c (with_kept n gs) (l ∙ k.as_many) stands;
      data_stay = data_same bytes new c c 0 c gs refl f.capacity_is (order_of bytes c gs s) (omega (arith, s.front.as_many)) (omega (arith, f.as_many)) (subst (λ hs. SameGranules bytes new front front hs) s.placed same);
      places_stay = places_same bytes new gs f.capacity_is;
    }
  where
    beside :
        (front o number p q : ℕ) → 1 ≤ number → (q ≤ front + o) ⊎ (front + (o + 16 * number) ≤ p) →
        (q ≤ front + o) ⊎ (12 + (front + o) ≤ p)
    beside front o number p q h (inl i) = inl i
    beside front o number p q h (inr i) = inr (omega (arith, h, i))

-- ---- freeing

pub freed_stands :
    (bytes : List ℕ) (gs : List Kept) (o : ℕ) (g : Kept) → Stands bytes (capacity_in bytes) gs → kept_at gs o ≡ Some g →
    Leaves granules (without_kept o gs) (capacity_in bytes) (without_kept o gs) bytes (without_generation g bytes)
freed_stands bytes gs o g s e =
    let c = capacity_in bytes in
    let front = front_for c in
    let ms = marks_in bytes in
    let m = marks_of bytes c s.front in
    let order = order_of bytes c gs s in
    let w = kept_where 0 c o gs g order e in
    let i = g.offset / 16 in
    let number = granules_of g.size in
    let whole : footprint g.size ≡ 16 * number = omega arith in
    let within : i + number ≤ length ms = omega (arith, w.offset, w.aligned, w.within, whole, m.as_many, m.whole) in
    let ms' = without_run i number ms in
    let k = remarked bytes c ms' s.front (length_without_run i number ms within ∙ m.as_many) in
    let new = without_generation g bytes in
    let moved = agrees_moved bytes new front 0 c (k.agrees (front + 0) (front + c) (inr (omega arith))) in
    let same = granules_within bytes new front front 0 c 0 c gs order moved (omega arith) (omega arith) in
    let others : placed_from front new 0 true ms ≡ gs =
    placed_moved bytes new front front 0 true ms (subst (λ hs. SameHeaders bytes new front front hs) (sym s.placed) (headers_same bytes new front front gs same))
    ∙ s.placed
    in
    let lies : Lies c 0 i o ms =
    record { there = omega (arith, w.offset, w.aligned); aligned = omega arith; within = omega (arith, m.as_many, m.whole) }
    in
    let there : kept_at (placed_from front new 0 true ms) o ≡ Some g = ap (λ hs. kept_at hs o) others ∙ e in
    let stands : Stands new c (without_kept o gs) =
    record {
      front = k.front;
      placed =
          ap (λ xs. placed_from front new 0 true xs) k.marks
          ∙ (freed_run front new c 0 i number o true ms g lies refl there ∙ ap (without_kept o) others);
    }
    in
    let left = order_of new c (without_kept o gs) stands in
    record {
      becomes = becomes bytes new c (without_kept o gs) k.as_many stands;
      data_stay = data_same bytes new c c 0 c (without_kept o gs) refl k.front.capacity_is left (omega (arith, s.front.as_many)) (omega (arith, k.front.as_many)) (granules_within bytes new front front 0 c 0 c (without_kept o gs) left moved (omega arith) (omega arith));
      places_stay = places_same bytes new (without_kept o gs) k.front.capacity_is;
    }

-- ---- copying

pub copied_stands :
    (from to : List ℕ) (gs hs : List Kept) → Stands from (capacity_in from) gs → Stands to (capacity_in to) hs →
    16 * used (marks_in from) ≤ capacity_in to →
    Becomes granules (capacity_in to) gs to (with_copy (used (marks_in from)) from to)
    × SameData granules gs from (with_copy (used (marks_in from)) from to)
copied_stands from to gs hs s t h =
    let source = capacity_in from in
    let target = capacity_in to in
    let f = front_for source in
    let g = front_for target in
    let ms = marks_in from in
    let n = used ms in
    let m = marks_of from source s.front in
    let q = marks_of to target t.front in
    let n_within : n ≤ length ms = used_within ms in
    let zeros : List ℕ = replicate (target / 16 - n) 0 in
    let ms' = take n ms ++ zeros in
    let many : length ms' ≡ target / 16 =
    omega (arith, h, length-append (take n ms) zeros, length-take-le n ms n_within, length_zeros (target / 16 - n), q.whole)
    in
    let b = with_marks ms' to in
    let k = remarked to target ms' t.front many in
    let piece = part f (16 * n) from in
    let inside : f + 16 * n ≤ length from = omega (arith, n_within, m.as_many, m.whole, s.front.as_many) in
    let outside : g + 16 * n ≤ length b = omega (arith, h, k.as_many, t.front.as_many) in
    let l : length piece ≡ 16 * n = length_part f (16 * n) from inside in
    let new = with_copy n from to in
    let as_many : length new ≡ length b = length_with_part piece g b (omega (arith, l, outside)) in
    let agrees : (p r : ℕ) → r ≤ g → Agrees b new p r = λ p r i. agrees_with_part piece g b p r (omega (arith, outside)) (inl i) in
    let front : Front new target =
    front_same to new target t.front (as_many ∙ k.as_many) (agrees_twice to b new 0 8 (k.agrees 0 8 (inl (omega arith))) (agrees 0 8 (omega arith)))
    in
    let marks : part 8 (target / 16) new ≡ ms' =
    part_same b new 8 (target / 16) (omega (arith, q.before, outside)) (omega (arith, as_many, q.before, outside)) (agrees 8 (8 + target / 16) q.before)
    ∙ k.marks
    in
    let moved : Moved from new f g 0 (16 * n) =
    record { same = λ j a i. byte_inside piece g b j (omega (arith, outside)) (omega (arith, i, l)) ∙ byte_part f (16 * n) from j i }
    in
    let last : last_end gs ≤ 16 * n = omega (arith, ap last_end (sym s.placed) ∙ end_same f from ms) in
    let near = order_copied 0 source (16 * n) gs (order_of from source gs s) (omega arith) last in
    let same = granules_within from new f g 0 (16 * n) 0 (16 * n) gs near moved (omega arith) (omega arith) in
    let others : placed_from g new 0 true ms ≡ gs =
    placed_moved from new f g 0 true ms (subst (λ ks. SameHeaders from new f g ks) (sym s.placed) (headers_same from new f g gs same))
    ∙ s.placed
    in
    let stands : Stands new target gs =
    record {
      front = front;
      placed =
          ap (λ xs. placed_from g new 0 true xs) marks
          ∙ (padded g new (target / 16 - n) 0 true (take n ms)
          ∙ (sym (padded g new (length ms - n) 0 true (take n ms))
          ∙ (ap (λ xs. placed_from g new 0 true xs) (sym (used_rest ms)) ∙ others)));
    }
    in
    (becomes to new target gs (as_many ∙ k.as_many) stands, data_same from new source target 0 (16 * n) gs refl front.capacity_is near inside (omega (arith, as_many, outside)) same)
  where
    length_zeros : (n : ℕ) → length {A = ℕ} (replicate n 0) ≡ n
    length_zeros n = length-replicate n 0

-- ---- data

pub written_stands :
    (bytes : List ℕ) (gs : List Kept) (o : ℕ) (g : Kept) (new : List ℕ) (at : ℕ) → Stands bytes (capacity_in bytes) gs →
    kept_at gs o ≡ Some g → 16 + front_for (capacity_in bytes) + o ≤ at →
    at + length new ≤ 16 + front_for (capacity_in bytes) + o + g.size →
    Leaves granules (without_kept o gs) (capacity_in bytes) gs bytes (with_part new at bytes)
    × (capacity_in (with_part new at bytes) ≡ capacity_in bytes)
written_stands bytes gs o g new at s e a b =
    let c = capacity_in bytes in
    let front = front_for c in
    let ms = marks_in bytes in
    let m = marks_of bytes c s.front in
    let order = order_of bytes c gs s in
    let w = kept_where 0 c o gs g order e in
    let after = with_part new at bytes in
    let last : at + length new ≤ length bytes = omega (arith, b, w.within, w.offset, s.front.as_many) in
    let l : length after ≡ length bytes = length_with_part new at bytes last in
    let low : (p q : ℕ) → q ≤ at → Agrees bytes after p q = λ p q i. agrees_with_part new at bytes p q (omega (arith, last)) (inl i) in
    let f : Front after c = front_same bytes after c s.front l (low 0 8 (omega (arith, a, m.before))) in
    let marks : part 8 (c / 16) after ≡ ms =
    part_same bytes after 8 (c / 16) (omega (arith, m.before, m.front)) (omega (arith, l, m.before, m.front)) (low 8 (8 + c / 16) (omega (arith, a, m.before)))
    in
    let rest : AllBut bytes after front (at - front) (at + length new - front) =
    record { agrees = λ p q h i. agrees_with_part new at bytes p q (omega (arith, last)) (beside front (length new) p q (omega (arith, a)) i) }
    in
    let x = written_apart bytes after front 0 c o (at - front) (at + length new - front) gs g order e (omega (arith, a)) (omega (arith, a, b)) rest in
    let placed : placed_from front after 0 true ms ≡ gs =
    placed_moved bytes after front front 0 true ms (subst (λ hs. SameHeaders bytes after front front hs) (sym s.placed) x.0) ∙ s.placed
    in
    let left = order_freed 0 c o gs order in (
      record {
        becomes = becomes bytes after c gs l (record { front = f; placed = ap (λ xs. placed_from front after 0 true xs) marks ∙ placed });
        data_stay = data_same bytes after c c 0 c (without_kept o gs) refl f.capacity_is left (omega (arith, s.front.as_many)) (omega (arith, f.as_many)) x.1;
        places_stay = places_same bytes after (without_kept o gs) f.capacity_is;
      },
      f.capacity_is,
    )
  where
    beside :
        (front count p q : ℕ) → front ≤ at → (q ≤ front + (at - front)) ⊎ (front + (at + count - front) ≤ p) →
        (q ≤ at) ⊎ (at + count ≤ p)
    beside front count p q h (inl i) = inl (omega (arith, h, i))
    beside front count p q h (inr i) = inr (omega (arith, h, i))
