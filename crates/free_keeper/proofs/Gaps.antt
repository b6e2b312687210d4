-- What generations leave free: where there is room in it, and what it becomes where one is placed or freed.
use Rattle.std.proofs.Common.{◌≡◌, ◌≢◌, ◌⊎◌, inl, inr, ℕ, ◌+◌, ◌-◌, ◌%◌, ◌<◌, ◌≤◌, max, List, [], ◌∷◌, ◌++◌, Option}
use Rattle.std.proofs.Common.{Some, None, Bool, true, false, refl, sym, ap, ◌∙◌, subst, arith}
use Rattle.std.specs.Prelude.{cond, nat_le, nat_lt, ◌==◌, if◌then◌else◌}
use Rattle.pli_typing.specs.Signatures.{footprint}
use Rattle.area_keeper.specs.Keeper.{Kept}
use Rattle.area_keeper.specs.KeptAreas.{kept_end, InOrder, kept_at, with_kept, without_kept}
use Rattle.area_keeper.specs.Chain.{room_from, last_end}
use Rattle.granule_keeper.proofs.Order.{kept_where}
use Rattle.free_keeper.proofs.Tests.{eq_false, eq_tells, eq_true, le_false, le_tells, le_true, lt_false, lt_tells}
use Rattle.free_keeper.proofs.Tests.{lt_true}
use Rattle.free_keeper.specs.FreeList.{Free, free, gap_before, gaps}

-- free blocks in order, of multiples of 16 bytes
abbrev pub Blocks : (start capacity : ℕ) → List Free → Type 0
Blocks start c [] = start ≤ c
Blocks start c (f ∷ fs) =
    (start ≤ f.offset) × (f.offset % 16 ≡ 0) × (16 ≤ f.size) × (f.size % 16 ≡ 0) × Blocks (f.offset + f.size) c fs

pub sooner : (start from c : ℕ) (fs : List Free) → start ≤ from → Blocks from c fs → Blocks start c fs
sooner start from c [] h b = omega (arith, h, b)
sooner start from c (f ∷ fs) h b = (omega (arith, h, b.0), b.1, b.2, b.3, b.4)

gap_blocks :
    (start end c : ℕ) (fs : List Free) → start % 16 ≡ 0 → end % 16 ≡ 0 → start ≤ end → Blocks end c fs →
    Blocks start c (gap_before start end fs)
gap_blocks start end c fs a e h b = by_test (nat_lt start end) refl
  where
    by_test : (t : Bool) → nat_lt start end ≡ t → Blocks start c (cond t (free start (end - start) ∷ fs) fs)
    by_test true t =
        let l = lt_tells start end true t in
        let q : start + (end - start) ≡ end = omega (arith, l) in
        (omega arith, a, omega (arith, a, e, l), omega (arith, a, e, l), subst (λ x. Blocks x c fs) (sym q) b)
    by_test false t = sooner start end c fs h b

pub aligned_end : (g : Kept) → g.offset % 16 ≡ 0 → kept_end g % 16 ≡ 0
aligned_end g h = omega (arith, h)

pub blocks_of :
    (start c : ℕ) (gs : List Kept) → start % 16 ≡ 0 → c % 16 ≡ 0 → InOrder start c gs → Blocks start c (gaps start c gs)
blocks_of start c [] a b i = gap_blocks start c c [] a b i (omega arith)
blocks_of start c (g ∷ gs) a b i =
    let rest = blocks_of (kept_end g) c gs (aligned_end g i.1) b i.3 in
    gap_blocks start g.offset c (gaps (kept_end g) c gs) a i.1 i.0 (sooner g.offset (kept_end g) c (gaps (kept_end g)
    c gs) (omega arith) rest)

-- ---- room

abbrev pub first_room : (needed : ℕ) → List Free → Option ℕ
first_room n [] = None
first_room n (f ∷ fs) = if nat_le n f.size then Some f.offset else first_room n fs

gap_room :
    (start end n : ℕ) (fs : List Free) (r : Option ℕ) → 1 ≤ n → r ≡ first_room n fs →
    cond (nat_le (start + n) end) (Some start) r ≡ first_room n (gap_before start end fs)
gap_room start end n fs r h e = by_test (nat_lt start end) refl
  where
    by_size :
        (t : Bool) → nat_le (start + n) end ≡ t → start < end →
        cond t (Some start) r ≡ cond (nat_le n (end - start)) (Some start) (first_room n fs)
    by_size true t l =
        sym (ap (λ b. cond b (Some start) (first_room n fs)) (le_true n (end - start) (omega (
          arith,
          l,
          le_tells
              (start + n) end true t,
        ))))
    by_size false t l =
        e ∙ sym (ap (λ b. cond b (Some start) (first_room n fs)) (le_false n (end - start) (omega (
          arith,
          l,
          le_tells
              (start + n) end false t,
        ))))

    by_test :
        (t : Bool) → nat_lt start end ≡ t →
        cond (nat_le (start + n) end) (Some start) r ≡ first_room n (cond t (free start (end - start) ∷ fs) fs)
    by_test true t = by_size (nat_le (start + n) end) refl (lt_tells start end true t)
    by_test false t =
        ap (λ b. cond b (Some start) r) (le_false (start + n) end (omega (arith, h, lt_tells start end false t))) ∙ e

pub room_gaps :
    (start c n : ℕ) (gs : List Kept) → 1 ≤ n → room_from start c n gs ≡ first_room n (gaps start c gs)
room_gaps start c n [] h = gap_room start c n [] None h refl
room_gaps start c n (g ∷ gs) h =
    gap_room start g.offset n (gaps (kept_end g) c gs) (room_from (kept_end g) c n gs) h (room_gaps (kept_end g) c n
    gs h)

pub room_least : (start c n o : ℕ) (gs : List Kept) → InOrder start c gs → room_from start c n gs ≡ Some o → start ≤ o
room_least start c n o [] i e = here (nat_le (start + n) c) e
  where
    here : (t : Bool) → cond t (Some start) None ≡ Some o → start ≤ o
    here true e = let q : start ≡ o = cc e in omega (arith, q)
    here false e = absurd (cc e)
room_least start c n o (g ∷ gs) i e = here (nat_le (start + n) g.offset) e (λ r. room_least (kept_end g) c n o gs i.3 r)
  where
    here :
        (t : Bool) → cond t (Some start) (room_from (kept_end g) c n gs) ≡ Some o →
        (room_from (kept_end g) c n gs ≡ Some o → kept_end g ≤ o) → start ≤ o
    here true e rest = let q : start ≡ o = cc e in omega (arith, q)
    here false e rest = omega (arith, i.0, rest e)

-- ---- a generation more

abbrev pub rest_of : (needed : ℕ) → Free → List Free → List Free
rest_of n f fs = if f.size == n then fs else free (f.offset + n) (f.size - n) ∷ fs

abbrev pub taken : (needed : ℕ) → List Free → List Free
taken n [] = []
taken n (f ∷ fs) = if nat_le n f.size then rest_of n f fs else f ∷ taken n fs

gap_taken :
    (start end n : ℕ) (fs : List Free) → 16 ≤ n → start + n ≤ end →
    gap_before start start (gap_before (start + n) end fs) ≡ taken n (gap_before start end fs)
gap_taken start end n fs h l =
    let f = free start (end - start) in
    ap (λ b. cond b (free start (start - start) ∷ gap_before (start + n) end fs) (gap_before (start + n) end fs))
    (lt_false start start (omega arith))
    ∙ (by_size (end - start == n) refl
    ∙ (sym (ap (λ b. cond b (rest_of n f fs) (f ∷ taken n fs)) (le_true n (end - start) (omega (arith, l))))
    ∙ sym (ap (λ b. taken n (cond b (f ∷ fs) fs)) (lt_true start end (omega (arith, h, l))))))
  where
    by_size :
        (t : Bool) → (end - start == n) ≡ t →
        gap_before (start + n) end fs ≡ cond t fs (free (start + n) (end - start - n) ∷ fs)
    by_size true t =
        ap (λ b. cond b (free (start + n) (end - (start + n)) ∷ fs) fs) (lt_false (start + n) end (omega (
          arith,
          l,
          eq_tells (end - start) n true t,
        )))
    by_size false t =
        let ne = eq_tells (end - start) n false t in
        let q : end - (start + n) ≡ end - start - n = omega arith in
        ap (λ b. cond b (free (start + n) (end - (start + n)) ∷ fs) fs) (lt_true (start + n) end (strict l ne))
        ∙ ap (λ x. free (start + n) x ∷ fs) q
      where
        strict : start + n ≤ end → end - start ≢ n → start + n < end
        strict l ne = omega (arith, l, ne)

gap_passed :
    (start end n : ℕ) (fs : List Free) → start ≤ end → end < start + n →
    gap_before start end (taken n fs) ≡ taken n (gap_before start end fs)
gap_passed start end n fs h l = by_test (nat_lt start end) refl
  where
    by_test :
        (t : Bool) → nat_lt start end ≡ t →
        cond t (free start (end - start) ∷ taken n fs) (taken n fs) ≡ taken n (cond t (free start (end - start) ∷ fs)
        fs)
    by_test true t =
        let f = free start (end - start) in
        sym (ap (λ b. cond b (rest_of n f fs) (f ∷ taken n fs)) (le_false n (end - start) (omega (
          arith,
          l,
          lt_tells
              start end true t,
        ))))
    by_test false t = refl

-- at the front of what is free before a place
placed_here :
    (start end n : ℕ) (k : Kept) (fs : List Free) → 16 ≤ n → footprint k.size ≡ n → k.offset ≡ start → start + n ≤ end →
    gap_before start k.offset (gap_before (kept_end k) end fs) ≡ taken n (gap_before start end fs)
placed_here start end n k fs h f e l =
    ap (λ x. gap_before start x (gap_before (x + footprint k.size) end fs)) e
    ∙ (ap (λ x. gap_before start start (gap_before (start + x) end fs)) f ∙ gap_taken start end n fs h l)

pub gaps_placed :
    (start c n : ℕ) (k : Kept) (gs : List Kept) → InOrder start c gs → 16 ≤ n → footprint k.size ≡ n →
    room_from start c n gs ≡ Some k.offset → gaps start c (with_kept k gs) ≡ taken n (gaps start c gs)
gaps_placed start c n k [] i h f e = by_test (nat_le (start + n) c) refl e
  where
    by_test :
        (t : Bool) → nat_le (start + n) c ≡ t → cond t (Some start) None ≡ Some k.offset →
        gap_before start k.offset (gap_before (kept_end k) c []) ≡ taken n (gap_before start c [])
    by_test true t e =
        let q : start ≡ k.offset = cc e in
        placed_here start c n k [] h f (sym q) (le_tells (start + n) c true t)
    by_test false t e = absurd (cc e)
gaps_placed start c n k (g ∷ gs) i h f e =
    by_test (nat_le (start + n) g.offset) refl e (λ r. gaps_placed (kept_end g) c n k gs i.3 h f r)
  where
    R : List Free
    R = gaps (kept_end g) c gs

    by_test :
        (t : Bool) → nat_le (start + n) g.offset ≡ t →
        cond t (Some start) (room_from (kept_end g) c n gs) ≡ Some k.offset →
        (room_from (kept_end g) c n gs ≡ Some k.offset →
        gaps (kept_end g) c (with_kept k gs) ≡ taken n (gaps (kept_end g) c gs)) →
        gaps start c (cond (nat_lt k.offset g.offset) (k ∷ g ∷ gs) (g ∷ with_kept k gs)) ≡ taken n (gap_before start
        g.offset R)
    by_test true t e rest =
        let q : start ≡ k.offset = cc e in
        let l = le_tells (start + n) g.offset true t in
        ap (λ b. gaps start c (cond b (k ∷ g ∷ gs) (g ∷ with_kept k gs))) (lt_true k.offset g.offset (omega (
          arith,
          q,
          l,
          h,
        )))
        ∙ placed_here start g.offset n k R h f (sym q) l
    by_test false t e rest =
        let w = room_least (kept_end g) c n k.offset gs i.3 e in
        ap (λ b. gaps start c (cond b (k ∷ g ∷ gs) (g ∷ with_kept k gs))) (lt_false k.offset g.offset (omega (
          arith,
          w,
        )))
        ∙ (ap (gap_before start g.offset) (rest e) ∙ gap_passed start g.offset n R i.0 (le_tells (start + n) g.offset
        false t))

-- ---- a generation less

abbrev pub join_next : (offset size : ℕ) → List Free → List Free
join_next o n [] = free o n ∷ []
join_next o n (f ∷ fs) = if f.offset == o + n then free o (n + f.size) ∷ fs else free o n ∷ f ∷ fs

abbrev pub joined : (offset size : ℕ) → List Free → List Free
joined o n [] = join_next o n []
joined o n (f ∷ fs) =
    if nat_lt o f.offset then join_next o n (f ∷ fs)
    else if f.offset + f.size == o then join_next f.offset (f.size + n) fs else f ∷ joined o n fs

abbrev Behind : (place : ℕ) → List Free → Type 0
Behind e [] = Unit {0}
Behind e (f ∷ fs) = e < f.offset

gap_behind : (e start end : ℕ) (fs : List Free) → e < start → Behind e fs → Behind e (gap_before start end fs)
gap_behind e start end fs h b = by_test (nat_lt start end)
  where
    by_test : (t : Bool) → Behind e (cond t (free start (end - start) ∷ fs) fs)
    by_test true = h
    by_test false = b

gaps_behind : (e start c : ℕ) (gs : List Kept) → InOrder start c gs → e < start → Behind e (gaps start c gs)
gaps_behind e start c [] i h = gap_behind e start c [] h tt
gaps_behind e start c (g ∷ gs) i h =
    gap_behind e start g.offset (gaps (kept_end g) c gs) h (gaps_behind e (kept_end g) c gs i.3 (omega (arith, i.0, h)))

-- nothing that it touches is behind it
alone : (o n e : ℕ) (fs : List Free) → o + n ≡ e → Behind e fs → join_next o n fs ≡ free o n ∷ fs
alone o n e [] q b = refl
alone o n e (f ∷ fs) q b =
    ap (λ t. cond t (free o (n + f.size) ∷ fs) (free o n ∷ f ∷ fs)) (eq_false f.offset (o + n) (omega (arith, q, b)))

-- nothing in front of it is free
in_front : (o n e : ℕ) (fs : List Free) → o < e → Behind e fs → joined o n fs ≡ join_next o n fs
in_front o n e [] h b = refl
in_front o n e (f ∷ fs) h b =
    ap (λ t. cond t (join_next o n (f ∷ fs)) (cond (f.offset + f.size == o) (join_next f.offset (f.size + n) fs) (f ∷
    joined o n fs))) (lt_true o f.offset (omega (arith, h, b)))

joined_gap :
    (start o n e : ℕ) (fs : List Free) → start ≤ o → 16 ≤ n → o + n ≤ e → Behind e fs →
    gap_before start e fs ≡ joined o n (gap_before start o (gap_before (o + n) e fs))
joined_gap start o n e fs h k l b = by_both (nat_lt start o) refl (nat_lt (o + n) e) refl
  where
    here : gap_before start e fs ≡ free start (e - start) ∷ fs
    here = ap (λ t. cond t (free start (e - start) ∷ fs) fs) (lt_true start e (omega (arith, h, k, l)))

    -- the gap in front of it ends where it begins
    touches :
        (gs : List Free) → start < o → joined o n (free start (o - start) ∷ gs) ≡ join_next start (o - start + n) gs
    touches gs s =
        ap (λ t. cond t (join_next o n (free start (o - start) ∷ gs)) (cond (start + (o - start) == o) (join_next
        start (o - start + n) gs) (free start (o - start) ∷ joined o n gs))) (lt_false o start (omega (arith, s)))
        ∙ ap (λ t. cond t (join_next start (o - start + n) gs) (free start (o - start) ∷ joined o n gs)) (eq_true
        (start + (o - start)) o (omega (arith, s)))

    by_both :
        (s : Bool) → nat_lt start o ≡ s → (t : Bool) → nat_lt (o + n) e ≡ t →
        gap_before start e fs
        ≡ joined o n (cond s (free start (o - start) ∷ cond t (free (o + n) (e - (o + n)) ∷ fs) fs) (cond t (free (o +
        n) (e - (o + n)) ∷ fs) fs))
    by_both true s true t =
        let a = lt_tells start o true s in
        let c = lt_tells (o + n) e true t in
        let x : e - start ≡ o - start + n + (e - (o + n)) = omega (arith, a, c) in
        let y : o + n ≡ start + (o - start + n) = omega (arith, a) in
        here
        ∙ (ap (λ z. free start z ∷ fs) x
        ∙ (sym (ap (λ z. cond z (free start (o - start + n + (e - (o + n))) ∷ fs) (free start (o - start + n) ∷ free
        (o + n) (e - (o + n)) ∷ fs)) (eq_true (o + n) (start + (o - start + n)) y))
        ∙ sym (touches (free (o + n) (e - (o + n)) ∷ fs) a)))
    by_both true s false t =
        let a = lt_tells start o true s in
        let c = lt_tells (o + n) e false t in
        let x : e - start ≡ o - start + n = omega (arith, a, c, l) in
        let y : start + (o - start + n) ≡ e = omega (arith, a, c, l) in
        here ∙ (ap (λ z. free start z ∷ fs) x ∙ (sym (alone start (o - start + n) e fs y b) ∙ sym (touches fs a)))
    by_both false s true t =
        let a = lt_tells start o false s in
        let c = lt_tells (o + n) e true t in
        let p : start ≡ o = omega (arith, a, h) in
        let x : e - o ≡ n + (e - (o + n)) = omega (arith, c) in
        here
        ∙ (ap (λ z. free z (e - z) ∷ fs) p
        ∙ (ap (λ z. free o z ∷ fs) x
        ∙ (sym (ap (λ z. cond z (free o (n + (e - (o + n))) ∷ fs) (free o n ∷ free (o + n) (e - (o + n)) ∷ fs))
        (eq_true (o + n) (o + n) refl))
        ∙ sym (ap (λ z. cond z (join_next o n (free (o + n) (e - (o + n)) ∷ fs)) (cond (o + n + (e - (o + n)) == o)
        (join_next (o + n) (e - (o + n) + n) fs) (free (o + n) (e - (o + n)) ∷ joined o n fs))) (lt_true o (o + n)
        (omega (arith, k)))))))
    by_both false s false t =
        let a = lt_tells start o false s in
        let c = lt_tells (o + n) e false t in
        let p : start ≡ o = omega (arith, a, h) in
        let x : e - o ≡ n = omega (arith, c, l) in
        let y : o + n ≡ e = omega (arith, c, l) in
        here
        ∙ (ap (λ z. free z (e - z) ∷ fs) p
        ∙ (ap (λ z. free o z ∷ fs) x ∙ (sym (alone o n e fs y b) ∙ sym (in_front o n e fs (omega (arith, k, y)) b))))

-- a gap that ends before it, where a generation is
gap_joined :
    (start h o n : ℕ) (fs : List Free) → start ≤ h → h < o →
    gap_before start h (joined o n fs) ≡ joined o n (gap_before start h fs)
gap_joined start h o n fs a b = by_test (nat_lt start h) refl
  where
    by_test :
        (t : Bool) → nat_lt start h ≡ t →
        cond t (free start (h - start) ∷ joined o n fs) (joined o n fs) ≡ joined o n (cond t (free start (h - start) ∷
        fs) fs)
    by_test true t =
        let l = lt_tells start h true t in
        sym (ap (λ z. cond z (join_next o n (free start (h - start) ∷ fs)) (cond (start + (h - start) == o) (join_next
        start (h - start + n) fs) (free start (h - start) ∷ joined o n fs))) (lt_false o start (omega (arith, l, b)))
        ∙ ap (λ z. cond z (join_next start (h - start + n) fs) (free start (h - start) ∷ joined o n fs)) (eq_false
        (start + (h - start)) o (omega (arith, l, b))))
    by_test false t = refl

freed_first :
    (start c o n : ℕ) (gs : List Kept) → start ≤ o → 16 ≤ n → InOrder (o + n) c gs →
    gaps start c gs ≡ joined o n (gap_before start o (gaps (o + n) c gs))
freed_first start c o n [] h k i = joined_gap start o n c [] h k i tt
freed_first start c o n (g ∷ gs) h k i =
    joined_gap start o n g.offset (gaps (kept_end g) c gs) h k i.0 (gaps_behind g.offset (kept_end g) c gs i.3 (omega
    arith))

pub gaps_freed :
    (start c o : ℕ) (gs : List Kept) (g : Kept) → InOrder start c gs → kept_at gs o ≡ Some g →
    gaps start c (without_kept o gs) ≡ joined o (footprint g.size) (gaps start c gs)
gaps_freed start c o [] g i e = absurd (cc e)
gaps_freed start c o (h ∷ gs) g i e =
    by_test (h.offset == o) refl e (λ f. gaps_freed (kept_end h) c o gs g i.3 f)
  where
    by_test :
        (t : Bool) → (h.offset == o) ≡ t → cond t (Some h) (kept_at gs o) ≡ Some g →
        (kept_at gs o ≡ Some g → gaps (kept_end h) c (without_kept o gs) ≡ joined o (footprint g.size) (gaps (kept_end
        h) c gs)) →
        gaps start c (cond t gs (h ∷ without_kept o gs)) ≡ joined o (footprint g.size) (gap_before start h.offset
        (gaps (kept_end h) c gs))
    by_test true t e rest =
        let q : h ≡ g = cc e in
        let p = eq_tells h.offset o true t in
        let there = freed_first start c h.offset (footprint h.size) gs i.0 (omega arith) i.3 in
        there
        ∙ (ap (λ x. joined x (footprint h.size) (gap_before start h.offset (gaps (kept_end h) c gs))) p
        ∙ ap (λ (y : Kept). joined o (footprint y.size) (gap_before start h.offset (gaps (kept_end h) c gs))) q)
    by_test false t e rest =
        let w = kept_where (kept_end h) c o gs g i.3 e in
        ap (gap_before start h.offset) (rest e)
        ∙ gap_joined start h.offset o (footprint g.size) (gaps (kept_end h) c gs) i.0 (omega (arith, w.behind))

-- ---- what is free in front of the last generation

abbrev pub inner : (start : ℕ) → List Kept → List Free
inner start [] = []
inner start (g ∷ gs) = gap_before start g.offset (inner (kept_end g) gs)

abbrev pub final : (start : ℕ) → List Kept → ℕ
final start [] = start
final start (g ∷ gs) = final (kept_end g) gs

gap_append : (start end : ℕ) (fs gs : List Free) → gap_before start end (fs ++ gs) ≡ gap_before start end fs ++ gs
gap_append start end fs gs = by_test (nat_lt start end)
  where
    by_test :
        (t : Bool) → cond t (free start (end - start) ∷ (fs ++ gs)) (fs ++ gs) ≡ cond t (free start (end - start) ∷
        fs) fs ++ gs
    by_test true = refl
    by_test false = refl

pub gaps_inner :
    (start c : ℕ) (gs : List Kept) → gaps start c gs ≡ inner start gs ++ gap_before (final start gs) c []
gaps_inner start c [] = refl
gaps_inner start c (g ∷ gs) =
    ap (gap_before start g.offset) (gaps_inner (kept_end g) c gs)
    ∙ gap_append start g.offset (inner (kept_end g) gs) (gap_before (final (kept_end g) gs) c [])

pub final_last : (start c : ℕ) (gs : List Kept) → InOrder start c gs → final start gs ≡ max start (last_end gs)
final_last start c [] i = omega arith
final_last start c (g ∷ gs) i = omega (arith, i.0, final_last (kept_end g) c gs i.3)

-- no gap in front of a generation ends with the capacity
abbrev pub Short : (capacity : ℕ) → List Free → Type 0
Short c [] = Unit {0}
Short c (f ∷ fs) = (f.offset + f.size < c) × Short c fs

pub inner_short : (start c : ℕ) (gs : List Kept) → InOrder start c gs → Short c (inner start gs)
inner_short start c [] i = tt
inner_short start c (g ∷ gs) i = by_test (nat_lt start g.offset) refl (inner_short (kept_end g) c gs i.3)
  where
    by_test :
        (t : Bool) → nat_lt start g.offset ≡ t → Short c (inner (kept_end g) gs) →
        Short c (cond t (free start (g.offset - start) ∷ inner (kept_end g) gs) (inner (kept_end g) gs))
    by_test true t rest = (omega (arith, i.2, lt_tells start g.offset true t), rest)
    by_test false t rest = rest

pub inner_blocks :
    (start c : ℕ) (gs : List Kept) → start % 16 ≡ 0 → InOrder start c gs →
    Blocks start (final start gs) (inner start gs)
inner_blocks start c [] a i = omega arith
inner_blocks start c (g ∷ gs) a i =
    let rest = inner_blocks (kept_end g) c gs (aligned_end g i.1) i.3 in
    gap_blocks start g.offset (final (kept_end g) gs) (inner (kept_end g) gs) a i.1 i.0 (sooner g.offset (kept_end g)
    (final (kept_end g) gs) (inner (kept_end g) gs) (omega arith) rest)

-- ---- generations and gaps are apart

abbrev pub Clear : (from to : ℕ) → List Free → Type 0
Clear a b [] = Unit {0}
Clear a b (f ∷ fs) = ((f.offset + f.size ≤ a) ⊎ (b ≤ f.offset)) × Clear a b fs

pub clear_behind : (a b start c : ℕ) (fs : List Free) → Blocks start c fs → b ≤ start → Clear a b fs
clear_behind a b start c [] h l = tt
clear_behind a b start c (f ∷ fs) h l =
    (inr (omega (arith, h.0, l)), clear_behind a b (f.offset + f.size) c fs h.4 (omega (arith, h.0, l)))

pub clear_within : (a b x y : ℕ) (fs : List Free) → Clear a b fs → a ≤ x → y ≤ b → Clear x y fs
clear_within a b x y [] h l m = tt
clear_within a b x y (f ∷ fs) h l m = (side h.0, clear_within a b x y fs h.1 l m)
  where
    side : (f.offset + f.size ≤ a) ⊎ (b ≤ f.offset) → (f.offset + f.size ≤ x) ⊎ (y ≤ f.offset)
    side (inl i) = inl (omega (arith, i, l))
    side (inr i) = inr (omega (arith, i, m))

abbrev pub AllClear : List Free → List Kept → Type 0
AllClear fs [] = Unit {0}
AllClear fs (g ∷ gs) = Clear g.offset (kept_end g) fs × AllClear fs gs

clear_gap :
    (a b start end : ℕ) (fs : List Free) → end ≤ a → Clear a b fs → Clear a b (gap_before start end fs)
clear_gap a b start end fs h r = by_test (nat_lt start end) refl
  where
    by_test : (t : Bool) → nat_lt start end ≡ t → Clear a b (cond t (free start (end - start) ∷ fs) fs)
    by_test true t = (inl (omega (arith, h, lt_tells start end true t)), r)
    by_test false t = r

all_clear_gap :
    (start end from c : ℕ) (fs : List Free) (gs : List Kept) → InOrder from c gs → end ≤ from → AllClear fs gs →
    AllClear (gap_before start end fs) gs
all_clear_gap start end from c fs [] i h r = tt
all_clear_gap start end from c fs (g ∷ gs) i h r = (
  clear_gap g.offset (kept_end g) start end fs (omega (arith, i.0, h)) r.0,
  all_clear_gap start end (kept_end g) c
      fs gs i.3 (omega (arith, i.0, h)) r.1,
)

pub all_clear :
    (start c : ℕ) (gs : List Kept) → start % 16 ≡ 0 → c % 16 ≡ 0 → InOrder start c gs → AllClear (gaps start c gs) gs
all_clear start c [] a b i = tt
all_clear start c (g ∷ gs) a b i =
    let R = gaps (kept_end g) c gs in
    let blocks = blocks_of (kept_end g) c gs (aligned_end g i.1) b i.3 in (
      clear_gap g.offset (kept_end g) start g.offset R (omega arith) (clear_behind g.offset (kept_end g) (kept_end g) c
          R blocks (omega arith)),
      all_clear_gap start g.offset (kept_end g) c R gs i.3 (omega arith) (all_clear (kept_end
          g) c gs (aligned_end g i.1) b i.3),
    )

pub clear_at :
    (fs : List Free) (gs : List Kept) (o : ℕ) (g : Kept) → AllClear fs gs → kept_at gs o ≡ Some g →
    Clear g.offset (kept_end g) fs
clear_at fs [] o g a e = absurd (cc e)
clear_at fs (h ∷ gs) o g a e = by_test (h.offset == o) e (λ f. clear_at fs gs o g a.1 f)
  where
    by_test :
        (t : Bool) → cond t (Some h) (kept_at gs o) ≡ Some g → (kept_at gs o ≡ Some g →
        Clear g.offset (kept_end g) fs) →
        Clear g.offset (kept_end g) fs
    by_test true e rest = let q : h ≡ g = cc e in subst (λ (y : Kept). Clear y.offset (kept_end y) fs) q a.0
    by_test false e rest = rest e
