-- The offset that the storage machine finds for a generation is the least one that fits.
use Rattle.std.proofs.Common.{◌≡◌, ◌⊎◌, inl, inr, ℕ, ◌+◌, ◌*◌, ◌/◌, ◌%◌, ◌<◌, ◌≤◌, List, [], ◌∷◌, Some, None, Bool, true, false, refl, sym, ap, ◌∙◌, subst, arith}
use Rattle.std.specs.Prelude.{◌↔◌, ◌==◌, nat_le, nat_lt, cond}
use Rattle.std.proofs.lemmas.Bool.Decides.{nat_tests}
use Rattle.pli_meaning.specs.Contents.{Placed, footprint_of, end_of, AreApart, Fits, IsGap, IsOrdered, gap_from, gap, with_placed, without_offset, greatest_end}

ends_aligned : (o n : ℕ) → o % 16 ≡ 0 → (o + (16 + (n + 15) / 16 * 16)) % 16 ≡ 0
ends_aligned o n h = omega (arith, h)

at_most : (a b : ℕ) → nat_le a b ≡ true → a ≤ b
at_most a b e = grind (arith, nat_tests)

below : (a b : ℕ) → nat_lt a b ≡ true → a < b
below a b e = grind (arith, nat_tests)

not_below : (a b : ℕ) → nat_lt a b ≡ false → b ≤ a
not_below a b e = grind (arith, nat_tests)

above : (a b : ℕ) → nat_le a b ≡ false → b < a
above a b e = grind (arith, nat_tests)

-- what stands behind a place
behind : (x start capacity bytes : ℕ) (ps : List Placed) → IsOrdered x capacity ps → start + bytes ≤ x → AreApart start bytes ps
behind x start capacity bytes [] i j = tt
behind x start capacity bytes (p ∷ ps) i j =
    let a : start + bytes ≤ p.offset = omega (arith, i.0, j) in
    (inr a, behind (end_of p) start capacity bytes ps i.3 (omega (arith, a)))

-- all that ends where the generations go on ends within the capacity
within : (start capacity : ℕ) (ps : List Placed) → IsOrdered start capacity ps → start ≤ capacity
within start capacity [] i = i
within start capacity (p ∷ ps) i = omega (arith, i.0, i.2)

here : (start capacity bytes : ℕ) (p : Placed) (ps : List Placed) (o : ℕ) → start % 16 ≡ 0 → IsOrdered start capacity (p ∷ ps) → start + bytes ≤ p.offset → start ≡ o → (start ≤ o) × Fits capacity bytes (p ∷ ps) o
here start capacity bytes p ps o a i j e =
    let P : ℕ → Type 0 = λ x. (start ≤ x) × Fits capacity bytes (p ∷ ps) x in
    subst P e (
      omega arith,
      record {
        aligned = a;
        within = omega (arith, j, i.2);
        apart = (inr j, behind (end_of p) start capacity bytes ps i.3 (omega (arith, j)));
      },
    )

pub sound : (start capacity bytes : ℕ) (ps : List Placed) (o : ℕ) → start % 16 ≡ 0 → IsOrdered start capacity ps → gap_from start capacity bytes ps ≡ Some o → (start ≤ o) × Fits capacity bytes ps o
sound start capacity bytes [] o a i e = go (nat_le (start + bytes) capacity) refl e
  where
    go : (t : Bool) → nat_le (start + bytes) capacity ≡ t → cond t (Some start) None ≡ Some o → (start ≤ o) × Fits capacity bytes [] o
    go true t e =
        let f : start ≡ o = cc e in
        let P : ℕ → Type 0 = λ x. (start ≤ x) × Fits capacity bytes [] x in
        subst P f (omega arith, record { aligned = a; within = at_most (start + bytes) capacity t; apart = tt })
    go false t e = absurd (cc e)
sound start capacity bytes (p ∷ ps) o a i e =
    by_test start capacity bytes p ps o a i (nat_le (start + bytes) p.offset) refl e (λ f. sound (end_of p) capacity bytes ps o (ends_aligned p.offset _ i.1) i.3 f)
  where
    by_test : (start capacity bytes : ℕ) (p : Placed) (ps : List Placed) (o : ℕ) → start % 16 ≡ 0 → IsOrdered start capacity (p ∷ ps) → (t : Bool) → nat_le (start + bytes) p.offset ≡ t → cond t (Some start) (gap_from (end_of p) capacity bytes ps) ≡ Some o → (gap_from (end_of p) capacity bytes ps ≡ Some o → (end_of p ≤ o) × Fits capacity bytes ps o) → (start ≤ o) × Fits capacity bytes (p ∷ ps) o
    by_test start capacity bytes p ps o a i true t e rest = here start capacity bytes p ps o a i (at_most (start + bytes) p.offset t) (cc e)
    by_test start capacity bytes p ps o a i false t e rest =
        let r = rest e in
        (omega (arith, i.0, r.0), record { aligned = r.1.aligned; within = r.1.within; apart = (inl r.0, r.1.apart) })

-- an offset that fits from a place on, and the one that is found
pub found : (start capacity bytes : ℕ) (ps : List Placed) (other : ℕ) → IsOrdered start capacity ps → start ≤ other → Fits capacity bytes ps other → (o : ℕ) × (gap_from start capacity bytes ps ≡ Some o) × (o ≤ other)
found start capacity bytes [] other i h f = go (nat_le (start + bytes) capacity) refl
  where
    go : (t : Bool) → nat_le (start + bytes) capacity ≡ t → (o : ℕ) × (cond t (Some start) None ≡ Some o) × (o ≤ other)
    go true t = (start, refl, h)
    go false t = absurd (omega (arith, h, f.within, above (start + bytes) capacity t))
found start capacity bytes (p ∷ ps) other i h f =
    by_test start capacity bytes p ps other i h f (nat_le (start + bytes) p.offset) refl (λ g. found (end_of p) capacity bytes ps other i.3 g (record { aligned = f.aligned; within = f.within; apart = f.apart.1 }))
  where
    by_test : (start capacity bytes : ℕ) (p : Placed) (ps : List Placed) (other : ℕ) → IsOrdered start capacity (p ∷ ps) → start ≤ other → Fits capacity bytes (p ∷ ps) other → (t : Bool) → nat_le (start + bytes) p.offset ≡ t → (end_of p ≤ other → (o : ℕ) × (gap_from (end_of p) capacity bytes ps ≡ Some o) × (o ≤ other)) → (o : ℕ) × (cond t (Some start) (gap_from (end_of p) capacity bytes ps) ≡ Some o) × (o ≤ other)
    by_test start capacity bytes p ps other i h f true t rest = (start, refl, h)
    by_test start capacity bytes p ps other i h f false t rest = rest (past f.apart.0)
      where
        past : ((end_of p ≤ other) ⊎ (other + bytes ≤ p.offset)) → end_of p ≤ other
        past (inl x) = x
        past (inr x) = absurd (omega (arith, h, x, above (start + bytes) p.offset t))

-- ---- the laws

same_some : {m n : ℕ} → Some m ≡ Some n → m ≡ n
same_some e = cc e

pub exact : (capacity bytes : ℕ) (ps : List Placed) → IsOrdered 0 capacity ps → (o : ℕ) → (gap capacity bytes ps ≡ Some o) ↔ IsGap capacity bytes ps o
exact capacity bytes ps i o = (forth, back)
  where
    forth : gap capacity bytes ps ≡ Some o → IsGap capacity bytes ps o
    forth e =
        record {
          fits = (sound 0 capacity bytes ps o refl i e).1;
          least = λ other f. let r = found 0 capacity bytes ps other i (omega arith) f in omega (arith, r.2, same_some (sym r.1 ∙ e));
        }

    back : IsGap capacity bytes ps o → gap capacity bytes ps ≡ Some o
    back g =
        let r = found 0 capacity bytes ps o i (omega arith) g.fits in
        let f = (sound 0 capacity bytes ps r.0 refl i r.1).1 in
        let e : r.0 ≡ o = omega (arith, r.2, g.least r.0 f) in
        r.1 ∙ ap (λ x. Some x) e

-- a generation in the order of the others
pub kept_in_order : (start capacity : ℕ) (n : Placed) (ps : List Placed) → start ≤ n.offset → IsOrdered start capacity ps → Fits capacity (footprint_of n.generation) ps n.offset → IsOrdered start capacity (with_placed n ps)
kept_in_order start capacity n [] h i f = (h, f.aligned, f.within, f.within)
kept_in_order start capacity n (p ∷ ps) h i f =
    placed_by start capacity n p ps h i f (nat_lt n.offset p.offset) refl (λ g. kept_in_order (end_of p) capacity n ps g i.3 (record { aligned = f.aligned; within = f.within; apart = f.apart.1 }))
  where
    placed_by : (start capacity : ℕ) (n p : Placed) (ps : List Placed) → start ≤ n.offset → IsOrdered start capacity (p ∷ ps) → Fits capacity (footprint_of n.generation) (p ∷ ps) n.offset → (t : Bool) → nat_lt n.offset p.offset ≡ t → (end_of p ≤ n.offset → IsOrdered (end_of p) capacity (with_placed n ps)) → IsOrdered start capacity (cond t (n ∷ p ∷ ps) (p ∷ with_placed n ps))
    placed_by start capacity n p ps h i f true t rest = (h, f.aligned, f.within, (after f.apart.0, i.1, i.2, i.3))
      where
        after : ((end_of p ≤ n.offset) ⊎ (end_of n ≤ p.offset)) → end_of n ≤ p.offset
        after (inl x) = absurd (omega (arith, x, below n.offset p.offset t))
        after (inr x) = x
    placed_by start capacity n p ps h i f false t rest = (i.0, i.1, i.2, rest (before f.apart.0))
      where
        before : ((end_of p ≤ n.offset) ⊎ (end_of n ≤ p.offset)) → end_of p ≤ n.offset
        before (inl x) = x
        before (inr x) = absurd (omega (arith, x, not_below n.offset p.offset t))

pub placed_in_order : (capacity : ℕ) (n : Placed) (ps : List Placed) → IsOrdered 0 capacity ps → gap capacity (footprint_of n.generation) ps ≡ Some n.offset → IsOrdered 0 capacity (with_placed n ps)
placed_in_order capacity n ps i e =
    kept_in_order 0 capacity n ps (omega arith) i (sound 0 capacity (footprint_of n.generation) ps n.offset refl i e).1

weaker : (start from capacity : ℕ) (ps : List Placed) → start ≤ from → IsOrdered from capacity ps → IsOrdered start capacity ps
weaker start from capacity [] h i = omega (arith, h, i)
weaker start from capacity (p ∷ ps) h i = (omega (arith, h, i.0), i.1, i.2, i.3)

pub freed_in_order : (start capacity o : ℕ) (ps : List Placed) → IsOrdered start capacity ps → IsOrdered start capacity (without_offset o ps)
freed_in_order start capacity o [] i = i
freed_in_order start capacity o (p ∷ ps) i =
    freed_by start capacity o p ps i (p.offset == o) (freed_in_order (end_of p) capacity o ps i.3)
  where
    freed_by : (start capacity o : ℕ) (p : Placed) (ps : List Placed) → IsOrdered start capacity (p ∷ ps) → (t : Bool) → IsOrdered (end_of p) capacity (without_offset o ps) → IsOrdered start capacity (cond t ps (p ∷ without_offset o ps))
    freed_by start capacity o p ps i true rest = weaker start (end_of p) capacity ps (omega (arith, i.0)) i.3
    freed_by start capacity o p ps i false rest = (i.0, i.1, i.2, rest)

pub copied_in_order : (start capacity into : ℕ) (ps : List Placed) → IsOrdered start capacity ps → start ≤ into → greatest_end ps ≤ into → IsOrdered start into ps
copied_in_order start capacity into [] i h g = h
copied_in_order start capacity into (p ∷ ps) i h g =
    let a : end_of p ≤ into = omega (arith, g) in
    (i.0, i.1, a, copied_in_order (end_of p) capacity into ps i.3 a (omega (arith, g)))
