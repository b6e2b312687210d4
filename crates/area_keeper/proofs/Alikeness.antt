-- Lists that are alike: the storage machine's functions give the same for both.
use Rattle.std.proofs.Common.{◌≡◌, ℕ, ◌+◌, ◌*◌, ◌/◌, ◌%◌, pos, ◌≤◌, List, [], ◌∷◌, Some, None, Bool, true, false, refl, sym, ap, ◌∙◌, subst, arith}
use Rattle.std.specs.Prelude.{◌↔◌, cond, nat_lt, ◌==◌}
use Rattle.pli_typing.specs.Signatures.{Character, scalar, footprint}
use Rattle.pli_meaning.specs.Contents.{Placed, fresh, footprint_of, end_of, gap_from, with_placed, without_offset, placed_at, greatest_end, IsOrdered}
use Rattle.area_keeper.specs.Keeper.{Kept}
use Rattle.area_keeper.specs.KeptAreas.{kept_end, InOrder, kept_at, with_kept, without_kept, Alike}
use Rattle.area_keeper.specs.KeeperLaws.{KeepsAlike}
use Rattle.area_keeper.specs.Chain.{room_from, last_end}

same_end : (g : Kept) (p : Placed) → g.offset ≡ p.offset → footprint g.size ≡ footprint_of p.generation → kept_end g ≡ end_of p
same_end g p a b = cc

pub same_room :
    (start from capacity bytes : ℕ) (gs : List Kept) (ps : List Placed) → start ≡ from → Alike gs ps →
    room_from start capacity bytes gs ≡ gap_from from capacity bytes ps
same_room start from capacity bytes [] [] e a = ap (λ s. gap_from s capacity bytes []) e
same_room start from capacity bytes [] (p ∷ ps) e a = absurd a
same_room start from capacity bytes (g ∷ gs) [] e a = absurd a
same_room start from capacity bytes (g ∷ gs) (p ∷ ps) e a =
    let rest = same_room (kept_end g) (end_of p) capacity bytes gs ps (same_end g p a.0 a.1) a.2 in
    let o = a.0 in
    cc

pub same_last : (gs : List Kept) (ps : List Placed) → Alike gs ps → last_end gs ≡ greatest_end ps
same_last [] [] a = refl
same_last [] (p ∷ ps) a = absurd a
same_last (g ∷ gs) [] a = absurd a
same_last (g ∷ gs) (p ∷ ps) a =
    let rest = same_last gs ps a.2 in
    let e = same_end g p a.0 a.1 in
    cc

alike_ordered :
    (start from capacity : ℕ) (gs : List Kept) (ps : List Placed) → start ≡ from → Alike gs ps → InOrder start capacity gs →
    IsOrdered from capacity ps
alike_ordered start from capacity [] [] e a i = omega (arith, e, i)
alike_ordered start from capacity [] (p ∷ ps) e a i = absurd a
alike_ordered start from capacity (g ∷ gs) [] e a i = absurd a
alike_ordered start from capacity (g ∷ gs) (p ∷ ps) e a i =
    let o = a.0 in
    let t = same_end g p a.0 a.1 in
    let q : p.offset % 16 ≡ 0 = ap (λ x. x % 16) (sym o) ∙ i.1 in
    let w : end_of p ≤ capacity = subst (λ x. x ≤ capacity) t i.2 in
    (omega (arith, e, o, i.0), q, w, alike_ordered (kept_end g) (end_of p) capacity gs ps t a.2 i.3)

alike_placed :
    (g : Kept) (p : Placed) (gs : List Kept) (ps : List Placed) → g.offset ≡ p.offset →
    footprint g.size ≡ footprint_of p.generation → Alike gs ps → Alike (with_kept g gs) (with_placed p ps)
alike_placed g p [] [] o f a = (o, f, tt)
alike_placed g p [] (q ∷ ps) o f a = absurd a
alike_placed g p (h ∷ gs) [] o f a = absurd a
alike_placed g p (h ∷ gs) (q ∷ ps) o f a =
    let x = a.0 in
    let e : nat_lt g.offset h.offset ≡ nat_lt p.offset q.offset = cc in
    by_test (nat_lt g.offset h.offset) (nat_lt p.offset q.offset) e (alike_placed g p gs ps o f a.2)
  where
    by_test :
        (s t : Bool) → s ≡ t → Alike (with_kept g gs) (with_placed p ps) →
        Alike (cond s (g ∷ h ∷ gs) (h ∷ with_kept g gs)) (cond t (p ∷ q ∷ ps) (q ∷ with_placed p ps))
    by_test true true e rest = (o, f, a)
    by_test false false e rest = (a.0, a.1, rest)
    by_test true false e rest = absurd (cc e)
    by_test false true e rest = absurd (cc e)

alike_freed : (o : ℕ) (gs : List Kept) (ps : List Placed) → Alike gs ps → Alike (without_kept o gs) (without_offset o ps)
alike_freed o [] [] a = tt
alike_freed o [] (p ∷ ps) a = absurd a
alike_freed o (g ∷ gs) [] a = absurd a
alike_freed o (g ∷ gs) (p ∷ ps) a =
    let x = a.0 in
    let e : (g.offset == o) ≡ (p.offset == o) = cc in
    by_test (g.offset == o) (p.offset == o) e (alike_freed o gs ps a.2)
  where
    by_test :
        (s t : Bool) → s ≡ t → Alike (without_kept o gs) (without_offset o ps) →
        Alike (cond s gs (g ∷ without_kept o gs)) (cond t ps (p ∷ without_offset o ps))
    by_test true true e rest = a.2
    by_test false false e rest = (a.0, a.1, rest)
    by_test true false e rest = absurd (cc e)
    by_test false true e rest = absurd (cc e)

found_alike : (o : ℕ) (gs : List Kept) (ps : List Placed) → Alike gs ps → (kept_at gs o ≡ None) ↔ (placed_at ps o ≡ None)
found_alike o [] [] a = (λ _. refl, λ _. refl)
found_alike o [] (p ∷ ps) a = absurd a
found_alike o (g ∷ gs) [] a = absurd a
found_alike o (g ∷ gs) (p ∷ ps) a =
    let x = a.0 in
    let e : (g.offset == o) ≡ (p.offset == o) = cc in
    by_test (g.offset == o) (p.offset == o) e (found_alike o gs ps a.2)
  where
    by_test :
        (s t : Bool) → s ≡ t → (kept_at gs o ≡ None) ↔ (placed_at ps o ≡ None) →
        (cond s (Some g) (kept_at gs o) ≡ None) ↔ (cond t (Some p.generation) (placed_at ps o) ≡ None)
    by_test true true e rest = (λ h. absurd (cc h), λ h. absurd (cc h))
    by_test false false e rest = rest
    by_test true false e rest = absurd (cc e)
    by_test false true e rest = absurd (cc e)

-- a text of the same size at the same offset
abbrev text_for : Kept → Placed
text_for g =
    record {
      offset = g.offset;
      generation = fresh (record { signature = scalar (Character g.size); refer = None }) (pos 0) [];
    }

text_footprint : (n : ℕ) → 16 + (n + 15) / 16 * 16 ≡ 16 + ((n + 3) / 4 * 4 * 1 + 0 + 15) / 16 * 16
text_footprint n = omega arith

some_alike : (gs : List Kept) → (ps : List Placed) × Alike gs ps
some_alike [] = ([], tt)
some_alike (g ∷ gs) = let rest = some_alike gs in (text_for g ∷ rest.0, (refl, text_footprint g.size, rest.1))

pub keeps_alike : KeepsAlike
keeps_alike =
    record {
      some = some_alike;
      ordered = λ capacity gs ps a i. alike_ordered 0 0 capacity gs ps refl a i;
      placed = λ g p gs ps e a. alike_placed g p gs ps e.0 e.1 a;
      freed = λ o gs ps a. alike_freed o gs ps a;
      found = λ o gs ps a. found_alike o gs ps a;
    }
