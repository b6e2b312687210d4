-- Generations stay in order where one is placed where there is room, and where the capacity is another.
use Rattle.std.proofs.Common.{◌≡◌, ℕ, ◌+◌, ◌%◌, ◌≤◌, List, [], ◌∷◌, Some, None, Bool, true, false, refl, sym, ap}
use Rattle.std.proofs.Common.{◌∙◌, subst, arith}
use Rattle.std.specs.Prelude.{cond, nat_le, nat_lt}
use Rattle.pli_typing.specs.Signatures.{footprint}
use Rattle.area_keeper.specs.Keeper.{Kept}
use Rattle.area_keeper.specs.KeptAreas.{kept_end, InOrder, with_kept}
use Rattle.area_keeper.specs.Chain.{room_from, last_end}
use Rattle.free_keeper.proofs.Tests.{le_tells, lt_false, lt_true}
use Rattle.free_keeper.proofs.Gaps.{aligned_end, room_least, Clear, AllClear}
use Rattle.free_keeper.specs.FreeList.{Free}

pub order_placed :
    (start c n : ℕ) (k : Kept) (gs : List Kept) → InOrder start c gs → start % 16 ≡ 0 → 16 ≤ n → footprint k.size ≡ n →
    room_from start c n gs ≡ Some k.offset → InOrder start c (with_kept k gs)
order_placed start c n k [] i a h f e = by_test (nat_le (start + n) c) refl e
  where
    by_test :
        (t : Bool) → nat_le (start + n) c ≡ t → cond t (Some start) None ≡ Some k.offset → InOrder start c (k ∷ [])
    by_test true t e =
        let q : start ≡ k.offset = cc e in
        let l = le_tells (start + n) c true t in
        (omega (arith, q), ap (λ x. x % 16) (sym q) ∙ a, omega (arith, q, l, f), omega (arith, q, l, f))
    by_test false t e = absurd (cc e)
order_placed start c n k (g ∷ gs) i a h f e =
    by_test (nat_le (start + n) g.offset) refl e (λ r. order_placed (kept_end g) c n k gs i.3 (aligned_end g i.1) h f r)
  where
    by_test :
        (t : Bool) → nat_le (start + n) g.offset ≡ t →
        cond t (Some start) (room_from (kept_end g) c n gs) ≡ Some k.offset →
        (room_from (kept_end g) c n gs ≡ Some k.offset → InOrder (kept_end g) c (with_kept k gs)) →
        InOrder start c (cond (nat_lt k.offset g.offset) (k ∷ g ∷ gs) (g ∷ with_kept k gs))
    by_test true t e rest =
        let q : start ≡ k.offset = cc e in
        let l = le_tells (start + n) g.offset true t in
        subst (λ b. InOrder start c (cond b (k ∷ g ∷ gs) (g ∷ with_kept k gs))) (sym (lt_true k.offset g.offset (omega
        (arith, q, l, h)))) (
          omega (arith, q),
          ap (λ x. x % 16) (sym q) ∙ a,
          omega (arith, q, l, f, i.2),
          (
            omega
                (arith, q, l, f),
            i.1,
            i.2,
            i.3,
          ),
        )
    by_test false t e rest =
        let w = room_least (kept_end g) c n k.offset gs i.3 e in
        subst (λ b. InOrder start c (cond b (k ∷ g ∷ gs) (g ∷ with_kept k gs))) (sym (lt_false k.offset g.offset
        (omega (arith, w)))) (i.0, i.1, i.2, rest e)

pub clear_placed :
    (fs : List Free) (k : Kept) (gs : List Kept) → AllClear fs (with_kept k gs) → Clear k.offset (kept_end k) fs
clear_placed fs k [] a = a.0
clear_placed fs k (g ∷ gs) a = by_test (nat_lt k.offset g.offset) a (λ r. clear_placed fs k gs r)
  where
    by_test :
        (t : Bool) → AllClear fs (cond t (k ∷ g ∷ gs) (g ∷ with_kept k gs)) →
        (AllClear fs (with_kept k gs) → Clear k.offset (kept_end k) fs) → Clear k.offset (kept_end k) fs
    by_test true a rest = a.0
    by_test false a rest = rest a.1

pub order_copied :
    (start capacity other : ℕ) (gs : List Kept) → InOrder start capacity gs → start ≤ other → last_end gs ≤ other →
    InOrder start other gs
order_copied start capacity other [] i h l = h
order_copied start capacity other (g ∷ gs) i h l =
    let a : kept_end g ≤ other = omega (arith, l) in
    (i.0, i.1, a, order_copied (kept_end g) capacity other gs i.3 a (omega (arith, l)))

pub last_within : (start capacity : ℕ) (gs : List Kept) → InOrder start capacity gs → last_end gs ≤ capacity
last_within start capacity [] i = omega arith
last_within start capacity (g ∷ gs) i = omega (arith, i.2, last_within (kept_end g) capacity gs i.3)

pub last_aligned : (start capacity : ℕ) (gs : List Kept) → InOrder start capacity gs → last_end gs % 16 ≡ 0
last_aligned start capacity [] i = refl
last_aligned start capacity (g ∷ gs) i =
    let r = last_aligned (kept_end g) capacity gs i.3 in
    let e = aligned_end g i.1 in
    omega (arith, r, e)
