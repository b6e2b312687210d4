-- What calls make of an area is an area, whatever its keeper.
use Rattle.std.proofs.Common.{◌≡◌, ◌≢◌, ◌⊎◌, inl, inr, ℕ, ℤ, negsuc, ◌^◌, ◌<◌, ◌≤◌, List, Option, Some, None}
use Rattle.std.proofs.Common.{refl, sym, ap, subst, arith}
use Rattle.std.proofs.lemmas.Bool.{cases_lt, cases_order}
use Rattle.std.specs.Prelude.{IsSome, is_some, FitsSigned}
use Rattle.std.specs.Int.{w32}
use Rattle.pli_typing.specs.Signatures.{footprint}
use Rattle.pli_meaning.specs.Contents.{gap, greatest_end}
use Rattle.area_keeper.specs.Keeper.{Kept, KeptArea, Keeper}
use Rattle.area_keeper.specs.KeptAreas.{kept_at}
use Rattle.area_keeper.specs.KeeperLaws.{Keeps, KeepsAlike}
use Rattle.area_heap.specs.Answers.{placed_or, bytes_or}

is_there : (k : Keeper) (bytes : List ℕ) (a : KeptArea) → k.area_of bytes ≡ Some a → IsSome (k.area_of bytes)
is_there k bytes a e = ap is_some e

less : (m n : ℕ) → m < n → m ≢ n
less m n h e = omega (arith, h, e)

pub signature_fits : 5 < 2 ^ 32
signature_fits = omega (arith)

pub extent_fits : FitsSigned w32 (negsuc 2)
extent_fits = grind (arith)

pub still_placed :
    (k : Keeper) → Keeps k → KeepsAlike → (size signature : ℕ) (extent : ℤ) (bytes : List ℕ) →
    signature < 2 ^ 32 → FitsSigned w32 extent → IsSome (k.area_of bytes) →
    IsSome (k.area_of (placed_or bytes (k.allocated size signature extent bytes)))
still_placed k h alike size signature extent bytes sg x some = by_area (k.area_of bytes) refl some
  where
    by_area : (a : Option KeptArea) → k.area_of bytes ≡ a → IsSome a →
        IsSome (k.area_of (placed_or bytes (k.allocated size signature extent bytes)))
    by_area None e i = absurd (cc i)
    by_area (Some a) e i =
        let other = alike.some a.placed in
        by_gap (gap a.capacity (footprint size) other.0) refl
      where
        by_gap : (g : Option ℕ) → gap a.capacity (footprint size) (alike.some a.placed).0 ≡ g →
            IsSome (k.area_of (placed_or bytes (k.allocated size signature extent bytes)))
        by_gap None q =
            let other = alike.some a.placed in
            let r = h.allocating.refused size signature extent bytes a other.0 e other.1 q in
            subst (λ p. IsSome (k.area_of (placed_or bytes p))) (sym r) (is_there k bytes a e)
        by_gap (Some o) q =
            let other = alike.some a.placed in
            let found = h.allocating.placed size signature extent bytes a other.0 o e other.1 sg x q in
            subst (λ p. IsSome (k.area_of (placed_or bytes p))) (sym found.1)
            (is_there k found.0 _ found.2.becomes.stands)

pub still_freed :
    (k : Keeper) → Keeps k → (offset signature : ℕ) (bytes : List ℕ) → IsSome (k.area_of bytes) →
    IsSome (k.area_of (bytes_or bytes (k.freed offset signature bytes)))
still_freed k h offset signature bytes some = by_area (k.area_of bytes) refl some
  where
    by_area : (a : Option KeptArea) → k.area_of bytes ≡ a → IsSome a →
        IsSome (k.area_of (bytes_or bytes (k.freed offset signature bytes)))
    by_area None e i = absurd (cc i)
    by_area (Some a) e i = by_kept (kept_at a.placed offset) refl
      where
        unchanged : k.freed offset signature bytes ≡ None →
            IsSome (k.area_of (bytes_or bytes (k.freed offset signature bytes)))
        unchanged r = subst (λ p. IsSome (k.area_of (bytes_or bytes p))) (sym r) (is_there k bytes a e)

        by_kept : (g : Option Kept) → kept_at a.placed offset ≡ g →
            IsSome (k.area_of (bytes_or bytes (k.freed offset signature bytes)))
        by_kept None q = unchanged (h.freeing.absent offset signature bytes a e q)
        by_kept (Some g) q = by_signature (cases_order g.signature signature)
          where
            by_signature : (g.signature ≡ signature) ⊎ ((g.signature < signature) ⊎ (signature < g.signature)) →
                IsSome (k.area_of (bytes_or bytes (k.freed offset signature bytes)))
            by_signature (inl s) =
                let found = h.freeing.freed offset signature bytes a g e q s in
                subst (λ p. IsSome (k.area_of (bytes_or bytes p))) (sym found.1)
                (is_there k found.0 _ found.2.becomes.stands)
            by_signature (inr (inl s)) =
                unchanged (h.freeing.another offset signature bytes a g e q (less g.signature signature s))
            by_signature (inr (inr s)) =
                unchanged (h.freeing.another offset signature bytes a g e q (λ x. less signature g.signature s (sym x)))

pub still_copied :
    (k : Keeper) → Keeps k → KeepsAlike → (from to : List ℕ) → IsSome (k.area_of from) → IsSome (k.area_of to) →
    IsSome (k.area_of (bytes_or to (k.copied from to)))
still_copied k h alike from to some there = by_areas (k.area_of from) (k.area_of to) refl refl some there
  where
    by_areas : (s t : Option KeptArea) → k.area_of from ≡ s → k.area_of to ≡ t → IsSome s → IsSome t →
        IsSome (k.area_of (bytes_or to (k.copied from to)))
    by_areas None t e f i j = absurd (cc i)
    by_areas (Some s) None e f i j = absurd (cc j)
    by_areas (Some s) (Some t) e f i j = by_end (cases_lt t.capacity (greatest_end (alike.some s.placed).0))
      where
        by_end : (t.capacity < greatest_end (alike.some s.placed).0) ⊎
            (greatest_end (alike.some s.placed).0 ≤ t.capacity) →
            IsSome (k.area_of (bytes_or to (k.copied from to)))
        by_end (inr l) =
            let made = h.copying.copied from to s t (alike.some s.placed).0 e f (alike.some s.placed).1 l in
            subst (λ p. IsSome (k.area_of (bytes_or to p))) (sym made.1) (is_there k made.0 _ made.2.stands)
        by_end (inl l) =
            let r = h.copying.refused from to s t (alike.some s.placed).0 e f (alike.some s.placed).1 l in
            subst (λ p. IsSome (k.area_of (bytes_or to p))) (sym r) (is_there k to t f)
