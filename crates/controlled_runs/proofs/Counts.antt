-- A list of the storage machine's is no longer than the heap has bytes.
use Rattle.std.proofs.Common.{◌≡◌, ◌≢◌, ℕ, zero, suc, ◌+◌, ◌<◌, ◌≤◌, ◌^◌, List, [], ◌∷◌, ◌⊎◌, inl, inr, length, Bool}
use Rattle.std.proofs.Common.{Some, None, Option, true, false, refl, sym, ap, ◌∙◌, subst, arith}
use Rattle.std.proofs.lemmas.Bool.{cases_eq}
use Rattle.std.specs.Prelude.{cond, ⊤, ◌==◌}
use Rattle.pli_meaning.specs.Contents.{Generation, IsOrdered, Placed, end_of, footprint_of, placed_at}
use Rattle.pli_meaning.specs.StorageState.{State}
use Rattle.pli_serving.specs.ServiceState.{Controlled}
use Rattle.storage_relation.specs.Controlled.{AllLive, AreOnce, AreOther, offsets_in}
use Rattle.storage_relation.specs.Stored.{Places}
use Rattle.storage_relation.proofs.Holders.{eqb-refl, eqb-other}

abbrev pub AllBelow : (n : ℕ) → List ℕ → Type 0
AllBelow n [] = ⊤
AllBelow n (o ∷ os) = (o < n) × AllBelow n os

-- without one number, which stands in it once
abbrev less_one : ℕ → List ℕ → List ℕ
less_one n [] = []
less_one n (o ∷ os) = cond (o == n) os (o ∷ less_one n os)

record Lessened (n : ℕ) (os ls : List ℕ) : Type 0 where
  long : length os ≤ length ls + 1
  once : AreOnce ls
  below : AllBelow n ls
  other : (j : ℕ) → AreOther j os → AreOther j ls

others_below : (n : ℕ) (os : List ℕ) → AreOther n os → AllBelow (suc n) os → AllBelow n os
others_below n [] other below = tt
others_below n (o ∷ os) other below =
    let ne = other.0 in
    let few = below.0 in
    (by (cases_below o n few), others_below n os other.1 below.1)
  where
    cases_below : (o n : ℕ) → o < suc n → (o < n) ⊎ (o ≡ n)
    cases_below zero zero h = inr refl
    cases_below zero (suc n) h = inl (omega arith)
    cases_below (suc o) zero h = absurd (omega (arith, h))
    cases_below (suc o) (suc n) h = up (cases_below o n (omega (arith, h)))
      where
        up : (o < n) ⊎ (o ≡ n) → (suc o < suc n) ⊎ (suc o ≡ suc n)
        up (inl less) = inl (omega (arith, less))
        up (inr same) = inr (ap suc same)

    by : (o < n) ⊎ (o ≡ n) → o < n
    by (inl less) = less
    by (inr same) = absurd (other.0 same)

lessened : (n : ℕ) (os : List ℕ) → AreOnce os → AllBelow (suc n) os → Lessened n os (less_one n os)
lessened n [] once below =
    record { long = omega arith; once = tt; below = tt; other = λ j h. tt }
lessened n (o ∷ os) once below = by (cases_eq o n) (lessened n os once.1 below.1)
  where
    by : (o ≡ n) ⊎ (o ≢ n) → Lessened n os (less_one n os) → Lessened n (o ∷ os) (less_one n (o ∷ os))
    by (inl same) r =
        subst (λ q. Lessened n (o ∷ os) (cond q os (o ∷ less_one n os)))
        (sym (ap (λ i. i == n) same ∙ eqb-refl n))
        (record {
          long = omega arith;
          once = once.1;
          below = others_below n os (subst (λ i. AreOther i os) same once.0) below.1;
          other = λ j h. h.1;
        })
    by (inr ne) r =
        let long = r.long in
        subst (λ q. Lessened n (o ∷ os) (cond q os (o ∷ less_one n os))) (sym (eqb-other o n ne))
        (record {
          long = omega (arith, long);
          once = (r.other o once.0, r.once);
          below = ((others_below n (o ∷ []) (ne, tt) (below.0, tt)).0, r.below);
          other = λ j h. (h.0, r.other j h.1);
        })

pub once_few : (n : ℕ) (os : List ℕ) → AreOnce os → AllBelow n os → length os ≤ n
once_few zero [] once below = omega arith
once_few zero (o ∷ os) once below = let few = below.0 in absurd (omega (arith, few))
once_few (suc n) os once below =
    let r = lessened n os once below in
    let long = r.long in
    let rest = once_few n (less_one n os) r.once r.below in
    omega (arith, long, rest)

-- ---- the heap's offsets

placed_below :
    (start capacity o : ℕ) (ps : List Placed) (g : Generation) → IsOrdered start capacity ps →
    placed_at ps o ≡ Some g → o ≤ capacity
placed_below start capacity o [] g ordered e = absurd (cc e)
placed_below start capacity o (p ∷ ps) g ordered e =
    by (cases_eq p.offset o) (λ f. placed_below (end_of p) capacity o ps g ordered.3 f)
  where
    by : (p.offset ≡ o) ⊎ (p.offset ≢ o) → (placed_at ps o ≡ Some g → o ≤ capacity) → o ≤ capacity
    by (inl same) rest = let end = ordered.2 in omega (arith, end, same)
    by (inr ne) rest =
        rest (sym (ap (λ q. cond q (Some p.generation) (placed_at ps o)) (eqb-other p.offset o ne)) ∙ e)

pub live_below :
    (π : Places) (s : State) (capacity : ℕ) (ks : List Controlled) → IsOrdered 0 capacity s.heap → AllLive π s ks →
    AllBelow (capacity + 1) (offsets_in ks)
live_below π s capacity [] ordered live = tt
live_below π s capacity (k ∷ ks) ordered live =
    let few = placed_below 0 capacity k.offset s.heap live.0.generation ordered live.0.placed in
    (omega (arith, few), live_below π s capacity ks ordered live.1)
