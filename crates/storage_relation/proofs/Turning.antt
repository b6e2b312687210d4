-- What is stored after a write in one holder, and after one beside all.
use Rattle.std.proofs.Common.{◌≡◌, ◌≢◌, ◌⊎◌, inl, inr, ℕ, ◌+◌, ◌≤◌, List, length, Some, refl, sym, ap, ◌∙◌, subst}
use Rattle.std.proofs.Common.{arith}
use Rattle.std.proofs.lemmas.Bool.{cases_eq}
use Rattle.pli_meaning.specs.StorageState.{State}
use Rattle.std.specs.Prelude.{slice_index, ◌<◌}
use Rattle.area_keeper.proofs.Agreement.{length_with_part, byte_below, byte_past}
use Rattle.area_keeper.specs.Keeper.{Keeper}
use Rattle.area_keeper.specs.KeptAreas.{part, with_part}
use Rattle.storage_relation.proofs.Slices.{part_beside, part_around}
use Rattle.storage_relation.specs.Standing.{Holder, held, bytes_of, Stands}
use Rattle.storage_relation.specs.Stored.{Places, taken_as, Beside, slice, StoredAs, AreTold, IsUntold, IsClear}

-- the holder of one serial becomes another, of as many bytes, and all others stay
pub record Turns (k : Keeper) (s s' : State) (n : ℕ) (h h' : Holder) : Type 0 where
  pub was : held s n ≡ Some h
  pub is : held s' n ≡ Some h'
  pub others : (j : ℕ) → j ≢ n → held s' j ≡ held s j
  pub size : bytes_of k h' ≡ bytes_of k h

-- who holds a serial afterwards held it before, with as many bytes
before :
    (k : Keeper) (s s' : State) (n : ℕ) (h h' : Holder) → Turns k s s' n h h' → (j : ℕ) (g : Holder) →
    held s' j ≡ Some g →
    (f : Holder) × (held s j ≡ Some f) × (bytes_of k g ≡ bytes_of k f)
before k s s' n h h' t j g e = by (cases_eq j n)
  where
    by : (j ≡ n) ⊎ (j ≢ n) → (f : Holder) × (held s j ≡ Some f) × (bytes_of k g ≡ bytes_of k f)
    by (inl same) =
        let at : held s' n ≡ Some g = subst (λ i. held s' i ≡ Some g) same e in
        let x : h' ≡ g = some_same (sym t.is ∙ at) in
        (h, subst (λ i. held s i ≡ Some h) (sym same) t.was, ap (bytes_of k) (sym x) ∙ t.size)
      where
        some_same : {A : Type 0} {a b : A} → Some a ≡ Some b → a ≡ b
        some_same e = cc e
    by (inr other) = (g, sym (t.others j other) ∙ e, refl)

pub some_same : {A : Type 0} {a b : A} → Some a ≡ Some b → a ≡ b
some_same e = cc e

-- bytes that are told stay where something is written beside them
pub told_written :
    (π : Places) (m b : List ℕ) (at : ℕ) → AreTold π.constants π.low (length m) m → at + length b ≤ length m →
    IsUntold π at (length b) → AreTold π.constants π.low (length (with_part b at m)) (with_part b at m)
told_written π m b at told room untold n v e =
    let t = told n v e in
    let below = t.1 in
    let long = length_with_part b at m room in (t.0, omega (arith, below, long), by (untold n v e) ∙ t.2)
  where
    by : (n < at) ⊎ (at + length b ≤ n) → slice_index (with_part b at m) n ≡ slice_index m n
    by (inl low) = byte_below b at m n (omega (arith, room)) low
    by (inr high) = byte_past b at m n (omega (arith, room)) high

-- a write in a holder's bytes
pub stored_turned :
    (k : Keeper) (π : Places) (s s' : State) (m b : List ℕ) (x n : ℕ) (h h' : Holder) → StoredAs k π s m →
    Turns k s s' n h h' →
    x + length b ≤ bytes_of k h → Stands k π.signatures h' (taken_as k π n (with_part b x (slice k π n h m))) →
    StoredAs k π s' (with_part b (π.at n + x) m)
stored_turned k π s s' m b x n h h' is t room stands =
    record {
      stands = λ j g e. by_serial j g e (cases_eq j n);
      inside = λ j g e.
          let o = before k s s' n h h' t j g e in
          let i = is.inside j o.0 o.1 in
          omega (arith, i, long, o.2);
      placed = λ j g e. let o = before k s s' n h h' t j g e in is.placed j o.0 o.1;
      apart = λ i j f g ne e1 e2.
          let o = before k s s' n h h' t i f e1 in
          let p = before k s s' n h h' t j g e2 in
          subst (λ c. Beside (π.at i) c (π.at j) (bytes_of k g)) (sym o.2)
          (subst (λ c. Beside (π.at i) (bytes_of k o.0) (π.at j) c) (sym p.2)
          (is.apart i j o.0 p.0 ne o.1 p.1));
      told = told_written π m b (π.at n + x) is.told (omega (arith, own, room))
          (λ p v e. within p (is.untold n h t.was p v e));
      untold = λ j g e.
          let o = before k s s' n h h' t j g e in
          subst (λ c. IsUntold π (π.at j) c) (sym o.2) (is.untold j o.0 o.1);
    }
  where
    own : π.at n + bytes_of k h ≤ length m
    own = is.inside n h t.was

    long : length (with_part b (π.at n + x) m) ≡ length m
    long = length_with_part b (π.at n + x) m (omega (arith, own, room))

    within : (p : ℕ) → (p < π.at n) ⊎ (π.at n + bytes_of k h ≤ p) → (p < π.at n + x) ⊎ (π.at n + x + length b ≤ p)
    within p (inl low) = inl (omega (arith, low))
    within p (inr high) = inr (omega (arith, high, room))

    around : slice k π n h' (with_part b (π.at n + x) m) ≡ with_part b x (slice k π n h m)
    around =
        ap (λ c. part (π.at n) c (with_part b (π.at n + x) m)) t.size
        ∙ part_around (π.at n) (bytes_of k h) b x m room own

    by_serial :
        (j : ℕ) (g : Holder) → held s' j ≡ Some g → (j ≡ n) ⊎ (j ≢ n) →
        Stands k π.signatures g (taken_as k π j (slice k π j g (with_part b (π.at n + x) m)))
    by_serial j g e (inl same) =
        let at : held s' n ≡ Some g = subst (λ i. held s' i ≡ Some g) same e in
        let f : h' ≡ g = some_same (sym t.is ∙ at) in
        let here : Stands k π.signatures h' (taken_as k π n (slice k π n h' (with_part b (π.at n + x) m))) =
        subst (λ bytes. Stands k π.signatures h' (taken_as k π n bytes)) (sym around) stands
        in
        subst (λ i. Stands k π.signatures g (taken_as k π i (slice k π i g (with_part b (π.at n + x) m)))) (sym same)
        (subst (λ y. Stands k π.signatures y (taken_as k π n (slice k π n y (with_part b (π.at n + x) m)))) f here)
    by_serial j g e (inr other) =
        let there : held s j ≡ Some g = sym (t.others j other) ∙ e in
        let beside : Beside (π.at j) (bytes_of k g) (π.at n) (bytes_of k h) = is.apart j n g h other there t.was in
        let stays : slice k π j g (with_part b (π.at n + x) m) ≡ slice k π j g m =
        part_beside (π.at j) (bytes_of k g) b (π.at n + x) m (omega (arith, own, room)) (is.inside j g there)
        (aside beside)
        in
        subst (λ bytes. Stands k π.signatures g (taken_as k π j bytes)) (sym stays) (is.stands j g there)
      where
        aside :
            Beside (π.at j) (bytes_of k g) (π.at n) (bytes_of k h) →
            (π.at j + bytes_of k g ≤ π.at n + x) ⊎ (π.at n + x + length b ≤ π.at j)
        aside (inl l) = inl (omega (arith, l))
        aside (inr l) = inr (omega (arith, l, room))

-- what is written beside all that lives and all that is told leaves it
pub stored_beside :
    (k : Keeper) (π : Places) (s : State) (m b : List ℕ) (at : ℕ) → StoredAs k π s m → at + length b ≤ length m →
    IsClear k π s at (length b) → StoredAs k π s (with_part b at m)
stored_beside k π s m b at is room beside =
    record {
      stands = λ j g e.
          subst (λ bytes. Stands k π.signatures g (taken_as k π j bytes))
          (sym (part_beside (π.at j) (bytes_of k g) b at m room (is.inside j g e) (beside.0 j g e)))
          (is.stands j g e);
      inside = λ j g e. let i = is.inside j g e in omega (arith, i, length_with_part b at m room);
      placed = is.placed;
      apart = is.apart;
      told = told_written π m b at is.told room beside.1;
      untold = is.untold;
    }
