-- Bytes that no storage takes, after changes; and the first state, in which nothing lives.
use Rattle.std.proofs.Common.{◌≡◌, ◌≢◌, ◌⊎◌, inl, inr, ℕ, ◌+◌, ◌≤◌, List, ◌∷◌, length, Some, Bool, true, false, sym, ap}
use Rattle.std.proofs.Common.{◌∙◌, subst, arith, ◌%◌, [], None, refl}
use Rattle.std.proofs.lemmas.Bool.{cases_eq, eqb-true}
use Rattle.std.specs.Prelude.{cond, ◌==◌}
use Rattle.pli_meaning.specs.StorageState.{State, Living, living_of, heap_serial, first_state, heap_capacity}
use Rattle.area_keeper.proofs.Agreement.{length_part}
use Rattle.area_keeper.specs.Keeper.{Keeper}
use Rattle.area_keeper.specs.KeeperLaws.{Keeps}
use Rattle.area_keeper.specs.KeptAreas.{part}
use Rattle.storage_relation.specs.Standing.{Holder, holder_of, heap_holder, holder_in, held, bytes_of, Stands}
use Rattle.storage_relation.specs.Stored.{Places, Beside, with_place, with_living, IsClear, made_if, taken_as, slice}
use Rattle.storage_relation.specs.Stored.{StoredAs, AreTold, IsUntold}
use Rattle.storage_relation.proofs.AreaLaws.{area_made}
use Rattle.storage_relation.proofs.Holders.{eqb-refl, eqb-other}
use Rattle.storage_relation.proofs.Turning.{Turns, some_same}

-- they are clear after a change of what one holds, after one more whose place is beside them, and after some ended
pub clear_turned :
    (k : Keeper) (π : Places) (s s' : State) (n : ℕ) (h h' : Holder) (at count : ℕ) → Turns k s s' n h h' →
    IsClear k π s at count → IsClear k π s' at count
clear_turned k π s s' n h h' at count t clear = ((λ j g e. by j g e (cases_eq j n)), clear.1)
  where
    by :
        (j : ℕ) (g : Holder) → held s' j ≡ Some g → (j ≡ n) ⊎ (j ≢ n) → Beside (π.at j) (bytes_of k g) at count
    by j g e (inl same) =
        let f : h' ≡ g = some_same (sym t.is ∙ subst (λ i. held s' i ≡ Some g) same e) in
        subst (λ i. Beside (π.at i) (bytes_of k g) at count) (sym same)
        (subst (λ c. Beside (π.at n) c at count) (sym t.size ∙ ap (bytes_of k) f) (clear.0 n h t.was))
    by j g e (inr other) = clear.0 j g (sym (t.others j other) ∙ e)

pub clear_fewer :
    (k : Keeper) (π : Places) (s s' : State) (at count : ℕ) →
    ((j : ℕ) (h : Holder) → held s' j ≡ Some h → held s j ≡ Some h) → IsClear k π s at count → IsClear k π s' at count
clear_fewer k π s s' at count less clear = ((λ j g e. clear.0 j g (less j g e)), clear.1)

pub clear_added :
    (k : Keeper) (π : Places) (s : State) (l : Living) (place number at count : ℕ) → l.serial ≢ heap_serial →
    Beside place (bytes_of k (holder_of l)) at count →
    IsClear k π s at count → IsClear k (with_place l.serial place number π) (with_living l s) at count
clear_added k π s l place number at count some beside clear = ((λ j g e. by j g e (cases_eq j l.serial)), clear.1)
  where
    here : held (with_living l s) l.serial ≡ Some (holder_of l)
    here =
        ap (λ q. cond q (Some (heap_holder s.heap)) (holder_in (living_of (l ∷ s.living) l.serial)))
        (eqb-other l.serial heap_serial some)
        ∙ ap (λ q. holder_in (cond q (Some l) (living_of s.living l.serial))) (eqb-refl l.serial)

    by :
        (j : ℕ) (g : Holder) → held (with_living l s) j ≡ Some g → (j ≡ l.serial) ⊎ (j ≢ l.serial) →
        Beside ((with_place l.serial place number π).at j) (bytes_of k g) at count
    by j g e (inl same) =
        let f : holder_of l ≡ g = some_same (sym here ∙ subst (λ i. held (with_living l s) i ≡ Some g) same e) in
        let p : (with_place l.serial place number π).at j ≡ place = ap (with_place l.serial place number π).at same
        ∙ ap (λ q. cond q place (π.at l.serial)) (eqb-refl l.serial) in
        subst (λ a. Beside a (bytes_of k g) at count) (sym p)
        (subst (λ h. Beside place (bytes_of k h) at count) f beside)
    by j g e (inr other) =
        let there : held (with_living l s) j ≡ held s j =
        ap (λ q. cond (j == heap_serial) (Some (heap_holder s.heap))
        (holder_in (cond q (Some l) (living_of s.living j)))) (eqb-other l.serial j (λ e. other (sym e)))
        in
        let p : (with_place l.serial place number π).at j ≡ π.at j =
        ap (λ q. cond q place (π.at j)) (eqb-other j l.serial other) in
        subst (λ a. Beside a (bytes_of k g) at count) (sym p) (clear.0 j g (sym there ∙ e))

pub stored_first :
    (k : Keeper) → Keeps k → (π : Places) (input m : List ℕ) → π.heap_made ≡ false →
    π.at 0 + k.bytes_for heap_capacity ≤ length m → π.low ≤ π.at 0 → π.at 0 % 4 ≡ 0 →
    AreTold π.constants π.low (π.at 0) m →
    StoredAs k π (first_state input) m
stored_first k keeps π input m unmade inside low four told =
    record {
      stands = λ n h e. by n h e (cases_eq n heap_serial);
      inside = λ n h e. let o = only n h e in subst (λ i. π.at i + bytes_of k h ≤ length m) (sym o.0)
          (subst (λ g. π.at 0 + bytes_of k g ≤ length m) o.1 inside);
      placed = λ n h e. let o = only n h e in subst (λ i. (π.low ≤ π.at i) × (π.at i % 4 ≡ 0)) (sym o.0) (low, four);
      apart = λ i j f g ne e1 e2. absurd (ne ((only i f e1).0 ∙ sym (only j g e2).0));
      told = λ n v e. let t = told n v e in let below = t.1 in (t.0, omega (arith, below, inside), t.2);
      untold = λ n h e. let o = only n h e in subst (λ i. IsUntold π (π.at i) (bytes_of k h)) (sym o.0)
          (λ p v is. inl (told p v is).1);
    }
  where
    only : (n : ℕ) (h : Holder) → held (first_state input) n ≡ Some h → (n ≡ 0) × (heap_holder [] ≡ h)
    only n h e = test (n == heap_serial) refl e
      where
        test : (q : Bool) → (n == heap_serial) ≡ q → cond q (Some (heap_holder [])) None ≡ Some h →
            (n ≡ 0) × (heap_holder [] ≡ h)
        test true q e = (eqb-true n heap_serial q, some_same e)
        test false q e = absurd (cc e)

    bytes : List ℕ
    bytes = part (π.at 0) (k.bytes_for heap_capacity) m

    empty : Stands k π.signatures (heap_holder []) (taken_as k π 0 (part (π.at 0) (k.bytes_for heap_capacity) m))
    empty =
        let r = area_made k π.signatures keeps heap_capacity (part (π.at 0) (k.bytes_for heap_capacity) m) (omega arith)
        (omega arith) (length_part (π.at 0) (k.bytes_for heap_capacity) m inside) in
        subst (λ q. Stands k π.signatures (heap_holder []) (made_if k q (part (π.at 0) (k.bytes_for heap_capacity) m)))
        (sym unmade) r.0

    by :
        (n : ℕ) (h : Holder) → held (first_state input) n ≡ Some h → (n ≡ heap_serial) ⊎ (n ≢ heap_serial) →
        Stands k π.signatures h (taken_as k π n (slice k π n h m))
    by n h e q =
        let o = only n h e in
        subst (λ i. Stands k π.signatures h (taken_as k π i (slice k π i h m))) (sym o.0)
        (subst (λ g. Stands k π.signatures g (taken_as k π 0 (slice k π 0 g m))) o.1 empty)
