-- What lives, memory aside: serials, signatures and extents after changes; and where what an activation owns stands.
use Rattle.std.proofs.Common.{◌≡◌, ◌≢◌, ◌⊎◌, inl, inr, ℕ, ◌+◌, ◌≤◌, pos, List, [], ◌∷◌, Option, Some, None, Bool, true}
use Rattle.std.proofs.Common.{false, refl, sym, ap, ◌∙◌, subst, arith}
use Rattle.std.proofs.lemmas.Bool.{cases_eq, eqb-true}
use Rattle.std.specs.Prelude.{cond, ◌==◌}
use Rattle.pli_meaning.specs.Contents.{Generation, Placed}
use Rattle.pli_meaning.specs.StorageState.{State, Living, living_of, living_changed, generation_changed, area_changed}
use Rattle.pli_meaning.specs.StorageState.{without_owner, heap_serial}
use Rattle.pli_types.specs.Templates.{Template}
use Rattle.area_keeper.specs.Keeper.{Keeper}
use Rattle.pli_serving.specs.Templates.{shape_at}
use Rattle.storage_relation.proofs.Holders.{eqb-refl, eqb-other, living_of-changed, living_of-others}
use Rattle.storage_relation.proofs.Placing.{none_above, falling_without, without_less}
use Rattle.storage_relation.proofs.Turning.{some_same}
use Rattle.storage_relation.specs.Standing.{Holder, heap_holder, holder_in, holder_of, bytes_of}
use Rattle.storage_relation.specs.Stored.{Places, Beside, AreFalling, Lives, with_place, Extends, with_signatures}
use Rattle.storage_relation.specs.Stored.{IsClear, IsUntold, Region, InRegions}

-- ---- changes of one that lives

falling_changed :
    (above n : ℕ) (change : Living → Living) (ls : List Living) → ((x : Living) → (change x).serial ≡ x.serial) →
    AreFalling above ls → AreFalling above (living_changed n change ls)
falling_changed above n change [] same f = tt
falling_changed above n change (l ∷ ls) same f = by (l.serial == n) (falling_changed l.serial n change ls same f.2)
  where
    by :
        (q : Bool) → AreFalling l.serial (living_changed n change ls) →
        AreFalling above (cond q (change l ∷ ls) (l ∷ living_changed n change ls))
    by true rest =
        let e = same l in
        let a = f.0 in
        let b = f.1 in
        (omega (arith, e, a), omega (arith, e, b), subst (λ i. AreFalling i ls) (sym e) f.2)
    by false rest = (f.0, f.1, rest)

-- whatever changes, but not its serial, shape and extent
pub record Stays (change : Living → Living) : Type 0 where
  pub serial : (x : Living) → (change x).serial ≡ x.serial
  pub shape : (x : Living) → (change x).generation.shape ≡ x.generation.shape
  pub extent : (x : Living) → (change x).generation.extent ≡ x.generation.extent

changed_from :
    (n j : ℕ) (change : Living → Living) (ls : List Living) (l : Living) →
    ((x : Living) → (change x).serial ≡ x.serial) → living_of (living_changed n change ls) j ≡ Some l →
    (x : Living) × (living_of ls j ≡ Some x) × ((l ≡ x) ⊎ (l ≡ change x))
changed_from n j change ls l same e = by (cases_eq j n) (living_of ls j) refl
  where
    by :
        (j ≡ n) ⊎ (j ≢ n) → (o : Option Living) → living_of ls j ≡ o → (x : Living) × (living_of ls j ≡ Some x)
        × ((l ≡ x) ⊎ (l ≡ change x))
    by (inr ne) o f = (l, sym (living_of-others n j change ls same ne) ∙ e, inl refl)
    by (inl eq) (Some x) f =
        let g : living_of ls n ≡ Some x = subst (λ i. living_of ls i ≡ Some x) eq f in
        let h = living_of-changed n change ls x same g in
        let k : living_of (living_changed n change ls) n ≡ Some l =
        subst (λ i. living_of (living_changed n change ls) i ≡ Some l) eq e in
        (x, f, inr (some_same (sym k ∙ h)))
    by (inl eq) None f =
        let g : living_of ls n ≡ None = subst (λ i. living_of ls i ≡ None) eq f in
        let k : living_of (living_changed n change ls) n ≡ Some l =
        subst (λ i. living_of (living_changed n change ls) i ≡ Some l) eq e in
        absurd (none n change ls l same g k)
      where
        none :
            (n : ℕ) (change : Living → Living) (ls : List Living) (l : Living) →
            ((x : Living) → (change x).serial ≡ x.serial) → living_of ls n ≡ None →
            living_of (living_changed n change ls) n ≡ Some l → ⊥
        none n change [] l same a b = cc b
        none n change (x ∷ ls) l same a b = one (x.serial == n) refl a b (λ c d. none n change ls l same c d)
          where
            one :
                (q : Bool) → (x.serial == n) ≡ q → cond q (Some x) (living_of ls n) ≡ None →
                living_of (cond q (change x ∷ ls) (x ∷ living_changed n change ls)) n ≡ Some l →
                (living_of ls n ≡ None → living_of (living_changed n change ls) n ≡ Some l → ⊥) → ⊥
            one true q a b rest = cc a
            one false q a b rest = rest a (sym (ap (λ r. cond r (Some x) (living_of (living_changed n change ls) n)) q)
                ∙ b)

pub lives_changed :
    (π : Places) (s : State) (n : ℕ) (change : Living → Living) → Stays change → Lives π s →
    Lives π (record s { living = living_changed n change s.living })
lives_changed π s n change stays is =
    record {
      falling = falling_changed (s.serials + 1) n change s.living stays.serial is.falling;
      numbered = λ j l e.
          let r = changed_from n j change s.living l stays.serial e in
          is.numbered j r.0 r.1 ∙ ap Some (sym (shape_of l r.0 r.2));
      extents = λ j l e.
          let r = changed_from n j change s.living l stays.serial e in
          extent_of l r.0 r.2 ∙ is.extents j r.0 r.1;
    }
  where
    shape_of : (l x : Living) → (l ≡ x) ⊎ (l ≡ change x) → l.generation.shape ≡ x.generation.shape
    shape_of l x (inl e) = ap (λ (y : Living). y.generation.shape) e
    shape_of l x (inr e) = ap (λ (y : Living). y.generation.shape) e ∙ stays.shape x

    extent_of : (l x : Living) → (l ≡ x) ⊎ (l ≡ change x) → l.generation.extent ≡ x.generation.extent
    extent_of l x (inl e) = ap (λ (y : Living). y.generation.extent) e
    extent_of l x (inr e) = ap (λ (y : Living). y.generation.extent) e ∙ stays.extent x

pub stays_generation :
    (change : Generation → Generation) → ((y : Generation) → (change y).shape ≡ y.shape) →
    ((y : Generation) → (change y).extent ≡ y.extent) → Stays (generation_changed change)
stays_generation change a b = record { serial = λ x. refl; shape = λ x. a x.generation; extent = λ x. b x.generation }

pub stays_area : (change : List Placed → List Placed) → Stays (area_changed change)
stays_area change = record { serial = λ x. refl; shape = λ x. refl; extent = λ x. refl }

-- ---- one more, and fewer

pub lives_added :
    (π : Places) (s : State) (l : Living) (place number : ℕ) → l.serial ≡ s.serials + 1 → l.generation.extent ≡ pos 0 →
    shape_at π.signatures number ≡ Some l.generation.shape → Lives π s →
    Lives (with_place l.serial place number π) (record s { serials = s.serials + 1; living = l ∷ s.living })
lives_added π s l place number serial extent shape is =
    record {
      falling = (
        omega (arith, serial),
        omega (arith, serial),
        subst (λ i. AreFalling i s.living) (sym serial) is.falling,
      );
      numbered = λ j x e. numbered_by j x (l.serial == j) refl e;
      extents = λ j x e. extent_by j x (l.serial == j) e;
    }
  where
    numbered_by :
        (j : ℕ) (x : Living) (q : Bool) → (l.serial == j) ≡ q → cond q (Some l) (living_of s.living j) ≡ Some x →
        shape_at π.signatures ((with_place l.serial place number π).number j) ≡ Some x.generation.shape
    numbered_by j x true q e =
        let f : l ≡ x = cc e in
        let same : l.serial ≡ j = eqb-true l.serial j q in
        let n : (with_place l.serial place number π).number j ≡ number =
        ap (with_place l.serial place number π).number (sym same)
        ∙ ap (λ t. cond t number (π.number l.serial)) (eqb-refl l.serial) in
        ap (shape_at π.signatures) n ∙ shape ∙ ap (λ (y : Living). Some y.generation.shape) f
    numbered_by j x false q e =
        let below = none_above (s.serials + 1) s.living j x is.falling e in
        let ne : j ≢ l.serial = omega (arith, below, serial) in
        ap (λ t. shape_at π.signatures (cond t number (π.number j))) (eqb-other j l.serial ne) ∙ is.numbered j x e

    extent_by :
        (j : ℕ) (x : Living) (q : Bool) → cond q (Some l) (living_of s.living j) ≡ Some x → x.generation.extent ≡ pos 0
    extent_by j x true e = let f : l ≡ x = cc e in ap (λ (y : Living). y.generation.extent) (sym f) ∙ extent
    extent_by j x false e = is.extents j x e

pub lives_ended :
    (π : Places) (s : State) (height : ℕ) → Lives π s → Lives π (record s { living = without_owner height s.living })
lives_ended π s height is =
    record {
      falling = falling_without (s.serials + 1) height s.living is.falling;
      numbered = λ j l e. is.numbered j l (without_less (s.serials + 1) height s.living j l is.falling e);
      extents = λ j l e. is.extents j l (without_less (s.serials + 1) height s.living j l is.falling e);
    }

pub lives_signatures :
    (π : Places) (s : State) (t : List Template) → Extends π.signatures t → Lives π s → Lives (with_signatures t π) s
lives_signatures π s t x is =
    record {
      falling = is.falling;
      numbered = λ j l e. x (π.number j) l.generation.shape (is.numbered j l e);
      extents =
          is.extents;
    }

-- what lies beside the heap and the regions of all owners that have something is clear
pub clear_by_regions :
    (k : Keeper) (π : Places) (s : State) (region : ℕ → Region) (at count : ℕ) → InRegions k π s region →
    Beside (π.at heap_serial) (bytes_of k (heap_holder s.heap)) at count →
    ((n : ℕ) (l : Living) → living_of s.living n ≡ Some l → ((region l.owner).to ≤ at)
    ⊎ (at + count ≤ (region l.owner).from)) →
    IsUntold π at count → IsClear k π s at count
clear_by_regions k π s region at count regions heap others untold =
    ((λ n h e. by n h (n == heap_serial) refl e), untold)
  where
    living_by :
        (n : ℕ) (h : Holder) (o : Option Living) → living_of s.living n ≡ o → holder_in o ≡ Some h →
        Beside (π.at n) (bytes_of k h) at count
    living_by n h None f e = absurd (cc e)
    living_by n h (Some l) f e =
        let g : holder_of l ≡ h = some_same e in
        let r = regions.living n l f in
        subst (λ x. Beside (π.at n) (bytes_of k x) at count) g (aside r.0 r.1 (others n l f))
      where
        aside :
            (region l.owner).from ≤ π.at n → π.at n + bytes_of k (holder_of l) ≤ (region l.owner).to →
            ((region l.owner).to ≤ at) ⊎ (at + count ≤ (region l.owner).from) →
            Beside (π.at n) (bytes_of k (holder_of l)) at count
        aside a b (inl x) = inl (omega (arith, b, x))
        aside a b (inr x) = inr (omega (arith, a, x))

    by :
        (n : ℕ) (h : Holder) (q : Bool) → (n == heap_serial) ≡ q →
        cond q (Some (heap_holder s.heap)) (holder_in (living_of s.living n)) ≡ Some h →
        Beside (π.at n) (bytes_of k h) at count
    by n h true q e =
        let z : n ≡ heap_serial = eqb-true n heap_serial q in
        let f : heap_holder s.heap ≡ h = some_same e in
        subst (λ i. Beside (π.at i) (bytes_of k h) at count) (sym z)
        (subst (λ x. Beside (π.at heap_serial) (bytes_of k x) at count) f heap)
    by n h false q e = living_by n h (living_of s.living n) refl e

-- what ended owns nothing
pub not_owned :
    (height : ℕ) (ls : List Living) (n : ℕ) (l : Living) → living_of (without_owner height ls) n ≡ Some l →
    l.owner ≢ height
not_owned height [] n l e = absurd (cc e)
not_owned height (x ∷ ls) n l e = by (x.owner == height) refl e (λ f. not_owned height ls n l f)
  where
    by :
        (q : Bool) → (x.owner == height) ≡ q → living_of (cond q (without_owner height ls)
        (x ∷ without_owner height ls)) n ≡ Some l →
        (living_of (without_owner height ls) n ≡ Some l → l.owner ≢ height) → l.owner ≢ height
    by true q e rest = rest e
    by false q e rest = one (x.serial == n) e
      where
        one : (r : Bool) → cond r (Some x) (living_of (without_owner height ls) n) ≡ Some l → l.owner ≢ height
        one true e =
            let f : x ≡ l = cc e in
            λ h.
            let g : x.owner ≡ height = ap (λ (y : Living). y.owner) f ∙ h in
            let t : (x.owner == height) ≡ true = subst (λ i. (x.owner == i) ≡ true) g (eqb-refl x.owner) in
            absurd (cc (sym q ∙ t))
        one false e = rest e

pub regions_ended :
    (k : Keeper) (π : Places) (s : State) (region : ℕ → Region) (height : ℕ) → Lives π s → InRegions k π s region →
    InRegions k π (record s { living = without_owner height s.living }) region
regions_ended k π s region height lives is =
    record { living = λ n l e. is.living n l (without_less (s.serials + 1) height s.living n l lives.falling e) }
