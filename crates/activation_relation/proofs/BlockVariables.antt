-- A variable that is made in the newest block.
use Rattle.std.proofs.Common.{◌≡◌, ◌≢◌, ◌⊎◌, inl, inr, ℕ, suc, ◌+◌, ◌≤◌, List, [], ◌∷◌, length, Some, Bool}
use Rattle.std.proofs.Common.{true, false, refl, sym, ap, ◌∙◌, subst, arith}
use Rattle.std.proofs.lemmas.Bool.{eqb-true, eqb-false}
use Rattle.std.specs.Prelude.{cond, ◌==◌}
use Rattle.pli_meaning.specs.Making.{with_binding, living_at}
use Rattle.pli_meaning.specs.StorageState.{Activation, Binding, Living, living_of, heap_serial, newest_height}
use Rattle.storage_relation.specs.Standing.{Holder, held, bytes_of, holder_of}
use Rattle.storage_relation.specs.Stored.{Places, Beside, IsBeside, with_place, AreLow, Lives}
use Rattle.storage_relation.proofs.Holders.{eqb-refl, eqb-other}
use Rattle.storage_relation.proofs.Living.{lives_added}
use Rattle.pli_coding.specs.Frames.{fixed_size}
use Rattle.activation_relation.specs.Layers.{Layer, Point}
use Rattle.activation_relation.specs.Chains.{UnitPlaces, AreActive}
use Rattle.activation_relation.specs.Frames.{FramesStand, IsLaid, AreLaid, AreBeside, BesideTold}
use Rattle.activation_relation.specs.Owned.{IsOwnPlace, owns_by, IsPlaceOf}
use Rattle.activation_relation.specs.Points.{Surroundings, Stands, AreOver}
use Rattle.activation_relation.specs.Variables.{Made, grown, newest_grown, with_made, FitsBlock}
use Rattle.activation_relation.proofs.Blocks.{Newest, newest_of, same_length}
use Rattle.activation_relation.proofs.FrameWords.{frames_kept}
use Rattle.activation_relation.proofs.OwnPlaces.{beside_place, storage_beside}

-- ---- bytes of the newest block's own

pub own_beside :
    (w : Surroundings) (φ : Layer) (φs : List Layer) (at count : ℕ) → AreLaid w.parts (φ ∷ φs) →
    IsOwnPlace w.parts φ φs at count → AreBeside w.parts at count (φ ∷ φs)
own_beside w φ φs at count laid own =
    beside_place w.parts (φ ∷ φs) (suc (length φs)) at count
    (subst (λ q. owns_by q (IsOwnPlace w.parts φ φs at count) (IsPlaceOf w.parts φs (suc (length φs)) at count))
    (sym (eqb-refl (suc (length φs)))) own) laid

pub stored_stand :
    (w : Surroundings) (p : Point) (base n : ℕ) (h : Holder) (m new : List ℕ) → Stands w p →
    FramesStand w.parts base m p.state.activations p.control.layers → held p.state n ≡ Some h →
    IsBeside (p.places.at n) (bytes_of p.keeper h) m new →
    FramesStand w.parts base new p.state.activations p.control.layers
stored_stand w p base n h m new is frames there beside =
    frames_kept w.parts base (p.places.at n) (bytes_of p.keeper h) m new p.state.activations p.control.layers frames
    is.laid (storage_beside p.keeper p.places p.state w.parts p.control.layers n h is.owned is.laid there) beside

-- ---- one more variable

bound_active :
    (units : UnitPlaces) (b : Binding) (x : Made) (as' : List Activation) (φs : List Layer) →
    AreActive units as' φs → AreActive units (with_binding b as') (newest_grown x φs)
bound_active units b x [] [] h = tt
bound_active units b x [] (φ ∷ φs) h = absurd h
bound_active units b x (a ∷ as') [] h = absurd h
bound_active units b x (a ∷ as') (φ ∷ φs) h = (
  record {
    height = h.0.height;
    level = h.0.level;
    runs = h.0.runs;
    units = h.0.units;
    parent = h.0.parent;
  },
  h.1,
)

pub bound_length : (b : Binding) (as' : List Activation) → length (with_binding b as') ≡ length as'
bound_length b [] = refl
bound_length b (a ∷ as') = refl

-- what others own stays theirs while the newest block's ends move apart no more
grown_place :
    (w : Surroundings) (p : Point) (x : Made) (φ : Layer) (φs : List Layer) (owner at count : ℕ) →
    FitsBlock w p x φ φs → IsPlaceOf w.parts (φ ∷ φs) owner at count →
    IsPlaceOf w.parts (grown x φ ∷ φs) owner at count
grown_place w p x φ φs owner at count fits place = by (owner == suc (length φs)) place
  where
    up : φ.top ≤ x.top
    up = fits.upper

    down : x.lower ≤ φ.lower
    down = fits.falls

    beside : at + count ≤ φ.top → BesideTold at count φ → BesideTold at count (grown x φ)
    beside high old n v e = one (fits.told n v e)
      where
        one : (φ.told n ≡ Some v) ⊎ ((φ.top ≤ φ.at + n) × (φ.at + n + 4 ≤ x.top)) → Beside at count (φ.at + n) 4
        one (inl was) = old n v was
        one (inr new) = let above = new.0 in inl (omega (arith, high, above))

    own : IsOwnPlace w.parts φ φs at count → IsOwnPlace w.parts (grown x φ) φs at count
    own (inl h) = let low = h.0 in let high = h.1 in inl (low, omega (arith, high, up), beside high h.2)
    own (inr h) = let low = h.0 in let high = h.1 in inr (omega (arith, low, down), high)

    by :
        (q : Bool) → owns_by q (IsOwnPlace w.parts φ φs at count) (IsPlaceOf w.parts φs owner at count) →
        owns_by q (IsOwnPlace w.parts (grown x φ) φs at count) (IsPlaceOf w.parts φs owner at count)
    by true h = own h
    by false h = h

pub variable_stands :
    (w : Surroundings) (p : Point) (x : Made) (φ : Layer) (φs : List Layer) → Stands w p → FitsBlock w p x φ φs →
    Stands w (with_made x p)
variable_stands w p x φ φs h fits =
    record {
      active = bound_active w.units _ x p.state.activations p.control.layers h.active;
      laid = subst (λ ls. AreLaid w.parts (newest_grown x ls)) (sym fits.newest) laid;
      low =
          subst (λ n. AreLow n (l ∷ p.state.living)) (sym (bound_length _ p.state.activations)) (owner_low, h.low);
      lives =
          record { falling = lives.falling; numbered = lives.numbered; extents = lives.extents };
      owned = record { living = λ n y e. owned n y e; heap = heap; constants = h.owned.constants };
      over = over p.control.layers h.over;
      running = h.running;
      allowed = h.allowed;
    }
  where
    serial : ℕ
    serial = p.state.serials + 1

    l : Living
    l = living_at serial (newest_height p.state.activations) x.generation

    n : Newest w.units p φ φs
    n = newest_of w.units p φ φs h.active fits.newest

    long : length φs ≡ length n.others
    long = same_length w.units n.others φs n.rest

    owner : newest_height p.state.activations ≡ suc (length φs)
    owner = ap newest_height n.first ∙ n.is.height ∙ ap (λ i. suc i) (sym long)

    owner_low : newest_height p.state.activations ≤ length p.state.activations
    owner_low = let many = ap (λ xs. length xs) n.first in omega (arith, owner, many, long)

    lives : Lives (with_place serial x.place x.number p.places)
        (record p.state { serials = serial; living = l ∷ p.state.living })
    lives = lives_added p.places p.state l x.place x.number refl fits.extent fits.shape h.lives

    laid : AreLaid w.parts (grown x φ ∷ φs)
    laid =
        let old = subst (AreLaid w.parts) fits.newest h.laid in
        let fixed = old.0.fixed in
        let up = fits.upper in
        let falls = old.0.falls in
        let down = fits.falls in (
          record {
            above = old.0.above;
            fixed = omega (arith, fixed, up);
            falls = omega (arith, falls, down);
            free = fits.free;
            saved = old.0.saved;
            told = λ n v e. inside old.0 n v (fits.told n v e);
          },
          old.1,
        )
      where
        inside :
            IsLaid w.parts φ φs → (n v : ℕ) →
            (φ.told n ≡ Some v) ⊎ ((φ.top ≤ φ.at + n) × (φ.at + n + 4 ≤ x.top)) →
            (fixed_size φ.level φ.parameters ≤ n) × (φ.at + n + 4 ≤ x.top)
        inside o n v (inl was) =
            let t = o.told n v was in
            let last = t.1 in
            let up = fits.upper in
            (t.0, omega (arith, last, up))
        inside o n v (inr t) =
            let first = t.0 in
            let fixed = o.fixed in
            (omega (arith, first, fixed), t.1)

    new : Places
    new = with_place serial x.place x.number p.places

    heap : w.parts.stack_end ≤ new.at heap_serial
    heap =
        subst (λ q. w.parts.stack_end ≤ cond q x.place (p.places.at heap_serial))
        (sym (eqb-other heap_serial serial (omega arith))) h.owned.heap

    over :
        (ls : List Layer) → AreOver p.control.entries p.control.edits ls →
        AreOver p.control.entries p.control.edits (newest_grown x ls)
    over [] o = o
    over (ψ ∷ ψs) o = o

    owned :
        (i : ℕ) (y : Living) → living_of (l ∷ p.state.living) i ≡ Some y →
        IsPlaceOf w.parts (newest_grown x p.control.layers) y.owner (new.at i) (bytes_of p.keeper (holder_of y))
    owned i y e =
        subst (λ ls. IsPlaceOf w.parts (newest_grown x ls) y.owner (new.at i) (bytes_of p.keeper (holder_of y)))
        (sym fits.newest) (by (l.serial == i) refl e)
      where
        here : l.serial ≡ i → l ≡ y →
            IsPlaceOf w.parts (grown x φ ∷ φs) y.owner (new.at i) (bytes_of p.keeper (holder_of y))
        here same is =
            let many : length p.control.layers ≡ suc (length φs) = ap (λ ls. length ls) fits.newest in
            let at : new.at i ≡ x.place = ap new.at (sym same)
            ∙ ap (λ q. cond q x.place (p.places.at serial)) (eqb-refl serial) in
            let own : IsOwnPlace w.parts (grown x φ) φs x.place (bytes_of p.keeper (holder_of l)) =
            subst (λ o. IsOwnPlace w.parts (grown x φ) φs x.place
            (bytes_of p.keeper (holder_of (living_at serial o x.generation)))) (many ∙ sym owner) fits.own in
            let q : (l.owner == suc (length φs)) ≡ true =
            ap (λ o. o == suc (length φs)) owner ∙ eqb-refl (suc (length φs)) in
            subst (λ z. IsPlaceOf w.parts (grown x φ ∷ φs) z.owner (new.at i) (bytes_of p.keeper (holder_of z))) is
            (subst (λ a. IsPlaceOf w.parts (grown x φ ∷ φs) l.owner a (bytes_of p.keeper (holder_of l))) (sym at)
            (subst (λ r. owns_by r (IsOwnPlace w.parts (grown x φ) φs x.place (bytes_of p.keeper (holder_of l)))
            (IsPlaceOf w.parts φs l.owner x.place (bytes_of p.keeper (holder_of l)))) (sym q) own))

        there : l.serial ≢ i → living_of p.state.living i ≡ Some y →
            IsPlaceOf w.parts (grown x φ ∷ φs) y.owner (new.at i) (bytes_of p.keeper (holder_of y))
        there other e =
            let at : new.at i ≡ p.places.at i =
            ap (λ q. cond q x.place (p.places.at i)) (eqb-other i serial (λ f. other (sym f))) in
            let old = subst (λ ls. IsPlaceOf w.parts ls y.owner (p.places.at i) (bytes_of p.keeper (holder_of y)))
            fits.newest (h.owned.living i y e) in
            subst (λ a. IsPlaceOf w.parts (grown x φ ∷ φs) y.owner a (bytes_of p.keeper (holder_of y))) (sym at)
            (grown_place w p x φ φs y.owner (p.places.at i) (bytes_of p.keeper (holder_of y)) fits old)

        by :
            (q : Bool) → (l.serial == i) ≡ q → cond q (Some l) (living_of p.state.living i) ≡ Some y →
            IsPlaceOf w.parts (grown x φ ∷ φs) y.owner (new.at i) (bytes_of p.keeper (holder_of y))
        by true t e = let is : l ≡ y = cc e in here (eqb-true l.serial i t) is
        by false t e = there (eqb-false l.serial i t) e
