-- Displays: the frames of static ancestors, copied where a block begins, and read where the program goes on further
-- out.
use Rattle.std.proofs.Common.{◌≡◌, ◌≢◌, ℕ, suc, ◌+◌, ◌<◌, ◌≤◌, List, [], ◌∷◌, length}
use Rattle.std.proofs.Common.{Some, Bool, true, false, refl, sym, ap, ◌∙◌, arith}
use Rattle.std.proofs.lemmas.Bool.{eqb-true, eqb-false}
use Rattle.std.specs.Prelude.{cond, ◌==◌}
use Rattle.rv_meaning.specs.Memory.{load}
use Rattle.pli_meaning.specs.StorageState.{Activation, ancestor, height_of, newest_height}
use Rattle.pli_coding.specs.Frames.{MemoryParts, display, own_offset}
use Rattle.storage_relation.proofs.Holders.{eqb-refl, eqb-other}
use Rattle.activation_relation.specs.Layers.{Layer}
use Rattle.activation_relation.specs.Chains.{UnitPlaces, AreActive, HasParent, frame_at}
use Rattle.activation_relation.specs.Frames.{FramesStand, place_from, ancestor_frame}
use Rattle.activation_relation.proofs.Blocks.{same_length}
use Rattle.activation_relation.proofs.Units.{frame_below, frame_own}

-- ---- ancestors

-- no ancestor is higher than what is searched
pub ancestor_low :
    (units : UnitPlaces) (as' : List Activation) (φs : List Layer) (height level : ℕ) → AreActive units as' φs →
    height_of (ancestor as' height level) ≤ length as'
ancestor_low units [] φs height level h = omega arith
ancestor_low units (a ∷ as') [] height level h = absurd h
ancestor_low units (a ∷ as') (φ ∷ φs) height level h =
    by (a.height == height) (a.level == level) (ancestor_low units as' φs a.parent level h.1)
    (ancestor_low units as' φs height level h.1)
  where
    by :
        (q r : Bool) → height_of (ancestor as' a.parent level) ≤ length as' →
        height_of (ancestor as' height level) ≤ length as' →
        height_of (cond q (cond r (Some a) (ancestor as' a.parent level)) (ancestor as' height level))
        ≤ suc (length as')
    by true true own rest = let e = h.0.height in omega (arith, e)
    by true false own rest = omega (arith, own)
    by false r own rest = omega (arith, rest)

-- at its own height, and at others
ancestor_own :
    (a : Activation) (as' : List Activation) (level : ℕ) → (a.level == level) ≡ false →
    ancestor (a ∷ as') a.height level ≡ ancestor as' a.parent level
ancestor_own a as' level other =
    ap (λ q. cond q (cond (a.level == level) (Some a) (ancestor as' a.parent level)) (ancestor as' a.height level))
    (eqb-refl a.height)
    ∙ ap (λ q. cond q (Some a) (ancestor as' a.parent level)) other

ancestor_under :
    (a : Activation) (as' : List Activation) (height level : ℕ) → (a.height == height) ≡ false →
    ancestor (a ∷ as') height level ≡ ancestor as' height level
ancestor_under a as' height level other =
    ap (λ q. cond q (cond (a.level == level) (Some a) (ancestor as' a.parent level)) (ancestor as' height level)) other

-- the frame of an ancestor of the blocks below
frame_ancestor :
    (units : UnitPlaces) (as' : List Activation) (φ : Layer) (φs : List Layer) (height level : ℕ) →
    AreActive units as' φs →
    frame_at (φ ∷ φs) (height_of (ancestor as' height level)) ≡ frame_at φs (height_of (ancestor as' height level))
frame_ancestor units as' φ φs height level h =
    let low = ancestor_low units as' φs height level h in
    let same = same_length units as' φs h in
    frame_below φ φs (height_of (ancestor as' height level)) (omega (arith, low, same))

-- ---- where a block begins

pub display_copied :
    (units : UnitPlaces) (parts : MemoryParts) (base : ℕ) (m : List ℕ) (as' : List Activation) (φs : List Layer)
    (outer parent n : ℕ) → AreActive units as' φs → FramesStand parts base m as' φs →
    HasParent (suc outer) parent as' → n < outer →
    load 4 m (place_from (frame_at φs parent) (display n)) ≡ base + ancestor_frame as' φs parent n
display_copied units parts base m [] φs outer parent n active h has less =
    let some = has.0 in
    let none : 0 ≡ parent = has.1 in
    absurd (omega (arith, some, none))
display_copied units parts base m (a ∷ as') [] outer parent n active h has less = absurd active
display_copied units parts base m (a ∷ as') (φ ∷ φs) outer parent n active h has less =
    by (a.height == parent) refl
    (λ below. display_copied units parts base m as' φs outer parent n active.1 h.1 below less)
  where
    long : length φs ≡ length as'
    long = same_length units as' φs active.1

    -- it is the newest: then its level is the one around
    own_level : (a.height == parent) ≡ true → (q : Bool) → (a.level == outer) ≡ q → a.level ≡ outer
    own_level here true e = eqb-true a.level outer e
    own_level here false e =
        let same = eqb-true a.height parent here in
        let low = ancestor_low units as' φs a.parent outer active.1 in
        let up : height_of (ancestor as' a.parent outer) ≡ parent =
        ap height_of (sym (ancestor_own a as' outer e))
        ∙ ap (λ i. height_of (ancestor (a ∷ as') i outer)) same ∙ has.1 in
        let high = active.0.height in
        absurd (omega (arith, same, low, up, high))

    by :
        (q : Bool) → (a.height == parent) ≡ q →
        (HasParent (suc outer) parent as' →
        load 4 m (place_from (frame_at φs parent) (display n)) ≡ base + ancestor_frame as' φs parent n) →
        load 4 m (place_from (frame_at (φ ∷ φs) parent) (display n))
        ≡ base + ancestor_frame (a ∷ as') (φ ∷ φs) parent n
    by true here rest =
        let same = eqb-true a.height parent here in
        let level = own_level here (a.level == outer) refl in
        let also = active.0.level in
        let other : (a.level == n) ≡ false = eqb-other a.level n (omega (arith, level, less)) in
        let height : parent ≡ suc (length φs) = sym same ∙ active.0.height ∙ ap (λ i. suc i) (sym long) in
        let found : height_of (ancestor (a ∷ as') parent n) ≡ height_of (ancestor as' a.parent n) =
        ap (λ i. height_of (ancestor (a ∷ as') i n)) (sym same) ∙ ap height_of (ancestor_own a as' n other) in
        ap (λ i. load 4 m (place_from i (display n))) (ap (frame_at (φ ∷ φs)) height ∙ frame_own φ φs)
        ∙ h.0.display_words n (omega (arith, level, also, less))
        ∙ ap (λ i. base + i) (sym (frame_ancestor units as' φ φs a.parent n active.1))
        ∙ ap (λ i. base + frame_at (φ ∷ φs) i) (sym found)
    by false here rest =
        let apart = eqb-false a.height parent here in
        let up : HasParent (suc outer) parent as' = (
          has.0,
          ap height_of (sym (ancestor_under a as' parent outer here)) ∙ has.1,
        ) in
        let high = active.0.height in
        let mine : parent ≢ suc (length φs) = (λ e. apart (high ∙ ap (λ i. suc i) (sym long) ∙ sym e)) in
        ap (λ q. load 4 m (place_from (cond q φ.at (frame_at φs parent)) (display n)))
        (eqb-other parent (suc (length φs)) mine)
        ∙ rest up
        ∙ ap (λ i. base + i) (sym (frame_ancestor units as' φ φs parent n active.1))
        ∙ ap (λ x. base + frame_at (φ ∷ φs) (height_of x)) (sym (ancestor_under a as' parent n here))

pub parent_frame :
    (as' : List Activation) (φs : List Layer) (outer parent : ℕ) → HasParent (suc outer) parent as' →
    ancestor_frame as' φs parent outer ≡ frame_at φs parent
parent_frame as' φs outer parent has = ap (frame_at φs) has.1

-- ---- where the program goes on further out

pub outer_found :
    (units : UnitPlaces) (parts : MemoryParts) (base : ℕ) (m : List ℕ) (a : Activation) (as' : List Activation)
    (φ : Layer) (φs : List Layer) (n : ℕ) → AreActive units (a ∷ as') (φ ∷ φs) →
    FramesStand parts base m (a ∷ as') (φ ∷ φs) → n < φ.level →
    load 4 m (place_from φ.at (display n))
    ≡ base + frame_at (φ ∷ φs) (height_of (ancestor (a ∷ as') (newest_height (a ∷ as')) n))
outer_found units parts base m a as' φ φs n active h less =
    let level = active.0.level in
    let other : (a.level == n) ≡ false = eqb-other a.level n (omega (arith, level, less)) in
    h.0.display_words n less
    ∙ ap (λ i. base + i) (sym (frame_ancestor units as' φ φs a.parent n active.1))
    ∙ ap (λ x. base + frame_at (φ ∷ φs) (height_of x)) (sym (ancestor_own a as' n other))

pub own_found :
    (parts : MemoryParts) (base height : ℕ) (m : List ℕ) (as' : List Activation) (φs : List Layer) →
    FramesStand parts base m as' φs → (0 < height) × (height ≤ length φs) →
    load 4 m (place_from (frame_at φs height) own_offset) ≡ frame_at φs height
own_found parts base height m [] [] h i = let low = i.0 in let high = i.1 in absurd (omega (arith, low, high))
own_found parts base height m [] (φ ∷ φs) h i = absurd h
own_found parts base height m (a ∷ as') [] h i = absurd h
own_found parts base height m (a ∷ as') (φ ∷ φs) h i =
    by (height == suc (length φs)) refl (λ below. own_found parts base height m as' φs h.1 (i.0, below))
  where
    by :
        (q : Bool) → (height == suc (length φs)) ≡ q →
        (height ≤ length φs → load 4 m (place_from (frame_at φs height) own_offset) ≡ frame_at φs height) →
        load 4 m (place_from (cond q φ.at (frame_at φs height)) own_offset) ≡ cond q φ.at (frame_at φs height)
    by true e rest = h.0.own
    by false e rest =
        let apart = eqb-false height (suc (length φs)) e in
        let high = i.1 in
        rest (omega (arith, apart, high))
