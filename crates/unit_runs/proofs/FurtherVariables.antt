-- Variables of the block that established a unit, which is raised in a block that was entered since.
use Rattle.std.proofs.Common.{◌≡◌, inl, inr, ℕ, zero, suc, ◌+◌, ◌*◌, ◌^◌, ◌<◌, ◌≤◌, List, [], ◌∷◌, length, Some}
use Rattle.std.proofs.Common.{false, refl, sym, ap, ◌∙◌, subst, arith}
use Rattle.std.proofs.lemmas.Bool.{eq-eqb, eqb-true}
use Rattle.std.specs.Prelude.{◌==◌, cond, drop}
use Rattle.pli_meaning.specs.DeclaredShapes.{declared_variable}
use Rattle.pli_meaning.specs.StorageState.{Activation, Living, ancestor, ancestor_at, binding_in, height_of}
use Rattle.pli_meaning.specs.StorageState.{living_of, newest_height}
use Rattle.storage_relation.proofs.Holders.{eqb-other, eqb-refl}
use Rattle.storage_relation.proofs.Placing.{none_above}
use Rattle.activation_relation.specs.Chains.{AreActive, UnitPlaces, frame_at}
use Rattle.activation_relation.specs.Frames.{frame_under}
use Rattle.activation_relation.specs.Landing.{resumed, with_units}
use Rattle.activation_relation.specs.Layers.{Layer, Point}
use Rattle.activation_relation.specs.Points.{Surroundings}
use Rattle.activation_relation.specs.Remaining.{LivesOn, Remains}
use Rattle.activation_relation.proofs.Blocks.{same_length}
use Rattle.activation_relation.proofs.Displays.{ancestor_low}
use Rattle.activation_relation.proofs.Remaining.{remains_then}
use Rattle.activation_relation.proofs.Units.{frame_below}
use Rattle.program_runs.specs.Statements.{Block, IsAmong, IsBegun, own_height}
use Rattle.program_runs.proofs.NewestBlocks.{newest_at, newest_own, own_ancestor}
use Rattle.expression_runs.specs.Values.{Setting}
use Rattle.expression_runs.specs.Variables.{IsFrameOf, IsNumber, Spot, number_place, variable_of}
use Rattle.unit_runs.specs.Raised.{AreMade, IsRaiseOf, IsRaised, Raise, Standing, unit_block, unit_layer}
use Rattle.unit_runs.specs.UnitVariables.{IsFurther}

-- ---- below so many blocks

drop_short : {A : Type 0} (n : ℕ) (xs : List A) → length (drop n xs) ≤ length xs
drop_short zero xs = omega arith
drop_short (suc n) [] = omega arith
drop_short (suc n) (x ∷ xs) = let l = drop_short n xs in omega (arith, l)

ancestor_dropped :
    (units : UnitPlaces) (n : ℕ) (as' : List Activation) (φs : List Layer) (height level : ℕ) →
    AreActive units as' φs → height ≤ length (drop n as') →
    ancestor as' height level ≡ ancestor (drop n as') height level
ancestor_dropped units zero as' φs height level active low = refl
ancestor_dropped units (suc n) [] φs height level active low = refl
ancestor_dropped units (suc n) (a ∷ as') [] height level active low = absurd active
ancestor_dropped units (suc n) (a ∷ as') (φ ∷ φs) height level active low =
    let own = active.0.height in
    let short = drop_short n as' in
    ap (λ q. cond q (cond (a.level == level) (Some a) (ancestor as' a.parent level)) (ancestor as' height level))
    (eqb-other a.height height (omega (arith, own, short, low)))
    ∙ ancestor_dropped units n as' φs height level active.1 low

frame_dropped :
    (n : ℕ) (φs : List Layer) (height : ℕ) → height ≤ length (drop n φs) →
    frame_at φs height ≡ frame_at (drop n φs) height
frame_dropped zero φs height low = refl
frame_dropped (suc n) [] height low = refl
frame_dropped (suc n) (φ ∷ φs) height low =
    let short = drop_short n φs in
    frame_below φ φs height (omega (arith, short, low)) ∙ frame_dropped n φs height low

ancestor_above :
    (a : Activation) (as' : List Activation) (level : ℕ) → (a.level == level) ≡ false →
    ancestor (a ∷ as') a.height level ≡ ancestor as' a.parent level
ancestor_above a as' level other =
    ap (λ q. cond q (cond (a.level == level) (Some a) (ancestor as' a.parent level)) (ancestor as' a.height level))
    (eqb-refl a.height)
    ∙ ap (λ q. cond q (Some a) (ancestor as' a.parent level)) other

-- the frame of a level of the block that established it, by the height of its ancestor
frame_by_height :
    {o : Block} {numbers : ℕ → ℕ} {p : Point} (level base : ℕ) →
    o.environment.level ≡ o.call.beginning.layer.level → IsBegun o → IsAmong o numbers p → IsFrameOf o level base →
    (0 < height_of (ancestor_at o.first.state level))
    × (base ≡ frame_at o.first.control.layers (height_of (ancestor_at o.first.state level)))
frame_by_height {o} {p = p} level base at b among (inl own) =
    let n = newest_at b among in
    let parts = o.call.surroundings.parts in
    let φs = o.call.point.control.layers in
    let same : level ≡ o.environment.level = eqb-true level o.environment.level own.0 in
    let height : height_of (ancestor_at o.first.state level) ≡ own_height o =
    ap (λ xs. height_of (ancestor xs (newest_height xs) level)) (sym among.later.activations)
    ∙ ap (λ j. height_of (ancestor_at p.state j)) same ∙ own_ancestor at n in
    let many = n.many in
    let newest : own_height o ≡ suc (length φs) = omega (arith, many) in
    let there : frame_at p.control.layers (own_height o) ≡ frame_under parts p.control.layers =
    subst (λ ls. frame_at ls (own_height o) ≡ frame_under parts ls) (sym n.layers)
    (ap (λ q. cond q n.layer.at (frame_at φs (own_height o))) (eq-eqb (own_height o) (suc (length φs)) newest)) in (
      omega (arith, height),
      own.1
          ∙ sym (subst (λ ls. frame_at ls (own_height o) ≡ frame_under parts ls) among.later.layers there)
          ∙ ap (λ j. frame_at o.first.control.layers j) (sym height),
    )
frame_by_height level base at b among (inr outer) = (outer.2, outer.4)

-- ---- the unit's block over it

-- what it has of that block: the ancestor at a level, the frame of that, and what lives there
pub record IsBeneath (o u : Block) (level : ℕ) : Type 0 where
  pub same : ancestor_at u.first.state level ≡ ancestor_at o.first.state level
  pub frame : (base : ℕ) → IsFrameOf o level base → IsFrameOf u level base
  pub remains : Remains o.first u.first

-- what lives there stands where it stood
pub beneath_place :
    {o u : Block} {level : ℕ} (serial : ℕ) (living : Living) → IsBegun o → IsBeneath o u level →
    living_of o.first.state.living serial ≡ Some living → u.first.places.at serial ≡ o.first.places.at serial
beneath_place {o} serial living b is lives =
    let low = none_above (o.first.state.serials + 1) o.first.state.living serial living b.resumes.stands.lives.falling
    lives in
    is.remains.at serial (omega (arith, low))

pub further_beneath :
    (k : Setting) (x : Standing) (more : ℕ) (h : IsRaised k x more) (r : Raise) (level : ℕ) (o : Block) (p : Point)
    (numbers : ℕ → ℕ) (count : ℕ) → IsFurther k x more h o p numbers count → IsRaiseOf k x more h r →
    AreMade k x r → IsBegun (unit_block k x r) → level < x.unit.head.level → IsBeneath o (unit_block k x r) level
further_beneath k x more h r level o p numbers count z is made b less =
    record { same = same; frame = λ base at. inr (other, less, above base at, h.level, frame base at); remains = to }
  where
    w : Surroundings
    w = k.block.call.surroundings

    u : Block
    u = unit_block k x r

    qs : List Activation
    qs = r.point.state.activations

    φs : List Layer
    φs = r.point.control.layers

    a : Activation
    a = with_units made.own made.activation

    φ : Layer
    φ = resumed made.changed (unit_layer w x r)

    active : AreActive w.units (a ∷ qs) (φ ∷ φs)
    active =
        subst (λ xs. AreActive w.units xs (φ ∷ φs)) made.activations
        (subst (λ ls. AreActive w.units u.first.state.activations ls) made.layers b.resumes.stands.active)

    to_p : drop count qs ≡ p.state.activations
    to_p = ap (drop count) is.among.later.activations ∙ z.activations

    to_layers : drop count φs ≡ p.control.layers
    to_layers = ap (drop count) is.among.later.layers ∙ z.layers

    many : length (drop count qs) ≡ own_height o
    many =
        let e = newest_at z.begun z.among in
        let l0 = ap (λ xs. length xs) to_p in
        let l1 = ap (λ xs. length xs) e.active in
        omega (arith, l0, l1)

    same : ancestor_at u.first.state level ≡ ancestor_at o.first.state level
    same =
        let at = active.0.level in
        ap (λ xs. ancestor xs (newest_height xs) level) made.activations
        ∙ ancestor_above a qs level (eqb-other a.level level (omega (arith, at, less)))
        ∙ ap (λ m. ancestor qs m level) (made.parent ∙ is.height ∙ z.own)
        ∙ ancestor_dropped w.units count qs φs (own_height o) level active.1 (omega (arith, many))
        ∙ ap (λ xs. ancestor xs (own_height o) level) to_p
        ∙ ap (λ m. ancestor p.state.activations m level) (sym (newest_own (newest_at z.begun z.among)))
        ∙ ap (λ xs. ancestor xs (newest_height xs) level) z.among.later.activations

    to : Remains o.first u.first
    to =
        remains_then o.first p u.first z.among.later.remains
        (remains_then p r.point u.first (remains_then p k.block.first r.point z.remains is.among.later.remains)
        b.remains)

    other : (level == u.environment.level) ≡ false
    other = let code = z.inner in eqb-other level u.environment.level (omega (arith, code, less))

    below :
        (base : ℕ) → IsFrameOf o level base →
        (0 < height_of (ancestor_at o.first.state level))
        × (base ≡ frame_at o.first.control.layers (height_of (ancestor_at o.first.state level)))
    below base at = frame_by_height level base z.level z.begun z.among at

    above : (base : ℕ) → IsFrameOf o level base → 0 < height_of (ancestor_at u.first.state level)
    above base at = subst (λ a'. 0 < height_of a') (sym same) (below base at).0

    high : height_of (ancestor_at o.first.state level) ≤ length (drop count φs)
    high =
        let units = o.call.surroundings.units in
        let short = ancestor_low units p.state.activations p.control.layers (newest_height p.state.activations) level
        z.among.stands.active in
        let l0 = same_length units p.state.activations p.control.layers z.among.stands.active in
        let l1 = ap (λ ls. length ls) to_layers in
        let e = ap (λ xs. height_of (ancestor xs (newest_height xs) level)) z.among.later.activations in
        omega (arith, short, l0, l1, e)

    frame :
        (base : ℕ) → IsFrameOf o level base →
        base ≡ frame_at u.first.control.layers (height_of (ancestor_at u.first.state level))
    frame base at =
        let height = height_of (ancestor_at o.first.state level) in
        let short = drop_short count φs in
        (below base at).1
        ∙ ap (λ ls. frame_at ls height) (sym z.among.later.layers)
        ∙ ap (λ ls. frame_at ls height) (sym to_layers)
        ∙ sym (frame_dropped count φs height high)
        ∙ sym (frame_below φ φs height (omega (arith, high, short)))
        ∙ ap (λ ls. frame_at ls height) (sym made.layers)
        ∙ ap (λ a'. frame_at u.first.control.layers (height_of a')) (sym same)

pub further_number :
    (k : Setting) (x : Standing) (more : ℕ) (h : IsRaised k x more) (r : Raise) (spot : Spot) (o : Block) (p : Point)
    (numbers : ℕ → ℕ) (count : ℕ) → IsFurther k x more h o p numbers count → IsRaiseOf k x more h r →
    AreMade k x r → IsBegun (unit_block k x r) → spot.level < x.unit.head.level → IsNumber o spot →
    IsNumber (unit_block k x r) spot
further_number k x more h r spot o p numbers count z is made b less n =
    record {
      initial = n.initial;
      declared = ap (λ y. declared_variable y (variable_of spot)) z.program ∙ n.declared;
      serial = n.serial;
      binding = ap (λ a'. binding_in a' spot.index) beneath.same ∙ n.binding;
      living = on.there;
      lives = on.lives;
      shape = on.shape ∙ n.shape;
      base = n.base;
      frame = beneath.frame n.base n.frame;
      at = beneath_place n.serial n.living z.begun beneath n.lives ∙ n.at ∙ ap (λ m. n.base + m) (sym place);
      low = subst (λ m. 2 ^ 22 ≤ n.base + m) (sym place) n.low;
      inside = subst (λ m. n.base + m + 4 ≤ 15 * 2 ^ 20) (sym place) n.inside;
    }
  where
    u : Block
    u = unit_block k x r

    beneath : IsBeneath o u spot.level
    beneath = further_beneath k x more h r spot.level o p numbers count z is made b less

    place : number_place u.environment spot ≡ number_place o.environment spot
    place =
        ap (λ y. number_place (record u.environment { program = y }) spot) z.program
        ∙ ap (λ y. number_place (record o.environment { parts = y }) spot) z.parts

    on : LivesOn n.living (living_of u.first.state.living n.serial)
    on = beneath.remains.living n.serial n.living n.lives
