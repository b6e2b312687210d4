-- The block of a unit over its host, wherever it is raised.
use Rattle.std.proofs.Common.{◌≡◌, ℕ, zero, suc, ◌+◌, ◌*◌, ◌^◌, ◌<◌, ◌≤◌, List, [], ◌∷◌, length, Bool, Some, true}
use Rattle.std.proofs.Common.{false, refl}
use Rattle.std.proofs.Common.{sym, ap, ◌∙◌, subst, arith}
use Rattle.std.proofs.lemmas.Bool.{leb-true}
use Rattle.std.proofs.lemmas.Bool.Decides.{nat_tests}
use Rattle.std.specs.Prelude.{◌==◌, cond, drop, nat_le}
use Rattle.pli_typing.specs.TypedTree as Y
use Rattle.pli_typing.specs.Signatures.{data_size}
use Rattle.pli_meaning.specs.DeclaredShapes.{declared_variable, shape_of}
use Rattle.pli_meaning.specs.StorageState.{Activation, ancestor, ancestor_at, binding_in, height_of, living_of}
use Rattle.pli_meaning.specs.StorageState.{newest_height}
use Rattle.pli_coding.specs.Frames.{name_bytes}
use Rattle.storage_relation.proofs.Holders.{eqb-other}
use Rattle.activation_relation.specs.Chains.{AreActive, UnitPlaces}
use Rattle.activation_relation.specs.Landing.{resumed, with_units}
use Rattle.activation_relation.specs.Layers.{Layer, Point}
use Rattle.activation_relation.specs.Remaining.{LivesOn}
use Rattle.activation_relation.proofs.Displays.{ancestor_low}
use Rattle.program_runs.specs.Statements.{Block, IsBegun}
use Rattle.expression_runs.specs.Values.{Setting}
use Rattle.expression_runs.specs.Variables.{Spot, variable_of}
use Rattle.variable_runs.specs.Known.{IsKnown, place_of}
use Rattle.array_runs.specs.Arrays.{Grid, IsArray}
use Rattle.array_runs.proofs.Outer.{outer_array}
use Rattle.scalar_runs.specs.Scalars.{IsScalar}
use Rattle.nested_calls.specs.Nested.{IsNested, parent_at}
use Rattle.nested_calls.proofs.NestedVariables.{ancestor_itself}
use Rattle.unit_runs.specs.Raised.{AreMade, IsRaiseOf, IsRaised, Raise, Standing, unit_block, unit_layer}
use Rattle.unit_runs.specs.UnitVariables.{IsFurther}
use Rattle.unit_runs.proofs.FurtherVariables.{IsBeneath, beneath_place, further_beneath}
use Rattle.called_units.specs.Hosts.{HostsKnown, IsHosted}

-- ---- below so many blocks

drop_short : {A : Type 0} (n : ℕ) (xs : List A) → length (drop n xs) ≤ length xs
drop_short zero xs = omega arith
drop_short (suc n) [] = omega arith
drop_short (suc n) (x ∷ xs) = let l = drop_short n xs in omega (arith, l)

pub ancestor_dropped :
    (units : UnitPlaces) (n : ℕ) (as' : List Activation) (φs : List Layer) (height level : ℕ) →
    AreActive units as' φs → height ≤ length (drop n as') →
    ancestor as' height level ≡ ancestor (drop n as') height level
ancestor_dropped units zero as' φs height level active low = refl
ancestor_dropped units (suc n) [] φs height level active low = refl
ancestor_dropped units (suc n) (a ∷ as') [] height level active low = absurd active
ancestor_dropped units (suc n) (a ∷ as') (φ ∷ φs) height level active low =
    let own = active.0.height in
    let short = drop_short n as' in
    ap (λ q. cond q (cond (a.level == level) (Some a) (ancestor as' a.parent level)) (ancestor as' height level))
    (eqb-other a.height height (omega (arith, own, short, low)))
    ∙ ancestor_dropped units n as' φs height level active.1 low

ancestor_under :
    (a : Activation) (as' : List Activation) (height n : ℕ) → (a.height == height) ≡ false →
    ancestor (a ∷ as') height n ≡ ancestor as' height n
ancestor_under a as' height n other =
    ap (λ q. cond q (cond (a.level == n) (Some a) (ancestor as' a.parent n)) (ancestor as' height n)) other

-- ---- variables

host_known :
    (k : Setting) (x : Standing) (more : ℕ) (h : IsRaised k x more) (r : Raise) (o : Block) (p : Point)
    (numbers : ℕ → ℕ) (count : ℕ) (spot : Spot) (d : Y.DeclaredVariable) →
    IsHosted k x more h r o p numbers count → spot.level < x.unit.head.level → IsKnown o spot d →
    IsKnown (unit_block k x r) spot d
host_known k x more h r o p numbers count spot d z less is =
    record {
      declared = ap (λ y. declared_variable y (variable_of spot)) z.further.program ∙ is.declared;
      serial = is.serial;
      binding = ap (λ a. binding_in a spot.index) beneath.same ∙ is.binding;
      living = on.there;
      lives = on.lives;
      shape = on.shape ∙ is.shape;
      base = is.base;
      frame = beneath.frame is.base is.frame;
      at = beneath_place is.serial is.living z.further.begun beneath is.lives ∙ is.at
          ∙ ap (λ n. is.base + (n + name_bytes)) (sym place);
      low = is.low;
      inside = subst (λ n. is.base + (n + name_bytes + data_size (shape_of [] d).signature) ≤ 15 * 2 ^ 20) (sym place)
          is.inside;
    }
  where
    u : Block
    u = unit_block k x r

    beneath : IsBeneath o u spot.level
    beneath = further_beneath k x more h r spot.level o p numbers count z.further z.is z.made z.begun less

    place : place_of u.environment spot ≡ place_of o.environment spot
    place =
        ap (λ y. place_of (record u.environment { program = y }) spot) z.further.program
        ∙ ap (λ y. place_of (record o.environment { parts = y }) spot) z.further.parts

    on : LivesOn is.living (living_of u.first.state.living is.serial)
    on = beneath.remains.living is.serial is.living is.lives

host_array :
    (k : Setting) (x : Standing) (more : ℕ) (h : IsRaised k x more) (r : Raise) (o : Block) (p : Point)
    (numbers : ℕ → ℕ) (count : ℕ) (spot : Spot) (g : Grid) →
    IsHosted k x more h r o p numbers count → spot.level < x.unit.head.level → IsArray o spot g →
    IsArray (unit_block k x r) spot g
host_array k x more h r o p numbers count spot g z less is =
    outer_array o (unit_block k x r) spot g
    (λ d known. host_known k x more h r o p numbers count spot d z less known) is

host_scalar :
    (k : Setting) (x : Standing) (more : ℕ) (h : IsRaised k x more) (r : Raise) (o : Block) (p : Point)
    (numbers : ℕ → ℕ) (count : ℕ) (spot : Spot) (t : Y.LeafType) →
    IsHosted k x more h r o p numbers count → spot.level < x.unit.head.level → IsScalar o spot t →
    IsScalar (unit_block k x r) spot t
host_scalar k x more h r o p numbers count spot t z less is =
    record { initial = is.initial; known = host_known k x more h r o p numbers count spot _ z less is.known }

-- ---- static ancestors

host_ancestor :
    (k : Setting) (x : Standing) (more : ℕ) (h : IsRaised k x more) (r : Raise) (o : Block) (p : Point)
    (numbers : ℕ → ℕ) (count level : ℕ) → IsHosted k x more h r o p numbers count → level < x.unit.head.level →
    ancestor_at (unit_block k x r).first.state level ≡ ancestor_at o.first.state level
host_ancestor k x more h r o p numbers count level z less =
    (further_beneath k x more h r level o p numbers count z.further z.is z.made z.begun less).same

host_nested :
    (k : Setting) (x : Standing) (more : ℕ) (h : IsRaised k x more) (r : Raise) (o : Block) (p : Point)
    (numbers : ℕ → ℕ) (count : ℕ) → IsHosted k x more h r o p numbers count →
    x.unit.head.level ≡ suc o.environment.level → IsNested o → IsNested (unit_block k x r)
host_nested k x more h r o p numbers count z inside nest =
    record {
      own = inner;
      few = let most = h.level in omega (arith, inner, most);
      some = λ n less. some_by n (nat_le n level) refl less;
      same = λ outer n less high. same_by outer n (nat_le outer level) refl less high;
    }
  where
    u : Block
    u = unit_block k x r

    level : ℕ
    level = o.environment.level

    inner : u.environment.level ≡ x.unit.head.level
    inner = z.further.inner

    made : AreMade k x r
    made = z.made

    qs : List Activation
    qs = r.point.state.activations

    φs : List Layer
    φs = r.point.control.layers

    units : UnitPlaces
    units = k.block.call.surroundings.units

    a : Activation
    a = with_units made.own made.activation

    φ : Layer
    φ = resumed made.changed (unit_layer k.block.call.surroundings x r)

    active : AreActive units (a ∷ qs) (φ ∷ φs)
    active =
        subst (λ xs. AreActive units xs (φ ∷ φs)) made.activations
        (subst (λ ls. AreActive units u.first.state.activations ls) made.layers z.begun.resumes.stands.active)

    to_p : drop count qs ≡ p.state.activations
    to_p = ap (drop count) z.is.among.later.activations ∙ z.further.activations

    -- it is the last level, or one of those around
    last : (n : ℕ) → nat_le n level ≡ false → n ≤ u.environment.level → n ≡ x.unit.head.level
    last n e less =
        let high : level < n = grind (arith, nat_tests) in
        omega (arith, inner, inside, high, less)

    own_one : (n : ℕ) → n ≡ x.unit.head.level → ancestor_at u.first.state n ≡ Some a
    own_one n e =
        ap (λ xs. ancestor xs (newest_height xs) n) made.activations
        ∙ ancestor_itself a qs n (active.0.level ∙ sym e)

    below : (n : ℕ) → n ≤ level → ancestor_at u.first.state n ≡ ancestor_at o.first.state n
    below n low = host_ancestor k x more h r o p numbers count n z (omega (arith, inside, low))

    some_by :
        (n : ℕ) (q : Bool) → nat_le n level ≡ q → n ≤ u.environment.level →
        0 < height_of (ancestor_at u.first.state n)
    some_by n true e less =
        let low = leb-true n level e in
        subst (λ a'. 0 < height_of a') (sym (below n low)) (nest.some n low)
    some_by n false e less =
        let height = active.0.height in
        subst (λ a'. 0 < height_of a') (sym (own_one n (last n e less))) (omega (arith, height))

    -- an ancestor of the host is as low as that
    low_found : (outer : ℕ) → parent_at o outer ≤ length (drop count qs)
    low_found outer =
        let short = ancestor_low o.call.surroundings.units p.state.activations p.control.layers
        (newest_height p.state.activations) outer z.further.among.stands.active in
        let l0 = ap (λ (xs : List Activation). length xs) to_p in
        let e = ap (λ xs. height_of (ancestor xs (newest_height xs) outer)) z.further.among.later.activations in
        omega (arith, short, l0, e)

    same_by :
        (outer n : ℕ) (q : Bool) → nat_le outer level ≡ q → n ≤ outer → outer ≤ u.environment.level →
        ancestor u.first.state.activations (height_of (ancestor_at u.first.state outer)) n
        ≡ ancestor_at u.first.state n
    same_by outer n true e less high =
        let low = leb-true outer level e in
        let found = parent_at o outer in
        let few = low_found outer in
        let short = drop_short count qs in
        let height = active.0.height in
        ap (λ a'. ancestor u.first.state.activations (height_of a') n) (below outer low)
        ∙ ap (λ xs. ancestor xs found n) made.activations
        ∙ ancestor_under a qs found n (eqb-other a.height found (omega (arith, height, few, short)))
        ∙ ancestor_dropped units count qs φs found n active.1 few
        ∙ ap (λ xs. ancestor xs found n) to_p
        ∙ ap (λ xs. ancestor xs found n) z.further.among.later.activations
        ∙ nest.same outer n less low
        ∙ sym (below n (omega (arith, less, low)))
    same_by outer n false e less high =
        ap (λ a'. ancestor u.first.state.activations (height_of a') n) (own_one outer (last outer e high))
        ∙ ap (λ xs. ancestor xs a.height n) made.activations
        ∙ sym (ap (λ xs. ancestor xs (newest_height xs) n) made.activations)

pub hosts_known : HostsKnown
hosts_known =
    record {
      known = host_known;
      array = host_array;
      scalar = host_scalar;
      nested = host_nested;
      parent = λ k x more h r o p numbers count level z less.
          ap height_of (host_ancestor k x more h r o p numbers count level z less);
    }
