-- The point of a block further out once the blocks inside it have ended.
use Rattle.std.proofs.Common.{◌≡◌, ℕ, zero, suc, ◌+◌, ◌≤◌, List, [], ◌∷◌, length}
use Rattle.std.proofs.Common.{refl, ap, ◌∙◌, subst, arith}
use Rattle.std.specs.Prelude.{drop}
use Rattle.rv_meaning.specs.declared.instr.Instr.{Instr}
use Rattle.pli_meaning.specs.StorageState.{Activation, Living, State, newest_ended, with_world, without_newest}
use Rattle.pli_coding.specs.Frames.{MemoryParts}
use Rattle.storage_relation.specs.Stored.{AreLow}
use Rattle.activation_relation.specs.Chains.{AreActive, UnitPlaces}
use Rattle.activation_relation.specs.Changes.{ended_times}
use Rattle.activation_relation.specs.Frames.{AreLaid, lower_end, upper_top}
use Rattle.activation_relation.specs.Landing.{closed}
use Rattle.activation_relation.specs.Layers.{Layer, Point}
use Rattle.activation_relation.specs.Points.{Surroundings}
use Rattle.activation_relation.specs.Remaining.{Remains}
use Rattle.activation_relation.proofs.Remaining.{remains_left, remains_then}
use Rattle.activation_relation.proofs.Unwinding.{activations_ended}
use Rattle.block_runs.specs.Machines.{AreEven, IsImage}
use Rattle.program_runs.specs.Statements.{AreOuter, IsOuter, Outer}
use Rattle.program_runs.proofs.Waiting.{texts_remain}
use Rattle.begin_runs.specs.Unwinding.{Target, unwound_point}

-- ---- one block after the other

abbrev pub closed_times : (n : ℕ) → State → State
closed_times zero s = s
closed_times (suc n) s = closed_times n (closed s)

closed_newest : (s : State) → closed s ≡ newest_ended s
closed_newest s = by s.activations
  where
    by : (as' : List Activation) → with_world s.world (without_newest as' s) ≡ without_newest as' s
    by [] = refl
    by (a ∷ as') = refl

pub closed_ended : (n : ℕ) (s : State) → closed_times n s ≡ ended_times n s
closed_ended zero s = refl
closed_ended (suc n) s = ap (closed_times n) (closed_newest s) ∙ closed_ended n (newest_ended s)

-- ---- what the block further out has

pub record Dropped (w : Surroundings) (code : List Instr) (p : Point) (n : ℕ) (o : Outer) : Type 0 where
  pub layers : drop n p.control.layers ≡ o.first.control.layers
  pub activations : drop n p.state.activations ≡ o.first.state.activations
  pub acts : o.first.state.world.acts ≤ p.state.world.acts
  pub remains : Remains o.first p
  pub is : (q : Point) × IsOuter w code o q

pub outer_dropped :
    (w : Surroundings) (code : List Instr) (os : List Outer) (p : Point) (n : ℕ) (o : Outer) (rest : List Outer) →
    AreOuter w code p os → drop n os ≡ o ∷ rest → Dropped w code p n o
outer_dropped w code [] p zero o rest are e = absurd (cc e)
outer_dropped w code [] p (suc n) o rest are e = absurd (cc e)
outer_dropped w code (x ∷ os) p zero o rest are e =
    let same : x ≡ o = cc e in
    subst (λ y. Dropped w code p 0 y) same
    (record {
      layers = are.0.among.later.layers;
      activations = are.0.among.later.activations;
      acts = are.0.among.later.acts;
      remains = texts_remain x.first.control.entries p.control.entries are.0.among.later.remains;
      is = (p, are.0);
    })
outer_dropped w code (x ∷ os) p (suc n) o rest are e =
    let d = outer_dropped w code os x.point n o rest are.1 e in
    let h = are.0 in
    let more = h.resumes.more in
    let later = h.among.later.acts in
    let acts = d.acts in
    record {
      layers = ap (drop (suc n)) (h.among.later.layers ∙ h.resumes.layers) ∙ d.layers;
      activations = ap (drop (suc n)) (h.among.later.activations ∙ h.resumes.activations) ∙ d.activations;
      acts = omega (arith, more, later, acts);
      remains = remains_then o.first x.point p d.remains
          (remains_then x.point x.first p h.remains
          (texts_remain x.first.control.entries p.control.entries h.among.later.remains));
      is = d.is;
    }

-- ---- what lives on when blocks above it end

low_more : (n m : ℕ) (ls : List Living) → n ≤ m → AreLow n ls → AreLow m ls
low_more n m [] h low = tt
low_more n m (l ∷ ls) h low = let a = low.0 in (omega (arith, a, h), low_more n m ls h low.1)

abbrev with_state : State → Point → Point
with_state s p = record p { state = s }

pub remains_behind :
    (units : UnitPlaces) (n : ℕ) (r q : Point) (as' : List Activation) (φs : List Layer) → Remains r q →
    q.state.activations ≡ as' → AreActive units as' φs → (m : ℕ) → length as' ≡ n + m → AreLow m r.state.living →
    length r.state.activations ≤ m → Remains r (with_state (ended_times n q.state) q)
remains_behind units zero r q as' φs remains e active m many low few = remains
remains_behind units (suc n) r q [] φs remains e active m many low few = absurd (omega (arith, many))
remains_behind units (suc n) r q (a ∷ as') [] remains e active m many low few = absurd active
remains_behind units (suc n) r q (a ∷ as') (φ ∷ φs) remains e active m many low few =
    let q' = with_state (newest_ended q.state) q in
    let height = active.0.height in
    let fewer = low_more m (length as') r.state.living (omega (arith, many)) low in
    let left = remains_left r (record q { control = record q.control { layers = φ ∷ φs } }) a as' [] (again remains) e
    fewer (omega (arith, height)) (omega (arith, many, few)) in
    remains_behind units n r q' as' φs
    (record {
      living = left.living;
      serials = left.serials;
      at = left.at;
      number = left.number;
      signatures = left.signatures;
      statics = left.statics;
      low = left.low;
      constants = left.constants;
      active = left.active;
      in_use = left.in_use;
    })
    (activations_ended 1 q.state ∙ ap (drop 1) e) active.1 m (omega (arith, many)) low few
  where
    again : Remains r q → Remains r (record q { control = record q.control { layers = φ ∷ φs } })
    again h =
        record {
          living = h.living;
          serials = h.serials;
          at = h.at;
          number = h.number;
          signatures = h.signatures;
          statics = h.statics;
          low = h.low;
          constants = h.constants;
          active = h.active;
          in_use = h.in_use;
        }

-- ---- the stacks

pub even_behind : (parts : MemoryParts) (n : ℕ) (φs : List Layer) → AreEven parts φs → AreEven parts (drop n φs)
even_behind parts zero φs even = even
even_behind parts (suc n) [] even = even
even_behind parts (suc n) (φ ∷ φs) even = even_behind parts n φs even.1

pub record Between (parts : MemoryParts) (φ : Layer) (φs : List Layer) : Type 0 where
  pub top : φ.top ≤ upper_top parts φs
  pub lower : lower_end parts φs ≤ φ.lower
  pub free : upper_top parts φs ≤ lower_end parts φs

-- a block further out has its part of the stacks around those of the blocks inside it
pub stacks_between :
    (parts : MemoryParts) (n : ℕ) (φs : List Layer) (φ : Layer) (rest : List Layer) → AreLaid parts φs →
    drop n φs ≡ φ ∷ rest → Between parts φ φs
stacks_between parts zero [] φ rest laid e = absurd (cc e)
stacks_between parts (suc n) [] φ rest laid e = absurd (cc e)
stacks_between parts zero (ψ ∷ ψs) φ rest laid e =
    let same : ψ ≡ φ = cc e in
    let free = laid.0.free in
    subst (λ (x : Layer). Between parts x (ψ ∷ ψs)) same
    (record { top = omega arith; lower = omega arith; free = free })
stacks_between parts (suc n) (ψ ∷ ψs) φ rest laid e =
    let b = stacks_between parts n ψs φ rest laid.1 e in
    let top = b.top in
    let lower = b.lower in
    let above = laid.0.above in
    let fixed = laid.0.fixed in
    let falls = laid.0.falls in
    let free = laid.0.free in
    record { top = omega (arith, top, above, fixed); lower = omega (arith, lower, falls); free = free }

-- ---- the point

pub unwound_image :
    {w : Surroundings} {code : List Instr} {p : Point} (x : Target) → IsImage w code p →
    IsImage w code (unwound_point x p)
unwound_image {w} {p = p} x h =
    record {
      keeper = h.keeper;
      layout = h.layout;
      parts = h.parts;
      even = even_behind w.parts x.count p.control.layers h.even;
    }
