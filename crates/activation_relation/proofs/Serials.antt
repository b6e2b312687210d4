-- How many serials there are: so many before the last act, and so many behind it.
use Rattle.std.proofs.Common.{ℕ, ◌+◌, ◌^◌, ◌≤◌, ◌<◌, List, [], ◌∷◌, sym, subst, arith}
use Rattle.pli_meaning.specs.World.{counted}
use Rattle.pli_serving.specs.ServiceState as S
use Rattle.activation_relation.specs.Changes.{ended_times, popped, popped_from, unwound, with_act, with_line}
use Rattle.activation_relation.specs.Layers.{Layer, Point}
use Rattle.activation_relation.specs.Points.{AreFew, IsEarly, Surroundings, early_serials}
use Rattle.activation_relation.proofs.Unwinding.{kept_behind}

pub few_acted :
    (w : Surroundings) (p : Point) (line : ℕ) → AreFew w p → AreFew w (with_act counted (with_line line p))
few_acted w p line few = few

pub few_made :
    (w : Surroundings) (p q : Point) → IsEarly w p → q.state.serials ≤ p.state.serials + w.serials →
    p.state.world.acts < w.acts → AreFew w q
few_made w p q early new less = let few = early less in omega (arith, few, new)

same_count :
    (w : Surroundings) (p : Point) (n : ℕ) → AreFew w p → (ended_times n p.state).serials ≤ early_serials + w.serials
same_count w p n few =
    let k = kept_behind n p.state in
    subst (λ m. m ≤ early_serials + w.serials) (sym k.serials) few

pub few_left : (w : Surroundings) (p : Point) (kept : List S.Entry) → AreFew w p → AreFew w (popped kept p)
few_left w p kept few = by p.control.layers
  where
    by : (ls : List Layer) → AreFew w (popped_from kept ls p)
    by [] = few
    by (φ ∷ φs) = same_count w p 1 few

pub few_unwound :
    (w : Surroundings) (p : Point) (count : ℕ) (φ : Layer) (kept : List S.Entry) → AreFew w p →
    AreFew w (unwound count kept φ p)
few_unwound w p count φ kept few = same_count w p count few

pub few_small :
    (w : Surroundings) (p : Point) (n : ℕ) → AreFew w p → w.serials + n < 2 ^ 40 →
    p.state.serials + n < 2 ^ 64
few_small w p n few fits = omega (arith, few, fits)
