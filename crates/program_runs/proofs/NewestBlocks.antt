-- The block whose statements run is the newest: its activation and its layer at each of its points.
use Rattle.std.proofs.Common.{◌≡◌, ℕ, suc, ◌+◌, List, ◌∷◌, length, Some, refl, sym, ap, ◌∙◌, subst, arith}
use Rattle.std.proofs.lemmas.Bool.{eq-eqb}
use Rattle.std.specs.Prelude.{cond, ◌==◌}
use Rattle.pli_meaning.specs.StorageState.{Activation, ancestor, ancestor_at, height_of, newest_height}
use Rattle.activation_relation.specs.Chains.{AreActive}
use Rattle.activation_relation.specs.Landing.{resumed, with_units}
use Rattle.activation_relation.specs.Layers.{Layer, Point}
use Rattle.activation_relation.proofs.Blocks.{same_length}
use Rattle.program_runs.specs.Statements.{Block, IsAmong, IsBegun, own_height}

-- ---- the newest activation

pub newest_ancestor :
    (a : Activation) (as' : List Activation) (level : ℕ) → a.level ≡ level →
    height_of (ancestor (a ∷ as') a.height level) ≡ a.height
newest_ancestor a as' level e =
    ap (λ q. height_of (cond q (cond (a.level == level) (Some a) (ancestor as' a.parent level))
    (ancestor as' a.height level))) (eq-eqb a.height a.height refl)
    ∙ ap (λ q. height_of (cond q (Some a) (ancestor as' a.parent level))) (eq-eqb a.level level e)

-- the newest activation, with the layers beside it
pub record Newest (k : Block) (p : Point) : Type 0 where
  pub activation : Activation
  pub layer : Layer
  pub active : p.state.activations ≡ activation ∷ k.call.point.state.activations
  pub layers : p.control.layers ≡ layer ∷ k.call.point.control.layers
  pub height : activation.height ≡ suc (length k.call.point.state.activations)
  pub level : activation.level ≡ k.call.beginning.layer.level
  pub own : layer.level ≡ k.call.beginning.layer.level
  pub many : length k.call.point.state.activations ≡ length k.call.point.control.layers

pub newest_at : {k : Block} {numbers : ℕ → ℕ} {p : Point} → IsBegun k → IsAmong k numbers p → Newest k p
newest_at {k} {p = p} b o =
    let r = b.resumes in
    let units = k.call.surroundings.units in
    let as' = k.call.point.state.activations in
    let φs = k.call.point.control.layers in
    let layers = o.later.layers ∙ r.layers in
    let activations = o.later.activations ∙ r.activations in
    let active = subst (λ xs. AreActive units xs (resumed r.changed k.call.beginning.layer ∷ φs)) activations
    (subst (λ ls. AreActive units p.state.activations ls) layers o.stands.active) in
    record {
      activation = with_units r.own b.activation;
      layer = resumed r.changed k.call.beginning.layer;
      active = activations;
      layers = layers;
      height = active.0.height;
      level = active.0.level;
      own = refl;
      many = sym (same_length units as' φs active.1);
    }

-- it is its own ancestor at its level
pub own_ancestor :
    {k : Block} {p : Point} → k.environment.level ≡ k.call.beginning.layer.level → Newest k p →
    height_of (ancestor_at p.state k.environment.level) ≡ own_height k
own_ancestor {k} level n =
    let height = n.height in
    ap (λ xs. height_of (ancestor xs (newest_height xs) k.environment.level)) n.active
    ∙ newest_ancestor n.activation k.call.point.state.activations k.environment.level (n.level ∙ sym level)
    ∙ omega (arith, height)

pub newest_own : {k : Block} {p : Point} → Newest k p → newest_height p.state.activations ≡ own_height k
newest_own n = let height = n.height in ap newest_height n.active ∙ omega (arith, height)
