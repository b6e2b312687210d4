-- Variables of the blocks around a begin block, in it.
use Rattle.std.proofs.Common.{◌≡◌, ℕ, ◌<◌, List, ◌∷◌, refl, subst}
use Rattle.pli_meaning.specs.Control.{Label}
use Rattle.activation_relation.specs.Chains.{AreActive}
use Rattle.activation_relation.specs.Landing.{resumed, with_units}
use Rattle.activation_relation.specs.Layers.{Point}
use Rattle.program_runs.specs.Statements.{Block, IsAmong, IsBegun}
use Rattle.expression_runs.specs.Variables.{IsNumber, Spot}
use Rattle.function_runs.proofs.OuterVariables.{Over, over_number}
use Rattle.begin_runs.specs.BeginBlocks.{AreMade, Inner, IsBegin, inner_block, inner_layer}

-- the begin block over the block around it
pub inner_over :
    (k : Block) (labels : List Label) (x : Inner) (index more : ℕ) → IsBegin k x index more →
    k.environment.level ≡ k.call.beginning.layer.level → (p : Point) (numbers : ℕ → ℕ) → AreMade k x index p numbers →
    IsBegun (inner_block k labels p numbers x index) → Over k (inner_block k labels p numbers x index) p
inner_over k labels x index more h level p numbers made b =
    let w = k.call.surroundings in
    let φ = resumed made.changed (inner_layer w p numbers x) in
    let a = with_units made.own made.activation in
    let first = (inner_block k labels p numbers x index).first in
    let active : AreActive w.units (a ∷ p.state.activations) (φ ∷ p.control.layers) =
    subst (λ xs. AreActive w.units xs (φ ∷ p.control.layers)) made.activations
    (subst (λ ls. AreActive w.units first.state.activations ls) made.layers b.resumes.stands.active) in
    record {
      activation = a;
      layer = φ;
      active = made.activations;
      below = p.control.layers;
      layers = made.layers;
      frames = λ n. refl;
      many = refl;
      height = active.0.height;
      level = active.0.level;
      parent = made.parent;
      remains = b.remains;
      own = level;
      code = refl;
      few = h.few;
    }

pub inner_number :
    (k : Block) (labels : List Label) (x : Inner) (index more : ℕ) (spot : Spot) → IsBegin k x index more →
    k.environment.level ≡ k.call.beginning.layer.level → spot.level < x.head.level → IsNumber k spot → (p : Point)
    (numbers : ℕ → ℕ) → IsAmong k numbers p → AreMade k x index p numbers →
    IsBegun (inner_block k labels p numbers x index) → IsNumber (inner_block k labels p numbers x index) spot
inner_number k labels x index more spot h level further is p numbers o made b =
    over_number {k = k} {inner = inner_block k labels p numbers x index} {numbers = numbers} {p = p} spot
    (inner_over k labels x index more h level p numbers made b) h.begun o further refl refl is
