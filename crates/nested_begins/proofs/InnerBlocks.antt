-- A begin block over the block around it.
use Rattle.std.proofs.Common.{◌≡◌, ℕ, suc, ◌<◌, ◌≤◌, List, ◌∷◌, refl, sym, ap, ◌∙◌, subst, arith}
use Rattle.pli_typing.specs.TypedTree as Y
use Rattle.pli_meaning.specs.Control.{Label}
use Rattle.pli_meaning.specs.StorageState.{ancestor, height_of, newest_height}
use Rattle.activation_relation.specs.Chains.{AreActive}
use Rattle.activation_relation.specs.CodeStores.{most_levels}
use Rattle.activation_relation.specs.Landing.{resumed, with_units}
use Rattle.activation_relation.specs.Layers.{Point}
use Rattle.program_runs.specs.Statements.{Block, IsAmong, IsBegun, own_height}
use Rattle.program_runs.proofs.NewestBlocks.{newest_at, own_ancestor}
use Rattle.expression_runs.specs.Variables.{IsNumber, Spot}
use Rattle.variable_runs.specs.Known.{IsKnown}
use Rattle.nested_calls.specs.Nested.{IsNested, parent_at}
use Rattle.nested_calls.proofs.NestedVariables.{Over, over_known, over_nested, over_number}
use Rattle.begin_runs.specs.BeginBlocks.{AreMade, Inner, IsBegin, inner_block, inner_layer}

-- the running block is its own ancestor at its level
pub own_parent :
    {k : Block} {numbers : ℕ → ℕ} {p : Point} → IsNested k → IsBegun k → IsAmong k numbers p →
    parent_at k k.environment.level ≡ own_height k
own_parent {k} {p = p} nest b o =
    ap (λ xs. height_of (ancestor xs (newest_height xs) k.environment.level)) (sym o.later.activations)
    ∙ own_ancestor nest.own (newest_at b o)

unfoldable pub inner_over :
    (k : Block) (labels : List Label) (x : Inner) (index more : ℕ) → IsBegin k x index more → IsNested k → (p : Point)
    (numbers : ℕ → ℕ) → IsAmong k numbers p → AreMade k x index p numbers →
    IsBegun (inner_block k labels p numbers x index) →
    Over k (inner_block k labels p numbers x index) k.environment.level p
inner_over k labels x index more h nest p numbers o made b =
    let w = k.call.surroundings in
    let φ = resumed made.changed (inner_layer w p numbers x) in
    let a = with_units made.own made.activation in
    let first = (inner_block k labels p numbers x index).first in
    let active : AreActive w.units (a ∷ p.state.activations) (φ ∷ p.control.layers) =
    subst (λ xs. AreActive w.units xs (φ ∷ p.control.layers)) made.activations
    (subst (λ ls. AreActive w.units first.state.activations ls) made.layers b.resumes.stands.active) in
    let level : x.head.level ≡ suc k.environment.level = h.level ∙ ap suc (sym nest.own) in
    record {
      activation = a;
      layer = φ;
      below = p.control.layers;
      active = made.activations;
      layers = made.layers;
      frames = λ n. refl;
      many = refl;
      height = active.0.height;
      inside = active.0.level ∙ level;
      parent = made.parent ∙ sym (own_parent nest h.begun o);
      remains = b.remains;
      code = level;
      layer_level = level;
      few = subst (λ n. n < most_levels) level h.few;
    }

pub inner_nested :
    (k : Block) (labels : List Label) (x : Inner) (index more : ℕ) → IsBegin k x index more → IsNested k → (p : Point)
    (numbers : ℕ → ℕ) → IsAmong k numbers p → AreMade k x index p numbers →
    IsBegun (inner_block k labels p numbers x index) → IsNested (inner_block k labels p numbers x index)
inner_nested k labels x index more h nest p numbers o made b =
    over_nested {k = k} {inner = inner_block k labels p numbers x index} {numbers = numbers}
    (inner_over k labels x index more h nest p numbers o made b) nest o (omega arith)

pub inner_number :
    (k : Block) (labels : List Label) (x : Inner) (index more : ℕ) (spot : Spot) → IsBegin k x index more →
    IsNested k → spot.level ≤ k.environment.level → IsNumber k spot → (p : Point) (numbers : ℕ → ℕ) →
    IsAmong k numbers p → AreMade k x index p numbers → IsBegun (inner_block k labels p numbers x index) →
    IsNumber (inner_block k labels p numbers x index) spot
inner_number k labels x index more spot h nest low is p numbers o made b =
    over_number {k = k} {inner = inner_block k labels p numbers x index} {numbers = numbers} spot
    (inner_over k labels x index more h nest p numbers o made b) nest h.begun o (omega arith) low refl refl is

pub inner_known :
    (k : Block) (labels : List Label) (x : Inner) (index more : ℕ) (spot : Spot) (d : Y.DeclaredVariable) →
    IsBegin k x index more → IsNested k → spot.level ≤ k.environment.level → IsKnown k spot d → (p : Point)
    (numbers : ℕ → ℕ) → IsAmong k numbers p → AreMade k x index p numbers →
    IsBegun (inner_block k labels p numbers x index) → IsKnown (inner_block k labels p numbers x index) spot d
inner_known k labels x index more spot d h nest low is p numbers o made b =
    over_known {k = k} {inner = inner_block k labels p numbers x index} {numbers = numbers} spot d
    (inner_over k labels x index more h nest p numbers o made b) nest h.begun o (omega arith) low refl refl is
