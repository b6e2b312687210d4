-- Variables of a block in what it declares: the same generations, in frames that the display has.
use Rattle.std.proofs.Common.{◌≡◌, ℕ, ◌+◌, ◌*◌, ◌^◌, ◌<◌, ◌≤◌, List, [], ◌∷◌, length, false, inl, inr, refl}
use Rattle.std.proofs.Common.{sym, ap, ◌∙◌, subst, arith}
use Rattle.std.proofs.lemmas.Bool.{eq-eqb, eqb-true}
use Rattle.std.specs.Prelude.{cond, suc, ◌==◌}
use Rattle.pli_typing.specs.Signatures.{Bounds, data_size}
use Rattle.pli_typing.specs.TypedTree as Y
use Rattle.pli_meaning.specs.DeclaredShapes.{declared_variable, shape_of}
use Rattle.pli_meaning.specs.StorageState.{ancestor, ancestor_at, binding_in, height_of, living_of, newest_height}
use Rattle.pli_coding.specs.Frames.{name_bytes}
use Rattle.storage_relation.proofs.Holders.{eqb-other}
use Rattle.storage_relation.proofs.Placing.{none_above}
use Rattle.activation_relation.specs.Chains.{AreActive, frame_at}
use Rattle.activation_relation.specs.Frames.{frame_under}
use Rattle.activation_relation.specs.Landing.{resumed, with_units}
use Rattle.activation_relation.specs.Layers.{Layer, Point}
use Rattle.activation_relation.specs.Remaining.{LivesOn, Remains}
use Rattle.activation_relation.proofs.Blocks.{same_length}
use Rattle.activation_relation.proofs.Displays.{ancestor_low}
use Rattle.activation_relation.proofs.Remaining.{remains_then}
use Rattle.activation_relation.proofs.Units.{frame_below}
use Rattle.program_runs.specs.Calls.{AreMade, Callee, block_at}
use Rattle.program_runs.specs.Procedures.{layer_for}
use Rattle.program_runs.specs.Statements.{Block, IsAmong, IsBegun, own_height}
use Rattle.program_runs.proofs.NewestBlocks.{newest_at, own_ancestor}
use Rattle.expression_runs.specs.Variables.{IsFrameOf, Spot, variable_of}
use Rattle.function_runs.specs.Functions.{function_block}
use Rattle.function_runs.specs.OuterVariables.{IsInside}
use Rattle.function_runs.proofs.OuterVariables.{Over, same_ancestor}
use Rattle.variable_runs.specs.Known.{IsKnown, place_of}
use Rattle.element_runs.specs.Arrays.{IsArray}

-- the frame of a level around is that which it was for the block below
below_frame :
    {k inner : Block} {numbers : ℕ → ℕ} {p : Point} (level base : ℕ) → Over k inner p → IsBegun k →
    IsAmong k numbers p → IsFrameOf k level base →
    (0 < height_of (ancestor_at k.first.state level))
    × (base ≡ frame_at k.first.control.layers (height_of (ancestor_at k.first.state level)))
below_frame {k} {p = p} level base i b o (inl own) =
    let n = newest_at b o in
    let parts = k.call.surroundings.parts in
    let φs = k.call.point.control.layers in
    let same : level ≡ k.environment.level = eqb-true level k.environment.level own.0 in
    let height : height_of (ancestor_at k.first.state level) ≡ own_height k =
    ap (λ xs. height_of (ancestor xs (newest_height xs) level)) (sym o.later.activations)
    ∙ ap (λ j. height_of (ancestor_at p.state j)) same ∙ own_ancestor i.own n in
    let many = n.many in
    let newest : own_height k ≡ suc (length φs) = omega (arith, many) in
    let there : frame_at p.control.layers (own_height k) ≡ frame_under parts p.control.layers =
    subst (λ ls. frame_at ls (own_height k) ≡ frame_under parts ls) (sym n.layers)
    (ap (λ q. cond q n.layer.at (frame_at φs (own_height k))) (eq-eqb (own_height k) (suc (length φs)) newest)) in (
      omega (arith, height),
      own.1
          ∙ sym (subst (λ ls. frame_at ls (own_height k) ≡ frame_under parts ls) o.later.layers there)
          ∙ ap (λ j. frame_at k.first.control.layers j) (sym height),
    )
below_frame level base i b o (inr outer) = (outer.2, outer.4)

pub over_known :
    {k inner : Block} {numbers : ℕ → ℕ} {p : Point} (x : Spot) (d : Y.DeclaredVariable) → Over k inner p →
    IsBegun k → IsAmong k numbers p →
    x.level < inner.call.beginning.layer.level → inner.environment.program ≡ k.environment.program →
    inner.environment.parts ≡ k.environment.parts → IsKnown k x d → IsKnown inner x d
over_known {k} {inner} {p = p} x d i b o less program parts is =
    record {
      declared = ap (λ y. declared_variable y (variable_of x)) program ∙ is.declared;
      serial = is.serial;
      binding = ap (λ a. binding_in a x.index) same ∙ is.binding;
      living = on.there;
      lives = on.lives;
      shape = on.shape ∙ is.shape;
      base = is.base;
      frame = inr (other, less, above, i.few, frame);
      at = moved ∙ is.at ∙ ap (λ n. is.base + (n + name_bytes)) (sym place);
      low = is.low;
      inside =
          subst (λ n. is.base + (n + name_bytes + data_size (shape_of [] d).signature) ≤ 15 * 2 ^ 20) (sym place)
          is.inside;
    }
  where
    φs : List Layer
    φs = p.control.layers

    same : ancestor_at inner.first.state x.level ≡ ancestor_at k.first.state x.level
    same = same_ancestor x.level i b o less

    place : place_of inner.environment x ≡ place_of k.environment x
    place =
        ap (λ y. place_of (record inner.environment { program = y }) x) program
        ∙ ap (λ y. place_of (record k.environment { parts = y }) x) parts

    to : Remains k.first inner.first
    to = remains_then k.first p inner.first o.later.remains i.remains

    on : LivesOn is.living (living_of inner.first.state.living is.serial)
    on = to.living is.serial is.living is.lives

    low : is.serial < k.first.state.serials + 1
    low = none_above (k.first.state.serials + 1) k.first.state.living is.serial is.living b.resumes.stands.lives.falling
        is.lives

    moved : inner.first.places.at is.serial ≡ k.first.places.at is.serial
    moved = to.at is.serial (omega (arith, low))

    other : (x.level == inner.environment.level) ≡ false
    other = let code = i.code in eqb-other x.level inner.environment.level (omega (arith, code, less))

    below :
        (0 < height_of (ancestor_at k.first.state x.level))
        × (is.base ≡ frame_at k.first.control.layers (height_of (ancestor_at k.first.state x.level)))
    below = below_frame x.level is.base i b o is.frame

    above : 0 < height_of (ancestor_at inner.first.state x.level)
    above = subst (λ a. 0 < height_of a) (sym same) below.0

    high : height_of (ancestor_at k.first.state x.level) ≤ length φs
    high =
        let short = ancestor_low k.call.surroundings.units p.state.activations φs (newest_height p.state.activations)
        x.level o.stands.active in
        let many = same_length k.call.surroundings.units p.state.activations φs o.stands.active in
        let e = ap (λ xs. height_of (ancestor xs (newest_height xs) x.level)) o.later.activations in
        omega (arith, short, many, e)

    frame : is.base ≡ frame_at inner.first.control.layers (height_of (ancestor_at inner.first.state x.level))
    frame =
        below.1
        ∙ ap (λ ls. frame_at ls (height_of (ancestor_at k.first.state x.level))) (sym o.later.layers)
        ∙ sym (i.frames (height_of (ancestor_at k.first.state x.level)))
        ∙ sym (frame_below i.layer i.below (height_of (ancestor_at k.first.state x.level))
        (let many = i.many in omega (arith, high, many)))
        ∙ ap (λ ls. frame_at ls (height_of (ancestor_at k.first.state x.level))) (sym i.layers)
        ∙ ap (λ a. frame_at inner.first.control.layers (height_of a)) (sym same)

-- ---- what is called

pub procedure_known :
    (k : Block) (c : Callee) (x : Spot) (d : Y.DeclaredVariable) → IsInside k c x → IsKnown k x d → (p : Point)
    (numbers : ℕ → ℕ) → IsAmong k numbers p → AreMade k.call.surroundings k.call.code c p numbers →
    IsBegun (block_at k.call.surroundings k.call.code c p numbers) →
    IsKnown (block_at k.call.surroundings k.call.code c p numbers) x d
procedure_known k c x d h is p numbers o made b =
    let inner = block_at k.call.surroundings k.call.code c p numbers in
    let φ = resumed made.changed (layer_for k.call.surroundings p numbers c.procedure c.calling) in
    let a = with_units made.own made.activation in
    let active : AreActive k.call.surroundings.units (a ∷ p.state.activations) (φ ∷ p.control.layers) =
    subst (λ xs. AreActive k.call.surroundings.units xs (φ ∷ p.control.layers)) made.activations
    (subst (λ ls. AreActive k.call.surroundings.units inner.first.state.activations ls) made.layers
    b.resumes.stands.active) in
    over_known {k = k} {inner = inner} {numbers = numbers} {p = p} x d
    (record {
      activation = a;
      layer = φ;
      active = made.activations;
      below = p.control.layers;
      layers = made.layers;
      frames = λ n. refl;
      many = refl;
      height = active.0.height;
      level = active.0.level;
      parent = made.parent ∙ h.parent;
      remains = b.remains;
      own = h.level;
      code = h.inner;
      few = h.few;
    }) h.begun o h.further h.program h.parts is

pub function_known :
    (k : Block) (c : Callee) (x : Spot) (d : Y.DeclaredVariable) → IsInside k c x → IsKnown k x d → (p : Point)
    (numbers : ℕ → ℕ) → IsAmong k numbers p → AreMade k.call.surroundings k.call.code c p numbers →
    IsBegun (function_block k.call.surroundings k.call.code c p numbers) →
    IsKnown (function_block k.call.surroundings k.call.code c p numbers) x d
function_known k c x d h is p numbers o made b =
    let inner = function_block k.call.surroundings k.call.code c p numbers in
    let φ = resumed made.changed (layer_for k.call.surroundings p numbers c.procedure c.calling) in
    let a = with_units made.own made.activation in
    let active : AreActive k.call.surroundings.units (a ∷ p.state.activations) (φ ∷ p.control.layers) =
    subst (λ xs. AreActive k.call.surroundings.units xs (φ ∷ p.control.layers)) made.activations
    (subst (λ ls. AreActive k.call.surroundings.units inner.first.state.activations ls) made.layers
    b.resumes.stands.active) in
    over_known {k = k} {inner = inner} {numbers = numbers} {p = p} x d
    (record {
      activation = a;
      layer = φ;
      active = made.activations;
      below = p.control.layers;
      layers = made.layers;
      frames = λ n. refl;
      many = refl;
      height = active.0.height;
      level = active.0.level;
      parent = made.parent ∙ h.parent;
      remains = b.remains;
      own = h.level;
      code = h.inner;
      few = h.few;
    }) h.begun o h.further h.program h.parts is

pub outer_array :
    (k inner : Block) (x : Spot) (b : Bounds) →
    ((d : Y.DeclaredVariable) → IsKnown k x d → IsKnown inner x d) → IsArray k x b → IsArray inner x b
outer_array k inner x b known is =
    record { initial = is.initial; known = known _ is.known; bounds = is.bounds }
