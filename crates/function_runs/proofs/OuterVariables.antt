-- The variables of a block in what it declares: the same generations, in frames that the display has.
use Rattle.std.proofs.Common.{◌≡◌, ℕ, suc, ◌+◌, ◌*◌, ◌^◌, ◌<◌, ◌≤◌, List, ◌∷◌, length, Some, false, inl, inr}
use Rattle.std.proofs.Common.{refl, sym, ap, ◌∙◌, subst, arith}
use Rattle.std.proofs.lemmas.Bool.{eq-eqb, eqb-true}
use Rattle.std.specs.Prelude.{cond, ◌==◌}
use Rattle.pli_meaning.specs.DeclaredShapes.{declared_variable}
use Rattle.pli_meaning.specs.StorageState.{Activation, ancestor, ancestor_at, binding_in, height_of, newest_height}
use Rattle.pli_meaning.specs.StorageState.{living_of}
use Rattle.storage_relation.proofs.Holders.{eqb-other, eqb-refl}
use Rattle.storage_relation.proofs.Placing.{none_above}
use Rattle.activation_relation.specs.Chains.{AreActive, frame_at}
use Rattle.activation_relation.specs.CodeStores.{most_levels}
use Rattle.activation_relation.specs.Frames.{frame_under}
use Rattle.activation_relation.specs.Landing.{resumed, with_units}
use Rattle.activation_relation.specs.Layers.{Layer, Point}
use Rattle.activation_relation.specs.Remaining.{LivesOn, Remains}
use Rattle.activation_relation.proofs.Blocks.{same_length}
use Rattle.activation_relation.proofs.Displays.{ancestor_low}
use Rattle.activation_relation.proofs.Remaining.{remains_then}
use Rattle.activation_relation.proofs.Units.{frame_below}
use Rattle.program_runs.specs.Calls.{AreMade, Callee, block_at}
use Rattle.program_runs.specs.Procedures.{layer_for}
use Rattle.program_runs.specs.Statements.{Block, IsAmong, IsBegun, own_height}
use Rattle.program_runs.proofs.NewestBlocks.{newest_at, newest_own, own_ancestor}
use Rattle.expression_runs.specs.Variables.{IsFrameOf, IsNumber, Spot, number_binding, number_declared, number_place}
use Rattle.expression_runs.specs.Variables.{variable_of}
use Rattle.function_runs.specs.Functions.{function_block}
use Rattle.function_runs.specs.OuterVariables.{IsInside}

-- ---- a block over one that declares it

pub record Over (k : Block) (inner : Block) (p : Point) : Type 0 where
  pub activation : Activation
  pub layer : Layer
  pub active : inner.first.state.activations ≡ activation ∷ p.state.activations
  -- the frames below its own are those at the point, whatever is told of words in them
  pub below : List Layer
  pub layers : inner.first.control.layers ≡ layer ∷ below
  pub frames : (n : ℕ) → frame_at below n ≡ frame_at p.control.layers n
  pub many : length below ≡ length p.control.layers
  pub height : activation.height ≡ suc (length p.state.activations)
  pub level : activation.level ≡ inner.call.beginning.layer.level
  pub parent : activation.parent ≡ own_height k
  pub remains : Remains p inner.first
  pub own : k.environment.level ≡ k.call.beginning.layer.level
  pub code : inner.environment.level ≡ inner.call.beginning.layer.level
  pub few : inner.call.beginning.layer.level < most_levels

ancestor_own :
    (a : Activation) (as' : List Activation) (level : ℕ) → (a.level == level) ≡ false →
    ancestor (a ∷ as') a.height level ≡ ancestor as' a.parent level
ancestor_own a as' level other =
    ap (λ q. cond q (cond (a.level == level) (Some a) (ancestor as' a.parent level)) (ancestor as' a.height level))
    (eqb-refl a.height)
    ∙ ap (λ q. cond q (Some a) (ancestor as' a.parent level)) other

pub same_ancestor :
    {k inner : Block} {numbers : ℕ → ℕ} {p : Point} (level : ℕ) → Over k inner p → IsBegun k → IsAmong k numbers p →
    level < inner.call.beginning.layer.level →
    ancestor_at inner.first.state level ≡ ancestor_at k.first.state level
same_ancestor {p = p} level i b o less =
    let n = newest_at b o in
    let at = i.level in
    ap (λ xs. ancestor xs (newest_height xs) level) i.active
    ∙ ancestor_own i.activation p.state.activations level (eqb-other i.activation.level level (omega (arith, at, less)))
    ∙ ap (λ height. ancestor p.state.activations height level) (i.parent ∙ sym (newest_own n))
    ∙ ap (λ xs. ancestor xs (newest_height xs) level) o.later.activations

-- the frame of a level around is that which it was for the block below
below_frame :
    {k inner : Block} {numbers : ℕ → ℕ} {p : Point} (level base : ℕ) → Over k inner p → IsBegun k →
    IsAmong k numbers p → IsFrameOf k level base →
    (0 < height_of (ancestor_at k.first.state level))
    × (base ≡ frame_at k.first.control.layers (height_of (ancestor_at k.first.state level)))
below_frame {k} {p = p} level base i b o (inl own) =
    let n = newest_at b o in
    let parts = k.call.surroundings.parts in
    let φs = k.call.point.control.layers in
    let same : level ≡ k.environment.level = eqb-true level k.environment.level own.0 in
    let height : height_of (ancestor_at k.first.state level) ≡ own_height k =
    ap (λ xs. height_of (ancestor xs (newest_height xs) level)) (sym o.later.activations)
    ∙ ap (λ j. height_of (ancestor_at p.state j)) same ∙ own_ancestor i.own n in
    let many = n.many in
    let newest : own_height k ≡ suc (length φs) = omega (arith, many) in
    let there : frame_at p.control.layers (own_height k) ≡ frame_under parts p.control.layers =
    subst (λ ls. frame_at ls (own_height k) ≡ frame_under parts ls) (sym n.layers)
    (ap (λ q. cond q n.layer.at (frame_at φs (own_height k))) (eq-eqb (own_height k) (suc (length φs)) newest)) in (
      omega (arith, height),
      own.1
          ∙ sym (subst (λ ls. frame_at ls (own_height k) ≡ frame_under parts ls) o.later.layers there)
          ∙ ap (λ j. frame_at k.first.control.layers j) (sym height),
    )
below_frame level base i b o (inr outer) = (outer.2, outer.4)

pub over_number :
    {k inner : Block} {numbers : ℕ → ℕ} {p : Point} (x : Spot) → Over k inner p → IsBegun k → IsAmong k numbers p →
    x.level < inner.call.beginning.layer.level → inner.environment.program ≡ k.environment.program →
    inner.environment.parts ≡ k.environment.parts → IsNumber k x → IsNumber inner x
over_number {k} {inner} {p = p} x i b o less program parts is =
    record {
      initial = is.initial;
      declared = ap (λ y. declared_variable y (variable_of x)) program ∙ is.declared;
      serial = is.serial;
      binding = ap (λ a. binding_in a x.index) same ∙ is.binding;
      living = on.there;
      lives = on.lives;
      shape = on.shape ∙ is.shape;
      base = is.base;
      frame = inr (other, less, above, i.few, frame);
      at = moved ∙ is.at ∙ ap (λ n. is.base + n) (sym place);
      low = subst (λ n. 2 ^ 22 ≤ is.base + n) (sym place) is.low;
      inside = subst (λ n. is.base + n + 4 ≤ 15 * 2 ^ 20) (sym place) is.inside;
    }
  where
    φs : List Layer
    φs = p.control.layers

    same : ancestor_at inner.first.state x.level ≡ ancestor_at k.first.state x.level
    same = same_ancestor x.level i b o less

    place : number_place inner.environment x ≡ number_place k.environment x
    place =
        ap (λ y. number_place (record inner.environment { program = y }) x) program
        ∙ ap (λ y. number_place (record k.environment { parts = y }) x) parts

    to : Remains k.first inner.first
    to = remains_then k.first p inner.first o.later.remains i.remains

    on : LivesOn is.living (living_of inner.first.state.living is.serial)
    on = to.living is.serial is.living is.lives

    low : is.serial < k.first.state.serials + 1
    low = none_above (k.first.state.serials + 1) k.first.state.living is.serial is.living b.resumes.stands.lives.falling
        is.lives

    moved : inner.first.places.at is.serial ≡ k.first.places.at is.serial
    moved = to.at is.serial (omega (arith, low))

    other : (x.level == inner.environment.level) ≡ false
    other = let code = i.code in eqb-other x.level inner.environment.level (omega (arith, code, less))

    below :
        (0 < height_of (ancestor_at k.first.state x.level))
        × (is.base ≡ frame_at k.first.control.layers (height_of (ancestor_at k.first.state x.level)))
    below = below_frame x.level is.base i b o is.frame

    above : 0 < height_of (ancestor_at inner.first.state x.level)
    above = subst (λ a. 0 < height_of a) (sym same) below.0

    high : height_of (ancestor_at k.first.state x.level) ≤ length φs
    high =
        let short = ancestor_low k.call.surroundings.units p.state.activations φs (newest_height p.state.activations)
        x.level o.stands.active in
        let many = same_length k.call.surroundings.units p.state.activations φs o.stands.active in
        let e = ap (λ xs. height_of (ancestor xs (newest_height xs) x.level)) o.later.activations in
        omega (arith, short, many, e)

    frame : is.base ≡ frame_at inner.first.control.layers (height_of (ancestor_at inner.first.state x.level))
    frame =
        below.1
        ∙ ap (λ ls. frame_at ls (height_of (ancestor_at k.first.state x.level))) (sym o.later.layers)
        ∙ sym (i.frames (height_of (ancestor_at k.first.state x.level)))
        ∙ sym (frame_below i.layer i.below (height_of (ancestor_at k.first.state x.level))
        (let many = i.many in omega (arith, high, many)))
        ∙ ap (λ ls. frame_at ls (height_of (ancestor_at k.first.state x.level))) (sym i.layers)
        ∙ ap (λ a. frame_at inner.first.control.layers (height_of a)) (sym same)

-- ---- what is called

pub procedure_number :
    (k : Block) (c : Callee) (x : Spot) → IsInside k c x → IsNumber k x → (p : Point) (numbers : ℕ → ℕ) →
    IsAmong k numbers p → AreMade k.call.surroundings k.call.code c p numbers →
    IsBegun (block_at k.call.surroundings k.call.code c p numbers) →
    IsNumber (block_at k.call.surroundings k.call.code c p numbers) x
procedure_number k c x h is p numbers o made b =
    let inner = block_at k.call.surroundings k.call.code c p numbers in
    let φ = resumed made.changed (layer_for k.call.surroundings p numbers c.procedure c.calling) in
    let a = with_units made.own made.activation in
    let active : AreActive k.call.surroundings.units (a ∷ p.state.activations) (φ ∷ p.control.layers) =
    subst (λ xs. AreActive k.call.surroundings.units xs (φ ∷ p.control.layers)) made.activations
    (subst (λ ls. AreActive k.call.surroundings.units inner.first.state.activations ls) made.layers
    b.resumes.stands.active) in
    over_number {k = k} {inner = inner} {numbers = numbers} {p = p} x
    (record {
      activation = a;
      layer = φ;
      active = made.activations;
      below = p.control.layers;
      layers = made.layers;
      frames = λ n. refl;
      many = refl;
      height = active.0.height;
      level = active.0.level;
      parent = made.parent ∙ h.parent;
      remains = b.remains;
      own = h.level;
      code = h.inner;
      few = h.few;
    }) h.begun o h.further h.program h.parts is

pub function_number :
    (k : Block) (c : Callee) (x : Spot) → IsInside k c x → IsNumber k x → (p : Point) (numbers : ℕ → ℕ) →
    IsAmong k numbers p → AreMade k.call.surroundings k.call.code c p numbers →
    IsBegun (function_block k.call.surroundings k.call.code c p numbers) →
    IsNumber (function_block k.call.surroundings k.call.code c p numbers) x
function_number k c x h is p numbers o made b =
    let inner = function_block k.call.surroundings k.call.code c p numbers in
    let φ = resumed made.changed (layer_for k.call.surroundings p numbers c.procedure c.calling) in
    let a = with_units made.own made.activation in
    let active : AreActive k.call.surroundings.units (a ∷ p.state.activations) (φ ∷ p.control.layers) =
    subst (λ xs. AreActive k.call.surroundings.units xs (φ ∷ p.control.layers)) made.activations
    (subst (λ ls. AreActive k.call.surroundings.units inner.first.state.activations ls) made.layers
    b.resumes.stands.active) in
    over_number {k = k} {inner = inner} {numbers = numbers} {p = p} x
    (record {
      activation = a;
      layer = φ;
      active = made.activations;
      below = p.control.layers;
      layers = made.layers;
      frames = λ n. refl;
      many = refl;
      height = active.0.height;
      level = active.0.level;
      parent = made.parent ∙ h.parent;
      remains = b.remains;
      own = h.level;
      code = h.inner;
      few = h.few;
    }) h.begun o h.further h.program h.parts is
