-- What the statements of a procedure with a copied parameter know: the parameter, and the variables around it.
use Rattle.std.proofs.Common.{Option, None}
use Rattle.std.proofs.Common.{◌≡◌, ℕ, ℤ, ◌<◌, ◌+◌, ◌-◌, ◌*◌, ◌^◌, ◌≤◌, List, ◌∷◌, length, Some, true, refl, sym}
use Rattle.std.proofs.Common.{ap, ◌∙◌, subst, arith}
use Rattle.std.proofs.lemmas.Bool.{eq-eqb}
use Rattle.std.specs.Prelude.{cond}
use Rattle.pli_typing.specs.TypedTree as Y
use Rattle.pli_meaning.specs.BasicValues.{VariableName}
use Rattle.pli_meaning.specs.Executing as M
use Rattle.pli_meaning.specs.Making.{living_at}
use Rattle.pli_meaning.specs.Numbers.{is_of_precision}
use Rattle.pli_meaning.specs.StorageState.{Activation, Binding, Living, living_of}
use Rattle.activation_relation.specs.Chains.{frame_at}
use Rattle.activation_relation.specs.CodeStores.{most_levels}
use Rattle.activation_relation.specs.Frames.{frame_under, lower_end}
use Rattle.activation_relation.specs.FrameLaws.{with_waits}
use Rattle.activation_relation.specs.Layers.{Layer, Point}
use Rattle.activation_relation.specs.Variables.{grown}
use Rattle.activation_relation.specs.Points.{AreFew, Stands}
use Rattle.activation_relation.proofs.Serials.{few_small}
use Rattle.block_runs.specs.Bodies.{Function}
use Rattle.block_runs.specs.Machines.{IsImage}
use Rattle.block_runs.proofs.Places.{bounds}
use Rattle.program_runs.specs.Statements.{Block, IsAmong, IsBegun}
use Rattle.expression_runs.specs.Values.{Setting}
use Rattle.expression_runs.specs.Variables.{IsNumber, Spot}
use Rattle.expression_runs.proofs.OwnVariables.{newest_binding}
use Rattle.function_runs.proofs.OuterVariables.{over_number}
use Rattle.argument_runs.specs.Copies.{copy_generation, copy_made_of}
use Rattle.argument_runs.specs.CopyCalls.{CopyCall, Copying, HasRoomFor, IsCopyCall, IsFurther, IsOwnParameter}
use Rattle.argument_runs.specs.CopyCalls.{beginning_of, call_at, copy_block, copy_in, listed_layer}
use Rattle.argument_runs.specs.CopyFunctions.{IsCopyFunctionCall, block_with, called_by}
use Rattle.argument_runs.specs.Lists.{list_under, named_waits}
use Rattle.argument_runs.specs.Parameters.{IsParameter, parameter_shape}
use Rattle.argument_runs.proofs.CopyBlocks.{room_here}
use Rattle.argument_runs.proofs.CopyCalls.{room_among}
use Rattle.argument_runs.proofs.CopyFunctions as F

-- ---- its parameter

-- its activation without the copy
abbrev activation_in : Option Function → CopyCall → Activation
activation_in g y =
    M.activation_of y.callee.procedure.head (beginning_of g y).entry (length y.point.state.activations + 1)

abbrev serial_in : CopyCall → ℕ
serial_in y = y.point.state.serials + 1

abbrev living_in : CopyCall → Living
living_in y = living_at (serial_in y) (length y.point.state.activations + 1) (copy_generation (copy_in y))

-- what is known of the point
pub record Given (y : CopyCall) : Type 0 where
  pub stands : Stands y.surroundings y.point
  pub image : IsImage y.surroundings y.code y.point
  pub few : AreFew y.surroundings y.point
  pub room : HasRoomFor y.surroundings y.point y.callee y.layer y.others
  pub small' : y.surroundings.serials + 1 < 2 ^ 40
  pub level : y.callee.procedure.head.level < most_levels

pub copy_parameter :
    {g : Option Function} {y : CopyCall} (h : Given y) (x : Spot) → IsOwnParameter y.callee x →
    IsBegun (copy_block g y) → IsParameter (copy_block g y) x
copy_parameter {g} {y} h x own b =
    let w = y.surroundings in
    let p = y.point in
    let serial = serial_in y in
    let binding : Binding = record { variable = 0; name = VariableName serial; shape = parameter_shape } in
    let place = (listed_layer y).lower - 16 in
    let level = own.level in
    let head = h.level in
    let room = room_here y h.room in
    let parts = h.image.parts in
    let high = parts.high in
    let last = parts.inside in
    let o = bounds w.parts p.control.layers h.stands.laid in
    let low = o.low in
    let above = o.above in
    let end = o.high in
    let same = ap (λ ls. lower_end w.parts ls) h.room.newest in
    let same' = ap (λ ls. frame_under w.parts ls) h.room.newest in
    let there : (copy_block g y).first.places.at serial ≡ place =
    ap (λ t. cond t place (p.places.at serial)) (eq-eqb serial serial refl) in
    record {
      begun = b;
      declared = own.declared;
      place = 0;
      numbered_so = own.first;
      near = omega arith;
      own = eq-eqb x.level y.callee.environment.level (own.level ∙ sym own.own);
      serial = serial;
      binding =
          newest_binding (activation_in g y) p.state.activations binding x.level x.index own.level own.index
          ∙ ap (λ n. Some (record { variable = n; name = VariableName serial; shape = parameter_shape }))
          (sym own.index);
      living = living_in y;
      lives = ap (λ t. cond t (Some (living_in y)) (living_of p.state.living serial)) (eq-eqb serial serial refl);
      shape = refl;
      layer = grown (copy_made_of (listed_layer y) (copy_in y)) (listed_layer y);
      caller = with_waits (named_waits serial y.callee.number) y.layer;
      others = y.others;
      signature = y.callee.number;
      layers = refl;
      at = list_under y.layer.at;
      list = refl;
      last = 0;
      under = omega (arith, low, high, same');
      name = record { kind = refl; second = refl; low = refl; high = refl; number = refl };
      level = sym own.level;
      few = omega (arith, level, head);
      words = h.room.words;
      small = (let few = few_small w p 1 h.few h.small' in omega (arith, few));
      number = h.room.number;
      numbered = h.room.shape;
      low = subst (λ n. 2 ^ 22 ≤ n) (sym there) (omega (arith, high, low, above, room, same, same'));
      inside = subst (λ n. n + 4 ≤ 15 * 2 ^ 20) (sym there) (omega (arith, last, end, same));
    }

pub own_known :
    (k : Block) (c : Copying) (source : Y.Number) (φ : Layer) (φs : List Layer) (line index need most more : ℕ)
    (p : Point) (numbers : ℕ → ℕ) (z : ℤ) (x : Spot) → IsCopyCall k c source φ φs line index need most more →
    IsAmong k numbers p → is_of_precision 31 z ≡ true → IsOwnParameter c x →
    IsBegun (copy_block None (call_at k c φ φs p numbers z)) →
    IsParameter (copy_block None (call_at k c φ φs p numbers z)) x
own_known k c source φ φs line index need most more p numbers z x h o wide own b =
    copy_parameter
    (record {
      stands = o.stands;
      image = o.image;
      few = o.few;
      room = room_among h o;
      small' = h.small;
      level = h.callee.coded.level;
    }) x own b

-- ---- variables around it

pub outer_in :
    {g : Option Function} {k : Block} {c : Copying} {φ : Layer} {φs : List Layer} {p : Point} {numbers : ℕ → ℕ} {z : ℤ}
    (x : Spot) → IsBegun k → IsAmong k numbers p → p.control.layers ≡ φ ∷ φs →
    (k.environment.level ≡ k.call.beginning.layer.level)
    × (c.calling.parent ≡ length k.call.point.state.activations + 1) × (c.procedure.head.level < most_levels) →
    IsFurther k c x → IsNumber k x → IsBegun (copy_block g (call_at k c φ φs p numbers z)) →
    IsNumber (copy_block g (call_at k c φ φs p numbers z)) x
outer_in {g} {k} {c} {φ} {φs} {p} {numbers} {z} x begun o newest called far is b =
    let y = call_at k c φ φs p numbers z in
    let r = b.remains in
    over_number {k = k} {inner = copy_block g y} {numbers = numbers} {p = p} x
    (record {
      activation = _;
      layer = grown (copy_made_of (listed_layer y) (copy_in y)) (listed_layer y);
      active = refl;
      below = with_waits (named_waits (p.state.serials + 1) c.number) φ ∷ φs;
      layers = refl;
      frames = λ n. ap (λ ls. frame_at ls n) (sym newest);
      many = ap (λ (ls : List Layer). length ls) (sym newest);
      height = omega arith;
      level = refl;
      parent = called.1;
      remains = record {
        living = r.living;
        serials = r.serials;
        at = r.at;
        number = r.number;
        signatures = r.signatures;
        statics = r.statics;
        low = r.low;
        constants = r.constants;
        active = r.active;
        in_use = r.in_use;
      };
      own = called.0;
      code = far.inner;
      few = called.2;
    }) begun o far.further far.program far.parts is

pub outer_known :
    (k : Block) (c : Copying) (source : Y.Number) (φ : Layer) (φs : List Layer) (line index need most more : ℕ)
    (p : Point) (numbers : ℕ → ℕ) (z : ℤ) (x : Spot) → IsCopyCall k c source φ φs line index need most more →
    IsAmong k numbers p → is_of_precision 31 z ≡ true → IsFurther k c x → IsNumber k x →
    IsBegun (copy_block None (call_at k c φ φs p numbers z)) →
    IsNumber (copy_block None (call_at k c φ φs p numbers z)) x
outer_known k c source φ φs line index need most more p numbers z x h o wide far is b =
    outer_in {numbers = numbers} {z = z} x h.begun o (o.later.layers ∙ h.room.newest)
    (h.level, h.parent, h.callee.coded.level) far is b

-- ---- the same of functions

pub function_own_known :
    (k : Setting) (c : Copying) (φ : Layer) (φs : List Layer) (more call : ℕ) (p : Point) (numbers : ℕ → ℕ) (z : ℤ)
    (x : Spot) → IsCopyFunctionCall k c φ φs more → IsAmong k.block numbers p → IsOwnParameter c x →
    IsBegun (block_with k c φ φs call p numbers z) → IsParameter (block_with k c φ φs call p numbers z) x
function_own_known k c φ φs more call p numbers z x h o own b =
    copy_parameter
    (record {
      stands = o.stands;
      image = o.image;
      few = o.few;
      room = F.room_among call h o;
      small' = h.small;
      level = h.function.level;
    }) x
    (record {
      declared = own.declared;
      first = own.first;
      index = own.index;
      level = own.level;
      own = own.own;
    }) b

pub function_outer_known :
    (k : Setting) (c : Copying) (φ : Layer) (φs : List Layer) (more call : ℕ) (p : Point) (numbers : ℕ → ℕ) (z : ℤ)
    (x : Spot) → IsCopyFunctionCall k c φ φs more → IsAmong k.block numbers p → IsFurther k.block c x →
    IsNumber k.block x → IsBegun (block_with k c φ φs call p numbers z) →
    IsNumber (block_with k c φ φs call p numbers z) x
function_outer_known k c φ φs more call p numbers z x h o far is b =
    outer_in {c = called_by c call} {numbers = numbers} {z = z} x h.begun o (o.later.layers ∙ h.room.newest)
    (h.level, h.parent, h.function.level)
    (record { inner = far.inner; further = far.further; program = far.program; parts = far.parts }) is b
