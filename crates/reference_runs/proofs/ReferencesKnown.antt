-- What the statements of a procedure with a parameter by reference know: the parameter, and the variables around it.
use Rattle.std.proofs.Common.{◌≡◌, ℕ, ◌+◌, ◌<◌, ◌≤◌, List, ◌∷◌, length, Some, refl, sym, ap, ◌∙◌}
use Rattle.std.proofs.Common.{arith}
use Rattle.std.proofs.lemmas.Bool.{eq-eqb}
use Rattle.std.specs.Prelude.{cond, ◌==◌}
use Rattle.pli_meaning.specs.BasicValues.{VariableName}
use Rattle.pli_meaning.specs.StorageState.{Activation, ancestor, binding_in, binding_of, living_of}
use Rattle.pli_meaning.specs.StorageState.{newest_height}
use Rattle.storage_relation.proofs.Placing.{none_above}
use Rattle.activation_relation.specs.Chains.{frame_at}
use Rattle.activation_relation.specs.Frames.{frame_under}
use Rattle.activation_relation.specs.Landing.{resumed, with_units}
use Rattle.activation_relation.specs.Layers.{Layer, Point}
use Rattle.activation_relation.specs.Remaining.{LivesOn}
use Rattle.activation_relation.proofs.Remaining.{shapes_remain}
use Rattle.block_runs.proofs.PointGrounds.{point_frame}
use Rattle.program_runs.specs.Statements.{Block, IsAmong, IsBegun}
use Rattle.expression_runs.specs.Variables.{IsNumber, Spot, number_place}
use Rattle.function_runs.proofs.OuterVariables.{over_number}
use Rattle.argument_runs.specs.Lists.{list_under}
use Rattle.argument_runs.specs.Parameters.{IsParameter, parameter_shape}
use Rattle.reference_runs.specs.Receivers.{MadeFor, Receiver, ReferenceCall, given_layer, listed_layer}
use Rattle.reference_runs.specs.Receivers.{reference_block}
use Rattle.reference_runs.specs.ReferenceCalls.{IsFurther, IsOwnParameter, IsReferenceCall, MadeWhere, call_at}
use Rattle.reference_runs.specs.References.{IsReferred, Reference}
use Rattle.reference_runs.proofs.ReferenceCalls.{referred_among}

-- what a variable of the newest activation stands for
newest_bound :
    (a : Activation) (as' : List Activation) (level index : ℕ) → level ≡ a.level →
    binding_in (ancestor (a ∷ as') a.height level) index ≡ binding_of a.bindings index
newest_bound a as' level index own =
    let rest = ancestor as' a.parent level in
    ap (λ t. binding_in (cond t (cond (a.level == level) (Some a) rest) (ancestor as' a.height level)) index)
    (eq-eqb a.height a.height refl)
    ∙ ap (λ t. binding_in (cond t (Some a) rest) index) (eq-eqb a.level level (sym own))

pub own_known :
    (k : Block) (c : Receiver) (x : Spot) (r : Reference) (φ : Layer) (φs : List Layer) (line index more : ℕ)
    (p : Point) (numbers : ℕ → ℕ) (n : Spot) → IsReferenceCall k c x r φ φs line index more → MadeWhere k c r φ φs →
    IsAmong k numbers p → IsOwnParameter c n → IsBegun (reference_block (call_at k c r φ φs p numbers)) →
    IsParameter (reference_block (call_at k c r φ φs p numbers)) n
own_known k c x r φ φs line index more p numbers n h made o own b =
    record {
      begun = b;
      declared = own.declared;
      place = 0;
      numbered_so = own.first;
      near = omega arith;
      own = eq-eqb n.level c.environment.level (own.level ∙ sym own.own);
      serial = r.serial;
      binding =
          ap (λ xs. binding_in (ancestor xs (newest_height xs) n.level) n.index) m.activations
          ∙ newest_bound (with_units m.own m.activation) p.state.activations n.level n.index (own.level ∙ sym m.same.1)
          ∙ ap (binding_of m.activation.bindings) own.index
          ∙ m.bindings
          ∙ ap (λ i. Some (record { variable = i; name = VariableName r.serial; shape = parameter_shape }))
          (sym own.index);
      living = on.there;
      lives = on.lives;
      shape = on.shape ∙ here.shape;
      layer = resumed m.changed (listed_layer y);
      caller = given_layer y;
      others = φs;
      signature = r.signature;
      layers = m.layers;
      at = list_under φ.at;
      list = refl;
      last = 0;
      under = omega (arith, frame);
      name = record { kind = refl; second = refl; low = refl; high = refl; number = refl };
      level = sym own.level;
      few = (let level = own.level in let head = h.callee.coded.level in omega (arith, level, head));
      words = h.room.words;
      small = here.serial;
      number = here.small;
      numbered = shapes_remain b.remains r.signature parameter_shape here.numbered;
      low = (let low = is.low in omega (arith, there, low));
      inside = (let inside = is.inside in omega (arith, there, inside));
    }
  where
    y : ReferenceCall
    y = call_at k c r φ φs p numbers

    m : MadeFor y
    m = made p numbers o

    is : IsNumber k x
    is = h.named.number

    here : IsReferred p φ φs r
    here = referred_among h.named.referred o

    on : LivesOn here.living (living_of (reference_block y).first.state.living r.serial)
    on = b.remains.living r.serial here.living here.lives

    less : r.serial < p.state.serials + 1
    less = none_above (p.state.serials + 1) p.state.living r.serial here.living o.stands.lives.falling here.lives

    less' : r.serial < k.first.state.serials + 1
    less' =
        let e = h.named.serial in
        let first = none_above (k.first.state.serials + 1) k.first.state.living is.serial is.living
        h.begun.resumes.stands.lives.falling is.lives in
        omega (arith, e, first)

    there : (reference_block y).first.places.at r.serial ≡ is.base + number_place k.environment x
    there =
        b.remains.at r.serial (omega (arith, less))
        ∙ o.later.remains.at r.serial (omega (arith, less'))
        ∙ ap k.first.places.at (sym h.named.serial)
        ∙ is.at

    frame : 24 ≤ φ.at
    frame =
        let high = (point_frame o.stands o.image).high in
        let same = ap (λ ls. frame_under k.call.surroundings.parts ls) (o.later.layers ∙ h.room.newest) in
        omega (arith, high, same)

pub outer_known :
    (k : Block) (c : Receiver) (x : Spot) (r : Reference) (φ : Layer) (φs : List Layer) (line index more : ℕ)
    (p : Point) (numbers : ℕ → ℕ) (z : Spot) → IsReferenceCall k c x r φ φs line index more → MadeWhere k c r φ φs →
    IsAmong k numbers p → IsFurther k c z → IsNumber k z →
    IsBegun (reference_block (call_at k c r φ φs p numbers)) →
    IsNumber (reference_block (call_at k c r φ φs p numbers)) z
outer_known k c x r φ φs line index more p numbers z h made o far is b =
    let y = call_at k c r φ φs p numbers in
    let m = made p numbers o in
    let newest = o.later.layers ∙ h.room.newest in
    let rest = b.remains in
    let height = m.same.0 in
    over_number {k = k} {inner = reference_block y} {numbers = numbers} {p = p} z
    (record {
      activation = with_units m.own m.activation;
      layer = resumed m.changed (listed_layer y);
      active = m.activations;
      below = given_layer y ∷ φs;
      layers = m.layers;
      frames = λ n. ap (λ ls. frame_at ls n) (sym newest);
      many = ap (λ (ls : List Layer). length ls) (sym newest);
      height = omega (arith, height);
      level = m.same.1;
      parent = m.same.2 ∙ h.parent;
      remains = record {
        living = rest.living;
        serials = rest.serials;
        at = rest.at;
        number = rest.number;
        signatures = rest.signatures;
        statics = rest.statics;
        low = rest.low;
        constants = rest.constants;
        active = rest.active;
        in_use = rest.in_use;
      };
      own = h.level;
      code = far.inner;
      few = h.callee.coded.level;
    }) h.begun o far.further far.program far.parts is
