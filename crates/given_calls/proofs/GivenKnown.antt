-- What the statements of a procedure or a function with a copied argument know, and that one which declares nothing
-- beside its parameter makes nothing.
use Rattle.std.proofs.Common.{◌≡◌, ℕ, ℤ, ◌+◌, ◌-◌, ◌*◌, ◌^◌, ◌≤◌, List, [], ◌∷◌, length, Option, Some, refl, sym, ap}
use Rattle.std.proofs.Common.{◌∙◌, subst, arith}
use Rattle.std.proofs.lemmas.Bool.{eq-eqb}
use Rattle.std.specs.Prelude.{cond}
use Rattle.pli_typing.specs.TypedTree as Y
use Rattle.pli_meaning.specs.BasicValues.{VariableName}
use Rattle.pli_meaning.specs.Control.{Normal}
use Rattle.pli_meaning.specs.Executing as M
use Rattle.pli_meaning.specs.Raising.{at_line}
use Rattle.pli_meaning.specs.StorageState.{Living, ancestor, binding_in, living_of, newest_height}
use Rattle.pli_coding.specs.Assembly.{size_of}
use Rattle.activation_relation.specs.Chains.{AreActive, frame_at}
use Rattle.activation_relation.specs.FrameLaws.{with_waits}
use Rattle.activation_relation.specs.Frames.{frame_under, lower_end}
use Rattle.activation_relation.specs.Landing.{resumed, with_units}
use Rattle.activation_relation.specs.Layers.{Layer, Point, services_of}
use Rattle.activation_relation.specs.Remaining.{LivesOn}
use Rattle.activation_relation.proofs.Remaining.{shapes_remain}
use Rattle.activation_relation.proofs.Serials.{few_small}
use Rattle.run_steps.proofs.Reach.{reach_with, stay}
use Rattle.block_runs.specs.Bodies.{Function}
use Rattle.block_runs.specs.Machines.{AreIn, IsIn}
use Rattle.block_runs.proofs.Places.{bounds}
use Rattle.program_runs.specs.Statements.{Block, IsBegun}
use Rattle.expression_runs.specs.Variables.{IsNumber, Spot}
use Rattle.variable_runs.specs.Known.{IsKnown}
use Rattle.argument_runs.specs.Copies.{copy_generation}
use Rattle.argument_runs.specs.CopyCalls.{CopyCall, IsOwnParameter, beginning_of, called_of, copied_point, copy_in}
use Rattle.argument_runs.specs.CopyCalls.{listed_layer}
use Rattle.argument_runs.specs.Lists.{list_under, named_waits}
use Rattle.argument_runs.specs.Parameters.{IsParameter, parameter_binding}
use Rattle.argument_runs.proofs.CopyBlocks.{room_here}
use Rattle.nested_calls.specs.Nested.{IsNested}
use Rattle.nested_calls.proofs.NestedVariables.{Over, ancestor_itself, over_known, over_nested, over_number}
use Rattle.given_calls.specs.Given.{AreBeside, act_index, copy_living, given_block}
use Rattle.given_calls.specs.GivenCalls.{GivenCall, PassesNone, called_with}
use Rattle.given_calls.specs.GivenKnown.{Begins}
use Rattle.given_calls.proofs.GivenCalls.{room_among}

-- ---- its activation and its layer

pub active_in :
    {g : Option Function} {y : CopyCall} {made : Point → Point} (m : AreBeside g y made) →
    IsBegun (given_block g y made) →
    AreActive y.surroundings.units (with_units m.own m.activation ∷ y.point.state.activations)
    (resumed m.changed (called_of g y).beginning.layer
    ∷ with_waits (named_waits (y.point.state.serials + 1) y.callee.number) y.layer ∷ y.others)
active_in {g} {y} {made} m b =
    let inner = given_block g y made in
    let φ = resumed m.changed (called_of g y).beginning.layer in
    let below = with_waits (named_waits (y.point.state.serials + 1) y.callee.number) y.layer ∷ y.others in
    subst (λ xs. AreActive y.surroundings.units xs (φ ∷ below)) m.activations
    (subst (λ ls. AreActive y.surroundings.units inner.first.state.activations ls) m.layers b.resumes.stands.active)

given_over :
    (g : Option Function) (k : Block) (u : GivenCall) (more : ℕ) (p : Point) (numbers : ℕ → ℕ) (z : ℤ) →
    Begins g k u more p numbers z → Over k (given_block g (called_with k u p numbers z) u.made) u.level p
given_over g k u more p numbers z h =
    let y = called_with k u p numbers z in
    let m = h.beside in
    let d = h.declared in
    let active = active_in m h.begun in
    let newest = h.among.later.layers ∙ d.space.newest in
    let r = h.begun.remains in
    record {
      activation = with_units m.own m.activation;
      layer = resumed m.changed (called_of g y).beginning.layer;
      below = with_waits (named_waits (p.state.serials + 1) u.callee.number) u.layer ∷ u.others;
      active = m.activations;
      layers = m.layers;
      frames = λ n. ap (λ ls. frame_at ls n) (sym newest);
      many = ap (λ (ls : List Layer). length ls) (sym newest);
      height = active.0.height;
      inside = active.0.level ∙ d.inner;
      parent = m.parent ∙ d.parent;
      remains = record {
        living = r.living;
        serials = r.serials;
        at = r.at;
        number = r.number;
        signatures = r.signatures;
        statics = r.statics;
        low = r.low;
        constants = r.constants;
        active = r.active;
        in_use = r.in_use;
      };
      code = h.inner.code ∙ d.inner;
      layer_level = d.inner;
      few = (let few = h.inner.few in let e = d.inner in omega (arith, few, e));
    }

pub given_nested :
    (g : Option Function) (k : Block) (u : GivenCall) (more : ℕ) (p : Point) (numbers : ℕ → ℕ) (z : ℤ) →
    Begins g k u more p numbers z → IsNested (given_block g (called_with k u p numbers z) u.made)
given_nested g k u more p numbers z h =
    over_nested {k = k} {inner = given_block g (called_with k u p numbers z) u.made} {numbers = numbers}
    (given_over g k u more p numbers z h) h.declared.nested h.among h.declared.around_it

pub given_number :
    (g : Option Function) (k : Block) (u : GivenCall) (more : ℕ) (p : Point) (numbers : ℕ → ℕ) (z : ℤ) (x : Spot) →
    Begins g k u more p numbers z → x.level ≤ u.level → IsNumber k x →
    IsNumber (given_block g (called_with k u p numbers z) u.made) x
given_number g k u more p numbers z x h less is =
    over_number {k = k} {inner = given_block g (called_with k u p numbers z) u.made} {numbers = numbers} x
    (given_over g k u more p numbers z h) h.declared.nested h.declared.begun h.among h.declared.around_it less
    h.inner.program h.inner.parts is

-- of whatever type it is
pub given_variable :
    (g : Option Function) (k : Block) (u : GivenCall) (more : ℕ) (p : Point) (numbers : ℕ → ℕ) (z : ℤ) (x : Spot)
    (d : Y.DeclaredVariable) → Begins g k u more p numbers z → x.level ≤ u.level → IsKnown k x d →
    IsKnown (given_block g (called_with k u p numbers z) u.made) x d
given_variable g k u more p numbers z x d h less is =
    over_known {k = k} {inner = given_block g (called_with k u p numbers z) u.made} {numbers = numbers} x d
    (given_over g k u more p numbers z h) h.declared.nested h.declared.begun h.among h.declared.around_it less
    h.inner.program h.inner.parts is

-- ---- its parameter

pub given_parameter :
    (g : Option Function) (k : Block) (u : GivenCall) (more : ℕ) (p : Point) (numbers : ℕ → ℕ) (z : ℤ) (x : Spot) →
    Begins g k u more p numbers z → PassesNone k.first u.callee → IsOwnParameter u.callee x →
    IsParameter (given_block g (called_with k u p numbers z) u.made) x
given_parameter g k u more p numbers z x h none own =
    let y = called_with k u p numbers z in
    let w = k.call.surroundings in
    let inner = given_block g y u.made in
    let q = copied_point g y in
    let m = h.beside in
    let o = h.among in
    let d = h.declared in
    let room = room_among d none o in
    let active = active_in m h.begun in
    let a = with_units m.own m.activation in
    let serial = p.state.serials + 1 in
    let place = (listed_layer y).lower - 16 in
    let on = m.copy in
    let there : inner.first.places.at serial ≡ place =
    m.placed ∙ ap (λ t. cond t place (p.places.at serial)) (eq-eqb serial serial refl) in
    let level = own.level in
    let few = h.inner.few in
    let fits = room_here y room in
    let parts = o.image.parts in
    let high = parts.high in
    let last = parts.inside in
    let e = bounds w.parts p.control.layers o.stands.laid in
    let low = e.low in
    let above = e.above in
    let end = e.high in
    let same = ap (λ ls. lower_end w.parts ls) room.newest in
    let same' = ap (λ ls. frame_under w.parts ls) room.newest in
    let found : ancestor (a ∷ p.state.activations) a.height x.level ≡ Some a =
    ancestor_itself a p.state.activations x.level (active.0.level ∙ sym own.level) in
    record {
      begun = h.begun;
      declared = own.declared;
      place = 0;
      numbered_so = own.first;
      near = omega arith;
      own = eq-eqb x.level u.callee.environment.level (own.level ∙ sym own.own);
      serial = serial;
      binding =
          ap (λ as'. binding_in (ancestor as' (newest_height as') x.level) x.index) m.activations
          ∙ ap (λ t. binding_in t x.index) found
          ∙ ap (λ n. binding_in (Some a) n) own.index
          ∙ m.bound
          ∙ ap (λ n. Some (parameter_binding (record x { index = n }) serial)) (sym own.index);
      living = on.there;
      lives = on.lives;
      shape = on.shape;
      layer = resumed m.changed (called_of g y).beginning.layer;
      caller = with_waits (named_waits serial u.callee.number) u.layer;
      others = u.others;
      signature = u.callee.number;
      layers = m.layers;
      at = list_under u.layer.at;
      list = refl;
      last = 0;
      under = omega (arith, low, high, same');
      name = record { kind = refl; second = refl; low = refl; high = refl; number = refl };
      level = sym own.level;
      few = omega (arith, level, few);
      words = room.words;
      small = (let less = few_small w p 1 o.few d.small in omega (arith, less));
      number = room.number;
      numbered = shapes_remain h.begun.remains u.callee.number _ room.shape;
      low = subst (λ n. 2 ^ 22 ≤ n) (sym there) (omega (arith, high, low, above, fits, same, same'));
      inside = subst (λ n. n + 4 ≤ 15 * 2 ^ 20) (sym there) (omega (arith, last, end, same));
    }

-- ---- one that declares nothing else

pub lives_on : (l : Living) (o : Option Living) → o ≡ Some l → LivesOn l o
lives_on l o e = record { there = l; lives = e; owner = refl; shape = refl }

pub none_beside :
    (g : Option Function) (y : CopyCall) → y.callee.procedure.variables ≡ [] → 1 ≤ y.surroundings.serials →
    M.block_variables_made (at_line y.callee.around y.callee.procedure.head.line) y.callee.procedure.head
    y.callee.procedure.head.kind y.surroundings.acts (copied_point g y).state
    ≡ Normal tt (copied_point g y).state → AreBeside g y (λ q. q)
none_beside g y empty each means =
    let q = copied_point g y in
    let x = beginning_of g y in
    let φ = (called_of g y).beginning.layer in
    let size : size_of y.callee.procedure.variables ≡ 0 = ap (λ t. size_of t) empty in
    record {
      stands = λ known. known;
      comes = λ credits f known l there.
          reach_with (credits + size_of y.callee.procedure.variables) (omega arith)
          (stay y.code credits f (services_of q)
          (λ b y'. IsIn y.surroundings q y.numbers (act_index y.callee) b y')
          (subst (λ n. AreIn y.surroundings q y.numbers n f) (omega (arith, size)) there));
      means = means;
      activation = record (M.activation_of y.callee.procedure.head x.entry (length y.point.state.activations + 1)) {
        bindings = record {
          variable = 0;
          name = VariableName (y.point.state.serials + 1);
          shape = (copy_generation (copy_in y)).shape;
        } ∷ [];
      };
      parent = refl;
      bound = refl;
      changed = record {
        units = φ.units;
        waits = φ.waits;
        told = φ.told;
        top = φ.top;
        lower = φ.lower;
        carried = φ.carried;
      };
      layers = refl;
      own = [];
      activations = refl;
      idle = refl;
      world = refl;
      remains = λ p low stands remains. remains;
      copy = lives_on (copy_living y)
          (living_of q.state.living (y.point.state.serials + 1))
          (ap (λ t. cond t (Some (copy_living y)) (living_of y.point.state.living (y.point.state.serials + 1)))
          (eq-eqb (y.point.state.serials + 1) (y.point.state.serials + 1) refl));
      placed = refl;
      few = omega (arith, each);
    }
