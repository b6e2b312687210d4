-- What the statements of a procedure or a function with a list of parameters know.
use Rattle.std.proofs.Common.{◌≡◌, ℕ, zero, suc, ◌<◌, ◌+◌, ◌*◌, ◌^◌, ◌≤◌, List, [], ◌∷◌, length, Option, Some}
use Rattle.std.proofs.Common.{true, refl, sym, ap, ◌∙◌, subst, arith}
use Rattle.std.proofs.lemmas.Bool.{eq-eqb}
use Rattle.std.specs.Prelude.{nat_lt, slice_get}
use Rattle.pli_typing.specs.TypedTree as Y
use Rattle.pli_meaning.specs.Control.{Normal}
use Rattle.pli_meaning.specs.Executing as M
use Rattle.pli_meaning.specs.Raising.{at_line}
use Rattle.pli_meaning.specs.StorageState.{ancestor, binding_in, most_activations, newest_height}
use Rattle.pli_meaning.specs.World.{counted}
use Rattle.pli_coding.specs.Assembly.{size_of}
use Rattle.activation_relation.specs.Chains.{AreActive, frame_at}
use Rattle.activation_relation.specs.FrameLaws.{with_waits}
use Rattle.activation_relation.specs.Landing.{resumed, with_units}
use Rattle.activation_relation.specs.Layers.{Layer, Point, services_of}
use Rattle.activation_relation.specs.Remaining.{Remains}
use Rattle.activation_relation.proofs.FrameWords.{words_covered}
use Rattle.activation_relation.proofs.Remaining.{remains_same, shapes_remain}
use Rattle.run_steps.proofs.Reach.{reach_with, stay}
use Rattle.block_runs.specs.Bodies.{Function}
use Rattle.block_runs.specs.Machines.{AreIn, IsIn}
use Rattle.block_runs.proofs.Places.{bounds}
use Rattle.program_runs.specs.Statements.{Block, IsAmong, IsBegun}
use Rattle.expression_runs.specs.Variables.{IsNumber, Spot}
use Rattle.variable_runs.specs.Known.{IsKnown}
use Rattle.argument_runs.specs.Parameters.{IsParameter, parameter_binding}
use Rattle.nested_calls.specs.Nested.{IsNested}
use Rattle.nested_calls.proofs.NestedVariables.{Over, ancestor_itself, over_known, over_nested, over_number}
use Rattle.argument_runs.specs.ListCalls.{entered_point}
use Rattle.list_calls.specs.Arguments.{ByName, ByValue, ComeTo, Way}
use Rattle.list_calls.specs.ListCalls.{Listed, PassesNone, called_with}
use Rattle.list_calls.specs.ListKnown.{AreStored, Begins, IsOwn, IsStored}
use Rattle.list_calls.specs.Lists.{Parameter, Passing, PassesCopy, PassesName, bindings_with, copies_in}
use Rattle.list_calls.specs.Taking.{AreBeside, ListCall, act_index, bound_point, bound_waits, called_of, given_point, giving_of}
use Rattle.list_calls.specs.Taking.{list_block, list_of, listed_layer}
use Rattle.list_calls.proofs.Bound.{all_bound}
use Rattle.list_calls.proofs.ListBlocks.{Here, activation_in, all_known, caller_of, given_known, layer_is, room_here}
use Rattle.list_calls.proofs.ListCalls.{here_among}
use Rattle.list_calls.proofs.Standing.{AreKept, Lies, stands_for}
use Rattle.activation_relation.proofs.Serials.{few_small}

-- a place at which a list has something
slice_inside : (n : ℕ) (xs : List Parameter) (x : Parameter) → slice_get xs n ≡ Some x → n < length xs
slice_inside n [] x e = absurd (cc e)
slice_inside zero (x' ∷ xs) x e = omega arith
slice_inside (suc n) (x' ∷ xs) x e = let less = slice_inside n xs x e in omega (arith, less)

-- ---- its activation and its layer

pub active_in :
    {g : Option Function} {y : ListCall} {made : Point → Point} (m : AreBeside g y made) →
    IsBegun (list_block g y made) →
    AreActive y.surroundings.units (with_units m.own m.activation ∷ y.point.state.activations)
    (resumed m.changed (called_of g y).beginning.layer ∷ with_waits (bound_waits y) y.layer ∷ y.others)
active_in {g} {y} {made} m b =
    let inner = list_block g y made in
    let φ = resumed m.changed (called_of g y).beginning.layer in
    let below = with_waits (bound_waits y) y.layer ∷ y.others in
    subst (λ xs. AreActive y.surroundings.units xs (φ ∷ below)) m.activations
    (subst (λ ls. AreActive y.surroundings.units inner.first.state.activations ls) m.layers b.resumes.stands.active)

unfoldable pub list_over :
    (g : Option Function) (k : Block) (u : Listed) (more : ℕ) (p : Point) (numbers : ℕ → ℕ) (ys : List Passing) →
    Begins g k u more p numbers ys → Over k (list_block g (called_with k u p numbers ys) u.made) u.level p
list_over g k u more p numbers ys h =
    let y = called_with k u p numbers ys in
    let m = h.beside in
    let d = h.declared in
    let active = active_in m h.begun in
    let newest = h.among.later.layers ∙ d.space.newest in
    let r = h.begun.remains in
    let level = ap (λ (ψ : Layer). ψ.level) (layer_is u.callee.parameters ys (listed_layer y)) in
    record {
      activation = with_units m.own m.activation;
      layer = resumed m.changed (called_of g y).beginning.layer;
      below = with_waits (bound_waits y) u.layer ∷ u.others;
      active = m.activations;
      layers = m.layers;
      frames = λ n. ap (λ ls. frame_at ls n) (sym newest);
      many = ap (λ (ls : List Layer). length ls) (sym newest);
      height = active.0.height;
      inside = active.0.level ∙ level ∙ d.inner;
      parent = m.parent ∙ d.parent;
      remains = record {
        living = r.living;
        serials = r.serials;
        at = r.at;
        number = r.number;
        signatures = r.signatures;
        statics = r.statics;
        low = r.low;
        constants = r.constants;
        active = r.active;
        in_use = r.in_use;
      };
      code = h.inner.code ∙ d.inner;
      layer_level = level ∙ d.inner;
      few = (let few = h.inner.few in let e = d.inner in omega (arith, few, e));
    }

pub list_nested :
    (g : Option Function) (k : Block) (u : Listed) (more : ℕ) (p : Point) (numbers : ℕ → ℕ) (ys : List Passing) →
    Begins g k u more p numbers ys → IsNested (list_block g (called_with k u p numbers ys) u.made)
list_nested g k u more p numbers ys h =
    over_nested {k = k} {inner = list_block g (called_with k u p numbers ys) u.made} {numbers = numbers}
    (list_over g k u more p numbers ys h) h.declared.nested h.among h.declared.around_it

pub list_number :
    (g : Option Function) (k : Block) (u : Listed) (more : ℕ) (p : Point) (numbers : ℕ → ℕ) (ys : List Passing)
    (x : Spot) → Begins g k u more p numbers ys → x.level ≤ u.level → IsNumber k x →
    IsNumber (list_block g (called_with k u p numbers ys) u.made) x
list_number g k u more p numbers ys x h less is =
    over_number {k = k} {inner = list_block g (called_with k u p numbers ys) u.made} {numbers = numbers} x
    (list_over g k u more p numbers ys h) h.declared.nested h.declared.begun h.among h.declared.around_it less
    h.inner.program h.inner.parts is

pub list_variable :
    (g : Option Function) (k : Block) (u : Listed) (more : ℕ) (p : Point) (numbers : ℕ → ℕ) (ys : List Passing)
    (x : Spot) (d : Y.DeclaredVariable) → Begins g k u more p numbers ys → x.level ≤ u.level → IsKnown k x d →
    IsKnown (list_block g (called_with k u p numbers ys) u.made) x d
list_variable g k u more p numbers ys x d h less is =
    over_known {k = k} {inner = list_block g (called_with k u p numbers ys) u.made} {numbers = numbers} x d
    (list_over g k u more p numbers ys h) h.declared.nested h.declared.begun h.among h.declared.around_it less
    h.inner.program h.inner.parts is

-- ---- its parameters

-- what is stored where the block's first statement begins is stored at each of its points
kept_among :
    {k : Block} {numbers : ℕ → ℕ} {p : Point} (us : List Way) (ys : List Passing) → ComeTo us ys →
    IsAmong k numbers p → AreStored k.first us → AreKept p ys
kept_among [] [] come o h = tt
kept_among [] (y ∷ ys) come o h = absurd come
kept_among (u ∷ us) [] come o h = absurd come
kept_among (ByValue source ∷ us) (PassesCopy z ∷ ys) come o h = kept_among us ys come.1 o h
kept_among (ByValue source ∷ us) (PassesName serial signature ∷ ys) come o h = absurd come.0
kept_among (ByName v serial signature ∷ us) (PassesCopy z ∷ ys) come o h = absurd come.0
kept_among {k} {p = p} (ByName v serial signature ∷ us) (PassesName serial' signature' ∷ ys) come o h =
    let s = h.0 in
    let old = s.old in
    let more = o.later.remains.serials in
    let on = o.later.remains.living serial s.living s.lives in
    let at = o.later.remains.at serial s.old in
    let here : IsStored p serial signature = record {
      old = omega (arith, old, more);
      living = on.there;
      lives = on.lives;
      shape = on.shape ∙ s.shape;
      numbered = shapes_remain o.later.remains signature _ s.numbered;
      small = s.small;
      number = s.number;
      low = subst (λ n. 2 ^ 22 ≤ n) (sym at) s.low;
      inside = subst (λ n. n + 4 ≤ 15 * 2 ^ 20) (sym at) s.inside;
    } in (
      subst (λ n. IsStored p n signature') (sym come.0.0) (subst (λ n. IsStored p serial n) (sym come.0.1) here),
      kept_among us ys come.1 o h.1,
    )

-- the same once the procedure has been entered
kept_entered :
    {p : Point} (g : Option Function) (y : ListCall) (ys : List Passing) → y.point ≡ p → AreKept p ys →
    AreKept (entered_point (giving_of g y)) ys
kept_entered g y [] e h = tt
kept_entered g y (PassesCopy z ∷ ys) e h = kept_entered g y ys e h
kept_entered {p} g y (PassesName serial signature ∷ ys) e h =
    let s = subst (λ q. IsStored q serial signature) (sym e) h.0 in (
      record {
        old = s.old;
        living = s.living;
        lives = s.lives;
        shape = s.shape;
        numbered = s.numbered;
        small = s.small;
        number = s.number;
        low = s.low;
        inside = s.inside;
      },
      kept_entered g y ys e h.1,
    )

lies_here :
    {g : Option Function} {y : ListCall} → Here g y →
    Lies y.words y.callee.parameters y.passed (listed_layer y) (caller_of y) (entered_point (giving_of g y))
lies_here {g} {y} h =
    let w = y.surroundings in
    let known = given_known h in
    let room = room_here h in
    let e = bounds w.parts (given_point y).control.layers known.0.laid in
    let low = e.low in
    let above = e.above in
    let end = e.high in
    let first = known.1.parts.high in
    let last = known.1.parts.inside in
    record {
      many = h.many;
      given = h.given;
      numbered = h.numbered;
      serial = few_small w y.point (copies_in y.passed) h.few h.small';
      low = omega (arith, room, low, above, first);
      high = omega (arith, end, last);
    }

pub list_parameter :
    (g : Option Function) (k : Block) (u : Listed) (more : ℕ) (p : Point) (numbers : ℕ → ℕ) (ys : List Passing) (n : ℕ)
    (x : Spot) → Begins g k u more p numbers ys → PassesNone k.first u.ways → AreStored k.first u.ways →
    IsOwn u.callee n x → IsParameter (list_block g (called_with k u p numbers ys) u.made) x
list_parameter g k u more p numbers ys n x h none stored own =
    let y = called_with k u p numbers ys in
    let w = k.call.surroundings in
    let inner = list_block g y u.made in
    let q = bound_point g y in
    let m = h.beside in
    let o = h.among in
    let d = h.declared in
    let here = here_among g ys d h.coded h.parameters o h.come in
    let shallow = subst (λ xs. nat_lt (length xs) most_activations ≡ true) (sym o.later.activations) none.shallow in
    let active = active_in m h.begun in
    let a = with_units m.own m.activation in
    let kept = kept_entered g y ys refl (kept_among u.ways ys h.come o stored) in
    let s = stands_for y.words n own.parameter u.callee.parameters ys (listed_layer y) (caller_of y) u.others
    (entered_point (giving_of g y)) [] (lies_here here) h.parameters.apart kept own.there in
    let on = m.living s.serial s.stored.living (all_known here shallow).0 s.stored.lives in
    let at = m.at s.serial s.stored.old in
    let level = own.level in
    let level' = ap (λ (ψ : Layer). ψ.level) (layer_is u.callee.parameters ys (listed_layer y)) in
    let few = h.inner.few in
    let ends = s.ends in
    let laid = (given_known here).0.laid in
    let above = laid.0.above in
    let covered = words_covered u.layer.words in
    let inside = here.inside in
    let many = h.parameters.few in
    let same = here.many in
    let within = slice_inside n u.callee.parameters own.parameter own.there in
    let found : ancestor (a ∷ p.state.activations) a.height x.level ≡ Some a =
    ancestor_itself a p.state.activations x.level (active.0.level ∙ level' ∙ sym own.level) in
    record {
      begun = h.begun;
      declared = own.declared;
      place = n;
      numbered_so = own.numbered;
      near = omega (arith, within, many);
      own = eq-eqb x.level u.callee.environment.level (own.level ∙ sym own.own);
      serial = s.serial;
      binding =
          ap (λ as'. binding_in (ancestor as' (newest_height as') x.level) x.index) m.activations
          ∙ ap (λ t. binding_in t x.index) found
          ∙ ap (λ j. binding_in (Some a) j) own.index
          ∙ m.bound n own.parameter own.there
          ∙ s.binding
          ∙ ap (λ j. Some (parameter_binding (record x { index = j }) s.serial)) (sym own.index);
      living = on.there;
      lives = on.lives;
      shape = on.shape ∙ s.stored.shape;
      layer = resumed m.changed (called_of g y).beginning.layer;
      caller = with_waits (bound_waits y) u.layer;
      others = u.others;
      signature = s.signature;
      layers = m.layers;
      at = list_of y;
      list = ap (λ (ψ : Layer). ψ.list) (layer_is u.callee.parameters ys (listed_layer y));
      last = s.last;
      under = omega (arith, above, covered, inside, ends);
      name = s.name;
      level = level' ∙ sym own.level;
      few = omega (arith, level, few);
      words = omega (arith, inside, ends);
      small = s.stored.small;
      number = s.stored.number;
      numbered = m.table s.signature _ s.stored.numbered;
      low = subst (λ j. 2 ^ 22 ≤ j) (sym at) s.stored.low;
      inside = subst (λ j. j + 4 ≤ 15 * 2 ^ 20) (sym at) s.stored.inside;
    }

-- ---- one that declares nothing else

pub none_beside :
    (g : Option Function) (y : ListCall) → y.callee.procedure.variables ≡ [] →
    length y.callee.parameters ≡ length y.passed → copies_in y.passed ≤ y.surroundings.serials →
    M.block_variables_made (at_line y.callee.around y.callee.procedure.head.line) y.callee.procedure.head
    y.callee.procedure.head.kind y.surroundings.acts (bound_point g y).state
    ≡ Normal tt (bound_point g y).state → AreBeside g y (λ q. q)
none_beside g y empty many each means =
    let q = bound_point g y in
    let φ = (called_of g y).beginning.layer in
    let size : size_of y.callee.procedure.variables ≡ 0 = ap (λ t. size_of t) empty in
    let a = activation_in g y in
    let h = all_bound y.words y.callee.parameters y.passed (listed_layer y) (caller_of y) y.others a
    y.point.state.activations (entered_point (giving_of g y)) many refl refl in
    let serials = h.serials in
    record {
      stands = λ known. known;
      comes = λ credits f known l there.
          reach_with (credits + size_of y.callee.procedure.variables) (omega arith)
          (stay y.code credits f (services_of q)
          (λ b y'. IsIn y.surroundings q y.numbers (act_index y.callee) b y')
          (subst (λ n. AreIn y.surroundings q y.numbers n f) (omega (arith, size)) there));
      means = means;
      activation = record a {
        bindings = bindings_with y.point.state.serials y.callee.parameters y.passed [];
      };
      parent = refl;
      bound = λ n x e. refl;
      changed = record {
        units = φ.units;
        waits = φ.waits;
        told = φ.told;
        top = φ.top;
        lower = φ.lower;
        carried = φ.carried;
      };
      layers = h.layers;
      own = [];
      activations = h.activations;
      idle = h.waiting;
      world = h.world;
      remains = λ p below stands remains. remains;
      living = λ n l stands e. (remains_same q).living n l e;
      at = λ n old. refl;
      table = λ n s e. e;
      few = omega (arith, serials, each);
    }
