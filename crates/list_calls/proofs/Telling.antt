-- Numbers whose names the frames of their blocks tell, from where they are made.
use Rattle.std.proofs.Common.{◌≡◌, inl, inr, ℕ, ◌+◌, ◌/◌, ◌^◌, ◌<◌, ◌≤◌, List, [], ◌∷◌, length, Option, None, Some}
use Rattle.std.proofs.Common.{true, false, refl, sym, ap, ◌∙◌, subst, arith}
use Rattle.std.specs.Prelude.{◌%◌, ◌==◌, Bool, cond, nat_lt}
use Rattle.std.proofs.lemmas.Bool.{eq-eqb, lt-ltb}
use Rattle.rv_meaning.specs.declared.instr.Instr.{Instr}
use Rattle.pli_meaning.specs.BasicValues.{BasedName, Name, NullName, VariableName}
use Rattle.pli_meaning.specs.DeclaredShapes.{shape_of}
use Rattle.pli_meaning.specs.Executing as M
use Rattle.pli_meaning.specs.Making.{with_binding}
use Rattle.pli_meaning.specs.StorageState.{Activation, Binding, ancestor, binding_in, binding_of, newest_height}
use Rattle.pli_serving.specs.Templates.{shape_at}
use Rattle.pli_coding.specs.Environments.{Environment}
use Rattle.pli_coding.specs.Locating.{table_number}
use Rattle.storage_relation.proofs.Holders.{eqb-other}
use Rattle.activation_relation.specs.FrameLaws.{with_waits}
use Rattle.activation_relation.specs.Frames.{frame_under}
use Rattle.activation_relation.specs.Layers.{Layer, Point}
use Rattle.activation_relation.specs.Points.{Surroundings}
use Rattle.block_runs.specs.Bodies.{Function}
use Rattle.program_runs.specs.Calls.{AreMade, Callee, begun_at, block_at}
use Rattle.program_runs.specs.Names.{name_told}
use Rattle.program_runs.specs.Procedures.{beginning_for, layer_for}
use Rattle.program_runs.specs.Statements.{Block, IsAmong, IsBegun}
use Rattle.program_runs.specs.Variables.{Declared, generation_for}
use Rattle.expression_runs.specs.Variables.{IsFrameOf, IsNumber, Spot, number_declared}
use Rattle.variable_runs.specs.Known.{IsOwn, place_of}
use Rattle.variable_runs.specs.Lists.{AllMayBegin, Among, AreAllBegun, AreListed, MayBegin, all_made, behind_made}
use Rattle.variable_runs.specs.Lists.{first_all}
use Rattle.variable_runs.specs.Lists.{layer_after, layer_behind, newest_all, told_if}
use Rattle.variable_runs.proofs.Lists.{Binds, layers_after}
use Rattle.function_runs.specs.Functions.{function_block}
use Rattle.argument_runs.specs.ListCalls.{entered_point}
use Rattle.argument_runs.specs.Parameters.{parameter_shape}
use Rattle.nested_calls.specs.Nested.{IsNested}
use Rattle.nested_calls.specs.NestedVariables.{IsInside}
use Rattle.nested_calls.proofs.NestedVariables.{Over, function_over, over_again, procedure_over, same_place}
use Rattle.reference_runs.specs.References.{IsTold, Reference}
use Rattle.list_calls.specs.ListCalls.{Listed, called_with}
use Rattle.list_calls.specs.ListKnown.{Begins}
use Rattle.list_calls.specs.Lists.{Passing, bindings_with, bound_layer}
use Rattle.list_calls.specs.Passed.{HasTold, IsNamed, IsTelling}
use Rattle.list_calls.specs.Taking.{ListCall, bound_point, bound_waits, giving_of, list_block, listed_layer}
use Rattle.list_calls.specs.WordsBeside.{AreAllBeside, IsOwnBeside}
use Rattle.list_calls.proofs.Bound.{AreBound, all_bound}
use Rattle.list_calls.proofs.ListBlocks.{activation_in, caller_of}
use Rattle.list_calls.proofs.ListKnown.{list_over}

-- ---- the words of a name

abbrev pub name_at : (serial place : ℕ) → Reference
name_at serial place = record { serial = serial; signature = 0; place = place }

name_here : (place serial : ℕ) (told : ℕ → Option ℕ) → IsTold (name_told place serial told) (name_at serial place)
name_here place serial told =
    record {
      kind = ap (λ q. cond q (Some 1) (rest place)) (eq-eqb place place refl);
      second =
          first 4 (omega arith)
          ∙ ap (λ q. cond q (Some 0) (cond (place + 4 == place + 8) (Some (serial % 2 ^ 32))
          (cond (place + 4 == place + 12) (Some (serial / 2 ^ 32)) (told (place + 4)))))
          (eq-eqb (place + 4) (place + 4) refl);
      low =
          first 8 (omega arith)
          ∙ ap (λ q. cond q (Some 0) (cond (place + 8 == place + 8) (Some (serial % 2 ^ 32))
          (cond (place + 8 == place + 12) (Some (serial / 2 ^ 32)) (told (place + 8)))))
          (eqb-other (place + 8) (place + 4) (λ e. omega (arith, e)))
          ∙ ap (λ q. cond q (Some (serial % 2 ^ 32))
          (cond (place + 8 == place + 12) (Some (serial / 2 ^ 32)) (told (place + 8))))
          (eq-eqb (place + 8) (place + 8) refl);
      high =
          first 12 (omega arith)
          ∙ ap (λ q. cond q (Some 0) (cond (place + 12 == place + 8) (Some (serial % 2 ^ 32))
          (cond (place + 12 == place + 12) (Some (serial / 2 ^ 32)) (told (place + 12)))))
          (eqb-other (place + 12) (place + 4) (λ e. omega (arith, e)))
          ∙ ap (λ q. cond q (Some (serial % 2 ^ 32))
          (cond (place + 12 == place + 12) (Some (serial / 2 ^ 32)) (told (place + 12))))
          (eqb-other (place + 12) (place + 8) (λ e. omega (arith, e)))
          ∙ ap (λ q. cond q (Some (serial / 2 ^ 32)) (told (place + 12))) (eq-eqb (place + 12) (place + 12) refl);
    }
  where
    rest : (n : ℕ) → Option ℕ
    rest n =
        cond (n == place + 4) (Some 0)
        (cond (n == place + 8) (Some (serial % 2 ^ 32))
        (cond (n == place + 12) (Some (serial / 2 ^ 32)) (told n)))

    first : (j : ℕ) → 0 < j → name_told place serial told (place + j) ≡ rest (place + j)
    first j some =
        ap (λ q. cond q (Some 1) (rest (place + j))) (eqb-other (place + j) place (λ e. omega (arith, e, some)))

-- words before it are told as they were
name_above :
    (place serial : ℕ) (told : ℕ → Option ℕ) (n : ℕ) → n < place → name_told place serial told n ≡ told n
name_above place serial told n less =
    ap (λ q. cond q (Some 1) (cond (n == place + 4) (Some 0) (cond (n == place + 8) (Some (serial % 2 ^ 32))
    (cond (n == place + 12) (Some (serial / 2 ^ 32)) (told n)))))
    (eqb-other n place (λ e. omega (arith, e, less)))
    ∙ ap (λ q. cond q (Some 0) (cond (n == place + 8) (Some (serial % 2 ^ 32))
    (cond (n == place + 12) (Some (serial / 2 ^ 32)) (told n)))) (eqb-other n (place + 4) (λ e. omega (arith, e, less)))
    ∙ ap (λ q. cond q (Some (serial % 2 ^ 32)) (cond (n == place + 12) (Some (serial / 2 ^ 32)) (told n)))
    (eqb-other n (place + 8) (λ e. omega (arith, e, less)))
    ∙ ap (λ q. cond q (Some (serial / 2 ^ 32)) (told n)) (eqb-other n (place + 12) (λ e. omega (arith, e, less)))

if_above :
    (q : Bool) (place serial : ℕ) (told : ℕ → Option ℕ) (n : ℕ) → n < place → told_if q place serial told n ≡ told n
if_above false place serial told n less = refl
if_above true place serial told n less = name_above place serial told n less

still_told :
    (q : Bool) (place serial : ℕ) (told : ℕ → Option ℕ) (r : Reference) → r.place + 16 ≤ place → IsTold told r →
    IsTold (told_if q place serial told) r
still_told q place serial told r less h =
    record {
      kind = if_above q place serial told r.place (omega (arith, less)) ∙ h.kind;
      second = if_above q place serial told (r.place + 4) (omega (arith, less)) ∙ h.second;
      low = if_above q place serial told (r.place + 8) (omega (arith, less)) ∙ h.low;
      high = if_above q place serial told (r.place + 12) (omega (arith, less)) ∙ h.high;
    }

-- ---- a variable of the newest activation, whose layer tells its name

pub record Tells (q : Point) (φ : Layer) (a : Activation) (as' : List Activation) (d : Declared) : Type 0 where
  pub serial : ℕ
  pub binds : Binds q a as'
  pub bound :
      binding_of binds.bindings d.index
      ≡ Some (record { variable = d.index; name = VariableName serial; shape = shape_of [] d.declared })
  pub told : serial < 2 ^ 64 → IsTold φ.told (name_at serial d.place)
  pub above : φ.at + d.place + 16 ≤ φ.top

abbrev binding_now : Point → Declared → Binding
binding_now p d =
    record { variable = d.index; name = VariableName (p.state.serials + 1); shape = (generation_for d).shape }

abbrev bound_now :
    (w : Surroundings) → (p : Point) → (φ : Layer) → (a : Activation) → (as' : List Activation) → (d : Declared) →
    Binds p a as' → Binds (behind_made w.parts φ d p) a as'
bound_now w p φ a as' d binds =
    record {
      bindings = binding_now p d ∷ binds.bindings;
      active = ap (λ us. with_binding (binding_now p d) us) binds.active;
    }

-- where it stands
record Room (w : Surroundings) (φ : Layer) (d : Declared) : Type 0 where
  here : φ.at + d.place ≡ φ.top
  above : (serial : ℕ) → φ.at + d.place + 16 ≤ (layer_behind w.parts serial φ d).top

room_for :
    {w : Surroundings} {code : List Instr} {p : Point} {d : Declared} {φ : Layer} {φs : List Layer} →
    MayBegin w code p d φ φs → Room w φ d
room_for (inl h) = let holds = h.holds in record { here = h.here; above = λ serial. omega (arith, holds) }
room_for (inr h) = let size = h.size in record { here = h.here; above = λ serial. omega (arith, size) }

-- where it has just been made
tells_new :
    (w : Surroundings) (code : List Instr) (p : Point) (φ : Layer) (φs : List Layer) (a : Activation)
    (as' : List Activation) (d : Declared) → MayBegin w code p d φ φs → Binds p a as' →
    Tells (behind_made w.parts φ d p) (layer_behind w.parts (p.state.serials + 1) φ d) a as' d
tells_new w code p φ φs a as' d is binds =
    let serial = p.state.serials + 1 in
    record {
      serial = serial;
      binds = bound_now w p φ a as' d binds;
      bound =
          ap (λ t. cond t (Some (binding_now p d)) (binding_of binds.bindings d.index)) (eq-eqb d.index d.index refl);
      told = λ few.
          subst (λ q. IsTold (told_if q d.place serial φ.told) (name_at serial d.place))
          (sym (lt-ltb serial (2 ^ 64) few)) (name_here d.place serial φ.told);
      above = (room_for is).above serial;
    }

-- it is told still where another has been made
tells_still :
    (w : Surroundings) (code : List Instr) (p : Point) (φ : Layer) (φs : List Layer) (a : Activation)
    (as' : List Activation) (d y : Declared) → d.index < y.index → MayBegin w code p y φ φs → Tells p φ a as' d →
    Tells (behind_made w.parts φ y p) (layer_behind w.parts (p.state.serials + 1) φ y) a as' d
tells_still w code p φ φs a as' d y less is h =
    let serial = p.state.serials + 1 in
    let room = room_for is in
    let here = room.here in
    let over = room.above serial in
    let above = h.above in
    record {
      serial = h.serial;
      binds = bound_now w p φ a as' y h.binds;
      bound =
          ap (λ t. cond t (Some (binding_now p y)) (binding_of h.binds.bindings d.index))
          (eqb-other y.index d.index (λ e. omega (arith, e, less))) ∙ h.bound;
      told = λ few.
          still_told (nat_lt serial (2 ^ 64)) y.place serial φ.told (name_at h.serial d.place)
          (omega (arith, above, here)) (h.told few);
      above = omega (arith, above, here, over);
    }

tells_kept :
    (w : Surroundings) (code : List Instr) (e : Environment) (p : Point) (φ : Layer) (φs : List Layer) (a : Activation)
    (as' : List Activation) (d : Declared) (xs : List Declared) (n : ℕ) → d.index < n → AreListed e n xs →
    AllMayBegin w code p φ φs xs → Tells p φ a as' d →
    Tells (all_made w.parts φ xs p) (layer_after w.parts (p.state.serials + 1) φ xs) a as' d
tells_kept w code e p φ φs a as' d [] n less listed are h = h
tells_kept w code e p φ φs a as' d (y ∷ xs) n less listed are h =
    let late = listed.0.late in
    tells_kept w code e (behind_made w.parts φ y p) (layer_behind w.parts (p.state.serials + 1) φ y) φs a as' d xs
    (y.index + 1) (omega (arith, less, late)) listed.1 are.1
    (tells_still w code p φ φs a as' d y (omega (arith, less, late)) are.0 h)

pub tells_each :
    (w : Surroundings) (code : List Instr) (e : Environment) (p : Point) (φ : Layer) (φs : List Layer) (a : Activation)
    (as' : List Activation) (d : Declared) (xs : List Declared) (n : ℕ) →
    AreListed e n xs → AllMayBegin w code p φ φs xs → Binds p a as' → Among d xs →
    Tells (all_made w.parts φ xs p) (layer_after w.parts (p.state.serials + 1) φ xs) a as' d
tells_each w code e p φ φs a as' d [] n listed are binds among = absurd among
tells_each w code e p φ φs a as' d (x ∷ xs) n listed are binds (inl same) =
    subst (λ y. Tells (all_made w.parts φ (x ∷ xs) p) (layer_after w.parts (p.state.serials + 1) φ (x ∷ xs)) a as' y)
    (sym same)
    (tells_kept w code e (behind_made w.parts φ x p) (layer_behind w.parts (p.state.serials + 1) φ x) φs a as' x
    xs (x.index + 1) (omega arith) listed.1 are.1
    (tells_new w code p φ φs a as' x are.0 binds))
tells_each w code e p φ φs a as' d (x ∷ xs) n listed are binds (inr there) =
    tells_each w code e (behind_made w.parts φ x p) (layer_behind w.parts (p.state.serials + 1) φ x) φs a as' d xs
    (x.index + 1) listed.1 are.1 (bound_now w p φ a as' x binds) there

-- ---- in its block

serial_of : Name → ℕ
serial_of NullName = 0
serial_of (VariableName serial) = serial
serial_of (BasedName area offset) = 0

serial_in : Option Binding → ℕ
serial_in None = 0
serial_in (Some b) = serial_of b.name

-- the newest activation's own
newest_bound :
    (a : Activation) (as' : List Activation) (bindings : List Binding) (level index : ℕ) → level ≡ a.level →
    binding_in (ancestor (record a { bindings = bindings } ∷ as') a.height level) index ≡ binding_of bindings index
newest_bound a as' bindings level index own =
    let new : Activation = record a { bindings = bindings } in
    let rest = ancestor as' a.parent level in
    ap (λ t. binding_in (cond t (cond (a.level == level) (Some new) rest) (ancestor as' a.height level)) index)
    (eq-eqb a.height a.height refl)
    ∙ ap (λ t. binding_in (cond t (Some new) rest) index) (eq-eqb a.level level (sym own))

-- the frame of a block's own level is the newest one
own_frame : (k : Block) (level base : ℕ) → level ≡ k.environment.level → IsFrameOf k level base →
    base ≡ frame_under k.call.surroundings.parts k.first.control.layers
own_frame k level base own (inl is) = is.1
own_frame k level base own (inr is) = absurd (cc (sym (eq-eqb level k.environment.level own) ∙ is.0))

pub told_own :
    (k : Block) (x : Spot) (is : IsNumber k x) (q : Point) (φ : Layer) (φs : List Layer) (a : Activation)
    (as' : List Activation) (d : Declared) (t : Tells q φ a as' d) →
    k.first.state.activations ≡ q.state.activations → k.first.control.layers ≡ φ ∷ φs →
    (x.level ≡ a.level) × (x.level ≡ k.environment.level) × (x.index ≡ d.index) → place_of k.environment x ≡ d.place →
    is.serial < 2 ^ 64 → IsTelling k x
unfolding serial_in serial_of
told_own k x is q φ φs a as' d t active layers own place few =
    let bound : binding_in (ancestor k.first.state.activations (newest_height k.first.state.activations) x.level)
    x.index ≡ Some _ =
    ap (λ us. binding_in (ancestor us (newest_height us) x.level) x.index) (active ∙ t.binds.active)
    ∙ newest_bound a as' t.binds.bindings x.level x.index own.0
    ∙ ap (λ n. binding_of t.binds.bindings n) own.2 ∙ t.bound in
    let same : is.serial ≡ t.serial = ap serial_in (sym is.binding ∙ bound) in
    let base : φ.at ≡ is.base =
    sym (own_frame k x.level is.base own.1 is.frame
    ∙ ap (λ ls. frame_under k.call.surroundings.parts ls) layers) in
    record {
      number = is;
      told =
          subst (λ ls. HasTold ls is.base (name_at is.serial (place_of k.environment x))) (sym layers)
          (inl (
            base,
            subst (λ n. IsTold φ.told (name_at is.serial n)) (sym place)
                (subst (λ n. IsTold φ.told (name_at n d.place)) (sym same) (t.told (subst (λ n. n < 2 ^ 64) same few))),
          ));
    }

pub own_telling :
    (w : Surroundings) (code : List Instr) (c : Callee) (p : Point) (numbers : ℕ → ℕ) (xs : List Declared)
    (d : Declared) (x : Spot) → AreAllBegun w code c p numbers xs → Among d xs → IsOwn c d x →
    (is : IsNumber (block_at w code c p numbers) x) → is.serial < 2 ^ 64 →
    IsTelling (block_at w code c p numbers) x
own_telling w code c p numbers xs d x h among own is few =
    told_own (block_at w code c p numbers) x is q (layer_after w.parts (start.state.serials + 1) φ xs) p.control.layers
    a p.state.activations d tells (ap (λ (u : Point). u.state.activations) here)
    (ap (λ (u : Point). u.control.layers) here ∙ layers_after w start φ p.control.layers xs refl)
    (own.level, own.level ∙ sym own.own, own.index) own.place few
  where
    start : Point
    start = begun_at w c p numbers

    φ : Layer
    φ = layer_for w p numbers c.procedure c.calling

    a : Activation
    a = M.activation_of (beginning_for w p numbers c.procedure c.calling).head
        (beginning_for w p numbers c.procedure c.calling).entry (length p.state.activations + 1)

    q : Point
    q = all_made w.parts φ xs start

    here : c.made start ≡ q
    here = ap (λ (made : Point → Point). made start) h.made

    tells : Tells q (layer_after w.parts (start.state.serials + 1) φ xs) a p.state.activations d
    tells =
        tells_each w code c.environment start φ p.control.layers a p.state.activations d xs 0 h.listed h.declared
        (record { bindings = []; active = refl }) among

-- a function's block has the frame that a procedure's would have
number_again :
    (w : Surroundings) (code : List Instr) (c : Callee) (p : Point) (numbers : ℕ → ℕ) (x : Spot) →
    IsNumber (function_block w code c p numbers) x → IsNumber (block_at w code c p numbers) x
number_again w code c p numbers x n =
    record {
      initial = n.initial;
      declared = n.declared;
      serial = n.serial;
      binding = n.binding;
      living = n.living;
      lives = n.lives;
      shape = n.shape;
      base = n.base;
      frame = n.frame;
      at = n.at;
      low = n.low;
      inside = n.inside;
    }

pub function_telling :
    (w : Surroundings) (code : List Instr) (c : Callee) (p : Point) (numbers : ℕ → ℕ) (xs : List Declared)
    (d : Declared) (x : Spot) → AreAllBegun w code c p numbers xs → Among d xs → IsOwn c d x →
    (is : IsNumber (function_block w code c p numbers) x) → is.serial < 2 ^ 64 →
    IsTelling (function_block w code c p numbers) x
unfolding number_again own_telling told_own
function_telling w code c p numbers xs d x h among own is few =
    record {
      number = is;
      told = (own_telling w code c p numbers xs d x h among own (number_again w code c p numbers x is) few).told;
    }

pub beside_telling :
    (g : Option Function) (y : ListCall) (first : ℕ) (xs : List Declared) (d : Declared) (x : Spot) →
    AreAllBeside g y first xs → Among d xs → IsOwnBeside y.callee d x →
    (is : IsNumber (list_block g y (newest_all y.surroundings.parts xs)) x) → is.serial < 2 ^ 64 →
    IsTelling (list_block g y (newest_all y.surroundings.parts xs)) x
beside_telling g y first xs d x h among own is few =
    told_own (list_block g y (newest_all y.surroundings.parts xs)) x is (all_made w.parts φ xs q)
    (layer_after w.parts (q.state.serials + 1) φ xs) φs (activation_in g y) as' d tells
    (ap (λ (u : Point). u.state.activations) here)
    (ap (λ (u : Point). u.control.layers) here ∙ layers_after w q φ φs xs bound.layers)
    (own.level, own.level ∙ sym own.own, own.index) own.place few
  where
    w : Surroundings
    w = y.surroundings

    q : Point
    q = bound_point g y

    φ : Layer
    φ = bound_layer y.callee.parameters y.passed (listed_layer y)

    φs : List Layer
    φs = with_waits (bound_waits y) y.layer ∷ y.others

    as' : List Activation
    as' = y.point.state.activations

    bound : AreBound y.callee.parameters y.passed y.words (listed_layer y) (caller_of y) y.others (activation_in g y)
        y.point.state.activations (entered_point (giving_of g y)) (bound_point g y)
    bound = all_bound y.words y.callee.parameters y.passed (listed_layer y) (caller_of y) y.others (activation_in g y)
        y.point.state.activations (entered_point (giving_of g y)) h.many refl refl

    here : newest_all w.parts xs q ≡ all_made w.parts φ xs q
    here = ap (λ ls. first_all w.parts xs ls q) bound.layers

    tells : Tells (all_made w.parts φ xs q) (layer_after w.parts (q.state.serials + 1) φ xs) (activation_in g y) as' d
    tells =
        tells_each w y.code y.callee.environment q φ φs (activation_in g y) as' d xs first h.listed h.declared
        (record {
          bindings = bindings_with y.point.state.serials y.callee.parameters y.passed [];
          active = bound.activations;
        }) among

-- ---- in what is called

told_placed :
    (ls : List Layer) (frame serial n m : ℕ) → n ≡ m → HasTold ls frame (name_at serial m) →
    HasTold ls frame (name_at serial n)
told_placed ls frame serial n m e h = subst (λ j. HasTold ls frame (name_at serial j)) (sym e) h

-- the layers below the new one tell what those of the block told
pub over_telling :
    {k inner : Block} {level : ℕ} {numbers : ℕ → ℕ} {p : Point} (x : Spot) (i : Over k inner level p) → IsNested k →
    IsBegun k → IsAmong k numbers p → level ≤ k.environment.level → x.level ≤ level →
    inner.environment.program ≡ k.environment.program → inner.environment.parts ≡ k.environment.parts →
    ((frame : ℕ) (r : Reference) → HasTold p.control.layers frame r → HasTold i.below frame r) → IsTelling k x →
    IsTelling inner x
over_telling {k} {inner} {numbers = numbers} {p} x i nest b o within less program parts below t =
    let is = t.number in
    let place = place_of k.environment x in
    let name = name_at is.serial place in
    let there = below is.base name (subst (λ ls. HasTold ls is.base name) (sym o.later.layers) t.told) in
    let again =
    over_again {k = k} {inner = inner} {numbers = numbers} x i nest b o within less program parts is in
    record {
      number = again.number;
      told =
          told_placed inner.first.control.layers again.number.base again.number.serial (place_of inner.environment x)
          place (same_place inner.environment k.environment x program parts)
          (subst (λ n. HasTold inner.first.control.layers again.number.base (name_at n place)) (sym again.serial_is)
          (subst (λ n. HasTold inner.first.control.layers n name) (sym again.base_is)
          (subst (λ ls. HasTold ls is.base name) (sym i.layers) (inr there))));
    }

pub inner_telling :
    (k : Block) (c : Callee) (level : ℕ) (x : Spot) → IsInside k c level → x.level ≤ level → IsTelling k x →
    (p : Point) (numbers : ℕ → ℕ) → IsAmong k numbers p → AreMade k.call.surroundings k.call.code c p numbers →
    IsBegun (block_at k.call.surroundings k.call.code c p numbers) →
    IsTelling (block_at k.call.surroundings k.call.code c p numbers) x
unfolding procedure_over
inner_telling k c level x h less t p numbers o made b =
    over_telling {k = k} {inner = block_at k.call.surroundings k.call.code c p numbers} {numbers = numbers} x
    (procedure_over k c level h p numbers o made b) h.nested h.begun o h.around_it less h.program h.parts
    (λ frame r told. told) t

pub inner_function_telling :
    (k : Block) (c : Callee) (level : ℕ) (x : Spot) → IsInside k c level → x.level ≤ level → IsTelling k x →
    (p : Point) (numbers : ℕ → ℕ) → IsAmong k numbers p → AreMade k.call.surroundings k.call.code c p numbers →
    IsBegun (function_block k.call.surroundings k.call.code c p numbers) →
    IsTelling (function_block k.call.surroundings k.call.code c p numbers) x
unfolding function_over
inner_function_telling k c level x h less t p numbers o made b =
    over_telling {k = k} {inner = function_block k.call.surroundings k.call.code c p numbers} {numbers = numbers} x
    (function_over k c level h p numbers o made b) h.nested h.begun o h.around_it less h.program h.parts
    (λ frame r told. told) t

told_waiting :
    (waits : ℕ → Option ℕ) (φ : Layer) (φs : List Layer) (frame : ℕ) (r : Reference) → HasTold (φ ∷ φs) frame r →
    HasTold (with_waits waits φ ∷ φs) frame r
told_waiting waits φ φs frame r (inl t) = inl t
told_waiting waits φ φs frame r (inr t) = inr t

pub inner_list_telling :
    (g : Option Function) (k : Block) (u : Listed) (more : ℕ) (p : Point) (numbers : ℕ → ℕ) (ys : List Passing)
    (x : Spot) → Begins g k u more p numbers ys → x.level ≤ u.level → IsTelling k x →
    IsTelling (list_block g (called_with k u p numbers ys) u.made) x
unfolding list_over
inner_list_telling g k u more p numbers ys x h less t =
    let y = called_with k u p numbers ys in
    let newest = h.among.later.layers ∙ h.declared.space.newest in
    over_telling {k = k} {inner = list_block g y u.made} {numbers = numbers} x
    (list_over g k u more p numbers ys h) h.declared.nested h.declared.begun h.among h.declared.around_it less
    h.inner.program h.inner.parts
    (λ frame r told.
    told_waiting (bound_waits y) u.layer u.others frame r (subst (λ ls. HasTold ls frame r) newest told)) t

-- ---- its name may be passed

told_signed :
    (ls : List Layer) (frame serial place signature : ℕ) → HasTold ls frame (name_at serial place) →
    HasTold ls frame (record { serial = serial; signature = signature; place = place })
told_signed [] frame serial place signature h = absurd h
told_signed (φ ∷ φs) frame serial place signature (inl h) =
    inl (h.0, record { kind = h.1.kind; second = h.1.second; low = h.1.low; high = h.1.high })
told_signed (φ ∷ φs) frame serial place signature (inr h) = inr (told_signed φs frame serial place signature h)

pub telling_named :
    (k : Block) (x : Spot) (t : IsTelling k x) →
    shape_at k.first.places.signatures (table_number k.environment (number_declared t.number.initial))
    ≡ Some parameter_shape →
    table_number k.environment (number_declared t.number.initial) < 2 ^ 31 → t.number.serial < 2 ^ 64 →
    IsNamed k x t.number.serial (table_number k.environment (number_declared t.number.initial))
telling_named k x t shape small few =
    record {
      number = t.number;
      serial_is = refl;
      told = told_signed k.first.control.layers t.number.base t.number.serial (place_of k.environment x)
          (table_number k.environment (number_declared t.number.initial)) t.told;
      table = refl;
      numbered = shape;
      small = small;
      few = few;
    }
