-- Variables of a procedure in its own block: each lives since it was made, and stands where the frame ended then.
use Rattle.std.proofs.Common.{◌≡◌, ◌≢◌, ℕ, ◌+◌, ◌*◌, ◌^◌, ◌<◌, ◌≤◌, inl, inr, List, [], ◌∷◌, Some, refl, sym, ap}
use Rattle.std.proofs.Common.{◌∙◌, length, subst, arith}
use Rattle.std.proofs.lemmas.Bool.{eq-eqb}
use Rattle.std.specs.Prelude.{◌==◌, cond}
use Rattle.rv_meaning.specs.declared.instr.Instr.{Instr}
use Rattle.pli_language.specs.Tree as T
use Rattle.pli_typing.specs.Signatures.{data_size}
use Rattle.pli_meaning.specs.BasicValues.{VariableName}
use Rattle.pli_meaning.specs.DeclaredShapes.{shape_of}
use Rattle.pli_meaning.specs.Executing as M
use Rattle.pli_meaning.specs.Making.{living_at, with_binding}
use Rattle.pli_meaning.specs.StorageState.{Activation, Binding, Living, ancestor, binding_in, binding_of}
use Rattle.pli_meaning.specs.StorageState.{living_of, newest_height}
use Rattle.pli_coding.specs.Environments.{Environment}
use Rattle.pli_coding.specs.Frames.{MemoryParts, name_bytes}
use Rattle.storage_relation.proofs.Holders.{eqb-other}
use Rattle.activation_relation.specs.Frames.{AreLaid, frame_under}
use Rattle.activation_relation.specs.Layers.{Layer, Point}
use Rattle.activation_relation.specs.Points.{Surroundings}
use Rattle.block_runs.specs.Machines.{HasParts}
use Rattle.block_runs.proofs.Places.{Bounds, bounds}
use Rattle.program_runs.specs.Calls.{Callee, begun_at, block_at}
use Rattle.program_runs.specs.Procedures.{beginning_for, layer_for}
use Rattle.program_runs.specs.Statements.{Block, IsBegun}
use Rattle.program_runs.specs.Variables.{Declared, generation_for}
use Rattle.expression_runs.specs.Variables.{IsNumber, Spot, number_declared, number_place}
use Rattle.variable_runs.specs.Known.{IsKnown, IsOwn, place_of}
use Rattle.variable_runs.specs.Lists.{AllMayBegin, Among, AreAll, AreAllBegun, AreListed, MayBegin, all_made}
use Rattle.variable_runs.specs.Lists.{behind_made}
use Rattle.variable_runs.specs.Lists.{layer_after, layer_behind}
use Rattle.variable_runs.proofs.Lists.{Binds, all_without, layers_after}

-- ---- at a point

-- the newest activation has it: its frame is at an offset, and its part of the upper stack ends below another
pub record Has (q : Point) (at lower : ℕ) (a : Activation) (as' : List Activation) (d : Declared) : Type 0 where
  pub serial : ℕ
  pub given : serial ≤ q.state.serials
  pub binds : Binds q a as'
  pub bound :
      binding_of binds.bindings d.index
      ≡ Some (record { variable = d.index; name = VariableName serial; shape = shape_of [] d.declared })
  pub living : Living
  pub lives : living_of q.state.living serial ≡ Some living
  pub shape : living.generation.shape ≡ shape_of [] d.declared
  pub place : q.places.at serial ≡ at + (d.place + name_bytes)
  pub inside : at + (d.place + name_bytes + data_size (shape_of [] d.declared).signature) ≤ lower

-- where it has just been made
has_new :
    (w : Surroundings) (code : List Instr) (p : Point) (φ : Layer) (φs : List Layer) (a : Activation)
    (as' : List Activation) (d : Declared) → Binds p a as' → MayBegin w code p d φ φs →
    Has (behind_made w.parts φ d p) φ.at φ.lower a as' d
has_new w code p φ φs a as' d binds is =
    let serial = p.state.serials + 1 in
    let b : Binding = record {
      variable = d.index;
      name = VariableName serial;
      shape = (generation_for d).shape;
    } in
    let living = living_at serial (newest_height p.state.activations) (generation_for d) in
    record {
      serial = serial;
      given = omega arith;
      binds = record { bindings = b ∷ binds.bindings; active = ap (λ us. with_binding b us) binds.active };
      bound = ap (λ t. cond t (Some b) (binding_of binds.bindings d.index)) (eq-eqb d.index d.index refl);
      living = living;
      lives = ap (λ t. cond t (Some living) (living_of p.state.living serial)) (eq-eqb serial serial refl);
      shape = refl;
      place = ap (λ t. cond t (φ.at + (d.place + name_bytes)) (p.places.at serial)) (eq-eqb serial serial refl);
      inside = inside is;
    }
  where
    inside :
        MayBegin w code p d φ φs →
        φ.at + (d.place + name_bytes + data_size (shape_of [] d.declared).signature) ≤ φ.lower
    inside (inl h) = let size = h.size in let fits = h.fits in omega (arith, size, fits)
    inside (inr h) = let size = h.size in let fits = h.fits in omega (arith, size, fits)

-- it has it still where another has been made
has_still :
    (w : Surroundings) (p : Point) (φ : Layer) (at lower : ℕ) (a : Activation) (as' : List Activation)
    (d y : Declared) → d.index < y.index → Has p at lower a as' d →
    Has (behind_made w.parts φ y p) at lower a as' d
has_still w p φ at lower a as' d y less h =
    let serial = p.state.serials + 1 in
    let given = h.given in
    let b : Binding = record {
      variable = y.index;
      name = VariableName serial;
      shape = (generation_for y).shape;
    } in
    let living = living_at serial (newest_height p.state.activations) (generation_for y) in
    let other : serial ≢ h.serial = λ e. omega (arith, e, given) in
    let other' : h.serial ≢ serial = λ e. omega (arith, e, given) in
    record {
      serial = h.serial;
      given = omega (arith, given);
      binds = record { bindings = b ∷ h.binds.bindings; active = ap (λ us. with_binding b us) h.binds.active };
      bound = ap (λ t. cond t (Some b) (binding_of h.binds.bindings d.index))
          (eqb-other y.index d.index (λ e. omega (arith, e, less))) ∙ h.bound;
      living = h.living;
      lives = ap (λ t. cond t (Some living) (living_of p.state.living h.serial)) (eqb-other serial h.serial other)
          ∙ h.lives;
      shape = h.shape;
      place = ap (λ t. cond t (φ.at + (y.place + name_bytes)) (p.places.at h.serial)) (eqb-other h.serial serial other')
          ∙ h.place;
      inside = h.inside;
    }

has_kept :
    (w : Surroundings) (e : Environment) (p : Point) (φ : Layer) (at lower : ℕ) (a : Activation)
    (as' : List Activation) (d : Declared) (xs : List Declared) (n : ℕ) → d.index < n → AreListed e n xs →
    Has p at lower a as' d → Has (all_made w.parts φ xs p) at lower a as' d
has_kept w e p φ at lower a as' d [] n less listed h = h
has_kept w e p φ at lower a as' d (y ∷ xs) n less listed h =
    let late = listed.0.late in
    has_kept w e (behind_made w.parts φ y p) (layer_behind w.parts (p.state.serials + 1) φ y) at lower a as' d xs
    (y.index + 1) (omega (arith, less, late)) listed.1
    (has_still w p φ at lower a as' d y (omega (arith, less, late)) h)

-- so it has each of them
pub has_each :
    (w : Surroundings) (code : List Instr) (e : Environment) (p : Point) (φ : Layer) (φs : List Layer) (a : Activation)
    (as' : List Activation) (d : Declared) (xs : List Declared) (n : ℕ) → AreListed e n xs →
    AllMayBegin w code p φ φs xs → Binds p a as' → Among d xs → Has (all_made w.parts φ xs p) φ.at φ.lower a as' d
has_each w code e p φ φs a as' d [] n listed are binds among = absurd among
has_each w code e p φ φs a as' d (x ∷ xs) n listed are binds (inl same) =
    subst (λ y. Has (all_made w.parts φ (x ∷ xs) p) φ.at φ.lower a as' y) (sym same)
    (has_kept w e (behind_made w.parts φ x p) (layer_behind w.parts (p.state.serials + 1) φ x) φ.at φ.lower a as' x
    xs (x.index + 1) (omega arith) listed.1 (has_new w code p φ φs a as' x binds are.0))
has_each w code e p φ φs a as' d (x ∷ xs) n listed are binds (inr there) =
    let new = has_new w code p φ φs a as' x binds are.0 in
    has_each w code e (behind_made w.parts φ x p) (layer_behind w.parts (p.state.serials + 1) φ x) φs a as' d xs
    (x.index + 1) listed.1 are.1 new.binds there

-- ---- in its block

-- the newest activation's own
pub newest_has :
    (a : Activation) (as' : List Activation) (bindings : List Binding) (level index : ℕ) → level ≡ a.level →
    binding_in (ancestor (record a { bindings = bindings } ∷ as') a.height level) index ≡ binding_of bindings index
newest_has a as' bindings level index own =
    let new : Activation = record a { bindings = bindings } in
    let rest = ancestor as' a.parent level in
    ap (λ t. binding_in (cond t (cond (a.level == level) (Some new) rest) (ancestor as' a.height level)) index)
    (eq-eqb a.height a.height refl)
    ∙ ap (λ t. binding_in (cond t (Some new) rest) index) (eq-eqb a.level level (sym own))

pub layer_stays :
    (parts : MemoryParts) (serial : ℕ) (φ : Layer) (xs : List Declared) →
    ((layer_after parts serial φ xs).at ≡ φ.at) × ((layer_after parts serial φ xs).lower ≡ φ.lower)
layer_stays parts serial φ [] = (refl, refl)
layer_stays parts serial φ (x ∷ xs) = layer_stays parts (serial + 1) (layer_behind parts serial φ x) xs

pub known_begun :
    (w : Surroundings) (code : List Instr) (c : Callee) (p : Point) (numbers : ℕ → ℕ) (xs : List Declared)
    (d : Declared) (x : Spot) → HasParts w.parts → AreAllBegun w code c p numbers xs → Among d xs → IsOwn c d x →
    IsBegun (block_at w code c p numbers) → IsKnown (block_at w code c p numbers) x d.declared
known_begun w code c p numbers xs d x parts h among own b =
    record {
      declared = own.declared;
      serial = has.serial;
      binding =
          ap (λ as'. binding_in (ancestor as' (newest_height as') x.level) x.index) active
          ∙ newest_has a p.state.activations has.binds.bindings x.level x.index own.level
          ∙ ap (λ n. binding_of has.binds.bindings n) own.index ∙ has.bound
          ∙ ap (λ n. Some (record {
            variable = n;
            name = VariableName has.serial;
            shape = shape_of [] d.declared;
          })) (sym own.index);
      living = has.living;
      lives = ap (λ (u : Point). living_of u.state.living has.serial) here ∙ has.lives;
      shape = has.shape;
      base = φ.at;
      frame = inl (
        eq-eqb x.level c.environment.level (own.level ∙ sym own.own),
        sym (ap (λ ls. frame_under w.parts ls) layers ∙ at),
      );
      at =
          ap (λ (u : Point). u.places.at has.serial) here ∙ has.place
          ∙ ap (λ n. φ.at + (n + name_bytes)) (sym own.place);
      low = omega (arith, first, low, at);
      inside =
          subst (λ n. φ.at + (n + name_bytes + data_size (shape_of [] d.declared).signature) ≤ 15 * 2 ^ 20)
          (sym own.place) (omega (arith, inside, last, high, lower));
    }
  where
    start : Point
    start = begun_at w c p numbers

    φ : Layer
    φ = layer_for w p numbers c.procedure c.calling

    a : Activation
    a = M.activation_of (beginning_for w p numbers c.procedure c.calling).head
        (beginning_for w p numbers c.procedure c.calling).entry (length p.state.activations + 1)

    q : Point
    q = all_made w.parts φ xs start

    here : c.made start ≡ q
    here = ap (λ (made : Point → Point). made start) h.made

    has : Has q φ.at φ.lower a p.state.activations d
    has =
        has_each w code c.environment start φ p.control.layers a p.state.activations d xs 0 h.listed h.declared
        (record { bindings = []; active = refl }) among

    active : (c.made start).state.activations ≡ record a { bindings = has.binds.bindings } ∷ p.state.activations
    active = ap (λ (u : Point). u.state.activations) here ∙ has.binds.active

    layers : (c.made start).control.layers ≡ layer_after w.parts (start.state.serials + 1) φ xs ∷ p.control.layers
    layers = ap (λ (u : Point). u.control.layers) here ∙ layers_after w start φ p.control.layers xs refl

    around : Bounds w.parts (layer_after w.parts (start.state.serials + 1) φ xs ∷ p.control.layers)
    around =
        bounds w.parts (layer_after w.parts (start.state.serials + 1) φ xs ∷ p.control.layers)
        (subst (AreLaid w.parts) layers b.resumes.stands.laid)

    first : 7 * 2 ^ 20 ≤ w.parts.stack_start
    first = parts.high

    last : w.parts.stack_end + 2 ^ 12 ≤ 15 * 2 ^ 20
    last = parts.inside

    low : w.parts.stack_start ≤ (layer_after w.parts (start.state.serials + 1) φ xs).at
    low = around.low

    high : (layer_after w.parts (start.state.serials + 1) φ xs).lower ≤ w.parts.stack_end
    high = around.high

    at : (layer_after w.parts (start.state.serials + 1) φ xs).at ≡ φ.at
    at = (layer_stays w.parts (start.state.serials + 1) φ xs).0

    lower : (layer_after w.parts (start.state.serials + 1) φ xs).lower ≡ φ.lower
    lower = (layer_stays w.parts (start.state.serials + 1) φ xs).1

    inside : φ.at + (d.place + name_bytes + data_size (shape_of [] d.declared).signature) ≤ φ.lower
    inside = has.inside

-- nothing is given to any of them
pub known_own :
    (w : Surroundings) (code : List Instr) (c : Callee) (p : Point) (numbers : ℕ → ℕ) (xs : List Declared)
    (d : Declared) (x : Spot) → HasParts w.parts → AreAll w c p numbers xs → Among d xs → IsOwn c d x →
    IsBegun (block_at w code c p numbers) → IsKnown (block_at w code c p numbers) x d.declared
known_own w code c p numbers xs d x parts h among own b =
    known_begun w code c p numbers xs d x parts (all_without w code c p numbers xs h) among own b

-- ---- a number

pub known_number :
    (k : Block) (x : Spot) (initial : List T.InitialItem) → IsKnown k x (number_declared initial) → IsNumber k x
known_number k x initial h =
    let low = h.low in
    let inside = h.inside in
    let same : place_of k.environment x + name_bytes ≡ number_place k.environment x = omega arith in
    record {
      initial = initial;
      declared = h.declared;
      serial = h.serial;
      binding = h.binding;
      living = h.living;
      lives = h.lives;
      shape = h.shape;
      base = h.base;
      frame = h.frame;
      at = h.at ∙ ap (λ n. h.base + n) same;
      low = omega (arith, low);
      inside = omega (arith, inside);
    }
