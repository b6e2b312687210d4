-- A begin block makes its variables one behind the other, and each is known in it.
use Rattle.std.proofs.Common.{◌≡◌, ℕ, ◌+◌, ◌*◌, ◌^◌, ◌≤◌, inl, List, [], ◌∷◌, length, Some, refl, sym, ap}
use Rattle.std.proofs.Common.{◌∙◌, subst, arith}
use Rattle.std.proofs.lemmas.Bool.{eq-eqb}
use Rattle.pli_typing.specs.Signatures.{data_size}
use Rattle.pli_typing.specs.TypedTree as Y
use Rattle.pli_meaning.specs.BasicValues.{VariableName}
use Rattle.pli_meaning.specs.Control.{Label, Normal}
use Rattle.pli_meaning.specs.DeclaredShapes.{shape_of, variables_of_block}
use Rattle.pli_meaning.specs.Executing as M
use Rattle.pli_meaning.specs.Making as K
use Rattle.pli_meaning.specs.Making.{with_binding}
use Rattle.pli_meaning.specs.Raising.{Around, at_line}
use Rattle.pli_meaning.specs.StorageState.{Activation, Binding, State, ancestor, binding_in, binding_of, living_of}
use Rattle.pli_meaning.specs.StorageState.{newest_height}
use Rattle.pli_meaning.specs.World.{World}
use Rattle.pli_coding.specs.Assembly.{size_of}
use Rattle.pli_coding.specs.Frames.{name_bytes}
use Rattle.activation_relation.specs.Frames.{AreLaid, frame_under}
use Rattle.activation_relation.specs.Landing.{resumed}
use Rattle.activation_relation.specs.Layers.{Layer, Point, services_of}
use Rattle.activation_relation.specs.Points.{Stands, Surroundings}
use Rattle.activation_relation.specs.Remaining.{Remains}
use Rattle.activation_relation.proofs.Remaining.{remains_entered}
use Rattle.run_steps.specs.Items.{Linked}
use Rattle.run_steps.specs.Reach.{Reach}
use Rattle.block_runs.specs.Machines.{HasParts, IsImage, IsIn}
use Rattle.block_runs.proofs.Places.{Bounds, bounds}
use Rattle.program_runs.specs.Statements.{Block, IsBegun}
use Rattle.program_runs.specs.Variables.{Declared, generation_for}
use Rattle.expression_runs.specs.Variables.{Spot}
use Rattle.variable_runs.specs.Known.{IsKnown}
use Rattle.variable_runs.specs.Lists.{Among, all_made, behind_made, layer_after, layer_behind, made_now}
use Rattle.variable_runs.proofs.Known.{Has, has_each, layer_stays, newest_has}
use Rattle.variable_runs.proofs.Lists.{Binds, all_come, all_mean, all_remain, all_serials, all_stand}
use Rattle.variable_runs.proofs.Lists.{all_world, changed_in, layer_resumed, layers_after}
use Rattle.begin_runs.specs.BeginBlocks.{AreMade, Inner, begun_in, environment_of, inner_beginning, inner_block}
use Rattle.begin_runs.specs.BeginBlocks.{inner_layer, list_index, variables_index}
use Rattle.nested_begins.specs.BegunVariables.{AreAllIn, IsOwnIn}

begin_means :
    (around : Around) (head : Y.BlockHead) (acts : ℕ) (s s' : State) → head.kind ≡ Y.BeginBlock →
    K.variables_made around 0 (variables_of_block around.program head.number) acts s ≡ Normal tt s' →
    M.block_variables_made around head head.kind acts s ≡ Normal tt s'
unfolding M.block_variables_made
begin_means around head acts s s' e made = ap (λ kind. M.block_variables_made around head kind acts s) e ∙ made

inner_resumed :
    (w : Surroundings) (x : Inner) (p : Point) (numbers : ℕ → ℕ) (xs : List Declared) (serial : ℕ) →
    layer_after w.parts serial (inner_layer w p numbers x) xs
    ≡ resumed (changed_in (layer_after w.parts serial (inner_layer w p numbers x) xs)) (inner_layer w p numbers x)
inner_resumed w x p numbers [] serial = refl
inner_resumed w x p numbers (d ∷ xs) serial =
    let φ = inner_layer w p numbers x in
    layer_resumed w.parts (serial + 1) xs (made_now w.parts serial φ d) φ

-- its activation has more bindings
all_bind :
    (w : Surroundings) (p : Point) (φ : Layer) (xs : List Declared) (a : Activation) (as' : List Activation) →
    Binds p a as' → Binds (all_made w.parts φ xs p) a as'
all_bind w p φ [] a as' h = h
all_bind w p φ (x ∷ xs) a as' h =
    let b : Binding = record {
      variable = x.index;
      name = VariableName (p.state.serials + 1);
      shape = (generation_for x).shape;
    } in
    all_bind w (behind_made w.parts φ x p) (layer_behind w.parts (p.state.serials + 1) φ x) xs a as'
    (record { bindings = b ∷ h.bindings; active = ap (λ us. with_binding b us) h.active })

pub all_begun_in :
    (k : Block) (x : Inner) (index : ℕ) (p : Point) (numbers : ℕ → ℕ) (xs : List Declared) →
    AreAllIn k x p numbers xs → AreMade k x index p numbers
all_begun_in k x index p numbers xs h =
    let w = k.call.surroundings in
    let code = k.call.code in
    let start = begun_in k p numbers x in
    let y = inner_beginning k p numbers x in
    let φ = inner_layer w p numbers x in
    let φs = p.control.layers in
    let q = all_made w.parts φ xs start in
    let here : x.made start ≡ q = ap (λ (made : Point → Point). made start) h.made in
    let a = M.activation_of y.head y.entry (length p.state.activations + 1) in
    let binds : Binds start a p.state.activations = record { bindings = []; active = refl } in
    let bound = all_bind w start φ xs a p.state.activations binds in
    let each = h.few in
    let count = all_serials w start φ xs in
    let same = all_world w start φ xs in
    let e = environment_of k x in
    let i = variables_index k p numbers x index in
    let around' = at_line x.around x.head.line in
    record {
      stands = λ known. subst (λ u. Stands w u × IsImage w code u) (sym here)
          (all_stand w code start φ φs xs h.declared known);
      comes = λ credits f known l there.
          subst (λ u. Reach code credits f (services_of start) (credits + size_of x.variables) (services_of u)
          (λ b z. IsIn w u numbers (list_index k p numbers x index) b z)) (sym here)
          (subst (λ us. Reach code credits f (services_of start) (credits + size_of us) (services_of q)
          (λ b z. IsIn w q numbers (i + size_of us) b z)) (sym h.code)
          (all_come w code e start numbers φ φs xs 0 credits i f h.declared h.listed h.parts known
          (subst (Linked w.links code i) h.code l) there));
      means = begin_means around' x.head w.acts start.state q.state h.kind
          (all_mean around' w code e start φ φs xs (variables_of_block x.around.program x.head.number) 0 0 w.acts
          h.declared h.listed h.those)
          ∙ ap (λ (u : Point). Normal tt u.state) (sym here);
      activation = record a { bindings = bound.bindings };
      parent = refl;
      changed = changed_in (layer_after w.parts (start.state.serials + 1) φ xs);
      layers = ap (λ (u : Point). u.control.layers) here ∙ layers_after w start φ φs xs refl
          ∙ ap (λ ψ. ψ ∷ φs) (inner_resumed w x p numbers xs (start.state.serials + 1));
      own = [];
      activations = ap (λ (u : Point). u.state.activations) here ∙ bound.active;
      idle = ap (λ (u : Point). u.control.waiting) here ∙ same.1;
      acts = ap (λ (u : Point). u.state.world.acts) here ∙ ap (λ (world : World). world.acts) same.0;
      remains = λ begun'. subst (λ u. Remains p u) (sym here)
          (all_remain w code p start φ φs xs a p.state.activations h.declared binds (omega arith) begun'.lives
          (remains_entered p y.head y.entry φ y.head.line));
      few = subst (λ (u : Point). u.state.serials ≤ p.state.serials + w.serials) (sym here)
          (omega (arith, each, count));
    }

-- ---- each of them

pub known_begun_in :
    (k : Block) (labels : List Label) (x : Inner) (index : ℕ) (p : Point) (numbers : ℕ → ℕ) (xs : List Declared)
    (d : Declared) (spot : Spot) → HasParts k.call.surroundings.parts → AreAllIn k x p numbers xs → Among d xs →
    IsOwnIn k x d spot → IsBegun (inner_block k labels p numbers x index) →
    IsKnown (inner_block k labels p numbers x index) spot d.declared
known_begun_in k labels x index p numbers xs d spot parts h among own b =
    record {
      declared = own.declared;
      serial = has.serial;
      binding =
          ap (λ as'. binding_in (ancestor as' (newest_height as') spot.level) spot.index) active
          ∙ newest_has a p.state.activations has.binds.bindings spot.level spot.index own.level
          ∙ ap (λ n. binding_of has.binds.bindings n) own.index ∙ has.bound
          ∙ ap (λ n. Some (record {
            variable = n;
            name = VariableName has.serial;
            shape = shape_of [] d.declared;
          })) (sym own.index);
      living = has.living;
      lives = ap (λ (u : Point). living_of u.state.living has.serial) here ∙ has.lives;
      shape = has.shape;
      base = φ.at;
      frame = inl (
        eq-eqb spot.level x.head.level own.level,
        sym (ap (λ ls. frame_under w.parts ls) layers ∙ at),
      );
      at =
          ap (λ (u : Point). u.places.at has.serial) here ∙ has.place
          ∙ ap (λ n. φ.at + (n + name_bytes)) (sym own.place);
      low = omega (arith, first, low, at);
      inside =
          subst (λ n. φ.at + (n + name_bytes + data_size (shape_of [] d.declared).signature) ≤ 15 * 2 ^ 20)
          (sym own.place) (omega (arith, inside, last, high, lower));
    }
  where
    w : Surroundings
    w = k.call.surroundings

    start : Point
    start = begun_in k p numbers x

    φ : Layer
    φ = inner_layer w p numbers x

    a : Activation
    a = M.activation_of (inner_beginning k p numbers x).head (inner_beginning k p numbers x).entry
        (length p.state.activations + 1)

    q : Point
    q = all_made w.parts φ xs start

    here : x.made start ≡ q
    here = ap (λ (made : Point → Point). made start) h.made

    has : Has q φ.at φ.lower a p.state.activations d
    has =
        has_each w k.call.code (environment_of k x) start φ p.control.layers a p.state.activations d xs 0 h.listed
        h.declared (record { bindings = []; active = refl }) among

    active : (x.made start).state.activations ≡ record a { bindings = has.binds.bindings } ∷ p.state.activations
    active = ap (λ (u : Point). u.state.activations) here ∙ has.binds.active

    layers : (x.made start).control.layers ≡ layer_after w.parts (start.state.serials + 1) φ xs ∷ p.control.layers
    layers = ap (λ (u : Point). u.control.layers) here ∙ layers_after w start φ p.control.layers xs refl

    around : Bounds w.parts (layer_after w.parts (start.state.serials + 1) φ xs ∷ p.control.layers)
    around =
        bounds w.parts (layer_after w.parts (start.state.serials + 1) φ xs ∷ p.control.layers)
        (subst (AreLaid w.parts) layers b.resumes.stands.laid)

    first : 7 * 2 ^ 20 ≤ w.parts.stack_start
    first = parts.high

    last : w.parts.stack_end + 2 ^ 12 ≤ 15 * 2 ^ 20
    last = parts.inside

    low : w.parts.stack_start ≤ (layer_after w.parts (start.state.serials + 1) φ xs).at
    low = around.low

    high : (layer_after w.parts (start.state.serials + 1) φ xs).lower ≤ w.parts.stack_end
    high = around.high

    at : (layer_after w.parts (start.state.serials + 1) φ xs).at ≡ φ.at
    at = (layer_stays w.parts (start.state.serials + 1) φ xs).0

    lower : (layer_after w.parts (start.state.serials + 1) φ xs).lower ≡ φ.lower
    lower = (layer_stays w.parts (start.state.serials + 1) φ xs).1

    inside : φ.at + (d.place + name_bytes + data_size (shape_of [] d.declared).signature) ≤ φ.lower
    inside = has.inside
