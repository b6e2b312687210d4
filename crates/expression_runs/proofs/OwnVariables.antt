-- The one variable of a block in the block itself: it is the newest that lives, and stands where its frame ended.
use Rattle.std.proofs.Common.{◌≡◌, ℕ, ◌+◌, ◌*◌, ◌^◌, ◌≤◌, inl, List, [], ◌∷◌, Some, refl, sym, ap}
use Rattle.std.proofs.Common.{◌∙◌, subst, arith}
use Rattle.std.specs.Prelude.{◌==◌, cond}
use Rattle.std.proofs.lemmas.Bool.{eq-eqb}
use Rattle.rv_meaning.specs.declared.instr.Instr.{Instr}
use Rattle.pli_language.specs.Tree as T
use Rattle.pli_meaning.specs.BasicValues.{VariableName}
use Rattle.pli_meaning.specs.DeclaredShapes.{declared_variable, shape_of}
use Rattle.pli_meaning.specs.Making.{living_at, with_binding}
use Rattle.pli_meaning.specs.StorageState.{Activation, Binding, Living, ancestor, binding_in, binding_of}
use Rattle.pli_meaning.specs.StorageState.{living_of, newest_height}
use Rattle.pli_coding.specs.Frames.{MemoryParts, name_bytes}
use Rattle.activation_relation.specs.Frames.{AreLaid, frame_under}
use Rattle.activation_relation.specs.Layers.{Layer, Point}
use Rattle.activation_relation.specs.Points.{Surroundings}
use Rattle.activation_relation.specs.Variables.{Made, grown, newest_grown, with_made}
use Rattle.block_runs.specs.Machines.{HasParts}
use Rattle.block_runs.proofs.Places.{Bounds, bounds}
use Rattle.program_runs.specs.Calls.{Callee, begun_at, block_at}
use Rattle.program_runs.specs.Procedures.{layer_for}
use Rattle.program_runs.specs.Statements.{Block, IsBegun}
use Rattle.program_runs.specs.Variables.{Declared, IsDeclared, IsOnly, generation_for, made_of, place_behind}
use Rattle.expression_runs.specs.OwnVariables.{IsOwn}
use Rattle.expression_runs.specs.Variables.{IsNumber, Spot, number_binding, number_declared, number_place, number_shape}
use Rattle.expression_runs.specs.Variables.{variable_of}

-- a block whose first statement begins where a variable has been made at a point, in the newest block there
pub record Makes (k : Block) (q : Point) (d : Declared) (x : Spot) : Type 0 where
  pub layer : Layer
  pub others : List Layer
  pub activation : Activation
  pub below : List Activation
  pub active : q.state.activations ≡ activation ∷ below
  pub level : x.level ≡ activation.level
  pub declares : IsDeclared k.call.surroundings q d layer others
  pub parts : HasParts k.call.surroundings.parts
  -- where it begins
  pub laid : AreLaid k.call.surroundings.parts k.first.control.layers
  pub storage : k.first.state.living ≡ (with_made (made_of k.call.surroundings.parts layer d) q).state.living
  pub bound : k.first.state.activations ≡ (with_made (made_of k.call.surroundings.parts layer d) q).state.activations
  pub placed : k.first.places ≡ (with_made (made_of k.call.surroundings.parts layer d) q).places
  pub layers : k.first.control.layers ≡ (with_made (made_of k.call.surroundings.parts layer d) q).control.layers
  -- and how its code has it
  pub initial : List T.InitialItem
  pub declared : declared_variable k.environment.program (variable_of x) ≡ Some (number_declared initial)
  pub shape : shape_of [] d.declared ≡ number_shape
  pub index : x.index ≡ d.index
  pub own : k.environment.level ≡ x.level
  pub place : number_place k.environment x ≡ d.place + name_bytes

-- the newest activation's only binding
pub newest_binding :
    (a : Activation) (as' : List Activation) (b : Binding) (level index : ℕ) → level ≡ a.level →
    index ≡ b.variable →
    binding_in (ancestor (record a { bindings = b ∷ a.bindings } ∷ as') a.height level) index ≡ Some b
newest_binding a as' b level index own here =
    let new : Activation = record a { bindings = b ∷ a.bindings } in
    let rest = ancestor as' a.parent level in
    ap (λ t. binding_in (cond t (cond (a.level == level) (Some new) rest) (ancestor as' a.height level)) index)
    (eq-eqb a.height a.height refl)
    ∙ ap (λ t. binding_in (cond t (Some new) rest) index) (eq-eqb a.level level (sym own))
    ∙ ap (λ t. cond t (Some b) (binding_of a.bindings index)) (eq-eqb b.variable index (sym here))

pub own_number : {k : Block} {q : Point} {d : Declared} {x : Spot} → Makes k q d x → IsNumber k x
own_number {k} {q} {d} {x} h =
    record {
      initial = h.initial;
      declared = h.declared;
      serial = serial;
      binding =
          ap (λ as'. binding_in (ancestor as' (newest_height as') x.level) x.index) active
          ∙ newest_binding h.activation h.below binding x.level x.index h.level h.index
          ∙ ap (λ (b : Binding). Some b) same_binding;
      living = living;
      lives =
          ap (λ ls. living_of ls serial) h.storage
          ∙ ap (λ t. cond t (Some living) (living_of q.state.living serial)) (eq-eqb serial serial refl);
      shape = h.shape;
      base = h.layer.at;
      frame = inl (eq-eqb x.level k.environment.level (sym h.own), sym (ap (λ ls. frame_under parts ls) layers));
      at =
          ap (λ π. π.at serial) h.placed
          ∙ ap (λ t. cond t (h.layer.at + (d.place + name_bytes)) (q.places.at serial)) (eq-eqb serial serial refl)
          ∙ ap (λ n. h.layer.at + n) (sym h.place);
      low = subst (λ n. 2 ^ 22 ≤ h.layer.at + n) (sym h.place) (omega (arith, first, low));
      inside = subst (λ n. h.layer.at + n + 4 ≤ 15 * 2 ^ 20) (sym h.place) (omega (arith, last, high, fits, size));
    }
  where
    parts : MemoryParts
    parts = k.call.surroundings.parts

    m : Made
    m = made_of parts h.layer d

    serial : ℕ
    serial = q.state.serials + 1

    living : Living
    living = living_at serial (newest_height q.state.activations) (generation_for d)

    binding : Binding
    binding = record { variable = d.index; name = VariableName serial; shape = shape_of [] d.declared }

    active :
        k.first.state.activations
        ≡ record h.activation { bindings = binding ∷ h.activation.bindings } ∷ h.below
    active = h.bound ∙ ap (λ as'. with_binding binding as') h.active

    layers : k.first.control.layers ≡ grown m h.layer ∷ h.others
    layers = h.layers ∙ ap (λ ls. newest_grown m ls) h.declares.newest

    same_binding : binding ≡ number_binding x serial
    same_binding =
        ap (λ n. record { variable = n; name = VariableName serial; shape = shape_of [] d.declared }) (sym h.index)
        ∙ ap (λ s. record { variable = x.index; name = VariableName serial; shape = s }) h.shape

    around : Bounds parts (grown m h.layer ∷ h.others)
    around = bounds parts (grown m h.layer ∷ h.others) (subst (AreLaid parts) layers h.laid)

    first : 7 * 2 ^ 20 ≤ parts.stack_start
    first = h.parts.high

    last : parts.stack_end + 2 ^ 12 ≤ 15 * 2 ^ 20
    last = h.parts.inside

    low : parts.stack_start ≤ h.layer.at
    low = around.low

    high : h.layer.lower ≤ parts.stack_end
    high = around.high

    fits : h.layer.at + place_behind parts d ≤ h.layer.lower
    fits = h.declares.fits

    size : d.place + name_bytes ≤ place_behind parts d
    size = let long = h.declares.size in omega (arith, long)

-- ---- of a procedure

pub procedure_own :
    (w : Surroundings) (code : List Instr) (c : Callee) (p : Point) (numbers : ℕ → ℕ) (d : Declared) (x : Spot) →
    HasParts w.parts → IsOnly w c p numbers d → IsOwn c d x → IsBegun (block_at w code c p numbers) →
    IsNumber (block_at w code c p numbers) x
procedure_own w code c p numbers d x parts h own b =
    let start = begun_at w c p numbers in
    let here : c.made start ≡ with_made (made_of w.parts (layer_for w p numbers c.procedure c.calling) d) start =
    ap (λ (made : Point → Point). made start) h.made in
    own_number {k = block_at w code c p numbers} {q = start} {d = d} {x = x}
    (record {
      layer = layer_for w p numbers c.procedure c.calling;
      others = p.control.layers;
      activation = _;
      below = p.state.activations;
      active = refl;
      level = own.level;
      declares = h.declared;
      parts = parts;
      laid = b.resumes.stands.laid;
      storage = ap (λ (u : Point). u.state.living) here;
      bound = ap (λ (u : Point). u.state.activations) here;
      placed = ap (λ (u : Point). u.places) here;
      layers = ap (λ (u : Point). u.control.layers) here;
      initial = own.initial;
      declared = own.declared;
      shape = own.shape;
      index = own.index;
      own = own.own ∙ sym own.level;
      place = own.place;
    })
