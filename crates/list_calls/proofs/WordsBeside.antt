-- The variables beside the parameters of a procedure are made behind these.
use Rattle.std.proofs.Common.{◌≡◌, ℕ, ◌+◌, ◌<◌, ◌≤◌, List, [], ◌∷◌, length, Option, Some, refl, sym}
use Rattle.std.proofs.Common.{ap, ◌∙◌, subst, arith}
use Rattle.std.specs.Prelude.{cond}
use Rattle.pli_meaning.specs.BasicValues.{VariableName}
use Rattle.pli_meaning.specs.Control.{Normal}
use Rattle.pli_meaning.specs.DeclaredShapes.{variables_of_block}
use Rattle.pli_meaning.specs.Making.{with_binding}
use Rattle.pli_meaning.specs.Raising.{at_line}
use Rattle.pli_meaning.specs.StorageState.{Activation, Binding, binding_of}
use Rattle.pli_coding.specs.Assembly.{size_of}
use Rattle.pli_coding.specs.Environments.{Environment}
use Rattle.pli_coding.specs.Frames.{MemoryParts}
use Rattle.pli_serving.specs.Templates.{shape_at}
use Rattle.storage_relation.proofs.Holders.{eqb-other}
use Rattle.activation_relation.specs.FrameLaws.{with_waits}
use Rattle.activation_relation.specs.Landing.{resumed}
use Rattle.activation_relation.specs.Layers.{Layer, Point, services_of}
use Rattle.activation_relation.specs.Points.{Stands, Surroundings}
use Rattle.activation_relation.specs.Remaining.{Remains}
use Rattle.activation_relation.proofs.Remaining.{remains_same}
use Rattle.run_steps.specs.Items.{Linked}
use Rattle.run_steps.specs.Reach.{Reach}
use Rattle.block_runs.specs.Bodies.{Function}
use Rattle.block_runs.specs.Machines.{IsImage, IsIn}
use Rattle.program_runs.specs.Variables.{Declared, generation_for}
use Rattle.variable_runs.specs.Lists.{AreListed, all_made, behind_made, first_all, layer_after, layer_behind}
use Rattle.variable_runs.specs.Lists.{made_now, newest_all}
use Rattle.variable_runs.proofs.Lists.{Binds, all_come, all_mean, all_remain, all_serials, all_stand, all_world}
use Rattle.variable_runs.proofs.Lists.{block_means, changed_in, layer_resumed, layers_after}
use Rattle.argument_runs.specs.ListCalls.{entered_point}
use Rattle.list_calls.specs.Lists.{bindings_with, bound_layer}
use Rattle.list_calls.specs.Taking.{AreBeside, ListCall, act_index, bound_point, bound_waits, giving_of}
use Rattle.list_calls.specs.Taking.{listed_layer, variables_index}
use Rattle.list_calls.specs.WordsBeside.{AreAllBeside}
use Rattle.list_calls.proofs.Bound.{all_bound}
use Rattle.list_calls.proofs.ListBlocks.{activation_in, caller_of}

-- ---- what they leave as it is

-- the newest activation stands for more, and for what it stood for below an index
record BindsMore (q : Point) (a : Activation) (as' : List Activation) (bs : List Binding) (first : ℕ) : Type 0 where
  bindings : List Binding
  active : q.state.activations ≡ record a { bindings = bindings } ∷ as'
  others : (i : ℕ) → i < first → binding_of bindings i ≡ binding_of bs i

all_bind_more :
    (w : Surroundings) (e : Environment) (p : Point) (φ : Layer) (xs : List Declared) (a : Activation)
    (as' : List Activation) (bs : List Binding) (first n : ℕ) → AreListed e n xs → first ≤ n →
    BindsMore p a as' bs first → BindsMore (all_made w.parts φ xs p) a as' bs first
all_bind_more w e p φ [] a as' bs first n listed low h = h
all_bind_more w e p φ (x ∷ xs) a as' bs first n listed low h =
    let late = listed.0.late in
    let b : Binding = record {
      variable = x.index;
      name = VariableName (p.state.serials + 1);
      shape = (generation_for x).shape;
    } in
    all_bind_more w e (behind_made w.parts φ x p) (layer_behind w.parts (p.state.serials + 1) φ x) xs a as' bs first
    (x.index + 1) listed.1 (omega (arith, low, late))
    (record {
      bindings = b ∷ h.bindings;
      active = ap (λ us. with_binding b us) h.active;
      others = λ i less.
          ap (λ t. cond t (Some b) (binding_of h.bindings i))
          (eqb-other x.index i (λ e'. omega (arith, e', less, low, late)))
          ∙ h.others i less;
    })

all_at :
    (w : Surroundings) (p : Point) (φ : Layer) (xs : List Declared) (n : ℕ) → n ≤ p.state.serials →
    (all_made w.parts φ xs p).places.at n ≡ p.places.at n
all_at w p φ [] n old = refl
all_at w p φ (x ∷ xs) n old =
    all_at w (behind_made w.parts φ x p) (layer_behind w.parts (p.state.serials + 1) φ x) xs n (omega (arith, old))
    ∙ ap (λ t. cond t (made_now w.parts (p.state.serials + 1) φ x).place (p.places.at n))
    (eqb-other n (p.state.serials + 1) (λ e. omega (arith, e, old)))

all_signed :
    (w : Surroundings) (p : Point) (φ : Layer) (xs : List Declared) →
    (all_made w.parts φ xs p).places.signatures ≡ p.places.signatures
all_signed w p φ [] = refl
all_signed w p φ (x ∷ xs) =
    all_signed w (behind_made w.parts φ x p) (layer_behind w.parts (p.state.serials + 1) φ x) xs

after_resumed :
    (parts : MemoryParts) (serial : ℕ) (φ : Layer) (xs : List Declared) →
    layer_after parts serial φ xs ≡ resumed (changed_in (layer_after parts serial φ xs)) φ
after_resumed parts serial φ [] = refl
after_resumed parts serial φ (x ∷ xs) = layer_resumed parts (serial + 1) xs (made_now parts serial φ x) φ

-- what lived, with no block that is active
abbrev lone : Point → Point
lone q = record q { state = record q.state { activations = [] } }

lone_remains : (q : Point) → Remains (lone q) q
lone_remains q =
    let r = remains_same q in
    record {
      living = r.living;
      serials = r.serials;
      at = r.at;
      number = r.number;
      signatures = r.signatures;
      statics = r.statics;
      low = r.low;
      constants = r.constants;
      active = omega arith;
      in_use = λ height low. refl;
    }

-- ---- they are made

pub words_beside :
    (g : Option Function) (y : ListCall) (first : ℕ) (xs : List Declared) → AreAllBeside g y first xs →
    AreBeside g y (newest_all y.surroundings.parts xs)
words_beside g y first xs h =
    let w = y.surroundings in
    let e = y.callee.environment in
    let q = bound_point g y in
    let φ = bound_layer y.callee.parameters y.passed (listed_layer y) in
    let φs = with_waits (bound_waits y) y.layer ∷ y.others in
    let as' = y.point.state.activations in
    let bs = bindings_with y.point.state.serials y.callee.parameters y.passed [] in
    let b = all_bound y.words y.callee.parameters y.passed (listed_layer y) (caller_of y) y.others (activation_in g y)
    as' (entered_point (giving_of g y)) h.many refl refl in
    let a = record (activation_in g y) { bindings = bs } in
    let r = all_made w.parts φ xs q in
    let here : newest_all w.parts xs q ≡ r = ap (λ ls. first_all w.parts xs ls q) b.layers in
    let binds : Binds q a as' = record { bindings = bs; active = b.activations } in
    let more = all_bind_more w e q φ xs a as' bs first first h.listed (omega arith)
    (record { bindings = bs; active = b.activations; others = λ i less. refl }) in
    let remain : (p : Point) → length p.state.activations ≤ length as' → Stands w q → Remains p q → Remains p r =
    λ p low stands remains. all_remain w y.code p q φ φs xs a as' h.declared binds (omega (arith, low)) stands.lives
    remains in
    let count = all_serials w q φ xs in
    let each = h.few in
    let serials = b.serials in
    let same = all_world w q φ xs in
    let code = y.callee.procedure.variables in
    record {
      stands = λ known. subst (λ u. Stands w u × IsImage w y.code u) (sym here)
          (all_stand w y.code q φ φs xs h.declared known);
      comes = λ credits f known l there.
          subst (λ u. Reach y.code credits f (services_of q) (credits + size_of code) (services_of u)
          (λ b' z. IsIn w u y.numbers (act_index y.callee) b' z)) (sym here)
          (subst (λ us. Reach y.code credits f (services_of q) (credits + size_of us) (services_of r)
          (λ b' z. IsIn w r y.numbers (variables_index y.callee + size_of us) b' z)) (sym h.code)
          (all_come w y.code e q y.numbers φ φs xs first credits (variables_index y.callee) f h.declared h.listed
          h.parts known (subst (Linked w.links y.code (variables_index y.callee)) h.code l) there));
      means = block_means (at_line y.callee.around y.callee.procedure.head.line) y.callee.procedure.head w.acts q.state
          r.state h.kind
          (all_mean (at_line y.callee.around y.callee.procedure.head.line) w y.code e q φ φs xs
          (variables_of_block y.callee.around.program y.callee.procedure.head.number) 0 first w.acts h.declared h.listed
          h.those)
          ∙ ap (λ (u : Point). Normal tt u.state) (sym here);
      activation = record a { bindings = more.bindings };
      parent = refl;
      bound = λ n x there. more.others x.index (h.before n x there);
      changed = changed_in (layer_after w.parts (q.state.serials + 1) φ xs);
      layers = ap (λ (u : Point). u.control.layers) here ∙ layers_after w q φ φs xs b.layers
          ∙ ap (λ ψ. ψ ∷ φs) (after_resumed w.parts (q.state.serials + 1) φ xs);
      own = [];
      activations = ap (λ (u : Point). u.state.activations) here ∙ more.active;
      idle = ap (λ (u : Point). u.control.waiting) here ∙ same.1 ∙ b.waiting;
      world = ap (λ (u : Point). u.state.world) here ∙ same.0 ∙ b.world;
      remains = λ p low stands remains. subst (λ u. Remains p u) (sym here) (remain p low stands remains);
      living = λ n l stands there.
          (subst (λ u. Remains (lone q) u) (sym here)
          (remain (lone q) (omega arith) stands (lone_remains q))).living n l there;
      at = λ n old. ap (λ (u : Point). u.places.at n) here ∙ all_at w q φ xs n old;
      table = λ n s there. ap (λ (u : Point). shape_at u.places.signatures n) here
          ∙ ap (λ t. shape_at t n) (all_signed w q φ xs) ∙ there;
      few = subst (λ (u : Point). u.state.serials ≤ y.point.state.serials + w.serials) (sym here)
          (omega (arith, each, count, serials));
    }
