-- A variable of a procedure with a parameter by reference is made where the parameter has been bound, and known then.
use Rattle.std.proofs.Common.{◌≡◌, ℕ, ◌+◌, ◌≤◌, List, [], ◌∷◌, Some, true, refl, sym, ap, ◌∙◌, subst, arith}
use Rattle.std.specs.Prelude.{cond, nat_le, pos, ◌==◌}
use Rattle.rv_meaning.specs.declared.instr.Instr.{Instr}
use Rattle.pli_typing.specs.TypedTree as Y
use Rattle.pli_meaning.specs.BasicValues.{VariableName}
use Rattle.pli_meaning.specs.Contents.{footprint_of, fresh}
use Rattle.pli_meaning.specs.Control.{Normal, flow_on, give, ◌>>=◌, ◌>>◌}
use Rattle.pli_meaning.specs.DeclaredShapes.{initial_of, shape_of, variables_of_block}
use Rattle.pli_meaning.specs.Executing as M
use Rattle.pli_meaning.specs.Making as K
use Rattle.pli_meaning.specs.Making.{with_binding}
use Rattle.pli_meaning.specs.Raising.{Around, at_line}
use Rattle.pli_meaning.specs.StorageState.{Activation, Binding, State, binding_of, most_automatic}
use Rattle.pli_coding.specs.Assembly.{size_of}
use Rattle.activation_relation.specs.Layers.{Layer, Point, services_of}
use Rattle.activation_relation.specs.Points.{Stands, Surroundings}
use Rattle.activation_relation.specs.Remaining.{Remains}
use Rattle.activation_relation.specs.Variables.{newest_grown, with_made}
use Rattle.activation_relation.proofs.Remaining.{remains_made}
use Rattle.activation_relation.proofs.Returning.{in_use_later}
use Rattle.activation_relation.proofs.Remaining.{shapes_remain}
use Rattle.run_steps.specs.Items.{Linked}
use Rattle.run_steps.specs.Reach.{Reach}
use Rattle.block_runs.specs.Machines.{IsImage, IsIn}
use Rattle.program_runs.specs.Statements.{Block, IsAmong, IsBegun}
use Rattle.program_runs.specs.Variables.{Declared, IsDeclared, first_made, generation_for, made_of}
use Rattle.program_runs.proofs.Variables.{becomes_comes, made_becomes, variable_means, without_initial}
use Rattle.expression_runs.specs.Variables.{IsNumber, Spot}
use Rattle.expression_runs.proofs.OwnVariables.{own_number}
use Rattle.reference_runs.specs.LocalVariables.{IsLocal, IsLocalFirst, IsOwn}
use Rattle.reference_runs.specs.Receivers.{AreMadeAt, Receiver, act_index, activation_in, bound_point}
use Rattle.reference_runs.specs.Receivers.{given_layer, listed_layer, reference_block, variables_index}
use Rattle.reference_runs.specs.ReferenceCalls.{IsReferenceCall, MadeWhere, call_at}
use Rattle.reference_runs.specs.References.{Reference}

-- ---- what is meant by its variables: nothing is made of the parameter

locals_mean :
    (around : Around) (n d : Y.DeclaredVariable) (k : ℕ) (s s' : State) → n.class ≡ Y.ParameterClass →
    d.class ≡ Y.AutomaticClass → d.evaluations ≡ [] →
    K.variable_made 1 (fresh (shape_of [] d) (pos 0) (initial_of d)) k s ≡ Normal tt s' →
    K.variables_made around 0 (n ∷ d ∷ []) k s ≡ Normal tt s'
unfolding K.variables_made K.automatic_made K.extents give ◌>>=◌ ◌>>◌
locals_mean around n d k s s' passed class none made =
    ap (λ c. flow_on k (K.automatic_made around 0 n c k s) (λ q. K.variables_made around (0 + 1) (d ∷ []))) passed
    ∙ ap (λ c. flow_on k (K.automatic_made around 1 d c k s) (λ q. K.variables_made around (1 + 1) [])) class
    ∙ ap (λ es. flow_on k (flow_on k (K.extents around es k s)
    (λ values. K.variable_made 1 (fresh (shape_of values d) (pos 0) (initial_of d))))
    (λ q. K.variables_made around (1 + 1) [])) none
    ∙ ap (λ flow. flow_on k flow (λ q. K.variables_made around (1 + 1) [])) made

block_means :
    (around : Around) (head : Y.BlockHead) (kind : Y.BlockKind) (n d : Y.DeclaredVariable) (k : ℕ) (s s' : State) →
    kind ≡ Y.ProcedureBlock → variables_of_block around.program head.number ≡ n ∷ d ∷ [] →
    K.variables_made around 0 (n ∷ d ∷ []) k s ≡ Normal tt s' → M.block_variables_made around head kind k s ≡ Normal tt s'
unfolding M.block_variables_made
block_means around head kind n d k s s' e both made =
    ap (λ x. M.block_variables_made around head x k s) e ∙ ap (λ ds. K.variables_made around 0 ds k s) both ∙ made

-- ---- it is made

pub local_made :
    (w : Surroundings) (code : List Instr) (c : Receiver) (numbers : ℕ → ℕ) (φ : Layer) (φs : List Layer)
    (a : Activation) (as' : List Activation) (p : Point) (d : Declared) → IsLocal w c φ φs p d →
    p.state.activations ≡ a ∷ as' → AreMadeAt w code c numbers φ φs a as' p
local_made w code c numbers φ φs a as' p d h active =
    let m = made_of w.parts φ d in
    let q = with_made m p in
    let may = without_initial w code p d φ φs h.declared in
    let here : c.made p ≡ q =
    ap (λ (made : Point → Point). made p) h.made ∙ ap (λ ls. first_made w.parts d ls p) h.declared.newest in
    let each = h.few in
    let size = ap (λ u. size_of u) h.code in
    let binding : Binding = record {
      variable = d.index;
      name = VariableName (p.state.serials + 1);
      shape = (generation_for d).shape;
    } in
    let around' = at_line c.around c.procedure.head.line in
    let made : K.variable_made 1 (generation_for d) w.acts p.state ≡ Normal tt q.state =
    ap (λ i. K.variable_made i (generation_for d) w.acts p.state) (sym h.second)
    ∙ variable_means w p d φ φs w.acts h.declared in
    record {
      stands = λ known. subst (λ u. Stands w u × IsImage w code u) (sym here)
          (made_becomes (record { stands = known.0; image = known.1; is = may })).stands;
      comes = λ credits f known l there.
          subst (λ u. Reach code credits f (services_of p) (credits + size_of c.procedure.variables) (services_of u)
          (λ b z. IsIn w u numbers (act_index c) b z)) (sym here)
          (subst (λ xs. Reach code credits f (services_of p) (credits + size_of xs) (services_of q)
          (λ b z. IsIn w q numbers (variables_index c + size_of xs) b z)) (sym h.code)
          (becomes_comes w code c.environment p q numbers d φ φs credits (variables_index c) f known may
          (made_becomes (record { stands = known.0; image = known.1; is = may })) (h.table, h.parts)
          (subst (Linked w.links code (variables_index c)) h.code l) there));
      means = block_means around' c.procedure.head c.procedure.head.kind h.parameter d.declared w.acts p.state q.state
          h.kind h.variables
          (locals_mean around' h.parameter d.declared w.acts p.state q.state h.passed h.class h.evaluations made)
          ∙ ap (λ (u : Point). Normal tt u.state) (sym here);
      changed = record {
        units = φ.units;
        waits = φ.waits;
        told = m.told;
        top = m.top;
        lower = m.lower;
        carried = φ.carried;
      };
      layers = ap (λ (u : Point). u.control.layers) here ∙ ap (λ ls. newest_grown m ls) h.declared.newest;
      activation = record a { bindings = binding ∷ a.bindings };
      own = a.units;
      activations = ap (λ (u : Point). u.state.activations) here ∙ ap (λ xs. with_binding binding xs) active;
      same = (refl, refl, refl);
      bindings = ap (λ i. cond (i == 0) (Some binding) (binding_of a.bindings 0)) h.second;
      idle = ap (λ (u : Point). u.control.waiting) here;
      entries = ap (λ (u : Point). u.control.entries) here;
      world = ap (λ (u : Point). u.state.world) here;
      remains = λ u r stands less. subst (λ v. Remains u v) (sym here) (remains_made u p m r stands.lives less);
      few = subst (λ (u : Point). u.state.serials ≤ p.state.serials + w.serials) (sym here) (omega (arith, each));
    }

-- ---- wherever the block calls the procedure

declared_among :
    (k : Block) (c : Receiver) (r : Reference) (φ : Layer) (φs : List Layer) (numbers held : ℕ → ℕ) (p : Point)
    (d : Declared) → IsBegun k → IsLocalFirst k c r φ φs held d → IsAmong k numbers p →
    IsDeclared k.call.surroundings (bound_point (call_at k c r φ φs p numbers)) d
    (listed_layer (call_at k c r φ φs p numbers)) (given_layer (call_at k c r φ φs p numbers) ∷ φs)
declared_among k c r φ φs numbers held p d b is o =
    let w = k.call.surroundings in
    let h = is.declared in
    record {
      newest = refl;
      here = h.here;
      holds = h.holds;
      size = h.size;
      fits = h.fits;
      even = h.even;
      low = subst (λ n. n ≤ w.parts.stack_start) (sym o.later.remains.low) h.low;
      shape = shapes_remain o.later.remains d.number (shape_of [] d.declared) h.shape;
      number = h.number;
      initial = h.initial;
      none = h.none;
      plain = h.plain;
      fixed = h.fixed;
      values = h.values;
      valued = h.valued;
      limit = subst (λ n. nat_le (n + footprint_of (generation_for d)) most_automatic ≡ true)
          (sym (in_use_later w k.first p b.resumes.stands o.stands o.later)) h.limit;
    }

local_among :
    (k : Block) (c : Receiver) (r : Reference) (φ : Layer) (φs : List Layer) (numbers held : ℕ → ℕ) (p : Point)
    (d : Declared) → IsBegun k → IsLocalFirst k c r φ φs held d → IsAmong k numbers p →
    IsLocal k.call.surroundings c (listed_layer (call_at k c r φ φs p numbers))
    (given_layer (call_at k c r φ φs p numbers) ∷ φs) (bound_point (call_at k c r φ φs p numbers)) d
local_among k c r φ φs numbers held p d b is o =
    record {
      kind = is.kind;
      parameter = is.parameter;
      passed = is.passed;
      variables = is.variables;
      class = is.class;
      evaluations = is.evaluations;
      second = is.second;
      code = is.code;
      made = is.made;
      table = is.table;
      parts = is.parts;
      few = is.few;
      declared = declared_among k c r φ φs numbers held p d b is o;
    }

pub local_where :
    (k : Block) (c : Receiver) (x : Spot) (r : Reference) (φ : Layer) (φs : List Layer) (line index more : ℕ)
    (held : ℕ → ℕ) (d : Declared) → IsReferenceCall k c x r φ φs line index more →
    IsLocalFirst k c r φ φs held d → MadeWhere k c r φ φs
local_where k c x r φ φs line index more held d h is p numbers o =
    let y = call_at k c r φ φs p numbers in
    local_made k.call.surroundings k.call.code c numbers (listed_layer y) (given_layer y ∷ φs) (activation_in y)
    p.state.activations (bound_point y) d
    (local_among k c r φ φs numbers held p d h.begun is o) refl

-- ---- what its statements know

pub local_number :
    (k : Block) (c : Receiver) (x : Spot) (r : Reference) (φ : Layer) (φs : List Layer) (line index more : ℕ)
    (held : ℕ → ℕ) (d : Declared) (p : Point) (numbers : ℕ → ℕ) (z : Spot) →
    IsReferenceCall k c x r φ φs line index more → IsLocalFirst k c r φ φs held d → IsAmong k numbers p →
    IsOwn c d z → IsBegun (reference_block (call_at k c r φ φs p numbers)) →
    IsNumber (reference_block (call_at k c r φ φs p numbers)) z
local_number k c x r φ φs line index more held d p numbers z h is o own b =
    let y = call_at k c r φ φs p numbers in
    let w = k.call.surroundings in
    let q = bound_point y in
    let here : c.made q ≡ with_made (made_of w.parts (listed_layer y) d) q =
    ap (λ (made : Point → Point). made q) is.made in
    own_number {k = reference_block y} {q = q} {d = d} {x = z}
    (record {
      layer = listed_layer y;
      others = given_layer y ∷ φs;
      activation = activation_in y;
      below = p.state.activations;
      active = refl;
      level = own.level;
      declares = declared_among k c r φ φs numbers held p d h.begun is o;
      parts = o.image.parts;
      laid = b.resumes.stands.laid;
      storage = ap (λ (u : Point). u.state.living) here;
      bound = ap (λ (u : Point). u.state.activations) here;
      placed = ap (λ (u : Point). u.places) here;
      layers = ap (λ (u : Point). u.control.layers) here;
      initial = own.initial;
      declared = own.declared;
      shape = own.shape;
      index = own.index;
      own = own.own ∙ sym own.level;
      place = own.place;
    })
