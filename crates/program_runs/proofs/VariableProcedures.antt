-- A procedure with one variable makes it where its block begins.
use Rattle.std.proofs.Common.{◌≡◌, ℕ, ◌+◌, ◌≤◌, List, [], ◌∷◌, length, Option, refl, sym, ap, ◌∙◌, subst, arith}
use Rattle.std.specs.Prelude.{pos}
use Rattle.rv_meaning.specs.declared.instr.Instr.{Instr}
use Rattle.pli_typing.specs.TypedTree as Y
use Rattle.pli_meaning.specs.BasicValues.{VariableName}
use Rattle.pli_meaning.specs.Contents.{fresh}
use Rattle.pli_meaning.specs.Control.{Normal, flow_on, give, ◌>>=◌, ◌>>◌}
use Rattle.pli_meaning.specs.DeclaredShapes.{initial_of, shape_of, variables_of_block}
use Rattle.pli_meaning.specs.Executing as M
use Rattle.pli_meaning.specs.Making as K
use Rattle.pli_meaning.specs.Raising.{Around, at_line}
use Rattle.pli_meaning.specs.StorageState.{State}
use Rattle.pli_coding.specs.Assembly.{size_of}
use Rattle.activation_relation.specs.Layers.{Point, services_of}
use Rattle.activation_relation.specs.Points.{Surroundings, Stands}
use Rattle.activation_relation.specs.Remaining.{Remains}
use Rattle.activation_relation.specs.Variables.{with_made}
use Rattle.activation_relation.proofs.Remaining.{remains_entered, remains_made}
use Rattle.run_steps.specs.Items.{Linked}
use Rattle.run_steps.specs.Reach.{Reach}
use Rattle.block_runs.specs.Machines.{IsImage, IsIn}
use Rattle.program_runs.specs.Calls.{AreMade, Callee, act_index, begun_at, variables_index}
use Rattle.program_runs.specs.Procedures.{beginning_for, layer_for}
use Rattle.program_runs.specs.Variables.{Declared, IsOnly, generation_for, made_of}
use Rattle.program_runs.proofs.Variables.{Becomes, becomes_comes, made_becomes, variable_means, without_initial}

-- what is meant by a block's variables, where it has this one
pub variables_mean :
    (around : Around) (d : Y.DeclaredVariable) (k : ℕ) (s s' : State) → d.class ≡ Y.AutomaticClass →
    d.evaluations ≡ [] → K.variable_made 0 (fresh (shape_of [] d) (pos 0) (initial_of d)) k s ≡ Normal tt s' →
    K.variables_made around 0 (d ∷ []) k s ≡ Normal tt s'
unfolding K.variables_made K.automatic_made K.extents give ◌>>=◌ ◌>>◌
variables_mean around d k s s' class none made =
    ap (λ c. flow_on k (K.automatic_made around 0 d c k s) (λ q. K.variables_made around (0 + 1) [])) class
    ∙ ap (λ es. flow_on k (flow_on k (K.extents around es k s)
    (λ values. K.variable_made 0 (fresh (shape_of values d) (pos 0) (initial_of d))))
    (λ q. K.variables_made around (0 + 1) [])) none
    ∙ ap (λ flow. flow_on k flow (λ q. K.variables_made around (0 + 1) [])) made

block_means :
    (around : Around) (head : Y.BlockHead) (kind : Y.BlockKind) (d : Y.DeclaredVariable) (k : ℕ) (s s' : State) →
    kind ≡ Y.ProcedureBlock → variables_of_block around.program head.number ≡ d ∷ [] →
    K.variables_made around 0 (d ∷ []) k s ≡ Normal tt s' → M.block_variables_made around head kind k s ≡ Normal tt s'
unfolding M.block_variables_made
block_means around head kind d k s s' e only made =
    ap (λ x. M.block_variables_made around head x k s) e ∙ ap (λ ds. K.variables_made around 0 ds k s) only ∙ made

-- whatever is told then of words in its frame
pub one_by :
    (w : Surroundings) (code : List Instr) (c : Callee) (made'' : Point → Point) (p : Point) (numbers : ℕ → ℕ)
    (x : Declared) (told : ℕ → Option ℕ) → IsOnly w c p numbers x →
    made'' (begun_at w c p numbers)
    ≡ with_made (record (made_of w.parts (layer_for w p numbers c.procedure c.calling) x) { told = told })
    (begun_at w c p numbers) →
    (Stands w (begun_at w c p numbers) × IsImage w code (begun_at w c p numbers) →
    Becomes w code (begun_at w c p numbers) x (layer_for w p numbers c.procedure c.calling)
    (with_made (record (made_of w.parts (layer_for w p numbers c.procedure c.calling) x) { told = told })
    (begun_at w c p numbers))) →
    AreMade w code (record c { made = made'' }) p numbers
one_by w code c made'' p numbers x told h here becomes =
    let start = begun_at w c p numbers in
    let y = beginning_for w p numbers c.procedure c.calling in
    let φ = layer_for w p numbers c.procedure c.calling in
    let made' = record (made_of w.parts φ x) { told = told } in
    let q = with_made made' start in
    let each = h.few in
    let size = ap (λ u. size_of u) h.code in
    let around' = at_line c.around c.procedure.head.line in
    let made : K.variable_made 0 (generation_for x) w.acts start.state ≡ Normal tt q.state =
    ap (λ i. K.variable_made i (generation_for x) w.acts start.state) (sym h.first)
    ∙ variable_means w start x φ p.control.layers w.acts h.declared in
    record {
      stands = λ known. subst (λ u. Stands w u × IsImage w code u) (sym here)
          (becomes known).stands;
      comes = λ credits f known l there.
          subst (λ u. Reach code credits f (services_of start) (credits + size_of c.procedure.variables) (services_of u)
          (λ b z. IsIn w u numbers (act_index c) b z)) (sym here)
          (subst (λ xs. Reach code credits f (services_of start) (credits + size_of xs) (services_of q)
          (λ b z. IsIn w q numbers (variables_index c + size_of xs) b z)) (sym h.code)
          (becomes_comes w code c.environment start q numbers x φ p.control.layers credits (variables_index c) f known
          (without_initial w code start x φ p.control.layers h.declared) (becomes known) (h.table, h.parts)
          (subst (Linked w.links code (variables_index c)) h.code l)
          there));
      means = block_means around' c.procedure.head c.procedure.head.kind x.declared w.acts start.state q.state h.kind
          h.variables
          (variables_mean around' x.declared w.acts start.state q.state h.class h.evaluations made)
          ∙ ap (λ (u : Point). Normal tt u.state) (sym here);
      activation = record (M.activation_of y.head y.entry (length p.state.activations + 1)) {
        bindings = record {
          variable = x.index;
          name = VariableName (p.state.serials + 1);
          shape = (generation_for x).shape;
        } ∷ [];
      };
      parent = refl;
      changed = record {
        units = φ.units;
        waits = φ.waits;
        told = told;
        top = made'.top;
        lower = made'.lower;
        carried = φ.carried;
      };
      layers = ap (λ (u : Point). u.control.layers) here;
      own = [];
      activations = ap (λ (u : Point). u.state.activations) here;
      idle = ap (λ (u : Point). u.control.waiting) here;
      world = ap (λ (u : Point). u.state.world) here;
      remains = λ begun'. subst (λ u. Remains p u) (sym here)
          (remains_made p start made' (remains_entered p y.head y.entry φ y.head.line) begun'.lives (omega arith));
      few = subst (λ (u : Point). u.state.serials ≤ p.state.serials + w.serials) (sym here) (omega (arith, each));
    }

pub one_made :
    (w : Surroundings) (code : List Instr) (c : Callee) (p : Point) (numbers : ℕ → ℕ) (x : Declared) →
    IsOnly w c p numbers x → AreMade w code c p numbers
one_made w code c p numbers x h =
    let start = begun_at w c p numbers in
    let φ = layer_for w p numbers c.procedure c.calling in
    one_by w code c c.made p numbers x φ.told h (ap (λ (made : Point → Point). made start) h.made)
    (λ known. made_becomes (record {
      stands = known.0;
      image = known.1;
      is = without_initial w code start x φ p.control.layers h.declared;
    }))
