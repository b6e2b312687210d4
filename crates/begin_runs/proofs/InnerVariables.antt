-- The variables of a begin block are made as they are meant.
use Rattle.std.proofs.Common.{◌≡◌, ℕ, ◌+◌, ◌≤◌, List, [], ◌∷◌, length, refl, sym, ap, ◌∙◌, subst, arith}
use Rattle.pli_typing.specs.TypedTree as Y
use Rattle.pli_meaning.specs.BasicValues.{VariableName}
use Rattle.pli_meaning.specs.Control.{Normal, give}
use Rattle.pli_meaning.specs.DeclaredShapes.{variables_of_block}
use Rattle.pli_meaning.specs.Executing as M
use Rattle.pli_meaning.specs.Making as K
use Rattle.pli_meaning.specs.Raising.{Around, at_line}
use Rattle.pli_meaning.specs.StorageState.{State}
use Rattle.pli_coding.specs.Assembly.{size_of}
use Rattle.activation_relation.specs.Layers.{Point, services_of}
use Rattle.activation_relation.specs.Points.{Stands}
use Rattle.activation_relation.specs.Remaining.{Remains}
use Rattle.activation_relation.specs.Variables.{with_made}
use Rattle.activation_relation.proofs.Remaining.{remains_entered, remains_made}
use Rattle.run_steps.specs.Items.{Linked}
use Rattle.run_steps.specs.Reach.{Reach}
use Rattle.run_steps.proofs.Reach.{reach_with, stay}
use Rattle.block_runs.specs.Machines.{AreIn, IsImage, IsIn}
use Rattle.program_runs.specs.Statements.{Block}
use Rattle.program_runs.specs.Variables.{Declared, generation_for, made_of}
use Rattle.program_runs.proofs.VariableMemory.{made_stands}
use Rattle.program_runs.proofs.VariableProcedures.{variables_mean}
use Rattle.program_runs.proofs.Variables.{variable_comes, variable_means, without_initial}
use Rattle.begin_runs.specs.BeginBlocks.{AreMade, Inner, begun_in, environment_of, inner_beginning, inner_layer}
use Rattle.begin_runs.specs.BeginBlocks.{list_index, variables_index}
use Rattle.begin_runs.specs.InnerVariables.{IsOnly}

-- ---- what is meant

block_means :
    (around : Around) (head : Y.BlockHead) (kind : Y.BlockKind) (ds : List Y.DeclaredVariable) (k : ℕ) (s s' : State) →
    kind ≡ Y.BeginBlock → variables_of_block around.program head.number ≡ ds →
    K.variables_made around 0 ds k s ≡ Normal tt s' → M.block_variables_made around head kind k s ≡ Normal tt s'
unfolding M.block_variables_made
block_means around head kind ds k s s' e same made =
    ap (λ x. M.block_variables_made around head x k s) e
    ∙ ap (λ vs. K.variables_made around 0 vs k s) same ∙ made

none_mean : (around : Around) (k : ℕ) (s : State) → K.variables_made around 0 [] k s ≡ Normal tt s
unfolding K.variables_made give
none_mean around k s = refl

-- ---- none

pub none_made :
    (k : Block) (x : Inner) (index : ℕ) (p : Point) (numbers : ℕ → ℕ) → x.head.kind ≡ Y.BeginBlock →
    variables_of_block x.around.program x.head.number ≡ [] → (x.variables ≡ []) × (x.made ≡ (λ q. q)) →
    AreMade k x index p numbers
none_made k x index p numbers kind none empty =
    let w = k.call.surroundings in
    let start = begun_in k p numbers x in
    let y = inner_beginning k p numbers x in
    let φ = y.layer in
    let around' = at_line x.around x.head.line in
    let here : x.made start ≡ start = ap (λ (made : Point → Point). made start) empty.1 in
    let size : size_of x.variables ≡ 0 = ap (λ u. size_of u) empty.0 in
    record {
      stands = λ known. subst (λ q. Stands w q × IsImage w k.call.code q) (sym here) known;
      comes = λ credits f known l there.
          subst (λ q. Reach k.call.code credits f (services_of start) (credits + size_of x.variables) (services_of q)
          (λ b z. IsIn w q numbers (list_index k p numbers x index) b z)) (sym here)
          (reach_with (credits + size_of x.variables) (omega arith)
          (stay k.call.code credits f (services_of start)
          (λ b z. IsIn w start numbers (list_index k p numbers x index) b z)
          (subst (λ n. AreIn w start numbers n f) (omega (arith, size)) there)));
      means = block_means around' x.head x.head.kind [] w.acts start.state start.state kind none
          (none_mean around' w.acts start.state)
          ∙ ap (λ (q : Point). Normal tt q.state) (sym here);
      activation = M.activation_of x.head y.entry (length p.state.activations + 1);
      parent = refl;
      changed = record {
        units = φ.units;
        waits = φ.waits;
        told = φ.told;
        top = φ.top;
        lower = φ.lower;
        carried = φ.carried;
      };
      layers = ap (λ (q : Point). q.control.layers) here;
      own = [];
      activations = ap (λ (q : Point). q.state.activations) here;
      idle = ap (λ (q : Point). q.control.waiting) here;
      acts = ap (λ (q : Point). q.state.world.acts) here;
      remains = λ begun'. subst (λ q. Remains p q) (sym here) (remains_entered p y.head y.entry φ y.head.line);
      few = subst (λ (q : Point). q.state.serials ≤ p.state.serials + w.serials) (sym here) (omega arith);
    }

-- ---- one

pub one_made :
    (k : Block) (x : Inner) (index : ℕ) (p : Point) (numbers : ℕ → ℕ) (d : Declared) → IsOnly k x p numbers d →
    AreMade k x index p numbers
one_made k x index p numbers d h =
    let w = k.call.surroundings in
    let start = begun_in k p numbers x in
    let y = inner_beginning k p numbers x in
    let φ = inner_layer w p numbers x in
    let made' = made_of w.parts φ d in
    let q = with_made made' start in
    let i = variables_index k p numbers x index in
    let here : x.made start ≡ q = ap (λ (made : Point → Point). made start) h.made in
    let around' = at_line x.around x.head.line in
    let each = h.few in
    let made : K.variable_made 0 (generation_for d) w.acts start.state ≡ Normal tt q.state =
    ap (λ j. K.variable_made j (generation_for d) w.acts start.state) (sym h.first)
    ∙ variable_means w start d φ p.control.layers w.acts h.declared in
    record {
      stands = λ known. subst (λ u. Stands w u × IsImage w k.call.code u) (sym here)
          (made_stands (record {
            stands = known.0;
            image = known.1;
            is = without_initial w k.call.code start d φ p.control.layers h.declared;
          }));
      comes = λ credits f known l there.
          subst (λ u. Reach k.call.code credits f (services_of start) (credits + size_of x.variables) (services_of u)
          (λ b z. IsIn w u numbers (list_index k p numbers x index) b z)) (sym here)
          (subst (λ xs. Reach k.call.code credits f (services_of start) (credits + size_of xs) (services_of q)
          (λ b z. IsIn w q numbers (i + size_of xs) b z)) (sym h.code)
          (variable_comes w k.call.code (environment_of k x) start numbers d φ p.control.layers credits i f known
          h.declared (h.table, h.parts) (subst (Linked w.links k.call.code i) h.code l) there));
      means = block_means around' x.head x.head.kind (d.declared ∷ []) w.acts start.state q.state h.kind h.variables
          (variables_mean around' d.declared w.acts start.state q.state h.class h.evaluations made)
          ∙ ap (λ (u : Point). Normal tt u.state) (sym here);
      activation = record (M.activation_of x.head y.entry (length p.state.activations + 1)) {
        bindings = record {
          variable = d.index;
          name = VariableName (p.state.serials + 1);
          shape = (generation_for d).shape;
        } ∷ [];
      };
      parent = refl;
      changed = record {
        units = φ.units;
        waits = φ.waits;
        told = φ.told;
        top = made'.top;
        lower = made'.lower;
        carried = φ.carried;
      };
      layers = ap (λ (u : Point). u.control.layers) here;
      own = [];
      activations = ap (λ (u : Point). u.state.activations) here;
      idle = ap (λ (u : Point). u.control.waiting) here;
      acts = ap (λ (u : Point). u.state.world.acts) here;
      remains = λ begun'. subst (λ u. Remains p u) (sym here)
          (remains_made p start made' (remains_entered p y.head y.entry φ y.head.line) begun'.lives (omega arith));
      few = subst (λ (u : Point). u.state.serials ≤ p.state.serials + w.serials) (sym here) (omega (arith, each));
    }
