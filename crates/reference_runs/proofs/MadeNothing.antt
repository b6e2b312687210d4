-- A procedure that declares its parameter alone makes no variables.
use Rattle.std.proofs.Common.{◌≡◌, ℕ, ◌+◌, ◌≤◌, List, [], ◌∷◌, refl, sym, ap, ◌∙◌, subst, arith}
use Rattle.rv_meaning.specs.declared.instr.Instr.{Instr}
use Rattle.pli_meaning.specs.Control.{Normal}
use Rattle.pli_meaning.specs.Executing.{block_variables_made}
use Rattle.pli_meaning.specs.Raising.{at_line}
use Rattle.pli_meaning.specs.StorageState.{Activation, State}
use Rattle.pli_coding.specs.Assembly.{size_of}
use Rattle.activation_relation.specs.Layers.{Layer, Point, services_of}
use Rattle.activation_relation.specs.Points.{Stands, Surroundings}
use Rattle.activation_relation.specs.Remaining.{Remains}
use Rattle.run_steps.specs.Reach.{Reach}
use Rattle.run_steps.proofs.Reach.{reach_with, stay}
use Rattle.block_runs.specs.Machines.{AreIn, IsImage, IsIn}
use Rattle.reference_runs.specs.Receivers.{AreMadeAt, Receiver, act_index}

pub none_at :
    (w : Surroundings) (code : List Instr) (c : Receiver) (numbers : ℕ → ℕ) (φ : Layer) (φs : List Layer)
    (a : Activation) (as' : List Activation) (p : Point) →
    (p.control.layers ≡ φ ∷ φs) × (p.state.activations ≡ a ∷ as') →
    ((k : ℕ) (s : State) →
    block_variables_made (at_line c.around c.procedure.head.line) c.procedure.head c.procedure.head.kind k s
    ≡ Normal tt s) →
    (c.procedure.variables ≡ []) × (c.made ≡ (λ q. q)) → AreMadeAt w code c numbers φ φs a as' p
none_at w code c numbers φ φs a as' p newest none empty =
    let here : c.made p ≡ p = ap (λ (made : Point → Point). made p) empty.1 in
    let size : size_of c.procedure.variables ≡ 0 = ap (λ u. size_of u) empty.0 in
    record {
      stands = λ known. subst (λ q. Stands w q × IsImage w code q) (sym here) known;
      comes = λ credits f known l there.
          subst (λ q. Reach code credits f (services_of p)
          (credits + size_of c.procedure.variables) (services_of q) (λ b y. IsIn w q numbers (act_index c) b y))
          (sym here)
          (reach_with (credits + size_of c.procedure.variables) (omega arith)
          (stay code credits f (services_of p) (λ b y. IsIn w p numbers (act_index c) b y)
          (subst (λ n. AreIn w p numbers n f) (omega (arith, size)) there)));
      means = none w.acts p.state ∙ ap (λ (q : Point). Normal tt q.state) (sym here);
      changed = record {
        units = φ.units;
        waits = φ.waits;
        told = φ.told;
        top = φ.top;
        lower = φ.lower;
        carried = φ.carried;
      };
      layers = ap (λ (q : Point). q.control.layers) here ∙ newest.0;
      activation = a;
      own = a.units;
      activations = ap (λ (q : Point). q.state.activations) here ∙ newest.1;
      same = (refl, refl, refl);
      bindings = refl;
      idle = ap (λ (q : Point). q.control.waiting) here;
      entries = ap (λ (q : Point). q.control.entries) here;
      world = ap (λ (q : Point). q.state.world) here;
      remains = λ q r stands less. subst (λ u. Remains q u) (sym here) r;
      few = subst (λ (q : Point). q.state.serials ≤ p.state.serials + w.serials) (sym here) (omega arith);
    }
