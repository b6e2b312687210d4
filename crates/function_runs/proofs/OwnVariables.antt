-- The one variable of a function in its own block.
use Rattle.std.proofs.Common.{◌≡◌, ℕ, List, refl, sym, ap, ◌∙◌}
use Rattle.rv_meaning.specs.declared.instr.Instr.{Instr}
use Rattle.activation_relation.specs.Layers.{Point}
use Rattle.activation_relation.specs.Points.{Surroundings}
use Rattle.activation_relation.specs.Variables.{with_made}
use Rattle.block_runs.specs.Machines.{HasParts}
use Rattle.program_runs.specs.Calls.{Callee, begun_at}
use Rattle.program_runs.specs.Procedures.{layer_for}
use Rattle.program_runs.specs.Statements.{IsBegun}
use Rattle.program_runs.specs.Variables.{Declared, IsOnly, made_of}
use Rattle.expression_runs.specs.OwnVariables.{IsOwn}
use Rattle.expression_runs.specs.Variables.{IsNumber, Spot}
use Rattle.expression_runs.proofs.OwnVariables.{own_number}
use Rattle.function_runs.specs.Functions.{function_block}

pub function_own :
    (w : Surroundings) (code : List Instr) (c : Callee) (p : Point) (numbers : ℕ → ℕ) (d : Declared) (x : Spot) →
    HasParts w.parts → IsOnly w c p numbers d → IsOwn c d x → IsBegun (function_block w code c p numbers) →
    IsNumber (function_block w code c p numbers) x
function_own w code c p numbers d x parts h own b =
    let start = begun_at w c p numbers in
    let here : c.made start ≡ with_made (made_of w.parts (layer_for w p numbers c.procedure c.calling) d) start =
    ap (λ (made : Point → Point). made start) h.made in
    own_number {k = function_block w code c p numbers} {q = start} {d = d} {x = x}
    (record {
      layer = layer_for w p numbers c.procedure c.calling;
      others = p.control.layers;
      activation = _;
      below = p.state.activations;
      active = refl;
      level = own.level;
      declares = h.declared;
      parts = parts;
      laid = b.resumes.stands.laid;
      storage = ap (λ (u : Point). u.state.living) here;
      bound = ap (λ (u : Point). u.state.activations) here;
      placed = ap (λ (u : Point). u.places) here;
      layers = ap (λ (u : Point). u.control.layers) here;
      initial = own.initial;
      declared = own.declared;
      shape = own.shape;
      index = own.index;
      own = own.own ∙ sym own.level;
      place = own.place;
    })
