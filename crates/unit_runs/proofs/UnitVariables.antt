-- The variables of a unit: it makes none of its own, and those of the block around it are the same ones in it.
use Rattle.std.proofs.Common.{◌≡◌, ◌⊎◌, inl, inr, ℕ, ◌+◌, ◌<◌, ◌≤◌, [], ◌∷◌, length, refl, sym, ap, ◌∙◌, subst, arith}
use Rattle.pli_typing.specs.TypedTree as Y
use Rattle.pli_meaning.specs.Control.{Normal, give}
use Rattle.pli_meaning.specs.DeclaredShapes.{variables_of_block}
use Rattle.pli_meaning.specs.Executing as M
use Rattle.pli_meaning.specs.Making as K
use Rattle.pli_meaning.specs.Raising.{Around, at_line}
use Rattle.pli_meaning.specs.StorageState.{State}
use Rattle.pli_coding.specs.Assembly.{size_of}
use Rattle.activation_relation.specs.Chains.{AreActive}
use Rattle.activation_relation.specs.Landing.{resumed, with_units}
use Rattle.activation_relation.specs.Layers.{Point, services_of}
use Rattle.activation_relation.specs.Points.{Stands}
use Rattle.activation_relation.specs.Remaining.{Remains}
use Rattle.activation_relation.proofs.Remaining.{remains_entered}
use Rattle.run_steps.specs.Reach.{Reach}
use Rattle.run_steps.proofs.Reach.{reach_with, stay}
use Rattle.block_runs.specs.Machines.{AreIn, IsImage, IsIn}
use Rattle.program_runs.specs.Statements.{IsBegun}
use Rattle.function_runs.proofs.OuterVariables.{Over, over_number}
use Rattle.expression_runs.specs.Values.{Setting}
use Rattle.expression_runs.specs.Variables.{IsNumber, Spot}
use Rattle.unit_runs.specs.Raised.{AreMade, IsRaiseOf, IsRaised, Raise, Standing, act_index, begun_unit, unit_beginning}
use Rattle.unit_runs.specs.Raised.{unit_block, unit_layer}
use Rattle.unit_runs.specs.UnitVariables.{HasNone, IsOwnUnit}

-- ---- none of its own

block_means :
    (around : Around) (head : Y.BlockHead) (kind : Y.BlockKind) (k : ℕ) (s : State) →
    (kind ≡ Y.SimpleUnit) ⊎ ((kind ≡ Y.UnitBlock) × (variables_of_block around.program head.number ≡ [])) →
    M.block_variables_made around head kind k s ≡ Normal tt s
unfolding M.block_variables_made K.variables_made give
block_means around head kind k s (inl e) = ap (λ x. M.block_variables_made around head x k s) e
block_means around head kind k s (inr e) =
    ap (λ x. M.block_variables_made around head x k s) e.0 ∙ ap (λ vs. K.variables_made around 0 vs k s) e.1

pub none_made :
    (k : Setting) (x : Standing) (r : Raise) → HasNone x → AreMade k x r
none_made k x r none =
    let w = k.block.call.surroundings in
    let code = k.block.call.code in
    let start = begun_unit w x r in
    let y = unit_beginning w x r in
    let φ = y.layer in
    let p = r.point in
    let i = act_index x in
    let here : x.made start ≡ start = ap (λ (made : Point → Point). made start) none.made in
    let size : size_of x.variables ≡ 0 = ap (λ u. size_of u) none.code in
    record {
      stands = λ known. subst (λ q. Stands w q × IsImage w code q) (sym here) known;
      comes = λ credits f known l there.
          subst (λ q. Reach code credits f (services_of start) (credits + size_of x.variables) (services_of q)
          (λ b z. IsIn w q r.numbers i b z)) (sym here)
          (reach_with (credits + size_of x.variables) (omega arith)
          (stay code credits f (services_of start) (λ b z. IsIn w start r.numbers i b z)
          (subst (λ n. AreIn w start r.numbers n f) (omega (arith, size)) there)));
      means = block_means (at_line x.around x.unit.head.line) x.unit.head x.unit.head.kind w.acts start.state none.kind
          ∙ ap (λ (q : Point). Normal tt q.state) (sym here);
      activation = M.activation_of x.unit.head y.entry (length p.state.activations + 1);
      parent = refl;
      changed = record {
        units = φ.units;
        waits = φ.waits;
        told = φ.told;
        top = φ.top;
        lower = φ.lower;
        carried = φ.carried;
      };
      layers = ap (λ (q : Point). q.control.layers) here;
      own = [];
      activations = ap (λ (q : Point). q.state.activations) here;
      idle = ap (λ (q : Point). q.control.waiting) here;
      acts = ap (λ (q : Point). q.state.world.acts) here;
      remains = λ begun'. subst (λ q. Remains p q) (sym here) (remains_entered p y.head y.entry φ y.head.line);
      few = subst (λ (q : Point). q.state.serials ≤ p.state.serials + w.serials) (sym here) (omega arith);
    }

-- ---- those of the block around it

-- the unit's block is one over the block
pub unit_over :
    (k : Setting) (x : Standing) (more : ℕ) (h : IsRaised k x more) (r : Raise) → IsOwnUnit k x more h →
    IsRaiseOf k x more h r → AreMade k x r → IsBegun (unit_block k x r) → Over k.block (unit_block k x r) r.point
unit_over k x more h r own is made b =
    let w = k.block.call.surroundings in
    let u = unit_block k x r in
    let p = r.point in
    let φ = resumed made.changed (unit_layer w x r) in
    let a = with_units made.own made.activation in
    let active : AreActive w.units (a ∷ p.state.activations) (φ ∷ p.control.layers) =
    subst (λ xs. AreActive w.units xs (φ ∷ p.control.layers)) made.activations
    (subst (λ ls. AreActive w.units u.first.state.activations ls) made.layers b.resumes.stands.active) in
    record {
      activation = a;
      layer = φ;
      active = made.activations;
      below = p.control.layers;
      layers = made.layers;
      frames = λ m. refl;
      many = refl;
      height = active.0.height;
      level = active.0.level;
      parent = made.parent ∙ is.height ∙ own.own;
      remains = b.remains;
      own = own.level;
      code = own.inner;
      few = h.level;
    }

pub outer_number :
    (k : Setting) (x : Standing) (more : ℕ) (h : IsRaised k x more) (r : Raise) (spot : Spot) →
    IsOwnUnit k x more h → IsRaiseOf k x more h r → AreMade k x r → IsBegun (unit_block k x r) →
    spot.level < x.unit.head.level → IsNumber k.block spot → IsNumber (unit_block k x r) spot
outer_number k x more h r spot own is made b less n =
    over_number {k = k.block} {inner = unit_block k x r} {numbers = r.numbers} {p = r.point} spot
    (unit_over k x more h r own is made b) h.begun is.among less own.program own.parts n
