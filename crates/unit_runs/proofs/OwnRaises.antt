-- A unit that a list has established last, at the points of the block: what stays as it was at the first one.
use Rattle.std.proofs.Common.{◌≡◌, ℕ, suc, List, [], ◌∷◌, length, refl, sym, ap, ◌∙◌, subst, arith}
use Rattle.std.specs.Prelude.{nat_lt}
use Rattle.pli_language.specs.declared.condition.Condition.{Condition}
use Rattle.pli_typing.specs.TypedTree as Y
use Rattle.pli_meaning.specs.Control.{Label}
use Rattle.pli_meaning.specs.StorageState.{BlockUnit, ancestor, height_of, most_activations}
use Rattle.pli_serving.specs.ServiceState as S
use Rattle.activation_relation.specs.Chains.{AreActive, HasParent}
use Rattle.activation_relation.specs.Changes.{newest_with}
use Rattle.activation_relation.specs.Frames.{lower_end, upper_top}
use Rattle.activation_relation.specs.Landing.{resumed, with_units}
use Rattle.activation_relation.specs.Layers.{Layer, Point}
use Rattle.activation_relation.specs.Points.{Surroundings}
use Rattle.program_runs.specs.Statements.{Block, IsBegun, own_height}
use Rattle.program_runs.proofs.NewestBlocks.{newest_ancestor}
use Rattle.expression_runs.specs.Assignments.{setting_of}
use Rattle.expression_runs.specs.Variables.{IsNumber, Spot}
use Rattle.unit_runs.specs.Changing.{IsLike, IsOwnRaise, IsPast, Past, after, past_point}
use Rattle.unit_runs.specs.Establishing.{unit_of}
use Rattle.unit_runs.specs.Raised.{IsRaised, Standing}
use Rattle.unit_runs.proofs.Changing.{begun_after}
use Rattle.unit_runs.proofs.Establishing.{active_length, height_same, top_same, under_same, unit_forced, unit_numbers}

-- ---- what units leave as it was

lower_same :
    (w : Surroundings) (xs : List (Condition × S.OnUnit)) (φs : List Layer) →
    lower_end w.parts (newest_with xs φs) ≡ lower_end w.parts φs
lower_same w xs [] = refl
lower_same w xs (φ ∷ φs) = refl

past_top :
    (w : Surroundings) (past : Past) (p : Point) →
    upper_top w.parts (past_point past p).control.layers ≡ upper_top w.parts p.control.layers
past_top w [] p = refl
past_top w (e ∷ past) p = top_same w _ (past_point past p).control.layers ∙ past_top w past p

past_lower :
    (w : Surroundings) (past : Past) (p : Point) →
    lower_end w.parts (past_point past p).control.layers ≡ lower_end w.parts p.control.layers
past_lower w [] p = refl
past_lower w (e ∷ past) p = lower_same w _ (past_point past p).control.layers ∙ past_lower w past p

past_length :
    (past : Past) (p : Point) → length (past_point past p).state.activations ≡ length p.state.activations
past_length [] p = refl
past_length (e ∷ past) p =
    active_length e.0.condition (BlockUnit (unit_of e.0)) (past_point past p).state.activations ∙ past_length past p

past_acts : (past : Past) (p : Point) → (past_point past p).state.world.acts ≡ p.state.world.acts
past_acts [] p = refl
past_acts (e ∷ past) p = past_acts past p

pub past_numbers : (k : Block) (past : Past) (spot : Spot) → IsNumber k spot → IsNumber (after k past) spot
past_numbers k [] spot n = n
past_numbers k (e ∷ past) spot n = unit_numbers (after k past) e.0 e.1 spot (past_numbers k past spot n)

pub past_like : (k : Block) (past : Past) → IsLike k (past_point past k.first)
past_like k [] = record { frame = refl; top = refl; entries = refl; edits = refl; ancestors = λ level. refl }
past_like k (e ∷ past) =
    let w = k.call.surroundings in
    let p = past_point past k.first in
    let o = past_like k past in
    record {
      frame = under_same w _ p.control.layers ∙ o.frame;
      top = top_same w _ p.control.layers ∙ o.top;
      entries = o.entries;
      edits = o.edits;
      ancestors = λ level.
          height_same e.0.condition (BlockUnit (unit_of e.0)) p.state.activations level ∙ o.ancestors level;
    }

-- ---- the block is the static parent of what stands in it

own_parent :
    (k : Block) (level : ℕ) → IsBegun k → level ≡ suc k.call.beginning.layer.level →
    HasParent level (own_height k) k.first.state.activations
own_parent k level b e =
    let r = b.resumes in
    let a = with_units r.own b.activation in
    let as' = k.call.point.state.activations in
    let φ = resumed r.changed k.call.beginning.layer in
    let φs = k.call.point.control.layers in
    let outer = k.call.beginning.layer.level in
    let units = k.call.surroundings.units in
    let active = subst (λ xs. AreActive units xs (φ ∷ φs)) r.activations
    (subst (λ ls. AreActive units k.first.state.activations ls) r.layers r.stands.active) in
    let height = active.0.height in
    subst (λ l. HasParent l (own_height k) k.first.state.activations) (sym e) (
      omega arith,
      subst (λ xs. height_of (ancestor xs (own_height k) outer) ≡ own_height k) (sym r.activations)
          (subst (λ m. height_of (ancestor (a ∷ as') m outer) ≡ m) (omega (arith, height))
          (newest_ancestor a as' outer active.0.level)),
    )

-- ---- the raise

pub own_raised :
    (k : Block) (body : Y.Stmts) (start : ℕ) (labels : List Label) (x : Standing) (at line most more : ℕ)
    (past : Past) → IsBegun k → IsPast k body start ((x.unit, at) ∷ past) → IsOwnRaise k x most more →
    (h : IsRaised (setting_of (after k ((x.unit, at) ∷ past)) labels line most) x more)
    × (h.by.height ≡ own_height k)
own_raised k body start labels x at line most more past b known z =
    let w = k.call.surroundings in
    let all : Past = (x.unit, at) ∷ past in
    let b' = begun_after k body start all b known in
    let forced = unit_forced (after k past) x.unit at known.0 in
    let top = past_top w all k.first in
    let lower = past_lower w all k.first in
    let acts = past_acts all k.first in
    let room = z.room in
    let enough = z.enough in (
      record {
        begun = b';
        routines = z.routines;
        by = forced.by;
        force = forced.force;
        parent = subst (λ n. HasParent x.unit.head.level n (after k all).first.state.activations) (sym forced.own)
            (own_parent (after k all) x.unit.head.level b' z.level);
        room = omega (arith, top, lower, room);
        shallow = ap (λ n. nat_lt n most_activations) (past_length all k.first) ∙ z.shallow;
        only = z.only;
        some = z.some;
        stands = z.stands;
        labels = z.labels;
        kind = z.kind;
        level = z.few;
        line = z.line;
        saved = z.saved;
        acts = z.acts;
        enter = z.enter;
        around = z.around;
        enough = omega (arith, acts, enough);
        most = z.paid;
      },
      forced.own,
    )
