-- The smallest call comes back.
use Rattle.std.proofs.Common.{ℕ, ◌+◌, ◌^◌, ◌<◌, ◌≤◌, List, [], ◌∷◌, ◌++◌, Option, None, true, refl}
use Rattle.std.proofs.Common.{ap}
use Rattle.std.proofs.Common.{arith}
use Rattle.rv_meaning.specs.declared.instr.Instr.{Instr}
use Rattle.pli_meaning.specs.BasicValues.{BasicValue}
use Rattle.pli_meaning.specs.Control as F
use Rattle.pli_meaning.specs.Control.{Flow, Normal, Jump, Return, Paused, Stuck, act, left}
use Rattle.pli_meaning.specs.StorageState.{State, newest_ended, with_world}
use Rattle.pli_meaning.specs.World.{counted}
use Rattle.pli_serving.specs.ServiceState.{Services}
use Rattle.pli_coding.specs.Allocating.{act_code}
use Rattle.pli_coding.specs.Assembly.{Mark, ReturnPlace, size_of}
use Rattle.activation_relation.specs.Changes.{KeepsNone}
use Rattle.activation_relation.specs.Entering.{BlockEnd}
use Rattle.activation_relation.specs.Layers.{Point, services_of}
use Rattle.activation_relation.specs.Points.{Surroundings, Stands}
use Rattle.run_steps.specs.Engine.{Base}
use Rattle.run_steps.specs.Items.{Linked}
use Rattle.run_steps.proofs.Jumps.{front_of, back_of, rest_of, linked_at}
use Rattle.run_steps.proofs.Linking.{size_append}
use Rattle.run_steps.specs.Owing.{owing}
use Rattle.run_steps.proofs.Owing.{comes_owing, done_owing, owing_closed}
use Rattle.run_steps.specs.Reach.{Family, Aims, Closed, Comes, cost}
use Rattle.run_steps.proofs.Reach.{reach_then, onward, stay}
use Rattle.block_runs.specs.Beginnings.{Beginning, IsCalling, CallStands, begun_point, beginning_code}
use Rattle.block_runs.specs.EmptyProcedures.{empty_code, called_point, call_aims}
use Rattle.block_runs.specs.Endings.{ending_code}
use Rattle.block_runs.specs.Machines.{IsIn, IsImage, AreIn, acted}
use Rattle.block_runs.proofs.BlockEntries.{Premises, begun_stands}
use Rattle.block_runs.proofs.Endings.{Leaving, IsLeaving, ends}
use Rattle.block_runs.proofs.PointActs.{act_comes, stands_acted}
use Rattle.block_runs.proofs.PointCalls.{calls}

-- ---- a block that ends at its own RETURN

abbrev pub left_aims : (State → State) → Aims (Option BasicValue) → Aims (Unit {0})
left_aims close aims =
    record {
      limits = aims.limits;
      done = λ c f v r s. aims.done c f v None (with_world s.world (close s));
      jumped = λ c f v height label s. aims.jumped c f v height label (with_world s.world (close s));
      returned = λ c f v r s. aims.done c f v r (with_world s.world (close s));
    }

pub left_closed :
    {code : List Instr} {aims : Aims (Option BasicValue)} (close : State → State) → Closed code aims →
    Closed code (left_aims close aims)
left_closed close closed =
    record {
      done = λ r x s o. closed.done r None (with_world s.world (close s)) o;
      jumped = λ r height label s o. closed.jumped r height label (with_world s.world (close s)) o;
      returned = λ r x s o. closed.done r x (with_world s.world (close s)) o;
    }

pub comes_left :
    {code : List Instr} {c : ℕ} {f : Family} {v : Services} {aims : Aims (Option BasicValue)} (close : State → State)
    (flow : Flow (Unit {0})) → Comes code c f v (left_aims close aims) flow →
    Comes code c f v aims (left true close flow)
comes_left close (Normal r s) o = record { to = o.to }
comes_left close (Jump height label s) o = record { to = o.to }
comes_left close (Return r s) o = record { to = o.to }
comes_left close (F.Ended s) o = record { to = o.to }
comes_left close (Paused s) o = record { to = o.to }
comes_left close Stuck o = record { to = o.to }

-- ---- behind the act of its entry it ends

abbrev body_point : Beginning → Point → Point
body_point x p = acted x.head.line (begun_point x p)

abbrev end_at : (numbers : ℕ → ℕ) → Beginning → Point → (index : ℕ) → BlockEnd
end_at numbers x p index =
    record {
      layer = x.layer;
      others = p.control.layers;
      kept = [];
      before = numbers;
      after = numbers;
      index = index;
      back = x.layer.back;
    }

abbrev leaving_at :
    Surroundings → List Instr → Point → (numbers : ℕ → ℕ) → Beginning → (index : ℕ) → Family → Leaving
leaving_at w code p numbers x index f =
    record { surroundings = w; code = code; point = body_point x p; end = end_at numbers x p index; first = f }

is_leaving :
    {w : Surroundings} {code : List Instr} {p : Point} {numbers : ℕ → ℕ} {x : Beginning} (index : ℕ) (f : Family) →
    Premises w code p numbers x → Stands w (body_point x p) × IsImage w code (body_point x p) →
    AreIn w (body_point x p) numbers index f → IsLeaving (leaving_at w code p numbers x index f)
is_leaving {p = p} {numbers = numbers} {x = x} index f q known there =
    record {
      stands = known.0;
      image = known.1;
      is = record {
        newest = refl;
        kind = q.is.kind;
        back = refl;
        holds = record { saved = λ n less. ap (λ h. h n) q.is.held; others = λ n more. refl };
        texts = KeepsNone x.layer.entries p.control.entries q.is.next.entries;
      };
      back = q.is.back;
      there = there;
    }

call_closed :
    (w : Surroundings) (code : List Instr) (p : Point) (numbers : ℕ → ℕ) (x : Beginning) (wanted : ℕ) →
    Closed code (call_aims w code p numbers x wanted)
call_closed w code p numbers x wanted =
    record {
      done = λ r v s o. (o.0, o.1, reach_then r o.2);
      jumped = λ r height label s o. absurd o;
      returned = λ r v s o. absurd o;
    }

-- the debt is what its end costs
ended_owing :
    {w : Surroundings} {code : List Instr} {p : Point} {numbers : ℕ → ℕ} {x : Beginning} (wanted index : ℕ)
    (f : Family) → Premises w code p numbers x → Stands w (body_point x p) × IsImage w code (body_point x p) →
    Linked w.links code index (ending_code x.layer None) → AreIn w (body_point x p) numbers index f →
    (owing code (size_of (ending_code x.layer None)) (call_aims w code p numbers x wanted)).done 0 f
    (services_of (body_point x p)) None (called_point x p).state
ended_owing {w} {code} {p} {numbers} {x} wanted index f q known l there =
    let k = leaving_at w code p numbers x index f in
    let debt = size_of (ending_code x.layer None) in
    let r = ends None k (is_leaving index f q known there) (λ b. 0) 0 tt (λ b. refl) l in
    done_owing (call_closed w code p numbers x wanted) debt wanted (omega arith) r None (called_point x p).state
    (λ g at. (
      refl,
      refl,
      stay code wanted g (services_of (called_point x p))
          (λ b y. IsIn w (called_point x p) numbers x.layer.back b y) (λ b. (at b).is),
    ))

-- ---- the whole call

pub empty_comes :
    {w : Surroundings} {code : List Instr} {p : Point} {numbers : ℕ → ℕ} {x : Beginning}
    (credits wanted call entry : ℕ) (f : Family) → Premises w code p numbers x →
    CallStands w code x call entry × Linked w.links code entry (empty_code x) →
    (w.acts + 1 < 2 ^ 64) × (credits + 2 + size_of (empty_code x) ≤ cost code) →
    AreIn w p numbers call f × ((b : Base) → IsCalling p x b (f b)) →
    Comes code credits f (services_of p) (call_aims w code p numbers x wanted)
    (left true newest_ended (act counted w.acts (begun_point x p).state))
empty_comes {w} {code} {p} {numbers} {x} credits wanted call entry f q stands fits there =
    let first = beginning_code x in
    let one = act_code x.head.line in
    let last = ending_code x.layer None in
    let mark = Mark (ReturnPlace x.head.number) in
    let debt = size_of last in
    let aims = call_aims w code p numbers x wanted in
    let owed = owing code debt aims in
    let closed = left_closed newest_ended (owing_closed code debt aims) in
    let l1 = back_of first (one ++ (mark ∷ last)) stands.1 in
    let l2 = rest_of mark last (back_of one (mark ∷ last) l1) in
    let n0 = size_append first (one ++ (mark ∷ last)) in
    let n1 = size_append one (mark ∷ last) in
    let paid = fits.1 in
    let new = begun_stands q in
    let index = entry + size_of first + size_of one in
    comes_owing debt (left true newest_ended (act counted w.acts (begun_point x p).state))
    (comes_left newest_ended (act counted w.acts (begun_point x p).state)
    (onward closed (calls (credits + debt) call entry f q stands.0 there.0 there.1)
    (λ g at.
    act_comes closed x.head.line (credits + debt + 2 + size_of first) 0 g new
    (q.is.line, fits.0, omega (arith, n0, n1, paid)) (front_of one (mark ∷ last) l1) at
    (λ g' less at'.
    ended_owing wanted index g' q (stands_acted x.head.line new.0 new.1 less)
    (linked_at index last (omega arith) l2) at'))))
