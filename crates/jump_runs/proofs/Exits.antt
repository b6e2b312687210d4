-- A call hands a jump on.
use Rattle.std.proofs.Common.{ℕ, ◌+◌, inl, inr, List, [], ◌∷◌, None, true, refl}
use Rattle.pli_meaning.specs.Control.{Label, Meaning, left}
use Rattle.pli_meaning.specs.StorageState.{State, newest_ended}
use Rattle.pli_serving.specs.ServiceState.{Services}
use Rattle.pli_coding.specs.Assembly.{size_of}
use Rattle.image_runs.specs.Runs.{Whole}
use Rattle.activation_relation.specs.Landing.{closed}
use Rattle.activation_relation.specs.Layers.{services_of}
use Rattle.activation_relation.specs.Points.{Surroundings}
use Rattle.rv_meaning.specs.declared.instr.Instr.{Instr}
use Rattle.run_steps.specs.Engine.{Base}
use Rattle.run_steps.specs.Owing.{owing}
use Rattle.run_steps.proofs.Owing.{comes_owing, owing_closed}
use Rattle.run_steps.specs.Reach.{Closed, Comes, Family, Reach, reached}
use Rattle.run_steps.proofs.Reach.{onward, reach_then}
use Rattle.block_runs.specs.Beginnings.{IsCalling, beginning_code, begun_point}
use Rattle.block_runs.specs.Bodies.{IsCall, place_in}
use Rattle.block_runs.specs.Endings.{ending_code}
use Rattle.block_runs.specs.Machines.{AreIn}
use Rattle.block_runs.proofs.BlockEntries.{Premises}
use Rattle.block_runs.proofs.CallsReturn.{at_end_owing, ending_of}
use Rattle.block_runs.proofs.CallStatements.{comes_map}
use Rattle.block_runs.proofs.EmptyCalls.{comes_left, left_aims, left_closed}
use Rattle.block_runs.proofs.PointCalls.{calls}
use Rattle.program_runs.specs.Statements.{Block, JumpsOut, LandsAt, Outer, outer_block}
use Rattle.program_runs.proofs.JumpsOut.{end_later, outs_repaid}
use Rattle.jump_runs.specs.Exits.{exit_aims, hand_aims}

-- ---- what is aimed at may be reached later

lands_later :
    {k : Block} {labels : List Label} {acts i i' : ℕ} {f : Family} {v v' : Services} {Q : Base → Whole → Type 0}
    {height : ℕ} {label : Label} {s : State} (r : Reach k.call.code i f v i' v' Q) →
    LandsAt k labels acts i' (reached r) v' height label s → LandsAt k labels acts i f v height label s
lands_later r o =
    record {
      own = o.own;
      carried = o.carried;
      point = o.point;
      numbers = o.numbers;
      among = o.among;
      more = o.more;
      state = o.state;
      index = o.index;
      place = o.place;
      reach = reach_then r o.reach;
    }

pub outs_later :
    (w : Surroundings) {code : List Instr} (os : List Outer) (acts : ℕ) {i i' : ℕ} {f : Family} {v v' : Services}
    {Q : Base → Whole → Type 0} (height : ℕ) (label : Label) (s : State) (r : Reach code i f v i' v' Q) →
    JumpsOut w code os acts i' (reached r) v' height label s → JumpsOut w code os acts i f v height label s
outs_later w [] acts height label s r o = absurd o
outs_later w {code} (o ∷ os) acts height label s r (inl here) =
    inl (lands_later {k = outer_block w code o os} r here)
outs_later w (o ∷ os) acts height label s r (inr out) = inr (outs_later w os acts height label (closed s) r out)

pub exit_closed : (k : Block) (acts left' : ℕ) → Closed k.call.code (exit_aims k acts left')
exit_closed k acts left' =
    record {
      done = λ r x s o. end_later r o;
      jumped = λ r height label s o. outs_later k.call.surroundings k.outers acts height label (closed s) r o;
      returned = λ r x s o. end_later r o;
    }

pub hand_closed : (k : Block) (acts wanted : ℕ) → Closed k.call.code (hand_aims k acts wanted)
hand_closed k acts wanted =
    record {
      done = λ r v s o. record {
        point = o.point;
        stands = o.stands;
        image = o.image;
        later = o.later;
        few = o.few;
        entries = o.entries;
        line = o.line;
        state = o.state;
        given = o.given;
        result = o.result;
        reach = reach_then r o.reach;
      };
      jumped = λ r height label s o. outs_later k.call.surroundings k.outers acts height label s r o;
      returned = λ r v s o. absurd o;
    }

-- ---- the call

pub calls_hand :
    (k : Block) (part : Meaning (Unit {0})) (acts credits left' wanted : ℕ) (f : Family) → IsCall k.call →
    ((g : Family) →
    AreIn k.call.surroundings (begun_point k.call.beginning k.call.point) k.call.numbers
    (k.call.entry + size_of (beginning_code k.call.beginning)) g →
    Comes k.call.code
    (credits + (left' + size_of (ending_code k.call.beginning.layer (place_in k.call.function))) + 2
    + size_of (beginning_code k.call.beginning)) g
    (services_of (begun_point k.call.beginning k.call.point)) (exit_aims k acts left')
    (part k.call.surroundings.acts (begun_point k.call.beginning k.call.point).state)) →
    AreIn k.call.surroundings k.call.point k.call.numbers k.call.call f →
    ((b : Base) → IsCalling k.call.point k.call.beginning b (f b)) →
    Comes k.call.code credits f (services_of k.call.point) (hand_aims k acts wanted)
    (left true newest_ended (part k.call.surroundings.acts (begun_point k.call.beginning k.call.point).state))
calls_hand k part acts credits left' wanted f h body there gives =
    let x = k.call in
    let debt = left' + size_of (ending_code x.beginning.layer (place_in x.function)) in
    let aims = hand_aims k acts wanted in
    let owed = owing x.code debt aims in
    let flow = part x.surroundings.acts (begun_point x.beginning x.point).state in
    let q : Premises x.surroundings x.code x.point x.numbers x.beginning = record {
      stands = h.stands;
      image = h.image;
      is = h.beginning;
    } in
    comes_owing debt (left true newest_ended flow)
    (comes_left newest_ended flow
    (onward (left_closed newest_ended (owing_closed x.code debt aims))
    (calls (credits + debt) x.call x.entry f q h.code there gives)
    (λ g at.
    comes_map (exit_aims k acts left') (left_aims newest_ended owed) refl flow
    (λ c g' v u s o. at_end_owing x left' wanted c g' v None s (ending_of x h) o)
    (λ c g' v height label s o i0 f0 v0 from.
    outs_repaid x.surroundings k.outers acts i0 height label (closed s) debt from o)
    (λ c g' v r s o. at_end_owing x left' wanted c g' v r s (ending_of x h) o)
    (body g at))))
