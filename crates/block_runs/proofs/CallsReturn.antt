-- A procedure whose body comes to its end comes back behind its call.
use Rattle.std.proofs.Common.{◌≡◌, ℕ, ◌+◌, List, [], ◌∷◌, Option, None, Some, true, refl, sym, ap, ◌∙◌, arith}
use Rattle.pli_meaning.specs.BasicValues.{BasicValue}
use Rattle.pli_meaning.specs.Control.{Meaning, left}
use Rattle.pli_meaning.specs.StorageState.{State, Activation, newest_ended, without_newest, with_world}
use Rattle.rv_meaning.specs.Machine.{value}
use Rattle.pli_coding.specs.Registers.{a0}
use Rattle.pli_serving.specs.Blocks as B
use Rattle.pli_serving.specs.ServiceState as S
use Rattle.pli_serving.specs.ServiceState.{Services}
use Rattle.pli_coding.specs.Assembly.{size_of}
use Rattle.run_steps.specs.Engine.{Base}
use Rattle.run_steps.specs.Owing.{owing}
use Rattle.run_steps.proofs.Owing.{comes_owing, done_owing, owing_closed}
use Rattle.run_steps.specs.Reach.{Family, Closed, Comes, reached}
use Rattle.run_steps.proofs.Reach.{reach_then, reached_holds, onward, stay}
use Rattle.activation_relation.specs.Changes.{popped, popped_from, KeepsNone}
use Rattle.activation_relation.specs.Entering.{BlockEnd}
use Rattle.activation_relation.specs.Landing.{resumed}
use Rattle.activation_relation.specs.Layers.{services_of}
use Rattle.activation_relation.proofs.PointSteps.{stacks_over}
use Rattle.activation_relation.proofs.Returning.{left_later, left_entries}
use Rattle.activation_relation.proofs.Serials.{few_left}
use Rattle.block_runs.specs.Beginnings.{IsCalling, begun_point, beginning_code}
use Rattle.block_runs.specs.Bodies.{Called, IsCall, IsEnding, AtEnd, body_aims, behind_aims, place_in}
use Rattle.block_runs.specs.Endings.{ending_code}
use Rattle.block_runs.specs.Machines.{IsIn, AreIn}
use Rattle.block_runs.proofs.BlockEntries.{Premises}
use Rattle.block_runs.proofs.CallStatements.{comes_map}
use Rattle.block_runs.proofs.EmptyCalls.{left_aims, left_closed, comes_left}
use Rattle.block_runs.proofs.Endings.{Leaving, IsLeaving, ends, ended_stands}
use Rattle.block_runs.proofs.PointCalls.{calls}

-- ---- no raise waits where a procedure is called

none_waits :
    (line : ℕ) (x : Option S.Waiting) (e : B.Entered) → B.entered_of 0 line x ≡ Some e → x ≡ None
none_waits line None e h = refl
none_waits line (Some w) e h = absurd (cc h)

pub ending_of : (k : Called) → IsCall k → IsEnding k
ending_of k h =
    record {
      stands = h.stands;
      kind = h.beginning.kind;
      held = h.beginning.held;
      back = h.beginning.back;
      edits = h.beginning.next.edits;
      idle = none_waits k.point.control.line k.point.control.waiting _ h.beginning.entering.entered;
      ending = h.ending;
      word = h.word;
    }

-- ---- the end of the block

abbrev end_of : (k : Called) (left' c : ℕ) (f : Family) (v : Services) (r : Option BasicValue) (s : State) →
    AtEnd k left' c f v r s → BlockEnd
end_of k left' c f v r s o =
    record {
      layer = resumed o.resumes.changed k.beginning.layer;
      others = k.point.control.layers;
      kept = [];
      before = k.numbers;
      after = o.after;
      index = k.end;
      back = k.beginning.layer.back;
    }

abbrev leaving_of : (k : Called) (left' c : ℕ) (f : Family) (v : Services) (r : Option BasicValue) (s : State) →
    AtEnd k left' c f v r s → Leaving
leaving_of k left' c f v r s o =
    record {
      surroundings = k.surroundings;
      code = k.code;
      point = o.point;
      end = end_of k left' c f v r s o;
      first = reached o.reach;
    }

is_leaving :
    (k : Called) (left' c : ℕ) (f : Family) (v : Services) (r : Option BasicValue) (s : State)
    (o : AtEnd k left' c f v r s) → IsEnding k →
    IsLeaving (leaving_of k left' c f v r s o)
is_leaving k left' c f v r s o h =
    let φ = resumed o.resumes.changed k.beginning.layer in
    record {
      stands = o.resumes.stands;
      image = o.image;
      is = record {
        newest = o.resumes.layers;
        kind = h.kind;
        back = refl;
        holds = record { saved = λ n less. ap (λ x. x n) h.held; others = o.others };
        texts = KeepsNone k.beginning.layer.entries o.point.control.entries
            (stacks_over k.surroundings o.point 0 φ k.point.control.layers o.resumes.stands o.resumes.layers).0;
      };
      back = h.back;
      there = λ b. (reached_holds o.reach b).0;
    }

-- the state that the meaning comes to is that of the point behind
same_ended : (as' : List Activation) (s : State) → with_world s.world (without_newest as' s) ≡ without_newest as' s
same_ended [] s = refl
same_ended (a ∷ as') s = refl

ended_state :
    (k : Called) (left' c : ℕ) (f : Family) (v : Services) (r : Option BasicValue) (s : State)
    (o : AtEnd k left' c f v r s) →
    with_world s.world (newest_ended s) ≡ (popped [] o.point).state
ended_state k left' c f v r s o =
    ap (λ (u : State). with_world u.world (newest_ended u)) o.state
    ∙ same_ended o.point.state.activations o.point.state
    ∙ sym (ap (λ ls. (popped_from [] ls o.point).state) o.resumes.layers)

behind_closed : (k : Called) (wanted : ℕ) → Closed k.code (behind_aims k wanted)
behind_closed k wanted =
    record {
      done = λ r v s o. record {
        point = o.point;
        stands = o.stands;
        image = o.image;
        later = o.later;
        few = o.few;
        entries = o.entries;
        line = o.line;
        state = o.state;
        given = o.given;
        result = o.result;
        reach = reach_then r o.reach;
      };
      jumped = λ r height label s o. absurd o;
      returned = λ r v s o. absurd o;
    }

pub at_end_owing :
    (k : Called) (left' wanted c : ℕ) (f : Family) (v : Services) (r : Option BasicValue) (s : State) → IsEnding k →
    AtEnd k left' c f v r s →
    (owing k.code (left' + size_of (ending_code k.beginning.layer (place_in k.function))) (behind_aims k wanted)).done c
    f v r (with_world s.world (newest_ended s))
at_end_owing k left' wanted c f v r s h o =
    let debt = left' + size_of (ending_code k.beginning.layer (place_in k.function)) in
    let l = leaving_of k left' c f v r s o in
    let q = popped [] o.point in
    let is = is_leaving k left' c f v r s o h in
    let known = ended_stands k.surroundings k.code o.point l.end is.stands is.image is.is in
    let back = ends (place_in k.function) l is (λ b. o.given) left' h.word
    (λ b. (reached_holds o.reach b).1) h.ending in
    done_owing (behind_closed k wanted) debt wanted (omega arith) (reach_then o.reach back) r
    (with_world s.world (newest_ended s))
    (λ g at. record {
      point = q;
      stands = known.0;
      image = known.1;
      later = left_later k.surroundings k.point o.point k.point.state.world.acts o.activation k.beginning.layer []
          h.stands (omega arith) h.edits h.idle o.remains o.resumes;
      few = few_left k.surroundings o.point [] o.few;
      entries = left_entries k.surroundings o.point k.point.state.world.acts o.activation k.point.state.activations
          k.beginning.layer k.point.control.layers [] o.resumes;
      line = ap (λ ls. (popped_from [] ls o.point).control.line) o.resumes.layers;
      state = ended_state k left' c f v r s o;
      given = o.given;
      result = o.result;
      reach = stay k.code wanted g (services_of q)
          (λ b y. IsIn k.surroundings q k.numbers k.beginning.layer.back b y × (value y.machine a0 ≡ o.given))
          (λ b. ((at b).is, (at b).given_is));
    })

-- ---- the call

pub calls_return :
    (k : Called) (part : Meaning (Unit {0})) (credits left' wanted : ℕ) (f : Family) → IsCall k →
    ((g : Family) →
    AreIn k.surroundings (begun_point k.beginning k.point) k.numbers
    (k.entry + size_of (beginning_code k.beginning)) g →
    Comes k.code
    (credits + (left' + size_of (ending_code k.beginning.layer (place_in k.function))) + 2 + size_of
    (beginning_code k.beginning)) g
    (services_of (begun_point k.beginning k.point)) (body_aims k left')
    (part k.surroundings.acts (begun_point k.beginning k.point).state)) →
    AreIn k.surroundings k.point k.numbers k.call f → ((b : Base) → IsCalling k.point k.beginning b (f b)) →
    Comes k.code credits f (services_of k.point) (behind_aims k wanted)
    (left true newest_ended (part k.surroundings.acts (begun_point k.beginning k.point).state))
calls_return k part credits left' wanted f h body there gives =
    let debt = left' + size_of (ending_code k.beginning.layer (place_in k.function)) in
    let aims = behind_aims k wanted in
    let owed = owing k.code debt aims in
    let flow = part k.surroundings.acts (begun_point k.beginning k.point).state in
    let q : Premises k.surroundings k.code k.point k.numbers k.beginning = record {
      stands = h.stands;
      image = h.image;
      is = h.beginning;
    } in
    comes_owing debt (left true newest_ended flow)
    (comes_left newest_ended flow
    (onward (left_closed newest_ended (owing_closed k.code debt aims))
    (calls (credits + debt) k.call k.entry f q h.code there gives)
    (λ g at.
    comes_map (body_aims k left') (left_aims newest_ended owed) refl flow
    (λ c g' v u s o. at_end_owing k left' wanted c g' v None s (ending_of k h) o)
    (λ c g' v height label s o. absurd o)
    (λ c g' v r s o. at_end_owing k left' wanted c g' v r s (ending_of k h) o)
    (body g at))))
