-- A raise where as many blocks are active as may be: the unit's frame is made, and service 4 ends the run.
use Rattle.std.proofs.Common.{◌≡◌, ℕ, suc, ◌+◌, ◌*◌, ◌^◌, ◌<◌, ◌≤◌, [], ◌∷◌, ◌++◌, length, Bool, Option, true}
use Rattle.std.proofs.Common.{Some, false, refl, sym, ap, ◌∙◌, subst, arith}
use Rattle.std.specs.Prelude.{cond, nat_lt}
use Rattle.rv_meaning.specs.declared.instr.Instr.TheVariants as I
use Rattle.pli_language.specs.declared.condition.Condition.{Condition}
use Rattle.pli_language.specs.declared.condition.Condition.TheVariants as C
use Rattle.pli_typing.specs.TypedTree as Y
use Rattle.pli_meaning.specs.BasicValues.{BasicValue}
use Rattle.pli_meaning.specs.Codes.{fixed_overflow_code}
use Rattle.pli_meaning.specs.Control as F
use Rattle.pli_meaning.specs.Control.{Flow, Meaning, act, choose, finish, flow_on, give, leaving, looked, stored}
use Rattle.pli_meaning.specs.Control.{◌>>=◌, ◌>>◌}
use Rattle.pli_meaning.specs.Executing as M
use Rattle.pli_meaning.specs.Executing.{with_activation}
use Rattle.pli_meaning.specs.Raising as R
use Rattle.pli_meaning.specs.Raising.{Around, Entry, at_line, unit_entered}
use Rattle.pli_meaning.specs.StorageState.{Activation, BlockUnit, State, force, most_activations, newest_ended}
use Rattle.pli_meaning.specs.StorageState.{with_world}
use Rattle.pli_meaning.specs.World.{ending, raising}
use Rattle.pli_meaning.specs.declared.outcome.End.{End}
use Rattle.pli_meaning.specs.declared.outcome.End.TheVariants as E
use Rattle.pli_meaning.specs.declared.outcome.Limit.TheVariants as L
use Rattle.pli_serving.specs.Answers as A'
use Rattle.pli_serving.specs.Answers.{Ends}
use Rattle.pli_serving.specs.Blocks as B
use Rattle.pli_coding.specs.Arithmetic as A
use Rattle.pli_coding.specs.Assembly.{Plain, size_of}
use Rattle.pli_coding.specs.Instructions.{number, small}
use Rattle.pli_coding.specs.Registers.{a2, a7}
use Rattle.activation_relation.specs.Layers.{Point, services_of}
use Rattle.activation_relation.specs.Points.{Surroundings}
use Rattle.activation_relation.proofs.Blocks.{depth_answered}
use Rattle.activation_relation.proofs.PointSteps.{awaited_stands}
use Rattle.run_steps.specs.Bodies.{Known}
use Rattle.run_steps.specs.Calls.{Calling}
use Rattle.run_steps.proofs.Calls.{acts, call_ends, called, comes_finish, end_pauses}
use Rattle.run_steps.specs.Engine.{Base}
use Rattle.run_steps.specs.Items.{At, Linked}
use Rattle.run_steps.proofs.Jumps.{back_of, front_of}
use Rattle.run_steps.proofs.Linking.{size_append}
use Rattle.run_steps.specs.Reach.{Aims, Closed, Comes, Family, cost, reached}
use Rattle.run_steps.proofs.Reach.{before_closed, comes_on, onward, reach_then, reached_holds}
use Rattle.block_runs.specs.Beginnings.{Beginning, begun_point}
use Rattle.block_runs.specs.Machines.{AreIn, IsIn}
use Rattle.block_runs.proofs.FrameBeginnings.{frame_code}
use Rattle.block_runs.proofs.PointGrounds.{call_is, point_ground}
use Rattle.program_runs.specs.Statements.{IsAmong}
use Rattle.expression_runs.specs.Values.{OverflowComes, Setting}
use Rattle.expression_runs.proofs.Raises.{raised_at}
use Rattle.unit_runs.specs.Establishing.{unit_of}
use Rattle.unit_runs.specs.Raised.{DeepRaisesEnd, IsRaisedAt, Raise, Standing, begin_of, raise_aims, unit_beginning}
use Rattle.unit_runs.specs.UnitBeginnings.{IsAtUnit, unit_beginning_code}
use Rattle.unit_runs.proofs.UnitBlocks.{behind_closed, raise_begins}
use Rattle.unit_runs.proofs.UnitEntries.{PremisesAt, asked_comes, begun_at, enter_front, enter_regs, frame_comes}
use Rattle.unit_runs.proofs.UnitEntries.{front_comes, new_point_frame}
use Rattle.unit_runs.proofs.UnitMeaning.{behind_raise}
use Rattle.unit_runs.proofs.UnitRaises.{Finding, IsFinding, raise_finds, waiting_point}
use Rattle.unit_runs.proofs.UnitRuns.{behind_beginning, overflow_by, raised_among, standing_size}

-- ---- what it means

finish_on :
    {R : Type 0} (q : Bool) (end : End) (k : ℕ) (s : State) (next : R → Meaning (Unit {0})) →
    flow_on k (cond q (F.Ended (with_world (ending end s.world) s)) (F.Paused s)) next
    ≡ cond q (F.Ended (with_world (ending end s.world) s)) (F.Paused s)
finish_on true end k s next = refl
finish_on false end k s next = refl

run_finishes :
    (around : Around) (head : Y.BlockHead) (body : Y.Stmts) (entry : Entry) (k : ℕ) (s : State) →
    nat_lt (length s.activations) most_activations ≡ false →
    M.block_run around (Y.BlockOf head body) entry k s ≡ finish (E.Limit L.Depth) k s
unfolding M.block_run looked stored choose leaving ◌>>=◌ ◌>>◌
run_finishes around head body entry k s many =
    let around' = at_line around head.line in
    let inside : Meaning (Option BasicValue) =
    stored (with_activation head entry)
    >> leaving (M.is_own_return head.kind) newest_ended (M.block_body around' head body entry) in
    ap (λ q. choose q inside (finish (E.Limit L.Depth)) k s) many

deep_means :
    (around inner : Around) (c : Condition) (head : Y.BlockHead) (body : Y.Stmts) (more n k : ℕ) (a : Activation)
    (s : State) → around.enter ≡ M.entered around.program (suc more) →
    inner ≡ record { program = around.program; enter = M.entered around.program more; turns = suc more; line = 0 } →
    nat_lt (length s.activations) most_activations ≡ false →
    force s.activations c ≡ Some (a, BlockUnit (Y.BlockOf head body)) →
    behind_raise around c n k s ≡ finish (E.Limit L.Depth) k s
unfolding M.entered R.unit_run looked ◌>>=◌ ◌>>◌ finish
deep_means around inner c head body more n k a s enter same many found =
    let block = Y.BlockOf head body in
    let entry = unit_entered block a n in
    let on : Flow (Option BasicValue) → Flow (Unit {0}) = λ flow. flow_on k flow (λ r. give tt) in
    ap (λ o. R.unit_run around n o k s) found
    ∙ ap (λ (enters : Entry → Meaning (Option BasicValue)). on (enters entry k s)) enter
    ∙ ap (λ (u : Around). on (M.block_run u block entry k s)) (sym same)
    ∙ ap on (run_finishes inner head body entry k s many)
    ∙ finish_on (nat_lt s.world.acts k) (E.Limit L.Depth) k s (λ r. give tt)

-- ---- service 4 ends the run, or the run pauses before

one_more : (n : ℕ) → n + 1 ≡ suc n
one_more n = omega arith

answer_ends :
    {w : Surroundings} {code : _} {p : Point} {numbers : ℕ → ℕ} {x : Beginning} {i : ℕ} {aims : Aims (Unit {0})}
    (c : ℕ) (f g : Family) (q : PremisesAt false w code p numbers x)
    (at : (b : Base) → IsAtUnit p x b (f b)) → (c < cost code) × (w.acts + 1 < 2 ^ 64) →
    Linked w.links code i (Plain I.Ecall ∷ []) →
    ((b : Base) → At b i (Known (point_ground w (begun_point x p) (new_point_frame f q at)) (services_of p) numbers
    (λ n. 0) (λ b'. (17, 4) ∷ (12, x.head.line) ∷ enter_regs x.layer.at b') b) (g b)) →
    Comes code c g (services_of p) aims (finish (E.Limit L.Depth) w.acts p.state)
answer_ends {w} {code} {p} {x = x} {i = i} c f g q at fits l there =
    let v = services_of p in
    let v' = A'.with_world (ending (E.Limit L.Depth) v.world) v in
    let calling : Calling w.links code i g (λ b. Ends v') = record {
      linked = l;
      pc = λ b. (there b).pc;
      answers = λ b.
          let o = (there b).holds in
          let m = (g b).machine.memory in
          called code (g b) v 4 2 x.layer.at x.head.line 0 _
          (λ call x0 x1 x2 x3 x4. B.enter_served call x0 x1 x2 x3)
          o.body.services o.regs.0 o.regs.1.1.0 o.regs.1.1.1.0 o.regs.1.0 o.regs.1.1.1.1.0 refl (λ call y. refl)
          ∙ ap (λ call. B.enter_served call 2 x.layer.at x.head.line 0) (call_is w code p m q.image)
          ∙ depth_answered w.units p m x.layer 2 0 x.head.line q.stands.active q.is.entering q.is.shallow
          ∙ acts v w.acts (Ends v') q.stands.allowed fits.1;
    } in
    comes_finish v' (E.Limit L.Depth) w.acts p.state refl refl
    (end_pauses c g v v' fits.0 q.stands.running (λ b. (there b).holds.body.services) (one_more v.world.acts) calling)
    (call_ends c g v v' (λ e. cc e) calling)

-- ---- from the unit's first instruction

deep_comes :
    {w : Surroundings} {code : _} {p : Point} {numbers : ℕ → ℕ} {x : Beginning} {aims : Aims (Unit {0})} →
    Closed code aims → (c index : ℕ) (f : Family) (q : PremisesAt false w code p numbers x) →
    Linked w.links code index (unit_beginning_code x) →
    (c + size_of (unit_beginning_code x) ≤ cost code) × (w.acts + 1 < 2 ^ 64) →
    ((b : Base) → IsIn w p numbers index b (f b) × IsAtUnit p x b (f b)) →
    Comes code c f (services_of p) aims (finish (E.Limit L.Depth) w.acts p.state)
deep_comes {w} {code} {p} {numbers} {x} closed c index f q l fits there =
    let at : (b : Base) → IsAtUnit p x b (f b) = λ b. (there b).1 in
    let first = frame_code (begun_at w p x f) in
    let line = number a2 x.head.line in
    let one = small a7 4 ∷ [] in
    let last = Plain I.Ecall ∷ [] in
    let l1 = back_of first (enter_front ++ (line ++ (one ++ last))) l in
    let l2 = back_of enter_front (line ++ (one ++ last)) l1 in
    let l3 = back_of line (one ++ last) l2 in
    let n0 = size_append first (enter_front ++ (line ++ (one ++ last))) in
    let n1 = size_append line (one ++ last) in
    let paid = fits.0 in
    let r1 = frame_comes c index f q at (front_of first (enter_front ++ (line ++ (one ++ last))) l)
    (λ b. (there b).0) in
    let r2 = front_comes (c + size_of first) f (reached r1) q at (front_of enter_front (line ++ (one ++ last)) l1)
    (reached_holds r1) in
    let r3 = asked_comes (c + size_of first + 3) f (reached r2) q at (front_of line (one ++ last) l2)
    (front_of one last l3) (reached_holds r2) in
    onward closed (reach_then r1 (reach_then r2 r3))
    (λ g there'.
    answer_ends (c + size_of first + 3 + size_of line + 1) f g q at (omega (arith, n0, n1, paid), fits.1)
    (back_of one last l3) there')

-- ---- the raise

pub deep_raise_ends :
    (k : Setting) (x : Standing) (more : ℕ) → IsRaisedAt false k x more → (code : ℕ) →
    (0 < code) × (code < 2 ^ 16) → (p : Point) (numbers : ℕ → ℕ) (credits wanted index : ℕ) (f : Family) →
    IsAmong k.block numbers p → Linked k.block.call.surroundings.links k.block.call.code index
    (A.raised x.unit.condition code) →
    credits + size_of (A.raised x.unit.condition code) + k.most ≤ cost k.block.call.code →
    AreIn k.block.call.surroundings p numbers index f →
    Comes k.block.call.code credits f (services_of p)
    (raise_aims k p numbers (index + size_of (A.raised x.unit.condition code)) wanted)
    (R.raised k.around x.unit.condition code k.block.call.surroundings.acts p.state)
unfolding R.raised ◌>>◌
deep_raise_ends k x more h n codes p numbers c wanted index f o l paid there =
    let w = k.block.call.surroundings in
    let code = k.block.call.code in
    let condition = x.unit.condition in
    let q = raised_at condition n p in
    let r : Raise = record { code = n; back = index + 4; height = h.by.height; point = q; numbers = numbers } in
    let aims = raise_aims k p numbers (index + 4) wanted in
    let closed' = behind_closed k p numbers (index + 4) wanted in
    let next' : Unit {0} → Meaning (Unit {0}) = λ u. behind_raise k.around condition n in
    let finding : Finding = record {
      surroundings = w;
      code = code;
      point = p;
      numbers = numbers;
      condition = condition;
      number = n;
      by = h.by;
      unit = unit_of x.unit;
      index = index;
      entry = x.entry;
    } in
    let forced = ap (λ as'. force as' condition) o.later.activations ∙ h.force in
    let size = standing_size x h.kind in
    let inside = h.stands.inside in
    let linked = l.inside in
    let small' = l.small' in
    let most = h.most in
    let is : IsFinding finding = record {
      stands = o.stands;
      image = o.image;
      routines = h.routines;
      acts = h.acts;
      small' = codes.1;
      force = forced;
      only = h.only;
      some = h.some;
      inside = omega (arith, size, inside);
      linked = l;
    } in
    comes_on w.acts (act (raising condition n) w.acts p.state) next'
    (raise_finds finding (before_closed w.acts next' closed') c f is (omega (arith, paid, most, size)) there
    (λ g less at.
    let o' = raised_among condition n o less in
    let i = o'.image in
    let premises : PremisesAt false w code (waiting_point finding) numbers (unit_beginning w x r) = record {
      stands = awaited_stands w q n (4 * (index + 4)) o'.stands;
      image = record { keeper = i.keeper; layout = i.layout; parts = i.parts; even = i.even };
      is = raise_begins k x more h r o' (refl, codes.0, omega (arith, linked, small'));
    } in
    subst (Comes code 19 g (services_of (waiting_point finding)) aims)
    (sym (deep_means k.around x.around condition x.unit.head x.unit.body more n w.acts h.by q.state h.enter h.around
    (subst (λ xs. nat_lt (length xs) most_activations ≡ false) (sym o.later.activations) h.shallow) forced))
    (deep_comes closed' 19 x.entry g premises (front_of (begin_of x) (behind_beginning x) h.stands)
    (omega (arith, size, most, paid), h.acts)
    (λ b. ((at b).0, record { parent = (at b).1.0; return = (at b).1.1 })))))

-- however the condition is called
pub deep_as :
    (c : Condition) (k : Setting) (x : Standing) (more : ℕ) → IsRaisedAt false k x more → x.unit.condition ≡ c →
    (code : ℕ) → (0 < code) × (code < 2 ^ 16) → (p : Point) (numbers : ℕ → ℕ) (credits wanted index : ℕ)
    (f : Family) → IsAmong k.block numbers p →
    Linked k.block.call.surroundings.links k.block.call.code index (A.raised c code) →
    credits + size_of (A.raised c code) + k.most ≤ cost k.block.call.code →
    AreIn k.block.call.surroundings p numbers index f →
    Comes k.block.call.code credits f (services_of p)
    (raise_aims k p numbers (index + size_of (A.raised c code)) wanted)
    (R.raised k.around c code k.block.call.surroundings.acts p.state)
deep_as c k x more h e code codes p numbers credits wanted index f o l paid there =
    subst (λ d. Linked k.block.call.surroundings.links k.block.call.code index (A.raised d code) →
    Comes k.block.call.code credits f (services_of p) (raise_aims k p numbers (index + 4) wanted)
    (R.raised k.around d code k.block.call.surroundings.acts p.state)) e
    (λ l'. deep_raise_ends k x more h code codes p numbers credits wanted index f o l' paid there) l

pub deep_overflow_ends :
    (k : Setting) (x : Standing) (more : ℕ) → IsRaisedAt false k x more → x.unit.condition ≡ C.FixedOverflow →
    OverflowComes k
deep_overflow_ends k x more h condition =
    overflow_by k
    (λ p numbers credits wanted index f o line l paid there.
    deep_as C.FixedOverflow k x more h condition fixed_overflow_code (omega arith, omega arith) p numbers credits wanted
    index f o l paid there)

pub deep_raises_end : DeepRaisesEnd
deep_raises_end = record { raise = deep_raise_ends; overflow = deep_overflow_ends }
