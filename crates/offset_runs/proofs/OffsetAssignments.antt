-- An assignment to an OFFSET variable: its act, its value, and the store; the act pays for all of it.
use Rattle.std.proofs.Common.{◌≡◌, ℕ, ◌+◌, ◌≤◌, List, ◌++◌, Option, refl, sym, ap, ◌∙◌, subst, arith}
use Rattle.std.specs.Prelude.{pos, ◌==◌}
use Rattle.rv_meaning.specs.declared.instr.StoreKind.TheVariants as Store
use Rattle.rv_meaning.specs.Machine.{value}
use Rattle.pli_typing.specs.TypedTree as Y
use Rattle.pli_meaning.specs.BasicValues.{BasicOffset, BasicValue}
use Rattle.pli_meaning.specs.Control.{Label, Meaning, act, give, ◌>>=◌, ◌>>◌}
use Rattle.pli_meaning.specs.Evaluating as V
use Rattle.pli_meaning.specs.Executing as M
use Rattle.pli_meaning.specs.Raising.{at_line}
use Rattle.pli_meaning.specs.StorageState.{State}
use Rattle.pli_meaning.specs.World.{counted}
use Rattle.pli_serving.specs.Bytes.{offset_word}
use Rattle.pli_serving.specs.ServiceState.{Services}
use Rattle.pli_coding.specs.Allocating.{act_code}
use Rattle.pli_coding.specs.Assembly.{size_of}
use Rattle.pli_coding.specs.Expressions.{offset_code}
use Rattle.pli_coding.specs.Registers.{a0}
use Rattle.pli_coding.specs.Storing.{word_stored}
use Rattle.storage_relation.specs.Telling.{IsOffset}
use Rattle.activation_relation.specs.Layers.{Point, services_of}
use Rattle.run_steps.specs.Engine.{Base}
use Rattle.run_steps.specs.Items.{Linked}
use Rattle.run_steps.proofs.Jumps.{back_of, front_of}
use Rattle.run_steps.proofs.Linking.{size_append}
use Rattle.run_steps.specs.Owing.{owing}
use Rattle.run_steps.proofs.Owing.{comes_owing, done_owing, owing_closed}
use Rattle.run_steps.specs.Reach.{Comes, Family, Reach, before}
use Rattle.run_steps.proofs.Reach.{before_closed, comes_on, onward, reach_map}
use Rattle.run_steps.proofs.Reaching.{write_based}
use Rattle.run_steps.specs.Temporaries.{nothing}
use Rattle.block_runs.specs.Machines.{IsIn, acted}
use Rattle.block_runs.proofs.CallStatements.{comes_map}
use Rattle.block_runs.proofs.PointActs.{act_comes}
use Rattle.block_runs.proofs.PointGrounds.{in_known, point_frame, point_ground}
use Rattle.program_runs.specs.Statements.{Block, DoesWith, IsAmong, IsBegun, set_aside, size_with, statement_aims}
use Rattle.program_runs.proofs.JumpsOut.{jumps_repaid, jumps_since}
use Rattle.program_runs.proofs.Statements.{acted_among, goes_here, statement_closed}
use Rattle.expression_runs.specs.Assignments.{setting_around}
use Rattle.expression_runs.specs.Values.{HasWord, Stretch, behind}
use Rattle.expression_runs.specs.Variables.{Spot, number_place, whole}
use Rattle.expression_runs.proofs.VariablePoints.{reaches_by}
use Rattle.expression_runs.proofs.Words.{known_word}
use Rattle.scalar_runs.specs.Assignments.{IsPlacedWith}
use Rattle.scalar_runs.proofs.ScalarCode.{stores}
use Rattle.scalar_runs.proofs.ScalarPoints.{at_of, place_at, room_at}
use Rattle.offset_runs.specs.OffsetAssignments.{assignment}
use Rattle.offset_runs.specs.Offsets.{Gives, IsOffsetVariable, offset_aims}
use Rattle.offset_runs.proofs.AssignedPoints.{assigned_among, behind_assigned, services_same, stands_assigned}
use Rattle.offset_runs.proofs.OffsetCode.{offset_stored}
use Rattle.offset_runs.proofs.OffsetMeaning.{assigned_is}
use Rattle.offset_runs.proofs.OffsetPoints.{OffsetAt, offset_at}

-- ---- the store

-- a word in a0 is stored: from there to the point behind
store_reaches :
    {k : Block} {x : Spot} {area : Option Y.Variable} (is : IsOffsetVariable k x area) {numbers : ℕ → ℕ} {p : Point}
    {index : ℕ} → IsBegun k → IsAmong k numbers p → (c : ℕ) (f : Family) (v : Option ℕ) → IsOffset v →
    (n : OffsetAt is p) →
    Linked k.call.surroundings.links k.call.code index (stores Store.Word k.environment x) →
    ((b : Base) → IsIn k.call.surroundings p numbers index b (f b) × (value (f b).machine a0 ≡ offset_word v)) →
    Reach k.call.code c f (services_of p) (c + size_of (stores Store.Word k.environment x))
    (services_of (behind_assigned n v))
    (λ b y. IsIn k.call.surroundings (behind_assigned n v) numbers
    (index + size_of (stores Store.Word k.environment x)) b y)
store_reaches {k} {x} is {numbers} {p} {index} begun o c f v fits n l there =
    let w = k.call.surroundings in
    let e = k.environment in
    let q = behind_assigned n v in
    let h = point_frame o.stands o.image in
    let g' = point_ground w q h in
    let inside = room_at is in
    let r = write_based (x.level == e.level) x.level g' {t = λ j. 0} c f is.known.base Store.Word
    (pos (number_place e x)) (at_of is) (offset_word v) (reaches_by x.level is.known.base h begun o is.known.frame)
    (omega (arith, inside)) (place_at is n.even) (λ b. refl)
    (λ b m bytes stands. stands_assigned w n v b m fits bytes o.stands stands) l
    (λ b. known_word k h (there b)) in
    subst (λ u. Reach k.call.code c f (services_of p) (c + size_of (stores Store.Word e x)) u
    (λ b y. IsIn w q numbers (index + size_of (stores Store.Word e x)) b y)) (sym (services_same n v))
    (reach_map _ r (λ b y s.
    in_known {t = λ j. 0} {rs = nothing} h o.image.parts
    (record {
      pc = s.pc;
      holds = record {
        body = record {
          services = s.holds.body.services ∙ sym (services_same n v);
          registers = s.holds.body.registers;
          bytes = s.holds.body.bytes;
          memory = s.holds.body.memory;
        };
        regs = s.holds.regs;
      };
    })))

-- ---- the statement

abbrev put_in : Block → Spot → (line : ℕ) → BasicValue → Meaning (Unit {0})
put_in k x line v = M.assigned (at_line k.around line) (whole x) v

-- the value goes to the variable, and the act has paid for it
stored_goes :
    (k : Block) (labels : List Label) (x : Spot) (area : Option Y.Variable) (line left' : ℕ) → IsBegun k →
    (is : IsOffsetVariable k x area) → (acts wanted debt i c' : ℕ) (f' : Family) (v' : Services)
    (v : Option ℕ) (s : State) (y : Stretch) → acts ≤ y.acts → IsOffset v → HasWord k y (offset_word v) c' f' v' s →
    y.wanted + size_of (stores Store.Word k.environment x) ≤ wanted + debt →
    y.index + size_of (stores Store.Word k.environment x) ≡ i →
    Linked k.call.surroundings.links k.call.code y.index (stores Store.Word k.environment x) →
    Comes k.call.code c' f' v' (owing k.call.code debt (statement_aims k labels acts i wanted left'))
    (put_in k x line (BasicOffset v) k.call.surroundings.acts s)
stored_goes k labels x area line left' begun is acts wanted debt i c' f' v' v s y since fits q paid end l =
    let w = k.call.surroundings in
    let code = k.call.code in
    let aims = statement_aims k labels acts i wanted left' in
    let p = q.point in
    let more = q.since in
    let around' = at_line k.around line in
    subst (λ u. Comes code c' f' v' (owing code debt aims) (put_in k x line (BasicOffset v) w.acts u)) (sym q.state)
    (onward (owing_closed code debt aims) q.reach
    (λ g at.
    let n = offset_at is begun q.among g (λ b. (at b).0) in
    let r = store_reaches is begun q.among y.wanted g v fits n l at in
    subst (λ flow. Comes code y.wanted g (services_of p) (owing code debt aims) flow)
    (sym (assigned_is around' w.acts v n.holds))
    (record {
      to = λ early.
          done_owing (statement_closed k labels acts i wanted left') debt wanted paid r tt (behind_assigned n v).state
          (λ g' at'. goes_here acts wanted g' (omega (arith, since, more)) (assigned_among n v q.among)
          (λ b. subst (λ j. IsIn w (behind_assigned n v) q.numbers j b (g' b)) end (at' b)));
    })))

pub assign_does :
    (words : ℕ) (k : Block) (labels : List Label) (x : Spot) (area : Option Y.Variable) (source : Y.Offset)
    (line index left' need most : ℕ) → IsPlacedWith words k (assignment x source line) line index need most →
    IsOffsetVariable k x area → Gives (setting_around words k labels line most) need source →
    DoesWith words k labels (assignment x source line) index left'
unfolding M.statement V.stored_value ◌>>=◌ ◌>>◌ give
assign_does words k labels x area source line index left' need most h is ev p numbers c wanted f o paid there =
    let w = k.call.surroundings in
    let code = k.call.code in
    let e = k.environment in
    let stmt = assignment x source line in
    let around' = at_line k.around line in
    let one = act_code line in
    let value' = offset_code e (set_aside words) source in
    let store' = word_stored e (set_aside words) (whole x) in
    let written = offset_stored e (set_aside words) x area is.initial is.known.declared in
    let n0 = size_append one (value' ++ store') in
    let n1 = size_append value' store' in
    let n2 = ap (λ u. size_of u) written in
    let l1 = back_of one (value' ++ store') h.statement in
    let ls = subst (Linked w.links code (index + size_of one + size_of value')) written (back_of value' store' l1) in
    let debt = size_of value' + size_of store' in
    let acts = p.state.world.acts in
    let aims = statement_aims k labels acts (index + size_with words k stmt) wanted left' in
    let owed = owing code debt aims in
    let closed = owing_closed code debt aims in
    let source' = V.stored_value around' (Y.StoredOffset source) in
    let put' : BasicValue → Meaning (Unit {0}) = λ v. put_in k x line v in
    let kept' : Option ℕ → Meaning BasicValue = λ u. give (BasicOffset u) in
    let next' : Unit {0} → Meaning (Unit {0}) = λ u. source' >>= put' in
    let all = h.paid in
    comes_owing debt (M.statement k.around stmt w.acts p.state)
    (comes_on w.acts (act counted w.acts p.state) next'
    (act_comes (before_closed w.acts next' closed) line (c + debt) 0 f (o.stands, o.image)
    (h.act.line_fits, h.act.acts, omega (arith, paid, n0, n1)) (front_of one (value' ++ store') h.statement) there
    (λ g less at.
    let p' = acted line p in
    let o' = acted_among line o less in
    let y = behind p' numbers 0 0 (index + size_of one) value' in
    let flow = V.offset around' source w.acts p'.state in
    comes_on w.acts (source' w.acts p'.state) put'
    (comes_on w.acts flow kept'
    (comes_map (offset_aims k labels y) (before code (before code owed w.acts put') w.acts kept') refl flow
    (λ c' f' v' u s q.
    record {
      to = λ early.
          stored_goes k labels x area line left' h.begun is acts wanted debt (index + size_with words k stmt) c' f' v'
          u s y (omega arith) q.0 q.1 (omega (arith, n2)) (omega (arith, n0, n1, n2)) ls;
    })
    (λ c' f' v' height label s q.
    λ i0 f0 v0 from. jumps_repaid debt from (jumps_since (omega arith) q))
    (λ c' f' v' r s q. absurd q)
    (ev p' numbers 0 0 (index + size_of one) g o' refl (let room = h.registers in omega (arith, room), h.held)
    (front_of value' store' l1) (omega (arith, all, n0, n1)) at))))))
