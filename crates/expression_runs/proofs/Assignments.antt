-- An assignment: its act, its expression, and the store; the act pays for all of it.
use Rattle.std.proofs.Common.{◌≡◌, ℕ, ◌+◌, ◌^◌, ◌<◌, ◌≤◌, List, [], ◌++◌, true, refl, sym, ap, ◌∙◌, subst, arith}
use Rattle.std.specs.Prelude.{ℤ, cond, pos, ◌==◌}
use Rattle.rv_meaning.specs.declared.instr.StoreKind.TheVariants as Store
use Rattle.rv_meaning.specs.Machine.{value}
use Rattle.rv_meaning.specs.Memory.{store}
use Rattle.rv_meaning.specs.Words.{word}
use Rattle.pli_coding.specs.Registers.{a0}
use Rattle.pli_language.specs.declared.condition.Condition.TheVariants as C
use Rattle.pli_typing.specs.TypedTree as Y
use Rattle.pli_meaning.specs.BasicValues.{BasicNumber, BasicValue}
use Rattle.pli_meaning.specs.Control.{Label, Meaning, Normal, act, flow_on, give, ◌>>=◌, ◌>>◌}
use Rattle.pli_meaning.specs.Evaluating as V
use Rattle.pli_meaning.specs.Executing as M
use Rattle.pli_meaning.specs.Numbers.{Gives, Raises, checked, is_of_precision, wrapped}
use Rattle.pli_meaning.specs.Raising as R
use Rattle.pli_meaning.specs.Raising.{Around, at_line}
use Rattle.pli_meaning.specs.StorageState.{State}
use Rattle.pli_meaning.specs.World.{counted}
use Rattle.pli_serving.specs.ServiceState.{Services}
use Rattle.pli_coding.specs.Allocating.{act_code}
use Rattle.pli_coding.specs.Assembly.{Code, size_of}
use Rattle.pli_coding.specs.Expressions.{number_code}
use Rattle.pli_coding.specs.Statements.{stmt_code}
use Rattle.pli_coding.specs.Storing.{word_stored}
use Rattle.activation_relation.specs.Layers.{Point, services_of}
use Rattle.run_steps.specs.Engine.{Base}
use Rattle.run_steps.specs.Items.{At, Linked}
use Rattle.run_steps.specs.Bodies.{Known}
use Rattle.run_steps.proofs.Jumps.{back_of, front_of, linked_at}
use Rattle.run_steps.proofs.Linking.{size_append}
use Rattle.run_steps.specs.Owing.{owing}
use Rattle.run_steps.proofs.Owing.{comes_owing, done_owing, owing_closed, repaid}
use Rattle.run_steps.specs.Reach.{Aims, Comes, Family, Reach, before}
use Rattle.run_steps.proofs.Reach.{before_closed, comes_on, onward, reach_map}
use Rattle.run_steps.proofs.Reaching.{write_based}
use Rattle.run_steps.specs.Temporaries.{nothing}
use Rattle.block_runs.specs.Machines.{IsIn, acted}
use Rattle.block_runs.proofs.CallStatements.{comes_map}
use Rattle.block_runs.proofs.PointActs.{act_comes}
use Rattle.block_runs.proofs.PointGrounds.{StandsIn, in_known, point_frame, point_ground}
use Rattle.program_runs.specs.Statements.{Block, Does, DoesWith, IsAmong, IsBegun, set_aside, size_with}
use Rattle.program_runs.specs.Statements.{statement_aims}
use Rattle.program_runs.proofs.JumpsOut.{jumps_repaid, jumps_since}
use Rattle.program_runs.proofs.Statements.{acted_among, goes_here, statement_closed}
use Rattle.expression_runs.specs.Assignments.{IsAssignment, IsAssignmentWith, assignment, setting_around}
use Rattle.expression_runs.specs.Assignments.{setting_of}
use Rattle.expression_runs.specs.Laws as L
use Rattle.expression_runs.specs.Values.{HasWord, Stretch, behind, number_aims}
use Rattle.expression_runs.specs.Variables.{IsNumber, Spot, number_place, whole}
use Rattle.expression_runs.proofs.AssignedPoints.{Assigning, assigned_among, behind_assigned, services_same}
use Rattle.expression_runs.proofs.AssignedPoints.{stands_assigned}
use Rattle.expression_runs.proofs.VariableCode.{stored_is, stores}
use Rattle.expression_runs.proofs.VariableMeaning.{assigned_is}
use Rattle.expression_runs.proofs.VariablePoints.{NumberAt, first_base, number_at, place_at, reaches_by}
use Rattle.expression_runs.proofs.Words.{known_word}

-- ---- the store

abbrev assigning : {k : Block} {x : Spot} {is : IsNumber k x} {p : Point} → NumberAt k x is p → (z : ℤ) →
    is_of_precision 31 z ≡ true → Assigning p
assigning n z wide =
    record {
      serial = n.holds.serial;
      values = n.holds.values;
      living = n.holds.living;
      lives = n.holds.lives;
      generation = n.holds.generation;
      z = z;
      wide = wide;
    }

-- a number in a0 is stored: from there to the point behind
store_reaches :
    (k : Block) (x : Spot) (is : IsNumber k x) {numbers : ℕ → ℕ} {p : Point} {index : ℕ} → IsBegun k →
    IsAmong k numbers p → (c : ℕ) (f : Family) (z : ℤ) (wide : is_of_precision 31 z ≡ true) (n : NumberAt k x is p) →
    Linked k.call.surroundings.links k.call.code index (stores k.environment x) →
    ((b : Base) → IsIn k.call.surroundings p numbers index b (f b) × (value (f b).machine a0 ≡ word z)) →
    Reach k.call.code c f (services_of p) (c + size_of (stores k.environment x))
    (services_of (behind_assigned p (assigning n z wide)))
    (λ b y. IsIn k.call.surroundings (behind_assigned p (assigning n z wide)) numbers
    (index + size_of (stores k.environment x)) b y)
store_reaches k x is {numbers} {p} {index} begun o c f z wide n l there =
    let w = k.call.surroundings in
    let e = k.environment in
    let a = assigning n z wide in
    let q = behind_assigned p a in
    let h = point_frame o.stands o.image in
    let g' = point_ground w q h in
    let inside = is.inside in
    let base = first_base in
    let even = (n.tells (f base).machine.memory (there base).0.at.storage).1 in
    let r = write_based (x.level == e.level) x.level g' {t = λ j. 0} c f is.base Store.Word (pos (number_place e x))
    (is.base + number_place e x) (word z) (reaches_by x.level is.base h begun o is.frame) (omega (arith, inside))
    (place_at k x is even) (λ b. refl)
    (λ b m bytes stands. subst (λ j. StandsIn w q b (store 4 m j (word z))) n.here
    (stands_assigned w p a b m o.stands stands)) l (λ b. known_word k h (there b)) in
    subst (λ v. Reach k.call.code c f (services_of p) (c + size_of (stores e x)) v
    (λ b y. IsIn w q numbers (index + size_of (stores e x)) b y)) (sym (services_same p a))
    (reach_map _ r (λ b y s.
    in_known {t = λ j. 0} {rs = nothing} h o.image.parts
    (record {
      pc = s.pc;
      holds = record {
        body = record {
          services = s.holds.body.services ∙ sym (services_same p a);
          registers = s.holds.body.registers;
          bytes = s.holds.body.bytes;
          memory = s.holds.body.memory;
        };
        regs = s.holds.regs;
      };
    })))

-- ---- the value

-- a number of 31 bits needs no other check
pub fit_is :
    (around : Around) (z : ℤ) (acts : ℕ) (s : State) → is_of_precision 31 z ≡ true →
    ((R.value_of around (checked 31 z)) >>= (λ z'. give (BasicNumber z'))) acts s ≡ Normal (BasicNumber z) s
unfolding R.value_of give ◌>>=◌
fit_is around z acts s wide =
    ap (λ q. flow_on acts (R.value_of around (cond q (Gives z) (Raises C.FixedOverflow 20 (wrapped 31 z))) acts s)
    (λ z'. give (BasicNumber z'))) wide

-- ---- the statement

abbrev put_in : Block → Spot → (line : ℕ) → BasicValue → Meaning (Unit {0})
put_in k x line v = M.assigned (at_line k.around line) (whole x) v

-- the value goes to the variable, and the act has paid for it
stored_goes :
    (words : ℕ) (k : Block) (labels : List Label) (x : Spot) (source : Y.Number) (line index left' need most : ℕ)
    (h : IsAssignmentWith words k x source line index need most) (acts wanted debt size i : ℕ) (c' : ℕ) (f' : Family)
    (v' : Services) (z : ℤ) (s : State) (y : Stretch) → acts ≤ y.acts → is_of_precision 31 z ≡ true →
    HasWord k y (word z) c' f' v' s → y.wanted + size_of (stores k.environment x) ≤ wanted + debt →
    y.index + size_of (stores k.environment x) ≡ i →
    Linked k.call.surroundings.links k.call.code y.index (stores k.environment x) →
    Comes k.call.code c' f' v' (owing k.call.code debt (statement_aims k labels acts i wanted left'))
    (put_in k x line (BasicNumber z) k.call.surroundings.acts s)
stored_goes words k labels x source line index left' need most h acts wanted debt size i c' f' v' z s y since wide q
    paid end l =
    let w = k.call.surroundings in
    let code = k.call.code in
    let aims = statement_aims k labels acts i wanted left' in
    let p = q.point in
    let more = q.since in
    let around' = at_line k.around line in
    subst (λ u. Comes code c' f' v' (owing code debt aims) (put_in k x line (BasicNumber z) w.acts u)) (sym q.state)
    (onward (owing_closed code debt aims) q.reach
    (λ g at.
    let n = number_at x h.number h.begun q.among g (λ b. (at b).0) in
    let a = assigning n z wide in
    let r = store_reaches k x h.number h.begun q.among y.wanted g z wide n l at in
    subst (λ flow. Comes code y.wanted g (services_of p) (owing code debt aims) flow)
    (sym (assigned_is around' w.acts z n.holds))
    (record {
      to = λ early.
          done_owing (statement_closed k labels acts i wanted left') debt wanted paid r tt (behind_assigned p a).state
          (λ g' at'. goes_here acts wanted g' (omega (arith, since, more)) (assigned_among a q.among)
          (λ b. subst (λ j. IsIn w (behind_assigned p a) q.numbers j b (g' b)) end (at' b)));
    })))

pub assign_with :
    (words : ℕ) (k : Block) (labels : List Label) (x : Spot) (source : Y.Number) (line index left' need most : ℕ) →
    IsAssignmentWith words k x source line index need most → L.Does (setting_around words k labels line most) need
    source → DoesWith words k labels (assignment x source line) index left'
unfolding M.statement V.stored_value ◌>>=◌ ◌>>◌
assign_with words k labels x source line index left' need most h ev p numbers c wanted f o paid there =
    let w = k.call.surroundings in
    let code = k.call.code in
    let e = k.environment in
    let stmt = assignment x source line in
    let around' = at_line k.around line in
    let one = act_code line in
    let value' = number_code e (set_aside words) source in
    let store' = word_stored e (set_aside words) (whole x) in
    let coded = stored_is e (set_aside words) x h.number.initial h.number.declared in
    let n0 = size_append one ((value' ++ []) ++ store') in
    let n1 = size_append (value' ++ []) store' in
    let n2 = size_append value' [] in
    let n3 = ap (λ u. size_of u) coded in
    let l = h.statement in
    let l1 = back_of one ((value' ++ []) ++ store') l in
    let lv = front_of value' [] (front_of (value' ++ []) store' l1) in
    let ls = subst (Linked w.links code (index + size_of one + size_of (value' ++ []))) coded
    (back_of (value' ++ []) store' l1) in
    let debt = size_of value' + size_of store' in
    let acts = p.state.world.acts in
    let aims = statement_aims k labels acts (index + size_with words k stmt) wanted left' in
    let owed = owing code debt aims in
    let closed = owing_closed code debt aims in
    let source' = V.stored_value around' (Y.StoredNumber 31 source) in
    let next' : Unit {0} → Meaning (Unit {0}) = λ u. source' >>= (λ v. put_in k x line v) in
    let fit : ℤ → Meaning BasicValue =
    λ z. (R.value_of around' (checked 31 z)) >>= (λ z'. give (BasicNumber z')) in
    let all = h.paid in
    comes_owing debt (M.statement k.around stmt w.acts p.state)
    (comes_on w.acts (act counted w.acts p.state) next'
    (act_comes (before_closed w.acts next' closed) line (c + debt) 0 f (o.stands, o.image)
    (h.act.line_fits, h.act.acts, omega (arith, paid, n0, n1, n2)) (front_of one ((value' ++ []) ++ store') l) there
    (λ g less at.
    let p' = acted line p in
    let o' = acted_among line o less in
    let flow = V.number around' source w.acts p'.state in
    let y = behind p' numbers 0 0 (index + size_of one) value' in
    comes_on w.acts (source' w.acts p'.state) (λ v. put_in k x line v)
    (comes_on w.acts flow fit
    (comes_map (number_aims k labels y)
    (before code (before code owed w.acts (λ v. put_in k x line v)) w.acts fit) refl flow
    (λ c' f' v' z s q.
    subst (Comes code c' f' v' (before code owed w.acts (λ v. put_in k x line v)))
    (sym (fit_is around' z w.acts s q.0))
    (record {
      to = λ early. stored_goes words k labels x source line index left' need most h acts wanted debt 0
          (index + size_with words k stmt) c' f'
          v' z s y (omega arith) q.0 q.1 (omega (arith, n2, n3)) (omega (arith, n0, n1, n2, n3))
          (linked_at (index + size_of one + size_of value') (stores e x) (omega (arith, n2)) ls);
    }))
    (λ c' f' v' height label s q.
    λ i0 f0 v0 from. jumps_repaid debt from (jumps_since (omega arith) q))
    (λ c' f' v' r s q. absurd q)
    (ev p' numbers 0 0 (index + size_of one) g o' refl (let room = h.registers in omega (arith, room), h.held) lv
    (omega (arith, all, n0, n1, n2)) at))))))

-- where no words are set aside
pub assign_does :
    (k : Block) (labels : List Label) (x : Spot) (source : Y.Number) (line index left' need most : ℕ) →
    IsAssignment k x source line index need most → L.Does (setting_of k labels line most) need source →
    Does k labels (assignment x source line) index left'
assign_does k labels x source line index left' need most h ev =
    assign_with 0 k labels x source line index left' need most h ev
