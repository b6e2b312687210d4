-- An assignment to a scalar: its act, its value, and the store; the act pays for all of it.
use Rattle.std.proofs.Common.{◌≡◌, ℕ, ◌+◌, ◌≤◌, List, [], ◌++◌, Bool, true, refl, sym, ap, ◌∙◌, subst, arith}
use Rattle.std.specs.Prelude.{ℤ, pos, ◌==◌}
use Rattle.rv_meaning.specs.Machine.{value}
use Rattle.pli_typing.specs.TypedTree as Y
use Rattle.pli_typing.specs.Signatures.{Bit, Fixed}
use Rattle.pli_meaning.specs.BasicValues.{BasicBit, BasicNumber, BasicOffset, BasicPointer, BasicText, BasicValue}
use Rattle.pli_meaning.specs.Control.{Ended, Flow, Jump, Label, Meaning, Normal, Paused, Return, Stuck, act, flow_on, give}
use Rattle.pli_meaning.specs.Control.{◌>>=◌, ◌>>◌}
use Rattle.pli_meaning.specs.Evaluating as V
use Rattle.pli_meaning.specs.Executing as M
use Rattle.pli_meaning.specs.Numbers.{checked, is_of_precision}
use Rattle.pli_meaning.specs.Raising as R
use Rattle.pli_meaning.specs.Raising.{at_line}
use Rattle.pli_meaning.specs.StorageState.{State}
use Rattle.pli_meaning.specs.World.{counted}
use Rattle.pli_serving.specs.ServiceState.{Services}
use Rattle.pli_coding.specs.Allocating.{act_code}
use Rattle.pli_coding.specs.Assembly.{size_of}
use Rattle.pli_coding.specs.Expressions.{stored_code}
use Rattle.pli_coding.specs.Registers.{a0}
use Rattle.pli_coding.specs.Statements.{stmt_code}
use Rattle.pli_coding.specs.Storing.{word_stored}
use Rattle.storage_relation.specs.Telling.{IsOf}
use Rattle.activation_relation.specs.Layers.{Point, services_of}
use Rattle.run_steps.specs.Engine.{Base}
use Rattle.run_steps.specs.Items.{Linked}
use Rattle.run_steps.proofs.Jumps.{back_of, front_of}
use Rattle.run_steps.proofs.Linking.{size_append}
use Rattle.run_steps.specs.Owing.{owing}
use Rattle.run_steps.proofs.Owing.{comes_owing, done_owing, owing_closed}
use Rattle.run_steps.specs.Reach.{Comes, Family, Reach, before}
use Rattle.run_steps.proofs.Reach.{before_closed, comes_on, onward, reach_map}
use Rattle.run_steps.proofs.Reaching.{write_based}
use Rattle.run_steps.specs.Temporaries.{nothing}
use Rattle.block_runs.specs.Machines.{IsIn, acted}
use Rattle.block_runs.proofs.CallStatements.{comes_map}
use Rattle.block_runs.proofs.PointActs.{act_comes}
use Rattle.block_runs.proofs.PointGrounds.{in_known, point_frame, point_ground}
use Rattle.program_runs.specs.Statements.{Block, DoesWith, IsAmong, IsBegun, set_aside, size_with, statement_aims}
use Rattle.program_runs.proofs.JumpsOut.{jumps_repaid, jumps_since}
use Rattle.program_runs.proofs.Statements.{acted_among, goes_here, statement_closed}
use Rattle.pli_headline.proofs.Scalars.{IsNumeric, store_kind}
use Rattle.expression_runs.specs.Assignments.{setting_around}
use Rattle.expression_runs.specs.Values.{HasWord, Setting, Stretch, behind, in_registers}
use Rattle.expression_runs.specs.Variables.{Spot, number_place, whole}
use Rattle.expression_runs.proofs.VariablePoints.{first_base, reaches_by}
use Rattle.expression_runs.proofs.Words.{known_word}
use Rattle.test_runs.specs.Tests.{Tests, bit_aims}
use Rattle.test_runs.proofs.Operands.{Leaves, value_aims}
use Rattle.scalar_runs.specs.Assignments.{IsPlacedWith, bit_assignment, number_assignment}
use Rattle.scalar_runs.specs.Fitted.{Fits, fitted, fitted_aims}
use Rattle.scalar_runs.specs.Scalars.{IsBit, IsFixed, IsScalar}
use Rattle.scalar_runs.proofs.AssignedScalars.{assigned_among, behind_assigned, services_same, stands_assigned}
use Rattle.scalar_runs.proofs.ScalarCode.{stored_is, stores}
use Rattle.scalar_runs.proofs.ScalarMeaning.{assigned_is}
use Rattle.scalar_runs.proofs.ScalarPoints.{ScalarAt, at_of, place_at, room_at, scalar_at}
use Rattle.scalar_runs.proofs.ScalarWords.{kind_for, kind_worded, word_in}

-- ---- the store

-- a value in a0 is stored: from there to the point behind
store_reaches :
    {k : Block} {x : Spot} {type : Y.LeafType} (is : IsScalar k x type) {numbers : ℕ → ℕ} {p : Point} {index : ℕ} →
    IsNumeric type → IsBegun k → IsAmong k numbers p → (c : ℕ) (f : Family) (v : BasicValue) →
    IsOf (kind_for type) v → (n : ScalarAt is p) →
    Linked k.call.surroundings.links k.call.code index (stores (store_kind type) k.environment x) →
    ((b : Base) → IsIn k.call.surroundings p numbers index b (f b) × (value (f b).machine a0 ≡ word_in v)) →
    Reach k.call.code c f (services_of p) (c + size_of (stores (store_kind type) k.environment x))
    (services_of (behind_assigned n v))
    (λ b y. IsIn k.call.surroundings (behind_assigned n v) numbers
    (index + size_of (stores (store_kind type) k.environment x)) b y)
store_reaches {k} {x} {type} is {numbers} {p} {index} numeric begun o c f v of n l there =
    let w = k.call.surroundings in
    let e = k.environment in
    let kind = store_kind type in
    let q = behind_assigned n v in
    let h = point_frame o.stands o.image in
    let g' = point_ground w q h in
    let inside = room_at is in
    let even = (n.tells (f first_base).machine.memory (there first_base).0.at.storage).1 in
    let r = write_based (x.level == e.level) x.level g' {t = λ j. 0} c f is.known.base kind (pos (number_place e x))
    (at_of is) (word_in v) (reaches_by x.level is.known.base h begun o is.known.frame) (omega (arith, inside))
    (place_at is even) (λ b. refl)
    (λ b m bytes stands. stands_assigned w n v b m numeric of bytes o.stands stands) l
    (λ b. known_word k h (there b)) in
    subst (λ u. Reach k.call.code c f (services_of p) (c + size_of (stores kind e x)) u
    (λ b y. IsIn w q numbers (index + size_of (stores kind e x)) b y)) (sym (services_same n v))
    (reach_map _ r (λ b y s.
    in_known {t = λ j. 0} {rs = nothing} h o.image.parts
    (record {
      pc = s.pc;
      holds = record {
        body = record {
          services = s.holds.body.services ∙ sym (services_same n v);
          registers = s.holds.body.registers;
          bytes = s.holds.body.bytes;
          memory = s.holds.body.memory;
        };
        regs = s.holds.regs;
      };
    })))

-- ---- the statement

abbrev put_in : Block → Spot → (line : ℕ) → BasicValue → Meaning (Unit {0})
put_in k x line v = M.assigned (at_line k.around line) (whole x) v

-- the value goes to the variable, and the act has paid for it
stored_goes :
    (k : Block) (labels : List Label) (x : Spot) (type : Y.LeafType) (line left' : ℕ) → IsBegun k →
    (is : IsScalar k x type) → IsNumeric type → (acts wanted debt i c' : ℕ) (f' : Family) (v' : Services)
    (v : BasicValue) (s : State) (y : Stretch) → acts ≤ y.acts →
    ((p : Point) → ScalarAt is p → IsOf (kind_for type) v) →
    HasWord k y (word_in v) c' f' v' s →
    y.wanted + size_of (stores (store_kind type) k.environment x) ≤ wanted + debt →
    y.index + size_of (stores (store_kind type) k.environment x) ≡ i →
    Linked k.call.surroundings.links k.call.code y.index (stores (store_kind type) k.environment x) →
    Comes k.call.code c' f' v' (owing k.call.code debt (statement_aims k labels acts i wanted left'))
    (put_in k x line v k.call.surroundings.acts s)
stored_goes k labels x type line left' begun is numeric acts wanted debt i c' f' v' v s y since of q paid end l =
    let w = k.call.surroundings in
    let code = k.call.code in
    let aims = statement_aims k labels acts i wanted left' in
    let p = q.point in
    let more = q.since in
    let around' = at_line k.around line in
    subst (λ u. Comes code c' f' v' (owing code debt aims) (put_in k x line v w.acts u)) (sym q.state)
    (onward (owing_closed code debt aims) q.reach
    (λ g at.
    let n = scalar_at is numeric begun q.among g (λ b. (at b).0) in
    let r = store_reaches is numeric begun q.among y.wanted g v (of p n) n l at in
    subst (λ flow. Comes code y.wanted g (services_of p) (owing code debt aims) flow)
    (sym (assigned_is around' w.acts v (kind_worded type numeric) n.holds))
    (record {
      to = λ early.
          done_owing (statement_closed k labels acts i wanted left') debt wanted paid r tt (behind_assigned n v).state
          (λ g' at'. goes_here acts wanted g' (omega (arith, since, more)) (assigned_among n v q.among)
          (λ b. subst (λ j. IsIn w (behind_assigned n v) q.numbers j b (g' b)) end (at' b)));
    })))

abbrev assignment : Spot → Y.Stored → (line : ℕ) → Y.Stmt
assignment x source line = Y.Assign (whole x) source line

-- its code: the act, the value, and the store
abbrev IsCoded : (words : ℕ) → Block → Spot → Y.Stored → (line : ℕ) → Type 0
IsCoded words k x source line =
    stmt_code k.environment (set_aside words) (assignment x source line)
    ≡ act_code line
    ++ (stored_code k.environment (set_aside words) source ++ word_stored k.environment (set_aside words) (whole x))

assign_by :
    (words : ℕ) (k : Block) (labels : List Label) (x : Spot) (type : Y.LeafType) (source : Y.Stored)
    (line index left' need most : ℕ) → IsPlacedWith words k (assignment x source line) line index need most →
    (is : IsScalar k x type) → IsNumeric type → (fits : BasicValue → Type 0) →
    ((v : BasicValue) → fits v → (p : Point) → ScalarAt is p → IsOf (kind_for type) v) →
    IsCoded words k x source line →
    Leaves word_in fits (setting_around words k labels line most) need (λ t. stored_code k.environment t source)
    (V.stored_value (at_line k.around line) source) → DoesWith words k labels (assignment x source line) index left'
unfolding M.statement ◌>>=◌ ◌>>◌
assign_by words k labels x type source line index left' need most h is numeric fits kept coded ev p numbers c wanted f o
    paid there =
    let w = k.call.surroundings in
    let code = k.call.code in
    let e = k.environment in
    let stmt = assignment x source line in
    let around' = at_line k.around line in
    let one = act_code line in
    let value' = stored_code e (set_aside words) source in
    let store' = word_stored e (set_aside words) (whole x) in
    let written = stored_is e (set_aside words) x type is.initial numeric is.known.declared in
    let n0 = ap (λ u. size_of u) coded ∙ size_append one (value' ++ store') in
    let n1 = size_append value' store' in
    let n2 = ap (λ u. size_of u) written in
    let l = subst (Linked w.links code index) coded h.statement in
    let l1 = back_of one (value' ++ store') l in
    let ls = subst (Linked w.links code (index + size_of one + size_of value')) written (back_of value' store' l1) in
    let debt = size_of value' + size_of store' in
    let acts = p.state.world.acts in
    let aims = statement_aims k labels acts (index + size_with words k stmt) wanted left' in
    let owed = owing code debt aims in
    let closed = owing_closed code debt aims in
    let meant = V.stored_value around' source in
    let put' : BasicValue → Meaning (Unit {0}) = λ v. put_in k x line v in
    let next' : Unit {0} → Meaning (Unit {0}) = λ u. meant >>= put' in
    let all = h.paid in
    comes_owing debt (M.statement k.around stmt w.acts p.state)
    (comes_on w.acts (act counted w.acts p.state) next'
    (act_comes (before_closed w.acts next' closed) line (c + debt) 0 f (o.stands, o.image)
    (h.act.line_fits, h.act.acts, omega (arith, paid, n0, n1)) (front_of one (value' ++ store') l) there
    (λ g less at.
    let p' = acted line p in
    let o' = acted_among line o less in
    let y = behind p' numbers 0 0 (index + size_of one) value' in
    comes_on w.acts (meant w.acts p'.state) put'
    (comes_map (value_aims word_in fits k labels y) (before code owed w.acts put') refl (meant w.acts p'.state)
    (λ c' f' v' v s q.
    stored_goes k labels x type line left' h.begun is numeric acts wanted debt (index + size_with words k stmt) c' f' v'
    v s y (omega arith) (kept v q.0) q.1 (omega (arith, n2)) (omega (arith, n0, n1, n2)) ls)
    (λ c' f' v' height label s q.
    λ i0 f0 v0 from. jumps_repaid debt from (jumps_since (omega arith) q))
    (λ c' f' v' r s q. absurd q)
    (ev p' numbers 0 0 (index + size_of one) g o' refl (let room = h.registers in omega (arith, room), h.held)
    (front_of value' store' l1) (omega (arith, all, n0, n1)) at)))))

-- ---- numbers

abbrev IsNumberOf : (precision : ℕ) → BasicValue → Type 0
IsNumberOf precision v = (z : ℤ) × (v ≡ BasicNumber z) × (is_of_precision precision z ≡ true)

of_numbers :
    (precision : ℕ) (old v : BasicValue) → IsOf (Fixed precision) old → IsNumberOf precision v →
    IsOf (Fixed precision) v
of_numbers precision old v is new =
    let few : precision ≤ 31 = fewest old is in
    subst (IsOf (Fixed precision)) (sym new.1) (few, new.2)
  where
    fewest : (u : BasicValue) → IsOf (Fixed precision) u → precision ≤ 31
    fewest (BasicNumber z) is = is.0
    fewest (BasicText t) is = absurd is
    fewest (BasicBit b) is = absurd is
    fewest (BasicPointer n) is = absurd is
    fewest (BasicOffset o) is = absurd is

-- its test belongs to the value
then_given :
    (flow : Flow ℤ) (next' : ℤ → Meaning ℤ) (k : ℕ) →
    flow_on k (flow_on k flow next') (λ z. give (BasicNumber z))
    ≡ flow_on k flow (λ z. (next' z) >>= (λ z'. give (BasicNumber z')))
unfolding ◌>>=◌
then_given (Normal z s) next' k = refl
then_given (Jump height label s) next' k = refl
then_given (Return v s) next' k = refl
then_given (Ended s) next' k = refl
then_given (Paused s) next' k = refl
then_given Stuck next' k = refl

number_leaves :
    (k : Setting) (need precision : ℕ) (x : Y.Number) → Fits k need precision x →
    Leaves word_in (IsNumberOf precision) k need
    (λ t. stored_code k.block.environment t (Y.StoredNumber precision x))
    (V.stored_value k.around (Y.StoredNumber precision x))
unfolding V.stored_value ◌>>=◌ give
number_leaves k need precision x does p numbers taken c index f o line registers l paid there =
    let w = k.block.call.surroundings in
    let code = k.block.call.code in
    let t = in_registers k.words taken in
    let y = behind p numbers taken c index (stored_code k.block.environment t (Y.StoredNumber precision x)) in
    let goal = value_aims word_in (IsNumberOf precision) k.block k.labels y in
    let flow = fitted k.around precision x w.acts p.state in
    let last : ℤ → Meaning BasicValue = λ z. give (BasicNumber z) in
    subst (λ u. Comes code c f (services_of p) goal u)
    (then_given (V.number k.around x w.acts p.state) (λ z. R.value_of k.around (checked precision z)) w.acts)
    (comes_on w.acts flow last
    (comes_map (fitted_aims k.block k.labels precision y) (before code goal w.acts last) refl flow
    (λ c' f' v' z s q. record { to = λ early. ((z, refl, q.0), q.1) })
    (λ c' f' v' height label s q. q)
    (λ c' f' v' u s q. absurd q)
    (does p numbers taken c index f o line registers l paid there)))

pub number_assigned :
    (words : ℕ) (k : Block) (labels : List Label) (x : Spot) (precision : ℕ) (source : Y.Number)
    (line index left' need most : ℕ) →
    IsPlacedWith words k (number_assignment x precision source line) line index need most → IsFixed k x precision →
    Fits (setting_around words k labels line most) need precision source →
    DoesWith words k labels (number_assignment x precision source line) index left'
number_assigned words k labels x precision source line index left' need most h is does =
    assign_by words k labels x (Y.FixedLeaf precision) (Y.StoredNumber precision source) line index left' need most h is
    tt (IsNumberOf precision) (λ v new p n. of_numbers precision (n.holds.values 0 []) v n.fits new) refl
    (number_leaves (setting_around words k labels line most) need precision source does)

-- ---- bits

abbrev IsBitValue : BasicValue → Type 0
IsBitValue v = (b : Bool) × (v ≡ BasicBit b)

bit_leaves :
    (k : Setting) (need : ℕ) (x : Y.Bit) → Tests k need x →
    Leaves word_in IsBitValue k need (λ t. stored_code k.block.environment t (Y.StoredBit x))
    (V.stored_value k.around (Y.StoredBit x))
unfolding V.stored_value ◌>>=◌ give
bit_leaves k need x does p numbers taken c index f o line registers l paid there =
    let w = k.block.call.surroundings in
    let code = k.block.call.code in
    let t = in_registers k.words taken in
    let y = behind p numbers taken c index (stored_code k.block.environment t (Y.StoredBit x)) in
    let goal = value_aims word_in IsBitValue k.block k.labels y in
    let flow = V.bit k.around x w.acts p.state in
    let last : Bool → Meaning BasicValue = λ b. give (BasicBit b) in
    comes_on w.acts flow last
    (comes_map (bit_aims k.block k.labels y) (before code goal w.acts last) refl flow
    (λ c' f' v' b s q. record { to = λ early. ((b, refl), q) })
    (λ c' f' v' height label s q. q)
    (λ c' f' v' u s q. absurd q)
    (does p numbers taken c index f o line registers l paid there))

pub bit_assigned :
    (words : ℕ) (k : Block) (labels : List Label) (x : Spot) (source : Y.Bit) (line index left' need most : ℕ) →
    IsPlacedWith words k (bit_assignment x source line) line index need most → IsBit k x →
    Tests (setting_around words k labels line most) need source →
    DoesWith words k labels (bit_assignment x source line) index left'
bit_assigned words k labels x source line index left' need most h is does =
    assign_by words k labels x Y.BitLeaf (Y.StoredBit source) line index left' need most h is tt IsBitValue
    (λ v new p n. subst (IsOf Bit) (sym new.1) tt) refl
    (bit_leaves (setting_around words k labels line most) need source does)
