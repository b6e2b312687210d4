-- DO with a variable that starts once: the assignment, and then its list, with WHILE behind a test.
use Rattle.std.proofs.Common.{◌≡◌, ℕ, ◌+◌, ◌<◌, ◌≤◌, List, ◌++◌, Bool, None, Option, Some, refl, sym, ap, ◌∙◌, subst}
use Rattle.std.proofs.Common.{arith}
use Rattle.pli_typing.specs.TypedTree as Y
use Rattle.pli_meaning.specs.BasicValues.{BasicValue}
use Rattle.pli_meaning.specs.Control.{Ended, Flow, Jump, Label, Meaning, Normal, Paused, Return, Stuck, act, choose}
use Rattle.pli_meaning.specs.Control.{flow_on}
use Rattle.pli_meaning.specs.Control.{give, ◌>>=◌, ◌>>◌}
use Rattle.pli_meaning.specs.Evaluating as V
use Rattle.pli_meaning.specs.Executing as M
use Rattle.pli_meaning.specs.Raising.{at_line}
use Rattle.pli_meaning.specs.StorageState.{State}
use Rattle.pli_meaning.specs.World.{counted}
use Rattle.pli_coding.specs.Allocating.{act_code}
use Rattle.pli_coding.specs.Assembly.{Code, size_of}
use Rattle.pli_coding.specs.Expressions.{bit_code}
use Rattle.pli_coding.specs.Statements.{if_met, stmt_code, stmts_code}
use Rattle.pli_coding.specs.Storing.{assignment_code}
use Rattle.run_steps.specs.Owing.{owing}
use Rattle.run_steps.proofs.Jumps.{back_of, front_of, linked_at}
use Rattle.run_steps.proofs.Linking.{size_append}
use Rattle.run_steps.proofs.Owing.{comes_owing, owing_closed}
use Rattle.run_steps.specs.Reach.{Comes, Family, before}
use Rattle.run_steps.proofs.Reach.{before_closed, comes_on, onward, reach_map}
use Rattle.activation_relation.specs.Layers.{Point, services_of}
use Rattle.block_runs.specs.Machines.{AreIn, IsIn, acted}
use Rattle.block_runs.proofs.CallStatements.{comes_map}
use Rattle.block_runs.proofs.PointActs.{act_comes}
use Rattle.program_runs.specs.Statements.{Block, DoesWith, EachDoesWith, IsAmong, set_aside, size_with, statement_aims}
use Rattle.program_runs.proofs.JumpsOut.{jumps_repaid, jumps_since}
use Rattle.program_runs.proofs.Lists.{list_with}
use Rattle.program_runs.proofs.Statements.{acted_among, statement_closed}
use Rattle.expression_runs.specs.Assignments.{setting_around}
use Rattle.expression_runs.specs.Values.{behind}
use Rattle.test_runs.specs.Choices.{HasTestWith}
use Rattle.test_runs.specs.Tests.{Tests, bit_aims}
use Rattle.test_runs.proofs.Chosen.{chosen_does, met_size, none_owed, owed_from, past}
use Rattle.once_runs.specs.Onces.{IsOnce, Once, once_of, started, started_index, turn_index}

-- ---- its meaning is that of the assignment, and then of the rest

-- what is behind two steps is behind the second
abbrev pub then_on : {Q R S : Type 0} → (Q → Meaning R) → (R → Meaning S) → Q → Meaning S
then_on f g q k s = flow_on k (f q k s) g

pub flow_twice :
    {Q R S : Type 0} (k : ℕ) (flow : Flow Q) (f : Q → Meaning R) (g : R → Meaning S) →
    flow_on k (flow_on k flow f) g ≡ flow_on k flow (then_on f g)
flow_twice k (Normal q s) f g = refl
flow_twice k (Jump height label s) f g = refl
flow_twice k (Return v s) f g = refl
flow_twice k (Ended s) f g = refl
flow_twice k (Paused s) f g = refl
flow_twice k Stuck f g = refl

-- an act, a value and what is done with it
behind_value :
    {Q R : Type 0} (k : ℕ) (flow : Flow (Unit {0})) (value' : Meaning Q) (f : Q → Meaning (Unit {0}))
    (g : Unit {0} → Meaning R) →
    flow_on k (flow_on k flow (λ u k' s. flow_on k' (value' k' s) f)) g
    ≡ flow_on k flow (λ u k' s. flow_on k' (value' k' s) (then_on f g))
behind_value k (Normal q s) value' f g = flow_twice k (value' k s) f g
behind_value k (Jump height label s) value' f g = refl
behind_value k (Return v s) value' f g = refl
behind_value k (Ended s) value' f g = refl
behind_value k (Paused s) value' f g = refl
behind_value k Stuck value' f g = refl

-- what is done behind the assignment
abbrev rest_of : Block → (condition : Option Y.Bit) → Once → Unit {0} → Meaning (Unit {0})
rest_of k condition x u = M.once (at_line k.around x.line) condition (M.list k.around x.body)

once_means :
    (k : Block) (condition : Option Y.Bit) (x : Once) (acts : ℕ) (s : State) →
    flow_on acts (M.statement k.around (started x) acts s) (rest_of k condition x)
    ≡ M.statement k.around (once_of condition x) acts s
unfolding M.statement M.list ◌>>=◌ ◌>>◌
once_means k condition x acts s =
    behind_value acts (act counted acts s) (V.stored_value (at_line k.around x.line) x.start)
    (λ v. M.assigned (at_line k.around x.line) x.variable v) (rest_of k condition x)

-- ---- without a test

turns_left : (a b c d : ℕ) → a < b + c → c ≤ d → a < b + d
turns_left a b c d less more = omega (arith, less, more)

pub plain_once :
    (words : ℕ) (k : Block) (labels : List Label) (x : Once) (index left' : ℕ) → IsOnce words k x None index →
    DoesWith words k labels (started x) index left' →
    EachDoesWith words k (M.labels_in x.body ++ labels) x.body (turn_index words k x None index) left' →
    DoesWith words k labels (once_of None x) index left'
unfolding M.once
plain_once words k labels x index left' h does each p numbers c wanted f o paid there =
    let w = k.call.surroundings in
    let e = k.environment in
    let one = act_code x.line in
    let put = assignment_code e (set_aside words) x.variable x.start in
    let all = stmts_code e (set_aside words) x.body in
    let n0 = size_append one (put ++ all) in
    let n1 = size_append put all in
    let n2 = size_append one put in
    let acts = p.state.world.acts in
    let end = index + size_with words k (once_of None x) in
    let aims = statement_aims k labels acts end wanted left' in
    let closed = statement_closed k labels acts end wanted left' in
    let inner = statement_aims k labels acts (started_index words k x index) 0 left' in
    subst (Comes k.call.code c f (services_of p) aims) (once_means k None x w.acts p.state)
    (comes_on w.acts (M.statement k.around (started x) w.acts p.state) (rest_of k None x)
    (comes_map inner (before k.call.code aims w.acts (rest_of k None x)) refl
    (M.statement k.around (started x) w.acts p.state)
    (λ c' f' v' r s q.
    let since = q.since in
    let later = q.among.later.acts in
    let turns = h.turns in
    subst (λ u. Comes k.call.code c' f' v' aims (M.list k.around x.body w.acts u)) (sym q.state)
    (onward closed q.reach
    (λ g at.
    comes_map
    (statement_aims k labels q.point.state.world.acts (started_index words k x index + size_of all) wanted left') aims
    refl (M.list k.around x.body w.acts q.point.state)
    (λ c2 f2 v2 r2 s2 q2.
    let since2 = q2.since in
    record {
      point = q2.point;
      numbers = q2.numbers;
      among = q2.among;
      since = omega (arith, since, since2);
      state = q2.state;
      reach = reach_map _ q2.reach
          (λ b y u. subst (λ j. IsIn w q2.point q2.numbers j b y) (omega (arith, n0, n1, n2)) u);
    })
    (λ c2 f2 v2 height label s2 q2. jumps_since (omega (arith, since)) q2)
    (λ c2 f2 v2 r2 s2 q2. q2)
    (list_with words k labels x.body (started_index words k x index) left' q.point q.numbers 0 wanted g h.begun
    (turns_left _ _ _ _ turns later)
    each h.marks q.among
    (linked_at (started_index words k x index) all (omega (arith, n2))
    (back_of put all (back_of one (put ++ all) h.statement)))
    (omega arith, omega (arith, paid, n0, n1)) at))))
    (λ c' f' v' height label s q. q)
    (λ c' f' v' r s q. q)
    (does p numbers c 0 f o (omega (arith, paid, n0, n1, n2)) there)))

-- ---- with a test

pub tested_once :
    (words : ℕ) (k : Block) (labels : List Label) (x : Once) (condition : Y.Bit) (index left' need most : ℕ) →
    IsOnce words k x (Some condition) index →
    HasTestWith words k (once_of (Some condition) x) x.line index need most →
    DoesWith words k labels (started x) index left' →
    Tests (setting_around words k labels x.line most) need condition →
    EachDoesWith words k (M.labels_in x.body ++ labels) x.body (turn_index words k x (Some condition) index) left' →
    DoesWith words k labels (once_of (Some condition) x) index left'
unfolding M.once ◌>>=◌ ◌>>◌
tested_once words k labels x condition index left' need most h t does tests each p numbers c wanted f o paid there =
    let w = k.call.surroundings in
    let code = k.call.code in
    let e = k.environment in
    let around' = at_line k.around x.line in
    let some = Some condition in
    let one = act_code x.line in
    let put = assignment_code e (set_aside words) x.variable x.start in
    let test = bit_code e (set_aside words) condition in
    let all = stmts_code e (set_aside words) x.body in
    let chosen = if_met all in
    let once' = one ++ (test ++ chosen) in
    let n0 = size_append one (put ++ once') in
    let n1 = size_append put once' in
    let n2 = size_append one put in
    let n3 = size_append one (test ++ chosen) in
    let n4 = size_append test chosen in
    let n5 = met_size all in
    let second = started_index words k x index in
    let l = linked_at second once' (omega (arith, n2)) (back_of put once' (back_of one (put ++ once') h.statement)) in
    let l1 = back_of one (test ++ chosen) l in
    let lt = front_of test chosen l1 in
    let lc = back_of test chosen l1 in
    let debt = size_of test + (3 + size_of all) in
    let acts = p.state.world.acts in
    let end = index + size_with words k (once_of some x) in
    let aims = statement_aims k labels acts end wanted left' in
    let closed = statement_closed k labels acts end wanted left' in
    let inner = statement_aims k labels acts second 0 left' in
    let owed = owing code debt aims in
    let owed_closed = owing_closed code debt aims in
    let list' = M.list k.around x.body in
    let branch : Bool → Meaning (Unit {0}) = λ met. choose met list' (give tt) in
    let next' : Unit {0} → Meaning (Unit {0}) = λ u. (V.bit around' condition) >>= branch in
    let whole = t.paid in
    let room = t.registers in
    subst (Comes code c f (services_of p) aims) (once_means k some x w.acts p.state)
    (comes_on w.acts (M.statement k.around (started x) w.acts p.state) (rest_of k some x)
    (comes_map inner (before code aims w.acts (rest_of k some x)) refl (M.statement k.around (started x) w.acts p.state)
    (λ c' f' v' r s q.
    let since = q.since in
    let turns = h.turns in
    let p1 = q.point in
    subst (λ u. Comes code c' f' v' aims (rest_of k some x tt w.acts u)) (sym q.state)
    (onward closed q.reach
    (λ g0 at0.
    comes_owing debt (rest_of k some x tt w.acts p1.state)
    (comes_on w.acts (act counted w.acts p1.state) next'
    (act_comes (before_closed w.acts next' owed_closed) x.line (0 + debt) 0 g0 (q.among.stands, q.among.image)
    (t.act.line_fits, t.act.acts, omega (arith, paid, n0, n1, n3, n4, n5)) (front_of one (test ++ chosen) l) at0
    (λ g less at.
    let p' = acted x.line p1 in
    let o' = acted_among x.line q.among less in
    let y = behind p' q.numbers 0 0 (second + size_of one) test in
    comes_on w.acts (V.bit around' condition w.acts p'.state) branch
    (comes_map (bit_aims k labels y) (before code owed w.acts branch) refl (V.bit around' condition w.acts p'.state)
    (λ c2 f2 v2 met s2 q2.
    let since2 = q2.since in
    let later = q2.among.later.acts in
    subst (λ u. Comes code c2 f2 v2 owed (branch met w.acts u)) (sym q2.state)
    (onward owed_closed q2.reach
    (λ g2 at2.
    chosen_does k owed_closed q2.point q2.numbers (0 + size_of test) (second + size_of one + size_of test) g2 all met
    list' (give tt) q2.among lc at2
    (λ g3 at3.
    owed_from debt (omega (arith, since, since2)) (omega (arith, n0, n1, n2, n3, n4, n5)) (omega arith)
    (list_with words k labels x.body (turn_index words k x some index) left' q2.point q2.numbers (0 + size_of test + 3)
    (wanted + debt) g3 h.begun (turns_left _ _ _ _ turns later) each h.marks q2.among (back_of (past all) all lc)
    (omega arith, omega (arith, whole, n0, n1, n3, n4, n5)) at3))
    (λ g3 at3.
    none_owed k labels acts end wanted left' (0 + size_of test + (3 + size_of all)) debt g3 q2.point q2.numbers
    (omega (arith, since, since2)) (omega arith) q2.among
    (λ b. subst (λ i. IsIn w q2.point q2.numbers i b (g3 b)) (omega (arith, n0, n1, n2, n3, n4, n5)) (at3 b))))))
    (λ c2 f2 v2 height label s2 q2. λ i0 f0 v0 from. jumps_repaid debt from (jumps_since (omega (arith, since)) q2))
    (λ c2 f2 v2 r2 s2 q2. absurd q2)
    (tests p' q.numbers 0 0 (second + size_of one) g o' refl (omega (arith, room), t.held) lt
    (omega (arith, whole, n0, n1, n3, n4, n5)) at))))))))
    (λ c' f' v' height label s q. q)
    (λ c' f' v' r s q. q)
    (does p numbers c 0 f o (omega (arith, paid, n0, n1, n2, n3, n4, n5)) there)))
