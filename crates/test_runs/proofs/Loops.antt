-- DO WHILE: each turn makes an act, so the turns that the meaning allows are enough.
use Rattle.std.proofs.Common.{ℕ, zero, suc, ◌+◌, ◌<◌, ◌≤◌, List, [], ◌∷◌, ◌++◌, Bool, refl, sym, subst, arith}
use Rattle.pli_typing.specs.TypedTree as Y
use Rattle.pli_meaning.specs.Control.{Label, Meaning, act, choose, give, repeated_while, stuck, ◌>>=◌, ◌>>◌}
use Rattle.pli_meaning.specs.Evaluating as V
use Rattle.pli_meaning.specs.Executing as M
use Rattle.pli_meaning.specs.Raising.{at_line}
use Rattle.pli_meaning.specs.World.{counted}
use Rattle.pli_coding.specs.Allocating.{act_code}
use Rattle.pli_coding.specs.Assembly.{Code, JumpBack, size_of}
use Rattle.pli_coding.specs.Expressions.{bit_code}
use Rattle.pli_coding.specs.Statements.{if_met, stmts_code, while_met}
use Rattle.activation_relation.specs.Layers.{Point, services_of}
use Rattle.run_steps.specs.Owing.{owing}
use Rattle.run_steps.proofs.Jumps.{back_of, front_of, linked_at}
use Rattle.run_steps.proofs.Linking.{size_append}
use Rattle.run_steps.proofs.Owing.{comes_owing, owing_closed}
use Rattle.run_steps.specs.Reach.{Comes, Family, before, cost}
use Rattle.run_steps.proofs.Reach.{before_closed, comes_on, onward}
use Rattle.run_steps.specs.Temporaries.{nothing}
use Rattle.block_runs.specs.Machines.{AreIn, IsIn, acted}
use Rattle.block_runs.proofs.CallStatements.{comes_map}
use Rattle.block_runs.proofs.PointActs.{act_comes}
use Rattle.block_runs.proofs.PointGrounds.{in_known, known_in, point_frame}
use Rattle.pli_headline.proofs.Loops.{back_piece}
use Rattle.program_runs.specs.Statements.{Block, Does, DoesWith, EachDoes, EachDoesWith, IsAmong, set_aside}
use Rattle.program_runs.specs.Statements.{size_with, statement_aims}
use Rattle.program_runs.proofs.JumpsOut.{jumps_repaid, jumps_since, returns_repaid}
use Rattle.program_runs.proofs.Lists.{list_with}
use Rattle.program_runs.proofs.Statements.{acted_among}
use Rattle.expression_runs.specs.Assignments.{setting_around, setting_of}
use Rattle.expression_runs.specs.Values.{behind}
use Rattle.test_runs.specs.Choices.{HasTest, HasTestWith, IsInner, IsInnerWith, body_index, body_index_with}
use Rattle.test_runs.specs.Tests.{Tests, bit_aims}
use Rattle.test_runs.proofs.Chosen.{chosen_does, met_size, none_owed, past}

-- ---- the turns

abbrev test_code : (words : ℕ) → Block → Y.Bit → (line : ℕ) → Code
test_code words k condition line = act_code line ++ bit_code k.environment (set_aside words) condition

abbrev loop_code : (words : ℕ) → Block → Y.Bit → Y.Stmts → (line : ℕ) → Code
loop_code words k condition body line =
    while_met (test_code words k condition line) (stmts_code k.environment (set_aside words) body)

turns_do :
    (turns words : ℕ) (k : Block) (labels : List Label) (condition : Y.Bit) (body : Y.Stmts)
    (line index left' need most : ℕ) → HasTestWith words k (Y.DoWhile condition body line) line index need most →
    Tests (setting_around words k labels line most) need condition → IsInnerWith words k body
    (body_index_with words k condition line index) →
    EachDoesWith words k (M.labels_in body ++ labels) body (body_index_with words k condition line index) left' →
    (p : Point) (numbers : ℕ → ℕ) (acts c wanted : ℕ) (f : Family) → IsAmong k numbers p →
    acts ≤ p.state.world.acts → k.call.surroundings.acts < turns + p.state.world.acts →
    c + size_of (act_code line) ≤ cost k.call.code →
    AreIn k.call.surroundings p numbers (index + size_of (act_code line)) f →
    Comes k.call.code c f (services_of p)
    (owing k.call.code (size_of (loop_code words k condition body line))
    (statement_aims k labels acts (index + size_with words k (Y.DoWhile condition body line)) wanted left'))
    (repeated_while turns (M.met_after_act (at_line k.around line) condition) (M.list k.around body)
    k.call.surroundings.acts p.state)
unfolding repeated_while M.met_after_act ◌>>=◌ ◌>>◌ stuck
turns_do zero words k labels condition body line index left' need most h tests is each p numbers acts c wanted f o since
    few paid there =
    let allowed = o.stands.allowed in
    absurd (omega (arith, allowed, few))
turns_do (suc turns) words k labels condition body line index left' need most h tests is each p numbers acts c wanted f
    o since few paid there =
    let w = k.call.surroundings in
    let code = k.call.code in
    let e = k.environment in
    let stmt = Y.DoWhile condition body line in
    let around' = at_line k.around line in
    let one = act_code line in
    let bit' = bit_code e (set_aside words) condition in
    let test = one ++ bit' in
    let part = stmts_code e (set_aside words) body in
    let back = size_of test + (3 + size_of part) in
    let jump = JumpBack back ∷ [] in
    let met' = part ++ jump in
    let all' = loop_code words k condition body line in
    let n0 = size_append one all' in
    let n1 = size_append test (if_met met') in
    let n2 = met_size met' in
    let n3 = size_append part jump in
    let n4 = size_append one bit' in
    let i = index + size_of one in
    let l = back_of one all' h.statement in
    let lt = front_of test (if_met met') l in
    let lb = back_of one bit' lt in
    let lc = linked_at (i + size_of one + size_of bit') (if_met met') (omega (arith, n4))
    (back_of test (if_met met') l) in
    let lm = back_of (past met') met' lc in
    let lj = back_of part jump lm in
    let debt = size_of all' in
    let end = index + size_with words k stmt in
    let aims = statement_aims k labels acts end wanted left' in
    let owed = owing code debt aims in
    let closed = owing_closed code debt aims in
    let again : Meaning (Unit {0}) = repeated_while turns (M.met_after_act around' condition) (M.list k.around body) in
    let branch : Bool → Meaning (Unit {0}) = λ met. choose met ((M.list k.around body) >> again) (give tt) in
    let tested : Unit {0} → Meaning Bool = λ u. V.bit around' condition in
    let all = h.paid in
    let room = h.registers in
    let most' = is.turns in
    let later = o.later.acts in
    comes_on w.acts (M.met_after_act around' condition w.acts p.state) branch
    (comes_on w.acts (act counted w.acts p.state) tested
    (act_comes (before_closed w.acts tested (before_closed w.acts branch closed)) line c 0 f (o.stands, o.image)
    (h.act.line_fits, h.act.acts, paid) (front_of one bit' lt) there
    (λ g less at.
    let p' = acted line p in
    let o' = acted_among line o less in
    let y = behind p' numbers 0 0 (i + size_of one) bit' in
    comes_map (bit_aims k labels y) (before code owed w.acts branch) refl (V.bit around' condition w.acts p'.state)
    (λ c' f' v' met s q.
    let since1 = q.since in
    let p1 = q.point in
    let c1 = 0 + size_of bit' in
    subst (λ u. Comes code c' f' v' owed (branch met w.acts u)) (sym q.state)
    (onward closed q.reach
    (λ g2 at2.
    chosen_does k closed p1 q.numbers c1 (i + size_of one + size_of bit') g2 met' met
    ((M.list k.around body) >> again) (give tt) q.among lc at2
    (λ g3 at3.
    let c3 = c1 + 3 in
    let jb = i + size_of one + size_of bit' + 3 in
    comes_on w.acts (M.list k.around body w.acts p1.state) (λ u. again)
    (comes_map (statement_aims k labels p1.state.world.acts (jb + size_of part) c3 left')
    (before code owed w.acts (λ u. again)) refl (M.list k.around body w.acts p1.state)
    (λ c4 f4 v4 r s4 q4.
    let since4 = q4.since in
    let h4 = point_frame q4.among.stands q4.among.image in
    subst (λ u. Comes code c4 f4 v4 owed (again w.acts u)) (sym q4.state)
    (onward closed q4.reach
    (λ g5 at5.
    onward closed
    (back_piece {t = λ j. 0} {rs = nothing} c3 g5 back i (omega (arith, n4))
    (record { reserved_stay = λ y u. refl; known_stay = λ b y u t. t; set = λ y u. refl }) lj
    (λ b. known_in h4 (at5 b) tt))
    (λ g6 at6.
    turns_do turns words k labels condition body line index left' need most h tests is each q4.point q4.numbers acts
    (c3 + 2) wanted g6 q4.among (omega (arith, since, since1, since4)) (omega (arith, few, since1, since4))
    (omega (arith, all, n0, n1, n2, n3, n4))
    (λ b. in_known h4 q4.among.image.parts (at6 b))))))
    (λ c4 f4 v4 height label s4 q4.
    λ i0 f0 v0 from. jumps_repaid debt from (jumps_since (omega (arith, since, since1)) q4))
    (λ c4 f4 v4 r s4 q4. λ i0 f0 v0 from. returns_repaid debt from q4)
    (list_with words k labels body jb left' p1 q.numbers c3 c3 g3 is.begun (omega (arith, most', later, since1)) each
    is.marked q.among (front_of part jump lm) (omega arith, omega (arith, all, n0, n1, n2, n3, n4)) at3)))
    (λ g3 at3.
    none_owed k labels acts end wanted left' (c1 + (3 + size_of met')) debt g3 p1 q.numbers
    (omega (arith, since, since1)) (omega (arith, n1, n2, n4)) q.among
    (λ b. subst (λ j. IsIn w p1 q.numbers j b (g3 b)) (omega (arith, n0, n1, n2, n4)) (at3 b))))))
    (λ c' f' v' height label s q. λ i0 f0 v0 from. jumps_repaid debt from (jumps_since (omega (arith, since)) q))
    (λ c' f' v' r s q. absurd q)
    (tests p' numbers 0 0 (i + size_of one) g o' refl (omega (arith, room), h.held) lb
    (omega (arith, all, n0, n1, n4)) at))))

-- ---- DO WHILE

pub loop_with :
    (words : ℕ) (k : Block) (labels : List Label) (condition : Y.Bit) (body : Y.Stmts) (line index left' need most : ℕ)
    → HasTestWith words k (Y.DoWhile condition body line) line index need most →
    Tests (setting_around words k labels line most) need condition → IsInnerWith words k body
    (body_index_with words k condition line index) →
    EachDoesWith words k (M.labels_in body ++ labels) body (body_index_with words k condition line index) left' →
    DoesWith words k labels (Y.DoWhile condition body line) index left'
unfolding M.statement M.list ◌>>◌
loop_with words k labels condition body line index left' need most h tests is each p numbers c wanted f o paid there =
    let w = k.call.surroundings in
    let code = k.call.code in
    let stmt = Y.DoWhile condition body line in
    let one = act_code line in
    let all' = loop_code words k condition body line in
    let n0 = size_append one all' in
    let debt = size_of all' in
    let acts = p.state.world.acts in
    let aims = statement_aims k labels acts (index + size_with words k stmt) wanted left' in
    let closed = owing_closed code debt aims in
    let next' : Unit {0} → Meaning (Unit {0}) =
    λ u. repeated_while k.around.turns (M.met_after_act (at_line k.around line) condition) (M.list k.around body) in
    let few = is.turns in
    let later = o.later.acts in
    let all = h.paid in
    comes_owing debt (M.statement k.around stmt w.acts p.state)
    (comes_on w.acts (act counted w.acts p.state) next'
    (act_comes (before_closed w.acts next' closed) line (c + debt) 0 f (o.stands, o.image)
    (h.act.line_fits, h.act.acts, omega (arith, paid, n0)) (front_of one all' h.statement) there
    (λ g less at.
    turns_do k.around.turns words k labels condition body line index left' need most h tests is each
    (acted line p) numbers
    acts 0 wanted g (acted_among line o less) (omega arith) (omega (arith, few, later)) (omega (arith, all, n0)) at)))

-- where no words are set aside
pub loop_does :
    (k : Block) (labels : List Label) (condition : Y.Bit) (body : Y.Stmts) (line index left' need most : ℕ) →
    HasTest k (Y.DoWhile condition body line) line index need most →
    Tests (setting_of k labels line most) need condition → IsInner k body (body_index k condition line index) →
    EachDoes k (M.labels_in body ++ labels) body (body_index k condition line index) left' →
    Does k labels (Y.DoWhile condition body line) index left'
loop_does k labels condition body line index left' need most h tests is each =
    loop_with 0 k labels condition body line index left' need most h tests is each
