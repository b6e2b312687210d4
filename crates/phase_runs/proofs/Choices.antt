-- IF, with and without ELSE, through phases: what is chosen may change the units.
use Rattle.std.proofs.Common.{ℕ, ◌+◌, List, [], ◌∷◌, ◌++◌, Bool, refl, sym, subst, arith}
use Rattle.pli_typing.specs.TypedTree as Y
use Rattle.pli_meaning.specs.Control.{Label, Meaning, act, choose, give, ◌>>=◌, ◌>>◌}
use Rattle.pli_meaning.specs.Evaluating as V
use Rattle.pli_meaning.specs.Executing as M
use Rattle.pli_meaning.specs.Raising.{at_line}
use Rattle.pli_meaning.specs.World.{counted}
use Rattle.pli_coding.specs.Allocating.{act_code}
use Rattle.pli_coding.specs.Assembly.{JumpAhead, size_of}
use Rattle.pli_coding.specs.Expressions.{bit_code}
use Rattle.pli_coding.specs.Statements.{if_met, one_of, stmt_code}
use Rattle.activation_relation.specs.Layers.{Point}
use Rattle.run_steps.specs.Owing.{owing}
use Rattle.run_steps.proofs.Jumps.{ahead_piece, back_of, front_of}
use Rattle.run_steps.proofs.Linking.{size_append}
use Rattle.run_steps.proofs.Owing.{comes_owing, done_owing, owing_closed}
use Rattle.run_steps.specs.Reach.{Aims, Comes, before, reached}
use Rattle.run_steps.proofs.Reach.{before_closed, comes_on, onward, reach_then, reached_holds}
use Rattle.run_steps.specs.Temporaries.{nothing}
use Rattle.block_runs.specs.Machines.{IsIn, acted, limits_of}
use Rattle.block_runs.proofs.CallStatements.{comes_map}
use Rattle.block_runs.proofs.PointActs.{act_comes}
use Rattle.block_runs.proofs.PointGrounds.{in_known, known_in, point_frame}
use Rattle.program_runs.specs.Statements.{Block, set_aside, size_with, statement_aims}
use Rattle.program_runs.proofs.JumpsOut.{jumps_repaid, jumps_since, returns_repaid}
use Rattle.program_runs.proofs.Statements.{acted_among, goes_here, statement_closed}
use Rattle.expression_runs.specs.Values.{behind}
use Rattle.test_runs.specs.Choices.{HasTestWith, behind_act, behind_choice_with, behind_test_with}
use Rattle.test_runs.specs.Tests.{bit_aims}
use Rattle.test_runs.proofs.Chosen.{chosen_does, met_size, none_owed, past}
use Rattle.phase_runs.specs.Forms.{AllTest}
use Rattle.phase_runs.specs.Phases.{DoesThrough, Phases, in_phase, phase_aims}
use Rattle.phase_runs.proofs.Aims.{owed_some, owing_in}

pub met_through :
    (words : ℕ) (k : Block) (ps : Phases) (labels : List Label) (condition : Y.Bit) (unit : Y.Stmt)
    (line index left' need most : ℕ) → HasTestWith words k (Y.If condition unit line) line index need most →
    AllTest words k ps labels line most need condition →
    DoesThrough words k ps labels unit (behind_test_with words k condition (behind_act line index)) left' →
    DoesThrough words k ps labels (Y.If condition unit line) index left'
unfolding M.statement ◌>>=◌ ◌>>◌
met_through words k ps labels condition unit line index left' need most h tests does first is p numbers c wanted f o
    paid there =
    let w = k.call.surroundings in
    let code = k.call.code in
    let e = k.environment in
    let k' = in_phase k first in
    let stmt = Y.If condition unit line in
    let around' = at_line k.around line in
    let one = act_code line in
    let test = bit_code e (set_aside words) condition in
    let part = stmt_code e (set_aside words) unit in
    let n0 = size_append one (test ++ if_met part) in
    let n1 = size_append test (if_met part) in
    let n2 = met_size part in
    let l = h.statement in
    let l1 = back_of one (test ++ if_met part) l in
    let lt = front_of test (if_met part) l1 in
    let lc = back_of test (if_met part) l1 in
    let debt = size_of test + (3 + size_of part) in
    let acts = p.state.world.acts in
    let end = index + size_with words k stmt in
    let aims = phase_aims k ps labels acts end wanted left' in
    let each : Point → Aims (Unit {0}) = λ q. statement_aims (in_phase k q) labels acts end wanted left' in
    let owed = owing code debt aims in
    let closed = owing_closed code debt aims in
    let branch : Bool → Meaning (Unit {0}) = λ met. choose met (M.statement k.around unit) (give tt) in
    let next' : Unit {0} → Meaning (Unit {0}) = λ u. (V.bit around' condition) >>= branch in
    let all = h.paid in
    let room = h.registers in
    comes_owing debt (M.statement k.around stmt w.acts p.state)
    (comes_on w.acts (act counted w.acts p.state) next'
    (act_comes (before_closed w.acts next' closed) line (c + debt) 0 f (o.stands, o.image)
    (h.act.line_fits, h.act.acts, omega (arith, paid, n0, n1, n2)) (front_of one (test ++ if_met part) l) there
    (λ g less at.
    let p' = acted line p in
    let o' = acted_among line o less in
    let y = behind p' numbers 0 0 (index + size_of one) test in
    comes_on w.acts (V.bit around' condition w.acts p'.state) branch
    (comes_map (bit_aims k' labels y) (before code owed w.acts branch) refl (V.bit around' condition w.acts p'.state)
    (λ c' f' v' met s q.
    let since = q.since in
    subst (λ u. Comes code c' f' v' owed (branch met w.acts u)) (sym q.state)
    (onward closed q.reach
    (λ g2 at2.
    chosen_does k' closed q.point q.numbers (0 + size_of test) (index + size_of one + size_of test) g2 part met
    (M.statement k.around unit) (give tt) q.among lc at2
    (λ g3 at3.
    owed_some k ps debt (omega (arith, since)) (omega (arith, n0, n1, n2)) (omega arith)
    (does first is q.point q.numbers (0 + size_of test + 3) wanted g3 q.among (omega (arith, paid, n0, n1, n2)) at3))
    (λ g3 at3.
    owing_in debt (limits_of w) ps each first is refl (give tt w.acts q.point.state)
    (none_owed k' labels acts end wanted left' (0 + size_of test + (3 + size_of part)) debt g3 q.point q.numbers
    (omega (arith, since)) (omega arith) q.among
    (λ b. subst (λ i. IsIn w q.point q.numbers i b (g3 b)) (omega (arith, n0, n1, n2)) (at3 b)))))))
    (λ c' f' v' height label s q. λ i0 f0 v0 from.
    record { first = first; is = is; holds = jumps_repaid debt from (jumps_since (omega arith) q) })
    (λ c' f' v' r s q. absurd q)
    (tests first is p' numbers 0 0 (index + size_of one) g o' refl (omega (arith, room), h.held) lt
    (omega (arith, all, n0, n1, n2)) at)))))

pub one_of_through :
    (words : ℕ) (k : Block) (ps : Phases) (labels : List Label) (condition : Y.Bit) (unit otherwise : Y.Stmt)
    (line index left' need most : ℕ) →
    HasTestWith words k (Y.IfElse condition unit otherwise line) line index need most →
    AllTest words k ps labels line most need condition →
    DoesThrough words k ps labels unit (behind_test_with words k condition (behind_act line index)) left' →
    DoesThrough words k ps labels otherwise (behind_choice_with words k unit (behind_test_with words k condition
    (behind_act line index))) left' →
    DoesThrough words k ps labels (Y.IfElse condition unit otherwise line) index left'
unfolding M.statement ◌>>=◌ ◌>>◌
one_of_through words k ps labels condition unit otherwise line index left' need most h tests does other first is p
    numbers c wanted f o paid there =
    let w = k.call.surroundings in
    let code = k.call.code in
    let e = k.environment in
    let k' = in_phase k first in
    let stmt = Y.IfElse condition unit otherwise line in
    let around' = at_line k.around line in
    let one = act_code line in
    let test = bit_code e (set_aside words) condition in
    let first' = stmt_code e (set_aside words) unit in
    let second = stmt_code e (set_aside words) otherwise in
    let jump = JumpAhead (size_of second) ∷ [] in
    let part = first' ++ jump in
    let both = one_of first' second in
    let n0 = size_append one (test ++ both) in
    let n1 = size_append test both in
    let n2 = size_append (if_met part) second in
    let n3 = met_size part in
    let n4 = size_append first' jump in
    let l = h.statement in
    let inside = l.inside in
    let l1 = back_of one (test ++ both) l in
    let lt = front_of test both l1 in
    let l2 = back_of test both l1 in
    let lc = front_of (if_met part) second l2 in
    let lj = back_of first' jump (back_of (past part) part lc) in
    let debt = size_of test + (3 + size_of part + size_of second) in
    let acts = p.state.world.acts in
    let end = index + size_with words k stmt in
    let aims = phase_aims k ps labels acts end wanted left' in
    let owed = owing code debt aims in
    let closed = owing_closed code debt aims in
    let branch : Bool → Meaning (Unit {0}) =
    λ met. choose met (M.statement k.around unit) (M.statement k.around otherwise) in
    let next' : Unit {0} → Meaning (Unit {0}) = λ u. (V.bit around' condition) >>= branch in
    let all = h.paid in
    let room = h.registers in
    comes_owing debt (M.statement k.around stmt w.acts p.state)
    (comes_on w.acts (act counted w.acts p.state) next'
    (act_comes (before_closed w.acts next' closed) line (c + debt) 0 f (o.stands, o.image)
    (h.act.line_fits, h.act.acts, omega (arith, paid, n0, n1, n2, n3)) (front_of one (test ++ both) l) there
    (λ g less at.
    let p' = acted line p in
    let o' = acted_among line o less in
    let y = behind p' numbers 0 0 (index + size_of one) test in
    comes_on w.acts (V.bit around' condition w.acts p'.state) branch
    (comes_map (bit_aims k' labels y) (before code owed w.acts branch) refl (V.bit around' condition w.acts p'.state)
    (λ c' f' v' met s q.
    let since = q.since in
    subst (λ u. Comes code c' f' v' owed (branch met w.acts u)) (sym q.state)
    (onward closed q.reach
    (λ g2 at2.
    chosen_does k' closed q.point q.numbers (0 + size_of test) (index + size_of one + size_of test) g2 part met
    (M.statement k.around unit) (M.statement k.around otherwise) q.among lc at2
    (λ g3 at3.
    comes_map
    (phase_aims k ps labels q.point.state.world.acts
    (behind_test_with words k condition (behind_act line index) + size_with words k unit) 0 left') owed refl
    (M.statement k.around unit w.acts q.point.state)
    (λ c3 f3 v3 r s3 t.
    λ i0 f0 v0 from.
    let q3 = t.holds in
    let each = statement_aims (in_phase k t.first) labels acts end wanted left' in
    let since3 = q3.since in
    let h3 = point_frame q3.among.stands q3.among.image in
    record {
      first = t.first;
      is = t.is;
      holds = subst (λ u. (owing code debt each).done c3 f3 v3 r u) (sym q3.state)
          (done_owing (statement_closed (in_phase k t.first) labels acts end wanted left') debt wanted
          (omega (arith, n4))
          (reach_then q3.reach
          (ahead_piece {t = λ j. 0} {rs = nothing} 0 (reached q3.reach) (size_of second)
          (omega (arith, inside, n0, n1, n2, n3, n4))
          (record { reserved_stay = λ y u. refl; known_stay = λ b y u t. t; set = λ y u. refl }) lj
          (λ b. known_in h3 (reached_holds q3.reach b) tt)))
          r q3.point.state
          (λ g4 at4. goes_here acts wanted g4 (omega (arith, since, since3)) q3.among
          (λ b. subst (λ i. IsIn w q3.point q3.numbers i b (g4 b)) (omega (arith, n0, n1, n2, n3, n4))
          (in_known h3 q3.among.image.parts (at4 b)))))
          i0 f0 v0 from;
    })
    (λ c3 f3 v3 height label s3 q3. λ i0 f0 v0 from.
    record {
      first = q3.first;
      is = q3.is;
      holds = jumps_repaid debt from (jumps_since (omega (arith, since)) q3.holds);
    })
    (λ c3 f3 v3 r s3 q3. λ i0 f0 v0 from.
    record { first = q3.first; is = q3.is; holds = returns_repaid debt from q3.holds })
    (does first is q.point q.numbers (0 + size_of test + 3) 0 g3 q.among (omega (arith, paid, n0, n1, n2, n3, n4)) at3))
    (λ g3 at3.
    owed_some k ps debt (omega (arith, since)) (omega (arith, n0, n1, n2, n3, n4)) (omega arith)
    (other first is q.point q.numbers (0 + size_of test + (3 + size_of part)) wanted g3 q.among
    (omega (arith, paid, n0, n1, n2, n3))
    (λ b. subst (λ i. IsIn w q.point q.numbers i b (g3 b)) (omega (arith, n4)) (at3 b)))))))
    (λ c' f' v' height label s q. λ i0 f0 v0 from.
    record { first = first; is = is; holds = jumps_repaid debt from (jumps_since (omega arith) q) })
    (λ c' f' v' r s q. absurd q)
    (tests first is p' numbers 0 0 (index + size_of one) g o' refl (omega (arith, room), h.held) lt
    (omega (arith, all, n0, n1, n2, n3)) at)))))
