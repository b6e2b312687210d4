-- The turns of a DO that counts: each makes an act, so the turns that the meaning allows are enough.
use Rattle.std.proofs.Common.{◌≡◌, ℕ, zero, suc, ◌+◌, ◌<◌, ◌≤◌, List, [], ◌∷◌, ◌++◌, None, Option, Some, Bool, true}
use Rattle.std.proofs.Common.{false, refl, sym, ap, ◌∙◌, subst, arith}
use Rattle.std.proofs.lemmas.Bool.{eq-eqb}
use Rattle.std.proofs.lemmas.List.{append_assoc}
use Rattle.rv_meaning.specs.declared.instr.BranchTest.TheVariants as Test
use Rattle.std.specs.Prelude.{ℤ, cond, ◌==◌}
use Rattle.rv_meaning.specs.declared.instr.Instr.{Instr}
use Rattle.rv_meaning.specs.Machine.{value}
use Rattle.rv_meaning.specs.Words.{word}
use Rattle.pli_typing.specs.TypedTree as Y
use Rattle.pli_meaning.specs.Control.{Label, Meaning, act, choose, give, repeated_while, ◌>>=◌, ◌>>◌}
use Rattle.pli_meaning.specs.Evaluating as V
use Rattle.pli_meaning.specs.Executing as M
use Rattle.pli_meaning.specs.StorageState.{State}
use Rattle.pli_meaning.specs.World.{counted}
use Rattle.pli_serving.specs.ServiceState.{Services}
use Rattle.pli_coding.specs.Allocating.{act_code}
use Rattle.pli_coding.specs.Assembly.{Code, JumpAhead, size_of}
use Rattle.pli_coding.specs.Instructions.{skip_where}
use Rattle.pli_coding.specs.Expressions.{bit_code}
use Rattle.pli_coding.specs.Registers.{a0, zero_register}
use Rattle.pli_coding.specs.Statements.{if_met, in_turns, limit_tested}
use Rattle.activation_relation.specs.FrameLaws.{with_waits}
use Rattle.activation_relation.specs.Layers.{Layer, Point, services_of}
use Rattle.activation_relation.specs.Points.{Surroundings}
use Rattle.run_steps.specs.Engine.{Base}
use Rattle.run_steps.specs.Items.{Linked}
use Rattle.run_steps.proofs.Jumps.{back_of, front_of}
use Rattle.run_steps.proofs.Linking.{size_append}
use Rattle.run_steps.specs.Numbers.{IsWide}
use Rattle.run_steps.specs.Reach.{Aims, Closed, Comes, Family, before, cost}
use Rattle.run_steps.proofs.Reach.{before_closed, comes_on, onward}
use Rattle.block_runs.specs.Machines.{AreIn, IsIn}
use Rattle.block_runs.proofs.CallStatements.{comes_map}
use Rattle.block_runs.proofs.PointActs.{act_comes}
use Rattle.block_runs.proofs.PointGrounds.{in_known, point_frame}
use Rattle.program_runs.specs.Statements.{Block, IsAmong, set_aside, statement_aims}
use Rattle.program_runs.proofs.JumpsOut.{returns_repaid}
use Rattle.program_runs.proofs.Statements.{acted_among}
use Rattle.expression_runs.specs.Values.{behind, number_aims}
use Rattle.expression_runs.proofs.Words.{known_word}
use Rattle.argument_runs.specs.Lists.{layered}
use Rattle.test_runs.specs.Tests.{Tests, bit_aims}
use Rattle.test_runs.proofs.Chosen.{chosen_does}
use Rattle.counter_runs.specs.Counters.{put_aims}
use Rattle.counter_runs.specs.Counts.{IsTested, counter_of, turns_index}
use Rattle.counter_runs.proofs.Limits.{limit_does, test_length}
use Rattle.counter_runs.proofs.Turns.{Again, AreLinked, IsLinked, Loop, around_of, assigns, behind_test, behind_while}
use Rattle.counter_runs.proofs.Turns.{body_code, end_is, goal_closed, goal_of, jumps_on, part_of, past_does, put_code}
use Rattle.counter_runs.proofs.Turns.{read_code, read_index, setting_in, statements_index, stepped_does, test_index}
use Rattle.counter_runs.proofs.Turns.{test_of, turn_rest, turn_size, turns_of, waits_in, while_code, while_index}
use Rattle.counter_runs.proofs.Turns.{while_size, within}
use Rattle.counter_runs.proofs.Words.{returns_back}

-- ---- a turn

-- where the limit isn't passed, and WHILE is met
abbrev turned : Loop → (turns : ℕ) → Meaning (Unit {0})
turned x turns = (part_of x) >> (turns_of turns x)

met_does :
    (x : Loop) → AreLinked x → (turns acts wanted debt c : ℕ) {numbers : ℕ → ℕ} {p : Point} (f : Family) →
    acts ≤ p.state.world.acts → 0 < p.state.world.acts → c + behind_while x + x.most ≤ cost x.block.call.code →
    IsAmong (within x) numbers p → AreIn x.block.call.surroundings p numbers (statements_index x) f →
    Again x
    (before x.block.call.code (goal_of x acts wanted debt) x.block.call.surroundings.acts (λ u. turns_of turns x))
    p.state.world.acts (c + behind_while x) →
    Comes x.block.call.code c f (services_of p) (goal_of x acts wanted debt)
    (turned x turns x.block.call.surroundings.acts p.state)
unfolding ◌>>◌
met_does x ls turns acts wanted debt c {numbers} {p} f since some paid o there next' =
    let w = x.block.call.surroundings in
    let code = x.block.call.code in
    let k = within x in
    let goal = goal_of x acts wanted debt in
    let again : Unit {0} → Meaning (Unit {0}) = λ u. turns_of turns x in
    let step : Unit {0} → Meaning (Unit {0}) = λ u. M.stepped (around_of x) (counter_of x.count) x.count.by in
    let body' = body_code x in
    let i = statements_index x in
    let more = p.state.world.acts in
    let closed = before_closed w.acts again (goal_closed x acts wanted debt) in
    let first = ls.first in
    comes_on w.acts (part_of x w.acts p.state) again
    (comes_on w.acts (M.list x.block.around x.count.body w.acts p.state) step
    (comes_map (statement_aims k x.labels more (i + size_of body') (c + size_of body') x.left')
    (before code (before code goal w.acts again) w.acts step) refl (M.list x.block.around x.count.body w.acts p.state)
    (λ c' f' v' r s q.
    let later = q.since in
    subst (λ u. Comes code c' f' v' (before code goal w.acts again) (step tt w.acts u)) (sym q.state)
    (onward closed q.reach
    (λ g at.
    stepped_does x ls closed more (c + size_of body') g later
    (refl, λ c3 f3 v3 height label s3 j. jumps_on x acts wanted debt more since c3 f3 v3 height label s3 j)
    (omega (arith, paid)) q.among at
    (subst (λ n. Again x (before code goal w.acts again) more n) (omega arith) next'))))
    (λ c' f' v' height label s q. jumps_on x acts wanted debt more since c' f' v' height label s q)
    (λ c' f' v' r s q. λ i0 f0 v0 from.
    returns_repaid debt from (returns_back x.block x.layer x.others (waits_in x) q))
    (subst (λ j. Comes code c f (services_of p) (statement_aims k x.labels more (j + size_of body') (c + size_of body')
    x.left')
    (M.list x.block.around x.count.body w.acts p.state)) first
    (x.turn p numbers c (c + size_of body') f o ls.body (omega arith, omega (arith, paid))
    (λ b. subst (λ j. IsIn w p numbers j b (f b)) (sym first) (there b))))))

-- ---- the test of the limit

abbrev Limited : {R : Type 0} → Loop → Aims R → (numbers : ℕ → ℕ) → (c : ℕ) → Family → (z : ℤ) →
    (one other : Meaning R) → Point → Type 0
Limited x aims numbers c f z one other q =
    IsAmong (within x) numbers q →
    ((b : Base) → IsIn x.block.call.surroundings q numbers (test_index x) b (f b) × (value (f b).machine a0 ≡ word z)) →
    ((g : Family) → AreIn x.block.call.surroundings q numbers (test_index x + test_length x.words) g →
    Comes x.block.call.code (c + test_length x.words) g (services_of q) aims (one x.block.call.surroundings.acts
    q.state)) →
    ((g : Family) → AreIn x.block.call.surroundings q numbers (test_index x + test_length x.words + behind_test x) g →
    Comes x.block.call.code (c + test_length x.words + behind_test x) g (services_of q) aims
    (other x.block.call.surroundings.acts q.state)) →
    Comes x.block.call.code c f (services_of q) aims
    (choose (M.has_not_passed x.limit x.count.by z) one other x.block.call.surroundings.acts q.state)

limited_does :
    {R : Type 0} (x : Loop) → AreLinked x → {aims : Aims R} (closed : Closed x.block.call.code aims) (c : ℕ)
    {numbers : ℕ → ℕ} {p : Point} (f : Family) (z : ℤ) (one other : Meaning R) → IsWide z →
    IsAmong (within x) numbers p →
    ((b : Base) → IsIn x.block.call.surroundings p numbers (test_index x) b (f b) × (value (f b).machine a0 ≡ word z)) →
    ((g : Family) → AreIn x.block.call.surroundings p numbers (test_index x + test_length x.words) g →
    Comes x.block.call.code (c + test_length x.words) g (services_of p) aims (one x.block.call.surroundings.acts
    p.state)) →
    ((g : Family) → AreIn x.block.call.surroundings p numbers (test_index x + test_length x.words + behind_test x) g →
    Comes x.block.call.code (c + test_length x.words + behind_test x) g (services_of p) aims
    (other x.block.call.surroundings.acts p.state)) →
    Comes x.block.call.code c f (services_of p) aims
    (choose (M.has_not_passed x.limit x.count.by z) one other x.block.call.surroundings.acts p.state)
limited_does {R} x ls {aims} closed c {numbers} {p} f z one other wide o there met past =
    subst (Limited x aims numbers c f z one other) (sym (ap (λ φs. layered φs p) o.later.layers)) known o there met past
  where
    w : Surroundings
    w = x.block.call.surroundings

    code : List Instr
    code = x.block.call.code

    ψ : Layer
    ψ = with_waits (waits_in x) x.layer

    far : ℕ
    far = behind_test x

    known : Limited x aims numbers c f z one other (layered (ψ ∷ x.others) p)
    known o' there' met' past' =
        let h = point_frame o'.stands o'.image in
        let inside = ls.back.inside in
        let words = x.is.inside in
        let low = x.is.low in
        let here : x.words == x.words ≡ true = eq-eqb x.words x.words refl in
        let same = ls.far in
        limit_does x.words (omega (arith, words, low)) w code p ψ x.others closed c f h x.limit x.count.by z far p.state
        w.acts one other (x.wide, wide)
        (omega (arith, words), ap (λ q. cond q (Some (word x.limit)) (x.layer.waits x.words)) here)
        (subst (λ n. IsLinked x (test_index x) (limit_tested (set_aside x.words) (Some x.count.by) n)) same ls.test)
        (omega (arith, inside)) (λ b. known_word (within x) h (there' b))
        (λ g at. met' g (λ b. in_known h o'.image.parts (at b)))
        (λ g at. past' g (λ b. in_known h o'.image.parts (at b)))

-- ---- WHILE

abbrev chosen : Loop → (turns : ℕ) → Bool → Meaning (Unit {0})
chosen x turns met = choose met (turned x turns) (give tt)

abbrev behind_due : Loop → (turns acts wanted debt : ℕ) → Aims Bool
behind_due x turns acts wanted debt =
    before x.block.call.code (goal_of x acts wanted debt) x.block.call.surroundings.acts (chosen x turns)

-- where the next turn begins, once this one has come to its end
abbrev NextTurn : Loop → (turns acts wanted debt more credits : ℕ) → Type 0
NextTurn x turns acts wanted debt more credits =
    Again x
    (before x.block.call.code (goal_of x acts wanted debt) x.block.call.surroundings.acts (λ u. turns_of turns x))
    more credits

tested_in :
    (x : Loop) → AreLinked x → (b : Y.Bit) → x.count.condition ≡ Some b →
    IsLinked x (while_index x)
    (bit_code x.block.environment (in_turns (set_aside x.words)) b ++ if_met (turn_rest x))
tested_in x ls b e =
    let test = bit_code x.block.environment (in_turns (set_aside x.words)) b in
    let skip = skip_where Test.NotEqual a0 zero_register (JumpAhead (size_of (turn_rest x)) ∷ []) in
    subst (λ xs. IsLinked x (while_index x) xs) (append_assoc test skip (turn_rest x))
    (subst (λ o. IsLinked x (while_index x) (while_code x o (size_of (turn_rest x)) ++ turn_rest x)) e ls.behind)

-- behind the test of the limit, where it isn't passed
while_does :
    (x : Loop) → AreLinked x → (turns acts wanted debt c : ℕ) {numbers : ℕ → ℕ} {p : Point} (f : Family)
    (condition : Option Y.Bit) → x.count.condition ≡ condition →
    IsTested (setting_in x) x.need condition → acts ≤ p.state.world.acts → 0 < p.state.world.acts →
    c + behind_test x + x.most ≤ cost x.block.call.code → c + behind_test x ≤ wanted + debt →
    p.control.line ≡ x.count.line → IsAmong (within x) numbers p →
    AreIn x.block.call.surroundings p numbers (while_index x) f →
    ((more : ℕ) → p.state.world.acts ≤ more → NextTurn x turns acts wanted debt more (c + behind_test x)) →
    Comes x.block.call.code c f (services_of p) (behind_due x turns acts wanted debt)
    (M.condition_met (around_of x) condition x.block.call.surroundings.acts p.state)
unfolding M.condition_met choose give
while_does x ls turns acts wanted debt c {numbers} {p} f None e is since some paid owed line o there next' =
    let none : while_size x ≡ 0 = ap (λ q. size_of (while_code x q 0)) e in
    record {
      to = λ early.
          met_does x ls turns acts wanted debt c f since some (omega (arith, paid)) o
          (λ b. subst (λ i. IsIn x.block.call.surroundings p numbers i b (f b)) (omega (arith, none)) (there b))
          (subst (λ n. NextTurn x turns acts wanted debt p.state.world.acts n) (omega (arith, none))
          (next' p.state.world.acts (omega arith)));
    }
while_does x ls turns acts wanted debt c {numbers} {p} f (Some b) e is since some paid owed line o there next' =
    let w = x.block.call.surroundings in
    let code = x.block.call.code in
    let k = within x in
    let goal = goal_of x acts wanted debt in
    let closed = goal_closed x acts wanted debt in
    let after = behind_due x turns acts wanted debt in
    let test = bit_code x.block.environment (in_turns (set_aside x.words)) b in
    let rest = turn_rest x in
    let l = tested_in x ls b e in
    let far = ls.rest_size in
    let size : while_size x ≡ size_of test + 3 =
    ap (λ q. size_of (while_code x q 0)) e ∙ size_append test _ in
    let need = x.is.registers in
    let y = behind p numbers 0 c (while_index x) test in
    let more = p.state.world.acts in
    comes_map (bit_aims k x.labels y) after refl (V.bit (around_of x) b w.acts p.state)
    (λ c' f' v' met s q.
    let since' = q.since in
    subst (λ u. Comes code c' f' v' goal (chosen x turns met w.acts u)) (sym q.state)
    (onward closed q.reach
    (λ g at.
    chosen_does k closed q.point q.numbers (c + size_of test) (while_index x + size_of test) g rest met
    (turned x turns) (give tt) q.among (back_of test (if_met rest) l) at
    (λ g2 at2.
    met_does x ls turns acts wanted debt (c + size_of test + 3) g2 (omega (arith, since, since'))
    (omega (arith, some, since')) (omega (arith, paid, size)) q.among
    (λ b'. subst (λ i. IsIn w q.point q.numbers i b' (g2 b')) (omega (arith, size)) (at2 b'))
    (subst (λ n. NextTurn x turns acts wanted debt q.point.state.world.acts n) (omega (arith, size))
    (next' q.point.state.world.acts since')))
    (λ g2 at2.
    past_does x acts wanted debt (c + size_of test + (3 + size_of rest))
    (while_index x + size_of test + (3 + size_of rest)) g2 (omega (arith, since, since'))
    (omega (arith, owed, size, far)) q.among (omega (arith, size, far) ∙ end_is x ls) at2))))
    (λ c' f' v' height label s q. jumps_on x acts wanted debt more since c' f' v' height label s q)
    (λ c' f' v' r s q. absurd q)
    (is p numbers 0 c (while_index x) f o line (omega (arith, need), x.is.held) (front_of test (if_met rest) l)
    (omega (arith, paid, size)) there)

-- ---- all of them

abbrev met_next : Loop → Bool → Meaning Bool
met_next x q = choose q (M.condition_met (around_of x) x.count.condition) (give false)

-- behind the act of a test
due_does :
    (x : Loop) → AreLinked x → (turns acts wanted debt : ℕ) {numbers : ℕ → ℕ} {p : Point} (f : Family) →
    acts ≤ p.state.world.acts → 0 < p.state.world.acts → turn_size x + x.most ≤ cost x.block.call.code →
    turn_size x ≤ debt → p.control.line ≡ x.count.line → IsAmong (within x) numbers p →
    AreIn x.block.call.surroundings p numbers (read_index x) f →
    ((more : ℕ) → p.state.world.acts ≤ more →
    NextTurn x turns acts wanted debt more (size_of (read_code x) + test_length x.words + behind_test x)) →
    Comes x.block.call.code 0 f (services_of p) (behind_due x turns acts wanted debt)
    (((M.within_limit (around_of x) (counter_of x.count) (Some x.limit) x.count.by) >>= met_next x)
    x.block.call.surroundings.acts p.state)
unfolding M.within_limit M.counter_number V.number ◌>>=◌ give choose
due_does x ls turns acts wanted debt {numbers} {p} f since some paid owed line o there next' =
    let w = x.block.call.surroundings in
    let code = x.block.call.code in
    let k = within x in
    let closed = goal_closed x acts wanted debt in
    let after = behind_due x turns acts wanted debt in
    let after_closed = before_closed w.acts (chosen x turns) closed in
    let tested = before code after w.acts (met_next x) in
    let around' = around_of x in
    let read' = read_code x in
    let need = x.is.registers in
    let y = behind p numbers 0 0 (read_index x) read' in
    let size = ls.size in
    let more = p.state.world.acts in
    let give' : ℤ → Meaning Bool = λ z. give (M.has_not_passed x.limit x.count.by z) in
    comes_on w.acts (M.within_limit around' (counter_of x.count) (Some x.limit) x.count.by w.acts p.state) (met_next x)
    (comes_on w.acts (V.number around' (Y.NumberIn x.count.counter) w.acts p.state) give'
    (comes_map (number_aims k x.labels y) (before code tested w.acts give') refl
    (V.number around' (Y.NumberIn x.count.counter) w.acts p.state)
    (λ c' f' v' z s q.
    let q1 = q.1.point in
    let since' = q.1.since in
    let met = M.has_not_passed x.limit x.count.by z in
    record {
      to = λ early. subst (λ u. Comes code c' f' v' after (met_next x met w.acts u)) (sym q.1.state)
          (onward after_closed q.1.reach
          (λ g at.
          limited_does x ls after_closed (0 + size_of read') g z (M.condition_met around' x.count.condition)
          (give false) q.0 q.1.among at
          (λ g2 at2.
          while_does x ls turns acts wanted debt (0 + size_of read' + test_length x.words) g2 x.count.condition refl
          x.tested (omega (arith, since, since')) (omega (arith, some, since')) (omega (arith, paid))
          (omega (arith, owed)) (q.1.line ∙ line) q.1.among at2
          (λ more' since2. subst (λ n. NextTurn x turns acts wanted debt more' n) (omega arith)
          (next' more' (omega (arith, since', since2)))))
          (λ g2 at2. record {
            to = λ early2.
                past_does x acts wanted debt (0 + size_of read' + test_length x.words + behind_test x)
                (while_index x + behind_test x) g2 (omega (arith, since, since')) (omega (arith, owed)) q.1.among
                (end_is x ls) at2;
          })));
    })
    (λ c' f' v' height label s q. jumps_on x acts wanted debt more since c' f' v' height label s q)
    (λ c' f' v' r s q. absurd q)
    (x.counter.read p numbers 0 0 (read_index x) f o line (omega (arith, need), x.is.held) ls.read
    (omega (arith, paid)) there)))

pub turns_do :
    (turns : ℕ) (x : Loop) → AreLinked x → (acts wanted debt c : ℕ) {numbers : ℕ → ℕ} {p : Point} (f : Family)
    (z : ℤ) → IsWide z → acts ≤ p.state.world.acts → x.block.call.surroundings.acts < turns + p.state.world.acts →
    c + size_of (put_code x) + size_of (act_code x.count.line) + x.most ≤ cost x.block.call.code →
    turn_size x + x.most ≤ cost x.block.call.code → turn_size x ≤ debt → IsAmong (within x) numbers p →
    p.control.line ≡ x.count.line →
    ((b : Base) → IsIn x.block.call.surroundings p numbers (turns_index x.words x.block x.count x.index) b (f b)
    × (value (f b).machine a0 ≡ word z)) →
    Comes x.block.call.code c f (services_of p)
    (before x.block.call.code (goal_of x acts wanted debt) x.block.call.surroundings.acts (λ u. turns_of turns x))
    (assigns x z x.block.call.surroundings.acts p.state)
unfolding repeated_while M.turn_due ◌>>=◌ ◌>>◌
turns_do zero x ls acts wanted debt c f z wide since few paid all owed o line there =
    let allowed = o.stands.allowed in
    absurd (omega (arith, allowed, few))
turns_do (suc turns) x ls acts wanted debt c {numbers} {p} f z wide since few paid all owed o line there =
    let w = x.block.call.surroundings in
    let code = x.block.call.code in
    let k = within x in
    let goal = goal_of x acts wanted debt in
    let closed = goal_closed x acts wanted debt in
    let put' = put_code x in
    let one = act_code x.count.line in
    let need = x.is.registers in
    let i0 = turns_index x.words x.block x.count x.index in
    let after = before code goal w.acts (chosen x turns) in
    let due : Unit {0} → Meaning Bool =
    λ u. (M.within_limit (around_of x) (counter_of x.count) (Some x.limit) x.count.by) >>= met_next x in
    let all' : Unit {0} → Meaning (Unit {0}) = λ u. turns_of (suc turns) x in
    comes_map (put_aims k x.labels p.state.world.acts (i0 + size_of put') (c + size_of put'))
    (before code goal w.acts all') refl (assigns x z w.acts p.state)
    (λ c' f' v' r s q.
    let p1 = q.point in
    let since1 = q.since in
    subst (λ u. Comes code c' f' v' goal (turns_of (suc turns) x w.acts u)) (sym q.state)
    (onward closed q.reach
    (λ g at.
    comes_on w.acts (test_of x w.acts p1.state) (chosen x turns)
    (comes_on w.acts (act counted w.acts p1.state) due
    (act_comes (before_closed w.acts due (before_closed w.acts (chosen x turns) closed)) x.count.line
    (c + size_of put') 0 g (q.among.stands, q.among.image)
    (x.is.act.line_fits, x.is.act.acts, omega (arith, paid)) ls.act at
    (λ g2 less at2.
    due_does x ls turns acts wanted debt g2 (omega (arith, since, since1)) (omega arith) all owed refl
    (acted_among x.count.line q.among less) at2
    (λ more since2 q2 after2 g3 z2 wide2 o2 since3 line2 there2.
    turns_do turns x ls acts wanted debt (size_of (read_code x) + test_length x.words + behind_test x) g3 z2 wide2
    (omega (arith, since, since1, since2, since3)) (omega (arith, few, since1, since2, since3)) (omega (arith, all)) all
    owed o2 line2 there2)))))))
    (λ c' f' v' height label s q. jumps_on x acts wanted debt p.state.world.acts since c' f' v' height label s q)
    (λ c' f' v' r s q. absurd q)
    (x.counter.put p numbers c i0 f z wide o line (omega (arith, need), x.is.held) ls.put (omega (arith, paid)) there)
