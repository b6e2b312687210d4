-- The parts of a turn of a DO that counts, where they stand, and its step.
use Rattle.std.proofs.Common.{◌≡◌, ℕ, zero, suc, ◌+◌, ◌<◌, ◌≤◌, List, [], ◌∷◌, ◌++◌, None, Option, Some, Bool, true}
use Rattle.std.proofs.Common.{false, refl, sym, ap, ◌∙◌, subst, arith}
use Rattle.std.proofs.lemmas.Bool.{eq-eqb}
use Rattle.std.proofs.lemmas.Bool.Decides.{nat_tests}
use Rattle.std.specs.Prelude.{ℤ, cond, ◌+ℤ◌, ◌==◌}
use Rattle.rv_meaning.specs.declared.instr.Instr.{Instr}
use Rattle.rv_meaning.specs.Machine.{value}
use Rattle.rv_meaning.specs.Words.{word}
use Rattle.pli_typing.specs.TypedTree as Y
use Rattle.pli_meaning.specs.BasicValues.{BasicNumber}
use Rattle.pli_meaning.specs.Control.{Label, Meaning, Normal, act, choose, give, repeated_while, ◌>>=◌, ◌>>◌}
use Rattle.pli_meaning.specs.Evaluating as V
use Rattle.pli_meaning.specs.Executing as M
use Rattle.pli_meaning.specs.Numbers.{checked}
use Rattle.pli_meaning.specs.Raising as R
use Rattle.pli_meaning.specs.Raising.{Around, at_line}
use Rattle.pli_meaning.specs.StorageState.{State}
use Rattle.pli_meaning.specs.World.{counted}
use Rattle.pli_serving.specs.ServiceState.{Services}
use Rattle.pli_coding.specs.Allocating.{act_code}
use Rattle.pli_coding.specs.Arithmetic.{constant_added}
use Rattle.pli_coding.specs.Assembly.{Code, JumpAhead, JumpBack, size_of}
use Rattle.pli_coding.specs.Expressions.{bit_code, number_code}
use Rattle.pli_coding.specs.Instructions.{number, service, skip_where, small}
use Rattle.pli_coding.specs.Registers.{a0, a1, zero_register}
use Rattle.rv_meaning.specs.declared.instr.BranchTest.TheVariants as Test
use Rattle.pli_coding.specs.Statements.{in_turns, limit_code, limit_tested, start_code, started_code, step_kept}
use Rattle.pli_coding.specs.Statements.{while_kept}
use Rattle.pli_coding.specs.Statements.{stmt_code, stmts_code, turn_of, turns_code, words_back, words_behind_condition}
use Rattle.pli_coding.specs.Statements.{words_behind_limit}
use Rattle.pli_coding.specs.Storing.{word_stored}
use Rattle.activation_relation.specs.Changes.{with_line}
use Rattle.activation_relation.specs.FrameLaws.{with_waits}
use Rattle.activation_relation.specs.Layers.{Layer, Point, services_of}
use Rattle.activation_relation.specs.Points.{Surroundings}
use Rattle.run_steps.specs.Engine.{Base, address}
use Rattle.run_steps.specs.Items.{Linked}
use Rattle.run_steps.proofs.Jumps.{back_of, front_of, linked_at}
use Rattle.run_steps.proofs.Linking.{size_append}
use Rattle.run_steps.specs.Numbers.{IsWide}
use Rattle.run_steps.specs.Owing.{owing}
use Rattle.run_steps.proofs.Owing.{owing_closed}
use Rattle.run_steps.specs.Reach.{Aims, Closed, Comes, Family, before, cost}
use Rattle.run_steps.proofs.Reach.{before_closed, comes_on, onward}
use Rattle.block_runs.specs.Machines.{AreIn, IsIn, limits_of}
use Rattle.block_runs.proofs.CallStatements.{comes_map}
use Rattle.block_runs.proofs.PointActs.{act_comes}
use Rattle.block_runs.proofs.PointGrounds.{in_known, point_frame}
use Rattle.pli_headline.proofs.Loops.{back_piece}
use Rattle.program_runs.specs.Statements.{Block, IsAmong, JumpsTo, set_aside, size_with, statement_aims}
use Rattle.program_runs.proofs.JumpsOut.{jumps_repaid, jumps_since, returns_repaid}
use Rattle.program_runs.proofs.Statements.{acted_among}
use Rattle.expression_runs.specs.Values.{HasWord, OverflowComes, Setting, Stretch, behind, in_registers, number_aims}
use Rattle.expression_runs.proofs.Assignments.{fit_is}
use Rattle.expression_runs.proofs.Words.{known_word, valued}
use Rattle.argument_runs.specs.Lists.{layered, with_list}
use Rattle.test_runs.proofs.Chosen.{none_owed}
use Rattle.counter_runs.specs.Counters.{IsCounter, put_aims}
use Rattle.counter_runs.specs.Counts.{Counting, IsCount, TurnDoes, body_index, count_of, counter_of, setting_with}
use Rattle.counter_runs.specs.Counts.{IsStep, IsTested, value_of_start}
use Rattle.counter_runs.specs.Counts.{turn_in, turning, turns_index}
use Rattle.counter_runs.specs.Words.{with_word}
use Rattle.counter_runs.proofs.Limits.{limit_does, limit_size, test_length}
use Rattle.counter_runs.proofs.Steps.{added_does, line_reaches, line_size, lined_among}
use Rattle.counter_runs.proofs.Words.{Fewer, in_fewer, jumps_back, returns_back, untold_among}

-- ---- a loop whose limit is known

pub record Loop : Type 0 where
  pub words : ℕ
  pub block : Block
  pub count : Counting
  pub layer : Layer
  pub others : List Layer
  pub labels : List Label
  pub index : ℕ
  pub left' : ℕ
  pub need : ℕ
  pub most : ℕ
  pub is : IsCount words block count layer others index need most
  pub limit : ℤ
  pub wide : IsWide limit
  pub counter :
      IsCounter (setting_with (turning words layer others block limit) labels count.line most (words + 2)) need
      count.counter
  pub over : OverflowComes (setting_with (turning words layer others block limit) labels count.line most (words + 2))
  pub tested :
      IsTested (setting_with (turning words layer others block limit) labels count.line most (words + 2)) need
      count.condition
  pub turn :
      TurnDoes words (turning words layer others block limit) labels count.body (body_index words block count index)
      left'

-- the block while it runs, and around its expressions
abbrev pub within : Loop → Block
within x = turning x.words x.layer x.others x.block x.limit

abbrev pub setting_in : Loop → Setting
setting_in x = setting_with (within x) x.labels x.count.line x.most (x.words + 2)

abbrev pub waits_in : Loop → ℕ → Option ℕ
waits_in x = with_word x.words (word x.limit) x.layer.waits

pub fewer_in : (waits : ℕ → Option ℕ) (n given : ℕ) → waits n ≡ None → Fewer waits (with_word n given waits)
fewer_in waits n given none i v e = by (i == n) refl
  where
    by : (q : Bool) → (i == n) ≡ q → with_word n given waits i ≡ Some v
    by true f =
        let same : i ≡ n = grind (arith, nat_tests) in
        absurd (cc (sym none ∙ ap waits (sym same) ∙ e))
    by false f = ap (λ q. cond q (Some given) (waits i)) f ∙ e

-- ---- its meaning

abbrev pub around_of : Loop → Around
around_of x = at_line x.block.around x.count.line

abbrev pub test_of : Loop → Meaning Bool
test_of x = M.turn_due (around_of x) (counter_of x.count) (Some x.limit) x.count.by x.count.condition

abbrev pub part_of : Loop → Meaning (Unit {0})
part_of x = (M.list x.block.around x.count.body) >> (M.stepped (around_of x) (counter_of x.count) x.count.by)

abbrev pub turns_of : (turns : ℕ) → Loop → Meaning (Unit {0})
turns_of turns x = repeated_while turns (test_of x) (part_of x)

abbrev pub assigns : Loop → ℤ → Meaning (Unit {0})
assigns x z = M.assigned (around_of x) x.count.counter (BasicNumber z)

-- ---- its code

abbrev pub put_code : Loop → Code
put_code x = word_stored x.block.environment (in_registers (x.words + 2) 0) x.count.counter

abbrev pub read_code : Loop → Code
read_code x = number_code x.block.environment (in_registers (x.words + 2) 0) (Y.NumberIn x.count.counter)

abbrev pub body_code : Loop → Code
body_code x = stmts_code x.block.environment (in_turns (set_aside x.words)) x.count.body

abbrev pub added_code : Loop → Code
added_code x = constant_added (in_registers (x.words + 2) 0) x.count.by

-- WHILE, past so many words where it isn't met
abbrev pub while_code : Loop → (condition : Option Y.Bit) → (behind : ℕ) → Code
while_code x condition behind = while_kept x.block.environment (set_aside x.words) condition behind

abbrev pub while_size : Loop → ℕ
while_size x = size_of (while_code x x.count.condition 0)

-- how much of it stands behind the tests
abbrev pub step_size : Loop → ℕ
step_size x = line_size x.count.line + (size_of (read_code x) + size_of (added_code x))

abbrev pub behind_while : Loop → ℕ
behind_while x = size_of (body_code x) + (step_size x + 2)

abbrev pub behind_test : Loop → ℕ
behind_test x = while_size x + behind_while x

-- and of a turn
abbrev pub turn_size : Loop → ℕ
turn_size x = size_of (put_code x) + size_of (act_code x.count.line) + (size_of (read_code x) + test_length x.words)
    + behind_test x

-- what comes before the turns, behind the act
abbrev pub starts_code : (words : ℕ) → Block → Counting → Code
starts_code words k c =
    start_code k.environment (set_aside words) (value_of_start c)
    ++ (limit_code k.environment (set_aside words) (Some c.limit) ++ started_code (set_aside words) (counter_of c)
    (value_of_start c))

-- all of it, by the step
abbrev coded_by : (words : ℕ) → Block → Counting → Option ℤ → Code
coded_by words k c step =
    let e = k.environment in
    act_code c.line
    ++ ((start_code e (set_aside words) (value_of_start c)
    ++ (limit_code e (set_aside words) (Some c.limit)
    ++ (step_kept e (set_aside words) c.step step ++ started_code (set_aside words) (counter_of c) (value_of_start c))))
    ++ turns_code (turn_of e (set_aside words) (counter_of c) (Some c.limit) step c.condition c.line
    (stmts_code e (in_turns (set_aside words)) c.body)))

pub coded :
    (words : ℕ) (k : Block) (c : Counting) → IsStep c.step c.by →
    stmt_code k.environment (set_aside words) (count_of c)
    ≡ act_code c.line ++ (starts_code words k c ++ turns_code (turn_in words k c))
coded words k c is = ap (coded_by words k c) is.constant

-- ---- where its parts stand

abbrev pub act_index : Loop → ℕ
act_index x = turns_index x.words x.block x.count x.index + size_of (put_code x)

abbrev pub read_index : Loop → ℕ
read_index x = act_index x + size_of (act_code x.count.line)

abbrev pub test_index : Loop → ℕ
test_index x = read_index x + size_of (read_code x)

abbrev pub while_index : Loop → ℕ
while_index x = test_index x + test_length x.words

abbrev pub statements_index : Loop → ℕ
statements_index x = while_index x + while_size x

abbrev pub line_index : Loop → ℕ
line_index x = statements_index x + size_of (body_code x)

abbrev pub again_index : Loop → ℕ
again_index x = line_index x + line_size x.count.line

abbrev pub added_index : Loop → ℕ
added_index x = again_index x + size_of (read_code x)

abbrev pub back_index : Loop → ℕ
back_index x = added_index x + size_of (added_code x)

abbrev pub IsLinked : Loop → (index : ℕ) → Code → Type 0
IsLinked x index part = Linked x.block.call.surroundings.links x.block.call.code index part

-- the statements of a turn, the step and the way back
abbrev pub turn_rest : Loop → Code
turn_rest x =
    let u = turn_in x.words x.block x.count in
    u.body ++ (u.stepped ++ JumpBack (words_back u) ∷ [])

pub record AreLinked (x : Loop) : Type 0 where
  pub put : IsLinked x (turns_index x.words x.block x.count x.index) (put_code x)
  pub act : IsLinked x (act_index x) (act_code x.count.line)
  pub read : IsLinked x (read_index x) (read_code x)
  pub test :
      IsLinked x (test_index x)
      (limit_tested (set_aside x.words) (Some x.count.by) (words_behind_limit (turn_in x.words x.block x.count)))
  pub behind : IsLinked x (while_index x) (while_code x x.count.condition (size_of (turn_rest x)) ++ turn_rest x)
  pub body : IsLinked x (body_index x.words x.block x.count x.index) (body_code x)
  pub line : IsLinked x (line_index x) (number a0 x.count.line)
  pub service : IsLinked x (line_index x + size_of (number a0 x.count.line)) (small a1 1 ∷ service 1)
  pub again : IsLinked x (again_index x) (read_code x)
  pub added : IsLinked x (added_index x) (added_code x)
  pub back : IsLinked x (back_index x) (JumpBack (words_back (turn_in x.words x.block x.count)) ∷ [])
  -- how far the jumps go, and where the statements of a turn begin
  pub rest_size : size_of (turn_rest x) ≡ behind_while x
  pub far : words_behind_limit (turn_in x.words x.block x.count) ≡ behind_test x
  pub near : words_back (turn_in x.words x.block x.count) + 2 ≡ turn_size x
  pub first : body_index x.words x.block x.count x.index ≡ statements_index x
  pub size : size_of (turns_code (turn_in x.words x.block x.count)) ≡ turn_size x

-- how far the jump goes changes nothing
pub while_long :
    (words : ℕ) (k : Block) (condition : Option Y.Bit) (behind : ℕ) →
    size_of (while_kept k.environment (set_aside words) condition behind)
    ≡ size_of (while_kept k.environment (set_aside words) condition 0)
while_long words k None behind = refl
while_long words k (Some b) behind =
    let test = bit_code k.environment (in_turns (set_aside words)) b in
    size_append test (skip_where Test.NotEqual a0 zero_register (JumpAhead behind ∷ []))
    ∙ sym (size_append test (skip_where Test.NotEqual a0 zero_register (JumpAhead 0 ∷ [])))

pub linked_in :
    (x : Loop) →
    IsLinked x (turns_index x.words x.block x.count x.index) (turns_code (turn_in x.words x.block x.count)) →
    AreLinked x
linked_in x l =
    let u = turn_in x.words x.block x.count in
    let put' = put_code x in
    let one = act_code x.count.line in
    let read' = read_code x in
    let far = words_behind_limit u in
    let test' = limit_tested (set_aside x.words) (Some x.count.by) far in
    let body' = body_code x in
    let line' = number a0 x.count.line in
    let three = small a1 1 ∷ service 1 in
    let added' = added_code x in
    let jump = JumpBack (words_back u) ∷ [] in
    let rest2 = read' ++ (added' ++ []) in
    let stepped' = line' ++ (three ++ rest2) in
    let last = stepped' ++ jump in
    let rest = body' ++ last in
    let while' = while_code x x.count.condition (words_behind_condition u) in
    let after = while' ++ rest in
    let limit' = read' ++ test' in
    let i0 = turns_index x.words x.block x.count x.index in
    let n0 = size_append (put' ++ one) (limit' ++ after) in
    let n1 = size_append put' one in
    let n2 = size_append limit' after in
    let n3 = size_append read' test' in
    let n4 = limit_size x.words x.count.by far in
    let n5 = size_append body' last in
    let n10 = size_append while' rest in
    let n11 = while_long x.words x.block x.count.condition (words_behind_condition u) in
    let n6 = size_append stepped' jump in
    let n7 = size_append line' (three ++ rest2) in
    let n8 = size_append read' (added' ++ []) in
    let n9 = size_append added' [] in
    let m0 = size_append read' (limit_tested (set_aside x.words) (Some x.count.by) 0) in
    let m1 = limit_size x.words x.count.by 0 in
    let far' : words_behind_condition u ≡ size_of rest = omega (arith, n5, n6) in
    let l0 = front_of (put' ++ one) (limit' ++ after) l in
    let l1 = back_of (put' ++ one) (limit' ++ after) l in
    let l2 = front_of limit' after l1 in
    let l3 = back_of limit' after l1 in
    let l9 = back_of while' rest l3 in
    let l4 = back_of body' last l9 in
    let l5 = front_of stepped' jump l4 in
    let l6 = back_of line' (three ++ rest2) l5 in
    let l7 = back_of three rest2 l6 in
    let l8 = back_of read' (added' ++ []) l7 in
    record {
      put = front_of put' one l0;
      act = back_of put' one l0;
      read = linked_at (read_index x) read' (omega (arith, n1)) (front_of read' test' l2);
      test = linked_at (test_index x) test' (omega (arith, n1)) (back_of read' test' l2);
      behind = subst (λ n. IsLinked x (while_index x) (while_code x x.count.condition n ++ rest)) far'
          (linked_at (while_index x) after (omega (arith, n1, n3, n4)) l3);
      body = linked_at (body_index x.words x.block x.count x.index) body' (omega (arith, n1, n3, n4, n11, m0, m1))
          (front_of body' last l9);
      line = linked_at (line_index x) line' (omega (arith, n1, n3, n4, n11)) (front_of line' (three ++ rest2) l5);
      service = linked_at (line_index x + size_of line') three (omega (arith, n1, n3, n4, n11))
          (front_of three rest2 l6);
      again = linked_at (again_index x) read' (omega (arith, n1, n3, n4, n11)) (front_of read' (added' ++ []) l7);
      added = linked_at (added_index x) added' (omega (arith, n1, n3, n4, n11)) (front_of added' [] l8);
      back = linked_at (back_index x) jump (omega (arith, n1, n3, n4, n7, n8, n9, n11)) (back_of stepped' jump l4);
      rest_size = omega (arith, n5, n6, n7, n8, n9);
      far = omega (arith, n7, n8, n9);
      near = omega (arith, n1, n7, n8, n9, m0, m1);
      first = omega (arith, n1, m0, m1);
      size = omega (arith, n0, n1, n2, n3, n4, n5, n6, n7, n8, n9, n10, n11);
    }

-- ---- behind the last turn

abbrev pub goal_of : Loop → (acts wanted debt : ℕ) → Aims (Unit {0})
goal_of x acts wanted debt =
    owing x.block.call.code debt
    (statement_aims x.block x.labels acts (x.index + size_with x.words x.block (count_of x.count)) wanted x.left')

pub goal_closed : (x : Loop) (acts wanted debt : ℕ) → Closed x.block.call.code (goal_of x acts wanted debt)
goal_closed x acts wanted debt =
    owing_closed x.block.call.code debt
    (statement_aims x.block x.labels acts (x.index + size_with x.words x.block (count_of x.count)) wanted x.left')

pub jumps_on :
    (x : Loop) (acts wanted debt more : ℕ) → acts ≤ more → (c : ℕ) (f : Family) (v : Services) (height : ℕ)
    (label : Label) (s : State) → JumpsTo (within x) x.labels more c f v height label s →
    (goal_of x acts wanted debt).jumped c f v height label s
jumps_on x acts wanted debt more since c f v height label s q i0 f0 v0 from =
    jumps_repaid debt from
    (jumps_since since
    (jumps_back x.block x.layer x.others (waits_in x) x.is.newest
    (fewer_in x.layer.waits x.words (word x.limit) x.is.free.0) q))

pub end_is :
    (x : Loop) → AreLinked x →
    while_index x + behind_test x ≡ x.index + size_with x.words x.block (count_of x.count)
end_is x ls =
    let one = act_code x.count.line in
    let turns = turns_code (turn_in x.words x.block x.count) in
    let starts = starts_code x.words x.block x.count in
    let n0 = ap (λ u. size_of u) (coded x.words x.block x.count x.is.step) in
    let n1 = size_append one (starts ++ turns) in
    let n2 = size_append starts turns in
    let n3 = size_append one starts in
    let n4 = ls.size in
    omega (arith, n0, n1, n2, n3, n4)

pub past_does :
    (x : Loop) (acts wanted debt : ℕ) {numbers : ℕ → ℕ} {p : Point} (c i : ℕ) (f : Family) →
    acts ≤ p.state.world.acts → c ≤ wanted + debt → IsAmong (within x) numbers p →
    i ≡ x.index + size_with x.words x.block (count_of x.count) → AreIn x.block.call.surroundings p numbers i f →
    Comes x.block.call.code c f (services_of p) (goal_of x acts wanted debt)
    (give tt x.block.call.surroundings.acts p.state)
past_does x acts wanted debt {numbers} {p} c i f since few o end there =
    let k = x.block in
    let w = k.call.surroundings in
    let φ = x.layer in
    let φs = x.others in
    let newest = o.later.layers in
    let fewer = fewer_in φ.waits x.words (word x.limit) x.is.free.0 in
    subst (λ v. Comes k.call.code c f v (goal_of x acts wanted debt) (give tt w.acts p.state))
    (sym (ap (λ ls. services_of (layered ls p)) newest))
    (none_owed k x.labels acts (x.index + size_with x.words k (count_of x.count)) wanted x.left' c debt f
    (with_list φ.waits φ φs p) numbers since few (untold_among k φ φs (waits_in x) x.is.newest o)
    (λ b. subst (λ j. IsIn w (with_list φ.waits φ φs p) numbers j b (f b)) end
    (in_fewer φ φs φ.waits (waits_in x) fewer newest (there b))))

-- ---- the step

abbrev stepped_next : Loop → ℤ → Meaning (Unit {0})
stepped_next x z =
    (M.counter_value (around_of x) (counter_of x.count) z) >>= (λ v. M.assigned (around_of x) x.count.counter v)

abbrev added_next : Loop → ℤ → Meaning (Unit {0})
added_next x z = (R.value_of (around_of x) (checked 31 (z +ℤ x.count.by))) >>= (λ n. stepped_next x n)

-- where the next turn begins, with the number that is assigned in a0
abbrev pub Again : Loop → Aims (Unit {0}) → (acts credits : ℕ) → Type 0
Again x aims acts credits =
    (q : Point) (after : ℕ → ℕ) (g : Family) (z : ℤ) → IsWide z → IsAmong (within x) after q →
    acts ≤ q.state.world.acts → q.control.line ≡ x.count.line →
    ((b : Base) → IsIn x.block.call.surroundings q after (turns_index x.words x.block x.count x.index) b (g b)
    × (value (g b).machine a0 ≡ word z)) →
    Comes x.block.call.code credits g (services_of q) aims (assigns x z x.block.call.surroundings.acts q.state)

-- the sum is in a0
summed_does :
    (x : Loop) → AreLinked x → {aims : Aims (Unit {0})} (closed : Closed x.block.call.code aims) (acts c c' : ℕ)
    (f : Family) (v : Services) (z : ℤ) (s : State) (y : Stretch) → IsWide z → acts ≤ y.acts → y.line ≡ x.count.line →
    y.index ≡ back_index x → y.wanted + 2 ≡ c' → HasWord (within x) y (word z) c f v s → Again x aims acts c' →
    Comes x.block.call.code c f v aims (stepped_next x z x.block.call.surroundings.acts s)
unfolding M.counter_value ◌>>=◌
summed_does x ls {aims} closed acts c c' f v z s y wide since line at paid q next' =
    let w = x.block.call.surroundings in
    let code = x.block.call.code in
    let i0 = turns_index x.words x.block x.count x.index in
    let p = q.point in
    let h = point_frame q.among.stands q.among.image in
    let near = ls.near in
    let since' = q.since in
    comes_on w.acts (M.counter_value (around_of x) (counter_of x.count) z w.acts s)
    (λ u. M.assigned (around_of x) x.count.counter u)
    (subst (Comes code c f v (before code aims w.acts (λ u. M.assigned (around_of x) x.count.counter u)))
    (sym (fit_is (around_of x) z w.acts s wide))
    (record {
      to = λ early. subst (λ u. Comes code c f v aims (assigns x z w.acts u)) (sym q.state)
          (onward closed q.reach
          (λ g1 at1.
          onward closed
          (back_piece {t = λ j. 0} {rs = valued (word z)} y.wanted g1 (words_back (turn_in x.words x.block x.count)) i0
          (omega (arith, near))
          (record { reserved_stay = λ u n. refl; known_stay = λ b u n o. o; set = λ u n. refl }) ls.back
          (λ b.
          let o = known_word (within x) h (at1 b) in record { pc = o.pc ∙ ap (address b) at; holds = o.holds }))
          (λ g2 at2.
          subst (λ n. Comes code n g2 (services_of p) aims (assigns x z w.acts p.state)) (sym paid)
          (next' p q.numbers g2 z wide q.among (omega (arith, since, since')) (q.line ∙ line)
          (λ b. (in_known h q.among.image.parts (at2 b), (at2 b).holds.regs.0))))));
    }))

-- from the end of a turn's statements
pub stepped_does :
    (x : Loop) → AreLinked x → {aims : Aims (Unit {0})} (closed : Closed x.block.call.code aims) (acts c : ℕ)
    {numbers : ℕ → ℕ} {p : Point} (f : Family) → acts ≤ p.state.world.acts →
    (aims.limits ≡ limits_of x.block.call.surroundings)
    × ((c' : ℕ) (f' : Family) (v : Services) (height : ℕ) (label : Label) (s : State) →
    JumpsTo (within x) x.labels acts c' f' v height label s → aims.jumped c' f' v height label s) →
    c + step_size x + x.most ≤ cost x.block.call.code → IsAmong (within x) numbers p →
    AreIn x.block.call.surroundings p numbers (line_index x) f → Again x aims acts (c + step_size x + 2) →
    Comes x.block.call.code c f (services_of p) aims
    (M.stepped (around_of x) (counter_of x.count) x.count.by x.block.call.surroundings.acts p.state)
unfolding M.stepped M.counter_number V.number ◌>>=◌
stepped_does x ls {aims} closed acts c {numbers} {p} f since jumps paid o there next' =
    let w = x.block.call.surroundings in
    let code = x.block.call.code in
    let k = within x in
    let line = x.count.line in
    let around' = around_of x in
    let read' = read_code x in
    let added' = added_code x in
    let c1 = c + line_size line in
    let need = x.is.registers in
    let some = x.is.some in
    let p1 = with_line line p in
    let y = behind p1 numbers 0 c1 (again_index x) read' in
    onward closed (line_reaches line c f (o.stands, o.image) x.is.act.line_fits ls.line ls.service there)
    (λ g at.
    comes_on w.acts (V.number around' (Y.NumberIn x.count.counter) w.acts p.state) (λ z. added_next x z)
    (comes_map (number_aims k x.labels y) (before code aims w.acts (λ z. added_next x z)) jumps.0
    (V.number around' (Y.NumberIn x.count.counter) w.acts p.state)
    (λ c' f' v' z s q.
    let p2 = q.1.point in
    let since2 = q.1.since in
    let y2 = behind p2 q.1.numbers 0 (c1 + size_of read') (added_index x) added' in
    subst (λ u. Comes code c' f' v' aims (added_next x z w.acts u)) (sym q.1.state)
    (onward closed q.1.reach
    (λ g2 at2.
    comes_on w.acts (R.value_of around' (checked 31 (z +ℤ x.count.by)) w.acts p2.state) (λ n. stepped_next x n)
    (comes_map (number_aims k x.labels y2) (before code aims w.acts (λ n. stepped_next x n)) jumps.0
    (R.value_of around' (checked 31 (z +ℤ x.count.by)) w.acts p2.state)
    (λ c3 f3 v3 n s3 q3.
    summed_does x ls closed acts c3 (c + step_size x + 2) f3 v3 n s3 y2 q3.0 (omega (arith, since, since2)) q.1.line
    refl (omega arith) q3.1 next')
    (λ c3 f3 v3 height label s3 q3. jumps.1 c3 f3 v3 height label s3 (jumps_since (omega (arith, since, since2)) q3))
    (λ c3 f3 v3 r s3 q3. absurd q3)
    (added_does (setting_in x) x.over p2 q.1.numbers (c1 + size_of read') (added_index x) g2 z x.count.by q.1.among
    q.1.line (omega (arith, need, some), x.is.held) q.0 x.is.step.wide ls.added (omega (arith, paid)) at2)))))
    (λ c' f' v' height label s q. jumps.1 c' f' v' height label s (jumps_since since q))
    (λ c' f' v' r s q. absurd q)
    (x.counter.read p1 numbers 0 c1 (again_index x) g (lined_among line o) refl
    (omega (arith, need), x.is.held) ls.again (omega (arith, paid)) at)))
