-- The words for temporaries of a procedure and of a block inside it are together fewer than the words of its code.
use Rattle.std.proofs.Common.{◌≡◌, ℕ, suc, ◌+◌, ◌-◌, ◌≤◌, [], ◌∷◌, ◌++◌, None, arith, Option, Some}
use Rattle.std.specs.Prelude.{max}
use Rattle.std.proofs.lemmas.Bool.Decides.{nat_tests}
use Rattle.pli_typing.specs.TypedTree as Y
use Rattle.pli_meaning.specs.DeclaredShapes.{variables_of_block}
use Rattle.pli_coding.specs.Assembly.{Code, size_of, JumpAhead, JumpBack}
use Rattle.pli_coding.specs.Environments.{Environment, Taken, none_taken}
use Rattle.pli_coding.specs.Arithmetic.{fitted_code}
use Rattle.pli_coding.specs.Expressions.{number_code, bit_code, text_code}
use Rattle.pli_coding.specs.Storing.{word_stored, stored_into}
use Rattle.pli_coding.specs.Allocating.{act_code}
use Rattle.pli_headline.specs.InnerWords.{body_words, inner_words, all_inner_words}
use Rattle.pli_headline.specs.ProvedSoFar.{Names, Types, ArePlain, IsProvedStatement, AreProvedStatements}
use Rattle.pli_headline.specs.ProvedSoFar.{IsProvedBitIf, names_in, types_in}
use Rattle.pli_coding.specs.Procedures.{procedure_begun, procedure_ended, procedure_in}
use Rattle.run_steps.proofs.Linking.{size_append}
use Rattle.pli_coding.specs.Entries.{frame_begun, frame_ended, block_left, entered_without_texts, variables_code}
use Rattle.pli_coding.specs.Statements.{begin_environment, begin_code, if_met, while_met, block_words, stmt_code}
use Rattle.pli_coding.specs.Statements.{stmts_code, marked, once_code, in_turns}
use Rattle.pli_coding.specs.Statements.{start_code, limit_code, constant_step, step_code, started_code}
use Rattle.pli_coding.specs.Statements.{turn_of, turns_code, words_back, words_behind_limit, words_behind_condition}
use Rattle.pli_coding.specs.Statements.{limit_kept, while_kept, stepped_code, block_held}
use Rattle.temporary_bounds.specs.WordBounds.{number_words, bit_words, reference_words, stmt_words, stmts_words, bit_if}
use Rattle.temporary_bounds.specs.WordBounds.{number_if, value_words}
use Rattle.temporary_bounds.proofs.StatementBounds.{statements_bound, block_bound}
use Rattle.pli_headline.proofs.Variables.{HasTypes}
use Rattle.pli_headline.proofs.DeclaredNames.{named_in, has_in}
use Rattle.pli_headline.proofs.PieceSizes.{most}
use Rattle.pli_headline.proofs.Sizes.{number_size, bit_size, text_size, act_size, met_size', once_size}
use Rattle.pli_headline.proofs.Sizes.{limit_words_size, step_words_size, condition_words_size, statement_size}
use Rattle.pli_headline.proofs.WholeSizes.{no_variable_words}
use Rattle.pli_headline.proofs.Sizes.{target_size, start_words_size, text_target_size}
use Rattle.pli_headline.proofs.PlainInside.{DeclaresPlain, DeclarePlain}

most_more : (a b d n : ℕ) → a + d ≤ n → b + d ≤ n → max a b + d ≤ n
most_more a b d n h i = grind (arith, nat_tests)

with_most : (a c d n : ℕ) → a + c ≤ n → a + d ≤ n → a + max c d ≤ n
with_most a c d n h i = grind (arith, nat_tests)

both_most : (a b c d n : ℕ) → a + c ≤ n → b + d ≤ n → a + d ≤ n → b + c ≤ n → max a b + max c d ≤ n
both_most a b c d n h i j k = grind (arith, nat_tests)

once_both : (e : Environment) (t : Taken) (block : Names) (types : Types) (has : HasTypes e block types) (condition :
    Option Y.Bit) (line : ℕ) (c : Code) → IsProvedBitIf block types condition
    → bit_if condition + size_of c ≤ size_of (once_code e t condition line c)
once_both e t block types has None line c is = omega arith
once_both e t block types has (Some x) line c is =
    let n = bit_size e t block types has x is in
    let four = act_size line in
    let s1 = size_append (act_code line) (bit_code e t x ++ if_met c) in
    let s2 = size_append (bit_code e t x) (if_met c) in
    let s3 = met_size' c in
    omega (arith, n, four, s1, s2, s3)

mutual
  -- the words of blocks inside alone
  inside_size : (e : Environment) (t : Taken) (block : Names) (types : Types) (named : block.program ≡ e.program) (has : HasTypes e block types) (x : Y.Stmt) → IsProvedStatement block types x → DeclaresPlain e.program x → inner_words x ≤ size_of (stmt_code e t x)
  inside_size e t block types named has (Y.Null line) is bare = omega arith
  inside_size e t block types named has (Y.Assign target (Y.StoredNumber precision x) line) is bare = omega arith
  inside_size e t block types named has (Y.Assign target (Y.StoredBit x) line) is bare = omega arith
  inside_size e t block types named has (Y.Assign target (Y.StoredText x) line) is bare = omega arith
  inside_size e t block types named has (Y.AssignElements target (Y.StoredNumber precision x) line) is bare = omega arith
  inside_size e t block types named has (Y.AssignElements target (Y.StoredBit x) line) is bare = omega arith
  inside_size e t block types named has (Y.AssignElements target (Y.StoredText x) line) is bare = omega arith
  inside_size e t block types named has (Y.AssignAggregate target source line) is bare = omega arith
  inside_size e t block types named has (Y.If condition unit line) is bare =
      let test = bit_code e t condition in
      let c = stmt_code e t unit in
      let m = inside_size e t block types named has unit is.1.0 bare in
      let s1 = size_append (act_code line) (test ++ if_met c) in
      let s2 = size_append test (if_met c) in
      let s3 = met_size' c in
      omega (arith, m, s1, s2, s3)
  inside_size e t block types named has (Y.IfElse condition unit otherwise line) is bare =
      let test = bit_code e t condition in
      let c = stmt_code e t unit in
      let d = stmt_code e t otherwise in
      let over = JumpAhead (size_of d) ∷ [] in
      let m1 = inside_size e t block types named has unit is.1.0 bare.0 in
      let m2 = inside_size e t block types named has otherwise is.1.1.0 bare.1 in
      let s1 = size_append (act_code line) (test ++ (if_met (c ++ over) ++ d)) in
      let s2 = size_append test (if_met (c ++ over) ++ d) in
      let s3 = size_append (if_met (c ++ over)) d in
      let s4 = met_size' (c ++ over) in
      let s5 = size_append c over in
      most _ _ _ (omega (arith, m1, s1, s2, s3, s4, s5)) (omega (arith, m2, s1, s2, s3))
  inside_size e t block types named has (Y.Do body line) is bare =
      let m = all_inside_size e t block types named has body is.0 bare in
      let s = size_append (act_code line) (stmts_code e t body) in
      omega (arith, m, s)
  inside_size e t block types named has (Y.DoWhile condition body line) is bare =
      let test = bit_code e t condition in
      let c = stmts_code e t body in
      let tested = act_code line ++ test in
      let back = JumpBack (size_of tested + (3 + size_of c)) ∷ [] in
      let m = all_inside_size e t block types named has body is.1.0 bare in
      let s1 = size_append (act_code line) (while_met tested c) in
      let s2 = size_append tested (if_met (c ++ back)) in
      let s4 = met_size' (c ++ back) in
      let s5 = size_append c back in
      omega (arith, m, s1, s2, s4, s5)
  inside_size e t block types named has (Y.DoOnce target (Y.StoredNumber precision x) condition body line) is bare =
      let m = all_inside_size e t block types named has body is.1.1.0 bare in
      let both = once_both e t block types has condition line (stmts_code e t body) is.1.0 in
      let code = number_code e t x in
      let fitted = fitted_code t precision in
      let into = stored_into e t target (Y.StoredNumber precision x) in
      let rest = once_code e t condition line (stmts_code e t body) in
      let s1 = size_append (act_code line) (((code ++ fitted) ++ into) ++ rest) in
      let s2 = size_append ((code ++ fitted) ++ into) rest in
      omega (arith, m, both, s1, s2)
  inside_size e t block types named has (Y.DoOnce target (Y.StoredBit x) condition body line) is bare =
      let m = all_inside_size e t block types named has body is.1.1.0 bare in
      let both = once_both e t block types has condition line (stmts_code e t body) is.1.0 in
      let code = bit_code e t x in
      let into = stored_into e t target (Y.StoredBit x) in
      let rest = once_code e t condition line (stmts_code e t body) in
      let s1 = size_append (act_code line) ((code ++ into) ++ rest) in
      let s2 = size_append (code ++ into) rest in
      omega (arith, m, both, s1, s2)
  inside_size e t block types named has (Y.DoOnce target (Y.StoredText x) condition body line) is bare =
      let m = all_inside_size e t block types named has body is.1.1.0 bare in
      let both = once_both e t block types has condition line (stmts_code e t body) is.1.0 in
      let code = text_code e t x in
      let into = stored_into e t target (Y.StoredText x) in
      let rest = once_code e t condition line (stmts_code e t body) in
      let s1 = size_append (act_code line) ((code ++ into) ++ rest) in
      let s2 = size_append (code ++ into) rest in
      omega (arith, m, both, s1, s2)
  inside_size e t block types named has (Y.DoCount (Y.NumberCounter precision target) start limit step condition body line) is bare =
      let counter = Y.NumberCounter precision target in
      let m = all_inside_size e (in_turns t) block types named has body is.1.1.1.0 bare in
      let c = stmts_code e (in_turns t) body in
      let u = turn_of e t counter limit (constant_step step) condition line c in
      let c0 = start_code e t start in
      let c1 = limit_code e t limit in
      let c2 = step_code e t step in
      let c3 = started_code t counter start in
      let lim = limit_kept e t counter limit (constant_step step) (words_behind_limit u) in
      let con = while_kept e t condition (words_behind_condition u) in
      let rest = stepped_code e t counter (constant_step step) line ++ JumpBack (words_back u) ∷ [] in
      let s1 = size_append (act_code line) ((c0 ++ (c1 ++ (c2 ++ c3))) ++ turns_code u) in
      let s2 = size_append (c0 ++ (c1 ++ (c2 ++ c3))) (turns_code u) in
      let s8 = size_append u.begun (lim ++ (con ++ (c ++ rest))) in
      let s9 = size_append lim (con ++ (c ++ rest)) in
      let s10 = size_append con (c ++ rest) in
      let s11 = size_append c rest in
      omega (arith, m, s1, s2, s8, s9, s10, s11)
  inside_size e t block types named has (Y.Begin (Y.BlockOf head body)) is bare =
      let e' = begin_environment head e in
      let words = block_words e head.number body in
      let c = stmts_code e' none_taken body in
      let ended = block_left 0 ++ frame_ended words in
      let made = variables_code e' head.line in
      let enter = entered_without_texts 1 head.line in
      let frame = frame_begun words head.level 0 None in
      let m = statements_inner e' none_taken (names_in block types head (variables_of_block block.program head.number)) (types_in types (variables_of_block block.program head.number)) (named_in block types head (variables_of_block block.program head.number) named) (has_in e block types head named bare.0 has) body is.1.1 bare.1 in
      let s1 = size_append (act_code head.line) (begin_code e head words c) in
      let s2 = size_append frame (enter ++ (made ++ (c ++ ended))) in
      let s3 = size_append enter (made ++ (c ++ ended)) in
      let s4 = size_append made (c ++ ended) in
      let s5 = size_append c ended in
      let four = act_size head.line in
      let few = statements_bound none_taken body in
      most_more _ _ _ _ (omega (arith, few, m, four, s1, s2, s3, s4, s5))
      (omega (arith, few, m, four, s1, s2, s3, s4, s5))
  inside_size e t block types named has (Y.Goto level label line) is bare = omega arith
  inside_size e t block types named has (Y.CallProcedure (Y.Calling procedure level Y.NoArgument) line) is bare = omega arith
  inside_size e t block types named has (Y.Return line) is bare = omega arith
  inside_size e t block types named has (Y.Stop line) is bare = omega arith
  inside_size e t block types named has (Y.Signal condition line) is bare = omega arith
  inside_size e t block types named has (Y.OnSystem condition line) is bare = omega arith
  inside_size e t block types named has (Y.Revert condition line) is bare = omega arith
  inside_size e t block types named has (Y.OnUnit condition (Y.BlockOf head body) line) is bare = omega arith
  inside_size e t block types named has (Y.Put None pairs line) is bare = omega arith
  inside_size e t block types named has (Y.Put (Some n) pairs line) is bare = omega arith
  inside_size e t block types named has (Y.Get None pairs line) is bare = omega arith
  inside_size e t block types named has (Y.Get (Some n) pairs line) is bare = omega arith
  inside_size e t block types named has _ is bare = absurd is

  all_inside_size : (e : Environment) (t : Taken) (block : Names) (types : Types) (named : block.program ≡ e.program) (has : HasTypes e block types) (body : Y.Stmts) → AreProvedStatements block types body → DeclarePlain e.program body → all_inner_words body ≤ size_of (stmts_code e t body)
  all_inside_size e t block types named has (Y.EndOfList labels) are bare = omega arith
  all_inside_size e t block types named has (Y.StmtThen labels first rest) are bare =
      let a = inside_size e t block types named has first are.0 bare.0 in
      let c = all_inside_size e t block types named has rest are.1 bare.1 in
      let s1 = size_append (marked e.block labels) (stmt_code e t first ++ stmts_code e t rest) in
      let s2 = size_append (stmt_code e t first) (stmts_code e t rest) in
      most _ _ _ (omega (arith, a, s1, s2)) (omega (arith, c, s1, s2))

  -- with those of the statements around it
  statement_inner : (e : Environment) (t : Taken) (block : Names) (types : Types) (named : block.program ≡ e.program) (has : HasTypes e block types) (x : Y.Stmt) → IsProvedStatement block types x → DeclaresPlain e.program x → stmt_words x + inner_words x ≤ size_of (stmt_code e t x) + 1
  statement_inner e t block types named has (Y.Null line) is bare = let m = statement_size e t block types has (Y.Null line) is in omega (arith, m)
  statement_inner e t block types named has (Y.Assign target (Y.StoredNumber precision x) line) is bare =
      let m = statement_size e t block types has (Y.Assign target (Y.StoredNumber precision x) line) is in omega (arith, m)
  statement_inner e t block types named has (Y.Assign target (Y.StoredBit x) line) is bare =
      let m = statement_size e t block types has (Y.Assign target (Y.StoredBit x) line) is in omega (arith, m)
  statement_inner e t block types named has (Y.Assign target (Y.StoredText x) line) is bare =
      let m = statement_size e t block types has (Y.Assign target (Y.StoredText x) line) is in omega (arith, m)
  statement_inner e t block types named has (Y.AssignElements target (Y.StoredNumber precision x) line) is bare =
      let m = statement_size e t block types has (Y.AssignElements target (Y.StoredNumber precision x) line) is in omega (arith, m)
  statement_inner e t block types named has (Y.AssignElements target (Y.StoredBit x) line) is bare =
      let m = statement_size e t block types has (Y.AssignElements target (Y.StoredBit x) line) is in omega (arith, m)
  statement_inner e t block types named has (Y.AssignElements target (Y.StoredText x) line) is bare =
      let m = statement_size e t block types has (Y.AssignElements target (Y.StoredText x) line) is in omega (arith, m)
  statement_inner e t block types named has (Y.AssignAggregate target source line) is bare =
      let m = statement_size e t block types has (Y.AssignAggregate target source line) is in omega (arith, m)
  statement_inner e t block types named has (Y.If condition unit line) is bare =
      let test = bit_code e t condition in
      let c = stmt_code e t unit in
      let n = bit_size e t block types has condition is.0 in
      let m = statement_inner e t block types named has unit is.1.0 bare in
      let s1 = size_append (act_code line) (test ++ if_met c) in
      let s2 = size_append test (if_met c) in
      let s3 = met_size' c in
      most_more _ _ _ _ (omega (arith, n, m, s1, s2, s3)) (omega (arith, m, s1, s2, s3))
  statement_inner e t block types named has (Y.IfElse condition unit otherwise line) is bare =
      let test = bit_code e t condition in
      let c = stmt_code e t unit in
      let d = stmt_code e t otherwise in
      let over = JumpAhead (size_of d) ∷ [] in
      let n = bit_size e t block types has condition is.0 in
      let m1 = statement_inner e t block types named has unit is.1.0 bare.0 in
      let m2 = statement_inner e t block types named has otherwise is.1.1.0 bare.1 in
      let s1 = size_append (act_code line) (test ++ (if_met (c ++ over) ++ d)) in
      let s2 = size_append test (if_met (c ++ over) ++ d) in
      let s3 = size_append (if_met (c ++ over)) d in
      let s4 = met_size' (c ++ over) in
      let s5 = size_append c over in
      let tested : bit_words condition + max (inner_words unit) (inner_words otherwise) ≤ size_of (stmt_code e t (Y.IfElse condition unit otherwise line)) + 1 =
      with_most (bit_words condition) (inner_words unit) (inner_words otherwise) _ (omega (arith, n, m1, s1, s2, s3, s4, s5)) (omega (arith, n, m2, s1, s2, s3, s4, s5)) in
      most_more _ _ _ _ tested
      (both_most _ _ _ _ _ (omega (arith, m1, s1, s2, s3, s4, s5)) (omega (arith, m2, s1, s2, s3, s4, s5)) (omega (arith, m1, m2, s1, s2, s3, s4, s5)) (omega (arith, m1, m2, s1, s2, s3, s4, s5)))
  statement_inner e t block types named has (Y.Do body line) is bare =
      let m = statements_inner e t block types named has body is.0 bare in
      let s = size_append (act_code line) (stmts_code e t body) in
      omega (arith, m, s)
  statement_inner e t block types named has (Y.DoWhile condition body line) is bare =
      let test = bit_code e t condition in
      let c = stmts_code e t body in
      let tested = act_code line ++ test in
      let back = JumpBack (size_of tested + (3 + size_of c)) ∷ [] in
      let n = bit_size e t block types has condition is.0 in
      let m = statements_inner e t block types named has body is.1.0 bare in
      let s1 = size_append (act_code line) (while_met tested c) in
      let s2 = size_append tested (if_met (c ++ back)) in
      let s3 = size_append (act_code line) test in
      let s4 = met_size' (c ++ back) in
      let s5 = size_append c back in
      most_more _ _ _ _ (omega (arith, n, m, s1, s2, s3, s4, s5)) (omega (arith, m, s1, s2, s4, s5))
  statement_inner e t block types named has (Y.DoOnce target (Y.StoredNumber precision x) condition body line) is bare =
      let z : reference_words target ≤ size_of (stored_into e t target (Y.StoredNumber precision x)) =
      target_size e t block types has (Y.FixedLeaf precision) tt target is.0.0 in
      let n = number_size e t block types has x is.0.1 in
      let m = statements_inner e t block types named has body is.1.1.0 bare in
      let o = once_size e t block types has condition line (stmts_code e t body) is.1.0 in
      let four = act_size line in
      let code = number_code e t x in
      let fitted = fitted_code t precision in
      let into = stored_into e t target (Y.StoredNumber precision x) in
      let rest = once_code e t condition line (stmts_code e t body) in
      let s1 = size_append (act_code line) (((code ++ fitted) ++ into) ++ rest) in
      let s2 = size_append ((code ++ fitted) ++ into) rest in
      let s3 = size_append (code ++ fitted) into in
      let s4 = size_append code fitted in
      let both = once_both e t block types has condition line (stmts_code e t body) is.1.0 in
      let o1 = o.1 in
      most_more _ _ _ _
      (most_more _ _ _ _ (most_more _ _ _ _ (omega (arith, m, o1, four, s1, s2)) (omega (arith, n, m, o1, s1, s2, s3, s4))) (omega (arith, z, four, m, o1, s1, s2, s3)))
      (most_more _ _ _ _ (omega (arith, both, m, s1, s2)) (omega (arith, m, o1, s1, s2)))
  statement_inner e t block types named has (Y.DoOnce target (Y.StoredBit x) condition body line) is bare =
      let z : reference_words target ≤ size_of (stored_into e t target (Y.StoredBit x)) =
      target_size e t block types has Y.BitLeaf tt target is.0.0 in
      let n = bit_size e t block types has x is.0.1 in
      let m = statements_inner e t block types named has body is.1.1.0 bare in
      let o = once_size e t block types has condition line (stmts_code e t body) is.1.0 in
      let four = act_size line in
      let code = bit_code e t x in
      let into = stored_into e t target (Y.StoredBit x) in
      let rest = once_code e t condition line (stmts_code e t body) in
      let s1 = size_append (act_code line) ((code ++ into) ++ rest) in
      let s2 = size_append (code ++ into) rest in
      let s3 = size_append code into in
      let both = once_both e t block types has condition line (stmts_code e t body) is.1.0 in
      let o1 = o.1 in
      most_more _ _ _ _
      (most_more _ _ _ _ (omega (arith, n, m, o1, s1, s2, s3)) (omega (arith, z, four, m, o1, s1, s2, s3)))
      (most_more _ _ _ _ (omega (arith, both, m, s1, s2)) (omega (arith, m, o1, s1, s2)))
  statement_inner e t block types named has (Y.DoOnce target (Y.StoredText x) condition body line) is bare =
      let z : reference_words target ≤ size_of (stored_into e t target (Y.StoredText x)) =
      text_target_size e t block types has target is.0.0 in
      let n = text_size e t block types has x is.0.1 in
      let m = statements_inner e t block types named has body is.1.1.0 bare in
      let o = once_size e t block types has condition line (stmts_code e t body) is.1.0 in
      let four = act_size line in
      let code = text_code e t x in
      let into = stored_into e t target (Y.StoredText x) in
      let rest = once_code e t condition line (stmts_code e t body) in
      let s1 = size_append (act_code line) ((code ++ into) ++ rest) in
      let s2 = size_append (code ++ into) rest in
      let s3 = size_append code into in
      let both = once_both e t block types has condition line (stmts_code e t body) is.1.0 in
      let o1 = o.1 in
      most_more _ _ _ _
      (most_more _ _ _ _ (omega (arith, n, m, o1, s1, s2, s3)) (omega (arith, z, four, m, o1, s1, s2, s3)))
      (most_more _ _ _ _ (omega (arith, both, m, s1, s2)) (omega (arith, m, o1, s1, s2)))
  statement_inner e t block types named has (Y.DoCount (Y.NumberCounter precision target) start limit step condition body line) is bare =
      let counter = Y.NumberCounter precision target in
      let z = target_size e (in_turns t) block types has (Y.FixedLeaf precision) tt target is.0.0 in
      let n0 = start_words_size e t block types has start is.0.1 in
      let n1 = limit_words_size e t block types has limit is.1.0.0 in
      let n2 = step_words_size e t block types has step is.1.0.1 in
      let c = stmts_code e (in_turns t) body in
      let u = turn_of e t counter limit (constant_step step) condition line c in
      let n3 = condition_words_size e t block types has condition (words_behind_condition u) is.1.1.0 in
      let n4 = statements_inner e (in_turns t) block types named has body is.1.1.1.0 bare in
      let four = act_size line in
      let c0 = start_code e t start in
      let c1 = limit_code e t limit in
      let c2 = step_code e t step in
      let c3 = started_code t counter start in
      let lim = limit_kept e t counter limit (constant_step step) (words_behind_limit u) in
      let con = while_kept e t condition (words_behind_condition u) in
      let rest = stepped_code e t counter (constant_step step) line ++ JumpBack (words_back u) ∷ [] in
      let s1 = size_append (act_code line) ((c0 ++ (c1 ++ (c2 ++ c3))) ++ turns_code u) in
      let s2 = size_append (c0 ++ (c1 ++ (c2 ++ c3))) (turns_code u) in
      let s3 = size_append c0 (c1 ++ (c2 ++ c3)) in
      let s4 = size_append c1 (c2 ++ c3) in
      let s5 = size_append c2 c3 in
      let s0 = size_append (word_stored e (in_turns t) target) (act_code line) in
      let s8 = size_append u.begun (lim ++ (con ++ (c ++ rest))) in
      let s9 = size_append lim (con ++ (c ++ rest)) in
      let s10 = size_append con (c ++ rest) in
      let s11 = size_append c rest in
      most_more _ _ _ _
      (let a : max (value_words start) (max (number_if limit) (number_words step)) + all_inner_words body ≤ size_of (stmt_code e t (Y.DoCount counter start limit step condition body line)) - 2 =
      most_more _ _ _ _ (omega (arith, n0, n4, four, s1, s2, s3, s8, s9, s10, s11))
      (most_more _ _ _ _ (omega (arith, n1, n4, four, s1, s2, s3, s4, s8, s9, s10, s11))
      (omega (arith, n2, n4, four, s1, s2, s3, s4, s5, s8, s9, s10, s11))) in
      omega (arith, a, four, s1))
      (let a : max (suc (reference_words target)) (max (bit_if condition) (stmts_words body)) + all_inner_words body ≤ size_of (stmt_code e t (Y.DoCount counter start limit step condition body line)) - 1 =
      most_more _ _ _ _ (omega (arith, z, four, n4, s0, s1, s2, s8, s9, s10, s11)) (most_more _ _ _ _ (omega (arith, n3, n4, four, s1, s2, s8, s9, s10, s11)) (omega (arith, n4, four, s1, s2, s8, s9, s10, s11))) in
      omega (arith, a, four, s1))
  statement_inner e t block types named has (Y.Begin (Y.BlockOf head body)) is bare =
      let e' = begin_environment head e in
      let words = block_words e head.number body in
      let c = stmts_code e' none_taken body in
      let ended = block_left 0 ++ frame_ended words in
      let made = variables_code e' head.line in
      let enter = entered_without_texts 1 head.line in
      let frame = frame_begun words head.level 0 None in
      let m = statements_inner e' none_taken (names_in block types head (variables_of_block block.program head.number)) (types_in types (variables_of_block block.program head.number)) (named_in block types head (variables_of_block block.program head.number) named) (has_in e block types head named bare.0 has) body is.1.1 bare.1 in
      let s1 = size_append (act_code head.line) (begin_code e head words c) in
      let s2 = size_append frame (enter ++ (made ++ (c ++ ended))) in
      let s3 = size_append enter (made ++ (c ++ ended)) in
      let s4 = size_append made (c ++ ended) in
      let s5 = size_append c ended in
      let four = act_size head.line in
      let few = statements_bound none_taken body in
      let a : max 0 (body_words body) + all_inner_words body ≤ size_of
      (stmt_code e t (Y.Begin (Y.BlockOf head body))) = most_more _ _ _ _
      (omega (arith, few, m, four, s1, s2, s3, s4, s5)) (omega (arith, few, m, four, s1, s2, s3, s4, s5)) in
      omega (arith, a)
  statement_inner e t block types named has (Y.Goto level label line) is bare = omega arith
  statement_inner e t block types named has (Y.CallProcedure (Y.Calling procedure level Y.NoArgument) line) is bare = omega arith
  statement_inner e t block types named has (Y.Return line) is bare = omega arith
  statement_inner e t block types named has (Y.Stop line) is bare = omega arith
  statement_inner e t block types named has (Y.Signal condition line) is bare = omega arith
  statement_inner e t block types named has (Y.OnSystem condition line) is bare = omega arith
  statement_inner e t block types named has (Y.Revert condition line) is bare = omega arith
  statement_inner e t block types named has (Y.OnUnit condition (Y.BlockOf head body) line) is bare = omega arith
  statement_inner e t block types named has (Y.Put None pairs line) is bare =
      let m = statement_size e t block types has (Y.Put None pairs line) is in omega (arith, m)
  statement_inner e t block types named has (Y.Put (Some n) pairs line) is bare =
      let m = statement_size e t block types has (Y.Put (Some n) pairs line) is in omega (arith, m)
  statement_inner e t block types named has (Y.Get None pairs line) is bare =
      let m = statement_size e t block types has (Y.Get None pairs line) is in omega (arith, m)
  statement_inner e t block types named has (Y.Get (Some n) pairs line) is bare =
      let m = statement_size e t block types has (Y.Get (Some n) pairs line) is in omega (arith, m)
  statement_inner e t block types named has _ is bare = absurd is

  statements_inner : (e : Environment) (t : Taken) (block : Names) (types : Types) (named : block.program ≡ e.program) (has : HasTypes e block types) (body : Y.Stmts) → AreProvedStatements block types body → DeclarePlain e.program body → stmts_words body + all_inner_words body ≤ size_of (stmts_code e t body) + 1
  statements_inner e t block types named has (Y.EndOfList labels) are bare = omega arith
  statements_inner e t block types named has (Y.StmtThen labels first rest) are bare =
      let a = statement_inner e t block types named has first are.0 bare.0 in
      let c = statements_inner e t block types named has rest are.1 bare.1 in
      let s1 = size_append (marked e.block labels) (stmt_code e t first ++ stmts_code e t rest) in
      let s2 = size_append (stmt_code e t first) (stmts_code e t rest) in
      let a' = inside_size e t block types named has first are.0 bare.0 in
      let c' = all_inside_size e t block types named has rest are.1 bare.1 in
      both_most _ _ _ _ _ (omega (arith, a, s1, s2)) (omega (arith, c, s1, s2)) (omega (arith, a, c', s1, s2)) (omega (arith, a', c, s1, s2))

-- they are fewer than the words of the procedure's code
pub procedure_inner : (e : Environment) (head : Y.BlockHead) (block : Names) (types : Types) (body : Y.Stmts)
    → block.program ≡ e.program → HasTypes e block types → ArePlain (variables_of_block e.program head.number)
    → AreProvedStatements block types body → DeclarePlain e.program body
    → block_words e head.number body + all_inner_words body ≤ size_of (procedure_in e head body [] None)
procedure_inner e head block types body named has plain are bare =
    let words = block_words e head.number body in
    let held = block_held e head.number body in
    let begun = procedure_begun e head words held [] in
    let code = stmts_code e none_taken body in
    let ended = procedure_ended e head words held None in
    let none = no_variable_words (variables_of_block e.program head.number) plain in
    let n = statements_inner e none_taken block types named has body are bare in
    let s1 = size_append begun (code ++ ended) in
    let s2 = size_append code ended in
    let b = block_bound e.program head.number body in
    most_more _ _ _ _ (omega (arith, b, none, n, s1, s2)) (omega (arith, n, s1, s2))
