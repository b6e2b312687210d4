-- Where the code of statements stands that are in others: chosen, or in a group or a loop.
use Rattle.std.proofs.Common.{◌≡◌, ℕ, ◌+◌, List, [], ◌∷◌, ◌++◌, subst, arith}
use Rattle.pli_typing.specs.TypedTree as Y
use Rattle.pli_meaning.specs.Control.{Label}
use Rattle.pli_coding.specs.Allocating.{act_code}
use Rattle.pli_coding.specs.Assembly.{JumpAhead, JumpBack, size_of}
use Rattle.pli_coding.specs.Environments.{none_taken}
use Rattle.pli_coding.specs.Expressions.{bit_code}
use Rattle.pli_coding.specs.Statements.{if_met, marked, one_of, stmt_code, stmts_code, while_met}
use Rattle.run_steps.proofs.Linking.{size_append}
use Rattle.program_places.specs.Placed.{Placed}
use Rattle.program_places.proofs.Marks.{placed_back, placed_front}
use Rattle.program_runs.specs.Statements.{Block}
use Rattle.group_runs.specs.Groups.{list_index}
use Rattle.test_runs.specs.Choices.{behind_act, behind_choice, behind_test, body_index}
use Rattle.test_runs.proofs.Chosen.{met_size, past}
use Rattle.number_runs.specs.Knowledge.{AreStanding, Standing}

pub met_stands :
    (k : Block) (condition : Y.Bit) (unit : Y.Stmt) (line index : ℕ) → Standing k (Y.If condition unit line) index →
    Standing k unit (behind_test k condition (behind_act line index))
met_stands k condition unit line index at =
    let one = act_code line in
    let test = bit_code k.environment none_taken condition in
    let part = stmt_code k.environment none_taken unit in
    placed_back (past part) part (placed_back test (if_met part) (placed_back one (test ++ if_met part) at))

pub first_stands :
    (k : Block) (condition : Y.Bit) (unit otherwise : Y.Stmt) (line index : ℕ) →
    Standing k (Y.IfElse condition unit otherwise line) index →
    Standing k unit (behind_test k condition (behind_act line index))
first_stands k condition unit otherwise line index at =
    let one = act_code line in
    let test = bit_code k.environment none_taken condition in
    let first = stmt_code k.environment none_taken unit in
    let second = stmt_code k.environment none_taken otherwise in
    let jump = JumpAhead (size_of second) ∷ [] in
    let part = first ++ jump in
    let both = one_of first second in
    placed_front first jump
    (placed_back (past part) part
    (placed_front (if_met part) second (placed_back test both (placed_back one (test ++ both) at))))

pub second_stands :
    (k : Block) (condition : Y.Bit) (unit otherwise : Y.Stmt) (line index : ℕ) →
    Standing k (Y.IfElse condition unit otherwise line) index →
    Standing k otherwise (behind_choice k unit (behind_test k condition (behind_act line index)))
second_stands k condition unit otherwise line index at =
    let one = act_code line in
    let test = bit_code k.environment none_taken condition in
    let first = stmt_code k.environment none_taken unit in
    let second = stmt_code k.environment none_taken otherwise in
    let jump = JumpAhead (size_of second) ∷ [] in
    let part = first ++ jump in
    let both = one_of first second in
    let n0 = met_size part in
    let n1 = size_append first jump in
    subst (λ i. Placed k.call.surroundings.links k.call.code i second) (omega (arith, n0, n1))
    (placed_back (if_met part) second (placed_back test both (placed_back one (test ++ both) at)))

pub group_stands :
    (k : Block) (body : Y.Stmts) (line index : ℕ) → Standing k (Y.Do body line) index →
    AreStanding k body (list_index line index)
group_stands k body line index at =
    placed_back (act_code line) (stmts_code k.environment none_taken body) at

pub turns_stand :
    (k : Block) (condition : Y.Bit) (body : Y.Stmts) (line index : ℕ) →
    Standing k (Y.DoWhile condition body line) index → AreStanding k body (body_index k condition line index)
turns_stand k condition body line index at =
    let one = act_code line in
    let bit = bit_code k.environment none_taken condition in
    let test = one ++ bit in
    let all = stmts_code k.environment none_taken body in
    let jump = JumpBack (size_of test + (3 + size_of all)) ∷ [] in
    let part = all ++ jump in
    let n0 = size_append one bit in
    subst (λ i. Placed k.call.surroundings.links k.call.code i all) (omega (arith, n0))
    (placed_front all jump
    (placed_back (past part) part (placed_back test (if_met part) (placed_back one (while_met test all) at))))

-- of a list
pub one_stands :
    (k : Block) (own : List Label) (first : Y.Stmt) (rest : Y.Stmts) (index : ℕ) →
    AreStanding k (Y.StmtThen own first rest) index →
    Standing k first (index + size_of (marked k.environment.block own))
one_stands k own first rest index at =
    let one = stmt_code k.environment none_taken first in
    let more = stmts_code k.environment none_taken rest in
    placed_front one more (placed_back (marked k.environment.block own) (one ++ more) at)

pub rest_stands :
    (k : Block) (own : List Label) (first : Y.Stmt) (rest : Y.Stmts) (index : ℕ) →
    AreStanding k (Y.StmtThen own first rest) index →
    AreStanding k rest
    (index + size_of (marked k.environment.block own) + size_of (stmt_code k.environment none_taken first))
rest_stands k own first rest index at =
    let one = stmt_code k.environment none_taken first in
    let more = stmts_code k.environment none_taken rest in
    placed_back one more (placed_back (marked k.environment.block own) (one ++ more) at)
