-- The code of each form of a statement by that of its parts.
use Rattle.std.proofs.Common.{◌≡◌, ℕ, ◌++◌, map, refl, append_assoc, append-nil}
use Rattle.pli_typing.specs.declared.statement.Stmt as S
use Rattle.pli_typing.specs.declared.statement.Stmts as L
use Rattle.pli_language.specs.View.{name_of}
use Rattle.pli_typing.specs.SingleStatements.{OneTurn, CountedTurns}
use Rattle.pli_typing.specs.Resolving.{letters_of}
use Rattle.pli_typing.specs.TypedView.{bit_of, call_of, leaf_type_of, reference_of, stored_of, variable_of}
use Rattle.pli_typing.specs.TypedStatementView.{allocation_of, block_head_of, freeing_of, get_pair_of, put_pair_of, stmt_of, stmts_of, turns_of}
use Rattle.pli_coding.specs.Environments.{none_taken}
use Rattle.pli_coding.specs.Statements.{begin_environment, block_words, in_turns, marked, stmt_code, stmts_code}
use Rattle.pli_coding.specs.Statements.{unit_environment, unit_held, unit_words}
use Rattle.rv_assignment.specs.Pieces.{aggregate_put, elements_put}
use Rattle.rv_statement.specs.Pieces.{acted, aggregate_statement, allocate_statement, area_statement, assign_statement, begin_statement, call_statement, count_statement, elements_statement, emptied_statement, free_statement, get_statement, goto_statement, if_else_statement, if_statement, once_statement, put_statement, return_statement, revert_statement, signal_statement, stop_statement, system_statement, turns_statement, unit_statement, value_statement, while_statement}

pub stmt-Null : (e : _) (t : _) (n : _) → stmt_code e t (stmt_of (S.Null n)) ≡ acted n
unfolding stmt_of acted
stmt-Null e t n = refl

pub stmt-Assign : (e : _) (t : _) (r : _) (s : _) (n : _) → stmt_code e t (stmt_of (S.Assign r s n)) ≡ assign_statement e t (reference_of r) (stored_of s) n
unfolding stmt_of acted assign_statement
stmt-Assign e t r s n = refl

pub stmt-AssignElements : (e : _) (t : _) (r : _) (s : _) (n : _) → stmt_code e t (stmt_of (S.AssignElements r s n)) ≡ elements_statement e t (reference_of r) (stored_of s) n
unfolding stmt_of acted elements_statement elements_put
stmt-AssignElements e t r s n = refl

pub stmt-AssignAggregate : (e : _) (t : _) (r : _) (s : _) (n : _) → stmt_code e t (stmt_of (S.AssignAggregate r s n)) ≡ aggregate_statement e t (reference_of r) (reference_of s) n
unfolding stmt_of acted aggregate_statement aggregate_put
stmt-AssignAggregate e t r s n = refl

pub stmt-AssignArea : (e : _) (t : _) (v : _) (w : _) (n : _) → stmt_code e t (stmt_of (S.AssignArea v w n)) ≡ area_statement e t (variable_of v) (variable_of w) n
unfolding stmt_of acted area_statement
stmt-AssignArea e t v w n = refl

pub stmt-EmptyArea : (e : _) (t : _) (v : _) (n : _) → stmt_code e t (stmt_of (S.EmptyArea v n)) ≡ emptied_statement e t (variable_of v) n
unfolding stmt_of acted emptied_statement
stmt-EmptyArea e t v n = refl

pub stmt-If : (e : _) (t : _) (b : _) (a : _) (u : _) (n : _) → stmt_code e t (stmt_of (S.If' b a u n)) ≡ if_statement e t (bit_of b) (stmt_code e t (stmt_of u)) n
unfolding stmt_of if_statement
stmt-If e t b a u n = refl

pub stmt-IfElse : (e : _) (t : _) (b : _) (a : _) (u : _) (c : _) (o : _) (n : _) → stmt_code e t (stmt_of (S.IfElse' b a u c o n)) ≡ if_else_statement e t (bit_of b) (stmt_code e t (stmt_of u)) (stmt_code e t (stmt_of o)) n
unfolding stmt_of if_else_statement
stmt-IfElse e t b a u c o n = refl

pub stmt-Do : (e : _) (t : _) (body : _) (n : _) → stmt_code e t (stmt_of (S.Do body n)) ≡ acted n ++ stmts_code e t (stmts_of body)
unfolding stmt_of acted
stmt-Do e t body n = refl

pub stmt-DoWhile : (e : _) (t : _) (b : _) (body : _) (n : _) → stmt_code e t (stmt_of (S.DoWhile b body n)) ≡ while_statement e t (bit_of b) (stmts_code e t (stmts_of body)) n
unfolding stmt_of while_statement
stmt-DoWhile e t b body n = refl

pub stmt-DoTurns : (e : _) (t : _) (u : _) (body : _) (n : _) → stmt_code e t (stmt_of (S.DoTurns u body n)) ≡ turns_statement e t (turns_of u) (stmts_of body) n
unfolding stmt_of turns_statement
stmt-DoTurns e t u body n = refl

pub stmt-Begin : (e : _) (t : _) (h : _) (body : _) → stmt_code e t (stmt_of (S.Begin h body))
    ≡ begin_statement e (block_head_of h) (block_words e h.number (stmts_of body))
    (stmts_code (begin_environment (block_head_of h) e) none_taken (stmts_of body))
unfolding stmt_of begin_statement
stmt-Begin e t h body = refl

pub stmt-OnSystem : (e : _) (t : _) (c : _) (n : _) → stmt_code e t (stmt_of (S.OnSystem c n)) ≡ system_statement c n
unfolding stmt_of acted system_statement
stmt-OnSystem e t c n = refl

pub stmt-OnUnit : (e : _) (t : _) (c : _) (h : _) (body : _) (n : _) → stmt_code e t (stmt_of (S.OnUnit c h body n))
    ≡ unit_statement e c (block_head_of h)
    (unit_words e (block_head_of h) (block_head_of h).kind (stmts_of body))
    (unit_held e (block_head_of h) (block_head_of h).kind (stmts_of body))
    (stmts_code (unit_environment (block_head_of h) e) none_taken (stmts_of body)) n
unfolding stmt_of unit_statement
stmt-OnUnit e t c h body n = refl

pub stmt-Call : (e : _) (t : _) (c : _) (n : _) → stmt_code e t (stmt_of (S.Call c n)) ≡ call_statement e t (call_of c) n
unfolding stmt_of acted call_statement
stmt-Call e t c n = refl

pub stmt-Return : (e : _) (t : _) (n : _) → stmt_code e t (stmt_of (S.Return n)) ≡ return_statement e n
unfolding stmt_of acted return_statement
stmt-Return e t n = refl

pub stmt-ReturnValue : (e : _) (t : _) (k : _) (s : _) (n : _) → stmt_code e t (stmt_of (S.ReturnValue k s n)) ≡ value_statement e t (leaf_type_of k) (stored_of s) n
unfolding stmt_of acted value_statement
stmt-ReturnValue e t k s n = refl

pub stmt-Goto : (e : _) (t : _) (level : _) (label : _) (n : _) → stmt_code e t (stmt_of (S.Goto level label n)) ≡ goto_statement e level label.now n
unfolding stmt_of acted goto_statement
stmt-Goto e t level label n = refl

pub stmt-Stop : (e : _) (t : _) (n : _) → stmt_code e t (stmt_of (S.Stop n)) ≡ stop_statement n
unfolding stmt_of acted stop_statement
stmt-Stop e t n = refl

pub stmt-Signal : (e : _) (t : _) (c : _) (n : _) → stmt_code e t (stmt_of (S.Signal c n)) ≡ signal_statement c n
unfolding stmt_of acted signal_statement
stmt-Signal e t c n = refl

pub stmt-Revert : (e : _) (t : _) (c : _) (n : _) → stmt_code e t (stmt_of (S.Revert c n)) ≡ revert_statement c n
unfolding stmt_of acted revert_statement
stmt-Revert e t c n = refl

pub stmt-Allocate : (e : _) (t : _) (all : _) (n : _) → stmt_code e t (stmt_of (S.Allocate all n)) ≡ allocate_statement e t (map allocation_of all.items) n
unfolding stmt_of acted allocate_statement
stmt-Allocate e t all n = refl

pub stmt-Free : (e : _) (t : _) (all : _) (n : _) → stmt_code e t (stmt_of (S.Free all n)) ≡ free_statement e t (map freeing_of all.items) n
unfolding stmt_of acted free_statement
stmt-Free e t all n = refl

pub stmt-Get : (e : _) (t : _) (skip : _) (pairs : _) (n : _) → stmt_code e t (stmt_of (S.Get skip pairs n)) ≡ get_statement e t skip (map get_pair_of pairs.items) n
unfolding stmt_of acted get_statement
stmt-Get e t skip pairs n = refl

pub stmt-Put : (e : _) (t : _) (skip : _) (pairs : _) (n : _) → stmt_code e t (stmt_of (S.Put skip pairs n)) ≡ put_statement e t skip (map put_pair_of pairs.items) n
unfolding stmt_of acted put_statement
stmt-Put e t skip pairs n = refl

pub ruleset statements = (stmt-Null, stmt-Assign, stmt-AssignElements, stmt-AssignAggregate, stmt-AssignArea, stmt-EmptyArea, stmt-If, stmt-IfElse, stmt-Do, stmt-DoWhile, stmt-DoTurns, stmt-Begin, stmt-OnSystem, stmt-OnUnit, stmt-Call, stmt-Return, stmt-ReturnValue, stmt-Goto, stmt-Stop, stmt-Signal, stmt-Revert, stmt-Allocate, stmt-Free, stmt-Get, stmt-Put, append_assoc, append-nil)

pub turns-Once : (e : _) (t : _) (r : _) (s : _) (b : _) (body : _) (n : _) → turns_statement e t (OneTurn r s b) body n ≡ once_statement e t r s b (stmts_code e t body) n
unfolding turns_statement once_statement
turns-Once e t r s b body n = refl

pub turns-Counted : (e : _) (t : _) (c : _) (s : _) (limit : _) (step : _) (b : _) (body : _) (n : _) → turns_statement e t (CountedTurns c s limit step b) body n ≡ count_statement e t c s limit step b (stmts_code e (in_turns t) body) n
unfolding turns_statement count_statement
turns-Counted e t c s limit step b body n = refl

pub ruleset turns = (turns-Once, turns-Counted)

pub list-End : (e : _) (t : _) (labels : _) → stmts_code e t (stmts_of (L.End labels)) ≡ marked e.block (letters_of (map name_of labels.now))
unfolding stmts_of
list-End e t labels = refl

pub list-More : (e : _) (t : _) (labels : _) (a : _) (s : _) (b : _) (rest : _) → stmts_code e t (stmts_of (L.More' labels a s b rest)) ≡ marked e.block (letters_of (map name_of labels.now)) ++ (stmt_code e t (stmt_of s) ++ stmts_code e t (stmts_of rest))
unfolding stmts_of
list-More e t labels a s b rest = refl
