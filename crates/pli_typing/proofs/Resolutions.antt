-- What is judged of each form of statement and each item of a list, as a program holds it: one equation for each variant.
use Rattle.std.proofs.Common.{◌≡◌, ◌+◌, [], map, refl}
use Rattle.pli_language.specs.declared.stmt.Stmt as S
use Rattle.pli_language.specs.declared.stmt.Item as I
use Rattle.pli_language.specs.declared.stmt.Items as J
use Rattle.pli_language.specs.Tree.{Procedure}
use Rattle.pli_language.specs.View.{name_of, expr_of, reference_of, arguments_of, option_of, allocation_of, freeing_of, skip_of, edit_pair_of, counting_of, procedure_head_of, stmt_of, item_of, items_of}
use Rattle.pli_typing.specs.TypedTree as Y
use Rattle.pli_typing.specs.SingleStatements.{in_list, in_block, in_unit, labels_in, goto_statement, call_statement, return_statement, condition, turns, do_statement, assign_statement, allocate_statement, free_statement, get_statement, put_statement}
use Rattle.pli_typing.specs.Resolving.{done, of_judged, ◌>>=◌, block_with, unit_of, letters_of, with_procedure, behind_stmt, behind_item, statement, statements}

pub statement-Null : (c : _) (next : _) (p : _) → statement c next (stmt_of (S.Null p)) ≡ done (Y.Null p.line)
unfolding statement stmt_of
statement-Null c next p = refl

pub statement-Assign : (c : _) (next : _) (r : _) (e : _) (p : _) → statement c next (stmt_of (S.Assign r e p)) ≡ of_judged (assign_statement c.scope (reference_of r) (expr_of e) p)
unfolding statement stmt_of
statement-Assign c next r e p = refl

pub statement-If : (c : _) (next : _) (e : _) (a : _) (u : _) (p : _) → statement c next (stmt_of (S.If' e a u p)) ≡ (of_judged (condition c.scope (expr_of e)) >>= λ b. statement c next (stmt_of u) >>= λ s. done (Y.If b s p.line))
unfolding statement stmt_of
statement-If c next e a u p = refl

pub statement-IfElse : (c : _) (next : _) (e : _) (a : _) (u : _) (d : _) (o : _) (p : _) → statement c next (stmt_of (S.IfElse' e a u d o p)) ≡ (of_judged (condition c.scope (expr_of e)) >>= λ b. statement c next (stmt_of u) >>= λ s. statement c (behind_stmt c next (stmt_of u)) (stmt_of o) >>= λ t. done (Y.IfElse b s t p.line))
unfolding statement stmt_of
statement-IfElse c next e a u d o p = refl

pub statement-Do : (c : _) (next : _) (b : _) (p : _) → statement c next (stmt_of (S.Do b p)) ≡ (statements (in_list c (labels_in (items_of b))) next (items_of b) >>= λ ss. done (Y.Do ss p.line))
unfolding statement stmt_of
statement-Do c next b p = refl

pub statement-DoWhile : (c : _) (next : _) (e : _) (b : _) (p : _) → statement c next (stmt_of (S.DoWhile e b p)) ≡ (of_judged (condition c.scope (expr_of e)) >>= λ t. statements (in_list c (labels_in (items_of b))) next (items_of b) >>= λ ss. done (Y.DoWhile t ss p.line))
unfolding statement stmt_of
statement-DoWhile c next e b p = refl

pub statement-DoCount : (c : _) (next : _) (k : _) (b : _) (p : _) → statement c next (stmt_of (S.DoCount k b p)) ≡ (of_judged (turns c.scope (counting_of k)) >>= λ t. statements (in_list c (labels_in (items_of b))) next (items_of b) >>= λ ss. done (do_statement t ss p.line))
unfolding statement stmt_of
statement-DoCount c next k b p = refl

pub statement-Begin : (c : _) (next : _) (b : _) (p : _) → statement c next (stmt_of (S.Begin b p)) ≡ (statements (in_block c next (labels_in (items_of b))) (next + 1) (items_of b) >>= λ ss. done (Y.Begin (block_with Y.BeginBlock c.scope.blocks next p.line ss)))
unfolding statement stmt_of
statement-Begin c next b p = refl

pub statement-OnSystem : (c : _) (next : _) (on : _) (p : _) → statement c next (stmt_of (S.OnSystem on p)) ≡ done (Y.OnSystem on p.line)
unfolding statement stmt_of
statement-OnSystem c next on p = refl

pub statement-OnUnit : (c : _) (next : _) (on : _) (a : _) (u : _) (p : _) → statement c next (stmt_of (S.OnUnit' on a u p)) ≡ (statement (in_unit c) next (stmt_of u) >>= λ s. done (Y.OnUnit on (unit_of c p.line s) p.line))
unfolding statement stmt_of
statement-OnUnit c next on a u p = refl

pub statement-Call : (c : _) (next : _) (n : _) (a : _) (p : _) → statement c next (stmt_of (S.Call n a p)) ≡ of_judged (call_statement c.scope (name_of n) (arguments_of a) p)
unfolding statement stmt_of
statement-Call c next n a p = refl

pub statement-Return : (c : _) (next : _) (e : _) (p : _) → statement c next (stmt_of (S.Return e p)) ≡ of_judged (return_statement c (option_of expr_of e) p)
unfolding statement stmt_of
statement-Return c next e p = refl

pub statement-Goto : (c : _) (next : _) (n : _) (p : _) → statement c next (stmt_of (S.Goto n p)) ≡ of_judged (goto_statement c (name_of n) p)
unfolding statement stmt_of
statement-Goto c next n p = refl

pub statement-Stop : (c : _) (next : _) (p : _) → statement c next (stmt_of (S.Stop p)) ≡ done (Y.Stop p.line)
unfolding statement stmt_of
statement-Stop c next p = refl

pub statement-Signal : (c : _) (next : _) (on : _) (p : _) → statement c next (stmt_of (S.Signal on p)) ≡ done (Y.Signal on p.line)
unfolding statement stmt_of
statement-Signal c next on p = refl

pub statement-Revert : (c : _) (next : _) (on : _) (p : _) → statement c next (stmt_of (S.Revert on p)) ≡ done (Y.Revert on p.line)
unfolding statement stmt_of
statement-Revert c next on p = refl

pub statement-Allocate : (c : _) (next : _) (made : _) (p : _) → statement c next (stmt_of (S.Allocate made p)) ≡ of_judged (allocate_statement c.scope (map allocation_of made.items) p)
unfolding statement stmt_of
statement-Allocate c next made p = refl

pub statement-Free : (c : _) (next : _) (freed : _) (p : _) → statement c next (stmt_of (S.Free freed p)) ≡ of_judged (free_statement c.scope (map freeing_of freed.items) p)
unfolding statement stmt_of
statement-Free c next freed p = refl

pub statement-Get : (c : _) (next : _) (n : _) (ps : _) (p : _) → statement c next (stmt_of (S.Get n ps p)) ≡ of_judged (get_statement c.scope (option_of skip_of n) (map edit_pair_of ps.items) p)
unfolding statement stmt_of
statement-Get c next n ps p = refl

pub statement-Put : (c : _) (next : _) (n : _) (ps : _) (p : _) → statement c next (stmt_of (S.Put n ps p)) ≡ of_judged (put_statement c.scope (option_of skip_of n) (map edit_pair_of ps.items) p)
unfolding statement stmt_of
statement-Put c next n ps p = refl

pub statements-End : (c : _) (next : _) → statements c next (items_of (J.End)) ≡ done (Y.EndOfList [])
unfolding statements items_of item_of
statements-End c next = refl

pub statements-Procedure : (c : _) (next : _) (a : _) (h : _) (b : _) (d : _) (is : _) → statements c next (items_of (J.More' a (I.Procedure h b) d is)) ≡ (with_procedure c next (procedure_head_of h) (statements (in_block c next (labels_in (items_of b))) (next + 1) (items_of b)) >>= λ u. statements c (behind_item c next (Procedure (procedure_head_of h) (items_of b))) (items_of is))
unfolding statements items_of item_of
statements-Procedure c next a h b d is = refl

pub statements-Declare : (c : _) (next : _) (a : _) (ds : _) (p : _) (d : _) (is : _) → statements c next (items_of (J.More' a (I.Declare ds p) d is)) ≡ statements c next (items_of is)
unfolding statements items_of item_of
statements-Declare c next a ds p d is = refl

pub statements-Statement : (c : _) (next : _) (a : _) (ls : _) (s : _) (d : _) (is : _) → statements c next (items_of (J.More' a (I.Statement ls s) d is)) ≡ (statement c next (stmt_of s) >>= λ t. statements c (behind_stmt c next (stmt_of s)) (items_of is) >>= λ ss. done (Y.StmtThen (letters_of (map name_of ls.items)) t ss))
unfolding statements items_of item_of
statements-Statement c next a ls s d is = refl

pub statements-EndLabels : (c : _) (next : _) (a : _) (ls : _) (p : _) (d : _) (is : _) → statements c next (items_of (J.More' a (I.EndLabels ls p) d is)) ≡ done (Y.EndOfList (letters_of (map name_of ls.items)))
unfolding statements items_of item_of
statements-EndLabels c next a ls p d is = refl

-- the equations of statements and lists
pub ruleset resolutions = (statement-Null, statement-Assign, statement-If, statement-IfElse, statement-Do, statement-DoWhile, statement-DoCount, statement-Begin, statement-OnSystem, statement-OnUnit, statement-Call, statement-Return, statement-Goto, statement-Stop, statement-Signal, statement-Revert, statement-Allocate, statement-Free, statement-Get, statement-Put, statements-End, statements-Procedure, statements-Declare, statements-Statement, statements-EndLabels)
