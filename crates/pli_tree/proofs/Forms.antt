-- Statements by their forms: one equation for each, of what is judged and of the blocks that it holds.
use Rattle.std.proofs.Common.{◌≡◌, ◌∙◌, ◌+◌, ◌∷◌, ◌++◌, [], ℕ, List, map, length, refl, arith, append_assoc, append-nil, length-append}
use Rattle.std.specs.Prelude.{Some, None}
use Rattle.std.proofs.lemmas.List.{map-append}
use Rattle.pli_language.specs.declared.stmt.Stmt as S
use Rattle.pli_language.specs.declared.stmt.Item as I
use Rattle.pli_language.specs.Declarations.{Block, blocks_in, blocks_in_item, blocks_in_stmt, declared_in}
use Rattle.pli_typing.specs.Judging.{fine}
use Rattle.pli_typing.specs.Resolving.{done, of_judged, ◌>>=◌, block_with, unit_of, letters_of, with_procedure, behind_stmt, statement, statements}
use Rattle.pli_typing.specs.SingleStatements.{Context, in_list, in_block, in_unit, labels_in, goto_statement, call_statement, return_statement, condition, turns, do_statement, assign_statement, allocate_statement, free_statement, get_statement, put_statement}
use Rattle.pli_language.specs.Tree as T
use Rattle.pli_typing.specs.TypedTree as Y
use Rattle.pli_language.specs.View.{name_of, expr_of, reference_of, arguments_of, option_of, allocation_of, freeing_of, skip_of, edit_pair_of, stmt_of, item_of}
use Rattle.pli_language.proofs.Least.{soonest-append}
use Rattle.pli_typing.proofs.Resolutions.{resolutions}
use Rattle.pli_language.proofs.Views.{item_of-Procedure, item_of-Statement}
use Rattle.pli_declare.proofs.Walks.{blocks}
use Rattle.pli_declaring.proofs.Faults.{soonest_none}
use Rattle.pli_tree.specs.Shown.{alone, plain, item_resolved}

-- ---- statements that hold no other
pub plain-Null : (p : _) → plain (stmt_of (S.Null p)) ≡ Y.Null p.line
unfolding plain stmt_of
plain-Null p = refl

pub plain-OnSystem : (on : _) (p : _) → plain (stmt_of (S.OnSystem on p)) ≡ Y.OnSystem on p.line
unfolding plain stmt_of
plain-OnSystem on p = refl

pub plain-Stop : (p : _) → plain (stmt_of (S.Stop p)) ≡ Y.Stop p.line
unfolding plain stmt_of
plain-Stop p = refl

pub plain-Signal : (on : _) (p : _) → plain (stmt_of (S.Signal on p)) ≡ Y.Signal on p.line
unfolding plain stmt_of
plain-Signal on p = refl

pub plain-Revert : (on : _) (p : _) → plain (stmt_of (S.Revert on p)) ≡ Y.Revert on p.line
unfolding plain stmt_of
plain-Revert on p = refl

pub plain-If : (e : _) (a : _) (u : _) (p : _) → plain (stmt_of (S.If' e a u p)) ≡ Y.Null 0
unfolding plain stmt_of
plain-If e a u p = refl

pub plain-IfElse : (e : _) (a : _) (u : _) (d : _) (o : _) (p : _) → plain (stmt_of (S.IfElse' e a u d o p)) ≡ Y.Null 0
unfolding plain stmt_of
plain-IfElse e a u d o p = refl

pub plain-Do : (b : _) (p : _) → plain (stmt_of (S.Do b p)) ≡ Y.Null 0
unfolding plain stmt_of
plain-Do b p = refl

pub plain-DoWhile : (e : _) (b : _) (p : _) → plain (stmt_of (S.DoWhile e b p)) ≡ Y.Null 0
unfolding plain stmt_of
plain-DoWhile e b p = refl

pub plain-DoCount : (k : _) (b : _) (p : _) → plain (stmt_of (S.DoCount k b p)) ≡ Y.Null 0
unfolding plain stmt_of
plain-DoCount k b p = refl

pub plain-Begin : (b : _) (p : _) → plain (stmt_of (S.Begin b p)) ≡ Y.Null 0
unfolding plain stmt_of
plain-Begin b p = refl

pub plain-OnUnit : (on : _) (a : _) (u : _) (p : _) → plain (stmt_of (S.OnUnit' on a u p)) ≡ Y.Null 0
unfolding plain stmt_of
plain-OnUnit on a u p = refl

pub plain-Assign : (r : _) (e : _) (p : _) → plain (stmt_of (S.Assign r e p)) ≡ Y.Null 0
unfolding plain stmt_of
plain-Assign r e p = refl

pub plain-Call : (n : _) (a : _) (p : _) → plain (stmt_of (S.Call n a p)) ≡ Y.Null 0
unfolding plain stmt_of
plain-Call n a p = refl

pub plain-Return : (e : _) (p : _) → plain (stmt_of (S.Return e p)) ≡ Y.Null 0
unfolding plain stmt_of
plain-Return e p = refl

pub plain-Goto : (n : _) (p : _) → plain (stmt_of (S.Goto n p)) ≡ Y.Null 0
unfolding plain stmt_of
plain-Goto n p = refl

pub plain-Allocate : (made : _) (p : _) → plain (stmt_of (S.Allocate made p)) ≡ Y.Null 0
unfolding plain stmt_of
plain-Allocate made p = refl

pub plain-Free : (freed : _) (p : _) → plain (stmt_of (S.Free freed p)) ≡ Y.Null 0
unfolding plain stmt_of
plain-Free freed p = refl

pub plain-Get : (n : _) (ps : _) (p : _) → plain (stmt_of (S.Get n ps p)) ≡ Y.Null 0
unfolding plain stmt_of
plain-Get n ps p = refl

pub plain-Put : (n : _) (ps : _) (p : _) → plain (stmt_of (S.Put n ps p)) ≡ Y.Null 0
unfolding plain stmt_of
plain-Put n ps p = refl

pub ruleset plains = (plain-Null, plain-OnSystem, plain-Stop, plain-Signal, plain-Revert, plain-If, plain-IfElse, plain-Do, plain-DoWhile, plain-DoCount, plain-Begin, plain-OnUnit, plain-Assign, plain-Call, plain-Return, plain-Goto, plain-Allocate, plain-Free, plain-Get, plain-Put)

pub alone-Assign : (c : Context) (r : _) (e : _) (p : _) → alone c (stmt_of (S.Assign r e p)) ≡ assign_statement c.scope (reference_of r) (expr_of e) p
unfolding alone stmt_of
alone-Assign c r e p = refl

pub alone-Call : (c : Context) (n : _) (a : _) (p : _) → alone c (stmt_of (S.Call n a p)) ≡ call_statement c.scope (name_of n) (arguments_of a) p
unfolding alone stmt_of
alone-Call c n a p = refl

pub alone-Return : (c : Context) (e : _) (p : _) → alone c (stmt_of (S.Return e p)) ≡ return_statement c (option_of expr_of e) p
unfolding alone stmt_of
alone-Return c e p = refl

pub alone-Goto : (c : Context) (n : _) (p : _) → alone c (stmt_of (S.Goto n p)) ≡ goto_statement c (name_of n) p
unfolding alone stmt_of
alone-Goto c n p = refl

pub alone-Allocate : (c : Context) (made : _) (p : _) → alone c (stmt_of (S.Allocate made p)) ≡ allocate_statement c.scope (map allocation_of made.items) p
unfolding alone stmt_of
alone-Allocate c made p = refl

pub alone-Free : (c : Context) (freed : _) (p : _) → alone c (stmt_of (S.Free freed p)) ≡ free_statement c.scope (map freeing_of freed.items) p
unfolding alone stmt_of
alone-Free c freed p = refl

pub alone-Get : (c : Context) (n : _) (ps : _) (p : _) → alone c (stmt_of (S.Get n ps p)) ≡ get_statement c.scope (option_of skip_of n) (map edit_pair_of ps.items) p
unfolding alone stmt_of
alone-Get c n ps p = refl

pub alone-Put : (c : Context) (n : _) (ps : _) (p : _) → alone c (stmt_of (S.Put n ps p)) ≡ put_statement c.scope (option_of skip_of n) (map edit_pair_of ps.items) p
unfolding alone stmt_of
alone-Put c n ps p = refl

pub alone-Null : (c : Context) (p : _) → alone c (stmt_of (S.Null p)) ≡ fine (Y.Null p.line)
unfolding alone plain stmt_of
alone-Null c p = refl

pub alone-OnSystem : (c : Context) (on : _) (p : _) → alone c (stmt_of (S.OnSystem on p)) ≡ fine (Y.OnSystem on p.line)
unfolding alone plain stmt_of
alone-OnSystem c on p = refl

pub alone-Stop : (c : Context) (p : _) → alone c (stmt_of (S.Stop p)) ≡ fine (Y.Stop p.line)
unfolding alone plain stmt_of
alone-Stop c p = refl

pub alone-Signal : (c : Context) (on : _) (p : _) → alone c (stmt_of (S.Signal on p)) ≡ fine (Y.Signal on p.line)
unfolding alone plain stmt_of
alone-Signal c on p = refl

pub alone-Revert : (c : Context) (on : _) (p : _) → alone c (stmt_of (S.Revert on p)) ≡ fine (Y.Revert on p.line)
unfolding alone plain stmt_of
alone-Revert c on p = refl

pub alone-If : (c : Context) (e : _) (a : _) (u : _) (p : _) → alone c (stmt_of (S.If' e a u p)) ≡ fine (Y.Null 0)
unfolding alone plain stmt_of
alone-If c e a u p = refl

pub alone-IfElse : (c : Context) (e : _) (a : _) (u : _) (d : _) (o : _) (p : _) → alone c (stmt_of (S.IfElse' e a u d o p)) ≡ fine (Y.Null 0)
unfolding alone plain stmt_of
alone-IfElse c e a u d o p = refl

pub alone-Do : (c : Context) (b : _) (p : _) → alone c (stmt_of (S.Do b p)) ≡ fine (Y.Null 0)
unfolding alone plain stmt_of
alone-Do c b p = refl

pub alone-DoWhile : (c : Context) (e : _) (b : _) (p : _) → alone c (stmt_of (S.DoWhile e b p)) ≡ fine (Y.Null 0)
unfolding alone plain stmt_of
alone-DoWhile c e b p = refl

pub alone-DoCount : (c : Context) (k : _) (b : _) (p : _) → alone c (stmt_of (S.DoCount k b p)) ≡ fine (Y.Null 0)
unfolding alone plain stmt_of
alone-DoCount c k b p = refl

pub alone-Begin : (c : Context) (b : _) (p : _) → alone c (stmt_of (S.Begin b p)) ≡ fine (Y.Null 0)
unfolding alone plain stmt_of
alone-Begin c b p = refl

pub alone-OnUnit : (c : Context) (on : _) (a : _) (u : _) (p : _) → alone c (stmt_of (S.OnUnit' on a u p)) ≡ fine (Y.Null 0)
unfolding alone plain stmt_of
alone-OnUnit c on a u p = refl

pub ruleset singles = (alone-Assign, alone-Call, alone-Return, alone-Goto, alone-Allocate, alone-Free, alone-Get, alone-Put, alone-Null, alone-OnSystem, alone-Stop, alone-Signal, alone-Revert, alone-If, alone-IfElse, alone-Do, alone-DoWhile, alone-DoCount, alone-Begin, alone-OnUnit, plain-Null, plain-OnSystem, plain-Stop, plain-Signal, plain-Revert, plain-If, plain-IfElse, plain-Do, plain-DoWhile, plain-DoCount, plain-Begin, plain-OnUnit)

-- ---- statements that hold others

pub statement_If : (c : Context) (next : ℕ) (e : T.Expr) (u : T.Stmt) (p : _) → statement c next (T.If e u p) ≡ (of_judged (condition c.scope e) >>= λ b. statement c next u >>= λ s. done (Y.If b s p.line))
unfolding statement
statement_If c next e u p = refl

pub statement_IfElse : (c : Context) (next : ℕ) (e : T.Expr) (u o : T.Stmt) (p : _) → statement c next (T.IfElse e u o p) ≡ (of_judged (condition c.scope e) >>= λ b. statement c next u >>= λ s. statement c (behind_stmt c next u) o >>= λ t. done (Y.IfElse b s t p.line))
unfolding statement
statement_IfElse c next e u o p = refl

pub statement_DoWhile : (c : Context) (next : ℕ) (e : T.Expr) (b : T.Items) (p : _) → statement c next (T.DoWhile e b p) ≡ (of_judged (condition c.scope e) >>= λ t. statements (in_list c (labels_in b)) next b >>= λ ss. done (Y.DoWhile t ss p.line))
unfolding statement
statement_DoWhile c next e b p = refl

pub statement_DoCount : (c : Context) (next : ℕ) (k : T.Counting) (b : T.Items) (p : _) → statement c next (T.DoCount k b p) ≡ (of_judged (turns c.scope k) >>= λ t. statements (in_list c (labels_in b)) next b >>= λ ss. done (do_statement t ss p.line))
unfolding statement
statement_DoCount c next k b p = refl

pub statement_Begin : (c : Context) (next : ℕ) (b : T.Items) (p : _) → statement c next (T.Begin b p) ≡ (statements (in_block c next (labels_in b)) (next + 1) b >>= λ ss. done (Y.Begin (block_with Y.BeginBlock c.scope.blocks next p.line ss)))
unfolding statement
statement_Begin c next b p = refl

pub statement_OnUnit : (c : Context) (next : ℕ) (on : _) (u : T.Stmt) (p : _) → statement c next (T.OnUnit on u p) ≡ (statement (in_unit c) next u >>= λ s. done (Y.OnUnit on (unit_of c p.line s) p.line))
unfolding statement
statement_OnUnit c next on u p = refl

pub blocks_If : (around : List ℕ) (next : ℕ) (e : T.Expr) (u : T.Stmt) (p : _) → blocks_in_stmt around next (T.If e u p) ≡ blocks_in_stmt around next u
unfolding blocks_in_stmt
blocks_If around next e u p = refl

pub blocks_IfElse : (around : List ℕ) (next : ℕ) (e : T.Expr) (u o : T.Stmt) (p : _) → blocks_in_stmt around next (T.IfElse e u o p) ≡ blocks_in_stmt around next u ++ blocks_in_stmt around (next + length (blocks_in_stmt around next u)) o
unfolding blocks_in_stmt
blocks_IfElse around next e u o p = refl

pub blocks_DoWhile : (around : List ℕ) (next : ℕ) (e : T.Expr) (b : T.Items) (p : _) → blocks_in_stmt around next (T.DoWhile e b p) ≡ blocks_in around next b
unfolding blocks_in_stmt
blocks_DoWhile around next e b p = refl

pub blocks_DoCount : (around : List ℕ) (next : ℕ) (k : T.Counting) (b : T.Items) (p : _) → blocks_in_stmt around next (T.DoCount k b p) ≡ blocks_in around next b
unfolding blocks_in_stmt
blocks_DoCount around next k b p = refl

pub blocks_Begin : (around : List ℕ) (next : ℕ) (b : T.Items) (p : _) → blocks_in_stmt around next (T.Begin b p) ≡ record { around = next ∷ around; head = None; declarations = declared_in b } ∷ blocks_in (next ∷ around) (next + 1) b
unfolding blocks_in_stmt
blocks_Begin around next b p = refl

pub blocks_OnUnit : (around : List ℕ) (next : ℕ) (on : _) (u : T.Stmt) (p : _) → blocks_in_stmt around next (T.OnUnit on u p) ≡ blocks_in_stmt around next u
unfolding blocks_in_stmt
blocks_OnUnit around next on u p = refl

-- ---- items

pub item_Procedure : (c : Context) (next : ℕ) (h : T.ProcedureHead) (b : T.Items) → item_resolved c next (T.Procedure h b) ≡ (with_procedure c next h (statements (in_block c next (labels_in b)) (next + 1) b) >>= λ u. done [])
unfolding item_resolved
item_Procedure c next h b = grind (arith, append-nil)

pub item_Statement : (c : Context) (next : ℕ) (ls : List T.Name) (s : T.Stmt) → item_resolved c next (T.Statement ls s) ≡ (statement c next s >>= λ t. done (record { labels = letters_of ls; statement = t } ∷ []))
unfolding item_resolved
item_Statement c next ls s = grind (arith, append-nil)

pub item_Declare : (c : Context) (next : ℕ) (ds : _) (p : _) → item_resolved c next (item_of (I.Declare ds p)) ≡ done []
unfolding item_resolved item_of
item_Declare c next ds p = refl

pub item_EndLabels : (c : Context) (next : ℕ) (ls : _) (p : _) → item_resolved c next (item_of (I.EndLabels ls p)) ≡ done []
unfolding item_resolved item_of
item_EndLabels c next ls p = refl

pub blocks_Procedure : (around : List ℕ) (next : ℕ) (h : T.ProcedureHead) (b : T.Items) → blocks_in_item around next (T.Procedure h b) ≡ record { around = next ∷ around; head = Some h; declarations = declared_in b } ∷ blocks_in (next ∷ around) (next + 1) b
unfolding blocks_in_item
blocks_Procedure around next h b = refl

pub blocks_Statement : (around : List ℕ) (next : ℕ) (ls : List T.Name) (s : T.Stmt) → blocks_in_item around next (T.Statement ls s) ≡ blocks_in_stmt around next s
unfolding blocks_in_item
blocks_Statement around next ls s = refl

-- ---- how many blocks

abbrev pub no_blocks : List Block
no_blocks = []

pub none_more : (n : ℕ) → n + length no_blocks ≡ n
none_more n = omega arith

pub one_more : (n : ℕ) (b : Block) (bs : List Block) → n + length (b ∷ bs) ≡ (n + 1) + length bs
one_more n b bs = omega arith

pub two_in_turn : (n : ℕ) (bs cs : List Block) → n + length (bs ++ cs) ≡ (n + length bs) + length cs
two_in_turn n bs cs = omega (arith, length-append bs cs)

-- lists behind lists
pub ruleset puts = (map-append, append_assoc)

-- what is said of a statement and of an item by its parts
pub ruleset forms = (resolutions, blocks, singles, soonest-append, soonest_none, append_assoc, append-nil, map-append, statement_If, statement_IfElse, statement_DoWhile, statement_DoCount, statement_Begin, statement_OnUnit, blocks_If, blocks_IfElse, blocks_DoWhile, blocks_DoCount, blocks_Begin, blocks_OnUnit, item_Procedure, item_Statement, item_Declare, item_EndLabels, blocks_Procedure, blocks_Statement, item_of-Procedure, item_of-Statement, none_more, one_more, two_in_turn)
