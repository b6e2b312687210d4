-- The views of trees, one equation for each variant, and all of them as one set.
use Rattle.std.proofs.Common.{◌≡◌, map, refl}
use Rattle.pli_language.specs.declared.expr.Expr.{Expr as ExprHeld}
use Rattle.pli_language.specs.declared.expr.Expr as E
use Rattle.pli_language.specs.declared.expr.Reference.{Reference as ReferenceHeld}
use Rattle.pli_language.specs.declared.expr.Reference as R
use Rattle.pli_language.specs.declared.expr.Qualified.{Qualified as QualifiedHeld}
use Rattle.pli_language.specs.declared.expr.Qualified as Q
use Rattle.pli_language.specs.declared.expr.Arguments.{Arguments as ArgumentsHeld}
use Rattle.pli_language.specs.declared.expr.Arguments as A
use Rattle.pli_language.specs.declared.expr.Exprs.{Exprs as ExprsHeld}
use Rattle.pli_language.specs.declared.expr.Exprs as L
use Rattle.pli_language.specs.Tree.{Number, Text, Bit, Parenthesized, Prefix, Infix, Refers, Plain, Located, Last, Of, Absent, Listed, NoExpr, ExprThen}
use Rattle.pli_language.specs.declared.stmt.Format.{Format as FormatHeld}
use Rattle.pli_language.specs.declared.stmt.Format as F
use Rattle.pli_language.specs.declared.stmt.Formats.{Formats as FormatsHeld}
use Rattle.pli_language.specs.declared.stmt.Formats as G
use Rattle.pli_language.specs.declared.stmt.Stmt.{Stmt as StmtHeld}
use Rattle.pli_language.specs.declared.stmt.Stmt as S
use Rattle.pli_language.specs.declared.stmt.Item.{Item as ItemHeld}
use Rattle.pli_language.specs.declared.stmt.Item as I
use Rattle.pli_language.specs.declared.stmt.Items.{Items as ItemsHeld}
use Rattle.pli_language.specs.declared.stmt.Items as J
use Rattle.pli_language.specs.Tree.{FormatList, FixedFormat, TextFormat, SpaceFormat, SkipFormat, ColumnFormat, NoFormat, FormatThen, Null, Assign, If, IfElse, Do, DoWhile, DoCount, Begin, OnSystem, OnUnit, Call, Return, Goto, Stop, Signal, Revert, Allocate, Free, Get, Put, Procedure, Declare, Statement, EndLabels, NoItem, ItemThen}
use Rattle.pli_language.specs.View.{name_of, expr_of, reference_of, qualified_of, arguments_of, exprs_of, option_of, declare_item_of, allocation_of, freeing_of, format_of, formats_of, edit_pair_of, skip_of, procedure_head_of, counting_of, stmt_of, item_of, items_of}

pub expr_of-Number : (v : _) (p : _) → expr_of (E.Number v p) ≡ Number v p
unfolding expr_of
expr_of-Number v p = refl

pub expr_of-Text : (v : _) (p : _) → expr_of (E.Text v p) ≡ Text v.items p
unfolding expr_of
expr_of-Text v p = refl

pub expr_of-Bit : (v : _) (p : _) → expr_of (E.Bit v p) ≡ Bit v p
unfolding expr_of
expr_of-Bit v p = refl

pub expr_of-Parenthesized : (a : _) (e : _) (p : _) → expr_of (E.Parenthesized' a e p) ≡ Parenthesized (expr_of e) p
unfolding expr_of
expr_of-Parenthesized a e p = refl

pub expr_of-Prefix : (op : _) (a : _) (e : _) (p : _) → expr_of (E.Prefix' op a e p) ≡ Prefix op (expr_of e) p
unfolding expr_of
expr_of-Prefix op a e p = refl

pub expr_of-Infix : (op : _) (a : _) (l : _) (b : _) (r : _) → expr_of (E.Infix' op a l b r) ≡ Infix op (expr_of l) (expr_of r)
unfolding expr_of
expr_of-Infix op a l b r = refl

pub expr_of-Refers : (r : _) → expr_of (E.Refers r) ≡ Refers (reference_of r)
unfolding expr_of
expr_of-Refers r = refl

pub reference_of-Plain : (q : _) → reference_of (R.Plain q) ≡ Plain (qualified_of q)
unfolding reference_of
reference_of-Plain q = refl

pub reference_of-Located : (a : _) (r : _) (q : _) → reference_of (R.Located' a r q) ≡ Located (reference_of r) (qualified_of q)
unfolding reference_of
reference_of-Located a r q = refl

pub qualified_of-Last : (n : _) (a : _) → qualified_of (Q.Last n a) ≡ Last (name_of n) (arguments_of a)
unfolding qualified_of
qualified_of-Last n a = refl

pub qualified_of-Of : (n : _) (a : _) (p : _) (q : _) → qualified_of (Q.Of' n a p q) ≡ Of (name_of n) (arguments_of a) (qualified_of q)
unfolding qualified_of
qualified_of-Of n a p q = refl

pub arguments_of-Absent : arguments_of A.Absent ≡ Absent
unfolding arguments_of
arguments_of-Absent = refl

pub arguments_of-Listed : (es : _) → arguments_of (A.Listed es) ≡ Listed (exprs_of es)
unfolding arguments_of
arguments_of-Listed es = refl

pub exprs_of-End : exprs_of L.End ≡ NoExpr
unfolding exprs_of
exprs_of-End = refl

pub exprs_of-More : (a : _) (e : _) (b : _) (es : _) → exprs_of (L.More' a e b es) ≡ ExprThen (expr_of e) (exprs_of es)
unfolding exprs_of
exprs_of-More a e b es = refl

pub format_of-List : (a : _) (fs : _) → format_of (F.List' a fs) ≡ FormatList (formats_of fs)
unfolding format_of
format_of-List a fs = refl

pub format_of-Fixed : (w : _) → format_of (F.Fixed w) ≡ FixedFormat w
unfolding format_of
format_of-Fixed w = refl

pub format_of-Text : (w : _) → format_of (F.Text w) ≡ TextFormat w
unfolding format_of
format_of-Text w = refl

pub format_of-Space : (n : _) → format_of (F.Space n) ≡ SpaceFormat n
unfolding format_of
format_of-Space n = refl

pub format_of-Skip : (n : _) → format_of (F.Skip n) ≡ SkipFormat n
unfolding format_of
format_of-Skip n = refl

pub format_of-Column : (n : _) → format_of (F.Column n) ≡ ColumnFormat n
unfolding format_of
format_of-Column n = refl

pub formats_of-End : formats_of G.End ≡ NoFormat
unfolding formats_of
formats_of-End = refl

pub formats_of-More : (p : _) (n : _) (f : _) (a : _) (fs : _) → formats_of (G.More' p n f a fs) ≡ FormatThen p n (format_of f) (formats_of fs)
unfolding formats_of
formats_of-More p n f a fs = refl

pub stmt_of-Null : (p : _) → stmt_of (S.Null p) ≡ Null p
unfolding stmt_of
stmt_of-Null p = refl

pub stmt_of-Assign : (r : _) (e : _) (p : _) → stmt_of (S.Assign r e p) ≡ Assign (reference_of r) (expr_of e) p
unfolding stmt_of
stmt_of-Assign r e p = refl

pub stmt_of-If : (e : _) (a : _) (u : _) (p : _) → stmt_of (S.If' e a u p) ≡ If (expr_of e) (stmt_of u) p
unfolding stmt_of
stmt_of-If e a u p = refl

pub stmt_of-IfElse : (e : _) (a : _) (u : _) (b : _) (o : _) (p : _) → stmt_of (S.IfElse' e a u b o p) ≡ IfElse (expr_of e) (stmt_of u) (stmt_of o) p
unfolding stmt_of
stmt_of-IfElse e a u b o p = refl

pub stmt_of-Do : (b : _) (p : _) → stmt_of (S.Do b p) ≡ Do (items_of b) p
unfolding stmt_of
stmt_of-Do b p = refl

pub stmt_of-DoWhile : (e : _) (b : _) (p : _) → stmt_of (S.DoWhile e b p) ≡ DoWhile (expr_of e) (items_of b) p
unfolding stmt_of
stmt_of-DoWhile e b p = refl

pub stmt_of-DoCount : (c : _) (b : _) (p : _) → stmt_of (S.DoCount c b p) ≡ DoCount (counting_of c) (items_of b) p
unfolding stmt_of
stmt_of-DoCount c b p = refl

pub stmt_of-Begin : (b : _) (p : _) → stmt_of (S.Begin b p) ≡ Begin (items_of b) p
unfolding stmt_of
stmt_of-Begin b p = refl

pub stmt_of-OnSystem : (c : _) (p : _) → stmt_of (S.OnSystem c p) ≡ OnSystem c p
unfolding stmt_of
stmt_of-OnSystem c p = refl

pub stmt_of-OnUnit : (c : _) (a : _) (u : _) (p : _) → stmt_of (S.OnUnit' c a u p) ≡ OnUnit c (stmt_of u) p
unfolding stmt_of
stmt_of-OnUnit c a u p = refl

pub stmt_of-Call : (n : _) (a : _) (p : _) → stmt_of (S.Call n a p) ≡ Call (name_of n) (arguments_of a) p
unfolding stmt_of
stmt_of-Call n a p = refl

pub stmt_of-Return : (e : _) (p : _) → stmt_of (S.Return e p) ≡ Return (option_of expr_of e) p
unfolding stmt_of
stmt_of-Return e p = refl

pub stmt_of-Goto : (n : _) (p : _) → stmt_of (S.Goto n p) ≡ Goto (name_of n) p
unfolding stmt_of
stmt_of-Goto n p = refl

pub stmt_of-Stop : (p : _) → stmt_of (S.Stop p) ≡ Stop p
unfolding stmt_of
stmt_of-Stop p = refl

pub stmt_of-Signal : (c : _) (p : _) → stmt_of (S.Signal c p) ≡ Signal c p
unfolding stmt_of
stmt_of-Signal c p = refl

pub stmt_of-Revert : (c : _) (p : _) → stmt_of (S.Revert c p) ≡ Revert c p
unfolding stmt_of
stmt_of-Revert c p = refl

pub stmt_of-Allocate : (made : _) (p : _) → stmt_of (S.Allocate made p) ≡ Allocate (map allocation_of made.items) p
unfolding stmt_of
stmt_of-Allocate made p = refl

pub stmt_of-Free : (fs : _) (p : _) → stmt_of (S.Free fs p) ≡ Free (map freeing_of fs.items) p
unfolding stmt_of
stmt_of-Free fs p = refl

pub stmt_of-Get : (n : _) (ps : _) (p : _) → stmt_of (S.Get n ps p) ≡ Get (option_of skip_of n) (map edit_pair_of ps.items) p
unfolding stmt_of
stmt_of-Get n ps p = refl

pub stmt_of-Put : (n : _) (ps : _) (p : _) → stmt_of (S.Put n ps p) ≡ Put (option_of skip_of n) (map edit_pair_of ps.items) p
unfolding stmt_of
stmt_of-Put n ps p = refl

pub item_of-Procedure : (h : _) (b : _) → item_of (I.Procedure h b) ≡ Procedure (procedure_head_of h) (items_of b)
unfolding item_of
item_of-Procedure h b = refl

pub item_of-Declare : (ds : _) (p : _) → item_of (I.Declare ds p) ≡ Declare (map declare_item_of ds.items) p
unfolding item_of
item_of-Declare ds p = refl

pub item_of-Statement : (ls : _) (s : _) → item_of (I.Statement ls s) ≡ Statement (map name_of ls.items) (stmt_of s)
unfolding item_of
item_of-Statement ls s = refl

pub item_of-EndLabels : (ls : _) (p : _) → item_of (I.EndLabels ls p) ≡ EndLabels (map name_of ls.items) p
unfolding item_of
item_of-EndLabels ls p = refl

pub items_of-End : items_of J.End ≡ NoItem
unfolding items_of
items_of-End = refl

pub items_of-More : (a : _) (i : _) (b : _) (is : _) → items_of (J.More' a i b is) ≡ ItemThen (item_of i) (items_of is)
unfolding items_of
items_of-More a i b is = refl

-- the equations of all trees
pub ruleset views = (expr_of-Number, expr_of-Text, expr_of-Bit, expr_of-Parenthesized, expr_of-Prefix, expr_of-Infix, expr_of-Refers, reference_of-Plain, reference_of-Located, qualified_of-Last, qualified_of-Of, arguments_of-Absent, arguments_of-Listed, exprs_of-End, exprs_of-More, format_of-List, format_of-Fixed, format_of-Text, format_of-Space, format_of-Skip, format_of-Column, formats_of-End, formats_of-More, stmt_of-Null, stmt_of-Assign, stmt_of-If, stmt_of-IfElse, stmt_of-Do, stmt_of-DoWhile, stmt_of-DoCount, stmt_of-Begin, stmt_of-OnSystem, stmt_of-OnUnit, stmt_of-Call, stmt_of-Return, stmt_of-Goto, stmt_of-Stop, stmt_of-Signal, stmt_of-Revert, stmt_of-Allocate, stmt_of-Free, stmt_of-Get, stmt_of-Put, item_of-Procedure, item_of-Declare, item_of-Statement, item_of-EndLabels, items_of-End, items_of-More)
