-- Statements by their forms: the registers that are saved for them.
use Rattle.std.proofs.Common.{◌≡◌, ℕ, ◌<◌, List, [], ◌∷◌, length, map, refl, ap, ◌∙◌, arith}
use Rattle.std.specs.Prelude.{max}
use Rattle.pli_language.specs.View.{name_of}
use Rattle.pli_language.specs.declared.expr.Name.{Name}
use Rattle.pli_typing.specs.declared.statement.Stmt as S
use Rattle.pli_typing.specs.declared.statement.Stmts as L
use Rattle.pli_typing.specs.TypedTree as Y
use Rattle.pli_typing.specs.SingleStatements.{Turns, OneTurn, CountedTurns, do_statement}
use Rattle.pli_typing.specs.Resolving.{letters_of}
use Rattle.pli_typing.specs.TypedStatementView.{stmt_of, stmts_of, turns_of}
use Rattle.pli_coding.specs.Statements.{block_takes, labels_held, stmt_held, stmts_held}

-- ---- labels

pub no_label : (labels : List Name) → length labels ≡ 0 → 0 ≡ labels_held (letters_of (map name_of labels))
no_label [] none = refl
no_label (l ∷ ls) none = absurd (omega (arith, none))

pub some_label : (labels : List Name) → 0 < length labels → 7 ≡ labels_held (letters_of (map name_of labels))
some_label [] some = absurd (omega (arith, some))
some_label (l ∷ ls) some = refl

-- ---- statements

turns_held : (program : Y.Program) (t : Turns) (body : Y.Stmts) (n : ℕ) → stmt_held program (do_statement t body n)
    ≡ stmts_held program body
turns_held program (OneTurn r s b) body n = refl
turns_held program (CountedTurns c s l step b) body n = refl

pub held-Null : (p : _) (n : _) → stmt_held p (stmt_of (S.Null n)) ≡ 0
unfolding stmt_of
held-Null p n = refl

pub held-Assign : (p : _) (r : _) (s : _) (n : _) → stmt_held p (stmt_of (S.Assign r s n)) ≡ 0
unfolding stmt_of
held-Assign p r s n = refl

pub held-AssignElements : (p : _) (r : _) (s : _) (n : _) → stmt_held p (stmt_of (S.AssignElements r s n)) ≡ 0
unfolding stmt_of
held-AssignElements p r s n = refl

pub held-AssignAggregate : (p : _) (r : _) (s : _) (n : _) → stmt_held p (stmt_of (S.AssignAggregate r s n)) ≡ 0
unfolding stmt_of
held-AssignAggregate p r s n = refl

pub held-AssignArea : (p : _) (v : _) (w : _) (n : _) → stmt_held p (stmt_of (S.AssignArea v w n)) ≡ 0
unfolding stmt_of
held-AssignArea p v w n = refl

pub held-EmptyArea : (p : _) (v : _) (n : _) → stmt_held p (stmt_of (S.EmptyArea v n)) ≡ 0
unfolding stmt_of
held-EmptyArea p v n = refl

pub held-If : (p : _) (b : _) (a : _) (u : _) (n : _) → stmt_held p (stmt_of (S.If' b a u n)) ≡ stmt_held p (stmt_of u)
unfolding stmt_of
held-If p b a u n = refl

pub held-IfElse : (p : _) (b : _) (a : _) (u : _) (c : _) (o : _) (n : _)
    → stmt_held p (stmt_of (S.IfElse' b a u c o n)) ≡ max (stmt_held p (stmt_of u)) (stmt_held p (stmt_of o))
unfolding stmt_of
held-IfElse p b a u c o n = refl

pub held-Do : (p : _) (body : _) (n : _) → stmt_held p (stmt_of (S.Do body n)) ≡ stmts_held p (stmts_of body)
unfolding stmt_of
held-Do p body n = refl

pub held-DoWhile : (p : _) (b : _) (body : _) (n : _) → stmt_held p (stmt_of (S.DoWhile b body n))
    ≡ stmts_held p (stmts_of body)
unfolding stmt_of
held-DoWhile p b body n = refl

pub held-DoTurns : (p : _) (t : _) (body : _) (n : _) → stmt_held p (stmt_of (S.DoTurns t body n))
    ≡ stmts_held p (stmts_of body)
unfolding stmt_of
held-DoTurns p t body n = turns_held p (turns_of t) (stmts_of body) n

pub held-Begin : (p : _) (h : _) (body : _) → stmt_held p (stmt_of (S.Begin h body))
    ≡ max (block_takes p h.number (stmts_of body)).registers (stmts_held p (stmts_of body))
unfolding stmt_of
held-Begin p h body = refl

pub held-OnSystem : (p : _) (c : _) (n : _) → stmt_held p (stmt_of (S.OnSystem c n)) ≡ 0
unfolding stmt_of
held-OnSystem p c n = refl

pub held-OnUnit : (p : _) (c : _) (h : _) (body : _) (n : _) → stmt_held p (stmt_of (S.OnUnit c h body n)) ≡ 0
unfolding stmt_of
held-OnUnit p c h body n = refl

pub held-Call : (p : _) (c : _) (n : _) → stmt_held p (stmt_of (S.Call c n)) ≡ 0
unfolding stmt_of
held-Call p c n = refl

pub held-Return : (p : _) (n : _) → stmt_held p (stmt_of (S.Return n)) ≡ 0
unfolding stmt_of
held-Return p n = refl

pub held-ReturnValue : (p : _) (t : _) (s : _) (n : _) → stmt_held p (stmt_of (S.ReturnValue t s n)) ≡ 0
unfolding stmt_of
held-ReturnValue p t s n = refl

pub held-Goto : (p : _) (level : _) (label : _) (n : _) → stmt_held p (stmt_of (S.Goto level label n)) ≡ 0
unfolding stmt_of
held-Goto p level label n = refl

pub held-Stop : (p : _) (n : _) → stmt_held p (stmt_of (S.Stop n)) ≡ 0
unfolding stmt_of
held-Stop p n = refl

pub held-Signal : (p : _) (c : _) (n : _) → stmt_held p (stmt_of (S.Signal c n)) ≡ 0
unfolding stmt_of
held-Signal p c n = refl

pub held-Revert : (p : _) (c : _) (n : _) → stmt_held p (stmt_of (S.Revert c n)) ≡ 0
unfolding stmt_of
held-Revert p c n = refl

pub held-Allocate : (p : _) (all : _) (n : _) → stmt_held p (stmt_of (S.Allocate all n)) ≡ 0
unfolding stmt_of
held-Allocate p all n = refl

pub held-Free : (p : _) (all : _) (n : _) → stmt_held p (stmt_of (S.Free all n)) ≡ 0
unfolding stmt_of
held-Free p all n = refl

pub held-Get : (p : _) (skip : _) (pairs : _) (n : _) → stmt_held p (stmt_of (S.Get skip pairs n)) ≡ 0
unfolding stmt_of
held-Get p skip pairs n = refl

pub held-Put : (p : _) (skip : _) (pairs : _) (n : _) → stmt_held p (stmt_of (S.Put skip pairs n)) ≡ 0
unfolding stmt_of
held-Put p skip pairs n = refl

-- ---- lists

pub list_held-End : (p : _) (labels : _) → stmts_held p (stmts_of (L.End labels))
    ≡ labels_held (letters_of (map name_of labels.now))
unfolding stmts_of
list_held-End p labels = refl

pub list_held-More : (p : _) (labels : _) (a : _) (s : _) (b : _) (rest : _)
    → stmts_held p (stmts_of (L.More' labels a s b rest)) ≡ max (labels_held (letters_of (map name_of labels.now)))
    (max (stmt_held p (stmt_of s)) (stmts_held p (stmts_of rest)))
unfolding stmts_of
list_held-More p labels a s b rest = refl

pub both_held : (labels first here held under : ℕ) → here ≡ max labels first → labels ≡ held → first ≡ under
    → here ≡ max held under
both_held labels first here held under is l f = is ∙ ap (λ n. max n first) l ∙ ap (λ n. max held n) f

pub one_more : (now labels here rest : ℕ) → max (max now (max labels here)) rest ≡ max now (max labels (max here rest))
one_more now labels here rest = omega arith

pub ruleset held = (
  held-Null,
  held-Assign,
  held-AssignElements,
  held-AssignAggregate,
  held-AssignArea,
  held-EmptyArea,
  held-If,
  held-IfElse,
  held-Do,
  held-DoWhile,
  held-DoTurns,
  held-Begin,
  held-OnSystem,
  held-OnUnit,
  held-Call,
  held-Return,
  held-ReturnValue,
  held-Goto,
  held-Stop,
  held-Signal,
  held-Revert,
  held-Allocate,
  held-Free,
  held-Get,
  held-Put,
)
