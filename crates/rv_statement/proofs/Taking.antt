-- Statements by their forms: what they take.
use Rattle.std.proofs.Common.{◌≡◌, ℕ, map, refl, ap, ◌∙◌, arith}
use Rattle.std.specs.Prelude.{max}
use Rattle.pli_typing.specs.declared.statement.Stmt as S
use Rattle.pli_typing.specs.declared.statement.Stmts as L
use Rattle.pli_typing.specs.TypedTree as Y
use Rattle.pli_typing.specs.SingleStatements.{Turns, OneTurn, CountedTurns, do_statement}
use Rattle.pli_typing.specs.TypedView.{arguments_of, bit_of, reference_of, stored_of}
use Rattle.pli_typing.specs.TypedStatementView.{allocation_of, freeing_of, get_pair_of, put_pair_of, stmt_of}
use Rattle.pli_typing.specs.TypedStatementView.{stmts_of, turns_of}
use Rattle.pli_coding.specs.Environments.{Taken, most_taken, with_words}
use Rattle.pli_coding.specs.Expressions.{list_words}
use Rattle.pli_coding.specs.Temporaries.{arguments_take, bit_takes, stored_takes}
use Rattle.pli_coding.specs.Storing.{aggregate_takes, assigned_takes, elements_takes}
use Rattle.pli_coding.specs.Allocating.{allocations_take, freeings_take}
use Rattle.pli_coding.specs.Streams.{get_takes, put_takes}
use Rattle.pli_coding.specs.Statements.{stmt_takes, stmts_take}
use Rattle.pli_frames.specs.Turns.{behind_turns, turns_take}

abbrev taken_with : (registers words : ℕ) → Taken
taken_with registers words = record { registers = registers; words = words }

taken_alike : (a b c d : ℕ) → a ≡ b → c ≡ d → taken_with a c ≡ taken_with b d
taken_alike a b c d r w = ap (λ n. taken_with n c) r ∙ ap (λ n. taken_with b n) w

more_of : (now here rest : ℕ) → max (max now here) rest ≡ max now (max here rest)
more_of now here rest = omega arith

pub one_more : (now here rest : Taken) → most_taken (most_taken now here) rest ≡ most_taken now (most_taken here rest)
one_more now here rest =
    taken_alike _ _ _ _ (more_of now.registers here.registers rest.registers) (more_of now.words here.words rest.words)

do_takes : (k : Taken) (t : Turns) (body : Y.Stmts) (n : ℕ)
    → stmt_takes k (do_statement t body n) ≡ turns_take k t (stmts_take (behind_turns t k) body)
do_takes k (OneTurn r s b) body n = refl
do_takes k (CountedTurns c s l step b) body n = refl

pub takes-Null : (k : _) (n : _) → stmt_takes k (stmt_of (S.Null n)) ≡ k
unfolding stmt_of
takes-Null k n = refl

pub takes-Assign : (k : _) (r : _) (s : _) (n : _) → stmt_takes k (stmt_of (S.Assign r s n))
    ≡ assigned_takes k (reference_of r) (stored_of s)
unfolding stmt_of
takes-Assign k r s n = refl

pub takes-AssignElements : (k : _) (r : _) (s : _) (n : _) → stmt_takes k (stmt_of (S.AssignElements r s n))
    ≡ elements_takes k (reference_of r) (stored_of s)
unfolding stmt_of
takes-AssignElements k r s n = refl

pub takes-AssignAggregate : (k : _) (r : _) (s : _) (n : _) → stmt_takes k (stmt_of (S.AssignAggregate r s n))
    ≡ most_taken (aggregate_takes k (reference_of r)) (aggregate_takes k (reference_of s))
unfolding stmt_of
takes-AssignAggregate k r s n = refl

pub takes-AssignArea : (k : _) (v : _) (w : _) (n : _) → stmt_takes k (stmt_of (S.AssignArea v w n)) ≡ k
unfolding stmt_of
takes-AssignArea k v w n = refl

pub takes-EmptyArea : (k : _) (v : _) (n : _) → stmt_takes k (stmt_of (S.EmptyArea v n)) ≡ k
unfolding stmt_of
takes-EmptyArea k v n = refl

pub takes-If : (k : _) (b : _) (a : _) (u : _) (n : _) → stmt_takes k (stmt_of (S.If' b a u n))
    ≡ most_taken (bit_takes k (bit_of b)) (stmt_takes k (stmt_of u))
unfolding stmt_of
takes-If k b a u n = refl

pub takes-IfElse : (k : _) (b : _) (a : _) (u : _) (c : _) (o : _) (n : _)
    → stmt_takes k (stmt_of (S.IfElse' b a u c o n))
    ≡ most_taken (bit_takes k (bit_of b)) (most_taken (stmt_takes k (stmt_of u)) (stmt_takes k (stmt_of o)))
unfolding stmt_of
takes-IfElse k b a u c o n = refl

pub takes-Do : (k : _) (body : _) (n : _) → stmt_takes k (stmt_of (S.Do body n)) ≡ stmts_take k (stmts_of body)
unfolding stmt_of
takes-Do k body n = refl

pub takes-DoWhile : (k : _) (b : _) (body : _) (n : _) → stmt_takes k (stmt_of (S.DoWhile b body n))
    ≡ most_taken (bit_takes k (bit_of b)) (stmts_take k (stmts_of body))
unfolding stmt_of
takes-DoWhile k b body n = refl

pub takes-DoTurns : (k : _) (t : _) (body : _) (n : _) → stmt_takes k (stmt_of (S.DoTurns t body n))
    ≡ turns_take k (turns_of t) (stmts_take (behind_turns (turns_of t) k) (stmts_of body))
unfolding stmt_of
takes-DoTurns k t body n = do_takes k (turns_of t) (stmts_of body) n

pub takes-Begin : (k : _) (h : _) (body : _) → stmt_takes k (stmt_of (S.Begin h body)) ≡ k
unfolding stmt_of
takes-Begin k h body = refl

pub takes-OnSystem : (k : _) (c : _) (n : _) → stmt_takes k (stmt_of (S.OnSystem c n)) ≡ k
unfolding stmt_of
takes-OnSystem k c n = refl

pub takes-OnUnit : (k : _) (c : _) (h : _) (body : _) (n : _) → stmt_takes k (stmt_of (S.OnUnit c h body n)) ≡ k
unfolding stmt_of
takes-OnUnit k c h body n = refl

pub takes-Call : (k : _) (c : _) (n : _) → stmt_takes k (stmt_of (S.Call c n))
    ≡ arguments_take (with_words (list_words (arguments_of c.arguments)) k) (arguments_of c.arguments)
unfolding stmt_of
takes-Call k c n = refl

pub takes-Return : (k : _) (n : _) → stmt_takes k (stmt_of (S.Return n)) ≡ k
unfolding stmt_of
takes-Return k n = refl

pub takes-ReturnValue : (k : _) (t : _) (s : _) (n : _) → stmt_takes k (stmt_of (S.ReturnValue t s n))
    ≡ stored_takes k (stored_of s)
unfolding stmt_of
takes-ReturnValue k t s n = refl

pub takes-Goto : (k : _) (level : _) (label : _) (n : _) → stmt_takes k (stmt_of (S.Goto level label n)) ≡ k
unfolding stmt_of
takes-Goto k level label n = refl

pub takes-Stop : (k : _) (n : _) → stmt_takes k (stmt_of (S.Stop n)) ≡ k
unfolding stmt_of
takes-Stop k n = refl

pub takes-Signal : (k : _) (c : _) (n : _) → stmt_takes k (stmt_of (S.Signal c n)) ≡ k
unfolding stmt_of
takes-Signal k c n = refl

pub takes-Revert : (k : _) (c : _) (n : _) → stmt_takes k (stmt_of (S.Revert c n)) ≡ k
unfolding stmt_of
takes-Revert k c n = refl

pub takes-Allocate : (k : _) (all : _) (n : _) → stmt_takes k (stmt_of (S.Allocate all n))
    ≡ allocations_take k (map allocation_of all.items)
unfolding stmt_of
takes-Allocate k all n = refl

pub takes-Free : (k : _) (all : _) (n : _) → stmt_takes k (stmt_of (S.Free all n))
    ≡ freeings_take k (map freeing_of all.items)
unfolding stmt_of
takes-Free k all n = refl

pub takes-Get : (k : _) (skip : _) (pairs : _) (n : _) → stmt_takes k (stmt_of (S.Get skip pairs n))
    ≡ get_takes k (map get_pair_of pairs.items)
unfolding stmt_of
takes-Get k skip pairs n = refl

pub takes-Put : (k : _) (skip : _) (pairs : _) (n : _) → stmt_takes k (stmt_of (S.Put skip pairs n))
    ≡ put_takes k (map put_pair_of pairs.items)
unfolding stmt_of
takes-Put k skip pairs n = refl

pub list_takes-End : (k : _) (labels : _) → stmts_take k (stmts_of (L.End labels)) ≡ k
unfolding stmts_of
list_takes-End k labels = refl

pub list_takes-More : (k : _) (labels : _) (a : _) (s : _) (b : _) (rest : _)
    → stmts_take k (stmts_of (L.More' labels a s b rest))
    ≡ most_taken (stmt_takes k (stmt_of s)) (stmts_take k (stmts_of rest))
unfolding stmts_of
list_takes-More k labels a s b rest = refl

pub ruleset statements = (
  one_more,
  takes-Null,
  takes-Assign,
  takes-AssignElements,
  takes-AssignAggregate,
  takes-AssignArea,
  takes-EmptyArea,
  takes-If,
  takes-IfElse,
  takes-Do,
  takes-DoWhile,
  takes-DoTurns,
  takes-Begin,
  takes-OnSystem,
  takes-OnUnit,
  takes-Call,
  takes-Return,
  takes-ReturnValue,
  takes-Goto,
  takes-Stop,
  takes-Signal,
  takes-Revert,
  takes-Allocate,
  takes-Free,
  takes-Get,
  takes-Put,
  list_takes-End,
  list_takes-More,
)
