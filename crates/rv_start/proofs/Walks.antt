-- Statements by their forms: the blocks in them.
use Rattle.std.proofs.Common.{◌≡◌, ℕ, zero, suc, ◌+◌, ◌<◌, List, [], ◌∷◌, ◌++◌, length, map, drop, get_or, refl, sym, ap, ◌∙◌, arith, append_assoc, append-nil}
use Rattle.std.proofs.lemmas.List.{map_push, drop_all}
use Rattle.pli_typing.specs.declared.statement.Stmt as S
use Rattle.pli_typing.specs.declared.statement.Stmts as L
use Rattle.pli_typing.specs.declared.statement.Procedure.{Procedure}
use Rattle.pli_typing.specs.TypedTree as Y
use Rattle.pli_typing.specs.SingleStatements.{Turns, OneTurn, CountedTurns, do_statement}
use Rattle.pli_typing.specs.TypedStatementView.{block_head_of, procedure_of, stmt_of, stmts_of, turns_of}
use Rattle.pli_coding.specs.Environments.{BlockPlace}
use Rattle.pli_coding.specs.Images.{blocks_among, blocks_in, blocks_of_procedure, place_of_head, place_of_unit}
use Rattle.rv_address.proofs.Declared.{shown_from}
use Rattle.rv_start.specs.Gathered.{gathered}

turns_hold : (t : Turns) (body : Y.Stmts) (n : ℕ) → blocks_in (do_statement t body n) ≡ blocks_among body
turns_hold (OneTurn r s b) body n = refl
turns_hold (CountedTurns c s l step b) body n = refl

pub in-If : (b : _) (a : _) (u : _) (n : _) → blocks_in (stmt_of (S.If' b a u n)) ≡ blocks_in (stmt_of u)
unfolding stmt_of
in-If b a u n = refl

pub in-IfElse : (b : _) (a : _) (u : _) (c : _) (o : _) (n : _) → blocks_in (stmt_of (S.IfElse' b a u c o n)) ≡ blocks_in (stmt_of u) ++ blocks_in (stmt_of o)
unfolding stmt_of
in-IfElse b a u c o n = refl

pub in-Do : (body : _) (n : _) → blocks_in (stmt_of (S.Do body n)) ≡ blocks_among (stmts_of body)
unfolding stmt_of
in-Do body n = refl

pub in-DoWhile : (b : _) (body : _) (n : _) → blocks_in (stmt_of (S.DoWhile b body n)) ≡ blocks_among (stmts_of body)
unfolding stmt_of
in-DoWhile b body n = refl

pub in-DoTurns : (t : _) (body : _) (n : _) → blocks_in (stmt_of (S.DoTurns t body n)) ≡ blocks_among (stmts_of body)
unfolding stmt_of
in-DoTurns t body n = turns_hold (turns_of t) (stmts_of body) n

pub in-Begin : (h : _) (body : _) → blocks_in (stmt_of (S.Begin h body)) ≡ place_of_head (block_head_of h) ∷ blocks_among (stmts_of body)
unfolding stmt_of
in-Begin h body = refl

pub in-OnUnit : (c : _) (h : _) (body : _) (n : _) → blocks_in (stmt_of (S.OnUnit c h body n)) ≡ place_of_unit (block_head_of h) (block_head_of h).kind ++ blocks_among (stmts_of body)
unfolding stmt_of
in-OnUnit c h body n = refl

pub in-Null : (n : _) → blocks_in (stmt_of (S.Null n)) ≡ []
unfolding stmt_of
in-Null n = refl

pub in-Assign : (r : _) (s : _) (n : _) → blocks_in (stmt_of (S.Assign r s n)) ≡ []
unfolding stmt_of
in-Assign r s n = refl

pub in-AssignElements : (r : _) (s : _) (n : _) → blocks_in (stmt_of (S.AssignElements r s n)) ≡ []
unfolding stmt_of
in-AssignElements r s n = refl

pub in-AssignAggregate : (r : _) (s : _) (n : _) → blocks_in (stmt_of (S.AssignAggregate r s n)) ≡ []
unfolding stmt_of
in-AssignAggregate r s n = refl

pub in-AssignArea : (v : _) (w : _) (n : _) → blocks_in (stmt_of (S.AssignArea v w n)) ≡ []
unfolding stmt_of
in-AssignArea v w n = refl

pub in-EmptyArea : (v : _) (n : _) → blocks_in (stmt_of (S.EmptyArea v n)) ≡ []
unfolding stmt_of
in-EmptyArea v n = refl

pub in-OnSystem : (c : _) (n : _) → blocks_in (stmt_of (S.OnSystem c n)) ≡ []
unfolding stmt_of
in-OnSystem c n = refl

pub in-Call : (c : _) (n : _) → blocks_in (stmt_of (S.Call c n)) ≡ []
unfolding stmt_of
in-Call c n = refl

pub in-Return : (n : _) → blocks_in (stmt_of (S.Return n)) ≡ []
unfolding stmt_of
in-Return n = refl

pub in-ReturnValue : (t : _) (s : _) (n : _) → blocks_in (stmt_of (S.ReturnValue t s n)) ≡ []
unfolding stmt_of
in-ReturnValue t s n = refl

pub in-Goto : (level : _) (label : _) (n : _) → blocks_in (stmt_of (S.Goto level label n)) ≡ []
unfolding stmt_of
in-Goto level label n = refl

pub in-Stop : (n : _) → blocks_in (stmt_of (S.Stop n)) ≡ []
unfolding stmt_of
in-Stop n = refl

pub in-Signal : (c : _) (n : _) → blocks_in (stmt_of (S.Signal c n)) ≡ []
unfolding stmt_of
in-Signal c n = refl

pub in-Revert : (c : _) (n : _) → blocks_in (stmt_of (S.Revert c n)) ≡ []
unfolding stmt_of
in-Revert c n = refl

pub in-Allocate : (all : _) (n : _) → blocks_in (stmt_of (S.Allocate all n)) ≡ []
unfolding stmt_of
in-Allocate all n = refl

pub in-Free : (all : _) (n : _) → blocks_in (stmt_of (S.Free all n)) ≡ []
unfolding stmt_of
in-Free all n = refl

pub in-Get : (skip : _) (pairs : _) (n : _) → blocks_in (stmt_of (S.Get skip pairs n)) ≡ []
unfolding stmt_of
in-Get skip pairs n = refl

pub in-Put : (skip : _) (pairs : _) (n : _) → blocks_in (stmt_of (S.Put skip pairs n)) ≡ []
unfolding stmt_of
in-Put skip pairs n = refl

pub among-End : (labels : _) → blocks_among (stmts_of (L.End labels)) ≡ []
unfolding stmts_of
among-End labels = refl

pub among-More : (labels : _) (a : _) (s : _) (b : _) (rest : _) → blocks_among (stmts_of (L.More' labels a s b rest)) ≡ blocks_in (stmt_of s) ++ blocks_among (stmts_of rest)
unfolding stmts_of
among-More labels a s b rest = refl

pub ruleset walks = (append_assoc, append-nil, in-If, in-IfElse, in-Do, in-DoWhile, in-DoTurns, in-Begin, in-OnUnit, in-Null, in-Assign, in-AssignElements, in-AssignAggregate, in-AssignArea, in-EmptyArea, in-OnSystem, in-Call, in-Return, in-ReturnValue, in-Goto, in-Stop, in-Signal, in-Revert, in-Allocate, in-Free, in-Get, in-Put, among-End, among-More)

-- ---- procedures, from the last one on

pub next_procedure : (xs : List Procedure) (i : ℕ) (x : Procedure) (now next : List BlockPlace) → i < length xs → x ≡ get_or xs i x → next ≡ now ++ blocks_of_procedure (procedure_of x).block → now ≡ gathered (map procedure_of (drop (i + 1) xs)) → next ≡ gathered (map procedure_of (drop i xs))
next_procedure xs i x now next h e n is =
    n ∙ ap (λ u. u ++ blocks_of_procedure (procedure_of x).block) is ∙ ap gathered (sym (shown_from procedure_of xs i x h e))

pub every_procedure : (xs : List Procedure) → gathered (map procedure_of (drop 0 xs)) ≡ gathered (map procedure_of xs)
every_procedure xs = refl
