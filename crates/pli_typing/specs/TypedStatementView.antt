-- The pure statements, declarations and procedures of a typed tree that a program holds.
use Rattle.std.specs.Prelude.{map}
use Rattle.pli_typing.specs.declared.typed.Check.{Check as CheckHeld}
use Rattle.pli_typing.specs.declared.typed.Check.TheVariants as K
use Rattle.pli_typing.specs.declared.typed.Evaluation.{Evaluation as EvaluationHeld}
use Rattle.pli_typing.specs.declared.typed.ReferMember.{ReferMember as ReferMemberHeld}
use Rattle.pli_typing.specs.declared.typed.Member.{Member as MemberHeld}
use Rattle.pli_typing.specs.declared.typed.DeclaredVariable.{DeclaredVariable as DeclaredVariableHeld}
use Rattle.pli_typing.specs.declared.typed.LocatorTarget.{LocatorTarget as LocatorTargetHeld}
use Rattle.pli_typing.specs.declared.typed.LocatorTarget.TheVariants as T
use Rattle.pli_typing.specs.declared.typed.Allocation.{Allocation as AllocationHeld}
use Rattle.pli_typing.specs.declared.typed.Allocation.TheVariants as A
use Rattle.pli_typing.specs.declared.typed.Freeing.{Freeing as FreeingHeld}
use Rattle.pli_typing.specs.declared.typed.Freeing.TheVariants as F
use Rattle.pli_typing.specs.declared.typed.Counter.{Counter as CounterHeld}
use Rattle.pli_typing.specs.declared.typed.Counter.TheVariants as C
use Rattle.pli_typing.specs.declared.typed.GetItem.{GetItem as GetItemHeld}
use Rattle.pli_typing.specs.declared.typed.GetItem.TheVariants as G
use Rattle.pli_typing.specs.declared.typed.PutItem.{PutItem as PutItemHeld}
use Rattle.pli_typing.specs.declared.typed.PutItem.TheVariants as P
use Rattle.pli_typing.specs.declared.typed.GetPair.{GetPair as GetPairHeld}
use Rattle.pli_typing.specs.declared.typed.PutPair.{PutPair as PutPairHeld}
use Rattle.pli_typing.specs.declared.statement.BlockKind.{BlockKind as BlockKindHeld}
use Rattle.pli_typing.specs.declared.statement.BlockKind.TheVariants as B
use Rattle.pli_typing.specs.declared.statement.BlockHead.{BlockHead as BlockHeadHeld}
use Rattle.pli_typing.specs.declared.statement.Turns.{Turns as TurnsHeld}
use Rattle.pli_typing.specs.declared.statement.Turns.TheVariants as D
use Rattle.pli_typing.specs.declared.statement.Stmt.{Stmt as StmtHeld}
use Rattle.pli_typing.specs.declared.statement.Stmt as S
use Rattle.pli_typing.specs.declared.statement.Stmts.{Stmts as StmtsHeld}
use Rattle.pli_typing.specs.declared.statement.Stmts as L
use Rattle.pli_typing.specs.declared.statement.Block.{Block as BlockHeld}
use Rattle.pli_typing.specs.declared.statement.Procedure.{Procedure as ProcedureHeld}
use Rattle.pli_typing.specs.declared.statement.Typed.{Typed as TypedHeld}
use Rattle.pli_language.specs.View.{name_of, option_of, formats_of}
use Rattle.pli_typing.specs.TypedView.{class_of, variable_of, area_of, extent_of, bounds_of, leaf_type_of, leaf_of, number_of, bit_of, pointer_of, reference_of, stored_of, call_of, value_of}
use Rattle.pli_typing.specs.SingleStatements.{Turns, OneTurn, CountedTurns, do_statement}
use Rattle.pli_typing.specs.Resolving.{letters_of}
use Rattle.pli_typing.specs.TypedTree as Y

-- ---- declarations

abbrev pub check_of : CheckHeld → Y.Check
check_of K.None = Y.NoCheck
check_of K.Length = Y.LengthCheck
check_of K.Size = Y.SizeCheck
check_of (K.Bounds b) = Y.BoundsCheck (bounds_of b)

abbrev pub evaluation_of : EvaluationHeld → Y.Evaluation
evaluation_of e = record { value = number_of e.value; check = check_of e.check }

abbrev pub refer_member_of : ReferMemberHeld → Y.ReferMember
refer_member_of r = record { member = r.member; amount = extent_of r.amount }

abbrev pub member_of : MemberHeld → Y.Member
member_of m = record { depth = m.depth; dimensions = m.dimensions }

abbrev pub declared_variable_of : DeclaredVariableHeld → Y.DeclaredVariable
declared_variable_of d = record {
  class = class_of d.class;
  members = map member_of d.members.items;
  leaves = map leaf_of d.leaves.items;
  refer = option_of refer_member_of d.refer;
  evaluations = map evaluation_of d.evaluations.items;
}

-- ---- parts of statements

abbrev pub target_of : LocatorTargetHeld → Y.LocatorTarget
target_of (T.Pointer r) = Y.SetPointer (reference_of r)
target_of (T.Offset r area) = Y.SetOffset (reference_of r) (variable_of area)

abbrev pub allocation_of : AllocationHeld → Y.Allocation
allocation_of (A.Based v area t) = Y.AllocateBased (variable_of v) (area_of area) (target_of t)
allocation_of (A.Controlled v) = Y.AllocateControlled (variable_of v)

abbrev pub freeing_of : FreeingHeld → Y.Freeing
freeing_of (F.Based v p area) = Y.FreeBased (variable_of v) (pointer_of p) (area_of area)
freeing_of (F.Controlled v) = Y.FreeControlled (variable_of v)

abbrev pub counter_of : CounterHeld → Y.Counter
counter_of (C.Number p r) = Y.NumberCounter p (reference_of r)
counter_of (C.Text r) = Y.TextCounter (reference_of r)

abbrev pub get_item_of : GetItemHeld → Y.GetItem
get_item_of (G.Scalar r) = Y.GetScalar (reference_of r)
get_item_of (G.Aggregate r) = Y.GetAggregate (reference_of r)

abbrev pub put_item_of : PutItemHeld → Y.PutItem
put_item_of (P.Value v) = Y.PutValue (value_of v)
put_item_of (P.Aggregate r) = Y.PutAggregate (reference_of r)

abbrev pub get_pair_of : GetPairHeld → Y.GetPair
get_pair_of p = record { items = map get_item_of p.items.items; formats = formats_of p.formats.now }

abbrev pub put_pair_of : PutPairHeld → Y.PutPair
put_pair_of p = record { items = map put_item_of p.items.items; formats = formats_of p.formats.now }

abbrev pub turns_of : TurnsHeld → Turns
turns_of (D.Once r s b) = OneTurn (reference_of r) (stored_of s) (option_of bit_of b)
turns_of (D.Counted c s limit step b) = CountedTurns (counter_of c) (value_of s) (option_of number_of limit) (number_of step) (option_of bit_of b)

-- ---- statements and blocks

abbrev pub block_kind_of : BlockKindHeld → Y.BlockKind
block_kind_of B.Procedure = Y.ProcedureBlock
block_kind_of B.Begin = Y.BeginBlock
block_kind_of B.Unit = Y.UnitBlock
block_kind_of B.SimpleUnit = Y.SimpleUnit

abbrev pub block_head_of : BlockHeadHeld → Y.BlockHead
block_head_of h = record { kind = block_kind_of h.kind; number = h.number; level = h.level; line = h.line }

unfoldable mutual
  pub stmt_of : StmtHeld → Y.Stmt
  stmt_of (S.Null n) = Y.Null n
  stmt_of (S.Assign r s n) = Y.Assign (reference_of r) (stored_of s) n
  stmt_of (S.AssignElements r s n) = Y.AssignElements (reference_of r) (stored_of s) n
  stmt_of (S.AssignAggregate r s n) = Y.AssignAggregate (reference_of r) (reference_of s) n
  stmt_of (S.AssignArea v w n) = Y.AssignArea (variable_of v) (variable_of w) n
  stmt_of (S.EmptyArea v n) = Y.EmptyArea (variable_of v) n
  stmt_of (S.If' b a u n) = Y.If (bit_of b) (stmt_of u) n
  stmt_of (S.IfElse' b a u c o n) = Y.IfElse (bit_of b) (stmt_of u) (stmt_of o) n
  stmt_of (S.Do body n) = Y.Do (stmts_of body) n
  stmt_of (S.DoWhile b body n) = Y.DoWhile (bit_of b) (stmts_of body) n
  stmt_of (S.DoTurns t body n) = do_statement (turns_of t) (stmts_of body) n
  stmt_of (S.Begin h body) = Y.Begin (Y.BlockOf (block_head_of h) (stmts_of body))
  stmt_of (S.OnSystem c n) = Y.OnSystem c n
  stmt_of (S.OnUnit c h body n) = Y.OnUnit c (Y.BlockOf (block_head_of h) (stmts_of body)) n
  stmt_of (S.Call c n) = Y.CallProcedure (call_of c) n
  stmt_of (S.Return n) = Y.Return n
  stmt_of (S.ReturnValue t s n) = Y.ReturnValue (leaf_type_of t) (stored_of s) n
  stmt_of (S.Goto level label n) = Y.Goto level label.now n
  stmt_of (S.Stop n) = Y.Stop n
  stmt_of (S.Signal c n) = Y.Signal c n
  stmt_of (S.Revert c n) = Y.Revert c n
  stmt_of (S.Allocate all n) = Y.Allocate (map allocation_of all.items) n
  stmt_of (S.Free all n) = Y.Free (map freeing_of all.items) n
  stmt_of (S.Get skip pairs n) = Y.Get skip (map get_pair_of pairs.items) n
  stmt_of (S.Put skip pairs n) = Y.Put skip (map put_pair_of pairs.items) n

  pub stmts_of : StmtsHeld → Y.Stmts
  stmts_of (L.End labels) = Y.EndOfList (letters_of (map name_of labels.now))
  stmts_of (L.More' labels a s b rest) = Y.StmtThen (letters_of (map name_of labels.now)) (stmt_of s) (stmts_of rest)

abbrev pub block_of : BlockHeld → Y.Block
block_of b = Y.BlockOf (block_head_of b.head) (stmts_of b.body)

abbrev pub procedure_of : ProcedureHeld → Y.Procedure
procedure_of p = record { block = block_of p.block; parameters = p.parameters.items; result = option_of leaf_type_of p.result }

abbrev pub program_of : TypedHeld → Y.Program
program_of t = record { variables = map (λ b. map declared_variable_of b.items) t.variables.items; procedures = map procedure_of t.procedures.items }
