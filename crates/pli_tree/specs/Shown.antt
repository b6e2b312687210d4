-- What a program's values show of the definitions, and parts of these.
use Rattle.std.specs.Prelude.{ℕ, ◌+◌, List, [], ◌∷◌, map, length, Option, Some, None}
use Rattle.std.specs.List.{flat_map}
use Rattle.std.specs.Borrow.{Bor}
use Rattle.pli_language.specs.declared.expr.Name.{Name}
use Rattle.pli_language.specs.Declarations.{blocks_in}
use Rattle.pli_language.specs.declared.expr.Place.{Place}
use Rattle.pli_typing.specs.Assigning.{Scalar, computational_operand, counter_of}
use Rattle.pli_typing.specs.Converting.{Operand}
use Rattle.pli_typing.specs.Judging.{Judged, fine, ◌>>=◌}
use Rattle.pli_typing.specs.Resolving as Z
use Rattle.pli_typing.specs.SingleStatements as S
use Rattle.pli_language.specs.Tree as T
use Rattle.pli_typing.specs.TypedStatementView.{stmt_of}
use Rattle.pli_typing.specs.TypedTree as Y
use Rattle.pli_language.specs.View.{items_of, name_of}
use Rattle.pli_reference.specs.Shown.{scope_of}
use Rattle.pli_tree.specs.declared.context.Context.{Context as ContextHeld}
use Rattle.pli_tree.specs.declared.listed.Part.{Part as PartHeld}

-- ---- where a statement stands

-- labels that stand together, and those of several statements
abbrev pub labels_of_group : Bor (List Name) → List T.Name
labels_of_group b = map name_of b.now

abbrev pub labels_of_groups : List (Bor (List Name)) → List T.Name
labels_of_groups groups = flat_map labels_of_group groups

abbrev pub context_of : ContextHeld → S.Context
context_of c = record { scope = scope_of c.scope; around = c.around.items; outermost = labels_of_groups c.outermost.items; inner = labels_of_groups c.inner.items; outer = labels_of_groups c.outer.items }

-- the labels of one item of a list
abbrev pub labels_of_item : T.Item → List T.Name
labels_of_item (T.Procedure head body) = []
labels_of_item (T.Declare items place) = []
labels_of_item (T.Statement labels s) = labels
labels_of_item (T.EndLabels labels place) = labels

-- ---- statements

-- the number of the next block behind a list
abbrev pub behind_items : S.Context → ℕ → T.Items → ℕ
behind_items c next is = next + length (blocks_in c.around next is)

-- a statement without parts
unfoldable pub plain : T.Stmt → Y.Stmt
plain (T.Null place) = Y.Null place.line
plain (T.OnSystem on place) = Y.OnSystem on place.line
plain (T.Stop place) = Y.Stop place.line
plain (T.Signal on place) = Y.Signal on place.line
plain (T.Revert on place) = Y.Revert on place.line
plain s = Y.Null 0

-- a statement that holds no other
unfoldable pub alone : S.Context → T.Stmt → Judged Y.Stmt
alone c (T.Assign target source place) = S.assign_statement c.scope target source place
alone c (T.Call name a place) = S.call_statement c.scope name a place
alone c (T.Return value place) = S.return_statement c value place
alone c (T.Goto label place) = S.goto_statement c label place
alone c (T.Allocate allocations place) = S.allocate_statement c.scope allocations place
alone c (T.Free freeings place) = S.free_statement c.scope freeings place
alone c (T.Get skip pairs place) = S.get_statement c.scope skip pairs place
alone c (T.Put skip pairs place) = S.put_statement c.scope skip pairs place
alone c s = fine (plain s)

-- turns that are counted: the variable, then what it starts with
abbrev pub counted : Place → Scalar → Operand → Option Y.Number → Y.Number → Option Y.Bit → Judged S.Turns
counted place v start limit step b = do
  counter ← counter_of place v.reference v.type
  s ← computational_operand start
  fine (S.CountedTurns counter s limit step b)

-- ---- lists

-- a statement with its labels
pub record Part : Type 0 where
  pub labels : List (List ℕ)
  pub statement : Y.Stmt

abbrev pub part_of : PartHeld → Part
part_of p = record { labels = Z.letters_of (map name_of p.labels.now); statement = stmt_of p.statement }

-- statements before the rest of a list
unfoldable pub parts_onto : List Part → Y.Stmts → Y.Stmts
parts_onto [] rest = rest
parts_onto (p ∷ ps) rest = Y.StmtThen p.labels p.statement (parts_onto ps rest)

-- what an item of a list comes to: its statement, if it is one
unfoldable pub item_resolved : S.Context → ℕ → T.Item → Z.Resolved (List Part)
item_resolved c next (T.Procedure head body) =
    let r = Z.with_procedure c next head (Z.statements (S.in_block c next (S.labels_in body)) (next + 1) body) in
    record { faults = r.faults; procedures = r.procedures; value = [] }
item_resolved c next (T.Declare items place) = Z.done []
item_resolved c next (T.Statement labels s) =
    let r = Z.statement c next s in
    record { faults = r.faults; procedures = r.procedures; value = record { labels = Z.letters_of labels; statement = r.value } ∷ [] }
item_resolved c next (T.EndLabels labels place) = Z.done []

-- the labels of END
unfoldable pub ended : T.Item → Option (List T.Name)
ended (T.EndLabels labels place) = Some labels
ended _ = None
