-- Each block of a typed tree stands where the table of its source's blocks has it.
use Rattle.std.proofs.Common.{◌≡◌, ℕ, suc, ◌+◌, ◌-◌, ◌≤◌, Bool, true, false, Option, List, [], ◌∷◌, ◌++◌, length}
use Rattle.std.proofs.Common.{Some, None, refl, sym, ap, ◌∙◌, subst, arith}
use Rattle.std.specs.Prelude.{slice_get, ⊤}
use Rattle.pli_language.specs.Tree as T
use Rattle.pli_language.specs.Declarations.{Block, declared_in, blocks_in, blocks_in_item, blocks_in_stmt, blocks_of}
use Rattle.pli_language.specs.Declarations.{outermost}
use Rattle.pli_typing.specs.TypedTree as Y
use Rattle.pli_typing.specs.Variables.{level_of_block, depth_of_block}
use Rattle.pli_typing.specs.SingleStatements.{Context, Turns, OneTurn, CountedTurns, do_statement, in_list, in_block}
use Rattle.pli_typing.specs.SingleStatements.{in_unit, turns, assign_statement, call_statement, return_statement}
use Rattle.pli_typing.specs.SingleStatements.{goto_statement}
use Rattle.pli_typing.specs.SingleStatements as S
use Rattle.pli_typing.specs.Resolving.{typing_faults, typed_tree, statement, statements, unit_of, letters_of}
use Rattle.pli_typing.specs.Resolving.{procedure_of, block_variables, outermost_context, resolved}
use Rattle.well_formed_trees.specs.Surroundings.{Label, head_of, Returning, NoReturn, Returns, Around, with_inner}
use Rattle.well_formed_trees.specs.Surroundings.{without_inner}
use Rattle.well_formed_trees.specs.Every.{Every}
use Rattle.well_formed_trees.specs.Statements.{labels_in}
use Rattle.well_formed_trees.specs.Surroundings.{Table}
use Rattle.well_formed_trees.specs.Written.{IsShaped, IsUnit, EndsLast, AllEndLast, AreProcedures}
use Rattle.well_formed_trees.specs.WellFormed.{IsHeld, IsInner}
use Rattle.well_formed_trees.specs.Held.{HeldStmt, HeldStmts, HeldProcedure, entry, entries_in, entries_in_item}
use Rattle.well_formed_trees.specs.Held.{entries_in_stmt, table_of, BlocksKept}
use Rattle.well_formed_trees.proofs.Lists.{first_empty, second_empty, every_both, every_map}
use Rattle.well_formed_trees.proofs.Places.{HasAt, has_first, has_second, has_end}
use Rattle.well_formed_trees.proofs.SimpleStatements.{IsSimple, HasLine, assign_simple, call_simple, return_simple}
use Rattle.well_formed_trees.proofs.SimpleStatements.{goto_simple, assign_line, call_line, goto_line}
use Rattle.well_formed_trees.proofs.BlocksHeld.{typed_labels, stmt_length, item_length}
use Rattle.well_formed_trees.proofs.ProgramNumbers.{no_procedure}
use Rattle.pli_language.specs.declared.expr.Place.{Place}
use Rattle.pli_language.specs.declared.fault.SourceFault.{SourceFault}
use Rattle.pli_language.specs.Formats.{Getting, Putting}
use Rattle.pli_typing.specs.Judging.{Scope, each}
use Rattle.pli_typing.specs.Calls.{result_type, parameter_indices}
use Rattle.pli_typing.specs.Converting.{Operand}
use Rattle.pli_typing.specs.References.{operand}
use Rattle.pli_typing.specs.Variables.{head_of_block}
use Rattle.pli_typing.specs.SingleStatements.{skipped, get_of, put_of, not_returned, returned, result_around}
use Rattle.pli_typing.specs.SingleStatements.{result_or, first_or_none, condition}
use Rattle.well_formed_trees.specs.Ranges.{IsLine, IsTimesIf, IsFormatList}
use Rattle.well_formed_trees.specs.Spelled.{IsNamed, RangedIf, RangedSkip, RangedPair, IsRanged, StmtHas, ItemsHave}

-- ---- simple statements

simple_held : (table : Table) (ret : Returning) (w : List Around) (n : ℕ) (s : Y.Stmt) → HasLine n s → IsLine n
    → HeldStmt table ret w s
simple_held table ret w n (Y.Null line) h l = subst IsLine (sym h) l
simple_held table ret w n (Y.Assign target source line) h l = subst IsLine (sym h) l
simple_held table ret w n (Y.AssignElements target source line) h l = subst IsLine (sym h) l
simple_held table ret w n (Y.AssignAggregate target source line) h l = subst IsLine (sym h) l
simple_held table ret w n (Y.AssignArea target source line) h l = subst IsLine (sym h) l
simple_held table ret w n (Y.EmptyArea target line) h l = subst IsLine (sym h) l
simple_held table ret w n (Y.CallProcedure c line) h l = subst IsLine (sym h) l
simple_held table ret w n (Y.Goto level label line) h l = subst IsLine (sym h) l
simple_held table ret w n _ h l = absurd h

do_held : (table : Table) (ret : Returning) (w : List Around) (t : Turns) (body : Y.Stmts) (line : ℕ) → IsLine line
    → HeldStmts table ret (with_inner (labels_in body) w) body → HeldStmt table ret w (do_statement t body line)
do_held table ret w (OneTurn r s b) body line l h = (h, l)
do_held table ret w (CountedTurns counter s limit step b) body line l h = (h, l)

skip_held : (k : Option T.Skip) → RangedIf RangedSkip k → IsTimesIf (skipped k)
skip_held None h = tt
skip_held (Some k) h = h

gets_held : (scope : Scope) (ps : List T.EditPair) → Every (RangedPair Getting) ps
    → Every (λ p. IsFormatList Getting p.formats) (each (get_of scope) ps).value
gets_held scope [] h = tt
gets_held scope (p ∷ ps) h = (h.0.1, gets_held scope ps h.1)

puts_held : (scope : Scope) (ps : List T.EditPair) → Every (RangedPair Putting) ps
    → Every (λ p. IsFormatList Putting p.formats) (each (put_of scope) ps).value
puts_held scope [] h = tt
puts_held scope (p ∷ ps) h = (h.0.1, puts_held scope ps h.1)

-- ---- RETURN

not_returned_held : (table : Table) (ret : Returning) (w : List Around) (place : Place) (t : Option Y.LeafType)
    → ret ≡ Returns t → (not_returned place t).faults ≡ [] → IsLine place.line
    → HeldStmt table ret w (not_returned place t).value
not_returned_held table ret w place None e f l = (e, l)
not_returned_held table ret w place (Some t) e f l = absurd (cc f)

returned_held : (table : Table) (ret : Returning) (w : List Around) (place : Place) (t : Option Y.LeafType)
    (o : Operand) → ret ≡ Returns t → (returned place t o).faults ≡ [] → IsLine place.line
    → HeldStmt table ret w (returned place t o).value
returned_held table ret w place None o e f l = absurd (cc f)
returned_held table ret w place (Some t) o e f l = (e, l)

return_held : (table : Table) (ret : Returning) (w : List Around) (c : Context) (v : Option T.Expr) (place : Place)
    → ret ≡ Returns (result_around c.scope.blocks c.around) → (return_statement c v place).faults ≡ []
    → IsLine place.line → HeldStmt table ret w (return_statement c v place).value
return_held table ret w c None place e f l =
    not_returned_held table ret w place (result_around c.scope.blocks c.around) e f l
return_held table ret w c (Some v) place e f l =
    let o = operand c.scope v in
    let t = result_around c.scope.blocks c.around in
    returned_held table ret w place t o.value e (second_empty o.faults (returned place t o.value).faults f) l

-- ---- where a place stands in the table and among the blocks, and what RETURN may be there

pub record Stands (table : Table) (c : Context) (may : Bool) (ret : Returning) (a : Around)
    (more : List Around) : Type 0 where
  pub deep : length c.around ≡ suc (suc (length more))
  pub level : a.level ≡ length more
  pub here : level_of_block c.scope.blocks c.scope.block ≡ length more
  pub number : a.number ≡ c.scope.block
  pub first : first_or_none c.around ≡ c.scope.block
  pub listed : slice_get table a.number ≡ Some (without_inner (a ∷ more))
  pub returns : may ≡ true → ret ≡ Returns (result_around c.scope.blocks c.around)

-- the level of a block is that of the blocks around it and one more
pub level_found : (blocks : List Block) (number deep : ℕ) (b : Block) → slice_get blocks number ≡ Some b
    → length b.around ≡ suc (suc deep) → level_of_block blocks number ≡ deep
level_found blocks number deep b e f =
    let a : level_of_block blocks number ≡ length b.around - 2 = ap (λ o. depth_of_block o - 2) e in
    omega (arith, a, f)

-- an own entry, as the typed block says it
abbrev pub own_entry : (number level : ℕ) → List Label → List Around → List Around
own_entry number level ls w = record { number = number; level = level; outermost = ls; inner = [] } ∷ w

pub own_is : (number level : ℕ) (ls : List Label) (labels : List T.Name) (w : List Around) → level ≡ length w
    → ls ≡ letters_of labels → own_entry number level ls w ≡ entry number labels w
own_is number level ls labels w e f =
    ap (λ l. own_entry number l ls w) e ∙ ap (λ ls. own_entry number (length w) ls w) f

inner_is : (w : List Around) (ls ks : List Label) → ls ≡ ks → with_inner ls w ≡ with_inner ks w
inner_is w ls ks e = ap (λ ls. with_inner ls w) e

pub in_group : {table : Table} {c : Context} {may : Bool} {ret : Returning} {a : Around} {more : List Around}
    (labels : List T.Name) → Stands table c may ret a more
    → Stands table (in_list c labels) may ret (record a { inner = letters_of labels ++ a.inner }) more
in_group labels st = record {
  deep = st.deep;
  level = st.level;
  here = st.here;
  number = st.number;
  first = st.first;
  listed = st.listed;
  returns =
      st.returns;
}

-- no RETURN stands in an on-unit
pub in_on : {table : Table} {c : Context} {may : Bool} {ret : Returning} {a : Around} {more : List Around}
    → Stands table c may ret a more → Stands table (in_unit c) false NoReturn (record a { inner = [] }) more
in_on st = record {
  deep = st.deep;
  level = st.level;
  here = st.here;
  number = st.number;
  first = st.first;
  listed = st.listed;
  returns =
      λ e. absurd (cc e);
}

-- into a block, of which the blocks and the table have what its place has
pub stands_inside : {table : Table} (c : Context) (may : Bool) (ret : Returning) {w : List Around} (next : ℕ)
    (labels : List T.Name) (b : Block) → b.around ≡ next ∷ c.around → length c.around ≡ suc (length w)
    → slice_get c.scope.blocks next ≡ Some b → slice_get table next ≡ Some (entry next labels w)
    → (may ≡ true → ret ≡ Returns (result_or c.scope.blocks c.around b.head (result_around c.scope.blocks c.around)))
    → Stands table (in_block c next labels) may ret
    (record { number = next; level = length w; outermost = letters_of labels; inner = [] }) w
stands_inside c may ret {w = w} next labels b e d f t r =
    let g : length b.around ≡ suc (suc (length w)) = ap length e ∙ ap suc d in
    record {
      deep = ap suc d;
      level = refl;
      here = level_found c.scope.blocks next (length w) b f g;
      number = refl;
      first = refl;
      listed = t;
      returns = λ m. r m ∙ sym (ap
          (λ o. Returns (result_or c.scope.blocks c.around (head_of_block o)
          (result_around c.scope.blocks c.around))) f);
    }

-- ---- on-units

abbrev IsUnitValue : Y.Stmt → Type 0
IsUnitValue (Y.Begin block) = ⊤
IsUnitValue s = IsSimple s

simple_value : (s : Y.Stmt) → IsSimple s → IsUnitValue s
simple_value (Y.Begin block) h = tt
simple_value s h = h

unit_value : (c : Context) (next : ℕ) (s : T.Stmt) → IsUnit s → IsUnitValue (statement c next s).value
unfolding statement
unit_value c next (T.Assign target source place) h =
    simple_value (assign_statement c.scope target source place).value (assign_simple c.scope target source place)
unit_value c next (T.If e unit place) h = absurd h
unit_value c next (T.IfElse e unit otherwise place) h = absurd h
unit_value c next (T.Do body place) h = absurd h
unit_value c next (T.DoWhile e body place) h = absurd h
unit_value c next (T.DoCount counting body place) h = absurd h
unit_value c next (T.OnSystem on place) h = absurd h
unit_value c next (T.OnUnit on unit place) h = absurd h
unit_value c next (T.Call name a place) h =
    simple_value (call_statement c.scope name a place).value (call_simple c.scope name a place)
unit_value c next (T.Return value place) h =
    simple_value (return_statement c value place).value (return_simple c value place)
unit_value c next (T.Goto label place) h = simple_value (goto_statement c label place).value (goto_simple c label place)
unit_value c next _ h = tt

-- what holds no statement says the same whatever is around
moved_held : (table : Table) (ret : Returning) (w v : List Around) (s : Y.Stmt) → IsSimple s → HeldStmt table ret w s
    → HeldStmt table ret v s
moved_held table ret w v (Y.If condition unit line) u h = absurd u
moved_held table ret w v (Y.IfElse condition unit otherwise line) u h = absurd u
moved_held table ret w v (Y.Do body line) u h = absurd u
moved_held table ret w v (Y.DoWhile condition body line) u h = absurd u
moved_held table ret w v (Y.DoOnce target start condition body line) u h = absurd u
moved_held table ret w v (Y.DoCount counter start limit step condition body line) u h = absurd u
moved_held table ret w v (Y.Begin block) u h = absurd u
moved_held table ret w v (Y.OnUnit condition block line) u h = absurd u
moved_held table ret w v _ u h = h

simple_unit_level : {table : Table} {c : Context} {may : Bool} {ret : Returning} {a : Around} {more : List Around}
    → Stands table c may ret a more → level_of_block c.scope.blocks c.scope.block + 1 ≡ suc a.level
simple_unit_level st =
    let e = st.here in
    let f = st.level in
    omega (arith, e, f)

unit_held : {table : Table} {c : Context} {may : Bool} {ret : Returning} {a : Around} {more : List Around}
    (st : Stands table c may ret a more) (on : _) (line : ℕ) (s : Y.Stmt) → IsLine line → IsUnitValue s
    → HeldStmt table NoReturn (without_inner (a ∷ more)) s
    → HeldStmt table ret (a ∷ more) (Y.OnUnit on (unit_of c line s) line)
unit_held st on line (Y.Begin (Y.BlockOf head body)) l u h = ((tt, (h.0.1.0, h.0.1.1)), (h.1, l))
unit_held {table} {c} {a = a} {more = more} st on line s l u h =
    let w = without_inner (a ∷ more) in
    let v = own_entry c.scope.block (level_of_block c.scope.blocks c.scope.block + 1) [] w in
    ((sym st.number, ((l, simple_unit_level st), tt)), ((moved_held table NoReturn w v s u h, tt), l))

-- ---- statements and lists

-- a procedure comes of the head of a block
pub record IsFrom (blocks : List Block) (p : Y.Procedure) : Type 0 where
  pub number : ℕ
  pub head : T.ProcedureHead
  pub block : Block
  pub found : slice_get blocks number ≡ Some block
  pub has_head : block.head ≡ Some head
  pub named : IsNamed head.labels
  pub own : (head_of p.block).number ≡ number
  pub parameters : p.parameters ≡ parameter_indices blocks number head.parameters
  pub holder : ℕ
  pub result : p.result ≡ result_type blocks holder head
  pub around : List ℕ
  pub around_is : block.around ≡ number ∷ around
  pub holder_is : first_or_none around ≡ holder
  pub level_is : (head_of p.block).level ≡ level_of_block blocks number
  pub kind_is : (head_of p.block).kind ≡ Y.ProcedureBlock

abbrev pub HeldFrom : Table → List Block → Y.Procedure → Type 0
HeldFrom table blocks p = HeldProcedure table p × IsFrom blocks p

-- a procedure inside another one
abbrev pub HeldInside : Table → List Block → Y.Procedure → Type 0
HeldInside table blocks p = IsInner p × HeldFrom table blocks p

with_none : (table : Table) (blocks : List Block) (ps : List Y.Procedure) → Every (HeldInside table blocks) ps
    → Every (HeldInside table blocks) (ps ++ [])
with_none table blocks ps h = every_both (HeldInside table blocks) ps [] h tt

both_none : (table : Table) (blocks : List Block) (ps qs : List Y.Procedure) → Every (HeldInside table blocks) ps
    → Every (HeldInside table blocks) qs
    → Every (HeldInside table blocks) (ps ++ (qs ++ []))
both_none table blocks ps qs h l = every_both (HeldInside table blocks) ps (qs ++ []) h (with_none table blocks qs l)

abbrev StmtHeld : Table → Returning → Context → List Around → ℕ → T.Stmt → Type 0
StmtHeld table ret c w next s =
    HeldStmt table ret w (statement c next s).value × Every (HeldInside table c.scope.blocks)
    (statement c next s).procedures

abbrev pub StmtsHeld : Table → Returning → Context → List Around → ℕ → T.Items → Type 0
StmtsHeld table ret c w next is =
    HeldStmts table ret w (statements c next is).value × Every (HeldInside table c.scope.blocks)
    (statements c next is).procedures

-- that the blocks and the table have what stands from a place on
abbrev pub HasStmt : Table → Context → List Around → ℕ → T.Stmt → Type 0
HasStmt table c w next s =
    HasAt c.scope.blocks next (blocks_in_stmt c.around next s) × HasAt table next (entries_in_stmt w next s)

abbrev pub HasItems : Table → Context → List Around → ℕ → T.Items → Type 0
HasItems table c w next is =
    HasAt c.scope.blocks next (blocks_in c.around next is) × HasAt table next (entries_in w next is)

-- that it is in range, and breaks no rule of typing
abbrev pub StmtFine : Context → (b u : ℕ) → Bool → ℕ → T.Stmt → Type 0
StmtFine c b u may next s = StmtHas IsRanged b u may s × ((statement c next s).faults ≡ [])

abbrev pub ItemsFine : Context → (b u : ℕ) → Bool → ℕ → T.Items → Type 0
ItemsFine c b u may next is = ItemsHave IsRanged b u may is × ((statements c next is).faults ≡ [])

-- what goes on behind a part is fine, too
pub alone_fine : (fs : List SourceFault) → fs ++ [] ≡ [] → fs ≡ []
alone_fine fs e = first_empty fs [] e

-- a group's list, whose labels the typed list has, too
group_held : (table : Table) (ret : Returning) (w : List Around) (labels : List T.Name) (body : Y.Stmts)
    → labels_in body ≡ letters_of labels → HeldStmts table ret (with_inner (letters_of labels) w) body
    → HeldStmts table ret (with_inner (labels_in body) w) body
group_held table ret w labels body e h =
    subst (λ v. HeldStmts table ret v body) (sym (inner_is w (labels_in body) (letters_of labels) e)) h

abbrev ListHeld : Table → Returning → Context → List Around → ℕ → T.Items → Type 0
ListHeld table ret c w next body =
    HeldStmts table ret (with_inner (labels_in (statements (in_list c (S.labels_in body)) next body).value) w)
    (statements (in_list c (S.labels_in body)) next body).value
    × Every (HeldInside table c.scope.blocks) (statements (in_list c (S.labels_in body)) next body).procedures

list_held : (table : Table) (ret : Returning) (c : Context) (w : List Around) (next : ℕ) (body : T.Items)
    → AllEndLast body
    → StmtsHeld table ret (in_list c (S.labels_in body)) (with_inner (letters_of (S.labels_in body)) w) next body
    → ListHeld table ret c w next body
list_held table ret c w next body l m =
    let d = in_list c (S.labels_in body) in
    (group_held table ret w (S.labels_in body) (statements d next body).value (typed_labels d next body l) m.0, m.1)

-- a block that a procedure is, in a place around
procedure_held : (table : Table) (c : Context) (w : List Around) (next : ℕ) (head : T.ProcedureHead) (body : T.Items)
    → AllEndLast body → level_of_block c.scope.blocks next ≡ length w → IsHeld table (length w) w
    → slice_get table next ≡ Some (entry next (S.labels_in body) w) → IsLine head.place.line
    → HeldStmts table (Returns (result_type c.scope.blocks c.scope.block head)) (entry next (S.labels_in body) w)
    (statements (in_block c next (S.labels_in body)) (next + 1) body).value
    → HeldProcedure table
    (procedure_of c next head (statements (in_block c next (S.labels_in body)) (next + 1) body).value)
procedure_held table c w next head body l e held listed line m =
    let r = statements (in_block c next (S.labels_in body)) (next + 1) body in
    let own = own_is next (level_of_block c.scope.blocks next) (labels_in r.value) (S.labels_in body) w e
    (typed_labels (in_block c next (S.labels_in body)) (next + 1) body l) in
    record {
      head = record {
        kind = Y.ProcedureBlock;
        number = next;
        level = level_of_block c.scope.blocks next;
        line = head.place.line;
      };
      body = r.value;
      is = refl;
      kind = refl;
      line = line;
      outer = w;
      held = subst (λ level. IsHeld table level w) (sym e) held;
      listed = listed ∙ ap Some (sym own);
      statements =
          subst (λ w. HeldStmts table (Returns (result_type c.scope.blocks c.scope.block head)) w r.value) (sym own) m;
    }

-- what a procedure's own RETURN may be
pub procedure_returns : (c : Context) (head : T.ProcedureHead) (further : Option Y.LeafType)
    → first_or_none c.around ≡ c.scope.block
    → Returns (result_type c.scope.blocks c.scope.block head)
    ≡ Returns (result_or c.scope.blocks c.around (Some head) further)
procedure_returns c head further e =
    ap (λ b. Returns (result_type c.scope.blocks b head)) (sym e)

from_block : (c : Context) (next : ℕ) (head : T.ProcedureHead) (block : Block) (body : Y.Stmts)
    → slice_get c.scope.blocks next ≡ Some (record block { head = Some head }) → IsNamed head.labels
    → block.around ≡ next ∷ c.around → first_or_none c.around ≡ c.scope.block
    → IsFrom c.scope.blocks (procedure_of c next head body)
from_block c next head block body e h around first = record {
  number = next;
  head = head;
  block = record block { head = Some head };
  found = e;
  has_head = refl;
  named = h;
  own =
      refl;
  parameters = refl;
  holder = c.scope.block;
  result = refl;
  around = c.around;
  around_is = around;
  holder_is = first;
  level_is = refl;
  kind_is = refl;
}

mutual
  unfolding statement statements blocks_in blocks_in_item blocks_in_stmt entries_in entries_in_item entries_in_stmt

  stmt_held : (table : Table) (ret : Returning) (c : Context) (a : Around) (more : List Around) (b u : ℕ)
      (may : Bool) → Stands table c may ret a more → (next : ℕ) (s : T.Stmt) → EndsLast s
      → HasStmt table c (a ∷ more) next s → StmtFine c b u may next s → StmtHeld table ret c (a ∷ more) next s
  stmt_held table ret c a more b u may st next (T.Null place) l h k = (k.0.0, tt)
  stmt_held table ret c a more b u may st next (T.Assign target source place) l h k = (
    simple_held table ret (a ∷ more) place.line (assign_statement c.scope target source place).value
        (assign_line c.scope target source place) k.0.0.1,
    tt,
  )
  stmt_held table ret c a more b u may st next (T.If e unit place) l h k =
      let cond = (condition c.scope e).faults in
      let own = (statement c next unit).faults in
      let f = alone_fine own (second_empty cond (own ++ []) k.1) in
      let m = stmt_held table ret c a more b (suc u) may st next unit l h (k.0.1, f) in
      ((m.0, k.0.0.1.0), with_none table c.scope.blocks (statement c next unit).procedures m.1)
  stmt_held table ret c a more b u may st next (T.IfElse e unit otherwise place) l h k =
      let bs = blocks_in_stmt c.around next unit in
      let cs = blocks_in_stmt c.around (next + length bs) otherwise in
      let es = entries_in_stmt (a ∷ more) next unit in
      let fs = entries_in_stmt (a ∷ more) (next + length es) otherwise in
      let same : next + length es ≡ next + length bs =
      ap (λ k. next + k) (stmt_length (a ∷ more) c.around next next unit) in
      let second : HasAt table (next + length bs) (entries_in_stmt (a ∷ more) (next + length bs) otherwise) =
      subst (λ k. HasAt table k (entries_in_stmt (a ∷ more) k otherwise)) same (has_second table next es fs h.1) in
      let cond = (condition c.scope e).faults in
      let own = (statement c next unit).faults in
      let others = (statement c (next + length bs) otherwise).faults in
      let f = second_empty cond (own ++ (others ++ [])) k.1 in
      let g = alone_fine others (second_empty own (others ++ []) f) in
      let m = stmt_held table ret c a more b (suc u) may st next unit l.0
      (has_first c.scope.blocks next bs cs h.0, has_first table next es fs h.1)
      (k.0.1.0, first_empty own (others ++ []) f) in
      let n = stmt_held table ret c a more b (suc u) may st (next + length bs) otherwise l.1
      (has_second c.scope.blocks next bs cs h.0, second) (k.0.1.1, g) in (
        (m.0, (n.0, k.0.0.1.0)),
        both_none table c.scope.blocks (statement c next unit).procedures
            (statement c (next + length bs) otherwise).procedures m.1 n.1,
      )
  stmt_held table ret c a more b u may st next (T.Do body place) l h k =
      let d = in_list c (S.labels_in body) in
      let own = (statements d next body).faults in
      let m = list_held table ret c (a ∷ more) next body l
      (stmts_held table ret d (record a { inner = letters_of (S.labels_in body) ++ a.inner }) more b (suc u) may
      (in_group (S.labels_in body) st) next body l h (k.0.1, alone_fine own k.1)) in
      ((m.0, k.0.0.0), with_none table c.scope.blocks (statements d next body).procedures m.1)
  stmt_held table ret c a more b u may st next (T.DoWhile e body place) l h k =
      let d = in_list c (S.labels_in body) in
      let own = (statements d next body).faults in
      let f = alone_fine own (second_empty (condition c.scope e).faults (own ++ []) k.1) in
      let m = list_held table ret c (a ∷ more) next body l
      (stmts_held table ret d (record a { inner = letters_of (S.labels_in body) ++ a.inner }) more b (suc u) may
      (in_group (S.labels_in body) st) next body l h (k.0.1, f)) in
      ((m.0, k.0.0.1.0), with_none table c.scope.blocks (statements d next body).procedures m.1)
  stmt_held table ret c a more b u may st next (T.DoCount counting body place) l h k =
      let d = in_list c (S.labels_in body) in
      let r = statements d next body in
      let f = alone_fine r.faults (second_empty (turns c.scope counting).faults (r.faults ++ []) k.1) in
      let m = list_held table ret c (a ∷ more) next body l
      (stmts_held table ret d (record a { inner = letters_of (S.labels_in body) ++ a.inner }) more b (suc u) may
      (in_group (S.labels_in body) st) next body l h (k.0.1, f)) in (
        do_held table ret (a ∷ more) (turns c.scope counting).value r.value place.line k.0.0.1.0 m.0,
        with_none table c.scope.blocks r.procedures m.1,
      )
  stmt_held table ret c a more b u may st next (T.Begin body place) l h k =
      let d = in_block c next (S.labels_in body) in
      let r = statements d (next + 1) body in
      let block : Block = record { around = next ∷ c.around; head = None; declarations = declared_in body } in
      let inside = stands_inside c may ret next (S.labels_in body) block refl st.deep h.0.0 h.1.0 st.returns in
      let m = stmts_held table ret d _ (a ∷ more) (suc b) u may inside (next + 1) body l (h.0.1, h.1.1)
      (k.0.1, alone_fine r.faults k.1) in
      let own = own_is next (level_of_block c.scope.blocks next) (labels_in r.value) (S.labels_in body) (a ∷ more)
      inside.here (typed_labels d (next + 1) body l) in (
        (
          (refl, ((k.0.0.0, inside.here ∙ ap suc (sym st.level)), h.1.0 ∙ ap Some (sym own))),
          subst
              (λ w. HeldStmts table ret w r.value) (sym own) m.0,
        ),
        with_none table c.scope.blocks r.procedures m.1,
      )
  stmt_held table ret c a more b u may st next (T.OnSystem on place) l h k = (k.0.0, tt)
  stmt_held table ret c a more b u may st next (T.OnUnit on unit place) l h k =
      let r = statement (in_unit c) next unit in
      let m = stmt_held table NoReturn (in_unit c) (record a { inner = [] }) more b (suc u) false (in_on st) next unit
      l.1 h (k.0.1, alone_fine r.faults k.1) in (
        unit_held st on place.line r.value k.0.0.0 (unit_value (in_unit c) next unit l.0) m.0,
        with_none table c.scope.blocks r.procedures m.1,
      )
  stmt_held table ret c a more b u may st next (T.Call name x place) l h k = (
    simple_held table ret (a ∷ more) place.line (call_statement c.scope name x place).value
        (call_line c.scope name x place) k.0.0.1,
    tt,
  )
  stmt_held table ret c a more b u may st next (T.Return value place) l h k =
      (return_held table ret (a ∷ more) c value place (st.returns k.0.1) k.1 k.0.0.1, tt)
  stmt_held table ret c a more b u may st next (T.Goto label place) l h k = (
    simple_held table ret (a ∷ more) place.line (goto_statement c label place).value (goto_line c label place) k.0.0,
    tt,
  )
  stmt_held table ret c a more b u may st next (T.Stop place) l h k = (k.0.0, tt)
  stmt_held table ret c a more b u may st next (T.Signal on place) l h k = (k.0.0, tt)
  stmt_held table ret c a more b u may st next (T.Revert on place) l h k = (k.0.0, tt)
  stmt_held table ret c a more b u may st next (T.Allocate allocations place) l h k = (k.0.0.1, tt)
  stmt_held table ret c a more b u may st next (T.Free freeings place) l h k = (k.0.0.1, tt)
  stmt_held table ret c a more b u may st next (T.Get skip pairs place) l h k =
      ((skip_held skip k.0.0.0, (gets_held c.scope pairs k.0.0.1.0, k.0.0.1.1)), tt)
  stmt_held table ret c a more b u may st next (T.Put skip pairs place) l h k =
      ((skip_held skip k.0.0.0, (puts_held c.scope pairs k.0.0.1.0, k.0.0.1.1)), tt)

  stmts_held : (table : Table) (ret : Returning) (c : Context) (a : Around) (more : List Around) (b u : ℕ)
      (may : Bool) → Stands table c may ret a more → (next : ℕ) (is : T.Items) → AllEndLast is
      → HasItems table c (a ∷ more) next is → ItemsFine c b u may next is → StmtsHeld table ret c (a ∷ more) next is
  stmts_held table ret c a more b u may st next T.NoItem l h k = (tt, tt)
  stmts_held table ret c a more b u may st next (T.ItemThen (T.Procedure head body) is) l h k =
      let w = without_inner (a ∷ more) in
      let d = in_block c next (S.labels_in body) in
      let r = statements d (next + 1) body in
      let bs = blocks_in_item c.around next (T.Procedure head body) in
      let cs = blocks_in c.around (next + length bs) is in
      let es = entries_in_item (a ∷ more) next (T.Procedure head body) in
      let fs = entries_in (a ∷ more) (next + length es) is in
      let same : next + length es ≡ next + length bs =
      ap (λ k. next + k) (item_length (a ∷ more) c.around next next (T.Procedure head body)) in
      let second : HasAt table (next + length bs) (entries_in (a ∷ more) (next + length bs) is) =
      subst (λ k. HasAt table k (entries_in (a ∷ more) k is)) same (has_second table next es fs h.1) in
      let block : Block = record { around = next ∷ c.around; head = Some head; declarations = declared_in body } in
      let own_blocks = has_first c.scope.blocks next bs cs h.0 in
      let own_entries = has_first table next es fs h.1 in
      let result = Returns (result_type c.scope.blocks c.scope.block head) in
      let inside = stands_inside c true result next (S.labels_in body) block refl st.deep own_blocks.0 own_entries.0
      (λ e. procedure_returns c head (result_around c.scope.blocks c.around) st.first) in
      let others = (statements c (next + length bs) is).faults in
      let m = stmts_held table result d _ w (suc b) u true inside (next + 1) body l.0 (own_blocks.1, own_entries.1)
      (k.0.0.1, first_empty r.faults others k.1) in
      let n = stmts_held table ret c a more b u may st (next + length bs) is l.1
      (has_second c.scope.blocks next bs cs h.0, second) (k.0.1, second_empty r.faults others k.1) in
      let p = procedure_held table c w next head body l.0 inside.here (ap suc (sym st.level), st.listed) own_entries.0
      k.0.0.0.0.1.0 m.0 in
      let deep = inside.here in
      let inner : 1 ≤ level_of_block c.scope.blocks next = omega (arith, deep) in (
        n.0,
        (
          (inner, (p, from_block c next head block r.value own_blocks.0 k.0.0.0.1 refl st.first)),
          every_both (HeldInside table c.scope.blocks) r.procedures (statements c (next + length bs) is).procedures m.1
              n.1,
        ),
      )
  stmts_held table ret c a more b u may st next (T.ItemThen (T.Declare items place) is) l h k =
      let z : next + 0 ≡ next = omega arith in
      stmts_held table ret c a more b u may st next is l (
        subst (λ k. HasAt c.scope.blocks next (blocks_in c.around k is)) z h.0,
        subst
            (λ k. HasAt table next (entries_in (a ∷ more) k is)) z h.1,
      ) (k.0.1, k.1)
  stmts_held table ret c a more b u may st next (T.ItemThen (T.Statement labels s) is) l h k =
      let bs = blocks_in_stmt c.around next s in
      let cs = blocks_in c.around (next + length bs) is in
      let es = entries_in_stmt (a ∷ more) next s in
      let fs = entries_in (a ∷ more) (next + length es) is in
      let same : next + length es ≡ next + length bs =
      ap (λ k. next + k) (stmt_length (a ∷ more) c.around next next s) in
      let second : HasAt table (next + length bs) (entries_in (a ∷ more) (next + length bs) is) =
      subst (λ k. HasAt table k (entries_in (a ∷ more) k is)) same (has_second table next es fs h.1) in
      let own = (statement c next s).faults in
      let others = (statements c (next + length bs) is).faults in
      let f = alone_fine others (second_empty own (others ++ []) k.1) in
      let m = stmt_held table ret c a more b u may st next s l.0
      (has_first c.scope.blocks next bs cs h.0, has_first table next es fs h.1)
      (k.0.0, first_empty own (others ++ []) k.1) in
      let n = stmts_held table ret c a more b u may st (next + length bs) is l.1
      (has_second c.scope.blocks next bs cs h.0, second) (k.0.1, f) in (
        (m.0, n.0),
        both_none table c.scope.blocks (statement c next s).procedures
            (statements c (next + length bs) is).procedures m.1
            n.1,
      )
  stmts_held table ret c a more b u may st next (T.ItemThen (T.EndLabels labels place) is) l h k = (tt, tt)

-- ---- programs

inside_held : (table : Table) (blocks : List Block) (ps : List Y.Procedure) → Every (HeldInside table blocks) ps
    → Every (HeldFrom table blocks) ps
inside_held table blocks ps h = every_map (HeldInside table blocks) (HeldFrom table blocks) (λ p k. k.1) ps h

-- an outer procedure's block, and what is inside it
pub main_held : (table : Table) (c : Context) → length c.around ≡ 1 → first_or_none c.around ≡ c.scope.block
    → (next : ℕ) (head : T.ProcedureHead) (body is : T.Items) → AllEndLast body
    → HasItems table c [] next (T.ItemThen (T.Procedure head body) is)
    → ItemsFine c 0 0 false next (T.ItemThen (T.Procedure head body) is)
    → (level_of_block c.scope.blocks next ≡ 0)
    × StmtsHeld table (Returns (result_type c.scope.blocks c.scope.block head)) (in_block c next (S.labels_in body))
    (entry next (S.labels_in body) []) (next + 1) body
unfolding statements blocks_in blocks_in_item entries_in entries_in_item
main_held table c deep first next head body is l h k =
    let d = in_block c next (S.labels_in body) in
    let r = statements d (next + 1) body in
    let bs = blocks_in_item c.around next (T.Procedure head body) in
    let cs = blocks_in c.around (next + length bs) is in
    let es = entries_in_item [] next (T.Procedure head body) in
    let fs = entries_in [] (next + length es) is in
    let block : Block = record { around = next ∷ c.around; head = Some head; declarations = declared_in body } in
    let own_blocks = has_first c.scope.blocks next bs cs h.0 in
    let own_entries = has_first table next es fs h.1 in
    let result = Returns (result_type c.scope.blocks c.scope.block head) in
    let inside = stands_inside c true result next (S.labels_in body) block refl deep own_blocks.0 own_entries.0
    (λ e. procedure_returns c head (result_around c.scope.blocks c.around) first) in
    let others = (statements c (next + length bs) is).faults in (
      inside.here,
      stmts_held table result d _ [] 1 0 true inside (next + 1) body l (own_blocks.1, own_entries.1)
          (k.0.0.1, first_empty r.faults others k.1),
    )

outer_held : (table : Table) (c : Context) → length c.around ≡ 1 → first_or_none c.around ≡ c.scope.block → (next : ℕ)
    (is : T.Items) → AreProcedures is → AllEndLast is → HasItems table c [] next is → ItemsFine c 0 0 false next is
    → Every (HeldFrom table c.scope.blocks) (statements c next is).procedures
unfolding statements blocks_in blocks_in_item entries_in entries_in_item
outer_held table c deep first next T.NoItem o l h k = tt
outer_held table c deep first next (T.ItemThen (T.Procedure head body) is) o l h k =
    let r = statements (in_block c next (S.labels_in body)) (next + 1) body in
    let bs = blocks_in_item c.around next (T.Procedure head body) in
    let cs = blocks_in c.around (next + length bs) is in
    let es = entries_in_item [] next (T.Procedure head body) in
    let fs = entries_in [] (next + length es) is in
    let same : next + length es ≡ next + length bs =
    ap (λ k. next + k) (item_length [] c.around next next (T.Procedure head body)) in
    let second : HasAt table (next + length bs) (entries_in [] (next + length bs) is) =
    subst (λ k. HasAt table k (entries_in [] k is)) same (has_second table next es fs h.1) in
    let m = main_held table c deep first next head body is l.0 h k in
    let n = outer_held table c deep first (next + length bs) is o l.1
    (has_second c.scope.blocks next bs cs h.0, second)
    (k.0.1, second_empty r.faults (statements c (next + length bs) is).faults k.1) in
    let p = procedure_held table c [] next head body l.0 m.0 refl (has_first table next es fs h.1).0 k.0.0.0.0.1.0
    m.1.0 in
    let block : Block = record { around = next ∷ c.around; head = Some head; declarations = declared_in body } in (
      (p, from_block c next head block r.value (has_first c.scope.blocks next bs cs h.0).0 k.0.0.0.1 refl first),
      every_both (HeldFrom table c.scope.blocks) r.procedures (statements c (next + length bs) is).procedures
          (inside_held table c.scope.blocks r.procedures m.1.1) n,
    )
outer_held table c deep first next _ o l h k = absurd o

-- all procedures of a program
pub all_held : (tree : T.Tree) → IsShaped tree → ItemsHave IsRanged 0 0 false tree.procedures
    → typing_faults tree ≡ [] → Every (HeldFrom (table_of tree) (blocks_of tree)) (typed_tree tree).procedures
unfolding resolved blocks_of
all_held tree h ranged fine =
    let all = blocks_of tree in
    let c = outermost_context all in
    let table = table_of tree in
    let bs = has_end all (outermost ∷ []) (blocks_in (0 ∷ []) 1 tree.procedures) refl in
    let es = has_end table ([] ∷ []) (entries_in [] 1 tree.procedures) refl in
    let r = statements c 1 tree.procedures in
    let f = first_empty r.faults (block_variables all 0 all).faults fine in
    let m = outer_held table c refl refl 1 tree.procedures h.outer h.ends (bs, es) (ranged, f) in
    every_both (HeldFrom table all) r.procedures (block_variables all 0 all).procedures m
    (subst (Every (HeldFrom table all)) (sym (no_procedure all 0 all)) tt)

pub blocks_kept : BlocksKept
blocks_kept tree h ranged fine =
    every_map (HeldFrom (table_of tree) (blocks_of tree)) (HeldProcedure (table_of tree)) (λ p k. k.0)
    (typed_tree tree).procedures (all_held tree h ranged fine)
