-- Statements that hold no statement: what each comes to, and what it breaks.
-- (X3.53-1976, chapter 6, flow of control, and chapter 8, input and output.)
use Rattle.std.specs.Prelude.{ℕ, Bool, true, false, List, [], ◌∷◌, ◌++◌, Option, Some, None, is_some, if◌then◌else◌, slice_get}
use Rattle.std.specs.List.{list_any}
use Rattle.pli_language.specs.declared.expr.Place.{Place}
use Rattle.pli_language.specs.declared.scope.Found.{Found}
use Rattle.pli_language.specs.declared.scope.Found.TheVariants as F
use Rattle.pli_language.specs.declared.fault.SourceKind.TheVariants.{Undeclared, Ambiguous, TypeMismatch, BadLabel}
use Rattle.pli_language.specs.Tree as T
use Rattle.pli_language.specs.Declarations.{Declaration, What, Variable', Label, ProcedureName, Block}
use Rattle.pli_language.specs.Declaring.{same_place, is_builtin}
use Rattle.pli_typing.specs.Judging.{Scope, Judged, fine, broken, each, ◌>>=◌, ◌>>◌}
use Rattle.pli_typing.specs.TypedTree as Y
use Rattle.pli_typing.specs.Variables.{head_of_block, level_of_block, declarations_at, name_means, what_at}
use Rattle.pli_typing.specs.Converting.{Operand, operand_value, own_bit_operand, number_operand, operand_stored, no_reference}
use Rattle.pli_typing.specs.Calls.{procedure_called, result_type}
use Rattle.pli_typing.specs.References.{listed, expressions, arguments, operand, referred}
use Rattle.pli_typing.specs.Assigning.{Scalar, assignment, computational_operand, scalar_operand, counter_of, get_pair, put_pair}
use Rattle.pli_typing.specs.Generations.{judged_if, allocation, freeing}

-- ---- where a statement stands

-- the names in its block, and the labels that a GOTO here may name: those of the block's outermost list, those of the lists
-- inside it that hold the statement, and those of blocks around
pub record Context : Type 0 where
  pub scope : Scope
  pub around : List ℕ
  pub outermost : List T.Name
  pub inner : List T.Name
  pub outer : List T.Name

-- a group's list
abbrev pub in_list : Context → List T.Name → Context
in_list c labels = record c { inner = labels ++ c.inner }

-- a block with this number; all labels that could be named around it can be named in it
abbrev pub in_block : Context → ℕ → List T.Name → Context
in_block c number labels =
    record {
      scope = record { blocks = c.scope.blocks; block = number };
      around = number ∷ c.around;
      outermost = labels;
      inner = [];
      outer = c.inner ++ c.outermost ++ c.outer;
    }

-- an on-unit; of its block's labels it can name those of the outermost list alone
abbrev pub in_unit : Context → Context
in_unit c = record c { inner = [] }

-- the labels of a list's own statements and of its END
abbrev pub labels_in : T.Items → List T.Name
labels_in T.NoItem = []
labels_in (T.ItemThen (T.Procedure head body) is) = labels_in is
labels_in (T.ItemThen (T.Declare items place) is) = labels_in is
labels_in (T.ItemThen (T.Statement labels s) is) = labels ++ labels_in is
labels_in (T.ItemThen (T.EndLabels labels place) is) = labels ++ labels_in is

-- ---- GOTO (chapter 6)

abbrev pub is_target : Context → Place → Bool
is_target c place = list_any (λ n. same_place n.place place) (c.inner ++ c.outermost ++ c.outer)

abbrev pub label_what : Place → What → Option Place
label_what place Label = Some place
label_what place (Variable' h) = None
label_what place (ProcedureName head) = None

abbrev pub label_declared : Option Declaration → Option Place
label_declared None = None
label_declared (Some d) = label_what d.name.place d.what

abbrev pub is_target_at : Context → Option Place → Bool
is_target_at c None = false
is_target_at c (Some place) = is_target c place

abbrev pub jump : Context → T.Name → Place → ℕ → Bool → Judged Y.Stmt
jump c name place block true = fine (Y.Goto (level_of_block c.scope.blocks block) name.letters place.line)
jump c name place block false = broken name.place BadLabel (Y.Null place.line)

-- what the name means must be a label that can be named here
abbrev pub jump_found : Context → T.Name → Place → Found → Judged Y.Stmt
jump_found c name place (F.One at) = jump c name place at.block (is_target_at c (label_declared (slice_get (declarations_at c.scope.blocks at.block) at.index)))
jump_found c name place F.None = jump c name place 0 false
jump_found c name place F.Ambiguous = broken name.place Ambiguous (Y.Null place.line)

abbrev pub goto_statement : Context → T.Name → Place → Judged Y.Stmt
goto_statement c name place = jump_found c name place (name_means c.scope.blocks c.scope.block name)

-- ---- CALL and RETURN (chapter 6)

abbrev pub not_called : Place → Judged Y.Stmt
not_called place = broken place TypeMismatch (Y.Null place.line)

abbrev pub called_procedure : List Block → ℕ → T.ProcedureHead → T.Name → Place → List Operand → Judged Y.Stmt
called_procedure blocks holder head name place operands = do
  call ← procedure_called blocks holder head name.place operands
  fine (Y.CallProcedure call place.line)

-- a procedure that is no function
abbrev pub called_what : List Block → ℕ → Option What → T.Name → Place → List Operand → Judged Y.Stmt
called_what blocks b (Some (ProcedureName head)) name place operands =
    if is_some (result_type blocks b head) then not_called place else called_procedure blocks b head name place operands
called_what blocks b _ name place operands = not_called place

abbrev pub called_found : List Block → Found → T.Name → Place → List Operand → Judged Y.Stmt
called_found blocks (F.One at) name place operands = called_what blocks at.block (what_at blocks at) name place operands
called_found blocks F.None name place operands = if is_builtin name.word then not_called place else broken name.place Undeclared (Y.Null place.line)
called_found blocks F.Ambiguous name place operands = broken name.place Ambiguous (Y.Null place.line)

abbrev pub call_statement : Scope → T.Name → T.Arguments → Place → Judged Y.Stmt
call_statement scope name a place = do
  operands ← arguments scope a
  called_found scope.blocks (name_means scope.blocks scope.block name) name place (listed operands)

abbrev pub first_or_none : List ℕ → ℕ
first_or_none [] = 0
first_or_none (b ∷ bs) = b

-- what the innermost procedure around returns; the block that declares it stands next around it
abbrev pub result_or : List Block → List ℕ → Option T.ProcedureHead → Option Y.LeafType → Option Y.LeafType
result_or blocks rest (Some head) further = result_type blocks (first_or_none rest) head
result_or blocks rest None further = further

abbrev pub result_around : List Block → List ℕ → Option Y.LeafType
result_around blocks [] = None
result_around blocks (b ∷ bs) = result_or blocks bs (head_of_block (slice_get blocks b)) (result_around blocks bs)

abbrev pub returned : Place → Option Y.LeafType → Operand → Judged Y.Stmt
returned place None o = broken place TypeMismatch (Y.Return place.line)
returned place (Some t) o = do
  s ← operand_stored t o
  fine (Y.ReturnValue t s place.line)

abbrev pub not_returned : Place → Option Y.LeafType → Judged Y.Stmt
not_returned place None = fine (Y.Return place.line)
not_returned place (Some t) = broken place TypeMismatch (Y.Return place.line)

-- a function returns a value, and no other procedure does
abbrev pub return_statement : Context → Option T.Expr → Place → Judged Y.Stmt
return_statement c None place = not_returned place (result_around c.scope.blocks c.around)
return_statement c (Some e) place = do
  o ← operand c.scope e
  returned place (result_around c.scope.blocks c.around) o

-- ---- conditions and turns (chapter 6, IF and DO)

-- the expression of IF and WHILE
abbrev pub condition : Scope → T.Expr → Judged Y.Bit
condition scope e = do
  o ← operand scope e
  own_bit_operand o

abbrev pub number_at : Scope → T.Expr → Judged Y.Number
number_at scope e = do
  o ← operand scope e
  number_operand o

-- what DO says, but for its list
pub data Turns : Type 0 where
  OneTurn : Y.Reference → Y.Stored → Option Y.Bit → Turns
  CountedTurns : Y.Counter → Y.Value → Option Y.Number → Y.Number → Option Y.Bit → Turns

abbrev pub no_turns : Turns
no_turns = OneTurn no_reference (Y.StoredBit (Y.BitConstant false)) None

abbrev pub step_or_one : Option Y.Number → Y.Number
step_or_one None = Y.NumberConstant 1
step_or_one (Some n) = n

abbrev pub turns_of : Place → Scalar → Operand → Option Y.Number → Option Y.Number → Option Y.Bit → Judged Turns
turns_of place v start None None b = do
  s ← operand_stored v.type start
  fine (OneTurn v.reference s b)
turns_of place v start limit step b = do
  counter ← counter_of place v.reference v.type
  s ← computational_operand start
  fine (CountedTurns counter s limit (step_or_one step) b)

-- start, limit and step are judged whatever the variable is
abbrev pub turns_with : Place → Option Scalar → Operand → Option Y.Number → Option Y.Number → Option Y.Bit → Judged Turns
turns_with place None start limit step b = do
  operand_value start
  fine no_turns
turns_with place (Some v) start limit step b = turns_of place v start limit step b

abbrev pub turns : Scope → T.Counting → Judged Turns
turns scope c = do
  o ← referred scope c.variable
  v ← scalar_operand o
  start ← operand scope c.start
  limit ← judged_if (number_at scope) c.limit
  step ← judged_if (number_at scope) c.step
  b ← judged_if (condition scope) c.condition
  turns_with o.place v start limit step b

abbrev pub do_statement : Turns → Y.Stmts → ℕ → Y.Stmt
do_statement (OneTurn r start b) body line = Y.DoOnce r start b body line
do_statement (CountedTurns counter start limit step b) body line = Y.DoCount counter start limit step b body line

-- ---- assignment, ALLOCATE, FREE, GET and PUT

abbrev pub assign_statement : Scope → T.Reference → T.Expr → Place → Judged Y.Stmt
assign_statement scope target source place = do
  t ← referred scope target
  s ← operand scope source
  assignment place t s

abbrev pub allocate_statement : Scope → List T.Allocation → Place → Judged Y.Stmt
allocate_statement scope allocations place = do
  all ← each (allocation scope place) allocations
  fine (Y.Allocate all place.line)

abbrev pub free_statement : Scope → List T.Freeing → Place → Judged Y.Stmt
free_statement scope freeings place = do
  all ← each (freeing scope place) freeings
  fine (Y.Free all place.line)

abbrev pub skipped : Option T.Skip → Option ℕ
skipped None = None
skipped (Some s) = Some s.number

abbrev pub get_of : Scope → T.EditPair → Judged Y.GetPair
get_of scope p = do
  os ← expressions scope p.items
  get_pair p.formats os

abbrev pub put_of : Scope → T.EditPair → Judged Y.PutPair
put_of scope p = do
  os ← expressions scope p.items
  put_pair p.formats os

abbrev pub get_statement : Scope → Option T.Skip → List T.EditPair → Place → Judged Y.Stmt
get_statement scope skip pairs place = do
  all ← each (get_of scope) pairs
  fine (Y.Get (skipped skip) all place.line)

abbrev pub put_statement : Scope → Option T.Skip → List T.EditPair → Place → Judged Y.Stmt
put_statement scope skip pairs place = do
  all ← each (put_of scope) pairs
  fine (Y.Put (skipped skip) all place.line)
