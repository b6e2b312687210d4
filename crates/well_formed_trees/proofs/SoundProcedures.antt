-- Each procedure of an accepted source is sound: where its blocks and statements stand, and what these say.
use Rattle.std.proofs.Common.{◌≡◌, ℕ, Bool, true, false, List, [], ◌∷◌, sym, ap, ◌∙◌, subst}
use Rattle.std.specs.Prelude.{slice_get, ⊤}
use Rattle.pli_language.specs.declared.expr.Place.{Place}
use Rattle.pli_language.specs.declared.scope.Found.{Found}
use Rattle.pli_language.specs.declared.scope.Found.TheVariants as F
use Rattle.pli_language.specs.Formats.{Getting, Putting}
use Rattle.pli_language.specs.Tree as T
use Rattle.pli_typing.specs.TypedTree as Y
use Rattle.pli_typing.specs.Assigning.{holds_fixed}
use Rattle.pli_typing.specs.Variables.{name_means}
use Rattle.pli_typing.specs.Generations.{allocation, freeing}
use Rattle.pli_typing.specs.Judging.{each}
use Rattle.pli_typing.specs.SingleStatements.{Context, Turns, OneTurn, CountedTurns, do_statement, in_list}
use Rattle.pli_typing.specs.SingleStatements.{labels_in, turns, condition, goto_statement, get_of, put_of}
use Rattle.pli_typing.specs.SingleStatements.{jump, jump_found}
use Rattle.pli_typing.specs.Resolving.{statement, statements, typed_tree}
use Rattle.well_formed_trees.specs.Every.{Every}
use Rattle.well_formed_trees.specs.Ranges.{IsFormatList}
use Rattle.well_formed_trees.specs.Surroundings.{Around, Table, Where, Returning, Returns}
use Rattle.well_formed_trees.specs.Surroundings as W
use Rattle.well_formed_trees.specs.Statements.{SoundStmt, SoundStmts, SoundGetItem, SoundPutItem, SoundGetPair}
use Rattle.well_formed_trees.specs.Statements.{SoundPutPair, inside, SoundAllocation, SoundFreeing}
use Rattle.well_formed_trees.specs.Statements as X
use Rattle.well_formed_trees.specs.Spelled.{RangedAllocation, RangedFreeing}
use Rattle.well_formed_trees.specs.WellFormed.{SoundProcedure, procedure_around}
use Rattle.well_formed_trees.specs.Held.{HeldStmt, HeldStmts, HeldProcedure, IsUnitOf, table_of}
use Rattle.well_formed_trees.specs.Framed.{FramedProcedure}
use Rattle.well_formed_trees.specs.Everywhere.{StmtHolds, StmtsHold, ProcedureHolds, GoesAround}
use Rattle.well_formed_trees.specs.SoundStatements.{IsSoundAlone, AcceptedProcedures}
use Rattle.well_formed_trees.proofs.Lists.{first_empty}
use Rattle.well_formed_trees.proofs.Places.{same_some}
use Rattle.well_formed_trees.proofs.AcceptedFacts.{facts_kept}
use Rattle.well_formed_trees.proofs.AcceptedSources.{procedures_framed}
use Rattle.well_formed_trees.proofs.GroupsBare.{groups_kept}
use Rattle.well_formed_trees.proofs.HeadsInRange.{ranges_kept}
use Rattle.well_formed_trees.proofs.Shapes.{shape_kept}
use Rattle.well_formed_trees.proofs.StatementWalk.{IsOwn, holds_everywhere}
use Rattle.well_formed_trees.proofs.StatementsFit.{SoundTurns, condition_fit, turns_fit, assign_fit, gets_fit, puts_fit}
use Rattle.well_formed_trees.proofs.StatementsFit.{call_statement_fit, return_fit, each_holds}
use Rattle.well_formed_trees.proofs.AllocationsFit.{allocation_fit, freeing_fit}
use Rattle.well_formed_trees.proofs.Targets.{targets_own}

-- ---- each statement by itself

turns_alone : (w : Where) (t : Turns) (body : Y.Stmts) (line : ℕ) → SoundTurns w t
    → IsSoundAlone w (do_statement t body line)
turns_alone w (OneTurn r s b) body line h = h
turns_alone w (CountedTurns counter start limit step b) body line h = h

-- a GOTO, or what stands in for one
abbrev IsGotoOrNull : Y.Stmt → Type 0
IsGotoOrNull (Y.Null line) = ⊤
IsGotoOrNull (Y.Goto level label line) = ⊤
IsGotoOrNull _ = ⊥

jump_value : (c : Context) (name : T.Name) (place : Place) (block : ℕ) (b : Bool)
    → IsGotoOrNull (jump c name place block b).value
jump_value c name place block true = tt
jump_value c name place block false = tt

found_value : (c : Context) (name : T.Name) (place : Place) (f : Found) → IsGotoOrNull (jump_found c name place f).value
found_value c name place (F.One at) = jump_value c name place at.block _
found_value c name place F.None = tt
found_value c name place F.Ambiguous = tt

goto_value : (c : Context) (name : T.Name) (place : Place) → IsGotoOrNull (goto_statement c name place).value
goto_value c name place = found_value c name place (name_means c.scope.blocks c.scope.block name)

goes_alone : (w : Where) (s : Y.Stmt) → IsGotoOrNull s → GoesAround w s → IsSoundAlone w s
goes_alone w (Y.Null line) h k = tt
goes_alone w (Y.Goto level label line) h k = k
goes_alone w _ h k = absurd h

alone_own : IsOwn IsSoundAlone
unfolding statement
alone_own c w s b u may next (T.Assign target source place) f =
    assign_fit c.scope w s.scope target source place f.0.0.0.0 f.0.0.0.1 f.1
alone_own c w s b u may next (T.If e unit place) f =
    condition_fit c.scope w s.scope e f.0.0.0 (first_empty (condition c.scope e).faults _ f.1)
alone_own c w s b u may next (T.IfElse e unit otherwise place) f =
    condition_fit c.scope w s.scope e f.0.0.0 (first_empty (condition c.scope e).faults _ f.1)
alone_own c w s b u may next (T.DoWhile e body place) f =
    condition_fit c.scope w s.scope e f.0.0.0 (first_empty (condition c.scope e).faults _ f.1)
alone_own c w s b u may next (T.DoCount counting body place) f =
    turns_alone w (turns c.scope counting).value (statements (in_list c (labels_in body)) next body).value place.line
    (turns_fit c.scope w s.scope counting f.0.0.0 (first_empty (turns c.scope counting).faults _ f.1))
alone_own c w s b u may next (T.Call name a place) f = call_statement_fit c.scope w s.scope name a place f.0.0.0 f.1
alone_own c w s b u may next (T.Return value place) f = return_fit c w s value place f.0.0.0 f.1
alone_own c w s b u may next (T.Goto label place) f =
    goes_alone w (goto_statement c label place).value (goto_value c label place)
    (targets_own c w s b u may next (T.Goto label place) f)
alone_own c w s b u may next (T.Allocate allocations place) f =
    each_holds (SoundAllocation w) RangedAllocation (allocation c.scope place) (allocation_fit c.scope w s.scope place)
    allocations f.0.0.0 (first_empty (each (allocation c.scope place) allocations).faults [] f.1)
alone_own c w s b u may next (T.Free freeings place) f =
    each_holds (SoundFreeing w) RangedFreeing (freeing c.scope place) (freeing_fit c.scope w s.scope place) freeings
    f.0.0.0 (first_empty (each (freeing c.scope place) freeings).faults [] f.1)
alone_own c w s b u may next (T.Get skip pairs place) f =
    gets_fit c.scope w s.scope pairs f.0.0.1.0 (first_empty (each (get_of c.scope) pairs).faults [] f.1)
alone_own c w s b u may next (T.Put skip pairs place) f =
    puts_fit c.scope w s.scope pairs f.0.0.1.0 (first_empty (each (put_of c.scope) pairs).faults [] f.1)
alone_own c w s b u may next _ f = tt

-- ---- with all that it holds

gets_with : (w : Where) (ps : List Y.GetPair) → Every (λ p. IsFormatList Getting p.formats) ps
    → Every (λ p. Every (SoundGetItem w (holds_fixed p.formats)) p.items) ps → Every (SoundGetPair w) ps
gets_with w [] h k = tt
gets_with w (p ∷ ps) h k = ((h.0, k.0), gets_with w ps h.1 k.1)

puts_with : (w : Where) (ps : List Y.PutPair) → Every (λ p. IsFormatList Putting p.formats) ps
    → Every (λ p. Every (SoundPutItem w) p.items) ps → Every (SoundPutPair w) ps
puts_with w [] h k = tt
puts_with w (p ∷ ps) h k = ((h.0, k.0), puts_with w ps h.1 k.1)

unit_head : (w : Where) (head : Y.BlockHead) (kind : Y.BlockKind) → IsUnitOf w.around head kind
    → X.IsUnitHead w head kind
unit_head w head Y.UnitBlock h = tt
unit_head w head Y.SimpleUnit h = h
unit_head w head Y.ProcedureBlock h = absurd h
unit_head w head Y.BeginBlock h = absurd h

mutual
  sound_stmt : (w : Where) (s : Y.Stmt) → HeldStmt w.table w.returning w.around s → StmtHolds IsSoundAlone w s
      → SoundStmt w s
  sound_stmt w (Y.Null line) h k = h
  sound_stmt w (Y.Assign target source line) h k = (k.0, (k.1.0, (k.1.1, h)))
  sound_stmt w (Y.AssignElements target source line) h k = (k.0, (k.1.0, (k.1.1, h)))
  sound_stmt w (Y.AssignAggregate target source line) h k = (k.0, (k.1.0, (k.1.1, h)))
  sound_stmt w (Y.AssignArea target source line) h k = (k.0, (k.1, h))
  sound_stmt w (Y.EmptyArea target line) h k = (k, h)
  sound_stmt w (Y.If condition unit line) h k = (k.0, (sound_stmt w unit h.0 k.1, h.1))
  sound_stmt w (Y.IfElse condition unit otherwise line) h k =
      (k.0, (sound_stmt w unit h.0 k.1.0, (sound_stmt w otherwise h.1.0 k.1.1, h.1.1)))
  sound_stmt w (Y.Do body line) h k = (sound_stmts (W.in_list w (X.labels_in body)) body h.0 k.1, h.1)
  sound_stmt w (Y.DoWhile condition body line) h k =
      (k.0, (sound_stmts (W.in_list w (X.labels_in body)) body h.0 k.1, h.1))
  sound_stmt w (Y.DoOnce target start condition body line) h k =
      (k.0.0, (k.0.1, (sound_stmts (W.in_list w (X.labels_in body)) body h.0 k.1, h.1)))
  sound_stmt w (Y.DoCount counter start limit step condition body line) h k =
      (k.0.0, (k.0.1, (sound_stmts (W.in_list w (X.labels_in body)) body h.0 k.1, h.1)))
  sound_stmt w (Y.Begin (Y.BlockOf head body)) h k = (
    (h.0.0, (record { line = h.0.1.0.0; level = h.0.1.0.1 }, h.0.1.1)),
    sound_stmts (inside w head body) body h.1
        k.1,
  )
  sound_stmt w (Y.OnSystem condition line) h k = h
  sound_stmt w (Y.OnUnit condition (Y.BlockOf head body) line) h k = (
    (unit_head w head head.kind h.0.0, (record { line = h.0.1.0.0; level = h.0.1.0.1 }, h.0.1.1)),
    (sound_stmts (inside (W.in_unit w) head body) body h.1.0 k.1, h.1.1),
  )
  sound_stmt w (Y.CallProcedure c line) h k = (k.0, (k.1, h))
  sound_stmt w (Y.Return line) h k = h
  sound_stmt w (Y.ReturnValue type s line) h k = (h.0, (k.0, (k.1, h.1)))
  sound_stmt w (Y.Goto level label line) h k = (k, h)
  sound_stmt w (Y.Stop line) h k = h
  sound_stmt w (Y.Signal condition line) h k = h
  sound_stmt w (Y.Revert condition line) h k = h
  sound_stmt w (Y.Allocate allocations line) h k = (k, h)
  sound_stmt w (Y.Free freeings line) h k = (k, h)
  sound_stmt w (Y.Get skip pairs line) h k = (h.0, (gets_with w pairs h.1.0 k, h.1.1))
  sound_stmt w (Y.Put skip pairs line) h k = (h.0, (puts_with w pairs h.1.0 k, h.1.1))

  sound_stmts : (w : Where) (ss : Y.Stmts) → HeldStmts w.table w.returning w.around ss → StmtsHold IsSoundAlone w ss
      → SoundStmts w ss
  sound_stmts w (Y.EndOfList labels) h k = tt
  sound_stmts w (Y.StmtThen labels first rest) h k = (sound_stmt w first h.0 k.0, sound_stmts w rest h.1 k.1)

-- ---- procedures

same_head : (g h : Y.BlockHead) (b c : Y.Stmts) → Y.BlockOf g b ≡ Y.BlockOf h c → g ≡ h
same_head g h b c e = cc e

same_body : (g h : Y.BlockHead) (b c : Y.Stmts) → Y.BlockOf g b ≡ Y.BlockOf h c → b ≡ c
same_body g h b c e = cc e

same_outer : (a b : Around) (v w : List Around) → a ∷ v ≡ b ∷ w → v ≡ w
same_outer a b v w e = cc e

-- two walks over one procedure had the same around it
held_sound : (table : Table) (program : Y.Program) (p : Y.Procedure) (h : HeldProcedure table p)
    → ProcedureHolds IsSoundAlone table program p
    → SoundStmts (record {
      program = program;
      table = table;
      around = procedure_around h.head h.body h.outer;
      returning = Returns p.result;
    }) h.body
held_sound table program p h k =
    let e = sym k.is ∙ h.is in
    let head = same_head k.head h.head k.body h.body e in
    let body = same_body k.head h.head k.body h.body e in
    let around : procedure_around k.head k.body k.outer ≡ procedure_around h.head h.body k.outer =
    ap (λ g. procedure_around g k.body k.outer) head ∙ ap (λ b. procedure_around h.head b k.outer) body in
    let listed = same_some (procedure_around k.head k.body k.outer) (procedure_around h.head h.body h.outer)
    (sym k.listed ∙ (ap (λ (g : Y.BlockHead). slice_get table g.number) head ∙ h.listed)) in
    sound_stmts (record {
      program = program;
      table = table;
      around = procedure_around h.head h.body h.outer;
      returning = Returns p.result;
    }) h.body h.statements
    (subst (λ v. StmtsHold IsSoundAlone (record {
      program = program;
      table = table;
      around = v;
      returning = Returns p.result;
    }) h.body) listed
    (subst (λ b. StmtsHold IsSoundAlone (record {
      program = program;
      table = table;
      around = procedure_around k.head k.body k.outer;
      returning = Returns p.result;
    }) b) body k.statements))

procedure_sound : (table : Table) (program : Y.Program) (p : Y.Procedure) → FramedProcedure table program p
    → ProcedureHolds IsSoundAlone table program p → SoundProcedure table program p
procedure_sound table program p f k =
    let h = f.held in
    record {
      head = h.head;
      body = h.body;
      is = h.is;
      kind = h.kind;
      line = h.line;
      outer = h.outer;
      held = h.held;
      listed = h.listed;
      statements = held_sound table program p h k;
      labels = f.labels;
      parameters = f.parameters;
      apart = f.apart;
      result = f.result;
    }

all_sound : (table : Table) (program : Y.Program) (ps : List Y.Procedure) → Every (FramedProcedure table program) ps
    → Every (ProcedureHolds IsSoundAlone table program) ps → Every (SoundProcedure table program) ps
all_sound table program [] f k = tt
all_sound table program (p ∷ ps) f k =
    (procedure_sound table program p f.0 k.0, all_sound table program ps f.1 k.1)

pub accepted_procedures : AcceptedProcedures
accepted_procedures s tokens tree t h declared typed =
    all_sound (table_of tree) (typed_tree tree) (typed_tree tree).procedures
    (procedures_framed s tokens tree t h declared typed)
    (holds_everywhere IsSoundAlone alone_own tree (shape_kept s tokens tree h) (groups_kept s tokens tree h)
    (ranges_kept s tokens tree t h) typed (facts_kept s tokens tree t h declared typed))
