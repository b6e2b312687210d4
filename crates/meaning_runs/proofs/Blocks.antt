-- The blocks and whole runs of a well-formed program are there.
use Rattle.std.proofs.Common.{◌≡◌, ℕ, zero, suc, ◌+◌, ◌<◌, pos, List, [], ◌∷◌, Some, None, Bool, true, false}
use Rattle.std.proofs.Common.{refl, ap, sym, ◌∙◌, subst, arith, inl}
use Rattle.std.specs.Prelude.{⊤, drop, length, slice_get}
use Rattle.pli_language.specs.declared.condition.Condition.{Condition}
use Rattle.pli_language.specs.declared.condition.Condition.TheVariants as C
use Rattle.pli_meaning.specs.declared.outcome.End.TheVariants as E
use Rattle.pli_meaning.specs.declared.outcome.Limit.TheVariants as L
use Rattle.pli_meaning.specs.World.{counted, raising}
use Rattle.pli_typing.specs.TypedTree as Y
use Rattle.pli_meaning.specs.StorageState.{State, Activation, OnUnit, SystemUnit, BlockUnit, force}
use Rattle.pli_meaning.specs.Codes.{no_value_code}
use Rattle.pli_meaning.specs.Control.{is_among}
use Rattle.pli_meaning.specs.Raising as G
use Rattle.pli_meaning.specs.Raising.{Entry}
use Rattle.pli_meaning.specs.DeclaredShapes as D
use Rattle.pli_meaning.specs.Making as K
use Rattle.pli_meaning.specs.Executing as M
use Rattle.well_formed_trees.specs.Every.{Every}
use Rattle.well_formed_trees.specs.Surroundings.{Returning, NoReturn, Table, IsAround}
use Rattle.well_formed_trees.specs.Surroundings as W
use Rattle.well_formed_trees.specs.Expressions.{SoundNumber}
use Rattle.well_formed_trees.specs.Statements as T
use Rattle.well_formed_trees.specs.Statements.{IsListed, IsListedUnit}
use Rattle.well_formed_trees.specs.WellFormed.{HasMain, IsHeld}
use Rattle.meaning_runs.proofs.Calling as P
use Rattle.meaning_runs.proofs.Frames.{Frame, outlines, skeleton, closed, rest_outlines, IsOpen, AreAmong, Stands}
use Rattle.meaning_runs.proofs.Frames.{Chain, among_first, enters_own, covers_own, stands_wider, holds_of}
use Rattle.meaning_runs.proofs.Shapes.{IsShapedAs, shape_declared}
use Rattle.meaning_runs.proofs.Values.{fresh_values}
use Rattle.well_formed_trees.proofs.Lists.{every_map}
use Rattle.meaning_runs.proofs.Bindings.{Ground, same_bindings}
use Rattle.meaning_runs.proofs.Demands.{placed, block_around, Bearing, SoundOnUnit, HasUnits, Kept, Demand}
use Rattle.meaning_runs.proofs.Demands.{Anything, There, force_sound}
use Rattle.meaning_runs.proofs.Steps.{loose, slow, give_there, bind_there, then_there, looked_there, stored_there}
use Rattle.meaning_runs.proofs.Steps.{act_there, act_then, finish_there, choose_there, found_there, entering}
use Rattle.meaning_runs.proofs.Steps.{list_there, block_there, Leads, leads_there, leads_then, Passes}
use Rattle.meaning_runs.proofs.Ways.{Whole, Declares, FineProcedure, SoundEntry, Expected, statics_kept}
use Rattle.meaning_runs.proofs.Expressions.{error_unit_there}
use Rattle.meaning_runs.proofs.Ways.{ArePassedAs, listed_unit, next_of}
use Rattle.meaning_runs.proofs.Stored.{evaluations_there, variable_made_there, parameters_bound_there}
use Rattle.meaning_runs.proofs.Statements.{Level, FootAt, demand_at, around_at, place_at, lower, apart}
use Rattle.meaning_runs.proofs.Statements.{listed_frame, labels_same, newest_there, statements_there}

-- ---- blocks

-- what stands around the declarations of a block is known among the activations
abbrev Grounds : Level → Type 0
Grounds l =
    (blocks : List W.Around) → slice_get l.table l.frame.number ≡ Some blocks
    → Ground l.table (l.frame ∷ l.further) blocks

extents_begun : (d : Y.DeclaredVariable) (l : Level) → Grounds l → Declares l.program l.table l.frame.number d
    → There (demand_at l) 0 1 l.left Anything (K.extents (around_at l) d.evaluations)
unfolding K.extents
extents_begun d l g h = of_list d.evaluations h.sound h.allowed
  where
    of_list : (xs : List Y.Evaluation)
        → Every (λ x. SoundNumber (placed l.program l.table h.blocks NoReturn) x.value) xs
        → Every (λ x. P.AllowedNumber P.NoCall x.value) xs
        → There (demand_at l) 0 1 l.left Anything (K.extents (around_at l) xs)
    of_list [] s p = give_there [] tt
    of_list (x ∷ xs) s p =
        slow (act_then counted (λ v. refl) (λ c e. loose
        (evaluations_there [] (x ∷ xs) (apart l h.blocks (g h.blocks h.listed) c e) s p)))

-- a variable of the block, which has the shape that it is declared with
automatic_begun : (variable : ℕ) (d : Y.DeclaredVariable) (class : Y.StorageClass) (l : Level) → Grounds l
    → slice_get (D.variables_of_block l.program l.frame.number) variable ≡ Some d
    → Declares l.program l.table l.frame.number d
    → There (demand_at l) 0 1 l.left Anything (K.automatic_made (around_at l) variable d class)
unfolding K.automatic_made
automatic_begun variable d Y.AutomaticClass l g e h =
    bind_there (extents_begun d l g h) (λ values k. variable_made_there variable _
    (λ n own x f.
    let same : d ≡ x = cc (e, f) in
    (subst (λ y. IsShapedAs y (D.shape_of values d)) same (shape_declared values d), λ area. own))
    (fresh_values (D.shape_of values d) (pos 0) d.leaves (shape_declared values d) h.initial))
automatic_begun variable d Y.ParameterClass l g e h = give_there tt tt
automatic_begun variable d Y.StaticClass l g e h = give_there tt tt
automatic_begun variable d Y.BasedClass l g e h = give_there tt tt
automatic_begun variable d Y.ControlledClass l g e h = give_there tt tt

variables_begun : (variable : ℕ) (ds : List Y.DeclaredVariable) (l : Level) → Grounds l
    → drop variable (D.variables_of_block l.program l.frame.number) ≡ ds
    → Every (Declares l.program l.table l.frame.number) ds
    → There (demand_at l) 0 1 l.left Anything (K.variables_made (around_at l) variable ds)
unfolding K.variables_made
variables_begun variable [] l g e h = give_there tt tt
variables_begun variable (d ∷ ds) l g e h =
    let next = next_of (D.variables_of_block l.program l.frame.number) variable d ds e in
    then_there (automatic_begun variable d d.class l g next.0 h.0) (variables_begun (variable + 1) ds l g next.1 h.1)

entry_act_there : {d : Demand} {few : ℕ} (kind : Y.BlockKind) → There d 0 1 few Anything (M.entry_act kind)
unfolding M.entry_act
entry_act_there Y.ProcedureBlock = act_there counted (λ v. refl)
entry_act_there Y.BeginBlock = give_there tt tt
entry_act_there Y.UnitBlock = act_there counted (λ v. refl)
entry_act_there Y.SimpleUnit = act_there counted (λ v. refl)

-- the end of a function is none
abbrev EndsSo : (is_function : Bool) → Unit {0} → Type 0
EndsSo false r = ⊤
EndsSo true r = ⊥

none_expected : (is_function : Bool) (r : Unit {0}) → EndsSo is_function r → Expected is_function None
none_expected false r h = tt
none_expected true r h = absurd h

heights_many : (as' : List Activation) (fs : List Frame) → skeleton as' ≡ outlines fs → length as' ≡ length fs
heights_many [] [] e = refl
heights_many [] (f ∷ fs) e = absurd (cc e)
heights_many (a ∷ as') [] e = absurd (cc e)
heights_many (a ∷ as') (f ∷ fs) e = ap suc (heights_many as' fs (ap rest_outlines e))

-- ---- the frame of a block: before its list; and from then on, with the labels that its on-units may name

abbrev fresh_frame : Y.BlockHead → Entry → Frame
fresh_frame head entry =
    record { number = head.number; level = head.level; parent = entry.parent; lasting = []; labels = [] }

abbrev run_frame : Y.BlockHead → Y.Stmts → Entry → Frame
run_frame head body entry =
    record {
      number = head.number;
      level = head.level;
      parent = entry.parent;
      lasting = M.labels_in body;
      labels = [];
    }

-- a block that is run: the activations further down, and what stands around it
record Run : Type 0 where
  program : Y.Program
  table : Table
  whole : Whole program table
  returning : Returning
  outer : Bearing
  opens : Every IsOpen outer.frames
  line : ℕ
  enter : G.Enter
  turns : ℕ
  left : ℕ
  later : (c : ℕ) → c < left → (outer : Bearing) (e : Entry) → SoundEntry program table outer e
      → There (record { program = program; table = table; bearing = outer }) 0 1 c (Expected e.is_function)
      (enter e)
  few : left < turns

abbrev level_in : Run → (frame : Frame) → IsOpen frame → Level
level_in r frame o =
    record {
      program = r.program;
      table = r.table;
      whole = r.whole;
      returning = r.returning;
      frame = frame;
      further = r.outer.frames;
      opens = (o, r.opens);
      line = r.line;
      enter = r.enter;
      turns = r.turns;
      left = r.left;
      later = r.later;
      few = r.few;
    }

-- before the list
abbrev fresh_level : Run → Y.BlockHead → Entry → Level
fresh_level r head entry = level_in r (fresh_frame head entry) (λ label h. h)

-- in the list
abbrev list_level : Run → Y.BlockHead → Y.Stmts → Entry → Level
list_level r head body entry =
    level_in r (listed_frame (M.labels_in body) (run_frame head body entry))
    (λ label h. among_first label (M.labels_in body) [] h)

-- outside of the block
abbrev outside : Run → Demand
outside r = record { program = r.program; table = r.table; bearing = r.outer }

-- ---- what stands around a block's list

list_foot : (r : Run) (entry : Entry) (head : Y.BlockHead) (body : Y.Stmts) (blocks : List W.Around)
    → Chain r.table (block_around head body ∷ blocks) → Stands r.outer.frames entry.parent blocks
    → FootAt (list_level r head body entry)
list_foot r entry head body blocks chain stands =
    record {
      own = block_around head body;
      outer = blocks;
      own_is = (refl, refl);
      has =
          λ label h.
          among_first label (M.labels_in body) []
          (subst (λ ls. is_among label ls ≡ true) (labels_same body) h);
      lasts = λ label h. subst (λ ls. is_among label ls ≡ true) (labels_same body) h;
      below = stands;
      chain = chain;
    }

-- what a block keeps before its list it keeps from then on
units_wider : (p : Y.Program) (table : Table) (f e : Frame) (fs : List Frame) (as' : List Activation)
    → f.number ≡ e.number → f.level ≡ e.level → f.parent ≡ e.parent → AreAmong f.lasting e.lasting
    → HasUnits p table (f ∷ fs) as' → HasUnits p table (e ∷ fs) as'
units_wider p table f e fs [] n l u o h = tt
units_wider p table f e fs (a ∷ as') n l u o h = (of_units a.units h.0, h.1)
  where
    of_unit : (u : OnUnit) → SoundOnUnit p table (closed f ∷ fs) (suc (length fs)) u
        → SoundOnUnit p table (closed e ∷ fs) (suc (length fs)) u
    of_unit SystemUnit h = tt
    of_unit (BlockUnit b) h =
        record {
          block = h.block;
          own = h.own;
          chain = h.chain;
          listed = h.listed;
          stands =
              stands_wider (closed f) (closed e) fs (suc (length fs)) h.block.outer n l u o h.stands;
        }

    of_units : (us : List (Condition × OnUnit))
        → Every (λ u. SoundOnUnit p table (closed f ∷ fs) (suc (length fs)) u.1) us
        → Every (λ u. SoundOnUnit p table (closed e ∷ fs) (suc (length fs)) u.1) us
    of_units [] h = tt
    of_units (u ∷ us) h = (of_unit u.1 h.0, of_units us h.1)

-- ---- a block that is run

abbrev nothing_around : {table : Table} {fs : List Frame} → Ground table fs []
nothing_around = record { around = []; holds = tt; chain = tt; inside = λ number level h. absurd h }

-- the end of a function raises ERROR in its list
end_there : (l : Level) → There (demand_at l) 0 1 l.left (EndsSo true) (G.error (around_at l) no_value_code)
unfolding G.error
end_there l =
    slow (act_then (raising C.Error _) (λ v. refl) (λ c e. loose
    (bind_there looked_there (λ s k. error_unit_there _ (force s.activations C.Error) (apart l [] nothing_around c e)
    (force_sound l.program l.table (l.frame ∷ l.further) s.activations C.Error l.opens k.0.0 k.1)))))

block_list_there : (r : Run) (head : Y.BlockHead) (body : Y.Stmts) (entry : Entry) (is_function : Bool)
    (t : FootAt (list_level r head body entry)) → T.SoundStmts (place_at (list_level r head body entry) t) body
    → There (entering (Some r.returning) (run_frame head body entry) (outside r)) 0 1 r.left (EndsSo is_function)
    (M.block_list (around_at (fresh_level r head entry)) body is_function)
unfolding M.block_list M.list M.list_with
block_list_there r head body entry false t h =
    bind_there looked_there (λ s k. list_there r.turns r.left _ (M.labels_in body) None r.few
    (newest_there s.activations (run_frame head body entry) r.outer.frames k.1)
    (λ x c q. statements_there body x (lower (list_level r head body entry) c q) t h))
block_list_there r head body entry true t h =
    bind_there looked_there (λ s k. list_there r.turns r.left _ (M.labels_in body) None r.few
    (newest_there s.activations (run_frame head body entry) r.outer.frames k.1)
    (λ x c q. let l : Level = lower (list_level r head body entry) c q in
    then_there (statements_there body x l t h) (end_there l)))

-- around the declarations of a block
fresh_grounds : (r : Run) (head : Y.BlockHead) (body : Y.Stmts) (entry : Entry)
    (t : FootAt (list_level r head body entry)) → IsListed r.table head (t.own ∷ t.outer)
    → Grounds (fresh_level r head entry)
fresh_grounds r head body entry t listed blocks e =
    let all : t.own ∷ t.outer ≡ blocks = cc (listed, e) in
    record {
      around = t.own ∷ t.outer;
      holds = inl (refl, (t.own_is, holds_of r.outer.frames entry.parent t.outer t.below));
      chain = t.chain;
      inside = λ number level h. subst (IsAround number level) (sym all) h;
    }

block_variables_begun : (r : Run) (head : Y.BlockHead) (body : Y.Stmts) (entry : Entry) (kind : Y.BlockKind)
    (t : FootAt (list_level r head body entry)) → IsListedUnit r.table head (t.own ∷ t.outer) kind
    → There (demand_at (fresh_level r head entry)) 0 1 r.left Anything
    (M.block_variables_made (around_at (fresh_level r head entry)) head kind)
unfolding M.block_variables_made
block_variables_begun r head body entry Y.ProcedureBlock t i =
    variables_begun 0 _ (fresh_level r head entry) (fresh_grounds r head body entry t i) refl
    (r.whole.declares head.number)
block_variables_begun r head body entry Y.BeginBlock t i =
    variables_begun 0 _ (fresh_level r head entry) (fresh_grounds r head body entry t i) refl
    (r.whole.declares head.number)
block_variables_begun r head body entry Y.UnitBlock t i =
    variables_begun 0 _ (fresh_level r head entry) (fresh_grounds r head body entry t i) refl
    (r.whole.declares head.number)
block_variables_begun r head body entry Y.SimpleUnit t i = give_there tt tt

-- what is known of the arguments of a block, and of its declarations
record Entered (r : Run) (head : Y.BlockHead) (body : Y.Stmts) (entry : Entry)
    (t : FootAt (list_level r head body entry)) : Type 0 where
  passed : ArePassedAs r.program head.number entry.parameters entry.arguments
  listed : IsListedUnit r.table head (t.own ∷ t.outer) head.kind

block_body_there : (r : Run) (head : Y.BlockHead) (body : Y.Stmts) (entry : Entry)
    (t : FootAt (list_level r head body entry)) → T.SoundStmts (place_at (list_level r head body entry) t) body
    → Entered r head body entry t
    → Leads (entering (Some r.returning) (fresh_frame head entry) (outside r))
    (entering (Some r.returning) (run_frame head body entry) (outside r)) r.left (EndsSo entry.is_function)
    (M.block_body (around_at (fresh_level r head entry)) head body entry)
unfolding M.block_body
block_body_there r head body entry t h e =
    let f : Frame = fresh_frame head entry in
    let g : Frame = run_frame head body entry in
    let widens : (s : State) → Kept (entering (Some r.returning) f (outside r)) s
    → Kept (entering (Some r.returning) g (outside r)) s =
    λ s k. (
      (
        units_wider r.program r.table f g r.outer.frames s.activations refl refl refl (λ label x. absurd (cc x)) k.0.0,
        (same_bindings r.program f g r.outer.frames s.activations refl k.0.1.0, k.0.1.1),
      ),
      k.1,
    )
    in
    let u : Level = fresh_level r head entry in
    leads_then (outside r) (Some r.returning) f g (EndsSo entry.is_function) widens refl
    (parameters_bound_there entry.parameters entry.arguments e.passed)
    (leads_then (outside r) (Some r.returning) f g (EndsSo entry.is_function) widens refl
    (block_variables_begun r head body entry head.kind t e.listed)
    (leads_then (outside r) (Some r.returning) f g (EndsSo entry.is_function) widens refl (entry_act_there head.kind)
    (leads_there (outside r) (Some r.returning) f g (EndsSo entry.is_function) widens
    (block_list_there r head body entry entry.is_function t h))))

-- the new activation is one higher than those further down, and has no on-units
entered_kept : (r : Run) (head : Y.BlockHead) (entry : Entry) (s : State) → Kept (outside r) s
    → Kept (entering (Some r.returning) (fresh_frame head entry) (outside r)) (M.with_activation head entry s)
entered_kept r head entry s h =
    let many = heights_many s.activations r.outer.frames h.1 in
    let high : length s.activations + 1 ≡ suc (length r.outer.frames) = omega (arith, many) in (
      ((tt, h.0.0), ((tt, h.0.1.0), h.0.1.1)),
      ap (λ n. record { height = n; level = head.level; parent = entry.parent } ∷ skeleton s.activations) high
          ∙ ap (λ os. record {
            height = suc (length r.outer.frames);
            level = head.level;
            parent = entry.parent;
          } ∷ os) h.1,
    )

abbrev run_on_line : Run → ℕ → Run
run_on_line r line =
    record {
      program = r.program;
      table = r.table;
      whole = r.whole;
      returning = r.returning;
      outer = r.outer;
      opens = r.opens;
      line = line;
      enter = r.enter;
      turns = r.turns;
      left = r.left;
      later = r.later;
      few = r.few;
    }

abbrev around_in : Run → G.Around
around_in r = record { program = r.program; enter = r.enter; turns = r.turns; line = r.line }

block_run_there : (r : Run) (head : Y.BlockHead) (body : Y.Stmts) (entry : Entry)
    (t : FootAt (list_level r head body entry))
    → T.SoundStmts (place_at (list_level (run_on_line r head.line) head body entry) t) body
    → Entered (run_on_line r head.line) head body entry t
    → Passes (M.is_own_return head.kind) (Expected entry.is_function) (Some r.returning) r.outer.answers
    → There (outside r) 0 1 r.left (Expected entry.is_function) (M.block_run (around_in r) (Y.BlockOf head body) entry)
unfolding M.block_run
block_run_there r head body entry t h e passes =
    bind_there looked_there (λ s k. choose_there _
    (block_there (M.is_own_return head.kind) (Expected entry.is_function) (Some r.returning)
    (fresh_frame head entry) (run_frame head body entry) (EndsSo entry.is_function) (M.with_activation head entry)
    (entered_kept r head entry) refl
    (block_body_there (run_on_line r head.line) head body entry t h e) (none_expected entry.is_function) passes)
    (finish_there (E.Limit L.Depth) tt))

-- ---- the whole

-- more levels than acts are enough
entered_there : (p : Y.Program) (table : Table) → Whole p table → (n left : ℕ) → left < n → (outer : Bearing)
    → (entry : Entry) → SoundEntry p table outer entry
    → There (record { program = p; table = table; bearing = outer }) 0 1 left (Expected entry.is_function)
    (M.entered p n entry)
unfolding M.entered list_foot
entered_there p table whole zero left few outer entry s = absurd (omega (arith, few))
entered_there p table whole (suc n) left few outer entry s =
    let r : Run = record {
      program = p;
      table = table;
      whole = whole;
      returning = s.block.returning;
      outer = outer;
      opens = s.opens;
      line = 0;
      enter = M.entered p n;
      turns = suc n;
      left = left;
      later = λ c r o e t. entered_there p table whole n c (omega (arith, r, few)) o e t;
      few = few;
    } in
    subst (λ b. There (outside r) 0 1 left (Expected entry.is_function) (M.block_run (around_in r) b entry))
    (sym s.block.is)
    (block_run_there r s.block.head s.block.body entry
    (list_foot r entry s.block.head s.block.body s.block.outer s.chain s.stands)
    s.block.statements
    (record { passed = s.passed; listed = s.listed }) s.passes)

-- the main procedure stands in no block
main_outer : (table : Table) (level : ℕ) (blocks : List W.Around) → IsHeld table level blocks → level ≡ 0 → blocks ≡ []
main_outer table level [] h e = refl
main_outer table level (a ∷ more) h e = absurd (omega (arith, h.0, e))

main_entry : (p : Y.Program) (table : Table) (q : Y.Procedure) (f : FineProcedure p table q)
    → (W.head_of q.block).level ≡ 0 → SoundEntry p table (record { answers = None; frames = [] }) (M.begun q.block 0)
main_entry p table q f e =
    let own : W.Around = block_around f.block.head f.block.body in
    let deep : f.block.head.level ≡ 0 = sym (ap (λ b. (W.head_of b).level) f.block.is) ∙ e in
    let none : f.block.outer ≡ [] = main_outer table f.block.head.level f.block.outer f.held deep in
    record {
      block = f.block;
      chain =
          subst (λ os. Chain table (own ∷ os)) (sym none) (
            (
              enters_own table own own []
                  (subst (λ os. slice_get table own.number ≡ Some (own ∷ os)) none f.listed) refl refl (λ label h. h),
              covers_own table own own []
                  (subst (λ os. slice_get table own.number ≡ Some (own ∷ os)) none f.listed) refl refl,
            ),
            (tt, tt),
          );
      stands = subst (Stands [] 0) (sym none) tt;
      opens = tt;
      passes =
          subst (λ own. Passes own (Expected false) (Some f.block.returning) None) (sym f.own) (λ v h. tt);
      passed = tt;
      listed = listed_unit table f.block.head (own ∷ f.block.outer) f.block.head.kind f.listed;
    }

-- the main procedure is there
record IsMain (F : Y.Procedure → Type 0) (ps : List Y.Procedure) : Type 0 where
  main : Y.Procedure
  is : M.main_of ps ≡ Some main
  fine : F main
  outermost : (W.head_of main.block).level ≡ 0

main_there : (F : Y.Procedure → Type 0) (ps : List Y.Procedure) → HasMain ps → Every F ps → IsMain F ps
main_there F [] h f = absurd h
main_there F (q ∷ qs) h f = record { main = q; is = refl; fine = f.0; outermost = h.0 }

-- no activation yet
abbrev pub at_start : Y.Program → Table → Demand
at_start p table =
    record { program = p; table = table; bearing = record { answers = None; frames = [] } }

-- a run has no result of its own, and no RETURN goes out of it
pub run_there : (p : Y.Program) (table : Table) → Whole p table → HasMain p.procedures → (n left : ℕ) → left < n
    → There (at_start p table) 0 1 left (λ r. ⊥) (M.run p n)
unfolding M.run
run_there p table whole h n left few =
    let m = main_there (FineProcedure p table) p.procedures h whole.procedures in
    found_there (M.main_of p.procedures) m.main _ _ m.is
    (then_there (stored_there (K.statics_from 0 p.variables)
    (λ s k. statics_kept (at_start p table) s
    (λ block. every_map (Declares p table block) _ (λ d e. e.initial) _ (whole.declares block)) k))
    (then_there (entered_there p table whole n left few (at_start p table).bearing (M.begun m.main.block 0)
    (main_entry p table m.main m.fine m.outermost))
    (finish_there E.Finished tt)))
