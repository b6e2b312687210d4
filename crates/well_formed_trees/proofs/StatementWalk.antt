-- What is so of each statement of an accepted source by itself is so everywhere in its typed tree.
use Rattle.std.proofs.Common.{◌≡◌, ℕ, suc, ◌+◌, Bool, true, false, Option, List, [], ◌∷◌, ◌++◌, length, Some, None}
use Rattle.std.proofs.Common.{refl, sym, ap, ◌∙◌, subst, arith, inl, inr}
use Rattle.std.specs.Prelude.{slice_get, ◌⊎◌}
use Rattle.pli_language.specs.Tree as T
use Rattle.pli_language.specs.Declarations.{Block, declared_in, declared_in_item, declared_in_stmt, blocks_in}
use Rattle.pli_language.specs.Declarations.{blocks_in_item, blocks_in_stmt, labels_declared, blocks_of, outermost}
use Rattle.pli_language.specs.Means.{around_of}
use Rattle.pli_typing.specs.TypedTree as Y
use Rattle.pli_typing.specs.Variables.{level_of_block}
use Rattle.pli_typing.specs.Calls.{result_type}
use Rattle.pli_typing.specs.SingleStatements as S
use Rattle.pli_typing.specs.SingleStatements.{Context, Turns, OneTurn, CountedTurns, do_statement, in_list, in_block}
use Rattle.pli_typing.specs.SingleStatements.{in_unit, turns, condition, assign_statement, call_statement}
use Rattle.pli_typing.specs.SingleStatements.{return_statement, goto_statement}
use Rattle.pli_typing.specs.Resolving.{statement, statements, unit_of, letters_of, procedure_of, block_variables}
use Rattle.pli_typing.specs.Resolving.{outermost_context, resolved, typing_faults, typed_tree}
use Rattle.well_formed_trees.specs.Every.{Every}
use Rattle.well_formed_trees.specs.Surroundings.{Label, Around, Table, Where, Returning, NoReturn, Returns, with_inner}
use Rattle.well_formed_trees.specs.Surroundings.{without_inner}
use Rattle.well_formed_trees.specs.Surroundings as W
use Rattle.well_formed_trees.specs.Statements.{labels_in}
use Rattle.well_formed_trees.specs.Written.{IsShaped, IsUnit, EndsLast, AllEndLast, AreProcedures, GroupsBare}
use Rattle.well_formed_trees.specs.Written.{HoldNoProcedure, AllGroupsBare}
use Rattle.well_formed_trees.specs.Spelled.{IsRanged, ItemsHave}
use Rattle.well_formed_trees.specs.Held.{entry, entries_in, entries_in_item, entries_in_stmt, table_of}
use Rattle.well_formed_trees.specs.Everywhere.{StmtHolds, StmtsHold, ProcedureHolds, HoldsEverywhere}
use Rattle.well_formed_trees.proofs.Lists.{first_empty, second_empty, every_both}
use Rattle.well_formed_trees.proofs.Places.{HasAt, has_first, has_second, has_end}
use Rattle.well_formed_trees.proofs.SimpleStatements.{IsSimple, assign_simple, call_simple, return_simple, goto_simple}
use Rattle.well_formed_trees.proofs.BlocksHeld.{typed_labels, stmt_length, item_length}
use Rattle.well_formed_trees.proofs.ProgramNumbers.{no_procedure}
use Rattle.well_formed_trees.proofs.HeldStatements.{Stands, in_group, in_on, stands_inside, own_entry, own_is, HasStmt}
use Rattle.well_formed_trees.proofs.HeldStatements.{HasItems, StmtFine, ItemsFine, alone_fine}
use Rattle.well_formed_trees.proofs.Facts.{Facts, IsSeen, IsReached, Sees}
use Rattle.well_formed_trees.proofs.Reached.{without, with_labels, reached_back, reached_further, reached_inside}
use Rattle.well_formed_trees.proofs.Reached.{outermost_reached, group_reached, seen_inside, seen_same}

abbrev at_place : Y.Program → Table → Returning → List Around → Where
at_place program table returning around =
    record { program = program; table = table; around = around; returning = returning }

-- what is so of each statement by itself
abbrev pub IsOwn : (Where → Y.Stmt → Type 0) → Type 0
IsOwn P =
    (c : Context) (w : Where) → Sees c w → (b u : ℕ) (may : Bool) (next : ℕ) (s : T.Stmt) → StmtFine c b u may next s
    → P w (statement c next s).value

-- ---- where a place stands, and what it sees

record Reaches (c : Context) (own : Block) (a : Around) (more : List Around) : Type 0 where
  has_own : slice_get c.scope.blocks c.scope.block ≡ Some own
  own_around : own.around ≡ c.around
  seen : Every (IsSeen c.scope.blocks (a ∷ more)) c.around
  inner : Every (IsReached c.scope.blocks (a ∷ more)) c.inner
  outermost : Every (IsReached c.scope.blocks (without a ∷ more)) c.outermost
  outer : Every (IsReached c.scope.blocks more) c.outer

record Standing (program : Y.Program) (table : Table) (c : Context) (own : Block) (a : Around)
    (more : List Around) : Type 0 where
  facts : Facts c.scope.blocks program table
  stands : Stands table c false NoReturn a more
  reaches : Reaches c own a more

all_reached : {c : Context} {own : Block} {a : Around} {more : List Around} → Reaches c own a more
    → Every (IsReached c.scope.blocks (a ∷ more)) ((c.inner ++ c.outermost) ++ c.outer)
all_reached {c} {own} {a} {more} r =
    let P = IsReached c.scope.blocks (a ∷ more) in
    every_both P (c.inner ++ c.outermost) c.outer
    (every_both P c.inner c.outermost r.inner (reached_back c.scope.blocks a more c.outermost r.outermost))
    (reached_inside c.scope.blocks a more c.outer r.outer)

sees : {program : Y.Program} {table : Table} {c : Context} {own : Block} {a : Around} {more : List Around}
    (ret : Returning) → Standing program table c own a more → Sees c (at_place program table ret (a ∷ more))
sees {program} {table} {c} {own} {a} {more} ret st =
    let r = st.reaches in
    record {
      scope = record {
        facts = st.facts;
        sees = record {
          own = own;
          has_own = r.has_own;
          seen = subst (Every (IsSeen c.scope.blocks (a ∷ more))) (sym r.own_around) r.seen;
        };
      };
      around = r.seen;
      own_around = ap around_of r.has_own ∙ r.own_around;
      labels = all_reached r;
    }

-- inside a single statement's block, which is one around it
sees_further : {c : Context} {w : Where} (a : Around) → Sees c w → Sees c (record w { around = a ∷ w.around })
sees_further {c} {w} a s =
    let own = s.scope.sees in
    let blocks = c.scope.blocks in
    record {
      scope = record {
        facts = s.scope.facts;
        sees = record {
          own = own.own;
          has_own = own.has_own;
          seen = seen_inside blocks a w.around own.own.around own.seen;
        };
      };
      around = seen_inside blocks a w.around c.around s.around;
      own_around = s.own_around;
      labels = reached_inside blocks a w.around ((c.inner ++ c.outermost) ++ c.outer) s.labels;
    }

-- into a group
group_standing : {program : Y.Program} {table : Table} {c : Context} {own : Block} {a : Around} {more : List Around}
    (k : ℕ) (body : T.Items) → Standing program table c own a more → HasAt own.declarations k (declared_in body)
    → Standing program table (in_list c (S.labels_in body)) own (with_labels (letters_of (S.labels_in body)) a) more
group_standing {program} {table} {c} {own} {a} {more} k body st d =
    let ls = letters_of (S.labels_in body) in
    let r = st.reaches in
    let blocks = c.scope.blocks in
    let level : a.level ≡ level_of_block blocks c.scope.block = st.stands.level ∙ sym st.stands.here in
    record {
      facts = st.facts;
      stands = in_group (S.labels_in body) st.stands;
      reaches = record {
        has_own = r.has_own;
        own_around = r.own_around;
        seen = seen_same blocks a (with_labels ls a) more c.around refl refl r.seen;
        inner =
            every_both (IsReached blocks (with_labels ls a ∷ more)) (S.labels_in body) c.inner
            (group_reached blocks c.scope.block k own a more body r.has_own level d)
            (reached_further blocks ls a more c.inner r.inner);
        outermost = r.outermost;
        outer = r.outer;
      };
    }

-- into an on-unit
unit_standing : {program : Y.Program} {table : Table} {c : Context} {own : Block} {a : Around} {more : List Around}
    → Standing program table c own a more → Standing program table (in_unit c) own (without a) more
unit_standing {program} {table} {c} {own} {a} {more} st =
    let r = st.reaches in
    record {
      facts = st.facts;
      stands = in_on st.stands;
      reaches = record {
        has_own = r.has_own;
        own_around = r.own_around;
        seen = seen_same c.scope.blocks a (without a) more c.around refl refl r.seen;
        inner = tt;
        outermost = r.outermost;
        outer = r.outer;
      };
    }

-- into a block, where all that is around is seen and reached
block_standing : {program : Y.Program} {table : Table} (c : Context) (w : List Around) (next : ℕ)
    (head : Option T.ProcedureHead) (body : T.Items) → Facts c.scope.blocks program table
    → length c.around ≡ suc (length w)
    → slice_get c.scope.blocks next
    ≡ Some (record { around = next ∷ c.around; head = head; declarations = declared_in body })
    → slice_get table next ≡ Some (entry next (S.labels_in body) w) → Every (IsSeen c.scope.blocks w) c.around
    → Every (IsReached c.scope.blocks w) ((c.inner ++ c.outermost) ++ c.outer)
    → Standing program table (in_block c next (S.labels_in body))
    (record { around = next ∷ c.around; head = head; declarations = declared_in body })
    (record { number = next; level = length w; outermost = letters_of (S.labels_in body); inner = [] }) w
block_standing {program} {table} c w next head body facts deep has has_entry seen reached =
    let blocks = c.scope.blocks in
    let own : Block = record { around = next ∷ c.around; head = head; declarations = declared_in body } in
    let inside = stands_inside c false NoReturn next (S.labels_in body) own refl deep has has_entry
    (λ e. absurd (cc e)) in
    let a : Around = record {
      number = next;
      level = length w;
      outermost = letters_of (S.labels_in body);
      inner = [];
    } in
    record {
      facts = facts;
      stands = inside;
      reaches = record {
        has_own = has;
        own_around = refl;
        seen = (inr (inl (refl, sym inside.here)), seen_inside blocks a w c.around seen);
        inner = tt;
        outermost =
            outermost_reached blocks next 0 own a w body has (sym inside.here) refl
            (has_end (declared_in body) [] (declared_in body) refl);
        outer = reached;
      };
    }

-- a procedure stands in no group, so no label of one is around it
outer_reached : (blocks : List Block) (a : Around) (more : List Around) (inner outermost outer : List T.Name)
    → inner ≡ [] → Every (IsReached blocks (without a ∷ more)) outermost → Every (IsReached blocks more) outer
    → Every (IsReached blocks (without a ∷ more)) ((inner ++ outermost) ++ outer)
outer_reached blocks a more inner outermost outer e f h =
    subst (λ ns. Every (IsReached blocks (without a ∷ more)) ((ns ++ outermost) ++ outer)) (sym e)
    (every_both (IsReached blocks (without a ∷ more)) outermost outer f
    (reached_inside blocks (without a) more outer h))

-- ---- forms

simple_holds : (P : Where → Y.Stmt → Type 0) (w : Where) (s : Y.Stmt) → IsSimple s → P w s → StmtHolds P w s
simple_holds P w (Y.If condition unit line) u h = absurd u
simple_holds P w (Y.IfElse condition unit otherwise line) u h = absurd u
simple_holds P w (Y.Do body line) u h = absurd u
simple_holds P w (Y.DoWhile condition body line) u h = absurd u
simple_holds P w (Y.DoOnce target start condition body line) u h = absurd u
simple_holds P w (Y.DoCount counter start limit step condition body line) u h = absurd u
simple_holds P w (Y.Begin block) u h = absurd u
simple_holds P w (Y.OnUnit condition block line) u h = absurd u
simple_holds P w _ u h = h

do_holds : (P : Where → Y.Stmt → Type 0) (w : Where) (t : Turns) (body : Y.Stmts) (line : ℕ)
    → P w (do_statement t body line) → StmtsHold P (W.in_list w (labels_in body)) body
    → StmtHolds P w (do_statement t body line)
do_holds P w (OneTurn r s b) body line p h = (p, h)
do_holds P w (CountedTurns counter s limit step b) body line p h = (p, h)

abbrev unit_place : Context → Where → Where
unit_place c w =
    W.in_block (W.in_unit w) c.scope.block (level_of_block c.scope.blocks c.scope.block + 1) []

unit_holds : (P : Where → Y.Stmt → Type 0) (c : Context) (w : Where) (on : _) (line : ℕ) (s : Y.Stmt) → IsSimple s
    → P w (Y.OnUnit on (unit_of c line s) line) → P (unit_place c w) s
    → StmtHolds P w (Y.OnUnit on (unit_of c line s) line)
unit_holds P c w on line (Y.Begin block) u p h = absurd u
unit_holds P c w on line s u p h = (p, (simple_holds P (unit_place c w) s u h, tt))

-- ---- the walk

abbrev StmtWalked : (Where → Y.Stmt → Type 0) → Y.Program → Table → Returning → Context → List Around → ℕ → T.Stmt
    → Type 0
StmtWalked P program table ret c w next s =
    StmtHolds P (at_place program table ret w) (statement c next s).value
    × Every (ProcedureHolds P table program) (statement c next s).procedures

abbrev ListWalked : (Where → Y.Stmt → Type 0) → Y.Program → Table → Returning → Context → List Around → ℕ → T.Items
    → Type 0
ListWalked P program table ret c w next is =
    StmtsHold P (at_place program table ret w) (statements c next is).value
    × Every (ProcedureHolds P table program) (statements c next is).procedures

with_none : {X : Type 0} (P : X → Type 0) (ps : List X) → Every P ps → Every P (ps ++ [])
with_none P ps h = every_both P ps [] h tt

both_none : {X : Type 0} (P : X → Type 0) (ps qs : List X) → Every P ps → Every P qs → Every P (ps ++ (qs ++ []))
both_none P ps qs h l = every_both P ps (qs ++ []) h (with_none P qs l)

-- the list of a group, with the labels that the typed list has
group_walked : (P : Where → Y.Stmt → Type 0) (program : Y.Program) (table : Table) (ret : Returning) (c : Context)
    (a : Around) (more : List Around) (next : ℕ) (body : T.Items) → AllEndLast body
    → ListWalked P program table ret (in_list c (S.labels_in body))
    (with_labels (letters_of (S.labels_in body)) a ∷ more) next body
    → StmtsHold P (W.in_list (at_place program table ret (a ∷ more))
    (labels_in (statements (in_list c (S.labels_in body)) next body).value))
    (statements (in_list c (S.labels_in body)) next body).value
group_walked P program table ret c a more next body l m =
    let d = in_list c (S.labels_in body) in
    subst (λ ls. StmtsHold P (W.in_list (at_place program table ret (a ∷ more)) ls) (statements d next body).value)
    (sym (typed_labels d next body l)) m.0

block_walked : (P : Where → Y.Stmt → Type 0) (program : Y.Program) (table : Table) (ret : Returning) (c : Context)
    (w : List Around) (next : ℕ) (body : T.Items) → AllEndLast body
    → level_of_block c.scope.blocks next ≡ length w
    → StmtsHold P (at_place program table ret (entry next (S.labels_in body) w))
    (statements (in_block c next (S.labels_in body)) (next + 1) body).value
    → StmtsHold P (at_place program table ret (own_entry next (level_of_block c.scope.blocks next)
    (labels_in (statements (in_block c next (S.labels_in body)) (next + 1) body).value) w))
    (statements (in_block c next (S.labels_in body)) (next + 1) body).value
block_walked P program table ret c w next body l here m =
    let d = in_block c next (S.labels_in body) in
    let r = statements d (next + 1) body in
    let own = own_is next (level_of_block c.scope.blocks next) (labels_in r.value) (S.labels_in body) w here
    (typed_labels d (next + 1) body l) in
    subst (λ v. StmtsHold P (at_place program table ret v) r.value) (sym own) m

procedure_walked : (P : Where → Y.Stmt → Type 0) (program : Y.Program) (table : Table) (c : Context) (w : List Around)
    (next : ℕ) (head : T.ProcedureHead) (body : T.Items) → AllEndLast body
    → level_of_block c.scope.blocks next ≡ length w
    → slice_get table next ≡ Some (entry next (S.labels_in body) w)
    → StmtsHold P (at_place program table (Returns (result_type c.scope.blocks c.scope.block head))
    (entry next (S.labels_in body) w)) (statements (in_block c next (S.labels_in body)) (next + 1) body).value
    → ProcedureHolds P table program
    (procedure_of c next head (statements (in_block c next (S.labels_in body)) (next + 1) body).value)
procedure_walked P program table c w next head body l here listed m =
    let d = in_block c next (S.labels_in body) in
    let r = statements d (next + 1) body in
    let own = own_is next (level_of_block c.scope.blocks next) (labels_in r.value) (S.labels_in body) w here
    (typed_labels d (next + 1) body l) in
    record {
      head = record {
        kind = Y.ProcedureBlock;
        number = next;
        level = level_of_block c.scope.blocks next;
        line = head.place.line;
      };
      body = r.value;
      is = refl;
      outer = w;
      listed = listed ∙ ap Some (sym own);
      statements =
          block_walked P program table (Returns (result_type c.scope.blocks c.scope.block head)) c w next body l here m;
    }

unit_leaf : (P : Where → Y.Stmt → Type 0) → IsOwn P → (program : Y.Program) (table : Table) (ret : Returning)
    (c : Context) (own : Block) (a : Around) (more : List Around) → Standing program table c own a more
    → (b u next : ℕ) (on : _) (line : ℕ) (s : T.Stmt) → IsSimple (statement (in_unit c) next s).value
    → StmtFine (in_unit c) b u false next s
    → P (at_place program table ret (a ∷ more)) (Y.OnUnit on (unit_of c line (statement (in_unit c) next s).value)
    line)
    → StmtHolds P (at_place program table ret (a ∷ more))
    (Y.OnUnit on (unit_of c line (statement (in_unit c) next s).value) line)
unit_leaf P leaf program table ret c own a more st b u next on line s i f p =
    let w = at_place program table ret (a ∷ more) in
    let e : Around = record {
      number = c.scope.block;
      level = level_of_block c.scope.blocks c.scope.block + 1;
      outermost = [];
      inner = [];
    } in
    unit_holds P c w on line (statement (in_unit c) next s).value i p
    (leaf (in_unit c) (unit_place c w) (sees_further e (sees NoReturn (unit_standing st))) b u false next s f)

unit_walk : (P : Where → Y.Stmt → Type 0) → IsOwn P → (program : Y.Program) (table : Table) (ret : Returning)
    (c : Context) (own : Block) (a : Around) (more : List Around) → Standing program table c own a more
    → (b u next : ℕ) (on : _) (line : ℕ) (s : T.Stmt) → IsUnit s
    → StmtWalked P program table NoReturn (in_unit c) (without a ∷ more) next s → StmtFine (in_unit c) b u false next s
    → P (at_place program table ret (a ∷ more)) (Y.OnUnit on (unit_of c line (statement (in_unit c) next s).value)
    line)
    → StmtHolds P (at_place program table ret (a ∷ more))
    (Y.OnUnit on (unit_of c line (statement (in_unit c) next s).value) line)
    × Every (ProcedureHolds P table program) (statement (in_unit c) next s).procedures
unfolding statement
unit_walk P leaf program table ret c own a more st b u next on line (T.Begin body place) i m f p =
    ((p, m.0.1), m.1)
unit_walk P leaf program table ret c own a more st b u next on line (T.If e unit place) i m f p = absurd i
unit_walk P leaf program table ret c own a more st b u next on line (T.IfElse e x y place) i m f p = absurd i
unit_walk P leaf program table ret c own a more st b u next on line (T.Do body place) i m f p = absurd i
unit_walk P leaf program table ret c own a more st b u next on line (T.DoWhile e body place) i m f p =
    absurd i
unit_walk P leaf program table ret c own a more st b u next on line (T.DoCount x body place) i m f p =
    absurd i
unit_walk P leaf program table ret c own a more st b u next on line (T.OnSystem x place) i m f p = absurd i
unit_walk P leaf program table ret c own a more st b u next on line (T.OnUnit x y place) i m f p = absurd i
unit_walk P leaf program table ret c own a more st b u next on line (T.Null place) i m f p =
    (unit_leaf P leaf program table ret c own a more st b u next on line (T.Null place) tt f p, tt)
unit_walk P leaf program table ret c own a more st b u next on line (T.Assign target source place) i m f p = (
  unit_leaf P leaf program table ret c own a more st b u next on line (T.Assign target source place)
      (assign_simple c.scope target source place) f p,
  tt,
)
unit_walk P leaf program table ret c own a more st b u next on line (T.Call name x place) i m f p = (
  unit_leaf P leaf program table ret c own a more st b u next on line (T.Call name x place)
      (call_simple c.scope name x place) f p,
  tt,
)
unit_walk P leaf program table ret c own a more st b u next on line (T.Return value place) i m f p = (
  unit_leaf P leaf program table ret c own a more st b u next on line (T.Return value place)
      (return_simple (in_unit c) value place) f p,
  tt,
)
unit_walk P leaf program table ret c own a more st b u next on line (T.Goto label place) i m f p = (
  unit_leaf P leaf program table ret c own a more st b u next on line (T.Goto label place)
      (goto_simple (in_unit c) label place) f p,
  tt,
)
unit_walk P leaf program table ret c own a more st b u next on line (T.Stop place) i m f p =
    (unit_leaf P leaf program table ret c own a more st b u next on line (T.Stop place) tt f p, tt)
unit_walk P leaf program table ret c own a more st b u next on line (T.Signal x place) i m f p =
    (unit_leaf P leaf program table ret c own a more st b u next on line (T.Signal x place) tt f p, tt)
unit_walk P leaf program table ret c own a more st b u next on line (T.Revert x place) i m f p =
    (unit_leaf P leaf program table ret c own a more st b u next on line (T.Revert x place) tt f p, tt)
unit_walk P leaf program table ret c own a more st b u next on line (T.Allocate x place) i m f p =
    (unit_leaf P leaf program table ret c own a more st b u next on line (T.Allocate x place) tt f p, tt)
unit_walk P leaf program table ret c own a more st b u next on line (T.Free x place) i m f p =
    (unit_leaf P leaf program table ret c own a more st b u next on line (T.Free x place) tt f p, tt)
unit_walk P leaf program table ret c own a more st b u next on line (T.Get x y place) i m f p =
    (unit_leaf P leaf program table ret c own a more st b u next on line (T.Get x y place) tt f p, tt)
unit_walk P leaf program table ret c own a more st b u next on line (T.Put x y place) i m f p =
    (unit_leaf P leaf program table ret c own a more st b u next on line (T.Put x y place) tt f p, tt)

mutual
  unfolding statement statements blocks_in blocks_in_item blocks_in_stmt entries_in entries_in_item entries_in_stmt
      declared_in declared_in_item declared_in_stmt

  stmt_walk : (P : Where → Y.Stmt → Type 0) → IsOwn P → (program : Y.Program) (table : Table) (ret : Returning)
      (c : Context) (own : Block) (a : Around) (more : List Around) → Standing program table c own a more
      → (b u : ℕ) (may : Bool) (k next : ℕ) (s : T.Stmt) → EndsLast s → GroupsBare s
      → HasStmt table c (a ∷ more) next s → HasAt own.declarations k (declared_in_stmt s)
      → StmtFine c b u may next s → StmtWalked P program table ret c (a ∷ more) next s
  stmt_walk P leaf program table ret c own a more st b u may k next (T.Null place) l g h d f =
      (leaf c (at_place program table ret (a ∷ more)) (sees ret st) b u may next (T.Null place) f, tt)
  stmt_walk P leaf program table ret c own a more st b u may k next (T.Assign target source place) l g h d f =
      let w = at_place program table ret (a ∷ more) in (
        simple_holds P w (assign_statement c.scope target source place).value
            (assign_simple c.scope target source place)
            (leaf c w (sees ret st) b u may next (T.Assign target source place) f),
        tt,
      )
  stmt_walk P leaf program table ret c own a more st b u may k next (T.If e unit place) l g h d f =
      let r = (statement c next unit).faults in
      let fine = alone_fine r (second_empty (condition c.scope e).faults (r ++ []) f.1) in
      let m = stmt_walk P leaf program table ret c own a more st b (suc u) may k next unit l g h d (f.0.1, fine) in (
        (leaf c (at_place program table ret (a ∷ more)) (sees ret st) b u may next (T.If e unit place) f, m.0),
        with_none (ProcedureHolds P table program) (statement c next unit).procedures m.1,
      )
  stmt_walk P leaf program table ret c own a more st b u may k next (T.IfElse e unit otherwise place) l g h d f =
      let bs = blocks_in_stmt c.around next unit in
      let cs = blocks_in_stmt c.around (next + length bs) otherwise in
      let es = entries_in_stmt (a ∷ more) next unit in
      let fs = entries_in_stmt (a ∷ more) (next + length es) otherwise in
      let ds = declared_in_stmt unit in
      let same : next + length es ≡ next + length bs =
      ap (λ k. next + k) (stmt_length (a ∷ more) c.around next next unit) in
      let second : HasAt table (next + length bs) (entries_in_stmt (a ∷ more) (next + length bs) otherwise) =
      subst (λ k. HasAt table k (entries_in_stmt (a ∷ more) k otherwise)) same (has_second table next es fs h.1) in
      let r = (statement c next unit).faults in
      let q = (statement c (next + length bs) otherwise).faults in
      let later = second_empty (condition c.scope e).faults (r ++ (q ++ [])) f.1 in
      let m = stmt_walk P leaf program table ret c own a more st b (suc u) may k next unit l.0 g.0
      (has_first c.scope.blocks next bs cs h.0, has_first table next es fs h.1)
      (has_first own.declarations k ds (declared_in_stmt otherwise) d) (f.0.1.0, first_empty r (q ++ []) later) in
      let n = stmt_walk P leaf program table ret c own a more st b (suc u) may (k + length ds) (next + length bs)
      otherwise l.1 g.1 (has_second c.scope.blocks next bs cs h.0, second)
      (has_second own.declarations k ds (declared_in_stmt otherwise) d)
      (f.0.1.1, alone_fine q (second_empty r (q ++ []) later)) in (
        (
          leaf c (at_place program table ret (a ∷ more)) (sees ret st) b u may next
              (T.IfElse e unit otherwise place) f,
          (m.0, n.0),
        ),
        both_none (ProcedureHolds P table program) (statement c next unit).procedures
            (statement c (next + length bs) otherwise).procedures m.1 n.1,
      )
  stmt_walk P leaf program table ret c own a more st b u may k next (T.Do body place) l g h d f =
      let r = statements (in_list c (S.labels_in body)) next body in
      let m = list_walk P leaf program table ret (in_list c (S.labels_in body)) own
      (with_labels (letters_of (S.labels_in body)) a) more (group_standing k body st d) b (suc u) may k next body l g.1
      h d (inr g.0) (f.0.1, alone_fine r.faults f.1) in (
        (
          leaf c (at_place program table ret (a ∷ more)) (sees ret st) b u may next (T.Do body place) f,
          group_walked P program table ret c a more next body l m,
        ),
        with_none (ProcedureHolds P table program) r.procedures m.1,
      )
  stmt_walk P leaf program table ret c own a more st b u may k next (T.DoWhile e body place) l g h d f =
      let r = statements (in_list c (S.labels_in body)) next body in
      let fine = alone_fine r.faults (second_empty (condition c.scope e).faults (r.faults ++ []) f.1) in
      let m = list_walk P leaf program table ret (in_list c (S.labels_in body)) own
      (with_labels (letters_of (S.labels_in body)) a) more (group_standing k body st d) b (suc u) may k next body l g.1
      h d (inr g.0) (f.0.1, fine) in (
        (
          leaf c (at_place program table ret (a ∷ more)) (sees ret st) b u may next (T.DoWhile e body place) f,
          group_walked P program table ret c a more next body l m,
        ),
        with_none (ProcedureHolds P table program) r.procedures m.1,
      )
  stmt_walk P leaf program table ret c own a more st b u may k next (T.DoCount counting body place) l g h d f =
      let r = statements (in_list c (S.labels_in body)) next body in
      let fine = alone_fine r.faults (second_empty (turns c.scope counting).faults (r.faults ++ []) f.1) in
      let m = list_walk P leaf program table ret (in_list c (S.labels_in body)) own
      (with_labels (letters_of (S.labels_in body)) a) more (group_standing k body st d) b (suc u) may k next body l g.1
      h d (inr g.0) (f.0.1, fine) in (
        do_holds P (at_place program table ret (a ∷ more)) (turns c.scope counting).value r.value place.line
            (leaf c (at_place program table ret (a ∷ more)) (sees ret st) b u may next (T.DoCount counting body place)
            f) (group_walked P program table ret c a more next body l m),
        with_none (ProcedureHolds P table program) r.procedures m.1,
      )
  stmt_walk P leaf program table ret c own a more st b u may k next (T.Begin body place) l g h d f =
      let r = statements (in_block c next (S.labels_in body)) (next + 1) body in
      let inside = block_standing c (a ∷ more) next None body st.facts st.stands.deep h.0.0 h.1.0 st.reaches.seen
      (all_reached st.reaches) in
      let m = list_walk P leaf program table ret (in_block c next (S.labels_in body)) _ _ (a ∷ more) inside (suc b) u
      may 0 (next + 1) body l g (h.0.1, h.1.1) (has_end (declared_in body) [] (declared_in body) refl) (inl refl)
      (f.0.1, alone_fine r.faults f.1) in (
        (
          leaf c (at_place program table ret (a ∷ more)) (sees ret st) b u may next (T.Begin body place) f,
          block_walked P program table ret c (a ∷ more) next body l inside.stands.here m.0,
        ),
        with_none (ProcedureHolds P table program) r.procedures m.1,
      )
  stmt_walk P leaf program table ret c own a more st b u may k next (T.OnSystem on place) l g h d f =
      (leaf c (at_place program table ret (a ∷ more)) (sees ret st) b u may next (T.OnSystem on place) f, tt)
  stmt_walk P leaf program table ret c own a more st b u may k next (T.OnUnit on unit place) l g h d f =
      let r = statement (in_unit c) next unit in
      let p = leaf c (at_place program table ret (a ∷ more)) (sees ret st) b u may next (T.OnUnit on unit place) f in
      let fine = alone_fine r.faults f.1 in
      let n = stmt_walk P leaf program table NoReturn (in_unit c) own (without a) more (unit_standing st) b (suc u)
      false k next unit l.1 g h d (f.0.1, fine) in
      let m = unit_walk P leaf program table ret c own a more st b (suc u) next on place.line unit l.0 n (f.0.1, fine)
      p in
      (m.0, with_none (ProcedureHolds P table program) r.procedures m.1)
  stmt_walk P leaf program table ret c own a more st b u may k next (T.Call name x place) l g h d f =
      let w = at_place program table ret (a ∷ more) in (
        simple_holds P w (call_statement c.scope name x place).value (call_simple c.scope name x place)
            (leaf c w (sees ret st) b u may next (T.Call name x place) f),
        tt,
      )
  stmt_walk P leaf program table ret c own a more st b u may k next (T.Return value place) l g h d f =
      let w = at_place program table ret (a ∷ more) in (
        simple_holds P w (return_statement c value place).value (return_simple c value place)
            (leaf c w (sees ret st) b u may next (T.Return value place) f),
        tt,
      )
  stmt_walk P leaf program table ret c own a more st b u may k next (T.Goto label place) l g h d f =
      let w = at_place program table ret (a ∷ more) in (
        simple_holds P w (goto_statement c label place).value (goto_simple c label place)
            (leaf c w (sees ret st) b u may next (T.Goto label place) f),
        tt,
      )
  stmt_walk P leaf program table ret c own a more st b u may k next (T.Stop place) l g h d f =
      (leaf c (at_place program table ret (a ∷ more)) (sees ret st) b u may next (T.Stop place) f, tt)
  stmt_walk P leaf program table ret c own a more st b u may k next (T.Signal on place) l g h d f =
      (leaf c (at_place program table ret (a ∷ more)) (sees ret st) b u may next (T.Signal on place) f, tt)
  stmt_walk P leaf program table ret c own a more st b u may k next (T.Revert on place) l g h d f =
      (leaf c (at_place program table ret (a ∷ more)) (sees ret st) b u may next (T.Revert on place) f, tt)
  stmt_walk P leaf program table ret c own a more st b u may k next (T.Allocate allocations place) l g h d f =
      (leaf c (at_place program table ret (a ∷ more)) (sees ret st) b u may next (T.Allocate allocations place) f, tt)
  stmt_walk P leaf program table ret c own a more st b u may k next (T.Free freeings place) l g h d f =
      (leaf c (at_place program table ret (a ∷ more)) (sees ret st) b u may next (T.Free freeings place) f, tt)
  stmt_walk P leaf program table ret c own a more st b u may k next (T.Get skip pairs place) l g h d f =
      (leaf c (at_place program table ret (a ∷ more)) (sees ret st) b u may next (T.Get skip pairs place) f, tt)
  stmt_walk P leaf program table ret c own a more st b u may k next (T.Put skip pairs place) l g h d f =
      (leaf c (at_place program table ret (a ∷ more)) (sees ret st) b u may next (T.Put skip pairs place) f, tt)

  list_walk : (P : Where → Y.Stmt → Type 0) → IsOwn P → (program : Y.Program) (table : Table) (ret : Returning)
      (c : Context) (own : Block) (a : Around) (more : List Around) → Standing program table c own a more
      → (b u : ℕ) (may : Bool) (k next : ℕ) (is : T.Items) → AllEndLast is → AllGroupsBare is
      → HasItems table c (a ∷ more) next is → HasAt own.declarations k (declared_in is)
      → (c.inner ≡ []) ⊎ HoldNoProcedure is → ItemsFine c b u may next is
      → ListWalked P program table ret c (a ∷ more) next is
  list_walk P leaf program table ret c own a more st b u may k next T.NoItem l g h d e f = (tt, tt)
  list_walk P leaf program table ret c own a more st b u may k next (T.ItemThen (T.Procedure head body) is) l g h d
      (inr n) f = absurd n
  list_walk P leaf program table ret c own a more st b u may k next (T.ItemThen (T.Procedure head body) is) l g h d
      (inl e) f =
      let w = without a ∷ more in
      let r = statements (in_block c next (S.labels_in body)) (next + 1) body in
      let bs = blocks_in_item c.around next (T.Procedure head body) in
      let cs = blocks_in c.around (next + length bs) is in
      let es = entries_in_item (a ∷ more) next (T.Procedure head body) in
      let fs = entries_in (a ∷ more) (next + length es) is in
      let ds = declared_in_item (T.Procedure head body) in
      let same : next + length es ≡ next + length bs =
      ap (λ k. next + k) (item_length (a ∷ more) c.around next next (T.Procedure head body)) in
      let second : HasAt table (next + length bs) (entries_in (a ∷ more) (next + length bs) is) =
      subst (λ k. HasAt table k (entries_in (a ∷ more) k is)) same (has_second table next es fs h.1) in
      let own_blocks = has_first c.scope.blocks next bs cs h.0 in
      let own_entries = has_first table next es fs h.1 in
      let reached = outer_reached c.scope.blocks a more c.inner c.outermost c.outer e st.reaches.outermost
      st.reaches.outer in
      let inside = block_standing c w next (Some head) body st.facts st.stands.deep own_blocks.0 own_entries.0
      (seen_same c.scope.blocks a (without a) more c.around refl refl st.reaches.seen) reached in
      let others = (statements c (next + length bs) is).faults in
      let m = list_walk P leaf program table (Returns (result_type c.scope.blocks c.scope.block head))
      (in_block c next (S.labels_in body)) _ _ w inside (suc b) u true 0 (next + 1) body l.0 g.0
      (own_blocks.1, own_entries.1) (has_end (declared_in body) [] (declared_in body) refl) (inl refl)
      (f.0.0.1, first_empty r.faults others f.1) in
      let n = list_walk P leaf program table ret c own a more st b u may (k + length ds) (next + length bs) is l.1 g.1
      (has_second c.scope.blocks next bs cs h.0, second) (has_second own.declarations k ds (declared_in is) d) (inl e)
      (f.0.1, second_empty r.faults others f.1) in (
        n.0,
        (
          procedure_walked P program table c w next head body l.0 inside.stands.here own_entries.0 m.0,
          every_both (ProcedureHolds P table program) r.procedures (statements c (next + length bs) is).procedures m.1
              n.1,
        ),
      )
  list_walk P leaf program table ret c own a more st b u may k next (T.ItemThen (T.Declare items place) is) l g h d e
      f =
      let z : next + 0 ≡ next = omega arith in
      let ds = declared_in_item (T.Declare items place) in
      list_walk P leaf program table ret c own a more st b u may (k + length ds) next is l g (
        subst (λ k. HasAt c.scope.blocks next (blocks_in c.around k is)) z h.0,
        subst (λ k. HasAt table next (entries_in (a ∷ more) k is)) z h.1,
      ) (has_second own.declarations k ds (declared_in is) d) e (f.0.1, f.1)
  list_walk P leaf program table ret c own a more st b u may k next (T.ItemThen (T.Statement labels s) is) l g h d e f =
      let bs = blocks_in_stmt c.around next s in
      let cs = blocks_in c.around (next + length bs) is in
      let es = entries_in_stmt (a ∷ more) next s in
      let fs = entries_in (a ∷ more) (next + length es) is in
      let ls = labels_declared labels in
      let ds = ls ++ declared_in_stmt s in
      let same : next + length es ≡ next + length bs =
      ap (λ k. next + k) (stmt_length (a ∷ more) c.around next next s) in
      let second : HasAt table (next + length bs) (entries_in (a ∷ more) (next + length bs) is) =
      subst (λ k. HasAt table k (entries_in (a ∷ more) k is)) same (has_second table next es fs h.1) in
      let r = (statement c next s).faults in
      let others = (statements c (next + length bs) is).faults in
      let fine = alone_fine others (second_empty r (others ++ []) f.1) in
      let m = stmt_walk P leaf program table ret c own a more st b u may (k + length ls) next s l.0 g.0
      (has_first c.scope.blocks next bs cs h.0, has_first table next es fs h.1)
      (has_second own.declarations k ls (declared_in_stmt s)
      (has_first own.declarations k ds (declared_in is) d))
      (f.0.0, first_empty r (others ++ []) f.1) in
      let n = list_walk P leaf program table ret c own a more st b u may (k + length ds) (next + length bs) is l.1 g.1
      (has_second c.scope.blocks next bs cs h.0, second) (has_second own.declarations k ds (declared_in is) d) e
      (f.0.1, fine) in (
        (m.0, n.0),
        both_none (ProcedureHolds P table program) (statement c next s).procedures
            (statements c (next + length bs) is).procedures m.1 n.1,
      )
  list_walk P leaf program table ret c own a more st b u may k next (T.ItemThen (T.EndLabels labels place) is) l g h d
      e f = (tt, tt)

-- ---- programs

outer_walk : (P : Where → Y.Stmt → Type 0) → IsOwn P → (program : Y.Program) (table : Table) (blocks : List Block)
    → Facts blocks program table → (next : ℕ) (is : T.Items) → AreProcedures is → AllEndLast is → AllGroupsBare is
    → HasItems table (outermost_context blocks) [] next is → ItemsFine (outermost_context blocks) 0 0 false next is
    → Every (ProcedureHolds P table program) (statements (outermost_context blocks) next is).procedures
unfolding statements blocks_in blocks_in_item entries_in entries_in_item
outer_walk P leaf program table blocks facts next T.NoItem o l g h f = tt
outer_walk P leaf program table blocks facts next (T.ItemThen (T.Procedure head body) is) o l g h f =
    let c = outermost_context blocks in
    let r = statements (in_block c next (S.labels_in body)) (next + 1) body in
    let bs = blocks_in_item c.around next (T.Procedure head body) in
    let cs = blocks_in c.around (next + length bs) is in
    let es = entries_in_item [] next (T.Procedure head body) in
    let fs = entries_in [] (next + length es) is in
    let same : next + length es ≡ next + length bs =
    ap (λ k. next + k) (item_length [] c.around next next (T.Procedure head body)) in
    let second : HasAt table (next + length bs) (entries_in [] (next + length bs) is) =
    subst (λ k. HasAt table k (entries_in [] k is)) same (has_second table next es fs h.1) in
    let own_blocks = has_first blocks next bs cs h.0 in
    let own_entries = has_first table next es fs h.1 in
    let inside = block_standing c [] next (Some head) body facts refl own_blocks.0 own_entries.0 (inl refl, tt) tt in
    let others = (statements c (next + length bs) is).faults in
    let m = list_walk P leaf program table (Returns (result_type blocks 0 head)) (in_block c next (S.labels_in body)) _
    _ [] inside 1 0 true 0 (next + 1) body l.0 g.0 (own_blocks.1, own_entries.1)
    (has_end (declared_in body) [] (declared_in body) refl) (inl refl) (f.0.0.1, first_empty r.faults others f.1) in
    let n = outer_walk P leaf program table blocks facts (next + length bs) is o l.1 g.1
    (has_second blocks next bs cs h.0, second) (f.0.1, second_empty r.faults others f.1) in (
      procedure_walked P program table c [] next head body l.0 inside.stands.here own_entries.0 m.0,
      every_both (ProcedureHolds P table program) r.procedures (statements c (next + length bs) is).procedures m.1 n,
    )
outer_walk P leaf program table blocks facts next _ o l g h f = absurd o

pub holds_everywhere : (P : Where → Y.Stmt → Type 0) → IsOwn P → (tree : T.Tree) → IsShaped tree
    → AllGroupsBare tree.procedures → ItemsHave IsRanged 0 0 false tree.procedures → typing_faults tree ≡ []
    → Facts (blocks_of tree) (typed_tree tree) (table_of tree) → HoldsEverywhere P tree
unfolding resolved blocks_of
holds_everywhere P leaf tree shape bare ranged fine facts =
    let all = blocks_of tree in
    let c = outermost_context all in
    let table = table_of tree in
    let program = typed_tree tree in
    let bs = has_end all (outermost ∷ []) (blocks_in (0 ∷ []) 1 tree.procedures) refl in
    let es = has_end table ([] ∷ []) (entries_in [] 1 tree.procedures) refl in
    let r = statements c 1 tree.procedures in
    let f = first_empty r.faults (block_variables all 0 all).faults fine in
    every_both (ProcedureHolds P table program) r.procedures (block_variables all 0 all).procedures
    (outer_walk P leaf program table all facts 1 tree.procedures shape.outer shape.ends bare (bs, es) (ranged, f))
    (subst (Every (ProcedureHolds P table program)) (sym (no_procedure all 0 all)) tt)
