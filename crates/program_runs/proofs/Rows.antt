-- The worked row: all that is premised of the program is computed.
use Rattle.std.proofs.Common.{◌≡◌, ℕ, zero, suc, ◌+◌, ◌-◌, ◌^◌, ◌<◌, List, [], ◌∷◌, ◌++◌, length, Some, Bool}
use Rattle.std.proofs.Common.{true, false, refl, subst, inl, inr, arith}
use Rattle.std.specs.Prelude.{cond}
use Rattle.rv_meaning.specs.Machine.{memory_size}
use Rattle.pli_typing.specs.TypedTree as Y
use Rattle.pli_meaning.specs.Control as F
use Rattle.pli_meaning.specs.Evaluating as V
use Rattle.pli_meaning.specs.Executing as M
use Rattle.pli_meaning.specs.Executing.{entered, run}
use Rattle.pli_meaning.specs.Making as K
use Rattle.pli_meaning.specs.StorageState.{first_state}
use Rattle.pli_meaning.specs.declared.outcome.End.TheVariants as N
use Rattle.area_keeper.specs.KeeperLaws.{Keeps}
use Rattle.run_keeper.specs.RunKeeper.{run_keeper}
use Rattle.pli_coding.specs.Allocating.{act_code}
use Rattle.pli_coding.specs.Assembly.{Code, Datum, Symbol, CallTo, Mark, ProcedureEntry, ReturnPlace, Plain, BaseIn}
use Rattle.pli_coding.specs.Assembly.{OffsetOf, OffsetAhead, JumpTo, JumpAhead, JumpBack, DataPlace, LabelPlace}
use Rattle.pli_coding.specs.Assembly.{RaiseCondition, RaiseError, ErrorEnd, ExtentRoutine, size_of}
use Rattle.pli_coding.specs.Environments.{none_taken}
use Rattle.pli_coding.specs.Images.{first_frame, linked_code, raise_code}
use Rattle.pli_coding.specs.Linking.{links_of}
use Rattle.pli_coding.specs.Statements.{stmt_code, stmts_code}
use Rattle.activation_relation.specs.Layers.{Point, services_of}
use Rattle.run_steps.specs.DataNamed.{IsNamed}
use Rattle.run_steps.specs.Items.{Linked}
use Rattle.run_steps.proofs.Jumps.{front_of, back_of, first_of, rest_of}
use Rattle.run_steps.proofs.Linking.{has_items, linked_length}
use Rattle.run_steps.specs.Reach.{Comes}
use Rattle.block_runs.proofs.CallStatements.{given_code}
use Rattle.program_runs.specs.Calls.{Callee, IsCallee, IsCall, block_at, body_index, left_over}
use Rattle.program_runs.specs.Procedures.{Procedure, begin_of, end_of, procedure_code}
use Rattle.program_runs.specs.Programs.{IsWhole, main_of}
use Rattle.program_runs.specs.Rows.{row_call, row_main, row_inner, row_program, row_code, row_environment, row_image}
use Rattle.program_runs.specs.Rows.{row_whole, row_body, row_end, main_entry, inner_entry, main_rest, inner_rest}
use Rattle.program_runs.specs.Rows.{coded_of}
use Rattle.program_runs.specs.Starts.{start_of, start_point, surroundings_of, first_family, main_called, never_in}
use Rattle.program_runs.specs.Starts.{no_numbers, image_parts}
use Rattle.program_runs.specs.Statements.{Block, IsBegun, IsOwn, Does, EachDoes}
use Rattle.program_runs.proofs.Calls.{none_made}
use Rattle.program_runs.proofs.CallStatements.{call_does, statement_at}
use Rattle.program_runs.proofs.Programs.{program_runs}
use Rattle.program_runs.proofs.Statements.{none_does, null_does, return_does}

-- ---- code that names no data

unfoldable pub is_datum : Symbol → Bool
is_datum (DataPlace d) = true
is_datum (ProcedureEntry n) = false
is_datum (ReturnPlace n) = false
is_datum (LabelPlace n l) = false
is_datum RaiseCondition = false
is_datum RaiseError = false
is_datum ErrorEnd = false
is_datum (ExtentRoutine n i) = false

unfoldable pub names_none : Code → Bool
names_none [] = true
names_none (OffsetOf r s ∷ xs) = cond (is_datum s) false (names_none xs)
names_none (Plain i ∷ xs) = names_none xs
names_none (BaseIn r ∷ xs) = names_none xs
names_none (OffsetAhead r n ∷ xs) = names_none xs
names_none (JumpTo s ∷ xs) = names_none xs
names_none (CallTo s ∷ xs) = names_none xs
names_none (JumpAhead n ∷ xs) = names_none xs
names_none (JumpBack n ∷ xs) = names_none xs
names_none (Mark s ∷ xs) = names_none xs

no_datum :
    (d : Datum) (s : Symbol) (xs : Code) → cond (is_datum s) false (names_none xs) ≡ true → s ≡ DataPlace d → ⊥
unfolding is_datum
no_datum d s xs e same = cc (subst (λ u. cond (is_datum u) false (names_none xs) ≡ true) same e)

rest_none : (q r : Bool) → cond q false r ≡ true → r ≡ true
rest_none true r e = absurd (cc e)
rest_none false r e = e

pub none_named : (d : Datum) (xs : Code) → names_none xs ≡ true → IsNamed d xs → ⊥
unfolding names_none
none_named d [] e h = h
none_named d (OffsetOf r s ∷ xs) e (inl h) = no_datum d s xs e h
none_named d (OffsetOf r s ∷ xs) e (inr h) = none_named d xs (rest_none (is_datum s) (names_none xs) e) h
none_named d (Plain i ∷ xs) e (inl h) = h
none_named d (Plain i ∷ xs) e (inr h) = none_named d xs e h
none_named d (BaseIn r ∷ xs) e (inl h) = h
none_named d (BaseIn r ∷ xs) e (inr h) = none_named d xs e h
none_named d (OffsetAhead r n ∷ xs) e (inl h) = h
none_named d (OffsetAhead r n ∷ xs) e (inr h) = none_named d xs e h
none_named d (JumpTo s ∷ xs) e (inl h) = h
none_named d (JumpTo s ∷ xs) e (inr h) = none_named d xs e h
none_named d (CallTo s ∷ xs) e (inl h) = h
none_named d (CallTo s ∷ xs) e (inr h) = none_named d xs e h
none_named d (JumpAhead n ∷ xs) e (inl h) = h
none_named d (JumpAhead n ∷ xs) e (inr h) = none_named d xs e h
none_named d (JumpBack n ∷ xs) e (inl h) = h
none_named d (JumpBack n ∷ xs) e (inr h) = none_named d xs e h
none_named d (Mark s ∷ xs) e (inl h) = h
none_named d (Mark s ∷ xs) e (inr h) = none_named d xs e h

-- ---- where its code stands

pub row_linked : Linked (links_of row_code) (linked_code row_code) 0 row_code
unfolding names_none is_datum
row_linked =
    let n = linked_length (links_of row_code) 0 row_code in
    record {
      small' = omega (arith, n);
      inside = omega (arith, n);
      has = has_items (links_of row_code) row_code refl;
      named = λ d h. absurd (none_named d row_code refl h);
    }

abbrev both_coded : Code
both_coded = coded_of row_main ++ coded_of row_inner

start_linked : Linked (links_of row_code) (linked_code row_code) 0 (start_of 0)
start_linked = front_of (start_of 0) (raise_code ++ both_coded) row_linked

main_linked :
    Linked (links_of row_code) (linked_code row_code) main_entry (procedure_code (row_environment row_main) row_main)
main_linked =
    rest_of (Mark (ProcedureEntry 0)) (procedure_code (row_environment row_main) row_main)
    (front_of (coded_of row_main) (coded_of row_inner)
    (back_of raise_code both_coded (back_of (start_of 0) (raise_code ++ both_coded) row_linked)))

inner_linked :
    Linked (links_of row_code) (linked_code row_code) inner_entry (procedure_code (row_environment row_inner) row_inner)
inner_linked =
    rest_of (Mark (ProcedureEntry 1)) (procedure_code (row_environment row_inner) row_inner)
    (back_of (coded_of row_main) (coded_of row_inner)
    (back_of raise_code both_coded (back_of (start_of 0) (raise_code ++ both_coded) row_linked)))

-- the statements of a procedure
body_linked :
    (entry : ℕ) (x : Procedure) →
    Linked (links_of row_code) (linked_code row_code) entry (procedure_code (row_environment x) x) →
    Linked (links_of row_code) (linked_code row_code) (row_body entry x)
    (stmts_code (row_environment x) none_taken x.body)
body_linked entry x l =
    let one = act_code x.head.line in
    let body = stmts_code (row_environment x) none_taken x.body in
    let tail = Mark (ReturnPlace x.head.number) ∷ end_of x in
    front_of body tail
    (back_of one (body ++ tail)
    (back_of x.variables (one ++ (body ++ tail)) (back_of (begin_of x) (x.variables ++ (one ++ (body ++ tail))) l)))

main_body : Linked (links_of row_code) (linked_code row_code) (row_body main_entry row_main)
    (stmts_code (row_environment row_main) none_taken row_main.body)
main_body = body_linked main_entry row_main main_linked

inner_body : Linked (links_of row_code) (linked_code row_code) (row_body inner_entry row_inner)
    (stmts_code (row_environment row_inner) none_taken row_inner.body)
inner_body = body_linked inner_entry row_inner inner_linked

-- ---- the procedure inside

abbrev row_size : Y.Stmt → ℕ
row_size stmt = size_of (stmt_code (row_environment row_main) none_taken stmt)

abbrev row_callee : (more : ℕ) → Callee
row_callee more =
    record {
      procedure = row_inner;
      calling = record {
        parent = 1;
        call = row_body main_entry row_main + row_size row_call - 2;
        entry = inner_entry;
        end = row_end inner_entry row_inner;
      };
      environment = row_environment row_inner;
      made = λ q. q;
      around = record { program = row_program; enter = entered row_program more; turns = suc more; line = 0 };
    }

abbrev main_block : (input : List ℕ) → (acts : ℕ) → Block
main_block input acts =
    block_at (surroundings_of (row_image input acts)) (linked_code row_code) (main_of (row_whole input acts))
    (start_point (row_image input acts)) no_numbers

inner_own :
    (input : List ℕ) (acts more : ℕ) (p : Point) (numbers : ℕ → ℕ) →
    IsBegun (block_at (surroundings_of (row_image input acts)) (linked_code row_code) (row_callee more) p numbers) →
    IsOwn (block_at (surroundings_of (row_image input acts)) (linked_code row_code) (row_callee more) p numbers)
    left_over
inner_own input acts more p numbers b =
    record {
      owner = refl;
      end = refl;
      near = omega arith;
      enough = omega arith;
      function = refl;
      begun = b;
      kind = refl;
      registers = omega arith;
    }

inner_each :
    (input : List ℕ) (acts more : ℕ) (p : Point) (numbers : ℕ → ℕ) → acts + 1 < 2 ^ 64 →
    IsBegun (block_at (surroundings_of (row_image input acts)) (linked_code row_code) (row_callee more) p numbers) →
    EachDoes (block_at (surroundings_of (row_image input acts)) (linked_code row_code) (row_callee more) p numbers) []
    row_inner.body (body_index (row_callee more)) left_over
inner_each input acts more p numbers few b =
    let k = block_at (surroundings_of (row_image input acts)) (linked_code row_code) (row_callee more) p numbers in
    let e = row_environment row_inner in
    let null = stmt_code e none_taken (Y.Null 3) in
    let rest = stmts_code e none_taken inner_rest in
    let l = back_of null rest inner_body in (
      null_does k 3 _ left_over (record { line_fits = omega arith; acts = few }) (front_of null rest inner_body) [],
      (
        return_does k 4 _ left_over (record { line_fits = omega arith; acts = few })
            (inner_own input acts more p numbers b) (front_of (stmt_code e none_taken (Y.Return 4)) [] l) [],
        tt,
      ),
    )

inner_callee :
    (input : List ℕ) (acts more : ℕ) → acts + 1 < 2 ^ 64 →
    IsCallee (surroundings_of (row_image input acts)) (linked_code row_code) (row_callee more)
inner_callee input acts more few =
    let e = row_environment row_main in
    let one = act_code 6 in
    let given' = given_code (statement_at (main_block input acts) (row_callee more) 6 0
    (start_point (row_image input acts)) no_numbers) in
    let last = CallTo (ProcedureEntry 1) ∷ [] in
    let l = front_of (stmt_code e none_taken row_call) (stmts_code e none_taken main_rest) main_body in
    record {
      coded = record { level = omega arith; line = omega arith; saved = omega arith; back = omega arith };
      calls = back_of given' last (back_of one (given' ++ last) l);
      place = refl;
      stands = inner_linked;
      end = refl;
      kind = refl;
      labels = (λ label e. absurd (cc e), (λ label e. absurd (cc e), λ label e. absurd (cc e)));
      acts = few;
    }

-- ---- the main procedure

main_calls :
    (input : List ℕ) (more : ℕ) → suc more + 1 < 2 ^ 64 →
    IsCall (main_block input (suc more)) (row_callee more) 6 (row_body main_entry row_main) more
main_calls input more few =
    let e = row_environment row_main in
    record {
      line_fits = omega arith;
      callee = inner_callee input (suc more) more few;
      room = record { room = omega arith; shallow = refl; parent = (omega arith, refl); idle = refl };
      statement = front_of (stmt_code e none_taken row_call) (stmts_code e none_taken main_rest) main_body;
      call = refl;
      level = refl;
      parent = refl;
      found = refl;
      enter = refl;
      around = refl;
      enough = omega arith;
    }

call_by :
    (input : List ℕ) (acts : ℕ) → acts + 1 < 2 ^ 64 → IsBegun (main_block input acts) →
    Does (main_block input acts) [] row_call (row_body main_entry row_main) left_over
call_by input zero few b =
    none_does (main_block input zero) [] row_call (row_body main_entry row_main) left_over b refl
call_by input (suc more) few b =
    call_does (main_block input (suc more)) (row_callee more) 6 (row_body main_entry row_main) left_over more
    (main_calls input more few)
    (λ p numbers o. none_made (surroundings_of (row_image input (suc more))) (linked_code row_code) (row_callee more) p
    numbers refl refl (refl, refl))
    (λ p numbers o. inner_each input (suc more) more p numbers few) b []

pub main_each :
    (input : List ℕ) (acts : ℕ) → acts + 1 < 2 ^ 64 → IsBegun (main_block input acts) →
    EachDoes (main_block input acts) [] row_main.body (body_index (main_of (row_whole input acts))) left_over
main_each input acts few b =
    let e = row_environment row_main in
    let rest = back_of (stmt_code e none_taken row_call) (stmts_code e none_taken main_rest) main_body in (
      call_by input acts few b,
      (
        null_does (main_block input acts) 7 _ left_over (record { line_fits = omega arith; acts = few })
            (front_of (stmt_code e none_taken (Y.Null 7)) [] rest) [],
        tt,
      ),
    )

pub row_is : (input first : List ℕ) (acts : ℕ) → acts + 1 < 2 ^ 64 → length first ≡ memory_size →
    IsWhole (row_whole input acts) first
row_is input first acts few bytes =
    let l = back_of (first_frame image_parts) (main_called 0) start_linked in
    record {
      start = record {
        linked = start_linked;
        differ = λ i j a b e. absurd (cc e);
        bytes = bytes;
        told = λ n v e. absurd (cc e);
      };
      made = none_made (surroundings_of (row_image input acts)) (linked_code row_code) (main_of (row_whole input acts))
          (start_point (row_image input acts)) no_numbers refl refl (refl, refl);
      callee = record {
        coded = record { level = omega arith; line = omega arith; saved = omega arith; back = omega arith };
        calls = first_of (CallTo (ProcedureEntry 0)) _ (rest_of _ _ (rest_of _ _ (rest_of _ _ l)));
        place = refl;
        stands = main_linked;
        end = refl;
        kind = refl;
        labels = (λ label e. absurd (cc e), (λ label e. absurd (cc e), λ label e. absurd (cc e)));
        acts = few;
      };
      room = record { room = omega arith; shallow = refl; parent = tt; idle = refl };
      level = refl;
      procedures = refl;
      statics = refl;
    }

pub row_runs :
    Keeps run_keeper → (input first : List ℕ) (acts : ℕ) → acts + 1 < 2 ^ 64 → length first ≡ memory_size →
    Comes (linked_code row_code) 0 (first_family first (services_of (start_point (row_image input acts))))
    (services_of (start_point (row_image input acts))) (never_in (row_image input acts))
    (run row_program (suc acts) acts (first_state input))
row_runs keeps input first acts few bytes =
    program_runs keeps (row_whole input acts) first (row_is input first acts few bytes) (main_each input acts few)

-- ---- what the program comes to

-- what it is computed with
unfoldable flows : Unit {0}
unfolding F.give F.◌>>=◌ F.◌>>◌ F.looked F.stored F.act F.finish F.returns F.choose F.given F.list_from F.leaving
flows = tt

unfoldable calls : Unit {0}
unfolding V.called V.arguments V.all_passed_last V.procedure_entered K.variables_made K.parameters_bound
calls = tt

unfoldable statements : Unit {0}
unfolding M.statement M.statements M.list M.list_with M.block_variables_made M.entry_act M.block_list M.block_body
statements = tt

pub row_ends :
    (input : List ℕ) →
    M.meaning row_program input 7 ≡ Some (record { acts = 7; output = []; raised = []; end = N.Finished })
unfolding M.meaning M.run M.entered M.block_run flows calls statements
row_ends input = refl
