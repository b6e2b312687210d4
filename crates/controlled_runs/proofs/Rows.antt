-- The worked row: all that is premised of the program is computed.
use Rattle.std.proofs.Common.{◌≡◌, ◌≢◌, ℕ, zero, suc, ◌+◌, ◌^◌, ◌<◌, List, [], ◌∷◌, ◌++◌, length, map, None, Option}
use Rattle.std.proofs.Common.{Some}
use Rattle.std.proofs.Common.{Bool, true, false, refl, sym, ap, ◌∙◌, subst, arith}
use Rattle.rv_meaning.specs.Machine.{memory_size}
use Rattle.pli_typing.specs.TypedTree as Y
use Rattle.pli_meaning.specs.declared.outcome.End.TheVariants as E
use Rattle.pli_meaning.specs.Control as F
use Rattle.pli_meaning.specs.Executing as M
use Rattle.pli_meaning.specs.Executing.{run}
use Rattle.pli_meaning.specs.Making as K
use Rattle.pli_meaning.specs.Placing as P
use Rattle.pli_meaning.specs.Raising as R
use Rattle.pli_meaning.specs.StorageState.{first_state}
use Rattle.area_keeper.specs.KeeperLaws.{Keeps}
use Rattle.run_keeper.specs.RunKeeper.{run_keeper}
use Rattle.pli_serving.specs.Templates.{template_of}
use Rattle.pli_coding.specs.Allocating.{act_code}
use Rattle.pli_coding.specs.Assembly.{CallTo, Mark, ProcedureEntry, ReturnPlace, size_of}
use Rattle.pli_coding.specs.Environments.{none_taken}
use Rattle.pli_coding.specs.Images.{first_frame, linked_code, raise_code}
use Rattle.pli_coding.specs.Linking.{links_of}
use Rattle.pli_coding.specs.SignatureTable.{table_of}
use Rattle.pli_coding.specs.Statements.{stmt_code, stmts_code}
use Rattle.storage_relation.specs.Controlled.{ControlledAs, Variable, same_variable}
use Rattle.storage_relation.specs.Served.{AllDiffer}
use Rattle.activation_relation.specs.Layers.{now, services_of}
use Rattle.run_steps.specs.Items.{Linked}
use Rattle.run_steps.proofs.Jumps.{back_of, first_of, front_of, rest_of}
use Rattle.run_steps.proofs.Linking.{has_items, linked_length}
use Rattle.run_steps.specs.Reach.{Comes}
use Rattle.program_runs.specs.Calls.{body_index, left_over}
use Rattle.program_runs.specs.Procedures.{begin_of, end_of, procedure_code}
use Rattle.program_runs.specs.Programs.{IsWhole, Whole, main_of}
use Rattle.program_runs.specs.Starts.{first_family, image_parts, main_called, no_numbers, start_of, never_in}
use Rattle.program_runs.specs.Starts.{start_point, surroundings_of}
use Rattle.program_runs.specs.Statements.{Block}
use Rattle.program_runs.specs.Variables.{Declared}
use Rattle.program_runs.proofs.Rows.{is_datum, names_none, none_named}
use Rattle.program_runs.proofs.VariableRows.{differs_alone}
use Rattle.expression_runs.specs.Assignments.{setting_of}
use Rattle.variable_runs.specs.Lists.{AreAll, newest_all}
use Rattle.variable_runs.proofs.Lists.{all_procedure}
use Rattle.area_runs.specs.Based.{Ends}
use Rattle.controlled_runs.specs.Allocations.{HasWords, IsAllocation, IsNumber, allocation}
use Rattle.controlled_runs.specs.Freeing.{IsFreeing, freeing}
use Rattle.controlled_runs.specs.Lists.{EachDoesListed, IsListed, ListsStand}
use Rattle.controlled_runs.specs.Programs.{main_block}
use Rattle.controlled_runs.specs.Rows.{stack_body, stack_code, stack_coded, stack_entry, stack_environment}
use Rattle.controlled_runs.specs.Rows.{stack_fourth}
use Rattle.controlled_runs.specs.Rows.{stack_image, stack_last, stack_listed, stack_main, stack_program, stack_second}
use Rattle.controlled_runs.specs.Rows.{stack_spot, stack_third}
use Rattle.controlled_runs.proofs.Allocations.{allocate_does}
use Rattle.controlled_runs.proofs.Freeing.{free_does}
use Rattle.controlled_runs.proofs.Programs.{listed_program_runs}

-- ---- its code

stack_linked : Linked (links_of stack_code) (linked_code stack_code) 0 stack_code
unfolding names_none is_datum
stack_linked =
    let n = linked_length (links_of stack_code) 0 stack_code in
    record {
      small' = omega (arith, n);
      inside = omega (arith, n);
      has = has_items (links_of stack_code) stack_code refl;
      named = λ d h. absurd (none_named d stack_code refl h);
    }

start_linked : Linked (links_of stack_code) (linked_code stack_code) 0 (start_of 0)
start_linked = front_of (start_of 0) (raise_code ++ stack_coded) stack_linked

raise_linked : Linked (links_of stack_code) (linked_code stack_code) (size_of (start_of 0)) raise_code
raise_linked = front_of raise_code stack_coded (back_of (start_of 0) (raise_code ++ stack_coded) stack_linked)

main_linked :
    Linked (links_of stack_code) (linked_code stack_code) stack_entry
    (procedure_code stack_environment stack_main)
main_linked =
    rest_of (Mark (ProcedureEntry 0)) (procedure_code stack_environment stack_main)
    (back_of raise_code stack_coded (back_of (start_of 0) (raise_code ++ stack_coded) stack_linked))

abbrev pub stack_start : ℕ
stack_start = stack_entry + size_of (begin_of stack_main) + size_of stack_main.variables + size_of (act_code 1)

abbrev pub stack_finish : ℕ
stack_finish = stack_start + size_of (stmts_code stack_environment none_taken stack_main.body)

body_linked :
    Linked (links_of stack_code) (linked_code stack_code) stack_start
    (stmts_code stack_environment none_taken stack_main.body)
body_linked =
    let one = act_code 1 in
    let body = stmts_code stack_environment none_taken stack_main.body in
    let tail = Mark (ReturnPlace 0) ∷ end_of stack_main in
    let rest = one ++ (body ++ tail) in
    front_of body tail
    (back_of one (body ++ tail)
    (back_of stack_main.variables rest (back_of (begin_of stack_main) (stack_main.variables ++ rest) main_linked)))

one_differs : AllDiffer (map template_of (table_of stack_program))
one_differs = differs_alone (map template_of (table_of stack_program)) _ refl refl

-- ---- the whole

-- no variable is made when it begins
abbrev pub stack_variables : List Declared
stack_variables = []

abbrev pub stack_whole : (input : List ℕ) → (acts : ℕ) → Whole
stack_whole input acts =
    record {
      image = stack_image input acts;
      program = stack_program;
      main = stack_main;
      others = [];
      environment = stack_environment;
      entry = stack_entry;
      end = stack_finish;
      made = newest_all image_parts stack_variables;
    }

stack_all :
    (input : List ℕ) (acts : ℕ) →
    AreAll (surroundings_of (stack_image input acts)) (main_of (stack_whole input acts))
    (start_point (stack_image input acts)) no_numbers stack_variables
stack_all input acts =
    record {
      kind = refl;
      those = (refl, tt);
      listed = tt;
      code = refl;
      made = refl;
      parts = refl;
      few = omega arith;
      declared = tt;
    }

pub stack_is : (input first : List ℕ) (acts : ℕ) → acts + 1 < 2 ^ 64 → length first ≡ memory_size →
    IsWhole (stack_whole input acts) first
stack_is input first acts few bytes =
    let l = back_of (first_frame image_parts) (main_called 0) start_linked in
    record {
      start = record { linked = start_linked; differ = one_differs; bytes = bytes; told = λ n v e. absurd (cc e) };
      made = all_procedure (surroundings_of (stack_image input acts)) (linked_code stack_code)
          (main_of (stack_whole input acts)) (start_point (stack_image input acts)) no_numbers stack_variables
          (stack_all input acts);
      callee = record {
        coded = record { level = omega arith; line = omega arith; saved = omega arith; back = omega arith };
        calls = first_of (CallTo (ProcedureEntry 0)) _ (rest_of _ _ (rest_of _ _ (rest_of _ _ l)));
        place = refl;
        stands = main_linked;
        end = refl;
        kind = refl;
        labels = (
          λ label e. absurd (cc e),
          (
            λ label e. absurd (cc e),
            (
              λ label e. absurd (cc e),
              (λ label e. absurd (cc e), (λ label e. absurd (cc e), λ label e. absurd (cc e))),
            ),
          ),
        );
        acts = few;
      };
      room = record { room = omega arith; shallow = refl; parent = tt; idle = refl };
      level = refl;
      procedures = refl;
      statics = refl;
    }

-- ---- its statements

abbrev stack_block : (input : List ℕ) → (acts : ℕ) → Block
stack_block input acts = main_block (stack_whole input acts)

is_listed : (input : List ℕ) (acts : ℕ) → IsListed stack_listed (stack_block input acts) stack_spot
is_listed input acts = record { named = refl; few = omega arith }

is_number : (input : List ℕ) (acts : ℕ) → IsNumber stack_listed (stack_block input acts) stack_spot
is_number input acts =
    record {
      listed = is_listed input acts;
      declared = refl;
      meant = refl;
      signature = 0;
      table = refl;
      number = omega arith;
      numbered = refl;
    }

has_words : (input : List ℕ) (acts : ℕ) → HasWords (stack_block input acts)
has_words input acts = record { layer = _; others = []; layers = refl; words = omega arith; waits = λ i. refl }

ends :
    (input : List ℕ) (acts line : ℕ) → acts + 1 < 2 ^ 64 →
    Ends (setting_of (stack_block input acts) [] line 100)
ends input acts line few =
    record {
      routines = record {
        at = size_of (start_of 0);
        linked = raise_linked;
        condition = refl;
        end = omega arith;
      };
      raises = refl;
      error = tt;
      acts = few;
      most = omega arith;
    }

allocation_is :
    (input : List ℕ) (acts line index : ℕ) → acts + 1 < 2 ^ 64 → line < 2 ^ 31 →
    Linked (links_of stack_code) (linked_code stack_code) index
    (stmt_code stack_environment none_taken (allocation stack_spot line)) →
    IsAllocation stack_listed (stack_block input acts) [] stack_spot line index 100
allocation_is input acts line index few fits l =
    record {
      act = record { line_fits = fits; acts = few };
      variable = is_number input acts;
      words = has_words input acts;
      ends = ends input acts line few;
      turns = acts;
      some = refl;
      statement = l;
    }

freeing_is :
    (input : List ℕ) (acts line index : ℕ) → acts + 1 < 2 ^ 64 → line < 2 ^ 31 →
    Linked (links_of stack_code) (linked_code stack_code) index
    (stmt_code stack_environment none_taken (freeing stack_spot line)) →
    IsFreeing stack_listed (stack_block input acts) stack_spot line index
freeing_is input acts line index few fits l =
    record { act = record { line_fits = fits; acts = few }; variable = is_listed input acts; statement = l }

pub stack_each :
    (input : List ℕ) (acts : ℕ) → acts + 1 < 2 ^ 64 →
    EachDoesListed stack_listed (stack_block input acts) [] stack_body (body_index (main_of (stack_whole input acts)))
    left_over
stack_each input acts few =
    let k = stack_block input acts in
    let e = stack_environment in
    let of = stack_listed in
    let x = stack_spot in
    let s1 = stmt_code e none_taken (allocation x 3) in
    let s2 = stmt_code e none_taken (allocation x 4) in
    let s3 = stmt_code e none_taken (freeing x 5) in
    let s4 = stmt_code e none_taken (freeing x 6) in
    let s5 = stmt_code e none_taken (freeing x 7) in
    let r1 = stmts_code e none_taken stack_second in
    let r2 = stmts_code e none_taken stack_third in
    let r3 = stmts_code e none_taken stack_fourth in
    let r4 = stmts_code e none_taken stack_last in
    let l1 = back_of s1 r1 body_linked in
    let l2 = back_of s2 r2 l1 in
    let l3 = back_of s3 r3 l2 in
    let l4 = back_of s4 r4 l3 in (
      allocate_does of k [] x 3 _ left_over 100 (allocation_is input acts 3 _ few (omega arith) (front_of s1 r1
          body_linked)),
      (
        allocate_does of k [] x 4 _ left_over 100 (allocation_is input acts 4 _ few (omega arith) (front_of s2 r2 l1)),
        (
          free_does of k [] x 5 _ left_over (freeing_is input acts 5 _ few (omega arith) (front_of s3 r3 l2)),
          (
            free_does of k [] x 6 _ left_over (freeing_is input acts 6 _ few (omega arith) (front_of s4 r4 l3)),
            (free_does of k [] x 7 _ left_over (freeing_is input acts 7 _ few (omega arith) (front_of s5 [] l4)), tt),
          ),
        ),
      ),
    )

-- where it begins nothing is allocated
pub stack_lists : (input : List ℕ) (acts : ℕ) → ListsStand stack_listed (stack_block input acts).first
stack_lists input acts =
    record {
      each = λ i x e. by i x e;
      other = λ i j x y e f ne. other i j x y e f ne;
      once = λ i x e. tt;
      apart = λ i j x y e f ne. tt;
    }
  where
    by :
        (i : ℕ) (x : Variable) → stack_listed i ≡ Some x →
        ControlledAs (now (stack_block input acts).first []) x i
    by zero x e = record { offsets = refl; live = tt }
    by (suc i) x e = absurd (cc e)

    other :
        (i j : ℕ) (x y : Variable) → stack_listed i ≡ Some x → stack_listed j ≡ Some y → i ≢ j →
        same_variable x y ≡ false
    other zero zero x y e f ne = absurd (ne refl)
    other zero (suc j) x y e f ne = absurd (cc f)
    other (suc i) j x y e f ne = absurd (cc e)

pub stack_runs :
    Keeps run_keeper → (input first : List ℕ) (acts : ℕ) → acts + 1 < 2 ^ 64 → length first ≡ memory_size →
    Comes (linked_code stack_code) 0 (first_family first (services_of (start_point (stack_image input acts))))
    (services_of (start_point (stack_image input acts))) (never_in (stack_image input acts))
    (run stack_program (suc acts) acts (first_state input))
stack_runs keeps input first acts few bytes =
    listed_program_runs keeps stack_listed (stack_whole input acts) first (stack_is input first acts few bytes) refl
    (stack_lists input acts) (λ b. stack_each input acts few)

-- ---- what the program comes to

unfoldable flows : Unit {0}
unfolding F.give F.◌>>=◌ F.◌>>◌ F.looked F.stored F.act F.finish F.returns F.jumps F.choose F.given F.list_from
    F.leaving
flows = tt

unfoldable placings : Unit {0}
unfolding P.allocations P.allocation P.controlled_allocated P.placing P.freeings P.freeing R.or_error
placings = tt

unfoldable makings : Unit {0}
unfolding K.variables_made K.automatic_made K.extents K.variable_made K.parameters_bound
makings = tt

unfoldable statements : Unit {0}
unfolding M.statement M.statements M.list M.list_with M.block_variables_made M.entry_act M.block_list M.block_body
statements = tt

pub stack_ends :
    (input : List ℕ) →
    M.meaning stack_program input 7 ≡ Some (record { acts = 7; output = []; raised = []; end = E.Finished })
unfolding M.meaning M.run M.entered M.block_run flows placings makings statements
stack_ends input = refl
