-- The worked row of RETURN: all that is premised of the program is computed.
use Rattle.std.proofs.Common.{◌≡◌, ℕ, zero, suc, ◌+◌, ◌^◌, ◌<◌, List, [], ◌∷◌, ◌++◌, length, Some}
use Rattle.std.proofs.Common.{true, refl, sym, ap, subst, arith}
use Rattle.rv_meaning.specs.Machine.{memory_size}
use Rattle.pli_typing.specs.TypedTree as Y
use Rattle.pli_meaning.specs.declared.outcome.End.TheVariants as E
use Rattle.pli_meaning.specs.Control as F
use Rattle.pli_meaning.specs.Control.{Label, is_among}
use Rattle.pli_meaning.specs.Evaluating as V
use Rattle.pli_meaning.specs.Executing as M
use Rattle.pli_meaning.specs.Executing.{run}
use Rattle.pli_meaning.specs.Making as K
use Rattle.pli_meaning.specs.Placing as P
use Rattle.pli_meaning.specs.Raising as R
use Rattle.pli_meaning.specs.StorageState.{first_state}
use Rattle.area_keeper.specs.KeeperLaws.{Keeps}
use Rattle.run_keeper.specs.RunKeeper.{run_keeper}
use Rattle.pli_coding.specs.Allocating.{act_code}
use Rattle.pli_coding.specs.Assembly.{CallTo, Mark, ProcedureEntry, ReturnPlace, size_of}
use Rattle.pli_coding.specs.Environments.{none_taken}
use Rattle.pli_coding.specs.Images.{first_frame, linked_code, raise_code}
use Rattle.pli_coding.specs.Linking.{links_of}
use Rattle.pli_coding.specs.Statements.{stmt_code, stmts_code}
use Rattle.activation_relation.specs.Layers.{services_of}
use Rattle.run_steps.specs.Items.{Linked}
use Rattle.run_steps.proofs.Jumps.{back_of, first_of, front_of, rest_of}
use Rattle.run_steps.proofs.Linking.{has_items, linked_length}
use Rattle.run_steps.specs.Reach.{Comes}
use Rattle.program_runs.specs.Calls.{block_at, body_index, left_over}
use Rattle.program_runs.specs.Procedures.{begin_of, end_of, procedure_code}
use Rattle.program_runs.specs.Programs.{IsWhole, Whole, main_of}
use Rattle.program_runs.specs.Starts.{first_family, image_parts, main_called, no_numbers, start_of, never_in}
use Rattle.program_runs.specs.Starts.{start_point, surroundings_of}
use Rattle.program_runs.specs.Statements.{Block, EachDoes, IsBegun}
use Rattle.program_runs.proofs.Programs.{program_runs}
use Rattle.program_runs.proofs.Rows.{is_datum, names_none, none_named}
use Rattle.activation_relation.specs.Layers.{Point}
use Rattle.std.proofs.Common.{None}
use Rattle.pli_meaning.specs.StorageState.{height_of}
use Rattle.pli_coding.specs.Assembly.{Code}
use Rattle.pli_coding.specs.Entries.{block_left, entered_without_texts, frame_begun, frame_ended}
use Rattle.pli_coding.specs.Environments.{Environment}
use Rattle.pli_coding.specs.Instructions.{move}
use Rattle.pli_coding.specs.Registers.{a0, frame_register}
use Rattle.pli_coding.specs.Statements.{begin_environment}
use Rattle.program_runs.specs.Statements.{Does, IsAmong, as_outer}
use Rattle.program_runs.proofs.Statements.{none_does}
use Rattle.function_runs.proofs.OuterVariables.{same_ancestor}
use Rattle.begin_runs.specs.BeginBlocks.{Inner, IsBegin, inner_block, list_index}
use Rattle.begin_runs.proofs.Begins.{begin_does}
use Rattle.begin_runs.proofs.InnerNumbers.{inner_over}
use Rattle.begin_runs.proofs.InnerVariables as B
use Rattle.std.proofs.Common.{◌≤◌, ◌∙◌}
use Rattle.program_runs.proofs.Calls as C'
use Rattle.begin_runs.specs.LeaveRows.{first_body, last_body, leave_body, leave_code, leave_coded, leave_entry}
use Rattle.begin_runs.specs.LeaveRows.{leave_environment, leave_first, leave_head, leave_image, leave_inner, leave_last}
use Rattle.begin_runs.specs.LeaveRows.{leave_main, leave_program, leave_return}
use Rattle.begin_runs.specs.ThroughReturns.{Through}
use Rattle.begin_runs.proofs.ThroughReturns.{through_does}
use Rattle.std.specs.Prelude.{nat_lt}
use Rattle.pli_meaning.specs.StorageState.{most_activations}
use Rattle.pli_coding.specs.Frames.{fixed_size}
use Rattle.activation_relation.specs.Frames.{lower_end, upper_top}

-- ---- its code

leave_linked : Linked (links_of leave_code) (linked_code leave_code) 0 leave_code
unfolding names_none is_datum
leave_linked =
    let n = linked_length (links_of leave_code) 0 leave_code in
    record {
      small' = omega (arith, n);
      inside = omega (arith, n);
      has = has_items (links_of leave_code) leave_code refl;
      named = λ d h. absurd (none_named d leave_code refl h);
    }

start_linked : Linked (links_of leave_code) (linked_code leave_code) 0 (start_of 0)
start_linked = front_of (start_of 0) (raise_code ++ leave_coded) leave_linked

raise_linked : Linked (links_of leave_code) (linked_code leave_code) (size_of (start_of 0)) raise_code
raise_linked = front_of raise_code leave_coded (back_of (start_of 0) (raise_code ++ leave_coded) leave_linked)

main_linked :
    Linked (links_of leave_code) (linked_code leave_code) leave_entry
    (procedure_code leave_environment leave_main)
main_linked =
    rest_of (Mark (ProcedureEntry 0)) (procedure_code leave_environment leave_main)
    (back_of raise_code leave_coded (back_of (start_of 0) (raise_code ++ leave_coded) leave_linked))

abbrev pub leave_start : ℕ
leave_start =
    leave_entry + size_of (begin_of leave_main) + size_of leave_main.variables + size_of (act_code 1)

abbrev pub leave_finish : ℕ
leave_finish = leave_start + size_of (stmts_code leave_environment none_taken leave_main.body)

body_linked :
    Linked (links_of leave_code) (linked_code leave_code) leave_start
    (stmts_code leave_environment none_taken leave_main.body)
body_linked =
    let one = act_code 1 in
    let body = stmts_code leave_environment none_taken leave_main.body in
    let tail = Mark (ReturnPlace 0) ∷ end_of leave_main in
    let rest = one ++ (body ++ tail) in
    front_of body tail
    (back_of one (body ++ tail)
    (back_of leave_main.variables rest (back_of (begin_of leave_main) (leave_main.variables ++ rest) main_linked)))

-- ---- its begin blocks

abbrev pub leave_whole : (input : List ℕ) → (acts : ℕ) → Whole
leave_whole input acts =
    record {
      image = leave_image input acts;
      program = leave_program;
      main = leave_main;
      others = [];
      environment = leave_environment;
      entry = leave_entry;
      end = leave_finish;
      made = λ q. q;
    }

abbrev leave_block : (input : List ℕ) → (acts : ℕ) → Block
leave_block input acts =
    block_at (surroundings_of (leave_image input acts)) (linked_code leave_code) (main_of (leave_whole input acts))
    (start_point (leave_image input acts)) no_numbers

-- the outer one, in as many blocks more as may be entered, and the one in it
abbrev outer_begin : (more : ℕ) → Inner
outer_begin more = leave_inner (leave_head 1 1 2) first_body more

abbrev last_begin : (more : ℕ) → Inner
last_begin more = leave_inner (leave_head 2 2 3) last_body more

abbrev outer_block' : (input : List ℕ) → (more : ℕ) → Point → (numbers : ℕ → ℕ) → Block
outer_block' input more p numbers =
    inner_block (leave_block input (suc more)) [] p numbers (outer_begin more) leave_start

first_linked :
    Linked (links_of leave_code) (linked_code leave_code) leave_start
    (stmt_code leave_environment none_taken leave_first)
first_linked = front_of (stmt_code leave_environment none_taken leave_first) [] body_linked

abbrev begins_of : Inner → Code
begins_of x =
    move a0 frame_register ∷ (frame_begun x.words x.head.level 0 None ++ entered_without_texts 1 x.head.line)

abbrev ends_of : Inner → Code
ends_of x = block_left 0 ++ frame_ended x.words

-- the list of a begin block, in the code of its statement
list_linked :
    (e : Environment) (x : Inner) (index : ℕ) →
    Linked (links_of leave_code) (linked_code leave_code) index
    (act_code x.head.line
    ++ (begins_of x ++ (stmts_code (begin_environment x.head e) none_taken x.body ++ ends_of x))) →
    Linked (links_of leave_code) (linked_code leave_code)
    (index + size_of (act_code x.head.line) + size_of (begins_of x))
    (stmts_code (begin_environment x.head e) none_taken x.body)
list_linked e x index l =
    let list' = stmts_code (begin_environment x.head e) none_taken x.body in
    front_of list' (ends_of x)
    (back_of (begins_of x) (list' ++ ends_of x)
    (back_of (act_code x.head.line) (begins_of x ++ (list' ++ ends_of x)) l))

abbrev first_environment : Environment
first_environment = begin_environment (leave_head 1 1 2) leave_environment

abbrev last_environment : Environment
last_environment = begin_environment (leave_head 2 2 3) first_environment

abbrev last_index : ℕ
last_index = leave_start + size_of (act_code 2) + size_of (begins_of (outer_begin 0))

last_linked :
    Linked (links_of leave_code) (linked_code leave_code) last_index
    (stmt_code first_environment none_taken leave_last)
last_linked =
    front_of (stmt_code first_environment none_taken leave_last) []
    (list_linked leave_environment (outer_begin 0) leave_start first_linked)

outer_begins :
    (input : List ℕ) (more : ℕ) → suc more + 1 < 2 ^ 64 → IsBegun (leave_block input (suc more)) →
    IsBegin (leave_block input (suc more)) (outer_begin more) leave_start more
outer_begins input more few b =
    record {
      act = record { line_fits = omega arith; acts = few };
      begun = b;
      statement = first_linked;
      kind = refl;
      words = refl;
      variables = refl;
      level = refl;
      few = omega arith;
      room = omega arith;
      shallow = refl;
      enter = refl;
      around = refl;
      enough = omega arith;
    }

-- its frame stands on the main procedure's
last_begins :
    (input : List ℕ) (more : ℕ) → suc (suc more) + 1 < 2 ^ 64 → (p : Point) (numbers : ℕ → ℕ) →
    IsAmong (leave_block input (suc (suc more))) numbers p →
    (leave_block input (suc (suc more))).first.state.world.acts < p.state.world.acts →
    IsBegun (outer_block' input (suc more) p numbers) →
    IsBegin (outer_block' input (suc more) p numbers) (last_begin more) last_index more
last_begins input more few p numbers o later b =
    let ls = o.later.layers in
    let parts = (surroundings_of (leave_image input (suc (suc more)))).parts in
    record {
      act = record { line_fits = omega arith; acts = few };
      begun = b;
      statement = last_linked;
      kind = refl;
      words = refl;
      variables = refl;
      level = refl;
      few = omega arith;
      room = subst
          (λ xs. upper_top parts xs + 0 + fixed_size 1 0 + 0 + fixed_size 2 0 ≤ lower_end parts xs) (sym ls)
          (omega arith);
      shallow = subst (λ xs. nat_lt (suc (length xs)) most_activations ≡ true) (sym o.later.activations) refl;
      enter = refl;
      around = refl;
      enough = omega (arith, later);
    }

abbrev leave_through : (input : List ℕ) → (more : ℕ) → Through
leave_through input more =
    record { behind = 1; outer = as_outer (leave_block input (suc (suc more))) []; rest = []; level = 0 }

abbrev last_block : (input : List ℕ) → (more : ℕ) → (p : Point) → (numbers : ℕ → ℕ) → (q : Point) →
    (others : ℕ → ℕ) → Block
last_block input more p numbers q others =
    inner_block (outer_block' input (suc more) p numbers) [] q others (last_begin more) last_index

last_each :
    (input : List ℕ) (more : ℕ) → suc (suc more) + 1 < 2 ^ 64 → IsBegun (leave_block input (suc (suc more))) →
    (p : Point) (numbers : ℕ → ℕ) → IsAmong (leave_block input (suc (suc more))) numbers p →
    (leave_block input (suc (suc more))).first.state.world.acts < p.state.world.acts →
    (b1 : IsBegun (outer_block' input (suc more) p numbers)) → (q : Point) (others : ℕ → ℕ) →
    IsAmong (outer_block' input (suc more) p numbers) others q → IsBegun (last_block input more p numbers q others) →
    EachDoes (last_block input more p numbers q others) [] last_body
    (list_index (outer_block' input (suc more) p numbers) q others (last_begin more) last_index) left_over
last_each input more few b p numbers o later b1 q others o1 b2 =
    let k = leave_block input (suc (suc more)) in
    let k1 = outer_block' input (suc more) p numbers in
    let made = B.none_made k (outer_begin (suc more)) leave_start p numbers refl refl (refl, refl) in
    let made1 = B.none_made k1 (last_begin more) last_index q others refl refl (refl, refl) in
    let over = inner_over k [] (outer_begin (suc more)) leave_start (suc more) (outer_begins input (suc more) few b)
    refl
    p numbers made b1 in
    let over1 = inner_over k1 [] (last_begin more) last_index more (last_begins input more few p numbers o later b1)
    refl q
    others made1 b2 in (
      through_does (last_block input more p numbers q others) [] (leave_through input more) 4
          (list_index k1 q others (last_begin more) last_index) left_over
          (record { line_fits = omega arith; acts = few })
          (record {
            begun = b2;
            there = refl;
            begins = (refl, (refl, tt));
            procedure = refl;
            function = refl;
            own = refl;
            inner = omega arith;
            few = omega arith;
            found = ap height_of (same_ancestor 0 over1 b1 o1 (omega arith))
                ∙ ap height_of (same_ancestor 0 over b o (omega arith));
            registers = omega arith;
            numbers = refl;
            owner = refl;
            end = refl;
            near = omega arith;
            enough = omega arith;
          })
          (front_of (stmt_code last_environment none_taken leave_return) []
          (list_linked first_environment (last_begin more) last_index last_linked)),
      tt,
    )

-- where no more acts are allowed there is no such point
never_does :
    (k : Block) (labels : List Label) (stmt : Y.Stmt) (index left' : ℕ) →
    k.call.surroundings.acts < k.first.state.world.acts → Does k labels stmt index left'
never_does k labels stmt index left' many p numbers c wanted f o paid there =
    let more = o.later.acts in
    let few = o.stands.allowed in
    absurd (omega (arith, many, more, few))

last_does :
    (input : List ℕ) (more : ℕ) → suc more + 1 < 2 ^ 64 → IsBegun (leave_block input (suc more)) → (p : Point)
    (numbers : ℕ → ℕ) → IsAmong (leave_block input (suc more)) numbers p →
    (leave_block input (suc more)).first.state.world.acts < p.state.world.acts →
    IsBegun (outer_block' input more p numbers) →
    Does (outer_block' input more p numbers) [] leave_last last_index left_over
last_does input zero few b p numbers o later b1 =
    never_does (outer_block' input zero p numbers) [] leave_last last_index left_over (omega (arith, later))
last_does input (suc more) few b p numbers o later b1 =
    begin_does (outer_block' input (suc more) p numbers) [] (last_begin more) last_index left_over more
    (last_begins input more few p numbers o later b1)
    (λ q others o1 later1. (
      B.none_made (outer_block' input (suc more) p numbers) (last_begin more) last_index q others refl refl
          (refl, refl),
      (λ label e. absurd (cc e), λ label e. absurd (cc e)),
    ))
    (λ q others o1 later1 b2. last_each input more few b p numbers o later b1 q others o1 b2)

first_does :
    (input : List ℕ) (acts : ℕ) → acts + 1 < 2 ^ 64 → IsBegun (leave_block input acts) →
    Does (leave_block input acts) [] leave_first leave_start left_over
first_does input zero few b = none_does (leave_block input zero) [] leave_first leave_start left_over b refl
first_does input (suc more) few b =
    begin_does (leave_block input (suc more)) [] (outer_begin more) leave_start left_over more
    (outer_begins input more few b)
    (λ p numbers o later. (
      B.none_made (leave_block input (suc more)) (outer_begin more) leave_start p numbers refl refl (refl, refl),
      (λ label e. absurd (cc e), λ label e. absurd (cc e)),
    ))
    (λ p numbers o later b1. (last_does input more few b p numbers o later b1, tt))

pub leave_each :
    (input : List ℕ) (acts : ℕ) → acts + 1 < 2 ^ 64 → IsBegun (leave_block input acts) →
    EachDoes (leave_block input acts) [] leave_body (body_index (main_of (leave_whole input acts))) left_over
leave_each input acts few b = (first_does input acts few b, tt)

-- ---- the whole

pub leave_is : (input first : List ℕ) (acts : ℕ) → acts + 1 < 2 ^ 64 → length first ≡ memory_size →
    IsWhole (leave_whole input acts) first
leave_is input first acts few bytes =
    let l = back_of (first_frame image_parts) (main_called 0) start_linked in
    record {
      start = record {
        linked = start_linked;
        differ = λ i j a b e. absurd (cc e);
        bytes = bytes;
        told = λ n v e. absurd (cc e);
      };
      made = C'.none_made (surroundings_of (leave_image input acts)) (linked_code leave_code)
          (main_of (leave_whole input acts)) (start_point (leave_image input acts)) no_numbers refl refl (refl, refl);
      callee = record {
        coded = record { level = omega arith; line = omega arith; saved = omega arith; back = omega arith };
        calls = first_of (CallTo (ProcedureEntry 0)) _ (rest_of _ _ (rest_of _ _ (rest_of _ _ l)));
        place = refl;
        stands = main_linked;
        end = refl;
        kind = refl;
        labels = (λ label e. absurd (cc e), λ label e. absurd (cc e));
        acts = few;
      };
      room = record { room = omega arith; shallow = refl; parent = tt; idle = refl };
      level = refl;
      procedures = refl;
      statics = refl;
    }

pub leave_runs :
    Keeps run_keeper → (input first : List ℕ) (acts : ℕ) → acts + 1 < 2 ^ 64 → length first ≡ memory_size →
    Comes (linked_code leave_code) 0 (first_family first (services_of (start_point (leave_image input acts))))
    (services_of (start_point (leave_image input acts))) (never_in (leave_image input acts))
    (run leave_program (suc acts) acts (first_state input))
leave_runs keeps input first acts few bytes =
    program_runs keeps (leave_whole input acts) first (leave_is input first acts few bytes)
    (λ b. leave_each input acts few b)

-- ---- what the program comes to

unfoldable flows : Unit {0}
unfolding F.give F.◌>>=◌ F.◌>>◌ F.looked F.stored F.act F.finish F.returns F.jumps F.choose F.given F.list_from
    F.leaving
flows = tt

unfoldable values : Unit {0}
unfolding V.number V.designated V.located V.numbers V.variable_designated V.part_designated V.stored_value R.or_error
    R.demanded R.value_of R.raised R.unit_run R.error R.error_unit_run P.element_stored M.assigned
values = tt

unfoldable makings : Unit {0}
unfolding K.variables_made K.automatic_made K.extents K.variable_made K.parameters_bound
makings = tt

unfoldable statements : Unit {0}
unfolding M.statement M.statements M.list M.list_with M.block_variables_made M.entry_act M.block_list M.block_body
statements = tt

pub leave_ends :
    (input : List ℕ) →
    M.meaning leave_program input 5 ≡ Some (record { acts = 5; output = []; raised = []; end = E.Finished })
unfolding M.meaning M.run M.entered M.block_run flows values makings statements
leave_ends input = refl
