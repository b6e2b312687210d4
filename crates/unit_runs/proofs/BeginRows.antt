-- The worked row: all that is premised of the program is computed.
use Rattle.std.proofs.Common.{◌≡◌, ℕ, zero, suc, ◌+◌, ◌*◌, ◌^◌, ◌<◌, ◌≤◌, List, [], ◌∷◌, ◌++◌, length, map}
use Rattle.std.proofs.Common.{Some, inl, inr, true, refl, sym, ap, ◌∙◌, subst, arith}
use Rattle.std.specs.Prelude.{nat_lt}
use Rattle.rv_meaning.specs.declared.instr.Instr.TheVariants as I
use Rattle.rv_meaning.specs.Machine.{memory_size}
use Rattle.pli_language.specs.declared.condition.Condition.TheVariants as C
use Rattle.pli_typing.specs.TypedTree as Y
use Rattle.pli_meaning.specs.declared.outcome.End.TheVariants as E
use Rattle.pli_meaning.specs.Control as F
use Rattle.pli_meaning.specs.Evaluating as V
use Rattle.pli_meaning.specs.Executing as M
use Rattle.pli_meaning.specs.Executing.{entered, run}
use Rattle.pli_meaning.specs.Making as K
use Rattle.pli_meaning.specs.Placing as P
use Rattle.pli_meaning.specs.Raising as R
use Rattle.pli_meaning.specs.StorageState.{first_state, force, most_activations}
use Rattle.area_keeper.specs.KeeperLaws.{Keeps}
use Rattle.run_keeper.specs.RunKeeper.{run_keeper}
use Rattle.pli_serving.specs.Templates.{template_of}
use Rattle.pli_coding.specs.Allocating.{act_code}
use Rattle.pli_coding.specs.Assembly.{CallTo, Code, JumpAhead, Mark, OffsetAhead, Plain, ProcedureEntry, ReturnPlace}
use Rattle.pli_coding.specs.Assembly.{size_of}
use Rattle.pli_coding.specs.Entries.{block_left, frame_ended}
use Rattle.pli_coding.specs.Environments.{Environment, none_taken}
use Rattle.pli_coding.specs.Images.{first_frame, linked_code, raise_code}
use Rattle.pli_coding.specs.Frames.{fixed_size, temporary_bytes}
use Rattle.pli_coding.specs.Instructions.{small}
use Rattle.pli_coding.specs.Linking.{links_of}
use Rattle.pli_coding.specs.Registers.{a1, a7}
use Rattle.pli_coding.specs.SignatureTable.{table_of}
use Rattle.pli_coding.specs.Statements.{begin_environment, condition_given, stmt_code, stmts_code}
use Rattle.pli_coding.specs.Statements.{unit_environment, unit_held, unit_left, unit_mark, unit_variables, unit_words}
use Rattle.storage_relation.specs.Served.{AllDiffer}
use Rattle.activation_relation.specs.Frames.{lower_end, upper_top}
use Rattle.activation_relation.specs.Layers.{Point, services_of}
use Rattle.activation_relation.specs.ServiceLaws.{IsSystem}
use Rattle.run_steps.specs.Items.{Linked}
use Rattle.run_steps.proofs.Jumps.{back_of, first_of, front_of, rest_of}
use Rattle.run_steps.proofs.Linking.{has_items, linked_length}
use Rattle.run_steps.specs.Reach.{Comes}
use Rattle.program_runs.specs.Calls.{block_at, body_index, left_over}
use Rattle.program_runs.specs.Procedures.{begin_of, end_of, procedure_code}
use Rattle.program_runs.specs.Programs.{IsWhole, Whole, main_of}
use Rattle.program_runs.specs.Starts.{first_family, image_parts, main_called, no_numbers, start_of, start_point}
use Rattle.program_runs.specs.Starts.{never_in}
use Rattle.program_runs.specs.Starts.{surroundings_of}
use Rattle.program_runs.specs.Statements.{Block, Does, EachDoes, IsAmong, IsBegun, own_height}
use Rattle.program_runs.specs.Variables as D
use Rattle.program_runs.specs.Variables.{IsOnly, newest_made}
use Rattle.program_runs.specs.VariableRows as W
use Rattle.program_runs.proofs.Programs.{program_runs}
use Rattle.program_runs.proofs.Rows.{is_datum, names_none, none_named}
use Rattle.program_runs.proofs.Statements.{none_does}
use Rattle.program_runs.proofs.VariableProcedures.{one_made}
use Rattle.program_runs.proofs.VariableRows.{differs_alone, number_valued}
use Rattle.expression_runs.specs.Assignments.{setting_of}
use Rattle.expression_runs.specs.Raises.{IsUnraised, Routines}
use Rattle.expression_runs.specs.Values.{OverflowComes, Setting}
use Rattle.expression_runs.specs.Variables.{IsNumber, whole}
use Rattle.expression_runs.proofs.Assignments.{assign_does}
use Rattle.expression_runs.proofs.Operands.{constant_does}
use Rattle.expression_runs.proofs.Raises.{overflow_ends}
use Rattle.expression_runs.proofs.Sums.{difference_does, sum_does}
use Rattle.expression_runs.proofs.VariablePoints.{variable_does}
use Rattle.begin_runs.specs.BeginBlocks.{IsBegin, inner_block}
use Rattle.begin_runs.proofs.InnerNumbers.{inner_number}
use Rattle.begin_runs.proofs.InnerVariables as B
use Rattle.unit_runs.specs.BeginRows.{begin_index, host_begin, host_body, host_code, host_coded, host_end, host_entry}
use Rattle.unit_runs.specs.BeginRows.{host_environment, host_final, host_image, host_inner, host_last, host_less}
use Rattle.unit_runs.specs.BeginRows.{host_main, host_one, host_program, host_rest, host_spot, host_start, host_twice}
use Rattle.unit_runs.specs.BeginRows.{host_unit, inside_begun, inside_body, inside_end, inside_head, inside_start}
use Rattle.unit_runs.specs.BeginRows.{inside_stmt, set_stmt}
use Rattle.unit_runs.specs.Changing.{AllDo, IsOwnRaise, IsPast, Past, StandsIn, after}
use Rattle.unit_runs.specs.Establishing.{IsOn, OnUnit, on_of, unit_index, unit_of}
use Rattle.unit_runs.specs.Raised as S
use Rattle.unit_runs.specs.Raised.{IsRaised, Standing, UnitDoes, list_index, standing_code, unit_block}
use Rattle.unit_runs.proofs.Changing.{begun_after}
use Rattle.unit_runs.proofs.InnerLists.{all_list, changing_begin}
use Rattle.unit_runs.proofs.LoopRows.{unit_same}
use Rattle.unit_runs.proofs.OwnRaises.{own_raised, past_numbers}
use Rattle.unit_runs.proofs.Rows.{only_place}
use Rattle.unit_runs.proofs.UnitRuns.{overflow_returns}
use Rattle.unit_runs.proofs.UnitVariables.{none_made, outer_number}

-- ---- its code

host_linked : Linked (links_of host_code) (linked_code host_code) 0 host_code
unfolding names_none is_datum
host_linked =
    let n = linked_length (links_of host_code) 0 host_code in
    record {
      small' = omega (arith, n);
      inside = omega (arith, n);
      has = has_items (links_of host_code) host_code refl;
      named = λ d h. absurd (none_named d host_code refl h);
    }

start_linked : Linked (links_of host_code) (linked_code host_code) 0 (start_of 0)
start_linked = front_of (start_of 0) (raise_code ++ host_coded) host_linked

raise_linked : Linked (links_of host_code) (linked_code host_code) (size_of (start_of 0)) raise_code
raise_linked = front_of raise_code host_coded (back_of (start_of 0) (raise_code ++ host_coded) host_linked)

main_linked :
    Linked (links_of host_code) (linked_code host_code) host_entry (procedure_code host_environment host_main)
main_linked =
    rest_of (Mark (ProcedureEntry 0)) (procedure_code host_environment host_main)
    (back_of raise_code host_coded (back_of (start_of 0) (raise_code ++ host_coded) host_linked))

abbrev pub host_finish : ℕ
host_finish = host_start + size_of (stmts_code host_environment none_taken host_body)

body_linked :
    Linked (links_of host_code) (linked_code host_code) host_start
    (stmts_code host_environment none_taken host_body)
body_linked =
    let one = act_code 1 in
    let body = stmts_code host_environment none_taken host_body in
    let tail = Mark (ReturnPlace 0) ∷ end_of host_main in
    let rest = one ++ (body ++ tail) in
    front_of body tail
    (back_of one (body ++ tail)
    (back_of host_main.variables rest (back_of (begin_of host_main) (host_main.variables ++ rest) main_linked)))

rest_linked :
    Linked (links_of host_code) (linked_code host_code) begin_index (stmts_code host_environment none_taken host_rest)
rest_linked =
    back_of (stmt_code host_environment none_taken (set_stmt 3)) (stmts_code host_environment none_taken host_rest)
    body_linked

begin_linked :
    Linked (links_of host_code) (linked_code host_code) begin_index
    (stmt_code host_environment none_taken host_begin)
begin_linked =
    front_of (stmt_code host_environment none_taken host_begin) (stmts_code host_environment none_taken host_end)
    rest_linked

abbrev set_index : ℕ
set_index = begin_index + size_of (stmt_code host_environment none_taken host_begin)

abbrev last_index : ℕ
last_index = set_index + size_of (stmt_code host_environment none_taken (set_stmt 8))

end_linked :
    Linked (links_of host_code) (linked_code host_code) set_index (stmts_code host_environment none_taken host_end)
end_linked =
    back_of (stmt_code host_environment none_taken host_begin) (stmts_code host_environment none_taken host_end)
    rest_linked

final_linked :
    Linked (links_of host_code) (linked_code host_code) last_index
    (stmts_code host_environment none_taken host_final)
final_linked =
    back_of (stmt_code host_environment none_taken (set_stmt 8)) (stmts_code host_environment none_taken host_final)
    end_linked

-- ---- the list of the begin block

abbrev inside_environment : Environment
inside_environment = begin_environment inside_head host_environment

abbrev inside_left : Code
inside_left = block_left 0 ++ frame_ended (host_inner 0).words

inside_linked :
    Linked (links_of host_code) (linked_code host_code) inside_start
    (stmts_code inside_environment none_taken inside_body)
inside_linked =
    let list' = stmts_code inside_environment none_taken inside_body in
    front_of list' inside_left
    (back_of inside_begun (list' ++ inside_left)
    (back_of (act_code 4) (inside_begun ++ (list' ++ inside_left)) begin_linked))

on_linked :
    Linked (links_of host_code) (linked_code host_code) inside_start
    (stmt_code inside_environment none_taken (on_of host_unit))
on_linked =
    front_of (stmt_code inside_environment none_taken (on_of host_unit))
    (stmts_code inside_environment none_taken inside_end) inside_linked

abbrev stmt_index : ℕ
stmt_index = inside_start + size_of (stmt_code inside_environment none_taken (on_of host_unit))

stmt_linked :
    Linked (links_of host_code) (linked_code host_code) stmt_index
    (stmt_code inside_environment none_taken inside_stmt)
stmt_linked =
    front_of (stmt_code inside_environment none_taken inside_stmt) []
    (back_of (stmt_code inside_environment none_taken (on_of host_unit))
    (stmts_code inside_environment none_taken inside_end) inside_linked)

-- ---- its variable

one_differs : AllDiffer (map template_of (table_of host_program))
one_differs = differs_alone (map template_of (table_of host_program)) _ refl refl

abbrev pub host_whole : (input : List ℕ) → (acts : ℕ) → Whole
host_whole input acts =
    record {
      image = host_image input acts;
      program = host_program;
      main = host_main;
      others = [];
      environment = host_environment;
      entry = host_entry;
      end = host_finish;
      made = newest_made image_parts W.number_declared;
    }

host_only :
    (input : List ℕ) (acts : ℕ) →
    IsOnly (surroundings_of (host_image input acts)) (main_of (host_whole input acts))
    (start_point (host_image input acts)) no_numbers W.number_declared
host_only input acts =
    let n = linked_length (links_of host_code) 0 host_code in
    record {
      kind = refl;
      variables = refl;
      class = refl;
      evaluations = refl;
      first = refl;
      code = refl;
      made = refl;
      table = refl;
      parts = refl;
      few = omega arith;
      declared = record {
        newest = refl;
        here = refl;
        holds = omega arith;
        size = omega arith;
        fits = omega arith;
        even = refl;
        low = omega (arith, n);
        shape = refl;
        number = omega arith;
        initial = refl;
        none = refl;
        plain = refl;
        fixed = refl;
        values = (tt, tt);
        valued = number_valued;
        limit = refl;
      };
    }

abbrev pub host_block : (input : List ℕ) → (acts : ℕ) → Block
host_block input acts =
    block_at (surroundings_of (host_image input acts)) (linked_code host_code) (main_of (host_whole input acts))
    (start_point (host_image input acts)) no_numbers

host_number : (input : List ℕ) (acts : ℕ) → IsNumber (host_block input acts) host_spot
host_number input acts =
    record {
      initial = [];
      declared = refl;
      serial = 1;
      binding = refl;
      living = K.living_at 1 1 (D.generation_for W.number_declared);
      lives = refl;
      shape = refl;
      base = _;
      frame = inl (refl, refl);
      at = refl;
      low = omega arith;
      inside = omega arith;
    }

-- ---- the begin block

host_begins :
    (input : List ℕ) (more : ℕ) → suc more + 1 < 2 ^ 64 → IsBegun (host_block input (suc more)) →
    IsBegin (host_block input (suc more)) (host_inner more) begin_index more
host_begins input more few b =
    record {
      act = record { line_fits = omega arith; acts = few };
      begun = b;
      statement = begin_linked;
      kind = refl;
      words = refl;
      variables = refl;
      level = refl;
      few = omega arith;
      room = omega arith;
      shallow = refl;
      enter = refl;
      around = refl;
      enough = omega arith;
    }

abbrev inside_block : (input : List ℕ) → (more : ℕ) → Point → (numbers : ℕ → ℕ) → Block
inside_block input more p numbers =
    inner_block (host_block input (suc more)) [] p numbers (host_inner more) begin_index

inside_number :
    (input : List ℕ) (more : ℕ) (p : Point) (numbers : ℕ → ℕ) → suc more + 1 < 2 ^ 64 →
    IsBegun (host_block input (suc more)) → IsAmong (host_block input (suc more)) numbers p →
    IsBegun (inside_block input more p numbers) → IsNumber (inside_block input more p numbers) host_spot
inside_number input more p numbers few b o b' =
    let k = host_block input (suc more) in
    let x = host_inner more in
    inner_number k [] x begin_index more host_spot (host_begins input more few b) refl (omega arith)
    (host_number input (suc more)) p numbers o (B.none_made k x begin_index p numbers refl refl (refl, refl)) b'

-- ---- with the units that it has by then

abbrev past_block : (input : List ℕ) → (more : ℕ) → Point → (numbers : ℕ → ℕ) → Past → Block
past_block input more p numbers past = after (inside_block input more p numbers) past

abbrev Known : (input : List ℕ) → (more : ℕ) → Point → (numbers : ℕ → ℕ) → Past → Type 0
Known input more p numbers past = IsPast (inside_block input more p numbers) inside_body inside_start past

past_begun :
    (input : List ℕ) (more : ℕ) (p : Point) (numbers : ℕ → ℕ) (past : Past) →
    IsBegun (inside_block input more p numbers) → Known input more p numbers past →
    IsBegun (past_block input more p numbers past)
past_begun input more p numbers past b known =
    begun_after (inside_block input more p numbers) inside_body inside_start past b known

on_is :
    (input : List ℕ) (more : ℕ) (p : Point) (numbers : ℕ → ℕ) (past : Past) → suc more + 1 < 2 ^ 64 →
    IsBegun (inside_block input more p numbers) → Known input more p numbers past →
    IsOn (past_block input more p numbers past) host_unit inside_start
on_is input more p numbers past few b known =
    record {
      act = record { line_fits = omega arith; acts = few };
      begun = past_begun input more p numbers past b known;
      statement = on_linked;
      place = (0, refl);
    }

-- ---- its unit

abbrev pub host_standing : (more : ℕ) → Standing
host_standing more =
    record {
      unit = host_unit;
      words = unit_words inside_environment host_unit.head Y.UnitBlock host_unit.body;
      saved = unit_held inside_environment host_unit.head Y.UnitBlock host_unit.body;
      variables = unit_variables (unit_environment host_unit.head inside_environment) host_unit.head Y.UnitBlock;
      entry = unit_index host_unit inside_start;
      environment = unit_environment host_unit.head inside_environment;
      around = record { program = host_program; enter = entered host_program more; turns = suc more; line = 0 };
      made = λ q. q;
    }

abbrev routines : Routines (links_of host_code) (linked_code host_code)
routines = record { at = size_of (start_of 0); linked = raise_linked; condition = refl; end = omega arith }

unit_linked :
    (more : ℕ) →
    Linked (links_of host_code) (linked_code host_code) (unit_index host_unit inside_start)
    (standing_code (host_standing more))
unit_linked more =
    let over = OffsetAhead a1 5 ∷ condition_given C.FixedOverflow
    ∷ small a7 28 ∷ Plain I.Ecall ∷ JumpAhead (size_of (standing_code (host_standing more))) ∷ [] in
    back_of over (standing_code (host_standing more))
    (back_of (act_code 5) (over ++ standing_code (host_standing more)) on_linked)

abbrev inside_setting : (input : List ℕ) → (more : ℕ) → Point → (numbers : ℕ → ℕ) → Past → Setting
inside_setting input more p numbers past = setting_of (past_block input (suc more) p numbers past) [] 7 200

abbrev with_on : Past → Past
with_on past = (host_unit, inside_start) ∷ past

own_raise :
    (input : List ℕ) (more : ℕ) (p : Point) (numbers : ℕ → ℕ) → suc (suc more) + 1 < 2 ^ 64 →
    IsAmong (host_block input (suc (suc more))) numbers p →
    (host_block input (suc (suc more))).first.state.world.acts < p.state.world.acts →
    IsOwnRaise (inside_block input (suc more) p numbers) (host_standing more) 200 more
own_raise input more p numbers few o later =
    let as' = o.later.activations in
    let ls = o.later.layers in
    let parts = image_parts in
    let x = host_standing more in
    record {
      routines = routines;
      room = subst (λ φs. upper_top parts φs + temporary_bytes (host_inner more).words + fixed_size 1 0
          + temporary_bytes x.words + fixed_size 2 0 ≤ lower_end parts φs) (sym ls) (omega arith);
      shallow = subst (λ xs. nat_lt (suc (length xs)) most_activations ≡ true) (sym as') refl;
      only = λ at stands. only_place (unit_of host_unit) (4 * unit_index host_unit inside_start) at stands;
      some = omega arith;
      stands = unit_linked more;
      labels = (λ label e. absurd (cc e), λ label e. absurd (cc e));
      kind = inr refl;
      level = refl;
      few = omega arith;
      line = omega arith;
      saved = omega arith;
      acts = few;
      enter = refl;
      around = refl;
      enough = omega (arith, later);
      paid = omega arith;
    }

unit_each :
    (input : List ℕ) (more : ℕ) (p : Point) (numbers : ℕ → ℕ) (past : Past) → suc (suc more) + 1 < 2 ^ 64 →
    IsNumber (inside_block input (suc more) p numbers) host_spot →
    (h : IsRaised (inside_setting input more p numbers (with_on past)) (host_standing more) more) →
    h.by.height ≡ own_height (inside_block input (suc more) p numbers) →
    UnitDoes (inside_setting input more p numbers (with_on past)) (host_standing more) more h
unit_each input more p numbers past few number h own r is =
    let k = inside_setting input more p numbers (with_on past) in
    let i = inside_block input (suc more) p numbers in
    let x = host_standing more in
    let u = unit_block k x r in
    let n = linked_length (links_of host_code) 0 host_code in
    let made = none_made k x r (record { kind = inr (refl, refl); code = refl; made = refl }) in (
      made,
      λ b'. (
        assign_does u [] host_spot (Y.NumberConstant 1) 6 (list_index x) left_over 0 100
            (record {
              act = record { line_fits = omega arith; acts = few };
              begun = b';
              number = outer_number k x more h r host_spot
                  (record { own = own; level = refl; inner = refl; program = refl; parts = refl }) is made b'
                  (omega arith) (past_numbers i (with_on past) host_spot number);
              registers = omega arith;
              held = omega arith;
              statement = front_of (stmt_code x.environment none_taken host_one) []
                  (front_of (S.list_code x) (unit_mark host_unit.head Y.UnitBlock ++ unit_left x.words x.saved)
                  (back_of (act_code 5) _ (back_of x.variables _ (back_of (S.begin_of x) _ (unit_linked more)))));
              paid = omega (arith, n);
            })
            (constant_does (setting_of u [] 6 100) 1 (omega arith)),
        tt,
      ),
    )

-- ---- the sum and the difference in it, with the unit in force or without one

one_on :
    (input : List ℕ) (more : ℕ) (p : Point) (numbers : ℕ → ℕ) (e : OnUnit × ℕ) →
    StandsIn (inside_block input more p numbers) inside_body inside_start e → e ≡ (host_unit, inside_start)
one_on input more p numbers e (inl here) =
    ap (λ x. (x, e.1)) (sym (unit_same host_unit e.0 here.0)) ∙ ap (λ n. (host_unit, n)) here.1
one_on input more p numbers e (inr (inl here)) = absurd (cc here.0)
one_on input more p numbers e (inr (inr none)) = absurd none

inside_by :
    (input : List ℕ) (more : ℕ) (p : Point) (numbers : ℕ → ℕ) (past : Past) → suc (suc more) + 1 < 2 ^ 64 →
    IsNumber (inside_block input (suc more) p numbers) host_spot →
    IsBegun (inside_block input (suc more) p numbers) → Known input (suc more) p numbers past →
    OverflowComes (inside_setting input more p numbers past) →
    Does (past_block input (suc more) p numbers past) [] inside_stmt stmt_index left_over
inside_by input more p numbers past few number b known over =
    let k = past_block input (suc more) p numbers past in
    let s = inside_setting input more p numbers past in
    let n = linked_length (links_of host_code) 0 host_code in
    let b' = past_begun input (suc more) p numbers past b known in
    let is = past_numbers (inside_block input (suc more) p numbers) past host_spot number in
    let operand = variable_does s host_spot b' is in
    assign_does k [] host_spot host_less 7 stmt_index left_over 1 200
    (record {
      act = record { line_fits = omega arith; acts = few };
      begun = b';
      number = is;
      registers = omega arith;
      held = omega arith;
      statement = stmt_linked;
      paid = omega (arith, n);
    })
    (difference_does s host_twice (Y.NumberIn (whole host_spot)) 1 0 over
    (sum_does s (Y.NumberIn (whole host_spot)) (Y.NumberIn (whole host_spot)) 0 0 over operand operand) operand)

-- no unit is in force in the block around
unraised :
    (input : List ℕ) (more : ℕ) (p : Point) (numbers : ℕ → ℕ) → suc (suc more) + 1 < 2 ^ 64 →
    IsAmong (host_block input (suc (suc more))) numbers p → IsUnraised (inside_setting input more p numbers [])
unraised input more p numbers few o =
    record {
      routines = routines;
      overflow = subst (λ xs. IsSystem (force xs C.FixedOverflow)) (sym o.later.activations) tt;
      error = subst (λ xs. IsSystem (force xs C.Error)) (sym o.later.activations) tt;
      acts = few;
      most = omega arith;
    }

inside_with :
    (input : List ℕ) (more : ℕ) (p : Point) (numbers : ℕ → ℕ) (past : Past) → suc (suc more) + 1 < 2 ^ 64 →
    IsNumber (inside_block input (suc more) p numbers) host_spot →
    IsOwnRaise (inside_block input (suc more) p numbers) (host_standing more) 200 more →
    IsBegun (inside_block input (suc more) p numbers) → Known input (suc more) p numbers (with_on past) →
    Does (past_block input (suc more) p numbers (with_on past)) [] inside_stmt stmt_index left_over
inside_with input more p numbers past few number own b known =
    let r = own_raised (inside_block input (suc more) p numbers) inside_body inside_start [] (host_standing more)
    inside_start 7 200 more past b known own in
    inside_by input more p numbers (with_on past) few number b known
    (overflow_returns (inside_setting input more p numbers (with_on past)) (host_standing more) more r.0
    (unit_each input more p numbers past few number r.0 r.1) refl)

inside_does :
    (input : List ℕ) (more : ℕ) (p : Point) (numbers : ℕ → ℕ) (past : Past) → suc (suc more) + 1 < 2 ^ 64 →
    IsAmong (host_block input (suc (suc more))) numbers p →
    IsNumber (inside_block input (suc more) p numbers) host_spot →
    IsOwnRaise (inside_block input (suc more) p numbers) (host_standing more) 200 more →
    IsBegun (inside_block input (suc more) p numbers) → Known input (suc more) p numbers past →
    Does (past_block input (suc more) p numbers past) [] inside_stmt stmt_index left_over
inside_does input more p numbers [] few o number own b known =
    inside_by input more p numbers [] few number b known
    (overflow_ends (inside_setting input more p numbers []) (unraised input more p numbers few o))
inside_does input more p numbers (e ∷ past) few o number own b known =
    subst (λ x. Known input (suc more) p numbers (x ∷ past) →
    Does (past_block input (suc more) p numbers (x ∷ past)) [] inside_stmt stmt_index left_over)
    (sym (one_on input (suc more) p numbers e known.1)) (inside_with input more p numbers past few number own b) known

-- where no second act is allowed there is no such point
inside_all :
    (input : List ℕ) (more : ℕ) (p : Point) (numbers : ℕ → ℕ) → suc more + 1 < 2 ^ 64 →
    IsBegun (host_block input (suc more)) → IsAmong (host_block input (suc more)) numbers p →
    (host_block input (suc more)).first.state.world.acts < p.state.world.acts →
    IsBegun (inside_block input more p numbers) →
    AllDo (inside_block input more p numbers) inside_body inside_start inside_body inside_start left_over
inside_all input zero p numbers few b o later b' =
    let allowed = o.stands.allowed in
    absurd (omega (arith, allowed, later))
inside_all input (suc more) p numbers few b o later b' =
    let number = inside_number input (suc more) p numbers few b o b' in
    let own = own_raise input more p numbers few o later in (
      inl (host_unit, refl, λ past known. on_is input (suc more) p numbers past few b' known),
      (inr (λ past known. inside_does input more p numbers past few o number own b' known), tt),
    )

-- ---- the statements of the main procedure

begin_by :
    (input : List ℕ) (acts : ℕ) → acts + 1 < 2 ^ 64 → IsBegun (host_block input acts) →
    Does (host_block input acts) [] host_begin begin_index left_over
begin_by input zero few b = none_does (host_block input zero) [] host_begin begin_index left_over b refl
begin_by input (suc more) few b =
    changing_begin (host_block input (suc more)) [] (host_inner more) begin_index left_over more
    (host_begins input more few b)
    (λ p numbers o later. (
      B.none_made (host_block input (suc more)) (host_inner more) begin_index p numbers refl refl (refl, refl),
      (λ label e. absurd (cc e), (λ label e. absurd (cc e), λ label e. absurd (cc e))),
    ))
    (λ p numbers o later z.
    all_list (inside_block input more p numbers) inside_body inside_start left_over z
    (λ label e. absurd (cc e), (λ label e. absurd (cc e), λ label e. absurd (cc e)))
    (inside_all input more p numbers few b o later z.begun))

set_does :
    (input : List ℕ) (acts line index : ℕ) → acts + 1 < 2 ^ 64 → line < 2 ^ 31 → IsBegun (host_block input acts) →
    Linked (links_of host_code) (linked_code host_code) index
    (stmt_code host_environment none_taken (set_stmt line)) →
    Does (host_block input acts) [] (set_stmt line) index left_over
set_does input acts line index few fits b l =
    let k = host_block input acts in
    let n = linked_length (links_of host_code) 0 host_code in
    assign_does k [] host_spot (Y.NumberConstant 2147483647) line index left_over 0 100
    (record {
      act = record { line_fits = fits; acts = few };
      begun = b;
      number = host_number input acts;
      registers = omega arith;
      held = omega arith;
      statement = l;
      paid = omega (arith, n);
    })
    (constant_does (setting_of k [] line 100) 2147483647 (omega arith))

last_does :
    (input : List ℕ) (acts : ℕ) → acts + 1 < 2 ^ 64 → IsBegun (host_block input acts) →
    Does (host_block input acts) [] host_last last_index left_over
last_does input acts few b =
    let k = host_block input acts in
    let s = setting_of k [] 9 100 in
    let n = linked_length (links_of host_code) 0 host_code in
    let number = host_number input acts in
    let operand = variable_does s host_spot b number in
    assign_does k [] host_spot host_twice 9 last_index left_over 1 100
    (record {
      act = record { line_fits = omega arith; acts = few };
      begun = b;
      number = number;
      registers = omega arith;
      held = omega arith;
      statement = front_of (stmt_code host_environment none_taken host_last) [] final_linked;
      paid = omega (arith, n);
    })
    (sum_does s (Y.NumberIn (whole host_spot)) (Y.NumberIn (whole host_spot)) 0 0
    (overflow_ends s
    (record { routines = routines; overflow = tt; error = tt; acts = few; most = omega arith })) operand operand)

pub host_each :
    (input : List ℕ) (acts : ℕ) → acts + 1 < 2 ^ 64 → IsBegun (host_block input acts) →
    EachDoes (host_block input acts) [] host_body (body_index (main_of (host_whole input acts))) left_over
host_each input acts few b = (
  set_does input acts 3 host_start few (omega arith) b
      (front_of (stmt_code host_environment none_taken (set_stmt 3))
      (stmts_code host_environment none_taken host_rest) body_linked),
  (
    begin_by input acts few b,
    (
      set_does input acts 8 set_index few (omega arith) b
          (front_of (stmt_code host_environment none_taken (set_stmt 8))
          (stmts_code host_environment none_taken host_final) end_linked),
      (last_does input acts few b, tt),
    ),
  ),
)

-- ---- the whole

pub host_is : (input first : List ℕ) (acts : ℕ) → acts + 1 < 2 ^ 64 → length first ≡ memory_size →
    IsWhole (host_whole input acts) first
host_is input first acts few bytes =
    let l = back_of (first_frame image_parts) (main_called 0) start_linked in
    record {
      start = record { linked = start_linked; differ = one_differs; bytes = bytes; told = λ n v e. absurd (cc e) };
      made = one_made (surroundings_of (host_image input acts)) (linked_code host_code)
          (main_of (host_whole input acts)) (start_point (host_image input acts)) no_numbers W.number_declared
          (host_only input acts);
      callee = record {
        coded = record { level = omega arith; line = omega arith; saved = omega arith; back = omega arith };
        calls = first_of (CallTo (ProcedureEntry 0)) _ (rest_of _ _ (rest_of _ _ (rest_of _ _ l)));
        place = refl;
        stands = main_linked;
        end = refl;
        kind = refl;
        labels = (
          λ label e. absurd (cc e),
          (
            λ label e. absurd (cc e),
            (λ label e. absurd (cc e), (λ label e. absurd (cc e), λ label e. absurd (cc e))),
          ),
        );
        acts = few;
      };
      room = record { room = omega arith; shallow = refl; parent = tt; idle = refl };
      level = refl;
      procedures = refl;
      statics = refl;
    }

pub host_runs :
    Keeps run_keeper → (input first : List ℕ) (acts : ℕ) → acts + 1 < 2 ^ 64 → length first ≡ memory_size →
    Comes (linked_code host_code) 0 (first_family first (services_of (start_point (host_image input acts))))
    (services_of (start_point (host_image input acts))) (never_in (host_image input acts))
    (run host_program (suc acts) acts (first_state input))
host_runs keeps input first acts few bytes =
    program_runs keeps (host_whole input acts) first (host_is input first acts few bytes)
    (λ b. host_each input acts few b)

-- ---- what the program comes to

unfoldable flows : Unit {0}
unfolding F.give F.◌>>=◌ F.◌>>◌ F.looked F.stored F.act F.finish F.returns F.jumps F.choose F.given F.list_from
    F.leaving
flows = tt

unfoldable values : Unit {0}
unfolding V.number V.designated V.located V.numbers V.variable_designated V.part_designated V.stored_value R.or_error
    R.demanded R.value_of R.raised R.unit_run R.error R.error_unit_run P.element_stored M.assigned
values = tt

unfoldable makings : Unit {0}
unfolding K.variables_made K.automatic_made K.extents K.variable_made K.parameters_bound
makings = tt

unfoldable statements : Unit {0}
unfolding M.statement M.statements M.list M.list_with M.block_variables_made M.entry_act M.block_list M.block_body
    M.established_by
statements = tt

pub host_ends :
    (input : List ℕ) →
    M.meaning host_program input 13
    ≡ Some (record {
      acts = 13;
      output = [];
      raised = (C.FixedOverflow, 20) ∷ (C.FixedOverflow, 20) ∷ (C.Error, 20) ∷ [];
      end = E.Error 20 9;
    })
unfolding M.meaning M.run M.entered M.block_run flows values makings statements
host_ends input = refl
