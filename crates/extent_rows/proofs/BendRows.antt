-- The worked row of a bending array: each call makes it or ends the run, whatever the main procedure's variable holds.
use Rattle.std.proofs.Common.{◌≡◌, ℕ, zero, suc, ◌+◌, ◌*◌, ◌^◌, ◌<◌, ◌≤◌, List, [], ◌∷◌, ◌++◌, ◌⊎◌, inr, length}
use Rattle.std.proofs.Common.{Option, Some, true, refl, sym, ap, ◌∙◌, subst, arith}
use Rattle.std.proofs.lemmas.Bool.{lt-ltb}
use Rattle.std.specs.Prelude.{ℤ, int_le, nat_lt, pos}
use Rattle.rv_meaning.specs.Machine.{memory_size}
use Rattle.pli_language.specs.declared.condition.Condition.{Condition}
use Rattle.pli_language.specs.declared.condition.Condition.TheVariants as C
use Rattle.pli_typing.specs.TypedTree as Y
use Rattle.pli_meaning.specs.declared.outcome.End.TheVariants as E
use Rattle.pli_meaning.specs.Control as F
use Rattle.pli_meaning.specs.Evaluating as V
use Rattle.pli_meaning.specs.Executing as M
use Rattle.pli_meaning.specs.Executing.{begun, entered, run}
use Rattle.pli_meaning.specs.Making as K
use Rattle.pli_meaning.specs.Placing as P
use Rattle.pli_meaning.specs.Raising as R
use Rattle.pli_meaning.specs.StorageState.{Activation, ancestor, ancestor_at}
use Rattle.pli_meaning.specs.StorageState.{first_state, force, height_of, most_activations}
use Rattle.area_keeper.specs.KeeperLaws.{Keeps}
use Rattle.run_keeper.specs.RunKeeper.{run_keeper}
use Rattle.pli_serving.specs.Arguments.{own_signature}
use Rattle.pli_serving.specs.SignatureService.{number_of}
use Rattle.pli_serving.specs.Templates.{template_of}
use Rattle.pli_coding.specs.Allocating.{act_code}
use Rattle.pli_coding.specs.Assembly.{CallTo, ProcedureEntry}
use Rattle.pli_coding.specs.Environments.{none_taken}
use Rattle.pli_coding.specs.Extents.{extent_words}
use Rattle.pli_coding.specs.Images.{first_frame, linked_code}
use Rattle.pli_coding.specs.Linking.{links_of}
use Rattle.pli_coding.specs.SignatureTable.{signature_of}
use Rattle.pli_coding.specs.Frames.{fixed_size, temporary_bytes}
use Rattle.pli_coding.specs.Statements.{stmt_code, stmts_code, unit_left, unit_mark}
use Rattle.storage_relation.specs.Fills.{IsFill}
use Rattle.storage_relation.specs.Stored.{AreTold}
use Rattle.activation_relation.specs.Chains.{AreActive, HasParent}
use Rattle.activation_relation.specs.Frames.{lower_end}
use Rattle.activation_relation.specs.Landing.{resumed, with_units}
use Rattle.activation_relation.specs.Layers.{Point, services_of}
use Rattle.activation_relation.specs.Points.{Surroundings}
use Rattle.activation_relation.specs.ServiceLaws.{IsSystem}
use Rattle.activation_relation.proofs.Remaining.{numbers_remain}
use Rattle.run_steps.proofs.Jumps.{back_of, first_of, front_of, rest_of}
use Rattle.run_steps.proofs.Linking.{linked_length}
use Rattle.run_steps.specs.Numbers.{IsWide}
use Rattle.run_steps.specs.Reach.{Comes}
use Rattle.program_runs.specs.Calls.{IsCallee, begun_at, body_index, left_over}
use Rattle.program_runs.specs.Procedures.{HasRoom, block_of, frame_for, layer_for}
use Rattle.program_runs.specs.Rows.{row_head}
use Rattle.program_runs.specs.Programs.{IsWhole, main_of}
use Rattle.program_runs.specs.Starts.{first_family, image_parts, main_called, no_numbers, start_point, never_in}
use Rattle.program_runs.specs.Starts.{surroundings_of}
use Rattle.program_runs.specs.Statements.{Block, Does, EachDoes, IsAmong, IsBegun}
use Rattle.program_runs.specs.VariableRows as W
use Rattle.block_runs.proofs.CallStatements.{given_code}
use Rattle.program_runs.proofs.CallStatements.{statement_at}
use Rattle.program_runs.proofs.Statements.{none_does}
use Rattle.program_runs.proofs.VariableProcedures.{one_made}
use Rattle.expression_runs.specs.Assignments.{setting_of}
use Rattle.expression_runs.specs.Laws as L
use Rattle.expression_runs.specs.Values.{OverflowComes, Setting}
use Rattle.expression_runs.specs.Variables.{IsNumber}
use Rattle.expression_runs.proofs.Assignments.{assign_does}
use Rattle.expression_runs.proofs.Operands.{constant_does}
use Rattle.expression_runs.proofs.Sums.{sum_does}
use Rattle.expression_runs.proofs.VariablePoints.{variable_does}
use Rattle.function_runs.proofs.OuterVariables.{over_number}
use Rattle.block_runs.specs.Machines.{acted}
use Rattle.nested_calls.specs.Nested.{IsNested}
use Rattle.extent_runs.specs.Both.{evaluated_from}
use Rattle.extent_runs.specs.Making.{block_from, made_at, site_at}
use Rattle.extent_runs.specs.MadeArrays.{EvaluatedArray, Fits, IsEvaluatedArray, Passes, template_with}
use Rattle.extent_runs.specs.Unpaid.{MakesUnpaid}
use Rattle.extent_runs.specs.Words.{number_waits}
use Rattle.extent_runs.proofs.Entered.{procedures_entered}
use Rattle.extent_runs.proofs.Extents.{extents_end}
use Rattle.extent_runs.proofs.FittingArrays.{arrays_fit}
use Rattle.extent_runs.proofs.MadeArrays.{only_array, signature_inside}
use Rattle.extent_runs.proofs.UnpaidCalls.{unpaid_call_does}
use Rattle.extent_runs.proofs.Words.{waits_begun}
use Rattle.unit_runs.specs.Bodies.{BodyDoes}
use Rattle.unit_runs.specs.Establishing.{unit_index, unit_of}
use Rattle.unit_runs.specs.Raised as S
use Rattle.unit_runs.specs.Raised.{IsRaised, UnitDoes, list_index, unit_block}
use Rattle.unit_runs.proofs.Bodies.{first_ends, list_ends, on_ends, unit_program_runs}
use Rattle.unit_runs.proofs.Establishing.{unit_begun}
use Rattle.unit_runs.proofs.FurtherVariables.{further_number}
use Rattle.unit_runs.proofs.Rows.{only_place}
use Rattle.unit_runs.proofs.UnitRuns.{overflow_returns}
use Rattle.unit_runs.proofs.UnitVariables.{none_made}
use Rattle.extent_rows.specs.GrowRows.{array_base}
use Rattle.extent_rows.specs.BendRows.{IsListTold, bend_at, bend_body, bend_call, bend_code, bend_declared, bend_end}
use Rattle.extent_rows.specs.BendRows.{bend_environment, bend_extent, bend_first, bend_five, bend_image}
use Rattle.extent_rows.specs.BendRows.{bend_inner, bend_on, bend_program, bend_rest, bend_spot, bend_start, bend_sum}
use Rattle.extent_rows.specs.BendRows.{bend_twice, bend_unit, bend_value, inner_body, inner_environment, inner_first}
use Rattle.extent_rows.proofs.GrowRows.{only_parent, upper_fill}
use Rattle.extent_rows.proofs.BendCode.{behind_block, behind_number, bend_block, bend_callee}
use Rattle.extent_rows.proofs.BendCode.{bend_standing, bend_whole, body_linked, both_differ, call_linked}
use Rattle.extent_rows.proofs.BendCode.{inner_body_linked, inner_linked, inner_start, last_index, last_linked}
use Rattle.extent_rows.proofs.BendCode.{main_linked, on_is, outer_number, outer_only, rest_linked, routines}
use Rattle.extent_rows.proofs.BendCode.{start_linked, unit_linked}

-- what is around a run of it, in which an act more is allowed than this
record Given (more : ℕ) : Type 0 where
  constants : ℕ → Option ℕ
  input : List ℕ
  few : suc more + 1 < 2 ^ 64
  told : IsListTold constants

abbrev around_it : {more : ℕ} → Given more → Surroundings
around_it {more} g = surroundings_of (bend_image g.constants g.input (suc more))

abbrev main_of_run : {more : ℕ} → Given more → Block
main_of_run {more} g = behind_block g.constants g.input (suc more)

-- ---- the procedure's block, wherever its variables have been made

abbrev inner_from : {more : ℕ} → Given more → Point → (numbers : ℕ → ℕ) → (first : Point) → Block
inner_from {more} g p numbers first =
    block_from (around_it g) (linked_code bend_code) (bend_callee more) p
    numbers first

inner_number :
    {more : ℕ} (g : Given more) (p first : Point) (numbers : ℕ → ℕ) → IsBegun (main_of_run g) →
    IsAmong (main_of_run g) numbers p →
    IsBegun (inner_from g p numbers first) → IsNumber (inner_from g p numbers first) bend_spot
inner_number {more} g p first numbers b o b' =
    let k = main_of_run g in
    let inner = inner_from g p numbers first in
    let units = k.call.surroundings.units in
    let φ = resumed b'.resumes.changed inner.call.beginning.layer in
    let a = with_units b'.resumes.own b'.activation in
    let active : AreActive units (a ∷ p.state.activations) (φ ∷ p.control.layers) =
    subst (λ xs. AreActive units xs (φ ∷ p.control.layers)) b'.resumes.activations
    (subst (λ ls. AreActive units first.state.activations ls) b'.resumes.layers b'.resumes.stands.active) in
    let has : HasParent 1 a.parent p.state.activations =
    subst (λ n. HasParent n a.parent p.state.activations) active.0.level active.0.parent in
    let there : HasParent 1 a.parent k.first.state.activations =
    subst (HasParent 1 a.parent) o.later.activations has in
    over_number {k = k} {inner = inner} {numbers = numbers} {p = p} bend_spot
    (record {
      activation = a;
      layer = φ;
      active = b'.resumes.activations;
      below = p.control.layers;
      layers = b'.resumes.layers;
      frames = λ n. refl;
      many = refl;
      height = active.0.height;
      level = active.0.level;
      parent = only_parent k.first.state.activations a.parent (refl, refl) there;
      remains = b'.remains;
      own = refl;
      code = refl;
      few = omega arith;
    }) b o (omega arith) refl refl (behind_number g.constants g.input (suc more))

begun_system :
    {more : ℕ} (g : Given more) (p : Point) (numbers : ℕ → ℕ) (condition : Condition) →
    IsAmong (main_of_run g) numbers p →
    IsSystem (force (main_of_run g).first.state.activations condition) →
    IsSystem
    (force
    (begun_at (around_it g) (bend_callee more) p
    numbers).state.activations condition)
begun_system {more} g p numbers condition o h = subst (λ xs. IsSystem (force xs condition)) (sym o.later.activations) h

-- ---- its array

abbrev array_there : {more : ℕ} → Given more → Point → (numbers : ℕ → ℕ) → EvaluatedArray
array_there {more} g p numbers =
    record {
      evaluated = record {
        layer = layer_for (around_it g) p numbers bend_inner
            (bend_callee more).calling;
        others = p.control.layers;
        line = 2;
        signature = 1;
        extent = bend_extent;
      };
      declared = array_base;
      precision = 31;
      index = 0;
      place = 160;
      at = bend_at;
    }

abbrev start_there : {more : ℕ} → Given more → Point → (numbers : ℕ → ℕ) → Point
start_there {more} g p numbers =
    begun_at (around_it g) (bend_callee more) p numbers

abbrev extent_point : {more : ℕ} → Given more → Point → (numbers : ℕ → ℕ) → Point
extent_point g p numbers = evaluated_from (array_there g p numbers).evaluated (start_there g p numbers)

abbrev setting_there : {more : ℕ} → Given more → Point → (numbers : ℕ → ℕ) → Setting
setting_there g p numbers =
    record {
      block = inner_from g p numbers (extent_point g p numbers);
      labels = [];
      around = (inner_from g p numbers (extent_point g p numbers)).around;
      most = 200;
      words = extent_words;
    }

callee_is :
    {more : ℕ} (g : Given more) →
    IsCallee (around_it g) (linked_code bend_code) (bend_callee more)
callee_is {more} g =
    let given' = given_code (statement_at (main_of_run g) (bend_callee more) 7 0
    (start_point (bend_image g.constants g.input (suc more))) no_numbers) in
    let last = CallTo (ProcedureEntry 1) ∷ [] in
    record {
      coded = record { level = omega arith; line = omega arith; saved = omega arith; back = omega arith };
      calls = back_of given' last (back_of (act_code 7) (given' ++ last) call_linked);
      place = refl;
      stands = inner_linked;
      end = refl;
      kind = refl;
      labels = (λ label e. absurd (cc e), λ label e. absurd (cc e));
      acts = g.few;
    }

room_there :
    {more : ℕ} (g : Given more) (p : Point) (numbers : ℕ → ℕ) → IsAmong (main_of_run g) numbers p →
    HasRoom (around_it g) p bend_inner (bend_callee more).calling
room_there {more} g p numbers o =
    record {
      room = subst (λ ls. frame_for image_parts ls bend_inner + 160 ≤ lower_end image_parts ls) (sym o.later.layers)
          (omega arith);
      shallow = subst (λ (xs : List Activation). nat_lt (length xs) most_activations ≡ true) (sym o.later.activations)
          refl;
      parent = subst (λ xs. HasParent 1 1 xs) (sym o.later.activations) (omega arith, refl);
      idle = o.later.waiting;
    }

-- where the act of its extents has been made the block has begun, and knows the variable
entered_there :
    {more : ℕ} (g : Given more) (p : Point) (numbers : ℕ → ℕ) → IsAmong (main_of_run g) numbers p →
    p.state.world.acts < suc more →
    IsBegun (setting_there g p numbers).block
entered_there {more} g p numbers o less =
    let w = around_it g in
    let c = bend_callee more in
    let e = (array_there g p numbers).evaluated in
    let known = procedures_entered w (linked_code bend_code) c p numbers (o.stands, o.image) o.few
    (callee_is g, room_there g p numbers o) o.words less in
    (waits_begun (block_from w (linked_code bend_code) c p numbers _) _ numbers e.layer e.others (number_waits 1)
    known.0 known.1 refl).0

-- the unit of the main procedure is in force in it
raised_is :
    {more : ℕ} (g : Given (suc more)) (p : Point) (numbers : ℕ → ℕ) → IsAmong (main_of_run g) numbers p →
    IsBegun (setting_there g p numbers).block → IsRaised (setting_there g p numbers) (bend_standing more) more
raised_is {more} g p numbers o b' =
    let as' = o.later.activations in
    let ls = o.later.layers in
    let acts = o.later.acts in
    let parts = image_parts in
    let x = bend_standing more in
    record {
      begun = b';
      routines = routines;
      by = _;
      force = ap (λ xs. force xs C.FixedOverflow) as';
      parent = subst (λ xs. HasParent 1 1 (M.activation_of (row_head 1 1 2) (begun (block_of bend_inner) 1)
          (length xs + 1) ∷ xs)) (sym as') (omega arith, refl);
      room = subst (λ φs. frame_for parts φs bend_inner + fixed_size 1 0 + temporary_bytes x.words + fixed_size 1 0
          ≤ lower_end parts φs) (sym ls) (omega arith);
      shallow = subst (λ (xs : List Activation). nat_lt (suc (length xs)) most_activations ≡ true) (sym as') refl;
      only = λ at stands. only_place (unit_of bend_unit) (4 * unit_index bend_unit bend_on) at stands;
      some = omega arith;
      stands = unit_linked more;
      labels = (λ label e. absurd (cc e), λ label e. absurd (cc e));
      kind = inr refl;
      level = omega arith;
      line = omega arith;
      saved = omega arith;
      acts = g.few;
      enter = refl;
      around = refl;
      enough = omega (arith, acts);
      most = omega arith;
    }

-- its statement, wherever it is raised
unit_each :
    {more : ℕ} (g : Given (suc more)) (p : Point) (numbers : ℕ → ℕ) (b : IsBegun (main_of_run g))
    (o : IsAmong (main_of_run g) numbers p) (b' : IsBegun (setting_there g p numbers).block) →
    UnitDoes (setting_there g p numbers) (bend_standing more) more (raised_is g p numbers o b')
unfolding raised_is
unit_each {more} g p numbers b o b' r is =
    let k = setting_there g p numbers in
    let x = bend_standing more in
    let h = raised_is g p numbers o b' in
    let u = unit_block k x r in
    let n = linked_length (links_of bend_code) 0 bend_code in
    let made = none_made k x r (record { kind = inr (refl, refl); code = refl; made = refl }) in (
      made,
      λ b''. (
        assign_does u [] bend_spot (Y.NumberConstant 5) 6 (list_index x) left_over 0 100
            (record {
              act = record { line_fits = omega arith; acts = g.few };
              begun = b'';
              number = further_number k x more h r bend_spot (main_of_run g) p numbers 1
                  (record {
                    begun = b;
                    among = o;
                    activations = refl;
                    layers = refl;
                    remains = b'.remains;
                    own = refl;
                    level = refl;
                    inner = refl;
                    program = refl;
                    parts = refl;
                  }) is made b'' (omega arith) (behind_number g.constants g.input (suc (suc more)));
              registers = omega arith;
              held = omega arith;
              statement = front_of (stmt_code x.environment none_taken bend_five) []
                  (front_of (S.list_code x) (unit_mark bend_unit.head Y.UnitBlock ++ unit_left x.words x.saved)
                  (back_of (act_code 5) _ (back_of x.variables _ (back_of (S.begin_of x) _ (unit_linked more)))));
              paid = omega (arith, n);
            })
            (constant_does (setting_of u [] 6 100) 5 (omega arith)),
        tt,
      ),
    )

-- where no second act is allowed its extents aren't evaluated
over_there :
    {more : ℕ} (g : Given more) (p : Point) (numbers : ℕ → ℕ) → IsBegun (main_of_run g) →
    IsAmong (main_of_run g) numbers p → IsBegun (setting_there g p numbers).block →
    OverflowComes (setting_there g p numbers)
over_there {more = zero} g p numbers b o b' =
    let allowed = b'.resumes.stands.allowed in
    let acts = o.later.acts in
    absurd (omega (arith, allowed, acts))
over_there {more = suc more} g p numbers b o b' =
    overflow_returns (setting_there g p numbers) (bend_standing more) more (raised_is g p numbers o b')
    (unit_each g p numbers b o b') refl

bound_does :
    {more : ℕ} (g : Given more) (p : Point) (numbers : ℕ → ℕ) → IsBegun (main_of_run g) →
    IsAmong (main_of_run g) numbers p → L.Does (setting_there g p numbers) 1 bend_sum
bound_does {more} g p numbers b o q held taken credits index f among line registers l paid at =
    let allowed = among.stands.allowed in
    let since = among.later.acts in
    let k = setting_there g p numbers in
    let b' = entered_there g p numbers o (omega (arith, allowed, since)) in
    let operand = variable_does k bend_spot b'
    (inner_number g p (extent_point g p numbers) numbers b o b') in
    let over = over_there g p numbers b o b' in
    sum_does k bend_twice bend_value 1 0 over (sum_does k bend_value bend_value 0 0 over operand operand) operand q held
    taken credits index f among line registers l paid at

-- ---- it fits, or passes the limit

fits_there :
    {more : ℕ} (g : Given more) (p : Point) (numbers : ℕ → ℕ) → IsAmong (main_of_run g) numbers p →
    (q : Point) (held : ℕ → ℕ)
    (upper : ℤ) → IsAmong (setting_there g p numbers).block held q → IsWide upper → int_le (pos 1) upper ≡ true →
    Fits (setting_there g p numbers).block (array_there g p numbers) upper q
    ⊎ Passes (setting_there g p numbers).block (array_there g p numbers) upper q
fits_there {more} g p numbers o q held upper among wide less =
    let k = (setting_there g p numbers).block in
    let x = array_there g p numbers in
    let n = linked_length (links_of bend_code) 0 bend_code in
    let lower = ap (λ ls. lower_end image_parts ls) o.later.layers in
    let frame = ap (λ ls. frame_for image_parts ls bend_inner) o.later.layers in
    let low = o.later.remains.low in
    let few = signature_inside (main_of_run g) k numbers held p q (template_with x upper) o (refl, refl) among in
    let number = few.0 in
    arrays_fit k x upper q held
    (record {
      precision = omega arith;
      here = refl;
      even = omega (arith, lower);
      room = omega (arith, lower, frame);
      low = omega (arith, low, n);
    }) among (refl, wide) less
    (lt-ltb (number_of (template_with x upper) q.places.signatures) own_signature (omega (arith, number)))
    (λ e. subst (λ fs. IsFill fs (template_with x upper)) (sym few.1) (upper_fill upper wide less))

array_is :
    {more : ℕ} (g : Given more) (p : Point) (numbers : ℕ → ℕ) → IsBegun (main_of_run g) →
    IsAmong (main_of_run g) numbers p →
    IsEvaluatedArray (inner_from g p numbers (acted 2 (start_there g p numbers))) (setting_there g p numbers)
    (array_there g p numbers) (start_there g p numbers) numbers
array_is {more} g p numbers b o =
    let w = around_it g in
    let c = bend_callee more in
    let k = setting_there g p numbers in
    let n = linked_length (links_of bend_code) 0 bend_code in
    record {
      evaluated = record {
        begun = λ less.
            procedures_entered w (linked_code bend_code) c p numbers (o.stands, o.image) o.few
            (callee_is g, room_there g p numbers o) o.words less;
        newest = refl;
        block = refl;
        line = refl;
        words = refl;
        room = omega arith;
        signature = omega arith;
        line_fits = omega arith;
        acts = g.few;
        lower = refl;
        registers = (omega arith, omega arith);
        errors = extents_end k
            (record {
              routines = routines;
              place = refl;
              error = begun_system g p numbers C.Error o tt;
              acts = g.few;
              most = omega arith;
            });
        does = bound_does g p numbers b o;
      };
      labels = refl;
      words = omega arith;
      template = numbers_remain (main_of_run g).first p o.later.remains 1 (template_of (signature_of bend_declared))
          refl;
      table = refl;
      constants = record {
        behind_code = omega (arith, n);
        inside = omega arith;
        told = λ m few'. ap (λ (told : ℕ → Option ℕ). told (bend_at + m)) o.later.remains.constants ∙ g.told m few';
      };
      list = refl;
      serials = omega arith;
      paid = omega (arith, n);
      fits = λ q held upper among wide less means. fits_there g p numbers o q held upper among wide less;
    }

-- ---- the call

array_made :
    {more : ℕ} (g : Given more) (p : Point) (numbers : ℕ → ℕ) → IsBegun (main_of_run g) →
    IsAmong (main_of_run g) numbers p →
    MakesUnpaid (Some (start_there g p numbers))
    (site_at (around_it g) (linked_code bend_code) (bend_callee more) p
    numbers) left_over (made_at (bend_callee more))
array_made {more} g p numbers b o =
    only_array
    (site_at (around_it g) (linked_code bend_code) (bend_callee more) p
    numbers) (setting_there g p numbers) (array_there g p numbers) left_over bend_inner.head
    (array_is g p numbers b o) refl refl refl refl

inner_each :
    {more : ℕ} (g : Given more) (p first : Point) (numbers : ℕ → ℕ) → IsBegun (main_of_run g) →
    IsAmong (main_of_run g) numbers p → IsBegun (inner_from g p numbers first) →
    EachDoes (inner_from g p numbers first) [] inner_body (body_index (bend_callee more)) left_over
inner_each {more} g p first numbers b o b' =
    let k = inner_from g p numbers first in
    let n = linked_length (links_of bend_code) 0 bend_code in (
      assign_does k [] bend_spot (Y.NumberConstant 7) 3 inner_start left_over 0 200
          (record {
            act = record { line_fits = omega arith; acts = g.few };
            begun = b';
            number = inner_number g p first numbers b o b';
            registers = omega arith;
            held = omega arith;
            statement = front_of (stmt_code inner_environment none_taken inner_first) [] inner_body_linked;
            paid = omega (arith, n);
          })
          (constant_does (setting_of k [] 3 200) 7 (omega arith)),
      tt,
    )

main_nested : {more : ℕ} (g : Given more) → IsNested (main_of_run g)
main_nested {more} g =
    record {
      own = refl;
      few = omega arith;
      some = λ n less. subst (λ m. 0 < height_of (ancestor_at (main_of_run g).first.state m)) (none_below n less)
          (omega arith);
      same = λ outer n less high. same_by outer n less high;
    }
  where
    none_below : (n : ℕ) → n ≤ 0 → 0 ≡ n
    none_below n less = omega (arith, less)

    same_by :
        (outer n : ℕ) → n ≤ outer → outer ≤ 0 →
        ancestor (main_of_run g).first.state.activations (height_of (ancestor_at (main_of_run g).first.state outer)) n
        ≡ ancestor_at (main_of_run g).first.state n
    same_by outer n less high =
        subst (λ m. ancestor (main_of_run g).first.state.activations
        (height_of (ancestor_at (main_of_run g).first.state m)) n ≡ ancestor_at (main_of_run g).first.state n)
        (none_below outer high)
        (subst (λ m. ancestor (main_of_run g).first.state.activations
        (height_of (ancestor_at (main_of_run g).first.state 0)) m ≡ ancestor_at (main_of_run g).first.state m)
        (none_below n (omega (arith, less, high))) refl)

call_by :
    (constants : ℕ → Option ℕ) (input : List ℕ) (acts : ℕ) → acts + 1 < 2 ^ 64 → IsListTold constants →
    IsBegun (behind_block constants input acts) →
    Does (behind_block constants input acts) [] bend_call last_index left_over
call_by constants input zero few told b =
    none_does (behind_block constants input zero) [] bend_call last_index left_over b refl
call_by constants input (suc more) few told b =
    let g : Given more = record { constants = constants; input = input; few = few; told = told } in
    unpaid_call_does (λ p numbers. Some (start_there g p numbers)) (main_of_run g) (bend_callee more) 0 7 last_index
    left_over more
    (record {
      low = omega arith;
      line_fits = omega arith;
      callee = callee_is g;
      frame = omega arith;
      idle = refl;
      statement = call_linked;
      call = refl;
      nested = main_nested g;
      around_it = omega arith;
      inner = refl;
      parent = refl;
      found = refl;
      enter = refl;
      around = refl;
      enough = omega arith;
    }) refl (λ p numbers o. array_made g p numbers b o)
    (λ p first numbers o b' bound. inner_each g p first numbers b o b') b []

-- ---- the main procedure

first_does :
    (constants : ℕ → Option ℕ) (input : List ℕ) (acts : ℕ) → acts + 1 < 2 ^ 64 →
    IsBegun (bend_block constants input acts) →
    Does (bend_block constants input acts) [] bend_first bend_start left_over
first_does constants input acts few b =
    let k = bend_block constants input acts in
    let n = linked_length (links_of bend_code) 0 bend_code in
    assign_does k [] bend_spot (Y.NumberConstant 2147483647) 4 bend_start left_over 0 100
    (record {
      act = record { line_fits = omega arith; acts = few };
      begun = b;
      number = outer_number constants input acts;
      registers = omega arith;
      held = omega arith;
      statement = front_of (stmt_code bend_environment none_taken bend_first)
          (stmts_code bend_environment none_taken bend_rest) body_linked;
      paid = omega (arith, n);
    })
    (constant_does (setting_of k [] 4 100) 2147483647 (omega arith))

pub bend_does :
    (constants : ℕ → Option ℕ) (input : List ℕ) (acts : ℕ) → acts + 1 < 2 ^ 64 → IsListTold constants →
    IsBegun (bend_block constants input acts) →
    BodyDoes (bend_block constants input acts) bend_body bend_start left_over
bend_does constants input acts few told b =
    let k = bend_block constants input acts in
    let h = on_is constants input acts few b in
    first_ends k bend_first bend_rest bend_start left_over
    (record {
      body = record {
        begun = b;
        linked = body_linked;
        end = refl;
        function = refl;
        kind = refl;
        registers = omega arith;
        outers = refl;
        enough = omega arith;
      };
      does = first_does constants input acts few b;
      goes = on_ends k bend_unit bend_end bend_on left_over
          (record {
            body = record {
              begun = b;
              linked = rest_linked;
              end = refl;
              function = refl;
              kind = refl;
              registers = omega arith;
              outers = refl;
              enough = omega arith;
            };
            on = h;
            goes = list_ends (behind_block constants input acts) bend_end last_index left_over
                (record {
                  begun = unit_begun k bend_unit bend_on h;
                  linked = last_linked;
                  end = refl;
                  function = refl;
                  kind = refl;
                  registers = omega arith;
                  outers = refl;
                  enough = omega arith;
                })
                (λ label e. absurd (cc e), λ label e. absurd (cc e))
                (call_by constants input acts few told (unit_begun k bend_unit bend_on h), tt);
          });
    })

-- ---- the whole

pub bend_is :
    (constants : ℕ → Option ℕ) (input first : List ℕ) (acts : ℕ) → acts + 1 < 2 ^ 64 →
    length first ≡ memory_size →
    AreTold constants (4 * length (linked_code bend_code)) image_parts.stack_start first →
    IsWhole (bend_whole constants input acts) first
bend_is constants input first acts few bytes told =
    let l = back_of (first_frame image_parts) (main_called 0) start_linked in
    record {
      start = record { linked = start_linked; differ = both_differ; bytes = bytes; told = told };
      made = one_made (surroundings_of (bend_image constants input acts)) (linked_code bend_code)
          (main_of (bend_whole constants input acts)) (start_point (bend_image constants input acts)) no_numbers
          W.number_declared (outer_only constants input acts);
      callee = record {
        coded = record { level = omega arith; line = omega arith; saved = omega arith; back = omega arith };
        calls = first_of (CallTo (ProcedureEntry 0)) _ (rest_of _ _ (rest_of _ _ (rest_of _ _ l)));
        place = refl;
        stands = main_linked;
        end = refl;
        kind = refl;
        labels = (
          λ label e. absurd (cc e),
          (λ label e. absurd (cc e), (λ label e. absurd (cc e), λ label e. absurd (cc e))),
        );
        acts = few;
      };
      room = record { room = omega arith; shallow = refl; parent = tt; idle = refl };
      level = refl;
      procedures = refl;
      statics = refl;
    }

pub bend_runs :
    Keeps run_keeper → (constants : ℕ → Option ℕ) (input first : List ℕ) (acts : ℕ) → acts + 1 < 2 ^ 64 →
    length first ≡ memory_size → IsListTold constants →
    AreTold constants (4 * length (linked_code bend_code)) image_parts.stack_start first →
    Comes (linked_code bend_code) 0 (first_family first (services_of (start_point (bend_image constants input acts))))
    (services_of (start_point (bend_image constants input acts))) (never_in (bend_image constants input acts))
    (run bend_program (suc acts) acts (first_state input))
bend_runs keeps constants input first acts few bytes list told =
    unit_program_runs keeps (bend_whole constants input acts) first (bend_is constants input first acts few bytes told)
    (λ b. bend_does constants input acts few list b)

-- ---- what the program comes to

unfoldable flows : Unit {0}
unfolding F.give F.◌>>=◌ F.◌>>◌ F.looked F.stored F.act F.finish F.returns F.jumps F.choose F.given F.list_from
    F.leaving
flows = tt

unfoldable values : Unit {0}
unfolding V.number V.designated V.located V.numbers V.variable_designated V.part_designated V.stored_value R.or_error
    R.demanded R.value_of R.raised R.unit_run R.error R.error_unit_run P.element_stored M.assigned
values = tt

unfoldable calls : Unit {0}
unfolding V.called V.arguments V.all_passed_last V.procedure_entered V.returned K.variables_made K.automatic_made
    K.extents K.evaluations K.variable_made K.parameters_bound
calls = tt

unfoldable statements : Unit {0}
unfolding M.statement M.statements M.list M.list_with M.block_variables_made M.entry_act M.block_list M.block_body
    M.established_by
statements = tt

pub bend_ends :
    (input : List ℕ) →
    M.meaning bend_program input 11
    ≡ Some (record { acts = 11; output = []; raised = (C.FixedOverflow, 20) ∷ []; end = E.Finished })
unfolding M.meaning M.run M.entered M.block_run flows values calls statements
bend_ends input = refl
