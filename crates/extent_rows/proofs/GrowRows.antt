-- The worked row of a growing array: each call makes it or ends the run, whatever the main procedure's variable holds.
use Rattle.std.proofs.Common.{◌≡◌, ℕ, zero, suc, ◌+◌, ◌*◌, ◌^◌, ◌<◌, ◌≤◌, List, [], ◌∷◌, ◌++◌, ◌⊎◌, inl, length}
use Rattle.std.proofs.Common.{Option, None, Some, Bool, true, false, refl, sym, ap, ◌∙◌, subst, arith}
use Rattle.std.proofs.lemmas.Bool.{eqb-true, lt-ltb, ltb-true}
use Rattle.std.specs.Prelude.{ℤ, cond, int_le, nat_lt, negsuc, pos, ◌==◌}
use Rattle.rv_meaning.specs.Machine.{memory_size}
use Rattle.pli_language.specs.declared.condition.Condition.{Condition}
use Rattle.pli_language.specs.declared.condition.Condition.TheVariants as C
use Rattle.pli_typing.specs.TypedTree as Y
use Rattle.pli_meaning.specs.declared.outcome.End.TheVariants as E
use Rattle.pli_meaning.specs.declared.outcome.Limit.TheVariants as N
use Rattle.pli_meaning.specs.Control as F
use Rattle.pli_meaning.specs.Evaluating as V
use Rattle.pli_meaning.specs.Executing as M
use Rattle.pli_meaning.specs.Executing.{entered, run}
use Rattle.pli_meaning.specs.Making as K
use Rattle.pli_meaning.specs.Placing as P
use Rattle.pli_meaning.specs.Raising as R
use Rattle.pli_meaning.specs.StorageState.{Activation, BlockUnit, OnUnit, SystemUnit, ancestor, ancestor_at}
use Rattle.pli_meaning.specs.StorageState.{first_state, first_unit, force, height_of, most_activations, newest_height}
use Rattle.pli_meaning.specs.StorageState.{unit_for}
use Rattle.area_keeper.specs.KeeperLaws.{Keeps}
use Rattle.run_keeper.specs.RunKeeper.{run_keeper}
use Rattle.pli_serving.specs.Arguments.{own_signature}
use Rattle.pli_serving.specs.SignatureService.{number_of}
use Rattle.pli_serving.specs.Templates.{template_of}
use Rattle.pli_coding.specs.Allocating.{act_code}
use Rattle.pli_coding.specs.Assembly.{CallTo, ProcedureEntry, size_of}
use Rattle.pli_coding.specs.Environments.{none_taken}
use Rattle.pli_coding.specs.Extents.{extent_words}
use Rattle.pli_coding.specs.Images.{first_frame, linked_code}
use Rattle.pli_coding.specs.Linking.{links_of}
use Rattle.pli_coding.specs.SignatureTable.{signature_of}
use Rattle.pli_coding.specs.Statements.{stmt_code, stmts_code}
use Rattle.storage_relation.specs.Fills.{IsFill}
use Rattle.storage_relation.specs.Stored.{AreTold}
use Rattle.activation_relation.specs.Chains.{AreActive, HasParent}
use Rattle.activation_relation.specs.Frames.{lower_end}
use Rattle.activation_relation.specs.Landing.{resumed, with_units}
use Rattle.activation_relation.specs.Layers.{Point, services_of}
use Rattle.activation_relation.specs.ServiceLaws.{IsSystem}
use Rattle.activation_relation.proofs.Remaining.{numbers_remain}
use Rattle.run_steps.specs.Items.{Linked}
use Rattle.run_steps.proofs.Jumps.{back_of, first_of, front_of, rest_of}
use Rattle.run_steps.proofs.Linking.{linked_length}
use Rattle.run_steps.specs.Numbers.{IsWide}
use Rattle.run_steps.specs.Reach.{Comes}
use Rattle.program_runs.specs.Calls.{IsCallee, begun_at, body_index, left_over}
use Rattle.program_runs.specs.Procedures.{HasRoom, frame_for, layer_for}
use Rattle.program_runs.specs.Programs.{IsWhole, main_of}
use Rattle.program_runs.specs.Starts.{first_family, image_parts, main_called, no_numbers, start_point, never_in}
use Rattle.program_runs.specs.Starts.{surroundings_of}
use Rattle.program_runs.specs.Statements.{Block, Does, EachDoes, IsAmong, IsBegun}
use Rattle.program_runs.specs.VariableRows as W
use Rattle.block_runs.proofs.CallStatements.{given_code}
use Rattle.program_runs.proofs.CallStatements.{statement_at}
use Rattle.program_runs.proofs.Gotos.{goto_does}
use Rattle.program_runs.proofs.Programs.{program_runs}
use Rattle.program_runs.proofs.Statements.{none_does}
use Rattle.program_runs.proofs.VariableProcedures.{one_made}
use Rattle.expression_runs.specs.Assignments.{IsAssignment, setting_of}
use Rattle.expression_runs.specs.Laws as L
use Rattle.expression_runs.specs.Values.{OverflowComes, Setting}
use Rattle.expression_runs.specs.Variables.{IsNumber}
use Rattle.expression_runs.proofs.Assignments.{assign_does}
use Rattle.expression_runs.proofs.Operands.{constant_does}
use Rattle.expression_runs.proofs.Raises.{overflow_ends}
use Rattle.expression_runs.proofs.Rows.{one_label_stands}
use Rattle.expression_runs.proofs.Sums.{sum_does}
use Rattle.expression_runs.proofs.VariablePoints.{variable_does}
use Rattle.function_runs.proofs.OuterVariables.{over_number}
use Rattle.block_runs.specs.Machines.{acted}
use Rattle.nested_calls.specs.Nested.{IsNested}
use Rattle.nested_calls.specs.NestedCalls.{IsNestedCall}
use Rattle.extent_runs.specs.Both.{evaluated_from}
use Rattle.extent_runs.specs.Arrays.{array_template}
use Rattle.extent_runs.specs.Making.{block_from, made_at, site_at}
use Rattle.extent_runs.specs.MadeArrays.{EvaluatedArray, Fits, IsEvaluatedArray, Passes, template_with}
use Rattle.extent_runs.specs.Unpaid.{AreBound, MakesUnpaid, unbound}
use Rattle.extent_runs.specs.Words.{number_waits}
use Rattle.extent_runs.proofs.Entered.{procedures_entered}
use Rattle.extent_runs.proofs.Extents.{extents_end}
use Rattle.extent_runs.proofs.FittingArrays.{arrays_fit}
use Rattle.extent_runs.proofs.MadeArrays.{only_array, signature_inside}
use Rattle.extent_runs.proofs.UnpaidCalls.{unpaid_call_does}
use Rattle.extent_runs.proofs.Words.{waits_begun}
use Rattle.extent_rows.specs.GrowRows.{IsListTold, array_base, grow_at, grow_back, grow_body, grow_call, grow_code}
use Rattle.extent_rows.specs.GrowRows.{grow_declared, grow_end, grow_environment, grow_extent, grow_fills}
use Rattle.extent_rows.specs.GrowRows.{grow_first, grow_image, grow_inner, grow_label, grow_program}
use Rattle.extent_rows.specs.GrowRows.{grow_rest, grow_spot, grow_twice, grow_value, inner_body, inner_environment}
use Rattle.extent_rows.specs.GrowRows.{inner_first}
use Rattle.extent_rows.proofs.GrowCode.{body_linked, both_differ, call_index, grow_block, grow_callee}
use Rattle.extent_rows.proofs.GrowCode.{grow_start, grow_whole, inner_body_linked, inner_linked, inner_start}
use Rattle.extent_rows.proofs.GrowCode.{main_linked, outer_number, outer_only, rest_linked, routines, start_linked}

-- what is around a run of it
record Given : Type 0 where
  constants : ℕ → Option ℕ
  input : List ℕ
  acts : ℕ
  more : ℕ
  few : acts + 1 < 2 ^ 64
  told : IsListTold constants

abbrev main_of_run : Given → Block
main_of_run g = grow_block g.constants g.input g.acts

-- ---- the procedure's block, wherever its variables have been made

abbrev inner_from : Given → Point → (numbers : ℕ → ℕ) → (first : Point) → Block
inner_from g p numbers first =
    block_from (surroundings_of (grow_image g.constants g.input g.acts)) (linked_code grow_code) (grow_callee g.more) p
    numbers first

-- the only activation there is is that of the main procedure
pub only_parent :
    (as' : List Activation) (parent : ℕ) → (length as' ≡ 1) × (newest_height as' ≡ 1) → HasParent 1 parent as' →
    parent ≡ 1
only_parent [] parent one h = absurd (cc one.0)
only_parent (a ∷ b ∷ as') parent one h = let many = one.0 in absurd (omega (arith, many))
only_parent (a ∷ []) parent one h = by (a.height == parent) refl h.1
  where
    by :
        (q : Bool) → (a.height == parent) ≡ q →
        height_of (cond q (cond (a.level == 0) (Some a) (ancestor [] a.parent 0)) (ancestor [] parent 0)) ≡ parent →
        parent ≡ 1
    by true e f = sym (eqb-true a.height parent e) ∙ one.1
    by false e f = let some = h.0 in absurd (omega (arith, f, some))

inner_number :
    (g : Given) (p first : Point) (numbers : ℕ → ℕ) → IsBegun (main_of_run g) → IsAmong (main_of_run g) numbers p →
    IsBegun (inner_from g p numbers first) → IsNumber (inner_from g p numbers first) grow_spot
inner_number g p first numbers b o b' =
    let k = main_of_run g in
    let inner = inner_from g p numbers first in
    let units = k.call.surroundings.units in
    let φ = resumed b'.resumes.changed inner.call.beginning.layer in
    let a = with_units b'.resumes.own b'.activation in
    let active : AreActive units (a ∷ p.state.activations) (φ ∷ p.control.layers) =
    subst (λ xs. AreActive units xs (φ ∷ p.control.layers)) b'.resumes.activations
    (subst (λ ls. AreActive units first.state.activations ls) b'.resumes.layers b'.resumes.stands.active) in
    let has : HasParent 1 a.parent p.state.activations =
    subst (λ n. HasParent n a.parent p.state.activations) active.0.level active.0.parent in
    let there : HasParent 1 a.parent k.first.state.activations =
    subst (HasParent 1 a.parent) o.later.activations has in
    over_number {k = k} {inner = inner} {numbers = numbers} {p = p} grow_spot
    (record {
      activation = a;
      layer = φ;
      active = b'.resumes.activations;
      below = p.control.layers;
      layers = b'.resumes.layers;
      frames = λ n. refl;
      many = refl;
      height = active.0.height;
      level = active.0.level;
      parent = only_parent k.first.state.activations a.parent (refl, refl) there;
      remains = b'.remains;
      own = refl;
      code = refl;
      few = omega arith;
    }) b o (omega arith) refl refl (outer_number g.constants g.input g.acts)

-- no unit is in force there
pub first_system :
    (a b : Activation) (o : Option OnUnit) (r : Option (Activation × OnUnit)) → IsSystem (first_unit a o r) →
    IsSystem (first_unit b o r)
first_system a b None r h = h
first_system a b (Some SystemUnit) r h = h
first_system a b (Some (BlockUnit unit)) r h = h

pub bound_system :
    (as' bs : List Activation) (condition : Condition) → unbound as' ≡ unbound bs → IsSystem (force bs condition) →
    IsSystem (force as' condition)
bound_system as' bs condition e h = from as' (subst (λ xs. IsSystem (force xs condition)) (sym e) (to bs h))
  where
    to : (xs : List Activation) → IsSystem (force xs condition) → IsSystem (force (unbound xs) condition)
    to [] h' = h'
    to (x ∷ xs) h' = first_system x (record x { bindings = [] }) (unit_for x.units condition) (force xs condition) h'

    from : (xs : List Activation) → IsSystem (force (unbound xs) condition) → IsSystem (force xs condition)
    from [] h' = h'
    from (x ∷ xs) h' =
        first_system (record x { bindings = [] }) x (unit_for x.units condition) (force xs condition) h'

begun_system :
    (g : Given) (p : Point) (numbers : ℕ → ℕ) (condition : Condition) → IsAmong (main_of_run g) numbers p →
    IsSystem (force (main_of_run g).first.state.activations condition) →
    IsSystem
    (force
    (begun_at (surroundings_of (grow_image g.constants g.input g.acts)) (grow_callee g.more) p
    numbers).state.activations condition)
begun_system g p numbers condition o h = subst (λ xs. IsSystem (force xs condition)) (sym o.later.activations) h

-- ---- its array

abbrev array_there : Given → Point → (numbers : ℕ → ℕ) → EvaluatedArray
array_there g p numbers =
    record {
      evaluated = record {
        layer = layer_for (surroundings_of (grow_image g.constants g.input g.acts)) p numbers grow_inner
            (grow_callee g.more).calling;
        others = p.control.layers;
        line = 2;
        signature = 1;
        extent = grow_extent;
      };
      declared = array_base;
      precision = 31;
      index = 0;
      place = 160;
      at = grow_at;
    }

abbrev start_there : Given → Point → (numbers : ℕ → ℕ) → Point
start_there g p numbers =
    begun_at (surroundings_of (grow_image g.constants g.input g.acts)) (grow_callee g.more) p numbers

abbrev extent_point : Given → Point → (numbers : ℕ → ℕ) → Point
extent_point g p numbers = evaluated_from (array_there g p numbers).evaluated (start_there g p numbers)

abbrev setting_there : Given → Point → (numbers : ℕ → ℕ) → Setting
setting_there g p numbers =
    record {
      block = inner_from g p numbers (extent_point g p numbers);
      labels = [];
      around = (inner_from g p numbers (extent_point g p numbers)).around;
      most = 200;
      words = extent_words;
    }

callee_is :
    (g : Given) →
    IsCallee (surroundings_of (grow_image g.constants g.input g.acts)) (linked_code grow_code) (grow_callee g.more)
callee_is g =
    let given' = given_code (statement_at (main_of_run g) (grow_callee g.more) 5 0
    (start_point (grow_image g.constants g.input g.acts)) no_numbers) in
    let last = CallTo (ProcedureEntry 1) ∷ [] in
    let l = rest_of _ _ rest_linked in
    let call = front_of (stmt_code grow_environment none_taken grow_call)
    (stmts_code grow_environment none_taken grow_end) l in
    record {
      coded = record { level = omega arith; line = omega arith; saved = omega arith; back = omega arith };
      calls = back_of given' last (back_of (act_code 5) (given' ++ last) call);
      place = refl;
      stands = inner_linked;
      end = refl;
      kind = refl;
      labels = (λ label e. absurd (cc e), λ label e. absurd (cc e));
      acts = g.few;
    }

room_there :
    (g : Given) (p : Point) (numbers : ℕ → ℕ) → IsAmong (main_of_run g) numbers p →
    HasRoom (surroundings_of (grow_image g.constants g.input g.acts)) p grow_inner (grow_callee g.more).calling
room_there g p numbers o =
    record {
      room = subst (λ ls. frame_for image_parts ls grow_inner + 160 ≤ lower_end image_parts ls) (sym o.later.layers)
          (omega arith);
      shallow = subst (λ (xs : List Activation). nat_lt (length xs) most_activations ≡ true) (sym o.later.activations)
          refl;
      parent = subst (λ xs. HasParent 1 1 xs) (sym o.later.activations) (omega arith, refl);
      idle = o.later.waiting;
    }

-- where the act of its extents has been made the block has begun, and knows the variable
entered_there :
    (g : Given) (p : Point) (numbers : ℕ → ℕ) → IsAmong (main_of_run g) numbers p → p.state.world.acts < g.acts →
    IsBegun (setting_there g p numbers).block
entered_there g p numbers o less =
    let w = surroundings_of (grow_image g.constants g.input g.acts) in
    let c = grow_callee g.more in
    let e = (array_there g p numbers).evaluated in
    let known = procedures_entered w (linked_code grow_code) c p numbers (o.stands, o.image) o.few
    (callee_is g, room_there g p numbers o) o.words less in
    (waits_begun (block_from w (linked_code grow_code) c p numbers _) _ numbers e.layer e.others (number_waits 1)
    known.0 known.1 refl).0

bound_does :
    (g : Given) (p : Point) (numbers : ℕ → ℕ) → IsBegun (main_of_run g) → IsAmong (main_of_run g) numbers p →
    L.Does (setting_there g p numbers) 0 grow_value
bound_does g p numbers b o q held taken credits index f among line registers l paid at =
    let allowed = among.stands.allowed in
    let since = among.later.acts in
    let k = setting_there g p numbers in
    let b' = entered_there g p numbers o (omega (arith, allowed, since)) in
    variable_does k grow_spot b' (inner_number g p (extent_point g p numbers) numbers b o b') q held taken credits
    index f among line registers l paid at

-- ---- it fits, or passes the limit

pub upper_fill :
    (upper : ℤ) → IsWide upper → int_le (pos 1) upper ≡ true → IsFill grow_fills (array_template 31 (pos 1) upper)
upper_fill (pos zero) wide less = absurd (cc less)
upper_fill (pos (suc n)) wide less =
    let few = ltb-true (suc n) (2 ^ 31) wide in inl (n, omega (arith, few), refl)
upper_fill (negsuc n) wide less = absurd (cc less)

fits_there :
    (g : Given) (p : Point) (numbers : ℕ → ℕ) → IsAmong (main_of_run g) numbers p → (q : Point) (held : ℕ → ℕ)
    (upper : ℤ) → IsAmong (setting_there g p numbers).block held q → IsWide upper → int_le (pos 1) upper ≡ true →
    Fits (setting_there g p numbers).block (array_there g p numbers) upper q
    ⊎ Passes (setting_there g p numbers).block (array_there g p numbers) upper q
fits_there g p numbers o q held upper among wide less =
    let k = (setting_there g p numbers).block in
    let x = array_there g p numbers in
    let n = linked_length (links_of grow_code) 0 grow_code in
    let lower = ap (λ ls. lower_end image_parts ls) o.later.layers in
    let frame = ap (λ ls. frame_for image_parts ls grow_inner) o.later.layers in
    let low = o.later.remains.low in
    let few = signature_inside (main_of_run g) k numbers held p q (template_with x upper) o (refl, refl) among in
    let number = few.0 in
    arrays_fit k x upper q held
    (record {
      precision = omega arith;
      here = refl;
      even = omega (arith, lower);
      room = omega (arith, lower, frame);
      low = omega (arith, low, n);
    }) among (refl, wide) less
    (lt-ltb (number_of (template_with x upper) q.places.signatures) own_signature (omega (arith, number)))
    (λ e. subst (λ fs. IsFill fs (template_with x upper)) (sym few.1) (upper_fill upper wide less))

array_is :
    (g : Given) (p : Point) (numbers : ℕ → ℕ) → IsBegun (main_of_run g) → IsAmong (main_of_run g) numbers p →
    IsEvaluatedArray (inner_from g p numbers (acted 2 (start_there g p numbers))) (setting_there g p numbers)
    (array_there g p numbers) (start_there g p numbers) numbers
array_is g p numbers b o =
    let w = surroundings_of (grow_image g.constants g.input g.acts) in
    let c = grow_callee g.more in
    let k = setting_there g p numbers in
    let n = linked_length (links_of grow_code) 0 grow_code in
    record {
      evaluated = record {
        begun = λ less.
            procedures_entered w (linked_code grow_code) c p numbers (o.stands, o.image) o.few
            (callee_is g, room_there g p numbers o) o.words less;
        newest = refl;
        block = refl;
        line = refl;
        words = refl;
        room = omega arith;
        signature = omega arith;
        line_fits = omega arith;
        acts = g.few;
        lower = refl;
        registers = (omega arith, omega arith);
        errors = extents_end k
            (record {
              routines = routines;
              place = refl;
              error = begun_system g p numbers C.Error o tt;
              acts = g.few;
              most = omega arith;
            });
        does = bound_does g p numbers b o;
      };
      labels = refl;
      words = omega arith;
      template = numbers_remain (main_of_run g).first p o.later.remains 1 (template_of (signature_of grow_declared))
          refl;
      table = refl;
      constants = record {
        behind_code = omega (arith, n);
        inside = omega arith;
        told = λ m few'. ap (λ (told : ℕ → Option ℕ). told (grow_at + m)) o.later.remains.constants ∙ g.told m few';
      };
      list = refl;
      serials = omega arith;
      paid = omega (arith, n);
      fits = λ q held upper among wide less means. fits_there g p numbers o q held upper among wide less;
    }

-- ---- the call

array_made :
    (g : Given) (p : Point) (numbers : ℕ → ℕ) → IsBegun (main_of_run g) → IsAmong (main_of_run g) numbers p →
    MakesUnpaid (Some (start_there g p numbers))
    (site_at (surroundings_of (grow_image g.constants g.input g.acts)) (linked_code grow_code) (grow_callee g.more) p
    numbers) left_over (made_at (grow_callee g.more))
array_made g p numbers b o =
    only_array
    (site_at (surroundings_of (grow_image g.constants g.input g.acts)) (linked_code grow_code) (grow_callee g.more) p
    numbers) (setting_there g p numbers) (array_there g p numbers) left_over grow_inner.head
    (array_is g p numbers b o) refl refl refl refl

first_is :
    (g : Given) (p first : Point) (numbers : ℕ → ℕ) → IsBegun (main_of_run g) → IsAmong (main_of_run g) numbers p →
    IsBegun (inner_from g p numbers first) →
    IsAssignment (inner_from g p numbers first) grow_spot grow_twice 3 inner_start 1 200
first_is g p first numbers b o b' =
    let n = linked_length (links_of grow_code) 0 grow_code in
    record {
      act = record { line_fits = omega arith; acts = g.few };
      begun = b';
      number = inner_number g p first numbers b o b';
      registers = omega arith;
      held = omega arith;
      statement = front_of (stmt_code inner_environment none_taken inner_first) [] inner_body_linked;
      paid = omega (arith, n);
    }

inner_each :
    (g : Given) (p first : Point) (numbers : ℕ → ℕ) → IsBegun (main_of_run g) → IsAmong (main_of_run g) numbers p →
    IsBegun (inner_from g p numbers first) → AreBound (Some (start_there g p numbers)) first →
    EachDoes (inner_from g p numbers first) [] inner_body (body_index (grow_callee g.more)) left_over
inner_each g p first numbers b o b' like =
    let k = inner_from g p numbers first in
    let three = setting_of k [] 3 200 in
    let start = start_there g p numbers in
    let system : (condition : Condition) → IsSystem (force (main_of_run g).first.state.activations condition) →
    IsSystem (force first.state.activations condition) =
    λ condition h. bound_system first.state.activations start.state.activations condition like
    (begun_system g p numbers condition o h) in
    let over : OverflowComes three = overflow_ends three
    (record {
      routines = routines;
      overflow = system C.FixedOverflow tt;
      error = system C.Error tt;
      acts = g.few;
      most = omega arith;
    }) in
    let operand = variable_does three grow_spot b' (inner_number g p first numbers b o b') in (
      assign_does k [] grow_spot grow_twice 3 inner_start left_over 1 200 (first_is g p first numbers b o b')
          (sum_does three grow_value grow_value 0 0 over operand operand),
      tt,
    )

call_linked :
    Linked (links_of grow_code) (linked_code grow_code) call_index
    (stmt_code grow_environment none_taken grow_call ++ stmts_code grow_environment none_taken grow_end)
call_linked = rest_of _ _ rest_linked

main_nested : (g : Given) → IsNested (main_of_run g)
main_nested g =
    record {
      own = refl;
      few = omega arith;
      some = λ n less. subst (λ m. 0 < height_of (ancestor_at (main_of_run g).first.state m)) (none_below n less) (omega arith);
      same = λ outer n less high. same_by outer n less high;
    }
  where
    none_below : (n : ℕ) → n ≤ 0 → 0 ≡ n
    none_below n less = omega (arith, less)

    same_by :
        (outer n : ℕ) → n ≤ outer → outer ≤ 0 →
        ancestor (main_of_run g).first.state.activations (height_of (ancestor_at (main_of_run g).first.state outer)) n
        ≡ ancestor_at (main_of_run g).first.state n
    same_by outer n less high =
        subst (λ m. ancestor (main_of_run g).first.state.activations
        (height_of (ancestor_at (main_of_run g).first.state m)) n ≡ ancestor_at (main_of_run g).first.state n)
        (none_below outer high)
        (subst (λ m. ancestor (main_of_run g).first.state.activations
        (height_of (ancestor_at (main_of_run g).first.state 0)) m ≡ ancestor_at (main_of_run g).first.state m)
        (none_below n (omega (arith, less, high))) refl)

calls_is :
    (g : Given) → g.acts ≡ suc g.more → IsNestedCall 0 (main_of_run g) (grow_callee g.more) 0 5 call_index g.more
calls_is g same =
    record {
      low = omega arith;
      line_fits = omega arith;
      callee = callee_is g;
      frame = omega arith;
      idle = refl;
      statement = front_of (stmt_code grow_environment none_taken grow_call)
          (stmts_code grow_environment none_taken grow_end) call_linked;
      call = refl;
      nested = main_nested g;
      around_it = omega arith;
      inner = refl;
      parent = refl;
      found = refl;
      enter = ap (entered grow_program) same;
      around = refl;
      enough = omega (arith, same);
    }

call_by :
    (constants : ℕ → Option ℕ) (input : List ℕ) (acts : ℕ) → acts + 1 < 2 ^ 64 → IsListTold constants →
    IsBegun (grow_block constants input acts) →
    Does (grow_block constants input acts) (grow_label ∷ []) grow_call call_index left_over
call_by constants input zero few told b =
    none_does (grow_block constants input zero) (grow_label ∷ []) grow_call call_index left_over b refl
call_by constants input (suc more) few told b =
    let g : Given = record {
      constants = constants;
      input = input;
      acts = suc more;
      more = more;
      few = few;
      told = told;
    } in
    unpaid_call_does (λ p numbers. Some (start_there g p numbers)) (main_of_run g) (grow_callee more) 0 5 call_index
    left_over more (calls_is g refl) refl (λ p numbers o. array_made g p numbers b o)
    (λ p first numbers o b' like. inner_each g p first numbers b o b' like) b (grow_label ∷ [])

-- ---- the main procedure

abbrev back_index : ℕ
back_index = call_index + size_of (stmt_code grow_environment none_taken grow_call)

start_is :
    (constants : ℕ → Option ℕ) (input : List ℕ) (acts : ℕ) → acts + 1 < 2 ^ 64 →
    IsBegun (grow_block constants input acts) →
    IsAssignment (grow_block constants input acts) grow_spot (Y.NumberConstant 100000) 4 grow_start 0 200
start_is constants input acts few b =
    let n = linked_length (links_of grow_code) 0 grow_code in
    record {
      act = record { line_fits = omega arith; acts = few };
      begun = b;
      number = outer_number constants input acts;
      registers = omega arith;
      held = omega arith;
      statement = front_of (stmt_code grow_environment none_taken grow_first)
          (stmts_code grow_environment none_taken grow_rest) body_linked;
      paid = omega (arith, n);
    }

pub grow_each :
    (constants : ℕ → Option ℕ) (input : List ℕ) (acts : ℕ) → acts + 1 < 2 ^ 64 → IsListTold constants →
    IsBegun (grow_block constants input acts) →
    EachDoes (grow_block constants input acts) (grow_label ∷ []) grow_body
    (body_index (main_of (grow_whole constants input acts))) left_over
grow_each constants input acts few told b =
    let k = grow_block constants input acts in
    let labels = grow_label ∷ [] in (
      assign_does k labels grow_spot (Y.NumberConstant 100000) 4 grow_start left_over 0 200
          (start_is constants input acts few b) (constant_does (setting_of k labels 4 200) 100000 (omega arith)),
      (
        call_by constants input acts few told b,
        (
          goto_does k labels grow_label 6 back_index left_over (record { line_fits = omega arith; acts = few })
              (record {
                begun = b;
                carried = refl;
                level = refl;
                block = refl;
                at = call_index;
                place = refl;
                near = omega arith;
              })
              (front_of (stmt_code grow_environment none_taken grow_back) []
              (back_of (stmt_code grow_environment none_taken grow_call)
              (stmts_code grow_environment none_taken grow_end) call_linked)),
          tt,
        ),
      ),
    )

-- ---- the whole

pub grow_is :
    (constants : ℕ → Option ℕ) (input first : List ℕ) (acts : ℕ) → acts + 1 < 2 ^ 64 →
    length first ≡ memory_size →
    AreTold constants (4 * length (linked_code grow_code)) image_parts.stack_start first →
    IsWhole (grow_whole constants input acts) first
grow_is constants input first acts few bytes told =
    let l = back_of (first_frame image_parts) (main_called 0) start_linked in
    record {
      start = record { linked = start_linked; differ = both_differ; bytes = bytes; told = told };
      made = one_made (surroundings_of (grow_image constants input acts)) (linked_code grow_code)
          (main_of (grow_whole constants input acts)) (start_point (grow_image constants input acts)) no_numbers
          W.number_declared (outer_only constants input acts);
      callee = record {
        coded = record { level = omega arith; line = omega arith; saved = omega arith; back = omega arith };
        calls = first_of (CallTo (ProcedureEntry 0)) _ (rest_of _ _ (rest_of _ _ (rest_of _ _ l)));
        place = refl;
        stands = main_linked;
        end = refl;
        kind = refl;
        labels = (
          λ label e. absurd (cc e),
          (
            one_label_stands (links_of grow_code) call_index refl,
            (λ label e. absurd (cc e), λ label e. absurd (cc e)),
          ),
        );
        acts = few;
      };
      room = record { room = omega arith; shallow = refl; parent = tt; idle = refl };
      level = refl;
      procedures = refl;
      statics = refl;
    }

pub grow_runs :
    Keeps run_keeper → (constants : ℕ → Option ℕ) (input first : List ℕ) (acts : ℕ) → acts + 1 < 2 ^ 64 →
    length first ≡ memory_size → IsListTold constants →
    AreTold constants (4 * length (linked_code grow_code)) image_parts.stack_start first →
    Comes (linked_code grow_code) 0 (first_family first (services_of (start_point (grow_image constants input acts))))
    (services_of (start_point (grow_image constants input acts))) (never_in (grow_image constants input acts))
    (run grow_program (suc acts) acts (first_state input))
grow_runs keeps constants input first acts few bytes list told =
    program_runs keeps (grow_whole constants input acts) first (grow_is constants input first acts few bytes told)
    (λ b. grow_each constants input acts few list b)

-- ---- what the program comes to

unfoldable flows : Unit {0}
unfolding F.give F.◌>>=◌ F.◌>>◌ F.looked F.stored F.act F.finish F.returns F.jumps F.choose F.given F.list_from
    F.leaving
flows = tt

unfoldable values : Unit {0}
unfolding V.number V.designated V.located V.numbers V.variable_designated V.part_designated V.stored_value R.or_error
    R.demanded R.value_of R.raised R.unit_run R.error R.error_unit_run P.element_stored M.assigned
values = tt

unfoldable calls : Unit {0}
unfolding V.called V.arguments V.all_passed_last V.procedure_entered V.returned K.variables_made K.automatic_made
    K.extents K.evaluations K.variable_made K.parameters_bound
calls = tt

unfoldable statements : Unit {0}
unfolding M.statement M.statements M.list M.list_with M.block_variables_made M.entry_act M.block_list M.block_body
statements = tt

pub grow_ends :
    (input : List ℕ) →
    M.meaning grow_program input 15
    ≡ Some (record { acts = 15; output = []; raised = []; end = E.Limit N.Automatic })
unfolding M.meaning M.run M.entered M.block_run flows values calls statements
grow_ends input = refl
