-- Calls in a block of what the program may call: they do what they mean if the statements of blocks that may be entered
-- one level less deep do.
use Rattle.std.proofs.Common.{◌≡◌, ℕ, zero, suc, ◌+◌, ◌^◌, ◌<◌, ◌≤◌, List, [], ◌∷◌, ◌++◌, length}
use Rattle.std.proofs.Common.{Bool, None, Some, true, false, refl, sym, ap, subst, arith}
use Rattle.std.specs.Prelude.{nat_le, nat_lt}
use Rattle.std.proofs.lemmas.Bool.{leb-true}
use Rattle.std.proofs.lemmas.Bool.Decides.{nat_tests}
use Rattle.pli_typing.specs.TypedTree as Y
use Rattle.pli_meaning.specs.Control.{Label}
use Rattle.pli_meaning.specs.DeclaredShapes.{procedure_numbered, variables_of_block}
use Rattle.pli_meaning.specs.Executing.{entered}
use Rattle.pli_meaning.specs.StorageState.{automatic_in_use, most_activations, most_automatic}
use Rattle.pli_coding.specs.Allocating.{act_code}
use Rattle.pli_coding.specs.Assembly.{size_of}
use Rattle.pli_coding.specs.Images.{linked_code}
use Rattle.pli_coding.specs.Statements.{stmt_code}
use Rattle.code_marks.specs.CodeMarks.{MarkedOnce}
use Rattle.activation_relation.specs.Frames.{lower_end, upper_top}
use Rattle.activation_relation.specs.Layers.{Point}
use Rattle.run_steps.specs.Items.{Linked}
use Rattle.run_steps.proofs.Jumps.{back_of}
use Rattle.run_steps.proofs.Linking.{size_append}
use Rattle.program_places.specs.Programs.{code_for, links_for, procedures_index}
use Rattle.program_places.specs.Programs.{program_environment}
use Rattle.program_places.proofs.Callees.{callee_stands}
use Rattle.program_places.proofs.Found.{known}
use Rattle.program_places.proofs.Functions.{function_stands}
use Rattle.program_runs.specs.Calls.{left_over}
use Rattle.program_runs.specs.Starts.{image_parts}
use Rattle.program_runs.specs.Statements.{DoesWith, Outer, as_outer, set_aside}
use Rattle.expression_runs.specs.Assignments.{setting_around}
use Rattle.expression_runs.specs.Laws as L
use Rattle.nested_calls.specs.NestedCalls.{HasFrame, IsNestedCall}
use Rattle.nested_calls.specs.NestedFunctions.{IsNestedFunction}
use Rattle.nested_calls.proofs.DeepCalls.{deep_call_ends}
use Rattle.nested_calls.proofs.FullCalls.{full_call_ends, full_function_ends}
use Rattle.nested_calls.proofs.NestedCalls.{call_coded, call_of, given_in}
use Rattle.nested_calls.proofs.NestedFunctions.{deep_function_ends}
use Rattle.number_runs.specs.Knowledge.{Includes, KnowsCalls, call_number, call_statement, most_set}
use Rattle.number_runs.specs.Variables.{bytes_of}
use Rattle.unit_numbers.proofs.Callees.{callee_of, site_of}
use Rattle.unit_numbers.proofs.Entered.{called_entered, called_part}
use Rattle.unit_numbers.proofs.Full.{are_full}
use Rattle.unit_numbers.proofs.Homes.{Home, IsHome'}
use Rattle.unit_numbers.proofs.Inner.{Inner, inner_is, inner_set, precision_of, returns_so}
use Rattle.unit_numbers.proofs.Mains.{Main, most_for, run_for}
use Rattle.unit_numbers.proofs.Named.{Moment, are_made, bare_block, entered_at}
use Rattle.unit_numbers.proofs.Established.{entry_low}
use Rattle.unit_numbers.proofs.Raised.{around_for}
use Rattle.unit_numbers.proofs.Hosts.{Part}
use Rattle.unit_numbers.proofs.Scenes.{Carries, EachBody, IsAt, block_of, carries_more, scope_of}
use Rattle.number_headlines.proofs.NestedJumps.{nested_jump_call_does, nested_jump_function_does}

-- the frame of what is called has room
frame_fits :
    {program : Y.Program} (m : Main program) (h : Home) (more b : ℕ) (part : Part) (out : Outer) (os : List Outer) →
    IsAt m h (suc more) (suc b) part out os → {v : Bool} {level number : ℕ} (i : Inner m part.caller v level number)
    (call : ℕ) (p : Point) (numbers : ℕ → ℕ) →
    HasFrame (block_of m h out os) (callee_of program v more (entered_at i (block_of m h out os) call p numbers))
frame_fits {program} m h more b part out os a {v} i call p numbers =
    let words = inner_set m i in
    let waiting = i.fit.waiting in
    let level = (known program i.head i.body i.result m.loadable.well_formed i.is).level in
    let fits = a.free.fits in
    let used = a.free.used in
    let top = ap (λ ls. upper_top image_parts ls) a.free.newest in
    let low = ap (λ ls. lower_end image_parts ls) a.free.newest in
    omega (arith, words, waiting, level, fits, used, top, low)

by_decision : (q : Bool) {P : Type 0} → (q ≡ true → P) → (q ≡ false → P) → P
by_decision true one other = one refl
by_decision false one other = other refl

past : (used : ℕ) → nat_le used most_automatic ≡ false → most_automatic < used
past used e = grind (arith, e, nat_tests)

-- ---- CALL

call_by :
    MarkedOnce → {program : Y.Program} (m : Main program) (h : Home) → IsHome' m h → (more b : ℕ) (part : Part)
    (out : Outer) (os : List Outer) → IsAt m h (suc more) (suc b) part out os → EachBody m more →
    (own : List Label) → Carries part own → (words : ℕ) → words ≤ most_set →
    (labels : List Label) → Includes own labels → (level number line index : ℕ) →
    Inner m part.caller false level number → line < 2 ^ 31 →
    Linked (links_for program) (linked_code (code_for program)) index
    (stmt_code out.environment (set_aside words) (call_statement level number line)) →
    DoesWith words (block_of m h out os) labels (call_statement level number line) index left_over
call_by once {program} m h ih more b part out os a each own carries words set labels includes level number line index i
    less l =
    let k = block_of m h out os in
    let used = automatic_in_use k.first.state.living + bytes_of (variables_of_block program i.head.number) in
    let one = act_code line in
    let given' = given_in words k level in
    let c0 = callee_of program false more (entered_at i k 0 k.first (λ n. 0)) in
    let last = call_of c0 in
    let l0 = subst (λ n. Linked (links_for program) (linked_code (code_for program)) index
    (stmt_code out.environment (set_aside words) (call_statement level n line))) (sym i.numbered) l in
    let eq = call_coded words k c0 level line in
    let l' = subst (Linked (links_for program) (linked_code (code_for program)) index) eq l0 in
    let size = ap (λ u. size_of u) eq in
    let n0 = size_append one (given' ++ last) in
    let n1 = size_append given' last in
    let call = index + size_of one + size_of given' in
    let c = callee_of program false more (entered_at i k call k.first (λ n. 0)) in
    let around = i.around_it in
    let inside = a.inside in
    let is : IsNestedCall words k c level line index more = record {
      low = omega (arith, set);
      line_fits = less;
      callee = callee_stands once program i.head i.body (run_for m h.input h.acts)
          (site_of program more (entered_at i k call k.first (λ n. 0))) m.loadable (returns_so i)
          (back_of given' last (back_of one (given' ++ last) l')) ih.few;
      frame = frame_fits m h more b part out os a i call k.first (λ n. 0);
      idle = a.idle;
      statement = l0;
      call = omega (arith, size, n0, n1);
      nested = a.nested;
      around_it = omega (arith, around, inside);
      inner = i.inside;
      parent = refl;
      found = subst (λ y. procedure_numbered i.head.number y.procedures
          ≡ Some (record { block = Y.BlockOf i.head i.body; parameters = []; result = None })) (sym a.around)
          (returns_so i);
      enter = subst (λ y. out.around.enter ≡ entered y (suc more)) (sym a.around) a.enter;
      around = ap (λ y. around_for y more) (sym a.around);
      enough = a.enough;
    } in
    subst (λ n. DoesWith words k labels (call_statement level n line) index left_over) i.numbered
    (by_decision (nat_lt (length out.first.state.activations) most_activations)
    (λ shallow.
    by_decision (nat_le used most_automatic)
    (λ e.
    let pass = leb-true used most_automatic e in
    nested_jump_call_does words k labels c level line index left_over more is shallow
    (λ p numbers o. are_made m (record { at = a; among = o }) i call pass)
    (λ p numbers o list'.
    let r = entered_at i k call p numbers in
    let os' = as_outer k labels ∷ os in
    (each h b (called_part i) (as_outer (bare_block m h false more r) []) os' ih
    (called_entered once m (record { at = a; among = o }) i call labels
    (carries_more part own labels carries includes) pass shallow list'.begun)).list
    refl)
    a.begun)
    (λ e.
    full_call_ends words k c level line index left_over more is shallow
    (λ p numbers o. are_full m (record { at = a; among = o }) i call ih.few (past used e)) a.begun labels))
    (λ deep. deep_call_ends words k c level line index left_over more is deep a.begun labels))

-- ---- functions

value_by :
    MarkedOnce → {program : Y.Program} (m : Main program) (h : Home) → IsHome' m h → (more b : ℕ) (part : Part)
    (out : Outer) (os : List Outer) → IsAt m h (suc more) (suc b) part out os → EachBody m more →
    (own : List Label) → Carries part own → (words : ℕ) → words ≤ most_set →
    (labels : List Label) → Includes own labels → (line level number : ℕ) →
    Inner m part.caller true level number →
    L.Does (setting_around words (block_of m h out os) labels line (most_for program)) 0 (call_number level number)
value_by once {program} m h ih more b part out os a each own carries words set labels includes line level number i =
    let k = block_of m h out os in
    let z = setting_around words k labels line (most_for program) in
    let used = automatic_in_use k.first.state.living + bytes_of (variables_of_block program i.head.number) in
    let c = callee_of program true more (entered_at i k 0 k.first (λ n. 0)) in
    let inside = i.inside in
    let around = i.around_it in
    let within' = a.inside in
    let stands = function_stands once program i.head i.body (precision_of i) (run_for m h.input h.acts)
    (site_of program more (entered_at i k 0 k.first (λ n. 0))) m.loadable (returns_so i) (omega (arith, inside)) ih.few
    in
    let within = stands.stands.inside in
    let low = entry_low (program_environment program) i.head.number program.procedures (procedures_index program) in
    let is : IsNestedFunction z c level more = record {
      begun = a.begun;
      function = stands;
      frame = frame_fits m h more b part out os a i 0 k.first (λ n. 0);
      idle = a.idle;
      nested = a.nested;
      around_it = omega (arith, around, within');
      inner = i.inside;
      parent = refl;
      type = Y.FixedLeaf (precision_of i);
      found = subst (λ y. procedure_numbered i.head.number y.procedures
          ≡ Some (record {
            block = Y.BlockOf i.head i.body;
            parameters = [];
            result = Some (Y.FixedLeaf (precision_of i));
          }))
          (sym a.around) (returns_so i);
      enter = subst (λ y. out.around.enter ≡ entered y (suc more)) (sym a.around) a.enter;
      around = ap (λ y. around_for y more) (sym a.around);
      enough = a.enough;
      most = omega (arith, within, low);
      words = omega (arith, set);
    } in
    subst (λ n. L.Does z 0 (call_number level n)) i.numbered
    (by_decision (nat_lt (length out.first.state.activations) most_activations)
    (λ shallow.
    by_decision (nat_le used most_automatic)
    (λ e.
    let pass = leb-true used most_automatic e in
    nested_jump_function_does z c level more is shallow
    (λ call p numbers o. are_made m (record { at = a; among = o }) i call pass)
    (λ call p numbers o list'.
    let r = entered_at i k call p numbers in
    let os' = as_outer k labels ∷ os in
    let moment : Moment m h (suc more) (suc b) part out os p numbers = record { at = a; among = o } in
    let goes = each h b (called_part i) (as_outer (bare_block m h true more r) []) os' ih
    (called_entered once m moment i call labels (carries_more part own labels carries includes) pass shallow
    list'.begun) in
    goes.function refl list'))
    (λ e.
    full_function_ends z c level more is shallow
    (λ call p numbers o. are_full m (record { at = a; among = o }) i call ih.few (past used e))))
    (λ deep. deep_function_ends z c level more is deep))

-- ---- both

pub calls_of :
    MarkedOnce → {program : Y.Program} (m : Main program) (h : Home) → IsHome' m h → (more blocks : ℕ) (part : Part)
    (out : Outer) (os : List Outer) → IsAt m h (suc more) blocks part out os → EachBody m more →
    (own : List Label) → Carries part own →
    KnowsCalls (scope_of m part) (block_of m h out os) own (most_for program) left_over
calls_of once m h ih more zero part out os a each own carries =
    let some = a.depth.some in absurd (omega (arith, some))
calls_of once m h ih more (suc b) part out os a each own carries =
    record {
      functions = λ words set labels line level n includes f.
          value_by once m h ih more b part out os a each own carries words set.0 labels includes line level n
          (inner_is m part.caller true level n f);
      procedures = λ words set labels level n line index includes f less l.
          call_by once m h ih more b part out os a each own carries words set.0 labels includes level n line index
          (inner_is m part.caller false level n f) less l;
    }
