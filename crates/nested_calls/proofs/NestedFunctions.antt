-- Calls in expressions of a function that the running block declares, or a block around it.
use Rattle.std.proofs.Common.{◌≡◌, ℕ, ◌+◌, ◌≤◌, [], ◌++◌, length, Option, Some, None, true, false}
use Rattle.std.proofs.Common.{refl, sym, ap, ◌∙◌, subst, arith}
use Rattle.std.proofs.lemmas.List.{append_assoc}
use Rattle.std.specs.Prelude.{ℤ, nat_lt, ◌==◌}
use Rattle.pli_language.specs.declared.condition.Condition.TheVariants as C
use Rattle.pli_typing.specs.TypedTree as Y
use Rattle.pli_meaning.specs.BasicValues.{BasicBit, BasicNumber, BasicOffset, BasicPointer, BasicText, BasicValue}
use Rattle.pli_meaning.specs.Contents.{number_in}
use Rattle.pli_meaning.specs.Control.{Meaning, give, looked, ◌>>=◌, ◌>>◌}
use Rattle.pli_meaning.specs.Evaluating as V
use Rattle.pli_meaning.specs.Executing as M
use Rattle.pli_meaning.specs.Raising.{Around, Entry}
use Rattle.pli_meaning.specs.StorageState.{State, ancestor, ancestor_at, force, height_of, most_activations}
use Rattle.pli_meaning.specs.StorageState.{newest_height}
use Rattle.pli_serving.specs.ServiceState.{Services}
use Rattle.pli_coding.specs.Allocating.{act_code}
use Rattle.pli_coding.specs.Assembly.{Code, size_of}
use Rattle.pli_coding.specs.Environments.{none_taken}
use Rattle.pli_coding.specs.Expressions.{number_code}
use Rattle.pli_coding.specs.Frames.{fixed_size, words_place}
use Rattle.pli_coding.specs.Instructions.{number, plus}
use Rattle.pli_coding.specs.Registers.{a1, a2, frame_register}
use Rattle.pli_coding.specs.Statements.{stmts_code}
use Rattle.activation_relation.specs.Chains.{frame_at}
use Rattle.activation_relation.specs.Frames.{lower_end}
use Rattle.activation_relation.specs.Layers.{Point, services_of}
use Rattle.activation_relation.specs.ServiceLaws.{IsSystem}
use Rattle.activation_relation.proofs.Returning.{later_then}
use Rattle.run_steps.specs.Items.{Linked}
use Rattle.run_steps.proofs.Jumps.{back_of, front_of}
use Rattle.run_steps.proofs.Linking.{size_append}
use Rattle.run_steps.specs.Reach.{Comes, Family, before}
use Rattle.run_steps.proofs.Reach.{before_closed, comes_on, onward, reach_map}
use Rattle.block_runs.specs.Bodies.{IsBehind, behind_aims}
use Rattle.block_runs.specs.Machines.{IsIn}
use Rattle.block_runs.proofs.CallStatements.{comes_map}
use Rattle.program_runs.specs.Calls.{AreMade, Callee, body_index, labels_of, left_over}
use Rattle.program_runs.specs.Procedures.{HasRoom, begin_of, block_of, frame_for}
use Rattle.program_runs.specs.Statements.{EachDoes, IsAmong, IsBegun}
use Rattle.expression_runs.specs.Laws as L
use Rattle.expression_runs.specs.Values.{Setting, behind, in_registers, number_aims}
use Rattle.expression_runs.proofs.Words.{number_closed}
use Rattle.function_runs.specs.FunctionCalls.{called_from}
use Rattle.function_runs.specs.Functions.{IsFunction, function_at, function_beginning, function_block, function_entry}
use Rattle.function_runs.specs.Functions.{function_tail}
use Rattle.function_runs.proofs.Functions.{function_runs}
use Rattle.nested_calls.specs.Nested.{given_code, parent_at, parent_code}
use Rattle.nested_calls.specs.NestedFunctions.{IsNestedFunction, value_at}
use Rattle.nested_calls.proofs.DeepBeginnings.{deep_comes}
use Rattle.nested_calls.proofs.DeepCalls.{deep_means, fits_among, is_deep}
use Rattle.nested_calls.proofs.GivenCode.{given}
use Rattle.nested_calls.proofs.NestedCalls.{call_of, is_parent, parent_inside, parent_reached}

-- ---- its code

abbrev pub given_in : Setting → (level : ℕ) → Code
given_in k level = given_code (level == k.block.environment.level) k.words level

pub value_coded :
    (k : Setting) (c : Callee) (level taken : ℕ) →
    number_code k.block.environment (in_registers k.words taken) (value_at c level) ≡ given_in k level ++ call_of c
value_coded k c level taken =
    let q = level == k.block.environment.level in
    let list = plus a1 frame_register (words_place k.words 0) in
    ap (λ u. list ++ u) (sym (append_assoc (number a2 0) (parent_code q level) (call_of c)))
    ∙ sym (append_assoc list (number a2 0 ++ parent_code q level) (call_of c))

-- ---- where it is called

pub room_among :
    (k : Setting) (c : Callee) (level more : ℕ) {numbers : ℕ → ℕ} {p : Point} → IsNestedFunction k c level more →
    nat_lt (length k.block.first.state.activations) most_activations ≡ true → IsAmong k.block numbers p →
    (call : ℕ) → HasRoom k.block.call.surroundings p c.procedure (called_from c call).calling
room_among k c level more h few o call =
    let parts = k.block.call.surroundings.parts in
    let x = c.procedure in
    record {
      room = subst (λ ls. frame_for parts ls x + fixed_size x.head.level 0 ≤ lower_end parts ls) (sym o.later.layers)
          h.frame;
      shallow = subst (λ xs. nat_lt (length xs) most_activations ≡ true) (sym o.later.activations) few;
      parent = is_parent level x.head.level c.calling.parent h.nested o h.around_it h.inner h.parent;
      idle = o.later.waiting ∙ h.idle;
    }

-- it doesn't depend on where the call stands
pub function_from :
    (k : Setting) (c : Callee) (call : ℕ) → IsFunction k.block.call.surroundings k.block.call.code c →
    IsFunction k.block.call.surroundings k.block.call.code (called_from c call)
function_from k c call h =
    record {
      level = h.level;
      line = h.line;
      saved = h.saved;
      place = h.place;
      stands = h.stands;
      end = h.end;
      kind = h.kind;
      labels = h.labels;
      acts = h.acts;
      routines = h.routines;
      raises = h.raises;
    }

-- what the call means
pub called_means :
    (k : Setting) (c : Callee) (level more : ℕ) {numbers : ℕ → ℕ} {p : Point} → IsNestedFunction k c level more →
    IsAmong k.block numbers p →
    V.called k.around (Y.Calling c.procedure.head.number level Y.NoArgument) k.block.call.surroundings.acts p.state
    ≡ M.block_run c.around (block_of c.procedure) (function_entry c.procedure c.calling.parent)
    k.block.call.surroundings.acts p.state
unfolding V.called V.arguments V.all_passed_last V.procedure_entered M.entered looked give ◌>>=◌ ◌>>◌
called_means k c level more {p = p} h o =
    let s = p.state in
    let acts = k.block.call.surroundings.acts in
    let height = height_of (ancestor_at s level) in
    ap (λ q. V.procedure_entered k.around q level [] acts s) h.found
    ∙ ap (λ (enters : Entry → Meaning (Option BasicValue)). enters (function_entry c.procedure height) acts s) h.enter
    ∙ ap (λ (a : Around). M.block_run a (block_of c.procedure) (function_entry c.procedure height) acts s)
    (sym h.around)
    ∙ ap (λ m. M.block_run c.around (block_of c.procedure) (function_entry c.procedure m) acts s)
    (ap (λ xs. height_of (ancestor xs (newest_height xs) level)) o.later.activations ∙ sym h.parent)

-- ---- what comes back

abbrev pub as_number : Option BasicValue → Meaning ℤ
as_number r = V.returned r >>= (λ v. give (number_in v))

pub behind_goes :
    (k : Setting) (c : Callee) (taken index credits : ℕ) {numbers : ℕ → ℕ} {p : Point} (o : IsAmong k.block numbers p)
    (part : Code) (call : ℕ) → call + 2 ≡ index + size_of part → (c' : ℕ) (f : Family) (v : Services)
    (r : Option BasicValue) (s : State) →
    IsBehind (function_at k.block.call.surroundings k.block.call.code (called_from c call) p numbers)
    (credits + size_of part) c' f v r s →
    Comes k.block.call.code c' f v (number_aims k.block k.labels (behind p numbers taken credits index part))
    (as_number r k.block.call.surroundings.acts s)
unfolding V.returned ◌>>=◌ give
behind_goes k c taken index credits {numbers} {p} o part call at c' f v (Some (BasicNumber z)) s q =
    let w = k.block.call.surroundings in
    record {
      to = λ early. (
        q.result.1,
        record {
          point = q.point;
          numbers = numbers;
          among = record {
            stands = q.stands;
            image = q.image;
            later = later_then k.block.first p q.point o.later q.later;
            few = q.few;
            entries = q.entries ∙ o.entries;
            others = o.others;
            words = o.words;
          };
          since = q.later.acts;
          line = q.line;
          stays = λ n less. refl;
          state = q.state;
          reach = reach_map _ q.reach (λ b y is. (
            subst (λ j. IsIn w q.point numbers j b y) at is.0,
            is.1 ∙ q.result.0,
          ));
        },
      );
    }
behind_goes k c taken index credits o part call at c' f v None s q = absurd q.result
behind_goes k c taken index credits o part call at c' f v (Some (BasicBit b)) s q = absurd q.result
behind_goes k c taken index credits o part call at c' f v (Some (BasicOffset b)) s q = absurd q.result
behind_goes k c taken index credits o part call at c' f v (Some (BasicText b)) s q = absurd q.result
behind_goes k c taken index credits o part call at c' f v (Some (BasicPointer b)) s q = absurd q.result

-- ---- the call

pub nested_function_does :
    (k : Setting) (c : Callee) (level more : ℕ) → IsNestedFunction k c level more →
    nat_lt (length k.block.first.state.activations) most_activations ≡ true →
    ((call : ℕ) (p : Point) (numbers : ℕ → ℕ) → IsAmong k.block numbers p →
    AreMade k.block.call.surroundings k.block.call.code (called_from c call) p numbers
    × IsSystem (force (function_block k.block.call.surroundings k.block.call.code (called_from c call) p
    numbers).first.state.activations C.Error)) →
    ((call : ℕ) (p : Point) (numbers : ℕ → ℕ) → IsAmong k.block numbers p →
    IsBegun (function_block k.block.call.surroundings k.block.call.code (called_from c call) p numbers) →
    EachDoes (function_block k.block.call.surroundings k.block.call.code (called_from c call) p numbers) (labels_of c)
    c.procedure.body (body_index c) left_over) →
    L.Does k 0 (value_at c level)
unfolding V.number ◌>>=◌
nested_function_does k c level more h few made' each p numbers taken credits index f o line registers l paid there =
    let w = k.block.call.surroundings in
    let code = k.block.call.code in
    let given' = given_in k level in
    let call' = call_of c in
    let eq = value_coded k c level taken in
    let part = number_code k.block.environment (in_registers k.words taken) (value_at c level) in
    let size = ap (λ u. size_of u) eq in
    let n = size_append given' call' in
    let l' = subst (Linked w.links code index) eq l in
    let call = index + size_of given' in
    let c' = called_from c call in
    let y = behind p numbers taken credits index part in
    let goal = number_aims k.block k.labels y in
    let closed = number_closed k.block k.labels y in
    let tree = Y.Calling c.procedure.head.number level Y.NoArgument in
    let entry = function_entry c.procedure c.calling.parent in
    let flow = M.block_run c.around (block_of c.procedure) entry w.acts p.state in
    let base = frame_at k.block.first.control.layers (parent_at k.block level) in
    let most = h.most in
    let enough = h.enough in
    let turns = ap (λ (a : Around). a.turns) h.around in
    let later = o.later.acts in
    comes_on w.acts (V.called k.around tree w.acts p.state) as_number
    (subst (Comes code credits f (services_of p) (before code goal w.acts as_number))
    (sym (called_means k c level more h o))
    (onward (before_closed w.acts as_number closed)
    (given (level == k.block.environment.level) k.words level base
    (function_beginning w p numbers c.procedure c.calling) index credits f o.stands o.image (h.words, refl)
    (parent_reached level h.nested h.begun o h.around_it) (
      parent_inside level h.nested o h.around_it,
      ap (λ ls. frame_at ls (parent_at k.block level)) (sym o.later.layers)
          ∙ ap (λ j. frame_at p.control.layers j) (sym h.parent),
    )
    (front_of given' call' l') there)
    (λ g at.
    comes_map (behind_aims (function_at w code c' p numbers) (credits + size_of part))
    (before code goal w.acts as_number) refl flow
    (λ c1 f1 v1 r s q. behind_goes k c taken index credits o part call (omega (arith, size, n)) c1 f1 v1 r s q)
    (λ c1 f1 v1 height label s q. absurd q)
    (λ c1 f1 v1 r s q. absurd q)
    (function_runs w code c' p numbers (credits + size_of given') (credits + size_of part) g (o.stands, o.image)
    o.few (function_from k c call h.function, room_among k c level more h few o call) (back_of given' call' l')
    (made' call p numbers o).0 o.words
    (each call p numbers o) (made' call p numbers o).1 (omega (arith, enough, turns, later))
    (omega (arith, paid, most, size, n)) (λ b. (at b).0)
    (λ b. record { parent = (at b).1.parent; texts = (at b).1.texts })))))

-- ---- where as many blocks are active as may be

abbrev rest_of : Callee → Code
rest_of c =
    c.procedure.variables
    ++ (act_code c.procedure.head.line
    ++ (stmts_code c.environment none_taken c.procedure.body ++ function_tail c.procedure))

pub deep_function_ends :
    (k : Setting) (c : Callee) (level more : ℕ) → IsNestedFunction k c level more →
    nat_lt (length k.block.first.state.activations) most_activations ≡ false → L.Does k 0 (value_at c level)
unfolding V.number ◌>>=◌
deep_function_ends k c level more h many p numbers taken credits index f o line registers l paid there =
    let w = k.block.call.surroundings in
    let code = k.block.call.code in
    let x = c.procedure in
    let given' = given_in k level in
    let call' = call_of c in
    let eq = value_coded k c level taken in
    let part = number_code k.block.environment (in_registers k.words taken) (value_at c level) in
    let size = ap (λ u. size_of u) eq in
    let n = size_append given' call' in
    let n1 = size_append (begin_of x) (rest_of c) in
    let l' = subst (Linked w.links code index) eq l in
    let call = index + size_of given' in
    let y = behind p numbers taken credits index part in
    let goal = number_aims k.block k.labels y in
    let closed = number_closed k.block k.labels y in
    let tree = Y.Calling x.head.number level Y.NoArgument in
    let entry = function_entry x c.calling.parent in
    let base = frame_at k.block.first.control.layers (parent_at k.block level) in
    let most = h.most in
    let inside = l'.inside in
    let small' = l'.small' in
    comes_on w.acts (V.called k.around tree w.acts p.state) as_number
    (subst (Comes code credits f (services_of p) (before code goal w.acts as_number))
    (sym (called_means k c level more h o ∙ deep_means c.around x.head x.body entry w.acts p.state
    (subst (λ xs. nat_lt (length xs) most_activations ≡ false) (sym o.later.activations) many)))
    (onward (before_closed w.acts as_number closed)
    (given (level == k.block.environment.level) k.words level base
    (function_beginning w p numbers x c.calling) index credits f o.stands o.image (h.words, refl)
    (parent_reached level h.nested h.begun o h.around_it) (
      parent_inside level h.nested o h.around_it,
      ap (λ ls. frame_at ls (parent_at k.block level)) (sym o.later.layers)
          ∙ ap (λ j. frame_at p.control.layers j) (sym h.parent),
    )
    (front_of given' call' l') there)
    (λ g at.
    deep_comes (before_closed w.acts as_number closed) (credits + size_of given') call c.calling.entry g
    (is_deep w code p numbers x (called_from c call).calling entry (o.stands, o.image)
    (fits_among x (called_from c call).calling level h.nested o (h.around_it, h.inner, h.parent)
    (h.function.level, h.function.line, h.function.saved, omega (arith, inside, small', n)) h.frame many h.idle)
    (refl, refl))
    (record {
      calls = back_of given' call' l';
      place = h.function.place;
      begins = front_of (begin_of x) (rest_of c) h.function.stands;
      back = refl;
    }) (omega (arith, n, n1, paid, most, size), h.function.acts)
    (λ b'. (at b').0)
    (λ b'. record { parent = (at b').1.parent; texts = (at b').1.texts }))))
