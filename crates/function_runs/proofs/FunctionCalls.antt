-- A call of a function in an expression of the block that declares it.
use Rattle.std.proofs.Common.{◌≡◌, ℕ, suc, ◌+◌, ◌<◌, ◌≤◌, List, [], ◌∷◌, ◌++◌, length, Option, Some, None, true, refl}
use Rattle.std.proofs.Common.{sym, ap, ◌∙◌, subst, arith}
use Rattle.std.proofs.lemmas.Bool.{eq-eqb}
use Rattle.std.proofs.lemmas.List.{append_assoc}
use Rattle.std.specs.Prelude.{ℤ, cond, nat_lt, ◌==◌}
use Rattle.rv_meaning.specs.Words.{word}
use Rattle.pli_language.specs.declared.condition.Condition.TheVariants as C
use Rattle.pli_typing.specs.TypedTree as Y
use Rattle.pli_meaning.specs.BasicValues.{BasicBit, BasicNumber, BasicOffset, BasicPointer, BasicText, BasicValue}
use Rattle.pli_meaning.specs.Contents.{number_in}
use Rattle.pli_meaning.specs.Control.{Meaning, give, looked, ◌>>=◌, ◌>>◌}
use Rattle.pli_meaning.specs.Evaluating as V
use Rattle.pli_meaning.specs.Executing as M
use Rattle.pli_meaning.specs.Raising.{Around, Entry}
use Rattle.pli_meaning.specs.StorageState.{State, ancestor, ancestor_at, force, height_of, most_activations}
use Rattle.pli_meaning.specs.StorageState.{newest_height}
use Rattle.pli_serving.specs.ServiceState.{Services}
use Rattle.pli_coding.specs.Assembly.{Code, size_of}
use Rattle.pli_coding.specs.Expressions.{number_code}
use Rattle.pli_coding.specs.Frames.{display, fixed_size, result}
use Rattle.pli_coding.specs.Instructions.{load_word, move, number}
use Rattle.pli_coding.specs.Registers.{a0, a2, frame_register}
use Rattle.activation_relation.specs.Chains.{HasParent, frame_at}
use Rattle.activation_relation.specs.Frames.{frame_under, lower_end}
use Rattle.activation_relation.specs.Layers.{Point, services_of}
use Rattle.activation_relation.specs.ServiceLaws.{IsSystem}
use Rattle.activation_relation.proofs.Returning.{later_then}
use Rattle.run_steps.specs.Items.{Linked}
use Rattle.run_steps.proofs.Jumps.{back_of, front_of}
use Rattle.run_steps.proofs.Linking.{size_append}
use Rattle.run_steps.specs.Reach.{Comes, Family, before}
use Rattle.run_steps.proofs.Reach.{before_closed, comes_on, onward, reach_map, reach_with}
use Rattle.block_runs.specs.Bodies.{IsBehind, IsResult, behind_aims}
use Rattle.block_runs.specs.CallStatements.{CallStatement}
use Rattle.block_runs.specs.Machines.{IsIn}
use Rattle.block_runs.proofs.CallStatements.{arguments_given, call_code_of, comes_map, given_code, list_code}
use Rattle.program_runs.specs.Calls.{AreMade, Callee, body_index, labels_of, left_over}
use Rattle.program_runs.specs.Procedures.{HasRoom, block_of, frame_for}
use Rattle.program_runs.specs.Statements.{EachDoes, IsAmong, IsBegun}
use Rattle.program_runs.proofs.NewestBlocks.{Newest, newest_at, own_ancestor}
use Rattle.expression_runs.specs.Laws as L
use Rattle.expression_runs.specs.Values.{HasWord, Setting, Stretch, behind, in_registers, number_aims}
use Rattle.expression_runs.proofs.Words.{number_closed}
use Rattle.function_runs.specs.FunctionCalls.{IsFunctionCall, call_of, called_from}
use Rattle.function_runs.specs.Functions.{IsFunction, function_at, function_beginning, function_block, function_entry}
use Rattle.function_runs.proofs.Functions.{function_runs}

-- ---- its code

abbrev call_at : Setting → Callee → (taken index : ℕ) → Point → (numbers : ℕ → ℕ) → CallStatement
call_at k c taken index p numbers =
    record {
      surroundings = k.block.call.surroundings;
      code = k.block.call.code;
      environment = k.block.environment;
      taken = in_registers k.words taken;
      around = k.around;
      line = 0;
      index = index;
      beginning = function_beginning k.block.call.surroundings p numbers c.procedure c.calling;
      entry = c.calling.entry;
    }

own_code :
    (k : Setting) (c : Callee) (taken index : ℕ) (p : Point) (numbers : ℕ → ℕ) →
    number_code k.block.environment (in_registers k.words taken) (call_of k c)
    ≡ given_code (call_at k c taken index p numbers) ++ call_code_of (call_at k c taken index p numbers)
own_code k c taken index p numbers =
    let z = call_at k c taken index p numbers in
    let level = k.block.environment.level in
    ap (λ q. list_code z ++ (number a2 0
    ++ ((cond q [] (load_word a0 frame_register (display level)) ++ (move a0 (cond q frame_register a0) ∷ []))
    ++ call_code_of z))) (eq-eqb level level refl)
    ∙ ap (λ u. list_code z ++ u) (sym (append_assoc (number a2 0) (move a0 frame_register ∷ []) (call_code_of z)))
    ∙ sym (append_assoc (list_code z) (number a2 0 ++ (move a0 frame_register ∷ [])) (call_code_of z))

-- ---- where it is called

newest_frame_at :
    (k : Setting) (c : Callee) (more : ℕ) {numbers : ℕ → ℕ} {p : Point} → IsFunctionCall k c more →
    IsAmong k.block numbers p →
    frame_at p.control.layers c.calling.parent ≡ frame_under k.block.call.surroundings.parts p.control.layers
newest_frame_at k c more {p = p} h o =
    let n = newest_at h.begun o in
    let parts = k.block.call.surroundings.parts in
    let φs = k.block.call.point.control.layers in
    let many = n.many in
    let parent = h.parent in
    let same : c.calling.parent ≡ suc (length φs) = omega (arith, many, parent) in
    subst (λ ls. frame_at ls c.calling.parent ≡ frame_under parts ls) (sym n.layers)
    (ap (λ q. cond q n.layer.at (frame_at φs c.calling.parent)) (eq-eqb c.calling.parent (suc (length φs)) same))

room_among :
    (k : Setting) (c : Callee) (more : ℕ) {numbers : ℕ → ℕ} {p : Point} → IsFunctionCall k c more →
    IsAmong k.block numbers p → HasRoom k.block.call.surroundings p c.procedure c.calling
room_among k c more {p = p} h o =
    let parts = k.block.call.surroundings.parts in
    let x = c.procedure in
    record {
      room = subst (λ ls. frame_for parts ls x + fixed_size x.head.level 0 ≤ lower_end parts ls) (sym o.later.layers)
          h.room.room;
      shallow = subst (λ xs. nat_lt (length xs) most_activations ≡ true) (sym o.later.activations) h.room.shallow;
      parent = subst (λ xs. HasParent x.head.level c.calling.parent xs) (sym o.later.activations) h.room.parent;
      idle = o.later.waiting ∙ h.room.idle;
    }

-- neither depends on where the call stands
function_from :
    (k : Setting) (c : Callee) (call : ℕ) → IsFunction k.block.call.surroundings k.block.call.code c →
    IsFunction k.block.call.surroundings k.block.call.code (called_from c call)
function_from k c call h =
    record {
      level = h.level;
      line = h.line;
      saved = h.saved;
      place = h.place;
      stands = h.stands;
      end = h.end;
      kind = h.kind;
      labels = h.labels;
      acts = h.acts;
      routines = h.routines;
      raises = h.raises;
    }

room_from :
    (k : Setting) (c : Callee) (call : ℕ) (p : Point) → HasRoom k.block.call.surroundings p c.procedure c.calling →
    HasRoom k.block.call.surroundings p c.procedure (called_from c call).calling
room_from k c call p h = record { room = h.room; shallow = h.shallow; parent = h.parent; idle = h.idle }

-- what the call means
called_means :
    (k : Setting) (c : Callee) (more : ℕ) {numbers : ℕ → ℕ} {p : Point} → IsFunctionCall k c more →
    IsAmong k.block numbers p →
    V.called k.around (Y.Calling c.procedure.head.number k.block.environment.level Y.NoArgument)
    k.block.call.surroundings.acts p.state
    ≡ M.block_run c.around (block_of c.procedure) (function_entry c.procedure c.calling.parent)
    k.block.call.surroundings.acts p.state
unfolding V.called V.arguments V.all_passed_last V.procedure_entered M.entered looked give ◌>>=◌ ◌>>◌
called_means k c more {p = p} h o =
    let s = p.state in
    let acts = k.block.call.surroundings.acts in
    let level = k.block.environment.level in
    let height = height_of (ancestor_at s level) in
    let n = newest_at h.begun o in
    ap (λ q. V.procedure_entered k.around q level [] acts s) h.found
    ∙ ap (λ (enters : Entry → Meaning (Option BasicValue)). enters (function_entry c.procedure height) acts s) h.enter
    ∙ ap (λ (a : Around). M.block_run a (block_of c.procedure) (function_entry c.procedure height) acts s)
    (sym h.around)
    ∙ ap (λ m. M.block_run c.around (block_of c.procedure) (function_entry c.procedure m) acts s)
    (own_ancestor h.level n ∙ sym h.parent)

-- ---- what comes back

abbrev as_number : Option BasicValue → Meaning ℤ
as_number r = V.returned r >>= (λ v. give (number_in v))

behind_goes :
    (k : Setting) (c : Callee) (more taken index credits : ℕ) {numbers : ℕ → ℕ} {p : Point}
    (h : IsFunctionCall k c more) (o : IsAmong k.block numbers p) (part : Code) (call : ℕ) →
    call + 2 ≡ index + size_of part → (c' : ℕ) (f : Family) (v : Services) (r : Option BasicValue) (s : State) →
    IsBehind (function_at k.block.call.surroundings k.block.call.code (called_from c call) p numbers)
    (credits + size_of part) c' f v r s →
    Comes k.block.call.code c' f v (number_aims k.block k.labels (behind p numbers taken credits index part))
    (as_number r k.block.call.surroundings.acts s)
unfolding V.returned ◌>>=◌ give
behind_goes k c more taken index credits {numbers} {p} h o part call at c' f v (Some (BasicNumber z)) s q =
    let w = k.block.call.surroundings in
    record {
      to = λ early. (
        q.result.1,
        record {
          point = q.point;
          numbers = numbers;
          among = record {
            stands = q.stands;
            image = q.image;
            later = later_then k.block.first p q.point o.later q.later;
            few = q.few;
            entries = q.entries ∙ o.entries;
            others = o.others;
            words = o.words;
          };
          since = q.later.acts;
          line = q.line;
          stays = λ n less. refl;
          state = q.state;
          reach = reach_map _ q.reach (λ b y is. (
            subst (λ j. IsIn w q.point numbers j b y) at is.0,
            is.1 ∙ q.result.0,
          ));
        },
      );
    }
behind_goes k c more taken index credits h o part call at c' f v None s q = absurd q.result
behind_goes k c more taken index credits h o part call at c' f v (Some (BasicBit b)) s q = absurd q.result
behind_goes k c more taken index credits h o part call at c' f v (Some (BasicOffset b)) s q = absurd q.result
behind_goes k c more taken index credits h o part call at c' f v (Some (BasicText b)) s q = absurd q.result
behind_goes k c more taken index credits h o part call at c' f v (Some (BasicPointer b)) s q = absurd q.result

-- ---- the call

pub function_does :
    (k : Setting) (c : Callee) (more : ℕ) → IsFunctionCall k c more →
    ((call : ℕ) (p : Point) (numbers : ℕ → ℕ) → IsAmong k.block numbers p →
    AreMade k.block.call.surroundings k.block.call.code (called_from c call) p numbers
    × IsSystem (force (function_block k.block.call.surroundings k.block.call.code (called_from c call) p
    numbers).first.state.activations C.Error)) →
    ((call : ℕ) (p : Point) (numbers : ℕ → ℕ) → IsAmong k.block numbers p →
    IsBegun (function_block k.block.call.surroundings k.block.call.code (called_from c call) p numbers) →
    EachDoes (function_block k.block.call.surroundings k.block.call.code (called_from c call) p numbers) (labels_of c)
    c.procedure.body (body_index c) left_over) →
    L.Does k 0 (call_of k c)
unfolding V.number ◌>>=◌
function_does k c more h made' each p numbers taken credits index f o line registers l paid there =
    let w = k.block.call.surroundings in
    let code = k.block.call.code in
    let z = call_at k c taken index p numbers in
    let given' = given_code z in
    let call' = call_code_of z in
    let eq = own_code k c taken index p numbers in
    let part = number_code k.block.environment (in_registers k.words taken) (call_of k c) in
    let size = ap (λ u. size_of u) eq in
    let n = size_append given' call' in
    let l' = subst (Linked w.links code index) eq l in
    let call = index + size_of given' in
    let c' = called_from c call in
    let y = behind p numbers taken credits index part in
    let goal = number_aims k.block k.labels y in
    let closed = number_closed k.block k.labels y in
    let tree = Y.Calling c.procedure.head.number k.block.environment.level Y.NoArgument in
    let entry = function_entry c.procedure c.calling.parent in
    let flow = M.block_run c.around (block_of c.procedure) entry w.acts p.state in
    let most = h.most in
    let enough = h.enough in
    let turns = ap (λ (a : Around). a.turns) h.around in
    let later = o.later.acts in
    comes_on w.acts (V.called k.around tree w.acts p.state) as_number
    (subst (Comes code credits f (services_of p) (before code goal w.acts as_number)) (sym (called_means k c more h o))
    (onward (before_closed w.acts as_number closed)
    (arguments_given z p numbers index credits f o.stands o.image (h.words, refl) (newest_frame_at k c more h o)
    (front_of given' call' l') there)
    (λ g at.
    comes_map (behind_aims (function_at w code c' p numbers) (credits + size_of part))
    (before code goal w.acts as_number) refl flow
    (λ c1 f1 v1 r s q. behind_goes k c more taken index credits h o part call (omega (arith, size, n)) c1 f1 v1 r s q)
    (λ c1 f1 v1 height label s q. absurd q)
    (λ c1 f1 v1 r s q. absurd q)
    (function_runs w code c' p numbers (credits + size_of given') (credits + size_of part) g (o.stands, o.image)
    o.few (function_from k c call h.function, room_from k c call p (room_among k c more h o)) (back_of given' call' l')
    (made' call p numbers o).0 o.words
    (each call p numbers o) (made' call p numbers o).1 (omega (arith, enough, turns, later))
    (omega (arith, paid, most, size, n)) (λ b. (at b).0)
    (λ b. record { parent = (at b).1.parent; texts = (at b).1.texts })))))
