-- A function with a parameter that is copied: it comes behind its call, and so does the call in an expression.
use Rattle.std.proofs.Common.{◌≡◌, ℕ, ℤ, suc, ◌+◌, ◌%◌, ◌<◌, ◌≤◌, List, [], ◌∷◌, ◌++◌, length, Option, Some}
use Rattle.std.proofs.Common.{None, true, refl, sym, ap, ◌∙◌, subst, arith}
use Rattle.std.proofs.lemmas.Bool.{eq-eqb}
use Rattle.std.proofs.lemmas.List.{append-nil, append_assoc}
use Rattle.std.specs.Prelude.{cond, nat_le, nat_lt, negsuc, pos}
use Rattle.rv_meaning.specs.Machine.{value}
use Rattle.rv_meaning.specs.Words.{word}
use Rattle.pli_language.specs.declared.condition.Condition.TheVariants as C
use Rattle.pli_typing.specs.Signatures.{Fixed}
use Rattle.pli_typing.specs.TypedTree as Y
use Rattle.pli_meaning.specs.BasicValues.{BasicBit, BasicNumber, BasicOffset, BasicPointer, BasicText, BasicValue}
use Rattle.pli_meaning.specs.Contents.{footprint_of}
use Rattle.pli_meaning.specs.Codes.{no_value_code}
use Rattle.pli_meaning.specs.Control.{Meaning, act, flow_on, give, looked, ◌>>=◌, ◌>>◌}
use Rattle.pli_meaning.specs.DeclaredShapes.{procedure_numbered}
use Rattle.pli_meaning.specs.Evaluating as V
use Rattle.pli_meaning.specs.Contents.{number_in}
use Rattle.pli_meaning.specs.Executing as M
use Rattle.pli_meaning.specs.Executing.{begun, labels_in}
use Rattle.pli_meaning.specs.Making.{plain}
use Rattle.pli_meaning.specs.Numbers.{checked, is_of_precision}
use Rattle.pli_meaning.specs.Raising as R
use Rattle.pli_meaning.specs.Raising.{Around, Entry, PassedValue, at_line, error}
use Rattle.pli_meaning.specs.StorageState.{State, ancestor, ancestor_at, force, height_of, most_activations}
use Rattle.pli_meaning.specs.StorageState.{most_automatic, newest_height}
use Rattle.pli_meaning.specs.World.{counted}
use Rattle.pli_serving.specs.ServiceState.{Services}
use Rattle.pli_coding.specs.Allocating.{act_code}
use Rattle.pli_coding.specs.Assembly.{Code, Mark, ReturnPlace, size_of}
use Rattle.pli_coding.specs.Entries.{arguments_copied}
use Rattle.pli_coding.specs.Environments.{none_taken}
use Rattle.pli_coding.specs.Expressions.{number_code}
use Rattle.pli_coding.specs.Frames.{display, fixed_size}
use Rattle.pli_coding.specs.Instructions.{load_word, move, number, plus}
use Rattle.pli_coding.specs.Procedures.{no_value}
use Rattle.pli_coding.specs.Registers.{a0, a1, a2, frame_register}
use Rattle.pli_coding.specs.Statements.{stmts_code}
use Rattle.activation_relation.specs.Chains.{HasParent}
use Rattle.activation_relation.specs.FrameLaws.{with_waits}
use Rattle.activation_relation.specs.Frames.{lower_end}
use Rattle.activation_relation.specs.Layers.{Layer, Point, services_of}
use Rattle.activation_relation.specs.Remaining.{Remains}
use Rattle.activation_relation.specs.ServiceLaws.{IsSystem}
use Rattle.activation_relation.proofs.Remaining.{remains_then}
use Rattle.activation_relation.proofs.Returning.{in_use_later}
use Rattle.activation_relation.proofs.Remaining.{shapes_remain}
use Rattle.run_steps.specs.Engine.{Base}
use Rattle.run_steps.specs.Items.{Linked}
use Rattle.run_steps.proofs.Jumps.{back_of, front_of, linked_at, rest_of}
use Rattle.run_steps.proofs.Linking.{size_append}
use Rattle.run_steps.proofs.Numbers.{word_small}
use Rattle.run_steps.specs.Reach.{Comes, Family, Reach, before, cost}
use Rattle.run_steps.proofs.Reach.{before_closed, comes_on, onward, reach_map}
use Rattle.image_runs.specs.Runs.{Whole}
use Rattle.block_runs.specs.Bodies.{IsBehind, behind_aims, body_aims}
use Rattle.block_runs.specs.Machines.{AreIn, IsIn}
use Rattle.block_runs.proofs.CallStatements.{comes_map}
use Rattle.block_runs.proofs.EmptyMeaning.{entry_acts}
use Rattle.block_runs.proofs.PointActs.{act_comes}
use Rattle.block_runs.proofs.PointGrounds.{point_frame}
use Rattle.program_runs.specs.Calls.{left_over}
use Rattle.program_runs.specs.Procedures.{block_of, frame_for}
use Rattle.program_runs.specs.Statements.{EachDoes, IsAmong, IsBegun, statement_aims}
use Rattle.program_runs.proofs.Calls.{body_closed}
use Rattle.program_runs.proofs.CallStatements.{newest_frame_at}
use Rattle.program_runs.proofs.JumpsOut.{no_jump}
use Rattle.program_runs.proofs.ListEnds.{list_comes}
use Rattle.program_runs.proofs.Lists.{list_does}
use Rattle.program_runs.proofs.NewestBlocks.{newest_ancestor, newest_at}
use Rattle.expression_runs.specs.Laws as L
use Rattle.expression_runs.specs.Values.{HasWord, Setting, Stretch, behind, in_registers, number_aims}
use Rattle.expression_runs.proofs.Assignments.{fit_is}
use Rattle.expression_runs.proofs.Words.{number_closed}
use Rattle.function_runs.specs.Functions.{function_end, function_tail}
use Rattle.function_runs.proofs.NoValues.{value_lacks}
use Rattle.argument_runs.specs.Copies.{copy_generation}
use Rattle.argument_runs.specs.CopyCalls.{CopyCall, Copying, HasRoomFor, beginning_of, body_index, call_at, called_of}
use Rattle.argument_runs.specs.CopyCalls.{copied_point, copies_index, copy_block, copy_for, entry_of, given_point}
use Rattle.argument_runs.specs.CopyCalls.{giving_of, listing_of}
use Rattle.argument_runs.specs.CopyFunctions.{IsCopyFunction, IsCopyFunctionCall, block_with, called_by}
use Rattle.argument_runs.specs.CopyFunctions.{function_copying, function_with, number_function, setting_in}
use Rattle.argument_runs.specs.Laws.{HasList}
use Rattle.argument_runs.specs.ListBeginnings.{IsListing}
use Rattle.argument_runs.specs.ListCalls.{entered_point}
use Rattle.argument_runs.specs.Lists.{given_waits, layered, list_given, list_under, named_waits, value_given}
use Rattle.argument_runs.proofs.Copies.{copies_come}
use Rattle.argument_runs.proofs.CopyBlocks.{Here, behind_list, body_means, copied_known, entered_known, first_among}
use Rattle.argument_runs.proofs.CopyBlocks.{first_begun, is_copy, is_giving, run_means}
use Rattle.argument_runs.proofs.CopyCalls.{calling, forgotten, in_forgotten}
use Rattle.argument_runs.proofs.GivenLists.{arguments_comes, with_list_stands}
use Rattle.argument_runs.proofs.ListCalls.{list_calls_return}
use Rattle.block_runs.proofs.Early.{comes_early}

-- ---- the function, where it is called

abbrev behind_copy : CopyCall → Code
behind_copy y =
    let x = y.callee.procedure in
    act_code x.head.line ++ (stmts_code y.callee.environment none_taken x.body ++ function_tail x)

-- its statements, from behind the act of its entry
function_goes :
    (y : CopyCall) (h : IsCopyFunction y.surroundings y.code y.callee) (f : Family) →
    IsBegun (copy_block (Some number_function) y) →
    IsAmong (copy_block (Some number_function) y) y.numbers (copy_block (Some number_function) y).first →
    EachDoes (copy_block (Some number_function) y) (labels_in y.callee.procedure.body ++ []) y.callee.procedure.body
    (body_index y.callee) left_over →
    IsSystem (force (copy_block (Some number_function) y).first.state.activations C.Error) →
    y.surroundings.acts < y.callee.around.turns + (copy_block (Some number_function) y).first.state.world.acts →
    AreIn y.surroundings (copy_block (Some number_function) y).first y.numbers (body_index y.callee) f →
    Comes y.code 0 f (services_of (copy_block (Some number_function) y).first)
    (body_aims (called_of (Some number_function) y) left_over)
    (behind_list (at_line y.callee.around y.callee.procedure.head.line) y.callee.procedure.body true
    y.surroundings.acts (copy_block (Some number_function) y).first.state)
function_goes y h f b o each only few there =
    let k = copy_block (Some number_function) y in
    let w = y.surroundings in
    let code = y.code in
    let c = y.callee in
    let x = c.procedure in
    let one = act_code x.head.line in
    let body = stmts_code c.environment none_taken x.body in
    let lacks = no_value x.head.line in
    let tail = function_tail x in
    let copies = arguments_copied c.environment (0 ∷ []) in
    let l0 = back_of copies (behind_copy y) (back_of (listing_of x) (copies ++ behind_copy y) h.stands) in
    let l1 = back_of one (body ++ tail) l0 in
    let l2 = front_of body tail l1 in
    let l3 = back_of body tail l1 in
    let l4 = front_of lacks (Mark (ReturnPlace x.head.number) ∷ function_end x) l3 in
    let inside = l2.inside in
    let last = l4.inside in
    let proc = h.routines.linked.inside in
    let flow = M.list k.around x.body w.acts k.first.state in
    let acts = k.first.state.world.acts in
    let next' : Unit {0} → Meaning (Unit {0}) = λ u. error k.around no_value_code in
    let aims = body_aims k.call left_over in
    list_comes k.around x.body w.acts k.first.state (λ height label s q. absurd q)
    (comes_on w.acts flow next'
    (comes_map (statement_aims k [] acts (body_index c + size_of body) left_over left_over)
    (before code aims w.acts next') refl flow
    (λ c' f' v' r s q.
    subst (λ u. Comes code c' f' v' aims (error k.around no_value_code w.acts u)) (sym q.state)
    (onward (body_closed k.call left_over) q.reach
    (λ g at.
    value_lacks (body_closed k.call left_over) h.routines k.around left_over g
    (point_frame q.among.stands q.among.image) (q.among.stands, q.among.image) h.line
    (omega (arith, last, proc), h.acts)
    h.raises (subst (λ xs. IsSystem (force xs C.Error)) (sym q.among.later.activations) only) l4 at)))
    (λ c' f' v' height label s q. no_jump refl q)
    (λ c' f' v' r s q. q.to)
    (list_does k [] x.body (body_index c) left_over k.first y.numbers 0 left_over f b few each h.labels o l2
    (omega arith, omega (arith, inside)) there)))

-- what is asked of its body: from its first statement it comes to the block's end
abbrev pub FunctionComes : CopyCall → Type 0
FunctionComes y =
    IsBegun (copy_block (Some number_function) y) →
    IsAmong (copy_block (Some number_function) y) y.numbers (copy_block (Some number_function) y).first →
    (f : Family) →
    AreIn y.surroundings (copy_block (Some number_function) y).first y.numbers (body_index y.callee) f →
    Comes y.code 0 f (services_of (copy_block (Some number_function) y).first)
    (body_aims (called_of (Some number_function) y) left_over)
    (behind_list (at_line y.callee.around y.callee.procedure.head.line) y.callee.procedure.body true
    y.surroundings.acts (copy_block (Some number_function) y).first.state)

copy_function_runs :
    {y : CopyCall} (credits wanted : ℕ) (f : Family) → Here (Some number_function) y →
    IsCopyFunction y.surroundings y.code y.callee → FunctionComes y →
    credits + 4 + size_of (function_copying y.callee.environment y.callee.procedure) ≤ cost y.code →
    AreIn y.surroundings (given_point y) y.numbers y.callee.calling.call f →
    ((b : Base) →
    IsListing (given_point y) (beginning_of (Some number_function) y) (list_under y.layer.at) b (f b)) →
    Comes y.code credits f (services_of (given_point y)) (behind_aims (called_of (Some number_function) y) wanted)
    (M.block_run y.callee.around (block_of y.callee.procedure) (entry_of (Some number_function) y)
    y.surroundings.acts y.point.state)
copy_function_runs {y} credits wanted f h callee body_comes paid there gives =
    let g0 = Some number_function in
    let w = y.surroundings in
    let c = y.callee in
    let k = called_of g0 y in
    let x = c.procedure in
    let one = act_code x.head.line in
    let body = stmts_code c.environment none_taken x.body in
    let tail = function_tail x in
    let lacks = no_value x.head.line in
    let copies = arguments_copied c.environment (0 ∷ []) in
    let l0 = back_of (listing_of x) (copies ++ behind_copy y) callee.stands in
    let l1 = back_of copies (behind_copy y) l0 in
    let n0 = size_append (listing_of x) (copies ++ behind_copy y) in
    let n1 = size_append copies (behind_copy y) in
    let n2 = size_append one (body ++ tail) in
    let n3 = size_append body tail in
    let n4 = size_append lacks (Mark (ReturnPlace x.head.number) ∷ function_end x) in
    let around' = at_line c.around x.head.line in
    let next' : Unit {0} → Meaning (Unit {0}) = λ u. behind_list around' x.body true in
    let start = entered_point (giving_of g0 y) in
    let closed = body_closed k left_over in
    let c0 = credits + (left_over + size_of (function_end x)) + 2 + size_of (listing_of x) in
    subst (λ flow. Comes y.code credits f (services_of (given_point y)) (behind_aims k wanted) flow)
    (sym (run_means c.around x.head x.body (entry_of g0 y) w.acts y.point.state callee.kind h.room.shallow))
    (comes_early w refl there
    (λ early.
    list_calls_return k (giving_of g0 y) (M.block_body around' x.head x.body (entry_of g0 y)) credits left_over wanted
    f (is_giving h)
    (λ g at.
    subst (λ flow. Comes y.code c0 g (services_of start) (body_aims k left_over) flow)
    (sym (body_means h callee.variables
    ∙ ap (λ flow. flow_on w.acts flow next') (entry_acts x.head.kind w.acts (copied_point g0 y).state callee.kind)))
    (onward closed
    (copies_come c0 (copies_index c) g (entered_known h) (is_copy h) h.copied
    (front_of copies h.behind (back_of (listing_of x) (copies ++ h.behind) h.begins)) at)
    (λ g' at'.
    comes_on w.acts (act counted w.acts (copied_point g0 y).state) next'
    (act_comes (before_closed w.acts next' closed) x.head.line (c0 + size_of copies) 0 g' (copied_known h)
    (h.coded.line, callee.acts, omega (arith, n0, n1, n2, n3, n4, paid)) (front_of one (body ++ tail) l1) at'
    (λ g'' less at''.
    let o = first_among h early less in
    body_comes (first_begun h o.stands) o g'' at''))))) there gives))

-- ---- at each of the block's points

pub room_among :
    {k : Setting} {c : Copying} {φ : Layer} {φs : List Layer} {more : ℕ} {numbers : ℕ → ℕ} {p : Point} (call : ℕ) →
    IsCopyFunctionCall k c φ φs more → IsAmong k.block numbers p →
    HasRoomFor k.block.call.surroundings p (called_by c call) φ φs
room_among {k} {c} {p = p} call h o =
    let w = k.block.call.surroundings in
    let x = c.procedure in
    let r = h.room in
    record {
      newest = o.later.layers ∙ r.newest;
      words = r.words;
      waits = r.waits;
      room = subst (λ ls. frame_for w.parts ls x + fixed_size x.head.level 1 + 16 ≤ lower_end w.parts ls)
          (sym o.later.layers) r.room;
      even = subst (λ ls. lower_end w.parts ls % 16 ≡ 0) (sym o.later.layers) r.even;
      shallow = subst (λ xs. nat_lt (length xs) most_activations ≡ true) (sym o.later.activations) r.shallow;
      parent = subst (λ xs. HasParent x.head.level c.calling.parent xs) (sym o.later.activations) r.parent;
      idle = o.later.waiting ∙ r.idle;
      low = subst (λ n. n ≤ w.parts.stack_start) (sym o.later.remains.low) r.low;
      shape = shapes_remain o.later.remains c.number (plain (Fixed 31)) r.shape;
      number = r.number;
      limit = subst (λ n. nat_le (n + footprint_of (copy_generation (copy_for c (pos 0)))) most_automatic ≡ true)
          (sym (in_use_later w k.block.first p h.begun.resumes.stands o.stands o.later)) r.limit;
    }

pub function_by :
    (k : Setting) {c : Copying} (call : ℕ) → IsCopyFunction k.block.call.surroundings k.block.call.code c →
    IsCopyFunction k.block.call.surroundings k.block.call.code (called_by c call)
function_by k {c} call h =
    record {
      level = h.level;
      line = h.line;
      saved = h.saved;
      place = h.place;
      stands = h.stands;
      end = h.end;
      kind = h.kind;
      labels = h.labels;
      acts = h.acts;
      routines = h.routines;
      raises = h.raises;
      copied = λ z. record {
        copies = (h.copied z).copies;
        number = (h.copied z).number;
        leaves = (h.copied z).leaves;
      };
      variables = h.variables;
    }

pub here_with :
    {k : Setting} {c : Copying} {φ : Layer} {φs : List Layer} {more : ℕ} {numbers : ℕ → ℕ} {p : Point} (call : ℕ)
    (z : ℤ) → is_of_precision 31 z ≡ true → IsCopyFunctionCall k c φ φs more → IsAmong k.block numbers p →
    Linked k.block.call.surroundings.links k.block.call.code call (calling c) →
    Here (Some number_function) (call_at k.block (called_by c call) φ φs p numbers z)
here_with {k} {c} {φ = φ} {φs = φs} {numbers = numbers} {p = p} call z wide h o calls =
    let y = call_at k.block (called_by c call) φ φs p numbers z in
    let f = function_by k call h.function in
    let x = c.procedure in
    let one = act_code x.head.line in
    let body = stmts_code c.environment none_taken x.body in
    let lacks = no_value x.head.line in
    let mark = Mark (ReturnPlace x.head.number) in
    let copies = arguments_copied c.environment (0 ∷ []) in
    let l0 = back_of copies (behind_copy y) (back_of (listing_of x) (copies ++ behind_copy y) f.stands) in
    let l1 = back_of one (body ++ function_tail x) l0 in
    let l2 = back_of lacks (mark ∷ function_end x) (back_of body (function_tail x) l1) in
    let e = f.end in
    let inside = calls.inside in
    let small' = calls.small' in
    record {
      stands = o.stands;
      image = o.image;
      few = o.few;
      room = room_among call h o;
      wide = wide;
      words = o.words;
      each = h.few;
      small' = h.small;
      coded = record { level = f.level; line = f.line; saved = f.saved; back = omega (arith, inside, small') };
      calls = calls;
      place = f.place;
      copied = f.copied z;
      behind = behind_copy y;
      begins = f.stands;
      ending = linked_at c.calling.end (function_end x) (omega (arith, e)) (rest_of mark (function_end x) l2);
      word = (refl, omega arith);
    }

-- ---- the static parent is the running block

parent_height :
    {k : Setting} {c : Copying} {φ : Layer} {φs : List Layer} {more : ℕ} {numbers : ℕ → ℕ} {p : Point} →
    IsCopyFunctionCall k c φ φs more → IsAmong k.block numbers p →
    height_of (ancestor_at p.state k.block.environment.level) ≡ c.calling.parent
parent_height {k} h o =
    let n = newest_at h.begun o in
    let height = n.height in
    let parent = h.parent in
    ap (λ xs. height_of (ancestor xs (newest_height xs) k.block.environment.level)) n.active
    ∙ newest_ancestor n.activation k.block.call.point.state.activations k.block.environment.level
    (n.level ∙ sym h.level)
    ∙ omega (arith, height, parent)

parent_above :
    {k : Setting} {c : Copying} {φ : Layer} {φs : List Layer} {more : ℕ} {numbers : ℕ → ℕ} {p : Point} →
    IsCopyFunctionCall k c φ φs more → IsAmong k.block numbers p → c.calling.parent ≡ suc (length φs)
parent_above h o =
    let n = newest_at h.begun o in
    let many = n.many in
    let parent = h.parent in
    let same = ap (λ (ls : List Layer). length ls) (sym (o.later.layers ∙ h.room.newest) ∙ n.layers) in
    omega (arith, many, parent, same)

entered_means :
    {k : Setting} {c : Copying} {φ : Layer} {φs : List Layer} {more : ℕ} {numbers : ℕ → ℕ} {p : Point} (call : ℕ)
    (z : ℤ) → IsCopyFunctionCall k c φ φs more → IsAmong k.block numbers p →
    V.procedure_entered k.around (procedure_numbered c.procedure.head.number k.around.program.procedures)
    k.block.environment.level (PassedValue (Fixed 31) (BasicNumber z) ∷ []) k.block.call.surroundings.acts p.state
    ≡ M.block_run c.around (block_of c.procedure)
    (entry_of (Some number_function) (call_at k.block (called_by c call) φ φs p numbers z))
    k.block.call.surroundings.acts p.state
unfolding V.procedure_entered M.entered looked ◌>>=◌ ◌>>◌
entered_means {k} {c} {p = p} call z h o =
    let s = p.state in
    let acts = k.block.call.surroundings.acts in
    let passed = PassedValue (Fixed 31) (BasicNumber z) ∷ [] in
    let entry : ℕ → Entry = λ m. record (begun (block_of c.procedure) m) {
      parameters = 0 ∷ [];
      arguments = passed;
      is_function = true;
    } in
    let height = height_of (ancestor_at s k.block.environment.level) in
    ap (λ q. V.procedure_entered k.around q k.block.environment.level passed acts s) h.found
    ∙ ap (λ (enters : Entry → Meaning (Option BasicValue)). enters (entry height) acts s) h.enter
    ∙ ap (λ (a : Around). M.block_run a (block_of c.procedure) (entry height) acts s) (sym h.around)
    ∙ ap (λ m. M.block_run c.around (block_of c.procedure) (entry m) acts s) (parent_height h o)

-- ---- its code

abbrev value_of : Setting → (taken : ℕ) → Y.Number → Code
value_of k taken source = number_code k.block.environment (in_registers 6 taken) source

abbrev coded_as : Setting → Copying → (taken : ℕ) → Y.Number → Code
coded_as k c taken source = value_of k taken source ++ ((value_given ++ list_given) ++ calling c)

coded :
    (k : Setting) (c : Copying) (taken : ℕ) (source : Y.Number) → k.words ≡ 0 →
    number_code k.block.environment (in_registers k.words taken) (function_with k c source)
    ≡ coded_as k c taken source
coded k c taken source none =
    let level = k.block.environment.level in
    let v = value_of k taken source in
    let list = plus a1 frame_register (negsuc 23) in
    let rest : Code = list ++ (number a2 0 ++ (move a0 frame_register ∷ calling c)) in
    ap (λ n. number_code k.block.environment (in_registers n taken) (function_with k c source)) none
    ∙ ap (λ q. (((v ++ []) ++ value_given) ++ []) ++ (list ++ (number a2 0
    ++ ((cond q [] (load_word a0 frame_register (display level)) ++ (move a0 (cond q frame_register a0) ∷ []))
    ++ calling c)))) (eq-eqb level level refl)
    ∙ ap (λ u. u ++ rest) (append-nil ((v ++ []) ++ value_given))
    ∙ ap (λ u. (u ++ value_given) ++ rest) (append-nil v)
    ∙ append_assoc v value_given rest

-- ---- behind the call

abbrev as_number : Option BasicValue → Meaning ℤ
as_number r = V.returned r >>= (λ v. give (number_in v))

behind_goes :
    {k : Setting} {c : Copying} {φ : Layer} {φs : List Layer} {more : ℕ} {numbers : ℕ → ℕ} {p : Point} {x : Stretch}
    (call : ℕ) (z : ℤ) (h : IsCopyFunctionCall k c φ φs more) (o : IsAmong k.block numbers p) →
    x.acts ≤ p.state.world.acts → p.control.line ≡ x.line → ((n : ℕ) → n < x.taken → numbers n ≡ x.numbers n) →
    call + 2 ≡ x.index → (c' : ℕ) (f : Family) (v : Services) (r : Option BasicValue) (s : State) →
    IsBehind (called_of (Some number_function) (call_at k.block (called_by c call) φ φs p numbers z)) x.wanted c' f v r
    s →
    Comes k.block.call.code c' f v (number_aims k.block k.labels x) (as_number r k.block.call.surroundings.acts s)
unfolding V.returned ◌>>=◌ give
behind_goes {k} {c} {φ} {φs} {numbers = numbers} {p = p} {x = x} call z h o since line stays at c' f v
    (Some (BasicNumber z')) s q =
    let w = k.block.call.surroundings in
    let waits = named_waits (p.state.serials + 1) c.number in
    let newest = q.later.layers in
    let known = with_list_stands w k.block.call.code q.point (with_waits waits φ) φs (λ n. None) (q.stands, q.image)
    newest in
    let from = q.later.remains in
    let there : Remains p q.point = record {
      living = from.living;
      serials = from.serials;
      at = from.at;
      number = from.number;
      signatures = from.signatures;
      statics = from.statics;
      low = from.low;
      constants = from.constants;
      active = from.active;
      in_use = from.in_use;
    } in
    let remains = remains_then k.block.first p q.point o.later.remains there in
    let first = o.later.acts in
    let more = q.later.acts in
    record {
      to = λ early. (
        q.result.1,
        record {
          point = forgotten φ φs q.point;
          numbers = numbers;
          among = record {
            stands = known.0;
            image = known.1;
            later = record {
              activations = q.later.activations ∙ o.later.activations;
              layers = ap (λ ψ. ψ ∷ φs) h.room.waits ∙ sym h.room.newest;
              edits = q.later.edits ∙ o.later.edits;
              waiting = q.later.waiting ∙ o.later.waiting;
              acts = omega (arith, first, more);
              remains = record {
                living = remains.living;
                serials = remains.serials;
                at = remains.at;
                number = remains.number;
                signatures = remains.signatures;
                statics = remains.statics;
                low = remains.low;
                constants = remains.constants;
                active = remains.active;
                in_use = remains.in_use;
              };
            };
            few = q.few;
            entries = q.entries ∙ o.entries;
            others = o.others;
            words = o.words;
          };
          since = omega (arith, since, more);
          line = q.line ∙ line;
          stays = stays;
          state = q.state;
          reach = subst (λ v'. Reach k.block.call.code c' f v x.wanted v'
              (λ b y. IsIn w (forgotten φ φs q.point) numbers x.index b y × (value y.machine a0 ≡ word z')))
              (ap (λ ls. services_of (layered ls q.point)) newest)
              (reach_map _ q.reach (λ b y is. (
                subst (λ n. IsIn w (forgotten φ φs q.point) numbers n b y) at
                    (in_forgotten φ φs waits newest is.0),
                is.1 ∙ q.result.0,
              )));
        },
      );
    }
behind_goes call z h o since line stays at c' f v None s q = absurd q.result
behind_goes call z h o since line stays at c' f v (Some (BasicBit b)) s q = absurd q.result
behind_goes call z h o since line stays at c' f v (Some (BasicOffset b)) s q = absurd q.result
behind_goes call z h o since line stays at c' f v (Some (BasicText b)) s q = absurd q.result
behind_goes call z h o since line stays at c' f v (Some (BasicPointer b)) s q = absurd q.result

-- ---- from the value in a0 on

is_listing :
    {k : Setting} {c : Copying} {φ : Layer} {φs : List Layer} {more : ℕ} {numbers : ℕ → ℕ} {p : Point} (call : ℕ)
    (z : ℤ) {b : Base} {y : Whole} → IsCopyFunctionCall k c φ φs more → IsAmong k.block numbers p →
    HasList φ b y.machine →
    IsListing (given_point (call_at k.block (called_by c call) φ φs p numbers z))
    (beginning_of (Some number_function) (call_at k.block (called_by c call) φ φs p numbers z)) (list_under φ.at) b y
is_listing {c = c} {φ = φ} {φs = φs} call z {b = b} h o g =
    record {
      calling = record {
        parent = λ some. g.frame
            ∙ ap (λ n. b.at + n)
            (sym (newest_frame_at (with_waits (given_waits (word z)) φ) φs c.calling.parent (parent_above h o)));
        texts = g.texts;
      };
      address = g.list;
    }

given_goes :
    {k : Setting} {c : Copying} {φ : Layer} {φs : List Layer} {more : ℕ} (call c' : ℕ) (f' : Family) (v' : Services)
    (z : ℤ) (s : State) (x y : Stretch) → IsCopyFunctionCall k c φ φs more →
    ((p : Point) (numbers : ℕ → ℕ) → IsAmong k.block numbers p →
    FunctionComes (call_at k.block (called_by c call) φ φs p numbers z)) →
    is_of_precision 31 z ≡ true → HasWord k.block y (word z) c' f' v' s →
    (x.acts ≤ y.acts) × (y.line ≡ x.line) × ((n : ℕ) → n < x.taken → n < y.taken)
    × ((n : ℕ) → n < x.taken → y.numbers n ≡ x.numbers n) →
    Linked k.block.call.surroundings.links k.block.call.code y.index ((value_given ++ list_given) ++ calling c) →
    (call ≡ y.index + size_of (value_given ++ list_given)) × (call + 2 ≡ x.index) →
    y.wanted + size_of (value_given ++ list_given) + k.most ≤ cost k.block.call.code →
    Comes k.block.call.code c' f' v'
    (before k.block.call.code (number_aims k.block k.labels x) k.block.call.surroundings.acts as_number)
    (V.procedure_entered k.around (procedure_numbered c.procedure.head.number k.around.program.procedures)
    k.block.environment.level (PassedValue (Fixed 31) (BasicNumber z) ∷ []) k.block.call.surroundings.acts s)
given_goes {k} {c} {φ} {φs} call c' f' v' z s x y h each wide q same l at paid =
    let w = k.block.call.surroundings in
    let code = k.block.call.code in
    let p = q.point in
    let o = q.among in
    let u = call_at k.block (called_by c call) φ φs p q.numbers z in
    let aims = number_aims k.block k.labels x in
    let aims' = before code aims w.acts as_number in
    let closed = before_closed w.acts as_number (number_closed k.block k.labels x) in
    let flow = M.block_run c.around (block_of c.procedure) (entry_of (Some number_function) u) w.acts p.state in
    let since = same.0 in
    let more = q.since in
    let most = h.most in
    let calls = back_of (value_given ++ list_given) (calling c) l in
    let calls' = subst (λ j. Linked w.links code j (calling c)) (sym at.0) calls in
    subst (λ t. Comes code c' f' v' aims' (V.procedure_entered k.around
    (procedure_numbered c.procedure.head.number k.around.program.procedures) k.block.environment.level
    (PassedValue (Fixed 31) (BasicNumber z) ∷ []) w.acts t)) (sym q.state)
    (subst (λ t. Comes code c' f' v' aims' t) (sym (entered_means call z h o))
    (onward closed q.reach
    (λ g there.
    onward closed
    (arguments_comes w code p φ φs q.numbers (word z) y.wanted y.index g (o.stands, o.image)
    (o.later.layers ∙ h.room.newest) (h.room.words, word_small z wide)
    (front_of (value_given ++ list_given) (calling c) l) there)
    (λ g' there'.
    comes_map (behind_aims (called_of (Some number_function) u) x.wanted) aims' refl flow
    (λ c1 f1 v1 r t e. behind_goes {x = x} call z h o (omega (arith, since, more)) (q.line ∙ same.1)
    (λ n less. q.stays n (same.2 n less) ∙ same.3 n less) at.1 c1 f1 v1 r t e)
    (λ c1 f1 v1 height label t e. absurd e)
    (λ c1 f1 v1 r t e. absurd e)
    (copy_function_runs (y.wanted + size_of (value_given ++ list_given)) x.wanted g'
    (here_with call z wide h o calls') (function_by k call h.function) (each p q.numbers o) (omega (arith, paid, most))
    (λ b. subst (λ j. IsIn w (given_point u) q.numbers j b (g' b)) (sym at.0) (there' b).0)
    (λ b. is_listing call z h o (there' b).1))))))

-- ---- the call

-- if the function's body comes to its end
pub copy_function_comes :
    (k : Setting) (c : Copying) (source : Y.Number) (φ : Layer) (φs : List Layer) (need more : ℕ) →
    IsCopyFunctionCall k c φ φs more → L.Does (setting_in k) need source →
    ((call : ℕ) (p : Point) (numbers : ℕ → ℕ) (z : ℤ) → IsAmong k.block numbers p → is_of_precision 31 z ≡ true →
    FunctionComes (call_at k.block (called_by c call) φ φs p numbers z)) →
    L.Does k need (function_with k c source)
unfolding V.number V.called V.arguments V.argument V.stored_value V.all_passed_last V.passed_last give ◌>>=◌
copy_function_comes k c source φ φs need more h ev each p numbers taken credits index f o line registers l paid
    there =
    let w = k.block.call.surroundings in
    let code = k.block.call.code in
    let v = value_of k taken source in
    let given' = value_given ++ list_given in
    let eq = coded k c taken source h.words in
    let part = number_code k.block.environment (in_registers k.words taken) (function_with k c source) in
    let l' = subst (Linked w.links code index) eq l in
    let n1 = size_append v (given' ++ calling c) in
    let n2 = size_append given' (calling c) in
    let size = ap (λ u. size_of u) eq in
    let x = behind p numbers taken credits index part in
    let y = behind p numbers taken credits index v in
    let call = index + size_of v + size_of given' in
    let stored' = Y.StoredNumber 31 source in
    let first = Y.ByCopy (Y.FixedLeaf 31) stored' in
    let tree = Y.Calling c.procedure.head.number k.block.environment.level (Y.ArgumentThen first Y.NoArgument) in
    let enter : List V.Evaluated → Meaning (Option BasicValue) =
    λ es. V.all_passed_last k.around es es >>= (λ ps. V.procedure_entered k.around
    (procedure_numbered c.procedure.head.number k.around.program.procedures) k.block.environment.level ps) in
    let rest : V.Evaluated → Meaning (List V.Evaluated) =
    λ e. V.arguments k.around Y.NoArgument >>= (λ es. give (e ∷ es)) in
    let pass : BasicValue → Meaning V.Evaluated = λ u. give (V.EvaluatedArgument (V.copied (Y.FixedLeaf 31) u)) in
    let fit : ℤ → Meaning BasicValue =
    λ z. (R.value_of k.around (checked 31 z)) >>= (λ z'. give (BasicNumber z')) in
    let goal = number_aims k.block k.labels x in
    let a1' = before code goal w.acts as_number in
    let a2' = before code a1' w.acts enter in
    let a3' = before code a2' w.acts rest in
    let a4' = before code a3' w.acts pass in
    let flow = V.number k.around source w.acts p.state in
    comes_on w.acts (V.called k.around tree w.acts p.state) as_number
    (comes_on w.acts (V.arguments k.around (Y.ArgumentThen first Y.NoArgument) w.acts p.state) enter
    (comes_on w.acts (V.argument k.around first w.acts p.state) rest
    (comes_on w.acts (V.stored_value k.around stored' w.acts p.state) pass
    (comes_on w.acts flow fit
    (comes_map (number_aims k.block k.labels y) (before code a4' w.acts fit) refl flow
    (λ c' f' v' z s q.
    subst (Comes code c' f' v' a4') (sym (fit_is k.around z w.acts s q.0))
    (record {
      to = λ early. record {
        to = λ early. record {
          to = λ early.
              given_goes call c' f' v' z s x y h (λ p1 numbers1 o1. each call p1 numbers1 z o1 q.0) q.0 q.1
              (omega arith, refl, (λ n less. less), (λ n less. refl)) (back_of v (given' ++ calling c) l')
              (refl, omega (arith, size, n1, n2)) (omega (arith, paid, size, n1, n2));
        };
      };
    }))
    (λ c' f' v' height label s q. q)
    (λ c' f' v' r s q. absurd q)
    (ev p numbers taken credits index f o line registers (front_of v (given' ++ calling c) l')
    (omega (arith, paid, n1, size)) there))))))

pub copy_function_does :
    (k : Setting) (c : Copying) (source : Y.Number) (φ : Layer) (φs : List Layer) (need more : ℕ) →
    IsCopyFunctionCall k c φ φs more → L.Does (setting_in k) need source →
    ((call : ℕ) (p : Point) (numbers : ℕ → ℕ) (z : ℤ) → IsAmong k.block numbers p →
    IsSystem (force (block_with k c φ φs call p numbers z).first.state.activations C.Error)) →
    ((call : ℕ) (p : Point) (numbers : ℕ → ℕ) (z : ℤ) → IsAmong k.block numbers p → is_of_precision 31 z ≡ true →
    IsBegun (block_with k c φ φs call p numbers z) →
    EachDoes (block_with k c φ φs call p numbers z) (labels_in c.procedure.body ++ []) c.procedure.body (body_index c)
    left_over) →
    L.Does k need (function_with k c source)
copy_function_does k c source φ φs need more h ev only each =
    let enough = h.enough in
    let turns = ap (λ (a : Around). a.turns) h.around in
    copy_function_comes k c source φ φs need more h ev
    (λ call p numbers z o wide b o' f at.
    let later = o.later.acts in
    function_goes (call_at k.block (called_by c call) φ φs p numbers z) (function_by k call h.function) f b o'
    (each call p numbers z o wide b) (only call p numbers z o) (omega (arith, enough, turns, later)) at)
