-- The call of a function that may jump out, in an expression of the block that declares it, while texts wait.
use Rattle.std.proofs.Common.{◌≡◌, ℕ, ◌+◌, ◌<◌, ◌≤◌, [], ◌∷◌, ◌++◌, List, length, Option, Some, None, Bool, true, refl}
use Rattle.std.proofs.Common.{sym, ap, ◌∙◌, subst, arith}
use Rattle.std.proofs.lemmas.Bool.{eq-eqb}
use Rattle.std.proofs.lemmas.List.{append_assoc}
use Rattle.std.specs.Prelude.{ℤ, cond, nat_lt}
use Rattle.pli_typing.specs.TypedTree as Y
use Rattle.pli_meaning.specs.BasicValues.{BasicBit, BasicNumber, BasicOffset, BasicPointer, BasicText, BasicValue}
use Rattle.pli_meaning.specs.Contents.{number_in}
use Rattle.pli_meaning.specs.declared.outcome.End.TheVariants as N
use Rattle.pli_meaning.specs.declared.outcome.Limit.TheVariants as D
use Rattle.pli_meaning.specs.Control.{Flow, Meaning, act, choose, finish, flow_on, give, leaving, left, looked, stored}
use Rattle.pli_meaning.specs.Control.{◌>>=◌, ◌>>◌}
use Rattle.pli_meaning.specs.Evaluating as V
use Rattle.pli_meaning.specs.Executing as M
use Rattle.pli_meaning.specs.Executing.{with_activation}
use Rattle.pli_meaning.specs.Making as K
use Rattle.pli_meaning.specs.Raising.{Around, Entry, at_line}
use Rattle.pli_meaning.specs.StorageState.{State, ancestor_at, height_of, most_activations, newest_ended}
use Rattle.pli_meaning.specs.World.{World, counted}
use Rattle.pli_serving.specs.ServiceState as S
use Rattle.pli_serving.specs.ServiceState.{Services}
use Rattle.pli_coding.specs.Allocating.{act_code}
use Rattle.pli_coding.specs.Assembly.{CallTo, Code, Mark, ProcedureEntry, ReturnPlace, size_of}
use Rattle.pli_coding.specs.Environments.{none_taken}
use Rattle.pli_coding.specs.Expressions.{number_code}
use Rattle.pli_coding.specs.Frames.{display, fixed_size}
use Rattle.pli_coding.specs.Instructions.{load_word, move, number}
use Rattle.pli_coding.specs.Procedures.{no_value}
use Rattle.pli_coding.specs.Registers.{a0, a2, frame_register}
use Rattle.pli_coding.specs.Statements.{stmts_code}
use Rattle.activation_relation.specs.Chains.{HasParent, frame_at}
use Rattle.activation_relation.specs.Frames.{frame_under, lower_end}
use Rattle.activation_relation.specs.Layers.{Point, services_of}
use Rattle.activation_relation.specs.Points.{AreFew, Stands}
use Rattle.activation_relation.proofs.Remaining.{remains_acted, remains_then}
use Rattle.activation_relation.proofs.Returning.{later_same, later_then}
use Rattle.activation_relation.proofs.Serials.{few_made}
use Rattle.run_steps.specs.Engine.{Base}
use Rattle.run_steps.specs.Items.{Linked}
use Rattle.run_steps.proofs.Jumps.{back_of, front_of, linked_at, rest_of}
use Rattle.run_steps.proofs.Linking.{size_append}
use Rattle.run_steps.specs.Reach.{Comes, Family, before, cost}
use Rattle.run_steps.proofs.Reach.{before_closed, comes_on, onward, reach_map}
use Rattle.block_runs.specs.Beginnings.{IsCalling}
use Rattle.block_runs.specs.Bodies as B
use Rattle.block_runs.specs.Bodies.{IsBehind}
use Rattle.block_runs.specs.CallStatements.{CallStatement}
use Rattle.block_runs.specs.Machines.{AreIn, IsImage, IsIn}
use Rattle.block_runs.proofs.BlockEntries.{Premises, begun_stands}
use Rattle.block_runs.proofs.CallStatements.{arguments_given, call_code_of, comes_map, given_code, list_code}
use Rattle.block_runs.proofs.EmptyMeaning.{entry_acts, own_return}
use Rattle.block_runs.proofs.PointActs.{act_comes, stands_acted}
use Rattle.program_runs.specs.Calls.{AreMade, Callee, begun_at, body_index, left_over, variables_index}
use Rattle.program_runs.specs.Procedures.{HasRoom, begin_of, block_of, frame_for}
use Rattle.program_runs.specs.Statements.{Block, IsAmong, IsBegun, waiting}
use Rattle.program_runs.proofs.Calls.{on_same}
use Rattle.program_runs.proofs.CallStatements.{newest_frame_at}
use Rattle.program_runs.proofs.NewestBlocks.{newest_at, own_ancestor}
use Rattle.program_runs.proofs.Waiting.{outer_among}
use Rattle.expression_runs.specs.Values.{Setting, behind, in_registers}
use Rattle.function_runs.specs.FunctionCalls.{IsFunctionCall, call_of, called_from}
use Rattle.function_runs.specs.Functions.{IsFunction, function_at, function_beginning, function_code}
use Rattle.function_runs.specs.Functions.{function_end, function_entry, function_tail}
use Rattle.function_runs.proofs.Beginnings.{function_begins}
use Rattle.text_runs.specs.Laws.{NumberDoes}
use Rattle.text_runs.specs.Texts.{value_aims}
use Rattle.text_runs.specs.Waiting.{over}
use Rattle.text_runs.proofs.Points.{value_closed}
use Rattle.text_runs.proofs.Waiting.{call_waits}
use Rattle.jump_runs.specs.Exits.{exit_aims, hand_aims}
use Rattle.jump_runs.specs.Functions.{FunctionDoes, IsFunctionList, function_in}
use Rattle.jump_runs.proofs.Exits.{calls_hand, exit_closed}
use Rattle.block_runs.proofs.Early.{comes_early}

-- ---- what its block means

abbrev behind_act : Around → Y.Stmts → Meaning (Unit {0})
behind_act around body = M.block_list around body true

abbrev behind_variables : Around → Y.Stmts → Meaning (Unit {0})
behind_variables around body = act counted >> behind_act around body

abbrev body_of : Around → Y.BlockHead → Y.Stmts → Meaning (Unit {0})
body_of around head body =
    M.block_variables_made (at_line around head.line) head head.kind >> behind_variables (at_line around head.line) body

entry_means :
    (around : Around) (kind : Y.BlockKind) (body : Y.Stmts) (k : ℕ) (s : State) → kind ≡ Y.ProcedureBlock →
    flow_on k (M.entry_act kind k s) (λ q. behind_act around body) ≡ behind_variables around body k s
unfolding ◌>>◌
entry_means around kind body k s e =
    ap (λ flow. flow_on k flow (λ q. behind_act around body)) (entry_acts kind k s e)

body_means :
    (around : Around) (c : Callee) (k : ℕ) (s : State) → c.procedure.head.kind ≡ Y.ProcedureBlock →
    M.block_body around c.procedure.head c.procedure.body (function_entry c.procedure c.calling.parent) k s
    ≡ flow_on k (M.block_variables_made around c.procedure.head c.procedure.head.kind k s)
    (λ q. behind_variables around c.procedure.body)
unfolding M.block_body K.parameters_bound give ◌>>◌
body_means around c k s kind =
    let head = c.procedure.head in
    let body = c.procedure.body in
    on_same k (M.block_variables_made around head head.kind k s)
    (λ q. M.entry_act head.kind >> behind_act around body) (λ q. behind_variables around body)
    (λ s'. entry_means around head.kind body k s' kind)

block_means :
    (around : Around) (c : Callee) (k : ℕ) (s : State) → c.procedure.head.kind ≡ Y.ProcedureBlock →
    nat_lt (length s.activations) most_activations ≡ true →
    M.block_run around (block_of c.procedure) (function_entry c.procedure c.calling.parent) k s
    ≡ left true newest_ended
    (body_of around c.procedure.head c.procedure.body k
    (with_activation c.procedure.head (function_entry c.procedure c.calling.parent) s))
unfolding M.block_run looked stored choose leaving ◌>>=◌ ◌>>◌
block_means around c k s kind few =
    let head = c.procedure.head in
    let body = c.procedure.body in
    let entry = function_entry c.procedure c.calling.parent in
    let s' = with_activation head entry s in
    let around' = at_line around head.line in
    let run : Bool → Flow (Option BasicValue) = λ q. cond q
    (left (M.is_own_return head.kind) newest_ended (M.block_body around' head body entry k s'))
    (finish (N.Limit D.Depth) k s) in
    ap run few
    ∙ ap (λ q. left q newest_ended (M.block_body around' head body entry k s')) (own_return head.kind kind)
    ∙ ap (λ flow. left true newest_ended flow) (body_means around' c k s' kind)

-- ---- a function called at a point of a block, from an index, while texts wait

pub record Here : Type 0 where
  pub entries : List S.Entry
  pub setting : Setting
  pub callee : Callee
  pub more : ℕ
  pub call : ℕ
  pub point : Point
  pub numbers : ℕ → ℕ

abbrev callee_of : Here → Callee
callee_of z = called_from z.callee z.call

abbrev pub own_block : Here → Block
own_block z = function_in z.setting (callee_of z) z.point z.numbers

-- what is asked of it wherever it is called
pub record IsCalled (k : Setting) (c : Callee) : Type 0 where
  pub begun : IsBegun k.block
  pub function : IsFunction k.block.call.surroundings k.block.call.code c
  pub room : HasRoom k.block.call.surroundings k.block.first c.procedure c.calling
  pub enough : k.block.call.surroundings.acts < c.around.turns + k.block.first.state.world.acts

pub record IsHere (z : Here) : Type 0 where
  pub is : IsCalled z.setting z.callee
  pub among : IsAmong (waiting z.entries z.setting.block) z.numbers z.point
  pub calls :
      Linked z.setting.block.call.surroundings.links z.setting.block.call.code z.call
      (CallTo (ProcedureEntry z.callee.procedure.head.number) ∷ [])
  pub made :
      AreMade z.setting.block.call.surroundings z.setting.block.call.code (callee_of z) z.point z.numbers

abbrev list_of : Here → Code
list_of z = stmts_code z.callee.environment none_taken z.callee.procedure.body

abbrev act_of : Here → Code
act_of z = act_code z.callee.procedure.head.line

abbrev behind_made : Here → Code
behind_made z = act_of z ++ (list_of z ++ function_tail z.callee.procedure)

made_linked :
    {z : Here} → IsHere z →
    Linked z.setting.block.call.surroundings.links z.setting.block.call.code (variables_index z.callee)
    (z.callee.procedure.variables ++ behind_made z)
made_linked {z} h =
    back_of (begin_of z.callee.procedure) (z.callee.procedure.variables ++ behind_made z) h.is.function.stands

act_linked :
    {z : Here} → IsHere z →
    Linked z.setting.block.call.surroundings.links z.setting.block.call.code
    (variables_index z.callee + size_of z.callee.procedure.variables) (behind_made z)
act_linked {z} h = back_of z.callee.procedure.variables (behind_made z) (made_linked h)

list_linked :
    {z : Here} → IsHere z →
    Linked z.setting.block.call.surroundings.links z.setting.block.call.code (body_index z.callee)
    (list_of z ++ function_tail z.callee.procedure)
list_linked {z} h = back_of (act_of z) (list_of z ++ function_tail z.callee.procedure) (act_linked h)

room_among : (z : Here) → IsHere z → HasRoom z.setting.block.call.surroundings z.point z.callee.procedure
    (callee_of z).calling
room_among z h =
    let parts = z.setting.block.call.surroundings.parts in
    let x = z.callee.procedure in
    let o = h.among in
    let r = h.is.room in
    record {
      room = subst (λ ls. frame_for parts ls x + fixed_size x.head.level 0 ≤ lower_end parts ls) (sym o.later.layers)
          r.room;
      shallow = subst (λ xs. nat_lt (length xs) most_activations ≡ true) (sym o.later.activations) r.shallow;
      parent = subst (λ xs. HasParent x.head.level z.callee.calling.parent xs) (sym o.later.activations) r.parent;
      idle = o.later.waiting ∙ r.idle;
    }

function_from :
    (z : Here) → IsHere z →
    IsFunction z.setting.block.call.surroundings z.setting.block.call.code (callee_of z)
function_from z h =
    let y = h.is.function in
    record {
      level = y.level;
      line = y.line;
      saved = y.saved;
      place = y.place;
      stands = y.stands;
      end = y.end;
      kind = y.kind;
      labels = y.labels;
      acts = y.acts;
      routines = y.routines;
      raises = y.raises;
    }

is_call : (z : Here) → IsHere z → B.IsCall (own_block z).call
is_call z h =
    let w = z.setting.block.call.surroundings in
    let code = z.setting.block.call.code in
    let x = z.callee.procedure in
    let lacks = no_value x.head.line in
    let mark = Mark (ReturnPlace x.head.number) in
    let l2 = back_of lacks (mark ∷ function_end x) (back_of (list_of z) (function_tail x) (list_linked h)) in
    let e = h.is.function.end in
    let inside = h.calls.inside in
    let small' = h.calls.small' in
    record {
      stands = h.among.stands;
      image = h.among.image;
      beginning = function_begins w code z.point z.numbers (callee_of z) (h.among.stands, h.among.image)
          (function_from z h, room_among z h) (omega (arith, inside, small')) h.among.words;
      code = record {
        calls = h.calls;
        place = h.is.function.place;
        begins = front_of (begin_of x) (x.variables ++ behind_made z) h.is.function.stands;
        back = refl;
      };
      ending = linked_at z.callee.calling.end (function_end x) (omega (arith, e)) (rest_of mark (function_end x) l2);
      word = (refl, omega arith);
    }

-- ---- its first statement

abbrev start_of : Here → Point
start_of z = begun_at z.setting.block.call.surroundings (callee_of z) z.point z.numbers

first_among :
    (z : Here) → IsHere z →
    Stands z.setting.block.call.surroundings (z.callee.made (start_of z))
    × IsImage z.setting.block.call.surroundings z.setting.block.call.code (z.callee.made (start_of z)) →
    (z.callee.made (start_of z)).state.world.acts < z.setting.block.call.surroundings.acts →
    AreFew z.setting.block.call.surroundings (own_block z).first →
    IsAmong (own_block z) z.numbers (own_block z).first
first_among z h made' less few =
    let known = stands_acted z.callee.procedure.head.line made'.0 made'.1 less in
    record {
      stands = known.0;
      image = known.1;
      later = later_same (own_block z).first;
      few = few;
      entries = refl;
      others = λ n more. refl;
      words = h.among.words;
    }

first_begun :
    (z : Here) (h : IsHere z) → Stands z.setting.block.call.surroundings (start_of z) →
    Stands z.setting.block.call.surroundings (own_block z).first → IsBegun (own_block z)
first_begun z h begun' stands =
    let m = h.made in
    let b = h.is.begun in
    let o = h.among in
    let same = ap (λ (u : World). u.acts) m.world in
    let then' = z.callee.made (start_of z) in
    record {
      activation = m.activation;
      resumes = record {
        stands = stands;
        idle = m.idle;
        changed = m.changed;
        layers = m.layers;
        own = m.own;
        activations = m.activations;
        more = omega (arith, same);
      };
      acts = omega (arith, same);
      remains = remains_then z.point then' (own_block z).first (m.remains begun')
          (remains_acted then' counted z.callee.procedure.head.line);
      outer = (
        record {
          activation = b.activation;
          resumes = b.resumes;
          remains = b.remains;
          numbers = z.numbers;
          among = outer_among z.setting.block z.setting.labels z.entries b o;
        },
        b.outer,
      );
    }

is_list :
    (z : Here) (h : IsHere z) → IsBegun (own_block z) → IsAmong (own_block z) z.numbers (own_block z).first →
    IsFunctionList (own_block z) z.callee.procedure.body (body_index z.callee)
is_list z h b o =
    let x = z.callee.procedure in
    let tail = Mark (ReturnPlace x.head.number) ∷ function_end x in
    let y = h.is.function in
    let same = ap (λ (u : World). u.acts) h.made.world in
    let enough = h.is.enough in
    let later = h.among.later.acts in
    record {
      begun = b;
      among = o;
      linked = front_of (list_of z ++ no_value x.head.line) tail
          (subst (Linked z.setting.block.call.surroundings.links z.setting.block.call.code (body_index z.callee))
          (sym (append_assoc (list_of z) (no_value x.head.line) tail)) (list_linked h));
      kind = refl;
      line = y.line;
      acts = y.acts;
      called = omega (arith, same);
      enough = omega (arith, enough, same, later);
      routines = y.routines;
      raises = y.raises;
    }

-- ---- the function

pub function_hands :
    (z : Here) (h : IsHere z) (credits wanted : ℕ) (f : Family) →
    (IsFunctionList (own_block z) z.callee.procedure.body (body_index z.callee) →
    FunctionDoes (own_block z) z.callee.procedure.body (body_index z.callee)) →
    credits + 4 + size_of (function_code z.callee.environment z.callee.procedure) ≤ cost z.setting.block.call.code →
    AreIn z.setting.block.call.surroundings z.point z.numbers z.call f →
    ((b : Base) → IsCalling z.point (own_block z).call.beginning b (f b)) →
    Comes z.setting.block.call.code credits f (services_of z.point)
    (hand_aims (own_block z) z.point.state.world.acts wanted)
    (M.block_run z.callee.around (block_of z.callee.procedure)
    (function_entry z.callee.procedure z.callee.calling.parent) z.setting.block.call.surroundings.acts z.point.state)
unfolding ◌>>◌
function_hands z h credits wanted f does paid there gives =
    let i = own_block z in
    let w = z.setting.block.call.surroundings in
    let code = z.setting.block.call.code in
    let c = z.callee in
    let p = z.point in
    let x = c.procedure in
    let is = is_call z h in
    let q : Premises w code p z.numbers i.call.beginning = record {
      stands = h.among.stands;
      image = h.among.image;
      is = is.beginning;
    } in
    let new = begun_stands q in
    let tail = function_tail x in
    let n0 = size_append (begin_of x) (x.variables ++ behind_made z) in
    let n1 = size_append x.variables (behind_made z) in
    let n2 = size_append (act_of z) (list_of z ++ tail) in
    let n3 = size_append (list_of z) tail in
    let n4 = size_append (no_value x.head.line) (Mark (ReturnPlace x.head.number) ∷ function_end x) in
    let around' = at_line c.around x.head.line in
    let next' : Unit {0} → Meaning (Unit {0}) = λ u. behind_act around' x.body in
    let start = start_of z in
    let then' = c.made start in
    let stands' = h.made.stands new in
    let acts = p.state.world.acts in
    let closed' = exit_closed i acts left_over in
    let aims = exit_aims i acts left_over in
    let c0 = credits + (left_over + size_of (function_end x)) + 2 + size_of (begin_of x) in
    subst (λ flow. Comes code credits f (services_of p) (hand_aims i acts wanted) flow)
    (sym (block_means c.around c w.acts p.state h.is.function.kind (room_among z h).shallow))
    (comes_early w refl there
    (λ early.
    calls_hand i (body_of c.around x.head x.body) acts credits left_over wanted f is
    (λ g at.
    subst (λ flow. Comes code c0 g (services_of start) aims
    (flow_on w.acts flow (λ u. behind_variables around' x.body))) (sym h.made.means)
    (onward closed' (h.made.comes c0 g new (front_of x.variables (behind_made z) (made_linked h)) at)
    (λ g' at'.
    comes_on w.acts (act counted w.acts then'.state) next'
    (act_comes (before_closed w.acts next' closed') x.head.line (c0 + size_of x.variables) 0 g' stands'
    (h.is.function.line, h.is.function.acts, omega (arith, n0, n1, n2, n3, n4, paid))
    (front_of (act_of z) (list_of z ++ tail) (act_linked h)) at'
    (λ g'' less at''.
    let same = ap (λ (u : World). u.acts) h.made.world in
    let o = first_among z h stands' less
    (few_made w p i.first early h.made.few (omega (arith, same, less))) in
    does (is_list z h (first_begun z h new.0 o.stands) o) g'' at''))))) there gives))

-- ---- the code of the call

abbrev call_at : Setting → Callee → (taken index : ℕ) → Point → (numbers : ℕ → ℕ) → CallStatement
call_at k c taken index p numbers =
    record {
      surroundings = k.block.call.surroundings;
      code = k.block.call.code;
      environment = k.block.environment;
      taken = in_registers k.words taken;
      around = k.around;
      line = 0;
      index = index;
      beginning = function_beginning k.block.call.surroundings p numbers c.procedure c.calling;
      entry = c.calling.entry;
    }

own_code :
    (k : Setting) (c : Callee) (taken index : ℕ) (p : Point) (numbers : ℕ → ℕ) →
    number_code k.block.environment (in_registers k.words taken) (call_of k c)
    ≡ given_code (call_at k c taken index p numbers) ++ call_code_of (call_at k c taken index p numbers)
own_code k c taken index p numbers =
    let z = call_at k c taken index p numbers in
    let level = k.block.environment.level in
    ap (λ q. list_code z ++ (number a2 0
    ++ ((cond q [] (load_word a0 frame_register (display level)) ++ (move a0 (cond q frame_register a0) ∷ []))
    ++ call_code_of z))) (eq-eqb level level refl)
    ∙ ap (λ u. list_code z ++ u) (sym (append_assoc (number a2 0) (move a0 frame_register ∷ []) (call_code_of z)))
    ∙ sym (append_assoc (list_code z) (number a2 0 ++ (move a0 frame_register ∷ [])) (call_code_of z))

parent_frame :
    (k : Setting) (c : Callee) (more : ℕ) {numbers : ℕ → ℕ} {p : Point} → IsFunctionCall k c more →
    IsAmong k.block numbers p →
    frame_at p.control.layers c.calling.parent ≡ frame_under k.block.call.surroundings.parts p.control.layers
parent_frame k c more {p = p} h o =
    let n = newest_at h.begun o in
    let parts = k.block.call.surroundings.parts in
    let many = n.many in
    let parent = h.parent in
    subst (λ ls. frame_at ls c.calling.parent ≡ frame_under parts ls) (sym n.layers)
    (newest_frame_at n.layer k.block.call.point.control.layers c.calling.parent (omega (arith, many, parent)))

-- what it means
called_means :
    (k : Setting) (c : Callee) (more : ℕ) {numbers : ℕ → ℕ} {p : Point} → IsFunctionCall k c more →
    IsAmong k.block numbers p →
    V.called k.around (Y.Calling c.procedure.head.number k.block.environment.level Y.NoArgument)
    k.block.call.surroundings.acts p.state
    ≡ M.block_run c.around (block_of c.procedure) (function_entry c.procedure c.calling.parent)
    k.block.call.surroundings.acts p.state
unfolding V.called V.arguments V.all_passed_last V.procedure_entered M.entered looked give ◌>>=◌ ◌>>◌
called_means k c more {p = p} h o =
    let s = p.state in
    let acts = k.block.call.surroundings.acts in
    let level = k.block.environment.level in
    let height = height_of (ancestor_at s level) in
    let n = newest_at h.begun o in
    ap (λ q. V.procedure_entered k.around q level [] acts s) h.found
    ∙ ap (λ (enters : Entry → Meaning (Option BasicValue)). enters (function_entry c.procedure height) acts s) h.enter
    ∙ ap (λ (a : Around). M.block_run a (block_of c.procedure) (function_entry c.procedure height) acts s)
    (sym h.around)
    ∙ ap (λ m. M.block_run c.around (block_of c.procedure) (function_entry c.procedure m) acts s)
    (own_ancestor h.level n ∙ sym h.parent)

-- ---- what comes back

abbrev as_number : Option BasicValue → Meaning ℤ
as_number r = V.returned r >>= (λ v. give (number_in v))

behind_goes :
    (entries : List S.Entry) (k : Setting) (c : Callee) (more taken index credits : ℕ) {numbers : ℕ → ℕ} {p : Point}
    (h : IsFunctionCall k c more) (o : IsAmong (waiting entries k.block) numbers p) (part : Code) (call : ℕ) →
    call + 2 ≡ index + size_of part → (c' : ℕ) (f : Family) (v : Services) (r : Option BasicValue) (s : State) →
    IsBehind (function_at k.block.call.surroundings k.block.call.code (called_from c call) p numbers)
    (credits + size_of part) c' f v r s →
    Comes k.block.call.code c' f v (value_aims entries k (behind p numbers taken credits index part))
    (as_number r k.block.call.surroundings.acts s)
unfolding V.returned ◌>>=◌ give
behind_goes entries k c more taken index credits {numbers} {p} h o part call at c' f v (Some (BasicNumber z)) s q =
    let w = k.block.call.surroundings in
    record {
      to = λ early. (
        q.result.1,
        record {
          point = q.point;
          numbers = numbers;
          among = record {
            stands = q.stands;
            image = q.image;
            later = later_then (waiting entries k.block).first p q.point o.later q.later;
            few = q.few;
            entries = q.entries ∙ o.entries;
            others = o.others;
            words = o.words;
          };
          since = q.later.acts;
          line = q.line;
          stays = λ n less. refl;
          state = q.state;
          reach = reach_map _ q.reach (λ b y is. (
            subst (λ j. IsIn w q.point numbers j b y) at is.0,
            is.1 ∙ q.result.0,
          ));
        },
      );
    }
behind_goes entries k c more taken index credits h o part call at c' f v None s q = absurd q.result
behind_goes entries k c more taken index credits h o part call at c' f v (Some (BasicBit b)) s q = absurd q.result
behind_goes entries k c more taken index credits h o part call at c' f v (Some (BasicOffset b)) s q = absurd q.result
behind_goes entries k c more taken index credits h o part call at c' f v (Some (BasicText b)) s q = absurd q.result
behind_goes entries k c more taken index credits h o part call at c' f v (Some (BasicPointer b)) s q = absurd q.result

-- ---- the call

pub jump_function_does :
    (entries : List S.Entry) (k : Setting) (c : Callee) (more : ℕ) → IsFunctionCall k c more →
    ((call : ℕ) (p : Point) (numbers : ℕ → ℕ) → IsAmong (waiting entries k.block) numbers p →
    AreMade k.block.call.surroundings k.block.call.code (called_from c call) p numbers) →
    ((call : ℕ) (p : Point) (numbers : ℕ → ℕ) → IsAmong (waiting entries k.block) numbers p →
    IsFunctionList (function_in k (called_from c call) p numbers) c.procedure.body (body_index c) →
    FunctionDoes (function_in k (called_from c call) p numbers) c.procedure.body (body_index c)) →
    NumberDoes entries k 0 (call_of k c)
unfolding V.number ◌>>=◌
jump_function_does entries k c more h made' does p numbers taken credits index f o line registers l paid there =
    let w = k.block.call.surroundings in
    let code = k.block.call.code in
    let y = call_at k c taken index p numbers in
    let given' = given_code y in
    let call' = call_code_of y in
    let eq = own_code k c taken index p numbers in
    let part = number_code k.block.environment (in_registers k.words taken) (call_of k c) in
    let size = ap (λ u. size_of u) eq in
    let n = size_append given' call' in
    let l' = subst (Linked w.links code index) eq l in
    let call = index + size_of given' in
    let z : Here = record {
      entries = entries;
      setting = k;
      callee = c;
      more = more;
      call = call;
      point = p;
      numbers = numbers;
    } in
    let x = behind p numbers taken credits index part in
    let goal = value_aims entries k x in
    let closed' = value_closed entries k x in
    let h' = call_waits k entries c more h in
    let tree = Y.Calling c.procedure.head.number k.block.environment.level Y.NoArgument in
    let entry = function_entry c.procedure c.calling.parent in
    let flow = M.block_run c.around (block_of c.procedure) entry w.acts p.state in
    let most = h.most in
    let acts = p.state.world.acts in
    let enough = h.enough in
    let turns = ap (λ (a : Around). a.turns) h.around in
    let is : IsHere z = record {
      is = record {
        begun = h.begun;
        function = h.function;
        room = h.room;
        enough = omega (arith, enough, turns);
      };
      among = o;
      calls = back_of given' call' l';
      made = made' call p numbers o;
    } in
    comes_on w.acts (V.called k.around tree w.acts p.state) as_number
    (subst (Comes code credits f (services_of p) (before code goal w.acts as_number))
    (sym (called_means (over entries k) c more h' o))
    (onward (before_closed w.acts as_number closed')
    (arguments_given y p numbers index credits f o.stands o.image (h.words, refl)
    (parent_frame (over entries k) c more h' o) (front_of given' call' l') there)
    (λ g at.
    comes_map (hand_aims (own_block z) acts (credits + size_of part)) (before code goal w.acts as_number) refl flow
    (λ c1 f1 v1 r s q.
    behind_goes entries k c more taken index credits h o part call (omega (arith, size, n)) c1 f1 v1 r s q)
    (λ c1 f1 v1 height label s q. record { to = q })
    (λ c1 f1 v1 r s q. absurd q)
    (function_hands z is (credits + size_of given') (credits + size_of part) g (does call p numbers o)
    (omega (arith, paid, most, size, n)) (λ b. (at b).0)
    (λ b. record { parent = (at b).1.parent; texts = (at b).1.texts })))))
