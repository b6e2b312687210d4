-- Calls with a copy come behind them if the lists of what they call do, with ON in them.
use Rattle.std.proofs.Common.{◌≡◌, ℕ, ℤ, ◌+◌, ◌<◌, List, [], ◌∷◌, ◌++◌, Some, None, true, refl, sym, ap, subst, arith}
use Rattle.std.proofs.lemmas.List.{append_assoc}
use Rattle.pli_typing.specs.TypedTree as Y
use Rattle.pli_meaning.specs.Control.{Label}
use Rattle.pli_meaning.specs.Numbers.{is_of_precision}
use Rattle.pli_meaning.specs.Raising.{Around}
use Rattle.pli_coding.specs.Allocating.{act_code}
use Rattle.pli_coding.specs.Assembly.{Code, Mark, ReturnPlace}
use Rattle.pli_coding.specs.Entries.{arguments_copied}
use Rattle.pli_coding.specs.Environments.{none_taken}
use Rattle.pli_coding.specs.Procedures.{no_value}
use Rattle.pli_coding.specs.Statements.{stmts_code}
use Rattle.activation_relation.specs.Layers.{Layer, Point}
use Rattle.run_steps.specs.Items.{Linked}
use Rattle.run_steps.proofs.Jumps.{back_of, front_of}
use Rattle.program_runs.specs.Calls.{left_over}
use Rattle.program_runs.specs.Procedures.{end_of}
use Rattle.program_runs.specs.Statements.{Block, Does, IsAmong, IsBegun}
use Rattle.expression_runs.specs.Laws as L
use Rattle.expression_runs.specs.Values.{Setting}
use Rattle.function_runs.specs.Functions.{function_end, function_tail}
use Rattle.unit_runs.specs.Bodies.{BodyDoes, IsBody}
use Rattle.jump_runs.specs.Functions.{FunctionDoes, IsFunctionList}
use Rattle.argument_runs.specs.CopyCalls.{Copying, CopyCall, IsCopyCall, IsCopying, body_index, call_at, call_with}
use Rattle.argument_runs.specs.CopyCalls.{copy_block, listing_of, setting_for}
use Rattle.argument_runs.specs.CopyFunctions.{IsCopyFunction, IsCopyFunctionCall, block_with, called_by, function_with}
use Rattle.argument_runs.specs.CopyFunctions.{number_function, setting_in}
use Rattle.argument_runs.proofs.CopyCalls.{copy_call_comes}
use Rattle.argument_runs.proofs.CopyFunctions.{copy_function_comes, function_by}

-- ---- a procedure's list

body_linked :
    (y : CopyCall) (tail : Code) →
    Linked y.surroundings.links y.code y.callee.calling.entry
    (listing_of y.callee.procedure
    ++ (arguments_copied y.callee.environment (0 ∷ [])
    ++ (act_code y.callee.procedure.head.line
    ++ (stmts_code y.callee.environment none_taken y.callee.procedure.body ++ tail)))) →
    Linked y.surroundings.links y.code (body_index y.callee)
    (stmts_code y.callee.environment none_taken y.callee.procedure.body ++ tail)
body_linked y tail l =
    let x = y.callee.procedure in
    let one = act_code x.head.line in
    let body = stmts_code y.callee.environment none_taken x.body in
    let copies = arguments_copied y.callee.environment (0 ∷ []) in
    back_of one (body ++ tail)
    (back_of copies (one ++ (body ++ tail)) (back_of (listing_of x) (copies ++ (one ++ (body ++ tail))) l))

is_body :
    (y : CopyCall) → IsCopying y.surroundings y.code y.callee →
    y.surroundings.acts < y.callee.around.turns + (copy_block None y).first.state.world.acts →
    IsBegun (copy_block None y) → IsBody (copy_block None y) y.callee.procedure.body (body_index y.callee)
is_body y h few b =
    let x = y.callee.procedure in
    let tail = Mark (ReturnPlace x.head.number) ∷ end_of x in
    record {
      begun = b;
      linked = front_of (stmts_code y.callee.environment none_taken x.body) tail (body_linked y tail h.stands);
      end = h.end;
      function = refl;
      kind = refl;
      registers = omega arith;
      outers = refl;
      enough = few;
    }

pub procedure_does :
    (k : Block) (c : Copying) (labels : List Label) (source : Y.Number) (φ : Layer) (φs : List Layer)
    (line index left' need most more : ℕ) → IsCopyCall k c source φ φs line index need most more →
    L.Does (setting_for k labels line most) need source →
    ((p : Point) (numbers : ℕ → ℕ) (z : ℤ) → IsAmong k numbers p → is_of_precision 31 z ≡ true →
    IsBody (copy_block None (call_at k c φ φs p numbers z)) c.procedure.body (body_index c) →
    BodyDoes (copy_block None (call_at k c φ φs p numbers z)) c.procedure.body (body_index c) left_over) →
    Does k labels (call_with k c source line) index left'
procedure_does k c labels source φ φs line index left' need most more h ev does =
    let enough = h.enough in
    let turns = ap (λ (a : Around). a.turns) h.around in
    copy_call_comes k c labels source φ φs line index left' need most more h ev
    (λ p numbers z o wide b o' f at.
    let y = call_at k c φ φs p numbers z in
    let later = o.later.acts in
    does p numbers z o wide (is_body y h.callee (omega (arith, enough, turns, later)) b) (copy_block None y).first
    numbers f o' at)

-- ---- a function's

is_list :
    (y : CopyCall) → IsCopyFunction y.surroundings y.code y.callee →
    y.surroundings.acts
    < y.callee.around.turns + (copy_block (Some number_function) y).first.state.world.acts →
    IsBegun (copy_block (Some number_function) y) →
    IsAmong (copy_block (Some number_function) y) y.numbers (copy_block (Some number_function) y).first →
    IsFunctionList (copy_block (Some number_function) y) y.callee.procedure.body (body_index y.callee)
is_list y h few b o =
    let x = y.callee.procedure in
    let tail = Mark (ReturnPlace x.head.number) ∷ function_end x in
    let list' = stmts_code y.callee.environment none_taken x.body in
    let lacks = no_value x.head.line in
    record {
      begun = b;
      among = o;
      linked = front_of (list' ++ lacks) tail
          (subst (Linked y.surroundings.links y.code (body_index y.callee)) (sym (append_assoc list' lacks tail))
          (body_linked y (function_tail x) h.stands));
      kind = refl;
      line = h.line;
      acts = h.acts;
      called = omega arith;
      enough = few;
      routines = h.routines;
      raises = h.raises;
    }

pub function_does :
    (k : Setting) (c : Copying) (source : Y.Number) (φ : Layer) (φs : List Layer) (need more : ℕ) →
    IsCopyFunctionCall k c φ φs more → L.Does (setting_in k) need source →
    ((call : ℕ) (p : Point) (numbers : ℕ → ℕ) (z : ℤ) → IsAmong k.block numbers p → is_of_precision 31 z ≡ true →
    IsFunctionList (block_with k c φ φs call p numbers z) c.procedure.body (body_index c) →
    FunctionDoes (block_with k c φ φs call p numbers z) c.procedure.body (body_index c)) →
    L.Does k need (function_with k c source)
function_does k c source φ φs need more h ev does =
    let enough = h.enough in
    let turns = ap (λ (a : Around). a.turns) h.around in
    copy_function_comes k c source φ φs need more h ev
    (λ call p numbers z o wide b o' f at.
    let y = call_at k.block (called_by c call) φ φs p numbers z in
    let later = o.later.acts in
    let called : IsCopyFunction k.block.call.surroundings k.block.call.code (called_by c call) = function_by k call
    h.function in
    does call p numbers z o wide (is_list y called (omega (arith, enough, turns, later)) b o') f at)
