-- Where as many blocks are active as may be, a call with an argument that is copied ends the run.
use Rattle.std.proofs.Common.{◌≡◌, ℕ, ℤ, ◌+◌, ◌≤◌, List, [], ◌∷◌, ◌++◌, length, Option, None, Some, false}
use Rattle.std.proofs.Common.{refl, sym, ap, ◌∙◌, subst, arith}
use Rattle.std.specs.Prelude.{nat_lt}
use Rattle.rv_meaning.specs.Words.{word}
use Rattle.pli_meaning.specs.Control.{Label}
use Rattle.pli_meaning.specs.StorageState.{most_activations}
use Rattle.pli_serving.specs.Blocks as B
use Rattle.pli_coding.specs.Allocating.{act_code}
use Rattle.pli_coding.specs.Assembly.{Code}
use Rattle.pli_coding.specs.Entries.{arguments_copied}
use Rattle.pli_coding.specs.Environments.{none_taken}
use Rattle.pli_coding.specs.Frames.{fixed_size}
use Rattle.pli_coding.specs.Statements.{stmts_code}
use Rattle.activation_relation.specs.Frames.{lower_end}
use Rattle.activation_relation.specs.Layers.{Point, services_of}
use Rattle.run_steps.proofs.Jumps.{front_of}
use Rattle.run_steps.proofs.Linking.{size_append}
use Rattle.run_steps.specs.Reach.{Comes, before}
use Rattle.run_steps.proofs.Reach.{before_closed}
use Rattle.block_runs.specs.Bodies.{Function}
use Rattle.program_runs.specs.Procedures.{IsCoded, frame_for}
use Rattle.program_runs.specs.Statements.{Block, Does, IsAmong, size_in, statement_aims}
use Rattle.program_runs.proofs.Statements.{statement_closed}
use Rattle.expression_runs.specs.Laws as L
use Rattle.expression_runs.specs.Values.{Setting, number_aims}
use Rattle.expression_runs.proofs.Words.{number_closed}
use Rattle.function_runs.specs.Functions.{function_tail}
use Rattle.argument_runs.specs.CopyCalls.{beginning_of, entry_of, given_point, layer_of, listing_of, setting_for}
use Rattle.argument_runs.specs.CopyFunctions.{number_function, setting_in}
use Rattle.argument_runs.specs.Lists.{given_waits, list_under}
use Rattle.argument_runs.proofs.GivenLists.{with_list_stands}
use Rattle.nested_calls.proofs.DeepBeginnings.{IsDeep}
use Rattle.nested_calls.proofs.DeepCalls.{deep_means}
use Rattle.nested_calls.proofs.NestedCalls.{is_parent}
use Rattle.given_calls.specs.Given.{procedure_tail}
use Rattle.given_calls.specs.GivenCalls.{GivenCall, IsDeclared, IsGivenCall, called_with, given_call}
use Rattle.given_calls.specs.GivenFunctions.{IsGivenValue, called_there, given_value, value_with}
use Rattle.given_calls.proofs.DeepLists.{deep_list_comes}
use Rattle.given_calls.proofs.GivenCalls.{behind_call, given_call_comes}
use Rattle.given_calls.proofs.GivenFunctions.{as_number, declared_there, function_there, given_function_comes}

-- ---- where it is called

deep_among :
    (g : Option Function) {k : Block} {u : GivenCall} {more : ℕ} {numbers : ℕ → ℕ} {p : Point} (z : ℤ) →
    IsDeclared k u more → IsAmong k numbers p → IsCoded u.callee.procedure u.callee.calling →
    nat_lt (length k.first.state.activations) most_activations ≡ false →
    IsDeep k.call.surroundings k.call.code (given_point (called_with k u p numbers z)) numbers
    (beginning_of g (called_with k u p numbers z))
deep_among g {k} {u} {numbers = numbers} {p = p} z h o coded many =
    let w = k.call.surroundings in
    let y = called_with k u p numbers z in
    let c = u.callee in
    let x = c.procedure in
    let newest = o.later.layers ∙ h.space.newest in
    let known = with_list_stands w k.call.code p u.layer u.others (given_waits (word z)) (o.stands, o.image) newest in
    let room : (layer_of y).top + 16 ≤ (layer_of y).lower =
    subst (λ ls. frame_for w.parts ls x + fixed_size x.head.level 1 + 16 ≤ lower_end w.parts ls) h.space.newest
    h.space.room in
    record {
      stands = known.0;
      image = known.1;
      next = record {
        layer = record {
          level = refl;
          runs = refl;
          units = refl;
          parent = is_parent u.level x.head.level c.calling.parent h.nested o h.around_it h.inner h.parent;
        };
        laid = record {
          above = refl;
          fixed = omega arith;
          falls = omega arith;
          free = omega (arith, room);
          saved = coded.saved;
          told = λ n v e. absurd (cc e);
        };
        entries = ([], refl);
        edits = refl;
        over = known.0.over;
      };
      entering = record {
        entered = ap (λ t. B.entered_of 0 p.control.line t) (o.later.waiting ∙ h.space.idle);
        given = refl;
        arguments = [];
        below = refl;
        many = refl;
        places = refl;
        units = refl;
      };
      full = subst (λ xs. nat_lt (length xs) most_activations ≡ false) (sym o.later.activations) many;
      kind = refl;
      level = coded.level;
      line = coded.line;
      few = omega arith;
      back = coded.back;
      held = refl;
      words = λ n less. o.words n;
      waits = λ n. refl;
      told = λ n. refl;
      list = refl;
      top = refl;
      lower = refl;
    }

-- ---- CALL

abbrev behind_list : GivenCall → (tail : Code) → Code
behind_list u tail =
    let x = u.callee.procedure in
    arguments_copied u.callee.environment (0 ∷ [])
    ++ (x.variables
    ++ (act_code x.head.line ++ (stmts_code u.callee.environment none_taken x.body ++ tail)))

pub deep_call_ends :
    (k : Block) (u : GivenCall) (labels : List Label) (line index left' need most more : ℕ) →
    IsGivenCall k u line index need most more → nat_lt (length k.first.state.activations) most_activations ≡ false →
    L.Does (setting_for k labels line most) need u.source → Does k labels (given_call u line) index left'
deep_call_ends k u labels line index left' need most more h many ev =
    given_call_comes k u labels line index left' need most more h ev
    (λ acts wanted z wide p numbers o since credits g paid there gives.
    let w = k.call.surroundings in
    let y = called_with k u p numbers z in
    let x = u.callee.procedure in
    let n = size_append (listing_of x) (behind_list u (procedure_tail x)) in
    let closed = before_closed w.acts behind_call
    (statement_closed k labels acts (index + size_in k (given_call u line)) wanted left') in
    subst (Comes k.call.code credits g (services_of (given_point y)) (before k.call.code
    (statement_aims k labels acts (index + size_in k (given_call u line)) wanted left') w.acts behind_call))
    (sym (deep_means u.callee.around x.head x.body (entry_of None y) w.acts p.state
    (subst (λ xs. nat_lt (length xs) most_activations ≡ false) (sym o.later.activations) many)))
    (deep_list_comes {list = list_under u.layer.at} {n = 0} closed credits u.callee.calling.call
    u.callee.calling.entry g
    (deep_among None z h.declared o h.callee.coded many)
    (record {
      calls = h.callee.calls;
      place = h.callee.place;
      begins = front_of (listing_of x) (behind_list u (procedure_tail x)) h.callee.stands;
      back = refl;
      some = tt;
    }) (omega (arith, paid, n), h.callee.acts) there gives))

-- ---- a call in an expression

pub deep_function_ends :
    (k : Setting) (u : GivenCall) (need more : ℕ) → IsGivenValue k u more →
    nat_lt (length k.block.first.state.activations) most_activations ≡ false → L.Does (setting_in k) need u.source →
    L.Does k need (given_value u)
deep_function_ends k u need more h many ev =
    given_function_comes k u need more h ev
    (λ call x z wide p numbers o since line stays calls at credits g paid there gives.
    let w = k.block.call.surroundings in
    let y = value_with k u call p numbers z in
    let f = function_there k u call h.function in
    let c = u.callee.procedure in
    let n = size_append (listing_of c) (behind_list u (function_tail c)) in
    let most = h.most in
    let inside = calls.inside in
    let small' = calls.small' in
    let closed = before_closed w.acts as_number (number_closed k.block k.labels x) in
    subst (Comes k.block.call.code credits g (services_of (given_point y)) (before k.block.call.code
    (number_aims k.block k.labels x) w.acts as_number))
    (sym (deep_means u.callee.around c.head c.body (entry_of (Some number_function) y) w.acts p.state
    (subst (λ xs. nat_lt (length xs) most_activations ≡ false) (sym o.later.activations) many)))
    (deep_list_comes {list = list_under u.layer.at} {n = 0} closed credits call u.callee.calling.entry g
    (deep_among (Some number_function) {u = called_there u call} z (declared_there call h.declared) o
    (record { level = f.level; line = f.line; saved = f.saved; back = omega (arith, inside, small') }) many)
    (record {
      calls = calls;
      place = f.place;
      begins = front_of (listing_of c) (behind_list u (function_tail c)) f.stands;
      back = refl;
      some = tt;
    }) (omega (arith, paid, most, n), f.acts) there gives))
