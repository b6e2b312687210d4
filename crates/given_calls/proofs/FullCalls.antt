-- A call whose copy passes the limit on what is AUTOMATIC ends the run where it would be made.
use Rattle.std.proofs.Common.{◌≡◌, ℕ, ℤ, ◌+◌, ◌%◌, ◌≤◌, List, [], ◌∷◌, ◌++◌, length, Option, None, Some, Bool}
use Rattle.std.proofs.Common.{true, false, refl, sym, ap, ◌∙◌, subst, arith}
use Rattle.std.specs.Prelude.{cond, nat_le, nat_lt, pos}
use Rattle.rv_meaning.specs.Words.{word}
use Rattle.pli_typing.specs.Signatures.{Fixed}
use Rattle.pli_meaning.specs.BasicValues.{BasicValue}
use Rattle.pli_meaning.specs.Contents.{footprint_of}
use Rattle.pli_meaning.specs.Control as F
use Rattle.pli_meaning.specs.Control.{Label, Meaning, Normal, choose, finish, flow_on, give, left, looked, stored}
use Rattle.pli_meaning.specs.Control.{◌>>=◌, ◌>>◌}
use Rattle.pli_meaning.specs.Executing as M
use Rattle.pli_meaning.specs.Making as K
use Rattle.pli_meaning.specs.Making.{plain, with_variable}
use Rattle.pli_meaning.specs.Numbers.{is_of_precision}
use Rattle.pli_meaning.specs.Raising.{at_line}
use Rattle.pli_meaning.specs.StorageState.{State, automatic_in_use, most_activations, most_automatic, newest_ended}
use Rattle.pli_meaning.specs.StorageState.{with_world}
use Rattle.pli_meaning.specs.World.{ending}
use Rattle.pli_meaning.specs.declared.outcome.End.{End}
use Rattle.pli_meaning.specs.declared.outcome.End.TheVariants as E
use Rattle.pli_meaning.specs.declared.outcome.Limit.TheVariants as W
use Rattle.pli_serving.specs.Blocks as B
use Rattle.pli_typing.specs.TypedTree as Y
use Rattle.pli_coding.specs.Assembly.{size_of}
use Rattle.pli_coding.specs.Entries.{arguments_copied}
use Rattle.pli_coding.specs.Environments.{none_taken}
use Rattle.pli_coding.specs.Frames.{fixed_size}
use Rattle.pli_coding.specs.Allocating.{act_code}
use Rattle.pli_coding.specs.Statements.{stmts_code}
use Rattle.activation_relation.specs.Frames.{lower_end}
use Rattle.activation_relation.specs.Layers.{Point, services_of}
use Rattle.activation_relation.proofs.Returning.{in_use_later}
use Rattle.activation_relation.proofs.Serials.{few_small}
use Rattle.activation_relation.proofs.Remaining.{shapes_remain}
use Rattle.run_steps.proofs.Jumps.{back_of, front_of}
use Rattle.run_steps.proofs.Linking.{size_append}
use Rattle.run_steps.specs.Reach.{Comes, before}
use Rattle.run_steps.proofs.Reach.{before_closed, onward}
use Rattle.block_runs.specs.Bodies.{Function}
use Rattle.block_runs.proofs.Places.{bounds}
use Rattle.program_runs.specs.Procedures.{IsCoded, block_of, frame_for}
use Rattle.program_runs.specs.Statements.{Block, Does, IsAmong, size_in, statement_aims}
use Rattle.program_runs.proofs.Statements.{statement_closed}
use Rattle.expression_runs.specs.Laws as L
use Rattle.expression_runs.specs.Values.{Setting, number_aims}
use Rattle.expression_runs.proofs.Words.{number_closed}
use Rattle.function_runs.specs.Functions.{function_tail}
use Rattle.argument_runs.specs.Copies.{copy_generation}
use Rattle.argument_runs.specs.CopyCalls.{CopyCall, beginning_of, copies_index, copy_for, copy_in, entry_of}
use Rattle.argument_runs.specs.CopyCalls.{given_point, giving_of, layer_of, listed_layer, listing_of, setting_for}
use Rattle.argument_runs.specs.CopyFunctions.{number_function, setting_in}
use Rattle.argument_runs.specs.ListBeginnings.{Listing}
use Rattle.argument_runs.specs.ListCalls.{entered_point}
use Rattle.argument_runs.specs.Lists.{given_waits, list_under}
use Rattle.argument_runs.proofs.CopyBlocks.{run_means}
use Rattle.argument_runs.proofs.CopyPoints.{Around}
use Rattle.argument_runs.proofs.GivenLists.{with_list_stands}
use Rattle.argument_runs.proofs.ListBeginnings.{list_begins, listed_stands}
use Rattle.nested_calls.proofs.FullVariables.{over_comes}
use Rattle.nested_calls.proofs.NestedCalls.{is_parent}
use Rattle.given_calls.specs.Given.{procedure_tail}
use Rattle.given_calls.specs.GivenCalls.{GivenCall, IsDeclared, IsGivenCall, PassesLimit, called_with, given_call}
use Rattle.given_calls.specs.GivenFunctions.{IsGivenValue, called_there, given_value, value_with}
use Rattle.given_calls.proofs.FullCopies.{copy_ends}
use Rattle.given_calls.proofs.GivenCalls.{behind_call, given_call_comes}
use Rattle.given_calls.proofs.GivenFunctions.{as_number, declared_there, function_there, given_function_comes}

-- ---- where it is called

room_there :
    {k : Block} {u : GivenCall} {more : ℕ} {numbers : ℕ → ℕ} {p : Point} (z : ℤ) → IsDeclared k u more →
    IsAmong k numbers p →
    (layer_of (called_with k u p numbers z)).top + 16 ≤ (layer_of (called_with k u p numbers z)).lower
room_there {k} {u} z h o =
    let w = k.call.surroundings in
    let x = u.callee.procedure in
    subst (λ ls. frame_for w.parts ls x + fixed_size x.head.level 1 + 16 ≤ lower_end w.parts ls) h.space.newest
    h.space.room

pub listing_among :
    (g : Option Function) {k : Block} {u : GivenCall} {more : ℕ} {numbers : ℕ → ℕ} {p : Point} (z : ℤ) →
    IsDeclared k u more → IsAmong k numbers p → IsCoded u.callee.procedure u.callee.calling →
    nat_lt (length k.first.state.activations) most_activations ≡ true →
    Listing k.call.surroundings k.call.code (given_point (called_with k u p numbers z)) numbers
    (beginning_of g (called_with k u p numbers z)) (list_under u.layer.at)
listing_among g {k} {u} {numbers = numbers} {p = p} z h o coded few =
    let w = k.call.surroundings in
    let y = called_with k u p numbers z in
    let c = u.callee in
    let x = c.procedure in
    let newest = o.later.layers ∙ h.space.newest in
    let known = with_list_stands w k.call.code p u.layer u.others (given_waits (word z)) (o.stands, o.image) newest in
    let room = room_there z h o in
    let e = bounds w.parts (given_point y).control.layers known.0.laid in
    let above = e.above in
    record {
      stands = known.0;
      image = known.1;
      beginning = record {
        next = record {
          layer = record {
            level = refl;
            runs = refl;
            units = refl;
            parent = is_parent u.level x.head.level c.calling.parent h.nested o h.around_it h.inner h.parent;
          };
          laid = record {
            above = refl;
            fixed = omega arith;
            falls = omega arith;
            free = omega (arith, room);
            saved = coded.saved;
            told = λ n v e. absurd (cc e);
          };
          entries = ([], refl);
          edits = refl;
          over = known.0.over;
        };
        entering = record {
          entered = ap (λ t. B.entered_of 0 p.control.line t) (o.later.waiting ∙ h.space.idle);
          given = refl;
          arguments = [];
          below = refl;
          many = refl;
          places = refl;
          units = refl;
        };
        shallow = subst (λ xs. nat_lt (length xs) most_activations ≡ true) (sym o.later.activations) few;
        kind = refl;
        level = coded.level;
        line = coded.line;
        few = omega arith;
        back = coded.back;
        held = refl;
        words = λ n less. o.words n;
        waits = λ n. refl;
        told = λ n. refl;
        list = refl;
        top = refl;
        lower = refl;
      };
      some = omega arith;
      below = omega (arith, above);
    }

around_among :
    (g : Option Function) {k : Block} {u : GivenCall} {more : ℕ} {numbers : ℕ → ℕ} {p : Point} (z : ℤ) →
    is_of_precision 31 z ≡ true → (h : IsDeclared k u more) → (o : IsAmong k numbers p) →
    Listing k.call.surroundings k.call.code (given_point (called_with k u p numbers z)) numbers
    (beginning_of g (called_with k u p numbers z)) (list_under u.layer.at) →
    Around k.call.surroundings k.call.code (entered_point (giving_of g (called_with k u p numbers z)))
    (listed_layer (called_with k u p numbers z)) u.layer u.others (copy_in (called_with k u p numbers z))
around_among g {k} {u} {p = p} z wide h o l =
    let w = k.call.surroundings in
    let known = listed_stands l in
    let s = h.space in
    record {
      stands = known.0;
      image = known.1;
      is = record {
        newest = refl;
        list = refl;
        words = s.words;
        wide = wide;
        fits = room_there z h o;
        even = subst (λ ls. lower_end w.parts ls % 16 ≡ 0) s.newest s.even;
        low = subst (λ n. n ≤ w.parts.stack_start) (sym o.later.remains.low) s.low;
        shape = shapes_remain o.later.remains u.callee.number (plain (Fixed 31)) s.shape;
        number = s.number;
        serial = few_small w p 1 o.few h.small;
      };
    }

passed_among :
    {k : Block} {u : GivenCall} {more : ℕ} {numbers : ℕ → ℕ} {p : Point} → IsDeclared k u more → IsAmong k numbers p →
    PassesLimit k.first u.callee →
    nat_le (automatic_in_use p.state.living + footprint_of (copy_generation (copy_for u.callee (pos 0))))
    most_automatic ≡ false
passed_among {k} {u} {p = p} h o many =
    subst (λ n. nat_le (n + footprint_of (copy_generation (copy_for u.callee (pos 0)))) most_automatic ≡ false)
    (sym (in_use_later k.call.surroundings k.first p h.begun.resumes.stands o.stands o.later)) many.limit

-- ---- what it means

over_flow :
    (q : Bool) (end : End) (k : ℕ) (s : State) (next : Unit {0} → Meaning (Unit {0})) →
    flow_on k (cond q (F.Ended (with_world (ending end s.world) s)) (F.Paused s)) next
    ≡ cond q (F.Ended (with_world (ending end s.world) s)) (F.Paused s)
over_flow true end k s next = refl
over_flow false end k s next = refl

pub finish_on :
    (end : End) (k : ℕ) (s : State) (next : Unit {0} → Meaning (Unit {0})) →
    flow_on k (finish {R = Unit {0}} end k s) next ≡ finish end k s
unfolding finish
finish_on end k s next = over_flow (nat_lt s.world.acts k) end k s next

passed_means :
    (y : CopyCall) (s : State) (k : ℕ) →
    nat_le (automatic_in_use s.living + footprint_of (copy_generation (copy_in y))) most_automatic ≡ false →
    K.variable_made 0 (copy_generation (copy_in y)) k s ≡ finish (E.Limit W.Automatic) k s
unfolding K.variable_made looked choose stored ◌>>=◌
passed_means y s k many =
    ap (λ q. cond q (Normal tt (with_variable 0 (copy_generation (copy_in y)) s)) (finish (E.Limit W.Automatic) k s))
    many

body_means :
    (g : Option Function) (y : CopyCall) (k : ℕ) →
    nat_le (automatic_in_use y.point.state.living + footprint_of (copy_generation (copy_in y))) most_automatic ≡ false →
    M.block_body (at_line y.callee.around y.callee.procedure.head.line) y.callee.procedure.head
    y.callee.procedure.body (entry_of g y) k (entered_point (giving_of g y)).state
    ≡ finish (E.Limit W.Automatic) k (entered_point (giving_of g y)).state
unfolding M.block_body K.parameters_bound K.parameter_bound give ◌>>=◌ ◌>>◌
body_means g y k many =
    let head = y.callee.procedure.head in
    let body = y.callee.procedure.body in
    let around = at_line y.callee.around head.line in
    let s = (entered_point (giving_of g y)).state in
    let none : Unit {0} → Meaning (Unit {0}) = λ q. K.parameters_bound [] [] in
    let rest : Unit {0} → Meaning (Unit {0}) = λ q. M.block_variables_made around head head.kind
    >> (M.entry_act head.kind >> (M.block_list around body (entry_of g y).is_function)) in
    ap (λ flow. flow_on k (flow_on k flow none) rest) (passed_means y s k many)
    ∙ ap (λ flow. flow_on k flow rest) (finish_on (E.Limit W.Automatic) k s none)
    ∙ finish_on (E.Limit W.Automatic) k s rest

left_finish :
    (q : Bool) (end : End) (k : ℕ) (s : State) (close : State → State) →
    left true close (cond q (F.Ended (with_world (ending end s.world) s)) (F.Paused s))
    ≡ cond q (F.Ended (with_world (ending end s.world) s)) (F.Paused s)
left_finish true end k s close = refl
left_finish false end k s close = refl

pub finish_left :
    (end : End) (k : ℕ) (s : State) (close : State → State) →
    left true close (finish {R = Unit {0}} end k s) ≡ finish {R = Option BasicValue} end k s
unfolding finish
finish_left end k s close = left_finish (nat_lt s.world.acts k) end k s close

full_means :
    (g : Option Function) (y : CopyCall) (k : ℕ) → y.callee.procedure.head.kind ≡ Y.ProcedureBlock →
    nat_lt (length y.point.state.activations) most_activations ≡ true →
    nat_le (automatic_in_use y.point.state.living + footprint_of (copy_generation (copy_in y))) most_automatic ≡ false →
    M.block_run y.callee.around (block_of y.callee.procedure) (entry_of g y) k y.point.state
    ≡ finish (E.Limit W.Automatic) k (entered_point (giving_of g y)).state
full_means g y k kind few many =
    run_means y.callee.around y.callee.procedure.head y.callee.procedure.body (entry_of g y) k y.point.state kind few
    ∙ ap (λ flow. left true newest_ended flow) (body_means g y k many)
    ∙ finish_left (E.Limit W.Automatic) k (entered_point (giving_of g y)).state newest_ended

-- ---- CALL

pub full_call_ends :
    (k : Block) (u : GivenCall) (labels : List Label) (line index left' need most more : ℕ) →
    IsGivenCall k u line index need most more → PassesLimit k.first u.callee →
    L.Does (setting_for k labels line most) need u.source → Does k labels (given_call u line) index left'
full_call_ends k u labels line index left' need most more h full ev =
    given_call_comes k u labels line index left' need most more h ev
    (λ acts wanted z wide p numbers o since credits g paid there gives.
    let w = k.call.surroundings in
    let y = called_with k u p numbers z in
    let c = u.callee in
    let x = c.procedure in
    let rest = x.variables
    ++ (act_code x.head.line ++ (stmts_code c.environment none_taken x.body ++ procedure_tail x)) in
    let copies = arguments_copied c.environment (0 ∷ []) in
    let n = size_append (listing_of x) (copies ++ rest) in
    let n1 = size_append copies rest in
    let closed = before_closed w.acts behind_call
    (statement_closed k labels acts (index + size_in k (given_call u line)) wanted left') in
    let l = listing_among None z h.declared o h.callee.coded full.shallow in
    let many = passed_among h.declared o full in
    subst (Comes k.call.code credits g (services_of (given_point y)) (before k.call.code
    (statement_aims k labels acts (index + size_in k (given_call u line)) wanted left') w.acts behind_call))
    (sym (full_means None y w.acts h.callee.kind
    (subst (λ xs. nat_lt (length xs) most_activations ≡ true) (sym o.later.activations) full.shallow) many))
    (onward closed
    (list_begins {parameters = 0 ∷ []} credits g l
    (record {
      calls = h.callee.calls;
      place = h.callee.place;
      begins = front_of (listing_of x) (copies ++ rest) h.callee.stands;
      back = refl;
      some = tt;
    }) there gives)
    (λ g' at.
    over_comes (E.Limit W.Automatic) w.acts (entered_point (giving_of None y)).state
    (copy_ends (credits + 2 + size_of (listing_of x)) (copies_index c) g' (around_among None z wide h.declared o l) many
    (h.callee.copied z) (omega (arith, paid, n, n1), h.callee.acts)
    (front_of copies rest (back_of (listing_of x) (copies ++ rest) h.callee.stands)) at))))

-- ---- a call in an expression

pub full_function_ends :
    (k : Setting) (u : GivenCall) (need more : ℕ) → IsGivenValue k u more → PassesLimit k.block.first u.callee →
    L.Does (setting_in k) need u.source → L.Does k need (given_value u)
full_function_ends k u need more h full ev =
    given_function_comes k u need more h ev
    (λ call x z wide p numbers o since line stays calls at credits g paid there gives.
    let w = k.block.call.surroundings in
    let v = called_there u call in
    let y = value_with k u call p numbers z in
    let f = function_there k u call h.function in
    let d = declared_there call h.declared in
    let c = u.callee in
    let s = c.procedure in
    let rest = s.variables
    ++ (act_code s.head.line ++ (stmts_code c.environment none_taken s.body ++ function_tail s)) in
    let copies = arguments_copied c.environment (0 ∷ []) in
    let n = size_append (listing_of s) (copies ++ rest) in
    let n1 = size_append copies rest in
    let most = h.most in
    let inside = calls.inside in
    let small' = calls.small' in
    let closed = before_closed w.acts as_number (number_closed k.block k.labels x) in
    let l = listing_among (Some number_function) {u = v} z d o
    (record { level = f.level; line = f.line; saved = f.saved; back = omega (arith, inside, small') }) full.shallow in
    let many = passed_among h.declared o full in
    subst (Comes k.block.call.code credits g (services_of (given_point y)) (before k.block.call.code
    (number_aims k.block k.labels x) w.acts as_number))
    (sym (full_means (Some number_function) y w.acts f.kind
    (subst (λ xs. nat_lt (length xs) most_activations ≡ true) (sym o.later.activations) full.shallow) many))
    (onward closed
    (list_begins {parameters = 0 ∷ []} credits g l
    (record {
      calls = calls;
      place = f.place;
      begins = front_of (listing_of s) (copies ++ rest) f.stands;
      back = refl;
      some = tt;
    }) there gives)
    (λ g' at'.
    over_comes (E.Limit W.Automatic) w.acts (entered_point (giving_of (Some number_function) y)).state
    (copy_ends (credits + 2 + size_of (listing_of s)) (copies_index c) g'
    (around_among (Some number_function) {u = v} z wide d o l) many (f.copied z)
    (omega (arith, paid, most, n, n1), f.acts)
    (front_of copies rest (back_of (listing_of s) (copies ++ rest) f.stands)) at'))))
