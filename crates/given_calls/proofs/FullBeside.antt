-- A call where the variables beside the copy pass the limit on what is AUTOMATIC ends the run.
use Rattle.std.proofs.Common.{◌≡◌, ℕ, ℤ, ◌+◌, List, [], ◌∷◌, ◌++◌, Option, None, Some}
use Rattle.std.proofs.Common.{true, refl, sym, ap, ◌∙◌, subst, arith}
use Rattle.pli_meaning.specs.Control.{Label, Meaning, finish, flow_on, give, left, ◌>>=◌}
use Rattle.pli_meaning.specs.Control.{◌>>◌}
use Rattle.pli_meaning.specs.Executing as M
use Rattle.pli_meaning.specs.Making as K
use Rattle.pli_meaning.specs.Numbers.{is_of_precision}
use Rattle.pli_meaning.specs.Raising.{at_line}
use Rattle.pli_meaning.specs.StorageState.{newest_ended}
use Rattle.pli_meaning.specs.declared.outcome.End.TheVariants as E
use Rattle.pli_meaning.specs.declared.outcome.Limit.TheVariants as W
use Rattle.pli_typing.specs.TypedTree as Y
use Rattle.pli_coding.specs.Assembly.{size_of}
use Rattle.pli_coding.specs.Entries.{arguments_copied}
use Rattle.pli_coding.specs.Environments.{none_taken}
use Rattle.pli_coding.specs.Allocating.{act_code}
use Rattle.pli_coding.specs.Statements.{stmts_code}
use Rattle.activation_relation.specs.Layers.{Point, services_of}
use Rattle.run_steps.proofs.Jumps.{back_of, front_of}
use Rattle.run_steps.proofs.Linking.{size_append}
use Rattle.run_steps.specs.Reach.{Comes, before}
use Rattle.run_steps.proofs.Reach.{before_closed, onward}
use Rattle.block_runs.specs.Bodies.{Function}
use Rattle.program_runs.specs.Procedures.{block_of}
use Rattle.program_runs.specs.Statements.{Block, Does, IsAmong, size_in, statement_aims}
use Rattle.program_runs.proofs.Statements.{statement_closed}
use Rattle.expression_runs.specs.Laws as L
use Rattle.expression_runs.specs.Values.{Setting, number_aims}
use Rattle.expression_runs.proofs.Words.{number_closed}
use Rattle.function_runs.specs.Functions.{function_tail}
use Rattle.argument_runs.specs.CopyCalls.{CopyCall, copies_index, copy_in, entry_of, given_point}
use Rattle.argument_runs.specs.CopyCalls.{giving_of, listed_layer, listing_of, setting_for}
use Rattle.argument_runs.specs.CopyFunctions.{number_function, setting_in}
use Rattle.argument_runs.specs.ListCalls.{entered_point}
use Rattle.argument_runs.proofs.Copies.{copies_come}
use Rattle.argument_runs.proofs.CopyBlocks.{Here, copied_known, entered_known, is_copy, run_means}
use Rattle.argument_runs.proofs.CopyPoints.{copied_means}
use Rattle.argument_runs.proofs.ListBeginnings.{list_begins}
use Rattle.nested_calls.proofs.FullVariables.{over_comes}
use Rattle.given_calls.specs.Given.{AreFullBeside, procedure_tail}
use Rattle.given_calls.specs.GivenCalls.{GivenCall, IsGivenCall, PassesNone, called_with, given_call}
use Rattle.given_calls.specs.GivenFunctions.{IsGivenValue, called_there, given_value, value_with}
use Rattle.given_calls.proofs.FullCalls.{finish_left, finish_on, listing_among}
use Rattle.given_calls.proofs.GivenCalls.{behind_call, given_call_comes, here_of}
use Rattle.given_calls.proofs.GivenFunctions.{as_number, declared_there, function_there, given_function_comes}
use Rattle.given_calls.proofs.GivenFunctions.{here_there}

-- ---- what it means

beside_means :
    {g : Option Function} {y : CopyCall} → Here g y → (m : AreFullBeside g y) →
    y.callee.procedure.head.kind ≡ Y.ProcedureBlock →
    M.block_run y.callee.around (block_of y.callee.procedure) (entry_of g y) y.surroundings.acts y.point.state
    ≡ finish (E.Limit W.Automatic) y.surroundings.acts m.state
unfolding M.block_body K.parameters_bound K.parameter_bound give ◌>>=◌ ◌>>◌
beside_means {g} {y} h m kind =
    let head = y.callee.procedure.head in
    let body = y.callee.procedure.body in
    let around = at_line y.callee.around head.line in
    let k = y.surroundings.acts in
    let none : Unit {0} → Meaning (Unit {0}) = λ q. K.parameters_bound [] [] in
    let rest : Unit {0} → Meaning (Unit {0}) = λ q. M.entry_act head.kind
    >> (M.block_list around body (entry_of g y).is_function) in
    run_means y.callee.around head body (entry_of g y) k y.point.state kind h.room.shallow
    ∙ ap (λ flow. left true newest_ended (flow_on k (flow_on k flow none)
    (λ q. M.block_variables_made around head head.kind >> rest q)))
    (copied_means y.surroundings (entered_point (giving_of g y)) (listed_layer y) y.layer y.others (copy_in y) k
    (is_copy h))
    ∙ ap (λ flow. left true newest_ended (flow_on k flow rest)) m.means
    ∙ ap (λ flow. left true newest_ended flow) (finish_on (E.Limit W.Automatic) k m.state rest)
    ∙ finish_left (E.Limit W.Automatic) k m.state newest_ended

-- ---- CALL

pub beside_call_ends :
    (k : Block) (u : GivenCall) (labels : List Label) (line index left' need most more : ℕ) →
    IsGivenCall k u line index need most more → PassesNone k.first u.callee →
    L.Does (setting_for k labels line most) need u.source →
    ((p : Point) (numbers : ℕ → ℕ) (z : ℤ) → IsAmong k numbers p → is_of_precision 31 z ≡ true →
    AreFullBeside None (called_with k u p numbers z)) → Does k labels (given_call u line) index left'
beside_call_ends k u labels line index left' need most more h none ev full =
    given_call_comes k u labels line index left' need most more h ev
    (λ acts wanted z wide p numbers o since credits g paid there gives.
    let w = k.call.surroundings in
    let y = called_with k u p numbers z in
    let c = u.callee in
    let x = c.procedure in
    let behind' = act_code x.head.line ++ (stmts_code c.environment none_taken x.body ++ procedure_tail x) in
    let copies = arguments_copied c.environment (0 ∷ []) in
    let l0 = back_of (listing_of x) (copies ++ (x.variables ++ behind')) h.callee.stands in
    let n = size_append (listing_of x) (copies ++ (x.variables ++ behind')) in
    let n1 = size_append copies (x.variables ++ behind') in
    let n2 = size_append x.variables behind' in
    let closed = before_closed w.acts behind_call
    (statement_closed k labels acts (index + size_in k (given_call u line)) wanted left') in
    let e = here_of z wide h none o in
    let m = full p numbers z o wide in
    subst (Comes k.call.code credits g (services_of (given_point y)) (before k.call.code
    (statement_aims k labels acts (index + size_in k (given_call u line)) wanted left') w.acts behind_call))
    (sym (beside_means e m h.callee.kind))
    (onward closed
    (list_begins {parameters = 0 ∷ []} credits g (listing_among None z h.declared o h.callee.coded none.shallow)
    (record {
      calls = h.callee.calls;
      place = h.callee.place;
      begins = front_of (listing_of x) (copies ++ (x.variables ++ behind')) h.callee.stands;
      back = refl;
      some = tt;
    }) there gives)
    (λ g1 at1.
    onward closed
    (copies_come (credits + 2 + size_of (listing_of x)) (copies_index c) g1 (entered_known e) (is_copy e) e.copied
    (front_of copies (x.variables ++ behind') l0) at1)
    (λ g2 at2.
    over_comes (E.Limit W.Automatic) w.acts m.state
    (m.ends (credits + 2 + size_of (listing_of x) + size_of copies) g2 (copied_known e) (omega (arith, paid, n, n1, n2))
    (front_of x.variables behind' (back_of copies (x.variables ++ behind') l0)) at2)))))

-- ---- a call in an expression

pub beside_function_ends :
    (k : Setting) (u : GivenCall) (need more : ℕ) → IsGivenValue k u more → PassesNone k.block.first u.callee →
    L.Does (setting_in k) need u.source →
    ((call : ℕ) (p : Point) (numbers : ℕ → ℕ) (z : ℤ) → IsAmong k.block numbers p → is_of_precision 31 z ≡ true →
    AreFullBeside (Some number_function) (value_with k u call p numbers z)) → L.Does k need (given_value u)
beside_function_ends k u need more h none ev full =
    given_function_comes k u need more h ev
    (λ call x z wide p numbers o since line stays calls at credits g paid there gives.
    let w = k.block.call.surroundings in
    let y = value_with k u call p numbers z in
    let f = function_there k u call h.function in
    let d = declared_there call h.declared in
    let c = u.callee in
    let s = c.procedure in
    let behind' = act_code s.head.line ++ (stmts_code c.environment none_taken s.body ++ function_tail s) in
    let copies = arguments_copied c.environment (0 ∷ []) in
    let l0 = back_of (listing_of s) (copies ++ (s.variables ++ behind')) f.stands in
    let n = size_append (listing_of s) (copies ++ (s.variables ++ behind')) in
    let n1 = size_append copies (s.variables ++ behind') in
    let n2 = size_append s.variables behind' in
    let most = h.most in
    let inside = calls.inside in
    let small' = calls.small' in
    let closed = before_closed w.acts as_number (number_closed k.block k.labels x) in
    let e = here_there call z wide h none o calls in
    let m = full call p numbers z o wide in
    subst (Comes k.block.call.code credits g (services_of (given_point y)) (before k.block.call.code
    (number_aims k.block k.labels x) w.acts as_number))
    (sym (beside_means e m f.kind))
    (onward closed
    (list_begins {parameters = 0 ∷ []} credits g
    (listing_among (Some number_function) {u = called_there u call} z d o
    (record { level = f.level; line = f.line; saved = f.saved; back = omega (arith, inside, small') }) none.shallow)
    (record {
      calls = calls;
      place = f.place;
      begins = front_of (listing_of s) (copies ++ (s.variables ++ behind')) f.stands;
      back = refl;
      some = tt;
    }) there gives)
    (λ g1 at1.
    onward closed
    (copies_come (credits + 2 + size_of (listing_of s)) (copies_index c) g1 (entered_known e) (is_copy e) e.copied
    (front_of copies (s.variables ++ behind') l0) at1)
    (λ g2 at2.
    over_comes (E.Limit W.Automatic) w.acts m.state
    (m.ends (credits + 2 + size_of (listing_of s) + size_of copies) g2 (copied_known e)
    (omega (arith, paid, most, n, n1, n2))
    (front_of s.variables behind' (back_of copies (s.variables ++ behind') l0)) at2)))))
