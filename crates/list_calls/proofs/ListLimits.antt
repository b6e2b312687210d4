-- A call with a list of arguments ends the run where as many blocks are active as may be, and where its copies or the
-- variables behind them pass the limit on what is AUTOMATIC.
use Rattle.std.proofs.Common.{◌≡◌, ℕ, ◌+◌, ◌*◌, ◌<◌, ◌≤◌, List, [], ◌∷◌, ◌++◌, length, Option, None}
use Rattle.std.proofs.Common.{true, false, refl, sym, ap, ◌∙◌, subst, arith}
use Rattle.std.specs.Prelude.{nat_le, nat_lt}
use Rattle.pli_meaning.specs.BasicValues.{BasicValue}
use Rattle.pli_meaning.specs.Control.{Label, Meaning, finish, flow_on, left, ◌>>=◌, ◌>>◌}
use Rattle.pli_meaning.specs.Executing as M
use Rattle.pli_meaning.specs.Raising.{at_line}
use Rattle.pli_meaning.specs.StorageState.{automatic_in_use, most_activations, most_automatic, newest_ended}
use Rattle.pli_meaning.specs.declared.outcome.End.TheVariants as E
use Rattle.pli_meaning.specs.declared.outcome.Limit.TheVariants as W
use Rattle.pli_coding.specs.Assembly.{size_of}
use Rattle.pli_coding.specs.Allocating.{act_code}
use Rattle.pli_coding.specs.Environments.{none_taken}
use Rattle.pli_coding.specs.Statements.{stmts_code}
use Rattle.activation_relation.specs.Layers.{Point, services_of}
use Rattle.activation_relation.proofs.Returning.{in_use_later}
use Rattle.run_steps.specs.Engine.{Base}
use Rattle.run_steps.specs.Items.{Linked}
use Rattle.run_steps.proofs.Jumps.{back_of, front_of}
use Rattle.run_steps.proofs.Linking.{size_append}
use Rattle.run_steps.specs.Reach.{Aims, Closed, Comes, Family, cost}
use Rattle.run_steps.proofs.Reach.{before_closed, onward}
use Rattle.block_runs.specs.Bodies.{Function}
use Rattle.block_runs.specs.Machines.{AreIn}
use Rattle.program_runs.specs.Procedures.{block_of}
use Rattle.program_runs.specs.Statements.{Block, DoesWith, IsAmong, size_with}
use Rattle.program_runs.proofs.Statements.{statement_closed}
use Rattle.argument_runs.specs.ListBeginnings.{IsListing, listed_code}
use Rattle.argument_runs.specs.ListCalls.{entered_point}
use Rattle.argument_runs.proofs.CopyBlocks.{run_means}
use Rattle.argument_runs.proofs.ListBeginnings.{list_begins}
use Rattle.nested_calls.proofs.DeepBeginnings.{IsDeep}
use Rattle.nested_calls.proofs.DeepCalls.{deep_means}
use Rattle.nested_calls.proofs.FullVariables.{over_comes}
use Rattle.given_calls.proofs.DeepLists.{deep_list_comes}
use Rattle.given_calls.proofs.FullCalls.{finish_left, finish_on}
use Rattle.list_calls.specs.Arguments.{ComeTo}
use Rattle.list_calls.specs.ListCalls.{ArgumentsGive, IsDeclared, IsListedCall, Listed, PassesLimit, PassesNone}
use Rattle.list_calls.specs.ListCalls.{called_with, listed_call}
use Rattle.list_calls.specs.Lists.{Parameter, Passing, copies_in, indices_of}
use Rattle.list_calls.specs.Taking.{AreFullBeside, ListCall, beginning_of, copies_code, copies_index, entry_of}
use Rattle.list_calls.specs.Taking.{given_point, giving_of, list_of, listed_layer, listing_of, taking_code}
use Rattle.list_calls.proofs.Binding.{IsWithin, copy_takes}
use Rattle.list_calls.proofs.Bound.{bound_means}
use Rattle.list_calls.proofs.ListBlocks.{HasCode, Here, IsShallow, all_come, all_known, behind_copies, binds, caller_of}
use Rattle.list_calls.proofs.ListBlocks.{copies_linked, given_known, is_entering, is_list_call, is_next, listing}
use Rattle.list_calls.proofs.ListCalls.{behind_call, code_of, come_copies, here_among, listed_call_comes, within_among}
use Rattle.list_calls.proofs.PartCode.{coded}
use Rattle.list_calls.proofs.PartEnds.{EndsThere, bound_ends}

-- ---- as many blocks are active as may be

abbrev IsFull : ListCall → Type 0
IsFull y = nat_lt (length y.point.state.activations) most_activations ≡ false

deep_here :
    {g : Option Function} {y : ListCall} → Here g y → IsFull y →
    IsDeep y.surroundings y.code (given_point y) y.numbers (beginning_of g y)
deep_here {g} {y} h full =
    let known = given_known h in
    record {
      stands = known.0;
      image = known.1;
      next = is_next h;
      entering = is_entering h;
      full = full;
      kind = refl;
      level = h.coded.level;
      line = h.coded.line;
      few = omega arith;
      back = h.coded.back;
      held = refl;
      words = λ n less. h.words n;
      waits = λ n. refl;
      told = λ n. refl;
      list = refl;
      top = refl;
      lower = refl;
    }

-- the code that keeps the list is the same for any parameters
same_listed : (x : _) (xs : List Parameter) → 0 < length xs → listed_code x (indices_of xs) ≡ listed_code x (0 ∷ [])
same_listed x [] some = absurd (omega (arith, some))
same_listed x (y ∷ ys) some = refl

pub deep_comes :
    {g : Option Function} {y : ListCall} {tail : _} {aims : Aims (Option BasicValue)} (credits : ℕ) (f : Family) →
    Closed y.code aims → Here g y → HasCode y tail → IsFull y →
    credits + 4 + size_of (taking_code y.callee tail) ≤ cost y.code →
    AreIn y.surroundings (given_point y) y.numbers y.callee.calling.call f →
    ((b : Base) → IsListing (given_point y) (beginning_of g y) (list_of y) b (f b)) →
    Comes y.code credits f (services_of (given_point y)) aims
    (M.block_run y.callee.around (block_of y.callee.procedure) (entry_of g y) y.surroundings.acts y.point.state)
deep_comes {g} {y} {tail} {aims} credits f closed h code full paid there gives =
    let c = y.callee in
    let x = c.procedure in
    let calls = is_list_call g h.parameters code in
    let same = same_listed (beginning_of g y) c.parameters h.parameters.some in
    let size = ap (λ t. size_of t) same in
    let n = size_append (listing_of c) (copies_code c ++ behind_copies c tail) in
    subst (Comes y.code credits f (services_of (given_point y)) aims)
    (sym (deep_means c.around x.head x.body (entry_of g y) y.surroundings.acts y.point.state full))
    (deep_list_comes {list = list_of y} {n = 0} closed credits c.calling.call c.calling.entry f (deep_here h full)
    (record {
      calls = calls.calls;
      place = calls.place;
      begins = subst (Linked y.surroundings.links y.code c.calling.entry) same calls.begins;
      back = refl;
      some = tt;
    }) (omega (arith, paid, n, size), code.acts) there gives)

-- ---- the copies pass the limit

body_ends :
    (g : Option Function) (y : ListCall) {c : ℕ} {f : Family} →
    (e : EndsThere y.surroundings y.code y.callee.parameters y.passed (entered_point (giving_of g y)) c f) →
    M.block_body (at_line y.callee.around y.callee.procedure.head.line) y.callee.procedure.head
    y.callee.procedure.body (entry_of g y) y.surroundings.acts (entered_point (giving_of g y)).state
    ≡ finish (E.Limit W.Automatic) y.surroundings.acts e.state
unfolding M.block_body ◌>>=◌ ◌>>◌
body_ends g y e =
    let head = y.callee.procedure.head in
    let body = y.callee.procedure.body in
    let around = at_line y.callee.around head.line in
    let k = y.surroundings.acts in
    let rest : Unit {0} → Meaning (Unit {0}) = λ q. M.block_variables_made around head head.kind
    >> (M.entry_act head.kind >> (M.block_list around body (entry_of g y).is_function)) in
    ap (λ flow. flow_on k flow rest) e.means ∙ finish_on (E.Limit W.Automatic) k e.state rest

pub full_comes :
    {g : Option Function} {y : ListCall} {tail : _} {aims : Aims (Option BasicValue)} (credits : ℕ) (f : Family) →
    Closed y.code aims → Here g y → HasCode y tail → IsShallow y →
    nat_le (automatic_in_use y.point.state.living) most_automatic ≡ true →
    nat_le (automatic_in_use y.point.state.living + copy_takes * copies_in y.passed) most_automatic ≡ false →
    credits + 4 + size_of (taking_code y.callee tail) ≤ cost y.code →
    AreIn y.surroundings (given_point y) y.numbers y.callee.calling.call f →
    ((b : Base) → IsListing (given_point y) (beginning_of g y) (list_of y) b (f b)) →
    Comes y.code credits f (services_of (given_point y)) aims
    (M.block_run y.callee.around (block_of y.callee.procedure) (entry_of g y) y.surroundings.acts y.point.state)
full_comes {g} {y} {tail} {aims} credits f closed h code shallow used over paid there gives =
    let c = y.callee in
    let x = c.procedure in
    let w = y.surroundings in
    let copies = copies_code c in
    let behind' = behind_copies c tail in
    let n = size_append (listing_of c) (copies ++ behind') in
    let n1 = size_append copies behind' in
    let eq = coded c.environment c.parameters h.parameters.few h.parameters.taken in
    let size = ap (λ t. size_of t) eq in
    let l = subst (Linked w.links y.code (copies_index c)) eq (front_of copies behind' (copies_linked code)) in
    subst (Comes y.code credits f (services_of (given_point y)) aims)
    (sym (run_means c.around x.head x.body (entry_of g y) w.acts y.point.state code.kind shallow))
    (onward closed
    (list_begins credits f (listing h shallow) (is_list_call g h.parameters code) there gives)
    (λ f' at.
    let e = bound_ends y.words 0 (list_of y) c.parameters y.passed (listed_layer y) (caller_of y) y.others
    (entered_point (giving_of g y)) (credits + 2 + size_of (listing_of c)) (copies_index c) f' (binds h shallow) used
    over (omega (arith, paid, n, n1, size), code.acts) l at in
    subst (Comes y.code (credits + 2 + size_of (listing_of c)) f' (services_of (entered_point (giving_of g y))) aims)
    (sym (ap (λ flow. left true newest_ended flow) (body_ends g y e)
    ∙ finish_left (E.Limit W.Automatic) w.acts e.state newest_ended))
    (over_comes (E.Limit W.Automatic) w.acts e.state e.over)))

-- ---- or the variables behind them

beside_means :
    {g : Option Function} {y : ListCall} → Here g y → IsShallow y → IsWithin y.point y.passed → (m : AreFullBeside g y) →
    M.block_body (at_line y.callee.around y.callee.procedure.head.line) y.callee.procedure.head
    y.callee.procedure.body (entry_of g y) y.surroundings.acts (entered_point (giving_of g y)).state
    ≡ finish (E.Limit W.Automatic) y.surroundings.acts m.state
unfolding M.block_body ◌>>=◌ ◌>>◌
beside_means {g} {y} h shallow within m =
    let head = y.callee.procedure.head in
    let body = y.callee.procedure.body in
    let around = at_line y.callee.around head.line in
    let k = y.surroundings.acts in
    let rest : Unit {0} → Meaning (Unit {0}) = λ q. M.entry_act head.kind
    >> (M.block_list around body (entry_of g y).is_function) in
    ap (λ flow. flow_on k flow (λ q. M.block_variables_made around head head.kind >> rest q))
    (bound_means y.words 0 (list_of y) y.callee.parameters y.passed (listed_layer y) (caller_of y) y.others
    (entered_point (giving_of g y)) k (binds h shallow) within)
    ∙ ap (λ flow. flow_on k flow rest) m.means
    ∙ finish_on (E.Limit W.Automatic) k m.state rest

pub beside_comes :
    {g : Option Function} {y : ListCall} {tail : _} {aims : Aims (Option BasicValue)} (credits : ℕ) (f : Family) →
    Closed y.code aims → Here g y → HasCode y tail → IsShallow y → IsWithin y.point y.passed → AreFullBeside g y →
    credits + 4 + size_of (taking_code y.callee tail) ≤ cost y.code →
    AreIn y.surroundings (given_point y) y.numbers y.callee.calling.call f →
    ((b : Base) → IsListing (given_point y) (beginning_of g y) (list_of y) b (f b)) →
    Comes y.code credits f (services_of (given_point y)) aims
    (M.block_run y.callee.around (block_of y.callee.procedure) (entry_of g y) y.surroundings.acts y.point.state)
beside_comes {g} {y} {tail} {aims} credits f closed h code shallow within m paid there gives =
    let c = y.callee in
    let x = c.procedure in
    let w = y.surroundings in
    let copies = copies_code c in
    let behind' = behind_copies c tail in
    let rest = act_code x.head.line ++ (stmts_code c.environment none_taken x.body ++ tail) in
    let n = size_append (listing_of c) (copies ++ behind') in
    let n1 = size_append copies behind' in
    let n2 = size_append x.variables rest in
    subst (Comes y.code credits f (services_of (given_point y)) aims)
    (sym (run_means c.around x.head x.body (entry_of g y) w.acts y.point.state code.kind shallow
    ∙ ap (λ flow. left true newest_ended flow) (beside_means h shallow within m)
    ∙ finish_left (E.Limit W.Automatic) w.acts m.state newest_ended))
    (onward closed
    (list_begins credits f (listing h shallow) (is_list_call g h.parameters code) there gives)
    (λ f1 at1.
    onward closed (all_come h code shallow within (credits + 2 + size_of (listing_of c)) f1 at1)
    (λ f2 at2.
    over_comes (E.Limit W.Automatic) w.acts m.state
    (m.ends (credits + 2 + size_of (listing_of c) + size_of copies) f2 (all_known h shallow)
    (omega (arith, paid, n, n1, n2)) (front_of x.variables rest (back_of copies behind' (copies_linked code))) at2))))

-- ---- CALL

pub deep_call_ends :
    (k : Block) (u : Listed) (labels : List Label) (line index left' need most more : ℕ) →
    IsListedCall k u line index need most more →
    nat_lt (length k.first.state.activations) most_activations ≡ false → ArgumentsGive k u labels line need most →
    DoesWith u.words k labels (listed_call u line) index left'
deep_call_ends k u labels line index left' need most more h many give' =
    listed_call_comes k u labels line index left' need most more h give'
    (λ acts wanted ys come p numbers o since credits g paid there gives.
    deep_comes credits g
    (before_closed k.call.surroundings.acts behind_call
    (statement_closed k labels acts (index + size_with u.words k (listed_call u line)) wanted left'))
    (here_among None ys h.declared h.callee.coded h.callee.parameters o come) (code_of ys h)
    (subst (λ xs. nat_lt (length xs) most_activations ≡ false) (sym o.later.activations) many) paid there gives)

pub passed_among :
    {k : Block} {u : Listed} {more : ℕ} {numbers : ℕ → ℕ} {p : Point} (ys : List Passing) → IsDeclared k u more →
    IsAmong k numbers p → PassesLimit k.first u.ways → ComeTo u.ways ys →
    (nat_le (automatic_in_use p.state.living) most_automatic ≡ true)
    × (nat_le (automatic_in_use p.state.living + copy_takes * copies_in ys) most_automatic ≡ false)
passed_among {k} {u} {p = p} ys h o full come =
    let used = in_use_later k.call.surroundings k.first p h.begun.resumes.stands o.stands o.later in
    let m = come_copies u.ways ys come in (
      subst (λ n. nat_le n most_automatic ≡ true) (sym used) full.used,
      subst (λ n. nat_le (n + copy_takes * copies_in ys) most_automatic ≡ false) (sym used)
          (subst (λ n. nat_le (automatic_in_use k.first.state.living + copy_takes * n) most_automatic ≡ false) (sym m)
          full.limit),
    )

pub full_call_ends :
    (k : Block) (u : Listed) (labels : List Label) (line index left' need most more : ℕ) →
    IsListedCall k u line index need most more → PassesLimit k.first u.ways →
    ArgumentsGive k u labels line need most → DoesWith u.words k labels (listed_call u line) index left'
full_call_ends k u labels line index left' need most more h full give' =
    listed_call_comes k u labels line index left' need most more h give'
    (λ acts wanted ys come p numbers o since credits g paid there gives.
    let over = passed_among ys h.declared o full come in
    full_comes credits g
    (before_closed k.call.surroundings.acts behind_call
    (statement_closed k labels acts (index + size_with u.words k (listed_call u line)) wanted left'))
    (here_among None ys h.declared h.callee.coded h.callee.parameters o come) (code_of ys h)
    (subst (λ xs. nat_lt (length xs) most_activations ≡ true) (sym o.later.activations) full.shallow) over.0 over.1 paid
    there gives)

pub beside_call_ends :
    (k : Block) (u : Listed) (labels : List Label) (line index left' need most more : ℕ) →
    IsListedCall k u line index need most more → PassesNone k.first u.ways →
    ArgumentsGive k u labels line need most →
    ((p : Point) (numbers : ℕ → ℕ) (ys : List Passing) → IsAmong k numbers p → ComeTo u.ways ys →
    AreFullBeside None (called_with k u p numbers ys)) → DoesWith u.words k labels (listed_call u line) index left'
beside_call_ends k u labels line index left' need most more h none give' full =
    listed_call_comes k u labels line index left' need most more h give'
    (λ acts wanted ys come p numbers o since credits g paid there gives.
    beside_comes credits g
    (before_closed k.call.surroundings.acts behind_call
    (statement_closed k labels acts (index + size_with u.words k (listed_call u line)) wanted left'))
    (here_among None ys h.declared h.callee.coded h.callee.parameters o come) (code_of ys h)
    (subst (λ xs. nat_lt (length xs) most_activations ≡ true) (sym o.later.activations) none.shallow)
    (within_among ys h.declared o none come) (full p numbers ys o come) paid there gives)
