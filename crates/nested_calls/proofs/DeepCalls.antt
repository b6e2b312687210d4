-- Where as many blocks are active as may be, a call ends the run.
use Rattle.std.proofs.Common.{◌≡◌, ℕ, suc, ◌+◌, ◌^◌, ◌<◌, ◌≤◌, List, [], ◌∷◌, ◌++◌, length, None, Option, false}
use Rattle.std.proofs.Common.{refl}
use Rattle.std.proofs.Common.{sym, ap, ◌∙◌, subst, arith}
use Rattle.std.specs.Prelude.{nat_lt, ◌==◌}
use Rattle.rv_meaning.specs.declared.instr.Instr.{Instr}
use Rattle.pli_typing.specs.TypedTree as Y
use Rattle.pli_meaning.specs.BasicValues.{BasicValue}
use Rattle.pli_meaning.specs.Control.{Label, Meaning, act, choose, finish, give, leaving, looked, stored, ◌>>=◌, ◌>>◌}
use Rattle.pli_meaning.specs.Evaluating as V
use Rattle.pli_meaning.specs.Executing as M
use Rattle.pli_meaning.specs.Executing.{begun, with_activation}
use Rattle.pli_meaning.specs.Raising.{Around, Entry, at_line}
use Rattle.pli_meaning.specs.StorageState.{State, most_activations, newest_ended}
use Rattle.pli_meaning.specs.World.{counted}
use Rattle.pli_meaning.specs.declared.outcome.End.TheVariants as E
use Rattle.pli_meaning.specs.declared.outcome.Limit.TheVariants as L
use Rattle.pli_serving.specs.Blocks as B
use Rattle.pli_coding.specs.Allocating.{act_code}
use Rattle.pli_coding.specs.Assembly.{Code, Mark, ReturnPlace, size_of}
use Rattle.pli_coding.specs.Environments.{none_taken}
use Rattle.pli_coding.specs.Frames.{fixed_size}
use Rattle.pli_coding.specs.Registers.{held_registers}
use Rattle.pli_coding.specs.Statements.{stmts_code}
use Rattle.activation_relation.specs.Chains.{HasParent, frame_at}
use Rattle.activation_relation.specs.CodeStores.{most_levels}
use Rattle.activation_relation.specs.Frames.{lower_end}
use Rattle.activation_relation.specs.Layers.{Point, services_of}
use Rattle.activation_relation.specs.Points.{Stands, Surroundings}
use Rattle.run_steps.specs.Engine.{most_code}
use Rattle.run_steps.specs.Items.{Linked}
use Rattle.run_steps.proofs.Jumps.{back_of, front_of}
use Rattle.run_steps.proofs.Linking.{size_append}
use Rattle.run_steps.specs.Reach.{Comes, Family, before}
use Rattle.run_steps.proofs.Reach.{before_closed, comes_on, onward}
use Rattle.block_runs.specs.Beginnings.{Beginning}
use Rattle.block_runs.specs.Machines.{AreIn, IsImage, IsIn, acted}
use Rattle.block_runs.proofs.PointActs.{act_comes}
use Rattle.program_runs.specs.Calls.{Callee}
use Rattle.program_runs.specs.Procedures.{Calling, Procedure, beginning_for, begin_of, block_of, end_of}
use Rattle.program_runs.specs.Procedures.{frame_for, layer_for}
use Rattle.program_runs.specs.Statements.{Block, DoesWith, IsAmong, IsBegun, size_with, statement_aims}
use Rattle.program_runs.proofs.Statements.{acted_among, statement_closed}
use Rattle.nested_calls.specs.Nested.{IsNested, parent_at}
use Rattle.nested_calls.specs.NestedCalls.{IsNestedCall, call_at}
use Rattle.nested_calls.proofs.DeepBeginnings.{IsDeep, deep_comes}
use Rattle.nested_calls.proofs.GivenCode.{given}
use Rattle.nested_calls.proofs.NestedCalls.{behind_call, call_coded, call_of, called_means, given_in, is_parent}
use Rattle.nested_calls.proofs.NestedCalls.{parent_inside, parent_reached}

-- ---- what a call means there

pub deep_means :
    (around : Around) (head : Y.BlockHead) (body : Y.Stmts) (entry : Entry) (k : ℕ) (s : State) →
    nat_lt (length s.activations) most_activations ≡ false →
    M.block_run around (Y.BlockOf head body) entry k s ≡ finish (E.Limit L.Depth) k s
unfolding M.block_run looked stored choose leaving ◌>>=◌ ◌>>◌
deep_means around head body entry k s many =
    let around' = at_line around head.line in
    let inside : Meaning (Option BasicValue) =
    stored (with_activation head entry)
    >> leaving (M.is_own_return head.kind) newest_ended (M.block_body around' head body entry) in
    ap (λ q. choose q inside (finish (E.Limit L.Depth)) k s) many

-- ---- what is entered, where its frame fits

pub record Fits (w : Surroundings) (p : Point) (numbers : ℕ → ℕ) (x : Procedure) (y : Calling) : Type 0 where
  level : x.head.level < most_levels
  line : x.head.line < 2 ^ 31
  saved : x.saved ≤ held_registers
  back : y.call + 2 ≤ most_code
  room : frame_for w.parts p.control.layers x + fixed_size x.head.level 0 ≤ lower_end w.parts p.control.layers
  full : nat_lt (length p.state.activations) most_activations ≡ false
  parent : HasParent x.head.level y.parent p.state.activations
  idle : p.control.waiting ≡ None
  words : (n : ℕ) → numbers n < 2 ^ 32

abbrev pub deep_beginning : Surroundings → Point → (numbers : ℕ → ℕ) → Procedure → Calling → Entry → Beginning
deep_beginning w p numbers x y entry =
    record { head = x.head; entry = entry; layer = layer_for w p numbers x y; texts = 0 }

pub is_deep :
    (w : Surroundings) (code : List Instr) (p : Point) (numbers : ℕ → ℕ) (x : Procedure) (y : Calling) (entry : Entry) →
    Stands w p × IsImage w code p → Fits w p numbers x y → (entry.oncode ≡ 0) × (entry.parent ≡ y.parent) →
    IsDeep w code p numbers (deep_beginning w p numbers x y entry)
is_deep w code p numbers x y entry known fits is =
    record {
      stands = known.0;
      image = known.1;
      next = record {
        layer = record {
          level = refl;
          runs = is.0;
          units = refl;
          parent = subst (λ n. HasParent x.head.level n p.state.activations) (sym is.1) fits.parent;
        };
        laid = record {
          above = refl;
          fixed = omega arith;
          falls = omega arith;
          free = fits.room;
          saved = fits.saved;
          told = λ n v e. absurd (cc e);
        };
        entries = ([], refl);
        edits = refl;
        over = known.0.over;
      };
      entering = record {
        entered = ap (λ o. B.entered_of 0 p.control.line o) fits.idle;
        given = refl;
        arguments = [];
        below = refl;
        many = refl;
        places = refl;
        units = refl;
      };
      full = fits.full;
      kind = refl;
      level = fits.level;
      line = fits.line;
      few = omega arith;
      back = fits.back;
      held = refl;
      words = λ n less. fits.words n;
      waits = λ n. refl;
      told = λ n. refl;
      list = refl;
      top = refl;
      lower = refl;
    }

pub fits_among :
    {k : Block} {numbers : ℕ → ℕ} {p : Point} (x : Procedure) (y : Calling) (level : ℕ) → IsNested k →
    IsAmong k numbers p → (level ≤ k.environment.level) × (x.head.level ≡ suc level) × (y.parent ≡ parent_at k level) →
    (x.head.level < most_levels) × (x.head.line < 2 ^ 31) × (x.saved ≤ held_registers) × (y.call + 2 ≤ most_code) →
    frame_for k.call.surroundings.parts k.first.control.layers x + fixed_size x.head.level 0
    ≤ lower_end k.call.surroundings.parts k.first.control.layers →
    nat_lt (length k.first.state.activations) most_activations ≡ false → k.first.control.waiting ≡ None →
    Fits k.call.surroundings p numbers x y
fits_among {k} x y level nest o there coded room many idle =
    let parts = k.call.surroundings.parts in
    record {
      level = coded.0;
      line = coded.1;
      saved = coded.2;
      back = coded.3;
      room = subst (λ ls. frame_for parts ls x + fixed_size x.head.level 0 ≤ lower_end parts ls) (sym o.later.layers)
          room;
      full = subst (λ xs. nat_lt (length xs) most_activations ≡ false) (sym o.later.activations) many;
      parent = is_parent level x.head.level y.parent nest o there.0 there.1 there.2;
      idle = o.later.waiting ∙ idle;
      words = o.words;
    }

-- ---- CALL

abbrev rest_of : Callee → Code
rest_of c =
    c.procedure.variables
    ++ (act_code c.procedure.head.line
    ++ (stmts_code c.environment none_taken c.procedure.body
    ++ (Mark (ReturnPlace c.procedure.head.number) ∷ end_of c.procedure)))

deep_goes :
    (words : ℕ) (k : Block) (c : Callee) (labels : List Label) (acts level line index left' more : ℕ)
    (h : IsNestedCall words k c level line index more) (p : Point) (numbers : ℕ → ℕ) (wanted : ℕ) (f : Family)
    (o : IsAmong k numbers p) → nat_lt (length k.first.state.activations) most_activations ≡ false → IsBegun k →
    Linked k.call.surroundings.links k.call.code (index + size_of (act_code line))
    (given_in words k level ++ call_of c) →
    size_with words k (call_at c level line) ≡ size_of (act_code line) + size_of (given_in words k level ++ call_of c) →
    AreIn k.call.surroundings p numbers (index + size_of (act_code line)) f →
    Comes k.call.code 0 f (services_of p)
    (before k.call.code (statement_aims k labels acts (index + size_with words k (call_at c level line)) wanted left')
    k.call.surroundings.acts behind_call)
    (finish {R = Option BasicValue} (E.Limit L.Depth) k.call.surroundings.acts p.state)
deep_goes words k c labels acts level line index left' more h p numbers wanted f o many b l size there =
    let w = k.call.surroundings in
    let x = c.procedure in
    let given' = given_in words k level in
    let call = call_of c in
    let n = size_append given' call in
    let n1 = size_append (begin_of x) (rest_of c) in
    let inside = l.inside in
    let proc = h.callee.stands.inside in
    let at_call = h.call in
    let base = frame_at k.first.control.layers (parent_at k level) in
    let closed = before_closed w.acts behind_call
    (statement_closed k labels acts (index + size_with words k (call_at c level line)) wanted left') in
    let coded = h.callee.coded in
    let entry = begun (block_of x) c.calling.parent in
    onward closed
    (given (level == k.environment.level) words level base (beginning_for w p numbers x c.calling)
    (index + size_of (act_code line)) 0 f o.stands o.image (h.low, refl)
    (parent_reached level h.nested b o h.around_it) (
      parent_inside level h.nested o h.around_it,
      ap (λ ls. frame_at ls (parent_at k level)) (sym o.later.layers)
          ∙ ap (λ j. frame_at p.control.layers j) (sym h.parent),
    )
    (front_of given' call l) there)
    (λ g at.
    deep_comes closed (0 + size_of given') c.calling.call c.calling.entry g
    (is_deep w k.call.code p numbers x c.calling entry (o.stands, o.image)
    (fits_among x c.calling level h.nested o (h.around_it, h.inner, h.parent)
    (coded.level, coded.line, coded.saved, coded.back) h.frame many h.idle) (refl, refl))
    (record {
      calls = h.callee.calls;
      place = h.callee.place;
      begins = front_of (begin_of x) (rest_of c) h.callee.stands;
      back = refl;
    }) (omega (arith, n, n1, inside, proc), h.callee.acts)
    (λ b'. subst (λ j. IsIn w p numbers j b' (g b')) (omega (arith, n, size, at_call)) (at b').0)
    (λ b'. (at b').1))

pub deep_call_ends :
    (words : ℕ) (k : Block) (c : Callee) (level line index left' more : ℕ) →
    IsNestedCall words k c level line index more →
    nat_lt (length k.first.state.activations) most_activations ≡ false → IsBegun k → (labels : List Label) →
    DoesWith words k labels (call_at c level line) index left'
unfolding M.statement ◌>>=◌ ◌>>◌
deep_call_ends words k c level line index left' more h many b labels p numbers credits wanted f o paid there =
    let w = k.call.surroundings in
    let p' = acted line p in
    let one = act_code line in
    let given' = given_in words k level in
    let call = call_of c in
    let eq = call_coded words k c level line in
    let l = subst (Linked w.links k.call.code index) eq h.statement in
    let n0 = size_append one (given' ++ call) in
    let size = ap (λ u. size_of u) eq in
    let tree = Y.Calling c.procedure.head.number level Y.NoArgument in
    let tail : Unit {0} → Meaning (Unit {0}) = λ u. V.called (at_line k.around line) tree >> give tt in
    let acts = p.state.world.acts in
    let closed = statement_closed k labels acts (index + size_with words k (call_at c level line)) wanted left' in
    comes_on w.acts (act counted w.acts p.state) tail
    (act_comes (before_closed w.acts tail closed) line credits 0 f (o.stands, o.image)
    (h.line_fits, h.callee.acts, omega (arith, paid, n0, size)) (front_of one (given' ++ call) l) there
    (λ g less at.
    let o' = acted_among line o less in
    comes_on w.acts (V.called (at_line k.around line) tree w.acts p'.state) behind_call
    (subst (Comes k.call.code 0 g (services_of p')
    (before k.call.code (statement_aims k labels acts (index + size_with words k (call_at c level line)) wanted left')
    w.acts
    behind_call))
    (sym (called_means h o' ∙ deep_means c.around c.procedure.head c.procedure.body
    (begun (block_of c.procedure) c.calling.parent) w.acts p'.state
    (subst (λ xs. nat_lt (length xs) most_activations ≡ false) (sym o'.later.activations) many)))
    (deep_goes words k c labels acts level line index left' more h p' numbers wanted g o' many b
    (back_of one (given' ++ call) l) (size ∙ n0) at))))
