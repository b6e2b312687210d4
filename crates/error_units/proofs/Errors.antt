-- ERROR while a unit is in force for it does what it means: the unit runs, and behind its end the run ends.
use Rattle.std.proofs.Common.{◌≡◌, inl, inr, ℕ, suc, ◌+◌, ◌*◌, ◌^◌, ◌<◌, ◌≤◌, List, [], ◌∷◌, ◌++◌, length, Option}
use Rattle.std.proofs.Common.{None, Some}
use Rattle.std.proofs.Common.{true, false, refl, sym, ap, ◌∙◌, subst, arith, lit<, add-one}
use Rattle.std.proofs.lemmas.Bool.{lt-ltb}
use Rattle.std.specs.Prelude.{cond, nat_lt}
use Rattle.rv_meaning.specs.declared.instr.Instr.{Instr}
use Rattle.rv_meaning.specs.declared.instr.Instr.TheVariants as I
use Rattle.rv_meaning.specs.Words.{sum}
use Rattle.pli_language.specs.declared.condition.Condition.TheVariants as C
use Rattle.pli_typing.specs.TypedTree as Y
use Rattle.pli_meaning.specs.BasicValues.{BasicValue}
use Rattle.pli_meaning.specs.declared.outcome.End.TheVariants as E
use Rattle.pli_meaning.specs.declared.outcome.Limit.TheVariants as L
use Rattle.pli_meaning.specs.Control.{Label, Meaning, act, finish, flow_on, ◌>>◌}
use Rattle.pli_meaning.specs.Executing as M
use Rattle.pli_meaning.specs.Executing.{labels_in}
use Rattle.pli_meaning.specs.Raising as R
use Rattle.pli_meaning.specs.Raising.{Around, at_line}
use Rattle.pli_meaning.specs.StorageState as St
use Rattle.pli_meaning.specs.StorageState.{State, force, most_activations, with_world, without_newest}
use Rattle.pli_meaning.specs.World.{counted, ending, raising}
use Rattle.pli_serving.specs.ActsAndEnds as W
use Rattle.pli_serving.specs.Answers as A
use Rattle.pli_serving.specs.Answers.{Ends}
use Rattle.pli_serving.specs.Blocks as B
use Rattle.pli_serving.specs.Outcomes.{or_bad}
use Rattle.pli_serving.specs.ServiceState.{Services}
use Rattle.pli_coding.specs.Allocating.{act_code}
use Rattle.pli_coding.specs.Assembly.{Code, ErrorEnd, Mark, Plain, size_of}
use Rattle.pli_coding.specs.Images.{error_end}
use Rattle.pli_coding.specs.Instructions.{number, small}
use Rattle.pli_coding.specs.Registers.{a0, a2, a7}
use Rattle.pli_coding.specs.Statements.{unit_mark}
use Rattle.activation_relation.specs.Changes.{KeepsNone, popped, popped_from}
use Rattle.activation_relation.specs.Entering.{BlockEnd}
use Rattle.activation_relation.specs.Frames.{frame_under}
use Rattle.activation_relation.specs.Landing.{closed, resumed}
use Rattle.activation_relation.specs.Layers.{Layer, Point, services_of}
use Rattle.activation_relation.specs.Points.{Stands, Surroundings}
use Rattle.activation_relation.proofs.Blocks.{depth_answered}
use Rattle.activation_relation.proofs.PointSteps.{awaited_stands, stacks_over}
use Rattle.activation_relation.proofs.Serials.{few_made}
use Rattle.run_steps.specs.Bodies.{Known}
use Rattle.run_steps.proofs.Bodies.{zero_is}
use Rattle.run_steps.specs.Calls.{Calling}
use Rattle.run_steps.proofs.Calls.{acts, call_ends, called, comes_finish, end_pauses}
use Rattle.run_steps.specs.Engine.{Base}
use Rattle.run_steps.specs.Items.{At, Linked}
use Rattle.run_steps.proofs.Items.{straight}
use Rattle.run_steps.proofs.Jumps.{back_of, front_of, linked_at}
use Rattle.run_steps.proofs.Linking.{size_append}
use Rattle.run_steps.specs.Reach.{Aims, Closed, Comes, Family, cost, reached}
use Rattle.run_steps.proofs.Reach.{before_closed, comes_on, onward, reach_then, reached_holds}
use Rattle.run_steps.specs.Temporaries.{nothing}
use Rattle.block_runs.specs.Beginnings.{Beginning, begun_point}
use Rattle.block_runs.specs.Bodies.{AtEnd}
use Rattle.block_runs.specs.Machines.{AreIn, IsImage, IsIn, limits_of}
use Rattle.block_runs.proofs.CallStatements.{comes_map}
use Rattle.block_runs.proofs.Early.{comes_early}
use Rattle.block_runs.proofs.Endings as G
use Rattle.block_runs.proofs.Places.{IsFrame}
use Rattle.block_runs.proofs.PointActs.{act_comes}
use Rattle.block_runs.proofs.PointGrounds.{call_is, known_in, point_frame, point_ground}
use Rattle.program_runs.specs.Calls.{left_over}
use Rattle.program_runs.specs.Statements.{AreMarked, Block, IsAmong, IsBegun, statement_aims}
use Rattle.program_runs.proofs.Calls.{behind_variables}
use Rattle.program_runs.proofs.JumpsOut.{jumps_later, jumps_since}
use Rattle.program_runs.proofs.Lists.{list_does}
use Rattle.program_runs.proofs.Statements.{at_end}
use Rattle.expression_runs.specs.Raises.{Routines}
use Rattle.expression_runs.specs.Values.{Setting}
use Rattle.expression_runs.proofs.Raises.{coded, raised_at}
use Rattle.begin_runs.proofs.Begins.{out_of_all}
use Rattle.text_runs.specs.Texts.{error_aims}
use Rattle.unit_runs.specs.Establishing.{unit_of}
use Rattle.unit_runs.specs.Raised.{IsRaiseOf, IsRaised, IsRaisedAt, IsUnitKind, Raise, Standing, UnitDoes, begin_of}
use Rattle.unit_runs.specs.Raised.{begun_unit, end_index, list_code, list_index, standing_code, unit_beginning}
use Rattle.unit_runs.specs.Raised.{unit_block, unit_call, unit_layer}
use Rattle.unit_runs.proofs.UnitBlocks.{Here, IsHere, begun_known, ending_of, first_among, first_begun}
use Rattle.unit_runs.proofs.UnitBlocks.{leaves_by_jump, premises, raise_begins, waiting}
use Rattle.unit_runs.proofs.UnitEntries.{PremisesAt, enter_regs}
use Rattle.unit_runs.proofs.UnitMeaning.{unit_body}
use Rattle.unit_runs.proofs.UnitRuns.{raised_among, standing_size}
use Rattle.error_units.specs.Errors.{ErrorGoes, ErrorRoutines}
use Rattle.error_units.proofs.Entries.{IsAtError, enter_linked, error_asked, error_begins, error_begun, error_frame}
use Rattle.error_units.proofs.Endings.{coded_ends}
use Rattle.error_units.proofs.Finding.{Finding, IsFinding, end_linked, error_finds, waiting_point}
use Rattle.error_units.proofs.Meaning.{behind_error, comes_ended, deep_means, ended_from, error_means, within_closed}
use Rattle.error_units.proofs.Meaning.{within_error}

-- ---- the end of the run

small_is : (z n : ℕ) → z ≡ 0 → n < 2 ^ 32 → sum z n ≡ n
small_is z n e h = omega (arith, e, h)

-- with ERROR's code
error_ends :
    {X : Type 0} {w : Surroundings} {code : List Instr} {p : Point} {numbers : ℕ → ℕ} {i : ℕ} {aims : Aims X}
    (closed' : Closed code aims) (credits : ℕ) (f : Family) (n line : ℕ)
    (h : IsFrame (frame_under w.parts p.control.layers)) (known : Stands w p × IsImage w code p) →
    n < 2 ^ 16 → (credits + 2 < cost code) × (w.acts + 1 < 2 ^ 64) → p.control.line ≡ line →
    Linked w.links code i error_end →
    ((b : Base) → At b i (Known (point_ground w p h) (services_of p) numbers (λ j. 0) (coded n) b) (f b)) →
    Comes code credits f (services_of p) aims (finish {R = X} (E.Error n line) w.acts p.state)
error_ends {X = X} {w} {code} {p} {numbers} {i} closed' credits f n line h known small' fits same l at =
    let v = services_of p in
    let g = point_ground w p h in
    let front = Mark ErrorEnd ∷ small a0 2 ∷ small a7 2 ∷ [] in
    let r = straight credits f v v
    (λ b. Known g v numbers (λ j. 0) (λ b'. (10, 2) ∷ (11, n) ∷ (17, 2) ∷ []) b)
    (front_of front (Plain I.Ecall ∷ []) l) (omega arith) (λ b. (at b).pc)
    (λ b. let o = (at b).holds in let z = zero_is o.body in record {
      body = record {
        services = o.body.services;
        registers = o.body.registers;
        bytes = o.body.bytes;
        memory = o.body.memory;
      };
      regs = (small_is _ 2 z (lit< tt), (o.regs.0, (small_is _ 2 z (lit< tt), tt)));
    }) in
    onward closed' r (λ f' at'.
    let v' = A.with_world (ending (E.Error n line) v.world) v in
    let calling : Calling w.links code (i + 2) f' (λ b. Ends v') = record {
      linked = back_of front (Plain I.Ecall ∷ []) l;
      pc = λ b. (at' b).pc;
      answers = λ b.
          let o = (at' b).holds in
          let x = (f' b).machine.registers in
          called code (f' b) v 2 2 n (x 12) (x 13) (x 14) (λ call x0 x1 x2 x3 x4. W.end_served call x0 x1)
          o.body.services o.regs.1.1.0 o.regs.0 o.regs.1.0 refl refl refl (λ call y. refl)
          ∙ ap (λ u. or_bad (cond u (Some (E.Error n v.line)) None) (λ end. W.run_ended end v))
          (lt-ltb n (2 ^ 16) small')
          ∙ acts v w.acts _ known.0.allowed fits.1
          ∙ ap (λ u. Ends (A.with_world (ending (E.Error n u) v.world) v)) same;
    } in
    comes_finish v' (E.Error n line) w.acts p.state refl refl
    (end_pauses (credits + 2) f' v v' fits.0 known.0.running (λ b. (at' b).holds.body.services) (add-one v.world.acts)
    calling)
    (call_ends (credits + 2) f' v v' (λ e. cc e) calling))

pub error_closed :
    (X : Type 0) (k : Setting) (acts : ℕ) → Closed k.block.call.code (error_aims X k acts)
error_closed X k acts =
    record {
      done = λ r z s o. absurd o;
      jumped = λ r height label s o. jumps_later r o;
      returned = λ r z s o. absurd o;
    }

-- ---- behind the unit's end

closed_popped :
    (q : Point) (φ : Layer) (φs : List Layer) → q.control.layers ≡ φ ∷ φs → closed q.state ≡ (popped [] q).state
closed_popped q φ φs newest =
    by q.state.activations ∙ sym (ap (λ ls. (popped_from [] ls q).state) newest)
  where
    by : (as' : List _) → with_world q.state.world (without_newest as' q.state) ≡ without_newest as' q.state
    by [] = refl
    by (a ∷ as') = refl

-- what a raise of ERROR is told of, beside what every raise is
record IsError (z : Here) (r : ErrorRoutines z.setting.block.call.surroundings.links z.setting.block.call.code) :
    Type 0
  where
    here : IsHere z
    back : z.raise.back ≡ r.routines.at + 16
    near : z.raise.code < 2 ^ 16
    line : z.from.control.line ≡ z.setting.around.line

abbrev tail_of : Standing → Code
tail_of x = unit_mark x.unit.head x.unit.head.kind ++ ending_of x

abbrev behind_act : Standing → Code
behind_act x = list_code x ++ tail_of x

abbrev behind_made : Standing → Code
behind_made x = act_code x.unit.head.line ++ behind_act x

abbrev behind_beginning : Standing → Code
behind_beginning x = x.variables ++ behind_made x

mark_size : (head : Y.BlockHead) (kind : Y.BlockKind) → IsUnitKind kind → size_of (unit_mark head kind) ≡ 0
mark_size head kind (inl e) = ap (λ q. size_of (unit_mark head q)) e
mark_size head kind (inr e) = ap (λ q. size_of (unit_mark head q)) e

unit_end_linked :
    {z : Here} → IsHere z →
    Linked z.setting.block.call.surroundings.links z.setting.block.call.code (end_index z.standing)
    (ending_of z.standing)
unit_end_linked {z} h =
    let x = z.standing in
    let mark = unit_mark x.unit.head x.unit.head.kind in
    let l0 = back_of (begin_of x) (behind_beginning x) h.raised.stands in
    let l1 = back_of x.variables (behind_made x) l0 in
    let l2 = back_of (act_code x.unit.head.line) (behind_act x) l1 in
    let l3 = back_of mark (ending_of x) (back_of (list_code x) (tail_of x) l2) in
    let n = mark_size x.unit.head x.unit.head.kind h.raised.kind in
    linked_at (end_index x) (ending_of x) (omega (arith, n)) l3

abbrev end_of :
    (z : Here) (left' c : ℕ) (f : Family) (v : Services) (r : Option BasicValue) (s : State) →
    AtEnd (unit_call z.setting z.standing z.raise) left' c f v r s → BlockEnd
end_of z left' c f v r s o =
    record {
      layer = resumed o.resumes.changed (unit_layer z.setting.block.call.surroundings z.standing z.raise);
      others = z.raise.point.control.layers;
      kept = [];
      before = z.raise.numbers;
      after = o.after;
      index = end_index z.standing;
      back = z.raise.back;
    }

end_finishes :
    (X : Type 0) (z : Here)
    (routines : ErrorRoutines z.setting.block.call.surroundings.links z.setting.block.call.code) →
    IsError z routines → (c : ℕ) (f : Family) (v : Services) (r : Option BasicValue) (s : State) →
    AtEnd (unit_call z.setting z.standing z.raise) left_over c f v r s →
    Comes z.setting.block.call.code c f v (error_aims X z.setting z.from.state.world.acts)
    (finish {R = X} (E.Error z.raise.code z.setting.around.line) z.setting.block.call.surroundings.acts (closed s))
end_finishes X z routines e c f v r s o =
    let k = z.setting.block in
    let w = k.call.surroundings in
    let x = z.standing in
    let h = e.here in
    let q = popped [] o.point in
    let end = end_of z left_over c f v r s o in
    let φ = unit_layer w x z.raise in
    let l = unit_end_linked h in
    let known = G.left_below w k.call.code o.point end o.resumes.stands o.image o.resumes.layers in
    let back = coded_ends
    (record { surroundings = w; code = k.call.code; point = o.point; end = end; first = reached o.reach })
    (record {
      stands = o.resumes.stands;
      image = o.image;
      is = record {
        newest = o.resumes.layers;
        code = z.raise.code;
        kind = refl;
        back = h.back;
        holds = record { saved = λ n less. refl; others = o.others };
        texts = KeepsNone φ.entries o.point.control.entries
            (stacks_over w o.point 0 end.layer end.others o.resumes.stands o.resumes.layers).0;
        kept = refl;
      };
      there = λ b. (reached_holds o.reach b).0;
    }) left_over l in
    let line = ap (λ ls. (popped_from [] ls o.point).control.line) o.resumes.layers ∙ h.line ∙ e.line in
    let same = ap closed o.state ∙ closed_popped o.point end.layer end.others o.resumes.layers in
    let frame = point_frame known.0 known.1 in
    let inside = l.inside in
    let whole = routines.routines.linked.inside in
    let z' : Finding = record {
      surroundings = w;
      code = k.call.code;
      routines = routines;
      point = z.from;
      numbers = z.raise.numbers;
      number = z.raise.code;
      by = h.raised.by;
      unit = unit_of x.unit;
      entry = x.entry;
    } in
    subst (λ t. Comes k.call.code c f v (error_aims X z.setting z.from.state.world.acts)
    (finish {R = X} (E.Error z.raise.code z.setting.around.line) w.acts t)) (sym same)
    (onward (error_closed X z.setting z.from.state.world.acts) (reach_then o.reach back)
    (λ g at.
    error_ends (error_closed X z.setting z.from.state.world.acts) (left_over + size_of (ending_of x)) g z.raise.code
    z.setting.around.line frame known e.near (omega (arith, inside, whole), h.raised.acts) line
    (linked_at z.raise.back error_end (sym e.back) (end_linked z'))
    (λ b. known_in frame (at b).0 ((at b).1, tt))))

-- ---- its statements

list_ends :
    (X : Type 0) (z : Here)
    (routines : ErrorRoutines z.setting.block.call.surroundings.links z.setting.block.call.code)
    (e : IsError z routines) (f : Family) →
    UnitDoes z.setting z.standing z.more e.here.raised →
    IsAmong (unit_block z.setting z.standing z.raise) z.raise.numbers (unit_block z.setting z.standing z.raise).first →
    AreIn z.setting.block.call.surroundings (unit_block z.setting z.standing z.raise).first z.raise.numbers
    (list_index z.standing) f →
    Comes z.setting.block.call.code 0 f (services_of (unit_block z.setting z.standing z.raise).first)
    (within_error z.setting.block.call.code z.setting.around z.raise.code z.setting.block.call.surroundings.acts
    (error_aims X z.setting z.from.state.world.acts))
    (M.list (at_line z.standing.around z.standing.unit.head.line) z.standing.unit.body
    z.setting.block.call.surroundings.acts (unit_block z.setting z.standing z.raise).first.state)
list_ends X z routines e f does o there =
    let k = z.setting.block in
    let w = k.call.surroundings in
    let x = z.standing in
    let h = e.here in
    let u = unit_block z.setting x z.raise in
    let acts = u.first.state.world.acts in
    let b = first_begun z h o in
    let l0 = back_of (begin_of x) (behind_beginning x) h.raised.stands in
    let l1 = back_of x.variables (behind_made x) l0 in
    let l2 = front_of (list_code x) (tail_of x) (back_of (act_code x.unit.head.line) (behind_act x) l1) in
    let enough = h.raised.enough in
    let turns = ap (λ (a : Around). a.turns) h.raised.around in
    let same = h.made.acts in
    let later = h.is.later in
    let since = h.since in
    let inside = l2.inside in
    let d = does z.raise h.is in
    comes_map (statement_aims u [] acts (end_index x) left_over left_over)
    (within_error k.call.code z.setting.around z.raise.code w.acts (error_aims X z.setting z.from.state.world.acts))
    refl (M.list u.around x.unit.body w.acts u.first.state)
    (λ c' f' v' r s q. end_finishes X z routines e c' f' v' None s (at_end {k = u} b refl (omega arith) q))
    (λ c' f' v' height label s q.
    jumps_since (omega (arith, since, same)) (leaves_by_jump z acts c' f' v' height label s (out_of_all q)))
    (λ c' f' v' r s q. end_finishes X z routines e c' f' v' r s q.to)
    (list_does u [] x.unit.body (list_index x) left_over u.first z.raise.numbers 0 left_over f b
    (omega (arith, enough, turns, same, later)) (d.1 b) h.raised.labels o l2
    (omega arith, omega (arith, inside)) there)

-- ---- its block, from its first instruction

unit_ends :
    (X : Type 0) (z : Here)
    (routines : ErrorRoutines z.setting.block.call.surroundings.links z.setting.block.call.code)
    (e : IsError z routines) (f : Family) →
    UnitDoes z.setting z.standing z.more e.here.raised →
    ((b : Base) → IsIn z.setting.block.call.surroundings (waiting z) z.raise.numbers z.standing.entry b (f b)
    × IsAtError (waiting z) (unit_beginning z.setting.block.call.surroundings z.standing z.raise) b (f b)) →
    Comes z.setting.block.call.code 11 f (services_of (waiting z))
    (within_error z.setting.block.call.code z.setting.around z.raise.code z.setting.block.call.surroundings.acts
    (error_aims X z.setting z.from.state.world.acts))
    (unit_body z.standing.around z.standing.unit.head z.standing.unit.body z.setting.block.call.surroundings.acts
    (begun_unit z.setting.block.call.surroundings z.standing z.raise).state)
unfolding ◌>>◌
unit_ends X z routines e f does there =
    let k = z.setting.block in
    let w = k.call.surroundings in
    let x = z.standing in
    let h = e.here in
    let u = unit_block z.setting x z.raise in
    let start = begun_unit w x z.raise in
    let then' = x.made start in
    let around' = at_line x.around x.unit.head.line in
    let aims = within_error k.call.code z.setting.around z.raise.code w.acts
    (error_aims X z.setting z.from.state.world.acts) in
    let closed' = within_closed z.setting.around z.raise.code w.acts
    (error_closed X z.setting z.from.state.world.acts) in
    let new = begun_known z h in
    let l0 = back_of (begin_of x) (behind_beginning x) h.raised.stands in
    let l1 = back_of x.variables (behind_made x) l0 in
    let n = standing_size x h.raised.kind in
    let inside = h.raised.stands.inside in
    let whole = h.raised.routines.linked.inside in
    let listed : Unit {0} → Meaning (Unit {0}) = λ q. behind_variables around' x.unit.body in
    let next' : Unit {0} → Meaning (Unit {0}) = λ q. M.list around' x.unit.body in
    let c1 = 11 + size_of (begin_of x) in
    onward closed' (error_begins 11 x.entry f (premises z h) (front_of (begin_of x) (behind_beginning x)
    h.raised.stands) there)
    (λ g at.
    subst (λ flow. Comes k.call.code c1 g (services_of start) aims (flow_on w.acts flow listed))
    (sym h.made.means)
    (onward closed' (h.made.comes c1 g new (front_of x.variables (behind_made x) l0) at)
    (λ g' at'.
    comes_on w.acts (act counted w.acts then'.state) next'
    (act_comes (before_closed w.acts next' closed') x.unit.head.line (c1 + size_of x.variables) 0 g'
    (h.made.stands new) (h.raised.line, h.raised.acts, omega (arith, n, inside, whole))
    (front_of (act_code x.unit.head.line) (behind_act x) l1) at'
    (λ g'' less at''. list_ends X z routines e g'' does (first_among z h less) at'')))))

-- ---- ERROR

pub error_runs :
    (X : Type 0) (k : Setting) (x : Standing) (more : ℕ) (h : IsRaised k x more) → UnitDoes k x more h →
    x.unit.condition ≡ C.Error →
    (r : ErrorRoutines k.block.call.surroundings.links k.block.call.code) → ErrorGoes X k r
unfolding R.error ◌>>◌
error_runs X k x more h does is routines p numbers c n f o line codes paid there =
    let w = k.block.call.surroundings in
    let code = k.block.call.code in
    let q = raised_at C.Error n p in
    let at = routines.routines.at in
    let raise : Raise = record { code = n; back = at + 16; height = h.by.height; point = q; numbers = numbers } in
    let z : Here = record { setting = k; standing = x; more = more; raise = raise; from = p } in
    let aims = error_aims X k p.state.world.acts in
    let closed' = error_closed X k p.state.world.acts in
    let next' : Unit {0} → Meaning X = λ u. behind_error X k.around n in
    let finding : Finding = record {
      surroundings = w;
      code = code;
      routines = routines;
      point = p;
      numbers = numbers;
      number = n;
      by = h.by;
      unit = unit_of x.unit;
      entry = x.entry;
    } in
    let found = subst (λ d. force k.block.first.state.activations d ≡ Some (h.by, St.BlockUnit (unit_of x.unit))) is
    h.force in
    let forced = ap (λ as'. force as' C.Error) o.later.activations ∙ found in
    let size = standing_size x h.kind in
    let inside = h.stands.inside in
    let whole = routines.routines.linked.inside in
    let long = routines.routines.linked.small' in
    let most = h.most in
    let from = o.later.acts in
    let frame = point_frame o.stands o.image in
    let finds : IsFinding finding = record {
      stands = o.stands;
      image = o.image;
      acts = h.acts;
      small' = codes.1;
      force = forced;
      only = h.only;
      some = h.some;
      inside = omega (arith, size, inside);
    } in
    comes_early w refl (λ b. (there b).0)
    (λ early.
    comes_on w.acts (act (raising C.Error n) w.acts p.state) next'
    (error_finds finding (before_closed w.acts next' closed') c f finds (omega (arith, paid, most)) frame
    (λ b. known_in frame (there b).0 ((there b).1, tt))
    (λ g less at'.
    let o' = raised_among C.Error n o less in
    let of : IsRaiseOf k x more h raise = record {
      among = o';
      later = omega (arith, from);
      height = refl;
      some = codes.0;
      near = codes.1;
    } in
    let d = does raise of in
    let here : IsHere z = record {
      raised = h;
      is = of;
      made = d.0;
      few = few_made w p (unit_block k x raise).first early d.0.few less;
      since = omega arith;
      line = refl;
      back = omega (arith, whole, long);
    } in
    let e : IsError z routines = record { here = here; back = refl; near = codes.1; line = line } in
    let state = (begun_unit w x raise).state in
    subst (Comes code 11 g (services_of (waiting z)) aims)
    (sym (error_means X k.around x.around x.unit.head x.unit.body more n w.acts h.by q.state h.enter h.around
    h.kind (subst (λ xs. nat_lt (length xs) most_activations ≡ true) (sym o.later.activations) h.shallow) forced))
    (comes_ended k.around n w.acts (unit_body x.around x.unit.head x.unit.body w.acts state)
    (unit_ends X z routines e g does (λ b. ((at' b).0, record { parent = (at' b).1 })))))))

-- ---- where no block more may be active

one_more : (n : ℕ) → n + 1 ≡ suc n
one_more n = omega arith

answer_ends :
    {X : Type 0} {w : Surroundings} {code : _} {p : Point} {numbers : ℕ → ℕ} {x : Beginning} {i : ℕ} {aims : Aims X}
    (c : ℕ) (f g : Family) (q : PremisesAt false w code p numbers x)
    (at : (b : Base) → IsAtError p x b (f b)) → (c < cost code) × (w.acts + 1 < 2 ^ 64) →
    Linked w.links code i (Plain I.Ecall ∷ []) →
    ((b : Base) → At b i (Known (point_ground w (begun_point x p) (error_frame f q at)) (services_of p) numbers
    (λ n. 0) (λ b'. (17, 4) ∷ (12, x.head.line) ∷ enter_regs x.layer.at b') b) (g b)) →
    Comes code c g (services_of p) aims (finish {R = X} (E.Limit L.Depth) w.acts p.state)
answer_ends {w = w} {code} {p} {x = x} {i = i} c f g q at fits l there =
    let v = services_of p in
    let v' = A.with_world (ending (E.Limit L.Depth) v.world) v in
    let calling : Calling w.links code i g (λ b. Ends v') = record {
      linked = l;
      pc = λ b. (there b).pc;
      answers = λ b.
          let o = (there b).holds in
          let m = (g b).machine.memory in
          called code (g b) v 4 2 x.layer.at x.head.line 0 _
          (λ call x0 x1 x2 x3 x4. B.enter_served call x0 x1 x2 x3)
          o.body.services o.regs.0 o.regs.1.1.0 o.regs.1.1.1.0 o.regs.1.0 o.regs.1.1.1.1.0 refl (λ call y. refl)
          ∙ ap (λ call. B.enter_served call 2 x.layer.at x.head.line 0) (call_is w code p m q.image)
          ∙ depth_answered w.units p m x.layer 2 0 x.head.line q.stands.active q.is.entering q.is.shallow
          ∙ acts v w.acts (Ends v') q.stands.allowed fits.1;
    } in
    comes_finish v' (E.Limit L.Depth) w.acts p.state refl refl
    (end_pauses c g v v' fits.0 q.stands.running (λ b. (there b).holds.body.services) (one_more v.world.acts) calling)
    (call_ends c g v v' (λ e. cc e) calling)

pub error_deep :
    (X : Type 0) (k : Setting) (x : Standing) (more : ℕ) → IsRaisedAt false k x more → x.unit.condition ≡ C.Error →
    (r : ErrorRoutines k.block.call.surroundings.links k.block.call.code) → ErrorGoes X k r
unfolding R.error ◌>>◌
error_deep X k x more h is routines p numbers c n f o line codes paid there =
    let w = k.block.call.surroundings in
    let code = k.block.call.code in
    let q = raised_at C.Error n p in
    let at = routines.routines.at in
    let raise : Raise = record { code = n; back = at + 16; height = h.by.height; point = q; numbers = numbers } in
    let aims = error_aims X k p.state.world.acts in
    let closed' = error_closed X k p.state.world.acts in
    let next' : Unit {0} → Meaning X = λ u. behind_error X k.around n in
    let finding : Finding = record {
      surroundings = w;
      code = code;
      routines = routines;
      point = p;
      numbers = numbers;
      number = n;
      by = h.by;
      unit = unit_of x.unit;
      entry = x.entry;
    } in
    let found = subst (λ d. force k.block.first.state.activations d ≡ Some (h.by, St.BlockUnit (unit_of x.unit))) is
    h.force in
    let forced = ap (λ as'. force as' C.Error) o.later.activations ∙ found in
    let size = standing_size x h.kind in
    let inside = h.stands.inside in
    let whole = routines.routines.linked.inside in
    let long = routines.routines.linked.small' in
    let most = h.most in
    let frame = point_frame o.stands o.image in
    let begin = unit_beginning w x raise in
    let first = size_of (begin_of x) in
    let finds : IsFinding finding = record {
      stands = o.stands;
      image = o.image;
      acts = h.acts;
      small' = codes.1;
      force = forced;
      only = h.only;
      some = h.some;
      inside = omega (arith, size, inside);
    } in
    comes_on w.acts (act (raising C.Error n) w.acts p.state) next'
    (error_finds finding (before_closed w.acts next' closed') c f finds (omega (arith, paid, most)) frame
    (λ b. known_in frame (there b).0 ((there b).1, tt))
    (λ g less at'.
    let o' = raised_among C.Error n o less in
    let i = o'.image in
    let q' : PremisesAt false w code (waiting_point finding) numbers begin = record {
      stands = awaited_stands w q n (4 * (at + 16)) o'.stands;
      image = record { keeper = i.keeper; layout = i.layout; parts = i.parts; even = i.even };
      is = raise_begins k x more h raise o' (refl, codes.0, omega (arith, whole, long));
    } in
    let l = front_of (begin_of x) (behind_beginning x) h.stands in
    let there' : (b : Base) → IsIn w (waiting_point finding) numbers x.entry b (g b)
    × IsAtError (waiting_point finding) begin b (g b) = λ b. ((at' b).0, record { parent = (at' b).1 }) in
    let l' = (enter_linked x.entry g q' l).inside in
    subst (Comes code 11 g (services_of (waiting_point finding)) aims)
    (sym (deep_means X k.around x.around x.unit.head x.unit.body more n w.acts h.by q.state h.enter h.around
    (subst (λ xs. nat_lt (length xs) most_activations ≡ false) (sym o.later.activations) h.shallow) forced))
    (onward closed' (error_asked 11 x.entry g q' l there')
    (λ g' at2.
    answer_ends _ g g' q' (λ b. (there' b).1) (omega (arith, l', whole), h.acts) (enter_linked x.entry g q' l) at2))))
