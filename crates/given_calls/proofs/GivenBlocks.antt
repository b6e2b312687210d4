-- A procedure or a function with a parameter that is copied, and variables beside it, comes behind its call, if its
-- statements do what they mean.
use Rattle.std.proofs.Common.{◌≡◌, ℕ, ◌+◌, ◌^◌, ◌<◌, ◌≤◌, [], ◌∷◌, ◌++◌, Option, None, false, refl, sym, ap, ◌∙◌}
use Rattle.std.proofs.Common.{subst, arith}
use Rattle.pli_typing.specs.TypedTree as Y
use Rattle.pli_meaning.specs.Control.{Meaning, act, flow_on, give, ◌>>=◌, ◌>>◌}
use Rattle.pli_meaning.specs.Executing as M
use Rattle.pli_meaning.specs.Executing.{labels_in}
use Rattle.pli_meaning.specs.Making as K
use Rattle.pli_meaning.specs.Raising.{Around, at_line}
use Rattle.pli_meaning.specs.StorageState.{State}
use Rattle.pli_meaning.specs.World.{World, counted}
use Rattle.pli_coding.specs.Allocating.{act_code}
use Rattle.pli_coding.specs.Assembly.{Code, size_of}
use Rattle.pli_coding.specs.Entries.{arguments_copied}
use Rattle.pli_coding.specs.Environments.{none_taken}
use Rattle.pli_coding.specs.Statements.{stmts_code}
use Rattle.activation_relation.specs.Layers.{Point, services_of}
use Rattle.activation_relation.specs.Points.{Stands, IsEarly}
use Rattle.activation_relation.specs.Remaining.{Remains}
use Rattle.activation_relation.proofs.Remaining.{remains_acted, remains_entered, remains_made, remains_then}
use Rattle.activation_relation.proofs.Returning.{later_same}
use Rattle.activation_relation.proofs.Serials.{few_made}
use Rattle.run_steps.specs.Engine.{Base}
use Rattle.run_steps.specs.Items.{Linked}
use Rattle.run_steps.proofs.Jumps.{back_of, front_of}
use Rattle.run_steps.proofs.Linking.{size_append}
use Rattle.run_steps.specs.Reach.{Comes, Family, cost}
use Rattle.run_steps.proofs.Reach.{before_closed, comes_on, onward}
use Rattle.block_runs.specs.Beginnings.{begun_point}
use Rattle.block_runs.specs.Bodies.{Function, behind_aims, body_aims, place_in}
use Rattle.block_runs.specs.Endings.{ending_code}
use Rattle.block_runs.specs.Machines.{AreIn}
use Rattle.block_runs.proofs.CallStatements.{comes_map}
use Rattle.block_runs.proofs.EmptyMeaning.{entry_acts, on_nothing}
use Rattle.block_runs.proofs.PointActs.{act_comes, stands_acted}
use Rattle.program_runs.specs.Calls.{left_over}
use Rattle.program_runs.specs.Procedures.{block_of}
use Rattle.program_runs.specs.Statements.{EachDoes, IsAmong, IsBegun, statement_aims}
use Rattle.program_runs.proofs.Calls.{body_closed}
use Rattle.program_runs.proofs.JumpsOut.{no_jump}
use Rattle.program_runs.proofs.Lists.{list_does}
use Rattle.program_runs.proofs.Statements.{at_end}
use Rattle.argument_runs.specs.Copies.{copy_made_of}
use Rattle.argument_runs.specs.CopyCalls.{CopyCall, beginning_of, called_of, copied_point, copies_index, copy_in}
use Rattle.argument_runs.specs.CopyCalls.{entry_of, given_point, giving_of, is_value, listed_layer, listing_of}
use Rattle.argument_runs.specs.CopyCalls.{named_point}
use Rattle.argument_runs.specs.ListBeginnings.{IsListing}
use Rattle.argument_runs.specs.ListCalls.{entered_point}
use Rattle.argument_runs.specs.Lists.{list_under}
use Rattle.argument_runs.proofs.Copies.{copies_come}
use Rattle.argument_runs.proofs.CopyBlocks.{Here, behind_list, copied_known, entered_known, is_copy, is_giving}
use Rattle.argument_runs.proofs.CopyBlocks.{run_means}
use Rattle.argument_runs.proofs.CopyPoints.{copied_means}
use Rattle.argument_runs.proofs.ListCalls.{list_calls_return}
use Rattle.given_calls.specs.Given.{AreBeside, IsGiven, body_index, given_block, given_code, procedure_tail}
use Rattle.block_runs.proofs.Early.{comes_early}

-- ---- where its variables have been made

-- where it is called, its code, and its variables
pub record Entering (g : Option Function) (y : CopyCall) (made : Point → Point) (tail : Code) : Type 0 where
  pub here : Here g y
  pub beside : AreBeside g y made
  pub kind : y.callee.procedure.head.kind ≡ Y.ProcedureBlock
  pub acts : y.surroundings.acts + 1 < 2 ^ 64
  pub stands :
      Linked y.surroundings.links y.code y.callee.calling.entry
      (given_code y.callee.environment y.callee.procedure tail)
  pub long : size_of (ending_code (called_of g y).beginning.layer (place_in g)) ≤ size_of tail

first_among :
    {g : Option Function} {y : CopyCall} {made : Point → Point} {tail : Code} (h : Entering g y made tail) →
    IsEarly y.surroundings y.point → (made (copied_point g y)).state.world.acts < y.surroundings.acts →
    IsAmong (given_block g y made) y.numbers (given_block g y made).first
first_among {g} {y} {made} h early less =
    let there = h.beside.stands (copied_known h.here) in
    let known = stands_acted y.callee.procedure.head.line there.0 there.1 less in
    let same = ap (λ (u : World). u.acts) h.beside.world in
    record {
      stands = known.0;
      image = known.1;
      later = later_same (given_block g y made).first;
      few = few_made y.surroundings y.point (given_block g y made).first early h.beside.few (omega (arith, same, less));
      entries = refl;
      others = λ n more. refl;
      words = h.here.words;
    }

-- what lived where it was called lives on where its copy has been made
remains_copied : {g : Option Function} {y : CopyCall} → Here g y → Remains (named_point y) (copied_point g y)
remains_copied {g} {y} h =
    let p = y.point in
    let x = beginning_of g y in
    let q = begun_point x p in
    let m = copy_made_of (listed_layer y) (copy_in y) in
    let r = remains_made p q m (remains_entered p x.head x.entry x.layer x.head.line)
    (record {
      falling = (entered_known h).0.lives.falling;
      numbered = (entered_known h).0.lives.numbered;
      extents = (entered_known h).0.lives.extents;
    })
    (omega arith) in
    record {
      living = r.living;
      serials = r.serials;
      at = r.at;
      number = r.number;
      signatures = r.signatures;
      statics = r.statics;
      low = r.low;
      constants = r.constants;
      active = r.active;
      in_use = r.in_use;
    }

first_begun :
    {g : Option Function} {y : CopyCall} {made : Point → Point} {tail : Code} (h : Entering g y made tail) →
    Stands y.surroundings (given_block g y made).first → IsBegun (given_block g y made)
first_begun {g} {y} {made} h stands =
    let m = h.beside in
    let same = ap (λ (u : World). u.acts) m.world in
    let then' = made (copied_point g y) in
    let first = (given_block g y made).first in
    record {
      activation = m.activation;
      resumes = record {
        stands = stands;
        idle = m.idle;
        changed = m.changed;
        layers = m.layers;
        own = m.own;
        activations = m.activations;
        more = omega (arith, same);
      };
      acts = omega (arith, same);
      remains = remains_then (named_point y) then' first
          (m.remains (named_point y) (omega arith) (copied_known h.here).0 (remains_copied h.here))
          (remains_acted then' counted y.callee.procedure.head.line);
      outer = tt;
    }

-- ---- what it means

body_means :
    {g : Option Function} {y : CopyCall} {made : Point → Point} {tail : Code} → Entering g y made tail →
    M.block_body (at_line y.callee.around y.callee.procedure.head.line) y.callee.procedure.head
    y.callee.procedure.body (entry_of g y) y.surroundings.acts (entered_point (giving_of g y)).state
    ≡ flow_on y.surroundings.acts (act counted y.surroundings.acts (made (copied_point g y)).state)
    (λ q. behind_list (at_line y.callee.around y.callee.procedure.head.line) y.callee.procedure.body (is_value g))
unfolding M.block_body K.parameters_bound K.parameter_bound give ◌>>=◌ ◌>>◌
body_means {g} {y} {made} h =
    let head = y.callee.procedure.head in
    let body = y.callee.procedure.body in
    let around = at_line y.callee.around head.line in
    let k = y.surroundings.acts in
    let next' : Unit {0} → Meaning (Unit {0}) = λ q. behind_list around body (is_value g) in
    let rest : Unit {0} → Meaning (Unit {0}) = λ q. M.entry_act head.kind >> behind_list around body (is_value g) in
    ap (λ flow. flow_on k (flow_on k flow (λ q. K.parameters_bound [] []))
    (λ q. M.block_variables_made around head head.kind >> rest q))
    (copied_means y.surroundings (entered_point (giving_of g y)) (listed_layer y) y.layer y.others (copy_in y) k
    (is_copy h.here))
    ∙ ap (λ flow. flow_on k flow rest) h.beside.means
    ∙ ap (λ flow. flow_on k flow next') (entry_acts head.kind k (made (copied_point g y)).state h.kind)

-- ---- the whole

-- what is asked of its body: from its first statement it comes to the block's end
abbrev pub BodyComes : Option Function → CopyCall → (made : Point → Point) → Type 0
BodyComes g y made =
    IsBegun (given_block g y made) → IsAmong (given_block g y made) y.numbers (given_block g y made).first →
    (f : Family) → AreIn y.surroundings (given_block g y made).first y.numbers (body_index y.callee) f →
    Comes y.code 0 f (services_of (given_block g y made).first) (body_aims (called_of g y) left_over)
    (behind_list (at_line y.callee.around y.callee.procedure.head.line) y.callee.procedure.body (is_value g)
    y.surroundings.acts (given_block g y made).first.state)

pub given_runs :
    {g : Option Function} {y : CopyCall} {made : Point → Point} {tail : Code} (credits wanted : ℕ) (f : Family) →
    Entering g y made tail → BodyComes g y made →
    credits + 4 + size_of (given_code y.callee.environment y.callee.procedure tail) ≤ cost y.code →
    AreIn y.surroundings (given_point y) y.numbers y.callee.calling.call f →
    ((b : Base) → IsListing (given_point y) (beginning_of g y) (list_under y.layer.at) b (f b)) →
    Comes y.code credits f (services_of (given_point y)) (behind_aims (called_of g y) wanted)
    (M.block_run y.callee.around (block_of y.callee.procedure) (entry_of g y) y.surroundings.acts y.point.state)
unfolding ◌>>◌
given_runs {g} {y} {made} {tail} credits wanted f h body_comes paid there gives =
    let w = y.surroundings in
    let c = y.callee in
    let k = called_of g y in
    let x = c.procedure in
    let one = act_code x.head.line in
    let body = stmts_code c.environment none_taken x.body in
    let copies = arguments_copied c.environment (0 ∷ []) in
    let l0 = back_of (listing_of x) (copies ++ (x.variables ++ (one ++ (body ++ tail)))) h.stands in
    let l1 = back_of copies (x.variables ++ (one ++ (body ++ tail))) l0 in
    let l2 = back_of x.variables (one ++ (body ++ tail)) l1 in
    let n0 = size_append (listing_of x) (copies ++ (x.variables ++ (one ++ (body ++ tail)))) in
    let n1 = size_append copies (x.variables ++ (one ++ (body ++ tail))) in
    let n2 = size_append x.variables (one ++ (body ++ tail)) in
    let n3 = size_append one (body ++ tail) in
    let n4 = size_append body tail in
    let long = h.long in
    let around' = at_line c.around x.head.line in
    let next' : Unit {0} → Meaning (Unit {0}) = λ u. behind_list around' x.body (is_value g) in
    let start = entered_point (giving_of g y) in
    let then' = made (copied_point g y) in
    let there' = h.beside.stands (copied_known h.here) in
    let closed = body_closed k left_over in
    let ends = size_of (ending_code k.beginning.layer (place_in g)) in
    let c0 = credits + (left_over + ends) + 2 + size_of (listing_of x) in
    subst (λ flow. Comes y.code credits f (services_of (given_point y)) (behind_aims k wanted) flow)
    (sym (run_means c.around x.head x.body (entry_of g y) w.acts y.point.state h.kind h.here.room.shallow))
    (comes_early w refl there
    (λ early.
    list_calls_return k (giving_of g y) (M.block_body around' x.head x.body (entry_of g y)) credits left_over
    wanted f (is_giving h.here)
    (λ g1 at.
    subst (λ flow. Comes y.code c0 g1 (services_of start) (body_aims k left_over) flow) (sym (body_means h))
    (onward closed
    (copies_come c0 (copies_index c) g1 (entered_known h.here) (is_copy h.here) h.here.copied
    (front_of copies (x.variables ++ (one ++ (body ++ tail))) l0) at)
    (λ g2 at2.
    onward closed
    (h.beside.comes (c0 + size_of copies) g2 (copied_known h.here)
    (front_of x.variables (one ++ (body ++ tail)) l1) at2)
    (λ g3 at3.
    comes_on w.acts (act counted w.acts then'.state) next'
    (act_comes (before_closed w.acts next' closed) x.head.line (c0 + size_of copies + size_of x.variables) 0 g3 there'
    (h.here.coded.line, h.acts, omega (arith, n0, n1, n2, n3, n4, long, paid)) (front_of one (body ++ tail) l2) at3
    (λ g4 less at4.
    let o = first_among h early less in
    body_comes (first_begun h o.stands) o g4 at4)))))) there gives))

-- ---- a procedure's statements, from behind the act of its entry

end_nothing :
    (around : Around) (body : Y.Stmts) (k : ℕ) (s : State) → behind_list around body false k s ≡ M.list around body k s
unfolding M.block_list
end_nothing around body k s = refl

pub procedure_goes :
    (y : CopyCall) (made : Point → Point) (callee : IsGiven y.surroundings y.code y.callee) →
    (IsBegun (given_block None y made) →
    EachDoes (given_block None y made) (labels_in y.callee.procedure.body ++ []) y.callee.procedure.body
    (body_index y.callee) left_over) →
    y.surroundings.acts < y.callee.around.turns + (given_block None y made).first.state.world.acts →
    BodyComes None y made
procedure_goes y made callee each few b o f there =
    let k = given_block None y made in
    let c = y.callee in
    let x = c.procedure in
    let one = act_code x.head.line in
    let body = stmts_code c.environment none_taken x.body in
    let tail = procedure_tail x in
    let copies = arguments_copied c.environment (0 ∷ []) in
    let l0 = back_of (listing_of x) (copies ++ (x.variables ++ (one ++ (body ++ tail)))) callee.stands in
    let l1 = back_of copies (x.variables ++ (one ++ (body ++ tail))) l0 in
    let l2 = back_of one (body ++ tail) (back_of x.variables (one ++ (body ++ tail)) l1) in
    let l3 = front_of body tail l2 in
    let inside = l3.inside in
    let flow = M.list k.around x.body y.surroundings.acts k.first.state in
    let acts = k.first.state.world.acts in
    subst (λ u. Comes y.code 0 f (services_of k.first) (body_aims k.call left_over) u)
    (sym (end_nothing k.around x.body y.surroundings.acts k.first.state))
    (comes_map (statement_aims k [] acts c.calling.end left_over left_over) (body_aims k.call left_over) refl flow
    (λ c' f' v' r s q. at_end b refl (omega arith) q)
    (λ c' f' v' height label s q. no_jump refl q)
    (λ c' f' v' r s q. q.to)
    (subst (λ j. Comes y.code 0 f (services_of k.first) (statement_aims k [] acts j left_over left_over) flow)
    (sym callee.end)
    (list_does k [] x.body (body_index c) left_over k.first y.numbers 0 left_over f b few (each b) callee.labels o l3
    (omega arith, omega (arith, inside)) there)))
