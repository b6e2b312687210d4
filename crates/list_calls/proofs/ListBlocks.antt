-- A procedure or a function with a list of parameters comes behind its call, if its statements do what they mean.
use Rattle.std.proofs.Common.{◌≡◌, ℕ, ◌+◌, ◌-◌, ◌*◌, ◌%◌, ◌^◌, ◌<◌, ◌≤◌, List, [], ◌∷◌, ◌++◌, length, Option, None}
use Rattle.std.proofs.Common.{true, refl, sym, ap, ◌∙◌, subst, arith}
use Rattle.std.specs.Prelude.{nat_lt}
use Rattle.pli_typing.specs.TypedTree as Y
use Rattle.pli_meaning.specs.Control.{Meaning, act, flow_on, ◌>>=◌, ◌>>◌}
use Rattle.pli_meaning.specs.Executing as M
use Rattle.pli_meaning.specs.Executing.{labels_in}
use Rattle.pli_meaning.specs.Raising.{at_line}
use Rattle.pli_meaning.specs.StorageState.{Activation, most_activations}
use Rattle.pli_meaning.specs.World.{World, counted}
use Rattle.pli_serving.specs.Blocks as B
use Rattle.pli_serving.specs.Templates.{shape_at}
use Rattle.pli_coding.specs.Allocating.{act_code}
use Rattle.pli_coding.specs.Assembly.{CallTo, Code, ProcedureEntry, size_of}
use Rattle.pli_coding.specs.Environments.{none_taken}
use Rattle.pli_coding.specs.Frames.{fixed_size}
use Rattle.pli_coding.specs.Linking.{place_of}
use Rattle.pli_coding.specs.Statements.{stmts_code}
use Rattle.activation_relation.specs.Chains.{HasParent}
use Rattle.activation_relation.specs.FrameLaws.{lowered, with_waits}
use Rattle.activation_relation.specs.Frames.{lower_end}
use Rattle.activation_relation.specs.Layers.{Layer, Point, services_of}
use Rattle.activation_relation.specs.PointLaws.{IsNext}
use Rattle.activation_relation.specs.Points.{AreFew, Stands, Surroundings, IsEarly}
use Rattle.activation_relation.specs.Remaining.{Remains}
use Rattle.activation_relation.specs.ServiceLaws.{IsEntering}
use Rattle.activation_relation.proofs.FrameWords.{words_covered}
use Rattle.activation_relation.proofs.Remaining.{remains_acted, remains_entered, remains_then}
use Rattle.activation_relation.proofs.Returning.{later_same}
use Rattle.activation_relation.proofs.Serials.{few_made, few_small}
use Rattle.run_steps.specs.Engine.{Base, most_code}
use Rattle.run_steps.specs.Items.{Linked}
use Rattle.run_steps.proofs.Jumps.{back_of, front_of}
use Rattle.run_steps.proofs.Linking.{size_append}
use Rattle.run_steps.specs.Reach.{Comes, Family, Reach, cost}
use Rattle.run_steps.proofs.Reach.{before_closed, comes_on, onward}
use Rattle.block_runs.specs.Bodies.{Function, IsEnding, behind_aims, body_aims, place_in}
use Rattle.block_runs.specs.Endings.{IsWord, ending_code}
use Rattle.block_runs.specs.Machines.{AreIn, IsImage, IsIn}
use Rattle.block_runs.proofs.EmptyMeaning.{entry_acts}
use Rattle.block_runs.proofs.Places.{bounds}
use Rattle.block_runs.proofs.PointActs.{act_comes, stands_acted}
use Rattle.program_runs.specs.Calls.{left_over}
use Rattle.program_runs.specs.Procedures.{IsCoded, block_of, frame_for}
use Rattle.program_runs.specs.Statements.{IsAmong, IsBegun}
use Rattle.program_runs.proofs.Calls.{body_closed}
use Rattle.argument_runs.specs.CopyCalls.{is_value}
use Rattle.argument_runs.specs.ListBeginnings.{HasSome, IsListCall, IsListing, KeepsList, Listing}
use Rattle.argument_runs.specs.ListCalls.{IsGiving, entered_point}
use Rattle.argument_runs.proofs.CopyBlocks.{behind_list, run_means}
use Rattle.argument_runs.proofs.GivenLists.{with_list_stands}
use Rattle.argument_runs.proofs.ListBeginnings.{listed_stands}
use Rattle.argument_runs.proofs.ListCalls.{list_calls_return}
use Rattle.list_calls.specs.ListCalls.{AreNumbered}
use Rattle.list_calls.specs.Lists.{Parameter, Passing, PassesCopy, PassesName, bound_layer, copies_in}
use Rattle.list_calls.specs.Lists.{indices_of}
use Rattle.list_calls.specs.Taking.{AreBeside, HasParameters, ListCall, Taking, beginning_of, body_index}
use Rattle.list_calls.specs.Taking.{bound_point, called_of, copies_code, copies_index, entry_of, given_point}
use Rattle.list_calls.specs.Taking.{given_waits, giving_of, layer_of, list_block, list_of, listed_layer, listing_of}
use Rattle.list_calls.specs.Taking.{named_point, bound_waits, taking_code, variables_index}
use Rattle.list_calls.proofs.Binding.{AreGiven, Binds, IsWithin, bound_comes, bound_known}
use Rattle.list_calls.proofs.Bound.{AreBound, all_bound, bound_means, bound_remains}
use Rattle.list_calls.proofs.PartCode.{coded}
use Rattle.block_runs.proofs.Early.{comes_early}

-- ---- where it is called

-- what is asked of the point, whatever limits are passed there
pub record Here (g : Option Function) (y : ListCall) : Type 0 where
  pub stands : Stands y.surroundings y.point
  pub image : IsImage y.surroundings y.code y.point
  pub few : AreFew y.surroundings y.point
  pub newest : y.point.control.layers ≡ y.layer ∷ y.others
  pub inside : y.words + 6 * length y.passed ≤ y.layer.words
  pub room :
      frame_for y.surroundings.parts y.point.control.layers y.callee.procedure
      + fixed_size y.callee.procedure.head.level (length y.callee.parameters) + 16 * copies_in y.passed
      ≤ lower_end y.surroundings.parts y.point.control.layers
  pub even : lower_end y.surroundings.parts y.point.control.layers % 16 ≡ 0
  pub idle : y.point.control.waiting ≡ None
  pub low : y.point.places.low ≤ y.surroundings.parts.stack_start
  pub numbered : AreNumbered (λ n. shape_at y.point.places.signatures n) y.callee.parameters
  pub parent : HasParent y.callee.procedure.head.level y.callee.calling.parent y.point.state.activations
  pub many : length y.callee.parameters ≡ length y.passed
  pub given : AreGiven y.words (given_waits y) y.passed
  pub words : (n : ℕ) → y.numbers n < 2 ^ 32
  pub small' : y.surroundings.serials + copies_in y.passed < 2 ^ 40
  pub coded : IsCoded y.callee.procedure y.callee.calling
  pub parameters : HasParameters y.callee

-- and of its code, behind whose statements other code stands
pub record HasCode (y : ListCall) (tail : Code) : Type 0 where
  pub calls :
      Linked y.surroundings.links y.code y.callee.calling.call
      (CallTo (ProcedureEntry y.callee.procedure.head.number) ∷ [])
  pub place :
      place_of y.surroundings.links (ProcedureEntry y.callee.procedure.head.number) ≡ 4 * y.callee.calling.entry
  pub kind : y.callee.procedure.head.kind ≡ Y.ProcedureBlock
  pub acts : y.surroundings.acts + 1 < 2 ^ 64
  pub begins : Linked y.surroundings.links y.code y.callee.calling.entry (taking_code y.callee tail)

-- one more block may be active
abbrev pub IsShallow : ListCall → Type 0
IsShallow y = nat_lt (length y.point.state.activations) most_activations ≡ true

pub given_known :
    {g : Option Function} {y : ListCall} → Here g y →
    Stands y.surroundings (given_point y) × IsImage y.surroundings y.code (given_point y)
given_known {g} {y} h =
    with_list_stands y.surroundings y.code y.point y.layer y.others (given_waits y) (h.stands, h.image) h.newest

-- its frame and the copies fit between the stacks
pub room_here :
    {g : Option Function} {y : ListCall} → Here g y →
    (layer_of y).top + 16 * copies_in y.passed ≤ (layer_of y).lower
room_here {y = y} h =
    let x = y.callee.procedure in
    let parts = y.surroundings.parts in
    subst (λ ls. frame_for parts ls x + fixed_size x.head.level (length y.callee.parameters)
    + 16 * copies_in y.passed ≤ lower_end parts ls) h.newest h.room

pub is_next :
    {g : Option Function} {y : ListCall} → Here g y →
    IsNext y.surroundings (given_point y) (beginning_of g y).head (beginning_of g y).entry (beginning_of g y).layer
is_next {g} {y} h =
    let room = room_here h in
    record {
      layer = record { level = refl; runs = refl; units = refl; parent = h.parent };
      laid = record {
        above = refl;
        fixed = omega arith;
        falls = omega arith;
        free = omega (arith, room);
        saved = h.coded.saved;
        told = λ n v e. absurd (cc e);
      };
      entries = ([], refl);
      edits = refl;
      over = (given_known h).0.over;
    }

pub is_entering :
    {g : Option Function} {y : ListCall} → Here g y →
    IsEntering (given_point y) (beginning_of g y).layer 0 (beginning_of g y).texts
is_entering {g} {y} h =
    record {
      entered = ap (λ o. B.entered_of 0 y.point.control.line o) h.idle;
      given = refl;
      arguments = [];
      below = refl;
      many = refl;
      places = refl;
      units = refl;
    }

pub listing :
    {g : Option Function} {y : ListCall} → Here g y → IsShallow y →
    Listing y.surroundings y.code (given_point y) y.numbers (beginning_of g y) (list_of y)
listing {g} {y} h shallow =
    let known = given_known h in
    let o = bounds y.surroundings.parts (given_point y).control.layers known.0.laid in
    let above = o.above in
    record {
      stands = known.0;
      image = known.1;
      beginning = record {
        next = is_next h;
        entering = is_entering h;
        shallow = shallow;
        kind = refl;
        level = h.coded.level;
        line = h.coded.line;
        few = omega arith;
        back = h.coded.back;
        held = refl;
        words = λ n less. h.words n;
        waits = λ n. refl;
        told = λ n. refl;
        list = refl;
        top = refl;
        lower = refl;
      };
      some = h.parameters.some;
      below = omega (arith, above);
    }

-- ---- its code

some_indices : (xs : List Parameter) → 0 < length xs → HasSome (indices_of xs)
some_indices [] some = absurd (omega (arith, some))
some_indices (x ∷ xs) some = tt

abbrev pub behind_copies : Taking → (tail : Code) → Code
behind_copies c tail =
    c.procedure.variables
    ++ (act_code c.procedure.head.line ++ (stmts_code c.environment none_taken c.procedure.body ++ tail))

pub is_list_call :
    (g : Option Function) {y : ListCall} {tail : Code} → HasParameters y.callee → HasCode y tail →
    IsListCall y.surroundings y.code (beginning_of g y) (indices_of y.callee.parameters) y.callee.calling.call
    y.callee.calling.entry
is_list_call g {y} {tail} parameters h =
    record {
      calls = h.calls;
      place = h.place;
      begins = front_of (listing_of y.callee) (copies_code y.callee ++ behind_copies y.callee tail) h.begins;
      back = refl;
      some = some_indices y.callee.parameters parameters.some;
    }

-- ---- its layer: only the lower stack has grown

pub bound_lower : List Parameter → List Passing → ℕ → ℕ
bound_lower [] ys lower = lower
bound_lower (x ∷ xs) [] lower = lower
bound_lower (x ∷ xs) (PassesCopy z ∷ ys) lower = bound_lower xs ys (lower - 16)
bound_lower (x ∷ xs) (PassesName serial signature ∷ ys) lower = bound_lower xs ys lower

pub layer_is :
    (xs : List Parameter) (ys : List Passing) (ψ : Layer) →
    bound_layer xs ys ψ ≡ lowered (bound_lower xs ys ψ.lower) ψ
unfolding bound_lower
layer_is [] ys ψ = refl
layer_is (x ∷ xs) [] ψ = refl
layer_is (x ∷ xs) (PassesCopy z ∷ ys) ψ = layer_is xs ys (lowered (ψ.lower - 16) ψ)
layer_is (x ∷ xs) (PassesName serial signature ∷ ys) ψ = layer_is xs ys ψ

-- ---- its parameters

abbrev pub caller_of : ListCall → Layer
caller_of y = with_waits (given_waits y) y.layer

pub binds :
    {g : Option Function} {y : ListCall} → Here g y → IsShallow y →
    Binds y.surroundings y.code y.words 0 (list_of y) y.callee.parameters y.passed (listed_layer y) (caller_of y)
    y.others (entered_point (giving_of g y))
binds {g} {y} h shallow =
    let w = y.surroundings in
    let known = listed_stands (listing h shallow) in
    let laid = (given_known h).0.laid in
    let above = laid.0.above in
    let covered = words_covered y.layer.words in
    let inside = h.inside in
    let few = h.parameters.few in
    let many = h.many in
    record {
      stands = known.0;
      image = known.1;
      newest = refl;
      list_is = refl;
      under = omega (arith, above, covered, inside);
      inside = omega (arith, inside);
      near = omega (arith, few, many);
      many = many;
      given = h.given;
      fits = room_here h;
      even = subst (λ ls. lower_end w.parts ls % 16 ≡ 0) h.newest h.even;
      low = h.low;
      numbered = h.numbered;
      serial = few_small w y.point (copies_in y.passed) h.few h.small';
    }

-- where they have been bound
abbrev pub activation_in : Option Function → ListCall → Activation
activation_in g y =
    M.activation_of y.callee.procedure.head (entry_of g y) (length y.point.state.activations + 1)

pub bound_here :
    {g : Option Function} {y : ListCall} → Here g y →
    AreBound y.callee.parameters y.passed y.words (listed_layer y) (caller_of y) y.others (activation_in g y)
    y.point.state.activations (entered_point (giving_of g y)) (bound_point g y)
bound_here {g} {y} h =
    all_bound y.words y.callee.parameters y.passed (listed_layer y) (caller_of y) y.others (activation_in g y)
    y.point.state.activations (entered_point (giving_of g y)) h.many refl refl

pub all_known :
    {g : Option Function} {y : ListCall} → Here g y → IsShallow y →
    Stands y.surroundings (bound_point g y) × IsImage y.surroundings y.code (bound_point g y)
all_known {g} {y} h shallow =
    bound_known y.words 0 (list_of y) y.callee.parameters y.passed (listed_layer y) (caller_of y) y.others
    (entered_point (giving_of g y)) (binds h shallow)

pub copies_linked :
    {y : ListCall} {tail : Code} → HasCode y tail →
    Linked y.surroundings.links y.code (copies_index y.callee) (copies_code y.callee ++ behind_copies y.callee tail)
copies_linked {y} {tail} h =
    back_of (listing_of y.callee) (copies_code y.callee ++ behind_copies y.callee tail) h.begins

pub all_come :
    {g : Option Function} {y : ListCall} {tail : Code} → Here g y → HasCode y tail → IsShallow y →
    IsWithin y.point y.passed → (c : ℕ) (f : Family) →
    ((b : Base) → IsIn y.surroundings (entered_point (giving_of g y)) y.numbers (copies_index y.callee) b (f b)
    × KeepsList (list_of y) b (f b)) →
    Reach y.code c f (services_of (entered_point (giving_of g y))) (c + size_of (copies_code y.callee))
    (services_of (bound_point g y))
    (λ b z. IsIn y.surroundings (bound_point g y) y.numbers (variables_index y.callee) b z)
all_come {g} {y} {tail} h has shallow few c f there =
    let code = coded y.callee.environment y.callee.parameters h.parameters.few h.parameters.taken in
    let size = ap (λ t. size_of t) code in
    let l = subst (Linked y.surroundings.links y.code (copies_index y.callee)) code
    (front_of (copies_code y.callee) (behind_copies y.callee tail) (copies_linked has)) in
    let r = bound_comes y.words 0 (list_of y) y.callee.parameters y.passed (listed_layer y) (caller_of y) y.others
    (entered_point (giving_of g y)) c (copies_index y.callee) f (binds h shallow) few l there in
    subst (λ n. Reach y.code c f (services_of (entered_point (giving_of g y))) (c + n) (services_of (bound_point g y))
    (λ b z. IsIn y.surroundings (bound_point g y) y.numbers (copies_index y.callee + n) b z)) (sym size) r

remains_bound :
    {g : Option Function} {y : ListCall} → Here g y → IsShallow y → Remains (named_point y) (bound_point g y)
remains_bound {g} {y} h shallow =
    let x = beginning_of g y in
    let e = remains_entered (given_point y) x.head x.entry (listed_layer y) x.head.line in
    let r = bound_remains y.words 0 (list_of y) y.callee.parameters y.passed (listed_layer y) (caller_of y) y.others
    (given_point y) (entered_point (giving_of g y)) (binds h shallow) e (omega arith) in
    record {
      living = r.living;
      serials = r.serials;
      at = r.at;
      number = r.number;
      signatures = r.signatures;
      statics = r.statics;
      low = r.low;
      constants = r.constants;
      active = r.active;
      in_use = r.in_use;
    }

-- ---- where its variables have been made

pub record Entering (g : Option Function) (y : ListCall) (made : Point → Point) (tail : Code) : Type 0 where
  pub here : Here g y
  pub code : HasCode y tail
  pub shallow : IsShallow y
  pub within : IsWithin y.point y.passed
  pub beside : AreBeside g y made
  pub ending :
      Linked y.surroundings.links y.code y.callee.calling.end (ending_code (listed_layer y) (place_in g))
  pub word : IsWord (place_in g)
  pub long : size_of (ending_code (listed_layer y) (place_in g)) ≤ size_of tail

abbrev ending_of : Option Function → ListCall → Code
ending_of g y = ending_code (called_of g y).beginning.layer (place_in g)

ending_is : (g : Option Function) (y : ListCall) → ending_of g y ≡ ending_code (listed_layer y) (place_in g)
ending_is g y = ap (λ ψ. ending_code ψ (place_in g)) (layer_is y.callee.parameters y.passed (listed_layer y))

is_ending : {g : Option Function} {y : ListCall} {tail : Code} {made : Point → Point} → Entering g y made tail → IsEnding (called_of g y)
is_ending {g} {y} h =
    let same = layer_is y.callee.parameters y.passed (listed_layer y) in
    record {
      stands = (with_list_stands y.surroundings y.code y.point y.layer y.others (bound_waits y)
          (h.here.stands, h.here.image) h.here.newest).0;
      kind = ap (λ (ψ : Layer). ψ.kind) same;
      held = ap (λ (ψ : Layer). ψ.held) same;
      back = subst (λ n. n ≤ most_code) (sym (ap (λ (ψ : Layer). ψ.back) same)) h.here.coded.back;
      edits = ap (λ (ψ : Layer). ψ.edits) same;
      idle = h.here.idle;
      ending = subst (Linked y.surroundings.links y.code y.callee.calling.end) (sym (ending_is g y)) h.ending;
      word = h.word;
    }

pub is_giving :
    {g : Option Function} {y : ListCall} {tail : Code} {made : Point → Point} → Entering g y made tail →
    IsGiving (called_of g y) (giving_of g y)
is_giving {g} h = record { listing = listing h.here h.shallow; call = is_list_call g h.here.parameters h.code; ending = is_ending h }

pub first_among :
    {g : Option Function} {y : ListCall} {tail : Code} {made : Point → Point} (h : Entering g y made tail) →
    IsEarly y.surroundings y.point → (made (bound_point g y)).state.world.acts < y.surroundings.acts →
    IsAmong (list_block g y made) y.numbers (list_block g y made).first
first_among {g} {y} {made = made} h early less =
    let there = h.beside.stands (all_known h.here h.shallow) in
    let known = stands_acted y.callee.procedure.head.line there.0 there.1 less in
    let same = ap (λ (u : World). u.acts) h.beside.world in
    record {
      stands = known.0;
      image = known.1;
      later = later_same (list_block g y made).first;
      few = few_made y.surroundings y.point (list_block g y made).first early h.beside.few (omega (arith, same, less));
      entries = refl;
      others = λ n more. refl;
      words = h.here.words;
    }

pub first_begun :
    {g : Option Function} {y : ListCall} {tail : Code} {made : Point → Point} (h : Entering g y made tail) →
    Stands y.surroundings (list_block g y made).first → IsBegun (list_block g y made)
first_begun {g} {y} {made = made} h stands =
    let m = h.beside in
    let same = ap (λ (u : World). u.acts) m.world in
    let then' = made (bound_point g y) in
    let first = (list_block g y made).first in
    record {
      activation = m.activation;
      resumes = record {
        stands = stands;
        idle = m.idle;
        changed = m.changed;
        layers = m.layers;
        own = m.own;
        activations = m.activations;
        more = omega (arith, same);
      };
      acts = omega (arith, same);
      remains = remains_then (named_point y) then' first
          (m.remains (named_point y) (omega arith) (all_known h.here h.shallow).0 (remains_bound h.here h.shallow))
          (remains_acted then' counted y.callee.procedure.head.line);
      outer = tt;
    }

-- ---- what it means

pub body_means :
    {g : Option Function} {y : ListCall} {tail : Code} {made : Point → Point} → Entering g y made tail →
    M.block_body (at_line y.callee.around y.callee.procedure.head.line) y.callee.procedure.head
    y.callee.procedure.body (entry_of g y) y.surroundings.acts (entered_point (giving_of g y)).state
    ≡ flow_on y.surroundings.acts (act counted y.surroundings.acts (made (bound_point g y)).state)
    (λ q. behind_list (at_line y.callee.around y.callee.procedure.head.line) y.callee.procedure.body (is_value g))
unfolding M.block_body ◌>>=◌ ◌>>◌
body_means {g} {y} {made = made} h =
    let head = y.callee.procedure.head in
    let body = y.callee.procedure.body in
    let around = at_line y.callee.around head.line in
    let k = y.surroundings.acts in
    let next' : Unit {0} → Meaning (Unit {0}) = λ q. behind_list around body (is_value g) in
    let rest : Unit {0} → Meaning (Unit {0}) = λ q. M.entry_act head.kind >> behind_list around body (is_value g) in
    ap (λ flow. flow_on k flow (λ q. M.block_variables_made around head head.kind >> rest q))
    (bound_means y.words 0 (list_of y) y.callee.parameters y.passed (listed_layer y) (caller_of y) y.others
    (entered_point (giving_of g y)) k (binds h.here h.shallow) h.within)
    ∙ ap (λ flow. flow_on k flow rest) h.beside.means
    ∙ ap (λ flow. flow_on k flow next') (entry_acts head.kind k (made (bound_point g y)).state h.code.kind)

-- ---- the whole

-- what is asked of its body: from its first statement it comes to the block's end
abbrev pub BodyComes : Option Function → ListCall → (made : Point → Point) → Type 0
BodyComes g y made =
    IsBegun (list_block g y made) → IsAmong (list_block g y made) y.numbers (list_block g y made).first →
    (f : Family) → AreIn y.surroundings (list_block g y made).first y.numbers (body_index y.callee) f →
    Comes y.code 0 f (services_of (list_block g y made).first) (body_aims (called_of g y) left_over)
    (behind_list (at_line y.callee.around y.callee.procedure.head.line) y.callee.procedure.body (is_value g)
    y.surroundings.acts (list_block g y made).first.state)

pub list_runs :
    {g : Option Function} {y : ListCall} {tail : Code} {made : Point → Point} (credits wanted : ℕ) (f : Family)
    (h : Entering g y made tail) → BodyComes g y made →
    credits + 4 + size_of (taking_code y.callee tail) ≤ cost y.code →
    AreIn y.surroundings (given_point y) y.numbers y.callee.calling.call f →
    ((b : Base) → IsListing (given_point y) (beginning_of g y) (list_of y) b (f b)) →
    Comes y.code credits f (services_of (given_point y)) (behind_aims (called_of g y) wanted)
    (M.block_run y.callee.around (block_of y.callee.procedure) (entry_of g y) y.surroundings.acts y.point.state)
unfolding ◌>>◌
list_runs {g} {y} {tail} {made} credits wanted f h body_comes paid there gives =
    let w = y.surroundings in
    let c = y.callee in
    let k = called_of g y in
    let x = c.procedure in
    let one = act_code x.head.line in
    let body = stmts_code c.environment none_taken x.body in
    let copies = copies_code c in
    let behind' = x.variables ++ (one ++ (body ++ tail)) in
    let l0 = copies_linked h.code in
    let l1 = back_of copies behind' l0 in
    let l2 = back_of x.variables (one ++ (body ++ tail)) l1 in
    let n0 = size_append (listing_of c) (copies ++ behind') in
    let n1 = size_append copies behind' in
    let n2 = size_append x.variables (one ++ (body ++ tail)) in
    let n3 = size_append one (body ++ tail) in
    let n4 = size_append body tail in
    let long = h.long in
    let ends' = ap (λ t. size_of t) (ending_is g y) in
    let around' = at_line c.around x.head.line in
    let next' : Unit {0} → Meaning (Unit {0}) = λ u. behind_list around' x.body (is_value g) in
    let start = entered_point (giving_of g y) in
    let then' = made (bound_point g y) in
    let known = all_known h.here h.shallow in
    let there' = h.beside.stands known in
    let closed = body_closed k left_over in
    let ends = size_of (ending_code k.beginning.layer (place_in g)) in
    let c0 = credits + (left_over + ends) + 2 + size_of (listing_of c) in
    subst (λ flow. Comes y.code credits f (services_of (given_point y)) (behind_aims k wanted) flow)
    (sym (run_means c.around x.head x.body (entry_of g y) w.acts y.point.state h.code.kind h.shallow))
    (comes_early w refl there
    (λ early.
    list_calls_return k (giving_of g y) (M.block_body around' x.head x.body (entry_of g y)) credits left_over
    wanted f (is_giving h)
    (λ g1 at.
    subst (λ flow. Comes y.code c0 g1 (services_of start) (body_aims k left_over) flow) (sym (body_means h))
    (onward closed
    (all_come h.here h.code h.shallow h.within c0 g1 at)
    (λ g2 at2.
    onward closed
    (h.beside.comes (c0 + size_of copies) g2 known (front_of x.variables (one ++ (body ++ tail)) l1) at2)
    (λ g3 at3.
    comes_on w.acts (act counted w.acts then'.state) next'
    (act_comes (before_closed w.acts next' closed) x.head.line (c0 + size_of copies + size_of x.variables) 0 g3 there'
    (h.here.coded.line, h.code.acts, omega (arith, n0, n1, n2, n3, n4, long, ends', paid))
    (front_of one (body ++ tail) l2) at3
    (λ g4 less at4.
    let o = first_among h early less in
    body_comes (first_begun h o.stands) o g4 at4)))))) there gives))
