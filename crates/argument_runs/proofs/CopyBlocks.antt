-- A procedure with a parameter that is copied comes behind its call, if its statements do what they mean.
use Rattle.std.proofs.Common.{◌≡◌, ℕ, ◌+◌, ◌*◌, ◌%◌, ◌^◌, ◌<◌, ◌≤◌, [], ◌∷◌, ◌++◌, length, Option}
use Rattle.std.proofs.Common.{None, Bool, true, refl, sym, ap, ◌∙◌, subst, arith}
use Rattle.std.specs.Prelude.{cond, nat_lt}
use Rattle.rv_meaning.specs.Words.{word}
use Rattle.pli_typing.specs.TypedTree as Y
use Rattle.pli_meaning.specs.BasicValues.{BasicValue, VariableName}
use Rattle.pli_meaning.specs.declared.outcome.End.TheVariants as N
use Rattle.pli_meaning.specs.declared.outcome.Limit.TheVariants as L
use Rattle.pli_meaning.specs.Control.{Flow, Meaning, Normal, act, choose, finish, flow_on, give, leaving, left, looked}
use Rattle.pli_meaning.specs.Control.{stored, ◌>>=◌, ◌>>◌}
use Rattle.pli_meaning.specs.Executing as M
use Rattle.pli_meaning.specs.Executing.{labels_in, with_activation}
use Rattle.pli_meaning.specs.Making as K
use Rattle.pli_meaning.specs.Numbers.{is_of_precision}
use Rattle.pli_meaning.specs.Raising.{Around, Entry, at_line}
use Rattle.pli_meaning.specs.StorageState.{State, most_activations, newest_ended}
use Rattle.pli_meaning.specs.World.{counted}
use Rattle.pli_serving.specs.Blocks as B
use Rattle.pli_coding.specs.Allocating.{act_code}
use Rattle.pli_coding.specs.Assembly.{CallTo, Code, Mark, ProcedureEntry, ReturnPlace, size_of}
use Rattle.pli_coding.specs.Entries.{arguments_copied}
use Rattle.pli_coding.specs.Environments.{none_taken}
use Rattle.pli_coding.specs.Frames.{fixed_size}
use Rattle.pli_coding.specs.Linking.{place_of}
use Rattle.pli_coding.specs.Statements.{stmts_code}
use Rattle.activation_relation.specs.Frames.{lower_end}
use Rattle.activation_relation.specs.Layers.{services_of}
use Rattle.activation_relation.specs.Points.{AreFew, IsEarly, Stands}
use Rattle.activation_relation.specs.Remaining.{Remains}
use Rattle.activation_relation.proofs.Remaining.{remains_entered, remains_made}
use Rattle.activation_relation.proofs.Returning.{later_same}
use Rattle.activation_relation.proofs.Serials.{few_made, few_small}
use Rattle.run_steps.specs.Engine.{Base}
use Rattle.run_steps.specs.Items.{Linked}
use Rattle.run_steps.proofs.Jumps.{back_of, front_of}
use Rattle.run_steps.proofs.Linking.{size_append}
use Rattle.run_steps.specs.Reach.{Comes, Family, cost}
use Rattle.run_steps.proofs.Reach.{before_closed, comes_on, onward}
use Rattle.block_runs.specs.Beginnings.{IsBeginning, begun_point}
use Rattle.block_runs.specs.Bodies.{Function, IsEnding, behind_aims, body_aims, place_in}
use Rattle.block_runs.specs.Endings.{IsWord, ending_code}
use Rattle.block_runs.specs.Machines.{AreIn, IsImage}
use Rattle.block_runs.proofs.CallStatements.{comes_map}
use Rattle.block_runs.proofs.EmptyMeaning.{own_return}
use Rattle.block_runs.proofs.Places.{bounds}
use Rattle.block_runs.proofs.PointActs.{act_comes, stands_acted}
use Rattle.program_runs.specs.Calls.{left_over}
use Rattle.program_runs.specs.Procedures.{IsCoded, block_of, end_of, frame_for}
use Rattle.program_runs.specs.Statements.{EachDoes, IsAmong, IsBegun, statement_aims}
use Rattle.program_runs.proofs.Calls.{body_closed, entry_means}
use Rattle.program_runs.proofs.JumpsOut.{no_jump}
use Rattle.program_runs.proofs.Lists.{list_does}
use Rattle.program_runs.proofs.Statements.{at_end}
use Rattle.argument_runs.specs.Copies.{IsCopied, IsCopy, copy_generation, copy_made_of}
use Rattle.argument_runs.specs.CopyCalls.{CopyCall, HasRoomFor, IsCopying, beginning_of, body_index}
use Rattle.argument_runs.specs.CopyCalls.{called_of, copied_point, copies_index, copy_block, copy_in, copying_code}
use Rattle.argument_runs.specs.CopyCalls.{entry_of, given_point, giving_of, is_value, layer_of, listed_layer}
use Rattle.argument_runs.specs.CopyCalls.{listing_of, named_point}
use Rattle.argument_runs.specs.ListBeginnings.{IsListCall, IsListing, Listing}
use Rattle.argument_runs.specs.ListCalls.{IsGiving, entered_point}
use Rattle.argument_runs.specs.Lists.{given_waits, list_under, named_waits}
use Rattle.argument_runs.proofs.Copies.{copies_come}
use Rattle.argument_runs.proofs.CopyPoints.{copied_means, copied_stands}
use Rattle.argument_runs.proofs.GivenLists.{with_list_stands}
use Rattle.argument_runs.proofs.ListBeginnings.{listed_stands}
use Rattle.argument_runs.proofs.ListCalls.{list_calls_return}
use Rattle.block_runs.proofs.Early.{comes_early}

-- ---- where it is called

-- what is asked of the code of a procedure, or of a function, behind whose copy other code stands
pub record Here (g : Option Function) (y : CopyCall) : Type 0 where
  pub stands : Stands y.surroundings y.point
  pub image : IsImage y.surroundings y.code y.point
  pub few : AreFew y.surroundings y.point
  pub room : HasRoomFor y.surroundings y.point y.callee y.layer y.others
  pub wide : is_of_precision 31 y.value ≡ true
  pub words : (n : ℕ) → y.numbers n < 2 ^ 32
  pub each : 1 ≤ y.surroundings.serials
  pub small' : y.surroundings.serials + 1 < 2 ^ 40
  pub coded : IsCoded y.callee.procedure y.callee.calling
  pub calls :
      Linked y.surroundings.links y.code y.callee.calling.call
      (CallTo (ProcedureEntry y.callee.procedure.head.number) ∷ [])
  pub place :
      place_of y.surroundings.links (ProcedureEntry y.callee.procedure.head.number) ≡ 4 * y.callee.calling.entry
  pub copied : IsCopied y.callee.environment (0 ∷ []) y.callee.declared (copy_in y)
  pub behind : Code
  pub begins :
      Linked y.surroundings.links y.code y.callee.calling.entry
      (listing_of y.callee.procedure ++ (arguments_copied y.callee.environment (0 ∷ []) ++ behind))
  pub ending :
      Linked y.surroundings.links y.code y.callee.calling.end
      (ending_code (called_of g y).beginning.layer (place_in g))
  pub word : IsWord (place_in g)

given_known :
    {g : Option Function} {y : CopyCall} → Here g y →
    Stands y.surroundings (given_point y) × IsImage y.surroundings y.code (given_point y)
given_known {g} {y} h =
    with_list_stands y.surroundings y.code y.point y.layer y.others (given_waits (word y.value)) (h.stands, h.image)
    h.room.newest

-- its frame and the copy fit between the stacks
pub room_here :
    (y : CopyCall) → HasRoomFor y.surroundings y.point y.callee y.layer y.others →
    (layer_of y).top + 16 ≤ (layer_of y).lower
room_here y h =
    let x = y.callee.procedure in
    let parts = y.surroundings.parts in
    subst (λ ls. frame_for parts ls x + fixed_size x.head.level 1 + 16 ≤ lower_end parts ls) h.newest h.room

begins :
    {g : Option Function} {y : CopyCall} → Here g y →
    IsBeginning y.surroundings (given_point y) y.numbers (beginning_of g y)
begins {g} {y} h =
    let room = room_here y h.room in
    record {
      next = record {
        layer = record { level = refl; runs = refl; units = refl; parent = h.room.parent };
        laid = record {
          above = refl;
          fixed = omega arith;
          falls = omega arith;
          free = omega (arith, room);
          saved = h.coded.saved;
          told = λ n v e. absurd (cc e);
        };
        entries = ([], refl);
        edits = refl;
        over = (given_known h).0.over;
      };
      entering = record {
        entered = ap (λ o. B.entered_of 0 y.point.control.line o) h.room.idle;
        given = refl;
        arguments = [];
        below = refl;
        many = refl;
        places = refl;
        units = refl;
      };
      shallow = h.room.shallow;
      kind = refl;
      level = h.coded.level;
      line = h.coded.line;
      few = omega arith;
      back = h.coded.back;
      held = refl;
      words = λ n less. h.words n;
      waits = λ n. refl;
      told = λ n. refl;
      list = refl;
      top = refl;
      lower = refl;
    }

listing :
    {g : Option Function} {y : CopyCall} → Here g y →
    Listing y.surroundings y.code (given_point y) y.numbers (beginning_of g y) (list_under y.layer.at)
listing {g} {y} h =
    let known = given_known h in
    let o = bounds y.surroundings.parts (given_point y).control.layers known.0.laid in
    let above = o.above in
    record {
      stands = known.0;
      image = known.1;
      beginning = begins h;
      some = omega arith;
      below = omega (arith, above);
    }

-- ---- its code

is_list_call :
    {g : Option Function} {y : CopyCall} → Here g y →
    IsListCall y.surroundings y.code (beginning_of g y) (0 ∷ []) y.callee.calling.call y.callee.calling.entry
is_list_call {y = y} h =
    record {
      calls = h.calls;
      place = h.place;
      begins = front_of (listing_of y.callee.procedure) (arguments_copied y.callee.environment (0 ∷ []) ++ h.behind)
          h.begins;
      back = refl;
      some = tt;
    }

is_ending : {g : Option Function} {y : CopyCall} → Here g y → IsEnding (called_of g y)
is_ending {y = y} h =
    record {
      stands = (with_list_stands y.surroundings y.code y.point y.layer y.others
          (named_waits (y.point.state.serials + 1) y.callee.number) (h.stands, h.image) h.room.newest).0;
      kind = refl;
      held = refl;
      back = h.coded.back;
      edits = refl;
      idle = h.room.idle;
      ending = h.ending;
      word = h.word;
    }

pub is_giving : {g : Option Function} {y : CopyCall} → Here g y → IsGiving (called_of g y) (giving_of g y)
is_giving h = record { listing = listing h; call = is_list_call h; ending = is_ending h }

-- ---- its copy

pub entered_known :
    {g : Option Function} {y : CopyCall} → Here g y →
    Stands y.surroundings (entered_point (giving_of g y))
    × IsImage y.surroundings y.code (entered_point (giving_of g y))
entered_known h = listed_stands (listing h)

pub is_copy :
    {g : Option Function} {y : CopyCall} → Here g y →
    IsCopy y.surroundings (entered_point (giving_of g y)) (listed_layer y) y.layer y.others (copy_in y)
is_copy {g} {y} h =
    let w = y.surroundings in
    record {
      newest = refl;
      list = refl;
      words = h.room.words;
      wide = h.wide;
      fits = room_here y h.room;
      even = subst (λ ls. lower_end w.parts ls % 16 ≡ 0) h.room.newest h.room.even;
      low = h.room.low;
      shape = h.room.shape;
      number = h.room.number;
      serial = few_small w y.point 1 h.few h.small';
      limit = h.room.limit;
    }

pub copied_known :
    {g : Option Function} {y : CopyCall} → Here g y →
    Stands y.surroundings (copied_point g y) × IsImage y.surroundings y.code (copied_point g y)
copied_known {g} {y} h =
    copied_stands y.surroundings y.code (entered_point (giving_of g y)) (listed_layer y) y.layer y.others (copy_in y)
    (entered_known h) (is_copy h)

-- ---- its first statement

pub first_among :
    {g : Option Function} {y : CopyCall} (h : Here g y) → IsEarly y.surroundings y.point →
    (copied_point g y).state.world.acts < y.surroundings.acts →
    IsAmong (copy_block g y) y.numbers (copy_block g y).first
first_among {g} {y} h early less =
    let w = y.surroundings in
    let known = stands_acted y.callee.procedure.head.line (copied_known h).0 (copied_known h).1 less in
    let each = h.each in
    record {
      stands = known.0;
      image = known.1;
      later = later_same (copy_block g y).first;
      few = few_made w y.point (copy_block g y).first early (omega (arith, each)) less;
      entries = refl;
      others = λ n more. refl;
      words = h.words;
    }

-- what lived where it was called lives on
remains_first : {g : Option Function} {y : CopyCall} → Here g y → Remains (named_point y) (copy_block g y).first
remains_first {g} {y} h =
    let p = y.point in
    let x = beginning_of g y in
    let q = begun_point x p in
    let m = copy_made_of (listed_layer y) (copy_in y) in
    let r = remains_made p q m (remains_entered p x.head x.entry x.layer x.head.line)
    (record {
      falling = (entered_known h).0.lives.falling;
      numbered = (entered_known h).0.lives.numbered;
      extents = (entered_known h).0.lives.extents;
    })
    (omega arith) in
    record {
      living = r.living;
      serials = r.serials;
      at = r.at;
      number = r.number;
      signatures = r.signatures;
      statics = r.statics;
      low = r.low;
      constants = r.constants;
      active = r.active;
      in_use = r.in_use;
    }

pub first_begun :
    {g : Option Function} {y : CopyCall} (h : Here g y) → Stands y.surroundings (copy_block g y).first →
    IsBegun (copy_block g y)
first_begun {g} {y} h stands =
    let x = beginning_of g y in
    let φ = listed_layer y in
    record {
      activation = record (M.activation_of x.head x.entry (length y.point.state.activations + 1)) {
        bindings = record {
          variable = 0;
          name = VariableName (y.point.state.serials + 1);
          shape = (copy_generation (copy_in y)).shape;
        } ∷ [];
      };
      resumes = record {
        stands = stands;
        idle = refl;
        changed = record {
          units = φ.units;
          waits = φ.waits;
          told = φ.told;
          top = φ.top;
          lower = (copy_made_of φ (copy_in y)).lower;
          carried = φ.carried;
        };
        layers = refl;
        own = [];
        activations = refl;
        more = omega arith;
      };
      acts = omega arith;
      remains = remains_first h;
      outer = tt;
    }

-- ---- what it means

pub run_means :
    (around : Around) (head : Y.BlockHead) (body : Y.Stmts) (entry : Entry) (k : ℕ) (s : State) →
    head.kind ≡ Y.ProcedureBlock → nat_lt (length s.activations) most_activations ≡ true →
    M.block_run around (Y.BlockOf head body) entry k s
    ≡ left true newest_ended
    (M.block_body (at_line around head.line) head body entry k (with_activation head entry s))
unfolding M.block_run looked stored choose leaving ◌>>=◌ ◌>>◌
run_means around head body entry k s kind few =
    let s' = with_activation head entry s in
    let around' = at_line around head.line in
    let run : Bool → Flow (Option BasicValue) = λ q. cond q
    (left (M.is_own_return head.kind) newest_ended (M.block_body around' head body entry k s'))
    (finish (N.Limit L.Depth) k s) in
    ap run few
    ∙ ap (λ q. left q newest_ended (M.block_body around' head body entry k s')) (own_return head.kind kind)

-- behind the copy, as it does without one
abbrev pub behind_list : Around → Y.Stmts → (is_function : Bool) → Meaning (Unit {0})
behind_list around body q = M.block_list around body q

-- beside its parameter it declares nothing
abbrev pub MakesNone : CopyCall → Type 0
MakesNone y =
    (k : ℕ) (s : State) →
    M.block_variables_made (at_line y.callee.around y.callee.procedure.head.line) y.callee.procedure.head
    y.callee.procedure.head.kind k s
    ≡ Normal tt s

pub body_means :
    {g : Option Function} {y : CopyCall} → Here g y → MakesNone y →
    M.block_body (at_line y.callee.around y.callee.procedure.head.line) y.callee.procedure.head
    y.callee.procedure.body (entry_of g y) y.surroundings.acts (entered_point (giving_of g y)).state
    ≡ flow_on y.surroundings.acts
    (M.entry_act y.callee.procedure.head.kind y.surroundings.acts (copied_point g y).state)
    (λ q. behind_list (at_line y.callee.around y.callee.procedure.head.line) y.callee.procedure.body (is_value g))
unfolding M.block_body K.parameters_bound K.parameter_bound give ◌>>=◌ ◌>>◌
body_means {g} {y} h none =
    let head = y.callee.procedure.head in
    let body = y.callee.procedure.body in
    let around = at_line y.callee.around head.line in
    let k = y.surroundings.acts in
    let s = (copied_point g y).state in
    let rest : Unit {0} → Meaning (Unit {0}) =
    λ q. M.entry_act head.kind >> behind_list around body (is_value g) in
    ap (λ flow. flow_on k (flow_on k flow (λ q. K.parameters_bound [] []))
    (λ q. M.block_variables_made around head head.kind >> rest q))
    (copied_means y.surroundings (entered_point (giving_of g y)) (listed_layer y) y.layer y.others (copy_in y) k
    (is_copy h))
    ∙ ap (λ flow. flow_on k flow rest) (none k s)

-- ---- a procedure's statements, from behind the act of its entry

abbrev pub behind_copy : CopyCall → Code
behind_copy y =
    let x = y.callee.procedure in
    act_code x.head.line
    ++ (stmts_code y.callee.environment none_taken x.body ++ (Mark (ReturnPlace x.head.number) ∷ end_of x))

pub body_goes :
    (y : CopyCall) (callee : IsCopying y.surroundings y.code y.callee) (f : Family) → IsBegun (copy_block None y) →
    IsAmong (copy_block None y) y.numbers (copy_block None y).first →
    EachDoes (copy_block None y) (labels_in y.callee.procedure.body ++ []) y.callee.procedure.body (body_index y.callee)
    left_over →
    y.surroundings.acts < y.callee.around.turns + (copy_block None y).first.state.world.acts →
    AreIn y.surroundings (copy_block None y).first y.numbers (body_index y.callee) f →
    Comes y.code 0 f (services_of (copy_block None y).first) (body_aims (called_of None y) left_over)
    (M.list (at_line y.callee.around y.callee.procedure.head.line) y.callee.procedure.body y.surroundings.acts
    (copy_block None y).first.state)
body_goes y callee f b o each few there =
    let k = copy_block None y in
    let c = y.callee in
    let x = c.procedure in
    let one = act_code x.head.line in
    let body = stmts_code c.environment none_taken x.body in
    let tail = Mark (ReturnPlace x.head.number) ∷ end_of x in
    let copies = arguments_copied c.environment (0 ∷ []) in
    let l0 = back_of copies (behind_copy y) (back_of (listing_of x) (copies ++ behind_copy y) callee.stands) in
    let l1 = back_of one (body ++ tail) l0 in
    let l2 = front_of body tail l1 in
    let inside = l2.inside in
    let flow = M.list k.around x.body y.surroundings.acts k.first.state in
    let acts = k.first.state.world.acts in
    comes_map (statement_aims k [] acts c.calling.end left_over left_over) (body_aims k.call left_over) refl flow
    (λ c' f' v' r s q. at_end b refl (omega arith) q)
    (λ c' f' v' height label s q. no_jump refl q)
    (λ c' f' v' r s q. q.to)
    (subst (λ j. Comes y.code 0 f (services_of k.first) (statement_aims k [] acts j left_over left_over) flow)
    (sym callee.end)
    (list_does k [] x.body (body_index c) left_over k.first y.numbers 0 left_over f b few each callee.labels o l2
    (omega arith, omega (arith, inside)) there))

-- what is asked of its body: from its first statement it comes to the block's end
abbrev pub BodyComes : CopyCall → Type 0
BodyComes y =
    IsBegun (copy_block None y) → IsAmong (copy_block None y) y.numbers (copy_block None y).first → (f : Family) →
    AreIn y.surroundings (copy_block None y).first y.numbers (body_index y.callee) f →
    Comes y.code 0 f (services_of (copy_block None y).first) (body_aims (called_of None y) left_over)
    (M.list (at_line y.callee.around y.callee.procedure.head.line) y.callee.procedure.body y.surroundings.acts
    (copy_block None y).first.state)

-- ---- the whole

pub copy_runs :
    {y : CopyCall} (credits wanted : ℕ) (f : Family) → Here None y → IsCopying y.surroundings y.code y.callee →
    BodyComes y →
    credits + 4 + size_of (copying_code y.callee.environment y.callee.procedure) ≤ cost y.code →
    AreIn y.surroundings (given_point y) y.numbers y.callee.calling.call f →
    ((b : Base) → IsListing (given_point y) (beginning_of None y) (list_under y.layer.at) b (f b)) →
    Comes y.code credits f (services_of (given_point y)) (behind_aims (called_of None y) wanted)
    (M.block_run y.callee.around (block_of y.callee.procedure) (entry_of None y) y.surroundings.acts y.point.state)
unfolding ◌>>◌
copy_runs {y} credits wanted f h callee body_comes paid there gives =
    let w = y.surroundings in
    let c = y.callee in
    let k = called_of None y in
    let x = c.procedure in
    let one = act_code x.head.line in
    let body = stmts_code c.environment none_taken x.body in
    let tail = Mark (ReturnPlace x.head.number) ∷ end_of x in
    let copies = arguments_copied c.environment (0 ∷ []) in
    let l0 = back_of (listing_of x) (copies ++ behind_copy y) callee.stands in
    let l1 = back_of copies (behind_copy y) l0 in
    let n0 = size_append (listing_of x) (copies ++ behind_copy y) in
    let n1 = size_append copies (behind_copy y) in
    let n2 = size_append one (body ++ tail) in
    let n3 = size_append body tail in
    let around' = at_line c.around x.head.line in
    let next' : Unit {0} → Meaning (Unit {0}) = λ u. M.list around' x.body in
    let start = entered_point (giving_of None y) in
    let closed = body_closed k left_over in
    let c0 = credits + (left_over + size_of (end_of x)) + 2 + size_of (listing_of x) in
    subst (λ flow. Comes y.code credits f (services_of (given_point y)) (behind_aims k wanted) flow)
    (sym (run_means c.around x.head x.body (entry_of None y) w.acts y.point.state callee.kind h.room.shallow))
    (comes_early w refl there
    (λ early.
    list_calls_return k (giving_of None y) (M.block_body around' x.head x.body (entry_of None y)) credits left_over
    wanted f (is_giving h)
    (λ g at.
    subst (λ flow. Comes y.code c0 g (services_of start) (body_aims k left_over) flow)
    (sym (body_means h callee.variables
    ∙ entry_means around' x.head.kind x.body w.acts (copied_point None y).state callee.kind))
    (onward closed
    (copies_come c0 (copies_index c) g (entered_known h) (is_copy h) h.copied
    (front_of copies h.behind (back_of (listing_of x) (copies ++ h.behind) h.begins)) at)
    (λ g' at'.
    comes_on w.acts (act counted w.acts (copied_point None y).state) next'
    (act_comes (before_closed w.acts next' closed) x.head.line (c0 + size_of copies) 0 g' (copied_known h)
    (h.coded.line, callee.acts, omega (arith, n0, n1, n2, n3, paid)) (front_of one (body ++ tail) l1) at'
    (λ g'' less at''.
    let o = first_among h early less in
    body_comes (first_begun h o.stands) o g'' at''))))) there gives))
