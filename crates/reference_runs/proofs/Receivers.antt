-- A procedure with a parameter by reference comes behind its call, if its statements do what they mean.
use Rattle.std.proofs.Common.{◌≡◌, ℕ, ◌+◌, ◌^◌, ◌<◌, ◌≤◌, List, [], ◌∷◌, ◌++◌, length}
use Rattle.std.proofs.Common.{false, refl, sym, ap, ◌∙◌, subst, arith}
use Rattle.std.specs.Prelude.{pos, ◌==◌}
use Rattle.rv_meaning.specs.declared.instr.BranchTest.TheVariants as Test
use Rattle.rv_meaning.specs.Memory.{load}
use Rattle.rv_meaning.specs.Words.{sum, word}
use Rattle.pli_meaning.specs.Control.{Meaning, act, flow_on, give, stored, ◌>>=◌, ◌>>◌}
use Rattle.pli_meaning.specs.Executing as M
use Rattle.pli_meaning.specs.Executing.{labels_in}
use Rattle.pli_meaning.specs.Making as K
use Rattle.pli_meaning.specs.Raising.{at_line}
use Rattle.pli_meaning.specs.StorageState.{Activation}
use Rattle.pli_meaning.specs.World.{World, counted}
use Rattle.pli_serving.specs.Blocks as B
use Rattle.pli_coding.specs.Allocating.{act_code}
use Rattle.pli_coding.specs.Assembly.{Code, Mark, ReturnPlace, size_of}
use Rattle.pli_coding.specs.Entries.{arguments_copied}
use Rattle.pli_coding.specs.Environments.{none_taken}
use Rattle.pli_coding.specs.Frames.{fixed_size}
use Rattle.pli_coding.specs.Instructions.{skip_where}
use Rattle.pli_coding.specs.Registers.{u4, zero_register}
use Rattle.pli_coding.specs.Statements.{stmts_code}
use Rattle.storage_relation.specs.Served.{Holds}
use Rattle.storage_relation.proofs.Making.{same_held}
use Rattle.activation_relation.specs.Frames.{FramesStand, frame_under, lower_end, word_place}
use Rattle.activation_relation.specs.Layers.{now, services_of}
use Rattle.activation_relation.specs.Points.{AreFew, Stands, IsEarly}
use Rattle.activation_relation.specs.Remaining.{Remains}
use Rattle.activation_relation.proofs.FrameWords.{words_covered}
use Rattle.activation_relation.proofs.Remaining.{remains_acted, remains_entered, remains_then}
use Rattle.activation_relation.proofs.Returning.{later_same}
use Rattle.activation_relation.proofs.Serials.{few_made}
use Rattle.activation_relation.proofs.WaitingWords.{frame_changed}
use Rattle.run_steps.specs.Bodies.{Known}
use Rattle.run_steps.proofs.Bodies.{at_place, zero_is}
use Rattle.run_steps.specs.Engine.{Base}
use Rattle.run_steps.specs.Items.{At, Linked}
use Rattle.run_steps.proofs.Items.{straight}
use Rattle.run_steps.proofs.Jumps.{back_of, front_of, linked_at, rest_of, skip_taken}
use Rattle.run_steps.proofs.Linking.{size_append}
use Rattle.run_steps.specs.Reach.{Comes, Family, Reach, cost, reached}
use Rattle.run_steps.proofs.Reach.{before_closed, comes_on, onward, reach_map, reach_then, reached_holds}
use Rattle.run_steps.proofs.Reaching.{reach_moved}
use Rattle.image_runs.specs.Runs.{Whole}
use Rattle.block_runs.specs.Beginnings.{IsBeginning}
use Rattle.block_runs.specs.Bodies.{IsEnding, behind_aims, body_aims}
use Rattle.block_runs.specs.Machines.{AreIn, IsImage, IsIn}
use Rattle.block_runs.proofs.CallStatements.{comes_map}
use Rattle.block_runs.proofs.Places.{IsFrame, bounds, newest_frame, word_in}
use Rattle.block_runs.proofs.PointActs.{act_comes, stands_acted}
use Rattle.block_runs.proofs.PointGrounds.{in_known, known_in, point_frame, point_ground}
use Rattle.program_runs.specs.Calls.{left_over}
use Rattle.program_runs.specs.Procedures.{block_of, end_of, frame_for}
use Rattle.program_runs.specs.Statements.{EachDoes, IsAmong, IsBegun, statement_aims}
use Rattle.program_runs.proofs.Calls.{body_closed, entry_means}
use Rattle.program_runs.proofs.JumpsOut.{no_jump}
use Rattle.program_runs.proofs.Lists.{list_does}
use Rattle.program_runs.proofs.Statements.{at_end}
use Rattle.argument_runs.specs.Copies.{Copy}
use Rattle.argument_runs.specs.CopyCalls.{listing_of}
use Rattle.argument_runs.specs.ListBeginnings.{IsListCall, IsListing, KeepsList, Listing}
use Rattle.argument_runs.specs.ListCalls.{IsGiving, entered_point}
use Rattle.argument_runs.specs.Lists.{list_under}
use Rattle.argument_runs.proofs.CopyBlocks.{behind_list, run_means}
use Rattle.argument_runs.proofs.CopyCode.{coded, flag_code, making_code}
use Rattle.argument_runs.proofs.GivenLists.{with_list_stands}
use Rattle.argument_runs.proofs.ListBeginnings.{listed_stands}
use Rattle.argument_runs.proofs.ListCalls.{list_calls_return}
use Rattle.reference_runs.specs.Receivers.{HasRoomFor, IsReceiver, MadeFor, ReferenceCall, act_index, activation_in}
use Rattle.reference_runs.specs.Receivers.{beginning_of, given_layer}
use Rattle.reference_runs.specs.Receivers.{body_index, bound_point, called_of, copies_index, entry_of, given_point}
use Rattle.reference_runs.specs.Receivers.{giving_of, layer_of, listed_layer, receiving_code, reference_block}
use Rattle.reference_runs.specs.Receivers.{variables_index}
use Rattle.reference_runs.specs.References.{referred_waits}
use Rattle.block_runs.proofs.Early.{comes_early}

-- ---- where it is called

pub record Here (y : ReferenceCall) : Type 0 where
  pub stands : Stands y.surroundings y.point
  pub image : IsImage y.surroundings y.code y.point
  pub few : AreFew y.surroundings y.point
  pub room : HasRoomFor y.surroundings y.point y.callee y.layer y.others
  pub words : (n : ℕ) → y.numbers n < 2 ^ 32
  pub callee : IsReceiver y.surroundings y.code y.callee
  pub made : MadeFor y

given_known :
    {y : ReferenceCall} → Here y →
    Stands y.surroundings (given_point y) × IsImage y.surroundings y.code (given_point y)
given_known {y} h =
    with_list_stands y.surroundings y.code y.point y.layer y.others (referred_waits y.reference) (h.stands, h.image)
    h.room.newest

-- its frame fits between the stacks
room_here :
    (y : ReferenceCall) → HasRoomFor y.surroundings y.point y.callee y.layer y.others →
    (layer_of y).top ≤ (layer_of y).lower
room_here y h =
    let x = y.callee.procedure in
    let parts = y.surroundings.parts in
    subst (λ ls. frame_for parts ls x + fixed_size x.head.level 1 ≤ lower_end parts ls) h.newest h.room

begins : {y : ReferenceCall} → Here y → IsBeginning y.surroundings (given_point y) y.numbers (beginning_of y)
begins {y} h =
    let room = room_here y h.room in
    record {
      next = record {
        layer = record { level = refl; runs = refl; units = refl; parent = h.room.parent };
        laid = record {
          above = refl;
          fixed = omega arith;
          falls = omega arith;
          free = room;
          saved = h.callee.coded.saved;
          told = λ n v e. absurd (cc e);
        };
        entries = ([], refl);
        edits = refl;
        over = (given_known h).0.over;
      };
      entering = record {
        entered = ap (λ o. B.entered_of 0 y.point.control.line o) h.room.idle;
        given = refl;
        arguments = [];
        below = refl;
        many = refl;
        places = refl;
        units = refl;
      };
      shallow = h.room.shallow;
      kind = refl;
      level = h.callee.coded.level;
      line = h.callee.coded.line;
      few = omega arith;
      back = h.callee.coded.back;
      held = refl;
      words = λ n less. h.words n;
      waits = λ n. refl;
      told = λ n. refl;
      list = refl;
      top = refl;
      lower = refl;
    }

listing :
    {y : ReferenceCall} → Here y →
    Listing y.surroundings y.code (given_point y) y.numbers (beginning_of y) (list_under y.layer.at)
listing {y} h =
    let known = given_known h in
    let o = bounds y.surroundings.parts (given_point y).control.layers known.0.laid in
    let above = o.above in
    record {
      stands = known.0;
      image = known.1;
      beginning = begins h;
      some = omega arith;
      below = omega (arith, above);
    }

-- ---- its code

abbrev pub behind_act : ReferenceCall → Code
behind_act y =
    let x = y.callee.procedure in
    stmts_code y.callee.environment none_taken x.body ++ (Mark (ReturnPlace x.head.number) ∷ end_of x)

abbrev pub behind_variables : ReferenceCall → Code
behind_variables y = act_code y.callee.procedure.head.line ++ behind_act y

abbrev pub behind_copies : ReferenceCall → Code
behind_copies y = y.callee.procedure.variables ++ behind_variables y

abbrev copies_of : ReferenceCall → Code
copies_of y = arguments_copied y.callee.environment (0 ∷ [])

-- where each part of it stands
record Parts (y : ReferenceCall) : Type 0 where
  listing : Linked y.surroundings.links y.code y.callee.calling.entry (listing_of y.callee.procedure)
  copies : Linked y.surroundings.links y.code (copies_index y.callee) (copies_of y)
  variables : Linked y.surroundings.links y.code (variables_index y.callee) y.callee.procedure.variables
  act : Linked y.surroundings.links y.code (act_index y.callee) (act_code y.callee.procedure.head.line)
  body :
      Linked y.surroundings.links y.code (body_index y.callee)
      (stmts_code y.callee.environment none_taken y.callee.procedure.body)
  end : Linked y.surroundings.links y.code y.callee.calling.end (end_of y.callee.procedure)

parts_of : {y : ReferenceCall} → IsReceiver y.surroundings y.code y.callee → Parts y
parts_of {y} c =
    let x = y.callee.procedure in
    let body = stmts_code y.callee.environment none_taken x.body in
    let mark = Mark (ReturnPlace x.head.number) in
    let l0 = back_of (listing_of x) (copies_of y ++ behind_copies y) c.stands in
    let l1 = back_of (copies_of y) (behind_copies y) l0 in
    let l2 = back_of x.variables (behind_variables y) l1 in
    let l3 = back_of (act_code x.head.line) (behind_act y) l2 in
    let l4 = rest_of mark (end_of x) (back_of body (mark ∷ end_of x) l3) in
    let e = c.end in
    record {
      listing = front_of (listing_of x) (copies_of y ++ behind_copies y) c.stands;
      copies = front_of (copies_of y) (behind_copies y) l0;
      variables = front_of x.variables (behind_variables y) l1;
      act = front_of (act_code x.head.line) (behind_act y) l2;
      body = front_of body (mark ∷ end_of x) l3;
      end = linked_at y.callee.calling.end (end_of x) (omega (arith, e)) l4;
    }

-- all of it
sizes :
    (y : ReferenceCall) →
    size_of (receiving_code y.callee.environment y.callee.procedure)
    ≡ size_of (listing_of y.callee.procedure) + size_of (copies_of y) + size_of y.callee.procedure.variables
    + size_of (act_code y.callee.procedure.head.line)
    + size_of (stmts_code y.callee.environment none_taken y.callee.procedure.body) + size_of (end_of y.callee.procedure)
sizes y =
    let x = y.callee.procedure in
    let body = stmts_code y.callee.environment none_taken x.body in
    let n0 = size_append (listing_of x) (copies_of y ++ behind_copies y) in
    let n1 = size_append (copies_of y) (behind_copies y) in
    let n2 = size_append x.variables (behind_variables y) in
    let n3 = size_append (act_code x.head.line) (behind_act y) in
    let n4 = size_append body (Mark (ReturnPlace x.head.number) ∷ end_of x) in
    omega (arith, n0, n1, n2, n3, n4)

is_list_call :
    {y : ReferenceCall} → Here y →
    IsListCall y.surroundings y.code (beginning_of y) (0 ∷ []) y.callee.calling.call y.callee.calling.entry
is_list_call {y} h =
    record {
      calls = h.callee.calls;
      place = h.callee.place;
      begins = (parts_of {y = y} h.callee).listing;
      back = refl;
      some = tt;
    }

is_ending : {y : ReferenceCall} → Here y → IsEnding (called_of y)
is_ending {y} h =
    record {
      stands = (given_known h).0;
      kind = refl;
      held = refl;
      back = h.callee.coded.back;
      edits = refl;
      idle = h.room.idle;
      ending = (parts_of {y = y} h.callee).end;
      word = tt;
    }

is_giving : {y : ReferenceCall} → Here y → IsGiving (called_of y) (giving_of y)
is_giving h = record { listing = listing h; call = is_list_call h; ending = is_ending h }

-- ---- no copy is made, and the parameter is bound

entered_known :
    {y : ReferenceCall} → Here y →
    Stands y.surroundings (entered_point (giving_of y)) × IsImage y.surroundings y.code (entered_point (giving_of y))
entered_known h = listed_stands (listing h)

pub bound_known :
    {y : ReferenceCall} → Here y →
    Stands y.surroundings (bound_point y) × IsImage y.surroundings y.code (bound_point y)
bound_known h =
    let known = entered_known h in
    let a = known.0.active in (
      record {
        active = (
          record {
            height = a.0.height;
            level = a.0.level;
            runs = a.0.runs;
            units = a.0.units;
            parent = a.0.parent;
          },
          a.1,
        );
        laid = known.0.laid;
        low = known.0.low;
        lives = record {
          falling = known.0.lives.falling;
          numbered = known.0.lives.numbered;
          extents = known.0.lives.extents;
        };
        owned = record {
          living = known.0.owned.living;
          heap = known.0.owned.heap;
          constants = known.0.owned.constants;
        };
        over = known.0.over;
        running = known.0.running;
        allowed = known.0.allowed;
      },
      record { keeper = known.1.keeper; layout = known.1.layout; parts = known.1.parts; even = known.1.even },
    )

bound_in :
    (y : ReferenceCall) {index : ℕ} {b : Base} {z : Whole} →
    IsIn y.surroundings (entered_point (giving_of y)) y.numbers index b z →
    IsIn y.surroundings (bound_point y) y.numbers index b z
bound_in y {b = b} {z = z} o =
    record {
      services = o.services;
      at = record {
        pc = o.at.pc;
        frame = o.at.frame;
        top = o.at.top;
        registers = o.at.registers;
        room = o.at.room;
        frames = frame_changed y.surroundings.parts b.at z.machine.memory
            (M.activation_of y.callee.procedure.head (entry_of y) (length y.point.state.activations + 1))
            y.point.state.activations (listed_layer y) (given_layer y ∷ y.others)
            (record {
              bindings = (activation_in y).bindings;
              own = [];
              units = (listed_layer y).units;
              top = (listed_layer y).top;
              carried = (listed_layer y).carried;
            })
            o.at.frames;
        storage = same_now z.machine.memory o.at.storage;
      };
      zero = o.zero;
      bytes = o.bytes;
    }
  where
    same_now : (m : List ℕ) → Holds (now (entered_point (giving_of y)) m) → Holds (now (bound_point y) m)
    same_now m h =
        record {
          keeps = h.keeps;
          heap = record { at = h.heap.at; capacity = h.heap.capacity };
          lives = record { falling = h.lives.falling; numbered = h.lives.numbered; extents = h.lives.extents };
          stored = same_held (bound_point y).keeper (bound_point y).places (entered_point (giving_of y)).state
              (bound_point y).state m refl refl h.stored;
          distinct = h.distinct;
        }

-- where the list lies
list_frame : {y : ReferenceCall} → Here y → IsFrame (list_under y.layer.at)
list_frame {y} h =
    let known = given_known h in
    let φs = given_layer y ∷ y.others in
    let o = bounds y.surroundings.parts φs known.0.laid in
    let o' = bounds y.surroundings.parts y.others known.0.laid.1 in
    let frame = newest_frame y.surroundings.parts φs known.1.parts known.0.laid known.1.even in
    let whole = frame.whole in
    let high = frame.high in
    let room = frame.room in
    let above = known.0.laid.0.above in
    let words = h.room.words in
    let covered = words_covered y.layer.words in
    let start = o'.low in
    let between = o'.above in
    let first = known.1.parts.high in
    record {
      whole = omega (arith, whole, high);
      high = omega (arith, words, covered, above, start, between, first);
      room = omega (arith, room);
    }

-- the list tells that it is no copy
not_copied :
    {y : ReferenceCall} (base : ℕ) (m : List ℕ) → Here y →
    FramesStand y.surroundings.parts base m (entered_point (giving_of y)).state.activations
    (entered_point (giving_of y)).control.layers → load 4 m (list_under y.layer.at + 20) ≡ 0
not_copied {y} base m h frames =
    by y.point.state.activations frames
  where
    by : (as' : List Activation) →
        FramesStand y.surroundings.parts base m
        (M.activation_of y.callee.procedure.head (entry_of y) (length y.point.state.activations + 1) ∷ as')
        (listed_layer y ∷ given_layer y ∷ y.others) → load 4 m (list_under y.layer.at + 20) ≡ 0
    by [] o = absurd o.1
    by (a ∷ as') o =
        let words = h.room.words in
        let low = (list_frame h).high in
        let place : word_place y.layer 0 ≡ list_under y.layer.at + 20 = omega (arith, low) in
        ap (load 4 m) (sym place) ∙ o.1.0.waits 0 0 (omega (arith, words)) refl

abbrev flag_regs : (list : ℕ) → Base → List (ℕ × ℕ)
flag_regs list b = (29, 0) ∷ (30, b.at + list) ∷ []

flag_comes :
    {y : ReferenceCall} {i : ℕ} (k : Here y)
    (h : IsFrame (frame_under y.surroundings.parts
    (entered_point (giving_of y)).control.layers)) (c : ℕ) (f : Family) →
    Linked y.surroundings.links y.code i flag_code →
    ((b : Base) → IsIn y.surroundings (entered_point (giving_of y)) y.numbers i b (f b)
    × KeepsList (list_under y.layer.at) b (f b)) →
    Reach y.code c f (services_of (entered_point (giving_of y))) (c + 1) (services_of (entered_point (giving_of y)))
    (λ b z. At b (i + 1) (Known (point_ground y.surroundings (entered_point (giving_of y)) h)
    (services_of (entered_point (giving_of y))) y.numbers (λ n. 0) (flag_regs (list_under y.layer.at)) b) z)
flag_comes {y} k h c f l there =
    let p = entered_point (giving_of y) in
    let v = services_of p in
    let L = list_under y.layer.at in
    straight c f v v (λ b z. Known (point_ground y.surroundings p h) v y.numbers (λ n. 0) (flag_regs L) b z) l
    (omega arith) (λ b. (there b).0.at.pc)
    (λ b.
    let o = (known_in {t = λ n. 0} {rs = λ b'. (30, b'.at + L) ∷ []} h (there b).0 ((there b).1, tt)).holds in
    let z = (f b).machine.registers in (
      at_place b (word_in L 20 (list_frame k) refl (omega arith)) (sum (z 30) (word (pos 20)))
          (ap (λ u. sum u (word (pos 20))) o.regs.0),
      record {
        body = record {
          services = o.body.services;
          registers = o.body.registers;
          bytes = o.body.bytes;
          memory = o.body.memory;
        };
        regs = (not_copied b.at (f b).machine.memory k o.body.memory.frames, o.regs);
      },
    ))

pub binds :
    {y : ReferenceCall} (k : Here y) (c : ℕ) (f : Family) →
    ((b : Base) → IsIn y.surroundings (entered_point (giving_of y)) y.numbers (copies_index y.callee) b (f b)
    × KeepsList (list_under y.layer.at) b (f b)) →
    Reach y.code c f (services_of (entered_point (giving_of y))) (c + size_of (copies_of y))
    (services_of (bound_point y))
    (λ b z. IsIn y.surroundings (bound_point y) y.numbers (variables_index y.callee) b z)
binds {y} k c f there =
    let known = entered_known k in
    let h = point_frame known.0 known.1 in
    let n = y.callee.number in
    let copy : Copy = record { index = 0; number = n; value = pos 0 } in
    let c' = coded y.callee.environment (0 ∷ []) y.callee.declared copy k.callee.copied in
    let size = ap (λ u. size_of u) c' in
    let making = making_code n in
    let skip = skip_where Test.Equal u4 zero_register making in
    let l = subst (Linked y.surroundings.links y.code (copies_index y.callee)) c' (parts_of {y = y} k.callee).copies in
    let r1 = flag_comes k h c f (front_of flag_code skip l) there in
    let r2 = skip_taken (c + 1) (reached r1) Test.Equal u4 zero_register making (back_of flag_code skip l)
    (reached_holds r1)
    (λ b. let o = (reached_holds r1 b).holds in
    ap (λ u. u == (reached r1 b).machine.registers 0) o.regs.0 ∙ ap (λ u. 0 == u) (zero_is o.body)) in
    let all = reach_moved {c'' = c + size_of (copies_of y)} {i'' = variables_index y.callee} (omega (arith, size))
    (omega (arith, size)) (reach_then r1 r2) in
    reach_map _ all (λ b z o. bound_in y (in_known h known.1.parts o))

-- ---- its first statement

made_known :
    {y : ReferenceCall} → Here y →
    Stands y.surroundings (y.callee.made (bound_point y))
    × IsImage y.surroundings y.code (y.callee.made (bound_point y))
made_known h = h.made.stands (bound_known h)

pub first_among :
    {y : ReferenceCall} (h : Here y) → IsEarly y.surroundings y.point →
    (y.callee.made (bound_point y)).state.world.acts < y.surroundings.acts →
    IsAmong (reference_block y) y.numbers (reference_block y).first
first_among {y} h early less =
    let w = y.surroundings in
    let known = stands_acted y.callee.procedure.head.line (made_known h).0 (made_known h).1 less in
    let acts = ap (λ (x : World). x.acts) h.made.world in
    let few = h.made.few in
    record {
      stands = known.0;
      image = known.1;
      later = later_same (reference_block y).first;
      few = few_made w y.point (reference_block y).first early (omega (arith, few)) (omega (arith, acts, less));
      entries = refl;
      others = λ n more. refl;
      words = h.words;
    }

remains_bound : (y : ReferenceCall) → Remains (given_point y) (bound_point y)
remains_bound y =
    let x = beginning_of y in
    let r = remains_entered (given_point y) x.head x.entry (listed_layer y) x.head.line in
    record {
      living = r.living;
      serials = r.serials;
      at = r.at;
      number = r.number;
      signatures = r.signatures;
      statics = r.statics;
      low = r.low;
      constants = r.constants;
      active = r.active;
      in_use = r.in_use;
    }

pub first_begun :
    {y : ReferenceCall} (h : Here y) → Stands y.surroundings (reference_block y).first → IsBegun (reference_block y)
first_begun {y} h stands =
    let made = y.callee.made (bound_point y) in
    let r = h.made.remains (given_point y) (remains_bound y) (bound_known h).0 (omega arith) in
    let acts = ap (λ (x : World). x.acts) h.made.world in
    record {
      activation = h.made.activation;
      resumes = record {
        stands = stands;
        idle = h.made.idle;
        changed = h.made.changed;
        layers = h.made.layers;
        own = h.made.own;
        activations = h.made.activations;
        more = omega (arith, acts);
      };
      acts = omega arith;
      remains = remains_then (given_point y) made (reference_block y).first r
          (remains_acted made counted y.callee.procedure.head.line);
      outer = tt;
    }

-- ---- what it means

pub body_means :
    {y : ReferenceCall} → Here y →
    M.block_body (at_line y.callee.around y.callee.procedure.head.line) y.callee.procedure.head
    y.callee.procedure.body (entry_of y) y.surroundings.acts (entered_point (giving_of y)).state
    ≡ flow_on y.surroundings.acts
    (M.entry_act y.callee.procedure.head.kind y.surroundings.acts (y.callee.made (bound_point y)).state)
    (λ q. behind_list (at_line y.callee.around y.callee.procedure.head.line) y.callee.procedure.body false)
unfolding M.block_body K.parameters_bound K.parameter_bound stored give ◌>>=◌ ◌>>◌
body_means {y} h =
    let head = y.callee.procedure.head in
    let around = at_line y.callee.around head.line in
    let rest : Unit {0} → Meaning (Unit {0}) =
    λ q. M.entry_act head.kind >> behind_list around y.callee.procedure.body false in
    ap (λ flow. flow_on y.surroundings.acts flow rest) h.made.means

-- ---- its statements, from behind the act of its entry

body_goes :
    (y : ReferenceCall) (callee : IsReceiver y.surroundings y.code y.callee) (f : Family) →
    IsBegun (reference_block y) →
    IsAmong (reference_block y) y.numbers (reference_block y).first →
    EachDoes (reference_block y) (labels_in y.callee.procedure.body ++ []) y.callee.procedure.body (body_index y.callee)
    left_over →
    y.surroundings.acts < y.callee.around.turns + (reference_block y).first.state.world.acts →
    AreIn y.surroundings (reference_block y).first y.numbers (body_index y.callee) f →
    Comes y.code 0 f (services_of (reference_block y).first) (body_aims (called_of y) left_over)
    (M.list (at_line y.callee.around y.callee.procedure.head.line) y.callee.procedure.body y.surroundings.acts
    (reference_block y).first.state)
body_goes y callee f b o each few there =
    let k = reference_block y in
    let c = y.callee in
    let x = c.procedure in
    let l = (parts_of {y = y} callee).body in
    let inside = l.inside in
    let flow = M.list k.around x.body y.surroundings.acts k.first.state in
    let acts = k.first.state.world.acts in
    comes_map (statement_aims k [] acts c.calling.end left_over left_over) (body_aims k.call left_over) refl flow
    (λ c' f' v' r s q. at_end b refl (omega arith) q)
    (λ c' f' v' height label s q. no_jump refl q)
    (λ c' f' v' r s q. q.to)
    (subst (λ j. Comes y.code 0 f (services_of k.first) (statement_aims k [] acts j left_over left_over) flow)
    (sym callee.end)
    (list_does k [] x.body (body_index c) left_over k.first y.numbers 0 left_over f b few each callee.labels o l
    (omega arith, omega (arith, inside)) there))

-- ---- the whole

pub reference_comes :
    {y : ReferenceCall} (credits wanted : ℕ) (f : Family) → Here y →
    (IsBegun (reference_block y) →
    EachDoes (reference_block y) (labels_in y.callee.procedure.body ++ []) y.callee.procedure.body (body_index y.callee)
    left_over) →
    y.surroundings.acts < y.callee.around.turns + (y.point.state.world.acts + 1) →
    credits + 4 + size_of (receiving_code y.callee.environment y.callee.procedure) ≤ cost y.code →
    AreIn y.surroundings (given_point y) y.numbers y.callee.calling.call f →
    ((b : Base) → IsListing (given_point y) (beginning_of y) (list_under y.layer.at) b (f b)) →
    Comes y.code credits f (services_of (given_point y)) (behind_aims (called_of y) wanted)
    (M.block_run y.callee.around (block_of y.callee.procedure) (entry_of y) y.surroundings.acts y.point.state)
unfolding ◌>>◌
reference_comes {y} credits wanted f h each few paid there gives =
    let w = y.surroundings in
    let c = y.callee in
    let k = called_of y in
    let x = c.procedure in
    let parts = parts_of {y = y} h.callee in
    let total = sizes y in
    let around' = at_line c.around x.head.line in
    let next' : Unit {0} → Meaning (Unit {0}) = λ u. M.list around' x.body in
    let start = entered_point (giving_of y) in
    let made = c.made (bound_point y) in
    let closed = body_closed k left_over in
    let c0 = credits + (left_over + size_of (end_of x)) + 2 + size_of (listing_of x) in
    let c1 = c0 + size_of (copies_of y) in
    let c2 = c1 + size_of x.variables in
    let acts = ap (λ (u : World). u.acts) h.made.world in
    subst (λ flow. Comes y.code credits f (services_of (given_point y)) (behind_aims k wanted) flow)
    (sym (run_means c.around x.head x.body (entry_of y) w.acts y.point.state h.callee.kind h.room.shallow))
    (comes_early w refl there
    (λ early.
    list_calls_return k (giving_of y) (M.block_body around' x.head x.body (entry_of y)) credits left_over
    wanted f (is_giving h)
    (λ g at.
    subst (λ flow. Comes y.code c0 g (services_of start) (body_aims k left_over) flow)
    (sym (body_means h ∙ entry_means around' x.head.kind x.body w.acts made.state h.callee.kind))
    (onward closed (binds h c0 g at)
    (λ g1 at1.
    onward closed (h.made.comes c1 g1 (bound_known h) parts.variables at1)
    (λ g' at'.
    comes_on w.acts (act counted w.acts made.state) next'
    (act_comes (before_closed w.acts next' closed) x.head.line c2 0 g' (made_known h)
    (h.callee.coded.line, h.callee.acts, omega (arith, total, paid)) parts.act at'
    (λ g'' less at''.
    let o = first_among h early less in
    let b = first_begun h o.stands in
    body_goes y h.callee g'' b o (each b) (omega (arith, few, acts)) at'')))))) there gives))
