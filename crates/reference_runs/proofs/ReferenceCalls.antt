-- The statement CALL of a procedure with a parameter by reference: the list is given, and behind the call the caller
-- forgets it.
use Rattle.std.proofs.Common.{◌≡◌, ℕ, suc, ◌+◌, ◌≤◌, List, [], ◌∷◌, ◌++◌, length, Option, None}
use Rattle.std.proofs.Common.{true, refl, sym, ap, ◌∙◌, subst, arith}
use Rattle.std.specs.Prelude.{nat_lt}
use Rattle.pli_typing.specs.TypedTree as Y
use Rattle.pli_meaning.specs.BasicValues.{BasicValue, VariableName}
use Rattle.pli_meaning.specs.Control.{Label, Meaning, act, give, looked, ◌>>=◌, ◌>>◌}
use Rattle.pli_meaning.specs.DeclaredShapes.{procedure_numbered}
use Rattle.pli_meaning.specs.Evaluating as V
use Rattle.pli_meaning.specs.Executing as M
use Rattle.pli_meaning.specs.Executing.{begun, labels_in}
use Rattle.pli_meaning.specs.Raising.{Around, Entry, PassedName, at_line}
use Rattle.pli_meaning.specs.StorageState.{State, ancestor, ancestor_at, binding_in, height_of, most_activations}
use Rattle.pli_meaning.specs.StorageState.{newest_height}
use Rattle.pli_meaning.specs.World.{counted}
use Rattle.pli_serving.specs.ServiceState.{Services}
use Rattle.pli_coding.specs.Allocating.{act_code}
use Rattle.pli_coding.specs.Assembly.{size_of}
use Rattle.pli_coding.specs.Frames.{fixed_size}
use Rattle.activation_relation.specs.Chains.{HasParent}
use Rattle.activation_relation.specs.FrameLaws.{with_waits}
use Rattle.activation_relation.specs.Frames.{lower_end}
use Rattle.activation_relation.specs.Layers.{Layer, Point, services_of}
use Rattle.activation_relation.specs.Remaining.{Remains}
use Rattle.activation_relation.proofs.Remaining.{remains_then}
use Rattle.activation_relation.proofs.Remaining.{shapes_remain}
use Rattle.run_steps.specs.Engine.{Base}
use Rattle.run_steps.specs.Items.{Linked}
use Rattle.run_steps.proofs.Jumps.{back_of, front_of}
use Rattle.run_steps.proofs.Linking.{size_append}
use Rattle.run_steps.specs.Reach.{Comes, Family, Reach, before}
use Rattle.run_steps.proofs.Reach.{before_closed, comes_on, onward, reach_map}
use Rattle.image_runs.specs.Runs.{Whole}
use Rattle.block_runs.specs.Bodies.{IsBehind, behind_aims}
use Rattle.block_runs.specs.Machines.{AreIn, IsIn, acted}
use Rattle.block_runs.proofs.CallStatements.{comes_map}
use Rattle.block_runs.proofs.PointActs.{act_comes}
use Rattle.program_runs.specs.Calls.{left_over}
use Rattle.program_runs.specs.Procedures.{block_of, frame_for}
use Rattle.program_runs.specs.Statements.{Block, Does, EachDoes, GoesOn, IsAmong, IsBegun, size_in, statement_aims}
use Rattle.program_runs.proofs.CallStatements.{newest_frame_at}
use Rattle.program_runs.proofs.NewestBlocks.{newest_ancestor, newest_at}
use Rattle.program_runs.proofs.Statements.{acted_among, statement_closed}
use Rattle.expression_runs.specs.Variables.{IsNumber, Spot, whole}
use Rattle.expression_runs.proofs.VariableMeaning as N
use Rattle.argument_runs.specs.Laws.{HasList}
use Rattle.argument_runs.specs.ListBeginnings.{IsListing}
use Rattle.argument_runs.specs.Lists.{layered, list_given, list_under}
use Rattle.argument_runs.specs.Parameters.{parameter_shape}
use Rattle.argument_runs.proofs.CopyCalls.{forgotten, in_forgotten}
use Rattle.argument_runs.proofs.GivenLists.{with_list_stands}
use Rattle.argument_runs.proofs.Parameters.{generation_is}
use Rattle.reference_runs.specs.Receivers.{HasRoomFor, Receiver, beginning_of, body_index, called_of, entry_of}
use Rattle.reference_runs.specs.Receivers.{given_point, reference_block}
use Rattle.reference_runs.specs.ReferenceCalls.{IsReferenceCall, MadeWhere, call_at, call_with}
use Rattle.reference_runs.specs.References.{IsReferred, Reference, reference_given, referred_waits}
use Rattle.reference_runs.proofs.GivenReferences.{references_come}
use Rattle.reference_runs.proofs.Receivers.{Here, reference_comes}
use Rattle.reference_runs.proofs.ReferenceCode.{called_is, calling, coded}

-- ---- at each of the block's points

pub room_among :
    {k : Block} {c : Receiver} {x : Spot} {r : Reference} {φ : Layer} {φs : List Layer} {line index more : ℕ}
    {numbers : ℕ → ℕ} {p : Point} → IsReferenceCall k c x r φ φs line index more → IsAmong k numbers p →
    HasRoomFor k.call.surroundings p c φ φs
room_among {k} {c} h o =
    let w = k.call.surroundings in
    let x = c.procedure in
    let r = h.room in
    record {
      newest = o.later.layers ∙ r.newest;
      words = r.words;
      waits = r.waits;
      room = subst (λ ls. frame_for w.parts ls x + fixed_size x.head.level 1 ≤ lower_end w.parts ls)
          (sym o.later.layers) r.room;
      shallow = subst (λ xs. nat_lt (length xs) most_activations ≡ true) (sym o.later.activations) r.shallow;
      parent = subst (λ xs. HasParent x.head.level c.calling.parent xs) (sym o.later.activations) r.parent;
      idle = o.later.waiting ∙ r.idle;
    }

pub referred_among :
    {k : Block} {r : Reference} {φ : Layer} {φs : List Layer} {numbers : ℕ → ℕ} {p : Point} →
    IsReferred k.first φ φs r → IsAmong k numbers p → IsReferred p φ φs r
referred_among {r = r} h o =
    let on = o.later.remains.living r.serial h.living h.lives in
    record {
      newest = o.later.layers ∙ h.newest;
      words = h.words;
      told = record { kind = h.told.kind; second = h.told.second; low = h.told.low; high = h.told.high };
      living = on.there;
      lives = on.lives;
      shape = on.shape ∙ h.shape;
      numbered = shapes_remain o.later.remains r.signature parameter_shape h.numbered;
      small = h.small;
      serial = h.serial;
    }

pub here_among :
    {k : Block} {c : Receiver} {x : Spot} {r : Reference} {φ : Layer} {φs : List Layer} {line index more : ℕ}
    {numbers : ℕ → ℕ} {p : Point} → IsReferenceCall k c x r φ φs line index more → MadeWhere k c r φ φs →
    IsAmong k numbers p → Here (call_at k c r φ φs p numbers)
here_among {numbers = numbers} {p = p} h made o =
    record {
      stands = o.stands;
      image = o.image;
      few = o.few;
      room = room_among h o;
      words = o.words;
      callee = h.callee;
      made = made p numbers o;
    }

-- what the variable stands for
holds_at :
    {k : Block} {numbers : ℕ → ℕ} {p : Point} (x : Spot) (is : IsNumber k x) → IsAmong k numbers p →
    (h : N.Holds p.state x) × (h.serial ≡ is.serial)
holds_at x is o =
    let on = o.later.remains.living is.serial is.living is.lives in
    let g = on.there.generation in (
      record {
        serial = is.serial;
        stands =
            ap (λ xs. binding_in (ancestor xs (newest_height xs) x.level) x.index) o.later.activations ∙ is.binding;
        values = g.values;
        living = on.there;
        lives = on.lives;
        generation = generation_is g (on.shape ∙ is.shape) (o.stands.lives.extents is.serial on.there on.lives);
      },
      refl,
    )

-- ---- the static parent is the running block

parent_height :
    {k : Block} {c : Receiver} {x : Spot} {r : Reference} {φ : Layer} {φs : List Layer} {line index more : ℕ}
    {numbers : ℕ → ℕ} {p : Point} → IsReferenceCall k c x r φ φs line index more → IsAmong k numbers p →
    height_of (ancestor_at p.state k.environment.level) ≡ c.calling.parent
parent_height {k} h o =
    let n = newest_at h.begun o in
    let height = n.height in
    let parent = h.parent in
    ap (λ xs. height_of (ancestor xs (newest_height xs) k.environment.level)) n.active
    ∙ newest_ancestor n.activation k.call.point.state.activations k.environment.level (n.level ∙ sym h.level)
    ∙ omega (arith, height, parent)

parent_above :
    {k : Block} {c : Receiver} {x : Spot} {r : Reference} {φ : Layer} {φs : List Layer} {line index more : ℕ}
    {numbers : ℕ → ℕ} {p : Point} → IsReferenceCall k c x r φ φs line index more → IsAmong k numbers p →
    c.calling.parent ≡ suc (length φs)
parent_above h o =
    let n = newest_at h.begun o in
    let many = n.many in
    let parent = h.parent in
    let same = ap (λ (ls : List Layer). length ls) (sym (o.later.layers ∙ h.room.newest) ∙ n.layers) in
    omega (arith, many, parent, same)

-- ---- what it means

entered_means :
    {k : Block} {c : Receiver} {x : Spot} {r : Reference} {φ : Layer} {φs : List Layer} {line index more : ℕ}
    {numbers : ℕ → ℕ} {p : Point} → IsReferenceCall k c x r φ φs line index more → IsAmong k numbers p →
    V.procedure_entered (at_line k.around line)
    (procedure_numbered c.procedure.head.number k.around.program.procedures) k.environment.level
    (PassedName (VariableName r.serial) parameter_shape ∷ []) k.call.surroundings.acts p.state
    ≡ M.block_run c.around (block_of c.procedure) (entry_of (call_at k c r φ φs p numbers))
    k.call.surroundings.acts p.state
unfolding V.procedure_entered M.entered looked ◌>>=◌ ◌>>◌
entered_means {k} {c} {r = r} {line = line} {p = p} h o =
    let s = p.state in
    let acts = k.call.surroundings.acts in
    let passed = PassedName (VariableName r.serial) parameter_shape ∷ [] in
    let entry : ℕ → Entry = λ m. record (begun (block_of c.procedure) m) {
      parameters = 0 ∷ [];
      arguments = passed;
    } in
    let height = height_of (ancestor_at s k.environment.level) in
    ap (λ q. V.procedure_entered (at_line k.around line) q k.environment.level passed acts s) h.found
    ∙ ap (λ (enters : Entry → Meaning (Option BasicValue)). enters (entry height) acts s) h.enter
    ∙ ap (λ (a : Around). M.block_run a (block_of c.procedure) (entry height) acts s) (sym h.around)
    ∙ ap (λ m. M.block_run c.around (block_of c.procedure) (entry m) acts s) (parent_height h o)

-- ---- behind the call

behind_goes :
    {k : Block} {c : Receiver} {x : Spot} {r : Reference} {φ : Layer} {φs : List Layer} {line index more : ℕ}
    {numbers : ℕ → ℕ} {p : Point} {acts wanted credits : ℕ} {f : Family} {v : Services} {u : Option BasicValue}
    {s : State} (h : IsReferenceCall k c x r φ φs line index more) (o : IsAmong k numbers p) →
    acts ≤ p.state.world.acts →
    IsBehind (called_of (call_at k c r φ φs p numbers)) wanted credits f v u s →
    GoesOn k acts (index + size_in k (call_with k c x line)) wanted credits f v s
behind_goes {k} {c} {x} {r} {φ} {φs} {line} {index} {numbers = numbers} {p = p} {wanted = wanted} {credits = credits}
    {f = f} {v = v} h o since q =
    let w = k.call.surroundings in
    let waits = referred_waits r in
    let newest = q.later.layers in
    let known = with_list_stands w k.call.code q.point (with_waits waits φ) φs (λ n. None) (q.stands, q.image) newest in
    let from = q.later.remains in
    let there : Remains p q.point = record {
      living = from.living;
      serials = from.serials;
      at = from.at;
      number = from.number;
      signatures = from.signatures;
      statics = from.statics;
      low = from.low;
      constants = from.constants;
      active = from.active;
      in_use = from.in_use;
    } in
    let remains = remains_then k.first p q.point o.later.remains there in
    let first = o.later.acts in
    let more' = q.later.acts in
    record {
      point = forgotten φ φs q.point;
      numbers = numbers;
      among = record {
        stands = known.0;
        image = known.1;
        later = record {
          activations = q.later.activations ∙ o.later.activations;
          layers = ap (λ ψ. ψ ∷ φs) h.room.waits ∙ sym h.room.newest;
          edits = q.later.edits ∙ o.later.edits;
          waiting = q.later.waiting ∙ o.later.waiting;
          acts = omega (arith, first, more');
          remains = record {
            living = remains.living;
            serials = remains.serials;
            at = remains.at;
            number = remains.number;
            signatures = remains.signatures;
            statics = remains.statics;
            low = remains.low;
            constants = remains.constants;
            active = remains.active;
            in_use = remains.in_use;
          };
        };
        few = q.few;
        entries = q.entries ∙ o.entries;
        others = o.others;
        words = o.words;
      };
      since = omega (arith, since, more');
      state = q.state;
      reach = subst (λ v'. Reach k.call.code credits f v wanted v'
          (λ b y. IsIn w (forgotten φ φs q.point) numbers (index + size_in k (call_with k c x line)) b y))
          (ap (λ ls. services_of (layered ls q.point)) newest)
          (reach_map _ q.reach (λ b y is.
          subst (λ n. IsIn w (forgotten φ φs q.point) numbers n b y) h.call
          (in_forgotten φ φs waits newest is.0)));
    }

-- ---- from behind its act on

abbrev behind_call : Option BasicValue → Meaning (Unit {0})
behind_call u = give tt

is_listing :
    {k : Block} {c : Receiver} {x : Spot} {r : Reference} {φ : Layer} {φs : List Layer} {line index more : ℕ}
    {numbers : ℕ → ℕ} {p : Point} {b : Base} {y : Whole} → IsReferenceCall k c x r φ φs line index more →
    IsAmong k numbers p → HasList φ b y.machine →
    IsListing (given_point (call_at k c r φ φs p numbers)) (beginning_of (call_at k c r φ φs p numbers))
    (list_under φ.at) b y
is_listing {c = c} {r = r} {φ = φ} {φs = φs} {b = b} h o g =
    record {
      calling = record {
        parent = λ some. g.frame
            ∙ ap (λ n. b.at + n)
            (sym (newest_frame_at (with_waits (referred_waits r) φ) φs c.calling.parent (parent_above h o)));
        texts = g.texts;
      };
      address = g.list;
    }

given_goes :
    {k : Block} {c : Receiver} {x : Spot} {r : Reference} {φ : Layer} {φs : List Layer} {line index more : ℕ}
    {numbers : ℕ → ℕ} {p : Point} (labels : List Label) (left' acts wanted credits i : ℕ) (f : Family) →
    IsReferenceCall k c x r φ φs line index more → MadeWhere k c r φ φs →
    ((p : Point) (numbers : ℕ → ℕ) → IsAmong k numbers p → IsBegun (reference_block (call_at k c r φ φs p numbers)) →
    EachDoes (reference_block (call_at k c r φ φs p numbers)) (labels_in c.procedure.body ++ []) c.procedure.body
    (body_index c) left_over) →
    IsAmong k numbers p → acts ≤ p.state.world.acts →
    Linked k.call.surroundings.links k.call.code i ((reference_given r.place r.signature ++ list_given) ++ calling c) →
    c.calling.call ≡ i + size_of (reference_given r.place r.signature ++ list_given) → credits ≤ i →
    AreIn k.call.surroundings p numbers i f →
    Comes k.call.code credits f (services_of p)
    (before k.call.code (statement_aims k labels acts (index + size_in k (call_with k c x line)) wanted left')
    k.call.surroundings.acts behind_call)
    (V.procedure_entered (at_line k.around line)
    (procedure_numbered c.procedure.head.number k.around.program.procedures) k.environment.level
    (PassedName (VariableName r.serial) parameter_shape ∷ []) k.call.surroundings.acts p.state)
unfolding give
given_goes {k} {c} {x} {r} {φ} {φs} {line} {index} {numbers = numbers} {p = p} labels left' acts wanted credits i f h
    made each o since l at few there =
    let w = k.call.surroundings in
    let code = k.call.code in
    let y = call_at k c r φ φs p numbers in
    let given' = reference_given r.place r.signature ++ list_given in
    let aims = statement_aims k labels acts (index + size_in k (call_with k c x line)) wanted left' in
    let aims' = before code aims w.acts behind_call in
    let closed = before_closed w.acts behind_call
    (statement_closed k labels acts (index + size_in k (call_with k c x line)) wanted left') in
    let flow = M.block_run c.around (block_of c.procedure) (entry_of y) w.acts p.state in
    let later = o.later.acts in
    let enough = h.enough in
    let turns = ap (λ (a : Around). a.turns) h.around in
    let inside = l.inside in
    let proc = h.callee.stands.inside in
    let n = size_append given' (calling c) in
    subst (λ u. Comes code credits f (services_of p) aims' u) (sym (entered_means {numbers = numbers} h o))
    (onward closed
    (references_come w code p φ φs r numbers credits i f (o.stands, o.image) (referred_among h.named.referred o)
    (front_of given' (calling c) l) there)
    (λ g' there'.
    comes_map (behind_aims (called_of y) wanted) aims' refl flow
    (λ c1 f1 v1 u t e. record { to = λ early. behind_goes h o (omega (arith, since)) e })
    (λ c1 f1 v1 height label t e. absurd e)
    (λ c1 f1 v1 u t e. absurd e)
    (reference_comes (credits + size_of given') wanted g' (here_among h made o) (each p numbers o)
    (omega (arith, enough, turns, later)) (omega (arith, few, n, inside, proc))
    (λ b. subst (λ j. IsIn w (given_point y) numbers j b (g' b)) (sym at) (there' b).0)
    (λ b. is_listing h o (there' b).1))))

-- ---- the statement

pub reference_call_does :
    (k : Block) (c : Receiver) (labels : List Label) (x : Spot) (r : Reference) (φ : Layer) (φs : List Layer)
    (line index left' more : ℕ) → IsReferenceCall k c x r φ φs line index more → MadeWhere k c r φ φs →
    ((p : Point) (numbers : ℕ → ℕ) → IsAmong k numbers p → IsBegun (reference_block (call_at k c r φ φs p numbers)) →
    EachDoes (reference_block (call_at k c r φ φs p numbers)) (labels_in c.procedure.body ++ []) c.procedure.body
    (body_index c) left_over) →
    Does k labels (call_with k c x line) index left'
unfolding M.statement give ◌>>=◌ ◌>>◌
reference_call_does k c labels x r φ φs line index left' more h made each p numbers credits wanted f o paid there =
    let w = k.call.surroundings in
    let code = k.call.code in
    let around' = at_line k.around line in
    let stmt = call_with k c x line in
    let one = act_code line in
    let given' = reference_given r.place r.signature ++ list_given in
    let l = subst (Linked w.links code index) (coded k c x φ φs r line h.named) h.statement in
    let n0 = size_append one (given' ++ calling c) in
    let n1 = size_append given' (calling c) in
    let size = ap (λ u. size_of u) (coded k c x φ φs r line h.named) in
    let acts = p.state.world.acts in
    let at_call = h.call in
    let goal = statement_aims k labels acts (index + size_in k stmt) wanted left' in
    let closed = statement_closed k labels acts (index + size_in k stmt) wanted left' in
    let tree = Y.Calling c.procedure.head.number k.environment.level
    (Y.ArgumentThen (Y.ByReference (whole x)) Y.NoArgument) in
    let tail : Unit {0} → Meaning (Unit {0}) = λ u. V.called around' tree >> give tt in
    comes_on w.acts (act counted w.acts p.state) tail
    (act_comes (before_closed w.acts tail closed) line credits 0 f (o.stands, o.image)
    (h.act.line_fits, h.act.acts, omega (arith, paid, n0, size)) (front_of one (given' ++ calling c) l) there
    (λ g less at.
    let p' = acted line p in
    let o' = acted_among line o less in
    let m = holds_at x h.named.number o' in
    comes_on w.acts (V.called around' tree w.acts p'.state) behind_call
    (subst (λ flow. Comes code 0 g (services_of p') (before code goal w.acts behind_call) flow)
    (sym (called_is around' c.procedure.head.number k.environment.level x w.acts m.0
    ∙ ap (λ n. V.procedure_entered around'
    (procedure_numbered c.procedure.head.number k.around.program.procedures) k.environment.level
    (PassedName (VariableName n) parameter_shape ∷ []) w.acts p'.state) (m.1 ∙ h.named.serial)))
    (given_goes {numbers = numbers} {p = p'} labels left' acts wanted 0 (index + size_of one) g h made each o'
    (omega arith) (back_of one (given' ++ calling c) l) (omega (arith, at_call, size, n0, n1)) (omega arith) at))))
