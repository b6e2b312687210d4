-- The statement CALL in the block that declares the procedure.
use Rattle.std.proofs.Common.{◌<◌, ◌^◌}
use Rattle.std.proofs.Common.{◌≡◌, ℕ, suc, ◌+◌, ◌≤◌, List, [], ◌∷◌, ◌++◌, length, Option, Some, true}
use Rattle.std.proofs.Common.{refl, sym, ap, ◌∙◌, subst, arith}
use Rattle.std.proofs.lemmas.Bool.{eq-eqb}
use Rattle.std.specs.Prelude.{cond, nat_lt, ◌==◌}
use Rattle.pli_typing.specs.TypedTree as Y
use Rattle.pli_meaning.specs.BasicValues.{BasicValue}
use Rattle.pli_meaning.specs.Control.{Label, Meaning, act, give, looked, ◌>>=◌, ◌>>◌}
use Rattle.pli_meaning.specs.Evaluating as V
use Rattle.pli_meaning.specs.Executing as M
use Rattle.pli_meaning.specs.Executing.{begun}
use Rattle.pli_meaning.specs.Raising.{Around, Entry, at_line}
use Rattle.pli_meaning.specs.StorageState.{Activation, State, ancestor, ancestor_at, height_of, newest_height}
use Rattle.pli_meaning.specs.StorageState.{most_activations}
use Rattle.pli_meaning.specs.World.{World, counted}
use Rattle.pli_coding.specs.Allocating.{act_code}
use Rattle.pli_coding.specs.Assembly.{size_of}
use Rattle.pli_coding.specs.Frames.{fixed_size}
use Rattle.activation_relation.specs.Chains.{AreActive, HasParent, frame_at}
use Rattle.activation_relation.specs.Frames.{frame_under, lower_end}
use Rattle.activation_relation.specs.Landing.{resumed, with_units}
use Rattle.activation_relation.specs.Layers.{Layer, Point, services_of}
use Rattle.activation_relation.proofs.Blocks.{same_length}
use Rattle.activation_relation.proofs.Returning.{later_then}
use Rattle.run_steps.specs.Items.{Linked}
use Rattle.run_steps.proofs.Jumps.{front_of, back_of}
use Rattle.run_steps.proofs.Linking.{size_append}
use Rattle.run_steps.specs.Reach.{Family, Comes, before}
use Rattle.run_steps.proofs.Reach.{before_closed, comes_on, onward, reach_map}
use Rattle.block_runs.specs.Bodies.{IsBehind, behind_aims}
use Rattle.block_runs.specs.CallStatements.{CallStatement}
use Rattle.block_runs.specs.Machines.{IsIn, AreIn, acted}
use Rattle.block_runs.proofs.CallStatements.{comes_map, arguments_given, own_code, given_code, call_code_of}
use Rattle.block_runs.proofs.PointActs.{act_comes}
use Rattle.program_runs.specs.Calls.{AreMade, Callee, IsCall, IsCallWith, called_at, block_at, body_index, call_of}
use Rattle.program_runs.specs.Calls.{labels_of, left_over}
use Rattle.program_runs.specs.Procedures.{HasRoom, beginning_for, block_of, frame_for}
use Rattle.program_runs.specs.Statements.{Block, Does, DoesWith, EachDoes, GoesOn, IsAmong, IsBegun, set_aside}
use Rattle.program_runs.specs.Statements.{size_with, statement_aims}
use Rattle.program_runs.proofs.Calls.{BodyComes, body_goes, procedure_comes}
use Rattle.program_runs.proofs.NewestBlocks.{Newest, newest_ancestor, newest_at}
use Rattle.program_runs.proofs.Statements.{acted_among, statement_closed}

-- ---- the running block is the static parent

parent_height :
    {words : ℕ} {k : Block} {c : Callee} {line index more : ℕ} {p : Point} → IsCallWith words k c line index more →
    Newest k p → height_of (ancestor_at p.state k.environment.level) ≡ c.calling.parent
parent_height {k} h n =
    let height = n.height in
    let parent = h.parent in
    ap (λ xs. height_of (ancestor xs (newest_height xs) k.environment.level)) n.active
    ∙ newest_ancestor n.activation k.call.point.state.activations k.environment.level (n.level ∙ sym h.level)
    ∙ omega (arith, height, parent)

pub newest_frame_at :
    (φ : Layer) (φs : List Layer) (n : ℕ) → n ≡ suc (length φs) → frame_at (φ ∷ φs) n ≡ φ.at
newest_frame_at φ φs n e = ap (λ q. cond q φ.at (frame_at φs n)) (eq-eqb n (suc (length φs)) e)

parent_frame :
    {words : ℕ} {k : Block} {c : Callee} {line index more : ℕ} {p : Point} → IsCallWith words k c line index more →
    Newest k p → frame_at p.control.layers c.calling.parent ≡ frame_under k.call.surroundings.parts p.control.layers
parent_frame {k} {c} h n =
    let parts = k.call.surroundings.parts in
    let many = n.many in
    let parent = h.parent in
    subst (λ ls. frame_at ls c.calling.parent ≡ frame_under parts ls) (sym n.layers)
    (newest_frame_at n.layer k.call.point.control.layers c.calling.parent (omega (arith, many, parent)))

-- ---- at each of the block's points

room_among :
    {words : ℕ} {k : Block} {c : Callee} {line index more : ℕ} {numbers : ℕ → ℕ} {p : Point} →
    IsCallWith words k c line index more → IsAmong k numbers p → HasRoom k.call.surroundings p c.procedure c.calling
room_among {k} {c} h o =
    let parts = k.call.surroundings.parts in
    let x = c.procedure in
    record {
      room = subst (λ ls. frame_for parts ls x + fixed_size x.head.level 0 ≤ lower_end parts ls) (sym o.later.layers)
          h.room.room;
      shallow = subst (λ xs. nat_lt (length xs) most_activations ≡ true) (sym o.later.activations) h.room.shallow;
      parent = subst (λ xs. HasParent x.head.level c.calling.parent xs) (sym o.later.activations) h.room.parent;
      idle = o.later.waiting ∙ h.room.idle;
    }

-- what the call means
called_means :
    {words : ℕ} {k : Block} {c : Callee} {line index more : ℕ} {p : Point} → IsCallWith words k c line index more →
    Newest k p → V.called (at_line k.around line) (Y.Calling c.procedure.head.number k.environment.level Y.NoArgument)
    k.call.surroundings.acts p.state
    ≡ M.block_run c.around (block_of c.procedure) (begun (block_of c.procedure) c.calling.parent)
    k.call.surroundings.acts p.state
unfolding V.called V.arguments V.all_passed_last V.procedure_entered M.entered looked give ◌>>=◌ ◌>>◌
called_means {k} {c} {line} {more = more} {p = p} h n =
    let s = p.state in
    let acts = k.call.surroundings.acts in
    let block = block_of c.procedure in
    let height = height_of (ancestor_at s k.environment.level) in
    ap (λ q. V.procedure_entered (at_line k.around line) q k.environment.level [] acts s) h.found
    ∙ ap (λ (enters : Entry → Meaning (Option BasicValue)). enters (begun block height) acts s) h.enter
    ∙ ap (λ (a : Around). M.block_run a block (begun block height) acts s) (sym h.around)
    ∙ ap (λ m. M.block_run c.around block (begun block m) acts s) (parent_height h n)

-- ---- the statement

abbrev pub statement_with :
    (words : ℕ) → Block → Callee → (line index : ℕ) → Point → (numbers : ℕ → ℕ) → CallStatement
statement_with words k c line index p numbers =
    record {
      surroundings = k.call.surroundings;
      code = k.call.code;
      environment = k.environment;
      taken = set_aside words;
      around = k.around;
      line = line;
      index = index;
      beginning = beginning_for k.call.surroundings p numbers c.procedure c.calling;
      entry = c.calling.entry;
    }

abbrev pub statement_at : Block → Callee → (line index : ℕ) → Point → (numbers : ℕ → ℕ) → CallStatement
statement_at k c line index p numbers = statement_with 0 k c line index p numbers

abbrev behind_call : Option BasicValue → Meaning (Unit {0})
behind_call r = give tt

-- behind the call its block goes on
behind_goes :
    {words : ℕ} {k : Block} {c : Callee} {acts line index more wanted credits : ℕ} {numbers : ℕ → ℕ} {p : Point}
    {f : Family}
    {r : Option BasicValue} {s : State} {v : _} (h : IsCallWith words k c line index more) (o : IsAmong k numbers p) →
    acts ≤ p.state.world.acts →
    IsBehind (called_at k.call.surroundings k.call.code c p numbers) wanted credits f v r s →
    GoesOn k acts (index + size_with words k (call_of k c line)) wanted credits f v s
behind_goes {k} {numbers = numbers} {p = p} h o since q =
    let w = k.call.surroundings in
    let more = q.later.acts in
    record {
      point = q.point;
      numbers = numbers;
      among = record {
        stands = q.stands;
        image = q.image;
        later = later_then k.first p q.point o.later q.later;
        few = q.few;
        entries = q.entries ∙ o.entries;
        others = o.others;
        words = o.words;
      };
      since = omega (arith, since, more);
      state = q.state;
      reach = reach_map _ q.reach (λ b y is. subst (λ n. IsIn w q.point numbers n b y) h.call is.0);
    }

call_goes :
    (words : ℕ) → words < 2 ^ 20 → (k : Block) (c : Callee) (labels : List Label) (acts line index left' more : ℕ)
    (h : IsCallWith words k c line index more)
    (p : Point) (numbers : ℕ → ℕ) (wanted : ℕ) (f : Family) (o : IsAmong k numbers p) → IsBegun k →
    acts ≤ p.state.world.acts → AreMade k.call.surroundings k.call.code c p numbers →
    BodyComes k.call.surroundings k.call.code c p numbers →
    Linked k.call.surroundings.links k.call.code (index + size_of (act_code line))
    (given_code (statement_with words k c line index p numbers) ++ call_code_of (statement_with words k c line index p
    numbers)) → size_with words k (call_of k c line)
    ≡ size_of (act_code line)
    + size_of (given_code (statement_with words k c line index p numbers)
    ++ call_code_of (statement_with words k c line index p numbers)) →
    AreIn k.call.surroundings p numbers (index + size_of (act_code line)) f →
    Comes k.call.code 0 f (services_of p)
    (before k.call.code (statement_aims k labels acts (index + size_with words k (call_of k c line)) wanted left')
    k.call.surroundings.acts behind_call)
    (M.block_run c.around (block_of c.procedure) (begun (block_of c.procedure) c.calling.parent)
    k.call.surroundings.acts p.state)
unfolding give
call_goes words low k c labels acts line index left' more h p numbers wanted f o b since made' body l size there =
    let w = k.call.surroundings in
    let z = statement_with words k c line index p numbers in
    let given' = given_code z in
    let call = call_code_of z in
    let n = size_append given' call in
    let inside = l.inside in
    let proc = h.callee.stands.inside in
    let at_call = h.call in
    let aims = statement_aims k labels acts (index + size_with words k (call_of k c line)) wanted left' in
    let flow = M.block_run c.around (block_of c.procedure) (begun (block_of c.procedure) c.calling.parent) w.acts
    p.state in
    let closed = statement_closed k labels acts (index + size_with words k (call_of k c line)) wanted left' in
    onward (before_closed w.acts behind_call closed)
    (arguments_given z p numbers (index + size_of (act_code line)) 0 f o.stands o.image (low, refl)
    (parent_frame h (newest_at b o)) (front_of given' call l) there)
    (λ g at.
    comes_map (behind_aims (called_at w k.call.code c p numbers) wanted)
    (before k.call.code aims w.acts behind_call) refl flow
    (λ c' f' v' r s q. record { to = λ early. behind_goes h o since q })
    (λ c' f' v' height label s q. absurd q)
    (λ c' f' v' r s q. absurd q)
    (procedure_comes w k.call.code c p numbers (0 + size_of given') wanted g (o.stands, o.image) o.few
    (h.callee, room_among h o) made' o.words body (omega (arith, n, inside, proc))
    (λ b. subst (λ j. IsIn w p numbers j b (g b)) (omega (arith, n, size, at_call)) (at b).0)
    (λ b. (at b).1)))

-- if the procedure's body comes to its end
pub comes_with :
    (words : ℕ) → words < 2 ^ 20 → (k : Block) (c : Callee) (line index left' more : ℕ) →
    IsCallWith words k c line index more → ((p : Point) (numbers : ℕ → ℕ) → IsAmong k numbers p →
    AreMade k.call.surroundings k.call.code c p numbers) →
    ((p : Point) (numbers : ℕ → ℕ) → IsAmong k numbers p →
    BodyComes k.call.surroundings k.call.code c p numbers) → IsBegun k → (labels : List Label) →
    DoesWith words k labels (call_of k c line) index left'
unfolding M.statement ◌>>=◌ ◌>>◌
comes_with words low k c line index left' more h made' body b labels p numbers credits wanted f o paid there =
    let w = k.call.surroundings in
    let p' = acted line p in
    let z = statement_with words k c line index p' numbers in
    let one = act_code line in
    let given' = given_code z in
    let call = call_code_of z in
    let l = subst (Linked w.links k.call.code index) (own_code z) h.statement in
    let n0 = size_append one (given' ++ call) in
    let size = ap (λ u. size_of u) (own_code z) in
    let tree = Y.Calling c.procedure.head.number k.environment.level Y.NoArgument in
    let tail : Unit {0} → Meaning (Unit {0}) = λ u. V.called (at_line k.around line) tree >> give tt in
    let acts = p.state.world.acts in
    let closed = statement_closed k labels acts (index + size_with words k (call_of k c line)) wanted left' in
    comes_on w.acts (act counted w.acts p.state) tail
    (act_comes (before_closed w.acts tail closed) line credits 0 f (o.stands, o.image)
    (h.line_fits, h.callee.acts, omega (arith, paid, n0, size)) (front_of one (given' ++ call) l) there
    (λ g less at.
    let o' = acted_among line o less in
    comes_on w.acts (V.called (at_line k.around line) tree w.acts p'.state) behind_call
    (subst (Comes k.call.code 0 g (services_of p')
    (before k.call.code (statement_aims k labels acts (index + size_with words k (call_of k c line)) wanted left')
    w.acts behind_call))
    (sym (called_means h (newest_at b o')))
    (call_goes words low k c labels acts line index left' more h p' numbers wanted g o' b (omega arith)
    (made' p' numbers o') (body p' numbers o') (back_of one (given' ++ call) l) (size ∙ n0) at))))

-- where no words are set aside
pub call_comes :
    (k : Block) (c : Callee) (line index left' more : ℕ) → IsCall k c line index more →
    ((p : Point) (numbers : ℕ → ℕ) → IsAmong k numbers p →
    AreMade k.call.surroundings k.call.code c p numbers) →
    ((p : Point) (numbers : ℕ → ℕ) → IsAmong k numbers p →
    BodyComes k.call.surroundings k.call.code c p numbers) → IsBegun k → (labels : List Label) →
    Does k labels (call_of k c line) index left'
call_comes k c line index left' more h made' body = comes_with 0 (omega arith) k c line index left' more h made' body

pub call_with :
    (words : ℕ) → words < 2 ^ 20 → (k : Block) (c : Callee) (line index left' more : ℕ) →
    IsCallWith words k c line index more → ((p : Point) (numbers : ℕ → ℕ) → IsAmong k numbers p →
    AreMade k.call.surroundings k.call.code c p numbers) →
    ((p : Point) (numbers : ℕ → ℕ) → IsAmong k numbers p →
    IsBegun (block_at k.call.surroundings k.call.code c p numbers) →
    EachDoes (block_at k.call.surroundings k.call.code c p numbers) (labels_of c) c.procedure.body (body_index c)
    left_over) → IsBegun k → (labels : List Label) → DoesWith words k labels (call_of k c line) index left'
call_with words low k c line index left' more h made' each =
    let enough = h.enough in
    let turns = ap (λ (a : Around). a.turns) h.around in
    comes_with words low k c line index left' more h made'
    (λ p numbers o b o' f at.
    let later = o.later.acts in
    let same = ap (λ (u : World). u.acts) (made' p numbers o).world in
    body_goes k.call.surroundings k.call.code c p numbers f h.callee b o' (each p numbers o b)
    (omega (arith, enough, turns, later, same)) at)

pub call_does :
    (k : Block) (c : Callee) (line index left' more : ℕ) → IsCall k c line index more →
    ((p : Point) (numbers : ℕ → ℕ) → IsAmong k numbers p →
    AreMade k.call.surroundings k.call.code c p numbers) →
    ((p : Point) (numbers : ℕ → ℕ) → IsAmong k numbers p →
    IsBegun (block_at k.call.surroundings k.call.code c p numbers) →
    EachDoes (block_at k.call.surroundings k.call.code c p numbers) (labels_of c) c.procedure.body (body_index c)
    left_over) → IsBegun k → (labels : List Label) → Does k labels (call_of k c line) index left'
call_does k c line index left' more h made' each = call_with 0 (omega arith) k c line index left' more h made' each
