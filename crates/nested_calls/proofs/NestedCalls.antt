-- CALL of a procedure that the running block declares, or a block around it.
use Rattle.std.proofs.Common.{◌≡◌, ℕ, suc, ◌+◌, ◌<◌, ◌≤◌, List, [], ◌∷◌, ◌++◌, length, Option, Bool, true}
use Rattle.std.proofs.Common.{false, inl, inr, refl, sym, ap, ◌∙◌, subst, arith}
use Rattle.std.proofs.lemmas.Bool.{eq-eqb, eqb-true, eqb-false}
use Rattle.std.proofs.lemmas.List.{append_assoc}
use Rattle.std.specs.Prelude.{cond, nat_lt, ◌==◌}
use Rattle.rv_meaning.specs.Machine.{memory_size}
use Rattle.pli_typing.specs.TypedTree as Y
use Rattle.pli_meaning.specs.BasicValues.{BasicValue}
use Rattle.pli_meaning.specs.Control.{Label, Meaning, act, give, looked, ◌>>=◌, ◌>>◌}
use Rattle.pli_meaning.specs.Evaluating as V
use Rattle.pli_meaning.specs.Executing as M
use Rattle.pli_meaning.specs.Executing.{begun}
use Rattle.pli_meaning.specs.Raising.{Around, Entry, at_line}
use Rattle.pli_meaning.specs.StorageState.{State, ancestor, ancestor_at, height_of, newest_height}
use Rattle.pli_meaning.specs.StorageState.{most_activations}
use Rattle.pli_meaning.specs.World.{World, counted}
use Rattle.pli_coding.specs.Allocating.{act_code}
use Rattle.pli_coding.specs.Assembly.{CallTo, Code, ProcedureEntry, size_of}
use Rattle.pli_coding.specs.Frames.{fixed_size, words_place}
use Rattle.pli_coding.specs.Instructions.{number, plus}
use Rattle.pli_coding.specs.Registers.{a1, a2, frame_register}
use Rattle.pli_coding.specs.Statements.{stmt_code}
use Rattle.activation_relation.specs.Chains.{HasParent, frame_at}
use Rattle.activation_relation.specs.CodeStores.{most_levels}
use Rattle.activation_relation.specs.Frames.{frame_under, lower_end}
use Rattle.activation_relation.specs.Layers.{Point, services_of}
use Rattle.activation_relation.proofs.Blocks.{same_length}
use Rattle.activation_relation.proofs.Displays.{ancestor_low}
use Rattle.activation_relation.proofs.Returning.{later_then}
use Rattle.run_steps.specs.Items.{Linked}
use Rattle.run_steps.proofs.Jumps.{back_of, front_of}
use Rattle.run_steps.proofs.Linking.{size_append}
use Rattle.run_steps.specs.Reach.{Comes, Family, before}
use Rattle.run_steps.proofs.Reach.{before_closed, comes_on, onward, reach_map}
use Rattle.run_steps.specs.Reaching.{Reaches}
use Rattle.block_runs.specs.Bodies.{IsBehind, behind_aims}
use Rattle.block_runs.specs.Machines.{AreIn, IsIn, acted}
use Rattle.block_runs.proofs.CallStatements.{comes_map}
use Rattle.block_runs.proofs.Places.{frame_found, inside_memory}
use Rattle.block_runs.proofs.PointActs.{act_comes}
use Rattle.block_runs.proofs.PointGrounds.{point_frame, point_ground}
use Rattle.program_runs.specs.Calls.{AreMade, Callee, block_at, body_index, called_at, labels_of, left_over}
use Rattle.program_runs.specs.Procedures.{HasRoom, beginning_for, block_of, frame_for}
use Rattle.program_runs.specs.Statements.{Block, DoesWith, EachDoes, GoesOn, IsAmong, IsBegun, own_height, set_aside}
use Rattle.program_runs.specs.Statements.{size_with, statement_aims}
use Rattle.program_runs.proofs.Calls.{BodyComes, body_goes, procedure_comes}
use Rattle.program_runs.proofs.NewestBlocks.{newest_at, own_ancestor}
use Rattle.program_runs.proofs.Statements.{acted_among, statement_closed}
use Rattle.expression_runs.specs.Variables.{IsFrameOf}
use Rattle.expression_runs.proofs.VariablePoints.{reaches_by}
use Rattle.nested_calls.specs.Nested.{IsNested, given_code, parent_at, parent_code}
use Rattle.nested_calls.specs.NestedCalls.{IsNestedCall, call_at}
use Rattle.nested_calls.proofs.GivenCode.{given}

-- ---- the frame of the static parent

pub parent_frame_of :
    {k : Block} {numbers : ℕ → ℕ} {p : Point} (level : ℕ) → IsNested k → IsBegun k → IsAmong k numbers p →
    level ≤ k.environment.level → IsFrameOf k level (frame_at k.first.control.layers (parent_at k level))
parent_frame_of {k} {p = p} level nest b o within = by (level == k.environment.level) refl
  where
    by :
        (q : Bool) → (level == k.environment.level) ≡ q →
        IsFrameOf k level (frame_at k.first.control.layers (parent_at k level))
    by true e =
        let n = newest_at b o in
        let parts = k.call.surroundings.parts in
        let φs = k.call.point.control.layers in
        let same : level ≡ k.environment.level = eqb-true level k.environment.level e in
        let height : parent_at k level ≡ own_height k =
        ap (λ xs. height_of (ancestor xs (newest_height xs) level)) (sym o.later.activations)
        ∙ ap (λ j. height_of (ancestor_at p.state j)) same ∙ own_ancestor nest.own n in
        let many = n.many in
        let newest : own_height k ≡ suc (length φs) = omega (arith, many) in
        let there : frame_at p.control.layers (own_height k) ≡ frame_under parts p.control.layers =
        subst (λ ls. frame_at ls (own_height k) ≡ frame_under parts ls) (sym n.layers)
        (ap (λ q. cond q n.layer.at (frame_at φs (own_height k))) (eq-eqb (own_height k) (suc (length φs)) newest)) in
        inl (
          e,
          ap (λ j. frame_at k.first.control.layers j) height
              ∙ subst (λ ls. frame_at ls (own_height k) ≡ frame_under parts ls) o.later.layers there,
        )
    by false e =
        let apart = eqb-false level k.environment.level e in
        let own = nest.own in
        inr (
          e,
          omega (arith, apart, own, within),
          nest.some level within,
          subst (λ n. n < most_levels) nest.own nest.few,
          refl,
        )

-- it stands in memory
pub parent_inside :
    {k : Block} {numbers : ℕ → ℕ} {p : Point} (level : ℕ) → IsNested k → IsAmong k numbers p →
    level ≤ k.environment.level → frame_at k.first.control.layers (parent_at k level) < memory_size
parent_inside {k} {p = p} level nest o within =
    let w = k.call.surroundings in
    let height = parent_at k level in
    let low = nest.some level within in
    let short = ancestor_low w.units p.state.activations p.control.layers (newest_height p.state.activations) level
    o.stands.active in
    let many = same_length w.units p.state.activations p.control.layers o.stands.active in
    let later = ap (λ xs. height_of (ancestor xs (newest_height xs) level)) o.later.activations in
    subst (λ ls. frame_at ls height < memory_size) o.later.layers
    (inside_memory (frame_at p.control.layers height)
    (frame_found w.parts p.control.layers height o.image.parts o.stands.laid o.image.even (omega (arith, low))
    (omega (arith, short, many, later))))

pub parent_reached :
    {k : Block} {numbers : ℕ → ℕ} {p : Point} (level : ℕ) → IsNested k → IsBegun k → (o : IsAmong k numbers p) →
    level ≤ k.environment.level →
    Reaches (level == k.environment.level) level
    (point_ground k.call.surroundings p (point_frame o.stands o.image))
    (frame_at k.first.control.layers (parent_at k level))
parent_reached {k} level nest b o within =
    reaches_by level (frame_at k.first.control.layers (parent_at k level)) (point_frame o.stands o.image) b o
    (parent_frame_of level nest b o within)

pub is_parent :
    {k : Block} {numbers : ℕ → ℕ} {p : Point} (level inner parent : ℕ) → IsNested k → IsAmong k numbers p →
    level ≤ k.environment.level → inner ≡ suc level → parent ≡ parent_at k level →
    HasParent inner parent p.state.activations
is_parent {k} {p = p} level inner parent nest o within e f =
    subst (λ n. HasParent n parent p.state.activations) (sym e) (
      subst (λ h. 0 < h) (sym f) (nest.some level within),
      ap (λ h. height_of (ancestor p.state.activations h level)) f
          ∙ ap (λ xs. height_of (ancestor xs (parent_at k level) level)) o.later.activations
          ∙ ap height_of (nest.same level level (omega arith) within)
          ∙ sym f,
    )

-- ---- at each of the block's points

pub room_among :
    {words : ℕ} {k : Block} {c : Callee} {level line index more : ℕ} {numbers : ℕ → ℕ} {p : Point} →
    IsNestedCall words k c level line index more → nat_lt (length k.first.state.activations) most_activations ≡ true →
    IsAmong k numbers p → HasRoom k.call.surroundings p c.procedure c.calling
room_among {k} {c} {level} h few o =
    let parts = k.call.surroundings.parts in
    let x = c.procedure in
    record {
      room = subst (λ ls. frame_for parts ls x + fixed_size x.head.level 0 ≤ lower_end parts ls) (sym o.later.layers)
          h.frame;
      shallow = subst (λ xs. nat_lt (length xs) most_activations ≡ true) (sym o.later.activations) few;
      parent = is_parent level x.head.level c.calling.parent h.nested o h.around_it h.inner h.parent;
      idle = o.later.waiting ∙ h.idle;
    }

-- what the call means
pub called_means :
    {words : ℕ} {k : Block} {c : Callee} {level line index more : ℕ} {numbers : ℕ → ℕ} {p : Point} →
    IsNestedCall words k c level line index more → IsAmong k numbers p →
    V.called (at_line k.around line) (Y.Calling c.procedure.head.number level Y.NoArgument)
    k.call.surroundings.acts p.state
    ≡ M.block_run c.around (block_of c.procedure) (begun (block_of c.procedure) c.calling.parent)
    k.call.surroundings.acts p.state
unfolding V.called V.arguments V.all_passed_last V.procedure_entered M.entered looked give ◌>>=◌ ◌>>◌
called_means {k} {c} {level} {line} {more = more} {p = p} h o =
    let s = p.state in
    let acts = k.call.surroundings.acts in
    let block = block_of c.procedure in
    let height = height_of (ancestor_at s level) in
    ap (λ q. V.procedure_entered (at_line k.around line) q level [] acts s) h.found
    ∙ ap (λ (enters : Entry → Meaning (Option BasicValue)). enters (begun block height) acts s) h.enter
    ∙ ap (λ (a : Around). M.block_run a block (begun block height) acts s) (sym h.around)
    ∙ ap (λ m. M.block_run c.around block (begun block m) acts s)
    (ap (λ xs. height_of (ancestor xs (newest_height xs) level)) o.later.activations ∙ sym h.parent)

-- ---- its code

abbrev pub given_in : (words : ℕ) → Block → (level : ℕ) → Code
given_in words k level = given_code (level == k.environment.level) words level

abbrev pub call_of : Callee → Code
call_of c = CallTo (ProcedureEntry c.procedure.head.number) ∷ []

pub call_coded :
    (words : ℕ) (k : Block) (c : Callee) (level line : ℕ) →
    stmt_code k.environment (set_aside words) (call_at c level line)
    ≡ act_code line ++ (given_in words k level ++ call_of c)
call_coded words k c level line =
    let q = level == k.environment.level in
    let list = plus a1 frame_register (words_place words 0) in
    ap (λ u. act_code line ++ (list ++ u)) (sym (append_assoc (number a2 0) (parent_code q level) (call_of c)))
    ∙ ap (λ u. act_code line ++ u) (sym (append_assoc list (number a2 0 ++ parent_code q level) (call_of c)))

-- ---- the statement

abbrev pub behind_call : Option BasicValue → Meaning (Unit {0})
behind_call r = give tt

-- behind the call its block goes on
pub behind_goes :
    {words : ℕ} {k : Block} {c : Callee} {acts level line index more wanted credits : ℕ} {numbers : ℕ → ℕ}
    {p : Point} {f : Family} {r : Option BasicValue} {s : State} {v : _}
    (h : IsNestedCall words k c level line index more)
    (o : IsAmong k numbers p) →
    acts ≤ p.state.world.acts →
    IsBehind (called_at k.call.surroundings k.call.code c p numbers) wanted credits f v r s →
    GoesOn k acts (index + size_with words k (call_at c level line)) wanted credits f v s
behind_goes {k} {numbers = numbers} {p = p} h o since q =
    let w = k.call.surroundings in
    let more = q.later.acts in
    record {
      point = q.point;
      numbers = numbers;
      among = record {
        stands = q.stands;
        image = q.image;
        later = later_then k.first p q.point o.later q.later;
        few = q.few;
        entries = q.entries ∙ o.entries;
        others = o.others;
        words = o.words;
      };
      since = omega (arith, since, more);
      state = q.state;
      reach = reach_map _ q.reach (λ b y is. subst (λ n. IsIn w q.point numbers n b y) h.call is.0);
    }

call_goes :
    (words : ℕ) (k : Block) (c : Callee) (labels : List Label) (acts level line index left' more : ℕ)
    (h : IsNestedCall words k c level line index more) (p : Point) (numbers : ℕ → ℕ) (wanted : ℕ) (f : Family)
    (o : IsAmong k numbers p) → nat_lt (length k.first.state.activations) most_activations ≡ true → IsBegun k →
    acts ≤ p.state.world.acts → AreMade k.call.surroundings k.call.code c p numbers →
    BodyComes k.call.surroundings k.call.code c p numbers →
    Linked k.call.surroundings.links k.call.code (index + size_of (act_code line))
    (given_in words k level ++ call_of c) →
    size_with words k (call_at c level line) ≡ size_of (act_code line) + size_of (given_in words k level ++ call_of c) →
    AreIn k.call.surroundings p numbers (index + size_of (act_code line)) f →
    Comes k.call.code 0 f (services_of p)
    (before k.call.code (statement_aims k labels acts (index + size_with words k (call_at c level line)) wanted left')
    k.call.surroundings.acts behind_call)
    (M.block_run c.around (block_of c.procedure) (begun (block_of c.procedure) c.calling.parent)
    k.call.surroundings.acts p.state)
unfolding give
call_goes words k c labels acts level line index left' more h p numbers wanted f o few b since made' body l size there =
    let w = k.call.surroundings in
    let given' = given_in words k level in
    let call = call_of c in
    let n = size_append given' call in
    let inside = l.inside in
    let proc = h.callee.stands.inside in
    let at_call = h.call in
    let aims = statement_aims k labels acts (index + size_with words k (call_at c level line)) wanted left' in
    let flow = M.block_run c.around (block_of c.procedure) (begun (block_of c.procedure) c.calling.parent) w.acts
    p.state in
    let base = frame_at k.first.control.layers (parent_at k level) in
    let closed = statement_closed k labels acts (index + size_with words k (call_at c level line)) wanted left' in
    onward (before_closed w.acts behind_call closed)
    (given (level == k.environment.level) words level base (beginning_for w p numbers c.procedure c.calling)
    (index + size_of (act_code line)) 0 f o.stands o.image (h.low, refl)
    (parent_reached level h.nested b o h.around_it) (
      parent_inside level h.nested o h.around_it,
      ap (λ ls. frame_at ls (parent_at k level)) (sym o.later.layers)
          ∙ ap (λ n. frame_at p.control.layers n) (sym h.parent),
    )
    (front_of given' call l) there)
    (λ g at.
    comes_map (behind_aims (called_at w k.call.code c p numbers) wanted)
    (before k.call.code aims w.acts behind_call) refl flow
    (λ c' f' v' r s q. record { to = λ early. behind_goes h o since q })
    (λ c' f' v' height label s q. absurd q)
    (λ c' f' v' r s q. absurd q)
    (procedure_comes w k.call.code c p numbers (0 + size_of given') wanted g (o.stands, o.image) o.few
    (h.callee, room_among h few o) made' o.words body (omega (arith, n, inside, proc))
    (λ b. subst (λ j. IsIn w p numbers j b (g b)) (omega (arith, n, size, at_call)) (at b).0)
    (λ b. (at b).1)))

-- if the procedure's body comes to its end
call_comes :
    (words : ℕ) (k : Block) (c : Callee) (level line index left' more : ℕ) →
    IsNestedCall words k c level line index more →
    nat_lt (length k.first.state.activations) most_activations ≡ true →
    ((p : Point) (numbers : ℕ → ℕ) → IsAmong k numbers p →
    AreMade k.call.surroundings k.call.code c p numbers) →
    ((p : Point) (numbers : ℕ → ℕ) → IsAmong k numbers p →
    BodyComes k.call.surroundings k.call.code c p numbers) → IsBegun k → (labels : List Label) →
    DoesWith words k labels (call_at c level line) index left'
unfolding M.statement ◌>>=◌ ◌>>◌
call_comes words k c level line index left' more h few made' body b labels p numbers credits wanted f o paid there =
    let w = k.call.surroundings in
    let p' = acted line p in
    let one = act_code line in
    let given' = given_in words k level in
    let call = call_of c in
    let eq = call_coded words k c level line in
    let l = subst (Linked w.links k.call.code index) eq h.statement in
    let n0 = size_append one (given' ++ call) in
    let size = ap (λ u. size_of u) eq in
    let tree = Y.Calling c.procedure.head.number level Y.NoArgument in
    let tail : Unit {0} → Meaning (Unit {0}) = λ u. V.called (at_line k.around line) tree >> give tt in
    let acts = p.state.world.acts in
    let closed = statement_closed k labels acts (index + size_with words k (call_at c level line)) wanted left' in
    comes_on w.acts (act counted w.acts p.state) tail
    (act_comes (before_closed w.acts tail closed) line credits 0 f (o.stands, o.image)
    (h.line_fits, h.callee.acts, omega (arith, paid, n0, size)) (front_of one (given' ++ call) l) there
    (λ g less at.
    let o' = acted_among line o less in
    comes_on w.acts (V.called (at_line k.around line) tree w.acts p'.state) behind_call
    (subst (Comes k.call.code 0 g (services_of p')
    (before k.call.code (statement_aims k labels acts (index + size_with words k (call_at c level line)) wanted left')
    w.acts
    behind_call))
    (sym (called_means h o'))
    (call_goes words k c labels acts level line index left' more h p' numbers wanted g o' few b (omega arith)
    (made' p' numbers o')
    (body p' numbers o') (back_of one (given' ++ call) l) (size ∙ n0) at))))

pub nested_call_does :
    (words : ℕ) (k : Block) (c : Callee) (level line index left' more : ℕ) →
    IsNestedCall words k c level line index more →
    nat_lt (length k.first.state.activations) most_activations ≡ true →
    ((p : Point) (numbers : ℕ → ℕ) → IsAmong k numbers p →
    AreMade k.call.surroundings k.call.code c p numbers) →
    ((p : Point) (numbers : ℕ → ℕ) → IsAmong k numbers p →
    IsBegun (block_at k.call.surroundings k.call.code c p numbers) →
    EachDoes (block_at k.call.surroundings k.call.code c p numbers) (labels_of c) c.procedure.body (body_index c)
    left_over) → IsBegun k → (labels : List Label) → DoesWith words k labels (call_at c level line) index left'
nested_call_does words k c level line index left' more h few made' each =
    let enough = h.enough in
    let turns = ap (λ (a : Around). a.turns) h.around in
    call_comes words k c level line index left' more h few made'
    (λ p numbers o b o' f at.
    let later = o.later.acts in
    let same = ap (λ (u : World). u.acts) (made' p numbers o).world in
    body_goes k.call.surroundings k.call.code c p numbers f h.callee b o' (each p numbers o b)
    (omega (arith, enough, turns, later, same)) at)
