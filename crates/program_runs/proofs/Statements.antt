-- Null statements, RETURN and STOP, and lists of statements, at the points of a block.
use Rattle.std.proofs.Common.{◌≡◌, ℕ, suc, ◌+◌, ◌<◌, ◌≤◌, List, [], ◌∷◌, ◌++◌, Option, None, Some}
use Rattle.std.proofs.Common.{refl, sym, ap, ◌∙◌, subst, arith}
use Rattle.std.proofs.lemmas.Bool.{eq-eqb}
use Rattle.std.specs.Prelude.{cond}
use Rattle.pli_typing.specs.TypedTree as Y
use Rattle.pli_meaning.specs.BasicValues.{BasicValue}
use Rattle.pli_meaning.specs.declared.outcome.End.TheVariants as E
use Rattle.pli_meaning.specs.Control as F
use Rattle.pli_meaning.specs.Control.{Flow, Normal, Jump, Return, Paused, Stuck, Label, Meaning, act, finish, returns}
use Rattle.pli_meaning.specs.Control.{choose, looked, give, caught, list_from, ◌>>=◌, ◌>>◌}
use Rattle.pli_meaning.specs.Executing as M
use Rattle.pli_meaning.specs.StorageState.{State, newest_height}
use Rattle.pli_meaning.specs.World.{counted}
use Rattle.pli_serving.specs.ServiceState.{Services}
use Rattle.pli_coding.specs.Allocating.{act_code}
use Rattle.pli_coding.specs.Assembly.{JumpTo, ReturnPlace, size_of}
use Rattle.pli_coding.specs.Environments.{none_taken}
use Rattle.pli_coding.specs.Statements.{stmt_code, stmts_code, marked, returned_by, unwound_to}
use Rattle.image_runs.specs.Runs.{Whole}
use Rattle.activation_relation.specs.Entering.{Later}
use Rattle.activation_relation.specs.Landing.{Resumes}
use Rattle.activation_relation.specs.Layers.{Point, services_of}
use Rattle.activation_relation.proofs.Remaining.{remains_acted, remains_then}
use Rattle.activation_relation.proofs.Returning.{later_then}
use Rattle.activation_relation.proofs.Serials.{few_acted}
use Rattle.run_steps.specs.Engine.{Base}
use Rattle.run_steps.specs.Items.{Linked}
use Rattle.run_steps.proofs.Jumps.{front_of, back_of, jump_piece}
use Rattle.run_steps.proofs.Linking.{size_append}
use Rattle.run_steps.specs.Reach.{Family, Reach, Closed, Comes, before, cost, reached}
use Rattle.run_steps.proofs.Reach.{reach_then, reach_map, reach_with, onward, stay, comes_on, before_closed}
use Rattle.run_steps.specs.Temporaries.{nothing}
use Rattle.block_runs.specs.Bodies.{Called, AtEnd, IsResult, place_in}
use Rattle.block_runs.specs.Endings.{HasGiven}
use Rattle.block_runs.specs.Machines.{IsIn, AreIn, acted}
use Rattle.block_runs.proofs.CallStatements.{comes_map}
use Rattle.block_runs.proofs.PointActs.{act_comes, stands_acted}
use Rattle.block_runs.proofs.PointGrounds.{known_in, in_known, point_frame}
use Rattle.program_runs.specs.Statements.{Block, IsAmong, IsBegun, GoesOn, Does, EachDoes, HasAct, IsOwn, LandsAt}
use Rattle.program_runs.specs.Statements.{size_in, statement_aims}
use Rattle.program_runs.proofs.JumpsOut.{end_later, jumps_later, own_end, returns_later}
use Rattle.program_runs.proofs.Ends.{end_comes, ended_code, stopped_kind}

-- ---- what is aimed at may be reached later

goes_later :
    {k : Block} {acts index wanted : ℕ} {i i' : ℕ} {f : Family} {v v' : Services} {Q : Base → Whole → Type 0}
    {s : State} (r : Reach k.call.code i f v i' v' Q) → GoesOn k acts index wanted i' (reached r) v' s →
    GoesOn k acts index wanted i f v s
goes_later r o =
    record {
      point = o.point;
      numbers = o.numbers;
      among = o.among;
      since = o.since;
      state = o.state;
      reach = reach_then r o.reach;
    }

pub statement_closed :
    (k : Block) (labels : List Label) (acts index wanted left' : ℕ) →
    Closed k.call.code (statement_aims k labels acts index wanted left')
statement_closed k labels acts index wanted left' =
    record {
      done = λ r x s o. goes_later r o;
      jumped = λ r height label s o. jumps_later r o;
      returned = λ r x s o. returns_later r o;
    }

-- ---- points

acted_later : (line : ℕ) (p : Point) → Later p (acted line p)
acted_later line p =
    record {
      activations = refl;
      layers = refl;
      edits = refl;
      waiting = refl;
      acts = omega arith;
      remains = remains_acted p counted line;
    }

pub acted_among :
    {k : Block} {numbers : ℕ → ℕ} {p : Point} (line : ℕ) → IsAmong k numbers p →
    p.state.world.acts < k.call.surroundings.acts → IsAmong k numbers (acted line p)
acted_among {k} {numbers} {p} line o less =
    let known = stands_acted line o.stands o.image less in
    record {
      stands = known.0;
      image = known.1;
      later = later_then k.first p (acted line p) o.later (acted_later line p);
      few = few_acted k.call.surroundings p line o.few;
      entries = o.entries;
      others = o.others;
      words = o.words;
    }

pub goes_here :
    {k : Block} {index : ℕ} {numbers : ℕ → ℕ} {p : Point} (acts wanted : ℕ) (f : Family) →
    acts ≤ p.state.world.acts → IsAmong k numbers p → AreIn k.call.surroundings p numbers index f →
    GoesOn k acts index wanted wanted f (services_of p) p.state
goes_here {k} {index} {numbers} {p} acts wanted f since o there =
    record {
      point = p;
      numbers = numbers;
      among = o;
      since = since;
      state = refl;
      reach = stay k.call.code wanted f (services_of p) (λ b y. IsIn k.call.surroundings p numbers index b y) there;
    }

-- at the end of the block it resumes, with nothing changed but storage
pub resumes_among :
    {k : Block} {numbers : ℕ → ℕ} {p : Point} (b : IsBegun k) → IsAmong k numbers p →
    Resumes k.call.surroundings k.call.point.state.world.acts b.activation k.call.point.state.activations
    k.call.beginning.layer k.call.point.control.layers p
resumes_among b o =
    let r = b.resumes in
    let more = o.later.acts in
    let first = r.more in
    record {
      stands = o.stands;
      idle = o.later.waiting ∙ r.idle;
      changed = r.changed;
      layers = o.later.layers ∙ r.layers;
      own = r.own;
      activations = o.later.activations ∙ r.activations;
      more = omega (arith, more, first);
    }

none_given : (k : Called) → k.function ≡ None → IsResult k.function None 0
none_given k e = subst (λ o. IsResult o None 0) (sym e) refl

nothing_left : (k : Called) → k.function ≡ None → (y : Whole) → HasGiven k.beginning.layer (place_in k.function) 0 y
nothing_left k e y = subst (λ o. HasGiven k.beginning.layer (place_in o) 0 y) (sym e) refl

pub at_end :
    {k : Block} {acts left' c : ℕ} {f : Family} {v : Services} {s : State} → IsBegun k → k.call.function ≡ None →
    k.registers ≤ k.call.beginning.layer.saved → GoesOn k acts k.call.end left' c f v s →
    AtEnd k.call left' c f v None s
at_end {k} b none few o =
    record {
      point = o.point;
      after = o.numbers;
      activation = b.activation;
      resumes = resumes_among b o.among;
      image = o.among.image;
      remains = remains_then k.call.point k.first o.point b.remains o.among.later.remains;
      few = o.among.few;
      others = λ n more. o.among.others n (omega (arith, few, more));
      state = o.state;
      given = 0;
      result = none_given k.call none;
      reach = reach_map _ o.reach (λ b' y is. (is, nothing_left k.call none y));
    }

-- ---- statements

pub null_does :
    (k : Block) (line index left' : ℕ) → HasAct k line →
    Linked k.call.surroundings.links k.call.code index (stmt_code k.environment none_taken (Y.Null line)) →
    (labels : List Label) → Does k labels (Y.Null line) index left'
unfolding M.statement
null_does k line index left' h l labels p numbers c wanted f o paid there =
    let acts = p.state.world.acts in
    act_comes (statement_closed k labels acts (index + size_in k (Y.Null line)) wanted left') line c wanted f
    (o.stands, o.image) (h.line_fits, h.acts, paid) l there
    (λ g less at. goes_here acts wanted g (omega arith) (acted_among line o less) at)

-- where no act is allowed there is no such point
pub none_does :
    (k : Block) (labels : List Label) (stmt : Y.Stmt) (index left' : ℕ) → IsBegun k →
    k.call.surroundings.acts ≡ 0 → Does k labels stmt index left'
none_does k labels stmt index left' b none p numbers c wanted f o paid there =
    let more = o.later.acts in
    let first = b.acts in
    let few = o.stands.allowed in
    absurd (omega (arith, first, more, few, none))

returned_code :
    (k : Block) (left' : ℕ) → IsOwn k left' →
    returned_by k.environment 0 k.environment.owner ≡ JumpTo (ReturnPlace k.call.beginning.head.number) ∷ []
returned_code k left' own =
    let e = k.environment in
    ap (λ o. returned_by e 0 o) own.owner
    ∙ ap (λ q. cond q [] (unwound_to e.level 0) ++ JumpTo (ReturnPlace k.call.beginning.head.number) ∷ [])
    (eq-eqb e.level e.level refl)

jump_ends :
    (k : Block) (left' index : ℕ) (p : Point) (numbers : ℕ → ℕ) (f : Family) → IsOwn k left' → IsAmong k numbers p →
    Linked k.call.surroundings.links k.call.code index (JumpTo (ReturnPlace k.call.beginning.head.number) ∷ []) →
    AreIn k.call.surroundings p numbers index f → AtEnd k.call left' 0 f (services_of p) None p.state
jump_ends k left' index p numbers f own o l there =
    let h = point_frame o.stands o.image in
    let enough = own.enough in
    let r = jump_piece {t = λ n. 0} {rs = nothing} 0 left' f (ReturnPlace k.call.beginning.head.number) k.call.end
    (omega (arith, enough)) own.end own.near
    (record { reserved_stay = λ y u. refl; known_stay = λ b y u q. q; set = λ y u. refl }) l
    (λ b. known_in h (there b) tt) in
    at_end {acts = 0} own.begun own.function own.registers
    (record {
      point = p;
      numbers = numbers;
      among = o;
      since = omega arith;
      state = refl;
      reach = reach_map _ r (λ b y q. in_known h o.image.parts q);
    })

pub return_does :
    (k : Block) (line index left' : ℕ) → HasAct k line → IsOwn k left' →
    Linked k.call.surroundings.links k.call.code index (stmt_code k.environment none_taken (Y.Return line)) →
    (labels : List Label) → Does k labels (Y.Return line) index left'
unfolding M.statement ◌>>◌ returns
return_does k line index left' h own l labels p numbers c wanted f o paid there =
    let one = act_code line in
    let jump = JumpTo (ReturnPlace k.call.beginning.head.number) ∷ [] in
    let w = k.call.surroundings in
    let e = ap (λ u. one ++ u) (returned_code k left' own) in
    let l' = subst (Linked w.links k.call.code index) e l in
    let n0 = ap (λ u. size_of u) e in
    let n1 = size_append one jump in
    let closed = statement_closed k labels p.state.world.acts (index + size_in k (Y.Return line)) wanted left' in
    let next' : Unit {0} → Meaning (Unit {0}) = λ u. returns None in
    comes_on w.acts (act counted w.acts p.state) next'
    (act_comes (before_closed w.acts next' closed) line c 0 f (o.stands, o.image)
    (h.line_fits, h.acts, omega (arith, paid, n0, n1)) (front_of one jump l') there
    (λ g less at. record {
      to = λ early. own_end own.kind (jump_ends k left' (index + size_of one) (acted line p) numbers g own
          (acted_among line o less) (back_of one jump l') at);
    }))

pub stop_does :
    (k : Block) (line index left' : ℕ) → HasAct k line →
    Linked k.call.surroundings.links k.call.code index (stmt_code k.environment none_taken (Y.Stop line)) →
    (labels : List Label) → Does k labels (Y.Stop line) index left'
unfolding M.statement ◌>>◌
stop_does k line index left' h l labels p numbers c wanted f o paid there =
    let one = act_code line in
    let w = k.call.surroundings in
    let n = size_append one (ended_code 1) in
    let inside = l.inside in
    let closed = statement_closed k labels p.state.world.acts (index + size_in k (Y.Stop line)) wanted left' in
    let next' : Unit {0} → Meaning (Unit {0}) = λ u. finish E.Stopped in
    comes_on w.acts (act counted w.acts p.state) next'
    (act_comes (before_closed w.acts next' closed) line c 0 f (o.stands, o.image)
    (h.line_fits, h.acts, omega (arith, paid, n)) (front_of one (ended_code 1) l) there
    (λ g less at.
    let o' = acted_among line o less in
    end_comes closed 1 E.Stopped 0 g (o'.stands, o'.image) stopped_kind (omega (arith, inside, n), h.acts)
    (back_of one (ended_code 1) l) at))
