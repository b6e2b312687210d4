-- A procedure's own list with ON among its first statements: what follows is a list of its own.
use Rattle.std.proofs.Common.{◌≡◌, ℕ, zero, suc, ◌+◌, ◌<◌, ◌≤◌, List, [], ◌++◌, Option, Some, None, refl, sym, ap, ◌∙◌}
use Rattle.std.proofs.Common.{subst, arith}
use Rattle.std.specs.Prelude.{◌&&◌, ◌==◌, cond}
use Rattle.rv_meaning.specs.declared.instr.Instr.{Instr}
use Rattle.pli_typing.specs.TypedTree as Y
use Rattle.pli_meaning.specs.BasicValues.{BasicValue}
use Rattle.pli_meaning.specs.Control as F
use Rattle.pli_meaning.specs.Control.{Flow, Jump, Label, Meaning, Normal, Paused, Return, Stuck, caught, choose}
use Rattle.pli_meaning.specs.Control.{flow_on, is_among, list_from, looked, ◌>>=◌, ◌>>◌}
use Rattle.pli_meaning.specs.Executing as M
use Rattle.pli_meaning.specs.Raising.{Around}
use Rattle.pli_meaning.specs.StorageState.{State, first_state, newest_height}
use Rattle.pli_serving.specs.ServiceState.{Services}
use Rattle.pli_coding.specs.Assembly.{size_of}
use Rattle.pli_coding.specs.Environments.{none_taken}
use Rattle.pli_coding.specs.Statements.{stmt_code, stmts_code}
use Rattle.area_keeper.specs.KeeperLaws.{Keeps}
use Rattle.run_keeper.specs.RunKeeper.{run_keeper}
use Rattle.activation_relation.specs.Landing.{closed, either}
use Rattle.activation_relation.specs.Layers.{Point, services_of}
use Rattle.run_steps.proofs.Linking.{size_append}
use Rattle.run_steps.specs.Reach.{Aims, Comes, Family}
use Rattle.run_steps.proofs.Reach.{onward}
use Rattle.block_runs.specs.Bodies.{AtEnd, body_aims}
use Rattle.block_runs.proofs.CallStatements.{comes_map}
use Rattle.program_runs.specs.Calls.{AreMade, Callee, IsCall, block_at, body_index, call_of, left_over}
use Rattle.program_runs.specs.Programs.{IsWhole, Whole, main_of}
use Rattle.program_runs.specs.Starts.{first_family, no_numbers, start_point, surroundings_of, never_in}
use Rattle.program_runs.specs.Statements.{AreMarked, IsAmong, Block, Does, EachDoes, IsBegun, ReturnsOut, ReturnsTo}
use Rattle.program_runs.specs.Statements.{size_in, statement_aims}
use Rattle.program_runs.proofs.CallStatements.{call_comes}
use Rattle.program_runs.proofs.Calls.{body_closed}
use Rattle.program_runs.proofs.JumpsOut.{no_jump}
use Rattle.program_runs.proofs.Lists.{list_does}
use Rattle.program_runs.proofs.NewestBlocks.{newest_at, newest_own}
use Rattle.program_runs.proofs.Programs.{program_comes}
use Rattle.program_runs.proofs.Statements.{at_end}
use Rattle.unit_runs.specs.Bodies.{BodiesDo, BodyDoes, IsBody, IsFirst, IsFirstOn, before_rest}
use Rattle.unit_runs.specs.Establishing.{OnUnit, behind_on, on_of}
use Rattle.unit_runs.proofs.Establishing.{unit_begun, unit_does}

-- ---- what follows the first statement, as a list

caught_same :
    (k height : ℕ) (labels : List Label) (flow : Flow (Unit {0})) (next other : Label → Meaning (Unit {0})) →
    ((label : Label) (s : State) → next label k s ≡ other label k s) →
    caught k height labels flow next ≡ caught k height labels flow other
caught_same k height labels (Normal r s) next other h = refl
caught_same k height labels (Jump h' label s) next other h =
    ap (λ (x : Flow (Unit {0})). cond ((h' == height) && is_among label labels) x (Jump h' label s)) (h label s)
caught_same k height labels (Return v s) next other h = refl
caught_same k height labels (F.Ended s) next other h = refl
caught_same k height labels (Paused s) next other h = refl
caught_same k height labels Stuck next other h = refl

-- a jump to one of its labels goes on in it, with the first statement before it or without
from_same :
    (n : ℕ) (around : Around) (first : Y.Stmt) (rest : Y.Stmts) (k height : ℕ) (labels : List Label) (label : Label)
    (s : State) →
    list_from n height labels (M.statements around rest) (Some label) k s
    ≡ list_from n height labels (M.statements around (before_rest first rest)) (Some label) k s
unfolding list_from M.statements choose
from_same zero around first rest k height labels label s = refl
from_same (suc n) around first rest k height labels label s =
    caught_same k height labels (M.statements around rest (Some label) k s)
    (λ l. list_from n height labels (M.statements around rest) (Some l))
    (λ l. list_from n height labels (M.statements around (before_rest first rest)) (Some l))
    (λ l s'. from_same n around first rest k height labels l s')

pub rest_is :
    (around : Around) (first : Y.Stmt) (rest : Y.Stmts) (n k height : ℕ) (s : State) → around.turns ≡ suc n →
    newest_height s.activations ≡ height →
    M.list around rest k s
    ≡ caught k height (M.labels_in rest) (M.statements around rest None k s)
    (λ label. list_from n height (M.labels_in rest) (M.statements around (before_rest first rest)) (Some label))
unfolding M.list M.list_with looked ◌>>=◌ list_from
rest_is around first rest n k height s turns same =
    let labels = M.labels_in rest in
    ap (λ t. list_from t (newest_height s.activations) labels (M.statements around rest) None k s) turns
    ∙ ap (λ h. list_from (suc n) h labels (M.statements around rest) None k s) same
    ∙ caught_same k height labels (M.statements around rest None k s)
    (λ l. list_from n height labels (M.statements around rest) (Some l))
    (λ l. list_from n height labels (M.statements around (before_rest first rest)) (Some l))
    (λ l s'. from_same n around first rest k height labels l s')

-- ---- where the first statement goes on

abbrev pub first_aims :
    List Instr → Aims (Unit {0}) → (k height : ℕ) → List Label → Meaning (Unit {0}) → (Label → Meaning (Unit {0})) →
    Aims (Unit {0})
first_aims code goal k height labels rest next' =
    record {
      limits = goal.limits;
      done = λ c f v r s. Comes code c f v goal (caught k height labels (rest k s) next');
      jumped = λ c f v h label s. Comes code c f v goal (caught k height labels (Jump h label s) next');
      returned = λ c f v r s. goal.returned c f v r s;
    }

comes_first :
    {code : List Instr} {goal : Aims (Unit {0})} {c : ℕ} {f : Family} {v : Services} (k height : ℕ)
    (labels : List Label) (flow : Flow (Unit {0})) (rest : Meaning (Unit {0})) (next' : Label → Meaning (Unit {0})) →
    Comes code c f v (first_aims code goal k height labels rest next') flow →
    Comes code c f v goal (caught k height labels (flow_on k flow (λ u. rest)) next')
comes_first k height labels (Normal r s) rest next' o = record { to = λ early. (o.to early).to early }
comes_first k height labels (Jump h label s) rest next' o = record { to = λ early. (o.to early).to early }
comes_first k height labels (Return r s) rest next' o = record { to = o.to }
comes_first k height labels (F.Ended s) rest next' o = record { to = o.to }
comes_first k height labels (Paused s) rest next' o = record { to = o.to }
comes_first k height labels Stuck rest next' o = record { to = o.to }

pub own_return :
    {k : Block} {left' c : ℕ} {f : Family} {v : Services} {r : Option BasicValue} {s : State} (body : Y.Stmts)
    (index : ℕ) → IsBody k body index → ReturnsTo k left' c f v r s → AtEnd k.call left' c f v r s
own_return {k} {left'} {c} {f} {v} {r} {s} body index h o =
    subst (λ q. either q (ReturnsOut k.call.surroundings k.call.code k.outers left' c f v r (closed s))
    (AtEnd k.call left' c f v r s)) h.kind o.to

-- a list is its first statement and the rest, if the statement makes no jump in it
pub splits :
    (k : Block) (goal : Aims (Unit {0})) (first : Y.Stmt) (rest : Y.Stmts) (p : Point) (c : ℕ) (f : Family)
    (v : Services) →
    k.call.surroundings.acts < k.around.turns + p.state.world.acts → p.state.world.acts ≤ k.call.surroundings.acts →
    ((n : ℕ) → k.around.turns ≡ suc n →
    Comes k.call.code c f v
    (first_aims k.call.code goal k.call.surroundings.acts (newest_height p.state.activations) (M.labels_in rest)
    (M.statements k.around rest None)
    (λ l. list_from n (newest_height p.state.activations) (M.labels_in rest)
    (M.statements k.around (before_rest first rest)) (Some l)))
    (M.statement k.around first k.call.surroundings.acts p.state)) →
    Comes k.call.code c f v goal (M.list k.around (before_rest first rest) k.call.surroundings.acts p.state)
unfolding M.list M.list_with looked ◌>>=◌ ◌>>◌ M.statements choose list_from
splits k goal first rest p c f v few allowed comes = by k.around.turns refl
  where
    height : ℕ
    height = newest_height p.state.activations

    acts : ℕ
    acts = k.call.surroundings.acts

    whole : (t : ℕ) → Flow (Unit {0})
    whole t =
        list_from t height (M.labels_in rest) (M.statements k.around (before_rest first rest)) None acts p.state

    turned :
        (n : ℕ) →
        Comes k.call.code c f v goal
        (caught acts height (M.labels_in rest)
        (flow_on acts (M.statement k.around first acts p.state) (λ u. M.statements k.around rest None))
        (λ l. list_from n height (M.labels_in rest) (M.statements k.around (before_rest first rest)) (Some l))) →
        Comes k.call.code c f v goal (whole (suc n))
    turned n o = o

    by : (t : ℕ) → k.around.turns ≡ t → Comes k.call.code c f v goal (whole k.around.turns)
    by zero e = absurd (omega (arith, e, few, allowed))
    by (suc n) e =
        subst (λ t. Comes k.call.code c f v goal (whole t)) (sym e)
        (turned n
        (comes_first {code = k.call.code} {goal = goal} acts height (M.labels_in rest)
        (M.statement k.around first acts p.state) (M.statements k.around rest None)
        (λ l. list_from n height (M.labels_in rest) (M.statements k.around (before_rest first rest)) (Some l))
        (comes n e)))

-- ---- the laws

pub list_ends :
    (k : Block) (body : Y.Stmts) (index left' : ℕ) → IsBody k body index →
    AreMarked k.call.surroundings.links k.environment body index →
    EachDoes k (M.labels_in body ++ []) body index left' → BodyDoes k body index left'
list_ends k body index left' h marks each p numbers f o there =
    let w = k.call.surroundings in
    let acts = p.state.world.acts in
    let flow = M.list k.around body w.acts p.state in
    let inside = h.linked.inside in
    let enough = h.enough in
    let more = o.later.acts in
    comes_map (statement_aims k [] acts k.call.end left' left') (body_aims k.call left') refl flow
    (λ c' f' v' r s q. at_end h.begun h.function h.registers q)
    (λ c' f' v' height label s q. no_jump h.outers q)
    (λ c' f' v' r s q. own_return body index h q)
    (subst (λ j. Comes k.call.code 0 f (services_of p) (statement_aims k [] acts j left' left') flow) (sym h.end)
    (list_does k [] body index left' p numbers 0 left' f h.begun (omega (arith, enough, more)) each marks o h.linked
    (omega arith, omega (arith, inside)) there))

pub rest_size :
    (k : Block) (first : Y.Stmt) (rest : Y.Stmts) →
    size_of (stmts_code k.environment none_taken (before_rest first rest))
    ≡ size_in k first + size_of (stmts_code k.environment none_taken rest)
rest_size k first rest =
    size_append (stmt_code k.environment none_taken first) (stmts_code k.environment none_taken rest)

pub first_ends :
    (k : Block) (first : Y.Stmt) (rest : Y.Stmts) (index left' : ℕ) → IsFirst k first rest index left' →
    BodyDoes k (before_rest first rest) index left'
first_ends k first rest index left' is p numbers f o there =
    let h = is.body in
    let w = k.call.surroundings in
    let enough = h.enough in
    let more = o.later.acts in
    let inside = h.linked.inside in
    let n = rest_size k first rest in
    let height = newest_height p.state.activations in
    splits k (body_aims k.call left') first rest p 0 f (services_of p) (omega (arith, enough, more)) o.stands.allowed
    (λ m turns.
    let next' : Label → Meaning (Unit {0}) = λ l. list_from m height (M.labels_in rest)
    (M.statements k.around (before_rest first rest)) (Some l) in
    comes_map (statement_aims k [] p.state.world.acts (index + size_in k first) 0 left')
    (first_aims k.call.code (body_aims k.call left') w.acts height (M.labels_in rest) (M.statements k.around rest None)
    next') refl
    (M.statement k.around first w.acts p.state)
    (λ c' f' v' r s q.
    subst (λ u. Comes k.call.code c' f' v' (body_aims k.call left')
    (caught w.acts height (M.labels_in rest) (M.statements k.around rest None w.acts u) next')) (sym q.state)
    (onward (body_closed k.call left') q.reach
    (λ g at.
    subst (Comes k.call.code 0 g (services_of q.point) (body_aims k.call left'))
    (rest_is k.around first rest m w.acts height q.point.state turns
    (newest_own (newest_at h.begun q.among) ∙ sym (newest_own (newest_at h.begun o))))
    (is.goes q.point q.numbers g q.among at))))
    (λ c' f' v' h' label s q. no_jump h.outers q)
    (λ c' f' v' r s q. own_return (before_rest first rest) index h q)
    (is.does p numbers 0 0 f o (omega (arith, n, inside)) there))

pub on_ends :
    (k : Block) (x : OnUnit) (rest : Y.Stmts) (index left' : ℕ) → IsFirstOn k x rest index left' →
    BodyDoes k (before_rest (on_of x) rest) index left'
on_ends k x rest index left' is p numbers f o there =
    let h = is.body in
    let on = is.on in
    let w = k.call.surroundings in
    let first = on_of x in
    let k' = behind_on k x index in
    let b' = unit_begun k x index on in
    let enough = h.enough in
    let more = o.later.acts in
    let inside = h.linked.inside in
    let n = rest_size k first rest in
    let height = newest_height p.state.activations in
    splits k (body_aims k.call left') first rest p 0 f (services_of p) (omega (arith, enough, more)) o.stands.allowed
    (λ m turns.
    let next' : Label → Meaning (Unit {0}) = λ l. list_from m height (M.labels_in rest)
    (M.statements k.around (before_rest first rest)) (Some l) in
    comes_map (statement_aims k' [] p.state.world.acts (index + size_in k first) 0 left')
    (first_aims k.call.code (body_aims k.call left') w.acts height (M.labels_in rest) (M.statements k.around rest None)
    next') refl
    (M.statement k.around first w.acts p.state)
    (λ c' f' v' r s q.
    subst (λ u. Comes k.call.code c' f' v' (body_aims k.call left')
    (caught w.acts height (M.labels_in rest) (M.statements k.around rest None w.acts u) next')) (sym q.state)
    (onward (body_closed k.call left') q.reach
    (λ g at.
    subst (Comes k.call.code 0 g (services_of q.point) (body_aims k.call left'))
    (rest_is k.around first rest m w.acts height q.point.state turns
    (newest_own (newest_at b' q.among) ∙ sym (newest_own (newest_at h.begun o))))
    (is.goes q.point q.numbers g q.among at))))
    (λ c' f' v' h' label s q. no_jump h.outers q)
    (λ c' f' v' r s q. own_return (before_rest first rest) index h (record { to = q.to }))
    (unit_does k [] x index left' on p numbers 0 0 f o (omega (arith, n, inside)) there))

pub bodies_do : BodiesDo
bodies_do = record { list = list_ends; first = first_ends; on = on_ends }

-- ---- the program

pub unit_program_runs :
    Keeps run_keeper → (k : Whole) (first : List ℕ) → IsWhole k first →
    (IsBegun (block_at (surroundings_of k.image) k.image.code (main_of k) (start_point k.image) no_numbers) →
    BodyDoes (block_at (surroundings_of k.image) k.image.code (main_of k) (start_point k.image) no_numbers) k.main.body
    (body_index (main_of k)) left_over) →
    Comes k.image.code 0 (first_family first (services_of (start_point k.image))) (services_of (start_point k.image))
    (never_in k.image) (M.run k.program (suc k.image.acts) k.image.acts (first_state k.image.input))
unit_program_runs keeps k first h body =
    program_comes keeps k first h
    (λ b o f at. body b (block_at (surroundings_of k.image) k.image.code (main_of k) (start_point k.image)
    no_numbers).first no_numbers f o at)

-- ---- CALL

pub unit_call_does :
    (k : Block) (c : Callee) (line index left' more : ℕ) → IsCall k c line index more →
    ((p : Point) (numbers : ℕ → ℕ) → IsAmong k numbers p → AreMade k.call.surroundings k.call.code c p numbers) →
    ((p : Point) (numbers : ℕ → ℕ) → IsAmong k numbers p →
    IsBegun (block_at k.call.surroundings k.call.code c p numbers) →
    BodyDoes (block_at k.call.surroundings k.call.code c p numbers) c.procedure.body (body_index c) left_over) →
    IsBegun k → (labels : List Label) → Does k labels (call_of k c line) index left'
unit_call_does k c line index left' more h made' body =
    call_comes k c line index left' more h made'
    (λ p numbers o b o' f at.
    body p numbers o b (block_at k.call.surroundings k.call.code c p numbers).first numbers f o' at)
