-- Lists of statements where the lists of generations stand, and whole programs of them.
use Rattle.std.proofs.Common.{◌≡◌, ℕ, suc, ◌+◌, ◌*◌, ◌<◌, ◌≤◌, List, [], ◌∷◌, ◌++◌, Bool, false, true, None, Option}
use Rattle.std.proofs.Common.{Some}
use Rattle.std.proofs.Common.{refl, sym, ap, ◌∙◌, subst, arith}
use Rattle.std.specs.Prelude.{cond, ◌&&◌, ◌==◌}
use Rattle.rv_meaning.specs.declared.instr.Instr.{Instr}
use Rattle.pli_typing.specs.TypedTree as Y
use Rattle.pli_meaning.specs.Control as F
use Rattle.pli_meaning.specs.Control.{Flow, Jump, Label, Meaning, Normal, Paused, Return, Stuck, caught, choose, give}
use Rattle.pli_meaning.specs.Control.{is_among, list_from, looked, ◌>>=◌, ◌>>◌}
use Rattle.pli_meaning.specs.Executing as M
use Rattle.pli_meaning.specs.StorageState.{State, first_state, newest_height}
use Rattle.pli_serving.specs.ServiceState.{Services}
use Rattle.area_keeper.specs.KeeperLaws.{Keeps}
use Rattle.run_keeper.specs.RunKeeper.{run_keeper}
use Rattle.pli_coding.specs.Allocating.{act_code}
use Rattle.pli_coding.specs.Assembly.{Code, Mark, ReturnPlace, size_of}
use Rattle.pli_coding.specs.Environments.{none_taken}
use Rattle.pli_coding.specs.Statements.{marked, stmt_code, stmts_code}
use Rattle.storage_relation.specs.Controlled.{Variable}
use Rattle.activation_relation.specs.Layers.{Point, services_of}
use Rattle.activation_relation.specs.Points.{Surroundings}
use Rattle.run_steps.specs.Items.{Linked}
use Rattle.run_steps.proofs.Jumps.{back_of, front_of}
use Rattle.run_steps.proofs.Linking.{size_append}
use Rattle.run_steps.specs.Reach.{Aims, Comes, Family, before, cost}
use Rattle.run_steps.proofs.Reach.{comes_on, onward, reach_with, stay}
use Rattle.block_runs.specs.Bodies.{body_aims}
use Rattle.block_runs.specs.Machines.{AreIn, IsIn}
use Rattle.block_runs.proofs.CallStatements.{comes_map}
use Rattle.program_runs.specs.Calls.{body_index, left_over}
use Rattle.program_runs.specs.Procedures.{begin_of, end_of}
use Rattle.program_runs.specs.Programs.{IsWhole, Whole, main_of}
use Rattle.program_runs.specs.Starts.{first_family, never_in, no_numbers, start_point, surroundings_of}
use Rattle.program_runs.specs.Statements.{Block, IsAmong, IsBegun}
use Rattle.program_runs.proofs.JumpsOut.{jumps_since, no_jump}
use Rattle.program_runs.proofs.Programs.{program_comes}
use Rattle.program_runs.proofs.Statements.{at_end}
use Rattle.controlled_runs.specs.Lists.{EachDoesListed, GoesOnListed, ListsStand, listed_aims}
use Rattle.controlled_runs.specs.Programs.{main_block}
use Rattle.controlled_runs.proofs.ListedPoints.{listed_closed}

marked_size : (block : ℕ) (labels : List Label) → size_of (marked block labels) ≡ 0
marked_size block [] = refl
marked_size block (label ∷ labels) = let n = marked_size block labels in omega (arith, n)

moved_in :
    (k : Block) {p : Point} {numbers : ℕ → ℕ} {i j : ℕ} (f : Family) → i ≡ j →
    AreIn k.call.surroundings p numbers i f → AreIn k.call.surroundings p numbers j f
moved_in k {p} {numbers} f e there = subst (λ n. AreIn k.call.surroundings p numbers n f) e there

none_left :
    (of : ℕ → Option Variable) (k : Block) (acts index c wanted : ℕ) (p : Point) (numbers : ℕ → ℕ) (f : Family) →
    acts ≤ p.state.world.acts → IsAmong k numbers p → ListsStand of p → c ≤ wanted →
    AreIn k.call.surroundings p numbers index f → GoesOnListed of k acts index wanted c f (services_of p) p.state
none_left of k acts index c wanted p numbers f since o lists few there =
    record {
      goes = record {
        point = p;
        numbers = numbers;
        among = o;
        since = since;
        state = refl;
        reach = reach_with wanted few
            (stay k.call.code c f (services_of p) (λ b y. IsIn k.call.surroundings p numbers index b y) there);
      };
      lists = lists;
    }

-- statements, from the first on
statements_do :
    (of : ℕ → Option Variable) (k : Block) (labels : List Label) (body : Y.Stmts) (acts index left' c wanted : ℕ)
    (p : Point) (numbers : ℕ → ℕ) (f : Family) → acts ≤ p.state.world.acts →
    EachDoesListed of k labels body index left' → IsAmong k numbers p → ListsStand of p →
    Linked k.call.surroundings.links k.call.code index (stmts_code k.environment none_taken body) →
    (c ≤ wanted) × (c + size_of (stmts_code k.environment none_taken body) ≤ cost k.call.code) →
    AreIn k.call.surroundings p numbers index f →
    Comes k.call.code c f (services_of p)
    (listed_aims of k labels acts (index + size_of (stmts_code k.environment none_taken body)) wanted left')
    (M.statements k.around body None k.call.surroundings.acts p.state)
unfolding M.statements give choose ◌>>◌
statements_do of k labels (Y.EndOfList own) acts index left' c wanted p numbers f since each o lists l fits there =
    let n = marked_size k.environment.block own in
    record {
      to = λ early.
          none_left of k acts _ c wanted p numbers f since o lists fits.0 (moved_in k f (omega (arith, n)) there);
    }
statements_do of k labels (Y.StmtThen own first rest) acts index left' c wanted p numbers f since each o lists l fits
    there =
    let w = k.call.surroundings in
    let marks = marked k.environment.block own in
    let one = stmt_code k.environment none_taken first in
    let more = stmts_code k.environment none_taken rest in
    let n = marked_size k.environment.block own in
    let n0 = size_append marks (one ++ more) in
    let n1 = size_append one more in
    let paid = fits.1 in
    let l1 = back_of marks (one ++ more) l in
    let l2 = back_of one more l1 in
    let inside = l.inside in
    let i = index + size_of marks in
    let next' : Unit {0} → Meaning (Unit {0}) = λ u. M.statements k.around rest None in
    let goal = listed_aims of k labels acts (i + size_of one + size_of more) wanted left' in
    subst (λ j. Comes k.call.code c f (services_of p) (listed_aims of k labels acts j wanted left')
    (M.statements k.around (Y.StmtThen own first rest) None w.acts p.state)) (omega (arith, n0, n1))
    (comes_on w.acts (M.statement k.around first w.acts p.state) next'
    (comes_map (listed_aims of k labels p.state.world.acts (i + size_of one) 0 left')
    (before k.call.code goal w.acts next') refl (M.statement k.around first w.acts p.state)
    (λ c' f' v' r s q.
    let later = q.goes.since in
    subst (λ u. Comes k.call.code c' f' v' goal (M.statements k.around rest None w.acts u)) (sym q.goes.state)
    (onward (listed_closed of k labels acts (i + size_of one + size_of more) wanted left') q.goes.reach
    (λ g at.
    statements_do of k labels rest acts (i + size_of one) left' 0 wanted q.goes.point q.goes.numbers g
    (omega (arith, since, later)) each.1 q.goes.among q.lists l2 (omega arith, omega (arith, n0, n1, inside)) at)))
    (λ c' f' v' height label s q. jumps_since since q)
    (λ c' f' v' r s q. q)
    (each.0 p numbers c 0 f o lists (omega (arith, n0, n1, paid)) (moved_in k f (omega (arith, n)) there))))

-- no label is caught by a list without labels
caught_none :
    {code : List Instr} {c : ℕ} {f : Family} {v : Services} {aims : Aims (Unit {0})} (acts height : ℕ)
    (flow : Flow (Unit {0})) (next' : Label → Meaning (Unit {0})) → Comes code c f v aims flow →
    Comes code c f v aims (caught acts height [] flow next')
caught_none acts height (Normal r s) next' o = o
caught_none {code} {c} {f} {v} {aims} acts height (Jump h label s) next' o = by (h == height)
  where
    by : (q : Bool) → Comes code c f v aims (cond (q && is_among label []) (next' label acts s) (Jump h label s))
    by true = o
    by false = o
caught_none acts height (Return r s) next' o = o
caught_none acts height (F.Ended s) next' o = o
caught_none acts height (Paused s) next' o = o
caught_none acts height Stuck next' o = o

list_does :
    (of : ℕ → Option Variable) (k : Block) (body : Y.Stmts) (index left' turns : ℕ) (p : Point) (numbers : ℕ → ℕ)
    (c wanted : ℕ) (f : Family) → k.around.turns ≡ suc turns → M.labels_in body ≡ [] →
    EachDoesListed of k [] body index left' → IsAmong k numbers p → ListsStand of p →
    Linked k.call.surroundings.links k.call.code index (stmts_code k.environment none_taken body) →
    (c ≤ wanted) × (c + size_of (stmts_code k.environment none_taken body) ≤ cost k.call.code) →
    AreIn k.call.surroundings p numbers index f →
    Comes k.call.code c f (services_of p)
    (listed_aims of k [] p.state.world.acts (index + size_of (stmts_code k.environment none_taken body)) wanted left')
    (M.list k.around body k.call.surroundings.acts p.state)
unfolding M.list M.list_with looked list_from ◌>>=◌
list_does of k body index left' turns p numbers c wanted f some none each o lists l fits there =
    let w = k.call.surroundings in
    let height = newest_height p.state.activations in
    let part = M.statements k.around body in
    let aims = listed_aims of k [] p.state.world.acts (index + size_of (stmts_code k.environment none_taken body))
    wanted
    left' in
    subst (λ n. Comes k.call.code c f (services_of p) aims
    (list_from n height (M.labels_in body) part None w.acts p.state)) (sym some)
    (subst (λ ls. Comes k.call.code c f (services_of p) aims
    (list_from (suc turns) height ls part None w.acts p.state)) (sym none)
    (caught_none w.acts height (part None w.acts p.state) (λ label. list_from turns height [] part (Some label))
    (statements_do of k [] body p.state.world.acts index left' c wanted p numbers f (omega arith) each o lists l fits
    there)))

pub listed_program_runs :
    Keeps run_keeper → (of : ℕ → Option Variable) (k : Whole) (first : List ℕ) → IsWhole k first →
    M.labels_in k.main.body ≡ [] → ListsStand of (main_block k).first →
    (IsBegun (main_block k) → EachDoesListed of (main_block k) [] k.main.body (body_index (main_of k)) left_over) →
    Comes k.image.code 0 (first_family first (services_of (start_point k.image))) (services_of (start_point k.image))
    (never_in k.image) (M.run k.program (suc k.image.acts) k.image.acts (first_state k.image.input))
listed_program_runs keeps of whole first h none lists each =
    program_comes keeps whole first h (λ b o f there.
    let c = main_of whole in
    let k = main_block whole in
    let code = whole.image.code in
    let x = c.procedure in
    let one = act_code x.head.line in
    let body = stmts_code c.environment none_taken x.body in
    let tail = Mark (ReturnPlace x.head.number) ∷ end_of x in
    let rest = one ++ (body ++ tail) in
    let l0 = back_of x.variables rest (back_of (begin_of x) (x.variables ++ rest) h.callee.stands) in
    let l1 = back_of one (body ++ tail) l0 in
    let l2 = front_of body tail l1 in
    let inside = l2.inside in
    let flow = M.list k.around x.body k.call.surroundings.acts k.first.state in
    let acts = k.first.state.world.acts in
    comes_map (listed_aims of k [] acts c.calling.end left_over left_over) (body_aims k.call left_over) refl flow
    (λ c' f' v' r s q. at_end b refl (omega arith) q.goes)
    (λ c' f' v' height label s q. no_jump refl q)
    (λ c' f' v' r s q. q.to)
    (subst (λ j. Comes code 0 f (services_of k.first) (listed_aims of k [] acts j left_over left_over) flow)
    (sym h.callee.end)
    (list_does of k x.body (body_index c) left_over whole.image.acts k.first no_numbers 0 left_over f refl none (each
    b) o
    lists l2 (omega arith, omega (arith, inside)) there)))
