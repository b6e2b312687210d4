-- A function's list in turns, at the end of each of which ERROR is raised: it goes on at its own labels, also where a
-- unit for that jumps there.
use Rattle.std.proofs.Common.{◌≡◌, ℕ, zero, suc, ◌+◌, ◌*◌, ◌<◌, ◌≤◌, List, [], ◌++◌, Bool, ◌⊎◌, inl, inr, true, false}
use Rattle.std.proofs.Common.{None, Option, Some, refl, sym, ◌∙◌, subst, arith}
use Rattle.std.proofs.lemmas.Bool.{eq-eqb}
use Rattle.std.specs.Prelude.{cond, ◌&&◌, ◌==◌}
use Rattle.pli_typing.specs.TypedTree as Y
use Rattle.pli_meaning.specs.Codes.{no_value_code}
use Rattle.pli_meaning.specs.Control as F
use Rattle.pli_meaning.specs.Control.{Flow, Normal, Jump, Return, Paused, Stuck, Label, Meaning, caught}
use Rattle.pli_meaning.specs.Control.{is_among, list_from, looked, ◌>>=◌, ◌>>◌}
use Rattle.pli_meaning.specs.Executing as M
use Rattle.pli_meaning.specs.Raising.{error}
use Rattle.pli_meaning.specs.StorageState.{State, newest_height}
use Rattle.pli_serving.specs.ServiceState.{Services}
use Rattle.pli_coding.specs.Assembly.{LabelPlace, size_of}
use Rattle.pli_coding.specs.Environments.{none_taken}
use Rattle.pli_coding.specs.Linking.{place_of}
use Rattle.pli_coding.specs.Procedures.{no_value}
use Rattle.pli_coding.specs.Statements.{stmts_code}
use Rattle.storage_relation.proofs.Holders.{eqb-other}
use Rattle.activation_relation.specs.Landing.{closed}
use Rattle.activation_relation.specs.Layers.{Point, services_of}
use Rattle.run_steps.specs.Items.{Linked}
use Rattle.run_steps.proofs.Jumps.{front_of}
use Rattle.run_steps.specs.Reach.{Aims, Closed, Comes, Family, before, cost}
use Rattle.run_steps.proofs.Reach.{comes_on, onward}
use Rattle.block_runs.specs.Machines.{AreIn, limits_of}
use Rattle.block_runs.proofs.CallStatements.{comes_map}
use Rattle.program_runs.specs.Calls.{left_over}
use Rattle.program_runs.specs.Statements.{AreMarkedWith, Block, IsAmong, JumpsOut, LandsAt, own_height}
use Rattle.program_runs.proofs.JumpsOut.{jumps_since, outs_low, outs_since}
use Rattle.program_runs.proofs.NewestBlocks.{newest_at, newest_own}
use Rattle.program_runs.proofs.Statements.{statement_closed}
use Rattle.begin_runs.proofs.Begins.{out_of_all}
use Rattle.jump_runs.specs.Exits.{exit_aims}
use Rattle.jump_runs.specs.Functions.{behind_list}
use Rattle.phase_runs.specs.Phases.{AreBegun, EachThrough, Phases, in_phase, phase_aims, some_aims}
use Rattle.phase_runs.specs.Units.{phases_of}
use Rattle.phase_runs.proofs.Aims.{comes_in, some_closed}
use Rattle.phase_runs.proofs.Lists.{or_else, sought_do, statements_do}
use Rattle.phase_runs.proofs.Units.{phases_change}
use Rattle.called_units.specs.Functions.{EndGoes, FunctionsTurn, turn_aims}
use Rattle.called_units.proofs.Lists.{own_return}

-- ---- what is aimed at, in whichever phase

abbrev turns_aims : Block → Phases → List Label → (acts : ℕ) → Aims (Unit {0})
turns_aims k ps labels acts =
    some_aims (limits_of k.call.surroundings) ps (λ first. turn_aims (in_phase k first) labels acts left_over)

turns_closed : (k : Block) (ps : Phases) (labels : List Label) (acts : ℕ) →
    Closed k.call.code (turns_aims k ps labels acts)
turns_closed k ps labels acts =
    some_closed (limits_of k.call.surroundings) ps (λ first. turn_aims (in_phase k first) labels acts left_over)
    (λ first.
    let c = statement_closed (in_phase k first) labels acts 0 0 left_over in
    record { done = λ r x s o. absurd o; jumped = c.jumped; returned = c.returned })

-- since fewer acts
turns_since :
    (k : Block) (ps : Phases) (labels : List Label) (acts more c : ℕ) (f : Family) (v : Services)
    (flow : Flow (Unit {0})) → acts ≤ more → Comes k.call.code c f v (turns_aims k ps labels more) flow →
    Comes k.call.code c f v (turns_aims k ps labels acts) flow
turns_since k ps labels acts more c f v flow few o =
    comes_map (turns_aims k ps labels more) (turns_aims k ps labels acts) refl flow
    (λ c' f' v' r s q. absurd q.holds)
    (λ c' f' v' height label s q. record { first = q.first; is = q.is; holds = jumps_since few q.holds })
    (λ c' f' v' r s q. q)
    o

-- ---- one turn

abbrev turn : Block → Y.Stmts → Option Label → Meaning (Unit {0})
turn k body from = M.statements k.around body from >> error k.around no_value_code

-- what is known of the list wherever it runs
record Turning (k : Block) (ps : Phases) (body : Y.Stmts) (index : ℕ) : Type 0 where
  begun : AreBegun k ps
  each : EachThrough 0 k ps (M.labels_in body ++ []) body index left_over
  marks : AreMarkedWith 0 k.call.surroundings.links k.environment body index
  linked : Linked k.call.surroundings.links k.call.code index (stmts_code k.environment none_taken body)
  ends :
      (first : Point) → ps first → EndGoes (in_phase k first) (M.labels_in body ++ []) (behind_list k body index)

turn_comes :
    (k : Block) (ps : Phases) (body : Y.Stmts) (index : ℕ) → Turning k ps body index → (acts : ℕ)
    (from : Option Label) (f : Family) (v : Services) (s : State) →
    Comes k.call.code 0 f v
    (phase_aims k ps (M.labels_in body ++ []) acts (behind_list k body index) 0 left_over)
    (M.statements k.around body from k.call.surroundings.acts s) →
    Comes k.call.code 0 f v (turns_aims k ps (M.labels_in body ++ []) acts)
    (turn k body from k.call.surroundings.acts s)
unfolding ◌>>◌
turn_comes k ps body index x acts from f v s o =
    let w = k.call.surroundings in
    let code = k.call.code in
    let own = M.labels_in body ++ [] in
    let goal = turns_aims k ps own acts in
    let flow = M.statements k.around body from w.acts s in
    let next' : Unit {0} → Meaning (Unit {0}) = λ u. error k.around no_value_code in
    comes_on w.acts flow next'
    (comes_map (phase_aims k ps own acts (behind_list k body index) 0 left_over) (before code goal w.acts next') refl
    flow
    (λ c' f' v' r s' t.
    let q = t.holds in
    let since = q.since in
    let more = q.point.state.world.acts in
    let end = error {R = Unit {0}} k.around no_value_code w.acts q.point.state in
    subst (λ u. Comes code c' f' v' goal (error k.around no_value_code w.acts u)) (sym q.state)
    (onward (turns_closed k ps own acts) q.reach
    (λ g at.
    turns_since k ps own acts more 0 g (services_of q.point) end since
    (comes_in (limits_of w) ps (λ first. turn_aims (in_phase k first) own more left_over) t.first t.is refl end
    (x.ends t.first t.is q.point q.numbers g q.among at)))))
    (λ c' f' v' height label s' t. record { first = t.first; is = t.is; holds = t.holds })
    (λ c' f' v' r s' t. record { first = t.first; is = t.is; holds = t.holds })
    o)

-- ---- jumps that it catches

abbrev caught_by :
    Block → (height : ℕ) → List Label → (h : ℕ) → Label → State → (Label → Meaning (Unit {0})) → Flow (Unit {0})
caught_by k height own h label s next' =
    cond ((h == height) && is_among label own) (next' label k.call.surroundings.acts s) (Jump h label s)

-- a label of the list
lands_caught :
    (k : Block) (ps : Phases) {acts c : ℕ} {f : Family} {v : Services} (own : List Label) (height h : ℕ)
    (label : Label) (s : State) (next' : Label → Meaning (Unit {0})) (first : Point) → ps first →
    height ≡ own_height k →
    (LandsAt (in_phase k first) own acts c f v height label s →
    Comes k.call.code c f v (turns_aims k ps [] acts) (next' label k.call.surroundings.acts s)) →
    LandsAt (in_phase k first) (own ++ []) acts c f v h label s →
    Comes k.call.code c f v (turns_aims k ps [] acts) (caught_by k height own h label s next')
lands_caught k ps {acts} {c} {f} {v} own height h label s next' first is same goes lands =
    by (is_among label own) refl
  where
    goal : Aims (Unit {0})
    goal = turns_aims k ps [] acts

    on : Flow (Unit {0})
    on = next' label k.call.surroundings.acts s

    lands_on :
        (xs : List Label) → is_among label xs ≡ true → LandsAt (in_phase k first) xs acts c f v h label s
    lands_on xs among =
        record {
          own = lands.own;
          carried = among;
          point = lands.point;
          numbers = lands.numbers;
          among = lands.among;
          more = lands.more;
          state = lands.state;
          index = lands.index;
          place = lands.place;
          reach = lands.reach;
        }

    same_height : h ≡ height
    same_height = lands.own ∙ sym same

    by :
        (r : Bool) → is_among label own ≡ r → Comes k.call.code c f v goal (caught_by k height own h label s next')
    by true g =
        subst (λ t. Comes k.call.code c f v goal (cond (t && is_among label own) on (Jump h label s)))
        (sym (eq-eqb h height same_height))
        (subst (λ t. Comes k.call.code c f v goal (cond t on (Jump h label s))) (sym g)
        (goes (subst (λ n. LandsAt (in_phase k first) own acts c f v n label s) same_height (lands_on own g))))
    by false g = absurd (cc (or_else label own [] lands.carried g))

-- a label of a block further out is not the list's
outs_caught :
    (k : Block) (ps : Phases) {acts c : ℕ} {f : Family} {v : Services} (own : List Label) (height h : ℕ)
    (label : Label) (s : State) (next' : Label → Meaning (Unit {0})) (first : Point) → ps first → AreBegun k ps →
    height ≡ own_height k →
    JumpsOut k.call.surroundings k.call.code k.outers acts c f v h label (closed s) →
    Comes k.call.code c f v (turns_aims k ps [] acts) (caught_by k height own h label s next')
outs_caught k ps {acts} {c} {f} {v} own height h label s next' first is b same out =
    let w = k.call.surroundings in
    let low = outs_low w k.call.code k.outers k.call.point acts c f v h label (closed s) (b first is).outer out in
    subst (λ t. Comes k.call.code c f v (turns_aims k ps [] acts)
    (cond (t && is_among label own) (next' label w.acts s) (Jump h label s)))
    (sym (eqb-other h height (omega (arith, low, same))))
    (record { to = λ early. record { first = first; is = is; holds = record { to = inr out } } })

comes_caught :
    (k : Block) (ps : Phases) {acts c : ℕ} {f : Family} {v : Services} (own : List Label) (height : ℕ)
    (flow : Flow (Unit {0})) (next' : Label → Meaning (Unit {0})) → AreBegun k ps → height ≡ own_height k →
    ((label : Label) (c' : ℕ) (f' : Family) (v' : Services) (s : State) (first : Point) → ps first →
    LandsAt (in_phase k first) own acts c' f' v' height label s →
    Comes k.call.code c' f' v' (turns_aims k ps [] acts) (next' label k.call.surroundings.acts s)) →
    Comes k.call.code c f v (turns_aims k ps (own ++ []) acts) flow →
    Comes k.call.code c f v (turns_aims k ps [] acts) (caught k.call.surroundings.acts height own flow next')
comes_caught k ps own height (Normal r s) next' b same goes o =
    record { to = λ early. absurd (o.to early).holds }
comes_caught k ps {acts} {c} {f} {v} own height (Jump h label s) next' b same goes o =
    record { to = λ early. let q = o.to early in (by q.first q.is q.holds.to).to early }
  where
    by :
        (first : Point) → ps first →
        LandsAt (in_phase k first) (own ++ []) acts c f v h label s
        ⊎ JumpsOut k.call.surroundings k.call.code k.outers acts c f v h label (closed s) →
        Comes k.call.code c f v (turns_aims k ps [] acts) (caught_by k height own h label s next')
    by first is (inl here) =
        lands_caught k ps own height h label s next' first is same (goes label c f v s first is) here
    by first is (inr out) = outs_caught k ps own height h label s next' first is b same out
comes_caught k ps own height (Return r s) next' b same goes o =
    record {
      to = λ early.
          let q = o.to early in record { first = q.first; is = q.is; holds = record { to = q.holds.to } };
    }
comes_caught k ps own height (F.Ended s) next' b same goes o = record { to = o.to }
comes_caught k ps own height (Paused s) next' b same goes o = record { to = o.to }
comes_caught k ps own height Stuck next' b same goes o = record { to = o.to }

-- ---- turns

-- where one jumps to another label, the next one is due
jumped_on :
    (n : ℕ) (k : Block) (ps : Phases) (body : Y.Stmts) (height : ℕ) (l : Label) (acts : ℕ) →
    k.call.surroundings.acts < suc n + acts → (c' : ℕ) (f' : Family) (v' : Services) (s : State) (first : Point)
    (q : LandsAt (in_phase k first) (M.labels_in body) acts c' f' v' height l s) →
    (k.call.surroundings.acts < n + q.point.state.world.acts → (g : Family) →
    AreIn k.call.surroundings q.point q.numbers q.index g →
    Comes k.call.code 0 g (services_of q.point) (turns_aims k ps [] q.point.state.world.acts)
    (list_from n height (M.labels_in body) (turn k body) (Some l) k.call.surroundings.acts q.point.state)) →
    Comes k.call.code c' f' v' (turns_aims k ps [] acts)
    (list_from n height (M.labels_in body) (turn k body) (Some l) k.call.surroundings.acts s)
jumped_on n k ps body height l acts few c' f' v' s first q rest =
    let more = q.more in
    let flow = list_from n height (M.labels_in body) (turn k body) (Some l) k.call.surroundings.acts q.point.state in
    subst (λ u. Comes k.call.code c' f' v' (turns_aims k ps [] acts)
    (list_from n height (M.labels_in body) (turn k body) (Some l) k.call.surroundings.acts u))
    (sym q.state)
    (onward (turns_closed k ps [] acts) q.reach
    (λ g at'.
    turns_since k ps [] acts q.point.state.world.acts 0 g (services_of q.point) flow (omega (arith, more))
    (rest (omega (arith, few, more)) g at')))

-- from a label, in so many turns
turns_do :
    (turns : ℕ) (k : Block) (ps : Phases) (body : Y.Stmts) (index height : ℕ) (label : Label) (at : ℕ)
    (first : Point) → ps first → (p : Point) (numbers : ℕ → ℕ) (f : Family) → Turning k ps body index →
    height ≡ own_height k → k.call.surroundings.acts < turns + p.state.world.acts → IsAmong (in_phase k first) numbers p
    → is_among label (M.labels_in body) ≡ true →
    place_of k.call.surroundings.links (LabelPlace k.environment.block label) ≡ 4 * at →
    AreIn k.call.surroundings p numbers at f →
    Comes k.call.code 0 f (services_of p) (turns_aims k ps [] p.state.world.acts)
    (list_from turns height (M.labels_in body) (turn k body) (Some label) k.call.surroundings.acts p.state)
unfolding list_from
turns_do zero k ps body index height label at first is p numbers f x same few o among place there =
    let allowed = o.stands.allowed in
    absurd (omega (arith, allowed, few))
turns_do (suc n) k ps body index height label at first is p numbers f x same few o among place there =
    comes_caught k ps (M.labels_in body) height (turn k body (Some label) k.call.surroundings.acts p.state)
    (λ l. list_from n height (M.labels_in body) (turn k body) (Some l)) x.begun same
    (λ l c' f' v' s first' is' q. jumped_on n k ps body height l p.state.world.acts few c' f' v' s first' q
    (λ m g at'. turns_do n k ps body index height l q.index first' is' q.point q.numbers g x same m q.among q.carried
    q.place at'))
    (turn_comes k ps body index x p.state.world.acts (Some label) f (services_of p) p.state
    (sought_do 0 k ps (M.labels_in body ++ []) label body index left_over 0 at first is p numbers f x.each x.marks o
    x.linked among place there))

-- and from the start
starts_do :
    (turns : ℕ) (k : Block) (ps : Phases) (body : Y.Stmts) (index height : ℕ) (first : Point) → ps first → (p : Point)
    (numbers : ℕ → ℕ) (f : Family) → Turning k ps body index → height ≡ own_height k →
    k.call.surroundings.acts < turns + p.state.world.acts → IsAmong (in_phase k first) numbers p →
    size_of (stmts_code k.environment none_taken body) ≤ cost k.call.code →
    AreIn k.call.surroundings p numbers index f →
    Comes k.call.code 0 f (services_of p) (turns_aims k ps [] p.state.world.acts)
    (list_from turns height (M.labels_in body) (turn k body) None k.call.surroundings.acts p.state)
unfolding list_from
starts_do zero k ps body index height first is p numbers f x same few o fits there =
    let allowed = o.stands.allowed in
    absurd (omega (arith, allowed, few))
starts_do (suc n) k ps body index height first is p numbers f x same few o fits there =
    comes_caught k ps (M.labels_in body) height (turn k body None k.call.surroundings.acts p.state)
    (λ l. list_from n height (M.labels_in body) (turn k body) (Some l)) x.begun same
    (λ l c' f' v' s first' is' q. jumped_on n k ps body height l p.state.world.acts few c' f' v' s first' q
    (λ m g at'. turns_do n k ps body index height l q.index first' is' q.point q.numbers g x same m q.among q.carried
    q.place at'))
    (turn_comes k ps body index x p.state.world.acts None f (services_of p) p.state
    (statements_do 0 k ps (M.labels_in body ++ []) body p.state.world.acts index left_over 0 0 first is p numbers f
    (omega arith) x.each o x.linked (omega arith, omega (arith, fits)) there))

pub functions_turn : FunctionsTurn
unfolding M.block_list M.list_with looked ◌>>=◌
functions_turn k ons body index z inside' each ends f there =
    let w = k.call.surroundings in
    let code = k.call.code in
    let ps = phases_of k ons in
    let acts = k.call.point.state.world.acts in
    let first = k.first.state.world.acts in
    let l = front_of (stmts_code k.environment none_taken body) (no_value k.around.line) z.linked in
    let inside = l.inside in
    let called = z.called in
    comes_map (turns_aims k ps [] first) (exit_aims k acts left_over) refl
    (M.block_list k.around body true w.acts k.first.state)
    (λ c' f' v' r s q. absurd q.holds)
    (λ c' f' v' height label s q.
    outs_since w code k.outers acts first c' f' v' height label (closed s) called (out_of_all q.holds))
    (λ c' f' v' r s q. own_return body index z (record { to = q.holds.to }))
    (starts_do k.around.turns k ps body index (newest_height k.first.state.activations) k.first
    (phases_change k ons).first k.first k.call.numbers f
    (record { begun = inside'.begun; each = each; marks = inside'.marked; linked = l; ends = ends })
    (newest_own (newest_at z.begun z.among)) z.enough z.among (omega (arith, inside)) there)
