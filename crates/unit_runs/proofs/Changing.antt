-- A list in which ON stands anywhere goes on behind it, or leaves its block: there are turns enough for its jumps.
use Rattle.std.proofs.Common.{◌≡◌, ◌⊎◌, inl, inr, ℕ, zero, suc, ◌+◌, ◌*◌, ◌<◌, ◌≤◌, List, [], ◌∷◌, ◌++◌, Some, None}
use Rattle.std.proofs.Common.{Bool, true, false, refl, sym, ◌∙◌, subst, arith}
use Rattle.std.proofs.lemmas.Bool.{eq-eqb}
use Rattle.std.specs.Prelude.{◌&&◌, ◌||◌, ◌==◌, cond}
use Rattle.pli_typing.specs.TypedTree as Y
use Rattle.pli_language.specs.Keywords.{same_bytes}
use Rattle.pli_meaning.specs.Control as F
use Rattle.pli_meaning.specs.Control.{Flow, Jump, Label, Meaning, Normal, Paused, Return, Stuck, caught, choose, give}
use Rattle.pli_meaning.specs.Control.{is_among, list_from, looked, ◌>>=◌, ◌>>◌}
use Rattle.pli_meaning.specs.Executing as M
use Rattle.pli_meaning.specs.StorageState.{State, newest_height}
use Rattle.pli_serving.specs.ServiceState.{Services}
use Rattle.pli_coding.specs.Assembly.{LabelPlace, size_of}
use Rattle.pli_coding.specs.Environments.{none_taken}
use Rattle.pli_coding.specs.Linking.{place_of}
use Rattle.pli_coding.specs.Statements.{marked, stmt_code, stmts_code}
use Rattle.image_runs.specs.Runs.{Whole}
use Rattle.storage_relation.proofs.Holders.{eqb-other}
use Rattle.activation_relation.specs.Layers.{Point, services_of}
use Rattle.activation_relation.specs.Landing.{closed}
use Rattle.activation_relation.specs.Points.{Surroundings}
use Rattle.run_steps.specs.Engine.{Base}
use Rattle.run_steps.specs.Items.{Linked}
use Rattle.run_steps.proofs.Jumps.{back_of}
use Rattle.run_steps.proofs.Linking.{size_append}
use Rattle.run_steps.specs.Reach.{Aims, Closed, Comes, Family, Reach, before, cost, reached}
use Rattle.run_steps.proofs.Reach.{comes_on, onward, reach_then, reach_with, stay}
use Rattle.block_runs.specs.Machines.{AreIn, IsIn, limits_of}
use Rattle.block_runs.proofs.CallStatements.{comes_map}
use Rattle.block_runs.specs.Bodies.{body_aims}
use Rattle.program_runs.specs.Statements.{AreMarked, Block, GoesOn, IsAmong, IsBegun, JumpsOut, JumpsTo, LandsAt}
use Rattle.program_runs.specs.Statements.{ReturnsTo, own_height, size_in, statement_aims}
use Rattle.program_runs.proofs.Lists.{goes_since}
use Rattle.program_runs.proofs.JumpsOut.{jumps_later, lands_since, no_jump, outs_low, outs_since, returns_later}
use Rattle.program_runs.proofs.NewestBlocks.{newest_at, newest_own}
use Rattle.program_runs.proofs.Statements.{at_end, statement_closed}
use Rattle.begin_runs.specs.BehindLists.{GoesBehind, from_point, list_aims}
use Rattle.begin_runs.proofs.Begins.{out_of_all}
use Rattle.unit_runs.specs.Changing.{AllDo, GoesPast, IsPast, Past, StandsIn, StepDoes, after, past_aims, past_point}
use Rattle.unit_runs.specs.Establishing.{IsOn, OnUnit, on_of}
use Rattle.unit_runs.proofs.Establishing.{unit_begun, unit_does}
use Rattle.unit_runs.specs.Bodies.{BodyDoes, IsBody}
use Rattle.unit_runs.proofs.Bodies.{own_return}

-- ---- the block with the units that it has by then

pub begun_after :
    (k : Block) (body : Y.Stmts) (index : ℕ) (past : Past) → IsBegun k → IsPast k body index past →
    IsBegun (after k past)
begun_after k body index [] b is = b
begun_after k body index (e ∷ past) b is = unit_begun (after k past) e.0 e.1 is.0

-- a list of a block and where it stands, with as many credits as are wanted behind it
record Listing (k : Block) (body : Y.Stmts) (index end wanted left' : ℕ) : Type 0 where
  begun : IsBegun k
  marks : AreMarked k.call.surroundings.links k.environment body index
  all : AllDo k body index body index left'
  linked : Linked k.call.surroundings.links k.call.code index (stmts_code k.environment none_taken body)
  ends : end ≡ index + size_of (stmts_code k.environment none_taken body)

-- at a label of it, with other units perhaps
record LandsIn (k : Block) (body : Y.Stmts) (index acts credits : ℕ) (f : Family) (v : Services) (height : ℕ)
    (label : Label) (s : State) : Type 0 where
  past : Past
  known : IsPast k body index past
  lands : LandsAt (after k past) (M.labels_in body) acts credits f v height label s

lands_later :
    {k : Block} {body : Y.Stmts} {index acts i i' : ℕ} {f : Family} {v v' : Services} {Q : Base → Whole → Type 0}
    {height : ℕ} {label : Label} {s : State} (r : Reach k.call.code i f v i' v' Q) →
    LandsIn k body index acts i' (reached r) v' height label s → LandsIn k body index acts i f v height label s
lands_later r o =
    let q = o.lands in
    record {
      past = o.past;
      known = o.known;
      lands = record {
        own = q.own;
        carried = q.carried;
        point = q.point;
        numbers = q.numbers;
        among = q.among;
        more = q.more;
        state = q.state;
        index = q.index;
        place = q.place;
        reach = reach_then r q.reach;
      };
    }

-- or out of the block
record JumpsIn (k : Block) (body : Y.Stmts) (index acts credits : ℕ) (f : Family) (v : Services) (height : ℕ)
    (label : Label) (s : State) : Type 0 where
  to :
      LandsIn k body index acts credits f v height label s
      ⊎ JumpsOut k.call.surroundings k.call.code k.outers acts credits f v height label (closed s)

outs_later :
    (k : Block) (acts : ℕ) {i i' : ℕ} {f : Family} {v v' : Services} {Q : Base → Whole → Type 0} (height : ℕ)
    (label : Label) (s : State) (r : Reach k.call.code i f v i' v' Q) →
    JumpsOut k.call.surroundings k.call.code k.outers acts i' (reached r) v' height label (closed s) →
    JumpsOut k.call.surroundings k.call.code k.outers acts i f v height label (closed s)
outs_later k acts {i} {i'} {f} {v} {v'} height label s r out =
    out_of_all {k = k} {acts = acts} {c = i} {height = height} {f = f} {v = v} {label = label} {s = s}
    (jumps_later {k = k} {labels = []} {acts = acts} {height = height} {label = label} {s = s} r
    (record { to = inr out }))

jumps_in_later :
    {k : Block} {body : Y.Stmts} {index acts i i' : ℕ} {f : Family} {v v' : Services} {Q : Base → Whole → Type 0}
    {height : ℕ} {label : Label} {s : State} (r : Reach k.call.code i f v i' v' Q) →
    JumpsIn k body index acts i' (reached r) v' height label s → JumpsIn k body index acts i f v height label s
jumps_in_later {k} {body} {index} {acts} {i} {i'} {f} {v} {v'} {height = height} {label = label} {s = s} r o =
    record { to = by o.to }
  where
    by :
        LandsIn k body index acts i' (reached r) v' height label s
        ⊎ JumpsOut k.call.surroundings k.call.code k.outers acts i' (reached r) v' height label (closed s) →
        LandsIn k body index acts i f v height label s
        ⊎ JumpsOut k.call.surroundings k.call.code k.outers acts i f v height label (closed s)
    by (inl here) = inl (lands_later r here)
    by (inr out) = inr (outs_later k acts height label s r out)

behind_later :
    {k : Block} {acts index wanted i i' : ℕ} {f : Family} {v v' : Services} {Q : Base → Whole → Type 0} {s : State}
    (r : Reach k.call.code i f v i' v' Q) → GoesBehind k acts index wanted i' (reached r) v' s →
    GoesBehind k acts index wanted i f v s
behind_later {k} {acts} {index} {wanted} {s = s} r o =
    record {
      first = o.first;
      begun = o.begun;
      goes = (statement_closed (from_point k o.first) [] acts index wanted 0).done r tt s o.goes;
    }

past_later :
    {k : Block} {body : Y.Stmts} {start acts index wanted i i' : ℕ} {f : Family} {v v' : Services}
    {Q : Base → Whole → Type 0} {s : State} (r : Reach k.call.code i f v i' v' Q) →
    GoesPast k body start acts index wanted i' (reached r) v' s → GoesPast k body start acts index wanted i f v s
past_later {k} {acts = acts} {index = index} {wanted = wanted} {s = s} r o =
    record {
      past = o.past;
      known = o.known;
      goes = (statement_closed (after k o.past) [] acts index wanted 0).done r tt s o.goes;
    }

-- ---- what is aimed at by its statements: what is behind the list, a label of it, or out of the block

abbrev inside_aims : Block → Y.Stmts → (index acts end wanted left' : ℕ) → Aims (Unit {0})
inside_aims k body index acts end wanted left' =
    record {
      limits = limits_of k.call.surroundings;
      done = λ c f v r s. GoesPast k body index acts end wanted c f v s;
      jumped = λ c f v height label s. JumpsIn k body index acts c f v height label s;
      returned = λ c f v r s. ReturnsTo k left' c f v r s;
    }

inside_closed :
    (k : Block) (body : Y.Stmts) (index acts end wanted left' : ℕ) →
    Closed k.call.code (inside_aims k body index acts end wanted left')
inside_closed k body index acts end wanted left' =
    record {
      done = λ r x s o. past_later r o;
      jumped = λ r height label s o. jumps_in_later r o;
      returned = λ r x s o. returns_later r o;
    }

pub list_closed : (k : Block) (acts end wanted left' : ℕ) → Closed k.call.code (list_aims k acts end wanted left')
list_closed k acts end wanted left' =
    record {
      done = λ r x s o. behind_later r o;
      jumped = λ r height label s o. outs_later k acts height label s r o;
      returned = λ r x s o. returns_later r o;
    }

past_closed :
    (k : Block) (body : Y.Stmts) (start acts end wanted left' : ℕ) →
    Closed k.call.code (past_aims k body start acts end wanted left')
past_closed k body start acts end wanted left' =
    record {
      done = λ r x s o. past_later r o;
      jumped = λ r height label s o. outs_later k acts height label s r o;
      returned = λ r x s o. returns_later r o;
    }

-- since fewer acts

lands_in_since :
    {k : Block} {body : Y.Stmts} {index acts more c : ℕ} {f : Family} {v : Services} {height : ℕ} {label : Label}
    {s : State} → acts ≤ more → JumpsIn k body index more c f v height label s →
    JumpsIn k body index acts c f v height label s
lands_in_since {k} {body} {index} {acts} {more} {c} {f} {v} {height} {label} {s} few o = record { to = by o.to }
  where
    by :
        LandsIn k body index more c f v height label s
        ⊎ JumpsOut k.call.surroundings k.call.code k.outers more c f v height label (closed s) →
        LandsIn k body index acts c f v height label s
        ⊎ JumpsOut k.call.surroundings k.call.code k.outers acts c f v height label (closed s)
    by (inl q) = inl (record { past = q.past; known = q.known; lands = lands_since few q.lands })
    by (inr out) =
        inr (outs_since k.call.surroundings k.call.code k.outers acts more c f v height label (closed s) few out)

pub list_since :
    {k : Block} {acts more end wanted left' c : ℕ} {f : Family} {v : Services} {flow : Flow (Unit {0})} →
    acts ≤ more → Comes k.call.code c f v (list_aims k more end wanted left') flow →
    Comes k.call.code c f v (list_aims k acts end wanted left') flow
list_since {k} {acts} {more} {end} {wanted} {left'} {flow = flow} few o =
    comes_map (list_aims k more end wanted left') (list_aims k acts end wanted left') refl flow
    (λ c f v r s q. record { first = q.first; begun = q.begun; goes = goes_since few q.goes })
    (λ c f v height label s q.
    outs_since k.call.surroundings k.call.code k.outers acts more c f v height label (closed s) few q)
    (λ c f v r s q. q)
    o

past_since :
    {k : Block} {body : Y.Stmts} {start acts more end wanted left' c : ℕ} {f : Family} {v : Services}
    {flow : Flow (Unit {0})} → acts ≤ more →
    Comes k.call.code c f v (past_aims k body start more end wanted left') flow →
    Comes k.call.code c f v (past_aims k body start acts end wanted left') flow
past_since {k} {body} {start} {acts} {more} {end} {wanted} {left'} {flow = flow} few o =
    comes_map (past_aims k body start more end wanted left') (past_aims k body start acts end wanted left') refl flow
    (λ c f v r s q. record { past = q.past; known = q.known; goes = goes_since few q.goes })
    (λ c f v height label s q.
    outs_since k.call.surroundings k.call.code k.outers acts more c f v height label (closed s) few q)
    (λ c f v r s q. q)
    o

jumps_of :
    {k : Block} {body : Y.Stmts} {index acts more c : ℕ} {f : Family} {v : Services} {height : ℕ} {label : Label}
    {s : State} (past : Past) → IsPast k body index past → acts ≤ more →
    JumpsTo (after k past) (M.labels_in body) more c f v height label s →
    JumpsIn k body index acts c f v height label s
jumps_of {k} {body} {index} {acts} {more} {c} {f} {v} {height} {label} {s} past known few o = record { to = by o.to }
  where
    by :
        LandsAt (after k past) (M.labels_in body) more c f v height label s
        ⊎ JumpsOut k.call.surroundings k.call.code k.outers more c f v height label (closed s) →
        LandsIn k body index acts c f v height label s
        ⊎ JumpsOut k.call.surroundings k.call.code k.outers acts c f v height label (closed s)
    by (inl here) = inl (record { past = past; known = known; lands = lands_since few here })
    by (inr out) =
        inr (outs_since k.call.surroundings k.call.code k.outers acts more c f v height label (closed s) few out)

-- ---- one statement

-- behind it, with one unit more perhaps
record GoesIn (k : Block) (body : Y.Stmts) (index acts end credits : ℕ) (f : Family) (v : Services)
    (s : State) : Type 0 where
  past : Past
  known : IsPast k body index past
  goes : GoesOn (after k past) acts end 0 credits f v s

abbrev step_aims : Block → Y.Stmts → (index left' acts end : ℕ) → Aims (Unit {0})
step_aims k body index left' acts end =
    record {
      limits = limits_of k.call.surroundings;
      done = λ c f v r s. GoesIn k body index acts end c f v s;
      jumped = λ c f v height label s. JumpsIn k body index acts c f v height label s;
      returned = λ c f v r s. ReturnsTo k left' c f v r s;
    }

on_comes :
    {k : Block} {body : Y.Stmts} {index end wanted left' : ℕ} (z : Listing k body index end wanted left')
    (x : OnUnit) (i acts c : ℕ) (past : Past) → IsPast k body index past → IsOn (after k past) x i →
    StandsIn k body index (x, i) → (p : Point) (numbers : ℕ → ℕ) (f : Family) → acts ≤ p.state.world.acts →
    IsAmong (after k past) numbers p → c + size_in k (on_of x) ≤ cost k.call.code →
    AreIn k.call.surroundings p numbers i f →
    Comes k.call.code c f (services_of p) (step_aims k body index left' acts (i + size_in k (on_of x)))
    (M.statement k.around (on_of x) k.call.surroundings.acts p.state)
on_comes {k} {body} {index} {left' = left'} z x i acts c past known on stands p numbers f since o paid there =
    let past' : Past = (x, i) ∷ past in
    let known' : IsPast k body index past' = (on, stands, known) in
    let behind = i + size_in k (on_of x) in
    comes_map (statement_aims (after k past') (M.labels_in body) p.state.world.acts behind 0 left')
    (step_aims k body index left' acts behind) refl (M.statement k.around (on_of x) k.call.surroundings.acts p.state)
    (λ c' f' v' r s q. record { past = past'; known = known'; goes = goes_since since q })
    (λ c' f' v' height label s q. jumps_of past' known' since q)
    (λ c' f' v' r s q. record { to = q.to })
    (unit_does (after k past) (M.labels_in body) x i left' on p numbers c 0 f o paid there)

-- whatever it is
step_comes :
    {k : Block} {body : Y.Stmts} {index end wanted left' : ℕ} (z : Listing k body index end wanted left')
    (stmt : Y.Stmt) (i acts c : ℕ) (past : Past) → IsPast k body index past → StepDoes k body index stmt i left' →
    ((x : OnUnit) → stmt ≡ on_of x → StandsIn k body index (x, i)) → (p : Point) (numbers : ℕ → ℕ) (f : Family) →
    acts ≤ p.state.world.acts → IsAmong (after k past) numbers p → c + size_in k stmt ≤ cost k.call.code →
    AreIn k.call.surroundings p numbers i f →
    Comes k.call.code c f (services_of p) (step_aims k body index left' acts (i + size_in k stmt))
    (M.statement k.around stmt k.call.surroundings.acts p.state)
step_comes {k} {body} {index} {left' = left'} z stmt i acts c past known (inl on) into p numbers f since o paid there =
    subst (λ t. Comes k.call.code c f (services_of p) (step_aims k body index left' acts (i + size_in k t))
    (M.statement k.around t k.call.surroundings.acts p.state)) (sym on.1)
    (on_comes z on.0 i acts c past known (on.2 past known) (into on.0 on.1) p numbers f since o
    (subst (λ t. c + size_in k t ≤ cost k.call.code) on.1 paid) there)
step_comes {k} {body} {index} {left' = left'} z stmt i acts c past known (inr does) into p numbers f since o paid
    there =
    let behind = i + size_in k stmt in
    comes_map (statement_aims (after k past) (M.labels_in body) p.state.world.acts behind 0 left')
    (step_aims k body index left' acts behind) refl (M.statement k.around stmt k.call.surroundings.acts p.state)
    (λ c' f' v' r s q. record { past = past; known = known; goes = goes_since since q })
    (λ c' f' v' height label s q. jumps_of past known since q)
    (λ c' f' v' r s q. record { to = q.to })
    (does past known p numbers c 0 f o paid there)

-- ---- statements, from the first on

marked_size : (block : ℕ) (labels : List Label) → size_of (marked block labels) ≡ 0
marked_size block [] = refl
marked_size block (label ∷ labels) = let n = marked_size block labels in omega (arith, n)

moved_in :
    (k : Block) {p : Point} {numbers : ℕ → ℕ} {i j : ℕ} (f : Family) → i ≡ j →
    AreIn k.call.surroundings p numbers i f → AreIn k.call.surroundings p numbers j f
moved_in k {p} {numbers} f e there = subst (λ n. AreIn k.call.surroundings p numbers n f) e there

-- at the end of the list it goes on behind it
ends_here :
    {k : Block} {body : Y.Stmts} {index end wanted left' : ℕ} (z : Listing k body index end wanted left')
    (acts c : ℕ) (past : Past) → IsPast k body index past → (p : Point) (numbers : ℕ → ℕ) (f : Family) →
    acts ≤ p.state.world.acts → IsAmong (after k past) numbers p → c ≤ wanted →
    AreIn k.call.surroundings p numbers end f → GoesPast k body index acts end wanted c f (services_of p) p.state
ends_here {k} {body} {index} {end} {wanted} z acts c past known p numbers f since o few there =
    record {
      past = past;
      known = known;
      goes = record {
        point = p;
        numbers = numbers;
        among = o;
        since = since;
        state = refl;
        reach = reach_with wanted few (stay k.call.code c f (services_of p)
            (λ b y. IsIn k.call.surroundings p numbers end b y) there);
      };
    }

-- the statements from an index on are the last of the list
record Suffix (k : Block) (body : Y.Stmts) (index end left' : ℕ) (rest : Y.Stmts) (i : ℕ) : Type 0 where
  all : AllDo k body index rest i left'
  linked : Linked k.call.surroundings.links k.call.code i (stmts_code k.environment none_taken rest)
  ends : end ≡ i + size_of (stmts_code k.environment none_taken rest)
  into : (e : OnUnit × ℕ) → StandsIn k rest i e → StandsIn k body index e

rest_of :
    {k : Block} {body : Y.Stmts} {index end left' i : ℕ} (own : List Label) (first : Y.Stmt) (rest : Y.Stmts) →
    Suffix k body index end left' (Y.StmtThen own first rest) i →
    Suffix k body index end left' rest (i + size_of (marked k.environment.block own) + size_in k first)
rest_of {k} {i = i} own first rest z =
    let marks = marked k.environment.block own in
    let one = stmt_code k.environment none_taken first in
    let more = stmts_code k.environment none_taken rest in
    let n0 = size_append marks (one ++ more) in
    let n1 = size_append one more in
    let ends = z.ends in
    record {
      all = z.all.1;
      linked = back_of one more (back_of marks (one ++ more) z.linked);
      ends = omega (arith, ends, n0, n1);
      into = λ e o. z.into e (inr o);
    }

statements_come :
    {k : Block} {body : Y.Stmts} {index end wanted left' : ℕ} (z : Listing k body index end wanted left')
    (rest : Y.Stmts) (i acts c : ℕ) (past : Past) → IsPast k body index past →
    Suffix k body index end left' rest i → (p : Point) (numbers : ℕ → ℕ) (f : Family) → acts ≤ p.state.world.acts →
    IsAmong (after k past) numbers p →
    (c ≤ wanted) × (c + size_of (stmts_code k.environment none_taken rest) ≤ cost k.call.code) →
    AreIn k.call.surroundings p numbers i f →
    Comes k.call.code c f (services_of p) (inside_aims k body index acts end wanted left')
    (M.statements k.around rest None k.call.surroundings.acts p.state)
unfolding M.statements give choose ◌>>◌
statements_come {k} z (Y.EndOfList own) i acts c past known x p numbers f since o fits there =
    let n = marked_size k.environment.block own in
    let ends = x.ends in
    record {
      to = λ early.
          ends_here z acts c past known p numbers f since o fits.0 (moved_in k f (omega (arith, n, ends)) there);
    }
statements_come {k} {body} {index} {end} {wanted} {left'} z (Y.StmtThen own first rest) i acts c past known x p
    numbers f since o fits there =
    let w = k.call.surroundings in
    let marks = marked k.environment.block own in
    let one = stmt_code k.environment none_taken first in
    let more = stmts_code k.environment none_taken rest in
    let n = marked_size k.environment.block own in
    let n0 = size_append marks (one ++ more) in
    let n1 = size_append one more in
    let paid = fits.1 in
    let inside = x.linked.inside in
    let j = i + size_of marks in
    let next' : Unit {0} → Meaning (Unit {0}) = λ u. M.statements k.around rest None in
    let goal = inside_aims k body index acts end wanted left' in
    let flow = M.statement k.around first w.acts p.state in
    comes_on w.acts flow next'
    (comes_map (step_aims k body index left' p.state.world.acts (j + size_of one))
    (before k.call.code goal w.acts next') refl flow
    (λ c' f' v' r s q.
    let later = q.goes.since in
    subst (λ u. Comes k.call.code c' f' v' goal (M.statements k.around rest None w.acts u)) (sym q.goes.state)
    (onward (inside_closed k body index acts end wanted left') q.goes.reach
    (λ g at.
    statements_come z rest (j + size_of one) acts 0 q.past q.known (rest_of own first rest x) q.goes.point
    q.goes.numbers g (omega (arith, since, later)) q.goes.among (omega arith, omega (arith, n0, n1, inside)) at)))
    (λ c' f' v' height label s q. lands_in_since since q)
    (λ c' f' v' r s q. q)
    (step_comes z first j p.state.world.acts c past known x.all.0 (λ y e. x.into (y, j) (inl (e, refl))) p numbers f
    (omega arith) o (omega (arith, n0, n1, paid)) (moved_in k f (omega (arith, n)) there)))

-- ---- and from a label of the list

or_else : (label : Label) (xs ys : List Label) → is_among label (xs ++ ys) ≡ true → is_among label xs ≡ false →
    is_among label ys ≡ true
or_else label [] ys e f = e
or_else label (x ∷ xs) ys e f = by (same_bytes label x) e f (λ a b. or_else label xs ys a b)
  where
    by :
        (q : Bool) → q || is_among label (xs ++ ys) ≡ true → q || is_among label xs ≡ false →
        (is_among label (xs ++ ys) ≡ true → is_among label xs ≡ false → is_among label ys ≡ true) →
        is_among label ys ≡ true
    by true e f rest = absurd (cc f)
    by false e f rest = rest e f

sought_come :
    {k : Block} {body : Y.Stmts} {index end wanted left' : ℕ} (z : Listing k body index end wanted left')
    (label : Label) (rest : Y.Stmts) (i acts at : ℕ) (past : Past) → IsPast k body index past →
    Suffix k body index end left' rest i → AreMarked k.call.surroundings.links k.environment rest i → (p : Point)
    (numbers : ℕ → ℕ) (f : Family) → acts ≤ p.state.world.acts → IsAmong (after k past) numbers p →
    is_among label (M.labels_in rest) ≡ true →
    place_of k.call.surroundings.links (LabelPlace k.environment.block label) ≡ 4 * at →
    AreIn k.call.surroundings p numbers at f →
    Comes k.call.code 0 f (services_of p) (inside_aims k body index acts end wanted left')
    (M.statements k.around rest (Some label) k.call.surroundings.acts p.state)
unfolding M.statements give choose ◌>>◌
sought_come {k} z label (Y.EndOfList own) i acts at past known x marks p numbers f since o among place there =
    let n = marked_size k.environment.block own in
    let ends = x.ends in
    let here = marks label among in
    record {
      to = λ early. ends_here z acts 0 past known p numbers f since o (omega arith)
          (moved_in k f (omega (arith, n, here, place, ends)) there);
    }
sought_come {k} {body} {index} {end} {wanted} {left'} z label (Y.StmtThen own first rest) i acts at past known x
    marks p numbers f since o among place there =
    by (is_among label own) refl
    (λ among'. sought_come z label rest (i + size_of (marked k.environment.block own) + size_in k first) acts at past
    known (rest_of own first rest x) marks.1 p numbers f since o among' place there)
    (λ here. statements_come z (Y.StmtThen own first rest) i acts 0 past known x p numbers f since o
    (omega arith, let inside = x.linked.inside in omega (arith, inside)) (moved_in k f here there))
  where
    met : Flow (Unit {0})
    met = M.statements k.around (Y.StmtThen own first rest) None k.call.surroundings.acts p.state

    on : Flow (Unit {0})
    on = M.statements k.around rest (Some label) k.call.surroundings.acts p.state

    goal : Flow (Unit {0}) → Type 0
    goal flow = Comes k.call.code 0 f (services_of p) (inside_aims k body index acts end wanted left') flow

    by :
        (q : Bool) → is_among label own ≡ q → (is_among label (M.labels_in rest) ≡ true → goal on) →
        (at ≡ i → goal met) → goal (cond (is_among label own) met on)
    by true e later here =
        let stands = marks.0 label e in
        subst (λ q. goal (cond q met on)) (sym e) (here (omega (arith, stands, place)))
    by false e later here =
        subst (λ q. goal (cond q met on)) (sym e) (later (or_else label own (M.labels_in rest) among e))

-- ---- jumps that the list catches

comes_caught :
    {k : Block} {body : Y.Stmts} {index end wanted left' acts c : ℕ} {f : Family} {v : Services}
    (z : Listing k body index end wanted left') (height : ℕ) (flow : Flow (Unit {0}))
    (next' : Label → Meaning (Unit {0})) → height ≡ own_height k →
    ((label : Label) (c' : ℕ) (f' : Family) (v' : Services) (s : State) →
    LandsIn k body index acts c' f' v' height label s →
    Comes k.call.code c' f' v' (past_aims k body index acts end wanted left')
    (next' label k.call.surroundings.acts s)) →
    Comes k.call.code c f v (inside_aims k body index acts end wanted left') flow →
    Comes k.call.code c f v (past_aims k body index acts end wanted left')
    (caught k.call.surroundings.acts height (M.labels_in body) flow next')
comes_caught z height (Normal r s) next' same goes o = record { to = o.to }
comes_caught {k} {body} {index} {end} {wanted} {left'} {acts} {c} {f} {v} z height (Jump h label s) next' same goes o =
    record { to = λ early. (by (o.to early).to).to early }
  where
    on : Flow (Unit {0})
    on = next' label k.call.surroundings.acts s

    w : Surroundings
    w = k.call.surroundings

    goal : Flow (Unit {0}) → Type 0
    goal flow = Comes k.call.code c f v (past_aims k body index acts end wanted left') flow

    by :
        LandsIn k body index acts c f v h label s
        ⊎ JumpsOut k.call.surroundings k.call.code k.outers acts c f v h label (closed s) →
        goal (cond ((h == height) && is_among label (M.labels_in body)) on (Jump h label s))
    by (inl q) =
        let at : h ≡ height = q.lands.own ∙ sym same in
        subst (λ t. goal (cond (t && is_among label (M.labels_in body)) on (Jump h label s))) (sym (eq-eqb h height at))
        (subst (λ t. goal (cond t on (Jump h label s))) (sym q.lands.carried)
        (goes label c f v s (subst (λ n. LandsIn k body index acts c f v n label s) at q)))
    by (inr out) =
        let low = outs_low w k.call.code k.outers k.call.point acts c f v h label (closed s) z.begun.outer out in
        subst (λ t. goal (cond (t && is_among label (M.labels_in body)) on (Jump h label s)))
        (sym (eqb-other h height (omega (arith, low, same))))
        (record { to = λ early. out })
comes_caught z height (Return r s) next' same goes o = record { to = o.to }
comes_caught z height (F.Ended s) next' same goes o = record { to = o.to }
comes_caught z height (Paused s) next' same goes o = record { to = o.to }
comes_caught z height Stuck next' same goes o = record { to = o.to }

-- ---- turns of the list

whole_suffix :
    {k : Block} {body : Y.Stmts} {index end wanted left' : ℕ} → Listing k body index end wanted left' →
    Suffix k body index end left' body index
whole_suffix z = record { all = z.all; linked = z.linked; ends = z.ends; into = λ e o. o }

jumped_on :
    (n : ℕ) {k : Block} {body : Y.Stmts} {index end wanted left' acts c : ℕ} {f : Family} {v : Services} {s : State}
    (height : ℕ) (label : Label) → k.call.surroundings.acts < suc n + acts →
    (q : LandsIn k body index acts c f v height label s) →
    (k.call.surroundings.acts < n + q.lands.point.state.world.acts → (g : Family) →
    AreIn k.call.surroundings q.lands.point q.lands.numbers q.lands.index g →
    Comes k.call.code 0 g (services_of q.lands.point)
    (past_aims k body index q.lands.point.state.world.acts end wanted left')
    (list_from n height (M.labels_in body) (M.statements k.around body) (Some label) k.call.surroundings.acts
    q.lands.point.state)) →
    Comes k.call.code c f v (past_aims k body index acts end wanted left')
    (list_from n height (M.labels_in body) (M.statements k.around body) (Some label) k.call.surroundings.acts s)
jumped_on n {k} {body} {index} {end} {wanted} {left'} {acts} {c} {f} {v} height label few q rest =
    let more = q.lands.more in
    subst (λ u. Comes k.call.code c f v (past_aims k body index acts end wanted left')
    (list_from n height (M.labels_in body) (M.statements k.around body) (Some label) k.call.surroundings.acts u))
    (sym q.lands.state)
    (onward (past_closed k body index acts end wanted left') q.lands.reach
    (λ g at'.
    past_since {k = k} {body = body} {start = index} (omega (arith, more)) (rest (omega (arith, few, more)) g at')))

turns_come :
    (turns : ℕ) {k : Block} {body : Y.Stmts} {index end wanted left' : ℕ} (z : Listing k body index end wanted left')
    (height : ℕ) (label : Label) (at : ℕ) (past : Past) → IsPast k body index past → (p : Point)
    (numbers : ℕ → ℕ) (f : Family) → height ≡ own_height k →
    k.call.surroundings.acts < turns + p.state.world.acts → IsAmong (after k past) numbers p →
    is_among label (M.labels_in body) ≡ true →
    place_of k.call.surroundings.links (LabelPlace k.environment.block label) ≡ 4 * at →
    AreIn k.call.surroundings p numbers at f →
    Comes k.call.code 0 f (services_of p) (past_aims k body index p.state.world.acts end wanted left')
    (list_from turns height (M.labels_in body) (M.statements k.around body) (Some label) k.call.surroundings.acts
    p.state)
unfolding list_from
turns_come zero z height label at past known p numbers f same few o among place there =
    let allowed = o.stands.allowed in
    absurd (omega (arith, allowed, few))
turns_come (suc n) {k} {body} {index} z height label at past known p numbers f same few o among place there =
    comes_caught z height (M.statements k.around body (Some label) k.call.surroundings.acts p.state)
    (λ l. list_from n height (M.labels_in body) (M.statements k.around body) (Some l)) same
    (λ l c' f' v' s q. jumped_on n height l few q
    (λ m g at'. turns_come n z height l q.lands.index q.past q.known q.lands.point q.lands.numbers g same m
    q.lands.among q.lands.carried q.lands.place at'))
    (sought_come z label body index p.state.world.acts at past known (whole_suffix z) z.marks p numbers f (omega arith)
    o among place there)

starts_come :
    (turns : ℕ) {k : Block} {body : Y.Stmts} {index end wanted left' : ℕ} (z : Listing k body index end wanted left')
    (height : ℕ) (p : Point) (numbers : ℕ → ℕ) (c : ℕ) (f : Family) → height ≡ own_height k →
    k.call.surroundings.acts < turns + p.state.world.acts → IsAmong k numbers p →
    (c ≤ wanted) × (c + size_of (stmts_code k.environment none_taken body) ≤ cost k.call.code) →
    AreIn k.call.surroundings p numbers index f →
    Comes k.call.code c f (services_of p) (past_aims k body index p.state.world.acts end wanted left')
    (list_from turns height (M.labels_in body) (M.statements k.around body) None k.call.surroundings.acts p.state)
unfolding list_from
starts_come zero z height p numbers c f same few o fits there =
    let allowed = o.stands.allowed in
    absurd (omega (arith, allowed, few))
starts_come (suc n) {k} {body} {index} z height p numbers c f same few o fits there =
    comes_caught z height (M.statements k.around body None k.call.surroundings.acts p.state)
    (λ l. list_from n height (M.labels_in body) (M.statements k.around body) (Some l)) same
    (λ l c' f' v' s q. jumped_on n height l few q
    (λ m g at'. turns_come n z height l q.lands.index q.past q.known q.lands.point q.lands.numbers g same m
    q.lands.among q.lands.carried q.lands.place at'))
    (statements_come z body index p.state.world.acts c [] tt (whole_suffix z) p numbers f (omega arith) o fits there)

-- from any point of the block
pub changing_past :
    (k : Block) (body : Y.Stmts) (index wanted left' c : ℕ) (p : Point) (numbers : ℕ → ℕ) (f : Family) → IsBegun k →
    k.call.surroundings.acts < k.around.turns + p.state.world.acts →
    AreMarked k.call.surroundings.links k.environment body index → AllDo k body index body index left' →
    IsAmong k numbers p →
    Linked k.call.surroundings.links k.call.code index (stmts_code k.environment none_taken body) →
    (c ≤ wanted) × (c + size_of (stmts_code k.environment none_taken body) ≤ cost k.call.code) →
    AreIn k.call.surroundings p numbers index f →
    Comes k.call.code c f (services_of p)
    (past_aims k body index p.state.world.acts (index + size_of (stmts_code k.environment none_taken body)) wanted
    left')
    (M.list k.around body k.call.surroundings.acts p.state)
unfolding M.list M.list_with looked ◌>>=◌
changing_past k body index wanted left' c p numbers f begun few marks all o l fits there =
    starts_come k.around.turns (record { begun = begun; marks = marks; all = all; linked = l; ends = refl })
    (newest_height p.state.activations) p numbers c f (newest_own (newest_at begun o)) few o fits there

-- whatever units it has by then
pub changing_goes :
    (k : Block) (body : Y.Stmts) (index wanted left' c : ℕ) (p : Point) (numbers : ℕ → ℕ) (f : Family) → IsBegun k →
    k.call.surroundings.acts < k.around.turns + p.state.world.acts →
    AreMarked k.call.surroundings.links k.environment body index → AllDo k body index body index left' →
    IsAmong k numbers p →
    Linked k.call.surroundings.links k.call.code index (stmts_code k.environment none_taken body) →
    (c ≤ wanted) × (c + size_of (stmts_code k.environment none_taken body) ≤ cost k.call.code) →
    AreIn k.call.surroundings p numbers index f →
    Comes k.call.code c f (services_of p)
    (list_aims k p.state.world.acts (index + size_of (stmts_code k.environment none_taken body)) wanted left')
    (M.list k.around body k.call.surroundings.acts p.state)
changing_goes k body index wanted left' c p numbers f begun few marks all o l fits there =
    let acts = p.state.world.acts in
    let end = index + size_of (stmts_code k.environment none_taken body) in
    comes_map (past_aims k body index acts end wanted left') (list_aims k acts end wanted left') refl
    (M.list k.around body k.call.surroundings.acts p.state)
    (λ c' f' v' r s q. record {
      first = past_point q.past k.first;
      begun = begun_after k body index q.past begun q.known;
      goes = q.goes;
    })
    (λ c' f' v' height label s q. q)
    (λ c' f' v' r s q. q)
    (changing_past k body index wanted left' c p numbers f begun few marks all o l fits there)

-- ---- the laws

-- a procedure's own list comes to the block's end
pub changing_ends :
    (k : Block) (body : Y.Stmts) (index left' : ℕ) → IsBody k body index →
    AreMarked k.call.surroundings.links k.environment body index → AllDo k body index body index left' →
    BodyDoes k body index left'
changing_ends k body index left' h marks all p numbers f o there =
    let w = k.call.surroundings in
    let acts = p.state.world.acts in
    let enough = h.enough in
    let more = o.later.acts in
    let inside = h.linked.inside in
    let flow = M.list k.around body w.acts p.state in
    comes_map (list_aims k acts k.call.end left' left') (body_aims k.call left') refl flow
    (λ c' f' v' r s q. at_end {k = from_point k q.first} q.begun h.function h.registers q.goes)
    (λ c' f' v' height label s q.
    no_jump {k = k} {acts = acts} {c = c'} {f = f'} {v = v'} {height = height} {label = label} {s = s} h.outers
    (record { to = inr q }))
    (λ c' f' v' r s q. own_return body index h q)
    (subst (λ j. Comes k.call.code 0 f (services_of p) (list_aims k acts j left' left') flow) (sym h.end)
    (changing_goes k body index left' left' 0 p numbers f h.begun (omega (arith, enough, more)) marks all o h.linked
    (omega arith, omega (arith, inside)) there))
