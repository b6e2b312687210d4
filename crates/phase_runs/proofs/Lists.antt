-- Lists through phases: from the start or from a label, and again from a label of their own after each jump to it.
use Rattle.std.proofs.Common.{◌≡◌, ℕ, zero, suc, ◌+◌, ◌*◌, ◌<◌, ◌≤◌, List, [], ◌∷◌, ◌++◌, Bool, ◌⊎◌, inl, inr, true}
use Rattle.std.proofs.Common.{false}
use Rattle.std.proofs.Common.{None, Option, Some, refl, sym, ap, ◌∙◌, subst, arith}
use Rattle.std.proofs.lemmas.Bool.{eq-eqb}
use Rattle.std.specs.Prelude.{cond, ◌&&◌, ◌||◌, ◌==◌}
use Rattle.pli_language.specs.Keywords.{same_bytes}
use Rattle.pli_typing.specs.TypedTree as Y
use Rattle.pli_meaning.specs.Control as F
use Rattle.pli_meaning.specs.Control.{Flow, Normal, Jump, Return, Paused, Stuck, Label, Meaning, caught, choose}
use Rattle.pli_meaning.specs.Control.{give, is_among, list_from, looked, ◌>>=◌, ◌>>◌}
use Rattle.pli_meaning.specs.Executing as M
use Rattle.pli_meaning.specs.StorageState.{State, newest_height}
use Rattle.pli_serving.specs.ServiceState.{Services}
use Rattle.pli_coding.specs.Assembly.{Code, LabelPlace, size_of}
use Rattle.pli_coding.specs.Linking.{place_of}
use Rattle.pli_coding.specs.Statements.{marked, stmt_code, stmts_code}
use Rattle.storage_relation.proofs.Holders.{eqb-other}
use Rattle.activation_relation.specs.Landing.{closed}
use Rattle.activation_relation.specs.Layers.{Point, services_of}
use Rattle.activation_relation.specs.Points.{Surroundings}
use Rattle.run_steps.specs.Items.{Linked}
use Rattle.run_steps.proofs.Jumps.{back_of}
use Rattle.run_steps.proofs.Linking.{size_append}
use Rattle.run_steps.specs.Reach.{Aims, Family, Comes, before, cost}
use Rattle.run_steps.proofs.Reach.{comes_on, onward, reach_with, stay}
use Rattle.block_runs.specs.Machines.{AreIn, IsIn}
use Rattle.block_runs.proofs.CallStatements.{comes_map}
use Rattle.program_runs.specs.Statements.{AreMarkedWith, Block, IsAmong, IsBegun, JumpsOut, LandsAt, own_height}
use Rattle.program_runs.specs.Statements.{set_aside}
use Rattle.program_runs.proofs.JumpsOut.{jumps_since, outs_low}
use Rattle.program_runs.proofs.NewestBlocks.{newest_at, newest_own}
use Rattle.phase_runs.specs.Forms.{IsInside}
use Rattle.phase_runs.specs.Phases.{AreBegun, EachThrough, InSome, Phases, in_phase, phase_aims}
use Rattle.phase_runs.proofs.Aims.{phase_closed, phase_since}

marked_size : (block : ℕ) (labels : List Label) → size_of (marked block labels) ≡ 0
marked_size block [] = refl
marked_size block (label ∷ labels) = let n = marked_size block labels in omega (arith, n)

moved_in :
    (k : Block) {p : Point} {numbers : ℕ → ℕ} {i j : ℕ} (f : Family) → i ≡ j →
    AreIn k.call.surroundings p numbers i f → AreIn k.call.surroundings p numbers j f
moved_in k {p} {numbers} f e there = subst (λ n. AreIn k.call.surroundings p numbers n f) e there

-- nothing more is done
pub none_left :
    (k : Block) (ps : Phases) (labels : List Label) (acts index c wanted left' : ℕ) (first : Point) → ps first →
    (p : Point) (numbers : ℕ → ℕ) (f : Family) → acts ≤ p.state.world.acts → IsAmong (in_phase k first) numbers p →
    c ≤ wanted → AreIn k.call.surroundings p numbers index f →
    (phase_aims k ps labels acts index wanted left').done c f (services_of p) tt p.state
none_left k ps labels acts index c wanted left' first is p numbers f since o few there =
    record {
      first = first;
      is = is;
      holds = record {
        point = p;
        numbers = numbers;
        among = o;
        since = since;
        state = refl;
        reach = reach_with wanted few (stay k.call.code c f (services_of p)
            (λ b y. IsIn k.call.surroundings p numbers index b y) there);
      };
    }

-- ---- statements, from the first on

pub statements_do :
    (words : ℕ) (k : Block) (ps : Phases) (labels : List Label) (body : Y.Stmts) (acts index left' c wanted : ℕ)
    (first' : Point) → ps first' → (p : Point) (numbers : ℕ → ℕ) (f : Family) → acts ≤ p.state.world.acts →
    EachThrough words k ps labels body index left' → IsAmong (in_phase k first') numbers p →
    Linked k.call.surroundings.links k.call.code index (stmts_code k.environment (set_aside words) body) →
    (c ≤ wanted) × (c + size_of (stmts_code k.environment (set_aside words) body) ≤ cost k.call.code) →
    AreIn k.call.surroundings p numbers index f →
    Comes k.call.code c f (services_of p)
    (phase_aims k ps labels acts (index + size_of (stmts_code k.environment (set_aside words) body)) wanted left')
    (M.statements k.around body None k.call.surroundings.acts p.state)
unfolding M.statements give choose ◌>>◌
statements_do words k ps labels (Y.EndOfList own) acts index left' c wanted first' is p numbers f since each o l fits
    there =
    let n = marked_size k.environment.block own in
    record {
      to = λ early. none_left k ps labels acts _ c wanted left' first' is p numbers f since o fits.0
          (moved_in k f (omega (arith, n)) there);
    }
statements_do words k ps labels (Y.StmtThen own first rest) acts index left' c wanted first' is p numbers f since each o
    l fits there =
    let w = k.call.surroundings in
    let marks = marked k.environment.block own in
    let one = stmt_code k.environment (set_aside words) first in
    let more = stmts_code k.environment (set_aside words) rest in
    let n = marked_size k.environment.block own in
    let n0 = size_append marks (one ++ more) in
    let n1 = size_append one more in
    let paid = fits.1 in
    let l1 = back_of marks (one ++ more) l in
    let l2 = back_of one more l1 in
    let inside = l.inside in
    let i = index + size_of marks in
    let next' : Unit {0} → Meaning (Unit {0}) = λ u. M.statements k.around rest None in
    let goal = phase_aims k ps labels acts (i + size_of one + size_of more) wanted left' in
    subst (λ j. Comes k.call.code c f (services_of p) (phase_aims k ps labels acts j wanted left')
    (M.statements k.around (Y.StmtThen own first rest) None w.acts p.state)) (omega (arith, n0, n1))
    (comes_on w.acts (M.statement k.around first w.acts p.state) next'
    (comes_map (phase_aims k ps labels p.state.world.acts (i + size_of one) 0 left')
    (before k.call.code goal w.acts next') refl (M.statement k.around first w.acts p.state)
    (λ c' f' v' r s t.
    let q = t.holds in
    let later = q.since in
    subst (λ u. Comes k.call.code c' f' v' goal (M.statements k.around rest None w.acts u)) (sym q.state)
    (onward (phase_closed k ps labels acts (i + size_of one + size_of more) wanted left') q.reach
    (λ g at.
    statements_do words k ps labels rest acts (i + size_of one) left' 0 wanted t.first t.is q.point q.numbers g
    (omega (arith, since, later)) each.1 q.among l2 (omega arith, omega (arith, n0, n1, inside)) at)))
    (λ c' f' v' height label s t. record { first = t.first; is = t.is; holds = jumps_since since t.holds })
    (λ c' f' v' r s q. q)
    (each.0 first' is p numbers c 0 f o (omega (arith, n0, n1, paid)) (moved_in k f (omega (arith, n)) there))))

-- ---- and from a label of the list

pub or_else : (label : Label) (xs ys : List Label) → is_among label (xs ++ ys) ≡ true → is_among label xs ≡ false →
    is_among label ys ≡ true
or_else label [] ys e f = e
or_else label (x ∷ xs) ys e f = by (same_bytes label x) e f (λ a b. or_else label xs ys a b)
  where
    by :
        (q : Bool) → q || is_among label (xs ++ ys) ≡ true → q || is_among label xs ≡ false →
        (is_among label (xs ++ ys) ≡ true → is_among label xs ≡ false → is_among label ys ≡ true) →
        is_among label ys ≡ true
    by true e f rest = absurd (cc f)
    by false e f rest = rest e f

pub sought_do :
    (words : ℕ) (k : Block) (ps : Phases) (labels : List Label) (label : Label) (body : Y.Stmts)
    (index left' wanted at : ℕ) (first' : Point) → ps first' → (p : Point) (numbers : ℕ → ℕ) (f : Family) →
    EachThrough words k ps labels body index left' →
    AreMarkedWith words k.call.surroundings.links k.environment body index → IsAmong (in_phase k first') numbers p →
    Linked k.call.surroundings.links k.call.code index (stmts_code k.environment (set_aside words) body) →
    is_among label (M.labels_in body) ≡ true →
    place_of k.call.surroundings.links (LabelPlace k.environment.block label) ≡ 4 * at →
    AreIn k.call.surroundings p numbers at f →
    Comes k.call.code 0 f (services_of p)
    (phase_aims k ps labels p.state.world.acts (index + size_of (stmts_code k.environment (set_aside words) body))
    wanted left')
    (M.statements k.around body (Some label) k.call.surroundings.acts p.state)
unfolding M.statements give choose ◌>>◌
sought_do words k ps labels label (Y.EndOfList own) index left' wanted at first' is p numbers f each marks o l among
    place there =
    let n = marked_size k.environment.block own in
    let here = marks label among in
    record {
      to = λ early.
          none_left k ps labels p.state.world.acts _ 0 wanted left' first' is p numbers f (omega arith) o (omega arith)
          (moved_in k f (omega (arith, n, here, place)) there);
    }
sought_do words k ps labels label (Y.StmtThen own first rest) index left' wanted at first' is p numbers f each marks o l
    among place there =
    by (is_among label own) refl
    (λ among'. sought_do words k ps labels label rest (index + size_of (marked k.environment.block own)
    + size_of (stmt_code k.environment (set_aside words) first)) left' wanted at first' is p numbers f each.1 marks.1 o
    (back_of (stmt_code k.environment (set_aside words) first) (stmts_code k.environment (set_aside words) rest)
    (back_of (marked k.environment.block own)
    (stmt_code k.environment (set_aside words) first ++ stmts_code k.environment (set_aside words) rest) l)) among'
    place there)
  where
    w : Surroundings
    w = k.call.surroundings

    marks' : Code
    marks' = marked k.environment.block own

    one : Code
    one = stmt_code k.environment (set_aside words) first

    more : Code
    more = stmts_code k.environment (set_aside words) rest

    met : Flow (Unit {0})
    met = M.statements k.around (Y.StmtThen own first rest) None w.acts p.state

    on : Flow (Unit {0})
    on = M.statements k.around rest (Some label) w.acts p.state

    goal : (j : ℕ) → Aims (Unit {0})
    goal j = phase_aims k ps labels p.state.world.acts j wanted left'

    n0 : size_of (marks' ++ (one ++ more)) ≡ size_of marks' + size_of (one ++ more)
    n0 = size_append marks' (one ++ more)

    n1 : size_of (one ++ more) ≡ size_of one + size_of more
    n1 = size_append one more

    by :
        (q : Bool) → is_among label own ≡ q →
        (is_among label (M.labels_in rest) ≡ true →
        Comes k.call.code 0 f (services_of p)
        (goal (index + size_of marks' + size_of one + size_of more)) on) →
        Comes k.call.code 0 f (services_of p) (goal (index + size_of (marks' ++ (one ++ more))))
        (cond (is_among label own) met on)
    by true e later =
        let here = marks.0 label e in
        let inside = l.inside in
        subst (λ q. Comes k.call.code 0 f (services_of p) (goal (index + size_of (marks' ++ (one ++ more))))
        (cond q met on)) (sym e)
        (statements_do words k ps labels (Y.StmtThen own first rest) p.state.world.acts index left' 0 wanted first' is p
        numbers f (omega arith) each o l (omega arith, omega (arith, inside))
        (moved_in k f (omega (arith, here, place)) there))
    by false e later =
        subst (λ q. Comes k.call.code 0 f (services_of p) (goal (index + size_of (marks' ++ (one ++ more))))
        (cond q met on)) (sym e)
        (subst (λ j. Comes k.call.code 0 f (services_of p) (goal j) on) (omega (arith, n0, n1))
        (later (or_else label own (M.labels_in rest) among e)))

-- ---- jumps that a list catches

abbrev caught_by :
    Block → (height : ℕ) → List Label → (h : ℕ) → Label → State → (Label → Meaning (Unit {0})) → Flow (Unit {0})
caught_by k height own h label s next' =
    cond ((h == height) && is_among label own) (next' label k.call.surroundings.acts s) (Jump h label s)

-- a label of the list, or of another that the block is carrying out
lands_caught :
    (k : Block) (ps : Phases) {labels : List Label} {acts index wanted left' c : ℕ} {f : Family} {v : Services}
    (own : List Label) (height h : ℕ) (label : Label) (s : State) (next' : Label → Meaning (Unit {0})) (first : Point)
    → ps first → height ≡ own_height k →
    (LandsAt (in_phase k first) own acts c f v height label s →
    Comes k.call.code c f v (phase_aims k ps labels acts index wanted left')
    (next' label k.call.surroundings.acts s)) → LandsAt (in_phase k first) (own ++ labels) acts c f v h label s →
    Comes k.call.code c f v (phase_aims k ps labels acts index wanted left') (caught_by k height own h label s next')
lands_caught k ps {labels} {acts} {index} {wanted} {left'} {c} {f} {v} own height h label s next' first is same goes
    lands =
    by (is_among label own) refl
  where
    goal : Aims (Unit {0})
    goal = phase_aims k ps labels acts index wanted left'

    on : Flow (Unit {0})
    on = next' label k.call.surroundings.acts s

    lands_on :
        (xs : List Label) → is_among label xs ≡ true → LandsAt (in_phase k first) xs acts c f v h label s
    lands_on xs among =
        record {
          own = lands.own;
          carried = among;
          point = lands.point;
          numbers = lands.numbers;
          among = lands.among;
          more = lands.more;
          state = lands.state;
          index = lands.index;
          place = lands.place;
          reach = lands.reach;
        }

    same_height : h ≡ height
    same_height = lands.own ∙ sym same

    by :
        (r : Bool) → is_among label own ≡ r → Comes k.call.code c f v goal (caught_by k height own h label s next')
    by true g =
        subst (λ t. Comes k.call.code c f v goal (cond (t && is_among label own) on (Jump h label s)))
        (sym (eq-eqb h height same_height))
        (subst (λ t. Comes k.call.code c f v goal (cond t on (Jump h label s))) (sym g)
        (goes (subst (λ n. LandsAt (in_phase k first) own acts c f v n label s) same_height (lands_on own g))))
    by false g =
        subst (λ t. Comes k.call.code c f v goal (cond (t && is_among label own) on (Jump h label s)))
        (sym (eq-eqb h height same_height))
        (subst (λ t. Comes k.call.code c f v goal (cond t on (Jump h label s))) (sym g)
        (record {
          to = λ early. record {
            first = first;
            is = is;
            holds = record { to = inl (lands_on labels (or_else label own labels lands.carried g)) };
          };
        }))

-- a label of a block further out is not the list's
outs_caught :
    (k : Block) (ps : Phases) {labels : List Label} {acts index wanted left' c : ℕ} {f : Family} {v : Services}
    (own : List Label) (height h : ℕ) (label : Label) (s : State) (next' : Label → Meaning (Unit {0})) (first : Point)
    → ps first → AreBegun k ps → height ≡ own_height k →
    JumpsOut k.call.surroundings k.call.code k.outers acts c f v h label (closed s) →
    Comes k.call.code c f v (phase_aims k ps labels acts index wanted left') (caught_by k height own h label s next')
outs_caught k ps {labels} {acts} {index} {wanted} {left'} {c} {f} {v} own height h label s next' first is b same
    out =
    let w = k.call.surroundings in
    let low = outs_low w k.call.code k.outers k.call.point acts c f v h label (closed s) (b first is).outer out in
    subst (λ t. Comes k.call.code c f v (phase_aims k ps labels acts index wanted left')
    (cond (t && is_among label own) (next' label w.acts s) (Jump h label s)))
    (sym (eqb-other h height (omega (arith, low, same))))
    (record { to = λ early. record { first = first; is = is; holds = record { to = inr out } } })

comes_caught :
    (k : Block) (ps : Phases) {labels : List Label} {acts index wanted left' c : ℕ} {f : Family} {v : Services}
    (own : List Label) (height : ℕ) (flow : Flow (Unit {0})) (next' : Label → Meaning (Unit {0})) → AreBegun k ps →
    height ≡ own_height k →
    ((label : Label) (c' : ℕ) (f' : Family) (v' : Services) (s : State) (first : Point) → ps first →
    LandsAt (in_phase k first) own acts c' f' v' height label s →
    Comes k.call.code c' f' v' (phase_aims k ps labels acts index wanted left')
    (next' label k.call.surroundings.acts s)) →
    Comes k.call.code c f v (phase_aims k ps (own ++ labels) acts index wanted left') flow →
    Comes k.call.code c f v (phase_aims k ps labels acts index wanted left')
    (caught k.call.surroundings.acts height own flow next')
comes_caught k ps own height (Normal r s) next' b same goes o = record { to = o.to }
comes_caught k ps {labels} {acts} {index} {wanted} {left'} {c} {f} {v} own height (Jump h label s) next' b same goes
    o =
    record { to = λ early. let q = o.to early in (by q.first q.is q.holds.to).to early }
  where
    by :
        (first : Point) → ps first →
        LandsAt (in_phase k first) (own ++ labels) acts c f v h label s
        ⊎ JumpsOut k.call.surroundings k.call.code k.outers acts c f v h label (closed s) →
        Comes k.call.code c f v (phase_aims k ps labels acts index wanted left')
        (caught_by k height own h label s next')
    by first is (inl here) =
        lands_caught k ps own height h label s next' first is same (goes label c f v s first is) here
    by first is (inr out) = outs_caught k ps own height h label s next' first is b same out
comes_caught k ps own height (Return r s) next' b same goes o =
    record {
      to = λ early.
          let q = o.to early in record { first = q.first; is = q.is; holds = record { to = q.holds.to } };
    }
comes_caught k ps own height (F.Ended s) next' b same goes o = record { to = o.to }
comes_caught k ps own height (Paused s) next' b same goes o = record { to = o.to }
comes_caught k ps own height Stuck next' b same goes o = record { to = o.to }

-- ---- turns of a list

-- what is known of a list wherever it runs
record Listing (words : ℕ) (k : Block) (ps : Phases) (labels : List Label) (body : Y.Stmts) (index left' : ℕ)
    : Type 0
  where
    begun : AreBegun k ps
    each : EachThrough words k ps (M.labels_in body ++ labels) body index left'
    marks : AreMarkedWith words k.call.surroundings.links k.environment body index
    linked : Linked k.call.surroundings.links k.call.code index (stmts_code k.environment (set_aside words) body)

abbrev list_aims :
    (words : ℕ) → Block → Phases → List Label → Y.Stmts → (acts index wanted left' : ℕ) → Aims (Unit {0})
list_aims words k ps labels body acts index wanted left' =
    phase_aims k ps labels acts (index + size_of (stmts_code k.environment (set_aside words) body)) wanted left'

-- where a turn jumps to another label, the next one is due
jumped_on :
    (n words : ℕ) (k : Block) (ps : Phases) (labels : List Label) (body : Y.Stmts)
    (index left' wanted height : ℕ) (l : Label) (acts : ℕ) → k.call.surroundings.acts < suc n + acts → (c' : ℕ)
    (f' : Family) (v' : Services) (s : State) (first : Point)
    (q : LandsAt (in_phase k first) (M.labels_in body) acts c' f' v' height l s) →
    (k.call.surroundings.acts < n + q.point.state.world.acts → (g : Family) →
    AreIn k.call.surroundings q.point q.numbers q.index g →
    Comes k.call.code 0 g (services_of q.point)
    (list_aims words k ps labels body q.point.state.world.acts index wanted left')
    (list_from n height (M.labels_in body) (M.statements k.around body) (Some l) k.call.surroundings.acts
    q.point.state)) →
    Comes k.call.code c' f' v' (list_aims words k ps labels body acts index wanted left')
    (list_from n height (M.labels_in body) (M.statements k.around body) (Some l) k.call.surroundings.acts s)
jumped_on n words k ps labels body index left' wanted height l acts few c' f' v' s first q rest =
    let more = q.more in
    subst (λ u. Comes k.call.code c' f' v' (list_aims words k ps labels body acts index wanted left')
    (list_from n height (M.labels_in body) (M.statements k.around body) (Some l) k.call.surroundings.acts u))
    (sym q.state)
    (onward (phase_closed k ps labels acts (index + size_of (stmts_code k.environment (set_aside words) body)) wanted
    left') q.reach
    (λ g at'. phase_since k ps (omega (arith, more)) (rest (omega (arith, few, more)) g at')))

-- from a label, in so many turns
turns_do :
    (turns words : ℕ) (k : Block) (ps : Phases) (labels : List Label) (body : Y.Stmts) (index left' wanted : ℕ)
    (height : ℕ) (label : Label) (at : ℕ) (first : Point) → ps first → (p : Point) (numbers : ℕ → ℕ) (f : Family) →
    Listing words k ps labels body index left' →
    height ≡ own_height k → k.call.surroundings.acts < turns + p.state.world.acts → IsAmong (in_phase k first) numbers p
    → is_among label (M.labels_in body) ≡ true →
    place_of k.call.surroundings.links (LabelPlace k.environment.block label) ≡ 4 * at →
    AreIn k.call.surroundings p numbers at f →
    Comes k.call.code 0 f (services_of p) (list_aims words k ps labels body p.state.world.acts index wanted left')
    (list_from turns height (M.labels_in body) (M.statements k.around body) (Some label) k.call.surroundings.acts
    p.state)
unfolding list_from
turns_do zero words k ps labels body index left' wanted height label at first is p numbers f x same few o among place
    there =
    let allowed = o.stands.allowed in
    absurd (omega (arith, allowed, few))
turns_do (suc n) words k ps labels body index left' wanted height label at first is p numbers f x same few o among place
    there =
    comes_caught k ps (M.labels_in body) height
    (M.statements k.around body (Some label) k.call.surroundings.acts p.state)
    (λ l. list_from n height (M.labels_in body) (M.statements k.around body) (Some l)) x.begun same
    (λ l c' f' v' s first' is' q. jumped_on n words k ps labels body index left' wanted height l p.state.world.acts few
    c' f' v' s first' q
    (λ m g at'. turns_do n words k ps labels body index left' wanted height l q.index first' is' q.point q.numbers g x
    same m q.among q.carried q.place at'))
    (sought_do words k ps (M.labels_in body ++ labels) label body index left' wanted at first is p numbers f x.each
    x.marks o x.linked among place there)

-- and from the start
starts_do :
    (turns words : ℕ) (k : Block) (ps : Phases) (labels : List Label) (body : Y.Stmts) (index left' wanted c : ℕ)
    (height : ℕ) (first : Point) → ps first → (p : Point) (numbers : ℕ → ℕ) (f : Family) →
    Listing words k ps labels body index left' → height ≡ own_height k →
    k.call.surroundings.acts < turns + p.state.world.acts → IsAmong (in_phase k first) numbers p →
    (c ≤ wanted) × (c + size_of (stmts_code k.environment (set_aside words) body) ≤ cost k.call.code) →
    AreIn k.call.surroundings p numbers index f →
    Comes k.call.code c f (services_of p) (list_aims words k ps labels body p.state.world.acts index wanted left')
    (list_from turns height (M.labels_in body) (M.statements k.around body) None k.call.surroundings.acts p.state)
unfolding list_from
starts_do zero words k ps labels body index left' wanted c height first is p numbers f x same few o fits there =
    let allowed = o.stands.allowed in
    absurd (omega (arith, allowed, few))
starts_do (suc n) words k ps labels body index left' wanted c height first is p numbers f x same few o fits there =
    comes_caught k ps (M.labels_in body) height
    (M.statements k.around body None k.call.surroundings.acts p.state)
    (λ l. list_from n height (M.labels_in body) (M.statements k.around body) (Some l)) x.begun same
    (λ l c' f' v' s first' is' q. jumped_on n words k ps labels body index left' wanted height l p.state.world.acts few
    c' f' v' s first' q
    (λ m g at'. turns_do n words k ps labels body index left' wanted height l q.index first' is' q.point q.numbers g x
    same m q.among q.carried q.place at'))
    (statements_do words k ps (M.labels_in body ++ labels) body p.state.world.acts index left' c wanted first is p
    numbers f (omega arith) x.each o x.linked fits there)

pub list_through :
    (words : ℕ) (k : Block) (ps : Phases) (labels : List Label) (body : Y.Stmts) (index left' : ℕ) →
    IsInside words k ps body index → EachThrough words k ps (M.labels_in body ++ labels) body index left' →
    Linked k.call.surroundings.links k.call.code index (stmts_code k.environment (set_aside words) body) →
    (first : Point) → ps first → (p : Point) (numbers : ℕ → ℕ) (c wanted : ℕ) (f : Family) →
    IsAmong (in_phase k first) numbers p →
    (c ≤ wanted) × (c + size_of (stmts_code k.environment (set_aside words) body) ≤ cost k.call.code) →
    AreIn k.call.surroundings p numbers index f →
    Comes k.call.code c f (services_of p)
    (phase_aims k ps labels p.state.world.acts
    (index + size_of (stmts_code k.environment (set_aside words) body)) wanted left')
    (M.list k.around body k.call.surroundings.acts p.state)
unfolding M.list M.list_with looked ◌>>=◌
list_through words k ps labels body index left' z each l first is p numbers c wanted f o fits there =
    let few = z.turns first is in
    let later = o.later.acts in
    starts_do k.around.turns words k ps labels body index left' wanted c (newest_height p.state.activations) first is p
    numbers f (record { begun = z.begun; each = each; marks = z.marked; linked = l })
    (newest_own (newest_at (z.begun first is) o)) (omega (arith, few, later)) o fits there
