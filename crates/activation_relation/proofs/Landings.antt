-- The laws of landing and of leaving: later, further in, and in lists of statements.
use Rattle.std.proofs.Common.{◌≡◌, ℕ, suc, ◌≤◌, List, [], ◌∷◌, length, Option, Some, None, Bool}
use Rattle.std.proofs.Common.{true, false, refl, sym, ap, ◌∙◌, subst, arith}
use Rattle.std.specs.Prelude.{cond, ◌==◌, ◌&&◌}
use Rattle.pli_language.specs.declared.condition.Condition.{Condition}
use Rattle.pli_meaning.specs.BasicValues.{BasicValue, BasicNumber, BasicText, BasicBit, BasicPointer, BasicOffset}
use Rattle.pli_meaning.specs.Control.{Label, is_among}
use Rattle.pli_meaning.specs.StorageState as M
use Rattle.pli_meaning.specs.StorageState.{State, Activation, newest_ended, without_newest, with_world}
use Rattle.pli_serving.specs.ServiceState as S
use Rattle.pli_coding.specs.Assembly.{Symbol, LabelPlace, ReturnPlace}
use Rattle.storage_relation.proofs.Holders.{eqb-refl, eqb-other}
use Rattle.activation_relation.specs.Layers.{Layer, Carried, Point, services_of}
use Rattle.activation_relation.specs.Landing.{Jumps, Returns, LandsFrom, Arrives, Resumes, closed, closed_jumps}
use Rattle.activation_relation.specs.Landing.{HasResult, closed_returns, Changed, resumed, same_lists, with_units}
use Rattle.activation_relation.specs.Landing.{with_list, caught_jumps, either, Returning, LeavesFrom}
use Rattle.activation_relation.specs.Landing.{Coming, HasCome}
use Rattle.activation_relation.specs.Landing.{is_begin, LandingLaws, LeavingLaws}
use Rattle.activation_relation.specs.Points.{Surroundings, Machines}

-- ---- one block goes on

resumes_later :
    (w : Surroundings) (acts more : ℕ) (a : Activation) (as' : List Activation) (φ : Layer) (φs : List Layer)
    (q : Point) → acts ≤ more → Resumes w more a as' φ φs q → Resumes w acts a as' φ φs q
resumes_later w acts more a as' φ φs q h r =
    let m = r.more in
    record {
      stands = r.stands;
      idle = r.idle;
      changed = r.changed;
      layers = r.layers;
      own = r.own;
      activations = r.activations;
      more = omega (arith, h, m);
    }

arrives_later :
    (w : Surroundings) (acts more : ℕ) (a : Activation) (as' : List Activation) (φ : Layer) (φs : List Layer)
    (c : Carried) (q : Point) → acts ≤ more → Arrives w more a as' φ φs c q → Arrives w acts a as' φ φs c q
unfolding resumes_later
arrives_later w acts more a as' φ φs c q h r =
    record {
      resumes = resumes_later w (suc acts) (suc more) a as' φ φs q (omega (arith, h)) r.resumes;
      top = r.top;
      same = r.same;
      entries = r.entries;
      edits = r.edits;
    }

-- ---- later

pub lands_later :
    (w : Surroundings) (J : Jumps) (acts more count : ℕ) (as' : List Activation) (φs : List Layer) → acts ≤ more →
    LandsFrom w J acts count as' φs → LandsFrom w J more count as' φs
lands_later w J acts more count [] φs h lands = tt
lands_later w J acts more count (a ∷ as') [] h lands = tt
lands_later w J acts more count (a ∷ as') (φ ∷ φs) h lands = (
  λ label c x carried come arrives.
      lands.0 label c x carried come (arrives_later w acts more a as' φ φs c x.point h arrives),
  lands_later w J acts more (suc count) as' φs h lands.1,
)

pub lands_mapped :
    (w : Surroundings) (J K : Jumps) (acts count : ℕ) (as' : List Activation) (φs : List Layer) →
    ((c : ℕ) (f : Machines) (v : S.Services) (height : ℕ) (label : Label) (s : State) → height ≤ length φs →
    J c f v height label s → K c f v height label s) →
    LandsFrom w J acts count as' φs → LandsFrom w K acts count as' φs
lands_mapped w J K acts count [] φs more lands = tt
lands_mapped w J K acts count (a ∷ as') [] more lands = tt
lands_mapped w J K acts count (a ∷ as') (φ ∷ φs) more lands = (
  λ label c x carried come arrives.
      more x.index x.machines (services_of x.point) (suc (length φs)) label x.state (omega arith)
      (lands.0 label c x carried come arrives),
  lands_mapped w J K acts (suc count) as' φs
      (λ c f v height label s low j. more c f v height label s (omega (arith, low)) j) lands.1,
)

-- ---- from within a block

-- the end of a block leaves the world
closed_is : (s : State) → newest_ended s ≡ closed s
closed_is s = by s.activations
  where
    by : (as' : List Activation) → without_newest as' s ≡ with_world s.world (without_newest as' s)
    by [] = refl
    by (a ∷ as') = refl

-- one block more has ended
one_ended : Coming → Coming
one_ended x = record x { state = newest_ended x.state }

come_further :
    (w : Surroundings) (count : ℕ) (to : Symbol) (x : Coming) → HasCome w (suc count) to x →
    HasCome w count to (one_ended x)
unfolding one_ended
come_further w count to x h = record { place = h.place; ended = h.ended; at = h.at }

further_in :
    (w : Surroundings) (J : Jumps) (acts more count : ℕ) (as' : List Activation) (φs : List Layer) → acts ≤ more →
    LandsFrom w J acts count as' φs → LandsFrom w (closed_jumps J) more (suc count) as' φs
unfolding one_ended
further_in w J acts more count [] φs h lands = tt
further_in w J acts more count (a ∷ as') [] h lands = tt
further_in w J acts more count (a ∷ as') (φ ∷ φs) h lands = (
  λ label c x carried come arrives.
      subst (λ t. J x.index x.machines (services_of x.point) (suc (length φs)) label t) (closed_is x.state)
      (lands.0 label c (one_ended x) carried (come_further w count (LabelPlace φ.block label) x come)
      (arrives_later w acts more a as' φ φs c x.point h arrives)),
  further_in w J acts more (suc count) as' φs h lands.1,
)

pub lands_entered :
    (w : Surroundings) (J : Jumps) (acts more : ℕ) (a : Activation) (as' : List Activation) (φ : Layer)
    (φs : List Layer) → acts ≤ more → ((label : Label) → φ.carried label ≡ None) → LandsFrom w J acts 0 as' φs →
    LandsFrom w (closed_jumps J) more 0 (a ∷ as') (φ ∷ φs)
lands_entered w J acts more a as' φ φs h none lands = (
  λ label c x carried come arrives.
      let no : None ≡ Some c = sym (none label) ∙ carried in absurd (cc no),
  further_in w J acts more 0 as' φs h lands,
)

-- ---- the newest block itself

resumes_moved :
    (w : Surroundings) (acts : ℕ) (a : Activation) (as' : List Activation) (φ : Layer) (φs : List Layer)
    (own : List (Condition × M.OnUnit)) (x : Changed) (q : Point) →
    Resumes w acts (with_units own a) as' (resumed x φ) φs q → Resumes w acts a as' φ φs q
resumes_moved w acts a as' φ φs own x q r =
    record {
      stands = r.stands;
      idle = r.idle;
      changed = r.changed;
      layers = r.layers;
      own = r.own;
      activations = r.activations;
      more = r.more;
    }

arrives_moved :
    (w : Surroundings) (acts : ℕ) (a : Activation) (as' : List Activation) (φ : Layer) (φs : List Layer)
    (own : List (Condition × M.OnUnit)) (x : Changed) (c : Carried) (q : Point) →
    Arrives w acts (with_units own a) as' (resumed x φ) φs c q → Arrives w acts a as' φ φs c q
unfolding resumes_moved
arrives_moved w acts a as' φ φs own x c q r =
    record {
      resumes = resumes_moved w (suc acts) a as' φ φs own x q r.resumes;
      top = r.top;
      same = r.same;
      entries = r.entries;
      edits = r.edits;
    }

pub lands_moved :
    (w : Surroundings) (J : Jumps) (acts : ℕ) (a : Activation) (as' : List Activation) (φ : Layer)
    (φs : List Layer) (own : List (Condition × M.OnUnit)) (x : Changed) → LandsFrom w J acts 0 (a ∷ as') (φ ∷ φs) →
    LandsFrom w J acts 0 (with_units own a ∷ as') (same_lists x φ ∷ φs)
lands_moved w J acts a as' φ φs own x lands = (
  λ label c y carried come arrives.
      lands.0 label c y carried come
      (arrives_moved w acts a as' φ φs own (record x { carried = φ.carried }) c y.point arrives),
  lands.1,
)

-- ---- lists of statements

some_carried : (c d : Carried) → Some c ≡ Some d → c ≡ d
some_carried c d e = cc e

pub lands_listed :
    (w : Surroundings) (J : Jumps) (own : ℕ → Machines → S.Services → Label → State → Type 0) (acts : ℕ)
    (labels : List Label) (c : Carried) (a : Activation) (as' : List Activation) (φ : Layer) (φs : List Layer) →
    LandsFrom w J acts 0 (a ∷ as') (φ ∷ φs) →
    ((label : Label) (x : Coming) → is_among label labels ≡ true →
    HasCome w 0 (LabelPlace φ.block label) x → Arrives w acts a as' φ φs c x.point →
    own x.index x.machines (services_of x.point) label x.state) →
    LandsFrom w (caught_jumps (suc (length φs)) labels own J) acts 0 (a ∷ as') (with_list labels c φ ∷ φs)
lands_listed w J own acts labels c a as' φ φs lands goes = (
  λ label d x carried come arrives.
      newest label d x come (arrives_moved w acts a as' φ φs a.units (listed φ) d x.point arrives)
      (is_among label labels) refl carried,
  lands_mapped w J (caught_jumps (suc (length φs)) labels own J) acts 1 as' φs
      (λ e f v height label s low j.
      subst (λ q. either (q && is_among label labels) (own e f v label s) (J e f v height label s))
      (sym (eqb-other height (suc (length φs)) (omega (arith, low)))) j) lands.1,
)
  where
    listed : Layer → Changed
    listed ψ =
        record {
          units = ψ.units;
          waits = ψ.waits;
          told = ψ.told;
          top = ψ.top;
          lower = ψ.lower;
          carried = (with_list labels c ψ).carried;
        }

    -- at one of its own labels, or at another
    goal : Label → Coming → Bool → Type 0
    goal label x b =
        either b (own x.index x.machines (services_of x.point) label x.state)
        (J x.index x.machines (services_of x.point) (suc (length φs)) label x.state)

    test : (label : Label) (b : Bool) → is_among label labels ≡ b →
        ((suc (length φs) == suc (length φs)) && is_among label labels) ≡ b
    test label b is = ap (λ q. q && is_among label labels) (eqb-refl (suc (length φs))) ∙ is

    newest :
        (label : Label) (d : Carried) (x : Coming) → HasCome w 0 (LabelPlace φ.block label) x →
        Arrives w acts a as' φ φs d x.point → (b : Bool) → is_among label labels ≡ b →
        cond b (Some c) (φ.carried label) ≡ Some d →
        goal label x ((suc (length φs) == suc (length φs)) && is_among label labels)
    newest label d x come arrives true is carried =
        let same : c ≡ d = some_carried c d carried in
        subst (goal label x) (sym (test label true is))
        (goes label x is come (subst (λ e. Arrives w acts a as' φ φs e x.point) (sym same) arrives))
    newest label d x come arrives false is carried =
        subst (goal label x) (sym (test label false is)) (lands.0 label d x carried come arrives)

pub landing_laws : LandingLaws
landing_laws =
    record {
      later = lands_later;
      mapped = lands_mapped;
      entered = lands_entered;
      moved = lands_moved;
      listed = lands_listed;
    }

-- ---- leaving

pub leaves_later :
    (w : Surroundings) (R : Returns) (acts more count : ℕ) (as' : List Activation) (φs : List Layer) → acts ≤ more →
    LeavesFrom w R acts count as' φs → LeavesFrom w R more count as' φs
leaves_later w R acts more count [] φs h leaves = tt
leaves_later w R acts more count (a ∷ as') [] h leaves = tt
leaves_later w R acts more count (a ∷ as') (φ ∷ φs) h leaves =
    by (is_begin φ.kind) leaves (leaves_later w R acts more (suc count) as' φs h)
  where
    by :
        (q : Bool) → either q (LeavesFrom w R acts (suc count) as' φs) (Returning w R acts count a as' φ φs) →
        (LeavesFrom w R acts (suc count) as' φs → LeavesFrom w R more (suc count) as' φs) →
        either q (LeavesFrom w R more (suc count) as' φs) (Returning w R more count a as' φ φs)
    by true l rest = rest l
    by false l rest =
        λ v x come resumes has. l v x come (resumes_later w acts more a as' φ φs x.point h resumes) has

pub leaves_mapped :
    (w : Surroundings) (R S' : Returns) (acts count : ℕ) (as' : List Activation) (φs : List Layer) →
    ((f : Machines) (v : S.Services) (r : Option BasicValue) (s : State) → R 0 f v r s → S' 0 f v r s) →
    LeavesFrom w R acts count as' φs → LeavesFrom w S' acts count as' φs
leaves_mapped w R S' acts count [] φs more leaves = tt
leaves_mapped w R S' acts count (a ∷ as') [] more leaves = tt
leaves_mapped w R S' acts count (a ∷ as') (φ ∷ φs) more leaves =
    by (is_begin φ.kind) leaves (leaves_mapped w R S' acts (suc count) as' φs more)
  where
    by :
        (q : Bool) → either q (LeavesFrom w R acts (suc count) as' φs) (Returning w R acts count a as' φ φs) →
        (LeavesFrom w R acts (suc count) as' φs → LeavesFrom w S' acts (suc count) as' φs) →
        either q (LeavesFrom w S' acts (suc count) as' φs) (Returning w S' acts count a as' φ φs)
    by true l rest = rest l
    by false l rest =
        λ v x come resumes has.
        more x.machines (services_of x.point) v x.state (l v x come resumes has)

leaves_further :
    (w : Surroundings) (R : Returns) (acts more count : ℕ) (as' : List Activation) (φs : List Layer) → acts ≤ more →
    LeavesFrom w R acts count as' φs → LeavesFrom w (closed_returns R) more (suc count) as' φs
unfolding one_ended
leaves_further w R acts more count [] φs h leaves = tt
leaves_further w R acts more count (a ∷ as') [] h leaves = tt
leaves_further w R acts more count (a ∷ as') (φ ∷ φs) h leaves =
    by (is_begin φ.kind) leaves (leaves_further w R acts more (suc count) as' φs h)
  where
    by :
        (q : Bool) → either q (LeavesFrom w R acts (suc count) as' φs) (Returning w R acts count a as' φ φs) →
        (LeavesFrom w R acts (suc count) as' φs → LeavesFrom w (closed_returns R) more (suc (suc count)) as' φs) →
        either q (LeavesFrom w (closed_returns R) more (suc (suc count)) as' φs)
        (Returning w (closed_returns R) more (suc count) a as' φ φs)
    by true l rest = rest l
    by false l rest =
        λ v x come resumes has.
        subst (λ t. R 0 x.machines (services_of x.point) v t) (closed_is x.state)
        (l v (one_ended x) (come_further w count (ReturnPlace φ.block) x come)
        (resumes_later w acts more a as' φ φs x.point h resumes) has)

pub leaves_begun :
    (w : Surroundings) (R : Returns) (acts more : ℕ) (a : Activation) (as' : List Activation) (φ : Layer)
    (φs : List Layer) → acts ≤ more → φ.kind ≡ S.BeginBlock → LeavesFrom w R acts 0 as' φs →
    LeavesFrom w (closed_returns R) more 0 (a ∷ as') (φ ∷ φs)
leaves_begun w R acts more a as' φ φs h kind leaves =
    subst (λ k. either (is_begin k) (LeavesFrom w (closed_returns R) more 1 as' φs)
    (Returning w (closed_returns R) more 0 a as' φ φs)) (sym kind) (leaves_further w R acts more 0 as' φs h leaves)

same_result :
    (v : Option BasicValue) (m : List ℕ) (x : Changed) (φ : Layer) (es : List S.Entry) →
    HasResult v (resumed x φ) es m → HasResult v φ es m
same_result None m x φ es r = r
same_result (Some (BasicNumber z)) m x φ es r = r
same_result (Some (BasicBit b)) m x φ es r = r
same_result (Some (BasicOffset o)) m x φ es r = r
same_result (Some (BasicPointer n)) m x φ es r = r
same_result (Some (BasicText t)) m x φ es r = r

pub leaves_moved :
    (w : Surroundings) (R : Returns) (acts : ℕ) (a : Activation) (as' : List Activation) (φ : Layer)
    (φs : List Layer) (own : List (Condition × M.OnUnit)) (x : Changed) → LeavesFrom w R acts 0 (a ∷ as') (φ ∷ φs) →
    LeavesFrom w R acts 0 (with_units own a ∷ as') (resumed x φ ∷ φs)
leaves_moved w R acts a as' φ φs own x leaves = by (is_begin φ.kind) leaves
  where
    by :
        (q : Bool) → either q (LeavesFrom w R acts 1 as' φs) (Returning w R acts 0 a as' φ φs) →
        either q (LeavesFrom w R acts 1 as' φs) (Returning w R acts 0 (with_units own a) as' (resumed x φ) φs)
    by true l = l
    by false l =
        λ v y come resumes has.
        l v y come (resumes_moved w acts a as' φ φs own x y.point resumes) (λ base valid.
        same_result v (y.machines base valid).memory x φ y.point.control.entries (has base valid))

pub leaving_laws : LeavingLaws
leaving_laws = record { later = leaves_later; mapped = leaves_mapped; begun = leaves_begun; moved = leaves_moved }
