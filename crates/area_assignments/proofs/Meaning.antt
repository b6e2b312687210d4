-- What EMPTY and an area assignment mean, where the areas are known.
use Rattle.std.proofs.Common.{◌≡◌, ◌≢◌, ℕ, ◌<◌, ◌≤◌, List, [], Some, true, false, refl, sym, ap, ◌∙◌, subst}
use Rattle.std.proofs.lemmas.Bool.{le-leb}
use Rattle.std.specs.Prelude.{cond, nat_le, ◌==◌}
use Rattle.pli_language.specs.declared.condition.Condition.TheVariants as C
use Rattle.pli_typing.specs.TypedTree as Y
use Rattle.pli_meaning.specs.Codes.{area_code, no_generation_code}
use Rattle.pli_meaning.specs.Contents.{Placed, greatest_end}
use Rattle.pli_meaning.specs.Control.{Flow, Meaning, Normal, choose, flow_on, give, looked, stored, ◌>>=◌, ◌>>◌}
use Rattle.pli_meaning.specs.Evaluating as V
use Rattle.pli_meaning.specs.Placing as P
use Rattle.pli_meaning.specs.Raising as R
use Rattle.pli_meaning.specs.Raising.{Around}
use Rattle.pli_meaning.specs.StorageState.{AreaContents, State, area_at, heap_serial, standing_for, with_area}
use Rattle.pli_meaning.specs.StorageState.{with_world}
use Rattle.storage_relation.proofs.Holders.{eqb-other, eqb-refl}
use Rattle.expression_runs.specs.Variables.{Spot, variable_of}
use Rattle.variable_runs.specs.Known.{binding_for}
use Rattle.area_runs.proofs.ChangedPoints.{area_world}
use Rattle.area_assignments.proofs.Points.{turned_same, turned_state}

stored_so :
    (n : ℕ) (change : List Placed → List Placed) (s : State) → n ≢ heap_serial →
    with_world s.world (with_area n change s) ≡ turned_state n change s
stored_so n change s some =
    ap (λ u. with_world u (with_area n change s)) (sym (area_world n change s)) ∙ turned_same n change s some

pub emptied_is :
    (around : Around) (x : Spot) (d : Y.DeclaredVariable) (serial k : ℕ) (s : State) → serial ≢ heap_serial →
    standing_for s (variable_of x) ≡ Some (binding_for x d serial) →
    P.area_emptied around (variable_of x) k s ≡ Normal tt (turned_state serial (λ placed. []) s)
unfolding P.area_emptied V.area_meant R.demanded R.or_error looked stored give ◌>>=◌ ◌>>◌
emptied_is around x d serial k s some stands =
    ap (λ o. flow_on k (R.or_error around no_generation_code (V.serial_of o) k s) (λ a. stored (with_area a (λ placed.
    [])))) stands
    ∙ ap (λ u. Normal tt u) (stored_so serial (λ placed. []) s some)

-- ---- one area assigned to another

abbrev from_into : Around → (source target : ℕ) → State → AreaContents → Meaning (Unit {0})
from_into around i j s from =
    (R.or_error around no_generation_code (area_at s j)) >>= (λ into. choose (i == j) (give tt) (P.area_copied around
    j into from))

abbrev both_meant : Around → (source target : ℕ) → Meaning (Unit {0})
both_meant around i j =
    looked >>= (λ s. (R.or_error around no_generation_code (area_at s i)) >>= (λ from. from_into around i j s from))

abbrev pub copied_flow : Around → (source target : ℕ) → (from into : AreaContents) → ℕ → State → Flow (Unit {0})
copied_flow around i j from into k s =
    cond (i == j) (Normal tt s) (P.area_copied around j into from k s)

pub assigned_is :
    (around : Around) (x y : Spot) (d e : Y.DeclaredVariable) (i j k : ℕ) (from into : AreaContents) (s : State) →
    standing_for s (variable_of x) ≡ Some (binding_for x d j) →
    standing_for s (variable_of y) ≡ Some (binding_for y e i) → area_at s i ≡ Some from → area_at s j ≡ Some into →
    P.area_assigned around (variable_of x) (variable_of y) k s ≡ copied_flow around i j from into k s
unfolding P.area_assigned V.area_meant R.demanded R.or_error looked choose give ◌>>=◌ ◌>>◌
assigned_is around x y d e i j k from into s target source there here =
    ap (λ o. flow_on k (R.or_error around no_generation_code (V.serial_of o) k s)
    (λ a. (V.area_meant around (variable_of x)) >>= (λ b. both_meant around a b)))
    source
    ∙ ap (λ o. flow_on k (R.or_error around no_generation_code (V.serial_of o) k s) (λ b. both_meant around i b)) target
    ∙ ap (λ o. flow_on k (R.or_error around no_generation_code o k s) (λ a. from_into around i j s a)) there
    ∙ ap (λ o. flow_on k (R.or_error around no_generation_code o k s)
    (λ a. choose (i == j) (give tt) (P.area_copied around j a from))) here

-- where all that lives in it has room
pub copied_is :
    (around : Around) (j k : ℕ) (into from : AreaContents) (s : State) → j ≢ heap_serial →
    greatest_end from.placed ≤ into.capacity →
    P.area_copied around j into from k s ≡ Normal tt (turned_state j (λ placed. from.placed) s)
unfolding P.area_copied choose stored
copied_is around j k into from s some small =
    ap (λ q. cond q (Normal tt (with_world s.world (with_area j (λ placed. from.placed) s)))
    (R.raised around C.Area area_code k s)) (le-leb (greatest_end from.placed) into.capacity small)
    ∙ ap (λ u. Normal tt u) (stored_so j (λ placed. from.placed) s some)

-- where it hasn't
pub copy_refused :
    (around : Around) (j k : ℕ) (into from : AreaContents) (s : State) →
    nat_le (greatest_end from.placed) into.capacity ≡ false →
    P.area_copied around j into from k s ≡ R.raised around C.Area area_code k s
unfolding P.area_copied choose stored
copy_refused around j k into from s big =
    ap (λ q. cond q (Normal tt (with_world s.world (with_area j (λ placed. from.placed) s)))
    (R.raised around C.Area area_code k s)) big
