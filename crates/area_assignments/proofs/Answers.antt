-- What services 12 and 13 answer at a point of the block that declares the areas.
use Rattle.std.proofs.Common.{◌≡◌, ◌≢◌, ℕ, ◌+◌, ◌^◌, ◌<◌, ◌≤◌, List, [], length, Option, None, Some, Bool, true, refl}
use Rattle.std.proofs.Common.{sym, ap, ◌∙◌, subst, arith}
use Rattle.std.specs.Prelude.{cond, ◌==◌, ◌&&◌, is_some}
use Rattle.pli_meaning.specs.BasicValues.{VariableName}
use Rattle.pli_meaning.specs.Codes.{area_code}
use Rattle.pli_meaning.specs.Contents.{Placed, greatest_end}
use Rattle.pli_meaning.specs.StorageState.{AreaContents, State, with_area}
use Rattle.area_keeper.specs.KeptAreas.{with_part}
use Rattle.area_keeper.proofs.Agreement.{length_part}
use Rattle.pli_serving.specs.AreaServices as A
use Rattle.pli_serving.specs.Answers.{Answer, Done}
use Rattle.pli_serving.specs.Arguments.{AreaArgument, area_named, is_area, name_in}
use Rattle.pli_serving.specs.Outcomes.{bad_unless, or_bad}
use Rattle.storage_relation.specs.Changes.{area_then}
use Rattle.storage_relation.specs.Served.{Holds, NamesArea, Now, call}
use Rattle.storage_relation.specs.Standing.{AreaOf, AreaStands, held}
use Rattle.storage_relation.specs.Stored.{IsBeside, slice}
use Rattle.storage_relation.proofs.Answering.{area_argued, assign_refused}
use Rattle.storage_relation.proofs.AreaLaws.{area_copied, area_emptied}
use Rattle.storage_relation.proofs.Calls.{area_holds}
use Rattle.storage_relation.proofs.Confined.{beside_written}
use Rattle.storage_relation.proofs.Holders.{eqb-other, eqb-refl}
use Rattle.storage_relation.proofs.Named.{area_holder}
use Rattle.storage_relation.proofs.Storing.{copied, emptied, taken-other}

abbrev bytes_in : (w : Now) (at n : ℕ) → NamesArea w at n → List ℕ
bytes_in w at n is = slice w.keeper w.places n (AreaOf is.area) w.memory

area_in :
    (w : Now) → Holds w → (at n : ℕ) (is : NamesArea w at n) →
    AreaStands w.keeper w.places.signatures is.area (bytes_in w at n is)
area_in w h at n is =
    subst (AreaStands w.keeper w.places.signatures is.area) (taken-other w.keeper w.places n (bytes_in w at n is)
    is.some)
    (h.stored.stands n (AreaOf is.area) (area_holder w.state n is.area is.lives))

is_there :
    (w : Now) → Holds w → (at n : ℕ) (is : NamesArea w at n) → is_some (w.keeper.area_of (bytes_in w at n is)) ≡ true
is_there w h at n is = let a = area_in w h at n is in ap is_some a.stands

inside :
    (w : Now) → Holds w → (at n : ℕ) (is : NamesArea w at n) →
    w.places.at n + w.keeper.bytes_for is.area.capacity ≤ length w.memory
inside w h at n is = h.stored.inside n (AreaOf is.area) (area_holder w.state n is.area is.lives)

as_long :
    (w : Now) → Holds w → (at n : ℕ) (is : NamesArea w at n) →
    length (bytes_in w at n is) ≡ w.keeper.bytes_for is.area.capacity
as_long w h at n is =
    length_part (w.places.at n) (w.keeper.bytes_for is.area.capacity) w.memory (inside w h at n is)

-- memory with other bytes where an area stands
pub record Turned (w : Now) (n capacity : ℕ) (change : List Placed → List Placed) (answer : List ℕ → Answer)
    (answers : Answer) : Type 0 where
  pub memory : List ℕ
  pub holds : Holds (area_then n change memory w)
  pub beside : IsBeside (w.places.at n) (w.keeper.bytes_for capacity) w.memory memory
  pub answered : answers ≡ answer memory

written :
    (w : Now) → Holds w → (at n : ℕ) (is : NamesArea w at n) (new : List ℕ) →
    length new ≡ length (bytes_in w at n is) →
    IsBeside (w.places.at n) (w.keeper.bytes_for is.area.capacity) w.memory (with_part new (w.places.at n) w.memory)
written w h at n is new same =
    let long = as_long w h at n is in
    let z : w.places.at n + 0 ≡ w.places.at n = omega arith in
    subst (λ i. IsBeside (w.places.at n) (w.keeper.bytes_for is.area.capacity) w.memory (with_part new i w.memory)) z
    (beside_written new (w.places.at n) (w.keeper.bytes_for is.area.capacity) 0 w.memory (omega (arith, long, same))
    (inside w h at n is))

pub emptied_there :
    (w : Now) → Holds w → (at x n : ℕ) (is : NamesArea w at n) →
    Turned w n is.area.capacity (λ placed. []) (λ m. Done (call w).services m at x) (A.empty_served (call w) at x)
emptied_there w h at x n is =
    let bytes = bytes_in w at n is in
    let new = with_part (w.keeper.emptied bytes) (w.places.at n) w.memory in
    let e = area_emptied w.keeper w.places.signatures h.keeps is.area bytes (area_in w h at n is) in
    record {
      memory = new;
      holds =
          area_holds w h n (λ placed. []) new
          (emptied w.keeper h.keeps w.places w.state w.memory n is.area is.some h.stored
          (area_holder w.state n is.area is.lives));
      beside = written w h at n is (w.keeper.emptied bytes) e.1;
      answered =
          ap (λ o. or_bad o (λ a. bad_unless (is_area (call w) a) (Done (call w).services
          (with_part (w.keeper.emptied a.area.bytes) a.area.at w.memory) at x)))
          (area_argued w h at n is)
          ∙ ap (λ q. bad_unless q (Done (call w).services new at x)) (is_there w h at n is);
    }

-- ---- one area assigned to another

abbrev argument_of : (w : Now) (at n : ℕ) → NamesArea w at n → AreaArgument
argument_of w at n is = record { serial = n; area = record { at = w.places.at n; bytes = bytes_in w at n is } }

abbrev assign_with : Now → (target : ℕ) → AreaArgument → AreaArgument → Answer
assign_with w target into from =
    bad_unless (is_area (call w) into && is_area (call w) from)
    (cond (into.serial == from.serial) (Done (call w).services w.memory target 0)
    (A.assignment_answered (call w) target into.area.at (w.keeper.copied from.area.bytes into.area.bytes)))

asked_so :
    (w : Now) → Holds w → (target source i j : ℕ) (to : NamesArea w target i) (from : NamesArea w source j) →
    A.area_assignment_served (call w) target source
    ≡ cond (i == j) (Done (call w).services w.memory target 0)
    (A.assignment_answered (call w) target (w.places.at i)
    (w.keeper.copied (bytes_in w source j from) (bytes_in w target i to)))
asked_so w h target source i j to from =
    let into = argument_of w target i to in
    let other = argument_of w source j from in
    let last = cond (i == j) (Done (call w).services w.memory target 0)
    (A.assignment_answered (call w) target (w.places.at i)
    (w.keeper.copied (bytes_in w source j from) (bytes_in w target i to))) in
    ap (λ o. or_bad o (λ a. or_bad (area_named (call w) source) (assign_with w target a)))
    (area_argued w h target i to)
    ∙ ap (λ o. or_bad o (assign_with w target into)) (area_argued w h source j from)
    ∙ ap (λ t. bad_unless (t && is_area (call w) other) last) (is_there w h target i to)
    ∙ ap (λ t. bad_unless t last) (is_there w h source j from)

-- to itself
pub assigned_itself :
    (w : Now) → Holds w → (target source i : ℕ) → NamesArea w target i → NamesArea w source i →
    A.area_assignment_served (call w) target source ≡ Done (call w).services w.memory target 0
assigned_itself w h target source i to from =
    asked_so w h target source i i to from
    ∙ ap (λ q. cond q (Done (call w).services w.memory target 0)
    (A.assignment_answered (call w) target (w.places.at i)
    (w.keeper.copied (bytes_in w source i from) (bytes_in w target i to)))) (eqb-refl i)

one_list : (x y : List ℕ) → ◌≡◌ {A = Option (List ℕ)} (Some x) (Some y) → x ≡ y
one_list x y e = cc e

pub assigned_there :
    (w : Now) → Holds w → (target source i j : ℕ) (to : NamesArea w target i) (from : NamesArea w source j) → i ≢ j →
    greatest_end from.area.placed ≤ to.area.capacity →
    Turned w i to.area.capacity (λ placed. from.area.placed) (λ m. Done (call w).services m target 0)
    (A.area_assignment_served (call w) target source)
assigned_there w h target source i j to from ne small =
    let r = copied w.keeper h.keeps w.places w.state w.memory j i from.area to.area from.some to.some h.stored
    (area_holder w.state j from.area from.lives) (area_holder w.state i to.area to.lives) small in
    let q = area_copied w.keeper w.places.signatures h.keeps from.area to.area (bytes_in w source j from)
    (bytes_in w target i to) (area_in w h source j from) (area_in w h target i to) small in
    let same : q.0 ≡ r.0 = one_list q.0 r.0 (sym q.1 ∙ r.1) in
    let new = with_part r.0 (w.places.at i) w.memory in
    record {
      memory = new;
      holds = area_holds w h i (λ placed. from.area.placed) new r.2;
      beside =
          written w h target i to r.0 (subst (λ x. length x ≡ length (bytes_in w target i to)) same q.2);
      answered =
          asked_so w h target source i j to from
          ∙ ap (λ t. cond t (Done (call w).services w.memory target 0)
          (A.assignment_answered (call w) target (w.places.at i)
          (w.keeper.copied (bytes_in w source j from) (bytes_in w target i to)))) (eqb-other i j ne)
          ∙ ap (A.assignment_answered (call w) target (w.places.at i)) r.1;
    }
