-- The point behind a change of what an area holds.
use Rattle.std.proofs.Common.{◌≡◌, ◌≢◌, ℕ, List, [], Some, refl, sym, ap, ◌∙◌, subst}
use Rattle.std.specs.Prelude.{cond, ◌==◌}
use Rattle.pli_meaning.specs.Contents.{Placed}
use Rattle.pli_meaning.specs.StorageState.{AreaContents, State, area_at, area_changed, heap_serial, living_changed}
use Rattle.pli_meaning.specs.StorageState.{with_area}
use Rattle.pli_serving.specs.Answers.{Answer}
use Rattle.storage_relation.specs.Served.{Holds}
use Rattle.storage_relation.specs.Standing.{AreaOf}
use Rattle.storage_relation.proofs.Calls.{seen_living}
use Rattle.storage_relation.proofs.Holders.{eqb-other}
use Rattle.storage_relation.proofs.Named.{area_holder}
use Rattle.activation_relation.specs.Layers.{Point, now, services_of}
use Rattle.activation_relation.specs.Points.{Stands, Surroundings}
use Rattle.activation_relation.proofs.BlockVariables.{stored_stand}
use Rattle.run_steps.specs.Engine.{Base}
use Rattle.block_runs.proofs.PointGrounds.{StandsIn}
use Rattle.program_runs.specs.Statements.{Block, IsAmong}
use Rattle.area_runs.proofs.ChangedPoints.{area_keeping, follows_among, living_follows, same_services, with_state}
use Rattle.area_assignments.proofs.Answers.{Turned}

abbrev pub turned_state : (n : ℕ) → (List Placed → List Placed) → State → State
turned_state n change s = record s { living = living_changed n (area_changed change) s.living }

-- no area is the heap
pub turned_same :
    (n : ℕ) (change : List Placed → List Placed) (s : State) → n ≢ heap_serial →
    with_area n change s ≡ turned_state n change s
turned_same n change s some =
    ap (λ q. cond q (record s { heap = change s.heap }) (turned_state n change s)) (eqb-other n heap_serial some)

abbrev pub turned_point : (n : ℕ) → (List Placed → List Placed) → Point → Point
turned_point n change p = with_state (turned_state n change p.state) p

pub turned_among :
    {k : Block} {numbers : ℕ → ℕ} {p : Point} (n : ℕ) (change : List Placed → List Placed) → IsAmong k numbers p →
    IsAmong k numbers (turned_point n change p)
turned_among {k} {p = p} n change among =
    follows_among (turned_state n change p.state) refl
    (living_follows k.call.surroundings n (area_changed change) p (area_keeping change)) among

pub turned_services :
    (n : ℕ) (change : List Placed → List Placed) (p : Point) →
    services_of (turned_point n change p) ≡ services_of p
turned_services n change p =
    same_services (turned_state n change p.state) p refl refl
    (seen_living (now p []) n (area_changed change) (λ y. refl))

pub turned_stands :
    {n : ℕ} {change : List Placed → List Placed} {p : Point} {m : List ℕ} {answer : List ℕ → Answer}
    {answers : Answer} (w : Surroundings) (a : AreaContents) (b : Base) → n ≢ heap_serial → area_at p.state n ≡ Some a →
    (t : Turned (now p m) n a.capacity change answer answers) → Stands w p → StandsIn w p b m →
    StandsIn w (turned_point n change p) b t.memory
turned_stands {n} {change} {p} {m} w a b some there t stands in_memory =
    let h = subst (λ u. Holds (record (now p t.memory) { state = u })) (turned_same n change p.state some) t.holds in
    record {
      storage = record {
        keeps = h.keeps;
        heap = record { at = h.heap.at; capacity = h.heap.capacity };
        lives = record { falling = h.lives.falling; numbered = h.lives.numbered; extents = h.lives.extents };
        stored = h.stored;
        distinct = h.distinct;
      };
      frames =
          stored_stand w p b.at n (AreaOf a) m t.memory stands in_memory.frames (area_holder p.state n a there)
          t.beside;
    }
