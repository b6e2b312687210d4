-- The point behind FREE: an area, or the heap, has one generation less.
use Rattle.std.proofs.Common.{◌≡◌, ℕ, List, [], Bool, true, false, refl, sym, subst}
use Rattle.std.specs.Prelude.{cond, ◌==◌}
use Rattle.pli_meaning.specs.Contents.{without_offset}
use Rattle.pli_meaning.specs.StorageState.{State, area_changed, heap_serial, living_changed, with_area}
use Rattle.storage_relation.specs.Standing.{AreaOf}
use Rattle.storage_relation.proofs.Calls.{served_area}
use Rattle.storage_relation.proofs.Named.{area_holder}
use Rattle.activation_relation.specs.Frames.{FramesStand}
use Rattle.activation_relation.specs.Layers.{Point, now, services_of}
use Rattle.activation_relation.specs.Points.{Stands, Surroundings}
use Rattle.activation_relation.proofs.BlockVariables.{stored_stand}
use Rattle.run_steps.specs.Engine.{Base}
use Rattle.block_runs.proofs.PointGrounds.{StandsIn}
use Rattle.program_runs.specs.Statements.{Block, IsAmong}
use Rattle.area_runs.proofs.ChangedPoints.{area_follows, area_world, follows_among, same_services, with_state}
use Rattle.member_freeings.proofs.FreeAnswers.{Freed}

abbrev change_of : State → (n o : ℕ) → Bool → State
change_of s n o q =
    cond q (record s { heap = without_offset o s.heap })
    (record s { living = living_changed n (area_changed (without_offset o)) s.living })

-- input and activations stay
area_input : (n o : ℕ) (s : State) → (with_area n (without_offset o) s).input ≡ s.input
area_input n o s = by (n == heap_serial)
  where
    by : (q : Bool) → (change_of s n o q).input ≡ s.input
    by true = refl
    by false = refl

area_activations : (n o : ℕ) (s : State) → (with_area n (without_offset o) s).activations ≡ s.activations
area_activations n o s = by (n == heap_serial)
  where
    by : (q : Bool) → (change_of s n o q).activations ≡ s.activations
    by true = refl
    by false = refl

abbrev pub freed_point : (n o : ℕ) → Point → Point
freed_point n o p = with_state (with_area n (without_offset o) p.state) p

pub freed_among :
    {k : Block} {numbers : ℕ → ℕ} {p : Point} (n o : ℕ) → IsAmong k numbers p → IsAmong k numbers (freed_point n o p)
freed_among {k} {p = p} n o among =
    follows_among (with_area n (without_offset o) p.state) (area_world n (without_offset o) p.state)
    (area_follows k.call.surroundings n (without_offset o) p) among

pub freed_services : (n o : ℕ) (p : Point) → services_of (freed_point n o p) ≡ services_of p
freed_services n o p =
    same_services (with_area n (without_offset o) p.state) p (area_world n (without_offset o) p.state)
    (area_input n o p.state) (served_area (now p []) n (without_offset o) [])

pub freed_stands :
    {p : Point} {m : List ℕ} {name number n o : ℕ} (w : Surroundings) (b : Base)
    (t : Freed (now p m) name number n o) → Stands w p → StandsIn w p b m →
    StandsIn w (freed_point n o p) b t.memory
freed_stands {p} {m} {n = n} {o = o} w b t stands in_memory =
    let h = t.holds in
    record {
      storage = record {
        keeps = h.keeps;
        heap = record { at = h.heap.at; capacity = h.heap.capacity };
        lives = record { falling = h.lives.falling; numbered = h.lives.numbered; extents = h.lives.extents };
        stored = h.stored;
        distinct = h.distinct;
      };
      frames = subst (λ xs. FramesStand w.parts b.at t.memory xs p.control.layers) (sym (area_activations n o p.state))
          (stored_stand w p b.at n (AreaOf t.area) m t.memory stands in_memory.frames (area_holder p.state n t.area
          t.was)
          t.beside);
    }
