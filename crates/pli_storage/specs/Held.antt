-- A call of a service whose keeper, layout, memory and variables are those of a run.
use Rattle.std.specs.Prelude.{◌≡◌, ℕ, ◌+◌, ◌%◌, ◌≤◌, List, length}
use Rattle.area_keeper.specs.Keeper.{Keeper}
use Rattle.area_keeper.specs.KeeperLaws.{greatest_capacity}
use Rattle.controlled_gens.specs.Rooted.{livings}
use Rattle.controlled_gens.specs.Stacks.{controlled_of}
use Rattle.pli_serving.specs.ServiceState.{Services}
use Rattle.pli_serving.specs.Finding.{Call}
use Rattle.pli_values.specs.declared.layout.Layout.{Layout}
use Rattle.pli_values.specs.View.{layout_of}
use Rattle.pli_storage.specs.declared.held.Held.{Held}

abbrev pub holding : Held → Services → Services
holding h v =
    record v {
      signatures = h.signatures;
      serials = h.variables.serials;
      living = livings h.variables.roots;
      heap_made = h.heap_made;
      controlled = controlled_of h.controlled;
    }

abbrev pub with_held : Keeper → Held → (memory : List ℕ) → Call → Call
with_held k h m c = record c { keeper = k; layout = layout_of h.layout; services = holding h c.services; memory = m }

-- the parts of memory are in it, and the heap is one that an area can be made of
pub record IsLaid (k : Keeper) (layout : Layout) (m : List ℕ) : Type 0 where
  pub end_within : layout.end ≤ length m
  pub heap_within : layout.heap_at + k.bytes_for layout.heap_capacity ≤ length m
  pub rounded : layout.heap_capacity % 16 ≡ 0
  pub bounded : layout.heap_capacity ≤ greatest_capacity
