-- Where the parts of an image's memory lie.
use Rattle.std.specs.Prelude.{◌≡◌, ℕ, ◌*◌, ◌^◌, List, length}
use Rattle.rv_meaning.specs.Machine.{memory_size}
use Rattle.run_keeper.specs.RunKeeper.{run_keeper}
use Rattle.pli_values.specs.declared.layout.Layout.{Layout}
use Rattle.pli_runtime.specs.Seen.{CanServe}
use Rattle.pli_runtime.specs.declared.runtime.Runtime.{Runtime}

-- behind 7 MiB that begin with the code and 7 MiB of stacks the heap, an area of 1 MiB, in the last 2 MiB
abbrev pub image_layout : (code_bytes : ℕ) → Layout
image_layout code_bytes =
    record { code_bytes = code_bytes; heap_at = 14 * 2 ^ 20; heap_capacity = 2 ^ 20; end = memory_size }

-- the services can be called with any memory of 16 MiB
abbrev pub IsReady : {I O : Type 0} → Runtime I O → Type 0
IsReady r = (m : List ℕ) → length m ≡ memory_size → CanServe run_keeper r m
