-- Blocks that are left: what is known of the entries of expressions, and what stays of them.
use Rattle.std.specs.Prelude.{◌≡◌, ℕ, Bool, List, [], length, Result, Ok, Err, option_map, slice_get, Some, unwrap_or}
use Rattle.area_keeper.specs.Keeper.{Keeper}
use Rattle.pli_serving.specs.Answers.{Answer}
use Rattle.pli_serving.specs.Blocks.{are_texts, entries_left, oldest}
use Rattle.pli_serving.specs.Finding.{Call}
use Rattle.pli_serving.specs.ServiceState.{Activation, Entry, Services}
use Rattle.pli_activations.specs.declared.block.Block.{Block}
use Rattle.pli_activations.specs.Entered.{block_shown, without_units}
use Rattle.pli_answering.specs.Answering.{Replies}
use Rattle.pli_answering.specs.declared.reply.Refusal.{Refusal}
use Rattle.pli_services.specs.Flowing.{FlowSeen, with_flow}
use Rattle.pli_storage.specs.declared.held.Held.{Held}
use Rattle.pli_storage.specs.Held.{with_held}
use Rattle.pli_leaving.specs.declared.leaving.Left.{Left}
use Rattle.pli_leaving.specs.declared.leaving.Top.{Top}

-- a call whose services hold what a run's flow and its variables do
abbrev pub with_both : Keeper → FlowSeen → Held → (memory : List ℕ) → Call → Call
with_both k f h m c = with_flow f (with_held k h m c)

-- what is known of the entries is so
abbrev pub IsTop : Top → List Entry → Type 0
IsTop top es = (top.entries ≡ length es) × (top.is_text ≡ are_texts 1 es)

-- a block is the newest of these, but for its units
abbrev pub IsNewest : Block → List Activation → Type 0
IsNewest block as' = Some (block_shown block) ≡ option_map without_units (slice_get as' 0)

-- entries and places in format lists back to heights
abbrev pub back_to : (texts edits keep : ℕ) → Services → Services
back_to texts edits keep v =
    record v { entries = unwrap_or (entries_left texts keep v.entries) []; edits = oldest edits v.edits }

-- the reply is the service's answer once entries and places in format lists are back to the heights that are told
abbrev pub Leaves : Answer → (keep : ℕ) → (old : Call) → Result Left Refusal → (new : Call) → Type 0
Leaves answer keep c (Ok left) c' = Replies answer c.services c.memory (Ok left.reply) (back_to left.texts left.edits keep c'.services) c'.memory
Leaves answer keep c (Err refusal) c' = Replies answer c.services c.memory (Err refusal) c'.services c'.memory
