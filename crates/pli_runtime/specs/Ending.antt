-- Entries and places in format lists once a block has ended.
use Rattle.std.specs.Prelude.{◌≡◌, ℕ, ◌<◌, true, List, [], length, take, unwrap_or}
use Rattle.pli_leaving.specs.declared.leaving.Left.{Left}
use Rattle.pli_serving.specs.Blocks.{are_texts, entries_left, oldest}
use Rattle.pli_serving.specs.ServiceState.{Entry}
use Rattle.pli_transmission.specs.Transmitting.{places_of}
use Rattle.pli_runtime.specs.Seen.{RunSeen}

-- the newest entry is a text above those that stay
pub record IsKept (texts : ℕ) (es : List Entry) : Type 0 where
  pub is_text : are_texts 1 es ≡ true
  pub inside : texts < length es

-- entries and places are back to the heights that are told, and what ended counts no more
pub record IsBack (left : Left) (keep : ℕ) (r r' : RunSeen) : Type 0 where
  pub flow : r'.flow ≡ r.flow
  pub held : r'.held ≡ r.held
  pub in_use : r'.in_use ≡ take (length r.flow.activations) r.in_use
  pub input : r'.input ≡ r.input
  pub edits : places_of r'.edits ≡ oldest left.edits (places_of r.edits)
  pub entries : r'.entries ≡ unwrap_or (entries_left left.texts keep r.entries) []
