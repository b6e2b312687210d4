-- A worked row: the main procedure calls a procedure inside it that does nothing, and its code.
use Rattle.std.specs.Prelude.{ℕ, ◌+◌, ◌≡◌, [], ◌∷◌, None}
use Rattle.run_keeper.specs.RunKeeper.{run_keeper}
use Rattle.pli_typing.specs.TypedTree as Y
use Rattle.pli_meaning.specs.Executing.{begun}
use Rattle.pli_meaning.specs.StorageState.{first_state, with_activations}
use Rattle.pli_serving.specs.ServiceState as S
use Rattle.pli_coding.specs.Assembly.{Code, CallTo, Mark, ProcedureEntry, size_of}
use Rattle.pli_coding.specs.Frames.{MemoryParts, usual_parts}
use Rattle.pli_coding.specs.Linking.{Links, linked, links_of}
use Rattle.image_runs.specs.Runs.{layout_of}
use Rattle.storage_relation.specs.Stored.{Places}
use Rattle.run_steps.specs.Items.{Linked}
use Rattle.activation_relation.specs.Layers.{Layer, Point}
use Rattle.activation_relation.specs.Points.{Surroundings}
use Rattle.activation_relation.specs.Rows.{row_activation}
use Rattle.block_runs.specs.Beginnings.{Beginning, IsBeginning, CallStands}
use Rattle.block_runs.specs.EmptyProcedures.{empty_code}

abbrev pub row_parts : MemoryParts
row_parts = usual_parts run_keeper.bytes_for

-- its two frames: the main procedure's, with two words for temporaries, and that of the procedure inside it
abbrev pub row_layer : (block level at words saved top : ℕ) → (held : ℕ → ℕ) → Layer
row_layer block level at words saved top held =
    record {
      block = block;
      level = level;
      kind = S.ProcedureBlock;
      units = [];
      at = at;
      words = words;
      parameters = 0;
      back = 2;
      saved = saved;
      held = held;
      waits = λ n. None;
      told = λ n. None;
      list = None;
      top = top;
      lower = row_parts.stack_end;
      entries = [];
      edits = [];
      line = 1;
      carried = λ label. None;
    }

abbrev pub row_numbers : ℕ → ℕ
row_numbers n = 70 + n

abbrev pub main_layer : Layer
main_layer = row_layer 0 0 (row_parts.stack_start + 64) 2 0 (row_parts.stack_start + 208) (λ n. 0)

abbrev pub inner_layer : Layer
inner_layer = row_layer 1 1 (row_parts.stack_start + 208) 0 2 (row_parts.stack_start + 368) row_numbers

abbrev pub inner_head : Y.BlockHead
inner_head = record { kind = Y.ProcedureBlock; number = 1; level = 1; line = 3 }

abbrev pub row_call : Beginning
row_call =
    record {
      head = inner_head;
      entry = begun (Y.BlockOf inner_head (Y.EndOfList [])) 1;
      layer = inner_layer;
      texts = 0;
    }

abbrev pub row_point : Places → Point
row_point π =
    record {
      keeper = run_keeper;
      layout = layout_of 4096;
      places = π;
      state = with_activations (row_activation 1 0 0 0 ∷ []) (first_state []);
      control = record {
        layers = main_layer ∷ [];
        controlled = λ variable. [];
        waiting = None;
        entries = [];
        edits = [];
        line = 1;
      };
    }

-- a call, and behind it the code of the procedure
abbrev pub row_code : Code
row_code = CallTo (ProcedureEntry 1) ∷ Mark (ProcedureEntry 1) ∷ empty_code row_call

abbrev pub row_links : Links
row_links = links_of row_code

abbrev pub row_surroundings : Surroundings
row_surroundings = record { parts = row_parts; links = row_links; units = []; acts = 5; serials = 1 }

pub record EmptyCalled : Type 0 where
  -- the layer is what its call makes
  pub beginning : (π : Places) → IsBeginning row_surroundings (row_point π) row_numbers row_call
  -- the call stands at index 0 and its code at index 2, 36 words with it
  pub stands : CallStands row_surroundings (linked row_links 0 row_code) row_call 0 2
  pub whole : Linked row_links (linked row_links 0 row_code) 2 (empty_code row_call)
  pub size : size_of row_code ≡ 36
