-- The frame of each block of a program: where its variables lie, and how many words its temporaries take.
use Rattle.std.specs.Prelude.{ℕ, ◌+◌, ◌==◌, min, max, List, [], ◌∷◌, map, length, Option, Some, None, if◌then◌else◌}
use Rattle.pli_typing.specs.TypedTree as Y
use Rattle.pli_typing.specs.TypedStatementView.{block_head_of}
use Rattle.pli_meaning.specs.DeclaredShapes.{variables_of_block, head_of}
use Rattle.pli_coding.specs.Frames.{frame_bytes, fixed_size, last_place, variable_place, parameters_of_block}
use Rattle.pli_coding.specs.Entries.{variables_take}
use Rattle.pli_frames.specs.Blocks.{BlockWords, blocks_of}
use Rattle.pli_frames.specs.Parts.{parts}
use Rattle.pli_frames.specs.declared.frame.BlockFrame.{BlockFrame as BlockFrameHeld}

-- a block with the words that its temporaries take at most, its parameters, the place of each variable's name, and the place
-- behind all of them
pub record BlockFrame : Type 0 where
  pub head : Y.BlockHead
  pub words : ℕ
  pub parameters : ℕ
  pub places : List ℕ
  pub end : ℕ

abbrev pub frame_shown : BlockFrameHeld → BlockFrame
frame_shown f =
    record { head = block_head_of f.head; words = f.words; parameters = f.parameters; places = f.places.items; end = f.end }

abbrev pub places_from : (at : ℕ) → List Y.DeclaredVariable → List ℕ
places_from at [] = []
places_from at (d ∷ ds) = at ∷ places_from (min last_place (at + frame_bytes parts d)) ds

-- the frame of a block with these parameters and variables
abbrev pub frame_with : Y.BlockHead → (words parameters : ℕ) → List Y.DeclaredVariable → BlockFrame
frame_with head words parameters ds =
    record {
      head = head;
      words = max (variables_take ds).words words;
      parameters = parameters;
      places = places_from (fixed_size head.level parameters) ds;
      end = variable_place parts (fixed_size head.level parameters) ds (length ds);
    }

abbrev pub declaring_frame : Y.Program → BlockWords → BlockFrame
declaring_frame program b =
    frame_with b.head b.words (length (parameters_of_block program b.head.number)) (variables_of_block program b.head.number)

-- a simple unit declares nothing: the number is that of the block around it
abbrev pub frame_by_kind : Y.Program → BlockWords → Y.BlockKind → BlockFrame
frame_by_kind program b Y.SimpleUnit = frame_with b.head b.words 0 []
frame_by_kind program b _ = declaring_frame program b

abbrev pub frame_of : Y.Program → BlockWords → BlockFrame
frame_of program b = frame_by_kind program b b.head.kind

-- the frames of all blocks, in the order in which they begin
abbrev pub planned : Y.Program → List BlockFrame
planned program = map (frame_of program) (blocks_of program.procedures)

-- how many parameters the first procedure with a number has
abbrev pub parameters_found : (number : ℕ) → List Y.Procedure → Option ℕ
parameters_found number [] = None
parameters_found number (p ∷ ps) =
    if (head_of p.block).number == number then Some (length p.parameters) else parameters_found number ps
