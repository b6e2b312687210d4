use Rattle.std.proofs.Common.{◌≡◌, ◌++◌, map, drop}
use Rattle.pli_typing.specs.TypedStatementView.{program_of}
use Rattle.pli_frames.specs.Blocks.{block_words_of}
use Rattle.pli_frames.specs.Plans.{frame_of, frame_shown}
use Rattle.pli_frames.proofs.plan.plan.Given as goal

abbrev pub invariant-loop-block : goal.invariant-loop-block
invariant-loop-block l = map frame_shown l.frames.items ++ map (frame_of (program_of l.typed)) (map block_words_of (drop l.block-index l.block-items)) ≡ map (frame_of (program_of l.typed)) (map block_words_of l.block-items)
