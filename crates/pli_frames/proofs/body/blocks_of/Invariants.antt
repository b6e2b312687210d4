use Rattle.std.proofs.Common.{◌≡◌, ◌++◌, map, drop}
use Rattle.pli_typing.specs.TypedStatementView.{procedure_of}
use Rattle.pli_frames.specs.Blocks.{block_words_of, blocks_of}
use Rattle.pli_frames.proofs.body.blocks_of.Given as goal

abbrev pub invariant-loop-procedure : goal.invariant-loop-procedure
invariant-loop-procedure l = map block_words_of l.blocks.items ++ blocks_of (map procedure_of (drop l.procedure-index l.procedures)) ≡ blocks_of (map procedure_of l.procedures)
