use Rattle.std.proofs.Common.{◌≡◌, map, drop}
use Rattle.std.specs.List.{flat_map}
use Rattle.pli_language.specs.Declaring.{block_faults}
use Rattle.pli_language.specs.Refusals.{soonest}
use Rattle.pli_declare.specs.ShownBlocks.{block_of}
use Rattle.pli_declaring.proofs.block.noted_blocks.Given as goal

abbrev pub invariant-loop-block : goal.invariant-loop-block
invariant-loop-block l = soonest l.found (flat_map block_faults (map block_of (drop l.block-index l.blocks))) ≡ soonest l.initial.found (flat_map block_faults (map block_of l.blocks))
