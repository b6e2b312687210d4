use Rattle.std.proofs.Common.{◌≡◌, ◌++◌, map, drop}
use Rattle.std.specs.List.{flat_map}
use Rattle.pli_language.specs.Declaring.{statics_in}
use Rattle.pli_declare.specs.ShownBlocks.{block_of}
use Rattle.pli_declaring.specs.Statics.{capped_all, taken_of}
use Rattle.pli_declaring.proofs.statics.statics_of.Given as goal

abbrev pub invariant-loop-block : goal.invariant-loop-block
invariant-loop-block l = map taken_of l.out.items ++ capped_all (flat_map (λ b. statics_in b.declarations) (map block_of (drop l.block-index l.blocks))) ≡ capped_all (flat_map (λ b. statics_in b.declarations) (map block_of l.blocks))
