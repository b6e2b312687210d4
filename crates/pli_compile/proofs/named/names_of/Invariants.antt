use Rattle.std.proofs.Common.{◌≡◌, ◌++◌, map, drop}
use Rattle.pli_declare.specs.ShownBlocks.{block_of}
use Rattle.pli_compile.specs.Naming.{block_letters}
use Rattle.pli_compile.proofs.named.names_of.Given as goal

abbrev pub invariant-loop-block : goal.invariant-loop-block
invariant-loop-block l = map (λ v. v.items) l.names.items ++ map block_letters (map block_of (drop l.block-index l.blocks)) ≡ map block_letters (map block_of l.blocks)
