use Rattle.std.proofs.Common.{◌≡◌, map, drop}
use Rattle.pli_coding.specs.Environments.{last_of_level}
use Rattle.rv_address.specs.Around.{block_place_of}
use Rattle.rv_statement.proofs.goto.last_of_level.Given as goal

abbrev pub invariant-loop-block : goal.invariant-loop-block
invariant-loop-block l = last_of_level l.number l.level l.found (map block_place_of (drop l.block-index l.blocks)) ≡ last_of_level l.number l.level 0 (map block_place_of l.blocks)
