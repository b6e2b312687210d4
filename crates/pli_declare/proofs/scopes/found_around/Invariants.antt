use Rattle.std.proofs.Common.{◌≡◌, map, drop}
use Rattle.pli_language.specs.Means.{means_from}
use Rattle.pli_declare.specs.Among.{letters_of}
use Rattle.pli_declare.specs.ShownBlocks.{block_of}
use Rattle.pli_declare.proofs.scopes.found_around.Given as goal

abbrev pub invariant-loop-block : goal.invariant-loop-block
invariant-loop-block l = means_from (map block_of l.blocks) (drop l.block-index l.around) (letters_of l.qualifiers) l.last ≡ means_from (map block_of l.blocks) l.around (letters_of l.qualifiers) l.last
