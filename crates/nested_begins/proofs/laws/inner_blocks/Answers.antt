use Rattle.nested_begins.proofs.InnerBlocks.{inner_known, inner_nested, inner_number}
use Rattle.nested_begins.proofs.laws.inner_blocks.Goals as goal

pub returns : goal.returns
returns c = record { nested = inner_nested; number = inner_number; known = inner_known }
