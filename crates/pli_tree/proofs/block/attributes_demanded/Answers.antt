use Rattle.std.proofs.Common.{map}
use Rattle.pli_typing.specs.Generations as G
use Rattle.pli_language.specs.View.{attribute_of}
use Rattle.pli_generation.proofs.Extents.{found_is}
use Rattle.pli_operand.specs.Shown.{notes_of}
use Rattle.pli_variables.specs.Rows.{blocks_shown}
use Rattle.pli_tree.proofs.block.attributes_demanded.Goals as goal

pub returns : goal.returns
returns c = found_is c.args.found (notes_of c.names_demanded.new.notes) (G.names_demanded (blocks_shown c.args.tables.now.scopes.now) c.args.holder (map attribute_of c.args.attributes.now)) c.names_demanded.ensures
