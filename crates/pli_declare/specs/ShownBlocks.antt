-- The pure blocks that a program's values show.
use Rattle.std.specs.Prelude.{map}
use Rattle.pli_declare.specs.declared.scope.Block.{Block as BlockHeld}
use Rattle.pli_language.specs.View.{option_of, procedure_head_of}
use Rattle.pli_language.specs.Declarations.{Block}
use Rattle.pli_declare.specs.Shown.{declaration_of}

abbrev pub block_of : BlockHeld → Block
block_of b = record {
  around = b.around.items;
  head = option_of (λ h. procedure_head_of h.now) b.head;
  declarations = map declaration_of b.names.declarations.items;
}
