-- What a program's values show of the definitions.
use Rattle.std.specs.Prelude.{map, Option, Some, None}
use Rattle.pli_typing.specs.Judging.{Scope}
use Rattle.pli_typing.specs.References.{Named}
use Rattle.pli_language.specs.View.{name_of, option_of}
use Rattle.pli_typing.specs.TypedTree as Y
use Rattle.pli_typing.specs.TypedView.{pointer_of}
use Rattle.pli_typing.specs.declared.typed.Pointer.{Pointer}
use Rattle.pli_declare.specs.ShownBlocks.{block_of}
use Rattle.pli_operand.specs.Shown.{operand_of}
use Rattle.pli_reference.specs.declared.scope.Scope.{Scope as ScopeHeld}
use Rattle.pli_reference.specs.declared.names.Named.{Named as NamedHeld}

abbrev pub scope_of : ScopeHeld → Scope
scope_of s = record { blocks = map block_of s.tables.now.scopes.now.blocks.items; block = s.block }

abbrev pub locator_of : Option Pointer → Y.Locator
locator_of None = Y.NotLocated
locator_of (Some p) = Y.LocatedBy (pointer_of p)

abbrev pub named_of : NamedHeld → Named
named_of n = record { name = name_of n.name.now; arguments = option_of (λ v. map operand_of v.items) n.arguments }
