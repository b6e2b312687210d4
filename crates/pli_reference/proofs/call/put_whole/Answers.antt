use Rattle.std.proofs.Common.{◌∙◌, ◌∷◌, [], ◌++◌, map, slice_get, ap, sym}
use Rattle.std.proofs.lemmas.List.{map_push}
use Rattle.pli_typing.specs.Variables.{declarations_at, variables_in}
use Rattle.pli_declare.specs.ShownBlocks.{block_of}
use Rattle.pli_operand.specs.Shown.{designated_of}
use Rattle.pli_variables.specs.ShownShapes.{shape_of}
use Rattle.pli_reference.proofs.Calls.{whole_of_some}
use Rattle.pli_reference.proofs.call.put_whole.Goals as goal

pub returns-in_ok-push-in-Some : goal.returns-in_ok-push-in-Some
returns-in_ok-push-in-Some c = ap (map designated_of) c.in_ok-push-in-Some.ensures.items ∙ map_push designated_of c.args.out.now.items c.whole_by.result ∙ ap (λ xs. map designated_of c.args.out.now.items ++ xs) (ap (λ d. d ∷ []) c.whole_by.ensures ∙ sym (whole_of_some (map block_of c.args.tables.now.scopes.now.blocks.items) c.args.block (slice_get (variables_in (declarations_at (map block_of c.args.tables.now.scopes.now.blocks.items) c.args.block)) c.args.index) (shape_of c.in-Some.shape.now) c.in-Some.ensures))
