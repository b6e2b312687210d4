use Rattle.std.proofs.Common.{◌≡◌, ◌++◌, ◌∷◌, [], List, map, length, ap, ◌∙◌}
use Rattle.pli_language.specs.View.{items_of}
use Rattle.pli_language.specs.Declarations.{Block, blocks_of, blocks_in}
use Rattle.pli_declare.specs.declared.scope.Block.{Block as BlockHeld}
use Rattle.pli_declare.specs.ShownBlocks.{block_of}
use Rattle.pli_declare.proofs.scopes.read_scopes.Goals as goal

pub returns : goal.returns
unfolding blocks_of
returns c =
    let is = items_of c.args.tree.now.procedures in
    let first : c.push.new.self.items ≡ c.in_ok-outermost.field-0 ∷ [] = c.in_ok-push.ensures.items ∙ ap (λ u. u ++ c.in_ok-outermost.field-0 ∷ []) c.new-blocks.ensures.items in
    c.in_ok-put_blocks.ensures ∙ ap (λ (u : List BlockHeld). map block_of u ++ blocks_in (0 ∷ []) (length u) is) first ∙ ap (λ (b : Block). b ∷ blocks_in (0 ∷ []) 1 is) c.in_ok-outermost.ensures
