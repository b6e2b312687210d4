use Rattle.std.proofs.Common.{ℕ, map, rules}
use Rattle.std.proofs.lemmas.List.Sorted.{answers_always}
use Rattle.pli_typing.specs.TypedStatementView.{procedure_of}
use Rattle.rv_address.specs.declared.environment.BlockPlace.{BlockPlace}
use Rattle.rv_start.proofs.Sorting.{blocks_sorted}
use Rattle.rv_start.proofs.blocks.blocks_of.Goals as goal

pub returns : goal.returns
returns c =
    let number : BlockPlace → ℕ = λ b. b.number in
    blocks_sorted (map procedure_of c.args.procedures.now) c.in_ok-blocks.blocks.items c.sort_by_key.new.self.items c.in_ok-blocks.ensures
    (c.in_ok-sort_by_key.ensures.sorted number (answers_always _ _ _ (λ f a r g h. search rules)))
    (c.in_ok-sort_by_key.ensures.stable number (answers_always _ _ _ (λ f a r g h. search rules)))
