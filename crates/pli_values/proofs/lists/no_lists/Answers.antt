use Rattle.std.proofs.Common.{◌≡◌, ◌∙◌, ap, length, refl, replicate, rules}
use Rattle.pli_values.specs.Leaves.{leaves_of}
use Rattle.pli_values.specs.LeafLists.{lists_read}
use Rattle.pli_values.proofs.LeafLists.{no_lists}
use Rattle.pli_values.proofs.lists.no_lists.Goals as goal

pub returns-clause-none : goal.returns-clause-none
returns-clause-none c =
    let leaves = c.args.leaves.now in
    let items : c.in_ok-vec.field-0.items ≡ replicate (length leaves) (record { count = 0; at = 0 }) = search (rules, c.in_ok-vec.ensures) in
    λ call. ap (lists_read call (leaves_of leaves)) items ∙ no_lists call leaves (record { count = 0; at = 0 }) (length leaves) refl refl
