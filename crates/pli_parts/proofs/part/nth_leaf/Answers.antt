use Rattle.std.proofs.Common.{◌≡◌, ◌+◌, ℕ, arith, subst}
use Rattle.pli_storage.specs.Findings.{found_of}
use Rattle.pli_parts.specs.Leaves.{IsLeafFound}
use Rattle.pli_parts.proofs.part.nth_leaf.Goals as goal

pub returns-in-Some : goal.returns-in-Some
returns-in-Some c = λ s e.
    let at : c.in-Some.leaf ≡ c.args.first + c.args.number = grind (arith, c.checked_add.ensures, c.in-Some.is) in
    subst (λ (n : ℕ). IsLeafFound s c.args.aggregate.extent (found_of c.args.found) c.args.given.now c.args.held.now.layout.end n c.part_leaf.result) at (c.part_leaf.ensures s e)
