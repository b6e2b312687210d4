-- An area that takes over what another holds, by what the keeper makes of both.
use Rattle.std.proofs.Common.{◌≡◌, ℕ, List, sym, ap, Option, Some, None, Ok, Err}
use Rattle.area_heap.specs.declared.fault.AreaFault.{AreaFault}
use Rattle.area_heap.specs.declared.fault.AreaFault.TheVariants.{TooSmall}
use Rattle.area_heap.specs.Answers.{done_or}
use Rattle.pli_serving.specs.Answers.{Done}
use Rattle.pli_serving.specs.AreaServices.{assignment_answered}
use Rattle.pli_serving.specs.Finding.{Call}
use Rattle.pli_storage.specs.Areas.{written_or}

pub copied_so : (c : Call) (target at : ℕ) (m : List ℕ) (o : Option (List ℕ)) → Ok tt ≡ done_or TooSmall o → m ≡ written_or at c.memory o → assignment_answered c target at o ≡ Done c.services m target 0
copied_so c target at m None k w = cc
copied_so c target at m (Some bytes) k w = ap (λ m. Done c.services m target 0) (sym w)

pub too_small : (c : Call) (target at : ℕ) (m : List ℕ) (fault : AreaFault) (o : Option (List ℕ)) → Err fault ≡ done_or TooSmall o → m ≡ written_or at c.memory o → assignment_answered c target at o ≡ Done c.services m target 10
too_small c target at m fault None k w = ap (λ m. Done c.services m target 10) (sym w)
too_small c target at m fault (Some bytes) k w = cc
