use Rattle.pli_making.proofs.Growing.{left_still, returned_still, unwound_still}
use Rattle.pli_making.proofs.laws.blocks_are_left.Goals as goal

pub returns-clause-leave : goal.returns-clause-leave
returns-clause-leave c = left_still

pub returns-clause-unwind : goal.returns-clause-unwind
returns-clause-unwind c = unwound_still

pub returns-clause-return_from : goal.returns-clause-return_from
returns-clause-return_from c = returned_still
