use Rattle.std.proofs.Common.{◌≤◌, ◌∙◌, arith, length}
use Rattle.pli_serving.specs.Values.{generation_bytes}
use Rattle.pli_allocation.specs.Placing.{placing}
use Rattle.pli_allocation.proofs.Placements.{copied_back, not_copied}
use Rattle.pli_allocation.proofs.placing.place_copied.Goals as goal

pub returns-in-Ok-clause-memory : goal.returns-in-Ok-clause-memory
returns-in-Ok-clause-memory g c = λ g' i.
    c.put_bytes.ensures ∙ copied_back g.K.AreaKeeper.keeper c.args.memory.now c.args.copy.now c.place_in.new.bytes (generation_bytes g') c.args.at c.in-Ok.offset (placing g.K.AreaKeeper.keeper c.args.signature g' c.args.copy.now) (c.in-Ok.ensures.answer g' i) (c.in-Ok.ensures.bytes g' i) (c.in-Ok.ensures.within g' i) (omega arith)

pub returns-in-Err-clause-memory : goal.returns-in-Err-clause-memory
returns-in-Err-clause-memory g c = λ g' i. not_copied g.K.AreaKeeper.keeper c.args.memory.now (generation_bytes g') c.args.at c.in-Err.fault (placing g.K.AreaKeeper.keeper c.args.signature g' c.args.copy.now) (c.in-Err.ensures.answer g' i)
