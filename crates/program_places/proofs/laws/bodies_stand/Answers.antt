use Rattle.program_places.proofs.Blocks.{own_block}
use Rattle.program_places.proofs.Outermost.{outermost_block}
use Rattle.program_places.proofs.Procedures.{body_placed}
use Rattle.program_places.proofs.laws.bodies_stand.Goals as goal

pub returns : goal.returns
returns c =
    record {
      placed = body_placed c.marked_once.ensures;
      around = λ program head body result is. own_block program head body result is;
      outermost = λ program m e h main same below. outermost_block program m e h.well_formed main same below;
    }
