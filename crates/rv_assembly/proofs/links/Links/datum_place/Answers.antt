use Rattle.std.proofs.Common.{map}
use Rattle.rv_assembly.specs.contracts.statics.DatumRefPartialEq.TheImpl as borrowed
use Rattle.rv_assembly.specs.Placed.{placed_of}
use Rattle.rv_assembly.proofs.Finding.{data_answer}
use Rattle.rv_assembly.proofs.Same.{same_is}
use Rattle.rv_assembly.proofs.links.Links.datum_place.Goals as goal

pub returns-in-Some : goal.returns-in-Some
returns-in-Some c =
    data_answer borrowed.ghosts.eq same_is c.args.self.now.data_index (map placed_of c.args.self.now.placed.items) c.args.named _ c.args.self.now.finds_data c.in-Some.ensures.value

pub returns-in-None : goal.returns-in-None
returns-in-None c =
    data_answer borrowed.ghosts.eq same_is c.args.self.now.data_index (map placed_of c.args.self.now.placed.items) c.args.named _ c.args.self.now.finds_data c.in-None.ensures.value
