use Rattle.std.proofs.Common.{◌∙◌, sym, map}
use Rattle.std.specs.Prelude.{slice_get}
use Rattle.pli_serving.specs.SignatureService.{filled}
use Rattle.pli_signatures.specs.View.{place_of}
use Rattle.pli_types.specs.View.{pair_of}
use Rattle.pli_storage.specs.Held.{with_held}
use Rattle.pli_storage.proofs.Reserving.{filled_so}
use Rattle.pli_storage.proofs.held.Held.fill.Goals as goal

pub returns-in-Some-clause-answers : goal.returns-in-Some-clause-answers
returns-in-Some-clause-answers g c = λ m c'. filled_so (with_held g.K.AreaKeeper.keeper c.args.self.now m c') (filled (pair_of c.args.extent) (map place_of c.args.places.now) (slice_get c.args.self.now.signatures c.args.number)) c.in-Some.filled c.reserved-bytes.result c.fill.new.self (sym c.in-Some.is ∙ c.in_ok-filled.ensures.number) c.in_ok-filled.ensures.kept c.reserved-bytes.ensures
