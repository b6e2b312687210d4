use Rattle.std.proofs.Common.{◌∙◌, ◌^◌, ◌<◌, ap, sym, arith}
use Rattle.pli_serving.specs.Answers.{Done}
use Rattle.pli_serving.specs.Templates.{shape_at}
use Rattle.pli_storage.specs.Findings.{found_of}
use Rattle.pli_storage.specs.Held.{holding, with_held}
use Rattle.pli_storage.proofs.Resolving.{resolved_bare}
use Rattle.pli_storage.proofs.held.Held.resolve_bare.Goals as goal

pub returns-in-Some : goal.returns-in-Some
returns-in-Some g c = λ c'.
    let small : c.args.place < 2 ^ 32 = omega (arith, c.in-Some.ensures) in
    resolved_bare (with_held g.K.AreaKeeper.keeper c.args.self.now c.args.memory.now c') (found_of c.args.found) c.args.leaf c.args.place (shape_at c.args.self.now.signatures c.args.found.signature) c.requires.place small
    ∙ ap (λ n. Done (holding c.args.self.now c'.services) c.args.memory.now n 0) (sym c.in-Some.ensures.0)
