use Rattle.std.proofs.Common.{◌∙◌, ◌^◌, ◌<◌, ap, sym, arith}
use Rattle.pli_serving.specs.Answers.{Done}
use Rattle.pli_serving.specs.Templates.{shape_at}
use Rattle.pli_signatures.specs.View.{leaf_in_force}
use Rattle.pli_storage.specs.Findings.{found_of}
use Rattle.pli_storage.specs.Held.{holding, with_held}
use Rattle.pli_storage.proofs.Resolving.{refused, resolved_so}
use Rattle.pli_storage.proofs.held.Held.resolve_placed.Goals as goal

pub returns-in-Ok : goal.returns-in-Ok
returns-in-Ok g c = λ c'.
    let small : c.args.place < 2 ^ 32 = omega (arith, c.in-Some.ensures) in
    resolved_so (with_held g.K.AreaKeeper.keeper c.args.self.now c.args.memory.now c') (found_of c.args.found) c.args.leaf c.args.buffer c.args.place (leaf_in_force c.args.described.now) c.describe.new.memory (shape_at c.args.self.now.signatures c.args.found.signature) c.requires.place c.requires.leaf small c.in-Ok.ensures
    ∙ ap (λ n. Done (holding c.args.self.now c'.services) c.describe.new.memory n 0) (sym c.in-Some.ensures.0)

pub returns-in-Err : goal.returns-in-Err
returns-in-Err g c = λ c'. refused (with_held g.K.AreaKeeper.keeper c.args.self.now c.args.memory.now c') (found_of c.args.found) c.args.leaf c.args.buffer (leaf_in_force c.args.described.now) (shape_at c.args.self.now.signatures c.args.found.signature) c.in-Err.refusal c.describe.new.memory c.requires.leaf c.in-Err.ensures
