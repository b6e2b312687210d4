use Rattle.pli_runtime.proofs.Beginnings.{by_signatures, signature_never_ends}
use Rattle.pli_runtime.specs.Seen.{run_seen, call_of}
use Rattle.pli_runtime.proofs.runtime.Runtime.signature.Goals as goal

pub returns-clause-carried : goal.returns-clause-carried
returns-clause-carried g c = λ input.
    let there = call_of g.K.AreaKeeper.keeper (run_seen g.O.OutputStream.output c.args.self.now input)
    c.args.memory.now in
    by_signatures _ (run_seen g.O.OutputStream.output c.args.self.now input) _ _ _ _
    (signature_never_ends there c.args.number c.args.places c.args.lower c.args.upper)
    (λ v x y. c.signatures_are_added.ensures there c.args.number c.args.places c.args.lower c.args.upper _ v _ x y c.requires.counted)
    c.requires c.signature.ensures.kept (c.signature.ensures.answers there)
