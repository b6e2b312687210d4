use Rattle.std.proofs.Common.{refl}
use Rattle.controlled_gens.specs.Rooted.{livings}
use Rattle.pli_making.proofs.Makings.{counted_entered, counted_still}
use Rattle.pli_making.proofs.making.enter_counted.Goals as goal

pub returns-in-Ok-clause-counted : goal.returns-in-Ok-clause-counted
returns-in-Ok-clause-counted c =
    let h = c.args.held.now in
    let w = c.args.wanted in
    let e = c.in-Ok.ensures.enters in
    counted_entered w c.args.owner c.args.len c.in-Ok.serial h c.enter.new.held c.add.new.self e.2
    (c.add.ensures.counted h.signatures (livings h.variables.roots) (record { serial = c.in-Ok.serial; owner = c.args.owner; signature = w.signature; at = w.place }) (c.reach.ensures.counted h.signatures (livings h.variables.roots) c.requires.counted) refl c.requires.weighed.known c.requires.weighed.weight)

pub returns-in-Err-clause-counted : goal.returns-in-Err-clause-counted
returns-in-Err-clause-counted c =
    let h = c.args.held.now in
    counted_still c.args.wanted c.args.owner c.args.len h c.enter.new.held c.in-Err.refusal c.reach.new.self c.in-Err.ensures.enters (c.reach.ensures.counted h.signatures (livings h.variables.roots) c.requires.counted)
