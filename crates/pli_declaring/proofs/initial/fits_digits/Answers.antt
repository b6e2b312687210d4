use Rattle.std.proofs.Common.{ap, ◌∙◌}
use Rattle.std.proofs.lemmas.Int.{to_z-of_z}
use Rattle.pli_declaring.specs.Shown.{magnitude}
use Rattle.pli_declaring.proofs.Powers.{fits_all}
use Rattle.pli_declaring.proofs.initial.fits_digits.Goals as goal

pub returns-then-digits-ge63 : goal.returns-then-digits-ge63
returns-then-digits-ge63 c = fits_all c.args.digits c.args.number c.magnitude-magnitude.result (c.magnitude-magnitude.ensures.value ∙ ap magnitude (to_z-of_z _ _ c.ranges.number)) c.magnitude-magnitude.ensures.below c.if-digits-ge63.true
