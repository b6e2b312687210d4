use Rattle.std.specs.Prelude.{slice_get}
use Rattle.pli_types.specs.View.{template_of}
use Rattle.pli_signatures.proofs.Wholes.{is_shape, is_open}
use Rattle.pli_signatures.proofs.signatures.Signatures.whole.Goals as goal

pub returns-then-is_known : goal.returns-then-is_known
returns-then-is_known c = is_shape (template_of c.in-Some.signature.now) (slice_get c.args.self.now c.args.number) c.in-Some.ensures (c.if-is_known.ensures (template_of c.in-Some.signature.now) c.in-Some.ensures)

pub returns-else-is_known : goal.returns-else-is_known
returns-else-is_known c = is_open (template_of c.in-Some.signature.now) (slice_get c.args.self.now c.args.number) c.in-Some.ensures (c.if-is_known.ensures (template_of c.in-Some.signature.now) c.in-Some.ensures)
