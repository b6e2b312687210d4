use Rattle.std.proofs.Common.{refl}
use Rattle.pli_compile.specs.Compiling.{out_of_memory}
use Rattle.pli_run.proofs.image_file.compiled_bytes.Goals as goal

pub returns-in-Ok : goal.returns-in-Ok
returns-in-Ok c = record { image = c.in_ok-image.image; compiled = c.in_ok-image.ensures; spelled = c.in-Ok.ensures }

pub returns : goal.returns
returns c = out_of_memory refl
