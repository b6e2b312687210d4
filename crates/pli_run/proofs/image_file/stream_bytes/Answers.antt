use Rattle.std.proofs.Common.{◌≡◌, subst, sym, ◌∙◌}
use Rattle.rv_meaning.specs.Images.{Image}
use Rattle.rv_meaning.proofs.ImageBytes.{image_back}
use Rattle.pli_compile.specs.Compiling.{IsImageFor}
use Rattle.pli_run.proofs.Answered.{answered_with}
use Rattle.pli_run.proofs.Streaming.{streamed_for}
use Rattle.pli_run.proofs.image_file.stream_bytes.Goals as goal

pub returns-in-Ok-clause-meant : goal.returns-in-Ok-clause-meant
returns-in-Ok-clause-meant g c = λ s made valid.
    let b = c.args.bytes.now in
    let same : made.image ≡ c.in-Ok.image = sym (image_back made.image b made.spelled)
    ∙ image_back c.in-Ok.image b c.in-Ok.ensures in
    let compiled : IsImageFor s c.in-Ok.image = subst (λ (i : Image). IsImageFor s i) same made.compiled in
    streamed_for
    (λ input output taken h.
    answered_with c.accepted_cut_runs_meant.ensures compiled c.in-Ok.ensures.loadable c.args.base input c.args.bound
    output taken _ valid c.ranges.bound.fits h.0)
    (c.run_traced-ran.ensures.told valid)
