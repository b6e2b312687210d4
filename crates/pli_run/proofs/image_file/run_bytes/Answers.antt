use Rattle.std.proofs.Common.{◌≡◌, subst, sym, ◌∙◌}
use Rattle.rv_meaning.specs.Images.{Image}
use Rattle.rv_meaning.proofs.ImageBytes.{image_back}
use Rattle.pli_compile.specs.Compiling.{IsImageFor}
use Rattle.pli_run.proofs.Answered.{answered}
use Rattle.pli_run.proofs.Filing.{pictured, tabled}
use Rattle.pli_run.proofs.image_file.run_bytes.Goals as goal

pub returns-clause-ran : goal.returns-clause-ran
returns-clause-ran c =
    let p = pictured c.in_ok-image.image c.in_ok-image.ensures.loadable in
    let gs = tabled c.in_ok-image.image c.in_ok-image.ensures.loadable in
    record {
      image = c.in_ok-image.image;
      spelled = c.in_ok-image.ensures;
      picture = p.0;
      pictured = p.1;
      signatures = gs.0;
      tabled = gs.1;
      bad_base = c.run.ensures.bad_base;
      told = λ valid. c.run.ensures.told valid p.0 gs.0 p.1 gs.1;
    }

pub returns-clause-meant : goal.returns-clause-meant
returns-clause-meant c = λ s made valid.
    let b = c.args.bytes.now in
    let same : made.image ≡ c.in_ok-image.image = sym (image_back made.image b made.spelled) ∙ image_back c.in_ok-image.image b c.in_ok-image.ensures in
    let compiled : IsImageFor s c.in_ok-image.image = subst (λ (i : Image). IsImageFor s i) same made.compiled in
    answered c.accepted_cut_runs_meant.ensures compiled c.in_ok-image.ensures.loadable c.args.base c.args.input.now
    c.args.bound c.run.result valid c.ranges.bound.fits (c.run.ensures.told valid)
