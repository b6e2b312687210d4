use Rattle.std.proofs.Common.{refl, subst}
use Rattle.rv_meaning.specs.Images.{IsLoadable}
use Rattle.pli_run.proofs.Answered.{answered_with, refused_with}
use Rattle.pli_run.proofs.Streaming.{streamed_for, traces_source, uncompiled_whole, unstreamed}
use Rattle.pli_run.proofs.Told.{uncompiled_empty}
use Rattle.pli_run.proofs.source_run.compile_and_stream.Goals as goal

pub returns-in-Ok-clause-meant : goal.returns-in-Ok-clause-meant
returns-in-Ok-clause-meant g c = λ valid.
    let loadable : IsLoadable c.in-Ok.image = subst (λ i. IsLoadable i) c.image.view_is c.image.invariant in
    streamed_for
    (λ input output taken h. (
      answered_with c.accepted_cut_runs_meant.ensures c.in-Ok.ensures loadable c.args.base input c.args.bound output
          taken _ valid c.ranges.bound.fits h.0,
      traces_source c.in-Ok.ensures c.args.base input c.args.bound _ h.1,
    ))
    (c.run_traced.ensures.told valid)

pub returns-in-Err-clause-meant : goal.returns-in-Err-clause-meant
returns-in-Err-clause-meant g c = λ valid.
    unstreamed _ _ _ _ _ refl refl (uncompiled_whole _ c.uncompiled.result c.uncompiled.ensures)
    (λ input taken. (
      refused_with input c.args.base c.args.bound taken _ c.uncompiled.result c.in-Err.ensures c.uncompiled.ensures,
      tt,
    ))

pub returns-in-Ok-clause-unread : goal.returns-in-Ok-clause-unread
returns-in-Ok-clause-unread g c = λ valid input silent.
    c.run_traced.ensures.unread valid input (silent c.in-Ok.image c.in-Ok.ensures)

pub returns-in-Err-clause-empty : goal.returns-in-Err-clause-empty
returns-in-Err-clause-empty g c = uncompiled_empty _ c.uncompiled.result c.uncompiled.ensures
