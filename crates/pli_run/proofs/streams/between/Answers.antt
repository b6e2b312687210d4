use Rattle.std.proofs.Common.{ap, subst, sym, ◌∙◌}
use Rattle.pli_run.proofs.Pictures.{unstarted_shows}
use Rattle.pli_run.proofs.Stepping.{StreamLaws}
use Rattle.pli_run.proofs.Told.{between_told, own_of, stop_follows, stop_unread, unstarted_empty}
use Rattle.pli_run.specs.Running.{own_output}
use Rattle.pli_run.specs.Stopping.{came_to}
use Rattle.pli_run.proofs.streams.between.Goals as goal

pub returns-in-Ok-clause-told : goal.returns-in-Ok-clause-told
returns-in-Ok-clause-told g c = λ bytes all begins agreed.
    between_told _ (record {
      agreed = g.met.I.InputStream.agreed;
      stays = g.met.I.InputStream.stays;
      goes_on = g.met.I.InputStream.goes_on;
      cut = g.met.O.OutputStream.cut;
    }) c.args.image.now c.args.base c.args.input c.args.output c.args.bound c.in-Ok.field-0.last
    c.in-Ok.field-0.services c.in-Ok.ensures.stopped
    c.requires.unfailed.0 c.requires.unfailed.1 c.into_parts-outcome.result.0 c.into_parts-outcome.result.2
    c.into_parts-outcome.result.3 bytes all c.traced.result c.into_parts-outcome.result.1
    c.into_parts-outcome.ensures.outcome
    c.into_parts-outcome.ensures.streams.0 c.into_parts-outcome.ensures.streams.1
    (c.traced.ensures.0 ∙ c.came_to-ran.ensures
    ∙ ap (λ f. came_to c.into_parts-outcome.result.0 f c.in-Ok.field-0.last) c.stream_fault-fault.ensures)
    c.into_parts-outcome.ensures.entered c.traced.ensures.1 begins agreed

pub returns-in-Ok-clause-follows : goal.returns-in-Ok-clause-follows
returns-in-Ok-clause-follows g c =
    subst (λ i. g.I.InputStream.follows c.args.input i) (sym c.into_parts-outcome.ensures.streams.0)
    (stop_follows _ (record {
      agreed = g.met.I.InputStream.agreed;
      stays = g.met.I.InputStream.stays;
      goes_on = g.met.I.InputStream.goes_on;
      cut = g.met.O.OutputStream.cut;
    }) c.args.image.now c.args.base c.args.input c.args.output c.args.bound c.in-Ok.field-0.last
    c.in-Ok.field-0.services c.in-Ok.ensures.stopped)

pub returns-in-Err-clause-told : goal.returns-in-Err-clause-told
returns-in-Err-clause-told g c = λ bytes all begins agreed. (
  λ p gs h tabled.
      unstarted_shows p gs c.args.base bytes c.args.bound _ _ c.unstarted.result c.unstarted.ensures
      (ap g.O.OutputStream.output c.in-Err.ensures.back.1 ∙ c.requires.unwritten),
  λ p gs h tabled. tt,
)

pub returns-in-Ok-clause-unread : goal.returns-in-Ok-clause-unread
returns-in-Ok-clause-unread g c = λ bytes all begins agreed silent.
    c.into_parts-outcome.ensures.streams.0
    ∙ stop_unread _ (record {
      agreed = g.met.I.InputStream.agreed;
      stays = g.met.I.InputStream.stays;
      goes_on = g.met.I.InputStream.goes_on;
      cut = g.met.O.OutputStream.cut;
    }) c.args.image.now c.args.base c.args.input c.args.output c.args.bound c.in-Ok.field-0.last
    c.in-Ok.field-0.services
    c.in-Ok.ensures.stopped c.requires.unfailed.0 c.requires.unfailed.1 bytes all begins agreed silent

pub returns-in-Ok-clause-empty : goal.returns-in-Ok-clause-empty
returns-in-Ok-clause-empty g c =
    ap own_output (c.traced.ensures.0 ∙ c.came_to-ran.ensures)
    ∙ own_of c.into_parts-outcome.result.0 c.stream_fault-fault.result c.in-Ok.field-0.last
    ∙ ap (λ w. w.output) c.into_parts-outcome.ensures.outcome

pub returns-in-Err-clause-empty : goal.returns-in-Err-clause-empty
returns-in-Err-clause-empty g c = unstarted_empty c.unstarted.result c.unstarted.ensures
