use Rattle.std.proofs.Common.{◌≡◌, [], sym, subst, ap, ◌∙◌}
use Rattle.std.proofs.lemmas.Result.{err_from_is_err_and}
use Rattle.pli_edit.specs.Feeding.{Buffered, is_open}
use Rattle.pli_edit.specs.KnownMarks.{Marked, known}
use Rattle.pli_edit.specs.Streams.{Waits, IsKnownMark}
use Rattle.pli_edit.specs.declared.feed.Standing.TheVariants as S
use Rattle.pli_edit.proofs.Looking.{none_known, opened, waits_read}
use Rattle.pli_edit.proofs.feed_marks.FeedMarks.first.Goals as goal

pub loop-self-preserved : goal.loop-self-preserved
loop-self-preserved g c =
    let s = c.loop-self.self-inside in
    let b : Marked = record { fed = s.bytes.fed; lines = s.lines; is_begun = s.is_begun; pending = s.bytes.pending } in
    let found = c.known_mark-found.result in
    let r = c.in_ok-read.ensures.read in
    let none : known s.bytes.pending ≡ [] =
    none_known found s.bytes.pending (sym c.is_some.ensures ∙ c.if-is_some.false)
    (subst (λ p. IsKnownMark p found) c.pending.ensures c.known_mark-found.ensures) in
    let here : s.bytes.fed.standing ≡ S.Open =
    opened s.bytes.fed.standing
    (ap is_open (sym c.standing.ensures) ∙ (sym c.is_open.ensures ∙ c.loop-self-test.true)) in
    record {
      waits =
          subst (λ (d : Buffered). Waits c.args.self.now
          (record { fed = d.fed; lines = s.lines; is_begun = s.is_begun; pending = d.pending })) (sym r.2)
          (waits_read r.0 c.args.self.now b c.loop-self.invariant.waits none here r.1);
      whole = c.in_ok-read.ensures.told;
    }

pub returns-in_err-read : goal.returns-in_err-read
returns-in_err-read g c =
    let s = c.loop-self.self-inside in
    let b : Marked = record { fed = s.bytes.fed; lines = s.lines; is_begun = s.is_begun; pending = s.bytes.pending } in
    let found = c.known_mark-found.result in
    let r = c.in_err-read.ensures.read in
    let none : known s.bytes.pending ≡ [] =
    none_known found s.bytes.pending (sym c.is_some.ensures ∙ c.if-is_some.false)
    (subst (λ p. IsKnownMark p found) c.pending.ensures c.known_mark-found.ensures) in
    let here : s.bytes.fed.standing ≡ S.Open =
    opened s.bytes.fed.standing
    (ap is_open (sym c.standing.ensures) ∙ (sym c.is_open.ensures ∙ c.loop-self-test.true)) in
    let p = err_from_is_err_and c.from_residual.result c.from_residual.ensures.1 in
    rw (p.1, p.2) (
      c.in_err-read.ensures.told.0,
      (
        subst (λ (d : Buffered). Waits c.args.self.now
            (record { fed = d.fed; lines = s.lines; is_begun = s.is_begun; pending = d.pending })) (sym r.2)
            (waits_read r.0 c.args.self.now b c.loop-self.invariant.waits none here r.1),
        c.in_err-read.ensures.told.1,
      ),
    )
