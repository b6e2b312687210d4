use Rattle.std.proofs.Common.{◌≡◌, ◌≤◌, ◌<◌, ◌+◌, ℕ, List, true, sym, subst, arith}
use Rattle.pli_meaning.specs.InputLines.{Input, place_behind}
use Rattle.pli_edit.specs.Feeding.{Agrees, Buffered}
use Rattle.pli_edit.specs.KnownMarks.{Marked, marks_left, most_left}
use Rattle.pli_edit.specs.Marks.{IsInLine}
use Rattle.pli_edit.proofs.Looking.{behind_characters, pass_fewer, pass_there, passed_there}
use Rattle.pli_edit.proofs.feed_marks.FeedMarks.pass.Goals as goal

abbrev Requires : ℕ → Marked → Type 0
Requires n b = (all : List ℕ) → Agrees b.fed all → IsInLine n (marks_left b all)

pub pass-requires : goal.pass-requires
pass-requires g c =
    let s = c.self.inside in
    let b : Marked = record { fed = s.bytes.fed; lines = s.lines; is_begun = s.is_begun; pending = s.bytes.pending } in
    pass_there c.args.count b (subst (Requires c.args.count) (sym c.self.view_is) c.requires)

pub invariant_of-self : goal.invariant_of-self
invariant_of-self g c =
    let s = c.self.inside in
    let b : Marked = record { fed = s.bytes.fed; lines = s.lines; is_begun = s.is_begun; pending = s.bytes.pending } in
    let fewer = pass_fewer c.args.count b (subst (Requires c.args.count) (sym c.self.view_is) c.requires) in
    subst (λ (d : Buffered). most_left
    (record { fed = d.fed; lines = s.lines; is_begun = true; pending = d.pending }) < 18446744073709551616)
    (sym c.pass.ensures)
    (omega (arith, fewer, c.self.invariant))

pub returns-clause-passed : goal.returns-clause-passed
returns-clause-passed g c =
    let s = c.self.inside in
    let b : Marked = record { fed = s.bytes.fed; lines = s.lines; is_begun = s.is_begun; pending = s.bytes.pending } in
    let so = passed_there c.args.count b (subst (Requires c.args.count) (sym c.self.view_is) c.requires) in
    subst (λ (d : Buffered). (all : List ℕ) (column : ℕ) → Agrees c.args.self.now.fed all →
    ◌≡◌ {A = Input} (record {
      marks =
          marks_left (record { fed = d.fed; lines = s.lines; is_begun = true; pending = d.pending }) all;
      column =
          column + c.args.count;
    }) (place_behind c.args.count column (marks_left c.args.self.now all)))
    (sym c.pass.ensures)
    (subst (λ (b' : Marked). (all : List ℕ) (column : ℕ) → Agrees b'.fed all →
    ◌≡◌ {A = Input} (record {
      marks = marks_left (behind_characters c.args.count b) all;
      column =
          column + c.args.count;
    }) (place_behind c.args.count column (marks_left b' all)))
    c.self.view_is so)

pub returns-clause-fewer : goal.returns-clause-fewer
returns-clause-fewer g c =
    let s = c.self.inside in
    let b : Marked = record { fed = s.bytes.fed; lines = s.lines; is_begun = s.is_begun; pending = s.bytes.pending } in
    let fewer = pass_fewer c.args.count b (subst (Requires c.args.count) (sym c.self.view_is) c.requires) in
    subst (λ (d : Buffered). c.args.count + most_left
    (record { fed = d.fed; lines = s.lines; is_begun = true; pending = d.pending }) ≤ most_left c.args.self.now)
    (sym c.pass.ensures)
    (subst (λ (b' : Marked). c.args.count + most_left (behind_characters c.args.count b) ≤ most_left b')
    c.self.view_is fewer)
