use Rattle.std.proofs.Common.{◌≤◌, ◌<◌, ◌^◌, arith}
use Rattle.std.proofs.lemmas.Bool.Decides.{nat_tests}
use Rattle.pli_aggregates.proofs.Running.{exact_count}
use Rattle.pli_aggregates.proofs.elements.LeafPlace.ends.Goals as goal

pub returns-in-Some : goal.returns-in-Some
returns-in-Some c = λ n e t.
    let l = c.args.self.now in
    let small : l.end < 2 ^ 32 = grind arith in
    let before : c.in-Some.last ≤ l.end = grind (arith, nat_tests, t, c.from.ensures) in
    let low : l.bytes ≤ c.args.step = omega (arith, c.if-self-step.false) in
    let both = exact_count c.args.count n c.args.step l.bytes c.args.at l.end e c.requires small low (omega (arith, before, c.in-Some.ensures)) in
    record { within = both.0; exact = both.1 }
