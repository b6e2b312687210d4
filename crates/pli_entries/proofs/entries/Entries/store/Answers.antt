use Rattle.std.proofs.Common.{◌≡◌, true, false, arith}
use Rattle.std.specs.Prelude.{◌==◌, ◌||◌}
use Rattle.std.proofs.lemmas.Bool.Decides.{nat_tests}
use Rattle.pli_signatures.specs.View.{kind_of}
use Rattle.pli_entries.proofs.Served.{in_memory, measured_is, served_as, stored_is}
use Rattle.pli_entries.proofs.entries.Entries.store.Goals.{then-mode-eq2-via-then-mode-eq2, then-mode-eq2-via-else-mode-eq2+then-mode-eq3}
use Rattle.pli_entries.proofs.entries.Entries.store.Goals as goal

pub returns-then-mode-eq2-clause-served : goal.returns-then-mode-eq2-clause-served
returns-then-mode-eq2-clause-served c = λ call f m e.
    let mode = c.args.mode in
    let is : ((mode == 2) || (mode == 3)) ≡ true = elim c.then-mode-eq2.branch [
      | then-mode-eq2-via-then-mode-eq2 w ↦ grind (arith, nat_tests, w.if-mode-eq2.true)
      | then-mode-eq2-via-else-mode-eq2+then-mode-eq3 w ↦ grind (arith, nat_tests, w.if-mode-eq3.true)
    ] in
    in_memory call c.args.at c.args.most _ _ _ _ _ m
    (served_as call c.args.at _ _ _ _ _ _ (measured_is call c.args.at c.args.most mode is) (c.measure.ensures call c.args.at c.args.most e))

pub returns-clause-served : goal.returns-clause-served
returns-clause-served c = λ call f m e.
    let mode = c.args.mode in
    let is : ((mode == 2) || (mode == 3)) ≡ false = grind (arith, nat_tests, c.if-mode-eq2.false, c.if-mode-eq3.false) in
    served_as call c.args.at _ _ _ _ _ _ (stored_is call c.args.at c.args.most mode (kind_of c.in-Some.kind) is c.in-Some.ensures) (c.store_as.ensures.served call c.args.at c.args.most f m e)
