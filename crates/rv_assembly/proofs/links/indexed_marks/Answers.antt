use Rattle.std.proofs.Common.{List, map, take, sym, ap, subst}
use Rattle.std.proofs.lemmas.List.{take_all}
use Rattle.pli_coding.specs.Linking.{MarkedPlace}
use Rattle.rv_assembly.specs.contracts.item.SymbolPartialEq.TheImpl as symbol
use Rattle.rv_assembly.specs.Marks.{mark_of}
use Rattle.rv_assembly.specs.Found.{FindsMarks}
use Rattle.rv_assembly.proofs.Same.{same_symbols}
use Rattle.rv_assembly.proofs.Finding.{marks_put, marks_none, shown_to}
use Rattle.rv_assembly.proofs.links.indexed_marks.Goals as goal

pub loop-mark-init : goal.loop-mark-init
loop-mark-init c = marks_none c.new-index.result c.new-index.ensures.empty

pub loop-mark-preserved : goal.loop-mark-preserved
loop-mark-preserved c =
    let i = c.loop-mark.mark-index in
    let all = c.args.marks.now in
    let m = c.mark-item.result in
    subst (λ (ms : List MarkedPlace). FindsMarks c.insert_first.new.places ms) (sym (shown_to mark_of all i m c.loop-mark-test.true c.mark-item.is))
    (marks_put (λ a b. symbol.ghosts.eq a.now b.now) (λ a b. same_symbols a.now b.now) c.loop-mark.index c.insert_first.new.places m.symbol m.place (map mark_of (take i all)) c.in_ok-insert_first.ensures c.loop-mark.invariant)

pub returns : goal.returns
returns c =
    subst (λ (ms : List MarkedPlace). FindsMarks c.loop-mark.index ms) (ap (map mark_of) (take_all c.loop-mark.mark-index c.args.marks.now c.loop-mark-test.false)) c.loop-mark.invariant
