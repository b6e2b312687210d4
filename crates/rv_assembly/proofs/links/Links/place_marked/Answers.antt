use Rattle.std.proofs.Common.{map}
use Rattle.rv_assembly.specs.contracts.item.SymbolPartialEq.TheImpl as symbol
use Rattle.rv_assembly.specs.Marks.{mark_of}
use Rattle.rv_assembly.proofs.Finding.{marks_answer}
use Rattle.rv_assembly.proofs.Same.{same_symbols}
use Rattle.rv_assembly.proofs.links.Links.place_marked.Goals as goal

pub returns-in-Some : goal.returns-in-Some
returns-in-Some c =
    marks_answer (λ a b. symbol.ghosts.eq a.now b.now) (λ a b. same_symbols a.now b.now) c.args.self.now.mark_index (map mark_of c.args.self.now.marks.items) c.args.symbol _ c.args.self.now.finds_marks c.in-Some.ensures.value

pub returns-in-None : goal.returns-in-None
returns-in-None c =
    marks_answer (λ a b. symbol.ghosts.eq a.now b.now) (λ a b. same_symbols a.now b.now) c.args.self.now.mark_index (map mark_of c.args.self.now.marks.items) c.args.symbol _ c.args.self.now.finds_marks c.in-None.ensures.value
