use Rattle.std.proofs.Common.{length, sym, ap, ◌∙◌, List, Option, Vec}
use Rattle.std.specs.declared.alloc.Global.{Global}
use Rattle.pli_typing.specs.declared.typed.Variable.{Variable as VariableHeld}
use Rattle.pli_typing.specs.TypedTree as Y
use Rattle.pli_variables.specs.Rows.{blocks_shown, row_shown, variable_row}
use Rattle.pli_variables.proofs.Tabled.{variables_truly, row_found, count_found, row_missing}
use Rattle.pli_variables.proofs.meant.Meant.row.Goals as goal

pub returns-then-block-self : goal.returns-then-block-self
returns-then-block-self c =
    let m = c.args.self.now in
    let shown : Vec (Option VariableHeld) Global → List (Option Y.Variable) = λ v. row_shown v.items in
    ap row_shown c.deref.ensures.value ∙ ap shown (sym c.index-self-block.is)
    ∙ row_found shown m.variables.now (variable_row (blocks_shown m.scopes.now)) (length (blocks_shown m.scopes.now)) c.args.block c.index-self-block.result (variables_truly _ _ m.exact) c.if-block-self.true c.index-self-block.is

pub returns : goal.returns
returns c =
    let m = c.args.self.now in
    let blocks = blocks_shown m.scopes.now in
    sym (row_missing blocks c.args.block (count_found (λ (v : Vec (Option VariableHeld) Global). row_shown v.items) m.variables.now (variable_row blocks) (length blocks) c.args.block (variables_truly _ _ m.exact) c.if-block-self.false))
