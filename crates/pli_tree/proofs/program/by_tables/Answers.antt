use Rattle.std.proofs.Common.{◌∙◌, ap}
use Rattle.std.specs.Prelude.{None}
use Rattle.pli_language.specs.Refusals.{soonest}
use Rattle.pli_typing.specs.Resolving as Z
use Rattle.pli_language.specs.View.{items_of, tree_of}
use Rattle.pli_variables.specs.Rows.{blocks_shown}
use Rattle.pli_tree.specs.Shown.{context_of}
use Rattle.pli_tree.proofs.Blocks.{faults_are}
use Rattle.pli_tree.proofs.program.by_tables.Goals as goal

pub returns-clause-found : goal.returns-clause-found
returns-clause-found c =
    let is = items_of c.args.tree.now.procedures in
    let blocks = blocks_shown c.args.tables.now.scopes.now in
    let start = c.from-walked in
    let first =
    c.in_ok-statements.ensures.found
    ∙ ap (λ s. soonest s (Z.statements (context_of c.in_ok-context.context) start.result.next is).faults) start.ensures.found
    ∙ ap (λ k. soonest None (Z.statements k start.result.next is).faults) c.in_ok-context.ensures
    ∙ ap (λ n. soonest None (Z.statements (Z.outermost_context blocks) n is).faults) start.ensures.next
    in
    faults_are (tree_of c.args.tree.now) blocks c.statements.new.walked.found c.block_variables.new.found c.requires first c.in_ok-variables.ensures.faults
