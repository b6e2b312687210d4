use Rattle.std.proofs.Common.{◌≡◌, [], Option, inr, subst}
use Rattle.std.specs.Prelude.{MatchOption}
use Rattle.pli_language.specs.declared.fault.SourceFault.{SourceFault}
use Rattle.pli_typing.specs.Resolving as Z
use Rattle.pli_typing.specs.TypedStatementView.{program_of}
use Rattle.pli_language.specs.View.{tree_of}
use Rattle.pli_tree.proofs.Blocks.{found_least, resolved_is}
use Rattle.pli_tree.proofs.program.resolve.Goals as goal

pub returns-in-Some-clause-refused : goal.returns-in-Some-clause-refused
returns-in-Some-clause-refused c =
    let tree = tree_of c.args.tree.now in
    inr (subst (λ (o : Option SourceFault). MatchOption o (Z.typing_faults tree ≡ []) (Z.IsMistyped tree)) c.in-Some.is (found_least tree c.in-Ok.judged.found c.in-Ok.ensures.found))

pub returns-clause-typed : goal.returns-clause-typed
returns-clause-typed c =
    let tree = tree_of c.args.tree.now in
    resolved_is tree (program_of c.in-Ok.judged.typed) c.in-Ok.ensures.typed (subst (λ (o : Option SourceFault). MatchOption o (Z.typing_faults tree ≡ []) (Z.IsMistyped tree)) c.in-None.is (found_least tree c.in-Ok.judged.found c.in-Ok.ensures.found))
