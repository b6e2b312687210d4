-- What a whole program breaks, put together.
use Rattle.std.proofs.Common.{◌≡◌, List, [], ◌++◌, map, Option, None, sym, ap, ◌∙◌, subst}
use Rattle.std.specs.Prelude.{MatchOption}
use Rattle.std.specs.List.{flat_map}
use Rattle.pli_language.specs.declared.fault.SourceFault.{SourceFault}
use Rattle.pli_language.specs.Tree.{Tree}
use Rattle.pli_language.specs.Declarations.{Block, blocks_of}
use Rattle.pli_language.specs.Declaring.{block_faults, declaring_faults, main_faults, outer_procedures, static_faults, statics_in}
use Rattle.pli_language.specs.Refusals.{IsLeast, least, soonest}
use Rattle.pli_language.proofs.Least.{least_found, soonest-append}
use Rattle.pli_declare.specs.declared.scope.Block.{Block as BlockHeld}
use Rattle.pli_declare.specs.ShownBlocks.{block_of}
use Rattle.pli_declaring.proofs.Storing.{statics_capped}

pub ruleset whole = (soonest-append, statics_capped)

-- all that a program with these blocks breaks
abbrev pub faults_with : Tree → List Block → List SourceFault
faults_with tree blocks = main_faults (outer_procedures tree.procedures) ++ flat_map block_faults blocks ++ static_faults (flat_map (λ b. statics_in b.declarations) blocks)

pub found_least : (tree : Tree) (os bs : List BlockHeld) (f o : Option SourceFault) → f ≡ o → f ≡ soonest None (faults_with tree (map block_of os)) → os ≡ bs → map block_of bs ≡ blocks_of tree → MatchOption o (declaring_faults tree ≡ []) (IsLeast (declaring_faults tree))
found_least tree os bs f o e h g b =
    let whole : o ≡ least (declaring_faults tree) = sym e ∙ h ∙ ap (λ (u : List BlockHeld). soonest None (faults_with tree (map block_of u))) g ∙ ap (λ u. soonest None (faults_with tree u)) b in
    subst (λ (p : Option SourceFault). MatchOption p (declaring_faults tree ≡ []) (IsLeast (declaring_faults tree))) (sym whole) (least_found (declaring_faults tree))
