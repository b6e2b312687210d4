-- What a listing names is the code of the source's program.
use Rattle.std.proofs.Common.{◌≡◌, ℕ, List, [], map, ◌∙◌, ap, append_assoc, append-nil}
use Rattle.std.proofs.lemmas.List.{drop_all, map-append}
use Rattle.pli_declare.proofs.Chains.{drop_here}
use Rattle.pli_language.specs.Declarations.{Block, blocks_of}
use Rattle.pli_language.specs.Declaring.{declaring_faults}
use Rattle.pli_language.specs.Tree as T
use Rattle.pli_coding.specs.Assembly.{Item}
use Rattle.pli_compile.specs.Compiling.{IsParsed}
use Rattle.pli_compile.specs.Naming.{IsNamed, IsTreeNamed, block_letters}
use Rattle.pli_compile.proofs.Compiled.{program_known}

-- a loop over the blocks
pub ruleset gathered = (drop_here, drop_all, append_assoc, append-nil, map-append)

pub named : {s : List ℕ} {count : ℕ} {tree : T.Tree} {code : List Item} {names : List (List ℕ)} {blocks : List Block} → IsParsed s count tree → declaring_faults tree ≡ [] → IsTreeNamed tree code
    → blocks ≡ blocks_of tree → names ≡ map block_letters blocks → IsNamed s code names
named parsed declares made are lettered =
    record {
      program = made.0;
      source = program_known parsed declares made.1;
      coded = made.2;
      named = lettered ∙ ap (map block_letters) are;
    }
