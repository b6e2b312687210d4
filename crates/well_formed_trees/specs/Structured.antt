-- Part of what is so of each declared variable: its members are those of a structure, each of its leaves has as many
-- bounds as its member has dimensions, and an area is a variable by itself.
use Rattle.std.specs.Prelude.{◌≡◌, ℕ, List, [], length}
use Rattle.pli_language.specs.declared.token.Token.{Token}
use Rattle.pli_language.specs.Tokens.{Tokens}
use Rattle.pli_language.specs.Tree as T
use Rattle.pli_language.specs.Parsing.{Spells}
use Rattle.pli_language.specs.Declaring.{declaring_faults}
use Rattle.pli_typing.specs.TypedTree as Y
use Rattle.pli_typing.specs.Resolving.{typing_faults, typed_tree}
use Rattle.well_formed_trees.specs.Every.{Every}
use Rattle.well_formed_trees.specs.Members.{leaves_among, all_dimensions}
use Rattle.well_formed_trees.specs.Surroundings.{variables_of_block}
use Rattle.well_formed_trees.specs.Declarations.{AreMembers, HaveBounds, leaf_dimensions, AreasAlone}

pub record IsStructured (d : Y.DeclaredVariable) : Type 0 where
  pub members : AreMembers d.members
  pub many : leaves_among d.members ≡ length d.leaves
  pub dimensions : HaveBounds d.leaves (leaf_dimensions d.members (all_dimensions d.members))
  pub areas : AreasAlone d

-- the law: so is each variable of an accepted source
abbrev pub AcceptedVariables : Type 0
AcceptedVariables =
    (s : List ℕ) (tokens : List Token) (tree : T.Tree) → Tokens s tokens → Spells s tokens tree
    → declaring_faults tree ≡ [] → typing_faults tree ≡ [] → (number : ℕ)
    → Every IsStructured (variables_of_block (typed_tree tree) number)
