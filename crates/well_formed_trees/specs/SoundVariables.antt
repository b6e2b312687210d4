-- More of what is so of each declared variable, where the table of blocks has what is around its block.
use Rattle.std.specs.Prelude.{◌≡◌, ℕ, List, [], length, slice_get, Some}
use Rattle.pli_language.specs.declared.token.Token.{Token}
use Rattle.pli_language.specs.Tokens.{Tokens}
use Rattle.pli_language.specs.Tree as T
use Rattle.pli_language.specs.Parsing.{Spells}
use Rattle.pli_language.specs.Declaring.{declaring_faults}
use Rattle.pli_typing.specs.TypedTree as Y
use Rattle.pli_typing.specs.Resolving.{typing_faults, typed_tree}
use Rattle.well_formed_trees.specs.Every.{Every}
use Rattle.well_formed_trees.specs.Surroundings.{Around, Where, NoReturn, variables_of_block}
use Rattle.well_formed_trees.specs.Expressions.{SoundNumber}
use Rattle.well_formed_trees.specs.Declarations.{IsLeaf, IsCheck}
use Rattle.well_formed_trees.specs.Held.{table_of}

-- so is each variable of a block of an accepted source, with its block around
abbrev pub AcceptedSoVariables : (Where → Y.DeclaredVariable → Type 0) → Type 0
AcceptedSoVariables P =
    (s : List ℕ) (tokens : List Token) (tree : T.Tree) → Tokens s tokens → Spells s tokens tree
    → declaring_faults tree ≡ [] → typing_faults tree ≡ [] → (number : ℕ) (around : List Around)
    → slice_get (table_of tree) number ≡ Some around
    → Every (P (record {
      program = typed_tree tree;
      table = table_of tree;
      around = around;
      returning = NoReturn;
    })) (variables_of_block (typed_tree tree) number)

-- what is evaluated for extents is a sound number
abbrev pub HasSoundValues : Where → Y.DeclaredVariable → Type 0
HasSoundValues w d = Every (λ e. SoundNumber w e.value) d.evaluations

abbrev pub AcceptedEvaluations : Type 0
AcceptedEvaluations = AcceptedSoVariables HasSoundValues

-- each leaf is of its kind, with bounds and values of INITIAL in range, as the variable's class lets it be
abbrev pub HasSoundLeaves : Where → Y.DeclaredVariable → Type 0
HasSoundLeaves w d = Every (IsLeaf w d.class (length d.evaluations)) d.leaves

abbrev pub AcceptedLeaves : Type 0
AcceptedLeaves = AcceptedSoVariables HasSoundLeaves

-- what is checked behind an evaluation is a constant or evaluated
abbrev pub HasSoundChecks : Y.DeclaredVariable → Type 0
HasSoundChecks d = Every (λ e. IsCheck (length d.evaluations) e.check) d.evaluations

abbrev pub AcceptedChecks : Type 0
AcceptedChecks =
    (s : List ℕ) (tokens : List Token) (tree : T.Tree) → Tokens s tokens → Spells s tokens tree
    → declaring_faults tree ≡ [] → typing_faults tree ≡ [] → (number : ℕ)
    → Every HasSoundChecks (variables_of_block (typed_tree tree) number)
