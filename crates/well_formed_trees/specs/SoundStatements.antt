-- What `SoundStmt` says of the expressions of a statement by itself.
use Rattle.std.specs.Prelude.{◌≡◌, List, [], None, ⊤}
use Rattle.pli_language.specs.declared.token.Token.{Token}
use Rattle.pli_language.specs.Tokens.{Tokens}
use Rattle.pli_language.specs.Tree as T
use Rattle.pli_language.specs.Parsing.{Spells}
use Rattle.pli_language.specs.Declaring.{declaring_faults}
use Rattle.pli_typing.specs.TypedTree as Y
use Rattle.pli_typing.specs.Assigning.{holds_fixed}
use Rattle.pli_typing.specs.Resolving.{typing_faults, typed_tree}
use Rattle.std.specs.Prelude.{ℕ}
use Rattle.well_formed_trees.specs.Every.{Every}
use Rattle.well_formed_trees.specs.Surroundings.{Where, IsArea, IsTarget}
use Rattle.well_formed_trees.specs.Expressions.{Fits, Gives, SoundNumber, SoundBit, SoundReference, SoundCall}
use Rattle.well_formed_trees.specs.Expressions.{SoundStored, SoundComputational}
use Rattle.well_formed_trees.specs.Statements.{IsAssigned, AreAssigned, AreAlike, SoundCounter, SoundNumberIf}
use Rattle.well_formed_trees.specs.Statements.{SoundBitIf, SoundAllocation, SoundFreeing, SoundGetItem, SoundPutItem}
use Rattle.well_formed_trees.specs.WellFormed.{SoundProcedure}
use Rattle.well_formed_trees.specs.Held.{table_of}

abbrev pub IsSoundAlone : Where → Y.Stmt → Type 0
IsSoundAlone w (Y.Assign target source line) =
    IsAssigned w target source × (SoundReference w target × SoundStored w source)
IsSoundAlone w (Y.AssignElements target source line) =
    AreAssigned w target source × (SoundReference w target × SoundStored w source)
IsSoundAlone w (Y.AssignAggregate target source line) =
    AreAlike w target source × (SoundReference w target × SoundReference w source)
IsSoundAlone w (Y.AssignArea target source line) = IsArea w target × IsArea w source
IsSoundAlone w (Y.EmptyArea target line) = IsArea w target
IsSoundAlone w (Y.If condition unit line) = SoundBit w condition
IsSoundAlone w (Y.IfElse condition unit otherwise line) = SoundBit w condition
IsSoundAlone w (Y.DoWhile condition body line) = SoundBit w condition
IsSoundAlone w (Y.DoOnce target start condition body line) =
    (IsAssigned w target start × (SoundReference w target × SoundStored w start)) × SoundBitIf w condition
IsSoundAlone w (Y.DoCount counter start limit step condition body line) =
    (SoundCounter w counter × (SoundComputational w start × (SoundNumberIf w limit × SoundNumber w step)))
    × SoundBitIf w condition
IsSoundAlone w (Y.CallProcedure c line) = Gives (λ t. t ≡ None) w c × SoundCall w c
IsSoundAlone w (Y.ReturnValue type s line) = Fits type s × SoundStored w s
IsSoundAlone w (Y.Goto level label line) = IsTarget level label w.around
IsSoundAlone w (Y.Allocate allocations line) = Every (SoundAllocation w) allocations
IsSoundAlone w (Y.Free freeings line) = Every (SoundFreeing w) freeings
IsSoundAlone w (Y.Get skip pairs line) = Every (λ p. Every (SoundGetItem w (holds_fixed p.formats)) p.items) pairs
IsSoundAlone w (Y.Put skip pairs line) = Every (λ p. Every (SoundPutItem w) p.items) pairs
IsSoundAlone w _ = ⊤

-- the law: each procedure of an accepted source is sound, with all its statements and expressions
abbrev pub AcceptedProcedures : Type 0
AcceptedProcedures =
    (s : List ℕ) (tokens : List Token) (tree : T.Tree) → Tokens s tokens → Spells s tokens tree
    → declaring_faults tree ≡ [] → typing_faults tree ≡ []
    → Every (SoundProcedure (table_of tree) (typed_tree tree)) (typed_tree tree).procedures
