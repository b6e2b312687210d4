-- Laws of the definitions, each of which a function of `src/laws.rt` carries.
use Rattle.std.specs.Prelude.{◌≡◌, ℕ, List, Option}
use Rattle.pli_language.specs.declared.fault.SourceFault.{SourceFault}
use Rattle.pli_language.specs.declared.token.Token.{Token}
use Rattle.pli_language.specs.Tree.{Tree}
use Rattle.pli_language.specs.Nesting.{outermost}
use Rattle.pli_language.specs.Parsing.{Reads, Spells, RefusesTokens}

-- a token list spells at most one tree
abbrev pub SpelledOnce : Type 0
SpelledOnce = (source : List ℕ) (tokens : List Token) (tree tree' : Tree) → Spells source tokens tree → Spells source tokens tree' → tree ≡ tree'

-- a token list is read one way: all its readings have the same refusals, and the same tree or none
abbrev pub ReadOnce : Type 0
ReadOnce = (source : List ℕ) (tokens : List Token) (faults faults' : List SourceFault) (found found' : Option Tree) → Reads source outermost tokens faults found → Reads source outermost tokens faults' found' → (faults ≡ faults') × (found ≡ found')

-- no token list both spells a tree and is refused
abbrev pub NeverBoth : Type 0
NeverBoth = (source : List ℕ) (tokens : List Token) (tree : Tree) (f : SourceFault) → Spells source tokens tree → ¬ RefusesTokens source tokens f
