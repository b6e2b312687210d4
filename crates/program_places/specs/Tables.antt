-- The table of a program keeps the rules of tables if the signature of each of its variables does.
use Rattle.std.specs.Prelude.{ℕ, ◌≤◌, ◌≡◌, List, [], ◌∷◌, None}
use Rattle.pli_language.specs.Tree.{InitialItem}
use Rattle.pli_typing.specs.TypedTree as Y
use Rattle.rv_meaning.specs.Tables.{IsSignature}
use Rattle.pli_coding.specs.SignatureTable.{signature_of, table_of}
use Rattle.well_formed_trees.specs.Every.{Every}
use Rattle.storage_relation.specs.Tables.{AreLeaves, AreRuled}

abbrev pub IsRuled : Y.DeclaredVariable → Type 0
IsRuled d = IsSignature (signature_of d) × AreLeaves (signature_of d).leaves

-- FIXED BINARY without dimensions, by itself
abbrev pub number_leaf : (precision : ℕ) → List InitialItem → Y.Leaf
number_leaf precision initial = record { type = Y.FixedLeaf precision; bounds = []; initial = initial }

pub record TablesRuled : Type 0 where
  pub all : (program : Y.Program) → Every (Every IsRuled) program.variables → AreRuled (table_of program)
  pub numbers :
      (d : Y.DeclaredVariable) (precision : ℕ) (initial : List InitialItem) → 1 ≤ precision → precision ≤ 31 →
      d.refer ≡ None → d.leaves ≡ number_leaf precision initial ∷ [] → IsRuled d
