-- The places of what a tree declares, in source order: of labels, of procedures, and of the names in DECLARE.
use Rattle.std.specs.Prelude.{◌≡◌, ℕ, ◌<◌, List, [], ◌∷◌, ◌++◌, map, ⊤, ◌⊎◌}
use Rattle.pli_language.specs.declared.expr.Place.{Place}
use Rattle.pli_language.specs.declared.token.Token.{Token}
use Rattle.pli_language.specs.Tokens.{Tokens}
use Rattle.pli_language.specs.Parsing.{Spells}
use Rattle.pli_language.specs.Tree as T
use Rattle.well_formed_trees.specs.Every.{Every}

abbrev pub IsBefore : Place → Place → Type 0
IsBefore p q = (p.line < q.line) ⊎ ((p.line ≡ q.line) × (p.column < q.column))

-- each stands before all that follow it, so no two are the same
abbrev pub AreRising : List Place → Type 0
AreRising [] = ⊤
AreRising (p ∷ ps) = Every (IsBefore p) ps × AreRising ps

abbrev pub name_places : List T.Name → List Place
name_places names = map (λ n. n.place) names

abbrev pub declared_places : List T.DeclareItem → List Place
declared_places [] = []
declared_places (d ∷ ds) = map (λ n. n.name.place) d.names ++ declared_places ds

abbrev mutual
  pub places_in : T.Items → List Place
  places_in T.NoItem = []
  places_in (T.ItemThen i is) = item_places i ++ places_in is

  pub item_places : T.Item → List Place
  item_places (T.Procedure head body) = name_places head.labels ++ head.place ∷ places_in body
  item_places (T.Declare items place) = declared_places items
  item_places (T.Statement labels s) = name_places labels ++ stmt_places s
  item_places (T.EndLabels labels place) = name_places labels

  pub stmt_places : T.Stmt → List Place
  stmt_places (T.If e unit place) = stmt_places unit
  stmt_places (T.IfElse e unit otherwise place) = stmt_places unit ++ stmt_places otherwise
  stmt_places (T.Do body place) = places_in body
  stmt_places (T.DoWhile e body place) = places_in body
  stmt_places (T.DoCount c body place) = places_in body
  stmt_places (T.Begin body place) = places_in body
  stmt_places (T.OnUnit on unit place) = stmt_places unit
  stmt_places _ = []

-- the law: what is declared stands in source order
abbrev pub PlacesKept : Type 0
PlacesKept =
    (s : List ℕ) (tokens : List Token) (tree : T.Tree) → Tokens s tokens → Spells s tokens tree
    → AreRising (places_in tree.procedures)
