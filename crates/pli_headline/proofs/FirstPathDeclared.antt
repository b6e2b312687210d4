-- What a tree of the first path declares: names, each a FIXED BINARY(31) that stands alone.
use Rattle.std.proofs.Common.{◌≡◌, ℕ, List, [], ◌∷◌, ◌++◌, map, length, All, Option, None, refl, sym, ap, ◌∙◌, subst, flat_map}
use Rattle.std.proofs.lemmas.List.{map-append, length-map}
use Rattle.std.proofs.lemmas.List.Elements.{All-head, All-tail}
use Rattle.pli_language.specs.Tree as T
use Rattle.pli_language.specs.Declarations.{Variable, Held, Declaration, variables_of, variable_declared, held, declared_by, declared_in, declared_in_item, declared_in_stmt}
use Rattle.pli_headline.specs.FirstPathTrees.{Names, IsStatement, AreStatements, wide_fixed, IsScalar, DeclaresNumbers, names_in, names_of, IsBody}

-- a name, with the names of the item that declares it
abbrev pub Named : Type 0
Named = T.Name × List T.DeclaredName

abbrev pub plain_name : T.Name → T.DeclaredName
plain_name n = record { name = n; dimensions = [] }

abbrev pub plain_item : List T.DeclaredName → T.DeclareItem
plain_item ds = record { level = None; names = ds; dimensions = []; attributes = wide_fixed }

abbrev pub plain_variable : Named → Variable
plain_variable n = record { declared = plain_name n.0; item = plain_item n.1 }

abbrev pub plain_held : Named → Held
plain_held n = record { variable = plain_variable n; above = [] }

abbrev pub letters_of : List Named → Names
letters_of ns = map (λ n. n.0.letters) ns

abbrev pub variables_among : List Named → List Variable
variables_among ns = map plain_variable ns

abbrev pub helds_among : List Named → List Held
helds_among ns = map plain_held ns

abbrev pub declarations_among : List Named → List Declaration
declarations_among ns = map (λ n. variable_declared (plain_held n)) ns

-- ---- lists of names

declared_again : (ns : List Named) → map variable_declared (helds_among ns) ≡ declarations_among ns
declared_again [] = refl
declared_again (n ∷ ns) = ap (λ ds. variable_declared (plain_held n) ∷ ds) (declared_again ns)

-- nothing holds a variable without a level
held_alone : (chain : List Variable) (ns : List Named) → held chain (variables_among ns) ≡ helds_among ns
unfolding held
held_alone chain [] = refl
held_alone chain (n ∷ ns) = ap (λ hs. plain_held n ∷ hs) (held_alone (plain_variable n ∷ []) ns)

-- ---- items

abbrev named_among : (all ds : List T.DeclaredName) → List Named
named_among all ds = map (λ d. (d.name, all)) ds

abbrev named_in : List T.DeclareItem → List Named
named_in items = flat_map (λ (i : T.DeclareItem). named_among i.names i.names) items

abbrev letters_among : List T.DeclaredName → Names
letters_among ds = map (λ (d : T.DeclaredName). d.name.letters) ds

names_letters : (all ds : List T.DeclaredName) → letters_among ds ≡ letters_of (named_among all ds)
names_letters all [] = refl
names_letters all (d ∷ ds) = ap (λ ls. d.name.letters ∷ ls) (names_letters all ds)

items_letters : (items : List T.DeclareItem) → names_in items ≡ letters_of (named_in items)
items_letters [] = refl
items_letters (i ∷ is) =
    ap (λ ls. ls ++ names_in is) (names_letters i.names i.names)
    ∙ ap (λ ls. letters_of (named_among i.names i.names) ++ ls) (items_letters is)
    ∙ sym (map-append (λ (n : Named). n.0.letters) (named_among i.names i.names) (named_in is))

abbrev with_item : T.DeclareItem → List T.DeclaredName → List Variable
with_item item ds = map (λ d. record { declared = d; item = item }) ds

names_variables : (all ds : List T.DeclaredName) → All IsScalar ds → with_item (plain_item all) ds ≡ variables_among (named_among all ds)
names_variables all [] h = refl
names_variables all (d ∷ ds) h =
    ap (λ (bs : List T.Bound). record { declared = record { name = d.name; dimensions = bs }; item = plain_item all } ∷ with_item (plain_item all) ds) (All-head IsScalar d ds h)
    ∙ ap (λ vs. plain_variable (d.name, all) ∷ vs) (names_variables all ds (All-tail IsScalar d ds h))

item_plain : (item : T.DeclareItem) → DeclaresNumbers item → item ≡ plain_item item.names
item_plain item h =
    ap (λ (l : Option ℕ). record { level = l; names = item.names; dimensions = item.dimensions; attributes = item.attributes }) h.no_level
    ∙ ap (λ (bs : List T.Bound). record { level = None; names = item.names; dimensions = bs; attributes = item.attributes }) h.no_dimensions
    ∙ ap (λ (all : List T.Attribute). record { level = None; names = item.names; dimensions = []; attributes = all }) h.attributes_are

item_variables : (item : T.DeclareItem) → DeclaresNumbers item → variables_of item ≡ variables_among (named_among item.names item.names)
item_variables item h =
    ap (λ i. with_item i item.names) (item_plain item h) ∙ names_variables item.names item.names h.scalars

items_variables : (items : List T.DeclareItem) → All DeclaresNumbers items → flat_map variables_of items ≡ variables_among (named_in items)
items_variables [] h = refl
items_variables (i ∷ is) h =
    ap (λ vs. vs ++ flat_map variables_of is) (item_variables i (All-head DeclaresNumbers i is h))
    ∙ ap (λ vs. variables_among (named_among i.names i.names) ++ vs) (items_variables is (All-tail DeclaresNumbers i is h))
    ∙ sym (map-append plain_variable (named_among i.names i.names) (named_in is))

items_declare : (items : List T.DeclareItem) → All DeclaresNumbers items → declared_by items ≡ declarations_among (named_in items)
items_declare items h =
    ap (λ vs. map variable_declared (held [] vs)) (items_variables items h)
    ∙ ap (λ hs. map variable_declared hs) (held_alone [] (named_in items))
    ∙ declared_again (named_in items)

-- ---- bodies

abbrev named_of : T.Items → List Named
named_of (T.ItemThen (T.Declare items at) rest) = named_in items ++ named_of rest
named_of items = []

body_letters : (items : T.Items) → names_of items ≡ letters_of (named_of items)
body_letters (T.ItemThen (T.Declare ds at) rest) =
    ap (λ ls. ls ++ names_of rest) (items_letters ds)
    ∙ ap (λ ls. letters_of (named_in ds) ++ ls) (body_letters rest)
    ∙ sym (map-append (λ (n : Named). n.0.letters) (named_in ds) (named_of rest))
body_letters T.NoItem = refl
body_letters (T.ItemThen (T.Statement ls s) rest) = refl
body_letters (T.ItemThen (T.Procedure head body) rest) = refl
body_letters (T.ItemThen (T.EndLabels ls at) rest) = refl

-- statements declare nothing
no_declaration : (names : Names) (s : T.Stmt) → IsStatement names s → declared_in_stmt s ≡ []
unfolding declared_in_stmt
no_declaration names (T.Assign target source place) h = refl
no_declaration names (T.Put None (p ∷ []) place) h = refl
no_declaration names _ h = absurd h

no_declarations : (names : Names) (items : T.Items) → AreStatements names items → declared_in items ≡ []
unfolding declared_in declared_in_item
no_declarations names T.NoItem h = refl
no_declarations names (T.ItemThen (T.Statement [] s) rest) h =
    ap (λ ds. ds ++ declared_in rest) (no_declaration names s h.0) ∙ no_declarations names rest h.1
no_declarations names _ h = absurd h

body_declares : (names : Names) (items : T.Items) → IsBody names items → declared_in items ≡ declarations_among (named_of items)
unfolding declared_in declared_in_item
body_declares names (T.ItemThen (T.Declare ds at) rest) h =
    ap (λ all. all ++ declared_in rest) (items_declare ds h.0)
    ∙ ap (λ all. declarations_among (named_in ds) ++ all) (body_declares names rest h.1)
    ∙ sym (map-append (λ n. variable_declared (plain_held n)) (named_in ds) (named_of rest))
body_declares names T.NoItem h = refl
body_declares names (T.ItemThen (T.Statement ls s) rest) h = no_declarations names (T.ItemThen (T.Statement ls s) rest) h
body_declares names (T.ItemThen (T.Procedure head body) rest) h = absurd h
body_declares names (T.ItemThen (T.EndLabels ls at) rest) h = absurd h

pub record Body (items : T.Items) : Type 0 where
  pub names : List Named
  pub declares : declared_in items ≡ declarations_among names
  pub holds : IsBody (letters_of names) items
  pub counted : length (names_of items) ≡ length names

pub body_of : (items : T.Items) → IsBody (names_of items) items → Body items
body_of items h =
    let e = body_letters items in
    record {
      names = named_of items;
      declares = body_declares (names_of items) items h;
      holds = subst (λ ns. IsBody ns items) e h;
      counted = ap (λ ls. length ls) e ∙ length-map (named_of items) (λ (n : Named). n.0.letters);
    }
