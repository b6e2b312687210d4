-- The table of an accepted source has no more words than its names allow.
use Rattle.std.proofs.Common.{◌≡◌, ℕ, ◌+◌, ◌*◌, ◌≤◌, Bool, true, false, not, ◌&&◌, List, [], ◌∷◌, ◌++◌, map, length}
use Rattle.std.proofs.Common.{Option, Some, None, if◌then◌else◌, refl, sym, ap, subst, arith}
use Rattle.std.specs.Prelude.{slice_get, unwrap_or}
use Rattle.std.specs.List.{flat_map}
use Rattle.pli_language.specs.declared.token.Token.{Token}
use Rattle.pli_language.specs.Tokens.{Tokens}
use Rattle.pli_language.specs.Parsing.{Spells}
use Rattle.pli_language.specs.Tree as T
use Rattle.pli_language.specs.Declarations.{Variable, variables_of, Held, What, Variable', Label, ProcedureName}
use Rattle.pli_language.specs.Declarations.{Declaration, Block, blocks_in, blocks_of}
use Rattle.pli_language.specs.Declaring.{has, own_attributes, stands_alone, is_deeper, declaring_faults}
use Rattle.pli_language.specs.Means.{declarations_of}
use Rattle.pli_typing.specs.TypedTree as Y
use Rattle.pli_typing.specs.Judging.{Scope, each}
use Rattle.pli_typing.specs.Converting.{no_variable}
use Rattle.pli_typing.specs.Generations.{declared_with, declared_variable, declared_variables}
use Rattle.pli_typing.specs.Variables.{leaves_in, members_first, member_then, variable_then, variables_in}
use Rattle.pli_typing.specs.Variables.{variable_meant, declarations_at, leaf_of, written_extents}
use Rattle.pli_typing.specs.Resolving.{typing_faults, typed_tree}
use Rattle.pli_meaning.specs.DeclaredShapes.{variables_of_block}
use Rattle.rv_meaning.specs.Tables.{TableSignature, pairs_words, leaf_words, leaves_words, signature_words}
use Rattle.rv_meaning.specs.Tables.{table_words}
use Rattle.pli_coding.specs.SignatureTable.{pair_of, leaf_of_type, table_leaf, signature_of, same_signature}
use Rattle.pli_coding.specs.SignatureTable.{with_signature, with_signatures}
use Rattle.tree_tokens.specs.TreeTokens.{commas_before, name_tokens, names_tokens, declare_tokens}
use Rattle.well_formed_trees.specs.Every.{Every}
use Rattle.well_formed_trees.specs.Held as H
use Rattle.well_formed_trees.specs.Surroundings.{Around}
use Rattle.well_formed_trees.proofs.Lists.{every_map}
use Rattle.well_formed_trees.proofs.BlocksHeld.{table_kept}
use Rattle.well_formed_trees.proofs.LeavesSound.{accepted_leaves}
use Rattle.well_formed_trees.proofs.ParameterVariables.{block_variables_are}
use Rattle.well_formed_trees.proofs.Places.{HasAt, has_end}
use Rattle.well_formed_trees.proofs.ProgramNumbers.{lists_kept, outermost_kept}
use Rattle.well_formed_trees.proofs.StructuredVariables.{none_behind}
use Rattle.tree_tokens.proofs.Nests.{trees_spelled}
use Rattle.program_lengths.specs.Declares.{declaring_tokens}
use Rattle.program_lengths.specs.TableLengths.{TablesShort, TablesFit}
use Rattle.program_lengths.proofs.StatementLengths.{declares_most}
use Rattle.program_lengths.proofs.DeclaredSums.{variables_sum, what_sum, declarations_sum, blocks_sum, variables_split}
use Rattle.program_lengths.proofs.DeclaredSums.{list_summed}
use Rattle.program_lengths.proofs.ProgramLengths.{inner_blocks}

-- ---- the words of a signature

pairs_most : (bs : List Y.Bounds) → length (pairs_words (map pair_of bs)) ≡ 2 * length bs
pairs_most [] = refl
pairs_most (b ∷ bs) = let more = pairs_most bs in omega (arith, more)

mapped : {X Z : Type 0} (f : X → Z) (xs : List X) → length (map f xs) ≡ length xs
mapped f [] = refl
mapped f (x ∷ xs) = let more = mapped f xs in omega (arith, more)

typed_most : (bs : List Y.Bounds) (t : Y.LeafType) → length (leaf_words (leaf_of_type bs t)) ≡ 3 + 2 * length bs
typed_most bs (Y.FixedLeaf precision) = let pairs = pairs_most bs in omega (arith, pairs)
typed_most bs (Y.CharacterLeaf e) = let pairs = pairs_most bs in omega (arith, pairs)
typed_most bs (Y.VaryingLeaf e) = let pairs = pairs_most bs in omega (arith, pairs)
typed_most bs Y.BitLeaf = let pairs = pairs_most bs in omega (arith, pairs)
typed_most bs Y.PointerLeaf = let pairs = pairs_most bs in omega (arith, pairs)
typed_most bs (Y.OffsetLeaf area) = let pairs = pairs_most bs in omega (arith, pairs)
typed_most bs (Y.AreaLeaf e) = let pairs = pairs_most bs in omega (arith, pairs)

both_lengths : (xs ys : List ℕ) → length (xs ++ ys) ≡ length xs + length ys
both_lengths [] ys = omega arith
both_lengths (x ∷ xs) ys = let more = both_lengths xs ys in omega (arith, more)

abbrev IsFew : Y.Leaf → Type 0
IsFew l = length l.bounds ≤ 8

abbrev AreFew : Y.DeclaredVariable → Type 0
AreFew d = Every IsFew d.leaves

leaves_most : (ls : List Y.Leaf) → Every IsFew ls → length (leaves_words (map table_leaf ls)) ≤ 19 * length ls
leaves_most [] h = omega arith
leaves_most (l ∷ ls) h =
    let few = h.0 in
    let own = typed_most l.bounds l.type in
    let more = leaves_most ls h.1 in
    let all = both_lengths (leaf_words (table_leaf l)) (leaves_words (map table_leaf ls)) in
    omega (arith, few, own, more, all)

abbrev signature_length : Y.DeclaredVariable → ℕ
signature_length d = length (signature_words (signature_of d))

signature_most : (d : Y.DeclaredVariable) → AreFew d → signature_length d ≤ 3 + 19 * length d.leaves
signature_most d h = let leaves = leaves_most d.leaves h in omega (arith, leaves)

-- ---- the table has each signature once

abbrev signatures_length : List Y.DeclaredVariable → ℕ
signatures_length [] = 0
signatures_length (d ∷ ds) = signature_length d + signatures_length ds

with_most : (g : TableSignature) (table : List TableSignature)
    → length (table_words (with_signature g table)) ≤ length (signature_words g) + length (table_words table)
with_most g [] = let own = both_lengths (signature_words g) [] in omega (arith, own)
with_most g (h ∷ hs) = by (same_signature g h) (with_most g hs) where
  by : (b : Bool)
      → length (table_words (with_signature g hs)) ≤ length (signature_words g) + length (table_words hs)
      → length (table_words (if b then h ∷ hs else h ∷ with_signature g hs))
      ≤ length (signature_words g) + length (table_words (h ∷ hs))
  by true k = omega arith
  by false k =
      let own = both_lengths (signature_words h) (table_words (with_signature g hs)) in
      let all = both_lengths (signature_words h) (table_words hs) in
      omega (arith, k, own, all)

withs_most : (ds : List Y.DeclaredVariable) (table : List TableSignature)
    → length (table_words (with_signatures ds table)) ≤ signatures_length ds + length (table_words table)
withs_most [] table = omega arith
withs_most (d ∷ ds) table =
    let one = with_most (signature_of d) table in
    let more = withs_most ds (with_signature (signature_of d) table) in
    omega (arith, one, more)

signatures_split : (ds es : List Y.DeclaredVariable)
    → signatures_length (ds ++ es) ≡ signatures_length ds + signatures_length es
signatures_split [] es = omega arith
signatures_split (d ∷ ds) es = let more = signatures_split ds es in omega (arith, more)

abbrev lists_most : List (List Y.DeclaredVariable) → ℕ
lists_most [] = 0
lists_most (ds ∷ all) = signatures_length ds + lists_most all

flat_most : (all : List (List Y.DeclaredVariable)) → signatures_length (flat_map (λ ds. ds) all) ≡ lists_most all
flat_most [] = refl
flat_most (ds ∷ all) =
    let more = flat_most all in
    let both = signatures_split ds (flat_map (λ ds. ds) all) in
    omega (arith, more, both)

-- ---- the leaves of a variable are among its members

leaves_among : (hs : List Held) → length (leaves_in hs) ≤ length hs
leaves_among [] = omega arith
leaves_among (a ∷ []) = omega arith
leaves_among (a ∷ b ∷ more) = by (is_deeper a b) (leaves_among (b ∷ more)) where
  by : (x : Bool) → length (leaves_in (b ∷ more)) ≤ length (b ∷ more)
      → length (if x then leaves_in (b ∷ more) else a ∷ leaves_in (b ∷ more)) ≤ length (a ∷ b ∷ more)
  by true h = omega (arith, h)
  by false h = omega (arith, h)

with_leaves : (scope : Scope) (own : Y.Variable) (all : List Held)
    → length (declared_with scope own all).value.leaves ≤ length all
with_leaves scope own all =
    let among = leaves_among all in
    let same = mapped (leaf_of scope.blocks scope.block (written_extents all)) (leaves_in all) in
    omega (arith, among, same)

declared_leaves : (scope : Scope) (all : List Held)
    → length (declared_variable scope all).value.leaves ≤ length all
declared_leaves scope [] = with_leaves scope no_variable []
declared_leaves scope (h ∷ hs) = with_leaves scope (variable_meant scope.blocks scope.block h) (h ∷ hs)

-- ---- what blocks declare: two tokens for each name

abbrev two : Variable → ℕ
two v = 2

abbrev groups_length : List (List Held) → ℕ
groups_length [] = 0
groups_length (all ∷ vs) = (3 + 19 * length all) + groups_length vs

each_most : (scope : Scope) (vs : List (List Held)) → Every AreFew (each (declared_variable scope) vs).value
    → signatures_length (each (declared_variable scope) vs).value ≤ groups_length vs
each_most scope [] h = omega arith
each_most scope (all ∷ vs) h =
    let own = signature_most (declared_variable scope all).value h.0 in
    let leaves = declared_leaves scope all in
    let more = each_most scope vs h.1 in
    omega (arith, own, leaves, more)

variable_given : (w : What) (hs : List Held) (vs : List (List Held))
    → groups_length (variable_then w hs vs) + 19 * length (member_then w hs)
    ≤ 11 * what_sum two w + (groups_length vs + 19 * length hs)
variable_given (Variable' h) hs vs = by (stands_alone h) (not (has 13 (own_attributes h))) where
  by : (b c : Bool)
      → groups_length (if b && c then (h ∷ hs) ∷ vs else vs) + 19 * length (if b then [] else h ∷ hs)
      ≤ 22 + (groups_length vs + 19 * length hs)
  by true true = omega arith
  by true false = omega arith
  by false c = omega arith
variable_given Label hs vs = omega arith
variable_given (ProcedureName head) hs vs = omega arith

all_given : (ds : List Declaration)
    → groups_length (variables_in ds) + 19 * length (members_first ds) ≤ 11 * declarations_sum two ds
all_given [] = omega arith
all_given (d ∷ ds) =
    let one = variable_given d.what (members_first ds) (variables_in ds) in
    let more = all_given ds in
    omega (arith, one, more)

-- ---- names and their tokens

further_names : (item : T.DeclareItem) (ds : List T.DeclaredName)
    → variables_sum two (map (λ d. record { declared = d; item = item }) ds) ≤ commas_before name_tokens ds
further_names item [] = omega arith
further_names item (d ∷ ds) = let more = further_names item ds in omega (arith, more)

item_names : (item : T.DeclareItem) (ds : List T.DeclaredName)
    → variables_sum two (map (λ d. record { declared = d; item = item }) ds) ≤ 1 + names_tokens ds
item_names item [] = omega arith
item_names item (d ∷ []) = omega arith
item_names item (d ∷ e ∷ ds) = let more = further_names item (e ∷ ds) in omega (arith, more)

further_items : (items : List T.DeclareItem)
    → variables_sum two (flat_map variables_of items) ≤ commas_before declare_tokens items
further_items [] = omega arith
further_items (i ∷ is) =
    let one = item_names i i.names in
    let more = further_items is in
    let all = variables_split two (variables_of i) (flat_map variables_of is) in
    omega (arith, one, more, all)

items_paid : (items : List T.DeclareItem)
    → variables_sum two (flat_map variables_of items) ≤ declaring_tokens items
items_paid [] = omega arith
items_paid (i ∷ is) = let all = further_items (i ∷ is) in omega (arith, all)

-- ---- blocks

block_few : (s : List ℕ) (tokens : List Token) (tree : T.Tree) → Tokens s tokens → Spells s tokens tree
    → declaring_faults tree ≡ [] → typing_faults tree ≡ [] → (n : ℕ)
    → Every AreFew (variables_of_block (typed_tree tree) n)
block_few s tokens tree t h declared typed n = by (slice_get (H.table_of tree) n) refl where
  by : (o : Option (List Around)) → slice_get (H.table_of tree) n ≡ o
      → Every AreFew (variables_of_block (typed_tree tree) n)
  by None e =
      let lists = lists_kept tree in
      let table = table_kept tree in
      subst (λ o. Every AreFew (unwrap_or o []))
      (sym (none_behind (typed_tree tree).variables (H.table_of tree) n (omega (arith, lists, table)) e)) tt
  by (Some around) e =
      every_map _ AreFew (λ d k. every_map _ IsFew (λ l m. m.few) d.leaves k)
      (variables_of_block (typed_tree tree) n)
      (accepted_leaves s tokens tree t h declared typed n around e)

block_declared : (tree : T.Tree) (n : ℕ) (b : Block) → slice_get (blocks_of tree) n ≡ Some b
    → Every AreFew (variables_of_block (typed_tree tree) n)
    → signatures_length (variables_of_block (typed_tree tree) n) ≤ 11 * declarations_sum two b.declarations
block_declared tree n b e h =
    let scope : Scope = record { blocks = blocks_of tree; block = n } in
    let same : declarations_at (blocks_of tree) n ≡ b.declarations = ap declarations_of e in
    let is = block_variables_are tree n b e in
    let few = subst (Every AreFew) is h in
    let own = each_most scope (variables_in (declarations_at (blocks_of tree) n)) few in
    let given = all_given (declarations_at (blocks_of tree) n) in
    let most : signatures_length (declared_variables scope).value
    ≤ 11 * declarations_sum two (declarations_at (blocks_of tree) n) = omega (arith, own, given) in
    subst (λ ds. signatures_length ds ≤ 11 * declarations_sum two b.declarations) (sym is)
    (subst (λ ds. signatures_length (declared_variables scope).value ≤ 11 * declarations_sum two ds) same most)

abbrev signature_blocks : Y.Program → (next : ℕ) → List Block → ℕ
signature_blocks p next [] = 0
signature_blocks p next (b ∷ bs) = signatures_length (variables_of_block p next) + signature_blocks p (next + 1) bs

-- a list of variables for each block
signatures_listed : (p : Y.Program) (n : ℕ) (all : List (List Y.DeclaredVariable)) (bs : List Block)
    → HasAt p.variables n all → length all ≡ length bs → lists_most all ≤ signature_blocks p n bs
signatures_listed p n [] bs h e = omega arith
signatures_listed p n (ds ∷ all) [] h e = absurd (cc e)
signatures_listed p n (ds ∷ all) (b ∷ bs) h e =
    let same : variables_of_block p n ≡ ds = ap (λ o. unwrap_or o []) h.0 in
    let own : signatures_length (variables_of_block p n) ≡ signatures_length ds = ap signatures_length same in
    let more = signatures_listed p (n + 1) all bs h.1 (omega (arith, e)) in
    omega (arith, own, more)

blocks_declared : (tree : T.Tree) → ((n : ℕ) → Every AreFew (variables_of_block (typed_tree tree) n))
    → (n : ℕ) (bs : List Block) → HasAt (blocks_of tree) n bs
    → signature_blocks (typed_tree tree) n bs ≤ 11 * blocks_sum two bs
blocks_declared tree few n [] h = omega arith
blocks_declared tree few n (b ∷ bs) h =
    let one = block_declared tree n b h.0 (few n) in
    let more = blocks_declared tree few (n + 1) bs h.1 in
    omega (arith, one, more)

-- the whole program declares nothing
listed_most : (tree : T.Tree)
    → lists_most (typed_tree tree).variables
    ≤ signature_blocks (typed_tree tree) 1 (blocks_in (0 ∷ []) 1 tree.procedures)
unfolding blocks_of
listed_most tree =
    let p = typed_tree tree in
    let all = signatures_listed p 0 p.variables (blocks_of tree) (has_end p.variables [] p.variables refl)
    (lists_kept tree) in
    let none : signatures_length (variables_of_block p 0) ≡ 0 = ap signatures_length (outermost_kept tree) in
    omega (arith, all, none)

pub tables_short : TablesShort
tables_short s tokens tree t spelled declared typed =
    let p = typed_tree tree in
    let bs = blocks_in (0 ∷ []) 1 tree.procedures in
    let few = block_few s tokens tree t spelled declared typed in
    let table = withs_most (flat_map (λ ds. ds) p.variables) [] in
    let flat = flat_most p.variables in
    let listed = listed_most tree in
    let blocks = blocks_declared tree few 1 bs (inner_blocks tree) in
    let names = list_summed two declaring_tokens items_paid (0 ∷ []) 1 tree.procedures in
    let most = declares_most tree.procedures in
    let spelling = trees_spelled s tokens tree spelled in
    omega (arith, table, flat, listed, blocks, names, most, spelling)

pub tables_fit : TablesFit
tables_fit s tokens tree t spelled declared typed =
    let table = tables_short s tokens tree t spelled declared typed in
    let many = t.number in
    omega (arith, table, many)
