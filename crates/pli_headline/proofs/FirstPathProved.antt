-- A program of the first path is one for which the headline is proved.
use Rattle.std.proofs.Common.{◌≡◌, suc, ◌<◌, ◌^◌, List, [], ◌∷◌, ◌++◌, map, length, Some, None, refl, sym, ap, ◌∙◌, subst}
use Rattle.pli_language.specs.declared.expr.Place.{Place}
use Rattle.pli_language.specs.Tree as T
use Rattle.pli_language.specs.Declarations.{Block, outermost, blocks_in, blocks_in_item, blocks_of}
use Rattle.pli_typing.specs.TypedTree as Y
use Rattle.pli_typing.specs.Judging.{each}
use Rattle.pli_typing.specs.Variables.{variables_in}
use Rattle.pli_typing.specs.Generations.{declared_variable}
use Rattle.pli_typing.specs.SingleStatements.{labels_in}
use Rattle.pli_typing.specs.Resolving.{statements, program_resolved, resolved, typed_tree}
use Rattle.pli_headline.specs.FirstForms.{plain_number, AreNumbers, IsFirstProgram, AreFirstStatements}
use Rattle.pli_headline.proofs.FirstForms.{program_wider}
use Rattle.pli_headline.specs.FirstPath.{SmallLines, FirstPathProved}
use Rattle.pli_headline.specs.FirstPathTrees.{IsBody, main_head, main_items, IsFirstPath}
use Rattle.pli_headline.proofs.FirstPathDeclared.{Named, letters_of, declarations_among, Body, body_of}
use Rattle.pli_headline.proofs.FirstPathNames.{main_block, main_blocks, groups_among, groups_in}
use Rattle.pli_headline.proofs.FirstPathExpressions.{main_scope}
use Rattle.pli_headline.proofs.FirstPathStatements.{main_context, no_blocks, list_proved}

-- ---- the blocks of the tree

abbrev pub tree_with : T.Items → T.Tree
tree_with items = record { procedures = items }

pub blocks_are : (label : T.Name) (place : Place) (body : T.Items) (b : Body body) → blocks_of (tree_with (main_items label place body)) ≡ main_blocks label place b.names
unfolding blocks_of blocks_in blocks_in_item
blocks_are label place body b =
    ap (λ ds. outermost ∷ record { around = 1 ∷ 0 ∷ []; head = Some (main_head label place); declarations = ds } ∷ (blocks_in (1 ∷ 0 ∷ []) 2 body ++ [])) b.declares
    ∙ ap (λ bs. outermost ∷ main_block label place b.names ∷ (bs ++ [])) (no_blocks (letters_of b.names) (1 ∷ 0 ∷ []) 2 body b.holds)

-- ---- its variables

abbrev pub plain_numbers : List Named → List Y.DeclaredVariable
plain_numbers ns = map (λ n. plain_number) ns

groups_plain : (label : T.Name) (place : Place) (all ns : List Named) → (each (declared_variable (main_scope label place all)) (groups_among ns)).value ≡ plain_numbers ns
groups_plain label place all [] = refl
groups_plain label place all (n ∷ ns) = ap (λ ds. plain_number ∷ ds) (groups_plain label place all ns)

variables_plain : (label : T.Name) (place : Place) (ns : List Named) → (each (declared_variable (main_scope label place ns)) (variables_in (declarations_among ns))).value ≡ plain_numbers ns
variables_plain label place ns =
    ap (λ gs. (each (declared_variable (main_scope label place ns)) gs).value) (groups_in ns) ∙ groups_plain label place ns ns

-- ---- the typed tree

abbrev pub main_line_head : Place → Y.BlockHead
main_line_head place = record { kind = Y.ProcedureBlock; number = 1; level = 0; line = place.line }

abbrev pub main_body : T.Name → Place → List Named → T.Items → Y.Stmts
main_body label place ns body = (statements (main_context label place ns (labels_in body)) 2 body).value

abbrev pub main_program : T.Name → Place → List Named → T.Items → Y.Program
main_program label place ns body =
    record {
      variables = [] ∷ plain_numbers ns ∷ [];
      procedures = record { block = Y.BlockOf (main_line_head place) (main_body label place ns body); parameters = []; result = None } ∷ [];
    }

abbrev tree_of_blocks : List Block → T.Items → Y.Program
tree_of_blocks blocks items =
    record { variables = (program_resolved blocks items).value; procedures = (program_resolved blocks items).procedures }

-- with these variables of the main procedure, and these procedures inside it
abbrev program_with : T.Name → Place → List Named → T.Items → List Y.DeclaredVariable → List Y.Procedure → Y.Program
program_with label place ns body ds inside =
    record {
      variables = [] ∷ ds ∷ [];
      procedures = record { block = Y.BlockOf (main_line_head place) (main_body label place ns body); parameters = []; result = None } ∷ ((inside ++ []) ++ []);
    }

resolved_so : (label : T.Name) (place : Place) (ns : List Named) (body : T.Items) → IsBody (letters_of ns) body → SmallLines body → tree_of_blocks (main_blocks label place ns) (main_items label place body) ≡ main_program label place ns body
unfolding statements
resolved_so label place ns body h l =
    let m = list_proved label place ns (labels_in body) 2 body h l in
    let inside = (statements (main_context label place ns (labels_in body)) 2 body).procedures in
    ap (λ ds. program_with label place ns body ds inside) (variables_plain label place ns)
    ∙ ap (λ ps. program_with label place ns body (plain_numbers ns) ps) m.alone

pub typed_is : (label : T.Name) (place : Place) (body : T.Items) (b : Body body) → SmallLines body → typed_tree (tree_with (main_items label place body)) ≡ main_program label place b.names body
unfolding resolved
typed_is label place body b l =
    ap (λ bs. tree_of_blocks bs (main_items label place body)) (blocks_are label place body b)
    ∙ resolved_so label place b.names body b.holds l

-- ---- the law

pub all_plain : (ns : List Named) → AreNumbers (plain_numbers ns)
all_plain [] = tt
all_plain (n ∷ ns) = (refl, all_plain ns)

pub length_plain : (ns : List Named) → length (plain_numbers ns) ≡ length ns
length_plain [] = refl
length_plain (n ∷ ns) = ap (λ k. suc k) (length_plain ns)

unfoldable pub program_proved : (label : T.Name) (place : Place) (ns : List Named) (body : T.Items) → IsBody (letters_of ns) body → place.line < 2 ^ 31 → SmallLines body → IsFirstProgram (main_program label place ns body)
program_proved label place ns body h line l =
    let m = list_proved label place ns (labels_in body) 2 body h l in
    record {
      head = main_line_head place;
      body = main_body label place ns body;
      alone = refl;
      plain = (tt, (all_plain ns, tt));
      block = record {
        kind = refl;
        level = refl;
        line = line;
        statements = subst (λ n. AreFirstStatements 1 n (main_body label place ns body)) (sym (length_plain ns)) m.proved;
      };
    }

items_proved : (items : T.Items) → IsFirstPath (tree_with items) → SmallLines items → IsFirstProgram (typed_tree (tree_with items))
items_proved items f l =
    let lines = subst (λ is. SmallLines is) f.is l in
    let b = body_of f.body f.holds in
    subst (λ is. IsFirstProgram (typed_tree (tree_with is))) (sym f.is)
    (subst (λ q. IsFirstProgram q) (sym (typed_is f.label f.place f.body b lines.0.1))
    (program_proved f.label f.place b.names f.body b.holds lines.0.0 lines.0.1))

pub first_path_proved : FirstPathProved
first_path_proved tree f l = program_wider (typed_tree tree) (items_proved tree.procedures f l)
