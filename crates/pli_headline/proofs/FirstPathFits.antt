-- The image of a program of the first path fits a machine's memory, and keeps the headline with a step cost in the number of its tokens.
use Rattle.std.proofs.Common.{ℕ, zero, suc, ◌+◌, ◌*◌, ◌<◌, ◌≤◌, ◌^◌, List, [], ◌∷◌, ◌++◌, length, None, sym, subst, arith, refl}
use Rattle.pli_language.specs.declared.expr.Place.{Place}
use Rattle.pli_language.specs.Tree as T
use Rattle.pli_language.specs.Declarations.{blocks_in_stmt}
use Rattle.pli_typing.specs.Converting.{Referent, Designates, Operand}
use Rattle.pli_typing.specs.References.{expression, reference}
use Rattle.pli_typing.specs.Assigning.{assignment}
use Rattle.pli_typing.specs.SingleStatements.{labels_in}
use Rattle.pli_typing.specs.Resolving.{statement, statements, typed_tree}
use Rattle.pli_language.specs.Declaring.{place_of_expr, place_of_reference, constant}
use Rattle.pli_coding.specs.Assembly.{Datum}
use Rattle.pli_coding.specs.StaticForms.{formats_datum}
use Rattle.pli_coding.specs.Linking.{data_bytes}
use Rattle.pli_coding.specs.Images.{code_of}
use Rattle.pli_headline.specs.Headline.{parts, HeadlineSoFar}
use Rattle.pli_headline.specs.FirstPath.{stmt_weight, items_weight, SmallLines, FirstPathFits, FirstPathKeeps}
use Rattle.pli_headline.specs.FirstPathTrees.{IsField, IsStatement, AreStatements, IsBody, main_items, IsFirstPath}
use Rattle.pli_headline.proofs.FirstPathDeclared.{Named, letters_of, Body, body_of}
use Rattle.pli_headline.proofs.FirstPathExpressions.{main_scope, IsWhole, variable_whole}
use Rattle.pli_headline.proofs.FirstPathStatements.{main_context}
use Rattle.pli_headline.proofs.FirstPathProved.{tree_with, main_program, typed_is, program_proved, first_path_proved}
use Rattle.pli_headline.proofs.FirstPathSmall.{first_path_small}
use Rattle.pli_headline.proofs.FirstForms.{program_wider}
use Rattle.pli_headline.proofs.MainProcedure.{alone_of}
use Rattle.pli_headline.proofs.CodeData.{stmt_data, stmts_data, program_names}
use Rattle.pli_headline.proofs.StaticSizes.{AreConstant, data_size, constant_append, size_behind, statics_most}

-- ---- the data of statements

-- constant bytes, 16 for each unit of a weight at most
abbrev IsLightData : ℕ → List Datum → Type 0
IsLightData k ds = AreConstant ds × (data_size ds ≤ 16 * k)

then_light : (j k : ℕ) (ds es : List Datum) → IsLightData j ds → IsLightData k es → IsLightData (j + k) (ds ++ es)
then_light j k ds es h l =
    let a = h.1 in
    let b = l.1 in
    let s = size_behind ds es in
    (constant_append ds es h.0 l.0, omega (arith, a, b, s))

assigned_data : (count k : ℕ) (place target_place : Place) (r : Referent) (c : _) (source : Operand) → IsWhole count r → IsLightData k (stmt_data (assignment place (record { place = target_place; constant = c; referent = r }) source).value)
assigned_data count k place target_place (Designates d) c source h =
    subst (λ d. IsLightData k (stmt_data (assignment place (record { place = target_place; constant = c; referent = Designates d }) source).value)) (sym h.2) (tt, omega arith)
assigned_data count k place target_place _ c source h = absurd h

formats_light : (fs : T.Formats) → IsField fs → IsLightData 1 (formats_datum fs ∷ [])
formats_light (T.FormatThen place (suc zero) (T.FixedFormat width) T.NoFormat) h = (tt, omega arith)
formats_light _ h = absurd h

more_light : (k : ℕ) (ds : List Datum) → IsLightData 1 ds → IsLightData (1 + k) ds
more_light k ds h = let a = h.1 in (h.0, omega (arith, a))

statement_data : (label : T.Name) (place : Place) (ns : List Named) (labels : List T.Name) (next : ℕ) (s : T.Stmt) → IsStatement (letters_of ns) s → IsLightData (stmt_weight s) (stmt_data (statement (main_context label place ns labels) next s).value)
unfolding statement
statement_data label place ns labels next (T.Assign target source at) h =
    let scope = main_scope label place ns in
    let o : Operand = record { place = place_of_expr source; constant = constant source; referent = (expression scope source).value } in
    assigned_data (length ns) (stmt_weight (T.Assign target source at)) at (place_of_reference target) (reference scope target).value None o (variable_whole label place ns target h.0)
statement_data label place ns labels next (T.Put None (p ∷ []) at) h =
    more_light _ (formats_datum p.formats ∷ []) (formats_light p.formats h.1)
statement_data label place ns labels next _ h = absurd h

among_data : (label : T.Name) (place : Place) (ns : List Named) (labels : List T.Name) (next : ℕ) (items : T.Items) → AreStatements (letters_of ns) items → IsLightData (items_weight items) (stmts_data (statements (main_context label place ns labels) next items).value)
unfolding statements
among_data label place ns labels next T.NoItem h = (tt, omega arith)
among_data label place ns labels next (T.ItemThen (T.Statement [] s) rest) h =
    let c = main_context label place ns labels in
    let behind = next + length (blocks_in_stmt c.around next s) in
    then_light (stmt_weight s) (items_weight rest) (stmt_data (statement c next s).value) (stmts_data (statements c behind rest).value) (statement_data label place ns labels next s h.0) (among_data label place ns labels behind rest h.1)
among_data label place ns labels next _ h = absurd h

body_data : (label : T.Name) (place : Place) (ns : List Named) (labels : List T.Name) (next : ℕ) (items : T.Items) → IsBody (letters_of ns) items → IsLightData (items_weight items) (stmts_data (statements (main_context label place ns labels) next items).value)
unfolding statements
body_data label place ns labels next (T.ItemThen (T.Declare ds at) rest) h =
    let a = body_data label place ns labels next rest h.1 in
    let b = a.1 in
    (a.0, omega (arith, b))
body_data label place ns labels next T.NoItem h = (tt, omega arith)
body_data label place ns labels next (T.ItemThen (T.Statement ls s) rest) h = among_data label place ns labels next (T.ItemThen (T.Statement ls s) rest) h
body_data label place ns labels next (T.ItemThen (T.Procedure head body) rest) h = absurd h
body_data label place ns labels next (T.ItemThen (T.EndLabels ls at) rest) h = absurd h

-- ---- static data

program_data : (label : T.Name) (place : Place) (body : T.Items) (b : Body body) → place.line < 2 ^ 31 → SmallLines body → length (data_bytes (code_of parts (main_program label place b.names body))) ≤ 16 * items_weight body
unfolding program_proved
program_data label place body b line l =
    let program = main_program label place b.names body in
    let is = program_proved label place b.names body b.holds line l in
    let d = body_data label place b.names (labels_in body) 2 body b.holds in
    let n = statics_most (code_of parts program) (stmts_data is.body) (program_names program is.head.number is.head.line is.body is.plain (alone_of program (program_wider program is)) refl is.block.statements) d.0 in
    let m = d.1 in
    omega (arith, n, m)

items_data : (items : T.Items) → IsFirstPath (tree_with items) → SmallLines items → length (data_bytes (code_of parts (typed_tree (tree_with items)))) ≤ 16 * items_weight items
items_data items f l =
    let lines = subst (λ is. SmallLines is) f.is l in
    let b = body_of f.body f.holds in
    let n = program_data f.label f.place f.body b lines.0.0 lines.0.1 in
    subst (λ is. length (data_bytes (code_of parts (typed_tree (tree_with is)))) ≤ 16 * items_weight is) (sym f.is)
    (subst (λ q. length (data_bytes (code_of parts q)) ≤ 16 * items_weight (main_items f.label f.place f.body)) (sym (typed_is f.label f.place f.body b lines.0.1))
    (omega (arith, n)))

-- ---- the laws

pub first_path_fits : FirstPathFits
first_path_fits tree f l light =
    let a = first_path_small tree f l in
    let b = items_data tree.procedures f l in
    record { code_fits = omega (arith, a, light); statics_fit = omega (arith, b, light) }

pub first_path_keeps : HeadlineSoFar → FirstPathKeeps
first_path_keeps headline tree f l light =
    let n = first_path_small tree f l in
    record {
      keeps = headline (typed_tree tree) (first_path_proved tree f l) (first_path_fits tree f l light);
      cheap = omega (arith, n);
    }
