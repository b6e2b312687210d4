-- Statements of the first path come to statements that are proved.
use Rattle.std.proofs.Common.{◌≡◌, ℕ, zero, suc, ◌+◌, ◌<◌, ◌^◌, List, [], ◌∷◌, ◌++◌, length, Option, Some, None, false, refl, sym, ap, ◌∙◌, subst, arith}
use Rattle.pli_language.specs.declared.expr.Place.{Place}
use Rattle.pli_language.specs.Tree as T
use Rattle.pli_language.specs.Formats.{format_moves_data, formats_move_data}
use Rattle.pli_language.specs.Declaring.{place_of_expr, constant, place_of_reference}
use Rattle.pli_language.specs.Declarations.{blocks_in, blocks_in_item, blocks_in_stmt}
use Rattle.pli_typing.specs.TypedTree as Y
use Rattle.pli_typing.specs.Judging.{each}
use Rattle.pli_typing.specs.Converting.{Referent, Designates, Gives, Operand, operand_value}
use Rattle.pli_typing.specs.References.{expression, reference, expressions}
use Rattle.pli_typing.specs.Assigning.{assignment, computational, put_scalar, put_referent, put_item}
use Rattle.pli_typing.specs.SingleStatements.{Context, in_block}
use Rattle.pli_typing.specs.Resolving.{statement, statements, outermost_context}
use Rattle.pli_coding.specs.Streams.{has_text}
use Rattle.pli_headline.specs.ProvedSoFar.{AreProvedFormats, HasData}
use Rattle.pli_headline.specs.FirstForms.{IsFirstItem, AreFirstItems, IsFirstStatement, AreFirstStatements}
use Rattle.pli_headline.specs.FirstPath.{stmt_line, SmallLines}
use Rattle.pli_headline.specs.FirstPathTrees.{IsField, IsSingle, IsStatement, AreStatements, IsBody}
use Rattle.pli_headline.proofs.FirstPathDeclared.{Named, letters_of}
use Rattle.pli_headline.proofs.FirstPathNames.{main_blocks}
use Rattle.pli_headline.proofs.FirstPathExpressions.{main_scope, IsWhole, IsNumber, IsValue, value_proved, number_proved, variable_whole, expression_number}

abbrev pub main_context : T.Name → Place → List Named → List T.Name → Context
main_context label place ns labels = in_block (outermost_context (main_blocks label place ns)) 1 labels

-- ---- assignments

assigned_proved : (count : ℕ) (place target_place : Place) (r : Referent) (c : _) (source : Operand) → IsWhole count r → IsNumber count source.referent → place.line < 2 ^ 31 → IsFirstStatement 1 count (assignment place (record { place = target_place; constant = c; referent = r }) source).value
assigned_proved count place target_place (Designates d) c source h k l =
    subst (λ d. IsFirstStatement 1 count (assignment place (record { place = target_place; constant = c; referent = Designates d }) source).value) (sym h.2)
    (refl, (record { index = h.0; declared = h.1; is = refl }, (number_proved count source k, l)))
assigned_proved count place target_place _ c source h k l = absurd h

-- ---- PUT

computed_proved : (count : ℕ) (place : Place) (v : Option Y.Value) → IsValue count v → IsFirstItem 1 count (Y.PutValue (computational place v).value)
computed_proved count place (Some (Y.NumberValue p x)) h = h
computed_proved count place _ h = absurd h

scalar_proved : (count : ℕ) (o : Operand) → IsNumber count o.referent → IsFirstItem 1 count (put_scalar o).value
scalar_proved count o h = computed_proved count o.place (operand_value o).value (value_proved count o.place o.referent h)

referent_proved : (count : ℕ) (o : Operand) (r : Referent) → IsNumber count r → IsFirstItem 1 count (put_scalar o).value → IsFirstItem 1 count (put_referent o r).value
referent_proved count o (Designates d) h k =
    subst (λ d. IsFirstItem 1 count (put_referent o (Designates d)).value) (sym h.2) k
referent_proved count o (Gives v) h k = k
referent_proved count o _ h k = absurd h

item_proved : (count : ℕ) (o : Operand) → IsNumber count o.referent → IsFirstItem 1 count (put_item o).value
item_proved count o h = referent_proved count o o.referent h (scalar_proved count o h)

items_proved : (label : T.Name) (place : Place) (ns : List Named) (es : T.Exprs) → IsSingle (letters_of ns) es → AreFirstItems 1 (length ns) (each put_item (expressions (main_scope label place ns) es).value).value
unfolding expressions
items_proved label place ns (T.ExprThen e T.NoExpr) h =
    let o : Operand = record { place = place_of_expr e; constant = constant e; referent = (expression (main_scope label place ns) e).value } in
    (item_proved (length ns) o (expression_number label place ns e h), tt)
items_proved label place ns _ h = absurd h

formats_proved : (fs : T.Formats) → IsField fs → AreProvedFormats fs × (HasData fs × (has_text fs ≡ false))
unfolding formats_move_data format_moves_data
formats_proved (T.FormatThen place (suc zero) (T.FixedFormat width) T.NoFormat) h = (((omega arith, omega arith), (h, tt)), (refl, refl))
formats_proved _ h = absurd h

-- ---- statements

pub statement_proved : (label : T.Name) (place : Place) (ns : List Named) (labels : List T.Name) (next : ℕ) (s : T.Stmt) → IsStatement (letters_of ns) s → stmt_line s < 2 ^ 31 → IsFirstStatement 1 (length ns) (statement (main_context label place ns labels) next s).value
unfolding statement
statement_proved label place ns labels next (T.Assign target source at) h l =
    let scope = main_scope label place ns in
    let o : Operand = record { place = place_of_expr source; constant = constant source; referent = (expression scope source).value } in
    assigned_proved (length ns) at (place_of_reference target) (reference scope target).value None o (variable_whole label place ns target h.0) (expression_number label place ns source h.1) l
statement_proved label place ns labels next (T.Put None (p ∷ []) at) h l =
    ((items_proved label place ns p.items h.0, (formats_proved p.formats h.1, tt)), l)
statement_proved label place ns labels next _ h l = absurd h

-- no procedure stands in it
no_procedure : (c : Context) (scope : _) (next : ℕ) (s : T.Stmt) → IsStatement scope s → (statement c next s).procedures ≡ []
unfolding statement
no_procedure c scope next (T.Assign target source at) h = refl
no_procedure c scope next (T.Put None (p ∷ []) at) h = refl
no_procedure c scope next _ h = absurd h

no_block : (scope : _) (around : List ℕ) (next : ℕ) (s : T.Stmt) → IsStatement scope s → blocks_in_stmt around next s ≡ []
unfolding blocks_in_stmt
no_block scope around next (T.Assign target source at) h = refl
no_block scope around next (T.Put None (p ∷ []) at) h = refl
no_block scope around next _ h = absurd h

-- ---- lists

no_blocks_among : (scope : _) (around : List ℕ) (next : ℕ) (items : T.Items) → AreStatements scope items → blocks_in around next items ≡ []
unfolding blocks_in blocks_in_item
no_blocks_among scope around next T.NoItem h = refl
no_blocks_among scope around next (T.ItemThen (T.Statement [] s) rest) h =
    ap (λ bs. bs ++ blocks_in around (next + length bs) rest) (no_block scope around next s h.0) ∙ no_blocks_among scope around (next + 0) rest h.1
no_blocks_among scope around next _ h = absurd h

pub no_blocks : (scope : _) (around : List ℕ) (next : ℕ) (items : T.Items) → IsBody scope items → blocks_in around next items ≡ []
unfolding blocks_in blocks_in_item
no_blocks scope around next (T.ItemThen (T.Declare ds at) rest) h = no_blocks scope around (next + 0) rest h.1
no_blocks scope around next T.NoItem h = refl
no_blocks scope around next (T.ItemThen (T.Statement ls s) rest) h = no_blocks_among scope around next (T.ItemThen (T.Statement ls s) rest) h
no_blocks scope around next (T.ItemThen (T.Procedure head body) rest) h = absurd h
no_blocks scope around next (T.ItemThen (T.EndLabels ls at) rest) h = absurd h

-- what a list comes to is proved, and no procedure stands in it
pub record ListProved (label : T.Name) (place : Place) (ns : List Named) (labels : List T.Name) (next : ℕ) (items : T.Items) : Type 0 where
  pub proved : AreFirstStatements 1 (length ns) (statements (main_context label place ns labels) next items).value
  pub alone : (statements (main_context label place ns labels) next items).procedures ≡ []

among_proved : (label : T.Name) (place : Place) (ns : List Named) (labels : List T.Name) (next : ℕ) (items : T.Items) → AreStatements (letters_of ns) items → SmallLines items → ListProved label place ns labels next items
unfolding statements
among_proved label place ns labels next T.NoItem h l = record { proved = tt; alone = refl }
among_proved label place ns labels next (T.ItemThen (T.Statement [] s) rest) h l =
    let c = main_context label place ns labels in
    let behind = next + length (blocks_in_stmt c.around next s) in
    let m = among_proved label place ns labels behind rest h.1 l.1 in
    record {
      proved = (statement_proved label place ns labels next s h.0 l.0, m.proved);
      alone =
          ap (λ ps. ps ++ ((statements c behind rest).procedures ++ [])) (no_procedure c (letters_of ns) next s h.0)
          ∙ ap (λ ps. ps ++ []) m.alone;
    }
among_proved label place ns labels next _ h l = absurd h

pub list_proved : (label : T.Name) (place : Place) (ns : List Named) (labels : List T.Name) (next : ℕ) (items : T.Items) → IsBody (letters_of ns) items → SmallLines items → ListProved label place ns labels next items
unfolding statements
list_proved label place ns labels next (T.ItemThen (T.Declare ds at) rest) h l =
    let m = list_proved label place ns labels next rest h.1 l.1 in
    record { proved = m.proved; alone = m.alone }
list_proved label place ns labels next T.NoItem h l = record { proved = tt; alone = refl }
list_proved label place ns labels next (T.ItemThen (T.Statement ls s) rest) h l = among_proved label place ns labels next (T.ItemThen (T.Statement ls s) rest) h l
list_proved label place ns labels next (T.ItemThen (T.Procedure head body) rest) h l = absurd h
list_proved label place ns labels next (T.ItemThen (T.EndLabels ls at) rest) h l = absurd h
