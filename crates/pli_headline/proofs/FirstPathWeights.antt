-- What a program of the first path comes to has at most two nodes for each unit of its tree's weight.
use Rattle.std.proofs.Common.{◌≡◌, ℕ, ◌+◌, ◌*◌, ◌≤◌, List, [], ◌∷◌, map, length, Option, Some, None, refl, sym, ap, ◌∙◌, subst, length-append, arith}
use Rattle.std.proofs.lemmas.List.{length-map}
use Rattle.pli_language.specs.declared.expr.Place.{Place}
use Rattle.pli_language.specs.declared.expr.PrefixOp.{PrefixOp}
use Rattle.pli_language.specs.declared.expr.PrefixOp.TheVariants as P
use Rattle.pli_language.specs.declared.expr.InfixOp.{InfixOp}
use Rattle.pli_language.specs.declared.expr.InfixOp.TheVariants as I
use Rattle.pli_language.specs.Tree as T
use Rattle.pli_language.specs.Declaring.{place_of_expr, place_of_reference, constant}
use Rattle.pli_language.specs.Declarations.{blocks_in_stmt}
use Rattle.pli_typing.specs.TypedTree as Y
use Rattle.pli_typing.specs.Judging.{each}
use Rattle.pli_typing.specs.Converting.{Referent, Designates, Gives, Operand, referent_value, operand_value, number_wanted, number_operand}
use Rattle.pli_typing.specs.Operators.{prefixed, infixed}
use Rattle.pli_typing.specs.References.{given, expression, reference, expressions}
use Rattle.pli_typing.specs.Assigning.{assignment, computational, put_scalar, put_referent, put_item}
use Rattle.pli_typing.specs.Resolving.{statement, statements}
use Rattle.pli_headline.specs.FirstPath.{expr_weight, exprs_weight, stmt_weight, declared_weight, items_weight}
use Rattle.pli_headline.proofs.CodeSizes.{number_nodes, item_nodes, items_nodes, stmt_nodes, stmts_nodes}
use Rattle.pli_headline.specs.FirstPathTrees.{IsExpression, IsSign, IsSum, IsSingle, IsStatement, AreStatements, names_in, names_of, IsBody}
use Rattle.pli_headline.proofs.FirstPathDeclared.{Named, letters_of}
use Rattle.pli_headline.proofs.FirstPathExpressions.{main_scope, IsWhole, IsNumber, variable_whole, expression_number}
use Rattle.pli_headline.proofs.FirstPathStatements.{main_context}

-- ---- expressions

-- a number of at most so many nodes
abbrev pub IsLight : ℕ → Referent → Type 0
IsLight k (Gives (Y.NumberValue p x)) = number_nodes x ≤ k
IsLight k (Designates d) = 1 ≤ k
IsLight k _ = ⊥

abbrev IsLightValue : ℕ → Option Y.Value → Type 0
IsLightValue k (Some (Y.NumberValue p x)) = number_nodes x ≤ k
IsLightValue k _ = ⊥

pub some_node : (x : Y.Number) → 1 ≤ number_nodes x
some_node (Y.Signed sign x) = omega arith
some_node (Y.Calculated operator left right) = omega arith
some_node _ = omega arith

value_light : (count k : ℕ) (place : Place) (r : Referent) → IsNumber count r → IsLight k r → IsLightValue k (referent_value place r).value
value_light count k place (Gives (Y.NumberValue p x)) h l = l
value_light count k place (Designates d) h l =
    subst (λ d. IsLightValue k (referent_value place (Designates d)).value) (sym h.2) l
value_light count k place _ h l = absurd h

wanted_light : (k : ℕ) (place : Place) (v : Option Y.Value) → IsLightValue k v → number_nodes (number_wanted place v).value ≤ k
wanted_light k place (Some (Y.NumberValue p x)) l = l
wanted_light k place _ l = absurd l

operand_light : (count k : ℕ) (o : Operand) → IsNumber count o.referent → IsLight k o.referent → number_nodes (number_operand o).value ≤ k
operand_light count k o h l = wanted_light k o.place (operand_value o).value (value_light count k o.place o.referent h l)

given_light : (k : ℕ) (v : Option Y.Value) → IsLightValue k v → IsLight (1 + k) (given v)
given_light k (Some (Y.NumberValue p x)) l = omega (arith, l)
given_light k _ l = absurd l

prefixed_light : (count k : ℕ) (op : PrefixOp) (o : Operand) → IsSign op → IsNumber count o.referent → IsLight k o.referent → IsLight (1 + k) (prefixed op o).value
prefixed_light count k P.Plus o s h l = let n = operand_light count k o h l in omega (arith, n)
prefixed_light count k P.Minus o s h l = let n = operand_light count k o h l in omega (arith, n)
prefixed_light count k P.Not o s h l = absurd s

infixed_light : (count j k : ℕ) (op : InfixOp) (a b : Operand) → IsSum op → IsNumber count a.referent → IsLight j a.referent → IsNumber count b.referent → IsLight k b.referent → IsLight (1 + j + k) (infixed op a b).value
infixed_light count j k I.Add a b s h l i m =
    let n = operand_light count j a h l in let n' = operand_light count k b i m in omega (arith, n, n')
infixed_light count j k I.Subtract a b s h l i m =
    let n = operand_light count j a h l in let n' = operand_light count k b i m in omega (arith, n, n')
infixed_light count j k _ a b s h l i m = absurd s

whole_light : (count : ℕ) (r : Referent) → IsWhole count r → IsLight 1 r
whole_light count (Designates d) h = omega arith
whole_light count _ h = absurd h

expression_light : (label : T.Name) (place : Place) (ns : List Named) (e : T.Expr) → IsExpression (letters_of ns) e → IsLight (expr_weight e) (expression (main_scope label place ns) e).value
unfolding expression
expression_light label place ns (T.Number n p) h = omega arith
expression_light label place ns (T.Parenthesized e p) h =
    let r = (expression (main_scope label place ns) e).value in
    let n = expression_number label place ns e h in
    let l = expression_light label place ns e h in
    given_light (expr_weight e) (referent_value (place_of_expr e) r).value (value_light (length ns) (expr_weight e) (place_of_expr e) r n l)
expression_light label place ns (T.Prefix op e p) h =
    let o : Operand = record { place = place_of_expr e; constant = constant e; referent = (expression (main_scope label place ns) e).value } in
    prefixed_light (length ns) (expr_weight e) op o h.0 (expression_number label place ns e h.1) (expression_light label place ns e h.1)
expression_light label place ns (T.Infix op l r) h =
    let a : Operand = record { place = place_of_expr l; constant = constant l; referent = (expression (main_scope label place ns) l).value } in
    let b : Operand = record { place = place_of_expr r; constant = constant r; referent = (expression (main_scope label place ns) r).value } in
    infixed_light (length ns) (expr_weight l) (expr_weight r) op a b h.0 (expression_number label place ns l h.1.0) (expression_light label place ns l h.1.0) (expression_number label place ns r h.1.1) (expression_light label place ns r h.1.1)
expression_light label place ns (T.Refers r) h =
    whole_light (length ns) (reference (main_scope label place ns) r).value (variable_whole label place ns r h)
expression_light label place ns _ h = absurd h

-- ---- statements

assigned_light : (count k : ℕ) (place target_place : Place) (r : Referent) (c : _) (source : Operand) → IsWhole count r → IsNumber count source.referent → IsLight k source.referent → stmt_nodes (assignment place (record { place = target_place; constant = c; referent = r }) source).value ≤ 1 + k
assigned_light count k place target_place (Designates d) c source h i l =
    let n = operand_light count k source i l in
    subst (λ d. stmt_nodes (assignment place (record { place = target_place; constant = c; referent = Designates d }) source).value ≤ 1 + k) (sym h.2) (omega (arith, n))
assigned_light count k place target_place _ c source h i l = absurd h

-- a value is an item with its nodes
abbrev LightItem : ℕ → Y.PutItem → Type 0
LightItem k i = (item_nodes i ≤ 1 + k) × (1 ≤ k)

computed_light : (k : ℕ) (place : Place) (v : Option Y.Value) → IsLightValue k v → LightItem k (Y.PutValue (computational place v).value)
computed_light k place (Some (Y.NumberValue p x)) l = let n = some_node x in (omega (arith, l), omega (arith, l, n))
computed_light k place _ l = absurd l

scalar_light : (count k : ℕ) (o : Operand) → IsNumber count o.referent → IsLight k o.referent → LightItem k (put_scalar o).value
scalar_light count k o h l = computed_light k o.place (operand_value o).value (value_light count k o.place o.referent h l)

referent_light : (count k : ℕ) (o : Operand) (r : Referent) → IsNumber count r → LightItem k (put_scalar o).value → LightItem k (put_referent o r).value
referent_light count k o (Designates d) h l = subst (λ d. LightItem k (put_referent o (Designates d)).value) (sym h.2) l
referent_light count k o (Gives v) h l = l
referent_light count k o _ h l = absurd h

item_light : (count k : ℕ) (o : Operand) → IsNumber count o.referent → IsLight k o.referent → LightItem k (put_item o).value
item_light count k o h l = referent_light count k o o.referent h (scalar_light count k o h l)

items_light : (label : T.Name) (place : Place) (ns : List Named) (es : T.Exprs) → IsSingle (letters_of ns) es → items_nodes (each put_item (expressions (main_scope label place ns) es).value).value ≤ 2 * exprs_weight es
unfolding expressions
items_light label place ns (T.ExprThen e T.NoExpr) h =
    let o : Operand = record { place = place_of_expr e; constant = constant e; referent = (expression (main_scope label place ns) e).value } in
    let l = item_light (length ns) (expr_weight e) o (expression_number label place ns e h) (expression_light label place ns e h) in
    let a = l.0 in
    let b = l.1 in
    omega (arith, a, b)
items_light label place ns _ h = absurd h

statement_light : (label : T.Name) (place : Place) (ns : List Named) (labels : List T.Name) (next : ℕ) (s : T.Stmt) → IsStatement (letters_of ns) s → stmt_nodes (statement (main_context label place ns labels) next s).value ≤ 2 * stmt_weight s
unfolding statement
statement_light label place ns labels next (T.Assign target source at) h =
    let scope = main_scope label place ns in
    let o : Operand = record { place = place_of_expr source; constant = constant source; referent = (expression scope source).value } in
    let n = assigned_light (length ns) (expr_weight source) at (place_of_reference target) (reference scope target).value None o (variable_whole label place ns target h.0) (expression_number label place ns source h.1) (expression_light label place ns source h.1) in
    omega (arith, n)
statement_light label place ns labels next (T.Put None (p ∷ []) at) h =
    let n = items_light label place ns p.items h.0 in omega (arith, n)
statement_light label place ns labels next _ h = absurd h

-- ---- bodies

among_light : (label : T.Name) (place : Place) (ns : List Named) (labels : List T.Name) (next : ℕ) (items : T.Items) → AreStatements (letters_of ns) items → stmts_nodes (statements (main_context label place ns labels) next items).value ≤ 2 * items_weight items
unfolding statements
among_light label place ns labels next T.NoItem h = omega arith
among_light label place ns labels next (T.ItemThen (T.Statement [] s) rest) h =
    let behind = next + length (blocks_in_stmt (main_context label place ns labels).around next s) in
    let a = statement_light label place ns labels next s h.0 in
    let b = among_light label place ns labels behind rest h.1 in
    omega (arith, a, b)
among_light label place ns labels next _ h = absurd h

names_weigh : (ds : List T.DeclareItem) → length (names_in ds) ≡ declared_weight ds
names_weigh [] = refl
names_weigh (d ∷ ds) =
    length-append (map (λ (n : T.DeclaredName). n.name.letters) d.names) (names_in ds)
    ∙ ap (λ k. k + length (names_in ds)) (length-map d.names (λ n. n.name.letters))
    ∙ ap (λ k. length d.names + k) (names_weigh ds)

-- the names weigh too
pub body_light : (label : T.Name) (place : Place) (ns : List Named) (labels : List T.Name) (next : ℕ) (items : T.Items) → IsBody (letters_of ns) items → stmts_nodes (statements (main_context label place ns labels) next items).value + length (names_of items) ≤ 2 * items_weight items
unfolding statements
body_light label place ns labels next (T.ItemThen (T.Declare ds at) rest) h =
    let a = body_light label place ns labels next rest h.1 in
    let b = names_weigh ds in
    let c = length-append (names_in ds) (names_of rest) in
    omega (arith, a, b, c)
body_light label place ns labels next T.NoItem h = omega arith
body_light label place ns labels next (T.ItemThen (T.Statement ls s) rest) h =
    let a = among_light label place ns labels next (T.ItemThen (T.Statement ls s) rest) h in omega (arith, a)
body_light label place ns labels next (T.ItemThen (T.Procedure head body) rest) h = absurd h
body_light label place ns labels next (T.ItemThen (T.EndLabels ls at) rest) h = absurd h
