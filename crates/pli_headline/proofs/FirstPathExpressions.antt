-- Expressions of the first path come to numbers that are proved.
use Rattle.std.proofs.Common.{◌≡◌, ℕ, ◌<◌, List, [], ◌∷◌, length, Option, Some, None, refl, sym, ap, ◌∙◌, subst}
use Rattle.pli_language.specs.declared.expr.Place.{Place}
use Rattle.pli_language.specs.declared.expr.PrefixOp.{PrefixOp}
use Rattle.pli_language.specs.declared.expr.PrefixOp.TheVariants as P
use Rattle.pli_language.specs.declared.expr.InfixOp.{InfixOp}
use Rattle.pli_language.specs.declared.expr.InfixOp.TheVariants as I
use Rattle.pli_language.specs.declared.scope.Found.{Found}
use Rattle.pli_language.specs.Tree as T
use Rattle.pli_language.specs.Declarations.{Declaration}
use Rattle.pli_language.specs.Means.{names_mean}
use Rattle.pli_language.specs.Declaring.{place_of_expr, constant}
use Rattle.pli_typing.specs.Judging.{Scope}
use Rattle.pli_typing.specs.Operators.{prefixed, infixed}
use Rattle.pli_typing.specs.TypedTree as Y
use Rattle.pli_typing.specs.Converting.{Referent, Designates, Gives, Operand, referent_value, operand_value, number_wanted, number_operand}
use Rattle.pli_typing.specs.Variables.{what_of}
use Rattle.pli_typing.specs.References.{Named, given, found_referent, what_referent, expression, reference, qualified, arguments, expressions}
use Rattle.pli_headline.specs.FirstForms.{IsFirstReference, IsFirstNumber}
use Rattle.pli_headline.specs.FirstPathTrees.{IsVariable, IsExpression, IsSign, IsSum}
use Rattle.pli_headline.proofs.FirstPathDeclared.{plain_held, letters_of, declarations_among}
use Rattle.pli_headline.proofs.FirstPathDeclared as D
use Rattle.pli_headline.proofs.FirstPathNames.{main_blocks, name_means, whole, whole_number, number_at}

-- inside the main procedure
abbrev pub main_scope : T.Name → Place → List D.Named → Scope
main_scope label place ns = record { blocks = main_blocks label place ns; block = 1 }

-- ---- references

-- a variable of the block, all of it
abbrev pub IsWhole : (count : ℕ) → Referent → Type 0
IsWhole count (Designates d) = (j : ℕ) × (j < count) × (d ≡ whole_number j)
IsWhole count _ = ⊥

abbrev alone_named : T.Name → List Named
alone_named name = record { name = name; arguments = None } ∷ []

-- the declaration that is found
abbrev found_at : T.Name → Place → List D.Named → T.Name → Found → Referent
found_at label place ns name f = (found_referent (main_scope label place ns) name f Y.NotLocated (alone_named name)).value

abbrev what_found : T.Name → Place → List D.Named → T.Name → Option Declaration → Referent
what_found label place ns name d =
    (what_referent (main_blocks label place ns) 1 (what_of d) name.place Y.NotLocated (alone_named name)).value

pub variable_whole : (label : T.Name) (place : Place) (ns : List D.Named) (r : T.Reference) → IsVariable (letters_of ns) r → IsWhole (length ns) (reference (main_scope label place ns) r).value
unfolding expression reference qualified arguments expressions
variable_whole label place ns (T.Plain (T.Last name T.Absent)) h =
    let m = name_means label place ns name.letters h in
    let w = whole label place ns m.named m.among in
    let e : found_at label place ns name (names_mean (main_blocks label place ns) 1 (name.letters ∷ [])) ≡ Designates (whole_number w.index) =
    ap (λ f. found_at label place ns name f) m.means_it
    ∙ ap (λ d. what_found label place ns name d) m.stands
    ∙ ap (λ d. Designates d) w.designated in
    subst (λ r. IsWhole (length ns) r) (sym e) (w.index, w.inside, refl)
variable_whole label place ns _ h = absurd h

-- ---- expressions

-- a variable, or a number
abbrev pub IsNumber : (count : ℕ) → Referent → Type 0
IsNumber count (Gives (Y.NumberValue p x)) = IsFirstNumber 1 count x
IsNumber count r = IsWhole count r

whole_is_number : (count : ℕ) (r : Referent) → IsWhole count r → IsNumber count r
whole_is_number count (Designates d) h = h
whole_is_number count _ h = absurd h

-- a number that is proved
abbrev pub IsValue : (count : ℕ) → Option Y.Value → Type 0
IsValue count (Some (Y.NumberValue p x)) = IsFirstNumber 1 count x
IsValue count _ = ⊥

own_number : (count j : ℕ) → j < count → IsFirstReference 1 count (number_at j)
own_number count j h = record { index = j; declared = h; is = refl }

pub value_proved : (count : ℕ) (place : Place) (r : Referent) → IsNumber count r → IsValue count (referent_value place r).value
value_proved count place (Gives (Y.NumberValue p x)) h = h
value_proved count place (Designates d) h =
    subst (λ d. IsValue count (referent_value place (Designates d)).value) (sym h.2) (own_number count h.0 h.1)
value_proved count place _ h = absurd h

wanted_proved : (count : ℕ) (place : Place) (v : Option Y.Value) → IsValue count v → IsFirstNumber 1 count (number_wanted place v).value
wanted_proved count place (Some (Y.NumberValue p x)) h = h
wanted_proved count place _ h = absurd h

pub number_proved : (count : ℕ) (o : Operand) → IsNumber count o.referent → IsFirstNumber 1 count (number_operand o).value
number_proved count o h = wanted_proved count o.place (operand_value o).value (value_proved count o.place o.referent h)

given_number : (count : ℕ) (v : Option Y.Value) → IsValue count v → IsNumber count (given v)
given_number count (Some (Y.NumberValue p x)) h = h
given_number count _ h = absurd h

prefixed_number : (count : ℕ) (op : PrefixOp) (o : Operand) → IsSign op → IsNumber count o.referent → IsNumber count (prefixed op o).value
prefixed_number count P.Plus o s h = number_proved count o h
prefixed_number count P.Minus o s h = number_proved count o h
prefixed_number count P.Not o s h = absurd s

infixed_number : (count : ℕ) (op : InfixOp) (a b : Operand) → IsSum op → IsNumber count a.referent → IsNumber count b.referent → IsNumber count (infixed op a b).value
infixed_number count I.Add a b s h k = (tt, (number_proved count a h, number_proved count b k))
infixed_number count I.Subtract a b s h k = (tt, (number_proved count a h, number_proved count b k))
infixed_number count _ a b s h k = absurd s

pub expression_number : (label : T.Name) (place : Place) (ns : List D.Named) (e : T.Expr) → IsExpression (letters_of ns) e → IsNumber (length ns) (expression (main_scope label place ns) e).value
unfolding expression
expression_number label place ns (T.Number n p) h = h
expression_number label place ns (T.Parenthesized e p) h =
    let r = (expression (main_scope label place ns) e).value in
    given_number (length ns) (referent_value (place_of_expr e) r).value (value_proved (length ns) (place_of_expr e) r (expression_number label place ns e h))
expression_number label place ns (T.Prefix op e p) h =
    let o : Operand = record { place = place_of_expr e; constant = constant e; referent = (expression (main_scope label place ns) e).value } in
    prefixed_number (length ns) op o h.0 (expression_number label place ns e h.1)
expression_number label place ns (T.Infix op l r) h =
    let a : Operand = record { place = place_of_expr l; constant = constant l; referent = (expression (main_scope label place ns) l).value } in
    let b : Operand = record { place = place_of_expr r; constant = constant r; referent = (expression (main_scope label place ns) r).value } in
    infixed_number (length ns) op a b h.0 (expression_number label place ns l h.1.0) (expression_number label place ns r h.1.1)
expression_number label place ns (T.Refers r) h =
    whole_is_number (length ns) (reference (main_scope label place ns) r).value (variable_whole label place ns r h)
expression_number label place ns _ h = absurd h
