-- Steps down and up a chain of operators or of locators, as the program holds them.
use Rattle.std.proofs.Common.{◌≡◌, ◌∙◌, ◌++◌, ℕ, ◌+◌, ℤ, List, [], ◌∷◌, Option, None, map, refl, ap, ap₂, sym, Bor, arith}
use Rattle.std.proofs.Math.Nat.{add_assoc}
use Rattle.std.proofs.lemmas.List.{append-nil, append_assoc, map-append, map_push}
use Rattle.pli_language.specs.declared.expr.Expr.{Expr as ExprHeld}
use Rattle.pli_language.specs.declared.expr.Expr as E
use Rattle.pli_language.specs.declared.expr.Exprs.{Exprs as ExprsHeld}
use Rattle.pli_language.specs.declared.expr.Exprs as L
use Rattle.pli_language.specs.declared.expr.Qualified as Q
use Rattle.pli_language.specs.declared.expr.Reference.{Reference as ReferenceHeld}
use Rattle.pli_language.specs.declared.expr.Reference as R
use Rattle.pli_language.specs.declared.expr.Qualified.{Qualified as QualifiedHeld}
use Rattle.pli_language.specs.View.{arguments_of, expr_of, exprs_of, reference_of, qualified_of}
use Rattle.pli_typing.specs.Judging.{Scope}
use Rattle.pli_typing.specs.References.{Named, arguments, expression, expressions, names_referent, operand, qualified, reference, referred, written_locator}
use Rattle.pli_language.specs.Tree.{Expr, Plain, Qualified, Reference}
use Rattle.pli_operand.specs.Notes.{Noted, noted, with_lists}
use Rattle.pli_operand.proofs.Noting.{noted_append}
use Rattle.pli_language.specs.declared.expr.Place.{Place}
use Rattle.pli_language.specs.Declaring.{constant, place_of_expr, place_of_reference}
use Rattle.pli_typing.specs.Converting.{Operand, Referent}
use Rattle.pli_typing.specs.TypedTree as Y
use Rattle.pli_typing.specs.Operators.{infixed, prefixed}
use Rattle.pli_operand.specs.Shown.{operand_of}
use Rattle.pli_operand.specs.declared.operand.Operand.{Operand as OperandHeld}
use Rattle.pli_reference.specs.Parts.{infix_of}
use Rattle.pli_typing.proofs.ExpressionWeights.{expr_weight, exprs_weight, qualified_weight, reference_weight}
use Rattle.pli_reference.specs.declared.waiting.Waiting.{Waiting as WaitingHeld}
use Rattle.pli_reference.specs.declared.waiting.Waiting.TheVariants as W
use Rattle.pli_reference.specs.ShownWaiting.{names_weight, operator_weight, waiting_of, waiting_weight}
use Rattle.pli_reference.specs.Waiting.{Waiting, WaitingInfix, WaitingPrefix, chain, chain_of_locators, followed, located, resumed, taken}
use Rattle.pli_reference.proofs.Waits.{bind_fine, followed-behind, infix-step, located-step, prefix-step, resumed-behind}

pub chain-Prefix : (scope : Scope) (ws : List Waiting) (op : _) (b : _) (p : _) → chain scope ws (expr_of (E.Prefix op b p)) ≡ chain scope (ws ++ (WaitingPrefix op (expr_of (E.Prefix op b p)) ∷ [])) (expr_of b.value)
unfolding chain expr_of
chain-Prefix scope ws op b p = sym (prefix-step scope ws op (expr_of b.value) p)

pub chain-Infix : (scope : Scope) (ws : List Waiting) (op : _) (a b : _) → chain scope ws (expr_of (E.Infix op a b)) ≡ chain scope (ws ++ (WaitingInfix op (expr_of b.value) ∷ [])) (expr_of a.value)
unfolding chain expr_of
chain-Infix scope ws op a b = sym (infix-step scope ws op (expr_of a.value) (expr_of b.value))

pub chain-Located : (scope : Scope) (qs : List Qualified) (b : _) (q : _) → chain_of_locators scope qs (reference_of (R.Located b q)) ≡ chain_of_locators scope (qs ++ (qualified_of q ∷ [])) (reference_of b.value)
unfolding chain_of_locators reference_of
chain-Located scope qs b q = sym (located-step scope qs (reference_of b.value) (qualified_of q))

moved : (n m : ℕ) → n + 1 + m ≡ n + (m + 1)
moved n m = omega arith

turned : (n l r : ℕ) → n + (r + 1) + l ≡ n + (l + r + 1)
turned n l r = omega arith

-- a step down, as a loop makes it
pub prefix_same : (scope : Scope) (ws vs : List WaitingHeld) (whole : Bor ExprHeld) (op : _) (b : _) (p : _) (e : ExprHeld) → whole.now ≡ E.Prefix op b p → vs ≡ ws ++ (W.Prefix op whole ∷ []) → e ≡ b.value → chain scope (map waiting_of vs) (expr_of e) ≡ chain scope (map waiting_of ws) (expr_of whole.now)
prefix_same scope ws vs whole op b p e is push inner =
    ap₂ (λ us i. chain scope (map waiting_of us) (expr_of i)) push inner
    ∙ ap (λ us. chain scope us (expr_of b.value)) (map_push waiting_of ws (W.Prefix op whole))
    ∙ ap (λ w. chain scope (map waiting_of ws ++ (WaitingPrefix op (expr_of w) ∷ [])) (expr_of b.value)) is
    ∙ sym (chain-Prefix scope (map waiting_of ws) op b p)
    ∙ ap (λ w. chain scope (map waiting_of ws) (expr_of w)) (sym is)

pub infix_same : (scope : Scope) (ws vs : List WaitingHeld) (whole : ExprHeld) (right : Bor ExprHeld) (op : _) (a b : _) (e : ExprHeld) → whole ≡ E.Infix op a b → right.now ≡ b.value → vs ≡ ws ++ (W.Infix op right ∷ []) → e ≡ a.value → chain scope (map waiting_of vs) (expr_of e) ≡ chain scope (map waiting_of ws) (expr_of whole)
infix_same scope ws vs whole right op a b e is of_right push inner =
    ap₂ (λ us i. chain scope (map waiting_of us) (expr_of i)) push inner
    ∙ ap (λ us. chain scope us (expr_of a.value)) (map_push waiting_of ws (W.Infix op right))
    ∙ ap (λ w. chain scope (map waiting_of ws ++ (WaitingInfix op (expr_of w) ∷ [])) (expr_of a.value)) of_right
    ∙ sym (chain-Infix scope (map waiting_of ws) op a b)
    ∙ ap (λ w. chain scope (map waiting_of ws) (expr_of w)) (sym is)

weight_push : (ws : List WaitingHeld) (w : WaitingHeld) → waiting_weight (ws ++ (w ∷ [])) ≡ waiting_weight ws + operator_weight w
weight_push [] w = omega arith
weight_push (v ∷ ws) w = ap (λ n. operator_weight v + n) (weight_push ws w) ∙ sym (add_assoc (operator_weight v) (waiting_weight ws) (operator_weight w))

pub prefix_lighter : (ws vs : List WaitingHeld) (whole : Bor ExprHeld) (op : _) (b : _) (p : _) (e : ExprHeld) → whole.now ≡ E.Prefix op b p → vs ≡ ws ++ (W.Prefix op whole ∷ []) → e ≡ b.value → waiting_weight vs + expr_weight e ≡ waiting_weight ws + expr_weight whole.now
prefix_lighter ws vs whole op b p e is push inner =
    ap₂ (λ us i. waiting_weight us + expr_weight i) push inner
    ∙ ap (λ n. n + expr_weight b.value) (weight_push ws (W.Prefix op whole))
    ∙ moved (waiting_weight ws) (expr_weight b.value)
    ∙ ap (λ w. waiting_weight ws + expr_weight w) (sym is)

pub infix_lighter : (ws vs : List WaitingHeld) (whole : ExprHeld) (right : Bor ExprHeld) (op : _) (a b : _) (e : ExprHeld) → whole ≡ E.Infix op a b → right.now ≡ b.value → vs ≡ ws ++ (W.Infix op right ∷ []) → e ≡ a.value → waiting_weight vs + expr_weight e ≡ waiting_weight ws + expr_weight whole
infix_lighter ws vs whole right op a b e is of_right push inner =
    ap₂ (λ us i. waiting_weight us + expr_weight i) push inner
    ∙ ap (λ n. n + expr_weight a.value) (weight_push ws (W.Infix op right))
    ∙ ap (λ w. waiting_weight ws + (expr_weight w + 1) + expr_weight a.value) of_right
    ∙ turned (waiting_weight ws) (expr_weight a.value) (expr_weight b.value)
    ∙ ap (λ w. waiting_weight ws + expr_weight w) (sym is)

pub located_same : (target : Bor QualifiedHeld) (scope : Scope) (qs vs : List (Bor QualifiedHeld)) (whole : ReferenceHeld) (b : _) (q : _) (e : ReferenceHeld) → whole ≡ R.Located b q → target.now ≡ q → vs ≡ qs ++ (target ∷ []) → e ≡ b.value → chain_of_locators scope (map (λ p. qualified_of p.now) vs) (reference_of e) ≡ chain_of_locators scope (map (λ p. qualified_of p.now) qs) (reference_of whole)
located_same target scope qs vs whole b q e is of_target push inner =
    ap₂ (λ us i. chain_of_locators scope (map (λ p. qualified_of p.now) us) (reference_of i)) push inner
    ∙ ap (λ us. chain_of_locators scope us (reference_of b.value)) (map_push (λ p. qualified_of p.now) qs target)
    ∙ ap (λ t. chain_of_locators scope (map (λ p. qualified_of p.now) qs ++ (qualified_of t ∷ [])) (reference_of b.value)) of_target
    ∙ sym (chain-Located scope (map (λ p. qualified_of p.now) qs) b q)
    ∙ ap (λ w. chain_of_locators scope (map (λ p. qualified_of p.now) qs) (reference_of w)) (sym is)

names_push : (qs : List (Bor QualifiedHeld)) (q : Bor QualifiedHeld) → names_weight (qs ++ (q ∷ [])) ≡ names_weight qs + (qualified_weight q.now + 1)
names_push [] q = omega arith
names_push (p ∷ qs) q = ap (λ n. qualified_weight p.now + 1 + n) (names_push qs q) ∙ sym (add_assoc (qualified_weight p.now + 1) (names_weight qs) (qualified_weight q.now + 1))

pub located_lighter : (target : Bor QualifiedHeld) (qs vs : List (Bor QualifiedHeld)) (whole : ReferenceHeld) (b : _) (q : _) (e : ReferenceHeld) → whole ≡ R.Located b q → target.now ≡ q → vs ≡ qs ++ (target ∷ []) → e ≡ b.value → names_weight vs + reference_weight e ≡ names_weight qs + reference_weight whole
located_lighter target qs vs whole b q e is of_target push inner =
    ap₂ (λ us i. names_weight us + reference_weight i) push inner
    ∙ ap (λ n. n + reference_weight b.value) (names_push qs target)
    ∙ ap (λ t. names_weight qs + (qualified_weight t + 1) + reference_weight b.value) of_target
    ∙ turned (names_weight qs) (reference_weight b.value) (qualified_weight q)
    ∙ ap (λ w. names_weight qs + reference_weight w) (sym is)

-- the last that waits is no heavier than all
pub last_lighter : (ws vs : List WaitingHeld) (w : WaitingHeld) → ws ≡ vs ++ (w ∷ []) → waiting_weight ws ≡ waiting_weight vs + operator_weight w
last_lighter ws vs w e = ap waiting_weight e ∙ weight_push vs w

pub last_names_lighter : (qs vs : List (Bor QualifiedHeld)) (q : Bor QualifiedHeld) → qs ≡ vs ++ (q ∷ []) → names_weight qs ≡ names_weight vs + (qualified_weight q.now + 1)
last_names_lighter qs vs q e = ap names_weight e ∙ names_push vs q

pub plain_shown : (q : QualifiedHeld) → Plain (qualified_of q) ≡ reference_of (R.Plain q)
unfolding reference_of
plain_shown q = refl

-- what an operand comes to with the operators that wait for it
chain_whole : (scope : Scope) (root : Expr) → chain scope [] root ≡ operand scope root
unfolding chain
chain_whole scope root = bind_fine (operand scope root)

pub ended_noted : (n : Noted) (scope : Scope) (ws : List Waiting) (e root : Expr) (o : Operand) → (operand scope e).value ≡ o → chain scope ws e ≡ chain scope [] root → noted (noted n (expression scope e)) (resumed scope ws o) ≡ noted n (operand scope root)
unfolding chain
ended_noted n scope ws e root o is same =
    ap₂ (λ fs i. noted (with_lists n fs (expression scope e).mentions) (resumed scope ws i)) (sym (append-nil (expression scope e).faults)) (sym is)
    ∙ ap (λ ms. noted (with_lists n (operand scope e).faults ms) (resumed scope ws (operand scope e).value)) (sym (append-nil (expression scope e).mentions))
    ∙ sym (noted_append n (operand scope e).faults (resumed scope ws (operand scope e).value).faults (operand scope e).mentions (resumed scope ws (operand scope e).value).mentions)
    ∙ ap (noted n) (same ∙ chain_whole scope root)

pub ended_value : (scope : Scope) (ws : List Waiting) (e root : Expr) (o : Operand) → (operand scope e).value ≡ o → chain scope ws e ≡ chain scope [] root → (resumed scope ws o).value ≡ (operand scope root).value
unfolding chain
ended_value scope ws e root o is same = ap (λ i. (resumed scope ws i).value) (sym is) ∙ ap (λ j. j.value) (same ∙ chain_whole scope root)

chain_of_locators_whole : (scope : Scope) (root : Reference) → chain_of_locators scope [] root ≡ referred scope root
unfolding chain_of_locators
chain_of_locators_whole scope root = bind_fine (referred scope root)

pub followed_noted : (n : Noted) (scope : Scope) (qs : List Qualified) (e root : Reference) (o : Operand) → (referred scope e).value ≡ o → chain_of_locators scope qs e ≡ chain_of_locators scope [] root → noted (noted n (reference scope e)) (followed scope qs o) ≡ noted n (referred scope root)
unfolding chain_of_locators
followed_noted n scope qs e root o is same =
    ap₂ (λ fs i. noted (with_lists n fs (reference scope e).mentions) (followed scope qs i)) (sym (append-nil (reference scope e).faults)) (sym is)
    ∙ ap (λ ms. noted (with_lists n (referred scope e).faults ms) (followed scope qs (referred scope e).value)) (sym (append-nil (reference scope e).mentions))
    ∙ sym (noted_append n (referred scope e).faults (followed scope qs (referred scope e).value).faults (referred scope e).mentions (followed scope qs (referred scope e).value).mentions)
    ∙ ap (noted n) (same ∙ chain_of_locators_whole scope root)

pub followed_value : (scope : Scope) (qs : List Qualified) (e root : Reference) (o : Operand) → (referred scope e).value ≡ o → chain_of_locators scope qs e ≡ chain_of_locators scope [] root → (followed scope qs o).value ≡ (referred scope root).value
unfolding chain_of_locators
followed_value scope qs e root o is same = ap (λ i. (followed scope qs i).value) (sym is) ∙ ap (λ j. j.value) (same ∙ chain_of_locators_whole scope root)

-- a step up
pub taken_noted : (n : Noted) (scope : Scope) (ws vs : List WaitingHeld) (w : WaitingHeld) (o : Operand) → ws ≡ vs ++ (w ∷ []) → noted n (resumed scope (map waiting_of ws) o) ≡ noted (noted n (taken scope (waiting_of w) o)) (resumed scope (map waiting_of vs) (taken scope (waiting_of w) o).value)
taken_noted n scope ws vs w o pop =
    ap (λ us. noted n (resumed scope us o)) (ap (map waiting_of) pop ∙ map_push waiting_of vs w)
    ∙ ap (noted n) (resumed-behind scope (map waiting_of vs) (waiting_of w) o)
    ∙ noted_append n (taken scope (waiting_of w) o).faults (resumed scope (map waiting_of vs) (taken scope (waiting_of w) o).value).faults (taken scope (waiting_of w) o).mentions (resumed scope (map waiting_of vs) (taken scope (waiting_of w) o).value).mentions

pub taken_value : (scope : Scope) (ws vs : List WaitingHeld) (w : WaitingHeld) (o : Operand) → ws ≡ vs ++ (w ∷ []) → (resumed scope (map waiting_of ws) o).value ≡ (resumed scope (map waiting_of vs) (taken scope (waiting_of w) o).value).value
taken_value scope ws vs w o pop =
    ap (λ us. (resumed scope us o).value) (ap (map waiting_of) pop ∙ map_push waiting_of vs w)
    ∙ ap (λ j. j.value) (resumed-behind scope (map waiting_of vs) (waiting_of w) o)

pub located_noted : (n : Noted) (scope : Scope) (qs vs : List (Bor QualifiedHeld)) (q : Bor QualifiedHeld) (o : Operand) → qs ≡ vs ++ (q ∷ []) → noted n (followed scope (map (λ p. qualified_of p.now) qs) o) ≡ noted (noted n (located scope (qualified_of q.now) o)) (followed scope (map (λ p. qualified_of p.now) vs) (located scope (qualified_of q.now) o).value)
located_noted n scope qs vs q o pop =
    ap (λ us. noted n (followed scope us o)) (ap (map (λ p. qualified_of p.now)) pop ∙ map_push (λ p. qualified_of p.now) vs q)
    ∙ ap (noted n) (followed-behind scope (map (λ p. qualified_of p.now) vs) (qualified_of q.now) o)
    ∙ noted_append n (located scope (qualified_of q.now) o).faults (followed scope (map (λ p. qualified_of p.now) vs) (located scope (qualified_of q.now) o).value).faults (located scope (qualified_of q.now) o).mentions (followed scope (map (λ p. qualified_of p.now) vs) (located scope (qualified_of q.now) o).value).mentions

pub located_value : (scope : Scope) (qs vs : List (Bor QualifiedHeld)) (q : Bor QualifiedHeld) (o : Operand) → qs ≡ vs ++ (q ∷ []) → (followed scope (map (λ p. qualified_of p.now) qs) o).value ≡ (followed scope (map (λ p. qualified_of p.now) vs) (located scope (qualified_of q.now) o).value).value
located_value scope qs vs q o pop =
    ap (λ us. (followed scope us o).value) (ap (map (λ p. qualified_of p.now)) pop ∙ map_push (λ p. qualified_of p.now) vs q)
    ∙ ap (λ j. j.value) (followed-behind scope (map (λ p. qualified_of p.now) vs) (qualified_of q.now) o)

-- lists, element by element
pub listed_noted : (n m : Noted) (scope : Scope) (whole es : ExprsHeld) (a b : _) (e : ExprHeld) → whole ≡ L.More a b → e ≡ a.value → es ≡ b.value → m ≡ noted n (operand scope (expr_of e)) → noted m (expressions scope (exprs_of es)) ≡ noted n (expressions scope (exprs_of whole))
unfolding expressions exprs_of
listed_noted n m scope whole es a b e is first rest got =
    ap₂ (λ k i. noted k (expressions scope (exprs_of i))) got rest
    ∙ ap (λ i. noted (noted n (operand scope (expr_of i))) (expressions scope (exprs_of b.value))) first
    ∙ sym (noted_append n (operand scope (expr_of a.value)).faults (expressions scope (exprs_of b.value)).faults (operand scope (expr_of a.value)).mentions (expressions scope (exprs_of b.value)).mentions)
    ∙ ap₂ (λ fs ms. with_lists n ((operand scope (expr_of a.value)).faults ++ fs) ((operand scope (expr_of a.value)).mentions ++ ms)) (sym (append-nil (expressions scope (exprs_of b.value)).faults)) (sym (append-nil (expressions scope (exprs_of b.value)).mentions))
    ∙ ap (λ w. noted n (expressions scope (exprs_of w))) (sym is)

pub listed_value : (scope : Scope) (whole es : ExprsHeld) (a b : _) (e : ExprHeld) (out new : List OperandHeld) (x : OperandHeld) → whole ≡ L.More a b → e ≡ a.value → es ≡ b.value → operand_of x ≡ (operand scope (expr_of e)).value → new ≡ out ++ (x ∷ []) → map operand_of new ++ (expressions scope (exprs_of es)).value ≡ map operand_of out ++ (expressions scope (exprs_of whole)).value
unfolding expressions exprs_of
listed_value scope whole es a b e out new x is first rest got push =
    ap₂ (λ us i. map operand_of us ++ (expressions scope (exprs_of i)).value) push rest
    ∙ ap (λ us. us ++ (expressions scope (exprs_of b.value)).value) (map_push operand_of out x)
    ∙ append_assoc (map operand_of out) (operand_of x ∷ []) (expressions scope (exprs_of b.value)).value
    ∙ ap (λ o. map operand_of out ++ (o ∷ (expressions scope (exprs_of b.value)).value)) (got ∙ ap (λ i. (operand scope (expr_of i)).value) first)
    ∙ ap (λ w. map operand_of out ++ (expressions scope (exprs_of w)).value) (sym is)

pub listed_lighter : (whole es : ExprsHeld) (a b : _) → whole ≡ L.More a b → es ≡ b.value → exprs_weight whole ≡ expr_weight a.value + exprs_weight es + 1
listed_lighter whole es a b is rest = ap exprs_weight is ∙ ap (λ i. expr_weight a.value + exprs_weight i + 1) (sym rest)

-- the last name of a reference
pub last_noted : (n m : Noted) (scope : Scope) (whole : QualifiedHeld) (name : _) (args given : _) → whole ≡ Q.Last name args → given ≡ args → m ≡ noted n (arguments scope (arguments_of given)) → m ≡ noted n (qualified scope (qualified_of whole))
unfolding qualified qualified_of
last_noted n m scope whole name args given is same got =
    got
    ∙ ap (λ g. noted n (arguments scope (arguments_of g))) same
    ∙ ap₂ (λ fs ms. with_lists n fs ms) (sym (append-nil (arguments scope (arguments_of args)).faults)) (sym (append-nil (arguments scope (arguments_of args)).mentions))
    ∙ ap (λ w. noted n (qualified scope (qualified_of w))) (sym is)

-- what a prefix operator makes of its operand, and an infix one of its left one, as a loop has it
pub prefix_noted : (n m : Noted) (scope : Scope) (w : WaitingHeld) (op : _) (whole : Bor ExprHeld) (o : Operand) → w ≡ W.Prefix op whole → m ≡ noted n (prefixed op o) → m ≡ noted n (taken scope (waiting_of w) o)
prefix_noted n m scope w op whole o is got =
    got
    ∙ ap₂ (λ fs ms. with_lists n fs ms) (sym (append-nil (prefixed op o).faults)) (sym (append-nil (prefixed op o).mentions))
    ∙ ap (λ v. noted n (taken scope (waiting_of v) o)) (sym is)

pub infix_noted : (n m : Noted) (scope : Scope) (w : WaitingHeld) (op : _) (right : Bor ExprHeld) (o : Operand) → w ≡ W.Infix op right → m ≡ noted n (infix_of scope op o (expr_of right.now)) → m ≡ noted n (taken scope (waiting_of w) o)
infix_noted n m scope w op right o is got =
    got
    ∙ ap₂ (λ fs ms. with_lists n ((operand scope (expr_of right.now)).faults ++ fs) ((operand scope (expr_of right.now)).mentions ++ ms)) (sym (append-nil (infixed op o (operand scope (expr_of right.now)).value).faults)) (sym (append-nil (infixed op o (operand scope (expr_of right.now)).value).mentions))
    ∙ ap (λ v. noted n (taken scope (waiting_of v) o)) (sym is)

-- operands, from what is known of their parts
abbrev pub made_of : Place → Option ℤ → Referent → Operand
made_of p k r = record { place = p; constant = k; referent = r }

made : (p q : Place) (k l : Option ℤ) (r s : Referent) → p ≡ q → k ≡ l → r ≡ s → made_of p k r ≡ made_of q l s
made p q k l r s places constants referents = ap₂ (λ i j. made_of i j r) places constants ∙ ap (made_of q l) referents

pub first_operand : (scope : Scope) (e : Expr) (p : Place) (k : Option ℤ) (r : Referent) → p ≡ place_of_expr e → k ≡ constant e → r ≡ (expression scope e).value → (operand scope e).value ≡ made_of p k r
first_operand scope e p k r places constants referents =
    sym (made p (place_of_expr e) k (constant e) r (expression scope e).value places constants referents)

pub prefix_value : (scope : Scope) (w : WaitingHeld) (op : _) (whole : Bor ExprHeld) (o : Operand) (p : Place) (k : Option ℤ) (r : Referent) → w ≡ W.Prefix op whole → p ≡ place_of_expr (expr_of whole.now) → k ≡ constant (expr_of whole.now) → r ≡ (prefixed op o).value → made_of p k r ≡ (taken scope (waiting_of w) o).value
prefix_value scope w op whole o p k r is places constants referents =
    made p (place_of_expr (expr_of whole.now)) k (constant (expr_of whole.now)) r (prefixed op o).value places constants referents
    ∙ ap (λ v. (taken scope (waiting_of v) o).value) (sym is)

pub infix_value : (scope : Scope) (w : WaitingHeld) (op : _) (right : Bor ExprHeld) (o : Operand) (r : Referent) → w ≡ W.Infix op right → r ≡ (infix_of scope op o (expr_of right.now)).value → made_of o.place None r ≡ (taken scope (waiting_of w) o).value
infix_value scope w op right o r is referents =
    ap (made_of o.place None) referents
    ∙ ap (λ v. (taken scope (waiting_of v) o).value) (sym is)

-- one operator is taken, as the loop has it
pub up_noted : (n m : Noted) (scope : Scope) (ws vs : List WaitingHeld) (w : WaitingHeld) (o i : Operand) → ws ≡ vs ++ (w ∷ []) → m ≡ noted n (taken scope (waiting_of w) o) → i ≡ (taken scope (waiting_of w) o).value → noted m (resumed scope (map waiting_of vs) i) ≡ noted n (resumed scope (map waiting_of ws) o)
up_noted n m scope ws vs w o i pop got is =
    ap₂ (λ k j. noted k (resumed scope (map waiting_of vs) j)) got is ∙ sym (taken_noted n scope ws vs w o pop)

pub up_value : (scope : Scope) (ws vs : List WaitingHeld) (w : WaitingHeld) (o i : Operand) → ws ≡ vs ++ (w ∷ []) → i ≡ (taken scope (waiting_of w) o).value → (resumed scope (map waiting_of vs) i).value ≡ (resumed scope (map waiting_of ws) o).value
up_value scope ws vs w o i pop is =
    ap (λ j. (resumed scope (map waiting_of vs) j).value) is ∙ sym (taken_value scope ws vs w o pop)

pub infix_weighs : (w : WaitingHeld) (op : _) (right : Bor ExprHeld) → w ≡ W.Infix op right → operator_weight w ≡ expr_weight right.now + 1
infix_weighs w op right is = ap operator_weight is

-- names without a locator
pub plain_noted : (n m k : Noted) (scope : Scope) (q : Qualified) (ns : List Named) → m ≡ noted n (qualified scope q) → ns ≡ (qualified scope q).value → k ≡ noted m (names_referent scope Y.NotLocated ns) → k ≡ noted n (reference scope (Plain q))
unfolding reference
plain_noted n m k scope q ns names is got =
    got
    ∙ ap₂ (λ i j. noted i (names_referent scope Y.NotLocated j)) names is
    ∙ sym (noted_append n (qualified scope q).faults (names_referent scope Y.NotLocated (qualified scope q).value).faults (qualified scope q).mentions (names_referent scope Y.NotLocated (qualified scope q).value).mentions)

followed-place : (scope : Scope) (qs : List Qualified) (o : Operand) → (followed scope qs o).value.place ≡ o.place
followed-place scope [] o = refl
followed-place scope (q ∷ qs) o = followed-place scope qs o

-- a reference begins where its first names begin
first_place : (scope : Scope) (qs : List Qualified) (e root : Reference) → chain_of_locators scope qs e ≡ chain_of_locators scope [] root → place_of_reference e ≡ place_of_reference root
unfolding chain_of_locators
first_place scope qs e root same = sym (followed-place scope qs (referred scope e).value) ∙ ap (λ j. j.value.place) same

pub first_reference : (scope : Scope) (qs : List Qualified) (q : Qualified) (root : Reference) (p : Place) (r : Referent) (ns : List Named) → chain_of_locators scope qs (Plain q) ≡ chain_of_locators scope [] root → p ≡ place_of_reference root → ns ≡ (qualified scope q).value → r ≡ (names_referent scope Y.NotLocated ns).value → (referred scope (Plain q)).value ≡ made_of p None r
unfolding reference
first_reference scope qs q root p r ns same places is referents =
    sym (made p (place_of_reference (Plain q)) None None r (reference scope (Plain q)).value (places ∙ sym (first_place scope qs (Plain q) root same)) refl (referents ∙ ap (λ i. (names_referent scope Y.NotLocated i).value) is))

-- names behind a locator, as the loop has them
pub behind_noted : (n w k m : Noted) (scope : Scope) (q : Qualified) (o : Operand) (l : Y.Locator) (ns : List Named) → w ≡ noted n (written_locator o) → l ≡ (written_locator o).value → k ≡ noted w (qualified scope q) → ns ≡ (qualified scope q).value → m ≡ noted k (names_referent scope l ns) → m ≡ noted n (located scope q o)
behind_noted n w k m scope q o l ns locator by names is got =
    let first = written_locator o in
    let second = qualified scope q in
    let third = names_referent scope first.value second.value in
    got
    ∙ ap₂ (λ i j. noted i (names_referent scope l j)) (names ∙ ap (λ i. noted i second) locator) is
    ∙ ap (λ i. noted (noted (noted n first) second) (names_referent scope i second.value)) by
    ∙ sym (noted_append (noted n first) second.faults third.faults second.mentions third.mentions)
    ∙ sym (noted_append n first.faults (second.faults ++ third.faults) first.mentions (second.mentions ++ third.mentions))
    ∙ ap₂ (λ fs ms. with_lists n (first.faults ++ (second.faults ++ fs)) (first.mentions ++ (second.mentions ++ ms))) (sym (append-nil third.faults)) (sym (append-nil third.mentions))

pub behind_value : (scope : Scope) (q : Qualified) (o : Operand) (l : Y.Locator) (ns : List Named) (r : Referent) → l ≡ (written_locator o).value → ns ≡ (qualified scope q).value → r ≡ (names_referent scope l ns).value → made_of o.place None r ≡ (located scope q o).value
behind_value scope q o l ns r by is referents =
    ap (made_of o.place None) (referents ∙ ap₂ (λ i j. (names_referent scope i j).value) by is)

pub onward_noted : (n m : Noted) (scope : Scope) (qs vs : List (Bor QualifiedHeld)) (q : Bor QualifiedHeld) (o i : Operand) → qs ≡ vs ++ (q ∷ []) → m ≡ noted n (located scope (qualified_of q.now) o) → i ≡ (located scope (qualified_of q.now) o).value → noted m (followed scope (map (λ p. qualified_of p.now) vs) i) ≡ noted n (followed scope (map (λ p. qualified_of p.now) qs) o)
onward_noted n m scope qs vs q o i pop got is =
    ap₂ (λ k j. noted k (followed scope (map (λ p. qualified_of p.now) vs) j)) got is ∙ sym (located_noted n scope qs vs q o pop)

pub onward_value : (scope : Scope) (qs vs : List (Bor QualifiedHeld)) (q : Bor QualifiedHeld) (o i : Operand) → qs ≡ vs ++ (q ∷ []) → i ≡ (located scope (qualified_of q.now) o).value → (followed scope (map (λ p. qualified_of p.now) vs) i).value ≡ (followed scope (map (λ p. qualified_of p.now) qs) o).value
onward_value scope qs vs q o i pop is =
    ap (λ j. (followed scope (map (λ p. qualified_of p.now) vs) j).value) is ∙ sym (located_value scope qs vs q o pop)

pub ruleset chains = (map-append, chain-Prefix, chain-Infix, chain-Located)
