-- A chain of operators or of locators, judged from its innermost operand out, is judged as the tree says.
use Rattle.std.proofs.Common.{◌≡◌, ◌∙◌, ◌++◌, List, [], ◌∷◌, None, sym, ap, ap₂}
use Rattle.std.proofs.Common.{append_assoc, append-nil}
use Rattle.pli_language.specs.declared.expr.InfixOp.{InfixOp}
use Rattle.pli_language.specs.declared.expr.Place.{Place}
use Rattle.pli_language.specs.declared.expr.PrefixOp.{PrefixOp}
use Rattle.pli_language.specs.Declaring.{constant, place_of_expr, place_of_reference}
use Rattle.pli_typing.specs.TypedTree.{Locator}
use Rattle.pli_language.specs.Tree.{Expr, Infix, Located, Prefix, Qualified, Reference}
use Rattle.pli_typing.specs.Judging.{Judged, Scope, after, fine, ◌>>=◌}
use Rattle.pli_typing.specs.Converting.{Operand}
use Rattle.pli_typing.specs.Operators.{infixed, prefixed}
use Rattle.pli_typing.specs.References.{Named, expression, names_referent, operand, qualified, reference, referred, written_locator}
use Rattle.pli_reference.specs.Waiting.{Waiting, WaitingInfix, WaitingPrefix, followed, located, resumed, taken}

bind_assoc : {X Y Z : Type 0} (j : Judged X) (f : X → Judged Y) (g : Y → Judged Z) → ((j >>= f) >>= g) ≡ (j >>= λ x. f x >>= g)
bind_assoc j f g = ap₂ (λ fs ms. record { faults = fs; mentions = ms; value = (g (f j.value).value).value }) (append_assoc j.faults (f j.value).faults (g (f j.value).value).faults) (append_assoc j.mentions (f j.value).mentions (g (f j.value).value).mentions)

pub bind_fine : {X : Type 0} (j : Judged X) → (j >>= fine) ≡ j
bind_fine j = ap₂ (λ fs ms. record { faults = fs; mentions = ms; value = j.value }) (append-nil j.faults) (append-nil j.mentions)

-- the innermost operator takes its operand first
pub resumed-behind : (scope : Scope) (ws : List Waiting) (w : Waiting) (o : Operand) → resumed scope (ws ++ (w ∷ [])) o ≡ (taken scope w o >>= resumed scope ws)
resumed-behind scope [] w o = sym (bind_fine (taken scope w o))
resumed-behind scope (v ∷ ws) w o = ap (λ j. j >>= taken scope v) (resumed-behind scope ws w o) ∙ bind_assoc (taken scope w o) (resumed scope ws) (taken scope v)

pub followed-behind : (scope : Scope) (qs : List Qualified) (q : Qualified) (o : Operand) → followed scope (qs ++ (q ∷ [])) o ≡ (located scope q o >>= followed scope qs)
followed-behind scope [] q o = sym (bind_fine (located scope q o))
followed-behind scope (p ∷ qs) q o = ap (λ j. j >>= located scope p) (followed-behind scope qs q o) ∙ bind_assoc (located scope q o) (followed scope qs) (located scope p)

prefix-waits : (scope : Scope) (op : PrefixOp) (e : Expr) (p : Place) → operand scope (Prefix op e p) ≡ (operand scope e >>= taken scope (WaitingPrefix op (Prefix op e p)))
unfolding expression
prefix-waits scope op e p = bind_assoc (operand scope e) (prefixed op) (λ r. fine (record { place = p; constant = constant (Prefix op e p); referent = r }))

infix-waits : (scope : Scope) (op : InfixOp) (l r : Expr) → operand scope (Infix op l r) ≡ (operand scope l >>= taken scope (WaitingInfix op r))
unfolding expression
infix-waits scope op l r = bind_assoc (operand scope l) (λ a. operand scope r >>= λ b. infixed op a b) (λ r'. fine (record { place = place_of_expr l; constant = None; referent = r' })) ∙ ap (after (operand scope l)) (bind_assoc (operand scope r) (infixed op (operand scope l).value) (λ r'. fine (record { place = place_of_expr l; constant = None; referent = r' })))

-- what stands behind a locator, with what is made of it
behind_locator : {X Y : Type 0} (scope : Scope) (q : Qualified) (o : Operand) (next : Locator → List Named → Judged X) (made : X → Judged Y) → ((written_locator o >>= λ locator. qualified scope q >>= λ ns. next locator ns) >>= made) ≡ (written_locator o >>= λ locator. qualified scope q >>= λ ns. next locator ns >>= made)
behind_locator scope q o next made = bind_assoc (written_locator o) (λ locator. qualified scope q >>= λ ns. next locator ns) made ∙ ap (after (written_locator o)) (bind_assoc (qualified scope q) (next (written_locator o).value) made)

located-waits : (scope : Scope) (l : Reference) (q : Qualified) → referred scope (Located l q) ≡ (referred scope l >>= located scope q)
unfolding reference
located-waits scope l q = bind_assoc (referred scope l) (λ o. written_locator o >>= λ locator. qualified scope q >>= λ ns. names_referent scope locator ns) (λ r. fine (record { place = place_of_reference l; constant = None; referent = r })) ∙ ap (after (referred scope l)) (behind_locator scope q (referred scope l).value (names_referent scope) (λ r. fine (record { place = place_of_reference l; constant = None; referent = r })))

-- one step down a chain
pub prefix-step : (scope : Scope) (ws : List Waiting) (op : PrefixOp) (e : Expr) (p : Place) → (operand scope e >>= resumed scope (ws ++ (WaitingPrefix op (Prefix op e p) ∷ []))) ≡ (operand scope (Prefix op e p) >>= resumed scope ws)
prefix-step scope ws op e p = ap (after (operand scope e)) (resumed-behind scope ws (WaitingPrefix op (Prefix op e p)) (operand scope e).value) ∙ sym (bind_assoc (operand scope e) (taken scope (WaitingPrefix op (Prefix op e p))) (resumed scope ws)) ∙ ap (λ j. j >>= resumed scope ws) (sym (prefix-waits scope op e p))

pub infix-step : (scope : Scope) (ws : List Waiting) (op : InfixOp) (l r : Expr) → (operand scope l >>= resumed scope (ws ++ (WaitingInfix op r ∷ []))) ≡ (operand scope (Infix op l r) >>= resumed scope ws)
infix-step scope ws op l r = ap (after (operand scope l)) (resumed-behind scope ws (WaitingInfix op r) (operand scope l).value) ∙ sym (bind_assoc (operand scope l) (taken scope (WaitingInfix op r)) (resumed scope ws)) ∙ ap (λ j. j >>= resumed scope ws) (sym (infix-waits scope op l r))

pub located-step : (scope : Scope) (qs : List Qualified) (l : Reference) (q : Qualified) → (referred scope l >>= followed scope (qs ++ (q ∷ []))) ≡ (referred scope (Located l q) >>= followed scope qs)
located-step scope qs l q = ap (after (referred scope l)) (followed-behind scope qs q (referred scope l).value) ∙ sym (bind_assoc (referred scope l) (located scope q) (followed scope qs)) ∙ ap (λ j. j >>= followed scope qs) (sym (located-waits scope l q))
