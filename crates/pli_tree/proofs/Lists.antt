-- Lists of statements: from their last one on, and what one more item comes to.
use Rattle.std.proofs.Common.{◌≡◌, ◌∙◌, ◌+◌, ℕ, List, [], ◌∷◌, ◌++◌, map, length, refl, sym, ap, ap₂, arith, append_assoc, append-nil, length-append}
use Rattle.std.specs.Prelude.{Option, Some, None, Result, Ok, Err, OnOk}
use Rattle.pli_language.specs.declared.expr.Place.{Place}
use Rattle.pli_language.specs.declared.fault.SourceFault.{SourceFault}
use Rattle.pli_language.specs.Declarations.{blocks_in, blocks_in_item, blocks_in_stmt}
use Rattle.pli_language.specs.Refusals.{soonest}
use Rattle.pli_typing.specs.Resolving as Z
use Rattle.pli_typing.specs.SingleStatements.{Context}
use Rattle.pli_language.specs.Tree as T
use Rattle.pli_typing.specs.TypedTree as Y
use Rattle.pli_language.proofs.Least.{soonest-append}
use Rattle.pli_tree.specs.Shown.{Part, behind_items, ended, item_resolved, parts_onto}

-- ---- statements before the rest of a list

pub onto_none : (rest : Y.Stmts) → parts_onto [] rest ≡ rest
unfolding parts_onto
onto_none rest = refl

pub onto_snoc : (ps : List Part) (p : Part) (rest : Y.Stmts) → parts_onto (ps ++ p ∷ []) rest ≡ parts_onto ps (Y.StmtThen p.labels p.statement rest)
unfolding parts_onto
onto_snoc [] p rest = refl
onto_snoc (q ∷ ps) p rest = ap (Y.StmtThen q.labels q.statement) (onto_snoc ps p rest)

onto_append : (ps qs : List Part) (rest : Y.Stmts) → parts_onto (ps ++ qs) rest ≡ parts_onto ps (parts_onto qs rest)
unfolding parts_onto
onto_append [] qs rest = refl
onto_append (p ∷ ps) qs rest = ap (Y.StmtThen p.labels p.statement) (onto_append ps qs rest)

-- ---- an item that isn't END, with what stands behind it

none_more : (n : ℕ) → n ≡ n + 0
none_more n = omega arith

item_faults : (c : Context) (n : ℕ) (i : T.Item) (is : T.Items) → ended i ≡ None → (Z.statements c n (T.ItemThen i is)).faults ≡ (item_resolved c n i).faults ++ (Z.statements c (Z.behind_item c n i) is).faults
unfolding Z.statements item_resolved ended blocks_in_item
item_faults c n (T.Procedure head body) is e = refl
item_faults c n (T.Declare items place) is e = ap (λ m. (Z.statements c m is).faults) (none_more n)
item_faults c n (T.Statement labels s) is e = ap (λ fs. (Z.statement c n s).faults ++ fs) (append-nil (Z.statements c (Z.behind_stmt c n s) is).faults)
item_faults c n (T.EndLabels labels place) is e = absurd (cc e)

item_procedures : (c : Context) (n : ℕ) (i : T.Item) (is : T.Items) → ended i ≡ None → (Z.statements c n (T.ItemThen i is)).procedures ≡ (item_resolved c n i).procedures ++ (Z.statements c (Z.behind_item c n i) is).procedures
unfolding Z.statements item_resolved ended blocks_in_item
item_procedures c n (T.Procedure head body) is e = refl
item_procedures c n (T.Declare items place) is e = ap (λ m. (Z.statements c m is).procedures) (none_more n)
item_procedures c n (T.Statement labels s) is e = ap (λ fs. (Z.statement c n s).procedures ++ fs) (append-nil (Z.statements c (Z.behind_stmt c n s) is).procedures)
item_procedures c n (T.EndLabels labels place) is e = absurd (cc e)

item_value : (c : Context) (n : ℕ) (i : T.Item) (is : T.Items) → ended i ≡ None → (Z.statements c n (T.ItemThen i is)).value ≡ parts_onto (item_resolved c n i).value (Z.statements c (Z.behind_item c n i) is).value
unfolding Z.statements item_resolved ended blocks_in_item parts_onto
item_value c n (T.Procedure head body) is e = refl
item_value c n (T.Declare items place) is e = ap (λ m. (Z.statements c m is).value) (none_more n)
item_value c n (T.Statement labels s) is e = refl
item_value c n (T.EndLabels labels place) is e = absurd (cc e)

item_blocks : (c : Context) (n : ℕ) (i : T.Item) (is : T.Items) → behind_items c n (T.ItemThen i is) ≡ behind_items c (Z.behind_item c n i) is
unfolding blocks_in
item_blocks c n i is = omega (arith, length-append (blocks_in_item c.around n i) (blocks_in c.around (Z.behind_item c n i) is))

pub found_on : (c : Context) (n k : ℕ) (s m : Option SourceFault) (i : T.Item) (is ys : T.Items) → ys ≡ T.ItemThen i is → ended i ≡ None → k ≡ Z.behind_item c n i → m ≡ soonest s (item_resolved c n i).faults → soonest m (Z.statements c k is).faults ≡ soonest s (Z.statements c n ys).faults
found_on c n k s m i is ys here on there found =
    ap₂ (λ o j. soonest o (Z.statements c j is).faults) found there
    ∙ sym (soonest-append s (item_resolved c n i).faults (Z.statements c (Z.behind_item c n i) is).faults)
    ∙ ap (soonest s) (sym (item_faults c n i is on))
    ∙ ap (λ xs. soonest s (Z.statements c n xs).faults) (sym here)

pub procedures_on : (c : Context) (n k : ℕ) (ps qs : List Y.Procedure) (i : T.Item) (is ys : T.Items) → ys ≡ T.ItemThen i is → ended i ≡ None → k ≡ Z.behind_item c n i → qs ≡ ps ++ (item_resolved c n i).procedures → qs ++ (Z.statements c k is).procedures ≡ ps ++ (Z.statements c n ys).procedures
procedures_on c n k ps qs i is ys here on there put =
    ap₂ (λ rs j. rs ++ (Z.statements c j is).procedures) put there
    ∙ append_assoc ps (item_resolved c n i).procedures (Z.statements c (Z.behind_item c n i) is).procedures
    ∙ ap (λ rs. ps ++ rs) (sym (item_procedures c n i is on))
    ∙ ap (λ xs. ps ++ (Z.statements c n xs).procedures) (sym here)

pub value_on : (c : Context) (n k : ℕ) (ps qs : List Part) (i : T.Item) (is ys : T.Items) → ys ≡ T.ItemThen i is → ended i ≡ None → k ≡ Z.behind_item c n i → qs ≡ ps ++ (item_resolved c n i).value → parts_onto qs (Z.statements c k is).value ≡ parts_onto ps (Z.statements c n ys).value
value_on c n k ps qs i is ys here on there put =
    ap₂ (λ rs j. parts_onto rs (Z.statements c j is).value) put there
    ∙ onto_append ps (item_resolved c n i).value (Z.statements c (Z.behind_item c n i) is).value
    ∙ ap (parts_onto ps) (sym (item_value c n i is on))
    ∙ ap (λ xs. parts_onto ps (Z.statements c n xs).value) (sym here)

pub behind_on : (c : Context) (n k : ℕ) (i : T.Item) (is ys : T.Items) → ys ≡ T.ItemThen i is → k ≡ Z.behind_item c n i → behind_items c k is ≡ behind_items c n ys
behind_on c n k i is ys here there = ap (λ j. behind_items c j is) there ∙ sym (item_blocks c n i is) ∙ ap (behind_items c n) (sym here)

-- ---- END

end_is : (c : Context) (n : ℕ) (i : T.Item) (is : T.Items) (ls : List T.Name) → ended i ≡ Some ls → Z.statements c n (T.ItemThen i is) ≡ Z.done (Y.EndOfList (Z.letters_of ls))
unfolding Z.statements ended
end_is c n (T.Procedure head body) is ls e = absurd (cc e)
end_is c n (T.Declare items place) is ls e = absurd (cc e)
end_is c n (T.Statement labels s) is ls e = absurd (cc e)
end_is c n (T.EndLabels labels place) is ls e = ap (λ ns. Z.done (Y.EndOfList (Z.letters_of ns))) (cc e)

end_behind : (c : Context) (n : ℕ) (i : T.Item) (ls : List T.Name) → ended i ≡ Some ls → Z.behind_item c n i ≡ n
unfolding ended blocks_in_item
end_behind c n (T.Procedure head body) ls e = absurd (cc e)
end_behind c n (T.Declare items place) ls e = absurd (cc e)
end_behind c n (T.Statement labels s) ls e = absurd (cc e)
end_behind c n (T.EndLabels labels place) ls e = sym (none_more n)

pub end_here : (c : Context) (n : ℕ) (i : T.Item) (is ys : T.Items) (ls : List T.Name) → ys ≡ T.ItemThen i is → ended i ≡ Some ls → Z.statements c n ys ≡ Z.done (Y.EndOfList (Z.letters_of ls))
end_here c n i is ys ls here e = ap (Z.statements c n) here ∙ end_is c n i is ls e

pub behind_end : (c : Context) (n k : ℕ) (i : T.Item) (is ys : T.Items) (ls : List T.Name) → ys ≡ T.ItemThen i is → ended i ≡ Some ls → k ≡ behind_items c n is → k ≡ behind_items c n ys
behind_end c n k i is ys ls here e there = there ∙ ap (λ j. behind_items c j is) (sym (end_behind c n i ls e)) ∙ sym (item_blocks c n i is) ∙ ap (behind_items c n) (sym here)

-- ---- IF with ELSE

pub behind_both : (c : Context) (n₀ n₁ n₂ n₃ : ℕ) (e : T.Expr) (u o : T.Stmt) (p : Place) → n₁ ≡ n₀ → n₂ ≡ Z.behind_stmt c n₁ u → n₃ ≡ Z.behind_stmt c n₂ o → n₃ ≡ Z.behind_stmt c n₀ (T.IfElse e u o p)
unfolding blocks_in_stmt
behind_both c n₀ n₁ n₂ n₃ e u o p h₁ h₂ h₃ =
    h₃
    ∙ ap (λ m. Z.behind_stmt c m o) (h₂ ∙ ap (λ m. Z.behind_stmt c m u) h₁)
    ∙ omega (arith, length-append (blocks_in_stmt c.around n₀ u) (blocks_in_stmt c.around (Z.behind_stmt c n₀ u) o))

-- ---- what a match and a call leave

pub none_when : {X : Type 0} (o : Option X) → ((x : X) → ¬ (o ≡ Some x)) → o ≡ None
none_when None other = refl
none_when (Some x) other = absurd (other x refl)

pub on_ok : {X E P : Type 0} (r : Result X E) → P → OnOk r P
on_ok (Ok x) p = p
on_ok (Err e) p = tt
