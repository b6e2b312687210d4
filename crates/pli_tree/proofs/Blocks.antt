-- What blocks declare, one after the other, and a whole program.
use Rattle.std.proofs.Common.{◌≡◌, ◌∙◌, ◌+◌, ℕ, List, [], ◌∷◌, ◌++◌, map, slice_get, refl, sym, ap, ap₂, subst, append-nil}
use Rattle.std.specs.Prelude.{Option, None, unwrap_or, MatchOption}
use Rattle.pli_language.specs.declared.fault.SourceFault.{SourceFault}
use Rattle.pli_language.specs.Declarations.{Block, blocks_of}
use Rattle.pli_typing.specs.Generations.{declared_variables}
use Rattle.pli_language.specs.Refusals.{least, soonest}
use Rattle.pli_typing.specs.Resolving as Z
use Rattle.pli_language.specs.Tree as T
use Rattle.pli_typing.specs.TypedTree as Y
use Rattle.pli_language.proofs.Least.{least_found, soonest-append}

pub holder_is : (around : List ℕ) → unwrap_or (slice_get around 1) 0 ≡ Z.holder_of around
holder_is [] = refl
holder_is (b ∷ []) = refl
holder_is (b ∷ holder ∷ around) = refl

-- ---- one block more

abbrev declared_at : List Block → ℕ → Z.Resolved (List Y.DeclaredVariable)
declared_at blocks n = Z.of_judged (declared_variables (record { blocks = blocks; block = n }))

faults_then : (blocks : List Block) (n : ℕ) (b : Block) (bs : List Block) → (Z.block_variables blocks n (b ∷ bs)).faults ≡ (Z.head_demanded blocks b b.head).faults ++ ((declared_at blocks n).faults ++ ((Z.block_variables blocks (n + 1) bs).faults ++ []))
faults_then blocks n b bs = refl

pub found_on : (blocks : List Block) (n : ℕ) (s m o : Option SourceFault) (b : Block) (bs cs : List Block) → cs ≡ b ∷ bs → m ≡ soonest s (Z.head_demanded blocks b b.head).faults → o ≡ soonest m (declared_at blocks n).faults → soonest o (Z.block_variables blocks (n + 1) bs).faults ≡ soonest s (Z.block_variables blocks n cs).faults
found_on blocks n s m o b bs cs here head own =
    let h = (Z.head_demanded blocks b b.head).faults in
    let v = (declared_at blocks n).faults in
    let more = (Z.block_variables blocks (n + 1) bs).faults in
    ap (λ x. soonest x more) (own ∙ ap (λ x. soonest x v) head)
    ∙ sym (soonest-append (soonest s h) v more)
    ∙ sym (soonest-append s h (v ++ more))
    ∙ ap (λ fs. soonest s (h ++ (v ++ fs))) (sym (append-nil more))
    ∙ ap (soonest s) (sym (faults_then blocks n b bs))
    ∙ ap (λ xs. soonest s (Z.block_variables blocks n xs).faults) (sym here)

pub found_end : (blocks : List Block) (n : ℕ) (s : Option SourceFault) (cs : List Block) → cs ≡ [] → s ≡ soonest s (Z.block_variables blocks n cs).faults
unfolding soonest
found_end blocks n s cs none = ap (λ xs. soonest s (Z.block_variables blocks n xs).faults) (sym none)

pushed : {W X : Type 0} (view : W → X) (ws : List W) (w : W) (x : X) (xs : List X) → view w ≡ x → map view (ws ++ w ∷ []) ++ xs ≡ map view ws ++ x ∷ xs
pushed view [] w x xs e = ap (λ y. y ∷ xs) e
pushed view (v ∷ ws) w x xs e = ap (λ ys. view v ∷ ys) (pushed view ws w x xs e)

pub value_on : {W : Type 0} (view : W → List Y.DeclaredVariable) (blocks : List Block) (n : ℕ) (ws vs : List W) (w : W) (b : Block) (bs cs : List Block) → cs ≡ b ∷ bs → vs ≡ ws ++ w ∷ [] → view w ≡ (declared_at blocks n).value → map view vs ++ (Z.block_variables blocks (n + 1) bs).value ≡ map view ws ++ (Z.block_variables blocks n cs).value
value_on view blocks n ws vs w b bs cs here more own =
    ap (λ us. map view us ++ (Z.block_variables blocks (n + 1) bs).value) more
    ∙ pushed view ws w (declared_at blocks n).value (Z.block_variables blocks (n + 1) bs).value own
    ∙ ap (λ xs. map view ws ++ (Z.block_variables blocks n xs).value) (sym here)

-- ---- a program

no_procedures : (blocks : List Block) (n : ℕ) (bs : List Block) → (Z.block_variables blocks n bs).procedures ≡ []
no_procedures blocks n [] = refl
no_procedures blocks n (b ∷ bs) = ap (λ ps. ps ++ []) (no_procedures blocks (n + 1) bs)

abbrev program : List (List Y.DeclaredVariable) → List Y.Procedure → Y.Program
program vs ps = record { variables = vs; procedures = ps }

abbrev walked : T.Tree → Z.Resolved Y.Stmts
walked tree = Z.statements (Z.outermost_context (blocks_of tree)) 1 tree.procedures

pub faults_are : (tree : T.Tree) (blocks : List Block) (m o : Option SourceFault) → blocks ≡ blocks_of tree → m ≡ soonest None (Z.statements (Z.outermost_context blocks) 1 tree.procedures).faults → o ≡ soonest m (Z.block_variables blocks 0 blocks).faults → o ≡ least (Z.typing_faults tree)
unfolding Z.resolved
faults_are tree blocks m o e first second =
    second
    ∙ ap (λ x. soonest x (Z.block_variables blocks 0 blocks).faults) first
    ∙ ap (λ bs. soonest (soonest None (Z.statements (Z.outermost_context bs) 1 tree.procedures).faults) (Z.block_variables bs 0 bs).faults) e
    ∙ sym (soonest-append None (walked tree).faults (Z.block_variables (blocks_of tree) 0 (blocks_of tree)).faults)

pub typed_is : (tree : T.Tree) (blocks : List Block) (ps : List Y.Procedure) (vs : List (List Y.DeclaredVariable)) → blocks ≡ blocks_of tree → ps ≡ (Z.statements (Z.outermost_context blocks) 1 tree.procedures).procedures → vs ≡ (Z.block_variables blocks 0 blocks).value → program vs ps ≡ Z.typed_tree tree
unfolding Z.resolved
typed_is tree blocks ps vs e first second =
    ap₂ program
    (second ∙ ap (λ bs. (Z.block_variables bs 0 bs).value) e)
    (first ∙ ap (λ bs. (Z.statements (Z.outermost_context bs) 1 tree.procedures).procedures) e ∙ sym (append-nil (walked tree).procedures) ∙ ap (λ qs. (walked tree).procedures ++ qs) (sym (no_procedures (blocks_of tree) 0 (blocks_of tree))))

-- what is found of a program: nothing where it keeps the rules, else the least of what it breaks
pub found_least : (tree : T.Tree) (o : Option SourceFault) → o ≡ least (Z.typing_faults tree) → MatchOption o (Z.typing_faults tree ≡ []) (Z.IsMistyped tree)
found_least tree o e = subst (λ (p : Option SourceFault). MatchOption p (Z.typing_faults tree ≡ []) (Z.IsMistyped tree)) (sym e) (least_found (Z.typing_faults tree))

pub resolved_is : (tree : T.Tree) (p : Y.Program) → p ≡ Z.typed_tree tree → Z.typing_faults tree ≡ [] → Z.Resolves tree p
resolved_is tree p e none = subst (λ q. Z.Resolves tree q) (sym e) (Z.resolves none)
