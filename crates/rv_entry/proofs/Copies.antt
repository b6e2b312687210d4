-- The copies that stand for arguments, by their pieces and one after the other.
use Rattle.std.proofs.Common.{◌≡◌, ◌<◌, ◌≤◌, ℕ, zero, suc, ◌+◌, Bool, true, false, true≢false, List, [], ◌∷◌, ◌++◌}
use Rattle.std.proofs.Common.{length, drop, get_or, refl, sym, ap, ◌∙◌, append_assoc, append-nil, add-one, arith}
use Rattle.std.specs.Prelude.{map, Option, slice_get, if◌then◌else◌}
use Rattle.std.proofs.lemmas.List.{drop_all}
use Rattle.rv_meaning.specs.declared.instr.BranchTest.TheVariants as Test
use Rattle.pli_typing.specs.declared.typed.DeclaredVariable.{DeclaredVariable}
use Rattle.pli_typing.specs.TypedTree as Y
use Rattle.pli_typing.specs.TypedView.{leaf_of}
use Rattle.pli_typing.specs.TypedStatementView.{declared_variable_of}
use Rattle.pli_meaning.specs.DeclaredShapes.{variables_of_block}
use Rattle.pli_coding.specs.Registers.{zero_register, a0, a1, a3, u4}
use Rattle.pli_coding.specs.Assembly.{OffsetOf, DataPlace, Datum, Code}
use Rattle.pli_coding.specs.Instructions.{number, skip_where}
use Rattle.pli_coding.specs.StaticForms.{size_datum}
use Rattle.pli_coding.specs.Environments.{Environment, declaration_of}
use Rattle.pli_coding.specs.Locating.{is_star_type, table_number}
use Rattle.pli_coding.specs.Entries.{Copied, copied_declared, copied_parameters, copies_made, copy_made, if_copied}
use Rattle.rv_entry.proofs.Steps.{copied_here, item_first, step}
use Rattle.rv_entry.specs.Pieces.{argument_loaded, constant_signature, copied_of, copied_single, copy_begun, copy_named}
use Rattle.rv_entry.specs.Pieces.{copy_put, copy_skipped, copy_whole, lower_grown, one_copied, own_variable}
use Rattle.rv_entry.specs.Pieces.{parameter_copied, signature_asked, signature_found, signature_kept, signature_told}
use Rattle.rv_entry.specs.Pieces.{single_type, star_signature, value_taken}

-- ---- signatures

pub places_asked : (code after : Code) (n : ℕ) (d e : Datum) → d ≡ e → after ≡ code ++ signature_asked n d → after ≡ code ++ signature_asked n e
places_asked code after n d e is h = h ∙ ap (λ x. code ++ signature_asked n x) is

pub star_is : (code c1 c2 after : Code) (e : Environment) (n m : ℕ) (d x : Y.DeclaredVariable) → x ≡ d → m ≡ table_number e d → c1 ≡ code ++ signature_asked m (size_datum Y.StarExtent x.leaves) → c2 ≡ c1 ++ argument_loaded a3 n 4 → after ≡ c2 ++ signature_told → after ≡ code ++ star_signature e n d
star_is code c1 c2 after e n m d x is s h j k =
    let asked : Code = signature_asked (table_number e d) (size_datum Y.StarExtent d.leaves) in
    let first : c1 ≡ code ++ asked = h ∙ ap (λ i. code ++ signature_asked i (size_datum Y.StarExtent x.leaves)) s ∙ ap (λ (y : Y.DeclaredVariable). code ++ signature_asked (table_number e d) (size_datum Y.StarExtent y.leaves)) is in
    k
    ∙ ap (λ u. u ++ signature_told) (j ∙ ap (λ u. u ++ argument_loaded a3 n 4) first)
    ∙ append_assoc (code ++ asked) (argument_loaded a3 n 4) signature_told
    ∙ append_assoc code asked (argument_loaded a3 n 4 ++ signature_told)

first_of : (b : Bool) (x y : Code) → b ≡ true → x ≡ (if b then x else y)
first_of true x y h = refl
first_of false x y h = absurd (true≢false (sym h))

second_of : (b : Bool) (x y : Code) → b ≡ false → y ≡ (if b then x else y)
second_of true x y h = absurd (true≢false h)
second_of false x y h = refl

star_regrouped : (e : Environment) (n : ℕ) (d : Y.DeclaredVariable)
    → star_signature e n d ≡ number a0 (table_number e d) ++ (OffsetOf a1 (DataPlace (size_datum Y.StarExtent d.leaves)) ∷ (argument_loaded a3 n 4 ++ signature_told))
unfolding signature_asked
star_regrouped e n d = append_assoc (number a0 (table_number e d)) (OffsetOf a1 (DataPlace (size_datum Y.StarExtent d.leaves)) ∷ []) (argument_loaded a3 n 4 ++ signature_told)

pub star_found : (code after : Code) (e : Environment) (n : ℕ) (d : Y.DeclaredVariable) (type : Y.LeafType) → is_star_type type ≡ true → after ≡ code ++ star_signature e n d → after ≡ code ++ signature_found e (copied_of n d type)
unfolding signature_found argument_loaded signature_told constant_signature
star_found code after e n d type h a = a ∙ ap (λ u. code ++ u) (star_regrouped e n d ∙ first_of (is_star_type type) _ (constant_signature e d) h)

pub other_found : (code after : Code) (e : Environment) (n : ℕ) (d : Y.DeclaredVariable) (type : Y.LeafType) → is_star_type type ≡ false → after ≡ code ++ constant_signature e d → after ≡ code ++ signature_found e (copied_of n d type)
unfolding signature_found constant_signature
other_found code after e n d type h a = a ∙ ap (λ u. code ++ u) (second_of (is_star_type type) _ (constant_signature e d) h)

pub ruleset signatures = (star_found, other_found)

-- ---- one copy

pub begun-is : (e : _) (n : _) (d : _) (type : _)
    → copy_begun e (copied_of n d type) ≡ signature_found e (copied_of n d type) ++ (signature_kept n ++ lower_grown)
unfolding copy_begun signature_found signature_kept lower_grown
begun-is e n d type = refl

pub ruleset begun = (begun-is, append_assoc, append-nil)

pub made-is : (e : _) (n : _) (d : _) (type : _)
    → copy_whole e (copied_of n d type)
    ≡ copy_begun e (copied_of n d type) ++ (value_taken n type ++ (copy_named n ++ copy_put n type))
unfolding copy_whole copy_begun value_taken copy_named copy_put
made-is e n d type = refl

pub ruleset made = (made-is, append_assoc, append-nil)

pub skipped-is : (e : _) (n : _) (d : _) (type : _)
    → copy_skipped e (copied_of n d type) ≡ skip_where Test.Equal u4 zero_register (copy_whole e (copied_of n d type))
unfolding copy_skipped copy_whole
skipped-is e n d type = refl

pub ruleset skipped = (skipped-is, append_assoc, append-nil)

pub copied-is : (e : Environment) (n : ℕ) (d : Y.DeclaredVariable) (type : Y.LeafType) → one_copied e (copied_of n d type) ≡ argument_loaded u4 n 5 ++ copy_skipped e (copied_of n d type)
unfolding one_copied argument_loaded copy_skipped
copied-is e n d type = append-nil (if_copied (copied_of n d type) (copy_made e (copied_of n d type)))

pub ruleset copied = (copied-is, append_assoc, append-nil)

-- ---- one after the other

pub parameter_here : (e : Environment) (n place : ℕ) (xs : List DeclaredVariable) (x : DeclaredVariable) (o : Option Y.LeafType) (v : Y.Variable) (code after : Code) → map declared_variable_of xs ≡ variables_of_block e.program e.block → place < length xs → x ≡ get_or xs place x
    → o ≡ single_type (map leaf_of x.leaves.items) → v ≡ own_variable e place → after ≡ code ++ copies_made e (copied_single n (declaration_of e v) o) → after ≡ code ++ parameter_copied e n place
unfolding parameter_copied
parameter_here e n place xs x o v code after s h k single own a =
    a
    ∙ ap (λ w. code ++ copies_made e (copied_single n (declaration_of e w) o)) own
    ∙ ap (λ cs. code ++ copies_made e cs) (copied_here e n place xs x o s h k single)

copies_append : (e : Environment) (xs ys : List Copied) → copies_made e (xs ++ ys) ≡ copies_made e xs ++ copies_made e ys
copies_append e [] ys = refl
copies_append e (c ∷ cs) ys =
    let one : Code = if_copied c (copy_made e c) in
    ap (λ u. one ++ u) (copies_append e cs ys) ∙ sym (append_assoc one (copies_made e cs) (copies_made e ys))

copied_from : (e : Environment) (n i p d : ℕ) (ps : List ℕ) → i < length ps → p ≡ get_or ps i d
    → copies_made e (copied_parameters (variables_of_block e.program e.block) n (drop i ps)) ≡ parameter_copied e n p ++ copies_made e (copied_parameters (variables_of_block e.program e.block) (n + 1) (drop (i + 1) ps))
unfolding parameter_copied
copied_from e n i p d ps h k =
    let ds : List Y.DeclaredVariable = variables_of_block e.program e.block in
    let rest : List ℕ = drop (i + 1) ps in
    ap (λ qs. copies_made e (copied_parameters ds n qs)) (item_first ps i p d h k)
    ∙ copies_append e (copied_declared n (slice_get ds p)) (copied_parameters ds (suc n) rest)
    ∙ ap (λ m. parameter_copied e n p ++ copies_made e (copied_parameters ds m rest)) (sym (add-one n))

pub next_copied : (e : Environment) (n p d : ℕ) (ps : List ℕ) (code after target : Code) → n < length ps → p ≡ get_or ps n d → after ≡ code ++ parameter_copied e n p
    → code ++ copies_made e (copied_parameters (variables_of_block e.program e.block) n (drop n ps)) ≡ target → after ++ copies_made e (copied_parameters (variables_of_block e.program e.block) (n + 1) (drop (n + 1) ps)) ≡ target
next_copied e n p d ps code after target h k a is =
    let ds : List Y.DeclaredVariable = variables_of_block e.program e.block in
    step code after (parameter_copied e n p) (copies_made e (copied_parameters ds (n + 1) (drop (n + 1) ps))) (copies_made e (copied_parameters ds n (drop n ps))) target a (copied_from e n n p d ps h k) is

pub all_copied : (e : Environment) (n : ℕ) (ps : List ℕ) (code target : Code) → length ps ≤ n → code ++ copies_made e (copied_parameters (variables_of_block e.program e.block) n (drop n ps)) ≡ target → code ≡ target
all_copied e n ps code target h is =
    sym (append-nil code) ∙ ap (λ qs. code ++ copies_made e (copied_parameters (variables_of_block e.program e.block) n qs)) (sym (drop_all n ps h)) ∙ is
