-- The texts that go into copies, from the last one on.
use Rattle.std.proofs.Common.{◌≡◌, ◌<◌, ◌≤◌, ℕ, zero, suc, ◌+◌, ℤ, pos, negsuc, List, [], ◌∷◌, ◌++◌, length, drop, get_or, refl, sym, ap, ◌∙◌, append_assoc, append-nil, add-one, arith}
use Rattle.std.specs.Prelude.{map, Option, slice_get}
use Rattle.std.proofs.lemmas.List.{drop_all}
use Rattle.rv_meaning.specs.declared.instr.BranchTest.TheVariants as Test
use Rattle.pli_typing.specs.declared.typed.DeclaredVariable.{DeclaredVariable}
use Rattle.pli_typing.specs.TypedTree as Y
use Rattle.pli_typing.specs.TypedView.{leaf_of}
use Rattle.pli_typing.specs.TypedStatementView.{declared_variable_of}
use Rattle.pli_meaning.specs.DeclaredShapes.{variables_of_block}
use Rattle.pli_coding.specs.Registers.{zero_register, u4}
use Rattle.pli_coding.specs.Assembly.{Code}
use Rattle.pli_coding.specs.Instructions.{skip_where}
use Rattle.pli_coding.specs.Environments.{Environment}
use Rattle.pli_coding.specs.Entries.{Copied, copied_declared, copied_parameters, text_filled, texts_filled}
use Rattle.rv_entry.proofs.Steps.{copied_here, item_first}
use Rattle.rv_entry.specs.Pieces.{copied_single, own_declaration, parameter_filled, single_type, text_put, text_skipped}

-- ---- lengths

pub skipped-is : (mode : _) (size : _)
    → text_skipped mode size ≡ skip_where Test.Equal u4 zero_register (text_put mode size)
unfolding text_skipped
skipped-is mode size = refl

pub ruleset skipped = (skipped-is, append_assoc, append-nil)

-- ---- one after the other

pub parameter_here : (e : Environment) (n place : ℕ) (xs : List DeclaredVariable) (x : DeclaredVariable) (o : Option Y.LeafType) (code after : Code) → map declared_variable_of xs ≡ variables_of_block e.program e.block → place < length xs → x ≡ get_or xs place x
    → o ≡ single_type (map leaf_of x.leaves.items) → after ≡ code ++ texts_filled (copied_single n (own_declaration e place) o) → after ≡ code ++ parameter_filled e n place
unfolding parameter_filled
parameter_here e n place xs x o code after s h k single a = a ∙ ap (λ cs. code ++ texts_filled cs) (copied_here e n place xs x o s h k single)

texts_append : (xs ys : List Copied) → texts_filled (xs ++ ys) ≡ texts_filled ys ++ texts_filled xs
texts_append [] ys = sym (append-nil (texts_filled ys))
texts_append (c ∷ cs) ys = ap (λ u. u ++ text_filled c c.type) (texts_append cs ys) ∙ append_assoc (texts_filled ys) (texts_filled cs) (text_filled c c.type)

filled_from : (e : Environment) (n i p d : ℕ) (ps : List ℕ) → i < length ps → p ≡ get_or ps i d
    → texts_filled (copied_parameters (variables_of_block e.program e.block) n (drop i ps)) ≡ texts_filled (copied_parameters (variables_of_block e.program e.block) (n + 1) (drop (i + 1) ps)) ++ parameter_filled e n p
unfolding parameter_filled
filled_from e n i p d ps h k =
    let ds : List Y.DeclaredVariable = variables_of_block e.program e.block in
    let rest : List ℕ = drop (i + 1) ps in
    ap (λ qs. texts_filled (copied_parameters ds n qs)) (item_first ps i p d h k)
    ∙ texts_append (copied_declared n (slice_get ds p)) (copied_parameters ds (suc n) rest)
    ∙ ap (λ m. texts_filled (copied_parameters ds m rest) ++ parameter_filled e n p) (sym (add-one n))

-- one further to the front
pub next_filled : (e : Environment) (n m p d : ℕ) (ps : List ℕ) (before code after : Code) → m ≡ n + 1 → n < length ps → p ≡ get_or ps n d → code ≡ before ++ texts_filled (copied_parameters (variables_of_block e.program e.block) m (drop m ps)) → after ≡ code ++ parameter_filled e n p
    → after ≡ before ++ texts_filled (copied_parameters (variables_of_block e.program e.block) n (drop n ps))
next_filled e n m p d ps before code after s h k is a =
    let ds : List Y.DeclaredVariable = variables_of_block e.program e.block in
    let rest : Code = texts_filled (copied_parameters ds (n + 1) (drop (n + 1) ps)) in
    a
    ∙ ap (λ u. u ++ parameter_filled e n p) (is ∙ ap (λ i. before ++ texts_filled (copied_parameters ds i (drop i ps))) s)
    ∙ append_assoc before rest (parameter_filled e n p)
    ∙ ap (λ u. before ++ u) (sym (filled_from e n n p d ps h k))

pub none_filled : (e : Environment) (n : ℕ) (ps : List ℕ) (code : Code) → length ps ≤ n → code ≡ code ++ texts_filled (copied_parameters (variables_of_block e.program e.block) n (drop n ps))
none_filled e n ps code h = sym (append-nil code) ∙ ap (λ qs. code ++ texts_filled (copied_parameters (variables_of_block e.program e.block) n qs)) (sym (drop_all n ps h))
