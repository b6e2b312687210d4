-- Rows of tables, and that what tables hold are sets.
use Rattle.std.proofs.Common.{◌≡◌, ◌<◌, ◌≤◌, ◌+◌, ℕ, zero, suc, List, [], ◌∷◌, ◌++◌, map, length, get_or, Option, Some, None, refl, sym, ap, ◌∙◌, add-one, arith, subst, Bool, true, false}
use Rattle.std.specs.Prelude.{slice_get, ◌-◌, nat_lt, unwrap_or}
use Rattle.std.specs.Option.{option_map}
use Rattle.std.proofs.lemmas.Option.{slice_get-map, slice_get_past, unwrap_or-slice_get}
use Rattle.std.proofs.Math.ListN as ListN
use Rattle.std.proofs.lemmas.List.{map-append, length-append, length-map, get_or_append_left, get_or-map}
use Rattle.std.proofs.Math.Seq.{get_or-append_seam}
use Rattle.std.proofs.lemmas.Bool.Decides.{nat_tests}
use Rattle.std.proofs.Math.Logic.{∥∥₁_elim}
use Rattle.std.proofs.Props.{props}
use mathlib.Core.Sum.{⊎_set}
use Rattle.pli_language.specs.Declarations.{Held, What, Variable', Label, ProcedureName, Declaration, Block}
use Rattle.pli_language.specs.Declaring.{root_of, names_of}
use Rattle.pli_language.specs.Means.{declarations_of}
use Rattle.pli_typing.specs.TypedTree as Y
use Rattle.pli_typing.specs.Variables.{begins_at, class_of, declarations_at, depth_of_block, head_of_block, index_where, root_place, variables_in, what_of}
use Rattle.pli_typing.specs.TypedView.{variable_of}
use Rattle.pli_language.specs.View.{option_of}
use Rattle.pli_language.specs.declared.scope.DeclarationAt.{DeclarationAt}
use Rattle.pli_typing.specs.declared.typed.Variable.{Variable as VariableHeld}
use Rattle.pli_variables.specs.Shapes.{Shape}
use Rattle.pli_variables.specs.Rows.{row_shown, rows_before, variable_at, variable_of_option, variable_in, variables_among, variable_of_what, variable_row}

pub variables_truly : (vs ws : List (List (Option Y.Variable))) → ∥ vs ≡ ws ∥₁ → vs ≡ ws
variables_truly vs ws h = ∥∥₁_elim h (hlevel (props, ⊎_set)) (λ e. e)

pub shapes_truly : (vs ws : List (List (Option Shape))) → ∥ vs ≡ ws ∥₁ → vs ≡ ws
shapes_truly vs ws h = ∥∥₁_elim h (hlevel (props, ⊎_set)) (λ e. e)

pub rows_more : {X : Type 0} (row : ℕ → X) (n : ℕ) → rows_before row (n + 1) ≡ rows_before row n ++ row n ∷ []
rows_more row n = ap (rows_before row) (add-one n)

pub map_same : {X Z : Type 0} (f g : X → Z) (xs : List X) → ((x : X) → f x ≡ g x) → map f xs ≡ map g xs
map_same f g [] h = refl
map_same f g (x ∷ xs) h = ap (λ z. z ∷ map f xs) (h x) ∙ ap (λ zs. g x ∷ zs) (map_same f g xs h)

-- ---- the row of a block

-- the variable that a declared one belongs to, where its block is this one, if there is one
abbrev pub meant_in : Option Block → ℕ → Held → Y.Variable
meant_in o b h =
    record {
      class = class_of (names_of (head_of_block o)) h (root_of h).item.attributes;
      block = b;
      level = depth_of_block o - 2;
      index = index_where (begins_at (root_place h)) (variables_in (declarations_of o));
    }

same_meant : (blocks : List Block) (b : ℕ) (block : Block) → slice_get blocks b ≡ Some block → (w : What) → variable_in block b (variables_in block.declarations) w ≡ variable_of_what blocks b w
same_meant blocks b block e (Variable' h) = ap (λ o. Some (meant_in o b h)) (sym e)
same_meant blocks b block e Label = refl
same_meant blocks b block e (ProcedureName head) = refl

pub row_here : (blocks : List Block) (b : ℕ) (block : Block) → Some block ≡ slice_get blocks b → variables_among block b ≡ variable_row blocks b
row_here blocks b block e =
    map_same (λ (d : Declaration). variable_in block b (variables_in block.declarations) d.what) (λ d. variable_of_what blocks b d.what) block.declarations (λ d. same_meant blocks b block (sym e) d.what)
    ∙ ap (λ o. map (λ d. variable_of_what blocks b d.what) (declarations_of o)) e

pub row_past : (blocks : List Block) (b : ℕ) → None ≡ slice_get blocks b → variable_row blocks b ≡ []
row_past blocks b e = ap (λ o. map (λ d. variable_of_what blocks b d.what) (declarations_of o)) (sym e)

pub shown_here : {X Z : Type 0} (f : X → Z) (xs : List X) (i : ℕ) (x : X) → Some x ≡ slice_get xs i → Some (f x) ≡ slice_get (map f xs) i
shown_here f xs i x e = sym (slice_get-map f xs i ∙ ap (option_map f) (sym e))

pub shown_past : {X Z : Type 0} (f : X → Z) (xs : List X) (i : ℕ) → None ≡ slice_get xs i → None ≡ slice_get (map f xs) i
shown_past f xs i e = sym (slice_get-map f xs i ∙ ap (option_map f) (sym e))

-- ---- a row that is looked up

rows_length : {X : Type 0} (row : ℕ → X) (n : ℕ) → length (rows_before row n) ≡ n
rows_length row zero = refl
rows_length row (suc n) = length-append (rows_before row n) (row n ∷ []) ∙ ap (λ k. k + 1) (rows_length row n) ∙ add-one n

rows_get : {X : Type 0} (row : ℕ → X) (n b : ℕ) (d : X) → b < n → get_or (rows_before row n) b d ≡ row b
rows_get row zero b d h = absurd (omega (arith, h))
rows_get {X} row (suc n) b d h = go (λ k. rows_get row n b d k) (nat_lt b n) refl
  where
    before : List X
    before = rows_before row n

    go : (b < n → get_or before b d ≡ row b) → (t : Bool) → nat_lt b n ≡ t → get_or (before ++ row n ∷ []) b d ≡ row b
    go earlier true e =
        let k : b < n = grind (arith, nat_tests, e) in
        get_or_append_left before (row n ∷ []) d b (subst (λ m. b < m) (sym (rows_length row n)) k) ∙ earlier k
    go earlier false e =
        let k : b ≡ n = grind (arith, nat_tests, e, h) in
        ap (λ m. get_or (before ++ row n ∷ []) m d) (k ∙ sym (rows_length row n)) ∙ get_or-append_seam before (row n) [] d ∙ ap row (sym k)

pub row_found : {H X : Type 0} (f : H → X) (held : List H) (row : ℕ → X) (n b : ℕ) (v : H) → map f held ≡ rows_before row n → b < length held → v ≡ get_or held b v → f v ≡ row b
row_found f held row n b v e h g =
    let k : b < n = subst (λ m. b < m) (sym (length-map held f) ∙ ap length e ∙ rows_length row n) h in
    ap f g ∙ sym (get_or-map f held b v (f v) h) ∙ ap (λ u. get_or u b (f v)) e ∙ rows_get row n b (f v) k

pub count_found : {H X : Type 0} (f : H → X) (held : List H) (row : ℕ → X) (n b : ℕ) → map f held ≡ rows_before row n → length held ≤ b → n ≤ b
count_found f held row n b e h = subst (λ m. m ≤ b) (sym (length-map held f) ∙ ap length e ∙ rows_length row n) h

pub row_missing : (blocks : List Block) (b : ℕ) → length blocks ≤ b → variable_row blocks b ≡ []
row_missing blocks b h = row_past blocks b (sym (slice_get_past blocks b h))

-- ---- the entry of a declaration

variable_entry : (blocks : List Block) (b : ℕ) (o : Option Declaration) → variable_of_option blocks b (what_of o) ≡ unwrap_or (option_map (λ d. variable_of_what blocks b d.what) o) None
variable_entry blocks b None = refl
variable_entry blocks b (Some d) = refl

pub variable_at_is : (blocks : List Block) (at : DeclarationAt) → variable_at blocks at ≡ get_or (variable_row blocks at.block) at.index None
variable_at_is blocks at =
    variable_entry blocks at.block (slice_get (declarations_at blocks at.block) at.index)
    ∙ ap (λ o. unwrap_or o None) (sym (slice_get-map (λ d. variable_of_what blocks at.block d.what) (declarations_at blocks at.block) at.index))
    ∙ unwrap_or-slice_get (variable_row blocks at.block) at.index None

pub variable_here : (blocks : List Block) (at : DeclarationAt) (row : List (Option VariableHeld)) → row_shown row ≡ variable_row blocks at.block → option_of variable_of (get_or row at.index None) ≡ variable_at blocks at
variable_here blocks at row e =
    sym (ListN.get_or-map (option_of variable_of) row at.index None)
    ∙ ap (λ (u : List (Option Y.Variable)). get_or u at.index None) e ∙ sym (variable_at_is blocks at)

pub variable_missing : (blocks : List Block) (at : DeclarationAt) (row : List (Option VariableHeld)) → row_shown row ≡ variable_row blocks at.block → length row ≤ at.index → None ≡ variable_at blocks at
variable_missing blocks at row e h =
    ap (λ o. option_of variable_of (unwrap_or o None)) (sym (slice_get_past row at.index h))
    ∙ ap (option_of variable_of) (unwrap_or-slice_get row at.index None)
    ∙ variable_here blocks at row e

pub ruleset variables = (variable_here, variable_missing, rows_more, row_here, row_past, shown_here, shown_past, map-append)
