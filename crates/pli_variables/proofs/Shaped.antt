-- Shapes are made of what a block declares.
use Rattle.std.proofs.Common.{◌≡◌, ◌≤◌, ℕ, List, [], ◌∷◌, length, map, get_or, Option, Some, None, refl, sym, ap, ◌∙◌, arith}
use Rattle.std.specs.Prelude.{slice_get, unwrap_or}
use Rattle.std.specs.Option.{option_map}
use Rattle.std.proofs.lemmas.Option.{slice_get-map}
use Rattle.std.proofs.Math.Logic.{∥∥₁_elim}
use Rattle.std.proofs.Props.{props}
use mathlib.Core.Sum.{⊎_set}
use Rattle.pli_language.specs.declared.scope.DeclarationAt.{DeclarationAt}
use Rattle.pli_declare.specs.declared.scope.Held.{Held as HeldHeld}
use Rattle.pli_declare.specs.Shown.{held_of}
use Rattle.pli_typing.specs.Calls.{begins_named}
use Rattle.pli_language.specs.Declarations.{Held, What, Variable', Label, ProcedureName, Declaration, Block}
use Rattle.pli_language.specs.Declaring.{names_of, stands_alone}
use Rattle.pli_language.specs.Means.{declarations_of}
use Rattle.pli_typing.specs.TypedTree as Y
use Rattle.pli_typing.specs.Variables.{all_dimensions, declarations_at, from_place, head_of_block, index_where, is_structure, leaf_of, leaves_of, part_from, variables_in, what_of, with_members, written_extents}
use Rattle.pli_variables.specs.BlockTables.{BlockTable, block_table, table_given, table_or, variable_shape}
use Rattle.pli_variables.specs.Counts.{counts_in, part_behind}
use Rattle.pli_variables.specs.Procedures.{procedure_at, procedure_in, procedure_of_what, procedure_row}
use Rattle.pli_variables.specs.Rows.{variable_among}
use Rattle.pli_variables.specs.Shapes.{Shape, shape, shape_at, shape_in, shape_of_first, shape_of_what}
use Rattle.pli_variables.specs.ShownShapes.{Home, home_in, shape_among, shape_given, shape_row, shape_with, whole_given, whole_row}
use Rattle.pli_variables.proofs.Counts.{leaves_are, part_is}
use Rattle.pli_variables.proofs.Tabled.{map_same, meant_in}

pub tables_truly : (vs ws : List BlockTable) → ∥ vs ≡ ws ∥₁ → vs ≡ ws
tables_truly vs ws h = ∥∥₁_elim h (hlevel (props, ⊎_set)) (λ e. e)

-- what is kept of one variable of level 1 among what is kept of all
entry_at : {X : Type 0} (f : List Held → List X) → f [] ≡ [] → (groups : List (List Held)) (i : ℕ) → unwrap_or (slice_get (map f groups) i) [] ≡ f (unwrap_or (slice_get groups i) [])
entry_at {X} f none groups i = ap (λ (o : Option (List X)). unwrap_or o []) (slice_get-map f groups i) ∙ go (slice_get groups i)
  where
    go : (o : Option (List Held)) → unwrap_or (option_map f o) [] ≡ f (unwrap_or o [])
    go None = sym none
    go (Some g) = refl

abbrev shape_by : Y.Variable → Y.Part → List Y.Leaf → List Held → Held → Shape
shape_by v part leaves all h = record {
  variable = v;
  part = part;
  leaves = leaves;
  dimensions = length (all_dimensions h);
  has_members = is_structure all h;
  is_alone = stands_alone h;
}

-- the shape of a variable, where its block is this one, if there is one
abbrev shape_meant : List Block → Option Block → ℕ → Held → Shape
shape_meant blocks o b h =
    let all = unwrap_or (slice_get (variables_in (declarations_of o)) (meant_in o b h).index) [] in
    let from = from_place h.variable.declared.name.place all in
    shape_by (meant_in o b h) (part_from all from) (leaves_of blocks b all (with_members from)) all h

same_shape : (blocks : List Block) (b : ℕ) (block : Block) → slice_get blocks b ≡ Some block → (h : Held) → shape_among (home_in blocks block b) h ≡ shape blocks b h
same_shape blocks b block e h =
    let groups = variables_in block.declarations in
    let v = variable_among block b groups h in
    let all = unwrap_or (slice_get groups v.index) [] in
    let place = h.variable.declared.name.place in
    let from = from_place place all in
    ap (λ cs. shape_with v all cs (unwrap_or (slice_get (map (λ g. leaves_of blocks b g g) groups) v.index) []) h) (entry_at counts_in refl groups v.index)
    ∙ ap (λ ls. shape_with v all (counts_in all) ls h) (entry_at (λ g. leaves_of blocks b g g) refl groups v.index)
    ∙ ap (λ ls. shape_by v (part_behind (counts_in all) all from) ls all h) (leaves_are (leaf_of blocks b (written_extents all)) place all)
    ∙ ap (λ p. shape_by v p (leaves_of blocks b all (with_members from)) all h) (part_is place all)
    ∙ ap (λ o. shape_meant blocks o b h) (sym e)

same_given : (blocks : List Block) (b : ℕ) (block : Block) → slice_get blocks b ≡ Some block → (w : What) → shape_given (home_in blocks block b) w ≡ shape_of_what blocks b w
same_given blocks b block e (Variable' h) = ap Some (same_shape blocks b block e h)
same_given blocks b block e Label = refl
same_given blocks b block e (ProcedureName head) = refl

same_whole : (blocks : List Block) (b : ℕ) (block : Block) → slice_get blocks b ≡ Some block → (g : List Held) → whole_given (home_in blocks block b) g ≡ shape_of_first blocks b (Some g)
same_whole blocks b block e [] = refl
same_whole blocks b block e (h ∷ members) = ap Some (same_shape blocks b block e h)

-- the first of these is the variable of level 1
pub whole_first : (home : Home) (members : List HeldHeld) (h : HeldHeld) → 1 ≤ length members → h ≡ get_or members 0 h → Some (shape_among home (held_of h)) ≡ whole_given home (map held_of members)
whole_first home [] h l e = absurd (omega (arith, l))
whole_first home (m ∷ members) h l e = ap (λ u. Some (shape_among home (held_of u))) e

-- what is kept of a block, if there is one
abbrev table_meant : List Block → Option Block → ℕ → BlockTable
table_meant blocks o b = record {
  declared = map (λ d. shape_of_what blocks b d.what) (declarations_of o);
  variables = map (λ g. shape_of_first blocks b (Some g)) (variables_in (declarations_of o));
  parameters = map (λ n. index_where (begins_named n) (variables_in (declarations_of o))) (names_of (head_of_block o));
  procedures = procedure_row blocks (declarations_of o);
}

abbrev pub with_shapes : List (Option ℕ) → List ℕ → List (Option Shape) → List (Option Shape) → BlockTable
with_shapes procedures parameters declared variables = record { declared = declared; variables = variables; parameters = parameters; procedures = procedures }

pub table_here : (blocks : List Block) (b : ℕ) (block : Block) → slice_get blocks b ≡ Some block → table_given blocks (home_in blocks block b) ≡ block_table blocks b
table_here blocks b block e =
    let home = home_in blocks block b in
    let groups = variables_in block.declarations in
    let parameters : List ℕ = map (λ n. index_where (begins_named n) groups) (names_of block.head) in
    ap (λ u. with_shapes (procedure_row blocks block.declarations) parameters u (map (whole_given home) groups)) (map_same (λ (d : Declaration). shape_given home d.what) (λ d. shape_of_what blocks b d.what) block.declarations (λ d. same_given blocks b block e d.what))
    ∙ ap (λ u. with_shapes (procedure_row blocks block.declarations) parameters (map (λ d. shape_of_what blocks b d.what) block.declarations) u) (map_same (whole_given home) (λ g. shape_of_first blocks b (Some g)) groups (same_whole blocks b block e))
    ∙ ap (λ o. table_meant blocks o b) (sym e)

pub table_past : (blocks : List Block) (b : ℕ) → slice_get blocks b ≡ None → table_or None ≡ block_table blocks b
table_past blocks b e = ap (λ o. table_meant blocks o b) (sym e)

-- ---- shapes that are looked up

shape_entry : (blocks : List Block) (b : ℕ) (o : Option Declaration) → shape_in blocks b (what_of o) ≡ unwrap_or (option_map (λ d. shape_of_what blocks b d.what) o) None
shape_entry blocks b None = refl
shape_entry blocks b (Some d) = refl

pub shape_at_is : (blocks : List Block) (at : DeclarationAt) → shape_at blocks at ≡ unwrap_or (slice_get (shape_row blocks at.block) at.index) None
shape_at_is blocks at =
    shape_entry blocks at.block (slice_get (declarations_at blocks at.block) at.index)
    ∙ ap (λ o. unwrap_or o None) (sym (slice_get-map (λ d. shape_of_what blocks at.block d.what) (declarations_at blocks at.block) at.index))

whole_entry : (blocks : List Block) (b : ℕ) (o : Option (List Held)) → shape_of_first blocks b o ≡ unwrap_or (option_map (λ g. shape_of_first blocks b (Some g)) o) None
whole_entry blocks b None = refl
whole_entry blocks b (Some g) = refl

pub variable_shape_is : (blocks : List Block) (b i : ℕ) → variable_shape blocks b i ≡ unwrap_or (slice_get (whole_row blocks b) i) None
variable_shape_is blocks b i =
    whole_entry blocks b (slice_get (variables_in (declarations_at blocks b)) i)
    ∙ ap (λ o. unwrap_or o None) (sym (slice_get-map (λ g. shape_of_first blocks b (Some g)) (variables_in (declarations_at blocks b)) i))

procedure_entry : (blocks : List Block) (o : Option Declaration) → procedure_in blocks (what_of o) ≡ unwrap_or (option_map (λ d. procedure_of_what blocks d.what) o) None
procedure_entry blocks None = refl
procedure_entry blocks (Some d) = refl

pub procedure_at_is : (blocks : List Block) (at : DeclarationAt) → procedure_at blocks at ≡ unwrap_or (slice_get (procedure_row blocks (declarations_at blocks at.block)) at.index) None
procedure_at_is blocks at =
    procedure_entry blocks (slice_get (declarations_at blocks at.block) at.index)
    ∙ ap (λ o. unwrap_or o None) (sym (slice_get-map (λ d. procedure_of_what blocks d.what) (declarations_at blocks at.block) at.index))

pub ruleset shapes = (shape_at_is, variable_shape_is, procedure_at_is, table_past)
