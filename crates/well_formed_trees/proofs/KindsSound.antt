-- Kinds of leaves are sound: precisions are in range, and areas that OFFSET names are areas around.
use Rattle.std.proofs.Common.{◌≡◌, ℕ, ◌+◌, ◌≤◌, ◌==◌, Bool, true, false, not, ◌&&◌, ◌||◌, List, [], ◌∷◌}
use Rattle.std.proofs.Common.{map, length, Option, Some, None, if◌then◌else◌, refl, sym, ap, ◌∙◌, subst, arith}
use Rattle.std.specs.Prelude.{slice_get, nat_lt, ⊤}
use Rattle.std.specs.List.{list_any, flat_map}
use Rattle.std.proofs.lemmas.Bool.Decides.{nat_tests}
use Rattle.pli_language.specs.declared.scope.Found.{Found}
use Rattle.pli_language.specs.declared.scope.Found.TheVariants as F
use Rattle.pli_language.specs.declared.scope.DeclarationAt.{DeclarationAt}
use Rattle.pli_language.specs.Tree as T
use Rattle.pli_language.specs.Declarations.{Variable, Held, What, Variable', Label, ProcedureName, Declaration, Block}
use Rattle.pli_language.specs.Declaring.{has, own_attributes, precision_of, precisions_in}
use Rattle.pli_language.specs.Declaring.{attributes_clash, repeats, kinds_in, classes_in, most_digits, names_of, one}
use Rattle.pli_language.specs.Means.{around_of, declarations_of}
use Rattle.pli_typing.specs.TypedTree as Y
use Rattle.pli_typing.specs.Variables as V
use Rattle.pli_typing.specs.Variables.{WrittenExtent, written_extents, leaves_in, leaf_of, leaves_of, with_members}
use Rattle.pli_typing.specs.Variables.{from_place, part_of, type_of, area_named, area_name, area_found, area_in}
use Rattle.pli_typing.specs.Variables.{what_at}
use Rattle.pli_typing.specs.Variables.{what_of, name_means, variable_meant, declarations_at, members_of, level_of_block}
use Rattle.pli_typing.specs.Variables.{size_of_text, size_of_area, bounds_of, extent_of, initial_items, head_of_block}
use Rattle.pli_typing.specs.Converting.{area_of_type}
use Rattle.well_formed_trees.specs.Ranges.{IsPrecision}
use Rattle.well_formed_trees.specs.Surroundings.{Table, Where, IsArea, IsAreaIf}
use Rattle.well_formed_trees.proofs.Lists.{first_false, second_false}
use Rattle.well_formed_trees.proofs.Places.{same_some, every_at}
use Rattle.well_formed_trees.proofs.ResultTypes.{precision_is}
use Rattle.well_formed_trees.proofs.FineVariables.{IsFineMember, all_fine, no_clash, only_area}
use Rattle.well_formed_trees.proofs.FineVariables.{area_no_builtin}
use Rattle.well_formed_trees.proofs.Facts.{Facts, IsSeen, IsVisible}
use Rattle.well_formed_trees.proofs.Found.{IsAmong, found_at}
use Rattle.well_formed_trees.proofs.MeantVariables.{DeclaresVariable, IsMeant, is_meant, typed_variable, is_declared}
use Rattle.well_formed_trees.proofs.MeantVariables.{visible_from, fine_declared}
use Rattle.well_formed_trees.proofs.MeantVariables.{declared_found, declared_class}
use Rattle.well_formed_trees.proofs.FineVariables.{none_above}
use Rattle.well_formed_trees.specs.Surroundings.{IsStaticArea}
use Rattle.pli_language.specs.Declaring.{root_of, first_or, is_parameter}
use Rattle.well_formed_trees.proofs.DeclaredOnce.{IsIn}
use Rattle.well_formed_trees.proofs.FitValues.{IsSoundType}

-- ---- kinds

-- of what may not clash the last test is of precisions
pub digits_fine : (all : List T.Attribute) → attributes_clash all ≡ false
    → list_any (λ p. (p == 0) || nat_lt most_digits p) (precisions_in all) ≡ false
digits_fine all e =
    second_false
    (((((repeats all || nat_lt 1 (kinds_in all)) || nat_lt 1 (classes_in all)) || (has 3 all && not (has 2 all)))
    || (has 14 all && has 15 all)) || nat_lt 1 (length (precisions_in all))) _ e

pub type_by : (P : Y.LeafType → Type 0) (two three four five six seven : Bool) (size bytes : Y.Extent)
    (area : Option Y.Variable) (p : ℕ) → P (Y.VaryingLeaf size) → P (Y.CharacterLeaf size) → P Y.BitLeaf
    → P Y.PointerLeaf → P (Y.OffsetLeaf area) → P (Y.AreaLeaf bytes) → P (Y.FixedLeaf p)
    → P (if two then (if three then Y.VaryingLeaf size else Y.CharacterLeaf size)
    else (if four then Y.BitLeaf else (if five then Y.PointerLeaf
    else (if six then Y.OffsetLeaf area else (if seven then Y.AreaLeaf bytes else Y.FixedLeaf p)))))
type_by P true true four five six seven size bytes area p a b c d e f g = a
type_by P true false four five six seven size bytes area p a b c d e f g = b
type_by P false three true five six seven size bytes area p a b c d e f g = c
type_by P false three false true six seven size bytes area p a b c d e f g = d
type_by P false three false false true seven size bytes area p a b c d e f g = e
type_by P false three false false false true size bytes area p a b c d e f g = f
type_by P false three false false false false size bytes area p a b c d e f g = g

type_sound_by : (w : Where) (two three four five six seven : Bool) (size bytes : Y.Extent) (area : Option Y.Variable)
    (p : ℕ) → IsPrecision p → IsAreaIf w area
    → IsSoundType w (if two then (if three then Y.VaryingLeaf size else Y.CharacterLeaf size)
    else (if four then Y.BitLeaf else (if five then Y.PointerLeaf
    else (if six then Y.OffsetLeaf area else (if seven then Y.AreaLeaf bytes else Y.FixedLeaf p)))))
type_sound_by w true true four five six seven size bytes area p k a = tt
type_sound_by w true false four five six seven size bytes area p k a = tt
type_sound_by w false three true five six seven size bytes area p k a = tt
type_sound_by w false three false true six seven size bytes area p k a = tt
type_sound_by w false three false false true seven size bytes area p k a = a
type_sound_by w false three false false false true size bytes area p k a = tt
type_sound_by w false three false false false false size bytes area p k a = k

-- the kind is an area where one is written
area_by : (two three four five six seven : Bool) (size bytes : Y.Extent) (area : Option Y.Variable) (p : ℕ)
    → area_of_type (Some (if two then (if three then Y.VaryingLeaf size else Y.CharacterLeaf size)
    else (if four then Y.BitLeaf else (if five then Y.PointerLeaf
    else (if six then Y.OffsetLeaf area else (if seven then Y.AreaLeaf bytes else Y.FixedLeaf p)))))) ≡ true
    → seven ≡ true
area_by true true four five six seven size bytes area p e = absurd (cc e)
area_by true false four five six seven size bytes area p e = absurd (cc e)
area_by false three true five six seven size bytes area p e = absurd (cc e)
area_by false three false true six seven size bytes area p e = absurd (cc e)
area_by false three false false true seven size bytes area p e = absurd (cc e)
area_by false three false false false true size bytes area p e = refl
area_by false three false false false false size bytes area p e = absurd (cc e)

pub area_written : (blocks : List Block) (b : ℕ) (written : List WrittenExtent) (all : List T.Attribute)
    → area_of_type (Some (type_of blocks b written all)) ≡ true → has 7 all ≡ true
area_written blocks b written all e =
    area_by (has 2 all) (has 3 all) (has 4 all) (has 5 all) (has 6 all) (has 7 all) (size_of_text written all)
    (size_of_area written all) (area_named blocks b (area_name all)) (precision_of (precisions_in all)) e

-- ---- areas

pub few : (n : ℕ) → nat_lt 1 n ≡ false → n ≤ 1
few n e = grind (arith, nat_tests)

-- where an area is written, and one kind at most, the kind is an area
area_type_by : (digits two three four five six seven : Bool) (size bytes : Y.Extent) (area : Option Y.Variable) (p : ℕ)
    → ((((one digits + one two) + one four) + one five) + one six) + one seven ≤ 1 → seven ≡ true
    → (if two then (if three then Y.VaryingLeaf size else Y.CharacterLeaf size)
    else (if four then Y.BitLeaf else (if five then Y.PointerLeaf
    else (if six then Y.OffsetLeaf area else (if seven then Y.AreaLeaf bytes else Y.FixedLeaf p)))))
    ≡ Y.AreaLeaf bytes
area_type_by digits two three four five six false size bytes area p k e = absurd (cc e)
area_type_by digits true three four five six true size bytes area p k e = absurd (omega (arith, k))
area_type_by digits false three true five six true size bytes area p k e = absurd (omega (arith, k))
area_type_by digits false three false true six true size bytes area p k e = absurd (omega (arith, k))
area_type_by digits false three false false true true size bytes area p k e = absurd (omega (arith, k))
area_type_by digits false three false false false true size bytes area p k e = refl

pub few_kinds : (all : List T.Attribute) → attributes_clash all ≡ false → nat_lt 1 (kinds_in all) ≡ false
few_kinds all e =
    second_false (repeats all) _ (first_false _ _ (first_false _ _ (first_false _ _ (first_false _ _ (first_false _ _
    e)))))

pub area_type : (blocks : List Block) (b : ℕ) (written : List WrittenExtent) (all : List T.Attribute)
    → attributes_clash all ≡ false → has 7 all ≡ true
    → type_of blocks b written all ≡ Y.AreaLeaf (size_of_area written all)
area_type blocks b written all e a =
    area_type_by (has 0 all || has 1 all) (has 2 all) (has 3 all) (has 4 all) (has 5 all) (has 6 all) (has 7 all)
    (size_of_text written all) (size_of_area written all) (area_named blocks b (area_name all))
    (precision_of (precisions_in all)) (few (kinds_in all) (few_kinds all e)) a

-- the one leaf of an area by itself
abbrev pub area_leaf_of : List Block → ℕ → List Held → Held → Y.Leaf
area_leaf_of blocks b all h =
    record {
      type = Y.AreaLeaf (size_of_area (written_extents all) (own_attributes h));
      bounds = [];
      initial = flat_map initial_items (own_attributes h);
    }

pub area_leaf_is : (blocks : List Block) (b : ℕ) (h : Held) (m : IsMeant blocks b h) → has 7 (own_attributes h) ≡ true
    → (typed_variable blocks b (m.root ∷ m.members)).leaves
    ≡ area_leaf_of blocks b (m.root ∷ m.members) h ∷ []
area_leaf_is blocks b h m a =
    let all = m.root ∷ m.members in
    let only = only_area _ all m.structure m.fine m.place h m.there a in
    let fine = every_at (IsFineMember _) all m.place h (all_fine _ all m.fine) m.there in
    let written = written_extents all in
    let own : leaf_of blocks b written h ≡ area_leaf_of blocks b all h =
    ap (λ t. record {
      type = t;
      bounds = map (bounds_of (extent_of written)) (V.all_dimensions h);
      initial = flat_map initial_items (own_attributes h);
    }) (area_type blocks b written (own_attributes h) (no_clash _ h fine) a)
    ∙ ap (λ ds. record {
      type = Y.AreaLeaf (size_of_area written (own_attributes h));
      bounds = map (bounds_of (extent_of written)) ds;
      initial = flat_map initial_items (own_attributes h);
    }) only.none in
    ap (λ hs. map (leaf_of blocks b written) (leaves_in hs)) only.only ∙ ap (λ l. l ∷ []) own

-- what is declared of an area by itself
pub area_meant : (blocks : List Block) (w : Where) → Facts blocks w.program w.table → (b : ℕ) (h : Held)
    → DeclaresVariable blocks b h → IsSeen blocks w.around b → has 7 (own_attributes h) ≡ true
    → IsArea w (variable_meant blocks b h)
area_meant blocks w facts b h d seen a =
    let m = is_meant blocks w.program w.table facts b h d in
    let all = m.root ∷ m.members in
    record {
      d = typed_variable blocks b all;
      declared = is_declared blocks w facts b h d m seen;
      size = size_of_area (written_extents all) (own_attributes h);
      initial = flat_map initial_items (own_attributes h);
      leaf = area_leaf_is blocks b h m a;
    }

-- a STATIC one, whatever is around
pub static_meant : (blocks : List Block) (w : Where) → Facts blocks w.program w.table → (b : ℕ) (h : Held)
    → DeclaresVariable blocks b h → has 7 (own_attributes h) ≡ true
    → (variable_meant blocks b h).class ≡ Y.StaticClass → IsStaticArea w (variable_meant blocks b h)
static_meant blocks w facts b h d a c =
    let m = is_meant blocks w.program w.table facts b h d in
    let all = m.root ∷ m.members in
    record {
      class_is = c;
      d = typed_variable blocks b all;
      found = declared_found blocks w facts b h d m;
      same_class = declared_class blocks b h m;
      size = size_of_area (written_extents all) (own_attributes h);
      initial = flat_map initial_items (own_attributes h);
      leaf = area_leaf_is blocks b h m a;
    }

-- an area is neither BASED nor CONTROLLED
abbrev pub IsKept : Y.StorageClass → Type 0
IsKept Y.BasedClass = ⊥
IsKept Y.ControlledClass = ⊥
IsKept _ = ⊤

pub kept_by : (a b c d : Bool) → c ≡ false → d ≡ false
    → IsKept (if a then Y.ParameterClass
    else (if b then Y.StaticClass else (if c then Y.ControlledClass
    else (if d then Y.BasedClass else Y.AutomaticClass))))
kept_by true b c d e f = tt
kept_by false true c d e f = tt
kept_by false false true d e f = absurd (cc e)
kept_by false false false true e f = absurd (cc f)
kept_by false false false false e f = tt

pub area_kept : (blocks : List Block) (program : Y.Program) (table : Table) → Facts blocks program table → (b : ℕ)
    (h : Held) → DeclaresVariable blocks b h → has 7 (own_attributes h) ≡ true
    → IsKept (variable_meant blocks b h).class
area_kept blocks program table facts b h d a =
    let m = is_meant blocks program table facts b h d in
    let all = m.root ∷ m.members in
    let only = only_area _ all m.structure m.fine m.place h m.there a in
    let root : root_of h ≡ h.variable =
    ap (λ vs. first_or vs h.variable) (none_above h.above only.alone) in
    let names = names_of (head_of_block (slice_get blocks b)) in
    kept_by (is_parameter names h) (has 9 (root_of h).item.attributes) (has 10 (root_of h).item.attributes)
    (has 11 (root_of h).item.attributes)
    (ap (λ (v : Variable). has 10 v.item.attributes) root ∙ only.not_controlled)
    (ap (λ (v : Variable). has 11 v.item.attributes) root ∙ only.not_based)

-- ---- areas that names mean

area_of_what : (blocks : List Block) (w : Where) → Facts blocks w.program w.table → (at : DeclarationAt)
    (d : Declaration) → IsIn blocks at.block at.index d → IsSeen blocks w.around at.block → (what : What)
    → d.what ≡ what → (v : Y.Variable) → area_in blocks at.block (Some what) ≡ Some v → IsArea w v
area_of_what blocks w facts at d i seen Label e v f = absurd (cc f)
area_of_what blocks w facts at d i seen (ProcedureName head) e v f = absurd (cc f)
area_of_what blocks w facts at d i seen (Variable' h) e v f =
    by (has 7 (own_attributes h)) refl f (fine_declared blocks w.program w.table facts at.block at.index d h i e) where
      by : (b : Bool) → has 7 (own_attributes h) ≡ b
          → (if b then Some (variable_meant blocks at.block h) else None) ≡ Some v
          → (ps : List T.Name) × IsFineMember ps h → IsArea w v
      by true a f own =
          subst (IsArea w) (same_some (variable_meant blocks at.block h) v f)
          (area_meant blocks w facts at.block h
          (record {
            index = at.index;
            declaration = d;
            is_in = i;
            is = e;
            no_builtin = area_no_builtin own.0 h own.1 a;
          }) seen a)
      by false a f own = absurd (cc f)

area_of_found : (blocks : List Block) (w : Where) → Facts blocks w.program w.table → (b : ℕ) (name : T.Name)
    → IsVisible blocks w.around b → (f : Found) → name_means blocks b name ≡ f → (v : Y.Variable)
    → area_found blocks f ≡ Some v → IsArea w v
area_of_found blocks w facts b name see F.None e v a = absurd (cc a)
area_of_found blocks w facts b name see F.Ambiguous e v a = absurd (cc a)
area_of_found blocks w facts b name see (F.One at) e v a =
    let k = found_at blocks b [] name.letters at e in
    let seen = (visible_from blocks w.program w.table facts w.around b at.block see k.block_around).1 in
    let there : what_at blocks at ≡ Some k.declaration.what =
    ap (λ o. what_of (slice_get (declarations_of o) at.index)) k.is_in.has_block ∙ ap what_of k.is_in.has in
    area_of_what blocks w facts at k.declaration k.is_in seen k.declaration.what refl v
    (sym (ap (area_in blocks at.block) there) ∙ a)

-- an area that a kind names
pub area_named_sound : (blocks : List Block) (w : Where) → Facts blocks w.program w.table → (b : ℕ)
    (name : Option T.Name) → IsVisible blocks w.around b → IsAreaIf w (area_named blocks b name)
area_named_sound blocks w facts b None see = tt
area_named_sound blocks w facts b (Some name) see =
    by (area_found blocks (name_means blocks b name))
    (area_of_found blocks w facts b name see (name_means blocks b name) refl) where
      by : (o : Option Y.Variable) → ((v : Y.Variable) → o ≡ Some v → IsArea w v) → IsAreaIf w o
      by None k = tt
      by (Some v) k = k v refl

pub kind_sound : (blocks : List Block) (w : Where) → Facts blocks w.program w.table → (b : ℕ)
    (written : List WrittenExtent) (all : List T.Attribute) → IsVisible blocks w.around b → attributes_clash all ≡ false
    → IsSoundType w (type_of blocks b written all)
kind_sound blocks w facts b written all see e =
    type_sound_by w (has 2 all) (has 3 all) (has 4 all) (has 5 all) (has 6 all) (has 7 all) (size_of_text written all)
    (size_of_area written all) (area_named blocks b (area_name all)) (precision_of (precisions_in all))
    (precision_is (precisions_in all) (digits_fine all e)) (area_named_sound blocks w facts b (area_name all) see)

-- ---- areas as they are declared

pub record AreaDeclared (blocks : List Block) (b : ℕ) (v : Y.Variable) : Type 0 where
  pub h : Held
  pub declares : DeclaresVariable blocks b h
  pub is : variable_meant blocks b h ≡ v
  pub written : has 7 (own_attributes h) ≡ true

declared_what : (blocks : List Block) (program : Y.Program) (table : Table) → Facts blocks program table
    → (at : DeclarationAt) (d : Declaration) → IsIn blocks at.block at.index d → (what : What) → d.what ≡ what
    → (v : Y.Variable) → area_in blocks at.block (Some what) ≡ Some v → AreaDeclared blocks at.block v
declared_what blocks program table facts at d i Label e v f = absurd (cc f)
declared_what blocks program table facts at d i (ProcedureName head) e v f = absurd (cc f)
declared_what blocks program table facts at d i (Variable' h) e v f =
    by (has 7 (own_attributes h)) refl f (fine_declared blocks program table facts at.block at.index d h i e) where
      by : (b : Bool) → has 7 (own_attributes h) ≡ b
          → (if b then Some (variable_meant blocks at.block h) else None) ≡ Some v
          → (ps : List T.Name) × IsFineMember ps h → AreaDeclared blocks at.block v
      by true a f own = record {
        h = h;
        declares = record {
          index = at.index;
          declaration = d;
          is_in = i;
          is = e;
          no_builtin = area_no_builtin own.0 h own.1 a;
        };
        is = same_some (variable_meant blocks at.block h) v f;
        written = a;
      }
      by false a f own = absurd (cc f)

pub record AreaFound (blocks : List Block) (around : List ℕ) (v : Y.Variable) : Type 0 where
  pub block : ℕ
  pub declared : AreaDeclared blocks block v
  pub block_around : IsAmong block around

pub area_found_is : (blocks : List Block) (program : Y.Program) (table : Table) → Facts blocks program table → (b : ℕ)
    (name : T.Name) (f : Found) → name_means blocks b name ≡ f → (v : Y.Variable) → area_found blocks f ≡ Some v
    → AreaFound blocks (around_of (slice_get blocks b)) v
area_found_is blocks program table facts b name F.None e v a = absurd (cc a)
area_found_is blocks program table facts b name F.Ambiguous e v a = absurd (cc a)
area_found_is blocks program table facts b name (F.One at) e v a =
    let k = found_at blocks b [] name.letters at e in
    let there : what_at blocks at ≡ Some k.declaration.what =
    ap (λ o. what_of (slice_get (declarations_of o) at.index)) k.is_in.has_block ∙ ap what_of k.is_in.has in
    record {
      block = at.block;
      declared =
          declared_what blocks program table facts at k.declaration k.is_in k.declaration.what refl v
          (sym (ap (area_in blocks at.block) there) ∙ a);
      block_around = k.block_around;
    }
