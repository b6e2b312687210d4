-- A BASED variable is located by what stands before it, else by what its declaration names; no other variable is.
use Rattle.std.proofs.Common.{◌≡◌, ℕ, zero, suc, ◌+◌, ◌≤◌, ◌==◌, Bool, true, false, not, ◌&&◌, ◌||◌, List, [], ◌∷◌}
use Rattle.std.proofs.Common.{◌++◌, length, Option, Some, None, if◌then◌else◌, refl, sym, ap, ◌∙◌, subst, arith}
use Rattle.std.specs.Prelude.{slice_get, unwrap_or, is_some, nat_lt}
use Rattle.std.specs.List.{list_any}
use Rattle.std.proofs.lemmas.Bool.Decides.{nat_tests}
use Rattle.pli_language.specs.declared.expr.Place.{Place}
use Rattle.pli_language.specs.declared.scope.Found.{Found}
use Rattle.pli_language.specs.declared.scope.Found.TheVariants as F
use Rattle.pli_language.specs.declared.scope.DeclarationAt.{DeclarationAt}
use Rattle.pli_language.specs.Tree as T
use Rattle.pli_language.specs.Keywords.{same_bytes}
use Rattle.pli_language.specs.Declarations.{Held, Variable, level_of, Block, Declaration, What, Variable', Label}
use Rattle.pli_language.specs.Declarations.{ProcedureName}
use Rattle.pli_language.specs.Declaring.{has, has_class, classes_in, one, own_attributes, class_attributes, root_of}
use Rattle.pli_language.specs.Declaring.{first_or}
use Rattle.pli_language.specs.Declaring.{stands_alone, is_parameter, names_of, attributes_clash}
use Rattle.pli_language.specs.Declaring.{kinds_in, repeats}
use Rattle.pli_language.specs.Means.{declarations_of}
use Rattle.pli_typing.specs.TypedTree as Y
use Rattle.pli_typing.specs.Judging.{Judged, Scope, each}
use Rattle.pli_typing.specs.Variables.{variable_meant, head_of_block, locator_name, area_name, name_means, what_at}
use Rattle.pli_typing.specs.Variables.{what_of, declarations_at, variables_in}
use Rattle.pli_typing.specs.Calls.{part_designated}
use Rattle.pli_typing.specs.Converting.{Designated, value_with_type, pointer_wanted}
use Rattle.pli_typing.specs.References.{locates, locator_value, locator_if, locator_in, locator_found, declared_locator}
use Rattle.pli_typing.specs.References.{based_locator, locator_of}
use Rattle.pli_typing.specs.Generations.{name_demanded, area_demanded, locator_demanded, names_demanded}
use Rattle.pli_typing.specs.Generations.{declared_variable}
use Rattle.well_formed_trees.specs.Surroundings.{Table, Where}
use Rattle.well_formed_trees.specs.References.{IsLocated}
use Rattle.well_formed_trees.specs.Expressions.{SoundLocator}
use Rattle.well_formed_trees.proofs.Lists.{first_empty, second_empty, first_false, second_false}
use Rattle.well_formed_trees.proofs.Places.{same_some, every_at}
use Rattle.well_formed_trees.proofs.Parameters.{attributes_fine, class_fine}
use Rattle.well_formed_trees.proofs.FineVariables.{IsFineMember, all_fine, no_clash}
use Rattle.well_formed_trees.proofs.Facts.{Facts, IsSeen, IsVisible}
use Rattle.well_formed_trees.proofs.Found.{found_at}
use Rattle.well_formed_trees.proofs.DeclaredOnce.{IsIn, total, spot, spot_one, same_place_self, at_declaration}
use Rattle.well_formed_trees.proofs.DeclaredOnce.{at_block, one_of_total}
use Rattle.well_formed_trees.proofs.HeldAlone.{IsWell, WhatWell, BlockWell}
use Rattle.well_formed_trees.proofs.Structures.{BlockChained, Chained, Links, chain_behind, roots_total, at_first}
use Rattle.well_formed_trees.proofs.Structures.{at_held}
use Rattle.pli_typing.specs.Variables.{members_first, variable_then, index_where, begins_at, root_place, members_of}
use Rattle.pli_typing.specs.Variables.{part_of, all_dimensions}
use Rattle.pli_typing.specs.Calls.{part_among}
use Rattle.pli_language.specs.Declaring.{same_place}
use Rattle.well_formed_trees.proofs.MeantVariables.{begins_one, fine_declared}
use Rattle.well_formed_trees.proofs.MeantVariables.{DeclaresVariable, IsMeant, is_meant, visible_from}
use Rattle.well_formed_trees.proofs.PartFit.{part_fit}
use Rattle.well_formed_trees.proofs.FitValues.{IsPart, SoundGiven, part_value, pointer_sound}

-- ---- classes

pub few : (n : ℕ) → nat_lt 1 n ≡ false → n ≤ 1
few n e = grind (arith, nat_tests)

pub few_classes : (all : List T.Attribute) → attributes_clash all ≡ false → nat_lt 1 (classes_in all) ≡ false
few_classes all e =
    second_false (repeats all || nat_lt 1 (kinds_in all)) _
    (first_false _ _ (first_false _ _ (first_false _ _ (first_false _ _ e))))

no_class : (n : ℕ) (d o : Bool) → nat_lt 0 ((n + one d) + one o) ≡ false → d ≡ false
no_class n false o e = refl
no_class n true o e = absurd (more (one o) n e) where
  more : (k n : ℕ) → nat_lt 0 ((n + 1) + k) ≡ false → ⊥
  more k n e = grind (arith, nat_tests)

-- where BASED is written, the class is BASED, and else it isn't
based_by : (p s c b : Bool) → b ≡ true → p ≡ false → s ≡ false → c ≡ false
    → (if p then Y.ParameterClass
    else (if s then Y.StaticClass else (if c then Y.ControlledClass
    else (if b then Y.BasedClass else Y.AutomaticClass)))) ≡ Y.BasedClass
based_by false false false true e f g h = refl
based_by false false false false e f g h = absurd (cc e)
based_by true s c b e f g h = absurd (cc f)
based_by false true c b e f g h = absurd (cc g)
based_by false false true b e f g h = absurd (cc h)

not_based_by : (p s c b : Bool) → b ≡ false
    → IsLocated (if p then Y.ParameterClass
    else (if s then Y.StaticClass else (if c then Y.ControlledClass
    else (if b then Y.BasedClass else Y.AutomaticClass)))) Y.NotLocated
not_based_by true s c b e = tt
not_based_by false true c b e = tt
not_based_by false false true b e = tt
not_based_by false false false false e = tt
not_based_by false false false true e = absurd (cc e)

pub alone_classes : (a s c b o : Bool) → (((one a + one s) + one c) + one b) + one o ≤ 1 → b ≡ true
    → (s ≡ false) × (c ≡ false)
alone_classes a false false b o k e = (refl, refl)
alone_classes a true c true o k e = absurd (omega (arith, k))
alone_classes a false true true o k e = absurd (omega (arith, k))
alone_classes a s c false o k e = absurd (cc e)

root_fine : {blocks : List Block} {b : ℕ} {h : Held} (m : IsMeant blocks b h)
    → IsFineMember (names_of (head_of_block (slice_get blocks b))) m.root
root_fine {blocks} {b} m = (all_fine (names_of (head_of_block (slice_get blocks b))) (m.root ∷ m.members) m.fine).0

class_of_root : (blocks : List Block) (b : ℕ) (h : Held) (m : IsMeant blocks b h)
    → has 11 (class_attributes h) ≡ true → (variable_meant blocks b h).class ≡ Y.BasedClass
class_of_root blocks b h m e =
    let names = names_of (head_of_block (slice_get blocks b)) in
    let attributes : class_attributes h ≡ own_attributes m.root =
    ap (λ (v : Variable). v.item.attributes) m.root_is in
    let own : has 11 (own_attributes m.root) ≡ true = ap (has 11) (sym attributes) ∙ e in
    let f = root_fine m in
    let classes = few (classes_in (own_attributes m.root)) (few_classes (own_attributes m.root) (no_clash names m.root
    f)) in
    let two = alone_classes (has 8 (own_attributes m.root)) (has 9 (own_attributes m.root))
    (has 10 (own_attributes m.root)) (has 11 (own_attributes m.root)) (has 13 (own_attributes m.root)) classes own in
    let root : root_of m.root ≡ m.root.variable = ap (λ vs. first_of vs) m.structure.0 in
    let alone : stands_alone m.root ≡ true = ap (λ vs. length vs == 0) m.structure.0 in
    let parameter = not_parameter (is_parameter names m.root) (stands_alone m.root) (has_class (own_attributes m.root))
    (has 12 (own_attributes m.root))
    (class_fine names m.root f.after (attributes_fine names f.earlier m.root f.after f.fine)) alone
    (some_class (has 8 (own_attributes m.root)) (has 9 (own_attributes m.root)) (has 10 (own_attributes m.root))
    (has 11 (own_attributes m.root)) (has 13 (own_attributes m.root)) own) in
    let same : is_parameter names h ≡ is_parameter names m.root =
    ap (is_named names) (m.root_is ∙ sym root) in
    based_by (is_parameter names h) (has 9 (class_attributes h)) (has 10 (class_attributes h))
    (has 11 (class_attributes h)) e (same ∙ parameter) (ap (has 9) attributes ∙ two.0)
    (ap (has 10) attributes ∙ two.1) where
      first_of : List Variable → Variable
      first_of vs = first_or vs m.root.variable

      is_named : List T.Name → Variable → Bool
      is_named names v =
          (level_of v == 1) && list_any (λ n. same_bytes n.letters v.declared.name.letters) names

      not_parameter : (p a c i : Bool) → (p && ((a && c) || i)) ≡ false → a ≡ true → c ≡ true → p ≡ false
      not_parameter false a c i e f g = refl
      not_parameter true true true i e f g = absurd (cc e)
      not_parameter true true false i e f g = absurd (cc g)
      not_parameter true false c i e f g = absurd (cc f)

      some_class : (a s c b o : Bool) → b ≡ true
          → nat_lt 0 ((((one a + one s) + one c) + one b) + one o) ≡ true
      some_class a s c true o e = more (one a) (one s) (one c) (one o) where
        more : (x y z u : ℕ) → nat_lt 0 ((((x + y) + z) + 1) + u) ≡ true
        more x y z u = grind (arith, nat_tests)
      some_class a s c false o e = absurd (cc e)

class_not_based : (blocks : List Block) (b : ℕ) (h : Held) → has 11 (class_attributes h) ≡ false
    → IsLocated (variable_meant blocks b h).class Y.NotLocated
class_not_based blocks b h e =
    not_based_by (is_parameter (names_of (head_of_block (slice_get blocks b))) h) (has 9 (class_attributes h))
    (has 10 (class_attributes h)) (has 11 (class_attributes h)) e

-- ---- names in attributes are found

judged_each : {X Z : Type 0} (f : X → Judged Z) (xs : List X) (i : ℕ) (x : X) → (each f xs).faults ≡ []
    → slice_get xs i ≡ Some x → (f x).faults ≡ []
judged_each f [] i x e g = absurd (cc g)
judged_each f (y ∷ ys) zero x e g =
    subst (λ z. (f z).faults ≡ []) (same_some y x g) (first_empty (f y).faults ((each f ys).faults ++ []) e)
judged_each f (y ∷ ys) (suc i) x e g =
    judged_each f ys i x (first_empty (each f ys).faults []
    (second_empty (f y).faults ((each f ys).faults ++ []) e)) g

pub names_judged : (blocks : List Block) (program : Y.Program) (table : Table) → Facts blocks program table → (b : ℕ)
    (h : Held) → DeclaresVariable blocks b h → (m : IsMeant blocks b h)
    → (names_demanded blocks b (own_attributes m.root)).faults ≡ []
names_judged blocks program table facts b h d m =
    let scope : Scope = record { blocks = blocks; block = b } in
    let all = judged_each (declared_variable scope) (variables_in (declarations_at blocks b)) _ (m.root ∷ m.members)
    (facts.judged b d.is_in.block d.is_in.has_block) m.found in
    let own = variable_meant blocks b m.root in
    let names = each (λ h. names_demanded blocks b (own_attributes h)) (m.root ∷ m.members) in
    judged_each (λ h. names_demanded blocks b (own_attributes h)) (m.root ∷ m.members) 0 m.root
    (first_empty names.faults _ all) refl

is_demanded : (f : Found) (is_one : Bool) (name : T.Name) → (name_demanded f is_one name).faults ≡ [] → is_one ≡ true
is_demanded (F.One at) true name e = refl
is_demanded (F.One at) false name e = absurd (cc e)
is_demanded F.None is_one name e = absurd (cc e)
is_demanded F.Ambiguous is_one name e = absurd (cc e)

locator_is_found : (blocks : List Block) (b : ℕ) (attributes : List T.Attribute) (name : T.Name)
    → (names_demanded blocks b attributes).faults ≡ [] → locator_name attributes ≡ Some name
    → is_some (locator_found blocks (name_means blocks b name)) ≡ true
locator_is_found blocks b attributes name e f =
    let l = second_empty (area_demanded blocks b (area_name attributes)).faults
    (locator_demanded blocks b (locator_name attributes)).faults e in
    is_demanded (name_means blocks b name) (is_some (locator_found blocks (name_means blocks b name))) name
    (subst (λ o. (locator_demanded blocks b o).faults ≡ []) f l)

-- ---- the locator that a declaration names

none_begins : (p : Place) (vs : List (List Held)) → total (at_first p) vs ≡ 0
    → slice_get vs (index_where (begins_at p) vs) ≡ None
none_begins p [] e = refl
none_begins p (all ∷ vs) e = by (begins_at p all) refl (none_begins p vs (rest e)) where
  rest : at_first p all + total (at_first p) vs ≡ 0 → total (at_first p) vs ≡ 0
  rest e = omega (arith, e)

  by : (b : Bool) → begins_at p all ≡ b → slice_get vs (index_where (begins_at p) vs) ≡ None
      → slice_get (all ∷ vs) (if b then 0 else index_where (begins_at p) vs + 1) ≡ None
  by true t k =
      let one = begins_one p all t in
      absurd (omega (arith, one, e))
  by false t k =
      let next : index_where (begins_at p) vs + 1 ≡ suc (index_where (begins_at p) vs) = omega arith in
      ap (slice_get (all ∷ vs)) next ∙ k

-- a built-in is counted among declarations, and not among variables
builtin_less : (p : Place) (chain : List Variable) (ds : List Declaration) (i : ℕ) (d : Declaration) (h : Held)
    → Chained chain ds → slice_get ds i ≡ Some d → d.what ≡ Variable' h → has 13 (own_attributes h) ≡ true
    → spot p d.name.place + total (at_first p) (variables_in ds) ≤ total (at_declaration p) ds
builtin_less p chain [] i d h c e w b = absurd (cc e)
builtin_less p chain (x ∷ ds) zero d h c e w b =
    let same : x ≡ d = same_some x d e in
    let what : x.what ≡ Variable' h = ap (λ (y : Declaration). y.what) same ∙ w in
    let place : spot p x.name.place ≡ spot p d.name.place = ap (λ (y : Declaration). spot p y.name.place) same in
    let none : variable_then x.what (members_first ds) (variables_in ds) ≡ variables_in ds =
    ap (λ w. variable_then w (members_first ds) (variables_in ds)) what
    ∙ (ap (λ t. if stands_alone h && not t then (h ∷ members_first ds) ∷ variables_in ds else variables_in ds) b
    ∙ off (stands_alone h)) in
    let k = roots_total p (chain_behind x.what) ds c.1 in
    let t : total (at_first p) (variable_then x.what (members_first ds) (variables_in ds))
    ≡ total (at_first p) (variables_in ds) = ap (total (at_first p)) none in
    omega (arith, k, t, place) where
      off : (t : Bool) → (if t && not true then (h ∷ members_first ds) ∷ variables_in ds else variables_in ds)
          ≡ variables_in ds
      off true = refl
      off false = refl
builtin_less p chain (x ∷ ds) (suc i) d h c e w b =
    let k = builtin_less p (chain_behind x.what) ds i d h c.1 e w b in
    let own = roots_then p x.name x.what (members_first ds) (variables_in ds) (links_name c.0) in
    omega (arith, k, own) where
      links_name : Links chain x.name x.what → Links chain x.name x.what
      links_name l = l

      roots_then : (p : Place) (name : T.Name) (w : What) (ms : List Held) (rest : List (List Held))
          → Links chain name w
          → total (at_first p) (variable_then w ms rest) ≤ spot p name.place + total (at_first p) rest
      roots_then p name (Variable' g) ms rest l =
          let s : spot p name.place ≡ at_held p g = ap (λ (n : T.Name). spot p n.place) l.1 in
          which (stands_alone g && not (has 13 (own_attributes g))) s where
            which : (t : Bool) → spot p name.place ≡ at_held p g
                → total (at_first p) (if t then (g ∷ ms) ∷ rest else rest)
                ≤ spot p name.place + total (at_first p) rest
            which true s = omega (arith, s)
            which false s = omega arith
      roots_then p name Label ms rest l = omega arith
      roots_then p name (ProcedureName head) ms rest l = omega arith

-- it is of level 1
builtin_level : (ps : List T.Name) (h : Held) → IsFineMember ps h → has 13 (own_attributes h) ≡ true
    → level_of h.variable ≤ 1
builtin_level ps h f t =
    let bad = attributes_fine ps f.earlier h f.after f.fine in
    let level = second_false _ _ (first_false _ _ (first_false _ _ bad)) in
    at_most (level_of h.variable) (none_of (nat_lt 1 (level_of h.variable)) (has_class (own_attributes h)) level
    (some_class (has 8 (own_attributes h)) (has 9 (own_attributes h)) (has 10 (own_attributes h))
    (has 11 (own_attributes h)) (has 13 (own_attributes h)) t)) where
      at_most : (n : ℕ) → nat_lt 1 n ≡ false → n ≤ 1
      at_most n e = grind (arith, nat_tests)

      none_of : (a b : Bool) → (a && b) ≡ false → b ≡ true → a ≡ false
      none_of false b e f = refl
      none_of true b e f = absurd (cc (e, f))

      some_class : (a s c b o : Bool) → o ≡ true
          → nat_lt 0 ((((one a + one s) + one c) + one b) + one o) ≡ true
      some_class a s c b true e = more (one a) (one s) (one c) (one b) where
        more : (x y z u : ℕ) → nat_lt 0 ((((x + y) + z) + u) + 1) ≡ true
        more x y z u = grind (arith, nat_tests)
      some_class a s c b false e = absurd (cc e)

-- so what is a built-in locates nothing
builtin_locates : (blocks : List Block) (program : Y.Program) (table : Table) → Facts blocks program table
    → (b index : ℕ) (d : Declaration) (h : Held) → IsIn blocks b index d → d.what ≡ Variable' h
    → has 13 (own_attributes h) ≡ true
    → locates (locator_value (part_designated blocks b h Y.NotLocated false Y.NoNumber)) ≡ false
builtin_locates blocks program table facts b index d h i e t =
    let block = i.block in
    let ds = block.declarations in
    let chained = every_at BlockChained blocks b block facts.chained i.has_block in
    let own = every_at IsWell ds index d (every_at BlockWell blocks b block facts.well i.has_block) i.has in
    let well : WhatWell d.name (Variable' h) = subst (WhatWell d.name) e own in
    let fine = fine_declared blocks program table facts b index d h i e in
    let alone = well.0 (builtin_level fine.0 h fine.1 t) in
    let root : root_place h ≡ h.variable.declared.name.place =
    ap (λ vs. (first_or vs h.variable).declared.name.place) alone in
    let place : d.name.place ≡ root_place h = ap (λ (n : T.Name). n.place) well.1 ∙ sym root in
    let p = root_place h in
    let less = builtin_less p [] ds index d h chained i.has e t in
    let once = facts.apart p in
    let k = one_of_total (at_block p) blocks b block i.has_block in
    let here : 1 ≤ spot p d.name.place = spot_one (same_place p d.name.place)
    (ap (same_place p) place ∙ same_place_self p) in
    let none = none_begins p (variables_in ds) (omega (arith, less, once, k, here)) in
    let members : members_of blocks b h ≡ [] =
    ap (λ o. unwrap_or (slice_get (variables_in (declarations_of o)) (index_where (begins_at p)
    (variables_in (declarations_of o)))) []) i.has_block
    ∙ ap (λ o. unwrap_or o []) none in
    ap (λ ms. locates (locator_value (part_among blocks b ms h Y.NotLocated false Y.NoNumber))) members
    ∙ nothing (length (all_dimensions h) == 0) where
      nothing : (x : Bool)
          → locates (value_with_type (Y.Referring (variable_meant blocks b h) Y.NotLocated (part_of [] h) Y.NoNumber)
          (if x then None else None)) ≡ false
      nothing true = refl
      nothing false = refl

record IsLocator (w : Where) (p : Designated) : Type 0 where
  part : IsPart w p
  locates_it : locates (locator_value p) ≡ true

located_what : (blocks : List Block) (w : Where) → Facts blocks w.program w.table → (at : DeclarationAt)
    (d : Declaration) → IsIn blocks at.block at.index d → IsSeen blocks w.around at.block
    → IsVisible blocks w.around at.block → (what : What) → d.what ≡ what → (p : Designated)
    → locator_in blocks at.block (Some what) ≡ Some p → IsLocator w p
located_what blocks w facts at d i seen see Label e p f = absurd (cc f)
located_what blocks w facts at d i seen see (ProcedureName head) e p f = absurd (cc f)
located_what blocks w facts at d i seen see (Variable' h) e p f =
    let q = part_designated blocks at.block h Y.NotLocated false Y.NoNumber in
    by (has 11 (class_attributes h)) (locates (locator_value q)) (has 13 (own_attributes h)) refl refl refl f where
      by : (x y z : Bool) → has 11 (class_attributes h) ≡ x
          → locates (locator_value (part_designated blocks at.block h Y.NotLocated false Y.NoNumber)) ≡ y
          → has 13 (own_attributes h) ≡ z
          → locator_if (part_designated blocks at.block h Y.NotLocated false Y.NoNumber) (not x && y) ≡ Some p
          → IsLocator w p
      by true y z a b c f = absurd (cc f)
      by false false z a b c f = absurd (cc f)
      by false true true a b c f =
          absurd (cc (builtin_locates blocks w.program w.table facts at.block at.index d h i e c, b))
      by false true false a b c f =
          let q = part_designated blocks at.block h Y.NotLocated false Y.NoNumber in
          let declares : DeclaresVariable blocks at.block h = record {
            index = at.index;
            declaration = d;
            is_in = i;
            is = e;
            no_builtin = c;
          } in
          let own = part_fit blocks w facts at.block h declares seen see Y.NotLocated false Y.NoNumber (record {
            located = class_not_based blocks at.block h a;
            sound_locator = tt;
            sound_subscripts = tt;
            are = record { none = λ z. refl; many = λ z. absurd (cc z) };
          }) in
          subst (IsLocator w) (same_some q p f) (record { part = own; locates_it = b })

located_found : (blocks : List Block) (w : Where) → Facts blocks w.program w.table → (b : ℕ) (name : T.Name)
    → IsVisible blocks w.around b → (f : Found) → name_means blocks b name ≡ f → (p : Designated)
    → locator_found blocks f ≡ Some p → IsLocator w p
located_found blocks w facts b name see F.None e p g = absurd (cc g)
located_found blocks w facts b name see F.Ambiguous e p g = absurd (cc g)
located_found blocks w facts b name see (F.One at) e p g =
    let k = found_at blocks b [] name.letters at e in
    let v = visible_from blocks w.program w.table facts w.around b at.block see k.block_around in
    let there : what_at blocks at ≡ Some k.declaration.what =
    ap (λ o. what_of (slice_get (declarations_of o) at.index)) k.is_in.has_block ∙ ap what_of k.is_in.has in
    located_what blocks w facts at k.declaration k.is_in v.1 v.0 k.declaration.what refl p
    (sym (ap (locator_in blocks at.block) there) ∙ g)

-- what BASED names, where it is judged
pub record BasedLocator (blocks : List Block) (w : Where) (b : ℕ) (name : T.Name) : Type 0 where
  pub part : Designated
  pub found : locator_found blocks (name_means blocks b name) ≡ Some part
  pub is_part : IsPart w part
  pub value : Y.Value
  pub has_value : locator_value part ≡ Some value
  pub locates_it : locates (locator_value part) ≡ true

pub based_names : (blocks : List Block) (w : Where) → Facts blocks w.program w.table → (b : ℕ) (h : Held)
    → DeclaresVariable blocks b h → (m : IsMeant blocks b h) → IsVisible blocks w.around b → (name : T.Name)
    → locator_name (class_attributes h) ≡ Some name → BasedLocator blocks w b name
based_names blocks w facts b h d m see name e =
    let attributes : class_attributes h ≡ own_attributes m.root =
    ap (λ (v : Variable). v.item.attributes) m.root_is in
    let some = locator_is_found blocks b (own_attributes m.root) name
    (names_judged blocks w.program w.table facts b h d m) (ap locator_name (sym attributes) ∙ e) in
    by (locator_found blocks (name_means blocks b name)) refl some where
      valued : (p : Designated) → locator_found blocks (name_means blocks b name) ≡ Some p → IsLocator w p
          → BasedLocator blocks w b name
      valued p f l = which (locator_value p) refl (l.locates_it) where
        which : (o : Option Y.Value) → locator_value p ≡ o → locates (locator_value p) ≡ true
            → BasedLocator blocks w b name
        which None g t = absurd (cc (ap locates g, t))
        which (Some v) g t = record { part = p; found = f; is_part = l.part; value = v; has_value = g; locates_it = t }

      by : (o : Option Designated) → locator_found blocks (name_means blocks b name) ≡ o
          → is_some (locator_found blocks (name_means blocks b name)) ≡ true → BasedLocator blocks w b name
      by None f s = absurd (cc (ap is_some f, s))
      by (Some p) f s =
          valued p f (located_found blocks w facts b name see (name_means blocks b name) refl p f)

-- ---- the locator of a reference

pub record LocatorFits (w : Where) (class : Y.StorageClass) (l : Y.Locator) : Type 0 where
  pub located : IsLocated class l
  pub sound : SoundLocator w l

located_by : (w : Where) (class : Y.StorageClass) (p : Y.Pointer) → class ≡ Y.BasedClass
    → SoundLocator w (Y.LocatedBy p) → LocatorFits w class (Y.LocatedBy p)
located_by w class p e h =
    record { located = subst (λ c. IsLocated c (Y.LocatedBy p)) (sym e) tt; sound = h }

declared_fit : (w : Where) (class : Y.StorageClass) (place : Place) (p : Designated) (v : Y.Value)
    → class ≡ Y.BasedClass → IsPart w p → locator_value p ≡ Some v → (declared_locator place (Some p)).faults ≡ []
    → LocatorFits w class (declared_locator place (Some p)).value
declared_fit w class place p v e h g f =
    let given : SoundGiven w (locator_value p) = subst (SoundGiven w) (sym g) (part_value w p h v g) in
    located_by w class (pointer_wanted place (locator_value p)).value e
    (pointer_sound w place (locator_value p) given (first_empty (pointer_wanted place (locator_value p)).faults [] f))

pub locator_fit : (blocks : List Block) (w : Where) → Facts blocks w.program w.table → (b : ℕ) (h : Held)
    → DeclaresVariable blocks b h → IsVisible blocks w.around b → (place : Place) (located : Y.Locator)
    → SoundLocator w located → (locator_of blocks b h (has 11 (class_attributes h)) place located).faults ≡ []
    → LocatorFits w (variable_meant blocks b h).class
    (locator_of blocks b h (has 11 (class_attributes h)) place located).value
locator_fit blocks w facts b h d see place located s f =
    let m = is_meant blocks w.program w.table facts b h d in
    by (has 11 (class_attributes h)) refl located s f (class_of_root blocks b h m) (class_not_based blocks b h)
    (based_names blocks w facts b h d m see) where
      based : (o : Option T.Name) → locator_name (class_attributes h) ≡ o
          → (variable_meant blocks b h).class ≡ Y.BasedClass
          → ((name : T.Name) → locator_name (class_attributes h) ≡ Some name → BasedLocator blocks w b name)
          → (based_locator blocks b place o).faults ≡ []
          → LocatorFits w (variable_meant blocks b h).class (based_locator blocks b place o).value
      based None e c k f = absurd (cc f)
      based (Some name) e c k f =
          let l = k name e in
          subst (λ o. LocatorFits w (variable_meant blocks b h).class (declared_locator place o).value) (sym l.found)
          (declared_fit w (variable_meant blocks b h).class place l.part l.value c l.is_part l.has_value
          (subst (λ o. (declared_locator place o).faults ≡ []) l.found f))

      by : (x : Bool) → has 11 (class_attributes h) ≡ x → (located : Y.Locator) → SoundLocator w located
          → (locator_of blocks b h x place located).faults ≡ []
          → (has 11 (class_attributes h) ≡ true → (variable_meant blocks b h).class ≡ Y.BasedClass)
          → (has 11 (class_attributes h) ≡ false → IsLocated (variable_meant blocks b h).class Y.NotLocated)
          → ((name : T.Name) → locator_name (class_attributes h) ≡ Some name → BasedLocator blocks w b name)
          → LocatorFits w (variable_meant blocks b h).class (locator_of blocks b h x place located).value
      by true e Y.NotLocated s f c n k = based (locator_name (class_attributes h)) refl (c e) k f
      by true e (Y.LocatedBy p) s f c n k = located_by w (variable_meant blocks b h).class p (c e) s
      by false e Y.NotLocated s f c n k = record { located = n e; sound = tt }
      by false e (Y.LocatedBy p) s f c n k = absurd (cc f)
