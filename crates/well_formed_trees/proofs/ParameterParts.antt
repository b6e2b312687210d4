-- The parameters of a procedure, as its own block has them.
use Rattle.std.proofs.Common.{◌≡◌, ℕ, zero, suc, ◌≤◌, ◌==◌, Bool, true, false, List, [], ◌∷◌}
use Rattle.std.proofs.Common.{◌++◌, map, length, Option, Some, None, if◌then◌else◌, refl, sym, ap, ◌∙◌, subst, arith}
use Rattle.std.specs.Prelude.{slice_get, unwrap_or, drop, nat_lt, ⊤}
use Rattle.std.proofs.lemmas.Bool.{eqb-true}
use Rattle.pli_language.specs.declared.expr.Place.{Place}
use Rattle.pli_language.specs.Tree as T
use Rattle.pli_language.specs.Declarations.{Held, Block, level_of}
use Rattle.pli_language.specs.Declaring.{has, own_attributes, stands_alone, root_of, first_or, names_of, same_place}
use Rattle.pli_language.specs.Declaring.{block_faults, block_head_faults, twice_faults, declarations_faults}
use Rattle.pli_language.specs.Declaring.{precision_of, precisions_in}
use Rattle.pli_language.specs.Means.{declarations_of, around_of}
use Rattle.pli_typing.specs.TypedTree as Y
use Rattle.pli_typing.specs.Judging.{Scope}
use Rattle.pli_typing.specs.Generations.{declared_variable}
use Rattle.pli_typing.specs.Variables as V
use Rattle.pli_typing.specs.Variables.{variables_in, index_where, declarations_at, index_of_variable, members_of}
use Rattle.pli_typing.specs.Variables.{head_of_block, from_place, with_members, leaves_in, leaf_of, leaves_of}
use Rattle.pli_typing.specs.Variables.{WrittenExtent, written_extents, variable_meant, begins_at, root_place, type_of}
use Rattle.pli_typing.specs.Variables.{area_named}
use Rattle.pli_typing.specs.Variables.{area_name, area_found, name_means, size_of_text, size_of_area, class_of}
use Rattle.pli_typing.specs.Calls.{begins_named, whole_of, part_designated, index_in}
use Rattle.pli_typing.specs.Converting.{Designated, scalar_type, only_type}
use Rattle.well_formed_trees.specs.Ranges.{IsPrecision}
use Rattle.well_formed_trees.specs.Surroundings.{Table, Where, head_of, parameter, variables_of_block}
use Rattle.well_formed_trees.specs.Expressions.{IsScalarParameter}
use Rattle.well_formed_trees.proofs.Lists.{second_empty}
use Rattle.well_formed_trees.proofs.Letters.{first_true}
use Rattle.well_formed_trees.proofs.Places.{same_some, every_at}
use Rattle.well_formed_trees.proofs.ParameterVariables.{Meant, each_at}
use Rattle.well_formed_trees.proofs.ResultTypes.{precision_is}
use Rattle.well_formed_trees.proofs.DeclaredOnce.{total, same_place_self, at_declaration, at_block, one_of_total}
use Rattle.well_formed_trees.proofs.DeclaredOnce.{only_one}
use Rattle.well_formed_trees.proofs.Structures.{BlockChained, IsStructure, structures, structure_root, at_held}
use Rattle.well_formed_trees.proofs.Structures.{at_first}
use Rattle.well_formed_trees.proofs.Structures.{variables_total, roots_total}
use Rattle.well_formed_trees.proofs.MemberParts.{from_there}
use Rattle.well_formed_trees.proofs.FineVariables.{IsFineMember, IsFineVariable, variables_fine, all_fine, no_clash}
use Rattle.well_formed_trees.proofs.Facts.{Facts}
use Rattle.well_formed_trees.proofs.MeantVariables.{IsMeant, typed_variable, found_there}
use Rattle.well_formed_trees.proofs.MeantVariables.{begins_one}
use Rattle.well_formed_trees.proofs.KindsSound.{type_by, digits_fine, AreaFound, area_found_is}
use Rattle.well_formed_trees.proofs.PartFit.{part_with, part_is, whole_with, one_member}

abbrev pub place_of_name : List Block → ℕ → T.Name → ℕ
place_of_name blocks m n = index_where (begins_named n) (variables_in (declarations_at blocks m))

-- a variable of level 1, with its members, by the place where it is found
record AtPlace (blocks : List Block) (m : ℕ) (h : Held) (ms : List Held) (i : ℕ) : Type 0 where
  index_is : index_of_variable blocks m h ≡ i
  meant : IsMeant blocks m h
  root_is : meant.root ∷ meant.members ≡ h ∷ ms

meant_root : (blocks : List Block) (program : Y.Program) (table : Table) → Facts blocks program table → (m : ℕ)
    (b : Block) → slice_get blocks m ≡ Some b → (h : Held) (ms : List Held) (i : ℕ)
    → slice_get (variables_in (declarations_at blocks m)) i ≡ Some (h ∷ ms) → AtPlace blocks m h ms i
meant_root blocks program table facts m b e h ms i f =
    let ds = b.declarations in
    let same : declarations_at blocks m ≡ ds = ap declarations_of e in
    let chained = every_at BlockChained blocks m b facts.chained e in
    let faults = every_at (λ b. block_faults b ≡ []) blocks m b facts.fine e in
    let own = second_empty (block_head_faults b b.head ++ twice_faults [] ds) (declarations_faults (names_of b.head)
    [] ds)
    faults in
    let ps = names_of (head_of_block (slice_get blocks m)) in
    let names : ps ≡ names_of b.head = ap (λ o. names_of (head_of_block o)) e in
    let fine : declarations_faults ps [] ds ≡ [] = subst (λ ps. declarations_faults ps [] ds ≡ []) (sym names) own in
    let g : slice_get (variables_in ds) i ≡ Some (h ∷ ms) = ap (λ ds. slice_get (variables_in ds) i) (sym same) ∙ f in
    let s = every_at IsStructure (variables_in ds) i (h ∷ ms) (structures [] ds chained) g in
    let root_is = (structure_root h ms s).0 in
    let p = root_place h in
    let q = h.variable.declared.name.place in
    let begins : begins_at p (h ∷ ms) ≡ true =
    ap (λ v. same_place p v.declared.name.place) (sym root_is) ∙ same_place_self p in
    let few = roots_total p [] ds chained in
    let once = once_at b e p in
    let there = found_there p (variables_in ds) i (h ∷ ms) (omega (arith, few, once)) g begins in
    let many = every_at (λ all. total (at_held q) all ≤ total (at_declaration q) ds) (variables_in ds) i (h ∷ ms)
    (variables_total q [] ds chained) g in
    let once_here = once_at b e q in
    let found : slice_get (variables_in (declarations_at blocks m)) (index_of_variable blocks m h) ≡ Some (h ∷ ms) =
    subst (λ ds. slice_get (variables_in ds) (index_where (begins_at p) (variables_in ds)) ≡ Some (h ∷ ms)) (sym same)
    there in
    let index : index_where (begins_at p) (variables_in ds) ≡ i =
    only_one (at_first p) (variables_in ds) (omega (arith, few, once)) (index_where (begins_at p) (variables_in ds)) i
    (h ∷ ms) (h ∷ ms) there g (begins_one p (h ∷ ms) begins) (begins_one p (h ∷ ms) begins) in
    record {
      index_is = ap (λ ds. index_where (begins_at p) (variables_in ds)) same ∙ index;
      meant = record {
        root = h;
        members = ms;
        found = found;
        structure = s;
        root_is = root_is;
        fine = every_at (IsFineVariable ps) (variables_in ds) i (h ∷ ms) (variables_fine ps [] ds fine) g;
        place = 0;
        there = refl;
        from = from_there (h ∷ ms) 0 h refl (omega (arith, many, once_here)) (same_place_self q);
      };
      root_is = refl;
    } where
      once_at : (b : Block) → slice_get blocks m ≡ Some b → (p : Place) → total (at_declaration p) b.declarations ≤ 1
      once_at b e p =
          let a = facts.apart p in
          let k = one_of_total (at_block p) blocks m b e in
          omega (arith, a, k)

-- ---- scalars

-- what a scalar parameter's kind says
abbrev pub IsParameterType : List Block → List ℕ → Y.LeafType → Type 0
IsParameterType blocks around (Y.FixedLeaf p) = IsPrecision p
IsParameterType blocks around (Y.OffsetLeaf (Some area)) = AreaFound blocks around area
IsParameterType blocks around _ = ⊤

offset_type : (blocks : List Block) (around : List ℕ) (area : Option Y.Variable)
    → ((v : Y.Variable) → area ≡ Some v → AreaFound blocks around v)
    → IsParameterType blocks around (Y.OffsetLeaf area)
offset_type blocks around None k = tt
offset_type blocks around (Some v) k = k v refl

area_named_is : (blocks : List Block) (program : Y.Program) (table : Table) → Facts blocks program table → (m : ℕ)
    (name : Option T.Name) (v : Y.Variable) → area_named blocks m name ≡ Some v
    → AreaFound blocks (around_of (slice_get blocks m)) v
area_named_is blocks program table facts m None v e = absurd (cc e)
area_named_is blocks program table facts m (Some name) v e =
    area_found_is blocks program table facts m name (name_means blocks m name) refl v e

parameter_type : (blocks : List Block) (program : Y.Program) (table : Table) → Facts blocks program table → (m : ℕ)
    (written : List WrittenExtent) (ps : List T.Name) (h : Held) → IsFineMember ps h
    → IsParameterType blocks (around_of (slice_get blocks m)) (type_of blocks m written (own_attributes h))
parameter_type blocks program table facts m written ps h f =
    let all = own_attributes h in
    let area = area_named blocks m (area_name all) in
    type_by (IsParameterType blocks (around_of (slice_get blocks m))) (has 2 all) (has 3 all) (has 4 all) (has 5 all)
    (has 6 all) (has 7 all) (size_of_text written all) (size_of_area written all) area
    (precision_of (precisions_in all)) tt tt tt tt
    (offset_type blocks (around_of (slice_get blocks m)) area
    (area_named_is blocks program table facts m (area_name all))) tt
    (precision_is (precisions_in all) (digits_fine all (no_clash ps h f)))

pub record TakesScalar (blocks : List Block) (around : List ℕ) (d : Y.DeclaredVariable) (t : Y.LeafType) : Type 0 where
  pub parameter : IsScalarParameter d t
  pub type : IsParameterType blocks around t

-- a parameter as it is designated, and as it is declared
pub record TakesPart (blocks : List Block) (around : List ℕ) (p : Designated) (d : Y.DeclaredVariable) : Type 0 where
  pub leaves : p.leaves ≡ d.leaves
  pub scalar : (t : Y.LeafType) → scalar_type p ≡ Some t → TakesScalar blocks around d t

no_dimensions : (h : Held) → (length (V.all_dimensions h) == 0) ≡ true → V.all_dimensions h ≡ []
no_dimensions h e = none (V.all_dimensions h) (eqb-true (length (V.all_dimensions h)) 0 e) where
  none : (xs : List T.Bound) → length xs ≡ 0 → xs ≡ []
  none [] e = refl
  none (x ∷ xs) e = absurd (never (length xs) e) where
    never : (n : ℕ) → suc n ≡ 0 → ⊥
    never n e = omega (arith, e)

scalar_taken : (blocks : List Block) (program : Y.Program) (table : Table) → Facts blocks program table → (b : ℕ)
    (h : Held) (m : IsMeant blocks b h) → stands_alone h ≡ true → (t : Y.LeafType)
    → scalar_type (part_with blocks b (m.root ∷ m.members) (drop m.place (m.root ∷ m.members)) h Y.NotLocated false
    Y.NoNumber) ≡ Some t
    → TakesScalar blocks (around_of (slice_get blocks b)) (typed_variable blocks b (m.root ∷ m.members)) t
scalar_taken blocks program table facts b h m a t e =
    let all = m.root ∷ m.members in
    by (length (V.all_dimensions h) == 0) (nat_lt 1 (length (with_members (drop m.place all)))) refl refl e where
      made : (length (V.all_dimensions h) == 0) ≡ true
          → nat_lt 1 (length (with_members (drop m.place (m.root ∷ m.members)))) ≡ false
          → only_type (leaves_of blocks b (m.root ∷ m.members) (with_members (drop m.place (m.root ∷ m.members))))
          ≡ Some t
          → TakesScalar blocks (around_of (slice_get blocks b)) (typed_variable blocks b (m.root ∷ m.members)) t
      made z s e =
          let all = m.root ∷ m.members in
          let written = written_extents all in
          let whole = whole_with blocks b h m a in
          let single : m.members ≡ [] = one_member m.root m.members
          (ap (λ l. nat_lt 1 (length l)) (sym whole) ∙ s) in
          let root : all ≡ m.root ∷ [] = ap (λ l. m.root ∷ l) single in
          let same : m.root ≡ h = same_root m.place (ap (λ l. slice_get l m.place) (sym root) ∙ m.there) in
          let own : all ≡ h ∷ [] = root ∙ ap (λ x. x ∷ []) same in
          let leaves : map (leaf_of blocks b written) (leaves_in all) ≡ leaf_of blocks b written h ∷ [] =
          ap (λ hs. map (leaf_of blocks b written) (leaves_in hs)) own in
          let type : type_of blocks b written (own_attributes h) ≡ t =
          same_some (type_of blocks b written (own_attributes h)) t
          (sym (ap (λ hs. only_type (map (leaf_of blocks b written) (leaves_in hs))) (whole ∙ own)) ∙ e) in
          let fine = every_at (IsFineMember _) all m.place h (all_fine _ all m.fine) m.there in
          record {
            parameter = record {
              leaf = leaf_of blocks b written h;
              one = leaves;
              type_is = type;
              none = ap (map _) (no_dimensions h z);
            };
            type =
                subst (IsParameterType blocks (around_of (slice_get blocks b))) type
                (parameter_type blocks program table facts b written _ h fine);
          } where
            same_root : (i : ℕ) → slice_get (m.root ∷ []) i ≡ Some h → m.root ≡ h
            same_root zero e = same_some m.root h e
            same_root (suc i) e = absurd (cc e)

      by : (x y : Bool) → (length (V.all_dimensions h) == 0) ≡ x
          → nat_lt 1 (length (with_members (drop m.place (m.root ∷ m.members)))) ≡ y
          → (if x then (if y then None
          else only_type (leaves_of blocks b (m.root ∷ m.members) (with_members (drop m.place (m.root ∷ m.members)))))
          else None) ≡ Some t
          → TakesScalar blocks (around_of (slice_get blocks b)) (typed_variable blocks b (m.root ∷ m.members)) t
      by true false z s e = made z s e
      by true true z s e = absurd (cc e)
      by false y z s e = absurd (cc e)

takes_part : (blocks : List Block) (program : Y.Program) (table : Table) → Facts blocks program table → (b : ℕ)
    (h : Held) (m : IsMeant blocks b h) → stands_alone h ≡ true
    → TakesPart blocks (around_of (slice_get blocks b)) (part_designated blocks b h Y.NotLocated false Y.NoNumber)
    (typed_variable blocks b (m.root ∷ m.members))
takes_part blocks program table facts b h m a =
    let all = m.root ∷ m.members in
    subst (λ p. TakesPart blocks (around_of (slice_get blocks b)) p (typed_variable blocks b all))
    (sym (part_is blocks b h m Y.NotLocated false Y.NoNumber))
    (record {
      leaves = ap (λ hs. leaves_of blocks b all hs) (whole_with blocks b h m a);
      scalar = scalar_taken blocks program table facts b h m a;
    })

-- ---- the parameters of a procedure that is called

-- one of them, by its name: its place among the variables of the procedure's block, and that variable
pub record TakenByName (blocks : List Block) (w : Where) (m : ℕ) (p : Y.Procedure) (n : T.Name) : Type 0 where
  pub designated : Designated
  pub is : whole_of blocks m (unwrap_or (slice_get (variables_in (declarations_at blocks m))
      (place_of_name blocks m n)) []) ≡ designated ∷ []
  pub d : Y.DeclaredVariable
  pub found : parameter w.program p (place_of_name blocks m n) ≡ Some d
  pub takes : TakesPart blocks (around_of (slice_get blocks m)) designated d
  pub index : index_in designated.reference ≡ place_of_name blocks m n
  pub root : Held
  pub members : List Held
  pub root_found :
      slice_get (variables_in (declarations_at blocks m)) (place_of_name blocks m n) ≡ Some (root ∷ members)
  pub letters : root.variable.declared.name.letters ≡ n.letters
  pub level : level_of root.variable ≡ 1

pub taken_by_name : (blocks : List Block) (w : Where) → Facts blocks w.program w.table → (m : ℕ) (b : Block)
    → slice_get blocks m ≡ Some b → (p : Y.Procedure) → (head_of p.block).number ≡ m → (ps : List T.Name) (n : T.Name)
    → Meant blocks m ps n → TakenByName blocks w m p n
taken_by_name blocks w facts m b e p own ps n k =
    let i = place_of_name blocks m n in
    let vs = variables_in (declarations_at blocks m) in
    let at = meant_root blocks w.program w.table facts m b e k.variable k.members i k.found in
    let scope : Scope = record { blocks = blocks; block = m } in
    let root = structure_of at.meant at.root_is in
    record {
      designated = part_designated blocks m k.variable Y.NotLocated false Y.NoNumber;
      is = ap (λ o. whole_of blocks m (unwrap_or o [])) k.found;
      d = typed_variable blocks m (k.variable ∷ k.members);
      found =
          ap (λ number. slice_get (variables_of_block w.program number) i) own
          ∙ (ap (λ ds. slice_get ds i) (facts.variables m b e)
          ∙ each_at (declared_variable scope) vs i (k.variable ∷ k.members) k.found);
      takes =
          subst (λ all. TakesPart blocks (around_of (slice_get blocks m))
          (part_designated blocks m k.variable Y.NotLocated false Y.NoNumber) (typed_variable blocks m all)) at.root_is
          (takes_part blocks w.program w.table facts m k.variable at.meant (ap (λ xs. length xs == 0) root));
      index = at.index_is;
      root = k.variable;
      members = k.members;
      root_found = k.found;
      letters = k.letters;
      level =
          ap level_of (sym (ap (λ vs. first_or vs k.variable.variable) root))
          ∙ eqb-true (level_of (root_of k.variable)) 1
          (first_true (level_of (root_of k.variable) == 1) _ k.is);
    } where
      structure_of : (x : IsMeant blocks m k.variable) → x.root ∷ x.members ≡ k.variable ∷ k.members
          → k.variable.above ≡ []
      structure_of x e = (subst IsStructure e x.structure).0
