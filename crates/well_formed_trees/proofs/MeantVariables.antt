-- A variable that a name means is declared in its block, by its place there, with the members that were declared.
use Rattle.std.proofs.Common.{◌≡◌, ℕ, zero, suc, ◌≤◌, ◌==◌, Bool, true, false, ◌&&◌, ◌||◌, List, [], ◌∷◌}
use Rattle.std.proofs.Common.{◌++◌, Some, None, if◌then◌else◌, refl, sym, ap, ◌∙◌, subst, arith}
use Rattle.std.proofs.Common.{inl, inr}
use Rattle.std.specs.Prelude.{slice_get, drop}
use Rattle.std.specs.List.{list_any}
use Rattle.pli_language.specs.declared.expr.Place.{Place}
use Rattle.pli_language.specs.Keywords.{same_bytes}
use Rattle.pli_language.specs.Tree as T
use Rattle.pli_language.specs.Declarations.{Variable, level_of, Held, Variable', Declaration, Block}
use Rattle.pli_language.specs.Declarations.{outermost}
use Rattle.pli_language.specs.Declaring.{has, own_attributes, root_of, names_of, same_place}
use Rattle.pli_language.specs.Declaring.{block_faults, block_head_faults, twice_faults, declarations_faults}
use Rattle.pli_language.specs.Means.{declarations_of, around_of}
use Rattle.pli_typing.specs.TypedTree as Y
use Rattle.pli_typing.specs.Judging.{Scope}
use Rattle.pli_typing.specs.Generations.{declared_variable}
use Rattle.pli_typing.specs.Variables.{variables_in, index_where, begins_at, root_place, declarations_at}
use Rattle.pli_typing.specs.Variables.{index_of_variable, head_of_block, variable_meant, class_of}
use Rattle.pli_typing.specs.Variables.{from_place, level_of_block}
use Rattle.well_formed_trees.specs.Every.{Every}
use Rattle.well_formed_trees.specs.Surroundings.{Around, Table, Where, IsAround, IsDeclared}
use Rattle.well_formed_trees.specs.Surroundings.{declared_variable as declared_by}
use Rattle.well_formed_trees.proofs.Lists.{second_empty}
use Rattle.well_formed_trees.proofs.Places.{same_some, every_at}
use Rattle.well_formed_trees.proofs.DeclaredOnce.{total, spot_one, same_place_self, at_declaration, at_block}
use Rattle.well_formed_trees.proofs.DeclaredOnce.{one_of_total, only_one, IsIn}
use Rattle.well_formed_trees.proofs.Parameters.{finds}
use Rattle.well_formed_trees.proofs.ParameterVariables.{each_at}
use Rattle.well_formed_trees.proofs.Structures.{BlockChained, IsStructure, in_variables, structures}
use Rattle.well_formed_trees.proofs.Structures.{structure_root, at_held, at_first, variables_total, roots_total}
use Rattle.well_formed_trees.proofs.MemberParts.{from_there}
use Rattle.well_formed_trees.proofs.FineVariables.{IsFineVariable, IsFineMember, variables_fine}
use Rattle.well_formed_trees.proofs.FineVariables.{declared_fine}
use Rattle.well_formed_trees.proofs.Facts.{Facts, IsSeen, IsVisible}
use Rattle.well_formed_trees.proofs.Found.{IsAmong, every_among}

-- a variable, no built-in, that a block declares
pub record DeclaresVariable (blocks : List Block) (number : ℕ) (h : Held) : Type 0 where
  pub index : ℕ
  pub declaration : Declaration
  pub is_in : IsIn blocks number index declaration
  pub is : declaration.what ≡ Variable' h
  pub no_builtin : has 13 (own_attributes h) ≡ false

-- the variable of level 1 that it belongs to, with all members, among which it stands
pub record IsMeant (blocks : List Block) (number : ℕ) (h : Held) : Type 0 where
  pub root : Held
  pub members : List Held
  pub found :
      slice_get (variables_in (declarations_at blocks number)) (index_of_variable blocks number h)
      ≡ Some (root ∷ members)
  pub structure : IsStructure (root ∷ members)
  pub root_is : root_of h ≡ root.variable
  pub fine : IsFineVariable (names_of (head_of_block (slice_get blocks number))) (root ∷ members)
  pub place : ℕ
  pub there : slice_get (root ∷ members) place ≡ Some h
  pub from : from_place h.variable.declared.name.place (root ∷ members) ≡ drop place (root ∷ members)

pub any_at : {X : Type 0} (test : X → Bool) (xs : List X) (i : ℕ) (x : X) → slice_get xs i ≡ Some x → test x ≡ true
    → list_any test xs ≡ true
any_at test [] i x e t = absurd (cc e)
any_at test (y ∷ ys) zero x e t = ap (λ b. b || list_any test ys) (ap test (same_some y x e) ∙ t)
any_at test (y ∷ ys) (suc i) x e t = by (test y) (any_at test ys i x e t) where
  by : (b : Bool) → list_any test ys ≡ true → (b || list_any test ys) ≡ true
  by true e = refl
  by false e = e

pub begins_one : (p : Place) (all : List Held) → begins_at p all ≡ true → 1 ≤ at_first p all
begins_one p [] e = absurd (cc e)
begins_one p (h ∷ hs) e = spot_one (same_place p h.variable.declared.name.place) e

-- the one that begins at a place is found there
pub found_there : (p : Place) (vs : List (List Held)) (i : ℕ) (all : List Held) → total (at_first p) vs ≤ 1
    → slice_get vs i ≡ Some all → begins_at p all ≡ true → slice_get vs (index_where (begins_at p) vs) ≡ Some all
found_there p vs i all one e b =
    let it = finds (begins_at p) vs (any_at (begins_at p) vs i all e b) in
    let same = only_one (at_first p) vs one (index_where (begins_at p) vs) i it.element all it.found e
    (begins_one p it.element it.passes) (begins_one p all b) in
    ap (slice_get vs) same ∙ e

-- with its root's name
rooted : (blocks : List Block) (number : ℕ) (ds : List Declaration) (h : Held) (all : List Held)
    → declarations_at blocks number ≡ ds → ((p : Place) → total (at_declaration p) ds ≤ 1) → BlockChained (record {
      around = [];
      head = None;
      declarations = ds;
    }) → IsFineVariable (names_of (head_of_block (slice_get blocks number))) all → IsStructure all → (i place : ℕ)
    → slice_get (variables_in ds) i ≡ Some all → slice_get all place ≡ Some h → IsMeant blocks number h
rooted blocks number ds h [] same one chained fine s i place e t = absurd s
rooted blocks number ds h (root ∷ ms) same one chained fine s i place e t =
    let root_is = every_at (λ m. root_of m ≡ root.variable) (root ∷ ms) place h (structure_root root ms s) t in
    let p = root_place h in
    let own : root_place h ≡ root.variable.declared.name.place = ap (λ (v : Variable). v.declared.name.place) root_is in
    let begins : begins_at p (root ∷ ms) ≡ true = ap (same_place p) (sym own) ∙ same_place_self p in
    let few = roots_total p [] ds chained in
    let once = one p in
    let there = found_there p (variables_in ds) i (root ∷ ms) (omega (arith, few, once)) e begins in
    let q = h.variable.declared.name.place in
    let many = every_at (λ all. total (at_held q) all ≤ total (at_declaration q) ds) (variables_in ds) i (root ∷ ms)
    (variables_total q [] ds chained) e in
    let once_here = one q in
    record {
      root = root;
      members = ms;
      found =
          subst (λ ds. slice_get (variables_in ds) (index_where (begins_at p) (variables_in ds)) ≡ Some (root ∷ ms))
          (sym same) there;
      structure = s;
      root_is = root_is;
      fine = fine;
      place = place;
      there = t;
      from = from_there (root ∷ ms) place h t (omega (arith, many, once_here)) (same_place_self q);
    }

pub is_meant : (blocks : List Block) (program : Y.Program) (table : Table) → Facts blocks program table → (number : ℕ)
    (h : Held) → DeclaresVariable blocks number h → IsMeant blocks number h
is_meant blocks program table facts number h d =
    let b = d.is_in.block in
    let ds = b.declarations in
    let chained = every_at BlockChained blocks number b facts.chained d.is_in.has_block in
    let faults = every_at (λ b. block_faults b ≡ []) blocks number b facts.fine d.is_in.has_block in
    let own = second_empty (block_head_faults b b.head ++ twice_faults [] ds) (declarations_faults (names_of b.head)
    [] ds)
    faults in
    let ps = names_of (head_of_block (slice_get blocks number)) in
    let names : ps ≡ names_of b.head = ap (λ o. names_of (head_of_block o)) d.is_in.has_block in
    let fine : declarations_faults ps [] ds ≡ [] = subst (λ ps. declarations_faults ps [] ds ≡ []) (sym names) own in
    let it = in_variables ps ds d.index d.declaration h chained fine d.is_in.has d.is d.no_builtin in
    rooted blocks number ds h it.all (ap declarations_of d.is_in.has_block) (once b d.is_in.has_block) chained
    (every_at (IsFineVariable ps) (variables_in ds) it.index it.all (variables_fine ps [] ds fine) it.found)
    (every_at IsStructure (variables_in ds) it.index it.all (structures [] ds chained) it.found) it.index it.place
    it.found it.there where
      once : (b : Block) → slice_get blocks number ≡ Some b → (p : Place) → total (at_declaration p) b.declarations ≤ 1
      once b e p =
          let a = facts.apart p in
          let k = one_of_total (at_block p) blocks number b e in
          omega (arith, a, k)

-- each variable that is declared breaks no rule
pub fine_declared : (blocks : List Block) (program : Y.Program) (table : Table) → Facts blocks program table
    → (number index : ℕ) (d : Declaration) (h : Held) → IsIn blocks number index d → d.what ≡ Variable' h
    → (ps : List T.Name) × IsFineMember ps h
fine_declared blocks program table facts number index d h i e =
    let b = i.block in
    let faults = every_at (λ b. block_faults b ≡ []) blocks number b facts.fine i.has_block in
    let own = second_empty (block_head_faults b b.head ++ twice_faults [] b.declarations)
    (declarations_faults (names_of b.head) [] b.declarations) faults in
    (names_of b.head, declared_fine (names_of b.head) [] b.declarations index d h own i.has e)

-- ---- so it is declared

abbrev pub typed_variable : List Block → ℕ → List Held → Y.DeclaredVariable
typed_variable blocks number all = (declared_variable (record { blocks = blocks; block = number }) all).value

class_by : List T.Name → Variable → Y.StorageClass
class_by names v =
    if (level_of v == 1) && list_any (λ n. same_bytes n.letters v.declared.name.letters) names then Y.ParameterClass
    else (if has 9 v.item.attributes then Y.StaticClass
    else (if has 10 v.item.attributes then Y.ControlledClass
    else (if has 11 v.item.attributes then Y.BasedClass else Y.AutomaticClass)))

pub same_class : (names : List T.Name) (g h : Held) → root_of g ≡ root_of h
    → class_of names g (root_of g).item.attributes ≡ class_of names h (root_of h).item.attributes
unfolding class_by
same_class names g h e = ap (class_by names) e

-- the whole program declares nothing
pub declares_none : {blocks : List Block} {number index : ℕ} {d : Declaration} → slice_get blocks number ≡ Some
    outermost
    → IsIn blocks number index d → ⊥
declares_none {index = index} {d = d} e i =
    nothing (ap (λ (b : Block). slice_get b.declarations index) (sym (same_some i.block outermost
    (sym i.has_block ∙ e))) ∙ i.has) where
      nothing : slice_get [] index ≡ Some d → ⊥
      nothing e = absurd (cc e)

-- what declares something stands around where it is seen
pub is_around : (blocks : List Block) (program : Y.Program) (table : Table) → Facts blocks program table
    → (number index : ℕ) (d : Declaration) → IsIn blocks number index d → (around : List Around)
    → IsSeen blocks around number → IsAround number (level_of_block blocks number) around
is_around blocks program table facts number index d i around (inl z) =
    absurd (declares_none (ap (slice_get blocks) z ∙ facts.first) i)
is_around blocks program table facts number index d i around (inr k) = k

-- what is found by the block and the place
pub declared_found : (blocks : List Block) (w : Where) → Facts blocks w.program w.table → (number : ℕ) (h : Held)
    → DeclaresVariable blocks number h → (m : IsMeant blocks number h)
    → declared_by w.program (variable_meant blocks number h)
    ≡ Some (typed_variable blocks number (m.root ∷ m.members))
declared_found blocks w facts number h d m =
    let scope : Scope = record { blocks = blocks; block = number } in
    let i = index_of_variable blocks number h in
    ap (λ vs. slice_get vs i) (facts.variables number d.is_in.block d.is_in.has_block)
    ∙ each_at (declared_variable scope) (variables_in (declarations_at blocks number)) i (m.root ∷ m.members) m.found

pub declared_class : (blocks : List Block) (number : ℕ) (h : Held) (m : IsMeant blocks number h)
    → (typed_variable blocks number (m.root ∷ m.members)).class ≡ (variable_meant blocks number h).class
declared_class blocks number h m =
    same_class (names_of (head_of_block (slice_get blocks number))) m.root h
    ((structure_root m.root m.members m.structure).0 ∙ sym m.root_is)

pub is_declared : (blocks : List Block) (w : Where) → Facts blocks w.program w.table → (number : ℕ) (h : Held)
    → DeclaresVariable blocks number h → (m : IsMeant blocks number h) → IsSeen blocks w.around number
    → IsDeclared w (variable_meant blocks number h) (typed_variable blocks number (m.root ∷ m.members))
is_declared blocks w facts number h d m seen = record {
  found = declared_found blocks w facts number h d m;
  same_class = declared_class blocks number h m;
  block_around = is_around blocks w.program w.table facts number d.index d.declaration d.is_in w.around seen;
}

-- what is visible from a block that is around is visible
pub visible_from : (blocks : List Block) (program : Y.Program) (table : Table) → Facts blocks program table
    → (around : List Around) (n m : ℕ) → IsVisible blocks around n → IsAmong m (around_of (slice_get blocks n))
    → IsVisible blocks around m × IsSeen blocks around m
visible_from blocks program table facts around n m v i =
    let seen = IsSeen blocks around in (
      all (around_of (slice_get blocks m))
          (λ k j. every_among seen k (around_of (slice_get blocks n)) v (facts.nested n m k i j)),
      every_among seen m (around_of (slice_get blocks n)) v i,
    ) where
      all : (ns : List ℕ) → ((k : ℕ) → IsAmong k ns → IsSeen blocks around k) → Every (IsSeen blocks around) ns
      all [] f = tt
      all (n ∷ ns) f = (f n (inl refl), all ns (λ k i. f k (inr i)))
