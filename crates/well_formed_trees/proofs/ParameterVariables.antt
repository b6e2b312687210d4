-- Each parameter of a typed procedure is a variable of its block, and no two are the same.
use Rattle.std.proofs.Common.{◌≡◌, ℕ, zero, suc, ◌+◌, ◌==◌, Bool, true, false, not, List, [], ◌∷◌, ◌++◌, map, length}
use Rattle.std.proofs.Common.{Some, refl, sym, ap, ◌∙◌, subst, if◌then◌else◌, arith}
use Rattle.std.specs.Prelude.{slice_get, unwrap_or, nat_lt}
use Rattle.std.specs.List.{list_any, flat_map}
use Rattle.std.proofs.lemmas.Bool.Decides.{nat_tests}
use Rattle.std.proofs.lemmas.List.{append_assoc}
use Rattle.pli_language.specs.declared.fault.SourceKind.TheVariants.{Undeclared, DeclaredTwice}
use Rattle.pli_language.specs.Keywords.{same_bytes}
use Rattle.pli_language.specs.Refusals.{fault}
use Rattle.pli_language.specs.Tree as T
use Rattle.pli_language.specs.Means.{declarations_of}
use Rattle.pli_language.specs.Declarations.{Held, Declaration, Block, blocks_of}
use Rattle.pli_language.specs.Declaring.{when, has, is_parameter, root_of, declarations_faults, names_twice, declares}
use Rattle.pli_language.specs.Declaring.{parameter_faults, head_faults, block_head_faults, twice_faults, names_of}
use Rattle.pli_language.specs.Declaring.{block_faults, declaring_faults}
use Rattle.pli_typing.specs.TypedTree as Y
use Rattle.pli_typing.specs.Judging.{Scope, Judged, each}
use Rattle.pli_typing.specs.Variables.{variables_in, index_where, head_of_block, class_of}
use Rattle.pli_typing.specs.Calls.{begins_named}
use Rattle.pli_typing.specs.Generations.{declared_variable, declared_variables}
use Rattle.pli_typing.specs.Resolving.{block_variables, resolved, typed_tree}
use Rattle.well_formed_trees.specs.Every.{Every}
use Rattle.well_formed_trees.specs.Blocks.{times}
use Rattle.well_formed_trees.specs.Surroundings.{variables_of_block}
use Rattle.well_formed_trees.specs.WellFormed.{IsParameter, AreApart}
use Rattle.well_formed_trees.specs.Held.{table_of, TakesParameters, ParametersKept}
use Rattle.well_formed_trees.proofs.Lists.{first_empty, second_empty, all_empty, every_map}
use Rattle.well_formed_trees.proofs.Places.{every_at, same_some}
use Rattle.well_formed_trees.proofs.LabelsOnce.{blocks_fine}
use Rattle.well_formed_trees.proofs.Letters.{same_equal, same_self}
use Rattle.well_formed_trees.proofs.HeldAlone.{AllWell, BlockWell, all_blocks_well}
use Rattle.well_formed_trees.proofs.HeldStatements.{IsFrom, HeldFrom, all_held}
use Rattle.well_formed_trees.proofs.Parameters.{none_when, not_false, finds, any_middle, none_middle, IsRoot, roots}
use Rattle.well_formed_trees.proofs.Parameters.{IsOfName, parameter_is, any_declared}

-- ---- what blocks declare, as it is listed

pub each_at : {X Z : Type 0} (f : X → Judged Z) (xs : List X) (i : ℕ) (x : X) → slice_get xs i ≡ Some x
    → slice_get (each f xs).value i ≡ Some (f x).value
each_at f [] i x e = absurd (cc e)
each_at f (y ∷ ys) zero x e = ap (λ z. Some (f z).value) (same_some y x e)
each_at f (y ∷ ys) (suc i) x e = each_at f ys i x e

pub variables_at : (all : List Block) (k : ℕ) (bs : List Block) (i : ℕ) (b : Block) → slice_get bs i ≡ Some b
    → slice_get (block_variables all k bs).value i
    ≡ Some (declared_variables (record { blocks = all; block = k + i })).value
variables_at all k [] i b e = absurd (cc e)
variables_at all k (c ∷ bs) zero b e =
    let z : k ≡ k + 0 = omega arith in
    ap (λ n. Some (declared_variables (record { blocks = all; block = n })).value) z
variables_at all k (c ∷ bs) (suc i) b e =
    let z : (k + 1) + i ≡ k + suc i = omega arith in
    variables_at all (k + 1) bs i b e
    ∙ ap (λ n. Some (declared_variables (record { blocks = all; block = n })).value) z

pub block_variables_are : (tree : T.Tree) (number : ℕ) (b : Block) → slice_get (blocks_of tree) number ≡ Some b
    → variables_of_block (typed_tree tree) number
    ≡ (declared_variables (record { blocks = blocks_of tree; block = number })).value
unfolding resolved
block_variables_are tree number b e =
    let z : 0 + number ≡ number = omega arith in
    ap (λ o. unwrap_or o []) (variables_at (blocks_of tree) 0 (blocks_of tree) number b e)
    ∙ ap (λ n. (declared_variables (record { blocks = blocks_of tree; block = n })).value) z

-- ---- classes

class_by : (ns : List T.Name) (h : Held) (attributes : List T.Attribute) → is_parameter ns h ≡ true
    → class_of ns h attributes ≡ Y.ParameterClass
class_by ns h attributes e =
    ap (λ b. if b then Y.ParameterClass
    else (if has 9 attributes then Y.StaticClass
    else (if has 10 attributes then Y.ControlledClass
    else (if has 11 attributes then Y.BasedClass else Y.AutomaticClass)))) e

class_is : (blocks : List Block) (number : ℕ) (b : Block) (head : T.ProcedureHead) (h : Held) (members : List Held)
    → slice_get blocks number ≡ Some b → b.head ≡ Some head → is_parameter head.parameters h ≡ true
    → (declared_variable (record { blocks = blocks; block = number }) (h ∷ members)).value.class ≡ Y.ParameterClass
class_is blocks number b head h members e f p =
    let named : names_of (head_of_block (slice_get blocks number)) ≡ head.parameters =
    ap (λ o. names_of (head_of_block o)) e ∙ ap names_of f in
    ap (λ ns. class_of ns h (root_of h).item.attributes) named
    ∙ class_by head.parameters h (root_of h).item.attributes p

-- ---- one parameter

-- the variable that a name finds among those of a block
pub record Meant (blocks : List Block) (number : ℕ) (ps : List T.Name) (n : T.Name) : Type 0 where
  pub variable : Held
  pub members : List Held
  pub found :
      slice_get (variables_in (declarations_of (slice_get blocks number)))
      (index_where (begins_named n) (variables_in (declarations_of (slice_get blocks number))))
      ≡ Some (variable ∷ members)
  pub letters : variable.variable.declared.name.letters ≡ n.letters
  pub is : is_parameter ps variable ≡ true

meant_by : (blocks : List Block) (number : ℕ) (ps : List T.Name) (n : T.Name) (hs : List Held)
    → slice_get (variables_in (declarations_of (slice_get blocks number)))
    (index_where (begins_named n) (variables_in (declarations_of (slice_get blocks number)))) ≡ Some hs
    → begins_named n hs ≡ true → IsRoot hs → IsOfName ps n.letters → Meant blocks number ps n
meant_by blocks number ps n [] e b r p = absurd r
meant_by blocks number ps n (h ∷ members) e b r p =
    let same = same_equal h.variable.declared.name.letters n.letters b in
    record {
      variable = h;
      members = members;
      found = e;
      letters = same;
      is = parameter_is ps h r.0 r.1 (subst (IsOfName ps) (sym same) p);
    }

meant : (blocks : List Block) (number : ℕ) (b : Block) (ps : List T.Name) (n : T.Name)
    → slice_get blocks number ≡ Some b → AllWell b.declarations → declarations_faults ps [] b.declarations ≡ []
    → IsOfName ps n.letters → declares b.declarations n ≡ true → Meant blocks number ps n
meant blocks number b ps n e k f p d =
    let same : declarations_of (slice_get blocks number) ≡ b.declarations = ap declarations_of e in
    let vs = variables_in (declarations_of (slice_get blocks number)) in
    let any : list_any (begins_named n) vs ≡ true =
    ap (λ ds. list_any (begins_named n) (variables_in ds)) same ∙ any_declared ps [] b.declarations n k f p d in
    let it = finds (begins_named n) vs any in
    let all : Every IsRoot vs =
    subst (λ ds. Every IsRoot (variables_in ds)) (sym same) (roots ps [] b.declarations f) in
    meant_by blocks number ps n it.element it.found it.passes
    (every_at IsRoot vs (index_where (begins_named n) vs) it.element all it.found) p

-- ---- all parameters of a procedure

-- each name is among all of them
pub all_named : (before ns : List T.Name) → Every (λ n. IsOfName (before ++ ns) n.letters) ns
all_named before [] = tt
all_named before (n ∷ ns) = (
  any_middle (λ m. same_bytes m.letters n.letters) before n ns (same_self n.letters),
  subst (λ all. Every (λ m. IsOfName all m.letters) ns) (append_assoc before (n ∷ []) ns)
      (all_named (before ++ n ∷ []) ns),
)

all_declared : (ds : List Declaration) (ns : List T.Name)
    → Every (λ n. when (not (declares ds n)) (fault n.place Undeclared) ≡ []) ns
    → Every (λ n. declares ds n ≡ true) ns
all_declared ds ns h =
    every_map (λ n. when (not (declares ds n)) (fault n.place Undeclared) ≡ []) (λ n. declares ds n ≡ true)
    (λ n e. not_false (declares ds n) (none_when (not (declares ds n)) (fault n.place Undeclared) e)) ns h

pub all_meant : (blocks : List Block) (number : ℕ) (b : Block) (ps ns : List T.Name) → slice_get blocks number ≡ Some b
    → AllWell b.declarations → declarations_faults ps [] b.declarations ≡ []
    → Every (λ n. IsOfName ps n.letters) ns → Every (λ n. declares b.declarations n ≡ true) ns
    → Every (Meant blocks number ps) ns
all_meant blocks number b ps [] e k f p d = tt
all_meant blocks number b ps (n ∷ ns) e k f p d =
    (meant blocks number b ps n e k f p.0 d.0, all_meant blocks number b ps ns e k f p.1 d.1)

-- names apart
names_apart : (n : T.Name) (before behind ns : List T.Name) → names_twice (before ++ n ∷ behind) ns ≡ []
    → Every (λ m. same_bytes n.letters m.letters ≡ false) ns
names_apart n before behind [] e = tt
names_apart n before behind (m ∷ ns) e =
    let test = list_any (λ b. same_bytes b.letters m.letters) (before ++ n ∷ behind) in (
      none_middle (λ b. same_bytes b.letters m.letters) before n behind
          (none_when test (fault m.place DeclaredTwice) (first_empty (when test (fault m.place DeclaredTwice)) _ e)),
      names_apart n (m ∷ before) behind ns (second_empty (when test (fault m.place DeclaredTwice)) _ e),
    )

abbrev place_in : List Block → ℕ → T.Name → ℕ
place_in blocks number n = index_where (begins_named n) (variables_in (declarations_of (slice_get blocks number)))

is_same : (n m : ℕ) → (n == m) ≡ true → n ≡ m
is_same n m e = grind (arith, nat_tests)

first_same : {X : Type 0} (x y : X) (xs ys : List X) → x ∷ xs ≡ y ∷ ys → x ≡ y
first_same x y xs ys e = cc

places_apart : (blocks : List Block) (number : ℕ) (ps : List T.Name) (n m : T.Name) → Meant blocks number ps n
    → Meant blocks number ps m → same_bytes n.letters m.letters ≡ false
    → (place_in blocks number n == place_in blocks number m) ≡ false
places_apart blocks number ps n m a b e =
    by (place_in blocks number n == place_in blocks number m) refl where
      by : (t : Bool) → (place_in blocks number n == place_in blocks number m) ≡ t → t ≡ false
      by false f = refl
      by true f =
          let same = is_same (place_in blocks number n) (place_in blocks number m) f in
          let vs = variables_in (declarations_of (slice_get blocks number)) in
          let h : a.variable ∷ a.members ≡ b.variable ∷ b.members =
          same_some (a.variable ∷ a.members) (b.variable ∷ b.members)
          (sym a.found ∙ (ap (slice_get vs) same ∙ b.found)) in
          let v : a.variable ≡ b.variable = first_same a.variable b.variable a.members b.members h in
          let l : n.letters ≡ m.letters =
          sym a.letters ∙ (ap (λ h. h.variable.declared.name.letters) v ∙ b.letters) in
          let yes : same_bytes n.letters m.letters ≡ true =
          subst (λ k. same_bytes n.letters k ≡ true) l (same_self n.letters) in
          absurd (cc (yes, e))

never_among : (blocks : List Block) (number : ℕ) (ps : List T.Name) (n : T.Name) (ns : List T.Name)
    → Meant blocks number ps n → Every (Meant blocks number ps) ns
    → Every (λ m. same_bytes n.letters m.letters ≡ false) ns
    → times (place_in blocks number n) (map (place_in blocks number) ns) ≡ 0
never_among blocks number ps n [] a b e = refl
never_among blocks number ps n (m ∷ ns) a b e =
    let apart = places_apart blocks number ps n m a b.0 e.0 in
    ap (λ t. if t then suc (times (place_in blocks number n) (map (place_in blocks number) ns))
    else times (place_in blocks number n) (map (place_in blocks number) ns)) apart
    ∙ never_among blocks number ps n ns a b.1 e.1

all_apart : (blocks : List Block) (number : ℕ) (ps before ns : List T.Name) → Every (Meant blocks number ps) ns
    → names_twice before ns ≡ [] → AreApart (map (place_in blocks number) ns)
all_apart blocks number ps before [] h e = tt
all_apart blocks number ps before (n ∷ ns) h e =
    let test = list_any (λ b. same_bytes b.letters n.letters) before in
    let later = second_empty (when test (fault n.place DeclaredTwice)) (names_twice (n ∷ before) ns) e in (
      never_among blocks number ps n ns h.0 h.1 (names_apart n [] before ns later),
      all_apart blocks number ps (n ∷ before) ns h.1 later,
    )

-- ---- procedures

-- what the head of a procedure's block breaks of parameters, and what its declarations break
pub record HeadFine (b : Block) (head : T.ProcedureHead) : Type 0 where
  pub declared : Every (λ n. declares b.declarations n ≡ true) head.parameters
  pub twice : names_twice [] head.parameters ≡ []
  pub variables : declarations_faults head.parameters [] b.declarations ≡ []

pub head_fine : (b : Block) (head : T.ProcedureHead) → b.head ≡ Some head → block_faults b ≡ [] → HeadFine b head
head_fine b head e f =
    let twice = twice_faults [] b.declarations in
    let variables = declarations_faults (names_of b.head) [] b.declarations in
    let h = first_empty (block_head_faults b b.head) twice
    (first_empty (block_head_faults b b.head ++ twice) variables f) in
    let k : block_head_faults b (Some head) ≡ [] = subst (λ o. block_head_faults b o ≡ []) e h in
    let own = head_faults (nat_lt 2 (length b.around)) head in
    let p = second_empty own (parameter_faults b.declarations head.parameters) k in
    let missing = flat_map (λ n. when (not (declares b.declarations n)) (fault n.place Undeclared)) head.parameters in
    record {
      declared =
          all_declared b.declarations head.parameters
          (all_empty (λ n. when (not (declares b.declarations n)) (fault n.place Undeclared)) head.parameters
          (first_empty missing (names_twice [] head.parameters) p));
      twice = second_empty missing (names_twice [] head.parameters) p;
      variables =
          subst (λ o. declarations_faults (names_of o) [] b.declarations ≡ []) e
          (second_empty (block_head_faults b b.head ++ twice) variables f);
    }

parameter_sound : (tree : T.Tree) (p : Y.Procedure) (h : IsFrom (blocks_of tree) p) (n : T.Name)
    → Meant (blocks_of tree) h.number h.head.parameters n
    → IsParameter (typed_tree tree) p (place_in (blocks_of tree) h.number n)
parameter_sound tree p h n m =
    let blocks = blocks_of tree in
    let scope : Scope = record { blocks = blocks; block = h.number } in
    let vs = variables_in (declarations_of (slice_get blocks h.number)) in
    let i = place_in blocks h.number n in
    let d = (declared_variable scope (m.variable ∷ m.members)).value in
    let there : slice_get (declared_variables scope).value i ≡ Some d =
    each_at (declared_variable scope) vs i (m.variable ∷ m.members) m.found in
    record {
      d = d;
      found =
          ap (λ number. slice_get (variables_of_block (typed_tree tree) number) i) h.own
          ∙ (ap (λ ds. slice_get ds i) (block_variables_are tree h.number h.block h.found) ∙ there);
      class_is = class_is blocks h.number h.block h.head m.variable m.members h.found h.has_head m.is;
    }

parameters_sound : (tree : T.Tree) (p : Y.Procedure) (h : IsFrom (blocks_of tree) p) (ns : List T.Name)
    → Every (Meant (blocks_of tree) h.number h.head.parameters) ns
    → Every (IsParameter (typed_tree tree) p) (map (place_in (blocks_of tree) h.number) ns)
parameters_sound tree p h [] m = tt
parameters_sound tree p h (n ∷ ns) m = (parameter_sound tree p h n m.0, parameters_sound tree p h ns m.1)

takes_parameters : (tree : T.Tree) → declaring_faults tree ≡ [] → (p : Y.Procedure) → IsFrom (blocks_of tree) p
    → TakesParameters (typed_tree tree) p
takes_parameters tree declared p h =
    let blocks = blocks_of tree in
    let ps = h.head.parameters in
    let fine = head_fine h.block h.head h.has_head
    (every_at (λ b. block_faults b ≡ []) blocks h.number h.block (blocks_fine tree declared) h.found) in
    let well = every_at BlockWell blocks h.number h.block (all_blocks_well tree) h.found in
    let m = all_meant blocks h.number h.block ps ps h.found well fine.variables (all_named [] ps) fine.declared in
    subst (λ is. Every (IsParameter (typed_tree tree) p) is × AreApart is) (sym h.parameters)
    (parameters_sound tree p h ps m, all_apart blocks h.number ps [] ps m fine.twice)

pub parameters_kept : ParametersKept
parameters_kept tree h ranged declared typed =
    every_map (HeldFrom (table_of tree) (blocks_of tree)) (TakesParameters (typed_tree tree))
    (λ p k. takes_parameters tree declared p k.1) (typed_tree tree).procedures (all_held tree h ranged typed)
