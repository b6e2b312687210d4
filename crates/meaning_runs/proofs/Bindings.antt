-- What variables stand for: each binding has the shape that its variable is declared with, in activations and of STATIC
-- variables, and so has what is found for a variable of a block around.
use Rattle.std.proofs.Common.{◌≡◌, ℕ, suc, ◌<◌, List, [], ◌∷◌, Option, Some, None, Bool, true, false}
use Rattle.std.proofs.Common.{refl, ap, sym, ◌∙◌, subst, arith, inl, inr}
use Rattle.std.specs.Prelude.{◌==◌, ◌&&◌, cond, ⊤, length, slice_get}
use Rattle.std.proofs.lemmas.Bool.Decides.{nat_tests}
use Rattle.pli_language.specs.declared.condition.Condition.{Condition}
use Rattle.pli_typing.specs.TypedTree as Y
use Rattle.pli_meaning.specs.StorageState.{State, Binding, StaticBinding, OnUnit, Activation, established, reverted}
use Rattle.pli_meaning.specs.BasicValues.{BasedName}
use Rattle.pli_meaning.specs.Contents.{Placed}
use Rattle.pli_meaning.specs.StorageState.{offsets_of, newest_placed, newest_in, heap_serial}
use Rattle.pli_meaning.specs.StorageState.{ancestor, ancestor_at, binding_of, binding_in, static_binding, binding_at}
use Rattle.pli_meaning.specs.DeclaredShapes as D
use Rattle.pli_meaning.specs.Making as K
use Rattle.well_formed_trees.specs.Every.{Every}
use Rattle.well_formed_trees.specs.Surroundings.{Around, Table, IsAround}
use Rattle.well_formed_trees.specs.Declarations.{HoldsArea}
use Rattle.meaning_runs.proofs.Frames.{Frame, outlines, skeleton, with_labels, first_outline, rest_outlines, Holds}
use Rattle.meaning_runs.proofs.Frames.{Chain, AtLevel, around_at, lower_level, newest_ancestor, chosen, passed_over}
use Rattle.meaning_runs.proofs.Shapes.{IsShapedAs, IsAreaVariable, StandsAs, both_true}
use Rattle.meaning_runs.proofs.Values.{HasStored}
use Rattle.meaning_runs.proofs.Heaps.{HasHeap, IsPlacedFor, offsets_placed}

-- ---- bindings

abbrev pub IsBinding : Y.Program → (block : ℕ) → Binding → Type 0
IsBinding p block b =
    (d : Y.DeclaredVariable) → slice_get (D.variables_of_block p block) b.variable ≡ Some d
    → StandsAs d b.name b.shape

abbrev pub HasBindings : Y.Program → List Frame → List Activation → Type 0
HasBindings p [] as' = ⊤
HasBindings p (f ∷ fs) [] = ⊤
HasBindings p (f ∷ fs) (a ∷ as') = Every (IsBinding p f.number) a.bindings × HasBindings p fs as'

abbrev pub HasStatics : Y.Program → List StaticBinding → Type 0
HasStatics p bs = Every (λ b. IsBinding p b.block b.binding) bs

-- those of all activations, of STATIC variables and of CONTROLLED ones; and values are of their leaves' kinds
abbrev pub HasShapes : Y.Program → List Frame → State → Type 0
HasShapes p fs s =
    HasBindings p fs s.activations × ((HasStatics p s.statics × HasStored s) × HasHeap p s.heap s.controlled)

-- one that the newest activation may have
abbrev pub IsNewBinding : Y.Program → List Frame → Binding → Type 0
IsNewBinding p [] b = ⊤
IsNewBinding p (f ∷ fs) b = IsBinding p f.number b

-- ---- what keeps them

pub established_bindings : (p : Y.Program) (c : Condition) (u : OnUnit) (fs : List Frame) (as' : List Activation)
    → HasBindings p fs as' → HasBindings p fs (established c u as')
established_bindings p c u [] as' h = tt
established_bindings p c u (f ∷ fs) [] h = tt
established_bindings p c u (f ∷ fs) (a ∷ as') h = h

pub reverted_bindings : (p : Y.Program) (c : Condition) (fs : List Frame) (as' : List Activation)
    → HasBindings p fs as' → HasBindings p fs (reverted c as')
reverted_bindings p c [] as' h = tt
reverted_bindings p c (f ∷ fs) [] h = tt
reverted_bindings p c (f ∷ fs) (a ∷ as') h = h

pub binding_added : (p : Y.Program) (b : Binding) (fs : List Frame) (as' : List Activation) → IsNewBinding p fs b
    → HasBindings p fs as' → HasBindings p fs (K.with_binding b as')
binding_added p b [] as' n h = tt
binding_added p b (f ∷ fs) [] n h = tt
binding_added p b (f ∷ fs) (a ∷ as') n h = ((n, h.0), h.1)

-- in a frame of the same block
pub same_bindings : (p : Y.Program) (f e : Frame) (fs : List Frame) (as' : List Activation) → f.number ≡ e.number
    → HasBindings p (f ∷ fs) as' → HasBindings p (e ∷ fs) as'
same_bindings p f e fs [] n h = tt
same_bindings p f e fs (a ∷ as') n h = (subst (λ x. Every (IsBinding p x) a.bindings) n h.0, h.1)

pub labelled_bindings : (p : Y.Program) (labels : List (List ℕ)) (fs : List Frame) (as' : List Activation)
    → HasBindings p fs as' → HasBindings p (with_labels labels fs) as'
labelled_bindings p labels [] as' h = h
labelled_bindings p labels (f ∷ fs) [] h = h
labelled_bindings p labels (f ∷ fs) (a ∷ as') h = h

pub unlabelled_bindings : (p : Y.Program) (labels : List (List ℕ)) (fs : List Frame) (as' : List Activation)
    → HasBindings p (with_labels labels fs) as' → HasBindings p fs as'
unlabelled_bindings p labels [] as' h = h
unlabelled_bindings p labels (f ∷ fs) [] h = h
unlabelled_bindings p labels (f ∷ fs) (a ∷ as') h = h

-- ---- what is found

-- a binding of a variable of a block
pub record IsOfVariable (p : Y.Program) (block variable : ℕ) (b : Binding) : Type 0 where
  pub bound : IsBinding p block b
  pub variable_is : b.variable ≡ variable

binding_found : (p : Y.Program) (block variable : ℕ) (bs : List Binding) (b : Binding) → Every (IsBinding p block) bs
    → binding_of bs variable ≡ Some b → IsOfVariable p block variable b
binding_found p block variable [] b h e = absurd (cc e)
binding_found p block variable (x ∷ xs) b h e =
    by_test (x.variable == variable) refl (binding_of xs variable)
    (λ k. binding_found p block variable xs b h.1 k) e
  where
    by_test : (t : Bool) → (x.variable == variable) ≡ t → (o : Option Binding)
        → (o ≡ Some b → IsOfVariable p block variable b) → cond t (Some x) o ≡ Some b
        → IsOfVariable p block variable b
    by_test true f o further k =
        let same : x ≡ b = cc k in
        let is : x.variable ≡ variable = grind (arith, nat_tests, f) in
        subst (IsOfVariable p block variable) same (record { bound = h.0; variable_is = is })
    by_test false f o further k = further k

static_found : (p : Y.Program) (block variable : ℕ) (bs : List StaticBinding) (b : Binding) → HasStatics p bs
    → static_binding bs block variable ≡ Some b → IsOfVariable p block variable b
static_found p block variable [] b h e = absurd (cc e)
static_found p block variable (x ∷ xs) b h e =
    by_test ((x.block == block) && (x.binding.variable == variable)) refl (static_binding xs block variable)
    (λ k. static_found p block variable xs b h.1 k) e
  where
    by_test : (t : Bool) → ((x.block == block) && (x.binding.variable == variable)) ≡ t → (o : Option Binding)
        → (o ≡ Some b → IsOfVariable p block variable b) → cond t (Some x.binding) o ≡ Some b
        → IsOfVariable p block variable b
    by_test true f o further k =
        let both = both_true (x.block == block) (x.binding.variable == variable) f in
        let same : x.binding ≡ b = cc k in
        let block_is : x.block ≡ block = grind (arith, nat_tests, both.0) in
        let is : x.binding.variable ≡ variable = grind (arith, nat_tests, both.1) in
        subst (IsOfVariable p block variable) same
        (record { bound = subst (λ n. IsBinding p n x.binding) block_is h.0; variable_is = is })
    by_test false f o further k = further k

-- the bindings of an activation, if there is one
abbrev AreBound : Y.Program → (block : ℕ) → Option Activation → Type 0
AreBound p block None = ⊤
AreBound p block (Some a) = Every (IsBinding p block) a.bindings

-- the static ancestor at a level is an activation of the block around at that level
ancestor_bound : (p : Y.Program) (table : Table) (level block : ℕ) (fs : List Frame) (as' : List Activation)
    (height : ℕ) (around : List Around) → skeleton as' ≡ outlines fs → HasBindings p fs as' → Holds fs height around
    → Chain table around → AtLevel level (λ a. a.number ≡ block) around → AreBound p block (ancestor as' height level)
ancestor_bound p table level block fs as' height [] e b s c h = absurd h
ancestor_bound p table level block [] as' height (a ∷ more) e b s c h = absurd s
ancestor_bound p table level block (f ∷ fs) [] height (a ∷ more) e b s c h = tt
ancestor_bound p table level block (f ∷ fs) (x ∷ xs) height (a ∷ more) e b (inl s) c (inl h) =
    let at : x.height ≡ suc (length fs) = ap (λ os. (first_outline os).height) e in
    let deep : x.level ≡ f.level = ap (λ os. (first_outline os).level) e in
    let here : (x.height == height) ≡ true = grind (arith, nat_tests, at, s.0) in
    let own : (x.level == level) ≡ true = grind (arith, nat_tests, deep, s.1.0.0, h.0) in
    let found : ancestor (x ∷ xs) height level ≡ Some x =
    chosen (x.height == height) _ _ here ∙ chosen (x.level == level) _ _ own in
    subst (AreBound p block) (sym found)
    (subst (λ n. Every (IsBinding p n) x.bindings) (s.1.0.1 ∙ h.1) b.0)
ancestor_bound p table level block (f ∷ fs) (x ∷ xs) height (a ∷ more) e b (inl s) c (inr h) =
    let at : x.height ≡ suc (length fs) = ap (λ os. (first_outline os).height) e in
    let deep : x.level ≡ f.level = ap (λ os. (first_outline os).level) e in
    let up : x.parent ≡ f.parent = ap (λ os. (first_outline os).parent) e in
    let here : (x.height == height) ≡ true = grind (arith, nat_tests, at, s.0) in
    let less : level < a.level = lower_level table level a.level _ more c.1.0 c.1.1 h in
    let other : (x.level == level) ≡ false = grind (arith, nat_tests, less, deep, s.1.0.0) in
    let found : ancestor (x ∷ xs) height level ≡ ancestor xs f.parent level =
    chosen (x.height == height) _ _ here
    ∙ (passed_over (x.level == level) _ _ other ∙ ap (λ z. ancestor xs z level) up) in
    subst (AreBound p block) (sym found)
    (ancestor_bound p table level block fs xs f.parent more (ap rest_outlines e) b.1 s.1.1 c.1.1 h)
ancestor_bound p table level block (f ∷ fs) (x ∷ xs) height (a ∷ more) e b (inr s) c h =
    let at : x.height ≡ suc (length fs) = ap (λ os. (first_outline os).height) e in
    let other : (x.height == height) ≡ false = grind (arith, nat_tests, at, s.0) in
    let found : ancestor (x ∷ xs) height level ≡ ancestor xs height level =
    passed_over (x.height == height) _ _ other in
    subst (AreBound p block) (sym found)
    (ancestor_bound p table level block fs xs height (a ∷ more) (ap rest_outlines e) b.1 s.1 c h)

-- where the blocks around a place are found among the activations, with others or without
pub record Ground (table : Table) (fs : List Frame) (blocks : List Around) : Type 0 where
  pub around : List Around
  pub holds : Holds fs (length fs) around
  pub chain : Chain table around
  pub inside : (number level : ℕ) → IsAround number level blocks → IsAround number level around

newest_shaped : (p : Y.Program) (heap : List Placed) (block variable : ℕ) (os : List ℕ) (b : Binding)
    (d : Y.DeclaredVariable) → Every (IsPlacedFor p heap block variable) os → newest_in heap variable os ≡ Some b
    → slice_get (D.variables_of_block p block) variable ≡ Some d → IsShapedAs d b.shape
newest_shaped p heap block variable [] b d h e f = absurd (cc e)
newest_shaped p heap block variable (o ∷ os) b d h e f =
    let found : newest_placed variable o (Some h.0.generation) ≡ Some b =
    subst (λ x. newest_placed variable o x ≡ Some b) h.0.there e in
    let same : record { variable = variable; name = BasedName heap_serial o; shape = h.0.generation.shape } ≡ b =
    cc found in
    subst (λ x. IsShapedAs d x.shape) same (h.0.shaped d f)

-- what a variable of a block around stands for is as it is declared
pub standing_shaped : (p : Y.Program) (table : Table) (fs : List Frame) (blocks : List Around) (s : State)
    (class : Y.StorageClass) (v : Y.Variable) (d : Y.DeclaredVariable) (b : Binding) → Ground table fs blocks
    → skeleton s.activations ≡ outlines fs → HasShapes p fs s → D.declared_variable p v ≡ Some d
    → (IsAreaVariable d → HoldsArea class) → IsAround v.block v.level blocks → binding_at s class v ≡ Some b
    → StandsAs d b.name b.shape
standing_shaped p table fs blocks s class v d b g e h found areas around is =
    of_class class areas is
  where
    of_variable : IsOfVariable p v.block v.index b → StandsAs d b.name b.shape
    of_variable x =
        x.bound d (subst (λ n. slice_get (D.variables_of_block p v.block) n ≡ Some d) (sym x.variable_is) found)

    in_activation : (o : Option Activation) → AreBound p v.block o → binding_in o v.index ≡ Some b
        → IsOfVariable p v.block v.index b
    in_activation None k f = absurd (cc f)
    in_activation (Some a) k f = binding_found p v.block v.index a.bindings b k f

    of_ancestor : binding_in (ancestor_at s v.level) v.index ≡ Some b → IsOfVariable p v.block v.index b
    of_ancestor =
        in_activation (ancestor_at s v.level)
        (subst (AreBound p v.block) (sym (newest_ancestor fs s.activations v.level e))
        (ancestor_bound p table v.level v.block fs s.activations (length fs) g.around e h.0 g.holds g.chain
        (around_at v.block v.level g.around (g.inside v.block v.level around))))

    of_class : (c : Y.StorageClass) → (IsAreaVariable d → HoldsArea c) → binding_at s c v ≡ Some b
        → StandsAs d b.name b.shape
    of_class Y.AutomaticClass a f = of_variable (of_ancestor f)
    of_class Y.ParameterClass a f = of_variable (of_ancestor f)
    of_class Y.StaticClass a f = of_variable (static_found p v.block v.index s.statics b h.1.0.0 f)
    of_class Y.BasedClass a f = absurd (cc f)
    of_class Y.ControlledClass a f = (
      newest_shaped p s.heap v.block v.index (offsets_of s.controlled v.block v.index) b d
          (offsets_placed p s.heap v.block v.index s.controlled h.1.1.1.0) f found,
      λ area. absurd (a area),
    )
