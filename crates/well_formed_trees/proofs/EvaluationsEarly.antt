-- What is evaluated for the extents of each variable of an accepted source calls no function, and names no AUTOMATIC
-- variable of the block but those before it.
use Rattle.std.proofs.Common.{◌≡◌, ℕ, zero, suc, ◌+◌, ◌<◌, ◌≤◌, ◌==◌, Bool, true, false, not, ◌&&◌, List, [], ◌∷◌}
use Rattle.std.proofs.Common.{◌++◌, Option, Some, None, refl, sym, ap, ◌∙◌, subst, arith, if◌then◌else◌}
use Rattle.std.specs.Prelude.{slice_get, unwrap_or, nat_le, ⊤}
use Rattle.std.specs.List.{list_any}
use Rattle.std.proofs.lemmas.Bool.{eq-eqb}
use Rattle.std.proofs.lemmas.Bool.Decides.{nat_tests}
use Rattle.pli_language.specs.declared.expr.Place.{Place}
use Rattle.pli_language.specs.declared.fault.SourceKind.{SourceKind}
use Rattle.pli_language.specs.declared.fault.SourceKind.TheVariants.{BadExtent}
use Rattle.pli_language.specs.declared.token.Token.{Token}
use Rattle.pli_language.specs.Tokens.{Tokens}
use Rattle.pli_language.specs.Parsing.{Spells}
use Rattle.pli_language.specs.Tree as T
use Rattle.pli_language.specs.Declarations.{Held, Block, blocks_of}
use Rattle.pli_language.specs.Declaring.{declaring_faults, own_attributes, first_or, place_of_expr}
use Rattle.pli_typing.specs.TypedTree as Y
use Rattle.pli_typing.specs.Judging.{Scope, Mention, MentionsFunction, MentionsVariable, demand, each}
use Rattle.pli_typing.specs.Converting.{number_operand}
use Rattle.pli_typing.specs.References.{expression, operand}
use Rattle.pli_typing.specs.Generations.{is_automatic, is_forbidden, extent_demanded, extent_number, evaluation}
use Rattle.pli_typing.specs.Generations.{names_demanded, declared_variable}
use Rattle.pli_typing.specs.Resolving.{typing_faults, typed_tree}
use Rattle.pli_typing.specs.Variables.{WrittenExtent, written_extents, variables_in, declarations_at, variable_meant}
use Rattle.pli_typing.specs.Variables.{index_where, begins_at, root_place}
use Rattle.well_formed_trees.specs.Every.{Every}
use Rattle.well_formed_trees.specs.EarlyNumbers.{Early, IsEarly}
use Rattle.well_formed_trees.specs.Surroundings.{Around, Table, Where, number_here, variables_of_block}
use Rattle.well_formed_trees.specs.Held.{table_of, entries_in, AreNumberedFrom, HasNumber}
use Rattle.well_formed_trees.proofs.Lists.{first_empty, second_empty, first_false, second_false, every_first}
use Rattle.well_formed_trees.proofs.Places.{HasAt, has_end, same_some}
use Rattle.well_formed_trees.proofs.Entries.{entries_kept}
use Rattle.well_formed_trees.proofs.ProgramNumbers.{lists_kept, outermost_kept}
use Rattle.well_formed_trees.proofs.DeclaredOnce.{same_place_self}
use Rattle.well_formed_trees.proofs.Structures.{IsStructure}
use Rattle.well_formed_trees.proofs.StructuredVariables.{none_behind, block_structures}
use Rattle.well_formed_trees.proofs.EvaluationsSound.{where_of}
use Rattle.well_formed_trees.proofs.EarlyValues.{IsAllowed, AreAllowed, number_operand_early}
use Rattle.well_formed_trees.proofs.EarlyExpressions.{expression_early}
use Rattle.well_formed_trees.proofs.Facts.{Facts}
use Rattle.well_formed_trees.proofs.AcceptedFacts.{facts_kept}

-- ---- what is mentioned

mention_allowed : (own : Y.Variable) (i : ℕ) → own.index ≤ i → (m : Mention) → is_forbidden own m ≡ false
    → IsAllowed own.block i m
mention_allowed own i l MentionsFunction e = absurd (cc e)
mention_allowed own i l (MentionsVariable v) e = λ c f.
    before own.index v.index (last (is_automatic v.class) (v.block == own.block) (nat_le own.index v.index) e
    (ap is_automatic c) (eq-eqb v.block own.block f)) l where
      last : (x y z : Bool) → (x && y && z) ≡ false → x ≡ true → y ≡ true → z ≡ false
      last true true z e f g = e
      last true false z e f g = absurd (cc g)
      last false y z e f g = absurd (cc f)

      before : (o v : ℕ) → nat_le o v ≡ false → o ≤ i → v < i
      before o v e l = let k = below o v e in omega (arith, k, l) where
        below : (o v : ℕ) → nat_le o v ≡ false → v < o
        below o v e = grind (arith, nat_tests)

all_allowed : (own : Y.Variable) (i : ℕ) → own.index ≤ i → (ms : List Mention)
    → list_any (is_forbidden own) ms ≡ false → AreAllowed own.block i ms
all_allowed own i l [] e = tt
all_allowed own i l (m ∷ ms) e = (
  mention_allowed own i l m (first_false (is_forbidden own m) (list_any (is_forbidden own) ms) e),
  all_allowed own i l ms (second_false (is_forbidden own m) (list_any (is_forbidden own) ms) e),
)

none_demanded : (b : Bool) (place : Place) (kind : SourceKind) → (demand (not b) place kind).faults ≡ [] → b ≡ false
none_demanded true place kind e = absurd (cc e)
none_demanded false place kind e = refl

-- ---- evaluations

abbrev AreEarly : (block index : ℕ) → Y.DeclaredVariable → Type 0
AreEarly b i d = Every (λ e. Early b i e.value) d.evaluations

evaluation_early : (scope : Scope) (own : Y.Variable) (i : ℕ) → 1 ≤ own.block → own.index ≤ i
    → (written : List WrittenExtent) (x : WrittenExtent) → (evaluation scope own written x).faults ≡ []
    → Early own.block i (evaluation scope own written x).value.value
evaluation_early scope own i s l written x f =
    let j = extent_number scope x.value in
    let o = operand scope x.value in
    let forbidden = list_any (is_forbidden own) j.mentions in
    let place = place_of_expr x.value in
    let d = (demand (not forbidden) place BadExtent).faults in
    let one = second_empty j.faults (d ++ []) (first_empty (extent_demanded own x.value j).faults [] f) in
    let all = all_allowed own i l j.mentions (none_demanded forbidden place BadExtent (first_empty d [] one)) in
    number_operand_early own.block i o.value (expression_early own.block i s scope x.value
    (every_first (IsAllowed own.block i) (expression scope x.value).mentions []
    (every_first (IsAllowed own.block i) o.mentions (number_operand o.value).mentions all)))

evaluations_early : (scope : Scope) (own : Y.Variable) (i : ℕ) → 1 ≤ own.block → own.index ≤ i
    → (written ws : List WrittenExtent) → (each (evaluation scope own written) ws).faults ≡ []
    → Every (λ e. Early own.block i e.value) (each (evaluation scope own written) ws).value
evaluations_early scope own i s l written [] f = tt
evaluations_early scope own i s l written (x ∷ xs) f =
    let here = (evaluation scope own written x).faults in
    let more = (each (evaluation scope own written) xs).faults in (
      evaluation_early scope own i s l written x (first_empty here (more ++ []) f),
      evaluations_early scope own i s l written xs (first_empty more [] (second_empty here (more ++ []) f)),
    )

-- ---- variables, by their places

index_before : {X : Type 0} (test : X → Bool) (xs : List X) (i : ℕ) (x : X) → slice_get xs i ≡ Some x → test x ≡ true
    → index_where test xs ≤ i
index_before test [] i x e t = absurd (cc e)
index_before test (y ∷ ys) zero x e t = by (test y) (ap test (same_some y x e) ∙ t) where
  by : (b : Bool) → b ≡ true → (if b then 0 else index_where test ys + 1) ≤ 0
  by true e = omega arith
  by false e = absurd (cc e)
index_before test (y ∷ ys) (suc i) x e t = by (test y) (index_before test ys i x e t) where
  by : (b : Bool) → index_where test ys ≤ i → (if b then 0 else index_where test ys + 1) ≤ suc i
  by true h = omega arith
  by false h = omega (arith, h)

abbrev EarlyFrom : (block index : ℕ) → List Y.DeclaredVariable → Type 0
EarlyFrom b i [] = ⊤
EarlyFrom b i (d ∷ ds) = AreEarly b i d × EarlyFrom b (suc i) ds

variable_early : (scope : Scope) → 1 ≤ scope.block → (i : ℕ) (all : List Held) → IsStructure all
    → slice_get (variables_in (declarations_at scope.blocks scope.block)) i ≡ Some all
    → (declared_variable scope all).faults ≡ [] → AreEarly scope.block i (declared_variable scope all).value
variable_early scope s i [] k e f = absurd k
variable_early scope s i (h ∷ ms) k e f =
    let all = h ∷ ms in
    let own = variable_meant scope.blocks scope.block h in
    let vs = variables_in (declarations_at scope.blocks scope.block) in
    let names = (each (λ h. names_demanded scope.blocks scope.block (own_attributes h)) all).faults in
    let values = (each (evaluation scope own (written_extents all)) (written_extents all)).faults in
    let p = h.variable.declared.name.place in
    let root : root_place h ≡ p = ap (λ vs. (first_or vs h.variable).declared.name.place) k.0 in
    let here : begins_at (root_place h) all ≡ true = ap (λ q. begins_at q all) root ∙ same_place_self p in
    evaluations_early scope own i s (index_before (begins_at (root_place h)) vs i all e here) (written_extents all)
    (written_extents all) (first_empty values [] (second_empty names (values ++ []) f))

all_early : (scope : Scope) → 1 ≤ scope.block → (i : ℕ) (vs : List (List Held)) → Every IsStructure vs
    → HasAt (variables_in (declarations_at scope.blocks scope.block)) i vs
    → (each (declared_variable scope) vs).faults ≡ []
    → EarlyFrom scope.block i (each (declared_variable scope) vs).value
all_early scope s i [] k h f = tt
all_early scope s i (all ∷ vs) k h f =
    let here = (declared_variable scope all).faults in
    let more = (each (declared_variable scope) vs).faults in
    let next : i + 1 ≡ suc i = omega arith in (
      variable_early scope s i all k.0 h.0 (first_empty here (more ++ []) f),
      subst (λ n. EarlyFrom scope.block n (each (declared_variable scope) vs).value) next
          (all_early scope s (i + 1) vs k.1 h.1 (first_empty more [] (second_empty here (more ++ []) f))),
    )

-- ---- blocks

number_at : (k : ℕ) (es : Table) → AreNumberedFrom k es → (n : ℕ) (e : List Around) → slice_get es n ≡ Some e
    → number_here e ≡ k + n
number_at k [] h n e f = absurd (cc f)
number_at k (x ∷ es) h zero e f = subst (λ y. number_here y ≡ k + 0) (same_some x e f) (by x h.0) where
  by : (x : List Around) → HasNumber k x → number_here x ≡ k + 0
  by [] h = absurd h
  by (a ∷ more) h = let own = h.0 in omega (arith, own)
number_at k (x ∷ es) h (suc n) e f = let own = number_at (k + 1) es h.1 n e f in omega (arith, own)

block_early : (blocks : List Block) (program : Y.Program) (table : Table) → Facts blocks program table → (n : ℕ) (b :
    Block)
    → 1 ≤ n → slice_get blocks n ≡ Some b → EarlyFrom n 0 (variables_of_block program n)
block_early blocks program table facts n b s e =
    let scope : Scope = record { blocks = blocks; block = n } in
    let vs = variables_in (declarations_at blocks n) in
    subst (EarlyFrom n 0) (sym (facts.variables n b e))
    (all_early scope s 0 vs (block_structures blocks program table facts n b e).0 (has_end vs [] vs refl)
    (facts.judged n b e))

-- the same, for what stands around a block
abbrev pub AreEarlyFrom : Where → (index : ℕ) → List Y.DeclaredVariable → Type 0
AreEarlyFrom w i [] = ⊤
AreEarlyFrom w i (d ∷ ds) = Every (λ e. IsEarly w i e.value) d.evaluations × AreEarlyFrom w (suc i) ds

early_there : (w : Where) (n i : ℕ) (ds : List Y.DeclaredVariable) → number_here w.around ≡ n → EarlyFrom n i ds
    → AreEarlyFrom w i ds
early_there w n i [] e h = tt
early_there w n i (d ∷ ds) e h = (subst (λ m. AreEarly m i d) (sym e) h.0, early_there w n (suc i) ds e h.1)

pub evaluations_kept : (s : List ℕ) (tokens : List Token) (tree : T.Tree) → Tokens s tokens → Spells s tokens tree
    → declaring_faults tree ≡ [] → typing_faults tree ≡ [] → (number : ℕ) (around : List Around)
    → slice_get (table_of tree) number ≡ Some around
    → AreEarlyFrom (where_of tree around) 0 (variables_of_block (typed_tree tree) number)
evaluations_kept s tokens tree t h declared typed zero around f =
    subst (AreEarlyFrom (where_of tree around) 0) (sym (outermost_kept tree)) tt
evaluations_kept s tokens tree t h declared typed (suc n) around f =
    by (slice_get (blocks_of tree) (suc n)) refl (facts_kept s tokens tree t h declared typed) where
      number_is : number_here around ≡ suc n
      number_is =
          let k = number_at 1 (entries_in [] 1 tree.procedures) (entries_kept tree) n around f in
          omega (arith, k)

      by : (o : Option Block) → slice_get (blocks_of tree) (suc n) ≡ o
          → Facts (blocks_of tree) (typed_tree tree) (table_of tree)
          → AreEarlyFrom (where_of tree around) 0 (variables_of_block (typed_tree tree) (suc n))
      by None e facts =
          subst (λ o. AreEarlyFrom (where_of tree around) 0 (unwrap_or o []))
          (sym (none_behind (typed_tree tree).variables (blocks_of tree) (suc n) (lists_kept tree) e)) tt
      by (Some b) e facts =
          early_there (where_of tree around) (suc n) 0 (variables_of_block (typed_tree tree) (suc n)) number_is
          (block_early (blocks_of tree) (typed_tree tree) (table_of tree) facts (suc n) b (omega arith) e)
