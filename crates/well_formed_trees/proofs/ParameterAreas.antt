-- A parameter that is an area stands among the parameters at the place that a call says.
use Rattle.std.proofs.Common.{◌≡◌, ℕ, suc, ◌+◌, ◌≤◌, ◌==◌, Bool, true, false, ◌&&◌, ◌||◌, List, [], ◌∷◌, ◌++◌}
use Rattle.std.proofs.Common.{map, Some, if◌then◌else◌, refl, sym, ap, ◌∙◌, subst, arith}
use Rattle.std.specs.Prelude.{slice_get}
use Rattle.std.specs.List.{list_any}
use Rattle.std.proofs.lemmas.Bool.{eqb-true, eq-eqb}
use Rattle.pli_language.specs.Keywords.{same_bytes}
use Rattle.pli_language.specs.Tree as T
use Rattle.pli_language.specs.Declarations.{Held, Block, level_of}
use Rattle.pli_language.specs.Declaring.{twice_faults, block_faults, block_head_faults}
use Rattle.pli_language.specs.Declaring.{declarations_faults, names_of}
use Rattle.pli_language.specs.Means.{declarations_of}
use Rattle.pli_typing.specs.TypedTree as Y
use Rattle.pli_typing.specs.Variables.{variables_in, index_where, declarations_at}
use Rattle.pli_typing.specs.Calls.{index_in, parameters_at}
use Rattle.pli_typing.specs.Converting.{Designated}
use Rattle.well_formed_trees.specs.Every.{Every}
use Rattle.well_formed_trees.specs.Surroundings.{Table, Where}
use Rattle.well_formed_trees.proofs.Lists.{first_empty, second_empty}
use Rattle.well_formed_trees.proofs.Letters.{same_equal, same_self, both_true}
use Rattle.well_formed_trees.proofs.Places.{every_at}
use Rattle.well_formed_trees.proofs.DeclaredOnce.{only_one}
use Rattle.well_formed_trees.proofs.Structures.{BlockChained}
use Rattle.well_formed_trees.proofs.NamesOnce.{names_total, named_first, first_total, counted}
use Rattle.well_formed_trees.proofs.Facts.{Facts}
use Rattle.well_formed_trees.proofs.ParameterParts.{TakenByName, place_of_name}

-- ---- variables of level 1 by their names

counted_one : (b : Bool) → b ≡ true → 1 ≤ counted b
counted_one true e = omega arith
counted_one false e = absurd (cc e)

first_named : (h : Held) (ms : List Held) (letters : List ℕ) → h.variable.declared.name.letters ≡ letters
    → level_of h.variable ≡ 1 → 1 ≤ named_first letters (h ∷ ms)
first_named h ms letters e l =
    counted_one (same_bytes h.variable.declared.name.letters letters && (level_of h.variable == 1))
    (both_true (same_bytes h.variable.declared.name.letters letters) (level_of h.variable == 1)
    (subst (λ l. same_bytes h.variable.declared.name.letters l ≡ true) e
    (same_self h.variable.declared.name.letters)) (eq-eqb (level_of h.variable) 1 l))

-- two of one name are one
pub one_by_name : (blocks : List Block) (program : Y.Program) (table : Table) → Facts blocks program table → (m : ℕ)
    (b : Block) → slice_get blocks m ≡ Some b → (letters : List ℕ) (g h : Held) (gs hs : List Held) (i k : ℕ)
    → slice_get (variables_in (declarations_at blocks m)) i ≡ Some (g ∷ gs)
    → slice_get (variables_in (declarations_at blocks m)) k ≡ Some (h ∷ hs)
    → g.variable.declared.name.letters ≡ letters → h.variable.declared.name.letters ≡ letters
    → level_of g.variable ≡ 1 → level_of h.variable ≡ 1 → i ≡ k
one_by_name blocks program table facts m b e letters g h gs hs i k x y s t u v =
    let ds = b.declarations in
    let same : declarations_at blocks m ≡ ds = ap declarations_of e in
    let chained = every_at BlockChained blocks m b facts.chained e in
    let faults = every_at (λ b. block_faults b ≡ []) blocks m b facts.fine e in
    let twice = second_empty (block_head_faults b b.head) (twice_faults [] ds)
    (first_empty (block_head_faults b b.head ++ twice_faults [] ds) (declarations_faults (names_of b.head) [] ds)
    faults) in
    let few = first_total letters [] ds chained in
    let one = names_total letters [] ds twice in
    only_one (named_first letters) (variables_in ds) (omega (arith, few, one)) i k (g ∷ gs) (h ∷ hs)
    (ap (λ ds. slice_get (variables_in ds) i) (sym same) ∙ x)
    (ap (λ ds. slice_get (variables_in ds) k) (sym same) ∙ y) (first_named g gs letters s u)
    (first_named h hs letters t v)

-- ---- places among parameters

pub place_among : (blocks : List Block) (w : Where) (m : ℕ) (p : Y.Procedure) (k : ℕ) (ns : List T.Name)
    → Every (TakenByName blocks w m p) ns → list_any (λ n. place_of_name blocks m n == k) ns ≡ true
    → slice_get (map (place_of_name blocks m) ns)
    (index_where (λ (d : Designated). index_in d.reference == k)
    (parameters_at blocks m (map (place_of_name blocks m) ns))) ≡ Some k
place_among blocks w m p k [] h e = absurd (cc e)
place_among blocks w m p k (n ∷ ns) h e =
    let i = place_of_name blocks m n in
    let rest = parameters_at blocks m (map (place_of_name blocks m) ns) in
    let all : parameters_at blocks m (i ∷ map (place_of_name blocks m) ns) ≡ h.0.designated ∷ rest =
    ap (λ l. l ++ rest) h.0.is in
    let same : index_in h.0.designated.reference ≡ i = h.0.index in
    subst (λ ps. slice_get (i ∷ map (place_of_name blocks m) ns)
    (index_where (λ (d : Designated). index_in d.reference == k) ps) ≡ Some k) (sym all)
    (by (i == k) refl e same (place_among blocks w m p k ns h.1)) where
      by : (b : Bool) → (place_of_name blocks m n == k) ≡ b
          → (b || list_any (λ n. place_of_name blocks m n == k) ns) ≡ true
          → index_in h.0.designated.reference ≡ place_of_name blocks m n
          → (list_any (λ n. place_of_name blocks m n == k) ns ≡ true
          → slice_get (map (place_of_name blocks m) ns)
          (index_where (λ (d : Designated). index_in d.reference == k)
          (parameters_at blocks m (map (place_of_name blocks m) ns))) ≡ Some k)
          → slice_get (place_of_name blocks m n ∷ map (place_of_name blocks m) ns)
          (index_where (λ (d : Designated). index_in d.reference == k)
          (h.0.designated ∷ parameters_at blocks m (map (place_of_name blocks m) ns))) ≡ Some k
      by true t e s f =
          let here : (index_in h.0.designated.reference == k) ≡ true = ap (λ x. x == k) s ∙ t in
          let rest = parameters_at blocks m (map (place_of_name blocks m) ns) in
          ap (λ b. slice_get (place_of_name blocks m n ∷ map (place_of_name blocks m) ns)
          (if b then 0 else index_where (λ (d : Designated). index_in d.reference == k) rest + 1)) here
          ∙ ap Some (eqb-true (place_of_name blocks m n) k t)
      by false t e s f =
          let here : (index_in h.0.designated.reference == k) ≡ false = ap (λ x. x == k) s ∙ t in
          let rest = parameters_at blocks m (map (place_of_name blocks m) ns) in
          let j = index_where (λ (d : Designated). index_in d.reference == k) rest in
          let next : j + 1 ≡ suc j = omega arith in
          ap (λ b. slice_get (place_of_name blocks m n ∷ map (place_of_name blocks m) ns)
          (if b then 0 else j + 1)) here
          ∙ (ap (slice_get (place_of_name blocks m n ∷ map (place_of_name blocks m) ns)) next ∙ f e)

-- a name with the letters of a variable has its place
pub any_place : (blocks : List Block) (w : Where) → Facts blocks w.program w.table → (m : ℕ) (b : Block)
    → slice_get blocks m ≡ Some b → (p : Y.Procedure) (h : Held) (hs : List Held) (k : ℕ)
    → slice_get (variables_in (declarations_at blocks m)) k ≡ Some (h ∷ hs) → level_of h.variable ≡ 1
    → (ns : List T.Name) → Every (TakenByName blocks w m p) ns
    → list_any (λ n. same_bytes n.letters h.variable.declared.name.letters) ns ≡ true
    → list_any (λ n. place_of_name blocks m n == k) ns ≡ true
any_place blocks w facts m b e p h hs k f l [] t a = absurd (cc a)
any_place blocks w facts m b e p h hs k f l (n ∷ ns) t a =
    by (same_bytes n.letters h.variable.declared.name.letters) refl a
    (any_place blocks w facts m b e p h hs k f l ns t.1) where
      late : (x : Bool) → list_any (λ n. place_of_name blocks m n == k) ns ≡ true
          → (x || list_any (λ n. place_of_name blocks m n == k) ns) ≡ true
      late true e = refl
      late false e = e

      by : (x : Bool) → same_bytes n.letters h.variable.declared.name.letters ≡ x
          → (x || list_any (λ n. same_bytes n.letters h.variable.declared.name.letters) ns) ≡ true
          → (list_any (λ n. same_bytes n.letters h.variable.declared.name.letters) ns ≡ true
          → list_any (λ n. place_of_name blocks m n == k) ns ≡ true)
          → list_any (λ n. place_of_name blocks m n == k) (n ∷ ns) ≡ true
      by true s a q =
          let same = same_equal n.letters h.variable.declared.name.letters s in
          let i = one_by_name blocks w.program w.table facts m b e n.letters t.0.root h t.0.members hs
          (place_of_name blocks m n) k t.0.root_found f t.0.letters (sym same) t.0.level l in
          ap (λ x. x || list_any (λ n. place_of_name blocks m n == k) ns) (eq-eqb (place_of_name blocks m n) k i)
      by false s a q = late (place_of_name blocks m n == k) (q a)
