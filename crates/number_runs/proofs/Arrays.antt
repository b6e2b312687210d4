-- Arrays that the class admits: what is declared, references to elements, and their subscripts.
use Rattle.std.proofs.Common.{◌≡◌, ◌⊎◌, inl, inr, ℕ, zero, suc, ◌+◌, ◌^◌, ◌<◌, ◌≤◌, List, [], ◌∷◌, length, Option, None}
use Rattle.std.proofs.Common.{Some}
use Rattle.std.proofs.Common.{Bool, false, true, refl, sym, ap, ◌∙◌, subst, arith}
use Rattle.std.specs.Prelude.{◌&&◌, ◌||◌, ◌==◌, int_le, map, max, nat_le, nat_lt}
use Rattle.std.proofs.lemmas.Bool.{and_parts, eqb-true, leb-true, ltb-true, or_cases}
use Rattle.std.specs.List.{list_any}
use Rattle.pli_language.specs.Tree as T
use Rattle.pli_typing.specs.Signatures.{Bounds}
use Rattle.pli_typing.specs.TypedTree as Y
use Rattle.pli_meaning.specs.Numbers.{is_of_precision}
use Rattle.pli_meaning.specs.DeclaredShapes.{amount_of, bounds_of, declared_variable}
use Rattle.pli_coding.specs.Expressions.{given_in}
use Rattle.pli_coding.specs.Locating.{is_simple}
use Rattle.activation_relation.specs.Layers.{Layer}
use Rattle.program_runs.specs.Statements.{Block}
use Rattle.expression_runs.specs.Laws.{Does}
use Rattle.expression_runs.specs.Values.{Setting}
use Rattle.expression_runs.specs.Variables.{Spot, variable_of, whole}
use Rattle.counter_runs.specs.Words.{telling}
use Rattle.counter_runs.proofs.Known.{known_told}
use Rattle.element_runs.specs.Arrays.{IsBounds, constant_bounds}
use Rattle.scalar_runs.specs.Scalars.{IsScalar}
use Rattle.array_runs.specs.Arrays.{AreBounds, Grid, IsArray, IsDimension, IsElementType, element, grid_declared}
use Rattle.array_runs.specs.Subscripts.{IsSimple, IsSubscript}
use Rattle.array_runs.proofs.Asked.{elements_does, lower_does, upper_does}
use Rattle.array_runs.proofs.Outer.{outer_array}
use Rattle.number_runs.specs.Initial.{are_values, values_in, values_of}
use Rattle.number_runs.specs.Arrays.{are_all_bounds, are_bounds, declared_grid, grid_if, grid_in, is_array}
use Rattle.number_runs.specs.Arrays.{is_array_if}
use Rattle.number_runs.specs.Arrays.{has_dimensions, is_array_of, is_element_type, is_grid}
use Rattle.number_runs.specs.Knowledge.{KnowsNumbers}
use Rattle.number_runs.specs.Narrow.{is_number_type}
use Rattle.number_runs.specs.Numbers.{Scope, grid_known, is_array_known, is_asked, is_automatic, is_element, is_given}
use Rattle.number_runs.specs.Numbers.{is_grid_with, is_item, is_narrow_with, is_number, is_place, is_reference}
use Rattle.number_runs.specs.Numbers.{is_variable}
use Rattle.number_runs.specs.Numbers.{number_needs, spot_of, type_known}
use Rattle.number_runs.proofs.Narrow.{narrow_with_is, number_type_is}
use Rattle.number_runs.proofs.Variables.{automatic_is, parameter_is, part_is, variable_is}

-- ---- declarations

constants_are :
    (l u : Y.Extent) → are_bounds l u ≡ true →
    ((λ (b : Y.Bounds). b) (record { lower = l; upper = u })
    ≡ constant_bounds (record { lower = amount_of [] l; upper = amount_of [] u }))
    × IsBounds (record { lower = amount_of [] l; upper = amount_of [] u })
constants_are (Y.ConstantExtent l) (Y.ConstantExtent u) h =
    let a = and_parts (is_of_precision 31 l) (is_of_precision 31 u && int_le l u) h in
    let b = and_parts (is_of_precision 31 u) (int_le l u) a.1 in
    (refl, record { lower = a.0; upper = b.0; order = b.1 })
constants_are (Y.ConstantExtent l) Y.StarExtent h = absurd (cc h)
constants_are (Y.ConstantExtent l) Y.ReferExtent h = absurd (cc h)
constants_are (Y.ConstantExtent l) (Y.EvaluatedExtent place) h = absurd (cc h)
constants_are Y.StarExtent u h = absurd (cc h)
constants_are Y.ReferExtent u h = absurd (cc h)
constants_are (Y.EvaluatedExtent place) u h = absurd (cc h)

abbrev closed_bounds : List Y.Bounds → List Y.Bounds
closed_bounds bs = map constant_bounds (map (bounds_of []) bs)

bounds_closed :
    (bs : List Y.Bounds) → are_all_bounds bs ≡ true → (bs ≡ closed_bounds bs) × AreBounds (map (bounds_of []) bs)
bounds_closed [] h = (refl, tt)
bounds_closed (b ∷ bs) h =
    let a = and_parts (are_bounds b.lower b.upper) (are_all_bounds bs) h in
    let c = constants_are b.lower b.upper a.0 in
    let more = bounds_closed bs a.1 in
    (ap (λ d. d ∷ bs) c.0 ∙ ap (λ ds. constant_bounds (bounds_of [] b) ∷ ds) more.0, (c.1, more.1))

many_same : (bs : List Y.Bounds) → length (map (bounds_of []) bs) ≡ length bs
many_same [] = refl
many_same (b ∷ bs) = ap suc (many_same bs)

element_type_is : (t : Y.LeafType) → is_element_type t ≡ true → IsElementType t
element_type_is (Y.FixedLeaf precision) h =
    leb-true precision 31 (and_parts (nat_lt 0 precision) (nat_le precision 31) h).1
element_type_is Y.BitLeaf h = tt
element_type_is (Y.CharacterLeaf size) h = absurd (cc h)
element_type_is (Y.VaryingLeaf size) h = absurd (cc h)
element_type_is Y.PointerLeaf h = absurd (cc h)
element_type_is (Y.OffsetLeaf area) h = absurd (cc h)
element_type_is (Y.AreaLeaf size) h = absurd (cc h)

-- of 1 to 31 bits, and with one dimension to eight
pub record IsGrid (g : Grid) (initial : List T.InitialItem) : Type 0 where
  pub type : is_element_type g.type ≡ true
  pub bounds : AreBounds g.bounds
  pub some : 0 < length g.bounds
  pub few : length g.bounds ≤ 8
  pub values : are_values g.type initial ≡ true

pub type_of : {g : Grid} {initial : List T.InitialItem} → IsGrid g initial → IsElementType g.type
type_of {g} is = element_type_is g.type is.type

grid_is :
    (t : Y.LeafType) (bs : List Y.Bounds) (initial : List T.InitialItem) → is_grid t bs initial ≡ true →
    (bs ≡ closed_bounds bs) × IsGrid (record { type = t; bounds = map (bounds_of []) bs }) initial
grid_is t bs initial h =
    let rest = are_all_bounds bs && are_values t initial in
    let a = and_parts (is_element_type t) (has_dimensions bs && rest) h in
    let e = and_parts (has_dimensions bs) rest a.1 in
    let n = and_parts (nat_lt 0 (length bs)) (nat_le (length bs) 8) e.0 in
    let some = ltb-true 0 (length bs) n.0 in
    let few = leb-true (length bs) 8 n.1 in
    let many = many_same bs in
    let d = and_parts (are_all_bounds bs) (are_values t initial) e.1 in
    let c = bounds_closed bs d.0 in (
      c.0,
      record {
        type = a.0;
        bounds = c.1;
        some = omega (arith, some, many);
        few = omega (arith, few, many);
        values = d.1;
      },
    )

abbrev declared_by :
    Y.StorageClass → List Y.Member → List Y.Leaf → Option Y.ReferMember → List Y.Evaluation → Y.DeclaredVariable
declared_by c ms ls r es = record { class = c; members = ms; leaves = ls; refer = r; evaluations = es }

declared_is :
    (c : Y.StorageClass) (ms : List Y.Member) (ls : List Y.Leaf) (r : Option Y.ReferMember) (es : List Y.Evaluation) →
    is_array_of c ms ls r es ≡ true →
    (declared_by c ms ls r es ≡ grid_declared (grid_in ls) (values_in ls)) × IsGrid (grid_in ls) (values_in ls)
declared_is Y.AutomaticClass (m ∷ []) (l ∷ []) None [] h =
    let grid = is_grid l.type l.bounds l.initial in
    let a = and_parts (m.depth == 0) ((m.dimensions == length l.bounds) && grid) h in
    let b = and_parts (m.dimensions == length l.bounds) grid a.1 in
    let c = grid_is l.type l.bounds l.initial b.1 in
    let many = length (map (bounds_of []) l.bounds) in (
      ap (λ n. declared_by Y.AutomaticClass (record m { depth = n } ∷ []) (l ∷ []) None [])
          (eqb-true m.depth 0 a.0)
          ∙ ap (λ n. declared_by Y.AutomaticClass (record { depth = 0; dimensions = n } ∷ []) (l ∷ []) None [])
          (eqb-true m.dimensions (length l.bounds) b.0 ∙ sym (many_same l.bounds))
          ∙ ap (λ bs. declared_by Y.AutomaticClass (record { depth = 0; dimensions = many } ∷ [])
          (record { type = l.type; bounds = bs; initial = l.initial } ∷ []) None []) c.0,
      c.1,
    )
declared_is Y.AutomaticClass [] ls r es h = absurd (cc h)
declared_is Y.AutomaticClass (m ∷ n ∷ ms) ls r es h = absurd (cc h)
declared_is Y.AutomaticClass (m ∷ []) [] r es h = absurd (cc h)
declared_is Y.AutomaticClass (m ∷ []) (l ∷ l' ∷ ls) r es h = absurd (cc h)
declared_is Y.AutomaticClass (m ∷ []) (l ∷ []) (Some r) es h = absurd (cc h)
declared_is Y.AutomaticClass (m ∷ []) (l ∷ []) None (e ∷ es) h = absurd (cc h)
declared_is Y.ParameterClass ms ls r es h = absurd (cc h)
declared_is Y.StaticClass ms ls r es h = absurd (cc h)
declared_is Y.BasedClass ms ls r es h = absurd (cc h)
declared_is Y.ControlledClass ms ls r es h = absurd (cc h)

pub array_is : (d : Y.DeclaredVariable) → is_array d ≡ true → d ≡ grid_declared (declared_grid d) (values_of d)
array_is d h = (declared_is d.class d.members d.leaves d.refer d.evaluations h).0

pub grid_of : (d : Y.DeclaredVariable) → is_array d ≡ true → IsGrid (declared_grid d) (values_of d)
grid_of d h = (declared_is d.class d.members d.leaves d.refer d.evaluations h).1

-- the type of one that is known is one of these
pub known_element : (s : Scope) (x : Spot) → is_array_known s x ≡ true → IsElementType (grid_known s x).type
known_element s x h =
    let o = declared_variable s.program (variable_of x) in
    by o (and_parts (list_any (is_place x) s.blocks) (is_array_if o) h).1
  where
    by : (o : Option Y.DeclaredVariable) → is_array_if o ≡ true → IsElementType (grid_if o).type
    by None h = absurd (cc h)
    by (Some d) h = type_of (grid_of d h)

-- ---- in other blocks

pub array_told :
    (k : Block) (φ : Layer) (φs : List Layer) (waits : ℕ → Option ℕ) → k.first.control.layers ≡ φ ∷ φs → (x : Spot)
    (g : Grid) → IsArray k x g → IsArray (telling waits φ φs k) x g
array_told k φ φs waits newest x g is =
    outer_array k (telling waits φ φs k) x g (λ d known. known_told k φ φs waits newest x d known) is

-- ---- references

-- an element of an array that is known, whose type passes a test
pub record IsElementOf (s : Scope) (test : Y.LeafType → Bool) (v : Y.Variable) (part : Y.Part)
    (subscripts : Y.Numbers) : Type 0
  where
    pub spot : Spot
    pub is : Y.Referring v Y.NotLocated part subscripts ≡ element spot subscripts
    pub known : is_array_known s spot ≡ true
    pub passes : test (grid_known s spot).type ≡ true
    pub many : length (grid_known s spot).bounds ≡ given_in subscripts
    pub may : s.elements ≡ true

pub element_is :
    (s : Scope) (test : Y.LeafType → Bool) (v : Y.Variable) (part : Y.Part) (subscripts : Y.Numbers) →
    is_element s test v part (given_in subscripts) ≡ true → IsElementOf s test v part subscripts
element_is s test v part subscripts h =
    let known = is_array_known s (spot_of v) in
    let g = grid_known s (spot_of v) in
    let fits = is_grid_with test (given_in subscripts) g in
    let all = (part.first == 0) && ((part.count == 1) && (known && fits)) in
    let d = and_parts s.elements (is_automatic v.class && all) h in
    let a = and_parts (is_automatic v.class) all d.1 in
    let b = and_parts (part.first == 0) ((part.count == 1) && (known && fits)) a.1 in
    let c = and_parts (part.count == 1) (known && fits) b.1 in
    let e = and_parts known fits c.1 in
    let f = and_parts (test g.type) (length g.bounds == given_in subscripts) e.1 in
    record {
      spot = spot_of v;
      is =
          ap (λ k. Y.Referring (record v { class = k }) Y.NotLocated part subscripts) (automatic_is v.class a.0)
          ∙ ap (λ p. Y.Referring (variable_of (spot_of v)) Y.NotLocated p subscripts) (part_is part b.0 c.0);
      known = e.0;
      passes = f.0;
      many = eqb-true (length g.bounds) (given_in subscripts) f.1;
      may = d.0;
    }

-- all of one, and a dimension of it
pub record IsAskedOf (s : Scope) (r : Y.Reference) (dimension : ℕ) : Type 0 where
  pub spot : Spot
  pub is : r ≡ whole spot
  pub known : is_array_known s spot ≡ true
  pub may : s.elements ≡ true
  pub place : ℕ
  pub from : dimension ≡ suc place
  pub bounds : Bounds
  pub there : IsDimension (grid_known s spot).bounds place bounds

dimension_there : (bs : List Bounds) (n : ℕ) → n < length bs → (b : Bounds) × IsDimension bs n b
dimension_there [] n less = absurd (omega (arith, less))
dimension_there (b ∷ bs) zero less = (b, refl)
dimension_there (b ∷ bs) (suc n) less = dimension_there bs n (omega (arith, less))

counted_from : (dimension : ℕ) → 0 < dimension → (n : ℕ) × (dimension ≡ suc n)
counted_from zero some = absurd (omega (arith, some))
counted_from (suc n) some = (n, refl)

pub asked_is :
    (s : Scope) (r : Y.Reference) (dimension : ℕ) → is_asked s r dimension ≡ true → IsAskedOf s r dimension
asked_is s (Y.Referring v Y.NotLocated part Y.NoNumber) dimension h =
    let known = is_array_known s (spot_of v) in
    let bs = (grid_known s (spot_of v)).bounds in
    let within = nat_lt 0 dimension && nat_le dimension (length bs) in
    let all = (part.first == 0) && ((part.count == 1) && (known && within)) in
    let d = and_parts s.elements (is_automatic v.class && all) h in
    let a = and_parts (is_automatic v.class) all d.1 in
    let b = and_parts (part.first == 0) ((part.count == 1) && (known && within)) a.1 in
    let c = and_parts (part.count == 1) (known && within) b.1 in
    let e = and_parts known within c.1 in
    let f = and_parts (nat_lt 0 dimension) (nat_le dimension (length bs)) e.1 in
    let n = counted_from dimension (ltb-true 0 dimension f.0) in
    let from = n.1 in
    let most = leb-true dimension (length bs) f.1 in
    let t = dimension_there bs n.0 (omega (arith, from, most)) in
    record {
      spot = spot_of v;
      is =
          ap (λ k. Y.Referring (record v { class = k }) Y.NotLocated part Y.NoNumber) (automatic_is v.class a.0)
          ∙ ap (λ p. Y.Referring (variable_of (spot_of v)) Y.NotLocated p Y.NoNumber) (part_is part b.0 c.0);
      known = e.0;
      may = d.0;
      place = n.0;
      from = n.1;
      bounds = t.0;
      there = t.1;
    }
asked_is s (Y.Referring v Y.NotLocated part (Y.NumberThen first rest)) dimension h = absurd (cc h)
asked_is s (Y.Referring v (Y.LocatedBy p) part subscripts) dimension h = absurd (cc h)

-- LBOUND, HBOUND and DIM
pub lower_known :
    (s : Scope) (k : Setting) (r : Y.Reference) (dimension : ℕ) → KnowsNumbers s k → is_asked s r dimension ≡ true →
    Does k 0 (Y.LowerBound r dimension)
lower_known s k r dimension h is =
    let w = asked_is s r dimension is in
    subst (λ q. Does k 0 (Y.LowerBound q dimension)) (sym w.is)
    (subst (λ n. Does k 0 (Y.LowerBound (whole w.spot) n)) (sym w.from)
    (lower_does k w.spot (grid_known s w.spot) w.place w.bounds (h.arrays w.may w.spot w.known) w.there))

pub upper_known :
    (s : Scope) (k : Setting) (r : Y.Reference) (dimension : ℕ) → KnowsNumbers s k → is_asked s r dimension ≡ true →
    Does k 0 (Y.UpperBound r dimension)
upper_known s k r dimension h is =
    let w = asked_is s r dimension is in
    subst (λ q. Does k 0 (Y.UpperBound q dimension)) (sym w.is)
    (subst (λ n. Does k 0 (Y.UpperBound (whole w.spot) n)) (sym w.from)
    (upper_does k w.spot (grid_known s w.spot) w.place w.bounds (h.arrays w.may w.spot w.known) w.there))

pub elements_known :
    (s : Scope) (k : Setting) (r : Y.Reference) (dimension : ℕ) → KnowsNumbers s k → is_asked s r dimension ≡ true →
    Does k 0 (Y.ElementsOf r dimension)
elements_known s k r dimension h is =
    let w = asked_is s r dimension is in
    subst (λ q. Does k 0 (Y.ElementsOf q dimension)) (sym w.is)
    (subst (λ n. Does k 0 (Y.ElementsOf (whole w.spot) n)) (sym w.from)
    (elements_does k w.spot (grid_known s w.spot) w.place w.bounds (h.arrays w.may w.spot w.known) w.there))

-- ---- subscripts

-- all of a variable, of any precision, comes into its register by itself
scalar_simple :
    (s : Scope) (k : Setting) (r : Y.Reference) → KnowsNumbers s k →
    (is_variable s r ≡ true) ⊎ (is_given s r ≡ true) → is_simple k.block.environment (Y.NumberIn r) ≡ true →
    IsSimple k.block (Y.NumberIn r)
scalar_simple s k r h (inl is) simple =
    let w = variable_is s r is in
    inr (inl (record { spot = w.spot; is = ap (λ q. Y.NumberIn q) w.is; number = h.variables w.spot w.known }))
scalar_simple s k r h (inr is) simple =
    let w = parameter_is s r is in
    absurd (cc (sym simple ∙ ap (λ q. is_simple k.block.environment (Y.NumberIn q)) w.is))

narrow_simple :
    (s : Scope) (k : Setting) (r : Y.Reference) → KnowsNumbers s k → is_narrow_with s is_number_type r ≡ true →
    IsSimple k.block (Y.NumberIn r)
narrow_simple s k r h is =
    let w = narrow_with_is s is_number_type r is in
    let t = number_type_is (type_known s w.spot) w.passes in
    inr (inr (record {
      spot = w.spot;
      is = ap (λ q. Y.NumberIn q) w.is;
      precision = t.0;
      fixed = subst (λ u. IsScalar k.block w.spot u) t.1 (h.narrows w.may w.spot w.known);
    }))

whole_simple :
    (s : Scope) (k : Setting) (v : Y.Variable) (part : Y.Part) → KnowsNumbers s k →
    is_number s (Y.NumberIn (Y.Referring v Y.NotLocated part Y.NoNumber)) ≡ true →
    is_simple k.block.environment (Y.NumberIn (Y.Referring v Y.NotLocated part Y.NoNumber)) ≡ true →
    IsSimple k.block (Y.NumberIn (Y.Referring v Y.NotLocated part Y.NoNumber))
whole_simple s k v part h is simple =
    by (or_cases (is_reference s r) (is_narrow_with s is_number_type r || false) is)
  where
    r : Y.Reference
    r = Y.Referring v Y.NotLocated part Y.NoNumber

    narrow :
        (is_narrow_with s is_number_type r ≡ true) ⊎ (is_item s is_number_type r ≡ true) →
        IsSimple k.block (Y.NumberIn r)
    narrow (inl one) = narrow_simple s k r h one
    narrow (inr one) = absurd (cc one)

    by :
        (is_reference s r ≡ true) ⊎ ((is_narrow_with s is_number_type r || false) ≡ true) →
        IsSimple k.block (Y.NumberIn r)
    by (inl one) = scalar_simple s k r h (or_cases (is_variable s r) (is_given s r) one) simple
    by (inr one) = narrow (or_cases (is_narrow_with s is_number_type r) false one)

simple_given :
    (s : Scope) (k : Setting) (x : Y.Number) → KnowsNumbers s k → is_number s x ≡ true →
    is_simple k.block.environment x ≡ true → IsSimple k.block x
simple_given s k (Y.NumberConstant n) h is simple =
    inl (record { value = n; is = refl; few = ltb-true n (2 ^ 31) is })
simple_given s k (Y.NumberIn (Y.Referring v Y.NotLocated part Y.NoNumber)) h is simple =
    whole_simple s k v part h is simple
simple_given s k (Y.NumberIn (Y.Referring v Y.NotLocated part (Y.NumberThen first rest))) h is simple =
    absurd (cc simple)
simple_given s k (Y.NumberIn (Y.Referring v (Y.LocatedBy p) part subscripts)) h is simple = absurd (cc simple)
simple_given s k (Y.NumberFrom c) h is simple = absurd (cc simple)
simple_given s k (Y.NumberOfText y) h is simple = absurd (cc simple)
simple_given s k (Y.NumberOfBit y) h is simple = absurd (cc simple)
simple_given s k (Y.Signed sign y) h is simple = absurd (cc simple)
simple_given s k (Y.Calculated operator left right) h is simple = absurd (cc simple)
simple_given s k (Y.Absolute y) h is simple = absurd (cc simple)
simple_given s k (Y.SignOf y) h is simple = absurd (cc simple)
simple_given s k (Y.Extreme extremum first more) h is simple = absurd (cc simple)
simple_given s k (Y.Modulo left right) h is simple = absurd (cc simple)
simple_given s k (Y.Divided precision left right) h is simple = absurd (cc simple)
simple_given s k (Y.LengthOf y) h is simple = absurd (cc simple)
simple_given s k (Y.IndexOf y z) h is simple = absurd (cc simple)
simple_given s k (Y.VerifyOf y z) h is simple = absurd (cc simple)
simple_given s k (Y.LowerBound r n) h is simple = absurd (cc simple)
simple_given s k (Y.UpperBound r n) h is simple = absurd (cc simple)
simple_given s k (Y.ElementsOf r n) h is simple = absurd (cc simple)
simple_given s k (Y.AllocationsOf v) h is simple = absurd (cc simple)
simple_given s k Y.OnCode h is simple = absurd (cc simple)

-- a constant, and a variable, come into their register by themselves; any other waits
pub subscript_given :
    (s : Scope) (k : Setting) (taken need : ℕ) (x : Y.Number) → KnowsNumbers s k → is_number s x ≡ true →
    taken + max (number_needs x) 1 ≤ need → Does k (number_needs x) x → IsSubscript k taken need x
subscript_given s k taken need x h is enough does =
    record { simple = simple_given s k x h is; first = number_needs x; does = does; enough = enough }
