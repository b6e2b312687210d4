-- What is so of each variable that the class lets a block declare, a scalar or an array: what it takes, and that it can
-- be made.
use Rattle.std.proofs.Common.{◌≡◌, ◌⊎◌, inl, inr, ℕ, ◌+◌, ◌*◌, ◌<◌, ◌≤◌, List, [], None, true}
use Rattle.std.proofs.Common.{◌^◌, Bool, false, refl, sym, ap, subst, arith}
use Rattle.std.specs.Prelude.{◌%◌, pos, ◌||◌, cond, nat_le, nat_lt}
use Rattle.std.proofs.lemmas.Bool.{and_parts, ltb-true, or_cases}
use Rattle.pli_language.specs.Tree as T
use Rattle.pli_typing.specs.Signatures.{data_size, footprint, rounded_up}
use Rattle.pli_typing.specs.TypedTree as Y
use Rattle.pli_meaning.specs.Contents.{fresh}
use Rattle.pli_meaning.specs.DeclaredShapes.{initial_of, kind_of, shape_of}
use Rattle.pli_meaning.specs.Texts.{most_text}
use Rattle.pli_serving.specs.Arguments.{capacity_of}
use Rattle.pli_coding.specs.Frames.{MemoryParts, frame_bytes, has_constant_size}
use Rattle.pli_headline.specs.ProvedSoFar.{text_leaf}
use Rattle.pli_headline.proofs.Scalars.{IsNumeric}
use Rattle.storage_relation.specs.Keeping.{IsSound}
use Rattle.storage_relation.specs.Standing.{IsPlain, IsValued, leaves_of}
use Rattle.storage_relation.specs.Telling.{AllHaveValues}
use Rattle.expression_runs.specs.Variables.{number_declared}
use Rattle.array_runs.specs.Arrays.{Grid, IsElementType, grid_declared}
use Rattle.array_runs.proofs.ArrayCode.{constant_is}
use Rattle.array_runs.proofs.ArrayPoints.{size_is}
use Rattle.array_runs.proofs.Counting.{count_some}
use Rattle.number_runs.specs.Initial.{are_values, values_of}
use Rattle.number_runs.specs.Arrays.{declared_grid, is_array}
use Rattle.scalar_runs.specs.Scalars.{scalar_declared}
use Rattle.number_runs.specs.Narrow.{is_narrow, is_narrow_type, narrow_type}
use Rattle.area_runs.specs.Based.{pointer_declared}
use Rattle.member_runs.specs.Members.{structure_declared}
use Rattle.number_runs.specs.Based.{are_some_members, is_area, is_based, is_pointer}
use Rattle.number_runs.specs.Numbers.{is_plain}
use Rattle.number_runs.specs.Variables.{is_any, is_declared, variable_bytes}
use Rattle.number_runs.proofs.Initial.{Starts, array_starts, array_valued, scalar_starts, scalar_valued}
use Rattle.number_runs.proofs.Arrays.{IsGrid, array_is, grid_of, type_of}
use Rattle.number_runs.proofs.Based.{area_declared, area_is, based_declared_is, pointer_is}
use Rattle.number_runs.proofs.Narrow.{by_narrow, narrow_is, narrow_values, type_is_narrow}
use Rattle.number_runs.proofs.Variables.{plain_is, plain_values}

-- what is so of scalars, of arrays, of scalars of fewer bits and of pointers is so of each
pub of_declared :
    (P : Y.DeclaredVariable → Type 0) →
    ((is : List T.InitialItem) → are_values (Y.FixedLeaf 31) is ≡ true → P (number_declared is)) →
    ((g : Grid) (is : List T.InitialItem) → IsGrid g is → P (grid_declared g is)) →
    ((t : Y.LeafType) → is_narrow_type t ≡ true → (is : List T.InitialItem) → are_values t is ≡ true →
    P (scalar_declared t is)) → P pointer_declared → (d : Y.DeclaredVariable) → is_declared d ≡ true → P d
of_declared P one many few point d h = by (or_cases (is_plain d) (is_array d || (is_narrow d || is_pointer d)) h)
  where
    last : (is_narrow d ≡ true) ⊎ (is_pointer d ≡ true) → P d
    last (inl narrow) =
        subst P (sym (narrow_is d narrow))
        (few (narrow_type d) (type_is_narrow d narrow) (values_of d) (narrow_values d narrow))
    last (inr pointer) = subst P (sym (pointer_is d pointer)) point

    other : (is_array d ≡ true) ⊎ ((is_narrow d || is_pointer d) ≡ true) → P d
    other (inl array) =
        subst P (sym (array_is d array))
        (many (declared_grid d) (values_of d) (grid_of d array))
    other (inr rest) = last (or_cases (is_narrow d) (is_pointer d) rest)

    by : (is_plain d ≡ true) ⊎ ((is_array d || (is_narrow d || is_pointer d)) ≡ true) → P d
    by (inl plain) = subst P (sym (plain_is d plain)) (one (values_of d) (plain_values d plain))
    by (inr rest) = other (or_cases (is_array d) (is_narrow d || is_pointer d) rest)

-- what is so of what is BASED, of areas and of these is so of each that is known
pub of_any :
    (P : Y.DeclaredVariable → Type 0) →
    ((ms : List Y.Member) (ls : List Y.Leaf) → are_some_members ls ≡ true → P (structure_declared ms ls)) →
    ((bytes : ℕ) → 16 ≤ bytes → bytes ≤ 2 ^ 20 → P (area_declared bytes)) → (d : Y.DeclaredVariable) →
    (is_declared d ≡ true → P d) → is_any d ≡ true → P d
of_any P one area d other h = by (or_cases (is_based d) (is_declared d || is_area d) h)
  where
    last : (is_declared d ≡ true) ⊎ (is_area d ≡ true) → P d
    last (inl is) = other is
    last (inr is) = let a = area_is d is in subst P (sym a.is) (area a.bytes a.some a.few)

    by : (is_based d ≡ true) ⊎ ((is_declared d || is_area d) ≡ true) → P d
    by (inl is) = let b = based_declared_is d is in subst P (sym b.0) (one d.members d.leaves b.1)
    by (inr rest) = last (or_cases (is_declared d) (is_area d) rest)

-- ---- what it takes

pub record IsSized (d : Y.DeclaredVariable) : Type 0 where
  pub even : variable_bytes d % 16 ≡ 0
  pub some : 32 ≤ variable_bytes d
  pub holds : 16 + data_size (shape_of [] d).signature ≤ variable_bytes d

whole_sixteens : (n : ℕ) → 0 < n → ((16 + rounded_up 16 n) % 16 ≡ 0) × (32 ≤ 16 + rounded_up 16 n)
    × (16 + n ≤ 16 + rounded_up 16 n)
whole_sixteens n some = (omega arith, omega (arith, some), omega arith)

pub numeric_element : (t : Y.LeafType) → IsElementType t → IsNumeric t
numeric_element (Y.FixedLeaf p) is = tt
numeric_element Y.BitLeaf is = tt
numeric_element _ is = absurd is

-- 4 bytes for each element
array_sized : (g : Grid) (initial : List T.InitialItem) → IsGrid g initial → IsSized (grid_declared g initial)
array_sized g initial is =
    let size = size_is g initial (numeric_element g.type (type_of is)) in
    let some = count_some g.bounds is.bounds in
    let r = whole_sixteens (data_size (shape_of [] (grid_declared g initial)).signature)
    (omega (arith, size, some)) in
    record { even = r.0; some = r.1; holds = r.2 }

-- a scalar of fewer bits takes a word
fixed_sized : (p : ℕ) (initial : List T.InitialItem) → IsSized (scalar_declared (Y.FixedLeaf p) initial)
fixed_sized p initial =
    let size = by (nat_le p 15) in
    let e : variable_bytes (scalar_declared (Y.FixedLeaf p) initial) ≡ 32 = ap (λ n. footprint n) size in
    record {
      even = ap (λ n. n % 16) e;
      some = omega (arith, e);
      holds = omega (arith, e, size);
    }
  where
    by : (q : Bool) → rounded_up 4 (cond q 2 4) * 1 + 0 ≡ 4
    by true = refl
    by false = refl

-- and a text its bytes, and two more if it varies, in whole words
text_sized :
    (varying : Bool) (length : ℕ) → 0 < length → (initial : List T.InitialItem) →
    IsSized (scalar_declared (text_leaf varying length) initial)
text_sized false n some initial =
    let r = whole_sixteens (data_size (shape_of [] (scalar_declared (text_leaf false n) initial)).signature)
    (omega (arith, some)) in
    record { even = r.0; some = r.1; holds = r.2 }
text_sized true n some initial =
    let r = whole_sixteens (data_size (shape_of [] (scalar_declared (text_leaf true n) initial)).signature)
    (omega arith) in
    record { even = r.0; some = r.1; holds = r.2 }

narrow_sized :
    (t : Y.LeafType) → is_narrow_type t ≡ true → (initial : List T.InitialItem) → IsSized (scalar_declared t initial)
narrow_sized t h initial =
    by_narrow (λ u. IsSized (scalar_declared u initial)) (λ p is. fixed_sized p initial)
    (record { even = refl; some = omega arith; holds = omega arith }) (λ v n some few. text_sized v n some initial) t h

-- an area holds 16 bytes at least
pub area_takes : (n : ℕ) → 16 ≤ n → 32 ≤ variable_bytes (area_declared n)
area_takes n some = omega (arith, some)

pub sized : (d : Y.DeclaredVariable) → is_declared d ≡ true → IsSized d
sized d h =
    of_declared IsSized (λ initial fit. record { even = refl; some = omega arith; holds = omega arith })
    (λ g initial is. array_sized g initial is) (λ t is initial fit. narrow_sized t is initial)
    (record { even = refl; some = omega arith; holds = omega arith }) d h

-- ---- how it is made

pub record IsMakeable (d : Y.DeclaredVariable) : Type 0 where
  pub class : d.class ≡ Y.AutomaticClass
  pub evaluations : d.evaluations ≡ []
  pub constant : has_constant_size d ≡ true
  pub frame : (parts : MemoryParts) → frame_bytes parts d ≡ variable_bytes d
  pub plain : IsPlain (fresh (shape_of [] d) (pos 0) (initial_of d))
  pub fixed : capacity_of (shape_of [] d) ≡ None
  pub values : AllHaveValues (leaves_of (fresh (shape_of [] d) (pos 0) (initial_of d)))
  pub valued : IsValued (fresh (shape_of [] d) (pos 0) (initial_of d))
  pub counts :
      footprint (data_size (record {
        class = (shape_of [] d).signature.class;
        leaves = leaves_of (fresh (shape_of [] d) (pos 0) (initial_of d));
      }))
      ≡ variable_bytes d

pub element_sound : (t : Y.LeafType) → IsElementType t → IsSound (kind_of [] t)
element_sound (Y.FixedLeaf p) is = is
element_sound Y.BitLeaf is = tt
element_sound _ is = absurd is

by_element :
    (P : Y.LeafType → Type 0) → ((p : ℕ) → p ≤ 31 → P (Y.FixedLeaf p)) → P Y.BitLeaf → (t : Y.LeafType) →
    IsElementType t → P t
by_element P fixed bit (Y.FixedLeaf p) is = fixed p is
by_element P fixed bit Y.BitLeaf is = bit
by_element P fixed bit _ is = absurd is

array_makeable :
    (g : Grid) (initial : List T.InitialItem) → IsGrid g initial → IsMakeable (grid_declared g initial)
array_makeable g initial is =
    by_element (λ t. are_values t initial ≡ true →
    IsMakeable (grid_declared (record { type = t; bounds = g.bounds }) initial))
    (λ p few fit.
    let h : Grid = record { type = Y.FixedLeaf p; bounds = g.bounds } in
    let d = grid_declared h initial in
    let same = constant_is h initial tt in
    record {
      class = refl;
      evaluations = refl;
      constant = same;
      frame = λ parts. ap (λ q. 16 + cond q (rounded_up 16 (data_size (shape_of [] d).signature)) 0) same;
      plain = refl;
      fixed = refl;
      values = (tt, tt);
      valued = array_valued h initial few fit;
      counts = refl;
    })
    (λ fit.
    let h : Grid = record { type = Y.BitLeaf; bounds = g.bounds } in
    let d = grid_declared h initial in
    let same = constant_is h initial tt in
    record {
      class = refl;
      evaluations = refl;
      constant = same;
      frame = λ parts. ap (λ q. 16 + cond q (rounded_up 16 (data_size (shape_of [] d).signature)) 0) same;
      plain = refl;
      fixed = refl;
      values = (tt, tt);
      valued = array_valued h initial tt fit;
      counts = refl;
    })
    g.type (type_of is) is.values

-- a type whose values can be told
pub narrow_sound : (t : Y.LeafType) → is_narrow_type t ≡ true → IsSound (kind_of [] t)
narrow_sound t h = by_narrow (λ u. IsSound (kind_of [] u)) fixed tt text t h
  where
    fixed : (p : ℕ) → is_narrow_type (Y.FixedLeaf p) ≡ true → p ≤ 31
    fixed p is = let few = ltb-true p 31 (and_parts (nat_lt 0 p) (nat_lt p 31) is).1 in omega (arith, few)

    text : (varying : Bool) (n : ℕ) → 0 < n → n ≤ most_text → IsSound (kind_of [] (text_leaf varying n))
    text false n some few = tt
    text true n some few = omega (arith, few)

fixed_makeable :
    (p : ℕ) (initial : List T.InitialItem) → p ≤ 31 → are_values (Y.FixedLeaf p) initial ≡ true →
    IsMakeable (scalar_declared (Y.FixedLeaf p) initial)
fixed_makeable p initial few fit =
    record {
      class = refl;
      evaluations = refl;
      constant = refl;
      frame = λ parts. refl;
      plain = refl;
      fixed = refl;
      values = (tt, tt);
      valued = scalar_valued (Y.FixedLeaf p) initial few fit;
      counts = refl;
    }

bit_makeable :
    (initial : List T.InitialItem) → are_values Y.BitLeaf initial ≡ true →
    IsMakeable (scalar_declared Y.BitLeaf initial)
bit_makeable initial fit =
    record {
      class = refl;
      evaluations = refl;
      constant = refl;
      frame = λ parts. refl;
      plain = refl;
      fixed = refl;
      values = (tt, tt);
      valued = scalar_valued Y.BitLeaf initial tt fit;
      counts = refl;
    }

text_makeable :
    (varying : Bool) (n : ℕ) → n ≤ most_text → (initial : List T.InitialItem) →
    are_values (text_leaf varying n) initial ≡ true → IsMakeable (scalar_declared (text_leaf varying n) initial)
text_makeable false n few initial fit =
    record {
      class = refl;
      evaluations = refl;
      constant = refl;
      frame = λ parts. refl;
      plain = refl;
      fixed = refl;
      values = (tt, tt);
      valued = scalar_valued (text_leaf false n) initial tt fit;
      counts = refl;
    }
text_makeable true n few initial fit =
    record {
      class = refl;
      evaluations = refl;
      constant = refl;
      frame = λ parts. refl;
      plain = refl;
      fixed = refl;
      values = (tt, tt);
      valued = scalar_valued (text_leaf true n) initial (omega (arith, few)) fit;
      counts = refl;
    }

narrow_makeable :
    (t : Y.LeafType) → is_narrow_type t ≡ true → (initial : List T.InitialItem) → are_values t initial ≡ true →
    IsMakeable (scalar_declared t initial)
narrow_makeable t h initial =
    by_narrow (λ u. are_values u initial ≡ true → IsMakeable (scalar_declared u initial))
    (λ p is fit. fixed_makeable p initial (narrow_sound (Y.FixedLeaf p) is) fit) (bit_makeable initial)
    (λ v n some few fit. text_makeable v n few initial fit) t h

-- it points to nothing
pointer_makeable : IsMakeable pointer_declared
pointer_makeable =
    record {
      class = refl;
      evaluations = refl;
      constant = refl;
      frame = λ parts. refl;
      plain = refl;
      fixed = refl;
      values = (tt, tt);
      valued = scalar_valued Y.PointerLeaf [] tt refl;
      counts = refl;
    }

pub makeable : (d : Y.DeclaredVariable) → is_declared d ≡ true → IsMakeable d
makeable d h =
    of_declared IsMakeable (λ initial fit. fixed_makeable 31 initial (omega arith) fit)
    (λ g initial is. array_makeable g initial is) narrow_makeable pointer_makeable d h

-- ---- what it begins with

pub starts : (d : Y.DeclaredVariable) → is_declared d ≡ true → Starts d
starts d h =
    of_declared Starts (λ initial fit. scalar_starts (Y.FixedLeaf 31) initial (omega arith) fit)
    (λ g initial is. array_starts g initial (element_sound g.type (type_of is)) is.values)
    (λ t is initial fit. scalar_starts t initial (narrow_sound t is) fit) (inl (refl, refl)) d h
