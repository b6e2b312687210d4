-- What INITIAL gives to variables that the class admits: each value fits its leaf, and one list has them all.
use Rattle.std.proofs.Common.{◌≡◌, ◌⊎◌, inl, inr, ◌^◌, ◌≤◌, List, [], ◌∷◌, length, None, Some, true}
use Rattle.std.proofs.Common.{refl, arith}
use Rattle.std.specs.Prelude.{◌&&◌, nat_lt, pos}
use Rattle.std.proofs.lemmas.Bool.{and_parts, ltb-true}
use Rattle.pli_language.specs.Tree as T
use Rattle.pli_typing.specs.TypedTree as Y
use Rattle.pli_meaning.specs.Contents.{fresh}
use Rattle.pli_meaning.specs.DeclaredShapes.{initial_of, kind_of, shape_of}
use Rattle.pli_serving.specs.InitialValues.{none_initial}
use Rattle.pli_coding.specs.Assembly.{InitialLeaf, InitialValues}
use Rattle.pli_coding.specs.StaticForms.{initial_datum, items_bytes}
use Rattle.storage_relation.specs.Beginning.{AllGiven, AllNoEmpty, AreGiven, AreNoEmpty, IsGiven, IsNoEmpty}
use Rattle.storage_relation.specs.Keeping.{AreInitialItems, IsInitial, IsSound}
use Rattle.storage_relation.specs.Standing.{IsValued}
use Rattle.storage_relation.proofs.Begun.{fresh_valued}
use Rattle.array_runs.specs.Arrays.{Grid, grid_declared}
use Rattle.scalar_runs.specs.Scalars.{scalar_declared}
use Rattle.number_runs.specs.Initial.{are_values, is_value}

-- ---- values

record Fits (t : Y.LeafType) (v : T.InitialValue) : Type 0 where
  initial : IsInitial (kind_of [] t) v
  given : IsSound (kind_of [] t) → IsGiven (kind_of [] t) v
  some : IsNoEmpty v

value_fits : (t : Y.LeafType) (v : T.InitialValue) → is_value t v ≡ true → Fits t v
value_fits (Y.FixedLeaf p) (T.InitialNumber z) h = record { initial = h; given = λ sound. (sound, h); some = tt }
value_fits (Y.CharacterLeaf size) (T.InitialText text) h = record { initial = tt; given = λ sound. tt; some = tt }
value_fits (Y.VaryingLeaf size) (T.InitialText text) h = record { initial = tt; given = λ sound. tt; some = tt }
value_fits Y.BitLeaf (T.InitialBit bit) h = record { initial = tt; given = λ sound. tt; some = tt }
value_fits (Y.FixedLeaf p) T.InitialSkip h = record { initial = tt; given = λ sound. tt; some = tt }
value_fits (Y.CharacterLeaf size) T.InitialSkip h = record { initial = tt; given = λ sound. tt; some = tt }
value_fits (Y.VaryingLeaf size) T.InitialSkip h = record { initial = tt; given = λ sound. tt; some = tt }
value_fits Y.BitLeaf T.InitialSkip h = record { initial = tt; given = λ sound. tt; some = tt }
value_fits Y.PointerLeaf T.InitialSkip h = record { initial = tt; given = λ sound. tt; some = tt }
value_fits (Y.OffsetLeaf area) T.InitialSkip h = record { initial = tt; given = λ sound. tt; some = tt }
value_fits (Y.AreaLeaf size) T.InitialSkip h = record { initial = tt; given = λ sound. tt; some = tt }
value_fits _ _ h = absurd (cc h)

-- ---- lists of them

record AllFit (t : Y.LeafType) (items : List T.InitialItem) : Type 0 where
  initial : AreInitialItems (kind_of [] t) items
  given : IsSound (kind_of [] t) → AreGiven (kind_of [] t) items
  some : AreNoEmpty items

all_fit : (t : Y.LeafType) (items : List T.InitialItem) → are_values t items ≡ true → AllFit t items
all_fit t [] h = record { initial = tt; given = λ sound. tt; some = tt }
all_fit t (i ∷ is) h =
    let few = nat_lt i.repetition (2 ^ 32) in
    let a = and_parts (few && is_value t i.value) (are_values t is) h in
    let b = and_parts few (is_value t i.value) a.0 in
    let one = value_fits t i.value b.1 in
    let rest = all_fit t is a.1 in
    record {
      initial = (one.initial, rest.initial);
      given = λ sound. ((ltb-true i.repetition (2 ^ 32) b.0, one.given sound), rest.given sound);
      some = (one.some, rest.some);
    }

-- ---- what a variable begins with

pub scalar_valued :
    (t : Y.LeafType) (items : List T.InitialItem) → IsSound (kind_of [] t) → are_values t items ≡ true →
    IsValued (fresh (shape_of [] (scalar_declared t items)) (pos 0) (initial_of (scalar_declared t items)))
scalar_valued t items sound h =
    let d = scalar_declared t items in
    fresh_valued (shape_of [] d) (pos 0) (initial_of d) (sound, tt) ((all_fit t items h).initial, tt)

pub array_valued :
    (g : Grid) (items : List T.InitialItem) → IsSound (kind_of [] g.type) → are_values g.type items ≡ true →
    IsValued (fresh (shape_of [] (grid_declared g items)) (pos 0) (initial_of (grid_declared g items)))
array_valued g items sound h =
    let d = grid_declared g items in
    fresh_valued (shape_of [] d) (pos 0) (initial_of d) (sound, tt) ((all_fit g.type items h).initial, tt)

-- nothing, or the values of its leaf, which has one list
pub record IsOneList (d : Y.DeclaredVariable) : Type 0 where
  pub leaf : InitialLeaf
  pub datum : initial_datum d ≡ Some (InitialValues (leaf ∷ []))
  pub given : AllGiven [] d.leaves
  pub some : AllNoEmpty (initial_of d)
  pub few : length d.leaves ≤ 2 ^ 32

abbrev pub IsBare : Y.DeclaredVariable → Type 0
IsBare d = (initial_datum d ≡ None) × (none_initial (shape_of [] d).signature.leaves ≡ initial_of d)

abbrev pub Starts : Y.DeclaredVariable → Type 0
Starts d = IsBare d ⊎ IsOneList d

abbrev one_leaf : List T.InitialItem → InitialLeaf
one_leaf items = record { leaf = 0; values = items_bytes items }

pub scalar_starts :
    (t : Y.LeafType) (items : List T.InitialItem) → IsSound (kind_of [] t) → are_values t items ≡ true →
    Starts (scalar_declared t items)
scalar_starts t [] sound h = inl (refl, refl)
scalar_starts t (i ∷ is) sound h =
    let fit = all_fit t (i ∷ is) h in
    inr (record {
      leaf = one_leaf (i ∷ is);
      datum = refl;
      given = (fit.given sound, tt);
      some = (fit.some, tt);
      few = omega arith;
    })

pub array_starts :
    (g : Grid) (items : List T.InitialItem) → IsSound (kind_of [] g.type) → are_values g.type items ≡ true →
    Starts (grid_declared g items)
array_starts g [] sound h = inl (refl, refl)
array_starts g (i ∷ is) sound h =
    let fit = all_fit g.type (i ∷ is) h in
    inr (record {
      leaf = one_leaf (i ∷ is);
      datum = refl;
      given = (fit.given sound, tt);
      some = (fit.some, tt);
      few = omega arith;
    })
