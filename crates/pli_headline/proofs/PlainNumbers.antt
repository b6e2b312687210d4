-- The signatures of a block's variables in the table of the program: their numbers, and what stands there.
use Rattle.std.proofs.Common.{◌≡◌, ℕ, zero, suc, ◌+◌, ◌≤◌, List, [], ◌∷◌, ◌++◌, length, map, Some, false, refl, sym, ap, ◌∙◌, subst, arith, unwrap_or, ◌<◌, ◌^◌}
use Rattle.std.specs.Prelude.{pos, slice_get, ◌==◌}
use Rattle.std.proofs.lemmas.Bool.Decides.{nat_tests}
use Rattle.std.specs.List.{flat_map}
use Rattle.rv_meaning.specs.Tables.{TableSignature, run_time_size}
use Rattle.pli_language.specs.Tree as T
use Rattle.pli_typing.specs.TypedTree as Y
use Rattle.pli_meaning.specs.DeclaredShapes.{variables_of_block}
use Rattle.pli_serving.specs.Templates.{template_of, shape_at}
use Rattle.pli_coding.specs.SignatureTable.{signature_of, number_in_table, table_of}
use Rattle.pli_headline.specs.ProvedSoFar.{ArePlain, AllPlain, types_of, IsScalar, alone, array_variable, IsHeld, AreConstants, AreBounds, Kind, declared_kind}
use Rattle.pli_headline.proofs.PlainSignatures.{HasSignature, HasAll, kind_signature}
use Rattle.pli_headline.proofs.Scalars.{kind_at, kind_is, Declared, place_below, by_shape}
use Rattle.pli_headline.proofs.Variables.{scalar_shape}
use Rattle.pli_headline.proofs.MainProcedure.{main_plain, typed_plain, plain_kind}
use Rattle.pli_headline.proofs.SignaturesOnce.{has_every, found_any}
use Rattle.pli_headline.proofs.ArrayMeant.{array_shape}
use Rattle.pli_headline.proofs.ArraySignatures.{array_signed, array_shaped}
use Rattle.pli_typing.specs.Signatures.{Bounds}

abbrev pub number_for : List TableSignature → Kind → ℕ
number_for table kind = number_in_table (kind_signature kind) table

-- a kind whose signature stands in the table
pub record Numbered (table : List TableSignature) (kind : Kind) : Type 0 where
  pub held : IsHeld kind.type kind.bounds
  pub stands : slice_get table (number_for table kind) ≡ Some (kind_signature kind)
  pub few : number_for table kind < 2 ^ 24

-- ---- the variables of a block

has_front : (ds es : List Y.DeclaredVariable) (table : List TableSignature) → HasAll (ds ++ es) table → HasAll ds table
has_front [] es table has = tt
has_front (d ∷ ds) es table has = (has.0, has_front ds es table has.1)

has_back : (ds es : List Y.DeclaredVariable) (table : List TableSignature) → HasAll (ds ++ es) table → HasAll es table
has_back [] es table has = has
has_back (d ∷ ds) es table has = has_back ds es table has.1

block_has : (rows : List (List Y.DeclaredVariable)) (block : ℕ) (table : List TableSignature) → HasAll (flat_map (λ ds. ds) rows) table → HasAll (unwrap_or (slice_get rows block) []) table
block_has [] block table has = tt
block_has (ds ∷ rest) zero table has = has_front ds (flat_map (λ es. es) rest) table has
block_has (ds ∷ rest) (suc block) table has = block_has rest block table (has_back ds (flat_map (λ es. es) rest) table has)

kind_has : (ds : List Y.DeclaredVariable) (j : ℕ) (kind : Kind) (table : List TableSignature) → ArePlain ds → HasAll ds table → slice_get (types_of ds) j ≡ Some kind → HasSignature (kind_signature kind) table
kind_has [] j kind table are has h = absurd (cc h)
kind_has (d ∷ ds) zero kind table are has h =
    let e : declared_kind d ≡ kind = cc h in
    subst (λ u. HasSignature (signature_of u) table) (typed_plain d kind are.0 e) has.0
kind_has (d ∷ ds) (suc j) kind table are has h = kind_has ds j kind table are.1 has.1 h

pub kind_held : (ds : List Y.DeclaredVariable) (j : ℕ) (kind : Kind) → ArePlain ds → slice_get (types_of ds) j ≡ Some kind → IsHeld kind.type kind.bounds
kind_held [] j kind are h = absurd (cc h)
kind_held (d ∷ ds) zero kind are h =
    let e : declared_kind d ≡ kind = cc h in
    subst (λ (k : Kind). IsHeld k.type k.bounds) (plain_kind d are.0 ∙ e) are.0.held
kind_held (d ∷ ds) (suc j) kind are h = kind_held ds j kind are.1 h

pub main_numbered : (program : Y.Program) (block j : ℕ) {kind : Kind} → AllPlain program.variables → length (table_of program) < 2 ^ 24 → slice_get (types_of (variables_of_block program block)) j ≡ Some kind → Numbered (table_of program) kind
main_numbered program block j {kind} all few h =
    let every = flat_map (λ ds. ds) program.variables in
    let table = table_of program in
    let ds = variables_of_block program block in
    let are = main_plain program block all in
    let has = kind_has ds j kind table are (block_has program.variables block table (has_every every [])) h in
    let stands = found_any (kind_signature kind) table has in
    let most = place_below table (number_for table kind) (kind_signature kind) stands in
    record {
      held = kind_held ds j kind are h;
      stands = stands;
      few = omega (arith, most, few);
    }

-- ---- their shapes

scalar_template : (type : Y.LeafType) → IsScalar type → shape_at (template_of (kind_signature (alone type)) ∷ []) 0 ≡ Some (scalar_shape type)
scalar_template (Y.FixedLeaf p) is = refl
scalar_template Y.BitLeaf is = refl
scalar_template (Y.CharacterLeaf (Y.ConstantExtent (pos n))) is =
    let few = is.1 in
    let known : (n == run_time_size) ≡ false = grind (arith, nat_tests) in
    rw (known) refl
scalar_template (Y.VaryingLeaf (Y.ConstantExtent (pos n))) is =
    let few = is.1 in
    let known : (n == run_time_size) ≡ false = grind (arith, nat_tests) in
    rw (known) refl
scalar_template _ is = absurd is

array_template : (type : Y.LeafType) (b : Bounds) (bs : List Bounds) → IsScalar type → AreBounds (b ∷ bs) → length (b ∷ bs) ≤ 8 → shape_at (template_of (kind_signature (record { type = type; bounds = b ∷ bs })) ∷ []) 0 ≡ Some (array_shape type (b ∷ bs))
array_template type b bs element are few =
    ap (λ g. shape_at (template_of g ∷ []) 0) (array_signed type element (b ∷ bs) []) ∙ array_shaped type element (b ∷ bs) are

template_shape : (k : Kind) → IsHeld k.type k.bounds → shape_at (template_of (kind_signature k) ∷ []) 0 ≡ Some (array_shape k.type k.bounds)
template_shape k is =
    by_shape (λ t bs. shape_at (template_of (kind_signature (record { type = t; bounds = bs })) ∷ []) 0 ≡ Some (array_shape t bs)) scalar_template array_template k.type k.bounds is

shape_found : (table : List TableSignature) (n : ℕ) (k : Kind) → IsHeld k.type k.bounds → slice_get table n ≡ Some (kind_signature k) → shape_at (map template_of table) n ≡ Some (array_shape k.type k.bounds)
shape_found [] n k is h = absurd (cc h)
shape_found (g ∷ gs) zero k is h =
    let e : g ≡ kind_signature k = cc h in
    ap (λ u. shape_at (template_of u ∷ []) 0) e ∙ template_shape k is
shape_found (g ∷ gs) (suc n) k is h = shape_found gs n k is h

pub numbered_shape : (table : List TableSignature) (k : Kind) → Numbered table k → shape_at (map template_of table) (number_for table k) ≡ Some (array_shape k.type k.bounds)
numbered_shape table k o = shape_found table (number_for table k) k o.held o.stands

-- ---- variables by the types of their places

-- what INITIAL gives them
abbrev initial_in : List Y.Leaf → List T.InitialItem
initial_in [] = []
initial_in (l ∷ ls) = l.initial

abbrev pub initial_at : List Y.DeclaredVariable → ℕ → List T.InitialItem
initial_at [] j = []
initial_at (d ∷ ds) zero = initial_in d.leaves
initial_at (d ∷ ds) (suc j) = initial_at ds j

-- these variables from a place on
abbrev pub AreOf : (ℕ → Declared) → (j : ℕ) → List Y.DeclaredVariable → Type 0
AreOf kind j [] = Unit {0}
AreOf kind j (d ∷ ds) =
    (d ≡ array_variable (kind j).kind.type (kind j).kind.bounds (kind j).initial) × AreOf kind (suc j) ds

are_from : (kind : ℕ → Declared) (j : ℕ) (ds : List Y.DeclaredVariable) → ArePlain ds → ((i : ℕ) (k : Kind) → slice_get (types_of ds) i ≡ Some k → (kind (j + i)).kind ≡ k) → ((i : ℕ) → (kind (j + i)).initial ≡ initial_at ds i) → AreOf kind j ds
are_from kind j [] are known given = tt
are_from kind j (d ∷ ds) are known given =
    let here : j + 0 ≡ j = omega arith in
    let e : (kind j).kind ≡ declared_kind d = ap (λ n. (kind n).kind) (sym here) ∙ known 0 (declared_kind d) refl in
    let f : (kind j).initial ≡ initial_in d.leaves = ap (λ n. (kind n).initial) (sym here) ∙ given 0 in
    let g : initial_in d.leaves ≡ are.0.initial = ap (λ (u : Y.DeclaredVariable). initial_in u.leaves) are.0.is in (
      typed_plain d (kind j).kind are.0 (sym e) ∙ ap (array_variable (kind j).kind.type (kind j).kind.bounds) (sym (f ∙ g)),
      are_from kind (suc j) ds are.1 (λ i k b. ap (λ n. (kind n).kind) (next_place j i) ∙ known (suc i) k b) (λ i. ap (λ n. (kind n).initial) (next_place j i) ∙ given (suc i)),
    )
  where
    next_place : (j i : ℕ) → suc j + i ≡ j + suc i
    next_place j i = omega arith

none_before : (i : ℕ) → 0 + i ≡ i
none_before i = omega arith

-- the variables of a block
abbrev pub scalars_of : List Y.DeclaredVariable → ℕ → Declared
scalars_of ds j = record { kind = kind_at (types_of ds) j; initial = initial_at ds j }

pub are_of : (ds : List Y.DeclaredVariable) → ArePlain ds → AreOf (scalars_of ds) 0 ds
are_of ds are =
    are_from (scalars_of ds) 0 ds are (λ i k b. ap (kind_at (types_of ds)) (none_before i) ∙ kind_is (types_of ds) i b) (λ i. ap (initial_at ds) (none_before i))

-- constants of their types
pub begins_at : (ds : List Y.DeclaredVariable) (j : ℕ) {kind : Kind} → ArePlain ds → slice_get (types_of ds) j ≡ Some kind → AreConstants kind.type (initial_at ds j)
begins_at [] j are h = absurd (cc h)
begins_at (d ∷ ds) zero {kind} are h =
    let e : declared_kind d ≡ kind = cc h in
    subst (λ (k : Kind). AreConstants k.type (initial_in d.leaves)) (plain_kind d are.0 ∙ e) (subst (λ (u : Y.DeclaredVariable). AreConstants are.0.type (initial_in u.leaves)) (sym are.0.is) are.0.begins)
begins_at (d ∷ ds) (suc j) are h = begins_at ds j are.1 h

pub length_types : (ds : List Y.DeclaredVariable) → length (types_of ds) ≡ length ds
length_types [] = refl
length_types (d ∷ ds) = ap (λ n. suc n) (length_types ds)
