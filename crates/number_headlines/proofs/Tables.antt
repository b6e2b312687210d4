-- The table of a program whose variables are all FIXED BINARY(31), scalars and arrays, and parameters: each signature
-- is there once, and its number leads to it.
use Rattle.std.proofs.Common.{◌≡◌, ◌⊎◌, inl, inr, ℕ, zero, suc, ◌*◌, ◌<◌, ◌≤◌, List, [], ◌∷◌, ◌++◌, length, Bool}
use Rattle.std.proofs.Common.{true, false, map, refl, sym, ap, ◌∙◌, subst, arith, rules, Some}
use Rattle.std.specs.Prelude.{◌%◌, ◌^◌, ◌&&◌, ◌||◌, ◌==◌, nat_le, nat_lt, pos, slice_get, unwrap_or, if◌then◌else◌}
use Rattle.std.specs.Prelude.{⊤}
use Rattle.std.specs.List.{flat_map}
use Rattle.std.proofs.lemmas.Bool.{and_from, and_parts, eq-eqb, le-leb, leb-true, ltb-true, or_cases}
use Rattle.rv_meaning.specs.Tables.{AreSignatures, IsSignature, TableSignature, run_time_size, size_fits}
use Rattle.rv_meaning.specs.declared.image.TableKind.TheVariants as K
use Rattle.run_steps.proofs.Numbers.{word_small}
use Rattle.pli_language.specs.Tree as T
use Rattle.pli_typing.specs.Signatures.{Bounds}
use Rattle.pli_typing.specs.TypedTree as Y
use Rattle.pli_meaning.specs.DeclaredShapes.{variables_of_block, shape_of}
use Rattle.pli_meaning.specs.Texts.{most_text}
use Rattle.pli_serving.specs.Templates.{template_of, shape_at}
use Rattle.pli_meaning.specs.Contents.{Shape}
use Rattle.pli_coding.specs.Environments.{Environment}
use Rattle.pli_coding.specs.SignatureTable.{capacity_size, number_in_table, signature_of, table_of, with_signatures}
use Rattle.well_formed_trees.specs.Every.{Every}
use Rattle.storage_relation.proofs.Holders.{eqb-other}
use Rattle.storage_relation.specs.Tables.{AreLeaves, ArePairs, AreRuled}
use Rattle.pli_headline.specs.ProvedSoFar.{AreBounds, IsHeld, IsScalar, Kind, text_leaf}
use Rattle.pli_headline.proofs.ArraySignatures.{array_kept, array_signed, pairs_of}
use Rattle.pli_headline.proofs.PlainNumbers.{Numbered, numbered_shape}
use Rattle.pli_headline.proofs.PlainSignatures.{HasAll, HasSignature, kind_signature}
use Rattle.pli_headline.proofs.Scalars.{place_below}
use Rattle.pli_headline.proofs.SignaturesOnce.{found_any, has_every}
use Rattle.program_places.specs.Programs.{HasStart, IsUnstatic, environment_for}
use Rattle.program_places.specs.Tables.{IsRuled}
use Rattle.program_places.proofs.Tables.{table_ruled}
use Rattle.array_runs.specs.Arrays as A
use Rattle.array_runs.specs.Arrays.{Grid, grid_declared}
use Rattle.array_runs.proofs.ArrayMeaning.{shape_is}
use Rattle.scalar_runs.specs.Scalars.{scalar_declared}
use Rattle.number_runs.specs.Arrays.{is_element_type}
use Rattle.number_runs.specs.Narrow.{is_narrow_type}
use Rattle.number_runs.specs.Numbers.{is_parameter}
use Rattle.number_runs.specs.Variables.{AreTabled, IsTabled, are_any, are_known, are_plain, bytes_of, is_any}
use Rattle.number_runs.specs.Variables.{is_declared}
use Rattle.number_runs.specs.Variables.{variable_bytes}
use Rattle.area_runs.specs.Based.{pointer_declared}
use Rattle.member_runs.specs.Members.{structure_declared}
use Rattle.number_runs.proofs.Areas.{capacity_in}
use Rattle.number_runs.proofs.Arrays.{IsGrid}
use Rattle.number_runs.proofs.Based.{area_declared}
use Rattle.number_runs.proofs.Declared.{area_takes, of_any, of_declared, sized}
use Rattle.number_runs.proofs.Members.{based_ruled, based_shaped, based_takes}
use Rattle.number_runs.proofs.Narrow.{by_narrow}
use Rattle.number_runs.proofs.BlocksTaken.{plain_known}
use Rattle.number_runs.proofs.Variables.{parameter_declared_is}
use Rattle.number_runs.specs.Areas.{held_bytes}
use Rattle.pli_headline.specs.Headline.{parts}
use Rattle.number_headlines.specs.Programs.{are_all_known, are_all_plain, are_blocks_known, are_blocks_plain, are_held}
use Rattle.number_headlines.specs.Programs.{most_bytes, most_signatures, most_words}

-- ---- the variables of each block

-- a variable of a block, or a parameter
one_of : (d : Y.DeclaredVariable) → (is_any d || is_parameter d) ≡ true → (is_any d ≡ true) ⊎ (is_parameter d ≡ true)
one_of d h = or_cases (is_any d) (is_parameter d) h

takes_some : (d : Y.DeclaredVariable) → (is_any d ≡ true) ⊎ (is_parameter d ≡ true) → 32 ≤ variable_bytes d
takes_some d (inl h) =
    of_any (λ d'. 32 ≤ variable_bytes d') based_takes (λ n some few. area_takes n some) d (λ is. (sized d is).some) h
takes_some d (inr h) = subst (λ d'. 32 ≤ variable_bytes d') (sym (parameter_declared_is d h)) (omega arith)

-- so many bytes hold no more variables than that
few_variables : (ds : List Y.DeclaredVariable) → are_known ds ≡ true → 32 * length ds ≤ bytes_of ds
few_variables [] h = omega arith
few_variables (d ∷ ds) h =
    let a = and_parts (is_any d || is_parameter d) (are_known ds) h in
    let one = takes_some d (one_of d a.0) in
    let rest = few_variables ds a.1 in
    omega (arith, one, rest)

pub record IsKnownBlock (ds : List Y.DeclaredVariable) : Type 0 where
  pub known : are_known ds ≡ true
  pub room : bytes_of ds ≤ most_bytes
  pub few : length ds ≤ most_words

-- without a parameter
pub record IsPlainBlock (ds : List Y.DeclaredVariable) : Type 0 where
  pub plain : are_plain ds ≡ true
  pub room : bytes_of ds ≤ most_bytes
  pub few : length ds ≤ most_words

by_blocks :
    (vs : List (List Y.DeclaredVariable)) (n : ℕ) → are_blocks_known vs ≡ true →
    IsKnownBlock (unwrap_or (slice_get vs n) [])
by_blocks [] n h = record { known = refl; room = omega arith; few = omega arith }
by_blocks (ds ∷ vs) zero h =
    let a = and_parts (nat_le (bytes_of ds) most_bytes && are_known ds) (are_blocks_known vs) h in
    let b = and_parts (nat_le (bytes_of ds) most_bytes) (are_known ds) a.0 in
    let room = leb-true (bytes_of ds) most_bytes b.0 in
    let many = few_variables ds b.1 in
    record { known = b.1; room = room; few = omega (arith, room, many) }
by_blocks (ds ∷ vs) (suc n) h =
    let a = and_parts (nat_le (bytes_of ds) most_bytes && are_known ds) (are_blocks_known vs) h in
    by_blocks vs n a.1

blocks_of : (vs : List (List Y.DeclaredVariable)) → are_all_known vs ≡ true → are_blocks_known vs ≡ true
blocks_of vs h =
    (and_parts (nat_lt (length (with_signatures (flat_map (λ ds. ds) vs) [])) most_signatures) (are_blocks_known vs)
    h).1

pub block_known :
    (vs : List (List Y.DeclaredVariable)) (n : ℕ) → are_all_known vs ≡ true →
    IsKnownBlock (unwrap_or (slice_get vs n) [])
block_known vs n h = by_blocks vs n (blocks_of vs h)

pub plain_block :
    (vs : List (List Y.DeclaredVariable)) (n : ℕ) → are_all_known vs ≡ true →
    are_plain (unwrap_or (slice_get vs n) []) ≡ true → IsPlainBlock (unwrap_or (slice_get vs n) [])
plain_block vs n h plain =
    let b = block_known vs n h in record { plain = plain; room = b.room; few = b.few }

-- with areas
pub record IsHeldBlock (ds : List Y.DeclaredVariable) : Type 0 where
  pub any : are_any ds ≡ true
  pub room : held_bytes parts ds ≤ most_bytes
  pub few : length ds ≤ most_words

pub held_block :
    (vs : List (List Y.DeclaredVariable)) (n : ℕ) → are_all_known vs ≡ true →
    are_held (unwrap_or (slice_get vs n) []) ≡ true → IsHeldBlock (unwrap_or (slice_get vs n) [])
held_block vs n h held =
    let ds = unwrap_or (slice_get vs n) [] in
    let a = and_parts (are_any ds) (nat_le (held_bytes parts ds) most_bytes) held in
    record { any = a.0; room = leb-true (held_bytes parts ds) most_bytes a.1; few = (block_known vs n h).few }

-- where each is plain

plain_from :
    (vs : List (List Y.DeclaredVariable)) (n : ℕ) → are_blocks_plain vs ≡ true →
    are_plain (unwrap_or (slice_get vs n) []) ≡ true
plain_from [] n h = refl
plain_from (ds ∷ vs) zero h =
    let a = and_parts (nat_le (bytes_of ds) most_bytes && are_plain ds) (are_blocks_plain vs) h in
    (and_parts (nat_le (bytes_of ds) most_bytes) (are_plain ds) a.0).1
plain_from (ds ∷ vs) (suc n) h =
    let a = and_parts (nat_le (bytes_of ds) most_bytes && are_plain ds) (are_blocks_plain vs) h in
    plain_from vs n a.1

blocks_known : (vs : List (List Y.DeclaredVariable)) → are_blocks_plain vs ≡ true → are_blocks_known vs ≡ true
blocks_known [] h = refl
blocks_known (ds ∷ vs) h =
    let a = and_parts (nat_le (bytes_of ds) most_bytes && are_plain ds) (are_blocks_plain vs) h in
    let b = and_parts (nat_le (bytes_of ds) most_bytes) (are_plain ds) a.0 in
    and_from (nat_le (bytes_of ds) most_bytes && are_known ds) (are_blocks_known vs)
    (and_from (nat_le (bytes_of ds) most_bytes) (are_known ds) b.0 (plain_known ds b.1)) (blocks_known vs a.1)

pub all_known : (vs : List (List Y.DeclaredVariable)) → are_all_plain vs ≡ true → are_all_known vs ≡ true
all_known vs h =
    let few = nat_lt (length (with_signatures (flat_map (λ ds. ds) vs) [])) most_signatures in
    let a = and_parts few (are_blocks_plain vs) h in
    and_from few (are_blocks_known vs) a.0 (blocks_known vs a.1)

pub block_plain :
    (vs : List (List Y.DeclaredVariable)) (n : ℕ) → are_all_plain vs ≡ true →
    IsPlainBlock (unwrap_or (slice_get vs n) [])
block_plain vs n h =
    let a = and_parts (nat_lt (length (with_signatures (flat_map (λ ds. ds) vs) [])) most_signatures)
    (are_blocks_plain vs) h in
    plain_block vs n (all_known vs h) (plain_from vs n a.1)

-- ---- serial numbers

-- those of a block may come between two acts
pub serials_enough :
    (program : Y.Program) (n : ℕ) → are_all_known program.variables ≡ true →
    length (variables_of_block program n) ≤ most_words
serials_enough program n h = (block_known program.variables n h).few

-- ---- the table

has_front :
    (ds es : List Y.DeclaredVariable) (table : List TableSignature) → HasAll (ds ++ es) table → HasAll ds table
has_front [] es table has = tt
has_front (d ∷ ds) es table has = (has.0, has_front ds es table has.1)

has_back :
    (ds es : List Y.DeclaredVariable) (table : List TableSignature) → HasAll (ds ++ es) table → HasAll es table
has_back [] es table has = has
has_back (d ∷ ds) es table has = has_back ds es table has.1

block_has :
    (vs : List (List Y.DeclaredVariable)) (n : ℕ) (table : List TableSignature) →
    HasAll (flat_map (λ ds. ds) vs) table → HasAll (unwrap_or (slice_get vs n) []) table
block_has [] n table has = tt
block_has (ds ∷ vs) zero table has = has_front ds (flat_map (λ es. es) vs) table has
block_has (ds ∷ vs) (suc n) table has = block_has vs n table (has_back ds (flat_map (λ es. es) vs) table has)

abbrev number_kind : Kind
number_kind = record { type = Y.FixedLeaf 31; bounds = [] }

abbrev grid_kind : Grid → Kind
grid_kind g = record { type = g.type; bounds = g.bounds }

number_numbered :
    (table : List TableSignature) → length table < most_signatures → HasSignature (kind_signature number_kind) table →
    Numbered table number_kind
number_numbered table few has =
    let stands = found_any (kind_signature number_kind) table has in
    let most = place_below table (number_in_table (kind_signature number_kind) table) (kind_signature number_kind)
    stands in
    record { held = (omega arith, omega arith); stands = stands; few = omega (arith, most, few) }

element_held : (t : Y.LeafType) → is_element_type t ≡ true → IsScalar t
element_held (Y.FixedLeaf p) h =
    let a = and_parts (nat_lt 0 p) (nat_le p 31) h in
    let some = ltb-true 0 p a.0 in
    let few = leb-true p 31 a.1 in
    (omega (arith, some), omega (arith, few))
element_held Y.BitLeaf h = tt
element_held (Y.CharacterLeaf size) h = absurd (cc h)
element_held (Y.VaryingLeaf size) h = absurd (cc h)
element_held Y.PointerLeaf h = absurd (cc h)
element_held (Y.OffsetLeaf area) h = absurd (cc h)
element_held (Y.AreaLeaf size) h = absurd (cc h)

bounds_held : (bs : List Bounds) → A.AreBounds bs → AreBounds bs
bounds_held [] are = tt
bounds_held (b ∷ bs) are = ((are.0.lower, (are.0.upper, are.0.order)), bounds_held bs are.1)

array_held : (t : Y.LeafType) (bs : List Bounds) → IsScalar t → AreBounds bs → 0 < length bs → length bs ≤ 8 →
    IsHeld t bs
array_held t [] is are some few = absurd (omega (arith, some))
array_held t (b ∷ bs) is are some few = (is, ((are.0, are.1), omega (arith, few)))

array_numbered :
    (table : List TableSignature) (g : Grid) (initial : List T.InitialItem) → IsGrid g initial →
    length table < most_signatures → HasSignature (kind_signature (grid_kind g)) table → Numbered table (grid_kind g)
array_numbered table g initial is few has =
    let k = grid_kind g in
    let stands = found_any (kind_signature k) table has in
    let most = place_below table (number_in_table (kind_signature k) table) (kind_signature k) stands in
    record {
      held = array_held g.type g.bounds (element_held g.type is.type) (bounds_held g.bounds is.bounds) is.some is.few;
      stands = stands;
      few = omega (arith, most, few);
    }

abbrev narrow_kind : Y.LeafType → Kind
narrow_kind t = record { type = t; bounds = [] }

fixed_held : (p : ℕ) → is_narrow_type (Y.FixedLeaf p) ≡ true → IsScalar (Y.FixedLeaf p)
fixed_held p h =
    let a = and_parts (nat_lt 0 p) (nat_lt p 31) h in
    let some = ltb-true 0 p a.0 in
    let few = ltb-true p 31 a.1 in
    (omega (arith, some), omega (arith, few))

text_held : (varying : Bool) (n : ℕ) → 0 < n → n ≤ most_text → IsScalar (text_leaf varying n)
text_held false n some few = (some, few)
text_held true n some few = (some, few)

narrow_numbered :
    (table : List TableSignature) (t : Y.LeafType) → IsScalar t → length table < most_signatures →
    HasSignature (kind_signature (narrow_kind t)) table → Numbered table (narrow_kind t)
narrow_numbered table t is few has =
    let k = narrow_kind t in
    let stands = found_any (kind_signature k) table has in
    let most = place_below table (number_in_table (kind_signature k) table) (kind_signature k) stands in
    record { held = is; stands = stands; few = omega (arith, most, few) }

-- a signature's shape is found by its number
shape_placed :
    (t : List TableSignature) (n : ℕ) (g : TableSignature) (s : Shape) → slice_get t n ≡ Some g →
    shape_at (template_of g ∷ []) 0 ≡ Some s → shape_at (map template_of t) n ≡ Some s
shape_placed [] n g s at is = absurd (cc at)
shape_placed (u ∷ us) zero g s at is =
    let e : u ≡ g = cc at in ap (λ v. shape_at (template_of v ∷ []) 0) e ∙ is
shape_placed (u ∷ us) (suc n) g s at is = shape_placed us n g s at is

other_tabled :
    (e : Environment) (d : Y.DeclaredVariable) → shape_at (template_of (signature_of d) ∷ []) 0 ≡ Some (shape_of [] d) →
    length e.table < most_signatures → HasSignature (signature_of d) e.table → IsTabled e (map template_of e.table) d
other_tabled e d is few has =
    let stands = found_any (signature_of d) e.table has in
    let most = place_below e.table (number_in_table (signature_of d) e.table) (signature_of d) stands in
    record {
      small = omega (arith, most, few);
      shape = shape_placed e.table (number_in_table (signature_of d) e.table) (signature_of d) (shape_of [] d) stands
          is;
    }

one_tabled :
    (e : Environment) (d : Y.DeclaredVariable) → is_declared d ≡ true → length e.table < most_signatures →
    HasSignature (signature_of d) e.table → IsTabled e (map template_of e.table) d
one_tabled e d is few =
    of_declared (λ d'. HasSignature (signature_of d') e.table → IsTabled e (map template_of e.table) d')
    (λ initial fit has.
    let n = number_numbered e.table few has in
    let small = n.few in
    record { small = omega (arith, small); shape = numbered_shape e.table number_kind n })
    (λ g initial is' has.
    let n = array_numbered e.table g initial is' few has in
    let small = n.few in
    record {
      small = omega (arith, small);
      shape = numbered_shape e.table (grid_kind g) n ∙ ap (λ u. Some u) (sym (shape_is g initial));
    })
    (λ u is' initial fit.
    by_narrow (λ t. HasSignature (signature_of (scalar_declared t initial)) e.table →
    IsTabled e (map template_of e.table) (scalar_declared t initial))
    (λ p narrow has.
    let t = Y.FixedLeaf p in
    let n = narrow_numbered e.table t (fixed_held p narrow) few has in
    let small = n.few in
    record { small = omega (arith, small); shape = numbered_shape e.table (narrow_kind t) n })
    (λ has.
    let n = narrow_numbered e.table Y.BitLeaf tt few has in
    let small = n.few in
    record { small = omega (arith, small); shape = numbered_shape e.table (narrow_kind Y.BitLeaf) n })
    (λ v length some short has.
    let t = text_leaf v length in
    let n = narrow_numbered e.table t (text_held v length some short) few has in
    let small = n.few in
    record { small = omega (arith, small); shape = numbered_shape e.table (narrow_kind t) n }) u is')
    (λ has. other_tabled e pointer_declared refl few has)
    d is

-- an area's capacity is known before the program runs
area_size : (n : ℕ) → n ≤ 2 ^ 20 → capacity_size (Y.ConstantExtent (pos n)) ≡ capacity_in n
area_size n few =
    ap (λ q. if q then capacity_in n else run_time_size) (le-leb (capacity_in n) (2 ^ 20) (omega (arith, few)))

area_shaped :
    (n : ℕ) → n ≤ 2 ^ 20 →
    shape_at (template_of (signature_of (area_declared n)) ∷ []) 0 ≡ Some (shape_of [] (area_declared n))
area_shaped n few =
    let c = capacity_in n in
    let known : (c == run_time_size) ≡ false = eqb-other c run_time_size (λ e. omega (arith, few, e)) in
    ap (λ m. shape_at (template_of (record {
      class = 0;
      refer = 0;
      leaves = record { kind = K.Area; size = m; pairs = [] } ∷ [];
    }) ∷ []) 0) (area_size n few)
    ∙ rw (known) refl

any_tabled :
    (e : Environment) (d : Y.DeclaredVariable) → is_any d ≡ true →
    length e.table < most_signatures → HasSignature (signature_of d) e.table → IsTabled e (map template_of e.table) d
any_tabled e d is few has =
    of_any (λ d'. HasSignature (signature_of d') e.table → IsTabled e (map template_of e.table) d')
    (λ ms ls fit has'. other_tabled e (structure_declared ms ls) (based_shaped ms ls fit) few has')
    (λ n some less has'. other_tabled e (area_declared n) (area_shaped n less) few has') d
    (λ one. λ has'. one_tabled e d one few has') is has

known_tabled :
    (e : Environment) (d : Y.DeclaredVariable) → (is_any d ≡ true) ⊎ (is_parameter d ≡ true) →
    length e.table < most_signatures → HasSignature (signature_of d) e.table → IsTabled e (map template_of e.table) d
known_tabled e d (inl is) few has = any_tabled e d is few has
known_tabled e d (inr is) few has =
    let same = parameter_declared_is d is in
    let n = number_numbered e.table few (subst (λ d'. HasSignature (signature_of d') e.table) same has) in
    let small = n.few in
    subst (λ d'. IsTabled e (map template_of e.table) d') (sym same)
    (record { small = omega (arith, small); shape = numbered_shape e.table number_kind n })

all_tabled :
    (e : Environment) (ds : List Y.DeclaredVariable) → are_known ds ≡ true → length e.table < most_signatures →
    HasAll ds e.table → AreTabled e (map template_of e.table) ds
all_tabled e [] h few has = tt
all_tabled e (d ∷ ds) h few has =
    let a = and_parts (is_any d || is_parameter d) (are_known ds) h in
    (known_tabled e d (one_of d a.0) few has.0, all_tabled e ds a.1 few has.1)

-- the variables of a block in the table of their program
pub has_table :
    (program : Y.Program) (head : Y.BlockHead) → are_all_known program.variables ≡ true →
    AreTabled (environment_for program head) (map template_of (table_of program))
    (variables_of_block program head.number)
has_table program head h =
    let every = flat_map (λ ds. ds) program.variables in
    let a = and_parts (nat_lt (length (table_of program)) most_signatures) (are_blocks_known program.variables) h in
    all_tabled (environment_for program head) (variables_of_block program head.number)
    (block_known program.variables head.number h).known (ltb-true (length (table_of program)) most_signatures a.0)
    (block_has program.variables head.number (table_of program) (has_every every []))

-- ---- its rules

pairs_small : (bs : List Bounds) → A.AreBounds bs → ArePairs (pairs_of bs)
pairs_small [] are = tt
pairs_small (b ∷ bs) are =
    (word_small b.lower are.0.lower, word_small b.upper are.0.upper, pairs_small bs are.1)

array_ruled : (g : Grid) (initial : List T.InitialItem) → IsGrid g initial → IsRuled (grid_declared g initial)
array_ruled g initial is =
    let held = element_held g.type is.type in
    let few = is.few in
    subst (λ u. IsSignature u × AreLeaves u.leaves) (sym (array_signed g.type held g.bounds initial)) (
      array_kept g.type held g.bounds (bounds_held g.bounds is.bounds) (omega (arith, few)),
      (pairs_small g.bounds is.bounds, tt),
    )

text_ruled :
    (varying : Bool) (n : ℕ) → 0 < n → n ≤ most_text → IsRuled (scalar_declared (text_leaf varying n) [])
text_ruled false n some few =
    (array_kept (text_leaf false n) (text_held false n some few) [] tt (omega arith), (tt, tt))
text_ruled true n some few =
    (array_kept (text_leaf true n) (text_held true n some few) [] tt (omega arith), (tt, tt))

narrow_ruled : (t : Y.LeafType) → is_narrow_type t ≡ true → IsRuled (scalar_declared t [])
narrow_ruled t h =
    by_narrow (λ u. IsRuled (scalar_declared u []))
    (λ p is. (array_kept (Y.FixedLeaf p) (fixed_held p is) [] tt (omega arith), (tt, tt)))
    (array_kept Y.BitLeaf tt [] tt (omega arith), (tt, tt)) text_ruled t h

declared_ruled : (d : Y.DeclaredVariable) → is_declared d ≡ true → IsRuled d
declared_ruled d h =
    of_declared IsRuled (λ initial fit. (record { headed = search rules; leaved = search rules }, (tt, tt)))
    array_ruled (λ t is initial fit. narrow_ruled t is) (
      record {
        headed = refl;
        leaved = (record { sized = refl; few = omega arith; bounded = tt; placed = refl }, tt);
      },
      (tt, tt),
    ) d h

area_ruled : (n : ℕ) → n ≤ 2 ^ 20 → IsRuled (area_declared n)
area_ruled n few =
    let c = capacity_in n in
    let even : c % 16 ≡ 0 = omega arith in
    let fits : size_fits K.Area c ≡ true =
    ap (λ q. (q && nat_le c (2 ^ 20)) || (c == run_time_size)) (eq-eqb (c % 16) 0 even)
    ∙ ap (λ q. q || (c == run_time_size)) (le-leb c (2 ^ 20) (omega (arith, few))) in
    subst (λ m. IsSignature (record {
      class = 0;
      refer = 0;
      leaves = record { kind = K.Area; size = m; pairs = [] } ∷ [];
    }) × (⊤ × ⊤)) (sym (area_size n few)) (
      record {
        headed = refl;
        leaved = (record { sized = fits; few = omega arith; bounded = tt; placed = refl }, tt);
      },
      (tt, tt),
    )

known_ruled : (d : Y.DeclaredVariable) → (is_any d ≡ true) ⊎ (is_parameter d ≡ true) → IsRuled d
known_ruled d (inl h) =
    of_any IsRuled based_ruled (λ n some few. area_ruled n few) d (λ is. declared_ruled d is) h
known_ruled d (inr h) =
    subst IsRuled (sym (parameter_declared_is d h))
    (record { headed = search rules; leaved = search rules }, (tt, tt))

each_ruled : (ds : List Y.DeclaredVariable) → are_known ds ≡ true → Every IsRuled ds
each_ruled [] h = tt
each_ruled (d ∷ ds) h =
    let a = and_parts (is_any d || is_parameter d) (are_known ds) h in
    (known_ruled d (one_of d a.0), each_ruled ds a.1)

all_ruled :
    (vs : List (List Y.DeclaredVariable)) → are_blocks_known vs ≡ true → Every (Every IsRuled) vs
all_ruled [] h = tt
all_ruled (ds ∷ vs) h =
    let a = and_parts (nat_le (bytes_of ds) most_bytes && are_known ds) (are_blocks_known vs) h in
    let b = and_parts (nat_le (bytes_of ds) most_bytes) (are_known ds) a.0 in
    (each_ruled ds b.1, all_ruled vs a.1)

rules_kept : (program : Y.Program) → are_all_known program.variables ≡ true → AreRuled (table_of program)
rules_kept program h = table_ruled program (all_ruled program.variables (blocks_of program.variables h))

-- ---- none is STATIC

text_unstatic :
    (varying : Bool) (n : ℕ) → 0 < n → n ≤ most_text → IsUnstatic (scalar_declared (text_leaf varying n) [])
text_unstatic false n some few = (tt, refl)
text_unstatic true n some few = (tt, refl)

declared_unstatic : (d : Y.DeclaredVariable) → is_declared d ≡ true → IsUnstatic d
declared_unstatic d h =
    of_declared IsUnstatic (λ initial fit. (tt, refl)) (λ g initial is. (tt, refl))
    (λ t is initial fit.
    by_narrow (λ u. IsUnstatic (scalar_declared u [])) (λ p is'. (tt, refl)) (tt, refl) text_unstatic t is) (tt, refl)
    d h

known_unstatic : (d : Y.DeclaredVariable) → (is_any d ≡ true) ⊎ (is_parameter d ≡ true) → IsUnstatic d
known_unstatic d (inl h) =
    of_any IsUnstatic (λ ms ls fit. (tt, refl)) (λ n some few. (tt, refl)) d (λ is. declared_unstatic d is) h
known_unstatic d (inr h) = subst IsUnstatic (sym (parameter_declared_is d h)) (tt, refl)

each_unstatic : (ds : List Y.DeclaredVariable) → are_known ds ≡ true → Every IsUnstatic ds
each_unstatic [] h = tt
each_unstatic (d ∷ ds) h =
    let a = and_parts (is_any d || is_parameter d) (are_known ds) h in
    (known_unstatic d (one_of d a.0), each_unstatic ds a.1)

all_unstatic :
    (vs : List (List Y.DeclaredVariable)) → are_blocks_known vs ≡ true → Every (Every IsUnstatic) vs
all_unstatic [] h = tt
all_unstatic (ds ∷ vs) h =
    let a = and_parts (nat_le (bytes_of ds) most_bytes && are_known ds) (are_blocks_known vs) h in
    let b = and_parts (nat_le (bytes_of ds) most_bytes) (are_known ds) a.0 in
    (each_unstatic ds b.1, all_unstatic vs a.1)

pub has_start : (program : Y.Program) → are_all_known program.variables ≡ true → HasStart program
has_start program h =
    record {
      variables = all_unstatic program.variables (blocks_of program.variables h);
      table = rules_kept program h;
    }

-- ---- as an image has it

ruled_fit : (t : List TableSignature) → AreRuled t → AreSignatures t
ruled_fit [] h = tt
ruled_fit (g ∷ gs) h = (h.0, ruled_fit gs h.2)

pub number_table_fits :
    (program : Y.Program) → are_all_known program.variables ≡ true → AreSignatures (table_of program)
number_table_fits program h = ruled_fit (table_of program) (rules_kept program h)
