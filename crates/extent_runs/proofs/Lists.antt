-- The list of an extent's places is found at each point of a block that has its bytes.
use Rattle.std.proofs.Common.{◌≡◌, ℕ, suc, ◌+◌, ◌*◌, ◌/◌, ◌%◌, ◌^◌, ◌<◌, ◌≤◌, List, [], ◌∷◌, ◌++◌, length, Some, None}
use Rattle.std.proofs.Common.{true, refl, sym, ap, ◌∙◌, subst, arith}
use Rattle.std.specs.Prelude.{◌&&◌, cond, nat_le, slice_index}
use Rattle.std.proofs.lemmas.Bool.Decides.{nat_tests}
use Rattle.rv_meaning.specs.Machine.{value}
use Rattle.rv_meaning.specs.Memory.{bytes_of_words, load}
use Rattle.rv_meaning.proofs.ImageBytes.{length-bytes_of_words}
use Rattle.pli_serving.specs.Bytes.{Layout, is_data}
use Rattle.pli_serving.specs.SignatureService.{ExtentPlace, places_at, places_from, places_of_count}
use Rattle.pli_coding.specs.Assembly.{DataPlace, Datum, size_of}
use Rattle.pli_coding.specs.Environments.{none_taken}
use Rattle.pli_coding.specs.Extents.{filled_in}
use Rattle.pli_coding.specs.Linking.{place_of}
use Rattle.pli_coding.specs.Registers.{a2, a3}
use Rattle.pli_coding.specs.StaticForms.{pairs_in, places_datum, words_datum}
use Rattle.storage_relation.specs.Served.{Holds}
use Rattle.activation_relation.specs.Layers.{Layer, Point, now, services_of}
use Rattle.image_runs.specs.Runs.{layout_of}
use Rattle.run_steps.specs.Engine.{Base}
use Rattle.run_steps.specs.Items.{Linked}
use Rattle.run_steps.specs.Reach.{Family, Reach}
use Rattle.block_runs.specs.Machines.{IsIn}
use Rattle.program_runs.specs.Statements.{Block, IsAmong}
use Rattle.program_runs.proofs.Constants.{bytes_stand}
use Rattle.extent_runs.specs.Both.{placed_from}
use Rattle.extent_runs.specs.Lists.{FitWords, HasPlaces, list_words, place_words}
use Rattle.extent_runs.specs.Placing.{IsPlacement, Placement, placing_code}
use Rattle.extent_runs.specs.Signatures.{Filling, HasList, IsFilling}
use Rattle.extent_runs.specs.Words.{IsWaiting, answered_point}
use Rattle.extent_runs.proofs.Both.{extents_placed}

-- ---- words one behind the other

abbrev AreAt : List ℕ → (at : ℕ) → List ℕ → Type 0
AreAt m at [] = Unit {0}
AreAt m at (w ∷ ws) = (load 4 m at ≡ w) × AreAt m (at + 4) ws

abbrev AreWords : List ℕ → Type 0
AreWords [] = Unit {0}
AreWords (w ∷ ws) = (w < 2 ^ 32) × AreWords ws

-- the bytes of one tell it
one_word :
    (m : List ℕ) (at w : ℕ) → w < 2 ^ 32 → slice_index m at ≡ w % 256 → slice_index m (suc at) ≡ w / 256 % 256 →
    slice_index m (suc (suc at)) ≡ w / 256 / 256 % 256 →
    slice_index m (suc (suc (suc at))) ≡ w / 256 / 256 / 256 % 256 → load 4 m at ≡ w
one_word m at w h e0 e1 e2 e3 = omega (arith, h, e0, e1, e2, e3)

words_at :
    (m : List ℕ) (at : ℕ) (ws : List ℕ) → AreWords ws →
    ((n : ℕ) → n < length (bytes_of_words ws) → slice_index m (at + n) ≡ slice_index (bytes_of_words ws) n) →
    AreAt m at ws
words_at m at [] fit h = tt
words_at m at (w ∷ ws) fit h =
    let e0 : at ≡ at + 0 = omega arith in
    let e1 : suc at ≡ at + 1 = omega arith in
    let e2 : suc (suc at) ≡ at + 2 = omega arith in
    let e3 : suc (suc (suc at)) ≡ at + 3 = omega arith in
    let byte = slice_index m in (
      one_word m at w fit.0 (ap byte e0 ∙ h 0 (omega arith)) (ap byte e1 ∙ h 1 (omega arith))
          (ap byte e2 ∙ h 2 (omega arith)) (ap byte e3 ∙ h 3 (omega arith)),
      words_at m (at + 4) ws fit.1 (λ n few.
          let e : at + 4 + n ≡ at + suc (suc (suc (suc n))) = omega arith in
          ap byte e ∙ h (suc (suc (suc (suc n)))) (omega (arith, few))),
    )

-- ---- places

fit_words : (places : List ExtentPlace) → FitWords places → AreWords (place_words places)
fit_words [] fit = tt
fit_words (x ∷ xs) fit = (fit.0.0, (fit.0.1, fit_words xs fit.1))

as_long : (places : List ExtentPlace) → length (place_words places) ≡ 2 * length places
as_long [] = refl
as_long (x ∷ xs) = let e = as_long xs in omega (arith, e)

places_read :
    (m : List ℕ) (at : ℕ) (places : List ExtentPlace) → AreAt m at (place_words places) →
    places_from (length places) at m ≡ places
places_read m at [] h = refl
places_read m at (x ∷ xs) h =
    let e : at + 8 ≡ at + 4 + 4 = omega arith in
    let one : ExtentPlace = record { leaf = load 4 m at; dimension = load 4 m (at + 4) } in
    ap (λ ys. one ∷ ys) (ap (λ a. places_from (length xs) a m) e ∙ places_read m (at + 4 + 4) xs h.1.1)
    ∙ ap (λ n. record { leaf = n; dimension = load 4 m (at + 4) } ∷ xs) h.0
    ∙ ap (λ n. record { leaf = x.leaf; dimension = n } ∷ xs) h.1.0

there : (y : Layout) (at n : ℕ) → y.code_bytes ≤ at → at + n ≤ y.end → is_data y at n ≡ true
there y at n low high = by y.code_bytes y.end low high
  where
    by : (b e : ℕ) → b ≤ at → at + n ≤ e → nat_le b at && nat_le (at + n) e ≡ true
    by b e low high = grind (arith, nat_tests)

list_read :
    (y : Layout) (m : List ℕ) (at : ℕ) (places : List ExtentPlace) → y.code_bytes ≤ at →
    at + (4 + 8 * length places) ≤ y.end → AreAt m at (list_words places) → places_at y at m ≡ Some places
list_read y m at places low high h =
    ap (λ q. cond q (places_of_count y (load 4 m at) at m) None) (there y at 4 low (omega (arith, high)))
    ∙ ap (λ n. places_of_count y n at m) h.0
    ∙ ap (λ q. cond q (Some (places_from (length places) (at + 4) m)) None)
    (there y at (4 + 8 * length places) low high)
    ∙ ap (λ ps. Some ps) (places_read m (at + 4) places h.1)

-- ---- at a point

pub list_found :
    (k : Block) (numbers : ℕ → ℕ) (p : Point) (m : List ℕ) (x : Filling) → IsAmong k numbers p → Holds (now p m) →
    HasPlaces k x → HasList p x m
list_found k numbers p m x o h has =
    let ws = list_words x.places in
    let s = bytes_stand k numbers p m x.at (bytes_of_words ws) o h has.constants in
    let behind = s.behind_code in
    let inside = s.inside in
    let long = length-bytes_of_words ws in
    let many = as_long x.places in
    subst (λ y. places_at y x.at m ≡ Some x.places) (sym o.image.layout)
    (list_read (layout_of (4 * length k.call.code)) m x.at x.places behind (omega (arith, inside, long, many))
    (words_at m x.at ws (omega (arith, inside, long, many), fit_words x.places has.fit) s.bytes_are))

-- ---- as code names it

pairs_same : (places : List ExtentPlace) → pairs_in (place_words places) ≡ length places
pairs_same [] = refl
pairs_same (x ∷ xs) = ap (λ n. suc n) (pairs_same xs)

pub datum_same :
    (places : List ExtentPlace) → places_datum (place_words places) ≡ words_datum (list_words places)
datum_same places = ap (λ n. words_datum (n ∷ place_words places)) (pairs_same places)

-- ---- from the bounds on

pub bounds_placed :
    (k : Block) (p : Point) (x : Filling) (φ : Layer) (φs : List Layer) (z : Placement) (numbers : ℕ → ℕ)
    (places : Datum) (credits index : ℕ) (f : Family) → IsAmong k numbers p → HasPlaces k x →
    IsFilling p x × IsWaiting p x φ φs → IsPlacement k.call.surroundings (answered_point x φ φs p) z →
    place_of k.call.surroundings.links (DataPlace places) ≡ x.at →
    Linked k.call.surroundings.links k.call.code index (filled_in none_taken places ++ placing_code z) →
    ((b : Base) → IsIn k.call.surroundings p numbers index b (f b)
    × (value (f b).machine a2 ≡ x.lower) × (value (f b).machine a3 ≡ x.upper)) →
    Reach k.call.code credits f (services_of p)
    (credits + size_of (filled_in none_taken places ++ placing_code z)) (services_of (placed_from x φ φs z p))
    (λ b y. IsIn k.call.surroundings (placed_from x φ φs z p) numbers
    (index + size_of (filled_in none_taken places ++ placing_code z)) b y)
bounds_placed k p x φ φs z numbers places credits index f o has is h place l at =
    let inside = has.constants.inside in
    extents_placed k.call.surroundings k.call.code p x φ φs z numbers places credits index f (o.stands, o.image) is h
    (place, omega (arith, inside)) l
    (λ b. (
      (at b).0,
      record {
        lower = (at b).1;
        upper = (at b).2;
        list = list_found k numbers p (f b).machine.memory x o (at b).0.at.storage has;
      },
    ))
