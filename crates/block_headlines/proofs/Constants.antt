-- What a program tells of its static data stands in the first memory of its image, and each datum that nothing writes
-- is told at its place.
use Rattle.std.proofs.Common.{◌≡◌, ◌⊎◌, inl, inr, ℕ, ◌+◌, ◌-◌, ◌*◌, ◌<◌, ◌≤◌, List, [], ◌∷◌, ◌++◌, length, Option, Some}
use Rattle.std.proofs.Common.{None, Bool, true, false, refl, sym, ap, ◌∙◌, subst, arith, length-append}
use Rattle.std.specs.Prelude.{cond, ◌&&◌, nat_le, nat_lt, replicate, slice_index}
use Rattle.std.specs.List.{list_any}
use Rattle.std.proofs.lemmas.Bool.{and_from, and_parts, leb-true, ltb-true, or_cases, or_left, or_right}
use Rattle.std.proofs.lemmas.Bool.Decides.{nat_tests}
use Rattle.std.proofs.lemmas.List.{get_or_append_left}
use Rattle.std.proofs.lemmas.Option.{same_Some}
use Rattle.pli_typing.specs.Signatures.{rounded_up}
use Rattle.pli_typing.specs.TypedTree as Y
use Rattle.pli_meaning.specs.Pictures.{first_bytes}
use Rattle.pli_coding.specs.Assembly.{Code, ConstantBytes, Datum, same_datum}
use Rattle.pli_coding.specs.Images.{linked_code, picture_of, picture_of_code}
use Rattle.pli_coding.specs.Linking.{data_start, links_of}
use Rattle.pli_coding.specs.StaticData.{static_data}
use Rattle.code_marks.specs.CodeData.{Has}
use Rattle.code_marks.proofs.DataOnce.{placed_same, same_datum-equal, same_datum-same}
use Rattle.storage_relation.specs.Stored.{AreTold}
use Rattle.activation_relation.specs.Layers.{Point}
use Rattle.activation_relation.specs.Points.{Surroundings}
use Rattle.run_steps.specs.DataNamed.{IsPlaced}
use Rattle.program_runs.specs.Constants.{HasConstants}
use Rattle.program_runs.specs.Starts.{image_parts, start_point, surroundings_of}
use Rattle.program_runs.specs.Statements.{Block, IsAmong, IsBegun}
use Rattle.program_runs.proofs.Constants.{constants_among, constants_begun}
use Rattle.program_places.specs.Constants.{bytes_for, constants_in, datum_at, is_told_at, is_unwritten}
use Rattle.program_places.specs.Programs.{Run, code_for, image_for, links_for}
use Rattle.pli_headline.specs.Headline.{FitsMemory, parts}
use Rattle.pli_headline.proofs.Statics.{datum_there}
use Rattle.block_headlines.specs.Constants.{IsOf}

-- ---- a datum among others

-- one of which something holds
record Found (f : Datum → Bool) (ds : List Datum) : Type 0 where
  datum : Datum
  has : Has ds datum
  is : f datum ≡ true

found : (f : Datum → Bool) (ds : List Datum) → list_any f ds ≡ true → Found f ds
found f [] h = absurd (cc h)
found f (x ∷ ds) h = by (or_cases (f x) (list_any f ds) h) (found f ds)
  where
    by : (f x ≡ true) ⊎ (list_any f ds ≡ true) → (list_any f ds ≡ true → Found f ds) → Found f (x ∷ ds)
    by (inl e) rest = record { datum = x; has = or_left _ _ (same_datum-same x); is = e }
    by (inr e) rest = let r = rest e in record { datum = r.datum; has = or_right _ _ r.has; is = r.is }

any_of : (f : Datum → Bool) (ds : List Datum) (d : Datum) → Has ds d → f d ≡ true → list_any f ds ≡ true
any_of f [] d h e = absurd (cc h)
any_of f (x ∷ ds) d h e = by (or_cases (same_datum d x) (list_any (same_datum d) ds) h) (λ r. any_of f ds d r e)
  where
    by : (same_datum d x ≡ true) ⊎ Has ds d → (Has ds d → list_any f ds ≡ true) → list_any f (x ∷ ds) ≡ true
    by (inl s) rest = or_left _ _ (subst (λ u. f u ≡ true) (same_datum-equal d x s) e)
    by (inr r) rest = or_right _ _ (rest r)

-- ---- what is told

told_found :
    (code : Code) (place v : ℕ) → constants_in code place ≡ Some v →
    Found (is_told_at code place) (static_data code) × (slice_index (first_bytes (picture_of_code code)) place ≡ v)
told_found code place v e = by (list_any (is_told_at code place) (static_data code)) refl e
  where
    by :
        (q : Bool) → list_any (is_told_at code place) (static_data code) ≡ q →
        cond q (Some (slice_index (first_bytes (picture_of_code code)) place)) None ≡ Some v →
        Found (is_told_at code place) (static_data code) × (slice_index (first_bytes (picture_of_code code)) place ≡ v)
    by true t e = (found (is_told_at code place) (static_data code) t, same_Some _ v e)
    by false t e = absurd (cc e)

pub constants_stand :
    (code : Code) → FitsMemory (picture_of_code code) →
    AreTold (constants_in code) (4 * length (linked_code code)) image_parts.stack_start
    (first_bytes (picture_of_code code))
constants_stand code fits place v e =
    let t = told_found code place v e in
    let d = t.0.datum in
    let own = and_parts (is_unwritten d) (nat_le (datum_at code d) place
    && nat_lt place (datum_at code d + length (bytes_for code d))) t.0.is in
    let bounds = and_parts (nat_le (datum_at code d) place)
    (nat_lt place (datum_at code d + length (bytes_for code d))) own.1 in
    let low = leb-true (datum_at code d) place bounds.0 in
    let high = ltb-true place (datum_at code d + length (bytes_for code d)) bounds.1 in
    let s = datum_there code fits d t.0.has in
    let behind = s.behind_code in
    let inside = s.inside in
    (omega (arith, low, behind), omega (arith, high, inside), t.1)

-- ---- one datum

at_place : (code : Code) (d : Datum) (n : ℕ) → is_unwritten d ≡ true → n < length (bytes_for code d) →
    is_told_at code (datum_at code d + n) d ≡ true
at_place code d n is few =
    and_from _ _ is (within (datum_at code d) (length (bytes_for code d)) n few)
  where
    within : (at count n : ℕ) → n < count → nat_le at (at + n) && nat_lt (at + n) (at + count) ≡ true
    within at count n few = grind (arith, nat_tests)

placed_has : (code : Code) (d : Datum) → IsPlaced d (links_of code).data' → Has (static_data code) d
placed_has code d placed = sym (placed_same d (data_start code) (static_data code)) ∙ placed

pub datum_told :
    (code : Code) (d : Datum) (n : ℕ) → FitsMemory (picture_of_code code) → is_unwritten d ≡ true →
    IsPlaced d (links_of code).data' → n < length (bytes_for code d) →
    constants_in code (datum_at code d + n) ≡ Some (slice_index (bytes_for code d) n)
datum_told code d n fits is placed few =
    let has = placed_has code d placed in
    ap (λ q. cond q (Some (slice_index (first_bytes (picture_of_code code)) (datum_at code d + n))) None)
    (any_of (is_told_at code (datum_at code d + n)) (static_data code) d has (at_place code d n is few))
    ∙ ap (λ v. Some v) ((datum_there code fits d has).bytes_are n few)

pub datum_known :
    (program : Y.Program) (k : Block) (d : Datum) → FitsMemory (picture_of parts program) → IsOf program k →
    is_unwritten d ≡ true → IsPlaced d (links_for program).data' →
    HasConstants k (datum_at (code_for program) d) (bytes_for (code_for program) d)
datum_known program k d fits of is placed =
    let code = code_for program in
    let s = datum_there code fits d (placed_has code d placed) in
    record {
      behind_code = subst (λ c. 4 * length c ≤ datum_at code d) (sym of.code) s.behind_code;
      inside = s.inside;
      told = λ n few.
          ap (λ (f : ℕ → Option ℕ). f (datum_at code d + n)) of.constants ∙ datum_told code d n fits is placed few;
    }

-- ---- blocks

pub main_of_program :
    (program : Y.Program) (r : Run) (k : Block) → k.call.code ≡ linked_code (code_for program) →
    k.call.surroundings ≡ surroundings_of (image_for program r) → k.call.point ≡ start_point (image_for program r) →
    IsBegun k → IsOf program k
main_of_program program r k code around point b =
    record {
      code = code;
      links = ap (λ (w : Surroundings). w.links) around;
      constants = constants_begun k b ∙ ap (λ (p : Point). p.places.constants) point;
    }

pub called_of_program :
    (program : Y.Program) (k inner : Block) (numbers : ℕ → ℕ) → IsOf program k →
    IsAmong k numbers inner.call.point → inner.call.code ≡ k.call.code →
    inner.call.surroundings ≡ k.call.surroundings → IsBegun inner → IsOf program inner
called_of_program program k inner numbers of o code around b =
    record {
      code = code ∙ of.code;
      links = ap (λ (w : Surroundings). w.links) around ∙ of.links;
      constants = constants_begun inner b ∙ constants_among k numbers inner.call.point o ∙ of.constants;
    }

-- ---- constants

-- the first of what a block has from a place on
front_known :
    (k : Block) (at : ℕ) (bytes more : List ℕ) → HasConstants k at (bytes ++ more) → HasConstants k at bytes
front_known k at bytes more has =
    let long = length-append bytes more in
    let inside = has.inside in
    record {
      behind_code = has.behind_code;
      inside = omega (arith, inside, long);
      told = λ n few.
          has.told n (omega (arith, few, long)) ∙ ap (λ v. Some v) (get_or_append_left bytes more 0 n few);
    }

pub bytes_known :
    (program : Y.Program) (k : Block) (bytes : List ℕ) → FitsMemory (picture_of parts program) → IsOf program k →
    IsPlaced (ConstantBytes bytes) (links_for program).data' →
    HasConstants k (datum_at (code_for program) (ConstantBytes bytes)) bytes
bytes_known program k bytes fits of placed =
    front_known k (datum_at (code_for program) (ConstantBytes bytes)) bytes
    (replicate (rounded_up 4 (length bytes) - length bytes) 0)
    (datum_known program k (ConstantBytes bytes) fits of refl placed)
