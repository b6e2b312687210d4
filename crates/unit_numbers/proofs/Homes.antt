-- The main procedure's block at a point of its list: with the units that it has by then, and what is told of the words
-- of its frame while its loops go on.
use Rattle.std.proofs.Common.{◌≡◌, ℕ, ◌+◌, ◌^◌, ◌<◌, ◌≤◌, List, [], ◌∷◌, Option, None, true, false}
use Rattle.std.proofs.Common.{refl, sym, ap, ◌∙◌, subst, arith}
use Rattle.pli_language.specs.declared.condition.Condition.{Condition}
use Rattle.pli_typing.specs.TypedTree as Y
use Rattle.pli_meaning.specs.DeclaredShapes.{variables_of_block}
use Rattle.pli_meaning.specs.StorageState.{automatic_in_use, most_activations}
use Rattle.pli_serving.specs.ServiceState as S
use Rattle.pli_coding.specs.Frames.{fixed_size, frame_end}
use Rattle.activation_relation.specs.Changes.{newest_with}
use Rattle.activation_relation.specs.FrameLaws.{with_waits}
use Rattle.activation_relation.specs.Frames.{frame_under, upper_top}
use Rattle.activation_relation.specs.Layers.{Layer, Point}
use Rattle.activation_relation.specs.Points.{Surroundings}
use Rattle.program_places.specs.Programs.{environment_for}
use Rattle.program_runs.specs.Starts.{image_parts}
use Rattle.program_runs.specs.Statements.{Block, IsBegun}
use Rattle.expression_runs.specs.Variables.{IsNumber, Spot}
use Rattle.array_runs.specs.Arrays.{IsArray}
use Rattle.scalar_runs.specs.Scalars.{IsScalar}
use Rattle.counter_runs.proofs.Known.{number_told}
use Rattle.counter_runs.proofs.Words.{begun_telling}
use Rattle.number_runs.specs.Numbers.{grid_known, is_array_known, is_known, is_narrow_known, type_known}
use Rattle.number_runs.proofs.Arrays.{array_told}
use Rattle.number_runs.proofs.Narrow.{narrow_told}
use Rattle.number_runs.specs.Statements.{statements_set}
use Rattle.number_runs.specs.Variables.{words_in}
use Rattle.number_headlines.proofs.FullWords.{words_at, words_count, words_lower}
use Rattle.number_headlines.proofs.Loops.{after_waits, after_words}
use Rattle.number_headlines.proofs.Running.{Free, with_layers}
use Rattle.number_headlines.proofs.Tables.{block_plain}
use Rattle.phase_runs.specs.Units.{AreBy, Past, past_point}
use Rattle.phase_runs.proofs.Units.{past_begun}
use Rattle.unit_numbers.proofs.Arrays.{past_array, past_narrow, past_number}
use Rattle.unit_numbers.proofs.Established.{ons_placed}
use Rattle.unit_numbers.proofs.Mains.{Main, block_for, free, layer_behind_all, level_of, list_of, main_array}
use Rattle.unit_numbers.proofs.Mains.{main_begun, main_narrow}
use Rattle.unit_numbers.proofs.Mains.{main_layer, main_number, main_scope, own_known}
use Rattle.unit_numbers.proofs.Mains.{ons_of, own_words, surroundings_for}
use Rattle.unit_numbers.proofs.Outer.{main_top}
use Rattle.unit_numbers.proofs.Past.{main_past, past_like, past_living, past_same}

pub record Home : Type 0 where
  pub input : List ℕ
  pub acts : ℕ
  pub past : Past
  pub layers : List Layer → List Layer

abbrev pub home_block : {program : Y.Program} → Main program → Home → Block
home_block m h = with_layers h.layers (main_past m h.input h.acts h.past)

abbrev pub world_of : {program : Y.Program} → Main program → Home → Surroundings
world_of m h = surroundings_for m h.input h.acts

-- what is known of it
pub record IsHome' {program : Y.Program} (m : Main program) (h : Home) : Type 0 where
  pub few : h.acts + 1 < 2 ^ 64
  pub first : IsBegun (block_for m h.input h.acts)
  pub known : AreBy (ons_of m) h.past
  pub begun : IsBegun (home_block m h)
  pub numbers : (x : Spot) → is_known (main_scope m false) x ≡ true → IsNumber (home_block m h) x
  pub arrays :
      (x : Spot) → is_array_known (main_scope m false) x ≡ true →
      IsArray (home_block m h) x (grid_known (main_scope m false) x)
  pub narrows :
      (x : Spot) → is_narrow_known (main_scope m false) x ≡ true →
      IsScalar (home_block m h) x (type_known (main_scope m false) x)
  pub free : Free (world_of m h) (home_block m h).first most_activations
  -- its frame has the words that its loops set aside
  pub words : free.layer.words ≡ statements_set (list_of m)
  -- and ends behind its variables
  pub ends :
      upper_top image_parts (home_block m h).first.control.layers
      ≡ frame_under image_parts (home_block m h).first.control.layers
      + frame_end image_parts program m.head.number m.head.level

-- ---- units that are established leave the newest layer as it was but for its units

pub record Layered (φ : Layer) (φs ls : List Layer) : Type 0 where
  pub layer : Layer
  pub newest : ls ≡ layer ∷ φs
  pub top : layer.top ≡ φ.top
  pub lower : layer.lower ≡ φ.lower
  pub words : layer.words ≡ φ.words
  pub waits : layer.waits ≡ φ.waits

pub past_layered :
    (past : Past) (p : Point) (φ : Layer) (φs : List Layer) → p.control.layers ≡ φ ∷ φs →
    Layered φ φs (past_point past p).control.layers
past_layered [] p φ φs e =
    record { layer = φ; newest = e; top = refl; lower = refl; words = refl; waits = refl }
past_layered (e ∷ past) p φ φs newest = by _ (past_layered past p φ φs newest)
  where
    by :
        (us : List (Condition × S.OnUnit)) → Layered φ φs (past_point past p).control.layers →
        Layered φ φs (newest_with us (past_point past p).control.layers)
    by us h =
        record {
          layer = record h.layer { units = us };
          newest = ap (newest_with us) h.newest;
          top = h.top;
          lower = h.lower;
          words = h.words;
          waits = h.waits;
        }

-- ---- where its first statement begins

-- there is room above it, and nothing waits in its words
record Room {program : Y.Program} (m : Main program) (input : List ℕ) (acts : ℕ) (past : Past) : Type 0 where
  free : Free (surroundings_for m input acts) (main_past m input acts past).first most_activations
  words : free.layer.words ≡ statements_set (list_of m)
  clear : (n : ℕ) → free.layer.waits n ≡ None

main_free :
    {program : Y.Program} (m : Main program) (input : List ℕ) (acts : ℕ) (past : Past) → Room m input acts past
main_free {program} m input acts past =
    let start = main_begun m input acts in
    let φ = main_layer m input acts in
    let e = environment_for program m.head in
    let xs = words_in e in
    let serial = start.state.serials + 1 in
    let ds = variables_of_block program m.head.number in
    let spot = fixed_size m.head.level 0 in
    let plain = block_plain program.variables m.head.number m.plain in
    let room = free m input acts in
    let counts = words_count image_parts start φ e spot 0 ds plain.plain
    (record { activation = _; below = _; active = refl; some = omega arith }) in
    let lower = words_lower image_parts serial φ xs in
    let at = words_at image_parts serial φ xs in
    let place = room.here in
    let few = plain.room in
    let level = level_of m in
    let words = own_words m in
    let waiting = m.waiting in
    let k0 = block_for m input acts in
    let l = past_layered past k0.first (layer_behind_all m input acts) [] room.newest in
    let top' = l.top in
    let lower' = l.lower in
    let even = room.even in
    let living = ap automatic_in_use (past_living past k0.first) in
    let same = past_same past k0.first in
    record {
      free = record {
        layer = l.layer;
        below = [];
        newest = l.newest;
        even = omega (arith, even, top');
        under = omega (arith, lower, lower');
        low = subst (λ n. n ≤ (surroundings_for m input acts).parts.stack_start) (sym same.low) room.low;
        used = omega (arith, counts, few, living);
        fits = omega (arith, words, waiting, level, place, at, lower, counts, top', lower', living);
      };
      words = l.words ∙ after_words serial φ xs ∙ own_words m;
      clear = λ n. ap (λ waits. waits n) (l.waits ∙ after_waits serial φ xs);
    }

abbrev pub plain_home : (input : List ℕ) → (acts : ℕ) → Past → Home
plain_home input acts past = record { input = input; acts = acts; past = past; layers = λ ls. ls }

pub home_is :
    {program : Y.Program} (m : Main program) (input : List ℕ) (acts : ℕ) (past : Past) → acts + 1 < 2 ^ 64 →
    IsBegun (block_for m input acts) → AreBy (ons_of m) past →
    (is : IsHome' m (plain_home input acts past)) × ((n : ℕ) → is.free.layer.waits n ≡ None)
home_is {program} m input acts past few b known =
    let k0 = block_for m input acts in
    let room = main_free m input acts past in
    let like = past_like past k0.first in (
      record {
        few = few;
        first = b;
        known = known;
        begun = past_begun k0 (ons_of m) past (ons_placed m) known b;
        numbers = λ x is. past_number k0 past x refl (main_number m input acts x (own_known m input acts x is) b);
        arrays = λ x is. past_array k0 past x (grid_known (main_scope m false) x) refl
            (main_array m input acts x is b);
        narrows = λ x is.
            past_narrow k0 past x (type_known (main_scope m false) x) refl (main_narrow m input acts x is b);
        free = room.free;
        words = room.words;
        ends = like.top ∙ main_top m input acts
            ∙ ap (λ n. n + frame_end image_parts program m.head.number m.head.level) (sym like.frame);
      },
      room.clear,
    )

-- ---- while limits of loops wait in words of its frame

abbrev pub told_home : Home → (waits : ℕ → Option ℕ) → Layer → List Layer → Home
told_home h waits φ φs = record h { layers = λ ls. with_waits waits φ ∷ φs }

pub home_told :
    {program : Y.Program} {m : Main program} {h : Home} (is : IsHome' m h) (waits : ℕ → Option ℕ) →
    IsHome' m (told_home h waits is.free.layer is.free.below)
home_told {program} {m} {h} is waits =
    let φ = is.free.layer in
    let φs = is.free.below in
    let k = home_block m h in
    let free = is.free in
    record {
      few = is.few;
      first = is.first;
      known = is.known;
      begun = begun_telling k φ φs waits free.newest is.begun;
      numbers = λ x h. number_told k φ φs waits free.newest x (is.numbers x h);
      arrays = λ x h. array_told k φ φs waits free.newest x (grid_known (main_scope m false) x) (is.arrays x h);
      narrows = λ x h. narrow_told k φ φs waits free.newest x (type_known (main_scope m false) x) (is.narrows x h);
      free = record {
        layer = with_waits waits φ;
        below = φs;
        newest = refl;
        even = free.even;
        under = free.under;
        low = free.low;
        used = free.used;
        fits = free.fits;
      };
      words = is.words;
      ends =
          subst (λ ls. upper_top image_parts ls
          ≡ frame_under image_parts ls + frame_end image_parts program m.head.number m.head.level) free.newest is.ends;
    }
