-- What a block of a program of the class knows where it writes: no unit is in force, and its static data stand.
use Rattle.std.proofs.Common.{◌≡◌, ◌⊎◌, inl, inr, ℕ, ◌+◌, ◌*◌, ◌≤◌, None, Some, true, refl, sym, subst, arith}
use Rattle.std.specs.Prelude.{◌&&◌, ◌||◌, nat_le}
use Rattle.std.proofs.lemmas.Bool.{and_parts, leb-true, or_cases, or_left, or_right}
use Rattle.pli_language.specs.Formats.{format_moves_data, formats_move_data, is_times}
use Rattle.pli_language.specs.Tree as T
use Rattle.pli_typing.specs.TypedTree as Y
use Rattle.pli_coding.specs.Assembly.{ConstantBytes, DataPlace, RaiseError}
use Rattle.pli_coding.specs.Images.{picture_of}
use Rattle.pli_coding.specs.Linking.{place_of}
use Rattle.pli_coding.specs.Streams.{has_fixed, has_text, is_fixed, is_text}
use Rattle.code_marks.specs.CodeMarks.{MarkedOnce}
use Rattle.program_places.specs.Programs.{IsLoadable, links_for}
use Rattle.program_places.proofs.Procedures.{error_place, raise_routines, routines_at}
use Rattle.program_runs.specs.Statements.{Block}
use Rattle.pli_headline.specs.Headline.{FitsMemory, parts}
use Rattle.pli_headline.specs.ProvedSoFar.{AreProvedFormats, HasData, HasFormat, IsProvedFormat}
use Rattle.run_steps.specs.DataNamed.{IsPlaced}
use Rattle.program_runs.specs.Constants.{HasConstants}
use Rattle.block_headlines.specs.Constants.{IsOf}
use Rattle.block_headlines.proofs.Constants.{bytes_known}
use Rattle.edit_headlines.proofs.Formats.{list_placed}
use Rattle.number_runs.specs.Knowledge.{KnowsConstants, KnowsLists}
use Rattle.number_runs.specs.Puts.{are_formats, has_format, is_format}

-- ---- format lists

in_range : (n most : ℕ) → nat_le 1 n && nat_le n most ≡ true → (1 ≤ n) × (n ≤ most)
in_range n most h =
    let a = and_parts (nat_le 1 n) (nat_le n most) h in
    (leb-true 1 n a.0, leb-true n most a.1)

some_format : (fs : T.Formats) → has_format fs ≡ true → HasFormat fs
some_format T.NoFormat h = absurd (cc h)
some_format (T.FormatThen place n first rest) h = tt

mutual
  formats_proved : (fs : T.Formats) → are_formats fs ≡ true → AreProvedFormats fs
  formats_proved T.NoFormat h = tt
  formats_proved (T.FormatThen place n first rest) h =
      let a = and_parts (is_times n) (is_format first && are_formats rest) h in
      let b = and_parts (is_format first) (are_formats rest) a.1 in
      (in_range n 1000 a.0, (format_proved first b.0, formats_proved rest b.1))

  format_proved : (f : T.Format) → is_format f ≡ true → IsProvedFormat f
  format_proved (T.FormatList fs) h =
      let a = and_parts (has_format fs) (are_formats fs) h in
      (formats_proved fs a.1, some_format fs a.0)
  format_proved (T.FixedFormat width) h = in_range width 1024 h
  format_proved (T.TextFormat None) h = tt
  format_proved (T.TextFormat (Some width)) h = in_range width 1024 h
  format_proved (T.SpaceFormat n) h = in_range n 1000 h
  format_proved (T.SkipFormat n) h = in_range n 1000 h
  format_proved (T.ColumnFormat n) h = in_range n 1000 h

mutual
  unfolding formats_move_data format_moves_data

  formats_move : (fs : T.Formats) → (has_fixed fs ≡ true) ⊎ (has_text fs ≡ true) → HasData fs
  formats_move T.NoFormat (inl h) = absurd (cc h)
  formats_move T.NoFormat (inr h) = absurd (cc h)
  formats_move (T.FormatThen place n first rest) (inl h) =
      by (or_cases (is_fixed first) (has_fixed rest) h) (λ e. format_moves first (inl e))
      (λ e. formats_move rest (inl e))
    where
      by :
          (is_fixed first ≡ true) ⊎ (has_fixed rest ≡ true) →
          (is_fixed first ≡ true → format_moves_data first ≡ true) → (has_fixed rest ≡ true → HasData rest) →
          (format_moves_data first || formats_move_data rest) ≡ true
      by (inl e) one more = or_left (format_moves_data first) (formats_move_data rest) (one e)
      by (inr e) one more = or_right (format_moves_data first) (formats_move_data rest) (more e)
  formats_move (T.FormatThen place n first rest) (inr h) =
      by (or_cases (is_text first) (has_text rest) h) (λ e. format_moves first (inr e))
      (λ e. formats_move rest (inr e))
    where
      by :
          (is_text first ≡ true) ⊎ (has_text rest ≡ true) →
          (is_text first ≡ true → format_moves_data first ≡ true) → (has_text rest ≡ true → HasData rest) →
          (format_moves_data first || formats_move_data rest) ≡ true
      by (inl e) one more = or_left (format_moves_data first) (formats_move_data rest) (one e)
      by (inr e) one more = or_right (format_moves_data first) (formats_move_data rest) (more e)

  format_moves : (f : T.Format) → (is_fixed f ≡ true) ⊎ (is_text f ≡ true) → format_moves_data f ≡ true
  format_moves (T.FormatList fs) h = formats_move fs h
  format_moves (T.FixedFormat width) h = refl
  format_moves (T.TextFormat width) h = refl
  format_moves (T.SpaceFormat n) (inl h) = absurd (cc h)
  format_moves (T.SpaceFormat n) (inr h) = absurd (cc h)
  format_moves (T.SkipFormat n) (inl h) = absurd (cc h)
  format_moves (T.SkipFormat n) (inr h) = absurd (cc h)
  format_moves (T.ColumnFormat n) (inl h) = absurd (cc h)
  format_moves (T.ColumnFormat n) (inr h) = absurd (cc h)

-- each that static data have stands at each point of a block
pub lists_known :
    (program : Y.Program) (k : Block) → FitsMemory (picture_of parts program) → IsOf program k → KnowsLists k
lists_known program k fits of fs fixed placed =
    let a = and_parts (are_formats fs) (has_fixed fs || has_text fs) fixed in
    list_placed program k fs fits of (formats_proved fs a.0)
    (formats_move fs (or_cases (has_fixed fs) (has_text fs) a.1)) placed

-- and so does each text constant
pub constants_known :
    (program : Y.Program) (k : Block) → FitsMemory (picture_of parts program) → IsOf program k →
    k.call.surroundings.links ≡ links_for program → KnowsConstants k
constants_known program k fits of same bytes placed =
    subst (λ w. HasConstants k (place_of w (DataPlace (ConstantBytes bytes))) bytes) (sym same)
    (bytes_known program k bytes fits of (subst (λ w. IsPlaced (ConstantBytes bytes) w.data') same placed))

-- ---- raises

pub error_routine :
    (once : MarkedOnce) (program : Y.Program) (h : IsLoadable program) →
    place_of (links_for program) RaiseError ≡ 4 * ((raise_routines once program h).at + 8)
error_routine once program h =
    let at = error_place once program h in
    let routines = routines_at once program h in
    omega (arith, at, routines)
