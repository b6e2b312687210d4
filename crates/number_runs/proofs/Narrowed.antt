-- Assignments to scalars of other types.
use Rattle.std.proofs.Common.{◌≡◌, ◌⊎◌, inl, inr, ℕ, ◌≤◌, List, [], true, refl, sym, subst, arith}
use Rattle.std.specs.Prelude.{◌&&◌, ◌||◌, max, nat_lt, suc}
use Rattle.std.proofs.lemmas.Bool.{and_parts, ltb-true, or_cases}
use Rattle.pli_typing.specs.TypedTree as Y
use Rattle.pli_meaning.specs.Control.{Label}
use Rattle.expression_runs.specs.Assignments.{setting_around}
use Rattle.expression_runs.specs.Variables.{whole}
use Rattle.scalar_runs.specs.Scalars.{IsBit, IsFixed, IsScalar}
use Rattle.scalar_runs.proofs.Assignments.{bit_assigned, number_assigned}
use Rattle.scalar_runs.proofs.Fitting.{fewer_fits}
use Rattle.number_runs.specs.Knowledge.{HasFrame, Includes}
use Rattle.number_runs.specs.Narrow.{has_precision, is_bit, is_narrow_type, is_text_type}
use Rattle.number_runs.specs.Numbers.{is_narrow_with, is_number, is_test, number_needs, number_sets, reference_needs}
use Rattle.number_runs.specs.Numbers.{reference_sets, test_needs, test_sets, type_known, is_text, text_needs}
use Rattle.number_runs.specs.Numbers.{without_given, is_item}
use Rattle.number_runs.specs.Statements.{behind_sets, is_line, is_narrowed, stored_needs, stored_sets, behind_stored}
use Rattle.number_runs.proofs.Expressions.{number_does, test_does, text_does}
use Rattle.number_runs.proofs.Items.{bit_item, number_item}
use Rattle.number_runs.proofs.Homes.{Coded, Home, act_of, knows, lists_at, paid_for}
use Rattle.number_runs.proofs.Narrow.{bit_is, known_narrow, narrow_with_is, precision_is, text_known, text_type_is}
use Rattle.number_runs.proofs.PointedAssignments.{pointed_assigned}
use Rattle.text_values.proofs.Assignments.{text_assign_does}
use Rattle.number_runs.proofs.Waiting.{bare, numbers_without}

-- a number into one of so many bits: it is tested
number_narrowed :
    (h : Home) (labels : List Label) (target : Y.Reference) (precision : ℕ) (x : Y.Number) (line index : ℕ) →
    Includes h.own labels → is_line line ≡ true → h.scope.overflows ≡ true →
    is_narrow_with h.scope (has_precision precision) target ≡ true → is_number h.scope x ≡ true →
    max (number_needs x) 1 ≤ h.block.registers → {n : ℕ} → number_sets x ≤ n → HasFrame h.ready h.words n →
    Coded h labels (Y.Assign target (Y.StoredNumber precision x) line) index
number_narrowed h labels target precision x line index includes is may one two fits {n = n} few sets =
    let s = h.scope in
    let w = narrow_with_is s (has_precision precision) target one in
    let t = precision_is precision (type_known s w.spot) w.passes in
    let narrow = subst (λ u. is_narrow_type u ≡ true) t (known_narrow s w.spot w.known) in
    let less = ltb-true precision 31 (and_parts (nat_lt 0 precision) (nat_lt precision 31) narrow).1 in
    let fixed : IsFixed h.block w.spot precision =
    subst (λ u. IsScalar h.block w.spot u) t (h.ready.narrows w.may w.spot w.known) in
    let k = setting_around h.words h.block labels line h.most in
    let knows' = knows h labels line includes in
    subst (λ r. Coded h labels (Y.Assign r (Y.StoredNumber precision x) line) index) (sym w.is)
    (λ l. number_assigned h.words h.block labels w.spot precision x line index h.left' (max (number_needs x) 1) h.most
    (record {
      act = act_of h line is;
      begun = h.ready.begun;
      registers = fits;
      held = h.ready.held;
      statement = l;
      paid = paid_for h (Y.Assign (whole w.spot) (Y.StoredNumber precision x) line) index l;
    })
    fixed (fewer_fits k x precision (number_needs x) less (knows'.overflow may)
    (number_does s k x knows' two (lists_at h labels line includes (number_sets x) n few sets))))

-- a bit into a bit
bit_narrowed :
    (h : Home) (labels : List Label) (target : Y.Reference) (x : Y.Bit) (line index : ℕ) → Includes h.own labels →
    is_line line ≡ true → is_narrow_with h.scope is_bit target ≡ true → is_test h.scope x ≡ true →
    test_needs x ≤ h.block.registers → {n : ℕ} → test_sets x ≤ n → HasFrame h.ready h.words n →
    Coded h labels (Y.Assign target (Y.StoredBit x) line) index
bit_narrowed h labels target x line index includes is one two fits {n = n} few sets =
    let s = h.scope in
    let w = narrow_with_is s is_bit target one in
    let bit : IsBit h.block w.spot =
    subst (λ u. IsScalar h.block w.spot u) (bit_is (type_known s w.spot) w.passes)
    (h.ready.narrows w.may w.spot w.known) in
    let k = setting_around h.words h.block labels line h.most in
    subst (λ r. Coded h labels (Y.Assign r (Y.StoredBit x) line) index) (sym w.is)
    (λ l. bit_assigned h.words h.block labels w.spot x line index h.left' (test_needs x) h.most
    (record {
      act = act_of h line is;
      begun = h.ready.begun;
      registers = fits;
      held = h.ready.held;
      statement = l;
      paid = paid_for h (Y.Assign (whole w.spot) (Y.StoredBit x) line) index l;
    })
    bit
    (test_does s k x (knows h labels line includes) two (lists_at h labels line includes (test_sets x) n few sets)))

-- a text into a text: it is cut, or padded
text_narrowed :
    (h : Home) (labels : List Label) (target : Y.Reference) (x : Y.Text) (line index : ℕ) → Includes h.own labels →
    is_line line ≡ true → h.scope.texts ≡ true → is_narrow_with h.scope is_text_type target ≡ true →
    is_text (without_given h.scope) x ≡ true → text_needs x ≤ h.block.registers →
    Coded h labels (Y.Assign target (Y.StoredText x) line) index
text_narrowed h labels target x line index includes is may one two fits =
    let s = h.scope in
    let w = narrow_with_is s is_text_type target one in
    let t = text_type_is (type_known s w.spot) w.passes in
    let k = setting_around h.words h.block labels line h.most in
    subst (λ r. Coded h labels (Y.Assign r (Y.StoredText x) line) index) (sym w.is)
    (λ l. text_assign_does h.words h.block labels w.spot t.varying t.length x line index h.left' (text_needs x) h.most
    (record {
      act = act_of h line is;
      begun = h.ready.begun;
      text = text_known h.block w.spot (type_known s w.spot) t (h.ready.narrows w.may w.spot w.known);
      registers = fits;
      held = h.ready.held;
      statement = l;
      paid = paid_for h (Y.Assign (whole w.spot) (Y.StoredText x) line) index l;
    })
    (text_does [] (without_given s) k x (numbers_without (knows h labels line includes)) (bare h.scope) may two))

-- a variable or an element
either_number :
    (h : Home) (labels : List Label) (target : Y.Reference) (precision : ℕ) (x : Y.Number) (line index : ℕ) →
    Includes h.own labels → is_line line ≡ true → h.scope.overflows ≡ true →
    (is_narrow_with h.scope (has_precision precision) target ≡ true)
    ⊎ (is_item h.scope (has_precision precision) target ≡ true) → is_number h.scope x ≡ true →
    max (number_needs x) (suc (reference_needs target)) ≤ h.block.registers →
    HasFrame h.ready h.words (max (number_sets x) (reference_sets target)) →
    Coded h labels (Y.Assign target (Y.StoredNumber precision x) line) index
either_number h labels target precision x line index includes is may (inl one) two fits sets =
    number_narrowed h labels target precision x line index includes is may one two (omega (arith, fits))
    {n = max (number_sets x) (reference_sets target)} (omega arith) sets
either_number h labels target precision x line index includes is may (inr one) two fits sets =
    number_item h labels target precision x line index includes is may one two fits sets

either_bit :
    (h : Home) (labels : List Label) (target : Y.Reference) (x : Y.Bit) (line index : ℕ) → Includes h.own labels →
    is_line line ≡ true →
    (is_narrow_with h.scope is_bit target ≡ true) ⊎ (is_item h.scope is_bit target ≡ true) →
    is_test h.scope x ≡ true → max (test_needs x) (suc (reference_needs target)) ≤ h.block.registers →
    HasFrame h.ready h.words (max (test_sets x) (reference_sets target)) →
    Coded h labels (Y.Assign target (Y.StoredBit x) line) index
either_bit h labels target x line index includes is (inl one) two fits sets =
    bit_narrowed h labels target x line index includes is one two (omega (arith, fits))
    {n = max (test_sets x) (reference_sets target)} (omega arith) sets
either_bit h labels target x line index includes is (inr one) two fits sets =
    bit_item h labels target x line index includes is one two fits sets

pub narrowed_does :
    (h : Home) (labels : List Label) (target : Y.Reference) (source : Y.Stored) (line index : ℕ) →
    Includes h.own labels → is_line line ≡ true → is_narrowed h.scope target source ≡ true →
    max (stored_needs source) (behind_stored source (reference_needs target)) ≤ h.block.registers →
    HasFrame h.ready h.words (max (stored_sets source) (behind_sets source (reference_sets target))) →
    Coded h labels (Y.Assign target source line) index
narrowed_does h labels target (Y.StoredNumber precision x) line index includes is one fits sets =
    let test = has_precision precision in
    let narrow = is_narrow_with h.scope test target || is_item h.scope test target in
    let a = and_parts h.scope.overflows (narrow && is_number h.scope x) one in
    let b = and_parts narrow (is_number h.scope x) a.1 in
    either_number h labels target precision x line index includes is a.0
    (or_cases (is_narrow_with h.scope test target) (is_item h.scope test target) b.0) b.1 (omega (arith, fits))
    sets
narrowed_does h labels target (Y.StoredBit x) line index includes is one fits sets =
    let narrow = is_narrow_with h.scope is_bit target || is_item h.scope is_bit target in
    let a = and_parts narrow (is_test h.scope x) one in
    either_bit h labels target x line index includes is
    (or_cases (is_narrow_with h.scope is_bit target) (is_item h.scope is_bit target) a.0) a.1 (omega (arith, fits))
    sets
narrowed_does h labels target (Y.StoredText x) line index includes is one fits sets =
    let g = without_given h.scope in
    let a = and_parts h.scope.texts (is_narrow_with h.scope is_text_type target && is_text g x) one in
    let b = and_parts (is_narrow_with h.scope is_text_type target) (is_text g x) a.1 in
    text_narrowed h labels target x line index includes is a.0 b.0 b.1 (omega (arith, fits))
narrowed_does h labels target (Y.StoredPointer x) line index includes is one fits sets =
    pointed_assigned h labels target x line index includes is one sets
narrowed_does h labels target (Y.StoredOffset x) line index includes is one fits sets = absurd (cc one)
