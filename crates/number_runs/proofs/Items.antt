-- Assignments to elements of any type.
use Rattle.std.proofs.Common.{◌≡◌, ◌⊎◌, inl, inr, ℕ, ◌<◌, ◌≤◌, List, true, sym, subst, arith}
use Rattle.std.specs.Prelude.{◌&&◌, max, suc}
use Rattle.std.proofs.lemmas.Bool.{and_parts, cases_lt}
use Rattle.pli_typing.specs.TypedTree as Y
use Rattle.pli_coding.specs.Expressions.{given_in}
use Rattle.pli_meaning.specs.Control.{Label}
use Rattle.expression_runs.specs.Assignments.{setting_around}
use Rattle.expression_runs.specs.Laws.{Does}
use Rattle.expression_runs.specs.Values.{OverflowComes, Setting}
use Rattle.scalar_runs.specs.Fitted.{Fits}
use Rattle.scalar_runs.proofs.Fitting.{all_fits, fewer_fits}
use Rattle.array_runs.specs.Arrays.{IsElementType, element}
use Rattle.array_runs.proofs.Assignments as A
use Rattle.number_runs.specs.Knowledge.{HasFrame, Includes}
use Rattle.number_runs.specs.Narrow.{has_precision, is_bit}
use Rattle.number_runs.specs.Numbers.{are_numbers, grid_known, is_element, is_item, is_number, is_test, number_needs}
use Rattle.number_runs.specs.Numbers.{number_sets, numbers_set, reference_needs, reference_sets, subscripts_need}
use Rattle.number_runs.specs.Numbers.{test_needs, test_sets}
use Rattle.number_runs.specs.Statements.{is_line}
use Rattle.number_runs.proofs.Arrays.{element_is, known_element}
use Rattle.number_runs.proofs.Expressions.{more_registers, number_does, subscripts_do, test_does}
use Rattle.number_runs.proofs.Homes.{Coded, Home, act_of, knows, lists_at, paid_for}
use Rattle.number_runs.proofs.Narrow.{bit_is, precision_is}

-- a number on its way into an element of 31 bits or fewer
precision_fits :
    (k : Setting) (x : Y.Number) (precision need : ℕ) → precision ≤ 31 → OverflowComes k → Does k need x →
    Fits k (max need 1) precision x
precision_fits k x precision need few raises does = by (cases_lt precision 31)
  where
    by : (precision < 31) ⊎ (31 ≤ precision) → Fits k (max need 1) precision x
    by (inl less) = fewer_fits k x precision need less raises does
    by (inr most) =
        let same : 31 ≡ precision = omega (arith, few, most) in
        subst (λ n. Fits k (max need 1) n x) same
        (all_fits k x (max need 1) (more_registers k need (max need 1) x (omega arith) does))

pub number_item :
    (h : Home) (labels : List Label) (target : Y.Reference) (precision : ℕ) (x : Y.Number) (line index : ℕ) →
    Includes h.own labels → is_line line ≡ true → h.scope.overflows ≡ true →
    is_item h.scope (has_precision precision) target ≡ true → is_number h.scope x ≡ true →
    max (number_needs x) (suc (reference_needs target)) ≤ h.block.registers →
    HasFrame h.ready h.words (max (number_sets x) (reference_sets target)) →
    Coded h labels (Y.Assign target (Y.StoredNumber precision x) line) index
number_item h labels (Y.Referring v Y.NotLocated part (Y.NumberThen first rest)) precision x line index includes is may
    one two fits sets =
    let s = h.scope in
    let xs = Y.NumberThen first rest in
    let test = has_precision precision in
    let a = and_parts (is_element s test v part (suc (given_in rest))) (is_number s first && are_numbers s rest) one in
    let t = element_is s test v part xs a.0 in
    let g = grid_known s t.spot in
    let type = precision_is precision g.type t.passes in
    let few : precision ≤ 31 = subst IsElementType type (known_element s t.spot t.known) in
    let need = max (number_needs x) 1 in
    let second = suc (subscripts_need xs) in
    let all = max (number_sets x) (max 0 (numbers_set xs)) in
    let k = setting_around h.words h.block labels line h.most in
    let knows' = knows h labels line includes in
    subst (λ r. Coded h labels (Y.Assign r (Y.StoredNumber precision x) line) index) (sym t.is)
    (λ l. A.number_stored h.words h.block labels t.spot g precision xs x line index h.left' need second h.most
    (record {
      act = act_of h line is;
      begun = h.ready.begun;
      registers = omega (arith, fits);
      held = h.ready.held;
      statement = l;
      paid = paid_for h (Y.Assign (element t.spot xs) (Y.StoredNumber precision x) line) index l;
    })
    (h.ready.arrays t.may t.spot t.known) type (knows'.subscript t.may)
    (precision_fits k x precision (number_needs x) few (knows'.overflow may) (number_does s k x knows' two
    (lists_at h labels line includes (number_sets x) all (omega arith) sets)))
    (subscripts_do s k xs knows' a.1
    (lists_at h labels line includes (numbers_set xs) all (omega arith) sets) g.bounds 1 second t.many (omega arith)))
number_item h labels (Y.Referring v Y.NotLocated part Y.NoNumber) precision x line index includes is may one two fits
    sets =
    absurd (cc one)
number_item h labels (Y.Referring v (Y.LocatedBy p) part subscripts) precision x line index includes is may one two fits
    sets =
    absurd (cc one)

pub bit_item :
    (h : Home) (labels : List Label) (target : Y.Reference) (x : Y.Bit) (line index : ℕ) → Includes h.own labels →
    is_line line ≡ true → is_item h.scope is_bit target ≡ true → is_test h.scope x ≡ true →
    max (test_needs x) (suc (reference_needs target)) ≤ h.block.registers →
    HasFrame h.ready h.words (max (test_sets x) (reference_sets target)) →
    Coded h labels (Y.Assign target (Y.StoredBit x) line) index
bit_item h labels (Y.Referring v Y.NotLocated part (Y.NumberThen first rest)) x line index includes is one two fits
    sets =
    let s = h.scope in
    let xs = Y.NumberThen first rest in
    let a = and_parts (is_element s is_bit v part (suc (given_in rest))) (is_number s first && are_numbers s rest)
    one in
    let t = element_is s is_bit v part xs a.0 in
    let g = grid_known s t.spot in
    let second = suc (subscripts_need xs) in
    let all = max (test_sets x) (max 0 (numbers_set xs)) in
    let k = setting_around h.words h.block labels line h.most in
    let knows' = knows h labels line includes in
    subst (λ r. Coded h labels (Y.Assign r (Y.StoredBit x) line) index) (sym t.is)
    (λ l. A.bit_stored h.words h.block labels t.spot g xs x line index h.left' (test_needs x) second h.most
    (record {
      act = act_of h line is;
      begun = h.ready.begun;
      registers = fits;
      held = h.ready.held;
      statement = l;
      paid = paid_for h (Y.Assign (element t.spot xs) (Y.StoredBit x) line) index l;
    })
    (h.ready.arrays t.may t.spot t.known) (bit_is g.type t.passes) (knows'.subscript t.may)
    (test_does s k x knows' two (lists_at h labels line includes (test_sets x) all (omega arith) sets))
    (subscripts_do s k xs knows' a.1
    (lists_at h labels line includes (numbers_set xs) all (omega arith) sets) g.bounds 1 second t.many (omega arith)))
bit_item h labels (Y.Referring v Y.NotLocated part Y.NoNumber) x line index includes is one two fits sets =
    absurd (cc one)
bit_item h labels (Y.Referring v (Y.LocatedBy p) part subscripts) x line index includes is one two fits sets =
    absurd (cc one)
