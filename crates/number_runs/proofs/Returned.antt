-- RETURN with a number of 31 bits, or of fewer, which is tested.
use Rattle.std.proofs.Common.{◌≡◌, ◌⊎◌, inl, inr, ℕ, ◌≤◌, List, true, sym, subst, arith}
use Rattle.std.specs.Prelude.{◌&&◌, max}
use Rattle.std.proofs.lemmas.Bool.{and_parts}
use Rattle.pli_typing.specs.TypedTree as Y
use Rattle.pli_meaning.specs.Control.{Label}
use Rattle.expression_runs.specs.Assignments.{setting_around}
use Rattle.scalar_runs.proofs.Fitting.{fewer_fits}
use Rattle.result_runs.specs.Results.{fitted_return}
use Rattle.result_runs.proofs.Returning.{number_returned}
use Rattle.number_runs.specs.Knowledge.{HasFrame, Includes}
use Rattle.number_runs.specs.Numbers.{is_fixed, number_needs, number_sets}
use Rattle.number_runs.specs.Statements.{is_fewer, is_line, is_stored, stored_needs, stored_sets}
use Rattle.number_runs.proofs.Expressions.{number_does}
use Rattle.number_runs.proofs.Fewer.{fewer_parts}
use Rattle.number_runs.proofs.Homes.{Coded, Home, act_of, knows, lists_at, paid_for, returned_does}

fewer_does :
    (h : Home) (labels : List Label) (type : Y.LeafType) (precision : ℕ) (x : Y.Number) (line index : ℕ) →
    Includes h.own labels → is_line line ≡ true → h.scope.own ≡ true → h.scope.returns ≡ true → h.valued ≡ true →
    is_fewer h.scope type (Y.StoredNumber precision x) ≡ true → max (number_needs x) 1 ≤ h.block.registers →
    HasFrame h.ready h.words (number_sets x) →
    Coded h labels (Y.ReturnValue type (Y.StoredNumber precision x) line) index
fewer_does h labels type precision x line index includes is own may valued one fits sets =
    let s = h.scope in
    let w = fewer_parts s type precision x one in
    let less = w.less in
    let v = (h.ready.home own).values may valued in
    let k = setting_around h.words h.block labels line h.most in
    let knows' = knows h labels line includes in
    subst (λ t. Coded h labels (Y.ReturnValue t (Y.StoredNumber precision x) line) index) (sym w.type_is)
    (λ l. number_returned h.words h.block labels precision 31 x line index h.left' (max (number_needs x) 1) h.most
    (omega (arith, less)) (omega arith)
    (record {
      act = act_of h line is;
      begun = h.ready.begun;
      owner = v.owner;
      end = v.end;
      near = v.near;
      enough = v.enough;
      function = v.function;
      registers = fits;
      held = h.ready.held;
      begin = v.kind;
      saved = v.saved;
      statement = l;
      paid = paid_for h (fitted_return precision x line) index l;
    })
    (fewer_fits k x precision (number_needs x) less (knows'.overflow w.may)
    (number_does s k x knows' w.number (lists_at h labels line includes (number_sets x) (number_sets x) (omega arith)
    sets))))

pub each_returned :
    (h : Home) (labels : List Label) (type : Y.LeafType) (source : Y.Stored) (line index : ℕ) →
    Includes h.own labels → is_line line ≡ true → h.scope.own ≡ true → h.scope.returns ≡ true → h.valued ≡ true →
    ((is_fixed type && is_stored h.scope source) ≡ true) ⊎ (is_fewer h.scope type source ≡ true) →
    max (stored_needs source) 1 ≤ h.block.registers → HasFrame h.ready h.words (stored_sets source) →
    Coded h labels (Y.ReturnValue type source line) index
each_returned h labels type source line index includes is own may valued (inl one) fits sets =
    let a = and_parts (is_fixed type) (is_stored h.scope source) one in
    returned_does h labels type source line index includes is own may valued a.0 a.1 (omega (arith, fits)) sets
each_returned h labels type (Y.StoredNumber precision x) line index includes is own may valued (inr one) fits sets =
    fewer_does h labels type precision x line index includes is own may valued one fits sets
each_returned h labels type (Y.StoredText x) line index includes is own may valued (inr one) fits sets = absurd (cc one)
each_returned h labels type (Y.StoredBit x) line index includes is own may valued (inr one) fits sets = absurd (cc one)
each_returned h labels type (Y.StoredPointer x) line index includes is own may valued (inr one) fits sets =
    absurd (cc one)
each_returned h labels type (Y.StoredOffset x) line index includes is own may valued (inr one) fits sets = absurd (cc
    one)
