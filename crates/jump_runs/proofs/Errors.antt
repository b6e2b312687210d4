-- No unit of a list is for ERROR: then none is in force behind it, if none was before.
use Rattle.std.proofs.Common.{◌≡◌, ℕ, List, [], ◌∷◌, Option, Some, None, Bool, true, false, inl, inr}
use Rattle.std.proofs.Common.{refl, sym, ap, subst}
use Rattle.std.specs.Prelude.{cond}
use Rattle.pli_language.specs.declared.condition.Condition.{Condition}
use Rattle.pli_language.specs.declared.condition.Condition.TheVariants as C
use Rattle.pli_typing.specs.TypedTree as Y
use Rattle.pli_meaning.specs.StorageState.{Activation, BlockUnit, OnUnit, SystemUnit, established, first_unit, force}
use Rattle.pli_meaning.specs.StorageState.{same_condition, unit_for, without_unit}
use Rattle.activation_relation.specs.ServiceLaws.{IsSystem}
use Rattle.program_runs.specs.Statements.{Block}
use Rattle.unit_runs.specs.Changing.{IsPast, Past, StandsIn, past_point}
use Rattle.unit_runs.specs.Establishing as E
use Rattle.unit_runs.specs.Signals.{IsResumed}
use Rattle.jump_runs.specs.Functions.{AreResumed, IsResumedOn}

-- ---- a unit for another condition

not_error : (c : Condition) → IsResumed c → same_condition c C.Error ≡ false
not_error C.Area h = refl
not_error C.FixedOverflow h = refl
not_error C.ZeroDivide h = refl
not_error C.Endfile h = refl
not_error C.Error h = absurd h

other_error : (c d : Condition) → IsResumed c → same_condition d c ≡ true → same_condition d C.Error ≡ false
other_error c C.Area h e = refl
other_error c C.FixedOverflow h e = refl
other_error c C.ZeroDivide h e = refl
other_error c C.Endfile h e = refl
other_error C.Area C.Error h e = absurd (cc e)
other_error C.FixedOverflow C.Error h e = absurd (cc e)
other_error C.ZeroDivide C.Error h e = absurd (cc e)
other_error C.Endfile C.Error h e = absurd (cc e)
other_error C.Error C.Error h e = absurd h

without_other :
    (c : Condition) (us : List (Condition × OnUnit)) → IsResumed c →
    unit_for (without_unit c us) C.Error ≡ unit_for us C.Error
without_other c [] h = refl
without_other c (u ∷ us) h = by (same_condition u.0 c) refl (without_other c us h)
  where
    by :
        (q : Bool) → same_condition u.0 c ≡ q → unit_for (without_unit c us) C.Error ≡ unit_for us C.Error →
        unit_for (cond q us (u ∷ without_unit c us)) C.Error ≡ unit_for (u ∷ us) C.Error
    by true e rest = sym (ap (λ q. cond q (Some u.1) (unit_for us C.Error)) (other_error c u.0 h e))
    by false e rest = ap (λ o. cond (same_condition u.0 C.Error) (Some u.1) o) rest

-- whoever has the unit
same_system :
    (a b : Activation) (o : Option OnUnit) (further : Option (Activation × OnUnit)) →
    IsSystem (first_unit a o further) → IsSystem (first_unit b o further)
same_system a b None further h = h
same_system a b (Some SystemUnit) further h = tt
same_system a b (Some (BlockUnit block)) further h = absurd h

established_system :
    (c : Condition) (u : OnUnit) (as' : List Activation) → IsResumed c → IsSystem (force as' C.Error) →
    IsSystem (force (established c u as') C.Error)
established_system c u [] h is = is
established_system c u (a ∷ as') h is =
    let b = record a { units = (c, u) ∷ without_unit c a.units } in
    let further = force as' C.Error in
    subst (λ q. IsSystem (first_unit b (cond q (Some u) (unit_for (without_unit c a.units) C.Error)) further))
    (sym (not_error c h))
    (subst (λ o. IsSystem (first_unit b o further)) (sym (without_other c a.units h))
    (same_system a b (unit_for a.units C.Error) further is))

-- ---- behind a list

stands_resumed :
    (k : Block) (body : Y.Stmts) (index : ℕ) (e : E.OnUnit × ℕ) → AreResumed body → StandsIn k body index e →
    IsResumed e.0.condition
stands_resumed k (Y.EndOfList own) index e h s = absurd s
stands_resumed k (Y.StmtThen own first rest) index e h (inl at) = subst IsResumedOn at.0 h.0
stands_resumed k (Y.StmtThen own first rest) index e h (inr later) = stands_resumed k rest _ e h.1 later

pub past_system :
    (k : Block) (body : Y.Stmts) (index : ℕ) (past : Past) → AreResumed body → IsPast k body index past →
    IsSystem (force k.first.state.activations C.Error) →
    IsSystem (force (past_point past k.first).state.activations C.Error)
past_system k body index [] h known is = is
past_system k body index (e ∷ past) h known is =
    established_system e.0.condition (BlockUnit (E.unit_of e.0)) (past_point past k.first).state.activations
    (stands_resumed k body index e h known.1) (past_system k body index past h known.2 is)
