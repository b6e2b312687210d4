-- What is counted, where a signature is added or blocks are left.
use Rattle.std.proofs.Common.{◌≡◌, ℕ, List, [], ◌∷◌, ◌++◌, length, Option, Some, None, take, Bool, true, false, ap, subst}
use Rattle.std.specs.Prelude.{◌==◌, filter, nat_le, nat_lt, slice_get, if◌then◌else◌}
use Rattle.pli_types.specs.Templates.{Template}
use Rattle.pli_serving.specs.Answers.{Answer, Done}
use Rattle.pli_serving.specs.Arguments.{own_signature}
use Rattle.pli_serving.specs.Blocks.{ended_with, entries_left, from_frame, leave_served, left_by, oldest, return_served, returned_by, unit_left, unwind_served, unwound}
use Rattle.pli_serving.specs.Finding.{Call}
use Rattle.pli_serving.specs.Outcomes.{bad_unless, or_bad}
use Rattle.pli_serving.specs.ServiceState.{Activation, BeginBlock, BlockKind, Entry, Living, OnUnitBlock, ProcedureBlock, Services}
use Rattle.pli_serving.specs.SignatureService.{ExtentPlace, bounds_given, filled, number_of, numbered, places_at, reserved_for, signature_served, with_template}
use Rattle.pli_serving.specs.Templates.{shape_of}
use Rattle.pli_making.specs.InUse.{IsCounted}
use Rattle.pli_making.proofs.Counts.{left_counted, with_more}

added_or_not : (t : Template) (templates : List Template) (ls : List Living) (totals : List ℕ) → IsCounted templates ls totals → IsCounted (with_template t templates) ls totals
added_or_not t templates ls totals counted = by_test (number_of t templates == length templates)
  where
    by_test : (b : Bool) → IsCounted (if b then templates ++ t ∷ [] else templates) ls totals
    by_test true = with_more templates (t ∷ []) ls totals counted
    by_test false = counted

abbrev services_of : Answer → Services → Services
services_of (Done v m x y) w = v
services_of _ w = w

by_services : (a b : Services) (m n : List ℕ) (x y p q : ℕ) → Done a m x y ≡ Done b n p q → a ≡ b
by_services a b m n x y p q e = ap (λ (answer : Answer). services_of answer a) e

if_done : (u v : Services) (n m : List ℕ) (p q x y : ℕ) (totals : List ℕ) (b : Bool) → IsCounted u.signatures u.living totals → bad_unless b (Done u n p q) ≡ Done v m x y → IsCounted v.signatures v.living totals
if_done u v n m p q x y totals true counted e = subst (λ (s : Services). IsCounted s.signatures s.living totals) (by_services u v n m p q x y e) counted
if_done u v n m p q x y totals false counted e = absurd (cc)

if_filled : (c : Call) (totals : List ℕ) (v : Services) (m : List ℕ) (x y : ℕ) (o : Option Template) → IsCounted c.services.signatures c.services.living totals → or_bad o (λ t. numbered c t) ≡ Done v m x y → IsCounted v.signatures v.living totals
if_filled c totals v m x y None counted e = absurd (cc)
if_filled c totals v m x y (Some t) counted e =
    if_done (record c.services { signatures = with_template t c.services.signatures }) v c.memory m (number_of t c.services.signatures) (reserved_for c.keeper (shape_of t)) x y totals (nat_lt (number_of t c.services.signatures) own_signature)
    (added_or_not t c.services.signatures c.services.living totals counted) e

if_placed : (c : Call) (number lower upper : ℕ) (totals : List ℕ) (v : Services) (m : List ℕ) (x y : ℕ) (o : Option (List ExtentPlace)) → IsCounted c.services.signatures c.services.living totals → or_bad o (λ ps. or_bad (filled (bounds_given lower upper) ps (slice_get c.services.signatures number)) (λ t. numbered c t)) ≡ Done v m x y → IsCounted v.signatures v.living totals
if_placed c number lower upper totals v m x y None counted e = absurd (cc)
if_placed c number lower upper totals v m x y (Some ps) counted e =
    if_filled c totals v m x y (filled (bounds_given lower upper) ps (slice_get c.services.signatures number)) counted e

pub still_counted : (c : Call) (number places lower upper : ℕ) (totals : List ℕ) (v : Services) (m : List ℕ) (x y : ℕ) → IsCounted c.services.signatures c.services.living totals → signature_served c number places lower upper ≡ Done v m x y → IsCounted v.signatures v.living totals
still_counted c number places lower upper totals v m x y counted e =
    if_placed c number lower upper totals v m x y (places_at c.layout places c.memory) counted e

-- ---- blocks

if_ended : (u v : Services) (left : List Activation) (edits : ℕ) (n m : List ℕ) (p q x y : ℕ) (totals : List ℕ) (o : Option (List Entry)) → IsCounted u.signatures u.living totals → or_bad (ended_with u left edits o) (λ w. Done w n p q) ≡ Done v m x y → IsCounted v.signatures v.living (take (length v.activations) totals)
if_ended u v left edits n m p q x y totals None counted e = absurd (cc)
if_ended u v left edits n m p q x y totals (Some es) counted e =
    let w : Services = record u { activations = left; living = filter (λ l. nat_le l.owner (length left)) u.living; entries = es; edits = oldest edits u.edits } in
    subst (λ (s : Services). IsCounted s.signatures s.living (take (length s.activations) totals)) (by_services w v n m p q x y e)
    (left_counted u.signatures u.living totals (length left) counted)

if_left : (c : Call) (keep second : ℕ) (totals : List ℕ) (v : Services) (m : List ℕ) (x y : ℕ) (as' : List Activation) → IsCounted c.services.signatures c.services.living totals → left_by c keep second as' ≡ Done v m x y → IsCounted v.signatures v.living (take (length v.activations) totals)
if_left c keep second totals v m x y [] counted e = absurd (cc)
if_left c keep second totals v m x y (a ∷ as') counted e =
    if_ended (record c.services { line = a.line }) v as' a.edits c.memory m keep second x y totals (entries_left a.texts keep c.services.entries) counted e

pub left_still : (c : Call) (keep second : ℕ) (totals : List ℕ) (v : Services) (m : List ℕ) (x y : ℕ) → IsCounted c.services.signatures c.services.living totals → leave_served c keep second ≡ Done v m x y → IsCounted v.signatures v.living (take (length v.activations) totals)
left_still c keep second totals v m x y counted e = if_left c keep second totals v m x y c.services.activations counted e

if_unwound : (c : Call) (frame keep : ℕ) (totals : List ℕ) (v : Services) (m : List ℕ) (x y : ℕ) (as' : List Activation) → IsCounted c.services.signatures c.services.living totals → unwound c frame keep as' ≡ Done v m x y → IsCounted v.signatures v.living (take (length v.activations) totals)
if_unwound c frame keep totals v m x y [] counted e = absurd (cc)
if_unwound c frame keep totals v m x y (a ∷ as') counted e =
    if_ended c.services v (a ∷ as') a.edits c.memory m frame keep x y totals (entries_left a.texts keep c.services.entries) counted e

pub unwound_still : (c : Call) (frame keep : ℕ) (totals : List ℕ) (v : Services) (m : List ℕ) (x y : ℕ) → IsCounted c.services.signatures c.services.living totals → unwind_served c frame keep ≡ Done v m x y → IsCounted v.signatures v.living (take (length v.activations) totals)
unwound_still c frame keep totals v m x y counted e = if_unwound c frame keep totals v m x y (from_frame frame c.services.activations) counted e

if_unit : (c : Call) (totals : List ℕ) (v : Services) (m : List ℕ) (x y : ℕ) (a : Activation) (as' : List Activation) (kind : BlockKind) → IsCounted c.services.signatures c.services.living totals → unit_left c kind (ended_with (record c.services { line = a.line }) as' a.edits (entries_left a.texts 0 c.services.entries)) ≡ Done v m x y → IsCounted v.signatures v.living (take (length v.activations) totals)
if_unit c totals v m x y a as' ProcedureBlock counted e = absurd (cc)
if_unit c totals v m x y a as' BeginBlock counted e = absurd (cc)
if_unit c totals v m x y a as' (OnUnitBlock code resume) counted e =
    if_ended (record c.services { line = a.line }) v as' a.edits c.memory m resume code x y totals (entries_left a.texts 0 c.services.entries) counted e

if_returned : (c : Call) (totals : List ℕ) (v : Services) (m : List ℕ) (x y : ℕ) (as' : List Activation) → IsCounted c.services.signatures c.services.living totals → returned_by c as' ≡ Done v m x y → IsCounted v.signatures v.living (take (length v.activations) totals)
if_returned c totals v m x y [] counted e = absurd (cc)
if_returned c totals v m x y (a ∷ as') counted e = if_unit c totals v m x y a as' a.kind counted e

pub returned_still : (c : Call) (totals : List ℕ) (v : Services) (m : List ℕ) (x y : ℕ) → IsCounted c.services.signatures c.services.living totals → return_served c ≡ Done v m x y → IsCounted v.signatures v.living (take (length v.activations) totals)
returned_still c totals v m x y counted e = if_returned c totals v m x y c.services.activations counted e
