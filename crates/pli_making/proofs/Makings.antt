-- Variables that live from now on.
use Rattle.std.proofs.Common.{◌≡◌, ◌≢◌, ℕ, ◌+◌, ◌-◌, ◌<◌, ◌≤◌, ◌^◌, List, [], ◌∷◌, ◌++◌, map, Bool, true, false, Option, Err, refl, sym, ap, subst, ◌∙◌, arith}
use Rattle.std.specs.Prelude.{◌==◌, nat_lt, if◌then◌else◌}
use Rattle.std.proofs.lemmas.Bool.Decides.{nat_tests}
use Rattle.std.proofs.lemmas.List.{reverse-append}
use Rattle.area_keeper.specs.Keeper.{Keeper}
use Rattle.pli_meaning.specs.BasicValues.{VariableName}
use Rattle.pli_serving.specs.Answers.{Answer, Done}
use Rattle.pli_serving.specs.Bytes.{name_bytes, with_bytes}
use Rattle.pli_serving.specs.Finding.{Call}
use Rattle.pli_serving.specs.Making.{make_served, owner_of}
use Rattle.pli_serving.specs.Outcomes.{bad_unless, or_bad}
use Rattle.pli_serving.specs.ServiceState.{Living, height}
use Rattle.controlled_gens.specs.declared.fault.GenFault.{GenFault}
use Rattle.controlled_gens.specs.declared.fault.GenFault.TheVariants as G
use Rattle.controlled_gens.specs.declared.roots.Root.{Root}
use Rattle.controlled_gens.specs.Rooted.{living, livings, root_with}
use Rattle.pli_answering.specs.Answering.{Replies}
use Rattle.pli_answering.specs.declared.reply.Refusal.{Refusal}
use Rattle.pli_answering.specs.declared.reply.Refusal.TheVariants as F
use Rattle.pli_services.specs.Flowing.{FlowSeen, flowing}
use Rattle.pli_storage.specs.declared.held.Held.{Held}
use Rattle.pli_storage.specs.Held.{holding, with_held}
use Rattle.pli_making.specs.InUse.{IsCounted}
use Rattle.pli_making.specs.Making.{Enters, IsFitting, IsReady, Starts, entered_with, made_with, owner_made, refusal_of, rooted_with, with_both}
use Rattle.pli_making.specs.declared.content.Content.{Content}
use Rattle.pli_making.specs.declared.content.Content.TheVariants as D
use Rattle.pli_making.specs.declared.content.Fresh.{Fresh}
use Rattle.pli_making.specs.declared.wanted.Making.{Making}

-- ---- serials

pub serial_left : (given' serial : ℕ) → serial < 2 ^ 64 → serial ≡ given' + 1 → nat_lt (given' + 1) (2 ^ 64) ≡ true
serial_left given' serial h e = grind (arith, nat_tests)

pub other_fault : (fault : GenFault) → fault ≢ G.NoSerial → F.Memory ≡ refusal_of fault
other_fault G.NoSerial h = absurd (h refl)
other_fault G.Dead h = refl
other_fault G.NoGeneration h = refl
other_fault G.HeapFull h = refl
other_fault G.Memory h = refl

pub no_serial : (w : Making) (owner len : ℕ) (old new : Held) (fault : GenFault) → fault ≡ (if old.variables.serials == 2 ^ 64 - 1 then G.NoSerial else G.Memory) → new ≡ old → Enters w owner len old (Err (refusal_of fault)) new
no_serial w owner len old new fault e same = by_test (old.variables.serials == 2 ^ 64 - 1) refl e
  where
    by_test : (t : Bool) → (old.variables.serials == 2 ^ 64 - 1) ≡ t → fault ≡ (if t then G.NoSerial else G.Memory) → Enters w owner len old (Err (refusal_of fault)) new
    by_test true t e =
        let none : nat_lt (old.variables.serials + 1) (2 ^ 64) ≡ false = grind (arith, nat_tests) in
        subst (λ (f : GenFault). Enters w owner len old (Err (refusal_of f)) new) (sym e) (none, same)
    by_test false t e = subst (λ (f : GenFault). Enters w owner len old (Err (refusal_of f)) new) (sym e) same

-- ---- the newest comes first

newest_living : (roots : List (ℕ × Root)) (e : ℕ × Root) → livings (roots ++ e ∷ []) ≡ living e ∷ livings roots
newest_living roots e = ap (map living) (reverse-append roots (e ∷ []))

pub counted_entered : (w : Making) (owner len serial : ℕ) (old new : Held) (totals : List ℕ) → new ≡ record old { variables = rooted_with serial (record { at = w.place; len = len }) w owner old.variables } → IsCounted old.signatures (record { serial = serial; owner = owner; signature = w.signature; at = w.place } ∷ livings old.variables.roots) totals → IsCounted new.signatures (livings new.variables.roots) totals
counted_entered w owner len serial old new totals e counted =
    subst (λ (h : Held). IsCounted h.signatures (livings h.variables.roots) totals) (sym e)
    (subst (λ (ls : List Living). IsCounted old.signatures ls totals) (sym (newest_living old.variables.roots (serial, root_with (record { at = w.place; len = len }) w.signature owner))) counted)

pub counted_still : (w : Making) (owner len : ℕ) (old new : Held) (refusal : Refusal) (totals : List ℕ) → Enters w owner len old (Err refusal) new → IsCounted old.signatures (livings old.variables.roots) totals → IsCounted new.signatures (livings new.variables.roots) totals
counted_still w owner len old new F.Bad totals e counted = subst (λ (h : Held). IsCounted h.signatures (livings h.variables.roots) totals) (sym e.1) counted
counted_still w owner len old new F.Memory totals e counted = subst (λ (h : Held). IsCounted h.signatures (livings h.variables.roots) totals) (sym e) counted

-- ---- the answer

pub made_so : (k : Keeper) (h new : Held) (m after : List ℕ) (c : Call) (w : Making) (owner len serial : ℕ) (content : List ℕ) → nat_lt (h.variables.serials + 1) (2 ^ 64) ≡ true → serial ≡ h.variables.serials + 1
    → new ≡ record h { variables = rooted_with serial (record { at = w.place; len = len }) w owner h.variables }
    → after ≡ with_bytes (name_bytes (VariableName serial)) w.name (with_bytes content w.place m)
    → entered_with (with_held k h m c) w owner content ≡ Done (holding new c.services) after w.name w.signature
made_so k h new m after c w owner len serial content fits next entered written =
    let v = holding h c.services in
    ap (λ (t : Bool). bad_unless t (made_with (with_held k h m c) w owner content)) fits
    ∙ ap (λ n. Done (record v { serials = n; living = record { serial = n; owner = owner; signature = w.signature; at = w.place } ∷ livings h.variables.roots }) (with_bytes (name_bytes (VariableName n)) w.name (with_bytes content w.place m)) w.name w.signature) (sym next)
    ∙ ap (λ (bytes : List ℕ). Done (record v { serials = serial; living = record { serial = serial; owner = owner; signature = w.signature; at = w.place } ∷ livings h.variables.roots }) bytes w.name w.signature) (sym written)
    ∙ ap (λ (ls : List Living). Done (record v { serials = serial; living = ls }) after w.name w.signature) (sym (newest_living h.variables.roots (serial, root_with (record { at = w.place; len = len }) w.signature owner)))
    ∙ ap (λ (h : Held). Done (holding h c.services) after w.name w.signature) (sym entered)

pub not_made : (k : Keeper) (h new : Held) (m : List ℕ) (c : Call) (w : Making) (owner len : ℕ) (content : List ℕ) (refusal : Refusal) → Enters w owner len h (Err refusal) new → Replies (entered_with (with_held k h m c) w owner content) (holding h c.services) m (Err refusal) (holding new c.services) m
not_made k h new m c w owner len content F.Bad e =
    (ap (λ (t : Bool). bad_unless t (made_with (with_held k h m c) w owner content)) e.0, ap (λ (h : Held). holding h c.services) e.1, refl)
not_made k h new m c w owner len content F.Memory e = (ap (λ (h : Held). holding h c.services) e, refl)

-- what isn't started
pub not_started : (k : Keeper) (f : FlowSeen) (h : Held) (m : List ℕ) (c : Call) (w : Making) (owner : ℕ)
    (answer : Answer) (refusal : Refusal) → Starts answer (with_both k f h m c) w owner (Err refusal) →
    Replies answer (flowing f (holding h c.services)) m (Err refusal) (flowing f (holding h c.services)) m
not_started k f h m c w owner answer F.Bad e = (e, refl, refl)
not_started k f h m c w owner answer F.Memory e = (refl, refl)

-- ---- by the owner

pub owner_asked : (c : Call) (w : Making) (n : ℕ) (o : Option ℕ) → n ≡ height c.services → o ≡ owner_of w.class n → make_served c w.name w.signature w.initial w.place w.class ≡ or_bad o (owner_made c w)
owner_asked c w n o e f =
    ap (λ (n : ℕ). or_bad (owner_of w.class n) (owner_made c w)) (sym e)
    ∙ ap (λ (o : Option ℕ). or_bad o (owner_made c w)) (sym f)

-- ---- where memory goes on behind the data

fits_within : (k : Keeper) (d : Content) (at least most : ℕ) → least ≤ most → IsFitting k d at least → IsFitting k d at most
fits_within k (D.Area capacity) at least most h fits = let inside = fits.2 in (fits.0, fits.1, omega (arith, inside, h))
fits_within k (D.Values bytes) at least most h fits = omega (arith, fits, h)

pub ready_within : (k : Keeper) (w : Making) (f : Fresh) (least most : ℕ) → least ≤ most → IsReady k w f least → IsReady k w f most
ready_within k w f least most h ready =
    let inside = ready.name in
    record { content = fits_within k f.content w.place least most h ready.content; name = omega (arith, inside, h) }
