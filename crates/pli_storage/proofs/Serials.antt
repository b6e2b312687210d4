-- What lives by a serial: serials rise, so it is the same from the oldest and from the newest on.
use Rattle.std.proofs.Common.{◌≡◌, ◌≢◌, ℕ, ◌≤◌, List, [], ◌∷◌, ◌++◌, refl, sym, ap, ◌∙◌, Option, Some, None, Result, Ok, Err, Bool, true, false, arith}
use Rattle.std.specs.Prelude.{option_map, map, reverse, cond, ◌==◌, is_some, nat_le, if◌then◌else◌}
use Rattle.std.proofs.lemmas.List.{map-append, reverse-append}
use Rattle.std.proofs.lemmas.Bool.Decides.{nat_tests}
use Rattle.pli_serving.specs.ServiceState.{Living, living_of}
use Rattle.controlled_gens.specs.declared.roots.Root.{Root}
use Rattle.controlled_gens.specs.Rooted.{IsEntered, Rise, Rooted, living, livings, root_of, up_to_owner}
use Rattle.controlled_gens.specs.declared.fault.GenFault.{GenFault}
use Rattle.controlled_gens.proofs.Rising.{rise_filter, rise_push}
use Rattle.pli_storage.specs.Variables.{living_root}

eq_true : (a b : ℕ) → a ≡ b → (a == b) ≡ true
eq_true a b e = grind (arith, nat_tests)

eq_false : (a b : ℕ) → a ≢ b → (a == b) ≡ false
eq_false a b e = grind (arith, nat_tests)

eq_tells : (a b : ℕ) → (a == b) ≡ true → a ≡ b
eq_tells a b e = grind (arith, nat_tests)

none_above : (s least : ℕ) (es : List (ℕ × Root)) (serials : ℕ) → s ≤ least → Rise least es serials → root_of es s ≡ None
none_above s least [] serials h r = refl
none_above s least (e ∷ es) serials h r =
    ap (λ t. cond t (Some e.1) (root_of es s)) (eq_false s e.0 (λ f. absurd (omega (arith, f, h, r.0))))
    ∙ none_above s e.0 es serials (omega (arith, h, r.0)) r.1

-- the last one counts where no other has the serial
last : (ls : List Living) (l : Living) (s : ℕ) (found : Option Living) → living_of ls s ≡ found → living_of (ls ++ l ∷ []) s ≡ (if is_some found then found else living_of (l ∷ []) s)
last [] l s found e = rw (sym e) refl
last (k ∷ ks) l s found e = by_test (k.serial == s) e (last ks l s found)
  where
    by_test : (t : Bool) → (if t then Some k else living_of ks s) ≡ found → (living_of ks s ≡ found → living_of (ks ++ l ∷ []) s ≡ (if is_some found then found else living_of (l ∷ []) s)) → (if t then Some k else living_of (ks ++ l ∷ []) s) ≡ (if is_some found then found else living_of (l ∷ []) s)
    by_test true e further = rw (sym e) refl
    by_test false e further = further e

front : (e : ℕ × Root) (es : List (ℕ × Root)) → livings (e ∷ es) ≡ livings es ++ living e ∷ []
front e es = ap (map living) (reverse-append (e ∷ []) es) ∙ map-append living (reverse es) (e ∷ [])

pub found_by_serial : (s least : ℕ) (es : List (ℕ × Root)) (serials : ℕ) → Rise least es serials → option_map (living_root s) (root_of es s) ≡ living_of (livings es) s
found_by_serial s least [] serials r = refl
found_by_serial s least (e ∷ es) serials r =
    let further = found_by_serial s e.0 es serials r.1 in
    by_test (s == e.0) refl
    ∙ sym (ap (λ ls. living_of ls s) (front e es) ∙ last (livings es) (living e) s _ (sym further))
  where
    by_test : (t : Bool) → (s == e.0) ≡ t → option_map (living_root s) (cond t (Some e.1) (root_of es s)) ≡ (if is_some (option_map (living_root s) (root_of es s)) then option_map (living_root s) (root_of es s) else living_of (living e ∷ []) s)
    by_test true t =
        let same = eq_tells s e.0 t in
        let none = none_above s e.0 es serials (omega (arith, same)) r.1 in
        let back = eq_true e.0 s (sym same) in
        rw (none, back, same) refl
    by_test false t =
        let back = eq_false e.0 s (λ f. let other : (s == e.0) ≡ true = eq_true s e.0 (sym f) in absurd (cc)) in
        elim (root_of es s) as (λ o. option_map (living_root s) o ≡ (if is_some (option_map (living_root s) o) then option_map (living_root s) o else living_of (living e ∷ []) s)) [ Some root ↦ refl | None ↦ rw back refl ]

pub rise_entered : (old new : Rooted) (root : Root) (result : Result ℕ GenFault) → IsEntered old new root result → Rise 0 old.roots old.serials → Rise 0 new.roots new.serials
rise_entered old new root (Ok serial) e r = rw (e.2) (rise_push 0 old.roots old.serials serial root r (omega (arith, e.1)))
rise_entered old new root (Err fault) e r = rw (e.1) r

pub rise_left : (owner : ℕ) (old new : Rooted) → new ≡ up_to_owner owner old → Rise 0 old.roots old.serials → Rise 0 new.roots new.serials
rise_left owner old new e r = rw e (rise_filter (λ e. nat_le e.1.owner owner) 0 old.roots old.serials r)
