-- Serials that rise: a new one isn't among them, and what is left of them rises.
use Rattle.std.proofs.Common.{◌≡◌, ◌≢◌, ℕ, suc, ◌+◌, ◌<◌, ◌≤◌, List, [], ◌∷◌, ◌++◌, Option, Some, None, Bool, true, false, refl, sym, ap, ◌∙◌, subst, arith}
use Rattle.std.specs.Prelude.{cond, not, filter, ◌==◌}
use Rattle.std.proofs.lemmas.Bool.Decides.{nat_tests}
use Rattle.indexmap.specs.IndexMap.{insert_entry, shift_remove_entry}
use Rattle.controlled_gens.specs.declared.roots.Root.{Root}
use Rattle.controlled_gens.specs.Rooted.{Rise}

eq_true : (a b : ℕ) → a ≡ b → (a == b) ≡ true
eq_true a b e = grind (arith, nat_tests)

eq_false : (a b : ℕ) → a ≢ b → (a == b) ≡ false
eq_false a b e = grind (arith, nat_tests)

eq_tells : (a b : ℕ) → (a == b) ≡ true → a ≡ b
eq_tells a b e = grind (arith, nat_tests)

rise_ends : (least : ℕ) (es : List (ℕ × Root)) (serials : ℕ) → Rise least es serials → least ≤ serials
rise_ends least [] serials r = r
rise_ends least (e ∷ es) serials r = omega (arith, r.0, rise_ends e.0 es serials r.1)

rise_from : (low least : ℕ) (es : List (ℕ × Root)) (serials : ℕ) → low ≤ least → Rise least es serials → Rise low es serials
rise_from low least [] serials h r = omega (arith, h, r)
rise_from low least (e ∷ es) serials h r = (omega (arith, h, r.0), r.1)

pub rise_push :
    (least : ℕ) (es : List (ℕ × Root)) (serials serial : ℕ) (root : Root) → Rise least es serials → serials < serial →
    Rise least (es ++ (serial, root) ∷ []) serial
rise_push least [] serials serial root r h = (omega (arith, r, h), omega arith)
rise_push least (e ∷ es) serials serial root r h = (r.0, rise_push e.0 es serials serial root r.1 h)

pub rise_insert :
    (least : ℕ) (es : List (ℕ × Root)) (serials serial : ℕ) (root : Root) → Rise least es serials → serials < serial →
    insert_entry (λ a b. a == b) es serial root ≡ es ++ (serial, root) ∷ []
rise_insert least [] serials serial root r h = refl
rise_insert least (e ∷ es) serials serial root r h =
    let b = rise_ends e.0 es serials r.1 in
    let t = eq_false serial e.0 (λ f. absurd (omega (arith, f, b, h))) in
    ap (λ c. cond c ((e.0, root) ∷ es) (e ∷ insert_entry (λ a b. a == b) es serial root)) t
    ∙ ap (λ x. e ∷ x) (rise_insert e.0 es serials serial root r.1 h)

pub rise_filter :
    (p : ℕ × Root → Bool) (least : ℕ) (es : List (ℕ × Root)) (serials : ℕ) → Rise least es serials → Rise least (filter p es) serials
rise_filter p least [] serials r = r
rise_filter p least (e ∷ es) serials r = by_test (p e) (rise_filter p e.0 es serials r.1)
  where
    by_test : (t : Bool) → Rise e.0 (filter p es) serials → Rise least (cond t (e ∷ filter p es) (filter p es)) serials
    by_test true s = (r.0, s)
    by_test false s = rise_from least e.0 (filter p es) serials (omega (arith, r.0)) s

-- no serial above it is another's
none_filtered :
    (serial least : ℕ) (es : List (ℕ × Root)) (serials : ℕ) → serial ≤ least → Rise least es serials →
    filter (λ e. not (serial == e.0)) es ≡ es
none_filtered serial least [] serials h r = refl
none_filtered serial least (e ∷ es) serials h r =
    let t = eq_false serial e.0 (λ f. absurd (omega (arith, f, h, r.0))) in
    ap (λ c. cond (not c) (e ∷ filter (λ e. not (serial == e.0)) es) (filter (λ e. not (serial == e.0)) es)) t
    ∙ ap (λ x. e ∷ x) (none_filtered serial e.0 es serials (omega (arith, h, r.0)) r.1)

pub removed_filtered :
    (serial least : ℕ) (es : List (ℕ × Root)) (serials : ℕ) → Rise least es serials →
    shift_remove_entry (λ other. serial == other) es ≡ filter (λ e. not (serial == e.0)) es
removed_filtered serial least [] serials r = refl
removed_filtered serial least (e ∷ es) serials r =
    by_test (serial == e.0) refl (removed_filtered serial e.0 es serials r.1)
  where
    by_test :
        (t : Bool) → (serial == e.0) ≡ t →
        shift_remove_entry (λ other. serial == other) es ≡ filter (λ e. not (serial == e.0)) es →
        cond t es (e ∷ shift_remove_entry (λ other. serial == other) es)
        ≡ cond (not t) (e ∷ filter (λ e. not (serial == e.0)) es) (filter (λ e. not (serial == e.0)) es)
    by_test true t s =
        let h = eq_tells serial e.0 t in
        sym (none_filtered serial e.0 es serials (omega (arith, h)) r.1)
    by_test false t s = ap (λ x. e ∷ x) s
