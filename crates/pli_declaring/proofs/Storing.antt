-- STATIC variables, one by one.
use Rattle.std.proofs.Common.{◌≡◌, ◌<◌, ◌≤◌, ℕ, ◌+◌, Bool, true, false, List, [], ◌∷◌, ◌++◌, map, drop, length, get_or, Option, refl, sym, ap, ◌∙◌, arith}
use Rattle.std.specs.Prelude.{if◌then◌else◌, nat_lt, not}
use Rattle.std.specs.List.{flat_map, sum_by}
use Rattle.std.proofs.lemmas.Bool.Decides.{nat_tests}
use Rattle.std.proofs.lemmas.List.{drop_more, map-append}
use Rattle.std.proofs.lemmas.List.Sums.{sum_by-cons}
use Rattle.pli_language.specs.declared.expr.Place.{Place}
use Rattle.pli_language.specs.declared.fault.SourceFault.{SourceFault}
use Rattle.pli_language.specs.declared.fault.SourceKind.TheVariants.{TooLarge}
use Rattle.pli_language.specs.Refusals.{fault, is_before, soonest}
use Rattle.pli_language.specs.Declaring.{most_static, static_faults, taken_up_to, when}
use Rattle.pli_declaring.specs.Bytes.{capped}
use Rattle.pli_language.proofs.Least.{soonest-append}
use Rattle.pli_declaring.specs.declared.statics.Taken.{Taken}
use Rattle.pli_declaring.specs.Statics.{capped_all, counted, taken_of}
use Rattle.pli_declaring.proofs.Faults.{soonest_none}

pub capped_in_two : (xs ys : List (Place × ℕ)) → capped_all (xs ++ ys) ≡ capped_all xs ++ capped_all ys
capped_in_two xs ys = map-append (λ s. (s.0, capped s.1)) xs ys

-- ---- caps don't change what is past the limit

counted_capped : (p : Place) (s : Place × ℕ) → capped (counted p (s.0, capped s.1)) ≡ capped (counted p s)
counted_capped p s = go (is_before (fault p TooLarge) (fault s.0 TooLarge))
  where
    go : (t : Bool) → capped (if t then 0 else capped s.1) ≡ capped (if t then 0 else s.1)
    go true = refl
    go false = omega arith

sums_alike : (a b c d : ℕ) → capped a ≡ capped b → capped c ≡ capped d → capped (a + c) ≡ capped (b + d)
sums_alike a b c d p q = omega arith

taken_capped : (p : Place) (ss : List (Place × ℕ)) → capped (taken_up_to p (capped_all ss)) ≡ capped (taken_up_to p ss)
taken_capped p [] = refl
taken_capped p (s ∷ ss) =
    ap capped (sum_by-cons (counted p) (s.0, capped s.1) (capped_all ss))
    ∙ sums_alike (counted p (s.0, capped s.1)) (counted p s) (taken_up_to p (capped_all ss)) (taken_up_to p ss) (counted_capped p s) (taken_capped p ss)
    ∙ ap capped (sym (sum_by-cons (counted p) s ss))

past_alike : (a b : ℕ) → capped a ≡ capped b → nat_lt most_static a ≡ nat_lt most_static b
past_alike a b h = grind (arith, nat_tests)

faults_capped : (all some : List (Place × ℕ)) → flat_map (λ s. when (nat_lt most_static (taken_up_to s.0 (capped_all all))) (fault s.0 TooLarge)) (capped_all some) ≡ flat_map (λ s. when (nat_lt most_static (taken_up_to s.0 all)) (fault s.0 TooLarge)) some
faults_capped all [] = refl
faults_capped all (s ∷ ss) =
    ap (λ t. when t (fault s.0 TooLarge) ++ flat_map (λ r. when (nat_lt most_static (taken_up_to r.0 (capped_all all))) (fault r.0 TooLarge)) (capped_all ss)) (past_alike _ _ (taken_capped s.0 all))
    ∙ ap (λ u. when (nat_lt most_static (taken_up_to s.0 all)) (fault s.0 TooLarge) ++ u) (faults_capped all ss)

pub statics_capped : (ss : List (Place × ℕ)) → static_faults (capped_all ss) ≡ static_faults ss
statics_capped ss = faults_capped ss ss

-- ---- where all fits

abbrev all_of : List (Place × ℕ) → ℕ
all_of ss = sum_by (λ s. s.1) ss

counted_below : (p : Place) (s : Place × ℕ) → counted p s ≤ s.1
counted_below p s = go (is_before (fault p TooLarge) (fault s.0 TooLarge))
  where
    go : (t : Bool) → (if t then 0 else s.1) ≤ s.1
    go true = omega arith
    go false = omega arith

sums_below : (x a c y b d : ℕ) → x ≡ a + c → y ≡ b + d → a ≤ b → c ≤ d → x ≤ y
sums_below x a c y b d p q h k = omega arith

taken_below : (p : Place) (ss : List (Place × ℕ)) → taken_up_to p ss ≤ all_of ss
taken_below p [] = omega arith
taken_below p (s ∷ ss) =
    sums_below (taken_up_to p (s ∷ ss)) (counted p s) (taken_up_to p ss) (all_of (s ∷ ss)) s.1 (all_of ss) (sum_by-cons (counted p) s ss) (sum_by-cons (λ r. r.1) s ss) (counted_below p s) (taken_below p ss)

not_past : (a b : ℕ) → a ≤ b → nat_lt most_static b ≡ false → nat_lt most_static a ≡ false
not_past a b h k = grind (arith, nat_tests)

none_past : (all some : List (Place × ℕ)) → nat_lt most_static (all_of all) ≡ false → flat_map (λ s. when (nat_lt most_static (taken_up_to s.0 all)) (fault s.0 TooLarge)) some ≡ []
none_past all [] h = refl
none_past all (s ∷ ss) h =
    ap (λ t. when t (fault s.0 TooLarge) ++ flat_map (λ r. when (nat_lt most_static (taken_up_to r.0 all)) (fault r.0 TooLarge)) ss) (not_past _ _ (taken_below s.0 all) h)
    ∙ none_past all ss h

is_false : (b : Bool) → true ≡ not b → b ≡ false
is_false true h = h
is_false false h = refl

pub none_static : (found : Option SourceFault) (ss : List (Place × ℕ)) → true ≡ not (nat_lt most_static (sum_by (λ s. s.1) ss)) → found ≡ soonest found (static_faults ss)
none_static found ss h = sym (ap (soonest found) (none_past ss ss (is_false (nat_lt most_static (all_of ss)) h)) ∙ soonest_none found)

-- ---- the loop over them

pub static_on : (found next target : Option SourceFault) (ts : List Taken) (i : ℕ) (d : Taken) (broken : Bool) → i < length ts → soonest found (flat_map (λ s. when (nat_lt most_static (taken_up_to s.0 (map taken_of ts))) (fault s.0 TooLarge)) (map taken_of (drop i ts))) ≡ target → broken ≡ nat_lt most_static (taken_up_to (get_or ts i d).place (map taken_of ts)) → next ≡ soonest found (when broken (fault (get_or ts i d).place TooLarge)) → soonest next (flat_map (λ s. when (nat_lt most_static (taken_up_to s.0 (map taken_of ts))) (fault s.0 TooLarge)) (map taken_of (drop (i + 1) ts))) ≡ target
static_on found next target ts i d broken h inv b n =
    let rule : Place × ℕ → List SourceFault = λ s. when (nat_lt most_static (taken_up_to s.0 (map taken_of ts))) (fault s.0 TooLarge) in
    let more : List SourceFault = flat_map rule (map taken_of (drop (i + 1) ts)) in
    let here : Bool → List SourceFault = λ t. when t (fault (get_or ts i d).place TooLarge) in
    let step : flat_map rule (map taken_of (drop i ts)) ≡ here broken ++ more =
    ap (λ u. flat_map rule (map taken_of u)) (drop_more ts i d h) ∙ ap (λ t. here t ++ more) (sym b) in
    ap (λ o. soonest o more) n ∙ sym (soonest-append found (here broken) more) ∙ ap (soonest found) (sym step) ∙ inv
