-- Places in format lists that wait below on-units: as many are left when what runs above them ends.
use Rattle.std.proofs.Common.{◌≡◌, ℕ, suc, ◌-◌, ◌≤◌, List, [], ◌∷◌, length, Option, None, Some, Bool, true, false, refl, sym, ap, ◌∙◌, subst, arith}
use Rattle.std.specs.Prelude.{cond, ◌==◌}
use Rattle.std.proofs.lemmas.List.{length-drop}
use Rattle.pli_serving.specs.ServiceState as S
use Rattle.pli_serving.specs.ServiceState.{Services, EditPlace}
use Rattle.pli_serving.specs.Answers.{Answer, Done, Bad}
use Rattle.pli_serving.specs.Outcomes.{or_bad}
use Rattle.pli_serving.specs.Edits as E
use Rattle.pli_serving.specs.Edits.{NextItem}
use Rattle.pli_serving.specs.Blocks.{oldest, from_frame}
use Rattle.pli_headline.proofs.Entered.{Way, held_by, way_of, kinds_of}

-- those below the newest on-unit
abbrev pub held_in : List Way → ℕ
held_in [] = 0
held_in (w ∷ ws) = held_by w.0 w.1 (held_in ws)

-- so many are enough for what runs now, and for each activation those that stood below it are enough for those around it
abbrev pub PlacesHeld : (count : ℕ) → List S.Activation → Type 0
PlacesHeld count [] = Unit {0}
PlacesHeld count (x ∷ xs) = (held_in (kinds_of (x ∷ xs)) ≤ count) × PlacesHeld x.edits xs

pub least_of : (n : ℕ) (xs : List S.Activation) → PlacesHeld n xs → held_in (kinds_of xs) ≤ n
least_of n [] held = omega arith
least_of n (x ∷ xs) held = held.0

-- others that are enough
pub places_more : (n m : ℕ) (xs : List S.Activation) → held_in (kinds_of xs) ≤ m → PlacesHeld n xs → PlacesHeld m xs
places_more n m [] enough held = tt
places_more n m (x ∷ xs) enough held = (enough, held.1)

pub places_grown : (n : ℕ) (xs : List S.Activation) → PlacesHeld n xs → PlacesHeld (suc n) xs
places_grown n xs held = places_more n (suc n) xs (let h = least_of n xs held in omega (arith, h)) held

-- for blocks that are entered in the same ways
pub places_same : (n m : ℕ) (xs ys : List S.Activation) → kinds_of ys ≡ kinds_of xs → PlacesHeld n xs → PlacesHeld m ys → PlacesHeld n ys
places_same n m xs ys same held other =
    places_more m n ys (let h = least_of n xs held in let e = ap held_in same in omega (arith, h, e)) other

-- ---- one activation more or less

further_least : (kind : S.BlockKind) (own further n : ℕ) → further ≤ own → held_by kind (held_by kind own 0) further ≤ n → further ≤ n
further_least S.ProcedureBlock own further n less held = held
further_least S.BeginBlock own further n less held = held
further_least (S.OnUnitBlock code resume) own further n less held = omega (arith, less, held)

own_least : (kind : S.BlockKind) (own further n : ℕ) → own ≤ n → further ≤ n → held_by kind (held_by kind own 0) further ≤ n
own_least S.ProcedureBlock own further n mine less = less
own_least S.BeginBlock own further n mine less = less
own_least (S.OnUnitBlock code resume) own further n mine less = mine

behind_least : (n : ℕ) (x : S.Activation) (xs : List S.Activation) → PlacesHeld n (x ∷ xs) → held_in (kinds_of xs) ≤ n
behind_least n x [] held = omega arith
behind_least n x (y ∷ ys) held = further_least x.kind x.edits (held_in (kinds_of (y ∷ ys))) n (least_of x.edits (y ∷ ys) held.1) held.0

pub places_entered : (n : ℕ) (x : S.Activation) (xs : List S.Activation) → x.edits ≡ n → PlacesHeld n xs → PlacesHeld n (x ∷ xs)
places_entered n x [] same held = (omega arith, tt)
places_entered n x (y ∷ ys) same held =
    (own_least x.kind x.edits (held_in (kinds_of (y ∷ ys))) n (omega (arith, same)) (least_of n (y ∷ ys) held), subst (λ m. PlacesHeld m (y ∷ ys)) (sym same) held)

-- ---- activations end

oldest_least : (n k : ℕ) (es : List EditPlace) → n ≤ k → n ≤ length es → n ≤ length (oldest k es)
oldest_least n k es some less = let e = length-drop (length es - k) es in omega (arith, some, less, e)

pub oldest_length : (k : ℕ) (es : List EditPlace) → k ≤ length es → length (oldest k es) ≡ k
oldest_length k es less = let e = length-drop (length es - k) es in omega (arith, less, e)

-- the newest
pub places_left : (es : List EditPlace) (x : S.Activation) (xs : List S.Activation) → PlacesHeld (length es) (x ∷ xs) → PlacesHeld (length (oldest x.edits es)) xs
places_left es x xs held =
    places_more x.edits (length (oldest x.edits es)) xs (oldest_least (held_in (kinds_of xs)) x.edits es (least_of x.edits xs held.1) (behind_least (length es) x xs held)) held.1

from_by : (q : Bool) (n frame : ℕ) (x : S.Activation) (xs : List S.Activation) (a : S.Activation) (rest : List S.Activation) → cond q (x ∷ xs) (from_frame frame xs) ≡ a ∷ rest → PlacesHeld n (x ∷ xs) → (from_frame frame xs ≡ a ∷ rest → PlacesHeld n (a ∷ rest)) → PlacesHeld n (a ∷ rest)
from_by true n frame x xs a rest found held further = subst (PlacesHeld n) found held
from_by false n frame x xs a rest found held further = further found

places_from : (n frame : ℕ) (xs : List S.Activation) (a : S.Activation) (rest : List S.Activation) → from_frame frame xs ≡ a ∷ rest → PlacesHeld n xs → PlacesHeld n (a ∷ rest)
places_from n frame [] a rest found held = absurd (cc found)
places_from n frame (x ∷ xs) a rest found held =
    from_by (x.frame == frame) n frame x xs a rest found held
    (λ further. places_from n frame xs a rest further (places_more x.edits n xs (behind_least n x xs held) held.1))

-- those above a frame
pub places_unwound : (es : List EditPlace) (frame : ℕ) (xs : List S.Activation) (a : S.Activation) (rest : List S.Activation) → from_frame frame xs ≡ a ∷ rest → PlacesHeld (length es) xs → PlacesHeld (length (oldest a.edits es)) (a ∷ rest)
places_unwound es frame xs a rest found held =
    let left' = places_from (length es) frame xs a rest found held in
    let own = (places_entered a.edits a rest refl left'.1).0 in
    (oldest_least (held_in (kinds_of (a ∷ rest))) a.edits es own left'.0, left'.1)

-- ---- the newest place serves

next_by : (v : Services) (o : Option NextItem) (n : NextItem) (es below : List EditPlace) → or_bad o (λ m. Done v [] (length es) 0) ≡ Done v [] (length below) 0 → length es ≡ length below
next_by v None n es below found = absurd (cc found)
next_by v (Some m) n es below found = cc found

pub next_length : (v : Services) (n : NextItem) (es below : List EditPlace) → ((next : NextItem → List EditPlace → Answer) → E.on_next es next ≡ next n below) → length es ≡ suc (length below)
next_length v n [] below found =
    let no : Bad ≡ Done v [] (length below) 0 = found (λ m ds. Done v [] (length ds) 0) in absurd (cc no)
next_length v n (p ∷ es) below found =
    ap (λ m. suc m) (next_by v (E.next_item p) n es below (found (λ m ds. Done v [] (length ds) 0)))

-- another is there in its stead
pub places_next : (v : Services) (n : NextItem) (below : List EditPlace) → ((next : NextItem → List EditPlace → Answer) → E.on_next v.edits next ≡ next n below) → PlacesHeld (length v.edits) v.activations → PlacesHeld (suc (length below)) v.activations
places_next v n below found held = subst (λ m. PlacesHeld m v.activations) (next_length v n v.edits below found) held

-- ---- below an on-unit

pub unit_places : (x : S.Activation) (code resume n : ℕ) → way_of x ≡ (S.OnUnitBlock code resume, n) → x.edits ≡ n
unit_places x code resume n e = sym (ap (λ k. held_by k x.edits 0) (ap (λ (w : Way). w.0) e)) ∙ ap (λ (w : Way). w.1) e

-- as many are left when it ends
pub places_behind : (es : List EditPlace) (x : S.Activation) (xs : List S.Activation) (code resume n : ℕ) (ws : List Way) → way_of x ≡ (S.OnUnitBlock code resume, n) → kinds_of xs ≡ (S.OnUnitBlock code resume, n) ∷ ws → PlacesHeld (length es) xs → length (oldest x.edits es) ≡ n
places_behind es x xs code resume n ws is ways held =
    let own = unit_places x code resume n is in
    let least = least_of (length es) xs held in
    let e = ap held_in ways in
    oldest_length x.edits es (omega (arith, own, least, e)) ∙ own
