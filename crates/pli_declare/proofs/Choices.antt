-- The choice among a name's places is the definition's.
use Rattle.std.proofs.Common.{◌≡◌, ℕ, suc, ◌+◌, Bool, true, false, List, [], ◌∷◌, ◌++◌, length, Some, None, filter, refl, sym, ap, ◌∙◌, add-zero, arith, nat_eq, eqb, Bor, Vec, ◌<◌, drop, drop-cons, add-one, get_or, ◌≤◌, map}
use Rattle.std.proofs.lemmas.Option.{slice_get-map, slice_get-get_or, slice_get_past}
use Rattle.std.specs.Prelude.{if◌then◌else◌, ◌&&◌, slice_get}
use Rattle.std.specs.Option.{option_map_or, option_map}
use Rattle.std.specs.Cmp.Lexicographic.{pointwise}
use Rattle.std.specs.declared.alloc.Global.{Global}
use Rattle.std.proofs.Math.Logic.{∥∥₁_elim}
use Rattle.std.proofs.Props.{props}
use Rattle.indexmap.specs.IndexMap.{IndexMap}
use Rattle.pli_language.specs.declared.scope.Found.{Found}
use Rattle.pli_language.specs.declared.scope.Found.TheVariants as F
use Rattle.pli_language.specs.Keywords.{same_bytes}
use Rattle.pli_language.specs.Declarations.{Declaration, Block}
use Rattle.pli_language.specs.Means.{is_part, same_names, qualifiers_of, is_match, places, chosen, means_in, means, means_from, names_mean, all_but_last, last_of, or_else, declarations_of}
use Rattle.pli_declare.specs.Index.{places_at, IsIndex}
use Rattle.pli_declare.specs.Among.{part_at, full_at, going, further_of}

-- ---- going on

pub going_on : (block i : ℕ) (found : Found) (part : Bool) (fs ms : List ℕ) → going block (further_of part block i found) fs ms ≡ going block found fs (if part then i ∷ ms else ms)
going_on block i found false fs ms = refl
going_on block i F.None true (f ∷ fs) ms = refl
going_on block i (F.One d) true (f ∷ fs) ms = refl
going_on block i F.Ambiguous true (f ∷ fs) ms = refl
going_on block i F.None true [] [] = refl
going_on block i F.None true [] (m ∷ ms) = refl
going_on block i (F.One d) true [] [] = refl
going_on block i (F.One d) true [] (m ∷ ms) = refl
going_on block i F.Ambiguous true [] [] = refl
going_on block i F.Ambiguous true [] (m ∷ ms) = refl

pub chosen_is : (block : ℕ) (fs ms : List ℕ) → chosen block fs ms ≡ going block F.None fs ms
chosen_is block (f ∷ fs) ms = refl
chosen_is block [] [] = refl
chosen_is block [] (m ∷ []) = refl
chosen_is block [] (m ∷ n ∷ ms) = refl

-- the next place isn't meant by its full name
pub among_on : (block i : ℕ) (found : Found) (full part : ℕ → Bool) (is rest : List ℕ) (target : Found) → is ≡ i ∷ rest → full i ≡ false → going block found (filter full is) (filter part is) ≡ target → going block (further_of (part i) block i found) (filter full rest) (filter part rest) ≡ target
among_on block i found full part is rest target e h g =
    going_on block i found (part i) (filter full rest) (filter part rest) ∙ ap (λ b. going block found (if b then i ∷ filter full rest else filter full rest) (filter part (i ∷ rest))) (sym h) ∙ ap (λ u. going block found (filter full u) (filter part u)) (sym e) ∙ g

pub among_full : (block i : ℕ) (found : Found) (full part : ℕ → Bool) (is rest : List ℕ) (target : Found) → is ≡ i ∷ rest → full i ≡ true → going block found (filter full is) (filter part is) ≡ target → F.One (record { block = block; index = i }) ≡ target
among_full block i found full part is rest target e h g =
    ap (λ b. going block found (if b then i ∷ filter full rest else filter full rest) (filter part (i ∷ rest))) (sym h) ∙ ap (λ u. going block found (filter full u) (filter part u)) (sym e) ∙ g

-- ---- places of a name that pass a further test

shifted : (n k : ℕ) → n + suc k ≡ n + 1 + k
shifted n k = omega arith

both : (a b : Bool) (n : ℕ) (v : ℕ → Bool) (xs ys : List ℕ) → v n ≡ b → xs ≡ filter v ys → (if a && b then n ∷ xs else xs) ≡ filter v (if a then n ∷ ys else ys)
both false b n v xs ys h e = e
both true true n v xs ys h e = ap (λ u. n ∷ u) e ∙ ap (λ c. if c then n ∷ filter v ys else filter v ys) (sym h)
both true false n v xs ys h e = e ∙ ap (λ c. if c then n ∷ filter v ys else filter v ys) (sym h)

pub places_and : (test more : Declaration → Bool) (n : ℕ) (ds : List Declaration) (v : ℕ → Bool) → ((k : ℕ) (d : Declaration) → slice_get ds k ≡ Some d → v (n + k) ≡ more d) → places (λ d. test d && more d) n ds ≡ filter v (places test n ds)
places_and test more n [] v h = refl
places_and test more n (d ∷ ds) v h =
    both (test d) (more d) n v _ _ (ap v (sym (add-zero n)) ∙ h 0 d refl)
    (places_and test more (n + 1) ds v (λ k e f. ap v (sym (shifted n k)) ∙ h (suc k) e f))

same_as : (a b : List ℕ) → same_bytes a b ≡ pointwise nat_eq a b
same_as [] [] = refl
same_as [] (y ∷ ys) = refl
same_as (x ∷ xs) [] = refl
same_as (x ∷ xs) (y ∷ ys) = ap (λ t. eqb x y && t) (same_as xs ys)

places_alike : (t u : Declaration → Bool) (n : ℕ) (ds : List Declaration) → ((d : Declaration) → t d ≡ u d) → places t n ds ≡ places u n ds
places_alike t u n [] h = refl
places_alike t u n (d ∷ ds) h = ap (λ b. if b then n ∷ places t (n + 1) ds else places t (n + 1) ds) (h d) ∙ ap (λ r. if u d then n ∷ r else r) (places_alike t u (n + 1) ds h)

from_nought : (k : ℕ) → 0 + k ≡ k
from_nought k = omega arith

-- the places that pass both tests are those of the name that pass the second
passing : (last : List ℕ) (more : Declaration → Bool) (ds : List Declaration) → places (λ d. same_bytes last d.name.letters && more d) 0 ds ≡ filter (λ i. option_map_or more (slice_get ds i) false) (places (λ d. pointwise nat_eq last d.name.letters) 0 ds)
passing last more ds =
    places_and (λ d. same_bytes last d.name.letters) more 0 ds (λ i. option_map_or more (slice_get ds i) false) (λ k d e. ap (λ i. option_map_or more (slice_get ds i) false) (from_nought k) ∙ ap (λ o. option_map_or more o false) e)
    ∙ ap (filter (λ i. option_map_or more (slice_get ds i) false)) (places_alike _ _ 0 ds (λ d. same_as last d.name.letters))

pub means_is : (qualifiers : List (List ℕ)) (last : List ℕ) (block : ℕ) (ds : List Declaration) → means_in qualifiers last block ds ≡ going block F.None (filter (full_at qualifiers ds) (places (λ d. pointwise nat_eq last d.name.letters) 0 ds)) (filter (part_at qualifiers ds) (places (λ d. pointwise nat_eq last d.name.letters) 0 ds))
means_is qualifiers last block ds =
    chosen_is block _ _
    ∙ ap (λ u. going block F.None u (places (is_match qualifiers last) 0 ds)) (passing last (λ d. same_names qualifiers (qualifiers_of d.what)) ds)
    ∙ ap (λ u. going block F.None (filter (full_at qualifiers ds) (places (λ d. pointwise nat_eq last d.name.letters) 0 ds)) u) (passing last (λ d. is_part qualifiers (qualifiers_of d.what)) ds)

pub index_at : {S : Type 0} (m : IndexMap (Bor (List ℕ)) (Vec ℕ Global) S) (ds : List Declaration) → ∥ IsIndex m ds ∥₁ → (q : List ℕ) → places_at m q ≡ places (λ d. pointwise nat_eq q d.name.letters) 0 ds
index_at m ds h q = ∥∥₁_elim h (hlevel props) (λ f. f q)

-- ---- names with points

but_last : (n : List ℕ) (qs : List (List ℕ)) (last : List ℕ) → all_but_last n (qs ++ last ∷ []) ≡ n ∷ qs
but_last n [] last = refl
but_last n (q ∷ qs) last = ap (λ u. n ∷ u) (but_last q qs last)

last_is : (n : List ℕ) (qs : List (List ℕ)) (last : List ℕ) → last_of n (qs ++ last ∷ []) ≡ last
last_is n [] last = refl
last_is n (q ∷ qs) last = last_is q qs last

split_mean : (blocks : List Block) (block : ℕ) (qs : List (List ℕ)) (last : List ℕ) → names_mean blocks block (qs ++ last ∷ []) ≡ means blocks block qs last
split_mean blocks block [] last = refl
split_mean blocks block (q ∷ qs) last = ap (λ u. means blocks block u (last_of q (qs ++ last ∷ []))) (but_last q qs last) ∙ ap (means blocks block (q ∷ qs)) (last_is q qs last)

pub names_split : (blocks : List Block) (block : ℕ) (names qs : List (List ℕ)) (last : List ℕ) → names ≡ qs ++ last ∷ [] → names_mean blocks block names ≡ means blocks block qs last
names_split blocks block names qs last e = ap (names_mean blocks block) e ∙ split_mean blocks block qs last

-- what a block's places of a name come to
pub found_is : (qualifiers : List (List ℕ)) (last : List ℕ) (block : ℕ) (ds held : List Declaration) (candidates : List ℕ) (result : Found) → held ≡ ds → candidates ≡ places (λ d. pointwise nat_eq last d.name.letters) 0 ds → result ≡ going block F.None (filter (full_at qualifiers held) candidates) (filter (part_at qualifiers held) candidates) → result ≡ means_in qualifiers last block ds
found_is qualifiers last block ds held candidates result e f g =
    g ∙ ap (λ u. going block F.None (filter (full_at qualifiers u) candidates) (filter (part_at qualifiers u) candidates)) e
    ∙ ap (λ u. going block F.None (filter (full_at qualifiers ds) u) (filter (part_at qualifiers ds) u)) f
    ∙ sym (means_is qualifiers last block ds)

-- ---- the blocks around

pub around_step : (blocks : List Block) (b : ℕ) (bs rest : List ℕ) (qualifiers : List (List ℕ)) (last : List ℕ) (target : Found) → bs ≡ b ∷ rest → means_from blocks bs qualifiers last ≡ target → or_else (means_in qualifiers last b (declarations_of (slice_get blocks b))) (means_from blocks rest qualifiers last) ≡ target
unfolding means_from
around_step blocks b bs rest qualifiers last target e h = ap (λ u. means_from blocks u qualifiers last) (sym e) ∙ h

-- an answer that isn't none is the answer; after none it is what the blocks further out answer
pub around_found : (blocks : List Block) (b : ℕ) (bs rest : List ℕ) (qualifiers : List (List ℕ)) (last : List ℕ) (target found : Found) → bs ≡ b ∷ rest → means_from blocks bs qualifiers last ≡ target → found ≡ means_in qualifiers last b (declarations_of (slice_get blocks b)) → or_else found (means_from blocks rest qualifiers last) ≡ target
around_found blocks b bs rest qualifiers last target found e h f = ap (λ u. or_else u (means_from blocks rest qualifiers last)) f ∙ around_step blocks b bs rest qualifiers last target e h

pub around_ended : (blocks : List Block) (qualifiers : List (List ℕ)) (last : List ℕ) → F.None ≡ means_from blocks [] qualifiers last
unfolding means_from
around_ended blocks qualifiers last = refl

pub number_here : (ns : List ℕ) (i : ℕ) → i < length ns → drop i ns ≡ get_or ns i 0 ∷ drop (i + 1) ns
number_here ns i h = drop-cons ns i 0 h ∙ ap (λ k. get_or ns i 0 ∷ drop k ns) (sym (add-one i))

-- ---- an element of a list that is shown

pub got : {X Y : Type 0} (f : X → Y) (ys xs : List X) (i : ℕ) (x : X) → ys ≡ xs → i < length ys → x ≡ get_or ys i x → slice_get (map f xs) i ≡ Some (f x)
got f ys xs i x e h g = ap (λ u. slice_get (map f u) i) (sym e) ∙ slice_get-map f ys i ∙ ap (option_map f) (slice_get-get_or ys i x h ∙ ap Some (sym g))

pub got_none : {X Y : Type 0} (f : X → Y) (ys xs : List X) (i : ℕ) → ys ≡ xs → length ys ≤ i → slice_get (map f xs) i ≡ None
got_none f ys xs i e h = ap (λ u. slice_get (map f u) i) (sym e) ∙ slice_get-map f ys i ∙ ap (option_map f) (slice_get_past ys i h)
