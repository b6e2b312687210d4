-- What the REFER member of a generation tells, as code reads it.
use Rattle.std.proofs.Common.{◌≡◌, ℕ, zero, suc, ◌+◌, ◌-◌, ◌*◌, ◌<◌, ◌≤◌, ◌^◌, ℤ, List, [], ◌∷◌, length, map, get_or, Option, Some, None, Result, Ok, Err, Bool, true, false, refl, sym, ap, ◌∙◌, arith}
use Rattle.std.specs.Prelude.{◌&&◌, ◌==◌, MatchResult, int_le, nat_lt, pos, slice_get, unwrap_or, if◌then◌else◌}
use Rattle.std.proofs.lemmas.Bool.Decides.{nat_tests}
use Rattle.rv_meaning.specs.Words.{word}
use Rattle.pli_typing.specs.Signatures.{LeafKind, Fixed, Character, Varying, Bit, Pointer, Offset, Area, Bounds, Leaf, capped}
use Rattle.pli_types.specs.Templates.{leaf_so_far}
use Rattle.pli_types.specs.View.{leaf_of}
use Rattle.pli_types.specs.declared.signature.Leaf as P
use Rattle.pli_meaning.specs.Contents.{Shape, element_place, last_refers, leaf_refers, leaves_refer, leaves_with, number_in}
use Rattle.pli_meaning.specs.Evaluating.{extent_by, leaf_at, lower_or_zero}
use Rattle.pli_meaning.specs.Unreachable.{unreachable_leaf}
use Rattle.pli_answering.specs.declared.reply.Refusal.{Refusal}
use Rattle.pli_answering.specs.declared.reply.Refusal.TheVariants.{Memory}
use Rattle.pli_serving.specs.Answers.{Answer, Done}
use Rattle.pli_serving.specs.Bytes.{number_bytes, with_bytes}
use Rattle.pli_serving.specs.Finding.{Call, Found}
use Rattle.pli_serving.specs.Names.{extent_word, refer_answered, with_extent}
use Rattle.pli_serving.specs.Outcomes.{or_bad}
use Rattle.pli_serving.specs.Values.{element_address, element_size, generation_at, leaf_place, value_at}
use Rattle.pli_signatures.specs.Whole.{leaf_in, place_in}
use Rattle.pli_allocation.specs.Referring.{extent_kept, first_lower, last_of, least_by, member_number, member_of, refer_of_shape, told_answered, whole_part, word_by}

-- ---- the number that a member holds

no_element : (bounds : List Bounds) → element_place bounds [] ≡ 0
no_element [] = refl
no_element (b ∷ bs) = refl

times_zero : (n : ℕ) → n * 0 ≡ 0
times_zero n = omega arith

address_is : (leaves : List Leaf) (leaf : ℕ) (l : Leaf) (at : ℕ) → element_address leaves leaf l [] at ≡ at + leaf_place leaves leaf
address_is leaves leaf l at =
    let none : element_size l.kind * element_place l.bounds [] ≡ 0 = ap (λ n. element_size l.kind * n) (no_element l.bounds) ∙ times_zero (element_size l.kind) in
    omega (arith, none)

place_is : (n place : ℕ) → place ≡ capped n → place < 2 ^ 32 → n ≡ place
place_is n place e h = omega (arith, e, h)

pub member_is : (o : Option Shape) (f : Found) (member place : ℕ) (l : Leaf) (m : List ℕ) (z : ℤ) → Some l ≡ leaf_in o member f.extent → Some place ≡ place_in o member f.extent → place < 2 ^ 32 → z ≡ number_in (value_at l.kind (f.at + place) m) → z ≡ member_number o f member m
member_is None f member place l m z e p small r = cc
member_is (Some s) f member place l m z e p small r = by_test (nat_lt member (length s.signature.leaves)) p
  where
    by_test : (t : Bool) → Some place ≡ (if t then Some (capped (leaf_place (leaves_with f.extent s) member)) else None) → z ≡ member_of s f member m
    by_test false p = cc
    by_test true p =
        let capped_is : place ≡ capped (leaf_place (leaves_with f.extent s) member) = cc in
        r
        ∙ ap (λ n. number_in (value_at l.kind (f.at + n) m)) (sym (place_is _ place capped_is small))
        ∙ ap (λ at. number_in (value_at l.kind at m)) (sym (address_is (leaves_with f.extent s) member l f.at))
        ∙ ap (λ (o : Option Leaf). number_in (value_at (unwrap_or o unreachable_leaf).kind (element_address (leaves_with f.extent s) member (unwrap_or o unreachable_leaf) [] f.at) m)) e

pub number_told : (o : Option Shape) (f : Found) (member place : ℕ) (l : Leaf) (m : List ℕ) (r : Result ℤ Refusal) → Some l ≡ leaf_in o member f.extent → Some place ≡ place_in o member f.extent → MatchResult r (λ z. (place < 2 ^ 32) × (z ≡ number_in (value_at l.kind (f.at + place) m))) (λ refusal. refusal ≡ Memory) → MatchResult r (λ z. z ≡ member_number o f member m) (λ refusal. refusal ≡ Memory)
number_told o f member place l m (Ok z) e p r = member_is o f member place l m z e p r.0 r.1
number_told o f member place l m (Err refusal) e p r = r

pub no_member : (o : Option Shape) (f : Found) (member : ℕ) (m : List ℕ) → None ≡ leaf_in o member f.extent → pos 0 ≡ member_number o f member m
no_member None f member m e = refl
no_member (Some s) f member m e = ap (λ (o : Option Leaf). number_in (value_at (unwrap_or o unreachable_leaf).kind (element_address (leaves_with f.extent s) member (unwrap_or o unreachable_leaf) [] f.at) m)) e

-- ---- the last leaf

abbrev all_so_far : List P.Leaf → List Leaf
all_so_far ls = map leaf_so_far (map leaf_of ls)

pub last_is : (ls : List P.Leaf) (l : P.Leaf) → 0 < length ls → l ≡ get_or ls (length ls - 1) l → last_of (all_so_far ls) ≡ leaf_so_far (leaf_of l)
last_is [] l some e = absurd (omega (arith, some))
last_is (k ∷ []) l some e = ap (λ (l : P.Leaf). leaf_so_far (leaf_of l)) (sym e)
last_is (k ∷ m ∷ ls) l some e =
    let at : length (k ∷ m ∷ ls) - 1 ≡ suc (length (m ∷ ls) - 1) = omega arith in
    last_is (m ∷ ls) l (omega arith) (e ∙ ap (λ i. get_or (k ∷ m ∷ ls) i l) at)

pub none_last : (ls : List P.Leaf) → length ls ≡ 0 → None ≡ first_lower (last_of (all_so_far ls)).bounds
none_last [] e = refl
none_last (l ∷ ls) e = absurd (omega (arith, e))

-- whatever REFER tells, the last leaf has the lower bound that it has
refers_lower : (z : ℤ) (kind : LeafKind) (bounds : List Bounds) → lower_or_zero (leaf_refers z kind bounds).bounds ≡ least_by (first_lower bounds)
refers_lower z kind (b ∷ bs) = refl
refers_lower z (Fixed p) [] = refl
refers_lower z (Character n) [] = refl
refers_lower z (Varying n) [] = refl
refers_lower z Bit [] = refl
refers_lower z Pointer [] = refl
refers_lower z Offset [] = refl
refers_lower z (Area n) [] = refl

lower_is : (bounds : List Bounds) → lower_or_zero bounds ≡ least_by (first_lower bounds)
lower_is [] = refl
lower_is (b ∷ bs) = refl

abbrev least_in : List Leaf → ℕ → ℤ
least_in ls n = lower_or_zero (unwrap_or (slice_get ls (n - 1)) unreachable_leaf).bounds

last_lower : (z : ℤ) (ls : List Leaf) → least_in (last_refers z ls) (length ls) ≡ least_by (first_lower (last_of ls).bounds)
last_lower z [] = refl
last_lower z (l ∷ []) = refers_lower z l.kind l.bounds
last_lower z (l ∷ m ∷ ls) =
    let at : length (l ∷ m ∷ ls) - 1 ≡ suc (length (m ∷ ls) - 1) = omega arith in
    ap (λ i. lower_or_zero (unwrap_or (slice_get (l ∷ last_refers z (m ∷ ls)) i) unreachable_leaf).bounds) at ∙ last_lower z (m ∷ ls)

least_is : (s : Shape) (z : ℤ) (member : ℕ) → s.refer ≡ Some member → lower_or_zero (leaf_at s z (length s.signature.leaves - 1)).bounds ≡ least_by (first_lower (last_of s.signature.leaves).bounds)
least_is s z member e =
    ap (λ o. least_in (leaves_refer z o s.signature.leaves) (length s.signature.leaves)) e ∙ last_lower z s.signature.leaves

word_is : (ls : List Leaf) → extent_word ls ≡ word_by (first_lower (last_of ls).bounds)
word_is [] = refl
word_is (l ∷ []) = by_bounds l.kind l.bounds
  where
    by_bounds : (kind : LeafKind) (bounds : List Bounds) → extent_word (record { kind = kind; bounds = bounds } ∷ []) ≡ word_by (first_lower bounds)
    by_bounds kind [] = refl
    by_bounds kind (b ∷ bs) = refl
word_is (l ∷ m ∷ ls) = word_is (m ∷ ls)

-- ---- the service by what was read

same_count : (n : ℕ) → (0 + n == n) ≡ true
same_count n = grind (arith, nat_tests)

kept_as : (c : Call) (s : Shape) (buffer member : ℕ) (z : ℤ) → with_extent c s buffer z (Some member) ≡ extent_kept c buffer (word_by (first_lower (last_of s.signature.leaves).bounds)) z
kept_as c s buffer member z = ap (λ n. extent_kept c buffer n z) (word_is s.signature.leaves)

answered_by : (c : Call) (s : Shape) (name buffer member : ℕ) (extent z : ℤ) → s.refer ≡ Some member → (t : Bool) → refer_answered c s name buffer (if t then Some z else None) ≡ (if t then or_bad (extent_kept c buffer (word_by (first_lower (last_of s.signature.leaves).bounds)) z) (λ m. Done c.services m (word z) 0) else Done c.services c.memory name 107)
answered_by c s name buffer member extent z e true =
    ap (λ (o : Option ℕ). or_bad (with_extent c s buffer z o) (λ m. Done c.services m (word z) 0)) e
    ∙ ap (λ (o : Option (List ℕ)). or_bad o (λ m. Done c.services m (word z) 0)) (kept_as c s buffer member z)
answered_by c s name buffer member extent z e false = refl

told_is : (c : Call) (name buffer : ℕ) (f : Found) (s : Shape) (member : ℕ) → s.refer ≡ Some member → refer_of_shape c name buffer f s ≡ told_answered c name buffer f.extent (member_of s f member c.memory) (first_lower (last_of s.signature.leaves).bounds)
told_is c name buffer f s member e =
    let z = member_of s f member c.memory in
    let least = lower_or_zero (leaf_at s f.extent (length s.signature.leaves - 1)).bounds in
    ap (λ (o : Option ℕ). refer_answered c s name buffer (extent_by (generation_at s f.extent f.at c.memory) (whole_part s) o)) e
    ∙ ap (λ (t : Bool). refer_answered c s name buffer (if t then (if int_le least z && int_le z f.extent then Some z else None) else Some f.extent)) (same_count (length s.signature.leaves))
    ∙ ap (λ (l : ℤ). refer_answered c s name buffer (if int_le l z && int_le z f.extent then Some z else None)) (least_is s f.extent member e)
    ∙ answered_by c s name buffer member f.extent z e (int_le (least_by (first_lower (last_of s.signature.leaves).bounds)) z && int_le z f.extent)

pub told_by_member : (c : Call) (name buffer : ℕ) (f : Found) (s : Shape) (o : Option Shape) (member : ℕ) (z : ℤ) (lower : Option ℤ) → o ≡ Some s → s.refer ≡ Some member → z ≡ member_number o f member c.memory → lower ≡ first_lower (last_of s.signature.leaves).bounds → refer_of_shape c name buffer f s ≡ told_answered c name buffer f.extent z lower
told_by_member c name buffer f s o member z lower w e k l =
    told_is c name buffer f s member e
    ∙ ap (λ z. told_answered c name buffer f.extent z (first_lower (last_of s.signature.leaves).bounds)) (ap (λ o. member_number o f member c.memory) (sym w) ∙ sym k)
    ∙ ap (told_answered c name buffer f.extent z) (sym l)

pub told_by_none : (c : Call) (name buffer : ℕ) (f : Found) (s : Shape) → s.refer ≡ None → refer_of_shape c name buffer f s ≡ Done c.services c.memory (word f.extent) 0
told_by_none c name buffer f s e =
    ap (λ (o : Option ℕ). refer_answered c s name buffer (extent_by (generation_at s f.extent f.at c.memory) (whole_part s) o)) e
    ∙ ap (λ (o : Option ℕ). or_bad (with_extent c s buffer f.extent o) (λ m. Done c.services m (word f.extent) 0)) e
