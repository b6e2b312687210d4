-- Leaves by their counts: the part that a member with its own members is, and the leaves of that part.
use Rattle.std.proofs.Common.{◌≡◌, ◌<◌, ◌≤◌, ◌+◌, ◌-◌, ℕ, zero, suc, Bool, true, false, List, [], ◌∷◌, ◌++◌, length, take, drop, map, min, refl, sym, ap, ◌∙◌, arith, append_assoc, append-nil, length-append, add-zero}
use Rattle.std.specs.Prelude.{if◌then◌else◌}
use Rattle.std.proofs.lemmas.Bool.Decides.{nat_tests}
use Rattle.std.proofs.lemmas.List.{drop_all, take-map, drop-map, drop_min, length-drop, take_min, take_all}
use Rattle.std.proofs.Math.Seq.{take-append_seam}
use Rattle.pli_declare.proofs.Chains.{drop_here}
use Rattle.pli_language.specs.declared.expr.Place.{Place}
use Rattle.pli_language.specs.Declarations.{Held}
use Rattle.pli_language.specs.Declaring.{is_deeper}
use Rattle.pli_typing.specs.TypedTree as Y
use Rattle.pli_typing.specs.Variables.{from_place, is_at, leaves_in, part_from, while_deeper, with_members}
use Rattle.pli_variables.specs.Counts.{count_at, counts_in, leaves_at, part_behind}
use Rattle.pli_variables.specs.Held.{leaf_first}
use Rattle.pli_variables.proofs.Grouping.{leaves_before, leaves_on}

-- ---- the loop that counts

pub length_if : {X : Type 0} (t : Bool) (xs ys : List X) → length (if t then xs else ys) ≡ (if t then length xs else length ys)
length_if true xs ys = refl
length_if false xs ys = refl

-- ---- counts from any place on

pub count_drop : (all : List Held) (k : ℕ) → k ≤ length all → count_at (counts_in all) k ≡ length (leaves_in (drop k all))
count_drop [] zero h = refl
count_drop [] (suc k) h = absurd (omega (arith, h))
count_drop (a ∷ all) zero h = refl
count_drop (a ∷ all) (suc k) h = let less : k ≤ length all = omega (arith, h) in count_drop all k less

-- the second list is the end of the first
record Behind (all : List Held) (last : List Held) : Type 0 where
  before : List Held
  is : all ≡ before ++ last

-- the leaves behind a place are the last ones
leaves_drop : (all : List Held) (k : ℕ) → Behind (leaves_in all) (leaves_in (drop k all))
leaves_drop all zero = record { before = []; is = refl }
leaves_drop [] (suc k) = record { before = []; is = refl }
leaves_drop (a ∷ all) (suc k) =
    let rest = leaves_drop all k in
    record { before = leaf_first a all ++ rest.before; is = leaves_before a all ∙ ap (λ u. leaf_first a all ++ u) rest.is ∙ sym (append_assoc (leaf_first a all) rest.before (leaves_in (drop k all))) }

-- what stands behind a variable with its members
abbrev behind : Held → List Held → List Held
behind h [] = []
behind h (m ∷ ms) = if is_deeper h m then behind h ms else m ∷ ms

behind_drop : (h : Held) (ms : List Held) → behind h ms ≡ drop (length (while_deeper h ms)) ms
behind_drop h [] = refl
behind_drop h (m ∷ ms) = go (behind_drop h ms) (is_deeper h m)
  where
    go : behind h ms ≡ drop (length (while_deeper h ms)) ms → (t : Bool) → (if t then behind h ms else m ∷ ms) ≡ drop (length (if t then m ∷ while_deeper h ms else [])) (m ∷ ms)
    go more true = more
    go more false = refl

-- no deeper than the one, no deeper than what is deeper than that
no_deeper : (h x m : Held) → length h.above ≤ length x.above → is_deeper h m ≡ false → is_deeper x m ≡ false
no_deeper h x m le e = grind (arith, nat_tests, le, e)

-- leaves of a variable with its members, then those behind
leaves_parted : (h x : Held) (ms : List Held) → length h.above ≤ length x.above → leaves_in (x ∷ ms) ≡ leaves_in (x ∷ while_deeper h ms) ++ leaves_in (behind h ms)
leaves_parted h x [] le = sym (append-nil (x ∷ []))
leaves_parted h x (m ∷ ms) le = go (λ k. leaves_parted h m ms k) (is_deeper h m) refl
  where
    go : (length h.above ≤ length m.above → leaves_in (m ∷ ms) ≡ leaves_in (m ∷ while_deeper h ms) ++ leaves_in (behind h ms)) → (t : Bool) → is_deeper h m ≡ t → leaves_in (x ∷ m ∷ ms) ≡ leaves_in (x ∷ (if is_deeper h m then m ∷ while_deeper h ms else [])) ++ leaves_in (if is_deeper h m then behind h ms else m ∷ ms)
    go more true e =
        let deep : length h.above ≤ length m.above = grind (arith, nat_tests, e) in
        leaves_before x (m ∷ ms) ∙ ap (λ u. leaf_first x (m ∷ ms) ++ u) (more deep)
        ∙ sym (append_assoc (leaf_first x (m ∷ ms)) (leaves_in (m ∷ while_deeper h ms)) (leaves_in (behind h ms)))
        ∙ ap (λ u. u ++ leaves_in (behind h ms)) (sym (leaves_before x (m ∷ while_deeper h ms)))
        ∙ ap (λ t. leaves_in (x ∷ (if t then m ∷ while_deeper h ms else [])) ++ leaves_in (if t then behind h ms else m ∷ ms)) (sym e)
    go more false e =
        ap (λ t. if t then leaves_in (m ∷ ms) else x ∷ leaves_in (m ∷ ms)) (no_deeper h x m le e)
        ∙ ap (λ t. leaves_in (x ∷ (if t then m ∷ while_deeper h ms else [])) ++ leaves_in (if t then behind h ms else m ∷ ms)) (sym e)

leaves_with : (from : List Held) → leaves_in from ≡ leaves_in (with_members from) ++ leaves_in (drop (length (with_members from)) from)
leaves_with [] = refl
leaves_with (h ∷ hs) = leaves_parted h h hs le ∙ ap (λ u. leaves_in (h ∷ while_deeper h hs) ++ leaves_in u) (behind_drop h hs)
  where
    le : length h.above ≤ length h.above
    le = omega arith

-- ---- the part of a variable

from_length : (place : Place) (all : List Held) → length (from_place place all) ≤ length all
from_length place [] = omega arith
from_length place (h ∷ hs) = go (from_length place hs) (is_at place h)
  where
    go : length (from_place place hs) ≤ length hs → (t : Bool) → length (if t then h ∷ hs else from_place place hs) ≤ length (h ∷ hs)
    go rest true = omega arith
    go rest false = omega (arith, rest)

from_drop : (place : Place) (all : List Held) → from_place place all ≡ drop (length all - length (from_place place all)) all
from_drop place [] = refl
from_drop place (h ∷ hs) = go (from_length place hs) (from_drop place hs) (is_at place h)
  where
    go : length (from_place place hs) ≤ length hs → from_place place hs ≡ drop (length hs - length (from_place place hs)) hs → (t : Bool) → (if t then h ∷ hs else from_place place hs) ≡ drop (length (h ∷ hs) - length (if t then h ∷ hs else from_place place hs)) (h ∷ hs)
    go shorter more true = let none : length (h ∷ hs) - length (h ∷ hs) ≡ 0 = omega arith in ap (λ n. drop n (h ∷ hs)) (sym none)
    go shorter more false =
        let one : suc (length hs) - length (from_place place hs) ≡ suc (length hs - length (from_place place hs)) = omega (arith, shorter) in
        more ∙ ap (λ n. drop n (h ∷ hs)) (sym one)

while_length : (h : Held) (hs : List Held) → length (while_deeper h hs) ≤ length hs
while_length h [] = omega arith
while_length h (m ∷ ms) = go (while_length h ms) (is_deeper h m)
  where
    go : length (while_deeper h ms) ≤ length ms → (t : Bool) → length (if t then m ∷ while_deeper h ms else []) ≤ length (m ∷ ms)
    go rest true = omega (arith, rest)
    go rest false = omega arith

with_length : (from : List Held) → length (with_members from) ≤ length from
with_length [] = omega arith
with_length (h ∷ hs) = let few : length (while_deeper h hs) ≤ length hs = while_length h hs in omega (arith, few)

drop_none : {X : Type 0} (n : ℕ) → drop {A = X} n [] ≡ []
drop_none zero = refl
drop_none (suc n) = refl

drop_again : {X : Type 0} (i k : ℕ) (xs : List X) → drop (i + k) xs ≡ drop k (drop i xs)
drop_again zero k xs = ap (λ n. drop n xs) (zero_plus k)
  where
    zero_plus : (k : ℕ) → 0 + k ≡ k
    zero_plus k = omega arith
drop_again (suc i) k [] = drop_none (suc i + k) ∙ sym (drop_none k)
drop_again (suc i) k (x ∷ xs) = ap (λ n. drop n (x ∷ xs)) (next i k) ∙ drop_again i k xs
  where
    next : (i k : ℕ) → suc i + k ≡ suc (i + k)
    next i k = omega arith

abbrev part_by : ℕ → ℕ → Y.Part
part_by first count = record { first = first; count = count }

-- what the counts say at the places of a member and of what stands behind its own members
count_first : (all : List Held) → count_at (counts_in all) 0 ≡ length (leaves_in all)
count_first [] = refl
count_first (h ∷ hs) = refl

part_counted : (place : Place) (all : List Held) → part_behind (counts_in all) all (from_place place all) ≡ part_from all (from_place place all)
part_counted place all =
    let from = from_place place all in
    let i : ℕ = length all - length from in
    let size : ℕ = length (with_members from) in
    let shorter : length from ≤ length all = from_length place all in
    let fewer : size ≤ length from = with_length from in
    let within : i ≤ length all = omega arith in
    let reach : i + size ≤ length all = omega (arith, shorter, fewer) in
    let here : count_at (counts_in all) i ≡ length (leaves_in from) = count_drop all i within ∙ ap (λ u. length (leaves_in u)) (sym (from_drop place all)) in
    let past : count_at (counts_in all) (i + size) ≡ length (leaves_in (drop size from)) =
    count_drop all (i + size) reach ∙ ap (λ u. length (leaves_in u)) (drop_again i size all ∙ ap (drop size) (sym (from_drop place all))) in
    let parted : length (leaves_in from) ≡ length (leaves_in (with_members from)) + length (leaves_in (drop size from)) =
    ap length (leaves_with from) ∙ length-append (leaves_in (with_members from)) (leaves_in (drop size from)) in
    let count : count_at (counts_in all) i - count_at (counts_in all) (i + size) ≡ length (leaves_in (with_members from)) = omega (arith, here, past, parted) in
    let first : count_at (counts_in all) 0 - count_at (counts_in all) i ≡ length (leaves_in all) - length (leaves_in from) =
    ap (λ n. n - count_at (counts_in all) i) (count_first all) ∙ ap (λ n. length (leaves_in all) - n) here in
    ap (λ n. part_by n (count_at (counts_in all) i - count_at (counts_in all) (i + size))) first ∙ ap (part_by (length (leaves_in all) - length (leaves_in from))) count

drop_length : {X : Type 0} (xs ys : List X) → drop (length xs) (xs ++ ys) ≡ ys
drop_length [] ys = refl
drop_length (x ∷ xs) ys = drop_length xs ys

drop_seam : {X : Type 0} (xs ys : List X) (n : ℕ) → n ≡ length xs → drop n (xs ++ ys) ≡ ys
drop_seam xs ys n e = ap (λ k. drop k (xs ++ ys)) e ∙ drop_length xs ys

-- the leaves of the part are those of the member with its own members
part_taken : (place : Place) (all : List Held) → leaves_at (part_from all (from_place place all)) (leaves_in all) ≡ leaves_in (with_members (from_place place all))
part_taken place all =
    let from = from_place place all in
    let own = leaves_in (with_members from) in
    let rest = leaves_in (drop (length (with_members from)) from) in
    let last = leaves_drop all (length all - length from) in
    let is : leaves_in all ≡ last.before ++ leaves_in from = last.is ∙ ap (λ u. last.before ++ leaves_in u) (sym (from_drop place all)) in
    let many : length (leaves_in all) ≡ length last.before + length (leaves_in from) = ap length is ∙ length-append last.before (leaves_in from) in
    let first : length (leaves_in all) - length (leaves_in from) ≡ length last.before = omega (arith, many) in
    ap (λ u. take (length own) (drop (length (leaves_in all) - length (leaves_in from)) u)) is
    ∙ ap (take (length own)) (drop_seam last.before (leaves_in from) (length (leaves_in all) - length (leaves_in from)) first ∙ leaves_with from)
    ∙ take-append_seam own rest

pub part_is : (place : Place) (all : List Held) → part_behind (counts_in all) all (from_place place all) ≡ part_from all (from_place place all)
part_is place all = part_counted place all

pub leaves_are : {X : Type 0} (f : Held → X) (place : Place) (all : List Held) → leaves_at (part_behind (counts_in all) all (from_place place all)) (map f (leaves_in all)) ≡ map f (leaves_in (with_members (from_place place all)))
leaves_are f place all =
    let part = part_from all (from_place place all) in
    ap (λ p. leaves_at p (map f (leaves_in all))) (part_counted place all)
    ∙ ap (take part.count) (drop-map f part.first (leaves_in all)) ∙ take-map f part.count (drop part.first (leaves_in all))
    ∙ ap (map f) (part_taken place all)

-- ---- a slice of leaves

-- what stands from a place on, all that is there
slice_on : {X : Type 0} (n : ℕ) (xs : List X) → take (length xs - n) (drop n xs) ≡ drop n xs
slice_on n xs =
    let many : length (drop n xs) ≡ length xs - n = length-drop n xs in
    let within : length (drop n xs) ≤ length xs - n = omega (arith, many) in
    take_all (length xs - n) (drop n xs) within

-- the leaves of a part, where each of its ends is cut to what is there
pub part_cut : {H X : Type 0} (f : H → X) (part : Y.Part) (all : List H) (n k : ℕ) → n ≡ min part.first (length all) → k ≡ min part.count (length (take (length all - n) (drop n all))) → map f (take k (take (length all - n) (drop n all))) ≡ leaves_at part (map f all)
part_cut f part all n k e g =
    let from : take (length all - n) (drop n all) ≡ drop part.first all = slice_on n all ∙ ap (λ m. drop m all) e ∙ drop_min part.first all in
    ap (λ m. map f (take m (take (length all - n) (drop n all)))) g
    ∙ ap (λ u. map f (take (min part.count (length u)) u)) from
    ∙ ap (map f) (take_min part.count (drop part.first all))
    ∙ sym (take-map f part.count (drop part.first all))
    ∙ ap (take part.count) (sym (drop-map f part.first all))

pub ruleset counts = (drop_here, drop_all, append_assoc, append-nil, leaves_on, length_if)
