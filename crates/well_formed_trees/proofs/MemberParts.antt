-- Which leaves a member of a structure is, and how many dimensions it has, by depths alone as by what is declared.
use Rattle.std.proofs.Common.{◌≡◌, ℕ, zero, suc, ◌+◌, ◌-◌, ◌≤◌, Bool, true, false, List, [], ◌∷◌, ◌++◌}
use Rattle.std.proofs.Common.{map, length, Some, if◌then◌else◌, refl, sym, ap, ◌∙◌, subst, arith}
use Rattle.std.specs.Prelude.{slice_get, nat_lt, take, drop, ⊤}
use Rattle.std.specs.List.{flat_map, sum}
use Rattle.std.proofs.lemmas.Bool.Decides.{nat_tests}
use Rattle.std.proofs.lemmas.List.{length-append, map-append}
use Rattle.std.proofs.lemmas.List.Sums.{sum_by-append}
use Rattle.pli_language.specs.Declarations.{Variable, Held, dimensions_of}
use Rattle.pli_language.specs.Declaring.{same_place, is_deeper}
use Rattle.pli_typing.specs.TypedTree as Y
use Rattle.pli_typing.specs.Generations.{member_held}
use Rattle.pli_typing.specs.Variables as V
use Rattle.pli_typing.specs.Variables.{leaves_in, with_members, is_at, from_place}
use Rattle.well_formed_trees.specs.Members as M
use Rattle.well_formed_trees.proofs.Places.{same_some}
use Rattle.well_formed_trees.proofs.DeclaredOnce.{total, spot_one, one_of_total}
use Rattle.well_formed_trees.proofs.Structures.{Begins, AreHeld, IsStructure, at_held}

-- ---- members by their depths

pub among_are : (hs : List Held) → M.leaves_among (map member_held hs) ≡ length (leaves_in hs)
among_are [] = refl
among_are (a ∷ []) = refl
among_are (a ∷ b ∷ more) = by (is_deeper a b) (among_are (b ∷ more)) where
  by : (t : Bool) → M.leaves_among (map member_held (b ∷ more)) ≡ length (leaves_in (b ∷ more))
      → (if t then M.leaves_among (map member_held (b ∷ more)) else suc (M.leaves_among (map member_held (b ∷ more))))
      ≡ length (if t then leaves_in (b ∷ more) else a ∷ leaves_in (b ∷ more))
  by true e = e
  by false e = ap suc e

deeper_are : (h : Held) (hs : List Held)
    → M.while_deeper (length h.above) (map member_held hs) ≡ map member_held (V.while_deeper h hs)
deeper_are h [] = refl
deeper_are h (m ∷ ms) = by (is_deeper h m) (deeper_are h ms) where
  by : (t : Bool) → M.while_deeper (length h.above) (map member_held ms) ≡ map member_held (V.while_deeper h ms)
      → (if t then member_held m ∷ M.while_deeper (length h.above) (map member_held ms) else [])
      ≡ map member_held (if t then m ∷ V.while_deeper h ms else [])
  by true e = ap (λ l. member_held m ∷ l) e
  by false e = refl

first_are : (hs : List Held) → M.first_member (map member_held hs) ≡ map member_held (with_members hs)
first_are [] = refl
first_are (h ∷ hs) = ap (λ l. member_held h ∷ l) (deeper_are h hs)

pub map_length : {X Z : Type 0} (f : X → Z) (xs : List X) → length (map f xs) ≡ length xs
map_length f [] = refl
map_length f (x ∷ xs) = ap suc (map_length f xs)

drop_map : {X Z : Type 0} (f : X → Z) (n : ℕ) (xs : List X) → drop n (map f xs) ≡ map f (drop n xs)
drop_map f zero xs = refl
drop_map f (suc n) [] = refl
drop_map f (suc n) (x ∷ xs) = drop_map f n xs

-- a part is the same either way
pub part_same : (all : List Held) (place : ℕ)
    → V.part_from all (drop place all) ≡ M.part_from (map member_held all) (drop place (map member_held all))
part_same all place =
    let from = drop place all in
    let a : M.leaves_among (map member_held all) ≡ length (leaves_in all) = among_are all in
    let d : drop place (map member_held all) ≡ map member_held from = drop_map member_held place all in
    let b : M.leaves_among (map member_held from) ≡ length (leaves_in from) = among_are from in
    let c : M.leaves_among (M.first_member (map member_held from)) ≡ length (leaves_in (with_members from)) =
    ap M.leaves_among (first_are from) ∙ among_are (with_members from) in
    sym (ap (λ l. M.part_from (map member_held all) l) d
    ∙ (ap (λ n. record {
      first = n - M.leaves_among (map member_held from);
      count = M.leaves_among (M.first_member (map member_held from));
    }) a
    ∙ (ap (λ n. record {
      first = length (leaves_in all) - n;
      count = M.leaves_among (M.first_member (map member_held from));
    }) b
    ∙ ap (λ n. record { first = length (leaves_in all) - length (leaves_in from); count = n }) c)))

-- ---- leaves of a part

abbrev behind_deeper : Held → List Held → List Held
behind_deeper h [] = []
behind_deeper h (m ∷ ms) = if is_deeper h m then behind_deeper h ms else m ∷ ms

-- a member that is as deep or deeper, with what follows it
leaves_split : (h m : Held) (hs : List Held) → length h.above ≤ length m.above
    → leaves_in (m ∷ hs) ≡ leaves_in (m ∷ V.while_deeper h hs) ++ leaves_in (behind_deeper h hs)
leaves_split h m [] d = refl
leaves_split h m (y ∷ ys) d = by (is_deeper h y) refl (λ e. leaves_split h y ys (below e)) where
  below : is_deeper h y ≡ true → length h.above ≤ length y.above
  below e = lt (length h.above) (length y.above) e where
    lt : (n k : ℕ) → nat_lt n k ≡ true → n ≤ k
    lt n k e = grind (arith, nat_tests)

  flat : is_deeper h y ≡ false → is_deeper m y ≡ false
  flat e = not_lt (length h.above) (length m.above) (length y.above) d e where
    not_lt : (n k j : ℕ) → n ≤ k → nat_lt n j ≡ false → nat_lt k j ≡ false
    not_lt n k j h e = grind (arith, nat_tests)

  inner : (t : Bool) → leaves_in (y ∷ ys) ≡ leaves_in (y ∷ V.while_deeper h ys) ++ leaves_in (behind_deeper h ys)
      → (if t then leaves_in (y ∷ ys) else m ∷ leaves_in (y ∷ ys))
      ≡ (if t then leaves_in (y ∷ V.while_deeper h ys) else m ∷ leaves_in (y ∷ V.while_deeper h ys))
      ++ leaves_in (behind_deeper h ys)
  inner true e = e
  inner false e = ap (λ l. m ∷ l) e

  by : (t : Bool) → is_deeper h y ≡ t
      → (is_deeper h y ≡ true
      → leaves_in (y ∷ ys) ≡ leaves_in (y ∷ V.while_deeper h ys) ++ leaves_in (behind_deeper h ys))
      → leaves_in (m ∷ y ∷ ys)
      ≡ leaves_in (m ∷ (if t then y ∷ V.while_deeper h ys else []))
      ++ leaves_in (if t then behind_deeper h ys else y ∷ ys)
  by true e k = inner (is_deeper m y) (k e)
  by false e k = ap (λ b. if b then leaves_in (y ∷ ys) else m ∷ leaves_in (y ∷ ys)) (flat e)

pub first_leaves : (h : Held) (hs : List Held)
    → leaves_in (h ∷ hs) ≡ leaves_in (with_members (h ∷ hs)) ++ leaves_in (behind_deeper h hs)
first_leaves h hs = leaves_split h h hs (omega arith)

-- the leaves of the last ones are last among all
leaves_end : (all : List Held) (place : ℕ) (h : Held) (hs : List Held) → drop place all ≡ h ∷ hs
    → (before : List Held) × (leaves_in all ≡ before ++ leaves_in (h ∷ hs))
leaves_end all zero h hs e = ([], ap leaves_in e)
leaves_end [] (suc place) h hs e = absurd (cc e)
leaves_end (x ∷ []) (suc zero) h hs e = absurd (cc e)
leaves_end (x ∷ []) (suc (suc place)) h hs e = absurd (cc e)
leaves_end (x ∷ y ∷ ys) (suc place) h hs e = by (is_deeper x y) (leaves_end (y ∷ ys) place h hs e) where
  by : (t : Bool) → (before : List Held) × (leaves_in (y ∷ ys) ≡ before ++ leaves_in (h ∷ hs))
      → (before : List Held) × ((if t then leaves_in (y ∷ ys) else x ∷ leaves_in (y ∷ ys))
      ≡ before ++ leaves_in (h ∷ hs))
  by true k = k
  by false k = (x ∷ k.0, ap (λ l. x ∷ l) k.1)

pub drop_there : {X : Type 0} (xs : List X) (i : ℕ) (x : X) → slice_get xs i ≡ Some x
    → (ys : List X) × (drop i xs ≡ x ∷ ys)
drop_there [] i x e = absurd (cc e)
drop_there (y ∷ ys) zero x e = (ys, ap (λ z. z ∷ ys) (same_some y x e))
drop_there (y ∷ ys) (suc i) x e = drop_there ys i x e

some_leaf : (h : Held) (hs : List Held) → 1 ≤ length (leaves_in (h ∷ hs))
some_leaf h [] = omega arith
some_leaf h (y ∷ ys) = by (is_deeper h y) (some_leaf y ys) where
  by : (t : Bool) → 1 ≤ length (leaves_in (y ∷ ys))
      → 1 ≤ length (if t then leaves_in (y ∷ ys) else h ∷ leaves_in (y ∷ ys))
  by true e = e
  by false e = omega arith

take_first : {X : Type 0} (xs ys : List X) → take (length xs) (xs ++ ys) ≡ xs
take_first [] ys = refl
take_first (x ∷ xs) ys = ap (λ l. x ∷ l) (take_first xs ys)

drop_first : {X : Type 0} (xs ys : List X) → drop (length xs) (xs ++ ys) ≡ ys
drop_first [] ys = refl
drop_first (x ∷ xs) ys = drop_first xs ys

-- what the part of a member says, in leaves of any kind
pub record PartOf {X : Type 0} (leaf : Held → X) (all : List Held) (part : Y.Part) (own : List Held) : Type 0 where
  pub some : 1 ≤ part.count
  pub within : part.first + part.count ≤ length (map leaf (leaves_in all))
  pub leaves : take part.count (drop part.first (map leaf (leaves_in all))) ≡ map leaf own

pub part_of_member : {X : Type 0} (leaf : Held → X) (all : List Held) (place : ℕ) (h : Held)
    → slice_get all place ≡ Some h
    → PartOf leaf all (V.part_from all (drop place all)) (leaves_in (with_members (drop place all)))
part_of_member leaf all place h e =
    let there = drop_there all place h e in
    let hs = there.0 in
    let before = leaves_end all place h hs there.1 in
    let own = leaves_in (with_members (h ∷ hs)) in
    let rest = leaves_in (behind_deeper h hs) in
    let split : leaves_in (h ∷ hs) ≡ own ++ rest = first_leaves h hs in
    let whole : leaves_in all ≡ before.0 ++ (own ++ rest) = before.1 ∙ ap (λ l. before.0 ++ l) split in
    subst (λ from. PartOf leaf all (V.part_from all from) (leaves_in (with_members from))) (sym there.1)
    (made before.0 own rest (h ∷ hs) split whole (some_leaf h (V.while_deeper h hs))) where
      made : (before own rest from : List Held) → leaves_in from ≡ own ++ rest
          → leaves_in all ≡ before ++ (own ++ rest) → 1 ≤ length own
          → PartOf leaf all
          (record { first = length (leaves_in all) - length (leaves_in from); count = length own }) own
      made before own rest from s w some =
          let a : length (leaves_in all) ≡ length before + length (own ++ rest) =
          ap length w ∙ length-append before (own ++ rest) in
          let b : length (leaves_in from) ≡ length (own ++ rest) = ap length s in
          let c : length (own ++ rest) ≡ length own + length rest = length-append own rest in
          let first : length (leaves_in all) - length (leaves_in from) ≡ length before = omega (arith, a, b) in
          let long : length (map leaf (leaves_in all)) ≡ length (leaves_in all) = map_length leaf (leaves_in all) in
          let mapped : map leaf (leaves_in all) ≡ map leaf before ++ (map leaf own ++ map leaf rest) =
          ap (map leaf) w ∙ (map-append leaf before (own ++ rest)
          ∙ ap (λ l. map leaf before ++ l) (map-append leaf own rest)) in
          let lb : length before ≡ length (map leaf before) = sym (map_length leaf before) in
          let lo : length own ≡ length (map leaf own) = sym (map_length leaf own) in
          record {
            some = some;
            within = omega (arith, first, long, a, c);
            leaves =
                ap (λ n. take (length own) (drop n (map leaf (leaves_in all)))) (first ∙ lb)
                ∙ (ap (λ l. take (length own) (drop (length (map leaf before)) l)) mapped
                ∙ (ap (take (length own)) (drop_first (map leaf before) (map leaf own ++ map leaf rest))
                ∙ (ap (λ n. take n (map leaf own ++ map leaf rest)) lo
                ∙ take_first (map leaf own) (map leaf rest))));
          }

heads : {X : Type 0} (y x : X) → y ∷ [] ≡ x ∷ [] → y ≡ x
heads y x e = cc e

-- one leaf of what is there
pub one_leaf : {X : Type 0} (xs : List X) (first : ℕ) (x : X) → take 1 (drop first xs) ≡ x ∷ []
    → slice_get xs first ≡ Some x
one_leaf [] zero x e = absurd (cc e)
one_leaf [] (suc first) x e = absurd (cc e)
one_leaf (y ∷ ys) zero x e = ap Some (heads y x e)
one_leaf (y ∷ ys) (suc first) x e = one_leaf ys first x e

-- ---- where a member stands among them

pub from_there : (all : List Held) (i : ℕ) (h : Held) → slice_get all i ≡ Some h
    → total (at_held h.variable.declared.name.place) all ≤ 1
    → same_place h.variable.declared.name.place h.variable.declared.name.place ≡ true
    → from_place h.variable.declared.name.place all ≡ drop i all
from_there [] i h e t s = absurd (cc e)
from_there (x ∷ xs) zero h e t s =
    let p = h.variable.declared.name.place in
    let same : x ≡ h = same_some x h e in
    let here : is_at p x ≡ true = ap (is_at p) same ∙ s in
    ap (λ b. if b then x ∷ xs else from_place p xs) here
from_there (x ∷ xs) (suc i) h e t s =
    let p = h.variable.declared.name.place in
    let later = one_of_total (at_held p) xs i h e in
    let one : 1 ≤ at_held p h = spot_one (same_place p p) s in
    by (is_at p x) refl (from_there xs i h e (omega (arith, t)) s) later one where
      by : (b : Bool) → is_at h.variable.declared.name.place x ≡ b
          → from_place h.variable.declared.name.place xs ≡ drop i xs
          → at_held h.variable.declared.name.place h ≤ total (at_held h.variable.declared.name.place) xs
          → 1 ≤ at_held h.variable.declared.name.place h
          → (if b then x ∷ xs else from_place h.variable.declared.name.place xs) ≡ drop i xs
      by false a k l o = k
      by true a k l o =
          let p = h.variable.declared.name.place in
          let here : 1 ≤ at_held p x = spot_one (is_at p x) a in
          absurd (omega (arith, here, l, o, t))

-- ---- dimensions

abbrev pub dimension_count : Variable → ℕ
dimension_count v = length (dimensions_of v)

sum_then : (n : ℕ) (ns : List ℕ) → sum (n ∷ ns) ≡ n + sum ns
sum_then n ns =
    let z : 0 + n ≡ n = omega arith in
    sum_by-append (λ k. k) (n ∷ []) ns ∙ ap (λ k. k + sum ns) z

lengths : (vs : List Variable) → sum (map dimension_count vs) ≡ length (flat_map dimensions_of vs)
lengths [] = refl
lengths (v ∷ vs) =
    sum_then (dimension_count v) (map dimension_count vs)
    ∙ (ap (λ n. dimension_count v + n) (lengths vs)
    ∙ sym (length-append (dimensions_of v) (flat_map dimensions_of vs)))

pub all_lengths : (h : Held)
    → sum (map dimension_count h.above) + dimension_count h.variable ≡ length (V.all_dimensions h)
all_lengths h =
    ap (λ n. n + dimension_count h.variable) (lengths h.above)
    ∙ sym (length-append (flat_map dimensions_of h.above) (dimensions_of h.variable))

-- each holds some of those before it
abbrev AreLinked : List Variable → List Held → Type 0
AreLinked chain [] = ⊤
AreLinked chain (m ∷ ms) = Begins m.above chain × AreLinked (m.above ++ m.variable ∷ []) ms

held_linked : (chain : List Variable) (ms : List Held) → AreHeld chain ms → AreLinked chain ms
held_linked chain [] h = tt
held_linked chain (m ∷ ms) h = (h.0, held_linked (m.above ++ m.variable ∷ []) ms h.1.1)

structure_linked : (all : List Held) → IsStructure all → AreLinked [] all
structure_linked [] s = absurd s
structure_linked (h ∷ ms) s = (
  ([], sym (ap (λ vs. vs ++ []) s.0)),
  subst (λ vs. AreLinked (vs ++ h.variable ∷ []) ms) (sym s.0) (held_linked (h.variable ∷ []) ms s.1),
)

take_held : (vs chain : List Variable) → Begins vs chain
    → take (length vs) (map dimension_count chain) ≡ map dimension_count vs
take_held [] chain b = refl
take_held (v ∷ vs) chain b =
    ap (λ l. take (suc (length vs)) (map dimension_count l)) b.1
    ∙ ap (λ l. dimension_count v ∷ l) (take_held vs (vs ++ b.0) (b.0, refl))

dimensions_are : (chain : List Variable) (hs : List Held) → AreLinked chain hs
    → M.dimensions_with (map dimension_count chain) (map member_held hs) ≡ map (λ h. length (V.all_dimensions h)) hs
dimensions_are chain [] l = refl
dimensions_are chain (h ∷ hs) l =
    let own = dimension_count h.variable in
    let taken = take_held h.above chain l.0 in
    let mapped : map dimension_count h.above ++ own ∷ [] ≡ map dimension_count (h.above ++ h.variable ∷ []) =
    sym (map-append dimension_count h.above (h.variable ∷ [])) in
    ap (λ t. (sum t + own) ∷ M.dimensions_with (t ++ own ∷ []) (map member_held hs)) taken
    ∙ (ap (λ n. n ∷ M.dimensions_with (map dimension_count h.above ++ own ∷ []) (map member_held hs)) (all_lengths h)
    ∙ (ap (λ t. length (V.all_dimensions h) ∷ M.dimensions_with t (map member_held hs)) mapped
    ∙ ap (λ ns. length (V.all_dimensions h) ∷ ns) (dimensions_are (h.above ++ h.variable ∷ []) hs l.1)))

pub structure_dimensions : (all : List Held) → IsStructure all
    → M.all_dimensions (map member_held all) ≡ map (λ h. length (V.all_dimensions h)) all
structure_dimensions all s = dimensions_are [] all (structure_linked all s)

pub mapped_at : {X Z : Type 0} (f : X → Z) (xs : List X) (i : ℕ) (x : X) → slice_get xs i ≡ Some x
    → slice_get (map f xs) i ≡ Some (f x)
mapped_at f [] i x e = absurd (cc e)
mapped_at f (y ∷ ys) zero x e = ap (λ z. Some (f z)) (same_some y x e)
mapped_at f (y ∷ ys) (suc i) x e = mapped_at f ys i x e
