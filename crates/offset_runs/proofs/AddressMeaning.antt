-- What the offset in an area of what a pointer variable points to means.
use Rattle.std.proofs.Common.{◌≡◌, ℕ, ◌≤◌, List, [], ◌∷◌, None, Some, Option, Bool, true, false, refl, ap, ◌∙◌}
use Rattle.std.proofs.Common.{arith}
use Rattle.std.proofs.lemmas.Bool.Decides.{nat_tests}
use Rattle.std.specs.Prelude.{ℤ, cond, take, ◌==◌}
use Rattle.pli_typing.specs.Signatures.{Bounds}
use Rattle.pli_typing.specs.TypedTree as Y
use Rattle.pli_meaning.specs.BasicValues.{BasicValue, Name}
use Rattle.pli_meaning.specs.Contents.{Generation, IsOrdered, Placed, end_of, is_within, name_in, placed_at}
use Rattle.pli_meaning.specs.Control.{Meaning, Normal, choose, flow_on, give, given, looked, stuck, ◌>>=◌, ◌>>◌}
use Rattle.pli_meaning.specs.DeclaredShapes.{declared_variable, shape_of}
use Rattle.pli_meaning.specs.Evaluating as V
use Rattle.pli_meaning.specs.Evaluating.{offset_within}
use Rattle.pli_meaning.specs.Raising as R
use Rattle.pli_meaning.specs.Raising.{Around}
use Rattle.pli_meaning.specs.StorageState.{State, named, standing_for}
use Rattle.expression_runs.specs.Variables.{Spot, variable_of, whole}
use Rattle.variable_runs.specs.Known.{binding_for}
use Rattle.area_runs.specs.Based.{based_of}
use Rattle.area_runs.proofs.BasedMeaning.{Points, pointer_designated}
use Rattle.member_runs.specs.Members.{structure_declared, structure_shape}
use Rattle.member_runs.proofs.MemberMeaning.{structure_of}
use Rattle.offset_runs.specs.OffsetAddresses.{whole_structure}

-- all of what a pointer variable points to
abbrev pub all_of : (pointer based : Spot) → List Y.Leaf → Y.Reference
all_of p n leaves = Y.Referring (based_of n) (Y.LocatedBy (Y.PointerIn (whole p))) (whole_structure leaves) Y.NoNumber

-- it is designated by the name that the pointer holds
pub through_is :
    (around : Around) {s : State} {x : Spot} (n : Spot) (members : List Y.Member) (leaves : List Y.Leaf) (k : ℕ)
    (h : Points s x) → declared_variable around.program (based_of n) ≡ Some (structure_declared members leaves) →
    V.designated around (all_of x n leaves) k s
    ≡ V.part_designated around h.name (structure_shape members leaves) (whole_structure leaves) [] k s
unfolding V.designated V.located V.pointer V.numbers V.variable_designated given ◌>>=◌ ◌>>◌ give
through_is around {s} {x} n members leaves k h declared =
    ap (λ q. flow_on k (flow_on k (flow_on k q (λ d. give (name_in (V.value_in d)))) (λ m. give (Some m)))
    (λ o. (V.numbers around Y.NoNumber)
    >>= (λ is. V.variable_designated around (based_of n) o (whole_structure leaves) is))) (pointer_designated around
    k h)
    ∙ ap (λ v. V.variable_designated around (based_of n) (Some (name_in v)) (whole_structure leaves) [] k s) h.value
    ∙ ap (λ o. given o (λ d. V.part_designated around h.name (shape_of [] d) (whole_structure leaves) []) stuck k s)
    declared

none_of : (xs : List Bounds) → take 0 xs ≡ []
none_of [] = refl
none_of (x ∷ xs) = refl

abbrev designated_all : List Y.Member → List Y.Leaf → Name → ℤ → (ℕ → List ℤ → BasicValue) → V.Designated
designated_all members leaves name z values =
    record {
      name = name;
      generation = structure_of members leaves z values;
      extent = z;
      part = whole_structure leaves;
      subscripts = [];
    }

pub part_found :
    (around : Around) (s : State) (n : Name) (members : List Y.Member) (leaves : List Y.Leaf) (z : ℤ)
    (values : ℕ → List ℤ → BasicValue) (k : ℕ) →
    named s n (structure_shape members leaves) ≡ Some (structure_of members leaves z values) →
    V.part_designated around n (structure_shape members leaves) (whole_structure leaves) [] k s
    ≡ Normal (designated_all members leaves n z values) s
unfolding V.part_designated looked ◌>>=◌ ◌>>◌ R.or_error R.demanded choose give
part_found around s n members leaves z values k e =
    let shape = structure_shape members leaves in
    let part = whole_structure leaves in
    let d = designated_all members leaves n z values in
    ap (λ o. flow_on k (R.or_error around 101 o k s)
    (λ g. (R.or_error around 107 (V.extent_in_force g part))
    >>= (λ u. (R.demanded around 102 (is_within (take 0 (V.leaf_at shape u 0).bounds) []))
    >> (give (record { name = n; generation = g; extent = u; part = part; subscripts = [] }))))) e
    ∙ ap (λ (xs : List Bounds). ((R.demanded around 102 (is_within xs [])) >> (give d)) k s)
    (none_of (V.leaf_at shape z 0).bounds)

-- where nothing lives by it, ERROR is raised
abbrev pub behind_found : Around → List Y.Member → List Y.Leaf → Name → Generation → Meaning V.Designated
behind_found around members leaves n g =
    (R.or_error around 107 (V.extent_in_force g (whole_structure leaves)))
    >>= (λ z. (R.demanded around 102
    (is_within (take 0 (V.leaf_at (structure_shape members leaves) z 0).bounds) []))
    >> (give (record { name = n; generation = g; extent = z; part = whole_structure leaves; subscripts = [] })))

pub part_missing :
    (around : Around) (s : State) (n : Name) (members : List Y.Member) (leaves : List Y.Leaf) (k : ℕ) →
    named s n (structure_shape members leaves) ≡ None →
    V.part_designated around n (structure_shape members leaves) (whole_structure leaves) [] k s
    ≡ flow_on k (R.error {R = Generation} around 101 k s) (behind_found around members leaves n)
unfolding V.part_designated looked ◌>>=◌ ◌>>◌ R.or_error
part_missing around s n members leaves k e =
    ap (λ o. flow_on k (R.or_error around 101 o k s) (behind_found around members leaves n)) e

-- ---- its offset

-- in the area that a variable stands for
abbrev pub within_area : Around → (a : Spot) → Name → Meaning (Option ℕ)
within_area around a n =
    (V.area_meant around (variable_of a)) >>= (λ i. R.or_error around 110 (offset_within i n))

pub within_is :
    (around : Around) (a : Spot) (d : Y.DeclaredVariable) (serial k : ℕ) (s : State) (n : Name) →
    standing_for s (variable_of a) ≡ Some (binding_for a d serial) →
    within_area around a n k s ≡ R.or_error around 110 (offset_within serial n) k s
unfolding V.area_meant R.or_error looked give ◌>>=◌
within_is around a d serial k s n stands =
    ap (λ b. flow_on k (R.or_error around 101 (V.serial_of b) k s)
    (λ i. R.or_error around 110 (offset_within i n))) stands

pub outside_is :
    (around : Around) (k : ℕ) (s : State) (r : Option (Option ℕ)) → r ≡ None →
    R.or_error around 110 r k s ≡ R.error {R = Option ℕ} around 110 k s
unfolding R.or_error
outside_is around k s r e = ap (λ u. R.or_error around 110 u k s) e

pub inside_is :
    (around : Around) (k : ℕ) (s : State) (r : Option (Option ℕ)) (o : Option ℕ) → r ≡ Some o →
    R.or_error around 110 r k s ≡ Normal o s
unfolding R.or_error give
inside_is around k s r o e = ap (λ u. R.or_error around 110 u k s) e

-- ---- what lives in an area has an offset below its capacity

pub offset_below :
    (start capacity o : ℕ) (ps : List Placed) (g : Generation) → IsOrdered start capacity ps →
    placed_at ps o ≡ Some g → o ≤ capacity
offset_below start capacity o [] g h e = absurd (cc e)
offset_below start capacity o (p ∷ ps) g h e = by (p.offset == o) refl e (offset_below (end_of p) capacity o ps g h.3)
  where
    by :
        (q : Bool) → (p.offset == o) ≡ q → cond q (Some p.generation) (placed_at ps o) ≡ Some g →
        (placed_at ps o ≡ Some g → o ≤ capacity) → o ≤ capacity
    by true same f rest =
        let last = h.2 in
        let eq : p.offset ≡ o = grind (arith, nat_tests) in
        omega (arith, last, eq)
    by false other f rest = rest f
