-- What it means to designate a member of what a pointer variable points to.
use Rattle.std.proofs.Common.{◌≡◌, ℕ, List, [], map, None, Some, ap, ◌∙◌}
use Rattle.std.proofs.lemmas.Option.{slice_get-map}
use Rattle.std.specs.Prelude.{ℤ, option_map, slice_get, take, unwrap_or}
use Rattle.pli_typing.specs.Signatures.{Leaf}
use Rattle.pli_typing.specs.TypedTree as Y
use Rattle.pli_meaning.specs.BasicValues.{BasicValue, Name}
use Rattle.pli_meaning.specs.Contents.{Generation, is_within, name_in}
use Rattle.pli_meaning.specs.Control.{Meaning, Normal, choose, flow_on, give, given, looked, stuck, ◌>>=◌, ◌>>◌}
use Rattle.pli_meaning.specs.DeclaredShapes.{declared_variable, kind_of, leaf_of, shape_of}
use Rattle.pli_meaning.specs.Evaluating as V
use Rattle.pli_meaning.specs.Raising as R
use Rattle.pli_meaning.specs.Raising.{Around}
use Rattle.pli_meaning.specs.StorageState.{State, named}
use Rattle.pli_meaning.specs.Unreachable.{unreachable_leaf}
use Rattle.expression_runs.specs.Variables.{Spot}
use Rattle.area_runs.specs.Based.{based_of}
use Rattle.area_runs.proofs.BasedMeaning.{Points, pointer_designated}
use Rattle.member_runs.specs.Members.{IsMember, member_of, member_part, structure_declared, structure_shape}

abbrev pub structure_of : List Y.Member → List Y.Leaf → ℤ → (ℕ → List ℤ → BasicValue) → Generation
structure_of members leaves z values =
    record { shape = structure_shape members leaves; extent = z; values = values }

-- a member's leaf in the signature
abbrev pub leaf_for : Y.LeafType → Leaf
leaf_for type = record { kind = kind_of [] type; bounds = [] }

pub leaf_got :
    {leaves : List Y.Leaf} {member : ℕ} {type : Y.LeafType} → IsMember leaves member type →
    slice_get (map (leaf_of []) leaves) member ≡ Some (leaf_for type)
leaf_got {leaves} {member} is = slice_get-map (leaf_of []) leaves member ∙ ap (option_map (leaf_of [])) is.there

pub leaf_is :
    {leaves : List Y.Leaf} {member : ℕ} {type : Y.LeafType} (members : List Y.Member) (z : ℤ) →
    IsMember leaves member type → V.leaf_at (structure_shape members leaves) z member ≡ leaf_for type
leaf_is members z is = ap (λ o. unwrap_or o unreachable_leaf) (leaf_got is)

-- a member by way of a pointer is designated by the name that this holds
pub through_is :
    (around : Around) {s : State} {x : Spot} (n : Spot) (members : List Y.Member) (leaves : List Y.Leaf)
    (member k : ℕ) (h : Points s x) →
    declared_variable around.program (based_of n) ≡ Some (structure_declared members leaves) →
    V.designated around (member_of x n member) k s
    ≡ V.part_designated around h.name (structure_shape members leaves) (member_part member) [] k s
unfolding V.designated V.located V.pointer V.numbers V.variable_designated given ◌>>=◌ ◌>>◌ give
through_is around {s} {x} n members leaves member k h declared =
    ap (λ q. flow_on k (flow_on k (flow_on k q (λ d. give (name_in (V.value_in d)))) (λ m. give (Some m)))
    (λ o. (V.numbers around Y.NoNumber)
    >>= (λ is. V.variable_designated around (based_of n) o (member_part member) is))) (pointer_designated around k h)
    ∙ ap (λ v. V.variable_designated around (based_of n) (Some (name_in v)) (member_part member) [] k s) h.value
    ∙ ap (λ o. given o (λ d. V.part_designated around h.name (shape_of [] d) (member_part member) []) stuck k s)
    declared

-- what is designated where the structure lives
abbrev pub designated_member :
    List Y.Member → List Y.Leaf → Name → ℤ → (ℕ → List ℤ → BasicValue) → (member : ℕ) → V.Designated
designated_member members leaves name z values member =
    record {
      name = name;
      generation = structure_of members leaves z values;
      extent = z;
      part = member_part member;
      subscripts = [];
    }

abbrev within_of : Around → V.Designated → Leaf → Meaning V.Designated
within_of around d l = (R.demanded around 102 (is_within (take 0 l.bounds) [])) >> (give d)

pub part_found :
    {leaves : List Y.Leaf} {member : ℕ} {type : Y.LeafType} (around : Around) (s : State) (n : Name)
    (members : List Y.Member) (z : ℤ) (values : ℕ → List ℤ → BasicValue) (k : ℕ) → IsMember leaves member type →
    named s n (structure_shape members leaves) ≡ Some (structure_of members leaves z values) →
    V.part_designated around n (structure_shape members leaves) (member_part member) [] k s
    ≡ Normal (designated_member members leaves n z values member) s
unfolding V.part_designated looked ◌>>=◌ ◌>>◌ R.or_error R.demanded choose give
part_found {leaves} {member} around s n members z values k is e =
    let shape = structure_shape members leaves in
    ap (λ o. flow_on k (R.or_error around 101 o k s)
    (λ g. (R.or_error around 107 (V.extent_in_force g (member_part member)))
    >>= (λ u. (R.demanded around 102 (is_within (take 0 (V.leaf_at shape u member).bounds) []))
    >> (give (record { name = n; generation = g; extent = u; part = member_part member; subscripts = [] }))))) e
    ∙ ap (λ l. within_of around (designated_member members leaves n z values member) l k s) (leaf_is members z is)

-- where it doesn't, ERROR is raised
abbrev pub behind_found : Around → List Y.Member → List Y.Leaf → (member : ℕ) → Name → Generation → Meaning V.Designated
behind_found around members leaves member n g =
    (R.or_error around 107 (V.extent_in_force g (member_part member)))
    >>= (λ z. (R.demanded around 102
    (is_within (take 0 (V.leaf_at (structure_shape members leaves) z member).bounds) []))
    >> (give (record { name = n; generation = g; extent = z; part = member_part member; subscripts = [] })))

pub part_missing :
    (around : Around) (s : State) (n : Name) (members : List Y.Member) (leaves : List Y.Leaf) (member k : ℕ) →
    named s n (structure_shape members leaves) ≡ None →
    V.part_designated around n (structure_shape members leaves) (member_part member) [] k s
    ≡ flow_on k (R.error {R = Generation} around 101 k s) (behind_found around members leaves member n)
unfolding V.part_designated looked ◌>>=◌ ◌>>◌ R.or_error
part_missing around s n members leaves member k e =
    ap (λ o. flow_on k (R.or_error around 101 o k s) (behind_found around members leaves member n)) e

-- the value that is seen
pub seen_is :
    {leaves : List Y.Leaf} {member : ℕ} {type : Y.LeafType} (members : List Y.Member) (name : Name) (z : ℤ)
    (values : ℕ → List ℤ → BasicValue) → IsMember leaves member type →
    (V.first_leaf (designated_member members leaves name z values member)).kind ≡ kind_of [] type
seen_is members name z values is = ap (λ l. l.kind) (leaf_is members z is)
